-- The register is clocked logic, and what its clock stores.
use Rattle.std.proofs.Common.{map, ◌≡◌, ◌↔◌, ℕ, zero, suc, ◌<◌, ◌==◌, if◌then◌else◌, Bool, true, false, not, ◌||◌, List, [], ◌∷◌, All, Contains, refl, ap, ◌∙◌, inl, inr, arith}
use Rattle.std.proofs.lemmas.List.Elements.{All-from_recursion, All-contains}
use Rattle.switch_net.proofs.LogicLaws.{settles_as_logic, logic_settles}
use Rattle.switch_net.specs.Clock.{first_bit, drives_of, Phase, Clock, Clocks}
use Rattle.switch_net.specs.ClockedLogic.{NetKind, is_fixed, IsLogicDevice, NamesBelow, IsClockedLogic, IsEvaluationOrder}
use Rattle.switch_net.specs.ClockedLogic.NetKind.{fixed, gate, stored}
use Rattle.switch_net.specs.Examples.{net_at, pads, register, RegisterStores, RegisterRuns, RegisterFollows}
use Rattle.switch_net.specs.Settling.{Values, HasLoad}
use Rattle.switch_net.specs.declared.network.Net.{Net}
use Rattle.switch_net.specs.declared.network.Device.{Device}
use Rattle.switch_net.specs.declared.network.Device.TheVariants.{Pass, Load}

-- two NOR gates, each with a storage node behind it
abbrev kind : ℕ → NetKind
kind net =
    if net == 6 then gate
    else (if net == 7 then stored 2 6 else (if net == 8 then gate else (if net == 9 then stored 3 8 else fixed)))

-- what holds of each of ten nets
ten : (P : ℕ → Type 0) → P 0 → P 1 → P 2 → P 3 → P 4 → P 5 → P 6 → P 7 → P 8 → P 9 → (net : ℕ) → net < 10 → P net
ten P a b c d e f g h i j zero below = a
ten P a b c d e f g h i j (suc zero) below = b
ten P a b c d e f g h i j (suc (suc zero)) below = c
ten P a b c d e f g h i j (suc (suc (suc zero))) below = d
ten P a b c d e f g h i j (suc (suc (suc (suc zero)))) below = e
ten P a b c d e f g h i j (suc (suc (suc (suc (suc zero))))) below = f
ten P a b c d e f g h i j (suc (suc (suc (suc (suc (suc zero)))))) below = g
ten P a b c d e f g h i j (suc (suc (suc (suc (suc (suc (suc zero))))))) below = h
ten P a b c d e f g h i j (suc (suc (suc (suc (suc (suc (suc (suc zero)))))))) below = i
ten P a b c d e f g h i j (suc (suc (suc (suc (suc (suc (suc (suc (suc zero))))))))) below = j
ten P a b c d e f g h i j (suc (suc (suc (suc (suc (suc (suc (suc (suc (suc net)))))))))) below = absurd (omega arith)

logic_devices : All (IsLogicDevice 1 kind) register.devices
logic_devices =
    All-from_recursion (IsLogicDevice 1 kind) register.devices
    (inl (refl, refl), (inl (refl, refl), (refl, (inr (refl, refl, inl refl), (inl (refl, refl), (refl, (inr (refl, refl, inl refl), tt)))))))

devices_below : All (NamesBelow 10) register.devices
devices_below =
    All-from_recursion (NamesBelow 10) register.devices (omega arith)

is_logic : IsClockedLogic register 1 kind
is_logic = record {
  grounded = inr (λ e. omega arith, inl (refl, refl));
  ground_below = omega arith;
  pads = ten (λ net. (is_fixed pads net ≡ true) ↔ (kind net ≡ fixed))
      (λ _. refl, λ _. refl) (λ _. refl, λ _. refl) (λ _. refl, λ _. refl) (λ _. refl, λ _. refl) (λ _. refl, λ _. refl)
      (λ _. refl, λ _. refl) (λ e. cc, λ e. cc) (λ e. cc, λ e. cc) (λ e. cc, λ e. cc) (λ e. cc, λ e. cc);
  devices = logic_devices;
  below = devices_below;
  loads = ten (λ net. kind net ≡ gate → HasLoad register.devices net)
      (λ e. absurd (cc)) (λ e. absurd (cc)) (λ e. absurd (cc)) (λ e. absurd (cc)) (λ e. absurd (cc)) (λ e. absurd (cc))
      (λ _. inl refl) (λ e. absurd (cc)) (λ _. inr (inl refl)) (λ e. absurd (cc));
  transfers = λ net clock source below e. ten
      (λ net. (clock source : ℕ) → kind net ≡ stored clock source
      → Contains register.devices (Pass (net_at clock) (net_at source) (net_at net)))
      (λ _ _ e. absurd (cc)) (λ _ _ e. absurd (cc)) (λ _ _ e. absurd (cc)) (λ _ _ e. absurd (cc)) (λ _ _ e. absurd (cc))
      (λ _ _ e. absurd (cc)) (λ _ _ e. absurd (cc)) (λ clock source e. (3, omega arith, cc)) (λ _ _ e. absurd (cc))
      (λ clock source e. (6, omega arith, cc))
      net below clock source e;
}

-- an input of a gate has a lower number than its output
abbrev InputIsLower : Device → Type 0
InputIsLower device = (input a : Net) → device ≡ Pass input a (net_at 1) → input.0 < a.0

ends : (control net other : ℕ) (input a b : Net) → Pass (net_at control) (net_at net) (net_at other) ≡ Pass input a b
    → (control ≡ input.0) × (net ≡ a.0) × (other ≡ b.0)
ends control net other input a b e =
    let first : net_at control ≡ input = cc in
    let second : net_at net ≡ a = cc in
    let third : net_at other ≡ b = cc in
    (ap (λ n. n.0) first, ap (λ n. n.0) second, ap (λ n. n.0) third)

pass_lower : (control net other : ℕ) → (other ≡ 1 → control < net) → InputIsLower (Pass (net_at control) (net_at net) (net_at other))
pass_lower control net other lower input a e =
    let parts = ends control net other input a (net_at 1) e in
    let less = lower parts.2 in
    omega arith

load_lower : (net : ℕ) → InputIsLower (Load (net_at net))
load_lower net input a e = absurd (cc)

inputs_lower : All InputIsLower register.devices
inputs_lower =
    All-from_recursion InputIsLower register.devices (
      pass_lower 5 6 1 (λ _. omega arith),
      (
        pass_lower 4 6 1 (λ _. omega arith),
        (
          load_lower 6,
          (
            pass_lower 2 6 7 (λ e. omega arith),
            (
              pass_lower 7 8 1 (λ _. omega arith),
              (
                load_lower 8,
                (pass_lower 3 8 9 (λ e. omega arith), tt),
              ),
            ),
          ),
        ),
      ),
    )

-- every net is its own level: gates and transfers lead from lower nets to higher ones
levelled : (drives : List Bool) → IsEvaluationOrder register 1 kind drives (λ net. net)
levelled drives = record {
  inputs = λ input a contained.
      All-contains InputIsLower register.devices (Pass input a (net_at 1)) inputs_lower contained input a refl;
  sources = λ net clock source below e _.
      ten (λ net. (clock source : ℕ) → kind net ≡ stored clock source → source < net)
      (λ _ _ e. absurd (cc)) (λ _ _ e. absurd (cc)) (λ _ _ e. absurd (cc)) (λ _ _ e. absurd (cc)) (λ _ _ e. absurd (cc))
      (λ _ _ e. absurd (cc)) (λ _ _ e. absurd (cc)) (λ clock source e. let is : 6 ≡ source = cc in omega arith)
      (λ _ _ e. absurd (cc)) (λ clock source e. let is : 8 ≡ source = cc in omega arith)
      net below clock source e;
}

-- ---- a clock

-- the values of the register in one phase
record Stage (phi1 phi2 reset x : Bool) (q v : Values) : Type 0 where
  nor : v 6 ≡ not (x || reset)
  taken : phi1 ≡ true → v 7 ≡ v 6
  first_held : phi1 ≡ false → v 7 ≡ q 7
  inverse : v 8 ≡ not (v 7)
  passed : phi2 ≡ true → v 9 ≡ v 8
  second_held : phi2 ≡ false → v 9 ≡ q 9

or-false : (b : Bool) → (b || false) ≡ b
or-false true = refl
or-false false = refl

not-not : (b : Bool) → not (not b) ≡ b
not-not true = refl
not-not false = refl

drives : Bool → Bool → Bool → List Bool → List Bool
drives phi1 phi2 reset lines = drives_of (record { phi1 = phi1; phi2 = phi2; reset = reset; lines = lines }) pads

stage : (phi1 phi2 reset : Bool) (lines : List Bool) (q v : Values) → Phase register reset lines phi1 phi2 q v
    → Stage phi1 phi2 reset (first_bit lines) q v
unfolding drives
stage phi1 phi2 reset lines q v s =
    let f = (settles_as_logic register 1 kind is_logic (drives phi1 phi2 reset lines) refl q v).0 s in
    let c1 = f.pads 2 phi1 (omega arith) refl in
    let c2 = f.pads 3 phi2 (omega arith) refl in
    let r = f.pads 4 reset (omega arith) refl in
    let line = f.pads 5 (first_bit lines) (omega arith) refl in
    record {
      nor = f.gates 6 (omega arith) refl ∙ rw (line, r) (ap (λ b. not (first_bit lines || b)) (or-false reset));
      taken = λ high. f.follows 7 2 6 (omega arith) refl (c1 ∙ high);
      first_held = λ low. f.held 7 2 6 (omega arith) refl (c1 ∙ low);
      inverse = f.gates 8 (omega arith) refl ∙ ap not (or-false (v 7));
      passed = λ high. f.follows 9 3 8 (omega arith) refl (c2 ∙ high);
      second_held = λ low. f.held 9 3 8 (omega arith) refl (c2 ∙ low);
    }

pub stores : RegisterStores
stores reset lines q v clock =
    let a = stage true false reset lines clock.changed clock.first clock.phi1_high in
    let b = stage false false reset lines clock.first clock.between clock.phi1_low in
    let c = stage false true reset lines clock.between clock.second clock.phi2_high in
    let d = stage false false reset lines clock.second v clock.phi2_low in
    let taken : clock.second 7 ≡ not (first_bit lines || reset) =
    c.first_held refl ∙ b.first_held refl ∙ a.taken refl ∙ a.nor in
    d.second_held refl ∙ c.passed refl ∙ c.inverse ∙ ap not taken ∙ not-not (first_bit lines || reset)

phase_settles : (phi1 phi2 reset : Bool) (lines : List Bool) (q : Values)
    → (v : Values) × Phase register reset lines phi1 phi2 q v
unfolding drives
phase_settles phi1 phi2 reset lines q =
    logic_settles register 1 kind is_logic (drives phi1 phi2 reset lines) refl (λ net. net)
    (levelled (drives phi1 phi2 reset lines)) q

clock_runs : (reset : Bool) (lines : List Bool) (q : Values) → (v : Values) × Clock register reset lines q v
clock_runs reset lines q =
    let changed = phase_settles false false reset lines q in
    let first = phase_settles true false reset lines changed.0 in
    let between = phase_settles false false reset lines first.0 in
    let second = phase_settles false true reset lines between.0 in
    let last = phase_settles false false reset lines second.0 in (
      last.0,
      record {
        changed = changed.0;
        first = first.0;
        between = between.0;
        second = second.0;
        settles = changed.1;
        phi1_high = first.1;
        phi1_low = between.1;
        phi2_high = second.1;
        phi2_low = last.1;
      },
    )

clocks_run : (q : Values) (u : List (List Bool)) → (vs : List Values) × Clocks register q u vs
clocks_run q [] = ([], tt)
clocks_run q (x ∷ u) =
    let clock = clock_runs false x q in
    let rest = clocks_run clock.0 u in
    (clock.0 ∷ rest.0, (clock.1, rest.1))

pub runs : RegisterRuns
runs q lines u =
    let clock = clock_runs true lines q in
    let rest = clocks_run clock.0 u in
    (clock.0 ∷ rest.0, (clock.1, rest.1))

or-true : (b : Bool) → (b || true) ≡ true
or-true true = refl
or-true false = refl

clocks_follow : (q : Values) (u : List (List Bool)) (vs : List Values) → Clocks register q u vs
    → map (λ v. v 9) vs ≡ map first_bit u
clocks_follow q [] [] h = refl
clocks_follow q [] (v ∷ vs) h = absurd h
clocks_follow q (x ∷ u) [] h = absurd h
clocks_follow q (x ∷ u) (v ∷ vs) h =
    let here = stores false x q v h.0 ∙ or-false (first_bit x) in
    let rest = clocks_follow v u vs h.1 in
    cc

pub follows : RegisterFollows
follows q lines u [] h = absurd h
follows q lines u (v ∷ vs) h =
    let here = stores true lines q v h.0 ∙ or-true (first_bit lines) in
    let rest = clocks_follow v u vs h.1 in
    cc
