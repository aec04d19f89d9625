-- The loads of a switch network, net by net, are those of its gates, where no two gates have one output.
use Rattle.std.specs.Prelude.{flat_map}
use Rattle.std.proofs.Common.{◌≡◌, ◌⊎◌, inl, inr, ℕ, zero, suc, ◌+◌, ◌<◌, ◌≤◌, ◌==◌, ◌||◌, Bool, true, false, if◌then◌else◌, List, [], ◌∷◌, ◌++◌, map, refl, sym, ap, subst, ◌∙◌, append_assoc, arith}
use Rattle.std.specs.List.{AllByRecursion, range_with_len}
use Rattle.std.specs.List.Sorted.{IsPermutation}
use Rattle.std.proofs.lemmas.Bool.{eq-eqb, ne_eqb, cases_lt}
use Rattle.std.proofs.lemmas.List.Sorted.{IsPermutation-refl, IsPermutation-cons, IsPermutation-trans, IsPermutation-append_right, IsPermutation-append_left, IsPermutation-middle, IsPermutation-append_comm}
use Rattle.switch_net.specs.declared.network.Device.{Device}
use Rattle.switch_net.specs.declared.network.Device.TheVariants.{Load}
use Rattle.nor_net.specs.Netlist.{NorGate}
use Rattle.nor_net.specs.Evaluation.{is_output}
use Rattle.nor_net.specs.SwitchForm.{at, load_at, pull_downs}
use Rattle.pla_plan.specs.PlaneModules.{loaded_gate}
use Rattle.pla_plan.proofs.Pieces.{Pairs}

abbrev pub load : NorGate → Device
load gate = Load (at gate.out)

-- equal lists are permutations
pub same_list : {X : Type 0} (xs ys : List X) → xs ≡ ys → IsPermutation xs ys
same_list xs ys e = subst (IsPermutation xs) e (IsPermutation-refl xs)

abbrev Apart : NorGate → NorGate → Type 0
Apart a b = a.out ≡ b.out → ⊥

one_load : (b d : Bool) (net : ℕ) → b ≡ d → (if b then Load (at net) ∷ [] else []) ≡ (if d then Load (at net) ∷ [] else [])
one_load b d net e = ap (λ t. if t then Load (at net) ∷ [] else []) e

not_first : (b d : Bool) → b ≡ false → (b || d) ≡ d
not_first true d e = absurd (cc)
not_first false d e = refl

is_first : (b d : Bool) → b ≡ true → (b || d) ≡ true
is_first true d e = refl
is_first false d e = absurd (cc)

-- at another net the gate does nothing
elsewhere : (gate : NorGate) (gates : List NorGate) (net : ℕ) → (gate.out ≡ net → ⊥) → load_at (gate ∷ gates) net ≡ load_at gates net
elsewhere gate gates net h =
    one_load (gate.out == net || is_output gates net) (is_output gates net) net (not_first (gate.out == net) (is_output gates net) (ne_eqb gate.out net h))

behind : (gate : NorGate) (gates : List NorGate) (a n : ℕ) → gate.out < a
    → flat_map (load_at (gate ∷ gates)) (range_with_len a n) ≡ flat_map (load_at gates) (range_with_len a n)
behind gate gates a zero lt = refl
behind gate gates a (suc n) lt =
    ap (λ l. l ++ flat_map (load_at (gate ∷ gates)) (range_with_len (a + 1) n)) (elsewhere gate gates a (λ e. omega arith))
    ∙ ap (λ l. load_at gates a ++ l) (behind gate gates (a + 1) n (omega arith))

no_output : (gate : NorGate) (gates : List NorGate) → AllByRecursion (Apart gate) gates → is_output gates gate.out ≡ false
no_output gate [] h = refl
no_output gate (other ∷ gates) h =
    not_first (other.out == gate.out) (is_output gates gate.out) (ne_eqb other.out gate.out (λ e. h.0 (sym e))) ∙ no_output gate gates h.1

one_more : (gate : NorGate) (gates : List NorGate) (a n : ℕ) → a ≤ gate.out → gate.out < a + n → is_output gates gate.out ≡ false
    → IsPermutation (flat_map (load_at (gate ∷ gates)) (range_with_len a n)) (load gate ∷ flat_map (load_at gates) (range_with_len a n))
one_more gate gates a zero low high none = absurd (omega arith)
one_more gate gates a (suc n) low high none =
    by (cases_lt a gate.out) (λ l. one_more gate gates (a + 1) n (omega arith) (omega arith) none)
  where
    by : (a < gate.out) ⊎ (gate.out ≤ a)
        → (a < gate.out → IsPermutation (flat_map (load_at (gate ∷ gates)) (range_with_len (a + 1) n)) (load gate ∷ flat_map (load_at gates) (range_with_len (a + 1) n)))
        → IsPermutation (flat_map (load_at (gate ∷ gates)) (range_with_len a (suc n))) (load gate ∷ flat_map (load_at gates) (range_with_len a (suc n)))
    by (inl l) go =
        let rest = flat_map (load_at gates) (range_with_len (a + 1) n) in
        let more = flat_map (load_at (gate ∷ gates)) (range_with_len (a + 1) n) in
        let inner = go l in
        let same : load_at (gate ∷ gates) a ≡ load_at gates a = elsewhere gate gates a (λ e. omega arith) in
        IsPermutation-trans (load_at (gate ∷ gates) a ++ more) (load_at gates a ++ (load gate ∷ rest)) (load gate ∷ (load_at gates a ++ rest))
        (IsPermutation-trans (load_at (gate ∷ gates) a ++ more) (load_at gates a ++ more) (load_at gates a ++ (load gate ∷ rest))
        (same_list (load_at (gate ∷ gates) a ++ more) (load_at gates a ++ more) (ap (λ l. l ++ more) same))
        (IsPermutation-append_right (load_at gates a) more (load gate ∷ rest) inner))
        (IsPermutation-middle (load_at gates a) (load gate) rest)
    by (inr l) go =
        let rest = flat_map (load_at gates) (range_with_len (a + 1) n) in
        let more = flat_map (load_at (gate ∷ gates)) (range_with_len (a + 1) n) in
        let here : gate.out ≡ a = omega arith in
        let first : load_at (gate ∷ gates) a ≡ Load (at a) ∷ [] =
        one_load (gate.out == a || is_output gates a) true a (is_first (gate.out == a) (is_output gates a) (eq-eqb gate.out a here)) in
        let second : load_at gates a ≡ [] = one_load (is_output gates a) false a (ap (is_output gates) (sym here) ∙ none) in
        same_list (load_at (gate ∷ gates) a ++ more) (load gate ∷ (load_at gates a ++ rest))
        (ap (λ l. l ++ more) first
        ∙ ap (λ l. Load (at a) ∷ l) (behind gate gates (a + 1) n (omega arith))
        ∙ ap (λ net. Load (at net) ∷ rest) (sym here)
        ∙ ap (λ l. load gate ∷ (l ++ rest)) (sym second))

no_loads : (a n : ℕ) → flat_map (load_at []) (range_with_len a n) ≡ []
no_loads a zero = refl
no_loads a (suc n) = no_loads (a + 1) n

-- The loads are those of the gates.
pub loads_are : (gates : List NorGate) (n : ℕ) → Pairs Apart gates → AllByRecursion (λ (gate : NorGate). gate.out < n) gates
    → IsPermutation (flat_map (load_at gates) (range_with_len 0 n)) (map load gates)
loads_are [] n apart below = same_list (flat_map (load_at []) (range_with_len 0 n)) [] (no_loads 0 n)
loads_are (gate ∷ gates) n apart below =
    let lt = below.0 in
    IsPermutation-trans (flat_map (load_at (gate ∷ gates)) (range_with_len 0 n)) (load gate ∷ flat_map (load_at gates) (range_with_len 0 n))
    (load gate ∷ map load gates) (one_more gate gates 0 n (omega arith) (omega arith) (no_output gate gates apart.0))
    (IsPermutation-cons (load gate) (flat_map (load_at gates) (range_with_len 0 n)) (map load gates) (loads_are gates n apart.1 below.1))

-- Gates with their loads are the loads and then the gates.
pub loaded_are : (gnd : ℕ) (gates : List NorGate) → IsPermutation (flat_map (loaded_gate gnd) gates) (map load gates ++ flat_map (pull_downs gnd) gates)
loaded_are gnd [] = IsPermutation-refl []
loaded_are gnd (gate ∷ gates) =
    let own = pull_downs gnd gate in
    let loads = map load gates in
    let downs = flat_map (pull_downs gnd) gates in
    IsPermutation-cons (load gate) (own ++ flat_map (loaded_gate gnd) gates) (loads ++ (own ++ downs))
    (IsPermutation-trans (own ++ flat_map (loaded_gate gnd) gates) (own ++ (loads ++ downs)) (loads ++ (own ++ downs))
    (IsPermutation-append_right own (flat_map (loaded_gate gnd) gates) (loads ++ downs) (loaded_are gnd gates))
    (IsPermutation-trans (own ++ (loads ++ downs)) ((own ++ loads) ++ downs) (loads ++ (own ++ downs))
    (same_list (own ++ (loads ++ downs)) ((own ++ loads) ++ downs) (sym (append_assoc own loads downs)))
    (IsPermutation-trans ((own ++ loads) ++ downs) ((loads ++ own) ++ downs) (loads ++ (own ++ downs))
    (IsPermutation-append_left downs (own ++ loads) (loads ++ own) (IsPermutation-append_comm own loads))
    (same_list ((loads ++ own) ++ downs) (loads ++ (own ++ downs)) (append_assoc loads own downs)))))
