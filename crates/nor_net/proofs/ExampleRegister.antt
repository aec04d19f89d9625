-- The register of the examples is a netlist, and what it shows.
use Rattle.std.proofs.Common.{◌≡◌, ◌≢◌, ◌⊎◌, inl, inr, ℕ, zero, suc, ◌<◌, true, false, [], ◌∷◌, get_or, All, AllPairs, refl, ap, arith}
use Rattle.std.proofs.lemmas.List.Elements.{All-from_recursion}
use Rattle.rx_text.specs.Role.{NamedRole}
use Rattle.rx_text.specs.declared.pad_name.Role.{Role}
use Rattle.rx_text.specs.declared.pad_name.Role.TheVariants.{Vdd, Gnd, Phi1, Phi2, Reset}
use Rattle.switch_net.specs.Validity.{AreDistinct, role_number}
use Rattle.switch_net.specs.Recognition.{plain_pad}
use Rattle.switch_net.specs.declared.network.Net.{Net}
use Rattle.switch_net.specs.declared.network.Pad.{Pad}
use Rattle.nor_net.specs.Netlist.{NorGate, place, IsGate, IsTransfer, IsOrder, IsNetlist}
use Rattle.nor_net.specs.Examples.{register_pads, eleven, register, RegisterShows}
use Rattle.nor_net.specs.SwitchForm.{at}
use Rattle.nor_net.specs.declared.gate.Transfer.{Transfer}

-- the roles of the pads ascend
pad_role : (k : ℕ) (d : Pad) → k < 7 → role_number (get_or register_pads k d).name.role ≡ k
pad_role zero d h = refl
pad_role (suc zero) d h = refl
pad_role (suc (suc zero)) d h = refl
pad_role (suc (suc (suc zero))) d h = refl
pad_role (suc (suc (suc (suc zero)))) d h = refl
pad_role (suc (suc (suc (suc (suc zero))))) d h = refl
pad_role (suc (suc (suc (suc (suc (suc zero)))))) d h = refl
pad_role (suc (suc (suc (suc (suc (suc (suc k))))))) d h = absurd (omega arith)

-- and so do their nets
pad_net : (k : ℕ) (d : Pad) → k < 6 → (get_or register_pads k d).net.0 ≡ k
pad_net zero d h = refl
pad_net (suc zero) d h = refl
pad_net (suc (suc zero)) d h = refl
pad_net (suc (suc (suc zero))) d h = refl
pad_net (suc (suc (suc (suc zero)))) d h = refl
pad_net (suc (suc (suc (suc (suc zero))))) d h = refl
pad_net (suc (suc (suc (suc (suc (suc k)))))) d h = absurd (omega arith)

net_by : (j : ℕ) (d : Pad) → j < 7 → (get_or register_pads j d).net.0 ≡ j ⊎ ((j ≡ 6) × ((get_or register_pads j d).net.0 ≡ 10))
net_by zero d h = inl refl
net_by (suc zero) d h = inl refl
net_by (suc (suc zero)) d h = inl refl
net_by (suc (suc (suc zero))) d h = inl refl
net_by (suc (suc (suc (suc zero)))) d h = inl refl
net_by (suc (suc (suc (suc (suc zero))))) d h = inl refl
net_by (suc (suc (suc (suc (suc (suc zero)))))) d h = inr (refl, refl)
net_by (suc (suc (suc (suc (suc (suc (suc k))))))) d h = absurd (omega arith)

pads_differ : AllPairs AreDistinct register_pads
pads_differ i j d l h = (
  λ e.
      let r = ap (λ (n : NamedRole). role_number n.role) e in
      let a = pad_role i d (omega arith) in
      let b = pad_role j d h in
      absurd (omega (arith, a, b, r)),
  λ e.
      let r = ap (λ (n : Net). n.0) e in
      let a = pad_net i d (omega arith) in
      elim (net_by j d h) [
        | inl b ↦ absurd (omega (arith, a, b, r))
        | inr b ↦ let c = b.1 in absurd (omega (arith, a, c, r))
      ],
)

-- each number below eleven stands at its place
number_at : (net d : ℕ) → net < 11 → get_or eleven net d ≡ net
number_at zero d h = refl
number_at (suc zero) d h = refl
number_at (suc (suc zero)) d h = refl
number_at (suc (suc (suc zero))) d h = refl
number_at (suc (suc (suc (suc zero)))) d h = refl
number_at (suc (suc (suc (suc (suc zero))))) d h = refl
number_at (suc (suc (suc (suc (suc (suc zero)))))) d h = refl
number_at (suc (suc (suc (suc (suc (suc (suc zero))))))) d h = refl
number_at (suc (suc (suc (suc (suc (suc (suc (suc zero)))))))) d h = refl
number_at (suc (suc (suc (suc (suc (suc (suc (suc (suc zero))))))))) d h = refl
number_at (suc (suc (suc (suc (suc (suc (suc (suc (suc (suc zero)))))))))) d h = refl
number_at (suc (suc (suc (suc (suc (suc (suc (suc (suc (suc (suc k))))))))))) d h = absurd (omega arith)

is_order : (clock : Role) → IsOrder register clock eleven
is_order clock = record {
  below = λ k d h. let e = number_at k d h in omega (arith, e, h);
  distinct = λ i j d l h e. let a = number_at i d (omega arith) in let b = number_at j d h in omega (arith, a, b, e, l);
  complete = λ net h. (net, h, number_at net net h);
  gates = All-from_recursion (λ (g : NorGate). All (λ input. place eleven input < place eleven g.out) g.inputs) register.gates (
    All-from_recursion (λ input. place eleven input < 6) (5 ∷ 4 ∷ []) (omega arith, (omega arith, tt)),
    (
      All-from_recursion (λ input. place eleven input < 8) (7 ∷ []) (omega arith, tt),
      (All-from_recursion (λ input. place eleven input < 10) (9 ∷ []) (omega arith, tt), tt),
    ),
  );
  transfers = All-from_recursion (λ (t : Transfer). t.clock ≡ clock → place eleven t.from < place eleven t.to) register.transfers
      (λ e. omega arith, (λ e. omega arith, tt));
}

one_input : (a out : ℕ) → a < 11 → AllPairs (λ (x y : ℕ). x ≢ y) (a ∷ [])
one_input a out h i j d l m = absurd (omega arith)

two_inputs : AllPairs (λ (x y : ℕ). x ≢ y) (5 ∷ 4 ∷ [])
two_inputs zero (suc zero) d l m e = omega (arith, e)
two_inputs zero zero d l m e = omega (arith, l)
two_inputs zero (suc (suc k)) d l m e = omega (arith, m)
two_inputs (suc i) j d l m e = omega (arith, l, m)

pub is_netlist : IsNetlist register
is_netlist = record {
  pads = record {
    pads_below = All-from_recursion (λ (pad : Pad). pad.net.0 < 11) register_pads
        (omega arith, (omega arith, (omega arith, (omega arith, (omega arith, (omega arith, (omega arith, tt)))))));
    devices_below = λ k d h. absurd (omega (arith, h));
    distinct = pads_differ;
    vdd = (0, record { name = plain_pad Vdd; net = at 0 }, omega arith, refl, refl);
    gnd = (1, record { name = plain_pad Gnd; net = at 1 }, omega arith, refl, refl);
    phi1 = (2, record { name = plain_pad Phi1; net = at 2 }, omega arith, refl, refl);
    phi2 = (3, record { name = plain_pad Phi2; net = at 3 }, omega arith, refl, refl);
    reset = (4, record { name = plain_pad Reset; net = at 4 }, omega arith, refl, refl);
  };
  few_inputs = omega arith;
  gates = All-from_recursion (IsGate register) register.gates (
    record {
      out_below = omega arith;
      inputs_below = All-from_recursion (λ input. input < 11) (5 ∷ 4 ∷ []) (omega arith, (omega arith, tt));
      distinct = two_inputs;
      free = refl;
    },
    (
      record {
        out_below = omega arith;
        inputs_below = All-from_recursion (λ input. input < 11) (7 ∷ []) (omega arith, tt);
        distinct = one_input 7 8 (omega arith);
        free = refl;
      },
      (
        record {
          out_below = omega arith;
          inputs_below = All-from_recursion (λ input. input < 11) (9 ∷ []) (omega arith, tt);
          distinct = one_input 9 10 (omega arith);
          free = refl;
        },
        tt,
      ),
    ),
  );
  transfers = All-from_recursion (IsTransfer register) register.transfers (
    record {
      clocked = inl refl;
      to_below = omega arith;
      driven = inl (0, record { out = 6; inputs = 5 ∷ 4 ∷ [] }, omega arith, refl, refl);
      no_gate = All-from_recursion (λ (g : NorGate). g.out ≢ 7) register.gates
          (λ e. omega (arith, e), (λ e. omega (arith, e), (λ e. omega (arith, e), tt)));
      no_pad = no_pad_on 7 (omega arith) (omega arith);
    },
    (
      record {
        clocked = inr refl;
        to_below = omega arith;
        driven = inl (1, record { out = 8; inputs = 7 ∷ [] }, omega arith, refl, refl);
        no_gate = All-from_recursion (λ (g : NorGate). g.out ≢ 9) register.gates
            (λ e. omega (arith, e), (λ e. omega (arith, e), (λ e. omega (arith, e), tt)));
        no_pad = no_pad_on 9 (omega arith) (omega arith);
      },
      tt,
    ),
  );
  one_transfer = two_targets;
  first_order = is_order Phi1;
  second_order = is_order Phi2;
}
  where
    no_pad_on : (net : ℕ) → 6 < net → net < 10 → All (λ (pad : Pad). pad.net.0 ≢ net) register_pads
    no_pad_on net l h k d m e =
        elim (net_by k d m) [
          | inl b ↦ absurd (omega (arith, b, e, l, m))
          | inr b ↦ let c = b.1 in absurd (omega (arith, c, e, h))
        ]

    two_targets : AllPairs (λ (a b : Transfer). a.to ≢ b.to) register.transfers
    two_targets zero (suc zero) d l m e = omega (arith, e)
    two_targets zero zero d l m e = omega (arith, l)
    two_targets zero (suc (suc k)) d l m e = omega (arith, m)
    two_targets (suc i) j d l m e = omega (arith, l, m)

pub shows : RegisterShows
shows true true = refl
shows true false = refl
shows false true = refl
shows false false = refl
