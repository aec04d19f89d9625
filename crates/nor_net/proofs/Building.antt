-- One more gate and one more net, as at the steps of the loops that build the switch form; and that its parts are a network.
use Rattle.std.specs.Prelude.{flat_map}
use Rattle.std.proofs.Common.{◌≡◌, inl, inr, ℕ, zero, suc, ◌+◌, ◌<◌, ◌==◌, ◌||◌, Bool, true, false, List, [], ◌∷◌, ◌++◌, append_assoc, length, take, slice_index_or, slice_set, refl, ap, sym, ◌∙◌, arith, eq-eqb, eqb-true}
use Rattle.std.specs.List.{range_with_len}
use Rattle.std.proofs.lemmas.Bool.{cases_Bool}
use Rattle.std.proofs.lemmas.List.{get_or-set_same, get_or-set_other, length-set}
use Rattle.std.proofs.lemmas.List.Folds.{list_any_more}
use Rattle.switch_net.specs.Validity.{IsNetwork}
use Rattle.switch_net.specs.declared.network.Device.{Device}
use Rattle.nor_net.specs.Netlist.{NorGate, Netlist, IsNetlist}
use Rattle.nor_net.specs.Evaluation.{is_output, value_at}
use Rattle.nor_net.specs.SwitchForm.{Lists, load_at, switch_form}
use Rattle.nor_net.proofs.FormLogic.{is_logic}

or_true : (b : Bool) → (b || true) ≡ true
or_true true = refl
or_true false = refl

or_false : (b : Bool) → (b || false) ≡ b
or_false true = refl
or_false false = refl

pub outputs_more : (gates : List NorGate) (i : ℕ) (g : NorGate) → i < length gates → slice_index_or gates i g ≡ g → (values : List Bool) (nets : ℕ)
    → Lists nets values (is_output (take i gates)) → Lists nets (slice_set values g.out true) (is_output (take (i + 1) gates))
outputs_more gates i g lt e values nets lists = (
  length-set values g.out true ∙ lists.0,
  λ net below.
      let more : is_output (take (i + 1) gates) net ≡ (is_output (take i gates) net || (g.out == net)) =
      list_any_more (λ (x : NorGate). x.out == net) gates i g lt ∙ rw e refl in
      elim (cases_Bool (g.out == net)) [
        | inl here ↦
            let same : g.out ≡ net = eqb-true _ _ here in
            let set : value_at (slice_set values g.out true) net ≡ true =
            rw same (get_or-set_same values net true false (omega (arith, lists.0, below))) in
            rw (more, here, set) (or_true (is_output (take i gates) net))
        | inr other ↦
            let set : value_at (slice_set values g.out true) net ≡ value_at values net =
            get_or-set_other values g.out net true false (λ f. let h = eq-eqb g.out net (sym f) in cc) in
            rw (more, other, set) (or_false (is_output (take i gates) net) ∙ lists.1 net below)
      ],
)

nets_next : (f : ℕ → List Device) (a n : ℕ)
    → flat_map f (range_with_len a (suc n)) ≡ flat_map f (range_with_len a n) ++ f (a + n)
nets_next f a zero = rw (add_zero a) (append_nil (f a))
  where
    add_zero : (a : ℕ) → a + 0 ≡ a
    add_zero a = omega arith

    append_nil : (xs : List Device) → xs ++ [] ≡ xs
    append_nil [] = refl
    append_nil (x ∷ xs) = ap (λ (rest : List Device). x ∷ rest) (append_nil xs)
nets_next f a (suc n) =
    let next : a + suc n ≡ a + 1 + n = omega arith in
    rw (next) (ap (λ (rest : List Device). f a ++ rest) (nets_next f (a + 1) n)
    ∙ sym (append_assoc (f a) (flat_map f (range_with_len (a + 1) n)) (f (a + 1 + n))))

pub loads_more : (gates : List NorGate) (net : ℕ) (devices : List Device) → devices ≡ flat_map (load_at gates) (range_with_len 0 net)
    → devices ++ load_at gates net ≡ flat_map (load_at gates) (range_with_len 0 (net + 1))
loads_more gates net devices e =
    let more : net + 1 ≡ suc net = omega arith in
    let same : 0 + net ≡ net = omega arith in
    rw (more, e) (sym (nets_next (load_at gates) 0 net ∙ rw same refl))

pub form_network : (netlist : Netlist) → IsNetlist netlist → IsNetwork (switch_form netlist)
form_network netlist valid = record {
  pads_below = valid.pads.pads_below;
  devices_below = (is_logic netlist valid).below;
  distinct = valid.pads.distinct;
  vdd = valid.pads.vdd;
  gnd = valid.pads.gnd;
  phi1 = valid.pads.phi1;
  phi2 = valid.pads.phi2;
  reset = valid.pads.reset;
}
