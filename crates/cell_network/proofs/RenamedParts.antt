-- The devices of a part on nets of the whole, from where each named net stands in the whole.
use Rattle.std.specs.Prelude.{flat_map}
use Rattle.std.proofs.Common.{◌≡◌, ℕ, List, [], ◌∷◌, map, refl, ◌∙◌}
use Rattle.std.specs.List.{AllByRecursion}
use Rattle.std.proofs.lemmas.List.{map-append}
use Rattle.switch_net.specs.Circuit.{renamed_device}
use Rattle.switch_net.specs.declared.network.Device.TheVariants.{Pass, Load}
use Rattle.nor_net.specs.SwitchForm.{at, pull_downs}
use Rattle.cell_network.specs.declared.numbering.Numbering.{Numbering}
use Rattle.cell_network.specs.declared.part_net.PartNet.{PartNet}
use Rattle.cell_network.specs.Shapes.{NamedGate, number, numbered}

module _ (f : ℕ → ℕ) (n m : Numbering) where
  -- the named net of the part stands there in the whole
  abbrev pub Agrees : PartNet → Type 0
  Agrees x = f (number n x) ≡ number m x

  pub record GateAgrees (g : NamedGate) : Type 0 where
    pub out : Agrees g.out
    pub inputs : AllByRecursion Agrees g.inputs

  module _ (low : ℕ) where
    gate_renamed : (out : PartNet) (inputs : List PartNet) → Agrees out → AllByRecursion Agrees inputs
        → map (renamed_device f) (map (λ (input : ℕ). Pass (at input) (at (number n out)) (at low)) (map (number n) inputs))
        ≡ map (λ (input : ℕ). Pass (at input) (at (number m out)) (at (f low))) (map (number m) inputs)
    gate_renamed out [] e h = refl
    gate_renamed out (x ∷ inputs) e h = rw (e, h.0, gate_renamed out inputs e h.1) refl

    pub gates_renamed : (gates : List NamedGate) → AllByRecursion GateAgrees gates
        → map (renamed_device f) (flat_map (pull_downs low) (map (numbered n) gates)) ≡ flat_map (pull_downs (f low)) (map (numbered m) gates)
    gates_renamed [] h = refl
    gates_renamed (g ∷ gates) h =
        map-append (renamed_device f) (pull_downs low (numbered n g)) (flat_map (pull_downs low) (map (numbered n) gates))
        ∙ rw (gate_renamed g.out g.inputs h.0.out h.0.inputs, gates_renamed gates h.1) refl

  pub loads_renamed : (gates : List NamedGate) → AllByRecursion GateAgrees gates
      → map (renamed_device f) (map (λ (net : ℕ). Load (at net)) (map (λ g. number n g.out) gates)) ≡ map (λ (net : ℕ). Load (at net)) (map (λ g. number m g.out) gates)
  loads_renamed [] h = refl
  loads_renamed (g ∷ gates) h = rw (h.0.out, loads_renamed gates h.1) refl
