-- The pads of a network of an accepted specification bear names as their roles ask.
use Rattle.std.proofs.Common.{◌≡◌, ℕ, true, List, [], ◌∷◌, ◌++◌, All, map, refl, sym, subst}
use Rattle.std.proofs.lemmas.List.Elements.{All-from_recursion, recursion_from_All}
use Rattle.std.specs.List.{AllByRecursion}
use Rattle.std.specs.Prelude.{IfSome, is_some}
use Rattle.rx_text.specs.Name.{is_name}
use Rattle.rx_text.specs.Role.{NamedRole, bears_name}
use Rattle.rx_text.specs.declared.pad_name.Role.TheVariants.{Input, Output}
use Rattle.switch_net.specs.Circuit.{Circuit}
use Rattle.switch_net.specs.Recognition.{HasPads, named_pad, pad_names}
use Rattle.switch_net.specs.declared.network.Pad.{Pad}
use Rattle.net_text.specs.NetworkText.{IsNamed}

-- a pad with this role and name is named as its role asks
abbrev BearsItsName : NamedRole → Type 0
BearsItsName pad = (bears_name pad.role ≡ is_some pad.name) × IfSome pad.name (λ name. is_name name ≡ true)

abbrev AreNames : List (List ℕ) → Type 0
AreNames names = AllByRecursion (λ name. is_name name ≡ true) names

output_pads : (outputs : List (List ℕ)) → AreNames outputs → AllByRecursion BearsItsName (map (named_pad Output) outputs)
output_pads [] names = tt
output_pads (name ∷ outputs) names = ((refl, names.0), output_pads outputs names.1)

line_pads : (lines outputs : List (List ℕ)) → AreNames lines → AreNames outputs
    → AllByRecursion BearsItsName (map (named_pad Input) lines ++ map (named_pad Output) outputs)
line_pads [] outputs inputs names = output_pads outputs names
line_pads (name ∷ lines) outputs inputs names = ((refl, inputs.0), line_pads lines outputs inputs.1 names)

all_pads : (lines outputs : List (List ℕ)) → AreNames lines → AreNames outputs → AllByRecursion BearsItsName (pad_names lines outputs)
all_pads lines outputs inputs names = ((refl, tt), ((refl, tt), ((refl, tt), ((refl, tt), ((refl, tt), line_pads lines outputs inputs names)))))

of_pads : (pads : List Pad) → AllByRecursion BearsItsName (map (λ pad. pad.name) pads) → AllByRecursion IsNamed pads
of_pads [] h = tt
of_pads (pad ∷ pads) h = (h.0, of_pads pads h.1)

-- the names of a specification's pads
pub all_names : (lines outputs : List (List ℕ)) → All (λ name. is_name name ≡ true) lines → All (λ name. is_name name ≡ true) outputs
    → AllByRecursion BearsItsName (pad_names lines outputs)
all_names lines outputs line_names output_names =
    all_pads lines outputs (recursion_from_All _ lines line_names) (recursion_from_All _ outputs output_names)

pub pads_named : (lines outputs : List (List ℕ)) → All (λ name. is_name name ≡ true) lines → All (λ name. is_name name ≡ true) outputs
    → (circuit : Circuit) → HasPads circuit lines outputs → All IsNamed circuit.pads
pads_named lines outputs line_names output_names circuit pads =
    All-from_recursion _ _ (of_pads circuit.pads (subst (AllByRecursion BearsItsName) (sym pads)
    (all_names lines outputs line_names output_names)))
