-- The codes of layers, and of closes of definitions.
use Rattle.std.proofs.Common.{◌≡◌, inl, inr, ℕ, Bool, true, false, not, List, None, is_some, IsSome, refl}
use Rattle.std.specs.Bool.{Decides}
use Rattle.geom.specs.declared.cif_code.CifCode.{CifCode}
use Rattle.geom.specs.declared.cif_code.CifCode.TheVariants.{C2, C6, C8}
use Rattle.geom.specs.CifCommands.{SetsLayer, Closes}
use Rattle.geom.specs.CifLabels.{layer_named}
use Rattle.geom.specs.CifDrawings.{CifState}
use Rattle.geom.specs.CifCodes.{MeetsCode}
use Rattle.cif_codes.specs.Least.{IsLeastCode}
use Rattle.cif_codes.specs.Verdicts.{first_code, layer_verdict, closing_verdict}
use Rattle.cif_codes.proofs.Leasts.{first_is_least}

pub layer_least : (s : CifState) (name : List ℕ) (bare : Bool) → Decides bare (layer_named name ≡ None) → IsLeastCode s (SetsLayer name) (first_code (layer_verdict bare))
layer_least s name bare d = first_is_least s (SetsLayer name) (layer_verdict bare) by
  where
    by : (code : CifCode) → Decides (layer_verdict bare code) (MeetsCode code s (SetsLayer name))
    by C2 = d
    by C8 = (λ e. absurd cc, λ h. elim h [ inl k ↦ absurd k | inr k ↦ absurd k ])
    by code = (λ e. absurd cc, λ m. absurd m)

outside : (opened t : Bool) → Decides opened (t ≡ true) → Decides (not opened) (t ≡ false)
outside true true d = (λ e. absurd cc, λ e. absurd cc)
outside true false d = absurd (let e : false ≡ true = d.0 refl in cc)
outside false true d = absurd (let e : false ≡ true = d.1 refl in cc)
outside false false d = (λ e. refl, λ e. refl)

pub closing_least : (s : CifState) (opened : Bool) → Decides opened (IsSome s.opening) → IsLeastCode s Closes (first_code (closing_verdict (not opened)))
closing_least s opened d = first_is_least s Closes (closing_verdict (not opened)) by
  where
    by : (code : CifCode) → Decides (closing_verdict (not opened) code) (MeetsCode code s Closes)
    by C6 = outside opened (is_some s.opening) d
    by C8 = (λ e. absurd cc, λ h. elim h [ inl k ↦ absurd k | inr k ↦ absurd k ])
    by code = (λ e. absurd cc, λ m. absurd m)
