-- The codes of wires.
use Rattle.std.proofs.Common.{◌≡◌, ◌⊎◌, inl, inr, ℕ, ◌<◌, ◌==◌, Bool, true, false, not, ◌||◌, List, length, flat_map, Option, None, sym, ◌∙◌, subst, refl}
use Rattle.std.specs.Bool.{Decides}
use Rattle.std.specs.List.{list_all}
use Rattle.std.proofs.lemmas.Bool.Decides.{Decides-eqb}
use Rattle.geom.specs.declared.point.Point.{Point}
use Rattle.geom.specs.declared.cif_code.CifCode.{CifCode}
use Rattle.geom.specs.declared.cif_code.CifCode.TheVariants.{C3, C7, C8, C9, C15}
use Rattle.geom.specs.CifCommands.{DrawsWire, command_parts}
use Rattle.geom.specs.CifDrawings.{CifState, scale_of}
use Rattle.geom.specs.CifShapes.{wire_segments, is_axis_segment}
use Rattle.geom.specs.CifCodes.{MeetsCode, SomeIs, IsTooGreat, part_numbers}
use Rattle.cif_codes.specs.declared.wires.WireChecks.{WireChecks}
use Rattle.cif_codes.specs.Wires.{IsOddWire, WireChecked}
use Rattle.cif_codes.specs.Least.{IsLeastCode}
use Rattle.cif_codes.specs.Verdicts.{first_code, shape_verdict}
use Rattle.cif_codes.proofs.PointCodes.{same_verdict}
use Rattle.cif_codes.proofs.Leasts.{first_is_least}

-- a flag that tells whether the wire is odd, whatever its numbers
record OddTold (w : ℕ) (points : List Point) : Type 0 where
  real : Bool
  tells : Decides real (IsOddWire w points)

told : (w : ℕ) (points : List Point) → OddTold w points
told w points = record { real = is_odd; tells = decides }
  where
    is_odd : Bool
    is_odd = (w == 0) || not (list_all is_axis_segment (wire_segments points))

    decides : Decides is_odd (IsOddWire w points)
    decides = by (w == 0) (list_all is_axis_segment (wire_segments points)) (Decides-eqb w 0)
      where
        by : (a b : Bool) → Decides a (w ≡ 0) → Decides (a || not b) ((w ≡ 0) ⊎ (b ≡ false))
        by true b d = (λ e. inl (d.0 refl), λ h. refl)
        by false true d = (λ e. absurd cc, λ h. elim h [ inl k ↦ d.1 k | inr k ↦ absurd cc ])
        by false false d = (λ e. inr refl, λ h. refl)

same_flag : (P : Type 0) (a b : Bool) → Decides a P → Decides b P → a ≡ b
same_flag P true b d e = sym (e.1 (d.0 refl))
same_flag P false true d e = absurd (let z : false ≡ true = d.1 (e.0 refl) in cc)
same_flag P false false d e = refl

pub wire_least : (s : CifState) (w : ℕ) (points : List Point) (found : WireChecks) (bare many : Bool) → Decides bare (s.layer ≡ None)
    → WireChecked (scale_of s.opening) w points found → Decides many (4096 < found.count)
    → IsLeastCode s (DrawsWire w points) (first_code (shape_verdict bare found.checks.off found.checks.far found.odd many))
wire_least s w points found bare many b h d =
    let P : Option CifCode → Type 0 = λ v. IsLeastCode s (DrawsWire w points) v in
    subst P (sym (same_verdict bare found.checks.off found.checks.far found.odd (told w points).real many same))
    (first_is_least s (DrawsWire w points) (shape_verdict bare found.checks.off found.checks.far (told w points).real many) by)
  where
    none : found.checks.far ≡ false → SomeIs IsTooGreat (flat_map part_numbers (command_parts (DrawsWire w points))) → ⊥
    none e g = let z : true ≡ false = sym (h.checked.far.1 (inl g)) ∙ e in cc

    same : found.checks.far ≡ false → found.odd ≡ (told w points).real
    same e = same_flag (IsOddWire w points) found.odd (told w points).real (h.odd (none e)) (told w points).tells

    counted : Decides many (4096 < length points)
    counted = let P : ℕ → Type 0 = λ n. Decides many (4096 < n) in subst P h.count d

    by : (code : CifCode) → Decides (shape_verdict bare found.checks.off found.checks.far (told w points).real many code) (MeetsCode code s (DrawsWire w points))
    by C3 = b
    by C7 = h.checked.off
    by C8 = h.checked.far
    by C9 = (told w points).tells
    by C15 = counted
    by code = (λ e. absurd cc, λ m. absurd m)
