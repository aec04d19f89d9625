-- The codes of definitions.
use Rattle.std.proofs.Common.{◌≡◌, inl, inr, ℕ, Bool, true, ◌||◌, ℤ, pos, List, [], ◌∷◌, flat_map, Option, Some, None, IsSome}
use mir.Syntax.{w64}
use mir.Val.{to_z, of_z}
use Rattle.std.specs.Bool.{Decides}
use Rattle.std.proofs.lemmas.Bool.{or_cases, or_left, or_right}
use Rattle.geom.specs.declared.cif_code.CifCode.{CifCode}
use Rattle.geom.specs.declared.cif_code.CifCode.TheVariants.{C5, C6, C8}
use Rattle.geom.specs.CifCommands.{CifScale, Opens, command_parts}
use Rattle.geom.specs.CifDrawings.{CifState}
use Rattle.geom.specs.CifCodes.{MeetsCode, SomeIs, IsTooGreat, part_numbers, is_defined}
use Rattle.geom.specs.declared.point.Point.{Point}
use Rattle.cif_values.specs.Numbers.{StandsFor}
use Rattle.cif_values.specs.Values.{ScaleStands}
use Rattle.cif_codes.specs.Least.{IsLeastCode}
use Rattle.cif_codes.specs.Verdicts.{first_code, opening_verdict}
use Rattle.cif_codes.proofs.Checking.{great_back, great_word}
use Rattle.cif_codes.proofs.Leasts.{first_is_least}

pub great_one : (m : ℕ) (z v : ℤ) (t : Bool) → StandsFor m z v → Decides t (IsTooGreat v) → Decides t (SomeIs IsTooGreat (z ∷ []))
great_one m z v t s d = (λ e. inl (great_back m z v s (d.0 e)), λ h. elim h [ inl a ↦ d.1 (s.great a) | inr b ↦ absurd b ])

pub great_more : (m : ℕ) (z v : ℤ) (zs : List ℤ) (t u : Bool) → StandsFor m z v → Decides t (IsTooGreat v) → Decides u (SomeIs IsTooGreat zs)
    → Decides (t || u) (SomeIs IsTooGreat (z ∷ zs))
great_more m z v zs t u s d k = (
  λ e. elim (or_cases t u e) [ inl a ↦ inl (great_back m z v s (d.0 a)) | inr b ↦ inr (k.0 b) ],
  λ h. elim h [ inl a ↦ or_left t u (d.1 (s.great a)) | inr b ↦ or_right t u (k.1 b) ],
)

pub opening_least : (s : CifState) (n : ℕ) (scale : Option CifScale) (again nested great : Bool) → Decides again (is_defined s n ≡ true)
    → Decides nested (IsSome s.opening) → Decides great (SomeIs IsTooGreat (flat_map part_numbers (command_parts (Opens n scale))))
    → IsLeastCode s (Opens n scale) (first_code (opening_verdict again nested great))
opening_least s n scale again nested great a o g = first_is_least s (Opens n scale) (opening_verdict again nested great) by
  where
    by : (code : CifCode) → Decides (opening_verdict again nested great code) (MeetsCode code s (Opens n scale))
    by C5 = a
    by C6 = o
    by C8 = (λ e. inl (g.0 e), λ h. elim h [ inl k ↦ g.1 k | inr k ↦ absurd k ])
    by code = (λ e. absurd cc, λ m. absurd m)

pub great_some : (m n : ℕ) (scale : Option CifScale) (q : Point) (v : ℤ) (g t p : Bool) → StandsFor m (pos n) v → ScaleStands m scale (Some q)
    → Decides g (IsTooGreat (to_z w64 (of_z w64 v))) → Decides t (IsTooGreat (to_z w64 (of_z w64 q.x))) → Decides p (IsTooGreat (to_z w64 (of_z w64 q.y)))
    → Decides (g || (t || p)) (SomeIs IsTooGreat (flat_map part_numbers (command_parts (Opens n scale))))
great_some m n None q v g t p s h dg dt dp = absurd h
great_some m n (Some scale) q v g t p s h dg dt dp =
    great_more m (pos n) v (pos scale.times ∷ pos scale.per ∷ []) g (t || p) s (great_word m (pos n) v g s dg)
    (great_more m (pos scale.times) q.x (pos scale.per ∷ []) t p h.0 (great_word m (pos scale.times) q.x t h.0 dt)
    (great_one m (pos scale.per) q.y p h.1 (great_word m (pos scale.per) q.y p h.1 dp)))

pub great_none : (m n : ℕ) (scale : Option CifScale) (v : ℤ) (g : Bool) → StandsFor m (pos n) v → ScaleStands m scale None → Decides g (IsTooGreat (to_z w64 (of_z w64 v)))
    → Decides g (SomeIs IsTooGreat (flat_map part_numbers (command_parts (Opens n scale))))
great_none m n None v g s h d = great_one m (pos n) v g s (great_word m (pos n) v g s d)
great_none m n (Some scale) v g s h d = absurd h
