-- The edges, from machine words.
use Rattle.std.proofs.Common.{◌≡◌, ◌≤◌, ◌^◌, ℤ, pos, ◌+ℤ◌, ◌-ℤ◌, ◌*ℤ◌, ◌∙◌, ap, arith}
use Rattle.std.specs.Int.RustNames.{unsigned_abs}
use Rattle.std.proofs.lemmas.Int.{unsigned_abs-mul}
use Rattle.cif_figures.proofs.Boxing.{lower_near, upper_near}
use Rattle.cif_figures.proofs.Words.{word, near_word, number_word}
use Rattle.cif_figures.proofs.boxes.edges.Goals as goal

twice_word : (u : ℤ) → unsigned_abs u ≤ 2 ^ 52 → word (pos 2 *ℤ word u) ≡ pos 2 *ℤ u
twice_word u h =
    ap (λ (z : ℤ). word (pos 2 *ℤ z)) (number_word u h)
    ∙ near_word (pos 2 *ℤ u) (let e = unsigned_abs-mul (pos 2) u in omega (arith, e, h))

lower_word : (u v : ℤ) → unsigned_abs u ≤ 2 ^ 52 → unsigned_abs v ≤ 2 ^ 52 → word (word (pos 2 *ℤ word u) -ℤ word v) ≡ pos 2 *ℤ u -ℤ v
lower_word u v h k =
    ap (λ (z : ℤ). word (z -ℤ word v)) (twice_word u h)
    ∙ (ap (λ (z : ℤ). word (pos 2 *ℤ u -ℤ z)) (number_word v k) ∙ near_word (pos 2 *ℤ u -ℤ v) (lower_near u v h k))

upper_word : (u v : ℤ) → unsigned_abs u ≤ 2 ^ 52 → unsigned_abs v ≤ 2 ^ 52 → word (word (pos 2 *ℤ word u) +ℤ word v) ≡ pos 2 *ℤ u +ℤ v
upper_word u v h k =
    ap (λ (z : ℤ). word (z +ℤ word v)) (twice_word u h)
    ∙ (ap (λ (z : ℤ). word (pos 2 *ℤ u +ℤ z)) (number_word v k) ∙ near_word (pos 2 *ℤ u +ℤ v) (upper_near u v h k))

pub returns : goal.returns
returns c = λ i. record {
  left = lower_word c.args.centre.x c.args.wide c.requires.centre.0 c.requires.wide i;
  bottom = lower_word c.args.centre.y c.args.high c.requires.centre.1 c.requires.high i;
  right = upper_word c.args.centre.x c.args.wide c.requires.centre.0 c.requires.wide i;
  top = upper_word c.args.centre.y c.args.high c.requires.centre.1 c.requires.high i;
}
