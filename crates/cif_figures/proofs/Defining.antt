-- Definitions that open.
use Rattle.std.proofs.Common.{◌≡◌, ◌≢◌, inl, inr, ℕ, ◌+◌, ◌-◌, ◌^◌, ◌≤◌, ◌<◌, ◌==◌, Bool, true, false, cond, ◌||◌, ℤ, pos, negsuc, List, [], ◌∷◌, flat_map, Option, Some, None, IsSome, refl, sym, ◌∙◌, ap, subst, arith}
use Rattle.std.specs.Bool.{Decides}
use Rattle.std.specs.Int.RustNames.{unsigned_abs}
use Rattle.std.proofs.Math.Nat.{pos_of_ne-zero}
use Rattle.std.proofs.lemmas.Bool.{cases_lt}
use Rattle.std.proofs.lemmas.Bool.Decides.{Decides-eqb}
use Rattle.std.proofs.lemmas.Int.{ints}
use Rattle.geom.specs.declared.point.Point.{Point}
use Rattle.geom.specs.declared.cif_code.CifCode.{CifCode}
use Rattle.geom.specs.declared.cif_code.CifCode.TheVariants.{C8}
use Rattle.geom.specs.CifCommands.{CifScale, CifCommand, Opens, command_parts, SpellsCommand, IsLegalCommand}
use Rattle.geom.specs.CifCodes.{SomeIs, IsTooGreat, part_numbers, is_defined}
use Rattle.geom.specs.CifDrawings.{CifState, scale_or_one}
use Rattle.cif_values.specs.declared.openings.Opening.{Opening}
use Rattle.cif_values.specs.Numbers.{StandsFor}
use Rattle.cif_values.specs.Values.{OpeningStands, ScaleStands}
use Rattle.cif_codes.specs.declared.scale.Scale.{Scale}
use Rattle.cif_codes.specs.Scales.{ratio, IsScale}
use Rattle.cif_codes.specs.Least.{IsLeastCode}
use Rattle.cif_kinds.specs.declared.kinds.CommandKind.TheVariants as kind
use Rattle.cif_values.specs.Parts.{PartsAt}
use Rattle.cif_figures.specs.Figures.{CommandOf, Leads, IsNumberFor}
use Rattle.cif_figures.specs.Openings.{opened_state, scale_by}
use Rattle.cif_figures.proofs.ByKind.{PartsLaw, is_opening, parts_of, spelled_of}
use Rattle.cif_figures.proofs.Simple.{leads_by}
use Rattle.cif_figures.proofs.Words.{word, number_word}

-- ---- a number and what stands for it

great_nat : (n : ℕ) → 2 ^ 40 < n → IsTooGreat (pos n)
great_nat n l = inl (omega (arith, ints, l))

not_great : (n : ℕ) → n ≤ 2 ^ 40 → IsTooGreat (pos n) → ⊥
not_great n l (inl g) = omega (arith, ints, l, g)
not_great n l (inr g) = omega (arith, ints, l, g)

great_abs : (v : ℤ) → IsTooGreat v → 2 ^ 40 < unsigned_abs v
great_abs (pos n) (inl g) = omega (arith, ints, g)
great_abs (pos n) (inr g) = absurd (omega (arith, ints, g))
great_abs (negsuc n) (inl g) = absurd (omega (arith, ints, g))
great_abs (negsuc n) (inr g) = omega (arith, ints, g)

pub stands_word : (m : ℕ) (z v : ℤ) → StandsFor m z v → word v ≡ v
stands_word m z v s = number_word v s.near

pub number_for : (m n : ℕ) (v : ℤ) → StandsFor m (pos n) v → IsNumberFor n (unsigned_abs v)
number_for m n v s = record { exact = λ l. ap unsigned_abs (s.exact (not_great n l)); great = λ l. great_abs v (s.great (great_nat n l)) }

few_nat : (n : ℕ) → (IsTooGreat (pos n) → ⊥) → n ≤ 2 ^ 40
few_nat n h = elim (cases_lt (2 ^ 40) n) [ inl l ↦ absurd (h (great_nat n l)) | inr l ↦ l ]

-- ---- a state with these flags

abbrev flag_state : Bool → Bool → ℕ → CifState
flag_state again nested n = record {
  symbols = cond again (record { number = n; boxes = []; chain = 0 } ∷ []) [];
  opening = cond nested (Some (record {
    symbol = record { number = n + 1; boxes = []; chain = 0 };
    scale = record { times = 1; per = 1 };
    outer = None;
  })) None;
  layer = None;
  drawing = record { strokes = []; labels = [] };
}

same_nat : (n : ℕ) → (n == n) ≡ true
same_nat n = (Decides-eqb n n).1 refl

next_nat : (n : ℕ) → (n + 1 == n) ≡ false
next_nat n = by (n + 1 == n) (Decides-eqb (n + 1) n)
  where
    by : (t : Bool) → Decides t (n + 1 ≡ n) → t ≡ false
    by true d = absurd (let e = d.0 refl in omega (arith, e))
    by false d = refl

flag_again : (again nested : Bool) (n : ℕ) → Decides again (is_defined (flag_state again nested n) n ≡ true)
flag_again true true n = (λ e. ap (λ (t : Bool). (t || false) || (n + 1 == n)) (same_nat n), λ e. refl)
flag_again true false n = (λ e. ap (λ (t : Bool). (t || false) || false) (same_nat n), λ e. refl)
flag_again false true n = (λ e. absurd cc, λ e. absurd (let z : false ≡ true = sym (next_nat n) ∙ e in cc))
flag_again false false n = (λ e. absurd cc, λ e. absurd cc)

flag_nested : (again nested : Bool) (n : ℕ) → Decides nested (IsSome (flag_state again nested n).opening)
flag_nested again true n = (λ e. refl, λ e. refl)
flag_nested again false n = (λ e. absurd cc, λ e. absurd cc)

-- ---- definitions that meet no code

-- the numbers of such a definition
pub record Defined (n : ℕ) (scale : Option CifScale) (opening : Opening) (found : Scale) : Type 0 where
  pub number_is : unsigned_abs (word opening.number) ≡ n
  pub few : n ≤ 2 ^ 40
  pub scale_is : ratio found ≡ scale_or_one scale
  pub in_range : IsScale found

none_great : (again nested : Bool) (n : ℕ) (scale : Option CifScale) → ((s : CifState) → Decides again (is_defined s n ≡ true)
    → Decides nested (IsSome s.opening)
    → IsLeastCode s (Opens n scale) None) → SomeIs IsTooGreat (flat_map part_numbers (command_parts (Opens n scale))) → ⊥
none_great again nested n scale h g = h (flag_state again nested n) (flag_again again nested n) (flag_nested again nested n) C8 (inl g)

abs_exact : (m n : ℕ) (v : ℤ) → StandsFor m (pos n) v → (IsTooGreat (pos n) → ⊥) → unsigned_abs v ≡ n
abs_exact m n v s h = ap unsigned_abs (s.exact h)

same_scale : (a b : CifScale) → a.times ≡ b.times → a.per ≡ b.per → a ≡ b
same_scale a b e f = λ i. record { times = e i; per = f i }

-- the scale that is found stands for the one that is written
scale_found : (m : ℕ) (scale : Option CifScale) (written : Option Point) (found : Scale) → ScaleStands m scale written
    → ratio found ≡ scale_by written
    → ((s : CifScale) → scale ≡ Some s → ((IsTooGreat (pos s.times) → ⊥) × (IsTooGreat (pos s.per) → ⊥)) × ((s.times ≢ 0) × (s.per ≢ 0)))
    → (ratio found ≡ scale_or_one scale) × IsScale found
scale_found m None None found h e f =
    let a : found.times ≡ 1 = ap (λ (s : CifScale). s.times) e in
    let b : found.per ≡ 1 = ap (λ (s : CifScale). s.per) e in
    (e, record { some_times = omega (arith, a); few_times = omega (arith, a); some_per = omega (arith, b); few_per = omega (arith, b) })
scale_found m None (Some q) found h e f = absurd h
scale_found m (Some s) None found h e f = absurd h
scale_found m (Some s) (Some q) found h e f =
    let k = f s refl in
    let x : unsigned_abs q.x ≡ s.times = abs_exact m s.times q.x h.0 k.0.0 in
    let y : unsigned_abs q.y ≡ s.per = abs_exact m s.per q.y h.1 k.0.1 in
    let a : found.times ≡ s.times = ap (λ (s : CifScale). s.times) e ∙ x in
    let b : found.per ≡ s.per = ap (λ (s : CifScale). s.per) e ∙ y in
    let c = few_nat s.times k.0.0 in
    let d = few_nat s.per k.0.1 in
    let t : 0 < s.times = pos_of_ne-zero k.1.0 in
    let u : 0 < s.per = pos_of_ne-zero k.1.1 in (
      same_scale (ratio found) s a b,
      record { some_times = omega (arith, a, t); few_times = omega (arith, a, c); some_per = omega (arith, b, u); few_per = omega (arith, b, d) },
    )

pub defined : (m n : ℕ) (scale : Option CifScale) (opening : Opening) (found : Scale) (again nested : Bool) (bytes : List ℕ)
    → OpeningStands m n scale opening
    → SpellsCommand (Opens n scale) bytes
    → ((s : CifState) → Decides again (is_defined s n ≡ true) → Decides nested (IsSome s.opening) → IsLeastCode s (Opens n scale) None)
    → ratio found ≡ scale_by opening.scale → Defined n scale opening found
defined m n scale opening found again nested bytes h sp none e =
    let g = none_great again nested n scale none in
    let k = scale_found m scale opening.scale found h.scale_is e (numbers scale g sp.0) in
    record {
      number_is = ap unsigned_abs (stands_word m (pos n) opening.number h.number_is) ∙ abs_exact m n opening.number h.number_is
          (λ i. g (first scale i));
      few = few_nat n (λ i. g (first scale i));
      scale_is = k.0;
      in_range = k.1;
    }
  where
    first : (scale : Option CifScale) → IsTooGreat (pos n) → SomeIs IsTooGreat (flat_map part_numbers (command_parts (Opens n scale)))
    first None i = inl i
    first (Some s) i = inl i

    inside : (t s : CifScale) → ◌≡◌ {A = Option CifScale} (Some t) (Some s) → t ≡ s
    inside t s e = cc

    numbers : (scale : Option CifScale) → (SomeIs IsTooGreat (flat_map part_numbers (command_parts (Opens n scale))) → ⊥)
        → IsLegalCommand (Opens n scale)
        → (s : CifScale) → scale ≡ Some s → ((IsTooGreat (pos s.times) → ⊥) × (IsTooGreat (pos s.per) → ⊥)) × ((s.times ≢ 0) × (s.per ≢ 0))
    numbers None g l s e = absurd cc
    numbers (Some t) g l s e =
        let f : t ≡ s = inside t s e in
        let P : CifScale → Type 0 = λ v. ((IsTooGreat (pos v.times) → ⊥) × (IsTooGreat (pos v.per) → ⊥)) × ((v.times ≢ 0) × (v.per ≢ 0)) in
        subst P f ((λ i. g (inr (inl i)), λ i. g (inr (inr (inl i)))), (l.0, l.1))

-- the state that it leads to
pub opening_leads : (s : CifState) (c : CifCommand) (n number : ℕ) (scale : Option CifScale) (found : CifScale) (r : Option CifCode)
    → c ≡ Opens n scale → r ≡ None
    → IsLeastCode s (Opens n scale) r → number ≡ n → found ≡ scale_or_one scale → Leads s c (λ place. opened_state s number found)
opening_leads s c n number scale found r e f h a b =
    leads_by s c (Opens n scale) r (λ place. opened_state s number found) e f h
    (λ place. ap (λ (v : ℕ). opened_state s v found) a ∙ ap (λ (v : CifScale). opened_state s n v) b)

-- the definition that stands in a text
pub opened_by : (text : List ℕ) (first end : ℕ) (k : CommandOf text first end kind.Opens) (opening : Opening) (found : Scale)
    (again nested : Bool) (r : Option CifCode)
    → PartsLaw → ((stop n : ℕ) (scale : Option CifScale) → PartsAt text first stop (command_parts (Opens n scale))
    → OpeningStands 400 n scale opening)
    → ((s : CifState) (m n : ℕ) (scale : Option CifScale) → OpeningStands m n scale opening → Decides again (is_defined s n ≡ true)
    → Decides nested (IsSome s.opening)
    → IsLeastCode s (Opens n scale) r)
    → r ≡ None → ratio found ≡ scale_by opening.scale
    → Defined (is_opening k.stands.here.command k.kind_is).0 (is_opening k.stands.here.command k.kind_is).1 opening found
opened_by text first end k opening found again nested r law here code f e =
    let o = is_opening k.stands.here.command k.kind_is in
    let p = parts_of text first end kind.Opens k (Opens o.0 o.1) o.2 tt law in
    let h = here (end - 1) o.0 o.1 p in
    defined 400 o.0 o.1 opening found again nested k.stands.here.bytes h (spelled_of text first end kind.Opens k (Opens o.0 o.1) o.2)
    (λ s a n. (let Q : Option CifCode → Type 0 = λ v. IsLeastCode s (Opens o.0 o.1) v in subst Q f (code s 400 o.0 o.1 h a n))) e
