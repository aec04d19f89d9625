-- What is known of the commands so far: the scale, and which numbers are defined.
use Rattle.std.proofs.Common.{◌≡◌, inl, inr, ℕ, ◌^◌, ◌<◌, ◌≤◌, ◌==◌, ◌||◌, ◌&&◌, Bool, true, false, cond, List, [], ◌∷◌, Option, Some, None, IsSome, is_some, refl, sym, ◌∙◌, ap, subst, arith}
use Rattle.std.specs.List.{list_all, list_any, find}
use Rattle.std.specs.Bool.{Decides}
use Rattle.std.proofs.lemmas.Bool.{cases_lt, leb-true, ne_eqb, false_from_ne_true}
use Rattle.geom.specs.CifDrawings.{CifSymbol, scale_of, symbol_of}
use Rattle.geom.specs.CifCodes.{is_opened, is_defined}
use Rattle.cif_drawing.specs.Parts.{part_of}
use Rattle.cif_codes.specs.Scales.{ratio, IsScale}
use Rattle.cif_codes.specs.declared.scale.Scale.{Scale}
use Rattle.cif_figures.specs.Figures.{IsNumberFor, Draws}
use Rattle.cif_read.specs.declared.reader.Open.{Open}
use Rattle.cif_read.specs.declared.reader.Reader.{Reader}
use Rattle.cif_read.specs.States.{opening_of, state_of, is_few, AreOpen, IsReader}

-- ---- the definition that is open

pub scale_known : (o : Option CifSymbol) (p : Option Open) (q : Open) → AreOpen o p → p ≡ Some q
    → IsScale q.scale × (scale_of (opening_of o p) ≡ ratio q.scale)
scale_known None None q h e = absurd cc
scale_known None (Some r) q h e = absurd h
scale_known (Some s) None q h e = absurd h
scale_known (Some s) (Some r) q h e =
    let f : r ≡ q = cc in (subst (λ (v : Open). IsScale v.scale) f h.scale, ap (λ (v : Open). ratio v.scale) f)

pub scale_plain : (o : Option CifSymbol) (p : Option Open) → AreOpen o p → p ≡ None → scale_of (opening_of o p) ≡ record { times = 1; per = 1 }
scale_plain None None h e = refl
scale_plain None (Some r) h e = absurd h
scale_plain (Some s) None h e = absurd h
scale_plain (Some s) (Some r) h e = absurd cc

same_open : (o : Option CifSymbol) (p : Option Open) → AreOpen o p → is_some (opening_of o p) ≡ is_some p
same_open None None h = refl
same_open None (Some r) h = absurd h
same_open (Some s) None h = absurd h
same_open (Some s) (Some r) h = refl

pub open_decided : (o : Option CifSymbol) (p : Option Open) (t : Bool) → AreOpen o p → t ≡ is_some p → Decides t (IsSome (opening_of o p))
open_decided o p t h e = (λ yes. same_open o p h ∙ (sym e ∙ yes), λ some. e ∙ (sym (same_open o p h) ∙ some))

pub opened_known : (o : Option CifSymbol) (p : Option Open) (q : Open) (n : ℕ) → AreOpen o p → p ≡ Some q → (q.number == n) ≡ is_opened
    (opening_of o p) n
opened_known None None q n h e = absurd cc
opened_known None (Some r) q n h e = absurd h
opened_known (Some s) None q n h e = absurd h
opened_known (Some s) (Some r) q n h e = let f : r ≡ q = cc in ap (λ (v : Open). v.number == n) (sym f) ∙ ap (λ (k : ℕ). k == n) (sym h.number)

pub opened_none : (o : Option CifSymbol) (p : Option Open) (n : ℕ) → AreOpen o p → p ≡ None → false ≡ is_opened (opening_of o p) n
opened_none None None n h e = refl
opened_none None (Some r) n h e = absurd h
opened_none (Some s) None n h e = absurd h
opened_none (Some s) (Some r) n h e = absurd cc

pub not_open : (o : Option CifSymbol) (p : Option Open) → AreOpen o p → (IsSome (opening_of o p) → ⊥) → o ≡ None
not_open None None h shut = refl
not_open None (Some r) h shut = absurd h
not_open (Some s) None h shut = absurd h
not_open (Some s) (Some r) h shut = absurd (shut refl)

-- ---- the definitions that are closed

found_by : (p : CifSymbol → Bool) (xs : List CifSymbol) (x : CifSymbol) (t : Bool) → is_some (find p xs) ≡ list_any p xs
    → is_some (cond t (Some x) (find p xs)) ≡ (t || list_any p xs)
found_by p xs x true h = refl
found_by p xs x false h = h

pub found_any : (p : CifSymbol → Bool) (xs : List CifSymbol) → is_some (find p xs) ≡ list_any p xs
found_any p [] = refl
found_any p (x ∷ xs) = found_by p xs x (p x) (found_any p xs)

pub nothing_found : (p : CifSymbol → Bool) (xs : List CifSymbol) → (list_any p xs ≡ true → ⊥) → find p xs ≡ None
nothing_found p xs absent = none_of (find p xs) (found_any p xs ∙ false_from_ne_true (list_any p xs) absent)
  where
    none_of : (o : Option CifSymbol) → is_some o ≡ false → o ≡ None
    none_of None e = refl
    none_of (Some s) e = absurd cc

and_true : (a b : Bool) → (a && b) ≡ true → (a ≡ true) × (b ≡ true)
and_true true b e = (refl, e)
and_true false b e = absurd cc

-- no definition has a number that is too great
pub none_great : (xs : List CifSymbol) (n : ℕ) → list_all is_few xs ≡ true → 2 ^ 40 < n → find (λ symbol. symbol.number == n) xs ≡ None
none_great [] n few great = refl
none_great (x ∷ xs) n few great =
    let h = and_true (is_few x) (list_all is_few xs) few in
    let le : x.number ≤ 2 ^ 40 = leb-true x.number (2 ^ 40) h.0 in
    let ne : (x.number == n) ≡ false = ne_eqb x.number n (λ e. omega (arith, le, great, e)) in
    ap (λ (t : Bool). cond t (Some x) (find (λ symbol. symbol.number == n) xs)) ne ∙ none_great xs n h.1 great

not_opened : (o : Option CifSymbol) (p : Option Open) (n : ℕ) → AreOpen o p → 2 ^ 40 < n → is_opened (opening_of o p) n ≡ false
not_opened None None n h great = refl
not_opened None (Some r) n h great = absurd h
not_opened (Some s) None n h great = absurd h
not_opened (Some s) (Some r) n h great = ne_eqb s.number n (λ e. omega (arith, h.number, h.few, great, e))

great_undefined : (r : Reader) (n : ℕ) → IsReader r → 2 ^ 40 < n → is_defined (state_of r) n ≡ false
great_undefined r n h great =
    let f : list_any (λ symbol. symbol.number == n) r.builder.symbols ≡ false =
    sym (found_any (λ symbol. symbol.number == n) r.builder.symbols) ∙ ap is_some (none_great r.builder.symbols n h.few great) in
    ap (λ (t : Bool). t || is_opened (opening_of r.builder.opening r.opening) n) f ∙ not_opened r.builder.opening r.opening n h.opening great

-- the number that stands for another is defined where that one is
pub same_defined : (r : Reader) (n v : ℕ) → IsReader r → IsNumberFor n v → is_defined (state_of r) v ≡ is_defined (state_of r) n
same_defined r n v h for = elim (cases_lt (2 ^ 40) n) [
  | inl great ↦ great_undefined r v h (for.great great) ∙ sym (great_undefined r n h great)
  | inr few ↦ ap (is_defined (state_of r)) (for.exact few)
]

pub same_symbol : (r : Reader) (n v : ℕ) → IsReader r → IsNumberFor n v → part_of r.builder v ≡ symbol_of (state_of r) n
same_symbol r n v h for = elim (cases_lt (2 ^ 40) n) [
  | inl great ↦ none_great r.builder.symbols v h.few (for.great great) ∙ sym (none_great r.builder.symbols n h.few great)
  | inr few ↦ ap (λ (k : ℕ). part_of r.builder k) (for.exact few)
]

pub decided_by : (t : Bool) (b : Bool) → t ≡ b → Decides t (b ≡ true)
decided_by t b e = (λ yes. sym e ∙ yes, λ yes. e ∙ yes)

-- what draws in a state
pub draws_in : (r : Reader) (scale : Scale) → scale_of (state_of r).opening ≡ ratio scale → Draws (state_of r) (ratio scale) r.layer
draws_in r scale e = record { scale_is = e; layer_is = refl }
