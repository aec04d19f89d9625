-- Symbols behind one another.
use Rattle.std.proofs.Common.{◌≡◌, ◌≢◌, ℕ, zero, suc, ◌+◌, ◌<◌, ◌≤◌, List, [], ◌∷◌, ◌++◌, length, get_or, map, refl, sym, ◌∙◌, ap, subst, append_assoc, length-append, arith}
use Rattle.std.specs.List.{fold}
use Rattle.std.proofs.lemmas.List.Sums.{fold-append}
use Rattle.geom.specs.Squares.{BoxShape}
use Rattle.geom.specs.Rows.{Among}
use Rattle.geom.specs.CifDrawings.{CifSymbol}
use Rattle.cif_drawing.specs.Shapes.{InkShape, Drawn, Called}
use Rattle.cif_drawing.specs.declared.ink.Symbol.{Symbol}
use Rattle.cif_drawing.specs.Placements.{placed}
use Rattle.cif_drawing.specs.Measures.{IsMeasure}
use Rattle.cif_drawing.specs.Inks.{symbol_at, ink_boxes, ink_chain, inks_boxes, cif_symbol, with_symbol, closed_symbols, IsInk, IsInkOf, IsSymbol, AreSymbols}
use Rattle.cif_drawing.proofs.Lists.{flat_map_alike}

-- ---- more symbols behind

at_left : (closed more : List CifSymbol) (k : ℕ) → k < length closed → symbol_at (closed ++ more) k ≡ symbol_at closed k
at_left [] more k h = absurd (omega arith)
at_left (c ∷ cs) more zero h = refl
at_left (c ∷ cs) more (suc k) h = at_left cs more k (omega arith)

pub ink_stays : (closed more : List CifSymbol) (ink : InkShape) → IsInk closed ink → ink_boxes (closed ++ more) ink ≡ ink_boxes closed ink
ink_stays closed more (Drawn boxes) h = refl
ink_stays closed more (Called call) h =
    ap (λ (s : CifSymbol). map (placed call.placement) s.boxes) (at_left closed more call.symbol h.before)

pub chain_stays : (closed more : List CifSymbol) (ink : InkShape) → IsInk closed ink → ink_chain (closed ++ more) ink ≡ ink_chain closed ink
chain_stays closed more (Drawn boxes) h = refl
chain_stays closed more (Called call) h = ap (λ (s : CifSymbol). s.chain + 1) (at_left closed more call.symbol h.before)

pub is_ink_still : (closed more : List CifSymbol) (ink : InkShape) → IsInk closed ink → IsInk (closed ++ more) ink
is_ink_still closed more (Drawn boxes) h = h
is_ink_still closed more (Called call) h = record {
  before = omega (arith, h.before, length-append closed more);
  draws = (let P : CifSymbol → Type 0 = λ s. s.boxes ≢ [] in subst P (sym (at_left closed more call.symbol h.before)) h.draws);
  near = h.near;
}

pub ink_of_still : (closed more : List CifSymbol) (chain : ℕ) (ink : InkShape) → IsInkOf closed chain ink → IsInkOf (closed ++ more) chain ink
ink_of_still closed more chain ink h = record {
  ink = is_ink_still closed more ink h.ink;
  short = omega (arith, h.short, chain_stays closed more ink h.ink);
}

pub inks_stay : (closed more : List CifSymbol) (inks : List InkShape) → ((ink : InkShape) → Among inks ink → IsInk closed ink)
    → inks_boxes (closed ++ more) inks ≡ inks_boxes closed inks
inks_stay closed more inks h = flat_map_alike (ink_boxes (closed ++ more)) (ink_boxes closed) inks (λ ink i. ink_stays closed more ink (h ink i))

pub symbol_still : (closed more : List CifSymbol) (s : Symbol) → IsSymbol closed s → IsSymbol (closed ++ more) s
symbol_still closed more s h = record {
  inks = λ ink i. ink_of_still closed more s.chain ink (h.inks ink i);
  short = h.short;
  measure = (let P : List BoxShape → Type 0 = λ l. IsMeasure s.chain s.measure l in
      subst P (sym (inks_stay closed more s.inks.items (λ ink i. (h.inks ink i).ink))) h.measure);
}

pub cif_symbol_stays : (closed more : List CifSymbol) (s : Symbol) → IsSymbol closed s → cif_symbol (closed ++ more) s ≡ cif_symbol closed s
cif_symbol_stays closed more s h =
    ap (λ (l : List BoxShape). record { number = s.number; boxes = l; chain = s.chain }) (inks_stay closed more s.inks.items (λ ink i. (h.inks ink i).ink))

-- ---- those before stay in front

pub front_stays : (closed : List CifSymbol) (ss : List Symbol) → (more : List CifSymbol) × (fold with_symbol closed ss ≡ closed ++ more)
front_stays closed [] = ([], sym (append_nil closed))
  where
    append_nil : {X : Type 0} (xs : List X) → xs ++ [] ≡ xs
    append_nil [] = refl
    append_nil (x ∷ xs) = ap (λ l. x ∷ l) (append_nil xs)
front_stays closed (s ∷ ss) =
    let f = front_stays (with_symbol closed s) ss in
    (cif_symbol closed s ∷ f.0, f.1 ∙ append_assoc closed (cif_symbol closed s ∷ []) f.0)

pub one_more : (symbols : List Symbol) (s : Symbol) → closed_symbols (symbols ++ s ∷ []) ≡ with_symbol (closed_symbols symbols) s
one_more symbols s = fold-append with_symbol [] symbols (s ∷ [])

pub length_closed : (closed : List CifSymbol) (ss : List Symbol) → length (fold with_symbol closed ss) ≡ length closed + length ss
length_closed closed [] = omega arith
length_closed closed (s ∷ ss) = omega (arith, length_closed (with_symbol closed s) ss, length-append closed (cif_symbol closed s ∷ []))

pub symbols_more : (closed : List CifSymbol) (ss : List Symbol) (s : Symbol) → AreSymbols closed ss → IsSymbol (fold with_symbol closed ss) s → AreSymbols closed (ss ++ s ∷ [])
symbols_more closed [] s h k = (k, tt)
symbols_more closed (r ∷ rs) s h k = (h.0, symbols_more (with_symbol closed r) rs s h.1 k)

-- ---- the symbol at an index

-- how many symbols there have to be for it
abbrev pub ink_rank : InkShape → ℕ
ink_rank (Drawn boxes) = 0
ink_rank (Called call) = call.symbol + 1

rank_within : (closed : List CifSymbol) (ink : InkShape) → IsInk closed ink → ink_rank ink ≤ length closed
rank_within closed (Drawn boxes) h = omega arith
rank_within closed (Called call) h = omega (arith, h.before)

-- The symbol at this index, behind all symbols.
pub record StandsAt (all : List CifSymbol) (k : ℕ) (s : Symbol) : Type 0 where
  pub is : symbol_at all k ≡ cif_symbol all s
  pub symbol : IsSymbol all s
  pub below : (ink : InkShape) → Among s.inks.items ink → ink_rank ink ≤ k

at_behind : (closed : List CifSymbol) (c : CifSymbol) (more : List CifSymbol) → symbol_at ((closed ++ c ∷ []) ++ more) (length closed) ≡ c
at_behind [] c more = refl
at_behind (d ∷ ds) c more = at_behind ds c more

first_stands : (closed : List CifSymbol) (s : Symbol) (more : List CifSymbol) → IsSymbol closed s → StandsAt (with_symbol closed s ++ more) (length closed) s
first_stands closed s more h =
    let front : List CifSymbol = cif_symbol closed s ∷ more in
    let e : with_symbol closed s ++ more ≡ closed ++ front = append_assoc closed (cif_symbol closed s ∷ []) more in
    let P : List CifSymbol → Type 0 = λ l. IsSymbol l s in
    let Q : List CifSymbol → Type 0 = λ l. cif_symbol closed s ≡ cif_symbol l s in
    record {
      is = at_behind closed (cif_symbol closed s) more ∙ subst Q (sym e) (sym (cif_symbol_stays closed front s h));
      symbol = subst P (sym e) (symbol_still closed front s h);
      below = λ ink i. rank_within closed ink (h.inks ink i).ink;
    }

pub stands_at : (closed : List CifSymbol) (ss : List Symbol) (k : ℕ) (d : Symbol) → k < length ss → AreSymbols closed ss
    → StandsAt (fold with_symbol closed ss) (length closed + k) (get_or ss k d)
stands_at closed [] k d h a = absurd (omega arith)
stands_at closed (s ∷ ss) zero d h a =
    let f = front_stays (with_symbol closed s) ss in
    let P : List CifSymbol → Type 0 = λ l. StandsAt l (length closed) s in
    let Q : ℕ → Type 0 = λ n. StandsAt (fold with_symbol (with_symbol closed s) ss) n s in
    subst Q (omega arith) (subst P (sym f.1) (first_stands closed s f.0 a.0))
stands_at closed (s ∷ ss) (suc k) d h a =
    let Q : ℕ → Type 0 = λ n. StandsAt (fold with_symbol (with_symbol closed s) ss) n (get_or ss k d) in
    subst Q (omega (arith, length-append closed (cif_symbol closed s ∷ []))) (stands_at (with_symbol closed s) ss k d (omega arith) a.1)

pub symbol_stands : (symbols : List Symbol) (k : ℕ) (d : Symbol) → k < length symbols → AreSymbols [] symbols
    → StandsAt (closed_symbols symbols) k (get_or symbols k d)
symbol_stands symbols k d h a =
    let Q : ℕ → Type 0 = λ n. StandsAt (closed_symbols symbols) n (get_or symbols k d) in
    subst Q (omega arith) (stands_at [] symbols k d h a)
