-- What stands in a symbol that is called.
use Rattle.std.proofs.Common.{◌≡◌, ℕ, ◌+◌, ◌-◌, ◌*◌, ◌^◌, ◌<◌, ◌≤◌, Bool, true, ◌&&◌, List, [], ◌∷◌, ◌++◌, length, get_or, take, map, Option, Some, None, IfSome, inl, inr, refl, sym, ◌∙◌, ap, subst, arith}
use Rattle.std.specs.List.{list_all, flat_map}
use Rattle.std.proofs.lemmas.List.{map-append, take_all}
use Rattle.std.proofs.lemmas.List.Folds.{list_all-append}
use Rattle.geom.specs.Squares.{BoxShape}
use Rattle.geom.specs.Rows.{Among}
use Rattle.geom.specs.CifDrawings.{CifSymbol}
use Rattle.cif_drawing.specs.declared.kept.Call.{Call}
use Rattle.cif_drawing.specs.Shapes.{InkShape, Drawn, Called, call_in, boxes_in}
use Rattle.cif_drawing.specs.declared.ink.Symbol.{Symbol}
use Rattle.cif_drawing.specs.declared.placement.Placement.{Placement}
use Rattle.cif_drawing.specs.declared.measure.Measure.{Measure}
use Rattle.cif_drawing.specs.Placements.{placed, IsNear}
use Rattle.cif_drawing.specs.Measures.{is_box, IsMeasure, IsNearExtent}
use Rattle.cif_drawing.specs.Inks.{symbol_at, ink_boxes, ink_chain, inks_boxes, closed_symbols, IsCall, IsInk, AreSymbols}
use Rattle.cif_drawing.proofs.Tests.{and_left, and_right}
use Rattle.cif_drawing.proofs.Near.{near_more, near_extent_more}
use Rattle.cif_drawing.proofs.Standing.{StandsAt, ink_rank, length_closed, symbol_stands}

-- ---- what it is known to be

pub is_called : (ink : InkShape) (call : Call) → Some call ≡ call_in ink → ink ≡ Called call
is_called (Drawn boxes) call e = absurd cc
is_called (Called other) call e = cc

pub is_drawn : (ink : InkShape) → None ≡ call_in ink → ink ≡ Drawn (boxes_in ink)
is_drawn (Drawn boxes) e = refl
is_drawn (Called call) e = absurd cc

-- ---- the symbol that is called

pub is_call : (closed : List CifSymbol) (ink : InkShape) (call : Call) → ink ≡ Called call → IsInk closed ink → IsCall closed call
is_call closed ink call e h = let P : InkShape → Type 0 = λ i. IsInk closed i in subst P e h

pub call_within : (symbols : List Symbol) (call : Call) → IsCall (closed_symbols symbols) call → call.symbol < length symbols
call_within symbols call h = omega (arith, h.before, length_closed [] symbols)

pub measure_near : (n : ℕ) (o : Option Measure) (boxes : List BoxShape) → n ≤ 64 → IsMeasure n o boxes → IfSome o (λ m. IsNearExtent 64 m.extent)
measure_near n None boxes h a = tt
measure_near n (Some m) boxes h a = near_extent_more n 64 m.extent h a.2

-- ---- boxes that are placed twice

all_of_part : (p : BoxShape → Bool) (f : BoxShape → BoxShape) (g : InkShape → List BoxShape) (inks : List InkShape) (i : InkShape)
    → list_all p (map f (flat_map g inks)) ≡ true → Among inks i → list_all p (map f (g i)) ≡ true
all_of_part p f g [] i h a = absurd a
all_of_part p f g (j ∷ js) i h (inl e) =
    let q : (list_all p (map f (g j)) && list_all p (map f (flat_map g js))) ≡ true =
    sym (list_all-append p (map f (g j)) (map f (flat_map g js))) ∙ (ap (list_all p) (sym (map-append f (g j) (flat_map g js))) ∙ h) in
    let P : InkShape → Type 0 = λ k. list_all p (map f (g k)) ≡ true in
    subst P e (and_left (list_all p (map f (g j))) (list_all p (map f (flat_map g js))) q)
all_of_part p f g (j ∷ js) i h (inr a) =
    let q : (list_all p (map f (g j)) && list_all p (map f (flat_map g js))) ≡ true =
    sym (list_all-append p (map f (g j)) (map f (flat_map g js))) ∙ (ap (list_all p) (sym (map-append f (g j) (flat_map g js))) ∙ h) in
    all_of_part p f g js i (and_right (list_all p (map f (g j))) (list_all p (map f (flat_map g js))) q) a

placed_twice : (c p r : Placement) (boxes : List BoxShape) → ((b : BoxShape) → placed r b ≡ placed p (placed c b))
    → map (placed r) boxes ≡ map (placed p) (map (placed c) boxes)
placed_twice c p r [] h = refl
placed_twice c p r (b ∷ bs) h =
    ap (λ (v : BoxShape). v ∷ map (placed r) bs) (h b) ∙ ap (λ (l : List BoxShape). placed p (placed c b) ∷ l) (placed_twice c p r bs h)

-- What is known where a call is followed: the symbol, and where it is placed.
pub record Follows (closed : List CifSymbol) (call : Call) (s : Symbol) (outer inner : Placement) : Type 0 where
  pub stands : StandsAt closed call.symbol s
  pub short : (symbol_at closed call.symbol).chain + 1 ≤ 64
  pub call_near : IsNear (2 ^ 103) call.placement.by
  pub outer_near : IsNear ((66 - ((symbol_at closed call.symbol).chain + 1)) * 2 ^ 103) outer.by
  pub within : list_all is_box (map (placed outer) (map (placed call.placement) (symbol_at closed call.symbol).boxes)) ≡ true
  pub near : (m n : ℕ) → IsNear m call.placement.by → IsNear n outer.by → IsNear (m + n) inner.by
  pub place : (b : BoxShape) → placed inner b ≡ placed outer (placed call.placement b)

-- What is then known of each thing in the symbol.
pub record Goes (closed : List CifSymbol) (k : ℕ) (inner : Placement) (it : InkShape) : Type 0 where
  pub rank : ink_rank it ≤ k
  pub ink : IsInk closed it
  pub short : ink_chain closed it ≤ 64
  pub near : IsNear ((66 - ink_chain closed it) * 2 ^ 103) inner.by
  pub within : list_all is_box (map (placed inner) (ink_boxes closed it)) ≡ true

pub boxes_followed : (closed : List CifSymbol) (call : Call) (s : Symbol) (outer inner : Placement) → Follows closed call s outer inner
    → map (placed inner) (inks_boxes closed s.inks.items) ≡ map (placed outer) (map (placed call.placement) (symbol_at closed call.symbol).boxes)
boxes_followed closed call s outer inner f =
    placed_twice call.placement outer inner (inks_boxes closed s.inks.items) f.place
    ∙ ap (λ (c : CifSymbol). map (placed outer) (map (placed call.placement) c.boxes)) (sym f.stands.is)

pub goes : (closed : List CifSymbol) (call : Call) (s : Symbol) (outer inner : Placement) (i : InkShape) → Follows closed call s outer inner
    → Among s.inks.items i → Goes closed call.symbol inner i
goes closed call s outer inner i f a =
    let of = f.stands.symbol.inks i a in
    let chain : (symbol_at closed call.symbol).chain ≡ s.chain = ap (λ (c : CifSymbol). c.chain) f.stands.is in
    record {
      rank = f.stands.below i a;
      ink = of.ink;
      short = omega (arith, of.short, f.stands.symbol.short);
      near =
          near_more (2 ^ 103 + (66 - ((symbol_at closed call.symbol).chain + 1)) * 2 ^ 103) ((66 - ink_chain closed i) * 2 ^ 103) inner.by
          (omega (arith, of.short, chain, f.short)) (f.near (2 ^ 103) ((66 - ((symbol_at closed call.symbol).chain + 1)) * 2 ^ 103) f.call_near f.outer_near);
      within = all_of_part is_box (placed inner) (ink_boxes closed) s.inks.items i (ap (list_all is_box) (boxes_followed closed call s outer inner f) ∙ f.within) a;
    }

-- one box of several
pub all_at : (p : BoxShape → Bool) (f : BoxShape → BoxShape) (boxes : List BoxShape) (b : BoxShape) → list_all p (map f boxes) ≡ true → Among boxes b → p (f b) ≡ true
all_at p f [] b h a = absurd a
all_at p f (c ∷ cs) b h (inl e) = ap (λ (v : BoxShape). p (f v)) (sym e) ∙ and_left (p (f c)) (list_all p (map f cs)) h
all_at p f (c ∷ cs) b h (inr a) = all_at p f cs b (and_right (p (f c)) (list_all p (map f cs)) h) a

-- ---- the measure of a call

item_stands : (symbols : List Symbol) (k : ℕ) (s : Symbol) → k < length symbols → s ≡ get_or symbols k s → AreSymbols [] symbols → StandsAt (closed_symbols symbols) k s
item_stands symbols k s h e a = let P : Symbol → Type 0 = λ r. StandsAt (closed_symbols symbols) k r in subst P (sym e) (symbol_stands symbols k s h a)

pub call_stands : (symbols : List Symbol) (call : Call) (s : Symbol) → IsCall (closed_symbols symbols) call → s ≡ get_or symbols call.symbol s → AreSymbols [] symbols
    → StandsAt (closed_symbols symbols) call.symbol s
call_stands symbols call s h e a = item_stands symbols call.symbol s (call_within symbols call h) e a

pub index_stands : (symbols : List Symbol) (k : ℕ) (s : Symbol) → k < length symbols → s ≡ get_or symbols k s → AreSymbols [] symbols
    → StandsAt (closed_symbols symbols) k s
index_stands symbols k s h e a = item_stands symbols k s h e a

pub measure_called : (closed : List CifSymbol) (ink : InkShape) (call : Call) (s : Symbol) (o : Option Measure) → ink ≡ Called call → StandsAt closed call.symbol s
    → ((n : ℕ) (boxes : List BoxShape) → IsMeasure n s.measure boxes → IsMeasure (n + 1) o (map (placed call.placement) boxes))
    → IsMeasure (ink_chain closed ink) o (ink_boxes closed ink)
measure_called closed ink call s o e h m =
    let P : InkShape → Type 0 = λ i. IsMeasure (ink_chain closed i) o (ink_boxes closed i) in
    let Q : CifSymbol → Type 0 = λ c. IsMeasure (c.chain + 1) o (map (placed call.placement) c.boxes) in
    subst P (sym e) (subst Q (sym h.is) (m s.chain (inks_boxes closed s.inks.items) h.symbol.measure))

-- ---- a call that is followed

pub follows : (symbols : List Symbol) (ink : InkShape) (call : Call) (s : Symbol) (outer inner : Placement) → ink ≡ Called call → AreSymbols [] symbols
    → IsInk (closed_symbols symbols) ink → ink_chain (closed_symbols symbols) ink ≤ 64
    → IsNear ((66 - ink_chain (closed_symbols symbols) ink) * 2 ^ 103) outer.by
    → list_all is_box (map (placed outer) (ink_boxes (closed_symbols symbols) ink)) ≡ true
    → s ≡ get_or symbols call.symbol s
    → ((m n : ℕ) → IsNear m call.placement.by → IsNear n outer.by → IsNear (m + n) inner.by)
    → ((b : BoxShape) → placed inner b ≡ placed outer (placed call.placement b)) → Follows (closed_symbols symbols) call s outer inner
follows symbols ink call s outer inner e a h short near within at more place =
    let closed : List CifSymbol = closed_symbols symbols in
    let k : IsCall closed call = is_call closed ink call e h in
    let P : InkShape → Type 0 = λ i. ink_chain closed i ≤ 64 in
    let Q : InkShape → Type 0 = λ i. IsNear ((66 - ink_chain closed i) * 2 ^ 103) outer.by in
    let R : InkShape → Type 0 = λ i. list_all is_box (map (placed outer) (ink_boxes closed i)) ≡ true in
    record {
      stands = call_stands symbols call s k at a;
      short = subst P e short;
      call_near = k.near;
      outer_near = subst Q e near;
      within = subst R e within;
      near = more;
      place = place;
    }

-- all boxes that are added
pub all_followed : (symbols : List Symbol) (ink : InkShape) (call : Call) (s : Symbol) (outer inner : Placement) (inks : List InkShape) (i : ℕ) (old new : List BoxShape)
    → ink ≡ Called call → Follows (closed_symbols symbols) call s outer inner → inks ≡ s.inks.items → length inks ≤ i
    → new ≡ old ++ map (placed inner) (inks_boxes (closed_symbols symbols) (take i inks))
    → new ≡ old ++ map (placed outer) (ink_boxes (closed_symbols symbols) ink)
all_followed symbols ink call s outer inner inks i old new e f same end h =
    let closed : List CifSymbol = closed_symbols symbols in
    h ∙ ap (λ (l : List BoxShape). old ++ l)
    (ap (λ (l : List InkShape). map (placed inner) (inks_boxes closed l)) (take_all i inks end ∙ same)
    ∙ (boxes_followed closed call s outer inner f ∙ ap (λ (v : InkShape). map (placed outer) (ink_boxes closed v)) (sym e)))
