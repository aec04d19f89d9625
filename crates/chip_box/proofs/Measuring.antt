-- What was measured so far, with one box or one call more.
use Rattle.std.proofs.Common.{◌≡◌, ◌≢◌, Option, Some, None, ℕ, ◌+◌, List, [], ◌∷◌, ◌++◌, length, map, take, get_or, zero, suc, ◌<◌, ◌≤◌, append_assoc, refl, sym, ap, ◌∙◌, arith}
use Rattle.std.specs.Prelude.{flat_map, slice_get, IsSome}
use Rattle.std.proofs.lemmas.List.{map-append, append-nil}
use Rattle.std.proofs.lemmas.List.Concat.{flat_map-append}
use Rattle.geom.specs.declared.chip.Call.{Call}
use Rattle.geom.specs.Squares.{BoxShape}
use Rattle.cif_write.specs.WrittenChips.{shifted, kind_at}
use Rattle.chip_box.specs.declared.extent.Extent.{Extent}
use Rattle.chip_box.specs.Extents.{IsExtent}

take_more : {X : Type 0} (xs : List X) (i : ℕ) (x d : X) → i < length xs → x ≡ get_or xs i d → take (i + 1) xs ≡ take i xs ++ x ∷ []
take_more [] i x d below is = absurd (omega arith)
take_more (y ∷ ys) zero x d below is = ap (λ z. z ∷ []) (sym is)
take_more (y ∷ ys) (suc i) x d below is =
    ap (λ (n : ℕ). take n (y ∷ ys)) (let e : suc i + 1 ≡ suc (i + 1) = omega arith in e)
    ∙ ap (λ l. y ∷ l) (take_more ys i x d (omega (arith, below)) is)

take_all : {X : Type 0} (xs : List X) (i : ℕ) → length xs ≤ i → take i xs ≡ xs
take_all [] zero low = refl
take_all [] (suc i) low = refl
take_all (y ∷ ys) zero low = absurd (omega arith)
take_all (y ∷ ys) (suc i) low = ap (λ l. y ∷ l) (take_all ys i (omega (arith, low)))

pub measured_more : (f : BoxShape → BoxShape) (measured boxes : List BoxShape) (i : ℕ) (b : BoxShape) → i < length boxes → b ≡ get_or boxes i b
    → (measured ++ map f (take i boxes)) ++ f b ∷ [] ≡ measured ++ map f (take (i + 1) boxes)
measured_more f measured boxes i b below is =
    append_assoc measured (map f (take i boxes)) (f b ∷ [])
    ∙ ap (λ l. measured ++ l) (sym (ap (map f) (take_more boxes i b b below is) ∙ map-append f (take i boxes) (b ∷ [])))

pub measured_all : (f : BoxShape → BoxShape) (measured boxes : List BoxShape) (i : ℕ) → length boxes ≤ i
    → measured ++ map f (take i boxes) ≡ measured ++ map f boxes
measured_all f measured boxes i low = ap (λ l. measured ++ map f l) (take_all boxes i low)

pub calls_more : (kinds : List (List BoxShape)) (calls : List Call) (i : ℕ) (call other : Call) (boxes : List BoxShape)
    → i < length calls → call ≡ get_or calls i other → slice_get kinds call.kind ≡ Some boxes
    → flat_map (λ call. kind_at call (slice_get kinds call.kind)) (take i calls) ++ map (shifted call.x call.y) boxes
    ≡ flat_map (λ call. kind_at call (slice_get kinds call.kind)) (take (i + 1) calls)
calls_more kinds calls i call other boxes below is found =
    let f : Call → List BoxShape = λ call. kind_at call (slice_get kinds call.kind) in
    let own : f call ≡ map (shifted call.x call.y) boxes = ap (kind_at call) found in
    sym (ap (flat_map f) (take_more calls i call other below is) ∙ flat_map-append f (take i calls) (call ∷ [])
    ∙ ap (λ l. flat_map f (take i calls) ++ l) (append-nil (f call) ∙ own))

pub calls_all : (kinds : List (List BoxShape)) (calls : List Call) (i : ℕ) → length calls ≤ i
    → flat_map (λ call. kind_at call (slice_get kinds call.kind)) (take i calls) ≡ flat_map (λ call. kind_at call (slice_get kinds call.kind)) calls
calls_all kinds calls i low = ap (flat_map (λ call. kind_at call (slice_get kinds call.kind))) (take_all calls i low)

-- where there are boxes, something was measured
pub some_extent : (boxes : List BoxShape) (o : Option Extent) → IsExtent boxes o → boxes ≢ [] → IsSome o
some_extent boxes None h some = absurd (some h)
some_extent boxes (Some e) h some = refl
