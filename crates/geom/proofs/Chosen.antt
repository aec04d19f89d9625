-- The boxes of a layer, chosen one by one.
use Rattle.std.proofs.Common.{◌≡◌, ℕ, ◌<◌, ◌≤◌, ◌+◌, List, [], ◌∷◌, ◌++◌, inl, inr, length, take, get_or, refl, sym, arith, subst}
use Rattle.std.proofs.lemmas.Grind.{common_steps}
use Rattle.geom.specs.declared.layer.Layer.{Layer}
use Rattle.geom.specs.Squares.{BoxShape, IsBox}
use Rattle.geom.specs.Rows.{Among}
use Rattle.geom.specs.Wholes.{IsChosen}
use Rattle.geom.proofs.Lists.{among_push, among_left, among_right, taken_at}

pub chosen_none : (layer : Layer) → IsChosen [] layer []
chosen_none layer = record { boxes = λ b h. absurd h; layers = λ b h. absurd h; back = λ b h. absurd h; forth = λ b h e. absurd h }

chosen_push : (done : List BoxShape) (b : BoxShape) (layer : Layer) (chosen : List BoxShape) → IsBox b → b.layer ≡ layer
    → IsChosen done layer chosen → IsChosen (done ++ b ∷ []) layer (chosen ++ b ∷ [])
chosen_push done b layer chosen box e c =
    let P : BoxShape → Type 0 = λ v. IsBox v in
    let Q : BoxShape → Type 0 = λ v. v.layer ≡ layer in
    let R : BoxShape → Type 0 = λ v. Among (chosen ++ b ∷ []) v in
    let T : BoxShape → Type 0 = λ v. Among (done ++ b ∷ []) v in
    record {
      boxes = λ v k. elim (among_push chosen b v k) [ inl j ↦ c.boxes v j | inr f ↦ subst P f box ];
      layers = λ v k. elim (among_push chosen b v k) [ inl j ↦ c.layers v j | inr f ↦ subst Q f e ];
      back = λ v k. elim (among_push chosen b v k) [
        | inl j ↦ among_left done (b ∷ []) v (c.back v j)
        | inr f ↦ subst T f (among_right done (b ∷ []) b (inl refl))
      ];
      forth = λ v k l. elim (among_push done b v k) [
        | inl j ↦ among_left chosen (b ∷ []) v (c.forth v j l)
        | inr f ↦ subst R f (among_right chosen (b ∷ []) b (inl refl))
      ];
    }

chosen_skip : (done : List BoxShape) (b : BoxShape) (layer : Layer) (chosen : List BoxShape) → (b.layer ≡ layer → ⊥) → IsChosen done layer chosen → IsChosen (done ++ b ∷ []) layer chosen
chosen_skip done b layer chosen ne c = record {
  boxes = c.boxes;
  layers = c.layers;
  back = λ v k. among_left done (b ∷ []) v (c.back v k);
  forth = λ v k l. elim (among_push done b v k) [
    | inl j ↦ c.forth v j l
    | inr f ↦ absurd (ne (let Q : BoxShape → Type 0 = λ u. u.layer ≡ layer in subst Q (sym f) l))
  ];
}

pub chosen_at : (xs : List BoxShape) (i : ℕ) (b : BoxShape) (layer : Layer) (chosen items : List BoxShape) → i < length xs → b ≡ get_or xs i b → IsBox b → b.layer ≡ layer
    → IsChosen (take i xs) layer chosen → items ≡ chosen ++ b ∷ [] → IsChosen (take (i + 1) xs) layer items
chosen_at xs i b layer chosen items h e box l c k = rw (k, taken_at xs i b h e) (chosen_push (take i xs) b layer chosen box l c)

pub chosen_past : (xs : List BoxShape) (i : ℕ) (b : BoxShape) (layer : Layer) (chosen items : List BoxShape) → i < length xs → b ≡ get_or xs i b → (b.layer ≡ layer → ⊥)
    → IsChosen (take i xs) layer chosen → items ≡ chosen → IsChosen (take (i + 1) xs) layer items
chosen_past xs i b layer chosen items h e ne c k = rw (k, taken_at xs i b h e) (chosen_skip (take i xs) b layer chosen ne c)

pub chosen_all : (xs : List BoxShape) (i : ℕ) (layer : Layer) (chosen : List BoxShape) → length xs ≤ i → IsChosen (take i xs) layer chosen → IsChosen xs layer chosen
chosen_all xs i layer chosen h c =
    let e : take i xs ≡ xs = grind (arith, common_steps) in
    let P : List BoxShape → Type 0 = λ l. IsChosen l layer chosen in
    subst P e c
