-- The boxes of a layer, chosen one by one, stay in runs.
use Rattle.std.proofs.Common.{◌≡◌, ℕ, ◌<◌, ◌≤◌, ◌+◌, List, [], ◌∷◌, ◌++◌, inl, inr, length, take, get_or, refl, sym, arith, subst}
use Rattle.std.proofs.lemmas.Grind.{common_steps}
use Rattle.geom.specs.declared.layer.Layer.{Layer}
use Rattle.geom.specs.Squares.{BoxShape, IsBox}
use Rattle.geom.specs.Merged.{Precedes, Separate, Heads, InRuns}
use Rattle.geom.specs.Rows.{Among}
use Rattle.canonical_boxes.specs.Chosen.{IsChosen}
use Rattle.canonical_boxes.proofs.Lists.{among_push, among_left, among_last, taken_at}

heads_front : (b : BoxShape) (cs : List BoxShape) (d : BoxShape) → Heads b (cs ++ d ∷ []) → Heads b cs
heads_front b [] d h = tt
heads_front b (c ∷ cs) d h = (h.0, h.1, heads_front b cs d h.2)

runs_front : (m : List BoxShape) (d : BoxShape) → InRuns (m ++ d ∷ []) → InRuns m
runs_front [] d h = tt
runs_front (b ∷ bs) d h = (h.0, heads_front b bs d h.1, runs_front bs d h.2)

-- The box stands before the other, separate from it if they are of one layer.
record Heeds (b d : BoxShape) : Type 0 where
  before : Precedes b d
  apart : b.layer ≡ d.layer → Separate b d

last_box : (m : List BoxShape) (d : BoxShape) → InRuns (m ++ d ∷ []) → IsBox d
last_box [] d h = h.0
last_box (b ∷ bs) d h = last_box bs d h.2

head_last : (b : BoxShape) (cs : List BoxShape) (d : BoxShape) → Heads b (cs ++ d ∷ []) → Heeds b d
head_last b [] d h = record { before = h.0; apart = h.1 }
head_last b (c ∷ cs) d h = head_last b cs d h.2

heed_last : (m : List BoxShape) (d : BoxShape) → InRuns (m ++ d ∷ []) → (b : BoxShape) → Among m b → Heeds b d
heed_last [] d h b i = absurd i
heed_last (c ∷ cs) d h b (inl e) = let P : BoxShape → Type 0 = λ v. Heeds v d in subst P e (head_last c cs d h.1)
heed_last (c ∷ cs) d h b (inr i) = heed_last cs d h.2 b i

heads_push : (b : BoxShape) (cs : List BoxShape) (d : BoxShape) → Heads b cs → Heeds b d → Heads b (cs ++ d ∷ [])
heads_push b [] d h k = (k.before, k.apart, tt)
heads_push b (c ∷ cs) d h k = (h.0, h.1, heads_push b cs d h.2 k)

runs_push : (m : List BoxShape) (d : BoxShape) → InRuns m → IsBox d → ((b : BoxShape) → Among m b → Heeds b d) → InRuns (m ++ d ∷ [])
runs_push [] d h box k = (box, tt, tt)
runs_push (b ∷ bs) d h box k = (h.0, heads_push b bs d h.1 (k b (inl refl)), runs_push bs d h.2 box (λ c i. k c (inr i)))

pub chosen_none : (layer : Layer) → IsChosen [] layer []
chosen_none layer = record { back = λ b h. absurd h; layers = λ b h. absurd h; forth = λ b h e. absurd h; runs = λ h. h }

chosen_push : (done : List BoxShape) (b : BoxShape) (layer : Layer) (chosen : List BoxShape) → b.layer ≡ layer
    → IsChosen done layer chosen → IsChosen (done ++ b ∷ []) layer (chosen ++ b ∷ [])
chosen_push done b layer chosen e c =
    let Q : BoxShape → Type 0 = λ v. v.layer ≡ layer in
    record {
      back = λ v k. elim (among_push chosen b v k) [
        | inl j ↦ among_left done (b ∷ []) v (c.back v j)
        | inr f ↦ among_last done b v f
      ];
      layers = λ v k. elim (among_push chosen b v k) [ inl j ↦ c.layers v j | inr f ↦ subst Q f e ];
      forth = λ v k l. elim (among_push done b v k) [
        | inl j ↦ among_left chosen (b ∷ []) v (c.forth v j l)
        | inr f ↦ among_last chosen b v f
      ];
      runs = λ h. runs_push chosen b (c.runs (runs_front done b h)) (last_box done b h) (λ v k. heed_last done b h v (c.back v k));
    }

chosen_skip : (done : List BoxShape) (b : BoxShape) (layer : Layer) (chosen : List BoxShape) → (b.layer ≡ layer → ⊥)
    → IsChosen done layer chosen → IsChosen (done ++ b ∷ []) layer chosen
chosen_skip done b layer chosen ne c = record {
  back = λ v k. among_left done (b ∷ []) v (c.back v k);
  layers = c.layers;
  forth = λ v k l. elim (among_push done b v k) [
    | inl j ↦ c.forth v j l
    | inr f ↦ absurd (ne (let Q : BoxShape → Type 0 = λ u. u.layer ≡ layer in subst Q (sym f) l))
  ];
  runs = λ h. c.runs (runs_front done b h);
}

pub chosen_at : (xs : List BoxShape) (i : ℕ) (b : BoxShape) (layer : Layer) (chosen items : List BoxShape) → i < length xs → b ≡ get_or xs i b
    → b.layer ≡ layer
    → IsChosen (take i xs) layer chosen → items ≡ chosen ++ b ∷ [] → IsChosen (take (i + 1) xs) layer items
chosen_at xs i b layer chosen items h e l c k = rw (k, taken_at xs i b h e) (chosen_push (take i xs) b layer chosen l c)

pub chosen_past : (xs : List BoxShape) (i : ℕ) (b : BoxShape) (layer : Layer) (chosen items : List BoxShape) → i < length xs → b ≡ get_or xs i b
    → (b.layer ≡ layer → ⊥)
    → IsChosen (take i xs) layer chosen → items ≡ chosen → IsChosen (take (i + 1) xs) layer items
chosen_past xs i b layer chosen items h e ne c k = rw (k, taken_at xs i b h e) (chosen_skip (take i xs) b layer chosen ne c)

pub chosen_all : (xs : List BoxShape) (i : ℕ) (layer : Layer) (chosen : List BoxShape) → length xs ≤ i → IsChosen (take i xs) layer chosen
    → IsChosen xs layer chosen
chosen_all xs i layer chosen h c =
    let e : take i xs ≡ xs = grind (arith, common_steps) in
    let P : List BoxShape → Type 0 = λ l. IsChosen l layer chosen in
    subst P e c
