-- The steps of transformations.
use Rattle.std.proofs.Common.{◌≡◌, inl, inr, ℕ, false, true, ℤ, pos, ◌*ℤ◌, List, [], ◌∷◌, ◌++◌, map, flat_map, refl, sym, ◌∙◌, ap, subst, append_assoc}
use mir.Syntax.{w64}
use mir.Val.{to_z, of_z}
use Rattle.std.specs.List.{fold}
use Rattle.std.proofs.lemmas.List.{append-nil}
use Rattle.geom.specs.declared.point.Point.{Point}
use Rattle.geom.specs.declared.orient.Orient.{Orient}
use Rattle.geom.specs.Rows.{Among}
use Rattle.geom.specs.Squares.{BoxShape}
use Rattle.geom.specs.Turns.{moved}
use Rattle.geom.specs.CifCommands.{CifScale, CifMove, Translates, MirrorsX, MirrorsY, Rotates, CifPart, move_parts}
use Rattle.geom.specs.CifCodes.{SomeIs, IsTooGreat, part_numbers, move_distances}
use Rattle.geom.specs.CifDrawings.{scaled, rotation, moved_by}
use Rattle.cif_values.specs.declared.moves.Move.{Move}
use Rattle.cif_values.specs.declared.moves.Move.TheVariants as written
use Rattle.cif_values.specs.Numbers.{StandsFor}
use Rattle.cif_values.specs.Parts.{PartsAt}
use Rattle.cif_values.specs.Values.{MoveStands, IsNearMove}
use Rattle.cif_codes.specs.declared.scale.Scale.{Scale}
use Rattle.cif_codes.specs.Scales.{ratio}
use Rattle.cif_drawing.specs.declared.placement.Step.{Step}
use Rattle.cif_drawing.specs.Placements.{IsStep, step_box}
use Rattle.cif_figures.specs.Scaling.{IsScaledPoint}
use Rattle.cif_figures.specs.Steps.{IsStepOf, AreStepsOf, AreClearMoves, IsDrawnMove}
use Rattle.cif_figures.proofs.Words.{number_word}
use Rattle.cif_figures.proofs.Clear.{IsClear, clear_front, clear_behind, drawn_twice}

-- ---- one transformation

-- the numbers of a transformation
abbrev pub move_numbers : CifMove → List ℤ
move_numbers move = flat_map part_numbers (move_parts move)

-- the numbers of transformations
abbrev pub moves_numbers : List CifMove → List ℤ
moves_numbers moves = flat_map part_numbers (flat_map move_parts moves)

-- nothing turned
abbrev pub straight : Orient
straight = record { swap = false; neg_x = false; neg_y = false }

-- a number that stands for another, in machine words
pub word_stands : (divisor : ℕ) (z v : ℤ) → StandsFor divisor z v → StandsFor divisor z (to_z w64 (of_z w64 v))
word_stands divisor z v s = let P : ℤ → Type 0 = λ k. StandsFor divisor z k in subst P (sym (number_word v s.near)) s

word_is : (divisor : ℕ) (z v : ℤ) → StandsFor divisor z v → (IsTooGreat z → ⊥) → to_z w64 (of_z w64 v) ≡ z
word_is divisor z v s n = (word_stands divisor z v s).exact n

pub step_translates : (scale : Scale) (divisor : ℕ) (move : CifMove) (x y : ℤ) (p : Point) (step : Step)
    → IsScaledPoint scale (record { x = to_z w64 (of_z w64 x); y = to_z w64 (of_z w64 y) }) p → step ≡ record { turn = straight; x = p.x; y = p.y }
    → MoveStands divisor move (written.Translates x y) → (SomeIs IsTooGreat (move_numbers move) → ⊥) → IsStepOf (ratio scale) move step
step_translates scale divisor (Translates a b) x y p step h e s n = λ box.
    let u : to_z w64 (of_z w64 x) ≡ a = word_is divisor a x s.0 (λ g. n (inl g)) in
    let v : to_z w64 (of_z w64 y) ≡ b = word_is divisor b y s.1 (λ g. n (inr (inl g))) in
    let f : p.x ≡ scaled (ratio scale) (pos 2 *ℤ a) = h.0.is ∙ ap (λ (z : ℤ). scaled (ratio scale) (pos 2 *ℤ z)) u in
    let k : p.y ≡ scaled (ratio scale) (pos 2 *ℤ b) = h.1.is ∙ ap (λ (z : ℤ). scaled (ratio scale) (pos 2 *ℤ z)) v in
    ap (step_box box) e
    ∙ (ap (λ (z : ℤ). moved box straight z p.y) f ∙ ap (λ (z : ℤ). moved box straight (scaled (ratio scale) (pos 2 *ℤ a)) z) k)
step_translates scale divisor MirrorsX x y p step h e s n = absurd s
step_translates scale divisor MirrorsY x y p step h e s n = absurd s
step_translates scale divisor (Rotates a b) x y p step h e s n = absurd s

pub step_mirrors_x : (scale : CifScale) (divisor : ℕ) (move : CifMove) (step : Step)
    → step ≡ record { turn = record { swap = false; neg_x = true; neg_y = false }; x = pos 0; y = pos 0 } → MoveStands divisor move written.MirrorsX
    → IsStepOf scale move step
step_mirrors_x scale divisor (Translates a b) step e s = absurd s
step_mirrors_x scale divisor MirrorsX step e s = λ box. ap (step_box box) e
step_mirrors_x scale divisor MirrorsY step e s = absurd s
step_mirrors_x scale divisor (Rotates a b) step e s = absurd s

pub step_mirrors_y : (scale : CifScale) (divisor : ℕ) (move : CifMove) (step : Step)
    → step ≡ record { turn = record { swap = false; neg_x = false; neg_y = true }; x = pos 0; y = pos 0 } → MoveStands divisor move written.MirrorsY
    → IsStepOf scale move step
step_mirrors_y scale divisor (Translates a b) step e s = absurd s
step_mirrors_y scale divisor MirrorsX step e s = absurd s
step_mirrors_y scale divisor MirrorsY step e s = λ box. ap (step_box box) e
step_mirrors_y scale divisor (Rotates a b) step e s = absurd s

pub step_rotates : (scale : CifScale) (divisor : ℕ) (move : CifMove) (a b : ℤ) (turn : Orient) (step : Step)
    → turn ≡ rotation (to_z w64 (of_z w64 a)) (to_z w64 (of_z w64 b)) → step ≡ record { turn = turn; x = pos 0; y = pos 0 }
    → MoveStands divisor move (written.Rotates a b) → (SomeIs IsTooGreat (move_numbers move) → ⊥) → IsStepOf scale move step
step_rotates scale divisor (Translates x y) a b turn step e f s n = absurd s
step_rotates scale divisor MirrorsX a b turn step e f s n = absurd s
step_rotates scale divisor MirrorsY a b turn step e f s n = absurd s
step_rotates scale divisor (Rotates x y) a b turn step e f s n = λ box.
    let u : to_z w64 (of_z w64 a) ≡ x = word_is divisor x a s.0 (λ g. n (inl g)) in
    let v : to_z w64 (of_z w64 b) ≡ y = word_is divisor y b s.1 (λ g. n (inr (inl g))) in
    ap (step_box box) f
    ∙ ap (λ (o : Orient). moved box o (pos 0) (pos 0)) (e ∙ (ap (λ (z : ℤ). rotation z (to_z w64 (of_z w64 b))) u ∙ ap (λ (z : ℤ). rotation x z) v))

-- ---- the loop

-- some transformations are steps, and the others stand from a place on
pub record MovesLeft (text : List ℕ) (scale : Scale) (stop : ℕ) (moves : List CifMove) (from : ℕ) (found : List Step) : Type 0 where
  pub rest : List CifMove
  pub parts : PartsAt text from stop (flat_map move_parts rest)
  pub clear : IsClear (ratio scale) (moves_numbers rest) (flat_map move_distances rest)
  pub join : (more : List Step) → AreStepsOf (ratio scale) rest more → AreStepsOf (ratio scale) moves (found ++ more)

-- the next transformation
pub record MoveNext (text : List ℕ) (scale : Scale) (stop : ℕ) (moves : List CifMove) (from : ℕ) (found : List Step) : Type 0 where
  pub move : CifMove
  pub rest : List CifMove
  pub parts : PartsAt text from stop (move_parts move ++ flat_map move_parts rest)
  pub here : IsClear (ratio scale) (move_numbers move) (move_distances move)
  pub behind : IsClear (ratio scale) (moves_numbers rest) (flat_map move_distances rest)
  pub join : (more : List Step) → AreStepsOf (ratio scale) (move ∷ rest) more → AreStepsOf (ratio scale) moves (found ++ more)

-- the numbers of a transformation stand before those of the others
numbers_split : (move : CifMove) (parts : List CifPart)
    → flat_map part_numbers (move_parts move ++ parts) ≡ move_numbers move ++ flat_map part_numbers parts
numbers_split (Translates x y) parts = refl
numbers_split MirrorsX parts = refl
numbers_split MirrorsY parts = refl
numbers_split (Rotates a b) parts = refl

pub moves_begin : (text : List ℕ) (scale : Scale) (moves : List CifMove) (at : ℕ) → (h : AreClearMoves text at (ratio scale) moves)
    → MovesLeft text scale h.stop moves at []
moves_begin text scale moves at h =
    record { rest = moves; parts = h.parts; clear = record { few = h.few; on_grid = h.on_grid; not_far = h.not_far }; join = λ more k. k }

pub moves_next : (text : List ℕ) (scale : Scale) (stop : ℕ) (moves : List CifMove) (from : ℕ) (found : List Step)
    → (u : MovesLeft text scale stop moves from found) → (u.rest ≡ [] → ⊥) → MoveNext text scale stop moves from found
moves_next text scale stop moves from found u n = by u.rest u.parts u.clear u.join n
  where
    by : (rest : List CifMove) → PartsAt text from stop (flat_map move_parts rest)
        → IsClear (ratio scale) (moves_numbers rest) (flat_map move_distances rest)
        → ((more : List Step) → AreStepsOf (ratio scale) rest more → AreStepsOf (ratio scale) moves (found ++ more)) → (rest ≡ [] → ⊥)
        → MoveNext text scale stop moves from found
    by [] p c j n = absurd (n refl)
    by (move ∷ rest) p c j n =
        let P : List ℤ → Type 0 = λ l. IsClear (ratio scale) l (move_distances move ++ flat_map move_distances rest) in
        let k = subst P (numbers_split move (flat_map move_parts rest)) c in
        record {
          move = move;
          rest = rest;
          parts = p;
          here = clear_front (ratio scale) (move_numbers move) (moves_numbers rest) (move_distances move) (flat_map move_distances rest) k;
          behind = clear_behind (ratio scale) (move_numbers move) (moves_numbers rest) (move_distances move) (flat_map move_distances rest) k;
          join = j;
        }

pub moves_more : (text : List ℕ) (scale : Scale) (stop : ℕ) (moves : List CifMove) (from next : ℕ) (found pushed : List Step) (step : Step)
    → (n : MoveNext text scale stop moves from found) → PartsAt text next stop (flat_map move_parts n.rest) → IsStepOf (ratio scale) n.move step
    → pushed ≡ found ++ step ∷ [] → MovesLeft text scale stop moves next pushed
moves_more text scale stop moves from next found pushed step n p s e = record {
  rest = n.rest;
  parts = p;
  clear = n.behind;
  join = λ more k. (
      let P : List Step → Type 0 = λ l. AreStepsOf (ratio scale) moves l in
      subst P (sym (ap (λ (l : List Step). l ++ more) e ∙ append_assoc found (step ∷ []) more)) (n.join (step ∷ more) (s, k)));
}

pub moves_end : (text : List ℕ) (scale : Scale) (stop : ℕ) (moves : List CifMove) (from : ℕ) (found : List Step)
    → (u : MovesLeft text scale stop moves from found) → u.rest ≡ [] → AreStepsOf (ratio scale) moves found
moves_end text scale stop moves from found u e =
    let P : List Step → Type 0 = λ l. AreStepsOf (ratio scale) moves l in
    let Q : List CifMove → Type 0 = λ l. AreStepsOf (ratio scale) l [] in
    subst P (append-nil found) (u.join [] (subst Q (sym e) tt))

-- the translation of the next transformation
pub next_drawn : (scale : CifScale) (divisor : ℕ) (move : CifMove) (w : Move) → IsClear scale (move_numbers move) (move_distances move)
    → MoveStands divisor move w → IsNearMove w → IsDrawnMove scale w
next_drawn scale divisor (Translates a b) (written.Translates x y) c s n = (
  drawn_twice scale a x (s.0.exact (λ g. c.few (inl g))) n.0 (λ k. c.on_grid (inl k)) (λ k. c.not_far (inl k)),
  drawn_twice scale b y (s.1.exact (λ g. c.few (inr (inl g)))) n.1 (λ k. c.on_grid (inr (inl k))) (λ k. c.not_far (inr (inl k))),
)
next_drawn scale divisor MirrorsX (written.Translates x y) c s n = absurd s
next_drawn scale divisor MirrorsY (written.Translates x y) c s n = absurd s
next_drawn scale divisor (Rotates a b) (written.Translates x y) c s n = absurd s
next_drawn scale divisor move written.MirrorsX c s n = tt
next_drawn scale divisor move written.MirrorsY c s n = tt
next_drawn scale divisor move (written.Rotates a b) c s n = tt

-- what holds of each step holds with one more
pub steps_near : (found pushed : List Step) (last : Step) → ((step : Step) → Among found step → IsStep step) → IsStep last
    → pushed ≡ found ++ last ∷ [] → (step : Step) → Among pushed step → IsStep step
steps_near found pushed last h k e step m = let P : List Step → Type 0 = λ l. Among l step in by found h (subst P e m)
  where
    by : (found : List Step) → ((step : Step) → Among found step → IsStep step) → Among (found ++ last ∷ []) step → IsStep step
    by [] h (inl e) = let P : Step → Type 0 = λ v. IsStep v in subst P e k
    by [] h (inr m) = absurd m
    by (first ∷ found) h (inl e) = h step (inl e)
    by (first ∷ found) h (inr m) = by found (λ s n. h s (inr n)) m

-- ---- boxes

fold_same : (scale : CifScale) (moves : List CifMove) (steps : List Step) → AreStepsOf scale moves steps → (b : BoxShape)
    → fold step_box b steps ≡ fold (moved_by scale) b moves
fold_same scale [] [] h b = refl
fold_same scale [] (step ∷ steps) h b = absurd h
fold_same scale (move ∷ moves) [] h b = absurd h
fold_same scale (move ∷ moves) (step ∷ steps) h b =
    ap (λ (v : BoxShape). fold step_box v steps) (h.0 b) ∙ fold_same scale moves steps h.1 (moved_by scale b move)

pub boxes_same : (scale : CifScale) (moves : List CifMove) (steps : List Step) (boxes : List BoxShape) → AreStepsOf scale moves steps
    → map (λ b. fold step_box b steps) boxes ≡ map (λ b. fold (moved_by scale) b moves) boxes
boxes_same scale moves steps [] h = refl
boxes_same scale moves steps (b ∷ boxes) h =
    ap (λ (v : BoxShape). v ∷ map (λ b. fold step_box b steps) boxes) (fold_same scale moves steps h b)
    ∙ ap (λ (l : List BoxShape). fold (moved_by scale) b moves ∷ l) (boxes_same scale moves steps boxes h)
