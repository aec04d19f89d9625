-- The transformations by their letters.
use Rattle.std.proofs.Common.{◌≡◌, ℕ, [], ◌∷◌, codes, refl, sym, ◌∙◌, subst, arith}
use Rattle.geom.specs.CifCommands.{Translates, MirrorsX, MirrorsY, Rotates, Letters, Signed}
use Rattle.cif_values.specs.declared.moves.Move.{Move}
use Rattle.cif_values.specs.Values.{MoveStands}
use Rattle.cif_values.proofs.Standing.{stands_word}
use Rattle.cif_values.proofs.NextParts.{letter_is}
use Rattle.cif_values.proofs.moves.move_here.Goals as goal

no_t : ◌≡◌ {A = ℕ} 84 77 → ⊥
no_t e = omega (arith, e)

no_r : ◌≡◌ {A = ℕ} 82 77 → ⊥
no_r e = omega (arith, e)

no_turn : ◌≡◌ {A = ℕ} 82 84 → ⊥
no_turn e = omega (arith, e)

other_letter : (b f n : ℕ) → b ≡ f → b ≡ n → (f ≡ n → ⊥) → ⊥
other_letter b f n e g h = h (sym e ∙ g)

pub returns-then-letter-eq77-clause-parts : goal.returns-then-letter-eq77-clause-parts
returns-then-letter-eq77-clause-parts c = λ stop move parts h. by c stop move parts h
  where
    by : goal.returns-then-letter-eq77-clause-parts
    by c stop (Translates x y) parts h =
        absurd (other_letter _ 84 77 (letter_is c.args.text.now c.args.at stop 84 [] (Signed x ∷ Signed y ∷ parts) h) c.if-letter-eq77.true no_t)
    by c stop MirrorsX parts h =
        let l = c.behind_letters-rest.ensures.parts stop (codes "M") (Letters (codes "X") ∷ parts) refl h in
        let P : Move → Type 0 = λ v. MoveStands c.args.divisor MirrorsX v in
        (subst P (sym (c.mirror_here.ensures.x stop parts l)) tt, c.behind_letters-next.ensures.parts stop (codes "X") parts refl l)
    by c stop MirrorsY parts h =
        let l = c.behind_letters-rest.ensures.parts stop (codes "M") (Letters (codes "Y") ∷ parts) refl h in
        let P : Move → Type 0 = λ v. MoveStands c.args.divisor MirrorsY v in
        (subst P (sym (c.mirror_here.ensures.y stop parts l)) tt, c.behind_letters-next.ensures.parts stop (codes "Y") parts refl l)
    by c stop (Rotates x y) parts h =
        absurd (other_letter _ 82 77 (letter_is c.args.text.now c.args.at stop 82 [] (Signed x ∷ Signed y ∷ parts) h) c.if-letter-eq77.true no_r)

pub returns-then-letter-eq84-clause-parts : goal.returns-then-letter-eq84-clause-parts
returns-then-letter-eq84-clause-parts c = λ stop move parts h. by c stop move parts h
  where
    by : goal.returns-then-letter-eq84-clause-parts
    by c stop (Translates x y) parts h =
        let l = c.behind_letters-rest.ensures.parts stop (codes "T") (Signed x ∷ Signed y ∷ parts) refl h in
        let u = c.number_here-x.ensures.parts stop (Signed x) (Signed y ∷ parts) refl l in
        let v = c.number_here-y.ensures.parts stop (Signed y) parts refl u.1 in
        ((stands_word c.args.divisor x c.number_here-x.result.0 u.0, stands_word c.args.divisor y c.number_here-y.result.0 v.0), v.1)
    by c stop MirrorsX parts h = absurd (c.if-letter-eq77.false (letter_is c.args.text.now c.args.at stop 77 [] (Letters (codes "X") ∷ parts) h))
    by c stop MirrorsY parts h = absurd (c.if-letter-eq77.false (letter_is c.args.text.now c.args.at stop 77 [] (Letters (codes "Y") ∷ parts) h))
    by c stop (Rotates x y) parts h =
        absurd (other_letter _ 82 84 (letter_is c.args.text.now c.args.at stop 82 [] (Signed x ∷ Signed y ∷ parts) h) c.if-letter-eq84.true no_turn)

pub returns-else-letter-eq84-clause-parts : goal.returns-else-letter-eq84-clause-parts
returns-else-letter-eq84-clause-parts c = λ stop move parts h. by c stop move parts h
  where
    by : goal.returns-else-letter-eq84-clause-parts
    by c stop (Translates x y) parts h = absurd (c.if-letter-eq84.false (letter_is c.args.text.now c.args.at stop 84 [] (Signed x ∷ Signed y ∷ parts) h))
    by c stop MirrorsX parts h = absurd (c.if-letter-eq77.false (letter_is c.args.text.now c.args.at stop 77 [] (Letters (codes "X") ∷ parts) h))
    by c stop MirrorsY parts h = absurd (c.if-letter-eq77.false (letter_is c.args.text.now c.args.at stop 77 [] (Letters (codes "Y") ∷ parts) h))
    by c stop (Rotates x y) parts h =
        let l = c.behind_letters-rest.ensures.parts stop (codes "R") (Signed x ∷ Signed y ∷ parts) refl h in
        let u = c.number_here-x.ensures.parts stop (Signed x) (Signed y ∷ parts) refl l in
        let v = c.number_here-y.ensures.parts stop (Signed y) parts refl u.1 in
        ((stands_word c.args.divisor x c.number_here-x.result.0 u.0, stands_word c.args.divisor y c.number_here-y.result.0 v.0), v.1)
