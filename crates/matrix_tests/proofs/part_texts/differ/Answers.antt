-- One net more differs from those before it.
use Rattle.std.proofs.Common.{◌≡◌, ◌≢◌, ℕ, ◌<◌, ◌==◌, false, List, AllPairs, length, take, get_or, sym, subst, arith}
use Rattle.std.specs.List.{list_any}
use Rattle.std.proofs.lemmas.Bool.{eq-eqb}
use Rattle.std.proofs.lemmas.Grind.{common_steps}
use Rattle.std.proofs.lemmas.List.{take_all, take_more}
use Rattle.std.proofs.lemmas.List.Folds.{list_any_at}
use Rattle.std.proofs.lemmas.List.Quantifiers.{all_pairs_push}
use Rattle.matrix_tests.proofs.part_texts.differ.Goals as goal

apart : (xs : List ℕ) (x : ℕ) → false ≡ list_any (λ y. y == x) xs → (k d : ℕ) → k < length xs → get_or xs k d ≢ x
apart xs x none k d lt e = let some = list_any_at (λ y. y == x) xs k d lt (eq-eqb (get_or xs k d) x e) in cc

pub loop-at-preserved : goal.loop-at-preserved
loop-at-preserved c =
    let nets = c.args.nets.now in
    let at = c.loop-at.at in
    let none : false ≡ list_any (λ y. y == get_or nets at 0) (take at nets) = grind (arith, common_steps, c.if-contains.ensures.value) in
    subst (AllPairs (λ a b. a ≢ b)) (sym (take_more nets at 0 c.loop-at-test.true))
    (all_pairs_push (λ a b. a ≢ b) (take at nets) (get_or nets at 0) c.loop-at.invariant (apart (take at nets) (get_or nets at 0) none))

pub returns : goal.returns
returns c = λ e. subst (AllPairs (λ a b. a ≢ b)) (take_all c.loop-at.at c.args.nets.now c.loop-at-test.false) c.loop-at.invariant
