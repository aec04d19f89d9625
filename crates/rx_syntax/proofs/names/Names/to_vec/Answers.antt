use Rattle.std.proofs.Common.{◌≡◌, ◌∷◌, ◌++◌, [], ◌∙◌, sym, ap, subst, get_or, take, Bor, List, ℕ}
use Rattle.std.specs.Prelude.{IfSome}
use Rattle.std.proofs.lemmas.List.{map_more}
use Rattle.rx_syntax.proofs.LookedUp.{words_of}
use Rattle.rx_syntax.proofs.names.Names.to_vec.Goals as goal

pub loop-word-preserved : goal.loop-word-preserved
loop-word-preserved c =
    let words = c.as_slice-word-items.result.now in
    let i = c.loop-word.word-index in
    let none : Bor (List ℕ) = record { ref_ptr = (0, 0); now = [] } in
    let name = c.unwrap.result in
    let is : name ≡ (get_or words i none).now =
    subst (λ o. IfSome o (λ n. n ≡ (get_or words i none).now)) c.unwrap.ensures c.new.ensures.bytes in
    c.in_ok-push.ensures.items
    ∙ ap (λ names. names ++ name ∷ []) c.loop-word.invariant
    ∙ ap (λ n. words_of (take i words) ++ n ∷ []) is
    ∙ sym (map_more (λ word. word.now) words i none c.loop-word-test.true)
