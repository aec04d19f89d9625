-- Behind letters.
use Rattle.std.proofs.Common.{◌≡◌, ℕ, ◌+◌, min, length, sym, ◌∙◌, ap, subst, rules}
use Rattle.cif_values.specs.Parts.{PartsAt}
use Rattle.cif_values.specs.Runs.{behind_blanks}
use Rattle.cif_values.proofs.NextParts.{behind_word}
use Rattle.cif_values.proofs.runs.behind_letters.Goals as goal

pub returns-clause-parts : goal.returns-clause-parts
returns-clause-parts c = λ stop word parts l h.
    let e : c.min.result ≡ min (c.args.at + c.args.count) (length c.args.text.now) = search rules in
    let P : ℕ → Type 0 = λ i. PartsAt c.args.text.now i stop parts in
    subst P (sym (c.skip_blanks.ensures.place ∙ ap (behind_blanks c.args.text.now) e)) (behind_word c.args.text.now c.args.at stop c.args.count word parts l h)
