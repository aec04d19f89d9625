use Rattle.std.proofs.Common.{◌≡◌, ◌++◌, List, ℕ, Result, Ok, Err, OnOk, append_assoc, ap, ◌∙◌, codes}
use Rattle.report_text.specs.Reports.{number_line}
use Rattle.report_text.proofs.lines.put_tree.Goals as goal

regrouped : (t a b c d e : List ℕ) → ((((t ++ a) ++ b) ++ c) ++ d) ++ e ≡ t ++ ((((a ++ b) ++ c) ++ d) ++ e)
regrouped t a b c d e = simp append_assoc

-- five pieces, one behind another
put_five : {E : Type 0} (result : Result Unit E) (t u v w x z a b c d e : List ℕ) → u ≡ t ++ a → v ≡ u ++ b → w ≡ v ++ c → x ≡ w ++ d
    → OnOk result (z ≡ x ++ e) → OnOk result (z ≡ t ++ ((((a ++ b) ++ c) ++ d) ++ e))
put_five (Ok done) t u v w x z a b c d e first second third fourth fifth =
    fifth ∙ ap (λ l. l ++ e) (fourth ∙ ap (λ l. l ++ d) (third ∙ ap (λ l. l ++ c) (second ∙ ap (λ l. l ++ b) first))) ∙ regrouped t a b c d e
put_five (Err fault) t u v w x z a b c d e first second third fourth fifth = tt

-- src/lines.rt
pub returns : goal.returns
returns c =
    let figures = c.args.figures.now in
    put_five c.put_line-5.result c.args.text.now.items c.put_line.new.text.items c.put_line-2.new.text.items c.put_line-3.new.text.items
    c.put_line-4.new.text.items c.put_line-5.new.text.items
    (number_line (codes "tree side bound") figures.side_bound) (number_line (codes "tree width") figures.width)
    (number_line (codes "tree height") figures.height) (number_line (codes "tree area") figures.area)
    (number_line (codes "tree area bound") figures.area_bound)
    c.in_ok-put_line.ensures c.in_ok-put_line-2.ensures c.in_ok-put_line-3.ensures c.in_ok-put_line-4.ensures c.put_line-5.ensures
