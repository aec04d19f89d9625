-- One edge after another.
use Rattle.std.proofs.Common.{ℤ, List, [], ◌∷◌, ◌++◌, append_assoc, ◌∙◌, ap, subst}
use Rattle.cif_codes.specs.Scales.{ratio}
use Rattle.cif_codes.specs.Checks.{Checked}
use Rattle.cif_codes.proofs.Bending.{alike_word, same_word}
use Rattle.cif_codes.proofs.edges.with_edges.Goals as goal

pub returns : goal.returns
returns c = λ numbers distances o h e.
    let near = c.requires.near in
    let edges = c.args.edges in
    let one = c.with_distance-left.ensures numbers distances o.left h (alike_word _ o.left edges.left near.left e.left) (λ none. same_word o.left edges.left near.left (e.exact none).0) in
    let two = c.with_distance-bottom.ensures numbers (distances ++ o.left ∷ []) o.bottom one (alike_word _ o.bottom edges.bottom near.bottom e.bottom)
    (λ none. same_word o.bottom edges.bottom near.bottom (e.exact none).1) in
    let three = c.with_distance-right.ensures numbers ((distances ++ o.left ∷ []) ++ o.bottom ∷ []) o.right two (alike_word _ o.right edges.right near.right e.right)
    (λ none. same_word o.right edges.right near.right (e.exact none).2) in
    let four = c.with_distance.ensures numbers (((distances ++ o.left ∷ []) ++ o.bottom ∷ []) ++ o.right ∷ []) o.top three (alike_word _ o.top edges.top near.top e.top)
    (λ none. same_word o.top edges.top near.top (e.exact none).3) in
    let P : List ℤ → Type 0 = λ l. Checked (ratio c.args.scale) numbers l c.with_distance.result in
    subst P
    (append_assoc ((distances ++ o.left ∷ []) ++ o.bottom ∷ []) (o.right ∷ []) (o.top ∷ [])
    ∙ (append_assoc (distances ++ o.left ∷ []) (o.bottom ∷ []) (o.right ∷ o.top ∷ []) ∙ append_assoc distances (o.left ∷ []) (o.bottom ∷ o.right ∷ o.top ∷ [])))
    four
