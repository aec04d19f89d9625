-- A point more.
use Rattle.std.proofs.Common.{ℕ, ℤ, pos, ◌+◌, List, [], ◌∷◌, ◌++◌, sym, ◌∙◌, ap, subst}
use Rattle.std.proofs.lemmas.List.{length_push}
use Rattle.cif_codes.specs.Scales.{ratio, grid_of}
use Rattle.cif_codes.specs.Checks.{Checked}
use Rattle.cif_codes.specs.Bends.{wire_numbers, between_points}
use Rattle.cif_codes.proofs.Checking.{stands_word}
use Rattle.cif_codes.proofs.Bending.{wire_numbers_push, last_push}
use Rattle.cif_codes.proofs.wires.Bends.with_bend.Goals as goal

pub returns-clause-checked : goal.returns-clause-checked
returns-clause-checked c = λ w points p st h at1.
    let m = grid_of c.args.scale in
    let bend = c.args.bend in
    let numbers = wire_numbers w points in
    let distances = between_points w points in
    let one = c.with_number-x.ensures numbers distances p.x h.checked (stands_word m p.x bend.x.value at1.0.stands) in
    let two = c.with_number-y.ensures (numbers ++ p.x ∷ []) distances p.y one (stands_word m p.y bend.y.value at1.1.stands) in
    let P : List ℤ → Type 0 = λ l. Checked (ratio c.args.scale) l distances c.with_number-y.result in
    let j = c.joined-oblique.ensures w points p (stands_word m (pos w) c.args.width st) h.last h.oblique at1 (subst P (sym (wire_numbers_push w points p)) two) in
    record {
      checked = j.0;
      count = ap (λ (n : ℕ). n + 1) h.count ∙ sym (length_push points p);
      last = last_push c.args.text.now m points p bend at1;
      oblique = j.1;
    }
