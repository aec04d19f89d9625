-- A symbol is called.
use Rattle.std.proofs.Common.{◌≡◌, List, ◌∙◌, ap, subst}
use Rattle.std.proofs.lemmas.Result.{err_from_is_err_and}
use Rattle.geom.specs.CifDrawings.{symbol_of}
use Rattle.cif_drawing.specs.declared.placement.Step.{Step}
use Rattle.cif_drawing.specs.Placements.{stepped_boxes}
use Rattle.cif_drawing.specs.Parts.{part_of, part_boxes, part_chain, chain_or_none, drawn_parts}
use Rattle.cif_kinds.specs.declared.kinds.CommandKind.TheVariants as kind
use Rattle.cif_figures.specs.Figures.{command_of, symbol_in}
use Rattle.cif_read.specs.States.{state_of}
use Rattle.cif_read.proofs.States.{same_symbol}
use Rattle.cif_read.proofs.Drawn.{called}
use Rattle.cif_read.proofs.reader.Reader.call.Goals as goal

pub returns-clause-read : goal.returns-clause-read
returns-clause-read c end k =
    let old = c.args.self.now in
    let n = symbol_in (command_of c.args.text.now c.args.first end kind.Calls k) in
    let same : part_of old.builder c.called_number-number.result ≡ symbol_of (state_of old) n =
    same_symbol old n c.called_number-number.result c.requires.reader (c.called_number-number.ensures end k) in
    let chain : c.chain_of_call-chain.result ≡ part_chain (symbol_of (state_of old) n) = c.chain_of_call-chain.ensures ∙ ap part_chain same in
    let P : List Step → Type 0 =
    λ l. c.call.new.self ≡ drawn_parts old.builder c.args.place (stepped_boxes l (part_boxes (part_of old.builder c.called_number-number.result)))
    (chain_or_none (part_of old.builder c.called_number-number.result)) old.builder.opening in
    called old c.call.new.self c.args.place (command_of c.args.text.now c.args.first end kind.Calls k) c.in_ok-steps.steps.items n
    c.called_number-number.result
    c.requires.reader same (c.in_ok-steps.ensures.steps (state_of old) end k c.scale.ensures.scale chain)
    (subst P c.deref.ensures.value c.in_ok-call.ensures)

pub returns-in_err-steps-clause-fault : goal.returns-in_err-steps-clause-fault
returns-in_err-steps-clause-fault c =
    let old = c.args.self.now in
    let p = err_from_is_err_and c.from_residual.result c.from_residual.ensures.1 in
    rw (p.1, p.2) (λ end k.
    let n = symbol_in (command_of c.args.text.now c.args.first end kind.Calls k) in
    let same : part_of old.builder c.called_number-number.result ≡ symbol_of (state_of old) n =
    same_symbol old n c.called_number-number.result c.requires.reader (c.called_number-number.ensures end k) in
    let chain : c.chain_of_call-chain.result ≡ part_chain (symbol_of (state_of old) n) = c.chain_of_call-chain.ensures ∙ ap part_chain same in
    c.in_err-steps.ensures.fault (state_of old) end k c.scale.ensures.scale chain)
