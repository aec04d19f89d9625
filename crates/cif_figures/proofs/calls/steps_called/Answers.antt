-- The steps of the call, or its code.
use Rattle.std.proofs.Common.{ℕ, ◌≡◌, pos, ◌∷◌, flat_map, codes, Option, Some, None, refl}
use mir.Syntax.{w64}
use mir.Val.{to_z, of_z}
use Rattle.geom.specs.declared.cif_code.CifCode.{CifCode}
use Rattle.geom.specs.CifCommands.{Unsigned, move_parts}
use Rattle.cif_kinds.specs.declared.kinds.CommandKind.TheVariants as kind
use Rattle.cif_figures.specs.Figures.{CommandOf}
use Rattle.cif_figures.proofs.Calling.{CallHere, call_at, call_fault, call_known, call_moves, call_leads}
use Rattle.cif_figures.proofs.Places.{first_within}
use Rattle.cif_figures.proofs.Stepping.{word_stands}
use Rattle.cif_figures.proofs.calls.steps_called.Goals as goal
use Rattle.cif_figures.proofs.calls.steps_called.Goals.{After-call_code}

-- the call that stands in the text
here : (c : After-call_code) (end : ℕ) (k : CommandOf c.args.text.now c.args.first end kind.Calls) (t : Option CifCode) → c.call_code.result ≡ t
    → CallHere k.stands.here.command c.args.text.now c.number_here-number.result.1 c.args.scale c.args.chain t
here c end k t e =
    call_at c.args.text.now c.args.first end c.number_here-number.result.1 k c.args.scale c.args.chain c.grid.result
    (to_z w64 (of_z w64 c.number_here-number.result.0)) c.moves_checks-moves.result c.is_unknown.result c.is_deep.result
    c.call_code.result t c.parts_stand.ensures
    (λ stop n moves p. (
    let r = c.number_here-number.ensures.parts stop (Unsigned n) (flat_map move_parts moves) refl
    (c.behind_letters.ensures.parts stop (codes "C") (Unsigned n ∷ flat_map move_parts moves) refl p) in
    (word_stands c.grid.result (pos n) c.number_here-number.result.0 r.0, r.1)))
    c.grid.ensures c.moves_checks-moves.ensures c.call_code.ensures c.is_unknown.ensures c.is_deep.ensures e

pub behind_letters-requires-clause-place : goal.behind_letters-requires-clause-place
behind_letters-requires-clause-place c = first_within c.args.text.now c.args.first c.requires.command.0 kind.Calls c.requires.command.1

pub steps-requires-clause-clear : goal.steps-requires-clause-clear
steps-requires-clause-clear c =
    let k = c.requires.command.1 in
    let h = here (goal.at.steps-requires-clause-clear c).After-call_code c.requires.command.0 k None c.in-None.is in
    (h.moves, call_moves k.stands.here.command c.args.text.now c.number_here-number.result.1 c.args.scale c.args.chain h)

pub returns-in-Some-clause-fault : goal.returns-in-Some-clause-fault
returns-in-Some-clause-fault c = λ s end k e f.
    call_fault s k.stands.here.command c.args.text.now c.number_here-number.result.1 c.args.scale c.args.chain (Some c.in-Some.code)
    (here (goal.at.returns-in-Some-clause-fault c).After-call_code end k (Some c.in-Some.code) c.in-Some.is) e f

pub returns-in_ok-steps-in-None-clause-known : goal.returns-in_ok-steps-in-None-clause-known
returns-in_ok-steps-in-None-clause-known c =
    let k = c.requires.command.1 in
    call_known k.stands.here.command c.args.text.now c.number_here-number.result.1 c.args.scale c.args.chain
    (here (goal.at.returns-in_ok-steps-in-None-clause-known c).After-call_code c.requires.command.0 k None c.in-None.is)

pub returns-in_ok-steps-in-None-clause-steps : goal.returns-in_ok-steps-in-None-clause-steps
returns-in_ok-steps-in-None-clause-steps c = λ s end k e f.
    call_leads s k.stands.here.command c.args.text.now c.number_here-number.result.1 c.args.scale c.args.chain _
    (here (goal.at.returns-in_ok-steps-in-None-clause-steps c).After-call_code end k None c.in-None.is) c.in_ok-steps-in-None.ensures.steps e f
