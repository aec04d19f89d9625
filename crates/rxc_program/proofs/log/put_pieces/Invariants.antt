use Rattle.std.proofs.Common.{◌≤◌, flat_map, take}
use Rattle.std.specs.Io.KnownBytes.{Appends}
use Rattle.rxc_program.proofs.log.put_pieces.Given as goal

abbrev pub invariant-loop-piece : goal.invariant-loop-piece
invariant-loop-piece g l =
    Appends (g.L.Sink.held l.fn.log) (g.L.Sink.held l.log) (flat_map (λ piece. piece.now) (take l.piece-index l.pieces))
    × (g.L.Sink.faults l.fn.log ≤ g.L.Sink.faults l.log)
