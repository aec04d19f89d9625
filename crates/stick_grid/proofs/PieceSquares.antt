-- The nets of tiles that sides name are those that have squares.
use Rattle.std.proofs.Common.{◌≡◌, ◌-◌, ◌*◌, pos, ◌+ℤ◌, sym, ◌∙◌, arith}
use Rattle.std.proofs.lemmas.Int.{ints}
use Rattle.geom.specs.Conduction.{Spot}
use Rattle.micro_tiles.specs.Strips.{behind_x, behind_y}
use Rattle.micro_tiles.proofs.PortFacts.{ports_name_nets}
use Rattle.micro_tiles.proofs.SideFacts.{nets_reach_sides}
use Rattle.stick_grid.specs.Plans.{Plan, IsPlan, local_x, local_y}
use Rattle.stick_grid.specs.Pieces.{Piece, IsIn}
use Rattle.stick_grid.specs.Names.{IsPiece, PiecesHaveSquares}
use Rattle.stick_grid.specs.Depicted.{border_spot, PortsHaveSquares}

pub ports_have_squares : PortsHaveSquares
ports_have_squares plan row col side layer known is_row is_col carried =
    let at = ports_name_nets (plan.tile row col) side layer (known.known row col is_row is_col) carried in
    let u = behind_x side (pos 0) (pos 6) in
    let v = behind_y side (pos 0) (pos 6) in
    let x : local_x col (pos (14 * col) +ℤ u) ≡ u = omega (arith, ints) in
    let y : local_y plan row (pos (14 * (plan.rows - 1 - row)) +ℤ v) ≡ v = omega (arith, ints) in
    record { is_row = is_row; is_col = is_col; conducts = rw (x, y) at.conducts; net = rw (x, y) at.number }

pub square_of : (plan : Plan) (p : Piece) → IsPlan plan → IsPiece plan p → (spot : Spot) × IsIn plan spot p
square_of plan p known h =
    let s = ports_have_squares plan p.row p.col h.side h.layer known h.is_row h.is_col h.carried in
    (border_spot plan p.row p.col h.side h.layer, record { is_row = h.is_row; is_col = h.is_col; conducts = s.conducts; net = h.number ∙ s.net })

pub piece_of : (plan : Plan) (p : Piece) (a : Spot) → IsPlan plan → IsIn plan a p → IsPiece plan p
piece_of plan p a known h =
    let reach = nets_reach_sides (plan.tile p.row p.col) a.layer (local_x p.col a.x) (local_y plan p.row a.y) (known.known p.row p.col h.is_row h.is_col) h.conducts in
    record { is_row = h.is_row; is_col = h.is_col; side = reach.side; layer = a.layer; carried = reach.carried; number = h.net ∙ sym reach.number }

pub pieces_have_squares : PiecesHaveSquares
pieces_have_squares plan p known = (square_of plan p known, λ h. piece_of plan p h.0 known h.1)
