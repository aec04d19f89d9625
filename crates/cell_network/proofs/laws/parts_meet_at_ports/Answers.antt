use Rattle.cell_network.proofs.Meetings.{parts_meet}
use Rattle.cell_network.proofs.laws.parts_meet_at_ports.Goals as goal

pub returns : goal.returns
returns c = λ counts tree t. parts_meet counts tree t
