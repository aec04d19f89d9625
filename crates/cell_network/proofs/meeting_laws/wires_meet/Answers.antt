use Rattle.cell_network.proofs.WireMeetings as meetings
use Rattle.cell_network.proofs.meeting_laws.wires_meet.Goals as goal

pub returns : goal.returns
returns c = meetings.wires_meet
