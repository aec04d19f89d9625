use Rattle.micro_tiles.proofs.ShapeFacts as facts
use Rattle.micro_tiles.proofs.laws.tiles_have_wide_boxes.Goals as goal

pub returns-clause-boxes : goal.returns-clause-boxes
returns-clause-boxes c = facts.tiles_have_wide_boxes

pub returns-clause-contacts : goal.returns-clause-contacts
returns-clause-contacts c = facts.cuts_are_contacts
