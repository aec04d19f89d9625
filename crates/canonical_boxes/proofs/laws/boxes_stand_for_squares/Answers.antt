-- Boxes are runs, and lead as their squares do.
use Rattle.canonical_boxes.proofs.Runs.{runs_of}
use Rattle.canonical_boxes.proofs.Leads.{leads_by_touches}
use Rattle.canonical_boxes.proofs.laws.boxes_stand_for_squares.Goals as goal

pub returns : goal.returns
returns c = record { runs = runs_of; leads = leads_by_touches }
