-- How many rows a part needs where it is drawn: how many of its gates have their load in it, and what else there is.
use Rattle.std.specs.Prelude.{◌≡◌, ℕ, ◌==◌, ◌≤◌, false, true, List, ◌++◌, length, All}
use Rattle.std.specs.List.{list_any}
use Rattle.nor_net.specs.Netlist.{NorGate}
use Rattle.nor_net.specs.Evaluation.{is_output}
use Rattle.nor_net.specs.Part.{PartTables}

-- At most so many gates may have their load in the part, and the others, at most so many, have none there. At most so many loads
-- have no gate in the part, and there are at most so many transfers.
pub record HasShape (part : PartTables) (loaded unloaded bare transfers : ℕ) : Type 0 where
  pub loaded_gates : List NorGate
  pub other_gates : List NorGate
  pub gates : part.gates ≡ loaded_gates ++ other_gates
  pub few_loaded : length loaded_gates ≤ loaded
  pub few_others : length other_gates ≤ unloaded
  pub others_unloaded : All (λ gate. list_any (λ net. net == gate.out) part.loads ≡ false) other_gates
  pub driven_loads : List ℕ
  pub bare_loads : List ℕ
  pub loads : part.loads ≡ driven_loads ++ bare_loads
  pub driven : All (λ net. is_output part.gates net ≡ true) driven_loads
  pub few_bare : length bare_loads ≤ bare
  pub few_transfers : length part.transfers ≤ transfers
