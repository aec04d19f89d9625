-- Which loads of a part are open, by marks on its nets.
use Rattle.std.specs.Prelude.{◌≡◌, ℕ, ◌<◌, ◌^◌, Bool, false, List, length, get_or}
use Rattle.nor_net.specs.Netlist.{NorGate}
use Rattle.nor_net.specs.Part.{PartTables}
use Rattle.gate_matrix.specs.PartRows.{is_open}

-- For each net that a part may have, the marks tell whether its load is open behind these gates.
pub record AreOpen (part : PartTables) (earlier : List NorGate) (marks : List Bool) : Type 0 where
  pub size : length marks ≡ 2 ^ 16
  pub told : (net : ℕ) → net < 2 ^ 16 → get_or marks net false ≡ is_open part earlier net
