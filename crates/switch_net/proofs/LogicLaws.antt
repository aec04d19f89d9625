-- The laws of clocked logic, as its definitions state them.
use Rattle.std.proofs.Common.{◌≡◌, ℕ, List, Bool, length}
use Rattle.switch_net.proofs.LogicEquations.{follows_from_settled, settled_from_follows}
use Rattle.switch_net.proofs.LogicLevels.{reached, reached_follows, follows_agree}
use Rattle.switch_net.proofs.LogicNets.{Setting}
use Rattle.switch_net.specs.Circuit.{Circuit}
use Rattle.switch_net.specs.ClockedLogic.{NetKind, IsClockedLogic, SettlesAsLogic, LogicSettles, LogicIsDetermined, LogicHasValues, LogicValuesAgree}

setting : (circuit : Circuit) (ground : ℕ) (kind : ℕ → NetKind) → IsClockedLogic circuit ground kind
    → (drives : List Bool) → length drives ≡ length circuit.pads → Setting
setting circuit ground kind logic drives sized =
    record { circuit = circuit; ground = ground; kind = kind; logic = logic; drives = drives; sized = sized }

pub settles_as_logic : SettlesAsLogic
unfolding setting
settles_as_logic circuit ground kind logic drives sized q v =
    let s = setting circuit ground kind logic drives sized in
    (follows_from_settled s q v, settled_from_follows s q v)

pub logic_has_values : LogicHasValues
unfolding setting
logic_has_values circuit ground kind logic drives sized level levelled q =
    let s = setting circuit ground kind logic drives sized in
    (reached s level q, reached_follows s level levelled q)

pub logic_values_agree : LogicValuesAgree
unfolding setting
logic_values_agree circuit ground kind logic drives sized level levelled q v w a b net below =
    follows_agree (setting circuit ground kind logic drives sized) level levelled q v w a b net below

pub logic_settles : LogicSettles
logic_settles circuit ground kind logic drives sized level levelled q =
    let values = logic_has_values circuit ground kind logic drives sized level levelled q in
    (values.0, (settles_as_logic circuit ground kind logic drives sized q values.0).1 values.1)

pub logic_is_determined : LogicIsDetermined
logic_is_determined circuit ground kind logic drives sized level levelled q v w a b net below =
    logic_values_agree circuit ground kind logic drives sized level levelled q v w
    ((settles_as_logic circuit ground kind logic drives sized q v).0 a)
    ((settles_as_logic circuit ground kind logic drives sized q w).0 b) net below
