-- Pads by their names and nets, as the naming of nets looks them up.
use Rattle.std.specs.Prelude.{◌≡◌, ◌≢◌, ◌⊎◌, ℕ, if◌then◌else◌, List, [], ◌∷◌, ◌++◌, Option, Some, None}
use Rattle.std.specs.BTreeMap.{BTreeMap, get}
use Rattle.geom.specs.Rows.{Among}
use Rattle.switch_net.specs.declared.network.Pad.{Pad}
use Rattle.switch_net.specs.NameKeys.{NameKey, compare_keys, has_key}
use Rattle.switch_net.specs.SeenPads.{HasNets}
use Rattle.switch_net.specs.Validity.{AreDistinct}
use Rattle.nmos_model.specs.declared.known_pads.KnownPads.{KnownPads}

-- the net of the first of these pads whose name has the key
abbrev pub net_of_key : List Pad → NameKey → Option ℕ
net_of_key [] key = None
net_of_key (pad ∷ pads) key = if has_key pad.name key then Some pad.net.0 else net_of_key pads key

-- The map has the nets of these pads by their names.
abbrev pub HasNames : BTreeMap NameKey ℕ → List Pad → Type 0
HasNames names pads = (key : NameKey) → get compare_keys names key ≡ net_of_key pads key

-- The map and the set have the names and the nets of the pads.
pub record IsKnown (known : KnownPads) : Type 0 where
  pub names : HasNames known.names known.pads.items
  pub nets : HasNets known.nets known.pads.items

-- The pad is one of these, which stay; or it differs from each of them in name and net, and stands behind them.
abbrev pub IsAdded : List Pad → Pad → List Pad → Type 0
IsAdded pads pad new =
    (Among pads pad × (new ≡ pads)) ⊎ (((one : Pad) → Among pads one → AreDistinct one pad) × (new ≡ pads ++ pad ∷ []))

-- One of these has the name of the pad on another net, or another name on its net.
abbrev pub HasClash : List Pad → Pad → Type 0
HasClash pads pad = (one : Pad) × Among pads one
    × (((one.name ≡ pad.name) × (one.net ≢ pad.net)) ⊎ ((one.name ≢ pad.name) × (one.net ≡ pad.net)))
