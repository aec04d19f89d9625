-- Which nets of clocked logic a ternary settling tells, whatever charges are unknown.
use Rattle.std.specs.Prelude.{◌≡◌, ◌⊎◌, ℕ, ◌<◌, Bool, true, false, List, Contains, length, ⊤}
use Rattle.switch_net.specs.Circuit.{Circuit}
use Rattle.switch_net.specs.Settling.{Values}
use Rattle.switch_net.specs.ClockedLogic.{NetKind, IsClockedLogic, FollowsLogic, pulls_down}
use Rattle.switch_net.specs.ClockedLogic.NetKind.{fixed, gate, stored, isolated}
use Rattle.switch_net.specs.Ternary.{Levels, level_of, AfterUpdates}
use Rattle.switch_net.specs.declared.network.Net.{Net}
use Rattle.switch_net.specs.declared.network.Device.TheVariants.{Pass}

-- a pull-down of the net, by its gate
abbrev pub IsPullDown : Circuit → ℕ → Net → ℕ → Type 0
IsPullDown circuit ground input net = Contains circuit.devices (Pass input (record { 0 = net }) (record { 0 = ground }))

module _ (circuit : Circuit) (ground : ℕ) (kind : ℕ → NetKind) (q : Levels) (x : Values) (level : ℕ → ℕ) (known : ℕ → Bool) where
  -- the net is known and lies below the other
  abbrev pub IsKnownBelow : ℕ → ℕ → Type 0
  IsKnownBelow net above = (known net ≡ true) × (level net < level above)

  -- An input that is known to be high pulls the gate's output low.
  pub record IsPulledByKnown (net : ℕ) : Type 0 where
    pub input : ℕ
    pub in_nets : input < circuit.nets
    pub pulls : (w : Values) → w input ≡ true → pulls_down ground circuit.devices w net ≡ true
    pub high : x input ≡ true
    pub below : IsKnownBelow input net

  -- Why a net of this kind is known: a gate by one high input or by all its inputs, a storage node by its source while its
  -- clock is high, and by its charge while it is low. The level of a net lies above those of the nets that it is known by.
  abbrev pub IsTold : NetKind → ℕ → Type 0
  IsTold fixed net = ⊤
  IsTold gate net = IsPulledByKnown net ⊎ ((input : Net) → IsPullDown circuit ground input net → IsKnownBelow input.0 net)
  IsTold (stored clock source) net = (x clock ≡ true → IsKnownBelow source net) × (x clock ≡ false → q net ≡ level_of (x net))
  IsTold isolated net = ⊥

-- Nets that are known by one another in levels have their values after as many updates as their level counts, and after all later ones.
abbrev pub ToldNetsSettle : Type 0
ToldNetsSettle = (circuit : Circuit) (ground : ℕ) (kind : ℕ → NetKind) → IsClockedLogic circuit ground kind
    → (drives : List Bool) → length drives ≡ length circuit.pads
    → (q : Levels) (charges x : Values) → FollowsLogic circuit ground kind drives charges x
    → (level : ℕ → ℕ) (known : ℕ → Bool)
    → ((net : ℕ) → net < circuit.nets → known net ≡ true → IsTold circuit ground kind q x level known (kind net) net)
    → (n : ℕ) (v : Levels) → AfterUpdates circuit drives q n v → (net : ℕ) → net < circuit.nets → known net ≡ true → level net < n
    → v net ≡ level_of (x net)
