-- Names and nets in sets, as the look-up of a pad that repeats another keeps them.
use Rattle.std.specs.Prelude.{◌≡◌, ℕ, ◌==◌, List}
use Rattle.std.specs.Ordering.{nat_cmp}
use Rattle.std.specs.List.{list_any}
use Rattle.std.specs.BTreeSet.{BTreeSet, contains}
use Rattle.switch_net.specs.NameKeys.{NameKey, compare_keys, has_key}
use Rattle.switch_net.specs.declared.network.Pad.{Pad}

-- the set has the names of these pads
abbrev pub HasNames : BTreeSet NameKey → List Pad → Type 0
HasNames names pads = (key : NameKey) → contains compare_keys names key ≡ list_any (λ pad. has_key pad.name key) pads

-- the set has the nets of these pads
abbrev pub HasNets : BTreeSet ℕ → List Pad → Type 0
HasNets nets pads = (net : ℕ) → contains nat_cmp nets net ≡ list_any (λ pad. pad.net.0 == net) pads
