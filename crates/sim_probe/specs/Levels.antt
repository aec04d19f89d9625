-- What a list of samples tells of its pads and clocks.
use Rattle.std.specs.Prelude.{ℕ, ◌==◌, Bool, true, false, not, List, [], ◌∷◌, map, Option, Some, None, option_map}
use Rattle.std.specs.List.{filter, fold}
use Rattle.std.specs.Ordering.{nat_cmp}
use Rattle.std.specs.BTreeSet.{insert_key}
use Rattle.switch_net.specs.declared.network.Level.{Level}
use Rattle.switch_net.specs.declared.network.Level.TheVariants.{Low, High, Unknown}
use Rattle.sim_probe.specs.declared.sample.Sample.{Sample}

-- the levels of the pad, in order
abbrev pub levels_of : ℕ → List Sample → List Level
levels_of pad samples = map (λ sample. sample.value) (filter (λ sample. sample.pad == pad) samples)

-- the pads, each once, in ascending order
abbrev pub pads_of : List Sample → List ℕ
pads_of samples = fold (λ pads sample. insert_key nat_cmp pads sample.pad) [] samples

-- the last of a list, if it has one
abbrev pub last_of : {A : Type 0} → List A → Option A
last_of [] = None
last_of (x ∷ []) = Some x
last_of (x ∷ next ∷ more) = last_of (next ∷ more)

-- the clock of the last sample
abbrev pub last_clock : List Sample → Option ℕ
last_clock samples = option_map (λ sample. sample.at) (last_of samples)

-- there are two clocks, and they are the same
abbrev pub is_same_clock : Option ℕ → Option ℕ → Bool
is_same_clock None other = false
is_same_clock (Some one) None = false
is_same_clock (Some one) (Some other) = one == other

abbrev pub is_same_level : Level → Level → Bool
is_same_level Low Low = true
is_same_level High High = true
is_same_level Unknown Unknown = true
is_same_level one other = false

-- there is no last level, or this is another
abbrev pub is_change : Option Level → Level → Bool
is_change None level = true
is_change (Some last) level = not (is_same_level last level)
