-- Nets that wait for their devices to be looked at.
use Rattle.std.specs.Prelude.{◌≡◌, ◌⊎◌, ℕ, ◌<◌, ◌≤◌, Bool, true, false, List, [], ◌∷◌, ◌++◌, length, take, count_by, slice_index_or}

-- the net is one of these
abbrev pub Waits : List ℕ → ℕ → Type 0
Waits [] net = ⊥
Waits (first ∷ nets) net = (first ≡ net) ⊎ Waits nets net

-- The list is the other, or the other with the net behind it.
abbrev pub IsBehind : List ℕ → ℕ → List ℕ → Type 0
IsBehind old net new = (new ≡ old) ⊎ (new ≡ old ++ net ∷ [])

-- how many nets there are, and those that wait
pub record WaitingNets : Type 0 where
  pub size : ℕ
  pub nets : List ℕ

-- So many nets at the front of the list wait. Each flagged net is one of them, and there are no more than flags.
pub record IsWaiting (count : ℕ) (nets : List ℕ) (flags : List Bool) : Type 0 where
  pub size : length nets ≡ length flags
  pub room : count ≤ count_by (λ flag. flag) flags
  pub below : (i : ℕ) → i < count → slice_index_or nets i 0 < length flags
  pub listed : (net : ℕ) → slice_index_or flags net false ≡ true → Waits (take count nets) net
