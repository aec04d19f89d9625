-- When a failure has a cause: the object's own count of failures has risen.
use Rattle.std.specs.Prelude.{ℕ, ◌+◌, ◌-◌, ◌^◌, ◌≤◌, min}

-- the last number that a count reaches, where it stays
abbrev pub LAST_COUNT : ℕ
LAST_COUNT = 2 ^ 64 - 1

-- the count after one more event
abbrev pub next_count : ℕ → ℕ
next_count count = min (count + 1) LAST_COUNT

-- the count has risen; one that stood at its last number counts as risen
abbrev pub Rose : ℕ → ℕ → Type 0
Rose before now = next_count before ≤ now
