-- What clauses see of a source and of a sink in memory.
use Rattle.std.specs.Prelude.{ℕ, ◌≤◌, List}

pub record MemorySource : Type 0 where
  -- the bytes still to come
  pub left : List ℕ
  -- the numbers, from 1, of the reads that fail
  pub failing : List ℕ
  -- how many reads there were
  pub calls : ℕ
  -- how many of them failed
  pub faults : ℕ

pub record MemorySink : Type 0 where
  -- the bytes taken
  pub held : List ℕ
  -- how many bytes it holds at most
  pub room : ℕ
  -- the numbers, from 1, of the writes that fail
  pub failing : List ℕ
  -- how many bytes it takes from one write at most
  pub most : ℕ
  -- how many writes of a piece with some bytes there were
  pub calls : ℕ
  -- how many of them failed
  pub faults : ℕ

-- a list of this length and capacity has this room, and a write may take a byte
pub record HasRoom (taken capacity room most : ℕ) : Type 0 where
  pub within : taken ≤ room
  pub reserved : room ≤ capacity
  pub takes : 1 ≤ most
