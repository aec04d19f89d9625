-- A test of all tiles of the table.
use Rattle.std.proofs.Common.{◌≡◌, ℕ, ◌<◌, Bool, true}
use Rattle.std.proofs.lemmas.Bool.{agree_below, agree_below_at}
use Rattle.micro_tiles.specs.Table.{tile_count}

-- each tile passes: this computes
unfoldable pub each_tile : (ℕ → Bool) → Bool
each_tile p = agree_below p (λ tile. true) tile_count

pub at_tile : (p : ℕ → Bool) (tile : ℕ) → each_tile p ≡ true → tile < tile_count → p tile ≡ true
unfolding each_tile
at_tile p tile all below = agree_below_at p (λ t. true) tile_count tile all below
