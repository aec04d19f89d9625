-- Room for the nets of a network.
use Rattle.std.specs.Prelude.{◌≡◌, ℕ}
use Rattle.switch_sim.specs.declared.waiting.Lists.{Lists}

-- each list has room for so many nets
pub record HaveRoom (nets : ℕ) (lists : Lists) : Type 0 where
  pub group : lists.group.size ≡ nets
  pub part : lists.part.size ≡ nets
  pub now : lists.now.size ≡ nets
  pub next : lists.next.size ≡ nets
