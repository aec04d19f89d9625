-- Paths of links: one behind another, and back.
use Rattle.std.proofs.Common.{◌≡◌, ℕ, Bool, true, List, Option}
use Rattle.nmos_model.specs.Classes.{Linked, Reaches, IsGraph}
use Rattle.nmos_model.specs.Classes.Reaches.{here, step}

module _ (links : ℕ → List (Option ℕ)) where
  pub joined : (a b c : ℕ) → Reaches links a b → Reaches links b c → Reaches links a c
  joined _ _ c (here a) q = q
  joined _ _ c (step a d b l p) q = step a d c l (joined d b c p q)

  pub longer : (a b c : ℕ) → Reaches links a b → Linked links b c → Reaches links a c
  longer a b c p l = joined a b c p (step b c c l (here c))

  module _ (nodes : ℕ) (is_node : ℕ → Bool) (graph : IsGraph nodes is_node links) where
    pub back : (a b : ℕ) → is_node a ≡ true → Reaches links a b → Reaches links b a
    back _ _ n (here a) = here a
    back _ _ n (step a d b l p) = longer b d a (back d b (graph.further a d n l) p) (graph.back a d n l)
