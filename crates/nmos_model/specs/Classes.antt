-- Classes of nodes: two nodes are of one class where a path of links leads from one to the other.
use Rattle.std.specs.Prelude.{◌≡◌, ◌↔◌, ℕ, ◌<◌, ◌≤◌, Bool, true, false, List, length, Option, Some, None, slice_get, slice_index_or}

-- one of the first node's links leads to the second
abbrev pub Linked : (ℕ → List (Option ℕ)) → ℕ → ℕ → Type 0
Linked links a b = (at : ℕ) × (slice_get (links a) at ≡ Some (Some b))

-- A path of links leads from the first node to the second.
pub data Reaches (links : ℕ → List (Option ℕ)) : ℕ → ℕ → Type 0 where
  here : (a : ℕ) → Reaches links a a
  step : (a b c : ℕ) → Linked links a b → Reaches links b c → Reaches links a c

-- Links of a node lead to nodes, and from these back.
pub record IsGraph (nodes : ℕ) (is_node : ℕ → Bool) (links : ℕ → List (Option ℕ)) : Type 0 where
  pub within : (a b : ℕ) → is_node a ≡ true → Linked links a b → b < nodes
  pub further : (a b : ℕ) → is_node a ≡ true → Linked links a b → is_node b ≡ true
  pub back : (a b : ℕ) → is_node a ≡ true → Linked links a b → Linked links b a

-- the class of each number, where it is a node's, and the first node of each class
pub record Classing : Type 0 where
  pub numbers : List (Option ℕ)
  pub firsts : List ℕ

-- the class of the node
abbrev pub class_at : List (Option ℕ) → ℕ → Option ℕ
class_at numbers a = slice_index_or numbers a None

-- Nodes have one class exactly where a path leads from one to the other. Classes are numbered by their first nodes.
pub record IsClassing (nodes : ℕ) (is_node : ℕ → Bool) (links : ℕ → List (Option ℕ)) (classes : Classing) : Type 0 where
  pub size : length classes.numbers ≡ nodes
  pub few : length classes.firsts ≤ nodes
  pub some : (a : ℕ) → a < nodes → is_node a ≡ true → (class : ℕ) × (class_at classes.numbers a ≡ Some class) × (class < length classes.firsts)
  pub none : (a : ℕ) → is_node a ≡ false → class_at classes.numbers a ≡ None
  pub one : (a b class : ℕ) → class_at classes.numbers a ≡ Some class → (class_at classes.numbers b ≡ Some class) ↔ Reaches links a b
  pub first : (class a : ℕ) → slice_get classes.firsts class ≡ Some a → class_at classes.numbers a ≡ Some class
  pub lowest : (class a b : ℕ) → slice_get classes.firsts class ≡ Some a → class_at classes.numbers b ≡ Some class → a ≤ b
  pub ascending : (class later a b : ℕ) → slice_get classes.firsts class ≡ Some a → slice_get classes.firsts later ≡ Some b → class < later → a < b
