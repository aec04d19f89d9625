-- Classes that are flooded from their first nodes.
use Rattle.std.specs.Prelude.{◌≡◌, ◌≢◌, ◌⊎◌, ℕ, ◌<◌, ◌≤◌, ◌+◌, ◌*◌, Bool, true, List, [], ◌∷◌, length, count_by, is_none, Option, Some, None, slice_get, slice_index_or, slice_set, ◌++◌}
use Rattle.geom.specs.Rows.{Among}
use Rattle.nmos_model.specs.Classes.{Linked, Reaches, class_at}

-- Some nodes have classes, and a node that is linked to one of a class has this class too, unless that one waits.
-- All nodes below a place have classes.
pub record IsFlooding (nodes : ℕ) (is_node : ℕ → Bool) (links : ℕ → List (Option ℕ)) (place : ℕ)
    (numbers : List (Option ℕ)) (firsts waiting : List ℕ) : Type 0 where
  pub size : length numbers ≡ nodes
  pub few : length firsts ≤ place
  pub node : (a class : ℕ) → class_at numbers a ≡ Some class → is_node a ≡ true
  pub below : (a class : ℕ) → class_at numbers a ≡ Some class → class < length firsts
  pub rooted : (a class f : ℕ) → class_at numbers a ≡ Some class → slice_get firsts class ≡ Some f → Reaches links f a
  pub lowest : (a class f : ℕ) → class_at numbers a ≡ Some class → slice_get firsts class ≡ Some f → f ≤ a
  pub first : (class f : ℕ) → slice_get firsts class ≡ Some f → class_at numbers f ≡ Some class
  pub early : (class f : ℕ) → slice_get firsts class ≡ Some f → f < place
  pub ascending : (class later f g : ℕ) → slice_get firsts class ≡ Some f → slice_get firsts later ≡ Some g → class < later → f < g
  pub visited : (a : ℕ) → a < place → is_node a ≡ true → class_at numbers a ≢ None
  pub closed : (a b class : ℕ) → class_at numbers a ≡ Some class → Linked links a b → Among waiting a ⊎ (class_at numbers b ≡ Some class)

-- The class exists, and all that wait are of it.
pub record IsOpen (class : ℕ) (numbers : List (Option ℕ)) (firsts waiting : List ℕ) : Type 0 where
  pub some : class < length firsts
  pub alike : (a : ℕ) → Among waiting a → class_at numbers a ≡ Some class

-- the place behind the first node of the class
abbrev pub behind_first : List ℕ → ℕ → ℕ
behind_first firsts class = slice_index_or firsts class 0 + 1

-- how many numbers have no class, counted twice, and how many nodes wait
abbrev pub work_left : List (Option ℕ) → List ℕ → ℕ
work_left numbers waiting = 2 * count_by is_none numbers + length waiting

-- The node takes the class and waits, where it has none.
pub record Takes (node class : ℕ) (numbers : List (Option ℕ)) (waiting : List ℕ) (numbers_new : List (Option ℕ)) (waiting_new : List ℕ) : Type 0 where
  pub had : (other : ℕ) → class_at numbers node ≡ Some other → (numbers_new ≡ numbers) × (waiting_new ≡ waiting)
  pub took : class_at numbers node ≡ None → (numbers_new ≡ slice_set numbers node (Some class)) × (waiting_new ≡ waiting ++ node ∷ [])
