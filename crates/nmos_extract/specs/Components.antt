-- The components of a set of squares, as classes of its boxes.
use Rattle.std.specs.Prelude.{◌≡◌, ◌↔◌, ℕ, ◌<◌, ◌≤◌, ◌^◌, List, length, Some, slice_get}
use Rattle.geom.specs.Squares.{BoxShape}
use Rattle.canonical_boxes.specs.Laws.{BoxesLead}
use Rattle.nmos_model.specs.Classes.{Classing, class_at}

-- Each box has a class. Boxes have one class exactly where boxes that touch lead from one to the other. Classes are numbered by their first
-- boxes.
pub record AreComponents (m : List BoxShape) (classes : Classing) : Type 0 where
  pub size : length classes.numbers ≡ length m
  pub few : length m < 2 ^ 32
  pub some : (i : ℕ) → i < length m → (class : ℕ) × (class_at classes.numbers i ≡ Some class) × (class < length classes.firsts)
  pub one : (i j class : ℕ) → i < length m → class_at classes.numbers i ≡ Some class → (class_at classes.numbers j ≡ Some class) ↔ BoxesLead m i j
  pub first : (class i : ℕ) → slice_get classes.firsts class ≡ Some i → class_at classes.numbers i ≡ Some class
  pub lowest : (class i j : ℕ) → slice_get classes.firsts class ≡ Some i → class_at classes.numbers j ≡ Some class → i ≤ j
  pub ascending : (class later i j : ℕ) → slice_get classes.firsts class ≡ Some i → slice_get classes.firsts later ≡ Some j → class < later → i < j
