-- Numbers for the nets of a drawing.
use Rattle.std.specs.Prelude.{◌≡◌, ◌↔◌, ℕ, ◌<◌, ℤ, Option, Some}
use Rattle.geom.specs.declared.layer.Layer.{Layer}
use Rattle.geom.specs.Conduction.{Drawing, Spot, Conducts, Joined}

-- Nets have numbers from 0: each conducting square has that of its net, and no other square has one. Two squares have one net
-- exactly where they are joined.
pub record AreNets (Drawn : Drawing) (count : ℕ) (net : Layer → ℤ → ℤ → Option ℕ) : Type 0 where
  pub some : (layer : Layer) (x y : ℤ) → Conducts Drawn layer x y → (n : ℕ) × (net layer x y ≡ Some n) × (n < count)
  pub conducts : (layer : Layer) (x y : ℤ) (n : ℕ) → net layer x y ≡ Some n → Conducts Drawn layer x y
  pub all : (n : ℕ) → n < count → (a : Spot) × Conducts Drawn a.layer a.x a.y × (net a.layer a.x a.y ≡ Some n)
  pub one : (a b : Spot) → Conducts Drawn a.layer a.x a.y → Conducts Drawn b.layer b.x b.y
      → (net a.layer a.x a.y ≡ net b.layer b.x b.y) ↔ Joined Drawn a b
