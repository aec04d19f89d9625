-- Two components of a layer are never too close: near squares of diffusion, poly or metal are joined.
use Rattle.std.proofs.Common.{◌≡◌, ℕ, ◌≤◌, ℤ, ◌<ℤ◌, ◌⊎◌, IsTrue, inl, inr, refl, arith}
use Rattle.std.proofs.lemmas.Int.{ints}
use Rattle.geom.specs.declared.layer.Layer.{Layer}
use Rattle.geom.specs.declared.layer.Layer.TheVariants.{Diffusion, Poly, Metal}
use Rattle.geom.specs.Conduction.{Drawing}
use Rattle.micro_tiles.specs.Strips.{leads_out}
use Rattle.nmos_model.specs.Channels.{IsByRow}
use Rattle.lambda_rules.specs.Classes.{InClass, AreWithin}
use Rattle.lambda_rules.specs.Rules.{AreClose}
use Rattle.tile_rules.proofs.Steps.{chain, back, ends}
use Rattle.tile_rules.proofs.Partners.{no_partner}
use Rattle.tile_rules.proofs.Tiled.{Tiled}
use Rattle.tile_rules.proofs.Strips.{near_joined}

no_order : (a b c d : ℤ) → (b <ℤ d) ⊎ ((b ≡ d) × (a <ℤ c)) → IsByRow c d a b → ⊥
no_order a b c d (inl below) (inl above) = omega (arith, ints)
no_order a b c d (inl below) (inr level) = let e = level.0 in omega (arith, ints)
no_order a b c d (inr before) (inl above) = let e = before.0 in omega (arith, ints)
no_order a b c d (inr before) (inr after) = let e = before.1 in let f = after.1 in omega (arith, ints)

module _ (Drawn : Drawing) (t : Tiled Drawn) where
  module _ (layer : Layer) (out : IsTrue (leads_out layer)) where
    -- Classes that come near each other are one.
    one_class : (a b c d x y u v : ℤ) → InClass (Drawn layer) a b x y → InClass (Drawn layer) c d u v → AreWithin 3 x y u v
        → InClass (Drawn layer) c d a b
    one_class a b c d x y u v one other within =
        let S = Drawn layer in
        let near = near_joined Drawn t layer x y u v out (ends S a b x y one.inside one.leads) (ends S c d u v other.inside other.leads) within in
        record { inside = other.inside; leads = chain S c d u v a b other.leads (back S a b u v one.inside (chain S a b x y u v one.leads near)) }

    not_close : (s : ℕ) (a b c d x y : ℤ) → s ≤ 3 → AreClose Drawn layer s a b c d x y → ⊥
    not_close s a b c d x y few close = no_partner s (InClass (Drawn layer) a b) (InClass (Drawn layer) c d) few
        (λ x y u v one other within.
        no_order a b c d close.before (close.second.first a b (one_class a b c d x y u v one other within))) x y close.meet.holds

  pub diffusion_apart : (a b c d x y : ℤ) → AreClose Drawn Diffusion 3 a b c d x y → ⊥
  diffusion_apart a b c d x y = not_close Diffusion refl 3 a b c d x y (omega arith)

  pub poly_apart : (a b c d x y : ℤ) → AreClose Drawn Poly 2 a b c d x y → ⊥
  poly_apart a b c d x y = not_close Poly refl 2 a b c d x y (omega arith)

  pub metal_apart : (a b c d x y : ℤ) → AreClose Drawn Metal 3 a b c d x y → ⊥
  metal_apart a b c d x y = not_close Metal refl 3 a b c d x y (omega arith)
