-- The nodes of boxes that conduct: each has one layer and one number in it.
use Rattle.std.proofs.Common.{◌≡◌, ℕ, ◌<◌, ◌+◌, ◌-◌, length, refl, arith}
use Rattle.geom.specs.declared.layer.Layer.{Layer}
use Rattle.geom.specs.declared.layer.Layer.TheVariants.{Diffusion, Poly, Metal, Cut, Implant}
use Rattle.nmos_extract.specs.Conducting.{Conducting, boxes_in, node, node_count}
use Rattle.nmos_extract.proofs.Lists.{by_order}

module _ (c : Conducting) where
  pub below_count : (layer : Layer) (i : ℕ) → i < length (boxes_in c layer) → node c layer i < node_count c
  below_count Metal i h = omega arith
  below_count Poly i h = omega arith
  below_count Diffusion i h = omega arith
  below_count Cut i h = absurd (omega arith)
  below_count Implant i h = absurd (omega arith)

  pub one_node : (layer other : Layer) (i j : ℕ) → i < length (boxes_in c layer) → j < length (boxes_in c other) → node c layer i ≡ node c other j
      → (layer ≡ other) × (i ≡ j)
  one_node Cut other i j h k e = absurd (omega arith)
  one_node Implant other i j h k e = absurd (omega arith)
  one_node Metal Metal i j h k e = (refl, omega arith)
  one_node Metal Poly i j h k e = absurd (omega arith)
  one_node Metal Diffusion i j h k e = absurd (omega arith)
  one_node Metal Cut i j h k e = absurd (omega arith)
  one_node Metal Implant i j h k e = absurd (omega arith)
  one_node Poly Metal i j h k e = absurd (omega arith)
  one_node Poly Poly i j h k e = (refl, omega arith)
  one_node Poly Diffusion i j h k e = absurd (omega arith)
  one_node Poly Cut i j h k e = absurd (omega arith)
  one_node Poly Implant i j h k e = absurd (omega arith)
  one_node Diffusion Metal i j h k e = absurd (omega arith)
  one_node Diffusion Poly i j h k e = absurd (omega arith)
  one_node Diffusion Diffusion i j h k e = (refl, omega arith)
  one_node Diffusion Cut i j h k e = absurd (omega arith)
  one_node Diffusion Implant i j h k e = absurd (omega arith)

  -- a node by its layer and its number there
  pub record Placed (n : ℕ) : Type 0 where
    pub layer : Layer
    pub number : ℕ
    pub within : number < length (boxes_in c layer)
    pub is : n ≡ node c layer number

  pub placed : (n : ℕ) → n < node_count c → Placed n
  placed n h =
      by_order n (length c.metal)
      (λ l. record { layer = Metal; number = n; within = l; is = omega arith })
      (λ e. behind (omega arith))
      (λ g. behind (omega arith))
    where
      behind : length c.metal < n + 1 → Placed n
      behind g = by_order n (length c.metal + length c.poly)
          (λ l. record { layer = Poly; number = n - length c.metal; within = omega arith; is = omega arith })
          (λ e. record { layer = Diffusion; number = n - (length c.metal + length c.poly); within = omega arith; is = omega arith })
          (λ k. record { layer = Diffusion; number = n - (length c.metal + length c.poly); within = omega arith; is = omega arith })
