-- Drawings that cover the same squares have the same transistors.
use Rattle.std.proofs.Common.{ℤ, Bool, true, false}
use Rattle.geom.specs.declared.layer.Layer.TheVariants.{Diffusion, Poly, Implant}
use Rattle.geom.specs.Squares.{BoxShape}
use Rattle.geom.specs.Conduction.{Drawing, IsChannel, Leads, Conducts}
use Rattle.geom.specs.Conduction.Leads.{here, step}
use Rattle.nmos_model.specs.declared.channel.Channel.{Channel}
use Rattle.nmos_model.specs.Alike.{CoverAlike}
use Rattle.nmos_model.specs.Channels.{IsFull, IsImplanted, HasTerminals, IsTransistor, rectangle_of}

module _ (D E : Drawing) (to : CoverAlike D E) where
  pub channel : (x y : ℤ) → IsChannel D x y → IsChannel E x y
  channel x y h = record { diffusion = (to Diffusion x y).0 h.diffusion; poly = (to Poly x y).0 h.poly }

  conducts : (x y : ℤ) → Conducts D Diffusion x y → Conducts E Diffusion x y
  conducts x y h = ((to Diffusion x y).0 h.0, λ poly. h.1 ((to Poly x y).1 poly))

  leads : (x y u v : ℤ) → Leads (IsChannel D) x y u v → Leads (IsChannel E) x y u v
  leads _ _ _ _ (here x y) = here x y
  leads _ _ _ _ (step x y u v s t side is rest) = step x y u v s t side (channel u v is) (leads u v s t rest)

module _ (D E : Drawing) (to : CoverAlike D E) where
  abbrev from : CoverAlike E D
  from layer x y = ((to layer x y).1, (to layer x y).0)

  full : (x y : ℤ) (r : BoxShape) → IsFull D x y r → IsFull E x y r
  full x y r h = record {
    channel = channel D E to x y h.channel;
    squares = λ u v. (λ path. (h.squares u v).0 (leads E D from x y u v path), λ i. leads D E to x y u v ((h.squares u v).1 i));
  }

  implanted : (depletion : Bool) (r : BoxShape) → IsImplanted D depletion r → IsImplanted E depletion r
  implanted true r h = λ x y i. (to Implant x y).0 (h x y i)
  implanted false r h = λ x y i implant. h x y i ((to Implant x y).1 implant)

  terminals : (upright : Bool) (r : BoxShape) → HasTerminals D upright r → HasTerminals E upright r
  terminals true r h = (
    λ x y on. conducts D E to x y (h.0 x y on),
    λ x y on. conducts D E to x y (h.1 x y on),
    λ x y on c. h.2 x y on (conducts E D from x y c),
    λ x y on c. h.3 x y on (conducts E D from x y c),
  )
  terminals false r h = (
    λ x y on. conducts D E to x y (h.0 x y on),
    λ x y on. conducts D E to x y (h.1 x y on),
    λ x y on c. h.2 x y on (conducts E D from x y c),
    λ x y on c. h.3 x y on (conducts E D from x y c),
  )

  pub transistor : (c : Channel) → IsTransistor D c → IsTransistor E c
  transistor c h = record {
    full = full c.x1 c.y1 (rectangle_of c) h.full;
    implant = implanted c.depletion (rectangle_of c) h.implant;
    terminals = terminals c.upright (rectangle_of c) h.terminals;
  }
