-- The gate and the terminals of a channel conduct, and regions are told by their first squares.
use Rattle.std.proofs.Common.{◌≡◌, inl, inr, ℤ, pos, ◌-ℤ◌, ◌≤ℤ◌, Bool, true, false, refl, sym, arith, if◌then◌else◌}
use Rattle.std.proofs.lemmas.Int.{ints, by_lt_z}
use Rattle.geom.specs.declared.layer.Layer.TheVariants.{Diffusion}
use Rattle.geom.specs.Squares.{Inside}
use Rattle.geom.specs.Merged.{InRow}
use Rattle.geom.specs.Rows.{Squares}
use Rattle.geom.specs.Conduction.{Drawing, ShareSide, IsChannel, Leads, Conducts, Spot}
use Rattle.geom.specs.Conduction.Leads.{here, step}
use Rattle.nmos_model.specs.declared.channel.Channel.{Channel}
use Rattle.nmos_model.specs.Channels.{IsByRow, Begins, InColumn, HasTerminals, IsTransistor, rectangle_of, gate_of, first_of, second_of}

-- the spot conducts
pub IsLive : Drawing → Spot → Type 0
IsLive Drawn spot = Conducts Drawn spot.layer spot.x spot.y

by_row : (x y u v : ℤ) → x ≤ℤ u → y ≤ℤ v → IsByRow x y u v
by_row x y u v l b = by_lt_z y v (λ lt. inl lt) (λ ge. inr (omega (arith, ints), l))

-- two squares, each by the other in row order, are one
pub one_place : (x y u v : ℤ) → IsByRow x y u v → IsByRow u v x y → (x ≡ u) × (y ≡ v)
one_place x y u v (inl a) (inl b) = absurd (omega (arith, ints))
one_place x y u v (inl a) (inr b) = let e = b.0 in absurd (omega (arith, ints))
one_place x y u v (inr a) (inl b) = let e = a.0 in absurd (omega (arith, ints))
one_place x y u v (inr a) (inr b) = let e = a.1 in let f = b.1 in (omega (arith, ints), a.0)

module _ (Drawn : Drawing) (c : Channel) (region : IsTransistor Drawn c) where
  pub corner : Inside (rectangle_of c) c.x1 c.y1
  corner = (region.full.squares c.x1 c.y1).0 (here c.x1 c.y1)

  in_column : InColumn (rectangle_of c) c.x1
  in_column = record { left = corner.left; right = corner.right }

  in_row : InRow (rectangle_of c) c.y1
  in_row = record { bottom = corner.bottom; top = corner.top }

  pub gate_conducts : Conducts Drawn (gate_of c).layer (gate_of c).x (gate_of c).y
  gate_conducts = region.full.channel.poly

  ends : (u : Bool) → HasTerminals Drawn u (rectangle_of c)
      → IsLive Drawn (if u then record { layer = Diffusion; x = c.x1; y = c.y2 } else record { layer = Diffusion; x = c.x1 -ℤ pos 1; y = c.y1 })
      × IsLive Drawn (if u then record { layer = Diffusion; x = c.x1; y = c.y1 -ℤ pos 1 } else record { layer = Diffusion; x = c.x2; y = c.y1 })
  unfolding IsLive
  ends true t = (t.0 c.x1 c.y2 (in_column, refl), t.1 c.x1 (c.y1 -ℤ pos 1) (in_column, omega (arith, ints)))
  ends false t = (t.0 (c.x1 -ℤ pos 1) c.y1 (in_row, omega (arith, ints)), t.1 c.x2 c.y1 (in_row, refl))

  pub first_conducts : Conducts Drawn (first_of c).layer (first_of c).x (first_of c).y
  unfolding IsLive
  first_conducts = (ends c.upright region.terminals).0

  pub second_conducts : Conducts Drawn (second_of c).layer (second_of c).x (second_of c).y
  unfolding IsLive
  second_conducts = (ends c.upright region.terminals).1

  -- the region begins at the lower left corner of the channel
  pub begins_at_corner : Begins Drawn c.x1 c.y1
  begins_at_corner = record {
    channel = region.full.channel;
    first = λ u v h. let i = (region.full.squares u v).0 h in by_row c.x1 c.y1 u v i.left i.bottom;
  }

-- ---- paths of squares

module _ (S : Squares) where
  pub chain : (x y u v s t : ℤ) → Leads S x y u v → Leads S u v s t → Leads S x y s t
  chain _ _ _ _ s t (here x y) q = q
  chain _ _ _ _ s t (step x y a b u v side member p) q = step x y a b s t side member (chain a b u v s t p q)

  turned : (x y u v : ℤ) → ShareSide x y u v → ShareSide u v x y
  turned x y u v (inl (e, inl f)) = inl (sym e, inr f)
  turned x y u v (inl (e, inr f)) = inl (sym e, inl f)
  turned x y u v (inr (e, inl f)) = inr (sym e, inr f)
  turned x y u v (inr (e, inr f)) = inr (sym e, inl f)

  -- a path between two squares of the set leads back
  pub back : (x y s t : ℤ) → S x y → Leads S x y s t → Leads S s t x y
  back _ _ _ _ h (here x y) = here x y
  back _ _ _ _ h (step x y u v s t side member p) =
      chain s t u v x y (back u v s t member p) (step u v x y x y (turned x y u v side) h (here x y))

-- two squares of one region begin it only where they are one
pub one_beginning : (Drawn : Drawing) (x y u v : ℤ) → Begins Drawn x y → Begins Drawn u v → Leads (IsChannel Drawn) x y u v → (x ≡ u) × (y ≡ v)
one_beginning Drawn x y u v b d path =
    one_place x y u v (b.first u v path) (d.first x y (back (IsChannel Drawn) x y u v b.channel path))
