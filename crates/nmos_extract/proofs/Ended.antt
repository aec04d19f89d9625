-- Boxes that are regions are channels where they have terminals, and the first that has none is the first region without.
use Rattle.std.proofs.Common.{◌≡◌, ◌↔◌, ◌⊎◌, inl, inr, ℕ, ◌<◌, ℤ, pos, ◌+ℤ◌, ◌-ℤ◌, ◌≤ℤ◌, ◌<ℤ◌, Bool, true, false, List, length, slice_index_or, get_or, refl, sym, ◌∙◌, ap, subst, arith}
use Rattle.std.proofs.lemmas.Int.{ints, by_lt_z}
use Rattle.geom.specs.declared.layer.Layer.TheVariants.{Diffusion, Implant}
use Rattle.geom.specs.Conduction.{Leads, Drawing, IsChannel, Conducts}
use Rattle.geom.specs.Squares.{BoxShape, IsBox, Inside}
use Rattle.geom.specs.Rows.{Among, Over, Pairwise, IsRun}
use Rattle.canonical_boxes.specs.Canonical.{IsCanonical, IsAt}
use Rattle.canonical_boxes.specs.Held.{InArea, Holds}
use Rattle.canonical_boxes.specs.Laws.{AreNumbered, BoxesAreRuns, SquaresLeadByTouches}
use Rattle.nmos_model.specs.declared.channel.Channel.{Channel}
use Rattle.nmos_model.specs.Channels.{IsFull, IsImplanted, HasTerminals, IsTransistor, AreChannels, AreApart, IsEarlier, IsByRow, rectangle_of, Above, Below, LeftOf, RightOf, AllConduct, NoneConducts}
use Rattle.nmos_model.specs.Devices.{IsNear}
use Rattle.nmos_model.specs.Refusals.{HasOddTerminals, IsFirstRegion, HasChannels, IsOdd}
use Rattle.nmos_extract.specs.Areas.{above, below, left_of, right_of}
use Rattle.nmos_extract.specs.Sides.{IsFree, HasSides}
use Rattle.nmos_extract.specs.Regions.{IsRegion, IsSomeRegion, IsFirstNot, AreRegions, HasSomeSides, AreChannelsOf, channel_of}
use Rattle.nmos_extract.specs.Terminals.{AreChannelSquares, AreTerminals}
use Rattle.nmos_extract.proofs.Lists.{at_of, at_among, among_at, pairwise_of}
use Rattle.nmos_extract.proofs.Boxed.{at_least, corner, box_at, over_box, one_over, run_at, nothing_below}
use Rattle.nmos_extract.proofs.Sided as Sided
use Rattle.nmos_extract.proofs.Sided.{SameEdges, same_edges}
use Rattle.nmos_extract.proofs.Firsts.{first_region, full_region, stays_in, not_odd, implanted, in_row}

module _ (numbered : AreNumbered) (runs : BoxesAreRuns) (by_touches : SquaresLeadByTouches)
    (Drawn : Drawing) (m : List BoxShape) (canonical : IsCanonical m) (squares : AreChannelSquares Drawn m)
    (implant : List BoxShape) (covers : (x y : ℤ) → Over implant x y ↔ Drawn Implant x y)
    (diffusion : List BoxShape) (drawn : (x y : ℤ) → Over diffusion x y ↔ Drawn Diffusion x y)
    (terminals : List BoxShape) (conduct : AreTerminals Drawn terminals)
    (depletion : List Bool) (regions : AreRegions m implant depletion) where
  every : (k : ℕ) (b : BoxShape) → IsAt m k b → k < length m → IsSomeRegion m implant b
  every k b at l = (slice_index_or depletion k false, regions.each k b at)

  full_at : (k : ℕ) (b : BoxShape) → IsAt m k b → (x y : ℤ) → Inside b x y → (r : BoxShape) → ((u v : ℤ) → Inside b u v ↔ Inside r u v) → IsFull Drawn x y r
  full_at k b at = full_region numbered runs by_touches Drawn m canonical squares implant covers (length m) every k b at at.within

  confined_at : (k : ℕ) (b : BoxShape) → IsAt m k b → (x y u v : ℤ) → Inside b x y → Leads (IsChannel Drawn) x y u v → Inside b u v
  confined_at k b at = stays_in numbered runs by_touches Drawn m canonical squares implant covers (length m) every k b at at.within

  -- No region is odd.
  pub none_odd : (x y : ℤ) → IsChannel Drawn x y → IsOdd Drawn x y → ⊥
  none_odd x y h odd =
      let o = numbered.number m x y ((squares x y).1 h) in
      not_odd numbered runs by_touches Drawn m canonical squares implant covers (length m) every o.0 o.1.box o.1.at o.1.at.within x y o.1.inside odd

  module _ (k : ℕ) (b : BoxShape) (at : IsAt m k b) where
    abbrev box : IsBox b
    box = box_at numbered runs by_touches Drawn m canonical squares k b at

    none_above : (x y : ℤ) → InArea (above b) x y → Over m x y → ⊥
    none_above = (regions.each k b at).top

    none_below : (x y : ℤ) → InArea (below b) x y → Over m x y → ⊥
    none_below x y i over =
        let l : (b.x1 ≤ℤ x) = i.left in
        let r : (x <ℤ b.x2) = i.right in
        let d : ((b.y1 -ℤ pos 1) ≤ℤ y) = i.bottom in
        let t : (y <ℤ b.y1) = i.top in
        nothing_below numbered runs by_touches Drawn m canonical squares (length m) (λ j q p z. (regions.each j q p).top) k b at at.within x y l r
        (omega (arith, ints)) over

    -- The sides of the box are its terminals.
    pub sides_are : (upright : Bool) (r : BoxShape) → SameEdges b r → HasSides terminals diffusion upright b ↔ HasTerminals Drawn upright r
    sides_are = Sided.sides_are numbered runs by_touches Drawn m canonical squares diffusion drawn terminals conduct k b at none_above none_below

    -- a full rectangle at a square of the box has its edges
    pub edges_at : (x y : ℤ) → Inside b x y → (r : BoxShape) → IsFull Drawn x y r → SameEdges b r
    edges_at x y h r full =
        let own : IsFull Drawn x y b = full_at k b at x y h b (λ u v. ((λ p. p), (λ p. p))) in
        same_edges b r box (λ u v. (
          (λ i. (full.squares u v).0 ((own.squares u v).1 i)),
          (λ i. (own.squares u v).0 ((full.squares u v).1 i)),
        ))

    pub not_ended : (x y : ℤ) → Inside b x y → HasSomeSides terminals diffusion b → HasOddTerminals Drawn x y → ⊥
    not_ended x y h sides odd =
        let self : SameEdges b b = record { left = refl; right = refl; bottom = refl; top = refl } in
        odd b sides.0 (full_at k b at x y h b (λ u v. ((λ p. p), (λ p. p)))) ((sides_are sides.0 b self).0 sides.1)

  -- The first box without terminals is where the first region without begins.
  pub first_ended : (i : ℕ) (b : BoxShape) → IsFirstNot (HasSomeSides terminals diffusion) m i b → IsFirstRegion Drawn (HasOddTerminals Drawn) b.x1 b.y1
  first_ended i b f =
      let first : Inside b b.x1 b.y1 = corner b (box i b f.at) in
      let channel : IsChannel Drawn b.x1 b.y1 = (squares b.x1 b.y1).0 (over_box numbered runs by_touches Drawn m canonical squares i b f.at b.x1 b.y1 first) in
      first_region numbered runs by_touches Drawn m canonical squares (HasOddTerminals Drawn) i b f.at
      (record { channel = channel; first = λ u v path. in_row b u v (confined_at i b f.at b.x1 b.y1 u v first path) })
      (λ r upright full ends. f.fails (upright, (sides_are i b f.at upright r (edges_at i b f.at b.x1 b.y1 first r full)).1 ends))
      (λ j q p l x y h. not_ended j q p x y h (f.before j q p l))

  -- ---- channels

  module _ (channels : List Channel) (are : AreChannelsOf m depletion diffusion terminals channels) where
    box_of : (k : ℕ) (c : Channel) → IsAt channels k c → (b : BoxShape) × IsAt m k b
    box_of k c at =
        let w : k < length channels = at.within in
        let d : BoxShape = rectangle_of c in
        (get_or m k d, at_of m k d (omega (arith, are.size)))

    same_squares : (u d : Bool) (b : BoxShape) (x y : ℤ) → Inside b x y ↔ Inside (rectangle_of (channel_of u d b)) x y
    same_squares u d b x y = (
      (λ h. record { left = h.left; right = h.right; bottom = h.bottom; top = h.top }),
      (λ h. record { left = h.left; right = h.right; bottom = h.bottom; top = h.top }),
    )

    transistor : (k : ℕ) (c : Channel) → IsAt channels k c → IsTransistor Drawn c
    transistor k c at =
        let b = box_of k c at in
        let is = are.each k b.0 c b.1 at in
        let d : Bool = slice_index_or depletion k false in
        let r : BoxShape = rectangle_of (channel_of is.0 d b.0) in
        let first : Inside b.0 b.0.x1 b.0.y1 = corner b.0 (box k b.0 b.1) in
        let made : IsTransistor Drawn (channel_of is.0 d b.0) = record {
          full = full_at k b.0 b.1 b.0.x1 b.0.y1 first r (same_squares is.0 d b.0);
          implant = (implanted numbered runs by_touches Drawn m canonical squares implant covers d b.0 r (same_squares is.0 d b.0)).0 (regions.each k b.0 b.1).implant;
          terminals = (sides_are k b.0 b.1 is.0 r (record { left = refl; right = refl; bottom = refl; top = refl })).0 is.1;
        } in
        subst (IsTransistor Drawn) (sym is.2) made

    in_box : (k : ℕ) (b : BoxShape) (c : Channel) → IsAt m k b → IsAt channels k c → (x y : ℤ) → Inside b x y ↔ Inside (rectangle_of c) x y
    in_box k b c p q x y =
        let is = are.each k b c p q in
        subst (λ (v : Channel). Inside b x y ↔ Inside (rectangle_of v) x y) (sym is.2) (same_squares is.0 (slice_index_or depletion k false) b x y)

    pub are_channels : AreChannels Drawn channels
    are_channels = record {
      each = λ c i. let n = among_at channels c i in transistor n.number c n.at;
      all = λ x y h.
          let o = numbered.number m x y ((squares x y).1 h) in
          let w : o.0 < length m = o.1.at.within in
          let d : Channel = channel_of false false o.1.box in
          let at = at_of channels o.0 d (omega (arith, are.size)) in
          let c : Channel = get_or channels o.0 d in
          (c, at_among channels o.0 c at, (in_box o.0 o.1.box c o.1.at at x y).0 o.1.inside);
      apart = pairwise_of AreApart channels (λ i j c d p q l x y h k.
          let a = box_of i c p in
          let b = box_of j d q in
          let e : i ≡ j = one_over numbered runs by_touches Drawn m canonical squares i j a.0 b.0 x y a.1 b.1
          ((in_box i a.0 c a.1 p x y).1 h) ((in_box j b.0 d b.1 q x y).1 k) in
          omega arith);
    }

    pub all_ended : (x y : ℤ) → IsChannel Drawn x y → HasOddTerminals Drawn x y → ⊥
    all_ended x y h odd =
        let o = numbered.number m x y ((squares x y).1 h) in
        let w : o.0 < length m = o.1.at.within in
        let d : Channel = channel_of false false o.1.box in
        let at = at_of channels o.0 d (omega (arith, are.size)) in
        let is = are.each o.0 o.1.box (get_or channels o.0 d) o.1.at at in
        not_ended o.0 o.1.box o.1.at x y o.1.inside (is.0, is.1) odd

    pub has_channels : HasChannels Drawn
    has_channels = record {
      even = λ x y begins odd. none_odd x y begins.channel odd;
      ends = λ x y begins odd. all_ended x y begins.channel odd;
    }
