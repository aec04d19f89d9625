-- The nodes of a raster that shows a drawing are its channel squares, and links lead to those that share sides.
use Rattle.std.proofs.Common.{◌≡◌, ◌↔◌, inl, inr, ℕ, zero, suc, ◌<◌, ◌≤◌, ◌+◌, ◌-◌, ◌*◌, ◌/◌, ◌%◌, ℤ, pos, ◌+ℤ◌, arith, refl, sym, ap, subst, ◌∙◌, true, Some, List, length}
use Rattle.std.proofs.lemmas.Bool.{and_from, and_parts}
use Rattle.std.proofs.lemmas.Int.{ints}
use Rattle.std.proofs.Math.ListN.{get_or-eq_default}
use Rattle.std.proofs.Math.Nat.{mul-le-mul_right}
use Rattle.geom.specs.Conduction.{Drawing, IsChannel, ShareSide, Leads}
use Rattle.geom.specs.Conduction.Leads.{here, step}
use Rattle.geom.specs.declared.layer.Layer.TheVariants.{Diffusion, Poly}
use Rattle.nmos_model.specs.declared.raster.Cover.{Cover}
use Rattle.nmos_model.specs.declared.raster.Frame.{Frame}
use Rattle.nmos_model.specs.Classes.{IsGraph, Linked, Reaches}
use Rattle.nmos_model.specs.Classes.Reaches.{here, step}
use Rattle.nmos_model.specs.Rasters.{StandsAt, IsInner, Shows, bare, cover_at, number_of}
use Rattle.nmos_model.specs.Regions.{Raster, HasMargin, channel_link, channel_links, cover_in, is_channel}
use Rattle.nmos_model.proofs.Common.{below_or_above, some_inside}
use Rattle.nmos_model.proofs.Conducting.{inner_at}
use Rattle.nmos_model.proofs.Neighbours.{found}
use Rattle.nmos_model.proofs.Places.{stands_at, number_is, east_side, north_side, side_back, side_numbers}

-- where a link may lead
pub data Beside (raster : Raster) (a : ℕ) : ℕ → Type 0 where
  west : Beside raster a (a - 1)
  east : Beside raster a (a + 1)
  south : Beside raster a (a - raster.frame.width)
  north : Beside raster a (a + raster.frame.width)

module _ (raster : Raster) (a : ℕ) where
  at_side : (n b : ℕ) → Beside raster a n → channel_link raster n ≡ Some b → Beside raster a b × (is_channel (cover_at raster.covers b) ≡ true)
  at_side n b near e =
      let f = found (is_channel (cover_at raster.covers n)) n b e in
      (subst (λ m. Beside raster a m) f.1 near, subst (λ m. is_channel (cover_at raster.covers m) ≡ true) f.1 f.0)

  pub beside : (b : ℕ) → Linked (channel_links raster) a b → Beside raster a b × (is_channel (cover_at raster.covers b) ≡ true)
  beside b (zero, e) = at_side _ b west (some_inside _ _ e)
  beside b (suc zero, e) = at_side _ b east (some_inside _ _ e)
  beside b (suc (suc zero), e) = at_side _ b south (some_inside _ _ e)
  beside b (suc (suc (suc zero)), e) = at_side _ b north (some_inside _ _ e)
  beside b (suc (suc (suc (suc at))), e) = absurd (cc)

  link_there : (n : ℕ) → is_channel (cover_at raster.covers n) ≡ true → channel_link raster n ≡ Some n
  link_there n e = rw e refl

  pub linked : (b : ℕ) → Beside raster a b → is_channel (cover_at raster.covers b) ≡ true → Linked (channel_links raster) a b
  linked _ west e = (0, ap Some (link_there _ e))
  linked _ east e = (1, ap Some (link_there _ e))
  linked _ south e = (2, ap Some (link_there _ e))
  linked _ north e = (3, ap Some (link_there _ e))

  -- a neighbour's neighbour, where the square lies inside
  beside_back : (b : ℕ) → raster.frame.width ≤ a → 1 ≤ a → Beside raster a b → Beside raster b a
  beside_back _ up left west = subst (λ m. Beside raster (a - 1) m) (omega arith) east
  beside_back _ up left east = subst (λ m. Beside raster (a + 1) m) (omega arith) west
  beside_back _ up left south = subst (λ m. Beside raster (a - raster.frame.width) m) (omega arith) north
  beside_back _ up left north = subst (λ m. Beside raster (a + raster.frame.width) m) (omega arith) south

  -- a channel square is one of the squares
  pub channel_within : is_channel (cover_at raster.covers a) ≡ true → a < length raster.covers
  channel_within e =
      elim (below_or_above (length raster.covers) a) [
        | inr below ↦ below
        | inl beyond ↦
            let none = get_or-eq_default raster.covers bare beyond in
            absurd (let f = sym e ∙ ap is_channel none in cc)
      ]

module _ (frame : Frame) (squares : List Cover) (Drawn : Drawing) (shows : Shows frame squares Drawn) where
  abbrev pub raster : Raster
  raster = record { frame = frame; covers = squares }

  pub channel_there : (x y : ℤ) (column row : ℕ) → StandsAt frame x y column row
      → (is_channel (cover_in raster column row) ≡ true) ↔ IsChannel Drawn x y
  channel_there x y column row at =
      let diffusion = shows.is Diffusion x y column row at in
      let poly = shows.is Poly x y column row at in (
        λ e. let b = and_parts _ _ e in record { diffusion = diffusion.0 b.0; poly = poly.0 b.1 },
        λ h. and_from _ _ (diffusion.1 h.diffusion) (poly.1 h.poly),
      )

  pub margin : HasMargin raster
  margin column row c r e =
      let at : StandsAt frame (frame.x +ℤ pos column) (frame.y +ℤ pos row) column row =
      record { across = refl; upward = refl; column_within = c; row_within = r } in
      inner_at frame squares Drawn shows Diffusion _ _ column row at ((channel_there _ _ column row at).0 e).diffusion

  -- A channel square by its number, which lies inside.
  pub record ChannelPlace (n : ℕ) : Type 0 where
    pub x : ℤ
    pub y : ℤ
    pub column : ℕ
    pub row : ℕ
    pub at : StandsAt frame x y column row
    pub inner : IsInner frame column row
    pub is : n ≡ number_of frame.width column row
    pub channel : IsChannel Drawn x y

  -- the place of a node
  pub decode : (n : ℕ) → is_channel (cover_at squares n) ≡ true → ChannelPlace n
  decode n e =
      let within = channel_within raster n e in
      let at = stands_at frame n (omega (arith, within, shows.size)) in
      let split = number_is frame n in
      let there = (channel_there _ _ _ _ at).0 (subst (λ m. is_channel (cover_at squares m) ≡ true) (sym split) e) in
      record {
        x = frame.x +ℤ pos (n % frame.width);
        y = frame.y +ℤ pos (n / frame.width);
        column = n % frame.width;
        row = n / frame.width;
        at = at;
        inner = inner_at frame squares Drawn shows Diffusion _ _ _ _ at there.diffusion;
        is = sym split;
        channel = there;
      }

  -- the place of a channel square
  pub record Numbered (x y : ℤ) : Type 0 where
    pub number : ℕ
    pub place : ChannelPlace number
    pub x_is : place.x ≡ x
    pub y_is : place.y ≡ y

  abbrev pub numbered : (x y : ℤ) → IsChannel Drawn x y → Numbered x y
  numbered x y h =
      let inner = shows.inner Diffusion x y h.diffusion in
      record {
        number = number_of frame.width inner.0 inner.1;
        place = record { x = x; y = y; column = inner.0; row = inner.1; at = inner.2; inner = inner.3; is = refl; channel = h };
        x_is = refl;
        y_is = refl;
      }

  pub place_channel : (n : ℕ) (p : ChannelPlace n) → is_channel (cover_at squares n) ≡ true
  place_channel n p = rw p.is ((channel_there p.x p.y p.column p.row p.at).1 p.channel)

  -- ---- links lead across sides

  -- an inner square has squares below it and on its left
  has_below : (a : ℕ) (p : ChannelPlace a) → frame.width + 1 ≤ a
  has_below a p =
      let e = p.is in let bottom = p.inner.bottom in let left = p.inner.left in
      let rows : 1 * frame.width ≤ p.row * frame.width = mul-le-mul_right frame.width bottom in
      omega (arith, e, rows, left)

  module _ (a b : ℕ) (p : ChannelPlace a) (q : ChannelPlace b) where
    east_of : b ≡ a + 1 → ShareSide p.x p.y q.x q.y
    east_of e =
        let i = p.is in let j = q.is in
        east_side frame p.x p.y q.x q.y p.column p.row q.column q.row p.at q.at p.inner.right (omega arith)

    north_of : b ≡ a + frame.width → ShareSide p.x p.y q.x q.y
    north_of e =
        let i = p.is in let j = q.is in
        north_side frame p.x p.y q.x q.y p.column p.row q.column q.row p.at q.at (omega arith)

  beside_side : (a b : ℕ) (p : ChannelPlace a) (q : ChannelPlace b) → Beside raster a b → ShareSide p.x p.y q.x q.y
  beside_side a _ p q west = let low = has_below a p in side_back _ _ _ _ (east_of (a - 1) a q p (omega arith))
  beside_side a _ p q east = east_of a (a + 1) p q refl
  beside_side a _ p q south = let low = has_below a p in side_back _ _ _ _ (north_of (a - frame.width) a q p (omega arith))
  beside_side a _ p q north = north_of a (a + frame.width) p q refl

  pub is_channel_graph : IsGraph (length squares) (λ n. is_channel (cover_at squares n)) (channel_links raster)
  is_channel_graph = record {
    within = λ a b n l. channel_within raster b (beside raster a b l).1;
    further = λ a b n l. (beside raster a b l).1;
    back = λ a b n l.
        let near = beside raster a b l in
        let low = has_below a (decode a n) in
        linked raster b a (beside_back raster a b (omega arith) (omega arith) near.0) n;
  }

  -- a path of links leads across sides
  pub reaches_leads : (a b : ℕ) (p : ChannelPlace a) → Reaches (channel_links raster) a b → (q : ChannelPlace b) × Leads (IsChannel Drawn) p.x p.y q.x q.y
  reaches_leads _ _ p (here a) = (p, here p.x p.y)
  reaches_leads _ _ p (step a b c l path) =
      let near = beside raster a b l in
      let q = decode b near.1 in
      let rest = reaches_leads b c q path in
      (rest.0, step p.x p.y q.x q.y rest.0.x rest.0.y (beside_side a b p q near.0) q.channel rest.1)

  -- ---- squares that share sides are linked

  pub one_number : (n m : ℕ) (p : ChannelPlace n) (q : ChannelPlace m) → p.x ≡ q.x → p.y ≡ q.y → n ≡ m
  one_number n m p q x y =
      let px = p.at.across in let py = p.at.upward in let qx = q.at.across in let qy = q.at.upward in
      let column : p.column ≡ q.column = omega (arith, ints) in
      let row : p.row ≡ q.row = omega (arith, ints) in
      let rows = ap (λ r. r * frame.width) row in
      let e = p.is in let f = q.is in
      omega (arith, e, f, rows, column)

  module _ (n m : ℕ) (p : ChannelPlace n) (q : ChannelPlace m) where
    linked_by : (b : ℕ) → Beside raster n b → b ≡ m → Linked (channel_links raster) n m
    linked_by b near e =
        subst (λ k. Linked (channel_links raster) n k) e
        (linked raster n b near (subst (λ k. is_channel (cover_at squares k) ≡ true) (sym e) (place_channel m q)))

    side_link : ShareSide p.x p.y q.x q.y → Linked (channel_links raster) n m
    side_link side =
        let e = p.is in let f = q.is in
        elim (side_numbers frame p.x p.y q.x q.y p.column p.row q.column q.row p.at q.at side) [
          | inl across ↦ elim across [
            | inl right ↦ linked_by (n + 1) east (omega (arith, e, f, right))
            | inr left ↦ linked_by (n - 1) west (omega (arith, e, f, left))
          ]
          | inr upward ↦ elim upward [
            | inl up ↦ linked_by (n + frame.width) north (omega (arith, e, f, up))
            | inr down ↦ linked_by (n - frame.width) south (omega (arith, e, f, down))
          ]
        ]

  -- squares that lead from one to the other are those of a path of links
  pub leads_reaches : (x y u v : ℤ) → Leads (IsChannel Drawn) x y u v → (n m : ℕ) (p : ChannelPlace n) (q : ChannelPlace m)
      → p.x ≡ x → p.y ≡ y → q.x ≡ u → q.y ≡ v → Reaches (channel_links raster) n m
  leads_reaches _ _ _ _ (here x y) n m p q px py qx qy =
      subst (λ k. Reaches (channel_links raster) n k) (one_number n m p q (px ∙ sym qx) (py ∙ sym qy)) (here n)
  leads_reaches _ _ _ _ (step x y u v s t side channel rest) n m p q px py qx qy =
      let r = numbered u v channel in
      let link = side_link n r.number p r.place (subst (λ k. ShareSide p.x k u v) (sym py) (subst (λ k. ShareSide k y u v) (sym px) side)) in
      step n r.number m link (leads_reaches u v s t rest r.number m r.place q refl refl qx qy)
