-- The regions and channels of a raster's first squares are those of its drawing.
use Rattle.std.proofs.Common.{◌≡◌, ◌⊎◌, inl, inr, ℕ, ◌<◌, ◌≤◌, ◌+◌, ◌*◌, ◌/◌, ◌%◌, ◌^◌, ℤ, pos, ◌+ℤ◌, arith, refl, sym, ap, subst, ◌∙◌, Bool, List, ◌∷◌, ◌++◌, length}
use Rattle.geom.specs.Conduction.{Drawing, IsChannel}
use Rattle.geom.specs.Rows.{Among, Pairwise}
use Rattle.nmos_model.specs.declared.channel.Channel.{Channel}
use Rattle.nmos_model.specs.declared.raster.Cover.{Cover}
use Rattle.nmos_model.specs.declared.raster.Frame.{Frame}
use Rattle.nmos_model.specs.declared.block.Region.{Region}
use Rattle.nmos_model.specs.declared.refusal.ReadChipFault.{ReadChipFault}
use Rattle.nmos_model.specs.declared.refusal.ReadChipFault.TheVariants.{Fault, NoMemory}
use Rattle.nmos_model.specs.Channels.{AreApart, AreChannels, Begins, IsByRow, IsEarlier, IsFull, IsTransistor, rectangle_of}
use Rattle.nmos_model.specs.Classes.{Classing, IsClassing}
use Rattle.nmos_model.specs.Lists.{Matched}
use Rattle.nmos_model.specs.Rasters.{StandsAt, Shows, cover_at, number_of}
use Rattle.nmos_model.specs.Refusals.{HasChannels, HasOddTerminals, IsFirstRegion, IsOdd, IsOddBy, NoRegion}
use Rattle.nmos_model.specs.Refusals.IsRefused.{odd_channel, odd_terminals}
use Rattle.nmos_model.specs.Regions.{HasEnds, IsChannelOf, IsOddEnds, IsOddFirst, IsRegion, Raster, channel_links, is_channel}
use Rattle.nmos_model.proofs.ChannelPlaces.{channel_within, decode, raster}
use Rattle.nmos_model.proofs.FirstSquares.{begins_first, first_begins, first_channel, first_of, firsts_ascend}
use Rattle.nmos_model.proofs.Cuts.{among_parts, matched_cut, matched_pairs, matched_through, pairs_behind}
use Rattle.nmos_model.proofs.Matching.{among_cut, among_front, match_of, source_of}
use Rattle.nmos_model.proofs.Places.{by_row, by_row_once, number_is, one_square, stands_at, stands_once}
use Rattle.nmos_model.proofs.Rectangles.{full_from, full_once, leads_back, leads_from, leads_join, terminals_same}
use Rattle.nmos_model.proofs.RegionSquares.{ends_terminals, full_region, rectangle, region_full, region_implanted}

-- Channels leave no odd region.
module _ (Drawn : Drawing) (channels : List Channel) (are : AreChannels Drawn channels) where
  region_of : (x y : ℤ) → Begins Drawn x y → (c : Channel) × IsTransistor Drawn c × IsFull Drawn x y (rectangle_of c)
  region_of x y begins =
      let found = are.all x y begins.channel in
      let transistor = are.each found.0 found.1 in
      (found.0, transistor, full_from Drawn found.0.x1 found.0.y1 (rectangle_of found.0) transistor.full x y found.2)

  pub channels_even : HasChannels Drawn
  channels_even = record {
    even = λ x y begins odd.
        let r = region_of x y begins in
        odd (rectangle_of r.0) r.0.depletion r.2 r.1.implant;
    ends = λ x y begins odd.
        let r = region_of x y begins in
        odd (rectangle_of r.0) r.0.upright r.2 r.1.terminals;
  }

module _ (frame : Frame) (squares : List Cover) (Drawn : Drawing) (shows : Shows frame squares Drawn)
    (few : length squares + frame.width < 2 ^ 32)
    (classes : Classing)
    (classing : IsClassing (length squares) (λ n. is_channel (cover_at squares n)) (channel_links (raster frame squares Drawn shows)) classes) where
  abbrev there : Raster
  there = raster frame squares Drawn shows

  -- a first node and where its square stands
  record Corner (n : ℕ) (x y : ℤ) : Type 0 where
    column : ℕ
    row : ℕ
    at : StandsAt frame x y column row
    is : n ≡ number_of frame.width column row
    begins : Begins Drawn x y

  corner_at : (n : ℕ) → Among classes.firsts n → (x y : ℤ) (column row : ℕ) → StandsAt frame x y column row → n ≡ number_of frame.width column row
      → Corner n x y
  corner_at n among x y column row at is =
      let p = decode frame squares Drawn shows n (first_channel frame squares Drawn shows classes classing n among) in
      let same = one_square frame p.x p.y x y p.column p.row column row p.at at (sym p.is ∙ is) in
      record {
        column = column;
        row = row;
        at = at;
        is = is;
        begins = subst (λ u. Begins Drawn u y) same.0 (subst (λ v. Begins Drawn p.x v) same.1 (first_begins frame squares Drawn shows classes classing n among p));
      }

  -- the corner of a region
  region_corner : (n : ℕ) (region : Region) → Among classes.firsts n → IsRegion there n region
      → Corner n (frame.x +ℤ pos region.block.columns.from) (frame.y +ℤ pos region.block.rows.from)
  region_corner n region among is =
      let left = is.inner.across in let right = is.inner.right in let bottom = is.inner.upward in let top = is.inner.top in
      corner_at n among _ _ region.block.columns.from region.block.rows.from
      (record { across = refl; upward = refl; column_within = omega arith; row_within = omega arith }) is.first_is

  corners_by_row : (n m : ℕ) (x y u v : ℤ) → Corner n x y → Corner m u v → n ≤ m → IsByRow x y u v
  corners_by_row n m x y u v p q le =
      by_row frame x y u v p.column p.row q.column q.row p.at q.at (let e = p.is in let f = q.is in omega (arith, e, f, le))

  -- a region that begins at a square of the drawing, by its first node
  beginning : (x y : ℤ) → Begins Drawn x y → (n : ℕ) × Among classes.firsts n × Corner n x y
  beginning x y begins =
      let f = begins_first frame squares Drawn shows classes classing x y begins in
      let p = decode frame squares Drawn shows f.0 (first_channel frame squares Drawn shows classes classing f.0 f.1) in
      let same = f.2 p in
      let at = subst (λ u. StandsAt frame u y p.column p.row) same.0 (subst (λ v. StandsAt frame p.x v p.column p.row) same.1 p.at) in
      (f.0, f.1, corner_at f.0 f.1 x y p.column p.row at p.is)

  -- two corners of one node are one square
  corner_once : (n : ℕ) (x y u v : ℤ) → Corner n x y → Corner n u v → (x ≡ u) × (y ≡ v)
  corner_once n x y u v p q = one_square frame x y u v p.column p.row q.column q.row p.at q.at (sym p.is ∙ q.is)

  -- the whole region of a corner
  whole_region : (n : ℕ) (x y : ℤ) (region : Region) → Among classes.firsts n → Corner n x y → IsRegion there n region
      → IsFull Drawn x y (rectangle frame region.block)
  whole_region n x y region among corner is =
      let same = corner_once n _ _ x y (region_corner n region among is) corner in
      subst (λ u. IsFull Drawn u y (rectangle frame region.block)) same.0
      (subst (λ v. IsFull Drawn (frame.x +ℤ pos region.block.columns.from) v (rectangle frame region.block)) same.1
      (region_full frame squares Drawn shows n region is))

  -- ---- odd channels

  -- no region that is a rectangle is odd
  region_even : (n : ℕ) (x y : ℤ) (region : Region) → Among classes.firsts n → Corner n x y → IsRegion there n region → IsOdd Drawn x y → ⊥
  region_even n x y region among corner is odd =
      odd (rectangle frame region.block) region.depletion (whole_region n x y region among corner is)
      (region_implanted frame squares Drawn shows n region is)

  -- a node of no region is odd
  corner_odd : (n : ℕ) (x y : ℤ) → Corner n x y → ((region : Region) × IsRegion there n region → ⊥) → IsOdd Drawn x y
  corner_odd n x y corner none r depletion full implant =
      none (full_region frame squares Drawn shows x y r depletion full implant corner.begins few corner.column corner.row n corner.at corner.is)

  module _ (before after : List ℕ) (n : ℕ) (whole : classes.firsts ≡ before ++ n ∷ after) where
    earlier_among : (m : ℕ) → Among before m → Among classes.firsts m
    earlier_among m h = subst (λ l. Among l m) (sym whole) (among_front before (n ∷ after) m h)

    middle_among : Among classes.firsts n
    middle_among = subst (λ l. Among l n) (sym whole) (among_cut before after n)

    -- a first node is an earlier one, or comes no earlier than this one
    earlier_or_behind : (m : ℕ) → Among classes.firsts m → Among before m ⊎ (n ≤ m)
    earlier_or_behind m among =
        elim (among_parts before after n m (subst (λ l. Among l m) whole among)) [
          | inl early ↦ inl early
          | inr rest ↦ elim rest [
            | inl same ↦ inr (omega arith)
            | inr late ↦
                let ascend = subst (λ l. Pairwise ◌<◌ l) whole (firsts_ascend frame squares Drawn shows classes classing) in
                let lt = pairs_behind ◌<◌ before after n m ascend late in
                inr (omega arith)
          ]
        ]

    -- the first region of which P holds
    first_region : (P : ℤ → ℤ → Type 0) (x y : ℤ) → Corner n x y → P x y
        → ((m : ℕ) (u v : ℤ) → Among before m → Corner m u v → P u v → ⊥) → IsFirstRegion Drawn P x y
    first_region P x y corner holds none = record {
      begins = corner.begins;
      holds = holds;
      first = λ u v begins p.
          let f = beginning u v begins in
          elim (earlier_or_behind f.0 f.1) [
            | inl early ↦ absurd (none f.0 u v early f.2 p)
            | inr le ↦ corners_by_row n f.0 x y u v corner f.2 le
          ];
    }

  pub odd_first : (fault : ReadChipFault) → IsOddFirst there classes.firsts fault → IsOddBy Drawn fault
  odd_first NoMemory h = tt
  odd_first (Fault f) (n, failure, is) = λ labels.
      let among = middle_among failure.earlier failure.later n failure.whole in
      let within = channel_within there n (first_channel frame squares Drawn shows classes classing n among) in
      let lower : n < frame.width * frame.height = omega (arith, within, shows.size) in
      let corner = corner_at n among _ _ _ _ (stands_at frame n lower) (sym (number_is frame n)) in
      rw is
      (odd_channel (frame.x +ℤ pos (n % frame.width)) (frame.y +ℤ pos (n / frame.width))
      (first_region failure.earlier failure.later n failure.whole (IsOdd Drawn) _ _ corner
      (corner_odd n _ _ corner failure.fails)
      (λ m u v early c odd.
      let region = failure.before m early in
      region_even m u v region.0 (earlier_among failure.earlier failure.later n failure.whole m early) c region.1 odd)))

  -- ---- odd terminals

  module _ (regions : List Region) (matched : Matched (IsRegion there) classes.firsts regions) where
    none_odd : NoRegion Drawn (IsOdd Drawn)
    none_odd x y begins odd =
        let f = beginning x y begins in
        let region = match_of (IsRegion there) classes.firsts regions f.0 matched f.1 in
        region_even f.0 x y region.0 f.1 f.2 region.2 odd

    -- terminals of a region's rectangle are ends of its block
    corner_terminals : (n : ℕ) (x y : ℤ) (region : Region) → Among classes.firsts n → Corner n x y → IsRegion there n region
        → ((upright : Bool) × HasEnds there upright region.block → ⊥) → HasOddTerminals Drawn x y
    corner_terminals n x y region among corner is none r upright full terminals =
        let same = full_once Drawn x y (rectangle frame region.block) r (whole_region n x y region among corner is) full in
        none (
          upright,
          (ends_terminals frame squares Drawn shows region.block is.inner upright).1
              (terminals_same Drawn upright r (rectangle frame region.block) same terminals),
        )

    region_terminals : (n : ℕ) (x y : ℤ) (region : Region) → Among classes.firsts n → Corner n x y → IsRegion there n region
        → (upright : Bool) × HasEnds there upright region.block → HasOddTerminals Drawn x y → ⊥
    region_terminals n x y region among corner is (upright, ends) odd =
        odd (rectangle frame region.block) upright (whole_region n x y region among corner is)
        ((ends_terminals frame squares Drawn shows region.block is.inner upright).0 ends)

    pub odd_ends : (fault : ReadChipFault) → IsOddEnds there regions fault → IsOddBy Drawn fault
    odd_ends NoMemory h = tt
    odd_ends (Fault f) (region, failure, is) = λ labels.
        let cut = matched_cut (IsRegion there) classes.firsts failure.earlier failure.later region (subst (λ l. Matched (IsRegion there) classes.firsts l) failure.whole matched) in
        let among = middle_among cut.earlier cut.later cut.x cut.whole in
        let corner = region_corner cut.x region among cut.match_is in
        rw is
        (odd_terminals (frame.x +ℤ pos region.block.columns.from) (frame.y +ℤ pos region.block.rows.from) none_odd
        (first_region cut.earlier cut.later cut.x cut.whole (HasOddTerminals Drawn) _ _ corner
        (corner_terminals cut.x _ _ region among corner cut.match_is failure.fails)
        (λ m u v early c odd.
        let one = match_of (IsRegion there) cut.earlier failure.earlier m cut.earlier_match early in
        region_terminals m u v one.0 (earlier_among cut.earlier cut.later cut.x cut.whole m early) c one.2 (failure.before one.0 one.1) odd)))

    -- ---- the channels

    -- the channel of a first node
    abbrev IsChannelAt : ℕ → Channel → Type 0
    IsChannelAt n c = (region : Region) × IsRegion there n region × IsChannelOf there region c

    transistor : (n : ℕ) (c : Channel) → IsChannelAt n c → IsTransistor Drawn c
    transistor n c (region, is, (upright, ends, same)) =
        subst (λ d. IsTransistor Drawn d) (sym same) (record {
          full = region_full frame squares Drawn shows n region is;
          implant = region_implanted frame squares Drawn shows n region is;
          terminals = (ends_terminals frame squares Drawn shows region.block is.inner upright).0 ends;
        })

    channel_corner : (n : ℕ) (c : Channel) → Among classes.firsts n → IsChannelAt n c → Corner n c.x1 c.y1
    channel_corner n c among (region, is, (upright, ends, same)) =
        subst (λ (d : Channel). Corner n d.x1 d.y1) (sym same) (region_corner n region among is)

    module _ (channels : List Channel) (with_ends : Matched (IsChannelOf there) regions channels) where
      all_matched : Matched IsChannelAt classes.firsts channels
      all_matched = matched_through (IsRegion there) (IsChannelOf there) classes.firsts regions channels matched with_ends

      -- channels of different nodes share no square
      apart_by : (n m : ℕ) (c d : Channel) → Among classes.firsts n → Among classes.firsts m → IsChannelAt n c → IsChannelAt m d → n < m → AreApart c d
      apart_by n m c d some other is also lt x y i j =
          let one = transistor n c is in let two = transistor m d also in
          let p = channel_corner n c some is in let q = channel_corner m d other also in
          let from = (one.full.squares x y).1 i in
          let to = leads_back (IsChannel Drawn) d.x1 d.y1 x y two.full.channel ((two.full.squares x y).1 j) in
          let path = leads_join (IsChannel Drawn) c.x1 c.y1 x y d.x1 d.y1 from to in
          let back = leads_back (IsChannel Drawn) c.x1 c.y1 d.x1 d.y1 one.full.channel path in
          let same = by_row_once c.x1 c.y1 d.x1 d.y1 (p.begins.first d.x1 d.y1 path) (q.begins.first c.x1 c.y1 back) in
          let moved = subst (λ u. StandsAt frame u d.y1 p.column p.row) same.0 (subst (λ v. StandsAt frame c.x1 v p.column p.row) same.1 p.at) in
          let place = stands_once frame d.x1 d.y1 p.column p.row q.column q.row moved q.at in
          let columns = ap (λ k. number_of frame.width k p.row) place.0 in
          let rows = ap (λ k. number_of frame.width q.column k) place.1 in
          let e = p.is in let f = q.is in
          omega (arith, e, f, columns, rows, lt)

      pub are_channels : AreChannels Drawn channels
      are_channels = record {
        each = λ c h.
            let n = source_of IsChannelAt classes.firsts channels c all_matched h in
            transistor n.0 c n.2;
        all = λ x y channel.
            let f = first_of frame squares Drawn shows classes classing x y channel in
            let c = match_of IsChannelAt classes.firsts channels f.number all_matched f.among in
            let corner = channel_corner f.number c.0 f.among c.2 in
            let p = f.place in
            let same = one_square frame p.x p.y c.0.x1 c.0.y1 p.column p.row corner.column corner.row p.at corner.at (sym p.is ∙ corner.is) in
            let path = leads_from (IsChannel Drawn) p.x p.y c.0.x1 c.0.y1 x y same.0 same.1 f.leads in
            (c.0, c.1, ((transistor f.number c.0 c.2).full.squares x y).0 path);
        apart = matched_pairs IsChannelAt ◌<◌ AreApart classes.firsts channels all_matched (λ n m c d. apart_by n m c d)
            (firsts_ascend frame squares Drawn shows classes classing);
      }

      pub in_order : Pairwise IsEarlier channels
      in_order = matched_pairs IsChannelAt ◌<◌ IsEarlier classes.firsts channels all_matched
          (λ n m c d some other is also lt.
          corners_by_row n m c.x1 c.y1 d.x1 d.y1 (channel_corner n c some is) (channel_corner m d other also) (omega arith))
          (firsts_ascend frame squares Drawn shows classes classing)
