-- The first nodes of the classes of channel squares are the first squares of the regions, in row order.
use Rattle.std.proofs.Common.{◌≡◌, inl, inr, ℕ, zero, suc, ◌<◌, ℤ, arith, refl, sym, ap, ◌∙◌, Bool, true, false, Some, List, [], ◌∷◌, length, slice_get}
use Rattle.std.proofs.lemmas.Option.{slice_get-get_or}
use Rattle.std.specs.Prelude.{slice_index_or}
use Rattle.geom.specs.Conduction.{Drawing, IsChannel, Leads}
use Rattle.geom.specs.Rows.{Among, Pairwise}
use Rattle.nmos_model.specs.declared.raster.Cover.{Cover}
use Rattle.nmos_model.specs.declared.raster.Frame.{Frame}
use Rattle.nmos_model.specs.Channels.{Begins}
use Rattle.nmos_model.specs.Classes.{Classing, IsClassing, class_at}
use Rattle.nmos_model.specs.Rasters.{Shows, cover_at}
use Rattle.nmos_model.specs.Regions.{channel_links, is_channel}
use Rattle.nmos_model.proofs.ChannelPlaces.{ChannelPlace, raster, decode, numbered, channel_within, reaches_leads, leads_reaches, place_channel}
use Rattle.nmos_model.proofs.Places.{by_row, by_row_once, one_square}
use Rattle.nmos_model.proofs.Rectangles.{leads_back, leads_to, leads_within}

pub index_of : (xs : List ℕ) (x : ℕ) → Among xs x → (at : ℕ) × (slice_get xs at ≡ Some x)
index_of [] x h = absurd h
index_of (y ∷ ys) x (inl e) = (zero, ap Some e)
index_of (y ∷ ys) x (inr h) = let rest = index_of ys x h in (suc rest.0, rest.1)

pub among_index : (xs : List ℕ) (at x : ℕ) → slice_get xs at ≡ Some x → Among xs x
among_index [] at x e = absurd (cc)
among_index (y ∷ ys) zero x e = inl (let same : y ≡ x = cc in same)
among_index (y ∷ ys) (suc at) x e = inr (among_index ys at x e)

-- numbers that grow from place to place
ascending_pairs : (xs : List ℕ) → ((i j a b : ℕ) → slice_get xs i ≡ Some a → slice_get xs j ≡ Some b → i < j → a < b) → Pairwise ◌<◌ xs
ascending_pairs [] up = tt
ascending_pairs (x ∷ xs) up = (
  λ y h. let there = index_of xs y h in up zero (suc there.0) x y refl there.1 (omega arith),
  ascending_pairs xs (λ i j a b e f lt. up (suc i) (suc j) a b e f (omega arith)),
)

module _ (frame : Frame) (squares : List Cover) (Drawn : Drawing) (shows : Shows frame squares Drawn)
    (classes : Classing)
    (classing : IsClassing (length squares) (λ n. is_channel (cover_at squares n)) (channel_links (raster frame squares Drawn shows)) classes) where
  abbrev Place : ℕ → Type 0
  Place n = ChannelPlace frame squares Drawn shows n

  pub place_once : (n : ℕ) (p q : Place n) → (p.x ≡ q.x) × (p.y ≡ q.y)
  place_once n p q = one_square frame p.x p.y q.x q.y p.column p.row q.column q.row p.at q.at (sym p.is ∙ q.is)

  -- a number with a class is a channel square's
  class_channel : (n class : ℕ) → class_at classes.numbers n ≡ Some class → is_channel (cover_at squares n) ≡ true
  class_channel n class e = go (is_channel (cover_at squares n)) refl
    where
      go : (t : Bool) → is_channel (cover_at squares n) ≡ t → is_channel (cover_at squares n) ≡ true
      go true f = f
      go false f = let none = classing.none n f in absurd (cc)

  pub first_channel : (n : ℕ) → Among classes.firsts n → is_channel (cover_at squares n) ≡ true
  first_channel n h = let at = index_of classes.firsts n h in class_channel n at.0 (classing.first at.0 n at.1)

  pub firsts_ascend : Pairwise ◌<◌ classes.firsts
  firsts_ascend = ascending_pairs classes.firsts (λ i j a b e f lt. classing.ascending i j a b e f lt)

  -- a first node's square is the first of its region
  pub first_begins : (n : ℕ) → Among classes.firsts n → (p : Place n) → Begins Drawn p.x p.y
  first_begins n h p =
      let class = index_of classes.firsts n h in
      record {
        channel = p.channel;
        first = λ u v leads.
            let channel = leads_within (IsChannel Drawn) p.x p.y u v p.channel leads in
            let q = numbered frame squares Drawn shows u v channel in
            let path = leads_reaches frame squares Drawn shows p.x p.y u v leads n q.number p q.place refl refl refl refl in
            let of_class = (classing.one n q.number class.0 (classing.first class.0 n class.1)).1 path in
            let le = classing.lowest class.0 n q.number class.1 of_class in
            by_row frame p.x p.y u v p.column p.row q.place.column q.place.row p.at q.place.at (let e = p.is in let f = q.place.is in omega (arith, e, f, le));
      }

  -- A first node from which squares lead to (x, y).
  pub record FirstOf (x y : ℤ) : Type 0 where
    pub number : ℕ
    pub among : Among classes.firsts number
    pub place : Place number
    pub leads : Leads (IsChannel Drawn) place.x place.y x y

  pub first_of : (x y : ℤ) → IsChannel Drawn x y → FirstOf x y
  first_of x y channel =
      let q = numbered frame squares Drawn shows x y channel in
      let node = place_channel frame squares Drawn shows q.number q.place in
      let class = classing.some q.number (channel_within (raster frame squares Drawn shows) q.number node) node in
      let a = slice_index_or classes.firsts class.0 0 in
      let at = slice_get-get_or classes.firsts class.0 0 class.2 in
      let e = classing.first class.0 a at in
      let p = decode frame squares Drawn shows a (class_channel a class.0 e) in
      let path = (classing.one a q.number class.0 e).0 class.1 in
      let end = reaches_leads frame squares Drawn shows a q.number p path in
      let same = place_once q.number end.0 q.place in
      record {
        number = a;
        among = among_index classes.firsts class.0 a at;
        place = p;
        leads = leads_to (IsChannel Drawn) p.x p.y end.0.x end.0.y q.place.x q.place.y same.0 same.1 end.1;
      }

  -- where a region begins, there is a first node
  pub begins_first : (x y : ℤ) → Begins Drawn x y → (n : ℕ) × Among classes.firsts n × ((p : Place n) → (p.x ≡ x) × (p.y ≡ y))
  begins_first x y begins =
      let f = first_of x y begins.channel in
      let p = f.place in
      let back = leads_back (IsChannel Drawn) p.x p.y x y p.channel f.leads in
      let same = by_row_once p.x p.y x y ((first_begins f.number f.among p).first x y f.leads) (begins.first p.x p.y back) in
      (f.number, f.among, λ q. let one = place_once f.number q p in (one.0 ∙ same.0, one.1 ∙ same.1))
