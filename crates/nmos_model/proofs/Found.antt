-- The classes of the conducting squares are the nets of the drawing.
use Rattle.std.proofs.Common.{◌≡◌, ◌↔◌, ℕ, suc, ◌<◌, ◌≤◌, ◌+◌, ◌*◌, ℤ, pos, negsuc, ◌-ℤ◌, arith, refl, sym, ap, subst, ◌∙◌, Bool, true, false, cond, nat_lt, Option, None, Some, List, length, slice_index_or}
use Rattle.std.proofs.lemmas.Bool.{ltb-true, ltb-false}
use Rattle.std.proofs.lemmas.Int.{ints}
use Rattle.std.proofs.lemmas.Option.{slice_get-get_or}
use Rattle.std.proofs.Math.Nat.{mul-le-mul_right, mul_comm}
use Rattle.geom.specs.declared.layer.Layer.{Layer}
use Rattle.geom.specs.declared.layer.Layer.TheVariants.{Diffusion, Poly, Metal, Cut, Implant}
use Rattle.nmos_model.specs.declared.raster.Cover.{Cover}
use Rattle.nmos_model.specs.declared.raster.Frame.{Frame}
use Rattle.nmos_model.specs.Classes.{Classing, IsClassing, class_at}
use Rattle.geom.specs.Conduction.{Drawing, Spot, Conducts, Joined}
use Rattle.nmos_model.specs.Nets.{AreNets}
use Rattle.nmos_model.specs.NetMaps.{NetMap, class_of, conductor, counted, net_of, net_count}
use Rattle.nmos_model.specs.Conductors.{is_node, links}
use Rattle.nmos_model.specs.Rasters.{StandsAt, Shows, number_of}
use Rattle.nmos_model.proofs.Neighbours.{node_within}
use Rattle.nmos_model.proofs.Places.{one_place}
use Rattle.nmos_model.proofs.Common.{inside}
use Rattle.nmos_model.proofs.Conducting.{spot_of, index, Place, placed, place_node, decode, reaches_net, net_reaches, raster, same_layer, index_below, node_conducts}

-- ---- columns and rows

below_size : (t : Bool) (k n size : ℕ) → nat_lt n size ≡ t → Some k ≡ cond t (Some n) None → (n ≡ k) × (k < size)
below_size true k n size e f = let same = inside k n f in let lt = ltb-true n size e in (sym same, omega (arith, lt, same))
below_size false k n size e f = absurd (cc)

pub counted_is : (size : ℕ) (d : ℤ) (k : ℕ) → Some k ≡ counted size d → (d ≡ pos k) × (k < size)
counted_is size (pos n) k e = let h = below_size (nat_lt n size) k n size refl e in (ap pos h.0, h.1)
counted_is size (negsuc n) k e = absurd (cc)

counted_at : (size k : ℕ) → k < size → counted size (pos k) ≡ Some k
counted_at size k lt = go (nat_lt k size) refl
  where
    go : (t : Bool) → nat_lt k size ≡ t → counted size (pos k) ≡ Some k
    go true e = rw e refl
    go false e = absurd (let ge = ltb-false k size e in omega (arith, ge, lt))

pub conductor_is : (layer : Layer) (k : ℕ) → Some k ≡ conductor layer → (k ≡ index layer) × (k < 3)
conductor_is Metal k e = let h = inside k 0 e in (h, omega arith)
conductor_is Poly k e = let h = inside k 1 e in (h, omega arith)
conductor_is Diffusion k e = let h = inside k 2 e in (h, omega arith)
conductor_is Cut k e = absurd (cc)
conductor_is Implant k e = absurd (cc)

pub number_within : (width height column row : ℕ) → column < width → row < height → row * width + column < width * height
number_within width height column row c r =
    let rows : suc row * width ≤ height * width = mul-le-mul_right width r in
    let turned = mul_comm width height in
    omega (arith, rows, turned, c)

module _ (frame : Frame) (squares : List Cover) (Drawn : Drawing) (shows : Shows frame squares Drawn)
    (classes : Classing) (classing : IsClassing (3 * length squares) (is_node (raster frame squares Drawn shows)) (links (raster frame squares Drawn shows)) classes) where
  abbrev map : NetMap
  map = record { frame = frame; classes = classes }

  abbrev IsPlace : ℕ → Type 0
  IsPlace n = Place frame squares Drawn shows n

  conductor_at : (layer : Layer) (x y : ℤ) → Conducts Drawn layer x y → conductor layer ≡ Some (index layer)
  conductor_at Metal x y h = refl
  conductor_at Poly x y h = refl
  conductor_at Diffusion x y h = refl
  conductor_at Cut x y h = absurd h
  conductor_at Implant x y h = absurd h

  -- the net of a place is its class
  net_at : (n : ℕ) (p : IsPlace n) → net_of map p.layer p.x p.y ≡ class_at classes.numbers n
  net_at n p =
      let px = p.at.across in let py = p.at.upward in
      let x : p.x -ℤ frame.x ≡ pos p.column = omega (arith, ints) in
      let y : p.y -ℤ frame.y ≡ pos p.row = omega (arith, ints) in
      let column = ap (counted frame.width) x ∙ counted_at frame.width p.column p.at.column_within in
      let row = ap (counted frame.height) y ∙ counted_at frame.height p.row p.at.row_within in
      rw (conductor_at p.layer p.x p.y p.conducts_there, column, row, p.is) refl

  class_some : (n : ℕ) (p : IsPlace n) → (c : ℕ) × (class_at classes.numbers n ≡ Some c) × (c < length classes.firsts)
  class_some n p =
      let node = place_node frame squares Drawn shows n p in
      classing.some n (node_within (raster frame squares Drawn shows) n node) node

  -- a number with a class is a node
  node_of_class : (n c : ℕ) → class_at classes.numbers n ≡ Some c → is_node (raster frame squares Drawn shows) n ≡ true
  node_of_class n c e = go (is_node (raster frame squares Drawn shows) n) refl
    where
      go : (t : Bool) → is_node (raster frame squares Drawn shows) n ≡ t → is_node (raster frame squares Drawn shows) n ≡ true
      go true f = f
      go false f = let none = classing.none n f in absurd (cc)

  -- two places of one number are one square
  one_square : (n : ℕ) (p q : IsPlace n) → (p.layer ≡ q.layer) × (p.x ≡ q.x) × (p.y ≡ q.y)
  one_square n p q =
      let i = index_below frame squares Drawn shows p.layer in let j = index_below frame squares Drawn shows q.layer in
      let e = p.is in let f = q.is in
      let cell : p.row * frame.width + p.column ≡ q.row * frame.width + q.column = omega (arith, e, f, i, j) in
      let layer : index p.layer ≡ index q.layer = omega (arith, e, f, i, j) in
      let same = one_place frame.width p.row q.row p.column q.column p.at.column_within q.at.column_within cell in
      let r = same.0 in let c = same.1 in
      let px = p.at.across in let py = p.at.upward in let qx = q.at.across in let qy = q.at.upward in
      (same_layer frame squares Drawn shows p.layer q.layer p.x p.y q.x q.y p.conducts_there q.conducts_there layer, omega (arith, ints), omega (arith, ints))

  abbrev spot : (n : ℕ) → IsPlace n → Spot
  spot n p = spot_of frame squares Drawn shows n p

  moved_net : (n : ℕ) (p q : IsPlace n) (a : Spot) → Joined Drawn a (spot n q) → Joined Drawn a (spot n p)
  moved_net n p q a h = let same = one_square n p q in rw (same.0, same.1, same.2) h

  one_net : (n m : ℕ) (p : IsPlace n) (q : IsPlace m)
      → (net_of map p.layer p.x p.y ≡ net_of map q.layer q.x q.y) ↔ Joined Drawn (spot n p) (spot m q)
  one_net n m p q =
      let c = class_some n p in (
        λ e.
            let there = sym (net_at m q) ∙ sym e ∙ net_at n p ∙ c.1 in
            let path = (classing.one n m c.0 c.1).0 there in
            let end = reaches_net frame squares Drawn shows n m p path in
            moved_net m q end.0 (spot n p) end.1,
        λ h.
            let path = net_reaches frame squares Drawn shows (spot n p) (spot m q) h n m p q refl refl in
            net_at n p ∙ c.1 ∙ sym ((classing.one n m c.0 c.1).1 path) ∙ sym (net_at m q),
      )

  -- a square with a net conducts
  conducts_with : (layer : Layer) (x y : ℤ) (i c r : Option ℕ) (k : ℕ) → conductor layer ≡ i → counted frame.width (x -ℤ frame.x) ≡ c
      → counted frame.height (y -ℤ frame.y) ≡ r → class_of frame.width classes.numbers i c r ≡ Some k → Conducts Drawn layer x y
  conducts_with layer x y None c r k ei ec er e = absurd (cc)
  conducts_with layer x y (Some i) None r k ei ec er e = absurd (cc)
  conducts_with layer x y (Some i) (Some c) None k ei ec er e = absurd (cc)
  conducts_with layer x y (Some i) (Some c) (Some r) k ei ec er e =
      let column = counted_is frame.width (x -ℤ frame.x) c (sym ec) in
      let row = counted_is frame.height (y -ℤ frame.y) r (sym er) in
      let which = conductor_is layer i (sym ei) in
      let xe = column.0 in let ye = row.0 in
      let at : StandsAt frame x y c r = record { across = omega (arith, ints); upward = omega (arith, ints); column_within = column.1; row_within = row.1 } in
      let n = 3 * number_of frame.width c r + i in
      node_conducts frame squares Drawn shows layer x y c r at (i, sym ei)
      (subst (λ m. is_node (raster frame squares Drawn shows) (3 * number_of frame.width c r + m) ≡ true) which.0 (node_of_class n k e))

  pub are_nets : AreNets Drawn (net_count map) (net_of map)
  are_nets = record {
    some = λ layer x y h.
        let p = placed frame squares Drawn shows layer x y h in
        let c = class_some p.number p.place in
        let is = net_at p.number p.place in
        (c.0, is ∙ c.1, c.2);
    conducts = λ layer x y k e. conducts_with layer x y _ _ _ k refl refl refl e;
    all = λ n lt.
        let a = slice_index_or classes.firsts n 0 in
        let e = classing.first n a (slice_get-get_or classes.firsts n 0 lt) in
        let p = decode frame squares Drawn shows a (node_of_class a n e) in
        (spot a p, p.conducts_there, net_at a p ∙ e);
    one = λ a b h k.
        let p = placed frame squares Drawn shows a.layer a.x a.y h in
        let q = placed frame squares Drawn shows b.layer b.x b.y k in
        one_net p.number q.number p.place q.place;
  }
