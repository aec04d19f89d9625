-- The transistor of a box of channel squares, or that it has none.
use Rattle.std.proofs.Common.{◌≡◌, ◌↔◌, ℕ, ◌<◌, ◌≤◌, ◌&&◌, ◌||◌, if◌then◌else◌, ℤ, pos, ◌+ℤ◌, ◌-ℤ◌, ◌≤ℤ◌, ◌<ℤ◌, Bool, true, false, IsTrue, inl, inr, List, length, get_or, Option, Some, None, refl, sym, ◌∙◌, ap, subst, arith}
use Rattle.std.proofs.lemmas.Int.{ints}
use Rattle.std.proofs.lemmas.List.{get_or_default}
use Rattle.geom.specs.declared.layer.Layer.TheVariants.{Diffusion, Implant}
use Rattle.geom.specs.Conduction.{Drawing, IsChannel, Leads}
use Rattle.geom.specs.Conduction.Leads.{here, step}
use Rattle.geom.specs.Squares.{BoxShape, IsBox, Inside}
use Rattle.geom.specs.Rows.{Over}
use Rattle.canonical_boxes.specs.Canonical.{IsCanonical, IsAt}
use Rattle.canonical_boxes.specs.Held.{InArea, Holds}
use Rattle.canonical_boxes.specs.Laws.{AreNumbered, BoxesAreRuns, SquaresLeadByTouches}
use Rattle.nmos_model.specs.declared.channel.Channel.{Channel}
use Rattle.nmos_model.specs.Channels.{IsFull, IsImplanted, IsTransistor, rectangle_of}
use Rattle.nmos_extract.specs.Areas.{above as above_of, below as below_of}
use Rattle.nmos_extract.specs.Sides.{IsFree, HasSides, AreFreeBeside, AreHeldBeside, direction, sides_at}
use Rattle.nmos_extract.specs.Regions.{IsCovered, HasSomeSides, channel_of}
use Rattle.nmos_extract.specs.declared.layers.Layers.{Layers}
use Rattle.nmos_extract.specs.declared.regions.Covers.{Covers}
use Rattle.nmos_extract.specs.declared.sides.Lines.{Lines}
use Rattle.nmos_extract.specs.declared.sides.Sides.{Sides}
use Rattle.nmos_extract.specs.Layers.{AreLayers}
use Rattle.nmos_extract.specs.Implants.{AreCovers}
use Rattle.nmos_extract.specs.Terminals.{AreChannelSquares, AreTerminals}
use Rattle.nmos_extract.specs.Transistors.{BeginsAt, IsTransistorAt, AreTransistors, transistor_of}
use Rattle.nmos_extract.proofs.Boxed.{at_least, box_at, corner, full_box, full_free, inside_leads, over_box}
use Rattle.nmos_extract.proofs.Firsts.{implanted}
use Rattle.nmos_extract.proofs.Paths.{leads_chain}
use Rattle.nmos_extract.proofs.Filled.{Filled}
use Rattle.nmos_extract.proofs.Judged.{Says, sides_of, told_way}
use Rattle.nmos_extract.proofs.Lists.{at_of, at_one, map_at}
use Rattle.nmos_extract.proofs.Sided.{SameEdges, same_edges, sides_are}

abbrev made_of : ℤ → ℤ → ℤ → ℤ → Bool → Bool → Channel
made_of x1 y1 x2 y2 v w = record { x1 = x1; y1 = y1; x2 = x2; y2 = y2; upright = v; depletion = w }

module _ (numbered : AreNumbered) (runs : BoxesAreRuns) (by_touches : SquaresLeadByTouches)
    (Drawn : Drawing) (m : List BoxShape) (canonical : IsCanonical m) (squares : AreChannelSquares Drawn m)
    (implant : List BoxShape) (covers : (x y : ℤ) → Over implant x y ↔ Drawn Implant x y)
    (diffusion : List BoxShape) (drawn : (x y : ℤ) → Over diffusion x y ↔ Drawn Diffusion x y)
    (terminals : List BoxShape) (conduct : AreTerminals Drawn terminals)
    (k : ℕ) (b : BoxShape) (at : IsAt m k b) where
  abbrev box : IsBox b
  box = box_at numbered runs by_touches Drawn m canonical squares k b at

  first : Inside b b.x1 b.y1
  first = corner b box

  same_squares : (u d : Bool) (x y : ℤ) → Inside b x y ↔ Inside (rectangle_of (channel_of u d b)) x y
  same_squares u d x y = (
    (λ h. record { left = h.left; right = h.right; bottom = h.bottom; top = h.top }),
    (λ h. record { left = h.left; right = h.right; bottom = h.bottom; top = h.top }),
  )

  -- nothing stands above the box or below it
  abbrev Alone : Type 0
  Alone = IsFree m (above_of b) × IsFree m (below_of b)

  full : Alone → (r : BoxShape) → ((u v : ℤ) → Inside b u v ↔ Inside r u v) → IsFull Drawn b.x1 b.y1 r
  full alone r same =
      full_box numbered runs by_touches Drawn m canonical squares k b at alone.0
      (λ x y l r e o. alone.1 x y (record { left = l; right = r; bottom = omega (arith, ints); top = omega (arith, ints) }) o)
      b.x1 b.y1 first r same

  made : (u d : Bool) → Alone → IsCovered implant d b → HasSides terminals diffusion u b → IsTransistor Drawn (channel_of u d b)
  made u d alone covered sides =
      let r : BoxShape = rectangle_of (channel_of u d b) in
      let e : SameEdges b r = record { left = refl; right = refl; bottom = refl; top = refl } in
      record {
        full = full alone r (same_squares u d);
        implant = (implanted numbered runs by_touches Drawn m canonical squares implant covers d b r (same_squares u d)).0 covered;
        terminals = (sides_are numbered runs by_touches Drawn m canonical squares diffusion drawn terminals conduct k b at alone.0 alone.1 u r e).0 sides;
      }

  -- what a transistor that begins with the box says of it
  record Known (c : Channel) : Type 0 where
    alone : Alone
    edges : SameEdges b (rectangle_of c)
    covered : IsCovered implant c.depletion b
    sides : HasSides terminals diffusion c.upright b

  known : (c : Channel) → BeginsAt b c → IsTransistor Drawn c → Known c
  known c begins is =
      let r : BoxShape = rectangle_of c in
      let P : ℤ → Type 0 = λ x. IsFull Drawn x c.y1 r in
      let Q : ℤ → Type 0 = λ y. IsFull Drawn b.x1 y r in
      let whole : IsFull Drawn b.x1 b.y1 r = subst Q begins.upward (subst P begins.across is.full) in
      let free : IsFree m (above_of b) = full_free numbered runs by_touches Drawn m canonical squares k b r at whole in
      let low : IsFree m (below_of b) = (λ x y area over.
      let al : (b.x1 ≤ℤ x) = area.left in
      let ar : (x <ℤ b.x2) = area.right in
      let ab : ((b.y1 -ℤ pos 1) ≤ℤ y) = area.bottom in
      let top : (y <ℤ b.y1) = area.top in
      let tall : (b.y1 <ℤ b.y2) = box.upward.order in
      let here : Inside b x b.y1 = record { left = al; right = ar; bottom = at_least b.y1; top = tall } in
      let path : Leads (IsChannel Drawn) b.x1 b.y1 x y = leads_chain (IsChannel Drawn) b.x1 b.y1 x b.y1 x y
      (inside_leads numbered runs by_touches Drawn m canonical squares k b at b.x1 b.y1 x b.y1 first here)
      (step x b.y1 x y x y (inl (refl, inr (omega (arith, ints)))) ((squares x y).0 over) (here_at x y)) in
      let within : Inside r x y = (whole.squares x y).0 path in
      let rb : (c.y1 ≤ℤ y) = within.bottom in
      let up : c.y1 ≡ b.y1 = begins.upward in
      omega (arith, ints)) in
      let own : IsFull Drawn b.x1 b.y1 b = full (free, low) b (λ u v. ((λ p. p), (λ p. p))) in
      let same : (x y : ℤ) → Inside b x y ↔ Inside r x y = (λ u v. (
        (λ i. (whole.squares u v).0 ((own.squares u v).1 i)),
        (λ i. (own.squares u v).0 ((whole.squares u v).1 i)),
      )) in
      let edges : SameEdges b r = same_edges b r box same in
      record {
        alone = (free, low);
        edges = edges;
        covered = (implanted numbered runs by_touches Drawn m canonical squares implant covers c.depletion b r same).1 is.implant;
        sides = (sides_are numbered runs by_touches Drawn m canonical squares diffusion drawn terminals conduct k b at free low c.upright r edges).1 is.terminals;
      }
    where
      here_at : (x y : ℤ) → Leads (IsChannel Drawn) x y x y
      here_at x y = here x y

  -- the box has its terminals one way only, and lies under implant or beside it
  crossed : HasSides terminals diffusion true b → HasSides terminals diffusion false b → ⊥
  crossed h l =
      let wide : (b.x1 <ℤ b.x2) = box.across.order in
      let area : InArea (above_of b) b.x1 b.y2 = record { left = at_least b.x1; right = wide; bottom = at_least b.y2; top = omega (arith, ints) } in
      l.2 b.x1 b.y2 area ((drawn b.x1 b.y2).1 ((conduct b.x1 b.y2).0 (h.0 b.x1 b.y2 area)).0)

  one_way : (u v : Bool) → HasSides terminals diffusion u b → HasSides terminals diffusion v b → u ≡ v
  one_way true true h l = refl
  one_way true false h l = absurd (crossed h l)
  one_way false true h l = absurd (crossed l h)
  one_way false false h l = refl

  one_cover : (d e : Bool) → IsCovered implant d b → IsCovered implant e b → d ≡ e
  one_cover true true h l = refl
  one_cover true false h l = absurd (l b.x1 b.y1 first (h b.x1 b.y1 first))
  one_cover false true h l = absurd (h b.x1 b.y1 first (l b.x1 b.y1 first))
  one_cover false false h l = refl

  same_channel : (c : Channel) (u d : Bool) → SameEdges b (rectangle_of c) → c.upright ≡ u → c.depletion ≡ d → c ≡ channel_of u d b
  same_channel c u d e f g =
      let l : c.x1 ≡ b.x1 = e.left in
      let r : c.x2 ≡ b.x2 = e.right in
      let low : c.y1 ≡ b.y1 = e.bottom in
      let top : c.y2 ≡ b.y2 = e.top in
      let all : (x1 y1 x2 y2 : ℤ) (v w : Bool) → x1 ≡ b.x1 → y1 ≡ b.y1 → x2 ≡ b.x2 → y2 ≡ b.y2 → v ≡ u → w ≡ d
      → made_of x1 y1 x2 y2 v w ≡ channel_of u d b = (λ x1 y1 x2 y2 v w p q s t f g. rw (p, q, s, t, f, g) refl) in
      all c.x1 c.y1 c.x2 c.y2 c.upright c.depletion l low r top f g

  yes : (u d : Bool) → Alone → IsCovered implant d b → HasSides terminals diffusion u b → IsTransistorAt Drawn b (Some (channel_of u d b))
  yes u d alone covered sides = (
    record { across = refl; upward = refl },
    made u d alone covered sides,
    (λ c begins is. let h : Known c = known c begins is in
        same_channel c u d h.edges (one_way c.upright u h.sides sides) (one_cover c.depletion d h.covered covered)),
  )

  -- ---- what the code decides by

  abbrev Told : Option Bool → Type 0
  Told = Says terminals diffusion b

  covered_somehow : (d under beside : Bool) → IsTrue under ↔ IsCovered implant true b → IsTrue beside ↔ IsCovered implant false b → IsCovered implant d b
      → under ≡ false → beside ≡ false → ⊥
  covered_somehow true under beside u s h e f = let t : IsTrue under = u.1 h in cc
  covered_somehow false under beside u s h e f = let t : IsTrue beside = s.1 h in cc

  by_tests : (above below under beside upright : Bool) → IsTrue above ↔ IsFree m (above_of b) → IsTrue below ↔ IsFree m (below_of b)
      → IsTrue under ↔ IsCovered implant true b → IsTrue beside ↔ IsCovered implant false b → HasSides terminals diffusion upright b
      → IsTransistorAt Drawn b (if (above && below) && (under || beside) then Some (channel_of upright under b) else None)
  by_tests false below under beside v a w u s t = λ c begins is. let e : IsTrue false = a.1 (known c begins is).alone.0 in absurd (cc)
  by_tests true false under beside v a w u s t = λ c begins is. let e : IsTrue false = w.1 (known c begins is).alone.1 in absurd (cc)
  by_tests true true true beside v a w u s t = yes v true (a.0 refl, w.0 refl) (u.0 refl) t
  by_tests true true false true v a w u s t = yes v false (a.0 refl, w.0 refl) (s.0 refl) t
  by_tests true true false false v a w u s t = λ c begins is. covered_somehow c.depletion false false u s (known c begins is).covered refl refl

  pub at_box : (lone : Sides) (under beside : Bool) (way : Option Bool) → IsTrue lone.above ↔ IsFree m (above_of b) → IsTrue lone.below ↔ IsFree m (below_of b)
      → IsTrue under ↔ IsCovered implant true b → IsTrue beside ↔ IsCovered implant false b → Told way
      → IsTransistorAt Drawn b (transistor_of lone under beside way b)
  at_box lone under beside None a w u s t = λ c begins is. t (c.upright, (known c begins is).sides)
  at_box lone under beside (Some v) a w u s t = by_tests lone.above lone.below under beside v a w u s t

-- ---- box by box

carried : (T : Sides → Bool → Bool → Option Bool → BoxShape → Option Channel) (x : Option Channel) (k l : Sides) (t u v w : Bool) (p q : Option Bool)
    (b c : BoxShape) → k ≡ l → t ≡ u → v ≡ w → p ≡ q → b ≡ c → x ≡ T k t v p b → x ≡ T l u w q c
carried T x k l t u v w p q b c e1 e2 e3 e4 e5 h = rw (sym e1, sym e2, sym e3, sym e4, sym e5) h

-- The transistor of each box, by what is told of it.
abbrev pub IsMade : List BoxShape → Lines → Covers → Lines → Lines → ℕ → Option Channel → Type 0
IsMade m alone covers held free k x = (b : BoxShape) → IsAt m k b
    → x ≡ transistor_of (sides_at alone k) (get_or covers.under.items k false) (get_or covers.beside.items k false)
    (direction (sides_at held k) (sides_at free k)) b

told_entry : (told : List Bool) (k : ℕ) (v : Bool) → k < length told → v ≡ get_or told k v → v ≡ get_or told k false
told_entry told k v l e = e ∙ sym (get_or_default told k false v l)

pub made_by : (m implant : List BoxShape) (alone : Lines) (covers : Covers) (held free : Lines) (n : ℕ) (b : BoxShape) (x : Option Channel) (lone : Sides)
    (under beside : Bool) (way : Option Bool) → IsAt m n b → AreCovers m implant covers → x ≡ transistor_of lone under beside way b
    → lone ≡ sides_at alone n → under ≡ get_or covers.under.items n under → beside ≡ get_or covers.beside.items n beside
    → way ≡ direction (sides_at held n) (sides_at free n) → IsMade m alone covers held free n x
made_by m implant alone covers held free n b x lone under beside way at are e l u s w = λ c there.
    let k : n < length m = at.within in
    let size : length covers.under.items ≡ length m = are.under_size in
    let size' : length covers.beside.items ≡ length m = are.beside_size in
    carried transistor_of x lone (sides_at alone n) under (get_or covers.under.items n false) beside (get_or covers.beside.items n false)
    way (direction (sides_at held n) (sides_at free n)) b c l (told_entry covers.under.items n under (omega arith) u)
    (told_entry covers.beside.items n beside (omega arith) s) w (at_one m n b c at there) e

module _ (numbered : AreNumbered) (runs : BoxesAreRuns) (by_touches : SquaresLeadByTouches)
    (Drawn : Drawing) (m : List BoxShape) (canonical : IsCanonical m) (squares : AreChannelSquares Drawn m)
    (layers : Layers) (are : AreLayers Drawn layers)
    (terminals : List BoxShape) (conduct : AreTerminals Drawn terminals)
    (alone : Lines) (covers : Covers) (held free : Lines) (nothing : AreFreeBeside m m alone) (under : AreCovers m layers.implant covers)
    (all : AreHeldBeside terminals m held) (none : AreFreeBeside layers.diffusion m free) where
  made_at : (k : ℕ) (b : BoxShape) (x : Option Channel) → IsAt m k b → IsMade m alone covers held free k x → IsTransistorAt Drawn b x
  made_at k b x at made =
      let h = sides_of terminals layers.diffusion m held free all none k b at in
      let told = told_way terminals layers.diffusion b (sides_at held k) (sides_at free k) h in
      let P : Option Channel → Type 0 = λ y. IsTransistorAt Drawn b y in
      subst P (sym (made b at))
      (at_box numbered runs by_touches Drawn m canonical squares layers.implant are.implant layers.diffusion are.diffusion terminals conduct k b at
      (sides_at alone k) (get_or covers.under.items k false) (get_or covers.beside.items k false) (direction (sides_at held k) (sides_at free k))
      (nothing.above.each k (above_of b) (map_at above_of m k b at)) (nothing.below.each k (below_of b) (map_at below_of m k b at))
      (under.under k b at) (under.beside k b at) told)

  pub are_transistors : (n : ℕ) (found : List (Option Channel)) → length m ≤ n → n ≤ length m → Filled (IsMade m alone covers held free) n found
      → AreTransistors Drawn m found
  are_transistors n found l g h = record {
    size = omega (arith, h.size);
    each = λ k b at. let w : k < length m = at.within in made_at k b (get_or found k None) at (h.each k (get_or found k None) (at_of found k None (omega (arith, h.size))));
  }
