-- No load is too strong: each depletion device is 8 long and 2 wide, each enhancement device 2 long and 4 wide.
use Rattle.std.proofs.Common.{◌≡◌, ℤ, pos, ◌+ℤ◌, ◌-ℤ◌, ◌*ℤ◌, ◌≤ℤ◌, ◌<ℤ◌, not, Bool, true, false, List, refl, sym, ap, ◌∙◌, arith}
use Rattle.std.proofs.lemmas.Int.{ints}
use Rattle.geom.specs.declared.chip.Label.{Label}
use Rattle.geom.specs.Squares.{BoxShape, Inside}
use Rattle.geom.specs.Conduction.{Drawing}
use Rattle.geom.specs.Conduction.Leads.{here}
use Rattle.micro_tiles.specs.declared.device.Mode.{Mode}
use Rattle.micro_tiles.specs.declared.device.Mode.TheVariants.{Enhancement, Depletion}
use Rattle.micro_tiles.specs.Regions.{channel_box, length_by, width_by}
use Rattle.micro_tiles.specs.Table.{is_transpose}
use Rattle.nmos_model.specs.declared.channel.Channel.{Channel}
use Rattle.nmos_model.specs.Channels.{IsImplanted, HasTerminals, IsTransistor, rectangle_of}
use Rattle.stick_grid.specs.Transistors.{is_depletion, channel_at}
use Rattle.lambda_rules.specs.Rules.{length_of, width_of, IsAnyLoad, PullsDown, IsTooStrong}
use Rattle.tile_rules.proofs.Tiled.{Tiled, west_of, south_of}
use Rattle.tile_rules.proofs.Channels.{of_tile, region, region_is}

-- ---- a region is one channel

-- all of the first rectangle is in the second
record IsHeld (r s : BoxShape) : Type 0 where
  left : s.x1 ≤ℤ r.x1
  right : r.x2 ≤ℤ s.x2
  bottom : s.y1 ≤ℤ r.y1
  top : r.y2 ≤ℤ s.y2

held : (r s : BoxShape) → Inside r r.x1 r.y1 → ((u v : ℤ) → Inside r u v → Inside s u v) → IsHeld r s
held r s i all =
    let low = all r.x1 r.y1 i in
    let last : Inside r (r.x2 -ℤ pos 1) (r.y2 -ℤ pos 1) = record {
      left = omega (arith, ints, i.right);
      right = omega (arith, ints);
      bottom = omega (arith, ints, i.top);
      top = omega (arith, ints);
    } in
    let high = all (r.x2 -ℤ pos 1) (r.y2 -ℤ pos 1) last in
    record { left = low.left; right = omega (arith, ints, high.right); bottom = low.bottom; top = omega (arith, ints, high.top) }

-- the two have the same edges
record HaveSameEdges (r s : BoxShape) : Type 0 where
  x1 : r.x1 ≡ s.x1
  y1 : r.y1 ≡ s.y1
  x2 : r.x2 ≡ s.x2
  y2 : r.y2 ≡ s.y2

edges : (r s : BoxShape) → IsHeld r s → IsHeld s r → HaveSameEdges r s
edges r s h k = record {
  x1 = omega (arith, ints, h.left, k.left);
  y1 = omega (arith, ints, h.bottom, k.bottom);
  x2 = omega (arith, ints, h.right, k.right);
  y2 = omega (arith, ints, h.top, k.top);
}

module _ (Drawn : Drawing) (r s : BoxShape) (same : HaveSameEdges r s) (some : Inside r r.x1 r.y1) where
  some_other : Inside s r.x1 r.y1
  some_other = record {
    left = omega (arith, ints, same.x1);
    right = omega (arith, ints, same.x2, some.right);
    bottom = omega (arith, ints, same.y1);
    top = omega (arith, ints, same.y2, some.top);
  }

  upright_is : (a b : Bool) → HasTerminals Drawn a r → HasTerminals Drawn b s → a ≡ b
  upright_is true true h k = refl
  upright_is false false h k = refl
  upright_is true false h k = absurd (k.2 r.x1 r.y2 (record { left = some_other.left; right = some_other.right }, same.y2)
      (h.0 r.x1 r.y2 (record { left = some.left; right = some.right }, refl)))
  upright_is false true h k = absurd (h.2 r.x1 r.y2 (record { left = some.left; right = some.right }, refl)
      (k.0 r.x1 r.y2 (record { left = some_other.left; right = some_other.right }, same.y2)))

  depletion_is : (a b : Bool) → IsImplanted Drawn a r → IsImplanted Drawn b s → a ≡ b
  depletion_is true true h k = refl
  depletion_is false false h k = refl
  depletion_is true false h k = absurd (k r.x1 r.y1 some_other (h r.x1 r.y1 some))
  depletion_is false true h k = absurd (h r.x1 r.y1 some (k r.x1 r.y1 some_other))

same_channel : (Drawn : Drawing) (c d : Channel) → IsTransistor Drawn c → IsTransistor Drawn d → Inside (rectangle_of d) c.x1 c.y1 → c ≡ d
same_channel Drawn c d one other shared =
    let r = rectangle_of c in
    let s = rectangle_of d in
    let some = (one.full.squares c.x1 c.y1).0 (here c.x1 c.y1) in
    let some_other = (other.full.squares d.x1 d.y1).0 (here d.x1 d.y1) in
    let region = region_is Drawn d c.x1 c.y1 other shared in
    let e = edges r s (held r s some (λ u v i. (region u v).0 ((one.full.squares u v).1 i)))
    (held s r some_other (λ u v i. (one.full.squares u v).0 ((region u v).1 i))) in
    let upright = upright_is Drawn r s e some c.upright d.upright one.terminals other.terminals in
    let depletion = depletion_is Drawn r s e some c.depletion d.depletion one.implant other.implant in
    λ i. record { x1 = e.x1 i; y1 = e.y1 i; x2 = e.x2 i; y2 = e.y2 i; upright = upright i; depletion = depletion i }

-- ---- sizes

-- the channel of a tile that begins here
abbrev channel_by : Mode → Bool → ℤ → ℤ → Channel
channel_by mode transpose dx dy = record {
  x1 = dx +ℤ (channel_box mode transpose).x1;
  y1 = dy +ℤ (channel_box mode transpose).y1;
  x2 = dx +ℤ (channel_box mode transpose).x2;
  y2 = dy +ℤ (channel_box mode transpose).y2;
  upright = not transpose;
  depletion = is_depletion mode;
}

long : (mode : Mode) (transpose : Bool) (dx dy : ℤ) → length_of (channel_by mode transpose dx dy) ≡ length_by mode
long Enhancement false dx dy = omega (arith, ints)
long Enhancement true dx dy = omega (arith, ints)
long Depletion false dx dy = omega (arith, ints)
long Depletion true dx dy = omega (arith, ints)

broad : (mode : Mode) (transpose : Bool) (dx dy : ℤ) → width_of (channel_by mode transpose dx dy) ≡ width_by mode
broad Enhancement false dx dy = omega (arith, ints)
broad Enhancement true dx dy = omega (arith, ints)
broad Depletion false dx dy = omega (arith, ints)
broad Depletion true dx dy = omega (arith, ints)

-- a channel has the length and width of its mode
record Sized (c : Channel) : Type 0 where
  mode : Mode
  depletion : c.depletion ≡ is_depletion mode
  length : length_of c ≡ length_by mode
  width : width_of c ≡ width_by mode

sized : (Drawn : Drawing) (t : Tiled Drawn) (c : Channel) → IsTransistor Drawn c → Sized c
sized Drawn t c is =
    let o = of_tile Drawn t c.x1 c.y1 is.full.channel in
    let d = channel_at t.plan o.row o.col o.transistor in
    let same = same_channel Drawn c d is (region Drawn t o.row o.col o.is_row o.is_col o.transistor o.has) o.inside in
    let transpose = is_transpose (t.plan.tile o.row o.col) in
    record {
      mode = o.transistor.mode;
      depletion = ap (λ (e : Channel). e.depletion) same;
      length = ap length_of same ∙ long o.transistor.mode transpose (west_of o.col) (south_of t.plan o.row);
      width = ap width_of same ∙ broad o.transistor.mode transpose (west_of o.col) (south_of t.plan o.row);
    }

ratio : (m n : Mode) (long wide other_long other_wide : ℤ) → is_depletion m ≡ true → is_depletion n ≡ false → long ≡ length_by m → wide ≡ width_by m
    → other_long ≡ length_by n → other_wide ≡ width_by n → (long *ℤ other_wide) <ℤ (pos 8 *ℤ other_long *ℤ wide) → ⊥
ratio Depletion Enhancement long wide other_long other_wide d e f g h k strong =
    let is : (pos 8 *ℤ pos 4) <ℤ (pos 8 *ℤ pos 2 *ℤ pos 2) = rw (f, g, h, k) at strong in
    omega (arith, ints)
ratio Depletion Depletion long wide other_long other_wide d e f g h k strong = cc
ratio Enhancement n long wide other_long other_wide d e f g h k strong = cc

pub loads_weak : (Drawn : Drawing) (t : Tiled Drawn) (labels : List Label) (load c : Channel) → IsAnyLoad Drawn load → PullsDown Drawn labels load c
    → IsTooStrong load c → ⊥
loads_weak Drawn t labels load c any pulls strong =
    let s = sized Drawn t load any.transistor in
    let k = sized Drawn t c pulls.transistor in
    ratio s.mode k.mode (length_of load) (width_of load) (length_of c) (width_of c)
    (sym s.depletion ∙ any.depletion) (sym k.depletion ∙ pulls.enhancement)
    s.length s.width k.length k.width strong
