-- Nets of tiles that meet have one name.
use Rattle.std.proofs.Common.{◌≡◌, ℕ, ◌==◌, ◌⊎◌, inl, inr, Bool, true, false, ◌&&◌, ◌||◌, cond, if◌then◌else◌, Some, None, refl, sym, ◌∙◌, ap, subst}
use Rattle.geom.specs.declared.layer.Layer.{Layer}
use Rattle.geom.specs.declared.layer.Layer.TheVariants.{Diffusion, Poly, Metal, Cut, Implant}
use Rattle.micro_tiles.specs.declared.side.Port.{Port}
use Rattle.micro_tiles.specs.declared.side.Side.{Side}
use Rattle.micro_tiles.specs.declared.side.Side.TheVariants.{North, East, South, West}
use Rattle.micro_tiles.specs.Sides.{Carries}
use Rattle.micro_tiles.specs.Table.{design_of}
use Rattle.gate_matrix.specs.declared.column.Column.{Column}
use Rattle.gate_matrix.specs.declared.column.Column.TheVariants as columns
use Rattle.gate_matrix.specs.declared.row.RowKind.{RowKind}
use Rattle.gate_matrix.specs.declared.row.RowKind.TheVariants.{Start, Through, Stop, Vdd, Load, Out, Top, Middle, Bottom}
use Rattle.gate_matrix.specs.Rows.{MatrixRow, has_metal}
use Rattle.gate_matrix.specs.Cells.{cell, is_gated, load_cell, gate_cell, wire_cell, device_cell}
use Rattle.gate_matrix.specs.Matrices.{is_vdd, is_load}
use Rattle.gate_matrix.specs.MatrixNets.{net_among, IsAbove}
use Rattle.gate_matrix.proofs.Ports as ports
use Rattle.gate_matrix.proofs.Ports.{port, branch, goes_south}
use Rattle.gate_matrix.proofs.ColumnFacts.{Beside}
use Rattle.gate_matrix.proofs.ColumnFacts.Beside.{loads, gate_wire, gate_free, wire_device, device_wire, device_free, free_wire, free_free}
use Rattle.gate_matrix.proofs.TileNets.{net, metal_net}
use Rattle.gate_matrix.proofs.CellNets.{wire_net}
use Rattle.gate_matrix.proofs.Stacks.{from_vdd, from_load, under_vdd, under_load, under_middle, gated_below_middle, under_top}

-- ---- what is carried

pub maybe : (t : Bool) (l layer : Layer) → cond t (Some l) None ≡ Some layer → (t ≡ true) × (layer ≡ l)
maybe true l layer h = (refl, cc)
maybe false l layer h = absurd (cc)

pub both_true : (a b : Bool) → (a && b) ≡ true → (a ≡ true) × (b ≡ true)
both_true true b h = (refl, h)
both_true false b h = absurd (cc)

one_true : (a b : Bool) → (a || b) ≡ true → (a ≡ true) ⊎ (b ≡ true)
one_true true b h = inl refl
one_true false b h = inr h

pub from_branch : (kind : RowKind) (gated : Bool) → branch kind gated ≡ true → (kind ≡ Middle) × (gated ≡ true)
from_branch Middle gated h = (refl, h)
from_branch _ gated h = absurd (cc)

from_south : (kind : RowKind) → goes_south kind ≡ true → ((kind ≡ Out) ⊎ (kind ≡ Top)) ⊎ (kind ≡ Middle)
from_south Out h = inl (inl refl)
from_south Top h = inl (inr refl)
from_south Middle h = inr refl
from_south _ h = absurd (cc)

pub load_east : (kind : RowKind) → (port (load_cell kind) East).other ≡ cond (is_load kind) (Some Poly) None
unfolding design_of
load_east Start = refl
load_east Through = refl
load_east Stop = refl
load_east Vdd = refl
load_east Load = refl
load_east Out = refl
load_east Top = refl
load_east Middle = refl
load_east Bottom = refl

-- ---- the numbers of nets

pub wire_number : (kind : RowKind) (meets gated : Bool) (side : Side) → net (wire_cell kind meets gated) side Poly ≡ wire_net kind meets
unfolding design_of
wire_number Start meets gated side = refl
wire_number Through meets gated side = refl
wire_number Stop meets gated side = refl
wire_number Vdd true gated side = refl
wire_number Vdd false gated side = refl
wire_number Load meets gated side = refl
wire_number Out true gated side = refl
wire_number Out false gated side = refl
wire_number Top true gated side = refl
wire_number Top false gated side = refl
wire_number Middle meets true side = refl
wire_number Middle meets false side = refl
wire_number Bottom true gated side = refl
wire_number Bottom false gated side = refl

-- The poly of a net's column has the net's name, where metal that meets it is the net's.
pub wire_name : (kind : RowKind) (i : ℕ) (meets : Bool) (above here below : ℕ) → (meets ≡ true → has_metal kind ≡ true → here ≡ i)
    → net_among (columns.Wire i) above here below (wire_net kind meets) ≡ i
wire_name kind i meets above here below h = by_tests meets (has_metal kind) h
  where
    by_tests : (t m : Bool) → (t ≡ true → m ≡ true → here ≡ i) → net_among (columns.Wire i) above here below (if m && t then 0 else 1) ≡ i
    by_tests true true same = same refl refl
    by_tests true false same = refl
    by_tests false true same = refl
    by_tests false false same = refl

module _ (last onward : Bool) where
  pub pass_gate : net (device_cell Middle true last onward) West Poly ≡ 1
  unfolding design_of
  pass_gate = refl

  pub pass_top : net (device_cell Middle true last onward) North Diffusion ≡ 2
  unfolding design_of
  pass_top = refl

  pub pass_bottom : net (device_cell Middle true last onward) South Diffusion ≡ 3
  unfolding design_of
  pass_bottom = refl

  pub out_number : net (device_cell Out true last onward) South Diffusion ≡ 0
  unfolding design_of
  out_number = elim last as (λ t. net (device_cell Out true t onward) South Diffusion ≡ 0) [ true ↦ refl | false ↦ refl ]

  pub top_number : net (device_cell Top true last onward) South Diffusion ≡ 0
  unfolding design_of
  top_number = elim last as (λ t. net (device_cell Top true t onward) South Diffusion ≡ 0) [ true ↦ refl | false ↦ refl ]

  pub bottom_number : net (device_cell Bottom true last onward) North Diffusion ≡ 0
  unfolding design_of
  bottom_number = elim last as (λ t. net (device_cell Bottom true t onward) North Diffusion ≡ 0) [ true ↦ refl | false ↦ refl ]

pub load_gate_number : net (load_cell Load) East Poly ≡ 1
unfolding design_of
load_gate_number = refl

pub load_top_number : net (load_cell Load) North Diffusion ≡ 2
unfolding design_of
load_top_number = refl

pub load_bottom_number : net (load_cell Load) South Diffusion ≡ 3
unfolding design_of
load_bottom_number = refl

pub vdd_number : net (load_cell Vdd) South Diffusion ≡ 0
unfolding design_of
vdd_number = refl

pub out_load_number : net (load_cell Out) North Diffusion ≡ 0
unfolding design_of
out_load_number = refl

pub corner_west_number : net (gate_cell Load) West Poly ≡ 1
unfolding design_of
corner_west_number = refl

pub corner_south_number : net (gate_cell Load) South Poly ≡ 1
unfolding design_of
corner_south_number = refl

pub out_gate_number : net (gate_cell Out) North Poly ≡ 0
unfolding design_of
out_gate_number = refl

-- ---- side by side

-- the name of the cell's net at the side, among the metal above, here and below
abbrev name_at : MatrixRow → Column → Bool → Side → Layer → ℕ → ℕ → ℕ → ℕ
name_at row k last side layer above here below = net_among k above here below (net (cell row k last) side layer)

module _ (row : MatrixRow) (last : Bool) (above here below : ℕ) where
  abbrev agree_east : Column → Column → Layer → Type 0
  agree_east j k layer = name_at row j false East layer above here below ≡ name_at row k last West layer above here below

  at_loads : (kind : RowKind) → kind ≡ Load → (layer : Layer) → layer ≡ Poly
      → net_among columns.Load above here below (net (load_cell kind) East layer) ≡ net_among columns.Gate above here below
      (net (gate_cell kind) West layer)
  unfolding design_of
  at_loads kind e layer f = rw (e, f) refl

  at_device : (i : ℕ) (kind : RowKind) (meets gated onward : Bool) → kind ≡ Middle → gated ≡ true → (layer : Layer) → layer ≡ Poly
      → net_among (columns.Wire i) above here below (net (wire_cell kind meets gated) East layer) ≡ net_among (columns.Device i) above here below
      (net (device_cell kind gated last onward) West layer)
  unfolding design_of
  at_device i kind meets gated onward e g layer f = rw (e, g, f) refl

  none_east : (p : Port) (t : Bool) → p ≡ record { metal = t; other = None } → (layer : Layer) → p.other ≡ Some layer → ⊥
  none_east p t e layer h = let none : p.other ≡ None = ap (λ (q : Port). q.other) e in cc

  east_names : (j k : Column) → Beside j k → (layer : Layer) → (port (cell row j false) East).other ≡ Some layer → agree_east j k layer
  east_names _ _ loads layer h =
      let m = maybe (is_load row.kind) Poly layer (sym (load_east row.kind) ∙ h) in
      at_loads row.kind (from_load row.kind m.0) layer m.1
  east_names _ _ (gate_wire i) layer h = absurd (none_east _ _ (ports.gate_east row.kind) layer h)
  east_names _ _ gate_free layer h = absurd (none_east _ _ (ports.gate_east row.kind) layer h)
  east_names _ _ (wire_device i) layer h =
      let at = ap (λ (q : Port). q.other) (sym (ports.wire_east row.kind (row.metal == i) (is_gated row.gated i))) ∙ h in
      let m = maybe (branch row.kind (is_gated row.gated i)) Poly layer at in
      let b = from_branch row.kind (is_gated row.gated i) m.0 in
      at_device i row.kind (row.metal == i) (is_gated row.gated i) row.onward b.0 b.1 layer m.1
  east_names _ _ (device_wire i j) layer h = absurd (none_east _ _ (ports.device_east row.kind (is_gated row.gated i) row.onward) layer h)
  east_names _ _ (device_free i) layer h = absurd (none_east _ _ (ports.device_east row.kind (is_gated row.gated i) row.onward) layer h)
  east_names _ _ (free_wire i) layer h = absurd (none_east _ _ (ports.device_east row.kind false row.onward) layer h)
  east_names _ _ free_free layer h = absurd (none_east _ _ (ports.device_east row.kind false row.onward) layer h)

  zero_names : (j k : Column) (m n : ℕ) → 0 ≡ m → 0 ≡ n → net_among j above here below m ≡ net_among k above here below n
  zero_names j k m n e f = ap (net_among j above here below) (sym e) ∙ ap (net_among k above here below) f

  -- whatever is carried
  pub eastward : (j k : Column) → Beside j k → (layer : Layer) → Carries (port (cell row j false) East) layer → agree_east j k layer
  eastward j k b Metal h = zero_names j k _ _ (metal_net _ East) (metal_net _ West)
  eastward j k b Diffusion h = east_names j k b Diffusion h
  eastward j k b Poly h = east_names j k b Poly h
  eastward j k b Cut h = east_names j k b Cut h
  eastward j k b Implant h = east_names j k b Implant h

-- ---- one above another

module _ (upper lower : MatrixRow) (is : IsAbove upper lower) (last : Bool) (above high low below : ℕ) where
  abbrev agree_south : Column → Layer → Type 0
  agree_south k layer = name_at upper k last South layer above high low ≡ name_at lower k last North layer high low below

  under_high : (u l : RowKind) → u ≡ Vdd → l ≡ Load → (layer : Layer) → layer ≡ Diffusion
      → net_among columns.Load above high low (net (load_cell u) South layer) ≡ net_among columns.Load high low below
      (net (load_cell l) North layer)
  unfolding design_of
  under_high u l e f layer g = rw (e, f, g) refl

  under_pulled : (u l : RowKind) → u ≡ Load → l ≡ Out → (layer : Layer) → layer ≡ Diffusion
      → net_among columns.Load above high low (net (load_cell u) South layer) ≡ net_among columns.Load high low below
      (net (load_cell l) North layer)
  unfolding design_of
  under_pulled u l e f layer g = rw (e, f, g) refl

  under_corner : (u l : RowKind) → u ≡ Load → l ≡ Out → (layer : Layer) → layer ≡ Poly
      → net_among columns.Gate above high low (net (gate_cell u) South layer) ≡ net_among columns.Gate high low below
      (net (gate_cell l) North layer)
  unfolding design_of
  under_corner u l e f layer g = rw (e, f, g) refl

  -- the diffusion of a net's devices, at metal above and below
  abbrev device_names : ℕ → RowKind → Bool → RowKind → Bool → Layer → Type 0
  device_names i u ug l lg layer =
      net_among (columns.Device i) above high low (net (device_cell u ug last upper.onward) South layer)
      ≡ net_among (columns.Device i) high low below (net (device_cell l lg last lower.onward) North layer)

  under_out : (i : ℕ) (u l : RowKind) (ug lg : Bool) (layer : Layer) → u ≡ Out → ug ≡ true → l ≡ Middle → lg ≡ true → layer ≡ Diffusion
      → device_names i u ug l lg layer
  under_out i u l ug lg layer e f g h d = rw (e, f, g, h, d, out_number last upper.onward, pass_top last lower.onward) refl

  under_tops : (i : ℕ) (u l : RowKind) (ug lg : Bool) (layer : Layer) → u ≡ Top → ug ≡ true → l ≡ Middle → lg ≡ true → layer ≡ Diffusion
      → device_names i u ug l lg layer
  under_tops i u l ug lg layer e f g h d = rw (e, f, g, h, d, top_number last upper.onward, pass_top last lower.onward) refl

  under_middles : (i : ℕ) (u l : RowKind) (ug lg : Bool) (layer : Layer) → u ≡ Middle → ug ≡ true → l ≡ Bottom → lg ≡ true → layer ≡ Diffusion
      → device_names i u ug l lg layer
  under_middles i u l ug lg layer e f g h d = rw (e, f, g, h, d, pass_bottom last upper.onward, bottom_number last lower.onward) refl

  none_south : (p : Port) (t : Bool) → p ≡ record { metal = t; other = None } → (layer : Layer) → p.other ≡ Some layer → ⊥
  none_south p t e layer h = let none : p.other ≡ None = ap (λ (q : Port). q.other) e in cc

  and_false : (t : Bool) → (t && false) ≡ true → ⊥
  and_false true h = cc
  and_false false h = cc

  -- what the poly of a net's column meets in either row is the net's
  abbrev Named : Column → Type 0
  Named k = (i : ℕ) → k ≡ columns.Wire i
      → ((upper.metal == i) ≡ true → has_metal upper.kind ≡ true → high ≡ i) × ((lower.metal == i) ≡ true → has_metal lower.kind ≡ true → low ≡ i)

  south_names : (k : Column) → Named k → (layer : Layer) → (port (cell upper k last) South).other ≡ Some layer → agree_south k layer
  south_names columns.Load named layer h =
      let at = ap (λ (q : Port). q.other) (sym (ports.load_south upper.kind)) ∙ h in
      let m = maybe (is_vdd upper.kind || is_load upper.kind) Diffusion layer at in
      elim (one_true (is_vdd upper.kind) (is_load upper.kind) m.0) [
        | inl e ↦ let u = from_vdd upper.kind e in under_high upper.kind lower.kind u (under_vdd upper lower is u) layer m.1
        | inr e ↦ let u = from_load upper.kind e in under_pulled upper.kind lower.kind u (under_load upper lower is u) layer m.1
      ]
  south_names columns.Gate named layer h =
      let at = ap (λ (q : Port). q.other) (sym (ports.gate_south upper.kind)) ∙ h in
      let m = maybe (is_load upper.kind) Poly layer at in
      let u = from_load upper.kind m.0 in
      under_corner upper.kind lower.kind u (under_load upper lower is u) layer m.1
  south_names (columns.Wire i) named layer h =
      let at = ap (λ (q : Port). q.other) (sym (ports.wire_south upper.kind (upper.metal == i) (is_gated upper.gated i))) ∙ h in
      let m = maybe _ Poly layer at in
      subst (agree_south (columns.Wire i)) (sym m.1)
      (ap (net_among (columns.Wire i) above high low) (wire_number upper.kind (upper.metal == i) (is_gated upper.gated i) South)
      ∙ wire_name upper.kind i (upper.metal == i) above high low (named i refl).0
      ∙ sym (ap (net_among (columns.Wire i) high low below) (wire_number lower.kind (lower.metal == i) (is_gated lower.gated i) North)
      ∙ wire_name lower.kind i (lower.metal == i) high low below (named i refl).1))
  south_names (columns.Device i) named layer h =
      let at = ap (λ (q : Port). q.other) (sym (ports.device_south upper.kind (is_gated upper.gated i) last upper.onward)) ∙ h in
      let m = maybe (goes_south upper.kind && is_gated upper.gated i) Diffusion layer at in
      let b = both_true (goes_south upper.kind) (is_gated upper.gated i) m.0 in
      let g = b.1 in
      elim (from_south upper.kind b.0) [
        | inl e ↦
            let l = under_top upper lower is i e g in
            elim e [
              | inl o ↦ under_out i upper.kind lower.kind _ _ layer o g l.0 l.1 m.1
              | inr t ↦ under_tops i upper.kind lower.kind _ _ layer t g l.0 l.1 m.1
            ]
        | inr e ↦ under_middles i upper.kind lower.kind _ _ layer e g (under_middle upper lower is e) (gated_below_middle upper lower is i e g) m.1
      ]
  south_names columns.Free named layer h =
      let at = ap (λ (q : Port). q.other) (sym (ports.device_south upper.kind false last upper.onward)) ∙ h in
      let m = maybe (goes_south upper.kind && false) Diffusion layer at in
      absurd (and_false (goes_south upper.kind) m.0)

  no_metal : (k : Column) → (port (cell upper k last) South).metal ≡ false
  no_metal columns.Load = ap (λ (q : Port). q.metal) (ports.load_south upper.kind)
  no_metal columns.Gate = ap (λ (q : Port). q.metal) (ports.gate_south upper.kind)
  no_metal (columns.Wire i) = ap (λ (q : Port). q.metal) (ports.wire_south upper.kind (upper.metal == i) (is_gated upper.gated i))
  no_metal (columns.Device i) = ap (λ (q : Port). q.metal) (ports.device_south upper.kind (is_gated upper.gated i) last upper.onward)
  no_metal columns.Free = ap (λ (q : Port). q.metal) (ports.device_south upper.kind false last upper.onward)

  -- whatever is carried
  pub southward : (k : Column) → Named k → (layer : Layer) → Carries (port (cell upper k last) South) layer → agree_south k layer
  southward k named Metal h = let none = no_metal k in let some : (port (cell upper k last) South).metal ≡ true = h in absurd (cc)
  southward k named Diffusion h = south_names k named Diffusion h
  southward k named Poly h = south_names k named Poly h
  southward k named Cut h = south_names k named Cut h
  southward k named Implant h = south_names k named Implant h
