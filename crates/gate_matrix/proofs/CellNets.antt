-- The nets of each cell of a gate matrix.
use Rattle.std.proofs.Common.{◌≡◌, ℕ, ◌==◌, Bool, true, false, ◌&&◌, ◌||◌, if◌then◌else◌, ◌⊎◌, inl, inr, refl}
use Rattle.std.proofs.lemmas.Bool.{eqb-true}
use Rattle.geom.specs.declared.layer.Layer.{Layer}
use Rattle.micro_tiles.specs.declared.side.Side.{Side}
use Rattle.micro_tiles.specs.declared.basic.Basic.{Basic}
use Rattle.micro_tiles.specs.declared.basic.Basic.TheVariants as tiles
use Rattle.micro_tiles.specs.Sides.{Carries}
use Rattle.micro_tiles.specs.Table.{design_of}
use Rattle.gate_matrix.specs.declared.column.Column.{Column}
use Rattle.gate_matrix.specs.declared.column.Column.TheVariants as columns
use Rattle.gate_matrix.specs.declared.row.RowKind.{RowKind}
use Rattle.gate_matrix.specs.declared.row.RowKind.TheVariants.{Start, Through, Stop, Vdd, Load, Out, Top, Middle, Bottom}
use Rattle.gate_matrix.specs.Rows.{MatrixRow, has_metal}
use Rattle.gate_matrix.specs.Cells.{cell, is_gated, load_cell, gate_cell, wire_cell, metal_cell, metal_above, metal_below, device_cell}
use Rattle.gate_matrix.proofs.Ports.{port}
use Rattle.gate_matrix.proofs.TileNets.{net, all_nets, passes}

-- the number of the poly of a net in its column: under a cut where the metal of the row is the net's
abbrev pub wire_net : RowKind → Bool → ℕ
wire_net kind meets = if has_metal kind && meets then 0 else 1

-- what the net of a cell is
pub data CellNet (row : MatrixRow) (column : Column) (n : ℕ) : Type 0 where
  metal : has_metal row.kind ≡ true → n ≡ 0 → CellNet row column n
  wire : (i : ℕ) → column ≡ columns.Wire i → n ≡ wire_net row.kind (row.metal == i) → CellNet row column n
  gate : (i : ℕ) → column ≡ columns.Device i → row.kind ≡ Middle → is_gated row.gated i ≡ true → n ≡ 1 → CellNet row column n
  top : (i : ℕ) → column ≡ columns.Device i → row.kind ≡ Middle → is_gated row.gated i ≡ true → n ≡ 2 → CellNet row column n
  bottom : (i : ℕ) → column ≡ columns.Device i → row.kind ≡ Middle → is_gated row.gated i ≡ true → n ≡ 3 → CellNet row column n
  load_gate : column ≡ columns.Load → row.kind ≡ Load → n ≡ 1 → CellNet row column n
  load_top : column ≡ columns.Load → row.kind ≡ Load → n ≡ 2 → CellNet row column n
  load_bottom : column ≡ columns.Load → row.kind ≡ Load → n ≡ 3 → CellNet row column n
  corner : column ≡ columns.Gate → row.kind ≡ Load → n ≡ 1 → CellNet row column n

-- ---- tests of nets

abbrev is_zero : ℕ → Bool
is_zero n = n == 0

abbrev is_one : ℕ → Bool
is_one n = n == 1

abbrev is_none : ℕ → Bool
is_none n = false

abbrev is_crossing : ℕ → Bool
is_crossing n = (n == 0) || (n == 1)

abbrev is_device : ℕ → Bool
is_device n = (n == 1) || ((n == 2) || (n == 3))

either : (a b : Bool) → (a || b) ≡ true → (a ≡ true) ⊎ (b ≡ true)
either true b h = inl refl
either false b h = inr h

module _ (tile : Basic) (side : Side) (layer : Layer) (h : Carries (port tile side) layer) where
  zero_net : all_nets tile is_zero ≡ true → net tile side layer ≡ 0
  zero_net all = eqb-true (net tile side layer) 0 (passes tile is_zero all side layer h)

  one_net : all_nets tile is_one ≡ true → net tile side layer ≡ 1
  one_net all = eqb-true (net tile side layer) 1 (passes tile is_one all side layer h)

  no_net : {X : Type 0} → all_nets tile is_none ≡ true → X
  no_net all = let e = passes tile is_none all side layer h in absurd (cc)

  crossing_net : all_nets tile is_crossing ≡ true → (net tile side layer ≡ 0) ⊎ (net tile side layer ≡ 1)
  crossing_net all = elim (either (net tile side layer == 0) (net tile side layer == 1) (passes tile is_crossing all side layer h)) [
    | inl e ↦ inl (eqb-true (net tile side layer) 0 e)
    | inr e ↦ inr (eqb-true (net tile side layer) 1 e)
  ]

  device_net : all_nets tile is_device ≡ true → (net tile side layer ≡ 1) ⊎ ((net tile side layer ≡ 2) ⊎ (net tile side layer ≡ 3))
  device_net all =
      let n = net tile side layer in
      elim (either (n == 1) ((n == 2) || (n == 3)) (passes tile is_device all side layer h)) [
        | inl e ↦ inl (eqb-true n 1 e)
        | inr e ↦ elim (either (n == 2) (n == 3) e) [
          | inl f ↦ inr (inl (eqb-true n 2 f))
          | inr f ↦ inr (inr (eqb-true n 3 f))
        ]
      ]

-- ---- by columns

module _ (side : Side) (layer : Layer) where
  load_net : (kind : RowKind) → Carries (port (load_cell kind) side) layer
      → ((has_metal kind ≡ true) × (net (load_cell kind) side layer ≡ 0))
      ⊎ ((kind ≡ Load) × ((net (load_cell kind) side layer ≡ 1) ⊎ ((net (load_cell kind) side layer ≡ 2) ⊎ (net (load_cell kind) side layer ≡ 3))))
  unfolding design_of
  load_net Start h = no_net tiles.Empty side layer h refl
  load_net Through h = no_net tiles.Empty side layer h refl
  load_net Stop h = no_net tiles.Empty side layer h refl
  load_net Vdd h = inl (refl, zero_net tiles.EastToDiffusionSouth side layer h refl)
  load_net Load h = inr (refl, device_net tiles.Load side layer h refl)
  load_net Out h = inl (refl, zero_net tiles.EastToDiffusionNorth side layer h refl)
  load_net Top h = inl (refl, zero_net tiles.MetalEast side layer h refl)
  load_net Middle h = no_net tiles.Empty side layer h refl
  load_net Bottom h = inl (refl, zero_net tiles.MetalEast side layer h refl)

  gate_net : (kind : RowKind) → Carries (port (gate_cell kind) side) layer
      → ((has_metal kind ≡ true) × (net (gate_cell kind) side layer ≡ 0)) ⊎ ((kind ≡ Load) × (net (gate_cell kind) side layer ≡ 1))
  unfolding design_of
  gate_net Start h = no_net tiles.Empty side layer h refl
  gate_net Through h = no_net tiles.Empty side layer h refl
  gate_net Stop h = no_net tiles.Empty side layer h refl
  gate_net Vdd h = inl (refl, zero_net tiles.MetalEastWest side layer h refl)
  gate_net Load h = inr (refl, one_net tiles.PolySouthWest side layer h refl)
  gate_net Out h = inl (refl, zero_net tiles.EastWestToPolyNorth side layer h refl)
  gate_net Top h = inl (refl, zero_net tiles.MetalEastWest side layer h refl)
  gate_net Middle h = no_net tiles.Empty side layer h refl
  gate_net Bottom h = inl (refl, zero_net tiles.MetalEastWest side layer h refl)

  wire_nets : (kind : RowKind) (meets gated : Bool) → Carries (port (wire_cell kind meets gated) side) layer
      → ((has_metal kind ≡ true) × (net (wire_cell kind meets gated) side layer ≡ 0)) ⊎
      (net (wire_cell kind meets gated) side layer ≡ wire_net kind meets)
  unfolding design_of
  wire_nets Start meets gated h = inr (one_net tiles.PolySouth side layer h refl)
  wire_nets Through meets gated h = inr (one_net tiles.PolyNorthSouth side layer h refl)
  wire_nets Stop meets gated h = inr (one_net tiles.PolyNorth side layer h refl)
  wire_nets Vdd true gated h = inl (refl, zero_net tiles.EastWestToPolyNorthSouth side layer h refl)
  wire_nets Vdd false gated h = elim (crossing_net tiles.Crossing side layer h refl) [ inl e ↦ inl (refl, e) | inr e ↦ inr e ]
  wire_nets Load meets gated h = inr (one_net tiles.PolyNorthSouth side layer h refl)
  wire_nets Out true gated h = inl (refl, zero_net tiles.EastWestToPolyNorthSouth side layer h refl)
  wire_nets Out false gated h = elim (crossing_net tiles.Crossing side layer h refl) [ inl e ↦ inl (refl, e) | inr e ↦ inr e ]
  wire_nets Top true gated h = inl (refl, zero_net tiles.EastWestToPolyNorthSouth side layer h refl)
  wire_nets Top false gated h = elim (crossing_net tiles.Crossing side layer h refl) [ inl e ↦ inl (refl, e) | inr e ↦ inr e ]
  wire_nets Middle meets true h = inr (one_net tiles.PolyNorthEastSouth side layer h refl)
  wire_nets Middle meets false h = inr (one_net tiles.PolyNorthSouth side layer h refl)
  wire_nets Bottom true gated h = inl (refl, zero_net tiles.EastWestToPolyNorthSouth side layer h refl)
  wire_nets Bottom false gated h = elim (crossing_net tiles.Crossing side layer h refl) [ inl e ↦ inl (refl, e) | inr e ↦ inr e ]

  metal_net : (last onward : Bool) → Carries (port (metal_cell last onward) side) layer → net (metal_cell last onward) side layer ≡ 0
  unfolding design_of
  metal_net false onward h = zero_net tiles.MetalEastWest side layer h refl
  metal_net true false h = zero_net tiles.MetalWest side layer h refl
  metal_net true true h = zero_net tiles.WestToPolyEast side layer h refl

  above_net : (last : Bool) → Carries (port (metal_above last) side) layer → net (metal_above last) side layer ≡ 0
  unfolding design_of
  above_net true h = zero_net tiles.WestToDiffusionSouth side layer h refl
  above_net false h = zero_net tiles.EastWestToDiffusionSouth side layer h refl

  below_net : (last : Bool) → Carries (port (metal_below last) side) layer → net (metal_below last) side layer ≡ 0
  unfolding design_of
  below_net true h = zero_net tiles.WestToDiffusionNorth side layer h refl
  below_net false h = zero_net tiles.EastWestToDiffusionNorth side layer h refl

  device_nets : (kind : RowKind) (gated last onward : Bool) → Carries (port (device_cell kind gated last onward) side) layer
      → ((has_metal kind ≡ true) × (net (device_cell kind gated last onward) side layer ≡ 0))
      ⊎ ((kind ≡ Middle) × (gated ≡ true) × ((net (device_cell kind gated last onward) side layer ≡ 1) ⊎
      ((net (device_cell kind gated last onward) side layer ≡ 2) ⊎ (net (device_cell kind gated last onward) side layer ≡ 3))))
  unfolding design_of
  device_nets Start gated last onward h = no_net tiles.Empty side layer h refl
  device_nets Through gated last onward h = no_net tiles.Empty side layer h refl
  device_nets Stop gated last onward h = no_net tiles.Empty side layer h refl
  device_nets Vdd gated last onward h = inl (refl, metal_net last onward h)
  device_nets Load gated last onward h = no_net tiles.Empty side layer h refl
  device_nets Out true last onward h = inl (refl, above_net last h)
  device_nets Out false last onward h = inl (refl, metal_net last onward h)
  device_nets Top true last onward h = inl (refl, above_net last h)
  device_nets Top false last onward h = inl (refl, metal_net last onward h)
  device_nets Middle true last onward h = inr (refl, refl, device_net tiles.Pass side layer h refl)
  device_nets Middle false last onward h = no_net tiles.Empty side layer h refl
  device_nets Bottom true last onward h = inl (refl, below_net last h)
  device_nets Bottom false last onward h = inl (refl, metal_net last onward h)

  pub cell_net : (row : MatrixRow) (column : Column) (last : Bool) → Carries (port (cell row column last) side) layer
      → CellNet row column (net (cell row column last) side layer)
  cell_net row columns.Load last h = elim (load_net row.kind h) [
    | inl e ↦ metal e.0 e.1
    | inr e ↦ elim e.1 [ inl f ↦ load_gate refl e.0 f | inr f ↦ elim f [ inl g ↦ load_top refl e.0 g | inr g ↦ load_bottom refl e.0 g ] ]
  ]
  cell_net row columns.Gate last h = elim (gate_net row.kind h) [
    | inl e ↦ metal e.0 e.1
    | inr e ↦ corner refl e.0 e.1
  ]
  cell_net row (columns.Wire i) last h = elim (wire_nets row.kind (row.metal == i) (is_gated row.gated i) h) [
    | inl e ↦ metal e.0 e.1
    | inr e ↦ wire i refl e
  ]
  cell_net row (columns.Device i) last h = elim (device_nets row.kind (is_gated row.gated i) last row.onward h) [
    | inl e ↦ metal e.0 e.1
    | inr e ↦ elim e.2 [
      | inl f ↦ gate i refl e.0 e.1 f
      | inr f ↦ elim f [ inl g ↦ top i refl e.0 e.1 g | inr g ↦ bottom i refl e.0 e.1 g ]
    ]
  ]
  cell_net row columns.Free last h = elim (device_nets row.kind false last row.onward h) [
    | inl e ↦ metal e.0 e.1
    | inr e ↦ let none = e.1 in absurd (cc)
  ]
