-- What the tiles of a gate matrix carry at their sides.
use Rattle.std.proofs.Common.{◌≡◌, Bool, true, false, not, ◌&&◌, ◌||◌, cond, Some, None, refl}
use Rattle.geom.specs.declared.layer.Layer.{Layer}
use Rattle.geom.specs.declared.layer.Layer.TheVariants.{Diffusion, Poly}
use Rattle.micro_tiles.specs.declared.side.Port.{Port}
use Rattle.micro_tiles.specs.declared.side.Side.{Side}
use Rattle.micro_tiles.specs.declared.side.Side.TheVariants.{North, East, South, West}
use Rattle.micro_tiles.specs.declared.basic.Basic.{Basic}
use Rattle.micro_tiles.specs.Basics.{number_named}
use Rattle.micro_tiles.specs.Table.{design_of, port_at}
use Rattle.gate_matrix.specs.declared.row.RowKind.{RowKind}
use Rattle.gate_matrix.specs.declared.row.RowKind.TheVariants.{Start, Through, Stop, Vdd, Load, Out, Top, Middle, Bottom}
use Rattle.gate_matrix.specs.Rows.{has_metal}
use Rattle.gate_matrix.specs.Cells.{load_cell, gate_cell, wire_cell, device_cell}
use Rattle.gate_matrix.specs.Matrices.{is_vdd, is_load, is_out, is_start, is_stop}

abbrev pub port : Basic → Side → Port
port tile side = port_at (number_named tile) side

-- the metal of a row and nothing else
abbrev pub wide : RowKind → Port
wide kind = record { metal = has_metal kind; other = None }

-- the layer and nothing else, or nothing
abbrev pub narrow : Layer → Bool → Port
narrow layer t = record { metal = false; other = cond t (Some layer) None }

-- the metal of a row, and the poly that leads to a device
abbrev pub branch : RowKind → Bool → Bool
branch Middle gated = gated
branch _ gated = false

abbrev pub branched : RowKind → Bool → Port
branched kind gated = record { metal = has_metal kind; other = cond (branch kind gated) (Some Poly) None }

-- devices lead on to the south, or to the north
abbrev pub goes_south : RowKind → Bool
goes_south Out = true
goes_south Top = true
goes_south Middle = true
goes_south _ = false

abbrev pub goes_north : RowKind → Bool
goes_north Middle = true
goes_north Bottom = true
goes_north _ = false

pub device_east : (kind : RowKind) (gated onward : Bool) → port (device_cell kind gated false onward) East ≡ wide kind
unfolding design_of
device_east Start g onward = refl
device_east Through g onward = refl
device_east Stop g onward = refl
device_east Vdd g onward = refl
device_east Load g onward = refl
device_east Out true onward = refl
device_east Out false onward = refl
device_east Top true onward = refl
device_east Top false onward = refl
device_east Middle true onward = refl
device_east Middle false onward = refl
device_east Bottom true onward = refl
device_east Bottom false onward = refl

pub device_west : (kind : RowKind) (gated last onward : Bool) → port (device_cell kind gated last onward) West ≡ branched kind gated
unfolding design_of
device_west Start g last onward = refl
device_west Through g last onward = refl
device_west Stop g last onward = refl
device_west Vdd g false onward = refl
device_west Vdd g true false = refl
device_west Vdd g true true = refl
device_west Load g last onward = refl
device_west Out true true onward = refl
device_west Out true false onward = refl
device_west Out false false onward = refl
device_west Out false true false = refl
device_west Out false true true = refl
device_west Top true true onward = refl
device_west Top true false onward = refl
device_west Top false false onward = refl
device_west Top false true false = refl
device_west Top false true true = refl
device_west Middle true last onward = refl
device_west Middle false last onward = refl
device_west Bottom true true onward = refl
device_west Bottom true false onward = refl
device_west Bottom false false onward = refl
device_west Bottom false true false = refl
device_west Bottom false true true = refl

pub device_south : (kind : RowKind) (gated last onward : Bool) → port (device_cell kind gated last onward) South ≡ narrow Diffusion (goes_south kind && gated)
unfolding design_of
device_south Start g last onward = refl
device_south Through g last onward = refl
device_south Stop g last onward = refl
device_south Vdd g false onward = refl
device_south Vdd g true false = refl
device_south Vdd g true true = refl
device_south Load g last onward = refl
device_south Out true true onward = refl
device_south Out true false onward = refl
device_south Out false false onward = refl
device_south Out false true false = refl
device_south Out false true true = refl
device_south Top true true onward = refl
device_south Top true false onward = refl
device_south Top false false onward = refl
device_south Top false true false = refl
device_south Top false true true = refl
device_south Middle true last onward = refl
device_south Middle false last onward = refl
device_south Bottom true true onward = refl
device_south Bottom true false onward = refl
device_south Bottom false false onward = refl
device_south Bottom false true false = refl
device_south Bottom false true true = refl

pub device_north : (kind : RowKind) (gated last onward : Bool) → port (device_cell kind gated last onward) North ≡ narrow Diffusion (goes_north kind && gated)
unfolding design_of
device_north Start g last onward = refl
device_north Through g last onward = refl
device_north Stop g last onward = refl
device_north Vdd g false onward = refl
device_north Vdd g true false = refl
device_north Vdd g true true = refl
device_north Load g last onward = refl
device_north Out true true onward = refl
device_north Out true false onward = refl
device_north Out false false onward = refl
device_north Out false true false = refl
device_north Out false true true = refl
device_north Top true true onward = refl
device_north Top true false onward = refl
device_north Top false false onward = refl
device_north Top false true false = refl
device_north Top false true true = refl
device_north Middle true last onward = refl
device_north Middle false last onward = refl
device_north Bottom true true onward = refl
device_north Bottom true false onward = refl
device_north Bottom false false onward = refl
device_north Bottom false true false = refl
device_north Bottom false true true = refl

pub wire_west : (kind : RowKind) (meets gated : Bool) → port (wire_cell kind meets gated) West ≡ wide kind
unfolding design_of
wire_west Start meets gated = refl
wire_west Through meets gated = refl
wire_west Stop meets gated = refl
wire_west Vdd true gated = refl
wire_west Vdd false gated = refl
wire_west Load meets gated = refl
wire_west Out true gated = refl
wire_west Out false gated = refl
wire_west Top true gated = refl
wire_west Top false gated = refl
wire_west Middle meets true = refl
wire_west Middle meets false = refl
wire_west Bottom true gated = refl
wire_west Bottom false gated = refl

pub wire_east : (kind : RowKind) (meets gated : Bool) → port (wire_cell kind meets gated) East ≡ branched kind gated
unfolding design_of
wire_east Start meets gated = refl
wire_east Through meets gated = refl
wire_east Stop meets gated = refl
wire_east Vdd true gated = refl
wire_east Vdd false gated = refl
wire_east Load meets gated = refl
wire_east Out true gated = refl
wire_east Out false gated = refl
wire_east Top true gated = refl
wire_east Top false gated = refl
wire_east Middle meets true = refl
wire_east Middle meets false = refl
wire_east Bottom true gated = refl
wire_east Bottom false gated = refl

pub wire_south : (kind : RowKind) (meets gated : Bool) → port (wire_cell kind meets gated) South ≡ narrow Poly (not (is_stop kind))
unfolding design_of
wire_south Start meets gated = refl
wire_south Through meets gated = refl
wire_south Stop meets gated = refl
wire_south Vdd true gated = refl
wire_south Vdd false gated = refl
wire_south Load meets gated = refl
wire_south Out true gated = refl
wire_south Out false gated = refl
wire_south Top true gated = refl
wire_south Top false gated = refl
wire_south Middle meets true = refl
wire_south Middle meets false = refl
wire_south Bottom true gated = refl
wire_south Bottom false gated = refl

pub wire_north : (kind : RowKind) (meets gated : Bool) → port (wire_cell kind meets gated) North ≡ narrow Poly (not (is_start kind))
unfolding design_of
wire_north Start meets gated = refl
wire_north Through meets gated = refl
wire_north Stop meets gated = refl
wire_north Vdd true gated = refl
wire_north Vdd false gated = refl
wire_north Load meets gated = refl
wire_north Out true gated = refl
wire_north Out false gated = refl
wire_north Top true gated = refl
wire_north Top false gated = refl
wire_north Middle meets true = refl
wire_north Middle meets false = refl
wire_north Bottom true gated = refl
wire_north Bottom false gated = refl

pub gate_east : (kind : RowKind) → port (gate_cell kind) East ≡ wide kind
unfolding design_of
gate_east Start = refl
gate_east Through = refl
gate_east Stop = refl
gate_east Vdd = refl
gate_east Load = refl
gate_east Out = refl
gate_east Top = refl
gate_east Middle = refl
gate_east Bottom = refl

pub gate_west : (kind : RowKind) → port (load_cell kind) East ≡ port (gate_cell kind) West
unfolding design_of
gate_west Start = refl
gate_west Through = refl
gate_west Stop = refl
gate_west Vdd = refl
gate_west Load = refl
gate_west Out = refl
gate_west Top = refl
gate_west Middle = refl
gate_west Bottom = refl

pub gate_south : (kind : RowKind) → port (gate_cell kind) South ≡ narrow Poly (is_load kind)
unfolding design_of
gate_south Start = refl
gate_south Through = refl
gate_south Stop = refl
gate_south Vdd = refl
gate_south Load = refl
gate_south Out = refl
gate_south Top = refl
gate_south Middle = refl
gate_south Bottom = refl

pub gate_north : (kind : RowKind) → port (gate_cell kind) North ≡ narrow Poly (is_out kind)
unfolding design_of
gate_north Start = refl
gate_north Through = refl
gate_north Stop = refl
gate_north Vdd = refl
gate_north Load = refl
gate_north Out = refl
gate_north Top = refl
gate_north Middle = refl
gate_north Bottom = refl

pub load_south : (kind : RowKind) → port (load_cell kind) South ≡ narrow Diffusion (is_vdd kind || is_load kind)
unfolding design_of
load_south Start = refl
load_south Through = refl
load_south Stop = refl
load_south Vdd = refl
load_south Load = refl
load_south Out = refl
load_south Top = refl
load_south Middle = refl
load_south Bottom = refl

pub load_north : (kind : RowKind) → port (load_cell kind) North ≡ narrow Diffusion (is_load kind || is_out kind)
unfolding design_of
load_north Start = refl
load_north Through = refl
load_north Stop = refl
load_north Vdd = refl
load_north Load = refl
load_north Out = refl
load_north Top = refl
load_north Middle = refl
load_north Bottom = refl

pub free_west : (kind : RowKind) → branched kind false ≡ wide kind
unfolding design_of
free_west Start = refl
free_west Through = refl
free_west Stop = refl
free_west Vdd = refl
free_west Load = refl
free_west Out = refl
free_west Top = refl
free_west Middle = refl
free_west Bottom = refl
