-- Labels at the south border of an array, on the nets of a part's pads.
use Rattle.std.proofs.Common.{◌≡◌, inl, inr, ◌↔◌, ℕ, ◌+◌, ◌-◌, ◌*◌, ◌/◌, ◌<◌, List, [], ◌∷◌, map, length, get_or, Some, pos, refl, sym, ap, subst, ◌∙◌, arith}
use Rattle.std.specs.Prelude.{nat_abs}
use Rattle.geom.specs.declared.chip.Label.{Label}
use Rattle.geom.specs.declared.layer.Layer.TheVariants.{Poly}
use Rattle.geom.specs.Rows.{Among}
use Rattle.micro_tiles.specs.declared.side.Side.TheVariants.{South}
use Rattle.rx_text.specs.declared.pad_name.Role.{Role}
use Rattle.switch_net.specs.Circuit.{Circuit}
use Rattle.switch_net.specs.declared.network.Pad.{Pad}
use Rattle.nmos_model.specs.Lists.{Matched}
use Rattle.nmos_model.specs.Pads.{first_labels, IsNeeded, HasLabel}
use Rattle.nmos_model.specs.Devices.{IsSupply}
use Rattle.nmos_model.specs.Refusals.{spot_of}
use Rattle.stick_grid.specs.Plans.{Plan, Covers}
use Rattle.stick_grid.specs.Depicted.{IsNamedPad, border_spot}
use Rattle.stick_grid.specs.LabelledModules.{AreBorderLabels, MakePads, StandsForSame, ModulesStandForNetworks}
use Rattle.gate_matrix.specs.declared.column.Column.{Column}
use Rattle.gate_matrix.specs.declared.column.Column.TheVariants.{Load, Gate, Wire, Device, Free}
use Rattle.gate_matrix.specs.Columns.{column_of, AreOfNets}
use Rattle.gate_matrix.specs.MatrixNets.{wire_in}
use Rattle.pla_plan.specs.Planes.{PlaneTables, planes_plan}
use Rattle.pla_plan.specs.Fits.{IsArray}
use Rattle.pla_plan.specs.PlaneModules.{planes_devices, planes_border, IsArrayModule}
use Rattle.pla_plan.specs.ArrayNetworks.{pad_label}

abbrev pub number_in : Column → ℕ
number_in (Wire net) = net
number_in (Device net) = 0
number_in Load = 0
number_in Gate = 0
number_in Free = 0

among_map : {X Y : Type 0} (f : X → Y) (xs : List X) (y : Y) → Among (map f xs) y → (x : X) × Among xs x × (f x ≡ y)
among_map f [] y h = absurd h
among_map f (x ∷ xs) y (inl e) = (x, inl refl, e)
among_map f (x ∷ xs) y (inr h) = let k = among_map f xs y h in (k.0, inr k.1, k.2)

module _ (planes : PlaneTables) (array : IsArray planes) (columns : AreOfNets planes.at planes.cols) (pads : List Pad)
    (below : (pad : Pad) → Among pads pad → pad.net.0 < planes.part.nets) where
  abbrev labels : List Label
  labels = map (pad_label planes.at) pads

  abbrev plan : Plan
  plan = planes_plan planes

  abbrev pub place : Label → ℕ
  place label = (nat_abs label.x - 6) / 14

  abbrev pub net : Label → ℕ
  net label = number_in (column_of planes.at (place label))

  place_is : (k : ℕ) → (14 * k + 6 - 6) / 14 ≡ k
  place_is k = omega arith

  column_is : (pad : Pad) → Among pads pad → column_of planes.at (place (pad_label planes.at pad)) ≡ Wire pad.net.0
  column_is pad h =
      let lt = below pad h in
      let long = array.part_fits.wires in
      ap (column_of planes.at) (place_is (get_or planes.at pad.net.0 0)) ∙ columns.wire pad.net.0 (omega arith)

  net_is : (pad : Pad) → Among pads pad → net (pad_label planes.at pad) ≡ pad.net.0
  net_is pad h = ap number_in (column_is pad h)

  inside : (pad : Pad) → Among pads pad → place (pad_label planes.at pad) < planes.cols
  inside pad h =
      let lt = below pad h in
      let long = array.part_fits.wires in
      let room = (columns.inside pad.net.0 (omega arith)).1 in
      let e = place_is (get_or planes.at pad.net.0 0) in
      omega arith

  spot_is : (pad : Pad) → spot_of (pad_label planes.at pad)
      ≡ border_spot plan (plan.rows - 1) (place (pad_label planes.at pad)) South (pad_label planes.at pad).layer
  spot_is pad =
      let k = get_or planes.at pad.net.0 0 in
      let across : 14 * k + 6 ≡ 14 * ((14 * k + 6 - 6) / 14) + 6 = omega arith in
      let up : 0 ≡ 14 * (plan.rows - 1 - (plan.rows - 1)) + 0 = omega arith in
      λ i. record { layer = Poly; x = pos (across i); y = pos (up i) }

  pub on_border : AreBorderLabels plan (planes_border planes.at) labels net
  on_border = record {
    side = λ label. South;
    place = place;
    along = λ label h. let m = among_map (pad_label planes.at) pads label h in subst (λ (l : Label). place l < planes.cols) m.2 (inside m.0 m.1);
    spot = λ label h. let m = among_map (pad_label planes.at) pads label h in
        subst (λ (l : Label). spot_of l ≡ border_spot plan (plan.rows - 1) (place l) South l.layer) m.2 (spot_is m.0);
    leads_out = λ label h. let m = among_map (pad_label planes.at) pads label h in
        subst (λ (l : Label). planes_border planes.at South (place l) l.layer ≡ Some (net l)) m.2
        (ap wire_in (column_is m.0 m.1) ∙ ap Some (sym (net_is m.0 m.1)));
  }

  matched : (ps : List Pad) → ((pad : Pad) → Among ps pad → Among pads pad) → Matched (IsNamedPad net) (map (pad_label planes.at) ps) ps
  matched [] h = tt
  matched (pad ∷ ps) h = (record { name = refl; number = sym (net_is pad (h pad (inl refl))) }, matched ps (λ p k. h p (inr k)))

  module _ (agree : (a b : Pad) → Among pads a → Among pads b → (a.name ≡ b.name) ↔ (a.net.0 ≡ b.net.0))
      (needed : (role : Role) → IsNeeded role → HasLabel labels role) (firsts : first_labels [] labels ≡ labels) (supply : IsSupply pads planes.part.vdd) where
    abbrev circuit : Circuit
    circuit = record { nets = planes.part.nets + length planes.terms; pads = pads; devices = planes_devices planes }

    pub make_pads : MakePads labels net planes.part.vdd circuit
    make_pads = record {
      agree = λ a b h k.
          let m = among_map (pad_label planes.at) pads a h in
          let n = among_map (pad_label planes.at) pads b k in
          let both = agree m.0 n.0 m.1 n.1 in
          let one = ap net (sym m.2) ∙ net_is m.0 m.1 in
          let other = ap net (sym n.2) ∙ net_is n.0 n.1 in (
            λ e. one ∙ both.0 (ap (λ (l : Label). l.pad) m.2 ∙ e ∙ ap (λ (l : Label). l.pad) (sym n.2)) ∙ sym other,
            λ e. ap (λ (l : Label). l.pad) (sym m.2) ∙ both.1 (sym one ∙ e ∙ other) ∙ ap (λ (l : Label). l.pad) n.2,
          );
      needed = needed;
      pads = subst (λ (ls : List Label). Matched (IsNamedPad net) ls pads) (sym firsts) (matched pads (λ pad h. h));
      supply = supply;
    }

    -- The squares with these labels stand for the network of the planes and the part.
    pub stand : ModulesStandForNetworks → IsArrayModule planes → StandsForSame (Covers plan) labels circuit
    stand law m =
        let rows = array.rows_fit in
        let cols = array.cols_fit in
        law plan m.name planes.part.vdd (planes_border planes.at) labels net circuit (omega arith) (omega arith) m.is_module on_border make_pads
