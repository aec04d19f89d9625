-- The modules of a gate and of a row of poly cover the gate above the row.
use Rattle.std.proofs.Common.{◌≡◌, ℕ, zero, suc, ◌+◌, ◌-◌, ◌*◌, ◌<◌, ◌≤◌, nat_lt, Bool, true, false, ◌||◌, if◌then◌else◌, inl, inr, [], Option, Some, None, refl, sym, ap, ◌∙◌, subst, arith}
use Rattle.std.specs.Prelude.{option_map, is_some}
use Rattle.std.proofs.lemmas.Bool.{cases_lt, lt-ltb, le-ltb}
use Rattle.geom.specs.declared.layer.Layer.{Layer}
use Rattle.geom.specs.declared.layer.Layer.TheVariants.{Diffusion, Poly, Metal, Cut, Implant}
use Rattle.micro_tiles.specs.declared.side.Side.TheVariants.{North, East, South, West}
use Rattle.stick_grid.specs.Modules.{IsModule}
use Rattle.stick_grid.specs.PlainModules.{IsPolyRow, poly_border, PolyRowsAreModules}
use Rattle.stick_grid.specs.PlacedModules.{PlacedModule, IsPlaced, Holds, StandBeside, StandAbove, border_in, ModuleNet, ModulesMeetSouth, ModulesJoin, AreCovering, whole_name, whole_border, CoveringsAreModules}
use Rattle.stick_grid.specs.PlacedModules.ModulesJoin.{same, north}
use Rattle.gate_matrix.specs.Columns.{column_of}
use Rattle.gate_matrix.specs.Cells.{matrix_plan, matrix_tile}
use Rattle.gate_matrix.specs.MatrixNets.{matrix_name, matrix_border, wire_in}
use Rattle.gate_matrix.specs.Modules.{metal_in}
use Rattle.gate_matrix.specs.Examples.{open_gate, open_gate_devices, OpenGateIsModule, has_wire, ends_plan, ended_tile, ended_plan, EndedGateIsModule}

-- the net of a column of the row
abbrev net_or : Option ℕ → ℕ
net_or (Some net) = net
net_or None = 0

abbrev net_in : ℕ → ℕ
net_in col = net_or (wire_in (column_of open_gate.at col))

abbrev no_south : ℕ → Bool
no_south col = false

poly_row : IsPolyRow ends_plan 3 has_wire no_south net_in
poly_row = record {
  one_row = refl;
  some_col = omega arith;
  tile = λ col below. refl;
  below = below;
  column = λ n. 2 * n + 2;
  inside = λ n few. omega arith;
  has_poly = has_poly;
  bears = bears;
  alone = alone;
}
  where
    below : (col : ℕ) → col < 9 → (has_wire col || false) ≡ true → net_in col < 3
    below zero less h = absurd (cc)
    below (suc zero) less h = absurd (cc)
    below (suc (suc zero)) less h = omega arith
    below (suc (suc (suc zero))) less h = absurd (cc)
    below (suc (suc (suc (suc zero)))) less h = omega arith
    below (suc (suc (suc (suc (suc zero))))) less h = absurd (cc)
    below (suc (suc (suc (suc (suc (suc zero)))))) less h = omega arith
    below (suc (suc (suc (suc (suc (suc (suc zero))))))) less h = absurd (cc)
    below (suc (suc (suc (suc (suc (suc (suc (suc zero)))))))) less h = absurd (cc)
    below (suc (suc (suc (suc (suc (suc (suc (suc (suc col))))))))) less h = absurd (omega arith)

    has_poly : (n : ℕ) → n < 3 → (has_wire (2 * n + 2) || false) ≡ true
    has_poly zero few = refl
    has_poly (suc zero) few = refl
    has_poly (suc (suc zero)) few = refl
    has_poly (suc (suc (suc n))) few = absurd (omega arith)

    bears : (n : ℕ) → n < 3 → net_in (2 * n + 2) ≡ n
    bears zero few = refl
    bears (suc zero) few = refl
    bears (suc (suc zero)) few = refl
    bears (suc (suc (suc n))) few = absurd (omega arith)

    alone : (col : ℕ) → col < 9 → (has_wire col || false) ≡ true → 2 * net_in col + 2 ≡ col
    alone zero less h = absurd (cc)
    alone (suc zero) less h = absurd (cc)
    alone (suc (suc zero)) less h = refl
    alone (suc (suc (suc zero))) less h = absurd (cc)
    alone (suc (suc (suc (suc zero)))) less h = refl
    alone (suc (suc (suc (suc (suc zero))))) less h = absurd (cc)
    alone (suc (suc (suc (suc (suc (suc zero)))))) less h = refl
    alone (suc (suc (suc (suc (suc (suc (suc zero))))))) less h = absurd (cc)
    alone (suc (suc (suc (suc (suc (suc (suc (suc zero)))))))) less h = absurd (cc)
    alone (suc (suc (suc (suc (suc (suc (suc (suc (suc col))))))))) less h = absurd (omega arith)

-- ---- the two modules

abbrev gate_module : PlacedModule
gate_module = record {
  plan = matrix_plan open_gate;
  row = 0;
  col = 0;
  count = 4;
  name = matrix_name (metal_in open_gate) open_gate.at;
  vdd = 0;
  devices = open_gate_devices;
  border = matrix_border open_gate (metal_in open_gate);
  rename = λ net. net;
}

abbrev row_module : PlacedModule
row_module = record {
  plan = ends_plan;
  row = 6;
  col = 0;
  count = 3;
  name = λ p. net_in p.col;
  vdd = 0;
  devices = [];
  border = poly_border has_wire no_south net_in;
  rename = λ net. net;
}

abbrev modules : ℕ → PlacedModule
modules zero = gate_module
modules (suc k) = row_module

abbrev held_by : ℕ → ℕ → ℕ
held_by row col = if nat_lt row 6 then 0 else 1

in_gate : (row col : ℕ) → row < 6 → held_by row col ≡ 0
in_gate row col h = ap (λ (t : Bool). if t then 0 else 1) (lt-ltb row 6 h)

in_row : (row col : ℕ) → 6 ≤ row → held_by row col ≡ 1
in_row row col h = ap (λ (t : Bool). if t then 0 else 1) (le-ltb row 6 h)

-- what leads out of the gate to the south leads into the row
seam : (col : ℕ) (layer : Layer) → border_in gate_module South col layer ≡ border_in row_module North col layer
seam col Metal = refl
seam col Diffusion = refl
seam col Cut = refl
seam col Implant = refl
seam col Poly = by_wire (wire_in (column_of open_gate.at (col - 0)))
  where
    by_wire : (o : Option ℕ) → option_map (λ (net : ℕ). net) o ≡ option_map (λ (net : ℕ). net) (if is_some o then Some (net_or o) else None)
    by_wire None = refl
    by_wire (Some net) = refl

module _ (gate : OpenGateIsModule) (row : IsModule ends_plan 3 (λ p. net_in p.col) 0 [] (poly_border has_wire no_south net_in)) where
  placed : (k : ℕ) → k < 2 → IsPlaced ended_plan 4 0 (modules k)
  placed zero below = record {
    is_module = gate;
    window = record {
      rows = omega arith;
      cols = omega arith;
      tiles = λ r c is_row is_col.
          let up : 0 + r ≡ r = omega arith in
          let left : 0 + c ≡ c = omega arith in
          sym (ap (λ (x : ℕ). ended_tile x (0 + c)) up ∙ ap (ended_tile r) left
          ∙ ap (λ (t : Bool). if t then matrix_tile open_gate r c else ends_plan.tile 0 c) (lt-ltb r 6 is_row));
    };
    below = λ net few. few;
    supply = refl;
  }
  placed (suc zero) below = record {
    is_module = row;
    window = record {
      rows = omega arith;
      cols = omega arith;
      tiles = λ r c is_row is_col.
          let left : 0 + c ≡ c = omega arith in
          sym (ap (ended_tile (6 + r)) left
          ∙ ap (λ (t : Bool). if t then matrix_tile open_gate (6 + r) c else ends_plan.tile 0 c) (le-ltb (6 + r) 6 (omega arith)));
    };
    below = λ net few. omega arith;
    supply = refl;
  }
  placed (suc (suc k)) below = absurd (omega arith)

  holds : (r c : ℕ) → r < 7 → c < 9 → Holds (modules (held_by r c)) r c
  holds r c is_row is_col = elim (cases_lt r 6) [
    | inl h ↦
        subst (λ (k : ℕ). Holds (modules k) r c) (sym (in_gate r c h))
        (record { from_row = omega arith; to_row = omega arith; from_col = omega arith; to_col = omega arith })
    | inr h ↦
        subst (λ (k : ℕ). Holds (modules k) r c) (sym (in_row r c h))
        (record { from_row = h; to_row = omega arith; from_col = omega arith; to_col = omega arith })
  ]

  once : (k r c : ℕ) → k < 2 → Holds (modules k) r c → held_by r c ≡ k
  once zero r c below h = in_gate r c h.to_row
  once (suc zero) r c below h = in_row r c h.from_row
  once (suc (suc k)) r c below h = absurd (omega arith)

  eastward : (k l r c : ℕ) (layer : Layer) → StandBeside modules 2 k l r c → border_in (modules k) East r layer ≡ border_in (modules l) West r layer
  eastward k zero r c layer h = let begins = h.second_begins in absurd (omega arith)
  eastward k (suc l) r c layer h = let begins = h.second_begins in absurd (omega arith)

  southward : (k l r c : ℕ) (layer : Layer) → StandAbove modules 2 k l r c → border_in (modules k) South c layer ≡ border_in (modules l) North c layer
  southward k zero r c layer h = let begins = h.second_begins in absurd (omega arith)
  southward zero (suc l) r c layer h = seam c layer
  southward (suc k) (suc l) r c layer h = let begins = h.second_begins in let ends = h.first_ends in absurd (omega arith)

  -- each net of the row leads to the same net of the gate
  meet : (net : ℕ) → net < 3 → ModulesMeetSouth modules 2 (record { which = 0; net = net }) (record { which = 1; net = net })
  meet net few = record {
    row = 5;
    col = 2 * net + 2;
    layer = Poly;
    above = record {
      first_known = omega arith;
      second_known = omega arith;
      first_holds = record { from_row = omega arith; to_row = omega arith; from_col = omega arith; to_col = omega arith };
      second_holds = record { from_row = omega arith; to_row = omega arith; from_col = omega arith; to_col = omega arith };
      first_ends = refl;
      second_begins = refl;
    };
    first = out net few;
    second = entry net few;
  }
    where
      out : (n : ℕ) → n < 3 → wire_in (column_of open_gate.at (2 * n + 2 - 0)) ≡ Some n
      out zero h = refl
      out (suc zero) h = refl
      out (suc (suc zero)) h = refl
      out (suc (suc (suc n))) h = absurd (omega arith)

      entry : (n : ℕ) → n < 3 → poly_border has_wire no_south net_in North (2 * n + 2 - 0) Poly ≡ Some n
      entry zero h = refl
      entry (suc zero) h = refl
      entry (suc (suc zero)) h = refl
      entry (suc (suc (suc n))) h = absurd (omega arith)

  leads : (a : ModuleNet) → a.which < 2 → a.net < (modules a.which).count
      → ModulesJoin modules 2 a (record { which = 0; net = (modules a.which).rename a.net })
  leads a known below = by_module a.which a.net known below
    where
      by_module : (k net : ℕ) → k < 2 → net < (modules k).count
          → ModulesJoin modules 2 (record { which = k; net = net }) (record { which = 0; net = (modules k).rename net })
      by_module zero net less few = same (record { which = 0; net = net })
      by_module (suc zero) net less few =
          north (record { which = 1; net = net }) (record { which = 0; net = net }) (record { which = 0; net = net }) (meet net few)
          (same (record { which = 0; net = net }))
      by_module (suc (suc k)) net less few = absurd (omega arith)

  covering : AreCovering ended_plan 4 0 modules 2
  covering = record {
    some_row = omega arith;
    some_col = omega arith;
    placed = placed;
    at = held_by;
    known = λ r c is_row is_col. elim (cases_lt r 6) [
      | inl h ↦ let e = in_gate r c h in omega arith
      | inr h ↦ let e = in_row r c h in omega arith
    ];
    holds = holds;
    once = once;
    eastward = eastward;
    southward = southward;
    home = λ net. record { which = 0; net = net };
    home_known = λ net few. omega arith;
    home_below = λ net few. few;
    bears = λ net few. refl;
    leads = leads;
  }

pub ended_gate : OpenGateIsModule → PolyRowsAreModules → CoveringsAreModules → EndedGateIsModule
unfolding covering
ended_gate gate rows coverings =
    let row = rows ends_plan 3 0 has_wire no_south net_in poly_row in
    record {
      name = whole_name modules held_by;
      border = whole_border ended_plan modules held_by;
      is_module = coverings ended_plan 4 0 modules 2 (covering gate row);
      out = refl;
      closed = λ col. refl;
    }
