-- The devices of modules that cover a plan are those of the plan.
use Rattle.std.proofs.Common.{◌≡◌, ℕ, ◌+◌, ◌-◌, ◌<◌, ◌≤◌, ◌==◌, true, false, if◌then◌else◌, ◌⊎◌, inl, inr, List, [], map, All, Option, Some, None, IsPermutation, refl, sym, ap, ◌∙◌, subst, arith}
use Rattle.std.specs.List.{range_with_len, flat_map}
use Rattle.std.proofs.lemmas.Bool.{cases_lt, eq-eqb, ne_eqb}
use Rattle.std.proofs.lemmas.List.Elements.{All-nil, All-cons}
use Rattle.std.proofs.lemmas.List.Sorted.{IsPermutation-sym, IsPermutation-trans, IsPermutation-map}
use Rattle.micro_tiles.specs.declared.device.Transistor.{Transistor}
use Rattle.micro_tiles.specs.Table.{transistor_at}
use Rattle.switch_net.specs.Circuit.{ascending, renamed_device}
use Rattle.switch_net.specs.declared.network.Device.{Device}
use Rattle.switch_net.specs.declared.network.Device.TheVariants.{Load}
use Rattle.nmos_model.specs.Lists.{Matched}
use Rattle.nmos_model.specs.Devices.{device_on}
use Rattle.stick_grid.specs.Plans.{Plan}
use Rattle.stick_grid.specs.Transistors.{is_depletion, piece}
use Rattle.stick_grid.specs.Devices.{PlacedTransistor, placed, transistor_in, transistors_in_row, transistors_of, IsNamedDevice}
use Rattle.stick_grid.specs.PlacedModules.{PlacedModule, IsPlaced, Holds, AreCovering, name_in, whole_name, devices_in, whole_devices}
use Rattle.stick_grid.proofs.PlanWindows.{same_flat}
use Rattle.stick_grid.proofs.MatchedLists.{value, matched_permuted, matched_carried}
use Rattle.stick_grid.proofs.Ranges.{exchanged, map_flat, flat_permuted, flat_single, flat_none, flat_part, all_flat, matched_flat}
use Rattle.stick_grid.proofs.RenamedDevices.{permuted_renamed, device_renamed}

-- where a transistor of a module stands in the whole
abbrev pub moved : PlacedModule → PlacedTransistor → PlacedTransistor
moved m p = record { row = m.row + p.row; col = m.col + p.col; transistor = p.transistor }

moved_placed : (m : PlacedModule) (row col : ℕ) (t : Option Transistor) → placed (m.row + row) (m.col + col) t ≡ map (moved m) (placed row col t)
moved_placed m row col None = refl
moved_placed m row col (Some t) = refl

-- The transistor stands within the plan.
abbrev Inside : Plan → PlacedTransistor → Type 0
Inside plan p = (p.row < plan.rows) × (p.col < plan.cols)

inside_placed : (plan : Plan) (row col : ℕ) (t : Option Transistor) → row < plan.rows → col < plan.cols → All (Inside plan) (placed row col t)
inside_placed plan row col None is_row is_col = All-nil (Inside plan)
inside_placed plan row col (Some t) is_row is_col =
    All-cons (Inside plan) (record { row = row; col = col; transistor = t }) [] (is_row, is_col) (All-nil (Inside plan))

all_inside : (plan : Plan) → All (Inside plan) (transistors_of plan)
all_inside plan =
    all_flat (Inside plan) (transistors_in_row plan) 0 plan.rows
    (λ row is_row. all_flat (Inside plan) (transistor_in plan row) 0 plan.cols
    (λ col is_col. inside_placed plan row col (transistor_at (plan.tile row col)) (omega arith) (omega arith)))

module _ (whole : Plan) (count vdd : ℕ) (modules : ℕ → PlacedModule) (n : ℕ) (c : AreCovering whole count vdd modules n) where
  -- the transistor of a place, where the module has it
  abbrev held : ℕ → ℕ → ℕ → List PlacedTransistor
  held k row col = if c.at row col == k then transistor_in whole row col else []

  not_held : (k row col : ℕ) → (c.at row col ≡ k → ⊥) → held k row col ≡ []
  not_held k row col other = let test : (c.at row col == k) ≡ false = ne_eqb (c.at row col) k other in
      ap (λ t. if t then transistor_in whole row col else []) test

  is_held : (k row col : ℕ) → c.at row col ≡ k → held k row col ≡ transistor_in whole row col
  is_held k row col same = let test : (c.at row col == k) ≡ true = eq-eqb (c.at row col) k same in
      ap (λ t. if t then transistor_in whole row col else []) test

  -- the transistors of the whole, module by module
  abbrev by_modules : List PlacedTransistor
  by_modules = flat_map (λ k. flat_map (λ row. flat_map (held k row) (range_with_len 0 whole.cols)) (range_with_len 0 whole.rows))
      (range_with_len 0 n)

  split : IsPermutation (transistors_of whole) by_modules
  split =
      let each : transistors_of whole
      ≡ flat_map (λ row. flat_map (λ col. flat_map (λ k. held k row col) (range_with_len 0 n)) (range_with_len 0 whole.cols))
      (range_with_len 0 whole.rows) =
      same_flat (transistors_in_row whole) (λ row. flat_map (λ col. flat_map (λ k. held k row col) (range_with_len 0 n))
      (range_with_len 0 whole.cols)) 0 whole.rows
      (λ row is_row. same_flat (transistor_in whole row) (λ col. flat_map (λ k. held k row col) (range_with_len 0 n)) 0 whole.cols
      (λ col is_col.
      let known = c.known row col (omega arith) (omega arith) in
      sym (flat_single (λ k. held k row col) 0 n (c.at row col) (omega arith) (omega arith) (λ k other. not_held k row col (λ e. other (sym e)))
      ∙ is_held (c.at row col) row col refl))) in
      subst (λ l. IsPermutation l by_modules) (sym each)
      (IsPermutation-trans _ (flat_map (λ row. flat_map (λ k. flat_map (held k row) (range_with_len 0 whole.cols)) (range_with_len 0 n))
      (range_with_len 0 whole.rows)) by_modules
      (flat_permuted (λ row. flat_map (λ col. flat_map (λ k. held k row col) (range_with_len 0 n)) (range_with_len 0 whole.cols))
      (λ row. flat_map (λ k. flat_map (held k row) (range_with_len 0 whole.cols)) (range_with_len 0 n)) 0 whole.rows
      (λ row below. exchanged (λ col k. held k row col) 0 whole.cols 0 n))
      (exchanged (λ row k. flat_map (held k row) (range_with_len 0 whole.cols)) 0 whole.rows 0 n))

  -- ---- the transistors of a module

  module _ (k : ℕ) (k_known : k < n) where
    abbrev m : PlacedModule
    m = modules k

    pl : IsPlaced whole count vdd (modules k)
    pl = c.placed k k_known

    -- what the module holds within the whole
    if_held : (row col : ℕ) → row < whole.rows → col < whole.cols → c.at row col ≡ k → Holds (modules k) row col
    if_held row col is_row is_col e = subst (λ (l : ℕ). Holds (modules l) row col) e (c.holds row col is_row is_col)

    in_place : (row col : ℕ) → row < m.plan.rows → col < m.plan.cols → c.at (m.row + row) (m.col + col) ≡ k
    in_place row col is_row is_col =
        c.once k (m.row + row) (m.col + col) k_known
        (record { from_row = omega arith; to_row = omega arith; from_col = omega arith; to_col = omega arith })

    cell : (row col : ℕ) → row < m.plan.rows → col < m.plan.cols → held k (m.row + row) (m.col + col) ≡ map (moved m) (transistor_in m.plan row col)
    cell row col is_row is_col =
        is_held k (m.row + row) (m.col + col) (in_place row col is_row is_col)
        ∙ ap (λ t. placed (m.row + row) (m.col + col) (transistor_at t)) (sym (pl.window.tiles row col is_row is_col))
        ∙ moved_placed m row col (transistor_at (m.plan.tile row col))

    row_held : (row : ℕ) → row < m.plan.rows → flat_map (held k (m.row + row)) (range_with_len 0 whole.cols) ≡ map (moved m)
        (transistors_in_row m.plan row)
    row_held row is_row =
        let fits_rows = pl.window.rows in
        let fits_cols = pl.window.cols in
        flat_part (held k (m.row + row)) 0 whole.cols m.col m.plan.cols (omega arith) (omega arith)
        (λ col before. not_held k (m.row + row) col (λ e.
        let low = (if_held (m.row + row) col (omega arith) (omega arith) e).from_col in omega arith))
        (λ col behind below. not_held k (m.row + row) col (λ e.
        let high = (if_held (m.row + row) col (omega arith) (omega arith) e).to_col in omega arith))
        ∙ same_flat (λ col. held k (m.row + row) (m.col + col)) (λ col. map (moved m) (transistor_in m.plan row col)) 0 m.plan.cols
        (λ col is_col. cell row col is_row (omega arith))
        ∙ sym (map_flat (moved m) (transistor_in m.plan row) 0 m.plan.cols)

    module_held : flat_map (λ row. flat_map (held k row) (range_with_len 0 whole.cols)) (range_with_len 0 whole.rows) ≡ map (moved m)
        (transistors_of m.plan)
    module_held =
        let fits_rows = pl.window.rows in
        flat_part (λ row. flat_map (held k row) (range_with_len 0 whole.cols)) 0 whole.rows m.row m.plan.rows (omega arith) (omega arith)
        (λ row before. flat_none (held k row) 0 whole.cols (λ col from below. not_held k row col (λ e.
        let low = (if_held row col (omega arith) (omega arith) e).from_row in omega arith)))
        (λ row behind below. flat_none (held k row) 0 whole.cols (λ col from high. not_held k row col (λ e.
        let end = (if_held row col (omega arith) (omega arith) e).to_row in omega arith)))
        ∙ same_flat (λ row. flat_map (held k (m.row + row)) (range_with_len 0 whole.cols))
        (λ row. map (moved m) (transistors_in_row m.plan row)) 0 m.plan.rows
        (λ row is_row. row_held row (omega arith))
        ∙ sym (map_flat (moved m) (transistors_in_row m.plan) 0 m.plan.rows)

    -- ---- its devices

    abbrev drawn_in : List Device
    drawn_in = map (renamed_device m.rename) pl.is_module.drawn

    name_is : (row col net : ℕ) → row < m.plan.rows → col < m.plan.cols
        → whole_name modules c.at (piece (m.row + row) (m.col + col) net) ≡ m.rename (m.name (piece row col net))
    name_is row col net is_row is_col =
        let r : m.row + row - m.row ≡ row = omega arith in
        let s : m.col + col - m.col ≡ col = omega arith in
        ap (λ (l : ℕ). name_in (modules l) (piece (m.row + row) (m.col + col) net)) (in_place row col is_row is_col)
        ∙ ap (λ (x : ℕ). m.rename (m.name (piece x (m.col + col - m.col) net))) r
        ∙ ap (λ (x : ℕ). m.rename (m.name (piece row x net))) s

    one_device : (p : PlacedTransistor) (d : Device) → Inside m.plan p → IsNamedDevice m.name m.vdd p d
        → IsNamedDevice (whole_name modules c.at) vdd (moved m p) (renamed_device m.rename d)
    one_device p d inside h =
        let t = p.transistor in
        let name = whole_name modules c.at in
        let depletion = is_depletion t.mode in
        let gate = piece (m.row + p.row) (m.col + p.col) t.gate in
        let first = piece (m.row + p.row) (m.col + p.col) t.first in
        let second = piece (m.row + p.row) (m.col + p.col) t.second in
        let gate' = m.rename (m.name (piece p.row p.col t.gate)) in
        let first' = m.rename (m.name (piece p.row p.col t.first)) in
        ap (λ (v : ℕ). device_on depletion v (name gate) (name first) (name second)) (sym pl.supply)
        ∙ ap (λ (x : ℕ). device_on depletion (m.rename m.vdd) x (name first) (name second)) (name_is p.row p.col t.gate inside.0 inside.1)
        ∙ ap (λ (x : ℕ). device_on depletion (m.rename m.vdd) gate' x (name second)) (name_is p.row p.col t.first inside.0 inside.1)
        ∙ ap (λ (x : ℕ). device_on depletion (m.rename m.vdd) gate' first' x) (name_is p.row p.col t.second inside.0 inside.1)
        ∙ device_renamed m.rename m.vdd depletion (m.name (piece p.row p.col t.gate)) (m.name (piece p.row p.col t.first))
        (m.name (piece p.row p.col t.second)) d h

    module_drawn : Matched (IsNamedDevice (whole_name modules c.at) vdd)
        (flat_map (λ row. flat_map (held k row) (range_with_len 0 whole.cols)) (range_with_len 0 whole.rows)) drawn_in
    module_drawn =
        subst (λ l. Matched (IsNamedDevice (whole_name modules c.at) vdd) l drawn_in) (sym module_held)
        (matched_carried (IsNamedDevice m.name m.vdd) (IsNamedDevice (whole_name modules c.at) vdd) (Inside m.plan) (moved m)
        (renamed_device m.rename) one_device
        (transistors_of m.plan) pl.is_module.drawn (all_inside m.plan) pl.is_module.transistors)

    as_devices : IsPermutation (map ascending drawn_in) (map ascending (devices_in m))
    as_devices = permuted_renamed m.rename pl.is_module.drawn m.devices pl.is_module.as_drawn

  -- ---- all devices

  abbrev drawn_if : (k : ℕ) → (k < n) ⊎ (n ≤ k) → List Device
  drawn_if k (inl known) = drawn_in k known
  drawn_if k (inr past) = []

  abbrev drawn_at : ℕ → List Device
  drawn_at k = drawn_if k (cases_lt k n)

  abbrev all_drawn : List Device
  all_drawn = flat_map drawn_at (range_with_len 0 n)

  modules_drawn : Matched (IsNamedDevice (whole_name modules c.at) vdd) by_modules all_drawn
  modules_drawn =
      matched_flat (IsNamedDevice (whole_name modules c.at) vdd)
      (λ k. flat_map (λ row. flat_map (held k row) (range_with_len 0 whole.cols)) (range_with_len 0 whole.rows)) drawn_at 0 n
      (λ k below. by_cases k (omega arith) (cases_lt k n))
    where
      by_cases : (k : ℕ) → k < n → (s : (k < n) ⊎ (n ≤ k))
          → Matched (IsNamedDevice (whole_name modules c.at) vdd)
          (flat_map (λ row. flat_map (held k row) (range_with_len 0 whole.cols)) (range_with_len 0 whole.rows)) (drawn_if k s)
      by_cases k below (inl known) = module_drawn k known
      by_cases k below (inr past) = absurd (omega arith)

  modules_listed : IsPermutation (map ascending all_drawn) (map ascending (whole_devices modules n))
  modules_listed =
      subst (IsPermutation (map ascending all_drawn)) (sym (map_flat ascending (λ k. devices_in (modules k)) 0 n))
      (subst (λ l. IsPermutation l (flat_map (λ k. map ascending (devices_in (modules k))) (range_with_len 0 n)))
      (sym (map_flat ascending drawn_at 0 n))
      (flat_permuted (λ k. map ascending (drawn_at k)) (λ k. map ascending (devices_in (modules k))) 0 n
      (λ k below. by_cases k (omega arith) (cases_lt k n))))
    where
      by_cases : (k : ℕ) → k < n → (s : (k < n) ⊎ (n ≤ k)) → IsPermutation (map ascending (drawn_if k s)) (map ascending (devices_in (modules k)))
      by_cases k below (inl known) = as_devices k known
      by_cases k below (inr past) = absurd (omega arith)

  abbrev device_of : PlacedTransistor → Option Device
  device_of p =
      device_on (is_depletion p.transistor.mode) vdd (whole_name modules c.at (piece p.row p.col p.transistor.gate))
      (whole_name modules c.at (piece p.row p.col p.transistor.first)) (whole_name modules c.at (piece p.row p.col p.transistor.second))

  abbrev none : Device
  none = Load (record { 0 = 0 })

  -- the devices in the order of the whole
  abbrev pub whole_drawn : List Device
  whole_drawn = map (value device_of none) (transistors_of whole)

  reordered : Matched (λ p d. device_of p ≡ Some d) (transistors_of whole) whole_drawn × IsPermutation whole_drawn all_drawn
  reordered = matched_permuted device_of none by_modules (transistors_of whole) all_drawn modules_drawn
      (IsPermutation-sym (transistors_of whole) by_modules split)

  pub are_drawn : Matched (IsNamedDevice (whole_name modules c.at) vdd) (transistors_of whole) whole_drawn
  are_drawn = reordered.0

  pub are_listed : IsPermutation (map ascending whole_drawn) (map ascending (whole_devices modules n))
  are_listed =
      IsPermutation-trans (map ascending whole_drawn) (map ascending all_drawn) (map ascending (whole_devices modules n))
      (IsPermutation-map ascending whole_drawn all_drawn reordered.1) modules_listed
