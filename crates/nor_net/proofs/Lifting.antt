-- What a netlist shows by its clocks, a circuit that computes its values shows in every run.
use Rattle.std.specs.Prelude.{slice_get}
use Rattle.std.proofs.Common.{◌≡◌, ℕ, zero, suc, ◌<◌, Bool, true, false, List, [], ◌∷◌, map, Some, refl, sym, ◌∙◌, subst, arith}
use Rattle.std.specs.List.{AllByRecursion, range_with_len}
use Rattle.std.proofs.lemmas.List.Elements.{recursion_from_All}
use Rattle.std.proofs.lemmas.List.FromFn.{get_or-map-range_with_len, length-map-range_with_len}
use Rattle.switch_net.specs.Circuit.{Circuit}
use Rattle.switch_net.specs.Settling.{Values}
use Rattle.switch_net.specs.Clock.{Clocks, Run}
use Rattle.switch_net.specs.Recognition.{output_nets, before_outputs, Recognises}
use Rattle.switch_net.specs.declared.network.Pad.{Pad}
use Rattle.rx_text.specs.declared.pad_name.Role.{Role}
use Rattle.rx_text.specs.declared.pad_name.Role.TheVariants.{Vdd, Gnd, Phi1, Phi2, Reset, Input, Output}
use Rattle.nor_net.specs.Netlist.{Netlist, IsNetlist}
use Rattle.nor_net.specs.Evaluation.{value_at, clocked}
use Rattle.nor_net.specs.SwitchForm.{Lists, Computes}
use Rattle.nor_net.specs.Recognised.{clocked_along, clocked_run, ShowsByClocks}

-- the values of the first nets as a list
abbrev listed : ℕ → Values → List Bool
listed nets q = map q (range_with_len 0 nets)

listed_lists : (nets : ℕ) (q : Values) → Lists nets (listed nets q) q
listed_lists nets q = (
  length-map-range_with_len q 0 nets,
  λ net lt. sym (get_or-map-range_with_len q 0 nets net net false lt (omega arith)),
)

-- the first of the output nets, or one of the others
first_below : (nets net : ℕ) (others : List ℕ) → net < nets → ((k found : ℕ) → slice_get others k ≡ Some found → found < nets)
    → (k found : ℕ) → slice_get (net ∷ others) k ≡ Some found → found < nets
first_below nets net others lt later zero found e = let same : net ≡ found = cc in rw same at lt
first_below nets net others lt later (suc k) found e = later k found e

role_below : (role : Role) (nets net : ℕ) (others : List ℕ) → net < nets → ((k found : ℕ) → slice_get others k ≡ Some found → found < nets)
    → (k found : ℕ) → slice_get (before_outputs role net others) k ≡ Some found → found < nets
role_below Output nets net others lt later k found e = first_below nets net others lt later k found e
role_below Vdd nets net others lt later k found e = later k found e
role_below Gnd nets net others lt later k found e = later k found e
role_below Phi1 nets net others lt later k found e = later k found e
role_below Phi2 nets net others lt later k found e = later k found e
role_below Reset nets net others lt later k found e = later k found e
role_below Input nets net others lt later k found e = later k found e

outputs_below : (nets : ℕ) (pads : List Pad) → AllByRecursion (λ (pad : Pad). pad.net.0 < nets) pads → (k found : ℕ)
    → slice_get (output_nets pads) k ≡ Some found → found < nets
outputs_below nets [] h k found e = absurd (cc)
outputs_below nets (pad ∷ pads) h k found e =
    role_below pad.name.role nets pad.net.0 (output_nets pads) h.0 (outputs_below nets pads h.1) k found e

module _ (netlist : Netlist) (circuit : Circuit) (computes : Computes circuit netlist) where
  clocks_exist : (u : List (List Bool)) (q : Values) → (vs : List Values) × Clocks circuit q u vs
  clocks_exist [] q = ([], tt)
  clocks_exist (x ∷ u) q =
      let clock = computes.runs false x q in
      let later = clocks_exist u clock.0 in
      (clock.0 ∷ later.0, (clock.1, later.1))

  run_exists : (q : Values) (lines : List Bool) (u : List (List Bool)) → (vs : List Values) × Run circuit q lines u vs
  run_exists q lines u =
      let clock = computes.runs true lines q in
      let later = clocks_exist u clock.0 in
      (clock.0 ∷ later.0, (clock.1, later.1))

  -- the values at a time of the run, and those of the netlist then
  abbrev Matched : List (List Bool) → ℕ → Values → Type 0
  Matched run t v = (values : List Bool) × (slice_get run t ≡ Some values) × Lists netlist.nets values v

  -- the values after one clock, or at a later time
  match_first : (first : List Bool) (later : List (List Bool)) (w : Values) (ws : List Values) → Lists netlist.nets first w
      → ((t : ℕ) (v : Values) → slice_get ws t ≡ Some v → Matched later t v)
      → (t : ℕ) (v : Values) → slice_get (w ∷ ws) t ≡ Some v → Matched (first ∷ later) t v
  match_first first later w ws lists rest zero v e =
      let same : w ≡ v = cc in (first, refl, subst (Lists netlist.nets first) same lists)
  match_first first later w ws lists rest (suc t) v e = rest t v e

  clocks_match : (u : List (List Bool)) (q : Values) (state : List Bool) (vs : List Values) → Lists netlist.nets state q
      → Clocks circuit q u vs → (t : ℕ) (v : Values) → slice_get vs t ≡ Some v → Matched (clocked_along netlist u state) t v
  clocks_match [] q state [] lists h t v e = absurd (cc)
  clocks_match [] q state (w ∷ vs) lists h t v e = absurd h
  clocks_match (x ∷ u) q state [] lists h t v e = absurd h
  clocks_match (x ∷ u) q state (w ∷ vs) lists h t v e =
      let next = computes.gives false x q w state h.0 lists in
      match_first (clocked netlist false x state) (clocked_along netlist u (clocked netlist false x state)) w vs next
      (clocks_match u w (clocked netlist false x state) vs next h.1) t v e

  run_matches : (q : Values) (lines : List Bool) (u : List (List Bool)) (state : List Bool) (vs : List Values) → Lists netlist.nets state q
      → Run circuit q lines u vs → (t : ℕ) (v : Values) → slice_get vs t ≡ Some v → Matched (clocked_run netlist lines u state) t v
  run_matches q lines u state [] lists h t v e = absurd h
  run_matches q lines u state (w ∷ vs) lists h t v e =
      let next = computes.gives true lines q w state h.0 lists in
      match_first (clocked netlist true lines state) (clocked_along netlist u (clocked netlist true lines state)) w vs next
      (clocks_match u w (clocked netlist true lines state) vs next h.1) t v e

  module _ (valid : IsNetlist netlist) (same_pads : circuit.pads ≡ netlist.pads) (width : ℕ) (language : ℕ → List (List Bool) → Type 0)
      (shows : ShowsByClocks netlist width language) where
    pub recognises : Recognises circuit width language
    recognises = record {
      runs = λ q lines u l w. run_exists q lines u;
      shows = λ q lines u l w vs run t output net v e o.
          let m = run_matches q lines u (listed netlist.nets q) vs (listed_lists netlist.nets q) run t v e in
          let o2 : slice_get (output_nets netlist.pads) output ≡ Some net = rw (← same_pads) o in
          let below = outputs_below netlist.nets netlist.pads
          (recursion_from_All (λ (pad : Pad). pad.net.0 < netlist.nets) netlist.pads valid.pads.pads_below) output net o2 in
          let is = shows (listed netlist.nets q) lines u (listed_lists netlist.nets q).0 l w t output net m.0 m.1 o2 in
          let same : v net ≡ value_at m.0 net = m.2.1 net below in
          (λ high. is.0 (sym same ∙ high), λ inside. same ∙ is.1 inside);
    }
