-- Open loads: at first those of the part, and after each gate those that it does not have.
use Rattle.std.proofs.Common.{◌≡◌, ℕ, ◌+◌, ◌<◌, ◌^◌, ◌==◌, ◌&&◌, ◌||◌, not, Bool, true, false, inl, inr, List, [], ◌∷◌}
use Rattle.std.proofs.Common.{◌++◌, length, get_or, take, refl, sym, ap, ◌∙◌, arith}
use Rattle.std.specs.List.{list_any}
use Rattle.std.proofs.Math.ListN.{set, length-set}
use Rattle.std.proofs.lemmas.Bool.{cases_eq, eq-eqb, ne_eqb}
use Rattle.std.proofs.lemmas.Grind.{get_or-set_at}
use Rattle.std.proofs.lemmas.List.{get_or-set_other}
use Rattle.std.proofs.lemmas.List.Elements.{All-get_or}
use Rattle.std.proofs.lemmas.List.Folds.{list_any_more, list_any_at}
use Rattle.nor_net.specs.Netlist.{NorGate}
use Rattle.nor_net.specs.Evaluation.{is_output}
use Rattle.nor_net.specs.Part.{PartTables, IsPart}
use Rattle.gate_matrix.specs.OpenLoads.{AreOpen}
use Rattle.gate_matrix.specs.PartRows.{is_open}
use Rattle.gate_matrix.proofs.PartLoads.{output_more, and_right, and_none, or_yes, or_no}

-- one net more is marked
pub mark_more : (nets : List ℕ) (marks old : List Bool) (i x : ℕ) → i < length nets → x ≡ get_or nets i 0 → x < length marks
    → ((net : ℕ) → net < length marks → get_or marks net false ≡ (list_any (λ one. one == net) (take i nets) || get_or old net false))
    → (net : ℕ) → net < length marks
    → get_or (set marks x true) net false ≡ (list_any (λ one. one == net) (take (i + 1) nets) || get_or old net false)
mark_more nets marks old i x inside is fits before net below =
    let test = λ (one : ℕ). one == net in
    let more : list_any test (take (i + 1) nets) ≡ (list_any test (take i nets) || (x == net)) =
    list_any_more test nets i 0 inside ∙ ap (λ (k : ℕ). list_any test (take i nets) || (k == net)) (sym is) in
    elim (cases_eq net x) [
      | inl e ↦
          get_or-set_at marks x net true false e fits
          ∙ sym (ap (λ t. t || get_or old net false) (more ∙ ap (λ t. list_any test (take i nets) || t) (eq-eqb x net (sym e))
          ∙ or_yes (list_any test (take i nets))))
      | inr n ↦
          get_or-set_other marks x net true false n ∙ before net below
          ∙ sym (ap (λ t. t || get_or old net false) (more ∙ ap (λ t. list_any test (take i nets) || t) (ne_eqb x net (λ e. n (sym e)))
          ∙ or_no (list_any test (take i nets))))
    ]

-- the loads of the part are open before its gates
pub first_open : (part : PartTables) (marks old : List Bool) → length marks ≡ 2 ^ 16 → ((net : ℕ) → net < 2 ^ 16 → get_or old net false ≡ false)
    → ((net : ℕ) → net < length marks → get_or marks net false ≡ (list_any (λ one. one == net) part.loads || get_or old net false))
    → AreOpen part [] marks
first_open part marks old long none marked = record {
  size = long;
  told = λ net h.
      let found = list_any (λ one. one == net) part.loads in
      let inside : net < length marks = omega (arith, long, h) in
      marked net inside ∙ ap (λ t. found || t) (none net h) ∙ or_no found ∙ sym (and_right found);
}

pub loads_fit : (part : PartTables) → IsPart part → (k : ℕ) → k < length part.loads → get_or part.loads k 0 < 2 ^ 16
loads_fit part is k inside =
    let below = All-get_or (λ net. net < part.nets) part.loads k 0 inside is.loads_below in
    let few = is.few_nets in
    omega (arith, below, few)

-- a gate takes the load of its output
pub taken : (part : PartTables) (earlier : List NorGate) (gate : NorGate) (marks : List Bool) → AreOpen part earlier marks → gate.out < 2 ^ 16
    → AreOpen part (earlier ++ gate ∷ []) (set marks gate.out false)
taken part earlier gate marks is fits =
    let out = gate.out in
    let inside : out < length marks = let size = is.size in omega (arith, size, fits) in
    let other : (net : ℕ) → net < 2 ^ 16 → get_or (set marks out false) net false ≡ is_open part (earlier ++ gate ∷ []) net =
    λ net h.
    let found = list_any (λ one. one == net) part.loads in
    elim (cases_eq net out) [
      | inl e ↦
          let last : is_output (earlier ++ gate ∷ []) net ≡ true =
          output_more earlier gate net ∙ ap (λ t. is_output earlier net || t) (eq-eqb out net (sym e)) ∙ or_yes (is_output earlier net) in
          get_or-set_at marks out net false false e inside ∙ sym (ap (λ t. found && not t) last ∙ and_none found)
      | inr n ↦
          let same : is_output (earlier ++ gate ∷ []) net ≡ is_output earlier net =
          output_more earlier gate net ∙ ap (λ t. is_output earlier net || t) (ne_eqb out net (λ e. n (sym e))) ∙ or_no (is_output earlier net) in
          get_or-set_other marks out net false false n ∙ is.told net h ∙ ap (λ t. found && not t) (sym same)
    ] in
    record { size = length-set {A = Bool} marks out false ∙ is.size; told = other }

-- a load is open behind all gates where none has it
pub open_last : (part : PartTables) → IsPart part → (marks : List Bool) → AreOpen part part.gates marks → (k : ℕ) → k < length part.loads
    → get_or marks (get_or part.loads k 0) false ≡ not (is_output part.gates (get_or part.loads k 0))
open_last part is marks last k inside =
    let net = get_or part.loads k 0 in
    let found : list_any (λ one. one == net) part.loads ≡ true = list_any_at (λ one. one == net) part.loads k 0 inside (eq-eqb net net refl) in
    last.told net (loads_fit part is k inside) ∙ ap (λ t. t && not (is_output part.gates net)) found
