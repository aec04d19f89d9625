-- Calls of symbols.
use Rattle.std.proofs.Common.{◌≡◌, inl, inr, ℕ, zero, suc, ◌+◌, ◌-◌, ◌≤◌, ◌<◌, Bool, ℤ, pos, List, [], ◌∷◌, flat_map, Option, Some, None, IfSome, refl, sym, ◌∙◌, ap, subst, arith, if◌then◌else◌}
use lib.Dec.{ltb}
use Rattle.std.specs.Bool.{Decides}
use Rattle.std.proofs.lemmas.Bool.{cases_lt}
use Rattle.std.proofs.lemmas.Bool.Decides.{Decides-eqb, Decides-ltb}
use Rattle.rx_text.specs.declared.place.Place.{Place}
use Rattle.geom.specs.declared.layer.Layer.TheVariants.{Metal}
use Rattle.geom.specs.declared.cif_code.CifCode.{CifCode}
use Rattle.geom.specs.declared.cif_code.CifCode.TheVariants.{C4, C7, C8, C14}
use Rattle.geom.specs.CifCommands.{CifScale, CifMove, CifCommand, CallsSymbol, move_parts, command_parts}
use Rattle.geom.specs.CifDrawings.{CifState, CifSymbol, scale_of, symbol_of, chain_of_call, called_boxes, drawn_in}
use Rattle.cif_values.specs.Numbers.{StandsFor}
use Rattle.cif_values.specs.Parts.{PartsAt}
use Rattle.cif_kinds.specs.declared.kinds.CommandKind.TheVariants as kind
use Rattle.cif_codes.specs.declared.scale.Scale.{Scale}
use Rattle.cif_codes.specs.declared.calls.MoveChecks.{MoveChecks}
use Rattle.cif_codes.specs.Checks.{MovesChecked}
use Rattle.cif_codes.specs.Scales.{ratio, grid_of}
use Rattle.cif_codes.specs.Least.{IsLeastCode}
use Rattle.cif_drawing.specs.declared.placement.Step.{Step}
use Rattle.cif_drawing.specs.Placements.{stepped_boxes}
use Rattle.cif_drawing.specs.Parts.{part_boxes, part_chain, chain_or_none}
use Rattle.cif_figures.specs.Figures.{CommandOf, Leads, symbol_in}
use Rattle.cif_figures.specs.Steps.{AreStepsOf, AreClearMoves}
use Rattle.cif_figures.proofs.ByKind.{PartsLaw, is_call, parts_of}
use Rattle.cif_figures.proofs.Simple.{least_there, leads_by}
use Rattle.cif_figures.proofs.Stepping.{boxes_same}

-- ---- the symbol

pub known_symbol : (chain : Option ℕ) (calls : ℕ) (symbol : Option CifSymbol) → chain ≡ Some calls → chain ≡ part_chain symbol → symbol ≡ None → ⊥
known_symbol chain calls None e f g = let h : ◌≡◌ {A = Option ℕ} None (Some calls) = sym f ∙ e in cc
known_symbol chain calls (Some symbol) e f g = cc

pub unknown_symbol : (chain : Option ℕ) (symbol : Option CifSymbol) → chain ≡ None → chain ≡ part_chain symbol → symbol ≡ None
unknown_symbol chain None e f = refl
unknown_symbol chain (Some symbol) e f = absurd (let h : part_chain (Some symbol) ≡ None = sym f ∙ e in cc)

pub chain_is : (chain : Option ℕ) (calls : ℕ) (symbol : Option CifSymbol) → chain ≡ Some calls → chain ≡ part_chain symbol
    → chain_of_call symbol ≡ calls
chain_is chain calls None e f = absurd (let h : ◌≡◌ {A = Option ℕ} None (Some calls) = sym f ∙ e in cc)
chain_is chain calls (Some symbol) e f = inside (chain_of_call (Some symbol)) calls (sym f ∙ e)
  where
    inside : (a b : ℕ) → ◌≡◌ {A = Option ℕ} (Some a) (Some b) → a ≡ b
    inside a b e = cc

pub deep_symbol : (chain : Option ℕ) (calls : ℕ) (symbol : Option CifSymbol) → chain ≡ Some calls → chain ≡ part_chain symbol
    → Decides (ltb 64 calls) (64 < chain_of_call symbol)
deep_symbol chain calls symbol e f =
    let P : ℕ → Type 0 = λ k. Decides (ltb 64 calls) (64 < k) in
    subst P (sym (chain_is chain calls symbol e f)) (Decides-ltb 64 calls)

pub no_calls : (chain : Option ℕ) (symbol : Option CifSymbol) → chain ≡ None → chain ≡ part_chain symbol → 64 < chain_of_call symbol → ⊥
no_calls chain symbol e f l =
    let k : chain_of_call symbol ≡ 0 = ap chain_of_call (unknown_symbol chain symbol e f) in
    omega (arith, k, l)

-- ---- a state with a symbol of this number, if a call of it makes some number of calls

abbrev bare_symbol : ℕ → CifSymbol
bare_symbol n = record { number = n; boxes = []; chain = 0 }

abbrev full_symbol : ℕ → ℕ → CifSymbol
full_symbol n chain = record { number = n; boxes = record { layer = Metal; x1 = pos 0; y1 = pos 0; x2 = pos 1; y2 = pos 1 } ∷ []; chain = chain }

abbrev chained_symbols : ℕ → Option ℕ → List CifSymbol
chained_symbols n None = []
chained_symbols n (Some zero) = bare_symbol n ∷ []
chained_symbols n (Some (suc calls)) = full_symbol n calls ∷ []

abbrev chained_state : CifScale → ℕ → Option ℕ → CifState
chained_state scale n chain = record {
  symbols = chained_symbols n chain;
  opening = Some (record { symbol = bare_symbol (n + 1); scale = scale; outer = None });
  layer = None;
  drawing = record { strokes = []; labels = [] };
}

chain_found : (scale : CifScale) (n : ℕ) (chain : Option ℕ) → chain ≡ part_chain (symbol_of (chained_state scale n chain) n)
chain_found scale n None = refl
chain_found scale n (Some zero) = ap (λ (t : Bool). part_chain (if t then Some (bare_symbol n) else None)) (sym ((Decides-eqb n n).1 refl))
chain_found scale n (Some (suc calls)) =
    let e : suc calls ≡ calls + 1 = omega arith in
    ap (λ (k : ℕ). Some k) e ∙ ap (λ (t : Bool). part_chain (if t then Some (full_symbol n calls) else None)) (sym ((Decides-eqb n n).1 refl))

-- ---- calls that stand in a text

-- a call whose transformations stand from a place on, where a call of its symbol makes so many calls, and the least code that it meets
pub record CallHere (c : CifCommand) (text : List ℕ) (at : ℕ) (scale : Scale) (chain : Option ℕ) (r : Option CifCode) : Type 0 where
  pub n : ℕ
  pub moves : List CifMove
  pub is : c ≡ CallsSymbol n moves
  pub stop : ℕ
  pub parts : PartsAt text at stop (flat_map move_parts moves)
  pub code : (s : CifState) → scale_of s.opening ≡ ratio scale → chain ≡ part_chain (symbol_of s n) → IsLeastCode s (CallsSymbol n moves) r

-- what is read of a call in front of its transformations
abbrev pub CallReads : List ℕ → ℕ → ℕ → ℕ → ℤ → Type 0
CallReads text first at divisor number =
    (stop n : ℕ) (moves : List CifMove) → PartsAt text first stop (command_parts (CallsSymbol n moves))
    → StandsFor divisor (pos n) number × PartsAt text at stop (flat_map move_parts moves)

-- what is found of the transformations that stand at a place
abbrev pub MovesLaw : List ℕ → ℕ → Scale → MoveChecks → Type 0
MovesLaw text at scale found =
    (stop : ℕ) (moves : List CifMove) → PartsAt text at stop (flat_map move_parts moves) → MovesChecked (ratio scale) moves found

-- which code calls of such transformations meet
abbrev pub CallLaw : Scale → ℤ → MoveChecks → Bool → Bool → Option CifCode → Type 0
CallLaw scale number found unknown deep r =
    (s : CifState) (n : ℕ) (written : List CifMove) → scale_of s.opening ≡ ratio scale → StandsFor (grid_of scale) (pos n) number
    → MovesChecked (ratio scale) written found → Decides unknown (symbol_of s n ≡ None) → Decides deep (64 < chain_of_call (symbol_of s n))
    → IsLeastCode s (CallsSymbol n written) r

-- what a number of calls says of the symbol
abbrev pub UnknownLaw : Option ℕ → Bool → Type 0
UnknownLaw chain t = (symbol : Option CifSymbol) → chain ≡ part_chain symbol → Decides t (symbol ≡ None)

abbrev pub DeepLaw : Option ℕ → Bool → Type 0
DeepLaw chain t = (symbol : Option CifSymbol) → chain ≡ part_chain symbol → Decides t (64 < chain_of_call symbol)

pub call_at : (text : List ℕ) (first end at : ℕ) (k : CommandOf text first end kind.Calls) (scale : Scale) (chain : Option ℕ)
    (divisor : ℕ) (number : ℤ) (found : MoveChecks) (unknown deep : Bool) (r t : Option CifCode) → PartsLaw → CallReads text first at divisor number
    → divisor ≡ grid_of scale → MovesLaw text at scale found → CallLaw scale number found unknown deep r → UnknownLaw chain unknown
    → DeepLaw chain deep → r ≡ t → CallHere k.stands.here.command text at scale chain t
call_at text first end at k scale chain divisor number found unknown deep r t law reads e ml cl ul dl f =
    let o = is_call k.stands.here.command k.kind_is in
    let p = reads (end - 1) o.0 o.1 (parts_of text first end kind.Calls k (CallsSymbol o.0 o.1) o.2 tt law) in
    let P : ℕ → Type 0 = λ v. StandsFor v (pos o.0) number in
    let m = ml (end - 1) o.1 p.1 in
    let Q : CifState → Option CifCode → Type 0 = λ s v. IsLeastCode s (CallsSymbol o.0 o.1) v in
    record {
      n = o.0;
      moves = o.1;
      is = o.2;
      stop = end - 1;
      parts = p.1;
      code = λ s g h. subst (Q s) f (cl s o.0 o.1 g (subst P e p.0) m (ul (symbol_of s o.0) h) (dl (symbol_of s o.0) h));
    }

-- the symbol of the call
chain_there : (c : CifCommand) (text : List ℕ) (at : ℕ) (scale : Scale) (chain : Option ℕ) (r : Option CifCode) (s : CifState)
    → (h : CallHere c text at scale chain r) → chain ≡ part_chain (symbol_of s (symbol_in c)) → chain ≡ part_chain (symbol_of s h.n)
chain_there c text at scale chain r s h e = e ∙ ap (λ (d : CifCommand). part_chain (symbol_of s (symbol_in d))) h.is

pub call_fault : (s : CifState) (c : CifCommand) (text : List ℕ) (at : ℕ) (scale : Scale) (chain : Option ℕ) (r : Option CifCode)
    → CallHere c text at scale chain r → scale_of s.opening ≡ ratio scale → chain ≡ part_chain (symbol_of s (symbol_in c)) → IsLeastCode s c r
call_fault s c text at scale chain r h e f =
    least_there s c (CallsSymbol h.n h.moves) r r h.is refl (h.code s e (chain_there c text at scale chain r s h f))

-- ---- calls that meet no code

-- a call of the symbol makes at most 64 calls
pub call_known : (c : CifCommand) (text : List ℕ) (at : ℕ) (scale : Scale) (chain : Option ℕ) → CallHere c text at scale chain None
    → (calls : ℕ) × (chain ≡ Some calls) × (calls ≤ 64)
call_known c text at scale chain h = by chain h.n h.moves h.code
  where
    by : (chain : Option ℕ) (n : ℕ) (moves : List CifMove)
        → ((s : CifState) → scale_of s.opening ≡ ratio scale → chain ≡ part_chain (symbol_of s n) → IsLeastCode s (CallsSymbol n moves) None)
        → (calls : ℕ) × (chain ≡ Some calls) × (calls ≤ 64)
    by None n moves f = absurd (f (chained_state (ratio scale) n None) refl refl C4 refl)
    by (Some calls) n moves f =
        let s = chained_state (ratio scale) n (Some calls) in
        let found = chain_found (ratio scale) n (Some calls) in
        let e = chain_is (Some calls) calls (symbol_of s n) refl found in
        elim (cases_lt 64 calls) [ inl l ↦ absurd (f s refl found C14 (omega (arith, e, l))) | inr l ↦ (calls, refl, l) ]

pub call_moves : (c : CifCommand) (text : List ℕ) (at : ℕ) (scale : Scale) (chain : Option ℕ) → (h : CallHere c text at scale chain None)
    → AreClearMoves text at (ratio scale) h.moves
call_moves c text at scale chain h =
    let n = h.code (chained_state (ratio scale) h.n chain) refl (chain_found (ratio scale) h.n chain) in
    record { stop = h.stop; parts = h.parts; few = λ g. n C8 (inl (inr g)); on_grid = λ g. n C7 g; not_far = λ g. n C8 (inr g) }

boxes_drawn : (symbol : Option CifSymbol) (scale : CifScale) (moves : List CifMove) (steps : List Step) → AreStepsOf scale moves steps
    → IfSome symbol (λ found. stepped_boxes steps (part_boxes symbol) ≡ called_boxes scale moves found.boxes)
boxes_drawn None scale moves steps h = tt
boxes_drawn (Some found) scale moves steps h = boxes_same scale moves steps found.boxes h

chains_same : (symbol : Option CifSymbol) → chain_or_none symbol ≡ chain_of_call symbol
chains_same None = refl
chains_same (Some symbol) = refl

-- the state with the boxes of the symbol of this number
abbrev pub called_state : CifState → ℕ → List Step → Place → CifState
called_state s n steps place = drawn_in s place (stepped_boxes steps (part_boxes (symbol_of s n))) (chain_or_none (symbol_of s n)) s.opening

pub call_leads : (s : CifState) (c : CifCommand) (text : List ℕ) (at : ℕ) (scale : Scale) (chain : Option ℕ) (steps : List Step)
    → CallHere c text at scale chain None → ((moves : List CifMove) → AreClearMoves text at (ratio scale) moves
    → AreStepsOf (ratio scale) moves steps)
    → scale_of s.opening ≡ ratio scale → chain ≡ part_chain (symbol_of s (symbol_in c)) → Leads s c (called_state s (symbol_in c) steps)
call_leads s c text at scale chain steps h f e g =
    let k = f h.moves (call_moves c text at scale chain h) in
    let P : CifScale → Type 0 = λ v. AreStepsOf v h.moves steps in
    let boxes = stepped_boxes steps (part_boxes (symbol_of s h.n)) in
    let Q : CifCommand → Type 0 = λ d. Leads s c (called_state s (symbol_in d) steps) in
    subst Q (sym h.is)
    (leads_by s c (CallsSymbol h.n h.moves) None (called_state s h.n steps) h.is refl (h.code s e (chain_there c text at scale chain None s h g))
    (λ place. (
      boxes,
      boxes_drawn (symbol_of s h.n) (scale_of s.opening) h.moves steps (subst P (sym e) k),
      ap (λ (n : ℕ). drawn_in s place boxes n s.opening) (chains_same (symbol_of s h.n)),
    )))
