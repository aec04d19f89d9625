-- Refusals of layouts stand in their texts.
use Rattle.std.proofs.Common.{◌≡◌, inl, inr, ℕ, suc, ◌+◌, ◌≤◌, List, [], ◌∷◌, ◌++◌, Option, Some, None, length, count_by, codes, refl, sym, ◌∙◌, ap, subst, arith, length-append}
use Rattle.std.proofs.lemmas.List.Sums.{count_by-le-length}
use Rattle.rx_text.specs.TextPlace.{is_line_feed, place_behind}
use Rattle.rx_text.specs.declared.place.Place.{Place}
use Rattle.rx_text.specs.declared.place.Place.TheVariants.{Text}
use Rattle.geom.specs.declared.cif_code.CifCode.{CifCode}
use Rattle.geom.specs.Squares.{BoxShape}
use Rattle.geom.specs.Rows.{Among}
use Rattle.geom.specs.CifCommands.{CifCommand, Empty, Comment, Opens, Closes, CallsSymbol, SetsLayer, DrawsBox, DrawsPolygon, DrawsWire, Extension}
use Rattle.geom.specs.CifDrawings.{CifDrawing, CifOpening, CifState, CifStroke, CommandLeads, blank_state, closed_state, drawn_in, stroke_of}
use Rattle.geom.specs.CifRefusals.{CommandFault, CommandHere, DrawsFrom, FlatRefusal, IsCifText, RefusedFrom, front_with}
use Rattle.geom.specs.CifRefusals.CommandFault.{breaks, cuts, outside, meets, end_within, behind_end}
use Rattle.geom.specs.CifRefusals.DrawsFrom.{end, command}
use Rattle.geom.specs.CifRefusals.RefusedFrom.{here, later}
use Rattle.geom.specs.Conduction.{Drawing}
use Rattle.geom.specs.declared.chip.Label.{Label}
use Rattle.nmos_model.specs.declared.refusal.ExtractCode.{ExtractCode}
use Rattle.nmos_model.specs.Refusals.{IsRefused}
use Rattle.nmos_model.specs.Refusals.IsRefused.{odd_channel, odd_terminals, label_on_nothing, labels_disagree, missing_pad, odd_load}
use Rattle.layout_network.specs.Layouts.{LayoutRefusal}
use Rattle.layout_network.specs.Layouts.LayoutRefusal.{no_text, not_flat, no_network}
use Rattle.layout_network.specs.declared.fault.LayoutCode.{LayoutCode}
use Rattle.layout_network.proofs.FlatBoxes.{among_cases, among_right}

-- The place is no line behind so many bytes and one.
abbrev IsWithin : ℕ → Place → Type 0
IsWithin most place = (line column : ℕ) → place ≡ Text line column → line ≤ most + 1

-- a place behind no more bytes
within_bytes : (most : ℕ) (bytes : List ℕ) → length bytes ≤ most → IsWithin most (place_behind bytes)
within_bytes most bytes few line column is =
    let same : count_by is_line_feed bytes + 1 ≡ line = cc in
    let feeds : count_by is_line_feed bytes ≤ length bytes = count_by-le-length is_line_feed bytes in
    omega (arith, same, feeds, few)

-- ---- commands

-- the length of three lists in a row
lengths : (a b c : List ℕ) → length (a ++ b ++ c) ≡ length a + length b + length c
lengths a b c = length-append (a ++ b) c ∙ ap (λ n. n + length c) (length-append a b)

-- what stands before the command, and the command, is the front and the rest
passed : (front rest : List ℕ) → (read : CommandHere rest)
    → length (front_with front rest read) + length read.behind ≡ length front + length rest
passed front rest read =
    let read_so_far : length (front_with front rest read) ≡ length (front ++ read.gap ++ read.bytes) + 1 =
    length-append (front ++ read.gap ++ read.bytes) (codes ";") in
    let before = lengths front read.gap read.bytes in
    let whole : length rest ≡ length (read.gap ++ read.bytes ++ 59 ∷ read.behind) = ap length read.is in
    let parts = lengths read.gap read.bytes (59 ∷ read.behind) in
    let last : length (59 ∷ read.behind) ≡ suc (length read.behind) = refl in
    omega (arith, read_so_far, before, whole, parts, last)

-- a gap that begins the rest stands within it
begins_within : (most : ℕ) (front rest gap some more : List ℕ) → rest ≡ gap ++ some ++ more → length front + length rest ≤ most
    → length (front ++ gap) ≤ most
begins_within most front rest gap some more is few =
    let whole : length rest ≡ length (gap ++ some ++ more) = ap length is in
    let parts = lengths gap some more in
    let begun = length-append front gap in
    omega (arith, whole, parts, begun, few)

fault_within : (most : ℕ) (s : CifState) (front rest : List ℕ) (code : CifCode) (at : List ℕ) → length front + length rest ≤ most
    → CommandFault s front rest code at → length at ≤ most
fault_within most s front rest code at few (breaks gap before behind is run stops) =
    let whole : length rest ≡ length (gap ++ before ++ behind) = ap length is in
    let parts = lengths gap before behind in
    let begun = lengths front gap before in
    omega (arith, whole, parts, begun, few)
fault_within most s front rest code at few (cuts gap bytes is run cut) = let whole = length-append front rest in omega (arith, whole, few)
fault_within most s front rest code at few (outside gap word behind is blanks named) = begins_within most front rest gap word behind is few
fault_within most s front rest code at few (meets read named met least) =
    begins_within most front rest read.gap read.bytes (59 ∷ read.behind) read.is few
fault_within most s front rest code at few (end_within gap behind is blanks opened) = begins_within most front rest gap (codes "E") behind is few
fault_within most s front rest code at few (behind_end gap blanks byte others is before none after ends) =
    let whole : length rest ≡ length (gap ++ codes "E" ++ blanks ++ byte ∷ others) = ap length is in
    let end = length-append (gap ++ codes "E" ++ blanks) (byte ∷ others) in
    let parts = lengths gap (codes "E") blanks in
    let begun = length-append (front ++ gap ++ codes "E") blanks in
    let before = lengths front gap (codes "E") in
    omega (arith, whole, end, parts, begun, before, few)

refused_within : (most : ℕ) (s : CifState) (front rest : List ℕ) (code : CifCode) (place : Place) → length front + length rest ≤ most
    → RefusedFrom s front rest code place → IsWithin most place
refused_within most s front rest code place few (here _ _ _ at _ fault) = within_bytes most at (fault_within most s front rest code at few fault)
refused_within most s front rest code place few (later _ next _ _ _ _ read refused) =
    let moved = passed front rest read.here in
    refused_within most next (front_with front rest read.here) read.here.behind code place (omega (arith, moved, few)) refused

-- ---- what commands draw

abbrev StandWithin : ℕ → List CifStroke → Type 0
StandWithin most strokes = (stroke : CifStroke) → Among strokes stroke → IsWithin most stroke.place

abbrev strokes_of : CifState → List CifStroke
strokes_of s = s.drawing.strokes

-- a state with the strokes of another
same_strokes : (most : ℕ) (s next other : CifState) → next ≡ other → strokes_of other ≡ strokes_of s → StandWithin most (strokes_of s)
    → StandWithin most (strokes_of next)
same_strokes most s next other is same within = subst (StandWithin most) (sym (ap strokes_of is ∙ same)) within

closed_strokes : (s : CifState) (opening : Option CifOpening) → strokes_of (closed_state s opening) ≡ strokes_of s
closed_strokes s None = refl
closed_strokes s (Some opening) = refl

-- the one that boxes make stands at its place
stroke_within : (most : ℕ) (place : Place) (boxes : List BoxShape) → IsWithin most place → StandWithin most (stroke_of place boxes)
stroke_within most place [] at stroke none = absurd none
stroke_within most place (b ∷ boxes) at stroke (inl e) = subst (λ (one : CifStroke). IsWithin most one.place) e at
stroke_within most place (b ∷ boxes) at stroke (inr none) = absurd none

drawn_within : (most : ℕ) (s next : CifState) (place : Place) (boxes : List BoxShape) (chain : ℕ) (opening : Option CifOpening)
    → next ≡ drawn_in s place boxes chain opening → IsWithin most place → StandWithin most (strokes_of s) → StandWithin most (strokes_of next)
drawn_within most s next place boxes chain None is at within =
    subst (λ (t : CifState). StandWithin most (strokes_of t)) (sym is)
    (λ stroke member. elim (among_cases (strokes_of s) (stroke_of place boxes) stroke member) [
      | inl old ↦ within stroke old
      | inr new ↦ stroke_within most place boxes at stroke new
    ])
drawn_within most s next place boxes chain (Some opening) is at within = same_strokes most s next _ is refl within

leads_within : (most : ℕ) (s next : CifState) (place : Place) (c : CifCommand) → CommandLeads s place c next → IsWithin most place
    → StandWithin most (strokes_of s) → StandWithin most (strokes_of next)
leads_within most s next place Empty leads at within = same_strokes most s next _ leads refl within
leads_within most s next place Comment leads at within = same_strokes most s next _ leads refl within
leads_within most s next place (Opens n scale) leads at within = same_strokes most s next _ leads refl within
leads_within most s next place Closes leads at within = same_strokes most s next _ leads (closed_strokes s s.opening) within
leads_within most s next place (SetsLayer name) leads at within = same_strokes most s next _ leads refl within
leads_within most s next place (Extension text) (inl labelled) at within = same_strokes most s next _ labelled.2 refl within
leads_within most s next place (Extension text) (inr passed) at within = same_strokes most s next _ passed.1 refl within
leads_within most s next place (CallsSymbol n moves) leads at within = drawn_within most s next place leads.0 _ s.opening leads.2 at within
leads_within most s next place (DrawsBox along across centre direction) leads at within = drawn_within most s next place leads.0 0 s.opening leads.2 at within
leads_within most s next place (DrawsPolygon points) leads at within = drawn_within most s next place leads.0 0 s.opening leads.2 at within
leads_within most s next place (DrawsWire width points) leads at within = drawn_within most s next place leads.0 0 s.opening leads.2 at within

draws_within : (most : ℕ) (s last : CifState) (front rest : List ℕ) → length front + length rest ≤ most → DrawsFrom s front rest last
    → StandWithin most (strokes_of s) → StandWithin most (strokes_of last)
draws_within most s last front rest few (end _ _ _ gap blanks is before behind none) within = within
draws_within most s last front rest few (command _ next _ _ _ read draws) within =
    let moved = passed front rest read.here in
    let begun = begins_within most front rest read.here.gap read.here.bytes (59 ∷ read.here.behind) read.here.is few in
    draws_within most next last (front_with front rest read.here) read.here.behind (omega (arith, moved, few)) draws
    (leads_within most s next _ read.here.command read.leads (within_bytes most (front ++ read.here.gap) begun) within)

flat_within : (text : List ℕ) (drawing : CifDrawing) (code : CifCode) (place : Place) → IsCifText text drawing → FlatRefusal drawing.strokes code place
    → IsWithin (length text) place
flat_within text drawing code place is refused line column at =
    let drawn : StandWithin (length text) drawing.strokes =
    subst (λ (d : CifDrawing). StandWithin (length text) d.strokes) (sym is.drawing_is)
    (draws_within (length text) blank_state is.last [] text (omega arith) is.draws (λ stroke none. absurd none)) in
    let member : Among drawing.strokes refused.stroke =
    subst (λ l. Among l refused.stroke) (sym refused.is) (among_right refused.before (refused.stroke ∷ refused.behind) refused.stroke (inl refl)) in
    drawn refused.stroke member line column (sym refused.place_is ∙ at)

-- ---- layouts

drawing_within : (most : ℕ) (Drawn : Drawing) (labels : List Label) (code : ExtractCode) (place : Place) → IsRefused Drawn labels code place
    → IsWithin most place
drawing_within most Drawn labels code place (odd_channel x y region) line column is = cc
drawing_within most Drawn labels code place (odd_terminals x y even region) line column is = cc
drawing_within most Drawn labels code place (label_on_nothing x y channels label) line column is = cc
drawing_within most Drawn labels code place (labels_disagree x y channels stand label) line column is = cc
drawing_within most Drawn labels code place (missing_pad channels names lacks) line column is = cc
drawing_within most Drawn labels code place (odd_load x y channels names needed region) line column is = cc

-- a refusal of a layout stands in its text, where it has a line
pub refusal_within : (text : List ℕ) (code : LayoutCode) (place : Place) → LayoutRefusal text code place → IsWithin (length text) place
refusal_within text code place (no_text named at refused) = refused_within (length text) blank_state [] text named at (omega arith) refused
refusal_within text code place (not_flat drawing named at is refused) = flat_within text drawing named at is refused
refusal_within text code place (no_network boxes labels named at few refused) = drawing_within (length text) _ labels named at refused
