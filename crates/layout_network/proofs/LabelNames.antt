-- The labels of CIF texts bear names as their roles ask, and so do the pads that they make.
use Rattle.std.proofs.Common.{◌≡◌, inl, inr, if◌then◌else◌, ℕ, Bool, true, false, List, [], ◌∷◌, ◌++◌, All, Option, Some, None, refl, sym, ◌∙◌, ap, subst}
use Rattle.std.proofs.lemmas.List.Elements.{All-nil, All-cons}
use Rattle.rx_text.specs.declared.place.Place.{Place}
use Rattle.geom.specs.declared.chip.Label.{Label}
use Rattle.geom.specs.Squares.{BoxShape}
use Rattle.geom.specs.Rows.{Among}
use Rattle.geom.specs.CifCommands.{CifCommand, Empty, Comment, Opens, Closes, CallsSymbol, SetsLayer, DrawsBox, DrawsPolygon, DrawsWire, Extension}
use Rattle.geom.specs.CifLabels.{IsPadName}
use Rattle.geom.specs.CifDrawings.{CifOpening, CifState, CommandLeads, blank_state, closed_state, drawn_in}
use Rattle.geom.specs.CifRefusals.{DrawsFrom}
use Rattle.geom.specs.CifRefusals.DrawsFrom.{end, command}
use Rattle.switch_net.specs.declared.network.Pad.{Pad}
use Rattle.nmos_model.specs.Lists.{Matched}
use Rattle.nmos_model.specs.Pads.{AreNamed, ArePads, IsPadOf, NetAt, first_labels, is_named}
use Rattle.layout_network.proofs.FlatBoxes.{among_cases}

-- ---- labels of a text

-- the labels bear names as their roles ask
abbrev pub BearNames : List Label → Type 0
BearNames labels = (label : Label) → Among labels label → IsPadName label.pad

-- boxes that are drawn leave the labels
drawn_labels : (s : CifState) (place : Place) (boxes : List BoxShape) (chain : ℕ) (opening : Option CifOpening)
    → (drawn_in s place boxes chain opening).drawing.labels ≡ s.drawing.labels
drawn_labels s place boxes chain None = refl
drawn_labels s place boxes chain (Some opening) = refl

closed_labels : (s : CifState) (opening : Option CifOpening) → (closed_state s opening).drawing.labels ≡ s.drawing.labels
closed_labels s None = refl
closed_labels s (Some opening) = refl

abbrev labels_of : CifState → List Label
labels_of s = s.drawing.labels

-- a state with the labels of another
same_labels : (s next other : CifState) → next ≡ other → labels_of other ≡ labels_of s → BearNames (labels_of s) → BearNames (labels_of next)
same_labels s next other is same named = subst BearNames (sym (ap labels_of is ∙ same)) named

leads_named : (s next : CifState) (place : Place) (c : CifCommand) → CommandLeads s place c next → BearNames (labels_of s) → BearNames (labels_of next)
leads_named s next place Empty leads named = same_labels s next _ leads refl named
leads_named s next place Comment leads named = same_labels s next _ leads refl named
leads_named s next place (Opens n scale) leads named = same_labels s next _ leads refl named
leads_named s next place Closes leads named = same_labels s next _ leads (closed_labels s s.opening) named
leads_named s next place (SetsLayer name) leads named = same_labels s next _ leads refl named
leads_named s next place (Extension text) (inl labelled) named =
    subst (λ (t : CifState). BearNames (labels_of t)) (sym labelled.2)
    (λ label at. elim (among_cases (labels_of s) (labelled.0 ∷ []) label at) [
      | inl old ↦ named label old
      | inr (inl e) ↦ subst (λ (l : Label). IsPadName l.pad) e labelled.1.names.0
      | inr (inr none) ↦ absurd none
    ])
leads_named s next place (Extension text) (inr passed) named = same_labels s next _ passed.1 refl named
leads_named s next place (CallsSymbol n moves) leads named = same_labels s next _ leads.2 (drawn_labels s place leads.0 _ s.opening) named
leads_named s next place (DrawsBox along across centre direction) leads named =
    same_labels s next _ leads.2 (drawn_labels s place leads.0 0 s.opening) named
leads_named s next place (DrawsPolygon points) leads named = same_labels s next _ leads.2 (drawn_labels s place leads.0 0 s.opening) named
leads_named s next place (DrawsWire width points) leads named = same_labels s next _ leads.2 (drawn_labels s place leads.0 0 s.opening) named

draws_named : (s last : CifState) (front rest : List ℕ) → DrawsFrom s front rest last → BearNames (labels_of s) → BearNames (labels_of last)
draws_named s last front rest (end _ _ _ gap blanks is before behind none) named = named
draws_named s last front rest (command _ next _ _ _ read draws) named =
    draws_named next last _ _ draws (leads_named s next _ read.here.command read.leads named)

-- the labels of a text bear names
pub text_labels : (text : List ℕ) (labels : List Label) → (last : CifState) → DrawsFrom blank_state [] text last → labels ≡ labels_of last → BearNames labels
text_labels text labels last draws is = subst BearNames (sym is) (draws_named blank_state last [] text draws (λ label none. absurd none))

-- as the rules of networks ask
pub are_named : (labels : List Label) → BearNames labels → AreNamed labels
are_named labels named label at = (named label at).0

-- ---- pads

-- labels whose names none before them bears are among the labels
first_named : (earlier labels : List Label) → BearNames labels → BearNames (first_labels earlier labels)
first_named earlier [] named = named
first_named earlier (label ∷ labels) named =
    by_name (is_named earlier label) (first_named (earlier ++ label ∷ []) labels (λ l at. named l (inr at)))
  where
    by_name : (known : Bool) → BearNames (first_labels (earlier ++ label ∷ []) labels)
        → BearNames (if known then first_labels (earlier ++ label ∷ []) labels else label ∷ first_labels (earlier ++ label ∷ []) labels)
    by_name true rest l at = rest l at
    by_name false rest l (inl e) = subst (λ (k : Label). IsPadName k.pad) e (named label (inl refl))
    by_name false rest l (inr at) = rest l at

matched_names : (net : NetAt) (labels : List Label) (pads : List Pad) → Matched (IsPadOf net) labels pads → BearNames labels
    → All (λ pad. IsPadName pad.name) pads
matched_names net [] [] matched named = All-nil (λ (pad : Pad). IsPadName pad.name)
matched_names net [] (pad ∷ pads) matched named = absurd matched
matched_names net (label ∷ labels) [] matched named = absurd matched
matched_names net (label ∷ labels) (pad ∷ pads) matched named =
    All-cons (λ (p : Pad). IsPadName p.name) pad pads (subst IsPadName (sym matched.0.name) (named label (inl refl)))
    (matched_names net labels pads matched.1 (λ l at. named l (inr at)))

-- pads of labels that bear names bear names
pub pads_named : (net : NetAt) (labels : List Label) (pads : List Pad) → ArePads net labels pads → BearNames labels → All (λ pad. IsPadName pad.name) pads
pads_named net labels pads are named = matched_names net (first_labels [] labels) pads are (first_named [] labels named)
