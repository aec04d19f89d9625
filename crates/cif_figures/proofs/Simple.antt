-- Layers, definitions and labels.
use Rattle.std.proofs.Common.{◌≡◌, ℕ, List, Option, Some, None, refl, sym, ◌∙◌, ap, subst}
use Rattle.geom.specs.declared.layer.Layer.{Layer}
use Rattle.geom.specs.declared.chip.Label.{Label}
use Rattle.geom.specs.declared.cif_code.CifCode.{CifCode}
use Rattle.rx_text.specs.declared.place.Place.{Place}
use Rattle.geom.specs.CifCommands.{CifCommand, Closes, SetsLayer, Extension}
use Rattle.geom.specs.CifLabels.{layer_named}
use Rattle.geom.specs.CifDrawings.{CifState, closed_state, CommandLeads}
use Rattle.cif_codes.specs.Least.{IsLeastCode}
use Rattle.cif_labels.specs.Labelled.{state_with}
use Rattle.cif_figures.specs.Figures.{Leads}

-- the same command, and the same answer
pub least_there : (s : CifState) (c d : CifCommand) (r t : Option CifCode) → c ≡ d → r ≡ t → IsLeastCode s d r → IsLeastCode s c t
least_there s c d r t e f h =
    let P : CifCommand → Type 0 = λ k. IsLeastCode s k t in
    let Q : Option CifCode → Type 0 = λ v. IsLeastCode s d v in
    subst P (sym e) (subst Q f h)

leads_there : (s : CifState) (place : Place) (c d : CifCommand) (next : CifState) → c ≡ d → CommandLeads s place d next → CommandLeads s place c next
leads_there s place c d next e h = let P : CifCommand → Type 0 = λ k. CommandLeads s place k next in subst P (sym e) h

pub leads_by : (s : CifState) (c d : CifCommand) (r : Option CifCode) (next : Place → CifState) → c ≡ d → r ≡ None → IsLeastCode s d r
    → ((place : Place) → CommandLeads s place d (next place)) → Leads s c next
leads_by s c d r next e f h l = record { clear = least_there s c d r None e f h; leads = λ place. leads_there s place c d (next place) e (l place) }

pub layer_leads : (s : CifState) (c : CifCommand) (name : List ℕ) (layer : Layer) (found : Option Layer) (r : Option CifCode)
    → c ≡ SetsLayer name → found ≡ layer_named name
    → found ≡ Some layer → r ≡ None → IsLeastCode s (SetsLayer name) r → Leads s c (λ place. record s { layer = Some layer })
layer_leads s c name layer found r e f g k h =
    leads_by s c (SetsLayer name) r (λ place. record s { layer = Some layer }) e k h
    (λ place. ap (λ (v : Option Layer). record s { layer = v }) (sym g ∙ f))

pub close_leads : (s : CifState) (c : CifCommand) (r : Option CifCode) → c ≡ Closes → r ≡ None → IsLeastCode s Closes r
    → Leads s c (λ place. closed_state s s.opening)
close_leads s c r e f h = leads_by s c Closes r (λ place. closed_state s s.opening) e f h (λ place. refl)

pub label_leads : (s : CifState) (c : CifCommand) (text written : List ℕ) (found : Option Label) → c ≡ Extension written → text ≡ written
    → IsLeastCode s (Extension text) None → ((place : Place) → CommandLeads s place (Extension text) (state_with s found))
    → Leads s c (λ place. state_with s found)
label_leads s c text written found e f h l =
    leads_by s c (Extension text) None (λ place. state_with s found) (e ∙ ap Extension (sym f)) refl h l

pub label_fault : (s : CifState) (c : CifCommand) (text written : List ℕ) (code : CifCode) → c ≡ Extension written → text ≡ written
    → IsLeastCode s (Extension text) (Some code) → IsLeastCode s c (Some code)
label_fault s c text written code e f h = least_there s c (Extension text) (Some code) (Some code) (e ∙ ap Extension (sym f)) refl h
