-- The label of the extension.
use Rattle.std.proofs.Common.{◌≡◌, ℕ, ◌-◌, Bool, List, Option, Some, None, Result, Ok, Err, IsSome, IfOk, IfErr}
use Rattle.std.specs.Bool.{Decides}
use Rattle.rx_text.specs.declared.place.Place.{Place}
use Rattle.geom.specs.declared.chip.Label.{Label}
use Rattle.geom.specs.declared.cif_code.CifCode.{CifCode}
use Rattle.geom.specs.CifCommands.{Extension}
use Rattle.geom.specs.CifDrawings.{CifState, CommandLeads}
use Rattle.cif_syntax.specs.Ends.{between}
use Rattle.cif_syntax.specs.Sentences.{IsCommandAt}
use Rattle.cif_kinds.specs.declared.kinds.CommandKind.TheVariants as kind
use Rattle.cif_codes.specs.Least.{IsLeastCode}
use Rattle.cif_labels.specs.Labelled.{state_with}
use Rattle.cif_figures.specs.Figures.{CommandOf, command_of, Leads}
use Rattle.cif_figures.proofs.ByKind.{is_extension}
use Rattle.cif_figures.proofs.Simple.{label_leads, label_fault}
use Rattle.cif_figures.proofs.labels.label_put.Goals as goal

-- where the text of an extension stands, by the law of the crate below
abbrev ExtensionsLaw : List ℕ → ℕ → ℕ → Type 0
ExtensionsLaw text first end =
    (from : ℕ) (h : IsCommandAt text from first end) (written : List ℕ) → h.here.command ≡ Extension written → between text first (end - 1) ≡ written

found_leads : (text : List ℕ) (first end : ℕ) (is_open : Bool) (r : Result (Option Label) CifCode) → ExtensionsLaw text first end
    → IfOk r (λ found. (s : CifState) → Decides is_open (IsSome s.opening) → IsLeastCode s (Extension (between text first (end - 1))) None)
    → IfOk r (λ found. (s : CifState) (place : Place) → Decides is_open (IsSome s.opening)
    → CommandLeads s place (Extension (between text first (end - 1))) (state_with s found))
    → IfOk r (λ found. (s : CifState) (c : CommandOf text first end kind.Extension) → Decides is_open (IsSome s.opening)
    → Leads s (command_of text first end kind.Extension c) (λ place. state_with s found))
found_leads text first end is_open (Ok found) law h l = λ s c d.
    let e = is_extension c.stands.here.command c.kind_is in
    label_leads s c.stands.here.command (between text first (end - 1)) e.0 found e.1 (law c.from c.stands e.0 e.1) (h s d) (λ place. l s place d)
found_leads text first end is_open (Err code) law h l = tt

found_fault : (text : List ℕ) (first end : ℕ) (is_open : Bool) (r : Result (Option Label) CifCode) → ExtensionsLaw text first end
    → IfErr r (λ code. (s : CifState) → Decides is_open (IsSome s.opening) → IsLeastCode s (Extension (between text first (end - 1))) (Some code))
    → IfErr r (λ code. (s : CifState) (c : CommandOf text first end kind.Extension) → Decides is_open (IsSome s.opening)
    → IsLeastCode s (command_of text first end kind.Extension c) (Some code))
found_fault text first end is_open (Ok found) law h = tt
found_fault text first end is_open (Err code) law h = λ s c d.
    let e = is_extension c.stands.here.command c.kind_is in
    label_fault s c.stands.here.command (between text first (end - 1)) e.0 code e.1 (law c.from c.stands e.0 e.1) (h s d)

pub returns-clause-label : goal.returns-clause-label
returns-clause-label c =
    found_leads c.args.text.now c.args.first c.args.end c.args.is_open c.label_of.result (λ from h. c.extensions_stand.ensures c.args.text.now
    from c.args.first c.args.end h)
    c.label_of.ensures.clear c.label_of.ensures.leads

pub returns-clause-fault : goal.returns-clause-fault
returns-clause-fault c =
    found_fault c.args.text.now c.args.first c.args.end c.args.is_open c.label_of.result (λ from h. c.extensions_stand.ensures c.args.text.now
    from c.args.first c.args.end h)
    c.label_of.ensures.fault
