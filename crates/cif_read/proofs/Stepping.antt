-- From sentence to sentence.
use Rattle.std.proofs.Common.{◌≡◌, ℕ, ◌+◌, ◌-◌, ◌≤◌, List, [], ◌∷◌, ◌++◌, length, take, drop, codes, refl, sym, ◌∙◌, ap, subst, append_assoc, arith}
use Rattle.std.proofs.lemmas.List.{length-append, length-take-le, length-drop}
use Rattle.std.proofs.Math.Seq.{take-add}
use Rattle.rx_text.specs.TextPlace.{place_behind}
use Rattle.rx_text.specs.declared.place.Place.{Place}
use Rattle.geom.specs.declared.cif_code.CifCode.{CifCode}
use Rattle.geom.specs.CifDrawings.{CifState, CifDrawing, blank_state, CommandLeads}
use Rattle.geom.specs.CifRefusals.{CommandFault, DrawsFrom, RefusedFrom, CifRefusal, IsCifText, front_with}
use Rattle.cif_syntax.specs.Ends.{between}
use Rattle.cif_syntax.specs.Sentences.{IsCommandAt}
use Rattle.cif_figures.specs.Figures.{IsFaultOf}
use Rattle.cif_figures.specs.declared.fault.FigureFault.{FigureFault}
use Rattle.cif_figures.specs.declared.fault.FigureFault.TheVariants as figure
use Rattle.cif_read.specs.declared.mark.Mark.{Mark}
use Rattle.cif_read.specs.declared.reader.Reader.{Reader}
use Rattle.cif_read.specs.declared.faults.ReadCifFault.{ReadCifFault}
use Rattle.cif_read.specs.declared.faults.ReadCifFault.TheVariants as fault
use Rattle.cif_read.specs.Marks.{IsMark, place_of}
use Rattle.cif_read.specs.States.{state_of, IsRead}
use Rattle.cif_read.specs.Reading.{IsReadCifFault, IsStepFault, StepsTo, stop_fault}

-- ---- places in a text

-- a front of the text and what stands behind it are a longer front
front_longer : (text : List ℕ) (from to : ℕ) → from ≤ to → take from text ++ between text from to ≡ take to text
front_longer text from to o =
    sym (take-add from (to - from) text) ∙ ap (λ (n : ℕ). take n text) (let e : from + (to - from) ≡ to = omega arith in e)

length_between : (text : List ℕ) (from to : ℕ) → to ≤ length text → length (between text from to) ≡ to - from
length_between text from to w = length-take-le (to - from) (drop from text) (omega (arith, length-drop from text))

-- a command stands behind the place from which it is looked for
pub command_order : (text : List ℕ) (from first end : ℕ) → IsCommandAt text from first end → from ≤ first
command_order text from first end h =
    let whole : length (drop from text) ≡ (length h.here.gap + length h.here.bytes) + length (59 ∷ h.here.behind) =
    ap length h.here.is ∙ (length-append (h.here.gap ++ h.here.bytes) (59 ∷ h.here.behind)
    ∙ ap (λ (n : ℕ). n + length (59 ∷ h.here.behind)) (length-append h.here.gap h.here.bytes)) in
    let gap : length h.here.gap ≡ first - from = ap length h.gap_is ∙ length_between text from first (omega (arith, h.order, h.within)) in
    let bytes : length h.here.bytes + 1 ≡ end - first =
    sym (length-append h.here.bytes (codes ";")) ∙ (ap length h.bytes_are ∙ length_between text first end h.within) in
    let behind : length h.here.behind ≡ length text - end = ap length h.behind_is ∙ length-drop end text in
    omega (arith, whole, gap, bytes, behind, length-drop from text, h.order, h.within)

-- the front up to a command
front_gap : (text : List ℕ) (from first end : ℕ) (h : IsCommandAt text from first end) → take from text ++ h.here.gap ≡ take first text
front_gap text from first end h =
    ap (λ (l : List ℕ). take from text ++ l) h.gap_is ∙ front_longer text from first (command_order text from first end h)

-- the front up to the place behind a command
front_command : (text : List ℕ) (from first end : ℕ) (h : IsCommandAt text from first end) → front_with (take from text)
    (drop from text) h.here ≡ take end text
front_command text from first end h =
    append_assoc (take from text ++ h.here.gap) h.here.bytes (codes ";")
    ∙ (ap (λ (l : List ℕ). (take from text ++ h.here.gap) ++ l) h.bytes_are
    ∙ (ap (λ (l : List ℕ). l ++ between text first end) (front_gap text from first end h) ∙ front_longer text first end (omega (arith, h.order))))

-- ---- one sentence

-- the place of a command
place_first : (text : List ℕ) (from first end : ℕ) (here : Mark) (h : IsCommandAt text from first end) → IsMark text here → here.at ≡ first
    → place_of here ≡ place_behind (take from text ++ h.here.gap)
place_first text from first end here h m e =
    sym m.place_is ∙ (ap (λ (n : ℕ). place_behind (take n text)) e ∙ ap place_behind (sym (front_gap text from first end h)))

pub stepped : (text : List ℕ) (mark here next : Mark) (first end : ℕ) (old new : Reader) (h : IsCommandAt text mark.at first end) → IsMark text here
    → here.at ≡ first → IsRead old (place_of here) h.here.command new → IsMark text next → next.at ≡ end → StepsTo text mark old new next
stepped text mark here next first end old new h m f read is e =
    let o : mark.at ≤ first = command_order text mark.at first end h in
    let p : place_of here ≡ place_behind (take mark.at text ++ h.here.gap) = place_first text mark.at first end here h m f in
    record {
      is_mark = is;
      later = omega (arith, o, h.order, e);
      kept = read.kept;
      read = record {
        here = h.here;
        clear = read.clear;
        leads = subst (λ (v : Place). CommandLeads (state_of old) v h.here.command (state_of new)) p read.leads;
      };
      front_is = front_command text mark.at first end h ∙ ap (λ (n : ℕ). take n text) (sym e);
      behind_is = h.behind_is ∙ ap (λ (n : ℕ). drop n text) (sym e);
    }

-- a code stands here, behind this front
refused_here : (text : List ℕ) (from : ℕ) (s : CifState) (code : CifCode) (place : Place) (behind : List ℕ)
    → CommandFault s (take from text) (drop from text) code behind → place ≡ place_behind behind → RefusedFrom s (take from text)
    (drop from text) code place
refused_here text from s code place behind f e =
    subst (λ (v : Place). RefusedFrom s (take from text) (drop from text) code v) (sym e) (RefusedFrom.here s (take from text)
    (drop from text) behind code f)

pub syntax_refused : (text : List ℕ) (from at : ℕ) (s : CifState) (code : CifCode) → CommandFault s (take from text) (drop from text) code
    (take at text)
    → IsStepFault text from s (fault.Fault (record { code = code; place = place_behind (take at text) }))
syntax_refused text from at s code f = refused_here text from s code (place_behind (take at text)) (take at text) f refl

pub command_refused : (text : List ℕ) (from first end : ℕ) (here : Mark) (old : Reader) (f : FigureFault) (h : IsCommandAt text from first end)
    → IsMark text here → here.at ≡ first → IsFaultOf (state_of old) h.here.command f → IsStepFault text from (state_of old) (stop_fault f
    (place_of here))
command_refused text from first end here old figure.NoMemory h m e is = tt
command_refused text from first end here old (figure.Meets code) h m e is =
    refused_here text from (state_of old) code (place_of here) (take from text ++ h.here.gap)
    (CommandFault.meets h.here code is.0 is.1) (place_first text from first end here h m e)

-- ---- all sentences

-- What is left of the text draws or is refused as the whole text is.
pub record IsBehind (text : List ℕ) (at : ℕ) (s : CifState) : Type 0 where
  pub draws : (last : CifState) → DrawsFrom s (take at text) (drop at text) last → DrawsFrom blank_state [] text last
  pub refuses : (code : CifCode) (place : Place) → RefusedFrom s (take at text) (drop at text) code place → CifRefusal text code place

pub behind_nothing : (text : List ℕ) (s : CifState) → s ≡ blank_state → IsBehind text 0 s
behind_nothing text s e = record {
  draws = λ last d. subst (λ (v : CifState). DrawsFrom v [] text last) e d;
  refuses = λ code place r. subst (λ (v : CifState). RefusedFrom v [] text code place) e r;
}

pub behind_more : (text : List ℕ) (mark next : Mark) (old new : Reader) → IsBehind text mark.at (state_of old) → StepsTo text mark old new next
    → IsBehind text next.at (state_of new)
behind_more text mark next old new b h = record {
  draws = λ last d. b.draws last (DrawsFrom.command (state_of old) (state_of new) last (take mark.at text) (drop mark.at text) h.read
      (subst (λ (l : List ℕ). DrawsFrom (state_of new) l h.read.here.behind last) (sym h.front_is)
      (subst (λ (l : List ℕ). DrawsFrom (state_of new) (take next.at text) l last) (sym h.behind_is) d)));
  refuses = λ code place r. b.refuses code place (RefusedFrom.later (state_of old) (state_of new) (take mark.at text)
      (drop mark.at text) code place h.read
      (subst (λ (l : List ℕ). RefusedFrom (state_of new) l h.read.here.behind code place) (sym h.front_is)
      (subst (λ (l : List ℕ). RefusedFrom (state_of new) (take next.at text) l code place) (sym h.behind_is) r)));
}

pub whole_refused : (text : List ℕ) (at : ℕ) (s : CifState) (f : ReadCifFault) → IsBehind text at s → IsStepFault text at s f
    → IsReadCifFault text f
whole_refused text at s (fault.Fault refusal) b r = b.refuses refusal.code refusal.place r
whole_refused text at s fault.NoMemory b r = tt

pub whole_drawn : (text : List ℕ) (at : ℕ) (s last : CifState) (drawing : CifDrawing) → IsBehind text at s → DrawsFrom s (take at text)
    (drop at text) last
    → drawing ≡ last.drawing → IsCifText text drawing
whole_drawn text at s last drawing b d e = record { last = last; draws = b.draws last d; drawing_is = e }
