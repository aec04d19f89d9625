-- Commands of a CIF text that are read one after another.
use Rattle.std.proofs.Common.{◌≡◌, inl, inr, ℕ, ℤ, List, [], ◌∷◌, ◌++◌, None, codes, refl, sym, ap, ◌∙◌, append_assoc, append-nil, arith}
use Rattle.std.proofs.lemmas.Int.{ints}
use Rattle.rx_text.specs.TextPlace.{place_behind}
use Rattle.rx_text.specs.declared.place.Place.{Place}
use Rattle.geom.specs.declared.chip.Label.{Label}
use Rattle.geom.specs.declared.cif_code.CifCode.{CifCode}
use Rattle.geom.specs.Squares.{BoxShape}
use Rattle.geom.specs.CifCommands.{CifCommand, AreCifBlanks, SpellsCommand}
use Rattle.geom.specs.CifDrawings.{CifState, CommandLeads}
use Rattle.geom.specs.CifCodes.{MeetsCode, SomeIs, IsTooGreat}
use Rattle.geom.specs.CifRefusals.{CommandHere, DrawsFrom, front_with, stroke_boxes}
use Rattle.cif_write.proofs.CifNumbers.{IsWithin40}

-- none of the numbers is such
abbrev pub NoneIs : (ℤ → Type 0) → List ℤ → Type 0
NoneIs Is [] = Unit {0}
NoneIs Is (z ∷ zs) = (Is z → ⊥) × NoneIs Is zs

pub none_is : (Is : ℤ → Type 0) (zs : List ℤ) → NoneIs Is zs → SomeIs Is zs → ⊥
none_is Is [] none some = some
none_is Is (z ∷ zs) none (inl here) = none.0 here
none_is Is (z ∷ zs) none (inr later) = none_is Is zs none.1 later

pub not_great : (z : ℤ) → IsWithin40 z → IsTooGreat z → ⊥
not_great z near (inl above) = omega (arith, ints, above, near.to)
not_great z near (inr below) = omega (arith, ints, below, near.from)

-- From this state the rest, behind blanks, is read to its end, and draws these boxes and labels.
pub record Goes (s : CifState) (front rest : List ℕ) (boxes : List BoxShape) (labels : List Label) : Type 0 where
  pub last : CifState
  pub draws : DrawsFrom s front rest last
  pub boxes_are : stroke_boxes last.drawing.strokes ≡ stroke_boxes s.drawing.strokes ++ boxes
  pub labels_are : last.drawing.labels ≡ s.drawing.labels ++ labels

abbrev pub GoesBehind : CifState → List ℕ → List BoxShape → List Label → Type 0
GoesBehind s rest boxes labels = (front gap : List ℕ) → AreCifBlanks gap → Goes s front (gap ++ rest) boxes labels

-- a command that is read
pub record ReadsCommand (s : CifState) (c : CifCommand) (text : List ℕ) (next : Place → CifState) (boxes : List BoxShape) (labels : List Label) : Type 0 where
  pub spelled : SpellsCommand c text
  pub clear : (code : CifCode) → MeetsCode code s c → ⊥
  pub leads : (place : Place) → CommandLeads s place c (next place)
  pub boxes_are : (place : Place) → stroke_boxes (next place).drawing.strokes ≡ stroke_boxes s.drawing.strokes ++ boxes
  pub labels_are : (place : Place) → (next place).drawing.labels ≡ s.drawing.labels ++ labels

-- the command, the end of its line, and what is read behind it
pub step : {s : CifState} {c : CifCommand} {text : List ℕ} {next : Place
    → CifState} {xs : List BoxShape} {ls : List Label} (more : List ℕ) (boxes : List BoxShape) (labels : List Label)
    → ReadsCommand s c text next xs ls → ((place : Place) → GoesBehind (next place) more boxes labels)
    → GoesBehind s (text ++ (59 ∷ 10 ∷ more)) (xs ++ boxes) (ls ++ labels)
step {s} {c} {text} {next} {xs} {ls} more boxes labels reads behind front gap blanks =
    let place = place_behind (front ++ gap) in
    let here : CommandHere (gap ++ (text ++ (59 ∷ 10 ∷ more))) =
    record {
      gap = gap;
      bytes = text;
      behind = 10 ∷ more;
      is = sym (append_assoc gap text
          (59 ∷ 10 ∷ more));
      blanks = blanks;
      command = c;
      spelled = reads.spelled;
    } in
    let later = behind place (front_with front (gap ++ (text ++ (59 ∷ 10 ∷ more))) here) (10 ∷ []) refl in
    record {
      last = later.last;
      draws =
          DrawsFrom.command s (next place) later.last front (gap ++ (text ++ (59 ∷ 10 ∷ more)))
          (record { here = here; clear = reads.clear; leads = reads.leads place }) later.draws;
      boxes_are =
          later.boxes_are ∙ ap (λ l. l ++ boxes) (reads.boxes_are place) ∙ append_assoc (stroke_boxes s.drawing.strokes) xs boxes;
      labels_are = later.labels_are ∙ ap (λ l. l ++ labels) (reads.labels_are place) ∙ append_assoc s.drawing.labels ls labels;
    }

-- `E` and the end of its line
pub step_end : (s : CifState) → s.opening ≡ None → GoesBehind s (codes "E\n") [] []
step_end s outside front gap blanks = record {
  last = s;
  draws = DrawsFrom.end s front (gap ++ codes "E\n") gap (codes "\n") (sym (append_assoc gap (codes "E") (codes "\n"))) blanks refl (rw outside refl);
  boxes_are = sym (append-nil (stroke_boxes s.drawing.strokes));
  labels_are = sym (append-nil s.drawing.labels);
}
