-- Whatever is due, some bytes end the sentence.
use Rattle.std.proofs.Common.{◌≡◌, ◌≢◌, ℕ, zero, suc, false, List, [], ◌∷◌, ◌++◌, Some, None, codes, refl, sym, ◌∙◌}
use Rattle.geom.specs.CifRefusals.{IsSentence, BeginsSentence}
use Rattle.cif_syntax.specs.declared.slot.Slot.{Slot}
use Rattle.cif_syntax.specs.declared.slot.Slot.TheVariants.{Symbol, Times, Per, Called, FirstMove, SecondMove, Length, Width, CentreX, CentreY, DirectionX, DirectionY, Wire, PointX, PointY}
use Rattle.cif_syntax.specs.declared.due.Due.{Due}
use Rattle.cif_syntax.specs.declared.due.Due.TheVariants.{First, Definition, Comment, Closed, Text, Layer, OneByte, TwoBytes, ThreeBytes, FourBytes, Number, Sign, Digits, Gap, Moves, Mirror, Whole}
use Rattle.cif_syntax.specs.Kinds.{kind_of}
use Rattle.cif_syntax.specs.Machine.{step, along}
use Rattle.cif_syntax.proofs.Alongs.{along_then, along_push, front_leads}
use Rattle.cif_syntax.proofs.Accepting.{sentence_run}
use Rattle.cif_syntax.proofs.NumberSteps.{reads_sentence}

-- behind digits that are not all 0
abbrev end_digits : Slot → List ℕ
end_digits Symbol = codes ";"
end_digits Times = codes " 1;"
end_digits Per = codes ";"
end_digits Called = codes ";"
end_digits FirstMove = codes " 1;"
end_digits SecondMove = codes ";"
end_digits Length = codes " 1 1 1;"
end_digits Width = codes " 1 1;"
end_digits CentreX = codes " 1;"
end_digits CentreY = codes ";"
end_digits DirectionX = codes " 1;"
end_digits DirectionY = codes ";"
end_digits Wire = codes " 1 1;"
end_digits PointX = codes " 1;"
end_digits PointY = codes ";"

-- behind blanks
abbrev end_gap : Slot → List ℕ
end_gap Symbol = codes ";"
end_gap Times = codes "1;"
end_gap Per = codes ";"
end_gap Called = codes ";"
end_gap FirstMove = codes "1;"
end_gap SecondMove = codes ";"
end_gap Length = codes "1 1 1;"
end_gap Width = codes "1 1;"
end_gap CentreX = codes "1;"
end_gap CentreY = codes ";"
end_gap DirectionX = codes "1;"
end_gap DirectionY = codes ";"
end_gap Wire = codes "1 1;"
end_gap PointX = codes "1;"
end_gap PointY = codes ";"

abbrev close_all : ℕ → List ℕ
close_all zero = codes ");"
close_all (suc zero) = codes ");"
close_all (suc (suc n)) = 41 ∷ close_all (suc n)

abbrev finish : Due → List ℕ
finish First = codes ";"
finish Definition = codes "F;"
finish (Comment n) = close_all n
finish Closed = codes ";"
finish Text = codes ";"
finish Layer = codes "N;"
finish OneByte = codes ";"
finish TwoBytes = codes ";"
finish ThreeBytes = codes ";"
finish FourBytes = codes ";"
finish (Number slot) = 49 ∷ end_digits slot
finish (Sign slot) = 49 ∷ end_digits slot
finish (Digits slot all) = 49 ∷ end_digits slot
finish (Gap slot) = end_gap slot
finish Moves = codes ";"
finish Mirror = codes "X;"
finish Whole = []

digits_end : (slot : Slot) → along (Digits slot false) (end_digits slot) ≡ Some Whole
digits_end Symbol = refl
digits_end Times = refl
digits_end Per = refl
digits_end Called = refl
digits_end FirstMove = refl
digits_end SecondMove = refl
digits_end Length = refl
digits_end Width = refl
digits_end CentreX = refl
digits_end CentreY = refl
digits_end DirectionX = refl
digits_end DirectionY = refl
digits_end Wire = refl
digits_end PointX = refl
digits_end PointY = refl

gap_end : (slot : Slot) → along (Gap slot) (end_gap slot) ≡ Some Whole
gap_end Symbol = refl
gap_end Times = refl
gap_end Per = refl
gap_end Called = refl
gap_end FirstMove = refl
gap_end SecondMove = refl
gap_end Length = refl
gap_end Width = refl
gap_end CentreX = refl
gap_end CentreY = refl
gap_end DirectionX = refl
gap_end DirectionY = refl
gap_end Wire = refl
gap_end PointX = refl
gap_end PointY = refl

comment_end : (n : ℕ) → along (Comment n) (close_all n) ≡ Some Whole
comment_end zero = refl
comment_end (suc zero) = refl
comment_end (suc (suc n)) = comment_end (suc n)

finishes : (due : Due) → along due (finish due) ≡ Some Whole
finishes First = refl
finishes Definition = refl
finishes (Comment n) = comment_end n
finishes Closed = refl
finishes Text = refl
finishes Layer = refl
finishes OneByte = refl
finishes TwoBytes = refl
finishes ThreeBytes = refl
finishes FourBytes = refl
finishes (Number slot) = digits_end slot
finishes (Sign slot) = digits_end slot
finishes (Digits slot all) = digits_end slot
finishes (Gap slot) = gap_end slot
finishes Moves = refl
finishes Mirror = refl
finishes Whole = refl

-- what leads somewhere begins a sentence
pub begins : (front : List ℕ) (due : Due) → along First front ≡ Some due → BeginsSentence front
begins front due e = (finish due, reads_sentence (front ++ finish due) (along_then First due front (finish due) e ∙ finishes due))

pub stops : (front : List ℕ) (due : Due) (b : ℕ) → along First front ≡ Some due → step due (kind_of b) ≡ None → BeginsSentence (front ++ b ∷ []) → ⊥
stops front due b e s h =
    let f = front_leads First Whole (front ++ b ∷ []) h.0 (sentence_run ((front ++ b ∷ []) ++ h.0) h.1) in
    let z : None ≡ Some f.0 = sym s ∙ (sym (along_push First due front b e) ∙ f.1) in cc

pub unended : (front : List ℕ) (due : Due) → along First front ≡ Some due → due ≢ Whole → IsSentence front → ⊥
unended front due e n s = n (some_same (sym e ∙ sentence_run front s))
  where
    some_same : {U : Type 0} {u v : U} → Some u ≡ Some v → u ≡ v
    some_same h = cc
