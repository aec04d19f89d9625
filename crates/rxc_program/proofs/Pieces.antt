-- What a sink takes, piece by piece.
use Rattle.std.proofs.Common.{◌≡◌, ℕ, List, ◌∷◌, ◌++◌, flat_map, Option, Result, Ok, Err, OnOk, OnErr, IsErr, codes, append_assoc, ap, sym, ◌∙◌, length, take, drop, drop-cons, get_or, suc, ◌<◌, subst}
use Rattle.std.proofs.lemmas.List.{take-append-drop}
use Rattle.std.proofs.lemmas.Grind.{flat_map-append}
use Rattle.std.proofs.KnownBytes.{Appends-trans}
use Rattle.std.specs.Io.KnownBytes.{Appends}
use Rattle.rx_io.specs.Streams.{AppendsFront}
use Rattle.rxc_program.specs.Pieces.{TakesText}

-- a first piece was taken, and then a front of a second one, with more behind it
AppendsFront-second : (a b c : Option (List ℕ)) (first second more : List ℕ) → Appends a b first → AppendsFront b c second
    → AppendsFront a c (first ++ (second ++ more))
AppendsFront-second a b c first second more before taken = record {
  front = first ++ taken.front;
  rest = taken.rest ++ more;
  whole =
      ap (λ l. first ++ (l ++ more)) taken.whole ∙ ap (λ l. first ++ l) (append_assoc taken.front taken.rest more)
      ∙ sym (append_assoc first taken.front (taken.rest ++ more));
  appends = Appends-trans a b c _ _ before taken.appends;
}

-- the two answers of a write as one fact
pub TakesText-cases : {E : Type 0} (result : Result Unit E) (a b : Option (List ℕ)) (text : List ℕ)
    → OnOk result (Appends a b text) → OnErr result (AppendsFront a b text) → TakesText result a b text
TakesText-cases (Ok done) a b text ok err = ok
TakesText-cases (Err e) a b text ok err = err

-- the same text in another form
pub TakesText-same : {E : Type 0} (result : Result Unit E) (a b : Option (List ℕ)) (text other : List ℕ)
    → text ≡ other → TakesText result a b text → TakesText result a b other
TakesText-same result a b text other same h = subst (TakesText result a b) same h

-- the pieces before number i, and then a front of piece i
pub AppendsFront-at : {X : Type 0} (f : X → List ℕ) (a b c : Option (List ℕ)) (pieces : List X) (i : ℕ) (none : X) → i < length pieces
    → Appends a b (flat_map f (take i pieces)) → AppendsFront b c (f (get_or pieces i none)) → AppendsFront a c (flat_map f pieces)
AppendsFront-at f a b c pieces i none within took front =
    let parts : take i pieces ++ (get_or pieces i none ∷ drop (suc i) pieces) ≡ pieces =
    rw (← drop-cons pieces i none within) (take-append-drop i pieces) in
    subst (λ all. AppendsFront a c (flat_map f all)) parts
    (rw (flat_map-append f (take i pieces) (get_or pieces i none ∷ drop (suc i) pieces))
    (AppendsFront-second a b c _ (f (get_or pieces i none)) _ took front))

-- a failed write took a front
pub TakesText-failed : {E : Type 0} (result : Result Unit E) (a b : Option (List ℕ)) (text : List ℕ)
    → IsErr result → AppendsFront a b text → TakesText result a b text
TakesText-failed (Ok done) a b text failed front = cc
TakesText-failed (Err e) a b text failed front = front

pieces_regrouped : (a b c d e f g : List ℕ) → a ++ (b ++ (c ++ (d ++ (e ++ (f ++ g))))) ≡ a ++ b ++ (c ++ d ++ (e ++ f)) ++ g
pieces_regrouped a b c d e f g = simp append_assoc

-- the line of a refusal at a square, made of its pieces
pub square_pieces : (code name x first y second : List ℕ) → code ≡ name → x ≡ first → y ≡ second
    → codes "rxc: " ++ (code ++ (codes " at square " ++ (x ++ (codes "," ++ (y ++ codes "\n")))))
    ≡ codes "rxc: " ++ name ++ (codes " at square " ++ first ++ (44 ∷ second)) ++ codes "\n"
square_pieces code name x first y second is_name is_first is_second =
    rw (is_name, is_first, is_second) (pieces_regrouped (codes "rxc: ") name (codes " at square ") first (codes ",") second (codes "\n"))
