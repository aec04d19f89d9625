-- The head of a network text, and its faults there.
use Rattle.std.proofs.Common.{◌≡◌, ℕ, ◌+◌, ◌<◌, nat_lt, Bool, true, false, List, [], ◌∷◌, ◌++◌, take, drop, length, refl, sym, ap, ◌∙◌, subst, append_assoc, append-nil, arith}
use Rattle.std.specs.Prelude.{MatchResult, codes}
use Rattle.std.proofs.lemmas.Bool.{ltb-true, ltb-false}
use Rattle.std.proofs.lemmas.List.{length-take-le, take-append-drop}
use Rattle.net_text.specs.Shape.{IsNumeral, DeviceLines, PadLines, Shape, Shaped, head, front_number}
use Rattle.net_text.specs.NetRefusals.{NoCodeWithin, NetCodeStands}
use Rattle.net_text.specs.Reading.{agreeing, word_at, number_due}
use Rattle.net_text.specs.Stages.{IsNumeralBelow, InRange, Part, Stage, DueAt, LinesDue}
use Rattle.net_text.specs.declared.net_fault.NetCode.TheVariants.{N1, N2, N5}
use Rattle.net_text.proofs.Advancing.{advance, restage}
use Rattle.net_text.proofs.Agreeing.{agree_take, agree_within, agree_whole}
use Rattle.net_text.proofs.Cuts.{cancel, no_longer}
use Rattle.net_text.proofs.NoWord.{word_stop}
use Rattle.net_text.proofs.NumbersRead.{NumberRead, number_read}
use Rattle.net_text.proofs.Placed.{Moved, moved, Stopped, stopped}

-- some text of the shape
some_text : Shaped (head ++ 48 ∷ codes "\nend\n")
some_text = record {
  count = 48 ∷ [];
  more = codes "end\n";
  is = refl;
  counted = (refl, refl, λ e. refl);
  lines = PadLines.devices (codes "end\n") (DeviceLines.end (codes "end\n") refl);
}

-- nothing was read
start : (nets : ℕ) (text : List ℕ) → Stage nets [] text Shaped (InRange nets)
start nets text = record { to = λ tail s. s; back = λ tail s. s; ranged = λ tail s. s; tail = head ++ 48 ∷ codes "\nend\n"; some = some_text; clear = clear }
  where
    clear : NoCodeWithin [] text
    clear code [] byte others e s = cc
    clear code (x ∷ before) byte others e s = cc

-- what is due behind the word of the head
abbrev pub CountDue : (List ℕ → Type 0) → (List ℕ → Type 0) → List ℕ → Type 0
CountDue IsCount IsNumber = Part IsCount 10 (PadLines IsNumber)

module _ (Count Number : List ℕ → Type 0) where
  to_count : (tail : List ℕ) → Shape Count Number (head ++ tail) → CountDue Count Number tail
  to_count tail s = record {
    part = s.count;
    behind = s.more;
    is = cancel head tail (s.count ++ 10 ∷ s.more) (simp append_assoc at s.is);
    fits = s.counted;
    more = s.lines;
  }

  of_count : (tail : List ℕ) → CountDue Count Number tail → Shape Count Number (head ++ tail)
  of_count tail k = record {
    count = k.part;
    more = k.behind;
    is = ap (λ l. head ++ l) k.is ∙ whole k.part k.behind;
    counted = k.fits;
    lines = k.more;
  }
    where
      whole : (count more : List ℕ) → head ++ (count ++ 10 ∷ more) ≡ head ++ count ++ codes "\n" ++ more
      whole count more = simp append_assoc refl

  begins_with_head : (text : List ℕ) → Shape Count Number text → (behind : List ℕ) × (text ≡ head ++ behind)
  begins_with_head text s = (s.count ++ 10 ∷ s.more, simp append_assoc at s.is)

-- What stands behind the word of the head.
pub record HeadRead (nets : ℕ) (text : List ℕ) (next : ℕ) : Type 0 where
  pub moved : Moved text 0 next head
  pub stage : Stage nets (take next text) (drop next text) (CountDue IsNumeral IsNumeral) (CountDue (IsNumeralBelow 16777217) (IsNumeralBelow nets))

-- the head is no front of itself
no_front : (more : List ℕ) (c : ℕ) (ys : List ℕ) → head ≡ head ++ (more ++ c ∷ ys) → ⊥
no_front [] c ys e = no_longer head c ys e
no_front (x ∷ more) c ys e = no_longer head x (more ++ c ∷ ys) e

-- no number stands in the head
no_two : (xs : List ℕ) (c : ℕ) (ys rest : List ℕ) → head ≡ xs ++ c ∷ ys → NetCodeStands N2 xs rest → ⊥
no_two xs c ys rest e s =
    let (more, f, some, large) = s.1 in
    no_front more c ys (e ∙ ap (λ l. l ++ c ∷ ys) f ∙ append_assoc head more (c ∷ ys))

no_five : (xs : List ℕ) (c : ℕ) (ys rest : List ℕ) → head ≡ xs ++ c ∷ ys → NetCodeStands N5 xs rest → ⊥
no_five xs c ys rest e s = no_longer head c ys (e ∙ ap (λ l. l ++ c ∷ ys) s.1)

module _ (nets : ℕ) (text : List ℕ) where
  -- the word of the head stands there
  head_found : agreeing head text ≡ length head → HeadRead nets text (length head)
  head_found whole =
      let behind = drop (length head) text in
      let cut : text ≡ head ++ behind = agree_whole head text whole in
      let (there, rest_is) = moved text 0 head behind (omega arith) cut in
      let stage = restage nets head behind
      (advance nets [] behind head Shaped (InRange nets) (rw cut at (start nets text)) (48 ∷ codes "\nend\n") some_text
      (λ xs c ys e s. let (more, f) = begins_with_head IsNumeral IsNumeral xs s in
      no_front more c ys (e ∙ ap (λ l. l ++ c ∷ ys) f ∙ append_assoc head more (c ∷ ys)))
      (λ xs c ys e s. no_two xs c ys (c ∷ ys ++ behind) e s) (λ xs c ys e s. no_five xs c ys (c ∷ ys ++ behind) e s))
      (λ tail s. to_count IsNumeral IsNumeral tail s) (λ tail k. of_count IsNumeral IsNumeral tail k)
      (λ tail s. to_count (IsNumeralBelow 16777217) (IsNumeralBelow nets) tail s) in
      record { moved = there; stage = rw (there.front, rest_is) stage }

  -- it does not
  head_missing : agreeing head text < length head → Stopped nets text (record { code = N1; at = 0 + agreeing head text })
  head_missing part =
      let count = agreeing head text in
      let w = take count text in
      let cut : w ++ drop count text ≡ text = take-append-drop count text in
      let size : length w ≡ count = length-take-le count text (agree_within head text).1 in
      let word : head ≡ w ++ drop count head = sym (take-append-drop count head) ∙ ap (λ l. l ++ drop count head) (sym (agree_take head text)) in
      let goes_on : Shaped (w ++ (drop count head ++ 48 ∷ codes "\nend\n")) =
      subst Shaped (ap (λ l. l ++ 48 ∷ codes "\nend\n") word ∙ append_assoc w (drop count head) (48 ∷ codes "\nend\n")) some_text in
      let stops =
      word_stop nets [] w (drop count text) (rw (← cut) at (start nets text)) (λ v. v ≡ head)
      (λ t s. let (more, f) = begins_with_head IsNumeral IsNumeral t s in (head, more, refl, f))
      (λ v is whole. let all : agreeing head text ≡ length head = rw (cut, is) at whole in omega (arith, all, part))
      (λ v is. rw (cut, is, size) (omega arith))
      (λ xs c ys e s. no_two xs c (ys ++ drop count head) (c ∷ ys ++ drop count text) (longer xs c ys (drop count head) word e) s)
      (λ xs c ys e s. no_five xs c (ys ++ drop count head) (c ∷ ys ++ drop count text) (longer xs c ys (drop count head) word e) s)
      (drop count head ++ 48 ∷ codes "\nend\n") goes_on in
      rw size at (stopped nets text 0 w (drop count text) N1 (omega arith) (sym cut) stops)
    where
      longer : (xs : List ℕ) (c : ℕ) (ys more : List ℕ) {w : List ℕ} → head ≡ w ++ more → w ≡ xs ++ c ∷ ys → head ≡ xs ++ c ∷ (ys ++ more)
      longer xs c ys more e f = e ∙ ap (λ l. l ++ more) f ∙ append_assoc xs (c ∷ ys) more

  -- the word of the head
  pub head_read : MatchResult (word_at head 0 text) (HeadRead nets text) (Stopped nets text)
  head_read = by_test (nat_lt (agreeing head text) (length head)) refl
    where
      by_test : (b : Bool) → nat_lt (agreeing head text) (length head) ≡ b → MatchResult (word_at head 0 text) (HeadRead nets text) (Stopped nets text)
      by_test true t = rw t (head_missing (ltb-true _ _ t))
      by_test false t =
          let least = ltb-false _ _ t in
          let whole : agreeing head text ≡ length head = omega (arith, (agree_within head text).0, least) in
          let at_is : 0 + agreeing head text ≡ length head = omega (arith, whole) in
          rw (t, at_is) (head_found whole)

  -- the number of nets, and the line feed
  pub count_read : (at : ℕ) → HeadRead nets text at
      → MatchResult (number_due 16777217 N5 (10 ∷ []) at text) (NumberRead nets text at (PadLines IsNumeral) (PadLines (IsNumeralBelow nets))) (Stopped nets text)
  count_read at h =
      number_read nets 16777217 10 N5 refl text at h.moved.within (codes "rxnet 1\nnets", h.moved.front)
      (λ n large. (n, h.moved.front, omega (arith, large)))
      (λ small s. (let (more, e, some, large) = s.1 in some (sym (cancel head [] more (append-nil head ∙ sym h.moved.front ∙ e)))))
      (λ small s. omega (arith, small, s.2)) h.stage

  -- what is due behind it, where it was read
  pub lines_due : (at next : ℕ) → HeadRead nets text at → NumberRead nets text at (PadLines IsNumeral) (PadLines (IsNumeralBelow nets)) (nets, next)
      → DueAt nets text next (LinesDue true)
  lines_due at next h n = record {
    stage = n.stage;
    more = n.bytes;
    behind_head = n.moved.front ∙ ap (λ l. l ++ n.bytes) h.moved.front;
    counted = n.some;
    count = ap front_number (sym n.moved.rest) ∙ sym n.value;
  }
