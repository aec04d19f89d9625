-- What several calls did together, one after another.
use Rattle.std.proofs.Common.{◌≡◌, ℕ, ◌+◌, ◌<◌, ◌≤◌, min, List, [], ◌++◌, Option, length, take, drop, sym, subst, ap, ◌∙◌, append_assoc, arith, length-append, length-drop}
use Rattle.std.proofs.lemmas.List.{drop-drop, length-take, nil_from_length, take-append-drop}
use Rattle.std.proofs.Math.Seq.{take-add}
use Rattle.std.proofs.KnownBytes.{Appends-kept, Appends-trans, Consumes-trans}
use Rattle.std.specs.Io.KnownBytes.{Appends, Consumes, Keeps}
use Rattle.rx_io.specs.Streams.{AppendsFront, LosesBeyond, LosesUpTo}

-- a write goes on behind the front of the piece that was taken before
pub Appends-take_more : (a b c : Option (List ℕ)) (piece : List ℕ) (taken count : ℕ) → Appends a b (take taken piece)
    → Appends b c (take count (drop taken piece)) → Appends a c (take (taken + count) piece)
Appends-take_more a b c piece taken count before now = subst (Appends a c) (sym (take-add taken count piece)) (Appends-trans a b c _ _ before now)

-- a write that failed leaves the front of the piece that was taken before
pub AppendsFront-take : (a b c : Option (List ℕ)) (piece : List ℕ) (taken : ℕ) → Appends a b (take taken piece) → Keeps b c → AppendsFront a c piece
AppendsFront-take a b c piece taken before kept = record {
  front = take taken piece;
  rest = drop taken piece;
  whole = sym (take-append-drop taken piece);
  appends = Appends-kept a b c _ before kept;
}

-- a front of the first piece was taken, and nothing of the second
pub AppendsFront-within_first : (a b : Option (List ℕ)) (first second : List ℕ) → AppendsFront a b first → AppendsFront a b (first ++ second)
AppendsFront-within_first a b first second taken = record {
  front = taken.front;
  rest = taken.rest ++ second;
  whole = ap (λ l. l ++ second) taken.whole ∙ append_assoc taken.front taken.rest second;
  appends = taken.appends;
}

-- the first piece was taken, and then a front of the second
pub AppendsFront-within_second : (a b c : Option (List ℕ)) (first second : List ℕ) → Appends a b first → AppendsFront b c second → AppendsFront a c (first ++ second)
AppendsFront-within_second a b c first second before taken = record {
  front = first ++ taken.front;
  rest = taken.rest;
  whole = ap (λ l. first ++ l) taken.whole ∙ sym (append_assoc first taken.front taken.rest);
  appends = Appends-trans a b c _ _ before taken.appends;
}

-- the read stays within the limit
pub LosesUpTo-more : (a b c : Option (List ℕ)) (before buffer : List ℕ) (count most : ℕ) → Consumes a b before → Consumes b c (take count buffer)
    → length before + count ≤ most → LosesUpTo a c most
LosesUpTo-more a b c before buffer count most lost now within = record {
  front = before ++ take count buffer;
  consumes = Consumes-trans a b c _ _ lost now;
  within = simp (length-append, length-take) (omega arith);
}

-- the read goes beyond the limit
pub LosesBeyond-more : (a b c : Option (List ℕ)) (before buffer : List ℕ) (count most more : ℕ) → Consumes a b before → Consumes b c (take count buffer)
    → length before ≤ most → most < length before + count → count ≤ length buffer → length buffer ≤ more → LosesBeyond a c most more
LosesBeyond-more a b c before buffer count most more lost now within beyond fits room = record {
  front = before ++ take count buffer;
  consumes = Consumes-trans a b c _ _ lost now;
  beyond = simp (length-append, length-take) (omega arith);
  within = simp (length-append, length-take) (omega arith);
}

-- what was left is what a read gave, and then what is left
pub drop-given : (bytes buffer : List ℕ) (given count : ℕ) → take count buffer ≡ take count (drop given bytes)
    → drop given bytes ≡ take count buffer ++ drop (given + count) bytes
drop-given bytes buffer given count same = rw (same, ← drop-drop count given bytes) (sym (take-append-drop count (drop given bytes)))

-- a read that gives nothing into a buffer with room leaves nothing
pub drop-at_end : (bytes buffer : List ℕ) (given count : ℕ) → count ≡ min (length buffer) (length (drop given bytes)) → count ≡ 0 → 0 < length buffer
    → drop (given + count) bytes ≡ []
drop-at_end bytes buffer given count given_is none room =
    nil_from_length _ (omega (arith, length-drop given bytes, length-drop (given + count) bytes))
