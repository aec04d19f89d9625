-- What several steps of a writer gathered, one after another.
use Rattle.std.proofs.Common.{◌≡◌, ℕ, List, [], ◌++◌, Option, Result, Ok, Err, refl, sym, ap, ◌∙◌, subst, append_assoc, append-nil}
use Rattle.std.proofs.KnownBytes.{Appends-nil, Appends-trans}
use Rattle.std.specs.Prelude.{IsErr, OnErr, OnOk}
use Rattle.std.specs.Io.KnownBytes.{Appends}
use Rattle.rx_io.specs.Streams.{AppendsFront}
use Rattle.net_text.specs.Gathered.{Gathers, PutsBehind}

-- what holds anyway holds where all went well
pub on_ok : {A E P : Type 0} (result : Result A E) → P → OnOk result P
on_ok (Ok _) p = p
on_ok (Err _) p = tt

-- a front of the first piece was taken, and nothing of the second
pub AppendsFront-first : (a b : Option (List ℕ)) (first second : List ℕ) → AppendsFront a b first → AppendsFront a b (first ++ second)
AppendsFront-first a b first second taken = record {
  front = taken.front;
  rest = taken.rest ++ second;
  whole = ap (λ l. l ++ second) taken.whole ∙ append_assoc taken.front taken.rest second;
  appends = taken.appends;
}

-- the first piece was taken, and then a front of the second
AppendsFront-second : (a b c : Option (List ℕ)) (first second : List ℕ) → Appends a b first → AppendsFront b c second → AppendsFront a c (first ++ second)
AppendsFront-second a b c first second before taken = record {
  front = first ++ taken.front;
  rest = taken.rest;
  whole = ap (λ l. first ++ l) taken.whole ∙ sym (append_assoc first taken.front taken.rest);
  appends = Appends-trans a b c _ _ before taken.appends;
}

-- no text
pub Gathers-nil : (a : Option (List ℕ)) (p : List ℕ) → Gathers a a p p []
Gathers-nil a p = record { gained = []; appended = Appends-nil a; in_order = append-nil p }

-- two texts, one after the other
pub Gathers-trans : {a b c : Option (List ℕ)} {p q r t u : List ℕ} → Gathers a b p q t → Gathers b c q r u → Gathers a c p r (t ++ u)
Gathers-trans {a} {b} {c} {p} {q} {r} {t} {u} first second = record {
  gained = first.gained ++ second.gained;
  appended = Appends-trans a b c _ _ first.appended second.appended;
  in_order =
      sym (append_assoc p t u) ∙ ap (λ l. l ++ u) first.in_order ∙ append_assoc first.gained q u
      ∙ ap (λ l. first.gained ++ l) second.in_order ∙ sym (append_assoc first.gained second.gained r);
}

-- a first text is with the sink or waits, and a second one was not taken whole
pub AppendsFront-after : {a b c : Option (List ℕ)} {p q t : List ℕ} (u : List ℕ) → Gathers a b p q t → AppendsFront b c (q ++ u) → AppendsFront a c (p ++ (t ++ u))
AppendsFront-after {a} {b} {c} {p} {q} {t} u first second =
    let order : p ++ (t ++ u) ≡ first.gained ++ (q ++ u) =
    sym (append_assoc p t u) ∙ ap (λ l. l ++ u) first.in_order ∙ append_assoc first.gained q u in
    rw order (AppendsFront-second a b c first.gained (q ++ u) first.appended second)

-- a failure, at which the sink had gained a front
pub PutsBehind-err : {A E : Type 0} (result : Result A E) (a c : Option (List ℕ)) (p r t : List ℕ) → IsErr result → AppendsFront a c (p ++ t) → PutsBehind result a c p r t
PutsBehind-err (Ok x) a c p r t err h = cc
PutsBehind-err (Err e) a c p r t err h = h

-- a step that failed, with more text to come
pub PutsBehind-failed : {A E : Type 0} {a b : Option (List ℕ)} {p q t : List ℕ} (result : Result A E) (c : Option (List ℕ)) (r u more : List ℕ) → IsErr result
    → Gathers a b p q t → AppendsFront b c (q ++ u) → PutsBehind result a c p r (t ++ u ++ more)
PutsBehind-failed {a = a} {p = p} {t = t} result c r u more err first second =
    let front = AppendsFront-first a c _ more (AppendsFront-after u first second) in
    PutsBehind-err result a c p r (t ++ u ++ more) err (rw append_assoc at front)

-- the last step, whose answer is passed on
pub PutsBehind-last : {A E : Type 0} {a b : Option (List ℕ)} {p q t : List ℕ} (result : Result A E) (c : Option (List ℕ)) (r u : List ℕ) → Gathers a b p q t
    → PutsBehind result b c q r u → PutsBehind result a c p r (t ++ u)
PutsBehind-last (Ok x) c r u first second = Gathers-trans first second
PutsBehind-last (Err e) c r u first second = AppendsFront-after u first second

-- nothing waits any more, and the text is given at once
pub PutsBehind-through : {A E : Type 0} (result : Result A E) (a b c : Option (List ℕ)) (p r t : List ℕ) → Appends a b p → r ≡ [] → OnOk result (Appends b c t)
    → OnErr result (AppendsFront b c t) → PutsBehind result a c p r t
PutsBehind-through (Ok x) a b c p r t flushed none ok err =
    record { gained = p ++ t; appended = Appends-trans a b c p t flushed ok; in_order = rw (none, append-nil (p ++ t)) refl }
PutsBehind-through (Err e) a b c p r t flushed none ok err =
    let before : Gathers a b p [] [] = record { gained = p; appended = flushed; in_order = refl } in
    AppendsFront-after t before err

-- what waited at last is given too
pub PutsBehind-flushed : {A E : Type 0} {a b : Option (List ℕ)} {q t : List ℕ} (result : Result A E) (c : Option (List ℕ)) → Gathers a b [] q t
    → OnOk result (Appends b c q) → OnErr result (AppendsFront b c q) → OnOk result (Appends a c t) × OnErr result (AppendsFront a c t)
PutsBehind-flushed {a = a} {b = b} {q = q} {t = t} (Ok x) c before ok err =
    (subst (Appends a c) (sym before.in_order) (Appends-trans a b c _ _ before.appended ok), tt)
PutsBehind-flushed {a = a} {b = b} {q = q} {t = t} (Err e) c before ok err =
    let rest : AppendsFront b c (q ++ []) = rw append-nil err in
    (tt, rw append-nil at (AppendsFront-after [] before rest))
