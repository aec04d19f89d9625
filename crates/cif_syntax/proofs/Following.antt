-- A sentence is followed byte by byte.
use Rattle.std.proofs.Common.{◌≡◌, ◌≢◌, ℕ, ◌+◌, ◌-◌, ◌≤◌, ◌<◌, ◌==◌, Bool, true, false, cond, ◌&&◌, List, [], ◌∷◌, ◌++◌, length, take, drop, get_or, Some, refl, sym, ◌∙◌, ap, subst, arith}
use Rattle.std.specs.List.{list_all}
use Rattle.std.proofs.lemmas.List.{take_more, take-append-drop, drop-drop, get_or-drop, length-drop, length-take-le}
use Rattle.rx_text.specs.NumberInText.{is_digit}
use Rattle.cif_syntax.specs.declared.kind.Kind.{Kind}
use Rattle.cif_syntax.specs.declared.kind.Kind.TheVariants.{Zero}
use Rattle.cif_syntax.specs.declared.slot.Slot.{Slot}
use Rattle.cif_syntax.specs.declared.due.Due.{Due}
use Rattle.cif_syntax.specs.declared.due.Due.TheVariants.{First, Digits, Gap, Whole}
use Rattle.cif_syntax.specs.declared.sentence.Run.{Run}
use Rattle.cif_syntax.specs.Kinds.{kind_of}
use Rattle.cif_syntax.specs.Slots.{next_slot, is_scale}
use Rattle.cif_syntax.specs.Machine.{step, along, depth_of}
use Rattle.cif_syntax.specs.Ends.{between, EndsAt}
use Rattle.cif_syntax.specs.Runs.{then_run, is_in_number, is_whole, place_for}
use Rattle.cif_syntax.proofs.Bytes.{IsOfKind, of_kind}
use Rattle.cif_syntax.proofs.Alongs.{all_first, are_zeros, along_push, zero_digit}
use Rattle.cif_syntax.proofs.Accepting.{signed_plain}
use Rattle.cif_syntax.proofs.Stepping.{HasRead}
use Rattle.cif_syntax.proofs.NumberSteps.{reads_on, reads_sentence}
use Rattle.cif_syntax.proofs.ZeroStands.{ZeroFrom, from_digits, from_number, from_sign, from_gap, zero_from, depth_few}

-- ---- parts of a text

pub between_push : (text : List ℕ) (from at : ℕ) → from ≤ at → at < length text → between text from (at + 1) ≡ between text from at ++ get_or text at 0 ∷ []
between_push text from at o w =
    let e : at + 1 - from ≡ at - from + 1 = omega arith in
    let f : from + (at - from) ≡ at = omega arith in
    let n : at - from < length (drop from text) = omega (arith, length-drop from text) in
    let g : get_or (drop from text) (at - from) 0 ≡ get_or text at 0 = get_or-drop from text (at - from) 0 ∙ ap (λ (i : ℕ). get_or text i 0) f in
    ap (λ (i : ℕ). take i (drop from text)) e
    ∙ (take_more (drop from text) (at - from) 0 n ∙ ap (λ (b : ℕ). between text from at ++ b ∷ []) g)

pub rest_between : (text : List ℕ) (from at : ℕ) → from ≤ at → between text from at ++ drop at text ≡ drop from text
rest_between text from at o =
    let f : from + (at - from) ≡ at = omega arith in
    ap (λ (l : List ℕ). between text from at ++ l) (sym (drop-drop (at - from) from text ∙ ap (λ (i : ℕ). drop i text) f)) ∙ take-append-drop (at - from) (drop from text)

pub nothing_between : (text : List ℕ) (from : ℕ) → between text from from ≡ []
nothing_between text from = let e : from - from ≡ 0 = omega arith in ap (λ (i : ℕ). take i (drop from text)) e

-- ---- what is known on the way

-- a number of a scale began here, whose digits are all 0 so far
pub record NumberZero (text : List ℕ) (from begin at : ℕ) (s : Slot) : Type 0 where
  pub order : from ≤ begin
  pub less : begin < at
  pub before : Slot
  pub next : next_slot before ≡ Some s
  pub led : along First (between text from begin) ≡ Some (Gap before)
  pub digits : list_all is_digit (between text begin at) ≡ true
  pub zeros : are_zeros (between text begin at) ≡ true

pub record Followed (text : List ℕ) (from : ℕ) (run : Run) : Type 0 where
  pub order : from ≤ run.at
  pub within : run.at ≤ length text
  pub led : along First (between text from run.at) ≡ Some run.due
  pub zeros : (s : Slot) → run.due ≡ Digits s true → is_scale s ≡ true → NumberZero text from run.number run.at s

pub follow_start : (text : List ℕ) (from : ℕ) → from ≤ length text → Followed text from (record { due = First; at = from; number = from })
follow_start text from w = record { order = omega arith; within = w; led = ap (along First) (nothing_between text from); zeros = λ s e c. absurd cc }

list_push : (p : ℕ → Bool) (xs : List ℕ) (x : ℕ) → list_all p xs ≡ true → p x ≡ true → list_all p (xs ++ x ∷ []) ≡ true
list_push p [] x h e = ap (λ (v : Bool). v && true) e
list_push p (y ∷ ys) x h e = let f = all_first p y ys h in ap (λ (v : Bool). v && list_all p (ys ++ x ∷ [])) f.0 ∙ list_push p ys x f.1 e

zero_kind : (b : ℕ) → kind_of b ≡ Zero → (is_digit b ≡ true) × (b ≡ 48)
zero_kind b e = let P : Kind → Type 0 = λ k. IsOfKind k b in subst P e (of_kind b)

-- a zero more
zero_more : (text : List ℕ) (from begin at : ℕ) (s : Slot) → at < length text → kind_of (get_or text at 0) ≡ Zero → NumberZero text from begin at s
    → NumberZero text from begin (at + 1) s
zero_more text from begin at s w k z =
    let b = zero_kind (get_or text at 0) k in
    let e = between_push text begin at (omega (arith, z.less)) w in
    record {
      order = z.order;
      less = omega (arith, z.less);
      before = z.before;
      next = z.next;
      led = z.led;
      digits = ap (list_all is_digit) e ∙ list_push is_digit (between text begin at) (get_or text at 0) z.digits b.0;
      zeros = ap are_zeros e ∙ list_push (λ n. n == 48) (between text begin at) (get_or text at 0) z.zeros (zero_digit (get_or text at 0) b.1);
    }

-- the first zero
zero_first : (text : List ℕ) (from at : ℕ) (r s : Slot) → from ≤ at → at < length text → kind_of (get_or text at 0) ≡ Zero → next_slot r ≡ Some s
    → along First (between text from at) ≡ Some (Gap r) → NumberZero text from at (at + 1) s
zero_first text from at r s o w k n l =
    let b = zero_kind (get_or text at 0) k in
    let e : between text at (at + 1) ≡ get_or text at 0 ∷ [] =
    between_push text at at (omega arith) w ∙ ap (λ (l : List ℕ). l ++ get_or text at 0 ∷ []) (nothing_between text at) in
    record {
      order = o;
      less = omega arith;
      before = r;
      next = n;
      led = l;
      digits = ap (list_all is_digit) e ∙ ap (λ (v : Bool). v && true) b.0;
      zeros = ap are_zeros e ∙ ap (λ (v : Bool). v && true) (zero_digit (get_or text at 0) b.1);
    }

pub follow_more : (text : List ℕ) (from : ℕ) (run : Run) (next : Due) → run.at < length text → step run.due (kind_of (get_or text run.at 0)) ≡ Some next
    → Followed text from run → Followed text from (then_run run next)
follow_more text from run next w s f = record {
  order = omega (arith, f.order);
  within = omega arith;
  led = ap (along First) (between_push text from run.at f.order w) ∙ (along_push First run.due (between text from run.at) (get_or text run.at 0) f.led ∙ s);
  zeros = zeros;
}
  where
    read : HasRead run.due (between text from run.at)
    read = reads_on First run.due [] (between text from run.at) refl f.led

    zeros : (t : Slot) → next ≡ Digits t true → is_scale t ≡ true → NumberZero text from (cond (is_in_number run.due) run.number run.at) (run.at + 1) t
    zeros t e c =
        let z = zero_from t run.due (kind_of (get_or text run.at 0)) (s ∙ ap (λ (d : Due). Some d) e) in by z.0 z.1
      where
        by : kind_of (get_or text run.at 0) ≡ Zero → ZeroFrom t run.due → NumberZero text from (cond (is_in_number run.due) run.number run.at) (run.at + 1) t
        by k (from_digits d) =
            let P : Due → Type 0 = λ v. NumberZero text from (cond (is_in_number v) run.number run.at) (run.at + 1) t in
            subst P (sym d) (zero_more text from run.number run.at t w k (f.zeros t d c))
        by k (from_number d) =
            let P : Due → Type 0 = λ v. HasRead v (between text from run.at) in
            let z : true ≡ false = sym c ∙ (subst P d read).3 in absurd cc
        by k (from_sign d) =
            let P : Due → Type 0 = λ v. HasRead v (between text from run.at) in
            let z : true ≡ false = sym c ∙ signed_plain t (subst P d read).4 in absurd cc
        by k (from_gap r d n) =
            let P : Due → Type 0 = λ v. NumberZero text from (cond (is_in_number v) run.number run.at) (run.at + 1) t in
            subst P (sym d) (zero_first text from run.at r t f.order w k n (f.led ∙ ap (λ (v : Due). Some v) d))

pub depth_bound : (text : List ℕ) (from : ℕ) (run : Run) → Followed text from run → depth_of run.due ≤ run.at
depth_bound text from run f =
    let d = depth_few run.due (between text from run.at) (reads_on First run.due [] (between text from run.at) refl f.led) in
    let l : length (between text from run.at) ≡ run.at - from =
    length-take-le (run.at - from) (drop from text) (omega (arith, length-drop from text, f.within)) in
    omega (arith, d, l)

pub whole_due : (due : Due) → is_whole due ≡ true → due ≡ Whole
whole_due Whole h = refl
whole_due due h = absurd cc

pub not_whole : (due : Due) → is_whole due ≡ false → due ≢ Whole
not_whole Whole h e = let z : true ≡ false = h in cc
not_whole due h e = cc

-- ---- the end, and breaks

pub follow_end : (text : List ℕ) (from : ℕ) (run : Run) → Followed text from run → run.due ≡ Whole → EndsAt text from run.at
follow_end text from run f e = record {
  order = f.order;
  within = f.within;
  sentence = reads_sentence (between text from run.at) (f.led ∙ ap (λ (d : Due). Some d) e);
}

-- whether digits of a scale that are all 0 stand before
pub data FaultCase (due : Due) (begin at : ℕ) : Type 0 where
  zero_number : (s : Slot) → due ≡ Digits s true → is_scale s ≡ true → place_for due begin at ≡ begin → FaultCase due begin at
  other_byte : ((s : Slot) → is_scale s ≡ true → due ≡ Digits s true → ⊥) → place_for due begin at ≡ at → FaultCase due begin at

pub fault_case : (due : Due) (begin at : ℕ) → FaultCase due begin at
fault_case (Digits slot true) begin at = by (is_scale slot) refl
  where
    by : (t : Bool) → is_scale slot ≡ t → FaultCase (Digits slot true) begin at
    by true e = zero_number slot refl e (ap (λ (v : Bool). cond v begin at) e)
    by false e =
        other_byte (λ s c d. (let f : slot ≡ s = cc in let z : false ≡ true = sym e ∙ (ap is_scale f ∙ c) in cc)) (ap (λ (v : Bool). cond v begin at) e)
fault_case (Digits slot false) begin at = other_byte (λ s c d. cc) refl
fault_case due begin at = other_byte (λ s c d. cc) refl
