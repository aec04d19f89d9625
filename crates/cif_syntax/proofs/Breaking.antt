-- Where a sentence that was followed breaks.
use Rattle.std.proofs.Common.{◌≡◌, ◌≢◌, ◌⊎◌, inl, inr, ℕ, ◌+◌, ◌-◌, ◌≤◌, ◌<◌, Bool, true, false, List, [], ◌∷◌, ◌++◌, length, take, drop, get_or, Some, None, refl, sym, ◌∙◌, ap, subst, arith}
use Rattle.std.proofs.lemmas.List.{append-nil, drop_more, take_rest, length-drop, length-take-le, drop_all}
use Rattle.rx_text.specs.NumberInText.{is_digit}
use Rattle.geom.specs.CifRefusals.{ScaleIsZero}
use Rattle.cif_syntax.specs.declared.slot.Slot.{Slot}
use Rattle.cif_syntax.specs.declared.due.Due.{Due}
use Rattle.cif_syntax.specs.declared.due.Due.TheVariants.{First, Digits, Gap, Whole}
use Rattle.cif_syntax.specs.declared.sentence.Run.{Run}
use Rattle.cif_syntax.specs.Kinds.{kind_of}
use Rattle.cif_syntax.specs.Slots.{is_scale}
use Rattle.cif_syntax.specs.Machine.{step, along}
use Rattle.cif_syntax.specs.Ends.{between, BreaksAt}
use Rattle.cif_syntax.specs.Runs.{fault_place}
use Rattle.cif_syntax.proofs.Bytes.{digit_kind}
use Rattle.cif_syntax.proofs.Finishing.{begins, stops, unended}
use Rattle.cif_syntax.proofs.Zeros.{no_zero_before}
use Rattle.cif_syntax.proofs.ZeroStands.{NoDigit, zero_stands}
use Rattle.cif_syntax.proofs.Following.{Followed, NumberZero, FaultCase, zero_number, other_byte, fault_case, rest_between}

no_digit_stop : (s : Slot) (b : ℕ) → step (Digits s true) (kind_of b) ≡ None → is_digit b ≡ false
no_digit_stop s b e = by (is_digit b) refl
  where
    by : (t : Bool) → is_digit b ≡ t → t ≡ false
    by true d =
        elim (digit_kind b d) [
          | inl k ↦ absurd (let z : Some (Digits s true) ≡ None = sym (ap (step (Digits s true)) k.0) ∙ e in cc)
          | inr k ↦ absurd (let z : Some (Digits s false) ≡ None = sym (ap (step (Digits s true)) k.0) ∙ e in cc)
        ]
    by false d = refl

-- no digit stands at the place, or the text ends there
at_stop : (text : List ℕ) (at : ℕ) → ((at < length text) × (is_digit (get_or text at 0) ≡ false)) ⊎ (length text ≤ at) → NoDigit (drop at text)
at_stop text at (inl (w, d)) = let P : List ℕ → Type 0 = λ l. NoDigit l in subst P (sym (drop_more text at 0 w)) d
at_stop text at (inr past) = let P : List ℕ → Type 0 = λ l. NoDigit l in subst P (sym (drop_all at text past)) tt

at_place : (text : List ℕ) (from place at : ℕ) → place ≡ at → BreaksAt text from at → BreaksAt text from place
at_place text from place at e b = let P : ℕ → Type 0 = λ p. BreaksAt text from p in subst P (sym e) b

-- the number of a scale is 0
zero_breaks : (text : List ℕ) (from begin at : ℕ) (s : Slot) → at ≤ length text → is_scale s ≡ true → NumberZero text from begin at s → NoDigit (drop at text)
    → BreaksAt text from begin
zero_breaks text from begin at s within c z n = record {
  order = z.order;
  within = omega (arith, z.less);
  how = inl (
    omega (arith, z.less),
    record {
      breaks = inr (let P : List ℕ → Type 0 = λ l. ScaleIsZero (between text from begin) l in
          subst P (rest_between text begin at (omega (arith, z.less)))
          (zero_stands (between text from begin) z.before s (between text begin at) (drop at text) z.led z.next c some z.digits z.zeros n));
      first = no_zero_before (between text from begin) (drop begin text) (Gap z.before) z.led (λ t d e. cc);
    },
  );
}
  where
    some : between text begin at ≢ []
    some e =
        let l : length (between text begin at) ≡ 0 = ap length e in
        let k : length (between text begin at) ≡ at - begin = length-take-le (at - begin) (drop begin text) (omega (arith, length-drop begin text, z.less)) in
        omega (arith, l, k, z.less)

-- the byte at the place continues nothing
pub byte_breaks : (text : List ℕ) (from : ℕ) (run : Run) → run.at < length text → run.due ≢ Whole → step run.due (kind_of (get_or text run.at 0)) ≡ None
    → Followed text from run → BreaksAt text from (fault_place run)
byte_breaks text from run w unwhole stop f = by (fault_case run.due run.number run.at)
  where
    by : FaultCase run.due run.number run.at → BreaksAt text from (fault_place run)
    by (zero_number s d c e) =
        let P : Due → Type 0 = λ v. step v (kind_of (get_or text run.at 0)) ≡ None in
        at_place text from (fault_place run) run.number e
        (zero_breaks text from run.number run.at s f.within c (f.zeros s d c)
        (at_stop text run.at (inl (w, no_digit_stop s (get_or text run.at 0) (subst P d stop)))))
    by (other_byte n e) =
        at_place text from (fault_place run) run.at e (record {
          order = f.order;
          within = f.within;
          how = inl (
            w,
            record {
              breaks = inl (record {
                byte = get_or text run.at 0;
                others = drop (run.at + 1) text;
                next = drop_more text run.at 0 w;
                begins = begins (between text from run.at) run.due f.led;
                open_yet = unended (between text from run.at) run.due f.led unwhole;
                stops = stops (between text from run.at) run.due (get_or text run.at 0) f.led stop;
              });
              first = no_zero_before (between text from run.at) (drop run.at text) run.due f.led n;
            },
          );
        })

-- the text ends within the sentence
pub end_breaks : (text : List ℕ) (from : ℕ) (run : Run) → run.at ≡ length text → run.due ≢ Whole → Followed text from run → BreaksAt text from (fault_place run)
end_breaks text from run past unwhole f = by (fault_case run.due run.number run.at)
  where
    whole : between text from run.at ≡ drop from text
    whole = ap (λ (n : ℕ). take (n - from) (drop from text)) past ∙ take_rest text from

    led : along First (drop from text) ≡ Some run.due
    led = ap (along First) (sym whole) ∙ f.led

    no_more : (before : List ℕ) (byte : ℕ) (others : List ℕ) → ScaleIsZero before (byte ∷ others) → ScaleIsZero before (byte ∷ (others ++ []))
    no_more before byte others z = let P : List ℕ → Type 0 = λ l. ScaleIsZero before (byte ∷ l) in subst P (sym (append-nil others)) z

    by : FaultCase run.due run.number run.at → BreaksAt text from (fault_place run)
    by (zero_number s d c e) =
        at_place text from (fault_place run) run.number e
        (zero_breaks text from run.number run.at s f.within c (f.zeros s d c) (at_stop text run.at (inr (omega (arith, past)))))
    by (other_byte n e) =
        at_place text from (fault_place run) run.at e (record {
          order = f.order;
          within = f.within;
          how = inr (
            past,
            record {
              begins = begins (drop from text) run.due led;
              open_yet = unended (drop from text) run.due led unwhole;
              unbroken = λ before byte others is z. no_zero_before (drop from text) [] run.due led n before byte others is (no_more before byte others z);
            },
          );
        })
