-- Bytes between places of a text, and runs at their front.
use Rattle.std.proofs.Common.{◌≡◌, ℕ, ◌+◌, ◌-◌, ◌≤◌, ◌<◌, Bool, true, false, cond, List, [], ◌∷◌, ◌++◌, length, take, drop, get_or, refl, sym, ◌∙◌, ap, arith}
use Rattle.std.specs.List.{list_all, prefix_len}
use Rattle.std.proofs.lemmas.List.Sums.{prefix_len-drop_yes, prefix_len-drop_no, prefix_len-drop_all}
use Rattle.std.proofs.lemmas.List.{take_more, get_or-drop, take-append-drop, drop-drop, drop-take, take-take, take_at, drop_at, drop_more, length-drop, length-take-le, length-append}
use Rattle.cif_syntax.specs.Ends.{between}
use Rattle.cif_values.proofs.Bytes.{all_first}

pub rest_between : (text : List ℕ) (from at : ℕ) → from ≤ at → between text from at ++ drop at text ≡ drop from text
rest_between text from at o =
    let f : from + (at - from) ≡ at = omega arith in
    ap (λ (l : List ℕ). between text from at ++ l) (sym (drop-drop (at - from) from text ∙ ap (λ (i : ℕ). drop i text) f)) ∙ take-append-drop (at - from) (drop from text)

pub length_between : (text : List ℕ) (from at : ℕ) → from ≤ at → at ≤ length text → length (between text from at) ≡ at - from
length_between text from at o w = length-take-le (at - from) (drop from text) (omega (arith, length-drop from text))

-- the bytes between two places, cut behind the first of them
pub record Cut (text : List ℕ) (at stop : ℕ) (front rest : List ℕ) : Type 0 where
  pub order : at + length front ≤ stop
  pub first : between text at (at + length front) ≡ front
  pub second : between text (at + length front) stop ≡ rest

pub cut_at : (text : List ℕ) (at stop : ℕ) (front rest : List ℕ) → at ≤ stop → stop ≤ length text → between text at stop ≡ front ++ rest → Cut text at stop front rest
cut_at text at stop front rest o w e =
    let k : length (between text at stop) ≡ length front + length rest = ap length e ∙ length-append front rest in
    let l : length (between text at stop) ≡ stop - at = length_between text at stop o w in
    let d : length front + (stop - (at + length front)) ≡ stop - at = omega (arith, k, l) in
    let b : at + length front - at ≡ length front = omega arith in
    let whole : take (stop - at) (drop at text) ≡ front ++ rest = e in
    let f : take (length front) (drop at text) ≡ front =
    sym (take-take (length front) (stop - at) (drop at text) (omega (arith, k, l))) ∙ (ap (take (length front)) whole ∙ take_at front rest (length front) refl) in
    let s : take (stop - (at + length front)) (drop (length front) (drop at text)) ≡ rest =
    sym (drop-take (length front) (stop - (at + length front)) (drop at text))
    ∙ (ap (λ (n : ℕ). drop (length front) (take n (drop at text))) d ∙ (ap (drop (length front)) whole ∙ drop_at front rest (length front) refl)) in
    record {
      order = omega (arith, k, l);
      first = ap (λ (n : ℕ). take n (drop at text)) b ∙ f;
      second = ap (take (stop - (at + length front))) (sym (drop-drop (length front) at text)) ∙ s;
    }

-- the first byte, if there is one, fails the test
abbrev pub Fails : (ℕ → Bool) → List ℕ → Type 0
Fails p [] = Unit {0}
Fails p (b ∷ bs) = p b ≡ false

-- a run ends before a byte that fails
pub run_exact : (p : ℕ → Bool) (word rest : List ℕ) → list_all p word ≡ true → Fails p rest → prefix_len p (word ++ rest) ≡ length word
run_exact p [] [] h f = refl
run_exact p [] (b ∷ bs) h f = ap (λ (v : Bool). cond v (1 + prefix_len p bs) 0) f
run_exact p (w ∷ ws) rest h f =
    let a = all_first p w ws h in
    let r : prefix_len p (ws ++ rest) ≡ length ws = run_exact p ws rest a.1 f in
    ap (λ (v : Bool). cond v (1 + prefix_len p (ws ++ rest)) 0) a.0 ∙ omega (arith, r)

-- the byte at a place of the text, and what stands behind it
pub drop_first : (text : List ℕ) (at : ℕ) → at < length text → drop at text ≡ get_or text at 0 ∷ drop (at + 1) text
drop_first text at w = drop_more text at 0 w

-- ---- runs byte by byte

pub run_more : (p : ℕ → Bool) (text : List ℕ) (at : ℕ) → at < length text → p (get_or text at 0) ≡ true
    → at + 1 + prefix_len p (drop (at + 1) text) ≡ at + prefix_len p (drop at text)
run_more p text at w h = let e = prefix_len-drop_yes p text at 0 w h in omega (arith, e)

pub run_stop : (p : ℕ → Bool) (text : List ℕ) (at : ℕ) → at < length text → p (get_or text at 0) ≡ false → at + prefix_len p (drop at text) ≡ at
run_stop p text at w h = let e = prefix_len-drop_no p text at 0 w h in omega (arith, e)

pub run_past : (p : ℕ → Bool) (text : List ℕ) (at : ℕ) → length text ≤ at → at + prefix_len p (drop at text) ≡ at
run_past p text at w = let e = prefix_len-drop_all p text at w in omega (arith, e)

-- one byte more
pub between_push : (text : List ℕ) (from at : ℕ) → from ≤ at → at < length text → between text from (at + 1) ≡ between text from at ++ get_or text at 0 ∷ []
between_push text from at o w =
    let e : at + 1 - from ≡ at - from + 1 = omega arith in
    let f : from + (at - from) ≡ at = omega arith in
    let n : at - from < length (drop from text) = omega (arith, length-drop from text) in
    let g : get_or (drop from text) (at - from) 0 ≡ get_or text at 0 = get_or-drop from text (at - from) 0 ∙ ap (λ (i : ℕ). get_or text i 0) f in
    ap (λ (i : ℕ). take i (drop from text)) e
    ∙ (take_more (drop from text) (at - from) 0 n ∙ ap (λ (b : ℕ). between text from at ++ b ∷ []) g)

pub nothing_between : (text : List ℕ) (from : ℕ) → between text from from ≡ []
nothing_between text from = let e : from - from ≡ 0 = omega arith in ap (λ (i : ℕ). take i (drop from text)) e
