-- Texts cut at spaces.
use Rattle.std.proofs.Common.{◌≡◌, ◌⊎◌, inl, inr, ℕ, suc, ◌+◌, ◌-◌, ◌<◌, ◌≤◌, ◌==◌, Bool, true, false, cond, not, ◌&&◌, List, [], ◌∷◌, ◌++◌, filter, length, take, drop, get_or, refl, sym, ◌∙◌, ap, subst, arith}
use Rattle.std.specs.List.{list_all, prefix_len}
use Rattle.std.proofs.lemmas.Bool.{cases_Bool, cases_lt}
use Rattle.std.specs.Bool.{Decides}
use Rattle.std.proofs.lemmas.Bool.Decides.{Decides-eqb}
use Rattle.std.proofs.lemmas.List.{append-nil, take-append-drop, drop-drop, drop_more, drop_all, length-take, length-drop}
use Rattle.geom.specs.CifLabels.{label_words, cut_at_spaces, with_byte, has_bytes}
use Rattle.cif_labels.specs.Words.{is_inside_word, put_word}

-- the rest is empty, or a space stands first
abbrev pub Ended : List ℕ → Type 0
Ended [] = Unit {0}
Ended (b ∷ bs) = is_inside_word b ≡ false

first_two : (a b : Bool) → (a && b) ≡ true → (a ≡ true) × (b ≡ true)
first_two true b e = (refl, e)
first_two false b e = absurd cc

space_is : (b : ℕ) → is_inside_word b ≡ false → (b == 32) ≡ true
space_is b h = by (b == 32) h
  where
    by : (t : Bool) → not t ≡ false → t ≡ true
    by true e = refl
    by false e = absurd cc

no_space : (b : ℕ) → is_inside_word b ≡ true → (b == 32) ≡ false
no_space b h = by (b == 32) h
  where
    by : (t : Bool) → not t ≡ true → t ≡ false
    by true e = absurd cc
    by false e = refl

-- a space is passed over
pub space_more : (b : ℕ) (bs : List ℕ) → is_inside_word b ≡ false → label_words (b ∷ bs) ≡ label_words bs
space_more b bs h =
    ap (λ (v : Bool). filter has_bytes (cond v ([] ∷ cut_at_spaces bs) (with_byte b (cut_at_spaces bs)))) (space_is b h)

-- a word is cut off
word_cut : (w : List ℕ) → list_all is_inside_word w ≡ true → cut_at_spaces w ≡ w ∷ []
word_cut [] h = refl
word_cut (b ∷ bs) h =
    let f = first_two (is_inside_word b) (list_all is_inside_word bs) h in
    ap (λ (v : Bool). cond v ([] ∷ cut_at_spaces bs) (with_byte b (cut_at_spaces bs))) (no_space b f.0) ∙ ap (with_byte b) (word_cut bs f.1)

word_then : (w : List ℕ) (s : ℕ) (rest : List ℕ) → list_all is_inside_word w ≡ true → is_inside_word s ≡ false → cut_at_spaces (w ++ s ∷ rest) ≡ w ∷ cut_at_spaces rest
word_then [] s rest h e = ap (λ (v : Bool). cond v ([] ∷ cut_at_spaces rest) (with_byte s (cut_at_spaces rest))) (space_is s e)
word_then (b ∷ bs) s rest h e =
    let f = first_two (is_inside_word b) (list_all is_inside_word bs) h in
    ap (λ (v : Bool). cond v ([] ∷ cut_at_spaces (bs ++ s ∷ rest)) (with_byte b (cut_at_spaces (bs ++ s ∷ rest)))) (no_space b f.0)
    ∙ ap (with_byte b) (word_then bs s rest f.1 e)

word_first : (w rest : List ℕ) → list_all is_inside_word w ≡ true → Ended rest → (w ≡ [] → rest ≡ []) → label_words (w ++ rest) ≡ put_word w (label_words rest)
word_first [] rest h e n = ap label_words (n refl)
word_first (b ∷ bs) [] h e n = ap (filter has_bytes) (ap cut_at_spaces (append-nil (b ∷ bs)) ∙ word_cut (b ∷ bs) h)
word_first (b ∷ bs) (s ∷ rest) h e n =
    ap (filter has_bytes) (word_then (b ∷ bs) s rest h e) ∙ ap (λ (l : List (List ℕ)). (b ∷ bs) ∷ l) (sym (space_more s rest e))

-- the first byte, if there is one, fails the test
abbrev pub RunEnds : (ℕ → Bool) → List ℕ → Type 0
RunEnds p [] = Unit {0}
RunEnds p (b ∷ bs) = p b ≡ false

-- a run and what stands behind it
run_parts : (p : ℕ → Bool) (xs : List ℕ) → (list_all p (take (prefix_len p xs) xs) ≡ true) × RunEnds p (drop (prefix_len p xs) xs)
run_parts p [] = (refl, tt)
run_parts p (x ∷ xs) =
    elim (cases_Bool (p x)) [
      | inl good ↦ rw good (let e : 1 + prefix_len p xs ≡ suc (prefix_len p xs) = omega arith in rw e (more (p x) good (run_parts p xs)))
      | inr bad ↦ rw bad (refl, bad)
    ]
  where
    more : (t : Bool) → t ≡ true → (list_all p (take (prefix_len p xs) xs) ≡ true) × RunEnds p (drop (prefix_len p xs) xs)
        → ((t && list_all p (take (prefix_len p xs) xs)) ≡ true) × RunEnds p (drop (prefix_len p xs) xs)
    more t e r = (ap (λ (v : Bool). v && list_all p (take (prefix_len p xs) xs)) e ∙ r.0, r.1)

ended : (xs : List ℕ) → RunEnds is_inside_word xs → Ended xs
ended [] h = tt
ended (b ∷ bs) h = h

-- the first word from a place on, at which no space stands
pub word_at : (text : List ℕ) (from : ℕ) → (from < length text → is_inside_word (get_or text from 0) ≡ true)
    → label_words (drop from text)
    ≡ put_word (take (prefix_len is_inside_word (drop from text)) (drop from text)) (label_words (drop (from + prefix_len is_inside_word (drop from text)) text))
word_at text from h =
    let xs : List ℕ = drop from text in
    let k : ℕ = prefix_len is_inside_word xs in
    let r = run_parts is_inside_word xs in
    let w : take k xs ++ drop k xs ≡ xs = take-append-drop k xs in
    ap label_words (sym w)
    ∙ (word_first (take k xs) (drop k xs) r.0 (ended (drop k xs) r.1) (λ e. none (cases_lt from (length text)) e)
    ∙ ap (λ (l : List ℕ). put_word (take k xs) (label_words l)) (drop-drop k from text))
  where
    none : (from < length text) ⊎ (length text ≤ from) → take (prefix_len is_inside_word (drop from text)) (drop from text) ≡ []
        → drop (prefix_len is_inside_word (drop from text)) (drop from text) ≡ []
    none (inl l) e = absurd (some (drop from text) (get_or text from 0) (drop (from + 1) text) (drop_more text from 0 l) (h l) e)
      where
        some : (xs : List ℕ) (b : ℕ) (bs : List ℕ) → xs ≡ b ∷ bs → is_inside_word b ≡ true → take (prefix_len is_inside_word xs) xs ≡ [] → ⊥
        some xs b bs e i n =
            let P : List ℕ → Type 0 = λ l. take (prefix_len is_inside_word l) l ≡ [] in
            let f : take (cond (is_inside_word b) (1 + prefix_len is_inside_word bs) 0) (b ∷ bs) ≡ [] = subst P e n in
            let g : take (1 + prefix_len is_inside_word bs) (b ∷ bs) ≡ [] = ap (λ (v : Bool). take (cond v (1 + prefix_len is_inside_word bs) 0) (b ∷ bs)) (sym i) ∙ f in
            let k : 1 + prefix_len is_inside_word bs ≡ suc (prefix_len is_inside_word bs) = omega arith in
            let z : take (suc (prefix_len is_inside_word bs)) (b ∷ bs) ≡ [] = ap (λ (n : ℕ). take n (b ∷ bs)) (sym k) ∙ g in cc
    none (inr l) e =
        let f : drop from text ≡ [] = drop_all from text l in
        ap (λ (l : List ℕ). drop (prefix_len is_inside_word l) l) f

-- ---- places

-- a space is passed over
pub pass_space : (text : List ℕ) (from : ℕ) → from < length text → get_or text from 0 ≡ 32 → label_words (drop (from + 1) text) ≡ label_words (drop from text)
pass_space text from l e =
    let h : is_inside_word (get_or text from 0) ≡ false = ap is_inside_word e in
    sym (ap label_words (drop_more text from 0 l) ∙ space_more (get_or text from 0) (drop (from + 1) text) h)

-- any other byte is within a word
pub no_space_inside : (b : ℕ) → (b ≡ 32 → ⊥) → is_inside_word b ≡ true
no_space_inside b h = by (b == 32) (Decides-eqb b 32)
  where
    by : (t : Bool) → Decides t (b ≡ 32) → not t ≡ true
    by true d = absurd (h (d.0 refl))
    by false d = refl

pub word_there : (text : List ℕ) (from to : ℕ) → (from < length text → is_inside_word (get_or text from 0) ≡ true)
    → to ≡ from + prefix_len is_inside_word (drop from text) → label_words (drop from text) ≡ put_word (take (to - from) (drop from text)) (label_words (drop to text))
word_there text from to h e =
    let k : to - from ≡ prefix_len is_inside_word (drop from text) = omega (arith, e) in
    word_at text from h
    ∙ (ap (λ (n : ℕ). put_word (take n (drop from text)) (label_words (drop (from + prefix_len is_inside_word (drop from text)) text))) (sym k)
    ∙ ap (λ (n : ℕ). put_word (take (to - from) (drop from text)) (label_words (drop n text))) (sym e))

-- no word stands at the end alone
pub word_last : (text : List ℕ) (from to : ℕ) → from ≤ length text → (from < length text → is_inside_word (get_or text from 0) ≡ true)
    → to ≡ from + prefix_len is_inside_word (drop from text) → to ≤ length text → take (to - from) (drop from text) ≡ [] → to ≡ length text
word_last text from to w h e l n = elim (cases_lt from (length text)) [
  | inl s ↦ absurd (some s)
  | inr s ↦ omega (arith, e, l, s)
]
  where
    some : from < length text → ⊥
    some s =
        let k : prefix_len is_inside_word (drop from text) ≡ 1 + prefix_len is_inside_word (drop (from + 1) text) =
        ap (prefix_len is_inside_word) (drop_more text from 0 s)
        ∙ ap (λ (v : Bool). cond v (1 + prefix_len is_inside_word (drop (from + 1) text)) 0) (h s) in
        let a = length-take (to - from) (drop from text) in
        let b = length-drop from text in
        let z : length (take (to - from) (drop from text)) ≡ 0 = ap length n in
        omega (arith, k, a, b, z, e, s)
