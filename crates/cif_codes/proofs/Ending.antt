-- The end of a text.
use Rattle.std.proofs.Common.{◌≡◌, ◌⊎◌, inl, inr, ℕ, suc, ◌+◌, ◌-◌, ◌≤◌, ◌<◌, Bool, true, false, cond, ◌&&◌, List, [], ◌∷◌, ◌++◌, length, take, drop, get_or, codes, IsSome, IsNone, is_some, refl, sym, ◌∙◌, ap, subst, append_assoc, arith, length-append, length-take, length-drop}
use Rattle.std.specs.Bool.{Decides}
use Rattle.std.specs.List.{list_all, prefix_len}
use Rattle.std.proofs.Math.Seq.{take-add}
use Rattle.std.proofs.lemmas.Bool.{cases_Bool}
use Rattle.std.proofs.lemmas.List.{take-append-drop, drop-drop, drop_more}
use Rattle.std.proofs.lemmas.List.Sums.{prefix_len-le-length, prefix_len_stops}
use Rattle.geom.specs.declared.cif_code.CifCode.TheVariants.{C6, C11}
use Rattle.geom.specs.CifCommands.{is_cif_blank}
use Rattle.geom.specs.CifDrawings.{CifState}
use Rattle.geom.specs.CifRefusals.{CommandFault, DrawsFrom}
use Rattle.cif_syntax.specs.Ends.{between}
use Rattle.cif_syntax.specs.Sentences.{IsEndAt}
use Rattle.cif_values.specs.Runs.{behind_blanks}

-- ---- places

order_of : (text : List ℕ) (from first : ℕ) → IsEndAt text from first → from ≤ first
order_of text from first h =
    let e : length (drop from text) ≡ length (between text from first ++ codes "E") + length (drop (first + 1) text) =
    ap length h.is ∙ length-append (between text from first ++ codes "E") (drop (first + 1) text) in
    let one : length (between text from first ++ codes "E") ≡ length (between text from first) + 1 = length-append (between text from first) (codes "E") in
    let a = length-drop from text in
    let b = length-drop (first + 1) text in
    let k = length-take (first - from) (drop from text) in
    let w = h.within in
    omega (arith, e, a, b, k, one, w)

front_at : (text : List ℕ) (from first : ℕ) → from ≤ first → take from text ++ between text from first ≡ take first text
front_at text from first o =
    let e : from + (first - from) ≡ first = omega (arith, o) in
    sym (take-add from (first - from) text) ∙ ap (λ (n : ℕ). take n text) e

-- ---- within a definition

pub end_within : (s : CifState) (text : List ℕ) (from first : ℕ) → IsEndAt text from first → IsSome s.opening
    → CommandFault s (take from text) (drop from text) C6 (take first text)
end_within s text from first h o =
    let P : List ℕ → Type 0 = λ l. CommandFault s (take from text) (drop from text) C6 l in
    subst P (front_at text from first (order_of text from first h))
    (CommandFault.end_within (between text from first) (drop (first + 1) text) h.is h.blanks o)

-- ---- blanks behind it

all_first : (p : ℕ → Bool) (xs : List ℕ) → list_all p (take (prefix_len p xs) xs) ≡ true
all_first p [] = refl
all_first p (x ∷ xs) =
    elim (cases_Bool (p x)) [
      | inl good ↦ rw good (let e : 1 + prefix_len p xs ≡ suc (prefix_len p xs) = omega arith in rw e (ap (λ (v : Bool). v && list_all p (take (prefix_len p xs) xs)) good ∙ all_first p xs))
      | inr bad ↦ rw bad refl
    ]

outside : (opened t : Bool) → Decides opened (t ≡ true) → opened ≡ false → t ≡ false
outside opened true d e = let z : true ≡ false = sym (d.1 refl) ∙ e in absurd cc
outside opened false d e = refl

-- all is blank behind it
pub end_whole : (s : CifState) (text : List ℕ) (from first behind : ℕ) (opened : Bool) → IsEndAt text from first → behind ≡ behind_blanks text (first + 1)
    → behind ≡ length text → Decides opened (IsSome s.opening) → opened ≡ false → DrawsFrom s (take from text) (drop from text) s
end_whole s text from first behind opened h b e d c =
    let xs : List ℕ = drop (first + 1) text in
    let k : length xs ≡ prefix_len is_cif_blank xs =
    (let w = h.within in let l = length-drop (first + 1) text in omega (arith, b, e, w, l)) in
    let all : take (prefix_len is_cif_blank xs) xs ≡ xs = ap (λ (n : ℕ). take n xs) (sym k) ∙ whole xs in
    DrawsFrom.end s (take from text) (drop from text) (between text from first) xs h.is h.blanks (ap (list_all is_cif_blank) (sym all) ∙ all_first is_cif_blank xs)
    (outside opened (is_some s.opening) d c)
  where
    whole : (xs : List ℕ) → take (length xs) xs ≡ xs
    whole [] = refl
    whole (x ∷ xs) = ap (λ (l : List ℕ). x ∷ l) (whole xs)

seam : (xs ys : List ℕ) → drop (length xs) (xs ++ ys) ≡ ys
seam [] ys = refl
seam (x ∷ xs) ys = seam xs ys

-- some byte is not
pub end_followed : (s : CifState) (text : List ℕ) (from first behind : ℕ) (opened : Bool) → IsEndAt text from first → behind ≡ behind_blanks text (first + 1)
    → behind < length text → Decides opened (IsSome s.opening) → opened ≡ false → CommandFault s (take from text) (drop from text) C11 (take behind text)
end_followed s text from first behind opened h b l d c =
    let xs : List ℕ = drop (first + 1) text in
    let k : ℕ = prefix_len is_cif_blank xs in
    let w = h.within in
    let n = length-drop (first + 1) text in
    let inside : prefix_len is_cif_blank xs < length xs = omega (arith, b, l, w, n) in
    let more : drop k xs ≡ get_or xs k 0 ∷ drop (k + 1) xs = drop_more xs k 0 inside in
    let split : xs ≡ take k xs ++ get_or xs k 0 ∷ drop (k + 1) xs =
    sym (take-append-drop k xs) ∙ ap (λ (t : List ℕ). take k xs ++ t) more in
    let P : List ℕ → Type 0 = λ t. CommandFault s (take from text) (drop from text) C11 t in
    let o = order_of text from first h in
    let one : take (first + 1) text ≡ take first text ++ codes "E" = take-add first 1 text ∙ ap (λ (t : List ℕ). take first text ++ t) (first_is o) in
    let place : ((take from text ++ between text from first) ++ codes "E") ++ take k xs ≡ take behind text =
    ap (λ (t : List ℕ). (t ++ codes "E") ++ take k xs) (front_at text from first o)
    ∙ (ap (λ (t : List ℕ). t ++ take k xs) (sym one) ∙ (sym (take-add (first + 1) k text) ∙ ap (λ (i : ℕ). take i text) (sym b))) in
    subst P place
    (CommandFault.behind_end (between text from first) (take k xs) (get_or xs k 0) (drop (k + 1) xs)
    (h.is
    ∙ (ap (λ (t : List ℕ). (between text from first ++ codes "E") ++ t) split
    ∙ sym (append_assoc (between text from first ++ codes "E") (take k xs) (get_or xs k 0 ∷ drop (k + 1) xs))))
    h.blanks (outside opened (is_some s.opening) d c) (all_first is_cif_blank xs) (prefix_len_stops is_cif_blank xs 0 inside))
  where
    first_is : from ≤ first → take 1 (drop first text) ≡ codes "E"
    first_is o =
        let e : from + (first - from) ≡ first = omega (arith, o) in
        let w = h.within in
        let a = length-drop from text in
        let l : length (between text from first) ≡ first - from = (let k = length-take (first - from) (drop from text) in omega (arith, k, a, w, o)) in
        let is : drop from text ≡ between text from first ++ (codes "E" ++ drop (first + 1) text) =
        h.is ∙ append_assoc (between text from first) (codes "E") (drop (first + 1) text) in
        let t : drop first text ≡ codes "E" ++ drop (first + 1) text =
        ap (λ (i : ℕ). drop i text) (sym e)
        ∙ (sym (drop-drop (first - from) from text)
        ∙ (ap (drop (first - from)) is
        ∙ (ap (λ (i : ℕ). drop i (between text from first ++ (codes "E" ++ drop (first + 1) text))) (sym l)
        ∙ seam (between text from first) (codes "E" ++ drop (first + 1) text)))) in
        ap (take 1) t
