-- Words, of which one is due, and none stands.
use Rattle.std.proofs.Common.{◌≡◌, ℕ, ◌<◌, ◌≤◌, List, [], ◌∷◌, ◌++◌, length, refl, sym, ap, ◌∙◌, subst, append_assoc, append-nil, arith}
use Rattle.net_text.specs.NetRefusals.{NetCodeStands}
use Rattle.net_text.specs.Reading.{agreeing}
use Rattle.net_text.specs.Stages.{Stage}
use Rattle.net_text.specs.declared.net_fault.NetCode.TheVariants.{N1, N2, N5}
use Rattle.net_text.proofs.Advancing.{Stops, advance}
use Rattle.net_text.proofs.Agreeing.{agree_same, agree_front}
use Rattle.net_text.proofs.Cuts.{Cuts, cuts}
use Rattle.net_text.proofs.Stopping.{syntax_stop}

-- bytes that are the same agree, and one more byte does
agree_more : (w : List ℕ) (c : ℕ) (vs others : List ℕ) → length w < agreeing (w ++ c ∷ vs) (w ++ c ∷ others)
agree_more [] c vs others = omega (arith, agree_same c c vs others refl)
agree_more (a ∷ w) c vs others = omega (arith, agree_same a a (w ++ c ∷ vs) (w ++ c ∷ others) refl, agree_more w c vs others)

module _ {K G : List ℕ → Type 0} (nets : ℕ) (front w rest : List ℕ) (stage : Stage nets front (w ++ rest) K G) (IsWord : List ℕ → Type 0)
    (each : (text : List ℕ) → K text → (v : List ℕ) × (behind : List ℕ) × IsWord v × (text ≡ v ++ behind))
    (missing : (v : List ℕ) → IsWord v → agreeing v (w ++ rest) ≡ length v → ⊥)
    (most : (v : List ℕ) → IsWord v → agreeing v (w ++ rest) ≤ length w)
    (two : (xs : List ℕ) (c : ℕ) (ys : List ℕ) → w ≡ xs ++ c ∷ ys → NetCodeStands N2 (front ++ xs) (c ∷ ys ++ rest) → ⊥)
    (five : (xs : List ℕ) (c : ℕ) (ys : List ℕ) → w ≡ xs ++ c ∷ ys → NetCodeStands N5 (front ++ xs) (c ∷ ys ++ rest) → ⊥) where
  -- the text begins with none of the words
  none_begins : (v z : List ℕ) → IsWord v → w ++ rest ≡ v ++ z → ⊥
  none_begins v z is e = missing v is (rw e (agree_front v z))

  -- no front of these bytes goes on with no byte
  none_whole : (xs ys : List ℕ) → w ≡ xs ++ ys → K xs → ⊥
  none_whole xs ys e k =
      let (v, behind, is, cut) = each xs k in
      none_begins v (behind ++ (ys ++ rest)) is
      (ap (λ l. l ++ rest) e ∙ append_assoc xs ys rest ∙ ap (λ l. l ++ (ys ++ rest)) cut ∙ append_assoc v behind (ys ++ rest))

  -- the bytes agree with one of the words as far as any does
  pub word_stop : (tail : List ℕ) → K (w ++ tail) → Stops nets N1 (front ++ w) rest
  word_stop tail k =
      syntax_stop nets (front ++ w) rest
      (advance nets front rest w K G stage tail k (λ xs c ys e h. none_whole xs (c ∷ ys) e h) two five)
      (λ h. none_whole w [] (sym (append-nil w)) (subst K (append-nil w) h))
      (λ c others more e h. let (v, behind, is, cut) = each (w ++ c ∷ more) h in by_place c others more e v behind is (cuts w (c ∷ more) v behind cut))
    where
      by_place : (c : ℕ) (others more : List ℕ) → rest ≡ c ∷ others → (v behind : List ℕ) → IsWord v → Cuts w (c ∷ more) v behind → ⊥
      by_place c others more e v behind is (Cuts.same p q) = none_begins v rest is (ap (λ l. l ++ rest) p)
      by_place c others more e v behind is (Cuts.before d vs p q) =
          let same : c ≡ d = cc in
          let word : v ≡ w ++ c ∷ vs = rw (← same) at p in
          let bound : agreeing (w ++ c ∷ vs) (w ++ c ∷ others) ≤ length w = rw (word, e) at (most v is) in
          omega (arith, bound, agree_more w c vs others)
      by_place c others more e v behind is (Cuts.behind d vs p q) =
          none_begins v (d ∷ vs ++ rest) is (ap (λ l. l ++ rest) p ∙ append_assoc v (d ∷ vs) rest)
