-- Cuts of a word by the number of letters in front.
use Rattle.std.proofs.Common.{◌≡◌, ◌∙◌, ℕ, ◌+◌, ◌≤◌, List, length, map, take, drop, sym, ap, subst, arith, length-append}
use Rattle.std.proofs.lemmas.List.{take-append-drop, take-map, drop-map, length-map}
use Rattle.std.proofs.Math.Seq.{take-append_seam, drop-append_seam}
use Rattle.rx_lang.specs.Meaning.{Cut}

module _ {V X : Type 0} (f : V → X) (P Q : List X → Type 0) where
  pub cut_at : (word : List V) (n : ℕ) → P (map f (take n word)) → Q (map f (drop n word)) → Cut P Q (map f word)
  cut_at word n p q = record {
    front = take n (map f word);
    rest = drop n (map f word);
    whole = sym (take-append-drop n (map f word));
    first = subst P (sym (take-map f n word)) p;
    second = subst Q (sym (drop-map f n word)) q;
  }

  pub no_cut : (word : List V) → ((n : ℕ) → n ≤ length word → P (map f (take n word)) → Q (map f (drop n word)) → ⊥) → Cut P Q (map f word) → ⊥
  no_cut word none_at h =
      let size : length (map f word) ≡ length h.front + length h.rest = ap length h.whole ∙ length-append h.front h.rest in
      let within : length h.front ≤ length word = omega (arith, length-map word f) in
      let front : take (length h.front) (map f word) ≡ h.front = ap (take (length h.front)) h.whole ∙ take-append_seam h.front h.rest in
      let rest : drop (length h.front) (map f word) ≡ h.rest = ap (drop (length h.front)) h.whole ∙ drop-append_seam h.front h.rest in
      none_at (length h.front) within
      (subst P (sym front ∙ take-map f (length h.front) word) h.first)
      (subst Q (sym rest ∙ drop-map f (length h.front) word) h.second)
