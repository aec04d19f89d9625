-- Names and numerals: a run of bytes of one class, and a byte of no such class behind it.
use Rattle.std.proofs.Common.{◌≡◌, ℕ, Bool, true, false, List, [], ◌∷◌, ◌++◌, refl, sym, ap, ◌∙◌, subst, append_assoc, append-nil}
use Rattle.std.specs.List.{list_all}
use Rattle.rx_text.specs.NumberInText.{is_digit}
use Rattle.net_text.specs.NetRefusals.{NumberBegins, NetCodeStands}
use Rattle.net_text.specs.Stages.{Stage, Part}
use Rattle.net_text.specs.declared.net_fault.NetCode.TheVariants.{N1, N2, N5}
use Rattle.net_text.proofs.Advancing.{Stops, advance, restage}
use Rattle.net_text.proofs.Cuts.{Cuts, cuts}
use Rattle.net_text.proofs.ReadBack.{both_true}
use Rattle.net_text.proofs.Stopping.{syntax_stop}

-- each byte within is of the class
pub all_at : (p : ℕ → Bool) (xs : List ℕ) (c : ℕ) (ys : List ℕ) → list_all p (xs ++ c ∷ ys) ≡ true → p c ≡ true
all_at p [] c ys h = (both_true (p c) _ h).0
all_at p (x ∷ xs) c ys h = all_at p xs c ys (both_true (p x) _ h).1

-- a token, the byte behind it, and what is no part of a token
module _ (Is : List ℕ → Type 0) (p : ℕ → Bool) (last : ℕ) (ends : p last ≡ false) (of_class : (token : List ℕ) → Is token → list_all p token ≡ true) where
  -- the last byte stands in no token
  pub not_within : (token xs ys : List ℕ) → Is token → token ≡ xs ++ last ∷ ys → ⊥
  not_within token xs ys is e =
      let within : p last ≡ true = all_at p xs last ys (rw e at (of_class token is)) in
      let clash : true ≡ false = sym within ∙ ends in
      cc

  -- two tokens before the last byte are one
  pub same_token : (a b s t : List ℕ) → Is a → Is b → a ++ last ∷ s ≡ b ++ last ∷ t → (a ≡ b) × (s ≡ t)
  same_token a b s t x y e = by_place (cuts a (last ∷ s) b (last ∷ t) e)
    where
      by_place : Cuts a (last ∷ s) b (last ∷ t) → (a ≡ b) × (s ≡ t)
      by_place (Cuts.same q r) = (q, cc)
      by_place (Cuts.before c vs q r) = let same : last ≡ c = cc in absurd (not_within b a vs y (rw same q))
      by_place (Cuts.behind c vs q r) = let same : last ≡ c = cc in absurd (not_within a b vs x (rw same q))

  module _ {Js K G : List ℕ → Type 0} (nets : ℕ) (front token : List ℕ) (is : Is token) (narrow : (other : List ℕ) → Js other → Is other) where
    -- behind the token
    module _ (rest : List ℕ) (stage : Stage nets front (token ++ rest) (Part Is last K) (Part Js last G))
        (two : (xs : List ℕ) (c : ℕ) (ys : List ℕ) → token ≡ xs ++ c ∷ ys → NetCodeStands N2 (front ++ xs) (c ∷ ys ++ rest) → ⊥)
        (five : (xs : List ℕ) (c : ℕ) (ys : List ℕ) → token ≡ xs ++ c ∷ ys → NetCodeStands N5 (front ++ xs) (c ∷ ys ++ rest) → ⊥) where
      behind_token : Stage nets (front ++ token) rest (λ tail. Part Is last K (token ++ tail)) (λ tail. Part Js last G (token ++ tail))
      behind_token =
          advance nets front rest token (Part Is last K) (Part Js last G) stage (last ∷ stage.some.behind)
          (record { part = token; behind = stage.some.behind; is = refl; fits = is; more = stage.some.more })
          (λ xs c ys e k. not_within token k.part (k.behind ++ c ∷ ys) is (e ∙ ap (λ l. l ++ c ∷ ys) k.is ∙ append_assoc k.part (last ∷ k.behind) (c ∷ ys)))
          two five

      -- the token is the longest, and the last byte does not stand behind it
      pub token_stop : ((c : ℕ) (others more : List ℕ) → rest ≡ c ∷ others → Is (token ++ c ∷ more) → ⊥)
          → ((others : List ℕ) → rest ≡ last ∷ others → ⊥) → Stops nets N1 (front ++ token) rest
      token_stop longest other =
          syntax_stop nets (front ++ token) rest behind_token
          (λ k. not_within token k.part k.behind is (sym (append-nil token) ∙ k.is))
          (λ c others tail e k. by_place c others tail k.part k.behind e k.fits (cuts token (c ∷ tail) k.part (last ∷ k.behind) k.is))
        where
          by_place : (c : ℕ) (others tail part behind : List ℕ) → rest ≡ c ∷ others → Is part → Cuts token (c ∷ tail) part (last ∷ behind) → ⊥
          by_place c others tail part behind e fits (Cuts.same q r) = let same : c ≡ last = cc in other others (rw same at e)
          by_place c others tail part behind e fits (Cuts.before d vs q r) = let same : c ≡ d = cc in longest c others vs e (subst Is (rw (← same) at q) fits)
          by_place c others tail part behind e fits (Cuts.behind d vs q r) = let same : last ≡ d = cc in not_within token part vs is (rw (← same) at q)

    -- behind the last byte
    pub token_step : (rest : List ℕ) → Stage nets front (token ++ last ∷ rest) (Part Is last K) (Part Js last G)
        → ((xs : List ℕ) (c : ℕ) (ys : List ℕ) → token ≡ xs ++ c ∷ ys → NetCodeStands N2 (front ++ xs) (c ∷ ys ++ last ∷ rest) → ⊥)
        → ((xs : List ℕ) (c : ℕ) (ys : List ℕ) → token ≡ xs ++ c ∷ ys → NetCodeStands N5 (front ++ xs) (c ∷ ys ++ last ∷ rest) → ⊥)
        → is_digit last ≡ false → Stage nets ((front ++ token) ++ last ∷ []) rest K G
    token_step rest stage two five no_digit =
        restage nets ((front ++ token) ++ last ∷ []) rest behind_last
        (λ tail k. (more_of k.part k.behind tail k.fits k.is k.more))
        (λ tail k. record { part = token; behind = tail; is = refl; fits = is; more = k })
        (λ tail k. more_in k.part k.behind tail (narrow k.part k.fits) k.is k.more)
      where
        more_of : (part behind tail : List ℕ) → Is part → token ++ last ∷ tail ≡ part ++ last ∷ behind → K behind → K tail
        more_of part behind tail fits e k = subst K (sym (same_token token part tail behind is fits e).1) k

        more_in : (part behind tail : List ℕ) → Is part → token ++ last ∷ tail ≡ part ++ last ∷ behind → G behind → G tail
        more_in part behind tail fits e k = subst G (sym (same_token token part tail behind is fits e).1) k

        no_number : (xs : List ℕ) (c : ℕ) (ys : List ℕ) → last ∷ [] ≡ xs ++ c ∷ ys → NumberBegins ((front ++ token) ++ xs) (c ∷ ys ++ rest) → ⊥
        no_number [] c ys e n =
            let here = n.here in
            let same : last ≡ n.digit = cc in
            let clash : true ≡ false = sym n.valid ∙ ap is_digit (sym same) ∙ no_digit in
            cc
        no_number (x ∷ []) c ys e n = cc
        no_number (x ∷ y ∷ xs) c ys e n = cc

        none_before : (xs : List ℕ) (c : ℕ) (ys : List ℕ) → last ∷ [] ≡ xs ++ c ∷ ys → Part Is last K (token ++ xs) → ⊥
        none_before [] c ys e k = not_within token k.part k.behind is (sym (append-nil token) ∙ k.is)
        none_before (x ∷ []) c ys e k = cc
        none_before (x ∷ y ∷ xs) c ys e k = cc

        behind_last : Stage nets ((front ++ token) ++ last ∷ []) rest (λ tail. Part Is last K (token ++ last ∷ tail)) (λ tail. Part Js last G (token ++ last ∷ tail))
        behind_last =
            advance nets (front ++ token) rest (last ∷ []) (λ tail. Part Is last K (token ++ tail)) (λ tail. Part Js last G (token ++ tail))
            (behind_token (last ∷ rest) stage two five) stage.some.behind
            (record { part = token; behind = stage.some.behind; is = refl; fits = is; more = stage.some.more })
            none_before (λ xs c ys e s. no_number xs c ys e s.0) (λ xs c ys e s. no_number xs c ys e s.0)

-- no token stands here
pub token_none : {Is K G : List ℕ → Type 0} (last : ℕ) (nets : ℕ) (front rest : List ℕ) → Stage nets front rest (Part Is last K) G → (Is [] → ⊥)
    → ((c : ℕ) (others token : List ℕ) → rest ≡ c ∷ others → Is (c ∷ token) → ⊥) → Stops nets N1 front rest
token_none {Is} {K} last nets front rest stage some none =
    syntax_stop nets front rest stage (λ k. ended k.part k.behind k.is) (λ c others tail e k. on c others tail k.part k.behind e k.is k.fits)
  where
    ended : (part behind : List ℕ) → [] ≡ part ++ last ∷ behind → ⊥
    ended [] behind e = cc
    ended (x ∷ part) behind e = cc

    on : (c : ℕ) (others tail part behind : List ℕ) → rest ≡ c ∷ others → c ∷ tail ≡ part ++ last ∷ behind → Is part → ⊥
    on c others tail [] behind e f fits = some fits
    on c others tail (x ∷ part) behind e f fits = let same : x ≡ c = cc in none c others part e (rw same at fits)
