-- Names that the reader of network texts reads, and its faults there.
use Rattle.std.proofs.Common.{◌≡◌, ℕ, ◌+◌, ◌≤◌, Bool, true, false, List, [], ◌∷◌, ◌++◌, take, drop, length, refl, sym, ap, ◌∙◌, subst, append_assoc, arith}
use Rattle.std.specs.Prelude.{MatchResult, codes}
use Rattle.std.proofs.lemmas.List.{length-append, length-take-le, take-append-drop}
use Rattle.std.proofs.lemmas.List.Sums.{prefix_len-le-length}
use Rattle.rx_text.specs.Name.{is_name, is_name_byte}
use Rattle.net_text.specs.NetRefusals.{NumberBegins}
use Rattle.net_text.specs.Reading.{word_at, with_read, name_length, name_at}
use Rattle.net_text.specs.Stages.{IsName, Part, Stage}
use Rattle.net_text.specs.declared.net_fault.NetCode.TheVariants.{N1}
use Rattle.net_text.proofs.Advancing.{no_number}
use Rattle.net_text.proofs.NameTokens.{name_of_class, name_longest, name_missing, name_quiet}
use Rattle.net_text.proofs.NumbersRead.{byte_read, with_word}
use Rattle.net_text.proofs.Placed.{Moved, moved, Stopped, stopped, stopped_at}
use Rattle.net_text.proofs.Tokens.{token_stop, token_step, token_none}

-- What stands behind a name that was read, and its space.
pub record NameRead (nets : ℕ) (text : List ℕ) (at : ℕ) (K G : List ℕ → Type 0) (read : List ℕ × ℕ) : Type 0 where
  pub moved : Moved text at read.1 (read.0 ++ codes " ")
  pub stage : Stage nets (take read.1 text) (drop read.1 text) K G

-- no number begins in a name
no_number_in : (front name rest xs : List ℕ) (c : ℕ) (ys : List ℕ) → IsName name → name ≡ xs ++ c ∷ ys → NumberBegins (front ++ xs) (c ∷ ys ++ rest) → ⊥
no_number_in front name rest xs c ys n e = no_number front xs c ys rest (rw e at (name_quiet name n))

module _ {K G : List ℕ → Type 0} (nets : ℕ) (text : List ℕ) (at : ℕ) (within : at ≤ length text) where
  -- the answer after a name
  behind : (name rest : List ℕ) → drop at text ≡ name ++ rest → IsName name → name_length (name ++ rest) ≡ length name
      → Stage nets (take at text) (drop at text) (Part IsName 32 K) (Part IsName 32 G)
      → MatchResult (with_read name (word_at (codes " ") (at + length name) (drop (at + length name) text))) (NameRead nets text at K G) (Stopped nets text)
  behind name rest e n whole stage =
      let behind_name = (moved text at name rest within e).1 in
      let here : Stage nets (take at text) (name ++ rest) (Part IsName 32 K) (Part IsName 32 G) = rw e at stage in
      rw behind_name (with_word name (NameRead nets text at K G) (Stopped nets text) (word_at (codes " ") (at + length name) rest) (byte_read 32 (at + length name) rest
      (λ next. NameRead nets text at K G (name, next)) (Stopped nets text)
      (λ others f. step others (e ∙ ap (λ l. name ++ l) f) (rw f at here))
      (λ other. stopped nets text at name rest N1 within e (
      token_stop IsName is_name_byte 32 refl name_of_class nets (take at text) name n (λ d is. is) rest here
      (λ xs c ys f s. no_number_in (take at text) name rest xs c ys n f s.0) (λ xs c ys f s. no_number_in (take at text) name rest xs c ys n f s.0)
      (λ c others more f longer. name_longest name c others more n (rw f at whole) longer) other))))
    where
      step : (others : List ℕ) → drop at text ≡ name ++ 32 ∷ others → Stage nets (take at text) (name ++ 32 ∷ others) (Part IsName 32 K) (Part IsName 32 G)
          → NameRead nets text at K G (name, at + length name + 1)
      step others e here =
          let cut : drop at text ≡ (name ++ 32 ∷ []) ++ others = e ∙ sym (append_assoc name (32 ∷ []) others) in
          let size : at + length (name ++ 32 ∷ []) ≡ at + length name + 1 = omega (arith, length-append name (32 ∷ [])) in
          let (there, rest_is) = rw size at (moved text at (name ++ 32 ∷ []) others within cut) in
          let front_is : take (at + length name + 1) text ≡ (take at text ++ name) ++ 32 ∷ [] = there.front ∙ sym (append_assoc (take at text) name (32 ∷ [])) in
          record {
            moved = there;
            stage =
                rw (front_is, rest_is) (
                token_step IsName is_name_byte 32 refl name_of_class nets (take at text) name n (λ d is. is) others here
                (λ xs c ys f s. no_number_in (take at text) name (32 ∷ others) xs c ys n f s.0) (λ xs c ys f s. no_number_in (take at text) name (32 ∷ others) xs c ys n f s.0) refl);
          }

  pub name_read : Stage nets (take at text) (drop at text) (Part IsName 32 K) (Part IsName 32 G)
      → MatchResult (name_at at text) (NameRead nets text at K G) (Stopped nets text)
  name_read stage = by_test (is_name (take (name_length (drop at text)) (drop at text))) refl
    where
      count : length (take (name_length (drop at text)) (drop at text)) ≡ name_length (drop at text)
      count = length-take-le (name_length (drop at text)) (drop at text) (omega (arith, prefix_len-le-length is_name_byte (drop at text)))

      by_test : (b : Bool) → is_name (take (name_length (drop at text)) (drop at text)) ≡ b → MatchResult (name_at at text) (NameRead nets text at K G) (Stopped nets text)
      by_test false t =
          rw t (stopped_at nets text at N1 within (token_none 32 nets (take at text) (drop at text) stage (λ n. cc)
          (λ c others token e n. name_missing c others token (rw e at t) n)))
      by_test true t =
          let rest = drop (name_length (drop at text)) (drop at text) in
          let cut : drop at text ≡ take (name_length (drop at text)) (drop at text) ++ rest = sym (take-append-drop (name_length (drop at text)) (drop at text)) in
          let whole : name_length (take (name_length (drop at text)) (drop at text) ++ rest) ≡ length (take (name_length (drop at text)) (drop at text)) =
          ap name_length (sym cut) ∙ sym count in
          rw t (subst (λ n. MatchResult (with_read (take (name_length (drop at text)) (drop at text)) (word_at (codes " ") (at + n) (drop (at + n) text)))
          (NameRead nets text at K G) (Stopped nets text)) count
          (behind (take (name_length (drop at text)) (drop at text)) rest cut t whole stage))
