-- Nets and names of pads that the reader of network texts reads, and its faults there.
use Rattle.std.proofs.Common.{◌≡◌, ℕ, ◌<◌, ◌≤◌, false, List, [], ◌∷◌, ◌++◌, Result, Ok, Err, take, drop, length, sym, ap, ◌∙◌, append-nil, arith}
use Rattle.std.specs.Prelude.{MatchResult, codes}
use Rattle.rx_text.specs.NumberInText.{is_digit}
use Rattle.net_text.specs.Shape.{IsNumeral, head, front_number}
use Rattle.net_text.specs.NetRefusals.{NumberBegins, NetCodeStands}
use Rattle.net_text.specs.Reading.{number_due, name_at}
use Rattle.net_text.specs.Stages.{IsName, IsNumeralBelow, Part, DueAt, EndsInSpace}
use Rattle.net_text.specs.declared.net_fault.NetCode.TheVariants.{N2, N5}
use Rattle.net_text.proofs.Cuts.{cancel}
use Rattle.net_text.proofs.NamesRead.{NameRead, name_read}
use Rattle.net_text.proofs.NumbersRead.{NumberRead, number_read}
use Rattle.net_text.proofs.Placed.{Stopped, due_on}
use Rattle.net_text.specs.declared.words.TextFault.{TextFault}

-- each answer passes on
match_map : {A : Type 0} (P Q : A → Type 0) (R : TextFault → Type 0) (r : Result A TextFault) → MatchResult r P R → ((x : A) → P x → Q x) → MatchResult r Q R
match_map P Q R (Ok x) h f = f x h
match_map P Q R (Err fault) h f = h

module _ (nets : ℕ) (text : List ℕ) (at : ℕ) (within : at ≤ length text) where
  -- a net
  pub net_read : {K : (List ℕ → Type 0) → List ℕ → Type 0} (last : ℕ) → is_digit last ≡ false → DueAt nets text at (λ N. Part N last (K N))
      → EndsInSpace (take at text) → MatchResult (number_due nets N2 (last ∷ []) at text) (λ read. DueAt nets text read.1 K) (Stopped nets text)
  net_read {K} last no_digit due space =
      match_map (NumberRead nets text at (K IsNumeral) (K (IsNumeralBelow nets))) (λ read. DueAt nets text read.1 K) (Stopped nets text) (number_due nets N2 (last ∷ []) at text)
      (number_read nets nets last N2 no_digit text at within space stands two five due.stage) read
    where
      count : front_number (due.more ++ drop at text) ≡ nets
      count = due.count

      stands : NumberBegins (take at text) (drop at text) → nets ≤ front_number (drop at text) → NetCodeStands N2 (take at text) (drop at text)
      stands n large = (n, (due.more, due.behind_head, due.counted, omega (arith, large, count)))

      two : front_number (drop at text) < nets → NetCodeStands N2 (take at text) (drop at text) → ⊥
      two small s =
          let (more, e, some, large) = s.1 in
          let same : more ≡ due.more = cancel head more due.more (sym e ∙ due.behind_head) in
          let counted : front_number (more ++ drop at text) ≡ nets = ap (λ l. front_number (l ++ drop at text)) same ∙ count in
          omega (arith, small, large, counted)

      five : front_number (drop at text) < nets → NetCodeStands N5 (take at text) (drop at text) → ⊥
      five small s = due.counted (sym (cancel head [] due.more (append-nil head ∙ sym s.1 ∙ due.behind_head)))

      read : (r : ℕ × ℕ) → NumberRead nets text at (K IsNumeral) (K (IsNumeralBelow nets)) r → DueAt nets text r.1 K
      read r n = due_on n.bytes _ _ due n.moved.front n.moved.rest n.stage

  -- a name and the space behind it
  pub pad_name_read : {K : (List ℕ → Type 0) → List ℕ → Type 0} → DueAt nets text at (λ N. Part IsName 32 (K N))
      → MatchResult (name_at at text) (λ read. DueAt nets text read.1 K) (Stopped nets text)
  pad_name_read {K} due =
      match_map (NameRead nets text at (K IsNumeral) (K (IsNumeralBelow nets))) (λ read. DueAt nets text read.1 K) (Stopped nets text) (name_at at text)
      (name_read nets text at within due.stage) read
    where
      read : (r : List ℕ × ℕ) → NameRead nets text at (K IsNumeral) (K (IsNumeralBelow nets)) r → DueAt nets text r.1 K
      read r n = due_on (r.0 ++ codes " ") _ _ due n.moved.front n.moved.rest n.stage
