-- The names that were declared up to a place, and the first fault of names and limits.
use Rattle.std.proofs.Common.{◌≡◌, ℕ, Some, None, List, [], ◌∷◌, ◌++◌, refl, ap, sym, ◌∙◌, subst}
use Rattle.std.specs.Prelude.{Option}
use Rattle.std.proofs.lemmas.List.{append_assoc, append-nil}
use Rattle.rx_syntax.specs.Lexemes.{Lexeme, TokensOf}
use Rattle.rx_syntax.specs.Grammar.{Syntax, Specifies}
use Rattle.rx_syntax.specs.Uses.{Use, Declared, undeclared, use_code, behind_use, use_token, fault_or, first_use_fault, syntax_uses}
use Rattle.rx_syntax.specs.UsesRead.{Counts, no_counts, use_on, counts_on, listed, uses_along, counts_along}
use Rattle.rx_syntax.specs.Accepted.{Says, NameFault}
use Rattle.rx_syntax.specs.declared.kind.Kind.TheVariants.{Bad}
use Rattle.rx_syntax.specs.declared.spec_code.SpecCode.{SpecCode}
use Rattle.rx_syntax.specs.declared.machine.Due.TheVariants.{FirstLine}
use Rattle.rx_syntax.specs.declared.machine.State.{State}
use Rattle.rx_syntax.specs.Machine.{at, run}
use Rattle.rx_syntax.proofs.OneAnswer.{one_list}
use Rattle.rx_syntax.proofs.Used.{uses_append, counts_append, all_used}

-- a token of no bytes, as the number that was read before any other
abbrev pub no_token : Lexeme
no_token = record { kind = Bad; start = 0; behind = 0 }

-- the uses of the first tokens of a text, and what is counted behind them
abbrev pub uses_seen : List ℕ → List Lexeme → List Use
uses_seen text seen = uses_along text seen (at FirstLine 0) (no_counts no_token)

abbrev pub counts_seen : List ℕ → List Lexeme → Counts Lexeme
counts_seen text seen = counts_along text seen (at FirstLine 0) (no_counts no_token)

-- the code at a use, and what is declared behind it, where there is one
abbrev pub code_on : List ℕ → ℕ → Declared → Option Use → Option SpecCode
code_on text limit names None = None
code_on text limit names (Some u) = use_code text limit names u

abbrev pub behind_on : List ℕ → Declared → Option Use → Declared
behind_on text names None = names
behind_on text names (Some u) = behind_use text names u

-- These names are declared behind the tokens, and no code of names or limits stands at any of them.
pub record NamesRead (text : List ℕ) (limit : ℕ) (seen : List Lexeme) (names : Declared) : Type 0 where
  pub faults : (us : List Use) → first_use_fault text limit undeclared (uses_seen text seen ++ us) ≡ first_use_fault text limit names us

pub no_names : (text : List ℕ) (limit : ℕ) → NamesRead text limit [] undeclared
no_names text limit = record { faults = λ us. refl }

module _ (text : List ℕ) (limit : ℕ) (seen : List Lexeme) (state : Option State) (t : Lexeme) (ran : run seen (at FirstLine 0) ≡ state) where
  -- the uses with one more token
  pub longer : uses_seen text (seen ++ (t ∷ [])) ≡ uses_seen text seen ++ listed (use_on text state (counts_seen text seen) t)
  longer =
      uses_append text seen (t ∷ []) (at FirstLine 0) (no_counts no_token)
      ∙ ap (λ s. uses_seen text seen ++ (listed (use_on text s (counts_seen text seen) t) ++ [])) ran
      ∙ ap (λ us. uses_seen text seen ++ us) (append-nil (listed (use_on text state (counts_seen text seen) t)))

  -- what is counted behind one more token
  pub counted : counts_seen text (seen ++ (t ∷ [])) ≡ counts_on text state (counts_seen text seen) t
  counted =
      counts_append text seen (t ∷ []) (at FirstLine 0) (no_counts no_token) ∙ ap (λ s. counts_on text s (counts_seen text seen) t) ran

  module _ (names : Declared) (h : NamesRead text limit seen names) where
    longer_faults : (us : List Use) → first_use_fault text limit undeclared (uses_seen text (seen ++ (t ∷ [])) ++ us)
        ≡ first_use_fault text limit names (listed (use_on text state (counts_seen text seen) t) ++ us)
    longer_faults us =
        let here = listed (use_on text state (counts_seen text seen) t) in
        ap (λ vs. first_use_fault text limit undeclared (vs ++ us)) longer
        ∙ ap (first_use_fault text limit undeclared) (append_assoc (uses_seen text seen) here us)
        ∙ h.faults (here ++ us)

    -- over a token at which no code stands
    pub over : (o : Option Use) → use_on text state (counts_seen text seen) t ≡ o → code_on text limit names o ≡ None
        → NamesRead text limit (seen ++ (t ∷ [])) (behind_on text names o)
    over None e good = record { faults = λ us. longer_faults us ∙ ap (λ o. first_use_fault text limit names (listed o ++ us)) e }
    over (Some u) e good = record {
      faults = λ us. longer_faults us ∙ ap (λ o. first_use_fault text limit names (listed o ++ us)) e
          ∙ ap (λ o. fault_or o (use_token u).start (first_use_fault text limit (behind_use text names u) us)) good;
    }

    -- at a token at which a code stands
    pub fault_at : (o : Option Use) (code : SpecCode) (syntax : Syntax) (rest : List Lexeme) → use_on text state (counts_seen text seen) t ≡ o
        → ((u : Use) → o ≡ Some u → use_token u ≡ t) → code_on text limit names o ≡ Some code → Says text syntax → TokensOf text (seen ++ (t ∷ rest))
        → NameFault text limit code t.start
    fault_at None code syntax rest e token bad says tokens = absurd cc
    fault_at (Some u) code syntax rest e token bad says tokens =
        let all = seen ++ (t ∷ rest) in
        let behind = counts_seen text seen in
        let rests = uses_along text rest (run (t ∷ []) state) (counts_on text state behind t) in
        let is : Specifies all syntax = subst (λ ts. Specifies ts syntax) (one_list text says.are_tokens tokens) says.specifies in
        let cut : uses_seen text all ≡ uses_seen text seen ++ (listed (use_on text state behind t) ++ rests) =
        uses_append text seen (t ∷ rest) (at FirstLine 0) (no_counts no_token)
        ∙ ap (λ s. uses_seen text seen ++ uses_along text (t ∷ rest) s behind) ran in
        record {
          syntax = syntax;
          says = says;
          fault = ap (first_use_fault text limit undeclared) (sym (all_used text all syntax is (no_counts no_token)) ∙ cut)
              ∙ h.faults (listed (use_on text state behind t) ++ rests)
              ∙ ap (λ o. first_use_fault text limit names (listed o ++ rests)) e
              ∙ ap (λ o. fault_or o (use_token u).start (first_use_fault text limit (behind_use text names u) rests)) bad
              ∙ ap (λ (now : Lexeme). Some (code, now.start)) (token u refl);
        }

-- where all tokens were read, no code stands at any use
pub none_left : (text : List ℕ) (limit : ℕ) (seen : List Lexeme) (names : Declared) (syntax : Syntax) → NamesRead text limit seen names
    → Specifies seen syntax → first_use_fault text limit undeclared (syntax_uses text syntax) ≡ None
none_left text limit seen names syntax h is =
    ap (first_use_fault text limit undeclared) (sym (all_used text seen syntax is (no_counts no_token)) ∙ sym (append-nil (uses_seen text seen))) ∙ h.faults []
