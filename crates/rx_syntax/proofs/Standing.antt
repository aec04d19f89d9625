-- The code that the machine answers at a token or at the end is the lowest that stands there.
use Rattle.std.proofs.Common.{◌≡◌, ℕ, suc, ◌≤◌, Some, None, Ok, Err, List, refl, ap, sym, ◌∙◌, subst, inl, inr, arith}
use Rattle.std.specs.Prelude.{Option, Result, ◌≢◌, ◌⊎◌}
use Rattle.rx_syntax.specs.Lexemes.{Lexeme}
use Rattle.rx_syntax.specs.Grammar.{Syntax, Specifies}
use Rattle.rx_syntax.specs.Refusals.{number, IsKind, Continues, Missing, open_after, Stands}
use Rattle.rx_syntax.specs.declared.kind.Kind.TheVariants.{Bad, Long, Open, OpenBracket}
use Rattle.rx_syntax.specs.declared.spec_code.SpecCode.{SpecCode}
use Rattle.rx_syntax.specs.declared.spec_code.SpecCode.TheVariants.{S1, S2, S3, S4, S5, S6, S7, S8, S9, S10, S11, S12, S13, S14, S15}
use Rattle.rx_syntax.specs.declared.machine.Due.{Due}
use Rattle.rx_syntax.specs.declared.machine.Due.TheVariants.{FirstLine, NextLine, NextSymbol, NextOutput, NextExpr}
use Rattle.rx_syntax.specs.declared.machine.State.{State}
use Rattle.rx_syntax.specs.Machine.{at, step, missing, end_code, token_step, run}
use Rattle.rx_syntax.proofs.Moves.{Moves}
use Rattle.rx_syntax.proofs.Derived.{lines_due, symbols_due, outputs_due}
use Rattle.rx_syntax.proofs.Prefixes.{Prefix, alive}
use Rattle.rx_syntax.proofs.Viable.{continues, stops, accepts, same_due, ends_due}
use Rattle.rx_syntax.proofs.Codes.{missing_from, missing_to, rises, move_of, no_long, Outcome, is_bad, is_early, is_stuck, is_deep, is_fine, outcome, opened_move, open_run}

-- numbers of codes

at_least_one : (c : SpecCode) → 1 ≤ number c
at_least_one S1 = omega arith
at_least_one S2 = omega arith
at_least_one S3 = omega arith
at_least_one S4 = omega arith
at_least_one S5 = omega arith
at_least_one S6 = omega arith
at_least_one S7 = omega arith
at_least_one S8 = omega arith
at_least_one S9 = omega arith
at_least_one S10 = omega arith
at_least_one S11 = omega arith
at_least_one S12 = omega arith
at_least_one S13 = omega arith
at_least_one S14 = omega arith
at_least_one S15 = omega arith

at_least_two : (c : SpecCode) → c ≢ S1 → 2 ≤ number c
at_least_two S1 h = absurd (h refl)
at_least_two S2 h = omega arith
at_least_two S3 h = omega arith
at_least_two S4 h = omega arith
at_least_two S5 h = omega arith
at_least_two S6 h = omega arith
at_least_two S7 h = omega arith
at_least_two S8 h = omega arith
at_least_two S9 h = omega arith
at_least_two S10 h = omega arith
at_least_two S11 h = omega arith
at_least_two S12 h = omega arith
at_least_two S13 h = omega arith
at_least_two S14 h = omega arith
at_least_two S15 h = omega arith

at_most_deep : (c : SpecCode) (before : List Lexeme) (now : Option Lexeme) → Missing c before now → number c ≤ 14
at_most_deep S6 before now m = omega arith
at_most_deep S7 before now m = omega arith
at_most_deep S8 before now m = omega arith
at_most_deep S9 before now m = omega arith
at_most_deep c before now m = absurd m

-- a missing section is a code that stands
missing_stands : (c : SpecCode) (before : List Lexeme) (now : Option Lexeme) → Missing c before now → Stands c before now
missing_stands S1 before now h = absurd h
missing_stands S2 before now h = absurd h
missing_stands S14 before now h = absurd h
missing_stands c before now h = h

-- what a code that stands is
pub data Kinds (c : SpecCode) (before : List Lexeme) (now : Option Lexeme) : Type 0 where
  by_byte : c ≡ S1 → IsKind Bad now → Kinds c before now
  by_token : c ≡ S2 → (IsKind Long now ⊎ (Continues before now → ⊥)) → ((other : SpecCode) → Missing other before now → ⊥) → Kinds c before now
  by_depth : c ≡ S14 → IsKind Open now ⊎ IsKind OpenBracket now → open_after 0 before ≡ 200 → Kinds c before now
  by_section : Missing c before now → Kinds c before now

pub kinds : (c : SpecCode) (before : List Lexeme) (now : Option Lexeme) → Stands c before now → Kinds c before now
kinds S1 before now h = by_byte refl h
kinds S2 before now h = by_token refl h.0 h.1
kinds S14 before now h = by_depth refl h.0 h.1
kinds c before now h = by_section h

module _ (before : List Lexeme) (t : Lexeme) (due : Due) (d : ℕ) (ran : run before (at FirstLine 0) ≡ at due d)
    (within : d ≤ 200) where
  -- Where the machine goes on, no code stands but that of too many parentheses.
  only_deep : (s : State) → t.kind ≢ Bad → missing due t.kind ≡ None → step due t.kind d ≡ Some s → (c : SpecCode) → Kinds c before (Some t)
      → (c ≡ S14) × (s.depth ≡ suc 200)
  only_deep s good none goes c (by_byte e k) = absurd (good k)
  only_deep s good none goes c (by_token e h without) = elim h [
    | inl long ↦ absurd (no_long (subst (λ k. Moves due k d s.due s.depth) long (move_of due t.kind d s goes)))
    | inr stuck ↦ absurd (stuck (continues before t due d s ran goes))
  ]
  only_deep s good none goes c (by_depth e (inl k) h) =
      let flat = open_run before due d ran in
      let moved : Moves due Open d s.due s.depth = subst (λ k. Moves due k d s.due s.depth) k (move_of due t.kind d s goes) in
      let up : s.depth ≡ suc d = (opened_move moved flat.1).0 in
      let deep : d ≡ 200 = flat.0 ∙ h in
      (e, up ∙ ap suc deep)
  only_deep s good none goes c (by_depth e (inr k) h) =
      let flat = open_run before due d ran in
      let moved : Moves due OpenBracket d s.due s.depth = subst (λ k. Moves due k d s.due s.depth) k (move_of due t.kind d s goes) in
      let up : s.depth ≡ suc d = (opened_move moved flat.1).0 in
      let deep : d ≡ 200 = flat.0 ∙ h in
      (e, up ∙ ap suc deep)
  only_deep s good none goes c (by_section m) =
      let early : missing due t.kind ≡ Some c = missing_to before t due d c ran m in
      let clash : ◌≡◌ {A = Option SpecCode} None (Some c) = sym none ∙ early in
      absurd cc

  -- What a step over the token answers.
  abbrev pub Answer : Result State SpecCode → Type 0
  Answer (Ok s) = ((c : SpecCode) → Stands c before (Some t) → ⊥) × (step due t.kind d ≡ Some s) × (s.depth ≤ 200)
  Answer (Err c) = Stands c before (Some t) × ((other : SpecCode) → Stands other before (Some t) → number c ≤ number other)

  no_early : missing due t.kind ≡ None → (c : SpecCode) → Missing c before (Some t) → ⊥
  no_early none c m =
      let early : missing due t.kind ≡ Some c = missing_to before t due d c ran m in
      let clash : ◌≡◌ {A = Option SpecCode} None (Some c) = sym none ∙ early in
      cc

  least_early : (c : SpecCode) → t.kind ≢ Bad → Missing c before (Some t) → missing due t.kind ≡ Some c → (other : SpecCode)
      → Kinds other before (Some t) → number c ≤ number other
  least_early c good m e other (by_byte f k) = absurd (good k)
  least_early c good m e other (by_token f h without) = absurd (without c m)
  least_early c good m e other (by_depth f k h) = rw f (at_most_deep c before (Some t) m)
  least_early c good m e other (by_section n) =
      let also : missing due t.kind ≡ Some other = missing_to before t due d other ran n in
      let some : ◌≡◌ {A = Option SpecCode} (Some c) (Some other) = sym e ∙ also in
      let same : c ≡ other = cc in
      rw same (omega arith)

  not_byte : t.kind ≢ Bad → (other : SpecCode) → Stands other before (Some t) → other ≢ S1
  not_byte good other h e = good (subst (λ c. Stands c before (Some t)) e h)

  answer : (r : Result State SpecCode) → Outcome t.kind (missing due t.kind) (step due t.kind d) r → Answer r
  answer r (is_bad k) = (k, λ other h. at_least_one other)
  answer r (is_early {c = c} good e) =
      let m = missing_from before t due d c ran e in
      (missing_stands c before (Some t) m, λ other h. least_early c good m e other (kinds other before (Some t) h))
  answer r (is_stuck good none stuck) =
      ((inr (stops before t due d ran stuck), no_early none), λ other h. at_least_two other (not_byte good other h))
  answer r (is_deep s good none goes deep) =
      let stands : Stands S14 before (Some t) = elim (rises (move_of due t.kind d s goes)) [
        | inl low ↦ absurd (omega (arith, low, within, deep))
        | inr (k, up) ↦ (
            let full : d ≡ 200 = omega (arith, up, within, deep) in
            let opened : open_after 0 before ≡ 200 = sym (open_run before due d ran).0 ∙ full in
            (k, opened))
      ] in
      (stands, λ other h. let only = only_deep s good none goes other (kinds other before (Some t) h) in rw only.0 (omega arith))
  answer r (is_fine {s = s} good none goes low) =
      ((λ c h. let deep = only_deep s good none goes c (kinds c before (Some t) h) in absurd (omega (arith, deep.1, low))), goes, low)

  pub token_answer : Answer (token_step due t.kind d)
  token_answer = answer (token_step due t.kind d) (outcome t.kind (missing due t.kind) (step due t.kind d))

-- the end of the text

bad_is_no_section : (c : SpecCode) (before : List Lexeme) (now : Option Lexeme) → Missing c before now → ◌≡◌ {A = Option SpecCode} (Some S2) (Some c) → ⊥
bad_is_no_section S2 before now h e = h
bad_is_no_section S1 before now h e = h
bad_is_no_section S3 before now h e = h
bad_is_no_section S4 before now h e = h
bad_is_no_section S5 before now h e = h
bad_is_no_section S6 before now h e = absurd cc
bad_is_no_section S7 before now h e = absurd cc
bad_is_no_section S8 before now h e = absurd cc
bad_is_no_section S9 before now h e = absurd cc
bad_is_no_section S10 before now h e = h
bad_is_no_section S11 before now h e = h
bad_is_no_section S12 before now h e = h
bad_is_no_section S13 before now h e = h
bad_is_no_section S14 before now h e = h
bad_is_no_section S15 before now h e = h

-- Where a section's first statement is due at the end, the machine says so.
pub missing_at_end : (before : List Lexeme) (due : Due) (d : ℕ) (c : SpecCode) → run before (at FirstLine 0) ≡ at due d → Missing c before None
    → end_code due ≡ Some c
missing_at_end before due d S6 e (empty, now) =
    let is : due ≡ FirstLine = same_due before due FirstLine d 0 e (ap (λ xs. run xs (at FirstLine 0)) empty) in rw is refl
missing_at_end before due d S7 e (read, now) =
    let is : due ≡ NextLine = same_due before due NextLine d 0 e (lines_due before read) in rw is refl
missing_at_end before due d S8 e (read, now) =
    let is : due ≡ NextSymbol = same_due before due NextSymbol d 0 e (symbols_due before read) in rw is refl
missing_at_end before due d S9 e (read, now) =
    let is : due ≡ NextOutput = same_due before due NextOutput d 0 e (outputs_due before read) in rw is refl
missing_at_end before due d c e h = absurd h

-- What stands at the end, by what is due there.
abbrev EndAnswer : Due → List Lexeme → Option SpecCode → Type 0
EndAnswer due before None = due ≡ NextExpr
EndAnswer due before (Some c) = Stands c before None

end_stands : (due : Due) (d : ℕ) (before : List Lexeme) → Prefix due d before → (Continues before None → due ≡ NextExpr)
    → ((c : SpecCode) → Missing c before None → end_code due ≡ Some c) → EndAnswer due before (end_code due)
end_stands FirstLine d before h whole miss = (h, inl refl)
end_stands NextLine d before h whole miss = (h, inl refl)
end_stands NextSymbol d before h whole miss = (h, inl refl)
end_stands NextOutput d before h whole miss = (h, refl)
end_stands NextExpr d before h whole miss = refl
end_stands due d before h whole miss =
    (inr (λ more. let clash = whole more in absurd cc), λ c m. bad_is_no_section c before None m (miss c m))

module _ (before : List Lexeme) (due : Due) (d : ℕ) (ran : run before (at FirstLine 0) ≡ at due d) where
  stands_at_end : EndAnswer due before (end_code due)
  stands_at_end =
      end_stands due d before (alive before due d ran) (λ more. ends_due before more.0 due d ran more.1)
      (λ c m. missing_at_end before due d c ran m)

  -- Where the machine has no code for the end, the tokens are a specification.
  pub good_end : end_code due ≡ None → (found : Syntax) × Specifies before found
  good_end e =
      let is : due ≡ NextExpr = subst (λ o. EndAnswer due before o) e stands_at_end in
      accepts before d (ran ∙ ap (λ now. at now d) is)

  least_end : (c : SpecCode) → end_code due ≡ Some c → Kinds c before None → (other : SpecCode) → Kinds other before None → number c ≤ number other
  least_end c e k other (by_byte f h) = absurd h
  least_end c e k other (by_depth f (inl h) g) = absurd h
  least_end c e k other (by_depth f (inr h) g) = absurd h
  least_end c e (by_byte f h) other o = absurd h
  least_end c e (by_depth f (inl h) g) other o = absurd h
  least_end c e (by_depth f (inr h) g) other o = absurd h
  least_end c e (by_token f h without) other (by_token g i also) = rw (f, g) (omega arith)
  least_end c e (by_token f h without) other (by_section m) = absurd (without other m)
  least_end c e (by_section m) other (by_token g i also) = absurd (also c m)
  least_end c e (by_section m) other (by_section n) =
      let some : ◌≡◌ {A = Option SpecCode} (Some c) (Some other) = sym (missing_at_end before due d c ran m) ∙ missing_at_end before due d other ran n in
      let same : c ≡ other = cc in
      rw same (omega arith)

  -- The code that the machine has for the end stands there, and is the lowest.
  pub end_answer : (c : SpecCode) → end_code due ≡ Some c
      → Stands c before None × ((other : SpecCode) → Stands other before None → number c ≤ number other)
  end_answer c e =
      let stands : Stands c before None = subst (λ o. EndAnswer due before o) e stands_at_end in
      (stands, λ other h. least_end c e (kinds c before None stands) other (kinds other before None h))
