-- Tokens of a specification are clean where no more than 200 parentheses are open.
use Rattle.std.proofs.Common.{◌≡◌, ℕ, ◌≤◌, ◌<◌, Some, None, List, [], ◌∷◌, ◌++◌, refl, ap, sym, ◌∙◌, subst, arith}
use Rattle.std.specs.Prelude.{Option, Result}
use Rattle.std.proofs.lemmas.List.{append_assoc, append-nil}
use Rattle.rx_syntax.specs.Lexemes.{Lexeme}
use Rattle.rx_syntax.specs.Grammar.{Syntax, Specifies}
use Rattle.rx_syntax.specs.Refusals.{Stands, Clean, none, next, opened, open_after}
use Rattle.rx_syntax.specs.declared.kind.Kind.{Kind}
use Rattle.rx_syntax.specs.declared.kind.Kind.TheVariants.{Bad}
use Rattle.rx_syntax.specs.declared.machine.Due.{Due}
use Rattle.rx_syntax.specs.declared.machine.Due.TheVariants.{FirstLine, NextExpr}
use Rattle.rx_syntax.specs.declared.machine.State.{State}
use Rattle.rx_syntax.specs.declared.spec_code.SpecCode.{SpecCode}
use Rattle.rx_syntax.specs.Machine.{at, step, missing, next_state, run, token_step}
use Rattle.rx_syntax.proofs.Moves.{Moves, first_line, line_name, line_names, line_end, next_line, first_symbol, symbol_name, symbol_equals, symbol_pattern, symbol_end, next_symbol, first_output, output_name, output_names, output_end, next_output, first_expr, part_name, part_open, rest_name, rest_open, rest_close, rest_bar, rest_star, rest_plus, rest_question, rest_mark, rest_end, mark_name, next_expr, pattern_bits, first_scan, next_scan, part_class, rest_class, class_name, class_names, class_close, rest_brace, least_bits, least_number, bounds_comma, most_bits, most_number, bounds_end, run_append, run_dead}
use Rattle.rx_syntax.proofs.Codes.{move_of, open_run, Outcome, is_bad, is_early, is_stuck, is_deep, is_fine, outcome}
use Rattle.rx_syntax.proofs.Standing.{Answer, token_answer}
use Rattle.rx_syntax.proofs.Derived.{specified_run}
use Rattle.rx_syntax.proofs.Depths.{deepest, deepest_from, open_append}

not_early : {due now : Due} {k : Kind} {d e : ℕ} → Moves due k d now e → missing due k ≡ None
not_early first_line = refl
not_early line_name = refl
not_early line_names = refl
not_early line_end = refl
not_early next_line = refl
not_early first_symbol = refl
not_early symbol_name = refl
not_early symbol_equals = refl
not_early symbol_pattern = refl
not_early symbol_end = refl
not_early next_symbol = refl
not_early first_output = refl
not_early output_name = refl
not_early output_names = refl
not_early output_end = refl
not_early next_output = refl
not_early first_expr = refl
not_early part_name = refl
not_early part_open = refl
not_early rest_name = refl
not_early rest_open = refl
not_early rest_close = refl
not_early rest_bar = refl
not_early rest_star = refl
not_early rest_plus = refl
not_early rest_question = refl
not_early rest_mark = refl
not_early rest_end = refl
not_early mark_name = refl
not_early next_expr = refl
not_early pattern_bits = refl
not_early first_scan = refl
not_early next_scan = refl
not_early part_class = refl
not_early rest_class = refl
not_early class_name = refl
not_early class_names = refl
not_early class_close = refl
not_early rest_brace = refl
not_early least_bits = refl
not_early least_number = refl
not_early bounds_comma = refl
not_early most_bits = refl
not_early most_number = refl
not_early bounds_end = refl

not_bad : {due now : Due} {d e : ℕ} → Moves due Bad d now e → ⊥
not_bad h = elim h [ ]

module _ (seen : List Lexeme) (t : Lexeme) (state s : State) (ran : run seen (at FirstLine 0) ≡ Some state) (low : state.depth ≤ 200)
    (goes : step state.due t.kind state.depth ≡ Some s) (flat : s.depth ≤ 200) where
  move : Moves state.due t.kind state.depth s.due s.depth
  move = move_of state.due t.kind state.depth s goes

  by_outcome : (r : Result State SpecCode) → Outcome t.kind (missing state.due t.kind) (step state.due t.kind state.depth) r
      → Answer seen t state.due state.depth ran low r → (c : SpecCode) → Stands c seen (Some t) → ⊥
  by_outcome r (is_bad k) answer c h = not_bad (subst (λ k. Moves state.due k state.depth s.due s.depth) k move)
  by_outcome r (is_early {c = early} good e) answer c h =
      let clash : ◌≡◌ {A = Option SpecCode} None (Some early) = sym (not_early move) ∙ e in cc
  by_outcome r (is_stuck good late stuck) answer c h =
      let clash : ◌≡◌ {A = Option State} (Some s) None = sym goes ∙ stuck in cc
  by_outcome r (is_deep other good late there deep) answer c h =
      let same : ◌≡◌ {A = Option State} (Some s) (Some other) = sym goes ∙ there in
      let equal : s ≡ other = cc in
      let high : 200 < s.depth = subst (λ (o : State). 200 < o.depth) (sym equal) deep in
      omega (arith, high, flat)
  by_outcome r (is_fine good late there fine) answer c h = answer.0 c h

  none_stands : (c : SpecCode) → Stands c seen (Some t) → ⊥
  none_stands =
      by_outcome (token_step state.due t.kind state.depth) (outcome t.kind (missing state.due t.kind) (step state.due t.kind state.depth))
      (token_answer seen t state.due state.depth ran low)

dead_end : (more : List Lexeme) → run more None ≡ at NextExpr 0 → ⊥
dead_end more e = let clash : ◌≡◌ {A = Option State} None (at NextExpr 0) = sym (run_dead more) ∙ e in cc

cleaned : (seen more : List Lexeme) (state : State) → run seen (at FirstLine 0) ≡ Some state → state.depth ≤ 200 → Clean seen
    → run more (Some state) ≡ at NextExpr 0 → deepest (open_after 0 seen) more ≤ 200 → Clean (seen ++ more)
cleaned seen [] state ran low clean ends deep = subst Clean (sym (append-nil seen)) clean
cleaned seen (t ∷ more) state ran low clean ends deep =
    by_next (step state.due t.kind state.depth) refl (λ s i j k l m. cleaned (seen ++ (t ∷ [])) more s i j k l m)
  where
    by_next : (o : Option State) → step state.due t.kind state.depth ≡ o
        → ((s : State) → run (seen ++ (t ∷ [])) (at FirstLine 0) ≡ Some s → s.depth ≤ 200 → Clean (seen ++ (t ∷ []))
        → run more (Some s) ≡ at NextExpr 0 → deepest (open_after 0 (seen ++ (t ∷ []))) more ≤ 200 → Clean ((seen ++ (t ∷ [])) ++ more))
        → Clean (seen ++ (t ∷ more))
    by_next None e go = absurd (dead_end more (ap (run more) (sym e) ∙ ends))
    by_next (Some s) e go =
        let on : run (seen ++ (t ∷ [])) (at FirstLine 0) ≡ Some s = run_append seen (t ∷ []) (at FirstLine 0) ∙ ap (λ m. next_state m t.kind) ran ∙ e in
        let opens : open_after 0 (seen ++ (t ∷ [])) ≡ opened t.kind (open_after 0 seen) = open_append 0 seen (t ∷ []) in
        let behind : deepest (opened t.kind (open_after 0 seen)) more ≤ 200 = omega (arith, deep) in
        let now : s.depth ≡ open_after 0 (seen ++ (t ∷ [])) = (open_run (seen ++ (t ∷ [])) s.due s.depth on).0 in
        let flat : s.depth ≤ 200 = omega (arith, now, opens, behind, deepest_from (opened t.kind (open_after 0 seen)) more) in
        subst Clean (append_assoc seen (t ∷ []) more)
        (go s on flat (next t refl clean (none_stands seen t state s ran low e flat)) (ap (run more) (sym e) ∙ ends)
        (subst (λ n. deepest n more ≤ 200) (sym opens) behind))

pub clean_back : (tokens : List Lexeme) (syntax : Syntax) → Specifies tokens syntax → deepest 0 tokens ≤ 200 → Clean tokens
clean_back tokens syntax h deep = cleaned [] tokens (record { due = FirstLine; depth = 0 }) refl (omega arith) none (specified_run tokens syntax h) deep
