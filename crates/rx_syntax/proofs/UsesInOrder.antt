-- No code stands at the uses of what a text says exactly where names are new and few, patterns fit, and expressions are in order.
use Rattle.std.proofs.Common.{◌≡◌, ℕ, ◌≤◌, None, List, ◌++◌, map, ap, sym, ◌∙◌, subst, arith}
use Rattle.std.proofs.lemmas.List.{append_assoc}
use Rattle.rx_lang.specs.Expression.{Expr}
use Rattle.rx_lang.specs.Specification.{NamedPattern}
use Rattle.rx_syntax.specs.Lexemes.{word_of}
use Rattle.rx_syntax.specs.Grammar.{Tree, Syntax}
use Rattle.rx_syntax.specs.Uses.{Use, line_uses, symbol_uses, output_uses, expr_uses, syntax_uses, Declared, undeclared, first_use_fault}
use Rattle.rx_syntax.specs.Accepted.{number_in, resolve, named_pattern}
use Rattle.rx_syntax.proofs.PrintedSections.{statement_of}
use Rattle.rx_syntax.proofs.NewNames.{behind_lines, behind_symbols, behind_outputs, LinesFit, SymbolsFit, OutputsFit, lines_declared, symbols_declared, outputs_declared, lines_fit, symbols_fit, outputs_fit, lines_faultless, symbols_faultless, outputs_faultless}
use Rattle.rx_syntax.proofs.CountedUses.{AllProper, total, statements_count, statements_free}

-- what three sections declare, before any expression
abbrev all_declared : List (List ℕ) → List NamedPattern → List (List ℕ) → Declared
all_declared lines symbols outputs = record { lines = lines; symbols = map (λ s. s.name) symbols; outputs = outputs; leaves = 0 }

sections_declared : (lines : List (List ℕ)) (symbols : List NamedPattern) (outputs : List (List ℕ))
    → behind_outputs (behind_symbols (behind_lines undeclared lines) symbols) outputs ≡ all_declared lines symbols outputs
sections_declared lines symbols outputs =
    outputs_declared (behind_symbols (behind_lines undeclared lines) symbols) outputs
    ∙ ap (λ (d : Declared). record d { outputs = d.outputs ++ outputs }) (symbols_declared (behind_lines undeclared lines) symbols
    ∙ ap (λ (d : Declared). record d { symbols = d.symbols ++ map (λ s. s.name) symbols }) (lines_declared undeclared lines))

module _ (text : List ℕ) (limit : ℕ) (syntax : Syntax) where
  abbrev lines : List (List ℕ)
  lines = map (word_of text) syntax.lines

  abbrev symbols : List NamedPattern
  symbols = map (named_pattern text) syntax.symbols

  abbrev outputs : List (List ℕ)
  outputs = map (word_of text) syntax.outputs

  -- what an expression means with the names that the text declares
  abbrev pub means_in : Tree → Expr
  means_in t = resolve (number_in (map (λ s. s.name) symbols)) (number_in outputs) text t

  pub record InOrder : Type 0 where
    pub lines_fit : LinesFit undeclared lines
    pub symbols_fit : SymbolsFit (behind_lines undeclared lines) symbols
    pub outputs_fit : OutputsFit (behind_symbols (behind_lines undeclared lines) symbols) outputs
    pub proper : AllProper (map (λ s. s.name) symbols) outputs (map (statement_of means_in) syntax.exprs)
    pub few : total (map (statement_of means_in) syntax.exprs) ≤ limit

  abbrev line_part : List Use
  line_part = line_uses syntax.lines

  abbrev symbol_part : List Use
  symbol_part = symbol_uses syntax.symbols

  abbrev output_part : List Use
  output_part = output_uses syntax.outputs

  abbrev expr_part : List Use
  expr_part = expr_uses text syntax.exprs

  uses_cut : syntax_uses text syntax ≡ line_part ++ (symbol_part ++ (output_part ++ expr_part))
  uses_cut = append_assoc (line_part ++ symbol_part) output_part expr_part ∙ append_assoc line_part symbol_part (output_part ++ expr_part)

  abbrev declared : Declared
  declared = all_declared lines symbols outputs

  abbrev none_from : Declared → List Use → Type 0
  none_from before us = first_use_fault text limit before us ≡ None

  pub in_order : first_use_fault text limit undeclared (syntax_uses text syntax) ≡ None → InOrder
  in_order none =
      let one = lines_fit text limit undeclared syntax.lines (symbol_part ++ (output_part ++ expr_part)) (subst (none_from undeclared) uses_cut none) in
      let two = symbols_fit text limit (behind_lines undeclared lines) syntax.symbols (output_part ++ expr_part) one.1 in
      let three = outputs_fit text limit (behind_symbols (behind_lines undeclared lines) symbols) syntax.outputs expr_part two.1 in
      let rest : none_from declared expr_part = subst (λ d. none_from d expr_part) (sections_declared lines symbols outputs) three.1 in
      let four = statements_count text limit declared syntax.exprs 0 (omega arith) rest in
      record { lines_fit = one.0; symbols_fit = two.0; outputs_fit = three.0; proper = four.0; few = omega (arith, four.1) }

  pub faultless : InOrder → first_use_fault text limit undeclared (syntax_uses text syntax) ≡ None
  faultless h =
      let rest : none_from declared expr_part = statements_free text limit declared syntax.exprs 0 h.proper (omega (arith, h.few)) in
      let three =
      outputs_faultless text limit (behind_symbols (behind_lines undeclared lines) symbols) syntax.outputs expr_part h.outputs_fit
      (subst (λ d. none_from d expr_part) (sym (sections_declared lines symbols outputs)) rest) in
      let two = symbols_faultless text limit (behind_lines undeclared lines) syntax.symbols (output_part ++ expr_part) h.symbols_fit three in
      subst (none_from undeclared) (sym uses_cut) (lines_faultless text limit undeclared syntax.lines (symbol_part ++ (output_part ++ expr_part)) h.lines_fit two)
