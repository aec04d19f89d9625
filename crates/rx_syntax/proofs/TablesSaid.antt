-- Behind all uses of a specification the tables are those that its tokens say.
use Rattle.std.proofs.Common.{◌≡◌, ℕ, ◌-◌, ◌*◌, List, [], ◌∷◌, ◌++◌, map, refl, ap, sym, ◌∙◌}
use Rattle.std.proofs.lemmas.List.{append_assoc, append-nil}
use Rattle.rx_syntax.specs.Lexemes.{Lexeme, word_of}
use Rattle.rx_syntax.specs.Grammar.{Tree, leaf, union, sequence, star, plus, optional, marked, counted, SymbolTokens, StatementTree, Syntax}
use Rattle.rx_syntax.specs.Uses.{Use, line_use, output_use, mark_use, least_use, most_use, copies_use, number_of, tree_leaves, tree_uses, line_uses, symbol_uses, output_uses, expr_uses, syntax_uses}
use Rattle.rx_syntax.specs.Accepted.{place_bit, named_pattern}
use Rattle.rx_syntax.specs.NameTables.{NameTables, no_tables}
use Rattle.rx_syntax.specs.NameReading.{tables_behind, said_tables}
use Rattle.rx_syntax.proofs.LastPattern.{last_with_pattern}

module _ (text : List ℕ) where
  -- the tables behind some uses
  abbrev pub tables_along : NameTables → List Use → NameTables
  tables_along tables [] = tables
  tables_along tables (u ∷ us) = tables_along (tables_behind text tables u) us

  pub along_append : (tables : NameTables) (us vs : List Use) → tables_along tables (us ++ vs) ≡ tables_along (tables_along tables us) vs
  along_append tables [] vs = refl
  along_append tables (u ∷ us) vs = along_append (tables_behind text tables u) us vs

  along_lines : (tables : NameTables) (ts : List Lexeme)
      → tables_along tables (line_uses ts) ≡ record tables { lines = tables.lines ++ map (word_of text) ts }
  along_lines tables [] = ap (λ names. record tables { lines = names }) (sym (append-nil tables.lines))
  along_lines tables (t ∷ ts) =
      along_lines (tables_behind text tables (line_use t)) ts
      ∙ ap (λ names. record tables { lines = names }) (append_assoc tables.lines (word_of text t ∷ []) (map (word_of text) ts))

  along_symbols : (tables : NameTables) (ss : List SymbolTokens)
      → tables_along tables (symbol_uses ss) ≡ record tables { symbols = tables.symbols ++ map (named_pattern text) ss }
  along_symbols tables [] = ap (λ symbols. record tables { symbols = symbols }) (sym (append-nil tables.symbols))
  along_symbols tables (s ∷ ss) =
      ap (λ symbols. tables_along (record tables { symbols = symbols }) (symbol_uses ss))
      (last_with_pattern (map place_bit (word_of text s.pattern)) tables.symbols (record { name = word_of text s.name; pattern = [] }))
      ∙ along_symbols (record tables { symbols = tables.symbols ++ (named_pattern text s ∷ []) }) ss
      ∙ ap (λ symbols. record tables { symbols = symbols })
      (append_assoc tables.symbols (named_pattern text s ∷ []) (map (named_pattern text) ss))

  along_outputs : (tables : NameTables) (ts : List Lexeme)
      → tables_along tables (output_uses ts) ≡ record tables { outputs = tables.outputs ++ map (word_of text) ts }
  along_outputs tables [] = ap (λ names. record tables { outputs = names }) (sym (append-nil tables.outputs))
  along_outputs tables (t ∷ ts) =
      along_outputs (tables_behind text tables (output_use t)) ts
      ∙ ap (λ names. record tables { outputs = names }) (append_assoc tables.outputs (word_of text t ∷ []) (map (word_of text) ts))

  -- expressions declare nothing
  along_both : (tables : NameTables) (us vs : List Use) → tables_along tables us ≡ tables → tables_along tables vs ≡ tables
      → tables_along tables (us ++ vs) ≡ tables
  along_both tables us vs first second = along_append tables us vs ∙ ap (λ n. tables_along n vs) first ∙ second

  along_tree : (tables : NameTables) (e : Tree) → tables_along tables (tree_uses text e) ≡ tables
  along_tree tables (leaf t) = refl
  along_tree tables (union e f) = along_both tables (tree_uses text e) (tree_uses text f) (along_tree tables e) (along_tree tables f)
  along_tree tables (sequence e f) = along_both tables (tree_uses text e) (tree_uses text f) (along_tree tables e) (along_tree tables f)
  along_tree tables (star e) = along_tree tables e
  along_tree tables (plus e) = along_tree tables e
  along_tree tables (optional e) = along_tree tables e
  along_tree tables (marked e t) = along_both tables (tree_uses text e) (mark_use t ∷ []) (along_tree tables e) refl
  along_tree tables (counted e least most c) =
      along_both tables (tree_uses text e) (least_use least ∷ most_use least most ∷ copies_use c ((number_of text most - 1) * tree_leaves text e) ∷ [])
      (along_tree tables e) refl

  along_exprs : (tables : NameTables) (es : List StatementTree) → tables_along tables (expr_uses text es) ≡ tables
  along_exprs tables [] = refl
  along_exprs tables (e ∷ es) = along_both tables (tree_uses text e.tree) (expr_uses text es) (along_tree tables e.tree) (along_exprs tables es)

  pub along_syntax : (s : Syntax) → tables_along no_tables (syntax_uses text s) ≡ said_tables text s
  along_syntax s =
      let two = line_uses s.lines ++ symbol_uses s.symbols in
      let three = two ++ output_uses s.outputs in
      let lines : NameTables = record no_tables { lines = map (word_of text) s.lines } in
      let symbols : NameTables = record lines { symbols = map (named_pattern text) s.symbols } in
      along_append no_tables three (expr_uses text s.exprs)
      ∙ along_exprs (tables_along no_tables three) s.exprs
      ∙ along_append no_tables two (output_uses s.outputs)
      ∙ ap (λ tables. tables_along tables (output_uses s.outputs))
      (along_append no_tables (line_uses s.lines) (symbol_uses s.symbols)
      ∙ ap (λ tables. tables_along tables (symbol_uses s.symbols)) (along_lines no_tables s.lines)
      ∙ along_symbols lines s.symbols)
      ∙ along_outputs symbols s.outputs
