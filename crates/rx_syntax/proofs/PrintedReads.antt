-- What the tokens of a printed specification say.
use Rattle.std.proofs.Common.{◌≡◌, ℕ, ◌+◌, ◌<◌, ◌≤◌, List, [], ◌∷◌, ◌++◌, length, map, flat_map, codes, refl, ap, sym, ◌∙◌}
use Rattle.std.specs.Prelude.{◌≢◌, slice_index_or}
use Rattle.std.proofs.lemmas.List.{append_assoc}
use Rattle.rx_lang.specs.Expression.{Expr}
use Rattle.rx_lang.specs.Specification.{NamedPattern, Specification}
use Rattle.rx_syntax.specs.Lexemes.{Lexeme, word_of}
use Rattle.rx_syntax.specs.Grammar.{Tree, SymbolTokens, NamesOf, SymbolOf, StatementTree, ExprOf, Statements, one, Syntax, Specifies}
use Rattle.rx_syntax.specs.Accepted.{number_in, resolve, named_pattern, Says}
use Rattle.rx_syntax.specs.Uses.{undeclared}
use Rattle.rx_syntax.specs.Printed.{needs_version_2, printed}
use Rattle.rx_syntax.specs.declared.kind.Kind.{Kind}
use Rattle.rx_syntax.specs.declared.kind.Kind.TheVariants as kinds
use Rattle.rx_syntax.proofs.Bits.{Bit, bits_text, tokens_of, tokens_append}
use Rattle.rx_syntax.proofs.PrintedTrees.{StandAt, stand_front, stand_behind, whole_reads}
use Rattle.rx_syntax.proofs.PrintedSections.{names_bits, symbol_bits, Statement, statement_bits, statement_of, names_read, symbol_read, statement_read, SayThem, statements_read}
use Rattle.rx_syntax.proofs.NewNames.{behind_lines, behind_symbols, lines_declared, symbols_declared, symbols_numbered, outputs_numbered}
use Rattle.rx_syntax.proofs.CountedUses.{AllProper}
use Rattle.rx_syntax.proofs.Depths.{deepest}
use Rattle.rx_syntax.proofs.CleanBack.{clean_back}
use Rattle.rx_syntax.proofs.PrintedText.{names_in, statements_in, spec_bits, IsReadBack}
use Rattle.rx_syntax.proofs.PrintedVersion.{sections_at, sections_stand, printed_tokens}

names_some : (text : List ℕ) (place : ℕ) (kind : Kind) (keyword : List ℕ) (names : List (List ℕ)) (rest : List ℕ) → names ≢ []
    → StandAt text place (names_bits kind keyword names) rest
    → (found : List Lexeme) × NamesOf kind (tokens_of place (names_bits kind keyword names)) found × (map (word_of text) found ≡ names)
names_some text place kind keyword [] rest some stands = absurd (some refl)
names_some text place kind keyword (name ∷ names) rest some stands = names_read text place kind keyword name names rest stands

symbols_say : (text : List ℕ) (ss : List NamedPattern) → SayThem SymbolOf symbol_bits (named_pattern text) text ss
symbols_say text [] = tt
symbols_say text (s ∷ ss) = (λ place rest stands. symbol_read text s place rest stands, symbols_say text ss)

symbols_some : (text : List ℕ) (place : ℕ) (ss : List NamedPattern) (rest : List ℕ) → ss ≢ [] → StandAt text place (flat_map symbol_bits ss) rest
    → (found : List SymbolTokens) × Statements SymbolOf (tokens_of place (flat_map symbol_bits ss)) found × (map (named_pattern text) found ≡ ss)
symbols_some text place [] rest some stands = absurd (some refl)
symbols_some text place (s ∷ ss) rest some stands =
    statements_read SymbolOf symbol_bits (named_pattern text) text s ss (symbols_say text (s ∷ ss)) place rest stands

-- the tokens of the printed text
abbrev pub printed_as_tokens : Specification → List Lexeme
printed_as_tokens spec = tokens_of (sections_at (needs_version_2 spec)) (spec_bits spec)

module _ (limit : ℕ) (spec : Specification) (h : IsReadBack limit spec) where
  abbrev bits : Statement → List Bit
  bits s = statement_bits (names_in spec) spec.outputs s

  abbrev pub meant : Tree → Expr
  meant t = resolve (number_in (names_in spec)) (number_in spec.outputs) (printed spec) t

  number_symbols : (k : ℕ) → k < length (names_in spec) → number_in (names_in spec) (slice_index_or (names_in spec) k []) ≡ k
  number_symbols =
      symbols_numbered (behind_lines undeclared spec.lines) spec.symbols (ap (λ d. d.symbols) (lines_declared undeclared spec.lines)) h.symbols_fit

  number_outputs : (k : ℕ) → k < length spec.outputs → number_in spec.outputs (slice_index_or spec.outputs k []) ≡ k
  number_outputs =
      let lines = behind_lines undeclared spec.lines in
      outputs_numbered (behind_symbols lines spec.symbols) spec.outputs
      (ap (λ d. d.outputs) (symbols_declared lines spec.symbols) ∙ ap (λ d. d.outputs) (lines_declared undeclared spec.lines)) h.outputs_fit

  exprs_say : (ss : List Statement) → AllProper (names_in spec) spec.outputs ss → SayThem ExprOf bits (statement_of meant) (printed spec) ss
  exprs_say [] proper = tt
  exprs_say (s ∷ ss) (first, proper) = (
    statement_read (names_in spec) spec.outputs (printed spec) meant s
        (λ place rest stands.
        let r = whole_reads (names_in spec) spec.outputs (printed spec) number_symbols number_outputs s.expr first place rest stands in
        (r.tree, r.derives, r.means)),
    exprs_say ss proper,
  )

  exprs_some : (place : ℕ) (ss : List Statement) (rest : List ℕ) → ss ≢ [] → AllProper (names_in spec) spec.outputs ss
      → StandAt (printed spec) place (flat_map bits ss) rest
      → (found : List StatementTree) × Statements ExprOf (tokens_of place (flat_map bits ss)) found × (map (statement_of meant) found ≡ ss)
  exprs_some place [] rest some proper stands = absurd (some refl)
  exprs_some place (s ∷ ss) rest some proper stands =
      statements_read ExprOf bits (statement_of meant) (printed spec) s ss (exprs_say (s ∷ ss) proper) place rest stands

  -- The printed text says a syntax that means the specification.
  pub record SaysBack : Type 0 where
    pub syntax : Syntax
    pub says : Says (printed spec) syntax
    pub lines : map (word_of (printed spec)) syntax.lines ≡ spec.lines
    pub symbols : map (named_pattern (printed spec)) syntax.symbols ≡ spec.symbols
    pub outputs : map (word_of (printed spec)) syntax.outputs ≡ spec.outputs
    pub statements : map (statement_of meant) syntax.exprs ≡ statements_in spec

  pub says_back : deepest 0 (printed_as_tokens spec) ≤ 200 → SaysBack
  says_back shallow =
      let ls = names_bits kinds.Line (codes "line") spec.lines in
      let ss = flat_map symbol_bits spec.symbols in
      let os = names_bits kinds.Output (codes "output") spec.outputs in
      let es = flat_map bits (statements_in spec) in
      let at0 = sections_at (needs_version_2 spec) in
      let all : StandAt (printed spec) at0 (ls ++ (ss ++ (os ++ es))) [] = sections_stand spec in
      let at1 = at0 + length (bits_text ls) in
      let at2 = at1 + length (bits_text ss) in
      let at3 = at2 + length (bits_text os) in
      let all1 = stand_behind (printed spec) at0 ls (ss ++ (os ++ es)) [] all in
      let all2 = stand_behind (printed spec) at1 ss (os ++ es) [] all1 in
      let all3 = stand_behind (printed spec) at2 os es [] all2 in
      let l = names_some (printed spec) at0 kinds.Line (codes "line") spec.lines (bits_text (ss ++ (os ++ es)) ++ []) h.some_lines
      (stand_front (printed spec) at0 ls (ss ++ (os ++ es)) [] all) in
      let s = symbols_some (printed spec) at1 spec.symbols (bits_text (os ++ es) ++ []) h.some_symbols
      (stand_front (printed spec) at1 ss (os ++ es) [] all1) in
      let o = names_some (printed spec) at2 kinds.Output (codes "output") spec.outputs (bits_text es ++ []) h.some_outputs
      (stand_front (printed spec) at2 os es [] all2) in
      let e = exprs_some at3 (statements_in spec) [] h.some_statements h.proper all3 in
      let t0 = tokens_of at0 ls in
      let t1 = tokens_of at1 ss in
      let t2 = tokens_of at2 os in
      let t3 = tokens_of at3 es in
      let tokens = tokens_of at0 (spec_bits spec) in
      let cut : tokens ≡ ((t0 ++ t1) ++ t2) ++ t3 =
      tokens_append at0 ls (ss ++ (os ++ es))
      ∙ ap (λ ts. t0 ++ ts) (tokens_append at1 ss (os ++ es) ∙ ap (λ ts. t1 ++ ts) (tokens_append at2 os es))
      ∙ sym (append_assoc t0 t1 (t2 ++ t3)) ∙ sym (append_assoc (t0 ++ t1) t2 t3) in
      let found : Syntax = record { lines = l.0; symbols = s.0; outputs = o.0; exprs = e.0 } in
      let is : Specifies tokens found = record {
        line_tokens = t0;
        symbol_tokens = t1;
        output_tokens = t2;
        expr_tokens = t3;
        whole = cut;
        lines = one l.1;
        symbols = s.1;
        outputs = one o.1;
        exprs = e.1;
      } in
      record {
        syntax = found;
        says = record {
          tokens = tokens;
          are_tokens = printed_tokens limit spec h;
          clean = clean_back tokens found is shallow;
          specifies = is;
        };
        lines = l.2;
        symbols = s.2;
        outputs = o.2;
        statements = e.2;
      }
