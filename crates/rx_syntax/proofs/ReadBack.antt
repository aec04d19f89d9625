-- The printed text of a specification that was accepted is accepted as the same specification.
use Rattle.std.proofs.Common.{◌≡◌, ℕ, ◌≤◌, Bool, true, false, None, List, [], ◌∷◌, ◌++◌, length, map, refl, ap, sym, ◌∙◌, subst, arith, length-append}
use Rattle.std.specs.Prelude.{◌≢◌, max}
use Rattle.std.proofs.lemmas.List.{length-map}
use Rattle.rx_lang.specs.Expression.{Expr}
use Rattle.rx_lang.specs.Specification.{NamedPattern, Specification}
use Rattle.rx_syntax.specs.Lexemes.{Lexeme, LexemesFrom, word_of}
use Rattle.rx_syntax.specs.Grammar.{Tree, NamesOf, SymbolTokens, SymbolOf, StatementTree, keyword_of, ExprOf, Statements, one, more, LinesSymbols, Syntax}
use Rattle.rx_syntax.specs.Uses.{undeclared, syntax_uses, first_use_fault}
use Rattle.rx_syntax.specs.Accepted.{number_in, resolve, named_pattern, trees_of, meaning_of, said, Says, Accepted}
use Rattle.rx_syntax.specs.Refusals.{opened, open_after}
use Rattle.rx_syntax.specs.Printable.{version_for}
use Rattle.rx_syntax.specs.Printed.{needs_version_2, printed}
use Rattle.rx_syntax.specs.declared.kind.Kind.{Kind}
use Rattle.rx_syntax.specs.declared.kind.Kind.TheVariants.{Line, Output}
use Rattle.rx_syntax.specs.declared.version.Version.{Version}
use Rattle.rx_syntax.specs.declared.version.Version.TheVariants.{One, Two}
use Rattle.rx_syntax.specs.declared.machine.Due.TheVariants.{FirstLine, NextOutput}
use Rattle.rx_syntax.specs.Machine.{at, run}
use Rattle.rx_syntax.proofs.Derived.{outputs_due}
use Rattle.rx_syntax.proofs.Codes.{open_run}
use Rattle.rx_syntax.proofs.TokensKept.{Each, each_rest}
use Rattle.rx_syntax.proofs.OldTexts.{IsOld, old_tokens, nothing_new}
use Rattle.rx_syntax.proofs.Depths.{deepest, deepest_append, open_append, balanced, depth, deep_enough, clean_deepest}
use Rattle.rx_syntax.proofs.PrintedSections.{statement_of}
use Rattle.rx_syntax.proofs.CountedUses.{AllProper, total}
use Rattle.rx_syntax.proofs.PrintedText.{names_in, statements_in, spec_flat, AllPlain, AllShallow, IsReadBack}
use Rattle.rx_syntax.proofs.PrintedReads.{printed_as_tokens, meant, SaysBack, says_back}
use Rattle.rx_syntax.proofs.PrintedVersion.{sections_at}
use Rattle.rx_syntax.proofs.NewNames.{behind_lines, behind_symbols, LinesFit, SymbolsFit, OutputsFit}
use Rattle.rx_syntax.proofs.PlainNames.{plain_names, old_names}
use Rattle.rx_syntax.proofs.KeptStatements.{each_sorted, total_sorted, some_sorted, exprs_of, exprs_said, exprs_printed, scans_printed}
use Rattle.rx_syntax.proofs.UsesInOrder.{InOrder, means_in, in_order, faultless}

names_said : (text : List ℕ) (ss : List SymbolTokens) → map (λ s. word_of text s.name) ss ≡ map (λ s. s.name) (map (named_pattern text) ss)
names_said text [] = refl
names_said text (s ∷ ss) = ap (λ ns. word_of text s.name ∷ ns) (names_said text ss)

-- sections are not empty

statements_some : {A : Type 0} (Is : List Lexeme → List A → Type 0) → ((xs : List Lexeme) (found : List A) → Is xs found → 1 ≤ length found)
    → {xs : List Lexeme} {found : List A} → Statements Is xs found → 1 ≤ length found
statements_some Is each (one {xs = xs} {found = found} is) = each xs found is
statements_some Is each (more {zs = zs} {some = some} {others = others} whole holds before is) =
    omega (arith, ap (λ xs. length xs) holds, length-append some others, each zs others is)

long : {A : Type 0} (xs : List A) → xs ≢ [] → 1 ≤ length xs
long [] some = absurd (some refl)
long (x ∷ xs) some = omega arith

pub not_empty : {A : Type 0} (xs : List A) → 1 ≤ length xs → xs ≢ []
not_empty [] h e = omega (arith, h)
not_empty (x ∷ xs) h e = cc

-- a text that was accepted

module _ (text : List ℕ) (limit : ℕ) (syntax : Syntax) (says : Says text syntax)
    (no_fault : first_use_fault text limit undeclared (syntax_uses text syntax) ≡ None) where
  abbrev said_spec : Specification
  said_spec = said text syntax

  abbrev meaning : Tree → Expr
  meaning t = meaning_of text syntax t

  ordered : InOrder text limit syntax
  ordered = in_order text limit syntax no_fault

  -- Expressions mean the same with the names of the specification.
  same_meaning : (P : (Tree → Expr) → Type 0) → P (means_in text limit syntax) → P meaning
  same_meaning P h =
      subst (λ ns. P (λ t. resolve (number_in ns) (number_in (map (word_of text) syntax.outputs)) text t)) (sym (names_said text syntax.symbols)) h

  proper : AllProper (names_in said_spec) said_spec.outputs (statements_in said_spec)
  proper =
      each_sorted meaning _ syntax.exprs
      (same_meaning (λ means. AllProper (names_in said_spec) said_spec.outputs (map (statement_of means) syntax.exprs)) ordered.proper)

  few : total (statements_in said_spec) ≤ limit
  few =
      let low = same_meaning (λ means. total (map (statement_of means) syntax.exprs) ≤ limit) ordered.few in
      omega (arith, low, total_sorted meaning syntax.exprs)

  -- parentheses

  abbrev Shallow : List StatementTree → Type 0
  Shallow found = AllShallow (map (statement_of meaning) found)

  shallow_both : (some others : List StatementTree) → Shallow some → Shallow others → Shallow (some ++ others)
  shallow_both [] others h i = i
  shallow_both (s ∷ ss) others (first, h) i = (first, shallow_both ss others h i)

  keyword_opens : (scans : Bool) (d : ℕ) → opened (keyword_of scans) d ≡ d
  keyword_opens true d = refl
  keyword_opens false d = refl

  expr_shallow : (xs : List Lexeme) (found : List StatementTree) → ExprOf xs found → deepest 0 xs ≤ 200 → (open_after 0 xs ≡ 0) × Shallow found
  expr_shallow xs found h low =
      let ends = h.last ∷ [] in
      let rest = h.body ++ ends in
      let word : opened h.keyword.kind 0 ≡ 0 = ap (λ k. opened k 0) h.begins ∙ keyword_opens h.scans 0 in
      let cut : deepest 0 xs ≡ max 0 (deepest 0 rest) = ap (deepest 0) h.tokens ∙ ap (λ d. max 0 (deepest d rest)) word in
      let back : open_after 0 xs ≡ 0 =
      ap (open_after 0) h.tokens ∙ ap (λ d. open_after d rest) word ∙ open_append 0 h.body ends
      ∙ ap (λ d. opened h.last.kind d) (balanced h.derives 0) ∙ ap (λ k. opened k 0) h.ends in
      let deep = deep_enough (number_in (map (λ s. word_of text s.name) syntax.symbols)) (number_in (map (word_of text) syntax.outputs)) text h.derives 0 in
      let here : depth (meaning h.tree) ≤ 200 = omega (arith, low, cut, deepest_append 0 h.body ends, deep) in
      (back, subst Shallow (sym h.entry) (here, tt))

  all_shallow : {xs : List Lexeme} {found : List StatementTree} → Statements ExprOf xs found → deepest 0 xs ≤ 200 → (open_after 0 xs ≡ 0) × Shallow found
  all_shallow (one {xs = xs} {found = found} h) low = expr_shallow xs found h low
  all_shallow (more {xs = xs} {ys = ys} {zs = zs} {some = some} {others = others} whole holds before is) low =
      let cut : deepest 0 xs ≡ max (deepest 0 ys) (deepest (open_after 0 ys) zs) = ap (deepest 0) whole ∙ deepest_append 0 ys zs in
      let first = all_shallow before (omega (arith, low, cut)) in
      let behind : deepest 0 zs ≤ 200 = subst (λ d. deepest d zs ≤ 200) first.0 (omega (arith, low, cut)) in
      let second = expr_shallow zs others is behind in (
        ap (open_after 0) whole ∙ open_append 0 ys zs ∙ ap (λ d. open_after d zs) first.0 ∙ second.0,
        subst Shallow (sym holds) (shallow_both some others first.1 second.1),
      )

  syntax_shallow : AllShallow (statements_in said_spec)
  syntax_shallow =
      let h = says.specifies in
      let three = (h.line_tokens ++ h.symbol_tokens) ++ h.output_tokens in
      let two : LinesSymbols (h.line_tokens ++ h.symbol_tokens) =
      record { front = h.line_tokens; rest = h.symbol_tokens; whole = refl; first = (syntax.lines, h.lines); second = (syntax.symbols, h.symbols) } in
      let due : run three (at FirstLine 0) ≡ at NextOutput 0 =
      outputs_due three (record { front = h.line_tokens ++ h.symbol_tokens; rest = h.output_tokens; whole = refl; first = two; second = (syntax.outputs, h.outputs) }) in
      let none_open : 0 ≡ open_after 0 three = (open_run three NextOutput 0 due).0 in
      let cut : deepest 0 says.tokens ≡ max (deepest 0 three) (deepest (open_after 0 three) h.expr_tokens) =
      ap (deepest 0) h.whole ∙ deepest_append 0 three h.expr_tokens in
      let low = clean_deepest says.clean in
      let behind : deepest 0 h.expr_tokens ≤ 200 = subst (λ d. deepest d h.expr_tokens ≤ 200) (sym none_open) (omega (arith, low, cut)) in
      each_sorted meaning (λ e. depth e ≤ 200) syntax.exprs (all_shallow h.exprs behind).1

  -- the version

  old_text : (v : Version) → LexemesFrom v text says.are_tokens.start says.tokens → v ≡ One → needs_version_2 said_spec ≡ false
  old_text v are e =
      let h = says.specifies in
      let three = (h.line_tokens ++ h.symbol_tokens) ++ h.output_tokens in
      let old = old_tokens (subst (λ v. LexemesFrom v text says.are_tokens.start says.tokens) e are) in
      nothing_new (number_in (map (λ s. word_of text s.name) syntax.symbols)) (number_in (map (word_of text) syntax.outputs)) text h.exprs
      (each_rest IsOld three h.expr_tokens (subst (Each IsOld) h.whole old))

  plain_by : (b : Bool) (v : Version) → (v ≡ One → b ≡ false) → (words : List (List ℕ)) → AllPlain v words → AllPlain (version_for b) words
  plain_by false One old words h = h
  plain_by false Two old words h = old_names words h
  plain_by true Two old words h = h
  plain_by true One old words h = let clash : ◌≡◌ {A = Bool} true false = old refl in absurd cc

  plain_as : (words : List (List ℕ)) → AllPlain says.are_tokens.version words → AllPlain (version_for (needs_version_2 said_spec)) words
  plain_as words h = plain_by (needs_version_2 said_spec) says.are_tokens.version (old_text says.are_tokens.version says.are_tokens.are) words h

  names_long : (kind : Kind) (xs found : List Lexeme) → NamesOf kind xs found → 1 ≤ length found
  names_long kind xs found h = long found h.some

  one_symbol : (xs : List Lexeme) (found : List SymbolTokens) → SymbolOf xs found → 1 ≤ length found
  one_symbol xs found h = omega (arith, ap (λ xs. length xs) h.entry)

  one_expr : (xs : List Lexeme) (found : List StatementTree) → ExprOf xs found → 1 ≤ length found
  one_expr xs found h = omega (arith, ap (λ xs. length xs) h.entry)

  kept : IsReadBack limit said_spec
  kept =
      let plain = plain_names text syntax says in
      let h = says.specifies in
      let lines = statements_some (NamesOf Line) (names_long Line) h.lines in
      let symbols = statements_some SymbolOf one_symbol h.symbols in
      let outputs = statements_some (NamesOf Output) (names_long Output) h.outputs in
      record {
        some_lines = not_empty said_spec.lines (omega (arith, lines, length-map syntax.lines (word_of text)));
        some_symbols = not_empty said_spec.symbols (omega (arith, symbols, length-map syntax.symbols (named_pattern text)));
        some_outputs = not_empty said_spec.outputs (omega (arith, outputs, length-map syntax.outputs (word_of text)));
        some_statements = some_sorted meaning syntax.exprs (statements_some ExprOf one_expr h.exprs);
        plain_lines = plain_as said_spec.lines plain.lines;
        plain_symbols = plain_as (names_in said_spec) plain.symbols;
        plain_outputs = plain_as said_spec.outputs plain.outputs;
        lines_fit = ordered.lines_fit;
        symbols_fit = ordered.symbols_fit;
        outputs_fit = ordered.outputs_fit;
        proper = proper;
        few = few;
      }

  shallow : deepest 0 (printed_as_tokens said_spec) ≤ 200
  shallow = omega (arith, (spec_flat said_spec syntax_shallow (sections_at (needs_version_2 said_spec)) 0).1)

-- a specification from its parts
abbrev with_parts : List (List ℕ) → List NamedPattern → List (List ℕ) → List Expr → List Expr → Specification
with_parts lines symbols outputs statements scans =
    record { lines = lines; symbols = symbols; outputs = outputs; statements = statements; scans = scans }

-- The printed text of a specification is accepted as the specification.
module _ (limit : ℕ) (spec : Specification) (h : IsReadBack limit spec) (shallow : deepest 0 (printed_as_tokens spec) ≤ 200) where
  abbrev text : List ℕ
  text = printed spec

  b : SaysBack limit spec h
  b = says_back limit spec h shallow

  abbrev symbols : List NamedPattern
  symbols = map (named_pattern text) b.syntax.symbols

  abbrev outputs : List (List ℕ)
  outputs = map (word_of text) b.syntax.outputs

  -- Expressions mean the same with the names that the printed text declares.
  by_names : (P : List (List ℕ) → List (List ℕ) → (Tree → Expr) → Type 0) → P (names_in spec) spec.outputs (meant limit spec h)
      → P (map (λ s. s.name) symbols) outputs (means_in text limit b.syntax)
  by_names P i =
      subst (λ ss. P (map (λ s. s.name) ss) outputs (λ t. resolve (number_in (map (λ s. s.name) ss)) (number_in outputs) text t)) (sym b.symbols)
      (subst (λ os. P (names_in spec) os (λ t. resolve (number_in (names_in spec)) (number_in os) text t)) (sym b.outputs) i)

  back_in_order : InOrder text limit b.syntax
  back_in_order = record {
    lines_fit = subst (LinesFit undeclared) (sym b.lines) h.lines_fit;
    symbols_fit = subst (λ ls. SymbolsFit (behind_lines undeclared ls) symbols) (sym b.lines)
        (subst (SymbolsFit (behind_lines undeclared spec.lines)) (sym b.symbols) h.symbols_fit);
    outputs_fit = subst (λ ls. OutputsFit (behind_symbols (behind_lines undeclared ls) symbols) outputs) (sym b.lines)
        (subst (λ ss. OutputsFit (behind_symbols (behind_lines undeclared spec.lines) ss) outputs) (sym b.symbols)
        (subst (OutputsFit (behind_symbols (behind_lines undeclared spec.lines) spec.symbols)) (sym b.outputs) h.outputs_fit));
    proper = by_names (λ ns os means. AllProper ns os (map (statement_of means) b.syntax.exprs))
        (subst (AllProper (names_in spec) spec.outputs) (sym b.statements) h.proper);
    few = by_names (λ ns os means. total (map (statement_of means) b.syntax.exprs) ≤ limit) (subst (λ ss. total ss ≤ limit) (sym b.statements) h.few);
  }

  kind_back : (scans : Bool) (es : List Expr) → exprs_of scans (statements_in spec) ≡ es → es ≡ map (meaning_of text b.syntax) (trees_of scans b.syntax.exprs)
  kind_back scans es e =
      let said_so : es ≡ map (meant limit spec h) (trees_of scans b.syntax.exprs) =
      sym e ∙ ap (exprs_of scans) (sym b.statements) ∙ exprs_said (meant limit spec h) scans b.syntax.exprs in
      let named = by_names (λ ns os means. es ≡ map means (trees_of scans b.syntax.exprs)) said_so in
      subst (λ ns. es ≡ map (λ t. resolve (number_in ns) (number_in outputs) text t) (trees_of scans b.syntax.exprs)) (sym (names_said text b.syntax.symbols)) named

  said_back : spec ≡ said text b.syntax
  said_back =
      let es = map (meaning_of text b.syntax) (trees_of false b.syntax.exprs) in
      ap (λ ls. with_parts ls spec.symbols spec.outputs spec.statements spec.scans) (sym b.lines)
      ∙ ap (λ ss. with_parts (map (word_of text) b.syntax.lines) ss spec.outputs spec.statements spec.scans) (sym b.symbols)
      ∙ ap (λ os. with_parts (map (word_of text) b.syntax.lines) symbols os spec.statements spec.scans) (sym b.outputs)
      ∙ ap (λ es. with_parts (map (word_of text) b.syntax.lines) symbols outputs es spec.scans) (kind_back false spec.statements (exprs_printed spec.statements spec.scans))
      ∙ ap (λ ss. with_parts (map (word_of text) b.syntax.lines) symbols outputs es ss) (kind_back true spec.scans (scans_printed spec.statements spec.scans))

  pub printed_back : Accepted (printed spec) limit spec
  printed_back = record { syntax = b.syntax; says = b.says; no_fault = faultless text limit b.syntax back_in_order; is = said_back }

pub read_back : (text : List ℕ) (limit : ℕ) (spec : Specification) → Accepted text limit spec → Accepted (printed spec) limit spec
read_back text limit spec h =
    subst (λ s. Accepted (printed s) limit s) (sym h.is) (printed_back limit (said text h.syntax) (kept text limit h.syntax h.says h.no_fault)
    (shallow text limit h.syntax h.says h.no_fault))
