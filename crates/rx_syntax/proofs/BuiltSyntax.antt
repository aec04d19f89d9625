-- The tokens of a specification build what the grammar says of them, and so they say one thing.
use Rattle.std.proofs.Common.{◌≡◌, ℕ, Bool, true, false, Some, List, [], ◌∷◌, ◌++◌, refl, ap, sym, ◌∙◌, subst, inl, inr}
use Rattle.std.specs.Prelude.{Option, ◌≢◌}
use Rattle.std.proofs.lemmas.List.{append_assoc, append-nil}
use Rattle.rx_syntax.specs.Lexemes.{Lexeme}
use Rattle.rx_syntax.specs.Grammar.{AreNames, IsPattern, NamesOf, SymbolTokens, StatementTree, SymbolOf, keyword_of, ExprOf, Statements, one, more, Syntax, Specifies}
use Rattle.rx_syntax.specs.declared.kind.Kind.{Kind}
use Rattle.rx_syntax.specs.declared.kind.Kind.TheVariants.{Name, Line, Symbol, Output, Expr, Scan, Equals, Semicolon}
use Rattle.rx_syntax.specs.declared.machine.Due.{Due}
use Rattle.rx_syntax.specs.declared.machine.Due.TheVariants.{FirstLine, LineName, MoreNames, NextLine, SymbolName, SymbolEquals, SymbolPattern, SymbolEnd, NextSymbol, OutputName, MoreOutputs, NextOutput, Part, Rest, NextExpr}
use Rattle.rx_syntax.specs.Machine.{at, step, run}
use Rattle.rx_syntax.proofs.Builder.{Frame, Built, no_number, nothing_built, empty_frame, closed_frame, with_entry, with_tree, act, along, syntax_of}
use Rattle.rx_syntax.proofs.Derived.{goes, Takes, line_first, line_next, symbol_first, symbol_next, output_first, output_next, expr_first, expr_next, scan_first, scan_next, derived_run, line_first_run, output_first_run, line_run, symbol_run, output_run, expr_run, statements_run, lines_run, symbols_run, outputs_run}
use Rattle.rx_syntax.proofs.Building.{builds, framed, built}

-- one token of a known kind
go_built : (t : Lexeme) (ts : List Lexeme) (due : Due) (d : ℕ) (kind : Kind) (b : Built) → t.kind ≡ kind
    → along (t ∷ ts) (at due d) b ≡ along ts (step due kind d) (act due kind t b)
go_built t ts due d kind b e = ap (λ k. along ts (step due k d) (act due k t b)) e

abbrev with_lines : List Lexeme → Built → Built
with_lines names b = record b { lines = names }

abbrev with_outputs : List Lexeme → Built → Built
with_outputs names b = record b { outputs = names }

abbrev with_symbols : Option Lexeme → List SymbolTokens → Built → Built
with_symbols name found b = record b { name = name; symbols = found }

abbrev with_exprs : Bool → List StatementTree → Built → Built
with_exprs scans found b = record b { exprs = found; is_scan = scans; least = no_number; most = no_number; frames = [] }

-- what each section adds

abbrev AddsLines : List Lexeme → Built → Built → Type 0
AddsLines names b c = c ≡ with_lines (b.lines ++ names) b

abbrev AddsSymbols : List SymbolTokens → Built → Built → Type 0
AddsSymbols found b c = (n : Option Lexeme) × (c ≡ with_symbols n (b.symbols ++ found) b)

abbrev AddsOutputs : List Lexeme → Built → Built → Type 0
AddsOutputs names b c = c ≡ with_outputs (b.outputs ++ names) b

abbrev AddsExprs : List StatementTree → Built → Built → Type 0
AddsExprs found b c = (scans : Bool) × (c ≡ with_exprs scans (b.exprs ++ found) b)

-- a keyword where a statement may come, behind which nothing is built

keyword_built : {due next : Due} {key : Kind} → Takes due key next → (k : Lexeme) (xs : List Lexeme) (b : Built) → k.kind ≡ key → (key ≡ Expr → ⊥)
    → (key ≡ Scan → ⊥)
    → along (k ∷ xs) (at due 0) b ≡ along xs (at next 0) b
keyword_built line_first k xs b e n m = rw e refl
keyword_built line_next k xs b e n m = rw e refl
keyword_built symbol_first k xs b e n m = rw e refl
keyword_built symbol_next k xs b e n m = rw e refl
keyword_built output_first k xs b e n m = rw e refl
keyword_built output_next k xs b e n m = rw e refl
keyword_built expr_first k xs b e n m = absurd (n refl)
keyword_built expr_next k xs b e n m = absurd (n refl)
keyword_built scan_first k xs b e n m = absurd (m refl)
keyword_built scan_next k xs b e n m = absurd (m refl)

expr_keyword_built : {due : Due} → Takes due Expr Part → (scans : Bool) (k : Lexeme) (xs : List Lexeme) (b : Built) → k.kind ≡ keyword_of scans
    → along (k ∷ xs) (at due 0) b ≡ along xs (at Part 0) (framed (record b { is_scan = scans }) (empty_frame ∷ []))
expr_keyword_built expr_first false k xs b e = rw e refl
expr_keyword_built expr_first true k xs b e = rw e refl
expr_keyword_built expr_next false k xs b e = rw e refl
expr_keyword_built expr_next true k xs b e = rw e refl

pattern_built : (t : Lexeme) (ts : List Lexeme) (b : Built) → IsPattern t
    → along (t ∷ ts) (at SymbolPattern 0) b ≡ along ts (at SymbolEnd 0) (record b { symbols = with_entry b.name t b.symbols })
pattern_built t ts b (inl e) = rw e refl
pattern_built t ts b (inr e) = rw e refl

-- names

line_names_built : (names : List Lexeme) → AreNames names → (b : Built) → along names (at MoreNames 0) b ≡ with_lines (b.lines ++ names) b
line_names_built [] h b = ap (λ ts. with_lines ts b) (sym (append-nil b.lines))
line_names_built (t ∷ ts) (k, others) b =
    let first = go_built t ts MoreNames 0 Name b k in
    let rest = line_names_built ts others (with_lines (b.lines ++ (t ∷ [])) b) in
    let whole = ap (λ ts. with_lines ts b) (append_assoc b.lines (t ∷ []) ts) in
    first ∙ rest ∙ whole

output_names_built : (names : List Lexeme) → AreNames names → (b : Built) → along names (at MoreOutputs 0) b ≡ with_outputs (b.outputs ++ names) b
output_names_built [] h b = ap (λ ts. with_outputs ts b) (sym (append-nil b.outputs))
output_names_built (t ∷ ts) (k, others) b =
    let first = go_built t ts MoreOutputs 0 Name b k in
    let rest = output_names_built ts others (with_outputs (b.outputs ++ (t ∷ [])) b) in
    let whole = ap (λ ts. with_outputs ts b) (append_assoc b.outputs (t ∷ []) ts) in
    first ∙ rest ∙ whole

first_line_built : (names : List Lexeme) → names ≢ [] → AreNames names → (b : Built)
    → along names (at LineName 0) b ≡ with_lines (b.lines ++ names) b
first_line_built [] some h b = absurd (some refl)
first_line_built (t ∷ ts) some (k, others) b =
    let first = go_built t ts LineName 0 Name b k in
    let rest = line_names_built ts others (with_lines (b.lines ++ (t ∷ [])) b) in
    let whole = ap (λ ts. with_lines ts b) (append_assoc b.lines (t ∷ []) ts) in
    first ∙ rest ∙ whole

first_output_built : (names : List Lexeme) → names ≢ [] → AreNames names → (b : Built)
    → along names (at OutputName 0) b ≡ with_outputs (b.outputs ++ names) b
first_output_built [] some h b = absurd (some refl)
first_output_built (t ∷ ts) some (k, others) b =
    let first = go_built t ts OutputName 0 Name b k in
    let rest = output_names_built ts others (with_outputs (b.outputs ++ (t ∷ [])) b) in
    let whole = ap (λ ts. with_outputs ts b) (append_assoc b.outputs (t ∷ []) ts) in
    first ∙ rest ∙ whole

-- statements

line_built : (due : Due) → Takes due Line LineName → (xs names : List Lexeme) → NamesOf Line xs names → (b : Built)
    → AddsLines names b (along xs (at due 0) b)
line_built due takes xs names h b =
    let after : Built = with_lines (b.lines ++ names) b in
    ap (λ ts. along ts (at due 0) b) h.tokens
    ∙ keyword_built takes h.keyword (names ++ (h.last ∷ [])) b h.begins (λ e. cc) (λ e. cc)
    ∙ builds names (h.last ∷ []) (names ++ (h.last ∷ [])) (at LineName 0) (at MoreNames 0) b after after refl
    (line_first_run names h.some h.are_names) (first_line_built names h.some h.are_names b) (rw h.ends refl)

output_built : (due : Due) → Takes due Output OutputName → (xs names : List Lexeme) → NamesOf Output xs names → (b : Built)
    → AddsOutputs names b (along xs (at due 0) b)
output_built due takes xs names h b =
    let after : Built = with_outputs (b.outputs ++ names) b in
    ap (λ ts. along ts (at due 0) b) h.tokens
    ∙ keyword_built takes h.keyword (names ++ (h.last ∷ [])) b h.begins (λ e. cc) (λ e. cc)
    ∙ builds names (h.last ∷ []) (names ++ (h.last ∷ [])) (at OutputName 0) (at MoreOutputs 0) b after after refl
    (output_first_run names h.some h.are_names) (first_output_built names h.some h.are_names b) (rw h.ends refl)

symbol_built : (due : Due) → Takes due Symbol SymbolName → (xs : List Lexeme) (found : List SymbolTokens) → SymbolOf xs found → (b : Built)
    → AddsSymbols found b (along xs (at due 0) b)
symbol_built due takes xs found h b =
    let rest = h.name ∷ h.equals ∷ h.pattern ∷ h.last ∷ [] in
    let entry : List SymbolTokens = record { name = h.name; pattern = h.pattern } ∷ [] in
    let b1 : Built = record b { name = Some h.name } in
    let b2 : Built = with_symbols (Some h.name) (b.symbols ++ entry) b in
    let inside : along rest (at SymbolName 0) b ≡ b2 =
    go_built h.name (h.equals ∷ h.pattern ∷ h.last ∷ []) SymbolName 0 Name b h.is_name
    ∙ go_built h.equals (h.pattern ∷ h.last ∷ []) SymbolEquals 0 Equals b1 h.is_equals
    ∙ pattern_built h.pattern (h.last ∷ []) b1 h.is_pattern
    ∙ go_built h.last [] SymbolEnd 0 Semicolon b2 h.ends in (
      Some h.name,
      ap (λ ts. along ts (at due 0) b) h.tokens ∙ keyword_built takes h.keyword rest b h.begins (λ e. cc) (λ e. cc) ∙ inside
          ∙ ap (λ es. with_symbols (Some h.name) (b.symbols ++ es) b) (sym h.entry),
    )

expr_built : (due : Due) → Takes due Expr Part → (xs : List Lexeme) (found : List StatementTree) → ExprOf xs found → (b : Built)
    → AddsExprs found b (along xs (at due 0) b)
expr_built due takes xs found h b =
    let c : Built = record b { is_scan = h.scans } in
    let i = built h.derives true 0 c [] in
    let g : Frame = i.0 in
    let closed : along (h.last ∷ []) (at Rest 0) (framed c (g ∷ [])) ≡ with_exprs h.scans (with_tree h.scans (closed_frame g) b.exprs) b =
    rw h.ends refl in (
      h.scans,
      ap (λ ts. along ts (at due 0) b) h.tokens
          ∙ expr_keyword_built takes h.scans h.keyword (h.body ++ (h.last ∷ [])) b h.begins
          ∙ builds h.body (h.last ∷ []) (h.body ++ (h.last ∷ [])) (at Part 0) (at Rest 0) (framed c (empty_frame ∷ [])) (framed c (g ∷ []))
          (with_exprs h.scans (with_tree h.scans (closed_frame g) b.exprs) b) refl (derived_run h.derives true 0) i.1 closed
          ∙ ap (λ o. with_exprs h.scans (with_tree h.scans o b.exprs) b) i.2
          ∙ ap (λ es. with_exprs h.scans (b.exprs ++ es) b) (sym h.entry),
    )

-- sections

module _ {A : Type 0} (Is : List Lexeme → List A → Type 0) (Adds : List A → Built → Built → Type 0) (first later : Due)
    (joins : (some others : List A) (b c d : Built) → Adds some b c → Adds others c d → Adds (some ++ others) b d)
    (begin_run : (ys : List Lexeme) (some : List A) → Is ys some → run ys (at first 0) ≡ at later 0)
    (next_run : (ys : List Lexeme) (some : List A) → Is ys some → run ys (at later 0) ≡ at later 0)
    (begin : (ys : List Lexeme) (some : List A) → Is ys some → (b : Built) → Adds some b (along ys (at first 0) b))
    (again : (ys : List Lexeme) (some : List A) → Is ys some → (b : Built) → Adds some b (along ys (at later 0) b)) where
  section_built : (xs : List Lexeme) (found : List A) → Statements Is xs found → (b : Built) → Adds found b (along xs (at first 0) b)
  section_built xs found (one is) b = begin xs found is b
  section_built xs found (more {ys = ys} {zs = zs} {some = some} {others = others} whole holds before is) b =
      let c : Built = along ys (at first 0) b in
      let i : Adds some b c = section_built ys some before b in
      let j : Adds others c (along zs (at later 0) c) = again zs others is c in
      let all : along xs (at first 0) b ≡ along zs (at later 0) c =
      builds ys zs xs (at first 0) (at later 0) b c (along zs (at later 0) c) whole (statements_run first later begin_run next_run before) refl refl in
      subst (λ found. Adds found b (along xs (at first 0) b)) (sym holds)
      (subst (λ d. Adds (some ++ others) b d) (sym all) (joins some others b c (along zs (at later 0) c) i j))

lines_join : (some others : List Lexeme) (b c d : Built) → AddsLines some b c → AddsLines others c d → AddsLines (some ++ others) b d
lines_join some others b c d e f =
    f ∙ ap (λ (c : Built). with_lines (c.lines ++ others) c) e ∙ ap (λ ts. with_lines ts b) (append_assoc b.lines some others)

outputs_join : (some others : List Lexeme) (b c d : Built) → AddsOutputs some b c → AddsOutputs others c d → AddsOutputs (some ++ others) b d
outputs_join some others b c d e f =
    f ∙ ap (λ (c : Built). with_outputs (c.outputs ++ others) c) e ∙ ap (λ ts. with_outputs ts b) (append_assoc b.outputs some others)

symbols_join : (some others : List SymbolTokens) (b c d : Built) → AddsSymbols some b c → AddsSymbols others c d → AddsSymbols (some ++ others) b d
symbols_join some others b c d (m, e) (n, f) = (
  n,
  f ∙ ap (λ (c : Built). with_symbols n (c.symbols ++ others) c) e
      ∙ ap (λ ts. with_symbols n ts b) (append_assoc b.symbols some others),
)

exprs_join : (some others : List StatementTree) (b c d : Built) → AddsExprs some b c → AddsExprs others c d → AddsExprs (some ++ others) b d
exprs_join some others b c d (m, e) (n, f) = (
  n,
  f ∙ ap (λ (c : Built). with_exprs n (c.exprs ++ others) c) e
      ∙ ap (λ ts. with_exprs n ts b) (append_assoc b.exprs some others),
)

-- the tokens of a specification build what it says
pub syntax_built : (xs : List Lexeme) (s : Syntax) → Specifies xs s → syntax_of (along xs (at FirstLine 0) nothing_built) ≡ s
syntax_built xs s h =
    let two = h.line_tokens ++ h.symbol_tokens in
    let three = two ++ h.output_tokens in
    let b1 : Built = along h.line_tokens (at FirstLine 0) nothing_built in
    let b2 : Built = along h.symbol_tokens (at NextLine 0) b1 in
    let b3 : Built = along h.output_tokens (at NextSymbol 0) b2 in
    let b4 : Built = along h.expr_tokens (at NextOutput 0) b3 in
    let e1 = section_built (NamesOf Line) AddsLines FirstLine NextLine lines_join (line_run FirstLine line_first) (line_run NextLine line_next)
    (line_built FirstLine line_first) (line_built NextLine line_next) h.line_tokens s.lines h.lines nothing_built in
    let e2 = section_built SymbolOf AddsSymbols NextLine NextSymbol symbols_join (symbol_run NextLine symbol_first) (symbol_run NextSymbol symbol_next)
    (symbol_built NextLine symbol_first) (symbol_built NextSymbol symbol_next) h.symbol_tokens s.symbols h.symbols b1 in
    let e3 = section_built (NamesOf Output) AddsOutputs NextSymbol NextOutput outputs_join (output_run NextSymbol output_first)
    (output_run NextOutput output_next) (output_built NextSymbol output_first) (output_built NextOutput output_next) h.output_tokens s.outputs
    h.outputs b2 in
    let e4 = section_built ExprOf AddsExprs NextOutput NextExpr exprs_join (expr_run NextOutput expr_first scan_first) (expr_run NextExpr expr_next scan_next)
    (expr_built NextOutput expr_first) (expr_built NextExpr expr_next) h.expr_tokens s.exprs h.exprs b3 in
    let r1 : run two (at FirstLine 0) ≡ at NextSymbol 0 =
    goes h.line_tokens h.symbol_tokens two (at FirstLine 0) (at NextLine 0) (at NextSymbol 0) refl (lines_run h.lines) (symbols_run h.symbols) in
    let r2 : run three (at FirstLine 0) ≡ at NextOutput 0 =
    goes two h.output_tokens three (at FirstLine 0) (at NextSymbol 0) (at NextOutput 0) refl r1 (outputs_run h.outputs) in
    let a2 : along two (at FirstLine 0) nothing_built ≡ b2 =
    builds h.line_tokens h.symbol_tokens two (at FirstLine 0) (at NextLine 0) nothing_built b1 b2 refl (lines_run h.lines) refl refl in
    let a3 : along three (at FirstLine 0) nothing_built ≡ b3 =
    builds two h.output_tokens three (at FirstLine 0) (at NextSymbol 0) nothing_built b2 b3 refl r1 a2 refl in
    let a4 : along xs (at FirstLine 0) nothing_built ≡ b4 =
    builds three h.expr_tokens xs (at FirstLine 0) (at NextOutput 0) nothing_built b3 b4 h.whole r2 a3 refl in
    let f2 : b2 ≡ record nothing_built { lines = s.lines; name = e2.0; symbols = s.symbols } =
    e2.1 ∙ ap (λ (b : Built). with_symbols e2.0 (b.symbols ++ s.symbols) b) e1 in
    let f3 : b3 ≡ record nothing_built { lines = s.lines; name = e2.0; symbols = s.symbols; outputs = s.outputs } =
    e3 ∙ ap (λ (b : Built). with_outputs (b.outputs ++ s.outputs) b) f2 in
    let f4 : b4 ≡ record nothing_built {
      lines = s.lines;
      name = e2.0;
      symbols = s.symbols;
      outputs = s.outputs;
      exprs = s.exprs;
      is_scan = e4.0;
    } =
    e4.1 ∙ ap (λ (b : Built). with_exprs e4.0 (b.exprs ++ s.exprs) b) f3 in
    ap syntax_of (a4 ∙ f4)

-- tokens say one thing
pub one_syntax : (xs : List Lexeme) (s r : Syntax) → Specifies xs s → Specifies xs r → s ≡ r
one_syntax xs s r x y = sym (syntax_built xs s x) ∙ syntax_built xs r y
