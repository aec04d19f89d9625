-- What the tokens that were read are, in each state of the machine.
use Rattle.std.proofs.Common.{◌≡◌, ℕ, zero, suc, Some, None, List, [], ◌∷◌, ◌++◌, refl, ap, sym, ◌∙◌, subst, inl, inr}
use Rattle.std.specs.Prelude.{Option, Bool, true, false, pred, ◌≢◌, ◌⊎◌, ⊤}
use Rattle.std.proofs.lemmas.List.{append_assoc, append-nil}
use Rattle.rx_syntax.specs.Lexemes.{Lexeme}
use Rattle.rx_syntax.specs.Grammar.{StatementTree, AreNames, IsPattern, keyword_of, NamesOf, SymbolTokens, SymbolOf, ExprOf, Statements, one, more, Joined, Lines, LinesSymbols, LinesSymbolsOutputs, Syntax, Specifies}
use Rattle.rx_syntax.specs.declared.kind.Kind.{Kind}
use Rattle.rx_syntax.specs.declared.kind.Kind.TheVariants.{Name, Line, Symbol, Output, Expr, Scan, Equals, Semicolon}
use Rattle.rx_syntax.specs.declared.machine.Due.{Due}
use Rattle.rx_syntax.specs.declared.machine.Due.TheVariants.{FirstLine, LineName, MoreNames, NextLine, SymbolName, SymbolEquals, SymbolPattern, SymbolEnd, NextSymbol, OutputName, MoreOutputs, NextOutput, Part, Rest, MarkName, ClassName, ClassNames, Least, Between, Most, BoundsEnd, NextExpr}
use Rattle.rx_syntax.specs.declared.machine.State.{State}
use Rattle.rx_syntax.specs.Machine.{at, step, next_state, run}
use Rattle.rx_syntax.proofs.Moves.{Moves, first_line, line_name, line_names, line_end, next_line, first_symbol, symbol_name, symbol_equals, symbol_pattern, symbol_end, next_symbol, first_output, output_name, output_names, output_end, next_output, first_expr, part_name, part_open, rest_name, rest_open, rest_close, rest_bar, rest_star, rest_plus, rest_question, rest_mark, rest_end, mark_name, next_expr, pattern_bits, first_scan, next_scan, part_class, rest_class, class_name, class_names, class_close, rest_brace, least_bits, least_number, bounds_comma, most_bits, most_number, bounds_end, Moved, moved}
use Rattle.rx_syntax.proofs.Fronts.{PartDue, RestDue, MarkDue, starts_part, name_as_part, opens_part, name_goes_on, opens_next, bar_goes_on, star_goes_on, plus_goes_on, question_goes_on, mark_goes_on, names_mark, class_opens, class_opens_next, class_first, class_goes_on, class_closes, brace_opens, least_read, comma_read, most_read, brace_closes, ClassDue, NoNames, ClassNamed, BoundsDue, BraceRead, LeastRead, CommaRead, MostRead, closes_part, is_expression}

-- A section is about to begin, or has some statements.
abbrev pub OnLines : List Lexeme → Type 0
OnLines xs = (xs ≡ []) ⊎ Lines xs

abbrev pub OnSymbols : List Lexeme → Type 0
OnSymbols xs = Lines xs ⊎ LinesSymbols xs

abbrev pub OnOutputs : List Lexeme → Type 0
OnOutputs xs = LinesSymbols xs ⊎ LinesSymbolsOutputs xs

-- The tokens are a whole specification.
abbrev pub All : List Lexeme → Type 0
All xs = Joined LinesSymbolsOutputs (λ ys. (found : List StatementTree) × Statements ExprOf ys found) xs

abbrev pub OnExprs : List Lexeme → Type 0
OnExprs xs = LinesSymbolsOutputs xs ⊎ All xs

-- A statement was begun behind such tokens, and this was read of it behind its keyword.
pub record Began (Behind : List Lexeme → Type 0) (key : Kind) (Inside : List Lexeme → Type 0) (xs : List Lexeme) : Type 0 where
  past : List Lexeme
  keyword : Lexeme
  body : List Lexeme
  behind : Behind past
  begins : keyword.kind ≡ key
  whole : xs ≡ past ++ (keyword ∷ body)
  inside : Inside body

abbrev pub SomeNames : List Lexeme → Type 0
SomeNames xs = (xs ≢ []) × AreNames xs

abbrev pub NameRead : List Lexeme → Type 0
NameRead xs = (n : Lexeme) × (n.kind ≡ Name) × (xs ≡ n ∷ [])

abbrev pub EqualsRead : List Lexeme → Type 0
EqualsRead xs = (n : Lexeme) × (e : Lexeme) × (n.kind ≡ Name) × (e.kind ≡ Equals) × (xs ≡ n ∷ e ∷ [])

abbrev pub PatternRead : List Lexeme → Type 0
PatternRead xs = (n : Lexeme) × (e : Lexeme) × (p : Lexeme) × (n.kind ≡ Name) × (e.kind ≡ Equals) × IsPattern p × (xs ≡ n ∷ e ∷ p ∷ [])

-- an `expr` or a `scan` statement
abbrev pub BeganExpr : (List Lexeme → Type 0) → List Lexeme → Type 0
BeganExpr Inside xs = (scans : Bool) × Began OnExprs (keyword_of scans) Inside xs

abbrev pub Prefix : Due → ℕ → List Lexeme → Type 0
Prefix FirstLine d xs = xs ≡ []
Prefix LineName d xs = Began OnLines Line (λ ys. ys ≡ []) xs
Prefix MoreNames d xs = Began OnLines Line SomeNames xs
Prefix NextLine d xs = Lines xs
Prefix SymbolName d xs = Began OnSymbols Symbol (λ ys. ys ≡ []) xs
Prefix SymbolEquals d xs = Began OnSymbols Symbol NameRead xs
Prefix SymbolPattern d xs = Began OnSymbols Symbol EqualsRead xs
Prefix SymbolEnd d xs = Began OnSymbols Symbol PatternRead xs
Prefix NextSymbol d xs = LinesSymbols xs
Prefix OutputName d xs = Began OnOutputs Output (λ ys. ys ≡ []) xs
Prefix MoreOutputs d xs = Began OnOutputs Output SomeNames xs
Prefix NextOutput d xs = LinesSymbolsOutputs xs
Prefix Part d xs = BeganExpr (PartDue d) xs
Prefix Rest d xs = BeganExpr (RestDue d) xs
Prefix MarkName d xs = BeganExpr (MarkDue d) xs
Prefix ClassName d xs = BeganExpr (ClassDue NoNames d) xs
Prefix ClassNames d xs = BeganExpr (ClassDue ClassNamed d) xs
Prefix Least d xs = BeganExpr (BoundsDue BraceRead d) xs
Prefix Between d xs = BeganExpr (BoundsDue LeastRead d) xs
Prefix Most d xs = BeganExpr (BoundsDue CommaRead d) xs
Prefix BoundsEnd d xs = BeganExpr (BoundsDue MostRead d) xs
Prefix NextExpr d xs = All xs

-- a keyword
begin : (Behind : List Lexeme → Type 0) (key : Kind) (Inside : List Lexeme → Type 0) (xs : List Lexeme) (t : Lexeme) → Behind xs → t.kind ≡ key
    → Inside [] → Began Behind key Inside (xs ++ (t ∷ []))
begin Behind key Inside xs t b k i = record { past = xs; keyword = t; body = []; behind = b; begins = k; whole = refl; inside = i }

-- one more token of the statement
extend : (Behind : List Lexeme → Type 0) (key : Kind) (Inside Now : List Lexeme → Type 0) (xs : List Lexeme) (t : Lexeme)
    → ((ys : List Lexeme) → Inside ys → Now (ys ++ (t ∷ []))) → Began Behind key Inside xs → Began Behind key Now (xs ++ (t ∷ []))
extend Behind key Inside Now xs t go h = record {
  past = h.past;
  keyword = h.keyword;
  body = h.body ++ (t ∷ []);
  behind = h.behind;
  begins = h.begins;
  whole = ap (λ ys. ys ++ (t ∷ [])) h.whole ∙ append_assoc h.past (h.keyword ∷ h.body) (t ∷ []);
  inside = go h.body h.inside;
}

extend_expr : (Inside Now : List Lexeme → Type 0) (xs : List Lexeme) (t : Lexeme) → ((ys : List Lexeme) → Inside ys → Now (ys ++ (t ∷ [])))
    → BeganExpr Inside xs → BeganExpr Now (xs ++ (t ∷ []))
extend_expr Inside Now xs t go (scans, h) = (scans, extend OnExprs (keyword_of scans) Inside Now xs t go h)

first_name : (t : Lexeme) → t.kind ≡ Name → (ys : List Lexeme) → ys ≡ [] → SomeNames (ys ++ (t ∷ []))
first_name t k ys e = subst (λ zs. SomeNames (zs ++ (t ∷ []))) (sym e) ((λ empty. cc), (k, tt))

names_more : (t : Lexeme) → t.kind ≡ Name → (ys : List Lexeme) → AreNames ys → AreNames (ys ++ (t ∷ []))
names_more t k [] h = (k, tt)
names_more t k (y ∷ ys) h = (h.0, names_more t k ys h.1)

more_not_empty : (t : Lexeme) (ys : List Lexeme) → (ys ++ (t ∷ [])) ≢ []
more_not_empty t [] e = cc
more_not_empty t (y ∷ ys) e = cc

some_names_more : (t : Lexeme) → t.kind ≡ Name → (ys : List Lexeme) → SomeNames ys → SomeNames (ys ++ (t ∷ []))
some_names_more t k ys h = (more_not_empty t ys, names_more t k ys h.1)

name_read : (t : Lexeme) → t.kind ≡ Name → (ys : List Lexeme) → ys ≡ [] → NameRead (ys ++ (t ∷ []))
name_read t k ys e = (t, k, ap (λ zs. zs ++ (t ∷ [])) e)

equals_read : (t : Lexeme) → t.kind ≡ Equals → (ys : List Lexeme) → NameRead ys → EqualsRead (ys ++ (t ∷ []))
equals_read t k ys (n, kn, e) = (n, t, kn, k, ap (λ zs. zs ++ (t ∷ [])) e)

pattern_read : (t : Lexeme) → IsPattern t → (ys : List Lexeme) → EqualsRead ys → PatternRead (ys ++ (t ∷ []))
pattern_read t k ys (n, s, kn, ks, e) = (n, s, t, kn, ks, k, ap (λ zs. zs ++ (t ∷ [])) e)

-- One more statement of a section.
joined_first : {A : Type 0} {Is : List Lexeme → List A → Type 0} (P : List Lexeme → Type 0) (ys zs : List Lexeme) (found : List A) → P ys
    → Is zs found → Joined P (λ us. (all : List A) × Statements Is us all) (ys ++ zs)
joined_first P ys zs found p is = record { front = ys; rest = zs; whole = refl; first = p; second = (found, one is) }

joined_next : {A : Type 0} {Is : List Lexeme → List A → Type 0} (P : List Lexeme → Type 0) (ys zs : List Lexeme) (found : List A)
    → Joined P (λ us. (all : List A) × Statements Is us all) ys → Is zs found → Joined P (λ us. (all : List A) × Statements Is us all) (ys ++ zs)
joined_next P ys zs found h is = record {
  front = h.front;
  rest = h.rest ++ zs;
  whole = ap (λ us. us ++ zs) h.whole ∙ append_assoc h.front h.rest zs;
  first = h.first;
  second = (h.second.0 ++ found, more refl refl h.second.1 is);
}

lines_more : (ys zs names : List Lexeme) → OnLines ys → NamesOf Line zs names → Lines (ys ++ zs)
lines_more ys zs names (inl e) is = (names, subst (λ us. Statements (NamesOf Line) (us ++ zs) names) (sym e) (one is))
lines_more ys zs names (inr h) is = (h.0 ++ names, more refl refl h.1 is)

symbols_more : (ys zs : List Lexeme) (found : List SymbolTokens) → OnSymbols ys → SymbolOf zs found → LinesSymbols (ys ++ zs)
symbols_more ys zs found (inl h) is = joined_first Lines ys zs found h is
symbols_more ys zs found (inr h) is = joined_next Lines ys zs found h is

outputs_more : (ys zs names : List Lexeme) → OnOutputs ys → NamesOf Output zs names → LinesSymbolsOutputs (ys ++ zs)
outputs_more ys zs names (inl h) is = joined_first LinesSymbols ys zs names h is
outputs_more ys zs names (inr h) is = joined_next LinesSymbols ys zs names h is

exprs_more : (ys zs : List Lexeme) (found : List StatementTree) → OnExprs ys → ExprOf zs found → All (ys ++ zs)
exprs_more ys zs found (inl h) is = joined_first LinesSymbolsOutputs ys zs found h is
exprs_more ys zs found (inr h) is = joined_next LinesSymbolsOutputs ys zs found h is

-- the end of a statement

names_of : (key : Kind) (k t : Lexeme) (names : List Lexeme) → k.kind ≡ key → t.kind ≡ Semicolon → SomeNames names
    → NamesOf key (k ∷ (names ++ (t ∷ []))) names
names_of key k t names b e h =
    record { keyword = k; last = t; begins = b; some = h.0; are_names = h.1; ends = e; tokens = refl }

module _ (xs : List Lexeme) (t : Lexeme) (end : t.kind ≡ Semicolon) where
  -- the statement with its semicolon
  closed_whole : (past : List Lexeme) (k : Lexeme) (body : List Lexeme) → xs ≡ past ++ (k ∷ body) → past ++ (k ∷ (body ++ (t ∷ []))) ≡ xs ++ (t ∷ [])
  closed_whole past k body e = sym (ap (λ ys. ys ++ (t ∷ [])) e ∙ append_assoc past (k ∷ body) (t ∷ []))

  lines_end : Began OnLines Line SomeNames xs → Lines (xs ++ (t ∷ []))
  lines_end h =
      subst (λ ys. Lines ys) (closed_whole h.past h.keyword h.body h.whole)
      (lines_more h.past _ h.body h.behind (names_of Line h.keyword t h.body h.begins end h.inside))

  outputs_end : Began OnOutputs Output SomeNames xs → LinesSymbolsOutputs (xs ++ (t ∷ []))
  outputs_end h =
      subst (λ ys. LinesSymbolsOutputs ys) (closed_whole h.past h.keyword h.body h.whole)
      (outputs_more h.past _ h.body h.behind (names_of Output h.keyword t h.body h.begins end h.inside))

  symbols_end : Began OnSymbols Symbol PatternRead xs → LinesSymbols (xs ++ (t ∷ []))
  symbols_end h =
      let r = h.inside in
      let n : Lexeme = r.0 in
      let s : Lexeme = r.1 in
      let p : Lexeme = r.2 in
      let is : SymbolOf (h.keyword ∷ (h.body ++ (t ∷ []))) (record { name = n; pattern = p } ∷ []) = record {
        keyword = h.keyword;
        name = n;
        equals = s;
        pattern = p;
        last = t;
        begins = h.begins;
        is_name = r.3;
        is_equals = r.4;
        is_pattern = r.5;
        ends = end;
        tokens = ap (λ ys. h.keyword ∷ (ys ++ (t ∷ []))) r.6;
        entry = refl;
      } in
      subst (λ ys. LinesSymbols ys) (closed_whole h.past h.keyword h.body h.whole) (symbols_more h.past _ _ h.behind is)

  exprs_end : BeganExpr (RestDue zero) xs → All (xs ++ (t ∷ []))
  exprs_end (scans, h) =
      let e = is_expression h.body h.inside in
      let is : ExprOf (h.keyword ∷ (h.body ++ (t ∷ []))) (record { scans = scans; tree = e.0 } ∷ []) = record {
        keyword = h.keyword;
        scans = scans;
        body = h.body;
        tree = e.0;
        last = t;
        begins = h.begins;
        derives = e.1;
        ends = end;
        tokens = refl;
        entry = refl;
      } in
      subst (λ ys. All ys) (closed_whole h.past h.keyword h.body h.whole) (exprs_more h.past _ _ h.behind is)

pub prefix_step : {due now : Due} {k : Kind} {d e : ℕ} (xs : List Lexeme) (t : Lexeme) → Moves due k d now e → t.kind ≡ k → Prefix due d xs
    → Prefix now e (xs ++ (t ∷ []))
prefix_step xs t first_line k h = begin OnLines Line (λ ys. ys ≡ []) xs t (inl h) k refl
prefix_step xs t line_name k h = extend OnLines Line (λ ys. ys ≡ []) SomeNames xs t (first_name t k) h
prefix_step xs t line_names k h = extend OnLines Line SomeNames SomeNames xs t (some_names_more t k) h
prefix_step xs t line_end k h = lines_end xs t k h
prefix_step xs t next_line k h = begin OnLines Line (λ ys. ys ≡ []) xs t (inr h) k refl
prefix_step xs t first_symbol k h = begin OnSymbols Symbol (λ ys. ys ≡ []) xs t (inl h) k refl
prefix_step xs t symbol_name k h = extend OnSymbols Symbol (λ ys. ys ≡ []) NameRead xs t (name_read t k) h
prefix_step xs t symbol_equals k h = extend OnSymbols Symbol NameRead EqualsRead xs t (equals_read t k) h
prefix_step xs t symbol_pattern k h = extend OnSymbols Symbol EqualsRead PatternRead xs t (pattern_read t (inr k)) h
prefix_step xs t pattern_bits k h = extend OnSymbols Symbol EqualsRead PatternRead xs t (pattern_read t (inl k)) h
prefix_step xs t symbol_end k h = symbols_end xs t k h
prefix_step xs t next_symbol k h = begin OnSymbols Symbol (λ ys. ys ≡ []) xs t (inr h) k refl
prefix_step xs t first_output k h = begin OnOutputs Output (λ ys. ys ≡ []) xs t (inl h) k refl
prefix_step xs t output_name k h = extend OnOutputs Output (λ ys. ys ≡ []) SomeNames xs t (first_name t k) h
prefix_step xs t output_names k h = extend OnOutputs Output SomeNames SomeNames xs t (some_names_more t k) h
prefix_step xs t output_end k h = outputs_end xs t k h
prefix_step xs t next_output k h = begin OnOutputs Output (λ ys. ys ≡ []) xs t (inr h) k refl
prefix_step xs t first_expr k h = (false, begin OnExprs Expr (PartDue zero) xs t (inl h) k (starts_part [] refl))
prefix_step xs t first_scan k h = (true, begin OnExprs Scan (PartDue zero) xs t (inl h) k (starts_part [] refl))
prefix_step xs t next_scan k h = (true, begin OnExprs Scan (PartDue zero) xs t (inr h) k (starts_part [] refl))
prefix_step xs t (part_name {d = d}) k h = extend_expr (PartDue d) (RestDue d) xs t (λ ys g. name_as_part d ys t g k) h
prefix_step xs t (part_open {d = d}) k h = extend_expr (PartDue d) (PartDue (suc d)) xs t (λ ys g. opens_part d ys t g k) h
prefix_step xs t (rest_name {d = d}) k h = extend_expr (RestDue d) (RestDue d) xs t (λ ys g. name_goes_on d ys t g k) h
prefix_step xs t (rest_open {d = d}) k h = extend_expr (RestDue d) (PartDue (suc d)) xs t (λ ys g. opens_next d ys t g k) h
prefix_step xs t (rest_close {d = d}) k h = extend_expr (RestDue (suc d)) (RestDue d) xs t (λ ys g. closes_part d ys t g k) h
prefix_step xs t (rest_bar {d = d}) k h = extend_expr (RestDue d) (PartDue d) xs t (λ ys g. bar_goes_on d ys t g k) h
prefix_step xs t (rest_star {d = d}) k h = extend_expr (RestDue d) (RestDue d) xs t (λ ys g. star_goes_on d ys t g k) h
prefix_step xs t (rest_plus {d = d}) k h = extend_expr (RestDue d) (RestDue d) xs t (λ ys g. plus_goes_on d ys t g k) h
prefix_step xs t (rest_question {d = d}) k h = extend_expr (RestDue d) (RestDue d) xs t (λ ys g. question_goes_on d ys t g k) h
prefix_step xs t (rest_mark {d = d}) k h = extend_expr (RestDue d) (MarkDue d) xs t (λ ys g. mark_goes_on d ys t g k) h
prefix_step xs t rest_end k h = exprs_end xs t k h
prefix_step xs t (mark_name {d = d}) k h = extend_expr (MarkDue d) (RestDue d) xs t (λ ys g. names_mark d ys t g k) h
prefix_step xs t next_expr k h = (false, begin OnExprs Expr (PartDue zero) xs t (inr h) k (starts_part [] refl))
prefix_step xs t (part_class {d = d}) k h = extend_expr (PartDue d) (ClassDue NoNames (suc d)) xs t (λ ys g. class_opens d ys t g k) h
prefix_step xs t (rest_class {d = d}) k h = extend_expr (RestDue d) (ClassDue NoNames (suc d)) xs t (λ ys g. class_opens_next d ys t g k) h
prefix_step xs t (class_name {d = d}) k h = extend_expr (ClassDue NoNames d) (ClassDue ClassNamed d) xs t (λ ys g. class_first d ys t g k) h
prefix_step xs t (class_names {d = d}) k h = extend_expr (ClassDue ClassNamed d) (ClassDue ClassNamed d) xs t (λ ys g. class_goes_on d ys t g k) h
prefix_step xs t (class_close {d = d}) k h = extend_expr (ClassDue ClassNamed d) (RestDue (pred d)) xs t (λ ys g. class_closes d ys t g k) h
prefix_step xs t (rest_brace {d = d}) k h = extend_expr (RestDue d) (BoundsDue BraceRead d) xs t (λ ys g. brace_opens d ys t g k) h
prefix_step xs t (least_bits {d = d}) k h = extend_expr (BoundsDue BraceRead d) (BoundsDue LeastRead d) xs t (λ ys g. least_read d ys t g (inl k)) h
prefix_step xs t (least_number {d = d}) k h = extend_expr (BoundsDue BraceRead d) (BoundsDue LeastRead d) xs t (λ ys g. least_read d ys t g (inr k)) h
prefix_step xs t (bounds_comma {d = d}) k h = extend_expr (BoundsDue LeastRead d) (BoundsDue CommaRead d) xs t (λ ys g. comma_read d ys t g k) h
prefix_step xs t (most_bits {d = d}) k h = extend_expr (BoundsDue CommaRead d) (BoundsDue MostRead d) xs t (λ ys g. most_read d ys t g (inl k)) h
prefix_step xs t (most_number {d = d}) k h = extend_expr (BoundsDue CommaRead d) (BoundsDue MostRead d) xs t (λ ys g. most_read d ys t g (inr k)) h
prefix_step xs t (bounds_end {d = d}) k h = extend_expr (BoundsDue MostRead d) (RestDue d) xs t (λ ys g. brace_closes d ys t g k) h

-- what the tokens are, where the machine lives
abbrev Held : Option State → List Lexeme → Type 0
Held None xs = ⊤
Held (Some s) xs = Prefix s.due s.depth xs

held_step : (due : Due) (k : Kind) (d : ℕ) (xs : List Lexeme) (t : Lexeme) (o : Option State) → Moved due k d o → t.kind ≡ k → Prefix due d xs
    → Held o (xs ++ (t ∷ []))
held_step due k d xs t None m e h = tt
held_step due k d xs t (Some s) m e h = prefix_step xs t m e h

held_next : (xs : List Lexeme) (t : Lexeme) (o : Option State) → Held o xs → Held (next_state o t.kind) (xs ++ (t ∷ []))
held_next xs t None h = tt
held_next xs t (Some s) h = held_step s.due t.kind s.depth xs t (step s.due t.kind s.depth) (moved s.due t.kind s.depth) refl h

held : (ts seen : List Lexeme) (o : Option State) → Held o seen → Held (run ts o) (seen ++ ts)
held [] seen o h = subst (λ xs. Held o xs) (sym (append-nil seen)) h
held (t ∷ ts) seen o h =
    subst (λ xs. Held (run ts (next_state o t.kind)) xs) (append_assoc seen (t ∷ []) ts)
    (held ts (seen ++ (t ∷ [])) (next_state o t.kind) (held_next seen t o h))

-- what the tokens are in the state behind them
pub alive : (xs : List Lexeme) (due : Due) (d : ℕ) → run xs (at FirstLine 0) ≡ at due d → Prefix due d xs
alive xs due d e = subst (λ o. Held o xs) e (held xs [] (at FirstLine 0) refl)

pub specified : (xs : List Lexeme) → All xs → (found : Syntax) × Specifies xs found
specified xs h =
    let three : LinesSymbolsOutputs h.front = h.first in
    let two : LinesSymbols three.front = three.first in
    let cut_two : three.front ≡ two.front ++ two.rest = two.whole in
    let cut_three : h.front ≡ (two.front ++ two.rest) ++ three.rest = three.whole ∙ ap (λ ys. ys ++ three.rest) cut_two in
    let cut : xs ≡ ((two.front ++ two.rest) ++ three.rest) ++ h.rest = h.whole ∙ ap (λ ys. ys ++ h.rest) cut_three in
    let syntax : Syntax = record { lines = two.first.0; symbols = two.second.0; outputs = three.second.0; exprs = h.second.0 } in
    let is : Specifies xs syntax = record {
      line_tokens = two.front;
      symbol_tokens = two.rest;
      output_tokens = three.rest;
      expr_tokens = h.rest;
      whole = cut;
      lines = two.first.1;
      symbols = two.second.1;
      outputs = three.second.1;
      exprs = h.second.1;
    } in
    (syntax, is)
