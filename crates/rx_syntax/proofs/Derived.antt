-- The machine goes through each list of tokens that the grammar derives.
use Rattle.std.proofs.Common.{◌≡◌, ℕ, suc, Bool, true, false, None, List, [], ◌∷◌, ◌++◌, refl, ap, sym, ◌∙◌, inl, inr}
use Rattle.std.specs.Prelude.{Option, ◌≢◌, ◌⊎◌}
use Rattle.rx_syntax.specs.Lexemes.{Lexeme}
use Rattle.rx_syntax.specs.Grammar.{Tree, Level, Derives, named, closed, classed, starred, looped, repeated, optioned, noted, alone, followed, single, either, AreNames, IsNumber, NamesOf, keyword_of, SymbolTokens, StatementTree, SymbolOf, ExprOf, Statements, one, more, Lines, LinesSymbols, LinesSymbolsOutputs, Syntax, Specifies}
use Rattle.rx_syntax.specs.declared.kind.Kind.{Kind}
use Rattle.rx_syntax.specs.declared.kind.Kind.TheVariants.{Name, Bits, Pattern, Line, Symbol, Output, Expr, Scan, Open, OpenBrace, CloseBrace, Comma, OpenBracket}
use Rattle.rx_syntax.specs.declared.machine.Due.{Due}
use Rattle.rx_syntax.specs.declared.machine.Due.TheVariants.{FirstLine, LineName, MoreNames, NextLine, SymbolName, SymbolPattern, SymbolEnd, NextSymbol, OutputName, MoreOutputs, NextOutput, Part, Rest, ClassName, ClassNames, NextExpr}
use Rattle.rx_syntax.specs.declared.machine.State.{State}
use Rattle.rx_syntax.specs.Machine.{at, step, next_state, run}
use Rattle.rx_syntax.proofs.Moves.{run_append, run_dead}

-- a token, and then a list
pub go : (t : Lexeme) (xs : List Lexeme) (s m e : Option State) → next_state s t.kind ≡ m → run xs m ≡ e → run (t ∷ xs) s ≡ e
go t xs s m e first second = rw first second

-- a list, and then another
pub goes : (xs ys zs : List Lexeme) (s m e : Option State) → zs ≡ xs ++ ys → run xs s ≡ m → run ys m ≡ e → run zs s ≡ e
goes xs ys zs s m e whole first second = ap (λ ts. run ts s) whole ∙ run_append xs ys s ∙ ap (λ m. run ys m) first ∙ second

-- where a part is due, or may come
abbrev pub ready : Bool → Due
ready true = Part
ready false = Rest

named_step : (b : Bool) (d : ℕ) (k : Kind) → k ≡ Name → step (ready b) k d ≡ at Rest d
named_step true d k e = rw e refl
named_step false d k e = rw e refl

opened_step : (b : Bool) (d : ℕ) (k : Kind) → k ≡ Open → step (ready b) k d ≡ at Part (suc d)
opened_step true d k e = rw e refl
opened_step false d k e = rw e refl

class_step : (b : Bool) (d : ℕ) (k : Kind) → k ≡ OpenBracket → step (ready b) k d ≡ at ClassName (suc d)
class_step true d k e = rw e refl
class_step false d k e = rw e refl

class_rest_run : (d : ℕ) (names : List Lexeme) → AreNames names → run names (at ClassNames d) ≡ at ClassNames d
class_rest_run d [] h = refl
class_rest_run d (t ∷ ts) (k, others) = rw k (class_rest_run d ts others)

pub class_run : (d : ℕ) (t : Lexeme) (names : List Lexeme) → AreNames (t ∷ names) → run (t ∷ names) (at ClassName d) ≡ at ClassNames d
class_run d t names (k, others) = rw k (class_rest_run d names others)

bounds_run : (d : ℕ) (o least comma most c : Lexeme) → o.kind ≡ OpenBrace → IsNumber least → comma.kind ≡ Comma → IsNumber most → c.kind ≡ CloseBrace
    → run (o ∷ least ∷ comma ∷ most ∷ c ∷ []) (at Rest d) ≡ at Rest d
bounds_run d o least comma most c ko (inl kl) kc (inl km) ke = rw (ko, kl, kc, km, ke) refl
bounds_run d o least comma most c ko (inl kl) kc (inr km) ke = rw (ko, kl, kc, km, ke) refl
bounds_run d o least comma most c ko (inr kl) kc (inl km) ke = rw (ko, kl, kc, km, ke) refl
bounds_run d o least comma most c ko (inr kl) kc (inr km) ke = rw (ko, kl, kc, km, ke) refl

pub derived_run : {l : Level} {xs : List Lexeme} {e : Tree} → Derives l xs e → (b : Bool) (d : ℕ) → run xs (at (ready b) d) ≡ at Rest d
derived_run (named {t = t} k whole) b d = ap (λ ts. run ts (at (ready b) d)) whole ∙ named_step b d t.kind k
derived_run (closed {ys = ys} o c ko kc whole inner) b d =
    ap (λ ts. run ts (at (ready b) d)) whole
    ∙ go o (ys ++ (c ∷ [])) (at (ready b) d) (at Part (suc d)) (at Rest d) (opened_step b d o.kind ko)
    (goes ys (c ∷ []) (ys ++ (c ∷ [])) (at Part (suc d)) (at Rest (suc d)) (at Rest d) refl (derived_run inner true (suc d)) (rw kc refl))
derived_run (starred {xs = xs} {ys = ys} s k whole inner) b d = goes ys (s ∷ []) xs (at (ready b) d) (at Rest d) (at Rest d) whole (derived_run inner b d) (rw k refl)
derived_run (looped {xs = xs} {ys = ys} s k whole inner) b d = goes ys (s ∷ []) xs (at (ready b) d) (at Rest d) (at Rest d) whole (derived_run inner b d) (rw k refl)
derived_run (optioned {xs = xs} {ys = ys} s k whole inner) b d = goes ys (s ∷ []) xs (at (ready b) d) (at Rest d) (at Rest d) whole (derived_run inner b d) (rw k refl)
derived_run (noted {xs = xs} {ys = ys} s {t = t} k n whole inner) b d = goes ys (s ∷ t ∷ []) xs (at (ready b) d) (at Rest d) (at Rest d) whole (derived_run inner b d) (rw (k, n) refl)
derived_run (classed o t c names ko kc are whole) b d =
    ap (λ ts. run ts (at (ready b) d)) whole
    ∙ go o ((t ∷ names) ++ (c ∷ [])) (at (ready b) d) (at ClassName (suc d)) (at Rest d) (class_step b d o.kind ko)
    (goes (t ∷ names) (c ∷ []) ((t ∷ names) ++ (c ∷ [])) (at ClassName (suc d)) (at ClassNames (suc d)) (at Rest d) refl (class_run (suc d) t names are) (rw kc refl))
derived_run (repeated {xs = xs} {ys = ys} o least comma most c ko kl kc km ke whole inner) b d =
    goes ys (o ∷ least ∷ comma ∷ most ∷ c ∷ []) xs (at (ready b) d) (at Rest d) (at Rest d) whole (derived_run inner b d) (bounds_run d o least comma most c ko kl kc km ke)
derived_run (alone inner) b d = derived_run inner b d
derived_run (followed {xs = xs} {ys = ys} {zs = zs} whole first second) b d = goes ys zs xs (at (ready b) d) (at Rest d) (at Rest d) whole (derived_run first b d) (derived_run second false d)
derived_run (single inner) b d = derived_run inner b d
derived_run (either {xs = xs} {ys = ys} {zs = zs} s k whole first second) b d =
    goes ys (s ∷ zs) xs (at (ready b) d) (at Rest d) (at Rest d) whole (derived_run first b d) (go s zs (at Rest d) (at Part d) (at Rest d) (rw k refl) (derived_run second true d))

line_names_run : (names : List Lexeme) → AreNames names → run names (at MoreNames 0) ≡ at MoreNames 0
line_names_run [] h = refl
line_names_run (t ∷ ts) (k, others) = rw k (line_names_run ts others)

output_names_run : (names : List Lexeme) → AreNames names → run names (at MoreOutputs 0) ≡ at MoreOutputs 0
output_names_run [] h = refl
output_names_run (t ∷ ts) (k, others) = rw k (output_names_run ts others)

pub line_first_run : (names : List Lexeme) → names ≢ [] → AreNames names → run names (at LineName 0) ≡ at MoreNames 0
line_first_run [] some h = absurd (some refl)
line_first_run (t ∷ ts) some (k, others) = rw k (line_names_run ts others)

pub output_first_run : (names : List Lexeme) → names ≢ [] → AreNames names → run names (at OutputName 0) ≡ at MoreOutputs 0
output_first_run [] some h = absurd (some refl)
output_first_run (t ∷ ts) some (k, others) = rw k (output_names_run ts others)

-- a state in which a statement of this kind may come
pub data Takes : Due → Kind → Due → Type 0 where
  line_first : Takes FirstLine Line LineName
  line_next : Takes NextLine Line LineName
  symbol_first : Takes NextLine Symbol SymbolName
  symbol_next : Takes NextSymbol Symbol SymbolName
  output_first : Takes NextSymbol Output OutputName
  output_next : Takes NextOutput Output OutputName
  expr_first : Takes NextOutput Expr Part
  expr_next : Takes NextExpr Expr Part
  scan_first : Takes NextOutput Scan Part
  scan_next : Takes NextExpr Scan Part

pub takes_step : {due next : Due} {key : Kind} → Takes due key next → (k : Kind) → k ≡ key → step due k 0 ≡ at next 0
takes_step line_first k e = rw e refl
takes_step line_next k e = rw e refl
takes_step symbol_first k e = rw e refl
takes_step symbol_next k e = rw e refl
takes_step output_first k e = rw e refl
takes_step output_next k e = rw e refl
takes_step expr_first k e = rw e refl
takes_step expr_next k e = rw e refl
takes_step scan_first k e = rw e refl
takes_step scan_next k e = rw e refl

pub line_run : (due : Due) → Takes due Line LineName → (xs names : List Lexeme) → NamesOf Line xs names → run xs (at due 0) ≡ at NextLine 0
line_run due takes xs names h =
    ap (λ ts. run ts (at due 0)) h.tokens
    ∙ go h.keyword (names ++ (h.last ∷ [])) (at due 0) (at LineName 0) (at NextLine 0) (takes_step takes h.keyword.kind h.begins)
    (goes names (h.last ∷ []) (names ++ (h.last ∷ [])) (at LineName 0) (at MoreNames 0) (at NextLine 0) refl (line_first_run names h.some h.are_names) (rw h.ends refl))

pub output_run : (due : Due) → Takes due Output OutputName → (xs names : List Lexeme) → NamesOf Output xs names → run xs (at due 0) ≡ at NextOutput 0
output_run due takes xs names h =
    ap (λ ts. run ts (at due 0)) h.tokens
    ∙ go h.keyword (names ++ (h.last ∷ [])) (at due 0) (at OutputName 0) (at NextOutput 0) (takes_step takes h.keyword.kind h.begins)
    (goes names (h.last ∷ []) (names ++ (h.last ∷ [])) (at OutputName 0) (at MoreOutputs 0) (at NextOutput 0) refl (output_first_run names h.some h.are_names)
    (rw h.ends refl))

pattern_step : (k : Kind) → (k ≡ Bits) ⊎ (k ≡ Pattern) → step SymbolPattern k 0 ≡ at SymbolEnd 0
pattern_step k (inl e) = rw e refl
pattern_step k (inr e) = rw e refl

pub symbol_run : (due : Due) → Takes due Symbol SymbolName → (xs : List Lexeme) (found : List SymbolTokens) → SymbolOf xs found
    → run xs (at due 0) ≡ at NextSymbol 0
symbol_run due takes xs found h =
    ap (λ ts. run ts (at due 0)) h.tokens
    ∙ go h.keyword (h.name ∷ h.equals ∷ h.pattern ∷ h.last ∷ []) (at due 0) (at SymbolName 0) (at NextSymbol 0) (takes_step takes h.keyword.kind h.begins)
    (rw (h.is_name, h.is_equals, pattern_step h.pattern.kind h.is_pattern, h.ends) refl)

takes_either : (due : Due) → Takes due Expr Part → Takes due Scan Part → (scans : Bool) → Takes due (keyword_of scans) Part
takes_either due expr scan false = expr
takes_either due expr scan true = scan

pub expr_run : (due : Due) → Takes due Expr Part → Takes due Scan Part → (xs : List Lexeme) (found : List StatementTree) → ExprOf xs found
    → run xs (at due 0) ≡ at NextExpr 0
expr_run due expr scan xs found h =
    ap (λ ts. run ts (at due 0)) h.tokens
    ∙ go h.keyword (h.body ++ (h.last ∷ [])) (at due 0) (at Part 0) (at NextExpr 0)
    (takes_step (takes_either due expr scan h.scans) h.keyword.kind h.begins)
    (goes h.body (h.last ∷ []) (h.body ++ (h.last ∷ [])) (at Part 0) (at Rest 0) (at NextExpr 0) refl (derived_run h.derives true 0) (rw h.ends refl))

pub statements_run : {A : Type 0} {Is : List Lexeme → List A → Type 0} {xs : List Lexeme} {found : List A} (first later : Due)
    → ((ys : List Lexeme) (some : List A) → Is ys some → run ys (at first 0) ≡ at later 0)
    → ((ys : List Lexeme) (some : List A) → Is ys some → run ys (at later 0) ≡ at later 0)
    → Statements Is xs found → run xs (at first 0) ≡ at later 0
statements_run first later begin again (one {xs = xs} {found = found} is) = begin xs found is
statements_run first later begin again (more {xs = xs} {ys = ys} {zs = zs} {others = others} whole holds before is) =
    goes ys zs xs (at first 0) (at later 0) (at later 0) whole (statements_run first later begin again before) (again zs others is)

pub lines_run : {xs names : List Lexeme} → Statements (NamesOf Line) xs names → run xs (at FirstLine 0) ≡ at NextLine 0
lines_run h = statements_run FirstLine NextLine (line_run FirstLine line_first) (line_run NextLine line_next) h

pub symbols_run : {xs : List Lexeme} {found : List SymbolTokens} → Statements SymbolOf xs found → run xs (at NextLine 0) ≡ at NextSymbol 0
symbols_run h = statements_run NextLine NextSymbol (symbol_run NextLine symbol_first) (symbol_run NextSymbol symbol_next) h

pub outputs_run : {xs names : List Lexeme} → Statements (NamesOf Output) xs names → run xs (at NextSymbol 0) ≡ at NextOutput 0
outputs_run h = statements_run NextSymbol NextOutput (output_run NextSymbol output_first) (output_run NextOutput output_next) h

pub exprs_run : {xs : List Lexeme} {found : List StatementTree} → Statements ExprOf xs found → run xs (at NextOutput 0) ≡ at NextExpr 0
exprs_run h = statements_run NextOutput NextExpr (expr_run NextOutput expr_first scan_first) (expr_run NextExpr expr_next scan_next) h

-- the sections that were read say what is due

pub lines_due : (xs : List Lexeme) → Lines xs → run xs (at FirstLine 0) ≡ at NextLine 0
lines_due xs h = lines_run h.1

pub symbols_due : (xs : List Lexeme) → LinesSymbols xs → run xs (at FirstLine 0) ≡ at NextSymbol 0
symbols_due xs h =
    goes h.front h.rest xs (at FirstLine 0) (at NextLine 0) (at NextSymbol 0) h.whole (lines_due h.front h.first) (symbols_run h.second.1)

pub outputs_due : (xs : List Lexeme) → LinesSymbolsOutputs xs → run xs (at FirstLine 0) ≡ at NextOutput 0
outputs_due xs h =
    goes h.front h.rest xs (at FirstLine 0) (at NextSymbol 0) (at NextOutput 0) h.whole (symbols_due h.front h.first) (outputs_run h.second.1)

pub specified_run : (xs : List Lexeme) (found : Syntax) → Specifies xs found → run xs (at FirstLine 0) ≡ at NextExpr 0
specified_run xs found h =
    let two = h.line_tokens ++ h.symbol_tokens in
    let three = two ++ h.output_tokens in
    let first : run two (at FirstLine 0) ≡ at NextSymbol 0 =
    goes h.line_tokens h.symbol_tokens two (at FirstLine 0) (at NextLine 0) (at NextSymbol 0) refl (lines_run h.lines) (symbols_run h.symbols) in
    let second : run three (at FirstLine 0) ≡ at NextOutput 0 =
    goes two h.output_tokens three (at FirstLine 0) (at NextSymbol 0) (at NextOutput 0) refl first (outputs_run h.outputs) in
    goes three h.expr_tokens xs (at FirstLine 0) (at NextOutput 0) (at NextExpr 0) h.whole second (exprs_run h.exprs)

-- where the machine has died no specification goes on
pub dead : (xs rest : List Lexeme) (found : Syntax) → run xs (at FirstLine 0) ≡ None → Specifies (xs ++ rest) found → ⊥
dead xs rest found none h =
    let whole : run (xs ++ rest) (at FirstLine 0) ≡ None = goes xs rest (xs ++ rest) (at FirstLine 0) None None refl none (run_dead rest) in
    let ends = specified_run (xs ++ rest) found h in
    let clash : ◌≡◌ {A = Option State} None (at NextExpr 0) = sym whole ∙ ends in
    cc
