-- From each state some tokens end a specification; so the machine lives exactly as long as some specification goes on.
use Rattle.std.proofs.Common.{◌≡◌, ℕ, zero, suc, Some, None, List, [], ◌∷◌, ◌++◌, refl, ap, sym, ◌∙◌, subst}
use Rattle.std.specs.Prelude.{Option, pred}
use Rattle.std.proofs.lemmas.List.{append_assoc}
use Rattle.rx_syntax.specs.Lexemes.{Lexeme}
use Rattle.rx_syntax.specs.Grammar.{Syntax, Specifies}
use Rattle.rx_syntax.specs.Refusals.{Continues}
use Rattle.rx_syntax.specs.declared.kind.Kind.{Kind}
use Rattle.rx_syntax.specs.declared.kind.Kind.TheVariants.{Name, Pattern, Number, Line, Symbol, Output, Expr, Close, Equals, Semicolon, CloseBrace, Comma, CloseBracket}
use Rattle.rx_syntax.specs.declared.machine.Due.{Due}
use Rattle.rx_syntax.specs.declared.machine.Due.TheVariants.{FirstLine, LineName, MoreNames, NextLine, SymbolName, SymbolEquals, SymbolPattern, SymbolEnd, NextSymbol, OutputName, MoreOutputs, NextOutput, Part, Rest, MarkName, ClassName, ClassNames, Least, Between, Most, BoundsEnd, NextExpr}
use Rattle.rx_syntax.specs.declared.machine.State.{State}
use Rattle.rx_syntax.specs.Machine.{at, step, next_state, run}
use Rattle.rx_syntax.proofs.Moves.{run_append}
use Rattle.rx_syntax.proofs.Derived.{goes, specified_run, dead}
use Rattle.rx_syntax.proofs.Prefixes.{alive, specified}

abbrev of_kind : Kind → Lexeme
of_kind kind = record { kind = kind; start = 0; behind = 0 }

-- what closes so many parentheses, and the statement
abbrev closers : ℕ → List Lexeme
closers zero = of_kind Semicolon ∷ []
closers (suc d) = of_kind Close ∷ closers d

abbrev from_output : List Lexeme
from_output = of_kind Output ∷ of_kind Name ∷ of_kind Semicolon ∷ of_kind Expr ∷ of_kind Name ∷ of_kind Semicolon ∷ []

abbrev from_symbol : List Lexeme
from_symbol = of_kind Symbol ∷ of_kind Name ∷ of_kind Equals ∷ of_kind Pattern ∷ of_kind Semicolon ∷ from_output

-- tokens that end a specification from this state
abbrev finish : Due → ℕ → List Lexeme
finish FirstLine d = of_kind Line ∷ of_kind Name ∷ of_kind Semicolon ∷ from_symbol
finish LineName d = of_kind Name ∷ of_kind Semicolon ∷ from_symbol
finish MoreNames d = of_kind Semicolon ∷ from_symbol
finish NextLine d = from_symbol
finish SymbolName d = of_kind Name ∷ of_kind Equals ∷ of_kind Pattern ∷ of_kind Semicolon ∷ from_output
finish SymbolEquals d = of_kind Equals ∷ of_kind Pattern ∷ of_kind Semicolon ∷ from_output
finish SymbolPattern d = of_kind Pattern ∷ of_kind Semicolon ∷ from_output
finish SymbolEnd d = of_kind Semicolon ∷ from_output
finish NextSymbol d = from_output
finish OutputName d = of_kind Name ∷ of_kind Semicolon ∷ of_kind Expr ∷ of_kind Name ∷ of_kind Semicolon ∷ []
finish MoreOutputs d = of_kind Semicolon ∷ of_kind Expr ∷ of_kind Name ∷ of_kind Semicolon ∷ []
finish NextOutput d = of_kind Expr ∷ of_kind Name ∷ of_kind Semicolon ∷ []
finish Part d = of_kind Name ∷ closers d
finish Rest d = closers d
finish MarkName d = of_kind Name ∷ closers d
finish ClassName d = of_kind Name ∷ of_kind CloseBracket ∷ closers (pred d)
finish ClassNames d = of_kind CloseBracket ∷ closers (pred d)
finish Least d = of_kind Number ∷ of_kind Comma ∷ of_kind Number ∷ of_kind CloseBrace ∷ closers d
finish Between d = of_kind Comma ∷ of_kind Number ∷ of_kind CloseBrace ∷ closers d
finish Most d = of_kind Number ∷ of_kind CloseBrace ∷ closers d
finish BoundsEnd d = of_kind CloseBrace ∷ closers d
finish NextExpr d = []

closes : (d : ℕ) → run (closers d) (at Rest d) ≡ at NextExpr 0
closes zero = refl
closes (suc d) = closes d

finishes : (due : Due) (d : ℕ) → (e : ℕ) × (run (finish due d) (at due d) ≡ at NextExpr e)
finishes FirstLine d = (0, refl)
finishes LineName d = (0, refl)
finishes MoreNames d = (0, refl)
finishes NextLine d = (0, refl)
finishes SymbolName d = (0, refl)
finishes SymbolEquals d = (0, refl)
finishes SymbolPattern d = (0, refl)
finishes SymbolEnd d = (0, refl)
finishes NextSymbol d = (0, refl)
finishes OutputName d = (0, refl)
finishes MoreOutputs d = (0, refl)
finishes NextOutput d = (0, refl)
finishes Part d = (0, closes d)
finishes Rest d = (0, closes d)
finishes MarkName d = (0, closes d)
finishes ClassName d = (0, closes (pred d))
finishes ClassNames d = (0, closes (pred d))
finishes Least d = (0, closes d)
finishes Between d = (0, closes d)
finishes Most d = (0, closes d)
finishes BoundsEnd d = (0, closes d)
finishes NextExpr d = (d, refl)

-- what the machine accepts is a specification
pub accepts : (xs : List Lexeme) (d : ℕ) → run xs (at FirstLine 0) ≡ at NextExpr d → (found : Syntax) × Specifies xs found
accepts xs d e = specified xs (alive xs NextExpr d e)

pub viable : (xs : List Lexeme) (due : Due) (d : ℕ) → run xs (at FirstLine 0) ≡ at due d
    → (rest : List Lexeme) × (found : Syntax) × Specifies (xs ++ rest) found
viable xs due d e =
    let rest = finish due d in
    let f = finishes due d in
    let whole = goes xs rest (xs ++ rest) (at FirstLine 0) (at due d) (at NextExpr f.0) refl e f.1 in
    let a = accepts (xs ++ rest) f.0 whole in
    (rest, a.0, a.1)

-- one token behind a list
one_more : (xs : List Lexeme) (t : Lexeme) (o : Option State) → run xs (at FirstLine 0) ≡ o
    → run (xs ++ (t ∷ [])) (at FirstLine 0) ≡ next_state o t.kind
one_more xs t o e = run_append xs (t ∷ []) (at FirstLine 0) ∙ ap (λ m. next_state m t.kind) e

-- where the machine goes on with a token, a specification does
pub continues : (xs : List Lexeme) (t : Lexeme) (due : Due) (d : ℕ) (s : State) → run xs (at FirstLine 0) ≡ at due d → step due t.kind d ≡ Some s
    → Continues xs (Some t)
continues xs t due d s e f =
    let more : run (xs ++ (t ∷ [])) (at FirstLine 0) ≡ at s.due s.depth = one_more xs t (at due d) e ∙ f in
    let v = viable (xs ++ (t ∷ [])) s.due s.depth more in
    (v.0, v.1, subst (λ ys. Specifies ys v.1) (append_assoc xs (t ∷ []) v.0) v.2)

-- where the machine dies at a token, no specification goes on
pub stops : (xs : List Lexeme) (t : Lexeme) (due : Due) (d : ℕ) → run xs (at FirstLine 0) ≡ at due d → step due t.kind d ≡ None
    → Continues xs (Some t) → ⊥
stops xs t due d e f (rest, found, is) =
    let more : run (xs ++ (t ∷ [])) (at FirstLine 0) ≡ None = one_more xs t (at due d) e ∙ f in
    dead (xs ++ (t ∷ [])) rest found more (subst (λ ys. Specifies ys found) (sym (append_assoc xs (t ∷ []) rest)) is)

-- two states behind the same tokens are equal
pub same_due : (xs : List Lexeme) (a b : Due) (c d : ℕ) → run xs (at FirstLine 0) ≡ at a c → run xs (at FirstLine 0) ≡ at b d → a ≡ b
same_due xs a b c d e f =
    let same : at a c ≡ at b d = sym e ∙ f in
    ap due_of same
  where
    due_of : Option State → Due
    due_of None = a
    due_of (Some s) = s.due

-- a specification ends where a further statement may come
pub ends_due : (xs : List Lexeme) (found : Syntax) (due : Due) (d : ℕ) → run xs (at FirstLine 0) ≡ at due d → Specifies xs found → due ≡ NextExpr
ends_due xs found due d e is = same_due xs due NextExpr d 0 e (specified_run xs found is)
