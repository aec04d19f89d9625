-- What may come next behind the tokens that were read, without a stack: what is due, and how many parentheses are open.
use Rattle.std.specs.Prelude.{ℕ, zero, suc, pred, nat_le, if◌then◌else◌, List, [], ◌∷◌, Option, Some, None, Result, Ok, Err}
use Rattle.rx_syntax.specs.Lexemes.{Lexeme}
use Rattle.rx_syntax.specs.declared.kind.Kind.{Kind}
use Rattle.rx_syntax.specs.declared.kind.Kind.TheVariants.{Bad, Name, Bits, Pattern, Number, Line, Symbol, Output, Expr, Scan, Bar, Star, Plus, Question, Mark, Open, Close, Equals, Semicolon, OpenBrace, CloseBrace, Comma, OpenBracket, CloseBracket}
use Rattle.rx_syntax.specs.declared.machine.Due.{Due}
use Rattle.rx_syntax.specs.declared.machine.Due.TheVariants.{FirstLine, LineName, MoreNames, NextLine, SymbolName, SymbolEquals, SymbolPattern, SymbolEnd, NextSymbol, OutputName, MoreOutputs, NextOutput, Part, Rest, MarkName, ClassName, ClassNames, Least, Between, Most, BoundsEnd, NextExpr}
use Rattle.rx_syntax.specs.declared.machine.State.{State}
use Rattle.rx_syntax.specs.declared.spec_code.SpecCode.{SpecCode}
use Rattle.rx_syntax.specs.declared.spec_code.SpecCode.TheVariants.{S1, S2, S6, S7, S8, S9, S14}

-- This is due, and so many parentheses are open.
abbrev pub at : Due → ℕ → Option State
at due depth = Some (record { due = due; depth = depth })

-- what is due behind a token of this kind, where it may come
abbrev pub step : Due → Kind → ℕ → Option State
step FirstLine Line d = at LineName 0
step LineName Name d = at MoreNames 0
step MoreNames Name d = at MoreNames 0
step MoreNames Semicolon d = at NextLine 0
step NextLine Line d = at LineName 0
step NextLine Symbol d = at SymbolName 0
step SymbolName Name d = at SymbolEquals 0
step SymbolEquals Equals d = at SymbolPattern 0
step SymbolPattern Bits d = at SymbolEnd 0
step SymbolPattern Pattern d = at SymbolEnd 0
step SymbolEnd Semicolon d = at NextSymbol 0
step NextSymbol Symbol d = at SymbolName 0
step NextSymbol Output d = at OutputName 0
step OutputName Name d = at MoreOutputs 0
step MoreOutputs Name d = at MoreOutputs 0
step MoreOutputs Semicolon d = at NextOutput 0
step NextOutput Output d = at OutputName 0
step NextOutput Expr d = at Part 0
step NextOutput Scan d = at Part 0
step Part Name d = at Rest d
step Part Open d = at Part (suc d)
step Part OpenBracket d = at ClassName (suc d)
step Rest Name d = at Rest d
step Rest Open d = at Part (suc d)
step Rest OpenBracket d = at ClassName (suc d)
step Rest Close (suc d) = at Rest d
step Rest Bar d = at Part d
step Rest Star d = at Rest d
step Rest Plus d = at Rest d
step Rest Question d = at Rest d
step Rest Mark d = at MarkName d
step Rest Semicolon zero = at NextExpr 0
step Rest OpenBrace d = at Least d
step MarkName Name d = at Rest d
step ClassName Name d = at ClassNames d
step ClassNames Name d = at ClassNames d
step ClassNames CloseBracket d = at Rest (pred d)
step Least Bits d = at Between d
step Least Number d = at Between d
step Between Comma d = at Most d
step Most Bits d = at BoundsEnd d
step Most Number d = at BoundsEnd d
step BoundsEnd CloseBrace d = at Rest d
step NextExpr Expr d = at Part 0
step NextExpr Scan d = at Part 0
step due kind d = None

-- the code where a later section's keyword comes too early
abbrev pub missing : Due → Kind → Option SpecCode
missing FirstLine Symbol = Some S6
missing FirstLine Output = Some S6
missing FirstLine Expr = Some S6
missing FirstLine Scan = Some S6
missing NextLine Output = Some S7
missing NextLine Expr = Some S7
missing NextLine Scan = Some S7
missing NextSymbol Expr = Some S8
missing NextSymbol Scan = Some S8
missing due kind = None

-- the code where the text ends, if it may not
abbrev pub end_code : Due → Option SpecCode
end_code FirstLine = Some S6
end_code NextLine = Some S7
end_code NextSymbol = Some S8
end_code NextOutput = Some S9
end_code NextExpr = None
end_code due = Some S2

-- no token may come, or one that does not open too many parentheses
abbrev pub not_deep : Option State → Result State SpecCode
not_deep None = Err S2
not_deep (Some state) = if nat_le state.depth 200 then Ok state else Err S14

abbrev pub not_missing : Option SpecCode → Result State SpecCode → Result State SpecCode
not_missing None result = result
not_missing (Some code) result = Err code

abbrev pub not_bad : Kind → Result State SpecCode → Result State SpecCode
not_bad Bad result = Err S1
not_bad kind result = result

-- what is due behind a token, or the code that stands there
abbrev pub token_step : Due → Kind → ℕ → Result State SpecCode
token_step due kind d = not_bad kind (not_missing (missing due kind) (not_deep (step due kind d)))

abbrev pub next_state : Option State → Kind → Option State
next_state None kind = None
next_state (Some state) kind = step state.due kind state.depth

-- what is due behind these tokens, where each may come
abbrev pub run : List Lexeme → Option State → Option State
run [] state = state
run (t ∷ ts) state = run ts (next_state state t.kind)

-- what is due behind a piece of the text: blanks and comments change nothing
abbrev pub piece_step : Option Kind → State → Result State SpecCode
piece_step None state = Ok state
piece_step (Some kind) state = token_step state.due kind state.depth
