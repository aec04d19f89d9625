-- The legal moves of the machine, one by one.
use Rattle.std.proofs.Common.{◌≡◌, ℕ, zero, suc, Some, None, List, [], ◌∷◌, ◌++◌, refl}
use Rattle.std.specs.Prelude.{Option, pred, ⊤}
use Rattle.rx_syntax.specs.Lexemes.{Lexeme}
use Rattle.rx_syntax.specs.declared.kind.Kind.{Kind}
use Rattle.rx_syntax.specs.declared.kind.Kind.TheVariants.{Name, Bits, Pattern, Number, Line, Symbol, Output, Expr, Scan, Bar, Star, Plus, Question, Mark, Open, Close, Equals, Semicolon, OpenBrace, CloseBrace, Comma, OpenBracket, CloseBracket}
use Rattle.rx_syntax.specs.declared.machine.Due.{Due}
use Rattle.rx_syntax.specs.declared.machine.Due.TheVariants.{FirstLine, LineName, MoreNames, NextLine, SymbolName, SymbolEquals, SymbolPattern, SymbolEnd, NextSymbol, OutputName, MoreOutputs, NextOutput, Part, Rest, MarkName, ClassName, ClassNames, Least, Between, Most, BoundsEnd, NextExpr}
use Rattle.rx_syntax.specs.declared.machine.State.{State}
use Rattle.rx_syntax.specs.Machine.{step, next_state, run}

pub data Moves : Due → Kind → ℕ → Due → ℕ → Type 0 where
  first_line : {d : ℕ} → Moves FirstLine Line d LineName 0
  line_name : {d : ℕ} → Moves LineName Name d MoreNames 0
  line_names : {d : ℕ} → Moves MoreNames Name d MoreNames 0
  line_end : {d : ℕ} → Moves MoreNames Semicolon d NextLine 0
  next_line : {d : ℕ} → Moves NextLine Line d LineName 0
  first_symbol : {d : ℕ} → Moves NextLine Symbol d SymbolName 0
  symbol_name : {d : ℕ} → Moves SymbolName Name d SymbolEquals 0
  symbol_equals : {d : ℕ} → Moves SymbolEquals Equals d SymbolPattern 0
  symbol_pattern : {d : ℕ} → Moves SymbolPattern Pattern d SymbolEnd 0
  symbol_end : {d : ℕ} → Moves SymbolEnd Semicolon d NextSymbol 0
  next_symbol : {d : ℕ} → Moves NextSymbol Symbol d SymbolName 0
  first_output : {d : ℕ} → Moves NextSymbol Output d OutputName 0
  output_name : {d : ℕ} → Moves OutputName Name d MoreOutputs 0
  output_names : {d : ℕ} → Moves MoreOutputs Name d MoreOutputs 0
  output_end : {d : ℕ} → Moves MoreOutputs Semicolon d NextOutput 0
  next_output : {d : ℕ} → Moves NextOutput Output d OutputName 0
  first_expr : {d : ℕ} → Moves NextOutput Expr d Part 0
  part_name : {d : ℕ} → Moves Part Name d Rest d
  part_open : {d : ℕ} → Moves Part Open d Part (suc d)
  rest_name : {d : ℕ} → Moves Rest Name d Rest d
  rest_open : {d : ℕ} → Moves Rest Open d Part (suc d)
  rest_close : {d : ℕ} → Moves Rest Close (suc d) Rest d
  rest_bar : {d : ℕ} → Moves Rest Bar d Part d
  rest_star : {d : ℕ} → Moves Rest Star d Rest d
  rest_plus : {d : ℕ} → Moves Rest Plus d Rest d
  rest_question : {d : ℕ} → Moves Rest Question d Rest d
  rest_mark : {d : ℕ} → Moves Rest Mark d MarkName d
  rest_end : Moves Rest Semicolon zero NextExpr 0
  mark_name : {d : ℕ} → Moves MarkName Name d Rest d
  next_expr : {d : ℕ} → Moves NextExpr Expr d Part 0
  pattern_bits : {d : ℕ} → Moves SymbolPattern Bits d SymbolEnd 0
  first_scan : {d : ℕ} → Moves NextOutput Scan d Part 0
  next_scan : {d : ℕ} → Moves NextExpr Scan d Part 0
  part_class : {d : ℕ} → Moves Part OpenBracket d ClassName (suc d)
  rest_class : {d : ℕ} → Moves Rest OpenBracket d ClassName (suc d)
  class_name : {d : ℕ} → Moves ClassName Name d ClassNames d
  class_names : {d : ℕ} → Moves ClassNames Name d ClassNames d
  class_close : {d : ℕ} → Moves ClassNames CloseBracket d Rest (pred d)
  rest_brace : {d : ℕ} → Moves Rest OpenBrace d Least d
  least_bits : {d : ℕ} → Moves Least Bits d Between d
  least_number : {d : ℕ} → Moves Least Number d Between d
  bounds_comma : {d : ℕ} → Moves Between Comma d Most d
  most_bits : {d : ℕ} → Moves Most Bits d BoundsEnd d
  most_number : {d : ℕ} → Moves Most Number d BoundsEnd d
  bounds_end : {d : ℕ} → Moves BoundsEnd CloseBrace d Rest d

-- Where the machine moves by a legal move, it moves to a state.
abbrev pub Moved : Due → Kind → ℕ → Option State → Type 0
Moved due k d None = ⊤
Moved due k d (Some s) = Moves due k d s.due s.depth

pub moved : (due : Due) (k : Kind) (d : ℕ) → Moved due k d (step due k d)
moved FirstLine Line d = first_line
moved LineName Name d = line_name
moved MoreNames Name d = line_names
moved MoreNames Semicolon d = line_end
moved NextLine Line d = next_line
moved NextLine Symbol d = first_symbol
moved SymbolName Name d = symbol_name
moved SymbolEquals Equals d = symbol_equals
moved SymbolPattern Pattern d = symbol_pattern
moved SymbolEnd Semicolon d = symbol_end
moved NextSymbol Symbol d = next_symbol
moved NextSymbol Output d = first_output
moved OutputName Name d = output_name
moved MoreOutputs Name d = output_names
moved MoreOutputs Semicolon d = output_end
moved NextOutput Output d = next_output
moved NextOutput Expr d = first_expr
moved Part Name d = part_name
moved Part Open d = part_open
moved Rest Name d = rest_name
moved Rest Open d = rest_open
moved Rest Close (suc d) = rest_close
moved Rest Bar d = rest_bar
moved Rest Star d = rest_star
moved Rest Plus d = rest_plus
moved Rest Question d = rest_question
moved Rest Mark d = rest_mark
moved Rest Semicolon zero = rest_end
moved MarkName Name d = mark_name
moved NextExpr Expr d = next_expr
moved SymbolPattern Bits d = pattern_bits
moved NextOutput Scan d = first_scan
moved NextExpr Scan d = next_scan
moved Part OpenBracket d = part_class
moved Rest OpenBracket d = rest_class
moved ClassName Name d = class_name
moved ClassNames Name d = class_names
moved ClassNames CloseBracket d = class_close
moved Rest OpenBrace d = rest_brace
moved Least Bits d = least_bits
moved Least Number d = least_number
moved Between Comma d = bounds_comma
moved Most Bits d = most_bits
moved Most Number d = most_number
moved BoundsEnd CloseBrace d = bounds_end
moved due k d = tt

-- a list after another
pub run_append : (xs ys : List Lexeme) (s : Option State) → run (xs ++ ys) s ≡ run ys (run xs s)
run_append [] ys s = refl
run_append (x ∷ xs) ys s = run_append xs ys (next_state s x.kind)

-- where the machine has died it stays dead
pub run_dead : (xs : List Lexeme) → run xs None ≡ None
run_dead [] = refl
run_dead (x ∷ xs) = run_dead xs
