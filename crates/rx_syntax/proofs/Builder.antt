-- Reading of trees without recursion on the text: what each token does to a stack of open expressions.
use Rattle.std.specs.Prelude.{Bool, true, false, List, [], ◌∷◌, ◌++◌, Option, Some, None}
use Rattle.rx_syntax.specs.Lexemes.{Lexeme}
use Rattle.rx_syntax.specs.Grammar.{Tree, leaf, union, sequence, star, plus, optional, marked, counted, SymbolTokens, StatementTree, Syntax}
use Rattle.rx_syntax.specs.declared.kind.Kind.{Kind}
use Rattle.rx_syntax.specs.declared.kind.Kind.TheVariants.{Bad, Name, Bits, Pattern, Number, Expr, Scan, Bar, Star, Plus, Question, Open, Close, Semicolon, CloseBrace, OpenBracket, CloseBracket}
use Rattle.rx_syntax.specs.declared.machine.Due.{Due}
use Rattle.rx_syntax.specs.declared.machine.Due.TheVariants.{LineName, MoreNames, SymbolName, SymbolPattern, OutputName, MoreOutputs, NextOutput, Part, Rest, MarkName, ClassName, ClassNames, Least, Most, BoundsEnd, NextExpr}
use Rattle.rx_syntax.specs.declared.machine.State.{State}
use Rattle.rx_syntax.specs.Machine.{next_state}

-- An open expression: what stands before its last bar, before its last part, and the last part.
pub record Frame : Type 0 where
  pub union_before : Option Tree
  pub sequence_before : Option Tree
  pub last : Option Tree

-- What was read: the names, the statements, whether the last statement scans, the least and most number of the counted repeat
-- that is read, and the open expressions, the innermost first.
pub record Built : Type 0 where
  pub lines : List Lexeme
  pub name : Option Lexeme
  pub symbols : List SymbolTokens
  pub outputs : List Lexeme
  pub exprs : List StatementTree
  pub is_scan : Bool
  pub least : Lexeme
  pub most : Lexeme
  pub frames : List Frame

-- in place of a number where none is read
abbrev pub no_number : Lexeme
no_number = record { kind = Bad; start = 0; behind = 0 }

abbrev pub nothing_built : Built
nothing_built = record {
  lines = [];
  name = None;
  symbols = [];
  outputs = [];
  exprs = [];
  is_scan = false;
  least = no_number;
  most = no_number;
  frames = [];
}

abbrev pub empty_frame : Frame
empty_frame = record { union_before = None; sequence_before = None; last = None }

-- one after another, and one or the other, where there is a first
abbrev pub joined : (Tree → Tree → Tree) → Option Tree → Option Tree → Option Tree
joined join None second = second
joined join (Some first) None = Some first
joined join (Some first) (Some second) = Some (join first second)

-- the sequence behind the last bar
abbrev pub chain_of : Frame → Option Tree
chain_of frame = joined sequence frame.sequence_before frame.last

-- the expression of the frame
abbrev pub closed_frame : Frame → Option Tree
closed_frame frame = joined union frame.union_before (chain_of frame)

-- one more part
abbrev pub with_part : Option Tree → Frame → Frame
with_part e frame = record { union_before = frame.union_before; sequence_before = chain_of frame; last = e }

abbrev pub some_tree : (Tree → Tree) → Option Tree → Option Tree
some_tree f None = None
some_tree f (Some e) = Some (f e)

-- the last part with a postfix sign
abbrev pub with_sign : (Tree → Tree) → Frame → Frame
with_sign f frame = record { union_before = frame.union_before; sequence_before = frame.sequence_before; last = some_tree f frame.last }

-- a bar
abbrev pub with_bar : Frame → Frame
with_bar frame = record { union_before = closed_frame frame; sequence_before = None; last = None }

-- a further name of a class
abbrev pub with_name : Lexeme → Frame → Frame
with_name t frame = with_part (Some (leaf t)) (with_bar frame)

-- a change of the innermost frame
abbrev pub on_first : (Frame → Frame) → List Frame → List Frame
on_first f [] = []
on_first f (frame ∷ frames) = f frame ∷ frames

-- the innermost frame as a part of the next one
abbrev pub close_first : List Frame → List Frame
close_first [] = []
close_first (frame ∷ frames) = on_first (with_part (closed_frame frame)) frames

abbrev pub with_entry : Option Lexeme → Lexeme → List SymbolTokens → List SymbolTokens
with_entry None pattern symbols = symbols
with_entry (Some name) pattern symbols = symbols ++ (record { name = name; pattern = pattern } ∷ [])

abbrev pub with_tree : Bool → Option Tree → List StatementTree → List StatementTree
with_tree scans None exprs = exprs
with_tree scans (Some e) exprs = exprs ++ (record { scans = scans; tree = e } ∷ [])

abbrev pub with_statement : Bool → List Frame → List StatementTree → List StatementTree
with_statement scans [] exprs = exprs
with_statement scans (frame ∷ frames) exprs = with_tree scans (closed_frame frame) exprs

-- a statement begins
abbrev pub begun : Bool → Built → Built
begun scans b = record b { is_scan = scans; least = no_number; most = no_number; frames = empty_frame ∷ [] }

-- a counted repeat ends
abbrev pub repeated : Lexeme → Built → Built
repeated t b =
    record b { least = no_number; most = no_number; frames = on_first (with_sign (λ e. counted e b.least b.most t)) b.frames }

-- what a token does, by what was due
abbrev pub act : Due → Kind → Lexeme → Built → Built
act LineName Name t b = record b { lines = b.lines ++ (t ∷ []) }
act MoreNames Name t b = record b { lines = b.lines ++ (t ∷ []) }
act SymbolName Name t b = record b { name = Some t }
act SymbolPattern Bits t b = record b { symbols = with_entry b.name t b.symbols }
act SymbolPattern Pattern t b = record b { symbols = with_entry b.name t b.symbols }
act OutputName Name t b = record b { outputs = b.outputs ++ (t ∷ []) }
act MoreOutputs Name t b = record b { outputs = b.outputs ++ (t ∷ []) }
act NextOutput Expr t b = begun false b
act NextOutput Scan t b = begun true b
act NextExpr Expr t b = begun false b
act NextExpr Scan t b = begun true b
act Part Name t b = record b { frames = on_first (with_part (Some (leaf t))) b.frames }
act Part Open t b = record b { frames = empty_frame ∷ b.frames }
act Part OpenBracket t b = record b { frames = empty_frame ∷ b.frames }
act Rest Name t b = record b { frames = on_first (with_part (Some (leaf t))) b.frames }
act Rest Open t b = record b { frames = empty_frame ∷ b.frames }
act Rest OpenBracket t b = record b { frames = empty_frame ∷ b.frames }
act Rest Close t b = record b { frames = close_first b.frames }
act Rest Bar t b = record b { frames = on_first with_bar b.frames }
act Rest Star t b = record b { frames = on_first (with_sign star) b.frames }
act Rest Plus t b = record b { frames = on_first (with_sign plus) b.frames }
act Rest Question t b = record b { frames = on_first (with_sign optional) b.frames }
act Rest Semicolon t b = record b { exprs = with_statement b.is_scan b.frames b.exprs; frames = [] }
act MarkName Name t b = record b { frames = on_first (with_sign (λ e. marked e t)) b.frames }
act ClassName Name t b = record b { frames = on_first (with_part (Some (leaf t))) b.frames }
act ClassNames Name t b = record b { frames = on_first (with_name t) b.frames }
act ClassNames CloseBracket t b = record b { frames = close_first b.frames }
act Least Bits t b = record b { least = t }
act Least Number t b = record b { least = t }
act Most Bits t b = record b { most = t }
act Most Number t b = record b { most = t }
act BoundsEnd CloseBrace t b = repeated t b
act due kind t b = b

abbrev pub act_on : Option State → Lexeme → Built → Built
act_on None t b = b
act_on (Some state) t b = act state.due t.kind t b

-- what the tokens build, from a state on
abbrev pub along : List Lexeme → Option State → Built → Built
along [] state b = b
along (t ∷ ts) state b = along ts (next_state state t.kind) (act_on state t b)

-- what was read
abbrev pub syntax_of : Built → Syntax
syntax_of b = record { lines = b.lines; symbols = b.symbols; outputs = b.outputs; exprs = b.exprs }
