-- The uses of names and numbers as the tokens are read: by what was due before each of them, and by what was counted.
use Rattle.std.specs.Prelude.{ℕ, suc, ◌+◌, ◌-◌, ◌*◌, List, [], ◌∷◌, ◌++◌, Option, Some, None}
use Rattle.rx_syntax.specs.Lexemes.{Lexeme}
use Rattle.rx_syntax.specs.Uses.{Use, line_use, symbol_use, pattern_use, output_use, leaf_use, mark_use, least_use, most_use, copies_use, number_of}
use Rattle.rx_syntax.specs.declared.kind.Kind.{Kind}
use Rattle.rx_syntax.specs.declared.kind.Kind.TheVariants.{Name, Bits, Number, CloseBrace}
use Rattle.rx_syntax.specs.declared.kind.Kind.TheVariants as kinds
use Rattle.rx_syntax.specs.declared.machine.Due.{Due}
use Rattle.rx_syntax.specs.declared.machine.Due.TheVariants.{LineName, MoreNames, SymbolName, SymbolPattern, OutputName, MoreOutputs, Part, Rest, MarkName, ClassName, ClassNames, BoundsEnd}
use Rattle.rx_syntax.specs.declared.machine.Due.TheVariants as dues
use Rattle.rx_syntax.specs.declared.machine.State.{State}
use Rattle.rx_syntax.specs.declared.use_kind.UseKind.{UseKind}
use Rattle.rx_syntax.specs.declared.use_kind.UseKind.TheVariants.{Line, Symbol, Pattern, Output, Leaf, FurtherLeaf, Mark, Open, Close, Least, Most, Copies}
use Rattle.rx_syntax.specs.Machine.{next_state}

-- how a token is used, by what was due
abbrev pub kind_of_use : Due → Kind → Option UseKind
kind_of_use LineName Name = Some Line
kind_of_use MoreNames Name = Some Line
kind_of_use SymbolName Name = Some Symbol
kind_of_use SymbolPattern Bits = Some Pattern
kind_of_use SymbolPattern kinds.Pattern = Some Pattern
kind_of_use OutputName Name = Some Output
kind_of_use MoreOutputs Name = Some Output
kind_of_use Part Name = Some Leaf
kind_of_use Rest Name = Some Leaf
kind_of_use ClassName Name = Some Leaf
kind_of_use ClassNames Name = Some FurtherLeaf
kind_of_use MarkName Name = Some Mark
kind_of_use Part kinds.Open = Some Open
kind_of_use Rest kinds.Open = Some Open
kind_of_use Rest kinds.Close = Some Close
kind_of_use dues.Least Bits = Some Least
kind_of_use dues.Least Number = Some Least
kind_of_use dues.Most Bits = Some Most
kind_of_use dues.Most Number = Some Most
kind_of_use BoundsEnd CloseBrace = Some Copies
kind_of_use due kind = None

-- What was counted in expressions: the symbols up to a place, copies among them; those before the last part, and before each
-- open parenthesis, the innermost first; and the two numbers of the last counted repeat, the first as a token or by its value.
pub record Counts (A : Type 0) : Type 0 where
  pub leaves : ℕ
  pub before_part : ℕ
  pub opened : List ℕ
  pub least : A
  pub most : ℕ

-- nothing was counted
abbrev pub no_counts : {A : Type 0} → A → Counts A
no_counts a = record { leaves = 0; before_part = 0; opened = []; least = a; most = 1 }

-- how many symbols the last part has
abbrev pub part_leaves : {A : Type 0} → Counts A → ℕ
part_leaves c = c.leaves - c.before_part

-- how many symbols there are up to a place where the last part stands there as often as its repeat says
abbrev pub repeated_leaves : {A : Type 0} → Counts A → ℕ
repeated_leaves c = c.before_part + c.most * part_leaves c

-- The last part is the one in the parentheses that close.
abbrev pub closed_at : {A : Type 0} → List ℕ → Counts A → Counts A
closed_at [] c = c
closed_at (before ∷ opened) c = record c { before_part = before; opened = opened }

-- what was counted behind a token that is used so, where this is its number
abbrev pub counts_behind : {A : Type 0} → (A → ℕ) → UseKind → A → Counts A → Counts A
counts_behind value Leaf a c = record c { leaves = suc c.leaves; before_part = c.leaves }
counts_behind value FurtherLeaf a c = record c { leaves = suc c.leaves }
counts_behind value Open a c = record c { opened = c.leaves ∷ c.opened }
counts_behind value Close a c = closed_at c.opened c
counts_behind value Least a c = record c { least = a }
counts_behind value Most a c = record c { most = value a }
counts_behind value Copies a c = record c { leaves = repeated_leaves c }
counts_behind value used a c = c

-- the use that a token is, behind what was counted
abbrev pub use_by : List ℕ → Counts Lexeme → UseKind → Lexeme → Option Use
use_by text c Line t = Some (line_use t)
use_by text c Symbol t = Some (symbol_use t)
use_by text c Pattern t = Some (pattern_use t)
use_by text c Output t = Some (output_use t)
use_by text c Leaf t = Some (leaf_use t)
use_by text c FurtherLeaf t = Some (leaf_use t)
use_by text c Mark t = Some (mark_use t)
use_by text c Open t = None
use_by text c Close t = None
use_by text c Least t = Some (least_use t)
use_by text c Most t = Some (most_use c.least t)
use_by text c Copies t = Some (copies_use t ((c.most - 1) * part_leaves c))

abbrev pub use_over : List ℕ → Counts Lexeme → Option UseKind → Lexeme → Option Use
use_over text c None t = None
use_over text c (Some used) t = use_by text c used t

abbrev pub counts_over : List ℕ → Counts Lexeme → Option UseKind → Lexeme → Counts Lexeme
counts_over text c None t = c
counts_over text c (Some used) t = counts_behind (number_of text) used t c

abbrev pub kind_on : Option State → Kind → Option UseKind
kind_on None kind = None
kind_on (Some state) kind = kind_of_use state.due kind

-- the use that a token is, in a state
abbrev pub use_on : List ℕ → Option State → Counts Lexeme → Lexeme → Option Use
use_on text state c t = use_over text c (kind_on state t.kind) t

abbrev pub counts_on : List ℕ → Option State → Counts Lexeme → Lexeme → Counts Lexeme
counts_on text state c t = counts_over text c (kind_on state t.kind) t

abbrev pub listed : Option Use → List Use
listed None = []
listed (Some u) = u ∷ []

-- the uses of the tokens, from a state and what was counted on
abbrev pub uses_along : List ℕ → List Lexeme → Option State → Counts Lexeme → List Use
uses_along text [] state c = []
uses_along text (t ∷ ts) state c = listed (use_on text state c t) ++ uses_along text ts (next_state state t.kind) (counts_on text state c t)

-- what was counted behind the tokens
abbrev pub counts_along : List ℕ → List Lexeme → Option State → Counts Lexeme → Counts Lexeme
counts_along text [] state c = c
counts_along text (t ∷ ts) state c = counts_along text ts (next_state state t.kind) (counts_on text state c t)
