-- What may come next behind the bytes of a sentence, without a stack.
use Rattle.std.specs.Prelude.{ℕ, zero, suc, Bool, true, false, ◌&&◌, if◌then◌else◌, List, [], ◌∷◌, Option, Some, None}
use Rattle.cif_syntax.specs.declared.kind.Kind.{Kind}
use Rattle.cif_syntax.specs.declared.kind.Kind.TheVariants.{Blank, Zero, Digit, Minus, Open, Close, Semicolon, B, C, D, E, F, L, M, P, R, S, T, W, X, Y}
use Rattle.cif_syntax.specs.declared.slot.Slot.{Slot}
use Rattle.cif_syntax.specs.declared.slot.Slot.TheVariants.{Symbol, Called, FirstMove, SecondMove, Length, Wire, PointX}
use Rattle.cif_syntax.specs.declared.due.Due.{Due}
use Rattle.cif_syntax.specs.declared.due.Due.TheVariants.{First, Definition, Comment, Closed, Text, Layer, OneByte, TwoBytes, ThreeBytes, FourBytes, Number, Sign, Digits, Gap, Moves, Mirror, Whole}
use Rattle.cif_syntax.specs.Kinds.{kind_of, is_name_kind}
use Rattle.cif_syntax.specs.Slots.{next_slot, is_signed, may_end, may_move, is_scale}

abbrev pub first : Kind → Option Due
first Semicolon = Some Whole
first E = Some Whole
first R = Some Whole
first Open = Some (Comment 1)
first Zero = Some Text
first Digit = Some Text
first D = Some Definition
first C = Some (Number Called)
first L = Some Layer
first B = Some (Number Length)
first P = Some (Number PointX)
first W = Some (Number Wire)
first kind = None

abbrev pub definition : Kind → Option Due
definition D = Some Whole
definition F = Some Closed
definition S = Some (Number Symbol)
definition kind = None

-- behind a parenthesis that closes
abbrev pub closing : ℕ → Due
closing zero = Closed
closing (suc zero) = Closed
closing (suc (suc n)) = Comment (suc n)

abbrev pub comment : ℕ → Kind → Due
comment n Open = Comment (suc n)
comment n Close = closing n
comment n kind = Comment n

abbrev pub closed : Kind → Option Due
closed Blank = Some Closed
closed Semicolon = Some Whole
closed kind = None

abbrev pub text : Kind → Due
text Semicolon = Whole
text kind = Text

abbrev pub named : Due → Kind → Option Due
named more kind = if is_name_kind kind then Some more else closed kind

abbrev pub layer : Kind → Option Due
layer Blank = Some Layer
layer kind = if is_name_kind kind then Some OneByte else None

abbrev pub digit : Slot → Bool → Kind → Option Due
digit slot all Zero = Some (Digits slot all)
digit slot all Digit = Some (Digits slot false)
digit slot all kind = None

abbrev pub begin : Slot → Kind → Option Due
begin slot Minus = if is_signed slot then Some (Sign slot) else None
begin slot kind = digit slot true kind

abbrev pub number : Slot → Kind → Option Due
number slot Blank = Some (Number slot)
number slot kind = begin slot kind

abbrev pub behind : Slot → Kind → Option Due
behind slot Semicolon = if may_end slot then Some Whole else None
behind slot T = if may_move slot then Some (Number FirstMove) else None
behind slot R = if may_move slot then Some (Number FirstMove) else None
behind slot M = if may_move slot then Some Mirror else None
behind slot kind = None

-- at a number that follows, if one may
abbrev pub begin_next : Option Slot → Kind → Option Due
begin_next None kind = None
begin_next (Some slot) kind = begin slot kind

abbrev pub gap : Slot → Kind → Option Due
gap slot Blank = Some (Gap slot)
gap slot Zero = begin_next (next_slot slot) Zero
gap slot Digit = begin_next (next_slot slot) Digit
gap slot Minus = begin_next (next_slot slot) Minus
gap slot kind = behind slot kind

-- behind a number that may be what it is
abbrev pub behind_digits : Slot → Kind → Option Due
behind_digits slot Blank = Some (Gap slot)
behind_digits slot kind = behind slot kind

abbrev pub digits : Slot → Bool → Kind → Option Due
digits slot all Zero = Some (Digits slot all)
digits slot all Digit = Some (Digits slot false)
digits slot all kind = if all && is_scale slot then None else behind_digits slot kind

abbrev pub moves : Kind → Option Due
moves Blank = Some Moves
moves kind = behind SecondMove kind

abbrev pub mirror : Kind → Option Due
mirror Blank = Some Mirror
mirror X = Some Moves
mirror Y = Some Moves
mirror kind = None

-- what is due behind a byte of this kind, where it may come
abbrev pub step : Due → Kind → Option Due
step First kind = first kind
step Definition kind = definition kind
step (Comment n) kind = Some (comment n kind)
step Closed kind = closed kind
step Text kind = Some (text kind)
step Layer kind = layer kind
step OneByte kind = named TwoBytes kind
step TwoBytes kind = named ThreeBytes kind
step ThreeBytes kind = named FourBytes kind
step FourBytes kind = closed kind
step (Number slot) kind = number slot kind
step (Sign slot) kind = digit slot true kind
step (Digits slot all) kind = digits slot all kind
step (Gap slot) kind = gap slot kind
step Moves kind = moves kind
step Mirror kind = mirror kind
step Whole kind = None

-- how many parentheses are open
abbrev pub depth_of : Due → ℕ
depth_of (Comment n) = n
depth_of due = 0

abbrev pub go_on : Option Due → (Due → Option Due) → Option Due
go_on None f = None
go_on (Some due) f = f due

-- what is due behind these bytes
abbrev pub along : Due → List ℕ → Option Due
along due [] = Some due
along due (byte ∷ bytes) = go_on (step due (kind_of byte)) (λ next. along next bytes)
