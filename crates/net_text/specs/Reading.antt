-- What the reader of network texts finds at a place.
use Rattle.std.specs.Prelude.{min, take, Bool, nat_lt, find, Option, Some, None, Result, Ok, Err, ℕ, suc, ◌+◌, ◌==◌, max, if◌then◌else◌, List, [], ◌∷◌, ◌++◌, drop, length, codes}
use Rattle.std.specs.List.{fold, prefix_len}
use Rattle.rx_text.specs.Name.{is_name, is_name_byte}
use Rattle.net_text.specs.declared.words.TextFault.{TextFault}
use Rattle.std.specs.Str.Parse.{digits_value}
use Rattle.net_text.specs.Shape.{numeral_length}
use Rattle.rx_text.specs.declared.pad_name.Role.TheVariants.{Vdd, Gnd, Phi1, Phi2, Reset, Input, Output}
use Rattle.net_text.specs.NetworkText.{role_word}
use Rattle.net_text.specs.declared.line_kind.LineKind.{LineKind}
use Rattle.net_text.specs.declared.line_kind.LineKind.TheVariants.{Pad, Pass, Load, End}
use Rattle.net_text.specs.declared.net_fault.NetCode.{NetCode}
use Rattle.net_text.specs.declared.net_fault.NetCode.TheVariants.{N1}

-- how many bytes at the front of a text agree with the front of a word
abbrev pub agreeing : List ℕ → List ℕ → ℕ
agreeing [] text = 0
agreeing (byte ∷ word) [] = 0
agreeing (byte ∷ word) (first ∷ text) = if byte == first then suc (agreeing word text) else 0

-- the word with which a line begins, and the byte behind it
abbrev pub line_word : LineKind → List ℕ
line_word (Pad role) = role_word role ++ codes " "
line_word Pass = codes "pass "
line_word Load = codes "load "
line_word End = codes "end\n"

-- how many bytes at the front of a text agree with the front of one of the words, at most
abbrev pub longest : List LineKind → List ℕ → ℕ
longest kinds text = fold (λ most kind. max most (agreeing (line_word kind) text)) 0 kinds

-- the text begins with the word of such a line
abbrev pub begins_line : List ℕ → LineKind → Bool
begins_line text kind = agreeing (line_word kind) text == length (line_word kind)

-- N1 at the place
abbrev pub syntax_at : {A : Type 0} → ℕ → Result A TextFault
syntax_at at = Err (record { code = N1; at = at })

-- the place behind the word, where the text from this place on begins with it
abbrev pub word_at : List ℕ → ℕ → List ℕ → Result ℕ TextFault
word_at word at text =
    if nat_lt (agreeing word text) (length word) then syntax_at (at + agreeing word text) else Ok (at + agreeing word text)

-- the kind of the line that begins there
abbrev pub line_found : List LineKind → ℕ → List ℕ → Option LineKind → Result (LineKind × ℕ) TextFault
line_found kinds at text None = syntax_at (at + longest kinds text)
line_found kinds at text (Some kind) = Ok (kind, at + length (line_word kind))

-- which of the kinds the line has that begins there, and the place behind its word
abbrev pub line_at : List LineKind → ℕ → List ℕ → Result (LineKind × ℕ) TextFault
line_at kinds at text = line_found kinds at text (find (begins_line text) kinds)

-- the lines that may follow the head or a pad
abbrev pub first_lines : List LineKind
first_lines = Pad Vdd ∷ Pad Gnd ∷ Pad Phi1 ∷ Pad Phi2 ∷ Pad Reset ∷ Pad Input ∷ Pad Output ∷ Pass ∷ Load ∷ End ∷ []

-- the lines that may follow a device
abbrev pub later_lines : List LineKind
later_lines = Pass ∷ Load ∷ End ∷ []

-- the number that these digits write, where there are some and it is below the limit; the place behind them
abbrev pub numeral_below : ℕ → NetCode → ℕ → List ℕ → Result (ℕ × ℕ) TextFault
numeral_below limit code at [] = syntax_at at
numeral_below limit code at (first ∷ digits) =
    if nat_lt (digits_value 10 (first ∷ digits)) limit then Ok (digits_value 10 (first ∷ digits), at + length (first ∷ digits))
    else Err (record { code = code; at = at })

-- the number at the front of a text from this place on
abbrev pub number_below : ℕ → NetCode → ℕ → List ℕ → Result (ℕ × ℕ) TextFault
number_below limit code at text = numeral_below limit code at (take (numeral_length text) text)

-- what was read, with the place behind a word that follows it
abbrev pub with_read : {A : Type 0} → A → Result ℕ TextFault → Result (A × ℕ) TextFault
with_read read (Err fault) = Err fault
with_read read (Ok next) = Ok (read, next)

-- a number that was read, and the word behind it
abbrev pub number_then : List ℕ → List ℕ → Result (ℕ × ℕ) TextFault → Result (ℕ × ℕ) TextFault
number_then word text (Err fault) = Err fault
number_then word text (Ok read) = with_read read.0 (word_at word read.1 (drop read.1 text))

-- the number at this place of the text, and the word behind it
abbrev pub number_due : ℕ → NetCode → List ℕ → ℕ → List ℕ → Result (ℕ × ℕ) TextFault
number_due limit code word at text = number_then word text (number_below limit code at (drop at text))

-- how many bytes at the front stand in names, up to the most that a name has
abbrev pub name_length : List ℕ → ℕ
name_length text = min (prefix_len is_name_byte text) 31

-- the name at this place of the text, and the space behind it
abbrev pub name_at : ℕ → List ℕ → Result (List ℕ × ℕ) TextFault
name_at at text =
    if is_name (take (name_length (drop at text)) (drop at text))
    then with_read (take (name_length (drop at text)) (drop at text))
    (word_at (codes " ") (at + name_length (drop at text)) (drop (at + name_length (drop at text)) text))
    else syntax_at at
