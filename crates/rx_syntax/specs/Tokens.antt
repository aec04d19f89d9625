-- The bytes of blanks, comments and runs.
use Rattle.std.specs.Prelude.{ℕ, ◌||◌, ◌==◌, not, Bool}
use Rattle.rx_text.specs.NumberInText.{is_digit}
use Rattle.rx_lang.specs.declared.pattern.PatternBit.{PatternBit}
use Rattle.rx_lang.specs.declared.pattern.PatternBit.TheVariants.{Zero, Any}
use Rattle.rx_lang.specs.declared.pattern.PatternBit.TheVariants as bits
use Rattle.rx_syntax.specs.declared.version.Version.{Version}
use Rattle.rx_syntax.specs.declared.version.Version.TheVariants.{One, Two}

-- space, tab, carriage return and line feed
abbrev pub is_blank : ℕ → Bool
is_blank byte = byte == 32 || byte == 9 || byte == 13 || byte == 10

-- a comment goes on up to the line feed
abbrev pub is_in_comment : ℕ → Bool
is_in_comment byte = not (byte == 10)

-- a blank, or the `#` of a comment
abbrev pub is_gap_byte : ℕ → Bool
is_gap_byte byte = is_blank byte || byte == 35

-- `0`, `1` and `-`
abbrev pub place_byte : PatternBit → ℕ
place_byte Zero = 48
place_byte bits.One = 49
place_byte Any = 45

-- one of the bytes of patterns
abbrev pub is_place_byte : ℕ → Bool
is_place_byte byte = byte == 48 || byte == 49 || byte == 45

-- one of the bytes of the runs of a version: `0`, `1` and `-`, in version 2 every digit
abbrev pub is_run_byte : Version → ℕ → Bool
is_run_byte One byte = is_place_byte byte
is_run_byte Two byte = is_digit byte || byte == 45
