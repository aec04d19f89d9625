-- The bytes of short names.
use Rattle.std.specs.Prelude.{ℕ, Bool, ◌||◌}
use Rattle.rx_text.specs.NumberInText.{is_digit}
use Rattle.geom.specs.CifCommands.{is_capital}

-- a capital letter or a digit
abbrev pub is_name_byte : ℕ → Bool
is_name_byte byte = is_capital byte || is_digit byte
