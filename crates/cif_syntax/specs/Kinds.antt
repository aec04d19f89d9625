-- What bytes are in CIF texts.
use Rattle.std.specs.Prelude.{ℕ, ◌==◌, Bool, true, false, if◌then◌else◌}
use Rattle.rx_text.specs.NumberInText.{is_digit}
use Rattle.geom.specs.CifCommands.{is_cif_blank}
use Rattle.cif_syntax.specs.declared.kind.Kind.{Kind}
use Rattle.cif_syntax.specs.declared.kind.Kind.TheVariants.{Blank, Zero, Digit, Minus, Open, Close, Semicolon, B, C, D, E, F, L, M, P, R, S, T, W, X, Y, Capital}

-- what a byte is that is no digit and no blank
abbrev pub sign_of : ℕ → Kind
sign_of byte =
    if byte == 45 then Minus else if byte == 40 then Open else if byte == 41 then Close else if byte == 59 then Semicolon
    else if byte == 66 then B else if byte == 67 then C else if byte == 68 then D else if byte == 69 then E
    else if byte == 70 then F else if byte == 76 then L else if byte == 77 then M else if byte == 80 then P
    else if byte == 82 then R else if byte == 83 then S else if byte == 84 then T else if byte == 87 then W
    else if byte == 88 then X else if byte == 89 then Y else Capital

-- what a byte is
abbrev pub kind_of : ℕ → Kind
kind_of byte = if is_digit byte then (if byte == 48 then Zero else Digit) else if is_cif_blank byte then Blank else sign_of byte

-- a capital letter or a digit
abbrev pub is_name_kind : Kind → Bool
is_name_kind Blank = false
is_name_kind Minus = false
is_name_kind Open = false
is_name_kind Close = false
is_name_kind Semicolon = false
is_name_kind kind = true
