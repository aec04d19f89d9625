-- The piece with which a text begins lies within it.
use Rattle.std.proofs.Common.{ℕ, ◌+◌, ◌<◌, ◌≤◌, List, [], ◌∷◌, length, drop, inl, inr, arith, length-drop}
use Rattle.std.specs.Prelude.{◌==◌}
use Rattle.std.proofs.lemmas.Bool.{cases_Bool}
use Rattle.std.proofs.lemmas.List.Sums.{prefix_len-le-length}
use Rattle.rx_text.specs.Name.{is_letter, is_name_byte}
use Rattle.rx_syntax.specs.Tokens.{is_run_byte, is_in_comment}
use Rattle.rx_syntax.specs.declared.version.Version.{Version}
use Rattle.rx_syntax.specs.Lexemes.{size_behind, first_size}

pub size_behind_within : (version : Version) (byte : ℕ) (rest : List ℕ) → size_behind version byte rest ≤ length rest
size_behind_within version byte rest =
    elim (cases_Bool (byte == 35)) [
      | inl e ↦ rw e (prefix_len-le-length is_in_comment rest)
      | inr e ↦ rw e (elim (cases_Bool (is_letter byte)) [
        | inl f ↦ rw f (prefix_len-le-length is_name_byte rest)
        | inr f ↦ rw f (elim (cases_Bool (is_run_byte version byte)) [
          | inl g ↦ rw g (prefix_len-le-length (is_run_byte version) rest)
          | inr g ↦ rw g (omega arith)
        ])
      ])
    ]

pub first_size_within : (version : Version) (text : List ℕ) → first_size version text ≤ length text
first_size_within version [] = omega arith
first_size_within version (byte ∷ rest) = let h = size_behind_within version byte rest in omega (arith, h)

pub first_size_positive : (version : Version) (text : List ℕ) → 0 < length text → 0 < first_size version text
first_size_positive version [] h = absurd (omega (arith, h))
first_size_positive version (byte ∷ rest) h = omega arith

-- the place behind a piece lies within the text, and further on
pub piece_within : (version : Version) (text : List ℕ) (place : ℕ) → place < length text → place + first_size version (drop place text) ≤ length text
piece_within version text place h =
    let le = first_size_within version (drop place text) in
    let l = length-drop place text in
    omega (arith, le, l, h)

pub piece_further : (version : Version) (text : List ℕ) (place : ℕ) → place < length text → place < place + first_size version (drop place text)
piece_further version text place h =
    let l = length-drop place text in
    let positive : 0 < length (drop place text) = omega (arith, l, h) in
    let p = first_size_positive version (drop place text) positive in
    omega (arith, p)
