-- A name with zeros behind it fills its room.
use Rattle.std.proofs.Common.{◌≡◌, ℕ, ◌-◌, ◌≤◌, ◌++◌, true, List, take, drop, length, replicate, refl, arith, length-append}
use Rattle.std.proofs.lemmas.List.{drop-replicate, length-replicate}
use Rattle.std.proofs.Math.Seq.{take-append_seam}
use Rattle.std.proofs.lemmas.Bool.Decides.{nat_tests}
use Rattle.rx_text.specs.Name.{FillsName, is_name}

abbrev zeros : ℕ → List ℕ
zeros n = replicate n 0

within : (bytes : List ℕ) → is_name bytes ≡ true → length bytes ≤ 31
within bytes h = grind (arith, nat_tests)

pub fills : (bytes : List ℕ) → is_name bytes ≡ true → FillsName (length bytes) (bytes ++ drop (length bytes) (zeros 31))
fills bytes h =
    let le : length bytes ≤ 31 = within bytes h in
    let front : take (length bytes) (bytes ++ drop (length bytes) (zeros 31)) ≡ bytes = take-append_seam bytes _ in
    let rest : drop (length bytes) (zeros 31) ≡ zeros (31 - length bytes) = drop-replicate (length bytes) 31 0 in
    record {
      within = le;
      name = rw front h;
      filled = rw front (rw rest refl);
      room = rw rest (simp (length-append, length-replicate) (omega arith));
    }
