-- Sentences up to a place.
use Rattle.std.specs.Prelude.{ℕ, ◌+◌, Bool, true, false, if◌then◌else◌}
use Rattle.cif_syntax.specs.declared.due.Due.{Due}
use Rattle.cif_syntax.specs.declared.due.Due.TheVariants.{Digits, Whole}
use Rattle.cif_syntax.specs.declared.sentence.Run.{Run}
use Rattle.cif_syntax.specs.Slots.{is_scale}

-- Digits of a number stand before.
abbrev pub is_in_number : Due → Bool
is_in_number (Digits slot all) = true
is_in_number due = false

-- Nothing is due.
abbrev pub is_whole : Due → Bool
is_whole Whole = true
is_whole due = false

-- behind one byte more
abbrev pub then_run : Run → Due → Run
then_run run next = record { due = next; at = run.at + 1; number = if is_in_number run.due then run.number else run.at }

-- the place at which the sentence breaks, where this is due
abbrev pub place_for : Due → ℕ → ℕ → ℕ
place_for (Digits slot true) number at = if is_scale slot then number else at
place_for due number at = at

abbrev pub fault_place : Run → ℕ
fault_place run = place_for run.due run.number run.at
