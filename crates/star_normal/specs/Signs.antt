-- What signs behind an expression add to the flags of its normal form's top node.
use Rattle.std.specs.Prelude.{ℕ, ◌*◌, ◌^◌, ◌%◌, Bool, true, false, ◌||◌, ◌==◌, bit_or}
use Rattle.std.specs.Int.{bit_at}
use Rattle.star_normal.specs.declared.signs.Signs.{Signs}
use Rattle.star_normal.specs.Trees.{Flags, FlaggedTree, flags}
use Rattle.star_normal.specs.Normal.{with_flags}

abbrev pub no_signs : Signs
no_signs = record { loops = false; eps = false; marks = 0; eps_marks = 0 }

-- below a loop the marks alone
abbrev pub kept : Bool → Signs → Signs
kept true s = record { loops = false; eps = false; marks = s.marks; eps_marks = s.eps_marks }
kept false s = s

abbrev pub merged : Signs → Signs → Signs
merged s outer = record {
  loops = s.loops || outer.loops;
  eps = s.eps || outer.eps;
  marks = bit_or s.marks outer.marks;
  eps_marks = bit_or s.eps_marks outer.eps_marks;
}

abbrev pub looped_signs : Bool → Signs → Signs
looped_signs e s = record { loops = true; eps = e; marks = s.marks; eps_marks = s.eps_marks }

abbrev pub emptied_signs : Signs → Signs
emptied_signs s = record { loops = s.loops; eps = true; marks = s.marks; eps_marks = s.eps_marks }

abbrev pub opted_signs : Bool → Signs → Signs
opted_signs true s = s
opted_signs false s = emptied_signs s

abbrev pub set_bit : ℕ → ℕ → ℕ
set_bit mask y = bit_or mask (1 * 2 ^ y % 2 ^ 16)

abbrev pub set_bit_if : Bool → ℕ → ℕ → ℕ
set_bit_if true mask y = set_bit mask y
set_bit_if false mask y = mask

abbrev pub marked_signs : ℕ → Bool → Signs → Signs
marked_signs y e s = record { loops = s.loops; eps = s.eps; marks = set_bit s.marks y; eps_marks = set_bit_if e s.eps_marks y }

-- the signs as flags
abbrev pub sign_flags : Signs → Flags
sign_flags s = record {
  loops = s.loops;
  eps = s.eps;
  scan = false;
  marks = λ y. bit_at s.marks y == 1;
  eps_marks = λ y. bit_at s.eps_marks y == 1;
}

-- the second flags and what the first add to them
abbrev pub added : Flags → Flags → Flags
added a f = record {
  loops = f.loops || a.loops;
  eps = f.eps || a.eps;
  scan = f.scan;
  marks = λ y. f.marks y || a.marks y;
  eps_marks = λ y. f.eps_marks y || a.eps_marks y;
}

-- the tree with these signs besides at its top node
abbrev pub adding : Signs → FlaggedTree → FlaggedTree
adding s t = with_flags (added (sign_flags s) (flags t)) t
