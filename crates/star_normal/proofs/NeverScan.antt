-- No node of an expression's normal form scans.
use Rattle.std.proofs.Common.{◌≡◌, ◌⊎◌, inl, inr, ℕ, ◌+◌, Bool, true, false, ◌&&◌, List, length, Some, None, refl}
use Rattle.rx_lang.specs.Expression.{Expr, symbol, sequence, union, star, plus, optional, marked, repeated}
use Rattle.rx_lang.specs.Meaning.{EndsIn}
use Rattle.star_normal.specs.Trees.{Flags, FlaggedTree, leaf, seq, alt, flags, leaves, BeginsAnywhere, Ends, TreeSpells, TreeMarks, WholeSpells, WholeMarks}
use Rattle.star_normal.specs.Normal.{nullable, held, with_flags, looped, emptied, marking, joined, sequenced, turned, opted, normal, scanned}
use Rattle.star_normal.specs.Shapes.{AreStripped, IsExact, NeverScans, ScansAtTop, HasOneScan, scan_part, rest_part, tree_numbered}

never_top : (t : FlaggedTree) → NeverScans t → (flags t).scan ≡ false
never_top (leaf f s) n = n
never_top (seq f l r) n = n.0
never_top (alt f l r) n = n.0

never_with : (h : Flags) (t : FlaggedTree) → h.scan ≡ false → NeverScans t → NeverScans (with_flags h t)
never_with h (leaf f s) e n = e
never_with h (seq f l r) e n = (e, n.1, n.2)
never_with h (alt f l r) e n = (e, n.1, n.2)

never_joined : (nf ng : Bool) (l r : FlaggedTree) → NeverScans l → NeverScans r → NeverScans (joined nf ng l r)
never_joined true true l r a b = (refl, a, b)
never_joined true false l r a b = (refl, a, b)
never_joined false ng l r a b = (refl, a, b)

never_sequenced : (under nf ng : Bool) (l r : FlaggedTree) → NeverScans l → NeverScans r → NeverScans (sequenced under nf ng l r)
never_sequenced true nf ng l r a b = never_joined nf ng l r a b
never_sequenced false nf ng l r a b = (refl, a, b)

never_turned : (under e : Bool) (t : FlaggedTree) → NeverScans t → NeverScans (turned under e t)
never_turned true e t n = n
never_turned false e t n = never_with (looped e (flags t)) t (never_top t n) n

never_opted : (under : Bool) (t : FlaggedTree) → NeverScans t → NeverScans (opted under t)
never_opted true t n = n
never_opted false t n = never_with (emptied (flags t)) t (never_top t n) n

pub never_normal : (under : Bool) (e : Expr) → NeverScans (normal under e)
never_normal under (symbol s) = refl
never_normal under (sequence f g) = never_sequenced under (nullable f) (nullable g) (normal (under && nullable g) f) (normal (under && nullable f) g)
    (never_normal (under && nullable g) f) (never_normal (under && nullable f) g)
never_normal under (union f g) = (refl, never_normal under f, never_normal under g)
never_normal under (star f) = never_turned under true (normal true f) (never_normal true f)
never_normal under (plus f) = never_turned under (nullable f) (normal true f) (never_normal true f)
never_normal under (optional f) = never_opted under (normal under f) (never_normal under f)
never_normal under (marked f y) = never_with (marking y (nullable f) (flags (normal under f))) (normal under f) (never_top (normal under f) (never_normal under f)) (never_normal under f)
never_normal under (repeated f m n) = never_normal under f

pub never_numbered : (k : ℕ) (t : FlaggedTree) → NeverScans t → NeverScans (tree_numbered k t)
never_numbered k (leaf f s) n = n
never_numbered k (seq f l r) n = (n.0, never_numbered k l n.1, never_numbered (k + length (leaves l)) r n.2)
never_numbered k (alt f l r) n = (n.0, never_numbered k l n.1, never_numbered (k + length (leaves l)) r n.2)

-- Trees that never scan.

pub one_scan : (t : FlaggedTree) → NeverScans t → HasOneScan t
one_scan (leaf f s) n = tt
one_scan (seq f l r) n = (n.1, n.2)
one_scan (alt f l r) n = (n.1, inl n.2)

pub rest_whole : (t : FlaggedTree) → NeverScans t → rest_part t ≡ Some t
rest_whole (leaf f s) n = rw n refl
rest_whole (seq f l r) n = rw n.0 refl
rest_whole (alt f l r) n = rw (n.0, never_top r n.2) refl

pub scan_none : (t : FlaggedTree) → NeverScans t → scan_part t ≡ None
scan_none (leaf f s) n = rw n refl
scan_none (seq f l r) n = rw n.0 refl
scan_none (alt f l r) n = rw (n.0, never_top r n.2) refl

module _ {X : Type 0} (Is : ℕ → X → Type 0) where
  pub whole_spells : (t : FlaggedTree) → NeverScans t → (u : List X) → WholeSpells Is t u ≡ TreeSpells Is t u
  whole_spells (leaf f s) n u = rw n refl
  whole_spells (seq f l r) n u = rw n.0 refl
  whole_spells (alt f l r) n u = rw (n.0, never_top r n.2) refl

  pub whole_marks : (t : FlaggedTree) → NeverScans t → (y : ℕ) (u : List X) → WholeMarks Is t y u ≡ TreeMarks Is t y u
  whole_marks (leaf f s) n y u = rw n refl
  whole_marks (seq f l r) n y u = rw n.0 refl
  whole_marks (alt f l r) n y u = rw (n.0, never_top r n.2) refl

  -- Trees that scan at the top.

  pub scanned_spells : (t : FlaggedTree) → NeverScans t → (u : List X) → WholeSpells Is (scanned t) u ≡ EndsIn (TreeSpells Is t) u
  scanned_spells (leaf f s) n u = refl
  scanned_spells (seq f l r) n u = refl
  scanned_spells (alt f l r) n u = rw (never_top r n.2) refl

  pub scanned_marks : (t : FlaggedTree) → NeverScans t → (y : ℕ) (u : List X) → WholeMarks Is (scanned t) y u ≡ EndsIn (TreeMarks Is t y) u
  scanned_marks (leaf f s) n y u = refl
  scanned_marks (seq f l r) n y u = refl
  scanned_marks (alt f l r) n y u = rw (never_top r n.2) refl

  pub blind_spells : (t : FlaggedTree) (u : List X) → TreeSpells Is (scanned t) u ≡ TreeSpells Is t u
  blind_spells (leaf f s) u = refl
  blind_spells (seq f l r) u = refl
  blind_spells (alt f l r) u = refl

  pub blind_marks : (t : FlaggedTree) (y : ℕ) (u : List X) → TreeMarks Is (scanned t) y u ≡ TreeMarks Is t y u
  blind_marks (leaf f s) y u = refl
  blind_marks (seq f l r) y u = refl
  blind_marks (alt f l r) y u = refl

  pub scanned_exact : (t : FlaggedTree) → IsExact Is t → IsExact Is (scanned t)
  scanned_exact (leaf f s) h = h
  scanned_exact (seq f l r) h = h
  scanned_exact (alt f l r) h = h

-- The marks of a union without marks of its own, whose right part scans.
module _ {X : Type 0} (Is : ℕ → X → Type 0) where
  abbrev pub Reads : Flags → FlaggedTree → FlaggedTree → Bool → ℕ → List X → Type 0
  Reads f l r scan y u = Ends f (λ w. TreeSpells Is l w ⊎ BeginsAnywhere scan (TreeSpells Is r) w) (λ w. TreeMarks Is l y w ⊎ BeginsAnywhere scan (TreeMarks Is r y) w) y u

  pub read_from : (e : Bool) (l r : FlaggedTree) (y : ℕ) (u : List X) → Reads (held e) l r true y u → TreeMarks Is l y u ⊎ EndsIn (TreeMarks Is r y) u
  read_from e l r y u (inl h) = h
  read_from e l r y u (inr (inl h)) = let n = h.0 in cc
  read_from e l r y u (inr (inr h)) = let n = h.0 in cc

  pub read_to : (e : Bool) (l r : FlaggedTree) (y : ℕ) (u : List X) → TreeMarks Is l y u ⊎ EndsIn (TreeMarks Is r y) u → Reads (held e) l r true y u
  read_to e l r y u h = inl h

pub scanned_top : (t : FlaggedTree) → (flags (scanned t)).scan ≡ true
scanned_top (leaf f s) = refl
scanned_top (seq f l r) = refl
scanned_top (alt f l r) = refl

pub scanned_stripped : (t : FlaggedTree) → AreStripped t → AreStripped (scanned t)
scanned_stripped (leaf f s) h = h
scanned_stripped (seq f l r) h = h
scanned_stripped (alt f l r) h = h

pub scanned_one : (t : FlaggedTree) → NeverScans t → HasOneScan (scanned t)
scanned_one (leaf f s) n = tt
scanned_one (seq f l r) n = (n.1, n.2)
scanned_one (alt f l r) n = (n.1, inl n.2)

pub scanned_at_top : (t : FlaggedTree) → NeverScans t → ScansAtTop (scanned t)
scanned_at_top (leaf f s) n = tt
scanned_at_top (seq f l r) n = (n.1, n.2)
scanned_at_top (alt f l r) n = (n.1, n.2)

pub scanned_leaves : (t : FlaggedTree) → leaves (scanned t) ≡ leaves t
scanned_leaves (leaf f s) = refl
scanned_leaves (seq f l r) = refl
scanned_leaves (alt f l r) = refl

pub scanned_numbered : (k : ℕ) (t : FlaggedTree) → tree_numbered k (scanned t) ≡ scanned (tree_numbered k t)
scanned_numbered k (leaf f s) = refl
scanned_numbered k (seq f l r) = refl
scanned_numbered k (alt f l r) = refl

pub scanned_part : (t : FlaggedTree) → scan_part (scanned t) ≡ Some (scanned t)
scanned_part (leaf f s) = refl
scanned_part (seq f l r) = refl
scanned_part (alt f l r) = refl

pub scanned_rest : (t : FlaggedTree) → rest_part (scanned t) ≡ None
scanned_rest (leaf f s) = refl
scanned_rest (seq f l r) = refl
scanned_rest (alt f l r) = refl
