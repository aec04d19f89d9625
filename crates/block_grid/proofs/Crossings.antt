-- Crossings of lines whose places move.
use Rattle.std.proofs.Common.{◌≡◌, ℕ, false, nat_lt, nat_eq, List, [], ◌∷◌, map, refl}
use Rattle.block_grid.specs.Lines.{BlockPlace, stretch_crossings, crossings}

module _ (h : BlockPlace → BlockPlace) (f g : BlockPlace → ℕ) (a x b y : ℕ) (before : (q : BlockPlace) →
    nat_lt (f (h q)) a ≡ nat_lt (f q) b) (on : (q : BlockPlace) → nat_eq (g (h q)) x ≡ nat_eq (g q) y) where
  stretch_moved : (p q : BlockPlace) → stretch_crossings f g (h p) (h q) a x ≡ stretch_crossings f g p q b y
  stretch_moved p q = rw (on p, on q, before p, before q) refl

  -- where the moved places lie to the border as they did to another one, the line crosses it as often
  pub crossings_moved : (p : BlockPlace) (rest : List BlockPlace) → crossings f g (h p) (map h rest) a x ≡ crossings f g p rest b y
  crossings_moved p [] = refl
  crossings_moved p (q ∷ rest) = rw (stretch_moved p q, crossings_moved q rest) refl

module _ (h : BlockPlace → BlockPlace) (f g : BlockPlace → ℕ) (a x : ℕ) (off : (q : BlockPlace) → nat_eq (g (h q)) x ≡ false) where
  -- where no moved place is on the line with the number, the line crosses no border of it
  pub crossings_none : (p : BlockPlace) (rest : List BlockPlace) → crossings f g (h p) (map h rest) a x ≡ 0
  crossings_none p [] = refl
  crossings_none p (q ∷ rest) = rw (off p, crossings_none q rest) refl
