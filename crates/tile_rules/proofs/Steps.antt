-- Paths of squares that share sides: one after another, back, and moved.
use Rattle.std.proofs.Common.{ℤ, ◌+ℤ◌, inl, inr, sym, ap, arith}
use Rattle.std.proofs.lemmas.Int.{ints}
use Rattle.geom.specs.Rows.{Squares}
use Rattle.geom.specs.Conduction.{IsNext, ShareSide, Leads}
use Rattle.geom.specs.Conduction.Leads.{here, step}

next_back : (a b : ℤ) → IsNext a b → IsNext b a
next_back a b h = elim h [ inl e ↦ inr e | inr e ↦ inl e ]

side_back : (x y u v : ℤ) → ShareSide x y u v → ShareSide u v x y
side_back x y u v h = elim h [ inl upright ↦ inl (sym upright.0, next_back y v upright.1) | inr level ↦ inr (sym level.0, next_back x u level.1) ]

next_moved : (a b d : ℤ) → IsNext a b → IsNext (a +ℤ d) (b +ℤ d)
next_moved a b d h = elim h [ inl e ↦ inl (omega (arith, ints)) | inr e ↦ inr (omega (arith, ints)) ]

side_moved : (x y u v d e : ℤ) → ShareSide x y u v → ShareSide (x +ℤ d) (y +ℤ e) (u +ℤ d) (v +ℤ e)
side_moved x y u v d e h = elim h [
  | inl upright ↦ inl (ap (λ a. a +ℤ d) upright.0, next_moved y v e upright.1)
  | inr level ↦ inr (ap (λ a. a +ℤ e) level.0, next_moved x u d level.1)
]

module _ (S : Squares) where
  -- a path and another from its end
  pub chain : (x y u v s t : ℤ) → Leads S x y u v → Leads S u v s t → Leads S x y s t
  chain _ _ _ _ s t (here x y) q = q
  chain _ _ _ _ s t (step x y a b u v side member p) q = step x y a b s t side member (chain a b u v s t p q)

  pub back : (x y u v : ℤ) → S x y → Leads S x y u v → Leads S u v x y
  back _ _ _ _ member (here x y) = here x y
  back _ _ _ _ member (step x y a b u v side next p) =
      chain u v a b x y (back a b u v next p) (step a b x y x y (side_back x y a b side) member (here x y))

  -- where a path from a square of the set ends is a square of the set
  pub ends : (x y u v : ℤ) → S x y → Leads S x y u v → S u v
  ends _ _ _ _ member (here x y) = member
  ends _ _ _ _ member (step x y a b u v side next p) = ends a b u v next p

-- What each step from inside keeps inside stays inside.
pub kept_inside : (S In : Squares) → ((x y u v : ℤ) → In x y → ShareSide x y u v → S u v → In u v) → (x y u v : ℤ) → In x y → Leads S x y u v → In u v
kept_inside S In keeps _ _ _ _ inside (here x y) = inside
kept_inside S In keeps _ _ _ _ inside (step x y a b u v side member p) = kept_inside S In keeps a b u v (keeps x y a b inside side member) p

-- A path of one set, moved, is one of a set that has the moved squares.
pub moved : (S T : Squares) (d e : ℤ) → ((x y : ℤ) → S x y → T (x +ℤ d) (y +ℤ e)) → (x y u v : ℤ) → Leads S x y u v
    → Leads T (x +ℤ d) (y +ℤ e) (u +ℤ d) (v +ℤ e)
moved S T d e to _ _ _ _ (here x y) = here (x +ℤ d) (y +ℤ e)
moved S T d e to _ _ _ _ (step x y a b u v side member p) =
    step (x +ℤ d) (y +ℤ e) (a +ℤ d) (b +ℤ e) (u +ℤ d) (v +ℤ e) (side_moved x y a b d e side) (to a b member) (moved S T d e to a b u v p)
