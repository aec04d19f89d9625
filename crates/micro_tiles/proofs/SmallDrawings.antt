-- What is joined in small drawings.
use Rattle.std.proofs.Common.{◌≡◌, ℤ, pos, ◌<ℤ◌, List, [], ◌∷◌, inl, inr, refl, sym, ◌∙◌, subst, arith}
use Rattle.std.proofs.lemmas.Int.{ints, by_lt_z}
use Rattle.geom.specs.declared.layer.Layer.{Layer}
use Rattle.geom.specs.declared.layer.Layer.TheVariants.{Diffusion, Poly, Metal, Cut}
use Rattle.geom.specs.Squares.{BoxShape, Inside, Covered}
use Rattle.geom.specs.Rows.{Squares}
use Rattle.micro_tiles.specs.Boxes.{box}
use Rattle.geom.specs.Conduction.{ShareSide, Leads, Spot, Conducts, IsJoin, Joined}
use Rattle.geom.specs.Conduction.Joined.{here, step}
use Rattle.geom.specs.Conduction.Leads.{here, step}
use Rattle.micro_tiles.specs.Examples.{spot, CornersPart, SidesJoin, crossing, CrossingsPart, CutsJoin, channel, ChannelsPart}
use Rattle.micro_tiles.proofs.Paths.{one_class}

-- ---- what every step keeps is kept

kept : (S : Squares) (P : ℤ → ℤ → Type 0) → ((x y u v : ℤ) → P x y → ShareSide x y u v → S u v → P u v)
    → (x y s t : ℤ) → P x y → Leads S x y s t → P s t
kept S P keeps _ _ _ _ p (here x y) = p
kept S P keeps _ _ _ _ p (step x y u v s t side member rest) = kept S P keeps u v s t (keeps x y u v p side member) rest

held : (bs : List BoxShape) (P : Spot → Type 0) → ((a b : Spot) → P a → IsJoin (Covered bs) a b → Conducts (Covered bs) b.layer b.x b.y → P b)
    → (a b : Spot) → P a → Joined (Covered bs) a b → P b
held bs P keeps _ _ p (here a) = p
held bs P keeps _ _ p (step a m b join conducts rest) = held bs P keeps m b (keeps a m p join conducts) rest

-- ---- squares

record IsLow (x y : ℤ) : Type 0 where
  left : x <ℤ pos 1
  bottom : y <ℤ pos 1

abbrev corner : List BoxShape
corner = box Metal 0 0 1 1 ∷ box Metal 1 1 2 2 ∷ []

stays_low : (x y u v : ℤ) → IsLow x y → ShareSide x y u v → Covered corner Metal u v → IsLow u v
stays_low x y u v low side member = elim member [
  | inl first ↦ record { left = first.1.right; bottom = first.1.top }
  | inr rest ↦ elim rest [
    | inl second ↦
        let i : Inside (box Metal 1 1 2 2) u v = second.1 in
        elim side [ inl up ↦ let e = up.0 in absurd (omega (arith, ints)) | inr level ↦ let e = level.0 in absurd (omega (arith, ints)) ]
    | inr none ↦ absurd none
  ]
]

square : (x y : ℤ) → x ≡ pos 0 → y ≡ pos 0 → Inside (box Metal 0 0 1 1) x y
square x y e f = record { left = omega (arith, ints); right = omega (arith, ints); bottom = omega (arith, ints); top = omega (arith, ints) }

next_square : (x y : ℤ) → x ≡ pos 1 → y ≡ pos 1 → Inside (box Metal 1 1 2 2) x y
next_square x y e f = record { left = omega (arith, ints); right = omega (arith, ints); bottom = omega (arith, ints); top = omega (arith, ints) }

pub corners_part : CornersPart
corners_part one =
    let path = one (pos 0) (pos 0) (pos 1) (pos 1) (inl (refl, square (pos 0) (pos 0) refl refl)) (inr (inl (refl, next_square (pos 1) (pos 1) refl refl))) in
    let low : IsLow (pos 1) (pos 1) = kept (λ x y. Covered corner Metal x y) IsLow stays_low (pos 0) (pos 0) (pos 1) (pos 1) (record { left = omega (arith, ints); bottom = omega (arith, ints) }) path in
    omega (arith, ints)

pub sides_join : SidesJoin
sides_join = one_class Metal (box Metal 0 0 1 1 ∷ box Metal 1 0 2 1 ∷ []) refl

-- ---- layers

abbrev IsMetal : Spot → Type 0
IsMetal a = a.layer ≡ Metal

stays_metal : (a b : Spot) → IsMetal a → IsJoin (Covered crossing) a b → Conducts (Covered crossing) b.layer b.x b.y → IsMetal b
stays_metal a b metal join conducts = elim join [
  | inl within ↦ sym within.0 ∙ metal
  | inr under ↦ elim under.2 [ inl first ↦ let e = first.0 in cc | inr rest ↦ elim rest [ inl second ↦ let e = second.0 in cc | inr none ↦ absurd none ] ]
]

pub crossings_part : CrossingsPart
crossings_part joined = let e : Poly ≡ Metal = held crossing IsMetal stays_metal (spot Metal 1 1) (spot Poly 1 1) refl joined in cc

middle : (layer : Layer) (x y : ℤ) → x ≡ pos 1 → y ≡ pos 1 → Inside (box layer 1 1 2 2) x y
middle layer x y e f = record { left = omega (arith, ints); right = omega (arith, ints); bottom = omega (arith, ints); top = omega (arith, ints) }

poly_there : (x y : ℤ) → x ≡ pos 1 → y ≡ pos 1 → Inside (box Poly 1 0 2 3) x y
poly_there x y e f = record { left = omega (arith, ints); right = omega (arith, ints); bottom = omega (arith, ints); top = omega (arith, ints) }

pub cuts_join : CutsJoin
cuts_join = step (spot Metal 1 1) (spot Poly 1 1) (spot Poly 1 1)
    (inr (refl, refl, inl (refl, middle Cut (pos 1) (pos 1) refl refl)))
    (inr (inr (inl (refl, poly_there (pos 1) (pos 1) refl refl))))
    (here (spot Poly 1 1))

-- ---- channels

record IsWest (a : Spot) : Type 0 where
  layer : a.layer ≡ Diffusion
  west : a.x <ℤ pos 1

-- a diffusion square of the row below or at the column of the poly
in_row : (x y : ℤ) → Covered channel Diffusion x y → Inside (box Diffusion 0 0 3 1) x y
in_row x y c = elim c [ inl first ↦ first.1 | inr rest ↦ elim rest [ inl second ↦ let e = second.0 in cc | inr none ↦ absurd none ] ]

-- one step goes at most one column on
near : (x y u v : ℤ) → ShareSide x y u v → x <ℤ pos 1 → u <ℤ pos 2
near x y u v side west = elim side [
  | inl up ↦ let e = up.0 in omega (arith, ints)
  | inr level ↦ elim level.1 [ inl e ↦ omega (arith, ints) | inr e ↦ omega (arith, ints) ]
]

-- a conducting diffusion square before column 2 stands before column 1
west_of : (u v : ℤ) → u <ℤ pos 2 → Conducts (Covered channel) Diffusion u v → u <ℤ pos 1
west_of u v below conducts = by_lt_z u (pos 1) (λ west. west) (λ east.
    let i : Inside (box Diffusion 0 0 3 1) u v = in_row u v conducts.0 in
    let under : Inside (box Poly 1 0 2 1) u v = record { left = east; right = below; bottom = i.bottom; top = i.top } in
    absurd (conducts.1 (inr (inl (refl, under)))))

stays_west : (a b : Spot) → IsWest a → IsJoin (Covered channel) a b → Conducts (Covered channel) b.layer b.x b.y → IsWest b
stays_west a b w join conducts = elim join [
  | inl within ↦
      let layer : b.layer ≡ Diffusion = sym within.0 ∙ w.layer in
      record { layer = layer; west = west_of b.x b.y (near a.x a.y b.x b.y within.1 w.west) (subst (λ (l : Layer). Conducts (Covered channel) l b.x b.y) layer conducts) }
  | inr under ↦ elim under.2 [ inl first ↦ let e = first.0 in cc | inr rest ↦ elim rest [ inl second ↦ let e = second.0 in cc | inr none ↦ absurd none ] ]
]

pub channels_part : ChannelsPart
channels_part joined =
    let w : IsWest (spot Diffusion 2 0) = held channel IsWest stays_west (spot Diffusion 0 0) (spot Diffusion 2 0) (record { layer = refl; west = omega (arith, ints) }) joined in
    let far : pos 2 <ℤ pos 1 = w.west in
    omega (arith, ints)
