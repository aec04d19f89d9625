-- Lines that are free.
use Rattle.std.proofs.Common.{◌≡◌, ◌≢◌, ◌⊎◌, ℕ, ◌+◌, ◌<◌, Bool, true, false, cond, Option, Some, None, [], ◌∷◌, refl, inl, inr, sym, ap, ◌∙◌, subst, arith}
use Rattle.std.specs.Option.{option_map_or}
use Rattle.block_grid.specs.declared.standing.Standing.{Standing}
use Rattle.block_grid.specs.declared.kind.BlockKind.{BlockKind}
use Rattle.block_grid.specs.declared.kind.BlockKind.TheVariants.{Empty, Horizontal, Vertical, Node, Frame}
use Rattle.block_grid.specs.Lines.{BlockPlace, row_of, col_of, IsOnStretch}
use Rattle.block_grid.specs.Sheets.{Sheet, block_at, node_on, node_kind, wire_kind, is_crossed_north, is_crossed_west}
use Rattle.block_grid.specs.Laying.{MayPass, IsFreeBetween, IsFreeLine}
use Rattle.channel_route.proofs.Lines.{on_row, on_col}

-- what a new column and a new row hold
abbrev pub IsLevel : BlockKind → Type 0
IsLevel kind = (kind ≡ Horizontal) ⊎ (kind ≡ Empty)

abbrev pub IsUpright : BlockKind → Type 0
IsUpright kind = (kind ≡ Vertical) ⊎ (kind ≡ Empty)

pub level_by : (b : Bool) (kind : BlockKind) → kind ≡ cond b Horizontal Empty → IsLevel kind
level_by true kind e = inl e
level_by false kind e = inr e

pub upright_by : (b : Bool) (kind : BlockKind) → kind ≡ cond b Vertical Empty → IsUpright kind
upright_by true kind e = inl e
upright_by false kind e = inr e

-- nothing crosses the north border of a block of a new column
no_node : (node : Standing) (b : Bool) → ◌≡◌ {A = BlockKind} (cond b (Frame node.node) (Node node.node)) Horizontal ⊎ ◌≡◌ {A = BlockKind} (cond b (Frame node.node) (Node node.node)) Empty → ⊥
no_node node true (inl e) = cc
no_node node true (inr e) = cc
no_node node false (inl e) = cc
no_node node false (inr e) = cc

crossed : (s w e : Bool) → IsLevel (wire_kind true s w e) → ⊥
crossed true true true (inl h) = cc
crossed true true true (inr h) = cc
crossed true true false (inl h) = cc
crossed true true false (inr h) = cc
crossed true false true (inl h) = cc
crossed true false true (inr h) = cc
crossed true false false (inl h) = cc
crossed true false false (inr h) = cc
crossed false true true (inl h) = cc
crossed false true true (inr h) = cc
crossed false true false (inl h) = cc
crossed false true false (inr h) = cc
crossed false false true (inl h) = cc
crossed false false true (inr h) = cc
crossed false false false (inl h) = cc
crossed false false false (inr h) = cc

level_by_kind : (o : Option Standing) (n s w e : Bool) → IsLevel (option_map_or node_kind o (wire_kind n s w e)) → n ≡ false
level_by_kind (Some node) n s w e h = absurd (no_node node node.frame h)
level_by_kind None false s w e h = refl
level_by_kind None true s w e h = absurd (crossed s w e h)

pub level_uncrossed : (s : Sheet) (r c : ℕ) → IsLevel (block_at s r c) → is_crossed_north s r c ≡ false
level_uncrossed s r c h = level_by_kind (node_on s.nodes r c) (is_crossed_north s r c) (is_crossed_north s (r + 1) c) (is_crossed_west s r c) (is_crossed_west s r (c + 1)) h

pass_level : (kind : BlockKind) (p q : BlockPlace) → col_of p ≡ col_of q → IsLevel kind → MayPass kind p q q
pass_level kind p q e (inl h) = inr (inl (h, e, refl))
pass_level kind p q e (inr h) = inl h

pass_upright : (kind : BlockKind) (p q : BlockPlace) → row_of p ≡ row_of q → IsUpright kind → MayPass kind p q q
pass_upright kind p q e (inl h) = inr (inr (h, e, refl))
pass_upright kind p q e (inr h) = inl h

-- nothing lies between neighbours
beside : (s : Sheet) (a b : ℕ) → IsFreeBetween s (a, b) (a, b + 1)
beside s a b r c on p q = absurd (none r c on p q)
  where
    none : (r c : ℕ) → IsOnStretch (a, b) (a, b + 1) r c → (r ≡ a → c ≢ b) → (r ≡ a → c ≢ b + 1) → ⊥
    none r c on p q = grind arith

below : (s : Sheet) (a y b : ℕ) → y ≡ a + 1 → IsFreeBetween s (a, b) (y, b)
below s a y b e r c on p q = absurd (none r c on p q)
  where
    none : (r c : ℕ) → IsOnStretch (a, b) (y, b) r c → (r ≡ a → c ≢ b) → (r ≡ y → c ≢ b) → ⊥
    none r c on p q = grind arith

-- what a sheet has where a heavy edge is to run
pub record HeavyRoom (t : Sheet) (a b x d : ℕ) : Type 0 where
  pub first : block_at t a (b + 1) ≡ Empty
  pub column : (r : ℕ) → r ≢ x → IsLevel (block_at t r (b + 1))
  pub corner : block_at t x (b + 1) ≡ Empty
  pub row : (c : ℕ) → IsUpright (block_at t x c)
  pub last : block_at t x d ≡ Empty

pub heavy_free : (t : Sheet) (a b x y d : ℕ) → y ≡ x + 1 → HeavyRoom t a b x d
    → IsFreeLine t (a, b) ((a, b + 1) ∷ (x, b + 1) ∷ (x, d) ∷ (y, d) ∷ [])
heavy_free t a b x y d next h = (beside t a b, inl h.first, (along_column, inl h.corner, (along_row, inl h.last, below t x y d next)))
  where
    along_column : IsFreeBetween t (a, b + 1) (x, b + 1)
    along_column r c on p q =
        let e : c ≡ b + 1 = on_col a x (b + 1) r c on in
        let off : r ≢ x = λ f. q f e in
        pass_level (block_at t r c) (a, b + 1) (x, b + 1) refl (subst (λ n. IsLevel (block_at t r n)) (sym e) (h.column r off))

    along_row : IsFreeBetween t (x, b + 1) (x, d)
    along_row r c on p q =
        let e : r ≡ x = on_row x (b + 1) d r c on in
        pass_upright (block_at t r c) (x, b + 1) (x, d) refl (subst (λ n. IsUpright (block_at t n c)) (sym e) (h.row c))

-- what a sheet has where a light edge is to run
pub record LightRoom (t : Sheet) (a b z x d : ℕ) : Type 0 where
  pub first : block_at t (a + 1) b ≡ Empty
  pub row : (c : ℕ) → c < z → IsUpright (block_at t (a + 1) c)
  pub column : (r : ℕ) → block_at t r z ≡ Empty
  pub second : (c : ℕ) → c < z → IsUpright (block_at t x c)
  pub last : block_at t x d ≡ Empty

pub light_free : (t : Sheet) (a b z x y d : ℕ) → b < z → d < z → y ≡ x + 1 → LightRoom t a b z x d
    → IsFreeLine t (a, b) ((a + 1, b) ∷ (a + 1, z) ∷ (x, z) ∷ (x, d) ∷ (y, d) ∷ [])
light_free t a b z x y d left right next h =
    (below t a (a + 1) b refl, inl h.first, (along_row, inl (h.column (a + 1)), (along_column, inl (h.column x), (along_second, inl h.last, below t x y d next))))
  where
    along_row : IsFreeBetween t (a + 1, b) (a + 1, z)
    along_row r c on p q =
        let e : r ≡ a + 1 = on_row (a + 1) b z r c on in
        let lt : c < z = grind arith in
        pass_upright (block_at t r c) (a + 1, b) (a + 1, z) refl (subst (λ n. IsUpright (block_at t n c)) (sym e) (h.row c lt))

    along_column : IsFreeBetween t (a + 1, z) (x, z)
    along_column r c on p q =
        let e : c ≡ z = on_col (a + 1) x z r c on in
        inl (ap (λ n. block_at t r n) e ∙ h.column r)

    along_second : IsFreeBetween t (x, z) (x, d)
    along_second r c on p q =
        let e : r ≡ x = on_row x z d r c on in
        let lt : c < z = grind arith in
        pass_upright (block_at t r c) (x, z) (x, d) refl (subst (λ n. IsUpright (block_at t n c)) (sym e) (h.second c lt))
