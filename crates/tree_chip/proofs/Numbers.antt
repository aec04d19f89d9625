-- The numbers of the nets of the whole: those of the nets of the cells that parts have, without gaps.
use Rattle.std.proofs.Common.{◌≡◌, ◌⊎◌, inl, inr, ◌↔◌, ℕ, zero, suc, ◌<◌, ◌≤◌, ◌==◌, Bool, true, false, ◌||◌, cond, if◌then◌else◌, nat_le, Some, List, refl, sym, ap, subst, ◌∙◌, arith}
use Rattle.std.proofs.lemmas.Bool.{eqb-true, eq-eqb, lt-ltb, le-ltb, cases_lt}
use Rattle.std.proofs.lemmas.Option.{same_Some, none-some, slice_get-get_or}
use Rattle.rx_lang.specs.Tables.{Tables}
use Rattle.star_normal.specs.declared.node.Node.{Node}
use Rattle.star_normal.specs.declared.node.NodeKind.{NodeKind}
use Rattle.star_normal.specs.declared.node.NodeKind.TheVariants.{Leaf, Seq, Alt}
use Rattle.star_normal.specs.Sizes.{size_at, light_child, heavy_child}
use Rattle.star_normal.specs.Tables.{TreeTable, plain_node}
use Rattle.nor_net.specs.Assembly.{PartNet, part_net, IsPartNet, NetsMeet, PartsJoin}
use Rattle.nor_net.specs.Assembly.PartsJoin.{same as same_part, on as meet_on, back as meet_back}
use Rattle.light_order.specs.Order.{child_of}
use Rattle.cell_network.specs.declared.numbering.Counts.{Counts}
use Rattle.cell_network.specs.Parts.{counts_of, bundle, node_at, part_of}
use Rattle.cell_network.specs.Home.{whole_nets}
use Rattle.cell_network.specs.Assembled.{part_home, driver_of, part_count, ports_meet, AreDriven, left_of, right_of, left_below, right_below}
use Rattle.cell_network.specs.TreeParts.{AreParts}
use Rattle.cell_network.specs.WireMeetings.{left_wire, right_wire, wire_above, IsWireBelow}
use Rattle.node_cell.specs.Blocks.{light_net, heavy_net}
use Rattle.tree_chip.proofs.Ranks.{rank, rank_below, rank_apart, ranked}
use Rattle.tree_chip.proofs.TreeEdges.{top, light_by_kind, heavy_by_kind, frame_light, frame_heavy}
use Rattle.tree_chip.proofs.SideNets.{out_net, kind_out, KeepsMeetings}

-- ---- a test of some numbers below a bound

pub any_below : (ℕ → Bool) → ℕ → Bool
any_below test zero = false
any_below test (suc n) = test n || any_below test n

or_true : (a b : Bool) → (a || b) ≡ true → (a ≡ true) ⊎ (b ≡ true)
or_true true b e = inl refl
or_true false b e = inr e

or_left : (a b : Bool) → a ≡ true → (a || b) ≡ true
or_left true b e = refl
or_left false b e = cc

or_right : (a b : Bool) → b ≡ true → (a || b) ≡ true
or_right true b e = refl
or_right false b e = e

pub any_given : (test : ℕ → Bool) (n k : ℕ) → k < n → test k ≡ true → any_below test n ≡ true
unfolding any_below
any_given test zero k lt e = absurd (omega arith)
any_given test (suc n) k lt e = elim (cases_lt k n) as (λ _. (test n || any_below test n) ≡ true) [
  | inl less ↦ or_right (test n) (any_below test n) (any_given test n k less e)
  | inr last ↦ let same : k ≡ n = omega arith in or_left (test n) (any_below test n) (ap test (sym same) ∙ e)
]

pub any_found : (test : ℕ → Bool) (n : ℕ) → any_below test n ≡ true → (k : ℕ) × (k < n) × (test k ≡ true)
unfolding any_below
any_found test zero e = absurd (cc)
any_found test (suc n) e = elim (or_true (test n) (any_below test n) e) as (λ _. (k : ℕ) × (k < suc n) × (test k ≡ true)) [
  | inl last ↦ (n, omega arith, last)
  | inr rest ↦ let k = any_found test n rest in (k.0, let lt = k.1 in omega arith, k.2)
]

-- ---- numbers

module _ (tree : TreeTable) (tables : Tables) where
  abbrev Known : PartNet → Type 0
  Known a = IsPartNet (part_of tree tables) (part_count tree) a

  abbrev Join : PartNet → PartNet → Type 0
  Join = PartsJoin (part_of tree tables) (part_count tree) (ports_meet tree tables)

  -- some net of a part is this net of the cells
  pub is_home : ℕ → Bool
  is_home h = any_below (λ v. any_below (λ x. part_home tree tables (part_net v x) == h) (part_of tree tables v).nets) (part_count tree)

  -- the number of a net of a part in the whole, and how many there are
  abbrev pub number_of : PartNet → ℕ
  number_of a = rank is_home (part_home tree tables a)

  abbrev pub number : ℕ → ℕ → ℕ
  number v x = number_of (part_net v x)

  abbrev pub count : ℕ
  count = rank is_home (whole_nets (counts_of tree tables))

  home_counts : (a : PartNet) → Known a → is_home (part_home tree tables a) ≡ true
  unfolding is_home
  home_counts a known =
      any_given _ (part_count tree) a.which known.known
      (any_given (λ x. part_home tree tables (part_net a.which x) == part_home tree tables a) (part_of tree tables a.which).nets a.net known.below
      (eq-eqb (part_home tree tables a) (part_home tree tables a) refl))

  -- the net of a part that bears a number
  pub record Bearer (k : ℕ) : Type 0 where
    pub net : PartNet
    pub known : Known net
    pub number_is : number_of net ≡ k

  pub bearer : (k : ℕ) → k < count → Bearer k
  unfolding is_home
  bearer k lt =
      let r = ranked is_home (whole_nets (counts_of tree tables)) k lt in
      let v = any_found (λ v. any_below (λ x. part_home tree tables (part_net v x) == r.value) (part_of tree tables v).nets)
      (part_count tree) r.passes in
      let x = any_found (λ x. part_home tree tables (part_net v.0 x) == r.value) (part_of tree tables v.0).nets v.2 in
      record {
        net = part_net v.0 x.0;
        known = record { known = v.1; below = x.1 };
        number_is = ap (rank is_home) (eqb-true _ _ x.2) ∙ r.number;
      }

  join_on : (a b d : PartNet) → Join a b → Join b d → Join a d
  join_on _ _ d (same_part a) k = k
  join_on _ b d (meet_on a e _ h rest) k = meet_on a e d h (join_on e b d rest k)
  join_on _ b d (meet_back a e _ h rest) k = meet_back a e d h (join_on e b d rest k)

  join_back : (a b : PartNet) → Join a b → Join b a
  join_back _ _ (same_part a) = same_part a
  join_back _ b (meet_on a e _ h rest) = join_on b e a (join_back e b rest) (meet_back e a a h (same_part a))
  join_back _ b (meet_back a e _ h rest) = join_on b e a (join_back e b rest) (meet_on e a a h (same_part a))

  module _ (driven : AreDriven tree tables) where
    pub number_below : (a : PartNet) → Known a → number_of a < count
    number_below a known = rank_below is_home (part_home tree tables a) (whole_nets (counts_of tree tables)) (home_counts a known)
        (driven.below a known)

    pub same_home : (a b : PartNet) → Known a → Known b → number_of a ≡ number_of b → part_home tree tables a ≡ part_home tree tables b
    same_home a b ka kb e = rank_apart is_home _ _ (home_counts a ka) (home_counts b kb) e

    -- nets with one number are joined, and joined nets have one number
    pub number_joins : (a b : PartNet) → Known a → Known b → number_of a ≡ number_of b → Join a b
    number_joins a b ka kb e =
        let same = driven.apart a b ka kb (same_home a b ka kb e) in
        join_on a (driver_of tree tables a) b (driven.leads a ka) (subst (λ d. Join d b) (sym same) (join_back b (driver_of tree tables b)
        (driven.leads b kb)))

    pub meet_number : (a b : PartNet) → NetsMeet (part_of tree tables) (part_count tree) (ports_meet tree tables) a b → number_of a ≡ number_of b
    meet_number a b h =
        ap (rank is_home) (sym (driven.home a h.first) ∙ ap (part_home tree tables) (driven.meets a b h) ∙ driven.home b h.second)

    pub joined_number : (a b : PartNet) → Join a b → number_of a ≡ number_of b
    joined_number _ _ (same_part a) = refl
    joined_number _ b (meet_on a e _ h rest) = meet_number a e h ∙ joined_number e b rest
    joined_number _ b (meet_back a e _ h rest) = sym (meet_number e a h) ∙ joined_number e b rest

-- ---- wires of children

module _ (tree : TreeTable) (tables : Tables) where
  abbrev c : Counts
  c = counts_of tree tables

  abbrev nodes : List Node
  nodes = tree.nodes

  -- a child on the left or on the right, by its role
  pub record Sided (v ch i : ℕ) : Type 0 where
    pub left : Bool
    pub below : (if left then left_below tree v else right_below tree v) ≡ Some ch

  -- of two children l and r the one in a role, and the net that leads to it
  pair_side : (l r i : ℕ) (b : Bool) (heavy : Bool) (ch : ℕ) → (if heavy then Some (cond b r l) else Some (cond b l r)) ≡ Some ch
      → ((Some l ≡ Some ch) × ((if heavy then heavy_net c b i else light_net c b i) ≡ left_wire c i))
      ⊎ ((Some r ≡ Some ch) × ((if heavy then heavy_net c b i else light_net c b i) ≡ right_wire c i))
  pair_side l r i true true ch e = inr (e, refl)
  pair_side l r i true false ch e = inl (e, refl)
  pair_side l r i false true ch e = inl (e, refl)
  pair_side l r i false false ch e = inr (e, refl)

  kind_side : (k : NodeKind) (heavy : Bool) (ch i : ℕ)
      → (if heavy then heavy_child (size_at tree.nodes) k else light_child (size_at tree.nodes) k) ≡ Some ch
      → ((left_of k ≡ Some ch) × (kind_out c tree.nodes k heavy i ≡ left_wire c i))
      ⊎ ((right_of k ≡ Some ch) × (kind_out c tree.nodes k heavy i ≡ right_wire c i))
  kind_side (Leaf s) true ch i e = absurd (none-some ch e)
  kind_side (Leaf s) false ch i e = absurd (none-some ch e)
  kind_side (Seq l r) true ch i e = pair_side l r i (nat_le (size_at tree.nodes l) (size_at tree.nodes r)) true ch e
  kind_side (Seq l r) false ch i e = pair_side l r i (nat_le (size_at tree.nodes l) (size_at tree.nodes r)) false ch e
  kind_side (Alt l r) true ch i e = pair_side l r i (nat_le (size_at tree.nodes l) (size_at tree.nodes r)) true ch e
  kind_side (Alt l r) false ch i e = pair_side l r i (nat_le (size_at tree.nodes l) (size_at tree.nodes r)) false ch e

  -- the role of a child on a side
  pub record InRole (k : NodeKind) (ch i net : ℕ) : Type 0 where
    pub heavy : Bool
    pub is : (if heavy then heavy_child (size_at tree.nodes) k else light_child (size_at tree.nodes) k) ≡ Some ch
    pub net_is : net ≡ kind_out c tree.nodes k heavy i

  left_role : (k : NodeKind) (ch i : ℕ) → left_of k ≡ Some ch → InRole k ch i (left_wire c i)
  left_role (Leaf s) ch i e = absurd (none-some ch e)
  left_role (Seq l r) ch i e = by (nat_le (size_at tree.nodes l) (size_at tree.nodes r)) refl
    where
      by : (b : Bool) → nat_le (size_at tree.nodes l) (size_at tree.nodes r) ≡ b → InRole (Seq l r) ch i (left_wire c i)
      by true t = record { heavy = false; is = rw t e; net_is = rw t refl }
      by false t = record { heavy = true; is = rw t e; net_is = rw t refl }
  left_role (Alt l r) ch i e = by (nat_le (size_at tree.nodes l) (size_at tree.nodes r)) refl
    where
      by : (b : Bool) → nat_le (size_at tree.nodes l) (size_at tree.nodes r) ≡ b → InRole (Alt l r) ch i (left_wire c i)
      by true t = record { heavy = false; is = rw t e; net_is = rw t refl }
      by false t = record { heavy = true; is = rw t e; net_is = rw t refl }

  right_role : (k : NodeKind) (ch i : ℕ) → right_of k ≡ Some ch → InRole k ch i (right_wire c i)
  right_role (Leaf s) ch i e = absurd (none-some ch e)
  right_role (Seq l r) ch i e = by (nat_le (size_at tree.nodes l) (size_at tree.nodes r)) refl
    where
      by : (b : Bool) → nat_le (size_at tree.nodes l) (size_at tree.nodes r) ≡ b → InRole (Seq l r) ch i (right_wire c i)
      by true t = record { heavy = true; is = rw t e; net_is = rw t refl }
      by false t = record { heavy = false; is = rw t e; net_is = rw t refl }
  right_role (Alt l r) ch i e = by (nat_le (size_at tree.nodes l) (size_at tree.nodes r)) refl
    where
      by : (b : Bool) → nat_le (size_at tree.nodes l) (size_at tree.nodes r) ≡ b → InRole (Alt l r) ch i (right_wire c i)
      by true t = record { heavy = true; is = rw t e; net_is = rw t refl }
      by false t = record { heavy = false; is = rw t e; net_is = rw t refl }

  -- ---- children meet by wires

  pub record MeetsChild (a b : PartNet) : Type 0 where
    pub heavy : Bool
    pub known : a.which ≤ top tree
    pub child : child_of tree heavy a.which ≡ Some b.which
    pub wire : b.net < bundle c
    pub net : a.net ≡ out_net tree tables a.which heavy b.net

  node_side : (heavy : Bool) (v : ℕ) → v < top tree → child_of tree heavy v
      ≡ (if heavy then heavy_child (size_at tree.nodes) (node_at tree.nodes v).kind else light_child (size_at tree.nodes) (node_at tree.nodes v).kind)
  node_side true v lt = heavy_by_kind tree v (node_at tree.nodes v) (slice_get-get_or tree.nodes v (plain_node (Leaf 0) false) lt)
  node_side false v lt = light_by_kind tree v (node_at tree.nodes v) (slice_get-get_or tree.nodes v (plain_node (Leaf 0) false) lt)

  pub child_meets : (heavy : Bool) (v ch i : ℕ) → v ≤ top tree → child_of tree heavy v ≡ Some ch → i < bundle c
      → IsWireBelow tree tables (part_net v (out_net tree tables v heavy i)) (part_net ch i)
  child_meets heavy v ch i low is lt = by (cases_lt v (top tree))
    where
      of_frame : (h : Bool) → v ≡ top tree → child_of tree h v ≡ Some ch
          → (left_below tree v ≡ Some ch) × (out_net tree tables v h i ≡ wire_above tree tables true v i)
      of_frame true same e =
          let high = le-ltb v (top tree) (omega arith) in
          let root : tree.root ≡ ch = same_Some tree.root ch (sym (frame_heavy tree) ∙ ap (λ x. child_of tree true x) (sym same) ∙ e) in
          (rw high (ap (λ x. Some x) root), rw high refl)
      of_frame false same e = absurd (none-some ch (sym (frame_light tree) ∙ ap (λ x. child_of tree false x) (sym same) ∙ e))

      by : (v < top tree) ⊎ (top tree ≤ v) → IsWireBelow tree tables (part_net v (out_net tree tables v heavy i)) (part_net ch i)
      by (inl less) =
          let on = lt-ltb v (top tree) less in
          record {
            known = low;
            wire = lt;
            side = elim (kind_side (node_at tree.nodes v).kind heavy ch i (sym (node_side heavy v less) ∙ is))
                as (λ _. ((left_below tree v ≡ Some ch) × (out_net tree tables v heavy i ≡ wire_above tree tables true v i))
                ⊎ ((right_below tree v ≡ Some ch) × (out_net tree tables v heavy i ≡ wire_above tree tables false v i))) [
                  | inl k ↦ inl (rw on k.0, rw on k.1)
                  | inr k ↦ inr (rw on k.0, rw on k.1)
                ];
          }
      by (inr more) = record { known = low; wire = lt; side = inl (of_frame heavy (omega arith) is) }

  pub meets_child : (a b : PartNet) → IsWireBelow tree tables a b → MeetsChild a b
  meets_child a b h = by (cases_lt a.which (top tree)) h.side
    where
      of_node : (k : InRole (node_at tree.nodes a.which).kind b.which b.net a.net) → a.which < top tree → MeetsChild a b
      of_node k less =
          let on = lt-ltb a.which (top tree) less in
          record { heavy = k.heavy; known = h.known; child = node_side k.heavy a.which less ∙ k.is; wire = h.wire; net = k.net_is ∙ rw on refl }

      role_net : (net : ℕ) → a.net ≡ net → InRole (node_at tree.nodes a.which).kind b.which b.net net
          → InRole (node_at tree.nodes a.which).kind b.which b.net a.net
      role_net net e k = record { heavy = k.heavy; is = k.is; net_is = e ∙ k.net_is }

      by : (a.which < top tree) ⊎ (top tree ≤ a.which)
          → ((left_below tree a.which ≡ Some b.which) × (a.net ≡ wire_above tree tables true a.which b.net))
          ⊎ ((right_below tree a.which ≡ Some b.which) × (a.net ≡ wire_above tree tables false a.which b.net)) → MeetsChild a b
      by (inl less) (inl k) =
          let on = lt-ltb a.which (top tree) less in
          let kind = (node_at tree.nodes a.which).kind in
          of_node (role_net (left_wire c b.net) (k.1 ∙ rw on refl) (left_role kind b.which b.net (sym (rw on refl) ∙ k.0))) less
      by (inl less) (inr k) =
          let on = lt-ltb a.which (top tree) less in
          let kind = (node_at tree.nodes a.which).kind in
          of_node (role_net (right_wire c b.net) (k.1 ∙ rw on refl) (right_role kind b.which b.net (sym (rw on refl) ∙ k.0))) less
      by (inr more) (inl k) =
          let known = h.known in
          let same : a.which ≡ top tree = omega arith in
          let off = le-ltb a.which (top tree) more in
          let root : Some tree.root ≡ Some b.which = sym (rw off refl) ∙ k.0 in
          record {
            heavy = true;
            known = known;
            child = ap (λ x. child_of tree true x) same ∙ frame_heavy tree ∙ root;
            wire = h.wire;
            net = k.1 ∙ rw off refl;
          }
      by (inr more) (inr k) =
          let off = le-ltb a.which (top tree) more in
          absurd (none-some b.which (sym (rw off refl) ∙ k.0))

  pub keeps_meetings : (driven : AreDriven tree tables) → AreParts tree tables
      → ((a b : PartNet) → NetsMeet (part_of tree tables) (part_count tree) (ports_meet tree tables) a b ↔ IsWireBelow tree tables a b)
      → KeepsMeetings tree tables (number tree tables)
  keeps_meetings driven parts wires = record {
    meets = λ heavy v ch i low is lt. meet_number tree tables driven (part_net v (out_net tree tables v heavy i)) (part_net ch i)
        ((wires _ _).1 (child_meets heavy v ch i low is lt));
    supply = λ v low.
        let here = (parts.wired v low).vdd in
        let there = (parts.wired (top tree) (omega arith)).vdd in
        ap (rank (is_home tree tables)) (ap (λ x. part_home tree tables (part_net v x)) (sym here) ∙ driven.vdd v low
        ∙ sym (ap (λ x. part_home tree tables (part_net (top tree) x)) (sym there) ∙ driven.vdd (top tree) (omega arith)));
  }
