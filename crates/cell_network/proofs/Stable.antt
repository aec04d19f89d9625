-- While PHI1 is high the nets of the cells keep what they were after the clock before, but for what the lines decide.
use Rattle.std.proofs.Common.{◌≡◌, ◌⊎◌, inl, inr, ℕ, zero, suc, ◌+◌, ◌<◌, ◌≤◌, not, Bool, true, false, List, [], ◌∷◌, map, length, refl, ap, sym, ◌∙◌, arith}
use Rattle.std.specs.List.{AllByRecursion, list_any}
use Rattle.std.proofs.lemmas.Bool.{cases_lt}
use Rattle.std.proofs.lemmas.Option.{slice_get_within}
use Rattle.rx_lang.specs.Tables.{Tables, IsSpecification}
use Rattle.star_normal.specs.declared.node.Node.{Node}
use Rattle.star_normal.specs.declared.node.NodeKind.{NodeKind}
use Rattle.star_normal.specs.declared.node.NodeKind.TheVariants.{Leaf, Seq, Alt}
use Rattle.star_normal.specs.Tables.{TreeTable, IsTree}
use Rattle.switch_net.specs.Clock.{Drive}
use Rattle.nor_net.specs.Evaluation.{value_at}
use Rattle.nor_net.specs.Equations.{Solves}
use Rattle.cell_network.specs.declared.numbering.Counts.{Counts}
use Rattle.cell_network.specs.declared.part_net.PartNet.TheVariants.{Begins, Out, LeftOut, NotBegins, NotOut, NotRight, RightIn, RightOut, Stored}
use Rattle.cell_network.specs.Cells.{eps_at}
use Rattle.cell_network.specs.Shapes.{gate, number, complement_inputs, begin_inputs, right_inputs, end_inputs}
use Rattle.cell_network.specs.Parts.{counts_of, node_at}
use Rattle.cell_network.specs.Home.{start_net, end_net, begin_net, whole_nets, in_net, home_numbers}
use Rattle.cell_network.specs.Whole.{whole_gates, cells_of}
use Rattle.cell_network.proofs.Named.{NamesSymbols}
use Rattle.cell_network.proofs.Feeding.{fed_cases, left_before, right_before}
use Rattle.cell_network.proofs.Nors.{IsNor}
use Rattle.cell_network.proofs.Wired.{here, start_nor}
use Rattle.cell_network.proofs.Solved.{kind_nor, nor_value, vdd_value, at_node}

module _ (tree : TreeTable) (tables : Tables) (t : IsTree tree) (spec : IsSpecification tables) (named : NamesSymbols (length tables.symbols) tree.nodes)
    (before now : Drive) (older old changed new : List Bool) (h : Solves (cells_of tree tables) before older old) (k : Solves (cells_of tree tables) now changed new)
    (start : value_at new (start_net (counts_of tree tables)) ≡ value_at old (start_net (counts_of tree tables)))
    (stored : (v s : ℕ) → v < length tree.nodes → (node_at tree.nodes v).kind ≡ Leaf s
    → value_at new (end_net (counts_of tree tables) v) ≡ value_at old (end_net (counts_of tree tables) v)) where
  abbrev c : Counts
  c = counts_of tree tables

  abbrev nodes : List Node
  nodes = tree.nodes

  -- the net has kept its value
  abbrev Kept : ℕ → Type 0
  Kept net = value_at new net ≡ value_at old net

  kept_any : (nets : List ℕ) → AllByRecursion Kept nets → list_any (value_at new) nets ≡ list_any (value_at old) nets
  kept_any [] e = refl
  kept_any (net ∷ nets) e = rw (e.0, kept_any nets e.1) refl

  -- a gate keeps its value where its inputs do
  kept_nor : (net : ℕ) (inputs : List ℕ) → net < whole_nets c → IsNor (whole_gates c tree tables) net inputs
      → AllByRecursion Kept inputs → Kept net
  kept_nor net inputs lt nor kept =
      nor_value tree tables t spec named now changed new k net inputs lt nor ∙ ap not (kept_any inputs kept)
      ∙ sym (nor_value tree tables t spec named before older old h net inputs lt nor)

  root_kept : Kept (start_net c + 1)
  root_kept = kept_nor (start_net c + 1) (start_net c ∷ []) (omega arith) (start_nor tree tables t spec named) (start, tt)

  -- ---- what has ended, from the leaves up

  abbrev EndKept : ℕ → Type 0
  EndKept v = Kept (end_net c v + 1)

  ends_kept : (v l r : ℕ) (eps : Bool) → EndKept l → EndKept r → AllByRecursion Kept (map (number (home_numbers c v (in_net c nodes v) l r)) (end_inputs eps))
  ends_kept v l r true le re = (re, (le, tt))
  ends_kept v l r false le re = (re, tt)

  end_kept_at : (v : ℕ) → v < length nodes → ((u : ℕ) → u < v → EndKept u) → (kind : NodeKind) → (node_at nodes v).kind ≡ kind → EndKept v
  end_kept_at v lt below (Leaf s) e =
      kept_nor (end_net c v + 1) (end_net c v ∷ []) (omega arith) (kind_nor tree tables t spec named v (Leaf s) 0 (gate Out (Stored ∷ [])) lt e refl)
      (stored v s lt e, tt)
  end_kept_at v lt below (Seq l r) e =
      let place = here tree tables t spec named v lt in
      let middle : Kept (end_net c v) =
      kept_nor (end_net c v) _ (omega arith) (kind_nor tree tables t spec named v (Seq l r) 0 (gate NotOut (end_inputs (eps_at nodes r))) lt e refl)
      (ends_kept v l r (eps_at nodes r) (below l (left_before c tree t v l r (node_at nodes v) place (inl e))) (below r (right_before c tree t v l r (node_at nodes v) place (inl e)))) in
      kept_nor (end_net c v + 1) (end_net c v ∷ []) (omega arith) (kind_nor tree tables t spec named v (Seq l r) 1 (gate Out (NotOut ∷ [])) lt e refl) (middle, tt)
  end_kept_at v lt below (Alt l r) e =
      let place = here tree tables t spec named v lt in
      let middle : Kept (end_net c v) =
      kept_nor (end_net c v) _ (omega arith) (kind_nor tree tables t spec named v (Alt l r) 0 (gate NotOut (RightOut ∷ LeftOut ∷ [])) lt e refl)
      (below r (right_before c tree t v l r (node_at nodes v) place (inr e)), (below l (left_before c tree t v l r (node_at nodes v) place (inr e)), tt)) in
      kept_nor (end_net c v + 1) (end_net c v ∷ []) (omega arith) (kind_nor tree tables t spec named v (Alt l r) 1 (gate Out (NotOut ∷ [])) lt e refl) (middle, tt)

  ends_below : (n : ℕ) → n ≤ length nodes → (u : ℕ) → u < n → EndKept u
  ends_below zero le u lt = absurd (omega arith)
  ends_below (suc n) le u lt =
      elim (cases_lt u n) [
        | inl less ↦ ends_below n (omega arith) u less
        | inr more ↦
            let same : n ≡ u = omega arith in
            let all : EndKept n = end_kept_at n (omega arith) (ends_below n (omega arith)) (node_at nodes n).kind refl in
            rw (← same) all
      ]

  pub end_kept : (v : ℕ) → v < length nodes → EndKept v
  end_kept v lt = ends_below (length nodes) (omega arith) v lt

  -- ---- what begins, from the root down

  pub record BeginKept (v : ℕ) : Type 0 where
    pub complement : Kept (begin_net c v)
    pub begins : Kept (begin_net c v + 1)
    pub right : (l r : ℕ) → ((node_at nodes v).kind ≡ Seq l r) ⊎ ((node_at nodes v).kind ≡ Alt l r) → Kept (begin_net c v + 3)

  vdd_kept : Kept 0
  vdd_kept = vdd_value tree tables t spec named now changed new k ∙ sym (vdd_value tree tables t spec named before older old h)

  complement_kept : (v l r : ℕ) (scan loops : Bool) → Kept (in_net c nodes v) → EndKept v
      → AllByRecursion Kept (map (number (home_numbers c v (in_net c nodes v) l r)) (complement_inputs scan loops))
  complement_kept v l r true loops inn out = (vdd_kept, tt)
  complement_kept v l r false true inn out = (inn, (out, tt))
  complement_kept v l r false false inn out = (inn, tt)

  begin_inputs_kept : (v l r : ℕ) (scan : Bool) → Kept (begin_net c v)
      → AllByRecursion Kept (map (number (home_numbers c v (in_net c nodes v) l r)) (begin_inputs scan))
  begin_inputs_kept v l r true complement = tt
  begin_inputs_kept v l r false complement = (complement, tt)

  right_inputs_kept : (v l r : ℕ) (eps : Bool) → EndKept l → Kept (begin_net c v + 1)
      → AllByRecursion Kept (map (number (home_numbers c v (in_net c nodes v) l r)) (right_inputs eps))
  right_inputs_kept v l r true out begins = (out, (begins, tt))
  right_inputs_kept v l r false out begins = (out, tt)

  begin_kept_at : (v : ℕ) → v < length nodes → Kept (in_net c nodes v) → (kind : NodeKind) → (node_at nodes v).kind ≡ kind → BeginKept v
  begin_kept_at v lt inn (Leaf s) e =
      let complement : Kept (begin_net c v) =
      kept_nor (begin_net c v) _ (omega arith) (kind_nor tree tables t spec named v (Leaf s) 1 (gate NotBegins (complement_inputs (node_at nodes v).scan (node_at nodes v).loops)) lt e refl)
      (complement_kept v 0 0 (node_at nodes v).scan (node_at nodes v).loops inn (end_kept v lt)) in
      record {
        complement = complement;
        begins =
            kept_nor (begin_net c v + 1) _ (omega arith) (kind_nor tree tables t spec named v (Leaf s) 2 (gate Begins (begin_inputs (node_at nodes v).scan)) lt e refl)
            (begin_inputs_kept v 0 0 (node_at nodes v).scan complement);
        right = λ l r kind. elim kind [
          | inl f ↦ let clash : Leaf s ≡ Seq l r = sym e ∙ f in absurd (cc)
          | inr f ↦ let clash : Leaf s ≡ Alt l r = sym e ∙ f in absurd (cc)
        ];
      }
  begin_kept_at v lt inn (Seq l r) e =
      let complement : Kept (begin_net c v) =
      kept_nor (begin_net c v) _ (omega arith) (kind_nor tree tables t spec named v (Seq l r) 2 (gate NotBegins (complement_inputs (node_at nodes v).scan (node_at nodes v).loops)) lt e refl)
      (complement_kept v l r (node_at nodes v).scan (node_at nodes v).loops inn (end_kept v lt)) in
      let begins : Kept (begin_net c v + 1) =
      kept_nor (begin_net c v + 1) _ (omega arith) (kind_nor tree tables t spec named v (Seq l r) 3 (gate Begins (begin_inputs (node_at nodes v).scan)) lt e refl) (begin_inputs_kept v l r (node_at nodes v).scan complement) in
      let left : l < length nodes = (let b = left_before c tree t v l r (node_at nodes v) (here tree tables t spec named v lt) (inl e) in omega (arith, b, lt)) in
      let middle : Kept (begin_net c v + 2) =
      kept_nor (begin_net c v + 2) _ (omega arith) (kind_nor tree tables t spec named v (Seq l r) 4 (gate NotRight (right_inputs (eps_at nodes l))) lt e refl)
      (right_inputs_kept v l r (eps_at nodes l) (end_kept l left) begins) in
      record {
        complement = complement;
        begins = begins;
        right = λ i j kind.
            kept_nor (begin_net c v + 3) ((begin_net c v + 2) ∷ []) (omega arith) (kind_nor tree tables t spec named v (Seq l r) 5 (gate RightIn (NotRight ∷ [])) lt e refl)
            (middle, tt);
      }
  begin_kept_at v lt inn (Alt l r) e =
      let complement : Kept (begin_net c v) =
      kept_nor (begin_net c v) _ (omega arith) (kind_nor tree tables t spec named v (Alt l r) 2 (gate NotBegins (complement_inputs (node_at nodes v).scan (node_at nodes v).loops)) lt e refl)
      (complement_kept v l r (node_at nodes v).scan (node_at nodes v).loops inn (end_kept v lt)) in
      let begins : Kept (begin_net c v + 1) =
      kept_nor (begin_net c v + 1) _ (omega arith) (kind_nor tree tables t spec named v (Alt l r) 3 (gate Begins (begin_inputs (node_at nodes v).scan)) lt e refl) (begin_inputs_kept v l r (node_at nodes v).scan complement) in
      let middle : Kept (begin_net c v + 2) =
      kept_nor (begin_net c v + 2) ((begin_net c v + 1) ∷ []) (omega arith) (kind_nor tree tables t spec named v (Alt l r) 4 (gate NotRight (Begins ∷ [])) lt e refl) (begins, tt) in
      record {
        complement = complement;
        begins = begins;
        right = λ i j kind.
            kept_nor (begin_net c v + 3) ((begin_net c v + 2) ∷ []) (omega arith) (kind_nor tree tables t spec named v (Alt l r) 5 (gate RightIn (NotRight ∷ [])) lt e refl)
            (middle, tt);
      }

  -- IN keeps its value where the nodes behind do
  in_kept : (v : ℕ) → ((p : ℕ) → v < p → p < length nodes → BeginKept p) → Kept (in_net c nodes v)
  in_kept v behind =
      fed_cases c Kept 0 nodes v (start_net c + 1) root_kept
      (λ j l r node e kind.
      let within : j < length nodes = slice_get_within nodes j node e in
      let same : node_at nodes j ≡ node = at_node tree tables t spec named before older old h j node e in
      let left : l < j = left_before c tree t j l r node e kind in
      let right : r < j = right_before c tree t j l r node e kind in
      let zero_on : 0 + j ≡ j = omega arith in (
        λ f. rw zero_on (behind j (omega (arith, left, f)) within).begins,
        λ f. rw zero_on ((behind j (omega (arith, right, f)) within).right l r (rw same kind)),
      ))

  behind_kept : (m v : ℕ) → length nodes ≤ v + m → v < length nodes → BeginKept v
  behind_kept zero v le lt = absurd (omega arith)
  behind_kept (suc m) v le lt =
      begin_kept_at v lt (in_kept v (λ p vp pl. behind_kept m p (omega (arith, le, vp)) pl)) (node_at nodes v).kind refl

  pub begin_kept : (v : ℕ) → v < length nodes → BeginKept v
  begin_kept v lt = behind_kept (length nodes) v (omega arith) lt
