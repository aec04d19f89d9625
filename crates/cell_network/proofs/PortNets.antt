-- Which nets stand behind the ports of parts, by the ports' names.
use Rattle.std.proofs.Common.{◌≡◌, inl, inr, ℕ, ◌+◌, ◌-◌, ◌*◌, ◌<◌, ◌≤◌, ◌==◌, if◌then◌else◌, List, [], ◌∷◌, ◌++◌, Contains, refl, sym, ◌∙◌, arith, eq-eqb}
use Rattle.std.specs.List.{AllByRecursion}
use Rattle.std.proofs.lemmas.Bool.{ne_eqb, cases_lt, cases_eq}
use Rattle.std.proofs.lemmas.List.Elements.{All-from_recursion, All-contains, Contains-append_left, Contains-append_right}
use Rattle.std.proofs.lemmas.List.FromFn.{get_or-map-range_with_len}
use Rattle.star_normal.specs.declared.node.NodeKind.{NodeKind}
use Rattle.star_normal.specs.declared.node.NodeKind.TheVariants.{Leaf, Seq, Alt}
use Rattle.nor_net.specs.declared.part.PartPort.{PartPort}
use Rattle.cell_network.specs.declared.numbering.Counts.{Counts}
use Rattle.cell_network.specs.Parts.{inn_wire, bundle, pair_numbers, frame_numbers, ports_from, child_ports, pair_ports, kind_ports, frame_ports}
use Rattle.cell_network.proofs.Ranges.{each_append, each_range, each_weaker}
use Rattle.cell_network.proofs.NodeParts.{ports_counted}

abbrev port : ℕ → ℕ → PartPort
port name net = record { name = name; net = net }

moved : (xs : List PartPort) (name name' net net' : ℕ) → name ≡ name' → net ≡ net' → Contains xs (port name net) → Contains xs (port name' net')
moved xs name name' net net' e f h = rw (← e, ← f) h

module _ (c : Counts) where
  -- ---- ports that there are

  has_range : (name net count i : ℕ) → i < count → Contains (ports_from name net count) (port (name + i) (net + i))
  has_range name net count i lt = (
    i,
    rw (ports_counted name net count) lt,
    get_or-map-range_with_len (λ k. port (name + k) (net + k)) 0 count i i (port (name + i) (net + i)) lt (omega arith),
  )

  pub has_wire : (i : ℕ) → i < bundle c → Contains (ports_from 0 0 (bundle c)) (port i i)
  has_wire i lt = let e : 0 + i ≡ i = omega arith in moved _ (0 + i) i (0 + i) i e e (has_range 0 0 (bundle c) i lt)

  -- the net of wire i of a part below, whose IN and OUT are these
  abbrev pub child_net : ℕ → ℕ → ℕ → ℕ
  child_net inn out i = if i == inn_wire c then inn else if i == inn_wire c + 1 then out else i

  pub child_other : (inn out i : ℕ) → (i ≡ inn_wire c → ⊥) → (i ≡ inn_wire c + 1 → ⊥) → child_net inn out i ≡ i
  child_other inn out i ne nf = rw (ne_eqb i (inn_wire c) ne, ne_eqb i (inn_wire c + 1) nf) refl

  pub child_inn : (inn out i : ℕ) → i ≡ inn_wire c → child_net inn out i ≡ inn
  child_inn inn out i e = rw (eq-eqb i (inn_wire c) e) refl

  pub child_out : (inn out i : ℕ) → i ≡ inn_wire c + 1 → child_net inn out i ≡ out
  child_out inn out i e = rw (ne_eqb i (inn_wire c) (λ f. omega (arith, e, f)), eq-eqb i (inn_wire c + 1) e) refl

  -- the ports towards a part below: before its IN, its IN and OUT, behind its OUT
  abbrev first : ℕ → List PartPort
  first name = ports_from name 0 (inn_wire c)

  abbrev middle : ℕ → ℕ → ℕ → List PartPort
  middle name inn out = port (name + inn_wire c) inn ∷ port (name + inn_wire c + 1) out ∷ []

  abbrev last : ℕ → List PartPort
  last name = ports_from (name + inn_wire c + 2) (inn_wire c + 2) 5

  pub child_has : (name inn out i : ℕ) → i < bundle c → Contains (child_ports c name inn out) (port (name + i) (child_net inn out i))
  child_has name inn out i lt = elim (cases_lt i (inn_wire c)) [
    | inl l ↦
        let e : 0 + i ≡ i = omega arith in
        Contains-append_left _ (last name) _
        (Contains-append_left (first name) (middle name inn out) _
        (moved _ (name + i) (name + i) (0 + i) _ refl (e ∙ sym (child_other inn out i (λ f. omega (arith, f, l)) (λ f. omega (arith, f, l)))) (has_range name 0 (inn_wire c) i l)))
    | inr m ↦
        elim (cases_eq i (inn_wire c)) [
          | inl e ↦
              let f : name + inn_wire c ≡ name + i = omega (arith, e) in
              Contains-append_left _ (last name) _
              (Contains-append_right (first name) (middle name inn out) _ (moved (middle name inn out) _ _ _ _ f (sym (child_inn inn out i e)) (0, omega arith, refl)))
          | inr ne ↦
              elim (cases_eq i (inn_wire c + 1)) [
                | inl e ↦
                    let f : name + inn_wire c + 1 ≡ name + i = omega (arith, e) in
                    Contains-append_left _ (last name) _
                    (Contains-append_right (first name) (middle name inn out) _ (moved (middle name inn out) _ _ _ _ f (sym (child_out inn out i e)) (1, omega arith, refl)))
                | inr nf ↦
                    let j : ℕ = i - (inn_wire c + 2) in
                    let low : inn_wire c + 2 ≤ i = omega (arith, m, ne, nf) in
                    let e : name + inn_wire c + 2 + (i - (inn_wire c + 2)) ≡ name + i = omega (arith, low) in
                    let f : inn_wire c + 2 + (i - (inn_wire c + 2)) ≡ i = omega (arith, low) in
                    Contains-append_right (first name ++ middle name inn out) (last name) _
                    (moved (last name) _ _ _ _ e (f ∙ sym (child_other inn out i ne nf))
                    (has_range (name + inn_wire c + 2) (inn_wire c + 2) 5 (i - (inn_wire c + 2)) (omega (arith, low, lt))))
              ]
        ]
  ]

  abbrev pub left_net : ℕ → ℕ
  left_net i = child_net (pair_numbers c).begins (pair_numbers c).left_out i

  abbrev pub right_net : ℕ → ℕ
  right_net i = child_net (pair_numbers c).right_in (pair_numbers c).right_out i

  pub pair_has_left : (i : ℕ) → i < bundle c → Contains (pair_ports c) (port (bundle c + i) (left_net i))
  pair_has_left i lt =
      Contains-append_left _ _ _
      (Contains-append_right (ports_from 0 0 (bundle c)) _ _ (child_has (bundle c) (pair_numbers c).begins (pair_numbers c).left_out i lt))

  pub pair_has_right : (i : ℕ) → i < bundle c → Contains (pair_ports c) (port (2 * bundle c + i) (right_net i))
  pair_has_right i lt =
      Contains-append_right (ports_from 0 0 (bundle c) ++ child_ports c (bundle c) (pair_numbers c).begins (pair_numbers c).left_out) _ _
      (child_has (2 * bundle c) (pair_numbers c).right_in (pair_numbers c).right_out i lt)

  pub kind_has : (kind : NodeKind) (i : ℕ) → i < bundle c → Contains (kind_ports c kind) (port i i)
  kind_has (Leaf s) i lt = has_wire i lt
  kind_has (Seq l r) i lt = Contains-append_left _ _ _ (Contains-append_left (ports_from 0 0 (bundle c)) _ _ (has_wire i lt))
  kind_has (Alt l r) i lt = Contains-append_left _ _ _ (Contains-append_left (ports_from 0 0 (bundle c)) _ _ (has_wire i lt))

  pub frame_has : (i : ℕ) → i < bundle c → Contains (frame_ports c) (port (bundle c + i) i)
  frame_has i lt =
      let e : 0 + i ≡ i = omega arith in
      Contains-append_left _ _ _
      (Contains-append_left (ports_from (bundle c) 0 (bundle c)) _ _ (moved _ _ _ (0 + i) i refl e (has_range (bundle c) 0 (bundle c) i lt)))

  -- ---- no others

  -- what the names of a port of a node say
  pub record ByName (p : PartPort) : Type 0 where
    pub up : (i : ℕ) → i < bundle c → p.name ≡ i → p.net ≡ i
    pub left : (i : ℕ) → i < bundle c → p.name ≡ bundle c + i → p.net ≡ left_net i
    pub right : (i : ℕ) → i < bundle c → p.name ≡ 2 * bundle c + i → p.net ≡ right_net i

  wires_by_name : AllByRecursion ByName (ports_from 0 0 (bundle c))
  wires_by_name =
      each_range ByName (λ i. port (0 + i) (0 + i)) 0 (bundle c)
      (λ k l kl.
      record {
        up = λ i lt e. e;
        left = λ i lt e. absurd (omega (arith, e, kl, lt));
        right = λ i lt e. absurd (omega (arith, e, kl, lt));
      })

  -- the ports towards a part below
  record ByChild (name inn out : ℕ) (p : PartPort) : Type 0 where
    low : name ≤ p.name
    high : p.name < name + bundle c
    is : (i : ℕ) → i < bundle c → p.name ≡ name + i → p.net ≡ child_net inn out i

  child_by_name : (name inn out : ℕ) → AllByRecursion (ByChild name inn out) (child_ports c name inn out)
  child_by_name name inn out =
      each_append (ByChild name inn out) _ (ports_from (name + inn_wire c + 2) (inn_wire c + 2) 5)
      (each_append (ByChild name inn out) (ports_from name 0 (inn_wire c)) _
      (each_range (ByChild name inn out) (λ i. port (name + i) (0 + i)) 0 (inn_wire c)
      (λ k l kl.
      record {
        low = omega arith;
        high = omega (arith, kl);
        is = λ i lt e.
            let same : 0 + k ≡ i = omega (arith, e) in
            same ∙ sym (child_other inn out i (λ f. omega (arith, f, kl, same)) (λ f. omega (arith, f, kl, same)));
      })) (
        record { low = omega arith; high = omega arith; is = λ i lt e. sym (child_inn inn out i (omega (arith, e))) },
        (record { low = omega arith; high = omega arith; is = λ i lt e. sym (child_out inn out i (omega (arith, e))) }, tt),
      ))
      (each_range (ByChild name inn out) (λ i. port (name + inn_wire c + 2 + i) (inn_wire c + 2 + i)) 0 5
      (λ k l kl.
      record {
        low = omega arith;
        high = omega (arith, kl);
        is = λ i lt e.
            let same : inn_wire c + 2 + k ≡ i = omega (arith, e) in
            same ∙ sym (child_other inn out i (λ f. omega (arith, f, same)) (λ f. omega (arith, f, same)));
      }))

  as_left : (p : PartPort) → ByChild (bundle c) (pair_numbers c).begins (pair_numbers c).left_out p → ByName p
  as_left p h = record {
    up = λ i lt e. let low = h.low in absurd (omega (arith, low, e, lt));
    left = h.is;
    right = λ i lt e. let high = h.high in absurd (omega (arith, high, e));
  }

  as_right : (p : PartPort) → ByChild (2 * bundle c) (pair_numbers c).right_in (pair_numbers c).right_out p → ByName p
  as_right p h = record {
    up = λ i lt e. let low = h.low in absurd (omega (arith, low, e, lt));
    left = λ i lt e. let low = h.low in absurd (omega (arith, low, e, lt));
    right = h.is;
  }

  pair_by_name : AllByRecursion ByName (pair_ports c)
  pair_by_name =
      each_append ByName _ (child_ports c (2 * bundle c) (pair_numbers c).right_in (pair_numbers c).right_out)
      (each_append ByName (ports_from 0 0 (bundle c)) (child_ports c (bundle c) (pair_numbers c).begins (pair_numbers c).left_out) wires_by_name
      (each_weaker (ByChild (bundle c) (pair_numbers c).begins (pair_numbers c).left_out) ByName as_left _
      (child_by_name (bundle c) (pair_numbers c).begins (pair_numbers c).left_out)))
      (each_weaker (ByChild (2 * bundle c) (pair_numbers c).right_in (pair_numbers c).right_out) ByName as_right _
      (child_by_name (2 * bundle c) (pair_numbers c).right_in (pair_numbers c).right_out))

  kind_by_name : (kind : NodeKind) → AllByRecursion ByName (kind_ports c kind)
  kind_by_name (Leaf s) = wires_by_name
  kind_by_name (Seq l r) = pair_by_name
  kind_by_name (Alt l r) = pair_by_name

  pub kind_port : (kind : NodeKind) (name net : ℕ) → Contains (kind_ports c kind) (port name net) → ByName (port name net)
  kind_port kind name net h = All-contains ByName (kind_ports c kind) (port name net) (All-from_recursion ByName (kind_ports c kind) (kind_by_name kind)) h

  abbrev ByFrame : PartPort → Type 0
  ByFrame p = (i : ℕ) → i < bundle c → p.name ≡ bundle c + i → p.net ≡ i

  frame_by_name : AllByRecursion ByFrame (frame_ports c)
  frame_by_name =
      each_append ByFrame _ (ports_from (3 * bundle c + 16) (frame_numbers c).outputs c.outputs)
      (each_append ByFrame (ports_from (bundle c) 0 (bundle c)) (ports_from (3 * bundle c) (frame_numbers c).lines c.lines)
      (each_range ByFrame (λ i. port (bundle c + i) (0 + i)) 0 (bundle c) (λ k l kl i lt e. omega (arith, e)))
      (each_range ByFrame (λ i. port (3 * bundle c + i) ((frame_numbers c).lines + i)) 0 c.lines (λ k l kl i lt e. absurd (omega (arith, e, lt)))))
      (each_range ByFrame (λ i. port (3 * bundle c + 16 + i) ((frame_numbers c).outputs + i)) 0 c.outputs (λ k l kl i lt e. absurd (omega (arith, e, lt))))

  pub frame_port : (name net : ℕ) → Contains (frame_ports c) (port name net) → (i : ℕ) → i < bundle c → name ≡ bundle c + i → net ≡ i
  frame_port name net h = All-contains ByFrame (frame_ports c) (port name net) (All-from_recursion ByFrame (frame_ports c) frame_by_name) h
