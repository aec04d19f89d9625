-- A sheet with one more edge, drawn along a free line, is a sheet.
use Rattle.std.proofs.Common.{◌≡◌, ◌≢◌, ℕ, ◌+◌, ◌<◌, ◌≤◌, inl, inr, Bool, true, false, not, nat_eq, cond, ◌&&◌, Some, None, List, [], ◌∷◌, ◌++◌, length, get_or, refl, sym, ◌∙◌, subst, arith}
use Rattle.std.proofs.lemmas.Bool.{eq-eqb}
use Rattle.std.proofs.lemmas.Bool.Decides.{nat_tests}
use Rattle.std.proofs.lemmas.List.Elements.{All-push}
use Rattle.std.proofs.lemmas.List.Quantifiers.{all_pairs_push}
use Rattle.block_grid.specs.declared.standing.Standing.{Standing}
use Rattle.block_grid.specs.Lines.{BlockPlace, row_of, col_of, norths, wests}
use Rattle.block_grid.specs.Sheets.{DrawnEdge, line_of, north_of, south_of, west_of, east_of, sides_of, Sheet, node_on, GoesThrough, EndsOn, AreClear, IsDrawn, IsSheet}
use Rattle.block_grid.specs.Laying.{IsOnLine, NeverReturns, LeavesBy, EntersFromNorth, MayDraw, with_edge}
use Rattle.block_grid.proofs.Bits.{bit, BitFacts, bit_facts, along_on}
use Rattle.block_grid.proofs.Stretches.{north_by, west_by, IsAt}
use Rattle.block_grid.proofs.LinePaths.{sides_along, last_of, last_on, GoesOver, LineFacts, line_facts, none_at, at_or_not, is_on_stretch_start}
use Rattle.block_grid.proofs.Nodes.{on_own_place, at_own_place, on_place, empty_block, horizontal_block, vertical_block, no_north, no_west}

last_pushed : (p q : BlockPlace) (turns : List BlockPlace) → last_of p (turns ++ q ∷ []) ≡ q
last_pushed p q [] = refl
last_pushed p q (t ∷ turns) = last_pushed t q turns

first_pushed : (p q : BlockPlace) (turns : List BlockPlace) (r c : ℕ) → LineFacts p (turns ++ q ∷ []) r c → IsAt p r c →
    sides_along p (turns ++ q ∷ []) r c ≡ 1
first_pushed p q [] r c k at = k.first at
first_pushed p q (t ∷ turns) r c k at = k.first at

never_closes : (p q : BlockPlace) (rest : List BlockPlace) → NeverReturns p (q ∷ rest) → IsAt (last_of q rest) (row_of p) (col_of p) → ⊥
never_closes p q rest alone at =
    let on : IsOnLine q rest (row_of p) (col_of p) = rw (at.0, at.1) (last_on q rest) in
    let same : IsAt q (row_of p) (col_of p) = alone.1 (row_of p) (col_of p) (is_on_stretch_start p q) on in
    alone.0 same.0 same.1

ends_apart : (p q : BlockPlace) (turns : List BlockPlace) → NeverReturns p (turns ++ q ∷ []) → IsAt q (row_of p) (col_of p) → ⊥
ends_apart p q [] alone at = alone.0 at.0 at.1
ends_apart p q (t ∷ turns) alone at = never_closes p t (turns ++ q ∷ []) alone (rw (last_pushed t q turns) at)

-- the ports by which a line leaves and enters
leaves_east : (p : BlockPlace) (rest : List BlockPlace) → LeavesBy true p rest → 1 ≤ wests p rest (row_of p) (col_of p + 1)
leaves_east p [] h = absurd h
leaves_east p (q ∷ rest) h =
    let bits : BitFacts (col_of p) (col_of q) (col_of p) = bit_facts (col_of p) (col_of q) (col_of p) (let lt : col_of p < col_of q = h.1 in
    omega arith) in
    let one : bit (col_of p) (col_of q) (col_of p) + bit (col_of p) (col_of q) (col_of p + 1) ≡ 1 = bits.at_first refl in
    let not_west : bit (col_of p) (col_of q) (col_of p) ≡ 0 = none_at _ (λ some. let k = bits.before some in omega arith) in
    let is : west_by p q (row_of p) (col_of p + 1) ≡ bit (col_of p) (col_of q) (col_of p + 1) = along_on col_of row_of p q (col_of p + 1)
    (row_of p) refl (sym h.0) in
    omega arith

leaves_south : (p : BlockPlace) (rest : List BlockPlace) → LeavesBy false p rest → 1 ≤ norths p rest (row_of p + 1) (col_of p)
leaves_south p [] h = absurd h
leaves_south p (q ∷ rest) h =
    let bits : BitFacts (row_of p) (row_of q) (row_of p) = bit_facts (row_of p) (row_of q) (row_of p) (let lt : row_of p < row_of q = h.1 in
    omega arith) in
    let one : bit (row_of p) (row_of q) (row_of p) + bit (row_of p) (row_of q) (row_of p + 1) ≡ 1 = bits.at_first refl in
    let not_north : bit (row_of p) (row_of q) (row_of p) ≡ 0 = none_at _ (λ some. let k = bits.before some in omega arith) in
    let is : north_by p q (row_of p + 1) (col_of p) ≡ bit (row_of p) (row_of q) (row_of p + 1) = along_on row_of col_of p q (row_of p + 1)
    (col_of p) refl (sym h.0) in
    omega arith

enters_north : (p : BlockPlace) (rest : List BlockPlace) → EntersFromNorth p rest →
    1 ≤ norths p rest (row_of (last_of p rest)) (col_of (last_of p rest))
enters_north p [] h = absurd h
enters_north p (q ∷ []) h =
    let bits : BitFacts (row_of p) (row_of q) (row_of q) = bit_facts (row_of p) (row_of q) (row_of q) (let lt : row_of p < row_of q = h.1 in
    omega arith) in
    let one : bit (row_of p) (row_of q) (row_of q) + bit (row_of p) (row_of q) (row_of q + 1) ≡ 1 = bits.at_last refl in
    let not_south : bit (row_of p) (row_of q) (row_of q + 1) ≡ 0 = none_at _ (λ some. let k = bits.behind some in
    let lt : row_of p < row_of q = h.1 in omega arith) in
    let is : north_by p q (row_of q) (col_of q) ≡ bit (row_of p) (row_of q) (row_of q) = along_on row_of col_of p q (row_of q) (col_of q) h.0 refl in
    omega arith
enters_north p (q ∷ (t ∷ rest)) h = let k : 1 ≤ norths q (t ∷ rest) (row_of (last_of t rest)) (col_of (last_of t rest)) = enters_north q
    (t ∷ rest) h in omega arith

port_of : (p : BlockPlace) (rest : List BlockPlace) (heavy : Bool) → LeavesBy heavy p rest → norths p rest (row_of p) (col_of p) ≤ 1 →
    sides_along p rest (row_of p) (col_of p) ≡ 1
    → (norths p rest (row_of p) (col_of p) ≡ 0) × (norths p rest (row_of p + 1) (col_of p) ≡ cond (not heavy) 1 0) × (wests p rest (row_of p)
    (col_of p) ≡ 0) × (wests p rest (row_of p) (col_of p + 1) ≡ cond heavy 1 0)
port_of p rest true h low one = let e : 1 ≤ wests p rest (row_of p) (col_of p + 1) = leaves_east p rest h in (
  omega arith,
  omega arith,
  omega arith,
  omega arith,
)
port_of p rest false h low one = let e : 1 ≤ norths p rest (row_of p + 1) (col_of p) = leaves_south p rest h in (
  omega arith,
  omega arith,
  omega arith,
  omega arith,
)

and_true : (b : Bool) → (true && b) ≡ b
and_true b = refl

module _ (s : Sheet) (e : DrawnEdge) (sheet : IsSheet s) (may : MayDraw s e) where
  facts : (r c : ℕ) → LineFacts e.start (line_of e) r c
  facts r c = line_facts e.start (line_of e) r c may.straight may.never_returns

  at_start : (r c : ℕ) → IsAt e.start r c →
      (north_of e r c ≡ 0) × (south_of e r c ≡ cond (not e.heavy) 1 0) × (west_of e r c ≡ 0) × (east_of e r c ≡ cond e.heavy 1 0)
  at_start r c at =
      let k : LineFacts e.start (line_of e) (row_of e.start) (col_of e.start) = facts (row_of e.start) (col_of e.start) in
      rw (at.0, at.1) (port_of e.start (line_of e) e.heavy may.leaves k.north (first_pushed e.start e.finish e.turns (row_of e.start)
      (col_of e.start) k (refl, refl)))

  finish_is_last : (r c : ℕ) → IsAt e.finish r c → IsAt (last_of e.start (line_of e)) r c
  finish_is_last r c at = rw (last_pushed e.start e.finish e.turns) at

  finish_is_other : (r c : ℕ) → IsAt e.finish r c → IsAt e.start r c → ⊥
  finish_is_other r c at other = ends_apart e.start e.finish e.turns may.never_returns (sym other.0 ∙ at.0, sym other.1 ∙ at.1)

  at_finish : (r c : ℕ) → IsAt e.finish r c → (north_of e r c ≡ 1) × (south_of e r c ≡ 0) × (west_of e r c ≡ 0) × (east_of e r c ≡ 0)
  at_finish r c at =
      let k : LineFacts e.start (line_of e) r c = facts r c in
      let one : sides_along e.start (line_of e) r c ≡ 1 = k.last (finish_is_other r c at) (finish_is_last r c at) in
      let north : 1 ≤ norths e.start (line_of e) (row_of e.finish) (col_of e.finish) = rw (last_pushed e.start e.finish e.turns) at
      (enters_north e.start (line_of e) may.enters) in
      let here : norths e.start (line_of e) r c ≡ norths e.start (line_of e) (row_of e.finish) (col_of e.finish) = rw (at.0, at.1) refl in
      (omega arith, omega arith, omega arith, omega arith)

  -- at any other place the line goes over what stands there, or does not come there
  over : (r c : ℕ) → (IsAt e.start r c → ⊥) → (IsAt e.finish r c → ⊥) → 0 < sides_of e r c → GoesOver s e.start (line_of e) r c
  over r c not_start not_finish some = (facts r c).over s may.free not_start (λ at. not_finish (rw
      (last_pushed e.start e.finish e.turns) at at)) some

  passes_new : (r c : ℕ) → node_on s.nodes r c ≡ None → GoesThrough e r c
  passes_new r c none =
      let k : LineFacts e.start (line_of e) r c = facts r c in
      record {
        north = k.north;
        south = k.south;
        west = k.west;
        east = k.east;
        leaves = λ some. k.inner (λ at. on_place s.nodes e.parent e.start may.starts (subst (λ y. node_on s.nodes
            (row_of e.start) y ≡ None) at.1 (subst (λ x. node_on s.nodes x c ≡ None) at.0 none)))
            (λ at. let end : IsAt e.finish r c = rw (last_pushed e.start e.finish e.turns) at at in
            on_place s.nodes e.child e.finish may.finishes (subst (λ y. node_on s.nodes (row_of e.finish) y ≡ None) end.1 (subst
            (λ x. node_on s.nodes x c ≡ None) end.0 none))) some;
      }

  differs : (v w : ℕ) → v ≢ w → nat_eq v w ≡ false
  differs v w ne = grind (arith, nat_tests)

  ends_new : (r c : ℕ) (n : Standing) → node_on s.nodes r c ≡ Some n → EndsOn n.node e r c
  ends_new r c n is =
      elim (at_or_not e.start r c) as (λ _. EndsOn n.node e r c) [
        | inl at ↦
            let node : n.node ≡ e.parent = on_own_place s sheet e.parent e.start n may.starts (subst (λ y. node_on s.nodes
            (row_of e.start) y ≡ Some n) at.1 (subst (λ x. node_on s.nodes x c ≡ Some n) at.0 is)) in
            let sides = at_start r c at in
            let own : nat_eq e.parent n.node ≡ true = eq-eqb e.parent n.node (sym node) in
            let other : nat_eq e.child n.node ≡ false = differs e.child n.node (λ same. may.ends_differ (sym node ∙ sym same)) in
            record { north = rw other sides.0; south = rw own sides.1; west = sides.2; east = rw own sides.3 }
        | inr not_start ↦ elim (at_or_not e.finish r c) as (λ _. EndsOn n.node e r c) [
          | inl at ↦
              let node : n.node ≡ e.child = on_own_place s sheet e.child e.finish n may.finishes (subst (λ y. node_on s.nodes
              (row_of e.finish) y ≡ Some n) at.1 (subst (λ x. node_on s.nodes x c ≡ Some n) at.0 is)) in
              let sides = at_finish r c at in
              let own : nat_eq e.child n.node ≡ true = eq-eqb e.child n.node (sym node) in
              let other : nat_eq e.parent n.node ≡ false = differs e.parent n.node (λ same. may.ends_differ (same ∙ node)) in
              record { north = rw own sides.0; south = rw other sides.1; west = sides.2; east = rw other sides.3 }
          | inr not_finish ↦
              let none : sides_of e r c ≡ 0 = none_at (sides_of e r c) (λ some. elim (over r c not_start not_finish some) as (λ _. ⊥) [
                | inl x ↦ let free : node_on s.nodes r c ≡ None = (empty_block s r c x).0 in cc
                | inr y ↦ elim y as (λ _. ⊥) [
                  | inl u ↦ let free : node_on s.nodes r c ≡ None = (horizontal_block s r c u.0).0 in cc
                  | inr v ↦ let free : node_on s.nodes r c ≡ None = (vertical_block s r c v.0).0 in cc
                ]
              ]) in
              let parent : nat_eq e.parent n.node ≡ false = differs e.parent n.node (λ same. not_start
              (at_own_place s sheet e.parent e.start r c n may.starts is (sym same))) in
              let child : nat_eq e.child n.node ≡ false = differs e.child n.node (λ same. not_finish
              (at_own_place s sheet e.child e.finish r c n may.finishes is (sym same))) in
              record { north = rw child (omega arith); south = rw parent (omega arith); west = omega arith; east = rw parent (omega arith) }
        ]
      ]

  drawn_new : IsDrawn (with_edge s e) e
  drawn_new = record {
    ends_differ = may.ends_differ;
    starts = may.starts;
    finishes = may.finishes;
    inside = may.inside;
    straight = may.straight;
    passes = passes_new;
    ends = ends_new;
  }

  drawn_old : (f : DrawnEdge) → IsDrawn s f → IsDrawn (with_edge s e) f
  drawn_old f d = record {
    ends_differ = d.ends_differ;
    starts = d.starts;
    finishes = d.finishes;
    inside = d.inside;
    straight = d.straight;
    passes = d.passes;
    ends = d.ends;
  }

  module _ (k : ℕ) (d : DrawnEdge) (lt : k < length s.edges) where
    abbrev old : DrawnEdge
    old = get_or s.edges k d

    drawn : IsDrawn s old
    drawn = sheet.drawn k d lt

    -- no other edge enters where the new one does
    old_north : (r c : ℕ) → IsAt e.finish r c → north_of old r c ≡ 0
    old_north r c at =
        elim (node_on s.nodes (row_of e.finish) (col_of e.finish)) as (λ o. node_on s.nodes (row_of e.finish) (col_of e.finish) ≡ o →
        north_of old r c ≡ 0) [
          | None ↦ λ none. absurd (on_place s.nodes e.child e.finish may.finishes none)
          | Some n ↦ λ is.
              let node : n.node ≡ e.child = on_own_place s sheet e.child e.finish n may.finishes is in
              let ends : EndsOn n.node old (row_of e.finish) (col_of e.finish) = drawn.ends (row_of e.finish) (col_of e.finish) n is in
              let other : nat_eq old.child n.node ≡ false = differs old.child n.node (λ same. may.in_open k d lt (same ∙ node)) in
              rw (at.0, at.1) (ends.north ∙ rw other refl)
        ] refl

    clear_north : (r c : ℕ) → 0 < north_of old r c → north_of e r c ≡ 0
    clear_north r c some =
        elim (at_or_not e.start r c) as (λ _. north_of e r c ≡ 0) [
          | inl at ↦ (at_start r c at).0
          | inr not_start ↦ elim (at_or_not e.finish r c) as (λ _. north_of e r c ≡ 0) [
            | inl at ↦ let zero_north : north_of old r c ≡ 0 = old_north r c at in absurd (omega arith)
            | inr not_finish ↦ none_at (north_of e r c) (λ more. elim (over r c not_start not_finish (omega arith)) as (λ _. ⊥) [
              | inl x ↦ let free : north_of old r c ≡ 0 = no_north s r c k d lt (empty_block s r c x).1.0 in omega arith
              | inr y ↦ elim y as (λ _. ⊥) [
                | inl u ↦ let free : north_of old r c ≡ 0 = no_north s r c k d lt (horizontal_block s r c u.0).1.0 in omega arith
                | inr v ↦ let z : norths e.start (line_of e) r c + norths e.start (line_of e) (r + 1) c ≡ 0 = v.1 in omega arith
              ]
            ])
          ]
        ]

    clear_west : (r c : ℕ) → 0 < west_of old r c → west_of e r c ≡ 0
    clear_west r c some =
        elim (at_or_not e.start r c) as (λ _. west_of e r c ≡ 0) [
          | inl at ↦ (at_start r c at).2
          | inr not_start ↦ elim (at_or_not e.finish r c) as (λ _. west_of e r c ≡ 0) [
            | inl at ↦ (at_finish r c at).2
            | inr not_finish ↦ none_at (west_of e r c) (λ more. elim (over r c not_start not_finish (omega arith)) as (λ _. ⊥) [
              | inl x ↦ let free : west_of old r c ≡ 0 = no_west s r c k d lt (empty_block s r c x).2.0 in omega arith
              | inr y ↦ elim y as (λ _. ⊥) [
                | inl u ↦ let z : wests e.start (line_of e) r c + wests e.start (line_of e) r (c + 1) ≡ 0 = u.1 in omega arith
                | inr v ↦ let free : west_of old r c ≡ 0 = no_west s r c k d lt (vertical_block s r c v.0).1.0 in omega arith
              ]
            ])
          ]
        ]

    clear_crossing : (r c : ℕ) → 2 ≤ sides_of old r c → 2 ≤ sides_of e r c → north_of old r c ≡ south_of old r c
    clear_crossing r c two more =
        elim (at_or_not e.start r c) as (λ _. north_of old r c ≡ south_of old r c) [
          | inl at ↦ let one : sides_along e.start (line_of e) r c ≡ 1 = first_pushed e.start e.finish e.turns r c (facts r c) at in
              absurd (omega arith)
          | inr not_start ↦ elim (at_or_not e.finish r c) as (λ _. north_of old r c ≡ south_of old r c) [
            | inl at ↦ let one = at_finish r c at in absurd (omega arith)
            | inr not_finish ↦ elim (over r c not_start not_finish (omega arith)) as (λ _. north_of old r c ≡ south_of old r c) [
              | inl x ↦
                  let n : north_of old r c ≡ 0 = no_north s r c k d lt (empty_block s r c x).1.0 in
                  let m : south_of old r c ≡ 0 = no_north s (r + 1) c k d lt (empty_block s r c x).1.1 in omega arith
              | inr y ↦ elim y as (λ _. north_of old r c ≡ south_of old r c) [
                | inl u ↦
                    let n : north_of old r c ≡ 0 = no_north s r c k d lt (horizontal_block s r c u.0).1.0 in
                    let m : south_of old r c ≡ 0 = no_north s (r + 1) c k d lt (horizontal_block s r c u.0).1.1 in omega arith
                | inr v ↦
                    let w : west_of old r c ≡ 0 = no_west s r c k d lt (vertical_block s r c v.0).1.0 in
                    let x : east_of old r c ≡ 0 = no_west s r (c + 1) k d lt (vertical_block s r c v.0).1.1 in
                    let pass : GoesThrough old r c = drawn.passes r c (vertical_block s r c v.0).0 in
                    let n : north_of old r c ≤ 1 = pass.north in
                    let m : south_of old r c ≤ 1 = pass.south in omega arith
              ]
            ]
          ]
        ]

    clear_new : AreClear old e
    clear_new = record { north = clear_north; west = clear_west; crossing = clear_crossing }

  pub with_edge_sheet : IsSheet (with_edge s e)
  with_edge_sheet = record {
    some_rows = sheet.some_rows;
    some_cols = sheet.some_cols;
    few_rows = sheet.few_rows;
    few_cols = sheet.few_cols;
    nodes_inside = sheet.nodes_inside;
    nodes_once = sheet.nodes_once;
    places_once = sheet.places_once;
    drawn = All-push (IsDrawn (with_edge s e)) s.edges e (λ k d lt. drawn_old _ (sheet.drawn k d lt)) drawn_new;
    clear = all_pairs_push AreClear s.edges e sheet.clear (λ k d lt. clear_new k d lt);
  }
