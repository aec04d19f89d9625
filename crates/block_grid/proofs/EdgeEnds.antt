-- An edge crosses the borders at its ends.
use Rattle.std.proofs.Common.{◌≡◌, ℕ, ◌+◌, ◌<◌, Bool, true, false, not, ◌&&◌, nat_eq, ◌==◌, cond, Some, None, length, get_or, Contains, refl, sym, ap, subst, ◌∙◌, arith}
use Rattle.std.proofs.lemmas.Bool.{eq-eqb}
use Rattle.std.proofs.lemmas.List.{get_or_default}
use Rattle.block_grid.specs.declared.standing.Standing.{Standing}
use Rattle.block_grid.specs.Lines.{BlockPlace, row_of, col_of}
use Rattle.block_grid.specs.Sheets.{DrawnEdge, Sheet, stands_at, EndsOn, IsDrawn, IsSheet}
use Rattle.block_grid.specs.Bundles.{HasEnds, EdgesHaveEnds}
use Rattle.block_grid.proofs.BundleEdges.{IsOne, found_north, found_west}
use Rattle.block_grid.proofs.PortEdges.{standing_nodes_are_found}

module _ (s : Sheet) (sheet : IsSheet s) (e : DrawnEdge) (one : IsOne s e) where
  drawn : IsDrawn s e
  drawn = subst (IsDrawn s) (one.at e) (sheet.drawn one.k e one.lt)

  -- the edge at the place of a node
  ends_at : (v : ℕ) (p : BlockPlace) → stands_at s.nodes v ≡ Some p → EndsOn v e (row_of p) (col_of p)
  ends_at v p stands =
      let node = standing_nodes_are_found s v p sheet stands in
      subst (λ x. EndsOn x e (row_of p) (col_of p)) node.2 (drawn.ends (row_of p) (col_of p) node.0 node.1)

  one_when : (b : Bool) (n : ℕ) → n ≡ cond b 1 0 → b ≡ true → 0 < n
  one_when b n e on = let k : n ≡ 1 = e ∙ ap (λ (x : Bool). cond x 1 0) on in omega arith

  pub has_ends : HasEnds s e
  has_ends =
      let finish = ends_at e.child e.finish drawn.finishes in
      let start = ends_at e.parent e.start drawn.starts in
      record {
        enters = found_north s sheet e one (row_of e.finish) (col_of e.finish) (one_when _ _ finish.north (eq-eqb e.child e.child refl));
        leaves_light = λ light. found_north s sheet e one (row_of e.start + 1) (col_of e.start)
            (one_when _ _ start.south (rw (eq-eqb e.parent e.parent refl, light) refl));
        leaves_heavy = λ heavy. found_west s sheet e one (row_of e.start) (col_of e.start + 1)
            (one_when _ _ start.east (rw (eq-eqb e.parent e.parent refl, heavy) refl));
      }

pub edges_have_ends : EdgesHaveEnds
edges_have_ends s e sheet m = has_ends s sheet e (record { k = m.0; lt = m.1; at = λ d. get_or_default s.edges m.0 d e m.1 ∙ m.2 })
