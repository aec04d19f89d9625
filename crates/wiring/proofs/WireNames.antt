-- The names of the nets of a plan of wires.
use Rattle.std.specs.Prelude.{⊤}
use Rattle.std.proofs.Common.{◌≡◌, ℕ, ◌+◌, ◌<◌, ◌≤◌, inl, inr, true, Option, Some, None, IsSomeAnd, List, [], ◌∷◌, refl, sym, ap, ◌∙◌, subst, arith}
use Rattle.std.specs.List.{AllByRecursion}
use Rattle.std.proofs.lemmas.Bool.{or_cases}
use Rattle.std.proofs.lemmas.Option.{MatchOption-at_some}
use Rattle.geom.specs.declared.layer.Layer.{Layer}
use Rattle.geom.specs.declared.layer.Layer.TheVariants.{Poly, Metal}
use Rattle.micro_tiles.specs.declared.side.Port.{Port}
use Rattle.micro_tiles.specs.declared.side.Side.{Side}
use Rattle.micro_tiles.specs.declared.side.Side.TheVariants.{North, East, South, West}
use Rattle.micro_tiles.specs.Sides.{Carries}
use Rattle.micro_tiles.specs.Designs.{side_net}
use Rattle.micro_tiles.specs.Table.{design_of, port_at}
use Rattle.stick_grid.specs.Pieces.{Piece, MeetsAtEast, MeetsAtSouth, Connected}
use Rattle.stick_grid.specs.Transistors.{piece}
use Rattle.stick_grid.specs.Names.{IsPiece, AreNames, PathsJoin}
use Rattle.wiring.specs.Wirings.{Span, Run, Wiring, has_poly, has_metal, wiring_plan, wiring_tile}
use Rattle.wiring.specs.WiringNets.{IsOneOf, Wire, HasWire, Leads, IsWiring, run_net, wire_name}
use Rattle.wiring.specs.WiringNets.Wire.{poly, metal}
use Rattle.wiring.proofs.Spans.{Touches, span_of, found}
use Rattle.wiring.proofs.Ends.{OnRun, from_west, from_east, start_of, starts}
use Rattle.wiring.proofs.Tiles.{poly_port, metal_port, only_poly, only_metal}
use Rattle.wiring.proofs.WireTiles.{crossed_by, run_is, crossing_span, touched, metal_at, has, poly_number, metal_named, run_named, poly_named}
use Rattle.wiring.proofs.WirePaths.{poly_piece, span_row, piece_of, first_column, at_home, span_joined, run_joined, chain}

-- a span of those, of which a property of all holds
each_of : (P : Span → Type 0) (spans : List Span) (s : Span) → AllByRecursion P spans → IsOneOf spans s → P s
each_of P [] s h o = absurd o
each_of P (t ∷ spans) s h (inl e) = subst P e h.0
each_of P (t ∷ spans) s h (inr o) = each_of P spans s h.1 o

same_piece : (p : Piece) (n : ℕ) → p.net ≡ n → piece p.row p.col n ≡ p
same_piece p n e = λ i. record { row = p.row; col = p.col; net = sym e i }

module _ (w : Wiring) (count : ℕ) (is : IsWiring w count) where
  -- A net of a tile is of a run, or of a span.
  data Kind (p : Piece) : Type 0 where
    of_run : (run : Run) → w.run p.row ≡ Some run → OnRun run.from run.to p.col → p.net ≡ 0 → Kind p
    of_span : (s : Span) → IsOneOf (w.spans p.col) s → Touches p.row s → p.net ≡ poly_number w count is p.row p.col → Kind p

  -- the run that crosses a border
  pub record RunAt (row border : ℕ) : Type 0 where
    pub run : Run
    pub here : w.run row ≡ Some run

  pub run_at : (row border : ℕ) → has_metal w row border ≡ true → RunAt row border
  run_at row border h = by_run (w.run row) refl
    where
      by_run : (o : Option Run) → w.run row ≡ o → RunAt row border
      by_run None e = let no_metal = ap (crossed_by border) e in absurd (cc)
      by_run (Some run) e = record { run = run; here = e }

  span_at : (row col border : ℕ) (p : Piece) → p.row ≡ row → p.col ≡ col → has_poly w border col ≡ true → border ≤ row + 1 → row ≤ border
      → p.net ≡ poly_number w count is row col → Kind p
  span_at row col border p is_row is_col h l u e =
      let f = crossing_span w count is border col h in
      let c = found border (w.spans col) f.0 f.1 in
      let a = c.begun in
      let b = c.not_over in
      of_span f.0 (subst (λ (k : ℕ). IsOneOf (w.spans k) f.0) (sym is_col) c.among)
      (subst (λ (r : ℕ). Touches r f.0) (sym is_row) (record { to_row = omega arith; from_row = omega arith }))
      (e ∙ ap (λ (r : ℕ). poly_number w count is r col) (sym is_row) ∙ ap (λ (k : ℕ). poly_number w count is p.row k) (sym is_col))

  kind_at : (p : Piece) → p.row < w.rows → p.col < w.cols → (side : Side) (layer : Layer) → Carries (port_at (wiring_tile w p.row p.col) side) layer
      → p.net ≡ side_net (design_of (wiring_tile w p.row p.col)) side layer → Kind p
  kind_at p is_row is_col North layer c e =
      let t = has w count is p.row p.col is_row is_col in
      let o = only_poly (has_poly w p.row p.col) (port_at (wiring_tile w p.row p.col) North) layer t.north c in
      span_at p.row p.col p.row p refl refl o.leads (omega arith) (omega arith)
      (e ∙ ap (λ (l : Layer). side_net (design_of (wiring_tile w p.row p.col)) North l) o.is ∙ t.of_poly North)
  kind_at p is_row is_col South layer c e =
      let t = has w count is p.row p.col is_row is_col in
      let o = only_poly (has_poly w (p.row + 1) p.col) (port_at (wiring_tile w p.row p.col) South) layer t.south c in
      span_at p.row p.col (p.row + 1) p refl refl o.leads (omega arith) (omega arith)
      (e ∙ ap (λ (l : Layer). side_net (design_of (wiring_tile w p.row p.col)) South l) o.is ∙ t.of_poly South)
  kind_at p is_row is_col West layer c e =
      let t = has w count is p.row p.col is_row is_col in
      let o = only_metal (has_metal w p.row p.col) (port_at (wiring_tile w p.row p.col) West) layer t.west c in
      let r = run_at p.row p.col o.leads in
      of_run r.run r.here (from_west r.run.from r.run.to p.col (sym (metal_at w count is p.row p.col r.run r.here) ∙ o.leads))
      (e ∙ ap (λ (l : Layer). side_net (design_of (wiring_tile w p.row p.col)) West l) o.is ∙ t.of_metal West)
  kind_at p is_row is_col East layer c e =
      let t = has w count is p.row p.col is_row is_col in
      let o = only_metal (has_metal w p.row (p.col + 1)) (port_at (wiring_tile w p.row p.col) East) layer t.east c in
      let r = run_at p.row (p.col + 1) o.leads in
      of_run r.run r.here (from_east r.run.from r.run.to p.col (sym (metal_at w count is p.row (p.col + 1) r.run r.here) ∙ o.leads))
      (e ∙ ap (λ (l : Layer). side_net (design_of (wiring_tile w p.row p.col)) East l) o.is ∙ t.of_metal East)

  -- ---- where tiles meet

  east_names : (a b : Piece) → MeetsAtEast (wiring_plan w) a b → wire_name w a ≡ wire_name w b
  east_names a b h =
      let col = h.col in
      let row = h.row in
      let b_col = h.is_col in
      let a_row = h.is_row in
      let one = has w count is a.row a.col h.is_row (omega arith) in
      let other = has w count is b.row b.col (omega arith) h.is_col in
      let o = only_metal (has_metal w a.row (a.col + 1)) (port_at (wiring_tile w a.row a.col) East) h.layer one.east h.carried in
      let first : a.net ≡ 0 =
      h.first ∙ ap (λ (l : Layer). side_net (design_of (wiring_tile w a.row a.col)) East l) o.is ∙ one.of_metal East in
      let second : b.net ≡ 0 =
      h.second ∙ ap (λ (l : Layer). side_net (design_of (wiring_tile w b.row b.col)) West l) o.is ∙ other.of_metal West in
      metal_named w count is a first ∙ ap (run_net w) (sym h.row) ∙ sym (metal_named w count is b second)

  south_names : (a b : Piece) → MeetsAtSouth (wiring_plan w) a b → wire_name w a ≡ wire_name w b
  south_names a b h =
      let col = h.col in
      let row = h.row in
      let b_row = h.is_row in
      let a_col = h.is_col in
      let a_row : a.row < w.rows = omega arith in
      let b_col : b.col < w.cols = omega arith in
      let upper = has w count is a.row a.col a_row h.is_col in
      let lower = has w count is b.row b.col h.is_row b_col in
      let o = only_poly (has_poly w (a.row + 1) a.col) (port_at (wiring_tile w a.row a.col) South) h.layer upper.south h.carried in
      let first : a.net ≡ poly_number w count is a.row a.col =
      h.first ∙ ap (λ (l : Layer). side_net (design_of (wiring_tile w a.row a.col)) South l) o.is ∙ upper.of_poly South in
      let second : b.net ≡ poly_number w count is b.row b.col =
      h.second ∙ ap (λ (l : Layer). side_net (design_of (wiring_tile w b.row b.col)) North l) o.is ∙ lower.of_poly North in
      let f = crossing_span w count is (a.row + 1) a.col o.leads in
      let c = found (a.row + 1) (w.spans a.col) f.0 f.1 in
      let l = c.begun in
      let u = c.not_over in
      poly_named w count is a f.0 a_row h.is_col c.among (record { to_row = omega arith; from_row = omega arith }) first
      ∙ sym (poly_named w count is b f.0 h.is_row b_col (subst (λ (k : ℕ). IsOneOf (w.spans k) f.0) (sym h.col) c.among)
      (record { to_row = omega arith; from_row = omega arith }) second)

  -- ---- homes

  module _ (paths : PathsJoin (wiring_plan w)) where
    abbrev seen : Wire → Piece
    seen = piece_of w count is paths

    -- The net of a tile is of this number, and leads to its home.
    record Named (p : Piece) : Type 0 where
      number : ℕ
      name : wire_name w p ≡ number
      below : number < count
      leads : Connected (wiring_plan w) p (seen (is.home number))

    named : (p : Piece) → p.row < w.rows → p.col < w.cols → Kind p → Named p
    named p is_row is_col (of_run run e on z) = record {
      number = run.net;
      name = metal_named w count is p z ∙ run_named w count is p.row run e;
      below = (run_is w count is p.row run is_row e).net;
      leads =
          let along = run_joined w count is paths p.row p.col run is_row is_col e on in
          paths.on p (seen (metal p.row)) (seen (is.home run.net))
          (subst (λ (q : Piece). Connected (wiring_plan w) q (seen (metal p.row))) (same_piece p 0 z) along)
          (chain w count is paths (metal p.row) (is.home run.net)
          (MatchOption-at_some ⊤ (λ (r : Run). Leads w (metal p.row) (is.home r.net)) run e (is.runs_lead p.row is_row)));
    }
    named p is_row is_col (of_span s o t z) = record {
      number = s.net;
      name = poly_named w count is p s is_row is_col o t z;
      below = (span_of w.rows count 0 (w.spans p.col) s (is.spans p.col is_col) o).is_span.net;
      leads =
          let along = span_joined w count is paths p.row p.col s is_row is_col o t in
          paths.on p (seen (poly p.col s)) (seen (is.home s.net))
          (subst (λ (q : Piece). Connected (wiring_plan w) q (seen (poly p.col s))) (same_piece p (poly_number w count is p.row p.col) z) along)
          (chain w count is paths (poly p.col s) (is.home s.net)
          (each_of (λ (x : Span). Leads w (poly p.col x) (is.home x.net)) (w.spans p.col) s (is.spans_lead p.col is_col) o));
    }

    named_piece : (p : Piece) → IsPiece (wiring_plan w) p → Named p
    named_piece p h = named p h.is_row h.is_col (kind_at p h.is_row h.is_col h.side h.layer h.carried h.number)

    -- The wire is seen in a net of a tile, which has its name.
    record Seen (net : ℕ) (p : Piece) : Type 0 where
      exists : IsPiece (wiring_plan w) p
      bears : wire_name w p ≡ net

    at_north : (row col : ℕ) → row < w.rows → col < w.cols → has_poly w row col ≡ true → IsPiece (wiring_plan w) (poly_piece w count is paths row col)
    at_north row col is_row is_col h =
        let t = has w count is row col is_row is_col in
        record {
          is_row = is_row;
          is_col = is_col;
          side = North;
          layer = Poly;
          carried = ap (λ (q : Port). q.other) (t.north ∙ ap poly_port h);
          number = sym (t.of_poly North);
        }

    at_south : (row col : ℕ) → row < w.rows → col < w.cols → has_poly w (row + 1) col ≡ true
        → IsPiece (wiring_plan w) (poly_piece w count is paths row col)
    at_south row col is_row is_col h =
        let t = has w count is row col is_row is_col in
        record {
          is_row = is_row;
          is_col = is_col;
          side = South;
          layer = Poly;
          carried = ap (λ (q : Port). q.other) (t.south ∙ ap poly_port h);
          number = sym (t.of_poly South);
        }

    at_west : (row col : ℕ) → row < w.rows → col < w.cols → has_metal w row col ≡ true → IsPiece (wiring_plan w) (piece row col 0)
    at_west row col is_row is_col h =
        let t = has w count is row col is_row is_col in
        record {
          is_row = is_row;
          is_col = is_col;
          side = West;
          layer = Metal;
          carried = ap (λ (q : Port). q.metal) (t.west ∙ ap metal_port h);
          number = sym (t.of_metal West);
        }

    at_east : (row col : ℕ) → row < w.rows → col < w.cols → has_metal w row (col + 1) ≡ true → IsPiece (wiring_plan w) (piece row col 0)
    at_east row col is_row is_col h =
        let t = has w count is row col is_row is_col in
        record {
          is_row = is_row;
          is_col = is_col;
          side = East;
          layer = Metal;
          carried = ap (λ (q : Port). q.metal) (t.east ∙ ap metal_port h);
          number = sym (t.of_metal East);
        }

    seen_wire : (net : ℕ) (a : Wire) → HasWire w net a → Seen net (seen a)
    seen_wire net (poly col s) h =
        let place = at_home w count is paths col s h.0 h.1 in
        let row = span_row w count is paths s in
        record {
          exists =
              elim (or_cases (has_poly w row col) (has_poly w (row + 1) col) (touched w count is row col s h.0 h.1 place.1)) [
                | inl up ↦ at_north row col place.0 h.0 up
                | inr down ↦ at_south row col place.0 h.0 down
              ];
          bears = poly_named w count is (poly_piece w count is paths row col) s place.0 h.0 h.1 place.1 refl ∙ h.2;
        }
    seen_wire net (metal row) h = by_run (w.run row) refl h.1
      where
        by_run : (o : Option Run) → w.run row ≡ o → IsSomeAnd o (λ (run : Run). run.net ≡ net) → Seen net (piece row (first_column (w.run row)) 0)
        by_run None e g = absurd g
        by_run (Some run) e g =
            let s = starts run.from run.to w.cols is.some_col (run_is w count is row run h.0 e).ends in
            let col = start_of run.from in
            subst (λ (c : ℕ). Seen net (piece row c 0)) (sym (ap first_column e)) (record {
              exists = elim s.crossed [
                | inl left ↦ at_west row col h.0 s.inside (metal_at w count is row col run e ∙ left)
                | inr right ↦ at_east row col h.0 s.inside (metal_at w count is row (col + 1) run e ∙ right)
              ];
              bears = metal_named w count is (piece row col 0) refl ∙ run_named w count is row run e ∙ g;
            })

    pub are_names : AreNames (wiring_plan w) count (wire_name w)
    are_names = record {
      below = λ p h. (let n = named_piece p h in subst (λ (x : ℕ). x < count) (sym n.name) n.below);
      eastward = east_names;
      southward = south_names;
      home = λ n. seen (is.home n);
      exists = λ n few. (seen_wire n (is.home n) (is.has_home n few)).exists;
      bears = λ n few. (seen_wire n (is.home n) (is.has_home n few)).bears;
      leads = λ p h. (let n = named_piece p h in
          subst (λ (x : ℕ). Connected (wiring_plan w) p (seen (is.home x))) (sym n.name) n.leads);
    }
