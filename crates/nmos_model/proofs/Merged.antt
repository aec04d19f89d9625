-- The frame of boxes holds what they merge into, which shows the same drawing.
use Rattle.std.proofs.Common.{◌≡◌, inl, inr, ℤ, pos, ◌+ℤ◌, ◌-ℤ◌, ◌<ℤ◌, arith, refl, sym, subst, List, [], ◌∷◌}
use Rattle.std.proofs.lemmas.Int.{ints}
use Rattle.geom.specs.declared.layer.Layer.{Layer}
use Rattle.geom.specs.Rows.{Among}
use Rattle.geom.specs.Merged.{Merges, InRuns}
use Rattle.geom.specs.Squares.{BoxShape, IsBox, Inside, Covered}
use Rattle.nmos_model.specs.declared.raster.Cover.{Cover}
use Rattle.nmos_model.specs.declared.raster.Frame.{Frame}
use Rattle.nmos_model.specs.Rasters.{Holds, Shows}

covered_by : (bs : List BoxShape) (b : BoxShape) (x y : ℤ) → Among bs b → Inside b x y → Covered bs b.layer x y
covered_by [] b x y h i = absurd h
covered_by (c ∷ cs) b x y (inl e) i = inl (subst (λ d. (d.layer ≡ b.layer) × Inside d x y) (sym e) (refl, i))
covered_by (c ∷ cs) b x y (inr h) i = inr (covered_by cs b x y h i)

-- the square of a box of the frame lies inside it
held : (frame : Frame) (bs : List BoxShape) → ((b : BoxShape) → Among bs b → Holds frame b) → (layer : Layer) (x y : ℤ) → Covered bs layer x y
    → (frame.x <ℤ x) × ((x +ℤ pos 1) <ℤ (frame.x +ℤ pos frame.width)) × (frame.y <ℤ y) × ((y +ℤ pos 1) <ℤ (frame.y +ℤ pos frame.height))
held frame [] holds layer x y h = absurd h
held frame (b ∷ bs) holds layer x y (inl h) =
    let i = h.1 in let k = holds b (inl refl) in
    let l = i.left in let r = i.right in let d = i.bottom in let u = i.top in
    let kl = k.left in let kr = k.right in let kd = k.bottom in let ku = k.top in
    (omega (arith, ints), omega (arith, ints), omega (arith, ints), omega (arith, ints))
held frame (b ∷ bs) holds layer x y (inr h) = held frame bs (λ c w. holds c (inr w)) layer x y h

box_of_runs : (bs : List BoxShape) (b : BoxShape) → InRuns bs → Among bs b → IsBox b
box_of_runs [] b runs h = absurd h
box_of_runs (c ∷ cs) b runs (inl e) = subst IsBox e runs.0
box_of_runs (c ∷ cs) b runs (inr h) = box_of_runs cs b runs.2 h

module _ (boxes merged : List BoxShape) (merges : Merges boxes merged) (frame : Frame) (holds : (b : BoxShape) → Among boxes b → Holds frame b) where
  pub holds_merged : (b : BoxShape) → Among merged b → Holds frame b
  holds_merged b h =
      let box = box_of_runs merged b merges.runs h in
      let across = box.across.order in let upward = box.upward.order in
      let low : Inside b b.x1 b.y1 = record { left = omega (arith, ints); right = across; bottom = omega (arith, ints); top = upward } in
      let high : Inside b (b.x2 -ℤ pos 1) (b.y2 -ℤ pos 1) =
      record { left = omega (arith, ints); right = omega (arith, ints); bottom = omega (arith, ints); top = omega (arith, ints) } in
      let first = held frame boxes holds b.layer b.x1 b.y1 ((merges.same b.layer b.x1 b.y1).0 (covered_by merged b b.x1 b.y1 h low)) in
      let last = held frame boxes holds b.layer (b.x2 -ℤ pos 1) (b.y2 -ℤ pos 1)
      ((merges.same b.layer (b.x2 -ℤ pos 1) (b.y2 -ℤ pos 1)).0 (covered_by merged b (b.x2 -ℤ pos 1) (b.y2 -ℤ pos 1) h high)) in
      let r = last.1 in let t = last.3 in
      record { left = first.0; right = omega (arith, ints); bottom = first.2; top = omega (arith, ints) }

  pub shows_drawn : (squares : List Cover) → Shows frame squares (Covered merged) → Shows frame squares (Covered boxes)
  shows_drawn squares shows = record {
    size = shows.size;
    is = λ layer x y column row at.
        let s = shows.is layer x y column row at in let m = merges.same layer x y in
        (λ e. m.0 (s.0 e), λ h. s.1 (m.1 h));
    inner = λ layer x y h. shows.inner layer x y ((merges.same layer x y).1 h);
  }
