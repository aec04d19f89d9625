-- The only rectangle that the region of a first square can be.
use Rattle.std.proofs.Common.{◌≡◌, inl, inr, ℕ, ◌<◌, ◌≤◌, ◌-◌, ◌^◌, not, arith, refl, sym, ap, subst, ◌∙◌, Bool, true, false}
use Rattle.std.proofs.lemmas.Bool.{and_parts}
use Rattle.nmos_model.specs.declared.raster.Cover.{Cover}
use Rattle.nmos_model.specs.declared.block.Region.{Region}
use Rattle.nmos_model.specs.Rasters.{number_of}
use Rattle.nmos_model.specs.Regions.{Raster, HasMargin, IsEnd, IsInnerBlock, IsRegion, channel_kind, cover_in, is_channel, is_kind}
use Rattle.nmos_model.proofs.Common.{below_or_above}
use Rattle.nmos_model.proofs.Places.{one_place}

is_not : (t : Bool) → not t ≡ true → t ≡ false
is_not true e = absurd (cc)
is_not false e = refl

-- what covers a square of a channel
pub kind_parts : (depletion : Bool) (cover : Cover) → is_kind (channel_kind depletion) cover ≡ true
    → (is_channel cover ≡ true) × (cover.implant ≡ depletion)
kind_parts true cover e = and_parts _ _ e
kind_parts false cover e = let b = and_parts _ _ e in (b.0, is_not _ b.1)

module _ (test : ℕ → Bool) (from size end : ℕ) (is : IsEnd test from size end) where
  -- an end is no number that passes the test
  passes_not : (at : ℕ) → test at ≡ true → at ≡ end → size ≤ end
  passes_not at e same =
      elim (below_or_above size end) [
        | inl ge ↦ ge
        | inr lt ↦ absurd (let f = is.fails lt in let g = ap test same in cc)
      ]

  pub end_inside : from < size → test from ≡ true → (test (size - 1) ≡ true → ⊥) → (from < end) × (end < size)
  end_inside lt first last =
      let order = is.order in let within = is.within in
      let inside : end < size = elim (below_or_above size end) [
        | inl ge ↦ absurd (last (is.before (size - 1) (omega arith) (omega arith)))
        | inr lower ↦ lower
      ] in (
        elim (below_or_above end from) [
          | inl le ↦ let over = passes_not from first (omega arith) in omega arith
          | inr above ↦ above
        ],
        inside,
      )

  pub end_only : (other : ℕ) → other < size → from ≤ other → ((at : ℕ) → from ≤ at → at < other → test at ≡ true) → test other ≡ false → other ≡ end
  end_only other lt low passes fails =
      elim (below_or_above other end) [
        | inr above ↦
            let order = is.order in
            let yes = passes end order above in let no = is.fails (omega arith) in absurd (cc)
        | inl le ↦ elim (below_or_above end other) [
          | inr above ↦ let yes = is.before other low above in absurd (cc)
          | inl ge ↦ omega arith
        ]
      ]

same_region : (r : Region) (left right bottom top : ℕ) (depletion : Bool) → r.block.columns.from ≡ left → r.block.columns.to ≡ right
    → r.block.rows.from ≡ bottom → r.block.rows.to ≡ top → r.depletion ≡ depletion
    → r ≡ record { block = record { columns = record { from = left; to = right }; rows = record { from = bottom; to = top } }; depletion = depletion }
same_region r left right bottom top depletion a b c d e = rw (← a, ← b, ← c, ← d, ← e) refl

module _ (raster : Raster) (column row right top : ℕ) (column_within : column < raster.frame.width) (row_within : row < raster.frame.height)
    (channel : is_channel (cover_in raster column row) ≡ true)
    (across : IsEnd (λ at. is_channel (cover_in raster at row)) column raster.frame.width right)
    (upward : IsEnd (λ at. is_channel (cover_in raster column at)) row raster.frame.height top) where
  abbrev widest : Region
  widest = record {
    block = record { columns = record { from = column; to = right }; rows = record { from = row; to = top } };
    depletion = (cover_in raster column row).implant;
  }

  pub widest_inner : HasMargin raster → raster.frame.width < 2 ^ 32 → raster.frame.height < 2 ^ 32 → IsInnerBlock raster.frame widest.block
  widest_inner margin columns_fit rows_fit =
      let inner = margin column row column_within row_within channel in
      let columns = end_inside (λ at. is_channel (cover_in raster at row)) column raster.frame.width right across column_within channel
      (λ e. let last = (margin (raster.frame.width - 1) row (omega arith) row_within e).right in omega arith) in
      let rows = end_inside (λ at. is_channel (cover_in raster column at)) row raster.frame.height top upward row_within channel
      (λ e. let last = (margin column (raster.frame.height - 1) column_within (omega arith) e).top in omega arith) in
      let c = columns.1 in let r = rows.1 in
      record {
        left = inner.left;
        across = columns.0;
        right = columns.1;
        bottom = inner.bottom;
        upward = rows.0;
        top = rows.1;
        columns_fit = omega arith;
        rows_fit = omega arith;
      }

  pub widest_only : (first : ℕ) → first ≡ number_of raster.frame.width column row → (region : Region) → IsRegion raster first region → region ≡ widest
  widest_only first is region found =
      let inner = found.inner in let cut = found.cut in
      let left = inner.across in let bottom = inner.upward in let within = inner.right in let high = inner.top in
      let place = one_place raster.frame.width region.block.rows.from row region.block.columns.from column (omega arith) column_within (sym found.first_is ∙ is) in
      let low : region.block.rows.from ≡ row = place.0 in
      let start : region.block.columns.from ≡ column = place.1 in
      let here : (is_channel (cover_in raster region.block.columns.from region.block.rows.from) ≡ true)
      × ((cover_in raster region.block.columns.from region.block.rows.from).implant ≡ region.depletion) =
      kind_parts region.depletion _ (cut.channel region.block.columns.from region.block.rows.from ((omega arith, left), (omega arith, bottom))) in
      let implant = ap (λ r. (cover_in raster column r).implant) low in
      let implant_column = ap (λ c. (cover_in raster c region.block.rows.from).implant) start in
      same_region region column right row top (cover_in raster column row).implant start
      (end_only (λ at. is_channel (cover_in raster at row)) column raster.frame.width right across region.block.columns.to within (omega arith)
      (λ at from to. subst (λ r. is_channel (cover_in raster at r) ≡ true) low
      (kind_parts region.depletion _ (cut.channel at region.block.rows.from ((omega arith, to), (omega arith, bottom)))).0)
      (subst (λ r. is_channel (cover_in raster region.block.columns.to r) ≡ false) low
      (is_not _ (cut.sides.1 region.block.columns.to region.block.rows.from ((omega arith, omega arith), (omega arith, bottom))))))
      low
      (end_only (λ at. is_channel (cover_in raster column at)) row raster.frame.height top upward region.block.rows.to high (omega arith)
      (λ at from to. subst (λ c. is_channel (cover_in raster c at) ≡ true) start
      (kind_parts region.depletion _ (cut.channel region.block.columns.from at ((omega arith, left), (omega arith, to)))).0)
      (subst (λ c. is_channel (cover_in raster c region.block.rows.to) ≡ false) start
      (is_not _ (cut.ends.0 region.block.columns.from region.block.rows.to ((omega arith, left), (omega arith, omega arith))))))
      (sym here.1 ∙ implant_column ∙ implant)
