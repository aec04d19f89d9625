-- Labels by what is wrong with their words.
use Rattle.std.proofs.Common.{◌≡◌, ◌⊎◌, inl, inr, Bool, true, false, not, ◌&&◌, ◌||◌, ℕ, ℤ, pos, int_div, List, Option, Some, None, IsSome, refl, sym, ◌∙◌, ap, subst}
use Rattle.std.specs.Bool.{Decides}
use Rattle.rx_text.specs.Role.{NamedRole}
use Rattle.geom.specs.declared.layer.Layer.{Layer}
use Rattle.geom.specs.declared.chip.Label.{Label}
use Rattle.geom.specs.declared.point.Point.{Point}
use Rattle.geom.specs.declared.cif_code.CifCode.TheVariants.{C7, C8, C12}
use Rattle.geom.specs.CifCommands.{Extension}
use Rattle.geom.specs.CifCodes.{HasGreatNumber, LabelIsOffGrid}
use Rattle.geom.specs.CifLabels.{NamesPad, IsLabel}
use Rattle.geom.specs.CifDrawings.{CifState}
use Rattle.cif_codes.specs.Least.{IsLeastCode}
use Rattle.cif_labels.specs.declared.spots.Spot.{Spot}
use Rattle.cif_labels.specs.Spots.{IsSpotOf, OffTold, point_of}
use Rattle.cif_labels.proofs.Deciding.{Found, no_off, is_off_grid, off_no_label, pointless_no_label, great_same, least_off, least_great, least_bad, least_none, is_label, and_true, bad_cases, not_bad, great_met, bad_met, good}

abbrev found_of : (s : CifState) (text : List ℕ) (pad : NamedRole) (behind : List (List ℕ)) (spot : Spot) (off opened : Bool) → NamesPad text pad behind → IsSpotOf behind spot
    → OffTold (point_of spot) off → Decides opened (IsSome s.opening) → Found s text pad spot (point_of spot) off opened
found_of s text pad behind spot off opened n h t o = record { behind = behind; names = n; spot_is = h; point_is = refl; off_is = t; open_is = o }

pub off_label : (s : CifState) (text : List ℕ) (pad : NamedRole) (behind : List (List ℕ)) (spot : Spot) (off opened odd : Bool) → NamesPad text pad behind
    → IsSpotOf behind spot → OffTold (point_of spot) off → Decides opened (IsSome s.opening) → odd ≡ (off && spot.named && not opened) → odd ≡ true
    → IsLeastCode s (Extension text) (Some C7)
off_label s text pad behind spot off opened odd n h t o e f =
    let a = and_true off spot.named opened (sym e ∙ f) in
    least_off s text (is_off_grid s text pad spot (point_of spot) off opened (found_of s text pad behind spot off opened n h t o) a.0 a.1 a.2)

not_off : (s : CifState) (text : List ℕ) (pad : NamedRole) (behind : List (List ℕ)) (spot : Spot) (off opened odd : Bool) → NamesPad text pad behind
    → IsSpotOf behind spot → OffTold (point_of spot) off → Decides opened (IsSome s.opening) → odd ≡ (off && spot.named && not opened) → odd ≡ false
    → LabelIsOffGrid s.opening text → ⊥
not_off s text pad behind spot off opened odd n h t o e f =
    no_off s text pad spot (point_of spot) off opened (found_of s text pad behind spot off opened n h t o) (sym e ∙ f)

pub great_label : (s : CifState) (text : List ℕ) (pad : NamedRole) (behind : List (List ℕ)) (spot : Spot) (off opened odd great : Bool) → NamesPad text pad behind
    → IsSpotOf behind spot → OffTold (point_of spot) off → Decides opened (IsSome s.opening) → odd ≡ (off && spot.named && not opened) → odd ≡ false
    → Decides great (HasGreatNumber behind) → great ≡ true → IsLeastCode s (Extension text) (Some C8)
great_label s text pad behind spot off opened odd great n h t o e f d g =
    least_great s text (not_off s text pad behind spot off opened odd n h t o e f) (great_met s text pad behind n (d.0 g))

few : (great : Bool) (behind : List (List ℕ)) → Decides great (HasGreatNumber behind) → great ≡ false → HasGreatNumber behind → ⊥
few great behind d g k = let z : true ≡ false = sym (d.1 k) ∙ g in cc

pub bad_label : (s : CifState) (text : List ℕ) (pad : NamedRole) (behind : List (List ℕ)) (spot : Spot) (off opened odd great bad : Bool) → NamesPad text pad behind
    → IsSpotOf behind spot → OffTold (point_of spot) off → Decides opened (IsSome s.opening) → odd ≡ (off && spot.named && not opened) → odd ≡ false
    → Decides great (HasGreatNumber behind) → great ≡ false → bad ≡ (off || opened) → bad ≡ true → IsLeastCode s (Extension text) (Some C12)
bad_label s text pad behind spot off opened odd great bad n h t o e f d g b i =
    let k = found_of s text pad behind spot off opened n h t o in
    least_bad s text (not_off s text pad behind spot off opened odd n h t o e f)
    (great_same s text pad spot (point_of spot) off opened k (few great behind d g))
    (bad_met s text pad behind n (elim (bad_cases off opened (sym b ∙ i)) [
      | inl u ↦ inr (off_no_label s text pad spot (point_of spot) off opened k u)
      | inr u ↦ inl (o.0 u)
    ]))

-- the label is lost for want of a point or of a layer
pub lost_label : (s : CifState) (text : List ℕ) (pad : NamedRole) (behind : List (List ℕ)) (spot : Spot) (off opened odd great : Bool) → NamesPad text pad behind
    → IsSpotOf behind spot → OffTold (point_of spot) off → Decides opened (IsSome s.opening) → odd ≡ (off && spot.named && not opened) → odd ≡ false
    → Decides great (HasGreatNumber behind) → great ≡ false → (point_of spot ≡ None) ⊎ (spot.layer ≡ None) → IsLeastCode s (Extension text) (Some C12)
lost_label s text pad behind spot off opened odd great n h t o e f d g i =
    let k = found_of s text pad behind spot off opened n h t o in
    least_bad s text (not_off s text pad behind spot off opened odd n h t o e f)
    (great_same s text pad spot (point_of spot) off opened k (few great behind d g))
    (bad_met s text pad behind n (inr (pointless_no_label s text pad spot (point_of spot) off opened k i)))

pub good_label : (s : CifState) (text : List ℕ) (pad : NamedRole) (behind : List (List ℕ)) (spot : Spot) (p : Point) (layer : Layer) (x y : ℤ) (off opened odd great bad : Bool)
    → NamesPad text pad behind → IsSpotOf behind spot → OffTold (point_of spot) off → Decides opened (IsSome s.opening) → odd ≡ (off && spot.named && not opened)
    → odd ≡ false → Decides great (HasGreatNumber behind) → great ≡ false → bad ≡ (off || opened) → bad ≡ false → point_of spot ≡ Some p → spot.layer ≡ Some layer
    → x ≡ int_div p.x (pos 200) → y ≡ int_div p.y (pos 200)
    → IsLeastCode s (Extension text) None × IsLabel text (record { pad = pad; layer = layer; x = x; y = y })
good_label s text pad behind spot p layer x y off opened odd great bad n h t o e f d g b i u v a c =
    let k = found_of s text pad behind spot off opened n h t o in
    let w = not_bad off opened (sym b ∙ i) in
    let P : Option Point → Type 0 = λ q. OffTold q off in
    let Q : Bool → Type 0 = λ q. OffTold (Some p) q in
    let moved : Found s text pad spot (Some p) false opened =
    record { behind = behind; names = n; spot_is = h; point_is = sym u; off_is = subst Q w.0 (subst P u t); open_is = o } in
    let l = is_label s text pad spot p layer opened x y moved (few great behind d g) v a c in (
      least_none s text (not_off s text pad behind spot off opened odd n h t o e f)
          (great_same s text pad spot (point_of spot) off opened k (few great behind d g))
          (good s text (record { pad = pad; layer = layer; x = x; y = y }) (λ z. (let y1 : true ≡ false = sym (o.1 z) ∙ w.1 in cc)) l),
      l,
    )
