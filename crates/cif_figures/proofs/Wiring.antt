-- Wires that stand in a text.
use Rattle.std.proofs.Common.{◌≡◌, ◌≢◌, inl, inr, ℕ, ◌-◌, List, [], Option, Some, None, refl, sym, ◌∙◌, subst}
use Rattle.geom.specs.declared.layer.Layer.{Layer}
use Rattle.geom.specs.declared.point.Point.{Point}
use Rattle.geom.specs.declared.cif_code.CifCode.{CifCode}
use Rattle.geom.specs.declared.cif_code.CifCode.TheVariants.{C3, C7, C8, C9}
use Rattle.geom.specs.Squares.{BoxShape}
use Rattle.geom.specs.CifCommands.{CifScale, CifCommand, DrawsWire, command_parts}
use Rattle.geom.specs.CifDrawings.{CifState, scale_of, drawn_in}
use Rattle.cif_values.specs.Parts.{PartsAt}
use Rattle.cif_kinds.specs.declared.kinds.CommandKind.TheVariants as kind
use Rattle.cif_codes.specs.declared.scale.Scale.{Scale}
use Rattle.cif_codes.specs.declared.wires.WireChecks.{WireChecks}
use Rattle.cif_codes.specs.Wires.{WireChecked}
use Rattle.cif_codes.specs.Scales.{ratio}
use Rattle.cif_codes.specs.Least.{IsLeastCode}
use Rattle.cif_figures.specs.Figures.{CommandOf, Leads, Draws}
use Rattle.cif_figures.specs.Wires.{IsClearWire}
use Rattle.cif_figures.proofs.ByKind.{PartsLaw, is_wire, parts_of, spelled_of}
use Rattle.cif_figures.proofs.Simple.{least_there, leads_by}
use Rattle.cif_figures.proofs.Drawing.{scaled_state, shaped}
use Rattle.cif_figures.proofs.WirePoints.{wire_boxes}

-- the wire of a command that stands in a text
pub record WireHere (text : List ℕ) (first : ℕ) (c : CifCommand) : Type 0 where
  pub w : ℕ
  pub points : List Point
  pub is : c ≡ DrawsWire w points
  pub some : points ≢ []
  pub stop : ℕ
  pub parts : PartsAt text first stop (command_parts (DrawsWire w points))

pub wire_at : (text : List ℕ) (first end : ℕ) (k : CommandOf text first end kind.Wire) → PartsLaw → WireHere text first k.stands.here.command
wire_at text first end k law =
    let o = is_wire k.stands.here.command k.kind_is in
    record {
      w = o.0;
      points = o.1;
      is = o.2;
      some = (spelled_of text first end kind.Wire k (DrawsWire o.0 o.1) o.2).0;
      stop = end - 1;
      parts = parts_of text first end kind.Wire k (DrawsWire o.0 o.1) o.2 tt law;
    }

-- what is found of the wire that stands at a place
abbrev pub ChecksLaw : List ℕ → ℕ → Scale → WireChecks → Type 0
ChecksLaw text first scale found =
    (stop w : ℕ) (points : List Point) → PartsAt text first stop (command_parts (DrawsWire w points)) → WireChecked (ratio scale) w points found

-- which code such wires meet
abbrev pub WireLaw : Option Layer → WireChecks → Option CifCode → Type 0
WireLaw layer found r =
    (s : CifState) (w : ℕ) (points : List Point) → s.layer ≡ layer → WireChecked (scale_of s.opening) w points found
    → IsLeastCode s (DrawsWire w points) r

wire_least : (s : CifState) (c : CifCommand) (text : List ℕ) (first : ℕ) (scale : Scale) (layer : Option Layer) (found : WireChecks)
    (r t : Option CifCode) → (h : WireHere text first c) → ChecksLaw text first scale found → WireLaw layer found r → r ≡ t
    → scale_of s.opening ≡ ratio scale → s.layer ≡ layer → IsLeastCode s (DrawsWire h.w h.points) t
wire_least s c text first scale layer found r t h cl wl e f g =
    let P : CifScale → Type 0 = λ v. WireChecked v h.w h.points found in
    let Q : Option CifCode → Type 0 = λ v. IsLeastCode s (DrawsWire h.w h.points) v in
    subst Q e (wl s h.w h.points g (subst P (sym f) (cl h.stop h.w h.points h.parts)))

pub wire_fault : (s : CifState) (c : CifCommand) (text : List ℕ) (first : ℕ) (scale : Scale) (layer : Option Layer) (found : WireChecks)
    (r t : Option CifCode) → WireHere text first c → ChecksLaw text first scale found → WireLaw layer found r → r ≡ t
    → Draws s (ratio scale) layer → IsLeastCode s c t
wire_fault s c text first scale layer found r t h cl wl e d =
    least_there s c (DrawsWire h.w h.points) t t h.is refl (wire_least s c text first scale layer found r t h cl wl e d.scale_is d.layer_is)

-- where no layer is set, a wire meets a code
pub wire_bare : (c : CifCommand) (text : List ℕ) (first : ℕ) (scale : Scale) (layer : Option Layer) (found : WireChecks) (r : Option CifCode)
    → WireHere text first c → ChecksLaw text first scale found → WireLaw layer found r → r ≡ None → layer ≡ None → ⊥
wire_bare c text first scale layer found r h cl wl e f =
    wire_least (scaled_state (ratio scale) None) c text first scale layer found r None h cl wl e refl (sym f) C3 refl

pub wire_clear : (c : CifCommand) (text : List ℕ) (first : ℕ) (scale : Scale) (layer : Option Layer) (found : WireChecks) (r : Option CifCode)
    → (h : WireHere text first c) → ChecksLaw text first scale found → WireLaw layer found r → r ≡ None
    → IsClearWire text first (ratio scale) h.w h.points
wire_clear c text first scale layer found r h cl wl e =
    let n : IsLeastCode (scaled_state (ratio scale) layer) (DrawsWire h.w h.points) None =
    wire_least (scaled_state (ratio scale) layer) c text first scale layer found r None h cl wl e refl refl in
    record {
      stop = h.stop;
      some = h.some;
      parts = h.parts;
      few = λ g. n C8 (inl g);
      on_grid = λ g. n C7 g;
      not_far = λ g. n C8 (inr g);
      even = λ g. n C9 g;
    }

pub wire_leads : (s : CifState) (c : CifCommand) (text : List ℕ) (first : ℕ) (scale : Scale) (given : Option Layer) (layer : Layer)
    (found : WireChecks) (r : Option CifCode) (boxes : List BoxShape) → WireHere text first c → ChecksLaw text first scale found
    → WireLaw given found r → r ≡ None → given ≡ Some layer
    → ((w : ℕ) (points : List Point) → IsClearWire text first (ratio scale) w points → boxes ≡ wire_boxes scale layer w points)
    → Draws s (ratio scale) given → Leads s c (λ place. drawn_in s place boxes 0 s.opening)
wire_leads s c text first scale given layer found r boxes h cl wl e g f d =
    leads_by s c (DrawsWire h.w h.points) None (λ place. drawn_in s place boxes 0 s.opening) h.is refl
    (wire_least s c text first scale given found r None h cl wl e d.scale_is d.layer_is)
    (λ place. (
      boxes,
      shaped s (DrawsWire h.w h.points) (ratio scale) layer boxes d.scale_is (d.layer_is ∙ g)
          (f h.w h.points (wire_clear c text first scale given found r h cl wl e)),
      refl,
    ))
