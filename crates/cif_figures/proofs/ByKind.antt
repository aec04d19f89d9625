-- Commands by their kinds.
use Rattle.std.proofs.Common.{◌≡◌, inl, inr, ℕ, ◌-◌, List, Option, None, refl, sym, subst}
use Rattle.geom.specs.declared.point.Point.{Point}
use Rattle.geom.specs.declared.cif_code.CifCode.{CifCode}
use Rattle.geom.specs.declared.cif_code.CifCode.TheVariants.{C8}
use Rattle.geom.specs.CifCommands.{CifScale, CifMove, CifCommand, Empty, Comment, Opens, Closes, CallsSymbol, SetsLayer, DrawsBox, DrawsPolygon, DrawsWire, Extension, SpellsCommand, command_parts}
use Rattle.geom.specs.CifCodes.{MeetsCode}
use Rattle.geom.specs.CifDrawings.{CifState}
use Rattle.cif_kinds.specs.declared.kinds.CommandKind.TheVariants as kind
use Rattle.cif_syntax.specs.Sentences.{IsCommandAt}
use Rattle.cif_values.specs.Parts.{PartsAt}
use Rattle.cif_kinds.specs.declared.kinds.CommandKind.{CommandKind}
use Rattle.cif_kinds.specs.Kinds.{kind_of, IsMadeOfParts}
use Rattle.cif_codes.specs.Least.{IsLeastCode}
use Rattle.cif_figures.specs.Figures.{CommandOf, Leads}

pub is_layer : (c : CifCommand) → kind_of c ≡ kind.Layer → (name : List ℕ) × (c ≡ SetsLayer name)
is_layer (SetsLayer name) e = (name, refl)
is_layer c e = absurd cc

pub is_opening : (c : CifCommand) → kind_of c ≡ kind.Opens → (n : ℕ) × (scale : Option CifScale) × (c ≡ Opens n scale)
is_opening (Opens n scale) e = (n, scale, refl)
is_opening c e = absurd cc

pub is_close : (c : CifCommand) → kind_of c ≡ kind.Closes → c ≡ Closes
is_close Closes e = refl
is_close c e = absurd cc

pub is_call : (c : CifCommand) → kind_of c ≡ kind.Calls → (n : ℕ) × (moves : List CifMove) × (c ≡ CallsSymbol n moves)
is_call (CallsSymbol n moves) e = (n, moves, refl)
is_call c e = absurd cc

-- the parts of a box
pub record BoxParts (c : CifCommand) : Type 0 where
  pub along : ℕ
  pub across : ℕ
  pub centre : Point
  pub direction : Option Point
  pub is : c ≡ DrawsBox along across centre direction

pub is_box : (c : CifCommand) → kind_of c ≡ kind.Box → BoxParts c
is_box (DrawsBox along across centre direction) e = record { along = along; across = across; centre = centre; direction = direction; is = refl }
is_box c e = absurd cc

pub is_polygon : (c : CifCommand) → kind_of c ≡ kind.Polygon → (points : List Point) × (c ≡ DrawsPolygon points)
is_polygon (DrawsPolygon points) e = (points, refl)
is_polygon c e = absurd cc

pub is_wire : (c : CifCommand) → kind_of c ≡ kind.Wire → (w : ℕ) × (points : List Point) × (c ≡ DrawsWire w points)
is_wire (DrawsWire w points) e = (w, points, refl)
is_wire c e = absurd cc

pub is_extension : (c : CifCommand) → kind_of c ≡ kind.Extension → (text : List ℕ) × (c ≡ Extension text)
is_extension (Extension text) e = (text, refl)
is_extension c e = absurd cc

-- where the parts of a command stand, by the law of the crate below
abbrev pub PartsLaw : Type 0
PartsLaw =
    (text : List ℕ) (from first end : ℕ) (h : IsCommandAt text from first end) → IsMadeOfParts h.here.command
    → PartsAt text first (end - 1) (command_parts h.here.command)

pub parts_of : (text : List ℕ) (first end : ℕ) (k : CommandKind) (c : CommandOf text first end k) (d : CifCommand) → c.stands.here.command ≡ d
    → IsMadeOfParts d → PartsLaw
    → PartsAt text first (end - 1) (command_parts d)
parts_of text first end k c d e m law =
    let M : CifCommand → Type 0 = λ x. IsMadeOfParts x in
    let P : CifCommand → Type 0 = λ x. PartsAt text first (end - 1) (command_parts x) in
    subst P e (law text c.from first end c.stands (subst M (sym e) m))

pub spelled_of : (text : List ℕ) (first end : ℕ) (k : CommandKind) (c : CommandOf text first end k) (d : CifCommand) → c.stands.here.command ≡ d
    → SpellsCommand d c.stands.here.bytes
spelled_of text first end k c d e = let P : CifCommand → Type 0 = λ x. SpellsCommand x c.stands.here.bytes in subst P e c.stands.here.spelled

-- ---- commands that do nothing

empty_clear : (s : CifState) → IsLeastCode s Empty None
empty_clear s code m = by code m
  where
    by : (code : CifCode) → MeetsCode code s Empty → ⊥
    by C8 m = elim m [ inl k ↦ absurd k | inr k ↦ absurd k ]
    by code m = absurd m

comment_clear : (s : CifState) → IsLeastCode s Comment None
comment_clear s code m = by code m
  where
    by : (code : CifCode) → MeetsCode code s Comment → ⊥
    by C8 m = elim m [ inl k ↦ absurd k | inr k ↦ absurd k ]
    by code m = absurd m

pub empty_leads : (s : CifState) (c : CifCommand) → kind_of c ≡ kind.Empty → Leads s c (λ place. s)
empty_leads s Empty e = record { clear = empty_clear s; leads = λ place. refl }
empty_leads s c e = absurd cc

pub comment_leads : (s : CifState) (c : CifCommand) → kind_of c ≡ kind.Comment → Leads s c (λ place. s)
comment_leads s Comment e = record { clear = comment_clear s; leads = λ place. refl }
comment_leads s c e = absurd cc
