-- What commands do to what is known.
use Rattle.std.proofs.Common.{◌≡◌, ℕ, ◌==◌, ◌^◌, ◌≤◌, ◌||◌, ◌&&◌, Bool, true, false, List, Option, Some, None, IsSome, refl, sym, ◌∙◌, ap, subst, arith}
use Rattle.std.specs.List.{list_all, list_any}
use Rattle.std.proofs.lemmas.Bool.{le-leb}
use Rattle.rx_text.specs.declared.place.Place.{Place}
use Rattle.geom.specs.declared.layer.Layer.{Layer}
use Rattle.geom.specs.declared.chip.Label.{Label}
use Rattle.geom.specs.Squares.{BoxShape}
use Rattle.geom.specs.declared.cif_code.CifCode.TheVariants.{C5, C6}
use Rattle.geom.specs.CifCommands.{CifCommand, Empty, Comment, Opens, Closes, CallsSymbol, SetsLayer, DrawsBox, DrawsPolygon, DrawsWire, Extension}
use Rattle.geom.specs.CifDrawings.{CifSymbol, CifDrawing, CifState, symbol_of, CommandLeads, drawn_in, closed_state}
use Rattle.geom.specs.CifCodes.{is_defined, is_opened}
use Rattle.cif_drawing.specs.declared.placement.Step.{Step}
use Rattle.cif_drawing.specs.Placements.{stepped_boxes}
use Rattle.cif_drawing.specs.Parts.{DrawingParts, part_of, part_boxes, part_chain, chain_or_none, opened_parts, closed_parts, drawn_parts, labelled_parts}
use Rattle.cif_kinds.specs.Kinds.{kind_of}
use Rattle.cif_kinds.specs.declared.kinds.CommandKind.TheVariants as kind
use Rattle.cif_codes.specs.declared.scale.Scale.{Scale}
use Rattle.cif_codes.specs.Scales.{ratio, IsScale}
use Rattle.cif_codes.specs.Least.{IsLeastCode}
use Rattle.cif_labels.specs.Labelled.{state_with}
use Rattle.cif_figures.specs.Figures.{Leads, symbol_in}
use Rattle.cif_figures.specs.Openings.{opened_state}
use Rattle.cif_read.specs.declared.reader.Open.{Open}
use Rattle.cif_read.specs.declared.reader.Reader.{Reader}
use Rattle.cif_read.specs.States.{opening_of, state_of, outer_layer, is_few, AreOpen, IsReader, IsRead}
use Rattle.cif_read.proofs.States.{not_open, nothing_found}

-- The command leads to the state of what is known next.
read_to : (old new : Reader) (place : Place) (c : CifCommand) (next : Place → CifState) → Leads (state_of old) c next → state_of new ≡ next place
    → IsReader new
    → IsRead old place c new
read_to old new place c next h e kept = record {
  clear = h.clear;
  leads = subst (λ (s : CifState). CommandLeads (state_of old) place c s) (sym e) (h.leads place);
  kept = kept;
}

-- ---- drawing

-- boxes of a command, in the definition that is open or outside
record Drew (symbols : List CifSymbol) (drawing : CifDrawing) (o : Option CifSymbol) (p : Option Open) (layer : Option Layer) (place : Place)
    (boxes : List BoxShape) (chain : ℕ) : Type 0 where
  state : state_of (record {
    builder = drawn_parts (record { symbols = symbols; opening = o; drawing = drawing }) place boxes chain o;
    opening =
        p;
    layer = layer;
  })
      ≡ drawn_in (state_of (record { builder = record { symbols = symbols; opening = o; drawing = drawing }; opening = p; layer = layer })) place
      boxes chain (opening_of o p)
  kept : IsReader (record {
    builder = drawn_parts (record { symbols = symbols; opening = o; drawing = drawing }) place boxes chain o;
    opening =
        p;
    layer = layer;
  })

drew : (symbols : List CifSymbol) (drawing : CifDrawing) (o : Option CifSymbol) (p : Option Open) (layer : Option Layer) (place : Place)
    (boxes : List BoxShape) (chain : ℕ) → AreOpen o p → list_all is_few symbols ≡ true → Drew symbols drawing o p layer place boxes chain
drew symbols drawing None None layer place boxes chain h few = record { state = refl; kept = record { opening = tt; few = few } }
drew symbols drawing None (Some q) layer place boxes chain h few = absurd h
drew symbols drawing (Some s) None layer place boxes chain h few = absurd h
drew symbols drawing (Some s) (Some q) layer place boxes chain h few =
    record { state = refl; kept = record { opening = record { number = h.number; few = h.few; scale = h.scale }; few = few } }

pub drawn : (old : Reader) (b : DrawingParts) (place : Place) (c : CifCommand) (boxes : List BoxShape) (chain : ℕ) → IsReader old
    → Leads (state_of old) c (λ p. drawn_in (state_of old) p boxes chain (state_of old).opening)
    → b ≡ drawn_parts old.builder place boxes chain old.builder.opening → IsRead old place c
    (record { builder = b; opening = old.opening; layer = old.layer })
drawn old b place c boxes chain h leads e =
    let d : Drew old.builder.symbols old.builder.drawing old.builder.opening old.opening old.layer place boxes chain =
    drew old.builder.symbols old.builder.drawing old.builder.opening old.opening old.layer place boxes chain h.opening h.few in
    subst (λ (v : DrawingParts). IsRead old place c (record { builder = v; opening = old.opening; layer = old.layer })) (sym e)
    (read_to old (record { builder = drawn_parts old.builder place boxes chain old.builder.opening; opening = old.opening; layer = old.layer })
    place c
    (λ p. drawn_in (state_of old) p boxes chain (state_of old).opening) leads d.state d.kept)

-- a symbol that is called by a number that stands for its own
pub called : (old : Reader) (b : DrawingParts) (place : Place) (c : CifCommand) (steps : List Step) (n v : ℕ) → IsReader old
    → part_of old.builder v ≡ symbol_of (state_of old) n
    → Leads (state_of old) c (λ p. drawn_in (state_of old) p (stepped_boxes steps (part_boxes (symbol_of (state_of old) n)))
    (chain_or_none (symbol_of (state_of old) n)) (state_of old).opening)
    → b ≡ drawn_parts old.builder place (stepped_boxes steps (part_boxes (part_of old.builder v))) (chain_or_none
    (part_of old.builder v)) old.builder.opening
    → IsRead old place c (record { builder = b; opening = old.opening; layer = old.layer })
called old b place c steps n v h same leads e =
    drawn old b place c (stepped_boxes steps (part_boxes (symbol_of (state_of old) n))) (chain_or_none (symbol_of (state_of old) n)) h leads
    (e ∙ ap (λ (o : Option CifSymbol). drawn_parts old.builder place (stepped_boxes steps (part_boxes o))
    (chain_or_none o) old.builder.opening) same)

-- a symbol whose chain of calls is known
pub known : (o : Option CifSymbol) (calls : ℕ) → part_chain o ≡ Some calls → IsSome o × (chain_or_none o ≡ calls)
known None calls e = absurd cc
known (Some s) calls e = (refl, cc)

-- ---- layers, labels, and what does nothing

pub kept : (old : Reader) (place : Place) (c : CifCommand) → IsReader old → Leads (state_of old) c (λ p. state_of old) → IsRead old place c old
kept old place c h leads = read_to old old place c (λ p. state_of old) leads refl h

pub layered : (old : Reader) (place : Place) (c : CifCommand) (layer : Layer) → IsReader old
    → Leads (state_of old) c (λ p. record (state_of old) { layer = Some layer })
    → IsRead old place c (record { builder = old.builder; opening = old.opening; layer = Some layer })
layered old place c layer h leads =
    read_to old (record { builder = old.builder; opening = old.opening; layer = Some layer }) place c (λ p. record
    (state_of old) { layer = Some layer }) leads refl
    (record { opening = h.opening; few = h.few })

pub labelled : (old : Reader) (b : DrawingParts) (place : Place) (c : CifCommand) (label : Label) → IsReader old
    → Leads (state_of old) c (λ p. state_with (state_of old) (Some label)) → b ≡ labelled_parts old.builder label
    → IsRead old place c (record { builder = b; opening = old.opening; layer = old.layer })
labelled old b place c label h leads e =
    subst (λ (v : DrawingParts). IsRead old place c (record { builder = v; opening = old.opening; layer = old.layer })) (sym e)
    (read_to old (record { builder = labelled_parts old.builder label; opening = old.opening; layer = old.layer }) place c
    (λ p. state_with (state_of old) (Some label)) leads refl (record { opening = h.opening; few = h.few }))

-- ---- definitions

-- an opening that meets no code stands outside definitions, and its number is new
pub opens_new : (s : CifState) (c : CifCommand) → kind_of c ≡ kind.Opens → IsLeastCode s c None
    → (IsSome s.opening → ⊥) × (is_defined s (symbol_in c) ≡ true → ⊥)
opens_new s (Opens n scale) k clear = (clear C6, clear C5)
opens_new s Empty k clear = absurd cc
opens_new s Comment k clear = absurd cc
opens_new s Closes k clear = absurd cc
opens_new s (CallsSymbol n moves) k clear = absurd cc
opens_new s (SetsLayer name) k clear = absurd cc
opens_new s (DrawsBox along across centre direction) k clear = absurd cc
opens_new s (DrawsPolygon points) k clear = absurd cc
opens_new s (DrawsWire width points) k clear = absurd cc
opens_new s (Extension text) k clear = absurd cc

or_first : (a b : Bool) → ((a || b) ≡ true → ⊥) → a ≡ true → ⊥
or_first true b absent e = absent refl
or_first false b absent e = cc

-- so the builder may open it
pub may_open : (old : Reader) (n : ℕ) → IsReader old → (IsSome (state_of old).opening → ⊥) → (is_defined (state_of old) n ≡ true → ⊥)
    → (old.builder.opening ≡ None) × (part_of old.builder n ≡ None)
may_open old n h closed new = (
  not_open old.builder.opening old.opening h.opening closed,
  nothing_found (λ symbol. symbol.number == n) old.builder.symbols
      (or_first (list_any (λ symbol. symbol.number == n) old.builder.symbols) (is_opened (opening_of old.builder.opening old.opening) n) new),
)

pub opened : (old : Reader) (b : DrawingParts) (place : Place) (c : CifCommand) (n : ℕ) (scale : Scale) → IsReader old → n ≤ 2 ^ 40 → IsScale scale
    → Leads (state_of old) c (λ p. opened_state (state_of old) n (ratio scale)) → b ≡ opened_parts old.builder n
    → IsRead old place c (record { builder = b; opening = Some (record { number = n; scale = scale; outer = old.layer }); layer = None })
opened old b place c n scale h few is leads e =
    let q : Open = record { number = n; scale = scale; outer = old.layer } in
    subst (λ (v : DrawingParts). IsRead old place c (record { builder = v; opening = Some q; layer = None })) (sym e)
    (read_to old (record { builder = opened_parts old.builder n; opening = Some q; layer = None }) place c
    (λ p. opened_state (state_of old) n (ratio scale)) leads refl
    (record { opening = record { number = refl; few = few; scale = is }; few = h.few }))

-- the definition that is open is closed
record Shut (symbols : List CifSymbol) (drawing : CifDrawing) (o : Option CifSymbol) (p : Option Open) (layer : Option Layer) : Type 0 where
  state : state_of (record {
    builder = closed_parts (record { symbols = symbols; opening = o; drawing = drawing }) o;
    opening = None;
    layer =
        outer_layer p layer;
  })
      ≡ closed_state (state_of (record { builder = record { symbols = symbols; opening = o; drawing = drawing }; opening = p; layer = layer }))
      (opening_of o p)
  kept : IsReader (record {
    builder = closed_parts (record { symbols = symbols; opening = o; drawing = drawing }) o;
    opening = None;
    layer =
        outer_layer p layer;
  })

shut : (symbols : List CifSymbol) (drawing : CifDrawing) (o : Option CifSymbol) (p : Option Open) (layer : Option Layer) → AreOpen o p
    → list_all is_few symbols ≡ true → Shut symbols drawing o p layer
shut symbols drawing None None layer h few = record { state = refl; kept = record { opening = tt; few = few } }
shut symbols drawing None (Some q) layer h few = absurd h
shut symbols drawing (Some s) None layer h few = absurd h
shut symbols drawing (Some s) (Some q) layer h few =
    let le : s.number ≤ 2 ^ 40 = omega (arith, h.number, h.few) in
    record {
      state = refl;
      kept = record { opening = tt; few = ap (λ (t : Bool). t && list_all is_few symbols) (le-leb s.number (2 ^ 40) le) ∙ few };
    }

pub closed : (old : Reader) (b : DrawingParts) (place : Place) (c : CifCommand) → IsReader old
    → Leads (state_of old) c (λ p. closed_state (state_of old) (state_of old).opening) → b ≡ closed_parts old.builder old.builder.opening
    → IsRead old place c (record { builder = b; opening = None; layer = outer_layer old.opening old.layer })
closed old b place c h leads e =
    let d : Shut old.builder.symbols old.builder.drawing old.builder.opening old.opening old.layer =
    shut old.builder.symbols old.builder.drawing old.builder.opening old.opening old.layer h.opening h.few in
    subst (λ (v : DrawingParts). IsRead old place c (record { builder = v; opening = None; layer = outer_layer old.opening old.layer })) (sym e)
    (read_to old (record { builder = closed_parts old.builder old.builder.opening; opening = None; layer = outer_layer old.opening old.layer })
    place c
    (λ p. closed_state (state_of old) (state_of old).opening) leads d.state d.kept)
