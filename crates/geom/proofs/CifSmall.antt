-- Small CIF texts, command by command.
use Rattle.std.proofs.Common.{◌≡◌, ◌≢◌, inl, inr, ℕ, ◌*◌, ◌<◌, ◌≤◌, ◌^◌, Bool, true, ℤ, pos, negsuc, neg_ℤ, ◌*ℤ◌, ◌≤ℤ◌, List, [], ◌∷◌, ◌++◌, Option, Some, None, codes, refl, sym, subst, append_assoc, arith}
use Rattle.std.proofs.lemmas.Int.{ints}
use Rattle.rx_text.specs.TextPlace.{place_behind}
use Rattle.rx_text.specs.declared.place.Place.TheVariants.{Text}
use Rattle.geom.specs.declared.layer.Layer.{Layer}
use Rattle.geom.specs.declared.layer.Layer.TheVariants.{Metal}
use Rattle.geom.specs.declared.cif_code.CifCode.{CifCode}
use Rattle.geom.specs.declared.cif_code.CifCode.TheVariants.{C1, C2, C3, C4, C5, C6, C7, C8, C9, C11, C14, C15}
use Rattle.geom.specs.Squares.{BoxShape, IsBox}
use Rattle.geom.specs.CifCommands.{CifScale, CifMove, Translates, MirrorsX, Rotates, CifCommand, Opens, Closes, CallsSymbol, SetsLayer, DrawsBox, DrawsWire, CifPart, SpellsPart, PartThen, AreCifBlanks, SpellsCommand, WritesNumber, WritesSigned}
use Rattle.geom.specs.CifDrawings.{CifState, blank_state, CommandLeads}
use Rattle.geom.specs.CifCodes.{MeetsCode, SomeIs, IsTooGreat, IsOffGrid, IsFarOff, code_number}
use Rattle.geom.specs.CifRefusals.{CommandFault, DrawsFrom, RefusedFrom, CifRefusal, DrawsCif}

-- a part, blanks and more parts
part : {p : CifPart} {needs : Bool} {More : List ℕ → Type 0} (word gap rest : List ℕ) → SpellsPart p word → AreCifBlanks gap → (needs ≡ true → gap ≢ [])
    → More rest → PartThen p needs More (word ++ (gap ++ rest))
part word gap rest spelled blanks apart more = record {
  word = word;
  gap = gap;
  rest = rest;
  is = sym (append_assoc word gap rest);
  spelled = spelled;
  blanks = blanks;
  apart = apart;
  more = more;
}

-- none of the numbers is such
abbrev NoneIs : (ℤ → Type 0) → List ℤ → Type 0
NoneIs Is [] = Unit {0}
NoneIs Is (z ∷ zs) = (Is z → ⊥) × NoneIs Is zs

none_is : (Is : ℤ → Type 0) (zs : List ℤ) → NoneIs Is zs → SomeIs Is zs → ⊥
none_is Is [] none some = some
none_is Is (z ∷ zs) none (inl here) = none.0 here
none_is Is (z ∷ zs) none (inr later) = none_is Is zs none.1 later

-- the number is not too great
fine : (n : ℕ) → n ≤ 2 ^ 40 → IsTooGreat (pos n) → ⊥
fine n few (inl above) = omega (arith, ints, above, few)
fine n few (inr below) = omega (arith, ints, below)

-- the distance is within reach
near : (times : ℕ) (z : ℤ) → neg_ℤ (pos (400 * 2 ^ 40)) ≤ℤ (z *ℤ pos times) → (z *ℤ pos times) ≤ℤ pos (400 * 2 ^ 40)
    → IsFarOff (record { times = times; per = 1 }) z → ⊥
near times z low high (inl above) = omega (arith, ints, above, high)
near times z low high (inr below) = omega (arith, ints, below, low)

-- a plain number
plain : (n : ℕ) (bytes : List ℕ) → WritesNumber n bytes → WritesSigned (pos n) bytes
plain n bytes w = inl (n, refl, w)

-- a command that is read, and what stands behind it
go : (s next : CifState) {last : CifState} (front gap bytes behind : List ℕ) (c : CifCommand) → AreCifBlanks gap → SpellsCommand c bytes
    → ((code : CifCode) → MeetsCode code s c → ⊥) → CommandLeads s (place_behind (front ++ gap)) c next
    → DrawsFrom next (front ++ gap ++ bytes ++ codes ";") behind last → DrawsFrom s front (gap ++ bytes ++ 59 ∷ behind) last
go s next {last} front gap bytes behind c blanks spelled clear leads later =
    DrawsFrom.command s next last front (gap ++ bytes ++ 59 ∷ behind)
    (record {
      here = record { gap = gap; bytes = bytes; behind = behind; is = refl; blanks = blanks; command = c; spelled = spelled };
      clear = clear;
      leads = leads;
    }) later

-- `L NM`
metal : SpellsCommand (SetsLayer (codes "NM")) (codes "L NM")
metal = (
  record { some = λ e. cc; few = omega arith; bytes = refl },
  part (codes "L") (codes " ") (codes "NM") refl refl (λ e. cc) (part (codes "NM") [] [] refl refl (λ e. cc) refl),
)

-- `B 800 800 X 400`
box : (x : ℕ) (bytes : List ℕ) → WritesNumber x bytes → SpellsCommand (DrawsBox 800 800 (record { x = pos x; y = pos 400 }) None)
    (codes "B 800 800 " ++ (bytes ++ codes " 400"))
box x bytes w = (
  tt,
  part (codes "B") (codes " ") _ refl refl (λ e. cc)
      (part (codes "800") (codes " ") _ (record { some = λ e. cc; digits = refl; value = refl }) refl (λ e f. cc)
      (part (codes "800") (codes " ") _ (record { some = λ e. cc; digits = refl; value = refl }) refl (λ e f. cc)
      (part bytes (codes " ") _ (inl (x, refl, w)) refl (λ e f. cc)
      (part (codes "400") [] [] (inl (400, refl, record { some = λ e. cc; digits = refl; value = refl })) refl (λ e. cc) refl)))),
)

pub no_layer : CifRefusal (codes "B 800 800 400 400; E") C3 (Text 1 1)
no_layer =
    RefusedFrom.here blank_state [] (codes "B 800 800 400 400; E") [] C3
    (CommandFault.meets (record {
      gap = [];
      bytes = codes "B 800 800 400 400";
      behind = codes " E";
      is = refl;
      blanks = refl;
      command = DrawsBox 800 800 (record { x = pos 400; y = pos 400 }) None;
      spelled = box 400 (codes "400") (record { some = λ e. cc; digits = refl; value = refl });
    }) C3 refl lower)
  where
    lower : (code : CifCode) → code_number code < 3 → MeetsCode code blank_state (DrawsBox 800 800 (record { x = pos 400; y = pos 400 }) None) → ⊥
    lower C1 lt h = h
    lower C2 lt h = h
    lower C3 lt h = omega (arith, lt)
    lower C4 lt h = h
    lower C5 lt h = h
    lower C6 lt h = h
    lower C7 lt h = omega (arith, lt)
    lower C8 lt h = omega (arith, lt)
    lower C9 lt h = omega (arith, lt)
    lower other lt h = h

pub unknown_symbol : CifRefusal (codes "C 1; E") C4 (Text 1 1)
unknown_symbol =
    RefusedFrom.here blank_state [] (codes "C 1; E") [] C4
    (CommandFault.meets (record {
      gap = [];
      bytes = codes "C 1";
      behind = codes " E";
      is = refl;
      blanks = refl;
      command = CallsSymbol 1 [];
      spelled = (
        tt,
        part (codes "C") (codes " ") (codes "1") refl refl (λ e. cc)
            (part (codes "1") [] [] (record { some = λ e. cc; digits = refl; value = refl }) refl (λ e. cc) refl),
      );
    }) C4 refl lower)
  where
    lower : (code : CifCode) → code_number code < 4 → MeetsCode code blank_state (CallsSymbol 1 []) → ⊥
    lower C4 lt h = omega (arith, lt)
    lower C7 lt h = h
    lower C8 lt h = omega (arith, lt)
    lower C9 lt h = omega (arith, lt)
    lower C14 lt h = omega (arith, lt)
    lower other lt h = h

pub behind_end : CifRefusal (codes "E L") C11 (Text 1 3)
behind_end =
    RefusedFrom.here blank_state [] (codes "E L") (codes "E ") C11 (CommandFault.behind_end [] (codes " ") 76 [] refl refl refl refl refl)

-- ---- one definition, and its call

abbrev two : CifScale
two = record { times = 2; per = 1 }

abbrev tall_box : BoxShape
tall_box = record { layer = Metal; x1 = pos 0; y1 = pos 0; x2 = pos 4; y2 = pos 8 }

abbrev turned_box : BoxShape
turned_box = record { layer = Metal; x1 = pos 6; y1 = negsuc 3; x2 = pos 14; y2 = pos 0 }

-- in the definition, with these boxes and this layer
abbrev in_symbol : List BoxShape → Option Layer → CifState
in_symbol boxes layer = record {
  symbols = [];
  opening = Some (record { symbol = record { number = 1; boxes = boxes; chain = 0 }; scale = two; outer = None });
  layer = layer;
  drawing = record { strokes = []; labels = [] };
}

-- behind it
abbrev with_symbol : CifState
with_symbol = record {
  symbols = record { number = 1; boxes = tall_box ∷ []; chain = 0 } ∷ [];
  opening = None;
  layer = None;
  drawing = record { strokes = []; labels = [] };
}

abbrev with_call : CifState
with_call = record {
  symbols = record { number = 1; boxes = tall_box ∷ []; chain = 0 } ∷ [];
  opening = None;
  layer = None;
  drawing = record { strokes = record { place = Text 1 40; boxes = turned_box ∷ [] } ∷ []; labels = [] };
}

opens_two : SpellsCommand (Opens 1 (Some two)) (codes "DS 1 2 1")
opens_two = (
  (λ e. cc, λ e. cc),
  part (codes "DS") (codes " ") _ refl refl (λ e. cc)
      (part (codes "1") (codes " ") _ (record { some = λ e. cc; digits = refl; value = refl }) refl (λ e f. cc)
      (part (codes "2") (codes " ") _ (record { some = λ e. cc; digits = refl; value = refl }) refl (λ e f. cc)
      (part (codes "1") [] [] (record { some = λ e. cc; digits = refl; value = refl }) refl (λ e. cc) refl))),
)

opens_clear : (code : CifCode) → MeetsCode code blank_state (Opens 1 (Some two)) → ⊥
opens_clear C5 h = cc
opens_clear C6 h = cc
opens_clear C8 (inl great) = none_is IsTooGreat (pos 1 ∷ pos 2 ∷ pos 1 ∷ []) (fine 1 (omega arith), (fine 2 (omega arith), (fine 1 (omega arith), tt))) great
opens_clear C8 (inr far) = far
opens_clear other h = h

metal_clear : (s : CifState) (code : CifCode) → MeetsCode code s (SetsLayer (codes "NM")) → ⊥
metal_clear s C2 h = cc
metal_clear s C8 (inl great) = great
metal_clear s C8 (inr far) = far
metal_clear s other h = h

tall : SpellsCommand (DrawsBox 400 800 (record { x = pos 200; y = pos 400 }) None) (codes "B 400 800 200 400")
tall = (
  tt,
  part (codes "B") (codes " ") _ refl refl (λ e. cc)
      (part (codes "400") (codes " ") _ (record { some = λ e. cc; digits = refl; value = refl }) refl (λ e f. cc)
      (part (codes "800") (codes " ") _ (record { some = λ e. cc; digits = refl; value = refl }) refl (λ e f. cc)
      (part (codes "200") (codes " ") _ (plain 200 (codes "200") (record { some = λ e. cc; digits = refl; value = refl })) refl (λ e f. cc)
      (part (codes "400") [] [] (plain 400 (codes "400") (record { some = λ e. cc; digits = refl; value = refl })) refl (λ e. cc) refl)))),
)

tall_clear : (code : CifCode) → MeetsCode code (in_symbol [] (Some Metal)) (DrawsBox 400 800 (record { x = pos 200; y = pos 400 }) None) → ⊥
tall_clear C3 h = cc
tall_clear C7 h =
    none_is (IsOffGrid two) (pos 0 ∷ pos 0 ∷ pos 800 ∷ pos 1600 ∷ []) ((λ off. off refl), ((λ off. off refl), ((λ off. off refl), ((λ off. off refl), tt)))) h
tall_clear C8 (inl great) =
    none_is IsTooGreat (pos 400 ∷ pos 800 ∷ pos 200 ∷ pos 400 ∷ []) (
      fine 400 (omega arith),
      (
        fine 800 (omega arith),
        (
          fine 200 (omega arith),
          (fine 400 (omega arith), tt),
        ),
      ),
    ) great
tall_clear C8 (inr far) =
    none_is (IsFarOff two) (pos 0 ∷ pos 0 ∷ pos 800 ∷ pos 1600 ∷ []) (
      near 2 (pos 0) (omega (arith, ints)) (omega (arith, ints)),
      (
        near 2 (pos 0) (omega (arith, ints)) (omega (arith, ints)),
        (
          near 2 (pos 800)
              (omega (arith, ints)) (omega (arith, ints)),
          (near 2 (pos 1600) (omega (arith, ints)) (omega (arith, ints)), tt),
        ),
      ),
    ) far
tall_clear C9 (inl none) = omega (arith, none)
tall_clear C9 (inr (inl none)) = omega (arith, none)
tall_clear C9 (inr (inr oblique)) = cc
tall_clear other h = h

closes_clear : (code : CifCode) → MeetsCode code (in_symbol (tall_box ∷ []) (Some Metal)) Closes → ⊥
closes_clear C6 h = cc
closes_clear C8 (inl great) = great
closes_clear C8 (inr far) = far
closes_clear other h = h

abbrev moves : List CifMove
moves = MirrorsX ∷ Rotates (pos 0) (pos 1) ∷ Translates (pos 2800) (pos 0) ∷ []

calls_turned : SpellsCommand (CallsSymbol 1 moves) (codes "C 1 M X R 0 1 T 2800 0")
calls_turned = (
  tt,
  part (codes "C") (codes " ") _ refl refl (λ e. cc)
      (part (codes "1") (codes " ") _ (record { some = λ e. cc; digits = refl; value = refl }) refl (λ e. cc)
      (part (codes "M") (codes " ") _ refl refl (λ e. cc)
      (part (codes "X") (codes " ") _ refl refl (λ e. cc)
      (part (codes "R") (codes " ") _ refl refl (λ e. cc)
      (part (codes "0") (codes " ") _ (plain 0 (codes "0") (record { some = λ e. cc; digits = refl; value = refl })) refl (λ e f. cc)
      (part (codes "1") (codes " ") _ (plain 1 (codes "1") (record { some = λ e. cc; digits = refl; value = refl })) refl (λ e. cc)
      (part (codes "T") (codes " ") _ refl refl (λ e. cc)
      (part (codes "2800") (codes " ") _ (plain 2800 (codes "2800") (record { some = λ e. cc; digits = refl; value = refl })) refl (λ e f. cc)
      (part (codes "0") [] [] (plain 0 (codes "0") (record { some = λ e. cc; digits = refl; value = refl })) refl (λ e. cc) refl))))))))),
)

calls_clear : (code : CifCode) → MeetsCode code with_symbol (CallsSymbol 1 moves) → ⊥
calls_clear C4 h = cc
calls_clear C7 h = none_is (IsOffGrid (record { times = 1; per = 1 })) (pos 5600 ∷ pos 0 ∷ []) ((λ off. off refl), ((λ off. off refl), tt)) h
calls_clear C8 (inl great) =
    none_is IsTooGreat (pos 1 ∷ pos 0 ∷ pos 1 ∷ pos 2800 ∷ pos 0 ∷ []) (
      fine 1 (omega arith),
      (
        fine 0 (omega arith),
        (
          fine 1 (omega arith),
          (fine 2800 (omega arith), (fine 0 (omega arith), tt)),
        ),
      ),
    ) great
calls_clear C8 (inr far) =
    none_is (IsFarOff (record { times = 1; per = 1 })) (pos 5600 ∷ pos 0 ∷ [])
    (near 1 (pos 5600) (omega (arith, ints)) (omega (arith, ints)), (near 1 (pos 0) (omega (arith, ints)) (omega (arith, ints)), tt)) far
calls_clear C9 h = cc
calls_clear C14 h = omega (arith, h)
calls_clear other h = h

pub turned : DrawsCif (codes "DS 1 2 1; L NM; B 400 800 200 400; DF; C 1 M X R 0 1 T 2800 0; E") (turned_box ∷ []) []
turned = record {
  drawing = with_call.drawing;
  is_text = record {
    last = with_call;
    draws =
        go blank_state (in_symbol [] None) [] [] (codes "DS 1 2 1")
        (codes " L NM; B 400 800 200 400; DF; C 1 M X R 0 1 T 2800 0; E") _ refl opens_two opens_clear refl
        (go (in_symbol [] None) (in_symbol [] (Some Metal)) (codes "DS 1 2 1;") (codes " ") (codes "L NM")
        (codes " B 400 800 200 400; DF; C 1 M X R 0 1 T 2800 0; E") _ refl metal (metal_clear _) refl
        (go (in_symbol [] (Some Metal)) (in_symbol (tall_box ∷ []) (Some Metal)) (codes "DS 1 2 1; L NM;") (codes " ") (codes "B 400 800 200 400")
        (codes " DF; C 1 M X R 0 1 T 2800 0; E") _ refl tall tall_clear (tall_box ∷ [], refl, refl)
        (go (in_symbol (tall_box ∷ []) (Some Metal)) with_symbol (codes "DS 1 2 1; L NM; B 400 800 200 400;") (codes " ") (codes "DF")
        (codes " C 1 M X R 0 1 T 2800 0; E") Closes refl
        (tt, part (codes "DF") [] [] refl refl (λ e. cc) refl) closes_clear refl
        (go with_symbol with_call (codes "DS 1 2 1; L NM; B 400 800 200 400; DF;") (codes " ") (codes "C 1 M X R 0 1 T 2800 0")
        (codes " E") _ refl calls_turned calls_clear (turned_box ∷ [], refl, refl)
        (DrawsFrom.end with_call (codes "DS 1 2 1; L NM; B 400 800 200 400; DF; C 1 M X R 0 1 T 2800 0;") (codes " E") (codes " ") [] refl refl refl refl)))));
    drawing_is = refl;
  };
  boxes_are = refl;
  within = λ b among. elim among [
    | inl same ↦ subst IsBox same (record {
      across = record { first = omega (arith, ints); order = omega (arith, ints); last = omega (arith, ints) };
      upward = record { first = omega (arith, ints); order = omega (arith, ints); last = omega (arith, ints) };
    })
    | inr none ↦ absurd none
  ];
  labels_are = refl;
}

-- ---- a wire, and texts that are refused behind a command

abbrev no_scale : CifScale
no_scale = record { times = 1; per = 1 }

abbrev with_metal : CifState
with_metal = record { symbols = []; opening = None; layer = Some Metal; drawing = record { strokes = []; labels = [] } }

abbrev wire_box : BoxShape
wire_box = record { layer = Metal; x1 = pos 0; y1 = pos 0; x2 = pos 13; y2 = pos 3 }

abbrev with_wire : CifState
with_wire = record {
  symbols = [];
  opening = None;
  layer = Some Metal;
  drawing = record { strokes = record { place = Text 1 7; boxes = wire_box ∷ [] } ∷ []; labels = [] };
}

abbrev wire_command : CifCommand
wire_command = DrawsWire 600 (record { x = pos 300; y = pos 300 } ∷ record { x = pos 2300; y = pos 300 } ∷ [])

wire_spelled : SpellsCommand wire_command (codes "W 600 300 300 2300 300")
wire_spelled = (
  (λ e. cc),
  part (codes "W") (codes " ") _ refl refl (λ e. cc)
      (part (codes "600") (codes " ") _ (record { some = λ e. cc; digits = refl; value = refl }) refl (λ e f. cc)
      (part (codes "300") (codes " ") _ (plain 300 (codes "300") (record { some = λ e. cc; digits = refl; value = refl })) refl (λ e f. cc)
      (part (codes "300") (codes " ") _ (plain 300 (codes "300") (record { some = λ e. cc; digits = refl; value = refl })) refl (λ e f. cc)
      (part (codes "2300") (codes " ") _ (plain 2300 (codes "2300") (record { some = λ e. cc; digits = refl; value = refl })) refl (λ e f. cc)
      (part (codes "300") [] [] (plain 300 (codes "300") (record { some = λ e. cc; digits = refl; value = refl })) refl (λ e. cc) refl))))),
)

wire_clear : (code : CifCode) → MeetsCode code with_metal wire_command → ⊥
wire_clear C3 h = cc
wire_clear C7 h =
    none_is (IsOffGrid no_scale) (pos 0 ∷ pos 0 ∷ pos 5200 ∷ pos 1200 ∷ []) ((λ off. off refl), ((λ off. off refl), ((λ off. off refl), ((λ off. off refl), tt)))) h
wire_clear C8 (inl great) =
    none_is IsTooGreat (pos 600 ∷ pos 300 ∷ pos 300 ∷ pos 2300 ∷ pos 300 ∷ [])
    (fine 600 (omega arith), (fine 300 (omega arith), (fine 300 (omega arith), (fine 2300 (omega arith), (fine 300 (omega arith), tt))))) great
wire_clear C8 (inr far) =
    none_is (IsFarOff no_scale) (pos 0 ∷ pos 0 ∷ pos 5200 ∷ pos 1200 ∷ []) (
      near 1 (pos 0) (omega (arith, ints)) (omega (arith, ints)),
      (
        near 1 (pos 0) (omega (arith, ints)) (omega (arith, ints)),
        (
          near 1 (pos 5200)
              (omega (arith, ints)) (omega (arith, ints)),
          (near 1 (pos 1200) (omega (arith, ints)) (omega (arith, ints)), tt),
        ),
      ),
    ) far
wire_clear C9 (inl none) = omega (arith, none)
wire_clear C9 (inr oblique) = cc
wire_clear C15 h = omega (arith, h)
wire_clear other h = h

pub wire : DrawsCif (codes "L NM; W 600 300 300 2300 300; E") (wire_box ∷ []) []
wire = record {
  drawing = with_wire.drawing;
  is_text = record {
    last = with_wire;
    draws =
        go blank_state with_metal [] [] (codes "L NM") (codes " W 600 300 300 2300 300; E") _ refl metal (metal_clear _) refl
        (go with_metal with_wire (codes "L NM;") (codes " ") (codes "W 600 300 300 2300 300") (codes " E") _ refl wire_spelled wire_clear (wire_box ∷ [], refl, refl)
        (DrawsFrom.end with_wire (codes "L NM; W 600 300 300 2300 300;") (codes " E") (codes " ") [] refl refl refl refl));
    drawing_is = refl;
  };
  boxes_are = refl;
  within = λ b among. elim among [
    | inl same ↦ subst IsBox same (record {
      across = record { first = omega (arith, ints); order = omega (arith, ints); last = omega (arith, ints) };
      upward = record { first = omega (arith, ints); order = omega (arith, ints); last = omega (arith, ints) };
    })
    | inr none ↦ absurd none
  ];
  labels_are = refl;
}

pub off_grid : CifRefusal (codes "L NM; B 800 800 300 400; E") C7 (Text 1 7)
off_grid =
    RefusedFrom.later blank_state with_metal [] (codes "L NM; B 800 800 300 400; E") C7 (Text 1 7)
    (record {
      here = record { gap = []; bytes = codes "L NM"; behind = codes " B 800 800 300 400; E"; is = refl; blanks = refl; command = _; spelled = metal };
      clear = metal_clear blank_state;
      leads = refl;
    })
    (RefusedFrom.here with_metal (codes "L NM;") (codes " B 800 800 300 400; E") (codes "L NM; ") C7
    (CommandFault.meets (record {
      gap = codes " ";
      bytes = codes "B 800 800 300 400";
      behind = codes " E";
      is = refl;
      blanks = refl;
      command = DrawsBox 800 800 (record { x = pos 300; y = pos 400 }) None;
      spelled = box 300 (codes "300") (record { some = λ e. cc; digits = refl; value = refl });
    }) C7 (inl (λ e. cc)) lower))
  where
    lower : (code : CifCode) → code_number code < 7 → MeetsCode code with_metal (DrawsBox 800 800 (record { x = pos 300; y = pos 400 }) None) → ⊥
    lower C3 lt h = cc
    lower C7 lt h = omega (arith, lt)
    lower C8 lt h = omega (arith, lt)
    lower C9 lt h = omega (arith, lt)
    lower other lt h = h

abbrev in_definition : CifState
in_definition = record {
  symbols = [];
  opening = Some (record { symbol = record { number = 1; boxes = []; chain = 0 }; scale = no_scale; outer = None });
  layer = None;
  drawing = record { strokes = []; labels = [] };
}

pub end_within : CifRefusal (codes "DS 1; E") C6 (Text 1 7)
end_within =
    RefusedFrom.later blank_state in_definition [] (codes "DS 1; E") C6 (Text 1 7)
    (record {
      here = record {
        gap = [];
        bytes = codes "DS 1";
        behind = codes " E";
        is = refl;
        blanks = refl;
        command = Opens 1 None;
        spelled = (
          tt,
          part (codes "DS") (codes " ") _ refl refl (λ e. cc)
              (part (codes "1") [] [] (record { some = λ e. cc; digits = refl; value = refl }) refl (λ e. cc) refl),
        );
      };
      clear = clear;
      leads = refl;
    })
    (RefusedFrom.here in_definition (codes "DS 1;") (codes " E") (codes "DS 1; ") C6 (CommandFault.end_within (codes " ") [] refl refl refl))
  where
    clear : (code : CifCode) → MeetsCode code blank_state (Opens 1 None) → ⊥
    clear C5 h = cc
    clear C6 h = cc
    clear C8 (inl great) = none_is IsTooGreat (pos 1 ∷ []) (fine 1 (omega arith), tt) great
    clear C8 (inr far) = far
    clear other h = h
