-- The text of the chip of an array is a file of its specification.
use Rattle.std.proofs.Common.{◌≡◌, ◌↔◌, ℕ, ◌≤◌, true, ℤ, List, length, ◌*◌, All, Result, Ok, Err, ap, sym, ◌∙◌, subst}
use Rattle.std.specs.Prelude.{IfOk}
use Rattle.geom.specs.declared.layer.Layer.{Layer}
use Rattle.geom.specs.declared.chip.Label.{Label}
use Rattle.geom.specs.Squares.{Covered}
use Rattle.geom.specs.Chips.{ChipShape, ChipCovers}
use Rattle.geom.specs.Rows.{Among}
use Rattle.cif_write.specs.ChipText.{chip_text}
use Rattle.cif_write.specs.WrittenChips.{ChipTextsDraw, IsWritable, IsWritableLabel, chip_boxes}
use Rattle.rx_text.specs.Name.{is_name}
use Rattle.rx_lang.specs.Specification.{Specification}
use Rattle.rx_lang.specs.Positions.{HasTerms, occurrence_symbols}
use Rattle.micro_tiles.specs.Shapes.{TilesKeepInside}
use Rattle.rx_lang.specs.Tables.{Tables, specification}
use Rattle.position_nfa.specs.Agreement.{IsAutomatonOf}
use Rattle.position_nfa.specs.Automaton.{Automaton}
use Rattle.nmos_model.specs.Networks.{StandsFor}
use Rattle.nmos_model.specs.Alike.{CoverAlike, StandAlike}
use Rattle.tile_rules.specs.KeptRules.{KeepsRules, TilesKeepRules}
use Rattle.stick_grid.specs.Plans.{Plan, IsPlan, Covers}
use Rattle.pla_plan.specs.Planes.{PlaneTables, planes_plan}
use Rattle.pla_plan.specs.ArrayOf.{array_of}
use Rattle.pla_plan.specs.RowChips.{IsRowChip}
use Rattle.pla_plan.specs.ArrayNetworks.{DrawsRecogniser, HasSizes, array_labels}
use Rattle.pla_plan.specs.Filled.{FillsTiles}
use Rattle.rxc_program.proofs.TileBoxes.{tiles_box, tiles_box_of}
use Rattle.pla_plan.specs.Fits.{IsArray}
use Rattle.position_nfa.specs.Registers.{array_counts, array_pads}
use Rattle.rxc_program.proofs.ChipTexts.{chip_begins}
use Rattle.rxc_program.proofs.ArrayLabels.{array_pads_named, labels_written}
use Rattle.rxc_program.proofs.PlanSquares.{plan_lies}
use Rattle.rxc_program.proofs.WrittenRows.{row_chip_written}
use Rattle.rxc_program.proofs.WrittenBoxes.{written_boxes_cover}
use Rattle.rxc_program.specs.Files.{IsFileOf, pla_file}

-- an automaton has as many positions as its specification has occurrences
pub few_positions : (spec : Specification) (nfa : Automaton) → IsAutomatonOf spec nfa → length (occurrence_symbols spec) ≤ 256 → length nfa.symbols ≤ 256
few_positions spec nfa automaton few = subst (λ (symbols : List ℕ). length symbols ≤ 256) (sym automaton.symbols) few

module _ (nfa : Automaton) (tables : Tables)
    (lines : All (λ name. is_name name ≡ true) tables.lines) (outputs : All (λ name. is_name name ≡ true) tables.outputs) (texts : ChipTextsDraw)
    (array : IsArray (array_of nfa tables)) (plan_is : IsPlan (planes_plan (array_of nfa tables))) (inside : TilesKeepInside)
    (sizes : HasSizes (specification tables) (array_of nfa tables))
    (has_terms : HasTerms (specification tables) (length (array_of nfa tables).terms))
    (shows : DrawsRecogniser (specification tables) (Covers (planes_plan (array_of nfa tables))) (array_labels nfa tables))
    (fills : FillsTiles (Covers (planes_plan (array_of nfa tables))) (array_of nfa tables).cols (array_of nfa tables).rows) where
  abbrev plan : Plan
  plan = planes_plan (array_of nfa tables)

  written : (label : Label) → Among (array_labels nfa tables) label → IsWritableLabel label
  written = labels_written (array_of nfa tables).at (array_of nfa tables).cols array.part_fits.columns array.few_cols (array_pads (array_counts nfa tables) tables)
      (array_pads_named nfa tables lines outputs)

  module _ (chip : ChipShape) (squares : (layer : Layer) (x y : ℤ) → ChipCovers chip layer x y ↔ Covers plan layer x y)
      (labels : chip.labels ≡ array_labels nfa tables) (writable : IsWritable chip)
      (alike : StandAlike (Covers plan) (Covered (chip_boxes chip))) (rules : TilesKeepRules (Covered (chip_boxes chip))) where
    cover_alike : CoverAlike (Covers plan) (Covered (chip_boxes chip))
    cover_alike layer x y = (
      λ h. (written_boxes_cover chip layer x y).0 ((squares layer x y).1 h),
      λ h. (squares layer x y).0 ((written_boxes_cover chip layer x y).1 h),
    )

    stands : StandsFor (Covered (chip_boxes chip)) chip.labels shows.circuit
    stands = alike cover_alike chip.labels shows.circuit (subst (λ ls. StandsFor (Covers plan) ls shows.circuit) (sym labels) shows.stands)

    keeps : KeepsRules (Covered (chip_boxes chip)) chip.labels
    keeps = rules plan chip.labels plan_is (λ layer x y. ((cover_alike layer x y).1, (cover_alike layer x y).0))

    array_file : IsFileOf pla_file (specification tables) (chip_text chip)
    array_file = record {
      circuit = shows.circuit;
      stands = record {
        begins = chip_begins chip;
        draws = record { boxes = chip_boxes chip; labels = chip.labels; draws = texts.drawn chip writable; stands = stands };
      };
      compiled = record { pads = shows.recogniser.pads; recognises = shows.recogniser.recognises; sure = shows.recogniser.sure };
      sides = record {
        terms = length (array_of nfa tables).terms;
        has_terms = has_terms;
        drawn = record {
          boxes = chip_boxes chip;
          labels = chip.labels;
          draws = texts.drawn chip writable;
          box = tiles_box (array_of nfa tables).cols (array_of nfa tables).rows;
          box_of = tiles_box_of (Covers plan) (chip_boxes chip) (array_of nfa tables).cols (array_of nfa tables).rows cover_alike fills;
          width_is = ap (λ n. 14 * n) sizes.cols;
          height_is = ap (λ n. 14 * n) sizes.rows;
        };
      };
      rules = record { boxes = chip_boxes chip; labels = chip.labels; draws = texts.drawn chip writable; keeps = keeps };
    }

  -- the text of the chip, if it was made, is a file of the specification
  pub array_files : (planes : PlaneTables) (labels : List Label) → planes ≡ array_of nfa tables → labels ≡ array_labels nfa tables
      → ((chip : ChipShape) → StandAlike (Covers (planes_plan planes)) (Covered (chip_boxes chip)))
      → ((chip : ChipShape) → TilesKeepRules (Covered (chip_boxes chip)))
      → {E : Type 0} (result : Result ChipShape E)
      → IfOk result (λ chip. (layer : Layer) (x y : ℤ) → ChipCovers chip layer x y ↔ Covers (planes_plan planes) layer x y)
      → IfOk result (λ chip. chip.labels ≡ labels)
      → IfOk result (λ chip. IsRowChip (planes_plan planes) chip)
      → IfOk result (λ chip. IsFileOf pla_file (specification tables) (chip_text chip))
  array_files planes labels is are alike rules (Err refused) squares same rows = tt
  array_files planes labels is are alike rules (Ok chip) squares same rows =
      let here : chip.labels ≡ array_labels nfa tables = same ∙ are in
      let cover = subst (λ p. (layer : Layer) (x y : ℤ) → ChipCovers chip layer x y ↔ Covers (planes_plan p) layer x y) is squares in
      let writable =
      row_chip_written plan chip (subst (λ p. IsRowChip (planes_plan p) chip) is rows) cover (plan_lies inside plan plan_is) array.few_rows array.few_cols
      (subst (λ ls. (label : Label) → Among ls label → IsWritableLabel label) (sym here) written) in
      array_file chip cover here writable
      (subst (λ p. StandAlike (Covers (planes_plan p)) (Covered (chip_boxes chip))) is (alike chip)) (rules chip)
