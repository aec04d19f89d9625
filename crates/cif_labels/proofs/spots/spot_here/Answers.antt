-- The words, one by one.
use Rattle.std.proofs.Common.{◌∙◌, ap, drop}
use Rattle.geom.specs.CifLabels.{label_words}
use Rattle.cif_labels.specs.Words.{put_word}
use Rattle.cif_labels.proofs.Behind.{no_more, reads_of}
use Rattle.cif_labels.proofs.spots.spot_here.Goals as goal

pub returns-clause-spot : goal.returns-clause-spot
returns-clause-spot c =
    let text = c.args.text.now in
    let a = c.word_here-second in
    let b = c.word_here-third in
    let d = c.word_here-fourth in
    let e = c.word_here in
    record {
      x = a.result.0.now;
      y = b.result.0.now;
      layer = d.result.0.now;
      more = e.result.0.now;
      others = label_words (drop e.result.1 text);
      are =
          a.ensures.words
          ∙ ap (put_word a.result.0.now) (b.ensures.words ∙ ap (put_word b.result.0.now) (d.ensures.words ∙ ap (put_word d.result.0.now) e.ensures.words));
      y_behind = λ n. no_more text a.result.1 b.result.0.now _ (a.ensures.last n) b.ensures.words;
      layer_behind = λ n. no_more text b.result.1 d.result.0.now _ (b.ensures.last n) d.ensures.words;
      x_is = reads_of a.result.0.now c.written_number.result c.written_number.ensures.number c.written_number.ensures.none;
      y_is = reads_of b.result.0.now c.written_number-2.result c.written_number-2.ensures.number c.written_number-2.ensures.none;
      named_is = c.is_last_name.ensures;
      layer_is = c.last_layer.ensures;
    }
