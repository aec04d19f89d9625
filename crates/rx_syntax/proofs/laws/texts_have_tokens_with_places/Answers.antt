use Rattle.rx_syntax.proofs.Following.{tokens_exist}
use Rattle.rx_syntax.proofs.OneAnswer.{one_list, version_begun}
use Rattle.rx_syntax.proofs.laws.texts_have_tokens_with_places.Goals as goal

pub returns : goal.returns
returns c = record {
  some = λ text.
      let b = version_begun text in
      let m = tokens_exist b.version text b.start in
      (m.0, record { version = b.version; start = b.start; is_of = b.is_of; are = m.1 });
  one = λ text some others x y. one_list text x y;
}
