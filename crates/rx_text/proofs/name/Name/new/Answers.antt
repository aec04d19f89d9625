-- The bytes that were copied, and the zeros behind them, fill a name.
use Rattle.std.proofs.Common.{rules, ◌≡◌, true}
use Rattle.rx_text.specs.Name.{is_name}
use Rattle.rx_text.proofs.Fills.{fills}
use Rattle.rx_text.proofs.name.Name.new.Goals as goal

pub invariant_of-result : goal.invariant_of-result
invariant_of-result c =
    let good : is_name c.args.bytes.now ≡ true = search rules in
    rw c.copy_from_slice.ensures.after (fills c.args.bytes.now good)
