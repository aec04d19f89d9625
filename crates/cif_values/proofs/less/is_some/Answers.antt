-- Against no digits.
use Rattle.std.proofs.Common.{Bool, ◌<◌, sym, subst}
use Rattle.std.specs.Bool.{Decides}
use Rattle.cif_values.proofs.Ordering.{less_decides, no_value}
use Rattle.cif_values.proofs.less.is_some.Goals as goal

pub returns : goal.returns
returns c = λ n a.
    let P : Bool → Type 0 = λ t. Decides t (0 < n) in
    subst P (sym c.is_lt.ensures) (less_decides 0 n c.order_of.result (c.order_of.ensures 0 n (no_value c.args.text.now c.args.digits.to) a))
