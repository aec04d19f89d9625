use Rattle.std.proofs.Common.{◌≡◌, subst}
use Rattle.rx_text.specs.Role.{NamedRole}
use Rattle.switch_net.specs.Validity.{role_number}
use Rattle.switch_net.proofs.NameKeys.{is_key}
use Rattle.switch_net.proofs.keys.name_key.Goals as goal

pub returns-clause-equal : goal.returns-clause-equal
returns-clause-equal c =
    is_key _ c.args.name.now
    (subst (λ (name : NamedRole). c.role_number.result ≡ role_number name.role) c.name.view_is c.role_number.ensures)
    c.name_bytes.ensures
