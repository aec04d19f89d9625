use Rattle.layout_network.proofs.OneReading.{one_reading}
use Rattle.layout_network.proofs.laws.layouts_have_one_reading.Goals as goal

-- src/laws.rt
pub returns : goal.returns
returns c =
    let law = c.drawings_are_networks_or_refused.ensures in
    one_reading c.texts_have_one_reading.ensures law.apart law.once law.network
