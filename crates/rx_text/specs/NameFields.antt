-- The fields of a name follow from its bytes.
use Rattle.std.proofs.Common.{◌≡◌, ◌-◌, ◌≤◌, ◌++◌, take, length, replicate, refl, arith}
use Rattle.std.proofs.lemmas.List.{length-take-le}
use Rattle.rx_text.specs.Name.{FillsName}
use Rattle.rx_text.specs.declared.name.Name.TheInside.{Inside}

pub fields_back : (n : Inside) → FillsName n.count n.bytes
    → record { bytes = take n.count n.bytes ++ replicate (31 - length (take n.count n.bytes)) 0; count = length (take n.count n.bytes) } ≡ n
fields_back n h =
    let within : n.count ≤ length n.bytes = omega arith in
    let e : length (take n.count n.bytes) ≡ n.count = length-take-le n.count n.bytes within in
    rw (e, ← h.filled) refl
