use Rattle.std.proofs.Common.{◌≡◌, ℕ, zero, suc, Bool, List, [], ◌∷◌, drop, refl, add-one}
use Rattle.switch_net.specs.Clock.{later_bits}
use Rattle.switch_sim.proofs.drive.next_line.Goals as goal

later_drop : (n : ℕ) (bits : List Bool) → drop (suc n) bits ≡ later_bits (drop n bits)
later_drop zero [] = refl
later_drop zero (b ∷ bits) = refl
later_drop (suc n) [] = refl
later_drop (suc n) (b ∷ bits) = later_drop n bits

pub returns-in-Input-clause-lines : goal.returns-in-Input-clause-lines
returns-in-Input-clause-lines c = λ bits. rw (c.in-Input.is, add-one) (later_drop c.args.line bits)
