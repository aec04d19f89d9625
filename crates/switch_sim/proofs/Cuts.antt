-- The vectors that the ends of a trace cut from its bits.
use Rattle.std.proofs.Common.{◌≡◌, ℕ, zero, suc, ◌+◌, ◌-◌, ◌<◌, ◌≤◌, Bool, List, [], ◌∷◌, ◌++◌, length, get_or, take, drop, refl, sym, ap, ◌∙◌, subst, arith, length-append, length-drop}
use Rattle.std.proofs.lemmas.List.{take_all, take-append-le, drop-append-le, drop-drop}
use Rattle.std.proofs.Math.ListN.{drop_of_length-le}
use Rattle.switch_sim.specs.TraceCuts.{cut, AreEnds}
use Rattle.switch_sim.specs.TraceReading.{start_from}

pub length_cut : (from : ℕ) (ends : List ℕ) (bits : List Bool) → length (cut from ends bits) ≡ length ends
length_cut from [] bits = refl
length_cut from (end ∷ ends) bits = ap suc (length_cut end ends (drop (end - from) bits))

-- the start of a vector is the end of the one before
pub start_is : (from : ℕ) (ends : List ℕ) (at : ℕ) → at < length ends → start_from from ends (suc at) ≡ get_or ends at 0
start_is from [] at lt = absurd (omega arith)
start_is from (end ∷ ends) zero lt = refl
start_is from (end ∷ ends) (suc at) lt = start_is end ends at (omega arith)

-- the places of one vector
pub record Within (from start end most : ℕ) : Type 0 where
  pub behind : from ≤ start
  pub ordered : start ≤ end
  pub within : end ≤ most

pub within : (from : ℕ) (ends : List ℕ) (bits : List Bool) (at : ℕ) → AreEnds from ends bits → at < length ends
    → Within from (start_from from ends at) (get_or ends at 0) (from + length bits)
within from [] bits at h lt = absurd (omega arith)
within from (end ∷ ends) bits zero h lt = record { behind = omega arith; ordered = h.0; within = h.1 }
within from (end ∷ ends) bits (suc at) h lt =
    let later = within end ends (drop (end - from) bits) at h.2 (omega arith) in
    let size = length-drop (end - from) bits in
    let a = h.0 in let b = h.1 in
    record { behind = omega arith; ordered = later.ordered; within = omega arith }

pub cut_at : (from : ℕ) (ends : List ℕ) (bits : List Bool) (at : ℕ) → AreEnds from ends bits → at < length ends
    → get_or (cut from ends bits) at [] ≡ take (get_or ends at 0 - start_from from ends at) (drop (start_from from ends at - from) bits)
cut_at from [] bits at h lt = absurd (omega arith)
cut_at from (end ∷ ends) bits zero h lt = let none : from - from ≡ 0 = omega arith in rw none refl
cut_at from (end ∷ ends) bits (suc at) h lt =
    let later = within end ends (drop (end - from) bits) at h.2 (omega arith) in
    let a = h.0 in
    let sum : (end - from) + (start_from end ends at - end) ≡ start_from end ends at - from = omega arith in
    cut_at end ends (drop (end - from) bits) at h.2 (omega arith)
    ∙ ap (take (get_or ends at 0 - start_from end ends at)) (drop-drop (start_from end ends at - end) (end - from) bits ∙ ap (λ n. drop n bits) sum)

-- one more vector
pub ends_more : (from : ℕ) (ends : List ℕ) (bits vector : List Bool) (end : ℕ) → end ≡ from + length bits + length vector → AreEnds from ends bits
    → AreEnds from (ends ++ end ∷ []) (bits ++ vector)
ends_more from [] bits vector end e h =
    let none : length bits ≡ 0 = ap length h in
    let size = length-append bits vector in
    (omega arith, omega arith, drop_of_length-le (bits ++ vector) (omega arith))
ends_more from (first ∷ ends) bits vector end e h =
    let a = h.0 in let b = h.1 in
    let size = length-append bits vector in
    let cut : first - from ≤ length bits = omega arith in
    let rest = length-drop (first - from) bits in (
      a,
      omega arith,
      subst (AreEnds first (ends ++ end ∷ [])) (sym (drop-append-le (first - from) bits vector cut))
          (ends_more first ends (drop (first - from) bits) vector end (omega arith) h.2),
    )

pub cut_more : (from : ℕ) (ends : List ℕ) (bits vector : List Bool) (end : ℕ) → end ≡ from + length bits + length vector → AreEnds from ends bits
    → cut from (ends ++ end ∷ []) (bits ++ vector) ≡ cut from ends bits ++ vector ∷ []
cut_more from [] bits vector end e h =
    let none : length bits ≡ 0 = ap length h in
    rw h (ap (λ l. l ∷ []) (take_all (end - from) vector (omega arith)))
cut_more from (first ∷ ends) bits vector end e h =
    let a = h.0 in let b = h.1 in
    let cut' : first - from ≤ length bits = omega arith in
    let rest = length-drop (first - from) bits in
    rw (take-append-le (first - from) bits vector cut', drop-append-le (first - from) bits vector cut')
    (ap (λ l. take (first - from) bits ∷ l) (cut_more first ends (drop (first - from) bits) vector end (omega arith) h.2))
