-- A network has no more pads than nets.
use Rattle.std.proofs.Common.{◌≡◌, ◌≢◌, ℕ, suc, ◌<◌, ◌≤◌, ◌==◌, ◌||◌, Bool, true, false, List, [], ◌∷◌, map, length, All, refl, ap, subst, sym, arith}
use Rattle.std.specs.Cmp.{unsigned_Decides}
use Rattle.std.specs.List.{AllPairs, list_any}
use Rattle.std.proofs.lemmas.Bool.{eqb-true}
use Rattle.std.proofs.lemmas.List.{length-map}
use Rattle.std.proofs.lemmas.List.Elements.{All-head, All-tail, All-map}
use Rattle.std.proofs.lemmas.List.Kept.{AllPairs-cons}
use Rattle.std.proofs.lemmas.Map.Made.{IsDistinct-from_AllPairs}
use Rattle.std.proofs.lemmas.Map.Steps.{length-le_from_distinct_below}
use Rattle.switch_net.specs.Circuit.{Circuit}
use Rattle.switch_net.specs.Validity.{IsNetwork}
use Rattle.switch_net.specs.declared.network.Net.{Net}
use Rattle.switch_net.specs.declared.network.Pad.{Pad}

pairs_map : {X Y : Type 0} (R : X → X → Type 0) (f : Y → X) (ys : List Y) → AllPairs (λ y z. R (f y) (f z)) ys → AllPairs R (map f ys)
pairs_map R f [] h = λ i j d lt k. absurd (omega arith)
pairs_map R f (y ∷ ys) h =
    AllPairs-cons R (f y) (map f ys)
    (All-map (R (f y)) f ys (λ k d lt. h 0 (suc k) d (omega arith) (omega arith)))
    (pairs_map R f ys (λ i j d lt k. h (suc i) (suc j) d (omega arith) (omega arith)))

any_below : (xs : List ℕ) (n q : ℕ) → All (λ x. x < n) xs → list_any (λ x. q == x) xs ≡ true → q < n
any_below [] n q all h = absurd (cc)
any_below (x ∷ xs) n q all h = by (q == x) refl (λ k. any_below xs n q (All-tail (λ y. y < n) x xs all) k) h
  where
    by : (b : Bool) → (q == x) ≡ b → (list_any (λ y. q == y) xs ≡ true → q < n) → (b || list_any (λ y. q == y) xs) ≡ true → q < n
    by true e later k = subst (λ m. m < n) (sym (eqb-true q x e)) (All-head (λ y. y < n) x xs all)
    by false e later k = later k

same_net : (a b : Net) → a.0 ≡ b.0 → a ≡ b
same_net a b e = let net_of : ℕ → Net = λ n. record { 0 = n } in ap net_of e

pub few_pads : (circuit : Circuit) → IsNetwork circuit → length circuit.pads ≤ circuit.nets
few_pads circuit valid =
    let net_of : Pad → ℕ = λ pad. pad.net.0 in
    let apart = pairs_map (λ (a b : ℕ). a ≢ b) net_of circuit.pads (λ i j d lt k e. (valid.distinct i j d lt k).1 (same_net _ _ e)) in
    let below = All-map (λ n. n < circuit.nets) net_of circuit.pads valid.pads_below in
    let few = length-le_from_distinct_below (map net_of circuit.pads) circuit.nets
    (IsDistinct-from_AllPairs unsigned_Decides (map net_of circuit.pads) apart) (λ q h. any_below (map net_of circuit.pads) circuit.nets q below h) in
    let size = length-map circuit.pads net_of in
    omega (arith, few, size)
