-- What one more pad fixes.
use Rattle.std.proofs.Common.{◌≡◌, ℕ, ◌<◌, ◌+◌, ◌==◌, ◌⊎◌, inl, inr, Bool, false, cond, List, [], ◌∷◌, ◌++◌, Option, None, length, get_or, take, refl, sym, ap, ◌∙◌, subst, arith, eq-eqb, get_or-set_same, get_or-set_other, get_or-take}
use Rattle.std.proofs.Math.ListN.{set}
use Rattle.std.proofs.lemmas.Bool.{cases_eq, ne_eqb}
use Rattle.std.proofs.lemmas.List.{take_more}
use Rattle.std.proofs.lemmas.List.{length-take-le, get_or_default}
use Rattle.std.proofs.lemmas.List.Elements.{recursion_from_All}
use Rattle.std.specs.List.{AllByRecursion, AllPairs}
use Rattle.switch_net.specs.Validity.{AreDistinct}
use Rattle.switch_net.specs.Settling.{pad_level, fixed_level}
use Rattle.switch_net.specs.declared.network.Pad.{Pad}
use Rattle.switch_sim.specs.Nets.{fixed_at}

-- the level by one more pad, whose net none of those before has
more_pad : (ps : List Pad) (p : Pad) (drives : List Bool) (net : ℕ) → length ps < length drives → AllByRecursion (λ q. q.net.0 ≡ p.net.0 → ⊥) ps
    → fixed_level (ps ++ p ∷ []) drives net
    ≡ cond (p.net.0 == net) (pad_level p.name.role (get_or drives (length ps) false)) (fixed_level ps drives net)
more_pad ps p [] net lt apart = absurd (omega arith)
more_pad [] p (d ∷ ds) net lt apart = refl
more_pad (q ∷ ps) p (d ∷ ds) net lt apart =
    ap (λ x. cond (q.net.0 == net) (pad_level q.name.role d) x) (more_pad ps p ds net (omega arith) apart.1) ∙ exchanged (cases_eq q.net.0 net)
  where
    exchanged : (q.net.0 ≡ net) ⊎ (q.net.0 ≡ net → ⊥)
        → cond (q.net.0 == net) (pad_level q.name.role d) (cond (p.net.0 == net) (pad_level p.name.role (get_or ds (length ps) false)) (fixed_level ps ds net))
        ≡ cond (p.net.0 == net) (pad_level p.name.role (get_or ds (length ps) false)) (cond (q.net.0 == net) (pad_level q.name.role d) (fixed_level ps ds net))
    exchanged (inl e) = rw (eq-eqb q.net.0 net e, ne_eqb p.net.0 net (λ f. apart.0 (e ∙ sym f))) refl
    exchanged (inr n) = rw (ne_eqb q.net.0 net n) refl

-- the pads before one have other nets
apart : (pads : List Pad) (i : ℕ) (p : Pad) → AllPairs AreDistinct pads → i < length pads → p ≡ get_or pads i p
    → AllByRecursion (λ q. q.net.0 ≡ p.net.0 → ⊥) (take i pads)
apart pads i p distinct lt is = recursion_from_All (λ q. q.net.0 ≡ p.net.0 → ⊥) (take i pads) (λ k d below e.
    let size : length (take i pads) ≡ i = length-take-le i pads (omega arith) in
    let before : k < i = omega arith in
    let at : get_or (take i pads) k d ≡ get_or pads k d = get_or-take i pads k d before in
    let same : (get_or pads k d).net.0 ≡ (get_or pads i d).net.0 =
    ap (λ q. q.net.0) (sym at) ∙ e ∙ ap (λ q. q.net.0) (is ∙ get_or_default pads i p d lt) in
    (distinct k i d before lt).1 (ap (λ (n : ℕ). record { 0 = n }) same))

-- what nets are fixed to by one more pad
pub fixed_more : (fixed : List (Option Bool)) (pads : List Pad) (drives : List Bool) (i : ℕ) (p : Pad) → i < length pads → length drives ≡ length pads
    → AllPairs AreDistinct pads → p ≡ get_or pads i p → p.net.0 < length fixed
    → ((net : ℕ) → fixed_at fixed net ≡ fixed_level (take i pads) drives net)
    → (net : ℕ) → fixed_at (set fixed p.net.0 (pad_level p.name.role (get_or drives i false))) net ≡ fixed_level (take (i + 1) pads) drives net
fixed_more fixed pads drives i p lt driven distinct is within before net =
    let size : length (take i pads) ≡ i = length-take-le i pads (omega arith) in
    let longer : take (i + 1) pads ≡ take i pads ++ p ∷ [] = take_more pads i p lt ∙ ap (λ q. take i pads ++ q ∷ []) (sym is) in
    let level = more_pad (take i pads) p drives net (omega arith) (apart pads i p distinct lt is) in
    by (cases_eq p.net.0 net)
    (ap (λ ps. fixed_level ps drives net) longer ∙ level
    ∙ ap (λ k. cond (p.net.0 == net) (pad_level p.name.role (get_or drives k false)) (fixed_level (take i pads) drives net)) size)
  where
    by : (p.net.0 ≡ net) ⊎ (p.net.0 ≡ net → ⊥)
        → fixed_level (take (i + 1) pads) drives net ≡ cond (p.net.0 == net) (pad_level p.name.role (get_or drives i false)) (fixed_level (take i pads) drives net)
        → fixed_at (set fixed p.net.0 (pad_level p.name.role (get_or drives i false))) net ≡ fixed_level (take (i + 1) pads) drives net
    by (inl e) level =
        subst (λ n. fixed_at (set fixed p.net.0 (pad_level p.name.role (get_or drives i false))) n ≡ pad_level p.name.role (get_or drives i false)) e
        (get_or-set_same fixed p.net.0 _ None within)
        ∙ sym (level ∙ rw (eq-eqb p.net.0 net e) refl)
    by (inr n) level =
        get_or-set_other fixed p.net.0 net _ None (λ e. n (sym e)) ∙ before net ∙ sym (level ∙ rw (ne_eqb p.net.0 net n) refl)
