-- An inverter with another gate is another network.
use Rattle.std.proofs.Common.{◌≡◌, ℕ, List, [], ◌∷◌, map, get_or, refl, ap, subst, inl, inr, arith}
use Rattle.std.proofs.lemmas.List.Sorted.{Contains-permutation}
use Rattle.switch_net.proofs.Members.{In, contains_in, in_contains}
use Rattle.switch_net.specs.Circuit.{renamed_pad, renamed_device, ascending}
use Rattle.switch_net.specs.Examples.{net_at, pad_at, pads, pass, load, inverter}
use Rattle.switch_net.specs.Recognition.{plain_pad}
use Rattle.rx_text.specs.declared.pad_name.Role.TheVariants.{Vdd}
use Rattle.switch_net.specs.declared.network.Pad.{Pad}
use Rattle.switch_net.specs.SameNetworks.{OtherGateIsNotSame}

-- a renaming that keeps these pads keeps their nets
kept : (rename : ℕ → ℕ) → map (renamed_pad rename) pads ≡ pads → (rename 1 ≡ 1) × (rename 5 ≡ 5) × (rename 6 ≡ 6)
kept rename e =
    let net_of : ℕ → List Pad → ℕ = λ k all. (get_or all k (pad_at (plain_pad Vdd) 0)).net.0 in
    (ap (net_of 1) e, ap (net_of 5) e, ap (net_of 6) e)

-- the pull-down of x is none of the other devices
unlike : In (pass 5 1 6) (pass 4 1 6 ∷ load 6 ∷ []) → ⊥
unlike (inl e) =
    let gates : net_at 4 ≡ net_at 5 = cc in
    let numbers : (net_at 4).0 ≡ (net_at 5).0 = ap (λ n. n.0) gates in
    omega arith
unlike (inr (inl e)) = cc
unlike (inr (inr h)) = h

pub other_gate : OtherGateIsNotSame
other_gate s =
    let nets = kept s.rename s.pads in
    let placed : ascending (renamed_device s.rename (pass 5 6 1)) ≡ pass 5 1 6 = rw (nets.0, nets.1, nets.2) refl in
    let carried = map (λ device. ascending (renamed_device s.rename device)) inverter.devices in
    let others = map ascending (pass 4 6 1 ∷ load 6 ∷ []) in
    let pull_down = ascending (renamed_device s.rename (pass 5 6 1)) in
    let there = Contains-permutation carried others pull_down s.devices (in_contains pull_down carried (inl refl)) in
    unlike (subst (λ device. In device others) placed (contains_in pull_down others there))
