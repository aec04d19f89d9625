-- Devices of channels, one by one.
use Rattle.std.proofs.Common.{◌≡◌, ℕ, suc, ◌<◌, Bool, true, false, pos, List, length, get_or, take, drop, IfSome, Option, Some, None, refl, sym, ap, subst, ◌∙◌}
use Rattle.std.proofs.Math.Seq.{split_at}
use Rattle.switch_net.specs.declared.network.Device.{Device}
use Rattle.nmos_model.specs.declared.channel.Channel.{Channel}
use Rattle.nmos_model.specs.declared.ends.Ends.{Ends}
use Rattle.nmos_model.specs.Sites.{HasEnds}
use Rattle.nmos_model.specs.Pads.{NetAt}
use Rattle.nmos_model.specs.Devices.{AreDevices, IsDeviceOf, IsNoLoad, OnNets, device_on}
use Rattle.nmos_model.specs.Unsound.{IsFirstOddLoad}
use Rattle.nmos_model.proofs.Matching.{match_of}

-- what stands for a channel behind the last one
abbrev pub blank : Channel
blank = record { x1 = pos 0; y1 = pos 0; x2 = pos 0; y2 = pos 0; upright = false; depletion = false }

module _ (net : NetAt) (vdd : ℕ) where
  pub is_device_of : (c : Channel) (nets : OnNets net c) (found : Option Device)
      → found ≡ device_on c.depletion vdd nets.gate nets.first nets.second → IfSome found (IsDeviceOf net vdd c)
  is_device_of c nets None e = tt
  is_device_of c nets (Some device) e = record { nets = nets; is = sym e }

  abbrev pub ends_on : (c : Channel) (ends : Ends) → HasEnds net c ends → OnNets net c
  ends_on c ends h = record { gate = ends.gate; first = ends.first; second = ends.second; gate_is = h.gate; first_is = h.first; second_is = h.second }

  -- a channel that is no device is a depletion device and no load
  pub odd_of : (c : Channel) (ends : Ends) → HasEnds net c ends → None ≡ device_on c.depletion vdd ends.gate ends.first ends.second
      → IsNoLoad net vdd c
  odd_of c ends h e = record { depletion = is_depletion c.depletion e; none = none }
    where
      is_depletion : (b : Bool) → None ≡ device_on b vdd ends.gate ends.first ends.second → b ≡ true
      is_depletion true k = refl
      is_depletion false k = absurd (cc)

      none : (nets : OnNets net c) → device_on true vdd nets.gate nets.first nets.second ≡ None
      none nets =
          let g : ends.gate ≡ nets.gate = cc (h.gate, nets.gate_is) in
          let f : ends.first ≡ nets.first = cc (h.first, nets.first_is) in
          let s : ends.second ≡ nets.second = cc (h.second, nets.second_is) in
          let d : c.depletion ≡ true = is_depletion c.depletion e in
          let P : Bool → ℕ → ℕ → ℕ → Type 0 = λ b x y z. device_on b vdd x y z ≡ None in
          subst (λ b. P b nets.gate nets.first nets.second) d
          (subst (λ x. P c.depletion x nets.first nets.second) g
          (subst (λ y. P c.depletion ends.gate y nets.second) f (subst (λ z. P c.depletion ends.gate ends.first z) s (sym e))))

  -- a channel that is a device is no load alone
  not_odd : (c : Channel) (device : Device) → IsDeviceOf net vdd c device → IsNoLoad net vdd c → ⊥
  not_odd c device of odd =
      let nets = of.nets in
      let some : device_on true vdd nets.gate nets.first nets.second ≡ Some device =
      sym (ap (λ (b : Bool). device_on b vdd nets.gate nets.first nets.second) odd.depletion) ∙ of.is in
      let none = odd.none nets in
      absurd (cc)

  pub first_odd_load : (channels : List Channel) (devices : List Device) (i : ℕ) (d : Channel) → i < length channels
      → AreDevices net vdd (take i channels) devices → IsNoLoad net vdd (get_or channels i d)
      → IsFirstOddLoad net vdd channels (get_or channels i d).x1 (get_or channels i d).y1
  first_odd_load channels devices i d lt are odd = record {
    earlier = take i channels;
    channel = get_or channels i d;
    later = drop (suc i) channels;
    whole = split_at channels i d lt;
    odd = odd;
    first = λ one w none. let own = match_of (IsDeviceOf net vdd) (take i channels) devices one are w in not_odd one own.0 own.2 none;
    across = refl;
    upward = refl;
  }
