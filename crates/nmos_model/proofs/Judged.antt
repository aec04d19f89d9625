-- A drawing stands for a network or is refused, never both, and it is refused once.
use Rattle.std.proofs.Common.{◌≡◌, ℤ, List, [], ◌∷◌, ◌++◌, refl, sym, ap, ◌∙◌}
use Rattle.rx_text.specs.declared.place.Place.{Place}
use Rattle.rx_text.specs.declared.place.Place.TheVariants.{Square}
use Rattle.geom.specs.declared.chip.Label.{Label}
use Rattle.geom.specs.Conduction.{Drawing}
use Rattle.switch_net.specs.Circuit.{Circuit}
use Rattle.nmos_model.specs.declared.refusal.ExtractCode.{ExtractCode}
use Rattle.nmos_model.specs.Pads.{AreNamed, IsFirstLabel}
use Rattle.nmos_model.specs.Devices.{IsDeviceOf}
use Rattle.nmos_model.specs.Networks.{StandsFor}
use Rattle.nmos_model.specs.Refusals.{IsOdd, HasOddTerminals, HasChannels, HasNames, IsFirstRegion, IsOddLoad, IsRefused, NeverBoth, RefusedOnce}
use Rattle.nmos_model.specs.Refusals.IsRefused.{odd_channel, odd_terminals, label_on_nothing, labels_disagree, missing_pad, odd_load}
use Rattle.nmos_model.proofs.Beginnings.{one_place}
use Rattle.nmos_model.proofs.Labels.{has_names}
use Rattle.nmos_model.proofs.ChannelLists.{channels_even}
use Rattle.nmos_model.proofs.Circuits.{supply_net}
use Rattle.nmos_model.proofs.Matching.{match_of}
use Rattle.nmos_model.proofs.Loads.{listed, odd_by_squares}

-- ---- never both

module _ (Drawn : Drawing) (labels : List Label) (circuit : Circuit) (named : AreNamed labels) (s : StandsFor Drawn labels circuit) where
  channels_are : HasChannels Drawn
  channels_are = channels_even Drawn s.channels s.regions

  names_are : HasNames Drawn labels
  names_are = has_names Drawn circuit.nets s.net s.nets labels s.sound

  no_odd_load : (x y : ℤ) → IsOddLoad Drawn labels x y → ⊥
  no_odd_load x y o =
      let c = o.channel in
      let vdd = s.connects.vdd in
      let among = listed Drawn s.channels s.regions c o.region in
      let found = match_of (IsDeviceOf s.net vdd) s.channels circuit.devices c s.connects.devices among in
      let supply = supply_net s.net labels circuit.pads vdd s.sound s.connects.pads s.connects.supply in
      let odd = odd_by_squares Drawn circuit.nets s.net s.nets labels named s.sound s.channels s.regions vdd supply c o.region o.depletion o.odd in
      let none = odd.none found.2.nets in
      let some = found.2.is in
      let depletion = o.depletion in
      absurd (cc)

  pub not_refused : (code : ExtractCode) (place : Place) → IsRefused Drawn labels code place → ⊥
  not_refused _ _ (odd_channel x y f) = channels_are.even x y f.begins f.holds
  not_refused _ _ (odd_terminals x y even f) = channels_are.ends x y f.begins f.holds
  not_refused _ _ (label_on_nothing x y h f) = names_are.stand f.earlier f.later f.label f.whole f.holds
  not_refused _ _ (labels_disagree x y h stand f) = names_are.agree f.earlier f.later f.label f.whole f.holds
  not_refused _ _ (missing_pad h n lacks) = lacks.2 (s.sound.needed lacks.0 lacks.1)
  not_refused _ _ (odd_load x y h n has f) = no_odd_load x y f.holds

pub never_both : (Drawn : Drawing) → NeverBoth Drawn
never_both Drawn labels circuit code place named s r = not_refused Drawn labels circuit named s code place r

-- ---- once

-- two cuts of a list are one, or one lies in the front of the other
data Cuts {X : Type 0} (a : List X) (x : X) (b : List X) (y : X) : Type 0 where
  same : a ≡ b → x ≡ y → Cuts a x b y
  shorter : (c : List X) → b ≡ a ++ x ∷ c → Cuts a x b y
  longer : (c : List X) → a ≡ b ++ y ∷ c → Cuts a x b y

cuts : {X : Type 0} (a r b s : List X) (x y : X) → a ++ x ∷ r ≡ b ++ y ∷ s → Cuts a x b y
cuts [] r [] s x y e = same refl (cc)
cuts [] r (z ∷ b) s x y e = shorter b (let h : x ≡ z = cc in rw h refl)
cuts (z ∷ a) r [] s x y e = longer a (let h : z ≡ y = cc in rw h refl)
cuts {X} (z ∷ a) r (w ∷ b) s x y e = further (cuts a r b s x y (cc)) (cc)
  where
    further : Cuts a x b y → z ≡ w → Cuts (z ∷ a) x (w ∷ b) y
    further (same p q) h = same (rw (h, p) refl) q
    further (shorter c p) h = shorter c (rw (h, p) refl)
    further (longer c p) h = longer c (rw (h, p) refl)

one_label : (P : List Label → Label → Type 0) (labels : List Label) (x y u v : ℤ) → IsFirstLabel P labels x y → IsFirstLabel P labels u v → (x ≡ u) × (y ≡ v)
one_label P labels x y u v f g = go (cuts f.earlier f.later g.earlier g.later f.label g.label (sym f.whole ∙ g.whole))
  where
    go : Cuts f.earlier f.label g.earlier g.label → (x ≡ u) × (y ≡ v)
    go (same p q) = (sym f.across ∙ ap (λ l. l.x) q ∙ g.across, sym f.upward ∙ ap (λ l. l.y) q ∙ g.upward)
    go (shorter c p) = absurd (g.first f.earlier c f.label p f.holds)
    go (longer c p) = absurd (f.first g.earlier c g.label p g.holds)

one_region : (Drawn : Drawing) (P : ℤ → ℤ → Type 0) (x y u v : ℤ) → IsFirstRegion Drawn P x y → IsFirstRegion Drawn P u v → (x ≡ u) × (y ≡ v)
one_region Drawn P x y u v f g = one_place x y u v (f.first u v g.begins g.holds) (g.first x y f.begins f.holds)

one_square : (x y u v : ℤ) → (x ≡ u) × (y ≡ v) → Square x y ≡ Square u v
one_square x y u v e = rw (e.0, e.1) refl

module _ (Drawn : Drawing) (labels : List Label) where
  pub once : (code other : ExtractCode) (place there : Place) → IsRefused Drawn labels code place → IsRefused Drawn labels other there → (code ≡ other) × (place ≡ there)
  once _ _ _ _ (odd_channel x y f) (odd_channel u v g) = (refl, one_square x y u v (one_region Drawn (IsOdd Drawn) x y u v f g))
  once _ _ _ _ (odd_channel x y f) (odd_terminals u v even g) = absurd (even x y f.begins f.holds)
  once _ _ _ _ (odd_channel x y f) (label_on_nothing u v h g) = absurd (h.even x y f.begins f.holds)
  once _ _ _ _ (odd_channel x y f) (labels_disagree u v h stand g) = absurd (h.even x y f.begins f.holds)
  once _ _ _ _ (odd_channel x y f) (missing_pad h n lacks) = absurd (h.even x y f.begins f.holds)
  once _ _ _ _ (odd_channel x y f) (odd_load u v h n has g) = absurd (h.even x y f.begins f.holds)
  once _ _ _ _ (odd_terminals x y even f) (odd_channel u v g) = absurd (even u v g.begins g.holds)
  once _ _ _ _ (odd_terminals x y even f) (odd_terminals u v again g) = (refl, one_square x y u v (one_region Drawn (HasOddTerminals Drawn) x y u v f g))
  once _ _ _ _ (odd_terminals x y even f) (label_on_nothing u v h g) = absurd (h.ends x y f.begins f.holds)
  once _ _ _ _ (odd_terminals x y even f) (labels_disagree u v h stand g) = absurd (h.ends x y f.begins f.holds)
  once _ _ _ _ (odd_terminals x y even f) (missing_pad h n lacks) = absurd (h.ends x y f.begins f.holds)
  once _ _ _ _ (odd_terminals x y even f) (odd_load u v h n has g) = absurd (h.ends x y f.begins f.holds)
  once _ _ _ _ (label_on_nothing x y h f) (odd_channel u v g) = absurd (h.even u v g.begins g.holds)
  once _ _ _ _ (label_on_nothing x y h f) (odd_terminals u v even g) = absurd (h.ends u v g.begins g.holds)
  once _ _ _ _ (label_on_nothing x y h f) (label_on_nothing u v k g) = (refl, one_square x y u v (one_label _ labels x y u v f g))
  once _ _ _ _ (label_on_nothing x y h f) (labels_disagree u v k stand g) = absurd (stand f.earlier f.later f.label f.whole f.holds)
  once _ _ _ _ (label_on_nothing x y h f) (missing_pad k n lacks) = absurd (n.stand f.earlier f.later f.label f.whole f.holds)
  once _ _ _ _ (label_on_nothing x y h f) (odd_load u v k n has g) = absurd (n.stand f.earlier f.later f.label f.whole f.holds)
  once _ _ _ _ (labels_disagree x y h stand f) (odd_channel u v g) = absurd (h.even u v g.begins g.holds)
  once _ _ _ _ (labels_disagree x y h stand f) (odd_terminals u v even g) = absurd (h.ends u v g.begins g.holds)
  once _ _ _ _ (labels_disagree x y h stand f) (label_on_nothing u v k g) = absurd (stand g.earlier g.later g.label g.whole g.holds)
  once _ _ _ _ (labels_disagree x y h stand f) (labels_disagree u v k stood g) = (refl, one_square x y u v (one_label _ labels x y u v f g))
  once _ _ _ _ (labels_disagree x y h stand f) (missing_pad k n lacks) = absurd (n.agree f.earlier f.later f.label f.whole f.holds)
  once _ _ _ _ (labels_disagree x y h stand f) (odd_load u v k n has g) = absurd (n.agree f.earlier f.later f.label f.whole f.holds)
  once _ _ _ _ (missing_pad h n lacks) (odd_channel u v g) = absurd (h.even u v g.begins g.holds)
  once _ _ _ _ (missing_pad h n lacks) (odd_terminals u v even g) = absurd (h.ends u v g.begins g.holds)
  once _ _ _ _ (missing_pad h n lacks) (label_on_nothing u v k g) = absurd (n.stand g.earlier g.later g.label g.whole g.holds)
  once _ _ _ _ (missing_pad h n lacks) (labels_disagree u v k stand g) = absurd (n.agree g.earlier g.later g.label g.whole g.holds)
  once _ _ _ _ (missing_pad h n lacks) (missing_pad k m lack) = (refl, refl)
  once _ _ _ _ (missing_pad h n lacks) (odd_load u v k m has g) = absurd (has lacks)
  once _ _ _ _ (odd_load x y h n has f) (odd_channel u v g) = absurd (h.even u v g.begins g.holds)
  once _ _ _ _ (odd_load x y h n has f) (odd_terminals u v even g) = absurd (h.ends u v g.begins g.holds)
  once _ _ _ _ (odd_load x y h n has f) (label_on_nothing u v k g) = absurd (n.stand g.earlier g.later g.label g.whole g.holds)
  once _ _ _ _ (odd_load x y h n has f) (labels_disagree u v k stand g) = absurd (n.agree g.earlier g.later g.label g.whole g.holds)
  once _ _ _ _ (odd_load x y h n has f) (missing_pad k m lacks) = absurd (has lacks)
  once _ _ _ _ (odd_load x y h n has f) (odd_load u v k m hast g) = (refl, one_square x y u v (one_region Drawn (IsOddLoad Drawn labels) x y u v f g))

pub refused_once : (Drawn : Drawing) → RefusedOnce Drawn
refused_once Drawn labels code other place there p q = once Drawn labels code other place there p q
