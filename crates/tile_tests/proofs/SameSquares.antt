-- Drawings that cover the same squares are refused alike.
use Rattle.std.proofs.Common.{◌≡◌, ◌↔◌, ◌⊎◌, inl, inr, ℤ, Bool, true, false, List, [], ◌∷◌, ◌++◌}
use Rattle.rx_text.specs.declared.place.Place.{Place}
use Rattle.geom.specs.declared.layer.Layer.{Layer}
use Rattle.geom.specs.declared.layer.Layer.TheVariants.{Diffusion, Poly, Metal, Cut, Implant}
use Rattle.geom.specs.declared.chip.Label.{Label}
use Rattle.geom.specs.Squares.{BoxShape}
use Rattle.geom.specs.Rows.{Among}
use Rattle.geom.specs.Conduction.{Drawing, Spot, IsChannel, Leads, Conducts, IsJoin, Joined}
use Rattle.geom.specs.Conduction.Leads.{here as led, step as leads_on}
use Rattle.geom.specs.Conduction.Joined.{here as same_spot, step as joins_on}
use Rattle.nmos_model.specs.declared.channel.Channel.{Channel}
use Rattle.nmos_model.specs.declared.refusal.ExtractCode.{ExtractCode}
use Rattle.nmos_model.specs.Channels.{Begins, IsFull, IsImplanted, HasTerminals, IsTransistor}
use Rattle.nmos_model.specs.Pads.{IsFirstLabel, NoLabel}
use Rattle.nmos_model.specs.Refusals.{IsOdd, HasOddTerminals, OnSupply, IsLoad, IsOddLoad, IsFirstRegion, NoRegion, StandsOnNothing, Disagrees, HasChannels, HasNames, IsRefused}
use Rattle.nmos_model.specs.Refusals.IsRefused.{odd_channel, odd_terminals, label_on_nothing, labels_disagree, missing_pad, odd_load}

pub among_push : {X : Type 0} (m : List X) (v b : X) → Among (m ++ v ∷ []) b → Among m b ⊎ (v ≡ b)
among_push [] v b (inl e) = inr e
among_push [] v b (inr h) = absurd h
among_push (c ∷ cs) v b (inl e) = inl (inl e)
among_push (c ∷ cs) v b (inr h) = elim (among_push cs v b h) [ inl i ↦ inl (inr i) | inr e ↦ inr e ]

-- Both cover the same squares.
pub record Same (D E : Drawing) : Type 0 where
  pub is : (layer : Layer) (x y : ℤ) → D layer x y ↔ E layer x y

flip : {D E : Drawing} → Same D E → Same E D
flip s = record { is = λ layer x y. ((s.is layer x y).1, (s.is layer x y).0) }

conducts : (D E : Drawing) → Same D E → (layer : Layer) (x y : ℤ) → Conducts D layer x y → Conducts E layer x y
conducts D E s Metal x y h = (s.is Metal x y).0 h
conducts D E s Poly x y h = (s.is Poly x y).0 h
conducts D E s Diffusion x y h = ((s.is Diffusion x y).0 h.0, λ poly. h.1 ((s.is Poly x y).1 poly))
conducts D E s Cut x y h = absurd h
conducts D E s Implant x y h = absurd h

channel : (D E : Drawing) → Same D E → (x y : ℤ) → IsChannel D x y → IsChannel E x y
channel D E s x y h = record { diffusion = (s.is Diffusion x y).0 h.diffusion; poly = (s.is Poly x y).0 h.poly }

lead : (D E : Drawing) → Same D E → (x y u v : ℤ) → Leads (IsChannel D) x y u v → Leads (IsChannel E) x y u v
lead D E s _ _ _ _ (led x y) = led x y
lead D E s _ _ _ _ (leads_on x y u v a b share there rest) = leads_on x y u v a b share (channel D E s u v there) (lead D E s u v a b rest)

join : (D E : Drawing) → Same D E → (a b : Spot) → IsJoin D a b → IsJoin E a b
join D E s a b (inl side) = inl side
join D E s a b (inr h) = inr (h.0, h.1, (s.is Cut a.x a.y).0 h.2)

joins : (D E : Drawing) → Same D E → (a b : Spot) → Joined D a b → Joined E a b
joins D E s _ _ (same_spot a) = same_spot a
joins D E s _ _ (joins_on a b c first there rest) = joins_on a b c (join D E s a b first) (conducts D E s b.layer b.x b.y there) (joins D E s b c rest)

begins : (D E : Drawing) → Same D E → (x y : ℤ) → Begins D x y → Begins E x y
begins D E s x y h = record { channel = channel D E s x y h.channel; first = λ u v there. h.first u v (lead E D (flip s) x y u v there) }

full : (D E : Drawing) → Same D E → (x y : ℤ) (r : BoxShape) → IsFull D x y r → IsFull E x y r
full D E s x y r h = record {
  channel = channel D E s x y h.channel;
  squares = λ u v. (λ there. (h.squares u v).0 (lead E D (flip s) x y u v there), λ inside. lead D E s x y u v ((h.squares u v).1 inside));
}

implanted : (D E : Drawing) → Same D E → (depletion : Bool) (r : BoxShape) → IsImplanted D depletion r → IsImplanted E depletion r
implanted D E s true r h = λ x y inside. (s.is Implant x y).0 (h x y inside)
implanted D E s false r h = λ x y inside implant. h x y inside ((s.is Implant x y).1 implant)

terminals : (D E : Drawing) → Same D E → (upright : Bool) (r : BoxShape) → HasTerminals D upright r → HasTerminals E upright r
terminals D E s true r h = (
  λ x y on. conducts D E s Diffusion x y (h.0 x y on),
  λ x y on. conducts D E s Diffusion x y (h.1 x y on),
  λ x y on there. h.2 x y on (conducts E D (flip s) Diffusion x y there),
  λ x y on there. h.3 x y on (conducts E D (flip s) Diffusion x y there),
)
terminals D E s false r h = (
  λ x y on. conducts D E s Diffusion x y (h.0 x y on),
  λ x y on. conducts D E s Diffusion x y (h.1 x y on),
  λ x y on there. h.2 x y on (conducts E D (flip s) Diffusion x y there),
  λ x y on there. h.3 x y on (conducts E D (flip s) Diffusion x y there),
)

module _ (D E : Drawing) (s : Same D E) where
  odd : (x y : ℤ) → IsOdd D x y → IsOdd E x y
  odd x y h = λ r depletion whole implant. h r depletion (full E D (flip s) x y r whole) (implanted E D (flip s) depletion r implant)

  odd_ends : (x y : ℤ) → HasOddTerminals D x y → HasOddTerminals E x y
  odd_ends x y h = λ r upright whole ends. h r upright (full E D (flip s) x y r whole) (terminals E D (flip s) upright r ends)

  transistor : (c : Channel) → IsTransistor D c → IsTransistor E c
  transistor c h = record {
    full = full D E s c.x1 c.y1 _ h.full;
    implant = implanted D E s c.depletion _ h.implant;
    terminals = terminals D E s c.upright _ h.terminals;
  }

  supply : (labels : List Label) (spot : Spot) → OnSupply D labels spot → OnSupply E labels spot
  supply labels spot h = (h.0, h.1, h.2, joins D E s _ _ h.3)

  load : (labels : List Label) (c : Channel) → IsLoad D labels c → IsLoad E labels c
  load labels c (inl h) = inl (joins D E s _ _ h.0, supply labels _ h.1)
  load labels c (inr h) = inr (joins D E s _ _ h.0, supply labels _ h.1)

  first_region : (P Q : ℤ → ℤ → Type 0) → ((x y : ℤ) → P x y → Q x y) → ((x y : ℤ) → Q x y → P x y) → (x y : ℤ)
      → IsFirstRegion D P x y → IsFirstRegion E Q x y
  first_region P Q to from x y h = record {
    begins = begins D E s x y h.begins;
    holds = to x y h.holds;
    first = λ u v b q. h.first u v (begins E D (flip s) u v b) (from u v q);
  }

  no_region : (P Q : ℤ → ℤ → Type 0) → ((x y : ℤ) → Q x y → P x y) → NoRegion D P → NoRegion E Q
  no_region P Q from h = λ x y b q. h x y (begins E D (flip s) x y b) (from x y q)

  on_nothing : (earlier : List Label) (label : Label) → StandsOnNothing D earlier label → StandsOnNothing E earlier label
  on_nothing earlier label h = λ there. h (conducts E D (flip s) label.layer label.x label.y there)

  disagrees : (earlier : List Label) (label : Label) → Disagrees D earlier label → Disagrees E earlier label
  disagrees earlier label h = (
    h.0,
    h.1,
    elim h.2 [
      | inl k ↦ inl (k.0, λ there. k.1 (joins E D (flip s) _ _ there))
      | inr k ↦ inr (k.0, joins D E s _ _ k.1)
    ],
  )

first_label : (P Q : List Label → Label → Type 0) → ((before : List Label) (one : Label) → P before one → Q before one)
    → ((before : List Label) (one : Label) → Q before one → P before one) → (labels : List Label) (x y : ℤ) → IsFirstLabel P labels x y → IsFirstLabel Q labels x y
first_label P Q to from labels x y h = record {
  earlier = h.earlier;
  label = h.label;
  later = h.later;
  whole = h.whole;
  holds = to h.earlier h.label h.holds;
  first = λ before after one e q. h.first before after one e (from before one q);
  across = h.across;
  upward = h.upward;
}

no_label : (P Q : List Label → Label → Type 0) → ((before : List Label) (one : Label) → Q before one → P before one) → (labels : List Label)
    → NoLabel P labels → NoLabel Q labels
no_label P Q from labels h = λ before after one e q. h before after one e (from before one q)

odd_loads : (D E : Drawing) → Same D E → (labels : List Label) (x y : ℤ) → IsOddLoad D labels x y → IsOddLoad E labels x y
odd_loads D E s labels x y h = record {
  channel = h.channel;
  across = h.across;
  upward = h.upward;
  region = transistor D E s h.channel h.region;
  depletion = h.depletion;
  odd = λ l. h.odd (load E D (flip s) labels h.channel l);
}

module _ (D E : Drawing) (s : Same D E) (labels : List Label) where
  no_odd : NoRegion D (IsOdd D) → NoRegion E (IsOdd E)
  no_odd = no_region D E s (IsOdd D) (IsOdd E) (odd E D (flip s))

  channels : HasChannels D → HasChannels E
  channels h = record { even = no_odd h.even; ends = no_region D E s (HasOddTerminals D) (HasOddTerminals E) (odd_ends E D (flip s)) h.ends }

  stand : NoLabel (StandsOnNothing D) labels → NoLabel (StandsOnNothing E) labels
  stand = no_label (StandsOnNothing D) (StandsOnNothing E) (on_nothing E D (flip s)) labels

  names : HasNames D labels → HasNames E labels
  names h = record { stand = stand h.stand; agree = no_label (Disagrees D) (Disagrees E) (disagrees E D (flip s)) labels h.agree }

  pub refused_alike : (code : ExtractCode) (place : Place) → IsRefused D labels code place → IsRefused E labels code place
  refused_alike _ _ (odd_channel x y f) = odd_channel x y (first_region D E s (IsOdd D) (IsOdd E) (odd D E s) (odd E D (flip s)) x y f)
  refused_alike _ _ (odd_terminals x y even f) =
      odd_terminals x y (no_odd even) (first_region D E s (HasOddTerminals D) (HasOddTerminals E) (odd_ends D E s) (odd_ends E D (flip s)) x y f)
  refused_alike _ _ (label_on_nothing x y h f) =
      label_on_nothing x y (channels h) (first_label (StandsOnNothing D) (StandsOnNothing E) (on_nothing D E s) (on_nothing E D (flip s)) labels x y f)
  refused_alike _ _ (labels_disagree x y h n f) =
      labels_disagree x y (channels h) (stand n) (first_label (Disagrees D) (Disagrees E) (disagrees D E s) (disagrees E D (flip s)) labels x y f)
  refused_alike _ _ (missing_pad h n lacks) = missing_pad (channels h) (names n) lacks
  refused_alike _ _ (odd_load x y h n has f) =
      odd_load x y (channels h) (names n) has
      (first_region D E s (IsOddLoad D labels) (IsOddLoad E labels) (odd_loads D E s labels) (odd_loads E D (flip s) labels) x y f)
