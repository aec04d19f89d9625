-- Drawings with the same squares stand for the same networks, and are refused alike.
use Rattle.std.proofs.Common.{ℤ, Bool, true, false, List, inl, inr}
use Rattle.geom.specs.declared.layer.Layer.{Layer}
use Rattle.geom.specs.declared.layer.Layer.TheVariants.{Diffusion, Poly, Metal, Cut, Implant}
use Rattle.geom.specs.declared.chip.Label.{Label}
use Rattle.geom.specs.Squares.{BoxShape}
use Rattle.geom.specs.Conduction.{Drawing, Spot, IsChannel, Leads, Conducts, IsJoin, Joined}
use Rattle.geom.specs.Conduction.Leads.{here as leads_here, step as leads_step}
use Rattle.geom.specs.Conduction.Joined.{here, step}
use Rattle.switch_net.specs.Circuit.{Circuit}
use Rattle.nmos_model.specs.declared.channel.Channel.{Channel}
use Rattle.nmos_model.specs.Channels.{Begins, IsFull, IsImplanted, HasTerminals, IsTransistor, gate_of, first_of, second_of}
use Rattle.nmos_model.specs.Networks.{StandsFor}
use Rattle.nmos_model.specs.Pads.{IsFirstLabel, NoLabel}
use Rattle.nmos_model.specs.Refusals.{IsOdd, HasOddTerminals, OnSupply, IsLoad, IsOddLoad, IsFirstRegion, NoRegion, StandsOnNothing, Disagrees, HasChannels, HasNames, spot_of}
use Rattle.nmos_model.specs.Refusals.IsRefused.{odd_channel, odd_terminals, label_on_nothing, labels_disagree, missing_pad, odd_load}
use Rattle.nmos_model.specs.Alike.{CoverAlike, StandAlike, RefusedAlike}

-- the other way round
pub turned : (D E : Drawing) → CoverAlike D E → CoverAlike E D
turned D E f layer x y = ((f layer x y).1, (f layer x y).0)

-- ---- squares and what they join

module _ (D E : Drawing) (f : CoverAlike D E) where
  pub conducts : (layer : Layer) (x y : ℤ) → Conducts D layer x y → Conducts E layer x y
  conducts Metal x y h = (f Metal x y).0 h
  conducts Poly x y h = (f Poly x y).0 h
  conducts Diffusion x y h = ((f Diffusion x y).0 h.0, λ poly. h.1 ((f Poly x y).1 poly))
  conducts Cut x y h = h
  conducts Implant x y h = h

  pub channel : (x y : ℤ) → IsChannel D x y → IsChannel E x y
  channel x y h = record { diffusion = (f Diffusion x y).0 h.diffusion; poly = (f Poly x y).0 h.poly }

  pub leads : (x y u v : ℤ) → Leads (IsChannel D) x y u v → Leads (IsChannel E) x y u v
  leads _ _ _ _ (leads_here x y) = leads_here x y
  leads _ _ _ _ (leads_step x y u v s t side is rest) = leads_step x y u v s t side (channel u v is) (leads u v s t rest)

  join : (a b : Spot) → IsJoin D a b → IsJoin E a b
  join a b (inl within) = inl within
  join a b (inr under) = inr (under.0, under.1, (f Cut a.x a.y).0 under.2)

  pub joined : (a b : Spot) → Joined D a b → Joined E a b
  joined _ _ (here a) = here a
  joined _ _ (step a b c is live rest) = step a b c (join a b is) (conducts b.layer b.x b.y live) (joined b c rest)

-- ---- channels and nets

module _ (D E : Drawing) (f : CoverAlike D E) where
  abbrev b : CoverAlike E D
  b = turned D E f

  full : (x y : ℤ) (r : BoxShape) → IsFull D x y r → IsFull E x y r
  full x y r h = record {
    channel = channel D E f x y h.channel;
    squares = λ u v. (λ k. (h.squares u v).0 (leads E D b x y u v k), λ i. leads D E f x y u v ((h.squares u v).1 i));
  }

  implanted : (t : Bool) (r : BoxShape) → IsImplanted D t r → IsImplanted E t r
  implanted true r h = λ x y i. (f Implant x y).0 (h x y i)
  implanted false r h = λ x y i k. h x y i ((f Implant x y).1 k)

  terminals : (t : Bool) (r : BoxShape) → HasTerminals D t r → HasTerminals E t r
  terminals true r h = (
    λ x y on. conducts D E f Diffusion x y (h.0 x y on),
    λ x y on. conducts D E f Diffusion x y (h.1 x y on),
    λ x y on k. h.2 x y on (conducts E D b Diffusion x y k),
    λ x y on k. h.3 x y on (conducts E D b Diffusion x y k),
  )
  terminals false r h = (
    λ x y on. conducts D E f Diffusion x y (h.0 x y on),
    λ x y on. conducts D E f Diffusion x y (h.1 x y on),
    λ x y on k. h.2 x y on (conducts E D b Diffusion x y k),
    λ x y on k. h.3 x y on (conducts E D b Diffusion x y k),
  )

  transistor : (c : Channel) → IsTransistor D c → IsTransistor E c
  transistor c h = record { full = full c.x1 c.y1 _ h.full; implant = implanted c.depletion _ h.implant; terminals = terminals c.upright _ h.terminals }

  pub stands : (labels : List Label) (circuit : Circuit) → StandsFor D labels circuit → StandsFor E labels circuit
  stands labels circuit s =
      let nets = s.nets in
      let regions = s.regions in
      record {
        net = s.net;
        nets = record {
          some = λ layer x y h. nets.some layer x y (conducts E D b layer x y h);
          conducts = λ layer x y n e. conducts D E f layer x y (nets.conducts layer x y n e);
          all = λ n below. let a = nets.all n below in (a.0, conducts D E f a.0.layer a.0.x a.0.y a.1, a.2);
          one = λ p q h k.
              let same = nets.one p q (conducts E D b p.layer p.x p.y h) (conducts E D b q.layer q.x q.y k) in
              (λ e. joined D E f p q (same.0 e), λ j. same.1 (joined E D b p q j));
        };
        channels = s.channels;
        regions = record {
          each = λ c among. transistor c (regions.each c among);
          all = λ x y is. regions.all x y (channel E D b x y is);
          apart = regions.apart;
        };
        sound = s.sound;
        connects = s.connects;
      }

pub stand_alike : (D E : Drawing) → StandAlike D E
stand_alike D E f labels circuit s = stands D E f labels circuit s

-- ---- refusals

module _ (P Q : List Label → Label → Type 0) (to : (earlier : List Label) (label : Label) → P earlier label → Q earlier label)
    (from : (earlier : List Label) (label : Label) → Q earlier label → P earlier label) (labels : List Label) where
  first_label : (x y : ℤ) → IsFirstLabel P labels x y → IsFirstLabel Q labels x y
  first_label x y h = record {
    earlier = h.earlier;
    label = h.label;
    later = h.later;
    whole = h.whole;
    holds = to h.earlier h.label h.holds;
    first = λ before after one e k. h.first before after one e (from before one k);
    across = h.across;
    upward = h.upward;
  }

  no_label : NoLabel P labels → NoLabel Q labels
  no_label none before after one e k = none before after one e (from before one k)

-- what is asked of regions and labels, from one drawing to the other
module _ (D E : Drawing) (f : CoverAlike D E) where
  begins : (x y : ℤ) → Begins D x y → Begins E x y
  begins x y h = record { channel = channel D E f x y h.channel; first = λ u v k. h.first u v (leads E D (turned D E f) x y u v k) }

  odd : (x y : ℤ) → IsOdd D x y → IsOdd E x y
  odd x y h = λ r t whole under. h r t (full E D (turned D E f) x y r whole) (implanted E D (turned D E f) t r under)

  odd_ends : (x y : ℤ) → HasOddTerminals D x y → HasOddTerminals E x y
  odd_ends x y h = λ r t whole ends. h r t (full E D (turned D E f) x y r whole) (terminals E D (turned D E f) t r ends)

  on_supply : (labels : List Label) (a : Spot) → OnSupply D labels a → OnSupply E labels a
  on_supply labels a h = (h.0, h.1, h.2, joined D E f (spot_of h.0) a h.3)

  load : (labels : List Label) (c : Channel) → IsLoad D labels c → IsLoad E labels c
  load labels c (inl h) = inl (joined D E f (gate_of c) (first_of c) h.0, on_supply labels (second_of c) h.1)
  load labels c (inr h) = inr (joined D E f (gate_of c) (second_of c) h.0, on_supply labels (first_of c) h.1)

  on_nothing : (earlier : List Label) (label : Label) → StandsOnNothing D earlier label → StandsOnNothing E earlier label
  on_nothing earlier label h = λ k. h (conducts E D (turned D E f) label.layer label.x label.y k)

  disagrees : (earlier : List Label) (label : Label) → Disagrees D earlier label → Disagrees E earlier label
  disagrees earlier label (one, among, inl h) = (one, among, inl (h.0, λ k. h.1 (joined E D (turned D E f) (spot_of one) (spot_of label) k)))
  disagrees earlier label (one, among, inr h) = (one, among, inr (h.0, joined D E f (spot_of one) (spot_of label) h.1))

module _ (D E : Drawing) (f : CoverAlike D E) where
  abbrev g : CoverAlike E D
  g = turned D E f

  first_region : (P Q : ℤ → ℤ → Type 0) → ((x y : ℤ) → P x y → Q x y) → ((x y : ℤ) → Q x y → P x y) → (x y : ℤ) → IsFirstRegion D P x y → IsFirstRegion E Q x y
  first_region P Q to from x y h = record {
    begins = begins D E f x y h.begins;
    holds = to x y h.holds;
    first = λ u v at k. h.first u v (begins E D g u v at) (from u v k);
  }

  no_region : (P Q : ℤ → ℤ → Type 0) → ((x y : ℤ) → Q x y → P x y) → NoRegion D P → NoRegion E Q
  no_region P Q from none x y at k = none x y (begins E D g x y at) (from x y k)

  even : NoRegion D (IsOdd D) → NoRegion E (IsOdd E)
  even = no_region (IsOdd D) (IsOdd E) (odd E D g)

  channels : HasChannels D → HasChannels E
  channels h = record { even = even h.even; ends = no_region (HasOddTerminals D) (HasOddTerminals E) (odd_ends E D g) h.ends }

  stand_on : (labels : List Label) → NoLabel (StandsOnNothing D) labels → NoLabel (StandsOnNothing E) labels
  stand_on labels = no_label (StandsOnNothing D) (StandsOnNothing E) (on_nothing D E f) (on_nothing E D g) labels

  named : (labels : List Label) → HasNames D labels → HasNames E labels
  named labels h = record {
    stand = stand_on labels h.stand;
    agree = no_label (Disagrees D) (Disagrees E) (disagrees D E f) (disagrees E D g) labels h.agree;
  }

  load_too : (labels : List Label) (x y : ℤ) → IsOddLoad D labels x y → IsOddLoad E labels x y
  load_too labels x y h = record {
    channel = h.channel;
    across = h.across;
    upward = h.upward;
    region = transistor D E f h.channel h.region;
    depletion = h.depletion;
    odd = λ k. h.odd (load E D g labels h.channel k);
  }

pub refused_alike : (D E : Drawing) → RefusedAlike D E
refused_alike D E f labels _ _ (odd_channel x y h) =
    odd_channel x y (first_region D E f (IsOdd D) (IsOdd E) (odd D E f) (odd E D (turned D E f)) x y h)
refused_alike D E f labels _ _ (odd_terminals x y none h) = odd_terminals x y (even D E f none)
    (first_region D E f (HasOddTerminals D) (HasOddTerminals E) (odd_ends D E f) (odd_ends E D (turned D E f)) x y h)
refused_alike D E f labels _ _ (label_on_nothing x y c h) = label_on_nothing x y (channels D E f c)
    (first_label (StandsOnNothing D) (StandsOnNothing E) (on_nothing D E f) (on_nothing E D (turned D E f)) labels x y h)
refused_alike D E f labels _ _ (labels_disagree x y c stand h) = labels_disagree x y (channels D E f c) (stand_on D E f labels stand)
    (first_label (Disagrees D) (Disagrees E) (disagrees D E f) (disagrees E D (turned D E f)) labels x y h)
refused_alike D E f labels _ _ (missing_pad c n lacks) = missing_pad (channels D E f c) (named D E f labels n) lacks
refused_alike D E f labels _ _ (odd_load x y c n has h) = odd_load x y (channels D E f c) (named D E f labels n) has
    (first_region D E f (IsOddLoad D labels) (IsOddLoad E labels) (load_too D E f labels) (load_too E D (turned D E f) labels) x y h)
