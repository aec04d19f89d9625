-- Regions are channels of the list, and depletion devices are loads exactly where the nets of their ends say so.
use Rattle.std.proofs.Common.{◌≡◌, ◌≢◌, ◌↔◌, ◌⊎◌, inl, inr, ℕ, ℤ, ◌≤ℤ◌, ◌<ℤ◌, Bool, true, false, List, [], ◌∷◌, Option, Some, None, refl, sym, subst, ap, ◌∙◌, arith, is_some}
use Rattle.std.proofs.lemmas.Int.{ints, by_lt_z}
use Rattle.std.proofs.lemmas.Bool.{and_parts, eqb-true, eq-eqb}
use Rattle.rx_text.specs.Role.{NamedRole, bears_name}
use Rattle.rx_text.specs.declared.pad_name.Role.TheVariants.{Vdd}
use Rattle.geom.specs.declared.chip.Label.{Label}
use Rattle.geom.specs.Squares.{BoxShape, Inside}
use Rattle.geom.specs.Rows.{Among, Pairwise}
use Rattle.geom.specs.Conduction.{Drawing, IsChannel, Leads, Conducts, Joined, Spot}
use Rattle.nmos_model.specs.declared.channel.Channel.{Channel}
use Rattle.nmos_model.specs.Channels.{IsByRow, IsImplanted, HasTerminals, IsTransistor, AreChannels, IsEarlier, InColumn, rectangle_of, gate_of, first_of, second_of}
use Rattle.nmos_model.specs.Nets.{AreNets}
use Rattle.nmos_model.specs.Pads.{NetAt, label_net, AreNamed, AreSound}
use Rattle.nmos_model.specs.Devices.{OnNets, device_on, is_load, IsNoLoad, spot_net}
use Rattle.nmos_model.specs.Refusals.{IsLoad, IsOddLoad, IsFirstRegion, OnSupply, spot_of}
use Rattle.nmos_model.specs.Unsound.{IsSupplyNet, IsFirstOddLoad}
use Rattle.nmos_model.proofs.Common.{inside}
use Rattle.nmos_model.proofs.Cuts.{among_parts, pairs_behind}
use Rattle.nmos_model.proofs.Beginnings.{gate_conducts, first_conducts, second_conducts, begins_at_corner, one_beginning, corner}
use Rattle.nmos_model.proofs.Labels.{sound_stand, cut_at}
use Rattle.switch_net.specs.declared.network.Device.{Device}

-- ---- one region, one channel

-- Rectangles of the same squares, with one corner, are one.
same_end : (x a b : ℤ) → x <ℤ a → x <ℤ b → ((u : ℤ) → x ≤ℤ u → u <ℤ a → u <ℤ b) → ((u : ℤ) → x ≤ℤ u → u <ℤ b → u <ℤ a) → a ≡ b
same_end x a b la lb f g =
    by_lt_z a b
    (λ lt. let h = g a (omega (arith, ints)) lt in absurd (omega (arith, ints)))
    (λ ge. by_lt_z b a (λ lt. let h = f b (omega (arith, ints)) lt in absurd (omega (arith, ints))) (λ le. omega (arith, ints)))

module _ (Drawn : Drawing) (c d : Channel) (p : IsTransistor Drawn c) (q : IsTransistor Drawn d) (across : c.x1 ≡ d.x1) (upward : c.y1 ≡ d.y1) where
  abbrev r : BoxShape
  r = rectangle_of c

  abbrev s : BoxShape
  s = rectangle_of d

  forth : (u v : ℤ) → Inside r u v → Inside s u v
  forth u v i = (q.full.squares u v).0 (subst (λ y. Leads (IsChannel Drawn) d.x1 y u v) upward (subst (λ x. Leads (IsChannel Drawn) x c.y1 u v) across ((p.full.squares u v).1 i)))

  back_again : (u v : ℤ) → Inside s u v → Inside r u v
  back_again u v i = (p.full.squares u v).0 (subst (λ y. Leads (IsChannel Drawn) c.x1 y u v) (sym upward) (subst (λ x. Leads (IsChannel Drawn) x d.y1 u v) (sym across) ((q.full.squares u v).1 i)))

  here_c : Inside r c.x1 c.y1
  here_c = corner Drawn c p

  here_d : Inside s d.x1 d.y1
  here_d = corner Drawn d q

  same_x2 : c.x2 ≡ d.x2
  same_x2 =
      let cr = here_c.right in let dr = here_d.right in
      same_end c.x1 c.x2 d.x2 cr (omega (arith, ints))
      (λ u lo hi. (forth u c.y1 (record { left = lo; right = hi; bottom = here_c.bottom; top = here_c.top })).right)
      (λ u lo hi. (back_again u d.y1 (record { left = omega (arith, ints); right = hi; bottom = here_d.bottom; top = here_d.top })).right)

  same_y2 : c.y2 ≡ d.y2
  same_y2 =
      let cr = here_c.top in let dr = here_d.top in
      same_end c.y1 c.y2 d.y2 cr (omega (arith, ints))
      (λ v lo hi. (forth c.x1 v (record { left = here_c.left; right = here_c.right; bottom = lo; top = hi })).top)
      (λ v lo hi. (back_again d.x1 v (record { left = here_d.left; right = here_d.right; bottom = omega (arith, ints); top = hi })).top)

  same_depletion : c.depletion ≡ d.depletion
  same_depletion = go c.depletion d.depletion p.implant q.implant
    where
      go : (a b : Bool) → IsImplanted Drawn a r → IsImplanted Drawn b s → a ≡ b
      go true true i j = refl
      go false false i j = refl
      go true false i j = absurd (j c.x1 c.y1 (forth c.x1 c.y1 here_c) (i c.x1 c.y1 here_c))
      go false true i j = absurd (i d.x1 d.y1 (back_again d.x1 d.y1 here_d) (j d.x1 d.y1 here_d))

  same_way : c.upright ≡ d.upright
  same_way = go c.upright d.upright p.terminals q.terminals
    where
      above_c : InColumn r c.x1 × (c.y2 ≡ c.y2)
      above_c = (record { left = here_c.left; right = here_c.right }, refl)

      above_d : InColumn s c.x1 × (c.y2 ≡ d.y2)
      above_d = let i = forth c.x1 c.y1 here_c in (record { left = i.left; right = i.right }, same_y2)

      go : (a b : Bool) → HasTerminals Drawn a r → HasTerminals Drawn b s → a ≡ b
      go true true i j = refl
      go false false i j = refl
      go true false i j = absurd (j.2 c.x1 c.y2 above_d (i.0 c.x1 c.y2 above_c))
      go false true i j = absurd (i.2 c.x1 c.y2 above_c (j.0 c.x1 c.y2 above_d))

  pub one_channel : c ≡ d
  one_channel = rw (across, upward, same_x2, same_y2, same_way, same_depletion) refl

-- a region of the drawing is one of its channels
pub listed : (Drawn : Drawing) (channels : List Channel) → AreChannels Drawn channels → (c : Channel) → IsTransistor Drawn c → Among channels c
listed Drawn channels regions c p =
    let found = regions.all c.x1 c.y1 p.full.channel in
    let d = found.0 in
    let q = regions.each d found.1 in
    let corners = one_beginning Drawn d.x1 d.y1 c.x1 c.y1 (begins_at_corner Drawn d q) (begins_at_corner Drawn c p) ((q.full.squares c.x1 c.y1).1 found.2) in
    subst (Among channels) (one_channel Drawn d c q p corners.0 corners.1) found.1

-- ---- loads

pub one_supply : (a b : NamedRole) → a.role ≡ Vdd → b.role ≡ Vdd → bears_name a.role ≡ is_some a.name → bears_name b.role ≡ is_some b.name → a ≡ b
one_supply a b ea eb na nb = rw (ea, eb, no_name a.name (sym na ∙ ap bears_name ea), no_name b.name (sym nb ∙ ap bears_name eb)) refl
  where
    no_name : (o : Option (List ℕ)) → is_some o ≡ false → o ≡ None
    no_name None e = refl
    no_name (Some n) e = absurd (cc)

-- what a rule says where its two tests have these answers
by_tests : {P : Type 0} (a b : Bool) → (a ≡ true → P) → (a ≡ false → b ≡ true → P) → (a ≡ false → b ≡ false → P) → P
by_tests true b f g h = f refl
by_tests false true f g h = g refl refl
by_tests false false f g h = h refl refl

module _ (Drawn : Drawing) (count : ℕ) (net : NetAt) (nets : AreNets Drawn count net) where
  live_net : (spot : Spot) → Conducts Drawn spot.layer spot.x spot.y → (n : ℕ) × (spot_net net spot ≡ Some n)
  live_net spot h = let s = nets.some spot.layer spot.x spot.y h in (s.0, s.1)

  pub on_nets : (c : Channel) → IsTransistor Drawn c → OnNets net c
  on_nets c p =
      let g = live_net (gate_of c) (gate_conducts Drawn c p) in
      let f = live_net (first_of c) (first_conducts Drawn c p) in
      let s = live_net (second_of c) (second_conducts Drawn c p) in
      record { gate = g.0; first = f.0; second = s.0; gate_is = g.1; first_is = f.1; second_is = s.1 }

  module _ (labels : List Label) (named : AreNamed labels) (sound : AreSound net labels) (vdd : ℕ) (supply : IsSupplyNet net labels vdd) where
    -- all labels of the supply stand on its net
    supply_net : (label : Label) → Among labels label → label.pad.role ≡ Vdd → label_net net label ≡ Some vdd
    supply_net label h e =
        let name = one_supply label.pad supply.0.pad e supply.2 (named label h) (named supply.0 supply.1) in
        (sound.agree label supply.0 h supply.1).0 name ∙ supply.3

    -- A spot is on the supply exactly where its net is that of the supply.
    on_supply : (spot : Spot) (n : ℕ) → Conducts Drawn spot.layer spot.x spot.y → spot_net net spot ≡ Some n → OnSupply Drawn labels spot ↔ (n ≡ vdd)
    on_supply spot n h e = (
      λ s.
          let label = s.0 in
          let same = (nets.one (spot_of label) spot (sound_stand Drawn count net nets labels sound label s.1) h).1 s.3 in
          inside n vdd (sym e ∙ sym same ∙ supply_net label s.1 s.2),
      λ same.
          let label = supply.0 in
          let one = supply.3 ∙ ap Some (sym same) ∙ sym e in
          (label, supply.1, supply.2, (nets.one (spot_of label) spot (sound_stand Drawn count net nets labels sound label supply.1) h).0 one),
    )

    module _ (c : Channel) (p : IsTransistor Drawn c) (on : OnNets net c) where
      gate_at_first : Joined Drawn (gate_of c) (first_of c) ↔ (on.gate ≡ on.first)
      gate_at_first =
          let both = nets.one (gate_of c) (first_of c) (gate_conducts Drawn c p) (first_conducts Drawn c p) in
          (λ j. inside on.gate on.first (sym on.gate_is ∙ both.1 j ∙ on.first_is), λ e. both.0 (on.gate_is ∙ ap Some e ∙ sym on.first_is))

      gate_at_second : Joined Drawn (gate_of c) (second_of c) ↔ (on.gate ≡ on.second)
      gate_at_second =
          let both = nets.one (gate_of c) (second_of c) (gate_conducts Drawn c p) (second_conducts Drawn c p) in
          (λ j. inside on.gate on.second (sym on.gate_is ∙ both.1 j ∙ on.second_is), λ e. both.0 (on.gate_is ∙ ap Some e ∙ sym on.second_is))

      first_supplied : OnSupply Drawn labels (first_of c) ↔ (on.first ≡ vdd)
      first_supplied = on_supply (first_of c) on.first (first_conducts Drawn c p) on.first_is

      second_supplied : OnSupply Drawn labels (second_of c) ↔ (on.second ≡ vdd)
      second_supplied = on_supply (second_of c) on.second (second_conducts Drawn c p) on.second_is

      load_true : (gate pulled other : ℕ) → is_load vdd gate pulled other ≡ true → (gate ≡ pulled) × (other ≡ vdd)
      load_true gate pulled other e = let t = and_parts _ _ e in (eqb-true gate pulled t.0, eqb-true other vdd t.1)

      load_at : (gate pulled other : ℕ) → gate ≡ pulled → other ≡ vdd → is_load vdd gate pulled other ≡ true
      load_at gate pulled other e f = rw (eq-eqb gate pulled e, eq-eqb other vdd f) refl

      -- where the rule makes a device, the channel is a load
      pub rule_loads : device_on true vdd on.gate on.first on.second ≢ None → IsLoad Drawn labels c
      rule_loads ne = by_tests (is_load vdd on.gate on.first on.second) (is_load vdd on.gate on.second on.first)
          (λ t. let e = load_true on.gate on.first on.second t in inl (gate_at_first.1 e.0, second_supplied.1 e.1))
          (λ f t. let e = load_true on.gate on.second on.first t in inr (gate_at_second.1 e.0, first_supplied.1 e.1))
          (λ f g. absurd (ne (rw (f, g) refl)))

      -- where the channel is a load, the rule makes a device
      pub loads_rule : IsLoad Drawn labels c → device_on true vdd on.gate on.first on.second ≡ None → ⊥
      loads_rule (inl l) e = let t = load_at on.gate on.first on.second (gate_at_first.0 l.0) (second_supplied.0 l.1) in absurd (cc)
      loads_rule (inr l) e =
          let t = load_at on.gate on.second on.first (gate_at_second.0 l.0) (first_supplied.0 l.1) in
          by_tests (is_load vdd on.gate on.first on.second) (is_load vdd on.gate on.second on.first)
          (λ u. absurd (cc)) (λ u v. absurd (cc)) (λ u v. absurd (cc))

-- ---- the first odd load

by_itself : (x y : ℤ) → IsByRow x y x y
by_itself x y = inr (refl, omega (arith, ints))

-- a channel has one gate and two terminals on nets
one_rule : (net : NetAt) (vdd : ℕ) (d : Channel) (a b : OnNets net d) → device_on true vdd a.gate a.first a.second ≡ None → device_on true vdd b.gate b.first b.second ≡ None
one_rule net vdd d a b h =
    let g = inside a.gate b.gate (sym a.gate_is ∙ b.gate_is) in
    let k = inside a.first b.first (sym a.first_is ∙ b.first_is) in
    let l = inside a.second b.second (sym a.second_is ∙ b.second_is) in
    rw (sym g, sym k, sym l) h

-- one of two comes first
in_order : (c d : Channel) → IsEarlier c d ⊎ IsEarlier d c
in_order c d =
    by_lt_z c.y1 d.y1 (λ lt. inl (inl lt))
    (λ ge. by_lt_z d.y1 c.y1 (λ lt. inr (inl lt))
    (λ le. by_lt_z c.x1 d.x1 (λ lt. inl (inr (omega (arith, ints), omega (arith, ints)))) (λ more. inr (inr (omega (arith, ints), more)))))

still_earlier : (c d e : Channel) → IsEarlier c d → IsEarlier d e → IsEarlier c e
still_earlier c d e (inl a) (inl b) = inl (omega (arith, ints))
still_earlier c d e (inl a) (inr b) = let h = b.0 in inl (omega (arith, ints))
still_earlier c d e (inr a) (inl b) = let h = a.0 in inl (omega (arith, ints))
still_earlier c d e (inr a) (inr b) = let h = a.1 in let k = b.1 in inr (a.0 ∙ b.0, omega (arith, ints))

-- none of the channels has P, or one of those that do comes first
least : (P : Channel → Type 0) (cs : List Channel) → ((c : Channel) → Among cs c → P c ⊎ (P c → ⊥))
    → ((c : Channel) → Among cs c → P c → ⊥) ⊎ ((c : Channel) × Among cs c × P c × ((d : Channel) → Among cs d → P d → IsEarlier c d))
least P [] decide = inl (λ c h p. absurd h)
least P (c ∷ cs) decide = go (decide c (inl refl)) (least P cs (λ d h. decide d (inr h)))
  where
    go : P c ⊎ (P c → ⊥) → ((d : Channel) → Among cs d → P d → ⊥) ⊎ ((d : Channel) × Among cs d × P d × ((e : Channel) → Among cs e → P e → IsEarlier d e))
        → ((d : Channel) → Among (c ∷ cs) d → P d → ⊥) ⊎ ((d : Channel) × Among (c ∷ cs) d × P d × ((e : Channel) → Among (c ∷ cs) e → P e → IsEarlier d e))
    go (inr never) (inl none) = inl (λ d h p. elim h [ inl e ↦ never (subst P (sym e) p) | inr i ↦ none d i p ])
    go (inr never) (inr l) = inr (l.0, inr l.1, l.2, λ e h p. elim h [ inl same ↦ absurd (never (subst P (sym same) p)) | inr i ↦ l.3 e i p ])
    go (inl p) (inl none) = inr (c, inl refl, p, λ e h q. elim h [ inl same ↦ subst (IsEarlier c) same (by_itself c.x1 c.y1) | inr i ↦ absurd (none e i q) ])
    go (inl p) (inr l) = elim (in_order c l.0) [
      | inl before ↦ inr (c, inl refl, p, λ e h q. elim h [ inl same ↦ subst (IsEarlier c) same (by_itself c.x1 c.y1) | inr i ↦ still_earlier c l.0 e before (l.3 e i q) ])
      | inr behind ↦ inr (l.0, inr l.1, l.2, λ e h q. elim h [ inl same ↦ subst (IsEarlier l.0) same behind | inr i ↦ l.3 e i q ])
    ]

module _ (Drawn : Drawing) (count : ℕ) (net : NetAt) (nets : AreNets Drawn count net) (labels : List Label) (named : AreNamed labels) (sound : AreSound net labels)
    (channels : List Channel) (regions : AreChannels Drawn channels) where
  -- a channel that is no load by the numbers is an odd one of the drawing
  pub odd_by_numbers : (vdd : ℕ) → IsSupplyNet net labels vdd → (c : Channel) → IsTransistor Drawn c → IsNoLoad net vdd c → IsOddLoad Drawn labels c.x1 c.y1
  odd_by_numbers vdd supply c p odd =
      let on = on_nets Drawn count net nets c p in record {
        channel = c;
        across = refl;
        upward = refl;
        region = p;
        depletion = odd.depletion;
        odd = λ l. loads_rule Drawn count net nets labels named sound vdd supply c p on l (odd.none on);
      }

  -- and the other way round
  pub odd_by_squares : (vdd : ℕ) → IsSupplyNet net labels vdd → (c : Channel) → IsTransistor Drawn c → c.depletion ≡ true → (IsLoad Drawn labels c → ⊥) → IsNoLoad net vdd c
  odd_by_squares vdd supply c p e odd = record {
    depletion = e;
    none = λ on. elim (ruled (device_on true vdd on.gate on.first on.second)) [
      | inl n ↦ n
      | inr s ↦ absurd (odd (rule_loads Drawn count net nets labels named sound vdd supply c p on s))
    ];
  }
    where
      ruled : (o : Option Device) → (o ≡ None) ⊎ (o ≢ None)
      ruled None = inl refl
      ruled (Some d) = inr (λ e. cc)

  module _ (vdd : ℕ) (supply : IsSupplyNet net labels vdd) where
    -- a channel that is no load and comes first among those is the first odd region
    pub first_region : (c : Channel) → Among channels c → IsNoLoad net vdd c → ((d : Channel) → Among channels d → IsNoLoad net vdd d → IsEarlier c d)
        → IsFirstRegion Drawn (IsOddLoad Drawn labels) c.x1 c.y1
    first_region c among odd first =
        let p = regions.each c among in
        record {
          begins = begins_at_corner Drawn c p;
          holds = odd_by_numbers vdd supply c p odd;
          first = λ u v b o. rw (sym o.across, sym o.upward)
              (first o.channel (listed Drawn channels regions o.channel o.region) (odd_by_squares vdd supply o.channel o.region o.depletion o.odd));
        }

    pub first_odd_load : Pairwise IsEarlier channels → (x y : ℤ) → IsFirstOddLoad net vdd channels x y → IsFirstRegion Drawn (IsOddLoad Drawn labels) x y
    first_odd_load sorted x y f =
        rw (sym f.across, sym f.upward) (first_region f.channel (cut_at channels f.earlier f.later f.channel f.whole) f.odd by_order)
      where
        by_order : (d : Channel) → Among channels d → IsNoLoad net vdd d → IsEarlier f.channel d
        by_order d h odd =
            elim (among_parts f.earlier f.later f.channel d (subst (λ cs. Among cs d) f.whole h)) [
              | inl early ↦ absurd (f.first d early odd)
              | inr k ↦ elim k [
                | inl same ↦ subst (λ c. IsEarlier f.channel c) same (by_itself f.channel.x1 f.channel.y1)
                | inr late ↦ pairs_behind IsEarlier f.earlier f.later f.channel d (subst (Pairwise IsEarlier) f.whole sorted) late
              ]
            ]

    -- where some channel is no load, one comes first
    pub some_odd_load : (c : Channel) → Among channels c → IsNoLoad net vdd c → (x : ℤ) × (y : ℤ) × IsFirstRegion Drawn (IsOddLoad Drawn labels) x y
    some_odd_load c among odd =
        elim (least (IsNoLoad net vdd) channels (λ d h. decided d (on_nets Drawn count net nets d (regions.each d h)))) [
          | inl none ↦ absurd (none c among odd)
          | inr l ↦ (l.0.x1, l.0.y1, first_region l.0 l.1 l.2 l.3)
        ]
      where
        decided : (d : Channel) → OnNets net d → IsNoLoad net vdd d ⊎ (IsNoLoad net vdd d → ⊥)
        decided d on = go d.depletion refl (device_on true vdd on.gate on.first on.second) refl
          where
            go : (t : Bool) → d.depletion ≡ t → (o : Option Device) → device_on true vdd on.gate on.first on.second ≡ o → IsNoLoad net vdd d ⊎ (IsNoLoad net vdd d → ⊥)
            go false e o f = inr (λ n. let g = n.depletion in absurd (cc))
            go true e (Some x) f = inr (λ n. let g = n.none on in absurd (cc))
            go true e None f = inl (record { depletion = e; none = λ other. one_rule net vdd d on other f })
