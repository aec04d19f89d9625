-- What the small circuits settle to.
use Rattle.std.proofs.Common.{◌≡◌, ◌≢◌, ◌⊎◌, ◌↔◌, ℕ, ◌≤◌, ◌==◌, Bool, true, false, not, ◌&&◌, List, [], ◌∷◌, get_or, Option, Some, None, refl, sym, subst, ap, ◌∙◌, inl, inr, arith, eqb-true}
use Rattle.std.proofs.lemmas.Bool.{cases_Bool, cases_eq, eqb-false, and_from, and_parts, not-true, not_from_false}
use Rattle.switch_net.proofs.LoneNets.{lone_level, group_within, LoneNet, idle, settled_lone, lone_settled}
use Rattle.switch_net.specs.Clock.{Drive, first_bit, drives_of}
use Rattle.switch_net.specs.Examples.{pads, circuit_of, Settles, HasPadLevels, load, inverter, sampler, open_circuit, shared_charge, split_by_supply}
use Rattle.switch_net.specs.Settling.{Values, pad_level, fixed_level, Joins, HasLoad, IsFree, Grouped, Source, Loaded, IsPulledHigh, SettledAt}
use Rattle.switch_net.specs.Settling.Grouped.{here, step}
use Rattle.switch_net.specs.declared.network.Pad.{Pad}
use Rattle.switch_net.specs.declared.network.Device.{Device}

-- ---- the pads

-- what a net is fixed to, pad by pad
abbrev LevelCases : List Pad → List Bool → ℕ → Option Bool → Type 0
LevelCases [] drives net o = None ≡ o
LevelCases (pad ∷ rest) [] net o = None ≡ o
LevelCases (pad ∷ rest) (drive ∷ drives) net o =
    ((pad.net.0 ≡ net) × (pad_level pad.name.role drive ≡ o)) ⊎ ((pad.net.0 ≢ net) × LevelCases rest drives net o)

level_cases : (all : List Pad) (drives : List Bool) (net : ℕ) (o : Option Bool) → fixed_level all drives net ≡ o
    → LevelCases all drives net o
level_cases [] drives net o e = e
level_cases (pad ∷ rest) [] net o e = e
level_cases (pad ∷ rest) (drive ∷ drives) net o e =
    elim (cases_Bool (pad.net.0 == net)) [
      | inl same ↦ inl (eqb-true _ _ same, rw same at e)
      | inr apart ↦ inr (eqb-false _ _ apart, level_cases rest drives net o (rw apart at e))
    ]

module _ (drive : Drive) where
  abbrev drives : List Bool
  drives = drives_of drive pads

  -- the pads leave only the nets from 6 on free
  free_above : (net : ℕ) → fixed_level pads drives net ≡ None → 6 ≤ net
  free_above net e =
      elim (level_cases pads drives net None e) [
        | inl h ↦ cc
        | inr h0 ↦
            elim h0.1 [
              | inl h ↦ cc
              | inr h1 ↦
                  elim h1.1 [
                    | inl h ↦ cc
                    | inr h2 ↦
                        elim h2.1 [
                          | inl h ↦ cc
                          | inr h3 ↦
                              elim h3.1 [
                                | inl h ↦ cc
                                | inr h4 ↦
                                    elim h4.1 [ inl h ↦ cc | inr h5 ↦ omega arith ]
                              ]
                        ]
                  ]
            ]
      ]

  fixed_levels : (v : Values) → HasPadLevels drive v → (net : ℕ) (level : Bool) → fixed_level pads drives net ≡ Some level
      → v net ≡ level
  fixed_levels v levels net level e =
      elim (level_cases pads drives net (Some level) e) [
        | inl h ↦ cc
        | inr h0 ↦
            elim h0.1 [
              | inl h ↦ cc
              | inr h1 ↦
                  elim h1.1 [
                    | inl h ↦ cc
                    | inr h2 ↦
                        elim h2.1 [
                          | inl h ↦ cc
                          | inr h3 ↦
                              elim h3.1 [
                                | inl h ↦ cc
                                | inr h4 ↦
                                    elim h4.1 [
                                      | inl h ↦ cc
                                      | inr h5 ↦
                                          elim h5.1 [ inl h ↦ cc | inr h6 ↦ let f = h6.1 in cc ]
                                    ]
                              ]
                        ]
                  ]
            ]
      ]

  levels_of : (nets : ℕ) (devices : List Device) (q v : Values) → 6 ≤ nets → Settles (circuit_of nets devices) drive q v
      → HasPadLevels drive v
  levels_of nets devices q v enough s = record {
    vdd = s.fixed 0 true (omega arith) refl;
    gnd = s.fixed 1 false (omega arith) refl;
    phi1 = s.fixed 2 drive.phi1 (omega arith) refl;
    phi2 = s.fixed 3 drive.phi2 (omega arith) refl;
    reset = s.fixed 4 drive.reset (omega arith) refl;
    line = s.fixed 5 (first_bit drive.lines) (omega arith) refl;
  }

  -- with one free net, and with two
  settles_one : (devices : List Device) (q v : Values) → HasPadLevels drive v
      → SettledAt (circuit_of 7 devices) drives q v 6 → Settles (circuit_of 7 devices) drive q v
  settles_one devices q v levels s = record {
    fixed = λ net level _ e. fixed_levels v levels net level e;
    free = λ net f. subst (λ m. SettledAt (circuit_of 7 devices) drives q v m) (omega (arith, free_above net f.1)) s;
  }

  settles_two : (devices : List Device) (q v : Values) → HasPadLevels drive v
      → SettledAt (circuit_of 8 devices) drives q v 6 → SettledAt (circuit_of 8 devices) drives q v 7
      → Settles (circuit_of 8 devices) drive q v
  settles_two devices q v levels s6 s7 = record {
    fixed = λ net level _ e. fixed_levels v levels net level e;
    free = λ net f.
        let above = free_above net f.1 in
        elim (cases_eq net 6) [
          | inl e ↦ subst (λ m. SettledAt (circuit_of 8 devices) drives q v m) (sym e) s6
          | inr e ↦ subst (λ m. SettledAt (circuit_of 8 devices) drives q v m) (omega arith) s7
        ];
  }

  -- the fixed level of a net that is this one
  level_of : (net to : ℕ) (level : Bool) → to ≡ net → fixed_level pads drives to ≡ Some level
      → fixed_level pads drives net ≡ Some level
  level_of net to level e f = rw e at f

  -- ---- the inverter

  inverter_joins : (v : Values) (b : ℕ) → Joins inverter.devices v 6 b → (v 5 ≡ true) × (b ≡ 1)
  inverter_joins v b (inl h) = (h.0, elim h.1 [ inl e ↦ sym e.1 | inr e ↦ absurd (omega arith) ])
  inverter_joins v b (inr h) = absurd h

  inverter_lone : (v : Values) → LoneNet inverter drives v 6 (v 5) true
  inverter_lone v = record {
    alone = λ b j f. let e = inverter_joins v b j in omega (arith, free_above b f.1);
    is_low = λ led. (inverter_joins v led.0 led.1).0;
    low_leads = λ e. (1, inl (e, inl (refl, refl)), refl);
    is_high = λ _. refl;
    high_leads = λ _. inr (inl refl);
  }

  pub inverter_inverts : (q v : Values) → Settles inverter drive q v ↔ (HasPadLevels drive v × (v 6 ≡ not (v 5)))
  inverter_inverts q v = (
    λ s. (
      levels_of 7 inverter.devices q v (omega arith) s,
      settled_lone inverter drives v q 6 (v 5) true (inverter_lone v) (s.free 6 (omega arith, refl)) ∙ level_is (v 5) (q 6),
    ),
    λ h. settles_one inverter.devices q v h.0
        (lone_settled inverter drives v q 6 (v 5) true (inverter_lone v) (h.1 ∙ sym (level_is (v 5) (q 6)))),
  )
    where
      level_is : (x charge : Bool) → lone_level x true charge ≡ not x
      level_is true charge = refl
      level_is false charge = refl

  -- values with the pads' levels, and these at the nets 6 and 7
  pad_values : Bool → Bool → Values
  pad_values z further net =
      get_or
      (true ∷ false ∷ drive.phi1 ∷ drive.phi2 ∷ drive.reset ∷ first_bit drive.lines ∷ z ∷ further ∷ [])
      net false

  pad_values-levels : (z further : Bool) → HasPadLevels drive (pad_values z further)
  unfolding pad_values
  pad_values-levels z further =
      record { vdd = refl; gnd = refl; phi1 = refl; phi2 = refl; reset = refl; line = refl }

  pub inverter_settles : (q : Values) → (v : Values) × Settles inverter drive q v
  unfolding pad_values
  inverter_settles q =
      let v = pad_values (not (first_bit drive.lines)) false in
      (v, (inverter_inverts q v).1 (pad_values-levels (not (first_bit drive.lines)) false, refl))

  pub ground_beats_load : (q v : Values) → Settles inverter drive q v → v 5 ≡ true → HasLoad inverter.devices 6 × (v 6 ≡ false)
  ground_beats_load q v s e = (inl refl, ((inverter_inverts q v).0 s).1 ∙ ap not e)

  -- ---- a pass device to x

  sampler_joins : (v : Values) (b : ℕ) → Joins sampler.devices v 6 b → (v 4 ≡ true) × (b ≡ 5)
  sampler_joins v b (inl h) = (h.0, elim h.1 [ inl e ↦ absurd (omega arith) | inr e ↦ sym e.1 ])
  sampler_joins v b (inr h) = absurd h

  sampler_lone : (v : Values) → HasPadLevels drive v → LoneNet sampler drives v 6 (v 4 && not (v 5)) (v 4 && v 5)
  sampler_lone v levels = record {
    alone = λ b j f. let e = sampler_joins v b j in omega (arith, free_above b f.1);
    is_low = λ led.
        let e = sampler_joins v led.0 led.1 in
        let low : v 5 ≡ false = ap v (sym e.1) ∙ fixed_levels v levels led.0 false led.2 in
        and_from _ _ e.0 (not_from_false _ low);
    low_leads = λ e.
        let parts = and_parts _ _ e in
        (5, inl (parts.0, inr (refl, refl)), ap (λ level. Some level) (sym levels.line ∙ not-true _ parts.1));
    is_high = λ led. elim led [
      | inl l ↦
          let e = sampler_joins v l.0 l.1 in
          and_from _ _ e.0 (ap v (sym e.1) ∙ fixed_levels v levels l.0 true l.2)
      | inr load ↦ absurd load
    ];
    high_leads = λ e.
        let parts = and_parts _ _ e in
        inl (5, inl (parts.0, inr (refl, refl)), ap (λ level. Some level) (sym levels.line ∙ parts.1));
  }

  pub sampler_holds : (q v : Values) → Settles sampler drive q v
      ↔ (HasPadLevels drive v × (v 4 ≡ true → v 6 ≡ v 5) × (v 4 ≡ false → v 6 ≡ q 6))
  sampler_holds q v = (
    λ s.
        let levels = levels_of 7 sampler.devices q v (omega arith) s in
        let e = settled_lone sampler drives v q 6 _ _ (sampler_lone v levels) (s.free 6 (omega arith, refl)) in
        (levels, λ open'. e ∙ follows (v 4) (v 5) (q 6) open', λ shut. e ∙ keeps (v 4) (v 5) (q 6) shut),
    λ h.
        let e : v 6 ≡ lone_level (v 4 && not (v 5)) (v 4 && v 5) (q 6) = elim (cases_Bool (v 4)) [
          | inl open' ↦ h.1 open' ∙ sym (follows (v 4) (v 5) (q 6) open')
          | inr shut ↦ h.2 shut ∙ sym (keeps (v 4) (v 5) (q 6) shut)
        ] in
        settles_one sampler.devices q v h.0 (lone_settled sampler drives v q 6 _ _ (sampler_lone v h.0) e),
  )
    where
      follows : (gate x charge : Bool) → gate ≡ true → lone_level (gate && not x) (gate && x) charge ≡ x
      follows true true charge e = refl
      follows true false charge e = refl
      follows false x charge e = absurd (cc)

      keeps : (gate x charge : Bool) → gate ≡ false → lone_level (gate && not x) (gate && x) charge ≡ charge
      keeps true x charge e = absurd (cc)
      keeps false x charge e = refl

  -- ---- a pass device that never conducts

  open_circuit_idle : (v : Values) → HasPadLevels drive v → LoneNet open_circuit drives v 6 false false
  open_circuit_idle v levels =
      idle open_circuit drives v 6 (λ b j. elim j [ inl h ↦ let e = levels.gnd in let f = h.0 in cc | inr h ↦ h ]) (λ load. load)

  pub open_circuit_holds : (q v : Values) → Settles open_circuit drive q v ↔ (HasPadLevels drive v × (v 6 ≡ q 6))
  open_circuit_holds q v = (
    λ s.
        let levels = levels_of 7 open_circuit.devices q v (omega arith) s in
        (levels, settled_lone open_circuit drives v q 6 false false (open_circuit_idle v levels) (s.free 6 (omega arith, refl))),
    λ h.
        settles_one open_circuit.devices q v h.0
        (lone_settled open_circuit drives v q 6 false false (open_circuit_idle v h.0) h.1),
  )

  -- ---- two nets with a pass device between them

  shared_joins : (v : Values) (a b : ℕ) → Joins shared_charge.devices v a b
      → (v 5 ≡ true) × (((a ≡ 6) × (b ≡ 7)) ⊎ ((a ≡ 7) × (b ≡ 6)))
  shared_joins v a b (inl h) =
      (h.0, elim h.1 [ inl e ↦ inl (sym e.0, sym e.1) | inr e ↦ inr (sym e.0, sym e.1) ])
  shared_joins v a b (inr h) = absurd h

  shared_idle : (v : Values) (net : ℕ) → v 5 ≡ false → LoneNet shared_charge drives v net false false
  shared_idle v net apart =
      idle shared_charge drives v net (λ b j. let e = (shared_joins v net b j).0 in cc) (λ load. load)

  -- one of the two nets
  abbrev Either : ℕ → Type 0
  Either net = (net ≡ 6) ⊎ (net ≡ 7)

  either_alike : (v : Values) (a m : ℕ) → Either a → Either m → v 6 ≡ v 7 → v m ≡ v a
  either_alike v a m (inl e) (inl f) same = cc
  either_alike v a m (inl e) (inr f) same = cc
  either_alike v a m (inr e) (inl f) same = cc
  either_alike v a m (inr e) (inr f) same = cc

  -- the group of either net is the two
  shared_group : (v : Values) (a m : ℕ) → Either a → Grouped shared_charge drives v a m → Either m
  shared_group v =
      group_within shared_charge drives v Either
      (λ a b _ j _. elim (shared_joins v a b j).1 [ inl e ↦ inr e.1 | inr e ↦ inl e.1 ])

  -- nothing pulls them
  shared_unled : (v : Values) (level : Bool) (a : ℕ) → Either a → Source shared_charge drives v level a → ⊥
  shared_unled v level a either led =
      let f = led.fixed in
      elim (shared_joins v led.from led.to led.joined).1 [
        | inl e ↦ let g : fixed_level pads drives 7 ≡ Some level = rw e.1 at f in cc
        | inr e ↦ let g : fixed_level pads drives 6 ≡ Some level = rw e.1 at f in cc
      ]

  shared_unloaded : (v : Values) (a : ℕ) → Loaded shared_charge drives v a → ⊥
  shared_unloaded v a loaded = loaded.load

  -- each reaches both
  shared_reach : (v : Values) (a m : ℕ) → v 5 ≡ true → Either a → Either m → Grouped shared_charge drives v a m
  shared_reach v a m joined (inl e) (inl f) = rw (e, f) (here 6)
  shared_reach v a m joined (inl e) (inr f) = rw (e, f) (step 6 7 7 (inl (joined, inl (refl, refl))) (omega arith, refl) (here 7))
  shared_reach v a m joined (inr e) (inl f) = rw (e, f) (step 7 6 6 (inl (joined, inr (refl, refl))) (omega arith, refl) (here 6))
  shared_reach v a m joined (inr e) (inr f) = rw (e, f) (here 7)

  shared_settled : (q v : Values) (a : ℕ) → Either a → v 6 ≡ v 7 → (q 6 ≡ q 7 → v 6 ≡ q 6) → v 5 ≡ true
      → SettledAt shared_charge drives q v a
  shared_settled q v a either same charge joined = record {
    low = λ led. absurd (shared_unled v false a either led);
    high = λ _ led. elim led [
      | inl l ↦ absurd (shared_unled v true a either l)
      | inr l ↦ absurd (shared_unloaded v a l)
    ];
    kept = λ _ _ level had.
        let six = had 6 (shared_reach v a 6 joined either (inl refl)) in
        let seven = had 7 (shared_reach v a 7 joined either (inr refl)) in
        either_alike v 6 a (inl refl) either same ∙ charge (six ∙ sym seven) ∙ six;
    alike = λ _ _ m g. either_alike v a m either (shared_group v a m either g) same;
  }

  pub charge_is_shared : (q v : Values) → Settles shared_charge drive q v
      ↔ (HasPadLevels drive v × (v 5 ≡ true → (v 6 ≡ v 7) × (q 6 ≡ q 7 → v 6 ≡ q 6)) × (v 5 ≡ false → (v 6 ≡ q 6) × (v 7 ≡ q 7)))
  charge_is_shared q v = (
    λ s. (levels_of 8 shared_charge.devices q v (omega arith) s, together s, apart s),
    λ h. elim (cases_Bool (v 5)) [
      | inl joined ↦
          let t = h.1 joined in
          settles_two shared_charge.devices q v h.0
          (shared_settled q v 6 (inl refl) t.0 t.1 joined) (shared_settled q v 7 (inr refl) t.0 t.1 joined)
      | inr off ↦
          let t = h.2 off in
          settles_two shared_charge.devices q v h.0
          (lone_settled shared_charge drives v q 6 false false (shared_idle v 6 off) t.0)
          (lone_settled shared_charge drives v q 7 false false (shared_idle v 7 off) t.1)
    ],
  )
    where
      unpulled : (level : Bool) → Source shared_charge drives v level 6 → ⊥
      unpulled level = shared_unled v level 6 (inl refl)

      unheld : IsPulledHigh shared_charge drives v 6 → ⊥
      unheld (inl led) = unpulled true led
      unheld (inr loaded) = shared_unloaded v 6 loaded

      together : Settles shared_charge drive q v → v 5 ≡ true → (v 6 ≡ v 7) × (q 6 ≡ q 7 → v 6 ≡ q 6)
      together s joined =
          let at = s.free 6 (omega arith, refl) in
          let reach = shared_reach v 6 7 joined (inl refl) (inr refl) in
          let had : q 6 ≡ q 7 → (m : ℕ) → Grouped shared_charge drives v 6 m → q m ≡ q 6 =
          λ same m g. either_alike q 6 m (inl refl) (shared_group v 6 m (inl refl) g) same in
          (sym (at.alike (unpulled false) unheld 7 reach), λ same. at.kept (unpulled false) unheld (q 6) (had same))

      apart : Settles shared_charge drive q v → v 5 ≡ false → (v 6 ≡ q 6) × (v 7 ≡ q 7)
      apart s off = (
        settled_lone shared_charge drives v q 6 false false (shared_idle v 6 off) (s.free 6 (omega arith, refl)),
        settled_lone shared_charge drives v q 7 false false (shared_idle v 7 off) (s.free 7 (omega arith, refl)),
      )

  pub shared_charge_is_free : (q : Values) → first_bit drive.lines ≡ true → q 6 ≢ q 7 → (level : Bool)
      → (v : Values) × Settles shared_charge drive q v × (v 6 ≡ level) × (v 7 ≡ level)
  unfolding pad_values
  shared_charge_is_free q line differ level =
      let v = pad_values level level in (
        v,
        (charge_is_shared q v).1
            (pad_values-levels level level, λ _. (refl, λ same. absurd (differ same)), λ off. let e = line in cc),
        refl,
        refl,
      )

  -- ---- two nets with a supply between them

  -- the supply is fixed, so the two nets lead to it and to ground alone
  split_joins : (v : Values) (a b : ℕ) → Joins split_by_supply.devices v a b → Either a
      → (v 5 ≡ true) × ((b ≡ 0) ⊎ ((a ≡ 6) × (b ≡ 1)))
  split_joins v a b (inl h) at =
      (h.0, elim h.1 [ inl e ↦ inl (sym e.1) | inr e ↦ absurd (elim at [ inl f ↦ omega arith | inr f ↦ omega arith ]) ])
  split_joins v a b (inr (inl h)) at =
      (h.0, elim h.1 [ inl e ↦ absurd (elim at [ inl f ↦ omega arith | inr f ↦ omega arith ]) | inr e ↦ inl (sym e.1) ])
  split_joins v a b (inr (inr (inl h))) at = (
    h.0,
    elim h.1 [
      | inl e ↦ inr (sym e.0, sym e.1)
      | inr e ↦ absurd (elim at [ inl f ↦ omega arith | inr f ↦ omega arith ])
    ],
  )
  split_joins v a b (inr (inr (inr h))) at = absurd h

  split_alone : (v : Values) (a b : ℕ) → Either a → Joins split_by_supply.devices v a b → IsFree split_by_supply drives b → ⊥
  split_alone v a b at j f =
      let above = free_above b f.1 in
      elim (split_joins v a b j at).1 [ inl e ↦ omega arith | inr e ↦ omega arith ]

  split_idle : (v : Values) (net : ℕ) → Either net → v 5 ≡ false → LoneNet split_by_supply drives v net false false
  split_idle v net at off =
      idle split_by_supply drives v net (λ b j. let e = (split_joins v net b j at).0 in cc) (λ load. load)

  split_six : (v : Values) → v 5 ≡ true → LoneNet split_by_supply drives v 6 true true
  split_six v joined = record {
    alone = λ b j f. split_alone v 6 b (inl refl) j f;
    is_low = λ _. refl;
    low_leads = λ _. (1, inr (inr (inl (joined, inl (refl, refl)))), refl);
    is_high = λ _. refl;
    high_leads = λ _. inl (0, inl (joined, inl (refl, refl)), refl);
  }

  split_seven : (v : Values) → v 5 ≡ true → LoneNet split_by_supply drives v 7 false true
  split_seven v joined = record {
    alone = λ b j f. split_alone v 7 b (inr refl) j f;
    is_low = λ led. elim (split_joins v 7 led.0 led.1 (inr refl)).1 [
      | inl e ↦ let g : fixed_level pads drives 0 ≡ Some false = rw e at led.2 in cc
      | inr e ↦ absurd (omega arith)
    ];
    low_leads = λ e. absurd (cc);
    is_high = λ _. refl;
    high_leads = λ _. inl (0, inr (inl (joined, inr (refl, refl))), refl);
  }

  pub fixed_net_blocks : (q v : Values) → Settles split_by_supply drive q v
      ↔ (HasPadLevels drive v × (v 5 ≡ true → (v 6 ≡ false) × (v 7 ≡ true)) × (v 5 ≡ false → (v 6 ≡ q 6) × (v 7 ≡ q 7)))
  fixed_net_blocks q v = (
    λ s.
        let six = s.free 6 (omega arith, refl) in
        let seven = s.free 7 (omega arith, refl) in (
          levels_of 8 split_by_supply.devices q v (omega arith) s,
          λ joined. (
            settled_lone split_by_supply drives v q 6 true true (split_six v joined) six,
            settled_lone split_by_supply drives v q 7 false true (split_seven v joined) seven,
          ),
          λ off. (
            settled_lone split_by_supply drives v q 6 false false (split_idle v 6 (inl refl) off) six,
            settled_lone split_by_supply drives v q 7 false false (split_idle v 7 (inr refl) off) seven,
          ),
        ),
    λ h. elim (cases_Bool (v 5)) [
      | inl joined ↦
          let t = h.1 joined in
          settles_two split_by_supply.devices q v h.0
          (lone_settled split_by_supply drives v q 6 true true (split_six v joined) t.0)
          (lone_settled split_by_supply drives v q 7 false true (split_seven v joined) t.1)
      | inr off ↦
          let t = h.2 off in
          settles_two split_by_supply.devices q v h.0
          (lone_settled split_by_supply drives v q 6 false false (split_idle v 6 (inl refl) off) t.0)
          (lone_settled split_by_supply drives v q 7 false false (split_idle v 7 (inr refl) off) t.1)
    ],
  )
