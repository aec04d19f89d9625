-- Devices on renamed nets.
use Rattle.std.proofs.Common.{◌≡◌, ℕ, ◌==◌, ◌&&◌, nat_le, Bool, true, false, if◌then◌else◌, List, [], ◌∷◌, map, Some, None, IsPermutation, refl, sym, ap, ◌∙◌, subst, arith}
use Rattle.std.proofs.lemmas.Bool.{eqb-true, eq-eqb, leb-true, leb-false}
use Rattle.std.proofs.lemmas.List.Sorted.{IsPermutation-map}
use Rattle.switch_net.specs.Circuit.{ascending, renamed_device}
use Rattle.switch_net.specs.declared.network.Net.{Net}
use Rattle.switch_net.specs.declared.network.Device.{Device}
use Rattle.switch_net.specs.declared.network.Device.TheVariants.{Pass, Load}
use Rattle.nmos_model.specs.Devices.{device_on, is_load}

-- ---- a device on renamed nets

exchange : (gate a b : Net) → ascending (Pass gate a b) ≡ ascending (Pass gate b a)
exchange gate a b = by_tests (nat_le a.0 b.0) (nat_le b.0 a.0) refl refl
  where
    by_tests : (s t : Bool) → nat_le a.0 b.0 ≡ s → nat_le b.0 a.0 ≡ t → ascending (Pass gate a b) ≡ ascending (Pass gate b a)
    by_tests true true e f =
        let low = leb-true a.0 b.0 e in
        let high = leb-true b.0 a.0 f in
        let same : a.0 ≡ b.0 = omega arith in
        let nets : a ≡ b = λ i. record { 0 = same i } in
        rw (e, f) (λ i. Pass gate (nets i) (sym nets i))
    by_tests true false e f = rw (e, f) refl
    by_tests false true e f = rw (e, f) refl
    by_tests false false e f = let low = leb-false a.0 b.0 e in let high = leb-false b.0 a.0 f in absurd (omega arith)

-- The order of the ends does not count after a renaming.
renamed_ascending : (rename : ℕ → ℕ) (d : Device) → ascending (renamed_device rename d) ≡ ascending (renamed_device rename (ascending d))
renamed_ascending rename (Load net) = refl
renamed_ascending rename (Pass gate a b) = by_test (nat_le a.0 b.0)
  where
    by_test : (t : Bool) → ascending (renamed_device rename (Pass gate a b)) ≡ ascending
        (renamed_device rename (if t then Pass gate a b else Pass gate b a))
    by_test true = refl
    by_test false = exchange (record { 0 = rename gate.0 }) (record { 0 = rename a.0 }) (record { 0 = rename b.0 })

map_renamed : (rename : ℕ → ℕ) (ds : List Device)
    → map ascending (map (renamed_device rename) ds) ≡ map (λ d. ascending (renamed_device rename d)) (map ascending ds)
map_renamed rename [] = refl
map_renamed rename (d ∷ ds) =
    ap (λ x. x ∷ map ascending (map (renamed_device rename) ds)) (renamed_ascending rename d)
    ∙ ap (λ l. ascending (renamed_device rename (ascending d)) ∷ l) (map_renamed rename ds)

pub permuted_renamed : (rename : ℕ → ℕ) (ds es : List Device) → IsPermutation (map ascending ds) (map ascending es)
    → IsPermutation (map ascending (map (renamed_device rename) ds)) (map ascending (map (renamed_device rename) es))
permuted_renamed rename ds es h =
    let moved = IsPermutation-map (λ d. ascending (renamed_device rename d)) (map ascending ds) (map ascending es) h in
    subst (λ l. IsPermutation l (map ascending (map (renamed_device rename) es))) (sym (map_renamed rename ds))
    (subst (IsPermutation (map (λ d. ascending (renamed_device rename d)) (map ascending ds))) (sym (map_renamed rename es)) moved)

both_true : (a b : Bool) → (a && b) ≡ true → (a ≡ true) × (b ≡ true)
both_true true b h = (refl, h)
both_true false b h = absurd (cc)

module _ (rename : ℕ → ℕ) (vdd : ℕ) where
  -- a load, by the test of its ends
  load_on : (gate a b : ℕ) → gate ≡ a → b ≡ vdd → device_on true (rename vdd) (rename gate) (rename a) (rename b) ≡ Some
      (Load (record { 0 = rename a }))
  load_on gate a b e f =
      let one = eq-eqb (rename gate) (rename a) (ap rename e) in
      let two = eq-eqb (rename b) (rename vdd) (ap rename f) in
      rw (one, two) refl

  load_back : (gate a b : ℕ) → gate ≡ b → a ≡ vdd → device_on true (rename vdd) (rename gate) (rename a) (rename b) ≡ Some
      (Load (record { 0 = rename b }))
  load_back gate a b e f = by_test (is_load (rename vdd) (rename gate) (rename a) (rename b)) refl
    where
      by_test : (t : Bool) → is_load (rename vdd) (rename gate) (rename a) (rename b) ≡ t
          → device_on true (rename vdd) (rename gate) (rename a) (rename b) ≡ Some (Load (record { 0 = rename b }))
      by_test true h =
          let both = both_true (rename gate == rename a) (rename b == rename vdd) h in
          let same = eqb-true (rename gate) (rename a) both.0 in
          let net : rename a ≡ rename b = sym same ∙ ap rename e in
          ap (λ (t : Bool). if t then Some (Load (record { 0 = rename a })) else if is_load (rename vdd) (rename gate) (rename b)
          (rename a) then Some (Load (record { 0 = rename b })) else None) h
          ∙ ap (λ (x : ℕ). Some (Load (record { 0 = x }))) net
      by_test false h =
          let one = eq-eqb (rename gate) (rename b) (ap rename e) in
          let two = eq-eqb (rename a) (rename vdd) (ap rename f) in
          let second : is_load (rename vdd) (rename gate) (rename b) (rename a) ≡ true = rw (one, two) refl in
          ap (λ (t : Bool). if t then Some (Load (record { 0 = rename a })) else if is_load (rename vdd) (rename gate) (rename b)
          (rename a) then Some (Load (record { 0 = rename b })) else None) h
          ∙ ap (λ (t : Bool). if t then Some (Load (record { 0 = rename b })) else None) second

  pub device_renamed : (depletion : Bool) (gate a b : ℕ) (d : Device) → device_on depletion vdd gate a b ≡ Some d
      → device_on depletion (rename vdd) (rename gate) (rename a) (rename b) ≡ Some (renamed_device rename d)
  device_renamed false gate a b d h =
      let is : Pass (record { 0 = gate }) (record { 0 = a }) (record { 0 = b }) ≡ d = cc in
      ap (λ (x : Device). Some (renamed_device rename x)) is
  device_renamed true gate a b d h = by_tests (is_load vdd gate a b) (is_load vdd gate b a) refl refl h
    where
      by_tests : (s t : Bool) → is_load vdd gate a b ≡ s → is_load vdd gate b a ≡ t
          → (if s then Some (Load (record { 0 = a })) else if t then Some (Load (record { 0 = b })) else None) ≡ Some d
          → device_on true (rename vdd) (rename gate) (rename a) (rename b) ≡ Some (renamed_device rename d)
      by_tests true t e f g =
          let both = both_true (gate == a) (b == vdd) e in
          let is : Load (record { 0 = a }) ≡ d = cc in
          load_on gate a b (eqb-true gate a both.0) (eqb-true b vdd both.1) ∙ ap (λ (x : Device). Some (renamed_device rename x)) is
      by_tests false true e f g =
          let both = both_true (gate == b) (a == vdd) f in
          let is : Load (record { 0 = b }) ≡ d = cc in
          load_back gate a b (eqb-true gate b both.0) (eqb-true a vdd both.1) ∙ ap (λ (x : Device). Some (renamed_device rename x)) is
      by_tests false false e f g = absurd (cc)
