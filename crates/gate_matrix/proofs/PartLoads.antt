-- The loads that stand with gates and those that stand alone are the loads of a part.
use Rattle.std.proofs.Common.{◌≡◌, ℕ, ◌==◌, ◌&&◌, ◌||◌, not, cond, Bool, true, false, if◌then◌else◌, inl, inr, List, [], ◌∷◌, ◌++◌, map, All, IsPermutation, refl, sym, ◌∙◌, ap, subst, append_assoc}
use Rattle.std.specs.Prelude.{flat_map, AllPairs, ◌≢◌}
use Rattle.std.specs.List.{filter, list_any}
use Rattle.std.proofs.lemmas.Bool.{cases_eq, cases_Bool, eq-eqb, ne_eqb}
use Rattle.std.proofs.lemmas.List.{map-append}
use Rattle.std.proofs.lemmas.List.Concat.{flat_map_single}
use Rattle.std.proofs.lemmas.List.Elements.{All-head, All-tail}
use Rattle.std.proofs.lemmas.List.Sorted.{IsPermutation-refl, IsPermutation-sym, IsPermutation-trans, IsPermutation-cons, IsPermutation-middle, IsPermutation-append, IsPermutation-append_comm, IsPermutation-map, IsPermutation-filter_both}
use Rattle.switch_net.specs.declared.network.Device.{Device}
use Rattle.nor_net.specs.Netlist.{NorGate}
use Rattle.nor_net.specs.Evaluation.{is_output}
use Rattle.nor_net.specs.Part.{PartTables, IsPart, clocked_device, part_devices}
use Rattle.gate_matrix.specs.PartRows.{has_load}
use Rattle.gate_matrix.proofs.RowDevices.{apart_from, apart_tail}
use Rattle.gate_matrix.proofs.PartDevices.{load_if, loaded, pulls, gate_loads, gates_drawn, lone_load, all_drawn}

-- ---- filters

equal : {X : Type 0} (xs ys : List X) → xs ≡ ys → IsPermutation xs ys
equal xs ys e = subst (IsPermutation xs) e (IsPermutation-refl xs)

filter_nothing : (xs : List ℕ) → filter (λ n. false) xs ≡ []
filter_nothing [] = refl
filter_nothing (x ∷ xs) = filter_nothing xs

module _ (p q : ℕ → Bool) where
  filter_step : (n : ℕ) (xs : List ℕ) → p n ≡ q n → filter p xs ≡ filter q xs → filter p (n ∷ xs) ≡ filter q (n ∷ xs)
  filter_step n xs e rest = ap (λ t. cond t (n ∷ filter p xs) (filter p xs)) e ∙ ap (λ l. cond (q n) (n ∷ l) l) rest

  filter_all : ((n : ℕ) → p n ≡ q n) → (xs : List ℕ) → filter p xs ≡ filter q xs
  filter_all each [] = refl
  filter_all each (n ∷ xs) = filter_step n xs (each n) (filter_all each xs)

  module _ (x : ℕ) (others : (n : ℕ) → (n ≡ x → ⊥) → p n ≡ q n) where
    filter_beside : (xs : List ℕ) → All (λ n. x ≢ n) xs → filter p xs ≡ filter q xs
    filter_beside [] apart = refl
    filter_beside (n ∷ xs) apart =
        let here = All-head (λ k. x ≢ k) n xs apart in
        filter_step n xs (others n (λ e. here (sym e))) (filter_beside xs (All-tail (λ k. x ≢ k) n xs apart))

    -- p passes what q does, and x where it is there
    filter_one : p x ≡ true → q x ≡ false → (xs : List ℕ) → AllPairs (λ a b. a ≢ b) xs
        → IsPermutation (filter p xs) ((if list_any (λ n. n == x) xs then x ∷ [] else []) ++ filter q xs)
    filter_one passes fails [] distinct = IsPermutation-refl []
    filter_one passes fails (n ∷ xs) distinct = elim (cases_eq n x) [
      | inl e ↦
          let test : (n == x) ≡ true = eq-eqb n x e in
          let apart : All (λ k. x ≢ k) xs = subst (λ (m : ℕ). All (λ k. m ≢ k) xs) e (apart_from n xs distinct) in
          let left : filter p (n ∷ xs) ≡ x ∷ filter q xs =
          ap (λ t. cond t (n ∷ filter p xs) (filter p xs)) (ap p e ∙ passes) ∙ ap (λ (m : ℕ). m ∷ filter p xs) e
          ∙ ap (λ l. x ∷ l) (filter_beside xs apart) in
          let right : (if list_any (λ k. k == x) (n ∷ xs) then x ∷ [] else []) ++ filter q (n ∷ xs) ≡ x ∷ filter q xs =
          ap (λ t. (if t || list_any (λ k. k == x) xs then x ∷ [] else []) ++ filter q (n ∷ xs)) test
          ∙ ap (λ t. x ∷ cond t (n ∷ filter q xs) (filter q xs)) (ap q e ∙ fails) in
          equal (filter p (n ∷ xs)) _ (left ∙ sym right)
      | inr h ↦
          let test : (n == x) ≡ false = ne_eqb n x h in
          let ones = if list_any (λ k. k == x) xs then x ∷ [] else [] in
          let rest = filter_one passes fails xs (apart_tail n xs distinct) in
          let before : IsPermutation (filter p (n ∷ xs)) (ones ++ filter q (n ∷ xs)) =
          with_one (p n) (q n) (others n h) n (filter p xs) ones (filter q xs) rest in
          subst (λ t. IsPermutation (filter p (n ∷ xs)) ((if t || list_any (λ k. k == x) xs then x ∷ [] else []) ++ filter q (n ∷ xs)))
          (sym test) before
    ]
      where
        with_one : (s t : Bool) → s ≡ t → (m : ℕ) (ps ones qs : List ℕ) → IsPermutation ps (ones ++ qs)
            → IsPermutation (cond s (m ∷ ps) ps) (ones ++ cond t (m ∷ qs) qs)
        with_one true true e m ps ones qs rest =
            IsPermutation-trans (m ∷ ps) (m ∷ (ones ++ qs)) (ones ++ m ∷ qs) (IsPermutation-cons m ps (ones ++ qs) rest)
            (IsPermutation-sym (ones ++ m ∷ qs) (m ∷ (ones ++ qs)) (IsPermutation-middle ones m qs))
        with_one false false e m ps ones qs rest = rest
        with_one true false e m ps ones qs rest = absurd (cc)
        with_one false true e m ps ones qs rest = absurd (cc)

-- ---- loads of gates

pub output_more : (gates : List NorGate) (gate : NorGate) (n : ℕ) → is_output (gates ++ gate ∷ []) n ≡ (is_output gates n || (gate.out == n))
output_more [] gate n = elim (gate.out == n) as (λ t. (t || false) ≡ t) [ true ↦ refl | false ↦ refl ]
output_more (one ∷ gates) gate n =
    ap (λ t. (one.out == n) || t) (output_more gates gate n)
    ∙ (elim (one.out == n) as (λ t. (t || (is_output gates n || (gate.out == n))) ≡ ((t || is_output gates n) || (gate.out == n))) [
      | true ↦
          refl
      | false ↦ refl
    ])

pub and_right : (t : Bool) → (t && true) ≡ t
and_right true = refl
and_right false = refl

pub and_none : (t : Bool) → (t && false) ≡ false
and_none true = refl
and_none false = refl

pub or_yes : (t : Bool) → (t || true) ≡ true
or_yes true = refl
or_yes false = refl

pub or_no : (t : Bool) → (t || false) ≡ t
or_no true = refl
or_no false = refl

-- outputs of these gates and of no earlier one
abbrev new_output : List NorGate → List NorGate → ℕ → Bool
new_output earlier gates n = is_output gates n && not (is_output earlier n)

module _ (part : PartTables) (is : IsPart part) where
  gates_have : (earlier gates : List NorGate) → IsPermutation (gate_loads part earlier gates) (filter (new_output earlier gates) part.loads)
  gates_have earlier [] = equal [] (filter (new_output earlier []) part.loads) (sym (filter_nothing part.loads))
  gates_have earlier (gate ∷ gates) =
      let out = gate.out in
      let more = earlier ++ gate ∷ [] in
      let p = new_output earlier (gate ∷ gates) in
      let q = new_output more gates in
      let rest = gates_have more gates in
      let others : (n : ℕ) → (n ≡ out → ⊥) → p n ≡ q n =
      λ n h.
      let test : (out == n) ≡ false = ne_eqb out n (λ e. h (sym e)) in
      let after : is_output more n ≡ is_output earlier n = output_more earlier gate n ∙ ap (λ t. is_output earlier n || t) test
      ∙ or_no (is_output earlier n) in
      ap (λ t. (t || is_output gates n) && not (is_output earlier n)) test ∙ ap (λ t. is_output gates n && not t) (sym after) in
      let same : (out == out) ≡ true = eq-eqb out out refl in
      let last : is_output more out ≡ true = output_more earlier gate out ∙ ap (λ t. is_output earlier out || t) same
      ∙ or_yes (is_output earlier out) in
      let fails : q out ≡ false = ap (λ t. is_output gates out && not t) last ∙ and_none (is_output gates out) in
      let found = list_any (λ net. net == out) part.loads in
      elim (cases_Bool (is_output earlier out)) [
        | inl old ↦
            let none : has_load part earlier gate ≡ false = ap (λ t. found && not t) old ∙ and_none found in
            let p_out : p out ≡ false = ap (λ t. is_output (gate ∷ gates) out && not t) old ∙ and_none (is_output (gate ∷ gates) out) in
            let each : (n : ℕ) → p n ≡ q n =
            λ n. elim (cases_eq n out) [ inl e ↦ ap p e ∙ p_out ∙ sym fails ∙ ap q (sym e) | inr h ↦ others n h ] in
            subst (λ t. IsPermutation (load_if part t out ++ gate_loads part more gates) (filter p part.loads)) (sym none)
            (subst (IsPermutation (gate_loads part more gates)) (sym (filter_all p q each part.loads)) rest)
        | inr new ↦
            let some : has_load part earlier gate ≡ found = ap (λ t. found && not t) new ∙ and_right found in
            let passes : p out ≡ true = ap (λ t. (t || is_output gates out) && not (is_output earlier out)) same ∙ ap (λ t. not t) new in
            let one = filter_one p q out others passes fails part.loads is.loads_once in
            subst (λ t. IsPermutation (load_if part t out ++ gate_loads part more gates) (filter p part.loads)) (sym some)
            (IsPermutation-trans (load_if part found out ++ gate_loads part more gates) (load_if part found out ++ filter q part.loads)
            (filter p part.loads)
            (IsPermutation-append (load_if part found out) (load_if part found out) (gate_loads part more gates) (filter q part.loads)
            (IsPermutation-refl (load_if part found out)) rest)
            (IsPermutation-sym (filter p part.loads) (load_if part found out ++ filter q part.loads) one))
      ]

  -- ---- all loads

  lone_loads : (nets : List ℕ) → flat_map (lone_load part) nets ≡ map (loaded part) (filter (λ n. not (is_output part.gates n)) nets)
  lone_loads [] = refl
  lone_loads (net ∷ nets) =
      ap (λ l. lone_load part net ++ l) (lone_loads nets)
      ∙ (elim (not (is_output part.gates net)) as (λ t. map (loaded part) (load_if part t net) ++ map (loaded part)
      (filter (λ n. not (is_output part.gates n)) nets)
      ≡ map (loaded part) (cond t (net ∷ filter (λ n. not (is_output part.gates n)) nets) (filter (λ n. not (is_output part.gates n)) nets)))
      [ true ↦ refl | false ↦ refl ])

  loads_permuted : IsPermutation (map (loaded part) (gate_loads part [] part.gates) ++ flat_map (lone_load part) part.loads)
      (map (loaded part) part.loads)
  loads_permuted =
      let out = is_output part.gates in
      let alone = λ (n : ℕ). not (is_output part.gates n) in
      let first : IsPermutation (gate_loads part [] part.gates) (filter out part.loads) =
      subst (IsPermutation (gate_loads part [] part.gates))
      (filter_all (new_output [] part.gates) out (λ n. and_right (is_output part.gates n)) part.loads) (gates_have [] part.gates) in
      let both = IsPermutation-append (gate_loads part [] part.gates) (filter out part.loads) (filter alone part.loads)
      (filter alone part.loads) first (IsPermutation-refl (filter alone part.loads)) in
      let whole = IsPermutation-trans (gate_loads part [] part.gates ++ filter alone part.loads)
      (filter out part.loads ++ filter alone part.loads) part.loads both
      (IsPermutation-sym part.loads (filter out part.loads ++ filter alone part.loads)
      (IsPermutation-filter_both out alone (λ n. refl) part.loads)) in
      let joined : map (loaded part) (gate_loads part [] part.gates ++ filter alone part.loads) ≡ map (loaded part)
      (gate_loads part [] part.gates) ++ flat_map (lone_load part) part.loads =
      map-append (loaded part) (gate_loads part [] part.gates) (filter alone part.loads)
      ∙ ap (λ l. map (loaded part) (gate_loads part [] part.gates) ++ l) (sym (lone_loads part.loads)) in
      subst (λ l. IsPermutation l (map (loaded part) part.loads)) joined (IsPermutation-map (loaded part) _ part.loads whole)

  -- ---- all devices

  gates_permuted : (earlier gates : List NorGate)
      → IsPermutation (gates_drawn part earlier gates) (flat_map (pulls part) gates ++ map (loaded part) (gate_loads part earlier gates))
  gates_permuted earlier [] = IsPermutation-refl []
  gates_permuted earlier (gate ∷ gates) =
      let load = load_if part (has_load part earlier gate) gate.out in
      let first = map (loaded part) load in
      let down = pulls part gate in
      let more = earlier ++ gate ∷ [] in
      let later = gates_drawn part more gates in
      let downs = flat_map (pulls part) gates in
      let loads = map (loaded part) (gate_loads part more gates) in
      let rest = gates_permuted more gates in
      let front = IsPermutation-append (first ++ down) (down ++ first) later (downs ++ loads) (IsPermutation-append_comm first down) rest in
      let middle : IsPermutation ((down ++ first) ++ (downs ++ loads)) ((down ++ downs) ++ (first ++ loads)) = inner down first downs loads in
      let split : map (loaded part) (load ++ gate_loads part more gates) ≡ first ++ loads =
      map-append (loaded part) load (gate_loads part more gates) in
      subst (λ l. IsPermutation ((first ++ down) ++ later) ((down ++ downs) ++ l)) (sym split)
      (IsPermutation-trans ((first ++ down) ++ later) ((down ++ first) ++ (downs ++ loads)) ((down ++ downs) ++ (first ++ loads)) front middle)
    where
      inner : (a b c d : List Device) → IsPermutation ((a ++ b) ++ (c ++ d)) ((a ++ c) ++ (b ++ d))
      inner a b c d =
          let left : a ++ ((b ++ c) ++ d) ≡ (a ++ b) ++ (c ++ d) = simp append_assoc in
          let right : a ++ ((c ++ b) ++ d) ≡ (a ++ c) ++ (b ++ d) = simp append_assoc in
          let swap = IsPermutation-append a a ((b ++ c) ++ d) ((c ++ b) ++ d) (IsPermutation-refl a)
          (IsPermutation-append (b ++ c) (c ++ b) d d (IsPermutation-append_comm b c) (IsPermutation-refl d)) in
          subst (λ l. IsPermutation l ((a ++ c) ++ (b ++ d))) left (subst (IsPermutation (a ++ ((b ++ c) ++ d))) right swap)

  pub part_permuted : IsPermutation (all_drawn part) (part_devices part)
  part_permuted =
      let drawn = gates_drawn part [] part.gates in
      let lone = flat_map (lone_load part) part.loads in
      let clocked = flat_map (λ transfer. clocked_device part transfer ∷ []) part.transfers in
      let downs = flat_map (pulls part) part.gates in
      let loads = map (loaded part) (gate_loads part [] part.gates) in
      let all = map (loaded part) part.loads in
      let one = IsPermutation-append drawn (downs ++ loads) lone lone (gates_permuted [] part.gates) (IsPermutation-refl lone) in
      let two = subst (λ l. IsPermutation (drawn ++ lone) l) (append_assoc downs loads lone) one in
      let three = IsPermutation-trans (drawn ++ lone) (downs ++ (loads ++ lone)) (downs ++ all) two
      (IsPermutation-append downs downs (loads ++ lone) all (IsPermutation-refl downs) loads_permuted) in
      let four = IsPermutation-append (drawn ++ lone) (downs ++ all) clocked clocked three (IsPermutation-refl clocked) in
      subst (λ l. IsPermutation ((drawn ++ lone) ++ clocked) ((downs ++ all) ++ l)) (flat_map_single (clocked_device part) part.transfers) four
