-- Tests of lists of slots, and what they tell.
use Rattle.std.proofs.Common.{◌≡◌, ℕ, zero, suc, ◌+◌, ◌<◌, ◌&&◌, ◌||◌, not, Bool, true, false, nat_lt, List, [], ◌∷◌, refl, subst, arith}
use Rattle.std.specs.List.{AllByRecursion, range_with_len, list_any, list_all}
use Rattle.std.proofs.lemmas.Bool.{and_parts, cases_eq, ltb-true}
use Rattle.position_nfa.proofs.Ranges.{Pairs}
use Rattle.position_nfa.proofs.Banks.{Bank, Slot, slot, is_slot, width_of}

not_is : (b : Bool) → not b ≡ true → b ≡ false
not_is true e = absurd (cc)
not_is false e = refl

-- every slot is a column of its bank
abbrev pub fit : List Bank → List Slot → Bool
fit ks slots = list_all (λ s. nat_lt s.column (width_of ks s.bank)) slots

pub slots_fit : (ks : List Bank) (slots : List Slot) → fit ks slots ≡ true → AllByRecursion (λ (s : Slot). s.column < width_of ks s.bank) slots
slots_fit ks [] h = tt
slots_fit ks (s ∷ slots) h =
    let both = and_parts (nat_lt s.column (width_of ks s.bank)) (fit ks slots) h in
    (ltb-true s.column (width_of ks s.bank) both.0, slots_fit ks slots both.1)

-- the slot is not among these
abbrev pub is_off : Slot → List Slot → Bool
is_off s slots = list_all (λ t. not (is_slot s t)) slots

pub slot_off : (s : Slot) (slots : List Slot) → is_off s slots ≡ true → AllByRecursion (λ t. is_slot s t ≡ false) slots
slot_off s [] h = tt
slot_off s (t ∷ slots) h =
    let both = and_parts (not (is_slot s t)) (is_off s slots) h in
    (not_is (is_slot s t) both.0, slot_off s slots both.1)

-- no slot stands twice
abbrev pub differ : List Slot → Bool
differ [] = true
differ (s ∷ slots) = is_off s slots && differ slots

pub slots_apart : (slots : List Slot) → differ slots ≡ true → Pairs (λ s t. is_slot s t ≡ false) slots
slots_apart [] h = tt
slots_apart (s ∷ slots) h =
    let both = and_parts (is_off s slots) (differ slots) h in
    (slot_off s slots both.0, slots_apart slots both.1)

-- every column of the banks is among the slots, where the first bank has this number
abbrev pub covered : ℕ → List Bank → List Slot → Bool
covered b [] slots = true
covered b (k ∷ ks) slots = list_all (λ o. list_any (λ s. is_slot s (slot b o)) slots) (range_with_len 0 k.width) && covered (suc b) ks slots

in_range : (f : ℕ → Bool) (a n o : ℕ) → list_all f (range_with_len a n) ≡ true → o < n → f (a + o) ≡ true
in_range f a zero o h lt = absurd (omega (arith, lt))
in_range f a (suc n) zero h lt =
    let both = and_parts (f a) (list_all f (range_with_len (a + 1) n)) h in
    let same : a + 0 ≡ a = omega arith in
    rw same both.0
in_range f a (suc n) (suc o) h lt =
    let both = and_parts (f a) (list_all f (range_with_len (a + 1) n)) h in
    let same : a + suc o ≡ a + 1 + o = omega arith in
    rw same (in_range f (a + 1) n o both.1 (omega (arith, lt)))

pub covers : (b : ℕ) (ks : List Bank) (slots : List Slot) (j o : ℕ) → covered b ks slots ≡ true → o < width_of ks j
    → list_any (λ s. is_slot s (slot (b + j) o)) slots ≡ true
covers b [] slots j o h lt = absurd (omega (arith, lt))
covers b (k ∷ ks) slots zero o h lt =
    let both = and_parts (list_all (λ o. list_any (λ s. is_slot s (slot b o)) slots) (range_with_len 0 k.width)) (covered (suc b) ks slots) h in
    let same : b + 0 ≡ b = omega arith in
    let here = in_range (λ o. list_any (λ s. is_slot s (slot b o)) slots) 0 k.width o both.0 lt in
    let at : 0 + o ≡ o = omega arith in
    rw same (subst (λ x. list_any (λ s. is_slot s (slot b x)) slots ≡ true) at here)
covers b (k ∷ ks) slots (suc j) o h lt =
    let both = and_parts (list_all (λ o. list_any (λ s. is_slot s (slot b o)) slots) (range_with_len 0 k.width)) (covered (suc b) ks slots) h in
    let same : b + suc j ≡ suc b + j = omega arith in
    rw same (covers (suc b) ks slots j o both.1 lt)
