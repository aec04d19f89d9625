-- The words of `demo`.
use Rattle.std.proofs.Common.{◌≡◌, ℕ, ◌+◌, ◌≤◌, Bool, true, false, ◌&&◌, nat_le, List, [], ◌∷◌, length, Some, None, cond, refl, ap, ◌∙◌, arith, if◌then◌else◌}
use Rattle.std.specs.Prelude.{Ok, Err, codes, take_while}
use Rattle.std.specs.List.{list_all}
use Rattle.std.specs.Str.Parse.{digits_value}
use Rattle.std.proofs.lemmas.Bool.{le-leb, leb-true}
use Rattle.std.proofs.lemmas.List.Sums.{take_while-cons}
use Rattle.rx_text.specs.NumberInText.{is_digit, number_at}
use Rattle.rx_text.specs.declared.number.NumberFault.TheVariants.{NumberTooLarge}
use Rattle.rxc_program.specs.DemoWords.{is_leaf_count, is_number, is_start}
use Rattle.rxc_program.specs.Naming.{Names, demo_named, kept}

-- ---- numbers

both : (a b : Bool) → (a && b) ≡ true → (a ≡ true) × (b ≡ true)
both true b h = (refl, h)
both false b h = (let clash : false ≡ true = h in cc)

pub count_bounds : (word : List ℕ) → is_leaf_count word ≡ true → (1 ≤ digits_value 10 word) × (digits_value 10 word ≤ 4096)
unfolding is_number
count_bounds word h =
    let v = digits_value 10 word in
    let last = both (list_all is_digit word && nat_le 1 (length word) && nat_le (length word) 4 && nat_le 1 v) (nat_le v 4096) h in
    let least = both (list_all is_digit word && nat_le 1 (length word) && nat_le (length word) 4) (nat_le 1 v) last.0 in
    (leb-true 1 v least.1, leb-true v 4096 last.1)

-- a count that was read is at most 4096
pub count_within : (word : List ℕ) (count : ℕ) → (if is_leaf_count word then Some (digits_value 10 word) else None) ≡ Some count → count ≤ 4096
count_within word count is = by (is_leaf_count word) refl is
  where
    by : (b : Bool) → is_leaf_count word ≡ b → (if b then Some (digits_value 10 word) else None) ≡ Some count → count ≤ 4096
    by true e read = (let same : digits_value 10 word ≡ count = cc in omega (arith, same, (count_bounds word e).1))
    by false e read = cc

all_taken : (word : List ℕ) → list_all is_digit word ≡ true → take_while is_digit word ≡ word
all_taken [] h = refl
all_taken (byte ∷ word) h =
    let parts = both (is_digit byte) (list_all is_digit word) h in
    take_while-cons is_digit byte word ∙ ap (λ b. cond b (byte ∷ take_while is_digit word) []) parts.0
    ∙ ap (λ bytes. byte ∷ bytes) (all_taken word parts.1)

pub too_long : (digits least most : ℕ) (word : List ℕ) → nat_le (length word) digits ≡ false → is_number digits least most word ≡ false
unfolding is_number
too_long digits least most word h = rw h (by (list_all is_digit word && nat_le 1 (length word)) (nat_le least (digits_value 10 word)) (nat_le (digits_value 10 word) most))
  where
    by : (a c d : Bool) → (a && false && c && d) ≡ false
    by true c d = refl
    by false c d = refl

pub not_digits : (digits least most : ℕ) (word : List ℕ) → list_all is_digit word ≡ false → is_number digits least most word ≡ false
unfolding is_number
not_digits digits least most word h = rw h refl

pub read_number_is : (digits least most : ℕ) (word : List ℕ) → list_all is_digit word ≡ true → nat_le (length word) digits ≡ true
    → kept least (number_at word 0 most) ≡ (if is_number digits least most word then Some (digits_value 10 word) else None)
unfolding is_number
read_number_is digits least most [] all few = refl
read_number_is digits least most (first ∷ rest) all few =
    let v = digits_value 10 (first ∷ rest) in
    rw (all_taken (first ∷ rest) all, all, le-leb 1 (length (first ∷ rest)) (omega arith), few) (by v (nat_le least v) refl (nat_le v most))
  where
    by : (v : ℕ) (a : Bool) → nat_le least v ≡ a → (b : Bool)
        → kept least (if b then Ok (v, 0 + length (first ∷ rest)) else Err NumberTooLarge) ≡ (if a && b then Some v else None)
    by v true e true = rw e refl
    by v true e false = refl
    by v false e true = rw e refl
    by v false e false = refl

-- ---- commands

pub names_demo : (words : List (List ℕ)) → Names (codes "demo" ∷ words) (demo_named words)
names_demo [] = record { command = tt; leaves = tt; wrong = refl }
names_demo (start ∷ []) = by (is_start start) refl
  where
    by : (b : Bool) → is_start start ≡ b → Names (codes "demo" ∷ (start ∷ [])) (demo_named (start ∷ []))
    by true e = record { command = rw e tt; leaves = rw e tt; wrong = rw e refl }
    by false e = record { command = rw e tt; leaves = rw e tt; wrong = rw e refl }
names_demo (start ∷ (leaves ∷ [])) = by (is_start start) refl (is_leaf_count leaves) refl
  where
    by : (b : Bool) → is_start start ≡ b → (d : Bool) → is_leaf_count leaves ≡ d
        → Names (codes "demo" ∷ (start ∷ (leaves ∷ []))) (demo_named (start ∷ (leaves ∷ [])))
    by true e true f = record { command = rw (e, f) refl; leaves = rw (e, f) (count_bounds leaves f); wrong = rw (e, f) refl }
    by true e false f = record { command = rw (e, f) tt; leaves = rw (e, f) tt; wrong = rw (e, f) refl }
    by false e d f = record { command = rw e tt; leaves = rw e tt; wrong = rw e refl }
names_demo (start ∷ (leaves ∷ (more ∷ words))) = by (is_start start) refl (is_leaf_count leaves) refl
  where
    by : (b : Bool) → is_start start ≡ b → (d : Bool) → is_leaf_count leaves ≡ d
        → Names (codes "demo" ∷ (start ∷ (leaves ∷ (more ∷ words)))) (demo_named (start ∷ (leaves ∷ (more ∷ words))))
    by true e true f = record { command = rw (e, f) tt; leaves = rw (e, f) tt; wrong = rw (e, f) refl }
    by true e false f = record { command = rw (e, f) tt; leaves = rw (e, f) tt; wrong = rw (e, f) refl }
    by false e d f = record { command = rw e tt; leaves = rw e tt; wrong = rw e refl }
