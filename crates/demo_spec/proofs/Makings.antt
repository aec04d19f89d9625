-- What draws keep of the expressions that they make, and how often they combine.
use Rattle.std.proofs.Common.{◌≡◌, ℕ, zero, suc, ◌+◌, ◌-◌, ◌<◌, ◌≤◌, ◌==◌, ◌%◌, Bool, true, false, List, [], ◌∷◌, length, flat_map, refl, ap, sym, ◌∙◌, arith, length-append, if◌then◌else◌}
use Rattle.rx_lang.specs.Expression.{Expr, symbol, sequence, union, star, plus, optional, marked}
use Rattle.std.specs.Prelude.{Result, Ok, Err, IfOk}
use Rattle.std.proofs.lemmas.List.{length-map}
use Rattle.rx_lang.specs.Copies.{occurrences}
use Rattle.rx_lang.specs.Tables.{tree_at, trees}
use Rattle.demo_spec.specs.Generator.{Making, combined, combined_all, combined_by_draws, combined_times, drawn, joined, marked_entry, next_seed, on_top, postfixed, pushed, with_leaf, with_leaves}
use Rattle.demo_spec.specs.Piles.{IsSmall, Made, Piled, leaf_count, making, stack_of}

abbrev after_draw : Making → Making
after_draw m = record m { seed = next_seed m.seed }

-- ---- symbols

leaves_cons : (e : Expr) (es : List Expr) → leaf_count (e ∷ es) ≡ length (occurrences e) + leaf_count es
leaves_cons e es = length-append (occurrences e) (flat_map occurrences es)

postfix_leaves : (k : ℕ) (e : Expr) → occurrences (postfixed k e) ≡ occurrences e
postfix_leaves k e = by (k == 0) (k == 1) (k == 2) (k == 3) (k == 4)
  where
    by : (a b c d f : Bool)
        → occurrences (if a then star e else if b then plus e else if c then optional e
        else if d then marked e 0 else if f then marked e 1 else e)
        ≡ occurrences e
    by true b c d f = refl
    by false true c d f = refl
    by false false true d f = refl
    by false false false true f = refl
    by false false false false true = refl
    by false false false false false = refl

pub top_leaves : (k : ℕ) (es : List Expr) → leaf_count (on_top (postfixed k) es) ≡ leaf_count es
top_leaves k [] = refl
top_leaves k (e ∷ es) =
    leaves_cons (postfixed k e) es ∙ ap (λ s. length s + leaf_count es) (postfix_leaves k e) ∙ sym (leaves_cons e es)

pub joined_leaves : (k : ℕ) (es : List Expr) → leaf_count (joined k es) ≡ leaf_count es
joined_leaves k [] = refl
joined_leaves k (e ∷ []) = refl
joined_leaves k (r ∷ (l ∷ es)) = by (k == 0)
  where
    by : (b : Bool) → leaf_count ((if b then sequence l r else union l r) ∷ es) ≡ leaf_count (r ∷ (l ∷ es))
    by true = omega (
      arith,
      leaves_cons (sequence l r) es,
      length-append (occurrences l) (occurrences r),
      leaves_cons r (l ∷ es),
      leaves_cons l es,
    )
    by false = omega (
      arith,
      leaves_cons (union l r) es,
      length-append (occurrences l) (occurrences r),
      leaves_cons r (l ∷ es),
      leaves_cons l es,
    )

pub combined_leaves : (m : Making) → leaf_count (combined m).stack ≡ leaf_count m.stack
combined_leaves m =
    top_leaves (drawn (next_seed m.seed) % 8) (joined (drawn m.seed % 2) m.stack) ∙ joined_leaves (drawn m.seed % 2) m.stack

by_draws_leaves : (n : ℕ) (m : Making) → leaf_count (combined_by_draws n m).stack ≡ leaf_count m.stack
by_draws_leaves zero m = refl
by_draws_leaves (suc n) m = by (drawn m.seed % 2 == 1) (by_draws_leaves n (combined (after_draw m)))
  where
    by : (b : Bool) → leaf_count (combined_by_draws n (combined (after_draw m))).stack ≡ leaf_count (combined (after_draw m)).stack
        → leaf_count (if b then combined_by_draws n (combined (after_draw m)) else after_draw m).stack ≡ leaf_count m.stack
    by true more = more ∙ combined_leaves (after_draw m)
    by false more = refl

pub pushed_leaves : (m : Making) → leaf_count (pushed m).stack ≡ suc (leaf_count m.stack)
pushed_leaves m =
    omega (
      arith,
      top_leaves (drawn (next_seed m.seed) % 8) (symbol (drawn m.seed % 4) ∷ m.stack),
      leaves_cons (symbol (drawn m.seed % 4)) m.stack,
    )

pub leaf_more : (m : Making) → leaf_count (with_leaf m).stack ≡ suc (leaf_count m.stack)
leaf_more m = by_draws_leaves (length m.stack) (pushed m) ∙ pushed_leaves m

all_leaves : (n : ℕ) (m : Making) → leaf_count (with_leaves n m).stack ≡ leaf_count m.stack + n
all_leaves zero m = omega arith
all_leaves (suc n) m = omega (arith, all_leaves n (with_leaf m), leaf_more m)

times_leaves : (n : ℕ) (m : Making) → leaf_count (combined_times n m).stack ≡ leaf_count m.stack
times_leaves zero m = refl
times_leaves (suc n) m = times_leaves n (combined m) ∙ combined_leaves m

-- ---- how many expressions

pub length-on_top : (f : Expr → Expr) (es : List Expr) → length (on_top f es) ≡ length es
length-on_top f [] = refl
length-on_top f (e ∷ es) = refl

pub length-joined : (k : ℕ) (es : List Expr) → 2 ≤ length es → suc (length (joined k es)) ≡ length es
length-joined k [] h = absurd (omega (arith, h))
length-joined k (e ∷ []) h = absurd (omega (arith, h))
length-joined k (r ∷ (l ∷ es)) h = refl

pub length-combined : (m : Making) → 2 ≤ length m.stack → suc (length (combined m).stack) ≡ length m.stack
length-combined m h =
    ap suc (length-on_top (postfixed (drawn (next_seed m.seed) % 8)) (joined (drawn m.seed % 2) m.stack)) ∙ length-joined (drawn m.seed % 2) m.stack h

some_joined : (k : ℕ) (es : List Expr) → 1 ≤ length es → 1 ≤ length (joined k es)
some_joined k [] h = h
some_joined k (e ∷ []) h = h
some_joined k (r ∷ (l ∷ es)) h = omega arith

some_combined : (m : Making) → 1 ≤ length m.stack → 1 ≤ length (combined m).stack
some_combined m h = omega (
  arith,
  length-on_top (postfixed (drawn (next_seed m.seed) % 8)) (joined (drawn m.seed % 2) m.stack),
  some_joined (drawn m.seed % 2) m.stack h,
)

some_by_draws : (n : ℕ) (m : Making) → 1 ≤ length m.stack → 1 ≤ length (combined_by_draws n m).stack
some_by_draws zero m h = h
some_by_draws (suc n) m h = by (drawn m.seed % 2 == 1) (some_by_draws n (combined (after_draw m)) (some_combined (after_draw m) h))
  where
    by : (b : Bool) → 1 ≤ length (combined_by_draws n (combined (after_draw m))).stack
        → 1 ≤ length (if b then combined_by_draws n (combined (after_draw m)) else after_draw m).stack
    by true more = more
    by false more = h

length-pushed : (m : Making) → length (pushed m).stack ≡ suc (length m.stack)
length-pushed m = length-on_top (postfixed (drawn (next_seed m.seed) % 8)) (symbol (drawn m.seed % 4) ∷ m.stack)

some_leaf : (m : Making) → 1 ≤ length (with_leaf m).stack
some_leaf m = some_by_draws (length m.stack) (pushed m) (omega (arith, length-pushed m))

some_leaves : (n : ℕ) (m : Making) → 1 ≤ length m.stack + n → 1 ≤ length (with_leaves n m).stack
some_leaves zero m h = omega (arith, h)
some_leaves (suc n) m h = some_leaves n (with_leaf m) (omega (arith, some_leaf m))

one_left : (n : ℕ) (m : Making) → length m.stack ≡ suc n → length (combined_times n m).stack ≡ 1
one_left zero m h = h
one_left (suc n) m h = one_left n (combined m) (omega (arith, h, length-combined m (omega (arith, h))))

-- one expression is left in the end, and it has all symbols
pub one_whole : (start leaves : ℕ) → 1 ≤ leaves
    → length (combined_all (with_leaves leaves (record { seed = start; stack = [] }))).stack ≡ 1
one_whole start leaves some =
    let m : Making = with_leaves leaves (record { seed = start; stack = [] }) in
    let few : 1 ≤ length m.stack = some_leaves leaves (record { seed = start; stack = [] }) (omega (arith, some)) in
    one_left (length m.stack - 1) m (omega (arith, few))

marked_leaves : (es : List Expr) → length es ≡ 1 → leaf_count (marked_entry es) ≡ leaf_count es
marked_leaves [] h = refl
marked_leaves (e ∷ []) h = refl
marked_leaves (e ∷ (f ∷ es)) h = absurd (omega (arith, h))

pub marked_one : (es : List Expr) → length es ≡ 1 → length (marked_entry es) ≡ 1
marked_one [] h = h
marked_one (e ∷ es) h = refl

pub whole_leaves : (start leaves : ℕ) → 1 ≤ leaves
    → leaf_count (marked_entry (combined_all (with_leaves leaves (record { seed = start; stack = [] }))).stack) ≡ leaves
whole_leaves start leaves some =
    let m : Making = with_leaves leaves (record { seed = start; stack = [] }) in
    let all : leaf_count m.stack ≡ 0 + leaves = all_leaves leaves (record { seed = start; stack = [] }) in
    let whole : leaf_count (marked_entry (combined_all m).stack) ≡ leaf_count m.stack =
    marked_leaves (combined_all m).stack (one_whole start leaves some) ∙ times_leaves (length m.stack - 1) m in
    omega (arith, whole, all)

-- ---- steps of the loops

pub go_on : (m : Making) → 2 ≤ length m.stack → (drawn m.seed % 2 == 1) ≡ true
    → combined_by_draws (length (combined (record m { seed = next_seed m.seed })).stack - 1) (combined (record m { seed = next_seed m.seed }))
    ≡ combined_by_draws (length m.stack - 1) m
go_on m two test =
    let next : Making = record m { seed = next_seed m.seed } in
    let n = length m.stack - 2 in
    let before : length m.stack - 1 ≡ suc n = omega (arith, two) in
    let size = length-combined next two in
    let after : length (combined next).stack - 1 ≡ n = omega (arith, two, size) in
    ap (λ k. combined_by_draws k (combined next)) after
    ∙ sym (ap (λ b. if b then combined_by_draws n (combined next) else next) test)
    ∙ sym (ap (λ k. combined_by_draws k m) before)

pub stop : (m : Making) → 2 ≤ length m.stack → (drawn m.seed % 2 == 1) ≡ false
    → record m { seed = next_seed m.seed } ≡ combined_by_draws (length m.stack - 1) m
stop m two test =
    let next : Making = record m { seed = next_seed m.seed } in
    let n = length m.stack - 2 in
    let before : length m.stack - 1 ≡ suc n = omega (arith, two) in
    sym (ap (λ b. if b then combined_by_draws n (combined next) else next) test) ∙ sym (ap (λ k. combined_by_draws k m) before)

pub no_draws : (m : Making) → length m.stack < 2 → m ≡ combined_by_draws (length m.stack - 1) m
no_draws m few = let none : length m.stack - 1 ≡ 0 = omega (arith, few) in sym (ap (λ k. combined_by_draws k m) none)

pub one_time : (m : Making) → 2 ≤ length m.stack → combined_all (combined m) ≡ combined_all m
one_time m two =
    let n = length m.stack - 2 in
    let before : length m.stack - 1 ≡ suc n = omega (arith, two) in
    let after : length (combined m).stack - 1 ≡ n = omega (arith, two, length-combined m two) in
    ap (λ k. combined_times k (combined m)) after ∙ sym (ap (λ k. combined_times k m) before)

pub no_times : (m : Making) → length m.stack < 2 → m ≡ combined_all m
no_times m few = let none : length m.stack - 1 ≡ 0 = omega (arith, few) in sym (ap (λ k. combined_times k m) none)

pub one_leaf : (n i : ℕ) (m : Making) → i < n → with_leaves (n - (i + 1)) (with_leaf m) ≡ with_leaves (n - i) m
one_leaf n i m lt = let e : n - i ≡ suc (n - (i + 1)) = omega (arith, lt) in sym (ap (λ k. with_leaves k m) e)

pub no_leaves : (n i : ℕ) (m : Making) → n ≤ i → m ≡ with_leaves (n - i) m
no_leaves n i m le = let e : n - i ≡ 0 = omega (arith, le) in sym (ap (λ k. with_leaves k m) e)

pub pushed_draws : (m : Making) → combined_by_draws (length (pushed m).stack - 1) (pushed m) ≡ with_leaf m
pushed_draws m = let e : length (pushed m).stack - 1 ≡ length m.stack = omega (arith, length-pushed m) in ap (λ k. combined_by_draws k (pushed m)) e

-- ---- how many nodes

pub few_nodes : (pile : Piled) → IsSmall pile → length pile.nodes ≤ 16384
few_nodes pile h = omega (arith, h.few_leaves, h.few_nodes)

pub length-stack : (pile : Piled) → length (stack_of pile) ≡ length pile.numbers
length-stack pile = length-map pile.numbers (tree_at (trees pile.nodes))

-- one more symbol, with a postfix
pub small_pushed : (old mid after : Piled) (k s : ℕ) → IsSmall old → leaf_count (stack_of old) < 4096
    → stack_of mid ≡ symbol s ∷ stack_of old → length mid.nodes ≡ length old.nodes + 1
    → stack_of after ≡ on_top (postfixed k) (stack_of mid) → length after.nodes ≤ length mid.nodes + 1 → IsSmall after
small_pushed old mid after k s h few e n f g =
    let leaves : leaf_count (stack_of after) ≡ 1 + leaf_count (stack_of old) =
    ap leaf_count f ∙ top_leaves k (stack_of mid) ∙ ap leaf_count e ∙ leaves_cons (symbol s) (stack_of old) in
    let size : length (stack_of after) ≡ suc (length (stack_of old)) = ap length f ∙ length-on_top (postfixed k) (stack_of mid) ∙ ap length e in
    record {
      few_leaves = omega (arith, leaves, few);
      few_nodes = omega (arith, leaves, size, length-stack old, length-stack after, n, g, h.few_nodes);
    }

-- two expressions as one, with a postfix
pub small_combined : (old mid after : Piled) (j k : ℕ) → IsSmall old → 2 ≤ length old.numbers
    → stack_of mid ≡ joined j (stack_of old) → length mid.nodes ≡ length old.nodes + 1
    → stack_of after ≡ on_top (postfixed k) (stack_of mid) → length after.nodes ≤ length mid.nodes + 1 → IsSmall after
small_combined old mid after j k h two e n f g =
    let leaves : leaf_count (stack_of after) ≡ leaf_count (stack_of old) =
    ap leaf_count f ∙ top_leaves k (stack_of mid) ∙ ap leaf_count e ∙ joined_leaves j (stack_of old) in
    let size : length (stack_of after) ≡ length (joined j (stack_of old)) = ap length f ∙ length-on_top (postfixed k) (stack_of mid) ∙ ap length e in
    let less = length-joined j (stack_of old) (omega (arith, length-stack old, two)) in
    record {
      few_leaves = omega (arith, leaves, h.few_leaves);
      few_nodes = omega (arith, leaves, size, less, length-stack old, length-stack after, n, g, h.few_nodes);
    }

-- ---- the same of makers

pub two_made : (made : Made) → 2 ≤ length made.pile.numbers → 2 ≤ length (making made).stack
two_made made two = omega (arith, length-stack made.pile, two)

-- one more combination that a draw has told of
module _ (old next new : Made) (drew : next ≡ record old { seed = next_seed old.seed }) (two : 2 ≤ length old.pile.numbers)
    (is : making new ≡ combined (making next)) where
  fresh : making new ≡ combined (after_draw (making old))
  fresh = is ∙ ap (λ made. combined (making made)) drew

  pub fewer_made : length new.pile.numbers < length old.pile.numbers
  fewer_made = omega (
    arith,
    length-stack new.pile,
    length-stack old.pile,
    ap (λ (m : Making). length m.stack) fresh,
    length-combined (after_draw (making old)) (two_made old two),
  )

  pub go_on_made : (drawn old.seed % 2 == 1) ≡ true
      → combined_by_draws (length new.pile.numbers - 1) (making new) ≡ combined_by_draws (length old.pile.numbers - 1) (making old)
  go_on_made test =
      ap (λ k. combined_by_draws (k - 1) (making new)) (sym (length-stack new.pile))
      ∙ ap (λ (m : Making). combined_by_draws (length m.stack - 1) m) fresh
      ∙ go_on (making old) (two_made old two) test
      ∙ ap (λ k. combined_by_draws (k - 1) (making old)) (length-stack old.pile)

-- one more combination
pub one_time_made : (old new : Made) → 2 ≤ length old.pile.numbers → making new ≡ combined (making old)
    → combined_all (making new) ≡ combined_all (making old)
one_time_made old new two is = ap combined_all is ∙ one_time (making old) (two_made old two)

pub fewer_times : (old new : Made) → 2 ≤ length old.pile.numbers → making new ≡ combined (making old)
    → length new.pile.numbers < length old.pile.numbers
fewer_times old new two is = omega (
  arith,
  length-stack new.pile,
  length-stack old.pile,
  ap (λ (m : Making). length m.stack) is,
  length-combined (making old) (two_made old two),
)

-- a symbol is pushed, and draws combine
pub leaf_made : {E : Type 0} (result : Result Made E) (old new : Made) → making new ≡ pushed (making old)
    → IfOk result (λ maker. making maker ≡ combined_by_draws (length new.pile.numbers - 1) (making new))
    → IfOk result (λ maker. making maker ≡ with_leaf (making old))
leaf_made (Err fault) old new is h = tt
leaf_made (Ok maker) old new is h =
    h ∙ ap (λ k. combined_by_draws (k - 1) (making new)) (sym (length-stack new.pile))
    ∙ ap (λ (m : Making). combined_by_draws (length m.stack - 1) m) is ∙ pushed_draws (making old)

-- so many symbols, and all expressions as one
pub all_made : (start leaves : ℕ) (fresh grown maker : Made) → making fresh ≡ record { seed = start; stack = [] }
    → making grown ≡ with_leaves leaves (making fresh) → making maker ≡ combined_all (making grown)
    → making maker ≡ combined_all (with_leaves leaves (record { seed = start; stack = [] }))
all_made start leaves fresh grown maker e f g = g ∙ ap combined_all (f ∙ ap (with_leaves leaves) e)

pub one_made : (start leaves : ℕ) (maker : Made) → 1 ≤ leaves
    → making maker ≡ combined_all (with_leaves leaves (record { seed = start; stack = [] })) → length maker.pile.numbers ≡ 1
one_made start leaves maker some is =
    sym (length-stack maker.pile) ∙ ap (λ (m : Making). length m.stack) is ∙ one_whole start leaves some
