-- The generator of large specifications: a linear congruential sequence of draws, and a stack of expressions that they build.
use Rattle.std.specs.Prelude.{ℕ, zero, suc, ◌+◌, ◌-◌, ◌*◌, ◌/◌, ◌%◌, ◌^◌, ◌==◌, if◌then◌else◌, List, [], ◌∷◌, length, codes}
use Rattle.rx_lang.specs.declared.pattern.PatternBit.TheVariants.{Zero, One, Any}
use Rattle.rx_lang.specs.Expression.{Expr, symbol, sequence, union, star, plus, optional, marked}
use Rattle.rx_lang.specs.Specification.{NamedPattern, Specification}

-- the seed behind a draw, and what is drawn with it
abbrev pub next_seed : ℕ → ℕ
next_seed seed = (1103515245 * seed + 12345) % 2 ^ 31

abbrev pub drawn : ℕ → ℕ
drawn seed = next_seed seed / 65536

-- a seed, and a stack of expressions, the top first
pub record Making : Type 0 where
  pub seed : ℕ
  pub stack : List Expr

-- what a draw modulo 8 puts on an expression
abbrev pub postfixed : ℕ → Expr → Expr
postfixed k e =
    if k == 0 then star e else if k == 1 then plus e else if k == 2 then optional e
    else if k == 3 then marked e 0 else if k == 4 then marked e 1 else e

abbrev pub on_top : (Expr → Expr) → List Expr → List Expr
on_top f [] = []
on_top f (top ∷ stack) = f top ∷ stack

-- a draw that puts a postfix on the top
abbrev pub with_postfix : Making → Making
with_postfix m = record { seed = next_seed m.seed; stack = on_top (postfixed (drawn m.seed % 8)) m.stack }

-- the two top entries joined, the lower one left, in sequence at 0
abbrev pub joined : ℕ → List Expr → List Expr
joined k (right ∷ (left ∷ stack)) = (if k == 0 then sequence left right else union left right) ∷ stack
joined k (top ∷ []) = top ∷ []
joined k [] = []

-- a draw that joins them, and one that puts a postfix on the result
abbrev pub combined : Making → Making
combined m = with_postfix (record { seed = next_seed m.seed; stack = joined (drawn m.seed % 2) m.stack })

-- While there are two entries or more, a draw tells whether to go on: so often at most.
abbrev pub combined_by_draws : ℕ → Making → Making
combined_by_draws zero m = m
combined_by_draws (suc n) m =
    let next = record m { seed = next_seed m.seed } in
    if drawn m.seed % 2 == 1 then combined_by_draws n (combined next) else next

-- a symbol that is drawn modulo 4, on the top, with a postfix
abbrev pub pushed : Making → Making
pushed m = with_postfix (record { seed = next_seed m.seed; stack = symbol (drawn m.seed % 4) ∷ m.stack })

-- one more symbol, and entries combined
abbrev pub with_leaf : Making → Making
with_leaf m = combined_by_draws (length m.stack) (pushed m)

abbrev pub with_leaves : ℕ → Making → Making
with_leaves zero m = m
with_leaves (suc n) m = with_leaves n (with_leaf m)

-- entries combined so often
abbrev pub combined_times : ℕ → Making → Making
combined_times zero m = m
combined_times (suc n) m = combined_times n (combined m)

-- With a stack of n entries, n less one combinations leave one.
abbrev pub combined_all : Making → Making
combined_all m = combined_times (length m.stack - 1) m

-- the one entry that is left, marked with the first output
abbrev pub marked_entry : List Expr → List Expr
marked_entry [] = []
marked_entry (top ∷ stack) = marked top 0 ∷ []

-- what is declared: line x0 x1; symbol s0 = 00; symbol s1 = 01; symbol s2 = 10; symbol s3 = 1-; output y0 y1;

abbrev pub demo_lines : List (List ℕ)
demo_lines = codes "x0" ∷ codes "x1" ∷ []

abbrev pub demo_symbols : List NamedPattern
demo_symbols =
    record { name = codes "s0"; pattern = Zero ∷ Zero ∷ [] }
    ∷ record { name = codes "s1"; pattern = Zero ∷ One ∷ [] }
    ∷ record { name = codes "s2"; pattern = One ∷ Zero ∷ [] }
    ∷ record { name = codes "s3"; pattern = One ∷ Any ∷ [] }
    ∷ []

abbrev pub demo_outputs : List (List ℕ)
demo_outputs = codes "y0" ∷ codes "y1" ∷ []

-- the specification that is made from a number for so many leaves
abbrev pub demo : ℕ → ℕ → Specification
demo start leaves = record {
  lines = demo_lines;
  symbols = demo_symbols;
  outputs = demo_outputs;
  statements = marked_entry (combined_all (with_leaves leaves (record { seed = start % 2 ^ 31; stack = [] }))).stack;
  scans = [];
}
