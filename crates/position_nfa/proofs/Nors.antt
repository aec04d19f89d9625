-- Nets that one gate of a list drives: what pulls them.
use Rattle.std.proofs.Common.{◌≡◌, ◌≢◌, ℕ, zero, suc, ◌+◌, ◌<◌, ◌==◌, ◌&&◌, ◌||◌, Bool, true, false, List, [], ◌∷◌, ◌++◌, map, length, Contains, refl, sym, subst, ◌∙◌, arith, eq-eqb}
use Rattle.std.specs.List.{AllByRecursion, list_any, range_with_len}
use Rattle.std.proofs.lemmas.Bool.{ne_eqb, or_left, or_right}
use Rattle.std.proofs.lemmas.List.Elements.{All-from_recursion}
use Rattle.nor_net.specs.Netlist.{NorGate}
use Rattle.nor_net.specs.Evaluation.{value_at, is_output, is_pulled}
use Rattle.position_nfa.proofs.Ranges.{Pairs}

-- The net is an output, and what pulls it are these inputs.
pub record IsNor (gates : List NorGate) (net : ℕ) (inputs : List ℕ) : Type 0 where
  pub output : is_output gates net ≡ true
  pub pulled : (values : List Bool) → is_pulled gates values net ≡ list_any (value_at values) inputs

-- no gate drives the net
abbrev Off : ℕ → List NorGate → Type 0
Off net gates = AllByRecursion (λ (g : NorGate). g.out ≢ net) gates

-- the outputs differ
abbrev pub OutsApart : NorGate → NorGate → Type 0
OutsApart a b = a.out ≢ b.out

or_false : (b : Bool) → (b || false) ≡ b
or_false true = refl
or_false false = refl

off_pulled : (gates : List NorGate) (net : ℕ) (values : List Bool) → Off net gates → is_pulled gates values net ≡ false
off_pulled [] net values h = refl
off_pulled (g ∷ gates) net values h = rw (ne_eqb g.out net h.0) (off_pulled gates net values h.1)

off_first : (a : NorGate) (gates : List NorGate) → AllByRecursion (OutsApart a) gates → Off a.out gates
off_first a [] h = tt
off_first a (g ∷ gates) h = (λ e. h.0 (sym e), off_first a gates h.1)

nor_here : (g : NorGate) (gates : List NorGate) → Off g.out gates → IsNor (g ∷ gates) g.out g.inputs
nor_here g gates off = record {
  output = or_left _ _ (eq-eqb g.out g.out refl);
  pulled = λ values.
      rw (eq-eqb g.out g.out refl, off_pulled gates g.out values off) (or_false (list_any (value_at values) g.inputs));
}

nor_later : (g : NorGate) (gates : List NorGate) (net : ℕ) (inputs : List ℕ) → g.out ≢ net → IsNor gates net inputs → IsNor (g ∷ gates) net inputs
nor_later g gates net inputs ne h = record {
  output = or_right _ _ h.output;
  pulled = λ values. rw (ne_eqb g.out net ne) (h.pulled values);
}

-- where outputs differ each gate alone pulls its output
pub nor_in : (gates : List NorGate) (g : NorGate) → Pairs OutsApart gates → Contains gates g → IsNor gates g.out g.inputs
nor_in [] g h (i, lt, e) = absurd (omega (arith, lt))
nor_in (x ∷ gates) g h (zero, lt, e) =
    let same : x ≡ g = e in
    subst (λ (y : NorGate). IsNor (x ∷ gates) y.out y.inputs) same (nor_here x gates (off_first x gates h.0))
nor_in (x ∷ gates) g h (suc i, lt, e) =
    let apart : OutsApart x g = subst (OutsApart x) e (All-from_recursion (OutsApart x) gates h.0 i g (omega (arith, lt))) in
    nor_later x gates g.out g.inputs apart (nor_in gates g h.1 (i, omega (arith, lt), e))

-- every two of a list, by their images
pub pairs_by : {X : Type 0} (f : X → ℕ) (xs : List X) → Pairs (λ (a b : ℕ). a ≢ b) (map f xs) → Pairs (λ a b. f a ≢ f b) xs
pairs_by f [] h = tt
pairs_by {X = X} f (x ∷ xs) h = (each xs h.0, pairs_by f xs h.1)
  where
    each : (ys : List X) → AllByRecursion (λ b. f x ≢ b) (map f ys) → AllByRecursion (λ y. f x ≢ f y) ys
    each [] k = tt
    each (y ∷ ys) k = (k.0, each ys k.1)
