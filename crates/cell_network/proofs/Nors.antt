-- Nets that one gate of a list drives: what pulls them.
use Rattle.std.specs.Prelude.{flat_map}
use Rattle.std.proofs.Common.{◌≡◌, ◌≢◌, inl, inr, ℕ, zero, suc, ◌+◌, ◌<◌, ◌≤◌, ◌==◌, ◌&&◌, ◌||◌, Bool, true, false, List, [], ◌∷◌, ◌++◌, map, slice_get, Some, refl, sym, ◌∙◌, arith, eq-eqb}
use Rattle.std.specs.List.{AllByRecursion, list_any, range_with_len}
use Rattle.std.proofs.lemmas.Bool.{ne_eqb, cases_eq, or_left, or_right}
use Rattle.std.proofs.lemmas.List.{map-append}
use Rattle.std.proofs.lemmas.List.Folds.{list_any-append}
use Rattle.nor_net.specs.Netlist.{NorGate}
use Rattle.nor_net.specs.Evaluation.{value_at, is_output, is_pulled}
use Rattle.cell_network.proofs.Ranges.{Pairs}

-- no gate drives the net
abbrev pub Off : ℕ → List NorGate → Type 0
Off net gates = AllByRecursion (λ (g : NorGate). g.out ≢ net) gates

-- The net is an output, and what pulls it are these inputs.
pub record IsNor (gates : List NorGate) (net : ℕ) (inputs : List ℕ) : Type 0 where
  pub output : is_output gates net ≡ true
  pub pulled : (values : List Bool) → is_pulled gates values net ≡ list_any (value_at values) inputs

or_false : (b : Bool) → (b || false) ≡ b
or_false true = refl
or_false false = refl

pub off_pulled : (gates : List NorGate) (net : ℕ) (values : List Bool) → Off net gates → is_pulled gates values net ≡ false
off_pulled [] net values h = refl
off_pulled (g ∷ gates) net values h = rw (ne_eqb g.out net h.0) (off_pulled gates net values h.1)

pub output_append_left : (xs ys : List NorGate) (net : ℕ) → is_output xs net ≡ true → is_output (xs ++ ys) net ≡ true
output_append_left xs ys net h = list_any-append (λ (g : NorGate). g.out == net) xs ys ∙ or_left _ _ h

pub output_append_right : (xs ys : List NorGate) (net : ℕ) → is_output ys net ≡ true → is_output (xs ++ ys) net ≡ true
output_append_right xs ys net h = list_any-append (λ (g : NorGate). g.out == net) xs ys ∙ or_right _ _ h

pub pulled_append : (xs ys : List NorGate) (net : ℕ) (values : List Bool)
    → is_pulled (xs ++ ys) values net ≡ (is_pulled xs values net || is_pulled ys values net)
pulled_append xs ys net values = list_any-append (λ (g : NorGate). g.out == net && list_any (value_at values) g.inputs) xs ys

pub nor_left : (xs ys : List NorGate) (net : ℕ) (inputs : List ℕ) → IsNor xs net inputs → Off net ys → IsNor (xs ++ ys) net inputs
nor_left xs ys net inputs h off = record {
  output = output_append_left xs ys net h.output;
  pulled = λ values. pulled_append xs ys net values ∙ rw (off_pulled ys net values off) (or_false (is_pulled xs values net) ∙ h.pulled values);
}

pub nor_right : (xs ys : List NorGate) (net : ℕ) (inputs : List ℕ) → Off net xs → IsNor ys net inputs → IsNor (xs ++ ys) net inputs
nor_right xs ys net inputs off h = record {
  output = output_append_right xs ys net h.output;
  pulled = λ values. pulled_append xs ys net values ∙ rw (off_pulled xs net values off) (h.pulled values);
}

nor_here : (g : NorGate) (gates : List NorGate) → Off g.out gates → IsNor (g ∷ gates) g.out g.inputs
nor_here g gates off = record {
  output = or_left _ _ (eq-eqb g.out g.out refl);
  pulled = λ values.
      rw (eq-eqb g.out g.out refl, off_pulled gates g.out values off) (or_false (list_any (value_at values) g.inputs));
}

nor_later : (g : NorGate) (gates : List NorGate) (net : ℕ) (inputs : List ℕ) → g.out ≢ net → IsNor gates net inputs → IsNor (g ∷ gates) net inputs
nor_later g gates net inputs ne h = record {
  output = or_right _ _ h.output;
  pulled = λ values. rw (ne_eqb g.out net ne) (h.pulled values);
}

-- the outputs differ
abbrev pub Apart : NorGate → NorGate → Type 0
Apart a b = a.out ≢ b.out

off_first : (a : NorGate) (gates : List NorGate) → AllByRecursion (Apart a) gates → Off a.out gates
off_first a [] h = tt
off_first a (g ∷ gates) h = (λ e. h.0 (sym e), off_first a gates h.1)

apart_at : (a g : NorGate) (gates : List NorGate) (k : ℕ) → AllByRecursion (Apart a) gates → slice_get gates k ≡ Some g → a.out ≢ g.out
apart_at a g [] k h e = absurd (cc)
apart_at a g (x ∷ gates) zero h e = let same : x ≡ g = cc in rw (← same) h.0
apart_at a g (x ∷ gates) (suc k) h e = apart_at a g gates k h.1 e

-- where outputs differ each gate alone pulls its output
pub nor_at : (gates : List NorGate) (k : ℕ) (g : NorGate) → Pairs Apart gates → slice_get gates k ≡ Some g → IsNor gates g.out g.inputs
nor_at [] k g h e = absurd (cc)
nor_at (x ∷ gates) zero g h e = let same : x ≡ g = cc in rw (← same) (nor_here x gates (off_first x gates h.0))
nor_at (x ∷ gates) (suc k) g h e = nor_later x gates g.out g.inputs (apart_at x g gates k h.0 e) (nor_at gates k g h.1 e)

module _ (f : ℕ → List NorGate) (v net : ℕ) (inputs : List ℕ) (here : IsNor (f v) net inputs) where
  none_later : (a n : ℕ) → v < a → ((u : ℕ) → a ≤ u → u < a + n → (u ≡ v → ⊥) → Off net (f u)) → (values : List Bool)
      → is_pulled (flat_map f (range_with_len a n)) values net ≡ false
  none_later a zero lt off values = refl
  none_later a (suc n) lt off values =
      pulled_append (f a) (flat_map f (range_with_len (a + 1) n)) net values
      ∙ rw (off_pulled (f a) net values (off a (omega arith) (omega arith) (λ e. omega (arith, e, lt))))
      (none_later (a + 1) n (omega arith) (λ u l m ne. off u (omega arith) (omega arith) ne) values)

  -- one piece alone drives the net
  pub nor_piece : (a n : ℕ) → a ≤ v → v < a + n → ((u : ℕ) → a ≤ u → u < a + n → (u ≡ v → ⊥) → Off net (f u))
      → IsNor (flat_map f (range_with_len a n)) net inputs
  nor_piece a zero l lt off = absurd (omega arith)
  nor_piece a (suc n) l lt off =
      elim (cases_eq a v) [
        | inl e ↦
            rw e (record {
              output = output_append_left (f v) (flat_map f (range_with_len (v + 1) n)) net here.output;
              pulled = λ values.
                  pulled_append (f v) (flat_map f (range_with_len (v + 1) n)) net values
                  ∙ rw (none_later (v + 1) n (omega arith) (λ u ul m ne. off u (omega (arith, e)) (omega (arith, e)) ne) values)
                  (or_false (is_pulled (f v) values net) ∙ here.pulled values);
            })
        | inr ne ↦
            nor_right (f a) (flat_map f (range_with_len (a + 1) n)) net inputs (off a (omega arith) (omega arith) ne)
            (nor_piece (a + 1) n (omega (arith, ne)) (omega arith) (λ u ul m other. off u (omega arith) (omega arith) other))
      ]

-- one element of a range alone drives its output
pub nor_range : {W : Type 0} (n : W → NorGate) (f : ℕ → W) (a m k : ℕ) → a ≤ k → k < a + m → ((i : ℕ) → (i ≡ k → ⊥) → (n (f i)).out ≢ (n (f k)).out)
    → IsNor (map n (map f (range_with_len a m))) (n (f k)).out (n (f k)).inputs
nor_range n f a zero k l lt ne = absurd (omega arith)
nor_range n f a (suc m) k l lt ne =
    elim (cases_eq a k) [
      | inl e ↦ rw e (nor_here (n (f k)) (map n (map f (range_with_len (k + 1) m))) (off_range (k + 1) m (omega arith)))
      | inr other ↦
          nor_later (n (f a)) (map n (map f (range_with_len (a + 1) m))) (n (f k)).out (n (f k)).inputs (ne a other)
          (nor_range n f (a + 1) m k (omega (arith, other)) (omega arith) ne)
    ]
  where
    off_range : (b j : ℕ) → k < b → Off (n (f k)).out (map n (map f (range_with_len b j)))
    off_range b zero lt = tt
    off_range b (suc j) lt = (ne b (λ e. omega (arith, e, lt)), off_range (b + 1) j (omega arith))

-- the same of lists that are images
pub nor_map_left : {W : Type 0} (n : W → NorGate) (xs ys : List W) (net : ℕ) (inputs : List ℕ) → IsNor (map n xs) net inputs → Off net (map n ys)
    → IsNor (map n (xs ++ ys)) net inputs
nor_map_left n xs ys net inputs h off = rw (map-append n xs ys) (nor_left (map n xs) (map n ys) net inputs h off)

pub nor_map_right : {W : Type 0} (n : W → NorGate) (xs ys : List W) (net : ℕ) (inputs : List ℕ) → Off net (map n xs) → IsNor (map n ys) net inputs
    → IsNor (map n (xs ++ ys)) net inputs
nor_map_right n xs ys net inputs off h = rw (map-append n xs ys) (nor_right (map n xs) (map n ys) net inputs off h)
