-- No code stands at declarations where all names differ, they are few, and each pattern has a place for each line.
use Rattle.std.proofs.Common.{◌≡◌, ℕ, ◌+◌, ◌<◌, ◌≤◌, Bool, true, false, None, List, [], ◌∷◌, ◌++◌, length, map, get_or, refl, ap, sym, ◌∙◌, subst, arith, length-append}
use Rattle.std.specs.Prelude.{◌≢◌, ◌||◌, AllPairs, bytes_eq}
use Rattle.std.specs.List.{AllByRecursion}
use Rattle.std.proofs.lemmas.Bool.{lt-leb}
use Rattle.std.proofs.lemmas.List.{append_assoc, append-nil, get_or_append_left, get_or-append-add}
use Rattle.std.proofs.lemmas.List.Folds.{list_any_none, list_any-append}
use Rattle.std.proofs.lemmas.Slice.Eq.{bytes_eq-Decides}
use Rattle.rx_lang.specs.Specification.{NamedPattern}
use Rattle.rx_syntax.specs.Uses.{Declared, is_among, is_declared, declaration_code}
use Rattle.rx_syntax.specs.declared.spec_code.SpecCode.{SpecCode}
use Rattle.rx_syntax.specs.declared.spec_code.SpecCode.TheVariants.{S10, S11, S12}
use Rattle.rx_syntax.proofs.NewNames.{with_line, with_symbol, with_output, LinesFit, SymbolsFit, OutputsFit, Fresh, either_false}

-- names that differ are fresh, one after another

not_same : (v w : List ℕ) → v ≢ w → bytes_eq w v ≡ false
not_same v w differ = by_test (bytes_eq w v) refl
  where
    by_test : (b : Bool) → bytes_eq w v ≡ b → b ≡ false
    by_test true e = absurd (differ (sym ((bytes_eq-Decides w v).0 e)))
    by_test false e = refl

abbrev Differ : List (List ℕ) → Type 0
Differ names = AllPairs (λ a b. a ≢ b) names

pub fresh_of : (front ws : List (List ℕ)) → Differ (front ++ ws) → Fresh front ws
fresh_of front [] h = tt
fresh_of front (w ∷ ws) h =
    (list_any_none (bytes_eq w) front differs, fresh_of (front ++ (w ∷ [])) ws (subst Differ (sym (append_assoc front (w ∷ []) ws)) h))
  where
    differs : (k : ℕ) (d : List ℕ) → k < length front → bytes_eq w (get_or front k d) ≡ false
    differs k d lt =
        let here : get_or (front ++ (w ∷ ws)) k d ≡ get_or front k d = get_or_append_left front (w ∷ ws) d k lt in
        let there : get_or (front ++ (w ∷ ws)) (length front + 0) d ≡ w = get_or-append-add front (w ∷ ws) 0 d in
        let apart = h k (length front + 0) d (omega (arith, lt)) (omega (arith, length-append front (w ∷ ws))) in
        not_same (get_or front k d) w (λ e. apart (here ∙ e ∙ sym there))

pub fresh_front : (front xs ys : List (List ℕ)) → Fresh front (xs ++ ys) → Fresh front xs
fresh_front front [] ys h = tt
fresh_front front (x ∷ xs) ys h = (h.0, fresh_front (front ++ (x ∷ [])) xs ys h.1)

pub fresh_rest : (front xs ys : List (List ℕ)) → Fresh front (xs ++ ys) → Fresh (front ++ xs) ys
fresh_rest front [] ys h = subst (λ names. Fresh names ys) (sym (append-nil front)) h
fresh_rest front (x ∷ xs) ys h = subst (λ names. Fresh names ys) (append_assoc front (x ∷ []) xs) (fresh_rest (front ++ (x ∷ [])) xs ys h.1)

-- no code stands

among_neither : (w : List ℕ) (xs ys : List (List ℕ)) → is_among w (xs ++ ys) ≡ false → (is_among w xs ≡ false) × (is_among w ys ≡ false)
among_neither w xs ys e = either_false (is_among w xs) (is_among w ys) (sym (list_any-append (bytes_eq w) xs ys) ∙ e)

none_of : (a b c : Bool) → a ≡ false → b ≡ false → c ≡ false → (a || b || c) ≡ false
none_of a b c e f g = rw (e, f, g) refl

no_code : (twice : Bool) (count most : ℕ) (code : SpecCode) → twice ≡ false → count < most → declaration_code twice count most code ≡ None
no_code twice count most code e lt = rw (e, lt-leb most count lt) refl

pub lines_from : (before : Declared) (ws : List (List ℕ)) → before.symbols ≡ [] → before.outputs ≡ [] → Fresh before.lines ws
    → length before.lines + length ws ≤ 16 → LinesFit before ws
lines_from before [] symbols outputs h few = tt
lines_from before (w ∷ ws) symbols outputs h few = (
  no_code (is_declared w before) (length before.lines) 16 S10
      (none_of (is_among w before.lines) (is_among w before.symbols) (is_among w before.outputs) h.0 (ap (is_among w) symbols) (ap (is_among w) outputs))
      (omega (arith, few)),
  lines_from (with_line before w) ws symbols outputs h.1 (omega (arith, few, length-append before.lines (w ∷ []))),
)

pub symbols_from : (before : Declared) (ss : List NamedPattern) → before.outputs ≡ [] → Fresh (before.lines ++ before.symbols) (map (λ s. s.name) ss)
    → length before.symbols + length ss ≤ 32 → AllByRecursion (λ s. length s.pattern ≡ length before.lines) ss → SymbolsFit before ss
symbols_from before [] outputs h few sizes = tt
symbols_from before (s ∷ ss) outputs h few sizes =
    let new = among_neither s.name before.lines before.symbols h.0 in (
      no_code (is_declared s.name before) (length before.symbols) 32 S11
          (none_of (is_among s.name before.lines) (is_among s.name before.symbols) (is_among s.name before.outputs) new.0 new.1 (ap (is_among s.name) outputs))
          (omega (arith, few)),
      sizes.0,
      symbols_from (with_symbol before s.name) ss outputs
          (subst (λ names. Fresh names (map (λ s. s.name) ss)) (append_assoc before.lines before.symbols (s.name ∷ [])) h.1)
          (omega (arith, few, length-append before.symbols (s.name ∷ []))) sizes.1,
    )

pub outputs_from : (before : Declared) (ws : List (List ℕ)) → Fresh ((before.lines ++ before.symbols) ++ before.outputs) ws
    → length before.outputs + length ws ≤ 16 → OutputsFit before ws
outputs_from before [] h few = tt
outputs_from before (w ∷ ws) h few =
    let front = before.lines ++ before.symbols in
    let new = among_neither w front before.outputs h.0 in
    let others = among_neither w before.lines before.symbols new.0 in (
      no_code (is_declared w before) (length before.outputs) 16 S12
          (none_of (is_among w before.lines) (is_among w before.symbols) (is_among w before.outputs) others.0 others.1 new.1) (omega (arith, few)),
      outputs_from (with_output before w) ws (subst (λ names. Fresh names ws) (append_assoc front before.outputs (w ∷ [])) h.1)
          (omega (arith, few, length-append before.outputs (w ∷ []))),
    )
