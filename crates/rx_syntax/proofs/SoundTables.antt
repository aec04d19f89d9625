-- Where no code of names and limits stands, names differ, they are few, and each pattern has a place for each line.
use Rattle.std.proofs.Common.{◌≡◌, ℕ, ◌≤◌, ◌<◌, true, false, Bool, Some, None, List, [], ◌∷◌, ◌++◌, length, map, get_or, refl, ap, sym, ◌∙◌, subst, inl, inr, arith}
use Rattle.std.specs.Prelude.{Option, ◌≢◌, ◌||◌, ◌==◌, if◌then◌else◌, All, AllPairs, bytes_eq}
use Rattle.std.proofs.lemmas.Bool.{cases_Bool}
use Rattle.std.proofs.lemmas.Bool.Decides.{Decides-eqb}
use Rattle.std.proofs.lemmas.List.{append_assoc, append-nil, map-append, length-map, length-append}
use Rattle.std.proofs.lemmas.List.Elements.{All-nil, All-push}
use Rattle.std.proofs.lemmas.List.Quantifiers.{all_pairs_push}
use Rattle.std.proofs.lemmas.List.Folds.{list_any-append, list_any_at}
use Rattle.std.proofs.lemmas.Slice.Eq.{bytes_eq-Decides}
use Rattle.rx_lang.specs.Specification.{NamedPattern}
use Rattle.rx_syntax.specs.Lexemes.{Lexeme, word_of}
use Rattle.rx_syntax.specs.Grammar.{SymbolTokens, NamesOf, SymbolOf, Statements, one, more}
use Rattle.rx_syntax.specs.Uses.{Use, line_use, symbol_use, pattern_use, output_use, line_uses, symbol_uses, output_uses, expr_uses, syntax_uses, Declared, undeclared, is_among, is_declared, use_code, behind_use, use_token, fault_or, first_use_fault}
use Rattle.rx_syntax.specs.Accepted.{place_bit, named_pattern}
use Rattle.rx_syntax.specs.NameTables.{NameTables, AreNameTables, names_of}
use Rattle.rx_syntax.specs.NameReading.{Declares}
use Rattle.rx_syntax.specs.declared.kind.Kind.{Kind}
use Rattle.rx_syntax.specs.declared.kind.Kind.TheVariants.{Line, Output}
use Rattle.rx_syntax.specs.declared.spec_code.SpecCode.{SpecCode}
use Rattle.rx_syntax.specs.declared.spec_code.SpecCode.TheVariants.{S5, S10, S11, S12}
use Rattle.rx_syntax.proofs.TakenWords.{not_twice, not_too_many}

-- no name twice
abbrev Differ : List (List ℕ) → Type 0
Differ names = AllPairs (λ a b. a ≢ b) names

-- a new name differs from those before
push_name : (word : List ℕ) (names : List (List ℕ)) → Differ names → is_among word names ≡ false → Differ (names ++ word ∷ [])
push_name word names differ new = all_pairs_push (λ a b. a ≢ b) names word differ other
  where
    other : (k : ℕ) (d : List ℕ) → k < length names → get_or names k d ≢ word
    other k d inside e =
        let found = list_any_at (bytes_eq word) names k d inside ((bytes_eq-Decides word (get_or names k d)).1 (sym e)) in
        let clash : ◌≡◌ {A = Bool} true false = sym found ∙ new in
        cc

front_false : (some other : Bool) → (some || other) ≡ false → some ≡ false
front_false true other e = absurd cc
front_false false other e = refl

-- the first fault of some uses is none where none is at fault
fine_first : (o : Option SpecCode) (place : ℕ) (later : Option (SpecCode × ℕ)) → fault_or o place later ≡ None → (o ≡ None) × (later ≡ None)
fine_first None place later e = (refl, e)
fine_first (Some code) place later e = absurd cc

-- a pattern with a place for each line
same_length : (size lines : ℕ) → None ≡ (if size == lines then None else Some S5) → size ≡ lines
same_length size lines e = elim (cases_Bool (size == lines)) [
  | inl same ↦ (Decides-eqb size lines).0 same
  | inr other ↦ (
      let clash : ◌≡◌ {A = Option SpecCode} None (Some S5) = e ∙ ap (λ b. if b then None else Some S5) other in
      absurd cc)
]

nothing_differs : Differ []
nothing_differs i j d before inside = absurd (omega arith)

-- what is declared before any expression
abbrev declared : List (List ℕ) → List (List ℕ) → List (List ℕ) → Declared
declared lines symbols outputs = record { lines = lines; symbols = symbols; outputs = outputs; leaves = 0 }

module _ (text : List ℕ) (limit : ℕ) where
  abbrev word : Lexeme → List ℕ
  word t = word_of text t

  -- no code stands at these uses
  abbrev Fine : Declared → List Use → Type 0
  Fine before us = first_use_fault text limit before us ≡ None

  -- no code stands at the first use, and none at the others
  fine_use : (before : Declared) (u : Use) (us : List Use) → Fine before (u ∷ us)
      → (None ≡ use_code text limit before u) × Fine (behind_use text before u) us
  fine_use before u us e = let f = fine_first (use_code text limit before u) (use_token u).start _ e in (sym f.0, f.1)

  abbrev FineLines : List Use → List (List ℕ) → Type 0
  FineLines us lines = Differ lines × (length lines ≤ 16) × Fine (declared lines [] []) us

  fine_lines : (us : List Use) (ts : List Lexeme) (lines : List (List ℕ)) → FineLines (line_uses ts ++ us) lines
      → FineLines us (lines ++ map word ts)
  fine_lines us [] lines h = subst (FineLines us) (sym (append-nil lines)) h
  fine_lines us (t ∷ ts) lines (differ, few, fine) =
      let f = fine_use (declared lines [] []) (line_use t) (line_uses ts ++ us) fine in
      let new = front_false _ _ (front_false _ _ (not_twice _ _ _ _ f.0)) in
      let below : length lines < 16 = not_too_many (is_declared (word t) (declared lines [] [])) (length lines) 16 S10 f.0 in
      let size = length-append lines (word t ∷ []) in
      subst (FineLines us) (append_assoc lines (word t ∷ []) (map word ts))
      (fine_lines us ts (lines ++ word t ∷ []) (push_name (word t) lines differ new, omega (arith, below, size), f.1))

  module _ (lines : List (List ℕ)) where
    -- the pattern has a place for each line
    abbrev Fits : NamedPattern → Type 0
    Fits s = length s.pattern ≡ length lines

    abbrev FineSymbols : List Use → List NamedPattern → Type 0
    FineSymbols us symbols =
        Differ (lines ++ names_of symbols) × (length symbols ≤ 32) × All Fits symbols × Fine (declared lines (names_of symbols) []) us

    fine_symbols : (us : List Use) (ss : List SymbolTokens) (symbols : List NamedPattern) → FineSymbols (symbol_uses ss ++ us) symbols
        → FineSymbols us (symbols ++ map (named_pattern text) ss)
    fine_symbols us [] symbols h = subst (FineSymbols us) (sym (append-nil symbols)) h
    fine_symbols us (s ∷ ss) symbols (differ, few, fit, fine) =
        let names = names_of symbols in
        let name = word s.name in
        let entry = named_pattern text s in
        let f = fine_use (declared lines names []) (symbol_use s.name) (pattern_use s.pattern ∷ (symbol_uses ss ++ us)) fine in
        let g = fine_use (declared lines (names ++ name ∷ []) []) (pattern_use s.pattern) (symbol_uses ss ++ us) f.1 in
        let new : is_among name (lines ++ names) ≡ false =
        list_any-append (bytes_eq name) lines names ∙ front_false _ _ (not_twice _ _ _ _ f.0) in
        let below : length names < 32 = not_too_many (is_declared name (declared lines names [])) (length names) 32 S11 f.0 in
        let size = length-append symbols (entry ∷ []) in
        let count = length-map symbols (λ (n : NamedPattern). n.name) in
        let fits : Fits entry = length-map (word s.pattern) place_bit ∙ same_length _ _ g.0 in
        let grown : names_of (symbols ++ entry ∷ []) ≡ names ++ name ∷ [] = map-append (λ n. n.name) symbols (entry ∷ []) in
        let more : Differ (lines ++ (names ++ name ∷ [])) =
        subst Differ (append_assoc lines names (name ∷ [])) (push_name name (lines ++ names) differ new) in
        subst (FineSymbols us) (append_assoc symbols (entry ∷ []) (map (named_pattern text) ss))
        (fine_symbols us ss (symbols ++ entry ∷ []) (
          subst (λ names. Differ (lines ++ names)) (sym grown) more,
          omega (arith, below, size, count),
          All-push Fits symbols entry fit fits,
          subst (λ names. Fine (declared lines names []) (symbol_uses ss ++ us)) (sym grown) g.1,
        ))

  module _ (lines symbols : List (List ℕ)) where
    abbrev FineOutputs : List Use → List (List ℕ) → Type 0
    FineOutputs us outputs = Differ (lines ++ symbols ++ outputs) × (length outputs ≤ 16) × Fine (declared lines symbols outputs) us

    fine_outputs : (us : List Use) (ts : List Lexeme) (outputs : List (List ℕ)) → FineOutputs (output_uses ts ++ us) outputs
        → FineOutputs us (outputs ++ map word ts)
    fine_outputs us [] outputs h = subst (FineOutputs us) (sym (append-nil outputs)) h
    fine_outputs us (t ∷ ts) outputs (differ, few, fine) =
        let f = fine_use (declared lines symbols outputs) (output_use t) (output_uses ts ++ us) fine in
        let new : is_among (word t) (lines ++ symbols ++ outputs) ≡ false =
        list_any-append (bytes_eq (word t)) (lines ++ symbols) outputs
        ∙ ap (λ b. b || is_among (word t) outputs) (list_any-append (bytes_eq (word t)) lines symbols) ∙ not_twice _ _ _ _ f.0 in
        let below : length outputs < 16 = not_too_many (is_declared (word t) (declared lines symbols outputs)) (length outputs) 16 S12 f.0 in
        let size = length-append outputs (word t ∷ []) in
        let more : Differ (lines ++ symbols ++ (outputs ++ word t ∷ [])) =
        subst Differ (append_assoc (lines ++ symbols) outputs (word t ∷ [])) (push_name (word t) (lines ++ symbols ++ outputs) differ new) in
        subst (FineOutputs us) (append_assoc outputs (word t ∷ []) (map word ts))
        (fine_outputs us ts (outputs ++ word t ∷ []) (more, omega (arith, below, size), f.1))

-- a section has an entry

module _ {A : Type 0} (Is : List Lexeme → List A → Type 0) (some : (xs : List Lexeme) (found : List A) → Is xs found → 1 ≤ length found) where
  some_entry : {xs : List Lexeme} {found : List A} → Statements Is xs found → 1 ≤ length found
  some_entry (one {xs = xs} {found = found} is) = some xs found is
  some_entry (more {some = few} {others = others} whole holds before is) =
      let first = some_entry before in
      let size = length-append few others in
      subst (λ entries. 1 ≤ length entries) (sym holds) (omega (arith, first, size))

some_names : (key : Kind) (xs names : List Lexeme) → NamesOf key xs names → 1 ≤ length names
some_names key xs [] h = absurd (h.some refl)
some_names key xs (t ∷ ts) h = omega arith

some_symbol : (xs : List Lexeme) (found : List SymbolTokens) → SymbolOf xs found → 1 ≤ length found
some_symbol xs found h = subst (λ entries. 1 ≤ length entries) (sym h.entry) (omega arith)

pub sound : (text : List ℕ) (limit : ℕ) (tables : NameTables) → Declares text limit tables → AreNameTables tables
sound text limit tables h =
    let s = h.syntax in
    let is = h.says.specifies in
    let exprs = expr_uses text s.exprs in
    let outputs = output_uses s.outputs in
    let symbols = symbol_uses s.symbols in
    let cut : syntax_uses text s ≡ line_uses s.lines ++ (symbols ++ (outputs ++ exprs)) =
    append_assoc (line_uses s.lines ++ symbols) outputs exprs ∙ append_assoc (line_uses s.lines) symbols (outputs ++ exprs) in
    let fine = ap (first_use_fault text limit undeclared) (sym cut) ∙ h.no_fault in
    let none : Differ [] = nothing_differs in
    let first = fine_lines text limit (symbols ++ (outputs ++ exprs)) s.lines [] (none, omega arith, fine) in
    let lines = map (word_of text) s.lines in
    let second = fine_symbols text limit lines (outputs ++ exprs) s.symbols []
    (subst Differ (sym (append-nil lines)) first.0, omega arith, All-nil (Fits text limit lines), first.2) in
    let names = names_of (map (named_pattern text) s.symbols) in
    let third = fine_outputs text limit lines names exprs s.outputs []
    (subst Differ (sym (append-nil (lines ++ names))) second.0, omega arith, second.3) in
    subst AreNameTables (sym h.is) (record {
      some_lines = subst (λ n. 1 ≤ n) (sym (length-map s.lines (word_of text))) (some_entry (NamesOf Line) (some_names Line) is.lines);
      few_lines = first.1;
      some_symbols = subst (λ n. 1 ≤ n) (sym (length-map s.symbols (named_pattern text))) (some_entry SymbolOf some_symbol is.symbols);
      few_symbols = second.1;
      some_outputs = subst (λ n. 1 ≤ n) (sym (length-map s.outputs (word_of text))) (some_entry (NamesOf Output) (some_names Output) is.outputs);
      few_outputs = third.1;
      names_differ = third.0;
      place_per_line = second.2;
    })
