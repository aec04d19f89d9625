-- Where no code stands at declarations: names are new and few, and patterns have a place for each line.
use Rattle.std.proofs.Common.{◌≡◌, ℕ, zero, suc, ◌+◌, ◌<◌, Bool, true, false, Some, None, List, [], ◌∷◌, ◌++◌, length, map, slice_get, refl, ap, sym, ◌∙◌, subst, arith}
use Rattle.std.specs.Prelude.{Option, ⊤, ◌||◌, ◌==◌, bytes_eq, slice_index_or, if◌then◌else◌}
use Rattle.std.proofs.lemmas.Bool.Decides.{Decides-eqb}
use Rattle.std.proofs.lemmas.List.{append_assoc, append-nil, length-append, length-map}
use Rattle.std.proofs.lemmas.Slice.Eq.{bytes_eq-Decides}
use Rattle.rx_lang.specs.Specification.{NamedPattern}
use Rattle.rx_syntax.specs.Lexemes.{Lexeme, word_of}
use Rattle.rx_syntax.specs.Grammar.{SymbolTokens}
use Rattle.rx_syntax.specs.Uses.{Use, line_use, symbol_use, pattern_use, output_use, line_uses, symbol_uses, output_uses, Declared, is_among, is_declared, declaration_code, use_code, fault_or, first_use_fault}
use Rattle.rx_syntax.specs.Accepted.{number_in, named_pattern, place_bit}
use Rattle.rx_syntax.specs.declared.spec_code.SpecCode.{SpecCode}
use Rattle.rx_syntax.specs.declared.spec_code.SpecCode.TheVariants.{S5, S10, S11, S12}

-- what is declared behind one name more, and behind some

abbrev pub with_line : Declared → List ℕ → Declared
with_line before w = record before { lines = before.lines ++ (w ∷ []) }

abbrev pub with_symbol : Declared → List ℕ → Declared
with_symbol before w = record before { symbols = before.symbols ++ (w ∷ []) }

abbrev pub with_output : Declared → List ℕ → Declared
with_output before w = record before { outputs = before.outputs ++ (w ∷ []) }

abbrev pub behind_lines : Declared → List (List ℕ) → Declared
behind_lines before [] = before
behind_lines before (w ∷ ws) = behind_lines (with_line before w) ws

abbrev pub behind_symbols : Declared → List NamedPattern → Declared
behind_symbols before [] = before
behind_symbols before (s ∷ ss) = behind_symbols (with_symbol before s.name) ss

abbrev pub behind_outputs : Declared → List (List ℕ) → Declared
behind_outputs before [] = before
behind_outputs before (w ∷ ws) = behind_outputs (with_output before w) ws

-- No code stands at these declarations.

abbrev pub LinesFit : Declared → List (List ℕ) → Type 0
LinesFit before [] = ⊤
LinesFit before (w ∷ ws) = (declaration_code (is_declared w before) (length before.lines) 16 S10 ≡ None) × LinesFit (with_line before w) ws

abbrev pub SymbolsFit : Declared → List NamedPattern → Type 0
SymbolsFit before [] = ⊤
SymbolsFit before (s ∷ ss) =
    (declaration_code (is_declared s.name before) (length before.symbols) 32 S11 ≡ None) × (length s.pattern ≡ length before.lines)
    × SymbolsFit (with_symbol before s.name) ss

abbrev pub OutputsFit : Declared → List (List ℕ) → Type 0
OutputsFit before [] = ⊤
OutputsFit before (w ∷ ws) = (declaration_code (is_declared w before) (length before.outputs) 16 S12 ≡ None) × OutputsFit (with_output before w) ws

-- what is declared, as lists

pub lines_declared : (before : Declared) (ws : List (List ℕ)) → behind_lines before ws ≡ record before { lines = before.lines ++ ws }
lines_declared before [] = ap (λ ls. record before { lines = ls }) (sym (append-nil before.lines))
lines_declared before (w ∷ ws) =
    lines_declared (with_line before w) ws ∙ ap (λ ls. record before { lines = ls }) (append_assoc before.lines (w ∷ []) ws)

pub symbols_declared : (before : Declared) (ss : List NamedPattern)
    → behind_symbols before ss ≡ record before { symbols = before.symbols ++ map (λ s. s.name) ss }
symbols_declared before [] = ap (λ ls. record before { symbols = ls }) (sym (append-nil before.symbols))
symbols_declared before (s ∷ ss) =
    symbols_declared (with_symbol before s.name) ss
    ∙ ap (λ ls. record before { symbols = ls }) (append_assoc before.symbols (s.name ∷ []) (map (λ s. s.name) ss))

pub outputs_declared : (before : Declared) (ws : List (List ℕ)) → behind_outputs before ws ≡ record before { outputs = before.outputs ++ ws }
outputs_declared before [] = ap (λ ls. record before { outputs = ls }) (sym (append-nil before.outputs))
outputs_declared before (w ∷ ws) =
    outputs_declared (with_output before w) ws ∙ ap (λ ls. record before { outputs = ls }) (append_assoc before.outputs (w ∷ []) ws)

-- the uses of a text

pub no_fault_here : (o : Option SpecCode) (place : ℕ) (later : Option (SpecCode × ℕ)) → fault_or o place later ≡ None → (o ≡ None) × (later ≡ None)
no_fault_here None place later e = (refl, e)
no_fault_here (Some code) place later e = absurd cc

pub no_fault_with : (o : Option SpecCode) (place : ℕ) (later : Option (SpecCode × ℕ)) → o ≡ None → later ≡ None → fault_or o place later ≡ None
no_fault_with o place later e f = ap (λ o. fault_or o place later) e ∙ f

size_told : (size lines : ℕ) → (if size == lines then None else Some S5) ≡ None → size ≡ lines
size_told size lines e = by_test (size == lines) refl e
  where
    by_test : (b : Bool) → (size == lines) ≡ b → (if b then None else Some S5) ≡ None → size ≡ lines
    by_test true same f = (Decides-eqb size lines).0 same
    by_test false same f = let clash : ◌≡◌ {A = Option SpecCode} (Some S5) None = f in absurd cc

size_tells : (size lines : ℕ) → size ≡ lines → (if size == lines then None else Some S5) ≡ None
size_tells size lines e = ap (λ b. if b then None else Some S5) ((Decides-eqb size lines).1 e)

module _ (text : List ℕ) (limit : ℕ) where
  pub lines_fit : (before : Declared) (ts : List Lexeme) (us : List Use) → first_use_fault text limit before (line_uses ts ++ us) ≡ None
      → LinesFit before (map (word_of text) ts) × (first_use_fault text limit (behind_lines before (map (word_of text) ts)) us ≡ None)
  lines_fit before [] us e = (tt, e)
  lines_fit before (t ∷ ts) us e =
      let after = with_line before (word_of text t) in
      let cut = no_fault_here (use_code text limit before (line_use t)) t.start (first_use_fault text limit after (line_uses ts ++ us)) e in
      let more = lines_fit after ts us cut.1 in
      ((cut.0, more.0), more.1)

  pub lines_faultless : (before : Declared) (ts : List Lexeme) (us : List Use) → LinesFit before (map (word_of text) ts)
      → first_use_fault text limit (behind_lines before (map (word_of text) ts)) us ≡ None → first_use_fault text limit before (line_uses ts ++ us) ≡ None
  lines_faultless before [] us h e = e
  lines_faultless before (t ∷ ts) us (first, h) e =
      let after = with_line before (word_of text t) in
      no_fault_with (use_code text limit before (line_use t)) t.start (first_use_fault text limit after (line_uses ts ++ us)) first (lines_faultless after ts us h e)

  pub outputs_fit : (before : Declared) (ts : List Lexeme) (us : List Use) → first_use_fault text limit before (output_uses ts ++ us) ≡ None
      → OutputsFit before (map (word_of text) ts) × (first_use_fault text limit (behind_outputs before (map (word_of text) ts)) us ≡ None)
  outputs_fit before [] us e = (tt, e)
  outputs_fit before (t ∷ ts) us e =
      let after = with_output before (word_of text t) in
      let cut = no_fault_here (use_code text limit before (output_use t)) t.start (first_use_fault text limit after (output_uses ts ++ us)) e in
      let more = outputs_fit after ts us cut.1 in
      ((cut.0, more.0), more.1)

  pub outputs_faultless : (before : Declared) (ts : List Lexeme) (us : List Use) → OutputsFit before (map (word_of text) ts)
      → first_use_fault text limit (behind_outputs before (map (word_of text) ts)) us ≡ None → first_use_fault text limit before (output_uses ts ++ us) ≡ None
  outputs_faultless before [] us h e = e
  outputs_faultless before (t ∷ ts) us (first, h) e =
      let after = with_output before (word_of text t) in
      no_fault_with (use_code text limit before (output_use t)) t.start (first_use_fault text limit after (output_uses ts ++ us)) first (outputs_faultless after ts us h e)

  pub symbols_fit : (before : Declared) (ss : List SymbolTokens) (us : List Use) → first_use_fault text limit before (symbol_uses ss ++ us) ≡ None
      → SymbolsFit before (map (named_pattern text) ss) × (first_use_fault text limit (behind_symbols before (map (named_pattern text) ss)) us ≡ None)
  symbols_fit before [] us e = (tt, e)
  symbols_fit before (s ∷ ss) us e =
      let after = with_symbol before (word_of text s.name) in
      let later = first_use_fault text limit after (symbol_uses ss ++ us) in
      let size = use_code text limit after (pattern_use s.pattern) in
      let cut = no_fault_here (use_code text limit before (symbol_use s.name)) s.name.start (fault_or size s.pattern.start later) e in
      let rest = no_fault_here size s.pattern.start later cut.1 in
      let same : length (map place_bit (word_of text s.pattern)) ≡ length before.lines =
      length-map (word_of text s.pattern) place_bit ∙ size_told (length (word_of text s.pattern)) (length before.lines) rest.0 in
      let more = symbols_fit after ss us rest.1 in
      ((cut.0, same, more.0), more.1)

  pub symbols_faultless : (before : Declared) (ss : List SymbolTokens) (us : List Use) → SymbolsFit before (map (named_pattern text) ss)
      → first_use_fault text limit (behind_symbols before (map (named_pattern text) ss)) us ≡ None → first_use_fault text limit before (symbol_uses ss ++ us) ≡ None
  symbols_faultless before [] us h e = e
  symbols_faultless before (s ∷ ss) us (first, same, h) e =
      let after = with_symbol before (word_of text s.name) in
      let later = first_use_fault text limit after (symbol_uses ss ++ us) in
      let size = use_code text limit after (pattern_use s.pattern) in
      let fits : size ≡ None =
      size_tells (length (word_of text s.pattern)) (length before.lines) (sym (length-map (word_of text s.pattern) place_bit) ∙ same) in
      no_fault_with (use_code text limit before (symbol_use s.name)) s.name.start (fault_or size s.pattern.start later) first
      (no_fault_with size s.pattern.start later fits (symbols_faultless after ss us h e))

-- each name has its own number

-- Each name differs from all before it.
abbrev pub Fresh : List (List ℕ) → List (List ℕ) → Type 0
Fresh front [] = ⊤
Fresh front (w ∷ ws) = (is_among w front ≡ false) × Fresh (front ++ (w ∷ [])) ws

pub either_false : (a b : Bool) → (a || b) ≡ false → (a ≡ false) × (b ≡ false)
either_false true b e = absurd cc
either_false false b e = (refl, e)

other_way : (v w : List ℕ) → bytes_eq v w ≡ false → bytes_eq w v ≡ false
other_way v w e = by_test (bytes_eq w v) refl
  where
    by_test : (b : Bool) → bytes_eq w v ≡ b → b ≡ false
    by_test true same =
        let clash : ◌≡◌ {A = Bool} true false = sym ((bytes_eq-Decides v w).1 (sym ((bytes_eq-Decides w v).0 same))) ∙ e in
        absurd cc
    by_test false other = refl

fresh_number : (front : List (List ℕ)) (w : List ℕ) (rest : List (List ℕ)) → is_among w front ≡ false → number_in (front ++ (w ∷ rest)) w ≡ length front
fresh_number [] w rest new = ap (λ here. if here then 0 else suc (number_in rest w)) ((bytes_eq-Decides w w).1 refl)
fresh_number (first ∷ front) w rest new =
    let cut = either_false (bytes_eq w first) (is_among w front) new in
    ap (λ here. if here then 0 else suc (number_in (front ++ (w ∷ rest)) w)) (other_way w first cut.0) ∙ ap suc (fresh_number front w rest cut.1)

numbered : (front ws : List (List ℕ)) → Fresh front ws → (k : ℕ) → k < length ws → number_in (front ++ ws) (slice_index_or ws k []) ≡ length front + k
numbered front [] h k lt = absurd (omega (arith, lt))
numbered front (w ∷ ws) h zero lt = fresh_number front w ws h.0 ∙ omega arith
numbered front (w ∷ ws) h (suc k) lt =
    ap (λ ns. number_in ns (slice_index_or ws k [])) (sym (append_assoc front (w ∷ []) ws)) ∙ numbered (front ++ (w ∷ [])) ws h.1 k (omega (arith, lt))
    ∙ omega (arith, length-append front (w ∷ []))

not_twice : (twice : Bool) (count most : ℕ) (code : SpecCode) → declaration_code twice count most code ≡ None → twice ≡ false
not_twice true count most code e = let clash : ◌≡◌ {A = Option SpecCode} _ None = e in absurd cc
not_twice false count most code e = refl

none_declared : (a b c : Bool) → (a || b || c) ≡ false → (b ≡ false) × (c ≡ false)
none_declared true b c e = absurd cc
none_declared false true c e = absurd cc
none_declared false false c e = (refl, e)

symbols_fresh : (before : Declared) (ss : List NamedPattern) → SymbolsFit before ss → Fresh before.symbols (map (λ s. s.name) ss)
symbols_fresh before [] h = tt
symbols_fresh before (s ∷ ss) h = (
  (none_declared (is_among s.name before.lines) (is_among s.name before.symbols) (is_among s.name before.outputs)
      (not_twice (is_declared s.name before) (length before.symbols) 32 S11 h.0)).0,
  symbols_fresh (with_symbol before s.name) ss h.2,
)

outputs_fresh : (before : Declared) (ws : List (List ℕ)) → OutputsFit before ws → Fresh before.outputs ws
outputs_fresh before [] h = tt
outputs_fresh before (w ∷ ws) h = (
  (none_declared (is_among w before.lines) (is_among w before.symbols) (is_among w before.outputs) (not_twice (is_declared w before) (length before.outputs) 16 S12 h.0)).1,
  outputs_fresh (with_output before w) ws h.1,
)

pub symbols_numbered : (before : Declared) (ss : List NamedPattern) → before.symbols ≡ [] → SymbolsFit before ss → (k : ℕ) → k < length (map (λ s. s.name) ss)
    → number_in (map (λ s. s.name) ss) (slice_index_or (map (λ s. s.name) ss) k []) ≡ k
symbols_numbered before ss none h k lt =
    let names = map (λ (s : NamedPattern). s.name) ss in
    let fresh : Fresh [] names = subst (λ front. Fresh front names) none (symbols_fresh before ss h) in
    numbered [] names fresh k lt ∙ omega arith

pub outputs_numbered : (before : Declared) (ws : List (List ℕ)) → before.outputs ≡ [] → OutputsFit before ws → (k : ℕ) → k < length ws
    → number_in ws (slice_index_or ws k []) ≡ k
outputs_numbered before ws none h k lt =
    let fresh : Fresh [] ws = subst (λ front. Fresh front ws) none (outputs_fresh before ws h) in
    numbered [] ws fresh k lt ∙ omega arith

-- a pattern has a place for each line
pub pattern_size : (before : Declared) (ss : List NamedPattern) → SymbolsFit before ss → (k : ℕ) (s : NamedPattern) → slice_get ss k ≡ Some s
    → length s.pattern ≡ length before.lines
pattern_size before [] h k s e = absurd cc
pattern_size before (x ∷ ss) h zero s e =
    let same : x ≡ s = cc in
    subst (λ (s : NamedPattern). length s.pattern ≡ length before.lines) same h.1
pattern_size before (x ∷ ss) h (suc k) s e = pattern_size (with_symbol before x.name) ss h.2 k s e
