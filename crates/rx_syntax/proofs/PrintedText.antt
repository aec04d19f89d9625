-- The tokens with which a specification is printed, and that they are read as themselves.
use Rattle.std.proofs.Common.{◌≡◌, ℕ, zero, suc, Bool, Some, slice_get, ◌≤◌, true, false, List, [], ◌∷◌, ◌++◌, length, map, flat_map, codes, refl, ap, sym, ◌∙◌, subst, arith}
use Rattle.std.specs.Prelude.{⊤, ◌≢◌, ◌||◌}
use Rattle.std.specs.List.{list_all}
use Rattle.std.proofs.lemmas.List.{append_assoc}
use Rattle.rx_text.specs.Name.{is_name_byte}
use Rattle.rx_lang.specs.declared.pattern.PatternBit.{PatternBit}
use Rattle.rx_lang.specs.declared.pattern.PatternBit.TheVariants as bits
use Rattle.rx_lang.specs.Expression.{Expr}
use Rattle.rx_lang.specs.Specification.{NamedPattern, Specification}
use Rattle.rx_syntax.specs.Tokens.{place_byte, is_run_byte}
use Rattle.rx_syntax.specs.Grammar.{keyword_of}
use Rattle.rx_syntax.specs.Lexemes.{run_kind}
use Rattle.rx_syntax.specs.Uses.{undeclared}
use Rattle.rx_syntax.specs.Printable.{version_for}
use Rattle.rx_syntax.specs.Printed.{has_repeat, have_repeat, is_some, needs_version_2, statement_text, names_text, symbol_text}
use Rattle.rx_syntax.specs.declared.version.Version.{Version}
use Rattle.rx_syntax.specs.declared.version.Version.TheVariants.{One, Two}
use Rattle.rx_syntax.specs.declared.kind.Kind.{Kind}
use Rattle.rx_syntax.specs.declared.kind.Kind.TheVariants as kinds
use Rattle.rx_syntax.proofs.Bits.{Bit, blank, piece, bits_text, Fits, AllFit, bits_append, fit_append, sign_fits, run_fits, IsPlainName, name_fits, no_run}
use Rattle.rx_syntax.proofs.PrintedExprs.{expr_bits, expr_bits_text, expr_fits, ArePlain, space_fits, blank_line_fits}
use Rattle.rx_syntax.proofs.PrintedSections.{end_bits, name_bits, names_bits, symbol_bits, Statement, keyword_bytes, statement_bits}
use Rattle.rx_syntax.proofs.NewNames.{behind_lines, behind_symbols, LinesFit, SymbolsFit, OutputsFit, pattern_size, lines_declared}
use Rattle.rx_syntax.proofs.CountedUses.{EachExpr, AllProper, total}
use Rattle.rx_syntax.proofs.Depths.{depth, IsFlat, flat_none, flat_append, flat_blank, flat_piece, run_opens, expr_flat}
use Rattle.rx_syntax.proofs.Runs.{StopsAt}

abbrev pub names_in : Specification → List (List ℕ)
names_in spec = map (λ s. s.name) spec.symbols

abbrev pub in_kind : Bool → Expr → Statement
in_kind scans e = record { scans = scans; expr = e }

-- the statements in the order in which they are printed
abbrev pub statements_in : Specification → List Statement
statements_in spec = map (in_kind false) spec.statements ++ map (in_kind true) spec.scans

-- bits of whole specifications

abbrev pub spec_bits : Specification → List Bit
spec_bits spec =
    names_bits kinds.Line (codes "line") spec.lines
    ++ (flat_map symbol_bits spec.symbols
    ++ (names_bits kinds.Output (codes "output") spec.outputs
    ++ flat_map (statement_bits (names_in spec) spec.outputs) (statements_in spec)))

-- the text behind the statement of the version
abbrev pub sections_text : Specification → List ℕ
sections_text spec =
    names_text (codes "line") spec.lines
    ++ (flat_map symbol_text spec.symbols
    ++ (names_text (codes "output") spec.outputs
    ++ (flat_map (statement_text (names_in spec) spec.outputs (codes "expr")) spec.statements
    ++ flat_map (statement_text (names_in spec) spec.outputs (codes "scan")) spec.scans)))

names_bits_text : (names : List (List ℕ)) → bits_text (name_bits names) ≡ flat_map (λ name. codes " " ++ name) names
names_bits_text [] = refl
names_bits_text (name ∷ names) = ap (λ t. 32 ∷ (name ++ t)) (names_bits_text names)

section_text : (kind : Kind) (keyword : List ℕ) (names : List (List ℕ)) → bits_text (names_bits kind keyword names) ≡ names_text keyword names
section_text kind keyword names =
    ap (λ t. keyword ++ t) (bits_append (name_bits names) end_bits ∙ ap (λ t. t ++ codes ";\n") (names_bits_text names))

flat_text : {A : Type 0} (of : A → List Bit) (text : A → List ℕ) → ((a : A) → bits_text (of a) ≡ text a) → (xs : List A)
    → bits_text (flat_map of xs) ≡ flat_map text xs
flat_text of text each [] = refl
flat_text of text each (x ∷ xs) =
    bits_append (of x) (flat_map of xs) ∙ ap (λ t. t ++ bits_text (flat_map of xs)) (each x) ∙ ap (λ t. text x ++ t) (flat_text of text each xs)

flat_both_text : {A : Type 0} (of : A → List Bit) (xs ys : List A)
    → bits_text (flat_map of (xs ++ ys)) ≡ bits_text (flat_map of xs) ++ bits_text (flat_map of ys)
flat_both_text of [] ys = refl
flat_both_text of (x ∷ xs) ys =
    bits_append (of x) (flat_map of (xs ++ ys)) ∙ ap (λ t. bits_text (of x) ++ t) (flat_both_text of xs ys)
    ∙ sym (append_assoc (bits_text (of x)) (bits_text (flat_map of xs)) (bits_text (flat_map of ys)))
    ∙ ap (λ t. t ++ bits_text (flat_map of ys)) (sym (bits_append (of x) (flat_map of xs)))

module _ (symbols outputs : List (List ℕ)) where
  statement_bits_text : (scans : Bool) (e : Expr) → bits_text (statement_bits symbols outputs (in_kind scans e)) ≡ statement_text symbols outputs (keyword_bytes scans) e
  statement_bits_text scans e =
      ap (λ t. keyword_bytes scans ++ (32 ∷ t)) (bits_append (expr_bits symbols outputs e) end_bits ∙ ap (λ t. t ++ codes ";\n") (expr_bits_text symbols outputs e))

  kind_text : (scans : Bool) (es : List Expr)
      → bits_text (flat_map (statement_bits symbols outputs) (map (in_kind scans) es)) ≡ flat_map (statement_text symbols outputs (keyword_bytes scans)) es
  kind_text scans [] = refl
  kind_text scans (e ∷ es) =
      let here = statement_bits symbols outputs (in_kind scans e) in
      let more = flat_map (statement_bits symbols outputs) (map (in_kind scans) es) in
      bits_append here more ∙ ap (λ t. t ++ bits_text more) (statement_bits_text scans e)
      ∙ ap (λ t. statement_text symbols outputs (keyword_bytes scans) e ++ t) (kind_text scans es)

pub spec_text : (spec : Specification) → bits_text (spec_bits spec) ≡ sections_text spec
spec_text spec =
    let ls = names_bits kinds.Line (codes "line") spec.lines in
    let ss = flat_map symbol_bits spec.symbols in
    let os = names_bits kinds.Output (codes "output") spec.outputs in
    let es = flat_map (statement_bits (names_in spec) spec.outputs) (statements_in spec) in
    bits_append ls (ss ++ (os ++ es))
    ∙ ap (λ t. bits_text ls ++ t) (bits_append ss (os ++ es) ∙ ap (λ t. bits_text ss ++ t) (bits_append os es))
    ∙ four (section_text kinds.Line (codes "line") spec.lines) (flat_text symbol_bits symbol_text (λ s. refl) spec.symbols)
    (section_text kinds.Output (codes "output") spec.outputs)
    (flat_both_text (statement_bits (names_in spec) spec.outputs) (map (in_kind false) spec.statements) (map (in_kind true) spec.scans)
    ∙ ap (λ t. t ++ bits_text (flat_map (statement_bits (names_in spec) spec.outputs) (map (in_kind true) spec.scans))) (kind_text (names_in spec) spec.outputs false spec.statements)
    ∙ ap (λ t. flat_map (statement_text (names_in spec) spec.outputs (codes "expr")) spec.statements ++ t) (kind_text (names_in spec) spec.outputs true spec.scans))
  where
    four : {a b c d e f g h : List ℕ} → a ≡ e → b ≡ f → c ≡ g → d ≡ h → a ++ (b ++ (c ++ d)) ≡ e ++ (f ++ (g ++ h))
    four {a = a} {b = b} {c = c} {f = f} {g = g} {h = h} w x y z =
        ap (λ t. a ++ (b ++ (c ++ t))) z ∙ ap (λ t. a ++ (b ++ (t ++ h))) y ∙ ap (λ t. a ++ (t ++ (g ++ h))) x ∙ ap (λ t. t ++ (f ++ (g ++ h))) w

-- the version

-- What version 1 does not have stands in version 2.
abbrev pub IsAllowed : Version → Statement → Type 0
IsAllowed version s = (has_repeat s.expr ≡ true → version ≡ Two) × (s.scans ≡ true → version ≡ Two)

abbrev pub AllAllowed : Version → List Statement → Type 0
AllAllowed version [] = ⊤
AllAllowed version (s ∷ ss) = IsAllowed version s × AllAllowed version ss

all_two : (ss : List Statement) → AllAllowed Two ss
all_two [] = tt
all_two (s ∷ ss) = ((λ e. refl, λ e. refl), all_two ss)

no_repeats : (es : List Expr) → have_repeat es ≡ false → AllAllowed One (map (in_kind false) es ++ [])
no_repeats [] none = tt
no_repeats (e ∷ es) none = by_test (has_repeat e) refl none (no_repeats es)
  where
    by_test : (b : Bool) → has_repeat e ≡ b → (b || have_repeat es) ≡ false → (have_repeat es ≡ false → AllAllowed One (map (in_kind false) es ++ []))
        → AllAllowed One (map (in_kind false) (e ∷ es) ++ [])
    by_test true is h later = absurd cc
    by_test false is h later = (
      (
        (λ f. let clash : ◌≡◌ {A = Bool} false true = sym is ∙ f in absurd cc),
        (λ f. let clash : ◌≡◌ {A = Bool} false true = f in absurd cc),
      ),
      later h,
    )

old_parts : (a b c : Bool) → ((a || b) || c) ≡ false → (a ≡ false) × (c ≡ false)
old_parts true b c e = absurd cc
old_parts false true c e = absurd cc
old_parts false false c e = (refl, e)

old_allowed : (es scans : List Expr) → have_repeat es ≡ false → is_some scans ≡ false → AllAllowed One (map (in_kind false) es ++ map (in_kind true) scans)
old_allowed es [] none some = no_repeats es none
old_allowed es (s ∷ scans) none some = let clash : ◌≡◌ {A = Bool} true false = some in absurd cc

pub allowed_in : (spec : Specification) (b : Bool) → needs_version_2 spec ≡ b → AllAllowed (version_for b) (statements_in spec)
allowed_in spec true e = all_two (statements_in spec)
allowed_in spec false e =
    let parts = old_parts (have_repeat spec.statements) (have_repeat spec.scans) (is_some spec.scans) e in
    old_allowed spec.statements spec.scans parts.0 parts.1

-- What a specification keeps whose text is read back where expressions may have so many symbols, parentheses aside.

abbrev pub AllPlain : Version → List (List ℕ) → Type 0
AllPlain version [] = ⊤
AllPlain version (name ∷ names) = IsPlainName version name × AllPlain version names

pub record IsReadBack (limit : ℕ) (spec : Specification) : Type 0 where
  pub some_lines : spec.lines ≢ []
  pub some_symbols : spec.symbols ≢ []
  pub some_outputs : spec.outputs ≢ []
  pub some_statements : statements_in spec ≢ []
  pub plain_lines : AllPlain (version_for (needs_version_2 spec)) spec.lines
  pub plain_symbols : AllPlain (version_for (needs_version_2 spec)) (names_in spec)
  pub plain_outputs : AllPlain (version_for (needs_version_2 spec)) spec.outputs
  pub lines_fit : LinesFit undeclared spec.lines
  pub symbols_fit : SymbolsFit (behind_lines undeclared spec.lines) spec.symbols
  pub outputs_fit : OutputsFit (behind_symbols (behind_lines undeclared spec.lines) spec.symbols) spec.outputs
  pub proper : AllProper (names_in spec) spec.outputs (statements_in spec)
  pub few : total (statements_in spec) ≤ limit

-- the parts fit one after another

pub plain_at : (version : Version) (names : List (List ℕ)) → AllPlain version names → ArePlain version names
plain_at version [] h k lt = absurd (omega (arith, lt))
plain_at version (name ∷ names) (first, h) zero lt = first
plain_at version (name ∷ names) (first, h) (suc k) lt = plain_at version names h k (omega (arith, lt))

place_runs : (version : Version) (p : PatternBit) → is_run_byte version (place_byte p) ≡ true
place_runs One bits.Zero = refl
place_runs One bits.One = refl
place_runs One bits.Any = refl
place_runs Two bits.Zero = refl
place_runs Two bits.One = refl
place_runs Two bits.Any = refl

places_run : (version : Version) (ps : List PatternBit) → list_all (is_run_byte version) (map place_byte ps) ≡ true
places_run version [] = refl
places_run version (p ∷ ps) = rw (place_runs version p) (places_run version ps)

some_places : (ps : List PatternBit) → ps ≢ [] → map place_byte ps ≢ []
some_places [] some e = some refl
some_places (p ∷ ps) some e = cc

name_stops : (names : List (List ℕ)) (rest : List ℕ) → StopsAt is_name_byte (bits_text (name_bits names) ++ (59 ∷ rest))
name_stops [] rest = refl
name_stops (name ∷ names) rest = refl

keyword_fits : (version : Version) (scans : Bool) → (scans ≡ true → version ≡ Two) → (rest : List ℕ)
    → Fits version (piece (keyword_of scans) (keyword_bytes scans)) (32 ∷ rest)
keyword_fits version false two rest = (refl, refl, omega arith)
keyword_fits version true two rest = subst (λ v. Fits v (piece kinds.Scan (codes "scan")) (32 ∷ rest)) (sym (two refl)) (refl, refl, omega arith)

module _ (version : Version) where
  end_fits : (rest : List ℕ) → AllFit version end_bits rest
  end_fits rest = (sign_fits version 59 (10 ∷ rest) refl refl refl refl refl, (blank_line_fits version rest, tt))

  names_fit : (names : List (List ℕ)) (rest : List ℕ) → AllPlain version names → AllFit version (name_bits names) (59 ∷ rest)
  names_fit [] rest h = tt
  names_fit (name ∷ names) rest (first, h) =
      let more = bits_text (name_bits names) ++ (59 ∷ rest) in
      (space_fits version (bits_text (piece kinds.Name name ∷ name_bits names) ++ (59 ∷ rest)), (name_fits version name more first (name_stops names rest), names_fit names rest h))

  symbol_fits : (s : NamedPattern) (rest : List ℕ) → IsPlainName version s.name → s.pattern ≢ [] → AllFit version (symbol_bits s) rest
  symbol_fits s rest plain some =
      let bytes = map place_byte s.pattern in
      let five : List Bit = piece (run_kind bytes) bytes ∷ end_bits in
      let four : List Bit = piece kinds.Equals (61 ∷ []) ∷ blank 32 ∷ five in
      let three : List Bit = piece kinds.Name s.name ∷ blank 32 ∷ four in (
        (refl, refl, omega arith),
        (
          space_fits version (bits_text three ++ rest),
          (
            name_fits version s.name (bits_text (blank 32 ∷ four) ++ rest) plain refl,
            (
              space_fits version (bits_text four ++ rest),
              (
                sign_fits version 61 (bits_text (blank 32 ∷ five) ++ rest) refl refl refl refl refl,
                (
                  space_fits version (bits_text five ++ rest),
                  (
                    run_fits version bytes (59 ∷ 10 ∷ rest) (some_places s.pattern some) (places_run version s.pattern) (no_run version 59 refl refl),
                    end_fits rest,
                  ),
                ),
              ),
            ),
          ),
        ),
      )

  flat_fits : {A : Type 0} (of : A → List Bit) (rest : List ℕ) (xs : List A)
      → ((k : ℕ) (x : A) → slice_get xs k ≡ Some x → (r : List ℕ) → AllFit version (of x) r) → AllFit version (flat_map of xs) rest
  flat_fits of rest [] each = tt
  flat_fits of rest (x ∷ xs) each =
      fit_append version (of x) (flat_map of xs) rest (each 0 x refl (bits_text (flat_map of xs) ++ rest)) (flat_fits of rest xs (λ k y e. each (suc k) y e))

  line_section_fits : (names : List (List ℕ)) (rest : List ℕ) → names ≢ [] → AllPlain version names → AllFit version (names_bits kinds.Line (codes "line") names) rest
  line_section_fits [] rest some h = absurd (some refl)
  line_section_fits (name ∷ names) rest some h =
      ((refl, refl, omega arith), fit_append version (name_bits (name ∷ names)) end_bits rest (names_fit (name ∷ names) (10 ∷ rest) h) (end_fits rest))

  output_section_fits : (names : List (List ℕ)) (rest : List ℕ) → names ≢ [] → AllPlain version names
      → AllFit version (names_bits kinds.Output (codes "output") names) rest
  output_section_fits [] rest some h = absurd (some refl)
  output_section_fits (name ∷ names) rest some h =
      ((refl, refl, omega arith), fit_append version (name_bits (name ∷ names)) end_bits rest (names_fit (name ∷ names) (10 ∷ rest) h) (end_fits rest))

  module _ (symbols outputs : List (List ℕ)) (plain_symbols : ArePlain version symbols) (plain_outputs : ArePlain version outputs) where
    statements_fit : (ss : List Statement) → AllProper symbols outputs ss → AllAllowed version ss → (rest : List ℕ)
        → AllFit version (flat_map (statement_bits symbols outputs) ss) rest
    statements_fit [] h allowed rest = tt
    statements_fit (s ∷ ss) (h, others) ((repeats, scans), allowed) rest =
        let xs = expr_bits symbols outputs s.expr in
        let more = flat_map (statement_bits symbols outputs) ss in
        let behind = bits_text more ++ rest in
        let one : AllFit version (statement_bits symbols outputs s) behind = (
          keyword_fits version s.scans scans (bits_text (xs ++ end_bits) ++ behind),
          (
            space_fits version (bits_text (xs ++ end_bits) ++ behind),
            fit_append version xs end_bits behind (expr_fits symbols outputs version plain_symbols plain_outputs s.expr h repeats (59 ∷ 10 ∷ behind) refl) (end_fits behind),
          ),
        ) in
        fit_append version (statement_bits symbols outputs s) more rest one (statements_fit ss others allowed rest)

name_at : (version : Version) (ss : List NamedPattern) → AllPlain version (map (λ s. s.name) ss) → (k : ℕ) (s : NamedPattern) → slice_get ss k ≡ Some s
    → IsPlainName version s.name
name_at version [] h k s get = absurd cc
name_at version (x ∷ ss) (first, h) zero s get =
    let same : x ≡ s = cc in
    subst (λ (s : NamedPattern). IsPlainName version s.name) same first
name_at version (x ∷ ss) (first, h) (suc k) s get = name_at version ss h k s get

none_long : {A : Type 0} (xs : List A) → xs ≢ [] → length xs ≢ 0
none_long [] some e = some refl
none_long (x ∷ xs) some e = omega (arith, e)

module _ (limit : ℕ) (spec : Specification) (h : IsReadBack limit spec) where
  version : Version
  version = version_for (needs_version_2 spec)

  some_pattern : (k : ℕ) (s : NamedPattern) → slice_get spec.symbols k ≡ Some s → s.pattern ≢ []
  some_pattern k s get e =
      let size = pattern_size (behind_lines undeclared spec.lines) spec.symbols h.symbols_fit k s get in
      let lines : length (behind_lines undeclared spec.lines).lines ≡ length spec.lines = ap (λ d. length d.lines) (lines_declared undeclared spec.lines) in
      none_long spec.lines h.some_lines (sym (size ∙ lines) ∙ ap (λ ps. length ps) e)

  pub spec_fits : AllFit (version_for (needs_version_2 spec)) (spec_bits spec) []
  spec_fits =
      let v = version_for (needs_version_2 spec) in
      let ss = flat_map symbol_bits spec.symbols in
      let os = names_bits kinds.Output (codes "output") spec.outputs in
      let es = flat_map (statement_bits (names_in spec) spec.outputs) (statements_in spec) in
      fit_append v (names_bits kinds.Line (codes "line") spec.lines) (ss ++ (os ++ es)) []
      (line_section_fits v spec.lines (bits_text (ss ++ (os ++ es)) ++ []) h.some_lines h.plain_lines)
      (fit_append v ss (os ++ es) []
      (flat_fits v symbol_bits (bits_text (os ++ es) ++ []) spec.symbols
      (λ k s e r. symbol_fits v s r (name_at v spec.symbols h.plain_symbols k s e) (some_pattern k s e)))
      (fit_append v os es [] (output_section_fits v spec.outputs (bits_text es ++ []) h.some_outputs h.plain_outputs)
      (statements_fit v (names_in spec) spec.outputs (plain_at v (names_in spec) h.plain_symbols) (plain_at v spec.outputs h.plain_outputs) (statements_in spec) h.proper
      (allowed_in spec (needs_version_2 spec) refl) [])))

-- parentheses

flat_low : (xs : List Bit) (n m : ℕ) → n ≤ m → IsFlat xs n → IsFlat xs m
flat_low xs n m le h place d = let f = h place d in (f.0, omega (arith, f.1, le))

flat_both : (xs ys : List Bit) (n : ℕ) → IsFlat xs n → IsFlat ys n → IsFlat (xs ++ ys) n
flat_both xs ys n h i place d = let f = flat_append xs ys n n h i place d in (f.0, omega (arith, f.1))

end_flat : (n : ℕ) → IsFlat end_bits n
end_flat n = flat_piece kinds.Semicolon (59 ∷ []) (blank 10 ∷ []) n (λ d. refl) (flat_blank 10 [] n (flat_none n))

name_flat : (names : List (List ℕ)) (n : ℕ) → IsFlat (name_bits names) n
name_flat [] n = flat_none n
name_flat (name ∷ names) n =
    flat_blank 32 (piece kinds.Name name ∷ name_bits names) n (flat_piece kinds.Name name (name_bits names) n (λ d. refl) (name_flat names n))

symbol_flat : (s : NamedPattern) (n : ℕ) → IsFlat (symbol_bits s) n
symbol_flat s n =
    let bytes = map place_byte s.pattern in
    let five : List Bit = piece (run_kind bytes) bytes ∷ end_bits in
    let four : List Bit = piece kinds.Equals (61 ∷ []) ∷ blank 32 ∷ five in
    let three : List Bit = piece kinds.Name s.name ∷ blank 32 ∷ four in
    flat_piece kinds.Symbol (codes "symbol") (blank 32 ∷ three) n (λ d. refl) (flat_blank 32 three n (flat_piece kinds.Name s.name (blank 32 ∷ four) n (λ d. refl)
    (flat_blank 32 four n (flat_piece kinds.Equals (61 ∷ []) (blank 32 ∷ five) n (λ d. refl) (flat_blank 32 five n
    (flat_piece (run_kind bytes) bytes end_bits n (run_opens bytes) (end_flat n)))))))

symbols_flat : (ss : List NamedPattern) (n : ℕ) → IsFlat (flat_map symbol_bits ss) n
symbols_flat [] n = flat_none n
symbols_flat (s ∷ ss) n = flat_both (symbol_bits s) (flat_map symbol_bits ss) n (symbol_flat s n) (symbols_flat ss n)

keyword_flat : (scans : Bool) (xs : List Bit) (n : ℕ) → IsFlat xs n → IsFlat (piece (keyword_of scans) (keyword_bytes scans) ∷ xs) n
keyword_flat false xs n h = flat_piece kinds.Expr (codes "expr") xs n (λ d. refl) h
keyword_flat true xs n h = flat_piece kinds.Scan (codes "scan") xs n (λ d. refl) h

-- printed with at most 200 parentheses open at once
abbrev pub AllShallow : List Statement → Type 0
AllShallow ss = EachExpr (λ e. depth e ≤ 200) ss

statements_flat : (symbols outputs : List (List ℕ)) (ss : List Statement) → AllShallow ss → IsFlat (flat_map (statement_bits symbols outputs) ss) 200
statements_flat symbols outputs [] h = flat_none 200
statements_flat symbols outputs (s ∷ ss) (low, h) =
    let xs = expr_bits symbols outputs s.expr in
    flat_both (statement_bits symbols outputs s) (flat_map (statement_bits symbols outputs) ss) 200
    (keyword_flat s.scans (blank 32 ∷ (xs ++ end_bits)) 200
    (flat_blank 32 (xs ++ end_bits) 200 (flat_both xs end_bits 200 (flat_low xs (depth s.expr) 200 low (expr_flat symbols outputs s.expr)) (end_flat 200))))
    (statements_flat symbols outputs ss h)

pub spec_flat : (spec : Specification) → AllShallow (statements_in spec) → IsFlat (spec_bits spec) 200
spec_flat spec h =
    let ls = names_bits kinds.Line (codes "line") spec.lines in
    let ss = flat_map symbol_bits spec.symbols in
    let os = names_bits kinds.Output (codes "output") spec.outputs in
    let es = flat_map (statement_bits (names_in spec) spec.outputs) (statements_in spec) in
    flat_both ls (ss ++ (os ++ es)) 200
    (flat_piece kinds.Line (codes "line") (name_bits spec.lines ++ end_bits) 200 (λ d. refl)
    (flat_both (name_bits spec.lines) end_bits 200 (name_flat spec.lines 200) (end_flat 200)))
    (flat_both ss (os ++ es) 200 (symbols_flat spec.symbols 200)
    (flat_both os es 200
    (flat_piece kinds.Output (codes "output") (name_bits spec.outputs ++ end_bits) 200 (λ d. refl)
    (flat_both (name_bits spec.outputs) end_bits 200 (name_flat spec.outputs 200) (end_flat 200)))
    (statements_flat (names_in spec) spec.outputs (statements_in spec) h)))
