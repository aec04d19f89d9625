-- The sections of a printed specification, and what their tokens say.
use Rattle.std.proofs.Common.{◌≡◌, ℕ, ◌+◌, List, [], ◌∷◌, ◌++◌, length, map, flat_map, drop, codes, refl, ap, sym, ◌∙◌, subst, Bool, true, false, inl, inr}
use Rattle.std.specs.Prelude.{if◌then◌else◌}
use Rattle.std.specs.List.{list_all}
use Rattle.std.proofs.lemmas.List.{append_assoc, append-nil}
use Rattle.rx_lang.specs.declared.pattern.PatternBit.{PatternBit}
use Rattle.rx_lang.specs.declared.pattern.PatternBit.TheVariants.{Zero, One, Any}
use Rattle.rx_lang.specs.Expression.{Expr}
use Rattle.rx_lang.specs.Specification.{NamedPattern}
use Rattle.rx_text.specs.NumberInText.{is_digit}
use Rattle.rx_syntax.specs.Tokens.{place_byte, is_place_byte}
use Rattle.rx_syntax.specs.Lexemes.{Lexeme, run_kind, word_of}
use Rattle.rx_syntax.specs.Grammar.{Tree, Derives, unions, AreNames, NamesOf, SymbolTokens, SymbolOf, StatementTree, keyword_of, ExprOf, Statements, one, more}
use Rattle.rx_syntax.specs.Accepted.{place_bit, named_pattern}
use Rattle.rx_syntax.specs.declared.kind.Kind.{Kind}
use Rattle.rx_syntax.specs.declared.kind.Kind.TheVariants as kinds
use Rattle.rx_syntax.proofs.Bits.{Bit, blank, piece, bits_text, tokens_of, tokens_append, goes_on, word_read}
use Rattle.rx_syntax.proofs.PrintedNumbers.{CountsAs}
use Rattle.rx_syntax.proofs.PrintedExprs.{expr_bits}
use Rattle.rx_syntax.proofs.PrintedTrees.{StandAt, stand_front, stand_behind, stand_next}

abbrev pub end_bits : List Bit
end_bits = piece kinds.Semicolon (59 ∷ []) ∷ blank 10 ∷ []

abbrev pub name_bits : List (List ℕ) → List Bit
name_bits [] = []
name_bits (name ∷ names) = blank 32 ∷ piece kinds.Name name ∷ name_bits names

abbrev pub names_bits : Kind → List ℕ → List (List ℕ) → List Bit
names_bits kind keyword names = piece kind keyword ∷ (name_bits names ++ end_bits)

abbrev pub symbol_bits : NamedPattern → List Bit
symbol_bits s =
    piece kinds.Symbol (codes "symbol") ∷ blank 32 ∷ piece kinds.Name s.name ∷ blank 32 ∷ piece kinds.Equals (61 ∷ []) ∷ blank 32
    ∷ piece (run_kind (map place_byte s.pattern)) (map place_byte s.pattern) ∷ end_bits

-- an expression of a statement, and whether its words may begin at any clock
pub record Statement : Type 0 where
  pub scans : Bool
  pub expr : Expr

-- the bytes of the keyword of a statement
abbrev pub keyword_bytes : Bool → List ℕ
keyword_bytes false = codes "expr"
keyword_bytes true = codes "scan"

abbrev pub statement_bits : List (List ℕ) → List (List ℕ) → Statement → List Bit
statement_bits symbols outputs s =
    piece (keyword_of s.scans) (keyword_bytes s.scans) ∷ blank 32 ∷ (expr_bits symbols outputs s.expr ++ end_bits)

-- names

names_at : (text : List ℕ) (place : ℕ) (names : List (List ℕ)) (rest : List ℕ) → StandAt text place (name_bits names) rest
    → AreNames (tokens_of place (name_bits names)) × (map (word_of text) (tokens_of place (name_bits names)) ≡ names)
names_at text place [] rest stands = (tt, refl)
names_at text place (name ∷ names) rest stands =
    let more = bits_text (name_bits names) ++ rest in
    let there = stand_next text place 32 (piece kinds.Name name ∷ name_bits names) rest stands in
    let cut : drop (place + 1) text ≡ name ++ more = there ∙ append_assoc name (bits_text (name_bits names)) rest in
    let word = word_read text kinds.Name (place + 1) name more cut in
    let others = names_at text ((place + 1) + length name) names rest (goes_on text (place + 1) name more cut) in (
      (refl, others.0),
      ap (λ w. w ∷ map (word_of text) (tokens_of ((place + 1) + length name) (name_bits names))) word ∙ ap (λ ws. name ∷ ws) others.1,
    )

pub names_read : (text : List ℕ) (place : ℕ) (kind : Kind) (keyword : List ℕ) (name : List ℕ) (names : List (List ℕ)) (rest : List ℕ)
    → StandAt text place (names_bits kind keyword (name ∷ names)) rest
    → (found : List Lexeme) × NamesOf kind (tokens_of place (names_bits kind keyword (name ∷ names))) found × (map (word_of text) found ≡ name ∷ names)
names_read text place kind keyword name names rest stands =
    let xs = name_bits (name ∷ names) in
    let at = place + length keyword in
    let behind : StandAt text at (xs ++ end_bits) rest =
    goes_on text place keyword (bits_text (xs ++ end_bits) ++ rest) (stands ∙ append_assoc keyword (bits_text (xs ++ end_bits)) rest) in
    let found = tokens_of at xs in
    let are = names_at text at (name ∷ names) (bits_text end_bits ++ rest) (stand_front text at xs end_bits rest behind) in
    let last = at + length (bits_text xs) in (
      found,
      record {
        keyword = record { kind = kind; start = place; behind = at };
        last = record { kind = kinds.Semicolon; start = last; behind = last + 1 };
        begins = refl;
        some = λ e. cc;
        are_names = are.0;
        ends = refl;
        tokens = ap (λ ts. record { kind = kind; start = place; behind = at } ∷ ts) (tokens_append at xs end_bits);
      },
      are.1,
    )

-- symbols

places_back : (pattern : List PatternBit) → map place_bit (map place_byte pattern) ≡ pattern
places_back [] = refl
places_back (Zero ∷ ps) = ap (λ qs. Zero ∷ qs) (places_back ps)
places_back (One ∷ ps) = ap (λ qs. One ∷ qs) (places_back ps)
places_back (Any ∷ ps) = ap (λ qs. Any ∷ qs) (places_back ps)

places_pass : (ps : List PatternBit) → list_all is_place_byte (map place_byte ps) ≡ true
places_pass [] = refl
places_pass (Zero ∷ ps) = places_pass ps
places_pass (One ∷ ps) = places_pass ps
places_pass (Any ∷ ps) = places_pass ps

places_kind : (digits : Bool) → CountsAs kinds.Pattern (if digits then kinds.Bits else kinds.Pattern)
places_kind true = inl refl
places_kind false = inr refl

pub pattern_kind : (ps : List PatternBit) → CountsAs kinds.Pattern (run_kind (map place_byte ps))
pattern_kind ps = rw (places_pass ps) (places_kind (list_all is_digit (map place_byte ps)))

pub symbol_read : (text : List ℕ) (s : NamedPattern) (place : ℕ) (rest : List ℕ) → StandAt text place (symbol_bits s) rest
    → (found : SymbolTokens) × SymbolOf (tokens_of place (symbol_bits s)) (found ∷ []) × (named_pattern text found ≡ s)
symbol_read text s place rest stands =
    let bytes = map place_byte s.pattern in
    let five : List Bit = piece (run_kind bytes) bytes ∷ end_bits in
    let four : List Bit = piece kinds.Equals (61 ∷ []) ∷ blank 32 ∷ five in
    let three : List Bit = piece kinds.Name s.name ∷ blank 32 ∷ four in
    let at1 = (place + 6) + 1 in
    let here1 : StandAt text at1 three rest =
    stand_next text (place + 6) 32 three rest (goes_on text place (codes "symbol") (bits_text (blank 32 ∷ three) ++ rest) stands) in
    let cut1 : drop at1 text ≡ s.name ++ (bits_text (blank 32 ∷ four) ++ rest) = here1 ∙ append_assoc s.name (bits_text (blank 32 ∷ four)) rest in
    let at2 = (at1 + length s.name) + 1 in
    let here2 : StandAt text at2 four rest =
    stand_next text (at1 + length s.name) 32 four rest (goes_on text at1 s.name (bits_text (blank 32 ∷ four) ++ rest) cut1) in
    let at3 = (at2 + 1) + 1 in
    let here3 : StandAt text at3 five rest =
    stand_next text (at2 + 1) 32 five rest (goes_on text at2 (61 ∷ []) (bits_text (blank 32 ∷ five) ++ rest) here2) in
    let cut3 : drop at3 text ≡ bytes ++ (bits_text end_bits ++ rest) = here3 ∙ append_assoc bytes (bits_text end_bits) rest in
    let name : Lexeme = record { kind = kinds.Name; start = at1; behind = at1 + length s.name } in
    let pattern : Lexeme = record { kind = run_kind bytes; start = at3; behind = at3 + length bytes } in
    let word1 = word_read text kinds.Name at1 s.name (bits_text (blank 32 ∷ four) ++ rest) cut1 in
    let word3 = word_read text (run_kind bytes) at3 bytes (bits_text end_bits ++ rest) cut3 in
    let same : map place_bit (word_of text pattern) ≡ s.pattern = ap (map place_bit) word3 ∙ places_back s.pattern in
    let behind = at3 + length bytes in (
      record { name = name; pattern = pattern },
      record {
        keyword = record { kind = kinds.Symbol; start = place; behind = place + 6 };
        name = name;
        equals = record { kind = kinds.Equals; start = at2; behind = at2 + 1 };
        pattern = pattern;
        last = record { kind = kinds.Semicolon; start = behind; behind = behind + 1 };
        begins = refl;
        is_name = refl;
        is_equals = refl;
        is_pattern = pattern_kind s.pattern;
        ends = refl;
        tokens = refl;
        entry = refl;
      },
      ap (λ n. record { name = n; pattern = map place_bit (word_of text pattern) }) word1 ∙ ap (λ p. record { name = s.name; pattern = p }) same,
    )

-- expressions

-- what a statement says, by what its expression means
abbrev pub statement_of : (Tree → Expr) → StatementTree → Statement
statement_of means s = record { scans = s.scans; expr = means s.tree }

pub statement_read : (symbols outputs : List (List ℕ)) (text : List ℕ) (means : Tree → Expr) (s : Statement)
    → ((place : ℕ) (rest : List ℕ) → StandAt text place (expr_bits symbols outputs s.expr) rest
    → (t : Tree) × Derives unions (tokens_of place (expr_bits symbols outputs s.expr)) t × (means t ≡ s.expr))
    → (place : ℕ) (rest : List ℕ) → StandAt text place (statement_bits symbols outputs s) rest
    → (found : StatementTree) × ExprOf (tokens_of place (statement_bits symbols outputs s)) (found ∷ []) × (statement_of means found ≡ s)
statement_read symbols outputs text means s reads place rest stands =
    let xs = expr_bits symbols outputs s.expr in
    let word = keyword_bytes s.scans in
    let at = (place + length word) + 1 in
    let tail : List Bit = blank 32 ∷ (xs ++ end_bits) in
    let here : StandAt text at (xs ++ end_bits) rest =
    stand_next text (place + length word) 32 (xs ++ end_bits) rest
    (goes_on text place word (bits_text tail ++ rest) (stands ∙ append_assoc word (bits_text tail) rest)) in
    let r = reads at (bits_text end_bits ++ rest) (stand_front text at xs end_bits rest here) in
    let last = at + length (bits_text xs) in
    let keyword : Lexeme = record { kind = keyword_of s.scans; start = place; behind = place + length word } in (
      record { scans = s.scans; tree = r.0 },
      record {
        keyword = keyword;
        scans = s.scans;
        body = tokens_of at xs;
        tree = r.0;
        last = record { kind = kinds.Semicolon; start = last; behind = last + 1 };
        begins = refl;
        derives = r.1;
        ends = refl;
        tokens = ap (λ ts. keyword ∷ ts) (tokens_append at xs end_bits);
        entry = refl;
      },
      ap (λ e. record { scans = s.scans; expr = e }) r.2,
    )

-- one statement after another

module _ {A B : Type 0} (Is : List Lexeme → List A → Type 0) (of : B → List Bit) (says : A → B) (text : List ℕ) where
  -- The statement says this, wherever it stands.
  abbrev pub SaysIt : B → Type 0
  SaysIt b = (place : ℕ) (rest : List ℕ) → StandAt text place (of b) rest → (a : A) × Is (tokens_of place (of b)) (a ∷ []) × (says a ≡ b)

  abbrev pub SayThem : List B → Type 0
  SayThem [] = Unit {0}
  SayThem (b ∷ bs) = SaysIt b × SayThem bs

  statements_more : (xs : List Lexeme) (found : List A) → Statements Is xs found → (bs : List B) → SayThem bs → (place : ℕ) (rest : List ℕ)
      → StandAt text place (flat_map of bs) rest
      → (others : List A) × Statements Is (xs ++ tokens_of place (flat_map of bs)) (found ++ others) × (map says others ≡ bs)
  statements_more xs found before [] say place rest stands =
      ([], subst (λ ys. Statements Is ys (found ++ [])) (sym (append-nil xs)) (subst (Statements Is xs) (sym (append-nil found)) before), refl)
  statements_more xs found before (b ∷ bs) (say, says_all) place rest stands =
      let at = place + length (bits_text (of b)) in
      let here = say place (bits_text (flat_map of bs) ++ rest) (stand_front text place (of b) (flat_map of bs) rest stands) in
      let ys = tokens_of place (of b) in
      let longer : Statements Is (xs ++ ys) (found ++ (here.0 ∷ [])) = more refl refl before here.1 in
      let rec = statements_more (xs ++ ys) (found ++ (here.0 ∷ [])) longer bs says_all at rest (stand_behind text place (of b) (flat_map of bs) rest stands) in
      let tokens : (xs ++ ys) ++ tokens_of at (flat_map of bs) ≡ xs ++ tokens_of place (flat_map of (b ∷ bs)) =
      append_assoc xs ys (tokens_of at (flat_map of bs)) ∙ ap (λ ts. xs ++ ts) (sym (tokens_append place (of b) (flat_map of bs))) in (
        here.0 ∷ rec.0,
        subst (λ ts. Statements Is ts (found ++ (here.0 ∷ rec.0))) tokens
            (subst (λ fs. Statements Is ((xs ++ ys) ++ tokens_of at (flat_map of bs)) fs) (append_assoc found (here.0 ∷ []) rec.0) rec.1),
        ap (λ c. c ∷ map says rec.0) here.2 ∙ ap (λ cs. b ∷ cs) rec.2,
      )

  pub statements_read : (b : B) (bs : List B) → SayThem (b ∷ bs) → (place : ℕ) (rest : List ℕ) → StandAt text place (flat_map of (b ∷ bs)) rest
      → (found : List A) × Statements Is (tokens_of place (flat_map of (b ∷ bs))) found × (map says found ≡ b ∷ bs)
  statements_read b bs (say, says_all) place rest stands =
      let here = say place (bits_text (flat_map of bs) ++ rest) (stand_front text place (of b) (flat_map of bs) rest stands) in
      let at = place + length (bits_text (of b)) in
      let rec = statements_more (tokens_of place (of b)) (here.0 ∷ []) (one here.1) bs says_all at rest (stand_behind text place (of b) (flat_map of bs) rest stands) in (
        here.0 ∷ rec.0,
        subst (λ ts. Statements Is ts (here.0 ∷ rec.0)) (sym (tokens_append place (of b) (flat_map of bs))) rec.1,
        ap (λ c. c ∷ map says rec.0) here.2 ∙ ap (λ cs. b ∷ cs) rec.2,
      )
