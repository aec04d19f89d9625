-- The tokens of a printed expression derive a tree that stands for it.
use Rattle.std.proofs.Common.{◌≡◌, ℕ, ◌+◌, ◌<◌, ◌≤◌, true, List, [], ◌∷◌, ◌++◌, length, drop, refl, ap, ◌∙◌, arith}
use Rattle.std.specs.Prelude.{slice_index_or}
use Rattle.std.specs.Fmt.{decimal}
use Rattle.std.specs.Str.Parse.{digits_value}
use Rattle.std.proofs.lemmas.List.{append_assoc, append-nil}
use Rattle.rx_lang.specs.Expression as lang
use Rattle.rx_lang.specs.Expression.{Expr}
use Rattle.rx_syntax.specs.Lexemes.{Lexeme, run_kind}
use Rattle.rx_syntax.specs.Uses.{number_of}
use Rattle.rx_syntax.specs.Grammar.{Tree, leaf, union, sequence, star, plus, optional, marked, counted, Level, unions, sequences, parts, IsNumber, Derives, named, closed, starred, looped, optioned, noted, repeated, alone, followed, single, either}
use Rattle.rx_syntax.specs.Accepted.{number_in, resolve}
use Rattle.rx_syntax.specs.declared.kind.Kind.TheVariants.{Name, Bar, Star, Plus, Question, Mark, Open, Close, OpenBrace, CloseBrace, Comma}
use Rattle.rx_syntax.proofs.Bits.{Bit, blank, piece, bits_text, tokens_of, bits_append, tokens_append, goes_on, word_read}
use Rattle.rx_syntax.proofs.PrintedNumbers.{number_kind, number_back}
use Rattle.rx_syntax.proofs.PrintedExprs.{natural, needs, enclosed_bits, bounds_bits, expr_bits, Proper}

-- the bits stand at this place of the text, before this rest
abbrev pub StandAt : List ℕ → ℕ → List Bit → List ℕ → Type 0
StandAt text place xs rest = drop place text ≡ bits_text xs ++ rest

-- the first and the second of two lists of bits
pub stand_front : (text : List ℕ) (place : ℕ) (xs ys : List Bit) (rest : List ℕ) → StandAt text place (xs ++ ys) rest
    → StandAt text place xs (bits_text ys ++ rest)
stand_front text place xs ys rest e = e ∙ ap (λ t. t ++ rest) (bits_append xs ys) ∙ append_assoc (bits_text xs) (bits_text ys) rest

pub stand_behind : (text : List ℕ) (place : ℕ) (xs ys : List Bit) (rest : List ℕ) → StandAt text place (xs ++ ys) rest
    → StandAt text (place + length (bits_text xs)) ys rest
stand_behind text place xs ys rest e = goes_on text place (bits_text xs) (bits_text ys ++ rest) (stand_front text place xs ys rest e)

pub stand_next : (text : List ℕ) (place : ℕ) (byte : ℕ) (xs : List Bit) (rest : List ℕ) → StandAt text place (blank byte ∷ xs) rest
    → StandAt text (place + 1) xs rest
stand_next text place byte xs rest e = goes_on text place (byte ∷ []) (bits_text xs ++ rest) e

-- the tokens of the bounds of a counted repeat
record BoundsRead (text : List ℕ) (place m n : ℕ) : Type 0 where
  first : Lexeme
  least : Lexeme
  comma : Lexeme
  most : Lexeme
  last : Lexeme
  are : tokens_of place (bounds_bits m n) ≡ first ∷ least ∷ comma ∷ most ∷ last ∷ []
  opens : first.kind ≡ OpenBrace
  is_least : IsNumber least
  is_comma : comma.kind ≡ Comma
  is_most : IsNumber most
  closes : last.kind ≡ CloseBrace
  least_is : number_of text least ≡ m
  most_is : number_of text most ≡ n

bounds_read : (text : List ℕ) (place m n : ℕ) (rest : List ℕ) → m ≤ 255 → n ≤ 255 → StandAt text place (bounds_bits m n) rest
    → BoundsRead text place m n
bounds_read text place m n rest low high stands =
    let one = decimal m in
    let other = decimal n in
    let at1 = place + 1 in
    let close : List Bit = piece CloseBrace (125 ∷ []) ∷ [] in
    let four : List Bit = piece (run_kind other) other ∷ close in
    let three : List Bit = piece Comma (44 ∷ []) ∷ four in
    let two : List Bit = piece (run_kind one) one ∷ three in
    let here1 : drop at1 text ≡ one ++ (bits_text three ++ rest) =
    goes_on text place (123 ∷ []) (bits_text two ++ rest) stands ∙ append_assoc one (bits_text three) rest in
    let at2 = at1 + length one in
    let at3 = at2 + 1 in
    let here3 : drop at3 text ≡ other ++ (bits_text close ++ rest) =
    goes_on text at2 (44 ∷ []) (bits_text four ++ rest) (goes_on text at1 one (bits_text three ++ rest) here1) ∙ append_assoc other (bits_text close) rest in
    let at4 = at3 + length other in
    record {
      first = record { kind = OpenBrace; start = place; behind = at1 };
      least = record { kind = run_kind one; start = at1; behind = at2 };
      comma = record { kind = Comma; start = at2; behind = at3 };
      most = record { kind = run_kind other; start = at3; behind = at4 };
      last = record { kind = CloseBrace; start = at4; behind = at4 + 1 };
      are = refl;
      opens = refl;
      is_least = number_kind m low;
      is_comma = refl;
      is_most = number_kind n high;
      closes = refl;
      least_is = ap (digits_value 10) (word_read text (run_kind one) at1 one (bits_text three ++ rest) here1) ∙ number_back m low;
      most_is = ap (digits_value 10) (word_read text (run_kind other) at3 other (bits_text close ++ rest) here3) ∙ number_back n high;
    }

module _ (symbols outputs : List (List ℕ)) (text : List ℕ)
    (number_symbols : (s : ℕ) → s < length symbols → number_in symbols (slice_index_or symbols s []) ≡ s)
    (number_outputs : (y : ℕ) → y < length outputs → number_in outputs (slice_index_or outputs y []) ≡ y) where
  abbrev pub meant : Tree → Expr
  meant t = resolve (number_in symbols) (number_in outputs) text t

  -- The bits at this place are an expression of this level, and this is what it means.
  pub record Reads (place : ℕ) (l : Level) (xs : List Bit) (e : Expr) : Type 0 where
    pub tree : Tree
    pub derives : Derives l (tokens_of place xs) tree
    pub means : meant tree ≡ e

  -- wherever the bits stand
  abbrev pub ReadsAnywhere : Level → List Bit → Expr → Type 0
  ReadsAnywhere l xs e = (place : ℕ) (rest : List ℕ) → StandAt text place xs rest → Reads place l xs e

  -- in parentheses
  enclosed_reads : (xs : List Bit) (e : Expr) → ReadsAnywhere unions xs e → ReadsAnywhere parts (enclosed_bits true xs) e
  enclosed_reads xs e h place rest stands =
      let close : List Bit = piece Close (41 ∷ []) ∷ [] in
      let inner : StandAt text (place + 1) (xs ++ close) rest = goes_on text place (40 ∷ []) (bits_text (xs ++ close) ++ rest) stands in
      let r = h (place + 1) (bits_text close ++ rest) (stand_front text (place + 1) xs close rest inner) in
      let o : Lexeme = record { kind = Open; start = place; behind = place + 1 } in
      let at = (place + 1) + length (bits_text xs) in
      let c : Lexeme = record { kind = Close; start = at; behind = at + 1 } in
      record {
        tree = r.tree;
        derives = closed o c refl refl (ap (λ ts. o ∷ ts) (tokens_append (place + 1) xs close)) r.derives;
        means = r.means;
      }

  -- at the level that is due, from the natural one
  level_reads : (l n : Level) (xs : List Bit) (e : Expr) → ReadsAnywhere n xs e → ReadsAnywhere l (enclosed_bits (needs l n) xs) e
  level_reads unions unions xs e h place rest stands = h place rest stands
  level_reads unions sequences xs e h place rest stands =
      let r = h place rest stands in record { tree = r.tree; derives = single r.derives; means = r.means }
  level_reads unions parts xs e h place rest stands =
      let r = h place rest stands in record { tree = r.tree; derives = single (alone r.derives); means = r.means }
  level_reads sequences unions xs e h place rest stands =
      let r = enclosed_reads xs e h place rest stands in record { tree = r.tree; derives = alone r.derives; means = r.means }
  level_reads sequences sequences xs e h place rest stands = h place rest stands
  level_reads sequences parts xs e h place rest stands =
      let r = h place rest stands in record { tree = r.tree; derives = alone r.derives; means = r.means }
  level_reads parts unions xs e h place rest stands = enclosed_reads xs e h place rest stands
  level_reads parts sequences xs e h place rest stands =
      let inner : ReadsAnywhere unions xs e = λ place rest stands.
      let r = h place rest stands in
      record { tree = r.tree; derives = single r.derives; means = r.means } in
      enclosed_reads xs e inner place rest stands
  level_reads parts parts xs e h place rest stands = h place rest stands

  pub expr_reads : (e : Expr) → Proper symbols outputs e → ReadsAnywhere (natural e) (expr_bits symbols outputs e) e
  expr_reads (lang.symbol s) h place rest stands =
      let name = slice_index_or symbols s [] in
      let t : Lexeme = record { kind = Name; start = place; behind = place + length name } in
      let word = word_read text Name place name rest (stands ∙ ap (λ x. x ++ rest) (append-nil name)) in
      record { tree = leaf t; derives = named refl refl; means = ap (λ w. lang.symbol (number_in symbols w)) word ∙ ap lang.symbol (number_symbols s h) }
  expr_reads (lang.sequence f g) (h, i) place rest stands =
      let xs = enclosed_bits (needs sequences (natural f)) (expr_bits symbols outputs f) in
      let ys = enclosed_bits (needs parts (natural g)) (expr_bits symbols outputs g) in
      let first = level_reads sequences (natural f) (expr_bits symbols outputs f) f (expr_reads f h) place (bits_text (blank 32 ∷ ys) ++ rest)
      (stand_front text place xs (blank 32 ∷ ys) rest stands) in
      let at = place + length (bits_text xs) in
      let second = level_reads parts (natural g) (expr_bits symbols outputs g) g (expr_reads g i) (at + 1) rest
      (stand_next text at 32 ys rest (stand_behind text place xs (blank 32 ∷ ys) rest stands)) in
      record {
        tree = sequence first.tree second.tree;
        derives = followed (tokens_append place xs (blank 32 ∷ ys)) first.derives second.derives;
        means = ap (λ x. lang.sequence x (meant second.tree)) first.means ∙ ap (lang.sequence f) second.means;
      }
  expr_reads (lang.union f g) (h, i) place rest stands =
      let xs = expr_bits symbols outputs f in
      let ys = enclosed_bits (needs sequences (natural g)) (expr_bits symbols outputs g) in
      let more : List Bit = blank 32 ∷ piece Bar (124 ∷ []) ∷ blank 32 ∷ ys in
      let first = level_reads unions (natural f) xs f (expr_reads f h) place (bits_text more ++ rest) (stand_front text place xs more rest stands) in
      let at = place + length (bits_text xs) in
      let behind = stand_next text at 32 (piece Bar (124 ∷ []) ∷ blank 32 ∷ ys) rest (stand_behind text place xs more rest stands) in
      let bar : Lexeme = record { kind = Bar; start = at + 1; behind = (at + 1) + 1 } in
      let third = stand_next text ((at + 1) + 1) 32 ys rest (goes_on text (at + 1) (124 ∷ []) (32 ∷ (bits_text ys ++ rest)) behind) in
      let second = level_reads sequences (natural g) (expr_bits symbols outputs g) g (expr_reads g i) (((at + 1) + 1) + 1) rest third in
      record {
        tree = union first.tree second.tree;
        derives = either bar refl (tokens_append place xs more) first.derives second.derives;
        means = ap (λ x. lang.union x (meant second.tree)) first.means ∙ ap (lang.union f) second.means;
      }
  expr_reads (lang.star f) h place rest stands =
      let xs = enclosed_bits (needs parts (natural f)) (expr_bits symbols outputs f) in
      let sign : List Bit = piece Star (42 ∷ []) ∷ [] in
      let r = level_reads parts (natural f) (expr_bits symbols outputs f) f (expr_reads f h) place (bits_text sign ++ rest) (stand_front text place xs sign rest stands) in
      let at = place + length (bits_text xs) in
      record { tree = star r.tree; derives = starred (record { kind = Star; start = at; behind = at + 1 }) refl (tokens_append place xs sign) r.derives; means = ap lang.star r.means }
  expr_reads (lang.plus f) h place rest stands =
      let xs = enclosed_bits (needs parts (natural f)) (expr_bits symbols outputs f) in
      let sign : List Bit = piece Plus (43 ∷ []) ∷ [] in
      let r = level_reads parts (natural f) (expr_bits symbols outputs f) f (expr_reads f h) place (bits_text sign ++ rest) (stand_front text place xs sign rest stands) in
      let at = place + length (bits_text xs) in
      record { tree = plus r.tree; derives = looped (record { kind = Plus; start = at; behind = at + 1 }) refl (tokens_append place xs sign) r.derives; means = ap lang.plus r.means }
  expr_reads (lang.optional f) h place rest stands =
      let xs = enclosed_bits (needs parts (natural f)) (expr_bits symbols outputs f) in
      let sign : List Bit = piece Question (63 ∷ []) ∷ [] in
      let r = level_reads parts (natural f) (expr_bits symbols outputs f) f (expr_reads f h) place (bits_text sign ++ rest) (stand_front text place xs sign rest stands) in
      let at = place + length (bits_text xs) in
      record { tree = optional r.tree; derives = optioned (record { kind = Question; start = at; behind = at + 1 }) refl (tokens_append place xs sign) r.derives; means = ap lang.optional r.means }
  expr_reads (lang.marked f y) (h, i) place rest stands =
      let xs = enclosed_bits (needs parts (natural f)) (expr_bits symbols outputs f) in
      let name = slice_index_or outputs y [] in
      let sign : List Bit = blank 32 ∷ piece Mark (33 ∷ []) ∷ piece Name name ∷ [] in
      let r = level_reads parts (natural f) (expr_bits symbols outputs f) f (expr_reads f h) place (bits_text sign ++ rest) (stand_front text place xs sign rest stands) in
      let at = place + length (bits_text xs) in
      let behind = stand_next text at 32 (piece Mark (33 ∷ []) ∷ piece Name name ∷ []) rest (stand_behind text place xs sign rest stands) in
      let there = goes_on text (at + 1) (33 ∷ []) ((name ++ []) ++ rest) behind in
      let t : Lexeme = record { kind = Name; start = (at + 1) + 1; behind = ((at + 1) + 1) + length name } in
      let word = word_read text Name ((at + 1) + 1) name rest (there ∙ ap (λ x. x ++ rest) (append-nil name)) in
      record {
        tree = marked r.tree t;
        derives = noted (record { kind = Mark; start = at + 1; behind = (at + 1) + 1 }) refl refl (tokens_append place xs sign) r.derives;
        means = ap (λ w. lang.marked (meant r.tree) (number_in outputs w)) word ∙ ap (lang.marked (meant r.tree)) (number_outputs y i)
            ∙ ap (λ x. lang.marked x y) r.means;
      }
  expr_reads (lang.repeated f m n) (h, le, some, few) place rest stands =
      let xs = enclosed_bits (needs parts (natural f)) (expr_bits symbols outputs f) in
      let sign = bounds_bits m n in
      let r = level_reads parts (natural f) (expr_bits symbols outputs f) f (expr_reads f h) place (bits_text sign ++ rest) (stand_front text place xs sign rest stands) in
      let b = bounds_read text (place + length (bits_text xs)) m n rest (omega (arith, le, few)) few (stand_behind text place xs sign rest stands) in
      record {
        tree = counted r.tree b.least b.most b.last;
        derives = repeated b.first b.least b.comma b.most b.last b.opens b.is_least b.is_comma b.is_most b.closes
            (tokens_append place xs sign ∙ ap (λ ts. tokens_of place xs ++ ts) b.are) r.derives;
        means = ap (λ k. lang.repeated (meant r.tree) k (number_of text b.most)) b.least_is ∙ ap (λ k. lang.repeated (meant r.tree) m k) b.most_is
            ∙ ap (λ x. lang.repeated x m n) r.means;
      }

  -- as a whole statement
  pub whole_reads : (e : Expr) → Proper symbols outputs e → ReadsAnywhere unions (expr_bits symbols outputs e) e
  whole_reads e h = level_reads unions (natural e) (expr_bits symbols outputs e) e (expr_reads e h)
