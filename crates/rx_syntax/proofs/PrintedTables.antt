-- The text that tables are printed as is accepted as the specification that they stand for.
use Rattle.std.proofs.Common.{◌≡◌, ℕ, zero, suc, ◌<◌, ◌≤◌, Bool, true, false, List, [], ◌∷◌, ◌++◌, length, map, flat_map, get_or, take, All, refl, ap, sym, ◌∙◌, subst, arith, length-append}
use Rattle.std.specs.Prelude.{◌≢◌}
use Rattle.std.specs.List.{AllByRecursion}
use Rattle.std.proofs.lemmas.Grind.{flat_map-append}
use Rattle.std.proofs.lemmas.List.{append_assoc, append-nil, length-map, take_all}
use Rattle.std.proofs.lemmas.List.Elements.{recursion_from_All}
use Rattle.std.proofs.lemmas.Option.{slice_get-get_or}
use Rattle.rx_lang.specs.declared.expr_node.ExprNode.{ExprNode}
use Rattle.rx_lang.specs.declared.expr_node.ExprNode.TheVariants.{Leaf, Seq, Alt, Star, Plus, Opt, Mark, Repeat}
use Rattle.rx_lang.specs.Expression.{Expr}
use Rattle.rx_lang.specs.Copies.{occurrences}
use Rattle.rx_lang.specs.Laws.{TreesAreMade}
use Rattle.rx_lang.specs.Specification.{Specification}
use Rattle.rx_lang.specs.Tables.{Tables, IsSpecification, NamesEntries, HasBounds, children, tree_at, tree_of, trees, names, specification, table_occurrences}
use Rattle.rx_lang.specs.VectorWords.{node_tree}
use Rattle.rx_syntax.specs.Lexemes.{Lexeme, TokensOf}
use Rattle.rx_syntax.specs.Uses.{Declared, undeclared}
use Rattle.rx_syntax.specs.Accepted.{Accepted}
use Rattle.rx_syntax.specs.Refusals.{opened, open_after}
use Rattle.rx_syntax.specs.Printed.{needs_version_2, printed}
use Rattle.rx_syntax.specs.Printable.{IsNameOf, version_for, OpensFew, IsPrintable}
use Rattle.rx_syntax.specs.declared.version.Version.{Version}
use Rattle.rx_syntax.proofs.Printing.{tree_read}
use Rattle.rx_syntax.proofs.Roots.{roots_before, roots_behind}
use Rattle.rx_syntax.proofs.Bits.{IsPlainName}
use Rattle.rx_syntax.proofs.PlainNames.{plain_front}
use Rattle.rx_syntax.proofs.Depths.{deepest, open_append}
use Rattle.rx_syntax.proofs.PrintedExprs.{Proper}
use Rattle.rx_syntax.proofs.NewNames.{behind_lines, SymbolsFit, OutputsFit, lines_declared, symbols_declared}
use Rattle.rx_syntax.proofs.NewNames.{Fresh}
use Rattle.rx_syntax.proofs.DifferentNames.{fresh_of, fresh_front, fresh_rest, lines_from, symbols_from, outputs_from}
use Rattle.rx_syntax.proofs.CountedUses.{AllProper, total}
use Rattle.rx_syntax.proofs.KeptStatements.{each_expr_both, total_both}
use Rattle.rx_syntax.proofs.PrintedText.{names_in, in_kind, statements_in, AllPlain, IsReadBack}
use Rattle.rx_syntax.proofs.PrintedVersion.{printed_tokens}
use Rattle.rx_syntax.proofs.PrintedReads.{printed_as_tokens}
use Rattle.rx_syntax.proofs.ReadBack.{printed_back, not_empty}

-- names

name_plain : (version : Version) (word : List ℕ) → IsNameOf version word → IsPlainName version word
name_plain version word (kind, size) =
    subst (IsPlainName version) (ap (λ n. take n word) size ∙ take_all (length word) word (omega arith)) (plain_front version word kind)

names_plain : (version : Version) (ws : List (List ℕ)) → AllByRecursion (IsNameOf version) ws → AllPlain version ws
names_plain version [] h = tt
names_plain version (w ∷ ws) h = (name_plain version w h.0, names_plain version ws h.1)

plain_front_part : (version : Version) (xs ys : List (List ℕ)) → AllPlain version (xs ++ ys) → AllPlain version xs
plain_front_part version [] ys h = tt
plain_front_part version (x ∷ xs) ys (first, h) = (first, plain_front_part version xs ys h)

plain_rest : (version : Version) (xs ys : List (List ℕ)) → AllPlain version (xs ++ ys) → AllPlain version ys
plain_rest version [] ys h = h
plain_rest version (x ∷ xs) ys (first, h) = plain_rest version xs ys h

-- parentheses

deepest_low : (before ts : List Lexeme) → ((front rest : List Lexeme) → front ++ rest ≡ before ++ ts → open_after 0 front ≤ 200)
    → deepest (open_after 0 before) ts ≤ 200
deepest_low before [] h = h before [] refl
deepest_low before (t ∷ ts) h =
    let here = h before (t ∷ ts) refl in
    let behind : open_after 0 (before ++ (t ∷ [])) ≡ opened t.kind (open_after 0 before) = open_append 0 before (t ∷ []) in
    let later : deepest (open_after 0 (before ++ (t ∷ []))) ts ≤ 200 =
    deepest_low (before ++ (t ∷ [])) ts (λ front rest e. h front rest (e ∙ append_assoc before (t ∷ []) ts)) in
    let same : deepest (opened t.kind (open_after 0 before)) ts ≤ 200 = subst (λ d. deepest d ts ≤ 200) behind later in
    omega (arith, here, same)

few_open : (text : List ℕ) (ts : List Lexeme) → TokensOf text ts → OpensFew text → deepest 0 ts ≤ 200
few_open text ts tokens few = deepest_low [] ts (λ front rest e. few front rest (subst (TokensOf text) (sym e) tokens))

-- symbols, counted

total_roots : (scans : Bool) (made : List Expr) (roots : List ℕ)
    → total (map (in_kind scans) (map (tree_at made) roots)) ≡ length (flat_map (λ root. occurrences (tree_at made root)) roots)
total_roots scans made [] = refl
total_roots scans made (root ∷ roots) =
    omega (
      arith,
      total_roots scans made roots,
      length-append (occurrences (tree_at made root)) (flat_map (λ root. occurrences (tree_at made root)) roots),
    )

module _ (tables : Tables) where
  abbrev spec : Specification
  spec = specification tables

  total_tables : total (statements_in spec) ≡ length (table_occurrences tables)
  total_tables =
      let made = trees tables.nodes in
      let of : ℕ → List ℕ = λ root. occurrences (tree_at made root) in
      omega (
        arith,
        total_both (map (in_kind false) spec.statements) (map (in_kind true) spec.scans),
        total_roots false made tables.exprs,
        total_roots true made tables.scans,
        ap (λ (xs : List ℕ). length xs) (flat_map-append of tables.exprs tables.scans),
        length-append (flat_map of tables.exprs) (flat_map of tables.scans),
      )

  module _ (made : TreesAreMade) (is : IsSpecification tables) where
    -- expressions are in order

    node_proper : (k : ℕ) (node : ExprNode) → All (λ child. child < k) (children node) → NamesEntries tables node → HasBounds node
        → ((child : ℕ) → child < k → Proper (names_in spec) spec.outputs (node_tree tables child))
        → Proper (names_in spec) spec.outputs (tree_of (trees tables.nodes) node)
    node_proper k (Leaf s) before entry bounds later = omega (arith, entry, length-map tables.symbols (λ s. s.name))
    node_proper k (Seq f g) before entry bounds later = (later f (before 0 0 (omega arith)), later g (before 1 0 (omega arith)))
    node_proper k (Alt f g) before entry bounds later = (later f (before 0 0 (omega arith)), later g (before 1 0 (omega arith)))
    node_proper k (Star f) before entry bounds later = later f (before 0 0 (omega arith))
    node_proper k (Plus f) before entry bounds later = later f (before 0 0 (omega arith))
    node_proper k (Opt f) before entry bounds later = later f (before 0 0 (omega arith))
    node_proper k (Mark f y) before entry bounds later = (later f (before 0 0 (omega arith)), entry)
    node_proper k (Repeat f m n) before entry bounds later = (later f (before 0 0 (omega arith)), bounds.0, bounds.1, bounds.2)

    tree_proper : (n k : ℕ) → k < n → k < length tables.nodes → Proper (names_in spec) spec.outputs (node_tree tables k)
    tree_proper zero k low inside = absurd (omega (arith, low))
    tree_proper (suc n) k low inside =
        let d = Leaf 0 in
        let node = get_or tables.nodes k d in
        subst (Proper (names_in spec) spec.outputs) (sym (tree_read made tables is tables.nodes refl k d inside))
        (node_proper k node (is.children_before k node (slice_get-get_or tables.nodes k d inside)) (is.named_entries k d inside) (is.bounds k d inside)
        (λ child lt. tree_proper n child (omega (arith, lt, low)) (omega (arith, lt, inside))))

    roots_proper : (scans : Bool) (roots : List ℕ) → All (λ root. root < length tables.nodes) roots
        → AllProper (names_in spec) spec.outputs (map (in_kind scans) (map (tree_at (trees tables.nodes)) roots))
    roots_proper scans [] all = tt
    roots_proper scans (root ∷ roots) all = (
      tree_proper (suc root) root (omega arith) (all 0 0 (omega arith)),
      roots_proper scans roots (λ k d lt. all (suc k) d (omega (arith, lt))),
    )

    proper : AllProper (names_in spec) spec.outputs (statements_in spec)
    proper =
        each_expr_both _ (map (in_kind false) spec.statements) (map (in_kind true) spec.scans)
        (roots_proper false tables.exprs (roots_before tables.exprs tables.scans (length tables.nodes) is.roots_in_table))
        (roots_proper true tables.scans (roots_behind tables.exprs tables.scans (length tables.nodes) is.roots_in_table))

    some_statements : statements_in spec ≢ []
    some_statements =
        let made = tree_at (trees tables.nodes) in
        not_empty (statements_in spec) (omega (
          arith,
          is.some_statements,
          length-append (map (in_kind false) spec.statements) (map (in_kind true) spec.scans),
          length-map spec.statements (in_kind false),
          length-map spec.scans (in_kind true),
          length-map tables.exprs made,
          length-map tables.scans made,
        ))

  read_back_of : (limit : ℕ) → TreesAreMade → IsPrintable limit tables → IsReadBack limit spec
  read_back_of limit made h =
      let is = h.keeps in
      let v = version_for (needs_version_2 spec) in
      let two = spec.lines ++ names_in spec in
      let fresh = fresh_of [] (two ++ spec.outputs) is.names_differ in
      let front = fresh_front [] two spec.outputs fresh in
      let plain = names_plain v (names tables) (recursion_from_All (IsNameOf v) (names tables) h.bears_names) in
      let plain_two = plain_front_part v two spec.outputs plain in
      let behind = behind_lines undeclared spec.lines in
      record {
        some_lines = not_empty spec.lines is.some_lines;
        some_symbols = not_empty spec.symbols is.some_symbols;
        some_outputs = not_empty spec.outputs is.some_outputs;
        some_statements = some_statements made is;
        plain_lines = plain_front_part v spec.lines (names_in spec) plain_two;
        plain_symbols = plain_rest v spec.lines (names_in spec) plain_two;
        plain_outputs = plain_rest v two spec.outputs plain;
        lines_fit = lines_from undeclared spec.lines refl refl (fresh_front [] spec.lines (names_in spec) front) (omega (arith, is.few_lines));
        symbols_fit = subst (λ d. SymbolsFit d spec.symbols) (sym (lines_declared undeclared spec.lines))
            (symbols_from (record undeclared { lines = spec.lines }) spec.symbols refl
            (subst (λ names. Fresh names (names_in spec)) (sym (append-nil spec.lines)) (fresh_rest [] spec.lines (names_in spec) front)) (omega (arith, is.few_symbols))
            (recursion_from_All (λ s. length s.pattern ≡ length spec.lines) spec.symbols is.place_per_line));
        outputs_fit = subst (λ d. OutputsFit d spec.outputs)
            (sym (symbols_declared behind spec.symbols ∙ ap (λ (d : Declared). record d { symbols = d.symbols ++ names_in spec }) (lines_declared undeclared spec.lines)))
            (outputs_from (record undeclared { lines = spec.lines; symbols = names_in spec }) spec.outputs
            (subst (λ names. Fresh names spec.outputs) (sym (append-nil two)) (fresh_rest [] two spec.outputs fresh)) (omega (arith, is.few_outputs)));
        proper = proper made is;
        few = omega (arith, total_tables, h.few_leaves);
      }

  pub tables_back : (limit : ℕ) → TreesAreMade → IsPrintable limit tables → Accepted (printed spec) limit spec
  tables_back limit made h =
      let kept = read_back_of limit made h in
      printed_back limit spec kept (few_open (printed spec) (printed_as_tokens spec) (printed_tokens limit spec kept) h.opens_few)
