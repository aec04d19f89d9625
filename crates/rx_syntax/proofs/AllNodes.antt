-- The nodes of a whole text without faults are those of the specification that it says.
use Rattle.std.proofs.Common.{◌≡◌, ℕ, suc, Bool, true, false, ◌+◌, ◌<◌, ◌≤◌, ◌==◌, Some, List, [], ◌∷◌, ◌++◌, length, map, All, count_by, sum_by, flat_map, cond, refl, ap, sym, ◌∙◌, subst, arith, length-append, if◌then◌else◌}
use Rattle.std.specs.Prelude.{Option, ◌^◌}
use Rattle.std.proofs.lemmas.List.{append-nil, length-map, map-append}
use Rattle.std.proofs.lemmas.List.Sums.{sum_by-append}
use Rattle.std.proofs.lemmas.Option.{get_or_from_slice_get}
use Rattle.rx_lang.specs.declared.expr_node.ExprNode.{ExprNode}
use Rattle.rx_lang.specs.Expression.{Expr, symbol}
use Rattle.rx_lang.specs.Tables.{Tables, children, table_occurrences, tree_at, trees}
use Rattle.rx_syntax.specs.Lexemes.{Lexeme, ended, word_of}
use Rattle.rx_syntax.specs.Grammar.{Tree, StatementTree, ExprOf, Statements, one, more, Syntax, Specifies}
use Rattle.rx_syntax.specs.Accepted.{number_in, both_scan, trees_of, resolve, meaning_of, Says, said}
use Rattle.rx_syntax.specs.NameTables.{NameTables, names_of}
use Rattle.rx_syntax.specs.NameReading.{Declares}
use Rattle.rx_syntax.specs.NodeBuilder.{NodesRead}
use Rattle.rx_syntax.specs.NodeTables.{with_nodes, AreNodes}
use Rattle.rx_syntax.specs.declared.group.Group.{Group}
use Rattle.rx_syntax.specs.declared.machine.Due.TheVariants.{FirstLine, NextExpr}
use Rattle.rx_syntax.specs.declared.machine.State.{State}
use Rattle.rx_syntax.specs.declared.version.Version.{Version}
use Rattle.rx_syntax.specs.Machine.{at}
use Rattle.rx_syntax.proofs.Builder.{Frame, nothing_built, along}
use Rattle.rx_syntax.proofs.Derived.{specified_run}
use Rattle.rx_syntax.proofs.BuiltSyntax.{syntax_built}
use Rattle.rx_syntax.proofs.OneAnswer.{one_list}
use Rattle.rx_syntax.proofs.OneSpecification.{says_one}
use Rattle.rx_syntax.proofs.Growth.{Entry, leaves, Mean, mean_front, mean_rest, Growth, grown_mean, grown_uses, grown_before, grown_named, grown_bounds, counted_leaves, taken_held, below_mean, length-trees}
use Rattle.rx_syntax.proofs.OpenGroups.{numbered}
use Rattle.rx_syntax.proofs.OpenFrames.{Counted}
use Rattle.rx_syntax.proofs.NodesLaid.{OpenAs, closed, AreEnded}
use Rattle.rx_syntax.proofs.Faultless.{few_symbols}
use Rattle.rx_syntax.proofs.NodeReading.{NodesAt, names_said}

-- some expression stands in a specification
some_exprs : (xs : List Lexeme) (found : List StatementTree) → Statements ExprOf xs found → 1 ≤ length found
some_exprs xs found (one h) = subst (λ es. 1 ≤ length es) (sym h.entry) (omega arith)
some_exprs xs found (more {ys = ys} {some = some} {others = others} whole holds before is) =
    subst (λ es. 1 ≤ length es) (sym holds) (omega (arith, some_exprs ys some before, length-append some others))

-- each statement is of one of the two kinds
both_kinds : (ss : List StatementTree) → length ss ≡ length (trees_of false ss) + length (trees_of true ss)
both_kinds [] = refl
both_kinds (s ∷ ss) = by s.scans (both_kinds ss)
  where
    by : (kind : Bool) → length ss ≡ length (trees_of false ss) + length (trees_of true ss)
        → suc (length ss)
        ≡ length (if both_scan false kind then s.tree ∷ trees_of false ss else trees_of false ss)
        + length (if both_scan true kind then s.tree ∷ trees_of true ss else trees_of true ss)
    by false e = omega (arith, e)
    by true e = omega (arith, e)

-- entries as trees and as numbers

trees_of_entries : (made : List Expr) (es : List Entry) → Mean made es
    → map (tree_at made) (map (λ (e : Entry). e.number) es) ≡ map (λ (e : Entry). e.tree) es
trees_of_entries made [] h = refl
trees_of_entries made (e ∷ es) (get, h) =
    ap (λ t. t ∷ map (tree_at made) (map (λ (e : Entry). e.number) es)) (get_or_from_slice_get made e.number e.tree (symbol 0) get)
    ∙ ap (λ ts. e.tree ∷ ts) (trees_of_entries made es h)

module _ (version : Version) (text : List ℕ) (limit : ℕ) (tables : NameTables) (declares : Declares text limit tables) where
  -- All nodes were read: these are the entries of the statements of both kinds.
  pub record AllRead (nodes : List ExprNode) (exprs scans : List ℕ) : Type 0 where
    pub expr_entries : List Entry
    pub scan_entries : List Entry
    pub exprs_ended : AreEnded tables text false exprs declares.syntax.exprs expr_entries
    pub scans_ended : AreEnded tables text true scans declares.syntax.exprs scan_entries
    pub growth : Growth tables.symbols tables.outputs nodes (expr_entries ++ scan_entries)

  none_open : {frames : List Frame} {g : Group} {gs : List Group} {all : List Entry} → frames ≡ [] → OpenAs tables text frames g gs all → all ≡ []
  none_open {g = g} {gs = gs} {all = all} e h = by_frames (subst (λ fs. OpenAs tables text fs g gs all) e h)
    where
      by_frames : {g : Group} {gs : List Group} {all : List Entry} → OpenAs tables text [] g gs all → all ≡ []
      by_frames (closed e o) = refl

  all_read : (place : ℕ) (state : State) (r : NodesRead) → length text ≤ place → NodesAt version text tables place state r
      → AllRead r.nodes r.exprs r.scans
  all_read place state r past h =
      let seen = h.followed.seen in
      let b = along seen (at FirstLine 0) nothing_built in
      let laid = h.laid in
      let all = one_list text declares.says.are_tokens (h.followed.on [] (ended past refl)) ∙ append-nil seen in
      let is : Specifies seen declares.syntax = subst (λ ts. Specifies ts declares.syntax) all declares.says.specifies in
      let exprs : b.exprs ≡ declares.syntax.exprs = ap (λ (s : Syntax). s.exprs) (syntax_built seen declares.syntax is) in
      let last : ◌≡◌ {A = Option State} (Some state) (at NextExpr 0) = sym h.followed.ran ∙ specified_run seen declares.syntax is in
      let same : state ≡ record { due = NextExpr; depth = 0 } = cc in
      let frames : b.frames ≡ [] = subst (λ (s : State). Counted s.due s.depth b.frames) same h.counted in
      let none = none_open frames laid.opens in
      let entries = laid.expr_entries ++ laid.scan_entries in
      record {
        expr_entries = laid.expr_entries;
        scan_entries = laid.scan_entries;
        exprs_ended = subst (λ es. AreEnded tables text false r.exprs es laid.expr_entries) exprs laid.exprs;
        scans_ended = subst (λ es. AreEnded tables text true r.scans es laid.scan_entries) exprs laid.scans;
        growth = subst (λ es. Growth tables.symbols tables.outputs r.nodes es) (ap (λ es. entries ++ es) none ∙ append-nil entries) laid.growth;
      }

  pub all_parts : (place : ℕ) (state : State) (r : NodesRead) (nodes : List ExprNode) (exprs scans : List ℕ) → length text ≤ place
      → NodesAt version text tables place state r → nodes ≡ r.nodes → exprs ≡ r.exprs → scans ≡ r.scans → AllRead nodes exprs scans
  all_parts place state r nodes exprs scans past h e f g =
      subst (λ ns. AllRead ns exprs scans) (sym e)
      (subst (λ es. AllRead r.nodes es scans) (sym f) (subst (λ ss. AllRead r.nodes r.exprs ss) (sym g) (all_read place state r past h)))

  module _ (nodes : List ExprNode) (exprs scans : List ℕ) (h : AllRead nodes exprs scans) where
    abbrev of : Tree → Expr
    of = numbered tables.symbols tables.outputs text

    expr_mean : Mean (trees nodes) h.expr_entries
    expr_mean = mean_front (trees nodes) h.expr_entries h.scan_entries (grown_mean h.growth)

    scan_mean : Mean (trees nodes) h.scan_entries
    scan_mean = mean_rest (trees nodes) h.expr_entries h.scan_entries (grown_mean h.growth)

    -- the trees of the roots are the expressions of the statements
    one_kind : (scan : Bool) (roots : List ℕ) (es : List Entry) → AreEnded tables text scan roots declares.syntax.exprs es → Mean (trees nodes) es
        → map (tree_at (trees nodes)) roots ≡ map of (trees_of scan declares.syntax.exprs)
    one_kind scan roots es e mean = ap (map (tree_at (trees nodes))) e.numbers ∙ trees_of_entries (trees nodes) es mean ∙ sym e.trees

    expr_trees : map (tree_at (trees nodes)) exprs ≡ map of (trees_of false declares.syntax.exprs)
    expr_trees = one_kind false exprs h.expr_entries h.exprs_ended expr_mean

    scan_trees : map (tree_at (trees nodes)) scans ≡ map of (trees_of true declares.syntax.exprs)
    scan_trees = one_kind true scans h.scan_entries h.scans_ended scan_mean

    numbers_are : exprs ++ scans ≡ map (λ (e : Entry). e.number) (h.expr_entries ++ h.scan_entries)
    numbers_are =
        ap (λ ns. ns ++ scans) h.exprs_ended.numbers ∙ ap (λ ns. map (λ (e : Entry). e.number) h.expr_entries ++ ns) h.scans_ended.numbers
        ∙ sym (map-append (λ (e : Entry). e.number) h.expr_entries h.scan_entries)

    -- as many roots as statements
    root_count : (scan : Bool) (roots : List ℕ) → map (tree_at (trees nodes)) roots ≡ map of (trees_of scan declares.syntax.exprs)
        → length roots ≡ length (trees_of scan declares.syntax.exprs)
    root_count scan roots e =
        sym (length-map roots (tree_at (trees nodes))) ∙ ap length e ∙ length-map (trees_of scan declares.syntax.exprs) of

    pub are_nodes : limit ≤ 4096 → length nodes < 2 ^ 32 → AreNodes tables nodes exprs scans
    are_nodes low few =
        let made = trees nodes in
        let entries = h.expr_entries ++ h.scan_entries in
        let numbers = map (λ (e : Entry). e.number) entries in
        let whole : Tables = with_nodes tables nodes exprs scans in
        let expr_leaves = sum_by leaves (map of (trees_of false declares.syntax.exprs)) in
        let scan_leaves = sum_by leaves (map of (trees_of true declares.syntax.exprs)) in
        let few_said = few_symbols text limit (number_in (names_of tables.symbols)) (number_in tables.outputs) declares.syntax declares.no_fault in
        let count : length (table_occurrences whole) ≡ expr_leaves + scan_leaves =
        counted_leaves made (exprs ++ scans) ∙ ap (sum_by leaves) (map-append (tree_at made) exprs scans)
        ∙ sum_by-append leaves (map (tree_at made) exprs) (map (tree_at made) scans)
        ∙ ap (λ es. sum_by leaves es + sum_by leaves (map (tree_at made) scans)) expr_trees
        ∙ ap (λ es. expr_leaves + sum_by leaves es) scan_trees in
        let below : All (λ n. n < length nodes) numbers =
        subst (λ m. All (λ n. n < m) numbers) (length-trees nodes) (below_mean made entries (grown_mean h.growth)) in
        record {
          some_statements = omega (
            arith,
            root_count false exprs expr_trees,
            root_count true scans scan_trees,
            both_kinds declares.syntax.exprs,
            some_exprs declares.says.specifies.expr_tokens declares.syntax.exprs declares.says.specifies.exprs,
          );
          few_leaves = omega (arith, count, low, few_said);
          few_nodes = few;
          named_entries = grown_named h.growth whole refl refl;
          bounds = grown_bounds h.growth;
          children_before = grown_before h.growth;
          roots_in_table = subst (λ rs. All (λ n. n < length nodes) rs) (sym numbers_are) below;
          used_once = λ k lt. sum_by-append (λ x. cond (x == k) 1 0) (flat_map children nodes) (exprs ++ scans)
              ∙ ap (λ n. count_by (λ x. x == k) (flat_map children nodes) + n) (ap (count_by (λ x. x == k)) numbers_are ∙ taken_held k entries)
              ∙ (grown_uses h.growth k).once lt;
        }

    -- the expressions with the numbers that the text says
    said_trees : (scan : Bool)
        → map of (trees_of scan declares.syntax.exprs) ≡ map (meaning_of text declares.syntax) (trees_of scan declares.syntax.exprs)
    said_trees scan =
        let ts = trees_of scan declares.syntax.exprs in
        let symbols : names_of tables.symbols ≡ map (λ s. word_of text s.name) declares.syntax.symbols =
        ap (λ (t : NameTables). names_of t.symbols) declares.is ∙ names_said text declares.syntax.symbols in
        let outputs : tables.outputs ≡ map (word_of text) declares.syntax.outputs = ap (λ (t : NameTables). t.outputs) declares.is in
        ap (λ names. map (resolve (number_in names) (number_in tables.outputs) text) ts) symbols
        ∙ ap (λ names. map (resolve (number_in (map (λ s. word_of text s.name) declares.syntax.symbols)) (number_in names) text) ts) outputs

    pub statements_said : (syntax : Syntax) → Says text syntax → map (tree_at (trees nodes)) exprs ≡ (said text syntax).statements
    statements_said syntax says =
        expr_trees ∙ said_trees false ∙ ap (λ s. (said text s).statements) (says_one text declares.syntax syntax declares.says says)

    pub scans_said : (syntax : Syntax) → Says text syntax → map (tree_at (trees nodes)) scans ≡ (said text syntax).scans
    scans_said syntax says =
        scan_trees ∙ said_trees true ∙ ap (λ s. (said text s).scans) (says_one text declares.syntax syntax declares.says says)
