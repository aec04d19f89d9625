-- The nodes that are read beside what the tokens build, token by token.
use Rattle.std.proofs.Common.{◌≡◌, ℕ, suc, ◌<◌, ◌≤◌, Bool, true, false, ◌||◌, Some, List, [], ◌∷◌, ◌++◌, length, map, refl, ap, sym, ◌∙◌, subst, arith, if◌then◌else◌}
use Rattle.std.specs.Prelude.{Option, not, ⊤, pred, bytes_eq}
use Rattle.std.proofs.Math.Nat.{min-eq_left}
use Rattle.std.proofs.lemmas.List.{append_assoc, append-nil, map-append, length-map}
use Rattle.rx_lang.specs.declared.expr_node.ExprNode.{ExprNode}
use Rattle.rx_lang.specs.Specification.{NamedPattern}
use Rattle.rx_syntax.specs.Lexemes.{Lexeme, word_of}
use Rattle.rx_syntax.specs.Grammar.{Tree, leaf, star, plus, optional, marked, counted, StatementTree}
use Rattle.rx_syntax.specs.Uses.{is_among, number_of}
use Rattle.rx_syntax.specs.Accepted.{number_in, both_scan, trees_of}
use Rattle.rx_syntax.specs.NameTables.{NameTables, names_of}
use Rattle.rx_syntax.proofs.Builder as built
use Rattle.rx_syntax.proofs.Builder.{Frame, Built, empty_frame, closed_frame, act}
use Rattle.rx_syntax.specs.declared.kind.Kind.{Kind}
use Rattle.rx_syntax.specs.declared.kind.Kind.TheVariants.{Name, Bits, Pattern, Number, CloseBrace}
use Rattle.rx_syntax.specs.declared.machine.Due.{Due}
use Rattle.rx_syntax.specs.declared.machine.Due.TheVariants.{LineName, MoreNames, SymbolName, SymbolPattern, OutputName, MoreOutputs, Least, Between, Most, BoundsEnd}
use Rattle.rx_syntax.specs.declared.node_table.Sign.{Sign}
use Rattle.rx_syntax.specs.declared.node_table.Sign.TheVariants as signs
use Rattle.rx_syntax.specs.declared.group.Group.{Group}
use Rattle.rx_syntax.specs.NodeBuilder.{empty_group, chain, whole, NodesRead, no_nodes, capped, with_root, with_leaf, with_sign, with_bar, with_group, with_name, with_keyword, with_least, with_most, closed_in, with_statement, token_on, IsKnown}
use Rattle.rx_syntax.proofs.LookedUp.{bytes_eq_sym}
use Rattle.rx_syntax.proofs.Moves.{Moves, first_line, line_name, line_names, line_end, next_line, first_symbol, symbol_name, symbol_equals, symbol_pattern, symbol_end, next_symbol, first_output, output_name, output_names, output_end, next_output, first_expr, part_name, part_open, rest_name, rest_open, rest_close, rest_bar, rest_star, rest_plus, rest_question, rest_mark, rest_end, mark_name, next_expr, pattern_bits, first_scan, next_scan, part_class, rest_class, class_name, class_names, class_close, rest_brace, least_bits, least_number, bounds_comma, most_bits, most_number, bounds_end}
use Rattle.rx_syntax.proofs.Growth.{Entry, Growth, nothing, swapped}
use Rattle.rx_syntax.proofs.OpenFrames.{Counted, length-on_first}
use Rattle.rx_syntax.proofs.OpenGroups.{entry, numbered, As, absent, present, GroupAs, Behind, SignMakes, leaf_behind, sign_behind, bar_behind, within_behind, gathered, star_makes, plus_makes, optional_makes, mark_makes, counted_makes}

-- a declared name has a number among the names
pub number_below : (names : List (List ℕ)) (name : List ℕ) → is_among name names ≡ true → number_in names name < length names
number_below [] name h = absurd cc
number_below (first ∷ names) name h = by_first (bytes_eq first name) refl (number_below names name)
  where
    by_first : (here : Bool) → bytes_eq first name ≡ here → (is_among name names ≡ true → number_in names name < length names)
        → (if here then 0 else suc (number_in names name)) < suc (length names)
    by_first true e later = omega arith
    by_first false e later =
        let more : is_among name names ≡ true = ap (λ here. here || is_among name names) (sym (bytes_eq_sym name first ∙ e)) ∙ h in
        omega (arith, later more)

-- an expression behind others of its kind, or of the other
trees_more : (scans : Bool) (es : List StatementTree) (s : StatementTree)
    → trees_of scans (es ++ (s ∷ [])) ≡ trees_of scans es ++ trees_of scans (s ∷ [])
trees_more scans [] s = refl
trees_more scans (e ∷ es) s = by (both_scan scans e.scans) (trees_more scans es s)
  where
    by : (same : Bool) → trees_of scans (es ++ (s ∷ [])) ≡ trees_of scans es ++ trees_of scans (s ∷ [])
        → (if same then e.tree ∷ trees_of scans (es ++ (s ∷ [])) else trees_of scans (es ++ (s ∷ [])))
        ≡ (if same then e.tree ∷ trees_of scans es else trees_of scans es) ++ trees_of scans (s ∷ [])
    by true rest = ap (λ ts. e.tree ∷ ts) rest
    by false rest = rest

module _ (tables : NameTables) (text : List ℕ) where
  abbrev Lies : Group → Frame → List Entry → Type 0
  Lies g f es = GroupAs tables.symbols tables.outputs text g f es

  abbrev Grows : List ExprNode → List Entry → Type 0
  Grows nodes es = Growth tables.symbols tables.outputs nodes es

  -- the groups round the open one
  pub data OuterAs : List Frame → List Group → List Entry → Type 0 where
    outermost : OuterAs [] [] []
    round : {fs : List Frame} {gs : List Group} {os : List Entry} (f : Frame) (g : Group) (es : List Entry) → OuterAs fs gs os → Lies g f es
        → OuterAs (f ∷ fs) (g ∷ gs) (os ++ es)

  -- the open group and those round it
  pub data OpenAs : List Frame → Group → List Group → List Entry → Type 0 where
    closed : {g : Group} {gs : List Group} → g ≡ empty_group → gs ≡ [] → OpenAs [] g gs []
    opened : {fs : List Frame} {g : Group} {gs : List Group} {os : List Entry} (f : Frame) (es : List Entry) → OuterAs fs gs os → Lies g f es
        → OpenAs (f ∷ fs) g gs (os ++ es)

  -- The entries are the statements of one kind that have ended.
  pub record AreEnded (scans : Bool) (roots : List ℕ) (statements : List StatementTree) (es : List Entry) : Type 0 where
    pub numbers : roots ≡ map (λ (e : Entry). e.number) es
    pub trees : map (numbered tables.symbols tables.outputs text) (trees_of scans statements) ≡ map (λ (e : Entry). e.tree) es

  -- The nodes are those of the statements that have ended and of the open expressions.
  pub record Laid (r : NodesRead) (b : Built) : Type 0 where
    pub expr_entries : List Entry
    pub scan_entries : List Entry
    pub open_now : List Entry
    pub exprs : AreEnded false r.exprs b.exprs expr_entries
    pub scans : AreEnded true r.scans b.exprs scan_entries
    pub same_kind : r.is_scan ≡ b.is_scan
    pub opens : OpenAs b.frames r.group r.outer open_now
    pub growth : Grows r.nodes ((expr_entries ++ scan_entries) ++ open_now)

  -- the open groups, behind the statements that have ended
  abbrev pub Now : List ExprNode → List Frame → Group → List Group → List Entry → Type 0
  Now nodes fs g gs ended = (all : List Entry) × OpenAs fs g gs all × Grows nodes (ended ++ all)

  -- what a step makes of the innermost group
  module _ (nodes later : List ExprNode) (g now : Group) (of : Frame → Frame) (ended : List Entry)
      (step : (f : Frame) (xs : List Entry) → Behind tables.symbols tables.outputs text nodes g f xs
      → Behind tables.symbols tables.outputs text later now (of f) xs) where
    pub innermost : {fs : List Frame} {gs : List Group} {all : List Entry} (d : ℕ) → length fs ≡ suc d → OpenAs fs g gs all
        → Grows nodes (ended ++ all) → Now later (built.on_first of fs) now gs ended
    innermost d some (closed e o) growth = absurd (omega (arith, some))
    innermost d some (opened {os = os} f es outer lies) growth =
        let there : ended ++ (os ++ es) ≡ (ended ++ os) ++ (es ++ []) = simp (append_assoc, append-nil) in
        let s = step f (ended ++ os) (es, lies, subst (λ es. Grows nodes es) there growth) in
        let back : (ended ++ os) ++ (s.0 ++ []) ≡ ended ++ (os ++ s.0) = simp (append_assoc, append-nil) in
        (os ++ s.0, opened (of f) s.0 outer s.1, subst (λ es. Grows later es) back s.2)

  empty_lies : Lies empty_group empty_frame []
  empty_lies = record { unions = []; chains = []; lasts = []; union_as = absent; chain_as = absent; last_as = absent; entries = refl }

  -- a parenthesis opens
  open_more : {fs : List Frame} {gs : List Group} {all : List Entry} (nodes : List ExprNode) (g : Group) (ended : List Entry) (d : ℕ)
      → length fs ≡ suc d → OpenAs fs g gs all → Grows nodes (ended ++ all) → Now nodes (empty_frame ∷ fs) empty_group (g ∷ gs) ended
  open_more nodes g ended d some (closed e o) growth = absurd (omega (arith, some))
  open_more nodes g ended d some (opened {os = os} f es outer lies) growth =
      let same : ended ++ (os ++ es) ≡ ended ++ ((os ++ es) ++ []) = simp append-nil in
      ((os ++ es) ++ [], opened empty_frame [] (round f g es outer lies) empty_lies, subst (λ es. Grows nodes es) same growth)

  -- a parenthesis closes
  close_one : {fs : List Frame} {gs : List Group} {all : List Entry} (r : NodesRead) (ended : List Entry) (d : ℕ) → length fs ≡ suc (suc d)
      → OpenAs fs r.group gs all → Grows r.nodes (ended ++ all)
      → Now (closed_in gs r).nodes (built.close_first fs) (closed_in gs r).group (closed_in gs r).outer ended
  close_one r ended d some (closed e o) growth = absurd (omega (arith, some))
  close_one r ended d some (opened f es outermost lies) growth = absurd (omega (arith, some))
  close_one r ended d some (opened f es (round {os = os} frame group around outer lies_around) lies) growth =
      let there : ended ++ ((os ++ around) ++ es) ≡ ((ended ++ os) ++ around) ++ (es ++ []) = simp (append_assoc, append-nil) in
      let s = within_behind tables.symbols tables.outputs text r.nodes r.group group f frame (ended ++ os) around lies_around
      (es, lies, subst (λ es. Grows r.nodes es) there growth) in
      let back : (ended ++ os) ++ (s.0 ++ []) ≡ ended ++ (os ++ s.0) = simp (append_assoc, append-nil) in (
        os ++ s.0,
        opened (built.with_part (closed_frame f) frame) s.0 outer s.1,
        subst (λ es. Grows (chain (whole r.nodes r.group).nodes group).nodes es) back s.2,
      )

  -- a statement of this kind ends
  one_ended : (scans : Bool) (roots : List ℕ) (statements : List StatementTree) (es : List Entry) (n : ℕ) (e : Tree)
      → AreEnded scans roots statements es
      → trees_of scans (record { scans = scans; tree = e } ∷ []) ≡ e ∷ []
      → AreEnded scans (roots ++ (n ∷ [])) (statements ++ (record { scans = scans; tree = e } ∷ []))
      (es ++ (entry n (numbered tables.symbols tables.outputs text e) ∷ []))
  one_ended scans roots statements es n e h its =
      let new : Entry = entry n (numbered tables.symbols tables.outputs text e) in
      let of = numbered tables.symbols tables.outputs text in
      let statement : StatementTree = record { scans = scans; tree = e } in
      record {
        numbers = ap (λ ns. ns ++ (n ∷ [])) h.numbers ∙ sym (map-append (λ (e : Entry). e.number) es (new ∷ []));
        trees = ap (map of) (trees_more scans statements statement ∙ ap (λ ts. trees_of scans statements ++ ts) its)
            ∙ map-append of (trees_of scans statements) (e ∷ [])
            ∙ ap (λ ts. ts ++ (new.tree ∷ [])) h.trees ∙ sym (map-append (λ (e : Entry). e.tree) es (new ∷ []));
      }

  -- one of the other kind ends
  other_ended : (scans : Bool) (roots : List ℕ) (statements : List StatementTree) (es : List Entry) (s : StatementTree)
      → AreEnded scans roots statements es
      → trees_of scans (s ∷ []) ≡ [] → AreEnded scans roots (statements ++ (s ∷ [])) es
  other_ended scans roots statements es s h none = record {
    numbers = h.numbers;
    trees = ap (map (numbered tables.symbols tables.outputs text))
        (trees_more scans statements s ∙ ap (λ ts. trees_of scans statements ++ ts) none ∙ append-nil (trees_of scans statements)) ∙ h.trees;
  }

  -- a statement ends
  module _ (r : NodesRead) (b : Built) (h : Laid r b) where
    -- by the expression of the group
    put : {o : Option ℕ} {e : Option Tree} {c : List Entry} (scans : Bool) (nodes : List ExprNode) → As tables.symbols tables.outputs text o e c
        → r.outer ≡ [] → Grows nodes ((h.expr_entries ++ h.scan_entries) ++ (c ++ []))
        → Laid (record r { nodes = nodes; exprs = with_root (not scans) o r.exprs; scans = with_root scans o r.scans; group = empty_group })
        (record b { exprs = built.with_tree scans e b.exprs; frames = [] })
    put false nodes absent none growth = record {
      expr_entries = h.expr_entries;
      scan_entries = h.scan_entries;
      open_now = [];
      exprs = h.exprs;
      scans = h.scans;
      same_kind = h.same_kind;
      opens = closed refl none;
      growth = growth;
    }
    put true nodes absent none growth = record {
      expr_entries = h.expr_entries;
      scan_entries = h.scan_entries;
      open_now = [];
      exprs = h.exprs;
      scans = h.scans;
      same_kind = h.same_kind;
      opens = closed refl none;
      growth = growth;
    }
    put false nodes (present n e) none growth =
        let new : Entry = entry n (numbered tables.symbols tables.outputs text e) in
        record {
          expr_entries = h.expr_entries ++ (new ∷ []);
          scan_entries = h.scan_entries;
          open_now = [];
          exprs = one_ended false r.exprs b.exprs h.expr_entries n e h.exprs refl;
          scans = other_ended true r.scans b.exprs h.scan_entries (record { scans = false; tree = e }) h.scans refl;
          same_kind = h.same_kind;
          opens = closed refl none;
          growth = swapped h.expr_entries h.scan_entries (new ∷ []) (simp (append_assoc, append-nil)) (simp (append_assoc, append-nil)) growth;
        }
    put true nodes (present n e) none growth =
        let new : Entry = entry n (numbered tables.symbols tables.outputs text e) in
        record {
          expr_entries = h.expr_entries;
          scan_entries = h.scan_entries ++ (new ∷ []);
          open_now = [];
          exprs = other_ended false r.exprs b.exprs h.expr_entries (record { scans = true; tree = e }) h.exprs refl;
          scans = one_ended true r.scans b.exprs h.scan_entries n e h.scans refl;
          same_kind = h.same_kind;
          opens = closed refl none;
          growth = subst (λ es. Grows nodes es) (simp append_assoc) growth;
        }

    ends : {fs : List Frame} {gs : List Group} {all : List Entry} → OpenAs fs r.group gs all → r.outer ≡ gs → length fs ≡ 1
        → Grows r.nodes ((h.expr_entries ++ h.scan_entries) ++ all)
        → Laid (with_statement r) (record b { exprs = built.with_statement r.is_scan fs b.exprs; frames = [] })
    ends (closed e o) outer one growth = absurd (omega (arith, one))
    ends (opened f es outermost lies) outer one growth =
        let ended = h.expr_entries ++ h.scan_entries in
        let same : ended ++ es ≡ ended ++ (es ++ []) = simp append-nil in
        let c = gathered tables.symbols tables.outputs text r.nodes r.group f ended es [] lies (subst (λ es. Grows r.nodes es) same growth) in
        put r.is_scan (whole r.nodes r.group).nodes c.1 outer c.2
    ends (opened f es (round frame group around further lies_around) lies) outer one growth = absurd (omega (arith, one))

    end_one : length b.frames ≡ 1 → Laid (with_statement r) (record b { exprs = built.with_statement b.is_scan b.frames b.exprs; frames = [] })
    end_one one =
        subst (λ scans. Laid (with_statement r) (record b { exprs = built.with_statement scans b.frames b.exprs; frames = [] })) h.same_kind
        (ends h.opens refl one h.growth)

    -- an expression begins
    begins : {all : List Entry} (scans : Bool) → OpenAs [] r.group r.outer all → Grows r.nodes ((h.expr_entries ++ h.scan_entries) ++ all)
        → Laid (with_keyword scans r) (built.begun scans b)
    begins scans (closed e o) growth =
        let outer : OuterAs [] r.outer [] = subst (λ gs. OuterAs [] gs []) (sym o) outermost in
        let lies : Lies r.group empty_frame [] = subst (λ g. Lies g empty_frame []) (sym e) empty_lies in
        record {
          expr_entries = h.expr_entries;
          scan_entries = h.scan_entries;
          open_now = [];
          exprs = h.exprs;
          scans = h.scans;
          same_kind = refl;
          opens = opened empty_frame [] outer lies;
          growth = growth;
        }

    begin_one : (scans : Bool) → b.frames ≡ [] → Laid (with_keyword scans r) (built.begun scans b)
    begin_one scans none = begins scans (subst (λ fs. OpenAs fs r.group r.outer h.open_now) none h.opens) h.growth

  -- names, patterns and numbers change no nodes
  as_before : (r s : NodesRead) (b c : Built) → b.exprs ≡ c.exprs → b.frames ≡ c.frames → b.is_scan ≡ c.is_scan
      → s ≡ record r { least = s.least; most = s.most } → Laid r b → Laid s c
  as_before r s b c exprs frames kind same h =
      subst (λ now. Laid now c) (sym same) (record {
        expr_entries = h.expr_entries;
        scan_entries = h.scan_entries;
        open_now = h.open_now;
        exprs = subst (λ es. AreEnded false r.exprs es h.expr_entries) exprs h.exprs;
        scans = subst (λ es. AreEnded true r.scans es h.scan_entries) exprs h.scans;
        same_kind = h.same_kind ∙ kind;
        opens = subst (λ fs. OpenAs fs r.group r.outer h.open_now) frames h.opens;
        growth = h.growth;
      })

  -- a step of the open groups
  now_laid : (r s : NodesRead) (b : Built) (fs : List Frame) → (h : Laid r b) → s.exprs ≡ r.exprs → s.scans ≡ r.scans → s.is_scan ≡ r.is_scan
      → Now s.nodes fs s.group s.outer (h.expr_entries ++ h.scan_entries) → Laid s (record b { frames = fs })
  now_laid r s b fs h exprs scans kind (all, opens, growth) = record {
    expr_entries = h.expr_entries;
    scan_entries = h.scan_entries;
    open_now = all;
    exprs = subst (λ roots. AreEnded false roots b.exprs h.expr_entries) (sym exprs) h.exprs;
    scans = subst (λ roots. AreEnded true roots b.exprs h.scan_entries) (sym scans) h.scans;
    same_kind = kind ∙ h.same_kind;
    opens = opens;
    growth = growth;
  }

  leaf_laid : (r : NodesRead) (b : Built) (t : Lexeme) (d : ℕ) → length b.frames ≡ suc d
      → is_among (word_of text t) (names_of tables.symbols) ≡ true → Laid r b
      → Laid (with_leaf (number_in (names_of tables.symbols) (word_of text t)) r)
      (record b { frames = built.on_first (built.with_part (Some (leaf t))) b.frames })
  leaf_laid r b t d some known h =
      let s = number_in (names_of tables.symbols) (word_of text t) in
      let after = with_leaf s r in
      let below : s < length tables.symbols =
      subst (λ n. s < n) (length-map tables.symbols (λ (p : NamedPattern). p.name)) (number_below (names_of tables.symbols) (word_of text t) known) in
      now_laid r after b (built.on_first (built.with_part (Some (leaf t))) b.frames) h refl refl refl
      (innermost r.nodes after.nodes r.group after.group (built.with_part (Some (leaf t))) (h.expr_entries ++ h.scan_entries)
      (λ f xs. leaf_behind tables.symbols tables.outputs text r.nodes r.group f xs t below) d some h.opens h.growth)

  sign_laid : (sign : Sign) (of : Tree → Tree) → SignMakes tables.symbols tables.outputs text sign of → (r : NodesRead) (b : Built) (d : ℕ)
      → length b.frames ≡ suc d → Laid r b → Laid (with_sign sign r) (record b { frames = built.on_first (built.with_sign of) b.frames })
  sign_laid sign of makes r b d some h =
      let after = with_sign sign r in
      now_laid r after b (built.on_first (built.with_sign of) b.frames) h refl refl refl
      (innermost r.nodes after.nodes r.group after.group (built.with_sign of) (h.expr_entries ++ h.scan_entries)
      (λ f xs. sign_behind tables.symbols tables.outputs text sign of makes r.nodes r.group f xs) d some h.opens h.growth)

  bar_laid : (r : NodesRead) (b : Built) (d : ℕ) → length b.frames ≡ suc d → Laid r b
      → Laid (with_bar r) (record b { frames = built.on_first built.with_bar b.frames })
  bar_laid r b d some h =
      let after = with_bar r in
      now_laid r after b (built.on_first built.with_bar b.frames) h refl refl refl
      (innermost r.nodes after.nodes r.group after.group built.with_bar (h.expr_entries ++ h.scan_entries)
      (λ f xs. bar_behind tables.symbols tables.outputs text r.nodes r.group f xs) d some h.opens h.growth)

  open_laid : (r : NodesRead) (b : Built) (d : ℕ) → length b.frames ≡ suc d → Laid r b
      → Laid (with_group r) (record b { frames = empty_frame ∷ b.frames })
  open_laid r b d some h =
      now_laid r (with_group r) b (empty_frame ∷ b.frames) h refl refl refl
      (open_more r.nodes r.group (h.expr_entries ++ h.scan_entries) d some h.opens h.growth)

  close_laid : (r : NodesRead) (b : Built) (d : ℕ) → length b.frames ≡ suc (suc d) → Laid r b
      → Laid (closed_in r.outer r) (record b { frames = built.close_first b.frames })
  close_laid r b d some h =
      now_laid r (closed_in r.outer r) b (built.close_first b.frames) h (same_exprs r.outer) (same_scans r.outer) (same_flag r.outer)
      (close_one r (h.expr_entries ++ h.scan_entries) d some h.opens h.growth)
    where
      same_exprs : (gs : List Group) → (closed_in gs r).exprs ≡ r.exprs
      same_exprs [] = refl
      same_exprs (g ∷ gs) = refl

      same_scans : (gs : List Group) → (closed_in gs r).scans ≡ r.scans
      same_scans [] = refl
      same_scans (g ∷ gs) = refl

      same_flag : (gs : List Group) → (closed_in gs r).is_scan ≡ r.is_scan
      same_flag [] = refl
      same_flag (g ∷ gs) = refl

  -- a further name of a class
  name_laid : (r : NodesRead) (b : Built) (t : Lexeme) (d : ℕ) → length b.frames ≡ suc d
      → is_among (word_of text t) (names_of tables.symbols) ≡ true → Laid r b
      → Laid (with_name (number_in (names_of tables.symbols) (word_of text t)) r) (record b { frames = built.on_first (built.with_name t) b.frames })
  name_laid r b t d some known h =
      let fs = built.on_first built.with_bar b.frames in
      let size : length fs ≡ suc d = length-on_first built.with_bar b.frames ∙ some in
      let laid = leaf_laid (with_bar r) (record b { frames = fs }) t d size known (bar_laid r b d some h) in
      subst (λ fs. Laid (with_name (number_in (names_of tables.symbols) (word_of text t)) r) (record b { frames = fs })) (twice b.frames) laid
    where
      twice : (fs : List Frame)
          → built.on_first (built.with_part (Some (leaf t))) (built.on_first built.with_bar fs) ≡ built.on_first (built.with_name t) fs
      twice [] = refl
      twice (f ∷ fs) = refl

  -- The numbers of the counted repeat that is read are those of its tokens, capped.
  abbrev pub Numbers : Due → NodesRead → Built → Type 0
  Numbers Between r b = r.least ≡ capped (word_of text b.least)
  Numbers Most r b = r.least ≡ capped (word_of text b.least)
  Numbers BoundsEnd r b = (r.least ≡ capped (word_of text b.least)) × (r.most ≡ capped (word_of text b.most))
  Numbers due r b = ⊤

  -- The numbers of a counted repeat that ends are bounds.
  abbrev pub HasNumbers : Due → Kind → Built → Type 0
  HasNumbers BoundsEnd CloseBrace b =
      (number_of text b.least ≤ number_of text b.most) × (1 ≤ number_of text b.most) × (number_of text b.most ≤ 255)
  HasNumbers due kind b = ⊤

  repeat_laid : (r : NodesRead) (b : Built) (t : Lexeme) (d : ℕ) → length b.frames ≡ suc d → Numbers BoundsEnd r b → HasNumbers BoundsEnd CloseBrace b
      → Laid r b → Laid (with_sign (signs.Counted r.least r.most) r) (built.repeated t b)
  repeat_laid r b t d some (least, most) (ordered, positive, low) h =
      let of : Tree → Tree = λ e. counted e b.least b.most t in
      let m = number_of text b.least in
      let n = number_of text b.most in
      let le : m ≤ 255 = omega (arith, ordered, low) in
      let m_is : m ≡ r.least = sym (least ∙ min-eq_left le) in
      let n_is : n ≡ r.most = sym (most ∙ min-eq_left low) in
      let makes : SignMakes tables.symbols tables.outputs text (signs.Counted r.least r.most) of =
      subst (λ k. SignMakes tables.symbols tables.outputs text (signs.Counted r.least k) of) n_is
      (subst (λ k. SignMakes tables.symbols tables.outputs text (signs.Counted k n) of) m_is
      (counted_makes tables.symbols tables.outputs text b.least b.most t ordered positive low)) in
      let after = with_sign (signs.Counted r.least r.most) r in
      let c : Built = record b { frames = built.on_first (built.with_sign of) b.frames } in
      as_before after after c (built.repeated t b) refl refl refl refl (sign_laid (signs.Counted r.least r.most) of makes r b d some h)

  -- a token keeps the numbers beside what is built
  pub numbers_step : {due now : Due} {k : Kind} {d e : ℕ} → Moves due k d now e → (t : Lexeme) (r : NodesRead) (b : Built) → Numbers due r b
      → Numbers now (token_on tables due k (word_of text t) r) (act due k t b)
  numbers_step least_bits t r b h = refl
  numbers_step least_number t r b h = refl
  numbers_step bounds_comma t r b h = h
  numbers_step most_bits t r b h = (h, refl)
  numbers_step most_number t r b h = (h, refl)
  numbers_step move t r b h = tt

  -- a token keeps the nodes beside what is built
  pub laid_step : {due now : Due} {k : Kind} {d e : ℕ} → Moves due k d now e → (t : Lexeme) (r : NodesRead) (b : Built)
      → IsKnown tables due k (word_of text t) → HasNumbers due k b → Counted due d b.frames → Numbers due r b → Laid r b
      → Laid (token_on tables due k (word_of text t) r) (act due k t b)
  laid_step first_line t r b known bounds open_now numbers h = h
  laid_step line_name t r b known bounds open_now numbers h = as_before r r b (act LineName Name t b) refl refl refl refl h
  laid_step line_names t r b known bounds open_now numbers h = as_before r r b (act MoreNames Name t b) refl refl refl refl h
  laid_step line_end t r b known bounds open_now numbers h = h
  laid_step next_line t r b known bounds open_now numbers h = h
  laid_step first_symbol t r b known bounds open_now numbers h = h
  laid_step symbol_name t r b known bounds open_now numbers h = as_before r r b (act SymbolName Name t b) refl refl refl refl h
  laid_step symbol_equals t r b known bounds open_now numbers h = h
  laid_step symbol_pattern t r b known bounds open_now numbers h = as_before r r b (act SymbolPattern Pattern t b) refl refl refl refl h
  laid_step pattern_bits t r b known bounds open_now numbers h = as_before r r b (act SymbolPattern Bits t b) refl refl refl refl h
  laid_step symbol_end t r b known bounds open_now numbers h = h
  laid_step next_symbol t r b known bounds open_now numbers h = h
  laid_step first_output t r b known bounds open_now numbers h = h
  laid_step output_name t r b known bounds open_now numbers h = as_before r r b (act OutputName Name t b) refl refl refl refl h
  laid_step output_names t r b known bounds open_now numbers h = as_before r r b (act MoreOutputs Name t b) refl refl refl refl h
  laid_step output_end t r b known bounds open_now numbers h = h
  laid_step next_output t r b known bounds open_now numbers h = h
  laid_step first_expr t r b known bounds open_now numbers h = begin_one r b h false open_now
  laid_step first_scan t r b known bounds open_now numbers h = begin_one r b h true open_now
  laid_step {d = d} part_name t r b known bounds open_now numbers h = leaf_laid r b t d open_now known h
  laid_step {d = d} part_open t r b known bounds open_now numbers h = open_laid r b d open_now h
  laid_step {d = d} part_class t r b known bounds open_now numbers h = open_laid r b d open_now h
  laid_step {d = d} rest_name t r b known bounds (open_now, last) numbers h = leaf_laid r b t d open_now known h
  laid_step {d = d} rest_open t r b known bounds (open_now, last) numbers h = open_laid r b d open_now h
  laid_step {d = d} rest_class t r b known bounds (open_now, last) numbers h = open_laid r b d open_now h
  laid_step {e = e} rest_close t r b known bounds (open_now, last) numbers h = close_laid r b e open_now h
  laid_step {d = d} rest_bar t r b known bounds (open_now, last) numbers h = bar_laid r b d open_now h
  laid_step {d = d} rest_star t r b known bounds (open_now, last) numbers h =
      sign_laid signs.Star star (star_makes tables.symbols tables.outputs text) r b d open_now h
  laid_step {d = d} rest_plus t r b known bounds (open_now, last) numbers h =
      sign_laid signs.Plus plus (plus_makes tables.symbols tables.outputs text) r b d open_now h
  laid_step {d = d} rest_question t r b known bounds (open_now, last) numbers h =
      sign_laid signs.Optional optional (optional_makes tables.symbols tables.outputs text) r b d open_now h
  laid_step rest_mark t r b known bounds open_now numbers h = h
  laid_step rest_end t r b known bounds (open_now, last) numbers h = end_one r b h open_now
  laid_step rest_brace t r b known bounds open_now numbers h = h
  laid_step {d = d} mark_name t r b known bounds (open_now, last) numbers h =
      sign_laid (signs.Marked (number_in tables.outputs (word_of text t))) (λ e. marked e t)
      (mark_makes tables.symbols tables.outputs text t (number_below tables.outputs (word_of text t) known)) r b d open_now h
  laid_step {d = d} class_name t r b known bounds (open_now, some) numbers h = leaf_laid r b t d open_now known h
  laid_step {d = d} class_names t r b known bounds (open_now, last, some) numbers h = name_laid r b t d open_now known h
  laid_step {d = d} class_close t r b known bounds (open_now, last, some) numbers h = close_laid r b (pred d) (open_now ∙ ap suc some) h
  laid_step least_bits t r b known bounds open_now numbers h =
      as_before r (with_least (capped (word_of text t)) r) b (act Least Bits t b) refl refl refl refl h
  laid_step least_number t r b known bounds open_now numbers h =
      as_before r (with_least (capped (word_of text t)) r) b (act Least Number t b) refl refl refl refl h
  laid_step bounds_comma t r b known bounds open_now numbers h = h
  laid_step most_bits t r b known bounds open_now numbers h =
      as_before r (with_most (capped (word_of text t)) r) b (act Most Bits t b) refl refl refl refl h
  laid_step most_number t r b known bounds open_now numbers h =
      as_before r (with_most (capped (word_of text t)) r) b (act Most Number t b) refl refl refl refl h
  laid_step {d = d} bounds_end t r b known bounds (open_now, last) numbers h = repeat_laid r b t d open_now numbers bounds h
  laid_step next_expr t r b known bounds open_now numbers h = begin_one r b h false open_now
  laid_step next_scan t r b known bounds open_now numbers h = begin_one r b h true open_now

  pub laid_first : Laid no_nodes built.nothing_built
  laid_first = record {
    expr_entries = [];
    scan_entries = [];
    open_now = [];
    exprs = record { numbers = refl; trees = refl };
    scans = record { numbers = refl; trees = refl };
    same_kind = refl;
    opens = closed refl refl;
    growth = nothing;
  }
