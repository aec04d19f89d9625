-- The groups of a growing table beside the open expressions that the tokens build.
use Rattle.std.proofs.Common.{◌≡◌, ℕ, ◌<◌, ◌≤◌, Some, None, List, [], ◌∷◌, ◌++◌, length, refl, ap, sym, ◌∙◌, subst}
use Rattle.std.specs.Prelude.{Option}
use Rattle.std.proofs.lemmas.List.{append_assoc, append-nil}
use Rattle.std.proofs.lemmas.Option.{get_or_from_slice_get}
use Rattle.rx_lang.specs.declared.expr_node.ExprNode.{ExprNode}
use Rattle.rx_lang.specs.declared.expr_node.ExprNode.TheVariants.{Leaf}
use Rattle.rx_lang.specs.Expression as lang
use Rattle.rx_lang.specs.Expression.{Expr}
use Rattle.rx_lang.specs.Specification.{NamedPattern}
use Rattle.rx_lang.specs.Tables.{tree_at}
use Rattle.rx_syntax.specs.Lexemes.{Lexeme, word_of}
use Rattle.rx_syntax.specs.Grammar.{Tree, leaf, union, sequence, star, plus, optional, marked, counted}
use Rattle.rx_syntax.specs.Uses.{number_of}
use Rattle.rx_syntax.specs.Accepted.{number_in, resolve}
use Rattle.rx_syntax.specs.NameTables.{names_of}
use Rattle.rx_syntax.proofs.Builder as built
use Rattle.rx_syntax.proofs.Builder.{Frame, chain_of, closed_frame, with_part, with_sign, with_bar, some_tree}
use Rattle.rx_syntax.specs.declared.node_table.Join.{Join}
use Rattle.rx_syntax.specs.declared.node_table.Join.TheVariants.{Sequence, Union}
use Rattle.rx_syntax.specs.declared.node_table.Sign.{Sign}
use Rattle.rx_syntax.specs.declared.node_table.Sign.TheVariants as signs
use Rattle.rx_syntax.specs.declared.group.Group.{Group}
use Rattle.rx_syntax.specs.NodeBuilder.{join_node, sign_node, joined, signed, chain, whole}
use Rattle.rx_syntax.proofs.Growth.{Entry, Makes, Growth, grown}

abbrev pub join_of : Join → Tree → Tree → Tree
join_of Sequence e f = sequence e f
join_of Union e f = union e f

abbrev pub entry : ℕ → Expr → Entry
entry n e = record { number = n; tree = e }

module _ (symbols : List NamedPattern) (outputs : List (List ℕ)) (text : List ℕ) where
  -- the expression with numbers in place of names
  abbrev pub numbered : Tree → Expr
  numbered e = resolve (number_in (names_of symbols)) (number_in outputs) text e

  -- A node and a tree, or neither, and the entry that they are.
  pub data As : Option ℕ → Option Tree → List Entry → Type 0 where
    absent : As None None []
    present : (n : ℕ) (e : Tree) → As (Some n) (Some e) (entry n (numbered e) ∷ [])

  -- the nodes of a group and the trees of an open expression
  pub record GroupAs (g : Group) (f : Frame) (es : List Entry) : Type 0 where
    pub unions : List Entry
    pub chains : List Entry
    pub lasts : List Entry
    pub union_as : As g.union_before f.union_before unions
    pub chain_as : As g.sequence_before f.sequence_before chains
    pub last_as : As g.last f.last lasts
    pub entries : es ≡ unions ++ (chains ++ lasts)

  -- what the nodes make

  leaf_makes : (s : ℕ) → s < length symbols → Makes symbols outputs (Leaf s) [] (lang.symbol s)
  leaf_makes s lt = record {
    takes = refl;
    makes = λ made h. refl;
    bounds = tt;
    named = λ tables es eo. subst (λ ss. s < length ss) (sym es) lt;
  }

  join_makes : (join : Join) (a b : ℕ) (e f : Tree)
      → Makes symbols outputs (join_node join a b) (entry a (numbered e) ∷ entry b (numbered f) ∷ []) (numbered (join_of join e f))
  join_makes Sequence a b e f = record {
    takes = refl;
    makes = λ made h. ap (λ x. lang.sequence x (tree_at made b)) (get_or_from_slice_get made a (numbered e) (lang.symbol 0) h.0)
        ∙ ap (λ y. lang.sequence (numbered e) y) (get_or_from_slice_get made b (numbered f) (lang.symbol 0) h.1.0);
    bounds = tt;
    named = λ tables es eo. tt;
  }
  join_makes Union a b e f = record {
    takes = refl;
    makes = λ made h. ap (λ x. lang.union x (tree_at made b)) (get_or_from_slice_get made a (numbered e) (lang.symbol 0) h.0)
        ∙ ap (λ y. lang.union (numbered e) y) (get_or_from_slice_get made b (numbered f) (lang.symbol 0) h.1.0);
    bounds = tt;
    named = λ tables es eo. tt;
  }

  -- The sign makes this of each tree.
  abbrev pub SignMakes : Sign → (Tree → Tree) → Type 0
  SignMakes sign of = (n : ℕ) (e : Tree) → Makes symbols outputs (sign_node sign n) (entry n (numbered e) ∷ []) (numbered (of e))

  pub star_makes : SignMakes signs.Star star
  star_makes n e = record {
    takes = refl;
    makes = λ made h. ap lang.star (get_or_from_slice_get made n (numbered e) (lang.symbol 0) h.0);
    bounds = tt;
    named = λ tables es eo. tt;
  }

  pub plus_makes : SignMakes signs.Plus plus
  plus_makes n e = record {
    takes = refl;
    makes = λ made h. ap lang.plus (get_or_from_slice_get made n (numbered e) (lang.symbol 0) h.0);
    bounds = tt;
    named = λ tables es eo. tt;
  }

  pub optional_makes : SignMakes signs.Optional optional
  optional_makes n e = record {
    takes = refl;
    makes = λ made h. ap lang.optional (get_or_from_slice_get made n (numbered e) (lang.symbol 0) h.0);
    bounds = tt;
    named = λ tables es eo. tt;
  }

  pub mark_makes : (t : Lexeme) → number_in outputs (word_of text t) < length outputs
      → SignMakes (signs.Marked (number_in outputs (word_of text t))) (λ e. marked e t)
  mark_makes t lt n e = record {
    takes = refl;
    makes = λ made h. ap (λ x. lang.marked x (number_in outputs (word_of text t))) (get_or_from_slice_get made n (numbered e) (lang.symbol 0) h.0);
    bounds = tt;
    named = λ tables es eo. subst (λ os. number_in outputs (word_of text t) < length os) (sym eo) lt;
  }

  pub counted_makes : (least most c : Lexeme) → number_of text least ≤ number_of text most → 1 ≤ number_of text most → number_of text most ≤ 255
      → SignMakes (signs.Counted (number_of text least) (number_of text most)) (λ e. counted e least most c)
  counted_makes least most c ordered some low n e = record {
    takes = refl;
    makes = λ made h. ap (λ x. lang.repeated x (number_of text least) (number_of text most))
        (get_or_from_slice_get made n (numbered e) (lang.symbol 0) h.0);
    bounds = (ordered, some, low);
    named = λ tables es eo. tt;
  }

  -- growth by one node

  -- The entries stand in other parentheses.
  regrouped : (nodes : List ExprNode) (es fs : List Entry) → es ≡ fs → Growth symbols outputs nodes es → Growth symbols outputs nodes fs
  regrouped nodes es fs e g = subst (λ es. Growth symbols outputs nodes es) e g

  join_grown : (join : Join) (nodes : List ExprNode) {first second : Option ℕ} {e f : Option Tree} {a b : List Entry} (xs ys : List Entry)
      → As first e a → As second f b → Growth symbols outputs nodes (xs ++ (a ++ (b ++ ys)))
      → (c : List Entry) × As (joined join nodes first second).part (built.joined (join_of join) e f) c
      × Growth symbols outputs (joined join nodes first second).nodes (xs ++ (c ++ ys))
  join_grown join nodes xs ys absent absent g = ([], absent, g)
  join_grown join nodes xs ys absent (present n e) g = (entry n (numbered e) ∷ [], present n e, g)
  join_grown join nodes xs ys (present n e) absent g = (entry n (numbered e) ∷ [], present n e, g)
  join_grown join nodes xs ys (present n e) (present m f) g = (
    entry (length nodes) (numbered (join_of join e f)) ∷ [],
    present (length nodes) (join_of join e f),
    grown (join_node join n m) xs (entry n (numbered e) ∷ entry m (numbered f) ∷ []) ys (numbered (join_of join e f)) (join_makes join n m e f) refl refl
        refl g,
  )

  sign_grown : (sign : Sign) (of : Tree → Tree) → SignMakes sign of → (nodes : List ExprNode) {last : Option ℕ} {e : Option Tree}
      {a : List Entry} (xs ys : List Entry) → As last e a → Growth symbols outputs nodes (xs ++ (a ++ ys))
      → (c : List Entry) × As (signed sign nodes last).part (some_tree of e) c × Growth symbols outputs (signed sign nodes last).nodes (xs ++ (c ++ ys))
  sign_grown sign of makes nodes xs ys absent g = ([], absent, g)
  sign_grown sign of makes nodes xs ys (present n e) g = (
    entry (length nodes) (numbered (of e)) ∷ [],
    present (length nodes) (of e),
    grown (sign_node sign n) xs (entry n (numbered e) ∷ []) ys (numbered (of e)) (makes n e) refl refl refl g,
  )

  -- groups

  -- the chain of a group as one entry
  pub record Chained (nodes : List ExprNode) (g : Group) (f : Frame) (xs ys : List Entry) : Type 0 where
    pub unions : List Entry
    pub one : List Entry
    pub union_as : As g.union_before f.union_before unions
    pub one_as : As (chain nodes g).part (chain_of f) one
    pub growth : Growth symbols outputs (chain nodes g).nodes (xs ++ (unions ++ (one ++ ys)))

  pub chained : (nodes : List ExprNode) (g : Group) (f : Frame) (xs es ys : List Entry) → GroupAs g f es
      → Growth symbols outputs nodes (xs ++ (es ++ ys)) → Chained nodes g f xs ys
  chained nodes g f xs es ys h growth =
      let us = h.unions in
      let cs = h.chains in
      let ls = h.lasts in
      let cut : xs ++ (es ++ ys) ≡ (xs ++ us) ++ (cs ++ (ls ++ ys)) = ap (λ es. xs ++ (es ++ ys)) h.entries ∙ simp append_assoc in
      let c = join_grown Sequence nodes (xs ++ us) ys h.chain_as h.last_as (regrouped nodes (xs ++ (es ++ ys)) ((xs ++ us) ++ (cs ++ (ls ++ ys))) cut growth) in
      record {
        unions = us;
        one = c.0;
        union_as = h.union_as;
        one_as = c.1;
        growth = regrouped (chain nodes g).nodes ((xs ++ us) ++ (c.0 ++ ys)) (xs ++ (us ++ (c.0 ++ ys))) (append_assoc xs us (c.0 ++ ys)) c.2;
      }

  -- a group as one entry
  pub gathered : (nodes : List ExprNode) (g : Group) (f : Frame) (xs es ys : List Entry) → GroupAs g f es
      → Growth symbols outputs nodes (xs ++ (es ++ ys))
      → (c : List Entry) × As (whole nodes g).part (closed_frame f) c × Growth symbols outputs (whole nodes g).nodes (xs ++ (c ++ ys))
  gathered nodes g f xs es ys h growth =
      let c = chained nodes g f xs es ys h growth in
      join_grown Union (chain nodes g).nodes xs ys c.union_as c.one_as c.growth

  -- What a step makes of a group behind these entries.
  abbrev pub Behind : List ExprNode → Group → Frame → List Entry → Type 0
  Behind nodes g f xs = (es : List Entry) × GroupAs g f es × Growth symbols outputs nodes (xs ++ (es ++ []))

  pub leaf_behind : (nodes : List ExprNode) (g : Group) (f : Frame) (xs : List Entry) (t : Lexeme)
      → number_in (names_of symbols) (word_of text t) < length symbols → Behind nodes g f xs
      → Behind ((chain nodes g).nodes ++ (Leaf (number_in (names_of symbols) (word_of text t)) ∷ []))
      (record { union_before = g.union_before; sequence_before = (chain nodes g).part; last = Some (length (chain nodes g).nodes) })
      (with_part (Some (leaf t)) f) xs
  leaf_behind nodes g f xs t lt (es, h, growth) =
      let s = number_in (names_of symbols) (word_of text t) in
      let c = chained nodes g f xs es [] h growth in
      let us = c.unions in
      let cs = c.one in
      let new = entry (length (chain nodes g).nodes) (numbered (leaf t)) in (
        us ++ (cs ++ (new ∷ [])),
        record { unions = us; chains = cs; lasts = new ∷ []; union_as = c.union_as; chain_as = c.one_as; last_as = present (length (chain nodes g).nodes) (leaf t); entries = refl },
        grown (Leaf s) (xs ++ (us ++ cs)) [] [] (lang.symbol s) (leaf_makes s lt) (simp (append_assoc, append-nil)) refl (simp (append_assoc, append-nil)) c.growth,
      )

  pub sign_behind : (sign : Sign) (of : Tree → Tree) → SignMakes sign of → (nodes : List ExprNode) (g : Group) (f : Frame) (xs : List Entry)
      → Behind nodes g f xs
      → Behind (signed sign nodes g.last).nodes
      (record { union_before = g.union_before; sequence_before = g.sequence_before; last = (signed sign nodes g.last).part }) (with_sign of f) xs
  sign_behind sign of makes nodes g f xs (es, h, growth) =
      let us = h.unions in
      let cs = h.chains in
      let ls = h.lasts in
      let cut : xs ++ (es ++ []) ≡ (xs ++ (us ++ cs)) ++ (ls ++ []) = ap (λ es. xs ++ (es ++ [])) h.entries ∙ simp append_assoc in
      let c = sign_grown sign of makes nodes (xs ++ (us ++ cs)) [] h.last_as (regrouped nodes (xs ++ (es ++ [])) ((xs ++ (us ++ cs)) ++ (ls ++ [])) cut growth) in (
        us ++ (cs ++ c.0),
        record { unions = us; chains = cs; lasts = c.0; union_as = h.union_as; chain_as = h.chain_as; last_as = c.1; entries = refl },
        regrouped (signed sign nodes g.last).nodes ((xs ++ (us ++ cs)) ++ (c.0 ++ [])) (xs ++ ((us ++ (cs ++ c.0)) ++ [])) (simp append_assoc) c.2,
      )

  pub bar_behind : (nodes : List ExprNode) (g : Group) (f : Frame) (xs : List Entry) → Behind nodes g f xs
      → Behind (whole nodes g).nodes (record { union_before = (whole nodes g).part; sequence_before = None; last = None }) (with_bar f) xs
  bar_behind nodes g f xs (es, h, growth) =
      let c = gathered nodes g f xs es [] h growth in (
        c.0,
        record { unions = c.0; chains = []; lasts = []; union_as = c.1; chain_as = absent; last_as = absent; entries = sym (append-nil c.0) },
        c.2,
      )

  -- the group within as a part of the one round it
  pub within_behind : (nodes : List ExprNode) (inner group : Group) (f frame : Frame) (xs es : List Entry) → GroupAs group frame es
      → Behind nodes inner f (xs ++ es)
      → Behind (chain (whole nodes inner).nodes group).nodes (record {
        union_before = group.union_before;
        sequence_before = (chain (whole nodes inner).nodes group).part;
        last = (whole nodes inner).part;
      }) (with_part (closed_frame f) frame) xs
  within_behind nodes inner group f frame xs es round (is, h, growth) =
      let part = gathered nodes inner f (xs ++ es) is [] h growth in
      let after : List ExprNode = (whole nodes inner).nodes in
      let c = chained after group frame xs es part.0 round
      (regrouped after ((xs ++ es) ++ (part.0 ++ [])) (xs ++ (es ++ part.0)) (simp (append_assoc, append-nil)) part.2) in (
        c.unions ++ (c.one ++ part.0),
        record { unions = c.unions; chains = c.one; lasts = part.0; union_as = c.union_as; chain_as = c.one_as; last_as = part.1; entries = refl },
        regrouped (chain after group).nodes (xs ++ (c.unions ++ (c.one ++ part.0))) (xs ++ ((c.unions ++ (c.one ++ part.0)) ++ [])) (simp append-nil) c.growth,
      )
