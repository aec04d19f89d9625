-- Tables of nodes that grow by a node at a time, and the expressions in them that no later node has taken yet.
use Rattle.std.proofs.Common.{◌≡◌, ℕ, zero, suc, ◌*◌, ◌+◌, ◌<◌, ◌≤◌, ◌==◌, Some, List, [], ◌∷◌, ◌++◌, length, map, slice_get, get_or, All, count_by, sum_by, flat_map, cond, fold, refl, ap, sym, ◌∙◌, subst, inl, inr, arith, length-append}
use Rattle.std.specs.Prelude.{⊤}
use Rattle.std.proofs.lemmas.Bool.{cases_lt, cases_order}
use Rattle.std.proofs.lemmas.List.{append-nil, get_or_append_left}
use Rattle.std.proofs.lemmas.List.Sums.{fold-append, sum_by-append, sum_by-cons}
use Rattle.std.proofs.lemmas.List.Elements.{All-append, All-cons, All-nil}
use Rattle.std.proofs.lemmas.Grind.{flat_map-append}
use Rattle.std.proofs.lemmas.Option.{slice_get_within, slice_get_read, get_or_from_slice_get}
use Rattle.std.proofs.Math.Seq.{get_or-append_seam}
use Rattle.rx_lang.specs.declared.expr_node.ExprNode.{ExprNode}
use Rattle.rx_lang.specs.Expression.{Expr, symbol, sequence, union, star, plus, optional, marked, repeated}
use Rattle.rx_lang.specs.Specification.{NamedPattern}
use Rattle.rx_lang.specs.Tables.{Tables, HasBounds, children, NamesEntries, tree_at, tree_of, trees}
use Rattle.rx_lang.specs.Copies.{occurrences, times}

-- an expression in a table: the number of its node, and its tree
pub record Entry : Type 0 where
  pub number : ℕ
  pub tree : Expr

-- how many symbols an expression has
abbrev pub leaves : Expr → ℕ
leaves (symbol s) = 1
leaves (sequence e f) = leaves e + leaves f
leaves (union e f) = leaves e + leaves f
leaves (star e) = leaves e
leaves (plus e) = leaves e
leaves (optional e) = leaves e
leaves (marked e y) = leaves e
leaves (repeated e m n) = n * leaves e

-- The nodes with these trees have the trees of the entries.
abbrev pub Mean : List Expr → List Entry → Type 0
Mean made [] = ⊤
Mean made (e ∷ es) = (slice_get made e.number ≡ Some e.tree) × Mean made es

-- how often the number is that of an entry
abbrev pub held : ℕ → List Entry → ℕ
held k es = sum_by (λ (e : Entry). cond (e.number == k) 1 0) es

-- how often the number is that of a child
abbrev pub taken_by : ℕ → List ExprNode → ℕ
taken_by k nodes = count_by (λ x. x == k) (flat_map children nodes)

module _ (symbols : List NamedPattern) (outputs : List (List ℕ)) where
  -- The node takes the entries and makes this tree of them.
  pub record Makes (node : ExprNode) (taken : List Entry) (tree : Expr) : Type 0 where
    pub takes : children node ≡ map (λ (e : Entry). e.number) taken
    pub makes : (made : List Expr) → Mean made taken → tree_of made node ≡ tree
    pub bounds : HasBounds node
    pub named : (tables : Tables) → tables.symbols ≡ symbols → tables.outputs ≡ outputs → NamesEntries tables node

  -- The table grew so, and these are the entries that are open in it.
  pub data Growth : List ExprNode → List Entry → Type 0 where
    nothing : Growth [] []
    grown : {nodes more : List ExprNode} {before opens : List Entry} (node : ExprNode) (xs taken ys : List Entry) (tree : Expr)
        → Makes node taken tree → before ≡ xs ++ (taken ++ ys) → more ≡ nodes ++ (node ∷ [])
        → opens ≡ xs ++ (record { number = length nodes; tree = tree } ∷ ys) → Growth nodes before → Growth more opens
    swapped : {nodes : List ExprNode} {before opens : List Entry} (xs ys zs : List Entry) → before ≡ xs ++ (ys ++ zs) → opens ≡ xs ++ (zs ++ ys)
        → Growth nodes before → Growth nodes opens

-- meanings

pub mean_append : (made : List Expr) (xs ys : List Entry) → Mean made xs → Mean made ys → Mean made (xs ++ ys)
mean_append made [] ys h i = i
mean_append made (x ∷ xs) ys (e, h) i = (e, mean_append made xs ys h i)

pub mean_front : (made : List Expr) (xs ys : List Entry) → Mean made (xs ++ ys) → Mean made xs
mean_front made [] ys h = tt
mean_front made (x ∷ xs) ys (e, h) = (e, mean_front made xs ys h)

pub mean_rest : (made : List Expr) (xs ys : List Entry) → Mean made (xs ++ ys) → Mean made ys
mean_rest made [] ys h = h
mean_rest made (x ∷ xs) ys (e, h) = mean_rest made xs ys h

get_more : (made : List Expr) (tree : Expr) (k : ℕ) (e : Expr) → slice_get made k ≡ Some e → slice_get (made ++ (tree ∷ [])) k ≡ Some e
get_more made tree k e get =
    let lt = slice_get_within made k e get in
    slice_get_read (made ++ (tree ∷ [])) (length (made ++ (tree ∷ []))) k e refl (omega (arith, lt, length-append made (tree ∷ [])))
    (sym (get_or_append_left made (tree ∷ []) e k lt ∙ get_or_from_slice_get made k e e get))

get_last : (made : List Expr) (tree : Expr) → slice_get (made ++ (tree ∷ [])) (length made) ≡ Some tree
get_last made tree =
    slice_get_read (made ++ (tree ∷ [])) (length (made ++ (tree ∷ []))) (length made) tree refl (omega (arith, length-append made (tree ∷ [])))
    (sym (get_or-append_seam made tree [] tree))

mean_more : (made : List Expr) (tree : Expr) (es : List Entry) → Mean made es → Mean (made ++ (tree ∷ [])) es
mean_more made tree [] h = tt
mean_more made tree (x ∷ es) (get, h) = (get_more made tree x.number x.tree get, mean_more made tree es h)

pub below_mean : (made : List Expr) (es : List Entry) → Mean made es → All (λ n. n < length made) (map (λ (e : Entry). e.number) es)
below_mean made [] h = All-nil (λ n. n < length made)
below_mean made (x ∷ es) (get, h) =
    All-cons (λ n. n < length made) x.number (map (λ (e : Entry). e.number) es) (slice_get_within made x.number x.tree get) (below_mean made es h)

pub trees_more : (nodes : List ExprNode) (node : ExprNode) → trees (nodes ++ (node ∷ [])) ≡ trees nodes ++ (tree_of (trees nodes) node ∷ [])
trees_more nodes node = fold-append (λ made n. made ++ (tree_of made n ∷ [])) [] nodes (node ∷ [])

length-grown : (before : List Expr) (nodes : List ExprNode)
    → length (fold (λ made n. made ++ (tree_of made n ∷ [])) before nodes) ≡ length before + length nodes
length-grown before [] = omega arith
length-grown before (node ∷ nodes) = omega (
  arith,
  length-grown (before ++ (tree_of before node ∷ [])) nodes,
  length-append before (tree_of before node ∷ []),
)

pub length-trees : (nodes : List ExprNode) → length (trees nodes) ≡ length nodes
length-trees nodes = omega (arith, length-grown [] nodes)

-- one more entry, among others
mean_put : (made : List Expr) (tree : Expr) (xs taken ys : List Entry) (n : ℕ) → n ≡ length made → Mean made (xs ++ (taken ++ ys))
    → Mean (made ++ (tree ∷ [])) (xs ++ (record { number = n; tree = tree } ∷ ys))
mean_put made tree xs taken ys n e h =
    let rest = mean_rest made taken ys (mean_rest made xs (taken ++ ys) h) in
    let here : slice_get (made ++ (tree ∷ [])) n ≡ Some tree = subst (λ m. slice_get (made ++ (tree ∷ [])) m ≡ Some tree) (sym e) (get_last made tree) in
    mean_append (made ++ (tree ∷ [])) xs (record { number = n; tree = tree } ∷ ys)
    (mean_more made tree xs (mean_front made xs (taken ++ ys) h)) (here, mean_more made tree ys rest)

held_append : (k : ℕ) (xs ys : List Entry) → held k (xs ++ ys) ≡ held k xs + held k ys
held_append k xs ys = sum_by-append (λ (e : Entry). cond (e.number == k) 1 0) xs ys

-- no entry has a number past the trees
none_held : (made : List Expr) (es : List Entry) (k : ℕ) → length made ≤ k → Mean made es → held k es ≡ 0
none_held made [] k h m = refl
none_held made (x ∷ es) k h (get, m) =
    let lt = slice_get_within made x.number x.tree get in
    let off : ◌≡◌ {A = ℕ} (cond (x.number == k) 1 0) 0 = other x.number k (omega (arith, lt, h)) in
    omega (arith, off, sum_by-cons (λ (e : Entry). cond (e.number == k) 1 0) x es, none_held made es k h m)
  where
    other : (a b : ℕ) → a < b → ◌≡◌ {A = ℕ} (cond (a == b) 1 0) 0
    other a b lt = grind (arith, lt)

pub taken_held : (k : ℕ) (es : List Entry) → count_by (λ x. x == k) (map (λ (e : Entry). e.number) es) ≡ held k es
taken_held k [] = refl
taken_held k (x ∷ es) = omega (
  arith,
  sum_by-cons (λ x. cond (x == k) 1 0) x.number (map (λ (e : Entry). e.number) es),
  sum_by-cons (λ (e : Entry). cond (e.number == k) 1 0) x es,
  taken_held k es,
)

-- each number below the table's length is used once, and no other
pub record UsedOnce (nodes : List ExprNode) (es : List Entry) (k : ℕ) : Type 0 where
  pub once : k < length nodes → taken_by k nodes + held k es ≡ 1
  pub never : length nodes ≤ k → taken_by k nodes + held k es ≡ 0

is_new : (n k : ℕ) → n ≡ k → ◌≡◌ {A = ℕ} (cond (n == k) 1 0) 1
is_new n k e = grind (arith, e)

not_new : (n k : ℕ) → (n ≡ k → ⊥) → ◌≡◌ {A = ℕ} (cond (n == k) 1 0) 0
not_new n k ne = grind (arith, ne)

-- how the uses grow
uses_grown : (nodes : List ExprNode) (node : ExprNode) (xs taken ys : List Entry) (tree : Expr) (k : ℕ)
    → children node ≡ map (λ (e : Entry). e.number) taken
    → taken_by k (nodes ++ (node ∷ [])) + held k (xs ++ (record { number = length nodes; tree = tree } ∷ ys))
    ≡ (taken_by k nodes + held k (xs ++ (taken ++ ys))) + cond (length nodes == k) 1 0
uses_grown nodes node xs taken ys tree k takes =
    let new : Entry = record { number = length nodes; tree = tree } in
    let flat : flat_map children (nodes ++ (node ∷ [])) ≡ flat_map children nodes ++ (children node ++ []) = flat_map-append children nodes (node ∷ []) in
    let counted : taken_by k (nodes ++ (node ∷ [])) ≡ taken_by k nodes + held k taken =
    ap (count_by (λ x. x == k)) flat
    ∙ sum_by-append (λ x. cond (x == k) 1 0) (flat_map children nodes) (children node ++ [])
    ∙ ap (λ n. taken_by k nodes + n) (ap (count_by (λ x. x == k)) (append-nil (children node) ∙ takes) ∙ taken_held k taken) in
    omega (
      arith,
      counted,
      held_append k xs (new ∷ ys),
      sum_by-cons (λ (e : Entry). cond (e.number == k) 1 0) new ys,
      held_append k xs (taken ++ ys),
      held_append k taken ys,
    )

module _ {symbols : List NamedPattern} {outputs : List (List ℕ)} where
  pub grown_mean : {nodes : List ExprNode} {es : List Entry} → Growth symbols outputs nodes es → Mean (trees nodes) es
  grown_mean nothing = tt
  grown_mean (grown {nodes = nodes} {more = more} {before = before} node xs taken ys tree makes cut longer open_now g) =
      let old : Mean (trees nodes) (xs ++ (taken ++ ys)) = subst (λ es. Mean (trees nodes) es) cut (grown_mean g) in
      let is : tree_of (trees nodes) node ≡ tree =
      makes.makes (trees nodes) (mean_front (trees nodes) taken ys (mean_rest (trees nodes) xs (taken ++ ys) old)) in
      let new = mean_put (trees nodes) tree xs taken ys (length nodes) (sym (length-trees nodes)) old in
      let all : trees nodes ++ (tree ∷ []) ≡ trees more =
      ap (λ t. trees nodes ++ (t ∷ [])) (sym is) ∙ sym (trees_more nodes node) ∙ ap trees (sym longer) in
      subst (λ es. Mean (trees more) es) (sym open_now)
      (subst (λ made. Mean made (xs ++ (record { number = length nodes; tree = tree } ∷ ys))) all new)
  grown_mean (swapped {nodes = nodes} xs ys zs cut open_now g) =
      let made = trees nodes in
      let old : Mean made (xs ++ (ys ++ zs)) = subst (λ es. Mean made es) cut (grown_mean g) in
      let rest = mean_rest made xs (ys ++ zs) old in
      subst (λ es. Mean made es) (sym open_now)
      (mean_append made xs (zs ++ ys) (mean_front made xs (ys ++ zs) old)
      (mean_append made zs ys (mean_rest made ys zs rest) (mean_front made ys zs rest)))

  pub grown_uses : {nodes : List ExprNode} {es : List Entry} → Growth symbols outputs nodes es → (k : ℕ) → UsedOnce nodes es k
  grown_uses nothing k = record { once = λ lt. absurd (omega (arith, lt)); never = λ le. refl }
  grown_uses (grown {nodes = nodes} {more = more} {before = before} {opens = opens} node xs taken ys tree makes cut longer open_now g) k =
      let old : UsedOnce nodes (xs ++ (taken ++ ys)) k = subst (λ es. UsedOnce nodes es k) cut (grown_uses g k) in
      let new = uses_grown nodes node xs taken ys tree k makes.takes in
      let size = length-append nodes (node ∷ []) in
      subst (λ ns. UsedOnce ns opens k) (sym longer)
      (subst (λ es. UsedOnce (nodes ++ (node ∷ [])) es k) (sym open_now) (elim (cases_order k (length nodes)) [
        | inl e ↦ record {
          once = λ lt. omega (arith, new, old.never (omega (arith, e)), is_new (length nodes) k (sym e));
          never = λ le. absurd (omega (arith, le, size, e));
        }
        | inr (inl lt) ↦ record {
          once = λ h. omega (arith, new, old.once lt, not_new (length nodes) k (λ e. omega (arith, e, lt)));
          never = λ le. absurd (omega (arith, le, size, lt));
        }
        | inr (inr gt) ↦ record {
          once = λ lt. absurd (omega (arith, lt, size, gt));
          never = λ h. omega (arith, new, old.never (omega (arith, gt)), not_new (length nodes) k (λ e. omega (arith, e, gt)));
        }
      ]))
  grown_uses (swapped {nodes = nodes} {before = before} {opens = opens} xs ys zs cut open_now g) k =
      let old = grown_uses g k in
      let same : held k opens ≡ held k before =
      omega (
        arith,
        ap (held k) cut,
        ap (held k) open_now,
        held_append k xs (ys ++ zs),
        held_append k ys zs,
        held_append k xs (zs ++ ys),
        held_append k zs ys,
      ) in
      record { once = λ lt. omega (arith, same, old.once lt); never = λ le. omega (arith, same, old.never le) }

  -- each child stands before its parent
  pub grown_before : {nodes : List ExprNode} {es : List Entry} → Growth symbols outputs nodes es
      → (k : ℕ) (node : ExprNode) → slice_get nodes k ≡ Some node → All (λ child. child < k) (children node)
  grown_before nothing k node get = absurd cc
  grown_before (grown {nodes = nodes} {more = more} {before = before} made xs taken ys tree makes cut longer open_now g) k node get =
      let has : slice_get (nodes ++ (made ∷ [])) k ≡ Some node = subst (λ ns. slice_get ns k ≡ Some node) longer get in
      let within = slice_get_within (nodes ++ (made ∷ [])) k node has in
      let same = get_or_from_slice_get (nodes ++ (made ∷ [])) k node made has in
      elim (cases_lt k (length nodes)) [
        | inl lt ↦ (
            let kept = slice_get_read nodes (length nodes) k node refl lt (sym (get_or_from_slice_get (nodes ++ (made ∷ [])) k node node has)
            ∙ get_or_append_left nodes (made ∷ []) node k lt) in
            grown_before g k node kept)
        | inr le ↦ (
            let last : k ≡ length nodes = omega (arith, le, within, length-append nodes (made ∷ [])) in
            let is : made ≡ node = sym (get_or-append_seam nodes made [] made) ∙ subst (λ n. get_or (nodes ++ (made ∷ [])) n made ≡ node) last same in
            let old : Mean (trees nodes) (xs ++ (taken ++ ys)) = subst (λ es. Mean (trees nodes) es) cut (grown_mean g) in
            let low = below_mean (trees nodes) taken (mean_front (trees nodes) taken ys (mean_rest (trees nodes) xs (taken ++ ys) old)) in
            let here : All (λ child. child < length nodes) (children made) =
            subst (λ cs. All (λ child. child < length nodes) cs) (sym makes.takes)
            (subst (λ n. All (λ child. child < n) (map (λ (e : Entry). e.number) taken)) (length-trees nodes) low) in
            subst (λ n. All (λ child. child < n) (children node)) (sym last) (subst (λ m. All (λ child. child < length nodes) (children m)) is here))
      ]
  grown_before (swapped xs ys zs cut open_now g) k node has = grown_before g k node has

  pub grown_named : {nodes : List ExprNode} {es : List Entry} → Growth symbols outputs nodes es
      → (tables : Tables) → tables.symbols ≡ symbols → tables.outputs ≡ outputs → All (NamesEntries tables) nodes
  grown_named nothing tables s o = All-nil (NamesEntries tables)
  grown_named (grown {nodes = nodes} {before = before} node xs taken ys tree makes cut longer open_now g) tables s o =
      subst (λ ns. All (NamesEntries tables) ns) (sym longer)
      (All-append (NamesEntries tables) nodes (node ∷ []) (grown_named g tables s o)
      (All-cons (NamesEntries tables) node [] (makes.named tables s o) (All-nil (NamesEntries tables))))
  grown_named (swapped xs ys zs cut open_now g) tables s o = grown_named g tables s o

  pub grown_bounds : {nodes : List ExprNode} {es : List Entry} → Growth symbols outputs nodes es → All HasBounds nodes
  grown_bounds nothing = All-nil HasBounds
  grown_bounds (grown {nodes = nodes} {before = before} node xs taken ys tree makes cut longer open_now g) =
      subst (λ ns. All HasBounds ns) (sym longer)
      (All-append HasBounds nodes (node ∷ []) (grown_bounds g) (All-cons HasBounds node [] makes.bounds (All-nil HasBounds)))
  grown_bounds (swapped xs ys zs cut open_now g) = grown_bounds g

length_times : (n : ℕ) (xs : List ℕ) → length (times n xs) ≡ n * length xs
length_times zero xs = omega arith
length_times (suc n) xs = length-append xs (times n xs) ∙ ap (λ k. length xs + k) (length_times n xs) ∙ nonlinear n (length xs)
  where
    nonlinear : (n k : ℕ) → k + n * k ≡ suc n * k
    nonlinear n k = omega arith

-- the number of occurrences, copies counted
pub occurrences_leaves : (e : Expr) → length (occurrences e) ≡ leaves e
occurrences_leaves (symbol s) = refl
occurrences_leaves (sequence e f) = omega (arith, length-append (occurrences e) (occurrences f), occurrences_leaves e, occurrences_leaves f)
occurrences_leaves (union e f) = omega (arith, length-append (occurrences e) (occurrences f), occurrences_leaves e, occurrences_leaves f)
occurrences_leaves (star e) = occurrences_leaves e
occurrences_leaves (plus e) = occurrences_leaves e
occurrences_leaves (optional e) = occurrences_leaves e
occurrences_leaves (marked e y) = occurrences_leaves e
occurrences_leaves (repeated e m n) = length_times n (occurrences e) ∙ ap (λ k. n * k) (occurrences_leaves e)

-- the number of occurrences in the trees of these numbers
pub counted_leaves : (made : List Expr) (roots : List ℕ)
    → length (flat_map (λ root. occurrences (tree_at made root)) roots) ≡ sum_by leaves (map (tree_at made) roots)
counted_leaves made [] = refl
counted_leaves made (root ∷ roots) = omega (
  arith,
  length-append (occurrences (tree_at made root)) (flat_map (λ root. occurrences (tree_at made root)) roots),
  occurrences_leaves (tree_at made root),
  counted_leaves made roots,
  sum_by-cons leaves (tree_at made root) (map (tree_at made) roots),
)
