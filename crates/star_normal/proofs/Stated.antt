-- The labels of the normal form of statements.
use Rattle.std.proofs.Common.{◌≡◌, ◌∙◌, ◌⊎◌, inl, inr, ℕ, zero, suc, ◌+◌, ◌-◌, ◌<◌, ◌≤◌, Bool, true, false, ◌||◌, List, [], ◌∷◌, ◌++◌, length, map, take, get_or, set, flat_map, All, refl, sym, ap, subst, arith, length-append, length-take, append_assoc, append-nil}
use Rattle.std.specs.List.{list_any, AllByRecursion}
use Rattle.std.proofs.lemmas.List.{take_more, take_all, length-map, map-append, get_or-map, get_or_append_left, get_or_default}
use Rattle.std.proofs.lemmas.Bool.{cases_lt}
use Rattle.std.proofs.Math.Seq.{get_or-append_seam}
use Rattle.std.proofs.lemmas.List.Concat.{flat_map-append}
use Rattle.std.proofs.lemmas.List.Elements.{recursion_from_All}
use Rattle.std.proofs.lemmas.List.Sums.{fold-append}
use Rattle.rx_lang.specs.Expression.{Expr, symbol, union}
use Rattle.rx_lang.specs.Tables.{tree_at}
use Rattle.star_normal.specs.declared.node.Node.{Node}
use Rattle.star_normal.specs.declared.node.NodeKind.{NodeKind}
use Rattle.star_normal.specs.declared.node.NodeKind.TheVariants.{Leaf, Seq, Alt}
use Rattle.star_normal.specs.declared.outlines.Outline.{Outline}
use Rattle.star_normal.specs.Trees.{Flags, FlaggedTree, leaf, seq, alt}
use Rattle.star_normal.specs.Normal.{nullable, held, united, union_of, normal, scanned, normal_form}
use Rattle.star_normal.specs.Labels.{Label, leaf_label, seq_label, alt_label, tree_labels, kind_label, label_of}
use Rattle.star_normal.specs.Tables.{flags_of}
use Rattle.star_normal.specs.Outlines.{null_at, AreOutlines}
use Rattle.star_normal.specs.Signs.{no_signs}
use Rattle.star_normal.specs.Tasks.{label}
use Rattle.star_normal.specs.Unions.{AreFronts, scan_node, some_null, top_labels, union_labels, part_labels, scan_labels}
use Rattle.star_normal.proofs.Signed.{flags_none}

or_assoc : (a b c : Bool) → ((a || b) || c) ≡ (a || (b || c))
or_assoc true b c = refl
or_assoc false b c = refl

or_false : (a : Bool) → (a || false) ≡ a
or_false true = refl
or_false false = refl

-- Which unions spell the empty word.

any_push : {A : Type 0} (f : A → Bool) (xs : List A) (x : A) → list_any f (xs ++ x ∷ []) ≡ (list_any f xs || f x)
any_push f [] x = or_false (f x)
any_push f (y ∷ xs) x = ap (λ b. f y || b) (any_push f xs x) ∙ sym (or_assoc (f y) (list_any f xs) (f x))

united_null : (e : Expr) (es : List Expr) → nullable (united e es) ≡ (nullable e || list_any nullable es)
united_null e [] = sym (or_false (nullable e))
united_null e (f ∷ es) = united_null (union e f) es ∙ or_assoc (nullable e) (nullable f) (list_any nullable es)

module _ (ts : List Expr) (n : ℕ) (outlines : List Outline) (a : AreOutlines ts n outlines) where
  abbrev at : ℕ → Expr
  at k = tree_at ts k

  any_null : (roots : List ℕ) → AllByRecursion (λ r. r < n) roots → list_any nullable (map at roots) ≡ some_null outlines roots
  any_null [] h = refl
  any_null (r ∷ roots) h = rw (any_null roots h.1, (a.each r h.0).null) refl

  union_null : (roots : List ℕ) → 1 ≤ length roots → AllByRecursion (λ r. r < n) roots → nullable (union_of (map at roots)) ≡ some_null outlines roots
  union_null [] some h = absurd (omega arith)
  union_null (r ∷ roots) some h = united_null (at r) (map at roots) ∙ any_null (r ∷ roots) h

  all_take : (roots : List ℕ) (k : ℕ) → AllByRecursion (λ r. r < n) roots → AllByRecursion (λ r. r < n) (take k roots)
  all_take roots zero h = tt
  all_take [] (suc k) h = tt
  all_take (r ∷ roots) (suc k) h = (h.0, all_take roots k h.1)

take_map : {A B : Type 0} (f : A → B) (xs : List A) (k : ℕ) → take k (map f xs) ≡ map f (take k xs)
take_map f xs zero = refl
take_map f [] (suc k) = refl
take_map f (x ∷ xs) (suc k) = ap (λ l. f x ∷ l) (take_map f xs k)

-- The fronts of the statements.

pub fronts_next : (outlines : List Outline) (roots : List ℕ) (i d : ℕ) (fronts : List Bool) (b : Bool) → i < length roots
    → b ≡ (some_null outlines (take i roots) || null_at outlines (get_or roots i d)) → AreFronts outlines roots i fronts
    → AreFronts outlines roots (i + 1) (fronts ++ b ∷ []) × (b ≡ some_null outlines (take (i + 1) roots))
fronts_next outlines roots i d fronts b lt e f =
    let now : some_null outlines (take (i + 1) roots) ≡ b = ap (some_null outlines) (take_more roots i d lt) ∙ any_push (λ r. null_at outlines r) (take i roots) (get_or roots i d) ∙ sym e in (
      record {
        size = let s = f.size in omega (arith, s, length-append fronts (b ∷ []));
        each = λ k h. by k h (cases_lt k i);
      },
      sym now,
    )
  where
    by : (k : ℕ) → k < i + 1 → (k < i) ⊎ (i ≤ k) → get_or (fronts ++ b ∷ []) k false ≡ some_null outlines (take (suc k) roots)
    by k h (inl l) = get_or_append_left fronts (b ∷ []) false k (let s = f.size in omega (arith, s, l)) ∙ f.each k l
    by k h (inr le) =
        let same : k ≡ length fronts = let s = f.size in omega (arith, s, h, le) in
        let next : i + 1 ≡ suc k = omega arith in
        ap (λ j. get_or (fronts ++ b ∷ []) j false) same ∙ get_or-append_seam fronts b [] false
        ∙ sym (ap (some_null outlines) (take_more roots i d lt) ∙ any_push (λ r. null_at outlines r) (take i roots) (get_or roots i d) ∙ sym e)
        ∙ ap (λ j. some_null outlines (take j roots)) next

-- The labels of unions.

label_none : (b : Bool) → label_of (label (Alt 0 0) no_signs b) ≡ alt_label (held b)
label_none b = ap alt_label (flags_none (held b))

module _ (ts : List Expr) (n : ℕ) (outlines : List Outline) (a : AreOutlines ts n outlines) (roots : List ℕ) (within : All (λ r. r < n) roots) where
  pub alternative_next : (j : ℕ) (d : Bool) (fronts : List Bool) (done : List Node) (all : List Label) → 1 ≤ j → j < length roots → AreFronts outlines roots (length roots) fronts
      → map label_of done ++ union_labels (map (tree_at ts) roots) j ≡ all
      → map label_of (done ++ label (Alt 0 0) no_signs (get_or fronts j d) ∷ []) ++ union_labels (map (tree_at ts) roots) (j - 1) ≡ all
  alternative_next zero d fronts done all some lt f h = absurd (omega arith)
  alternative_next (suc j) d fronts done all some lt f h =
      let less : suc j - 1 ≡ j = omega arith in
      let null : get_or fronts (suc j) d ≡ nullable (union_of (take (suc (suc j)) (map (tree_at ts) roots))) =
      get_or_default fronts (suc j) d false (let s = f.size in omega (arith, s, lt))
      ∙ f.each (suc j) lt
      ∙ sym (ap (λ l. nullable (union_of l)) (take_map (tree_at ts) roots (suc (suc j)))
      ∙ union_null ts n outlines a (take (suc (suc j)) roots) (omega (arith, lt, length-take (suc (suc j)) roots)) (all_take ts n outlines a roots (suc (suc j)) (recursion_from_All (λ r. r < n) roots within))) in
      rw (less, map-append label_of done (label (Alt 0 0) no_signs (get_or fronts (suc j) d) ∷ []))
      (append_assoc (map label_of done) (label_of (label (Alt 0 0) no_signs (get_or fronts (suc j) d)) ∷ []) (union_labels (map (tree_at ts) roots) j)
      ∙ ap (λ x. map label_of done ++ x ∷ union_labels (map (tree_at ts) roots) j) (label_none (get_or fronts (suc j) d) ∙ ap (λ b. alt_label (held b)) null)
      ∙ h)

abbrev pub put_labels : Expr → List Label
put_labels e = tree_labels (normal false e)

union_push : (xs : List Expr) (x : Expr) → 1 ≤ length xs → union_of (xs ++ x ∷ []) ≡ union (union_of xs) x
union_push [] x some = absurd (omega arith)
union_push (e ∷ xs) x some = fold-append (λ f g. union f g) e xs (x ∷ [])

-- one expression more
front_more : (ls : List Label) (all front : List Expr) (x : Expr) → all ≡ front ++ x ∷ [] → 1 ≤ length front
    → ls ++ flat_map put_labels front ≡ tree_labels (normal false (union_of front))
    → alt_label (held (nullable (union_of all))) ∷ (ls ++ flat_map put_labels all) ≡ tree_labels (normal false (union_of all))
front_more ls all front x e size h =
    rw (e, union_push front x size, flat_map-append put_labels front (x ∷ []), append-nil (put_labels x))
    (ap (λ l. alt_label (held (nullable (union_of front) || nullable x)) ∷ l)
    (sym (append_assoc ls (flat_map put_labels front) (put_labels x)) ∙ ap (λ l. l ++ put_labels x) h))

front_labels : (es : List Expr) (j : ℕ) → j < length es → union_labels es j ++ flat_map put_labels (take (suc j) es) ≡ tree_labels (normal false (union_of (take (suc j) es)))
front_labels [] j lt = absurd (omega arith)
front_labels (e ∷ es) zero lt = append-nil (put_labels e)
front_labels (e ∷ es) (suc j) lt =
    let next : suc j + 1 ≡ suc (suc j) = omega arith in
    let x : Expr = get_or (e ∷ es) (suc j) (symbol 0) in
    front_more (union_labels (e ∷ es) j) (take (suc (suc j)) (e ∷ es)) (take (suc j) (e ∷ es)) x
    (ap (λ k. take k (e ∷ es)) (sym next) ∙ take_more (e ∷ es) (suc j) (symbol 0) lt)
    (omega (arith, lt, length-take (suc j) (e ∷ es))) (front_labels (e ∷ es) j (omega arith))

pub all_labels : (es : List Expr) → union_labels es (length es - 1) ++ flat_map put_labels es ≡ part_labels es
all_labels [] = refl
all_labels (e ∷ es) =
    let less : length (e ∷ es) - 1 ≡ length es = omega arith in
    let all : take (suc (length es)) (e ∷ es) ≡ e ∷ es = take_all (suc (length es)) (e ∷ es) (omega arith) in
    ap (λ k. union_labels (e ∷ es) k ++ flat_map put_labels (e ∷ es)) less
    ∙ subst (λ l. union_labels (e ∷ es) (length es) ++ flat_map put_labels l ≡ tree_labels (normal false (union_of l))) all (front_labels (e ∷ es) (length es) (omega arith))

-- The flag of the scan node.

abbrev scan_flags : Flags → Flags
scan_flags f = record { loops = f.loops; eps = f.eps; scan = true; marks = f.marks; eps_marks = f.eps_marks }

abbrev scan_label : Label → Label
scan_label (leaf_label f s) = leaf_label (scan_flags f) s
scan_label (seq_label f) = seq_label (scan_flags f)
scan_label (alt_label f) = alt_label (scan_flags f)

node_scans : (x : Node) (kind : NodeKind) → kind_label (flags_of (scan_node x)) kind ≡ scan_label (kind_label (flags_of x) kind)
node_scans x (Leaf s) = refl
node_scans x (Seq l r) = refl
node_scans x (Alt l r) = refl

-- the first label of a tree, and the others
record Headed (t : FlaggedTree) : Type 0 where
  first : Label
  rest : List Label
  plain : tree_labels t ≡ first ∷ rest
  scan : tree_labels (scanned t) ≡ scan_label first ∷ rest

headed : (t : FlaggedTree) → Headed t
headed (leaf f s) = record { first = leaf_label f s; rest = []; plain = refl; scan = refl }
headed (seq f l r) = record { first = seq_label f; rest = tree_labels l ++ tree_labels r; plain = refl; scan = refl }
headed (alt f l r) = record { first = alt_label f; rest = tree_labels l ++ tree_labels r; plain = refl; scan = refl }

map_set : {A B : Type 0} (f : A → B) (xs : List A) (k : ℕ) (y : A) → map f (set xs k y) ≡ set (map f xs) k (f y)
map_set f [] k y = refl
map_set f (x ∷ xs) zero y = refl
map_set f (x ∷ xs) (suc k) y = ap (λ l. f x ∷ l) (map_set f xs k y)

set_seam : {A : Type 0} (xs : List A) (x y : A) (ys : List A) → set (xs ++ x ∷ ys) (length xs) y ≡ xs ++ y ∷ ys
set_seam [] x y ys = refl
set_seam (z ∷ xs) x y ys = ap (λ l. z ∷ l) (set_seam xs x y ys)

pub scan_set : (es : List Expr) (old now : List Node) (x : Node) → length old < length now → get_or now (length old) x ≡ x
    → map label_of now ≡ map label_of old ++ part_labels es → map label_of (set now (length old) (scan_node x)) ≡ map label_of old ++ scan_labels es
scan_set [] old now x lt at h = absurd (omega (arith, lt, ap length h, length-map now label_of, length-append (map label_of old) [], length-map old label_of))
scan_set (e ∷ es) old now x lt at h =
    let t : Headed (normal false (united e es)) = headed (normal false (united e es)) in
    let size : length (map label_of old) ≡ length old = length-map old label_of in
    let whole : map label_of now ≡ map label_of old ++ t.first ∷ t.rest = h ∙ ap (λ l. map label_of old ++ l) t.plain in
    let here : label_of x ≡ t.first =
    ap label_of (sym at) ∙ sym (get_or-map label_of now (length old) x (label_of x) lt)
    ∙ ap (λ l. get_or l (length old) (label_of x)) whole ∙ ap (λ k. get_or (map label_of old ++ t.first ∷ t.rest) k (label_of x)) (sym size)
    ∙ get_or-append_seam (map label_of old) t.first t.rest (label_of x) in
    map_set label_of now (length old) (scan_node x)
    ∙ ap (λ l. set l (length old) (label_of (scan_node x))) whole
    ∙ ap (λ k. set (map label_of old ++ t.first ∷ t.rest) k (label_of (scan_node x))) (sym size)
    ∙ set_seam (map label_of old) t.first (label_of (scan_node x)) t.rest
    ∙ ap (λ y. map label_of old ++ y ∷ t.rest) (node_scans x x.kind ∙ ap scan_label here)
    ∙ ap (λ l. map label_of old ++ l) (sym t.scan)

pub scan_none : (es : List Expr) (old now : List Node) → length now ≤ length old → map label_of now ≡ map label_of old ++ part_labels es
    → map label_of now ≡ map label_of old ++ scan_labels es
scan_none [] old now le h = h
scan_none (e ∷ es) old now le h =
    let t : Headed (normal false (united e es)) = headed (normal false (united e es)) in
    absurd (omega (arith, le, ap length h, ap length t.plain, length-map now label_of, length-map old label_of, length-append (map label_of old) (part_labels (e ∷ es))))

-- All labels.

pub form_is : (ts : List Expr) (n : ℕ) (outlines : List Outline) → AreOutlines ts n outlines → (es ss : List ℕ) → All (λ r. r < n) es → All (λ r. r < n) ss → 1 ≤ length (es ++ ss)
    → (map label_of (top_labels outlines es ss) ++ part_labels (map (tree_at ts) es)) ++ scan_labels (map (tree_at ts) ss)
    ≡ tree_labels (normal_form (map (tree_at ts) es) (map (tree_at ts) ss))
form_is ts n outlines a [] [] we ws some = absurd (omega arith)
form_is ts n outlines a [] (s ∷ ss) we ws some = refl
form_is ts n outlines a (e ∷ es) [] we ws some = append-nil (part_labels (map (tree_at ts) (e ∷ es)))
form_is ts n outlines a (e ∷ es) (s ∷ ss) we ws some =
    let first = union_null ts n outlines a (e ∷ es) (omega arith) (recursion_from_All (λ r. r < n) (e ∷ es) we) in
    let second = union_null ts n outlines a (s ∷ ss) (omega arith) (recursion_from_All (λ r. r < n) (s ∷ ss) ws) in
    ap (λ x. x ∷ (part_labels (map (tree_at ts) (e ∷ es)) ++ scan_labels (map (tree_at ts) (s ∷ ss))))
    (label_none (some_null outlines (e ∷ es) || some_null outlines (s ∷ ss)) ∙ ap (λ b. alt_label (held (b || some_null outlines (s ∷ ss)))) (sym first)
    ∙ ap (λ b. alt_label (held (nullable (union_of (map (tree_at ts) (e ∷ es))) || b))) (sym second))

-- The labels of all statements, one after another.

module _ (ts : List Expr) (roots : List ℕ) where
  pub put_next : (i d : ℕ) (done start : List Label) → i < length roots → done ≡ start ++ flat_map put_labels (map (tree_at ts) (take i roots))
      → done ++ put_labels (tree_at ts (get_or roots i d)) ≡ start ++ flat_map put_labels (map (tree_at ts) (take (i + 1) roots))
  put_next i d done start lt h =
      rw (h, take_more roots i d lt, map-append (tree_at ts) (take i roots) (get_or roots i d ∷ []), flat_map-append put_labels (map (tree_at ts) (take i roots)) (tree_at ts (get_or roots i d) ∷ []), append-nil (put_labels (tree_at ts (get_or roots i d))))
      (append_assoc start (flat_map put_labels (map (tree_at ts) (take i roots))) (put_labels (tree_at ts (get_or roots i d))))

  pub all_put : (i : ℕ) (start old : List Label) → length roots ≤ i → start ≡ old ++ union_labels (map (tree_at ts) roots) (length roots - 1)
      → start ++ flat_map put_labels (map (tree_at ts) (take i roots)) ≡ old ++ part_labels (map (tree_at ts) roots)
  all_put i start old le h =
      rw (h, take_all i roots le)
      (append_assoc old (union_labels (map (tree_at ts) roots) (length roots - 1)) (flat_map put_labels (map (tree_at ts) roots))
      ∙ ap (λ l. old ++ l) (ap (λ k. union_labels (map (tree_at ts) roots) (k - 1) ++ flat_map put_labels (map (tree_at ts) roots)) (sym (length-map roots (tree_at ts))) ∙ all_labels (map (tree_at ts) roots)))

pub scan_at : (es : List Expr) (old now : List Node) (x : Node) (k : ℕ) → k ≡ length old → k < length now → x ≡ get_or now k x
    → map label_of now ≡ map label_of old ++ part_labels es → map label_of (set now k (scan_node x)) ≡ map label_of old ++ scan_labels es
scan_at es old now x k e lt read h =
    ap (λ j. map label_of (set now j (scan_node x))) e
    ∙ scan_set es old now x (omega (arith, e, lt)) (ap (λ j. get_or now j x) (sym e) ∙ sym read) h

pub fronts_step : (outlines : List Outline) (roots : List ℕ) (i d : ℕ) (fronts : List Bool) (old b : Bool) → b ≡ (old || null_at outlines (get_or roots i d)) → i < length roots
    → AreFronts outlines roots i fronts → old ≡ some_null outlines (take i roots)
    → AreFronts outlines roots (i + 1) (fronts ++ b ∷ []) × (b ≡ some_null outlines (take (i + 1) roots))
fronts_step outlines roots i d fronts old b e lt f o = fronts_next outlines roots i d fronts b lt (e ∙ ap (λ a. a || null_at outlines (get_or roots i d)) o) f
