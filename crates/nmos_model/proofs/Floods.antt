-- A node that takes a class keeps a flood going.
use Rattle.std.proofs.Common.{◌≡◌, ◌≢◌, ◌⊎◌, inl, inr, ℕ, ◌<◌, ◌≤◌, arith, refl, sym, subst, ◌∙◌, Bool, true, List, [], ◌∷◌, ◌++◌, length, Option, None, Some, slice_get}
use Rattle.std.proofs.Math.ListN.{set}
use Rattle.std.proofs.lemmas.List.{get_or-set_same, get_or-set_other, length-set, length-append}
use Rattle.nmos_model.specs.Classes.{Linked, IsGraph, class_at}
use Rattle.nmos_model.specs.Flooding.{IsFlooding, IsOpen, Takes, work_left}
use Rattle.geom.specs.Rows.{Among}
use Rattle.nmos_model.proofs.Paths.{longer}
use Rattle.nmos_model.proofs.Common.{among_either, among_before, among_last, fewer_left, classed, same_or_apart, below_or_above, inside}

module _ (nodes : ℕ) (is_node : ℕ → Bool) (links : ℕ → List (Option ℕ)) (place : ℕ) (numbers : List (Option ℕ)) (firsts : List ℕ) where
  -- Nodes wait no more whose links all lead to their class.
  pub followed : (before after : List ℕ)
      → ((a b class : ℕ) → class_at numbers a ≡ Some class → Among before a → Linked links a b → Among after a ⊎ (class_at numbers b ≡ Some class))
      → IsFlooding nodes is_node links place numbers firsts before → IsFlooding nodes is_node links place numbers firsts after
  followed before after all flooded = record {
    size = flooded.size;
    few = flooded.few;
    node = flooded.node;
    below = flooded.below;
    rooted = flooded.rooted;
    lowest = flooded.lowest;
    first = flooded.first;
    early = flooded.early;
    ascending = flooded.ascending;
    visited = flooded.visited;
    closed = λ a b class e l. elim (flooded.closed a b class e l) [ inl w ↦ all a b class e w l | inr e2 ↦ inr e2 ];
  }

module _ (nodes : ℕ) (is_node : ℕ → Bool) (links : ℕ → List (Option ℕ)) (graph : IsGraph nodes is_node links)
    (place : ℕ) (numbers : List (Option ℕ)) (firsts waiting : List ℕ) (node class next : ℕ)
    (flooded : IsFlooding nodes is_node links place numbers firsts (node ∷ waiting))
    (opened : IsOpen class numbers firsts (node ∷ waiting))
    (link : Linked links node next) where
  pub node_class : class_at numbers node ≡ Some class
  node_class = opened.alike node (inl refl)

  pub next_is_node : is_node next ≡ true
  next_is_node = graph.further node next (flooded.node node class node_class) link

  pub next_within : next < length numbers
  next_within = subst (λ n. next < n) (sym flooded.size) (graph.within node next (flooded.node node class node_class) link)

  -- where the node had a class, that was this one
  pub had_class : (other : ℕ) → class_at numbers next ≡ Some other → class_at numbers next ≡ Some class
  had_class other e =
      elim (flooded.closed next node other e (graph.back node next (flooded.node node class node_class) link)) [
        | inl w ↦ opened.alike next w
        | inr e2 ↦ e ∙ sym e2 ∙ node_class
      ]

  module _ (free : class_at numbers next ≡ None) where
    abbrev pub numbers_now : List (Option ℕ)
    numbers_now = set numbers next (Some class)

    now_class : class_at numbers_now next ≡ Some class
    now_class = get_or-set_same numbers next (Some class) None next_within

    not_next : (a c : ℕ) → class_at numbers a ≡ Some c → a ≢ next
    not_next a c e same = let h = subst (λ m. class_at numbers m ≡ Some c) same e in absurd (cc)

    kept : (a c : ℕ) → class_at numbers a ≡ Some c → class_at numbers_now a ≡ Some c
    kept a c e = get_or-set_other numbers next a (Some class) None (not_next a c e) ∙ e

    taken : (a c : ℕ) → class_at numbers_now a ≡ Some c → ((a ≡ next) × (c ≡ class)) ⊎ (class_at numbers a ≡ Some c)
    taken a c e =
        elim (same_or_apart a next) [
          | inl same ↦ let h = subst (λ m. class_at numbers_now m ≡ Some c) same e in inl (same, inside c class (sym h ∙ now_class))
          | inr ne ↦ inr (sym (get_or-set_other numbers next a (Some class) None ne) ∙ e)
        ]

    -- the flood goes on when the node has taken the class and waits
    pub takes_flooded : IsFlooding nodes is_node links place numbers_now firsts (node ∷ (waiting ++ next ∷ []))
    takes_flooded = record {
      size = length-set numbers next (Some class) ∙ flooded.size;
      few = flooded.few;
      node = λ a c e. elim (taken a c e) [ inl t ↦ rw t.0 next_is_node | inr h ↦ flooded.node a c h ];
      below = λ a c e. elim (taken a c e) [ inl t ↦ rw t.1 opened.some | inr h ↦ flooded.below a c h ];
      rooted = λ a c f e ef.
          elim (taken a c e) [
            | inl t ↦ rw t.0 (longer links f node next (flooded.rooted node class f node_class (subst (λ m. slice_get firsts m ≡ Some f) t.1 ef)) link)
            | inr h ↦ flooded.rooted a c f h ef
          ];
      lowest = λ a c f e ef. elim (taken a c e) [ inl t ↦ rw t.0 (late c f ef) | inr h ↦ flooded.lowest a c f h ef ];
      first = λ c f ef. kept f c (flooded.first c f ef);
      early = flooded.early;
      ascending = flooded.ascending;
      visited = λ a lt n none. let had = classed (class_at numbers a) (flooded.visited a lt n) in
          let h = kept a had.0 had.1 in absurd (cc);
      closed = λ a b c e l.
          elim (taken a c e) [
            | inl t ↦ inl (inr (rw t.0 (among_last waiting next)))
            | inr h ↦
                elim (flooded.closed a b c h l) [
                  | inl w ↦ inl (more a w)
                  | inr e2 ↦ inr (kept b c e2)
                ]
          ];
    }
      where
        late : (c f : ℕ) → slice_get firsts c ≡ Some f → f ≤ next
        late c f ef =
            let lt = flooded.early c f ef in
            elim (below_or_above place next) [ inl le ↦ omega arith | inr below ↦ absurd (flooded.visited next below next_is_node free) ]

        more : (a : ℕ) → Among (node ∷ waiting) a → Among (node ∷ (waiting ++ next ∷ [])) a
        more a (inl e) = inl e
        more a (inr w) = inr (among_before waiting next a w)

    pub takes_opened : IsOpen class numbers_now firsts (node ∷ (waiting ++ next ∷ []))
    takes_opened = record { some = opened.some; alike = alike }
      where
        later : (a : ℕ) → (next ≡ a) ⊎ Among waiting a → class_at numbers_now a ≡ Some class
        later a (inl e) = subst (λ m. class_at numbers_now m ≡ Some class) e now_class
        later a (inr w) = kept a class (opened.alike a (inr w))

        alike : (a : ℕ) → Among (node ∷ (waiting ++ next ∷ [])) a → class_at numbers_now a ≡ Some class
        alike a (inl e) = kept a class (opened.alike a (inl e))
        alike a (inr w) = later a (among_either waiting next a w)

    pub takes_less : work_left numbers_now (waiting ++ next ∷ []) < work_left numbers waiting
    takes_less = let h = fewer_left numbers next class free next_within in let k = length-append waiting (next ∷ []) in omega arith

  -- what holds after the node was asked to take the class
  pub record AfterTaking (numbers_new : List (Option ℕ)) (waiting_new : List ℕ) : Type 0 where
    pub still_flooded : IsFlooding nodes is_node links place numbers_new firsts (node ∷ waiting_new)
    pub still_opened : IsOpen class numbers_new firsts (node ∷ waiting_new)
    pub has_class : class_at numbers_new next ≡ Some class
    pub keeps : (a c : ℕ) → class_at numbers a ≡ Some c → class_at numbers_new a ≡ Some c
    pub less : work_left numbers_new waiting_new ≤ work_left numbers waiting

  pub after_taking : (numbers_new : List (Option ℕ)) (waiting_new : List ℕ) → Takes next class numbers waiting numbers_new waiting_new
      → AfterTaking numbers_new waiting_new
  after_taking numbers_new waiting_new takes = by_class (class_at numbers next) refl
    where
      stays : (other : ℕ) → class_at numbers next ≡ Some other → AfterTaking numbers_new waiting_new
      stays other e =
          let same = takes.had other e in
          rw (same.0, same.1) (record {
            still_flooded = flooded;
            still_opened = opened;
            has_class = had_class other e;
            keeps = λ a c h. h;
            less = omega arith;
          })

      moves : class_at numbers next ≡ None → AfterTaking numbers_new waiting_new
      moves e =
          let now = takes.took e in
          rw (now.0, now.1) (record {
            still_flooded = takes_flooded e;
            still_opened = takes_opened e;
            has_class = now_class e;
            keeps = kept e;
            less = let h = takes_less e in omega arith;
          })

      by_class : (o : Option ℕ) → class_at numbers next ≡ o → AfterTaking numbers_new waiting_new
      by_class None e = moves e
      by_class (Some other) e = stays other e
