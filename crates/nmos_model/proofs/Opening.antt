-- A flood begins at a node without a class, and ends when no node waits.
use Rattle.std.proofs.Common.{◌≡◌, ◌≢◌, ◌⊎◌, inl, inr, ℕ, zero, suc, ◌<◌, ◌+◌, ap, arith, refl, sym, subst, ◌∙◌, Bool, true, false, List, [], ◌∷◌, ◌++◌, length, Option, None, Some, slice_get, slice_index_or, get_or}
use Rattle.std.proofs.Math.Seq.{get_or-append_seam}
use Rattle.std.specs.Option.{is_some}
use Rattle.std.proofs.Math.ListN.{set}
use Rattle.std.proofs.lemmas.List.{get_or-set_same, get_or-set_other, length-set, length-append}
use Rattle.std.proofs.lemmas.Option.{slice_get_within, slice_get-get_or}
use Rattle.nmos_model.specs.Classes.{Reaches, IsGraph, IsClassing, class_at}
use Rattle.nmos_model.specs.Classes.Reaches.{here, step}
use Rattle.nmos_model.specs.Flooding.{IsFlooding, IsOpen, behind_first}
use Rattle.nmos_model.proofs.Paths.{joined, back}
use Rattle.nmos_model.proofs.Common.{classed, same_or_apart, below_or_above, inside}

-- an entry of a list with one more is one of the list, or the last
pub last_or_before : (xs : List ℕ) (x at y : ℕ) → slice_get (xs ++ x ∷ []) at ≡ Some y → (slice_get xs at ≡ Some y) ⊎ ((at ≡ length xs) × (y ≡ x))
last_or_before [] x zero y e = inr (refl, inside y x (sym e))
last_or_before [] x (suc at) y e = absurd (cc)
last_or_before (z ∷ xs) x zero y e = inl e
last_or_before (z ∷ xs) x (suc at) y e =
    elim (last_or_before xs x at y e) [ inl h ↦ inl h | inr h ↦ inr (ap suc h.0, h.1) ]

pub behind_last : (firsts : List ℕ) (number : ℕ) → behind_first (firsts ++ number ∷ []) (length firsts) ≡ number + 1
behind_last firsts number = ap (λ m. m + 1) (get_or-append_seam firsts number [] 0)

-- what was read at the number is no class
pub free_at : (numbers : List (Option ℕ)) (number : ℕ) (read : Option ℕ) → read ≡ get_or numbers number read → is_some read ≡ false
    → class_at numbers number ≡ None
free_at numbers number None e none = sym e
free_at numbers number (Some c) e none = absurd (cc)

-- where no number has a class, no flood has begun
pub unbegun : (nodes : ℕ) (is_node : ℕ → Bool) (links : ℕ → List (Option ℕ)) (numbers : List (Option ℕ)) → length numbers ≡ nodes
    → ((a : ℕ) → class_at numbers a ≡ None) → IsFlooding nodes is_node links 0 numbers [] []
unbegun nodes is_node links numbers size none = record {
  size = size;
  few = omega arith;
  node = λ a c e. absurd (unclassed a c e);
  below = λ a c e. absurd (unclassed a c e);
  rooted = λ a c f e. absurd (unclassed a c e);
  lowest = λ a c f e. absurd (unclassed a c e);
  first = λ c f e. absurd (no_first c f e);
  early = λ c f e. absurd (no_first c f e);
  ascending = λ c later f g e. absurd (no_first c f e);
  visited = λ a lt. absurd (omega arith);
  closed = λ a b c e. absurd (unclassed a c e);
}
  where
    unclassed : (a c : ℕ) → class_at numbers a ≡ Some c → ⊥
    unclassed a c e = let h = none a in cc

    no_first : (c f : ℕ) → slice_get [] c ≡ Some f → ⊥
    no_first zero f e = cc
    no_first (suc c) f e = cc

module _ (nodes : ℕ) (is_node : ℕ → Bool) (links : ℕ → List (Option ℕ)) (number : ℕ) (numbers : List (Option ℕ)) (firsts : List ℕ)
    (flooded : IsFlooding nodes is_node links number numbers firsts []) where
  module _ (node : is_node number ≡ true) (free : class_at numbers number ≡ None) (within : number < nodes) where
    abbrev pub numbers_now : List (Option ℕ)
    numbers_now = set numbers number (Some (length firsts))

    abbrev pub firsts_now : List ℕ
    firsts_now = firsts ++ number ∷ []

    now_class : class_at numbers_now number ≡ Some (length firsts)
    now_class = get_or-set_same numbers number (Some (length firsts)) None (subst (λ n. number < n) (sym flooded.size) within)

    not_number : (a c : ℕ) → class_at numbers a ≡ Some c → a ≢ number
    not_number a c e same = let h = subst (λ m. class_at numbers m ≡ Some c) same e in absurd (cc)

    kept : (a c : ℕ) → class_at numbers a ≡ Some c → class_at numbers_now a ≡ Some c
    kept a c e = get_or-set_other numbers number a (Some (length firsts)) None (not_number a c e) ∙ e

    taken : (a c : ℕ) → class_at numbers_now a ≡ Some c → ((a ≡ number) × (c ≡ length firsts)) ⊎ (class_at numbers a ≡ Some c)
    taken a c e =
        elim (same_or_apart a number) [
          | inl same ↦ let h = subst (λ m. class_at numbers_now m ≡ Some c) same e in inl (same, inside c (length firsts) (sym h ∙ now_class))
          | inr ne ↦ inr (sym (get_or-set_other numbers number a (Some (length firsts)) None ne) ∙ e)
        ]

    -- an entry of the first nodes at the number of a class from before
    old_first : (c f : ℕ) → c < length firsts → slice_get firsts_now c ≡ Some f → slice_get firsts c ≡ Some f
    old_first c f lt e = elim (last_or_before firsts number c f e) [ inl h ↦ h | inr h ↦ let same = h.0 in absurd (omega arith) ]

    new_first : (f : ℕ) → slice_get firsts_now (length firsts) ≡ Some f → f ≡ number
    new_first f e =
        elim (last_or_before firsts number (length firsts) f e) [
          | inl h ↦ let lt = slice_get_within firsts (length firsts) f h in absurd (omega arith)
          | inr h ↦ h.1
        ]

    few_now : length firsts_now ≡ length firsts + 1
    few_now = length-append firsts (number ∷ [])

    pub opened : IsFlooding nodes is_node links (number + 1) numbers_now firsts_now (number ∷ [])
    opened = record {
      size = length-set numbers number (Some (length firsts)) ∙ flooded.size;
      few = let h = flooded.few in let k = few_now in omega arith;
      node = λ a c e. elim (taken a c e) [ inl t ↦ rw t.0 node | inr h ↦ flooded.node a c h ];
      below = λ a c e. elim (taken a c e) [ inl t ↦ let same = t.1 in let k = few_now in omega arith | inr h ↦ let lt = flooded.below a c h in let k = few_now in omega arith ];
      rooted = λ a c f e ef.
          elim (taken a c e) [
            | inl t ↦ rw (t.0, new_first f (subst (λ m. slice_get firsts_now m ≡ Some f) t.1 ef)) (here number)
            | inr h ↦ flooded.rooted a c f h (old_first c f (flooded.below a c h) ef)
          ];
      lowest = λ a c f e ef.
          elim (taken a c e) [
            | inl t ↦ let same = new_first f (subst (λ m. slice_get firsts_now m ≡ Some f) t.1 ef) in let same_a = t.0 in omega arith
            | inr h ↦ flooded.lowest a c f h (old_first c f (flooded.below a c h) ef)
          ];
      first = λ c f ef.
          elim (last_or_before firsts number c f ef) [
            | inl h ↦ kept f c (flooded.first c f h)
            | inr h ↦ rw (h.0, h.1) now_class
          ];
      early = λ c f ef.
          elim (last_or_before firsts number c f ef) [
            | inl h ↦ let lt = flooded.early c f h in omega arith
            | inr h ↦ let same = h.1 in omega arith
          ];
      ascending = λ c later f g ef eg lt.
          elim (last_or_before firsts number later g eg) [
            | inl h ↦ flooded.ascending c later f g (old_first c f (earlier c later g h lt) ef) h lt
            | inr h ↦ let same = h.1 in let last = h.0 in
                let early = flooded.early c f (old_first c f (omega arith) ef) in omega arith
          ];
      visited = λ a lt n none. elim (below_or_above number a) [
        | inl above ↦ let same : a ≡ number = omega arith in
            let h = subst (λ m. class_at numbers_now m ≡ None) same none in let k = now_class in absurd (cc)
        | inr below ↦ let had = classed (class_at numbers a) (flooded.visited a below n) in
            let h = kept a had.0 had.1 in absurd (cc)
      ];
      closed = λ a b c e l.
          elim (taken a c e) [
            | inl t ↦ inl (inl (sym t.0))
            | inr h ↦ elim (flooded.closed a b c h l) [ inl w ↦ elim w [ ] | inr e2 ↦ inr (kept b c e2) ]
          ];
    }
      where
        earlier : (c later g : ℕ) → slice_get firsts later ≡ Some g → c < later → c < length firsts
        earlier c later g h lt = let w = slice_get_within firsts later g h in omega arith

    pub is_open : IsOpen (length firsts) numbers_now firsts_now (number ∷ [])
    is_open = record {
      some = let k = few_now in omega arith;
      alike = λ a w. elim w [ inl same ↦ subst (λ m. class_at numbers_now m ≡ Some (length firsts)) same now_class | inr none ↦ elim none [ ] ];
    }

-- A flood that has visited all numbers gives the classes.
module _ (nodes : ℕ) (is_node : ℕ → Bool) (links : ℕ → List (Option ℕ)) (graph : IsGraph nodes is_node links)
    (numbers : List (Option ℕ)) (firsts : List ℕ) (flooded : IsFlooding nodes is_node links nodes numbers firsts []) where
  first_of : (c : ℕ) → c < length firsts → (f : ℕ) × (slice_get firsts c ≡ Some f)
  first_of c lt = (slice_index_or firsts c 0, slice_get-get_or firsts c 0 lt)

  along : (a b c : ℕ) → class_at numbers a ≡ Some c → Reaches links a b → class_at numbers b ≡ Some c
  along _ _ c e (here a) = e
  along _ _ c e (step a d b l p) = elim (flooded.closed a d c e l) [ inl w ↦ elim w [ ] | inr e2 ↦ along d b c e2 p ]

  pub classified : IsClassing nodes is_node links (record { numbers = numbers; firsts = firsts })
  classified = record {
    size = flooded.size;
    few = flooded.few;
    some = λ a lt n.
        let had = classed (class_at numbers a) (flooded.visited a lt n) in
        (had.0, had.1, flooded.below a had.0 had.1);
    none = λ a other. no_class a other (class_at numbers a) refl;
    one = λ a b c e. (
      λ eb.
          let f = first_of c (flooded.below a c e) in
          joined links a f.0 b (back links nodes is_node graph f.0 a (flooded.node f.0 c (flooded.first c f.0 f.1)) (flooded.rooted a c f.0 e f.1))
          (flooded.rooted b c f.0 eb f.1),
      λ p. along a b c e p,
    );
    first = flooded.first;
    lowest = λ c a b ea eb. flooded.lowest b c a eb ea;
    ascending = λ c later a b ea eb lt. flooded.ascending c later a b ea eb lt;
  }
    where
      no_class : (a : ℕ) → is_node a ≡ false → (o : Option ℕ) → class_at numbers a ≡ o → class_at numbers a ≡ None
      no_class a other None e = e
      no_class a other (Some c) e = let yes = flooded.node a c e in absurd (cc)
