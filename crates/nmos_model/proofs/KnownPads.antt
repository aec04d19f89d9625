-- The map and the set of known pads tell whether a pad clashes with one of them.
use Rattle.std.proofs.Common.{◌≡◌, ◌≢◌, ◌⊎◌, inl, inr, ℕ, ◌==◌, Bool, true, false, ◌||◌, cond, eq-eqb, if◌then◌else◌, IsTrue, List, [], ◌∷◌, ◌++◌, Option, Some, None, refl, sym, ap, ap₂, ◌∙◌, subst, arith}
use Rattle.std.specs.Ordering.{is_eq, nat_cmp}
use Rattle.std.specs.List.{list_any}
use Rattle.std.specs.BTreeMap.{BTreeMap, get}
use Rattle.std.specs.BTreeSet.{BTreeSet, contains}
use Rattle.std.proofs.lemmas.List.Folds.{list_any-append}
use Rattle.std.proofs.lemmas.Bool.{eqb-true, eqb-false, false≢true}
use Rattle.geom.specs.Rows.{Among}
use Rattle.rx_text.specs.Role.{NamedRole}
use Rattle.switch_net.specs.NameKeys.{NameKey, bytes_of, compare_keys, has_key}
use Rattle.switch_net.specs.SeenPads.{HasNets}
use Rattle.switch_net.specs.Validity.{role_number}
use Rattle.switch_net.specs.declared.network.Net.{Net}
use Rattle.switch_net.specs.declared.network.Pad.{Pad}
use Rattle.nmos_model.specs.KnownPads.{net_of_key, HasNames, IsAdded, HasClash}
use Rattle.nmos_model.proofs.Matching.{any_found, none_passes}
use Rattle.nmos_model.proofs.SameNames.{one_name, two_names}

pub same_net : (a b : Net) → a.0 ≡ b.0 → a ≡ b
same_net a b e = let net_of : ℕ → Net = λ n. record { 0 = n } in ap net_of e

same_pad : (a b : Pad) → a.name ≡ b.name → a.net.0 ≡ b.net.0 → a ≡ b
same_pad a b e f = let pad_of : NamedRole → ℕ → Pad = λ name n. record { name = name; net = record { 0 = n } } in ap₂ pad_of e f

-- ---- pads by key

-- a net that the key has is that of a pad with the key
abbrev HasPad : List Pad → NameKey → ℕ → Type 0
HasPad pads key n = (one : Pad) × Among pads one × IsTrue (has_key one.name key) × (one.net.0 ≡ n)

found_first : (pad : Pad) (pads : List Pad) (key : NameKey) (n : ℕ) (b : Bool) → has_key pad.name key ≡ b
    → (if b then Some pad.net.0 else net_of_key pads key) ≡ Some n → (net_of_key pads key ≡ Some n → HasPad pads key n) → HasPad (pad ∷ pads) key n
found_first pad pads key n true h f rest = (pad, inl refl, h, cc)
found_first pad pads key n false h f rest = let found = rest f in (found.0, inr found.1, found.2, found.3)

found_pad : (pads : List Pad) (key : NameKey) (n : ℕ) → net_of_key pads key ≡ Some n → HasPad pads key n
found_pad [] key n e = absurd (cc)
found_pad (pad ∷ pads) key n e = found_first pad pads key n (has_key pad.name key) refl e (λ f. found_pad pads key n f)

-- where the key has no net, no pad has the key
none_first : (pad : Pad) (pads : List Pad) (key : NameKey) (one : Pad) (b : Bool) → has_key pad.name key ≡ b
    → (if b then Some pad.net.0 else net_of_key pads key) ≡ None → (net_of_key pads key ≡ None → Among pads one → ⊥)
    → (pad ≡ one) ⊎ Among pads one → IsTrue (has_key one.name key) → ⊥
none_first pad pads key one true h f rest w t = absurd (cc)
none_first pad pads key one false h f rest (inl same) t = false≢true (sym h ∙ ap (λ p. has_key p.name key) same ∙ t)
none_first pad pads key one false h f rest (inr w) t = rest f w

none_found : (pads : List Pad) (key : NameKey) → net_of_key pads key ≡ None → (one : Pad) → Among pads one → IsTrue (has_key one.name key) → ⊥
none_found [] key e one w t = elim w [ ]
none_found (pad ∷ pads) key e one w t =
    none_first pad pads key one (has_key pad.name key) refl e (λ f v. none_found pads key f one v t) w t

-- one more pad, whose name no pad before it has
more_first : (one pad : Pad) (pads : List Pad) (key : NameKey) (b c : Bool) → (IsTrue c → (if b then Some one.net.0 else net_of_key pads key) ≡ None)
    → ((IsTrue c → net_of_key pads key ≡ None) → net_of_key (pads ++ pad ∷ []) key ≡ cond c (Some pad.net.0) (net_of_key pads key))
    → (if b then Some one.net.0 else net_of_key (pads ++ pad ∷ []) key) ≡ cond c (Some pad.net.0) (if b then Some one.net.0 else net_of_key pads key)
more_first one pad pads key true true none rest = let f = none refl in absurd (cc)
more_first one pad pads key true false none rest = refl
more_first one pad pads key false c none rest = rest none

more_by_key : (pads : List Pad) (pad : Pad) (key : NameKey) → (IsTrue (has_key pad.name key) → net_of_key pads key ≡ None)
    → net_of_key (pads ++ pad ∷ []) key ≡ cond (has_key pad.name key) (Some pad.net.0) (net_of_key pads key)
more_by_key [] pad key new = refl
more_by_key (one ∷ pads) pad key new =
    more_first one pad pads key (has_key one.name key) (has_key pad.name key) new (λ none. more_by_key pads pad key none)

-- ---- pads by net

-- the set has the nets of one more pad
pub more_nets : (nets new : BTreeSet ℕ) (pads : List Pad) (pad : Pad) (items : List Pad)
    → ((q : ℕ) → contains nat_cmp new q ≡ cond (is_eq (nat_cmp pad.net.0 q)) true (contains nat_cmp nets q))
    → HasNets nets pads → items ≡ pads ++ pad ∷ [] → HasNets new items
more_nets nets new pads pad items updates has e net =
    updates net ∙ ap₂ (λ here before. cond here true before) (numbers_equal pad.net.0 net) (has net) ∙ put_last (pad.net.0 == net) _
    ∙ sym (list_any-append (λ one. one.net.0 == net) pads (pad ∷ [])) ∙ ap (λ ps. list_any (λ one. one.net.0 == net) ps) (sym e)
  where
    numbers_equal : (a b : ℕ) → is_eq (nat_cmp a b) ≡ (a == b)
    numbers_equal a b = grind arith

    put_last : (here before : Bool) → cond here true before ≡ (before || (here || false))
    put_last true true = refl
    put_last true false = refl
    put_last false true = refl
    put_last false false = refl

module _ (names : BTreeMap NameKey ℕ) (pads : List Pad) (has : HasNames names pads) (pad : Pad) (key : NameKey)
    (role : key.0 ≡ role_number pad.name.role) (bytes : bytes_of key.1 ≡ pad.name.name) where
  -- the pad of a name that the map has
  pub known_name : (n : ℕ) → Some n ≡ get compare_keys names key → (one : Pad) × Among pads one × (one.name ≡ pad.name) × (one.net.0 ≡ n)
  known_name n e =
      let found = found_pad pads key n (sym (has key) ∙ sym e) in
      (found.0, found.1, (one_name found.0.name pad.name key role bytes).0 found.2, found.3)

  -- no pad has a name that the map does not have
  pub new_name : None ≡ get compare_keys names key → (one : Pad) → Among pads one → one.name ≢ pad.name
  new_name e one w same =
      none_found pads key (sym (has key) ∙ sym e) one w ((one_name one.name pad.name key role bytes).1 same)

  -- ---- what is answered

  pub known_agrees : (n : ℕ) → Some n ≡ get compare_keys names key → (n == pad.net.0) ≡ true → IsAdded pads pad pads
  known_agrees n e same =
      let known = known_name n e in
      inl (subst (λ p. Among pads p) (same_pad known.0 pad known.2 (known.3 ∙ eqb-true n pad.net.0 same)) known.1, refl)

  pub known_clashes : (n : ℕ) → Some n ≡ get compare_keys names key → (n == pad.net.0) ≡ false → HasClash pads pad
  known_clashes n e other =
      let known = known_name n e in
      (known.0, known.1, inl (known.2, λ same. eqb-false n pad.net.0 other (sym known.3 ∙ ap (λ net. net.0) same)))

  pub new_clashes : None ≡ get compare_keys names key → list_any (λ one. one.net.0 == pad.net.0) pads ≡ true → HasClash pads pad
  new_clashes e some =
      let found = any_found (λ one. one.net.0 == pad.net.0) pads some in
      (found.0, found.1, inr (new_name e found.0 found.1, same_net found.0.net pad.net (eqb-true _ _ found.2)))

  pub new_added : None ≡ get compare_keys names key → list_any (λ one. one.net.0 == pad.net.0) pads ≡ false → (new : List Pad)
      → new ≡ pads ++ pad ∷ [] → IsAdded pads pad new
  new_added e none new items =
      inr (λ one w. (new_name e one w, λ same. none_passes (λ one. one.net.0 == pad.net.0) pads none one w (eq-eqb _ _ (ap (λ (net : Net). net.0) same))), items)

  -- the map has the names of one more pad
  pub more_names : None ≡ get compare_keys names key → ((other : NameKey) → is_eq (compare_keys key other) ≡ has_key pad.name other)
      → (new : BTreeMap NameKey ℕ) (items : List Pad)
      → ((other : NameKey) → get compare_keys new other ≡ cond (is_eq (compare_keys key other)) (Some pad.net.0) (get compare_keys names other))
      → items ≡ pads ++ pad ∷ [] → HasNames new items
  more_names e equal new items updates is other =
      updates other
      ∙ ap₂ (λ here before. cond here (Some pad.net.0) before) (equal other) (has other)
      ∙ sym (more_by_key pads pad other (λ h. nothing other h (net_of_key pads other) refl))
      ∙ ap (λ ps. net_of_key ps other) (sym is)
    where
      nothing : (other : NameKey) → IsTrue (has_key pad.name other) → (o : Option ℕ) → net_of_key pads other ≡ o → net_of_key pads other ≡ None
      nothing other h None f = f
      nothing other h (Some n) f =
          let found = found_pad pads other n f in
          absurd (new_name e found.0 found.1 (two_names found.0.name pad.name other found.2 h))
