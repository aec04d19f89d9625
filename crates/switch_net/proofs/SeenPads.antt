-- The sets of names and nets tell whether a pad repeats another.
use Rattle.std.proofs.Common.{◌≡◌, ◌==◌, Bool, true, false, not, cond, ◌||◌, ◌&&◌, List, [], ◌∷◌, ◌++◌, refl, sym, ap, ap₂, ◌∙◌}
use Rattle.std.specs.Ordering.{is_eq}
use Rattle.std.specs.List.{list_any}
use Rattle.std.specs.Option.{option_eq}
use Rattle.std.specs.Str.{bytes_eq}
use Rattle.std.specs.BTreeSet.{BTreeSet, contains}
use Rattle.std.proofs.lemmas.List.Folds.{list_any-append}
use Rattle.rx_text.specs.Role.{NamedRole}
use Rattle.switch_net.specs.Validity.{role_number, is_same_name, repeats}
use Rattle.switch_net.specs.NameKeys.{NameKey, compare_keys, bytes_of, has_key}
use Rattle.switch_net.specs.SeenPads.{HasNames}
use Rattle.switch_net.specs.declared.network.Pad.{Pad}

-- ---- what the sets tell

any_of_two : {X : Type 0} (p q : X → Bool) (xs : List X) → list_any (λ x. p x || q x) xs ≡ (list_any p xs || list_any q xs)
any_of_two p q [] = refl
any_of_two p q (x ∷ xs) =
    ap (λ b. (p x || q x) || b) (any_of_two p q xs) ∙ in_other_order (p x) (q x) (list_any p xs) (list_any q xs)
  where
    in_other_order : (a b c d : Bool) → ((a || b) || (c || d)) ≡ ((a || c) || (b || d))
    in_other_order true b c d = refl
    in_other_order false true true d = refl
    in_other_order false true false d = refl
    in_other_order false false c d = refl

module _ (pads : List Pad) (pad : Pad) (name net : Bool) (by_name : name ≡ list_any (λ one. is_same_name one.name pad.name) pads)
    (by_net : net ≡ list_any (λ one. one.net.0 == pad.net.0) pads) where
  repeats_either : repeats pads pad ≡ (name || net)
  repeats_either =
      any_of_two (λ one. is_same_name one.name pad.name) (λ one. one.net.0 == pad.net.0) pads
      ∙ ap₂ (λ x y. x || y) (sym by_name) (sym by_net)

  -- where the name is new, the net decides
  pub by_net_alone : name ≡ false → not net ≡ not (repeats pads pad)
  by_net_alone new = ap not (sym (repeats_either ∙ ap (λ b. b || net) new))

  -- where the name is not new, the pad repeats another
  pub by_name_alone : name ≡ true → false ≡ not (repeats pads pad)
  by_name_alone old = ap not (sym (repeats_either ∙ ap (λ b. b || net) old))

put_last : (here before : Bool) → cond here true before ≡ (before || (here || false))
put_last true true = refl
put_last true false = refl
put_last false true = refl
put_last false false = refl

-- the name of one of the pads is this one
pub among : (key : NameKey) (name : NamedRole) → key.0 ≡ role_number name.role → bytes_of key.1 ≡ name.name
    → (pads : List Pad) → list_any (λ pad. has_key pad.name key) pads ≡ list_any (λ pad. is_same_name pad.name name) pads
among key name role bytes pads =
    ap₂ (λ number text. list_any (λ pad. role_number pad.name.role == number && option_eq bytes_eq pad.name.name text) pads) role bytes

-- the name of one more pad
pub one_more : (key : NameKey) (pad : Pad) → ((other : NameKey) → is_eq (compare_keys key other) ≡ has_key pad.name other)
    → (names new : BTreeSet NameKey)
    → ((other : NameKey) → contains compare_keys new other ≡ cond (is_eq (compare_keys key other)) true (contains compare_keys names other))
    → (pads : List Pad) → HasNames names pads → HasNames new (pads ++ pad ∷ [])
one_more key pad equal names new updates pads has other =
    updates other
    ∙ ap₂ (λ here before. cond here true before) (equal other) (has other)
    ∙ put_last (has_key pad.name other) (list_any (λ one. has_key one.name other) pads)
    ∙ sym (list_any-append (λ one. has_key one.name other) pads (pad ∷ []))
