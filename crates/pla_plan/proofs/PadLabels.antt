-- Names of pads that differ, and the labels that bear them.
use Rattle.std.proofs.Common.{◌≡◌, ◌≢◌, ◌⊎◌, inl, inr, ◌↔◌, ℕ, ◌+◌, ◌-◌, ◌==◌, Bool, true, false, if◌then◌else◌, List, [], ◌∷◌, ◌++◌, map, length, slice_index_or, Option, Some, None, AllPairs, refl, sym, ap, ap₂, subst, ◌∙◌, arith, length-append}
use Rattle.std.specs.List.{AllByRecursion}
use Rattle.std.proofs.lemmas.List.{get_or_append_left, get_or-append_right}
use Rattle.rx_text.specs.Role.{NamedRole}
use Rattle.rx_text.specs.declared.pad_name.Role.{Role}
use Rattle.rx_text.specs.declared.pad_name.Role.TheVariants.{Vdd, Gnd, Phi1, Phi2, Reset, Input, Output}
use Rattle.geom.specs.declared.chip.Label.{Label}
use Rattle.geom.specs.Rows.{Among}
use Rattle.switch_net.specs.Validity.{AreDistinct, is_same_name, is_same_role, role_number}
use Rattle.switch_net.specs.declared.network.Pad.{Pad}
use Rattle.nmos_model.specs.Pads.{is_named, first_labels}
use Rattle.pla_plan.specs.ArrayNetworks.{pad_label}
use Rattle.pla_plan.proofs.Pieces.{Pairs, each_append}
use Rattle.std.proofs.Common.{Decides}
use Rattle.std.specs.Option.{option_eq}
use Rattle.std.specs.Str.{bytes_eq}
use Rattle.std.proofs.lemmas.Bool.{false_from_ne_true}
use Rattle.std.proofs.lemmas.Bool.Decides.{Decides-and, Decides-eqb, Decides-like}
use Rattle.std.proofs.lemmas.Slice.Eq.{bytes_eq-Decides}

role_at : ℕ → Role
role_at n =
    if n == 0 then Vdd
    else (if n == 1 then Gnd
    else (if n == 2 then Phi1 else (if n == 3 then Phi2 else (if n == 4 then Reset else (if n == 5 then Input else Output)))))

role_at-number : (r : Role) → role_at (role_number r) ≡ r
unfolding role_at
role_at-number Vdd = refl
role_at-number Gnd = refl
role_at-number Phi1 = refl
role_at-number Phi2 = refl
role_at-number Reset = refl
role_at-number Input = refl
role_at-number Output = refl

decides_role : (a b : Role) → Decides (is_same_role a b) (a ≡ b)
decides_role a b =
    Decides-like _ (λ e. sym (role_at-number a) ∙ ap role_at e ∙ role_at-number b) (λ e. ap (λ r. role_number r) e)
    (Decides-eqb (role_number a) (role_number b))

decides_text : (a b : Option (List ℕ)) → Decides (option_eq bytes_eq a b) (a ≡ b)
decides_text None None = (λ _. refl, λ _. refl)
decides_text None (Some y) = (λ e. cc, λ e. cc)
decides_text (Some x) None = (λ e. cc, λ e. cc)
decides_text (Some x) (Some y) = Decides-like _ (λ e. ap (λ z. Some z) e) (λ e. cc) (bytes_eq-Decides x y)

decides_name : (a b : NamedRole) → Decides (is_same_name a b) (a ≡ b)
decides_name a b =
    let name_of : Role → Option (List ℕ) → NamedRole = λ r n. record { role = r; name = n } in
    Decides-like _ (λ h. ap₂ name_of h.0 h.1) (λ e. (ap (λ n. n.role) e, ap (λ n. n.name) e))
    (Decides-and _ _ (decides_role a.role b.role) (decides_text a.name b.name))

other_name : (a b : NamedRole) → (a ≡ b → ⊥) → is_same_name a b ≡ false
other_name a b h = false_from_ne_true _ (λ e. h ((decides_name a b).0 e))

-- ---- lists of names, one behind the other

pub pairs_first : (xs ys : List (List ℕ)) → AllPairs (λ (a b : List ℕ). a ≢ b) (xs ++ ys) → AllPairs (λ (a b : List ℕ). a ≢ b) xs
pairs_first xs ys h i j d l lt e =
    h i j d l (omega (arith, length-append xs ys, lt)) (get_or_append_left xs ys d i (omega (arith, l, lt)) ∙ e ∙ sym (get_or_append_left xs ys d j lt))

pub pairs_second : (xs ys : List (List ℕ)) → AllPairs (λ (a b : List ℕ). a ≢ b) (xs ++ ys) → AllPairs (λ (a b : List ℕ). a ≢ b) ys
pairs_second xs ys h i j d l lt e =
    h (length xs + i) (length xs + j) d (omega (arith, l)) (omega (arith, length-append xs ys, lt)) (shifted i ∙ e ∙ sym (shifted j))
  where
    shifted : (k : ℕ) → slice_index_or (xs ++ ys) (length xs + k) d ≡ slice_index_or ys k d
    shifted k =
        let back : length xs + k - length xs ≡ k = omega arith in
        get_or-append_right xs ys (length xs) (length xs + k) d refl (omega arith) ∙ rw back refl

-- ---- pads that differ

pub each_among : {X : Type 0} (P : X → Type 0) (xs : List X) (x : X) → AllByRecursion P xs → Among xs x → P x
each_among P [] x h m = absurd m
each_among P (y ∷ xs) x h (inl e) = subst P e h.0
each_among P (y ∷ xs) x h (inr m) = each_among P xs x h.1 m

-- they are one pad, or differ in name and net
one_or_two : (pads : List Pad) → Pairs AreDistinct pads → (a b : Pad) → Among pads a → Among pads b → (a ≡ b) ⊎ AreDistinct a b
one_or_two [] h a b m n = absurd m
one_or_two (pad ∷ pads) h a b (inl e) (inl f) = inl (sym e ∙ f)
one_or_two (pad ∷ pads) h a b (inl e) (inr n) = inr (subst (λ (p : Pad). AreDistinct p b) e (each_among (AreDistinct pad) pads b h.0 n))
one_or_two (pad ∷ pads) h a b (inr m) (inl f) =
    let d = subst (λ (p : Pad). AreDistinct p a) f (each_among (AreDistinct pad) pads a h.0 m) in
    inr (λ e. d.0 (sym e), λ e. d.1 (sym e))
one_or_two (pad ∷ pads) h a b (inr m) (inr n) = one_or_two pads h.1 a b m n

pub agreeing : (pads : List Pad) → Pairs AreDistinct pads → (a b : Pad) → Among pads a → Among pads b → (a.name ≡ b.name) ↔ (a.net.0 ≡ b.net.0)
agreeing pads h a b m n = by (one_or_two pads h a b m n)
  where
    by : (a ≡ b) ⊎ AreDistinct a b → (a.name ≡ b.name) ↔ (a.net.0 ≡ b.net.0)
    by (inl e) = (λ f. ap (λ (p : Pad). p.net.0) e, λ f. ap (λ (p : Pad). p.name) e)
    by (inr d) = (λ f. absurd (d.0 f), λ f. absurd (d.1 (ap (λ (k : ℕ). record { 0 = k }) f)))

module _ (at : List ℕ) where
  abbrev label : Pad → Label
  label = pad_label at

  -- no pad before it has the name
  not_named : (before : List Pad) (pad : Pad) → AllByRecursion (λ (one : Pad). AreDistinct one pad) before → is_named (map label before) (label pad) ≡ false
  not_named [] pad h = refl
  not_named (one ∷ before) pad h = rw (other_name one.name pad.name h.0.0) (not_named before pad h.1)

  mapped_more : (before : List Pad) (pad : Pad) → map label before ++ label pad ∷ [] ≡ map label (before ++ pad ∷ [])
  mapped_more [] pad = refl
  mapped_more (one ∷ before) pad = ap (λ l. label one ∷ l) (mapped_more before pad)

  further : (before : List Pad) (pad : Pad) (pads : List Pad) → AllByRecursion (AreDistinct pad) pads
      → AllByRecursion (λ (p : Pad). AllByRecursion (λ (one : Pad). AreDistinct one p) before) pads
      → AllByRecursion (λ (p : Pad). AllByRecursion (λ (one : Pad). AreDistinct one p) (before ++ pad ∷ [])) pads
  further before pad [] h k = tt
  further before pad (p ∷ pads) h k =
      (each_append (λ (one : Pad). AreDistinct one p) before (pad ∷ []) k.0 (h.0, tt), further before pad pads h.1 k.1)

  firsts_from : (before pads : List Pad) → AllByRecursion (λ (p : Pad). AllByRecursion (λ (one : Pad). AreDistinct one p) before) pads
      → Pairs AreDistinct pads → first_labels (map label before) (map label pads) ≡ map label pads
  firsts_from before [] h k = refl
  firsts_from before (pad ∷ pads) h k =
      second (is_named (map label before) (label pad)) (not_named before pad h.0)
      ∙ ap (λ l. label pad ∷ l)
      (ap (λ ls. first_labels ls (map label pads)) (mapped_more before pad)
      ∙ firsts_from (before ++ pad ∷ []) pads (further before pad pads k.0 h.1) k.1)
    where
      second : (b : Bool) → b ≡ false
          → (if b then first_labels (map label before ++ label pad ∷ []) (map label pads) else label pad ∷ first_labels (map label before ++ label pad ∷ []) (map label pads))
          ≡ label pad ∷ first_labels (map label before ++ label pad ∷ []) (map label pads)
      second true e = absurd (cc)
      second false e = refl

  none : (pads : List Pad) → AllByRecursion (λ (p : Pad). AllByRecursion (λ (one : Pad). AreDistinct one p) []) pads
  none [] = tt
  none (pad ∷ pads) = (tt, none pads)

  pub firsts : (pads : List Pad) → Pairs AreDistinct pads → first_labels [] (map label pads) ≡ map label pads
  firsts pads h = firsts_from [] pads (none pads) h
