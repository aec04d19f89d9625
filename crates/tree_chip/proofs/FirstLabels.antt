-- Labels with different names are all first of their names.
use Rattle.std.proofs.Common.{◌≡◌, ◌≢◌, inl, inr, ℕ, suc, ◌==◌, Bool, true, false, if◌then◌else◌, List, [], ◌∷◌, ◌++◌, get_or, Option, Some, None, All, AllPairs, Decides, refl, sym, ap, ap₂, ◌∙◌, arith}
use Rattle.std.specs.Option.{option_eq}
use Rattle.std.specs.Str.{bytes_eq}
use Rattle.std.proofs.lemmas.Bool.{false_from_ne_true}
use Rattle.std.proofs.lemmas.Bool.Decides.{Decides-and, Decides-eqb, Decides-like}
use Rattle.std.proofs.lemmas.Slice.Eq.{bytes_eq-Decides}
use Rattle.rx_text.specs.Role.{NamedRole}
use Rattle.rx_text.specs.declared.pad_name.Role.{Role}
use Rattle.rx_text.specs.declared.pad_name.Role.TheVariants.{Vdd, Gnd, Phi1, Phi2, Reset, Input, Output}
use Rattle.geom.specs.declared.chip.Label.{Label}
use Rattle.geom.specs.Rows.{Among}
use Rattle.switch_net.specs.Validity.{is_same_name, is_same_role, role_number}
use Rattle.nmos_model.specs.Pads.{is_named, first_labels}

role_at : ℕ → Role
role_at n =
    if n == 0 then Vdd
    else (if n == 1 then Gnd
    else (if n == 2 then Phi1 else (if n == 3 then Phi2 else (if n == 4 then Reset else (if n == 5 then Input else Output)))))

role_at-number : (r : Role) → role_at (role_number r) ≡ r
unfolding role_at
role_at-number Vdd = refl
role_at-number Gnd = refl
role_at-number Phi1 = refl
role_at-number Phi2 = refl
role_at-number Reset = refl
role_at-number Input = refl
role_at-number Output = refl

decides_role : (a b : Role) → Decides (is_same_role a b) (a ≡ b)
decides_role a b =
    Decides-like _ (λ e. sym (role_at-number a) ∙ ap role_at e ∙ role_at-number b) (λ e. ap (λ r. role_number r) e)
    (Decides-eqb (role_number a) (role_number b))

decides_text : (a b : Option (List ℕ)) → Decides (option_eq bytes_eq a b) (a ≡ b)
decides_text None None = (λ _. refl, λ _. refl)
decides_text None (Some y) = (λ e. cc, λ e. cc)
decides_text (Some x) None = (λ e. cc, λ e. cc)
decides_text (Some x) (Some y) = Decides-like _ (λ e. ap (λ z. Some z) e) (λ e. cc) (bytes_eq-Decides x y)

decides_name : (a b : NamedRole) → Decides (is_same_name a b) (a ≡ b)
decides_name a b =
    let name_of : Role → Option (List ℕ) → NamedRole = λ r n. record { role = r; name = n } in
    Decides-like _ (λ h. ap₂ name_of h.0 h.1) (λ e. (ap (λ n. n.role) e, ap (λ n. n.name) e))
    (Decides-and _ _ (decides_role a.role b.role) (decides_text a.name b.name))

other_name : (a b : NamedRole) → (a ≡ b → ⊥) → is_same_name a b ≡ false
other_name a b h = false_from_ne_true _ (λ e. h ((decides_name a b).0 e))

-- no label of these has the name of this one
abbrev IsNew : List Label → Label → Type 0
IsNew earlier label = (one : Label) → Among earlier one → one.pad ≡ label.pad → ⊥

not_named : (earlier : List Label) (label : Label) → IsNew earlier label → is_named earlier label ≡ false
not_named [] label h = refl
not_named (one ∷ earlier) label h =
    rw (other_name one.pad label.pad (h one (inl refl))) (not_named earlier label (λ x m. h x (inr m)))

later_new : (earlier : List Label) (one label : Label) → IsNew earlier label → (one.pad ≡ label.pad → ⊥) → IsNew (earlier ++ one ∷ []) label
later_new [] one label h ne x (inl e) = λ same. ne (ap (λ (l : Label). l.pad) e ∙ same)
later_new [] one label h ne x (inr m) = absurd m
later_new (y ∷ earlier) one label h ne x (inl e) = h x (inl e)
later_new (y ∷ earlier) one label h ne x (inr m) =
    later_new earlier one label (λ z k. h z (inr k)) ne x m

firsts_from : (earlier labels : List Label) → All (IsNew earlier) labels → AllPairs (λ (a b : Label). a.pad ≢ b.pad) labels
    → first_labels earlier labels ≡ labels
firsts_from earlier [] new apart = refl
firsts_from earlier (label ∷ labels) new apart =
    by (is_named earlier label) (not_named earlier label (new 0 label (omega arith)))
    ∙ ap (λ l. label ∷ l) (firsts_from (earlier ++ label ∷ []) labels
    (λ k d lt. later_new earlier label (get_or labels k d) (new (suc k) d (omega arith)) (apart 0 (suc k) d (omega arith) (omega arith)))
    (λ i j d less lt. apart (suc i) (suc j) d (omega arith) (omega arith)))
  where
    by : (b : Bool) → b ≡ false
        → (if b then first_labels (earlier ++ label ∷ []) labels else label ∷ first_labels (earlier ++ label ∷ []) labels)
        ≡ label ∷ first_labels (earlier ++ label ∷ []) labels
    by true e = absurd (cc)
    by false e = refl

pub all_first : (labels : List Label) → AllPairs (λ (a b : Label). a.pad ≢ b.pad) labels → first_labels [] labels ≡ labels
all_first labels apart = firsts_from [] labels (λ k d lt x m. absurd m) apart
