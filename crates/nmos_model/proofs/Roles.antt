-- The roles that each chip needs, among pads and among labels.
use Rattle.std.proofs.Common.{◌≡◌, ◌⊎◌, inl, inr, Bool, true, false, not, cond, IsTrue, List, [], ◌∷◌, find, Some, None, refl, sym, ap, ◌∙◌, subst}
use Rattle.std.proofs.lemmas.Bool.{not-true, not-false}
use Rattle.std.proofs.lemmas.List.Folds.{Any-from_list_any}
use Rattle.geom.specs.Rows.{Among}
use Rattle.geom.specs.declared.chip.Label.{Label}
use Rattle.rx_text.specs.declared.pad_name.Role.{Role}
use Rattle.rx_text.specs.declared.pad_name.Role.TheVariants.{Vdd, Gnd, Phi1, Phi2, Reset, Input, Output}
use Rattle.switch_net.specs.declared.network.Pad.{Pad}
use Rattle.switch_net.specs.Validity.{HasRole, has_role, first_missing, is_same_role}
use Rattle.nmos_model.specs.Pads.{NetAt, IsNeeded, HasLabel, LacksRole}
use Rattle.nmos_model.proofs.Matching.{any_found, none_passes}
use Rattle.nmos_model.proofs.Naming.{AreNamed}
use Rattle.nmos_model.proofs.SameNames.{decides_role}

-- ---- the roles that each chip needs

abbrev needed : List Role
needed = Vdd ∷ Gnd ∷ Phi1 ∷ Phi2 ∷ Reset ∷ []

is_needed : (role : Role) → Among needed role → IsNeeded role
is_needed role (inl e) = subst (λ r. IsNeeded r) e tt
is_needed role (inr (inl e)) = subst (λ r. IsNeeded r) e tt
is_needed role (inr (inr (inl e))) = subst (λ r. IsNeeded r) e tt
is_needed role (inr (inr (inr (inl e)))) = subst (λ r. IsNeeded r) e tt
is_needed role (inr (inr (inr (inr (inl e))))) = subst (λ r. IsNeeded r) e tt
is_needed role (inr (inr (inr (inr (inr w))))) = elim w [ ]

among_needed : (role : Role) → IsNeeded role → Among needed role
among_needed Vdd h = inl refl
among_needed Gnd h = inr (inl refl)
among_needed Phi1 h = inr (inr (inl refl))
among_needed Phi2 h = inr (inr (inr (inl refl)))
among_needed Reset h = inr (inr (inr (inr (inl refl))))
among_needed Input h = elim h [ ]
among_needed Output h = elim h [ ]

-- ---- the first role that is missing

module _ (p : Role → Bool) where
  found_first : (one role : Role) (roles : List Role) (b : Bool) → p one ≡ b → cond b (Some one) (find p roles) ≡ Some role
      → (find p roles ≡ Some role → Among roles role × IsTrue (p role)) → Among (one ∷ roles) role × IsTrue (p role)
  found_first one role roles true f e rest = let same : one ≡ role = cc in (inl same, sym (ap p same) ∙ f)
  found_first one role roles false f e rest = let later = rest e in (inr later.0, later.1)

  found_role : (roles : List Role) (role : Role) → find p roles ≡ Some role → Among roles role × IsTrue (p role)
  found_role [] role e = absurd (cc)
  found_role (one ∷ roles) role e = found_first one role roles (p one) refl e (λ f. found_role roles role f)

  none_first : (one role : Role) (roles : List Role) (b : Bool) → p one ≡ b → cond b (Some one) (find p roles) ≡ None
      → (find p roles ≡ None → Among roles role → p role ≡ false) → (one ≡ role) ⊎ Among roles role → p role ≡ false
  none_first one role roles true f e rest w = absurd (cc)
  none_first one role roles false f e rest (inl same) = sym (ap p same) ∙ f
  none_first one role roles false f e rest (inr w) = rest e w

  none_role : (roles : List Role) (role : Role) → find p roles ≡ None → Among roles role → p role ≡ false
  none_role [] role e w = elim w [ ]
  none_role (one ∷ roles) role e w = none_first one role roles (p one) refl e (λ f v. none_role roles role f v) w

module _ (pads : List Pad) where
  -- where none is missing, each that a chip needs has a pad
  none_missing : first_missing pads ≡ None → (role : Role) → IsNeeded role → has_role pads role ≡ true
  none_missing e role h = not-false _ (none_role (λ r. not (has_role pads r)) needed role e (among_needed role h))

  pub roles_have_pads : first_missing pads ≡ None → (role : Role) → IsNeeded role → HasRole pads role
  roles_have_pads e role h =
      let test : Pad → Bool = λ pad. is_same_role pad.name.role role in
      let some = Any-from_list_any test pads (none_missing e role h) in
      (some.0, some.1, some.2, some.3, (decides_role some.1.name.role role).0 some.4)

  module _ (net : NetAt) (labels : List Label) (named : AreNamed net labels pads) where
    pub roles_have_labels : first_missing pads ≡ None → (role : Role) → IsNeeded role → HasLabel labels role
    roles_have_labels e role h =
        let found = any_found (λ pad. is_same_role pad.name.role role) pads (none_missing e role h) in
        let source = named.from found.0 found.1 in
        (source.0, source.1, ap (λ n. n.role) (sym source.2.name) ∙ (decides_role found.0.name.role role).0 found.2)

    pub missing_role : (role : Role) → first_missing pads ≡ Some role → LacksRole labels
    missing_role role e =
        let missing = found_role (λ r. not (has_role pads r)) needed role e in
        (role, is_needed role missing.0, λ some. no_label role (not-true _ missing.1) some)
      where
        no_label : (role : Role) → has_role pads role ≡ false → HasLabel labels role → ⊥
        no_label role none some =
            let own = named.each some.0 some.1 in
            none_passes (λ pad. is_same_role pad.name.role role) pads none own.0 own.1
            ((decides_role own.0.name.role role).1 (ap (λ n. n.role) own.2.name ∙ some.2))
