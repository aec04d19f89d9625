-- What pads with nets of their own fix, and what driving them gives.
use Rattle.std.specs.Prelude.{⊤}
use Rattle.std.proofs.Common.{◌≡◌, ◌≢◌, ◌⊎◌, inl, inr, ℕ, zero, suc, ◌<◌, ◌==◌, Bool, true, false, List, [], ◌∷◌, length, slice_index_or, Option, Some, None, AllPairs, refl, ap, sym, ◌∙◌, arith, eq-eqb, eqb-true}
use Rattle.std.specs.List.{AllByRecursion}
use Rattle.std.specs.Option.{unwrap_or}
use Rattle.std.proofs.lemmas.Bool.{ne_eqb, cases_Bool}
use Rattle.std.proofs.lemmas.List.{get_or-set_same, get_or-set_other, length-set}
use Rattle.std.proofs.lemmas.List.Elements.{recursion_from_All}
use Rattle.rx_text.specs.declared.pad_name.Role.{Role}
use Rattle.rx_text.specs.declared.pad_name.Role.TheVariants.{Vdd, Gnd, Phi1, Phi2, Reset, Input, Output}
use Rattle.switch_net.specs.ClockedLogic.{fixes, is_fixed, IsGround}
use Rattle.switch_net.specs.Clock.{Drive, bits_behind, drives_from}
use Rattle.switch_net.specs.Settling.{pad_level, fixed_level}
use Rattle.switch_net.specs.Validity.{AreDistinct, HasRole, role_number, is_same_role}
use Rattle.switch_net.specs.declared.network.Pad.{Pad}
use Rattle.nor_net.specs.Evaluation.{value_at, with_level, driven}
use Rattle.nor_net.specs.SwitchForm.{at, net_of}

-- no pad is on this net
abbrev pub IsOff : ℕ → List Pad → Type 0
IsOff net pads = AllByRecursion (λ (pad : Pad). pad.net.0 ≢ net) pads

-- each pad has a net of its own
abbrev pub HaveOwnNets : List Pad → Type 0
HaveOwnNets [] = ⊤
HaveOwnNets (pad ∷ pads) = IsOff pad.net.0 pads × HaveOwnNets pads

pub own_nets : (pads : List Pad) → AllPairs AreDistinct pads → HaveOwnNets pads
own_nets [] h = tt
own_nets (pad ∷ pads) h = (
  recursion_from_All (λ (other : Pad). other.net.0 ≢ pad.net.0) pads
      (λ k d lt e. (h zero (suc k) d (omega arith) (omega arith)).1 (ap at (sym e))),
  own_nets pads (λ i j d l lt. h (suc i) (suc j) d (omega arith) (omega arith)),
)

-- the first pad on the net has this role
abbrev pub FirstOn : List Pad → ℕ → Role → Type 0
FirstOn [] net role = ⊥
FirstOn (pad ∷ pads) net role =
    ((pad.net.0 ≡ net) × (pad.name.role ≡ role)) ⊎ ((pad.net.0 ≡ net → ⊥) × FirstOn pads net role)

-- some pad on the net has this role
abbrev pub SomeOn : List Pad → ℕ → Role → Type 0
SomeOn [] net role = ⊥
SomeOn (pad ∷ pads) net role = ((pad.net.0 ≡ net) × (pad.name.role ≡ role)) ⊎ SomeOn pads net role

off_some : (pads : List Pad) (net other : ℕ) (role : Role) → IsOff other pads → SomeOn pads net role → other ≡ net → ⊥
off_some [] net other role off h e = h
off_some (pad ∷ pads) net other role off (inl h) e = off.0 (h.0 ∙ sym e)
off_some (pad ∷ pads) net other role off (inr h) e = off_some pads net other role off.1 h e

pub first_on : (pads : List Pad) (net : ℕ) (role : Role) → HaveOwnNets pads → SomeOn pads net role → FirstOn pads net role
first_on [] net role own h = h
first_on (pad ∷ pads) net role own (inl h) = inl h
first_on (pad ∷ pads) net role own (inr h) =
    inr (off_some pads net pad.net.0 role own.0 h, first_on pads net role own.1 h)

-- ---- roles

role_at : ℕ → Role
role_at zero = Vdd
role_at (suc zero) = Gnd
role_at (suc (suc zero)) = Phi1
role_at (suc (suc (suc zero))) = Phi2
role_at (suc (suc (suc (suc zero)))) = Reset
role_at (suc (suc (suc (suc (suc zero))))) = Input
role_at (suc (suc (suc (suc (suc (suc k)))))) = Output

role_back : (role : Role) → role_at (role_number role) ≡ role
unfolding role_at
role_back Vdd = refl
role_back Gnd = refl
role_back Phi1 = refl
role_back Phi2 = refl
role_back Reset = refl
role_back Input = refl
role_back Output = refl

pub same_role : (a b : Role) → is_same_role a b ≡ true → a ≡ b
same_role a b e = sym (role_back a) ∙ ap role_at (eqb-true (role_number a) (role_number b) e) ∙ role_back b

-- some pad has the role, by recursion
abbrev SomeOf : List Pad → Role → Type 0
SomeOf [] role = ⊥
SomeOf (pad ∷ pads) role = (pad.name.role ≡ role) ⊎ SomeOf pads role

some_of_at : (pads : List Pad) (role : Role) (k : ℕ) (pad : Pad) → k < length pads → slice_index_or pads k pad ≡ pad → pad.name.role ≡ role
    → SomeOf pads role
some_of_at [] role k pad lt e r = absurd (omega arith)
some_of_at (first ∷ pads) role zero pad lt e r = inl (rw e r)
some_of_at (first ∷ pads) role (suc k) pad lt e r = inr (some_of_at pads role k pad (omega arith) e r)

net_some : (pads : List Pad) (role : Role) → SomeOf pads role → SomeOn pads (net_of pads role) role
net_some [] role h = h
net_some (pad ∷ pads) role h =
    elim (cases_Bool (is_same_role pad.name.role role)) [
      | inl same ↦ rw same (inl (refl, same_role _ _ same))
      | inr other ↦ rw other (inr (net_some pads role (later pad.name.role h other)))
    ]
  where
    later : (r : Role) → (r ≡ role) ⊎ SomeOf pads role → is_same_role r role ≡ false → SomeOf pads role
    later r (inl e) other =
        let f : is_same_role r role ≡ true = rw e (eq-eqb (role_number role) (role_number role) refl) in absurd (cc)
    later r (inr h) other = h

-- the net of a role that some pad has
pub role_on : (pads : List Pad) (role : Role) → HaveOwnNets pads → HasRole pads role → FirstOn pads (net_of pads role) role
role_on pads role own h = first_on pads _ role own (net_some pads role (some_of_at pads role h.0 h.1 h.2 h.3 h.4))

-- ---- what is fixed

pub first_fixed : (pads : List Pad) (net : ℕ) (role : Role) → fixes role ≡ true → FirstOn pads net role → is_fixed pads net ≡ true
first_fixed [] net role f h = absurd h
first_fixed (pad ∷ pads) net role f (inl h) = rw (eq-eqb pad.net.0 net h.0, h.1) f
first_fixed (pad ∷ pads) net role f (inr h) = rw (ne_eqb pad.net.0 net h.0) (first_fixed pads net role f h.1)

pub first_ground : (pads : List Pad) (net : ℕ) → FirstOn pads net Gnd → IsGround pads net
first_ground [] net h = h
first_ground (pad ∷ pads) net (inl h) = inl h
first_ground (pad ∷ pads) net (inr h) = inr (h.0, first_ground pads net h.1)

pub off_free : (pads : List Pad) (net : ℕ) → IsOff net pads → is_fixed pads net ≡ false
off_free [] net h = refl
off_free (pad ∷ pads) net h = rw (ne_eqb pad.net.0 net h.0) (off_free pads net h.1)

off_level : (pads : List Pad) (drives : List Bool) (net : ℕ) → IsOff net pads → fixed_level pads drives net ≡ None
off_level [] drives net h = refl
off_level (pad ∷ pads) [] net h = refl
off_level (pad ∷ pads) (drive ∷ drives) net h = rw (ne_eqb pad.net.0 net h.0) (off_level pads drives net h.1)

free_role : (role : Role) (drive : Bool) → fixes role ≡ false → pad_level role drive ≡ None
free_role Output drive e = refl
free_role Vdd drive e = absurd (cc)
free_role Gnd drive e = absurd (cc)
free_role Phi1 drive e = absurd (cc)
free_role Phi2 drive e = absurd (cc)
free_role Reset drive e = absurd (cc)
free_role Input drive e = absurd (cc)

-- what no pad fixes has no level
pub free_level : (pads : List Pad) (drives : List Bool) (net : ℕ) → is_fixed pads net ≡ false → fixed_level pads drives net ≡ None
free_level [] drives net e = refl
free_level (pad ∷ pads) [] net e = refl
free_level (pad ∷ pads) (drive ∷ drives) net e =
    elim (cases_Bool (pad.net.0 == net)) [
      | inl here ↦ let f : fixes pad.name.role ≡ false = rw here at e in rw here (free_role pad.name.role drive f)
      | inr other ↦ let f : is_fixed pads net ≡ false = rw other at e in rw other (free_level pads drives net f)
    ]

fixed_role : (role : Role) (drive : Bool) → fixes role ≡ true → (level : Bool) × (pad_level role drive ≡ Some level)
fixed_role Output drive e = absurd (cc)
fixed_role Vdd drive e = (true, refl)
fixed_role Gnd drive e = (false, refl)
fixed_role Phi1 drive e = (drive, refl)
fixed_role Phi2 drive e = (drive, refl)
fixed_role Reset drive e = (drive, refl)
fixed_role Input drive e = (drive, refl)

-- and what one fixes has
pub fixed_has_level : (pads : List Pad) (drives : List Bool) (net : ℕ) → length drives ≡ length pads → is_fixed pads net ≡ true
    → (level : Bool) × (fixed_level pads drives net ≡ Some level)
fixed_has_level [] drives net l e = absurd (cc)
fixed_has_level (pad ∷ pads) [] net l e = absurd (omega arith)
fixed_has_level (pad ∷ pads) (drive ∷ drives) net l e =
    elim (cases_Bool (pad.net.0 == net)) [
      | inl here ↦ let f : fixes pad.name.role ≡ true = rw here at e in rw here (fixed_role pad.name.role drive f)
      | inr other ↦ let f : is_fixed pads net ≡ true = rw other at e in rw other (fixed_has_level pads drives net (omega arith) f)
    ]

-- ---- drives

pub drives_sized : (drive : Drive) (bits : List Bool) (pads : List Pad) → length (drives_from drive bits pads) ≡ length pads
drives_sized drive bits [] = refl
drives_sized drive bits (pad ∷ pads) = ap suc (drives_sized drive (bits_behind bits pad.name.role) pads)

-- the net of the pad of a clock has the level of the clock
pub phi1_level : (drive : Drive) (bits : List Bool) (pads : List Pad) (net : ℕ) → FirstOn pads net Phi1
    → fixed_level pads (drives_from drive bits pads) net ≡ Some drive.phi1
phi1_level drive bits [] net h = absurd h
phi1_level drive bits (pad ∷ pads) net (inl h) = rw (eq-eqb pad.net.0 net h.0, h.1) refl
phi1_level drive bits (pad ∷ pads) net (inr h) = rw (ne_eqb pad.net.0 net h.0) (phi1_level drive _ pads net h.1)

pub phi2_level : (drive : Drive) (bits : List Bool) (pads : List Pad) (net : ℕ) → FirstOn pads net Phi2
    → fixed_level pads (drives_from drive bits pads) net ≡ Some drive.phi2
phi2_level drive bits [] net h = absurd h
phi2_level drive bits (pad ∷ pads) net (inl h) = rw (eq-eqb pad.net.0 net h.0, h.1) refl
phi2_level drive bits (pad ∷ pads) net (inr h) = rw (ne_eqb pad.net.0 net h.0) (phi2_level drive _ pads net h.1)

pub level_sized : (level : Option Bool) (net : ℕ) (values : List Bool) → length (with_level level net values) ≡ length values
level_sized None net values = refl
level_sized (Some level) net values = length-set values net level

level_here : (level : Option Bool) (net : ℕ) (values : List Bool) → net < length values
    → value_at (with_level level net values) net ≡ unwrap_or level (value_at values net)
level_here None net values h = refl
level_here (Some level) net values h = get_or-set_same values net level false h

level_other : (level : Option Bool) (net other : ℕ) (values : List Bool) → other ≢ net
    → value_at (with_level level net values) other ≡ value_at values other
level_other None net other values h = refl
level_other (Some level) net other values h = get_or-set_other values net other level false h

pub driven_sized : (pads : List Pad) (drives values : List Bool) → length (driven pads drives values) ≡ length values
driven_sized [] drives values = refl
driven_sized (pad ∷ pads) [] values = refl
driven_sized (pad ∷ pads) (drive ∷ drives) values =
    driven_sized pads drives _ ∙ level_sized (pad_level pad.name.role drive) pad.net.0 values

-- a driven net has its level, and any other its value
pub driven_at : (pads : List Pad) (drives values : List Bool) (net : ℕ) → HaveOwnNets pads
    → AllByRecursion (λ (pad : Pad). pad.net.0 < length values) pads
    → value_at (driven pads drives values) net ≡ unwrap_or (fixed_level pads drives net) (value_at values net)
driven_at [] drives values net own below = refl
driven_at (pad ∷ pads) [] values net own below = refl
driven_at (pad ∷ pads) (drive ∷ drives) values net own below =
    let level : Option Bool = pad_level pad.name.role drive in
    let later = driven_at pads drives (with_level level pad.net.0 values) net own.1
    (rw (level_sized level pad.net.0 values) below.1) in
    elim (cases_Bool (pad.net.0 == net)) [
      | inl here ↦
          let e : pad.net.0 ≡ net = eqb-true _ _ here in
          let none : fixed_level pads drives net ≡ None = off_level pads drives net (rw e at own.0) in
          let value : value_at (with_level level pad.net.0 values) net ≡ unwrap_or level (value_at values net) =
          rw (← e) (level_here level pad.net.0 values below.0) in
          rw (here) (later ∙ rw none value)
      | inr other ↦
          let ne : net ≢ pad.net.0 = λ e. let f = eq-eqb pad.net.0 net (sym e) in cc in
          rw (other) (later ∙ ap (unwrap_or (fixed_level pads drives net)) (level_other level pad.net.0 net values ne))
    ]
