-- The level that a pad fixes its net to, and which nets the pads leave free.
use Rattle.std.proofs.Common.{◌≡◌, ℕ, ◌==◌, Bool, true, false, cond, List, [], ◌∷◌, Option, Some, None, length, refl, inl, inr, arith, eq-eqb}
use Rattle.std.proofs.lemmas.Bool.{ne_eqb}
use Rattle.rx_text.specs.declared.pad_name.Role.{Role}
use Rattle.rx_text.specs.declared.pad_name.Role.TheVariants.{Vdd, Gnd, Phi1, Phi2, Reset, Input, Output}
use Rattle.switch_net.specs.ClockedLogic.{fixes, is_fixed, IsGround}
use Rattle.switch_net.specs.Settling.{pad_level, fixed_level}
use Rattle.switch_net.specs.declared.network.Pad.{Pad}

-- What pads make of a net: its test, and its level.
pub data Standing : Bool → Option Bool → Type 0 where
  held : (level : Bool) → Standing true (Some level)
  free : Standing false None

pad_standing : (role : Role) (drive : Bool) → Standing (fixes role) (pad_level role drive)
pad_standing Vdd drive = held true
pad_standing Gnd drive = held false
pad_standing Phi1 drive = held drive
pad_standing Phi2 drive = held drive
pad_standing Reset drive = held drive
pad_standing Input drive = held drive
pad_standing Output drive = free

first_standing : (test : Bool) (a b : Bool) (x y : Option Bool) → Standing a x → Standing b y → Standing (cond test a b) (cond test x y)
first_standing true a b x y here later = here
first_standing false a b x y here later = later

pub standing : (pads : List Pad) (drives : List Bool) (net : ℕ) → length drives ≡ length pads
    → Standing (is_fixed pads net) (fixed_level pads drives net)
standing [] drives net e = free
standing (pad ∷ pads) [] net e = absurd (omega arith)
standing (pad ∷ pads) (drive ∷ drives) net e =
    first_standing (pad.net.0 == net) _ _ _ _ (pad_standing pad.name.role drive) (standing pads drives net (omega arith))

-- a net that a pad fixes has a level
pub level_of : {test : Bool} {x : Option Bool} → Standing test x → test ≡ true → (level : Bool) × (x ≡ Some level)
level_of (held level) e = (level, refl)
level_of free e = absurd (cc)

-- any other net has none
pub none_of : {test : Bool} {x : Option Bool} → Standing test x → (test ≡ true → ⊥) → x ≡ None
none_of (held level) h = absurd (h refl)
none_of free h = refl

-- a net with a level is one that a pad fixes
pub test_of : {test : Bool} {x : Option Bool} {level : Bool} → Standing test x → x ≡ Some level → test ≡ true
test_of (held high) e = refl
test_of free e = absurd (cc)

-- ground is fixed
pub ground_fixed : (pads : List Pad) (net : ℕ) → IsGround pads net → is_fixed pads net ≡ true
ground_fixed [] net h = absurd h
ground_fixed (pad ∷ pads) net (inl h) = rw (eq-eqb pad.net.0 net h.0, h.1) refl
ground_fixed (pad ∷ pads) net (inr h) = rw (ne_eqb pad.net.0 net h.0) (ground_fixed pads net h.1)

-- ground is low
pub ground_low : (pads : List Pad) (drives : List Bool) (net : ℕ) → length drives ≡ length pads → IsGround pads net
    → fixed_level pads drives net ≡ Some false
ground_low [] drives net e h = absurd h
ground_low (pad ∷ pads) [] net e h = absurd (omega arith)
ground_low (pad ∷ pads) (drive ∷ drives) net e (inl h) = rw (eq-eqb pad.net.0 net h.0, h.1) refl
ground_low (pad ∷ pads) (drive ∷ drives) net e (inr h) =
    rw (ne_eqb pad.net.0 net h.0) (ground_low pads drives net (omega arith) h.1)
