-- Labels and the pads that they make, by the nets of their squares.
use Rattle.std.specs.Prelude.{◌≡◌, ◌≢◌, ◌↔◌, ◌⊎◌, ℕ, ℤ, Bool, if◌then◌else◌, List, [], ◌∷◌, ◌++◌, Option, Some, None, is_some}
use Rattle.std.specs.List.{list_any}
use Rattle.rx_text.specs.Role.{bears_name}
use Rattle.rx_text.specs.declared.pad_name.Role.{Role}
use Rattle.rx_text.specs.declared.pad_name.Role.TheVariants.{Vdd, Gnd, Phi1, Phi2, Reset, Input, Output}
use Rattle.geom.specs.declared.layer.Layer.{Layer}
use Rattle.geom.specs.declared.chip.Label.{Label}
use Rattle.geom.specs.Rows.{Among}
use Rattle.switch_net.specs.declared.network.Pad.{Pad}
use Rattle.switch_net.specs.Validity.{is_same_name}
use Rattle.nmos_model.specs.Lists.{Matched}

-- a net for squares in layers, where there is one
abbrev pub NetAt : Type 0
NetAt = Layer → ℤ → ℤ → Option ℕ

-- the net of a label's square
abbrev pub label_net : NetAt → Label → Option ℕ
label_net net label = net label.layer label.x label.y

-- some label of these bears the name of this one
abbrev pub is_named : List Label → Label → Bool
is_named earlier label = list_any (λ one. is_same_name one.pad label.pad) earlier

-- the labels whose names none before them bears, where these stand before them all
abbrev pub first_labels : List Label → List Label → List Label
first_labels earlier [] = []
first_labels earlier (label ∷ labels) =
    if is_named earlier label then first_labels (earlier ++ label ∷ []) labels
    else label ∷ first_labels (earlier ++ label ∷ []) labels

-- The pad has the label's name, on the label's net.
pub record IsPadOf (net : NetAt) (label : Label) (pad : Pad) : Type 0 where
  pub name : pad.name ≡ label.pad
  pub number : label_net net label ≡ Some pad.net.0

-- The pads are the labels' names, in the order of their first labels.
abbrev pub ArePads : NetAt → List Label → List Pad → Type 0
ArePads net labels pads = Matched (IsPadOf net) (first_labels [] labels) pads

-- Labels bear names of their own as their roles ask, which the type of pad names keeps.
abbrev pub AreNamed : List Label → Type 0
AreNamed labels = (label : Label) → Among labels label → bears_name label.pad.role ≡ is_some label.pad.name

-- each chip has pads of these roles
abbrev pub IsNeeded : Role → Type 0
IsNeeded Vdd = Unit {0}
IsNeeded Gnd = Unit {0}
IsNeeded Phi1 = Unit {0}
IsNeeded Phi2 = Unit {0}
IsNeeded Reset = Unit {0}
IsNeeded Input = ⊥
IsNeeded Output = ⊥

-- Some label has the role.
abbrev pub HasLabel : List Label → Role → Type 0
HasLabel labels role = (label : Label) × Among labels label × (label.pad.role ≡ role)

-- Each label stands on a net, one name on one net and one net under one name, and the roles that each chip needs have labels.
pub record AreSound (net : NetAt) (labels : List Label) : Type 0 where
  pub on_nets : (label : Label) → Among labels label → (n : ℕ) × (label_net net label ≡ Some n)
  pub agree : (a b : Label) → Among labels a → Among labels b → (a.pad ≡ b.pad) ↔ (label_net net a ≡ label_net net b)
  pub needed : (role : Role) → IsNeeded role → HasLabel labels role

-- The label stands on no net.
abbrev pub StandsOnNothing : NetAt → List Label → Label → Type 0
StandsOnNothing net earlier label = label_net net label ≡ None

-- An earlier label has this one's name on another net, or another name on this one's net.
abbrev pub Disagrees : NetAt → List Label → Label → Type 0
Disagrees net earlier label = (one : Label) × Among earlier one
    × (((one.pad ≡ label.pad) × (label_net net one ≢ label_net net label)) ⊎ ((one.pad ≢ label.pad) × (label_net net one ≡ label_net net label)))

-- The square (x, y) is that of the first label of which P holds with the labels before it.
pub record IsFirstLabel (P : List Label → Label → Type 0) (labels : List Label) (x y : ℤ) : Type 0 where
  pub earlier : List Label
  pub label : Label
  pub later : List Label
  pub whole : labels ≡ earlier ++ label ∷ later
  pub holds : P earlier label
  pub first : (before after : List Label) (one : Label) → earlier ≡ before ++ one ∷ after → P before one → ⊥
  pub across : label.x ≡ x
  pub upward : label.y ≡ y

-- P holds of no label with those before it.
abbrev pub NoLabel : (List Label → Label → Type 0) → List Label → Type 0
NoLabel P labels = (before after : List Label) (one : Label) → labels ≡ before ++ one ∷ after → P before one → ⊥

-- A role that each chip needs has no label.
abbrev pub LacksRole : List Label → Type 0
LacksRole labels = (role : Role) × IsNeeded role × (HasLabel labels role → ⊥)
