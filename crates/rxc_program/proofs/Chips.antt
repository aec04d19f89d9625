-- Texts of chips: network texts and layouts.
use Rattle.std.proofs.Common.{◌≡◌, ◌⊎◌, inl, inr, ⊎_elim, ℕ, ◌+◌, ◌≤◌, Bool, true, false, List, length, refl, sym, ap, ◌∙◌, subst}
use Rattle.rx_text.specs.declared.place.Place.{Place}
use Rattle.rx_text.specs.declared.place.Place.TheVariants.{Text}
use Rattle.switch_net.specs.Circuit.{Circuit, IsSameNetwork}
use Rattle.switch_net.specs.SameNetworks.{SameIsReflexive}
use Rattle.switch_net.specs.Validity.{IsNetwork}
use Rattle.net_text.specs.NetRefusals.{NetRefusal}
use Rattle.net_text.specs.NetworkText.{IsNetworkText, TextIsOfOneNetwork, network_text}
use Rattle.net_text.specs.declared.net_fault.NetCode.{NetCode}
use Rattle.layout_network.specs.Layouts.{DrawsNetwork, LayoutRefusal}
use Rattle.layout_network.specs.OneReading.{LayoutsHaveOneReading}
use Rattle.layout_network.specs.declared.fault.LayoutCode.{LayoutCode}
use Rattle.rxc_program.proofs.Extracted.{layouts_apart, one_layout_break}
use Rattle.rxc_program.specs.Codes.{net_code}
use Rattle.rxc_program.specs.Chips.{IsChip, IsChipBy, IsNoChip, IsNoChipBy, begins_network}
use Rattle.rxc_program.specs.declared.status.Code.{Code}

-- the text is a chip's, or it is not
abbrev pub ChipOrNot : List ℕ → Type 0
ChipOrNot text = ((circuit : Circuit) × IsChip text circuit) ⊎ ((code : Code) × (place : Place) × IsNoChip text code place)

-- each text is that of one network or is refused for one reason
pub record NetLaws : Type 0 where
  pub either : (text : List ℕ) → ((circuit : Circuit) × IsNetworkText text circuit)
      ⊎ ((code : NetCode) × (place : Place) × NetRefusal text code place)
  pub exclusive : (text : List ℕ) (circuit : Circuit) (code : NetCode) (place : Place) → IsNetworkText text circuit
      → NetRefusal text code place → ⊥
  pub one_network : TextIsOfOneNetwork
  pub one_refusal : (text : List ℕ) (code other : NetCode) (place elsewhere : Place) → NetRefusal text code place → NetRefusal text other elsewhere
      → (code ≡ other) × (place ≡ elsewhere)

-- the text of a chip stands for one network, up to the numbers of its nets, or is refused for one reason
pub record ChipLaws : Type 0 where
  pub valid : (text : List ℕ) (circuit : Circuit) → IsChip text circuit → IsNetwork circuit
  pub exclusive : (text : List ℕ) (circuit : Circuit) (code : Code) (place : Place) → IsChip text circuit → IsNoChip text code place → ⊥
  pub one_network : (text : List ℕ) (one other : Circuit) → IsChip text one → IsChip text other → IsSameNetwork one other
  pub one_refusal : (text : List ℕ) (one other : Code) (here there : Place) → IsNoChip text one here → IsNoChip text other there
      → (one ≡ other) × (here ≡ there)
  pub either : (text : List ℕ) → begins_network text ≡ true → ChipOrNot text

-- what a layout draws is a network
abbrev pub LayoutsAreNetworks : Type 0
LayoutsAreNetworks = (text : List ℕ) (circuit : Circuit) → DrawsNetwork text circuit → IsNetwork circuit

-- ---- networks

-- a network text begins as one
begins_so : (circuit : Circuit) → begins_network (network_text circuit) ≡ true
begins_so circuit = refl

-- a network text is a chip's
pub network_chip : (text : List ℕ) (circuit : Circuit) → IsNetworkText text circuit → IsChip text circuit
network_chip text circuit is = subst (λ b. IsChipBy b text circuit) (sym (ap begins_network is.text_of.text ∙ begins_so circuit)) is

-- ---- laws

module _ (nets : NetLaws) (layouts : LayoutsHaveOneReading) (valid : LayoutsAreNetworks) (reflexive : SameIsReflexive) (text : List ℕ) where
  by_valid : (network : Bool) (circuit : Circuit) → IsChipBy network text circuit → IsNetwork circuit
  by_valid true circuit is = is.network
  by_valid false circuit is = valid text circuit is.drawn

  by_apart : (network : Bool) (circuit : Circuit) (code : Code) (place : Place) → IsChipBy network text circuit → IsNoChipBy network text code place → ⊥
  by_apart true circuit code place is broken = nets.exclusive text circuit broken.0 place is broken.2
  by_apart false circuit code place is broken = layouts_apart layouts text code place (circuit, is) broken

  by_same : (network : Bool) (one other : Circuit) → IsChipBy network text one → IsChipBy network text other → IsSameNetwork one other
  by_same true one other first second = subst (λ c. IsSameNetwork one c) (nets.one_network text one other first second) (reflexive one)
  by_same false one other first second = layouts.one_network text one other first second

  by_once : (network : Bool) (one other : Code) (here there : Place) → IsNoChipBy network text one here → IsNoChipBy network text other there
      → (one ≡ other) × (here ≡ there)
  by_once true one other here there first second =
      let fault = nets.one_refusal text first.0 second.0 here there first.2 second.2 in
      (first.1 ∙ ap net_code fault.0 ∙ sym second.1, fault.1)
  by_once false one other here there first second = one_layout_break layouts text one other here there first second

  network_or_not : begins_network text ≡ true → ChipOrNot text
  network_or_not begins = ⊎_elim
      (λ n. inl (n.0, subst (λ b. IsChipBy b text n.0) (sym begins) n.1))
      (λ r. inr (net_code r.0, r.1, subst (λ b. IsNoChipBy b text (net_code r.0) r.1) (sym begins) (r.0, refl, r.2)))
      (nets.either text)

pub chip_laws : NetLaws → LayoutsHaveOneReading → LayoutsAreNetworks → SameIsReflexive → ChipLaws
chip_laws nets layouts valid reflexive = record {
  valid = λ text circuit is. by_valid nets layouts valid reflexive text (begins_network text) circuit is;
  exclusive = λ text circuit code place is broken. by_apart nets layouts valid reflexive text (begins_network text) circuit code place is broken;
  one_network = λ text one other first second. by_same nets layouts valid reflexive text (begins_network text) one other first second;
  one_refusal = λ text one other here there first second.
      by_once nets layouts valid reflexive text (begins_network text) one other here there first second;
  either = λ text begins. network_or_not nets layouts valid reflexive text begins;
}

-- ---- places

module _
    (nets : (text : List ℕ) (code : NetCode) (line column : ℕ) → NetRefusal text code (Text line column) → line ≤ length text + 1)
    (layouts : (text : List ℕ) (code : LayoutCode) (line column : ℕ) → LayoutRefusal text code (Text line column) → line ≤ length text + 1)
    (text : List ℕ) where
  by_within : (network : Bool) (code : Code) (line column : ℕ) → IsNoChipBy network text code (Text line column) → line ≤ length text + 1
  by_within true code line column broken = nets text broken.0 line column broken.2
  by_within false code line column broken = layouts text broken.0 line column broken.2

  -- a refusal of a chip stands in its text
  pub no_chip_within : (code : Code) (line column : ℕ) → IsNoChip text code (Text line column) → line ≤ length text + 1
  no_chip_within code line column broken = by_within (begins_network text) code line column broken
