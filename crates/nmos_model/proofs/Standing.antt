-- The network of known nets, channels and labels is that of the drawing, and what is unsound in them is refused in the drawing.
use Rattle.std.proofs.Common.{◌≡◌, ℕ, List, refl, ap, sym, subst, ◌∙◌}
use Rattle.std.specs.Prelude.{Result, Ok, Err, IfOk, IfErr, OnOk, IsErrOf}
use Rattle.std.specs.Result.{IsErrAnd}
use Rattle.rx_text.specs.declared.place.Place.{Place}
use Rattle.rx_text.specs.declared.place.Place.TheVariants.{Square, Whole}
use Rattle.geom.specs.declared.chip.Label.{Label}
use Rattle.geom.specs.Rows.{Pairwise}
use Rattle.geom.specs.Conduction.{Drawing}
use Rattle.switch_net.specs.Circuit.{Circuit}
use Rattle.nmos_model.specs.declared.channel.Channel.{Channel}
use Rattle.nmos_model.specs.declared.refusal.ExtractCode.{ExtractCode}
use Rattle.nmos_model.specs.declared.refusal.ExtractCode.TheVariants.{X3, X4, X5, X6}
use Rattle.nmos_model.specs.declared.plain.PlainFault.{PlainFault}
use Rattle.nmos_model.specs.declared.plain.PlainFault.TheVariants as plain
use Rattle.nmos_model.specs.declared.refusal.ExtractFault.{ExtractFault}
use Rattle.nmos_model.specs.declared.refusal.ReadChipFault.{ReadChipFault}
use Rattle.nmos_model.specs.declared.refusal.ReadChipFault.TheVariants.{Fault, NoMemory}
use Rattle.nmos_model.specs.Channels.{AreChannels, IsEarlier}
use Rattle.nmos_model.specs.Nets.{AreNets}
use Rattle.nmos_model.specs.Pads.{NetAt, AreSound, StandsOnNothing, Disagrees, NoLabel}
use Rattle.nmos_model.specs.Networks.{Connects, StandsFor}
use Rattle.nmos_model.specs.Refusals.{HasChannels, HasNames, IsRefused, IsRefusedBy, IsOddBy, plain_fault}
use Rattle.nmos_model.specs.Refusals as drawing
use Rattle.nmos_model.specs.Refusals.IsRefused.{label_on_nothing as refused_on_nothing, labels_disagree as refused_by_names, missing_pad as refused_without_pad, odd_load as refused_by_load}
use Rattle.nmos_model.specs.Unsound.{IsUnsound, IsUnsoundBy}
use Rattle.nmos_model.specs.Unsound.IsUnsound.{label_on_nothing, labels_disagree, missing_pad, odd_load}
use Rattle.nmos_model.proofs.Labels.{first_label, no_label, on_nothing, disagree, all_stand, has_names, cut_at}
use Rattle.nmos_model.proofs.Loads.{first_odd_load, some_odd_load}

module _ (Drawn : Drawing) (count : ℕ) (net : NetAt) (nets : AreNets Drawn count net) (labels : List Label) (channels : List Channel) (regions : AreChannels Drawn channels) where
  pub standing : (circuit : Circuit) → AreSound net labels → Connects count net channels labels circuit → StandsFor Drawn labels circuit
  standing circuit sound connects = record {
    net = net;
    nets = subst (λ n. AreNets Drawn n net) (sym connects.nets) nets;
    channels = channels;
    regions = regions;
    sound = sound;
    connects = record { nets = refl; pads = connects.pads; vdd = connects.vdd; supply = connects.supply; devices = connects.devices };
  }

  nothing : NoLabel (StandsOnNothing net) labels → NoLabel (drawing.StandsOnNothing Drawn) labels
  nothing = no_label labels (StandsOnNothing net) (drawing.StandsOnNothing Drawn) (λ before after one e. on_nothing Drawn count net nets before one)

  names : NoLabel (StandsOnNothing net) labels → NoLabel (Disagrees net) labels → HasNames Drawn labels
  names stand agree = record {
    stand = nothing stand;
    agree = no_label labels (Disagrees net) (drawing.Disagrees Drawn) (disagree Drawn count net nets labels (all_stand Drawn count net nets labels stand)) agree;
  }

  pub refusal : HasChannels Drawn → Pairwise IsEarlier channels → (code : ExtractCode) (place : Place) → IsUnsound net channels labels code place
      → IsRefused Drawn labels code place
  refusal whole sorted _ _ (label_on_nothing x y f) =
      refused_on_nothing x y whole
      (first_label labels (StandsOnNothing net) (drawing.StandsOnNothing Drawn) (λ before after one e. on_nothing Drawn count net nets before one) x y f)
  refusal whole sorted _ _ (labels_disagree x y stand f) =
      refused_by_names x y whole (nothing stand)
      (first_label labels (Disagrees net) (drawing.Disagrees Drawn) (disagree Drawn count net nets labels (all_stand Drawn count net nets labels stand)) x y f)
  refusal whole sorted _ _ (missing_pad stand agree lacks) = refused_without_pad whole (names stand agree) lacks
  refusal whole sorted _ _ (odd_load x y vdd named sound supply f) =
      refused_by_load x y whole (has_names Drawn count net nets labels sound) (λ lacks. lacks.2 (sound.needed lacks.0 lacks.1))
      (first_odd_load Drawn count net nets labels named sound channels regions vdd supply sorted x y f)

  -- and whatever the order of the channels, the drawing is refused
  pub some_refusal : HasChannels Drawn → (code : ExtractCode) (place : Place) → IsUnsound net channels labels code place
      → (other : ExtractCode) × (there : Place) × IsRefused Drawn labels other there
  some_refusal whole _ _ (label_on_nothing x y f) = (
    X4,
    Square x y,
    refused_on_nothing x y whole
        (first_label labels (StandsOnNothing net) (drawing.StandsOnNothing Drawn) (λ before after one e. on_nothing Drawn count net nets before one) x y f),
  )
  some_refusal whole _ _ (labels_disagree x y stand f) = (
    X5,
    Square x y,
    refused_by_names x y whole (nothing stand)
        (first_label labels (Disagrees net) (drawing.Disagrees Drawn) (disagree Drawn count net nets labels (all_stand Drawn count net nets labels stand)) x y f),
  )
  some_refusal whole _ _ (missing_pad stand agree lacks) = (X6, Whole, refused_without_pad whole (names stand agree) lacks)
  some_refusal whole _ _ (odd_load x y vdd named sound supply f) =
      let first = some_odd_load Drawn count net nets labels named sound channels regions vdd supply f.channel (cut_at channels f.earlier f.later f.channel f.whole) f.odd in
      (X3, Square first.0 first.1, refused_by_load first.0 first.1 whole (has_names Drawn count net nets labels sound) (λ lacks. lacks.2 (sound.needed lacks.0 lacks.1)) first.2)

  pub unsound_refused : HasChannels Drawn → Pairwise IsEarlier channels → (fault : ReadChipFault) → IsUnsoundBy net channels labels fault → IsRefusedBy Drawn labels fault
  unsound_refused whole sorted (Fault fault) u = refusal whole sorted fault.code fault.place u
  unsound_refused whole sorted NoMemory u = tt

-- an odd channel is a reason of refusal
pub odd_refused : (Drawn : Drawing) (labels : List Label) (fault : ReadChipFault) → IsOddBy Drawn fault → IsRefusedBy Drawn labels fault
odd_refused Drawn labels (Fault fault) o = o labels
odd_refused Drawn labels NoMemory o = tt

-- ---- what answers tell

pub if_ok : {X E : Type 0} (R : Type 0) (P Q : X → Type 0) (r : Result X E) → OnOk r R → IfOk r P → (R → (x : X) → P x → Q x) → IfOk r Q
if_ok R P Q (Ok x) h p f = f h x p
if_ok R P Q (Err e) h p f = tt

pub if_err : {X E : Type 0} (P Q : E → Type 0) (r : Result X E) → IfErr r P → ((e : E) → P e → Q e) → IfErr r Q
if_err P Q (Ok x) p f = tt
if_err P Q (Err e) p f = f e p

-- the plain extractor's fault is the one that it was told
same_fault : (told : ReadChipFault) (fault : ExtractFault) → plain_fault told ≡ plain.Fault fault → told ≡ Fault fault
same_fault (Fault one) fault e = let same : one ≡ fault = cc in ap Fault same
same_fault NoMemory fault e = absurd (cc)

pub told_fault : {X : Type 0} (Drawn : Drawing) (labels : List Label) (r : Result X PlainFault) (told : ReadChipFault) (fault : ExtractFault)
    → IsErrAnd r (λ e. e ≡ plain_fault told) → IsErrOf r (plain.Fault fault) → IsRefusedBy Drawn labels told → IsRefused Drawn labels fault.code fault.place
told_fault Drawn labels (Ok x) told fault gives is refused = absurd (cc)
told_fault Drawn labels (Err e) told fault gives is refused =
    let inner : e ≡ plain.Fault fault = cc in
    let same : plain_fault told ≡ plain.Fault fault = sym gives ∙ inner in
    subst (IsRefusedBy Drawn labels) (same_fault told fault same) refused
