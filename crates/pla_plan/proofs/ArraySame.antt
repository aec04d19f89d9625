-- Networks with the same nets and pads and with permuted devices are the same.
use Rattle.std.proofs.Common.{◌≡◌, ℕ, List, [], ◌∷◌, map, refl, sym, ap, subst, ◌∙◌}
use Rattle.std.specs.List.Sorted.{IsPermutation}
use Rattle.std.proofs.lemmas.List.Sorted.{IsPermutation-map}
use Rattle.switch_net.specs.Circuit.{IsSameNetwork, renamed_pad, renamed_device, ascending}
use Rattle.switch_net.specs.declared.network.Pad.{Pad}
use Rattle.switch_net.specs.declared.network.Device.{Device}
use Rattle.switch_net.specs.declared.network.Device.TheVariants.{Pass, Load}

abbrev itself : ℕ → ℕ
itself net = net

kept_pads : (pads : List Pad) → map (renamed_pad itself) pads ≡ pads
kept_pads [] = refl
kept_pads (pad ∷ pads) = ap (λ l. pad ∷ l) (kept_pads pads)

kept_device : (device : Device) → renamed_device itself device ≡ device
kept_device (Pass gate a b) = refl
kept_device (Load net) = refl

kept_devices : (devices : List Device) → map (λ device. ascending (renamed_device itself device)) devices ≡ map ascending devices
kept_devices [] = refl
kept_devices (device ∷ devices) =
    ap (λ d. ascending d ∷ map (λ one. ascending (renamed_device itself one)) devices) (kept_device device)
    ∙ ap (λ l. ascending device ∷ l) (kept_devices devices)

pub same_network : (nets : ℕ) (pads : List Pad) (ones others : List Device) → IsPermutation ones others
    → IsSameNetwork (record { nets = nets; pads = pads; devices = ones }) (record { nets = nets; pads = pads; devices = others })
same_network nets pads ones others h = record {
  rename = itself;
  apart = λ a b p q e. e;
  pads = kept_pads pads;
  devices = subst (λ (l : List Device). IsPermutation l (map ascending others)) (sym (kept_devices ones)) (IsPermutation-map ascending ones others h);
}
