-- What a network has and shows, the same network has and shows that the squares of a layout stand for.
use Rattle.std.proofs.Common.{◌≡◌, ℕ, List, [], ◌∷◌, map, refl, sym, ap, ◌∙◌}
use Rattle.rx_text.specs.Role.{NamedRole}
use Rattle.geom.specs.Conduction.{Drawing}
use Rattle.geom.specs.declared.chip.Label.{Label}
use Rattle.rx_lang.specs.Specification.{Specification, Language}
use Rattle.switch_net.specs.Circuit.{Circuit, renamed_pad}
use Rattle.switch_net.specs.SameNetworks.{SameIsSymmetric}
use Rattle.switch_net.specs.SameRuns.{SameShowAlike, recognises_alike, shows_surely_alike}
use Rattle.switch_net.specs.Validity.{IsNetwork}
use Rattle.switch_net.specs.declared.network.Pad.{Pad}
use Rattle.stick_grid.specs.LabelledModules.{StandsForSame}
use Rattle.tree_chip.specs.TreeNetworks.{IsRecogniser, DrawsRecogniser}
use Rattle.tree_chip.proofs.DrawnNetworks.{drawn_is_network}

names_kept : (rename : ℕ → ℕ) (pads : List Pad) → map (λ (pad : Pad). pad.name) (map (renamed_pad rename) pads) ≡ map (λ (pad : Pad). pad.name) pads
names_kept rename [] = refl
names_kept rename (pad ∷ pads) = ap (λ (l : List NamedRole). pad.name ∷ l) (names_kept rename pads)

pub draws : (spec : Specification) (Drawn : Drawing) (labels : List Label) (circuit : Circuit) → SameIsSymmetric → SameShowAlike
    → StandsForSame Drawn labels circuit → IsNetwork circuit → IsRecogniser spec circuit → DrawsRecogniser spec Drawn labels
draws spec Drawn labels circuit symmetric show s network recogniser =
    let alike = show circuit s.drawn network (drawn_is_network Drawn labels s.drawn circuit s.stands s.same network)
    (symmetric s.drawn circuit s.same) in
    record {
      circuit = s.drawn;
      stands = s.stands;
      recogniser = record {
        pads = sym (names_kept s.same.rename s.drawn.pads) ∙ ap (map (λ (pad : Pad). pad.name)) s.same.pads ∙ recogniser.pads;
        recognises = recognises_alike circuit s.drawn _ (Language spec) alike recogniser.recognises;
        sure = shows_surely_alike circuit s.drawn _ (Language spec) alike recogniser.sure;
      };
    }
