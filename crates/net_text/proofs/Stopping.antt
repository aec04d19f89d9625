-- First faults behind a stage of reading, and the end of a text without one.
use Rattle.std.proofs.Common.{◌≡◌, ◌≢◌, ℕ, List, [], ◌∷◌, ◌++◌, refl, sym, ◌∙◌, subst, append_assoc, append-nil}
use Rattle.net_text.specs.Shape.{DeviceLines, PadLines, Shaped}
use Rattle.net_text.specs.NetRefusals.{NetCodeStands, NoCodeStands}
use Rattle.net_text.specs.Stages.{InRange, Stage}
use Rattle.net_text.specs.declared.net_fault.NetCode.{NetCode}
use Rattle.net_text.specs.declared.net_fault.NetCode.TheVariants.{N1, N2, N3, N4, N5, N6}
use Rattle.net_text.proofs.Advancing.{Stops}

-- lines whose numbers are all of another kind too
device_lines_map : (N M : List ℕ → Type 0) → ((digits : List ℕ) → N digits → M digits) → (text : List ℕ) → DeviceLines N text → DeviceLines M text
device_lines_map N M f text (DeviceLines.end t e) = DeviceLines.end t e
device_lines_map N M f text (DeviceLines.load t net more e n lines) = DeviceLines.load t net more e (f net n) (device_lines_map N M f more lines)
device_lines_map N M f text (DeviceLines.pass t gate a b more e ng na nb lines) =
    DeviceLines.pass t gate a b more e (f gate ng) (f a na) (f b nb) (device_lines_map N M f more lines)

pub lines_map : (N M : List ℕ → Type 0) → ((digits : List ℕ) → N digits → M digits) → (text : List ℕ) → PadLines N text → PadLines M text
lines_map N M f text (PadLines.devices t lines) = PadLines.devices t (device_lines_map N M f t lines)
lines_map N M f text (PadLines.pad t role name net more e bears valid n lines) =
    PadLines.pad t role name net more e bears valid (f net n) (lines_map N M f more lines)

-- a text with nets in range has the shape
pub shaped_in_range : (nets : ℕ) (text : List ℕ) → InRange nets text → Shaped text
shaped_in_range nets text s = record {
  count = s.count;
  more = s.more;
  is = s.is;
  counted = s.counted.0;
  lines = lines_map _ _ (λ digits n. n.0) s.more s.lines;
}

-- no byte that comes goes on with a text of the shape
pub syntax_stop : {K G : List ℕ → Type 0} (nets : ℕ) (front rest : List ℕ) → Stage nets front rest K G → (K [] → ⊥)
    → ((c : ℕ) (others tail : List ℕ) → rest ≡ c ∷ others → K (c ∷ tail) → ⊥) → Stops nets N1 front rest
syntax_stop {K} nets front rest stage ended on = record {
  stands = (
    (stage.tail, stage.back _ stage.some),
    λ s. ended (stage.to [] (subst Shaped (sym (append-nil front)) s)),
    λ c others e b. on c others b.0 e (stage.to (c ∷ b.0) (subst Shaped (append_assoc front (c ∷ []) b.0) b.1)),
  );
  first = stage.clear;
  refuted = λ ranged. whole rest refl (stage.to rest (shaped_in_range nets (front ++ rest) ranged));
}
  where
    whole : (r : List ℕ) → rest ≡ r → K r → ⊥
    whole [] e k = ended k
    whole (c ∷ others) e k = on c others others e k

-- a byte stands behind the end
pub end_stop : {G : List ℕ → Type 0} (nets : ℕ) (front rest : List ℕ) → Stage nets front rest (λ tail. tail ≡ []) G → rest ≢ [] → Stops nets N6 front rest
end_stop nets front rest stage some = record {
  stands = (subst Shaped (append-nil front) (stage.back [] refl), some);
  first = stage.clear;
  refuted = λ ranged. some (stage.to rest (shaped_in_range nets (front ++ rest) ranged));
}

-- nothing stands behind the end, and no code in the text
pub none_stands : {G : List ℕ → Type 0} (nets : ℕ) (front : List ℕ) → Stage nets front [] (λ tail. tail ≡ []) G → NoCodeStands front
none_stands nets front stage code xs [] e s = at_end code (subst (λ l. NetCodeStands code l []) (sym (e ∙ append-nil xs)) s)
  where
    at_end : (code : NetCode) → NetCodeStands code front [] → ⊥
    at_end N1 s = s.1 (subst Shaped (append-nil front) (stage.back [] refl))
    at_end N2 s = let here = s.0.here in cc
    at_end N3 s = s
    at_end N4 s = s
    at_end N5 s = let here = s.0.here in cc
    at_end N6 s = s.1 refl
none_stands nets front stage code xs (c ∷ ys) e s = stage.clear code xs c ys e (subst (λ l. NetCodeStands code xs l) (sym (append-nil (c ∷ ys))) s)
