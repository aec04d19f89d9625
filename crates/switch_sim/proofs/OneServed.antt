-- A run that serves probes exists, and is one; where it serves none, it writes its lines alone.
use mathlib.Core.Path.{fun_ext}
use Rattle.std.proofs.Common.{◌≡◌, inl, inr, ℕ, suc, ◌<◌, Bool, true, false, ◌&&◌, if◌then◌else◌, List, [], ◌∷◌, ◌++◌, refl, sym, ap, ap₂, ◌∙◌, append-nil}
use Rattle.std.proofs.lemmas.List.Elements.{recursion_from_All}
use Rattle.std.specs.List.{AllByRecursion}
use Rattle.rx_text.specs.declared.pad_name.Role.{Role}
use Rattle.switch_net.specs.Circuit.{Circuit}
use Rattle.switch_net.specs.LeastLevels.{HaveSameLevels, AllHaveSameLevels, RunLevelsExist, RunLevelsAreOne}
use Rattle.switch_net.specs.Ternary.{Levels, nothing_known}
use Rattle.switch_net.specs.declared.network.Level.{Level}
use Rattle.switch_net.specs.declared.network.Pad.{Pad}
use Rattle.sim_probe.specs.Due.{due_at}
use Rattle.sim_probe.specs.Manner.{Manner}
use Rattle.sim_probe.specs.declared.sample.Sample.{Sample}
use Rattle.switch_sim.specs.TraceLines.{clock_line, lines_from}
use Rattle.switch_sim.specs.Serving.{Listener, is_served, is_ended, told, stay, texts_of_ended, texts_at_end, dues_at, dues_from, clocks_from, served_lines, ArePartlyServed}
use Rattle.switch_sim.specs.ServedLaws.{ServedRunsExist, ServedRunsAreOne, UnservedRunsWriteLines, UnservedRunsWriteFronts}
use Rattle.switch_sim.specs.declared.serving.Asked.{Asked}
use Rattle.switch_sim.proofs.Listeners.{before_others}
use Rattle.switch_sim.proofs.OneRun.{line_alike}

pub served_run : RunLevelsExist → ServedRunsExist
served_run run_exists circuit valid vectors asked before =
    let run = run_exists circuit valid nothing_known [] vectors in (
      stay asked (dues_from circuit.pads 0 run.0) before,
      served_lines circuit asked before run.0,
      record { levels = run.0; run = run.1; lines = refl; left = refl },
    )

-- ---- levels that are the same at the nets of the circuit

module _ (circuit : Circuit) (inside : AllByRecursion (λ pad. pad.net.0 < circuit.nets) circuit.pads) where
  due_alike : (wants : ℕ → Role → Bool) (clock : ℕ) (v w : Levels) → HaveSameLevels circuit v w → (number : ℕ) (pads : List Pad)
      → AllByRecursion (λ pad. pad.net.0 < circuit.nets) pads → due_at wants clock v number pads ≡ due_at wants clock w number pads
  due_alike wants clock v w same number [] below = refl
  due_alike wants clock v w same number (pad ∷ pads) below =
      by (wants number pad.name.role) (due_alike wants clock v w same (suc number) pads below.1)
    where
      one : Level → Sample
      one level = record { at = clock; pad = number; value = level }

      by : (b : Bool) → due_at wants clock v (suc number) pads ≡ due_at wants clock w (suc number) pads
          → (if b then record { at = clock; pad = number; value = v pad.net.0 } ∷ due_at wants clock v (suc number) pads else due_at wants clock v (suc number) pads)
          ≡ (if b then record { at = clock; pad = number; value = w pad.net.0 } ∷ due_at wants clock w (suc number) pads else due_at wants clock w (suc number) pads)
      by true e = ap₂ (λ (level : Level) (l : List Sample). record { at = clock; pad = number; value = level } ∷ l) (same pad.net.0 below.0) e
      by false e = e

  dues_at_alike : (clock : ℕ) (v w : Levels) → HaveSameLevels circuit v w → dues_at circuit.pads clock v ≡ dues_at circuit.pads clock w
  dues_at_alike clock v w same = fun_ext (λ (manner : Manner). due_alike manner.wants clock v w same 0 circuit.pads inside)

  dues_alike : (clock : ℕ) (vs ws : List Levels) → AllHaveSameLevels circuit vs ws → (manner : Manner)
      → dues_from circuit.pads clock vs manner ≡ dues_from circuit.pads clock ws manner
  dues_alike clock [] [] same manner = refl
  dues_alike clock [] (w ∷ ws) same manner = absurd same
  dues_alike clock (v ∷ vs) [] same manner = absurd same
  dues_alike clock (v ∷ vs) (w ∷ ws) same manner =
      ap₂ ◌++◌ (due_alike manner.wants clock v w same.0 0 circuit.pads inside) (dues_alike (suc clock) vs ws same.1 manner)

  module _ (asked : Asked) where
    clocks_alike : (clock : ℕ) (before : List Listener) (vs ws : List Levels) → AllHaveSameLevels circuit vs ws
        → clocks_from circuit asked clock before vs ≡ clocks_from circuit asked clock before ws
    clocks_alike clock before [] [] same = refl
    clocks_alike clock before [] (w ∷ ws) same = absurd same
    clocks_alike clock before (v ∷ vs) [] same = absurd same
    clocks_alike clock before (v ∷ vs) (w ∷ ws) same =
        let dues = dues_at_alike clock v w same.0 in
        ap₂ ◌++◌ (ap₂ ◌++◌ (line_alike circuit inside clock v w same.0) (ap (λ (d : Manner → List Sample). texts_of_ended asked d before) dues))
        (clocks_alike (suc clock) (stay asked (dues_at circuit.pads clock v) before) vs ws same.1
        ∙ ap (λ (d : Manner → List Sample). clocks_from circuit asked (suc clock) (stay asked d before) ws) dues)

pub one_served : RunLevelsAreOne → ServedRunsAreOne
one_served one_run circuit valid vectors asked before after other text another first second =
    let inside = recursion_from_All (λ pad. pad.net.0 < circuit.nets) circuit.pads valid.pads_below in
    let same = one_run circuit valid nothing_known nothing_known [] vectors first.levels second.levels (λ net lt. refl) first.run second.run in
    let dues : dues_from circuit.pads 0 first.levels ≡ dues_from circuit.pads 0 second.levels =
    fun_ext (λ (manner : Manner). dues_alike circuit inside 0 first.levels second.levels same manner) in
    let left : stay asked (dues_from circuit.pads 0 first.levels) before ≡ stay asked (dues_from circuit.pads 0 second.levels) before =
    ap (λ (d : Manner → List Sample). stay asked d before) dues in (
      first.left ∙ left ∙ sym second.left,
      first.lines
          ∙ ap₂ ◌++◌ (clocks_alike circuit inside asked 0 before first.levels second.levels same) (ap (texts_at_end asked) left)
          ∙ sym second.lines,
    )

-- ---- none is served

abbrev Unserved : Asked → List Listener → Type 0
Unserved asked listeners = AllByRecursion (λ one. is_served asked one.manner.kind ≡ false) listeners

module _ (asked : Asked) where
  all_stay : (dues : Manner → List Sample) (some : List Listener) → Unserved asked some → stay asked dues some ≡ some
  all_stay dues [] none = refl
  all_stay dues (one ∷ some) none =
      ap (λ b. before_others b (is_ended one.manner.ends one.seen (dues one.manner)) one (told dues one) (stay asked dues some)) none.0
      ∙ ap (λ l. one ∷ l) (all_stay dues some none.1)

  none_ended : (dues : Manner → List Sample) (some : List Listener) → Unserved asked some → texts_of_ended asked dues some ≡ []
  none_ended dues [] none = refl
  none_ended dues (one ∷ some) none =
      ap₂ ◌++◌ (ap (λ b. if b && is_ended one.manner.ends one.seen (dues one.manner) then one.manner.said (told dues one).seen else []) none.0)
      (none_ended dues some none.1)

  none_at_end : (some : List Listener) → Unserved asked some → texts_at_end asked some ≡ []
  none_at_end [] none = refl
  none_at_end (one ∷ some) none = ap₂ ◌++◌ (ap (λ b. if b then one.manner.said one.seen else []) none.0) (none_at_end some none.1)

  none_missing : (dues : Manner → List Sample) (some now : List Listener) → Unserved asked some → ArePartlyServed asked dues some now → now ≡ some
  none_missing dues [] now none h = h
  none_missing dues (one ∷ some) now none (inl h) =
      let wrong : false ≡ true = sym (ap (λ b. b && is_ended one.manner.ends one.seen (dues one.manner)) none.0) ∙ h.0 in
      absurd (cc)
  none_missing dues (one ∷ some) now none (inr h) =
      h.2
      ∙ ap₂ (λ (x : Listener) (l : List Listener). x ∷ l)
      (ap₂ (λ (m : Manner) (s : List Sample). record { manner = m; seen = s }) h.3.manner (h.3.unserved none.0)) (none_missing dues some h.1 none.1 h.4)

  module _ (circuit : Circuit) where
    plain_clocks : (clock : ℕ) (some : List Listener) → Unserved asked some → (levels : List Levels)
        → clocks_from circuit asked clock some levels ≡ lines_from circuit clock levels
    plain_clocks clock some none [] = refl
    plain_clocks clock some none (v ∷ vs) =
        let dues = dues_at circuit.pads clock v in
        ap₂ ◌++◌ (ap (λ l. clock_line circuit clock v ++ l) (none_ended dues some none) ∙ append-nil (clock_line circuit clock v))
        (ap (λ l. clocks_from circuit asked (suc clock) l vs) (all_stay dues some none) ∙ plain_clocks (suc clock) some none vs)

    plain_lines : (some : List Listener) → Unserved asked some → (levels : List Levels) → served_lines circuit asked some levels ≡ lines_from circuit 0 levels
    plain_lines some none levels =
        ap₂ ◌++◌ (plain_clocks 0 some none levels)
        (ap (texts_at_end asked) (all_stay (dues_from circuit.pads 0 levels) some none) ∙ none_at_end some none)
        ∙ append-nil (lines_from circuit 0 levels)

pub plain_run : UnservedRunsWriteLines
plain_run circuit vectors asked before after old new unserved gains =
    let none = recursion_from_All (λ one. is_served asked one.manner.kind ≡ false) before unserved in (
      gains.serves.left ∙ all_stay asked (dues_from circuit.pads 0 gains.serves.levels) before none,
      record {
        text = gains.text;
        lines = record {
          levels = gains.serves.levels;
          run = gains.serves.run;
          lines = gains.serves.lines ∙ plain_lines asked circuit before none gains.serves.levels;
        };
        gained = gains.gained;
      },
    )

pub plain_front : UnservedRunsWriteFronts
plain_front circuit vectors asked before after old new unserved gains =
    let none = recursion_from_All (λ one. is_served asked one.manner.kind ≡ false) before unserved in (
      none_missing asked (dues_from circuit.pads 0 gains.levels) before after none gains.left,
      record {
        text = served_lines circuit asked before gains.levels;
        lines = record { levels = gains.levels; run = gains.run; lines = plain_lines asked circuit before none gains.levels };
        gained = gains.gained;
      },
    )
