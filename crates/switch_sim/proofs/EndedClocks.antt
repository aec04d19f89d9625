-- A clock of a run has ended, or has not, as its function says it.
use Rattle.std.proofs.Common.{◌≡◌, ℕ, ◌+◌, Bool, true, false, List, [], ◌∷◌, ◌++◌, Option, length, ap, ap₂, ◌∙◌, subst}
use Rattle.std.specs.Io.KnownBytes.{Appends}
use Rattle.rx_io.specs.Streams.{AppendsFront}
use Rattle.switch_net.specs.Circuit.{Circuit}
use Rattle.switch_net.specs.LeastLevels.{ClocksLevelsExist}
use Rattle.switch_net.specs.Ternary.{Levels, nothing_known, ClockLevels}
use Rattle.switch_net.specs.Validity.{IsNetwork}
use Rattle.switch_net.specs.declared.network.Pad.{Pad}
use Rattle.switch_sim.specs.TraceLines.{clock_line}
use Rattle.switch_sim.specs.Serving.{Listener, stay, texts_of_ended, dues_at, ArePartlyServed, GainsServedFront}
use Rattle.switch_sim.specs.declared.serving.Asked.{Asked}
use Rattle.switch_sim.proofs.ServedRuns.{Served, clock_text, served_first, served_more, first_halts, later_halts}

-- The network and its pads are known under other names.
module _ (network circuit : Circuit) (pads : List Pad) (asked : Asked) (same : circuit ≡ network) (pads_are : pads ≡ network.pads) where
  text_is : (clock : ℕ) (v : Levels) (before : List Listener)
      → clock_line circuit clock v ++ texts_of_ended asked (dues_at pads clock v) before ≡ clock_text network asked clock v before
  text_is clock v before = ap₂ (λ (k : Circuit) (p : List Pad). clock_line k clock v ++ texts_of_ended asked (dues_at p clock v) before) same pads_are

  left_is : (clock : ℕ) (v : Levels) (before now : List Listener) → now ≡ stay asked (dues_at pads clock v) before
      → now ≡ stay asked (dues_at network.pads clock v) before
  left_is clock v before now left = left ∙ ap (λ (p : List Pad). stay asked (dues_at p clock v) before) pads_are

  pub first_ended : (v : Levels) (before now : List Listener) (old new : Option (List ℕ)) → ClockLevels network true [] nothing_known v
      → now ≡ stay asked (dues_at pads 0 v) before
      → Appends old new (clock_line circuit 0 v ++ texts_of_ended asked (dues_at pads 0 v) before)
      → Served network asked [] v before now old new
  first_ended v before now old new clock left gained =
      served_first network asked v before now old new clock (subst (Appends old new) (text_is 0 v before) gained) (left_is 0 v before now left)

  pub later_ended : (u : List (List Bool)) (v w : Levels) (before middle now : List Listener) (old mid new : Option (List ℕ)) (x : List Bool) (clock : ℕ)
      → clock ≡ length u + 1 → Served network asked u v before middle old mid → ClockLevels network false x v w
      → now ≡ stay asked (dues_at pads clock w) middle
      → Appends mid new (clock_line circuit clock w ++ texts_of_ended asked (dues_at pads clock w) middle)
      → Served network asked (u ++ x ∷ []) w before now old new
  later_ended u v w before middle now old mid new x clock number run step left gained =
      served_more network asked u v w before middle now old mid new x clock number run step (subst (Appends mid new) (text_is clock w middle) gained)
      (left_is clock w middle now left)

  module _ (clocks_exist : ClocksLevelsExist) (valid : IsNetwork network) where
    pub first_halted : (vectors : List (List Bool)) (v : Levels) (before now : List Listener) (old new : Option (List ℕ))
        → ClockLevels network true [] nothing_known v
        → ArePartlyServed asked (dues_at pads 0 v) before now
        → AppendsFront old new (clock_line circuit 0 v ++ texts_of_ended asked (dues_at pads 0 v) before)
        → GainsServedFront old new network vectors asked before now
    first_halted vectors v before now old new clock left gained =
        first_halts network asked clocks_exist valid vectors v before now old new clock (subst (AppendsFront old new) (text_is 0 v before) gained)
        (subst (λ (p : List Pad). ArePartlyServed asked (dues_at p 0 v) before now) pads_are left)

    pub later_halted : (vectors u more : List (List Bool)) (v w : Levels) (before middle now : List Listener) (old mid new : Option (List ℕ)) (x : List Bool)
        (clock : ℕ) → clock ≡ length u + 1 → vectors ≡ (u ++ x ∷ []) ++ more → Served network asked u v before middle old mid
        → ClockLevels network false x v w
        → ArePartlyServed asked (dues_at pads clock w) middle now
        → AppendsFront mid new (clock_line circuit clock w ++ texts_of_ended asked (dues_at pads clock w) middle)
        → GainsServedFront old new network vectors asked before now
    later_halted vectors u more v w before middle now old mid new x clock number whole run step left gained =
        later_halts network asked clocks_exist valid vectors u more v w before middle now old mid new x clock number whole run step
        (subst (AppendsFront mid new) (text_is clock w middle) gained)
        (subst (λ (p : List Pad). ArePartlyServed asked (dues_at p clock w) middle now) pads_are left)
