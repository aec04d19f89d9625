-- Steps of serving the probes of a list.
use Rattle.std.specs.Prelude.{◌≡◌, ℕ, ◌+◌, List, [], ◌∷◌, ◌++◌, length, Option}
use Rattle.std.specs.Io.KnownBytes.{Appends}
use Rattle.rx_io.specs.Streams.{AppendsFront}
use Rattle.sim_probe.specs.Manner.{Manner}
use Rattle.sim_probe.specs.declared.sample.Sample.{Sample}
use Rattle.switch_sim.specs.Serving.{Listener, stay, texts_of_ended, ArePartlyServed}
use Rattle.switch_sim.specs.declared.serving.Asked.{Asked}

-- One listener of a list was served: it stays, or it is taken out and its text was written. The next stands at this place.
pub record ServesOne (asked : Asked) (dues : Manner → List Sample) (one : Listener) (next : ℕ)
    (front rest now : List Listener) (old new : Option (List ℕ)) : Type 0 where
  pub now_is : now ≡ front ++ stay asked dues (one ∷ []) ++ rest
  pub next_is : next ≡ length front + length (stay asked dues (one ∷ []))
  pub gained : Appends old new (texts_of_ended asked dues (one ∷ []))

-- It was not served to its end.
pub record ServesPartOfOne (asked : Asked) (dues : Manner → List Sample) (one : Listener) (front rest now : List Listener) (old new : Option (List ℕ))
    : Type 0 where
  pub middle : List Listener
  pub now_is : now ≡ front ++ middle ++ rest
  pub partly : ArePartlyServed asked dues (one ∷ []) middle
  pub gained : AppendsFront old new (texts_of_ended asked dues (one ∷ []))
