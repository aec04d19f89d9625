-- What a run of any words promises.
use Rattle.std.specs.Prelude.{◌≡◌, ◌≤◌, ℕ, Bool, List, Some, length}
use Rattle.rx_lang.specs.Specification.{Specification}
use Rattle.rx_syntax.specs.Accepted.{Accepted}
use Rattle.rxc_program.specs.Behaviour.{most_input_bytes}
use Rattle.rxc_program.specs.Commands.{behaviour, compiler}
use Rattle.rxc_program.specs.Compiling.{compiling}
use Rattle.rxc_program.specs.Endings.{Change, CommandRun, KnownRun, Untouched, WritesSuch}
use Rattle.rxc_program.specs.Files.{FileKind, IsFileOf, most_leaves}
use Rattle.rxc_program.specs.Simulating.{simulating}
use Rattle.rxc_program.specs.Telling.{DrivesFile, TellsLanguages}
use Rattle.rxc_program.specs.Words.{command_of, wrong_word}
use Rattle.rxc_program.specs.StatusText.{usage_word}
use Rattle.rxc_program.specs.declared.status.Status.{Status}
use Rattle.rxc_program.specs.declared.status.Status.TheVariants.{Usage}
use Rattle.rxc_program.specs.declared.words.Command.{Command}
use Rattle.rxc_program.specs.declared.words.Command.TheVariants.{Sim}

module _ {Source Sink : Type 0} (words : List (List ℕ)) (source : Change Source) (sink : Change Sink) (status : Status) where
  -- the source has this text, which is not too long
  abbrev pub Gives : List ℕ → Type 0
  Gives text = (source.bytes source.before ≡ Some text) × (length text ≤ most_input_bytes)

  -- Where the words compile and the text is an accepted specification, a file that recognises its languages is written, or
  -- the status reports a source or a sink that failed, or want of memory.
  abbrev pub CompilesAccepted : Type 0
  CompilesAccepted =
      (kind : FileKind) → command_of words ≡ Some (compiler kind) → (text : List ℕ) → Gives text
      → (spec : Specification) → Accepted text (most_leaves kind) spec → WritesSuch (compiling kind) source sink (IsFileOf kind spec) status

  -- Where the word is `sim` and the text a trace and the file of an accepted specification, the bits of its languages are
  -- written, or the status reports a source or a sink that failed, or want of memory.
  abbrev pub ShowsLanguages : Type 0
  ShowsLanguages =
      command_of words ≡ Some Sim → (text : List ℕ) → Gives text
      → (spec : Specification) (vectors : List (List Bool)) → DrivesFile text spec vectors → WritesSuch simulating source sink (TellsLanguages spec vectors) status

  -- where the words name a command, this is a run of it
  abbrev pub RunsCommand : Type 0
  RunsCommand = (command : Command) → command_of words ≡ Some command → CommandRun (behaviour command) source sink status

  -- where the words name a command and the input is known, the run ends by whether it is accepted
  abbrev pub JudgesInput : Type 0
  JudgesInput =
      (command : Command) → command_of words ≡ Some command → (text : List ℕ) → source.bytes source.before ≡ Some text
      → KnownRun (behaviour command) source sink text status

  -- where the words are no command, and nowhere else, the status names the first wrong word, and nothing was read or written
  pub record ReportsWords : Type 0 where
    pub word : usage_word status ≡ wrong_word words
    pub untouched : (word : ℕ) → status ≡ Usage word → Untouched source × Untouched sink
