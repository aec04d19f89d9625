-- What a run promises for all words, from how the command that they name ran.
use Rattle.std.proofs.Common.{◌≡◌, ℕ, ◌≤◌, Bool, true, false, List, Some, None, length, refl, sym, ap, ◌∙◌, subst, arith}
use Rattle.rx_lang.specs.Specification.{Specification}
use Rattle.rx_syntax.specs.Accepted.{Accepted}
use Rattle.rxc_program.proofs.Endings.{known_run, no_usage, writes_such}
use Rattle.rxc_program.proofs.Judged.{is_reading, refuses_nothing}
use Rattle.rxc_program.proofs.Unread.{known_unread}
use Rattle.rxc_program.specs.Behaviour.{Behaviour, InputsAreJudged, IsAcceptedInput, most_input_bytes}
use Rattle.rxc_program.specs.Commands.{behaviour, compiler}
use Rattle.rxc_program.specs.Compiling.{compiling}
use Rattle.rxc_program.specs.Endings.{Change, CommandRun, KnownRun, WritesSuch}
use Rattle.rxc_program.specs.Files.{FileKind, IsFileOf, network_file, pla_file, tree_file}
use Rattle.rxc_program.specs.Promises.{CompilesAccepted, JudgesInput, ReportsWords, RunsCommand, ShowsLanguages}
use Rattle.rxc_program.specs.Simulating.{simulating}
use Rattle.rxc_program.specs.StatusText.{usage_word}
use Rattle.rxc_program.specs.Telling.{FilesShowTheirLanguages, TellsLanguages}
use Rattle.rxc_program.specs.Words.{command_of, wrong_word}
use Rattle.rxc_program.specs.declared.status.Status.{Status}
use Rattle.rxc_program.specs.declared.words.Command.{Command}
use Rattle.rxc_program.specs.declared.words.Command.TheVariants.{Net, Pla, Tree, Sim}

-- an input that is not too long and that the command accepts is accepted
accepted_input : (does : Behaviour) (text : List ℕ) → length text ≤ most_input_bytes → does.Accepts text → IsAcceptedInput does text
accepted_input does text within accepts = record { within = λ long. absurd (omega (arith, long.1, within)); accepts = accepts }

module _ {Source Sink : Type 0} (words : List (List ℕ)) (source : Change Source) (sink : Change Sink) where
  -- words that name a command have no wrong word
  no_wrong_word : (command : Command) → command_of words ≡ Some command → wrong_word words ≡ None
  no_wrong_word command e = rw e refl

  module _ (status : Status) (ran : (command : Command) → command_of words ≡ Some command → CommandRun (behaviour command) source sink status)
      (judged : (command : Command) → InputsAreJudged (behaviour command)) where
    pub judges_input : JudgesInput words source sink status
    judges_input command e text told = by (behaviour command).reads refl
      where
        by : (b : Bool) → (behaviour command).reads ≡ b → KnownRun (behaviour command) source sink text status
        by true reads = known_run (behaviour command) source sink (is_reading judged command reads) text told status (ran command e).ends
        by false unread = known_unread (behaviour command) source sink unread (refuses_nothing command unread) text status (ran command e).ends

    -- a kind of file, and the run of its compiler
    by_kind : (kind : FileKind) → CommandRun (behaviour (compiler kind)) source sink status → (text : List ℕ)
        → source.bytes source.before ≡ Some text → IsAcceptedInput (compiling kind) text → (Is : List ℕ → Type 0)
        → ((output : List ℕ) (end : Status) → (compiling kind).Outputs text output end → Is output)
        → WritesSuch (compiling kind) source sink Is status
    by_kind network_file run text told accepted Is such =
        writes_such (behaviour Net) source sink (is_reading judged Net refl) text told accepted Is such status run.ends
    by_kind pla_file run text told accepted Is such =
        writes_such (behaviour Pla) source sink (is_reading judged Pla refl) text told accepted Is such status run.ends
    by_kind tree_file run text told accepted Is such =
        writes_such (behaviour Tree) source sink (is_reading judged Tree refl) text told accepted Is such status run.ends

    pub compiles_accepted : ((text : List ℕ) (limit other : ℕ) (some others : Specification)
        → Accepted text limit some → Accepted text other others → some ≡ others) → CompilesAccepted words source sink status
    compiles_accepted one_specification kind e text given spec accepted =
        by_kind kind (ran (compiler kind) e) text given.0 (accepted_input (compiling kind) text given.1 (spec, accepted)) (IsFileOf kind spec)
        (λ output end outputs. subst (λ s. IsFileOf kind s output)
        (one_specification text _ _ outputs.1.spec spec outputs.1.accepted accepted) outputs.1.file_of)

    pub shows_languages : FilesShowTheirLanguages → ShowsLanguages words source sink status
    shows_languages files e text given spec vectors drives =
        let told = files text spec vectors drives in
        writes_such simulating source sink (is_reading judged Sim refl) text given.0 (accepted_input simulating text given.1 told.0)
        (TellsLanguages spec vectors) (λ output end outputs. told.1 output outputs.1) status (ran Sim e).ends

  -- the run of a command is one of each command that the words name
  pub runs_command : (status : Status) (command : Command) → command_of words ≡ Some command → CommandRun (behaviour command) source sink status
      → RunsCommand words source sink status
  runs_command status command e ran other f =
      let clash : Some command ≡ Some other = sym e ∙ f in
      let same : command ≡ other = cc in
      subst (λ c. CommandRun (behaviour c) source sink status) same ran

  -- no command ends as wrong words
  pub reports_none : (status : Status) (command : Command) → command_of words ≡ Some command → CommandRun (behaviour command) source sink status
      → ReportsWords words source sink status
  reports_none status command e ran =
      let none = no_usage (behaviour command) source sink status ran.ends in
      record {
        word = none ∙ sym (no_wrong_word command e);
        untouched = λ word is. (let clash : Some word ≡ None = ap usage_word (sym is) ∙ none in absurd (cc));
      }

  -- wrong words name no command
  pub no_command : (word : ℕ) (command : Command) → wrong_word words ≡ Some word → command_of words ≡ Some command → ⊥
  no_command word command wrong e = let clash : None ≡ Some word = sym (no_wrong_word command e) ∙ wrong in cc
