-- What the words of a command line come to, in steps.
use Rattle.std.specs.Prelude.{◌≡◌, ⊤, ℕ, ◌≤◌, ◌==◌, nat_le, List, [], ◌∷◌, find, bytes_eq, option_map, Option, Some, None, Result, Ok, Err, IfOk, if◌then◌else◌}
use Rattle.std.specs.Result.{result_err}
use Rattle.std.specs.Str.Parse.{digits_value}
use Rattle.rx_text.specs.declared.number.NumberFault.{NumberFault}
use Rattle.rxc_program.specs.DemoWords.{is_leaf_count, is_start}
use Rattle.rxc_program.specs.Words.{command_of, lone_commands, wrong_word}
use Rattle.rxc_program.specs.declared.words.Command.{Command}
use Rattle.rxc_program.specs.declared.words.Command.TheVariants.{Net, Pla, Tree, Extract, Sim, Report, Demo}

-- the command is not `demo`, or `demo` for 1 to 4096 symbols
abbrev pub HasLeafCount : Command → Type 0
HasLeafCount Net = ⊤
HasLeafCount Pla = ⊤
HasLeafCount Tree = ⊤
HasLeafCount Extract = ⊤
HasLeafCount Sim = ⊤
HasLeafCount Report = ⊤
HasLeafCount (Demo start leaves) = (1 ≤ leaves) × (leaves ≤ 4096)

-- The words come to this: the command that they name, or the number of the first wrong word.
pub record Names (words : List (List ℕ)) (result : Result Command ℕ) : Type 0 where
  pub command : IfOk result (λ command. command_of words ≡ Some command)
  pub leaves : IfOk result HasLeafCount
  pub wrong : result_err result ≡ wrong_word words

-- the command that the word names alone
abbrev pub lone_command : List ℕ → Option Command
lone_command word = option_map (λ named. named.1) (find (λ named. bytes_eq word named.0) lone_commands)

-- a command whose word no word follows
abbrev pub alone : Command → ℕ → Result Command ℕ
alone command count = if count == 0 then Ok command else Err 2

-- the number that was read, where it is at least this one
abbrev pub kept : ℕ → Result (ℕ × ℕ) NumberFault → Option ℕ
kept least (Ok read) = if nat_le least read.0 then Some read.0 else None
kept least (Err fault) = None

-- what the words behind `demo` and its first number come to
abbrev pub demo_from : ℕ → List (List ℕ) → Result Command ℕ
demo_from start [] = Err 3
demo_from start (leaves ∷ []) = if is_leaf_count leaves then Ok (Demo start (digits_value 10 leaves)) else Err 3
demo_from start (leaves ∷ (more ∷ words)) = if is_leaf_count leaves then Err 4 else Err 3

-- what the words behind `demo` come to
abbrev pub demo_named : List (List ℕ) → Result Command ℕ
demo_named [] = Err 2
demo_named (start ∷ words) = if is_start start then demo_from (digits_value 10 start) words else Err 2
