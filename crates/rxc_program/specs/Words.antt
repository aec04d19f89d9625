-- Which lists of words are commands, and at which word any other list goes wrong.
use Rattle.std.specs.Prelude.{ℕ, suc, ◌+◌, ◌&&◌, Bool, true, false, List, [], ◌∷◌, ◌++◌, Option, Some, None, map, fold, max, find, bytes_eq, codes, option_map, is_some, if◌then◌else◌}
use Rattle.rxc_program.specs.DemoWords.{is_leaf_count, is_start, number_in}
use Rattle.rxc_program.specs.declared.words.Command.{Command}
use Rattle.rxc_program.specs.declared.words.Command.TheVariants.{Net, Pla, Tree, Extract, Sim, Report, Demo}

-- the commands that one word names, with it
abbrev pub lone_commands : List (List ℕ × Command)
lone_commands =
    (codes "net", Net) ∷ (codes "pla", Pla) ∷ (codes "tree", Tree) ∷ (codes "extract", Extract) ∷ (codes "sim", Sim) ∷ (codes "report", Report) ∷ []

-- a test for each word of a command, and the command that such words name
pub record Usage : Type 0 where
  pub tests : List (List ℕ → Bool)
  pub names : List (List ℕ) → Command

abbrev pub lone_usage : List ℕ × Command → Usage
lone_usage named = record { tests = (λ word. bytes_eq word named.0) ∷ []; names = λ words. named.1 }

-- `demo START LEAVES`
abbrev pub demo_usage : Usage
demo_usage = record {
  tests = (λ word. bytes_eq word (codes "demo")) ∷ is_start ∷ is_leaf_count ∷ [];
  names = λ words. Demo (number_in words 1) (number_in words 2);
}

abbrev pub commands : List Usage
commands = map lone_usage lone_commands ++ demo_usage ∷ []

-- the words are just such as the tests ask for
abbrev pub fits : List (List ℕ) → List (List ℕ → Bool) → Bool
fits [] [] = true
fits [] (test ∷ tests) = false
fits (word ∷ words) [] = false
fits (word ∷ words) (test ∷ tests) = test word && fits words tests

-- how many of the words, from the first on, are such as the tests ask for
abbrev pub goes_on : List (List ℕ) → List (List ℕ → Bool) → ℕ
goes_on [] tests = 0
goes_on (word ∷ words) [] = 0
goes_on (word ∷ words) (test ∷ tests) = if test word then suc (goes_on words tests) else 0

-- the command that the words name
abbrev pub command_of : List (List ℕ) → Option Command
command_of words = option_map (λ usage. usage.names words) (find (λ usage. fits words usage.tests) commands)

-- The number, from 1, of the first word at which no command goes on, where the words are no command.
abbrev pub wrong_word : List (List ℕ) → Option ℕ
wrong_word words =
    if is_some (command_of words) then None else Some (1 + fold max 0 (map (λ usage. goes_on words usage.tests) commands))
