-- What each command does.
use Rattle.std.specs.Prelude.{⊤, ℕ, List}
use Rattle.rxc_program.specs.Behaviour.{Behaviour, IsDecided}
use Rattle.rxc_program.specs.Compiling.{compiling}
use Rattle.rxc_program.specs.Extracting.{extracting}
use Rattle.rxc_program.specs.Files.{FileKind, network_file, pla_file, tree_file}
use Rattle.rxc_program.specs.Reporting.{demonstrating, reporting}
use Rattle.rxc_program.specs.Simulating.{HasLayout, simulating}
use Rattle.rxc_program.specs.declared.words.Command.{Command}
use Rattle.rxc_program.specs.declared.words.Command.TheVariants.{Net, Pla, Tree, Extract, Sim, Report, Demo}

-- the command that compiles a specification to a file of this kind
abbrev pub compiler : FileKind → Command
compiler network_file = Net
compiler pla_file = Pla
compiler tree_file = Tree

-- what the command does
abbrev pub behaviour : Command → Behaviour
behaviour Net = compiling network_file
behaviour Pla = compiling pla_file
behaviour Tree = compiling tree_file
behaviour Extract = extracting
behaviour Sim = simulating
behaviour Report = reporting
behaviour (Demo start leaves) = demonstrating start leaves

-- the command reads a layout in the text
abbrev pub HoldsLayout : Command → List ℕ → Type 0
HoldsLayout Extract text = ⊤
HoldsLayout Sim text = HasLayout text
HoldsLayout other text = ⊥

-- Every input in which the command reads no layout is accepted or refused.
abbrev pub InputsAreDecided : Command → Type 0
InputsAreDecided command = (text : List ℕ) → (HoldsLayout command text → ⊥) → IsDecided (behaviour command) text
