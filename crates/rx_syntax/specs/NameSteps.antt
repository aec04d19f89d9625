-- One step of reading names.
use Rattle.std.specs.Prelude.{◌≡◌, ℕ, ◌<◌, ◌≤◌, ◌^◌, ◌-◌, nat_le, if◌then◌else◌, ⊤, true, false, List, Option, Some, None, length}
use Rattle.std.specs.List.{list_all}
use Rattle.std.specs.Str.Parse.{digits_value}
use Rattle.rx_text.specs.Name.{is_name}
use Rattle.rx_text.specs.NumberInText.{is_digit}
use Rattle.rx_syntax.specs.Uses.{Declared, is_declared}
use Rattle.rx_syntax.specs.WordUses.{WordUse, word_code}
use Rattle.rx_syntax.specs.UsesRead.{no_counts, repeated_leaves, counts_behind}
use Rattle.rx_syntax.specs.Accepted.{NameFault}
use Rattle.rx_syntax.specs.NameTables.{no_tables, declared_by}
use Rattle.rx_syntax.specs.NameReading.{word_by, tables_at}
use Rattle.rx_syntax.specs.declared.naming.NamesFault.{NamesFault}
use Rattle.rx_syntax.specs.declared.naming.NamesFault.TheVariants.{Fault, NoMemory}
use Rattle.rx_syntax.specs.declared.naming.Reading.{Reading}
use Rattle.rx_syntax.specs.declared.spec_code.SpecCode.{SpecCode}
use Rattle.rx_syntax.specs.declared.spec_code.SpecCode.TheVariants.{S13}
use Rattle.rx_syntax.specs.declared.use_kind.UseKind.{UseKind}
use Rattle.rx_syntax.specs.declared.use_kind.UseKind.TheVariants.{Line, Symbol, Output, Leaf, FurtherLeaf, Least, Most, Copies}

abbrev pub nothing_read : Reading
nothing_read = record { declarations = no_tables; tally = no_counts 0 }

abbrev pub declared_in : Reading → Declared
declared_in read = declared_by read.declarations read.tally.leaves

-- a name that is not declared
abbrev pub IsNew : List ℕ → Reading → Type 0
IsNew word read = (is_name word ≡ true) × (is_declared word (declared_by read.declarations 0) ≡ false)

-- digits, which write a number up to 255
abbrev pub IsBound : List ℕ → Type 0
IsBound word = (list_all is_digit word ≡ true) × (digits_value 10 word ≤ 255)

-- The word may be used so behind what was read.
abbrev pub MayFollow : UseKind → List ℕ → Reading → Type 0
MayFollow Line word read = IsNew word read
MayFollow Symbol word read = IsNew word read × (length read.declarations.symbols < 32)
MayFollow Output word read = IsNew word read × (length read.declarations.outputs < 16)
MayFollow Leaf word read = read.tally.leaves < 2 ^ 32 - 1
MayFollow FurtherLeaf word read = read.tally.leaves < 2 ^ 32 - 1
MayFollow Least word read = IsBound word
MayFollow Most word read = IsBound word
MayFollow Copies word read = repeated_leaves read.tally < 2 ^ 32
MayFollow used word read = ⊤

-- A word that is used as a name is one, and a number has only digits.
abbrev pub IsWordOf : Option UseKind → List ℕ → Type 0
IsWordOf (Some Line) word = is_name word ≡ true
IsWordOf (Some Symbol) word = is_name word ≡ true
IsWordOf (Some Output) word = is_name word ≡ true
IsWordOf (Some Least) word = list_all is_digit word ≡ true
IsWordOf (Some Most) word = list_all is_digit word ≡ true
IsWordOf used word = ⊤

-- the code that stands at a use, where there is one
abbrev pub word_code_of : ℕ → Declared → Option WordUse → Option SpecCode
word_code_of limit before None = None
word_code_of limit before (Some u) = word_code limit before u

-- the code that stands at a word that is used so
abbrev pub code_at : ℕ → Reading → UseKind → List ℕ → Option SpecCode
code_at limit read Copies word = if nat_le (repeated_leaves read.tally) limit then None else Some S13
code_at limit read used word = word_code_of limit (declared_in read) (word_by read.tally used word)

-- what was read behind a word that is used so
abbrev pub read_at : Reading → UseKind → List ℕ → Reading
read_at read used word = record {
  declarations = tables_at read.declarations used word;
  tally = counts_behind (λ n. n) used (digits_value 10 word) read.tally;
}

-- the code that stands at a piece of the text
abbrev pub code_over : ℕ → Reading → Option UseKind → List ℕ → Option SpecCode
code_over limit read None word = None
code_over limit read (Some used) word = code_at limit read used word

-- what was read behind a piece of the text
abbrev pub read_over : Reading → Option UseKind → List ℕ → Reading
read_over read None word = read
read_over read (Some used) word = read_at read used word

-- The fault is this code at this place, or want of memory.
abbrev pub Refuses : Option SpecCode → ℕ → NamesFault → Type 0
Refuses code at NoMemory = ⊤
Refuses code at (Fault found place) = (code ≡ Some found) × (place ≡ at)

-- The fault is the first of names and limits in the text, or want of memory.
abbrev pub IsNamesFault : List ℕ → ℕ → NamesFault → Type 0
IsNamesFault text limit NoMemory = ⊤
IsNamesFault text limit (Fault code place) = NameFault text limit code place
