-- The exit number and the line of the log for each way in which a run ends.
use Rattle.std.specs.Prelude.{ℕ, List, [], ◌∷◌, ◌++◌, Option, Some, None, codes, decimal}
use Rattle.std.specs.Fmt.{signed_decimal}
use Rattle.rx_text.specs.declared.place.Place.{Place}
use Rattle.rx_text.specs.declared.place.Place.TheVariants.{Text, Square, Whole}
use Rattle.rxc_program.specs.Codes.{code_text}
use Rattle.rxc_program.specs.declared.status.Status.{Status}
use Rattle.rxc_program.specs.declared.status.Status.TheVariants.{Done, Refused, Usage, ReadFault, WriteFault, NoMemory}

abbrev pub exit_number : Status → ℕ
exit_number Done = 0
exit_number (Refused code place) = 1
exit_number (Usage word) = 2
exit_number ReadFault = 3
exit_number WriteFault = 4
exit_number NoMemory = 5

-- the number of the word where the status is Usage
abbrev pub usage_word : Status → Option ℕ
usage_word (Usage word) = Some word
usage_word Done = None
usage_word (Refused code place) = None
usage_word ReadFault = None
usage_word WriteFault = None
usage_word NoMemory = None

-- ` at LINE:COLUMN`, ` at square X,Y`, or nothing for the input as a whole
abbrev pub place_text : Place → List ℕ
place_text (Text line column) = codes " at " ++ decimal line ++ (58 ∷ decimal column)
place_text (Square x y) = codes " at square " ++ signed_decimal x ++ (44 ∷ signed_decimal y)
place_text Whole = []

-- What the log takes: nothing where the run is done, else one line.
abbrev pub status_line : Status → List ℕ
status_line Done = []
status_line (Refused code place) = codes "rxc: " ++ code_text code ++ place_text place ++ codes "\n"
status_line (Usage word) = codes "rxc: usage, word " ++ decimal word ++ codes "\n"
status_line ReadFault = codes "rxc: read fault\n"
status_line WriteFault = codes "rxc: write fault\n"
status_line NoMemory = codes "rxc: no memory\n"
