-- The codes of refusals: their names, and those of each reader among them.
use Rattle.std.specs.Prelude.{ℕ, List, codes}
use Rattle.net_text.specs.declared.net_fault.NetCode.{NetCode}
use Rattle.net_text.specs.declared.net_fault.NetCode.TheVariants as net
use Rattle.rx_syntax.specs.declared.spec_code.SpecCode.{SpecCode}
use Rattle.rx_syntax.specs.declared.spec_code.SpecCode.TheVariants as spec
use Rattle.switch_sim.specs.declared.trace_code.TraceCode.{TraceCode}
use Rattle.switch_sim.specs.declared.trace_code.TraceCode.TheVariants as trace
use Rattle.rxc_program.specs.declared.status.Code.{Code}
use Rattle.rxc_program.specs.declared.status.Code.TheVariants.{S1, S2, S3, S4, S5, S6, S7, S8, S9, S10, S11, S12, S13, S14, S15, N1, N2, N3, N4, N5, N6, C1, C2, C3, C4, C5, C6, C7, C8, C9, C10, C11, C12, C13, C14, C15, X1, X2, X3, X4, X5, X6, V1, V2, V3, V4, I1}

-- the code of a fault in a specification
abbrev pub spec_code : SpecCode → Code
spec_code spec.S1 = S1
spec_code spec.S2 = S2
spec_code spec.S3 = S3
spec_code spec.S4 = S4
spec_code spec.S5 = S5
spec_code spec.S6 = S6
spec_code spec.S7 = S7
spec_code spec.S8 = S8
spec_code spec.S9 = S9
spec_code spec.S10 = S10
spec_code spec.S11 = S11
spec_code spec.S12 = S12
spec_code spec.S13 = S13
spec_code spec.S14 = S14
spec_code spec.S15 = S15

-- the code of a fault in a network text
abbrev pub net_code : NetCode → Code
net_code net.N1 = N1
net_code net.N2 = N2
net_code net.N3 = N3
net_code net.N4 = N4
net_code net.N5 = N5
net_code net.N6 = N6

-- the code of a fault in a trace
abbrev pub trace_code : TraceCode → Code
trace_code trace.V1 = V1
trace_code trace.V2 = V2
trace_code trace.V3 = V3
trace_code trace.V4 = V4

-- the code and its name
abbrev pub code_text : Code → List ℕ
code_text S1 = codes "S1 BadByte"
code_text S2 = codes "S2 BadToken"
code_text S3 = codes "S3 UnknownName"
code_text S4 = codes "S4 DoubleName"
code_text S5 = codes "S5 PatternLength"
code_text S6 = codes "S6 NoLines"
code_text S7 = codes "S7 NoSymbols"
code_text S8 = codes "S8 NoOutputs"
code_text S9 = codes "S9 NoExpression"
code_text S10 = codes "S10 TooManyLines"
code_text S11 = codes "S11 TooManySymbols"
code_text S12 = codes "S12 TooManyOutputs"
code_text S13 = codes "S13 TooManyLeaves"
code_text S14 = codes "S14 TooDeep"
code_text S15 = codes "S15 BadBounds"
code_text N1 = codes "N1 Syntax"
code_text N2 = codes "N2 NetOutOfRange"
code_text N3 = codes "N3 DoublePad"
code_text N4 = codes "N4 MissingPad"
code_text N5 = codes "N5 TooManyNets"
code_text N6 = codes "N6 AfterEnd"
code_text C1 = codes "C1 Syntax"
code_text C2 = codes "C2 LayerUnknown"
code_text C3 = codes "C3 NoLayer"
code_text C4 = codes "C4 SymbolUnknown"
code_text C5 = codes "C5 SymbolAgain"
code_text C6 = codes "C6 NestedDefinition"
code_text C7 = codes "C7 NotOnGrid"
code_text C8 = codes "C8 OutOfRange"
code_text C9 = codes "C9 ShapeNotInProfile"
code_text C10 = codes "C10 NoEnd"
code_text C11 = codes "C11 AfterEnd"
code_text C12 = codes "C12 BadLabel"
code_text C13 = codes "C13 TooManyBoxes"
code_text C14 = codes "C14 TooDeep"
code_text C15 = codes "C15 TooManyPoints"
code_text X1 = codes "X1 OddChannel"
code_text X2 = codes "X2 OddTerminals"
code_text X3 = codes "X3 OddLoad"
code_text X4 = codes "X4 LabelOnNothing"
code_text X5 = codes "X5 LabelsDisagree"
code_text X6 = codes "X6 MissingPad"
code_text V1 = codes "V1 BadBit"
code_text V2 = codes "V2 WrongWidth"
code_text V3 = codes "V3 TooManyVectors"
code_text V4 = codes "V4 NoChip"
code_text I1 = codes "I1 TooLong"
