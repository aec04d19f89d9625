-- The codes of refusals of layouts.
use Rattle.geom.specs.declared.cif_code.CifCode.{CifCode}
use Rattle.geom.specs.declared.cif_code.CifCode.TheVariants as cif
use Rattle.nmos_model.specs.declared.refusal.ExtractCode.{ExtractCode}
use Rattle.nmos_model.specs.declared.refusal.ExtractCode.TheVariants as chip
use Rattle.layout_network.specs.declared.fault.LayoutCode.{LayoutCode}
use Rattle.layout_network.specs.declared.fault.LayoutCode.TheVariants.{Drawing, Network}
use Rattle.rxc_program.specs.declared.status.Code.{Code}
use Rattle.rxc_program.specs.declared.status.Code.TheVariants.{C1, C2, C3, C4, C5, C6, C7, C8, C9, C10, C11, C12, C13, C14, C15, X1, X2, X3, X4, X5, X6}

-- the code of a fault in a CIF text, or in what it draws
abbrev pub cif_code : CifCode → Code
cif_code cif.C1 = C1
cif_code cif.C2 = C2
cif_code cif.C3 = C3
cif_code cif.C4 = C4
cif_code cif.C5 = C5
cif_code cif.C6 = C6
cif_code cif.C7 = C7
cif_code cif.C8 = C8
cif_code cif.C9 = C9
cif_code cif.C10 = C10
cif_code cif.C11 = C11
cif_code cif.C12 = C12
cif_code cif.C13 = C13
cif_code cif.C14 = C14
cif_code cif.C15 = C15

-- the code of squares and labels that stand for no network
abbrev pub extract_code : ExtractCode → Code
extract_code chip.X1 = X1
extract_code chip.X2 = X2
extract_code chip.X3 = X3
extract_code chip.X4 = X4
extract_code chip.X5 = X5
extract_code chip.X6 = X6

-- the code of a fault in a layout
abbrev pub layout_code : LayoutCode → Code
layout_code (Drawing code) = cif_code code
layout_code (Network code) = extract_code code
