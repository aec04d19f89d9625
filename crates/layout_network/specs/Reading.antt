-- What the reader of layouts answers.
use Rattle.std.specs.Prelude.{⊤, ℕ, List}
use Rattle.cif_read.specs.declared.faults.ReadCifFault.{ReadCifFault}
use Rattle.cif_read.specs.declared.faults.ReadCifFault.TheVariants as cif
use Rattle.nmos_model.specs.declared.refusal.ReadChipFault.{ReadChipFault}
use Rattle.nmos_model.specs.declared.refusal.ReadChipFault.TheVariants as chip
use Rattle.layout_network.specs.declared.fault.LayoutCode.TheVariants.{Drawing, Network}
use Rattle.layout_network.specs.declared.fault.ReadLayoutFault.{ReadLayoutFault}
use Rattle.layout_network.specs.declared.fault.ReadLayoutFault.TheVariants.{Fault, NoMemory}
use Rattle.layout_network.specs.Layouts.{LayoutRefusal}

-- A fault is the refusal of the layout; want of memory may come anywhere.
abbrev pub IsReadLayoutFault : List ℕ → ReadLayoutFault → Type 0
IsReadLayoutFault text (Fault fault) = LayoutRefusal text fault.code fault.place
IsReadLayoutFault text NoMemory = ⊤

-- ---- for private contracts

-- the same fault of a layout
abbrev pub cif_stop : ReadCifFault → ReadLayoutFault
cif_stop (cif.Fault fault) = Fault (record { code = Drawing fault.code; place = fault.place })
cif_stop cif.NoMemory = NoMemory

abbrev pub extract_stop : ReadChipFault → ReadLayoutFault
extract_stop (chip.Fault fault) = Fault (record { code = Network fault.code; place = fault.place })
extract_stop chip.NoMemory = NoMemory
