-- The chain of the symbol that is found.
use Rattle.std.proofs.Common.{◌≡◌, List, get_or, Some, None, subst}
use Rattle.cif_drawing.specs.declared.ink.Symbol.{Symbol}
use Rattle.cif_drawing.specs.Parts.{DrawingParts, part_of, part_chain}
use Rattle.cif_drawing.proofs.Calling.{found_short, part_chain_some, part_chain_none}
use Rattle.cif_drawing.proofs.building.DrawingBuilder.chain_of_call.Goals as goal

pub chain_of_call-requires : goal.chain_of_call-requires
chain_of_call-requires c =
    let P : List Symbol → Type 0 = λ l. c.index-symbols-index.result ≡ get_or l c.in-Some.index c.index-symbols-index.result in
    found_short c.self.inside.symbols c.in-Some.index c.index-symbols-index.result c.in-Some.ensures.within (subst P c.list-symbols.ensures c.index-symbols-index.is)
    c.self.invariant.drawing.symbols

pub returns-in-Some : goal.returns-in-Some
returns-in-Some c =
    let P : List Symbol → Type 0 = λ l. c.index-symbols-index.result ≡ get_or l c.in-Some.index c.index-symbols-index.result in
    let Q : DrawingParts → Type 0 = λ v. Some c.chain_of_call.result ≡ part_chain (part_of v c.args.number) in
    subst Q c.self.view_is
    (part_chain_some c.self.inside.symbols c.args.number c.in-Some.index c.index-symbols-index.result c.chain_of_call.result (record {
      all = c.self.invariant.drawing.symbols;
      index = c.in-Some.ensures;
      is = subst P c.list-symbols.ensures c.index-symbols-index.is;
      chain_of = c.chain_of_call.ensures;
    }))

pub returns-in-None : goal.returns-in-None
returns-in-None c =
    let P : DrawingParts → Type 0 = λ v. None ≡ part_chain (part_of v c.args.number) in
    subst P c.self.view_is (part_chain_none c.self.inside.symbols c.args.number c.self.invariant.drawing.symbols c.in-None.ensures)
