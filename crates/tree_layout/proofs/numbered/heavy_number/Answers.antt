use Rattle.tree_layout.proofs.numbered.heavy_number.Goals as goal

pub bounds-sizes-light : goal.bounds-sizes-light
bounds-sizes-light c = (c.requires.behind _ _ c.in-Some-Some.is-0 c.in-Some-Some.is-1).0
