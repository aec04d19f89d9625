-- The links of each layer, and of the cuts.
use Rattle.nmos_extract.proofs.Linked.{links_by}
use Rattle.nmos_extract.proofs.links.links_of.Goals as goal

pub returns : goal.returns
returns c =
    links_by c.args.conductors.now c.args.cut.now c.in_ok-under.under c.in_ok-to_poly.to_poly c.in_ok-to_diffusion.to_diffusion c.metal-metal.result.now
    c.poly-poly.result.now c.diffusion-diffusion.result.now c.first_node-first_poly.result c.first_node-first_diffusion.result
    c.metal-metal.ensures c.poly-poly.ensures c.diffusion-diffusion.ensures c.first_node-first_poly.ensures c.first_node-first_diffusion.ensures
    c.in_ok-under.ensures c.in_ok-to_poly.ensures c.in_ok-to_diffusion.ensures c.new-links.result.items c.add_touches.new.links.items
    c.add_touches-2.new.links.items c.add_touches-3.new.links.items c.add_cuts.new.links.items c.add_cuts-2.new.links.items c.new-links.ensures.items
    c.in_ok-add_touches.ensures c.in_ok-add_touches-2.ensures c.in_ok-add_touches-3.ensures c.in_ok-add_cuts.ensures c.in_ok-add_cuts-2.ensures
