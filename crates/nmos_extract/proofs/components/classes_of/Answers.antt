-- The touches are the links of a graph, and its classes are the components.
use Rattle.std.proofs.Common.{◌≡◌, ℕ, ◌<◌, ◌^◌, true, List, [], length, sym, ◌∙◌, ap, subst, arith}
use Rattle.geom.specs.Squares.{BoxShape}
use Rattle.nmos_model.specs.Classes.{IsClassing, IsGraph}
use Rattle.nmos_extract.specs.declared.links.Link.{Link}
use Rattle.nmos_extract.specs.Graphs.{AreBothWays, targets}
use Rattle.nmos_extract.specs.Links.{AddsTouches}
use Rattle.nmos_extract.proofs.BoxClasses.{are_components, boxes_graph}
use Rattle.nmos_extract.proofs.components.classes_of.Goals as goal

pub classify-requires : goal.classify-requires
classify-requires c =
    let m : List BoxShape = c.args.set.now in
    let links : List Link = c.add_touches.new.links.items in
    let both : List Link = c.in_ok-graph.graph.links in
    let size : c.in-Ok.nodes ≡ length m = omega (arith, c.in-Ok.ensures, ap length c.boxes.ensures.list) in
    let nodes : c.in_ok-graph.graph.nodes ≡ length m = c.in_ok-graph.ensures.nodes ∙ size in
    let ways : AreBothWays links both = subst (λ (ls : List Link). AreBothWays ls both) c.deref.ensures.value c.in_ok-graph.ensures.links in
    let adds : AddsTouches m 0 [] links = subst (λ (ls : List Link). AddsTouches m 0 ls links) c.new-links.ensures.items c.in_ok-add_touches.ensures in
    subst (λ (n : ℕ). IsGraph n (λ k. true) (targets both)) (sym nodes) (boxes_graph m links both adds ways)

pub returns : goal.returns
returns c =
    let m : List BoxShape = c.args.set.now in
    let links : List Link = c.add_touches.new.links.items in
    let both : List Link = c.in_ok-graph.graph.links in
    let size : c.in-Ok.nodes ≡ length m = omega (arith, c.in-Ok.ensures, ap length c.boxes.ensures.list) in
    let nodes : c.in_ok-graph.graph.nodes ≡ length m = c.in_ok-graph.ensures.nodes ∙ size in
    let ways : AreBothWays links both = subst (λ (ls : List Link). AreBothWays ls both) c.deref.ensures.value c.in_ok-graph.ensures.links in
    let adds : AddsTouches m 0 [] links = subst (λ (ls : List Link). AddsTouches m 0 ls links) c.new-links.ensures.items c.in_ok-add_touches.ensures in
    let classing = subst (λ (n : ℕ). IsClassing n (λ k. true) (targets both) c.in_ok-classes.classes) nodes c.in_ok-classes.ensures in
    are_components m links both adds ways c.in_ok-classes.classes (omega (arith, c.in-Ok.ensures, ap length c.boxes.ensures.list)) classing
