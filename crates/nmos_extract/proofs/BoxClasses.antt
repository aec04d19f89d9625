-- The classes of the boxes of a set are its components.
use Rattle.std.proofs.Common.{◌≡◌, ◌↔◌, ◌⊎◌, inl, inr, ℕ, ◌<◌, ◌^◌, ◌+◌, Bool, true, List, [], length, Some, refl, sym, ap, subst, arith}
use Rattle.geom.specs.Squares.{BoxShape}
use Rattle.geom.specs.Rows.{Among}
use Rattle.canonical_boxes.specs.Touches.{IsTouch}
use Rattle.canonical_boxes.specs.Laws.{AreTouching, BoxesLead}
use Rattle.canonical_boxes.specs.Laws.BoxesLead.{here, step}
use Rattle.nmos_model.specs.Classes.{Classing, IsClassing, IsGraph, Linked, Reaches, class_at}
use Rattle.nmos_extract.specs.declared.links.Link.{Link}
use Rattle.nmos_extract.specs.Links.{AddsTouches, link}
use Rattle.nmos_extract.specs.Graphs.{AreBothWays, targets}
use Rattle.nmos_extract.specs.Components.{AreComponents}
use Rattle.nmos_extract.proofs.Targets.{linked_of, of_linked}

module _ (m : List BoxShape) (links both : List Link) (adds : AddsTouches m 0 [] links) (ways : AreBothWays links both) where
  touch_at : (a b i j : ℕ) → IsTouch m (record { lower = i; upper = j }) → link a b ≡ link (0 + i) (0 + j) → IsTouch m (record { lower = a; upper = b })
  touch_at a b i j t e =
      let f : i ≡ a = omega (arith, ap (λ (l : Link). l.from) e) in
      let g : j ≡ b = omega (arith, ap (λ (l : Link). l.to) e) in
      let P : ℕ → Type 0 = λ k. IsTouch m (record { lower = k; upper = b }) in
      let Q : ℕ → Type 0 = λ k. IsTouch m (record { lower = i; upper = k }) in
      subst P f (subst Q g t)

  touch_of : (a b : ℕ) → Among links (link a b) → IsTouch m (record { lower = a; upper = b })
  touch_of a b h = elim (adds.sound (link a b) h) [
    | inl none ↦ absurd none
    | inr t ↦ touch_at a b t.0 t.1 t.2 t.3
  ]

  touching_of : (a b : ℕ) → Linked (targets both) a b → AreTouching m a b
  touching_of a b l = elim ((ways (link a b)).0 (of_linked both a b l)) [
    | inl h ↦ inl (touch_of a b h)
    | inr h ↦ inr (touch_of b a h)
  ]

  link_of : (a b : ℕ) → IsTouch m (record { lower = a; upper = b }) → Among links (link a b)
  link_of a b t =
      let P : ℕ → Type 0 = λ k. Among links (link k b) in
      let Q : ℕ → Type 0 = λ k. Among links (link (0 + a) k) in
      let f : 0 + a ≡ a = omega arith in
      let g : 0 + b ≡ b = omega arith in
      subst P f (subst Q g (adds.all a b t))

  linked : (a b : ℕ) → AreTouching m a b → Linked (targets both) a b
  linked a b (inl t) = linked_of both a b ((ways (link a b)).1 (inl (link_of a b t)))
  linked a b (inr t) = linked_of both a b ((ways (link a b)).1 (inr (link_of b a t)))

  back : (a b : ℕ) → AreTouching m a b → AreTouching m b a
  back a b (inl t) = inr t
  back a b (inr t) = inl t

  within : (a b : ℕ) → AreTouching m a b → b < length m
  within a b (inl t) = t.upper.within
  within a b (inr t) = t.lower.within

  pub boxes_graph : IsGraph (length m) (λ n. true) (targets both)
  boxes_graph = record {
    within = λ a b n l. within a b (touching_of a b l);
    further = λ a b n l. refl;
    back = λ a b n l. linked b a (back a b (touching_of a b l));
  }

  reached : (a b : ℕ) → BoxesLead m a b → Reaches (targets both) a b
  reached _ _ (here i) = Reaches.here i
  reached _ _ (step i j k touch rest) = Reaches.step i j k (linked i j touch) (reached j k rest)

  leading : (a b : ℕ) → Reaches (targets both) a b → BoxesLead m a b
  leading _ _ (Reaches.here a) = here a
  leading _ _ (Reaches.step a b c l rest) = step a b c (touching_of a b l) (leading b c rest)

  pub are_components : (classes : Classing) → length m < 2 ^ 32 → IsClassing (length m) (λ n. true) (targets both) classes → AreComponents m classes
  are_components classes few h = record {
    size = h.size;
    few = few;
    some = λ i l. h.some i l refl;
    one = λ i j class l e. (
      (λ f. leading i j ((h.one i j class e).0 f)),
      (λ p. (h.one i j class e).1 (reached i j p)),
    );
    first = h.first;
    lowest = h.lowest;
    ascending = h.ascending;
  }
