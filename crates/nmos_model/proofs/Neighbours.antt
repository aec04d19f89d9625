-- The links of conducting squares: to which numbers they lead.
use Rattle.std.proofs.Common.{◌≡◌, inl, inr, ℕ, zero, suc, ◌<◌, ◌≤◌, ◌+◌, ◌-◌, ◌*◌, ◌/◌, ◌%◌, arith, refl, sym, ap, subst, ◌∙◌, Bool, true, false, cond, Option, None, Some, length}
use Rattle.nmos_model.specs.Classes.{Linked}
use Rattle.nmos_model.specs.Conductors.{Squares, is_node, link_to, links, other_layer, conducts, layer_of}
use Rattle.geom.specs.declared.layer.Layer.{Layer}
use Rattle.geom.specs.declared.layer.Layer.TheVariants.{Diffusion, Poly, Metal, Cut, Implant}
use Rattle.std.proofs.Math.ListN.{get_or-eq_default}
use Rattle.nmos_model.specs.Rasters.{cover_at, bare}
use Rattle.nmos_model.proofs.Common.{inside, some_inside, below_or_above}

bare_conducts_not : (layer : Layer) → conducts layer bare ≡ false
bare_conducts_not Diffusion = refl
bare_conducts_not Poly = refl
bare_conducts_not Metal = refl
bare_conducts_not Cut = refl
bare_conducts_not Implant = refl

-- where a link may lead
pub data Neighbour (squares : Squares) (a : ℕ) : ℕ → Type 0 where
  west : Neighbour squares a (a - 3)
  east : Neighbour squares a (a + 3)
  south : Neighbour squares a (a - 3 * squares.width)
  north : Neighbour squares a (a + 3 * squares.width)
  first_under : (cover_at squares.covers (a / 3)).cut ≡ true → Neighbour squares a (other_layer a 1)
  second_under : (cover_at squares.covers (a / 3)).cut ≡ true → Neighbour squares a (other_layer a 2)

pub found : (t : Bool) (n b : ℕ) → cond t (Some n) None ≡ Some b → (t ≡ true) × (n ≡ b)
found true n b e = (refl, inside n b e)
found false n b e = absurd (cc)

found_under : (t : Bool) (o : Option ℕ) (b : ℕ) → cond t o None ≡ Some b → (t ≡ true) × (o ≡ Some b)
found_under true o b e = (refl, e)
found_under false o b e = absurd (cc)

module _ (squares : Squares) (a : ℕ) where
  at_neighbour : (n b : ℕ) → Neighbour squares a n → link_to squares n ≡ Some b → Neighbour squares a b × (is_node squares b ≡ true)
  at_neighbour n b near e =
      let f = found (is_node squares n) n b e in
      (subst (λ m. Neighbour squares a m) f.1 near, subst (λ m. is_node squares m ≡ true) f.1 f.0)

  pub neighbours : (b : ℕ) → Linked (links squares) a b → Neighbour squares a b × (is_node squares b ≡ true)
  neighbours b (zero, e) = at_neighbour _ b west (some_inside _ _ e)
  neighbours b (suc zero, e) = at_neighbour _ b east (some_inside _ _ e)
  neighbours b (suc (suc zero), e) = at_neighbour _ b south (some_inside _ _ e)
  neighbours b (suc (suc (suc zero)), e) = at_neighbour _ b north (some_inside _ _ e)
  neighbours b (suc (suc (suc (suc zero))), e) =
      let f = found_under _ _ b (some_inside _ _ e) in at_neighbour _ b (first_under f.0) f.1
  neighbours b (suc (suc (suc (suc (suc zero)))), e) =
      let f = found_under _ _ b (some_inside _ _ e) in at_neighbour _ b (second_under f.0) f.1
  neighbours b (suc (suc (suc (suc (suc (suc at))))), e) = absurd (cc)

  linked_to : (n : ℕ) → is_node squares n ≡ true → link_to squares n ≡ Some n
  linked_to n e = rw e refl

  pub linked : (b : ℕ) → Neighbour squares a b → is_node squares b ≡ true → Linked (links squares) a b
  linked _ west e = (0, ap Some (linked_to _ e))
  linked _ east e = (1, ap Some (linked_to _ e))
  linked _ south e = (2, ap Some (linked_to _ e))
  linked _ north e = (3, ap Some (linked_to _ e))
  linked _ (first_under cut) e = (4, ap Some (rw cut (linked_to _ e)))
  linked _ (second_under cut) e = (5, ap Some (rw cut (linked_to _ e)))

  -- a neighbour's neighbour, where the square lies inside
  pub neighbour_back : (b : ℕ) → 3 * squares.width ≤ a → 3 ≤ a → Neighbour squares a b → Neighbour squares b a
  neighbour_back _ up left west = subst (λ m. Neighbour squares (a - 3) m) (omega arith) east
  neighbour_back _ up left east = subst (λ m. Neighbour squares (a + 3) m) (omega arith) west
  neighbour_back _ up left south = subst (λ m. Neighbour squares (a - 3 * squares.width) m) (omega arith) north
  neighbour_back _ up left north = subst (λ m. Neighbour squares (a + 3 * squares.width) m) (omega arith) south
  neighbour_back _ up left (first_under cut) =
      let cell : other_layer a 1 / 3 ≡ a / 3 = omega arith in
      subst (λ m. Neighbour squares (other_layer a 1) m) (omega arith) (second_under (rw cell cut))
  neighbour_back _ up left (second_under cut) =
      let cell : other_layer a 2 / 3 ≡ a / 3 = omega arith in
      subst (λ m. Neighbour squares (other_layer a 2) m) (omega arith) (first_under (rw cell cut))

  -- a node is one of the numbers
  pub node_within : is_node squares a ≡ true → a < 3 * length squares.covers
  node_within e =
      elim (below_or_above (length squares.covers) (a / 3)) [
        | inr below ↦ omega arith
        | inl beyond ↦
            let none = get_or-eq_default squares.covers bare beyond in
            let dead = ap (conducts (layer_of (a % 3))) none ∙ bare_conducts_not (layer_of (a % 3)) in
            absurd (let f = sym e ∙ dead in cc)
      ]
