-- Drawings of tiles keep every rule.
use Rattle.std.proofs.Common.{◌≡◌, ◌↔◌, ℕ, ℤ, List, [], ◌∷◌, inl, refl, arith}
use Rattle.geom.specs.declared.layer.Layer.TheVariants.{Diffusion, Poly, Cut, Implant}
use Rattle.geom.specs.declared.chip.Label.{Label}
use Rattle.geom.specs.Rows.{Squares, Among}
use Rattle.geom.specs.Conduction.{Drawing, IsChannel, Leads}
use Rattle.nmos_model.specs.Lists.{Matched}
use Rattle.lambda_rules.specs.Classes.{InClass, IsPartner}
use Rattle.lambda_rules.specs.Rules.{Breaks, Component, Region, HasImplant}
use Rattle.lambda_rules.specs.Rules.Breaks.{narrow_diffusion, close_diffusion, narrow_poly, close_poly, narrow_metal, close_metal}
use Rattle.lambda_rules.specs.Rules.Breaks.{poly_by_diffusion, odd_gate, odd_cut, bare_cut, cut_by_gate, short_implant, implant_by_gate, strong_load}
use Rattle.lambda_rules.specs.Findings.{FindingShape, Breach, IsBreach, AreFindings}
use Rattle.tile_rules.specs.KeptRules.{TilesKeepRules}
use Rattle.tile_rules.proofs.Steps.{chain, ends}
use Rattle.tile_rules.proofs.Partners.{no_partner}
use Rattle.tile_rules.proofs.Tiled.{Facts, Tiled}
use Rattle.tile_rules.proofs.Widths.{diffusion_wide, poly_wide, metal_wide}
use Rattle.tile_rules.proofs.Spacing.{diffusion_apart, poly_apart, metal_apart}
use Rattle.tile_rules.proofs.Gates.{gates_whole}
use Rattle.tile_rules.proofs.Cuts.{cut_sized, cut_covered}
use Rattle.tile_rules.proofs.Implants.{implant_round}
use Rattle.tile_rules.proofs.NearChannels.{cut_far, implant_near, poly_near}
use Rattle.tile_rules.proofs.Loads.{loads_weak}

-- the square is of the set
member : (S : Squares) (x y u v : ℤ) → InClass S x y u v → S u v
member S x y u v c = ends S x y u v c.inside c.leads

-- what a square of the class leads to is of the class
further : (S : Squares) (x y u v s t : ℤ) → InClass S x y u v → Leads S u v s t → InClass S x y s t
further S x y u v s t c path = record { inside = c.inside; leads = chain S x y u v s t c.leads path }

module _ (Drawn : Drawing) (t : Tiled Drawn) where
  -- ---- classes that come near each other

  poly_joins : (a b c d x y : ℤ) → ((u v : ℤ) → Component Drawn Poly a b u v → Component Drawn Diffusion c d u v → ⊥)
      → IsPartner 1 (Component Drawn Poly a b) (Component Drawn Diffusion c d) x y → ⊥
  poly_joins a b c d x y apart = no_partner 1 (Component Drawn Poly a b) (Component Drawn Diffusion c d) (omega arith)
      (λ x y u v one other within.
      let m = poly_near Drawn t x y u v (member (Drawn Poly) a b x y one) (member (Drawn Diffusion) c d u v other) within in
      apart m.p m.q (further (Drawn Poly) a b x y m.p m.q one m.poly) (further (Drawn Diffusion) c d u v m.p m.q other m.diffusion)) x y

  cuts_stay_away : (a b c d x y : ℤ) → IsPartner 2 (Component Drawn Cut a b) (Region Drawn c d) x y → ⊥
  cuts_stay_away a b c d x y = no_partner 2 (Component Drawn Cut a b) (Region Drawn c d) (omega arith)
      (λ x y u v one other.
      cut_far Drawn t x y u v (member (Drawn Cut) a b x y one) (member (IsChannel Drawn) c d u v other)) x y

  implant_stays_away : (a b c d x y : ℤ) → (HasImplant Drawn c d → ⊥) → IsPartner 2 (Component Drawn Implant a b) (Region Drawn c d) x y → ⊥
  implant_stays_away a b c d x y none = no_partner 2 (Component Drawn Implant a b) (Region Drawn c d) (omega arith)
      (λ x y u v one other within. none (record {
        u = u;
        v = v;
        inside = other;
        implant = implant_near Drawn t x y u v (member (Drawn Implant) a b x y one) (member (IsChannel Drawn) c d u v other) within;
      })) x y

  -- ---- every rule

  unbroken : (labels : List Label) (rule : ℕ) (a b c d x y : ℤ) → Breaks Drawn labels rule a b c d x y → ⊥
  unbroken labels _ _ _ _ _ _ _ (narrow_diffusion x y is) = diffusion_wide Drawn t x y is.holds.inside
  unbroken labels _ _ _ _ _ _ _ (close_diffusion a b c d x y close) = diffusion_apart Drawn t a b c d x y close
  unbroken labels _ _ _ _ _ _ _ (narrow_poly x y is) = poly_wide Drawn t x y is.holds.inside
  unbroken labels _ _ _ _ _ _ _ (close_poly a b c d x y close) = poly_apart Drawn t a b c d x y close
  unbroken labels _ _ _ _ _ _ _ (narrow_metal x y is) = metal_wide Drawn t x y is.holds.inside
  unbroken labels _ _ _ _ _ _ _ (close_metal a b c d x y close) = metal_apart Drawn t a b c d x y close
  unbroken labels _ _ _ _ _ _ _ (poly_by_diffusion a b c d x y one other apart meet) = poly_joins a b c d x y apart meet.holds
  unbroken labels _ _ _ _ _ _ _ (odd_gate x y is odd) = odd (gates_whole Drawn t x y is)
  unbroken labels _ _ _ _ _ _ _ (odd_cut x y is odd) = odd (cut_sized Drawn t x y is)
  unbroken labels _ _ _ _ _ _ _ (bare_cut x y is bare) = bare (cut_covered Drawn t x y is)
  unbroken labels _ _ _ _ _ _ _ (cut_by_gate a b c d x y one other meet) = cuts_stay_away a b c d x y meet.holds
  unbroken labels _ _ _ _ _ _ _ (short_implant x y is has short) = short (implant_round Drawn t x y is.holds.inside has)
  unbroken labels _ _ _ _ _ _ _ (implant_by_gate a b c d x y one other none meet) = implant_stays_away a b c d x y none meet.holds
  unbroken labels _ _ _ _ _ _ _ (strong_load load c any pulls strong) = loads_weak Drawn t labels load c any pulls strong

-- ---- the list of findings

none_listed : (breaches : List Breach) (findings : List FindingShape) → ((p : Breach) → Among breaches p → ⊥)
    → Matched (λ p f. p.finding ≡ f) breaches findings → findings ≡ []
none_listed [] [] none named = refl
none_listed [] (f ∷ fs) none named = absurd named
none_listed (p ∷ ps) findings none named = absurd (none p (inl refl))

module _ (Drawn : Drawing) (labels : List Label) (none : (p : Breach) → IsBreach Drawn labels p → ⊥) where
  no_findings : AreFindings Drawn labels []
  no_findings = record { breaches = []; each = λ p among. absurd among; all = λ p is. none p is; once = tt; named = tt; ordered = tt }

  empty : (findings : List FindingShape) → AreFindings Drawn labels findings ↔ (findings ≡ [])
  empty findings = (
    λ are. none_listed are.breaches findings (λ p among. none p (are.each p among)) are.named,
    λ e. rw e no_findings,
  )

pub tiles_keep_rules : (facts : Facts) (Drawn : Drawing) → TilesKeepRules Drawn
tiles_keep_rules facts Drawn plan labels known alike =
    let t : Tiled Drawn = record { facts = facts; plan = plan; known = known; alike = alike } in
    record {
      unbroken = unbroken Drawn t labels;
      empty = empty Drawn labels (λ p. unbroken Drawn t labels p.finding.rule p.a p.b p.c p.d p.finding.x p.finding.y);
    }
