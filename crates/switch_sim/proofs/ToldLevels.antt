-- One more net that is told.
use Rattle.std.proofs.Common.{◌≡◌, ◌≢◌, inl, inr, ℕ, ◌<◌, ◌||◌, Bool, true, false, List, Option, Some, None, length, get_or, get_or-set_same, get_or-set_other, refl, sym, ap, ◌∙◌, subst, arith}
use Rattle.std.proofs.Math.ListN.{set}
use Rattle.std.proofs.lemmas.Bool.{cases_eq}
use Rattle.std.proofs.lemmas.List.Sums.{sum_by-set}
use Rattle.switch_net.specs.Circuit.{Circuit}
use Rattle.switch_net.specs.LeastLevels.{Tells}
use Rattle.switch_net.specs.LeastLevels.AreToldByOnes.{one_more}
use Rattle.switch_net.specs.Settling.{IsFree}
use Rattle.switch_net.specs.Ternary.{level_of}
use Rattle.switch_net.specs.declared.network.Level.{Level}
use Rattle.switch_net.specs.declared.network.Level.TheVariants.{Unknown}
use Rattle.switch_sim.specs.Grouping.{told_at, RightlyTold}
use Rattle.switch_sim.specs.Simulation.{level_at}
use Rattle.switch_sim.specs.ToldLevels.{IsToldNothing, TellsAt, LeadsOn, one_unknown, unknowns}

none_unknown : (b : Bool) → one_unknown (level_of b) ≡ 0
none_unknown true = refl
none_unknown false = refl

not_unknown : (b : Bool) → Unknown ≡ level_of b → ⊥
not_unknown true e = cc
not_unknown false e = cc

pub fewer_unknown : (old new : List Level) (told : List (Option Bool)) (net : ℕ) → net < length old → TellsAt old new told net → unknowns new < unknowns old
fewer_unknown old new told net lt tells =
    let total = sum_by-set one_unknown old net (level_of tells.level) Unknown lt in
    let before : one_unknown (get_or old net Unknown) ≡ 1 = ap one_unknown tells.unknown in
    let after = none_unknown tells.level in
    let same : unknowns new ≡ unknowns (set old net (level_of tells.level)) = ap unknowns tells.written in
    omega (arith, total, before, after, same)

pub none_leads : (circuit : Circuit) (drives : List Bool) (charges levels : List Level) → LeadsOn circuit drives charges levels levels
none_leads circuit drives charges levels = record { ones = λ h. h; more = λ net level lt e. e }

-- one net more is told, by the levels from which all are told
pub one_leads : (circuit : Circuit) (drives : List Bool) (charges first old new : List Level) (told : List (Option Bool)) (net : ℕ)
    → length old ≡ circuit.nets → net < length old → IsFree circuit drives net
    → ((level : Bool) → told_at told net ≡ Some level → Tells circuit drives (level_at charges) (level_at first) net level)
    → TellsAt old new told net → LeadsOn circuit drives charges first old → LeadsOn circuit drives charges first new
one_leads circuit drives charges first old new told net size lt free tells at leads =
    let here : level_at new net ≡ level_of at.level = ap (λ l. level_at l net) at.written ∙ get_or-set_same old net (level_of at.level) Unknown lt in
    let rest : (m : ℕ) → m ≢ net → level_at new m ≡ level_at old m =
    λ m apart. ap (λ l. level_at l m) at.written ∙ get_or-set_other old net m (level_of at.level) Unknown apart in
    record {
      ones = λ h. one_more (level_at old) (level_at new) (leads.ones h) (record {
        net = net;
        level = at.level;
        seen = level_at first;
        free = free;
        before = leads.more;
        tells = tells at.level at.is;
        told = here;
        others = λ m below apart. rest m apart;
      });
      more = λ m level below e. elim (cases_eq m net) [
        | inl same ↦
            let was : level_at old net ≡ level_of level = subst (λ k. level_at old k ≡ level_of level) same (leads.more m level below e) in
            absurd (not_unknown level (sym at.unknown ∙ was))
        | inr apart ↦ rest m apart ∙ leads.more m level below e
      ];
    }

neither : (a b : Bool) → (a || b) ≡ false → (a ≡ false) × (b ≡ false)
neither false b e = (refl, e)
neither true b e = absurd (cc)

-- a step in which a net is told, or none
module _ (first old new : List Level) (told : List (Option Bool)) (net : ℕ) (lt : net < length old) (changed result : Bool)
    (tells : result ≡ true → TellsAt old new told net) (rest : result ≡ false → new ≡ old) where
  pub leads_next : (circuit : Circuit) (drives : List Bool) (charges : List Level) → length old ≡ circuit.nets → IsFree circuit drives net
      → ((level : Bool) → told_at told net ≡ Some level → Tells circuit drives (level_at charges) (level_at first) net level)
      → LeadsOn circuit drives charges first old → LeadsOn circuit drives charges first new
  leads_next circuit drives charges size free why leads = by result refl
    where
      by : (b : Bool) → result ≡ b → LeadsOn circuit drives charges first new
      by true e = one_leads circuit drives charges first old new told net size lt free why (tells e) leads
      by false e = subst (LeadsOn circuit drives charges first) (sym (rest e)) leads

  pub rest_next : (changed ≡ false → old ≡ first) → (changed || result) ≡ false → new ≡ first
  rest_next before e = let both = neither changed result e in rest both.1 ∙ before both.0

  pub fewer_next : (changed ≡ false → old ≡ first) → (changed ≡ true → unknowns old < unknowns first) → (changed || result) ≡ true
      → unknowns new < unknowns first
  fewer_next same before e = by changed result e same before tells rest
    where
      by : (a b : Bool) → (a || b) ≡ true → (a ≡ false → old ≡ first) → (a ≡ true → unknowns old < unknowns first)
          → (b ≡ true → TellsAt old new told net) → (b ≡ false → new ≡ old) → unknowns new < unknowns first
      by true true e f g h k = let one = g refl in let two = fewer_unknown old new told net lt (h refl) in omega arith
      by true false e f g h k = let one = g refl in let two = ap unknowns (k refl) in omega arith
      by false true e f g h k = let one = ap unknowns (f refl) in let two = fewer_unknown old new told net lt (h refl) in omega arith
      by false false e f g h k = absurd (cc)

-- ---- a group that was looked at

module _ (circuit : Circuit) (drives : List Bool) (charges levels : List Level) (net : ℕ) where
  told_something : (told : Option Bool) (level : Bool) → RightlyTold circuit drives charges levels net told → told ≡ Some level
      → Tells circuit drives (level_at charges) (level_at levels) net level
  told_something None level right e = absurd (cc)
  told_something (Some b) level right e =
      let same : b ≡ level = cc in
      subst (Tells circuit drives (level_at charges) (level_at levels) net) same right

  told_nothing : (told : Option Bool) → RightlyTold circuit drives charges levels net told → told ≡ None → (level : Bool)
      → ¬ Tells circuit drives (level_at charges) (level_at levels) net level
  told_nothing None right e = right
  told_nothing (Some b) right e = absurd (cc)

  pub something : (told : List (Option Bool)) (level : Bool) → RightlyTold circuit drives charges levels net (told_at told net) → told_at told net ≡ Some level
      → Tells circuit drives (level_at charges) (level_at levels) net level
  something told level right e = told_something (told_at told net) level right e

  pub nothing : (told : List (Option Bool)) → RightlyTold circuit drives charges levels net (told_at told net)
      → (level_at levels net ≡ Unknown → told_at told net ≡ None) → IsToldNothing circuit drives charges levels net
  nothing told right none unknown = told_nothing (told_at told net) right (none unknown)
