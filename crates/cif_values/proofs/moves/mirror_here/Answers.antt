-- The mirror by its letter.
use Rattle.std.proofs.Common.{◌==◌, ℕ, [], ◌∷◌, cond, refl, ◌∙◌, ap}
use Rattle.geom.specs.CifCommands.{Letters}
use Rattle.cif_values.specs.declared.moves.Move.TheVariants.{MirrorsX, MirrorsY}
use Rattle.cif_values.proofs.moves.mirror_here.Goals as goal

pub returns-in-Letter-clause-x : goal.returns-in-Letter-clause-x
returns-in-Letter-clause-x c = λ stop parts h.
    c.mirror_of.ensures ∙ ap (λ (n : ℕ). cond (n == 88) MirrorsX MirrorsY) (c.in-Letter.ensures.next stop (Letters (88 ∷ []) ∷ parts) h)

pub returns-in-Letter-clause-y : goal.returns-in-Letter-clause-y
returns-in-Letter-clause-y c = λ stop parts h.
    c.mirror_of.ensures ∙ ap (λ (n : ℕ). cond (n == 88) MirrorsX MirrorsY) (c.in-Letter.ensures.next stop (Letters (89 ∷ []) ∷ parts) h)

pub returns-in-End : goal.returns-in-End
returns-in-End c = record {
  x = λ stop parts h. absurd (c.in-End.ensures.next stop (Letters (88 ∷ []) ∷ parts) h);
  y = λ stop parts h. refl;
  near = tt;
}

pub returns-in-Number : goal.returns-in-Number
returns-in-Number c = record {
  x = λ stop parts h. absurd (c.in-Number.ensures.next stop (Letters (88 ∷ []) ∷ parts) h);
  y = λ stop parts h. refl;
  near = tt;
}
