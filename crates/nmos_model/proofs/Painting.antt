-- Squares that are painted in a layer, one after another.
use Rattle.std.proofs.Common.{◌≡◌, ◌↔◌, ◌⊎◌, inl, inr, ℕ, ◌<◌, ap, ◌∙◌, true, List, length}
use Rattle.std.proofs.Math.ListN.{set}
use Rattle.std.proofs.lemmas.List.{get_or-set_same, get_or-set_other}
use Rattle.geom.specs.declared.layer.Layer.{Layer}
use Rattle.nmos_model.specs.declared.raster.Cover.{Cover}
use Rattle.nmos_model.specs.Rasters.{covers, cover_at, bare, Paints}
use Rattle.nmos_model.proofs.Common.{same_or_apart}

pub paints_none : (P : ℕ → Type 0) (layer : Layer) (squares : List Cover) → ((at : ℕ) → P at → ⊥) → Paints P layer squares squares
paints_none P layer squares never at other = (λ e. inl e, λ h. elim h [ inl e ↦ e | inr p ↦ absurd (never at p.0) ])

-- two parts make the whole
pub paints_both : (P Q R : ℕ → Type 0) (layer : Layer) (a b c : List Cover) → Paints P layer a b → Paints Q layer b c
    → ((at : ℕ) → R at → P at ⊎ Q at) → ((at : ℕ) → P at ⊎ Q at → R at) → Paints R layer a c
paints_both P Q R layer a b c first second apart together at other = (
  λ e.
      elim ((second at other).0 e) [
        | inr q ↦ inr (together at (inr q.0), q.1)
        | inl f ↦ elim ((first at other).0 f) [ inl g ↦ inl g | inr p ↦ inr (together at (inl p.0), p.1) ]
      ],
  λ h.
      elim h [
        | inl e ↦ (second at other).1 (inl ((first at other).1 (inl e)))
        | inr r ↦
            elim (apart at r.0) [
              | inl p ↦ (second at other).1 (inl ((first at other).1 (inr (p, r.1))))
              | inr q ↦ (second at other).1 (inr (q, r.1))
            ]
      ],
)

pub paints_one : (layer : Layer) (squares : List Cover) (at : ℕ) (cover : Cover) → at < length squares
    → ((other : Layer) → (covers other cover ≡ true) ↔ ((covers other (cover_at squares at) ≡ true) ⊎ (layer ≡ other)))
    → Paints (λ k. k ≡ at) layer squares (set squares at cover)
paints_one layer squares at cover lt is k other =
    elim (same_or_apart k at) [
      | inl same ↦
          let now : cover_at (set squares at cover) k ≡ cover = ap (cover_at (set squares at cover)) same ∙ get_or-set_same squares at cover bare lt in
          let old : cover_at squares k ≡ cover_at squares at = ap (cover_at squares) same in
          rw (now, old) (
            λ e. elim ((is other).0 e) [ inl f ↦ inl f | inr l ↦ inr (same, l) ],
            λ h. (is other).1 (elim h [ inl e ↦ inl e | inr p ↦ inr p.1 ]),
          )
      | inr ne ↦
          let kept : cover_at (set squares at cover) k ≡ cover_at squares k = get_or-set_other squares at k cover bare ne in
          rw kept (λ e. inl e, λ h. elim h [ inl e ↦ e | inr p ↦ absurd (ne p.0) ])
    ]
