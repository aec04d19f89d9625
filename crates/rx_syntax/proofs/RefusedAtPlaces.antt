-- A text is accepted, or refused with one code at one line and column.
use Rattle.std.proofs.Common.{◌≡◌, ℕ, List, take, refl, ap, sym, ◌∙◌, inl, inr}
use Rattle.std.specs.Prelude.{◌⊎◌}
use Rattle.rx_text.specs.declared.place.Place.{Place}
use Rattle.rx_text.specs.TextPlace.{place_behind}
use Rattle.rx_lang.specs.Specification.{Specification}
use Rattle.rx_syntax.specs.Accepted.{Accepted}
use Rattle.rx_syntax.specs.SpecRefusal.{SpecRefusal}
use Rattle.rx_syntax.specs.declared.spec_code.SpecCode.{SpecCode}
use Rattle.rx_syntax.proofs.OneSpecification.{accepted_or_refused, not_accepted_and_refused, one_refusal}

pub accepted_or_refused_at : (text : List ℕ) (limit : ℕ)
    → ((spec : Specification) × Accepted text limit spec) ⊎ ((code : SpecCode) × (place : Place) × SpecRefusal text limit code place)
accepted_or_refused_at text limit = elim (accepted_or_refused text limit) [
  | inl h ↦ inl h
  | inr (code, byte, refused) ↦ inr (code, place_behind (take byte text), record { byte = byte; refused = refused; is = refl })
]

pub not_accepted_and_refused_at : (text : List ℕ) (limit : ℕ) (spec : Specification) (code : SpecCode) (place : Place) → Accepted text limit spec
    → SpecRefusal text limit code place → ⊥
not_accepted_and_refused_at text limit spec code place h r = not_accepted_and_refused text limit spec code r.byte h r.refused

pub one_refusal_at : (text : List ℕ) (limit : ℕ) (code other : SpecCode) (place elsewhere : Place) → SpecRefusal text limit code place
    → SpecRefusal text limit other elsewhere → (code ≡ other) × (place ≡ elsewhere)
one_refusal_at text limit code other place elsewhere h r =
    let same = one_refusal text limit code other h.byte r.byte h.refused r.refused in
    (same.0, h.is ∙ ap (λ byte. place_behind (take byte text)) same.1 ∙ sym r.is)
