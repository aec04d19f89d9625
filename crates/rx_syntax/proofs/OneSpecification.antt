-- A text is accepted as one specification, or refused with one code at one place.
use Rattle.std.proofs.Common.{◌≡◌, ℕ, Some, None, List, refl, ap, sym, ◌∙◌, subst, inl, inr}
use Rattle.std.specs.Prelude.{Option, ◌⊎◌}
use Rattle.rx_lang.specs.Specification.{Specification}
use Rattle.rx_syntax.specs.Grammar.{Syntax, Specifies}
use Rattle.rx_syntax.specs.Refusals.{IsShaped}
use Rattle.rx_syntax.specs.Uses.{undeclared, syntax_uses, first_use_fault}
use Rattle.rx_syntax.specs.Accepted.{said, Says, Accepted, Refused}
use Rattle.rx_syntax.specs.declared.spec_code.SpecCode.{SpecCode}
use Rattle.rx_syntax.proofs.OneAnswer.{one_list, says, one_of_both, not_both, one_fault}
use Rattle.rx_syntax.proofs.BuiltSyntax.{one_syntax}

-- a text says one thing
pub says_one : (text : List ℕ) (s r : Syntax) → Says text s → Says text r → s ≡ r
says_one text s r x y =
    let same = one_list text x.are_tokens y.are_tokens in
    one_syntax y.tokens s r (subst (λ ts. Specifies ts s) same x.specifies) y.specifies

shaped : (text : List ℕ) (s : Syntax) → Says text s → IsShaped text
shaped text s x = record { tokens = x.tokens; are_tokens = x.are_tokens; clean = x.clean; syntax = s; specifies = x.specifies }

by_uses : (text : List ℕ) (limit : ℕ) (s : Syntax) → Says text s → (o : Option (SpecCode × ℕ))
    → first_use_fault text limit undeclared (syntax_uses text s) ≡ o
    → ((spec : Specification) × Accepted text limit spec) ⊎ ((code : SpecCode) × (place : ℕ) × Refused text limit code place)
by_uses text limit s x None e = inl (said text s, record { syntax = s; says = x; no_fault = e; is = refl })
by_uses text limit s x (Some (code, place)) e = inr (code, place, inr (record { syntax = s; says = x; fault = e }))

pub accepted_or_refused : (text : List ℕ) (limit : ℕ)
    → ((spec : Specification) × Accepted text limit spec) ⊎ ((code : SpecCode) × (place : ℕ) × Refused text limit code place)
accepted_or_refused text limit = elim (one_of_both text) [
  | inl x ↦ by_uses text limit x.syntax (says text x) (first_use_fault text limit undeclared (syntax_uses text x.syntax)) refl
  | inr (code, place, stands) ↦ inr (code, place, inl stands)
]

-- the first fault of names is that of the one thing that the text says
same_faults : (text : List ℕ) (limit : ℕ) (s r : Syntax) → Says text s → Says text r
    → first_use_fault text limit undeclared (syntax_uses text s) ≡ first_use_fault text limit undeclared (syntax_uses text r)
same_faults text limit s r x y = ap (λ s. first_use_fault text limit undeclared (syntax_uses text s)) (says_one text s r x y)

pub not_accepted_and_refused : (text : List ℕ) (limit : ℕ) (spec : Specification) (code : SpecCode) (place : ℕ) → Accepted text limit spec
    → Refused text limit code place → ⊥
not_accepted_and_refused text limit spec code place a (inl stands) = not_both text code place (shaped text a.syntax a.says) stands
not_accepted_and_refused text limit spec code place a (inr f) =
    let clash : ◌≡◌ {A = Option (SpecCode × ℕ)} None (Some (code, place)) =
    sym a.no_fault ∙ same_faults text limit a.syntax f.syntax a.says f.says ∙ f.fault in
    cc

pub one_specification : (text : List ℕ) (limit other : ℕ) (a b : Specification) → Accepted text limit a → Accepted text other b → a ≡ b
one_specification text limit other a b x y = x.is ∙ ap (said text) (says_one text x.syntax y.syntax x.says y.says) ∙ sym y.is

pub one_refusal : (text : List ℕ) (limit : ℕ) (c d : SpecCode) (p q : ℕ) → Refused text limit c p → Refused text limit d q → (c ≡ d) × (p ≡ q)
one_refusal text limit c d p q (inl x) (inl y) = one_fault text c d p q x y
one_refusal text limit c d p q (inl x) (inr y) = absurd (not_both text c p (shaped text y.syntax y.says) x)
one_refusal text limit c d p q (inr x) (inl y) = absurd (not_both text d q (shaped text x.syntax x.says) y)
one_refusal text limit c d p q (inr x) (inr y) =
    let same : ◌≡◌ {A = Option (SpecCode × ℕ)} (Some (c, p)) (Some (d, q)) =
    sym x.fault ∙ same_faults text limit x.syntax y.syntax x.says y.says ∙ y.fault in
    let pairs : ◌≡◌ {A = SpecCode × ℕ} (c, p) (d, q) = cc in
    (ap (λ (pair : SpecCode × ℕ). pair.0) pairs, ap (λ (pair : SpecCode × ℕ). pair.1) pairs)
