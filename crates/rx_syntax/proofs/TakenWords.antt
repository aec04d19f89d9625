-- A word at which no code stands may be taken.
use Rattle.std.proofs.Common.{◌≡◌, ℕ, ◌<◌, ◌≤◌, ◌^◌, true, false, Bool, Some, None, List, length, ap, ◌∙◌, subst, inl, inr, arith}
use Rattle.std.specs.Prelude.{Option, nat_le, ◌&&◌, if◌then◌else◌}
use Rattle.std.specs.Str.Parse.{digits_value}
use Rattle.std.proofs.lemmas.Bool.{cases_Bool}
use Rattle.std.proofs.lemmas.Bool.Decides.{nat_tests}
use Rattle.std.proofs.lemmas.List.{length-map}
use Rattle.rx_syntax.specs.Uses.{is_declared, declaration_code}
use Rattle.rx_syntax.specs.UsesRead.{repeated_leaves}
use Rattle.rx_syntax.specs.NameTables.{names_of}
use Rattle.rx_syntax.specs.NameSteps.{declared_in, MayFollow, IsWordOf, code_at}
use Rattle.rx_syntax.specs.declared.naming.Reading.{Reading}
use Rattle.rx_syntax.specs.declared.spec_code.SpecCode.{SpecCode}
use Rattle.rx_syntax.specs.declared.spec_code.SpecCode.TheVariants.{S4, S10, S11, S12, S13, S15, S3}
use Rattle.rx_syntax.specs.declared.use_kind.UseKind.{UseKind}
use Rattle.rx_syntax.specs.declared.use_kind.UseKind.TheVariants.{Line, Symbol, Pattern, Output, Leaf, FurtherLeaf, Mark, Open, Close, Least, Most, Copies}

-- a test that has to pass so that no code stands
pub passed : (test : Bool) (c : SpecCode) → None ≡ (if test then None else Some c) → test ≡ true
passed true c e = cc
passed false c e = absurd cc

module _ (twice : Bool) (count most : ℕ) (too_many : SpecCode) (fine : None ≡ declaration_code twice count most too_many) where
  pub not_twice : twice ≡ false
  not_twice = elim (cases_Bool twice) [
    | inl e ↦ (
        let clash : ◌≡◌ {A = Option SpecCode} None (Some S4) =
        fine ∙ ap (λ b. declaration_code b count most too_many) e in
        absurd cc)
    | inr e ↦ e
  ]

  pub not_too_many : count < most
  not_too_many = elim (cases_Bool (nat_le most count)) [
    | inl e ↦ (
        let clash : ◌≡◌ {A = Option SpecCode} None (Some too_many) =
        fine ∙ ap (λ b. declaration_code b count most too_many) not_twice ∙ ap (λ b. if b then Some too_many else None) e in
        absurd cc)
    | inr e ↦ grind (arith, nat_tests)
  ]

-- a symbol of an expression that is not one too many
few_leaves : (known : Bool) (limit leaves : ℕ)
    → None ≡ (if known then (if nat_le limit leaves then Some S13 else None) else Some S3) → leaves < limit
few_leaves false limit leaves e = absurd cc
few_leaves true limit leaves e = elim (cases_Bool (nat_le limit leaves)) [
  | inl h ↦ (
      let clash : ◌≡◌ {A = Option SpecCode} None (Some S13) = e ∙ ap (λ b. if b then Some S13 else None) h in
      absurd cc)
  | inr h ↦ grind (arith, nat_tests)
]

pub front_true : (a b : Bool) → (a && b) ≡ true → a ≡ true
front_true true b e = cc
front_true false b e = absurd cc

pub at_most : (m n : ℕ) → nat_le m n ≡ true → m ≤ n
at_most m n e = grind (arith, nat_tests)

module _ (word : List ℕ) (limit : ℕ) (read : Reading) (small : limit < 2 ^ 32) where
  pub may_follow : (used : UseKind) → IsWordOf (Some used) word → None ≡ code_at limit read used word → MayFollow used word read
  may_follow Line name fine = (name, not_twice (is_declared word (declared_in read)) _ 16 S10 fine)
  may_follow Symbol name fine =
      let names = names_of read.declarations.symbols in
      let few = not_too_many (is_declared word (declared_in read)) (length names) 32 S11 fine in
      let size : length names ≡ length read.declarations.symbols = length-map read.declarations.symbols (λ s. s.name) in
      ((name, not_twice (is_declared word (declared_in read)) (length names) 32 S11 fine), subst (λ n. n < 32) size few)
  may_follow Pattern name fine = tt
  may_follow Output name fine =
      let outputs = read.declarations.outputs in
      ((name, not_twice (is_declared word (declared_in read)) (length outputs) 16 S12 fine), not_too_many (is_declared word (declared_in read)) (length outputs) 16 S12 fine)
  may_follow Leaf name fine =
      let few : read.tally.leaves < limit = few_leaves _ limit read.tally.leaves fine in
      omega (arith, few, small)
  may_follow FurtherLeaf name fine =
      let few : read.tally.leaves < limit = few_leaves _ limit read.tally.leaves fine in
      omega (arith, few, small)
  may_follow Mark name fine = tt
  may_follow Open name fine = tt
  may_follow Close name fine = tt
  may_follow Least name fine = (name, at_most _ 255 (passed (nat_le (digits_value 10 word) 255) S15 fine))
  may_follow Most name fine =
      let n = digits_value 10 word in
      let m = read.tally.least in
      let all = passed (nat_le n 255 && nat_le 1 n && nat_le m n) S15 fine in
      (name, at_most _ 255 (front_true (nat_le n 255) (nat_le 1 n) (front_true (nat_le n 255 && nat_le 1 n) (nat_le m n) all)))
  may_follow Copies name fine =
      let few : repeated_leaves read.tally ≤ limit = at_most _ limit (passed (nat_le (repeated_leaves read.tally) limit) S13 fine) in
      omega (arith, few, small)
