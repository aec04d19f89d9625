-- Lists of the signatures of nodes.
use Rattle.std.proofs.Common.{◌≡◌, inl, inr, ℕ, ◌+◌, ◌<◌, Option, Some, None, List, [], ◌∷◌, ◌++◌, length, get_or, slice_get, sym, ap, ◌∙◌, arith}
use Rattle.std.specs.Prelude.{IfSome}
use Rattle.std.proofs.lemmas.Bool.{cases_lt}
use Rattle.std.proofs.lemmas.List.{length-append, get_or_append_left, get_or-append-add}
use Rattle.std.proofs.lemmas.Option.{slice_get_within, slice_get-get_or}
use Rattle.star_normal.specs.Tables.{TreeTable}
use Rattle.tree_chip.specs.declared.signature.Signature.{Signature}
use Rattle.tree_chip.specs.Signatures.{signature_of}

-- The list has the signatures of so many nodes.
pub record AreSigned (tree : TreeTable) (signatures : List Signature) (n : ℕ) : Type 0 where
  pub size : length signatures ≡ n
  pub each : (v : ℕ) → v < n → slice_get signatures v ≡ Some (signature_of tree v)

some_is : {X : Type 0} (o : X) (p : X) → ◌≡◌ {A = _} (Some o) (Some p) → o ≡ p
some_is o p e = cc

module _ (tree : TreeTable) where
  pub none_signed : AreSigned tree [] 0
  none_signed = record { size = omega arith; each = λ v below. absurd (omega (arith, below)) }

  module _ (signatures : List Signature) (n : ℕ) (h : AreSigned tree signatures n) (signature : Signature) (is : signature ≡ signature_of tree n)
    where
      -- one more
      pub signed_more : AreSigned tree (signatures ++ signature ∷ []) (n + 1)
      signed_more =
          let size = h.size in
          let long = length-append signatures (signature ∷ []) in
          record {
            size = omega (arith, size, long);
            each = λ v below. slice_get-get_or (signatures ++ signature ∷ []) v signature (omega (arith, below, size, long)) ∙ ap Some
                (elim (cases_lt v n) [
                  | inl k ↦
                      get_or_append_left signatures (signature ∷ []) signature v (omega (arith, size, k))
                      ∙ some_is _ _ (sym (slice_get-get_or signatures v signature (omega (arith, size, k))) ∙ h.each v k)
                  | inr k ↦
                      let place : v ≡ length signatures + 0 = omega (arith, size, k, below) in
                      let same : n ≡ v = omega (arith, k, below) in
                      ap (λ (i : ℕ). get_or (signatures ++ signature ∷ []) i signature) place
                      ∙ get_or-append-add signatures (signature ∷ []) 0 signature ∙ is ∙ ap (signature_of tree) same
                ]);
          }

      -- a node with this signature stands before this one
      pub signed_earlier : (found : Option ℕ) → IfSome found (λ at. slice_get signatures at ≡ Some signature)
          → IfSome found (λ at. (at < n) × (signature_of tree at ≡ signature_of tree n))
      signed_earlier None e = tt
      signed_earlier (Some at) e =
          let size = h.size in
          let within = slice_get_within signatures at signature e in
          let below : at < n = omega (arith, size, within) in
          (below, some_is _ _ (sym (h.each at below) ∙ e) ∙ is)
