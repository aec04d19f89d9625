-- Words behind words.
use Rattle.std.proofs.Common.{◌≡◌, ℕ, ℤ, List, [], ◌∷◌, length, drop, Option, Some, None, IfSome, IsNone, refl, sym, ◌∙◌, ap, arith}
use Rattle.std.proofs.lemmas.List.{drop_all}
use Rattle.geom.specs.CifCommands.{WritesSigned}
use Rattle.geom.specs.CifLabels.{label_words}
use Rattle.cif_values.specs.Numbers.{StandsFor}
use Rattle.cif_values.specs.Values.{IsNearNumber}
use Rattle.cif_labels.specs.Spots.{Reads, IsNearWord}
use Rattle.cif_labels.specs.Words.{put_word}

-- at the end no word stands
pub no_more : (text : List ℕ) (at : ℕ) (word : List ℕ) (rest : List (List ℕ)) → at ≡ length text → label_words (drop at text) ≡ put_word word rest → word ≡ []
no_more text at [] rest e h = refl
no_more text at (b ∷ bs) rest e h =
    let d : drop at text ≡ [] = drop_all at text (omega (arith, e)) in
    let z : [] ≡ (b ∷ bs) ∷ rest = sym (ap label_words d) ∙ h in absurd cc

pub reads_of : (word : List ℕ) (r : Option ℤ) → IfSome r (λ v. (z : ℤ) × WritesSigned z word × StandsFor 400 z v) → (IsNone r → (z : ℤ) → WritesSigned z word → ⊥)
    → Reads word r
reads_of word None h none = none refl
reads_of word (Some v) h none = h

pub near_of : (r : Option ℤ) → IfSome r (λ v. IsNearNumber v) → IsNearWord r
near_of None h = tt
near_of (Some v) h = h
