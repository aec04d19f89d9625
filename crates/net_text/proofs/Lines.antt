-- Lines that are written one after another.
use Rattle.std.proofs.Common.{◌≡◌, ℕ, ◌+◌, ◌<◌, List, [], ◌∷◌, ◌++◌, Option, Result, length, get_or, take, drop, sym, ap, ◌∙◌, append-nil}
use Rattle.std.proofs.lemmas.List.{take_more, take-append-drop}
use Rattle.std.proofs.lemmas.Grind.{flat_map-append}
use Rattle.std.specs.Prelude.{IsErr}
use Rattle.std.specs.List.{flat_map}
use Rattle.rx_io.specs.Streams.{AppendsFront}
use Rattle.net_text.specs.Gathered.{Gathers, PutsBehind}
use Rattle.net_text.proofs.Gathering.{Gathers-trans, PutsBehind-failed}

module _ {X : Type 0} (line : X → List ℕ) (xs : List X) (i : ℕ) (x d : X) (within : i < length xs) (is : x ≡ get_or xs i d) where
  -- the lines as far as this one
  lines_more : flat_map line (take (i + 1) xs) ≡ flat_map line (take i xs) ++ line x
  lines_more =
      ap (flat_map line) (take_more xs i d within ∙ ap (λ y. take i xs ++ y ∷ []) (sym is))
      ∙ flat_map-append line (take i xs) (x ∷ []) ∙ ap (λ l. flat_map line (take i xs) ++ l) (append-nil (line x))

  -- the lines before, this one, and those behind it
  lines_around : flat_map line xs ≡ flat_map line (take i xs) ++ line x ++ flat_map line (drop (i + 1) xs)
  lines_around =
      ap (flat_map line) (sym (take-append-drop (i + 1) xs)) ∙ flat_map-append line (take (i + 1) xs) (drop (i + 1) xs)
      ∙ ap (λ l. l ++ flat_map line (drop (i + 1) xs)) lines_more

  -- one more line is with the sink or waits
  pub Gathers-line : {a b c : Option (List ℕ)} {p q r : List ℕ} → Gathers a b p q (flat_map line (take i xs)) → Gathers b c q r (line x)
      → Gathers a c p r (flat_map line (take (i + 1) xs))
  Gathers-line before now = rw lines_more (Gathers-trans before now)

  -- the line failed
  pub PutsBehind-line_failed : {A E : Type 0} {a b : Option (List ℕ)} {p q : List ℕ} (result : Result A E) (c : Option (List ℕ)) (r : List ℕ) → IsErr result
      → Gathers a b p q (flat_map line (take i xs)) → AppendsFront b c (q ++ line x) → PutsBehind result a c p r (flat_map line xs)
  PutsBehind-line_failed result c r err before now = rw lines_around (PutsBehind-failed result c r (line x) (flat_map line (drop (i + 1) xs)) err before now)
