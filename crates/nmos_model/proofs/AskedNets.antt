-- Nets that are asked for lists of squares.
use Rattle.std.proofs.Common.{◌≡◌, ℕ, zero, suc, ◌<◌, ◌+◌, List, [], ◌∷◌, ◌++◌, length, map, take, get_or, Option, None, refl, sym, ◌∙◌, ap, arith}
use Rattle.std.proofs.lemmas.List.{take_more}
use Rattle.nmos_model.specs.declared.sites.Site.{Site}
use Rattle.nmos_model.specs.Pads.{NetAt}
use Rattle.nmos_model.specs.Sites.{site_net}

pub map_get : {X Y : Type 0} (f : X → Y) (xs : List X) (i : ℕ) (d : X) (e : Y) → i < length xs → get_or (map f xs) i e ≡ f (get_or xs i d)
map_get f [] i d e h = absurd (omega arith)
map_get f (x ∷ xs) zero d e h = refl
map_get f (x ∷ xs) (suc i) d e h = map_get f xs i d e (omega arith)

pub map_size : {X Y : Type 0} (f : X → Y) (xs : List X) → length (map f xs) ≡ length xs
map_size f [] = refl
map_size f (x ∷ xs) = ap suc (map_size f xs)

-- the net that is found for the element of this number
pub found_at : {X : Type 0} (net : NetAt) (f : X → Site) (xs : List X) (sites : List Site) (found : List (Option ℕ)) (i : ℕ) (d : X) (v : Option ℕ)
    → i < length xs → sites ≡ map f xs → found ≡ map (site_net net) sites → v ≡ get_or found i v → v ≡ site_net net (f (get_or xs i d))
found_at net f xs sites found i d v h e k is =
    let n : length sites ≡ length xs = ap length e ∙ map_size f xs in
    let w : i < length sites = omega arith in
    let whole : found ≡ map (site_net net) (map f xs) = k ∙ ap (map (site_net net)) e in
    let inner : get_or (map f xs) i (f d) ≡ f (get_or xs i d) = map_get f xs i d (f d) h in
    let m : length (map f xs) ≡ length xs = map_size f xs in
    let l : i < length (map f xs) = omega arith in
    is ∙ ap (λ (fs : List (Option ℕ)). get_or fs i v) whole ∙ map_get (site_net net) (map f xs) i (f d) v l ∙ ap (site_net net) inner

map_push : {X Y : Type 0} (f : X → Y) (xs : List X) (x : X) → map f (xs ++ x ∷ []) ≡ map f xs ++ f x ∷ []
map_push f [] x = refl
map_push f (y ∷ ys) x = ap (λ zs. f y ∷ zs) (map_push f ys x)

-- one more entry
pub map_more : {X Y : Type 0} (f : X → Y) (xs : List X) (i : ℕ) (d : X) (old new : List Y) → i < length xs → new ≡ old ++ f (get_or xs i d) ∷ []
    → old ≡ map f (take i xs) → new ≡ map f (take (i + 1) xs)
map_more f xs i d old new h e k =
    e ∙ ap (λ ys. ys ++ f (get_or xs i d) ∷ []) k ∙ sym (ap (map f) (take_more xs i d h) ∙ map_push f (take i xs) (get_or xs i d))
