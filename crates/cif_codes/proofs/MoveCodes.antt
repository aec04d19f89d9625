-- Transformations one after another, and the codes of calls.
use Rattle.std.proofs.Common.{◌≡◌, ◌⊎◌, inl, inr, ℕ, ◌<◌, Bool, true, false, not, ◌||◌, ℤ, pos, ◌*ℤ◌, List, [], ◌∷◌, ◌++◌, flat_map, None, refl, sym, ◌∙◌, ap, subst, append_assoc}
use mir.Syntax.{w64}
use mir.Val.{to_z, of_z}
use Rattle.std.specs.Bool.{Decides}
use Rattle.std.specs.List.{list_any}
use Rattle.std.proofs.lemmas.Bool.{or_cases, or_left, or_right}
use Rattle.std.proofs.lemmas.List.{append-nil}
use Rattle.geom.specs.declared.cif_code.CifCode.{CifCode}
use Rattle.geom.specs.declared.cif_code.CifCode.TheVariants.{C4, C7, C8, C9, C14}
use Rattle.geom.specs.CifCommands.{CifScale, CifMove, Translates, MirrorsX, MirrorsY, Rotates, CallsSymbol, move_parts}
use Rattle.geom.specs.CifDrawings.{CifState, symbol_of, chain_of_call}
use Rattle.geom.specs.CifShapes.{is_along_axis}
use Rattle.geom.specs.CifCodes.{MeetsCode, SomeIs, IsTooGreat, IsFarOff, part_numbers, move_distances, is_oblique_move}
use Rattle.cif_values.specs.Numbers.{StandsFor}
use Rattle.cif_values.specs.Parts.{PartsAt}
use Rattle.cif_values.specs.declared.next.Next.TheVariants.{End, Number, Letter}
use Rattle.cif_values.specs.declared.moves.Move.TheVariants as written
use Rattle.cif_values.specs.Values.{ComesNext, MoveStands}
use Rattle.cif_codes.specs.declared.checks.Checks.{Checks}
use Rattle.cif_codes.specs.declared.calls.MoveChecks.{MoveChecks}
use Rattle.cif_codes.specs.Checks.{Checked, MovesChecked}
use Rattle.cif_codes.specs.Least.{IsLeastCode}
use Rattle.cif_codes.specs.Verdicts.{first_code, call_verdict}
use Rattle.cif_codes.proofs.Checking.{great_back, stands_word}
use Rattle.cif_codes.proofs.BoxCodes.{axis_stands}
use Rattle.cif_codes.proofs.Leasts.{first_is_least}

pub flat_map_append : {U V : Type 0} (f : U → List V) (xs ys : List U) → flat_map f (xs ++ ys) ≡ flat_map f xs ++ flat_map f ys
flat_map_append f [] ys = refl
flat_map_append f (x ∷ xs) ys = ap (λ l. f x ++ l) (flat_map_append f xs ys) ∙ sym (append_assoc (f x) (flat_map f xs) (flat_map f ys))

pub flat_map_push : {U V : Type 0} (f : U → List V) (xs : List U) (x : U) → flat_map f (xs ++ x ∷ []) ≡ flat_map f xs ++ f x
flat_map_push f xs x = flat_map_append f xs (x ∷ []) ∙ ap (λ l. flat_map f xs ++ l) (append-nil (f x))

any_push : {X : Type 0} (p : X → Bool) (xs : List X) (x : X) → list_any p (xs ++ x ∷ []) ≡ (list_any p xs || p x)
any_push p [] x = last (p x)
  where
    last : (t : Bool) → (t || false) ≡ t
    last true = refl
    last false = refl
any_push p (y ∷ ys) x = ap (λ (v : Bool). p y || v) (any_push p ys x) ∙ grouped (p y) (list_any p ys) (p x)
  where
    grouped : (a b c : Bool) → (a || (b || c)) ≡ ((a || b) || c)
    grouped true b c = refl
    grouped false b c = refl

-- the numbers of the transformations
abbrev pub numbers_of : List CifMove → List ℤ
numbers_of moves = flat_map part_numbers (flat_map move_parts moves)

numbers_push : (moves : List CifMove) (move : CifMove) → numbers_of (moves ++ move ∷ []) ≡ numbers_of moves ++ flat_map part_numbers (move_parts move)
numbers_push moves move =
    ap (flat_map part_numbers) (flat_map_push move_parts moves move) ∙ flat_map_append part_numbers (flat_map move_parts moves) (move_parts move)

-- a transformation more, by its numbers and distances
pub moves_push : (scale : CifScale) (moves : List CifMove) (move : CifMove) (c : Checks) (oblique : Bool) → list_any is_oblique_move moves ≡ oblique
    → Checked scale (numbers_of moves ++ flat_map part_numbers (move_parts move)) (flat_map move_distances moves ++ move_distances move) c
    → MovesChecked scale (moves ++ move ∷ []) (record { checks = c; oblique = oblique || is_oblique_move move })
moves_push scale moves move c oblique o h =
    let P : List ℤ → Type 0 = λ l. Checked scale l (flat_map move_distances moves ++ move_distances move) c in
    let Q : List ℤ → Type 0 = λ l. Checked scale (numbers_of (moves ++ move ∷ [])) l c in
    record {
      numbers = subst Q (sym (flat_map_push move_distances moves move)) (subst P (sym (numbers_push moves move)) h);
      oblique = sym (any_push is_oblique_move moves move ∙ ap (λ (v : Bool). v || is_oblique_move move) o);
    }

-- two numbers more
pub two_more : (scale : CifScale) (numbers distances : List ℤ) (x y : ℤ) (c : Checks) → Checked scale ((numbers ++ x ∷ []) ++ y ∷ []) distances c
    → Checked scale (numbers ++ x ∷ y ∷ []) distances c
two_more scale numbers distances x y c h = let P : List ℤ → Type 0 = λ l. Checked scale l distances c in subst P (append_assoc numbers (x ∷ []) (y ∷ [])) h

pub two_distances : (scale : CifScale) (numbers distances : List ℤ) (x y : ℤ) (c : Checks) → Checked scale numbers ((distances ++ x ∷ []) ++ y ∷ []) c
    → Checked scale numbers (distances ++ x ∷ y ∷ []) c
two_distances scale numbers distances x y c h = let P : List ℤ → Type 0 = λ l. Checked scale numbers l c in subst P (append_assoc distances (x ∷ []) (y ∷ [])) h

pub no_distances : (scale : CifScale) (numbers distances : List ℤ) (c : Checks) → Checked scale numbers distances c → Checked scale numbers (distances ++ []) c
no_distances scale numbers distances c h = let P : List ℤ → Type 0 = λ l. Checked scale numbers l c in subst P (sym (append-nil distances)) h

pub no_numbers : (scale : CifScale) (numbers distances : List ℤ) (c : Checks) → Checked scale numbers distances c → Checked scale (numbers ++ []) (distances ++ []) c
no_numbers scale numbers distances c h =
    let P : List ℤ → Type 0 = λ l. Checked scale l (distances ++ []) c in subst P (sym (append-nil numbers)) (no_distances scale numbers distances c h)

-- ---- the loop

-- some transformations are read, and the others stand from a place on
pub record MovesUpTo (scale : CifScale) (text : List ℕ) (stop : ℕ) (moves : List CifMove) (from : ℕ) (found : MoveChecks) : Type 0 where
  pub done : List CifMove
  pub rest : List CifMove
  pub is : moves ≡ done ++ rest
  pub parts : PartsAt text from stop (flat_map move_parts rest)
  pub checked : MovesChecked scale done found

pub moves_begin : (scale : CifScale) (text : List ℕ) (stop : ℕ) (moves : List CifMove) (from : ℕ) (c : Checks) → Checked scale [] [] c
    → PartsAt text from stop (flat_map move_parts moves) → MovesUpTo scale text stop moves from (record { checks = c; oblique = false })
moves_begin scale text stop moves from c h p = record { done = []; rest = moves; is = refl; parts = p; checked = record { numbers = h; oblique = refl } }

-- the next transformation
pub record MoveNext (moves : List CifMove) (text : List ℕ) (from stop : ℕ) : Type 0 where
  pub move : CifMove
  pub rest : List CifMove
  pub is : moves ≡ move ∷ rest
  pub parts : PartsAt text from stop (move_parts move ++ flat_map move_parts rest)

pub move_next : (text : List ℕ) (from stop : ℕ) (moves : List CifMove) → PartsAt text from stop (flat_map move_parts moves) → (moves ≡ [] → ⊥)
    → MoveNext moves text from stop
move_next text from stop [] p h = absurd (h refl)
move_next text from stop (move ∷ rest) p h = record { move = move; rest = rest; is = refl; parts = p }

pub some_move : (moves : List CifMove) (byte : ℕ) → ComesNext (flat_map move_parts moves) (Letter byte) → moves ≡ [] → ⊥
some_move [] byte h e = h
some_move (move ∷ rest) byte h e = absurd (nil_cons e)
  where
    nil_cons : move ∷ rest ≡ [] → ⊥
    nil_cons e = cc

pub no_move_end : (moves : List CifMove) → ComesNext (flat_map move_parts moves) End → moves ≡ []
no_move_end [] h = refl
no_move_end (Translates x y ∷ rest) h = absurd h
no_move_end (MirrorsX ∷ rest) h = absurd h
no_move_end (MirrorsY ∷ rest) h = absurd h
no_move_end (Rotates x y ∷ rest) h = absurd h

pub no_move_number : (moves : List CifMove) → ComesNext (flat_map move_parts moves) Number → moves ≡ []
no_move_number [] h = refl
no_move_number (Translates x y ∷ rest) h = absurd h
no_move_number (MirrorsX ∷ rest) h = absurd h
no_move_number (MirrorsY ∷ rest) h = absurd h
no_move_number (Rotates x y ∷ rest) h = absurd h

pub moves_more : (scale : CifScale) (text : List ℕ) (stop : ℕ) (moves : List CifMove) (from next : ℕ) (found more : MoveChecks)
    → (u : MovesUpTo scale text stop moves from found) → (n : MoveNext u.rest text from stop) → PartsAt text next stop (flat_map move_parts n.rest)
    → MovesChecked scale (u.done ++ n.move ∷ []) more → MovesUpTo scale text stop moves next more
moves_more scale text stop moves from next found more u n p c = record {
  done = u.done ++ n.move ∷ [];
  rest = n.rest;
  is = u.is ∙ (ap (λ (l : List CifMove). u.done ++ l) n.is ∙ sym (append_assoc u.done (n.move ∷ []) n.rest));
  parts = p;
  checked = c;
}

pub moves_end : (scale : CifScale) (text : List ℕ) (stop : ℕ) (moves : List CifMove) (from : ℕ) (found : MoveChecks)
    → (u : MovesUpTo scale text stop moves from found) → u.rest ≡ [] → MovesChecked scale moves found
moves_end scale text stop moves from found u e =
    let P : List CifMove → Type 0 = λ l. MovesChecked scale l found in
    subst P (sym (u.is ∙ (ap (λ (l : List CifMove). u.done ++ l) e ∙ append-nil u.done))) u.checked

-- ---- the least code

-- the number of the symbol before those of the transformations
pub checked_front : (scale : CifScale) (m : ℕ) (numbers distances : List ℤ) (c : Checks) (z v : ℤ) (great : Bool) → Decides great (IsTooGreat v)
    → Checked scale numbers distances c → StandsFor m z v → Checked scale (z ∷ numbers) distances (record { off = c.off; far = great || c.far })
checked_front scale m numbers distances c z v great d h s = record { off = h.off; far = (λ e. to (or_cases great c.far e), λ k. from k) }
  where
    to : (great ≡ true) ⊎ (c.far ≡ true) → SomeIs IsTooGreat (z ∷ numbers) ⊎ SomeIs (IsFarOff scale) distances
    to (inl e) = inl (inl (great_back m z v s (d.0 e)))
    to (inr e) = elim (h.far.0 e) [ inl a ↦ inl (inr a) | inr b ↦ inr b ]

    from : SomeIs IsTooGreat (z ∷ numbers) ⊎ SomeIs (IsFarOff scale) distances → (great || c.far) ≡ true
    from (inl (inl a)) = or_left great c.far (d.1 (s.great a))
    from (inl (inr a)) = or_right great c.far (h.far.1 (inl a))
    from (inr b) = or_right great c.far (h.far.1 (inr b))

pub call_least : (s : CifState) (n : ℕ) (moves : List CifMove) (unknown off far oblique deep : Bool) → Decides unknown (symbol_of s n ≡ None)
    → Decides off (MeetsCode C7 s (CallsSymbol n moves)) → Decides far (MeetsCode C8 s (CallsSymbol n moves))
    → oblique ≡ list_any is_oblique_move moves → Decides deep (64 < chain_of_call (symbol_of s n))
    → IsLeastCode s (CallsSymbol n moves) (first_code (call_verdict unknown off far oblique deep))
call_least s n moves unknown off far oblique deep u o f b d =
    first_is_least s (CallsSymbol n moves) (call_verdict unknown off far oblique deep) by
  where
    by : (code : CifCode) → Decides (call_verdict unknown off far oblique deep code) (MeetsCode code s (CallsSymbol n moves))
    by C4 = u
    by C7 = o
    by C8 = f
    by C9 = (λ e. sym b ∙ e, λ e. b ∙ e)
    by C14 = d
    by code = (λ e. absurd cc, λ m. absurd m)

-- ---- one transformation more

or_false : (t : Bool) → (t || false) ≡ t
or_false true = refl
or_false false = refl

plain_push : (scale : CifScale) (moves : List CifMove) (move : CifMove) (c : Checks) (oblique : Bool) → is_oblique_move move ≡ false → list_any is_oblique_move moves ≡ oblique
    → Checked scale (numbers_of moves ++ flat_map part_numbers (move_parts move)) (flat_map move_distances moves ++ move_distances move) c
    → MovesChecked scale (moves ++ move ∷ []) (record { checks = c; oblique = oblique })
plain_push scale moves move c oblique n o h =
    let P : Bool → Type 0 = λ t. MovesChecked scale (moves ++ move ∷ []) (record { checks = c; oblique = t }) in
    subst P (ap (λ (v : Bool). oblique || v) n ∙ or_false oblique) (moves_push scale moves move c oblique o h)

pub move_translates : (scale : CifScale) (m : ℕ) (moves : List CifMove) (move : CifMove) (a b : ℤ) (old : MoveChecks) (c : Checks)
    → MoveStands m move (written.Translates a b) → MovesChecked scale moves old
    → ((x y : ℤ) → StandsFor m x a → StandsFor m y b
    → Checked scale ((numbers_of moves ++ x ∷ []) ++ y ∷ []) ((flat_map move_distances moves ++ (pos 2 *ℤ x) ∷ []) ++ (pos 2 *ℤ y) ∷ []) c)
    → MovesChecked scale (moves ++ move ∷ []) (record { checks = c; oblique = old.oblique })
move_translates scale m moves (Translates x y) a b old c s h f =
    plain_push scale moves (Translates x y) c old.oblique refl (sym h.oblique)
    (two_distances scale (numbers_of moves ++ x ∷ y ∷ []) (flat_map move_distances moves) (pos 2 *ℤ x) (pos 2 *ℤ y) c
    (two_more scale (numbers_of moves) ((flat_map move_distances moves ++ (pos 2 *ℤ x) ∷ []) ++ (pos 2 *ℤ y) ∷ []) x y c (f x y s.0 s.1)))
move_translates scale m moves MirrorsX a b old c s h f = absurd s
move_translates scale m moves MirrorsY a b old c s h f = absurd s
move_translates scale m moves (Rotates x y) a b old c s h f = absurd s

pub move_mirrors_x : (scale : CifScale) (m : ℕ) (moves : List CifMove) (move : CifMove) (old : MoveChecks) → MoveStands m move written.MirrorsX
    → MovesChecked scale moves old → MovesChecked scale (moves ++ move ∷ []) old
move_mirrors_x scale m moves (Translates x y) old s h = absurd s
move_mirrors_x scale m moves MirrorsX old s h =
    plain_push scale moves MirrorsX old.checks old.oblique refl (sym h.oblique) (no_numbers scale (numbers_of moves) (flat_map move_distances moves) old.checks h.numbers)
move_mirrors_x scale m moves MirrorsY old s h = absurd s
move_mirrors_x scale m moves (Rotates x y) old s h = absurd s

pub move_mirrors_y : (scale : CifScale) (m : ℕ) (moves : List CifMove) (move : CifMove) (old : MoveChecks) → MoveStands m move written.MirrorsY
    → MovesChecked scale moves old → MovesChecked scale (moves ++ move ∷ []) old
move_mirrors_y scale m moves (Translates x y) old s h = absurd s
move_mirrors_y scale m moves MirrorsX old s h = absurd s
move_mirrors_y scale m moves MirrorsY old s h =
    plain_push scale moves MirrorsY old.checks old.oblique refl (sym h.oblique) (no_numbers scale (numbers_of moves) (flat_map move_distances moves) old.checks h.numbers)
move_mirrors_y scale m moves (Rotates x y) old s h = absurd s

pub move_rotates : (scale : CifScale) (m : ℕ) (moves : List CifMove) (move : CifMove) (a b : ℤ) (old : MoveChecks) (c : Checks) (oblique : Bool)
    → oblique ≡ (old.oblique || not (is_along_axis (to_z w64 (of_z w64 a)) (to_z w64 (of_z w64 b)))) → MoveStands m move (written.Rotates a b) → MovesChecked scale moves old
    → ((x y : ℤ) → StandsFor m x a → StandsFor m y b → Checked scale ((numbers_of moves ++ x ∷ []) ++ y ∷ []) (flat_map move_distances moves) c)
    → MovesChecked scale (moves ++ move ∷ []) (record { checks = c; oblique = oblique })
move_rotates scale m moves (Translates x y) a b old c oblique e s h f = absurd s
move_rotates scale m moves MirrorsX a b old c oblique e s h f = absurd s
move_rotates scale m moves MirrorsY a b old c oblique e s h f = absurd s
move_rotates scale m moves (Rotates x y) a b old c oblique e s h f =
    let P : Bool → Type 0 = λ t. MovesChecked scale (moves ++ Rotates x y ∷ []) (record { checks = c; oblique = t }) in
    let same : is_along_axis (to_z w64 (of_z w64 a)) (to_z w64 (of_z w64 b)) ≡ is_along_axis x y =
    axis_stands m (record { x = x; y = y }) (record { x = to_z w64 (of_z w64 a); y = to_z w64 (of_z w64 b) }) (stands_word m x a s.0, stands_word m y b s.1) in
    subst P (sym (e ∙ ap (λ (t : Bool). old.oblique || not t) same))
    (moves_push scale moves (Rotates x y) c old.oblique (sym h.oblique)
    (no_distances scale (numbers_of moves ++ x ∷ y ∷ []) (flat_map move_distances moves) c
    (two_more scale (numbers_of moves) (flat_map move_distances moves) x y c (f x y s.0 s.1))))
