-- The stack of open expressions builds the tree that the grammar derives, so tokens say one thing.
use Rattle.std.proofs.Common.{◌≡◌, ℕ, suc, Bool, true, false, Some, None, List, [], ◌∷◌, ◌++◌, refl, ap, ◌∙◌, inl, inr}
use Rattle.std.specs.Prelude.{Option, fold}
use Rattle.rx_syntax.specs.Lexemes.{Lexeme}
use Rattle.rx_syntax.specs.Grammar.{Tree, leaf, union, sequence, star, plus, optional, marked, counted, class_tree, AreNames, IsNumber, Level, unions, sequences, parts, Derives, named, closed, classed, starred, looped, optioned, noted, repeated, alone, followed, single, either}
use Rattle.rx_syntax.specs.declared.kind.Kind.TheVariants.{Name, Open, OpenBrace, CloseBrace, Comma, OpenBracket}
use Rattle.rx_syntax.specs.declared.machine.Due.{Due}
use Rattle.rx_syntax.specs.declared.machine.Due.TheVariants.{Part, Rest, ClassName, ClassNames}
use Rattle.rx_syntax.specs.declared.machine.State.{State}
use Rattle.rx_syntax.specs.Machine.{at, next_state, run}
use Rattle.rx_syntax.proofs.Builder.{Frame, Built, no_number, empty_frame, joined, chain_of, closed_frame, with_part, with_name, act_on, along}
use Rattle.rx_syntax.proofs.Derived.{ready, class_run, derived_run}

pub along_append : (xs ys : List Lexeme) (s : Option State) (b : Built) → along (xs ++ ys) s b ≡ along ys (run xs s) (along xs s b)
along_append [] ys s b = refl
along_append (x ∷ xs) ys s b = along_append xs ys (next_state s x.kind) (act_on s x b)

-- a list, and then another
pub builds : (xs ys zs : List Lexeme) (s m : Option State) (b c e : Built) → zs ≡ xs ++ ys → run xs s ≡ m → along xs s b ≡ c → along ys m c ≡ e
    → along zs s b ≡ e
builds xs ys zs s m b c e whole ran first second =
    ap (λ ts. along ts s b) whole ∙ along_append xs ys s b ∙ ap (λ n. along ys n (along xs s b)) ran ∙ ap (λ c. along ys m c) first ∙ second

-- what was read, with these open expressions and no counted repeat that is read
abbrev pub framed : Built → List Frame → Built
framed b frames = record b { least = no_number; most = no_number; frames = frames }

abbrev pub behind_bar : Option Tree → Frame
behind_bar before = record { union_before = before; sequence_before = None; last = None }

-- what the tokens of an expression of the level build
abbrev pub Builds : Level → List Lexeme → Tree → Due → ℕ → Built → List Frame → Type 0
Builds parts xs e due d b fs = (f : Frame) → along xs (at due d) (framed b (f ∷ fs)) ≡ framed b (with_part (Some e) f ∷ fs)
Builds sequences xs e due d b fs =
    (before : Option Tree) → (g : Frame) × (along xs (at due d) (framed b (behind_bar before ∷ fs)) ≡ framed b (g ∷ fs)) × (g.union_before ≡ before)
    × (chain_of g ≡ Some e)
Builds unions xs e due d b fs =
    (g : Frame) × (along xs (at due d) (framed b (empty_frame ∷ fs)) ≡ framed b (g ∷ fs)) × (closed_frame g ≡ Some e)

named_built : (bb : Bool) (d : ℕ) (t : Lexeme) (b : Built) (f : Frame) (fs : List Frame) → t.kind ≡ Name
    → along (t ∷ []) (at (ready bb) d) (framed b (f ∷ fs)) ≡ framed b (with_part (Some (leaf t)) f ∷ fs)
named_built true d t b f fs k = rw k refl
named_built false d t b f fs k = rw k refl

opened_built : (bb : Bool) (d : ℕ) (o : Lexeme) (ys : List Lexeme) (b : Built) (fs : List Frame) → o.kind ≡ Open
    → along (o ∷ ys) (at (ready bb) d) (framed b fs) ≡ along ys (at Part (suc d)) (framed b (empty_frame ∷ fs))
opened_built true d o ys b fs k = rw k refl
opened_built false d o ys b fs k = rw k refl

bracket_built : (bb : Bool) (d : ℕ) (o : Lexeme) (ys : List Lexeme) (b : Built) (fs : List Frame) → o.kind ≡ OpenBracket
    → along (o ∷ ys) (at (ready bb) d) (framed b fs) ≡ along ys (at ClassName (suc d)) (framed b (empty_frame ∷ fs))
bracket_built true d o ys b fs k = rw k refl
bracket_built false d o ys b fs k = rw k refl

-- further names of a class
names_built : (names : List Lexeme) → AreNames names → (d : ℕ) (b : Built) (g : Frame) (fs : List Frame) (e : Tree) → closed_frame g ≡ Some e
    → (h : Frame) × (along names (at ClassNames d) (framed b (g ∷ fs)) ≡ framed b (h ∷ fs))
    × (closed_frame h ≡ Some (fold (λ e u. union e (leaf u)) e names))
names_built [] h d b g fs e is = (g, refl, is)
names_built (t ∷ ts) (k, others) d b g fs e is =
    let m : Frame = with_name t g in
    let joins : closed_frame m ≡ Some (union e (leaf t)) = ap (λ o. joined union o (Some (leaf t))) is in
    let i = names_built ts others d b m fs (union e (leaf t)) joins in
    let first : along (t ∷ ts) (at ClassNames d) (framed b (g ∷ fs)) ≡ along ts (at ClassNames d) (framed b (m ∷ fs)) = rw k refl in
    (i.0, first ∙ i.1, i.2)

-- the names of a class
class_built : (t : Lexeme) (names : List Lexeme) → AreNames (t ∷ names) → (d : ℕ) (b : Built) (fs : List Frame)
    → (h : Frame) × (along (t ∷ names) (at ClassName d) (framed b (empty_frame ∷ fs)) ≡ framed b (h ∷ fs))
    × (closed_frame h ≡ Some (class_tree t names))
class_built t names (k, others) d b fs =
    let m : Frame = with_part (Some (leaf t)) empty_frame in
    let i = names_built names others d b m fs (leaf t) refl in
    let first : along (t ∷ names) (at ClassName d) (framed b (empty_frame ∷ fs)) ≡ along names (at ClassNames d) (framed b (m ∷ fs)) = rw k refl in
    (i.0, first ∙ i.1, i.2)

-- the numbers of a counted repeat behind a part
bounds_built : (d : ℕ) (o least comma most c : Lexeme) (b : Built) (f : Frame) (e : Tree) (fs : List Frame) → o.kind ≡ OpenBrace → IsNumber least
    → comma.kind ≡ Comma → IsNumber most → c.kind ≡ CloseBrace
    → along (o ∷ least ∷ comma ∷ most ∷ c ∷ []) (at Rest d) (framed b (with_part (Some e) f ∷ fs))
    ≡ framed b (with_part (Some (counted e least most c)) f ∷ fs)
bounds_built d o least comma most c b f e fs ko (inl kl) kc (inl km) ke = rw (ko, kl, kc, km, ke) refl
bounds_built d o least comma most c b f e fs ko (inl kl) kc (inr km) ke = rw (ko, kl, kc, km, ke) refl
bounds_built d o least comma most c b f e fs ko (inr kl) kc (inl km) ke = rw (ko, kl, kc, km, ke) refl
bounds_built d o least comma most c b f e fs ko (inr kl) kc (inr km) ke = rw (ko, kl, kc, km, ke) refl

pub built : {l : Level} {xs : List Lexeme} {e : Tree} → Derives l xs e → (bb : Bool) (d : ℕ) (b : Built) (fs : List Frame) → Builds l xs e (ready bb) d b fs
built (named {t = t} k whole) bb d b fs = λ f. ap (λ ts. along ts (at (ready bb) d) (framed b (f ∷ fs))) whole ∙ named_built bb d t b f fs k
built (closed {xs = xs} {ys = ys} {e = e} o c ko kc whole inner) bb d b fs = λ f.
    let i = built inner true (suc d) b (f ∷ fs) in
    ap (λ ts. along ts (at (ready bb) d) (framed b (f ∷ fs))) whole
    ∙ opened_built bb d o (ys ++ (c ∷ [])) b (f ∷ fs) ko
    ∙ builds ys (c ∷ []) (ys ++ (c ∷ [])) (at Part (suc d)) (at Rest (suc d)) (framed b (empty_frame ∷ f ∷ fs)) (framed b (i.0 ∷ f ∷ fs))
    (framed b (with_part (Some e) f ∷ fs)) refl (derived_run inner true (suc d)) i.1 (rw (kc, i.2) refl)
built (starred {xs = xs} {ys = ys} {e = e} s k whole inner) bb d b fs = λ f.
    builds ys (s ∷ []) xs (at (ready bb) d) (at Rest d) (framed b (f ∷ fs)) (framed b (with_part (Some e) f ∷ fs))
    (framed b (with_part (Some (star e)) f ∷ fs)) whole (derived_run inner bb d) (built inner bb d b fs f) (rw k refl)
built (looped {xs = xs} {ys = ys} {e = e} s k whole inner) bb d b fs = λ f.
    builds ys (s ∷ []) xs (at (ready bb) d) (at Rest d) (framed b (f ∷ fs)) (framed b (with_part (Some e) f ∷ fs))
    (framed b (with_part (Some (plus e)) f ∷ fs)) whole (derived_run inner bb d) (built inner bb d b fs f) (rw k refl)
built (optioned {xs = xs} {ys = ys} {e = e} s k whole inner) bb d b fs = λ f.
    builds ys (s ∷ []) xs (at (ready bb) d) (at Rest d) (framed b (f ∷ fs)) (framed b (with_part (Some e) f ∷ fs))
    (framed b (with_part (Some (optional e)) f ∷ fs)) whole (derived_run inner bb d) (built inner bb d b fs f) (rw k refl)
built (noted {xs = xs} {ys = ys} {e = e} s {t = t} k n whole inner) bb d b fs = λ f.
    builds ys (s ∷ t ∷ []) xs (at (ready bb) d) (at Rest d) (framed b (f ∷ fs)) (framed b (with_part (Some e) f ∷ fs))
    (framed b (with_part (Some (marked e t)) f ∷ fs)) whole (derived_run inner bb d) (built inner bb d b fs f) (rw (k, n) refl)
built (classed o t c names ko kc are whole) bb d b fs = λ f.
    let i = class_built t names are (suc d) b (f ∷ fs) in
    let e = class_tree t names in
    ap (λ ts. along ts (at (ready bb) d) (framed b (f ∷ fs))) whole
    ∙ bracket_built bb d o ((t ∷ names) ++ (c ∷ [])) b (f ∷ fs) ko
    ∙ builds (t ∷ names) (c ∷ []) ((t ∷ names) ++ (c ∷ [])) (at ClassName (suc d)) (at ClassNames (suc d)) (framed b (empty_frame ∷ f ∷ fs))
    (framed b (i.0 ∷ f ∷ fs)) (framed b (with_part (Some e) f ∷ fs)) refl (class_run (suc d) t names are) i.1 (rw (kc, i.2) refl)
built (repeated {xs = xs} {ys = ys} {e = e} o least comma most c ko kl kc km ke whole inner) bb d b fs = λ f.
    builds ys (o ∷ least ∷ comma ∷ most ∷ c ∷ []) xs (at (ready bb) d) (at Rest d) (framed b (f ∷ fs)) (framed b (with_part (Some e) f ∷ fs))
    (framed b (with_part (Some (counted e least most c)) f ∷ fs)) whole (derived_run inner bb d) (built inner bb d b fs f)
    (bounds_built d o least comma most c b f e fs ko kl kc km ke)
built (alone {e = e} inner) bb d b fs = λ before.
    (with_part (Some e) (behind_bar before), built inner bb d b fs (behind_bar before), refl, refl)
built (followed {xs = xs} {ys = ys} {zs = zs} {e = e} {f = f} whole first second) bb d b fs = λ before.
    let i = built first bb d b fs before in
    let g : Frame = i.0 in
    let next = built second false d b fs g in (
      with_part (Some f) g,
      builds ys zs xs (at (ready bb) d) (at Rest d) (framed b (behind_bar before ∷ fs)) (framed b (g ∷ fs)) (framed b (with_part (Some f) g ∷ fs)) whole
          (derived_run first bb d) i.1 next,
      i.2,
      ap (λ chain. joined sequence chain (Some f)) i.3,
    )
built (single inner) bb d b fs =
    let i = built inner bb d b fs None in
    let g : Frame = i.0 in
    (g, i.1, ap (λ before. joined union before (chain_of g)) i.2 ∙ i.3)
built (either {xs = xs} {ys = ys} {zs = zs} {e = e} {f = f} s k whole first second) bb d b fs =
    let i = built first bb d b fs in
    let g : Frame = i.0 in
    let j = built second true d b fs (closed_frame g) in
    let h : Frame = j.0 in
    let bar : along (s ∷ zs) (at Rest d) (framed b (g ∷ fs)) ≡ along zs (at Part d) (framed b (behind_bar (closed_frame g) ∷ fs)) = rw k refl in (
      h,
      builds ys (s ∷ zs) xs (at (ready bb) d) (at Rest d) (framed b (empty_frame ∷ fs)) (framed b (g ∷ fs)) (framed b (h ∷ fs)) whole
          (derived_run first bb d) i.1 (bar ∙ j.1),
      ap (λ before. joined union before (chain_of h)) (j.2 ∙ i.2) ∙ ap (λ chain. joined union (Some e) chain) j.3,
    )
