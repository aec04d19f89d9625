-- What was read, where something is due.
use Rattle.std.proofs.Common.{◌≡◌, ◌≢◌, ◌⊎◌, inl, inr, ℕ, Bool, true, false, ◌&&◌, ℤ, List, [], ◌∷◌, ◌++◌, Some, None, codes, refl, sym, ◌∙◌, ap, subst, append_assoc}
use Rattle.std.specs.List.{list_all, flat_map}
use Rattle.std.proofs.lemmas.List.{append-nil}
use Rattle.geom.specs.declared.point.Point.{Point}
use Rattle.geom.specs.CifCommands.{CifMove, Translates, Rotates, CifCommand, Opens, CallsSymbol, DrawsBox, DrawsPolygon, DrawsWire, CifPart, Letters, Unsigned, Signed, SpellsPart, SpellsParts, AreCifBlanks, SpellsCommand, is_cif_blank, point_parts, move_parts, needs_blank}
use Rattle.cif_syntax.specs.declared.slot.Slot.{Slot}
use Rattle.cif_syntax.specs.declared.slot.Slot.TheVariants.{Symbol, Times, Per, Called, FirstMove, SecondMove, Length, Width, CentreX, CentreY, DirectionX, DirectionY, Wire, PointX, PointY}
use Rattle.cif_syntax.specs.Slots.{next_slot, is_signed, may_end, may_move, is_scale}
use Rattle.cif_syntax.proofs.Accepting.{FitsSlot}

-- ---- parts so far

-- whatever parts stand behind blanks here, all are spelled
abbrev pub Ended : List CifPart → List ℕ → Type 0
Ended ps bs = (gap : List ℕ) (qs : List CifPart) (tail : List ℕ) → AreCifBlanks gap → SpellsParts qs tail → SpellsParts (ps ++ qs) (bs ++ (gap ++ tail))

-- the same of parts of which there is one
abbrev pub Opened : List CifPart → List ℕ → Type 0
Opened ps bs =
    (gap : List ℕ) (q : CifPart) (qs : List CifPart) (tail : List ℕ) → AreCifBlanks gap → SpellsParts (q ∷ qs) tail → SpellsParts (ps ++ q ∷ qs) (bs ++ (gap ++ tail))

-- the same of parts that need no blanks behind a number
abbrev pub Spoken : List CifPart → CifPart → List ℕ → Type 0
Spoken ps p bs =
    (qs : List CifPart) (tail : List ℕ) → needs_blank p qs ≡ false → SpellsParts qs tail → SpellsParts (ps ++ p ∷ qs) (bs ++ tail)

pub opened : (ps : List CifPart) (bs : List ℕ) → Ended ps bs → Opened ps bs
opened ps bs h = λ gap q qs tail b s. h gap (q ∷ qs) tail b s

-- parts and bytes, one behind the other
parts_same : (ps qs : List CifPart) (bytes other : List ℕ) (rs : List CifPart) → ps ≡ qs → bytes ≡ other → SpellsParts (ps ++ rs) bytes → SpellsParts (qs ++ rs) other
parts_same ps qs bytes other rs e f s =
    let P : List CifPart → Type 0 = λ l. SpellsParts (l ++ rs) bytes in
    let Q : List ℕ → Type 0 = λ l. SpellsParts (qs ++ rs) l in
    subst Q f (subst P e s)

pub spells_at : (ps : List CifPart) (bytes other : List ℕ) → bytes ≡ other → SpellsParts ps bytes → SpellsParts ps other
spells_at ps bytes other e s = let P : List ℕ → Type 0 = λ l. SpellsParts ps l in subst P e s

pub parts_at : (ps qs : List CifPart) (bytes : List ℕ) → ps ≡ qs → SpellsParts ps bytes → SpellsParts qs bytes
parts_at ps qs bytes e s = let P : List CifPart → Type 0 = λ l. SpellsParts l bytes in subst P e s

no_blank : (w : List ℕ) (qs : List CifPart) → needs_blank (Letters w) qs ≡ false
no_blank w [] = refl
no_blank w (q ∷ qs) = refl

-- letters, and parts behind blanks
pub letters_then : (w gap : List ℕ) (qs : List CifPart) (tail : List ℕ) → AreCifBlanks gap → SpellsParts qs tail → SpellsParts (Letters w ∷ qs) (w ++ (gap ++ tail))
letters_then w gap qs tail b s = record {
  word = w;
  gap = gap;
  rest = tail;
  is = sym (append_assoc w gap tail);
  spelled = refl;
  blanks = b;
  apart = λ e. (let z : true ≡ false = sym e ∙ no_blank w qs in absurd cc);
  more = s;
}

pub first_letters : (w : List ℕ) → Ended (Letters w ∷ []) w
first_letters w = λ gap qs tail b s. letters_then w gap qs tail b s

-- letters more
pub add_letters : (ps : List CifPart) (bs w : List ℕ) → Ended ps bs → Ended (ps ++ Letters w ∷ []) (bs ++ w)
add_letters ps bs w h = λ gap qs tail b s.
    parts_at (ps ++ Letters w ∷ qs) ((ps ++ Letters w ∷ []) ++ qs) ((bs ++ w) ++ (gap ++ tail)) (sym (append_assoc ps (Letters w ∷ []) qs))
    (spells_at (ps ++ Letters w ∷ qs) (bs ++ ([] ++ (w ++ (gap ++ tail)))) ((bs ++ w) ++ (gap ++ tail)) (sym (append_assoc bs w (gap ++ tail)))
    (h [] (Letters w ∷ qs) (w ++ (gap ++ tail)) refl (letters_then w gap qs tail b s)))

-- letters behind a number
pub speak_letters : (ps : List CifPart) (p : CifPart) (bs w : List ℕ) → ((qs : List CifPart) → needs_blank p (Letters w ∷ qs) ≡ false) → Spoken ps p bs
    → Ended ((ps ++ p ∷ []) ++ Letters w ∷ []) (bs ++ w)
speak_letters ps p bs w n h = λ gap qs tail b s.
    let e : ps ++ p ∷ (Letters w ∷ qs) ≡ ((ps ++ p ∷ []) ++ Letters w ∷ []) ++ qs =
    sym (append_assoc (ps ++ p ∷ []) (Letters w ∷ []) qs ∙ append_assoc ps (p ∷ []) (Letters w ∷ qs)) in
    parts_at (ps ++ p ∷ (Letters w ∷ qs)) (((ps ++ p ∷ []) ++ Letters w ∷ []) ++ qs) ((bs ++ w) ++ (gap ++ tail)) e
    (spells_at (ps ++ p ∷ (Letters w ∷ qs)) (bs ++ (w ++ (gap ++ tail))) ((bs ++ w) ++ (gap ++ tail)) (sym (append_assoc bs w (gap ++ tail)))
    (h (Letters w ∷ qs) (w ++ (gap ++ tail)) (n qs) (letters_then w gap qs tail b s)))

blank_more : (b : ℕ) (gap : List ℕ) → is_cif_blank b ≡ true → AreCifBlanks gap → AreCifBlanks (b ∷ gap)
blank_more b gap h g = ap (λ (v : Bool). v && list_all is_cif_blank gap) h ∙ g

pub blanks_push : (gap : List ℕ) (b : ℕ) → AreCifBlanks gap → is_cif_blank b ≡ true → AreCifBlanks (gap ++ b ∷ [])
blanks_push [] b g h = ap (λ (v : Bool). v && true) h
blanks_push (a ∷ more) b g h =
    let f = both (is_cif_blank a) (list_all is_cif_blank more) g in
    ap (λ (v : Bool). v && list_all is_cif_blank (more ++ b ∷ [])) f.0 ∙ blanks_push more b f.1 h
  where
    both : (x y : Bool) → (x && y) ≡ true → (x ≡ true) × (y ≡ true)
    both true y e = (refl, e)
    both false y e = absurd cc

-- a blank more
pub ended_blank : (ps : List CifPart) (bs : List ℕ) (b : ℕ) → is_cif_blank b ≡ true → Ended ps bs → Ended ps (bs ++ b ∷ [])
ended_blank ps bs b h e = λ gap qs tail g s.
    spells_at (ps ++ qs) (bs ++ (b ∷ gap ++ tail)) ((bs ++ b ∷ []) ++ (gap ++ tail)) (sym (append_assoc bs (b ∷ []) (gap ++ tail)))
    (e (b ∷ gap) qs tail (blank_more b gap h g) s)

pub opened_blank : (ps : List CifPart) (bs : List ℕ) (b : ℕ) → is_cif_blank b ≡ true → Opened ps bs → Opened ps (bs ++ b ∷ [])
opened_blank ps bs b h e = λ gap q qs tail g s.
    spells_at (ps ++ q ∷ qs) (bs ++ (b ∷ gap ++ tail)) ((bs ++ b ∷ []) ++ (gap ++ tail)) (sym (append_assoc bs (b ∷ []) (gap ++ tail)))
    (e (b ∷ gap) q qs tail (blank_more b gap h g) s)

-- a number with blanks, or with parts behind it that need none
pub number_ended : (ps : List CifPart) (p : CifPart) (bs word : List ℕ) (b : ℕ) → is_cif_blank b ≡ true → SpellsPart p word → Opened ps bs
    → Ended (ps ++ p ∷ []) ((bs ++ word) ++ b ∷ [])
number_ended ps p bs word b h w o = λ gap qs tail g s.
    let bytes : List ℕ = ((bs ++ word) ++ b ∷ []) ++ (gap ++ tail) in
    let e : bs ++ ([] ++ (word ++ (b ∷ gap ++ tail))) ≡ bytes =
    sym (append_assoc (bs ++ word) (b ∷ []) (gap ++ tail) ∙ append_assoc bs word (b ∷ gap ++ tail)) in
    parts_at (ps ++ p ∷ qs) ((ps ++ p ∷ []) ++ qs) bytes (sym (append_assoc ps (p ∷ []) qs)) (spells_at (ps ++ p ∷ qs) (bs ++ ([] ++ (word ++ (b ∷ gap ++ tail)))) bytes e
    (o [] p qs (word ++ (b ∷ gap ++ tail)) refl (record {
      word = word;
      gap = b ∷ gap;
      rest = tail;
      is = sym (append_assoc word (b ∷ gap) tail);
      spelled = w;
      blanks = blank_more b gap h g;
      apart = λ t f. cc;
      more = s;
    })))

pub number_spoken : (ps : List CifPart) (p : CifPart) (bs word : List ℕ) → SpellsPart p word → Opened ps bs → Spoken ps p (bs ++ word)
number_spoken ps p bs word w o = λ qs tail n s.
    spells_at (ps ++ p ∷ qs) (bs ++ ([] ++ (word ++ tail))) ((bs ++ word) ++ tail) (sym (append_assoc bs word tail))
    (o [] p qs (word ++ tail) refl (record {
      word = word;
      gap = [];
      rest = tail;
      is = ap (λ (l : List ℕ). l ++ tail) (sym (append-nil word));
      spelled = w;
      blanks = refl;
      apart = λ t. (let z : true ≡ false = sym t ∙ n in absurd cc);
      more = s;
    }))

pub ended_spoken : (ps : List CifPart) (p : CifPart) (bs : List ℕ) → Ended (ps ++ p ∷ []) bs → Spoken ps p bs
ended_spoken ps p bs h = λ qs tail n s. parts_at ((ps ++ p ∷ []) ++ qs) (ps ++ p ∷ qs) (bs ++ tail) (append_assoc ps (p ∷ []) qs) (h [] qs tail refl s)

-- ---- what parts stand before a slot

abbrev pub call_parts : ℕ → List CifMove → List CifPart
call_parts n moves = Letters (codes "C") ∷ Unsigned n ∷ flat_map move_parts moves

-- `P`, or `W` with a width, and points
abbrev pub Headed : List Point → List CifPart → Type 0
Headed points ps =
    (ps ≡ Letters (codes "P") ∷ flat_map point_parts points)
    ⊎ ((width : ℕ) × (ps ≡ Letters (codes "W") ∷ Unsigned width ∷ flat_map point_parts points))

abbrev pub Begun : Slot → List CifPart → Type 0
Begun Symbol ps = ps ≡ Letters (codes "DS") ∷ []
Begun Times ps = (n : ℕ) × (ps ≡ Letters (codes "DS") ∷ Unsigned n ∷ [])
Begun Per ps = (n : ℕ) × (a : ℕ) × (a ≢ 0) × (ps ≡ Letters (codes "DS") ∷ Unsigned n ∷ Unsigned a ∷ [])
Begun Called ps = ps ≡ Letters (codes "C") ∷ []
Begun FirstMove ps =
    (n : ℕ) × (moves : List CifMove) × (w : List ℕ) × ((w ≡ codes "T") ⊎ (w ≡ codes "R")) × (ps ≡ call_parts n moves ++ Letters w ∷ [])
Begun SecondMove ps =
    (n : ℕ) × (moves : List CifMove) × (w : List ℕ) × ((w ≡ codes "T") ⊎ (w ≡ codes "R")) × (x : ℤ)
    × (ps ≡ (call_parts n moves ++ Letters w ∷ []) ++ Signed x ∷ [])
Begun Length ps = ps ≡ Letters (codes "B") ∷ []
Begun Width ps = (a : ℕ) × (ps ≡ Letters (codes "B") ∷ Unsigned a ∷ [])
Begun CentreX ps = (a : ℕ) × (b : ℕ) × (ps ≡ Letters (codes "B") ∷ Unsigned a ∷ Unsigned b ∷ [])
Begun CentreY ps = (a : ℕ) × (b : ℕ) × (x : ℤ) × (ps ≡ Letters (codes "B") ∷ Unsigned a ∷ Unsigned b ∷ Signed x ∷ [])
Begun DirectionX ps =
    (a : ℕ) × (b : ℕ) × (x : ℤ) × (y : ℤ) × (ps ≡ Letters (codes "B") ∷ Unsigned a ∷ Unsigned b ∷ Signed x ∷ Signed y ∷ [])
Begun DirectionY ps =
    (a : ℕ) × (b : ℕ) × (x : ℤ) × (y : ℤ) × (u : ℤ) × (ps ≡ Letters (codes "B") ∷ Unsigned a ∷ Unsigned b ∷ Signed x ∷ Signed y ∷ Signed u ∷ [])
Begun Wire ps = ps ≡ Letters (codes "W") ∷ []
Begun PointX ps = (points : List Point) × Headed points ps
Begun PointY ps = (points : List Point) × (front : List CifPart) × (x : ℤ) × Headed points front × (ps ≡ front ++ Signed x ∷ [])

pub flat_map_push : {U V : Type 0} (f : U → List V) (xs : List U) (x : U) → flat_map f (xs ++ x ∷ []) ≡ flat_map f xs ++ f x
flat_map_push f [] x = append-nil (f x)
flat_map_push f (y ∷ ys) x = ap (λ l. f y ++ l) (flat_map_push f ys x) ∙ sym (append_assoc (f y) (flat_map f ys) (f x))

-- a point more behind these
headed_push : (points : List Point) (front : List CifPart) (x y : ℤ) → Headed points front
    → Headed (points ++ record { x = x; y = y } ∷ []) ((front ++ Signed x ∷ []) ++ Signed y ∷ [])
headed_push points front x y (inl e) =
    inl (ap (λ (l : List CifPart). (l ++ Signed x ∷ []) ++ Signed y ∷ []) e ∙ (append_assoc (Letters (codes "P") ∷ flat_map point_parts points) (Signed x ∷ []) (Signed y ∷ [])
    ∙ ap (λ (l : List CifPart). Letters (codes "P") ∷ l) (sym (flat_map_push point_parts points (record { x = x; y = y })))))
headed_push points front x y (inr (w, e)) =
    inr (
      w,
      ap (λ (l : List CifPart). (l ++ Signed x ∷ []) ++ Signed y ∷ []) e
          ∙ (append_assoc (Letters (codes "W") ∷ Unsigned w ∷ flat_map point_parts points) (Signed x ∷ []) (Signed y ∷ [])
          ∙ ap (λ (l : List CifPart). Letters (codes "W") ∷ Unsigned w ∷ l) (sym (flat_map_push point_parts points (record { x = x; y = y })))),
    )

pub push_same : (ps qs : List CifPart) (p : CifPart) → ps ≡ qs → ps ++ p ∷ [] ≡ qs ++ p ∷ []
push_same ps qs p e = ap (λ (l : List CifPart). l ++ p ∷ []) e

some_same : {U : Type 0} {u v : U} → Some u ≡ Some v → u ≡ v
some_same h = cc

-- with the number of a slot the parts are those before the next
begun_unsigned : (slot next : Slot) (ps : List CifPart) (n : ℕ) → next_slot slot ≡ Some next → Begun slot ps → is_signed slot ≡ false
    → (is_scale slot ≡ true → n ≢ 0) → Begun next (ps ++ Unsigned n ∷ [])
begun_unsigned Symbol next ps n e b f g = let P : Slot → Type 0 = λ s. Begun s (ps ++ Unsigned n ∷ []) in subst P (some_same e) (n, push_same ps _ _ b)
begun_unsigned Times next ps n e b f g =
    let P : Slot → Type 0 = λ s. Begun s (ps ++ Unsigned n ∷ []) in subst P (some_same e) (b.0, n, g refl, push_same ps _ _ b.1)
begun_unsigned Length next ps n e b f g = let P : Slot → Type 0 = λ s. Begun s (ps ++ Unsigned n ∷ []) in subst P (some_same e) (n, push_same ps _ _ b)
begun_unsigned Width next ps n e b f g =
    let P : Slot → Type 0 = λ s. Begun s (ps ++ Unsigned n ∷ []) in subst P (some_same e) (b.0, n, push_same ps _ _ b.1)
begun_unsigned Wire next ps n e b f g =
    let P : Slot → Type 0 = λ s. Begun s (ps ++ Unsigned n ∷ []) in subst P (some_same e) ([], inr (n, push_same ps _ _ b))
begun_unsigned slot next ps n e b f g = absurd cc

begun_signed : (slot next : Slot) (ps : List CifPart) (z : ℤ) → next_slot slot ≡ Some next → Begun slot ps → is_signed slot ≡ true
    → Begun next (ps ++ Signed z ∷ [])
begun_signed FirstMove next ps z e b f =
    let P : Slot → Type 0 = λ s. Begun s (ps ++ Signed z ∷ []) in subst P (some_same e) (b.0, b.1, b.2, b.3, z, push_same ps _ _ b.4)
begun_signed CentreX next ps z e b f = let P : Slot → Type 0 = λ s. Begun s (ps ++ Signed z ∷ []) in subst P (some_same e) (b.0, b.1, z, push_same ps _ _ b.2)
begun_signed CentreY next ps z e b f =
    let P : Slot → Type 0 = λ s. Begun s (ps ++ Signed z ∷ []) in subst P (some_same e) (b.0, b.1, b.2, z, push_same ps _ _ b.3)
begun_signed DirectionX next ps z e b f =
    let P : Slot → Type 0 = λ s. Begun s (ps ++ Signed z ∷ []) in subst P (some_same e) (b.0, b.1, b.2, b.3, z, push_same ps _ _ b.4)
begun_signed PointX next ps z e b f = let P : Slot → Type 0 = λ s. Begun s (ps ++ Signed z ∷ []) in subst P (some_same e) (b.0, ps, z, b.1, refl)
begun_signed PointY next ps z e b f =
    let P : Slot → Type 0 = λ s. Begun s (ps ++ Signed z ∷ []) in
    let Q : List CifPart → Type 0 = λ l. Headed (b.0 ++ record { x = b.2; y = z } ∷ []) (l ++ Signed z ∷ []) in
    subst P (some_same e) (b.0 ++ record { x = b.2; y = z } ∷ [], subst Q (sym b.4) (headed_push b.0 b.1 b.2 z b.3))
begun_signed slot next ps z e b f = absurd cc

pub begun_next : (slot next : Slot) (ps : List CifPart) (p : CifPart) → next_slot slot ≡ Some next → Begun slot ps → FitsSlot slot p → Begun next (ps ++ p ∷ [])
begun_next slot next ps (Letters w) e b f = absurd f
begun_next slot next ps (Unsigned n) e b f = begun_unsigned slot next ps n e b f.0 f.1
begun_next slot next ps (Signed z) e b f = begun_signed slot next ps z e b f

-- a transformation more behind these
move_push : (n : ℕ) (moves : List CifMove) (w : List ℕ) (x y : ℤ) → ((w ≡ codes "T") ⊎ (w ≡ codes "R"))
    → (more : List CifMove) × (((call_parts n moves ++ Letters w ∷ []) ++ Signed x ∷ []) ++ Signed y ∷ [] ≡ call_parts n more)
move_push n moves w x y k =
    elim k [
      | inl e ↦ (moves ++ Translates x y ∷ [], joined (codes "T") e (Translates x y) refl)
      | inr e ↦ (moves ++ Rotates x y ∷ [], joined (codes "R") e (Rotates x y) refl)
    ]
  where
    joined : (v : List ℕ) → w ≡ v → (move : CifMove) → move_parts move ≡ Letters v ∷ Signed x ∷ Signed y ∷ []
        → ((call_parts n moves ++ Letters w ∷ []) ++ Signed x ∷ []) ++ Signed y ∷ [] ≡ call_parts n (moves ++ move ∷ [])
    joined v e move m =
        append_assoc (call_parts n moves ++ Letters w ∷ []) (Signed x ∷ []) (Signed y ∷ [])
        ∙ (append_assoc (call_parts n moves) (Letters w ∷ []) (Signed x ∷ Signed y ∷ [])
        ∙ (ap (λ (u : List ℕ). call_parts n moves ++ (Letters u ∷ Signed x ∷ Signed y ∷ [])) e
        ∙ (ap (λ (l : List CifPart). call_parts n moves ++ l) (sym m)
        ∙ ap (λ (l : List CifPart). Letters (codes "C") ∷ Unsigned n ∷ l) (sym (flat_map_push move_parts moves move)))))

-- ---- whole commands

pub record IsCommand (bytes : List ℕ) : Type 0 where
  pub command : CifCommand
  pub spelled : SpellsCommand command bytes

not_empty : {U : Type 0} (xs : List U) (x : U) → xs ++ x ∷ [] ≢ []
not_empty [] x e = cc
not_empty (y ∷ ys) x e = cc

headed_command : (points : List Point) (p : Point) (ps : List CifPart) (bs : List ℕ) → Headed (points ++ p ∷ []) ps → SpellsParts ps bs → IsCommand bs
headed_command points p ps bs (inl e) s = record { command = DrawsPolygon (points ++ p ∷ []); spelled = (not_empty points p, parts_at ps _ bs e s) }
headed_command points p ps bs (inr (w, e)) s = record { command = DrawsWire w (points ++ p ∷ []); spelled = (not_empty points p, parts_at ps _ bs e s) }

ends_unsigned : (slot : Slot) (ps : List CifPart) (n : ℕ) (bs : List ℕ) → may_end slot ≡ true → Begun slot ps → is_signed slot ≡ false
    → (is_scale slot ≡ true → n ≢ 0) → SpellsParts (ps ++ Unsigned n ∷ []) bs → IsCommand bs
ends_unsigned Symbol ps n bs m b f g s = record { command = Opens n None; spelled = (tt, parts_at (ps ++ Unsigned n ∷ []) _ bs (push_same ps _ _ b) s) }
ends_unsigned Per ps n bs m b f g s = record {
  command = Opens b.0 (Some (record { times = b.1; per = n }));
  spelled = ((b.2, g refl), parts_at (ps ++ Unsigned n ∷ []) _ bs (push_same ps _ _ b.3) s);
}
ends_unsigned Called ps n bs m b f g s = record { command = CallsSymbol n []; spelled = (tt, parts_at (ps ++ Unsigned n ∷ []) _ bs (push_same ps _ _ b) s) }
ends_unsigned slot ps n bs m b f g s = absurd cc

ends_signed : (slot : Slot) (ps : List CifPart) (z : ℤ) (bs : List ℕ) → may_end slot ≡ true → Begun slot ps → is_signed slot ≡ true
    → SpellsParts (ps ++ Signed z ∷ []) bs → IsCommand bs
ends_signed SecondMove ps z bs m b f s =
    let k = move_push b.0 b.1 b.2 b.4 z b.3 in
    record { command = CallsSymbol b.0 k.0; spelled = (tt, parts_at (ps ++ Signed z ∷ []) (call_parts b.0 k.0) bs (push_same ps _ _ b.5 ∙ k.1) s) }
ends_signed CentreY ps z bs m b f s = record {
  command = DrawsBox b.0 b.1 (record { x = b.2; y = z }) None;
  spelled = (tt, parts_at (ps ++ Signed z ∷ []) _ bs (push_same ps _ _ b.3) s);
}
ends_signed DirectionY ps z bs m b f s = record {
  command = DrawsBox b.0 b.1 (record { x = b.2; y = b.3 }) (Some (record { x = b.4; y = z }));
  spelled = (tt, parts_at (ps ++ Signed z ∷ []) _ bs (push_same ps _ _ b.5) s);
}
ends_signed PointY ps z bs m b f s =
    let Q : List CifPart → Type 0 = λ l. Headed (b.0 ++ record { x = b.2; y = z } ∷ []) (l ++ Signed z ∷ []) in
    headed_command b.0 (record { x = b.2; y = z }) (ps ++ Signed z ∷ []) bs (subst Q (sym b.4) (headed_push b.0 b.1 b.2 z b.3)) s
ends_signed slot ps z bs m b f s = absurd cc

pub ends_command : (slot : Slot) (ps : List CifPart) (p : CifPart) (bs : List ℕ) → may_end slot ≡ true → Begun slot ps → FitsSlot slot p
    → SpellsParts (ps ++ p ∷ []) bs → IsCommand bs
ends_command slot ps (Letters w) bs m b f s = absurd f
ends_command slot ps (Unsigned n) bs m b f s = ends_unsigned slot ps n bs m b f.0 f.1 s
ends_command slot ps (Signed z) bs m b f s = ends_signed slot ps z bs m b f s

-- the parts of a call so far
pub record IsCall (ps : List CifPart) : Type 0 where
  pub number : ℕ
  pub moves : List CifMove
  pub is : ps ≡ call_parts number moves

pub moves_call : (slot : Slot) (ps : List CifPart) (p : CifPart) → may_move slot ≡ true → Begun slot ps → FitsSlot slot p → IsCall (ps ++ p ∷ [])
moves_call slot ps (Letters w) m b f = absurd f
moves_call Called ps (Unsigned n) m b f = record { number = n; moves = []; is = push_same ps _ _ b }
moves_call SecondMove ps (Signed z) m b f = let k = move_push b.0 b.1 b.2 b.4 z b.3 in record { number = b.0; moves = k.0; is = push_same ps _ _ b.5 ∙ k.1 }
moves_call Called ps (Signed z) m b f = absurd cc
moves_call SecondMove ps (Unsigned n) m b f = let z : true ≡ false = f.0 in absurd cc
moves_call slot ps p m b f = absurd cc
