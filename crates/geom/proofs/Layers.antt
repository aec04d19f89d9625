-- Layers put one after another.
use Rattle.std.proofs.Common.{◌≡◌, ℕ, suc, zero, ◌<◌, ◌+◌, List, [], ◌∷◌, ◌++◌, ◌⊎◌, inl, inr, refl, sym, ◌∙◌, ap, arith, subst, nat_eq, if◌then◌else◌, lit<}
use Rattle.geom.specs.declared.layer.Layer.{Layer}
use Rattle.geom.specs.declared.layer.Layer.TheVariants.{Diffusion, Poly, Metal, Cut, Implant}
use Rattle.geom.specs.Squares.{BoxShape, Covered}
use Rattle.geom.specs.Merged.{rank, Precedes, Merges}
use Rattle.geom.specs.Rows.{IsTall, Among, Ordered}
use Rattle.geom.specs.Wholes.{IsWhole, AreLayers}
use Rattle.geom.proofs.Lists.{among_left, among_right, among_cases}
use Rattle.geom.proofs.Overs.{OverBy, over_by}
use Rattle.geom.proofs.Canonical.{Cover, cover_of, covered_by, merges_from_canonical}

at_rank : ℕ → Layer
at_rank n = if nat_eq n 0 then Diffusion else if nat_eq n 1 then Poly else if nat_eq n 2 then Metal else if nat_eq n 3 then Cut else Implant

back_rank : (l : Layer) → at_rank (rank l) ≡ l
unfolding at_rank
back_rank Diffusion = refl
back_rank Poly = refl
back_rank Metal = refl
back_rank Cut = refl
back_rank Implant = refl

one_rank : (l k : Layer) → rank l ≡ rank k → l ≡ k
one_rank l k e = sym (back_rank l) ∙ ap at_rank e ∙ back_rank k

below_five : (l : Layer) → rank l < 5
below_five Diffusion = lit< tt
below_five Poly = lit< tt
below_five Metal = lit< tt
below_five Cut = lit< tt
below_five Implant = lit< tt

ordered_append : (m n : List BoxShape) → Ordered m → Ordered n → ((b c : BoxShape) → Among m b → Among n c → Precedes b c) → Ordered (m ++ n)
ordered_append [] n p q h = q
ordered_append (b ∷ bs) n p q h = (
  (λ c i. elim (among_cases bs n c i) [ inl j ↦ p.0 c j | inr j ↦ h b c (inl refl) j ]),
  ordered_append bs n p.1 q (λ b' c i j. h b' c (inr i) j),
)

nat_or : (m n : ℕ) → m < n + 1 → (m < n) ⊎ (m ≡ n)
nat_or zero zero h = inr refl
nat_or zero (suc n) h = inl (omega arith)
nat_or (suc m) zero h = absurd (omega arith)
nat_or (suc m) (suc n) h = elim (nat_or m n (omega arith)) [ inl l ↦ inl (omega arith) | inr e ↦ inr (ap suc e) ]

split_rank : (l k : Layer) → rank l < rank k + 1 → (rank l < rank k) ⊎ (rank l ≡ rank k)
split_rank l k h = nat_or (rank l) (rank k) h

pub layers_more : (drawn : List BoxShape) (layer : Layer) (old part : List BoxShape) → AreLayers drawn (rank layer) old → IsWhole (Covered drawn layer) layer part
    → AreLayers drawn (rank layer + 1) (old ++ part)
layers_more drawn layer old part a w = record {
  layers = λ b h. elim (among_cases old part b h) [
    | inl i ↦ let z : rank b.layer < rank layer = a.layers b i in omega arith
    | inr i ↦ let z : rank b.layer ≡ rank layer = ap rank (w.layers b i) in omega arith
  ];
  boxes = λ b h. elim (among_cases old part b h) [ inl i ↦ a.boxes b i | inr i ↦ w.boxes b i ];
  tall = λ b h. elim (among_cases old part b h) [
    | inl i ↦ a.tall b i
    | inr i ↦ let P : Layer → Type 0 = λ l. IsTall (Covered drawn l) b in subst P (sym (w.layers b i)) (w.tall b i)
  ];
  covers = λ l x y h k. elim (split_rank l layer h) [
    | inl z ↦
        let o : Cover old l x y = cover_of old l x y (a.covers l x y z k) in
        covered_by (old ++ part) o.box l x y (among_left old part o.box o.among) o.layer_is o.inside
    | inr z ↦
        let e : l ≡ layer = one_rank l layer z in
        let P : Layer → Type 0 = λ v. Covered drawn v x y in
        let t : OverBy part x y = over_by part x y (w.covers x y (subst P e k)) in
        covered_by (old ++ part) t.box l x y (among_right old part t.box t.among) (w.layers t.box t.among ∙ sym e) t.inside
  ];
  order = ordered_append old part a.order w.order (λ b d i j.
      let z : rank b.layer < rank layer = a.layers b i in
      let y : rank d.layer ≡ rank layer = ap rank (w.layers d j) in
      inl (omega arith));
}

pub no_layers : (drawn : List BoxShape) → AreLayers drawn 0 []
no_layers drawn = record {
  layers = λ b h. absurd h;
  boxes = λ b h. absurd h;
  tall = λ b h. absurd h;
  covers = λ l x y h k. absurd (omega arith);
  order = tt;
}

pub all_layers : (drawn m : List BoxShape) → AreLayers drawn 5 m → Merges drawn m
all_layers drawn m a = merges_from_canonical drawn m (record {
  runs = record { boxes = a.boxes; tall = a.tall };
  covers = λ l x y h. cover_of m l x y (a.covers l x y (below_five l) h);
  order = a.order;
})
