-- The pads of labels, label by label.
use Rattle.std.proofs.Common.{◌≡◌, ◌≢◌, ◌⊎◌, inl, inr, ℕ, suc, ◌+◌, ◌<◌, ◌≤◌, List, [], ◌∷◌, ◌++◌, length, get_or, take, drop, ◌↔◌, Bool, true, false, if◌then◌else◌, Some, None, refl, sym, ap, ◌∙◌, subst, append_assoc, append-nil, arith}
use Rattle.std.proofs.Math.Seq.{split_at}
use Rattle.std.proofs.lemmas.List.{take_more, take_all}
use Rattle.geom.specs.Rows.{Among, Pairwise}
use Rattle.geom.specs.declared.chip.Label.{Label}
use Rattle.rx_text.specs.declared.pad_name.Role.{Role}
use Rattle.switch_net.specs.declared.network.Pad.{Pad}
use Rattle.switch_net.specs.Validity.{AreDistinct, is_same_name}
use Rattle.nmos_model.specs.KnownPads.{IsAdded, HasClash}
use Rattle.nmos_model.specs.Lists.{Matched}
use Rattle.nmos_model.specs.Pads.{NetAt, label_net, is_named, first_labels, IsPadOf, ArePads, AreSound, IsNeeded, HasLabel, IsFirstLabel, StandsOnNothing, Disagrees, NoLabel}
use Rattle.nmos_model.proofs.Common.{among_either, among_before, among_last, inside}
use Rattle.nmos_model.proofs.KnownPads.{same_net}
use Rattle.nmos_model.proofs.Matching.{match_of, matched_more, matched_length, matched_at, among_cut, among_front, any_found, none_passes, pairwise_more, pair_of}
use Rattle.nmos_model.proofs.SameNames.{decides_name}

-- each label of these stands on a net
pub on_nets : (net : NetAt) (labels : List Label) (pads : List Pad) → Matched (IsPadOf net) labels pads → (label : Label) → Among labels label
    → (n : ℕ) × (label_net net label ≡ Some n)
on_nets net labels pads h label w = let found = match_of (IsPadOf net) labels pads label h w in (found.0.net.0, found.2.number)

-- so none stands on nothing
pub none_on_nothing : (net : NetAt) (labels : List Label) (pads : List Pad) → Matched (IsPadOf net) labels pads → NoLabel (StandsOnNothing net) labels
none_on_nothing net labels pads h before after one e nothing =
    let found = on_nets net labels pads h one (subst (λ ls. Among ls one) (sym e) (among_cut before after one)) in
    let on = found.1 in absurd (cc)

-- the first label that stands on nothing
pub first_on_nothing : (net : NetAt) (labels : List Label) (pads : List Pad) (i : ℕ) (label : Label) → i < length labels → label ≡ get_or labels i label
    → Matched (IsPadOf net) (take i labels) pads → None ≡ label_net net label → IsFirstLabel (StandsOnNothing net) labels label.x label.y
first_on_nothing net labels pads i label lt at h nothing = record {
  earlier = take i labels;
  label = label;
  later = drop (suc i) labels;
  whole = split_at labels i label lt ∙ ap (λ l. take i labels ++ l ∷ drop (suc i) labels) (sym at);
  holds = sym nothing;
  first = none_on_nothing net (take i labels) pads h;
  across = refl;
  upward = refl;
}

-- the pad of the label at a place
pub pad_at : (net : NetAt) (labels : List Label) (each : List Pad) (i : ℕ) (label : Label) (pad : Pad) → i < length each
    → label ≡ get_or labels i label → pad ≡ get_or each i pad → Matched (IsPadOf net) labels each → IsPadOf net label pad
pad_at net labels each i label pad lt at of h =
    subst (λ l. IsPadOf net l pad) (sym at)
    (subst (λ p. IsPadOf net (get_or labels i label) p) (sym of) (matched_at (IsPadOf net) labels each i label pad h lt))

-- ---- the first labels of names

first_last : (earlier labels : List Label) (label : Label)
    → first_labels earlier (labels ++ label ∷ []) ≡ first_labels earlier labels ++ (if is_named (earlier ++ labels) label then [] else label ∷ [])
first_last earlier [] label = ap (λ ls. if is_named ls label then [] else label ∷ []) (sym (append-nil earlier))
first_last earlier (one ∷ labels) label =
    behind (is_named earlier one)
    (first_last (earlier ++ one ∷ []) labels label
    ∙ ap (λ ls. first_labels (earlier ++ one ∷ []) labels ++ (if is_named ls label then [] else label ∷ [])) (append_assoc earlier (one ∷ []) labels))
  where
    behind : (b : Bool) → first_labels (earlier ++ one ∷ []) (labels ++ label ∷ [])
        ≡ first_labels (earlier ++ one ∷ []) labels ++ (if is_named (earlier ++ one ∷ labels) label then [] else label ∷ [])
        → (if b then first_labels (earlier ++ one ∷ []) (labels ++ label ∷ []) else one ∷ first_labels (earlier ++ one ∷ []) (labels ++ label ∷ []))
        ≡ (if b then first_labels (earlier ++ one ∷ []) labels else one ∷ first_labels (earlier ++ one ∷ []) labels)
        ++ (if is_named (earlier ++ one ∷ labels) label then [] else label ∷ [])
    behind true e = e
    behind false e = ap (λ ls. one ∷ ls) e

-- the first labels are some of the labels
pub first_among : (earlier labels : List Label) (label : Label) → Among (first_labels earlier labels) label → Among labels label
first_among earlier [] label w = elim w [ ]
first_among earlier (one ∷ labels) label w = behind (is_named earlier one) (λ v. first_among (earlier ++ one ∷ []) labels label v) w
  where
    behind : (b : Bool) → (Among (first_labels (earlier ++ one ∷ []) labels) label → Among labels label)
        → Among (if b then first_labels (earlier ++ one ∷ []) labels else one ∷ first_labels (earlier ++ one ∷ []) labels) label
        → (one ≡ label) ⊎ Among labels label
    behind true rest w = inr (rest w)
    behind false rest (inl e) = inl e
    behind false rest (inr w) = inr (rest w)

-- ---- what is known of labels and their pads

-- The pads are the names of the labels, each on one net of its own.
pub record AreNamed (net : NetAt) (labels : List Label) (pads : List Pad) : Type 0 where
  pub pads_are : ArePads net labels pads
  pub each : (label : Label) → Among labels label → (pad : Pad) × Among pads pad × IsPadOf net label pad
  pub from : (pad : Pad) → Among pads pad → (label : Label) × Among labels label × IsPadOf net label pad
  pub distinct : Pairwise AreDistinct pads

module _ (net : NetAt) (labels : List Label) (pads : List Pad) (named : AreNamed net labels pads) where
  pub agree : (a b : Label) → Among labels a → Among labels b → (a.pad ≡ b.pad) ↔ (label_net net a ≡ label_net net b)
  agree a b v w =
      let p = named.each a v in
      let q = named.each b w in
      go p.0 q.0 p.2 q.2 (pair_of AreDistinct pads p.0 q.0 named.distinct p.1 q.1)
    where
      go : (p q : Pad) → IsPadOf net a p → IsPadOf net b q → (p ≡ q) ⊎ (AreDistinct p q ⊎ AreDistinct q p)
          → (a.pad ≡ b.pad) ↔ (label_net net a ≡ label_net net b)
      go p q i j (inl e) =
          (λ _. i.number ∙ ap (λ (pad : Pad). Some pad.net.0) e ∙ sym j.number, λ _. sym i.name ∙ ap (λ (pad : Pad). pad.name) e ∙ j.name)
      go p q i j (inr (inl d)) =
          (λ e. absurd (d.0 (i.name ∙ e ∙ sym j.name)), λ e. absurd (d.1 (same_net p.net q.net (inside _ _ (sym i.number ∙ e ∙ j.number)))))
      go p q i j (inr (inr d)) =
          (λ e. absurd (d.0 (j.name ∙ sym e ∙ sym i.name)), λ e. absurd (d.1 (same_net q.net p.net (inside _ _ (sym j.number ∙ sym e ∙ i.number)))))

  pub none_disagrees : NoLabel (Disagrees net) labels
  none_disagrees before after one e odd =
      let whole = sym e in
      let this : Among labels one = subst (λ ls. Among ls one) whole (among_cut before after one) in
      let other : Among labels odd.0 = subst (λ ls. Among ls odd.0) whole (among_front before (one ∷ after) odd.0 odd.1) in
      let same = agree odd.0 one other this in
      go odd.0 one same odd.2
    where
      go : (a b : Label) → (a.pad ≡ b.pad) ↔ (label_net net a ≡ label_net net b)
          → ((a.pad ≡ b.pad) × (label_net net a ≢ label_net net b)) ⊎ ((a.pad ≢ b.pad) × (label_net net a ≡ label_net net b)) → ⊥
      go a b same (inl h) = h.1 (same.0 h.0)
      go a b same (inr h) = h.0 (same.1 h.1)

  module _ (label : Label) (pad : Pad) (of : IsPadOf net label pad) where
    -- a pad that clashes is of a label that disagrees
    pub clash_disagrees : HasClash pads pad → Disagrees net labels label
    clash_disagrees clash = let source = named.from clash.0 clash.1 in (source.0, source.1, go source.0 clash.0 source.2 clash.2)
      where
        go : (a : Label) (p : Pad) → IsPadOf net a p → ((p.name ≡ pad.name) × (p.net ≢ pad.net)) ⊎ ((p.name ≢ pad.name) × (p.net ≡ pad.net))
            → ((a.pad ≡ label.pad) × (label_net net a ≢ label_net net label)) ⊎ ((a.pad ≢ label.pad) × (label_net net a ≡ label_net net label))
        go a p i (inl h) =
            inl (sym i.name ∙ h.0 ∙ of.name, λ e. h.1 (same_net p.net pad.net (inside _ _ (sym i.number ∙ e ∙ of.number))))
        go a p i (inr h) =
            inr (λ e. h.0 (i.name ∙ e ∙ sym of.name), i.number ∙ ap (λ n. Some n.0) h.1 ∙ sym of.number)

    more_each : (new : List Pad) → Among new pad → ((p : Pad) → Among pads p → Among new p) → (a : Label) → (label ≡ a) ⊎ Among labels a
        → (p : Pad) × Among new p × IsPadOf net a p
    more_each new here kept a (inl e) = (pad, here, subst (λ l. IsPadOf net l pad) e of)
    more_each new here kept a (inr w) = let old = named.each a w in (old.0, kept old.0 old.1, old.2)

    more_from : (p : Pad) → (pad ≡ p) ⊎ Among pads p → (a : Label) × Among (labels ++ label ∷ []) a × IsPadOf net a p
    more_from p (inl e) = (label, among_last labels label, subst (λ q. IsPadOf net label q) e of)
    more_from p (inr w) = let old = named.from p w in (old.0, among_before labels label old.0 old.1, old.2)

    -- a label with the name of one before it
    named_again : Among pads pad → is_named labels label ≡ true
    named_again w = go (is_named labels label) refl
      where
        go : (b : Bool) → is_named labels label ≡ b → b ≡ true
        go true e = refl
        go false e =
            let source = named.from pad w in
            absurd (none_passes (λ one. is_same_name one.pad label.pad) labels e source.0 source.1
            ((decides_name source.0.pad label.pad).1 (sym source.2.name ∙ of.name)))

    -- a label with a name that none before it has
    named_first : ((one : Pad) → Among pads one → AreDistinct one pad) → is_named labels label ≡ false
    named_first apart = go (is_named labels label) refl
      where
        go : (b : Bool) → is_named labels label ≡ b → b ≡ false
        go false e = refl
        go true e =
            let found = any_found (λ one. is_same_name one.pad label.pad) labels e in
            let own = named.each found.0 found.1 in
            absurd ((apart own.0 own.1).0 (own.2.name ∙ (decides_name found.0.pad label.pad).0 found.2 ∙ sym of.name))

    pub one_more_named : (new : List Pad) → IsAdded pads pad new → AreNamed net (labels ++ label ∷ []) new
    one_more_named new (inl (w, e)) = subst (λ ps. AreNamed net (labels ++ label ∷ []) ps) (sym e) (record {
      pads_are = subst (λ ls. Matched (IsPadOf net) ls pads)
          (sym (first_last [] labels label ∙ ap (λ b. first_labels [] labels ++ (if b then [] else label ∷ [])) (named_again w) ∙ append-nil (first_labels [] labels)))
          named.pads_are;
      each = λ a v. more_each pads w (λ p u. u) a (among_either labels label a v);
      from = λ p u. more_from p (inr u);
      distinct = named.distinct;
    })
    one_more_named new (inr (apart, e)) = subst (λ ps. AreNamed net (labels ++ label ∷ []) ps) (sym e) (record {
      pads_are = subst (λ ls. Matched (IsPadOf net) ls (pads ++ pad ∷ []))
          (sym (first_last [] labels label ∙ ap (λ b. first_labels [] labels ++ (if b then [] else label ∷ [])) (named_first apart)))
          (matched_more (IsPadOf net) (first_labels [] labels) pads label pad named.pads_are of);
      each = λ a v. more_each (pads ++ pad ∷ []) (among_last pads pad) (λ p u. among_before pads pad p u) a (among_either labels label a v);
      from = λ p u. more_from p (among_either pads pad p u);
      distinct = pairwise_more AreDistinct pads pad named.distinct apart;
    })

-- the next label is named
pub next_named : (net : NetAt) (labels : List Label) (each pads new : List Pad) (at : ℕ) (pad : Pad) → at < length each → at < length labels
    → pad ≡ get_or each at pad → Matched (IsPadOf net) labels each → AreNamed net (take at labels) pads → IsAdded pads pad new
    → AreNamed net (take (at + 1) labels) new
next_named net [] each pads new at pad lt within is h named added = absurd (omega arith)
next_named net (first ∷ rest) each pads new at pad lt within is h named added =
    let labels = first ∷ rest in
    let label = get_or labels at first in
    let of = subst (λ p. IsPadOf net label p) (sym is) (matched_at (IsPadOf net) labels each at first pad h lt) in
    subst (λ ls. AreNamed net ls new) (sym (take_more labels at first within))
    (one_more_named net (take at labels) pads named label pad of new added)

-- the loop over the labels has ended
pub all_named : (net : NetAt) (labels : List Label) (each pads items : List Pad) (at : ℕ) → length each ≤ at → Matched (IsPadOf net) labels each
    → AreNamed net (take at labels) pads → items ≡ pads → AreNamed net labels items
all_named net labels each pads items at le h named e =
    subst (λ ps. AreNamed net labels ps) (sym e)
    (subst (λ ls. AreNamed net ls pads) (take_all at labels (omega (arith, matched_length (IsPadOf net) labels each h))) named)

-- all labels are named
pub all_sound : (net : NetAt) (labels : List Label) (each pads : List Pad) → Matched (IsPadOf net) labels each → AreNamed net labels pads
    → ((role : Role) → IsNeeded role → HasLabel labels role) → AreSound net labels
all_sound net labels each pads h named roles = record {
  on_nets = on_nets net labels each h;
  agree = agree net labels pads named;
  needed = roles;
}

-- the first label that disagrees
pub first_to_disagree : (net : NetAt) (labels : List Label) (each pads : List Pad) (i : ℕ) (label : Label) (pad : Pad) → i < length each
    → label ≡ get_or labels i label → pad ≡ get_or each i pad → Matched (IsPadOf net) labels each → AreNamed net (take i labels) pads
    → HasClash pads pad → IsFirstLabel (Disagrees net) labels label.x label.y
first_to_disagree net labels each pads i label pad lt at of h named clash = record {
  earlier = take i labels;
  label = label;
  later = drop (suc i) labels;
  whole = split_at labels i label (omega (arith, matched_length (IsPadOf net) labels each h))
      ∙ ap (λ l. take i labels ++ l ∷ drop (suc i) labels) (sym at);
  holds = clash_disagrees net (take i labels) pads named label pad (pad_at net labels each i label pad lt at of h) clash;
  first = none_disagrees net (take i labels) pads named;
  across = refl;
  upward = refl;
}
