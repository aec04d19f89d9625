-- Lists of listeners that are served, in parts.
use Rattle.std.proofs.Common.{◌≡◌, inl, inr, Bool, true, false, ◌&&◌, if◌then◌else◌, List, [], ◌∷◌, ◌++◌, refl, sym, ap, ap₂, ◌∙◌, subst, append_assoc}
use Rattle.sim_probe.specs.Manner.{Manner}
use Rattle.sim_probe.specs.declared.sample.Sample.{Sample}
use Rattle.switch_sim.specs.Serving.{Listener, is_served, is_ended, told, has_enough, stay, texts_of_ended, ArePartlyServed}
use Rattle.switch_sim.specs.declared.serving.Asked.{Asked}
use Rattle.switch_sim.proofs.SeenAfter.{seen_goes_on, ends_later, ends_before, none_told, all_told, more_due, after_due}

-- one listener before others that stay: whether it is served and is ended, and what it is told
abbrev pub before_others : (served ended : Bool) → Listener → Listener → List Listener → List Listener
before_others served ended one now more = if served && ended then more else (if served then now else one) ∷ more

-- ---- two lists, one behind the other

module _ (asked : Asked) (dues : Manner → List Sample) where
  pub stay_append : (some more : List Listener) → stay asked dues (some ++ more) ≡ stay asked dues some ++ stay asked dues more
  stay_append [] more = refl
  stay_append (one ∷ some) more =
      ap (before_others (is_served asked one.manner.kind) (is_ended one.manner.ends one.seen (dues one.manner)) one (told dues one)) (stay_append some more)
      ∙ by (has_enough asked dues one) (if is_served asked one.manner.kind then told dues one else one) (stay asked dues some)
    where
      by : (b : Bool) (x : Listener) (xs : List Listener) → (if b then xs ++ stay asked dues more else x ∷ (xs ++ stay asked dues more))
          ≡ (if b then xs else x ∷ xs) ++ stay asked dues more
      by true x xs = refl
      by false x xs = refl

  pub texts_append : (some more : List Listener) → texts_of_ended asked dues (some ++ more) ≡ texts_of_ended asked dues some ++ texts_of_ended asked dues more
  texts_append [] more = refl
  texts_append (one ∷ some) more =
      ap (λ l. (if has_enough asked dues one then one.manner.said (told dues one).seen else []) ++ l) (texts_append some more)
      ∙ sym (append_assoc (if has_enough asked dues one then one.manner.said (told dues one).seen else []) (texts_of_ended asked dues some) (texts_of_ended asked dues more))

  -- ---- partly served

  pub partly_append : (some more now later : List Listener) → ArePartlyServed asked dues some now → ArePartlyServed asked dues more later
      → ArePartlyServed asked dues (some ++ more) (now ++ later)
  partly_append [] more now later h k = subst (λ l. ArePartlyServed asked dues more (l ++ later)) (sym h) k
  partly_append (one ∷ some) more now later (inl h) k = inl (h.0, partly_append some more now later h.1 k)
  partly_append (one ∷ some) more now later (inr h) k =
      inr (h.0, h.1 ++ later, ap (λ l. l ++ later) h.2, h.3, partly_append some more h.1 later h.4 k)

  -- nothing is told yet
  pub untouched : (some : List Listener) → ArePartlyServed asked dues some some
  untouched [] = refl
  untouched (one ∷ some) =
      inr (one, some, refl, record { manner = refl; unserved = λ e. refl; served = λ e. none_told one.manner.ends one.seen (dues one.manner) }, untouched some)

  -- all is told
  pub stay_partly : (some : List Listener) → ArePartlyServed asked dues some (stay asked dues some)
  stay_partly [] = refl
  stay_partly (one ∷ some) =
      by (is_served asked one.manner.kind) (is_ended one.manner.ends one.seen (dues one.manner)) refl refl (stay_partly some)
    where
      by : (s e : Bool) → is_served asked one.manner.kind ≡ s → is_ended one.manner.ends one.seen (dues one.manner) ≡ e
          → ArePartlyServed asked dues some (stay asked dues some)
          → ArePartlyServed asked dues (one ∷ some) (before_others s e one (told dues one) (stay asked dues some))
      by true true p q h = inl (ap₂ (λ a b. a && b) p q, h)
      by true false p q h =
          inr (
            told dues one,
            stay asked dues some,
            refl,
            record { manner = refl; unserved = λ e. absurd (cc); served = λ e. all_told one.manner.ends one.seen (dues one.manner) },
            h,
          )
      by false e p q h =
          inr (one, stay asked dues some, refl, record { manner = refl; unserved = λ f. refl; served = λ f. absurd (cc) }, h)

-- ---- more samples are due

module _ (asked : Asked) (first second : Manner → List Sample) where
  abbrev pub both : Manner → List Sample
  both manner = first manner ++ second manner

  pub stay_twice : (some : List Listener) → stay asked second (stay asked first some) ≡ stay asked both some
  stay_twice [] = refl
  stay_twice (one ∷ some) =
      by (is_served asked one.manner.kind) (is_ended one.manner.ends one.seen (first one.manner)) refl refl (stay_twice some)
    where
      by : (s e : Bool) → is_served asked one.manner.kind ≡ s → is_ended one.manner.ends one.seen (first one.manner) ≡ e
          → stay asked second (stay asked first some) ≡ stay asked both some
          → stay asked second (before_others s e one (told first one) (stay asked first some)) ≡ stay asked both (one ∷ some)
      by true true p q h =
          h ∙ sym (ap₂ (λ a b. before_others a b one (told both one) (stay asked both some)) p (ends_before one.manner.ends one.seen (first one.manner) (second one.manner) q))
      by true false p q h =
          ap (λ a. before_others a (is_ended one.manner.ends (told first one).seen (second one.manner)) (told first one) (told second (told first one)) (stay asked second (stay asked first some))) p
          ∙ ap (λ b. before_others true b one (told second (told first one)) (stay asked second (stay asked first some)))
          (sym (ends_later one.manner.ends one.seen (first one.manner) (second one.manner) q))
          ∙ ap (λ l. before_others true (is_ended one.manner.ends one.seen (both one.manner)) one (record { manner = one.manner; seen = l }) (stay asked second (stay asked first some)))
          (sym (seen_goes_on one.manner.ends one.seen (first one.manner) (second one.manner) q))
          ∙ ap (λ l. before_others true (is_ended one.manner.ends one.seen (both one.manner)) one (told both one) l) h
          ∙ sym (ap (λ a. before_others a (is_ended one.manner.ends one.seen (both one.manner)) one (told both one) (stay asked both some)) p)
      by false e p q h =
          ap (λ a. before_others a (is_ended one.manner.ends one.seen (second one.manner)) one (told second one) (stay asked second (stay asked first some))) p
          ∙ ap (λ l. one ∷ l) h
          ∙ sym (ap (λ a. before_others a (is_ended one.manner.ends one.seen (both one.manner)) one (told both one) (stay asked both some)) p)

  -- whoever has enough of the first has enough of both
  enough_of_both : (one : Listener) → has_enough asked first one ≡ true → has_enough asked both one ≡ true
  enough_of_both one h = by (is_served asked one.manner.kind) (is_ended one.manner.ends one.seen (first one.manner)) refl refl h
    where
      by : (s e : Bool) → is_served asked one.manner.kind ≡ s → is_ended one.manner.ends one.seen (first one.manner) ≡ e → (s && e) ≡ true
          → has_enough asked both one ≡ true
      by true true p q k = ap₂ (λ a b. a && b) p (ends_before one.manner.ends one.seen (first one.manner) (second one.manner) q)
      by true false p q k = absurd (cc)
      by false e p q k = absurd (cc)

  pub partly_more : (some now : List Listener) → ArePartlyServed asked first some now → ArePartlyServed asked both some now
  partly_more [] now h = h
  partly_more (one ∷ some) now (inl h) = inl (enough_of_both one h.0, partly_more some now h.1)
  partly_more (one ∷ some) now (inr h) =
      inr (
        h.0,
        h.1,
        h.2,
        record {
          manner = h.3.manner;
          unserved = h.3.unserved;
          served = λ e. more_due one.manner.ends one.seen (first one.manner) (second one.manner) h.0.seen (h.3.served e);
        },
        partly_more some h.1 h.4,
      )

  -- whoever has enough of the second behind the first has enough of both
  later_enough : (one : Listener) → is_ended one.manner.ends one.seen (first one.manner) ≡ false → has_enough asked second (told first one) ≡ true
      → has_enough asked both one ≡ true
  later_enough one e h =
      ap (λ b. is_served asked one.manner.kind && b) (ends_later one.manner.ends one.seen (first one.manner) (second one.manner) e) ∙ h

  -- whoever is not served never has enough
  not_enough : (one : Listener) → is_served asked one.manner.kind ≡ false → has_enough asked second one ≡ true → ⊥
  not_enough one s h =
      let wrong : false ≡ true = sym (ap (λ b. b && is_ended one.manner.ends one.seen (second one.manner)) s) ∙ h in
      cc

  -- the first were told to their end
  pub partly_after : (some now : List Listener) → ArePartlyServed asked second (stay asked first some) now → ArePartlyServed asked both some now
  partly_after [] now h = h
  partly_after (one ∷ some) now h =
      by (is_served asked one.manner.kind) (is_ended one.manner.ends one.seen (first one.manner)) refl refl (partly_after some) h
    where
      by : (s e : Bool) → is_served asked one.manner.kind ≡ s → is_ended one.manner.ends one.seen (first one.manner) ≡ e
          → ((later : List Listener) → ArePartlyServed asked second (stay asked first some) later → ArePartlyServed asked both some later)
          → ArePartlyServed asked second (before_others s e one (told first one) (stay asked first some)) now → ArePartlyServed asked both (one ∷ some) now
      by true true p q rest k =
          inl (ap₂ (λ a b. a && b) p (ends_before one.manner.ends one.seen (first one.manner) (second one.manner) q), rest now k)
      by true false p q rest (inl k) = inl (later_enough one q k.0, rest now k.1)
      by true false p q rest (inr k) =
          inr (
            k.0,
            k.1,
            k.2,
            record {
              manner = k.3.manner;
              unserved = λ e. absurd (cc);
              served = λ e. after_due one.manner.ends one.seen (first one.manner) (second one.manner) k.0.seen q (k.3.served e);
            },
            rest k.1 k.4,
          )
      by false e p q rest (inl k) = absurd (not_enough one p k.0)
      by false e p q rest (inr k) =
          inr (k.0, k.1, k.2, record { manner = k.3.manner; unserved = k.3.unserved; served = λ f. absurd (cc) }, rest k.1 k.4)
