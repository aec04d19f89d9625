-- One probe of a list is served, where the list is seen through a function.
use Rattle.std.proofs.Common.{◌≡◌, ℕ, ◌+◌, Bool, true, false, List, [], ◌∷◌, ◌++◌, Option, length, get_or, set, map, refl, sym, ap, ap₂, ◌∙◌, subst}
use Rattle.std.specs.List.{remove}
use Rattle.std.specs.Io.KnownBytes.{Appends}
use Rattle.std.proofs.KnownBytes.{Appends-nil}
use Rattle.rx_io.specs.Streams.{AppendsFront}
use Rattle.sim_probe.specs.Manner.{Manner}
use Rattle.sim_probe.specs.declared.sample.Sample.{Sample}
use Rattle.switch_sim.specs.Serving.{Listener, is_served, seen_after, is_ended, told, IsPartlyTold}
use Rattle.switch_sim.specs.ServingSteps.{ServesOne, ServesPartOfOne}
use Rattle.switch_sim.specs.declared.serving.Asked.{Asked}
use Rattle.switch_sim.proofs.Middles.{at_middle, set_middle, remove_middle}
use Rattle.switch_sim.proofs.Progress.{unserved_stays, told_stays, ended_leaves, part_stays, ended_halts}

abbrev listener : Manner → List Sample → Listener
listener manner seen = record { manner = manner; seen = seen }

module _ {X : Type 0} (f : X → Listener) (asked : Asked) (dues : Manner → List Sample) (xs : List X) (at : ℕ) (front rest : List Listener) (one : Listener)
    (cut : map f xs ≡ front ++ one ∷ rest) (place : length front ≡ at) where
  here : (x : X) → x ≡ get_or xs at x → f x ≡ one
  here x is = at_middle f xs front rest one x cut (subst (λ n. x ≡ get_or xs n x) (sym place) is)

  -- the test of its kind is that of the listener
  served_here : (x : X) (kind : ℕ) (served b : Bool) → x ≡ get_or xs at x → kind ≡ (f x).manner.kind → served ≡ is_served asked kind → served ≡ b
      → is_served asked one.manner.kind ≡ b
  served_here x kind served b is k s e = sym (s ∙ ap (is_served asked) (k ∙ ap (λ (l : Listener). l.manner.kind) (here x is))) ∙ e

  pub unserved : (x : X) (kind : ℕ) (served : Bool) (held : Option (List ℕ)) → x ≡ get_or xs at x → kind ≡ (f x).manner.kind → served ≡ is_served asked kind
      → served ≡ false → ServesOne asked dues one (at + 1) front rest (map f xs) held held
  unserved x kind served held is k s e =
      unserved_stays asked dues one front rest (map f xs) held held (at + 1) (ap (λ n. n + 1) (sym place)) (served_here x kind served false is k s e) cut (Appends-nil held)

  -- it is changed by being told more
  module _ (first x after : X) (kind : ℕ) (served : Bool) (first_is : first ≡ get_or xs at first) (kind_is : kind ≡ (f first).manner.kind)
      (served_is : served ≡ is_served asked kind) (yes : served ≡ true) (is : x ≡ get_or xs at x) (manner : (f after).manner ≡ (f x).manner) where
    is_asked : is_served asked one.manner.kind ≡ true
    is_asked = served_here first kind served true first_is kind_is served_is yes

    replaced : map f (set xs at after) ≡ front ++ f after ∷ rest
    replaced = subst (λ n. map f (set xs n after) ≡ front ++ f after ∷ rest) place (set_middle f xs front rest one after cut)

    pub partly : (held : Option (List ℕ)) → IsPartlyTold (f x).manner.ends (f x).seen (dues (f x).manner) (f after).seen
        → ServesPartOfOne asked dues one front rest (map f (set xs at after)) held held
    partly held some =
        part_stays asked dues one front rest (map f (set xs at after)) held held is_asked (f after)
        (manner ∙ ap (λ (l : Listener). l.manner) (here x is))
        (subst (λ (l : Listener). IsPartlyTold l.manner.ends l.seen (dues l.manner) (f after).seen) (here x is) some)
        replaced
        (record { front = []; rest = []; whole = refl; appends = Appends-nil held })

    module _ (enough : Bool) (seen : (f after).seen ≡ seen_after (f x).manner.ends (f x).seen (dues (f x).manner))
        (ended : enough ≡ is_ended (f x).manner.ends (f x).seen (dues (f x).manner)) where
      after_is : f after ≡ told dues one
      after_is = ap₂ listener manner seen ∙ ap (told dues) (here x is)

      ends_if : (b : Bool) → enough ≡ b → is_ended one.manner.ends one.seen (dues one.manner) ≡ b
      ends_if b e = sym (ended ∙ ap (λ (l : Listener). is_ended l.manner.ends l.seen (dues l.manner)) (here x is)) ∙ e

      pub stays : (held : Option (List ℕ)) → enough ≡ false → ServesOne asked dues one (at + 1) front rest (map f (set xs at after)) held held
      stays held e =
          told_stays asked dues one front rest (map f (set xs at after)) held held is_asked (at + 1) (f after) (ap (λ n. n + 1) (sym place)) (ends_if false e)
          after_is replaced (Appends-nil held)

      -- it is taken out
      module _ (yes_enough : enough ≡ true) (out : X) (left : List X) (out_is : out ≡ get_or (set xs at after) at out) (left_is : left ≡ remove (set xs at after) at)
          (old new : Option (List ℕ)) where
        removed : map f left ≡ front ++ rest
        removed =
            ap (map f) left_is
            ∙ subst (λ n. map f (remove (set xs at after) n) ≡ front ++ rest) place (remove_middle f (set xs at after) front rest (f after) replaced)

        text_is : (f out).manner.said (f out).seen ≡ one.manner.said (told dues one).seen
        text_is =
            ap (λ (l : Listener). l.manner.said l.seen)
            (at_middle f (set xs at after) front rest (f after) out replaced (subst (λ n. out ≡ get_or (set xs at after) n out) (sym place) out_is) ∙ after_is)

        pub leaves : Appends old new ((f out).manner.said (f out).seen) → ServesOne asked dues one at front rest (map f left) old new
        leaves gained =
            ended_leaves asked dues one front rest (map f left) old new is_asked at ((f out).manner.said (f out).seen) (sym place) (ends_if true yes_enough) text_is
            removed gained

        pub halts : AppendsFront old new ((f out).manner.said (f out).seen) → ServesPartOfOne asked dues one front rest (map f left) old new
        halts gained =
            ended_halts asked dues one front rest (map f left) old new is_asked ((f out).manner.said (f out).seen) (ends_if true yes_enough) text_is removed gained
