-- Fronts and rests of a text by places.
use Rattle.std.proofs.Common.{◌≡◌, ℕ, ◌+◌, ◌≤◌, List, [], ◌∷◌, ◌++◌, take, drop, length, refl, sym, ap, ◌∙◌, append_assoc}
use Rattle.std.proofs.lemmas.List.{drop-drop, take-append-drop}
use Rattle.net_text.specs.Shape.{IsNumeral, front_number}
use Rattle.std.specs.Prelude.{codes}
use Rattle.net_text.specs.Stages.{IsNumeralBelow, InRange, Stage, Due, EndsInSpace, IsFirst}
use Rattle.net_text.specs.Steps.{Reads}
use Rattle.net_text.specs.declared.net_fault.NetCode.{NetCode}
use Rattle.net_text.specs.declared.words.TextFault.{TextFault}
use Rattle.net_text.proofs.Advancing.{Stops}
use Rattle.net_text.proofs.Steps.{Reads-here}

-- From one place to the next these bytes stand.
pub record Moved (text : List ℕ) (at next : ℕ) (bytes : List ℕ) : Type 0 where
  pub front : take next text ≡ take at text ++ bytes
  pub rest : drop at text ≡ bytes ++ drop next text
  pub within : next ≤ length text

-- bytes behind a place
pub moved : (text : List ℕ) (at : ℕ) (bytes rest : List ℕ) → at ≤ length text → drop at text ≡ bytes ++ rest
    → Moved text at (at + length bytes) bytes × (drop (at + length bytes) text ≡ rest)
moved text at bytes rest within e =
    let reads = Reads-here text at bytes rest within e in
    let behind : drop (at + length bytes) text ≡ rest = sym (drop-drop (length bytes) at text) ∙ ap (drop (length bytes)) e ∙ drop_front bytes in
    (record { front = reads.front; rest = rw behind e; within = reads.within }, behind)
  where
    drop_front : (bytes : List ℕ) → drop (length bytes) (bytes ++ rest) ≡ rest
    drop_front [] = refl
    drop_front (c ∷ bytes) = drop_front bytes

-- The fault is the first, and the text is no network's.
pub record Stopped (nets : ℕ) (text : List ℕ) (fault : TextFault) : Type 0 where
  pub first : IsFirst text fault
  pub refuted : InRange nets text → ⊥

-- a first fault at a place
pub stopped_at : (nets : ℕ) (text : List ℕ) (at : ℕ) (code : NetCode) → at ≤ length text → Stops nets code (take at text) (drop at text)
    → Stopped nets text (record { code = code; at = at })
stopped_at nets text at code within stops = record {
  first = record { within = within; stands = stops.stands; first = stops.first };
  refuted = λ ranged. stops.refuted (rw (take-append-drop at text) ranged);
}

-- a first fault behind a place
pub stopped : (nets : ℕ) (text : List ℕ) (at : ℕ) (bytes rest : List ℕ) (code : NetCode) → at ≤ length text → drop at text ≡ bytes ++ rest
    → Stops nets code (take at text ++ bytes) rest → Stopped nets text (record { code = code; at = at + length bytes })
stopped nets text at bytes rest code within e stops =
    let (here, behind) = moved text at bytes rest within e in
    stopped_at nets text (at + length bytes) code here.within (rw (here.front, behind) stops)

-- bytes behind bytes that are due
pub due_on : {nets : ℕ} {front rest : List ℕ} {K L : (List ℕ → Type 0) → List ℕ → Type 0} (bytes front_after rest_after : List ℕ) → Due nets front rest K
    → front_after ≡ front ++ bytes → rest ≡ bytes ++ rest_after → Stage nets front_after rest_after (L IsNumeral) (L (IsNumeralBelow nets))
    → Due nets front_after rest_after L
due_on {nets} {front} {rest} bytes front_after rest_after due at_front at_rest stage = record {
  stage = stage;
  more = due.more ++ bytes;
  behind_head = at_front ∙ ap (λ l. l ++ bytes) due.behind_head;
  counted = λ e. due.counted (none due.more e);
  count = ap front_number (append_assoc due.more bytes rest_after ∙ ap (λ l. due.more ++ l) (sym at_rest)) ∙ due.count;
}
  where
    none : (xs : List ℕ) → xs ++ bytes ≡ [] → xs ≡ []
    none [] e = refl
    none (x ∷ xs) e = cc

-- a space was read last
pub ends_in_space : {text : List ℕ} {at next : ℕ} (bytes : List ℕ) → Reads text at next (bytes ++ codes " ") → EndsInSpace (take next text)
ends_in_space {text} {at} bytes reads = (take at text ++ bytes, reads.front ∙ sym (append_assoc (take at text) bytes (codes " ")))
