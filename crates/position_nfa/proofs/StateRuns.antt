-- An automaton of a specification is in the states to which the vectors lead, and so it shows the languages.
use Rattle.std.proofs.Common.{◌≡◌, ◌↔◌, ℕ, List, [], ◌∷◌, ◌++◌, refl, sym, subst, append_assoc}
use Rattle.std.specs.Prelude.{slice_index_or}
use Rattle.std.proofs.lemmas.List.{append-nil}
use Rattle.rx_lang.specs.Vector.{Bits}
use Rattle.rx_lang.specs.Specification.{Specification, MatchesSymbol, Language}
use Rattle.rx_lang.specs.Positions.{State, start, scan_start, after, IsStateOf}
use Rattle.position_nfa.specs.Agreement.{IsAutomatonOf}
use Rattle.position_nfa.specs.Automaton.{Automaton}
use Rattle.position_nfa.specs.Reached.{VectorsLeadTo, GoesOnWith, IsReadByPairs}
use Rattle.position_nfa.specs.Runs.{Begun, Next, Along, ShowsByStates}

no_word : (u : List Bits) (x : Bits) → u ++ x ∷ [] ≡ [] → ⊥
no_word [] x e = cc
no_word (y ∷ u) x e = cc

module _ (spec : Specification) (nfa : Automaton) (agrees : IsAutomatonOf spec nfa) (read : IsReadByPairs spec) where
  -- these are the states to which the word leads
  abbrev AreReached : (State → Type 0) → List Bits → Type 0
  AreReached P w = (s : State) → P s ↔ VectorsLeadTo spec w s

  -- a state that is reached is one of the specification
  known : (w : List Bits) (s : State) → VectorsLeadTo spec w s → IsStateOf spec s
  known w start r = tt
  known w scan_start r = tt
  known w (after q) r = read.below w q r

  begun : AreReached Begun []
  begun start = (λ b. refl, λ r. tt)
  begun scan_start = (λ b. tt, λ r. tt)
  begun (after p) = (λ b. absurd b, λ r. read.none p r)

  module _ (P : State → Type 0) (w : List Bits) (x : Bits) (h : AreReached P w) where
    to_next : (q : ℕ) → Next nfa spec.symbols P x (after q) → GoesOnWith spec w x q
    to_next q n =
        let reached = (h n.0).0 n.1 in
        record {
          state = n.0;
          reached = reached;
          leads = (agrees.leads n.0 q (known w n.0 reached)).0 n.2;
          reads = subst (λ (l : List ℕ). MatchesSymbol spec.symbols (slice_index_or l q 0) x) agrees.symbols n.3;
        }

    from_next : (q : ℕ) → GoesOnWith spec w x q → Next nfa spec.symbols P x (after q)
    from_next q n = (
      n.state,
      (h n.state).1 n.reached,
      (agrees.leads n.state q (known w n.state n.reached)).1 n.leads,
      subst (λ (l : List ℕ). MatchesSymbol spec.symbols (slice_index_or l q 0) x) (sym agrees.symbols) n.reads,
    )

    next : AreReached (Next nfa spec.symbols P x) (w ++ x ∷ [])
    next start = (λ b. absurd b, λ e. no_word w x e)
    next scan_start = (λ b. tt, λ r. tt)
    next (after q) = (λ n. (read.next w x q).1 (to_next q n), λ r. from_next q ((read.next w x q).0 r))

  along : (P : State → Type 0) (w u : List Bits) → AreReached P w → AreReached (Along nfa spec.symbols P u) (w ++ u)
  along P w [] h = subst (AreReached P) (sym (append-nil w)) h
  along P w (x ∷ u) h =
      subst (AreReached (Along nfa spec.symbols (Next nfa spec.symbols P x) u)) (append_assoc w (x ∷ []) u)
      (along (Next nfa spec.symbols P x) (w ++ x ∷ []) u (next P w x h))

  pub shows_language : (y : ℕ) (u : List Bits) → ShowsByStates nfa spec.symbols y u ↔ Language spec y u
  shows_language y u =
      let run : AreReached (Along nfa spec.symbols Begun u) u = along Begun [] u begun in (
        λ s.
            let reached = (run s.0).0 s.1 in
            (read.language y u).1 (record { state = s.0; reached = reached; shows = (agrees.shows s.0 y (known u s.0 reached)).0 s.2 }),
        λ l.
            let s = (read.language y u).0 l in
            (s.state, (run s.state).1 s.reached, (agrees.shows s.state y (known u s.state s.reached)).1 s.shows),
      )
