-- The state behind the tokens that were read, up to a place of the text.
use Rattle.std.proofs.Common.{◌≡◌, ℕ, zero, suc, ◌+◌, ◌≤◌, ◌<◌, Some, None, Ok, Err, List, [], ◌∷◌, ◌++◌, length, drop, refl, ap, sym, ◌∙◌, subst, inl, inr, arith}
use Rattle.std.specs.Prelude.{Option, Result}
use Rattle.std.proofs.lemmas.Bool.{cases_lt}
use Rattle.std.proofs.lemmas.List.{append_assoc, append-nil}
use Rattle.rx_syntax.specs.Lexemes.{Lexeme, first_size, first_kind, LexemesFrom, ended, gap, token, IsOfVersion, TokensOf}
use Rattle.rx_syntax.specs.declared.version.Version.{Version}
use Rattle.rx_syntax.specs.Refusals.{Clean, none, next, StandsFirst, IsShaped}
use Rattle.rx_syntax.specs.declared.kind.Kind.{Kind}
use Rattle.rx_syntax.specs.declared.spec_code.SpecCode.{SpecCode}
use Rattle.rx_syntax.specs.declared.machine.Due.TheVariants.{FirstLine}
use Rattle.rx_syntax.specs.declared.machine.State.{State}
use Rattle.rx_syntax.specs.Machine.{at, token_step, piece_step, end_code, next_state, run}
use Rattle.rx_syntax.proofs.Sizes.{piece_within, piece_further}
use Rattle.rx_syntax.proofs.Moves.{run_append}
use Rattle.rx_syntax.proofs.Standing.{Answer, token_answer, good_end, end_answer}

-- the token at a place
abbrev pub lexeme_at : Version → List ℕ → ℕ → Kind → Lexeme
lexeme_at version text place kind = record { kind = kind; start = place; behind = place + first_size version (drop place text) }

-- One piece, and then some tokens.
piece_from : (version : Version) (text : List ℕ) (place : ℕ) → place < length text → (ts : List Lexeme) → LexemesFrom version text (place + first_size version (drop place text)) ts
    → (k : Option Kind) → first_kind version (drop place text) ≡ k → (us : List Lexeme) × LexemesFrom version text place us
piece_from version text place h ts more None e = (ts, gap h e more)
piece_from version text place h ts more (Some kind) e = (lexeme_at version text place kind ∷ ts, token kind h e refl more)

-- From each place on a text has some list of tokens.
some_from : (version : Version) (text : List ℕ) (fuel place : ℕ) → length text ≤ place + fuel → (ts : List Lexeme) × LexemesFrom version text place ts
some_from version text zero place h = ([], ended (omega (arith, h)) refl)
some_from version text (suc fuel) place h = elim (cases_lt place (length text)) [
  | inl e ↦ (
      let further = piece_further version text place e in
      let m = some_from version text fuel (place + first_size version (drop place text)) (omega (arith, h, further)) in
      piece_from version text place e m.0 m.1 (first_kind version (drop place text)) refl)
  | inr e ↦ ([], ended e refl)
]

pub tokens_exist : (version : Version) (text : List ℕ) (place : ℕ) → (ts : List Lexeme) × LexemesFrom version text place ts
tokens_exist version text place = some_from version text (length text) place (omega arith)

-- What was read up to a place.
pub record Followed (version : Version) (text : List ℕ) (place : ℕ) (state : State) : Type 0 where
  pub seen : List Lexeme
  pub on : (ts : List Lexeme) → LexemesFrom version text place ts → TokensOf text (seen ++ ts)
  pub ran : run seen (at FirstLine 0) ≡ Some state
  pub clean : Clean seen
  pub low : state.depth ≤ 200
  pub within : place ≤ length text

pub begins : (version : Version) (text : List ℕ) (start : ℕ) → IsOfVersion text version start → start ≤ length text
    → Followed version text start (record { due = FirstLine; depth = 0 })
begins version text start is within = record {
  seen = [];
  on = λ ts h. record { version = version; start = start; is_of = is; are = h };
  ran = refl;
  clean = none;
  low = omega arith;
  within = within;
}

module _ (version : Version) (text : List ℕ) (place : ℕ) (state : State) (inside : place < length text) (h : Followed version text place state) where
  over_gap : first_kind version (drop place text) ≡ None → Followed version text (place + first_size version (drop place text)) state
  over_gap e = record {
    seen = h.seen;
    on = λ ts more. h.on ts (gap inside e more);
    ran = h.ran;
    clean = h.clean;
    low = h.low;
    within = piece_within version text place inside;
  }

  -- what the machine answers at the token of this kind
  answered : (k : Kind) → Answer h.seen (lexeme_at version text place k) state.due state.depth h.ran h.low (token_step state.due k state.depth)
  answered k = token_answer h.seen (lexeme_at version text place k) state.due state.depth h.ran h.low

  over_token : (k : Kind) (s : State) → first_kind version (drop place text) ≡ Some k → token_step state.due k state.depth ≡ Ok s
      → Followed version text (place + first_size version (drop place text)) s
  over_token k s e goes =
      let t = lexeme_at version text place k in
      let a : Answer h.seen t state.due state.depth h.ran h.low (Ok s) =
      subst (λ r. Answer h.seen t state.due state.depth h.ran h.low r) goes (answered k) in
      record {
        seen = h.seen ++ (t ∷ []);
        on = λ ts more. subst (λ us. TokensOf text us) (sym (append_assoc h.seen (t ∷ []) ts)) (h.on (t ∷ ts) (token k inside e refl more));
        ran = run_append h.seen (t ∷ []) (at FirstLine 0) ∙ ap (λ m. next_state m k) h.ran ∙ a.1;
        clean = next t refl h.clean a.0;
        low = a.2;
        within = piece_within version text place inside;
      }

  fault_token : (k : Kind) (c : SpecCode) → first_kind version (drop place text) ≡ Some k → token_step state.due k state.depth ≡ Err c
      → StandsFirst text c place
  fault_token k c e fails =
      let t = lexeme_at version text place k in
      let a : Answer h.seen t state.due state.depth h.ran h.low (Err c) =
      subst (λ r. Answer h.seen t state.due state.depth h.ran h.low r) fails (answered k) in
      let more = tokens_exist version text (place + first_size version (drop place text)) in
      record {
        before = h.seen;
        rest = t ∷ more.0;
        tokens = h.on (t ∷ more.0) (token k inside e refl more.1);
        clean = h.clean;
        stands = a.0;
        least = a.1;
        at_place = refl;
      }

  over_by : (kind : Option Kind) (s : State) → first_kind version (drop place text) ≡ kind → piece_step kind state ≡ Ok s
      → Followed version text (place + first_size version (drop place text)) s
  over_by None s e goes =
      let same : ◌≡◌ {A = Result State SpecCode} (Ok state) (Ok s) = goes in
      let equal : state ≡ s = cc in
      subst (λ now. Followed version text (place + first_size version (drop place text)) now) equal (over_gap e)
  over_by (Some k) s e goes = over_token k s e goes

  fault_by : (kind : Option Kind) (c : SpecCode) → first_kind version (drop place text) ≡ kind → piece_step kind state ≡ Err c → StandsFirst text c place
  fault_by None c e fails = absurd cc
  fault_by (Some k) c e fails = fault_token k c e fails

-- over a piece of the text
pub over_piece : (version : Version) (text : List ℕ) (place : ℕ) (state s : State) (kind : Option Kind) (behind : ℕ) → place < length text
    → kind ≡ first_kind version (drop place text) → behind ≡ place + first_size version (drop place text) → piece_step kind state ≡ Ok s → Followed version text place state
    → Followed version text behind s
over_piece version text place state s kind behind inside e size goes h =
    subst (λ b. Followed version text b s) (sym size) (over_by version text place state inside h kind s (sym e) goes)

pub fault_piece : (version : Version) (text : List ℕ) (place : ℕ) (state : State) (c : SpecCode) (kind : Option Kind) → place < length text
    → kind ≡ first_kind version (drop place text) → piece_step kind state ≡ Err c → Followed version text place state → StandsFirst text c place
fault_piece version text place state c kind inside e fails h = fault_by version text place state inside h kind c (sym e) fails

-- at the end of the text

all_seen : (version : Version) (text : List ℕ) (place : ℕ) (state : State) → length text ≤ place → (h : Followed version text place state) → TokensOf text (h.seen ++ [])
all_seen version text place state past h = h.on [] (ended past refl)

pub good_text : (version : Version) (text : List ℕ) (place : ℕ) (state : State) → length text ≤ place → end_code state.due ≡ None → Followed version text place state
    → IsShaped text
good_text version text place state past e h =
    let is = good_end h.seen state.due state.depth h.ran e in
    record {
      tokens = h.seen;
      are_tokens = subst (λ ts. TokensOf text ts) (append-nil h.seen) (all_seen version text place state past h);
      clean = h.clean;
      syntax = is.0;
      specifies = is.1;
    }

pub fault_at_end : (version : Version) (text : List ℕ) (place : ℕ) (state : State) (c : SpecCode) → length text ≤ place → end_code state.due ≡ Some c
    → Followed version text place state → StandsFirst text c place
fault_at_end version text place state c past e h =
    let a = end_answer h.seen state.due state.depth h.ran c e in
    let within = h.within in
    record {
      before = h.seen;
      rest = [];
      tokens = all_seen version text place state past h;
      clean = h.clean;
      stands = a.0;
      least = a.1;
      at_place = omega (arith, past, within);
    }
