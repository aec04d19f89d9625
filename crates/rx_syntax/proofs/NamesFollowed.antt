-- What was read of names up to a place of a text.
use Rattle.std.proofs.Common.{◌≡◌, ℕ, ◌+◌, ◌≤◌, ◌<◌, Some, None, Ok, Err, List, [], ◌∷◌, ◌++◌, length, take, drop, ◌-◌, refl, ap, sym, ◌∙◌, subst, arith}
use Rattle.std.specs.Prelude.{Option, Result}
use Rattle.std.proofs.lemmas.List.{append_assoc, append-nil}
use Rattle.rx_syntax.specs.Lexemes.{Lexeme, first_size, first_kind, LexemesFrom, ended, gap, token, TokensOf, IsOfVersion}
use Rattle.rx_syntax.specs.Grammar.{Specifies}
use Rattle.rx_syntax.specs.Refusals.{IsShaped}
use Rattle.rx_syntax.specs.Uses.{Use}
use Rattle.rx_syntax.specs.UsesRead.{no_counts, listed, use_over}
use Rattle.rx_syntax.specs.Accepted.{NameFault}
use Rattle.rx_syntax.specs.NameTables.{no_tables}
use Rattle.rx_syntax.specs.NameReading.{piece_use, Declares}
use Rattle.rx_syntax.specs.NameSteps.{nothing_read, declared_in, code_over, read_over, Refuses, IsNamesFault}
use Rattle.rx_syntax.specs.declared.kind.Kind.{Kind}
use Rattle.rx_syntax.specs.declared.machine.Due.TheVariants.{FirstLine}
use Rattle.rx_syntax.specs.declared.machine.State.{State}
use Rattle.rx_syntax.specs.declared.naming.NamesFault.{NamesFault}
use Rattle.rx_syntax.specs.declared.naming.NamesFault.TheVariants.{Fault, NoMemory}
use Rattle.rx_syntax.specs.declared.naming.Reading.{Reading}
use Rattle.rx_syntax.specs.declared.spec_code.SpecCode.{SpecCode}
use Rattle.rx_syntax.specs.declared.use_kind.UseKind.{UseKind}
use Rattle.rx_syntax.specs.declared.version.Version.{Version}
use Rattle.rx_syntax.specs.Machine.{at, token_step, piece_step, next_state, run}
use Rattle.rx_syntax.proofs.Moves.{run_append}
use Rattle.rx_syntax.proofs.Standing.{Answer, token_answer}
use Rattle.rx_syntax.proofs.OneAnswer.{one_list, not_both, says}
use Rattle.rx_syntax.proofs.Used.{all_used}
use Rattle.rx_syntax.proofs.Following.{lexeme_at, tokens_exist, Followed, begins, over_piece, fault_piece}
use Rattle.rx_syntax.proofs.NamesRead.{no_token, uses_seen, counts_seen, NamesRead, no_names, longer, counted, over, fault_at, none_left}
use Rattle.rx_syntax.proofs.UsedWords.{numbers, AreCounts, code_used, declared_used, counts_used, tally_used, tables_used, token_of_use}
use Rattle.rx_syntax.proofs.TablesSaid.{tables_along, along_append, along_syntax}

-- The tokens up to a place, and what was read of their names.
pub record Named (version : Version) (text : List ℕ) (limit place : ℕ) (state : State) (read : Reading) : Type 0 where
  pub followed : Followed version text place state
  pub seen : List Lexeme
  pub on : (ts : List Lexeme) → LexemesFrom version text place ts → TokensOf text (seen ++ ts)
  pub ran : run seen (at FirstLine 0) ≡ Some state
  pub names : NamesRead text limit seen (declared_in read)
  pub tables : read.declarations ≡ tables_along text no_tables (uses_seen text seen)
  pub tally : read.tally ≡ numbers text (counts_seen text seen)
  pub counts : AreCounts read.tally

pub names_begin : (version : Version) (text : List ℕ) (limit start : ℕ) → IsOfVersion text version start → start ≤ length text
    → Named version text limit start (record { due = FirstLine; depth = 0 }) nothing_read
names_begin version text limit start is within = record {
  followed = begins version text start is within;
  seen = [];
  on = λ ts h. record { version = version; start = start; is_of = is; are = h };
  ran = refl;
  names = no_names text limit;
  tables = refl;
  tally = refl;
  counts = record { some_copies = omega arith; part = omega arith; opened = tt };
}

module _ (version : Version) (text : List ℕ) (limit place : ℕ) (state : State) (read : Reading) (inside : place < length text)
    (h : Named version text limit place state read) where
  abbrev behind : ℕ
  behind = place + first_size version (drop place text)

  -- the word of the piece here
  abbrev word : List ℕ
  word = take (behind - place) (drop place text)

  over_gap : (s : State) (after : Reading) → first_kind version (drop place text) ≡ None → state ≡ s → after ≡ read
      → Followed version text behind s → Named version text limit behind s after
  over_gap s after none same is followed = record {
    followed = followed;
    seen = h.seen;
    on = λ ts more. h.on ts (gap inside none more);
    ran = h.ran ∙ ap Some same;
    names = subst (λ r. NamesRead text limit h.seen (declared_in r)) (sym is) h.names;
    tables = ap (λ (r : Reading). r.declarations) is ∙ h.tables;
    tally = ap (λ (r : Reading). r.tally) is ∙ h.tally;
    counts = subst (λ (r : Reading). AreCounts r.tally) (sym is) h.counts;
  }

  module _ (kind : Kind) (is_token : first_kind version (drop place text) ≡ Some kind) where
    abbrev here : Lexeme
    here = lexeme_at version text place kind

    abbrev used : Option UseKind
    used = piece_use state.due (Some kind)

    abbrev use_here : Option Use
    use_here = use_over text (counts_seen text h.seen) used here

    over_token : (s : State) (after : Reading) → token_step state.due kind state.depth ≡ Ok s → code_over limit read used word ≡ None
        → after ≡ read_over read used word → Followed version text behind s → Named version text limit behind s after
    over_token s after goes none is followed =
        let c = counts_seen text h.seen in
        let low = h.followed.low in
        let a : Answer h.seen here state.due state.depth h.ran low (Ok s) =
        subst (λ r. Answer h.seen here state.due state.depth h.ran low r) goes (token_answer h.seen here state.due state.depth h.ran low) in
        let good = sym (code_used text limit read c h.tally h.counts here used) ∙ none in
        let declared : declared_in after ≡ _ = ap declared_in is ∙ declared_used text limit read c h.tally h.counts here used in
        record {
          followed = followed;
          seen = h.seen ++ (here ∷ []);
          on = λ ts more. subst (λ us. TokensOf text us) (sym (append_assoc h.seen (here ∷ []) ts)) (h.on (here ∷ ts) (token kind inside is_token refl more));
          ran = run_append h.seen (here ∷ []) (at FirstLine 0) ∙ ap (λ m. next_state m kind) h.ran ∙ a.1;
          names = subst (λ names. NamesRead text limit (h.seen ++ (here ∷ [])) names) (sym declared)
              (over text limit h.seen (Some state) here h.ran (declared_in read) h.names use_here refl good);
          tables = ap (λ (r : Reading). r.declarations) is ∙ tables_used text limit read c h.tally h.counts here used
              ∙ ap (λ tables. tables_along text tables (listed use_here)) h.tables
              ∙ sym (along_append text no_tables (uses_seen text h.seen) (listed use_here))
              ∙ ap (tables_along text no_tables) (sym (longer text limit h.seen (Some state) here h.ran));
          tally = ap (λ (r : Reading). r.tally) is ∙ tally_used text limit read c h.tally h.counts here used
              ∙ ap (numbers text) (sym (counted text limit h.seen (Some state) here h.ran));
          counts = subst (λ (r : Reading). AreCounts r.tally) (sym is) (counts_used text limit read c h.tally h.counts here used none);
        }

    refused_token : (code : SpecCode) → IsShaped text → code_over limit read used word ≡ Some code → NameFault text limit code place
    refused_token code x fails =
        let c = counts_seen text h.seen in
        let more = tokens_exist version text behind in
        fault_at text limit h.seen (Some state) here h.ran (declared_in read) h.names use_here code x.syntax more.0 refl
        (λ u e. token_of_use text c used here u e) (sym (code_used text limit read c h.tally h.counts here used) ∙ fails) (says text x)
        (h.on (here ∷ more.0) (token kind inside is_token refl more.1))

  over_by : (kind : Option Kind) (s : State) (after : Reading) → first_kind version (drop place text) ≡ kind → piece_step kind state ≡ Ok s
      → code_over limit read (piece_use state.due kind) word ≡ None → after ≡ read_over read (piece_use state.due kind) word
      → Followed version text behind s → Named version text limit behind s after
  over_by None s after e goes none is followed =
      let some : ◌≡◌ {A = Result State SpecCode} (Ok state) (Ok s) = goes in
      let same : state ≡ s = cc in
      over_gap s after e same is followed
  over_by (Some kind) s after e goes none is followed = over_token kind e s after goes none is followed

  refused_by : (kind : Option Kind) (code : SpecCode) → IsShaped text → first_kind version (drop place text) ≡ kind
      → code_over limit read (piece_use state.due kind) word ≡ Some code → NameFault text limit code place
  refused_by None code x e fails = let clash : ◌≡◌ {A = Option SpecCode} None (Some code) = fails in absurd cc
  refused_by (Some kind) code x e fails = refused_token kind e code x fails

  -- over a piece of the text
  pub over_named : (size : ℕ) (kind : Option Kind) (s : State) (used : Option UseKind) (after : Reading) → kind ≡ first_kind version (drop place text)
      → size ≡ behind → piece_step kind state ≡ Ok s → used ≡ piece_use state.due kind
      → code_over limit read used (take (size - place) (drop place text)) ≡ None → after ≡ read_over read used (take (size - place) (drop place text))
      → Named version text limit size s after
  over_named size kind s used after e is goes uses none reads =
      let followed = over_piece version text place state s kind behind inside e refl goes h.followed in
      let w : take (size - place) (drop place text) ≡ word = ap (λ b. take (b - place) (drop place text)) is in
      let none_here = ap (λ u. code_over limit read u word) (sym uses) ∙ ap (code_over limit read used) (sym w) ∙ none in
      let reads_here = reads ∙ ap (read_over read used) w ∙ ap (λ u. read_over read u word) uses in
      subst (λ b. Named version text limit b s after) (sym is) (over_by kind s after (sym e) goes none_here reads_here followed)

  -- at a piece that is refused
  pub refused : (size : ℕ) (kind : Option Kind) (used : Option UseKind) (fault : NamesFault) → IsShaped text → kind ≡ first_kind version (drop place text)
      → size ≡ behind → used ≡ piece_use state.due kind → Refuses (code_over limit read used (take (size - place) (drop place text))) place fault
      → IsNamesFault text limit fault
  refused size kind how NoMemory x e is uses fails = tt
  refused size kind how (Fault code byte) x e is uses (fails, here) =
      let w : take (size - place) (drop place text) ≡ word = ap (λ b. take (b - place) (drop place text)) is in
      let fails_here = ap (λ u. code_over limit read u word) (sym uses) ∙ ap (code_over limit read how) (sym w) ∙ fails in
      subst (λ b. NameFault text limit code b) (sym here) (refused_by kind code x (sym e) fails_here)

  -- a text of the right shape goes on at each piece
  pub never_stops : (kind : Option Kind) (code : SpecCode) → IsShaped text → kind ≡ first_kind version (drop place text)
      → piece_step kind state ≡ Err code → ⊥
  never_stops kind code x e fails = not_both text code place x (fault_piece version text place state code kind inside e fails h.followed)

-- at the end of the text
pub all_named : (version : Version) (text : List ℕ) (limit place : ℕ) (state : State) (read : Reading) → length text ≤ place → IsShaped text
    → Named version text limit place state read → Declares text limit read.declarations
all_named version text limit place state read past x h =
    let tokens : TokensOf text h.seen = subst (TokensOf text) (append-nil h.seen) (h.on [] (ended past refl)) in
    let is : Specifies h.seen x.syntax = subst (λ ts. Specifies ts x.syntax) (one_list text x.are_tokens tokens) x.specifies in
    record {
      syntax = x.syntax;
      says = says text x;
      no_fault = none_left text limit h.seen (declared_in read) x.syntax h.names is;
      is = h.tables ∙ ap (tables_along text no_tables) (all_used text h.seen x.syntax is (no_counts no_token)) ∙ along_syntax text x.syntax;
    }
