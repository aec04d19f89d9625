-- The nodes that are read up to a place of a text without faults.
use Rattle.std.proofs.Common.{◌≡◌, ℕ, ◌+◌, ◌-◌, ◌<◌, ◌≤◌, true, Some, None, Ok, Err, List, [], ◌∷◌, ◌++◌, length, take, drop, map, flat_map, refl, ap, sym, ◌∙◌, subst, arith}
use Rattle.std.specs.Prelude.{Option, Result, slice_range}
use Rattle.std.proofs.lemmas.List.{append_assoc, append_cancel_right}
use Rattle.rx_syntax.specs.Lexemes.{Lexeme, first_size, first_kind, gap, token, IsOfVersion, TokensOf, word_of}
use Rattle.rx_syntax.specs.Grammar.{SymbolTokens, Specifies}
use Rattle.rx_syntax.specs.Uses.{Use, leaf_use, mark_use, least_use, most_use, is_among, undeclared, syntax_uses, first_use_fault}
use Rattle.rx_syntax.specs.Accepted.{named_pattern}
use Rattle.rx_syntax.specs.NameTables.{NameTables, names_of}
use Rattle.rx_syntax.specs.NameReading.{Declares}
use Rattle.rx_syntax.specs.NodeBuilder.{NodesRead, no_nodes, AreDigits, IsKnown, IsKnownPiece, piece_on}
use Rattle.rx_syntax.specs.Refusals.{IsShaped}
use Rattle.rx_syntax.specs.declared.kind.Kind.{Kind}
use Rattle.rx_syntax.specs.declared.kind.Kind.TheVariants.{Name, Bits, Number, CloseBrace}
use Rattle.rx_syntax.specs.declared.machine.Due.{Due}
use Rattle.rx_syntax.specs.declared.machine.Due.TheVariants.{FirstLine, Part, Rest, MarkName, ClassName, ClassNames, Least, Most, BoundsEnd}
use Rattle.rx_syntax.specs.declared.machine.State.{State}
use Rattle.rx_syntax.specs.declared.spec_code.SpecCode.{SpecCode}
use Rattle.rx_syntax.specs.declared.version.Version.{Version}
use Rattle.rx_syntax.specs.Machine.{at, step, run, next_state, piece_step}
use Rattle.rx_syntax.proofs.Builder.{Built, nothing_built, along, act, act_on}
use Rattle.rx_syntax.proofs.Following.{Followed, begins, lexeme_at, tokens_exist, over_piece, fault_piece}
use Rattle.rx_syntax.proofs.Moves.{Moves, Moved, moved, run_append}
use Rattle.rx_syntax.proofs.Building.{along_append}
use Rattle.rx_syntax.proofs.OneAnswer.{one_list, not_both}
use Rattle.rx_syntax.proofs.Faultless.{new_symbols, new_outputs, leaf_known, mark_known, bounds_known, declared_symbols, declared_outputs}
use Rattle.rx_syntax.proofs.OpenFrames.{Counted, counted_step}
use Rattle.rx_syntax.proofs.UsesBuilt.{Shows, UsesAt, uses_at}
use Rattle.rx_syntax.proofs.NameTokens.{is_number_kind, token_is_number}
use Rattle.rx_syntax.proofs.NodesLaid.{Laid, Numbers, HasNumbers, laid_first, laid_step, numbers_step}

-- the tokens that were read up to a place

module _ (version : Version) (text : List ℕ) (place : ℕ) (state s : State) (inside : place < length text) (h : Followed version text place state)
    (i : Followed version text (place + first_size version (drop place text)) s) where
  over_gap : first_kind version (drop place text) ≡ None → i.seen ≡ h.seen
  over_gap e =
      let more = tokens_exist version text (place + first_size version (drop place text)) in
      append_cancel_right i.seen h.seen more.0 (one_list text (i.on more.0 more.1) (h.on more.0 (gap inside e more.1)))

  over_token : (k : Kind) → first_kind version (drop place text) ≡ Some k → i.seen ≡ h.seen ++ (lexeme_at version text place k ∷ [])
  over_token k e =
      let t = lexeme_at version text place k in
      let more = tokens_exist version text (place + first_size version (drop place text)) in
      append_cancel_right i.seen (h.seen ++ (t ∷ [])) more.0
      (one_list text (i.on more.0 more.1) (h.on (t ∷ more.0) (token k inside e refl more.1)) ∙ sym (append_assoc h.seen (t ∷ []) more.0))

-- What was read up to a place, the nodes of it, and what the tokens build.
pub record NodesAt (version : Version) (text : List ℕ) (tables : NameTables) (place : ℕ) (state : State) (r : NodesRead) : Type 0 where
  pub followed : Followed version text place state
  pub laid : Laid tables text r (along followed.seen (at FirstLine 0) nothing_built)
  pub numbers : Numbers tables text state.due r (along followed.seen (at FirstLine 0) nothing_built)
  pub counted : Counted state.due state.depth (along followed.seen (at FirstLine 0) nothing_built).frames

-- nothing was read up to the beginning
nothing_seen : (version : Version) (text : List ℕ) (start : ℕ) (state : State) → IsOfVersion text version start
    → (i : Followed version text start state) → [] ≡ i.seen
nothing_seen version text start state is i =
    let more = tokens_exist version text start in
    let all : TokensOf text more.0 = record { version = version; start = start; is_of = is; are = more.1 } in
    append_cancel_right [] i.seen more.0 (one_list text all (i.on more.0 more.1))

pub nodes_begin : (version : Version) (text : List ℕ) (tables : NameTables) (start : ℕ) → IsOfVersion text version start → start ≤ length text
    → NodesAt version text tables start (record { due = FirstLine; depth = 0 }) no_nodes
nodes_begin version text tables start is within =
    let i = begins version text start is within in
    let none = nothing_seen version text start (record { due = FirstLine; depth = 0 }) is i in
    record {
      followed = i;
      laid = subst (λ ts. Laid tables text no_nodes (along ts (at FirstLine 0) nothing_built)) none (laid_first tables text);
      numbers = tt;
      counted = subst (λ ts. Counted FirstLine 0 (along ts (at FirstLine 0) nothing_built).frames) none refl;
    }

pub names_said : (text : List ℕ) (ss : List SymbolTokens)
    → names_of (map (named_pattern text) ss) ≡ map (λ (s : SymbolTokens). word_of text s.name) ss
names_said text [] = refl
names_said text (s ∷ ss) = ap (λ names. word_of text s.name ∷ names) (names_said text ss)

module _ (version : Version) (text : List ℕ) (limit : ℕ) (tables : NameTables) (declares : Declares text limit tables) where
  -- what is declared
  symbols_are : flat_map (new_symbols text limit) (syntax_uses text declares.syntax) ≡ names_of tables.symbols
  symbols_are =
      declared_symbols text limit declares.syntax ∙ sym (names_said text declares.syntax.symbols)
      ∙ ap (λ (t : NameTables). names_of t.symbols) (sym declares.is)

  outputs_are : flat_map (new_outputs text limit) (syntax_uses text declares.syntax) ≡ tables.outputs
  outputs_are = declared_outputs text limit declares.syntax ∙ ap (λ (t : NameTables). t.outputs) (sym declares.is)

  -- The uses of the text are cut at these.
  abbrev CutAt : List Use → List Use → List Use → Type 0
  CutAt us here vs = syntax_uses text declares.syntax ≡ us ++ (here ++ vs)

  no_fault_in : (us here vs : List Use) → CutAt us here vs → first_use_fault text limit undeclared (us ++ (here ++ vs)) ≡ None
  no_fault_in us here vs cut = ap (first_use_fault text limit undeclared) (sym cut) ∙ declares.no_fault

  -- no code stands at the use of a name, so it is declared
  symbol_known : (us here vs : List Use) (t : Lexeme) → CutAt us here vs → here ≡ leaf_use t ∷ []
      → is_among (word_of text t) (names_of tables.symbols) ≡ true
  symbol_known us here vs t cut is =
      let exact : CutAt us (leaf_use t ∷ []) vs = cut ∙ ap (λ us_here. us ++ (us_here ++ vs)) is in
      subst (λ names. is_among (word_of text t) names ≡ true) (ap (flat_map (new_symbols text limit)) (sym exact) ∙ symbols_are)
      (leaf_known text limit us vs t (no_fault_in us (leaf_use t ∷ []) vs exact))

  output_known : (us here vs : List Use) (t : Lexeme) → CutAt us here vs → here ≡ mark_use t ∷ []
      → is_among (word_of text t) tables.outputs ≡ true
  output_known us here vs t cut is =
      let exact : CutAt us (mark_use t ∷ []) vs = cut ∙ ap (λ us_here. us ++ (us_here ++ vs)) is in
      subst (λ names. is_among (word_of text t) names ≡ true) (ap (flat_map (new_outputs text limit)) (sym exact) ∙ outputs_are)
      (mark_known text limit us vs t (no_fault_in us (mark_use t ∷ []) vs exact))

  known_by : (due : Due) (k : Kind) (t : Lexeme) (b : Built) (us here vs : List Use) → CutAt us here vs → Shows text due k t b here
      → (is_number_kind k ≡ true → AreDigits (word_of text t)) → IsKnown tables due k (word_of text t)
  known_by Part Name t b us here vs cut is digits = symbol_known us here vs t cut is
  known_by Rest Name t b us here vs cut is digits = symbol_known us here vs t cut is
  known_by ClassName Name t b us here vs cut is digits = symbol_known us here vs t cut is
  known_by ClassNames Name t b us here vs cut is digits = symbol_known us here vs t cut is
  known_by MarkName Name t b us here vs cut is digits = output_known us here vs t cut is
  known_by Least Bits t b us here vs cut is digits = digits refl
  known_by Least Number t b us here vs cut is digits = digits refl
  known_by Most Bits t b us here vs cut is digits = digits refl
  known_by Most Number t b us here vs cut is digits = digits refl
  known_by due k t b us here vs cut is digits = tt

  numbers_by : (due : Due) (k : Kind) (t : Lexeme) (b : Built) (us here vs : List Use) → CutAt us here vs → Shows text due k t b here
      → HasNumbers tables text due k b
  numbers_by BoundsEnd CloseBrace t b us here vs cut (c, is) =
      let exact : CutAt us (least_use b.least ∷ most_use b.least b.most ∷ c ∷ []) vs = cut ∙ ap (λ us_here. us ++ (us_here ++ vs)) is in
      let later : CutAt (us ++ (least_use b.least ∷ [])) (most_use b.least b.most ∷ c ∷ []) vs =
      exact ∙ sym (append_assoc us (least_use b.least ∷ []) (most_use b.least b.most ∷ c ∷ vs)) in
      let before = us ++ (least_use b.least ∷ []) in
      bounds_known text limit before (c ∷ vs) b.least b.most (no_fault_in before (most_use b.least b.most ∷ c ∷ []) vs later)
  numbers_by due k t b us here vs cut is = tt

  -- at a token
  module _ (place : ℕ) (state : State) (k : Kind) (inside : place < length text) (e : first_kind version (drop place text) ≡ Some k)
      (h : Followed version text place state)
      (counted_here : Counted state.due state.depth (along h.seen (at FirstLine 0) nothing_built).frames) where
    abbrev t : Lexeme
    t = lexeme_at version text place k

    abbrev b : Built
    b = along h.seen (at FirstLine 0) nothing_built

    uses_here : UsesAt text declares.syntax state.due t b
    uses_here =
        let more = tokens_exist version text (place + first_size version (drop place text)) in
        let same = one_list text declares.says.are_tokens (h.on (t ∷ more.0) (token k inside e refl more.1)) in
        let is : Specifies (h.seen ++ (t ∷ more.0)) declares.syntax =
        subst (λ ts. Specifies ts declares.syntax) same declares.says.specifies in
        uses_at text h.seen more.0 t state declares.syntax is h.ran counted_here

    known_token : IsKnown tables state.due k (word_of text t)
    known_token =
        let u = uses_here in
        let size = first_size version (drop place text) in
        let same : (place + size) - place ≡ size = omega arith in
        known_by state.due k t b u.before u.here u.after u.all u.shows
        (λ number. subst (λ n. AreDigits (take n (drop place text))) (sym same) (token_is_number version (drop place text) k number e))

    known_numbers : HasNumbers tables text state.due k b
    known_numbers =
        let u = uses_here in
        numbers_by state.due k t b u.before u.here u.after u.all u.shows

  known_by_kind : (place : ℕ) (state : State) (kind : Option Kind) → place < length text → first_kind version (drop place text) ≡ kind
      → (h : Followed version text place state) → Counted state.due state.depth (along h.seen (at FirstLine 0) nothing_built).frames
      → IsKnownPiece tables state.due kind (slice_range text place (place + first_size version (drop place text)))
  known_by_kind place state None inside e h counted_here = tt
  known_by_kind place state (Some k) inside e h counted_here = known_token place state k inside e h counted_here

  pub known_piece : (place behind : ℕ) (state : State) (kind : Option Kind) (r : NodesRead) → place < length text
      → kind ≡ first_kind version (drop place text) → behind ≡ place + first_size version (drop place text)
      → NodesAt version text tables place state r → IsKnownPiece tables state.due kind (slice_range text place behind)
  known_piece place behind state kind r inside e size h =
      subst (λ b. IsKnownPiece tables state.due kind (slice_range text place b)) (sym size)
      (known_by_kind place state kind inside (sym e) h.followed h.counted)

  nodes_by : (place : ℕ) (state s : State) (r : NodesRead) (kind : Option Kind) → place < length text → first_kind version (drop place text) ≡ kind
      → (h : NodesAt version text tables place state r) → Followed version text (place + first_size version (drop place text)) s
      → piece_step kind state ≡ Ok s
      → NodesAt version text tables (place + first_size version (drop place text)) s
      (piece_on tables state.due kind (slice_range text place (place + first_size version (drop place text))) r)
  nodes_by place state s r None inside e h i goes =
      let seen = over_gap version text place state s inside h.followed i e in
      let equal : ◌≡◌ {A = Result State SpecCode} (Ok state) (Ok s) = goes in
      let same : state ≡ s = cc in
      record {
        followed = i;
        laid = subst (λ ts. Laid tables text r (along ts (at FirstLine 0) nothing_built)) (sym seen) h.laid;
        numbers = subst (λ (now : State). Numbers tables text now.due r (along i.seen (at FirstLine 0) nothing_built)) same
            (subst (λ ts. Numbers tables text state.due r (along ts (at FirstLine 0) nothing_built)) (sym seen) h.numbers);
        counted = subst (λ (now : State). Counted now.due now.depth (along i.seen (at FirstLine 0) nothing_built).frames) same
            (subst (λ ts. Counted state.due state.depth (along ts (at FirstLine 0) nothing_built).frames) (sym seen) h.counted);
      }
  nodes_by place state s r (Some k) inside e h i goes =
      let t = lexeme_at version text place k in
      let before = along h.followed.seen (at FirstLine 0) nothing_built in
      let seen = over_token version text place state s inside h.followed i k e in
      let next : step state.due k state.depth ≡ Some s =
      ap (λ m. next_state m k) (sym h.followed.ran) ∙ sym (run_append h.followed.seen (t ∷ []) (at FirstLine 0))
      ∙ ap (λ ts. run ts (at FirstLine 0)) (sym seen) ∙ i.ran in
      let move : Moves state.due k state.depth s.due s.depth = subst (λ m. Moved state.due k state.depth m) next (moved state.due k state.depth) in
      let built : act state.due k t before ≡ along i.seen (at FirstLine 0) nothing_built =
      ap (λ m. act_on m t before) (sym h.followed.ran) ∙ sym (along_append h.followed.seen (t ∷ []) (at FirstLine 0) nothing_built)
      ∙ ap (λ ts. along ts (at FirstLine 0) nothing_built) (sym seen) in
      let known = known_token place state k inside e h.followed h.counted in
      let bounds = known_numbers place state k inside e h.followed h.counted in
      let after : NodesRead = piece_on tables state.due (Some k) (word_of text t) r in
      record {
        followed = i;
        laid = subst (λ b. Laid tables text after b) built (laid_step tables text move t r before known bounds h.counted h.numbers h.laid);
        numbers = subst (λ b. Numbers tables text s.due after b) built (numbers_step tables text move t r before h.numbers);
        counted = subst (λ (b : Built). Counted s.due s.depth b.frames) built (counted_step move t before h.counted);
      }

  pub nodes_over : (place behind : ℕ) (state s : State) (r after : NodesRead) (kind : Option Kind) → place < length text
      → kind ≡ first_kind version (drop place text) → behind ≡ place + first_size version (drop place text) → piece_step kind state ≡ Ok s
      → after ≡ piece_on tables state.due kind (slice_range text place behind) r → NodesAt version text tables place state r
      → NodesAt version text tables behind s after
  nodes_over place behind state s r after kind inside e size goes is h =
      let i = over_piece version text place state s kind (place + first_size version (drop place text)) inside e refl goes h.followed in
      subst (λ r. NodesAt version text tables behind s r) (sym is)
      (subst (λ b. NodesAt version text tables b s (piece_on tables state.due kind (slice_range text place b) r)) (sym size)
      (nodes_by place state s r kind inside (sym e) h i goes))

  shaped : IsShaped text
  shaped = record {
    tokens = declares.says.tokens;
    are_tokens = declares.says.are_tokens;
    clean = declares.says.clean;
    syntax = declares.syntax;
    specifies = declares.says.specifies;
  }

  -- no structural code stands
  pub no_fault_here : (place : ℕ) (state : State) (kind : Option Kind) (code : SpecCode) → place < length text
      → kind ≡ first_kind version (drop place text) → piece_step kind state ≡ Err code → Followed version text place state → ⊥
  no_fault_here place state kind code inside e fails h =
      not_both text code place shaped (fault_piece version text place state code kind inside e fails h)
