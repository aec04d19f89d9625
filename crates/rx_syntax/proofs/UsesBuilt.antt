-- The uses in what the tokens build: each token adds its own at the end, so the uses so far are a front of all.
use Rattle.std.proofs.Common.{◌≡◌, ℕ, suc, pred, ◌-◌, ◌*◌, Some, None, List, [], ◌∷◌, ◌++◌, length, refl, ap, sym, ◌∙◌, subst, arith}
use Rattle.std.specs.Prelude.{Option, Bool, ⊤}
use Rattle.std.proofs.lemmas.List.{append_assoc, append-nil}
use Rattle.rx_syntax.specs.Lexemes.{Lexeme}
use Rattle.rx_syntax.specs.Grammar.{Tree, leaf, union, sequence, star, plus, optional, marked, counted, StatementTree, Syntax, Specifies}
use Rattle.rx_syntax.specs.Uses.{Use, leaf_use, mark_use, least_use, most_use, copies_use, number_of, tree_leaves, line_uses, symbol_uses, output_uses, tree_uses, expr_uses, syntax_uses}
use Rattle.rx_syntax.specs.declared.kind.Kind.{Kind}
use Rattle.rx_syntax.specs.declared.kind.Kind.TheVariants.{Name, Semicolon, CloseBrace}
use Rattle.rx_syntax.specs.declared.machine.Due.{Due}
use Rattle.rx_syntax.specs.declared.machine.Due.TheVariants.{FirstLine, Part, Rest, MarkName, ClassName, ClassNames, BoundsEnd, NextExpr}
use Rattle.rx_syntax.specs.declared.machine.State.{State}
use Rattle.rx_syntax.specs.Machine.{at, step, run}
use Rattle.rx_syntax.proofs.Builder.{Frame, Built, nothing_built, empty_frame, joined, chain_of, closed_frame, with_part, some_tree, with_sign, with_bar, with_name, on_first, close_first, with_tree, with_statement, act, along}
use Rattle.rx_syntax.proofs.Moves.{Moves, Moved, moved, run_append, run_dead, first_line, line_name, line_names, line_end, next_line, first_symbol, symbol_name, symbol_equals, symbol_pattern, symbol_end, next_symbol, first_output, output_name, output_names, output_end, next_output, first_expr, part_name, part_open, rest_name, rest_open, rest_close, rest_bar, rest_star, rest_plus, rest_question, rest_mark, rest_end, mark_name, next_expr, pattern_bits, first_scan, next_scan, part_class, rest_class, class_name, class_names, class_close, rest_brace, least_bits, least_number, bounds_comma, most_bits, most_number, bounds_end}
use Rattle.rx_syntax.proofs.Derived.{specified_run}
use Rattle.rx_syntax.proofs.Building.{builds}
use Rattle.rx_syntax.proofs.BuiltSyntax.{syntax_built}
use Rattle.rx_syntax.proofs.OpenFrames.{HasLast, Counted, counted_step}

module _ (text : List ℕ) where
  abbrev part_uses : Option Tree → List Use
  part_uses None = []
  part_uses (Some e) = tree_uses text e

  abbrev frame_uses : Frame → List Use
  frame_uses f = (part_uses f.union_before ++ part_uses f.sequence_before) ++ part_uses f.last

  abbrev frames_uses : List Frame → List Use
  frames_uses [] = []
  frames_uses (f ∷ fs) = frames_uses fs ++ frame_uses f

  -- the uses in what the tokens build, in the order of the text
  abbrev pub built_uses : Built → List Use
  built_uses b = expr_uses text b.exprs ++ frames_uses b.frames

  -- expressions with the uses of both
  abbrev Joins : (Tree → Tree → Tree) → Type 0
  Joins join = (e f : Tree) → tree_uses text (join e f) ≡ tree_uses text e ++ tree_uses text f

  joined_uses : (join : Tree → Tree → Tree) → Joins join → (first second : Option Tree)
      → part_uses (joined join first second) ≡ part_uses first ++ part_uses second
  joined_uses join joins None second = refl
  joined_uses join joins (Some e) None = sym (append-nil (tree_uses text e))
  joined_uses join joins (Some e) (Some f) = joins e f

  chain_uses : (f : Frame) → part_uses (chain_of f) ≡ part_uses f.sequence_before ++ part_uses f.last
  chain_uses f = joined_uses sequence (λ e f. refl) f.sequence_before f.last

  closed_uses : (f : Frame) → part_uses (closed_frame f) ≡ frame_uses f
  closed_uses f =
      joined_uses union (λ e f. refl) f.union_before (chain_of f) ∙ ap (λ us. part_uses f.union_before ++ us) (chain_uses f)
      ∙ sym (append_assoc (part_uses f.union_before) (part_uses f.sequence_before) (part_uses f.last))

  part_more : (e : Option Tree) (f : Frame) → frame_uses (with_part e f) ≡ frame_uses f ++ part_uses e
  part_more e f =
      ap (λ us. (part_uses f.union_before ++ us) ++ part_uses e) (chain_uses f)
      ∙ ap (λ us. us ++ part_uses e) (sym (append_assoc (part_uses f.union_before) (part_uses f.sequence_before) (part_uses f.last)))

  bar_more : (f : Frame) → frame_uses (with_bar f) ≡ frame_uses f
  bar_more f = simp append-nil (closed_uses f)

  name_more : (t : Lexeme) (f : Frame) → frame_uses (with_name t f) ≡ frame_uses f ++ (leaf_use t ∷ [])
  name_more t f = part_more (Some (leaf t)) (with_bar f) ∙ ap (λ us. us ++ (leaf_use t ∷ [])) (bar_more f)

  -- a sign behind a last part adds these uses
  sign_more : (of : Tree → Tree) (us : List Use) (f : Frame) (e : Tree) → f.last ≡ Some e → tree_uses text (of e) ≡ tree_uses text e ++ us
      → frame_uses (with_sign of f) ≡ frame_uses f ++ us
  sign_more of us f e is more =
      let before = part_uses f.union_before ++ part_uses f.sequence_before in
      ap (λ o. before ++ part_uses (some_tree of o)) is ∙ ap (λ vs. before ++ vs) more
      ∙ sym (append_assoc before (tree_uses text e) us) ∙ ap (λ o. (before ++ part_uses o) ++ us) (sym is)

  -- The step adds these uses to the open expressions.
  abbrev Adds : List Frame → List Frame → List Use → Type 0
  Adds fs gs us = frames_uses gs ≡ frames_uses fs ++ us

  first_more : (of : Frame → Frame) (us : List Use) (d : ℕ) (fs : List Frame) → length fs ≡ suc d
      → ((f : Frame) → frame_uses (of f) ≡ frame_uses f ++ us) → Adds fs (on_first of fs) us
  first_more of us d [] e more = absurd (omega (arith, e))
  first_more of us d (f ∷ fs) e more =
      ap (λ vs. frames_uses fs ++ vs) (more f) ∙ sym (append_assoc (frames_uses fs) (frame_uses f) us)

  -- a sign behind the last part of the innermost expression
  last_more : (of : Tree → Tree) (fs : List Frame) → HasLast fs → (us : Tree → List Use)
      → ((e : Tree) → tree_uses text (of e) ≡ tree_uses text e ++ us e) → (e : Tree) × Adds fs (on_first (with_sign of) fs) (us e)
  last_more of [] h us more = absurd h
  last_more of (f ∷ fs) (e, is) us more = (
    e,
    ap (λ vs. frames_uses fs ++ vs) (sign_more of (us e) f e is (more e)) ∙ sym (append_assoc (frames_uses fs) (frame_uses f) (us e)),
  )

  close_more : (d : ℕ) (fs : List Frame) → length fs ≡ suc (suc d) → frames_uses (close_first fs) ≡ frames_uses fs
  close_more d [] e = absurd (omega (arith, e))
  close_more d (f ∷ []) e = absurd (omega (arith, e))
  close_more d (f ∷ g ∷ fs) e =
      ap (λ us. frames_uses fs ++ us) (part_more (closed_frame f) g ∙ ap (λ us. frame_uses g ++ us) (closed_uses f))
      ∙ sym (append_assoc (frames_uses fs) (frame_uses g) (frame_uses f))

  exprs_more : (es : List StatementTree) (s : StatementTree) → expr_uses text (es ++ (s ∷ [])) ≡ expr_uses text es ++ tree_uses text s.tree
  exprs_more [] s = append-nil (tree_uses text s.tree)
  exprs_more (e ∷ es) s =
      ap (λ us. tree_uses text e.tree ++ us) (exprs_more es s)
      ∙ sym (append_assoc (tree_uses text e.tree) (expr_uses text es) (tree_uses text s.tree))

  end_more : (scans : Bool) (fs : List Frame) (es : List StatementTree) → length fs ≡ 1
      → expr_uses text (with_statement scans fs es) ++ [] ≡ expr_uses text es ++ frames_uses fs
  end_more scans [] es e = absurd (omega (arith, e))
  end_more scans (f ∷ g ∷ fs) es e = absurd (omega (arith, e))
  end_more scans (f ∷ []) es e =
      append-nil (expr_uses text (with_statement scans (f ∷ []) es)) ∙ by (closed_frame f) ∙ ap (λ us. expr_uses text es ++ us) (closed_uses f)
    where
      by : (o : Option Tree) → expr_uses text (with_tree scans o es) ≡ expr_uses text es ++ part_uses o
      by None = sym (append-nil (expr_uses text es))
      by (Some e) = exprs_more es (record { scans = scans; tree = e })

  -- what the uses of a token are, where it is one of these
  abbrev pub Shows : Due → Kind → Lexeme → Built → List Use → Type 0
  Shows Part Name t b us = us ≡ leaf_use t ∷ []
  Shows Rest Name t b us = us ≡ leaf_use t ∷ []
  Shows ClassName Name t b us = us ≡ leaf_use t ∷ []
  Shows ClassNames Name t b us = us ≡ leaf_use t ∷ []
  Shows MarkName Name t b us = us ≡ mark_use t ∷ []
  Shows BoundsEnd CloseBrace t b us = (c : Use) × (us ≡ least_use b.least ∷ most_use b.least b.most ∷ c ∷ [])
  Shows due kind t b us = ⊤

  -- the uses that a token adds
  abbrev pub More : Built → Built → List Use → Type 0
  More b c us = built_uses c ≡ built_uses b ++ us

  nothing_more : (b : Built) → More b b []
  nothing_more b = sym (append-nil (built_uses b))

  -- no more uses
  same_more : (b c : Built) → built_uses c ≡ built_uses b → More b c []
  same_more b c e = e ∙ nothing_more b

  frames_more : (b : Built) (fs : List Frame) (us : List Use) → Adds b.frames fs us → expr_uses text b.exprs ++ frames_uses fs ≡ built_uses b ++ us
  frames_more b fs us e =
      ap (λ vs. expr_uses text b.exprs ++ vs) e ∙ sym (append_assoc (expr_uses text b.exprs) (frames_uses b.frames) us)

  opened_more : (b : Built) → expr_uses text b.exprs ++ frames_uses (empty_frame ∷ b.frames) ≡ built_uses b ++ []
  opened_more b = frames_more b (empty_frame ∷ b.frames) [] refl

  begun_more : (b : Built) → b.frames ≡ [] → expr_uses text b.exprs ++ frames_uses (empty_frame ∷ []) ≡ built_uses b ++ []
  begun_more b e = frames_more b (empty_frame ∷ []) [] (ap (λ fs. frames_uses fs ++ []) (sym e))

  closed_more : (b : Built) (d : ℕ) → length b.frames ≡ suc (suc d)
      → expr_uses text b.exprs ++ frames_uses (close_first b.frames) ≡ built_uses b ++ []
  closed_more b d e = frames_more b (close_first b.frames) [] (close_more d b.frames e ∙ sym (append-nil (frames_uses b.frames)))

  leaf_more : (b : Built) (t : Lexeme) (d : ℕ) → length b.frames ≡ suc d
      → expr_uses text b.exprs ++ frames_uses (on_first (with_part (Some (leaf t))) b.frames) ≡ built_uses b ++ (leaf_use t ∷ [])
  leaf_more b t d e =
      frames_more b (on_first (with_part (Some (leaf t))) b.frames) (leaf_use t ∷ [])
      (first_more (with_part (Some (leaf t))) (leaf_use t ∷ []) d b.frames e (part_more (Some (leaf t))))

  signed_more : (b : Built) (of : Tree → Tree) → HasLast b.frames → ((e : Tree) → tree_uses text (of e) ≡ tree_uses text e)
      → expr_uses text b.exprs ++ frames_uses (on_first (with_sign of) b.frames) ≡ built_uses b ++ []
  signed_more b of last same =
      let m = last_more of b.frames last (λ e. []) (λ e. same e ∙ sym (append-nil (tree_uses text e))) in
      frames_more b (on_first (with_sign of) b.frames) [] m.1

  pub token_more : {due now : Due} {k : Kind} {d e : ℕ} → Moves due k d now e → (t : Lexeme) (b : Built) → Counted due d b.frames
      → (us : List Use) × More b (act due k t b) us × Shows due k t b us
  token_more first_line t b h = ([], nothing_more b, tt)
  token_more line_name t b h = ([], nothing_more b, tt)
  token_more line_names t b h = ([], nothing_more b, tt)
  token_more line_end t b h = ([], nothing_more b, tt)
  token_more next_line t b h = ([], nothing_more b, tt)
  token_more first_symbol t b h = ([], nothing_more b, tt)
  token_more symbol_name t b h = ([], nothing_more b, tt)
  token_more symbol_equals t b h = ([], nothing_more b, tt)
  token_more symbol_pattern t b h = ([], nothing_more b, tt)
  token_more symbol_end t b h = ([], nothing_more b, tt)
  token_more next_symbol t b h = ([], nothing_more b, tt)
  token_more first_output t b h = ([], nothing_more b, tt)
  token_more output_name t b h = ([], nothing_more b, tt)
  token_more output_names t b h = ([], nothing_more b, tt)
  token_more output_end t b h = ([], nothing_more b, tt)
  token_more next_output t b h = ([], nothing_more b, tt)
  token_more first_expr t b h = ([], begun_more b h, tt)
  token_more {d = d} part_name t b h = (leaf_use t ∷ [], leaf_more b t d h, refl)
  token_more part_open t b h = ([], opened_more b, tt)
  token_more {d = d} rest_name t b (h, last) = (leaf_use t ∷ [], leaf_more b t d h, refl)
  token_more rest_open t b h = ([], opened_more b, tt)
  token_more {e = e} rest_close t b (h, last) = ([], closed_more b e h, tt)
  token_more {d = d} rest_bar t b (h, last) = (
    [],
    frames_more b (on_first with_bar b.frames) []
        (first_more with_bar [] d b.frames h (λ f. bar_more f ∙ sym (append-nil (frame_uses f)))),
    tt,
  )
  token_more rest_star t b (h, last) = ([], signed_more b star last (λ e. refl), tt)
  token_more rest_plus t b (h, last) = ([], signed_more b plus last (λ e. refl), tt)
  token_more rest_question t b (h, last) = ([], signed_more b optional last (λ e. refl), tt)
  token_more rest_mark t b h = ([], nothing_more b, tt)
  token_more rest_end t b (h, last) = ([], same_more b (act Rest Semicolon t b) (end_more b.is_scan b.frames b.exprs h), tt)
  token_more mark_name t b (h, last) =
      let m = last_more (λ e. marked e t) b.frames last (λ e. mark_use t ∷ []) (λ e. refl) in
      (mark_use t ∷ [], frames_more b (on_first (with_sign (λ e. marked e t)) b.frames) (mark_use t ∷ []) m.1, refl)
  token_more next_expr t b h = ([], begun_more b h, tt)
  token_more pattern_bits t b h = ([], nothing_more b, tt)
  token_more first_scan t b h = ([], begun_more b h, tt)
  token_more next_scan t b h = ([], begun_more b h, tt)
  token_more part_class t b h = ([], opened_more b, tt)
  token_more rest_class t b h = ([], opened_more b, tt)
  token_more {d = d} class_name t b (h, some) = (leaf_use t ∷ [], leaf_more b t d h, refl)
  token_more {d = d} class_names t b (h, last, some) = (
    leaf_use t ∷ [],
    frames_more b (on_first (with_name t) b.frames) (leaf_use t ∷ [])
        (first_more (with_name t) (leaf_use t ∷ []) d b.frames h (name_more t)),
    refl,
  )
  token_more {d = d} class_close t b (h, last, some) = ([], closed_more b (pred d) (h ∙ ap suc some), tt)
  token_more rest_brace t b h = ([], nothing_more b, tt)
  token_more least_bits t b h = ([], nothing_more b, tt)
  token_more least_number t b h = ([], nothing_more b, tt)
  token_more bounds_comma t b h = ([], nothing_more b, tt)
  token_more most_bits t b h = ([], nothing_more b, tt)
  token_more most_number t b h = ([], nothing_more b, tt)
  token_more bounds_end t b (h, last) =
      let of : Tree → Tree = λ e. counted e b.least b.most t in
      let copies : Tree → Use = λ e. copies_use t ((number_of text b.most - 1) * tree_leaves text e) in
      let us : Tree → List Use = λ e. least_use b.least ∷ most_use b.least b.most ∷ copies e ∷ [] in
      let m = last_more of b.frames last us (λ e. refl) in
      (us m.0, frames_more b (on_first (with_sign of) b.frames) (us m.0) m.1, (copies m.0, refl))

  more_more : (b c e : Built) (us vs : List Use) → More b c us → More c e vs → More b e (us ++ vs)
  more_more b c e us vs first second = second ∙ ap (λ ws. ws ++ vs) first ∙ append_assoc (built_uses b) us vs

-- where tokens go on to a state, the first of them makes a legal move
pub goes_on : (t : Lexeme) (ts : List Lexeme) (state end : State) → run (t ∷ ts) (Some state) ≡ Some end
    → (s : State) × (step state.due t.kind state.depth ≡ Some s)
goes_on t ts state end ran = by (step state.due t.kind state.depth) refl
  where
    by : (o : Option State) → step state.due t.kind state.depth ≡ o → (s : State) × (o ≡ Some s)
    by None e =
        let clash : ◌≡◌ {A = Option State} None (Some end) = sym (run_dead ts) ∙ ap (run ts) (sym e) ∙ ran in
        absurd cc
    by (Some s) e = (s, refl)

legal : (due : Due) (k : Kind) (d : ℕ) (s : State) → step due k d ≡ Some s → Moves due k d s.due s.depth
legal due k d s e = subst (λ m. Moved due k d m) e (moved due k d)

-- the statements that the tokens build are those that they say
exprs_said : (tokens : List Lexeme) (syntax : Syntax) (e : Built) → Specifies tokens syntax → along tokens (at FirstLine 0) nothing_built ≡ e
    → e.exprs ≡ syntax.exprs
exprs_said tokens syntax e is whole =
    ap (λ (b : Built). b.exprs) (sym whole) ∙ ap (λ (s : Syntax). s.exprs) (syntax_built tokens syntax is)

-- the rest goes on where all tokens do
rest_goes : (seen rest tokens : List Lexeme) (state end : State) → tokens ≡ seen ++ rest → run seen (at FirstLine 0) ≡ Some state
    → run tokens (at FirstLine 0) ≡ Some end → run rest (Some state) ≡ Some end
rest_goes seen rest tokens state end cut ran whole =
    ap (run rest) (sym ran) ∙ sym (run_append seen rest (at FirstLine 0)) ∙ ap (λ ts. run ts (at FirstLine 0)) (sym cut) ∙ whole

behind : (xs ys zs whole : List Use) → whole ≡ ys ++ zs → xs ++ whole ≡ (xs ++ ys) ++ zs
behind xs ys zs whole e = ap (λ us. xs ++ us) e ∙ sym (append_assoc xs ys zs)

module _ (text : List ℕ) where
  -- Tokens that go on to a state add uses and keep the count.
  abbrev Later : State → Built → Built → Type 0
  Later end b c = (us : List Use) × More text b c us × Counted end.due end.depth c.frames

  later : (ts : List Lexeme) (state end : State) (b : Built) → Counted state.due state.depth b.frames → run ts (Some state) ≡ Some end
      → Later end b (along ts (Some state) b)
  later [] state end b h ran =
      let some : ◌≡◌ {A = Option State} (Some state) (Some end) = ran in
      let same : state ≡ end = cc in
      ([], sym (append-nil (built_uses text b)), subst (λ (s : State). Counted s.due s.depth b.frames) same h)
  later (t ∷ ts) state end b h ran =
      let n = goes_on t ts state end ran in
      let s : State = n.0 in
      let c : Built = act state.due t.kind t b in
      let move = legal state.due t.kind state.depth s n.1 in
      let m = token_more text move t b h in
      let i = later ts s end c (counted_step move t b h) (ap (run ts) (sym n.1) ∙ ran) in
      subst (λ o. Later end b (along ts o c)) (sym n.1)
      (m.0 ++ i.0, more_more text b c (along ts (Some s) c) m.0 i.0 m.1 i.1, i.2)

  -- where no expression is open, the uses are those of the statements
  all_uses : (b c e : Built) (us vs : List Use) (exprs : List StatementTree) → More text b c us → More text c e vs → e.exprs ≡ exprs → e.frames ≡ []
      → expr_uses text exprs ≡ built_uses text b ++ (us ++ vs)
  all_uses b c e us vs exprs first second said none =
      ap (expr_uses text) (sym said) ∙ sym (append-nil (expr_uses text e.exprs)) ∙ ap (λ fs. expr_uses text e.exprs ++ frames_uses text fs) (sym none)
      ∙ more_more text b c e us vs first second

  -- the uses of a whole text, cut at a token
  pub record UsesAt (syntax : Syntax) (due : Due) (t : Lexeme) (b : Built) : Type 0 where
    pub before : List Use
    pub here : List Use
    pub after : List Use
    pub all : syntax_uses text syntax ≡ before ++ (here ++ after)
    pub shows : Shows text due t.kind t b here

  pub uses_at : (seen rest : List Lexeme) (t : Lexeme) (state : State) (syntax : Syntax) → Specifies (seen ++ (t ∷ rest)) syntax
      → run seen (at FirstLine 0) ≡ Some state → Counted state.due state.depth (along seen (at FirstLine 0) nothing_built).frames
      → UsesAt syntax state.due t (along seen (at FirstLine 0) nothing_built)
  uses_at seen rest t state syntax is ran counted_here =
      let tokens = seen ++ (t ∷ rest) in
      let end : State = record { due = NextExpr; depth = 0 } in
      let b = along seen (at FirstLine 0) nothing_built in
      let c = act state.due t.kind t b in
      let goes = rest_goes seen (t ∷ rest) tokens state end refl ran (specified_run tokens syntax is) in
      let n = goes_on t rest state end goes in
      let s : State = n.0 in
      let move = legal state.due t.kind state.depth s n.1 in
      let m = token_more text move t b counted_here in
      let i = later rest s end c (counted_step move t b counted_here) (ap (run rest) (sym n.1) ∙ goes) in
      let e = along rest (Some s) c in
      let whole = builds seen (t ∷ rest) tokens (at FirstLine 0) (Some state) nothing_built b e refl ran refl (ap (λ o. along rest o c) n.1) in
      let exprs = exprs_said tokens syntax e is whole in
      let names = (line_uses syntax.lines ++ symbol_uses syntax.symbols) ++ output_uses syntax.outputs in
      let all = all_uses b c e m.0 i.0 syntax.exprs m.1 i.1 exprs i.2 in
      record {
        before = names ++ built_uses text b;
        here = m.0;
        after = i.0;
        all = behind names (built_uses text b) (m.0 ++ i.0) (expr_uses text syntax.exprs) all;
        shows = m.2;
      }
