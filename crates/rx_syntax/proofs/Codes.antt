-- The machine answers the code that stands at a token, and at the end.
use Rattle.std.proofs.Common.{◌≡◌, ℕ, zero, suc, ◌≤◌, ◌<◌, Some, None, Ok, Err, List, [], ◌∷◌, refl, ap, sym, ◌∙◌, subst, inl, inr, arith}
use Rattle.std.specs.Prelude.{Option, Result, ◌≢◌, ◌⊎◌, ⊤, nat_le}
use Rattle.std.proofs.lemmas.Bool.{cases_Bool}
use Rattle.rx_syntax.specs.Lexemes.{Lexeme}
use Rattle.rx_syntax.specs.Refusals.{Missing, opened, open_after}
use Rattle.rx_syntax.specs.declared.kind.Kind.{Kind}
use Rattle.rx_syntax.specs.declared.kind.Kind.TheVariants.{Bad, Long, Symbol, Output, Expr, Scan, Open, OpenBracket}
use Rattle.rx_syntax.specs.declared.spec_code.SpecCode.{SpecCode}
use Rattle.rx_syntax.specs.declared.spec_code.SpecCode.TheVariants.{S1, S2, S6, S7, S8, S9, S14}
use Rattle.rx_syntax.specs.declared.machine.Due.{Due}
use Rattle.rx_syntax.specs.declared.machine.Due.TheVariants.{FirstLine, NextLine, NextSymbol, Part, Rest, MarkName, ClassName, ClassNames, Least, Between, Most, BoundsEnd}
use Rattle.rx_syntax.specs.declared.machine.State.{State}
use Rattle.rx_syntax.specs.Machine.{at, step, missing, not_deep, not_missing, not_bad, next_state, run}
use Rattle.rx_syntax.proofs.Moves.{Moves, first_line, line_name, line_names, line_end, next_line, first_symbol, symbol_name, symbol_equals, symbol_pattern, symbol_end, next_symbol, first_output, output_name, output_names, output_end, next_output, first_expr, part_name, part_open, rest_name, rest_open, rest_close, rest_bar, rest_star, rest_plus, rest_question, rest_mark, rest_end, mark_name, next_expr, pattern_bits, first_scan, next_scan, part_class, rest_class, class_name, class_names, class_close, rest_brace, least_bits, least_number, bounds_comma, most_bits, most_number, bounds_end, Moved, moved}
use Rattle.rx_syntax.proofs.Derived.{lines_due, symbols_due}
use Rattle.rx_syntax.proofs.Prefixes.{Prefix, alive}
use Rattle.rx_syntax.proofs.Viable.{same_due}

-- where a later section's keyword comes too early

data Early : Due → Kind → SpecCode → Type 0 where
  symbol_no_line : Early FirstLine Symbol S6
  output_no_line : Early FirstLine Output S6
  expr_no_line : Early FirstLine Expr S6
  scan_no_line : Early FirstLine Scan S6
  output_no_symbol : Early NextLine Output S7
  expr_no_symbol : Early NextLine Expr S7
  scan_no_symbol : Early NextLine Scan S7
  expr_no_output : Early NextSymbol Expr S8
  scan_no_output : Early NextSymbol Scan S8

abbrev EarlyCase : Due → Kind → Option SpecCode → Type 0
EarlyCase due k None = ⊤
EarlyCase due k (Some c) = Early due k c

early : (due : Due) (k : Kind) → EarlyCase due k (missing due k)
early FirstLine Symbol = symbol_no_line
early FirstLine Output = output_no_line
early FirstLine Expr = expr_no_line
early FirstLine Scan = scan_no_line
early NextLine Output = output_no_symbol
early NextLine Expr = expr_no_symbol
early NextLine Scan = scan_no_symbol
early NextSymbol Expr = expr_no_output
early NextSymbol Scan = scan_no_output
early due k = tt

early_missing : {due : Due} {k : Kind} {c : SpecCode} (before : List Lexeme) (t : Lexeme) (d : ℕ) → Early due k c → t.kind ≡ k → Prefix due d before
    → Missing c before (Some t)
early_missing before t d symbol_no_line k h = (h, inr (inl k))
early_missing before t d output_no_line k h = (h, inr (inr (inl k)))
early_missing before t d expr_no_line k h = (h, inr (inr (inr (inl k))))
early_missing before t d scan_no_line k h = (h, inr (inr (inr (inr k))))
early_missing before t d output_no_symbol k h = (h, inr (inl k))
early_missing before t d expr_no_symbol k h = (h, inr (inr (inl k)))
early_missing before t d scan_no_symbol k h = (h, inr (inr (inr k)))
early_missing before t d expr_no_output k h = (h, inr (inl k))
early_missing before t d scan_no_output k h = (h, inr (inr k))

-- what is missing is a code of the machine
pub missing_from : (before : List Lexeme) (t : Lexeme) (due : Due) (d : ℕ) (c : SpecCode) → run before (at FirstLine 0) ≡ at due d
    → missing due t.kind ≡ Some c → Missing c before (Some t)
missing_from before t due d c e m =
    early_missing before t d (subst (λ o. EarlyCase due t.kind o) m (early due t.kind)) refl (alive before due d e)

none_left : (t : Lexeme) {A : Type 0} → ◌≡◌ {A = Option Lexeme} (Some t) None → A
none_left t e = absurd cc

pub missing_to : (before : List Lexeme) (t : Lexeme) (due : Due) (d : ℕ) (c : SpecCode) → run before (at FirstLine 0) ≡ at due d
    → Missing c before (Some t) → missing due t.kind ≡ Some c
missing_to before t due d S6 e (empty, now) =
    let is : due ≡ FirstLine = same_due before due FirstLine d 0 e (ap (λ xs. run xs (at FirstLine 0)) empty) in
    elim now [
      | inl none ↦ none_left t none
      | inr some ↦ elim some [
        | inl k ↦ rw (is, k) refl
        | inr other ↦ elim other [ inl k ↦ rw (is, k) refl | inr k ↦ elim k [ inl e ↦ rw (is, e) refl | inr e ↦ rw (is, e) refl ] ]
      ]
    ]
missing_to before t due d S7 e (read, now) =
    let is : due ≡ NextLine = same_due before due NextLine d 0 e (lines_due before read) in
    elim now [
      | inl none ↦ none_left t none
      | inr some ↦ elim some [ inl k ↦ rw (is, k) refl | inr k ↦ elim k [ inl e ↦ rw (is, e) refl | inr e ↦ rw (is, e) refl ] ]
    ]
missing_to before t due d S8 e (read, now) =
    let is : due ≡ NextSymbol = same_due before due NextSymbol d 0 e (symbols_due before read) in
    elim now [ inl none ↦ none_left t none | inr k ↦ elim k [ inl e ↦ rw (is, e) refl | inr e ↦ rw (is, e) refl ] ]
missing_to before t due d S9 e (read, now) = none_left t now
missing_to before t due d c e h = absurd h

-- how many parentheses are open

abbrev pub Flat : Due → ℕ → Type 0
Flat Part d = ⊤
Flat Rest d = ⊤
Flat MarkName d = ⊤
Flat ClassName d = ⊤
Flat ClassNames d = ⊤
Flat Least d = ⊤
Flat Between d = ⊤
Flat Most d = ⊤
Flat BoundsEnd d = ⊤
Flat due d = d ≡ 0

pub opened_move : {due now : Due} {k : Kind} {d e : ℕ} → Moves due k d now e → Flat due d → (e ≡ opened k d) × Flat now e
opened_move first_line f = (sym f, refl)
opened_move line_name f = (sym f, refl)
opened_move line_names f = (sym f, refl)
opened_move line_end f = (sym f, refl)
opened_move next_line f = (sym f, refl)
opened_move first_symbol f = (sym f, refl)
opened_move symbol_name f = (sym f, refl)
opened_move symbol_equals f = (sym f, refl)
opened_move symbol_pattern f = (sym f, refl)
opened_move symbol_end f = (sym f, refl)
opened_move next_symbol f = (sym f, refl)
opened_move first_output f = (sym f, refl)
opened_move output_name f = (sym f, refl)
opened_move output_names f = (sym f, refl)
opened_move output_end f = (sym f, refl)
opened_move next_output f = (sym f, refl)
opened_move first_expr f = (sym f, tt)
opened_move part_name f = (refl, tt)
opened_move part_open f = (refl, tt)
opened_move rest_name f = (refl, tt)
opened_move rest_open f = (refl, tt)
opened_move rest_close f = (refl, tt)
opened_move rest_bar f = (refl, tt)
opened_move rest_star f = (refl, tt)
opened_move rest_plus f = (refl, tt)
opened_move rest_question f = (refl, tt)
opened_move rest_mark f = (refl, tt)
opened_move rest_end f = (refl, refl)
opened_move mark_name f = (refl, tt)
opened_move next_expr f = (sym f, tt)
opened_move pattern_bits f = (sym f, refl)
opened_move first_scan f = (sym f, tt)
opened_move next_scan f = (sym f, tt)
opened_move part_class f = (refl, tt)
opened_move rest_class f = (refl, tt)
opened_move class_name f = (refl, tt)
opened_move class_names f = (refl, tt)
opened_move class_close f = (refl, tt)
opened_move rest_brace f = (refl, tt)
opened_move least_bits f = (refl, tt)
opened_move least_number f = (refl, tt)
opened_move bounds_comma f = (refl, tt)
opened_move most_bits f = (refl, tt)
opened_move most_number f = (refl, tt)
opened_move bounds_end f = (refl, tt)

abbrev Levelled : Option State → ℕ → Type 0
Levelled None depth = ⊤
Levelled (Some s) depth = (s.depth ≡ depth) × Flat s.due s.depth

level_step : (due : Due) (k : Kind) (d depth : ℕ) (o : Option State) → Moved due k d o → (d ≡ depth) × Flat due d → Levelled o (opened k depth)
level_step due k d depth None m h = tt
level_step due k d depth (Some s) m h = let g = opened_move m h.1 in (g.0 ∙ ap (opened k) h.0, g.1)

level_next : (k : Kind) (o : Option State) (depth : ℕ) → Levelled o depth → Levelled (next_state o k) (opened k depth)
level_next k None depth h = tt
level_next k (Some s) depth h = level_step s.due k s.depth depth (step s.due k s.depth) (moved s.due k s.depth) h

levels : (ts : List Lexeme) (o : Option State) (depth : ℕ) → Levelled o depth → Levelled (run ts o) (open_after depth ts)
levels [] o depth h = h
levels (t ∷ ts) o depth h = levels ts (next_state o t.kind) (opened t.kind depth) (level_next t.kind o depth h)

-- the depth is the number of open parentheses
pub open_run : (before : List Lexeme) (due : Due) (d : ℕ) → run before (at FirstLine 0) ≡ at due d → (d ≡ open_after 0 before) × Flat due d
open_run before due d e = subst (λ o. Levelled o (open_after 0 before)) e (levels before (at FirstLine 0) 0 (refl, refl))

-- Only an opening parenthesis or bracket raises the depth.
pub rises : {due now : Due} {k : Kind} {d e : ℕ} → Moves due k d now e → (e ≤ d) ⊎ (((k ≡ Open) ⊎ (k ≡ OpenBracket)) × (e ≡ suc d))
rises part_open = inr (inl refl, refl)
rises rest_open = inr (inl refl, refl)
rises part_class = inr (inr refl, refl)
rises rest_class = inr (inr refl, refl)
rises first_line = inl (omega arith)
rises line_name = inl (omega arith)
rises line_names = inl (omega arith)
rises line_end = inl (omega arith)
rises next_line = inl (omega arith)
rises first_symbol = inl (omega arith)
rises symbol_name = inl (omega arith)
rises symbol_equals = inl (omega arith)
rises symbol_pattern = inl (omega arith)
rises symbol_end = inl (omega arith)
rises next_symbol = inl (omega arith)
rises first_output = inl (omega arith)
rises output_name = inl (omega arith)
rises output_names = inl (omega arith)
rises output_end = inl (omega arith)
rises next_output = inl (omega arith)
rises first_expr = inl (omega arith)
rises part_name = inl (omega arith)
rises rest_name = inl (omega arith)
rises rest_close = inl (omega arith)
rises rest_bar = inl (omega arith)
rises rest_star = inl (omega arith)
rises rest_plus = inl (omega arith)
rises rest_question = inl (omega arith)
rises rest_mark = inl (omega arith)
rises rest_end = inl (omega arith)
rises mark_name = inl (omega arith)
rises next_expr = inl (omega arith)
rises pattern_bits = inl (omega arith)
rises first_scan = inl (omega arith)
rises next_scan = inl (omega arith)
rises class_name = inl (omega arith)
rises class_names = inl (omega arith)
rises rest_brace = inl (omega arith)
rises least_bits = inl (omega arith)
rises least_number = inl (omega arith)
rises bounds_comma = inl (omega arith)
rises most_bits = inl (omega arith)
rises most_number = inl (omega arith)
rises bounds_end = inl (omega arith)
rises (class_close {d = zero}) = inl (omega arith)
rises (class_close {d = suc d}) = inl (omega arith)

pub move_of : (due : Due) (k : Kind) (d : ℕ) (s : State) → step due k d ≡ Some s → Moves due k d s.due s.depth
move_of due k d s e = subst (λ o. Moved due k d o) e (moved due k d)

pub no_long : {due now : Due} {d e : ℕ} → Moves due Long d now e → ⊥
no_long h = elim h [ ]

-- the cases of a step over a token
pub data Outcome (k : Kind) (m : Option SpecCode) (o : Option State) : Result State SpecCode → Type 0 where
  is_bad : k ≡ Bad → Outcome k m o (Err S1)
  is_early : {c : SpecCode} → k ≢ Bad → m ≡ Some c → Outcome k m o (Err c)
  is_stuck : k ≢ Bad → m ≡ None → o ≡ None → Outcome k m o (Err S2)
  is_deep : (s : State) → k ≢ Bad → m ≡ None → o ≡ Some s → 200 < s.depth → Outcome k m o (Err S14)
  is_fine : {s : State} → k ≢ Bad → m ≡ None → o ≡ Some s → s.depth ≤ 200 → Outcome k m o (Ok s)

bad_or_not : (k : Kind) (r : Result State SpecCode) → ((k ≡ Bad) × (not_bad k r ≡ Err S1)) ⊎ ((k ≢ Bad) × (not_bad k r ≡ r))
bad_or_not Bad r = inl (refl, refl)
bad_or_not k r = inr ((λ e. cc), refl)

deep_or_not : (k : Kind) (s : State) → k ≢ Bad → Outcome k None (Some s) (not_deep (Some s))
deep_or_not k s b = elim (cases_Bool (nat_le s.depth 200)) [
  | inl e ↦ (let h : s.depth ≤ 200 = grind arith in rw e (is_fine b refl refl h))
  | inr e ↦ (let h : 200 < s.depth = grind arith in rw e (is_deep s b refl refl h))
]

good_outcome : (k : Kind) (m : Option SpecCode) (o : Option State) → k ≢ Bad → Outcome k m o (not_missing m (not_deep o))
good_outcome k (Some c) o b = is_early b refl
good_outcome k None None b = is_stuck b refl refl
good_outcome k None (Some s) b = deep_or_not k s b

pub outcome : (k : Kind) (m : Option SpecCode) (o : Option State) → Outcome k m o (not_bad k (not_missing m (not_deep o)))
outcome k m o = elim (bad_or_not k (not_missing m (not_deep o))) [
  | inl (e, f) ↦ subst (λ r. Outcome k m o r) (sym f) (is_bad e)
  | inr (e, f) ↦ subst (λ r. Outcome k m o r) (sym f) (good_outcome k m o e)
]
