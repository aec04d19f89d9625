-- How many expressions are open, and where the innermost has a last part.
use Rattle.std.proofs.Common.{◌≡◌, ℕ, suc, Some, None, List, [], ◌∷◌, length, refl, ap, ◌∙◌, arith}
use Rattle.std.specs.Prelude.{Option, pred}
use Rattle.rx_syntax.specs.Lexemes.{Lexeme}
use Rattle.rx_syntax.specs.Grammar.{Tree, leaf, union, sequence, star, plus, optional, marked, counted}
use Rattle.rx_syntax.specs.declared.kind.Kind.{Kind}
use Rattle.rx_syntax.specs.declared.machine.Due.{Due}
use Rattle.rx_syntax.specs.declared.machine.Due.TheVariants.{Part, Rest, MarkName, ClassName, ClassNames, Least, Between, Most, BoundsEnd}
use Rattle.rx_syntax.proofs.Builder.{Frame, Built, joined, chain_of, closed_frame, with_part, with_sign, with_bar, with_name, on_first, close_first, act}
use Rattle.rx_syntax.proofs.Moves.{Moves, first_line, line_name, line_names, line_end, next_line, first_symbol, symbol_name, symbol_equals, symbol_pattern, symbol_end, next_symbol, first_output, output_name, output_names, output_end, next_output, first_expr, part_name, part_open, rest_name, rest_open, rest_close, rest_bar, rest_star, rest_plus, rest_question, rest_mark, rest_end, mark_name, next_expr, pattern_bits, first_scan, next_scan, part_class, rest_class, class_name, class_names, class_close, rest_brace, least_bits, least_number, bounds_comma, most_bits, most_number, bounds_end}

-- The innermost open expression has a last part.
abbrev pub HasLast : List Frame → Type 0
HasLast [] = ⊥
HasLast (f ∷ fs) = (e : Tree) × (f.last ≡ Some e)

-- how many expressions are open
abbrev pub Counted : Due → ℕ → List Frame → Type 0
Counted Part d frames = length frames ≡ suc d
Counted Rest d frames = (length frames ≡ suc d) × HasLast frames
Counted MarkName d frames = (length frames ≡ suc d) × HasLast frames
Counted ClassName d frames = (length frames ≡ suc d) × (d ≡ suc (pred d))
Counted ClassNames d frames = (length frames ≡ suc d) × HasLast frames × (d ≡ suc (pred d))
Counted Least d frames = (length frames ≡ suc d) × HasLast frames
Counted Between d frames = (length frames ≡ suc d) × HasLast frames
Counted Most d frames = (length frames ≡ suc d) × HasLast frames
Counted BoundsEnd d frames = (length frames ≡ suc d) × HasLast frames
Counted due d frames = frames ≡ []

pub length-on_first : (f : Frame → Frame) (fs : List Frame) → length (on_first f fs) ≡ length fs
length-on_first f [] = refl
length-on_first f (x ∷ fs) = refl

length-close_first : (fs : List Frame) (d : ℕ) → length fs ≡ suc (suc d) → length (close_first fs) ≡ suc d
length-close_first [] d e = absurd (omega (arith, e))
length-close_first (f ∷ fs) d e = omega (arith, e, length-on_first (with_part (closed_frame f)) fs)

-- an expression whose second part is there
some_joined : (join : Tree → Tree → Tree) (first : Option Tree) (second : Option Tree) → (e : Tree) × (second ≡ Some e)
    → (e : Tree) × (joined join first second ≡ Some e)
some_joined join None second (e, is) = (e, is)
some_joined join (Some first) second (e, is) = (join first e, ap (joined join (Some first)) is)

some_closed : (f : Frame) → (e : Tree) × (f.last ≡ Some e) → (e : Tree) × (closed_frame f ≡ Some e)
some_closed f h = some_joined union f.union_before (chain_of f) (some_joined sequence f.sequence_before f.last h)

-- a leaf is the last part of a group that is open
leaf_last : (d : ℕ) (t : Lexeme) (fs : List Frame) → length fs ≡ suc d → HasLast (on_first (with_part (Some (leaf t))) fs)
leaf_last d t [] e = absurd (omega (arith, e))
leaf_last d t (f ∷ fs) e = (leaf t, refl)

name_last : (t : Lexeme) (fs : List Frame) → HasLast fs → HasLast (on_first (with_name t) fs)
name_last t [] h = absurd h
name_last t (f ∷ fs) h = (leaf t, refl)

sign_last : (of : Tree → Tree) (fs : List Frame) → HasLast fs → HasLast (on_first (with_sign of) fs)
sign_last of [] h = absurd h
sign_last of (f ∷ fs) (e, is) = (of e, rw is refl)

close_last : (d : ℕ) (fs : List Frame) → length fs ≡ suc (suc d) → HasLast fs → HasLast (close_first fs)
close_last d [] e h = absurd h
close_last d (f ∷ []) e h = absurd (omega (arith, e))
close_last d (f ∷ g ∷ fs) e h = some_closed f h

-- a token keeps the count
pub counted_step : {due now : Due} {k : Kind} {d e : ℕ} → Moves due k d now e → (t : Lexeme) (b : Built) → Counted due d b.frames
    → Counted now e (act due k t b).frames
counted_step first_line t b h = h
counted_step line_name t b h = h
counted_step line_names t b h = h
counted_step line_end t b h = h
counted_step next_line t b h = h
counted_step first_symbol t b h = h
counted_step symbol_name t b h = h
counted_step symbol_equals t b h = h
counted_step symbol_pattern t b h = h
counted_step symbol_end t b h = h
counted_step next_symbol t b h = h
counted_step first_output t b h = h
counted_step output_name t b h = h
counted_step output_names t b h = h
counted_step output_end t b h = h
counted_step next_output t b h = h
counted_step first_expr t b h = refl
counted_step {d = d} part_name t b h = (length-on_first (with_part (Some (leaf t))) b.frames ∙ h, leaf_last d t b.frames h)
counted_step part_open t b h = ap suc h
counted_step {d = d} rest_name t b (h, last) = (length-on_first (with_part (Some (leaf t))) b.frames ∙ h, leaf_last d t b.frames h)
counted_step rest_open t b (h, last) = ap suc h
counted_step {e = e} rest_close t b (h, last) = (length-close_first b.frames e h, close_last e b.frames h last)
counted_step rest_bar t b (h, last) = length-on_first with_bar b.frames ∙ h
counted_step rest_star t b (h, last) = (length-on_first (with_sign star) b.frames ∙ h, sign_last star b.frames last)
counted_step rest_plus t b (h, last) = (length-on_first (with_sign plus) b.frames ∙ h, sign_last plus b.frames last)
counted_step rest_question t b (h, last) = (length-on_first (with_sign optional) b.frames ∙ h, sign_last optional b.frames last)
counted_step rest_mark t b h = h
counted_step rest_end t b h = refl
counted_step mark_name t b (h, last) =
    let of : Tree → Tree = λ e. marked e t in
    (length-on_first (with_sign of) b.frames ∙ h, sign_last of b.frames last)
counted_step next_expr t b h = refl
counted_step pattern_bits t b h = h
counted_step first_scan t b h = refl
counted_step next_scan t b h = refl
counted_step part_class t b h = (ap suc h, refl)
counted_step rest_class t b (h, last) = (ap suc h, refl)
counted_step {d = d} class_name t b (h, some) = (length-on_first (with_part (Some (leaf t))) b.frames ∙ h, leaf_last d t b.frames h, some)
counted_step class_names t b (h, last, some) = (length-on_first (with_name t) b.frames ∙ h, name_last t b.frames last, some)
counted_step {d = d} class_close t b (h, last, some) =
    let more : length b.frames ≡ suc (suc (pred d)) = h ∙ ap suc some in
    (length-close_first b.frames (pred d) more, close_last (pred d) b.frames more last)
counted_step rest_brace t b h = h
counted_step least_bits t b h = h
counted_step least_number t b h = h
counted_step bounds_comma t b h = h
counted_step most_bits t b h = h
counted_step most_number t b h = h
counted_step bounds_end t b (h, last) =
    let of : Tree → Tree = λ e. counted e b.least b.most t in
    (length-on_first (with_sign of) b.frames ∙ h, sign_last of b.frames last)
