-- The next sentence, or the code that stands there.
use Rattle.std.proofs.Common.{◌≡◌, ◌≢◌, ◌⊎◌, inl, inr, ℕ, zero, suc, ◌+◌, ◌-◌, ◌≤◌, ◌<◌, ◌==◌, Bool, true, false, cond, ◌&&◌, ◌||◌, List, [], ◌∷◌, ◌++◌, length, take, drop, get_or, Option, Some, None, Result, Ok, Err, IfOk, IfErr, codes, refl, sym, ◌∙◌, ap, subst, append_assoc, arith}
use Rattle.std.specs.List.{list_all, take_while}
use Rattle.std.proofs.lemmas.List.{append-nil, take-append-drop, drop-drop, take_all, take_at, drop_at, length-take-le, length-drop, length-append, drop_all, drop_more}
use Rattle.std.proofs.lemmas.List.Sums.{take_while-cons}
use Rattle.std.proofs.lemmas.Bool.Decides.{nat_tests}
use Rattle.geom.specs.declared.cif_code.CifCode.TheVariants.{C1, C9, C10}
use Rattle.geom.specs.CifCommands.{AreCifBlanks, is_cif_blank, CifCommand, SpellsCommand}
use Rattle.geom.specs.CifDrawings.{CifState}
use Rattle.geom.specs.CifRefusals.{IsSentence, BreaksCommand, CutsCommand, CommandHere, CommandFault}
use Rattle.cif_syntax.specs.declared.next.Sentence.{Sentence}
use Rattle.cif_syntax.specs.declared.next.Sentence.TheVariants.{Command, End}
use Rattle.cif_syntax.specs.declared.next.SyntaxFault.{SyntaxFault}
use Rattle.cif_syntax.specs.Ends.{between, EndsAt, BreaksAt}
use Rattle.cif_syntax.specs.Sentences.{NoBlank, IsCommandAt, IsEndAt, Stands, StandsSyntax, stands_first, is_outside, sorted}
use Rattle.cif_syntax.proofs.Bytes.{at}
use Rattle.cif_syntax.proofs.Alongs.{all_first}
use Rattle.cif_syntax.proofs.Reading.{blanks_push}
use Rattle.cif_syntax.proofs.Following.{rest_between, between_push, nothing_between}

-- blanks up to a place at which none stands
pub record Gap (text : List ℕ) (from first : ℕ) : Type 0 where
  pub order : from ≤ first
  pub within : first ≤ length text
  pub blanks : AreCifBlanks (between text from first)
  pub stop : NoBlank (drop first text)

take_blanks : (gap rest : List ℕ) → AreCifBlanks gap → NoBlank rest → take_while is_cif_blank (gap ++ rest) ≡ gap
take_blanks [] [] h n = refl
take_blanks [] (b ∷ bs) h n = take_while-cons is_cif_blank b bs ∙ ap (λ (v : Bool). cond v (b ∷ take_while is_cif_blank bs) []) n
take_blanks (g ∷ gs) rest h n =
    let f = all_first is_cif_blank g gs h in
    take_while-cons is_cif_blank g (gs ++ rest)
    ∙ (ap (λ (v : Bool). cond v (g ∷ take_while is_cif_blank (gs ++ rest)) []) f.0 ∙ ap (λ (l : List ℕ). g ∷ l) (take_blanks gs rest f.1 n))

gap_taken : (text : List ℕ) (from first : ℕ) → Gap text from first → between text from first ≡ take_while is_cif_blank (drop from text)
gap_taken text from first g =
    sym (take_blanks (between text from first) (drop first text) g.blanks g.stop) ∙ ap (take_while is_cif_blank) (rest_between text from first g.order)

-- the front of a text up to a place, in two parts
front_between : (text : List ℕ) (from at : ℕ) → from ≤ at → at ≤ length text → take from text ++ between text from at ≡ take at text
front_between text from at o w =
    let f : take from text ++ drop from text ≡ text = take-append-drop from text in
    let r : between text from at ++ drop at text ≡ drop from text = rest_between text from at o in
    let whole : (take from text ++ between text from at) ++ drop at text ≡ text =
    append_assoc (take from text) (between text from at) (drop at text) ∙ (ap (λ (l : List ℕ). take from text ++ l) r ∙ f) in
    let l : length (take from text) ≡ from = length-take-le from text (omega arith) in
    let k : length (between text from at) ≡ at - from = length-take-le (at - from) (drop from text) (omega (arith, length-drop from text)) in
    let n : length (take from text ++ between text from at) ≡ at = length-append (take from text) (between text from at) ∙ omega (arith, l, k) in
    sym (take_at (take from text ++ between text from at) (drop at text) at n) ∙ ap (take at) whole

-- what stands first
first_is : (byte : ℕ) (l : List ℕ) → stands_first byte l ≡ true → (rest : List ℕ) × (l ≡ byte ∷ rest)
first_is byte [] h = absurd cc
first_is byte (b ∷ bs) h = (bs, ap (λ (v : ℕ). v ∷ bs) (at b byte h))

rest_first : (text : List ℕ) (first byte : ℕ) (rest : List ℕ) → drop first text ≡ byte ∷ rest → drop (first + 1) text ≡ rest
rest_first text first byte rest e = sym (drop-drop 1 first text) ∙ ap (drop 1) e

-- what is left of a text is not empty
some_left : (text : List ℕ) (first byte : ℕ) (rest : List ℕ) → drop first text ≡ byte ∷ rest → first < length text
some_left text first byte rest e =
    let l : length (drop first text) ≡ suc (length rest) = ap length e in omega (arith, l, length-drop first text)

-- ---- the cases of a sentence

end_at : (text : List ℕ) (from first : ℕ) → Gap text from first → stands_first 69 (drop first text) ≡ true → IsEndAt text from first
end_at text from first g h =
    let f = first_is 69 (drop first text) h in
    let r = rest_first text first 69 f.0 f.1 in
    record {
      blanks = g.blanks;
      is =
          sym (rest_between text from first g.order)
          ∙ (ap (λ (l : List ℕ). between text from first ++ l) (f.1 ∙ ap (λ (l : List ℕ). 69 ∷ l) (sym r))
          ∙ sym (append_assoc (between text from first) (codes "E") (drop (first + 1) text)));
      within = some_left text first 69 f.0 f.1;
    }

outside_fault : (text : List ℕ) (from first : ℕ) (word behind : List ℕ) → Gap text from first → (word ≡ codes "R") ⊎ (word ≡ codes "DD") → drop first text ≡ word ++ behind
    → StandsSyntax text from C9 first
outside_fault text from first word behind g k e = λ s.
    let P : List ℕ → Type 0 = λ l. CommandFault s (take from text) (drop from text) C9 l in
    let is : drop from text ≡ between text from first ++ word ++ behind =
    sym (rest_between text from first g.order) ∙ (ap (λ (l : List ℕ). between text from first ++ l) e ∙ sym (append_assoc (between text from first) word behind)) in
    subst P (front_between text from first g.order g.within) (CommandFault.outside (between text from first) word behind is g.blanks k)

outside_at : (text : List ℕ) (from first : ℕ) → Gap text from first → is_outside text first ≡ true → StandsSyntax text from C9 first
outside_at text from first g h = by (stands_first 82 (drop first text)) refl (stands_first 68 (drop first text)) refl (stands_first 68 (drop (first + 1) text)) refl h
  where
    by : (a : Bool) → stands_first 82 (drop first text) ≡ a → (b : Bool) → stands_first 68 (drop first text) ≡ b → (c : Bool)
        → stands_first 68 (drop (first + 1) text) ≡ c → (a || b && c) ≡ true → StandsSyntax text from C9 first
    by true e b f c i h = let k = first_is 82 (drop first text) e in outside_fault text from first (codes "R") k.0 g (inl refl) k.1
    by false e true f true i h =
        let k = first_is 68 (drop first text) f in
        let l = first_is 68 (drop (first + 1) text) i in
        outside_fault text from first (codes "DD") l.0 g (inr refl) (k.1 ∙ ap (λ (r : List ℕ). 68 ∷ r) (sym (rest_first text first 68 k.0 k.1) ∙ l.1))
    by false e true f false i h = absurd cc
    by false e false f c i h = absurd cc

first_stands : (byte : ℕ) (l rest : List ℕ) → l ≡ byte ∷ rest → stands_first byte l ≡ true
first_stands byte l rest e = ap (stands_first byte) e ∙ same byte
  where
    same : (n : ℕ) → (n == n) ≡ true
    same n = grind (arith, nat_tests)

command_at : (text : List ℕ) (from first end : ℕ) → Gap text from first → EndsAt text first end → stands_first 69 (drop first text) ≡ false
    → is_outside text first ≡ false → IsCommandAt text from first end
command_at text from first end g s e o = by s.sentence
  where
    whole : between text first end ++ drop end text ≡ drop first text
    whole = rest_between text first end s.order

    here : (bytes rest : List ℕ) → between text first end ≡ bytes → bytes ++ drop end text ≡ drop first text
    here bytes rest f = ap (λ (l : List ℕ). l ++ drop end text) (sym f) ∙ whole

    longer : (bytes : List ℕ) → between text first end ≡ bytes ++ codes ";" → first < end
    longer bytes f =
        let l : length (between text first end) ≡ length bytes + 1 = ap length f ∙ length-append bytes (codes ";") in
        let k : length (between text first end) ≡ end - first = length-take-le (end - first) (drop first text) (omega (arith, length-drop first text, s.within)) in
        omega (arith, l, k)

    by : IsSentence (between text first end) → IsCommandAt text from first end
    by (IsSentence.command _ spelled c f k) = record {
      here = record {
        gap = between text from first;
        bytes = spelled;
        behind = drop end text;
        is =
            sym (rest_between text from first g.order)
            ∙ (ap (λ (l : List ℕ). between text from first ++ l) (sym (here (spelled ++ codes ";") [] f) ∙ append_assoc spelled (codes ";") (drop end text))
            ∙ sym (append_assoc (between text from first) spelled (59 ∷ drop end text)));
        blanks = g.blanks;
        command = c;
        spelled = k;
      };
      gap_is = refl;
      bytes_are = sym f;
      behind_is = refl;
      order = longer spelled f;
      within = s.within;
    }
    by (IsSentence.end _ f) =
        absurd (let z : true ≡ false = sym (first_stands 69 (drop first text) (drop end text) (sym (here (codes "E") [] f))) ∙ e in cc)
    by (IsSentence.outside _ (inl f)) =
        let r : stands_first 82 (drop first text) ≡ true = first_stands 82 (drop first text) (drop end text) (sym (here (codes "R") [] f)) in
        absurd (let z : true ≡ false = sym (ap (λ (v : Bool). v || stands_first 68 (drop first text) && stands_first 68 (drop (first + 1) text)) r) ∙ o in cc)
    by (IsSentence.outside _ (inr f)) =
        let d : drop first text ≡ 68 ∷ 68 ∷ drop end text = sym (here (codes "DD") [] f) in
        let a : stands_first 68 (drop first text) ≡ true = first_stands 68 (drop first text) (68 ∷ drop end text) d in
        let b : stands_first 68 (drop (first + 1) text) ≡ true =
        first_stands 68 (drop (first + 1) text) (drop end text) (rest_first text first 68 (68 ∷ drop end text) d) in
        absurd (no_such (stands_first 82 (drop first text)) (stands_first 68 (drop first text)) (stands_first 68 (drop (first + 1) text)) a b o)
      where
        no_such : (u v w : Bool) → v ≡ true → w ≡ true → (u || v && w) ≡ false → ⊥
        no_such true v w a b o = cc
        no_such false true true a b o = cc
        no_such false true false a b o = cc
        no_such false false w a b o = cc

-- a sentence is what it is sorted as
pub sorted_stands : (text : List ℕ) (from first end : ℕ) → Gap text from first → EndsAt text first end
    → IfOk (sorted text first end) (λ sentence. Stands text from sentence) × IfErr (sorted text first end) (λ fault. StandsSyntax text from fault.code fault.at)
sorted_stands text from first end g s = by (stands_first 69 (drop first text)) refl (is_outside text first) refl
  where
    by : (t : Bool) → stands_first 69 (drop first text) ≡ t → (u : Bool) → is_outside text first ≡ u
        → IfOk (sorted text first end) (λ sentence. Stands text from sentence) × IfErr (sorted text first end) (λ fault. StandsSyntax text from fault.code fault.at)
    by true e u f =
        let P : Bool → Type 0 =
        λ v. let r : Result Sentence SyntaxFault = cond v (Ok (End first)) (cond (is_outside text first) (Err (record { code = C9; at = first })) (Ok (Command first end))) in
        IfOk r (λ sentence. Stands text from sentence) × IfErr r (λ fault. StandsSyntax text from fault.code fault.at) in
        subst P (sym e) (end_at text from first g e, tt)
    by false e true f =
        let P : Bool → Bool → Type 0 =
        λ v w. let r : Result Sentence SyntaxFault = cond v (Ok (End first)) (cond w (Err (record { code = C9; at = first })) (Ok (Command first end))) in
        IfOk r (λ sentence. Stands text from sentence) × IfErr r (λ fault. StandsSyntax text from fault.code fault.at) in
        subst (λ (v : Bool). P v (is_outside text first)) (sym e) (subst (λ (w : Bool). P false w) (sym f) (tt, outside_at text from first g f))
    by false e false f =
        let P : Bool → Bool → Type 0 =
        λ v w. let r : Result Sentence SyntaxFault = cond v (Ok (End first)) (cond w (Err (record { code = C9; at = first })) (Ok (Command first end))) in
        IfOk r (λ sentence. Stands text from sentence) × IfErr r (λ fault. StandsSyntax text from fault.code fault.at) in
        subst (λ (v : Bool). P v (is_outside text first)) (sym e) (subst (λ (w : Bool). P false w) (sym f) (command_at text from first end g s e f, tt))

-- ---- breaks and cuts

pub breaks_at : (text : List ℕ) (from first place : ℕ) → Gap text from first → BreaksAt text first place → place < length text → StandsSyntax text from C1 place
breaks_at text from first place g b w = λ s. by s b.how
  where
    by : (s : CifState) → ((place < length text) × BreaksCommand (between text first place) (drop place text)) ⊎ ((place ≡ length text) × CutsCommand (drop first text))
        → CommandFault s (take from text) (drop from text) C1 (take place text)
    by s (inr (e, c)) = absurd (omega (arith, e, w))
    by s (inl (v, c)) =
        let gap : List ℕ = between text from first in
        let before : List ℕ = between text first place in
        let is : drop from text ≡ gap ++ before ++ drop place text =
        sym (rest_between text from first g.order)
        ∙ (ap (λ (l : List ℕ). gap ++ l) (sym (rest_between text first place b.order)) ∙ sym (append_assoc gap before (drop place text))) in
        let e : take from text ++ gap ++ before ≡ take place text =
        ap (λ (l : List ℕ). l ++ before) (front_between text from first g.order g.within) ∙ front_between text first place b.order b.within in
        let P : List ℕ → Type 0 = λ l. CommandFault s (take from text) (drop from text) C1 l in
        subst P e (CommandFault.breaks gap before (drop place text) is (gap_taken text from first g) c)

pub cuts_at : (text : List ℕ) (from first place : ℕ) → Gap text from first → BreaksAt text first place → length text ≤ place → StandsSyntax text from C10 place
cuts_at text from first place g b w = λ s. by s b.how
  where
    by : (s : CifState) → ((place < length text) × BreaksCommand (between text first place) (drop place text)) ⊎ ((place ≡ length text) × CutsCommand (drop first text))
        → CommandFault s (take from text) (drop from text) C10 (take place text)
    by s (inl (v, c)) = absurd (omega (arith, v, w))
    by s (inr (e, c)) =
        let P : List ℕ → Type 0 = λ l. CommandFault s (take from text) (drop from text) C10 l in
        subst P (take-append-drop from text ∙ sym (take_all place text w))
        (CommandFault.cuts (between text from first) (drop first text) (sym (rest_between text from first g.order)) (gap_taken text from first g) c)

-- ---- blanks one after another

pub record Skipped (text : List ℕ) (from place : ℕ) : Type 0 where
  pub order : from ≤ place
  pub within : place ≤ length text
  pub blanks : AreCifBlanks (between text from place)

pub skip_start : (text : List ℕ) (from : ℕ) → from ≤ length text → Skipped text from from
skip_start text from w = record { order = omega arith; within = w; blanks = ap (list_all is_cif_blank) (nothing_between text from) }

pub skip_more : (text : List ℕ) (from place : ℕ) → place < length text → is_cif_blank (get_or text place 0) ≡ true → Skipped text from place
    → Skipped text from (place + 1)
skip_more text from place w b s = record {
  order = omega (arith, s.order);
  within = omega arith;
  blanks = ap (list_all is_cif_blank) (between_push text from place s.order w) ∙ blanks_push (between text from place) (get_or text place 0) s.blanks b;
}

pub skip_stop : (text : List ℕ) (place : ℕ) → (length text ≤ place) ⊎ ((place < length text) × (is_cif_blank (get_or text place 0) ≡ false)) → NoBlank (drop place text)
skip_stop text place (inl past) = let P : List ℕ → Type 0 = λ l. NoBlank l in subst P (sym (drop_all place text past)) tt
skip_stop text place (inr (w, b)) = let P : List ℕ → Type 0 = λ l. NoBlank l in subst P (sym (drop_more text place 0 w)) b
