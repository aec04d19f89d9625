-- Names of layers behind `L`.
use Rattle.std.proofs.Common.{◌≡◌, ℕ, ◌+◌, ◌-◌, ◌<◌, Bool, true, false, cond, ◌&&◌, List, [], ◌∷◌, ◌++◌, length, take, drop, codes, refl, sym, ◌∙◌, ap, subst, append_assoc, arith}
use Rattle.std.specs.List.{list_all, prefix_len}
use Rattle.std.proofs.lemmas.Bool.Decides.{nat_tests}
use Rattle.std.proofs.lemmas.List.{append-nil, take-append-drop, drop-drop, drop_at, take_at}
use Rattle.geom.specs.CifCommands.{CifCommand, SetsLayer, Letters, SpellsParts, SpellsCommand, IsShortName, is_cif_blank}
use Rattle.cif_syntax.specs.Ends.{between}
use Rattle.cif_syntax.specs.Sentences.{IsCommandAt}
use Rattle.cif_values.specs.Runs.{behind_blanks}
use Rattle.cif_kinds.specs.Names.{is_name_byte}

-- the first byte, if there is one, fails the test
abbrev Fails : (ℕ → Bool) → List ℕ → Type 0
Fails p [] = Unit {0}
Fails p (b ∷ bs) = p b ≡ false

first_two : (a b : Bool) → (a && b) ≡ true → (a ≡ true) × (b ≡ true)
first_two true b e = (refl, e)
first_two false b e = absurd cc

-- a run ends before a byte that fails
run_exact : (p : ℕ → Bool) (word rest : List ℕ) → list_all p word ≡ true → Fails p rest → prefix_len p (word ++ rest) ≡ length word
run_exact p [] [] h f = refl
run_exact p [] (b ∷ bs) h f = ap (λ (v : Bool). cond v (1 + prefix_len p bs) 0) f
run_exact p (w ∷ ws) rest h f =
    let a = first_two (p w) (list_all p ws) h in
    let r : prefix_len p (ws ++ rest) ≡ length ws = run_exact p ws rest a.1 f in
    ap (λ (v : Bool). cond v (1 + prefix_len p (ws ++ rest)) 0) a.0 ∙ omega (arith, r)

name_no_blank : (b : ℕ) → is_name_byte b ≡ true → is_cif_blank b ≡ false
name_no_blank b h = grind (arith, nat_tests)

blank_no_name : (b : ℕ) → is_cif_blank b ≡ true → is_name_byte b ≡ false
blank_no_name b h = by (is_name_byte b) refl
  where
    by : (t : Bool) → is_name_byte b ≡ t → t ≡ false
    by true e = let z : false ≡ true = sym (name_no_blank b e) ∙ h in absurd cc
    by false e = refl

-- no blank begins a name, and no byte of a name stands behind it
name_begins : (name more : List ℕ) → IsShortName name → Fails is_cif_blank (name ++ more)
name_begins [] more h = absurd (h.some refl)
name_begins (b ∷ bs) more h = name_no_blank b (first_two (is_name_byte b) (list_all is_name_byte bs) h.bytes).0

blanks_begin : (gap more : List ℕ) → list_all is_cif_blank gap ≡ true → Fails is_name_byte (gap ++ 59 ∷ more)
blanks_begin [] more h = refl
blanks_begin (b ∷ bs) more h = blank_no_name b (first_two (is_cif_blank b) (list_all is_cif_blank bs) h).0

-- where the name stands
pub record NameAt (text : List ℕ) (first : ℕ) (name : List ℕ) : Type 0 where
  pub from : ℕ
  pub from_is : behind_blanks text (first + 1) ≡ from
  pub name_is : take (prefix_len is_name_byte (drop from text)) (drop from text) ≡ name

spelled_at : (text : List ℕ) (first end : ℕ) (bytes name : List ℕ) → first < end → bytes ++ codes ";" ≡ between text first end → IsShortName name
    → SpellsParts (Letters (codes "L") ∷ Letters name ∷ []) bytes → NameAt text first name
spelled_at text first end bytes name o e short p =
    let tail : List ℕ = drop end text in
    let word : p.word ≡ 76 ∷ [] = p.spelled in
    let more = p.more in
    let from : ℕ = first + 1 + length p.gap in
    let f : first + (end - first) ≡ end = omega (arith, o) in
    let split : drop first text ≡ between text first end ++ tail =
    sym (take-append-drop (end - first) (drop first text))
    ∙ ap (λ (l : List ℕ). between text first end ++ l) (drop-drop (end - first) first text ∙ ap (λ (i : ℕ). drop i text) f) in
    let rest_is : p.rest ≡ name ++ more.gap =
    more.is ∙ (append_assoc more.word more.gap more.rest ∙ (ap (λ (l : List ℕ). l ++ (more.gap ++ more.rest)) more.spelled
    ∙ (ap (λ (l : List ℕ). name ++ (more.gap ++ l)) more.more ∙ ap (λ (l : List ℕ). name ++ l) (append-nil more.gap)))) in
    let bytes_is : bytes ≡ 76 ∷ (p.gap ++ (name ++ more.gap)) =
    p.is ∙ (append_assoc p.word p.gap p.rest ∙ (ap (λ (l : List ℕ). l ++ (p.gap ++ p.rest)) word ∙ ap (λ (l : List ℕ). 76 ∷ (p.gap ++ l)) rest_is)) in
    let there : drop first text ≡ 76 ∷ (p.gap ++ (name ++ (more.gap ++ 59 ∷ tail))) =
    split
    ∙ (ap (λ (l : List ℕ). l ++ tail) (sym e)
    ∙ (append_assoc bytes (codes ";") tail
    ∙ (ap (λ (l : List ℕ). l ++ 59 ∷ tail) bytes_is
    ∙ ap (λ (l : List ℕ). 76 ∷ l) (append_assoc p.gap (name ++ more.gap) (59 ∷ tail) ∙ ap (λ (l : List ℕ). p.gap ++ l) (append_assoc name more.gap (59 ∷ tail)))))) in
    let second : drop (first + 1) text ≡ p.gap ++ (name ++ (more.gap ++ 59 ∷ tail)) = sym (drop-drop 1 first text) ∙ ap (drop 1) there in
    let blanks : prefix_len is_cif_blank (drop (first + 1) text) ≡ length p.gap =
    ap (prefix_len is_cif_blank) second
    ∙ run_exact is_cif_blank p.gap (name ++ (more.gap ++ 59 ∷ tail)) p.blanks (name_begins name (more.gap ++ 59 ∷ tail) short) in
    let third : drop from text ≡ name ++ (more.gap ++ 59 ∷ tail) =
    sym (drop-drop (length p.gap) (first + 1) text) ∙ (ap (drop (length p.gap)) second ∙ drop_at p.gap (name ++ (more.gap ++ 59 ∷ tail)) (length p.gap) refl) in
    let run : prefix_len is_name_byte (drop from text) ≡ length name =
    ap (prefix_len is_name_byte) third ∙ run_exact is_name_byte name (more.gap ++ 59 ∷ tail) short.bytes (blanks_begin more.gap tail more.blanks) in
    record {
      from = from;
      from_is = ap (λ (k : ℕ). first + 1 + k) blanks;
      name_is = ap (λ (k : ℕ). take k (drop from text)) run ∙ (ap (take (length name)) third ∙ take_at name (more.gap ++ 59 ∷ tail) (length name) refl);
    }

pub name_at : (text : List ℕ) (from first end : ℕ) (h : IsCommandAt text from first end) (name : List ℕ) → h.here.command ≡ SetsLayer name → NameAt text first name
name_at text from first end h name e =
    let P : CifCommand → Type 0 = λ c. SpellsCommand c h.here.bytes in
    let s = subst P e h.here.spelled in
    spelled_at text first end h.here.bytes name h.order h.bytes_are s.0 s.1

-- the bytes from where the name begins up to where it ends
pub name_there : (text : List ℕ) (first from to : ℕ) (name : List ℕ) → NameAt text first name → from ≡ behind_blanks text (first + 1)
    → to ≡ from + prefix_len is_name_byte (drop from text) → take (to - from) (drop from text) ≡ name
name_there text first from to name n e f =
    let g : from ≡ n.from = e ∙ n.from_is in
    let k : to - from ≡ prefix_len is_name_byte (drop from text) = omega (arith, f) in
    ap (λ (j : ℕ). take j (drop from text)) k ∙ (ap (λ (i : ℕ). take (prefix_len is_name_byte (drop i text)) (drop i text)) g ∙ n.name_is)
