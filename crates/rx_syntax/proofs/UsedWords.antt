-- A word that is used so is the use of its token.
use Rattle.std.proofs.Common.{◌≡◌, ℕ, zero, suc, Bool, true, false, ◌+◌, ◌-◌, ◌*◌, ◌≤◌, Some, None, List, [], ◌∷◌, map, refl, ap, sym, ◌∙◌, subst, arith}
use Rattle.std.specs.Prelude.{Option, nat_le, ◌&&◌, if◌then◌else◌, ⊤}
use Rattle.std.specs.Str.Parse.{digits_value}
use Rattle.std.proofs.lemmas.List.{map-append}
use Rattle.rx_syntax.specs.Lexemes.{Lexeme, word_of}
use Rattle.rx_syntax.specs.Uses.{Use, Declared, number_of, use_token}
use Rattle.rx_syntax.specs.WordUses.{WordUse, by_word, behind_word}
use Rattle.rx_syntax.specs.UsesRead.{Counts, part_leaves, repeated_leaves, closed_at, counts_behind, use_by, use_over, counts_over, listed}
use Rattle.rx_syntax.specs.Accepted.{place_bit}
use Rattle.rx_syntax.specs.NameReading.{word_by}
use Rattle.rx_syntax.specs.NameSteps.{declared_in, word_code_of, code_at, read_at, code_over, read_over}
use Rattle.rx_syntax.specs.declared.naming.Reading.{Reading}
use Rattle.rx_syntax.specs.declared.spec_code.SpecCode.TheVariants.{S13, S15}
use Rattle.rx_syntax.specs.declared.use_kind.UseKind.{UseKind}
use Rattle.rx_syntax.specs.declared.use_kind.UseKind.TheVariants.{Line, Symbol, Pattern, Output, Leaf, FurtherLeaf, Mark, Open, Close, Least, Most, Copies}
use Rattle.rx_syntax.proofs.LastPattern.{names_with_pattern}
use Rattle.rx_syntax.proofs.NamesRead.{code_on, behind_on}
use Rattle.rx_syntax.proofs.TablesSaid.{tables_along}
use Rattle.rx_syntax.proofs.TakenWords.{passed, at_most}
use Rattle.rx_syntax.proofs.ByWord.{same_code, same_behind}

-- what was counted, with the value of the number
abbrev pub numbers : List ℕ → Counts Lexeme → Counts ℕ
numbers text c =
    record { leaves = c.leaves; before_part = c.before_part; opened = c.opened; least = number_of text c.least; most = c.most }

-- all of the counts are at most this one
abbrev AtMost : ℕ → List ℕ → Type 0
AtMost n [] = ⊤
AtMost n (m ∷ ms) = (m ≤ n) × AtMost n ms

-- Counts of a place before are at most that of this one, and no repeat stands no times.
pub record AreCounts (c : Counts ℕ) : Type 0 where
  pub some_copies : 1 ≤ c.most
  pub part : c.before_part ≤ c.leaves
  pub opened : AtMost c.leaves c.opened

more_at_most : (m n : ℕ) (xs : List ℕ) → m ≤ n → AtMost m xs → AtMost n xs
more_at_most m n [] le h = tt
more_at_most m n (x ∷ xs) le (first, h) = (omega (arith, first, le), more_at_most m n xs le h)

-- copies add to the symbols
repeated_more : (leaves before most : ℕ) → 1 ≤ most → before ≤ leaves → before + most * (leaves - before) ≡ leaves + (most - 1) * (leaves - before)
repeated_more leaves before zero some le = absurd (omega (arith, some))
repeated_more leaves before (suc n) some le =
    let part = leaves - before in
    let all : part + before ≡ leaves = omega (arith, le) in
    let one : suc n - 1 ≡ n = omega arith in
    let product : suc n * part ≡ part + n * part = grind arith in
    rw (one, product) (omega (arith, all))

repeated_is : (c : Counts ℕ) → AreCounts c → repeated_leaves c ≡ c.leaves + (c.most - 1) * part_leaves c
repeated_is c h = repeated_more c.leaves c.before_part c.most h.some_copies h.part

mid_true : (a b c : Bool) → (a && b && c) ≡ true → b ≡ true
mid_true true true c e = refl
mid_true true false c e = absurd cc
mid_true false b c e = absurd cc

close_counts : (c : Counts ℕ) (opened : List ℕ) → c.opened ≡ opened → AreCounts c → AreCounts (closed_at opened c)
close_counts c [] e h = h
close_counts c (n ∷ ns) e h =
    let all : AtMost c.leaves (n ∷ ns) = subst (AtMost c.leaves) e h.opened in
    record { some_copies = h.some_copies; part = all.0; opened = all.1 }

-- behind a word at which no code stands
counts_kept : (limit : ℕ) (read : Reading) (used : UseKind) (word : List ℕ) → code_at limit read used word ≡ None → AreCounts read.tally
    → AreCounts (read_at read used word).tally
counts_kept limit read Line word none h = h
counts_kept limit read Symbol word none h = h
counts_kept limit read Pattern word none h = h
counts_kept limit read Output word none h = h
counts_kept limit read Leaf word none h = record {
  some_copies = h.some_copies;
  part = omega arith;
  opened = more_at_most read.tally.leaves (suc read.tally.leaves) read.tally.opened (omega arith) h.opened;
}
counts_kept limit read FurtherLeaf word none h = record {
  some_copies = h.some_copies;
  part = omega (arith, h.part);
  opened = more_at_most read.tally.leaves (suc read.tally.leaves) read.tally.opened (omega arith) h.opened;
}
counts_kept limit read Mark word none h = h
counts_kept limit read Open word none h = record { some_copies = h.some_copies; part = h.part; opened = (omega arith, h.opened) }
counts_kept limit read Close word none h = close_counts read.tally read.tally.opened refl h
counts_kept limit read Least word none h = record { some_copies = h.some_copies; part = h.part; opened = h.opened }
counts_kept limit read Most word none h =
    let n = digits_value 10 word in
    let all = passed (nat_le n 255 && nat_le 1 n && nat_le read.tally.least n) S15 (sym none) in
    record {
      some_copies = at_most 1 n (mid_true (nat_le n 255) (nat_le 1 n) (nat_le read.tally.least n) all);
      part = h.part;
      opened = h.opened;
    }
counts_kept limit read Copies word none h =
    let c = read.tally in
    let more = repeated_is c h in
    let grows : c.leaves ≤ repeated_leaves c = omega (arith, more) in
    record { some_copies = h.some_copies; part = omega (arith, h.part, grows); opened = more_at_most c.leaves (repeated_leaves c) c.opened grows h.opened }

-- the code and what is declared, by the word

code_is : (limit : ℕ) (read : Reading) (used : UseKind) (word : List ℕ) → AreCounts read.tally
    → code_at limit read used word ≡ word_code_of limit (declared_in read) (word_by read.tally used word)
code_is limit read Line word h = refl
code_is limit read Symbol word h = refl
code_is limit read Pattern word h = refl
code_is limit read Output word h = refl
code_is limit read Leaf word h = refl
code_is limit read FurtherLeaf word h = refl
code_is limit read Mark word h = refl
code_is limit read Open word h = refl
code_is limit read Close word h = refl
code_is limit read Least word h = refl
code_is limit read Most word h = refl
code_is limit read Copies word h = ap (λ n. if nat_le n limit then None else Some S13) (repeated_is read.tally h)

abbrev behind_of : Declared → Option WordUse → Declared
behind_of before None = before
behind_of before (Some u) = behind_word before u

close_leaves : (c : Counts ℕ) (opened : List ℕ) → (closed_at opened c).leaves ≡ c.leaves
close_leaves c [] = refl
close_leaves c (n ∷ ns) = refl

declared_is : (read : Reading) (used : UseKind) (word : List ℕ) → AreCounts read.tally
    → declared_in (read_at read used word) ≡ behind_of (declared_in read) (word_by read.tally used word)
declared_is read Line word h = refl
declared_is read Symbol word h =
    ap (λ names. record (declared_in read) { symbols = names })
    (map-append (λ s. s.name) read.declarations.symbols (record { name = word; pattern = [] } ∷ []))
declared_is read Pattern word h =
    ap (λ names. record (declared_in read) { symbols = names }) (names_with_pattern (map place_bit word) read.declarations.symbols)
declared_is read Output word h = refl
declared_is read Leaf word h = refl
declared_is read FurtherLeaf word h = refl
declared_is read Mark word h = refl
declared_is read Open word h = refl
declared_is read Close word h = ap (λ n. record (declared_in read) { leaves = n }) (close_leaves read.tally read.tally.opened)
declared_is read Least word h = refl
declared_is read Most word h = refl
declared_is read Copies word h = ap (λ n. record (declared_in read) { leaves = n }) (repeated_is read.tally h)

-- the use of a token, by its word

abbrev word_of_use : List ℕ → Option Use → Option WordUse
word_of_use text None = None
word_of_use text (Some u) = Some (by_word text u)

same_word : (text : List ℕ) (c : Counts Lexeme) (used : UseKind) (t : Lexeme)
    → word_of_use text (use_by text c used t) ≡ word_by (numbers text c) used (word_of text t)
same_word text c Line t = refl
same_word text c Symbol t = refl
same_word text c Pattern t = refl
same_word text c Output t = refl
same_word text c Leaf t = refl
same_word text c FurtherLeaf t = refl
same_word text c Mark t = refl
same_word text c Open t = refl
same_word text c Close t = refl
same_word text c Least t = refl
same_word text c Most t = refl
same_word text c Copies t = refl

code_of_use : (text : List ℕ) (limit : ℕ) (names : Declared) (o : Option Use)
    → word_code_of limit names (word_of_use text o) ≡ code_on text limit names o
code_of_use text limit names None = refl
code_of_use text limit names (Some u) = sym (same_code text limit names u)

behind_of_use : (text : List ℕ) (names : Declared) (o : Option Use) → behind_of names (word_of_use text o) ≡ behind_on text names o
behind_of_use text names None = refl
behind_of_use text names (Some u) = sym (same_behind text names u)

module _ (text : List ℕ) (limit : ℕ) (read : Reading) (c : Counts Lexeme) (tally : read.tally ≡ numbers text c) (counts : AreCounts read.tally)
    (t : Lexeme) where
  by_tally : (used : UseKind) → word_by read.tally used (word_of text t) ≡ word_of_use text (use_by text c used t)
  by_tally used = ap (λ n. word_by n used (word_of text t)) tally ∙ sym (same_word text c used t)

  pub code_used : (used : Option UseKind) → code_over limit read used (word_of text t) ≡ code_on text limit (declared_in read) (use_over text c used t)
  code_used None = refl
  code_used (Some used) =
      code_is limit read used (word_of text t) counts ∙ ap (word_code_of limit (declared_in read)) (by_tally used)
      ∙ code_of_use text limit (declared_in read) (use_by text c used t)

  pub declared_used : (used : Option UseKind)
      → declared_in (read_over read used (word_of text t)) ≡ behind_on text (declared_in read) (use_over text c used t)
  declared_used None = refl
  declared_used (Some used) =
      declared_is read used (word_of text t) counts ∙ ap (behind_of (declared_in read)) (by_tally used)
      ∙ behind_of_use text (declared_in read) (use_by text c used t)

  pub counts_used : (used : Option UseKind) → code_over limit read used (word_of text t) ≡ None
      → AreCounts (read_over read used (word_of text t)).tally
  counts_used None none = counts
  counts_used (Some used) none = counts_kept limit read used (word_of text t) none counts

  closed_numbers : (opened : List ℕ) → closed_at opened (numbers text c) ≡ numbers text (closed_at opened c)
  closed_numbers [] = refl
  closed_numbers (n ∷ ns) = refl

  behind_numbers : (used : UseKind)
      → counts_behind (λ n. n) used (digits_value 10 (word_of text t)) (numbers text c) ≡ numbers text (counts_behind (number_of text) used t c)
  behind_numbers Line = refl
  behind_numbers Symbol = refl
  behind_numbers Pattern = refl
  behind_numbers Output = refl
  behind_numbers Leaf = refl
  behind_numbers FurtherLeaf = refl
  behind_numbers Mark = refl
  behind_numbers Open = refl
  behind_numbers Close = closed_numbers c.opened
  behind_numbers Least = refl
  behind_numbers Most = refl
  behind_numbers Copies = refl

  pub tally_used : (used : Option UseKind) → (read_over read used (word_of text t)).tally ≡ numbers text (counts_over text c used t)
  tally_used None = tally
  tally_used (Some used) = ap (counts_behind (λ n. n) used (digits_value 10 (word_of text t))) tally ∙ behind_numbers used

  pub tables_used : (used : Option UseKind)
      → (read_over read used (word_of text t)).declarations ≡ tables_along text read.declarations (listed (use_over text c used t))
  tables_used None = refl
  tables_used (Some Line) = refl
  tables_used (Some Symbol) = refl
  tables_used (Some Pattern) = refl
  tables_used (Some Output) = refl
  tables_used (Some Leaf) = refl
  tables_used (Some FurtherLeaf) = refl
  tables_used (Some Mark) = refl
  tables_used (Some Open) = refl
  tables_used (Some Close) = refl
  tables_used (Some Least) = refl
  tables_used (Some Most) = refl
  tables_used (Some Copies) = refl

-- the token of a use
pub token_of_use : (text : List ℕ) (c : Counts Lexeme) (used : Option UseKind) (t : Lexeme) (u : Use) → use_over text c used t ≡ Some u
    → use_token u ≡ t
token_of_use text c None t u e = absurd cc
token_of_use text c (Some used) t u e = by_kind used e
  where
    none_or : Option Use → Lexeme
    none_or None = t
    none_or (Some v) = use_token v

    all : (k : UseKind) → none_or (use_by text c k t) ≡ t
    all Line = refl
    all Symbol = refl
    all Pattern = refl
    all Output = refl
    all Leaf = refl
    all FurtherLeaf = refl
    all Mark = refl
    all Open = refl
    all Close = refl
    all Least = refl
    all Most = refl
    all Copies = refl

    by_kind : (k : UseKind) → use_by text c k t ≡ Some u → use_token u ≡ t
    by_kind k e = ap none_or (sym e) ∙ all k
