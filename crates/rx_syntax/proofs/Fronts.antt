-- What the tokens of an expression are, up to any of them.
use Rattle.std.proofs.Common.{◌≡◌, ℕ, zero, suc, List, [], ◌∷◌, ◌++◌, refl, ap, sym, ◌∙◌, subst}
use Rattle.std.specs.Prelude.{pred}
use Rattle.std.proofs.lemmas.List.{append_assoc, append-nil}
use Rattle.rx_syntax.specs.Lexemes.{Lexeme}
use Rattle.rx_syntax.specs.Grammar.{Tree, leaf, union, sequence, unions, sequences, parts, Derives, named, closed, AreNames, IsNumber, class_tree, classed, starred, looped, repeated, optioned, noted, alone, followed, single, either}
use Rattle.rx_syntax.specs.declared.kind.Kind.TheVariants.{Name, Bar, Star, Plus, Question, Mark, Open, Close, OpenBrace, CloseBrace, Comma, OpenBracket, CloseBracket}

-- nothing, or an expression and a bar
data Head (xs : List Lexeme) : Type 0 where
  bare : xs ≡ [] → Head xs
  barred : {ys : List Lexeme} {e : Tree} (b : Lexeme) → b.kind ≡ Bar → xs ≡ ys ++ (b ∷ []) → Derives unions ys e → Head xs

-- nothing, or a sequence
data Before (xs : List Lexeme) : Type 0 where
  nothing : xs ≡ [] → Before xs
  something : {e : Tree} → Derives sequences xs e → Before xs

-- what stands before the expression inside of the innermost open parenthesis
data Outer : ℕ → List Lexeme → Type 0 where
  outermost : {xs : List Lexeme} → xs ≡ [] → Outer zero xs
  inside : {d : ℕ} {xs : List Lexeme} (ws head before : List Lexeme) (o : Lexeme) → o.kind ≡ Open
      → xs ≡ ((ws ++ head) ++ before) ++ (o ∷ []) → Outer d ws → Head head → Before before → Outer (suc d) xs

-- A part is due.
pub record PartDue (d : ℕ) (xs : List Lexeme) : Type 0 where
  ws : List Lexeme
  head : List Lexeme
  whole : xs ≡ ws ++ head
  outer : Outer d ws
  is_head : Head head

-- A part was read.
pub record RestDue (d : ℕ) (xs : List Lexeme) : Type 0 where
  ws : List Lexeme
  head : List Lexeme
  before : List Lexeme
  last : List Lexeme
  tree : Tree
  whole : xs ≡ ((ws ++ head) ++ before) ++ last
  outer : Outer d ws
  is_head : Head head
  is_before : Before before
  is_part : Derives parts last tree

-- A part and `!` were read.
pub record MarkDue (d : ℕ) (xs : List Lexeme) : Type 0 where
  front : List Lexeme
  sign : Lexeme
  is_mark : sign.kind ≡ Mark
  whole : xs ≡ front ++ (sign ∷ [])
  read : RestDue d front

-- `[` was read where a part may stand, and then these names.
pub record ClassDue (Names : List Lexeme → Type 0) (d : ℕ) (xs : List Lexeme) : Type 0 where
  outside : ℕ
  ws : List Lexeme
  head : List Lexeme
  before : List Lexeme
  bracket : Lexeme
  names : List Lexeme
  one_more : d ≡ suc outside
  whole : xs ≡ ((ws ++ head) ++ before) ++ (bracket ∷ names)
  outer : Outer outside ws
  is_head : Head head
  is_before : Before before
  opens : bracket.kind ≡ OpenBracket
  are_names : Names names

abbrev pub NoNames : List Lexeme → Type 0
NoNames names = names ≡ []

-- a first name and further ones
abbrev pub ClassNamed : List Lexeme → Type 0
ClassNamed names = (t : Lexeme) × (ts : List Lexeme) × (names ≡ t ∷ ts) × AreNames (t ∷ ts)

-- A part and these tokens of a counted repeat were read.
pub record BoundsDue (Signs : List Lexeme → Type 0) (d : ℕ) (xs : List Lexeme) : Type 0 where
  front : List Lexeme
  signs : List Lexeme
  whole : xs ≡ front ++ signs
  read : RestDue d front
  are_signs : Signs signs

abbrev pub BraceRead : List Lexeme → Type 0
BraceRead xs = (o : Lexeme) × (o.kind ≡ OpenBrace) × (xs ≡ o ∷ [])

abbrev pub LeastRead : List Lexeme → Type 0
LeastRead xs = (o : Lexeme) × (m : Lexeme) × (o.kind ≡ OpenBrace) × IsNumber m × (xs ≡ o ∷ m ∷ [])

abbrev pub CommaRead : List Lexeme → Type 0
CommaRead xs = (o : Lexeme) × (m : Lexeme) × (c : Lexeme) × (o.kind ≡ OpenBrace) × IsNumber m × (c.kind ≡ Comma) × (xs ≡ o ∷ m ∷ c ∷ [])

abbrev pub MostRead : List Lexeme → Type 0
MostRead xs =
    (o : Lexeme) × (m : Lexeme) × (c : Lexeme) × (n : Lexeme) × (o.kind ≡ OpenBrace) × IsNumber m × (c.kind ≡ Comma) × IsNumber n
    × (xs ≡ o ∷ m ∷ c ∷ n ∷ [])

chain : (before last : List Lexeme) (f : Tree) → Before before → Derives parts last f → (e : Tree) × Derives sequences (before ++ last) e
chain before last f (nothing e) h = (f, subst (λ xs. Derives sequences (xs ++ last) f) (sym e) (alone h))
chain before last f (something {e = e} g) h = (sequence e f, followed refl g h)

expression : (head zs : List Lexeme) (f : Tree) → Head head → Derives sequences zs f → (e : Tree) × Derives unions (head ++ zs) e
expression head zs f (bare e) h = (f, subst (λ xs. Derives unions (xs ++ zs) f) (sym e) (single h))
expression head zs f (barred {ys = ys} {e = e} b k whole g) h =
    let cut : head ++ zs ≡ ys ++ (b ∷ zs) = ap (λ xs. xs ++ zs) whole ∙ append_assoc ys (b ∷ []) zs in
    (union e f, either b k cut g h)

-- the whole expression inside of the innermost open parenthesis
inner : (head before last : List Lexeme) (f : Tree) → Head head → Before before → Derives parts last f
    → (e : Tree) × Derives unions (head ++ (before ++ last)) e
inner head before last f h b p = let c = chain before last f b p in expression head (before ++ last) c.0 h c.1

-- longer lists, cut in another way

longer : (xs a b c : List Lexeme) → xs ≡ a ++ b → xs ++ c ≡ a ++ (b ++ c)
longer xs a b c e = ap (λ ys. ys ++ c) e ∙ append_assoc a b c

joined : (xs a h b l c : List Lexeme) → xs ≡ ((a ++ h) ++ b) ++ l → xs ++ c ≡ ((a ++ h) ++ (b ++ l)) ++ c
joined xs a h b l c e = ap (λ ys. ys ++ c) (e ∙ append_assoc (a ++ h) b l)

grouped : (a h b l : List Lexeme) → ((a ++ h) ++ b) ++ l ≡ a ++ (h ++ (b ++ l))
grouped a h b l = simp append_assoc refl

opened_more : (a h b l c : List Lexeme) (o : Lexeme) → (((((a ++ (o ∷ [])) ++ h) ++ b) ++ l) ++ c) ≡ a ++ (o ∷ ((h ++ (b ++ l)) ++ c))
opened_more a h b l c o = simp append_assoc refl

-- one more token

pub starts_part : (xs : List Lexeme) → xs ≡ [] → PartDue zero xs
starts_part xs e = record { ws = []; head = []; whole = e; outer = outermost refl; is_head = bare refl }

module _ (d : ℕ) (xs : List Lexeme) (t : Lexeme) where
  pub name_as_part : PartDue d xs → t.kind ≡ Name → RestDue d (xs ++ (t ∷ []))
  name_as_part h k = record {
    ws = h.ws;
    head = h.head;
    before = [];
    last = t ∷ [];
    tree = leaf t;
    whole = ap (λ ys. ys ++ (t ∷ [])) (h.whole ∙ sym (append-nil (h.ws ++ h.head)));
    outer = h.outer;
    is_head = h.is_head;
    is_before = nothing refl;
    is_part = named k refl;
  }

  pub opens_part : PartDue d xs → t.kind ≡ Open → PartDue (suc d) (xs ++ (t ∷ []))
  opens_part h k = record {
    ws = xs ++ (t ∷ []);
    head = [];
    whole = sym (append-nil (xs ++ (t ∷ [])));
    outer = inside h.ws h.head [] t k (ap (λ ys. ys ++ (t ∷ [])) (h.whole ∙ sym (append-nil (h.ws ++ h.head)))) h.outer h.is_head (nothing refl);
    is_head = bare refl;
  }

  before_more : (h : RestDue d xs) → Before (h.before ++ h.last)
  before_more h = something (chain h.before h.last h.tree h.is_before h.is_part).1

  pub name_goes_on : RestDue d xs → t.kind ≡ Name → RestDue d (xs ++ (t ∷ []))
  name_goes_on h k = record {
    ws = h.ws;
    head = h.head;
    before = h.before ++ h.last;
    last = t ∷ [];
    tree = leaf t;
    whole = joined xs h.ws h.head h.before h.last (t ∷ []) h.whole;
    outer = h.outer;
    is_head = h.is_head;
    is_before = before_more h;
    is_part = named k refl;
  }

  pub opens_next : RestDue d xs → t.kind ≡ Open → PartDue (suc d) (xs ++ (t ∷ []))
  opens_next h k = record {
    ws = xs ++ (t ∷ []);
    head = [];
    whole = sym (append-nil (xs ++ (t ∷ [])));
    outer = inside h.ws h.head (h.before ++ h.last) t k (joined xs h.ws h.head h.before h.last (t ∷ []) h.whole) h.outer h.is_head (before_more h);
    is_head = bare refl;
  }

  pub bar_goes_on : RestDue d xs → t.kind ≡ Bar → PartDue d (xs ++ (t ∷ []))
  bar_goes_on h k = record {
    ws = h.ws;
    head = (h.head ++ (h.before ++ h.last)) ++ (t ∷ []);
    whole = longer xs h.ws (h.head ++ (h.before ++ h.last)) (t ∷ []) (h.whole ∙ grouped h.ws h.head h.before h.last);
    outer = h.outer;
    is_head = barred t k refl (inner h.head h.before h.last h.tree h.is_head h.is_before h.is_part).1;
  }

  -- the last part with more behind it is a part
  widened : (more : List Lexeme) (h : RestDue d xs) (e : Tree) → Derives parts (h.last ++ more) e → RestDue d (xs ++ more)
  widened more h e p = record {
    ws = h.ws;
    head = h.head;
    before = h.before;
    last = h.last ++ more;
    tree = e;
    whole = longer xs ((h.ws ++ h.head) ++ h.before) h.last more h.whole;
    outer = h.outer;
    is_head = h.is_head;
    is_before = h.is_before;
    is_part = p;
  }

  pub star_goes_on : RestDue d xs → t.kind ≡ Star → RestDue d (xs ++ (t ∷ []))
  star_goes_on h k = widened (t ∷ []) h _ (starred t k refl h.is_part)

  pub plus_goes_on : RestDue d xs → t.kind ≡ Plus → RestDue d (xs ++ (t ∷ []))
  plus_goes_on h k = widened (t ∷ []) h _ (looped t k refl h.is_part)

  pub question_goes_on : RestDue d xs → t.kind ≡ Question → RestDue d (xs ++ (t ∷ []))
  question_goes_on h k = widened (t ∷ []) h _ (optioned t k refl h.is_part)

  pub mark_goes_on : RestDue d xs → t.kind ≡ Mark → MarkDue d (xs ++ (t ∷ []))
  mark_goes_on h k = record { front = xs; sign = t; is_mark = k; whole = refl; read = h }

pub names_mark : (d : ℕ) (xs : List Lexeme) (t : Lexeme) → MarkDue d xs → t.kind ≡ Name → RestDue d (xs ++ (t ∷ []))
names_mark d xs t h k =
    let more : RestDue d (h.front ++ (h.sign ∷ t ∷ [])) =
    widened d h.front t (h.sign ∷ t ∷ []) h.read _ (noted h.sign h.is_mark k refl h.read.is_part) in
    subst (λ ys. RestDue d ys) (sym (longer xs h.front (h.sign ∷ []) (t ∷ []) h.whole)) more

close_part : (d : ℕ) (xs ws head before last : List Lexeme) (tree : Tree) (t : Lexeme) → t.kind ≡ Close
    → xs ≡ ((ws ++ head) ++ before) ++ last → Outer (suc d) ws → Head head → Before before → Derives parts last tree
    → RestDue d (xs ++ (t ∷ []))
close_part d xs ws head before last tree t k whole (inside outer_ws outer_head outer_before o ko cut outer is_head is_before) h b p =
    let body = inner head before last tree h b p in
    let front = (outer_ws ++ outer_head) ++ outer_before in
    record {
      ws = outer_ws;
      head = outer_head;
      before = outer_before;
      last = o ∷ ((head ++ (before ++ last)) ++ (t ∷ []));
      tree = body.0;
      whole = ap (λ ys. ys ++ (t ∷ [])) (whole ∙ ap (λ ys. ((ys ++ head) ++ before) ++ last) cut)
          ∙ opened_more front head before last (t ∷ []) o;
      outer = outer;
      is_head = is_head;
      is_before = is_before;
      is_part = closed o t ko k refl body.1;
    }

pub closes_part : (d : ℕ) (xs : List Lexeme) (t : Lexeme) → RestDue (suc d) xs → t.kind ≡ Close → RestDue d (xs ++ (t ∷ []))
closes_part d xs t h k = close_part d xs h.ws h.head h.before h.last h.tree t k h.whole h.outer h.is_head h.is_before h.is_part

all_read : (xs ws head before last : List Lexeme) (tree : Tree) → xs ≡ ((ws ++ head) ++ before) ++ last → Outer zero ws → Head head → Before before
    → Derives parts last tree → (e : Tree) × Derives unions xs e
all_read xs ws head before last tree whole (outermost none) h b p =
    let body = inner head before last tree h b p in
    let cut : xs ≡ head ++ (before ++ last) =
    whole ∙ grouped ws head before last ∙ ap (λ ys. ys ++ (head ++ (before ++ last))) none in
    (body.0, subst (λ ys. Derives unions ys body.0) (sym cut) body.1)

-- where no parenthesis is open, the tokens are an expression
pub is_expression : (xs : List Lexeme) → RestDue zero xs → (e : Tree) × Derives unions xs e
is_expression xs h = all_read xs h.ws h.head h.before h.last h.tree h.whole h.outer h.is_head h.is_before h.is_part

-- classes

pub class_opens : (d : ℕ) (xs : List Lexeme) (t : Lexeme) → PartDue d xs → t.kind ≡ OpenBracket → ClassDue NoNames (suc d) (xs ++ (t ∷ []))
class_opens d xs t h k = record {
  outside = d;
  ws = h.ws;
  head = h.head;
  before = [];
  bracket = t;
  names = [];
  one_more = refl;
  whole = ap (λ ys. ys ++ (t ∷ [])) (h.whole ∙ sym (append-nil (h.ws ++ h.head)));
  outer = h.outer;
  is_head = h.is_head;
  is_before = nothing refl;
  opens = k;
  are_names = refl;
}

pub class_opens_next : (d : ℕ) (xs : List Lexeme) (t : Lexeme) → RestDue d xs → t.kind ≡ OpenBracket → ClassDue NoNames (suc d) (xs ++ (t ∷ []))
class_opens_next d xs t h k = record {
  outside = d;
  ws = h.ws;
  head = h.head;
  before = h.before ++ h.last;
  bracket = t;
  names = [];
  one_more = refl;
  whole = joined xs h.ws h.head h.before h.last (t ∷ []) h.whole;
  outer = h.outer;
  is_head = h.is_head;
  is_before = before_more d xs t h;
  opens = k;
  are_names = refl;
}

class_more : (Names Now : List Lexeme → Type 0) (d : ℕ) (xs : List Lexeme) (t : Lexeme) → ((ys : List Lexeme) → Names ys → Now (ys ++ (t ∷ [])))
    → ClassDue Names d xs → ClassDue Now d (xs ++ (t ∷ []))
class_more Names Now d xs t further h = record {
  outside = h.outside;
  ws = h.ws;
  head = h.head;
  before = h.before;
  bracket = h.bracket;
  names = h.names ++ (t ∷ []);
  one_more = h.one_more;
  whole = longer xs ((h.ws ++ h.head) ++ h.before) (h.bracket ∷ h.names) (t ∷ []) h.whole;
  outer = h.outer;
  is_head = h.is_head;
  is_before = h.is_before;
  opens = h.opens;
  are_names = further h.names h.are_names;
}

names_longer : (t : Lexeme) → t.kind ≡ Name → (ys : List Lexeme) → AreNames ys → AreNames (ys ++ (t ∷ []))
names_longer t k [] h = (k, tt)
names_longer t k (y ∷ ys) h = (h.0, names_longer t k ys h.1)

pub class_first : (d : ℕ) (xs : List Lexeme) (t : Lexeme) → ClassDue NoNames d xs → t.kind ≡ Name → ClassDue ClassNamed d (xs ++ (t ∷ []))
class_first d xs t h k = class_more NoNames ClassNamed d xs t (λ ys e. (t, [], ap (λ zs. zs ++ (t ∷ [])) e, (k, tt))) h

pub class_goes_on : (d : ℕ) (xs : List Lexeme) (t : Lexeme) → ClassDue ClassNamed d xs → t.kind ≡ Name → ClassDue ClassNamed d (xs ++ (t ∷ []))
class_goes_on d xs t h k =
    class_more ClassNamed ClassNamed d xs t (λ ys n. (n.0, n.1 ++ (t ∷ []), ap (λ zs. zs ++ (t ∷ [])) n.2, names_longer t k (n.0 ∷ n.1) n.3)) h

pub class_closes : (d : ℕ) (xs : List Lexeme) (t : Lexeme) → ClassDue ClassNamed d xs → t.kind ≡ CloseBracket → RestDue (pred d) (xs ++ (t ∷ []))
class_closes d xs t h k =
    let n = h.are_names in
    let is : RestDue h.outside (xs ++ (t ∷ [])) = record {
      ws = h.ws;
      head = h.head;
      before = h.before;
      last = (h.bracket ∷ h.names) ++ (t ∷ []);
      tree = class_tree n.0 n.1;
      whole = longer xs ((h.ws ++ h.head) ++ h.before) (h.bracket ∷ h.names) (t ∷ []) h.whole;
      outer = h.outer;
      is_head = h.is_head;
      is_before = h.is_before;
      is_part = classed h.bracket n.0 t n.1 h.opens k n.3 (ap (λ zs. h.bracket ∷ (zs ++ (t ∷ []))) n.2);
    } in
    subst (λ e. RestDue e (xs ++ (t ∷ []))) (sym (ap pred h.one_more)) is

-- counted repeats

pub brace_opens : (d : ℕ) (xs : List Lexeme) (t : Lexeme) → RestDue d xs → t.kind ≡ OpenBrace → BoundsDue BraceRead d (xs ++ (t ∷ []))
brace_opens d xs t h k = record { front = xs; signs = t ∷ []; whole = refl; read = h; are_signs = (t, k, refl) }

bounds_more : (Signs Now : List Lexeme → Type 0) (d : ℕ) (xs : List Lexeme) (t : Lexeme) → ((ys : List Lexeme) → Signs ys → Now (ys ++ (t ∷ [])))
    → BoundsDue Signs d xs → BoundsDue Now d (xs ++ (t ∷ []))
bounds_more Signs Now d xs t further h = record {
  front = h.front;
  signs = h.signs ++ (t ∷ []);
  whole = longer xs h.front h.signs (t ∷ []) h.whole;
  read = h.read;
  are_signs = further h.signs h.are_signs;
}

pub least_read : (d : ℕ) (xs : List Lexeme) (t : Lexeme) → BoundsDue BraceRead d xs → IsNumber t → BoundsDue LeastRead d (xs ++ (t ∷ []))
least_read d xs t h k = bounds_more BraceRead LeastRead d xs t (λ ys n. (n.0, t, n.1, k, ap (λ zs. zs ++ (t ∷ [])) n.2)) h

pub comma_read : (d : ℕ) (xs : List Lexeme) (t : Lexeme) → BoundsDue LeastRead d xs → t.kind ≡ Comma → BoundsDue CommaRead d (xs ++ (t ∷ []))
comma_read d xs t h k = bounds_more LeastRead CommaRead d xs t (λ ys n. (n.0, n.1, t, n.2, n.3, k, ap (λ zs. zs ++ (t ∷ [])) n.4)) h

pub most_read : (d : ℕ) (xs : List Lexeme) (t : Lexeme) → BoundsDue CommaRead d xs → IsNumber t → BoundsDue MostRead d (xs ++ (t ∷ []))
most_read d xs t h k = bounds_more CommaRead MostRead d xs t (λ ys n. (n.0, n.1, n.2, t, n.3, n.4, n.5, k, ap (λ zs. zs ++ (t ∷ [])) n.6)) h

pub brace_closes : (d : ℕ) (xs : List Lexeme) (t : Lexeme) → BoundsDue MostRead d xs → t.kind ≡ CloseBrace → RestDue d (xs ++ (t ∷ []))
brace_closes d xs t h k =
    let n = h.are_signs in
    let five : List Lexeme = n.0 ∷ n.1 ∷ n.2 ∷ n.3 ∷ t ∷ [] in
    let more : RestDue d (h.front ++ five) =
    widened d h.front t five h.read _ (repeated n.0 n.1 n.2 n.3 t n.4 n.5 n.6 n.7 k refl h.read.is_part) in
    let all : xs ++ (t ∷ []) ≡ h.front ++ five = longer xs h.front h.signs (t ∷ []) h.whole ∙ ap (λ zs. h.front ++ (zs ++ (t ∷ []))) n.8 in
    subst (λ ys. RestDue d ys) (sym all) more
