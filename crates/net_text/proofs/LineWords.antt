-- The words with which the lines that may follow begin.
use Rattle.std.proofs.Common.{◌≡◌, inl, inr, ℕ, Bool, true, false, ◌==◌, if◌then◌else◌, List, [], ◌∷◌, ◌++◌, Option, Some, None, get_or, refl, sym, ap, ◌∙◌, append_assoc}
use Rattle.std.specs.Prelude.{codes, is_some, IfSome}
use Rattle.rx_text.specs.Name.{is_name}
use Rattle.rx_text.specs.Role.{bears_name}
use Rattle.rx_text.specs.declared.pad_name.Role.{Role}
use Rattle.rx_text.specs.declared.pad_name.Role.TheVariants.{Vdd, Gnd, Phi1, Phi2, Reset, Input, Output}
use Rattle.net_text.specs.NetworkText.{role_word, name_part}
use Rattle.net_text.specs.Shape.{IsNumeral, DeviceLines, PadLines}
use Rattle.net_text.specs.Reading.{line_word, first_lines, later_lines}
use Rattle.net_text.specs.Stages.{IsName, Part, PadNet, BehindRole, BehindWord, LinesDue}
use Rattle.net_text.specs.declared.line_kind.LineKind.{LineKind}
use Rattle.net_text.specs.declared.line_kind.LineKind.TheVariants.{Pad, Pass, Load, End}
use Rattle.net_text.proofs.Advancing.{quiet}
use Rattle.net_text.proofs.Searches.{Among}

-- ---- kinds of lines

-- the kinds of lines that may follow
abbrev pub kinds_due : Bool → List LineKind
kinds_due true = first_lines
kinds_due false = later_lines

-- the kind whose word stands at the front
abbrev kind_of : List ℕ → LineKind
kind_of text =
    if get_or text 0 0 == 118 then Pad Vdd else if get_or text 0 0 == 103 then Pad Gnd else if get_or text 0 0 == 114 then Pad Reset
    else if get_or text 0 0 == 105 then Pad Input else if get_or text 0 0 == 111 then Pad Output else if get_or text 0 0 == 108 then Load
    else if get_or text 0 0 == 101 then End else if get_or text 1 0 == 97 then Pass else if get_or text 3 0 == 49 then Pad Phi1 else Pad Phi2

kind_of-line_word : (k : LineKind) (rest : List ℕ) → kind_of (line_word k ++ rest) ≡ k
kind_of-line_word (Pad Vdd) rest = refl
kind_of-line_word (Pad Gnd) rest = refl
kind_of-line_word (Pad Phi1) rest = refl
kind_of-line_word (Pad Phi2) rest = refl
kind_of-line_word (Pad Reset) rest = refl
kind_of-line_word (Pad Input) rest = refl
kind_of-line_word (Pad Output) rest = refl
kind_of-line_word Pass rest = refl
kind_of-line_word Load rest = refl
kind_of-line_word End rest = refl

-- one word at most stands at the front
pub one_kind : (k l : LineKind) (s t : List ℕ) → line_word k ++ s ≡ line_word l ++ t → k ≡ l
one_kind k l s t e = sym (kind_of-line_word k s) ∙ ap kind_of e ∙ kind_of-line_word l t

-- no number begins in a word
pub word_quiet : (k : LineKind) → quiet true (line_word k) ≡ true
word_quiet (Pad Vdd) = refl
word_quiet (Pad Gnd) = refl
word_quiet (Pad Phi1) = refl
word_quiet (Pad Phi2) = refl
word_quiet (Pad Reset) = refl
word_quiet (Pad Input) = refl
word_quiet (Pad Output) = refl
word_quiet Pass = refl
word_quiet Load = refl
word_quiet End = refl

-- ---- lines by their words

-- A line that may follow is due: its word, and what is due behind it.
pub record WordDue (pads_may_follow : Bool) (IsNumber : List ℕ → Type 0) (text : List ℕ) : Type 0 where
  pub kind : LineKind
  pub among : Among (kinds_due pads_may_follow) kind
  pub behind : List ℕ
  pub is : text ≡ line_word kind ++ behind
  pub more : BehindWord kind IsNumber behind

-- a pad is of a kind that may follow the head
pad_among : (role : Role) → Among first_lines (Pad role)
pad_among Vdd = inl refl
pad_among Gnd = inr (inl refl)
pad_among Phi1 = inr (inr (inl refl))
pad_among Phi2 = inr (inr (inr (inl refl)))
pad_among Reset = inr (inr (inr (inr (inl refl))))
pad_among Input = inr (inr (inr (inr (inr (inl refl)))))
pad_among Output = inr (inr (inr (inr (inr (inr (inl refl))))))

pub pass_among : (b : Bool) → Among (kinds_due b) Pass
pass_among true = inr (inr (inr (inr (inr (inr (inr (inl refl)))))))
pass_among false = inl refl

load_among : (b : Bool) → Among (kinds_due b) Load
load_among true = inr (inr (inr (inr (inr (inr (inr (inr (inl refl))))))))
load_among false = inr (inl refl)

end_among : (b : Bool) → Among (kinds_due b) End
end_among true = inr (inr (inr (inr (inr (inr (inr (inr (inr (inl refl)))))))))
end_among false = inr (inr (inl refl))

-- the parts of a pad's line
pad_text : (word part net more : List ℕ) → word ++ part ++ codes " " ++ net ++ codes "\n" ++ more ≡ word ++ (part ++ (32 ∷ (net ++ 10 ∷ more)))
pad_text word part net more = simp append_assoc refl

module _ (N : List ℕ → Type 0) where
  -- a pad without a name and one with a name
  plain_rest : (role : Role) (text : List ℕ) → bears_name role ≡ false → PadNet N text → BehindRole role N text
  plain_rest Vdd text e h = h
  plain_rest Gnd text e h = h
  plain_rest Phi1 text e h = h
  plain_rest Phi2 text e h = h
  plain_rest Reset text e h = h
  plain_rest Input text e h = cc
  plain_rest Output text e h = cc

  named_rest : (role : Role) (text : List ℕ) → bears_name role ≡ true → Part IsName 32 (PadNet N) text → BehindRole role N text
  named_rest Vdd text e h = cc
  named_rest Gnd text e h = cc
  named_rest Phi1 text e h = cc
  named_rest Phi2 text e h = cc
  named_rest Reset text e h = cc
  named_rest Input text e h = h
  named_rest Output text e h = h

  device_word : (b : Bool) (text : List ℕ) → DeviceLines N text → WordDue b N text
  device_word b text (DeviceLines.end t e) = record { kind = End; among = end_among b; behind = []; is = e; more = refl }
  device_word b text (DeviceLines.load t net more e n lines) = record {
    kind = Load;
    among = load_among b;
    behind = net ++ 10 ∷ more;
    is = simp append_assoc at e;
    more = record { part = net; behind = more; is = refl; fits = n; more = lines };
  }
  device_word b text (DeviceLines.pass t gate first second more e ng na nb lines) = record {
    kind = Pass;
    among = pass_among b;
    behind = gate ++ 32 ∷ (first ++ 32 ∷ (second ++ 10 ∷ more));
    is = simp append_assoc at e;
    more = record {
      part = gate;
      behind = first ++ 32 ∷ (second ++ 10 ∷ more);
      is = refl;
      fits = ng;
      more = record {
        part = first;
        behind = second ++ 10 ∷ more;
        is = refl;
        fits = na;
        more = record { part = second; behind = more; is = refl; fits = nb; more = lines };
      };
    };
  }

  pad_word : (text : List ℕ) (role : Role) (name : Option (List ℕ)) (net more : List ℕ)
      → text ≡ role_word role ++ name_part name ++ codes " " ++ net ++ codes "\n" ++ more → bears_name role ≡ is_some name
      → IfSome name (λ bytes. is_name bytes ≡ true) → PadNet N (net ++ 10 ∷ more) → WordDue true N text
  pad_word text role None net more e bears valid h = record {
    kind = Pad role;
    among = pad_among role;
    behind = net ++ 10 ∷ more;
    is = e ∙ pad_text (role_word role) [] net more ∙ sym (append_assoc (role_word role) (codes " ") (net ++ 10 ∷ more));
    more = plain_rest role (net ++ 10 ∷ more) bears h;
  }
  pad_word text role (Some name) net more e bears valid h = record {
    kind = Pad role;
    among = pad_among role;
    behind = name ++ 32 ∷ (net ++ 10 ∷ more);
    is = e ∙ pad_text (role_word role) (32 ∷ name) net more ∙ sym (append_assoc (role_word role) (codes " ") (name ++ 32 ∷ (net ++ 10 ∷ more)));
    more = named_rest role (name ++ 32 ∷ (net ++ 10 ∷ more)) bears (record { part = name; behind = net ++ 10 ∷ more; is = refl; fits = valid; more = h });
  }

  -- lines that may follow begin with such a word
  pub by_word : (b : Bool) (text : List ℕ) → LinesDue b N text → WordDue b N text
  by_word false text lines = device_word false text lines
  by_word true text (PadLines.devices t lines) = device_word true t lines
  by_word true text (PadLines.pad t role name net more e bears valid n lines) =
      pad_word t role name net more e bears valid (record { part = net; behind = more; is = refl; fits = n; more = lines })

  -- the text of a pad's line
  plain_text : (role : Role) (text net more : List ℕ) → text ≡ net ++ 10 ∷ more
      → line_word (Pad role) ++ text ≡ role_word role ++ name_part None ++ codes " " ++ net ++ codes "\n" ++ more
  plain_text role text net more e =
      append_assoc (role_word role) (codes " ") text ∙ ap (λ l. role_word role ++ 32 ∷ l) e ∙ sym (pad_text (role_word role) [] net more)

  named_text : (role : Role) (text name net more : List ℕ) → text ≡ name ++ 32 ∷ (net ++ 10 ∷ more)
      → line_word (Pad role) ++ text ≡ role_word role ++ name_part (Some name) ++ codes " " ++ net ++ codes "\n" ++ more
  named_text role text name net more e =
      append_assoc (role_word role) (codes " ") text ∙ ap (λ l. role_word role ++ 32 ∷ l) e ∙ sym (pad_text (role_word role) (32 ∷ name) net more)

  -- and behind such a word they go on so
  plain_line : (role : Role) (text : List ℕ) → bears_name role ≡ false → PadNet N text → PadLines N (line_word (Pad role) ++ text)
  plain_line role text bears h =
      PadLines.pad (line_word (Pad role) ++ text) role None h.part h.behind
      (plain_text role text h.part h.behind h.is) bears tt h.fits h.more

  named_line : (role : Role) (text : List ℕ) → bears_name role ≡ true → Part IsName 32 (PadNet N) text → PadLines N (line_word (Pad role) ++ text)
  named_line role text bears h =
      PadLines.pad (line_word (Pad role) ++ text) role (Some h.part) h.more.part h.more.behind
      (named_text role text h.part h.more.part h.more.behind (h.is ∙ ap (λ l. h.part ++ 32 ∷ l) h.more.is)) bears h.fits h.more.fits h.more.more

  pad_line_of : (role : Role) (text : List ℕ) → BehindRole role N text → PadLines N (line_word (Pad role) ++ text)
  pad_line_of Vdd text h = plain_line Vdd text refl h
  pad_line_of Gnd text h = plain_line Gnd text refl h
  pad_line_of Phi1 text h = plain_line Phi1 text refl h
  pad_line_of Phi2 text h = plain_line Phi2 text refl h
  pad_line_of Reset text h = plain_line Reset text refl h
  pad_line_of Input text h = named_line Input text refl h
  pad_line_of Output text h = named_line Output text refl h

  -- the text of a device's line
  pass_text : (text gate first second more : List ℕ) → text ≡ gate ++ 32 ∷ (first ++ 32 ∷ (second ++ 10 ∷ more))
      → line_word Pass ++ text ≡ codes "pass " ++ gate ++ codes " " ++ first ++ codes " " ++ second ++ codes "\n" ++ more
  pass_text text gate first second more e = rw e (simp append_assoc refl)

  load_text : (text net more : List ℕ) → text ≡ net ++ 10 ∷ more → line_word Load ++ text ≡ codes "load " ++ net ++ codes "\n" ++ more
  load_text text net more e = rw e (simp append_assoc refl)

  due_devices : (b : Bool) (text : List ℕ) → DeviceLines N text → LinesDue b N text
  due_devices true text h = PadLines.devices text h
  due_devices false text h = h

  pub from_word : (b : Bool) (kind : LineKind) (text : List ℕ) → Among (kinds_due b) kind → BehindWord kind N text → LinesDue b N (line_word kind ++ text)
  from_word true (Pad role) text among h = pad_line_of role text h
  from_word false (Pad role) text among h = absurd (no_pad among)
    where
      no_pad : Among later_lines (Pad role) → ⊥
      no_pad (inl e) = cc
      no_pad (inr (inl e)) = cc
      no_pad (inr (inr (inl e))) = cc
      no_pad (inr (inr (inr n))) = n
  from_word b Pass text among h =
      due_devices b (line_word Pass ++ text) (
      DeviceLines.pass (line_word Pass ++ text) h.part h.more.part h.more.more.part h.more.more.behind
      (pass_text text h.part h.more.part h.more.more.part h.more.more.behind
      (h.is ∙ ap (λ l. h.part ++ 32 ∷ l) (h.more.is ∙ ap (λ l. h.more.part ++ 32 ∷ l) h.more.more.is)))
      h.fits h.more.fits h.more.more.fits h.more.more.more)
  from_word b Load text among h =
      due_devices b (line_word Load ++ text)
      (DeviceLines.load (line_word Load ++ text) h.part h.behind (load_text text h.part h.behind h.is) h.fits h.more)
  from_word b End text among h = due_devices b (line_word End ++ text) (DeviceLines.end (line_word End ++ text) (ap (λ l. codes "end\n" ++ l) h))

-- some bytes may follow each word
some_number : {More : List ℕ → Type 0} (last : ℕ) (text : List ℕ) → More text → Part IsNumeral last More (48 ∷ last ∷ text)
some_number last text h = record { part = 48 ∷ []; behind = text; is = refl; fits = (refl, refl, λ e. refl); more = h }

some_end : DeviceLines IsNumeral (codes "end\n")
some_end = DeviceLines.end (codes "end\n") refl

some_pad : (t : List ℕ) × PadNet IsNumeral t
some_pad = (_, some_number 10 _ (PadLines.devices _ some_end))

some_name : (t : List ℕ) × Part IsName 32 (PadNet IsNumeral) t
some_name = (97 ∷ 32 ∷ some_pad.0, record { part = 97 ∷ []; behind = some_pad.0; is = refl; fits = refl; more = some_pad.1 })

pub some_behind : (kind : LineKind) → (t : List ℕ) × BehindWord kind IsNumeral t
some_behind (Pad Vdd) = some_pad
some_behind (Pad Gnd) = some_pad
some_behind (Pad Phi1) = some_pad
some_behind (Pad Phi2) = some_pad
some_behind (Pad Reset) = some_pad
some_behind (Pad Input) = some_name
some_behind (Pad Output) = some_name
some_behind Pass = (_, some_number 32 _ (some_number 32 _ (some_number 10 _ some_end)))
some_behind Load = (_, some_number 10 _ some_end)
some_behind End = ([], refl)
