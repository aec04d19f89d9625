-- Every text is read to its end, or has a first fault.
use Rattle.std.proofs.Common.{◌≡◌, ◌⊎◌, inl, inr, ℕ, zero, suc, ◌+◌, ◌<◌, ◌≤◌, nat_lt, Bool, true, false, List, [], ◌∷◌, ◌++◌, Some, None, Result, Ok, Err, take, drop, length, refl, sym, ap, ◌∙◌, subst, append_assoc, arith}
use Rattle.std.specs.Prelude.{codes}
use Rattle.std.specs.Fmt.{decimal}
use Rattle.std.proofs.lemmas.Bool.{ltb-true, ltb-false}
use Rattle.std.proofs.lemmas.List.{take-append-drop}
use Rattle.rx_text.specs.NumberInText.{is_digit}
use Rattle.rx_text.specs.Role.{NamedRole, bears_name}
use Rattle.rx_text.specs.declared.pad_name.Role.{Role}
use Rattle.rx_text.specs.declared.pad_name.Role.TheVariants.{Vdd, Gnd, Phi1, Phi2, Reset, Input, Output}
use Rattle.switch_net.specs.declared.network.Net.{Net}
use Rattle.switch_net.specs.declared.network.Pad as network
use Rattle.switch_net.specs.declared.network.Device.{Device}
use Rattle.switch_net.specs.declared.network.Device.TheVariants as device
use Rattle.net_text.specs.NetworkText.{role_word}
use Rattle.net_text.specs.Shape.{head, front_number}
use Rattle.net_text.specs.Reading.{line_word, later_lines, word_at, number_due, name_at, line_at}
use Rattle.net_text.specs.Steps.{Reads, ReadsName, ReadsPad, ReadsDevice, ReadTo, IsRead, no_devices}
use Rattle.net_text.specs.Stages.{IsName, InRange, Part, PadNet, BehindRole, DeviceNet, TwoNets, BehindPass, BehindWord, LinesDue, DueAt, EndsInSpace, IsFirst}
use Rattle.net_text.specs.declared.line_kind.LineKind.{LineKind}
use Rattle.net_text.specs.declared.line_kind.LineKind.TheVariants.{Pad, Pass, Load, End}
use Rattle.net_text.specs.declared.net_fault.NetCode.TheVariants.{N2, N5, N6}
use Rattle.net_text.specs.declared.words.TextFault.{TextFault}
use Rattle.net_text.proofs.Cuts.{cancel}
use Rattle.net_text.proofs.DueHead as due_head
use Rattle.net_text.proofs.DueLines.{line_read}
use Rattle.net_text.proofs.DueNets.{net_read, pad_name_read}
use Rattle.net_text.proofs.LineWords.{kinds_due}
use Rattle.net_text.proofs.Searches.{Among}
use Rattle.net_text.proofs.LinesRead.{head_parts, named_pad, plain_pad, pad_read, pass_read, load_read, pad_more, device_more, end_read, behind_end}
use Rattle.net_text.proofs.Placed.{Stopped, ends_in_space}
use Rattle.net_text.proofs.Steps.{Reads-number, Reads-name, Reads-word, Reads-line}

-- a first fault
abbrev Refused : ℕ → List ℕ → Type 0
Refused nets text = (fault : TextFault) × Stopped nets text fault

module _ (nets : ℕ) (few : nets ≤ 16777216) (text : List ℕ) where
  -- a net that was read, the place behind it and its last byte, and what is due there
  record NetFound (last at : ℕ) (K : (List ℕ → Type 0) → List ℕ → Type 0) : Type 0 where
    net : Net
    next : ℕ
    reads : Reads text at next (decimal net.0 ++ last ∷ [])
    below : net.0 < nets
    due : DueAt nets text next K

  net_found : {K : (List ℕ → Type 0) → List ℕ → Type 0} (last at : ℕ) → is_digit last ≡ false → at ≤ length text → DueAt nets text at (λ N. Part N last (K N))
      → EndsInSpace (take at text) → NetFound last at K ⊎ Refused nets text
  net_found {K} last at no_digit within due space = by_answer (number_due nets N2 (last ∷ []) at text) refl
    where
      by_answer : (r : Result (ℕ × ℕ) TextFault) → number_due nets N2 (last ∷ []) at text ≡ r → NetFound last at K ⊎ Refused nets text
      by_answer (Err fault) e = inr (fault, rw e at (net_read nets text at within {K = K} last no_digit due space))
      by_answer (Ok (value, next)) e =
          let number = Reads-number nets N2 (last ∷ []) text at value next within (omega arith) e in
          inl (record {
            net = record { 0 = value };
            next = next;
            reads = number.0;
            below = number.1;
            due = rw e at (net_read nets text at within {K = K} last no_digit due space);
          })

  -- the name of a pad
  record PadNameFound (at : ℕ) (role : Role) : Type 0 where
    name : NamedRole
    next : ℕ
    reads : ReadsName text at next role name
    due : DueAt nets text next PadNet
    space : EndsInSpace (take next text)

  pad_name_found : (at : ℕ) (role : Role) → at ≤ length text → DueAt nets text at (BehindRole role) → EndsInSpace (take at text)
      → PadNameFound at role ⊎ Refused nets text
  pad_name_found at role within due space = by_role role due
    where
      plain : (role : Role) → (role ≡ Input → ⊥) → (role ≡ Output → ⊥) → DueAt nets text at (BehindRole role) → PadNameFound at role ⊎ Refused nets text
      plain role input output due =
          let none = plain_pad text at within role input output in
          inl (record { name = record { role = role; name = None }; next = at; reads = none.0; due = none.1 nets due; space = space })

      named : (role : Role) → bears_name role ≡ true → DueAt nets text at (λ N. Part IsName 32 (PadNet N))
          → (r : Result (List ℕ × ℕ) TextFault) → name_at at text ≡ r → PadNameFound at role ⊎ Refused nets text
      named role bears due (Err fault) e = inr (fault, rw e at (pad_name_read nets text at within {K = PadNet} due))
      named role bears due (Ok (name, next)) e =
          let read = Reads-name text at next name within e in
          inl (record {
            name = record { role = role; name = Some name };
            next = next;
            reads = named_pad text at next role name bears read.0 read.1;
            due = rw e at (pad_name_read nets text at within {K = PadNet} due);
            space = ends_in_space name read.0;
          })

      by_role : (role : Role) → DueAt nets text at (BehindRole role) → PadNameFound at role ⊎ Refused nets text
      by_role Vdd due = plain Vdd (λ e. cc) (λ e. cc) due
      by_role Gnd due = plain Gnd (λ e. cc) (λ e. cc) due
      by_role Phi1 due = plain Phi1 (λ e. cc) (λ e. cc) due
      by_role Phi2 due = plain Phi2 (λ e. cc) (λ e. cc) due
      by_role Reset due = plain Reset (λ e. cc) (λ e. cc) due
      by_role Input due = named Input refl due (name_at at text) refl
      by_role Output due = named Output refl due (name_at at text) refl

  -- the rest of a pad's line
  record PadFound (at : ℕ) (role : Role) : Type 0 where
    pad : network.Pad
    next : ℕ
    reads : ReadsPad text at next role nets pad
    due : DueAt nets text next (LinesDue true)

  pad_found : (at : ℕ) (role : Role) → at ≤ length text → DueAt nets text at (BehindRole role) → EndsInSpace (take at text)
      → PadFound at role ⊎ Refused nets text
  pad_found at role within due space = by_name (pad_name_found at role within due space)
    where
      by_net : (n : PadNameFound at role) → NetFound 10 n.next (LinesDue true) ⊎ Refused nets text → PadFound at role ⊎ Refused nets text
      by_net n (inr refused) = inr refused
      by_net n (inl found) = inl (record { pad = _; next = found.next; reads = pad_read nets found.net n.reads found.reads found.below; due = found.due })

      by_name : PadNameFound at role ⊎ Refused nets text → PadFound at role ⊎ Refused nets text
      by_name (inr refused) = inr refused
      by_name (inl n) = by_net n (net_found {K = LinesDue true} 10 n.next refl n.reads.reads.within n.due n.space)

  -- the rest of a device's line
  record DeviceFound (at : ℕ) (kind : LineKind) : Type 0 where
    device : Device
    next : ℕ
    reads : ReadsDevice text at next kind nets device
    due : DueAt nets text next (LinesDue false)

  load_found : (at : ℕ) → at ≤ length text → DueAt nets text at DeviceNet → EndsInSpace (take at text) → DeviceFound at Load ⊎ Refused nets text
  load_found at within due space = by_net (net_found {K = LinesDue false} 10 at refl within due space)
    where
      by_net : NetFound 10 at (LinesDue false) ⊎ Refused nets text → DeviceFound at Load ⊎ Refused nets text
      by_net (inr refused) = inr refused
      by_net (inl n) = inl (record { device = device.Load n.net; next = n.next; reads = load_read nets n.net n.reads n.below; due = n.due })

  pass_found : (at : ℕ) → at ≤ length text → DueAt nets text at BehindPass → EndsInSpace (take at text) → DeviceFound at Pass ⊎ Refused nets text
  pass_found at within due space = by_gate (net_found {K = TwoNets} 32 at refl within due space)
    where
      by_b : (g : NetFound 32 at TwoNets) (a : NetFound 32 g.next DeviceNet) → NetFound 10 a.next (LinesDue false) ⊎ Refused nets text
          → DeviceFound at Pass ⊎ Refused nets text
      by_b g a (inr refused) = inr refused
      by_b g a (inl b) = inl (record {
        device = device.Pass g.net a.net b.net;
        next = b.next;
        reads = pass_read nets g.net a.net b.net g.reads a.reads b.reads g.below a.below b.below;
        due = b.due;
      })

      by_a : (g : NetFound 32 at TwoNets) → NetFound 32 g.next DeviceNet ⊎ Refused nets text → DeviceFound at Pass ⊎ Refused nets text
      by_a g (inr refused) = inr refused
      by_a g (inl a) = by_b g a (net_found {K = LinesDue false} 10 a.next refl a.reads.within a.due (ends_in_space _ a.reads))

      by_gate : NetFound 32 at TwoNets ⊎ Refused nets text → DeviceFound at Pass ⊎ Refused nets text
      by_gate (inr refused) = inr refused
      by_gate (inl g) = by_a g (net_found {K = DeviceNet} 32 g.next refl g.reads.within g.due (ends_in_space _ g.reads))

  -- all lines
  record AllFound : Type 0 where
    pads : List network.Pad
    devices : List Device
    read : IsRead text nets pads devices

  -- more lines
  record LineFound (at : ℕ) : Type 0 where
    pads : List network.Pad
    devices : List Device
    next : ℕ
    read : ReadTo text nets pads devices next
    further : at < next

  line_found : (pads : List network.Pad) (devices : List Device) (at : ℕ) → ReadTo text nets pads devices at → (LineFound at ⊎ AllFound) ⊎ Refused nets text
  line_found pads devices at read = by_answer (line_at (kinds_due (no_devices devices)) at (drop at text)) refl
    where
      no_pad : (role : Role) → Among later_lines (Pad role) → ⊥
      no_pad role (inl e) = cc
      no_pad role (inr (inl e)) = cc
      no_pad role (inr (inr (inl e))) = cc
      no_pad role (inr (inr (inr n))) = n

      none_yet : (role : Role) (devices : List Device) → Among (kinds_due (no_devices devices)) (Pad role) → devices ≡ []
      none_yet role [] among = refl
      none_yet role (d ∷ devices) among = absurd (no_pad role among)

      by_pad : (role : Role) (mid : ℕ) → devices ≡ [] → Reads text at mid (line_word (Pad role)) → PadFound mid role ⊎ Refused nets text
          → (LineFound at ⊎ AllFound) ⊎ Refused nets text
      by_pad role mid none word (inr refused) = inr refused
      by_pad role mid none word (inl found) =
          let more = pad_more found.pad none read word found.reads found.due in
          inl (inl (record { pads = pads ++ found.pad ∷ []; devices = devices; next = found.next; read = more.0; further = more.1 }))

      by_device : (kind : LineKind) (mid : ℕ) → 0 < length (line_word kind) → Reads text at mid (line_word kind) → DeviceFound mid kind ⊎ Refused nets text
          → (LineFound at ⊎ AllFound) ⊎ Refused nets text
      by_device kind mid some word (inr refused) = inr refused
      by_device kind mid some word (inl found) =
          let more = device_more found.device read word some found.reads found.due in
          inl (inl (record { pads = pads; devices = devices ++ found.device ∷ []; next = found.next; read = more.0; further = more.1 }))

      by_end : (mid : ℕ) → Reads text at mid (line_word End) → DueAt nets text mid (BehindWord End) → (b : Bool) → nat_lt mid (length text) ≡ b
          → (LineFound at ⊎ AllFound) ⊎ Refused nets text
      by_end mid word due true t = inr (record { code = N6; at = mid }, behind_end due (ltb-true _ _ t))
      by_end mid word due false t = inl (inr (record { pads = pads; devices = devices; read = end_read read word (ltb-false _ _ t) due }))

      by_kind : (kind : LineKind) (mid : ℕ) → Among (kinds_due (no_devices devices)) kind → Reads text at mid (line_word kind) → DueAt nets text mid (BehindWord kind)
          → (LineFound at ⊎ AllFound) ⊎ Refused nets text
      by_kind (Pad role) mid among word due =
          by_pad role mid (none_yet role devices among) word (pad_found mid role word.within due (ends_in_space (role_word role) word))
      by_kind Pass mid among word due = by_device Pass mid (omega arith) word (pass_found mid word.within due (ends_in_space (codes "pass") word))
      by_kind Load mid among word due = by_device Load mid (omega arith) word (load_found mid word.within due (ends_in_space (codes "load") word))
      by_kind End mid among word due = by_end mid word due (nat_lt mid (length text)) refl

      by_answer : (r : Result (LineKind × ℕ) TextFault) → line_at (kinds_due (no_devices devices)) at (drop at text) ≡ r
          → (LineFound at ⊎ AllFound) ⊎ Refused nets text
      by_answer (Err fault) e = inr (fault, rw e at (line_read nets (no_devices devices) text at read.within read.due))
      by_answer (Ok (kind, mid)) e =
          let line = rw e at (line_read nets (no_devices devices) text at read.within read.due) in
          by_kind kind mid line.among (Reads-line (kinds_due (no_devices devices)) text at mid kind read.within e) line.due

  -- lines to the end, in so many steps at most
  lines_found : (steps : ℕ) (pads : List network.Pad) (devices : List Device) (at : ℕ) → length text ≤ at + steps → ReadTo text nets pads devices at
      → AllFound ⊎ Refused nets text
  lines_found zero pads devices at enough read = by_line (line_found pads devices at read)
    where
      by_line : (LineFound at ⊎ AllFound) ⊎ Refused nets text → AllFound ⊎ Refused nets text
      by_line (inr refused) = inr refused
      by_line (inl (inr all)) = inl all
      by_line (inl (inl line)) = absurd (omega (arith, line.further, line.read.within, enough))
  lines_found (suc steps) pads devices at enough read =
      by_line (line_found pads devices at read) (λ ps ds next e r. lines_found steps ps ds next e r)
    where
      by_line : (LineFound at ⊎ AllFound) ⊎ Refused nets text
          → ((ps : List network.Pad) (ds : List Device) (next : ℕ) → length text ≤ next + steps → ReadTo text nets ps ds next → AllFound ⊎ Refused nets text)
          → AllFound ⊎ Refused nets text
      by_line (inr refused) later = inr refused
      by_line (inl (inr all)) later = inl all
      by_line (inl (inl line)) later = later line.pads line.devices line.next (omega (arith, line.further, enough)) line.read

-- The number of line 2 of the text.
pub record Counts (nets : ℕ) (text : List ℕ) : Type 0 where
  pub after : List ℕ
  pub is : text ≡ head ++ after
  pub number : front_number after ≡ nets

-- The text was read, or it has a first fault, and then nets out of range or another shape.
pub data Outcome (text : List ℕ) : Type 0 where
  read : (nets : ℕ) (pads : List network.Pad) (devices : List Device) → IsRead text nets pads devices → Outcome text
  refused : (fault : TextFault) → IsFirst text fault → ((nets : ℕ) → Counts nets text → InRange nets text → ⊥) → Outcome text

-- the number of nets is that of line 2
count_is : (nets v at : ℕ) (text : List ℕ) {K : (List ℕ → Type 0) → List ℕ → Type 0} → Counts nets text → DueAt v text at K → v ≡ nets
count_is nets v at text c due =
    let whole : text ≡ head ++ (due.more ++ drop at text) =
    sym (take-append-drop at text) ∙ ap (λ l. l ++ drop at text) due.behind_head ∙ append_assoc head due.more (drop at text) in
    let same : due.more ++ drop at text ≡ c.after = cancel head (due.more ++ drop at text) c.after (sym whole ∙ c.is) in
    sym due.count ∙ ap front_number same ∙ c.number

pub read_text : (text : List ℕ) → Outcome text
read_text text = by_head (word_at head 0 text) refl
  where
    by_found : (v next : ℕ) (few : v ≤ 16777216) → ReadTo text v [] [] next → AllFound v few text ⊎ Refused v text → Outcome text
    by_found v next few begun (inl all) = Outcome.read v all.pads all.devices all.read
    by_found v next few begun (inr (fault, stopped)) =
        Outcome.refused fault stopped.first (λ nets c s. stopped.refuted (subst (λ n. InRange n text) (sym (count_is nets v next text {K = LinesDue true} c begun.due)) s))

    by_lines : (v next : ℕ) → ReadTo text v [] [] next → Outcome text
    by_lines v next begun = by_found v next begun.few_nets begun (lines_found v begun.few_nets text (length text) [] [] next (omega arith) begun)

    by_count : (at : ℕ) → ((nets : ℕ) → due_head.HeadRead nets text at) → Reads text 0 at head → (r : Result (ℕ × ℕ) TextFault) → number_due 16777217 N5 (10 ∷ []) at text ≡ r
        → Outcome text
    by_count at begun word (Err fault) e =
        Outcome.refused fault (rw e at (due_head.count_read 0 text at (begun 0))).first (λ nets c s. (rw e at (due_head.count_read nets text at (begun nets))).refuted s)
    by_count at begun word (Ok (v, next)) e =
        let number = Reads-number 16777217 N5 (10 ∷ []) text at v next word.within (omega arith) e in
        by_lines v next (head_parts v word number.0 number.1 (due_head.lines_due v text at next (begun v) (rw e at (due_head.count_read v text at (begun v)))))

    by_head : (r : Result ℕ TextFault) → word_at head 0 text ≡ r → Outcome text
    by_head (Err fault) e =
        Outcome.refused fault (rw e at (due_head.head_read 0 text)).first (λ nets c s. (rw e at (due_head.head_read nets text)).refuted s)
    by_head (Ok at) e =
        by_count at (λ nets. rw e at (due_head.head_read nets text)) (Reads-word head text 0 at (omega arith) e) (number_due 16777217 N5 (10 ∷ []) at text) refl
