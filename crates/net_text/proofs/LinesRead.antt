-- Lines of a network text that were read.
use Rattle.std.proofs.Common.{◌≡◌, ℕ, ◌<◌, ◌≤◌, Bool, true, false, List, [], ◌∷◌, ◌++◌, Some, None, Result, Ok, Err, length, take, drop, refl, sym, ap, ◌∙◌, subst, arith, append_assoc, append-nil}
use Rattle.std.proofs.lemmas.List.{length-append, length-drop, take_all, drop_all, nil_from_length}
use Rattle.std.proofs.lemmas.List.Elements.{All-nil}
use Rattle.std.specs.Prelude.{Vec, vec_len, codes, IsTrue, nat_lt, if◌then◌else◌, ◌==◌}
use Rattle.std.proofs.lemmas.Bool.{eqb-true, ltb-true, ltb-false, ne_eqb}
use Rattle.net_text.specs.declared.words.TextFault.{TextFault}
use Rattle.std.specs.Fmt.{decimal}
use Rattle.std.specs.List.{flat_map}
use Rattle.rx_text.specs.Name.{is_name}
use Rattle.rx_text.specs.Role.{NamedRole, bears_name}
use Rattle.rx_text.specs.declared.pad_name.Role.{Role}
use Rattle.rx_text.specs.declared.pad_name.Role.TheVariants.{Vdd, Gnd, Phi1, Phi2, Reset, Input, Output}
use Rattle.switch_net.specs.ClockedLogic.{NamesBelow}
use Rattle.switch_net.specs.declared.network.Net.{Net}
use Rattle.switch_net.specs.declared.network.Pad.{Pad}
use Rattle.switch_net.specs.declared.network.Device.{Device}
use Rattle.switch_net.specs.declared.network.Device.TheVariants.{Pass, Load}
use Rattle.net_text.specs.NetworkText.{role_word, name_part, head_lines, pad_line, device_line, IsNamed}
use Rattle.net_text.specs.Reading.{line_word, line_at, first_lines, later_lines}
use Rattle.net_text.specs.Steps.{Reads, ReadsName, ReadsPad, ReadsDevice, ReadTo}
use Rattle.net_text.specs.declared.line_kind.LineKind.{LineKind}
use Rattle.net_text.specs.declared.line_kind.LineKind.TheVariants as kind
use Rattle.std.proofs.lemmas.Grind.{flat_map-append}
use Rattle.std.proofs.lemmas.List.Elements.{All-push}
use Rattle.net_text.specs.Steps.{IsRead, no_devices}
use Rattle.net_text.specs.NetRefusals.{NoCodeStands}
use Rattle.net_text.specs.Stages.{PadNet, BehindRole, BehindWord, LinesDue, DueAt, IsFirst, Stage}
use Rattle.net_text.specs.declared.net_fault.NetCode.TheVariants.{N6}
use Rattle.net_text.proofs.DueLines.{first_word_read}
use Rattle.net_text.proofs.Placed.{Stopped, stopped_at}
use Rattle.net_text.proofs.Stopping.{end_stop, none_stands}
use Rattle.net_text.proofs.Steps.{Reads-trans}

-- the name of an input line or an output
pub named_pad : (text : List ℕ) (at next : ℕ) (role : Role) (name : List ℕ) → bears_name role ≡ true → Reads text at next (name ++ codes " ")
    → is_name name ≡ true → ReadsName text at next role (record { role = role; name = Some name })
named_pad text at next role name bears reads valid =
    record { rest = name ++ codes " "; reads = reads; spelled = simp append_assoc refl; bears = bears; valid = valid }

-- a pad of another role has none
module _ (text : List ℕ) (at : ℕ) (within : at ≤ length text) where
  no_name : (role : Role) → bears_name role ≡ false → ReadsName text at at role (record { role = role; name = None })
  no_name role bears = record {
    rest = [];
    reads = record { front = sym (append-nil (take at text)); further = omega arith; within = within };
    spelled = simp append-nil refl;
    bears = bears;
    valid = tt;
  }

  pub plain_pad : (role : Role) → (role ≡ Input → ⊥) → (role ≡ Output → ⊥)
      → ReadsName text at at role (record { role = role; name = None }) × ((nets : ℕ) → DueAt nets text at (BehindRole role) → DueAt nets text at PadNet)
  plain_pad Vdd input output = (no_name Vdd refl, λ nets due. due)
  plain_pad Gnd input output = (no_name Gnd refl, λ nets due. due)
  plain_pad Phi1 input output = (no_name Phi1 refl, λ nets due. due)
  plain_pad Phi2 input output = (no_name Phi2 refl, λ nets due. due)
  plain_pad Reset input output = (no_name Reset refl, λ nets due. due)
  plain_pad Input input output = absurd (input refl)
  plain_pad Output input output = absurd (output refl)

-- the net of a pad
pub pad_read : {text : List ℕ} {at mid next : ℕ} {role : Role} {name : NamedRole} (nets : ℕ) (net : Net) → ReadsName text at mid role name
    → Reads text mid next (decimal net.0 ++ codes "\n") → net.0 < nets → ReadsPad text at next role nets (record { name = name; net = net })
pad_read {role = role} {name = name} nets net named number below = record {
  rest = named.rest ++ (decimal net.0 ++ codes "\n");
  reads = Reads-trans named.reads number;
  line = line;
  named = (named.bears, named.valid);
  below = below;
}
  where
    line : role_word role ++ codes " " ++ (named.rest ++ (decimal net.0 ++ codes "\n")) ≡ role_word name.role ++ name_part name.name ++ (32 ∷ decimal net.0) ++ codes "\n"
    line =
        let both = ap (λ l. l ++ (decimal net.0 ++ codes "\n")) named.spelled in
        let assoc = simp append_assoc at both in
        simp append_assoc assoc

-- a pass device
pub pass_read : {text : List ℕ} {at first second next : ℕ} (nets : ℕ) (gate a b : Net) → Reads text at first (decimal gate.0 ++ codes " ")
    → Reads text first second (decimal a.0 ++ codes " ") → Reads text second next (decimal b.0 ++ codes "\n") → gate.0 < nets → a.0 < nets → b.0 < nets
    → ReadsDevice text at next kind.Pass nets (Pass gate a b)
pass_read nets gate a b one two three below_gate below_a below_b = record {
  rest = _;
  reads = Reads-trans (Reads-trans one two) three;
  line = simp append_assoc refl;
  below = (below_gate, below_a, below_b);
}

-- a load
pub load_read : {text : List ℕ} {at next : ℕ} (nets : ℕ) (net : Net) → Reads text at next (decimal net.0 ++ codes "\n") → net.0 < nets
    → ReadsDevice text at next kind.Load nets (Load net)
load_read nets net one below = record { rest = _; reads = one; line = simp append_assoc refl; below = below }

-- the head
pub head_parts : {text : List ℕ} {mid next : ℕ} (nets : ℕ) → Reads text 0 mid (codes "rxnet 1\nnets ") → Reads text mid next (decimal nets ++ codes "\n")
    → nets < 16777217 → DueAt nets text next (LinesDue true) → ReadTo text nets [] [] next
head_parts {text} {mid} {next} nets head number few due =
    let both = Reads-trans head number in
    record {
      front = both.front ∙ sym (append-nil (head_lines nets ++ []) ∙ append-nil (head_lines nets));
      within = both.within;
      few_parts = omega (arith, head.further, number.further);
      few_nets = omega (arith, few);
      named = All-nil _;
      pads_below = All-nil _;
      devices_below = All-nil _;
      due = due;
    }

-- one more line of a pad
pub pad_more : {text : List ℕ} {at mid next nets : ℕ} {role : Role} {pads : List Pad} {devices : List Device} (pad : Pad) → devices ≡ []
    → ReadTo text nets pads devices at → Reads text at mid (line_word (kind.Pad role)) → ReadsPad text mid next role nets pad
    → DueAt nets text next (LinesDue true) → ReadTo text nets (pads ++ pad ∷ []) devices next × (at < next)
pad_more {text} {at} {mid} {next} {nets} {role} {pads} {devices} pad none before word line due =
    let reads : Reads text at next (pad_line pad) = subst (Reads text at next) line.line (Reads-trans word line.reads) in
    let further = reads.further in
    let longer = word.further in (
      record {
        front = front reads;
        within = reads.within;
        few_parts = rw length-append (omega (arith, before.few_parts, further_still reads));
        few_nets = before.few_nets;
        named = All-push IsNamed pads pad before.named line.named;
        pads_below = All-push (λ p. p.net.0 < nets) pads pad before.pads_below line.below;
        devices_below = before.devices_below;
        due = rw none due;
      },
      further_still reads,
    )
  where
    front : Reads text at next (pad_line pad) → take next text ≡ head_lines nets ++ flat_map pad_line (pads ++ pad ∷ []) ++ flat_map device_line devices
    front reads =
        let prior : take at text ≡ head_lines nets ++ flat_map pad_line pads ++ [] = rw none at before.front in
        let more : flat_map pad_line (pads ++ pad ∷ []) ≡ flat_map pad_line pads ++ pad_line pad = flat_map-append pad_line pads (pad ∷ []) ∙ ap (λ l. flat_map pad_line pads ++ l) (append-nil (pad_line pad)) in
        let text_is : take next text ≡ (head_lines nets ++ flat_map pad_line pads) ++ pad_line pad = reads.front ∙ ap (λ l. l ++ pad_line pad) (prior ∙ append-nil (head_lines nets ++ flat_map pad_line pads)) in
        let whole = text_is ∙ append_assoc (head_lines nets) (flat_map pad_line pads) (pad_line pad) ∙ ap (λ (l : List ℕ). head_lines nets ++ l) (sym more) in
        rw none (whole ∙ sym (append-nil (head_lines nets ++ flat_map pad_line (pads ++ pad ∷ []))))

    word_some : (role : Role) → 0 < length (line_word (kind.Pad role))
    word_some role = rw length-append (omega arith)

    further_still : Reads text at next (pad_line pad) → at < next
    further_still reads = omega (arith, reads.further, word.further, line.reads.further, word_some role)

-- a device was read
some_device : (device : Device) (devices : List Device) → no_devices (devices ++ device ∷ []) ≡ false
some_device device [] = refl
some_device device (d ∷ devices) = refl

-- one more line of a device
pub device_more : {text : List ℕ} {at mid next nets : ℕ} {k : LineKind} {pads : List Pad} {devices : List Device} (device : Device)
    → ReadTo text nets pads devices at → Reads text at mid (line_word k) → 0 < length (line_word k) → ReadsDevice text mid next k nets device
    → DueAt nets text next (LinesDue false) → ReadTo text nets pads (devices ++ device ∷ []) next × (at < next)
device_more {text} {at} {mid} {next} {nets} {k} {pads} {devices} device before word some line due =
    let reads : Reads text at next (device_line device) = subst (Reads text at next) line.line (Reads-trans word line.reads) in
    let further : at < next = omega (arith, word.further, line.reads.further, some) in (
      record {
        front = front reads;
        within = reads.within;
        few_parts = rw length-append (omega (arith, before.few_parts, further));
        few_nets = before.few_nets;
        named = before.named;
        pads_below = before.pads_below;
        devices_below = All-push (NamesBelow nets) devices device before.devices_below line.below;
        due = rw (some_device device devices) due;
      },
      further,
    )
  where
    front : Reads text at next (device_line device) → take next text ≡ head_lines nets ++ flat_map pad_line pads ++ flat_map device_line (devices ++ device ∷ [])
    front reads =
        let more : flat_map device_line (devices ++ device ∷ []) ≡ flat_map device_line devices ++ device_line device = flat_map-append device_line devices (device ∷ []) ∙ ap (λ l. flat_map device_line devices ++ l) (append-nil (device_line device)) in
        reads.front ∙ ap (λ l. l ++ device_line device) before.front
        ∙ append_assoc (head_lines nets ++ flat_map pad_line pads) (flat_map device_line devices) (device_line device)
        ∙ ap (λ l. (head_lines nets ++ flat_map pad_line pads) ++ l) (sym more)

-- the last line
pub end_read : {text : List ℕ} {at next nets : ℕ} {pads : List Pad} {devices : List Device} → ReadTo text nets pads devices at
    → Reads text at next (codes "end\n") → length text ≤ next → DueAt nets text next (BehindWord kind.End) → IsRead text nets pads devices
end_read {text} {at} {next} {nets} before reads end due =
    record { before = at; parts = before; whole = sym (take_all next text end) ∙ reads.front; clear = clear }
  where
    clear : NoCodeStands text
    clear =
        let stage : Stage nets text [] (λ tail. tail ≡ []) (λ tail. tail ≡ []) = rw (take_all next text end, drop_all next text end) at due.stage in
        none_stands nets text stage

-- a byte stands behind the end
pub behind_end : {text : List ℕ} {at nets : ℕ} → DueAt nets text at (BehindWord kind.End) → at < length text
    → Stopped nets text (record { code = N6; at = at })
behind_end {text} {at} {nets} due more =
    stopped_at nets text at N6 (omega (arith, more))
    (end_stop nets (take at text) (drop at text) due.stage (λ e. omega (arith, length-drop at text, ap (λ (l : List ℕ). length l) e, more)))

-- pads may follow where no device was read
pub pads_follow : {A : Type 0} (xs : Vec Device A) (b : Bool) → b ≡ (vec_len xs == 0) → b ≡ no_devices xs.items
pads_follow xs b e = e ∙ ap (λ n. n == 0) xs.ok.0 ∙ by_items xs.items
  where
    by_items : (items : List Device) → (length items == 0) ≡ no_devices items
    by_items [] = refl
    by_items (d ∷ items) = ne_eqb (length (d ∷ items)) 0 (λ e. absurd (omega (arith, e)))

-- no device was read yet
pub still_empty : {X A : Type 0} (xs : Vec X A) (b : Bool) → b ≡ (vec_len xs == 0) → IsTrue b → xs.items ≡ []
still_empty xs b e h = nil_from_length xs.items (sym xs.ok.0 ∙ eqb-true _ _ (sym e ∙ h))

-- the text ends there
pub at_end : (at size : ℕ) (fault : TextFault) (end : Unit {0}) → (if nat_lt at size then Err fault else Ok tt) ≡ Ok end → size ≤ at
at_end at size fault end e = by_test (nat_lt at size) refl
  where
    by_test : (b : Bool) → nat_lt at size ≡ b → size ≤ at
    by_test true t = let wrong = rw t at e in absurd (cc)
    by_test false t = ltb-false _ _ t

-- it does not end there
pub not_at_end : (text : List ℕ) (at : ℕ) {nets : ℕ} → DueAt nets text at (BehindWord kind.End) → (fault : TextFault)
    → ◌≡◌ {A = Result (Unit {0}) TextFault} (if nat_lt at (length text) then Err (record { code = N6; at = at }) else Ok tt) (Err fault)
    → IsFirst text fault
not_at_end text at due fault e = by_test (nat_lt at (length text)) refl
  where
    by_test : (b : Bool) → nat_lt at (length text) ≡ b → IsFirst text fault
    by_test true t =
        let said = rw t at e in
        let same : record { code = N6; at = at } ≡ fault = cc in
        rw (← same) (behind_end due (ltb-true _ _ t)).first
    by_test false t = let wrong = rw t at e in absurd (cc)

module _ {A : Type 0} (nets : ℕ) (text : List ℕ) (at : ℕ) (pads : List Pad) (devices : Vec Device A) (b : Bool) (read : ReadTo text nets pads devices.items at)
    (follow : b ≡ (vec_len devices == 0)) where
  -- what is due where a line begins
  lines_due : DueAt nets text at (LinesDue b)
  lines_due = subst (λ b. DueAt nets text at (LinesDue b)) (sym (pads_follow devices b follow)) read.due

  -- what is due behind its word
  pub behind_word : (k : LineKind) (next : ℕ) → line_at (if b then first_lines else later_lines) at (drop at text) ≡ Ok (k, next)
      → DueAt nets text next (BehindWord k)
  behind_word k next e = (rw e at (first_word_read nets b text at read.within lines_due)).due

  -- where no word stands
  pub no_word : (fault : TextFault) → line_at (if b then first_lines else later_lines) at (drop at text) ≡ Err fault → IsFirst text fault
  no_word fault e = (rw e at (first_word_read nets b text at read.within lines_due)).first
