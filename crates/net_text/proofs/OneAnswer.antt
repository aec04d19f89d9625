-- Every text is a network's or is refused in one way.
use Rattle.std.proofs.Common.{◌≡◌, ◌⊎◌, inl, inr, ℕ, ◌+◌, List, [], ◌∷◌, ◌++◌, Option, Some, None, take, drop, length, refl, sym, ap, ◌∙◌, subst, append_assoc, append-nil, arith}
use Rattle.std.specs.Prelude.{codes}
use Rattle.std.proofs.lemmas.List.{take-append-drop}
use Rattle.rx_text.specs.TextPlace.{place_behind}
use Rattle.rx_text.specs.declared.place.Place.{Place}
use Rattle.rx_text.specs.declared.place.Place.TheVariants.{Text}
use Rattle.switch_net.specs.Circuit.{Circuit}
use Rattle.switch_net.specs.Validity.{first_fault, IsNetwork, FaultlessIsNetwork}
use Rattle.switch_net.specs.declared.network.BadNetwork.{BadNetwork}
use Rattle.switch_net.specs.declared.network.BadNetwork.TheVariants.{NetOutOfRange, DoublePad, MissingPad}
use Rattle.switch_net.specs.declared.network.Pad.{Pad}
use Rattle.switch_net.specs.declared.network.Device.{Device}
use Rattle.net_text.specs.NetworkText.{IsTextOf, IsNetworkText}
use Rattle.net_text.specs.Shape.{IsNumeral, DeviceLines, PadLines, Shaped, head}
use Rattle.net_text.specs.NetRefusals.{NumberBegins, NetCodeStands, NetCodeStandsFirst, CircuitFault, NetRefusal}
use Rattle.net_text.specs.Steps.{IsRead}
use Rattle.net_text.specs.declared.net_fault.NetCode.{NetCode}
use Rattle.net_text.specs.declared.net_fault.NetCode.TheVariants.{N1, N2, N3, N4, N5, N6}
use Rattle.net_text.proofs.CircuitFaults.{in_range, text_of, is_network_text}
use Rattle.net_text.proofs.CircuitsInRange.{in_range_of_fault}
use Rattle.net_text.proofs.Cuts.{Cuts, cuts, cancel}
use Rattle.net_text.proofs.OneNetwork.{same_circuit}
use Rattle.net_text.proofs.Reader.{Outcome, read_text}
use Rattle.net_text.proofs.ShapedNetworks.{counts, ranged}

-- ---- codes

-- a text of the shape ends in a line feed
module _ (N : List ℕ → Type 0) where
  more_ends : (front more : List ℕ) → (before : List ℕ) × (more ≡ before ++ codes "\n") → (before : List ℕ) × (front ++ more ≡ before ++ codes "\n")
  more_ends front more (before, e) = (front ++ before, ap (λ l. front ++ l) e ∙ sym (append_assoc front before (codes "\n")))

  device_lines_end : (text : List ℕ) → DeviceLines N text → (before : List ℕ) × (text ≡ before ++ codes "\n")
  device_lines_end text (DeviceLines.end t e) = (codes "end", e)
  device_lines_end text (DeviceLines.load t net more e n lines) = let ends = more_ends (codes "load " ++ net ++ codes "\n") more (device_lines_end more lines) in (ends.0, e ∙ ends.1)
  device_lines_end text (DeviceLines.pass t gate a b more e ng na nb lines) =
      let ends = more_ends (codes "pass " ++ gate ++ codes " " ++ a ++ codes " " ++ b ++ codes "\n") more (device_lines_end more lines) in (ends.0, e ∙ ends.1)

  lines_end : (text : List ℕ) → PadLines N text → (before : List ℕ) × (text ≡ before ++ codes "\n")
  lines_end text (PadLines.devices t lines) = device_lines_end t lines
  lines_end text (PadLines.pad t role name net more e bears valid n lines) =
      let ends = more_ends _ more (lines_end more lines) in (ends.0, e ∙ ends.1)

shaped_ends : (text : List ℕ) → Shaped text → (before : List ℕ) × (text ≡ before ++ codes "\n")
shaped_ends text s = let ends = more_ends IsNumeral (head ++ s.count ++ codes "\n") s.more (lines_end IsNumeral s.more s.lines) in (ends.0, s.is ∙ ends.1)

-- so no number begins behind it
no_number_behind : (front rest : List ℕ) → Shaped front → NumberBegins front rest → ⊥
no_number_behind front rest s n =
    let ends = shaped_ends front s in
    by_place n.before ends.0 (cuts n.before (codes " ") ends.0 (codes "\n") (sym n.space ∙ ends.1))
  where
    none : (c : ℕ) (vs : List ℕ) (d e : ℕ) → d ∷ [] ≡ c ∷ vs ++ e ∷ [] → ⊥
    none c [] d e h = cc
    none c (x ∷ vs) d e h = cc

    by_place : (xs ys : List ℕ) → Cuts xs (codes " ") ys (codes "\n") → ⊥
    by_place xs ys (Cuts.same p q) = let clash : ◌≡◌ {A = ℕ} 32 10 = cc in absurd (omega (arith, clash))
    by_place xs ys (Cuts.before c vs p q) = none c vs 32 10 q
    by_place xs ys (Cuts.behind c vs p q) = none c vs 10 32 q

-- one code stands at a place
no_syntax : (front rest : List ℕ) → NumberBegins front rest → NetCodeStands N1 front rest → ⊥
no_syntax front rest n s = s.2 n.digit n.others n.here n.begins

not_both : (front rest : List ℕ) → NetCodeStands N2 front rest → NetCodeStands N5 front rest → ⊥
not_both front rest two five =
    let (more, e, some, large) = two.1 in some (sym (cancel head [] more (append-nil head ∙ sym five.1 ∙ e)))

one_code : (code other : NetCode) (front rest : List ℕ) → NetCodeStands code front rest → NetCodeStands other front rest → code ≡ other
one_code N1 N1 front rest s t = refl
one_code N1 N2 front rest s t = absurd (no_syntax front rest t.0 s)
one_code N1 N3 front rest s t = absurd t
one_code N1 N4 front rest s t = absurd t
one_code N1 N5 front rest s t = absurd (no_syntax front rest t.0 s)
one_code N1 N6 front rest s t = absurd (s.1 t.0)
one_code N2 N1 front rest s t = absurd (no_syntax front rest s.0 t)
one_code N2 N2 front rest s t = refl
one_code N2 N3 front rest s t = absurd t
one_code N2 N4 front rest s t = absurd t
one_code N2 N5 front rest s t = absurd (not_both front rest s t)
one_code N2 N6 front rest s t = absurd (no_number_behind front rest t.0 s.0)
one_code N3 other front rest s t = absurd s
one_code N4 other front rest s t = absurd s
one_code N5 N1 front rest s t = absurd (no_syntax front rest s.0 t)
one_code N5 N2 front rest s t = absurd (not_both front rest t s)
one_code N5 N3 front rest s t = absurd t
one_code N5 N4 front rest s t = absurd t
one_code N5 N5 front rest s t = refl
one_code N5 N6 front rest s t = absurd (no_number_behind front rest t.0 s.0)
one_code N6 N1 front rest s t = absurd (t.1 s.0)
one_code N6 N2 front rest s t = absurd (no_number_behind front rest s.0 t.0)
one_code N6 N3 front rest s t = absurd t
one_code N6 N4 front rest s t = absurd t
one_code N6 N5 front rest s t = absurd (no_number_behind front rest s.0 t.0)
one_code N6 N6 front rest s t = refl

-- the first one is one
pub one_first : (text : List ℕ) (code other : NetCode) (place elsewhere : Place) → NetCodeStandsFirst text code place → NetCodeStandsFirst text other elsewhere
    → (code ≡ other) × (place ≡ elsewhere)
one_first text code other place elsewhere s t = by_place (cuts s.front s.rest t.front t.rest (sym s.whole ∙ t.whole))
  where
    by_place : Cuts s.front s.rest t.front t.rest → (code ≡ other) × (place ≡ elsewhere)
    by_place (Cuts.same p q) = (
      one_code code other s.front s.rest s.stands (subst (λ l. NetCodeStands other l s.rest) (sym p) (subst (λ l. NetCodeStands other t.front l) (sym q) t.stands)),
      s.at_place ∙ ap place_behind p ∙ sym t.at_place,
    )
    by_place (Cuts.before c vs p q) = absurd (t.first code s.front c vs p (subst (λ l. NetCodeStands code s.front l) q s.stands))
    by_place (Cuts.behind c vs p q) = absurd (s.first other t.front c vs p (subst (λ l. NetCodeStands other t.front l) q t.stands))

-- ---- answers

-- the first fault of a circuit that is named so
bad_circuit : (code : NetCode) (circuit : Circuit) (place : Place) → CircuitFault code circuit place
    → (bad : BadNetwork) × (first_fault circuit.nets circuit.pads circuit.devices ≡ Some bad) × ((at : ℕ) → bad ≡ NetOutOfRange at → ⊥)
bad_circuit N1 circuit place h = absurd h
bad_circuit N2 circuit place h = absurd h
bad_circuit N3 circuit place (at, e, is) = (DoublePad at, e, λ other f. cc)
bad_circuit N4 circuit place (role, e, is) = (MissingPad role, e, λ other f. cc)
bad_circuit N5 circuit place h = absurd h
bad_circuit N6 circuit place h = absurd h

-- it is one
one_circuit_fault : (code other : NetCode) (circuit : Circuit) (place elsewhere : Place) → CircuitFault code circuit place → CircuitFault other circuit elsewhere
    → (code ≡ other) × (place ≡ elsewhere)
one_circuit_fault N1 other circuit place elsewhere s t = absurd s
one_circuit_fault N2 other circuit place elsewhere s t = absurd s
one_circuit_fault N3 N1 circuit place elsewhere s t = absurd t
one_circuit_fault N3 N2 circuit place elsewhere s t = absurd t
one_circuit_fault N3 N3 circuit place elsewhere (m, e, p) (n, f, q) =
    let same : Some (DoublePad m) ≡ Some (DoublePad n) = sym e ∙ f in
    let number : m ≡ n = cc in
    (refl, p ∙ ap (λ k. Text (k + 3) 1) number ∙ sym q)
one_circuit_fault N3 N4 circuit place elsewhere (m, e, p) (role, f, q) = let same : Some (DoublePad m) ≡ Some (MissingPad role) = sym e ∙ f in cc
one_circuit_fault N3 N5 circuit place elsewhere s t = absurd t
one_circuit_fault N3 N6 circuit place elsewhere s t = absurd t
one_circuit_fault N4 N1 circuit place elsewhere s t = absurd t
one_circuit_fault N4 N2 circuit place elsewhere s t = absurd t
one_circuit_fault N4 N3 circuit place elsewhere (role, e, p) (n, f, q) = let same : Some (MissingPad role) ≡ Some (DoublePad n) = sym e ∙ f in cc
one_circuit_fault N4 N4 circuit place elsewhere (r, e, p) (s, f, q) = (refl, p ∙ sym q)
one_circuit_fault N4 N5 circuit place elsewhere s t = absurd t
one_circuit_fault N4 N6 circuit place elsewhere s t = absurd t
one_circuit_fault N5 other circuit place elsewhere s t = absurd s
one_circuit_fault N6 other circuit place elsewhere s t = absurd s

-- a text that is no network's is of one circuit
one_written : (text : List ℕ) (a b : Circuit) (code other : NetCode) (place elsewhere : Place) → IsTextOf text a → IsTextOf text b
    → CircuitFault code a place → CircuitFault other b elsewhere → a ≡ b
one_written text a b code other place elsewhere wa wb fa fb =
    let bad_a = bad_circuit code a place fa in
    let bad_b = bad_circuit other b elsewhere fb in
    let range_a = in_range_of_fault a bad_a.0 bad_a.1 bad_a.2 in
    let range_b = in_range_of_fault b bad_b.0 bad_b.1 bad_b.2 in
    same_circuit a b (sym wa.text ∙ wb.text) wa.named wb.named range_a.0 range_b.0 range_a.1 range_b.1 wa.few_nets wb.few_nets

pub one_refusal : (text : List ℕ) (code other : NetCode) (place elsewhere : Place) → NetRefusal text code place → NetRefusal text other elsewhere
    → (code ≡ other) × (place ≡ elsewhere)
one_refusal text code other place elsewhere (inl s) (inl t) = one_first text code other place elsewhere s t
one_refusal text code other place elsewhere (inl s) (inr t) = absurd (t.clear code s.front s.rest s.whole s.stands)
one_refusal text code other place elsewhere (inr s) (inl t) = absurd (s.clear other t.front t.rest t.whole t.stands)
one_refusal text code other place elsewhere (inr s) (inr t) =
    let same = one_written text s.circuit t.circuit code other place elsewhere s.text_of t.text_of s.fault t.fault in
    one_circuit_fault code other s.circuit place elsewhere s.fault (subst (λ c. CircuitFault other c elsewhere) (sym same) t.fault)

module _ (law : FaultlessIsNetwork) where
  -- a network has no such fault
  not_faulty : (code : NetCode) (circuit : Circuit) (place : Place) → IsNetwork circuit → CircuitFault code circuit place → ⊥
  not_faulty code circuit place network fault =
      let bad = bad_circuit code circuit place fault in
      let clash : Some bad.0 ≡ None = sym bad.1 ∙ (law circuit).0 network in
      cc

  pub exclusive : (text : List ℕ) (circuit : Circuit) (code : NetCode) (place : Place) → IsNetworkText text circuit
      → NetRefusal text code place → ⊥
  exclusive text circuit code place is (inl s) = by_reading (read_text text)
    where
      by_reading : Outcome text → ⊥
      by_reading (Outcome.read nets pads devices read) = read.clear code s.front s.rest s.whole s.stands
      by_reading (Outcome.refused fault first refuted) = refuted circuit.nets (counts text circuit is) (ranged text circuit is)
  exclusive text circuit code place is (inr s) =
      let bad = bad_circuit code s.circuit place s.fault in
      let range = in_range_of_fault s.circuit bad.0 bad.1 bad.2 in
      let same = same_circuit circuit s.circuit (sym is.text_of.text ∙ s.text_of.text) is.text_of.named s.text_of.named is.network.pads_below range.0
      is.network.devices_below range.1 is.text_of.few_nets s.text_of.few_nets in
      not_faulty code circuit place is.network (subst (λ c. CircuitFault code c place) (sym same) s.fault)

  pub either : (text : List ℕ) → ((circuit : Circuit) × IsNetworkText text circuit)
      ⊎ ((code : NetCode) × (place : Place) × NetRefusal text code place)
  either text = by_reading (read_text text)
    where
      by_fault : (nets : ℕ) (pads : List Pad) (devices : List Device) → IsRead text nets pads devices → (bad : Option BadNetwork)
          → first_fault nets pads devices ≡ bad
          → ((circuit : Circuit) × IsNetworkText text circuit) ⊎ ((code : NetCode) × (place : Place) × NetRefusal text code place)
      by_fault nets pads devices read None e =
          inl (record { nets = nets; pads = pads; devices = devices }, is_network_text text nets pads devices read law (sym e))
      by_fault nets pads devices read (Some (NetOutOfRange at)) e = absurd (in_range text nets pads devices read (NetOutOfRange at) (sym e) at refl)
      by_fault nets pads devices read (Some (DoublePad at)) e =
          inr (
            N3,
            Text (at + 3) 1,
            inr (record {
              clear = read.clear;
              circuit = record { nets = nets; pads = pads; devices = devices };
              text_of = text_of text nets pads devices read;
              fault = (at, e, refl);
            }),
          )
      by_fault nets pads devices read (Some (MissingPad role)) e =
          inr (
            N4,
            Text (length pads + length devices + 3) 1,
            inr (record {
              clear = read.clear;
              circuit = record { nets = nets; pads = pads; devices = devices };
              text_of = text_of text nets pads devices read;
              fault = (role, e, refl);
            }),
          )

      by_reading : Outcome text → ((circuit : Circuit) × IsNetworkText text circuit)
          ⊎ ((code : NetCode) × (place : Place) × NetRefusal text code place)
      by_reading (Outcome.read nets pads devices read) = by_fault nets pads devices read (first_fault nets pads devices) refl
      by_reading (Outcome.refused fault first refuted) =
          inr (
            fault.code,
            place_behind (take fault.at text),
            inl (record {
              front = take fault.at text;
              rest = drop fault.at text;
              whole = sym (take-append-drop fault.at text);
              stands = first.stands;
              first = first.first;
              at_place = refl;
            }),
          )
