-- The lines of a run of a compiled network tell its languages.
use Rattle.std.proofs.Common.{◌≡◌, ◌⊎◌, inl, inr, ℕ, suc, ◌+◌, ◌<◌, ◌≤◌, ◌==◌, not, Bool, true, false, cond, List, [], ◌∷◌, ◌++◌, Option, Some, None, length, map, take, get_or, slice_get, refl, sym, ap, ◌∙◌, subst, arith}
use Rattle.std.proofs.lemmas.List.{length-map}
use Rattle.std.proofs.lemmas.Option.{slice_get-map}
use Rattle.std.proofs.lemmas.Bool.{eqb-true, cases_lt, lt-ltb}
use Rattle.std.proofs.lemmas.List.Recursion.{is_count_by}
use Rattle.std.proofs.lemmas.List.Sums.{prefix_len_passes}
use Rattle.std.specs.Option.{option_map}
use Rattle.std.specs.List.{position, prefix_len}
use Rattle.rx_lang.specs.Specification.{Specification, Language}
use Rattle.rx_text.specs.Role.{NamedRole}
use Rattle.rx_text.specs.declared.pad_name.Role.{Role}
use Rattle.rx_text.specs.declared.pad_name.Role.TheVariants.{Vdd, Gnd, Phi1, Phi2, Reset, Input, Output}
use Rattle.switch_net.specs.Circuit.{Circuit}
use Rattle.switch_net.specs.Recognition.{named_pad, before_outputs, output_nets, IsWordOf}
use Rattle.switch_net.specs.Ternary.{Levels, nothing_known, ClocksLevels, RunLevels}
use Rattle.switch_net.specs.declared.network.Level.{Level}
use Rattle.switch_net.specs.declared.network.Level.TheVariants.{Low, High}
use Rattle.switch_net.specs.declared.network.Pad.{Pad}
use Rattle.switch_sim.specs.TraceLines.{level_byte, pad_byte, output_bytes, clock_line, lines_from, TraceLines, is_input, input_count, first_wrong}
use Rattle.rxc_program.proofs.LowLines.{lows, length_lows, low_clock}
use Rattle.rxc_program.specs.Files.{IsNetworkOf}
use Rattle.rxc_program.specs.Telling.{Tells, TellsWord, numbered_lines, TellsLanguages}

-- ---- the pads

-- one more where the role is an input's
abbrev with_input : Role → ℕ → ℕ
with_input role n = cond (is_input role) (1 + n) n

abbrev pub inputs_in : List NamedRole → ℕ
inputs_in [] = 0
inputs_in (name ∷ names) = with_input name.role (inputs_in names)

pub inputs_counted : (pads : List Pad) → inputs_in (map (λ pad. pad.name) pads) ≡ input_count pads
inputs_counted pads = is_count_by (λ ps. inputs_in (map (λ pad. pad.name) ps)) (λ pad. is_input pad.name.role) refl (λ pad ps. refl) pads

no_inputs : (outputs : List (List ℕ)) → inputs_in (map (named_pad Output) outputs) ≡ 0
no_inputs [] = refl
no_inputs (name ∷ outputs) = no_inputs outputs

inputs_named : (lines outputs : List (List ℕ)) → inputs_in (map (named_pad Input) lines ++ map (named_pad Output) outputs) ≡ length lines
inputs_named [] outputs = no_inputs outputs
inputs_named (name ∷ lines) outputs = let rest = inputs_named lines outputs in omega arith

-- one more where the role is an output's
abbrev with_output : Role → ℕ → ℕ
with_output Output n = suc n
with_output Vdd n = n
with_output Gnd n = n
with_output Phi1 n = n
with_output Phi2 n = n
with_output Reset n = n
with_output Input n = n

abbrev outputs_in : List NamedRole → ℕ
outputs_in [] = 0
outputs_in (name ∷ names) = with_output name.role (outputs_in names)

length_before : (role : Role) (net n : ℕ) (nets : List ℕ) → length nets ≡ n → length (before_outputs role net nets) ≡ with_output role n
length_before Output net n nets e = ap suc e
length_before Vdd net n nets e = e
length_before Gnd net n nets e = e
length_before Phi1 net n nets e = e
length_before Phi2 net n nets e = e
length_before Reset net n nets e = e
length_before Input net n nets e = e

outputs_counted : (pads : List Pad) → length (output_nets pads) ≡ outputs_in (map (λ pad. pad.name) pads)
outputs_counted [] = refl
outputs_counted (pad ∷ pads) = length_before pad.name.role pad.net.0 _ (output_nets pads) (outputs_counted pads)

only_outputs : (outputs : List (List ℕ)) → outputs_in (map (named_pad Output) outputs) ≡ length outputs
only_outputs [] = refl
only_outputs (name ∷ outputs) = ap suc (only_outputs outputs)

outputs_named : (lines outputs : List (List ℕ)) → outputs_in (map (named_pad Input) lines ++ map (named_pad Output) outputs) ≡ length outputs
outputs_named [] outputs = only_outputs outputs
outputs_named (name ∷ lines) outputs = outputs_named lines outputs

-- ---- the bytes of a line

bytes_before : (v : Levels) (role : Role) (net : ℕ) (bytes nets : List ℕ) → bytes ≡ map (λ n. level_byte (v n)) nets
    → pad_byte role (v net) ++ bytes ≡ map (λ n. level_byte (v n)) (before_outputs role net nets)
bytes_before v Output net bytes nets e = ap (λ l. level_byte (v net) ∷ l) e
bytes_before v Vdd net bytes nets e = e
bytes_before v Gnd net bytes nets e = e
bytes_before v Phi1 net bytes nets e = e
bytes_before v Phi2 net bytes nets e = e
bytes_before v Reset net bytes nets e = e
bytes_before v Input net bytes nets e = e

bytes_of_nets : (pads : List Pad) (v : Levels) → output_bytes pads v ≡ map (λ n. level_byte (v n)) (output_nets pads)
bytes_of_nets [] v = refl
bytes_of_nets (pad ∷ pads) v = bytes_before v pad.name.role pad.net.0 _ (output_nets pads) (bytes_of_nets pads v)

-- an element of a mapped list is that of an element
mapped : {A B : Type 0} (f : A → B) (xs : List A) (k : ℕ) (y : B) → slice_get (map f xs) k ≡ Some y → (x : A) × (slice_get xs k ≡ Some x) × (f x ≡ y)
mapped {A = A} f xs k y e = by (slice_get xs k) refl
  where
    by : (o : Option A) → slice_get xs k ≡ o → (x : A) × (slice_get xs k ≡ Some x) × (f x ≡ y)
    by None none = let clash : None ≡ Some y = ap (option_map f) (sym none) ∙ sym (slice_get-map f xs k) ∙ e in absurd (cc)
    by (Some x) some = let same : Some (f x) ≡ Some y = ap (option_map f) (sym some) ∙ sym (slice_get-map f xs k) ∙ e in (x, some, cc)

-- ---- the lines

numbered : (circuit : Circuit) (clock : ℕ) (vs : List Levels) → lines_from circuit clock vs ≡ numbered_lines clock (map (output_bytes circuit.pads) vs)
numbered circuit clock [] = refl
numbered circuit clock (v ∷ vs) = ap (λ l. clock_line circuit clock v ++ l) (numbered circuit (suc clock) vs)

clocks_size : (circuit : Circuit) (u : List (List Bool)) (q : Levels) (vs : List Levels) → ClocksLevels circuit q u vs → length vs ≡ length u
clocks_size circuit [] q [] h = refl
clocks_size circuit [] q (v ∷ vs) h = absurd h
clocks_size circuit (x ∷ u) q [] h = absurd h
clocks_size circuit (x ∷ u) q (v ∷ vs) h = ap suc (clocks_size circuit u v vs h.1)

run_size : (circuit : Circuit) (u : List (List Bool)) (vs : List Levels) → RunLevels circuit nothing_known [] u vs → length vs ≡ suc (length u)
run_size circuit u [] h = absurd h
run_size circuit u (v ∷ vs) h = ap suc (clocks_size circuit u v vs h.1)

low_run : (circuit : Circuit) (n : ℕ) (u : List (List Bool)) (vs : List Levels) → RunLevels circuit nothing_known [] u vs → RunLevels circuit nothing_known (lows n) u vs
low_run circuit n u [] h = absurd h
low_run circuit n u (v ∷ vs) h = (low_clock circuit n true nothing_known v h.0, h.1)

-- the vector has not a wrong number of bits
abbrev right : ℕ → List Bool → Bool
right n vector = not (not (length vector == n))

-- every vector has as many bits as there are input pads
right_widths : (n : ℕ) (vectors : List (List Bool)) → position (λ vector. not (length vector == n)) vectors ≡ None → IsWordOf n vectors
right_widths n vectors none = λ k d lt. by (cases_lt (prefix_len (right n) vectors) (length vectors)) k d lt
  where
    same : (m : ℕ) (test : Bool) → (m == n) ≡ test → not (not test) ≡ true → m ≡ n
    same m true e passes = eqb-true m n e
    same m false e passes = absurd (cc)

    by : (prefix_len (right n) vectors < length vectors) ⊎ (length vectors ≤ prefix_len (right n) vectors) → IsWordOf n vectors
    by (inl below) k d lt =
        let count : ℕ = prefix_len (right n) vectors in
        let some : Some count ≡ None = ap (λ test. cond test (Some count) None) (sym (lt-ltb count (length vectors) below)) ∙ none in
        absurd (cc)
    by (inr all) k d lt =
        let passes : right n (get_or vectors k d) ≡ true = prefix_len_passes (right n) vectors k d (omega arith) in
        same (length (get_or vectors k d)) (length (get_or vectors k d) == n) refl passes

module _ (spec : Specification) (circuit : Circuit) (is : IsNetworkOf spec circuit) (vectors : List (List Bool)) where
  pub width : input_count circuit.pads ≡ length spec.lines
  width = sym (inputs_counted circuit.pads) ∙ ap inputs_in is.pads ∙ inputs_named spec.lines spec.outputs

  outputs : length (output_nets circuit.pads) ≡ length spec.outputs
  outputs = outputs_counted circuit.pads ∙ ap outputs_in is.pads ∙ outputs_named spec.lines spec.outputs

  -- a level that is sure tells by its byte
  tells : (level : Level) (Holds : Type 0) → ((level ≡ High) × Holds) ⊎ ((level ≡ Low) × (Holds → ⊥)) → Tells (level_byte level) Holds
  tells level Holds (inl high) = inl (ap level_byte high.0, high.1)
  tells level Holds (inr low) = inr (ap level_byte low.0, low.1)

  tells_word : (vs : List Levels) → first_wrong circuit vectors ≡ None → RunLevels circuit nothing_known [] vectors vs → (t : ℕ) (v : Levels)
      → slice_get vs t ≡ Some v → TellsWord spec (take t vectors) (output_bytes circuit.pads v)
  tells_word vs none run t v at = record {
    count = ap length (bytes_of_nets circuit.pads v) ∙ length-map (output_nets circuit.pads) _ ∙ outputs;
    bits = λ output byte e.
        let net = mapped (λ n. level_byte (v n)) (output_nets circuit.pads) output byte (ap (λ l. slice_get l output) (sym (bytes_of_nets circuit.pads v)) ∙ e) in
        subst (λ b. Tells b (Language spec output (take t vectors))) net.2
        (tells (v net.0) (Language spec output (take t vectors))
        (is.sure (lows (length spec.lines)) vectors (length_lows (length spec.lines))
        (subst (λ n. IsWordOf n vectors) width (right_widths (input_count circuit.pads) vectors none))
        vs (low_run circuit (length spec.lines) vectors vs run) t output net.0 v at net.1));
  }

  pub tells_languages : (output : List ℕ) → first_wrong circuit vectors ≡ None → TraceLines circuit vectors output → TellsLanguages spec vectors output
  tells_languages output none shown = record {
    lines = map (output_bytes circuit.pads) shown.levels;
    count = length-map shown.levels (output_bytes circuit.pads) ∙ run_size circuit vectors shown.levels shown.run;
    whole = shown.lines ∙ numbered circuit 0 shown.levels;
    words = λ t bytes e.
        let line = mapped (output_bytes circuit.pads) shown.levels t bytes e in
        subst (λ b. TellsWord spec (take t vectors) b) line.2 (tells_word shown.levels none shown.run t line.0 line.1);
  }
