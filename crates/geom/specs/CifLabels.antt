-- Names of layers in CIF texts, and labels: user extensions `94 NAME x y LAYER` whose words are separated by spaces.
use Rattle.std.specs.Prelude.{◌≡◌, ℕ, ◌==◌, Bool, true, false, ℤ, pos, ◌*ℤ◌, List, [], ◌∷◌, ◌++◌, filter, find, Option, Some, None, is_some, IfSome, bytes_eq, if◌then◌else◌, codes}
use Rattle.rx_text.specs.Name.{is_name}
use Rattle.rx_text.specs.Role.{NamedRole, bears_name}
use Rattle.rx_text.specs.declared.pad_name.Role.{Role}
use Rattle.rx_text.specs.declared.pad_name.Role.TheVariants.{Vdd, Gnd, Phi1, Phi2, Reset, Input, Output}
use Rattle.geom.specs.declared.layer.Layer.{Layer}
use Rattle.geom.specs.declared.layer.Layer.TheVariants.{Diffusion, Poly, Metal, Cut, Implant}
use Rattle.geom.specs.declared.chip.Label.{Label}
use Rattle.geom.specs.CifCommands.{WritesSigned}

-- the short name of a layer
abbrev pub layer_word : Layer → List ℕ
layer_word Diffusion = codes "ND"
layer_word Poly = codes "NP"
layer_word Metal = codes "NM"
layer_word Cut = codes "NC"
layer_word Implant = codes "NI"

-- the layer of a short name
abbrev pub layer_named : List ℕ → Option Layer
layer_named name = find (λ layer. bytes_eq (layer_word layer) name) (Diffusion ∷ Poly ∷ Metal ∷ Cut ∷ Implant ∷ [])

-- the layers on which labels stand
abbrev pub bears_labels : Layer → Bool
bears_labels Diffusion = true
bears_labels Poly = true
bears_labels Metal = true
bears_labels Cut = false
bears_labels Implant = false

-- `VDD`, `GND`, `PHI1`, `PHI2`, `RESET`, `IN:` or `OUT:`
abbrev pub pad_word : Role → List ℕ
pad_word Vdd = codes "VDD"
pad_word Gnd = codes "GND"
pad_word Phi1 = codes "PHI1"
pad_word Phi2 = codes "PHI2"
pad_word Reset = codes "RESET"
pad_word Input = codes "IN:"
pad_word Output = codes "OUT:"

-- the name of the line or output, where there is one
abbrev pub own_word : Option (List ℕ) → List ℕ
own_word None = []
own_word (Some name) = name

-- `VDD` and so on, or `IN:` or `OUT:` with a name
abbrev pub label_word : NamedRole → List ℕ
label_word pad = pad_word pad.role ++ own_word pad.name

-- The pad bears a name exactly where its role does, and it is one of the specification language.
abbrev pub IsPadName : NamedRole → Type 0
IsPadName pad = (bears_name pad.role ≡ is_some pad.name) × IfSome pad.name (λ name. is_name name ≡ true)

-- a byte at the front of the first word
abbrev pub with_byte : ℕ → List (List ℕ) → List (List ℕ)
with_byte byte [] = (byte ∷ []) ∷ []
with_byte byte (word ∷ words) = (byte ∷ word) ∷ words

-- the text cut at each space
abbrev pub cut_at_spaces : List ℕ → List (List ℕ)
cut_at_spaces [] = [] ∷ []
cut_at_spaces (byte ∷ bytes) = if byte == 32 then [] ∷ cut_at_spaces bytes else with_byte byte (cut_at_spaces bytes)

abbrev pub has_bytes : List ℕ → Bool
has_bytes [] = false
has_bytes (byte ∷ bytes) = true

-- the words of a text, separated by spaces
abbrev pub label_words : List ℕ → List (List ℕ)
label_words text = filter has_bytes (cut_at_spaces text)

-- The text is `94`, the name of this pad, and these words.
abbrev pub NamesPad : List ℕ → NamedRole → List (List ℕ) → Type 0
NamesPad text pad behind = IsPadName pad × (label_words text ≡ codes "94" ∷ label_word pad ∷ behind)

-- The text is this label, whose square is named in λ and written in units.
pub record IsLabel (text : List ℕ) (label : Label) : Type 0 where
  pub x : List ℕ
  pub y : List ℕ
  pub names : NamesPad text label.pad (x ∷ y ∷ layer_word label.layer ∷ [])
  pub across : WritesSigned (pos 200 *ℤ label.x) x
  pub upward : WritesSigned (pos 200 *ℤ label.y) y
  pub bears : bears_labels label.layer ≡ true
