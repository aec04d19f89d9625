-- Lines and outputs of an accepted specification bear names.
use Rattle.std.proofs.Common.{◌≡◌, ℕ, List, [], ◌∷◌, map, true, refl, sym, subst}
use Rattle.std.specs.Prelude.{All}
use Rattle.std.specs.List.{AllByRecursion}
use Rattle.std.proofs.lemmas.List.Elements.{All-from_recursion}
use Rattle.rx_lang.specs.Specification.{Specification}
use Rattle.rx_text.specs.Name.{is_name}
use Rattle.rx_syntax.specs.Lexemes.{word_of}
use Rattle.rx_syntax.specs.Accepted.{Accepted}
use Rattle.rx_syntax.specs.declared.version.Version.{Version}
use Rattle.rx_syntax.proofs.Bits.{IsPlainName}
use Rattle.rx_syntax.proofs.NameTokens.{short_word}
use Rattle.rx_syntax.proofs.PlainNames.{plain_names}
use Rattle.rx_syntax.proofs.PrintedText.{AllPlain}

plain_is_name : (version : Version) (word : List ℕ) → IsPlainName version word → is_name word ≡ true
plain_is_name version word plain =
    let short = short_word version word plain.kind in
    rw (short, plain.is, plain.letter, plain.goes) refl

all_names : (version : Version) (words : List (List ℕ)) → AllPlain version words → AllByRecursion (λ word. is_name word ≡ true) words
all_names version [] plain = tt
all_names version (word ∷ words) plain = (plain_is_name version word plain.0, all_names version words plain.1)

module _ (text : List ℕ) (limit : ℕ) (spec : Specification) (accepted : Accepted text limit spec) where
  pub lines_are_names : All (λ name. is_name name ≡ true) spec.lines
  lines_are_names =
      let names = plain_names text accepted.syntax accepted.says in
      let version = accepted.says.are_tokens.version in
      subst (λ s. All (λ name. is_name name ≡ true) s.lines) (sym accepted.is)
      (All-from_recursion _ _ (all_names version (map (word_of text) accepted.syntax.lines) names.lines))

  pub outputs_are_names : All (λ name. is_name name ≡ true) spec.outputs
  outputs_are_names =
      let names = plain_names text accepted.syntax accepted.says in
      let version = accepted.says.are_tokens.version in
      subst (λ s. All (λ name. is_name name ≡ true) s.outputs) (sym accepted.is)
      (All-from_recursion _ _ (all_names version (map (word_of text) accepted.syntax.outputs) names.outputs))
