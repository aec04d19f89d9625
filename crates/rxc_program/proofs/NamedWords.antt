-- What the words of a command line name, by the first of them.
use Rattle.std.proofs.Common.{◌≡◌, ℕ, Bool, true, false, List, [], ◌∷◌, ◌++◌, map, Some, None, Ok, Err, length, codes, ◌==◌, cond, refl, sym, ap, subst, arith, if◌then◌else◌}
use Rattle.std.specs.Prelude.{find, fold, max, option_map, bytes_eq}
use Rattle.std.specs.List.{AllByRecursion}
use Rattle.std.proofs.lemmas.Bool.{ne_eqb}
use Rattle.std.proofs.lemmas.Slice.Eq.{bytes_eq-Decides}
use Rattle.rxc_program.specs.Naming.{HasLeafCount, Names, alone, lone_command}
use Rattle.rxc_program.specs.Words.{Usage, command_of, demo_usage, fits, goes_on, lone_commands, lone_usage, wrong_word}
use Rattle.rxc_program.specs.declared.words.Command.{Command}
use Rattle.rxc_program.specs.declared.words.Command.TheVariants.{Net, Pla, Tree, Extract, Sim, Report}

-- ---- the commands that one word names

-- what is so of each of them is so of the one that a word names
found : (P : List ℕ → Command → Type 0) (lones : List (List ℕ × Command)) → AllByRecursion (λ named. P named.0 named.1) lones
    → (word : List ℕ) (command : Command) → option_map (λ named. named.1) (find (λ named. bytes_eq word named.0) lones) ≡ Some command
    → P word command
found P [] all word command is = cc
found P (named ∷ lones) all word command is = by (found P lones all.1 word command) (bytes_eq word named.0) refl
  where
    by : (option_map (λ named. named.1) (find (λ named. bytes_eq word named.0) lones) ≡ Some command → P word command)
        → (same : Bool) → bytes_eq word named.0 ≡ same → P word command
    by later true same =
        let word_is : word ≡ named.0 = (bytes_eq-Decides word named.0).0 same in
        let is_named : option_map (λ other. other.1) (cond true (Some named) (find (λ other. bytes_eq word other.0) lones)) ≡ Some command =
        subst (λ b. option_map (λ other. other.1) (cond b (Some named) (find (λ other. bytes_eq word other.0) lones)) ≡ Some command) same is in
        let command_is : named.1 ≡ command = cc in
        subst (λ w. P w command) (sym word_is) (subst (λ c. P named.0 c) command_is all.0)
    by later false other =
        later (subst (λ b. option_map (λ o. o.1) (cond b (Some named) (find (λ o. bytes_eq word o.0) lones)) ≡ Some command) other is)

-- the word of such a command, alone or with others behind it
record NamesAlone (word : List ℕ) (command : Command) : Type 0 where
  one : Names (word ∷ []) (Ok command)
  more : (next : List ℕ) (rest : List (List ℕ)) → Names (word ∷ (next ∷ rest)) (Err 2)

alone_is : (word : List ℕ) (command : Command) → command_of (word ∷ []) ≡ Some command → HasLeafCount command → None ≡ wrong_word (word ∷ [])
    → ((next : List ℕ) (rest : List (List ℕ)) → Some 2 ≡ wrong_word (word ∷ (next ∷ rest))) → NamesAlone word command
alone_is word command named leaves right wrong = record {
  one = record { command = named; leaves = leaves; wrong = right };
  more = λ next rest. record { command = tt; leaves = tt; wrong = wrong next rest };
}

-- a line for each
names_alone : AllByRecursion (λ named. NamesAlone named.0 named.1) lone_commands
names_alone =
    let net = alone_is (codes "net") Net refl tt refl (λ next rest. refl) in
    let pla = alone_is (codes "pla") Pla refl tt refl (λ next rest. refl) in
    let tree = alone_is (codes "tree") Tree refl tt refl (λ next rest. refl) in
    let extract = alone_is (codes "extract") Extract refl tt refl (λ next rest. refl) in
    let sim = alone_is (codes "sim") Sim refl tt refl (λ next rest. refl) in
    let report = alone_is (codes "report") Report refl tt refl (λ next rest. refl) in
    (net, (pla, (tree, (extract, (sim, (report, tt))))))

pub lone_named : (word : List ℕ) (rest : List (List ℕ)) (command : Command) → lone_command word ≡ Some command
    → Names (word ∷ rest) (alone command (length rest))
lone_named word [] command is = (found NamesAlone lone_commands names_alone word command is).one
lone_named word (next ∷ rest) command is =
    let some : (length (next ∷ rest) == 0) ≡ false = ne_eqb (length (next ∷ rest)) 0 (λ e. absurd (omega (arith, e))) in
    subst (Names (word ∷ (next ∷ rest))) (ap (λ (b : Bool). if b then Ok command else Err 2) (sym some))
    ((found NamesAlone lone_commands names_alone word command is).more next rest)

-- ---- other words

module _ (word : List ℕ) (rest : List (List ℕ)) where
  -- none of these commands goes on with the word
  record GoesNowhere (lones : List (List ℕ × Command)) (more : List Usage) : Type 0 where
    unfit : find (λ usage. fits (word ∷ rest) usage.tests) (map lone_usage lones ++ more) ≡ find (λ usage. fits (word ∷ rest) usage.tests) more
    furthest : fold max 0 (map (λ usage. goes_on (word ∷ rest) usage.tests) (map lone_usage lones ++ more))
        ≡ fold max 0 (map (λ usage. goes_on (word ∷ rest) usage.tests) more)

  goes_nowhere : (more : List Usage) (lones : List (List ℕ × Command))
      → option_map (λ named. named.1) (find (λ named. bytes_eq word named.0) lones) ≡ None → GoesNowhere lones more
  goes_nowhere more [] none = record { unfit = refl; furthest = refl }
  goes_nowhere more (named ∷ lones) none = by (goes_nowhere more lones) (bytes_eq word named.0) refl
    where
      by : (option_map (λ named. named.1) (find (λ named. bytes_eq word named.0) lones) ≡ None → GoesNowhere lones more)
          → (same : Bool) → bytes_eq word named.0 ≡ same → GoesNowhere (named ∷ lones) more
      by rest_nowhere true same =
          let clash : Some named.1 ≡ None =
          subst (λ b. option_map (λ o. o.1) (cond b (Some named) (find (λ o. bytes_eq word o.0) lones)) ≡ None) same none in
          cc
      by rest_nowhere false other =
          let later =
          rest_nowhere (subst (λ b. option_map (λ o. o.1) (cond b (Some named) (find (λ o. bytes_eq word o.0) lones)) ≡ None) other none) in
          record { unfit = rw other later.unfit; furthest = rw other later.furthest }

  -- the word begins no command
  pub none_named : lone_command word ≡ None → bytes_eq word (codes "demo") ≡ false → Names (word ∷ rest) (Err 1)
  none_named none no_demo =
      let nowhere = goes_nowhere (demo_usage ∷ []) lone_commands none in
      record {
        command = tt;
        leaves = tt;
        wrong = rw (nowhere.unfit, nowhere.furthest, no_demo) refl;
      }
