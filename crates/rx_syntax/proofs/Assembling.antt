-- The statements of a specification, one after another.
use Rattle.std.proofs.Common.{◌≡◌, ◌∙◌, ℕ, ◌≤◌, List, [], ◌∷◌, ◌++◌, length, map, flat_map, take, refl, sym, ap, append_assoc, codes}
use Rattle.std.proofs.lemmas.List.{take_all}
use Rattle.rx_lang.specs.Tables.{Tables, specification}
use Rattle.rx_lang.specs.VectorWords.{node_tree}
use Rattle.rx_lang.specs.Expression.{Expr}
use Rattle.rx_syntax.specs.Pieces.{node_statement}
use Rattle.rx_syntax.specs.Printed.{names_text, needs_version_2, printed, statement_text, symbol_text, version_text}

flat_map-map : {X Y A : Type 0} (f : Y → List A) (h : X → Y) (xs : List X) → flat_map f (map h xs) ≡ flat_map (λ x. f (h x)) xs
flat_map-map f h [] = refl
flat_map-map f h (x ∷ xs) = ap (λ t. f (h x) ++ t) (flat_map-map f h xs)

-- what is put for each of a list, all of which were gone through
pub gone_through : {X A : Type 0} (f : X → List A) (read whole : List X) (n : ℕ) → read ≡ whole → length read ≤ n → flat_map f (take n read) ≡ flat_map f whole
gone_through f read whole n same past = ap (flat_map f) (take_all n read past ∙ same)

pub assembled : (tables : Tables) (start head lines symbols outputs exprs scans : List ℕ) → start ≡ []
    → head ≡ start ++ version_text (needs_version_2 (specification tables)) → lines ≡ head ++ names_text (codes "line") tables.lines
    → symbols ≡ lines ++ flat_map symbol_text tables.symbols → outputs ≡ symbols ++ names_text (codes "output") tables.outputs
    → exprs ≡ outputs ++ flat_map (node_statement tables (codes "expr")) tables.exprs
    → scans ≡ exprs ++ flat_map (node_statement tables (codes "scan")) tables.scans → scans ≡ printed (specification tables)
assembled tables start head lines symbols outputs exprs scans none zeroth first second third fourth fifth =
    let version = version_text (needs_version_2 (specification tables)) in
    let line = names_text (codes "line") tables.lines in
    let symbol = flat_map symbol_text tables.symbols in
    let output = names_text (codes "output") tables.outputs in
    let of : List ℕ → Expr → List ℕ = statement_text (map (λ s. s.name) tables.symbols) tables.outputs in
    let expr = flat_map (of (codes "expr")) (map (node_tree tables) tables.exprs) in
    let scan = flat_map (of (codes "scan")) (map (node_tree tables) tables.scans) in
    let begun : head ≡ version = zeroth ∙ ap (λ t. t ++ version) none in
    let exprs_are : exprs ≡ outputs ++ expr = fourth ∙ ap (λ t. outputs ++ t) (sym (flat_map-map (of (codes "expr")) (node_tree tables) tables.exprs)) in
    let scans_are : scans ≡ exprs ++ scan = fifth ∙ ap (λ t. exprs ++ t) (sym (flat_map-map (of (codes "scan")) (node_tree tables) tables.scans)) in
    scans_are
    ∙ ap (λ t. t ++ scan) (exprs_are ∙ ap (λ t. t ++ expr) (third ∙ ap (λ t. t ++ output) (second ∙ ap (λ t. t ++ symbol) (first ∙ ap (λ t. t ++ line) begun))))
    ∙ append_assoc (((version ++ line) ++ symbol) ++ output) expr scan
    ∙ append_assoc ((version ++ line) ++ symbol) output (expr ++ scan)
    ∙ append_assoc (version ++ line) symbol (output ++ (expr ++ scan))
    ∙ append_assoc version line (symbol ++ (output ++ (expr ++ scan)))
