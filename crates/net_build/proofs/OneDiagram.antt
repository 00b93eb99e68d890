-- A tree stands for one diagram: names, kinds, owners, states and parents are those of the blocks,
-- and each table is the only one.
use Rattle.std.proofs.Common.{◌≡◌, ◌<◌, ℕ, ℤ, List, [], ◌∷◌, map, length, get_or, drop, refl, sym, ap, subst, ◌∙◌}
use Rattle.std.proofs.lemmas.List.{ext_get_or}
use Rattle.maid_model.specs.declared.diagrams.Kind.{Kind}
use Rattle.maid_model.specs.declared.diagrams.Kind.TheVariants.{Chance, Decision, Utility}
use Rattle.maid_model.specs.Names.{NamesView}
use Rattle.maid_model.specs.Views.{NodeView, DiagramView}
use Rattle.net_lexer.specs.Token.{token_bytes}
use Rattle.net_parser.specs.Trees.{BlockTree}
use Rattle.net_build.specs.Blocks.{node_blocks, kind_of, block_states, block_numbers}
use Rattle.net_build.specs.Building.{AreChanceCells, IsTableFrom, AreTables, StandsFor}
use Rattle.net_build.specs.Table.{no_block}
use Rattle.net_build.proofs.OneDecimal.{utility_cells_once}
use Rattle.net_build.proofs.OneOutcome.{scale_once}

-- chance cells of these numerals are the only ones
abbrev pub OneChance : ℕ → List (List ℕ) → Type 0
OneChance states numerals = (cells others : List ℤ) → AreChanceCells states numerals cells → AreChanceCells states numerals others → cells ≡ others

table_once : (kind : Kind) (scale states : ℕ) (numerals : List (List ℕ)) → (kind ≡ Chance → OneChance states numerals) → (cells others : List ℤ) → IsTableFrom kind scale states numerals cells → IsTableFrom kind scale states numerals others → cells ≡ others
table_once Chance scale states numerals chance cells others h k = chance refl cells others h k
table_once Decision scale states numerals chance cells others h k = h ∙ sym k
table_once Utility scale states numerals chance cells others h k = utility_cells_once scale numerals cells others h k

-- nodes of one kind, list of owners, count of states, list of parents and table are one
same_node : (x y : NodeView) → x.kind ≡ y.kind → x.owner ∷ x.more ≡ y.owner ∷ y.more → x.states ≡ y.states → x.parents ≡ y.parents → x.cells ≡ y.cells → x ≡ y
same_node x y kind owners states parents cells =
    let first : x.owner ≡ y.owner = ap (λ l. get_or l 0 0) owners in
    let others : x.more ≡ y.more = ap (drop 1) owners in
    λ j. record { kind = kind j; owner = first j; more = others j; states = states j; parents = parents j; cells = cells j }

cons_same : {X : Type 0} (x y : X) (xs ys : List X) → x ∷ xs ≡ y ∷ ys → (x ≡ y) × (xs ≡ ys)
cons_same x y xs ys e = (cc, cc)

same_nodes : (xs ys : List NodeView) → map (λ n. n.kind) xs ≡ map (λ n. n.kind) ys → map (λ n. n.owner ∷ n.more) xs ≡ map (λ n. n.owner ∷ n.more) ys → map (λ n. n.states) xs ≡ map (λ n. n.states) ys
    → map (λ n. n.parents) xs ≡ map (λ n. n.parents) ys → map (λ n. n.cells) xs ≡ map (λ n. n.cells) ys → xs ≡ ys
same_nodes [] [] a b c d e = refl
same_nodes [] (y ∷ ys) a b c d e = cc
same_nodes (x ∷ xs) [] a b c d e = cc
same_nodes (x ∷ xs) (y ∷ ys) a b c d e =
    let kinds = cons_same x.kind y.kind (map (λ n. n.kind) xs) (map (λ n. n.kind) ys) a in
    let owners = cons_same (x.owner ∷ x.more) (y.owner ∷ y.more) (map (λ n. n.owner ∷ n.more) xs) (map (λ n. n.owner ∷ n.more) ys) b in
    let states = cons_same x.states y.states (map (λ n. n.states) xs) (map (λ n. n.states) ys) c in
    let parents = cons_same x.parents y.parents (map (λ n. n.parents) xs) (map (λ n. n.parents) ys) d in
    let cells = cons_same x.cells y.cells (map (λ n. n.cells) xs) (map (λ n. n.cells) ys) e in
    ap (λ n. n ∷ xs) (same_node x y kinds.0 owners.0 states.0 parents.0 cells.0) ∙ ap (λ ns. y ∷ ns) (same_nodes xs ys kinds.1 owners.1 states.1 parents.1 cells.1)

same_diagram : (d e : DiagramView) → d.nodes ≡ e.nodes → d.agents ≡ e.agents → d.decimals ≡ e.decimals → d ≡ e
same_diagram d e nodes agents decimals =
    let make : List NodeView → ℕ → ℕ → DiagramView = λ n a s. record { nodes = n; agents = a; decimals = s } in
    ap (λ n. make n d.agents d.decimals) nodes ∙ ap (λ a. make e.nodes a d.decimals) agents ∙ ap (λ s. make e.nodes e.agents s) decimals

module _ (text : List ℕ) (blocks : List BlockTree) where
  -- the block of node v, and its numerals
  abbrev pub block_at : ℕ → BlockTree
  block_at v = get_or (node_blocks blocks) v no_block

  abbrev pub numerals_at : ℕ → List (List ℕ)
  numerals_at v = map (token_bytes text) (block_numbers text blocks (block_at v))

  -- the cells of each chance node are the only ones
  abbrev pub OneChanceEach : Type 0
  OneChanceEach = (v : ℕ) → v < length (node_blocks blocks) → kind_of (block_at v).kind ≡ Chance → OneChance (block_states text (block_at v)) (numerals_at v)

  tables_once : OneChanceEach → (scale : ℕ) (tables others : List (List ℤ)) → AreTables text blocks scale tables → AreTables text blocks scale others → tables ≡ others
  tables_once chance scale tables others h k =
      let len = h.len ∙ sym k.len in
      ext_get_or [] tables others len
      (λ v l. table_once (kind_of (block_at v).kind) scale (block_states text (block_at v)) (numerals_at v) (chance v (subst (λ n. v < n) h.len l)) (get_or tables v []) (get_or others v []) (h.each v l) (k.each v (subst (λ n. v < n) len l)))

  pub diagram_once : OneChanceEach → (d e : DiagramView) (names others : NamesView) → StandsFor text blocks d names → StandsFor text blocks e others → (d ≡ e) × (names ≡ others)
  diagram_once chance d e names others h k =
      let scales = scale_once text blocks d.decimals e.decimals h.scale k.scale in
      let moved = subst (λ s. AreTables text blocks s (map (λ n. n.cells) d.nodes)) scales h.tables in
      let tables = tables_once chance e.decimals (map (λ n. n.cells) d.nodes) (map (λ n. n.cells) e.nodes) moved k.tables in
      let nodes = same_nodes d.nodes e.nodes (h.kinds ∙ sym k.kinds) (h.owners ∙ sym k.owners) (h.states ∙ sym k.states) (h.parents ∙ sym k.parents) tables in
      (same_diagram d e nodes (h.agents ∙ sym k.agents) scales, h.names_are ∙ sym k.names_are)
