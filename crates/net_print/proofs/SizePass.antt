-- The pass over sizes finds nothing in the tree of a printed text.
use Rattle.std.proofs.Common.{◌≡◌, ◌∙◌, ℕ, zero, suc, ◌+◌, ◌-◌, ◌*◌, ◌<◌, ◌≤◌, Bool, true, cond, List, [], ◌∷◌, ◌++◌, map, filter, sum, length, get_or, None, refl, sym, ap, subst, arith}
use Rattle.std.specs.List.{range_with_len}
use Rattle.std.proofs.lemmas.List.{map-append, map-id, length-map}
use Rattle.std.proofs.lemmas.List.Elements.{filter-append}
use Rattle.std.proofs.lemmas.List.FromFn.{map-range_with_len_more}
use Rattle.std.proofs.lemmas.List.Sums.{sum_by-append, sum_by-cons}
use Rattle.maid_model.specs.Names.{NamesView}
use Rattle.maid_model.specs.Nodes.{node_at, states_of, rows_of, decisions_of, is_decision}
use Rattle.finite_sums.specs.Sums.{nat_sum_over}
use Rattle.maid_model.specs.Views.{DiagramView}
use Rattle.net_build.specs.Blocks as look
use Rattle.net_build.specs.declared.nodes.Head.{Head}
use Rattle.net_build.specs.Linking.{rules_before, rules_row, size_steps_at}
use Rattle.net_build.specs.Stages.{cells_of_head, head_at, head_of, heads_of}
use Rattle.net_build.specs.Table.{size_pass}
use Rattle.net_parser.specs.Trees.{BlockTree}
use Rattle.net_print.proofs.ClearPasses.{only_clear}
use Rattle.net_print.proofs.Comments.{IsPrintableBehind, text_of}
use Rattle.net_print.proofs.CountsTold.{head_kinds, head_cells}
use Rattle.net_print.proofs.Faultless.{each_clear}
use Rattle.net_print.proofs.TablesTold.{blocks_count}
use Rattle.net_print.proofs.Texts.{numbers_below}
use Rattle.net_print.proofs.Tree.{tree_of}

-- a sum over a list
sum_is : (f : ℕ → ℕ) (vs : List ℕ) → sum (map f vs) ≡ nat_sum_over f vs
sum_is f [] = refl
sum_is f (v ∷ vs) = sum_by-cons (λ x. x) (f v) (map f vs) ∙ ap (λ n. f v + n) (sum_is f vs)

no_more : (n most : ℕ) → n ≤ most → most < n → ⊥
no_more n most h k = omega arith

-- the sum over those of the first n numbers that a test keeps
abbrev front : (ℕ → ℕ) → (ℕ → Bool) → ℕ → ℕ
front f p n = sum (map f (filter p (range_with_len 0 n)))

front_next : (f : ℕ → ℕ) (p : ℕ → Bool) (n : ℕ) → front f p (n + 1) ≡ front f p n + sum (map f (filter p (n ∷ [])))
front_next f p n =
    ap (λ vs. sum (map f (filter p vs))) (sym (map-id (range_with_len 0 (n + 1))) ∙ map-range_with_len_more (λ v. v) 0 n n (omega arith) ∙ ap (λ vs. vs ++ n ∷ []) (map-id (range_with_len 0 n)))
    ∙ ap (λ vs. sum (map f vs)) (filter-append p (range_with_len 0 n) (n ∷ []))
    ∙ ap sum (map-append f (filter p (range_with_len 0 n)) (filter p (n ∷ [])))
    ∙ sum_by-append (λ x. x) (map f (filter p (range_with_len 0 n))) (map f (filter p (n ∷ [])))

front_up : (f : ℕ → ℕ) (p : ℕ → Bool) (n k : ℕ) → front f p n ≤ front f p (n + k)
front_up f p n zero = subst (λ m. front f p n ≤ front f p m) (let e : n ≡ n + 0 = omega arith in e) (omega arith)
front_up f p n (suc k) = subst (λ m. front f p n ≤ front f p m) (let e : n + k + 1 ≡ n + suc k = omega arith in e) (let rec : front f p n ≤ front f p (n + k) = front_up f p n k in let more = front_next f p (n + k) in omega arith)

-- where the test keeps n, it counts with those before it
front_with : (f : ℕ → ℕ) (p : ℕ → Bool) (n whole : ℕ) → p n ≡ true → n < whole → front f p n + f n ≤ front f p whole
front_with f p n whole kept h =
    let last : sum (map f (filter p (n ∷ []))) ≡ f n + 0 = ap (λ b. sum (map f (cond b (n ∷ []) []))) kept ∙ sum_by-cons (λ x. x) (f n) [] in
    let next = front_next f p n in
    let up : front f p (n + 1) ≤ front f p (n + 1 + (whole - (n + 1))) = front_up f p (n + 1) (whole - (n + 1)) in
    let e : n + 1 + (whole - (n + 1)) ≡ whole = omega arith in
    let up_to : front f p (n + 1) ≤ front f p whole = subst (λ m. front f p (n + 1) ≤ front f p m) e up in
    omega arith

module _ (d : DiagramView) (names : NamesView) (is : IsPrintableBehind d names) where
  abbrev Blocks : List BlockTree
  Blocks = tree_of d names is

  abbrev Heads : List Head
  Heads = heads_of (text_of d names is) (look.node_blocks Blocks)

  abbrev Lists : List (List ℕ)
  Lists = look.parent_lists (text_of d names is) Blocks

  abbrev cells : ℕ → ℕ
  cells v = rows_of d.nodes v * states_of d.nodes v

  count : length Heads ≡ length d.nodes
  count = length-map (look.node_blocks Blocks) (head_of (text_of d names is) (look.node_blocks Blocks)) ∙ blocks_count d names is

  -- the rules of the first nodes are those of the diagram
  rules_are : (n : ℕ) → rules_before Heads Lists n ≡ front cells (λ v. is_decision (node_at d.nodes v).kind) n
  rules_are n = λ i. front (head_cells d names is i) (λ v. is_decision (head_kinds d names is v i)) n

  few_rules : (v : ℕ) → v < length d.nodes → is_decision (head_at Heads v).kind ≡ true → rules_before Heads Lists v + cells_of_head Heads Lists v ≤ 262144
  few_rules v l decides =
      let with_it = front_with cells (λ u. is_decision (node_at d.nodes u).kind) v (length d.nodes) (sym (ap is_decision (head_kinds d names is v)) ∙ decides) l in
      let here : rules_before Heads Lists v + cells_of_head Heads Lists v ≡ front cells (λ u. is_decision (node_at d.nodes u).kind) v + cells v = λ i. rules_are v i + head_cells d names is i v in
      let all = sum_is cells (decisions_of d.nodes) in
      let most = is.diagram.limits.rules in
      omega arith

  row_clear : (v : ℕ) → v < length Heads → size_steps_at Heads Lists v None
  row_clear v h =
      let l : v < length d.nodes = omega (arith, h, count) in (
        no_more (cells_of_head Heads Lists v) 65536 (subst (λ f. f v ≤ 65536) (sym (head_cells d names is)) (is.diagram.limits.cells v l)),
        only_clear (is_decision (head_at Heads v).kind) (rules_row (head_at Heads v) (rules_before Heads Lists v + cells_of_head Heads Lists v)) (λ decides. no_more (rules_before Heads Lists v + cells_of_head Heads Lists v) 262144 (few_rules v l decides)),
      )

  pub sizes_clear : size_pass (text_of d names is) Blocks None
  unfolding size_pass
  sizes_clear = each_clear (size_steps_at Heads Lists) (range_with_len 0 (length Heads)) (λ k e h. row_clear (get_or (range_with_len 0 (length Heads)) k e) (numbers_below (length Heads) k e h))
