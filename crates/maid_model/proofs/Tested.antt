-- What passes the tests of a diagram, of a rule or of a profile is one.
use Rattle.std.proofs.Common.{◌≡◌, ◌≢◌, ◌∙◌, ◌⊎◌, ℕ, zero, suc, ◌+◌, ◌*◌, ◌<◌, ◌≤◌, Bool, true, false, ◌&&◌, not, eqb, ltb, leb, List, [], ◌∷◌, length, get_or, slice_index_or, map, refl, sym, ap, subst, inl, inr, arith, Contains, All, ℤ, pos, negsuc, ◌≤ℤ◌, nat_abs, ltb-true, leb-true, eqb-true, eq-eqb}
use Rattle.std.proofs.lemmas.Int.{ints}
use Rattle.std.proofs.lemmas.List.Sums.{AllPass-from_list_all}
use Rattle.std.specs.List.{list_all, range_with_len}
use Rattle.maid_model.specs.declared.diagrams.Kind.{Kind}
use Rattle.maid_model.specs.declared.diagrams.Kind.TheVariants.{Chance, Decision, Utility}
use Rattle.maid_model.specs.Views.{NodeView, DiagramView, RuleView}
use Rattle.maid_model.specs.Nodes.{no_node, node_at, states_of, parents_of, owners_of, Owns, rows_of, decisions_of, is_utility}
use Rattle.maid_model.specs.Graph.{Arc, IsPath, Here, Along, IsAcyclic, AllDifferent, IsGraph}
use Rattle.finite_sums.specs.Sums.{sum_below, nat_sum_over}
use Rattle.maid_model.specs.Tables.{IsTable, HasChanceTables, chance_total}
use Rattle.maid_model.specs.Profiles.{IsRule, IsProfile}
use Rattle.maid_model.specs.Diagrams.{IsDiagram, HasOwners, HasValues, KeepsLimits, greatest_number}
use Rattle.maid_model.specs.Tested.{all_true, differ, from_nought, comes_to, table_tests, kind_tests, node_tests, diagram_tests, rule_tests, rule_at}
use Rattle.finite_sums.proofs.Members.{contains_from_among, one_member, range_has}
use Rattle.maid_model.proofs.Members.{decision_listed}

-- test number k of a list of tests
nth : (tests : List Bool) → all_true tests ≡ true → (k : ℕ) → k < length tests → get_or tests k false ≡ true
nth tests e k l = AllPass-from_list_all (λ test. test) tests e k false l

-- a test of all members, at a member
at_member : (test : ℕ → Bool) (xs : List ℕ) → list_all test xs ≡ true → (x : ℕ) → Contains xs x → test x ≡ true
at_member test xs e x (k, l, f) = subst (λ y. test y ≡ true) f (AllPass-from_list_all test xs e k x l)

-- a test of all numbers below n, at one of them
below : (test : ℕ → Bool) (n : ℕ) → list_all test (range_with_len 0 n) ≡ true → (v : ℕ) → v < n → test v ≡ true
below test n e v l = at_member test (range_with_len 0 n) e v (contains_from_among (range_with_len 0 n) v (range_has 0 n v (omega arith) (omega arith)))

not_both : (b : Bool) → not b ≡ true → b ≡ true → ⊥
not_both true e f = cc
not_both false e f = cc

both : (a b : Bool) → (a && b) ≡ true → (a ≡ true) × (b ≡ true)
both true b e = (refl, e)
both false b e = absurd (cc)

different : (xs : List ℕ) → differ xs ≡ true → AllDifferent xs
different [] e = tt
different (x ∷ xs) e = let b = both (list_all (λ y. not (eqb x y)) xs) (differ xs) e in ((λ c. not_both (eqb x x) (at_member (λ y. not (eqb x y)) xs b.0 x c) (eq-eqb x x refl)), different xs b.1)

-- ---- tables and rules
from_nought_true : (z : ℤ) → from_nought z ≡ true → pos 0 ≤ℤ z
from_nought_true (pos n) e = omega (arith, ints)
from_nought_true (negsuc n) e = absurd (cc)

comes_to_true : (z : ℤ) (total : ℕ) → comes_to z total ≡ true → z ≡ pos total
comes_to_true (pos n) total e = ap pos (eqb-true n total e)
comes_to_true (negsuc n) total e = absurd (cc)

not_negative : (cells : List ℤ) → list_all from_nought cells ≡ true → (i : ℕ) → pos 0 ≤ℤ slice_index_or cells i (pos 0)
not_negative [] e i = omega (arith, ints)
not_negative (x ∷ xs) e zero = from_nought_true x (both (from_nought x) (list_all from_nought xs) e).0
not_negative (x ∷ xs) e (suc i) = not_negative xs (both (from_nought x) (list_all from_nought xs) e).1 i

module _ (cells : List ℤ) (rows states total : ℕ) where
  is_table : all_true (table_tests cells rows states total) ≡ true → IsTable cells rows states total
  is_table e = record {
    len = eqb-true (length cells) (rows * states) (at 0 (omega arith));
    not_negative = not_negative cells (at 1 (omega arith));
    row = λ r l. comes_to_true (sum_below states (λ s. slice_index_or cells (r * states + s) (pos 0))) total (below (λ q. comes_to (sum_below states (λ s. slice_index_or cells (q * states + s) (pos 0))) total) rows (at 2 (omega arith)) r l);
  }
    where
      at : (k : ℕ) → k < 3 → get_or (table_tests cells rows states total) k false ≡ true
      at = nth (table_tests cells rows states total) e

pub tests_rules : (nodes : List NodeView) (r : RuleView) → all_true (rule_tests nodes r) ≡ true → IsRule nodes r
tests_rules nodes r e = record {
  positive = ltb-true 0 r.total (nth (rule_tests nodes r) e 0 (omega arith));
  table = is_table (map pos r.weights) (rows_of nodes r.decision) (states_of nodes r.decision) r.total (nth (rule_tests nodes r) e 1 (omega arith));
}

pub tests_profiles : (nodes : List NodeView) (p : List RuleView) → map (λ r. r.decision) p ≡ decisions_of nodes → list_all (λ v. all_true (rule_tests nodes (rule_at p v))) (decisions_of nodes) ≡ true → IsProfile nodes p
tests_profiles nodes p decisions e = record {
  decisions = decisions;
  rule = λ v d. tests_rules nodes (rule_at p v) (at_member (λ u. all_true (rule_tests nodes (rule_at p u))) (decisions_of nodes) e v (contains_from_among (decisions_of nodes) v (decision_listed nodes v d)));
}

-- ---- where arcs lead to greater numbers there is no cycle
module _ (R : ℕ → ℕ → Type 0) (up : (u v : ℕ) → R u v → u < v) where
  -- by induction over the path
  path_up : {to v : ℕ} → IsPath R v to → v ≤ to
  path_up Here = omega arith
  path_up (Along {u = u} {v = v} a p) = let x : u < v = up u v a in let y = path_up p in omega arith

  acyclic_up : IsAcyclic R
  acyclic_up v (next, a, p) = let x : v < next = up v next a in let y : next ≤ v = path_up p in omega arith

-- a number without a node
beyond : {X : Type 0} (xs : List X) (v : ℕ) (o : X) → length xs ≤ v → slice_index_or xs v o ≡ o
beyond [] v o l = refl
beyond (x ∷ xs) zero o l = absurd (omega arith)
beyond (x ∷ xs) (suc v) o l = beyond xs v o (omega arith)

within_or_not : (v n : ℕ) → (v < n) ⊎ (n ≤ v)
within_or_not v n = grind arith

empty : {X : Type 0} (xs : List X) → length xs ≡ 0 → xs ≡ []
empty [] e = refl
empty (x ∷ xs) e = absurd (omega arith)

module _ (d : DiagramView) (e : all_true (diagram_tests d) ≡ true) where
  abbrev nodes : List NodeView
  nodes = d.nodes

  -- what holds of each node and of none holds at every number
  anywhere : (P : NodeView → Type 0) → P no_node → ((v : ℕ) → v < length nodes → P (node_at nodes v)) → (v : ℕ) → P (node_at nodes v)
  anywhere P none each v = go (within_or_not v (length nodes))
    where
      go : (v < length nodes) ⊎ (length nodes ≤ v) → P (node_at nodes v)
      go (inl l) = each v l
      go (inr m) = subst P (sym (beyond nodes v no_node m)) none

  -- where a number without a node is excluded, there is a node
  is_node : (v : ℕ) → (node_at nodes v ≡ no_node → ⊥) → v < length nodes
  is_node v n = go (within_or_not v (length nodes))
    where
      go : (v < length nodes) ⊎ (length nodes ≤ v) → v < length nodes
      go (inl l) = l
      go (inr m) = absurd (n (beyond nodes v no_node m))

  -- whoever has a parent is a node, and so is what is no utility
  has_node : (u v : ℕ) → Arc nodes u v → v < length nodes
  has_node u v a = is_node v (λ f. none (subst (λ (n : NodeView). Contains n.parents u) f a))
    where
      none : Contains {X = ℕ} [] u → ⊥
      none (k, l, f) = absurd (omega arith)

  kind_node : (k : Kind) → k ≢ Utility → (v : ℕ) → (node_at nodes v).kind ≡ k → v < length nodes
  kind_node k n v f = is_node v (λ g. n (sym f ∙ ap (λ m. m.kind) g))

  of_diagram : (k : ℕ) → k < 5 → get_or (diagram_tests d) k false ≡ true
  of_diagram = nth (diagram_tests d) e

  of_node : (v : ℕ) → v < length nodes → (k : ℕ) → k < 8 → get_or (node_tests d v) k false ≡ true
  of_node v l = nth (node_tests d v) (below (λ u. all_true (node_tests d u)) (length nodes) (of_diagram 0 (omega arith)) v l)

  of_kind : (k : Kind) (v : ℕ) → v < length nodes → (node_at nodes v).kind ≡ k → all_true (kind_tests k d v) ≡ true
  of_kind k v l f = subst (λ m. all_true (kind_tests m d v) ≡ true) f (of_node v l 7 (omega arith))

  of_chance : (v : ℕ) → (node_at nodes v).kind ≡ Chance → (k : ℕ) → k < 5 → get_or (kind_tests Chance d v) k false ≡ true
  of_chance v f = nth (kind_tests Chance d v) (of_kind Chance v (kind_node Chance (λ g. cc) v f) f)

  of_decision : (v : ℕ) → (node_at nodes v).kind ≡ Decision → (k : ℕ) → k < 3 → get_or (kind_tests Decision d v) k false ≡ true
  of_decision v f = nth (kind_tests Decision d v) (of_kind Decision v (kind_node Decision (λ g. cc) v f) f)

  of_utility : (v : ℕ) → v < length nodes → (node_at nodes v).kind ≡ Utility → (k : ℕ) → k < 5 → get_or (kind_tests Utility d v) k false ≡ true
  of_utility v l f = nth (kind_tests Utility d v) (of_kind Utility v l f)

  up : (u v : ℕ) → Arc nodes u v → u < v
  up u v a = ltb-true u v (at_member (λ w. ltb w v) (parents_of nodes v) (of_node v (has_node u v a) 0 (omega arith)) u a)

  kept : (u v : ℕ) → Arc nodes u v → (node_at nodes u).kind ≢ Utility
  kept u v a f = not_both (is_utility (node_at nodes u).kind) (at_member (λ w. not (is_utility (node_at nodes w).kind)) (parents_of nodes v) (of_node v (has_node u v a) 1 (omega arith)) u a) (ap is_utility f)

  graph : IsGraph nodes
  graph = record {
    parents_known = λ u v a. let l : u < v = up u v a in let m : v < length nodes = has_node u v a in omega arith;
    parents_differ = anywhere (λ n. AllDifferent n.parents) tt (λ v l. different (parents_of nodes v) (of_node v l 2 (omega arith)));
    no_utility_parent = kept;
    has_state = anywhere (λ n. 0 < n.states) (omega arith) (λ v l. ltb-true 0 (states_of nodes v) (of_node v l 3 (omega arith)));
    utility_states = anywhere (λ n. n.kind ≡ Utility → n.states ≡ 1) (λ f. refl) (λ v l f. eqb-true (states_of nodes v) 1 (of_utility v l f 1 (omega arith)));
    acyclic = acyclic_up (Arc nodes) up;
  }

  alone : (v : ℕ) → (k : Kind) → (node_at nodes v).kind ≡ k → k ≢ Utility → (node_at nodes v).more ≡ []
  alone v Chance f n = empty (node_at nodes v).more (eqb-true (length (node_at nodes v).more) 0 (of_chance v f 4 (omega arith)))
  alone v Decision f n = empty (node_at nodes v).more (eqb-true (length (node_at nodes v).more) 0 (of_decision v f 2 (omega arith)))
  alone v Utility f n = absurd (n refl)

  owned : (v a : ℕ) → v < length nodes → (k : Kind) → (node_at nodes v).kind ≡ k → k ≢ Chance → Owns nodes a v → a < d.agents
  owned v a l Chance f n o = absurd (n refl)
  owned v a l Decision f n o = subst (λ x. x < d.agents) (sym (one_member a (node_at nodes v).owner (node_at nodes v).more (alone v Decision f (λ e. cc)) o)) (ltb-true (node_at nodes v).owner d.agents (of_decision v f 0 (omega arith)))
  owned v a l Utility f n o = ltb-true a d.agents (at_member (λ x. ltb x d.agents) (owners_of nodes v) (of_utility v l f 0 (omega arith)) a o)

  none_else : (v : ℕ) → (node_at nodes v).more ≡ [] → AllDifferent (owners_of nodes v)
  none_else v e = subst (λ m. AllDifferent ((node_at nodes v).owner ∷ m)) (sym e) ((λ c. absurd (no_member c)), tt)
    where
      no_member : Contains {X = ℕ} [] (node_at nodes v).owner → ⊥
      no_member (k, l, f) = absurd (omega arith)

  owners_differ : (v : ℕ) → AllDifferent (owners_of nodes v)
  owners_differ = anywhere (λ n. AllDifferent (n.owner ∷ n.more)) ((λ c. absurd (no_owner c)), tt) (λ v l. by_kind v l (node_at nodes v).kind refl)
    where
      no_owner : Contains {X = ℕ} [] 0 → ⊥
      no_owner (k, l, f) = absurd (omega arith)

      by_kind : (v : ℕ) → v < length nodes → (k : Kind) → (node_at nodes v).kind ≡ k → AllDifferent (owners_of nodes v)
      by_kind v l Chance f = none_else v (alone v Chance f (λ e. cc))
      by_kind v l Decision f = none_else v (alone v Decision f (λ e. cc))
      by_kind v l Utility f = different (owners_of nodes v) (of_utility v l f 4 (omega arith))

  owners : HasOwners nodes d.agents
  owners = record {
    agent = λ v a l n. owned v a l (node_at nodes v).kind refl n;
    differ = owners_differ;
    one = λ v n. alone v (node_at nodes v).kind refl n;
    chance = λ v f. eqb-true (node_at nodes v).owner 0 (of_chance v f 0 (omega arith));
  }

  tables : HasChanceTables nodes
  tables = record {
    positive = λ v f. ltb-true 0 (chance_total nodes v) (of_chance v f 1 (omega arith));
    table = λ v f. is_table (node_at nodes v).cells (rows_of nodes v) (states_of nodes v) (chance_total nodes v) (of_chance v f 3 (omega arith));
  }

  values : HasValues nodes
  values = record {
    utility = λ v l f. eqb-true (length (node_at nodes v).cells) (rows_of nodes v) (of_utility v l f 2 (omega arith));
    decision = λ v f. empty (node_at nodes v).cells (eqb-true (length (node_at nodes v).cells) 0 (of_decision v f 1 (omega arith)));
  }

  limits : KeepsLimits d
  limits = record {
    nodes = leb-true (length nodes) 256 (of_diagram 1 (omega arith));
    states = anywhere (λ n. n.states ≤ 256) (omega arith) (λ v l. leb-true (states_of nodes v) 256 (of_node v l 4 (omega arith)));
    parents = anywhere (λ n. length n.parents ≤ 16) (omega arith) (λ v l. leb-true (length (parents_of nodes v)) 16 (of_node v l 5 (omega arith)));
    cells = λ v l. leb-true (rows_of nodes v * states_of nodes v) 65536 (of_node v l 6 (omega arith));
    rules = leb-true (nat_sum_over (λ v. rows_of nodes v * states_of nodes v) (decisions_of nodes)) 262144 (of_diagram 2 (omega arith));
    totals = λ v f. leb-true (chance_total nodes v) greatest_number (of_chance v f 2 (omega arith));
    values = anywhere (λ n. n.kind ≡ Utility → All (λ x. nat_abs x ≤ greatest_number) n.cells) (λ f k o l. absurd (omega arith)) (λ v l f k o m. leb-true (nat_abs (slice_index_or (node_at nodes v).cells k o)) greatest_number (AllPass-from_list_all (λ x. leb (nat_abs x) greatest_number) (node_at nodes v).cells (of_utility v l f 3 (omega arith)) k o m));
    agents = leb-true d.agents 16 (of_diagram 3 (omega arith));
    decimals = leb-true d.decimals 30 (of_diagram 4 (omega arith));
  }

  -- field by field, each test at the number asked for
  pub tests_diagrams : IsDiagram d
  tests_diagrams = record { graph = graph; owners = owners; tables = tables; values = values; limits = limits }
