-- What the sums over worlds use of a diagram, its tables and its profiles.
use Rattle.std.proofs.Common.{◌≡◌, ◌≢◌, ◌∙◌, ℕ, ◌<◌, ◌≤◌, Bool, true, false, cond, filter, List, [], ◌∷◌, length, refl, sym, ap, subst, inl, inr, ℤ, ◌*ℤ◌, arith}
use Rattle.std.proofs.Math.Decide.{dec_lt}
use Rattle.maid_model.specs.declared.diagrams.Kind.{Kind}
use Rattle.maid_model.specs.declared.diagrams.Kind.TheVariants.{Chance, Decision, Utility}
use Rattle.maid_model.specs.Relevance.{IsLive}
use Rattle.maid_model.specs.Nodes.{rows_under, node_at, states_of, numbers_of, is_utility}
use Rattle.finite_sums.specs.Sums.{World, product_over}
use Rattle.maid_model.specs.Tables.{table, table_by, weights_of}
use Rattle.maid_model.specs.Views.{NodeView, RuleView}
use Rattle.finite_sums.specs.Members.{Among, Shuffled}
use Rattle.finite_sums.specs.Looks.{Ignores, IgnoresLater, HasTotal, HaveTotals}
use Rattle.maid_model.proofs.Setting.{ParentsFirst}
use Rattle.maid_model.proofs.Tables.{TableSums, table_ignores, one_state_ignored}
use Rattle.finite_sums.proofs.Lists.{avoids, among_filter, all_ignored}
use Rattle.maid_laws.proofs.Notions.{IsParent}
use Rattle.maid_laws.proofs.Collapse.{Apart}

-- the test p tells the members of the list of which P holds
pub record Tells (p : ℕ → Bool) (P : ℕ → Type 0) (xs : List ℕ) : Type 0 where
  pub yes : (v : ℕ) → Among v xs → p v ≡ true → P v
  pub no : (v : ℕ) → Among v xs → p v ≡ false → ¬ (P v)

-- what is used of a diagram
pub record Setup (nodes : List NodeView) (order : List ℕ) : Type 0 where
  pub shuffled : Shuffled (numbers_of nodes) order
  pub parents_first : ParentsFirst nodes order
  pub apart : Apart order
  pub inside : (v : ℕ) → Among v order → v < length nodes
  pub all : (v : ℕ) → v < length nodes → Among v order
  pub parent_inside : (u v : ℕ) → IsParent nodes u v → u < length nodes
  pub parent_kind : (u v : ℕ) → IsParent nodes u v → is_utility (node_at nodes u).kind ≡ false
  pub utility_states : (v : ℕ) → is_utility (node_at nodes v).kind ≡ true → states_of nodes v ≡ 1
  pub has_state : (v : ℕ) → 0 < states_of nodes v
  pub not_own_parent : (v : ℕ) → ¬ (IsParent nodes v v)
  pub parents_apart : (v : ℕ) → Apart (node_at nodes v).parents

-- the totals of a profile's tables
pub record Totals (nodes : List NodeView) (p : List RuleView) (total : ℕ → ℤ) : Type 0 where
  pub at : (v : ℕ) → v < length nodes → TableSums (node_at nodes v).kind (node_at nodes v).cells (weights_of p v) (rows_under (states_of nodes) (node_at nodes v).parents) (states_of nodes v) (total v)

-- each table looks at its own node and that node's parents alone
pub record LooksAtParents (nodes : List NodeView) (table : ℕ → World → ℤ) : Type 0 where
  pub others : (v u : ℕ) → v ≢ u → ¬ (IsParent nodes u v) → Ignores (states_of nodes) (table v) u

-- a table whose rule does not matter
pub table_same : (k : Kind) (cells : List ℤ) (a b : List ℕ) (c : ℕ) → (k ≡ Decision → a ≡ b) → table_by k cells a c ≡ table_by k cells b c
table_same Chance cells a b c h = refl
table_same Decision cells a b c h = ap (λ ws. table_by Decision cells ws c) (h refl)
table_same Utility cells a b c h = refl

-- products of equal factors
pub product_over-cong : (f g : ℕ → ℤ) (vs : List ℕ) → ((v : ℕ) → Among v vs → f v ≡ g v) → product_over f vs ≡ product_over g vs
product_over-cong f g [] h = refl
product_over-cong f g (v ∷ vs) h = (λ i. h v (inl refl) i *ℤ product_over-cong f g vs (λ u m. h u (inr m)) i)

-- in a part of a list with parents first no table looks at a later node
pub later_general : (nodes : List NodeView) (table : ℕ → World → ℤ) → LooksAtParents nodes table → (keep : ℕ → Bool) (vs : List ℕ) → ParentsFirst nodes vs → IgnoresLater (states_of nodes) table (filter keep vs)
later_general nodes table h keep [] p = tt
later_general nodes table h keep (v ∷ vs) p = go (keep v) (later_general nodes table h keep vs p.1)
  where
    go : (b : Bool) → IgnoresLater (states_of nodes) table (filter keep vs) → IgnoresLater (states_of nodes) table (cond b (v ∷ filter keep vs) (filter keep vs))
    go true r = (all_ignored (states_of nodes) (table v) (filter keep vs) (λ u m. let k = p.0 u (among_filter keep u vs m).0 in h.others v u k.0 k.1), r)
    go false r = r

-- totals at each member are totals of the list
pub have_totals : (count : ℕ → ℕ) (table : ℕ → World → ℤ) (total : ℕ → ℤ) (vs : List ℕ) → ((v : ℕ) → Among v vs → HasTotal count table total v) → HaveTotals count table total vs
have_totals count table total [] h = tt
have_totals count table total (v ∷ vs) h = (h v (inl refl), have_totals count table total vs (λ u m. h u (inr m)))

-- a member that passes is kept
pub among_filter_in : (p : ℕ → Bool) (x : ℕ) (xs : List ℕ) → Among x xs → p x ≡ true → Among x (filter p xs)
among_filter_in p x [] m e = absurd m
among_filter_in p x (y ∷ ys) (inl f) e = subst (λ b. Among x (cond b (y ∷ filter p ys) (filter p ys))) (sym (sym (ap p f) ∙ e)) (inl f)
among_filter_in p x (y ∷ ys) (inr m) e = go (p y) (among_filter_in p x ys m e)
  where
    go : (b : Bool) → Among x (filter p ys) → Among x (cond b (y ∷ filter p ys) (filter p ys))
    go true r = inr r
    go false r = r

-- where P holds the test passes
pub tells_true : (p : ℕ → Bool) (P : ℕ → Type 0) (xs : List ℕ) → Tells p P xs → (v : ℕ) → Among v xs → P v → p v ≡ true
tells_true p P xs t v m h = go (p v) refl
  where
    go : (b : Bool) → p v ≡ b → p v ≡ true
    go true e = e
    go false e = absurd (t.no v m e h)

-- a node of one state is looked at by nothing
pub unless_live : (nodes : List NodeView) (f : World → ℤ) (u : ℕ) → u < length nodes → (IsLive nodes u → Ignores (states_of nodes) f u) → Ignores (states_of nodes) f u
unless_live nodes f u l h = go (dec_lt 1 (states_of nodes u))
  where
    one : (c : ℕ) → ¬ (1 < c) → c ≤ 1
    one c n = omega arith

    go : Dec (1 < states_of nodes u) → Ignores (states_of nodes) f u
    go (yes k) = h (record { within = l; states = inr k })
    go (no n) = one_state_ignored (states_of nodes) f u (one (states_of nodes u) n)

-- a profile's tables
pub table_looks : (nodes : List NodeView) (p : List RuleView) → LooksAtParents nodes (table nodes p)
table_looks nodes p = record { others = λ v u n a. table_ignores nodes p v u n (avoids u (node_at nodes v).parents a) }
