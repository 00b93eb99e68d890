-- A node's rows and cells are few, and its draft is of its own head, parents and potential.
use Rattle.std.proofs.Common.{◌≡◌, ◌≢◌, ◌<◌, ◌≤◌, ◌*◌, ◌^◌, min, ℕ, List, [], All, Contains, length, get_or, Option, Result, sym, ap, subst, ◌∙◌, arith}
use Rattle.std.proofs.Math.Nat.{mul-le-mul_left, min-eq_left}
use Rattle.std.proofs.lemmas.List.{get_or_default}
use Rattle.maid_model.specs.declared.diagrams.Kind.TheVariants.{Decision}
use Rattle.net_build.specs.declared.nodes.Head.{Head}
use Rattle.net_build.specs.Stages.{LinkLists, head_at, no_head, rows_over, head_rows}
use Rattle.net_build.specs.TableParts.{CanReadTables, IsDraftOf, IsDraftAt, node_part, node_part_at, numerals_in, potential_at}
use Rattle.first_fault.specs.Answers.{Passes}
use Rattle.first_fault.specs.Passes.{Pass}
use Rattle.net_build.specs.Passes.{build_fault, Found}
use Rattle.net_build.specs.declared.faults.BuildFault.{BuildFault}
use Rattle.net_build.specs.declared.drafts.Draft.{Draft}
use Rattle.net_parser.specs.Trees.{BlockTree}
use Rattle.std.specs.Result.{IfOk}

-- a node's rows are within the limit
rows_bound : (rows states : ℕ) → 0 < states → rows * states ≤ 65536 → rows ≤ 65536
rows_bound rows states some small = omega (arith, small, mul-le-mul_left {m = 1} {n = states} rows some)

module _ (text : List ℕ) (heads : List Head) (links : LinkLists) (read : CanReadTables text heads links) (v : ℕ) (within : v < length heads) where
  its_states : 0 < (head_at heads v).states
  its_states = read.states v no_head within

  pub its_states_at : (h : Head) → h ≡ get_or heads v h → 0 < h.states
  its_states_at h is = subst (λ (g : Head). 0 < g.states) (get_or_default heads v no_head h within ∙ sym is) its_states

  pub parents_known : (parents : List ℕ) → parents ≡ get_or links.parents v [] → All (λ u. u < length heads) parents
  parents_known parents is k d h = read.fit.known (get_or parents k d) v (subst (λ us. Contains us (get_or parents k d)) is (k, h, get_or_default parents k (get_or parents k d) d h))

  rows_small : (parents : List ℕ) → parents ≡ get_or links.parents v [] → rows_over heads parents ≤ 65536
  rows_small parents is = rw is (rows_bound (head_rows heads links.parents v) (head_at heads v).states its_states (read.fit.cells v within))

  -- they are not cut off by the count's end
  pub rows_counted : (rows : ℕ) (hs : List Head) (parents : List ℕ) → hs ≡ heads → parents ≡ get_or links.parents v [] → rows ≡ min (rows_over hs parents) (10 ^ 18) → rows ≡ rows_over heads parents
  rows_counted rows hs parents same is counted = counted ∙ ap (λ (gs : List Head). min (rows_over gs parents) (10 ^ 18)) same ∙ min-eq_left (omega (arith, rows_small parents is))

  pub head_is : (h : Head) → h ≡ get_or heads v h → head_at heads v ≡ h
  head_is h is = get_or_default heads v no_head h within ∙ sym is

  pub cells_small : (rows : ℕ) (parents : List ℕ) (h : Head) → rows ≡ rows_over heads parents → parents ≡ get_or links.parents v [] → h ≡ get_or heads v h → rows * h.states ≤ 65536
  cells_small rows parents h counted is here = subst (λ (n : ℕ). n ≤ 65536) (λ i. sym (counted ∙ ap (rows_over heads) is) i * (head_is h here i).states) (read.fit.cells v within)

  pub draft_at : {E : Type 0} (r : Result Draft E) (rows : ℕ) (parents : List ℕ) (h : Head) (o : Option BlockTree) → rows ≡ rows_over heads parents → parents ≡ get_or links.parents v [] → h ≡ get_or heads v h → o ≡ potential_at links v → IfOk r (IsDraftOf h.kind rows h.states (numerals_in text o)) → IfOk r (IsDraftAt text heads links v)
  draft_at r rows parents h o counted is here found draft = subst (λ (F : Draft → Type 0). IfOk r F) (λ i. IsDraftOf (sym (head_is h here) i).kind ((counted ∙ ap (rows_over heads) is) i) (sym (head_is h here) i).states (numerals_in text (found i))) draft

  pub part_at : {A : Type 0} (r : Result A BuildFault) (rows : ℕ) (parents : List ℕ) (h : Head) (o : Option BlockTree) → rows ≡ rows_over heads parents → parents ≡ get_or links.parents v [] → h ≡ get_or heads v h → o ≡ potential_at links v → Passes build_fault (node_part text h.kind rows h.states o) r → Passes build_fault (node_part_at text heads links v) r
  part_at r rows parents h o counted is here found passes = subst (λ (P : Pass Found). Passes build_fault P r) (λ i. node_part text (sym (head_is h here) i).kind ((counted ∙ ap (rows_over heads) is) i) (sym (head_is h here) i).states (found i)) passes

  pub not_decision : (h : Head) → h ≡ get_or heads v h → h.kind ≢ Decision → (head_at heads v).kind ≢ Decision
  not_decision h here other = subst (λ (g : Head). g.kind ≢ Decision) (sym (head_is h here)) other
