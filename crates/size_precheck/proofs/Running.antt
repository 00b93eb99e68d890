-- Along the steps of a plan: what is known after each is what its scopes say.
use Rattle.std.proofs.Common.{◌≡◌, ◌∙◌, ◌↔◌, ℕ, suc, ◌+◌, ◌-◌, ◌*◌, ◌<◌, ◌≤◌, Bool, true, false, cond, not, filter, List, [], ◌∷◌, ◌++◌, length, take, refl, sym, ap, subst, inl, inr, arith, rules}
use Rattle.std.specs.Prelude.{Contains, slice_index, sum_by}
use Rattle.std.proofs.lemmas.List.{length_push}
use Rattle.std.proofs.lemmas.List.Elements.{Contains-push, Contains-push_cases, Contains-append_left}
use Rattle.maid_model.specs.declared.limits.TheConstants.{COUNT_END}
use Rattle.maid_model.specs.Placing.{Remains}
use Rattle.maid_model.specs.Views.{NodeView}
use Rattle.node_sets.specs.Sets.{holds, IsIn}
use Rattle.node_sets.specs.declared.sets.NodeSet.{NodeSet}
use Rattle.ring_sums.specs.Tables.{joined_without, scopes_one, scopes_after}
use Rattle.size_precheck.specs.declared.joints.Known.{Known}
use Rattle.size_precheck.specs.declared.joints.Table.{Table}
use Rattle.size_precheck.specs.declared.simulation.Made.{Made}
use Rattle.size_precheck.specs.declared.simulation.Start.{Start}
use Rattle.maid_model.specs.Bounds.{stopped}
use Rattle.size_precheck.specs.Classes.{IsFewest}
use Rattle.size_precheck.specs.Counts.{counted_cells}
use Rattle.size_precheck.specs.Greedy.{holding, joined_set, joined_cells, IsNext}
use Rattle.size_precheck.specs.Joints.{cells_in, joint_in, AreStateCounts, HoldsOfEach, Stands, IsGreedyStart, IsGreedyStep, tests_of}
use Rattle.size_precheck.specs.Sizes.{made_cells, steps_work}
use Rattle.size_precheck.proofs.Counting.{stop_part, stop_later}
use Rattle.size_precheck.proofs.Orders.{next_more}
use Rattle.size_precheck.proofs.Scoped.{set_told, cells_counted}

-- ---- one step more, at the end
pub scopes_push : (steps : List ℕ) (v : ℕ) (scopes : List (ℕ → Bool)) → scopes_after (steps ++ v ∷ []) scopes ≡ scopes_one v (scopes_after steps scopes)
scopes_push [] v scopes = refl
scopes_push (x ∷ xs) v scopes = scopes_push xs v (scopes_one x scopes)

add_assoc : (a b c : ℕ) → a + (b + c) ≡ (a + b) + c
add_assoc a b c = omega arith

pub made_push : (nodes : List NodeView) (steps : List ℕ) (v : ℕ) (scopes : List (ℕ → Bool))
    → made_cells nodes (steps ++ v ∷ []) scopes ≡ made_cells nodes steps scopes + counted_cells nodes (joined_without v (holding v (scopes_after steps scopes)))
made_push nodes [] v scopes = omega arith
made_push nodes (x ∷ xs) v scopes =
    ap (λ n. counted_cells nodes (joined_without x (holding x scopes)) + n) (made_push nodes xs v (scopes_one x scopes))
    ∙ add_assoc (counted_cells nodes (joined_without x (holding x scopes))) (made_cells nodes xs (scopes_one x scopes)) (counted_cells nodes (joined_without v (holding v (scopes_after xs (scopes_one x scopes)))))

-- the work of a step
abbrev pub step_work : List NodeView → ℕ → List (ℕ → Bool) → ℕ
step_work nodes v scopes = counted_cells nodes (joined_set v scopes) * length (holding v scopes)

pub work_push : (nodes : List NodeView) (steps : List ℕ) (v : ℕ) (scopes : List (ℕ → Bool))
    → steps_work nodes (steps ++ v ∷ []) scopes ≡ steps_work nodes steps scopes + step_work nodes v (scopes_after steps scopes)
work_push nodes [] v scopes = omega arith
work_push nodes (x ∷ xs) v scopes =
    ap (λ n. step_work nodes x scopes + n) (work_push nodes xs v (scopes_one x scopes))
    ∙ add_assoc (step_work nodes x scopes) (steps_work nodes xs (scopes_one x scopes)) (step_work nodes v (scopes_after xs (scopes_one x scopes)))

length_split : {X : Type 0} (p : X → Bool) (xs : List X) → length (filter (λ x. not (p x)) xs) + length (filter p xs) ≡ length xs
length_split p [] = refl
length_split p (x ∷ xs) = go (p x) (length_split p xs)
  where
    go : (b : Bool) → length (filter (λ x. not (p x)) xs) + length (filter p xs) ≡ length xs
        → length (cond (not b) (x ∷ filter (λ x. not (p x)) xs) (filter (λ x. not (p x)) xs)) + length (cond b (x ∷ filter p xs) (filter p xs)) ≡ suc (length xs)
    go true e = omega arith
    go false e = omega arith

length_one : (v : ℕ) (scopes : List (ℕ → Bool)) → length (scopes_one v scopes) + length (holding v scopes) ≡ length scopes + 1
length_one v scopes =
    let a : length (scopes_one v scopes) ≡ length (filter (λ (s : ℕ → Bool). not (s v)) scopes) + 1 = length_push (filter (λ (s : ℕ → Bool). not (s v)) scopes) (joined_without v (holding v scopes)) in
    let b = length_split (λ (s : ℕ → Bool). s v) scopes in
    omega arith

-- ---- what remains
pub remains_push : (Item Rest Later : ℕ → Type 0) (steps : List ℕ) (v : ℕ) → ((x : ℕ) → Rest x ↔ Remains Item steps x) → ((x : ℕ) → Later x ↔ (Rest x × (x ≡ v → ⊥)))
    → (x : ℕ) → Later x ↔ Remains Item (steps ++ v ∷ []) x
remains_push Item Rest Later steps v rest later x = (
  (λ l. let a = (later x).0 l in let b = (rest x).0 a.0 in (b.0, λ c. elim (Contains-push_cases steps v x c) as (λ _. ⊥) [ inl o ↦ b.1 o | inr e ↦ a.1 (sym e) ])),
  (λ h. (later x).1 ((rest x).1 (h.0, λ c. h.1 (Contains-append_left steps (v ∷ []) x c)), λ e. h.1 (subst (λ y. Contains (steps ++ v ∷ []) y) (sym e) (Contains-push steps v)))),
)

pub stands_less : (states : List ℕ) (P Q : ℕ → Type 0) (tables : List Table) (known : Known) → ((y : ℕ) → Q y → P y) → Stands states P tables known → Stands states Q tables known
stands_less states P Q tables known less h = record {
  live = record { small = h.live.small; differ = h.live.differ; own = own_less tables h.live.own };
  tells = λ y q. h.tells y (less y q);
  counted = λ y q. h.counted y (less y q);
}
  where
    own_less : (ts : List Table) → HoldsOfEach (λ t. P t.tag → IsIn t.scope t.tag) ts → HoldsOfEach (λ t. Q t.tag → IsIn t.scope t.tag) ts
    own_less [] e = tt
    own_less (t ∷ ts) e = ((λ q. e.0 (less t.tag q)), own_less ts e.1)

-- ---- after these steps
pub record At (nodes : List NodeView) (states : List ℕ) (Item Rest : ℕ → Type 0) (scopes : List (ℕ → Bool)) (steps : List ℕ) (known : Known) (live cells work : ℕ) : Type 0 where
  pub tables : List Table
  pub stands : Stands states Rest tables known
  pub scopes_are : tests_of tables ≡ scopes_after steps scopes
  pub each : (k : ℕ) → k < length steps → IsNext nodes Item scopes (take k steps) (slice_index steps k)
  pub live_is : live ≡ length (scopes_after steps scopes)
  pub cells_are : cells ≡ stopped (sum_by (λ s. counted_cells nodes s) scopes + made_cells nodes steps scopes)
  pub work_is : work ≡ stopped (steps_work nodes steps scopes)

-- before the first step
pub at_none : (nodes : List NodeView) (states : List ℕ) (Item : ℕ → Type 0) (scopes : List (ℕ → Bool)) (start : Start) → IsGreedyStart nodes states Item scopes start
    → At nodes states Item Item scopes [] start.known start.live start.cells 0
at_none nodes states Item scopes start begun = record {
  tables = begun.tables;
  stands = record { live = begun.are_live; tells = begun.tells; counted = begun.counted };
  scopes_are = begun.scopes_are;
  each = λ k l. absurd (omega arith);
  live_is = begun.live;
  cells_are = begun.cells ∙ ap (λ n. stopped n) (omega arith);
  work_is = refl;
}

pub remains_none : (Item : ℕ → Type 0) (x : ℕ) → Item x ↔ Remains Item [] x
remains_none Item x = ((λ m. (m, search rules)), (λ r. r.0))

module _ (nodes : List NodeView) (states : List ℕ) (Item : ℕ → Type 0) (rest : NodeSet) (scopes : List (ℕ → Bool)) (steps : List ℕ)
    (known : Known) (live cells work : ℕ) (are : AreStateCounts nodes states)
    (now : At nodes states Item (IsIn rest) scopes steps known live cells work) where
  -- what is counted at a node that waits
  counted_at : (w : ℕ) → IsIn rest w → cells_in known w ≡ joined_cells nodes scopes steps w
  counted_at w m =
      now.stands.counted w m
      ∙ cells_counted nodes states (joint_in known w).set (joined_set w (tests_of now.tables)) are (set_told now.tables w (joint_in known w) (now.stands.tells w m))
      ∙ ap (λ (ss : List (ℕ → Bool)). counted_cells nodes (joined_set w ss)) now.scopes_are

  -- the first of those with fewest cells is next
  pub is_next : (v : ℕ) → ((x : ℕ) → IsIn rest x ↔ Remains Item steps x) → IsFewest (cells_in known) (holds rest) v → IsNext nodes Item scopes steps v
  is_next v remains best = record {
    remains = (remains v).0 best.waiting;
    fewest = λ w r.
        let m = (remains w).1 r in
        let l = best.fewest w m in
        let e = counted_at w m in
        let f = counted_at v best.waiting in
        omega arith;
    first = λ w r before.
        let m = (remains w).1 r in
        let l = best.first w m before in
        let e = counted_at w m in
        let f = counted_at v best.waiting in
        omega arith;
  }

  pub joined_few : (v : ℕ) (Later : ℕ → Type 0) (known' : Known) (made : Made) → IsGreedyStep nodes states Later v now.tables known' made → made.tables ≤ live + 1
  joined_few v Later known' made step =
      let a = length_one v (scopes_after steps scopes) in
      let b : made.tables ≡ length (holding v (scopes_after steps scopes)) = step.joined ∙ ap (λ (ss : List (ℕ → Bool)). length (holding v ss)) now.scopes_are in
      let c = now.live_is in
      omega arith

  -- one step more
  pub at_more : (v : ℕ) (Later : ℕ → Type 0) (known' : Known) (made : Made) (live' cells' work' : ℕ)
      → IsNext nodes Item scopes steps v → IsGreedyStep nodes states Later v now.tables known' made
      → live' ≡ (live + 1) - made.tables → cells' ≡ stopped (cells + made.cells) → work' ≡ stopped (work + made.work)
      → At nodes states Item Later scopes (steps ++ v ∷ []) known' live' cells' work'
  at_more v Later known' made live' cells' work' next step live_new cells_new work_new = record {
    tables = step.after;
    stands = step.stands;
    scopes_are = step.scopes ∙ ap (λ (ss : List (ℕ → Bool)). scopes_one v ss) now.scopes_are ∙ sym (scopes_push steps v scopes);
    each = next_more nodes Item scopes steps v now.each next;
    live_is =
        let a = length_one v (scopes_after steps scopes) in
        let b : made.tables ≡ length (holding v (scopes_after steps scopes)) = step.joined ∙ ap (λ (ss : List (ℕ → Bool)). length (holding v ss)) now.scopes_are in
        let c = now.live_is in
        let d : live' ≡ length (scopes_one v (scopes_after steps scopes)) = omega arith in
        d ∙ ap length (sym (scopes_push steps v scopes));
    cells_are =
        let first = sum_by (λ s. counted_cells nodes s) scopes in
        cells_new
        ∙ ap (λ n. stopped (n + made.cells)) now.cells_are
        ∙ stop_part COUNT_END (first + made_cells nodes steps scopes) made.cells
        ∙ ap (λ n. stopped n) (sym (add_assoc first (made_cells nodes steps scopes) made.cells)
        ∙ ap (λ n. first + (made_cells nodes steps scopes + n)) (step.cells ∙ ap (λ (ss : List (ℕ → Bool)). counted_cells nodes (joined_without v (holding v ss))) now.scopes_are)
        ∙ ap (λ n. first + n) (sym (made_push nodes steps v scopes)));
    work_is =
        work_new
        ∙ ap (λ n. stopped (n + made.work)) now.work_is
        ∙ stop_part COUNT_END (steps_work nodes steps scopes) made.work
        ∙ ap (λ n. stopped (steps_work nodes steps scopes + n)) (step.work ∙ ap (λ (ss : List (ℕ → Bool)). stopped (step_work nodes v ss)) now.scopes_are)
        ∙ stop_later COUNT_END (steps_work nodes steps scopes) (step_work nodes v (scopes_after steps scopes))
        ∙ ap (λ n. stopped n) (sym (work_push nodes steps v scopes));
  }
