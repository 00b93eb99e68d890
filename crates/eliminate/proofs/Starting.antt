-- The first tables of a plan, one after another.
use Rattle.std.proofs.Common.{◌≡◌, ◌∙◌, ℕ, zero, suc, ◌+◌, ◌-◌, ◌<◌, ◌≤◌, Bool, true, false, cond, map, filter, List, [], ◌∷◌, ◌++◌, length, take, refl, ap, subst, arith, append_assoc, Option, Some, option_to_list}
use Rattle.std.specs.List.{range_with_len, sum_by}
use Rattle.std.proofs.lemmas.List.{length-append, length-take-le}
use Rattle.std.proofs.lemmas.List.Sums.{sum_by-cons}
use Rattle.maid_model.specs.Nodes.{states_of}
use Rattle.maid_model.specs.Views.{NodeView, RuleView}
use Rattle.ring_sums.specs.Tables.{IsSame}
use Rattle.plan_sums.specs.Plans.{Cells}
use Rattle.factor_core.specs.declared.slots.Slot.{Slot}
use Rattle.factor_core.specs.Operations.{first_table}
use Rattle.factor_core.specs.Slots.{WorkspaceView, table_of}
use Rattle.eliminate.specs.Steps.{PutsTable, Lists, first_cells}
use Rattle.eliminate.proofs.Standing.{zip_length, map_length, start_stand, more_stands}

module _ {C : Type 0} (c : Cells C) (nodes : List NodeView) (p : List RuleView) where
  -- before the first
  pub lists_none : (w : WorkspaceView C) (all : List ℕ) → Lists c nodes p w w [] all all
  lists_none w all = record { tables = []; spent = 0; stand = start_stand c.ring nodes w; leads = refl; room = omega arith }

  -- one more
  pub lists_more : (before now after : WorkspaceView C) (slots new : List Slot) (v : ℕ) (rest all : List ℕ)
      → Lists c nodes p before now slots (v ∷ rest) all → PutsTable c.ring nodes now after slots new (first_table c nodes p v) → Lists c nodes p before after new rest all
  lists_more before now after slots new v rest all l puts = record {
    tables = l.tables ++ first_table c nodes p v ∷ [];
    spent = l.spent + first_cells c nodes p v;
    stand = more_stands c.ring nodes before now after l.spent slots slots new l.tables l.tables (first_table c nodes p v) (first_table c nodes p v) l.stand l.stand.live l.stand.same puts
        (record { holds = λ u. refl; cell = λ w i. refl });
    leads = append_assoc l.tables (first_table c nodes p v ∷ []) (map (first_table c nodes p) rest) ∙ l.leads;
    room = omega (arith, l.room, sum_by-cons (first_cells c nodes p) v rest);
  }

  -- the next has room
  pub lists_room : (before now : WorkspaceView C) (slots : List Slot) (v : ℕ) (rest all : List ℕ)
      → Lists c nodes p before now slots (v ∷ rest) all → sum_by (first_cells c nodes p) all ≤ before.spare → first_cells c nodes p v ≤ now.spare
  lists_room before now slots v rest all l fits = omega (arith, l.room, l.stand.appends.less, sum_by-cons (first_cells c nodes p) v rest, fits)

  -- as many slots as nodes so far
  pub lists_count : (before now : WorkspaceView C) (slots : List Slot) (rest all : List ℕ) → Lists c nodes p before now slots rest all → length slots + length rest ≡ length all
  lists_count before now slots rest all l =
      omega (
        arith,
        zip_length (IsSame (states_of nodes)) _ l.tables l.stand.same,
        map_length (table_of c.ring nodes now.cells) slots,
        ap length l.leads,
        length-append l.tables (map (first_table c nodes p) rest),
        map_length (first_table c nodes p) rest,
        map_length (first_table c nodes p) all,
      )

-- ---- the nodes of the set from v on
abbrev pub from_node : (ℕ → Bool) → ℕ → ℕ → List ℕ
from_node h v n = filter h (range_with_len v (n - v))

pub from_held : (h : ℕ → Bool) (v n : ℕ) → v < n → h v ≡ true → from_node h v n ≡ v ∷ from_node h (v + 1) n
from_held h v n l e =
    let one : n - v ≡ suc (n - (v + 1)) = omega arith in
    ap (λ k. filter h (range_with_len v k)) one ∙ ap (λ b. cond b (v ∷ filter h (range_with_len (v + 1) (n - (v + 1)))) (filter h (range_with_len (v + 1) (n - (v + 1))))) e

from_other : (h : ℕ → Bool) (v n : ℕ) → v < n → h v ≡ false → from_node h v n ≡ from_node h (v + 1) n
from_other h v n l e =
    let one : n - v ≡ suc (n - (v + 1)) = omega arith in
    ap (λ k. filter h (range_with_len v k)) one ∙ ap (λ b. cond b (v ∷ filter h (range_with_len (v + 1) (n - (v + 1)))) (filter h (range_with_len (v + 1) (n - (v + 1))))) e

-- where the set has none up to the next one
from_on : (h : ℕ → Bool) (next n k : ℕ) → next + k ≤ n → ((w : ℕ) → next ≤ w → w < next + k → h w ≡ false) → from_node h next n ≡ from_node h (next + k) n
from_on h next n zero l none = ap (λ v. from_node h v n) (let e : next ≡ next + 0 = omega arith in e)
from_on h next n (suc k) l none =
    from_on h next n k (omega (arith, l)) (λ w a b. none w a (omega (arith, b)))
    ∙ from_other h (next + k) n (omega (arith, l)) (none (next + k) (omega arith) (omega arith))
    ∙ ap (λ v. from_node h v n) (let e : next + k + 1 ≡ next + suc k = omega arith in e)

from_first : (h : ℕ → Bool) (next v n : ℕ) → next ≤ v → v < n → ((w : ℕ) → next ≤ w → w < v → h w ≡ false) → h v ≡ true → from_node h next n ≡ v ∷ from_node h (v + 1) n
from_first h next v n a l none e =
    let there : next + (v - next) ≡ v = omega (arith, a) in
    from_on h next n (v - next) (omega (arith, a, l)) (λ w c d. none w c (omega (arith, a, d)))
    ∙ ap (λ x. from_node h x n) there
    ∙ from_held h v n l e

from_end : (h : ℕ → Bool) (v n : ℕ) → v ≤ n → ((w : ℕ) → v ≤ w → h w ≡ false) → from_node h v n ≡ []
from_end h v n l none =
    from_on h v n (n - v) (omega (arith, l)) (λ w a b. none w a)
    ∙ ap (λ x. from_node h x n) (let e : v + (n - v) ≡ n = omega (arith, l) in e)
    ∙ ap (λ k. filter h (range_with_len n k)) (let e : n - n ≡ 0 = omega arith in e)

-- ---- the nodes to come at the start, in the middle and at the end
module _ {C : Type 0} (c : Cells C) (nodes : List NodeView) (p : List RuleView) (h : ℕ → Bool) (end all : List ℕ) (n : ℕ) where
  pub first_next : (before now : WorkspaceView C) (slots : List Slot) (next v : ℕ) → next ≤ v → v < n → ((w : ℕ) → next ≤ w → w < v → h w ≡ false) → h v ≡ true
      → Lists c nodes p before now slots (from_node h next n ++ end) all → Lists c nodes p before now slots (v ∷ (from_node h (v + 1) n ++ end)) all
  first_next before now slots next v a l none e lists = subst (λ rest. Lists c nodes p before now slots (rest ++ end) all) (from_first h next v n a l none e) lists

  pub last_next : (before now : WorkspaceView C) (slots : List Slot) (v : ℕ) → v ≤ n → ((w : ℕ) → v ≤ w → h w ≡ false)
      → Lists c nodes p before now slots (from_node h v n ++ end) all → Lists c nodes p before now slots end all
  last_next before now slots v l none lists = subst (λ rest. Lists c nodes p before now slots (rest ++ end) all) (from_end h v n l none) lists

-- the utility stands last
pub utility_next : {C : Type 0} (c : Cells C) (nodes : List NodeView) (p : List RuleView) (utility : Option ℕ) (u : ℕ) (all : List ℕ) (before now : WorkspaceView C) (slots : List Slot)
    → utility ≡ Some u → Lists c nodes p before now slots (option_to_list utility) all → Lists c nodes p before now slots (u ∷ []) all
utility_next c nodes p utility u all before now slots some lists = subst (λ o. Lists c nodes p before now slots (option_to_list o) all) some lists

-- fewer are listed than there are in all
pub next_place : {C : Type 0} (c : Cells C) (nodes : List NodeView) (p : List RuleView) (before now : WorkspaceView C) (live : List Slot) (count v : ℕ) (rest all : List ℕ)
    → Lists c nodes p before now (take count live) (v ∷ rest) all → count ≤ length live → count < length all
next_place c nodes p before now live count v rest all lists within =
    omega (arith, lists_count c nodes p before now (take count live) (v ∷ rest) all lists, length-take-le count live within)
