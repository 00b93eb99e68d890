-- A table that takes one row after another.
use Rattle.std.proofs.Common.{◌≡◌, ◌∙◌, ℕ, zero, suc, ◌<◌, List, [], ◌∷◌, ◌++◌, map, length, ap, subst, sym, arith, All, append_assoc}
use Rattle.maid_model.specs.Views.{NodeView}
use Rattle.maid_model.specs.Worlds.{IsWorld, worlds_from}
use Rattle.pure_search.specs.Games.{AddsRow, AddsRows, IsGainTableOf, choice_lists, counts_for, key_of, part_gain}
use Rattle.pure_search.specs.declared.tables.Table.{Table}

pub one_key : (n key : ℕ) → key < n → All (λ k. k < n) (key ∷ [])
one_key n key l zero e m = l
one_key n key l (suc i) e m = absurd (omega arith)

one_before : (n key : ℕ) (keys : List ℕ) → All (λ k. k < n) (key ∷ []) → All (λ k. k < n) keys → All (λ k. k < n) (key ∷ keys)
one_before n key keys one more zero e m = one zero e (omega arith)
one_before n key keys one more (suc i) e m = more i e (omega arith)

-- a row, and then others
pub row_then : (nodes : List NodeView) (agent : ℕ) (choices : List ℕ) (lists : List (List ℕ)) (old mid new : Table)
    → AddsRow nodes agent choices old mid → AddsRows nodes agent lists mid new → AddsRows nodes agent (choices ∷ lists) old new
row_then nodes agent choices lists old mid new one more = record {
  keys_are = more.keys_are ∙ ap (λ l. l ++ map (key_of nodes agent) lists) one.keys_are ∙ append_assoc old.keys.items (key_of nodes agent choices ∷ []) (map (key_of nodes agent) lists);
  gains_are = more.gains_are ∙ ap (λ l. l ++ map (part_gain nodes agent) lists) one.gains_are ∙ append_assoc old.gains.items (part_gain nodes agent choices ∷ []) (map (part_gain nodes agent) lists);
  within = one_before (length (choice_lists nodes)) (key_of nodes agent choices) (map (key_of nodes agent) lists) one.within more.within;
}

-- the rows of the lists from these choices on are all that is still to come
pub record RowsToCome (nodes : List NodeView) (agent : ℕ) (lists : List (List ℕ)) (old now : Table) (choices : List ℕ) : Type 0 where
  pub world : IsWorld (counts_for nodes) choices
  pub rest : (new : Table) → AddsRows nodes agent (worlds_from (counts_for nodes) choices) now new → AddsRows nodes agent lists old new

-- fewer lists are left from the next one on
pub fewer_left : (cs choices next : List ℕ) → worlds_from cs choices ≡ choices ∷ worlds_from cs next → length (worlds_from cs next) < length (worlds_from cs choices)
fewer_left cs choices next e = let more = ap length e in omega (arith, more)

-- a table without rows that takes those of all lists is the agent's
pub table_of_all : (nodes : List NodeView) (agent : ℕ) (old new : Table) → old.keys.items ≡ [] → old.gains.items ≡ [] → AddsRows nodes agent (choice_lists nodes) old new → IsGainTableOf nodes agent new
table_of_all nodes agent old new keys gains rows = record {
  keys_are = all_keys;
  gains_are = rows.gains_are ∙ ap (λ l. l ++ map (part_gain nodes agent) (choice_lists nodes)) gains;
  within = subst (All (λ key. key < length (choice_lists nodes))) (sym all_keys) rows.within;
}
  where
    all_keys : new.keys.items ≡ map (key_of nodes agent) (choice_lists nodes)
    all_keys = rows.keys_are ∙ ap (λ l. l ++ map (key_of nodes agent) (choice_lists nodes)) keys
