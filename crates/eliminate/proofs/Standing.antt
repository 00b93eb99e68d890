-- Tables that stand in a workspace, one more at a time.
use Rattle.std.proofs.Common.{◌≡◌, ◌∙◌, ℕ, suc, ◌+◌, map, List, [], ◌∷◌, ◌++◌, length, take, refl, sym, ap, subst, arith, All}
use Rattle.std.specs.List.{AllZip}
use Rattle.std.proofs.Math.Path.{fun_ext}
use Rattle.std.proofs.lemmas.List.{take-take, take_all}
use Rattle.maid_model.specs.Nodes.{states_of}
use Rattle.maid_model.specs.Views.{NodeView}
use Rattle.cell_rings.specs.Rings.{Ring}
use Rattle.ring_sums.proofs.Each.{Each, each_of, all_of, each_append, each_map, zip_append}
use Rattle.ring_sums.proofs.Same.{map_append}
use Rattle.ring_sums.specs.Tables.{Table, IsSame}
use Rattle.factor_core.specs.declared.slots.Slot.{Slot}
use Rattle.factor_core.specs.Slots.{WorkspaceView, cells_over, IsLiveSlot, table_of, tables_of, Appends, StaysLive}
use Rattle.eliminate.specs.Steps.{PutsTable, Stand}

-- lists of pairs have one length
pub zip_length : {A B : Type 0} (R : A → B → Type 0) (xs : List A) (ys : List B) → AllZip R xs ys → length xs ≡ length ys
zip_length R [] [] m = refl
zip_length R [] (y ∷ ys) m = absurd m
zip_length R (x ∷ xs) [] m = absurd m
zip_length R (x ∷ xs) (y ∷ ys) m = ap suc (zip_length R xs ys m.1)

pub map_length : {A B : Type 0} (f : A → B) (xs : List A) → length (map f xs) ≡ length xs
map_length f [] = refl
map_length f (x ∷ xs) = ap suc (map_length f xs)

-- one appending after another
appended : {C : Type 0} (a b c : WorkspaceView C) (m n first : ℕ) → Appends a b (length a.cells) m → Appends b c first n → Appends a c (length a.cells) (m + n)
appended a b c m n first h k = record {
  start = refl;
  kept = sym (take-take (length a.cells) (length b.cells) c.cells (omega (arith, h.longer))) ∙ ap (take (length a.cells)) k.kept ∙ h.kept;
  longer = omega (arith, h.longer, k.longer);
  less = omega (arith, h.less, k.less);
}

module _ {C : Type 0} (r : Ring C) (nodes : List NodeView) where
  -- nothing was appended
  pub start_stand : (w : WorkspaceView C) → Stand r nodes w w 0 [] []
  start_stand w = record {
    appends = record { start = refl; kept = take_all (length w.cells) w.cells (omega arith); longer = omega arith; less = omega arith };
    stays = λ s l. record { live = l; table = refl };
    live = λ k d l. absurd (omega arith);
    same = tt;
  }

  -- slots that stay live have the tables that they had
  same_tables : (before after : List C) (slots : List Slot) → ((s : Slot) → IsLiveSlot nodes before s → StaysLive r nodes before after s) → Each (IsLiveSlot nodes before) slots
      → tables_of r nodes after slots ≡ tables_of r nodes before slots
  same_tables before after [] stays e = refl
  same_tables before after (s ∷ ss) stays e = (λ i. (stays s e.0).table i ∷ same_tables before after ss stays e.1 i)

  -- the cells of a table that was appended
  pub cells_appended : (slot : Slot) (after : List C) (t : Table C) → IsLiveSlot nodes after slot → IsSame (states_of nodes) (table_of r nodes after slot) t → slot.len ≡ cells_over nodes t.holds
  cells_appended slot after t live same = live.size ∙ ap (cells_over nodes) (fun_ext same.holds)

  -- of the slots that stand some are kept, and one is put behind them
  pub more_stands : (before now after : WorkspaceView C) (spent : ℕ) (slots kept new : List Slot) (tables left : List (Table C)) (made t : Table C)
      → Stand r nodes before now spent slots tables → All (IsLiveSlot nodes now.cells) kept → AllZip (IsSame (states_of nodes)) (tables_of r nodes now.cells kept) left
      → PutsTable r nodes now after kept new made → IsSame (states_of nodes) made t → Stand r nodes before after (spent + cells_over nodes t.holds) new (left ++ t ∷ [])
  more_stands before now after spent slots kept new tables left made t stand live same puts is = record {
    appends = subst (λ n. Appends before after (length before.cells) (spent + n)) size (appended before now after spent puts.slot.len puts.slot.start stand.appends puts.appends.appends);
    stays = λ s l.
        let k = stand.stays s l in
        let m = puts.appends.stays s k.live in
        record { live = m.live; table = m.table ∙ k.table };
    live = subst (λ (ss : List Slot). All (IsLiveSlot nodes after.cells) ss) (sym puts.slots)
        (all_of (IsLiveSlot nodes after.cells) (kept ++ puts.slot ∷ []) (each_append (IsLiveSlot nodes after.cells) kept (puts.slot ∷ [])
        (each_map (IsLiveSlot nodes now.cells) (IsLiveSlot nodes after.cells) (λ s l. (puts.appends.stays s l).live) kept (each_of (IsLiveSlot nodes now.cells) kept live)) (puts.appends.live, tt)));
    same = subst (λ (ss : List Slot). AllZip (IsSame (states_of nodes)) (tables_of r nodes after.cells ss) (left ++ t ∷ [])) (sym puts.slots)
        (subst (λ (ts : List (Table C)). AllZip (IsSame (states_of nodes)) ts (left ++ t ∷ [])) (sym (map_append (table_of r nodes after.cells) kept (puts.slot ∷ [])))
        (zip_append (IsSame (states_of nodes)) (tables_of r nodes after.cells kept) (table_of r nodes after.cells puts.slot ∷ []) left (t ∷ [])
        (subst (λ (ts : List (Table C)). AllZip (IsSame (states_of nodes)) ts left) (sym (same_tables now.cells after.cells kept puts.appends.stays (each_of (IsLiveSlot nodes now.cells) kept live))) same)
        (whole, tt)));
  }
    where
      whole : IsSame (states_of nodes) (table_of r nodes after.cells puts.slot) t
      whole = record { holds = λ v. puts.appends.table.holds v ∙ is.holds v; cell = λ w i. puts.appends.table.cell w i ∙ is.cell w i }

      size : puts.slot.len ≡ cells_over nodes t.holds
      size = cells_appended puts.slot after.cells t puts.appends.live whole
