-- The nodes that are made of heads, parents and tables.
use Rattle.std.proofs.Common.{◌≡◌, ℕ, ◌+◌, ◌<◌, ℤ, List, [], ◌∷◌, ◌++◌, length, get_or, drop, set, map, ap, sym, ◌∙◌, arith}
use Rattle.std.proofs.lemmas.List.{get_or-drop, get_or-map, drop-set-lt, drop-drop}
use Rattle.std.proofs.lemmas.List.FromFn.{map-range_with_len_more}
use Rattle.std.specs.Global.{Vec}
use Rattle.std.specs.List.{range_with_len}
use Rattle.maid_model.specs.Views.{NodeView}
use Rattle.net_build.specs.declared.nodes.Head.{Head}
use Rattle.net_build.specs.Lists.{numbers_of_lists, cells_of_lists}
use Rattle.net_build.specs.Stages.{no_head, made_node, made_at}

-- the table that is still there is the one that was
table_left : (tables first : List (Vec ℤ)) (v : ℕ) (d : Vec ℤ) → drop v tables ≡ drop v first → get_or tables v d ≡ get_or first v d
table_left tables first v d left =
    let at : v ≡ v + 0 = omega arith in
    ap (λ n. get_or tables n d) at ∙ sym (get_or-drop v tables 0 d) ∙ ap (λ l. get_or l 0 d) left ∙ get_or-drop v first 0 d ∙ ap (λ n. get_or first n d) (sym at)

-- the list at the place of a vector of vectors
list_here : (lists : List (Vec ℕ)) (v : ℕ) (p : Vec ℕ) → v < length lists → p ≡ get_or lists v p → p.items ≡ get_or (numbers_of_lists lists) v []
list_here lists v p h is = ap (λ (w : Vec ℕ). w.items) is ∙ sym (get_or-map (λ (w : Vec ℕ). w.items) lists v p [] h)

-- one more node
pub made_more : (heads : List Head) (more parents : List (Vec ℕ)) (tables first : List (Vec ℤ)) (v : ℕ) (nodes longer : List NodeView) (head : Head) (m p : Vec ℕ) (t : Vec ℤ) (node : NodeView) → v < length more → v < length parents → v < length first
    → head ≡ get_or heads v no_head → m ≡ get_or more v m → p ≡ get_or parents v p → t ≡ get_or tables v t → drop v tables ≡ drop v first → node ≡ made_node head m.items p.items t.items
    → nodes ≡ map (made_at heads (numbers_of_lists more) (numbers_of_lists parents) (cells_of_lists first)) (range_with_len 0 v) → longer ≡ nodes ++ node ∷ []
    → longer ≡ map (made_at heads (numbers_of_lists more) (numbers_of_lists parents) (cells_of_lists first)) (range_with_len 0 (v + 1))
made_more heads more parents tables first v nodes longer head m p t node in_more in_parents in_tables is_head is_m is_p is_t left made so_far is_longer =
    let others = list_here more v m in_more is_m in
    let these = list_here parents v p in_parents is_p in
    let cells : t.items ≡ get_or (cells_of_lists first) v [] = ap (λ (w : Vec ℤ). w.items) (is_t ∙ table_left tables first v t left) ∙ sym (get_or-map (λ (w : Vec ℤ). w.items) first v t [] in_tables) in
    let at = made_at heads (numbers_of_lists more) (numbers_of_lists parents) (cells_of_lists first) in
    let here : node ≡ at v = made ∙ (λ j. made_node (is_head j) (others j) (these j) (cells j)) in
    is_longer ∙ ap (λ l. l ++ node ∷ []) so_far ∙ ap (λ n. map at (range_with_len 0 v) ++ n ∷ []) here
    ∙ sym (map-range_with_len_more at 0 v v (omega arith))

-- the tables behind one that is taken
pub tables_behind : (tables first : List (Vec ℤ)) (v : ℕ) (t : Vec ℤ) → drop v tables ≡ drop v first → drop (v + 1) (set tables v t) ≡ drop (v + 1) first
tables_behind tables first v t left =
    drop-set-lt (v + 1) tables v t (omega arith) ∙ sym (drop-drop 1 v tables) ∙ ap (drop 1) left ∙ drop-drop 1 v first
