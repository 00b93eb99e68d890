-- A line at which the text stops is its bad line: the lines before it go on to a report, and with
-- it they go on to none.
use Rattle.std.proofs.Common.{◌≡◌, ◌≢◌, ◌⊎◌, ℕ, zero, suc, ◌+◌, ◌-◌, ◌<◌, List, [], ◌∷◌, ◌++◌, length, take, Bool, true, false, cond, inl, inr, refl, sym, ◌∙◌, ap, subst, arith}
use Rattle.std.specs.Prelude.{All, Contains, codes, pos, None}
use Rattle.std.specs.List.{flat_map}
use Rattle.std.proofs.lemmas.Bool.{cases_order}
use Rattle.std.proofs.lemmas.List.Elements.{All-nil, All-cons, All-contains, Contains-append_right}
use Rattle.std.proofs.lemmas.Nat.Gcd.{dvd_refl, dvd-zero}
use Rattle.first_fault.specs.Answers.{IsFaultOrNoMemory}
use Rattle.maid_model.specs.declared.diagrams.Kind.{Kind}
use Rattle.maid_model.specs.declared.diagrams.Kind.TheVariants.{Chance, Decision, Utility}
use Rattle.maid_model.specs.declared.answers.Ratio.{Ratio}
use Rattle.maid_model.specs.declared.answers.Row.{Row}
use Rattle.maid_model.specs.Views.{NodeView, DiagramView, SolvedView}
use Rattle.maid_model.specs.Graph.{AllDifferent}
use Rattle.maid_model.specs.Names.{NamesView}
use Rattle.maid_model.specs.Nodes.{is_decision, node_at, rows_of}
use Rattle.maid_model.specs.Reports.{decision_head, gain_line, line, report, row_line}
use Rattle.report_text.specs.Laws.{IsToldApart}
use Rattle.report_text.specs.Reading.{BeginsReport, CanStand, IsBadLine, FitsRatio, bad_line, lines_of, report_pass}
use Rattle.report_text.specs.declared.reading.ReportFault.{ReportFault}
use Rattle.report_text.specs.declared.reading.ReportFault.TheVariants.{BadLine, NoMemory}
use Rattle.report_text.specs.Slots.{IsDecisionOrder, IsOrderless, IsStuck, IsTaken, LinesView, StopsIn, Told, answer_slots, gain_slots, order_words, row_slots, slots_of}
use Rattle.report_text.proofs.OneText.{order_one}
use Rattle.report_text.proofs.Places.{CanFill, Filled, StopsAt, can_then, counted, ends_there, filled, goes_on}
use Rattle.report_text.proofs.ReportLines.{behind_from, behind_follows, list_behind, report_lines, title}
use Rattle.report_text.proofs.Standing.{standing_answers, standing_order, stands}
use Rattle.report_text.proofs.Stops.{taken_lines}

-- some order: the decisions from the last one down
abbrev down : List NodeView → ℕ → List ℕ
down nodes zero = []
down nodes (suc n) = cond (is_decision (node_at nodes n).kind) (n ∷ down nodes n) (down nodes n)

is_one : (k : Kind) → is_decision k ≡ true → k ≡ Decision
is_one Chance e = absurd cc
is_one Decision e = refl
is_one Utility e = absurd cc

is_one_back : (k : Kind) → k ≡ Decision → is_decision k ≡ true
is_one_back k e = ap is_decision e

record Below (nodes : List NodeView) (n v : ℕ) : Type 0 where
  below : v < n
  decision : (node_at nodes v).kind ≡ Decision

down_below : (nodes : List NodeView) (n : ℕ) → All (Below nodes n) (down nodes n)
down_below nodes zero = All-nil (Below nodes 0)
down_below nodes (suc n) = by_test (is_decision (node_at nodes n).kind) refl (λ k d h. let b = (down_below nodes n k d h) in record { below = let l = b.below in omega arith; decision = b.decision })
  where
    by_test : (t : Bool) → is_decision (node_at nodes n).kind ≡ t → All (Below nodes (suc n)) (down nodes n) → All (Below nodes (suc n)) (cond t (n ∷ down nodes n) (down nodes n))
    by_test true e rest = All-cons (Below nodes (suc n)) n (down nodes n) (record { below = omega arith; decision = is_one (node_at nodes n).kind e }) rest
    by_test false e rest = rest

down_differ : (nodes : List NodeView) (n : ℕ) → AllDifferent (down nodes n)
down_differ nodes zero = tt
down_differ nodes (suc n) = by_test (is_decision (node_at nodes n).kind) (down_differ nodes n)
  where
    apart : Contains (down nodes n) n → ⊥
    apart among = let b = All-contains (Below nodes n) (down nodes n) n (down_below nodes n) among in let l = b.below in omega arith

    by_test : (t : Bool) → AllDifferent (down nodes n) → AllDifferent (cond t (n ∷ down nodes n) (down nodes n))
    by_test true rest = (apart, rest)
    by_test false rest = rest

down_has : (nodes : List NodeView) (n v : ℕ) → v < n → (node_at nodes v).kind ≡ Decision → Contains (down nodes n) v
down_has nodes zero v h e = absurd (omega arith)
down_has nodes (suc n) v h e = by_place (cases_order v n)
    (λ same. subst (λ x. Contains (cond (is_decision (node_at nodes n).kind) (n ∷ down nodes n) (down nodes n)) x) (sym same) (here (is_decision (node_at nodes n).kind) (is_one_back (node_at nodes n).kind (subst (λ x. (node_at nodes x).kind ≡ Decision) same e))))
    (λ l. there (is_decision (node_at nodes n).kind) (down_has nodes n v l e))
  where
    here : (t : Bool) → t ≡ true → Contains (cond t (n ∷ down nodes n) (down nodes n)) n
    here true e = (0, omega arith, refl)
    here false e = absurd cc

    there : (t : Bool) → Contains (down nodes n) v → Contains (cond t (n ∷ down nodes n) (down nodes n)) v
    there true among = Contains-append_right (n ∷ []) (down nodes n) v among
    there false among = among

    by_place : (v ≡ n) ⊎ ((v < n) ⊎ (n < v)) → (v ≡ n → Contains (down nodes (suc n)) v) → (v < n → Contains (down nodes (suc n)) v) → Contains (down nodes (suc n)) v
    by_place (inl same) p q = p same
    by_place (inr (inl l)) p q = q l
    by_place (inr (inr l)) p q = absurd (omega arith)

some_order : (nodes : List NodeView) → IsDecisionOrder nodes (down nodes (length nodes))
some_order nodes = record {
  decisions = λ k d h. let b = down_below nodes (length nodes) k d h in record { within = b.below; kind = b.decision };
  all = λ v is. down_has nodes (length nodes) v is.within is.kind;
  once = down_differ nodes (length nodes);
}

-- each place may be filled
module _ (d : DiagramView) (names : NamesView) (is : IsToldApart d names) where
  rows_can : (v number count : ℕ) → CanFill d.nodes names (row_slots v number count)
  rows_can v number zero = tt
  rows_can v number (suc count) =
      let row : Row = record { choice = 0; worth = None } in
      ((row_line d.nodes names v number row, (row, record { choice = is.diagram.graph.has_state v; worth = tt }, refl)), rows_can v (number + 1) count)

  nought : FitsRatio (record { num = pos 0; den = 1 })
  nought = record {
    reduced = record { positive = omega arith; coprime = (dvd-zero 1, dvd_refl 1, λ k a b. b) };
    num = record { sfits = omega arith };
    den = omega arith;
  }

  gains_can : (agent count : ℕ) → CanFill d.nodes names (gain_slots agent count)
  gains_can agent zero = tt
  gains_can agent (suc count) =
      let gain : Ratio = record { num = pos 0; den = 1 } in
      ((gain_line names agent gain, (gain, nought, refl)), gains_can (agent + 1) count)

  answers_can : (order : List ℕ) → CanFill d.nodes names (flat_map (answer_slots d.nodes names) order)
  answers_can [] = tt
  answers_can (v ∷ order) = ((decision_head d.nodes names v, refl), can_then d.nodes names (row_slots v 0 (rows_of d.nodes v)) (flat_map (answer_slots d.nodes names) order) (rows_can v 0 (rows_of d.nodes v)) (answers_can order))

  all_can : (order : List ℕ) → CanFill d.nodes names (flat_map (answer_slots d.nodes names) order ++ gain_slots 0 d.agents)
  all_can order = can_then d.nodes names (flat_map (answer_slots d.nodes names) order) (gain_slots 0 d.agents) (answers_can order) (gains_can 0 d.agents)

  -- a report whose first lines are those
  record Begun (order : List ℕ) (lines : List (List ℕ)) (place : ℕ) : Type 0 where
    solved : SolvedView
    value : CanStand d solved
    begins : take (suc (suc place)) (title ∷ line (order_words names order) ∷ lines) ≡ take (suc (suc place)) (lines_of (report d names solved))

  begun : (order : List ℕ) → IsDecisionOrder d.nodes order → (lines : List (List ℕ)) (place : ℕ) → Filled d.nodes names (flat_map (answer_slots d.nodes names) order ++ gain_slots 0 d.agents) lines place → Begun order lines place
  begun order stands_so lines place f =
      let b = behind_from d.nodes names order d.agents f.whole f.follows in
      record {
        solved = record { order = order; answers = b.answers; gains = b.gains };
        value = stands d order b.answers b.gains stands_so b.follow b.each b.size b.ratios;
        begins = ap (λ ls. title ∷ line (order_words names order) ∷ ls) (f.same ∙ ap (take place) b.is) ∙ sym (ap (take (suc (suc place))) (report_lines d names is.told (record { order = order; answers = b.answers; gains = b.gains })));
      }

  some_report : Begun (down d.nodes (length d.nodes)) [] 0
  some_report = begun (down d.nodes (length d.nodes)) (some_order d.nodes) [] 0 (filled d.nodes names (flat_map (answer_slots d.nodes names) (down d.nodes (length d.nodes)) ++ gain_slots 0 d.agents) (all_can (down d.nodes (length d.nodes))) [])

  no_lines : (xs ys : List (List ℕ)) → take 0 xs ≡ take 0 ys
  no_lines [] [] = refl
  no_lines [] (y ∷ ys) = refl
  no_lines (x ∷ xs) [] = refl
  no_lines (x ∷ xs) (y ∷ ys) = refl

  -- each report begins with the title
  titled : (solved : SolvedView) (ls : List (List ℕ)) (n : ℕ) → take (suc n) ls ≡ take (suc n) (lines_of (report d names solved)) → take (suc n) ls ≡ title ∷ take n (line (order_words names solved.order) ∷ list_behind d.nodes names solved)
  titled solved ls n e = e ∙ ap (take (suc n)) (report_lines d names is.told solved)

  pub bad_title : (text : List ℕ) (number : ℕ) → StopsIn d.nodes names (Told title ∷ []) (lines_of text) 0 number → IsBadLine d names text number
  bad_title text number h = by_lines (lines_of text) refl h
    where
      before : number ≡ 0 + 1 → BeginsReport d names text (number - 1)
      before e = (some_report.solved, some_report.value, subst (λ n. take n (lines_of text) ≡ take n (lines_of (report d names some_report.solved))) (let p : 0 ≡ number - 1 = omega arith in p) (no_lines (lines_of text) (lines_of (report d names some_report.solved))))

      by_lines : (ls : List (List ℕ)) → lines_of text ≡ ls → StopsIn d.nodes names (Told title ∷ []) ls 0 number → IsBadLine d names text number
      by_lines [] e (none, n) = record {
        before = before n;
        none = λ (solved, value, same).
            let one : number ≡ 1 = omega arith in
            let t = titled solved (lines_of text) 0 (subst (λ k. take k (lines_of text) ≡ take k (lines_of (report d names solved))) one same) in
            let empty : take 1 [] ≡ title ∷ take 0 (line (order_words names solved.order) ∷ list_behind d.nodes names solved) = subst (λ ls. take 1 ls ≡ title ∷ take 0 (line (order_words names solved.order) ∷ list_behind d.nodes names solved)) e t in
            absurd cc;
      }
      by_lines (l ∷ ls) e (inl (none, n)) = record {
        before = before n;
        none = λ (solved, value, same).
            let one : number ≡ 1 = omega arith in
            let t = titled solved (lines_of text) 0 (subst (λ k. take k (lines_of text) ≡ take k (lines_of (report d names solved))) one same) in
            let first : l ∷ take 0 ls ≡ title ∷ take 0 (line (order_words names solved.order) ∷ list_behind d.nodes names solved) = subst (λ ls. take 1 ls ≡ title ∷ take 0 (line (order_words names solved.order) ∷ list_behind d.nodes names solved)) e t in
            let head : l ≡ title = cc in
            none head;
      }
      by_lines (l ∷ ls) e (inr (shows, stops)) = absurd stops

  -- the line of the order is none
  pub bad_order : (text : List ℕ) (lines : List (List ℕ)) (number : ℕ) → lines_of text ≡ title ∷ lines → number ≡ 2 → ((order : List ℕ) (others : List (List ℕ)) → IsDecisionOrder d.nodes order → lines ≢ line (order_words names order) ∷ others) → IsBadLine d names text number
  bad_order text lines number e n none = record {
    before = (some_report.solved, some_report.value, subst (λ k. take k (lines_of text) ≡ take k (lines_of (report d names some_report.solved))) (let p : 1 ≡ number - 1 = omega arith in p) (ap (take 1) e ∙ sym (first some_report.solved)));
    none = λ (solved, value, same).
        let two = subst (λ k. take k (lines_of text) ≡ take k (lines_of (report d names solved))) n same in
        let t = subst (λ ls. take 2 ls ≡ title ∷ take 1 (line (order_words names solved.order) ∷ list_behind d.nodes names solved)) e (titled solved (lines_of text) 1 two) in
        second lines solved (standing_order d solved value) t;
  }
    where
      first : (solved : SolvedView) → take 1 (lines_of (report d names solved)) ≡ take 1 (title ∷ lines)
      first solved = ap (take 1) (report_lines d names is.told solved) ∙ ap (λ ls. title ∷ ls) (no_lines (line (order_words names solved.order) ∷ list_behind d.nodes names solved) lines)

      by_lines : (ls : List (List ℕ)) → lines ≡ ls → (solved : SolvedView) → IsDecisionOrder d.nodes solved.order → take 2 (title ∷ ls) ≡ title ∷ take 1 (line (order_words names solved.order) ∷ list_behind d.nodes names solved) → ⊥
      by_lines [] f solved order t = absurd cc
      by_lines (l ∷ ls) f solved order t =
          let head : l ≡ line (order_words names solved.order) = cc in
          none solved.order ls order (f ∙ (λ i. head i ∷ ls))

      second : (ls : List (List ℕ)) (solved : SolvedView) → IsDecisionOrder d.nodes solved.order → take 2 (title ∷ lines) ≡ title ∷ take 1 (line (order_words names solved.order) ∷ list_behind d.nodes names solved) → ⊥
      second ls solved order t = by_lines lines refl solved order t

  -- a line behind it
  pub bad_behind : (text : List ℕ) (order : List ℕ) (lines : List (List ℕ)) (number : ℕ) → IsDecisionOrder d.nodes order → lines_of text ≡ title ∷ line (order_words names order) ∷ lines → StopsIn d.nodes names (slots_of d names order) lines 2 number → IsBadLine d names text number
  bad_behind text order lines number stands_so e stops =
      let c = counted d.nodes names (slots_of d names order) lines 2 number stops in
      by_count c.place c.is c.stops
    where
      by_count : (place : ℕ) → number ≡ 2 + suc place → StopsAt d.nodes names (slots_of d names order) lines place → IsBadLine d names text number
      by_count place n h = record {
        before =
            let f = goes_on d.nodes names (flat_map (answer_slots d.nodes names) order ++ gain_slots 0 d.agents) (all_can order) lines place h in
            let b = begun order stands_so lines place f in
            let p : suc (suc place) ≡ number - 1 = omega arith in
            (b.solved, b.value, subst (λ k. take k (lines_of text) ≡ take k (lines_of (report d names b.solved))) p (ap (take (suc (suc place))) e ∙ b.begins));
        none = λ (solved, value, same).
            let size : number ≡ suc (suc (suc place)) = omega arith in
            let t = subst (λ ls. take (suc (suc (suc place))) ls ≡ title ∷ take (suc (suc place)) (line (order_words names solved.order) ∷ list_behind d.nodes names solved)) e (titled solved (lines_of text) (suc (suc place)) (subst (λ k. take k (lines_of text) ≡ take k (lines_of (report d names solved))) size same)) in
            let order_line : line (order_words names order) ≡ line (order_words names solved.order) = cc in
            let tail : take (suc place) lines ≡ take (suc place) (list_behind d.nodes names solved) = cc in
            let same_order = order_one d names is order solved.order stands_so (standing_order d solved value) order_line in
            ends_there d.nodes names (flat_map (answer_slots d.nodes names) order ++ gain_slots 0 d.agents) (list_behind d.nodes names solved) lines place
            (behind_follows d.nodes names order d.agents solved (value.fits.follow ∙ sym same_order) (standing_answers d solved value) value.fits.gains value.gains) h tail;
      }

  -- so each fault tells its line
  pub untitled : (text : List ℕ) (fault : ReportFault) → IsStuck d.nodes names (Told title ∷ []) (record { rest = text; read = 0 }) fault → IsFaultOrNoMemory bad_line (report_pass d names text) fault
  untitled text NoMemory h = tt
  untitled text (BadLine number) h = bad_title text number h

  pub unordered : (text : List ℕ) (mid : LinesView) (fault : ReportFault) → IsTaken (codes "maidsolve report 1") (record { rest = text; read = 0 }) mid → IsOrderless d.nodes names mid fault → IsFaultOrNoMemory bad_line (report_pass d names text) fault
  unordered text mid NoMemory taken h = tt
  unordered text mid (BadLine number) taken h =
      let r = taken.read in
      let n = h.0 in
      bad_order text (lines_of mid.rest) number (taken_lines (codes "maidsolve report 1") (record { rest = text; read = 0 }) mid taken) (omega arith) h.1

  pub unfinished : (text : List ℕ) (order : List ℕ) (mid new : LinesView) (fault : ReportFault) → IsDecisionOrder d.nodes order → IsTaken (codes "maidsolve report 1") (record { rest = text; read = 0 }) mid → IsTaken (order_words names order) mid new → IsStuck d.nodes names (slots_of d names order) new fault → IsFaultOrNoMemory bad_line (report_pass d names text) fault
  unfinished text order mid new NoMemory stands_so taken ordered h = tt
  unfinished text order mid new (BadLine number) stands_so taken ordered h =
      let r = taken.read in
      let s = ordered.read in
      let two : new.read ≡ 2 = omega arith in
      bad_behind text order (lines_of new.rest) number stands_so
      (taken_lines (codes "maidsolve report 1") (record { rest = text; read = 0 }) mid taken ∙ ap (λ ls. title ∷ ls) (taken_lines (order_words names order) mid new ordered))
      (subst (λ k. StopsIn d.nodes names (slots_of d names order) (lines_of new.rest) k number) two h)
