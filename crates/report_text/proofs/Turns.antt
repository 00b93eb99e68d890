-- Rows, decisions and gains in turn: one more line, or the line at which the text stops.
use Rattle.std.proofs.Common.{◌≡◌, ℕ, zero, suc, ◌+◌, ◌-◌, ◌<◌, List, [], ◌∷◌, ◌++◌, map, length, take, drop, get_or, refl, sym, ◌∙◌, ap, subst, arith, append_assoc, length-append, add-one, drop-cons}
use Rattle.std.specs.Prelude.{All}
use Rattle.std.specs.List.{flat_map}
use Rattle.std.proofs.lemmas.List.{append-nil, take-append-drop}
use Rattle.std.proofs.lemmas.List.Elements.{All-push}
use Rattle.maid_model.specs.declared.answers.Ratio.{Ratio}
use Rattle.maid_model.specs.declared.answers.Row.{Row}
use Rattle.maid_model.specs.Views.{NodeView, AnswerView}
use Rattle.maid_model.specs.Names.{NamesView}
use Rattle.maid_model.specs.Nodes.{rows_of}
use Rattle.maid_model.specs.Reports.{decision_head, decision_lines, gain_line, gain_lines, row_line, row_lines}
use Rattle.report_text.specs.Reading.{FitsRatio}
use Rattle.report_text.specs.declared.reading.ReportFault.{ReportFault}
use Rattle.report_text.specs.Slots.{Told, OfRow, OfGain, IsRead, IsRow, IsStuck, IsTaken, LinesView, PassesLines, ReadsAnswer, ReadsAnswers, ReadsGains, ReadsRows, answer_slots, decision_words, gain_slots, gain_words, row_slots, row_words}
use Rattle.report_text.proofs.Stops.{passes_one, passes_then, stuck_behind, stuck_front}
use Rattle.report_text.proofs.Unended.{gain_line_is, row_line_is}

-- the places of the rows fall into the first ones, one, and the others
pub row_slots_split : (d number k count : ℕ) → row_slots d number (k + suc count) ≡ row_slots d number k ++ OfRow d (number + k) ∷ row_slots d (number + k + 1) count
row_slots_split d number zero count =
    let none : 0 + suc count ≡ suc count = omega arith in
    let here : number + 0 ≡ number = omega arith in
    rw (none, here) refl
row_slots_split d number (suc k) count =
    let more : suc k + suc count ≡ suc (k + suc count) = omega arith in
    let here : number + 1 + k ≡ number + suc k = omega arith in
    rw (more, row_slots_split d (number + 1) k count, here) refl

pub gain_slots_split : (agent k count : ℕ) → gain_slots agent (k + suc count) ≡ gain_slots agent k ++ OfGain (agent + k) ∷ gain_slots (agent + k + 1) count
gain_slots_split agent zero count =
    let none : 0 + suc count ≡ suc count = omega arith in
    let here : agent + 0 ≡ agent = omega arith in
    rw (none, here) refl
gain_slots_split agent (suc k) count =
    let more : suc k + suc count ≡ suc (k + suc count) = omega arith in
    let here : agent + 1 + k ≡ agent + suc k = omega arith in
    rw (more, gain_slots_split (agent + 1) k count, here) refl

row_slots_push : (d k : ℕ) → row_slots d 0 (k + 1) ≡ row_slots d 0 k ++ OfRow d k ∷ []
row_slots_push d k =
    let here : 0 + k ≡ k = omega arith in
    row_slots_split d 0 k 0 ∙ ap (λ n. row_slots d 0 k ++ OfRow d n ∷ []) here

gain_slots_push : (k : ℕ) → gain_slots 0 (k + 1) ≡ gain_slots 0 k ++ OfGain k ∷ []
gain_slots_push k =
    let here : 0 + k ≡ k = omega arith in
    gain_slots_split 0 k 0 ∙ ap (λ n. gain_slots 0 k ++ OfGain n ∷ []) here

row_lines_push : (nodes : List NodeView) (names : NamesView) (d number : ℕ) (rows : List Row) (row : Row) → row_lines nodes names d number (rows ++ row ∷ []) ≡ row_lines nodes names d number rows ++ row_line nodes names d (number + length rows) row
row_lines_push nodes names d number [] row =
    let here : number + 0 ≡ number = omega arith in
    append-nil (row_line nodes names d number row) ∙ ap (λ n. row_line nodes names d n row) (sym here)
row_lines_push nodes names d number (r ∷ rows) row =
    let here : number + 1 + length rows ≡ number + suc (length rows) = omega arith in
    ap (λ x. row_line nodes names d number r ++ x) (row_lines_push nodes names d (number + 1) rows row ∙ ap (λ n. row_lines nodes names d (number + 1) rows ++ row_line nodes names d n row) here)
    ∙ sym (append_assoc (row_line nodes names d number r) (row_lines nodes names d (number + 1) rows) (row_line nodes names d (number + suc (length rows)) row))

gain_lines_push : (names : NamesView) (agent : ℕ) (gains : List Ratio) (gain : Ratio) → gain_lines names agent (gains ++ gain ∷ []) ≡ gain_lines names agent gains ++ gain_line names (agent + length gains) gain
gain_lines_push names agent [] gain =
    let here : agent + 0 ≡ agent = omega arith in
    append-nil (gain_line names agent gain) ∙ ap (λ n. gain_line names n gain) (sym here)
gain_lines_push names agent (g ∷ gains) gain =
    let here : agent + 1 + length gains ≡ agent + suc (length gains) = omega arith in
    ap (λ x. gain_line names agent g ++ x) (gain_lines_push names (agent + 1) gains gain ∙ ap (λ n. gain_lines names (agent + 1) gains ++ gain_line names n gain) here)
    ∙ sym (append_assoc (gain_line names agent g) (gain_lines names (agent + 1) gains) (gain_line names (agent + suc (length gains)) gain))

-- bytes that were read, and then more
more_bytes : (old front mid line new : List ℕ) → old ≡ front ++ mid → mid ≡ line ++ new → old ≡ (front ++ line) ++ new
more_bytes old front mid line new e f = e ∙ ap (λ x. front ++ x) f ∙ sym (append_assoc front line new)

ended_bytes : (mid words new line : List ℕ) → mid ≡ words ++ 10 ∷ new → line ≡ words ++ 10 ∷ [] → mid ≡ line ++ new
ended_bytes mid words new line e f = e ∙ sym (append_assoc words (10 ∷ []) new) ∙ ap (λ x. x ++ new) (sym f)

module _ (nodes : List NodeView) (names : NamesView) where
  pub rows_step : (d number : ℕ) (rows : List Row) (row : Row) (old mid new : LinesView) → ReadsRows nodes names d number rows old mid → IsRow nodes d row → IsTaken (row_words nodes names d number row) mid new → ReadsRows nodes names d (number + 1) (rows ++ row ∷ []) old new
  rows_step d number rows row old mid new so is taken = record {
    count = length-append rows (row ∷ []) ∙ ap (λ n. n + 1) so.count;
    rows = All-push (IsRow nodes d) rows row so.rows is;
    bytes = more_bytes old.rest (row_lines nodes names d 0 rows) mid.rest (row_line nodes names d number row) new.rest so.bytes line ∙ ap (λ x. x ++ new.rest) (sym pushed);
    passes = subst (λ s. PassesLines nodes names s old new) (sym (row_slots_push d number)) (passes_then nodes names (row_slots d 0 number) (OfRow d number ∷ []) old mid new so.passes (passes_one nodes names (OfRow d number) (row_words nodes names d number row) mid new (row, is, sym (row_line_is nodes names d number row)) taken));
  }
    where
      line : mid.rest ≡ row_line nodes names d number row ++ new.rest
      line = ended_bytes mid.rest (row_words nodes names d number row) new.rest (row_line nodes names d number row) taken.bytes (row_line_is nodes names d number row)

      place : 0 + length rows ≡ number
      place = let n = so.count in omega arith

      pushed : row_lines nodes names d 0 (rows ++ row ∷ []) ≡ row_lines nodes names d 0 rows ++ row_line nodes names d number row
      pushed = row_lines_push nodes names d 0 rows row ∙ ap (λ n. row_lines nodes names d 0 rows ++ row_line nodes names d n row) place

  pub rows_stuck : (d number count : ℕ) (rows : List Row) (old mid : LinesView) (fault : ReportFault) → number < count → ReadsRows nodes names d number rows old mid → IsStuck nodes names (OfRow d number ∷ []) mid fault → IsStuck nodes names (row_slots d 0 count) old fault
  rows_stuck d number count rows old mid fault h so stuck =
      let size : number + suc (count - suc number) ≡ count = omega arith in
      let here : 0 + number ≡ number = omega arith in
      let whole : row_slots d 0 count ≡ row_slots d 0 number ++ OfRow d number ∷ row_slots d (0 + number + 1) (count - suc number) = ap (row_slots d 0) (sym size) ∙ row_slots_split d 0 number (count - suc number) ∙ ap (λ n. row_slots d 0 number ++ OfRow d n ∷ row_slots d (0 + number + 1) (count - suc number)) here in
      subst (λ s. IsStuck nodes names s old fault) (sym whole)
      (stuck_behind nodes names (row_slots d 0 number) (OfRow d number ∷ row_slots d (0 + number + 1) (count - suc number)) old mid fault so.passes (stuck_front nodes names (OfRow d number ∷ []) (row_slots d (0 + number + 1) (count - suc number)) mid fault stuck))

  pub gains_step : (agent : ℕ) (gains : List Ratio) (gain : Ratio) (old mid new : LinesView) → ReadsGains nodes names agent gains old mid → FitsRatio gain → IsTaken (gain_words names agent gain) mid new → ReadsGains nodes names (agent + 1) (gains ++ gain ∷ []) old new
  gains_step agent gains gain old mid new so is taken = record {
    count = length-append gains (gain ∷ []) ∙ ap (λ n. n + 1) so.count;
    gains = All-push FitsRatio gains gain so.gains is;
    bytes = more_bytes old.rest (gain_lines names 0 gains) mid.rest (gain_line names agent gain) new.rest so.bytes line ∙ ap (λ x. x ++ new.rest) (sym pushed);
    passes = subst (λ s. PassesLines nodes names s old new) (sym (gain_slots_push agent)) (passes_then nodes names (gain_slots 0 agent) (OfGain agent ∷ []) old mid new so.passes (passes_one nodes names (OfGain agent) (gain_words names agent gain) mid new (gain, is, sym (gain_line_is names agent gain)) taken));
  }
    where
      line : mid.rest ≡ gain_line names agent gain ++ new.rest
      line = ended_bytes mid.rest (gain_words names agent gain) new.rest (gain_line names agent gain) taken.bytes (gain_line_is names agent gain)

      place : 0 + length gains ≡ agent
      place = let n = so.count in omega arith

      pushed : gain_lines names 0 (gains ++ gain ∷ []) ≡ gain_lines names 0 gains ++ gain_line names agent gain
      pushed = gain_lines_push names 0 gains gain ∙ ap (λ n. gain_lines names 0 gains ++ gain_line names n gain) place

  pub gains_stuck : (agent count : ℕ) (gains : List Ratio) (old mid : LinesView) (fault : ReportFault) → agent < count → ReadsGains nodes names agent gains old mid → IsStuck nodes names (OfGain agent ∷ []) mid fault → IsStuck nodes names (gain_slots 0 count) old fault
  gains_stuck agent count gains old mid fault h so stuck =
      let size : agent + suc (count - suc agent) ≡ count = omega arith in
      let here : 0 + agent ≡ agent = omega arith in
      let whole : gain_slots 0 count ≡ gain_slots 0 agent ++ OfGain agent ∷ gain_slots (0 + agent + 1) (count - suc agent) = ap (gain_slots 0) (sym size) ∙ gain_slots_split 0 agent (count - suc agent) ∙ ap (λ n. gain_slots 0 agent ++ OfGain n ∷ gain_slots (0 + agent + 1) (count - suc agent)) here in
      subst (λ s. IsStuck nodes names s old fault) (sym whole)
      (stuck_behind nodes names (gain_slots 0 agent) (OfGain agent ∷ gain_slots (0 + agent + 1) (count - suc agent)) old mid fault so.passes (stuck_front nodes names (OfGain agent ∷ []) (gain_slots (0 + agent + 1) (count - suc agent)) mid fault stuck))

  -- a decision's line and its rows
  pub answer_read : (d : ℕ) (rows : List Row) (old mid new : LinesView) → IsTaken (decision_words nodes names d) old mid → ReadsRows nodes names d (rows_of nodes d) rows mid new → ReadsAnswer nodes names d (record { decision = d; rows = rows }) old new
  answer_read d rows old mid new taken so = record {
    decision = refl;
    count = so.count;
    rows = so.rows;
    bytes = more_bytes old.rest (decision_head nodes names d) mid.rest (row_lines nodes names d 0 rows) new.rest (ended_bytes old.rest (decision_words nodes names d) mid.rest (decision_head nodes names d) taken.bytes refl) so.bytes;
    passes = passes_then nodes names (Told (decision_head nodes names d) ∷ []) (row_slots d 0 (rows_of nodes d)) old mid new (passes_one nodes names (Told (decision_head nodes names d)) (decision_words nodes names d) old mid refl taken) so.passes;
  }

  pub answer_stuck : (d : ℕ) (old mid : LinesView) (fault : ReportFault) → IsTaken (decision_words nodes names d) old mid → IsStuck nodes names (row_slots d 0 (rows_of nodes d)) mid fault → IsStuck nodes names (answer_slots nodes names d) old fault
  answer_stuck d old mid fault taken stuck = stuck_behind nodes names (Told (decision_head nodes names d) ∷ []) (row_slots d 0 (rows_of nodes d)) old mid fault (passes_one nodes names (Told (decision_head nodes names d)) (decision_words nodes names d) old mid refl taken) stuck

  flat_push : {A B : Type 0} (f : A → List B) (xs : List A) (x : A) → flat_map f (xs ++ x ∷ []) ≡ flat_map f xs ++ f x
  flat_push f [] x = append-nil (f x)
  flat_push f (y ∷ xs) x = ap (λ z. f y ++ z) (flat_push f xs x) ∙ sym (append_assoc (f y) (flat_map f xs) (f x))

  flat_split : {A B : Type 0} (f : A → List B) (xs : List A) (x : A) (ys : List A) → flat_map f (xs ++ x ∷ ys) ≡ flat_map f xs ++ (f x ++ flat_map f ys)
  flat_split f [] x ys = refl
  flat_split f (y ∷ xs) x ys = ap (λ z. f y ++ z) (flat_split f xs x ys) ∙ sym (append_assoc (f y) (flat_map f xs) (f x ++ flat_map f ys))

  map_push : (answers : List AnswerView) (answer : AnswerView) → map (λ (a : AnswerView). a.decision) (answers ++ answer ∷ []) ≡ map (λ (a : AnswerView). a.decision) answers ++ answer.decision ∷ []
  map_push [] answer = refl
  map_push (a ∷ answers) answer = ap (λ z. a.decision ∷ z) (map_push answers answer)

  pub answers_step : (order : List ℕ) (d : ℕ) (answers : List AnswerView) (answer : AnswerView) (old mid new : LinesView) → ReadsAnswers nodes names order answers old mid → ReadsAnswer nodes names d answer mid new → ReadsAnswers nodes names (order ++ d ∷ []) (answers ++ answer ∷ []) old new
  answers_step order d answers answer old mid new so one = record {
    follow = map_push answers answer ∙ (λ i. so.follow i ++ one.decision i ∷ []);
    each = All-push (IsRead nodes) answers answer so.each read;
    bytes = more_bytes old.rest (flat_map (decision_lines nodes names) answers) mid.rest (decision_lines nodes names answer) new.rest so.bytes one.bytes ∙ ap (λ x. x ++ new.rest) (sym (flat_push (decision_lines nodes names) answers answer));
    passes = subst (λ s. PassesLines nodes names s old new) (sym (flat_push (answer_slots nodes names) order d)) (passes_then nodes names (flat_map (answer_slots nodes names) order) (answer_slots nodes names d) old mid new so.passes one.passes);
  }
    where
      read : IsRead nodes answer
      read = record { count = one.count ∙ ap (rows_of nodes) (sym one.decision); rows = subst (λ v. All (IsRow nodes v) answer.rows) (sym one.decision) one.rows }

  pub answers_stuck : (before : List ℕ) (d : ℕ) (after : List ℕ) (answers : List AnswerView) (old mid : LinesView) (fault : ReportFault) → ReadsAnswers nodes names before answers old mid → IsStuck nodes names (answer_slots nodes names d) mid fault → IsStuck nodes names (flat_map (answer_slots nodes names) (before ++ d ∷ after)) old fault
  answers_stuck before d after answers old mid fault so stuck =
      subst (λ s. IsStuck nodes names s old fault) (sym (flat_split (answer_slots nodes names) before d after))
      (stuck_behind nodes names (flat_map (answer_slots nodes names) before) (answer_slots nodes names d ++ flat_map (answer_slots nodes names) after) old mid fault so.passes (stuck_front nodes names (answer_slots nodes names d) (flat_map (answer_slots nodes names) after) mid fault stuck))

  -- all of them, and nothing behind
  pub behind_bytes : (order : List ℕ) (agents : ℕ) (answers : List AnswerView) (gains : List Ratio) (old mid new : LinesView) → ReadsAnswers nodes names order answers old mid → ReadsGains nodes names agents gains mid new → new.rest ≡ [] → old.rest ≡ flat_map (decision_lines nodes names) answers ++ gain_lines names 0 gains
  behind_bytes order agents answers gains old mid new a g e =
      a.bytes ∙ ap (λ x. flat_map (decision_lines nodes names) answers ++ x) (g.bytes ∙ ap (λ x. gain_lines names 0 gains ++ x) e ∙ append-nil (gain_lines names 0 gains))

-- a list falls into the elements before a place, that at it and those behind
pub parted : (xs : List ℕ) (i : ℕ) → i < length xs → xs ≡ take i xs ++ get_or xs i 0 ∷ drop (i + 1) xs
parted xs i h = sym (take-append-drop i xs) ∙ ap (λ ys. take i xs ++ ys) (drop-cons xs i 0 h ∙ ap (λ k. get_or xs i 0 ∷ drop k xs) (sym (add-one i)))
