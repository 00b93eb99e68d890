-- The words of the order's line, one by one: what was read is the front of every order that the
-- line may show.
use Rattle.std.proofs.Common.{◌≡◌, ◌≢◌, ◌⊎◌, ℕ, zero, suc, ◌<◌, List, [], ◌∷◌, ◌++◌, map, length, true, inl, inr, refl, sym, ◌∙◌, ap, subst, arith, append_assoc}
use Rattle.std.specs.Prelude.{All, Contains, codes}
use Rattle.std.proofs.lemmas.List.{append-nil}
use Rattle.std.proofs.lemmas.Bool.{cases_order}
use Rattle.std.proofs.lemmas.List.Elements.{All-contains, All-nil, All-push, Contains-append_cases, Contains-append_right, Contains-push_cases}
use Rattle.maid_model.specs.Graph.{AllDifferent}
use Rattle.maid_model.specs.Views.{NodeView, DiagramView}
use Rattle.maid_model.specs.Names.{NamesView, NamesFit, name_of}
use Rattle.maid_model.specs.Nodes.{IsDecision}
use Rattle.maid_model.specs.Reports.{spaced}
use Rattle.report_text.specs.Reading.{AreTold}
use Rattle.report_text.specs.Slots.{IsEndOr, IsFront, IsDecisionOrder, lacks, order_words}
use Rattle.report_text.proofs.OneCut.{cut_is, lacks_from}
use Rattle.report_text.proofs.Tails.{same_rest}

-- a list whose elements are no such byte lacks it
pub lacks_all : (byte : ℕ) (bytes : List ℕ) → All (λ b. b ≢ byte) bytes → lacks byte bytes ≡ true
lacks_all byte [] all = refl
lacks_all byte (b ∷ bytes) all = rw (lacks_from b byte (all 0 0 (omega arith)), lacks_all byte bytes (λ k d h. all (suc k) d (omega arith))) refl

-- names are words
pub name_lacks_space : (names : NamesView) → AreTold names → (v : ℕ) → v < length names.nodes → lacks 32 (name_of names v) ≡ true
name_lacks_space names told v h = lacks_all 32 (name_of names v) (λ k d l. (told.words v [] h k d l).1)

-- names differ
pub one_name : (names : NamesView) → AreTold names → (u v : ℕ) → u < length names.nodes → v < length names.nodes → name_of names u ≡ name_of names v → u ≡ v
one_name names told u v h k e = by_order (cases_order u v)
  where
    by_order : (u ≡ v) ⊎ ((u < v) ⊎ (v < u)) → u ≡ v
    by_order (inl same) = same
    by_order (inr (inl l)) = absurd (told.differ u v [] l k e)
    by_order (inr (inr l)) = absurd (told.differ v u [] l h (sym e))

pub spaced_begins : (pieces : List (List ℕ)) → IsEndOr 32 (spaced pieces)
spaced_begins [] = tt
spaced_begins (p ∷ ps) = refl

-- one more name in a line
spaced_push : (names : NamesView) (items : List ℕ) (node : ℕ) → spaced (map (name_of names) (items ++ node ∷ [])) ≡ spaced (map (name_of names) items) ++ (32 ∷ name_of names node)
spaced_push names [] node = append-nil (32 ∷ name_of names node)
spaced_push names (v ∷ items) node = ap (λ x. (32 ∷ name_of names v) ++ x) (spaced_push names items node) ∙ sym (append_assoc (32 ∷ name_of names v) (spaced (map (name_of names) items)) (32 ∷ name_of names node))

pushed_words : (names : NamesView) (items : List ℕ) (node : ℕ) (others : List ℕ) → order_words names (items ++ node ∷ []) ++ others ≡ order_words names items ++ (32 ∷ name_of names node ++ others)
pushed_words names items node others =
    ap (λ x. (codes "order:" ++ x) ++ others) (spaced_push names items node)
    ∙ ap (λ x. codes "order:" ++ x) (append_assoc (spaced (map (name_of names) items)) (32 ∷ name_of names node) others)

-- lists of different numbers
pub different_push : (xs : List ℕ) (v : ℕ) → AllDifferent xs → (Contains xs v → ⊥) → AllDifferent (xs ++ v ∷ [])
different_push [] v d new = (λ (k, h, e). omega arith, tt)
different_push (x ∷ xs) v d new = (apart, different_push xs v d.1 (λ among. new (Contains-append_right (x ∷ []) xs v among)))
  where
    by_cases : Contains xs x ⊎ (v ≡ x) → ⊥
    by_cases (inl among) = d.0 among
    by_cases (inr same) = new (0, omega arith, sym same)

    apart : Contains (xs ++ v ∷ []) x → ⊥
    apart among = by_cases (Contains-push_cases xs v x among)

pub different_front : (xs : List ℕ) (v : ℕ) (ys : List ℕ) → AllDifferent (xs ++ v ∷ ys) → Contains xs v → ⊥
different_front [] v ys d (k, h, e) = omega arith
different_front (x ∷ xs) v ys d among = by_cases (different_front xs v ys d.1) (Contains-append_cases (x ∷ []) xs v among)
  where
    by_cases : (Contains xs v → ⊥) → Contains (x ∷ []) v ⊎ Contains xs v → ⊥
    by_cases later (inl (zero, h, e)) = d.0 (subst (λ y. Contains (xs ++ v ∷ ys) y) (sym e) (Contains-append_right xs (v ∷ ys) v (0, omega arith, refl)))
    by_cases later (inl (suc k, h, e)) = absurd (omega arith)
    by_cases later (inr among) = later among

-- the order goes on with these nodes, and so does the line
pub record Extends (names : NamesView) (items rest order : List ℕ) : Type 0 where
  pub more : List ℕ
  pub is : order ≡ items ++ more
  pub tail : rest ≡ spaced (map (name_of names) more)

-- what was read so far
pub record OrderSoFar (nodes : List NodeView) (names : NamesView) (line items rest : List ℕ) : Type 0 where
  pub decisions : All (IsDecision nodes) items
  pub once : AllDifferent items
  pub line_is : line ≡ order_words names items ++ rest
  pub others : (order : List ℕ) → IsDecisionOrder nodes order → line ≡ order_words names order → Extends names items rest order

pub order_start : (nodes : List NodeView) (names : NamesView) (line rest : List ℕ) → line ≡ codes "order:" ++ rest → OrderSoFar nodes names line [] rest
order_start nodes names line rest e = record {
  decisions = All-nil (IsDecision nodes);
  once = tt;
  line_is = e;
  others = λ order is same. record { more = order; is = refl; tail = same_rest (codes "order:") rest (spaced (map (name_of names) order)) (sym e ∙ same) };
}

-- the next word is the name of the order's next decision
pub record NextName (nodes : List NodeView) (names : NamesView) (name others items order : List ℕ) : Type 0 where
  pub node : ℕ
  pub decision : IsDecision nodes node
  pub name_is : name ≡ name_of names node
  pub more : List ℕ
  pub is : order ≡ items ++ node ∷ more
  pub tail : others ≡ spaced (map (name_of names) more)

module _ (d : DiagramView) (names : NamesView) (fit : NamesFit d names) (told : AreTold names) where
  named : (v : ℕ) → IsDecision d.nodes v → v < length names.nodes
  named v is = subst (λ n. v < n) (sym fit.nodes) is.within

  pub next_name : (items rest words name others order : List ℕ) → IsDecisionOrder d.nodes order → rest ≡ 32 ∷ words → IsFront 32 words name others → Extends names items rest order → NextName d.nodes names name others items order
  next_name items rest words name others order is e front ext = by_more ext.more ext.is ext.tail
    where
      by_more : (more : List ℕ) → order ≡ items ++ more → rest ≡ spaced (map (name_of names) more) → NextName d.nodes names name others items order
      by_more [] o t = absurd cc
      by_more (v ∷ more) o t =
          let decision : IsDecision d.nodes v = All-contains (IsDecision d.nodes) order v is.decisions (subst (λ xs. Contains xs v) (sym o) (Contains-append_right items (v ∷ more) v (0, omega arith, refl))) in
          let tail : words ≡ name_of names v ++ spaced (map (name_of names) more) = cc in
          let cut = cut_is 32 words name others (name_of names v) (spaced (map (name_of names) more)) front (name_lacks_space names told v (named v decision)) (spaced_begins (map (name_of names) more)) tail in
          record { node = v; decision = decision; name_is = cut.front; more = more; is = o; tail = cut.rest }

  -- one more name
  pub order_step : (line items rest words name others : List ℕ) (node : ℕ) → OrderSoFar d.nodes names line items rest → rest ≡ 32 ∷ words → IsFront 32 words name others → IsDecision d.nodes node → name_of names node ≡ name → (Contains items node → ⊥) → OrderSoFar d.nodes names line (items ++ node ∷ []) others
  order_step line items rest words name others node so e front decision is new = record {
    decisions = All-push (IsDecision d.nodes) items node so.decisions decision;
    once = different_push items node so.once new;
    line_is = so.line_is ∙ ap (λ x. order_words names items ++ x) (e ∙ ap (λ x. 32 ∷ x) (front.whole ∙ ap (λ x. x ++ others) (sym is))) ∙ sym (pushed_words names items node others);
    others = λ order stands same.
        let next = next_name items rest words name others order stands e front (so.others order stands same) in
        let node_is : next.node ≡ node = one_name names told next.node node (named next.node next.decision) (named node decision) (sym next.name_is ∙ sym is) in
        record { more = next.more; is = next.is ∙ ap (λ v. items ++ v ∷ next.more) node_is ∙ sym (append_assoc items (node ∷ []) next.more); tail = next.tail };
  }

  -- a word that is no decision's name, or a name that came before
  pub order_unnamed : (line items rest words name others order : List ℕ) → OrderSoFar d.nodes names line items rest → rest ≡ 32 ∷ words → IsFront 32 words name others → ((v : ℕ) → IsDecision d.nodes v → name_of names v ≢ name) → IsDecisionOrder d.nodes order → line ≡ order_words names order → ⊥
  order_unnamed line items rest words name others order so e front none stands same =
      let next = next_name items rest words name others order stands e front (so.others order stands same) in
      none next.node next.decision (sym next.name_is)

  pub order_again : (line items rest words name others order : List ℕ) (node : ℕ) → OrderSoFar d.nodes names line items rest → rest ≡ 32 ∷ words → IsFront 32 words name others → IsDecision d.nodes node → name_of names node ≡ name → Contains items node → IsDecisionOrder d.nodes order → line ≡ order_words names order → ⊥
  order_again line items rest words name others order node so e front decision is again stands same =
      let next = next_name items rest words name others order stands e front (so.others order stands same) in
      let node_is : next.node ≡ node = one_name names told next.node node (named next.node next.decision) (named node decision) (sym next.name_is ∙ sym is) in
      different_front items node next.more (subst AllDifferent (next.is ∙ ap (λ v. items ++ v ∷ next.more) node_is) stands.once) again

  -- a rest that begins with no space
  pub order_spaceless : (line items rest order : List ℕ) → OrderSoFar d.nodes names line items rest → 0 < length rest → ((words : List ℕ) → rest ≡ 32 ∷ words → ⊥) → IsDecisionOrder d.nodes order → line ≡ order_words names order → ⊥
  order_spaceless line items rest order so some none stands same = by_more (so.others order stands same).more (so.others order stands same).tail
    where
      by_more : (more : List ℕ) → rest ≡ spaced (map (name_of names) more) → ⊥
      by_more [] t = let n : length rest ≡ 0 = ap length t in omega arith
      by_more (v ∷ more) t = none (name_of names v ++ spaced (map (name_of names) more)) t

  -- the end
  pub order_end : (line items rest : List ℕ) → OrderSoFar d.nodes names line items rest → rest ≡ [] → ((v : ℕ) → IsDecision d.nodes v → Contains items v) → IsDecisionOrder d.nodes items × (line ≡ order_words names items)
  order_end line items rest so e all = (record { decisions = so.decisions; all = all; once = so.once }, so.line_is ∙ ap (λ x. order_words names items ++ x) e ∙ append-nil (order_words names items))

  pub order_short : (line items rest order : List ℕ) → OrderSoFar d.nodes names line items rest → rest ≡ [] → (((v : ℕ) → IsDecision d.nodes v → Contains items v) → ⊥) → IsDecisionOrder d.nodes order → line ≡ order_words names order → ⊥
  order_short line items rest order so e short stands same = by_more (so.others order stands same).more (so.others order stands same).is (so.others order stands same).tail
    where
      by_more : (more : List ℕ) → order ≡ items ++ more → rest ≡ spaced (map (name_of names) more) → ⊥
      by_more [] o t = short (λ v is. subst (λ xs. Contains xs v) (o ∙ append-nil items) (stands.all v is))
      by_more (v ∷ more) o t = absurd cc
