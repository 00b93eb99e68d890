use Rattle.std.proofs.Common.{rules, ℕ, ◌<◌, ◌≤◌, ◌≡◌, ◌∙◌, ◌==◌, List, get_or, length, true, false, refl, sym, subst, arith}
use Rattle.std.proofs.lemmas.List.Elements.{Contains-get_or}
use Rattle.std.proofs.lemmas.Result.{IfOk-from_err}
use Rattle.std.specs.Prelude.{Contains}
use Rattle.maid_laws.proofs.Booleans.{eqb_yes}
use Rattle.maid_model.specs.Graph.{Arc}
use Rattle.info_value.proofs.lines.info_line.Goals as goal

-- a member that passes the test
member : (xs : List ℕ) (x : ℕ) → ((i : ℕ) × i < length xs × ((d : ℕ) → (get_or xs i d == x) ≡ true)) → Contains xs x
member xs x h = subst (Contains xs) (same (get_or xs h.0 0) x (h.2 0)) (Contains-get_or xs h.0 0 h.1)
  where
    same : (a b : ℕ) → (a == b) ≡ true → a ≡ b
    same a b e = search rules

differ : false ≡ true → ⊥
differ e = cc

-- no member passes it
no_member : (xs : List ℕ) (x : ℕ) → ((i d : ℕ) → 0 ≤ i → i < length xs → (get_or xs i d == x) ≡ false) → Contains xs x → ⊥
no_member xs x none m = differ (sym (none m.0 x (omega arith) m.1) ∙ eqb_yes (get_or xs m.0 x) x m.2)

pub has-needed-requires : goal.has-needed-requires
has-needed-requires c = let l = c.requires.asked.within in let m = c.parents-seen.ensures.diagram.limits.nodes in omega arith

-- the search tells of a parent
pub find_seen-requires-clause-needed : goal.find_seen-requires-clause-needed
find_seen-requires-clause-needed c =
    let arc : Arc c.args.baseline.now.diagram.now.nodes c.args.from c.args.to =
    subst (λ (us : List ℕ). Contains us c.args.from) c.parents-seen.ensures.parents (member c.parents-seen.result.now c.args.from c.if-contains.ensures.cases) in
    let tells = c.requires.needs.seen c.args.from arc in
    ((λ t. tells.0 (c.has-needed.ensures.0 t)), (λ r. c.has-needed.ensures.1 (tells.1 r)))

-- and of another node
pub find_unseen-requires-clause-would_need : goal.find_unseen-requires-clause-would_need
find_unseen-requires-clause-would_need c =
    let tells = c.requires.needs.unseen c.args.from c.requires.asked.within c.requires.asked.above in
    ((λ t. tells.0 (c.has-needed.ensures.0 t)), (λ r. c.has-needed.ensures.1 (tells.1 r)))

pub returns-in_ok-found-clause-line : goal.returns-in_ok-found-clause-line
returns-in_ok-found-clause-line c =
    let arc : Arc c.args.baseline.now.diagram.now.nodes c.args.from c.args.to =
    subst (λ (us : List ℕ). Contains us c.args.from) c.parents-seen.ensures.parents (member c.parents-seen.result.now c.args.from c.if-contains.ensures.cases) in
    record { decision = c.requires.asked.decision; has = ((λ t. arc), (λ a. refl)); found = c.in_ok-found.ensures.found; graph = λ e. let f = e in cc }

pub returns-in_err-found-clause-tail : goal.returns-in_err-found-clause-tail
returns-in_err-found-clause-tail c = IfOk-from_err _ _ c.from_residual.ensures.0

pub returns-in_err-found-clause-head : goal.returns-in_err-found-clause-head
returns-in_err-found-clause-head c = IfOk-from_err _ _ c.from_residual.ensures.0

pub returns-in_err-found-clause-line : goal.returns-in_err-found-clause-line
returns-in_err-found-clause-line c = IfOk-from_err _ _ c.from_residual.ensures.0

pub returns-in_err-found-2-clause-tail : goal.returns-in_err-found-2-clause-tail
returns-in_err-found-2-clause-tail c = IfOk-from_err _ _ c.from_residual-in_err-found-2.ensures.0

pub returns-in_err-found-2-clause-head : goal.returns-in_err-found-2-clause-head
returns-in_err-found-2-clause-head c = IfOk-from_err _ _ c.from_residual-in_err-found-2.ensures.0

pub returns-in_err-found-2-clause-line : goal.returns-in_err-found-2-clause-line
returns-in_err-found-2-clause-line c = IfOk-from_err _ _ c.from_residual-in_err-found-2.ensures.0

pub find_seen-requires-clause-baseline : goal.find_seen-requires-clause-baseline
find_seen-requires-clause-baseline c = c.requires.baseline

pub find_seen-requires-clause-decision : goal.find_seen-requires-clause-decision
find_seen-requires-clause-decision c = c.requires.asked.decision

pub find_seen-requires-clause-arc : goal.find_seen-requires-clause-arc
find_seen-requires-clause-arc c = subst (λ (us : List ℕ). Contains us c.args.from) c.parents-seen.ensures.parents (member c.parents-seen.result.now c.args.from c.if-contains.ensures.cases)

pub find_unseen-requires-clause-baseline : goal.find_unseen-requires-clause-baseline
find_unseen-requires-clause-baseline c = c.requires.baseline

pub find_unseen-requires-clause-asked : goal.find_unseen-requires-clause-asked
find_unseen-requires-clause-asked c = c.requires.asked

pub find_unseen-requires-clause-absent : goal.find_unseen-requires-clause-absent
find_unseen-requires-clause-absent c arc = no_member c.parents-seen.result.now c.args.from c.if-contains.ensures.cases (subst (λ (us : List ℕ). Contains us c.args.from) (sym c.parents-seen.ensures.parents) arc)

pub returns-in_ok-found-clause-tail : goal.returns-in_ok-found-clause-tail
returns-in_ok-found-clause-tail c = refl

pub returns-in_ok-found-clause-head : goal.returns-in_ok-found-clause-head
returns-in_ok-found-clause-head c = refl

pub returns-in_ok-found-2-clause-tail : goal.returns-in_ok-found-2-clause-tail
returns-in_ok-found-2-clause-tail c = refl

pub returns-in_ok-found-2-clause-head : goal.returns-in_ok-found-2-clause-head
returns-in_ok-found-2-clause-head c = refl

pub returns-in_ok-found-2-clause-line : goal.returns-in_ok-found-2-clause-line
returns-in_ok-found-2-clause-line c =
    let told = c.in_ok-found-2.ensures in
    record {
      decision = c.requires.asked.decision;
      has = (
        (λ t. absurd (differ t)),
        (λ arc. absurd (no_member c.parents-seen.result.now c.args.from c.if-contains.ensures.cases (subst (λ (us : List ℕ). Contains us c.args.from) (sym c.parents-seen.ensures.parents) arc))),
      );
      found = told.found;
      graph = λ e. told.graph;
    }

-- ---- what the lines share
pub find_seen-requires-clause-shared : goal.find_seen-requires-clause-shared
find_seen-requires-clause-shared c = c.requires.shared

pub find_unseen-requires-clause-shared : goal.find_unseen-requires-clause-shared
find_unseen-requires-clause-shared c = c.requires.shared

pub returns-in_ok-found-clause-shared : goal.returns-in_ok-found-clause-shared
returns-in_ok-found-clause-shared c = c.in_ok-found.ensures.shared

pub returns-in_ok-found-2-clause-shared : goal.returns-in_ok-found-2-clause-shared
returns-in_ok-found-2-clause-shared c = c.in_ok-found-2.ensures.shared

pub returns-in_err-found-clause-shared : goal.returns-in_err-found-clause-shared
returns-in_err-found-clause-shared c = IfOk-from_err _ _ c.from_residual.ensures.0

pub returns-in_err-found-2-clause-shared : goal.returns-in_err-found-2-clause-shared
returns-in_err-found-2-clause-shared c = IfOk-from_err _ _ c.from_residual-in_err-found-2.ensures.0
