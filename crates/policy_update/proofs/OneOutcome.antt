-- One fault, and one result.
use Rattle.std.proofs.Common.{◌≡◌, ◌∙◌, ℕ, ◌<◌, ◌*◌, ◌^◌, List, [], Some, None, length, get_or, refl, sym, ap, subst, pos}
use Rattle.std.proofs.lemmas.List.{ext_get_or, length-map}
use Rattle.first_fault.specs.Passes.{◌▸◌}
use Rattle.first_fault.specs.Properties.{IsExclusive, HasOneFault}
use Rattle.first_fault.proofs.Kept.{IsOne, rule_one, then_one}
use Rattle.maid_model.specs.declared.answers.Ratio.{Ratio}
use Rattle.maid_model.specs.Answers.{AreChoices, IsExpectedUtility, pure_profile, rows_at}
use Rattle.maid_model.specs.Diagrams.{IsDiagram}
use Rattle.maid_model.specs.Gains.{gain_of, mass}
use Rattle.maid_model.specs.Nodes.{decisions_of}
use Rattle.maid_model.specs.Views.{NodeView, DiagramView, RuleView, AnswerView}
use Rattle.maid_laws.specs.Optimum.{IsPure}
use Rattle.maid_laws.proofs.Fractions.{same_fraction}
use Rattle.maid_laws.proofs.Optima.{scale_positive}
use Rattle.maid_laws.proofs.Tied.{tables_of}
use Rattle.reach_laws.specs.Equilibria.{ChoicesOfAnswers}
use Rattle.reach_laws.specs.Updates.{OneResult}
use Rattle.reach_laws.proofs.Rounds.{reached_one, reached_pure}
use Rattle.rule_solver.specs.Masses.{HasGains}
use Rattle.size_precheck.specs.declared.sizes.Size.{Size}
use Rattle.size_precheck.specs.Laws.{OneSize}
use Rattle.size_precheck.specs.Sizes.{run_plans}
use Rattle.weight_scale.specs.declared.weight_bound.BoundPlace.TheVariants.{Within, Node, Utilities}
use Rattle.weight_scale.specs.Laws.{OneBoundPlace}
use Rattle.policy_update.specs.Faults.{AllRaise, HasTwoOwners, NotOneAgent, RoundsSpent, TooLarge, WeightBound, update_bound_pass, owners_pass, rounds_pass, update_size_pass}
use Rattle.policy_update.specs.Laws.{OneRefusal, OneUpdate}
use Rattle.policy_update.proofs.Owners.{decision_at, some_owner}
use Rattle.policy_update.proofs.Plans.{rows_own, apart, decided_get, same_choices_at}
use Rattle.policy_update.proofs.Rising.{some_decision}

-- ---- one fault
bound_one : (d : DiagramView) → OneBoundPlace → IsOne (update_bound_pass d)
bound_one d law = record { exclusive = apart; one = same }
  where
    apart : IsExclusive (update_bound_pass d)
    apart NotOneAgent none some = some
    apart (WeightBound (Some v)) none some = let e : Within ≡ Node v = law d Within (Node v) none some in cc
    apart (WeightBound None) none some = let e : Within ≡ Utilities = law d Within Utilities none some in cc
    apart (TooLarge cells work) none some = some
    apart (RoundsSpent n gain) none some = some

    same : HasOneFault (update_bound_pass d)
    same NotOneAgent g h k = absurd h
    same (TooLarge cells work) g h k = absurd h
    same (RoundsSpent n gain) g h k = absurd h
    same (WeightBound v) NotOneAgent h k = absurd k
    same (WeightBound v) (TooLarge cells work) h k = absurd k
    same (WeightBound v) (RoundsSpent n gain) h k = absurd k
    same (WeightBound (Some v)) (WeightBound (Some u)) h k = let e : Node v ≡ Node u = law d (Node v) (Node u) h k in cc
    same (WeightBound (Some v)) (WeightBound None) h k = let e : Node v ≡ Utilities = law d (Node v) Utilities h k in cc
    same (WeightBound None) (WeightBound (Some u)) h k = let e : Utilities ≡ Node u = law d Utilities (Node u) h k in cc
    same (WeightBound None) (WeightBound None) h k = refl

size_one : (d : DiagramView) → OneSize → IsOne (update_size_pass d)
size_one d law = record { exclusive = apart; one = same }
  where
    apart : IsExclusive (update_size_pass d)
    apart NotOneAgent none some = some
    apart (WeightBound v) none some = some
    apart (TooLarge cells work) none some = some.1 (none (record { cells = cells; work = work }) some.0)
    apart (RoundsSpent n gain) none some = some

    same : HasOneFault (update_size_pass d)
    same NotOneAgent g h k = absurd h
    same (WeightBound v) g h k = absurd h
    same (RoundsSpent n gain) g h k = absurd h
    same (TooLarge cells work) NotOneAgent h k = absurd k
    same (TooLarge cells work) (WeightBound v) h k = absurd k
    same (TooLarge cells work) (RoundsSpent n gain) h k = absurd k
    same (TooLarge cells work) (TooLarge more other) h k =
        let e : record { cells = cells; work = work } ≡ record { cells = more; work = other } = law d.nodes (run_plans d.nodes (decisions_of d.nodes)) (record { cells = cells; work = work }) (record { cells = more; work = other }) h.0 k.0 in
        (λ i. TooLarge (ap (λ (s : Size). s.cells) e i) (ap (λ (s : Size). s.work) e i))

-- two fractions of one profile for one agent
one_worth : (d : DiagramView) → IsDiagram d → (p : List RuleView) → IsPure d.nodes p → (agent : ℕ) (r s : Ratio) → IsExpectedUtility d.nodes (10 ^ d.decimals) p agent r → IsExpectedUtility d.nodes (10 ^ d.decimals) p agent s → r ≡ s
one_worth d is p pure agent r s f g =
    let some = scale_positive d.nodes p d.decimals (tables_of d.nodes p is.graph is.tables pure.profile) in
    same_fraction r s (gain_of d.nodes p agent) (gain_of d.nodes p agent) (mass d.nodes p * 10 ^ d.decimals) (mass d.nodes p * 10 ^ d.decimals) some some f g refl

rounds_one : (d : DiagramView) (rounds : ℕ) → IsDiagram d → 0 < rounds → IsOne (rounds_pass d rounds)
rounds_one d rounds is some = record { exclusive = apart; one = same }
  where
    apart : IsExclusive (rounds_pass d rounds)
    apart NotOneAgent none found = found
    apart (WeightBound v) none found = found
    apart (TooLarge cells work) none found = found
    apart (RoundsSpent n gain) none found = none found.1.profile found.1.reached

    spent : (r s : Ratio) → AllRaise d rounds r → AllRaise d rounds s → r ≡ s
    spent r s a b =
        let first = decision_at d.nodes (decisions_of d.nodes) 0 refl (some_decision d.nodes rounds a.profile some a.reached) in
        let owner : b.owner ≡ a.owner = sym (b.owns (get_or (decisions_of d.nodes) 0 0) first) ∙ a.owns (get_or (decisions_of d.nodes) 0 0) first in
        let profile : b.profile ≡ a.profile = reached_one d.nodes is.graph is.tables a.owner a.owns b.reached a.reached in
        one_worth d is a.profile (reached_pure d.nodes is.graph is.tables a.owner a.owns a.reached) a.owner r s a.expected
        (subst (λ o. IsExpectedUtility d.nodes (10 ^ d.decimals) a.profile o s) owner (subst (λ p. IsExpectedUtility d.nodes (10 ^ d.decimals) p b.owner s) profile b.expected))

    same : HasOneFault (rounds_pass d rounds)
    same NotOneAgent g h k = absurd h
    same (WeightBound v) g h k = absurd h
    same (TooLarge cells work) g h k = absurd h
    same (RoundsSpent n gain) NotOneAgent h k = absurd k
    same (RoundsSpent n gain) (WeightBound v) h k = absurd k
    same (RoundsSpent n gain) (TooLarge cells work) h k = absurd k
    same (RoundsSpent n gain) (RoundsSpent m other) h k = (λ i. RoundsSpent ((h.0 ∙ sym k.0) i) (spent gain other h.1 k.1 i))

pub one_refusal : OneBoundPlace → OneSize → OneRefusal
one_refusal places sizes d rounds is some =
    let one : IsOne (owners_pass d ▸ update_bound_pass d ▸ update_size_pass d ▸ rounds_pass d rounds) = then_one (rule_one (HasTwoOwners d.nodes) NotOneAgent) (then_one (bound_one d places) (then_one (size_one d sizes) (rounds_one d rounds is some))) in
    (one.exclusive, one.one)

-- ---- one result
-- choices of one profile are one list
same_answers : (nodes : List NodeView) → ChoicesOfAnswers → (a b : List AnswerView) → AreChoices nodes a → AreChoices nodes b → pure_profile nodes a ≡ pure_profile nodes b → a ≡ b
same_answers nodes law a b h j e = ext_get_or none a b len (λ i l. at i l (subst (λ n. i < n) len l))
  where
    none : AnswerView
    none = record { decision = 0; rows = [] }

    len : length a ≡ length b
    len = sym (length-map a (λ (x : AnswerView). x.decision)) ∙ ap length (h.follow ∙ sym j.follow) ∙ length-map b (λ (x : AnswerView). x.decision)

    at : (i : ℕ) → i < length a → i < length b → get_or a i none ≡ get_or b i none
    at i l m =
        let same : (get_or a i none).decision ≡ (get_or b i none).decision = sym (decided_get a i none l) ∙ ap (λ ds. get_or ds i 0) (h.follow ∙ sym j.follow) ∙ decided_get b i none m in
        let rows : (get_or a i none).rows ≡ (get_or b i none).rows =
        sym (rows_own a i none (apart nodes a h) l)
        ∙ same_choices_at nodes law a b (pure_profile nodes a) (pure_profile nodes b) (record { choices = h; rules = refl }) (record { choices = j; rules = refl }) (get_or a i none).decision (h.fits i none l).decision e
        ∙ ap (rows_at b) same ∙ rows_own b i none (apart nodes b j) m in
        (λ k. record { decision = same k; rows = rows k })

same_gains : (d : DiagramView) → IsDiagram d → (p : List RuleView) → IsPure d.nodes p → (xs ys : List Ratio) → HasGains d p d.agents xs → HasGains d p d.agents ys → xs ≡ ys
same_gains d is p pure xs ys h j = ext_get_or nought xs ys (h.count ∙ sym j.count) (λ i l. let m : i < d.agents = subst (λ n. i < n) h.count l in one_worth d is p pure i (get_or xs i nought) (get_or ys i nought) (h.each i nought m) (j.each i nought m))
  where
    nought : Ratio
    nought = record { num = pos 0; den = 1 }

pub one_update : ChoicesOfAnswers → OneResult → OneUpdate
one_update law one d a b is none h j =
    let owner = some_owner d.nodes none in
    let both = one d.nodes owner.0 a.rounds b.rounds (pure_profile d.nodes a.answers) (pure_profile d.nodes b.answers) is.graph is.tables owner.1 h.result j.result in
    let answers : a.answers ≡ b.answers = same_answers d.nodes law a.answers b.answers h.choices j.choices both.1 in
    let pure : IsPure d.nodes (pure_profile d.nodes b.answers) = reached_pure d.nodes is.graph is.tables owner.0 owner.1 j.result.reached in
    let gains : a.gains ≡ b.gains = same_gains d is (pure_profile d.nodes b.answers) pure a.gains b.gains (subst (λ p. HasGains d p d.agents a.gains) both.1 h.gains) j.gains in
    (λ i. record { rounds = both.0 i; answers = answers i; gains = gains i })
