use Rattle.std.proofs.Common.{true, false, inl, inr, refl, ap, ◌∙◌, subst, arith}
use Rattle.std.proofs.lemmas.Result.{err_from_is_err_and, IfOk-weaker, on_ok_weaker}
use Rattle.net_parser.specs.declared.trees.BlockKind.TheVariants.{Potential}
use Rattle.net_parser.specs.Grammar.{Word}
use Rattle.net_parser.specs.Reading.{FirstWord, stop, within, behind, node_rest, body_rest}
use Rattle.net_parser.proofs.Heads.{node_plain, node_head, potential_head, to_body}
use Rattle.net_parser.proofs.reader.Reader.head.Goals as goal

pub first_word-requires : goal.first_word-requires
first_word-requires c = c.requires

pub returns-in_err-first_word-clause-rule : goal.returns-in_err-first_word-clause-rule
returns-in_err-first_word-clause-rule c = rw (err_from_is_err_and c.from_residual.result c.from_residual.ensures.1).1 tt

pub returns-in_err-first_word-clause-follows : goal.returns-in_err-first_word-clause-follows
returns-in_err-first_word-clause-follows c =
    let p = err_from_is_err_and c.from_residual.result c.from_residual.ensures.1 in
    rw (p.1, p.2) c.in_err-first_word.ensures.follows

pub returns-in_err-first_word-clause-shorter : goal.returns-in_err-first_word-clause-shorter
returns-in_err-first_word-clause-shorter c = rw (err_from_is_err_and c.from_residual.result c.from_residual.ensures.1).1 tt

pub returns-in_err-kind-in-Discrete-clause-rule : goal.returns-in_err-kind-in-Discrete-clause-rule
returns-in_err-kind-in-Discrete-clause-rule c = rw (err_from_is_err_and c.from_residual-in_err-kind-in-Discrete.result c.from_residual-in_err-kind-in-Discrete.ensures.1).1 tt

pub returns-in_err-kind-in-Discrete-clause-follows : goal.returns-in_err-kind-in-Discrete-clause-follows
returns-in_err-kind-in-Discrete-clause-follows c =
    let p = err_from_is_err_and c.from_residual-in_err-kind-in-Discrete.result c.from_residual-in_err-kind-in-Discrete.ensures.1 in
    let front = c.in_ok-first_word.ensures.follows ∙ ap (λ begins. stop (within (behind begins)) c.first_word.new.self) c.in-Discrete.is in
    rw (p.1, p.2, front) (c.in_err-kind-in-Discrete.ensures.follows node_rest)

pub returns-in_err-kind-in-Discrete-clause-shorter : goal.returns-in_err-kind-in-Discrete-clause-shorter
returns-in_err-kind-in-Discrete-clause-shorter c = rw (err_from_is_err_and c.from_residual-in_err-kind-in-Discrete.result c.from_residual-in_err-kind-in-Discrete.ensures.1).1 tt

pub returns-in-Net-clause-follows : goal.returns-in-Net-clause-follows
returns-in-Net-clause-follows c = c.in_ok-first_word.ensures.follows ∙ ap (λ begins. stop (within (behind begins)) c.first_word.new.self) c.in-Net.is

pub returns-in-Net-clause-shorter : goal.returns-in-Net-clause-shorter
returns-in-Net-clause-shorter c = c.in_ok-first_word.ensures.shorter

pub returns-in_ok-kind-in-Discrete-clause-rule : goal.returns-in_ok-kind-in-Discrete-clause-rule
returns-in_ok-kind-in-Discrete-clause-rule c =
    let front = subst (λ begins. FirstWord c.args.first begins c.args.self.now c.first_word.new.self) c.in-Discrete.is c.in_ok-first_word.ensures.rule in
    let word = c.in_ok-kind-in-Discrete.ensures.rule in
    let discrete = subst (λ w. Word w c.args.self.now c.first_word.new.self) front.1 front.2 in
    IfOk-weaker c.node_head.result _ _ (λ head names. node_head c.args.first c.in_ok-kind-in-Discrete.kind head.0 head.1.items word.0 c.args.self.now c.first_word.new.self c.node_word.new.self c.node_head.new.self word.1 (inr discrete) word.2 names) c.node_head.ensures.rule

pub returns-in_ok-kind-in-Discrete-clause-follows : goal.returns-in_ok-kind-in-Discrete-clause-follows
returns-in_ok-kind-in-Discrete-clause-follows c =
    let word = c.in_ok-kind-in-Discrete.ensures.rule in
    let front = c.in_ok-first_word.ensures.follows ∙ ap (λ begins. stop (within (behind begins)) c.first_word.new.self) c.in-Discrete.is ∙ c.in_ok-kind-in-Discrete.ensures.follows node_rest in
    rw front
    (to_body c.node_head.result c.in_ok-kind-in-Discrete.kind false _ _ c.node_head.new.self (node_plain word.0 c.in_ok-kind-in-Discrete.kind word.1) (λ head names. names.0) c.node_head.ensures.rule (c.node_head.ensures.follows (body_rest false)))

pub returns-in_ok-kind-in-Discrete-clause-shorter : goal.returns-in_ok-kind-in-Discrete-clause-shorter
returns-in_ok-kind-in-Discrete-clause-shorter c =
    on_ok_weaker c.node_head.result (λ shorter. omega (arith, c.in_ok-first_word.ensures.shorter, c.in_ok-kind-in-Discrete.ensures.shorter, shorter)) c.node_head.ensures.shorter

pub returns-in-Node-clause-rule : goal.returns-in-Node-clause-rule
returns-in-Node-clause-rule c =
    let front = subst (λ begins. FirstWord c.args.first begins c.args.self.now c.first_word.new.self) c.in-Node.is c.in_ok-first_word.ensures.rule in
    IfOk-weaker c.node_head-in-Node.result _ _ (λ head names. node_head c.args.first c.in-Node.kind head.0 head.1.items front.0 c.args.self.now c.args.self.now c.first_word.new.self c.node_head-in-Node.new.self front.1 (inl refl) front.2 names) c.node_head-in-Node.ensures.rule

pub returns-in-Node-clause-follows : goal.returns-in-Node-clause-follows
returns-in-Node-clause-follows c =
    let word = subst (λ begins. FirstWord c.args.first begins c.args.self.now c.first_word.new.self) c.in-Node.is c.in_ok-first_word.ensures.rule in
    let front = c.in_ok-first_word.ensures.follows ∙ ap (λ begins. stop (within (behind begins)) c.first_word.new.self) c.in-Node.is in
    rw front
    (to_body c.node_head-in-Node.result c.in-Node.kind false _ _ c.node_head-in-Node.new.self (node_plain word.0 c.in-Node.kind word.1) (λ head names. names.0) c.node_head-in-Node.ensures.rule (c.node_head-in-Node.ensures.follows (body_rest false)))

pub returns-in-Node-clause-shorter : goal.returns-in-Node-clause-shorter
returns-in-Node-clause-shorter c =
    on_ok_weaker c.node_head-in-Node.result (λ shorter. omega (arith, c.in_ok-first_word.ensures.shorter, shorter)) c.node_head-in-Node.ensures.shorter

pub returns-in-Potential-clause-rule : goal.returns-in-Potential-clause-rule
returns-in-Potential-clause-rule c =
    let front = subst (λ begins. FirstWord c.args.first begins c.args.self.now c.first_word.new.self) c.in-Potential.is c.in_ok-first_word.ensures.rule in
    let potential = subst (λ w. Word w c.args.self.now c.first_word.new.self) front.1 front.2 in
    IfOk-weaker c.potential_head.result _ _ (λ head names. potential_head c.args.first head.0 head.1.items c.args.self.now c.first_word.new.self c.potential_head.new.self potential names) c.potential_head.ensures.rule

pub returns-in-Potential-clause-follows : goal.returns-in-Potential-clause-follows
returns-in-Potential-clause-follows c =
    let front = c.in_ok-first_word.ensures.follows ∙ ap (λ begins. stop (within (behind begins)) c.first_word.new.self) c.in-Potential.is in
    rw front
    (to_body c.potential_head.result Potential true _ _ c.potential_head.new.self refl (λ head names. names.0) c.potential_head.ensures.rule (c.potential_head.ensures.follows (body_rest true)))

pub returns-in-Potential-clause-shorter : goal.returns-in-Potential-clause-shorter
returns-in-Potential-clause-shorter c =
    on_ok_weaker c.potential_head.result (λ shorter. omega (arith, c.in_ok-first_word.ensures.shorter, shorter)) c.potential_head.ensures.shorter
