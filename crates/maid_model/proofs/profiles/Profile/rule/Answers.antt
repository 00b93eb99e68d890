use Rattle.std.proofs.Common.{◌∙◌, ap, sym, get_or}
use Rattle.maid_model.proofs.Found.{read_total, read_weights}
use Rattle.maid_model.proofs.profiles.Profile.rule.Goals as goal

pub returns-clause-total : goal.returns-clause-total
returns-clause-total c = read_total c.args.self.now c.deref.result.now c.args.decision c.place_of.result c.index.result.now (c.deref.ensures.value ∙ c.self.view_is) c.place_of.ensures (c.index.ensures ∙ ap (λ l. get_or l c.place_of.result c.index.result.now) (sym c.deref.ensures.value))

pub returns-clause-weights : goal.returns-clause-weights
returns-clause-weights c = read_weights c.args.self.now c.deref.result.now c.args.decision c.place_of.result c.index.result.now (c.deref.ensures.value ∙ c.self.view_is) c.place_of.ensures (c.index.ensures ∙ ap (λ l. get_or l c.place_of.result c.index.result.now) (sym c.deref.ensures.value))
