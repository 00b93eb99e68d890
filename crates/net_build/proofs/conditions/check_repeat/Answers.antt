-- A name stands earlier just where the test finds it.
use Rattle.std.proofs.Common.{ℕ, List, map, Contains, ◌∙◌, sym, refl, subst}
use Rattle.std.proofs.lemmas.Bool.{false≢true}
use Rattle.net_lexer.specs.Token.{token_bytes}
use Rattle.net_build.proofs.LinkLemmas.{any_is_there, there_is_any}
use Rattle.net_build.proofs.conditions.check_repeat.Goals as goal

pub returns-then-stands_in : goal.returns-then-stands_in
returns-then-stands_in c =
    rw c.at.ensures
    (subst (λ (w : List ℕ). Contains (map (token_bytes c.args.text.now) c.args.earlier.now) w) c.bytes.ensures (any_is_there (token_bytes c.args.text.now) c.bytes.result.now c.args.earlier.now (sym c.stands_in.ensures ∙ c.if-stands_in.true)), refl)

pub returns : goal.returns
returns c = λ h. false≢true (sym c.if-stands_in.false ∙ c.stands_in.ensures ∙ there_is_any (token_bytes c.args.text.now) c.bytes.result.now c.args.earlier.now (subst (λ (w : List ℕ). Contains (map (token_bytes c.args.text.now) c.args.earlier.now) w) (sym c.bytes.ensures) h))
