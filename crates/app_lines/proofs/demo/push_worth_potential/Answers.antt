use Rattle.std.proofs.Common.{◌≡◌, ◌++◌, codes, decimal, subst, append_assoc}
use Rattle.app_lines.specs.Demo.{worth_potential}
use Rattle.line_pieces.specs.Pushed.{PushAppends}
use Rattle.app_lines.proofs.demo.push_worth_potential.Goals as goal

pub returns : goal.returns
returns c =
    let i = c.args.stage in
    let same : codes "potential (U" ++ (decimal i ++ (codes " | X" ++ (decimal i ++ codes ") { data = (1 0); }\n"))) ≡ worth_potential i = simp append_assoc in
    subst (PushAppends c.args.out.now c.push_pieces.new.out c.push_pieces.result) same c.push_pieces.ensures
