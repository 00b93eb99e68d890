use Rattle.std.proofs.Common.{◌≡◌, ◌++◌, ◌-◌, codes, decimal, subst, append_assoc}
use Rattle.app_lines.specs.Demo.{later_potential}
use Rattle.line_pieces.specs.Pushed.{PushAppends}
use Rattle.app_lines.proofs.demo.push_later_potential.Goals as goal

pub returns : goal.returns
returns c =
    let i = c.args.stage in
    let same : codes "potential (X" ++ (decimal i ++ (codes " | X" ++ (decimal (i - 1) ++ (codes " D" ++ (decimal (i - 1) ++ codes ") { data = (1 0 1 1 0 1 1 1); }\n"))))) ≡ later_potential i = simp append_assoc in
    subst (PushAppends c.args.out.now c.push_pieces.new.out c.push_pieces.result) same c.push_pieces.ensures
