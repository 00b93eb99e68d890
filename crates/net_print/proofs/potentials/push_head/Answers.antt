use Rattle.std.proofs.Common.{◌≡◌, ◌∙◌, ◌++◌, ◌∷◌, [], codes, rules, ap, append_assoc}
use Rattle.maid_model.specs.Names.{name_of}
use Rattle.maid_model.specs.Nodes.{parents_of}
use Rattle.net_print.specs.Printed.{parents_text}
use Rattle.net_print.proofs.potentials.push_head.Goals as goal

-- the four pieces, one after the other
pub returns : goal.returns
returns c =
    let name = name_of c.args.names.now c.args.node in
    let given = parents_text c.args.names.now (parents_of c.args.diagram.now.nodes c.args.node) in
    let opened : c.extend_from_slice.new.self.items ≡ c.args.out.now.items ++ codes "potential (" = search (rules, c.in_ok-extend_from_slice.ensures.items) in
    let named : c.extend_from_slice-2.new.self.items ≡ c.extend_from_slice.new.self.items ++ name = search (rules, c.in_ok-extend_from_slice-2.ensures.items) in
    let parents : c.push_given.new.out.items ≡ c.extend_from_slice-2.new.self.items ++ given = search (rules, c.in_ok-push_given.ensures) in
    let closed : c.push.new.self.items ≡ c.push_given.new.out.items ++ 41 ∷ [] = search (rules, c.in_ok-push.ensures.items) in
    closed ∙ ap (λ out. out ++ 41 ∷ []) (parents ∙ ap (λ out. out ++ given) (named ∙ ap (λ out. out ++ name) opened)) ∙ simp append_assoc
