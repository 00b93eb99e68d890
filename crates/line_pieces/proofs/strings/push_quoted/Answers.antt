use Rattle.std.proofs.Common.{◌+◌, ◌∙◌, [], ◌∷◌, ◌++◌, take, flat_map, sym, ap, append_assoc}
use Rattle.std.proofs.lemmas.List.{take_all}
use Rattle.maid_model.specs.Reports.{escaped}
use Rattle.line_pieces.proofs.Appending.{piece_more}
use Rattle.std.proofs.lemmas.Result.{err_from_is_err_and}
use Rattle.line_pieces.proofs.strings.push_quoted.Goals as goal

pub loop-byte-init : goal.loop-byte-init
loop-byte-init c = c.in_ok-push.ensures.items

pub loop-byte-preserved : goal.loop-byte-preserved
loop-byte-preserved c =
    let out = c.args.out.now.items in
    let bytes = c.args.bytes.now in
    let i = c.loop-byte.byte-index in
    piece_more escaped bytes i 0 (out ++ 34 ∷ []) c.loop-byte.out.items c.push_escaped.new.out.items c.loop-byte-test.true
    (c.loop-byte.invariant ∙ sym (append_assoc out (34 ∷ []) (flat_map escaped (take i bytes)))) c.in_ok-push_escaped.ensures
    ∙ append_assoc out (34 ∷ []) (flat_map escaped (take (i + 1) bytes))

pub returns : goal.returns
returns c =
    let out = c.args.out.now.items in
    let bytes = c.args.bytes.now in
    c.in_ok-push-2.ensures.items
    ∙ ap (λ text. text ++ 34 ∷ []) (c.loop-byte.invariant ∙ ap (λ bs. out ++ 34 ∷ flat_map escaped bs) (take_all c.loop-byte.byte-index bytes c.loop-byte-test.false))
    ∙ append_assoc out (34 ∷ flat_map escaped bytes) (34 ∷ [])

pub returns-in_err-push : goal.returns-in_err-push
returns-in_err-push c = rw (err_from_is_err_and c.from_residual.result c.from_residual.ensures.1).1 tt

pub returns-in_err-push_escaped : goal.returns-in_err-push_escaped
returns-in_err-push_escaped c = rw (err_from_is_err_and c.from_residual-in_err-push_escaped.result c.from_residual-in_err-push_escaped.ensures.1).1 tt

pub returns-in_err-push-2 : goal.returns-in_err-push-2
returns-in_err-push-2 c = rw (err_from_is_err_and c.from_residual-in_err-push-2.result c.from_residual-in_err-push-2.ensures.1).1 tt
