use Rattle.std.proofs.Common.{subst}
use Rattle.first_fault.specs.Answers.{IsFaultOrNoMemory}
use Rattle.net_parser.specs.Faults.{tree_pass, parse_fault}
use Rattle.net_parser.specs.declared.parsing.ParseFault.TheVariants.{Unexpected, Unsupported, TooDeep}
use Rattle.app_forms.proofs.Tells.{tells_grammar}
use Rattle.app_forms.proofs.reading.Source.grammar_refusal.Goals as goal

-- the line tells the first impossible token
pub returns-in-Unexpected : goal.returns-in-Unexpected
returns-in-Unexpected c = tells_grammar c.args.self.name.now c.args.self.bytes.now c.args.tokens.now (Unexpected c.in-Unexpected.at) c.fault.result c.requires.tokens
    (subst (IsFaultOrNoMemory parse_fault (tree_pass c.args.self.bytes.now c.args.tokens.now)) c.in-Unexpected.is c.requires.refuses) c.fault.ensures

pub returns-in-Unsupported : goal.returns-in-Unsupported
returns-in-Unsupported c = tells_grammar c.args.self.name.now c.args.self.bytes.now c.args.tokens.now (Unsupported c.in-Unsupported.at) c.fault-in-Unsupported.result c.requires.tokens
    (subst (IsFaultOrNoMemory parse_fault (tree_pass c.args.self.bytes.now c.args.tokens.now)) c.in-Unsupported.is c.requires.refuses) c.fault-in-Unsupported.ensures

pub returns-in-TooDeep : goal.returns-in-TooDeep
returns-in-TooDeep c = tells_grammar c.args.self.name.now c.args.self.bytes.now c.args.tokens.now (TooDeep c.in-TooDeep.at) c.fault-in-TooDeep.result c.requires.tokens
    (subst (IsFaultOrNoMemory parse_fault (tree_pass c.args.self.bytes.now c.args.tokens.now)) c.in-TooDeep.is c.requires.refuses) c.fault-in-TooDeep.ensures
