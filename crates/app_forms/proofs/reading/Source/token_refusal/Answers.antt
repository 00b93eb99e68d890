use Rattle.std.proofs.Common.{subst}
use Rattle.first_fault.specs.Answers.{IsFaultOrNoMemory}
use Rattle.net_lexer.specs.Pieces.{token_pass, lex_fault}
use Rattle.net_lexer.specs.declared.tokens.LexFault.TheVariants.{BadByte, OpenString, BadNumeral}
use Rattle.app_forms.proofs.Tells.{tells_tokens}
use Rattle.app_forms.proofs.reading.Source.token_refusal.Goals as goal

-- the line tells the first fault of the bytes as tokens
pub returns-in-BadByte : goal.returns-in-BadByte
returns-in-BadByte c = tells_tokens c.args.self.name.now c.args.self.bytes.now (BadByte c.in-BadByte.at) c.fault.result
    (subst (IsFaultOrNoMemory lex_fault (token_pass c.args.self.bytes.now)) c.in-BadByte.is c.requires) c.fault.ensures

pub returns-in-OpenString : goal.returns-in-OpenString
returns-in-OpenString c = tells_tokens c.args.self.name.now c.args.self.bytes.now (OpenString c.in-OpenString.at) c.fault-in-OpenString.result
    (subst (IsFaultOrNoMemory lex_fault (token_pass c.args.self.bytes.now)) c.in-OpenString.is c.requires) c.fault-in-OpenString.ensures

pub returns-in-BadNumeral : goal.returns-in-BadNumeral
returns-in-BadNumeral c = tells_tokens c.args.self.name.now c.args.self.bytes.now (BadNumeral c.in-BadNumeral.at) c.fault-in-BadNumeral.result
    (subst (IsFaultOrNoMemory lex_fault (token_pass c.args.self.bytes.now)) c.in-BadNumeral.is c.requires) c.fault-in-BadNumeral.ensures
