use Rattle.fm_plain.proofs.Free.{made_free, rest_is, event_is, let_go_free, printed_free}
use Rattle.fm_plain.proofs.looking.seen.Goals as goal

pub returns-in-Made : goal.returns-in-Made
returns-in-Made c = λ p w a f below after i. made_free c.args.step _ p w a _ after c.in-Made.is i

pub returns-in-Rest : goal.returns-in-Rest
returns-in-Rest c = λ p w a f below after i. rest_is c.args.step p w a _ after c.in-Rest.is i

pub returns-in-Event : goal.returns-in-Event
returns-in-Event c = λ p w a f below after i. c.meets.ensures a (event_is c.args.step _ p w a _ after c.in-Event.is i)

pub returns-in-LetsGo : goal.returns-in-LetsGo
returns-in-LetsGo c = λ p w a f below after i. let_go_free c.args.step _ _ p w a _ after c.in-LetsGo.is i

pub returns : goal.returns
returns c = λ p w a f below after i. printed_free c.args.step _ _ _ p w a f below after c.in-Prints.is i
