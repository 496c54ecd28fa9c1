use Rattle.std.proofs.Common.{List, [], map, append-nil, subst}
use Rattle.fm_plain_frame.specs.Frames.{kid_of}
use Rattle.fm_plain_frame.specs.declared.let_go.LetGo.{LetGo}
use Rattle.fm_plain_replies.specs.Joins.{AreReady}
use Rattle.fm_plain_replies.proofs.joining.leaving.Goals as goal

pub returns-clause-ready : goal.returns-clause-ready
returns-clause-ready c = subst (λ (ls : List LetGo). AreReady c.args.program.now (map kid_of c.args.kids.now) ls) (append-nil c.children.all.items) (c.children.invariant.ready [] tt)
