use Rattle.fm_plain_net.proofs.net.TreeNetNet.outcome.Goals as goal

pub outcome-requires-clause-next : goal.outcome-requires-clause-next
outcome-requires-clause-next c = c.requires.sound.told

pub outcome-requires-clause-families : goal.outcome-requires-clause-families
outcome-requires-clause-families c = c.requires.sound.families

pub outcome-requires-clause-main : goal.outcome-requires-clause-main
outcome-requires-clause-main c = c.requires.main
