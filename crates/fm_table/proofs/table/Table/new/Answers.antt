use Rattle.std.proofs.Common.{◌≡◌, subst}
use Rattle.fm_rules.specs.declared.program.Program.{Program}
use Rattle.fm_run.specs.Programs.{first_stand}
use Rattle.fm_table.specs.Inside.{IsStanding, stand_kept}
use Rattle.fm_table.proofs.Sharing.{none_known}
use Rattle.fm_table.proofs.Tables.{first_table, first_is}
use Rattle.fm_table.proofs.table.Table.new.Goals as goal

pub invariant_of-result : goal.invariant_of-result
invariant_of-result c =
    let P = c.args.program.value in
    let s = c.in_ok-standing.standing in
    let standing = subst (λ (p : Program). IsStanding p s) c.deref.ensures c.in_ok-standing.ensures.standing in
    let shares = c.in_ok-shares.shares in
    let nodes = c.in_ok-shares.ensures.nodes P (standing.live c.in_ok-standing.ensures.live) c.in_ok-standing.ensures.history in
    first_table P c.args.setup s standing c.in_ok-standing.ensures.history c.new.result.items c.new.ensures.items shares (none_known P c.args.setup (stand_kept P s) shares nodes c.in_ok-shares.ensures.none)

pub returns : goal.returns
returns c =
    let P = c.args.program.value in
    first_is P c.args.setup c.in_ok-standing.standing c.in_ok-standing.ensures.history (subst (λ (p : Program). c.in_ok-standing.standing.player.able.numbers.items ≡ (first_stand p).able) c.deref.ensures c.in_ok-standing.ensures.queue) c.new.result.items c.new.ensures.items
