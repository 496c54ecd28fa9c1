use Rattle.std.proofs.Common.{◌≡◌, ◌+◌, ◌<◌, ℕ, suc, List, map, refl, sym, ap, ap₂, ◌∙◌, arith, rules}
use Rattle.fm_net.specs.Machine.{child, gathered}
use Rattle.fm_proc_language.specs.Processes.{CodeProc, has_ended}
use Rattle.fm_procs.specs.Lefts.{left_by}
use Rattle.fm_procs.specs.Rooms.{lefts_room}
use Rattle.fm_procs.specs.Readings.{order_of, procs_of}
use Rattle.fm_procs.proofs.Blocks.{room_more}
use Rattle.fm_net_procs.proofs.Families.{child_number}
use Rattle.fm_net_procs.proofs.Family.{last_gathered}
use Rattle.fm_procs.proofs.joins.lefts_room.Goals as goal

pub children-preserved : goal.children-preserved
children-preserved c = λ q b children all e.
    let n = c.children.place in
    let low : n < c.args.family.count = omega arith in
    let ps = order_of c.args.entries.now in
    let at = child_number ps ps refl c.args.family.first q b c.args.family.count all n c.in_ok-number.number low c.in_ok-number.ensures in
    let m = procs_of c.args.entries.now in
    let next : suc n ≡ n + 1 = omega arith in
    let l = last_gathered has_ended m q b 1 n children (ap (λ (j : ℕ). gathered has_ended m q b 1 j) next ∙ e) in
    let before = c.children.invariant q b l.front all l.before in
    let more = room_more l.front l.last in
    let whole = ap (λ (zs : List CodeProc). lefts_room (map left_by zs)) l.whole in
    let this = c.in_ok-left_room_of.ensures (child q b (n + 1)) l.last at l.is in
    let sum : c.in_ok-room.room ≡ c.children.room + c.in_ok-left_room_of.field-0 = search rules in
    sum ∙ (ap₂ (λ (x y : ℕ). x + y) before this ∙ (sym more ∙ whole))
