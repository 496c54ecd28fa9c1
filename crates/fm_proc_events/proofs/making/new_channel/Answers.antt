use Rattle.std.proofs.Common.{◌≡◌, arith, vec_capacity, vec_len}
use Rattle.fm_proc_events.proofs.NewChannels.{empty_for_outports}
use Rattle.fm_proc_events.proofs.making.new_channel.Goals as goal

pub add_ports-requires : goal.add_ports-requires
add_ports-requires c =
    let made = c.in_ok-ports in
    let one : vec_len c.push_reserved.new.self ≡ 1 = omega (arith, c.push_reserved.ensures.len, made.ensures.len) in
    empty_for_outports (vec_len c.push_reserved.new.self) (vec_capacity c.push_reserved.new.self) c.args.name c.args.writers c.in_ok-inport.outports.items c.in_ok-inport.ensures.outports one
    (omega (arith, c.push_reserved.ensures.capacity, made.ensures.capacity))
