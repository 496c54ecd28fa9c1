use Rattle.std.proofs.Common.{◌∷◌, [], ap, subst, ◌∙◌}
use Rattle.std.proofs.lemmas.Result.{IfOk-weaker}
use Rattle.fm_base.specs.Channels.{shut}
use Rattle.fm_base.specs.declared.port.PortValue.TheVariants.{Writer}
use Rattle.fm_chan.specs.Bodies.{chans_of}
use Rattle.fm_chan.specs.Events.{is_outport}
use Rattle.fm_plain_net.specs.Held.{AreKept}
use Rattle.fm_plain_net.proofs.Channels.{no_writer}
use Rattle.fm_plain_net.proofs.Loads.{kept_one, stay_with}
use Rattle.fm_run.proofs.Results.{on_ok_two}
use Rattle.fm_chan.proofs.Waking.{wakes_all, wakes_all_then}
use Rattle.fm_plain_net.proofs.perform.new_mute_channel.Goals as goal

pub close-requires : goal.close-requires
close-requires c = ap is_outport c.in_ok-ends.ensures.outport

pub returns-clause-channels : goal.returns-clause-channels
returns-clause-channels c = IfOk-weaker c.put.result _ _ (λ u here.
    c.close.ensures.channels ∙ ap (λ z. shut z (chans_of c.make.new.self)) c.in_ok-ends.ensures.outport ∙ ap (shut (Writer c.args.name 0)) c.in_ok-ends.ensures.ok ∙ no_writer (chans_of c.args.channels.now) c.args.name) c.put.ensures.here

pub returns-clause-came : goal.returns-clause-came
returns-clause-came c = IfOk-weaker c.put.result _ _ (λ u here. subst (λ z. AreKept c.put.new.self (z ∷ [])) c.in_ok-ends.ensures.inport (kept_one c.in_ok-ends.ends.0 c.put.new.self here)) c.put.ensures.here

pub returns-clause-others : goal.returns-clause-others
returns-clause-others c = on_ok_two c.put.result c.put.ensures.here c.put.ensures.others (λ here others. stay_with c.in_ok-ends.ends.0 c.args.ports.now c.put.new.self here others)

pub returns-clause-waking : goal.returns-clause-waking
returns-clause-waking c = IfOk-weaker c.put.result _ _ (λ u here.
    wakes_all_then c.args.channels.now c.make.new.self c.close.new.self (wakes_all c.args.channels.now c.make.new.self c.in_ok-ends.ensures.waking) (wakes_all c.make.new.self c.close.new.self c.close.ensures.waking)) c.put.ensures.here
