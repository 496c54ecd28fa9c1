use Rattle.std.proofs.Common.{◌≡◌, ◌∷◌, [], map, ap, subst, ◌∙◌, arith}
use Rattle.std.proofs.lemmas.Result.{IfOk-weaker}
use Rattle.fm_base.specs.Channels.{numbers_from}
use Rattle.fm_base.specs.declared.port.PortValue.TheVariants.{Reader, Writer}
use Rattle.std.specs.FinMap.{insert}
use Rattle.fm_base.specs.Channels.{fresh}
use Rattle.fm_chan.specs.Bodies.{chans_of}
use Rattle.fm_net.specs.Lawful.{ports_from}
use Rattle.fm_plain_net.specs.Held.{AreKept}
use Rattle.fm_plain_net.proofs.Loads.{kept_more, kept_one, kept_stay, stay_on, stay_with}
use Rattle.fm_run.proofs.Results.{on_ok_two}
use Rattle.fm_chan.proofs.Waking.{wakes_all}
use Rattle.fm_plain_net.proofs.perform.new_channel.Goals as goal

pub returns-then-writers-eq0-clause-channels : goal.returns-then-writers-eq0-clause-channels
returns-then-writers-eq0-clause-channels c =
    let none : 0 ≡ c.args.writers = omega arith in
    IfOk-weaker c.new_mute_channel.result _ _ (λ u is. is ∙ ap (λ n. insert (chans_of c.args.channels.now) c.args.name (fresh n)) none) c.new_mute_channel.ensures.channels

pub returns-then-writers-eq0-clause-came : goal.returns-then-writers-eq0-clause-came
returns-then-writers-eq0-clause-came c =
    let none : 0 ≡ c.args.writers = omega arith in
    IfOk-weaker c.new_mute_channel.result _ _ (λ u came. subst (λ n. AreKept c.new_mute_channel.new.ports (ports_from c.args.name n)) none came) c.new_mute_channel.ensures.came

pub returns-clause-channels : goal.returns-clause-channels
returns-clause-channels c = IfOk-weaker c.put_each.result _ _ (λ u came. c.in_ok-ends.ensures.ok) c.put_each.ensures.came

pub returns-clause-came : goal.returns-clause-came
returns-clause-came c =
    let later = c.put_each.new.ports in
    on_ok_two c.put_each.result c.put_each.ensures.came c.put_each.ensures.others (λ came others.
    kept_more (Reader c.args.name ∷ []) (map (Writer c.args.name) (numbers_from 0 c.args.writers)) later
    (kept_stay (Reader c.args.name ∷ []) c.put.new.self later others (subst (λ z. AreKept c.put.new.self (z ∷ [])) c.in_ok-ends.ensures.inport (kept_one c.in_ok-ends.ends.0 c.put.new.self c.in_ok-put.ensures.here)))
    (subst (AreKept later) c.in_ok-ends.ensures.outports came))

pub returns-clause-others : goal.returns-clause-others
returns-clause-others c = IfOk-weaker c.put_each.result _ _ (λ u others. stay_on c.args.ports.now c.put.new.self c.put_each.new.ports (stay_with c.in_ok-ends.ends.0 c.args.ports.now c.put.new.self c.in_ok-put.ensures.here c.in_ok-put.ensures.others) others) c.put_each.ensures.others

pub returns-clause-waking : goal.returns-clause-waking
returns-clause-waking c = IfOk-weaker c.put_each.result _ _ (λ u came. wakes_all c.args.channels.now c.merge.new.self c.in_ok-ends.ensures.waking) c.put_each.ensures.came
