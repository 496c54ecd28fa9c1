use Rattle.std.proofs.Common.{◌≡◌, ◌+◌, Some, map, ap, ◌∙◌}
use Rattle.fm_base.specs.Channels.{Message, Words}
use Rattle.fm_mean.specs.Actions.{message_words}
use Rattle.fm_plain_frame.specs.Frames.{proc_of}
use Rattle.fm_plain_frame.specs.LetGo.{let_go_ports}
use Rattle.fm_plain_passing.specs.Items.{message_of}
use Rattle.fm_plain_replies.specs.Goes.{after_message}
use Rattle.fm_nodes_trees.specs.Drops.{drops_in}
use Rattle.fm_nodes_trees.proofs.GoLaws.{in_place, stores}
use Rattle.fm_nodes_trees.proofs.going.store.Goals as goal

pub returns-clause-goes : goal.returns-clause-goes
returns-clause-goes c =
    let p = c.args.program.now in
    let path = c.args.path.now in
    let x = proc_of p c.args.process.now in
    let y = proc_of p c.store_message.new.process in
    let words = c.args.words.now in
    let items : message_of c.in_ok-items.items ≡ map Words words = c.in_ok-items.ensures ∙ ap (map Words) c.as_slice.ensures in
    let ok = c.in_ok-ports.ensures.ok in
    let self = ok.0 ∙ ap (λ (m : Message). (after_message x c.args.next c.args.places.now c.args.iostat m).self) items in
    let gone = ok.1 ∙ ap (λ (m : Message). (after_message x c.args.next c.args.places.now c.args.iostat m).drops) items in
    in_place p path x (Some words) c.args.exceeds y (proc_of p) c.alone.result.starts.items (drops_in p c.alone.result.drops) (let_go_ports p c.in_ok-ports.ports) c.alone.result.cost c.in_ok-paid.paid
    (stores p path x c.args.exceeds c.args.channel.now c.args.line.0 c.args.places.now c.args.iostat c.args.at_end c.args.next c.requires words y self (let_go_ports p c.in_ok-ports.ports) gone c.in_ok-paid.paid (c.in_ok-paid.ensures.same ∙ ap (λ n. 1 + n) (c.in_ok-cost.ensures ∙ ap (λ items. message_words (message_of items)) c.as_slice-2.ensures ∙ ap message_words items)))
    c.alone.ensures.starts (ap (drops_in p) c.alone.ensures.drops ∙ c.one.ensures p) c.alone.ensures.cost
