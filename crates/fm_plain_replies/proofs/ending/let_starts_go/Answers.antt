use Rattle.std.proofs.Common.{◌≡◌, List, [], ap, ◌∙◌}
use Rattle.fm_base.specs.Channels.{message_ports}
use Rattle.fm_mean.specs.Process as mean
use Rattle.fm_mean.specs.Fits.{variables_of}
use Rattle.fm_plain_frame.specs.Memory.{values_of}
use Rattle.fm_plain_frame.specs.declared.word.Word.{Word}
use Rattle.fm_plain_replies.proofs.EndLaws.{no_words, starts_go}
use Rattle.fm_plain_replies.proofs.ending.let_starts_go.Goals as goal

pub returns : goal.returns
returns c = λ p.
    let f = c.new-frame.result in
    let values : message_ports (values_of (variables_of p f.unit) f.memory.items) ≡ [] =
    ap (λ (g : mean.Frame). message_ports g.values) (c.new-frame.ensures p) ∙ ap (λ (ws : List Word). message_ports (values_of (variables_of p 0) ws)) c.new.ensures.items ∙ no_words (variables_of p 0) in
    starts_go p c.new-3.result.items c.new-5.result.items c.new-4.result.items (record f { starts = c.args.starts }) c.new-3.ensures.items c.new-5.ensures.items c.new-4.ensures.items values
