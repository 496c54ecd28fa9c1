use Rattle.std.proofs.Common.{List, ap, sym, ◌∙◌}
use Rattle.fm_run.proofs.Numbers.{among_is}
use Rattle.fm_table.specs.Inside.{outs_of}
use Rattle.fm_table.specs.Told.{is_out, numbers_out}
use Rattle.fm_table.specs.declared.outside.Taken.{Taken}
use Rattle.fm_table.proofs.outside.put_back.Goals as goal

pub requeue-requires-clause-there : goal.requeue-requires-clause-there
requeue-requires-clause-there c =
    c.requires.able c.args.number
    (among_is (numbers_out (outs_of c.args.out.now.items)) c.args.number (ap (λ (ts : List Taken). is_out (outs_of ts) c.args.number) (sym c.as_slice.ensures.value) ∙ sym c.is_out.ensures ∙ c.if-is_out.true))
