use Rattle.std.proofs.lemmas.Result.{err_from_is_err_and}
use Rattle.fm_object.specs.Reading.{many}
use Rattle.fm_object.specs.Shapes.{place_of}
use Rattle.fm_object.proofs.Loop.{goes_on, ends, is_done}
use Rattle.fm_object.proofs.many.many.Goals as goal

pub returns-in_err-item : goal.returns-in_err-item
returns-in_err-item g c =
    let p = err_from_is_err_and c.from_residual.result c.from_residual.ensures.1 in
    rw (p.1, p.2)
    (ends g.P.Part.reads c.in_err-item.field-0.0 c.items.items.items c.args.count c.items.counter (place_of c.items.rest) (many g.P.Part.reads c.args.count (place_of c.args.front)) c.items-test.true c.in_err-item.ensures c.items.invariant)

pub items-preserved : goal.items-preserved
items-preserved g c =
    rw c.in_ok-push.ensures.items
    (goes_on g.P.Part.reads c.items.items.items c.args.count c.items.counter (place_of c.items.rest) c.in_ok-item.item (place_of c.in_ok-item.behind) (many g.P.Part.reads c.args.count (place_of c.args.front)) c.items-test.true c.in_ok-item.ensures c.items.invariant)

pub returns : goal.returns
returns g c = rw c.from_vec.ensures (is_done g.P.Part.reads c.items.items.items c.args.count c.items.counter (place_of c.items.rest) (many g.P.Part.reads c.args.count (place_of c.args.front)) c.items-test.false c.items.invariant)
