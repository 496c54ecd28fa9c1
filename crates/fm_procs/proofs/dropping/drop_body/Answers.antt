use Rattle.std.proofs.Common.{arith, vec_len}
use Rattle.std.specs.List.{flat_map}
use Rattle.fm_proc_language.specs.Processes.{body_words, frame_words}
use Rattle.fm_procs.specs.Rooms.{words_by}
use Rattle.fm_procs.proofs.Droppings.{frames_left, next_frame, sheds_last, sheds_more}
use Rattle.fm_procs.proofs.dropping.drop_body.Goals as goal

pub frames-preserved : goal.frames-preserved
frames-preserved c =
    let b = c.args.body in
    let code = c.frames.rest.code in
    let frame = c.in-Some.frame in
    record {
      sheds = sheds_more (body_words b) (flat_map (frame_words b) c.frames.rest.below) (words_by code frame) (flat_map (frame_words b) c.pop.new.self) c.args.slots c.frames.slots c.drop_frame-in-Some.new.slots
          c.args.drops.now.items c.frames.drops.items c.drop_frame-in-Some.new.drops.items c.frames.invariant.sheds
          (next_frame b code frame c.pop.new.self c.frames.rest.below c.frames.invariant.code c.in-Some.ensures) c.drop_frame-in-Some.ensures.sheds;
      len = frames_left b.code code frame c.pop.new.self c.frames.rest.below (vec_len c.frames.drops) (vec_len c.drop_frame-in-Some.new.drops) _ c.frames.invariant.code c.in-Some.ensures c.frames.invariant.len c.drop_frame-in-Some.ensures.len;
      capacity = omega arith;
      code = c.frames.invariant.code;
    }

pub returns-clause-drops : goal.returns-clause-drops
returns-clause-drops c = sheds_last c.args.body c.frames.rest.below (body_words c.args.body) c.args.slots c.frames.slots c.args.drops.now.items c.frames.drops.items c.frames.invariant.sheds c.in_default.ensures.0
