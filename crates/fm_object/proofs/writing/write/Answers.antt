use Rattle.fm_object.proofs.Written.{image_fits, image_written}
use Rattle.fm_object.proofs.writing.write.Goals as goal

pub returns-clause-text : goal.returns-clause-text
returns-clause-text c =
    image_written c.args.image.now c.new-out.result.items c.push_text.new.out.items c.push_length.new.out.items c.push_all.new.out.items c.push_text-2.new.out.items c.push_length-2.new.out.items c.push_all-2.new.out.items
    c.as_slice.result.now c.as_slice-2.result.now c.len.result c.len-2.result c.new-out.ensures.items c.as_slice.ensures c.as_slice-2.ensures c.len.ensures c.len-2.ensures
    c.in_ok-push_text.ensures c.in_ok-push_length.ensures.written c.in_ok-push_all.ensures.written c.in_ok-push_text-2.ensures c.in_ok-push_length-2.ensures.written c.in_ok-push_all-2.ensures.written

pub returns-clause-readable : goal.returns-clause-readable
returns-clause-readable c = λ named. (
  image_fits c.args.image.now c.as_slice.result.now c.as_slice-2.result.now c.len.result c.len-2.result c.as_slice.ensures c.as_slice-2.ensures c.len.ensures c.len-2.ensures
      c.in_ok-push_length.ensures.few c.in_ok-push_all.ensures.fits c.in_ok-push_length-2.ensures.few c.in_ok-push_all-2.ensures.fits named,
  returns-clause-text c,
)
