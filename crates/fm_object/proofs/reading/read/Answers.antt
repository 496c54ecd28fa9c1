use Rattle.fm_object.proofs.Images.{is_found}
use Rattle.fm_object.proofs.MalformedLaws.{cause_is, whole_is}
use Rattle.fm_object.proofs.reading.read.Goals as goal

pub returns-clause-object : goal.returns-clause-object
returns-clause-object c = is_found c.args.bytes.now c.image_of.result c.image_of.ensures

pub returns-clause-whole : goal.returns-clause-whole
returns-clause-whole c = λ i h. whole_is c.args.bytes.now i c.image_of.result h c.image_of.ensures

pub returns-clause-malformed : goal.returns-clause-malformed
returns-clause-malformed c = cause_is c.args.bytes.now c.image_of.result c.image_of.ensures
