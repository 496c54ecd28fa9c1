use Rattle.fm_object.proofs.MalformedLaws.{either_way, no_line_of_an_object, one_first_line, one_object_text}
use Rattle.fm_object.proofs.laws.one_answer.Goals as goal

pub returns : goal.returns
returns c = record { either = either_way; one_image = one_object_text; one_line = one_first_line; not_both = no_line_of_an_object }
