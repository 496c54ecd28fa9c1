use Rattle.fm_report.proofs.Spaced.{spaced_more}
use Rattle.fm_report.proofs.several.push_spaced.Goals as goal

pub returns-in_ok-push_behind_blanks-in-Some : goal.returns-in_ok-push_behind_blanks-in-Some
returns-in_ok-push_behind_blanks-in-Some g c =
    spaced_more g.T.HasText.text c.args.items.now c.in-Some.first.now c.in-Some.others.now c.args.out.now.items c.push_text.new.out.items c.push_behind_blanks.new.out.items
    c.in-Some.ensures.cases.0 c.in_ok-push_text-in-Some.ensures c.in_ok-push_behind_blanks-in-Some.ensures
