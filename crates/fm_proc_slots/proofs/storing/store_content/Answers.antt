use Rattle.std.proofs.Common.{FitsSigned, w64, rules, ap, sym, ◌∙◌, ◌∷◌, []}
use Rattle.std.proofs.lemmas.Int.{to_z-of_z}
use Rattle.fm_base.specs.Channels.{Words}
use Rattle.fm_proc_language.specs.Frames.{all_stored}
use Rattle.fm_proc_slots.specs.Helds.{held}
use Rattle.fm_proc_slots.proofs.Stored.{kept_is}
use Rattle.fm_proc_slots.proofs.storing.store_content.Goals as goal

pub returns-in-Ok-clause-message : goal.returns-in-Ok-clause-message
returns-in-Ok-clause-message c =
    let fits : FitsSigned w64 c.in-Some.word = search rules in
    let stored = all_stored (held c.args.words.now c.args.slots.now) c.args.places.now in
    ap (λ vs. (held c.store_first.new.words c.args.slots.now, vs)) c.new.ensures.items ∙ c.in-Ok.ensures.stored c.args.slots.now
    ∙ ap (λ w. stored (Words (w ∷ []) ∷ [])) (to_z-of_z w64 c.in-Some.word fits) ∙ ap stored (kept_is c.args.content c.in-Some.word (sym c.in-Some.is ∙ c.kept_word.ensures))
