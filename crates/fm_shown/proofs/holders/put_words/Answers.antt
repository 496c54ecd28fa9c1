use Rattle.std.proofs.Common.{ℤ, pos, [], ◌∷◌, get_or, ap, ◌∙◌, rules, w64}
use Rattle.std.proofs.lemmas.Int.{to_z-of_z}
use Rattle.fm_finmap.specs.Map.{map_of}
use Rattle.fm_mean.specs.Outports.{outport_cmp}
use Rattle.fm_proc_language.specs.Slots.{port_in}
use Rattle.fm_run.specs.Gathered.{with_held}
use Rattle.fm_shown.proofs.Holding.{held_next}
use Rattle.fm_shown.proofs.holders.put_words.Goals as goal

pub words-preserved : goal.words-preserved
words-preserved c =
    let before = map_of outport_cmp c.words.all in
    let word = get_or c.args.words.now c.words.word-index (pos 0) in
    held_next (map_of outport_cmp c.args.all.now) before (map_of outport_cmp c.put_word.new.all) c.args.path.now (port_in c.args.slots.now) c.args.words.now c.words.word-index (pos 0)
    c.words-test.true c.words.invariant
    (c.in_ok-put_word.ensures ∙ ap (λ (z : ℤ). with_held before c.args.path.now (port_in c.args.slots.now z ∷ [])) (to_z-of_z w64 word (search rules)))
