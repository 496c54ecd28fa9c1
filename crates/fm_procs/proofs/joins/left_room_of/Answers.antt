use Rattle.std.proofs.Common.{◌≡◌, ap, sym, ◌∙◌}
use Rattle.std.specs.Prelude.{option_map}
use Rattle.std.specs.Option.{option_copied}
use Rattle.std.proofs.lemmas.Result.{IfOk-weaker}
use Rattle.fm_procs.specs.Rooms.{left_room}
use Rattle.fm_proc_events.specs.declared.process.Process.{Process}
use Rattle.fm_proc_events.specs.Phases.{proc_of}
use Rattle.fm_proc_language.specs.Processes.{CodeProc}
use Rattle.fm_procs.specs.Readings.{code_of}
use Rattle.fm_procs.proofs.joins.left_room_of.Goals as goal

pub returns-in-Some : goal.returns-in-Some
returns-in-Some c = IfOk-weaker c.left_room.result _ _ (λ n is q y at there.
    let same : code_of c.in-Some.process.now ≡ y = cc (sym (ap (λ o. option_map code_of (option_copied o)) c.in-Some.is) ∙ c.process.ensures tt q at ∙ there) in
    is ∙ ap (λ (v : Process). left_room (proc_of v).body) c.deref.ensures ∙ ap (λ (v : CodeProc). left_room v.body) same) c.left_room.ensures

pub returns-in-None : goal.returns-in-None
returns-in-None c = λ q y at there. absurd (cc (sym (ap (λ o. option_map code_of (option_copied o)) c.in-None.is) ∙ c.process.ensures tt q at ∙ there))
