use Rattle.std.proofs.Common.{ℕ, List, ap, sym, subst, ◌∙◌}
use Rattle.std.specs.Prelude.{Option}
use Rattle.std.proofs.lemmas.Result.{IfOk-weaker}
use Rattle.fm_table.specs.Told.{Told, first_told}
use Rattle.fm_trace.specs.Texts.{entries_of}
use Rattle.fmc.specs.declared.answer.Exit.TheVariants.{Illegal}
use Rattle.fmc.specs.Replay.{ComesTo, HasCome}
use Rattle.fmc.specs.Reply.{bytes_of}
use Rattle.fmc.proofs.ReplayLaws.{lacking_comes, table_comes}
use Rattle.fmc.proofs.replaying.replay_in.Goals as goal

pub play_entries-requires-clause-fresh : goal.play_entries-requires-clause-fresh
play_entries-requires-clause-fresh c = c.in_ok-table.ensures ∙ ap (λ (a : Told). first_told a.program a.setup) (sym c.in_ok-table.ensures)

pub end_of-requires : goal.end_of-requires
end_of-requires c =
    let P = c.args.program.value in
    let ts = entries_of c.args.runs.now in
    let h = subst (λ (o : Option ℕ). HasCome P c.setup_of.result ts c.play_entries.new.table o) c.in-None.is (subst (λ (a : Told). HasCome a.program a.setup ts c.play_entries.new.table c.in_ok-come.come) c.in_ok-table.ensures c.in_ok-come.ensures.come) in
    ap (λ (a : Told). a.setup.turns) h.2 ∙ c.setup_of.ensures

pub returns-in-Some : goal.returns-in-Some
returns-in-Some c =
    let P = c.args.program.value in
    let ts = entries_of c.args.runs.now in
    let h = subst (λ (o : Option ℕ). HasCome P c.setup_of.result ts c.play_entries.new.table o) c.in-Some.is (subst (λ (a : Told). HasCome a.program a.setup ts c.play_entries.new.table c.in_ok-come.come) c.in_ok-table.ensures c.in_ok-come.ensures.come) in
    subst (λ (n : ℕ). ComesTo c.args.vars Illegal P n ts c.in_ok-text-in-Some.text.items) c.setup_of.ensures
    (subst (λ (t : List ℕ). ComesTo c.args.vars Illegal P c.setup_of.result.turns ts t) (sym c.in_ok-text-in-Some.ensures) (lacking_comes c.args.vars P c.setup_of.result ts c.play_entries.new.table c.in-Some.place h))

pub returns : goal.returns
returns c =
    let P = c.args.program.value in
    let ts = entries_of c.args.runs.now in
    let h = subst (λ (o : Option ℕ). HasCome P c.setup_of.result ts c.play_entries.new.table o) c.in-None.is (subst (λ (a : Told). HasCome a.program a.setup ts c.play_entries.new.table c.in_ok-come.come) c.in_ok-table.ensures c.in_ok-come.ensures.come) in
    IfOk-weaker c.end_of.result _ _ (λ r says.
    subst (λ (n : ℕ). ComesTo c.args.vars r.0 P n ts (bytes_of r.1)) c.setup_of.ensures (table_comes c.args.vars P c.setup_of.result ts c.play_entries.new.table r.0 (bytes_of r.1) h c.promise.ensures says)) c.end_of.ensures
