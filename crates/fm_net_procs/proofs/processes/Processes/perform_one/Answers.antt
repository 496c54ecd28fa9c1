use Rattle.std.proofs.Common.{Some, None, true, map, inl, refl, ap, subst, sym, ◌∙◌, ◌≡◌}
use Rattle.std.specs.Prelude.{is_some}
use Rattle.std.specs.FinMap.{get}
use Rattle.std.proofs.lemmas.Result.{IfOk-weaker}
use Rattle.fm_chan.specs.Bodies.{chans_of}
use Rattle.fm_finmap.proofs.Rows.{there as stands_there}
use Rattle.fm_net.specs.Language.{language_step}
use Rattle.fm_net.specs.Machine.{Place}
use Rattle.fm_net_procs.specs.Readings.{actor_place, state_of}
use Rattle.fm_net_procs.specs.Stepping.{CanStep, StepsTo}
use Rattle.fm_net_procs.proofs.Families.{families_put_but}
use Rattle.fm_net_procs.proofs.Maps.{found, puts_one, there, told_put}
use Rattle.fm_net_procs.proofs.processes.Processes.perform_one.Goals as goal

pub perform-requires-clause-event : goal.perform-requires-clause-event
perform-requires-clause-event g c =
    let seen = g.P.Proc.seen c.args.program.now in
    let x = c.args.self.now.entries in
    let q = actor_place c.args.actor.now in
    let entry = c.in-Some.entry.now in
    c.requires.event (seen entry.process) (there seen x q (Some entry) (found x c.args.actor.now.number q (Some entry) c.requires.actor c.in-Some.ensures.value))

pub perform-requires-clause-can : goal.perform-requires-clause-can
perform-requires-clause-can g c =
    let P = c.args.program.now in
    let seen = g.P.Proc.seen P in
    let x = c.args.self.now.entries in
    let q = actor_place c.args.actor.now in
    let entry = c.in-Some.entry.now in
    let is = there seen x q (Some entry) (found x c.args.actor.now.number q (Some entry) c.requires.actor c.in-Some.ensures.value) in
    subst (λ (r : Place). CanStep (g.P.Proc.language P) (g.P.Proc.Fits P c.args.self.now.work) r (seen entry.process) (chans_of c.args.self.now.channels)) (sym c.deref.ensures)
    (record { state = state_of seen c.args.self.now; here = is; chans_are = refl; fits = c.requires.fits; can = c.requires.can; new = c.requires.new })

pub unreachable-requires : goal.unreachable-requires
unreachable-requires g c = cc (ap is_some (found c.args.self.now.entries c.args.actor.now.number (actor_place c.args.actor.now) None c.requires.actor c.in-None.ensures.value) ∙ stands_there c.args.self.now.entries.rows c.args.actor.now.number (actor_place c.args.actor.now) c.requires.actor)

pub returns-clause-performs : goal.returns-clause-performs
returns-clause-performs g c =
    let P = c.args.program.now in
    let seen = g.P.Proc.seen P in
    let s = c.args.self.now in
    let q = actor_place c.args.actor.now in
    let entry = c.in-Some.entry.now in
    let z = record entry { process = c.perform.new.self } in
    let is = there seen s.entries q (Some entry) (found s.entries c.args.actor.now.number q (Some entry) c.requires.actor c.in-Some.ensures.value) in
    let here = ap (get (state_of seen s).procs) c.deref.ensures ∙ is in
    IfOk-weaker c.perform.result _ _ (λ d told y at.
    let same : seen entry.process ≡ y = cc (sym is ∙ at) in
    let can = subst (λ (r : Place). is_some (language_step (g.P.Proc.language P) (state_of seen s) r) ≡ true) (sym c.deref.ensures) c.requires.can in (
      seen c.perform.new.self,
      puts_one seen s.entries (record { rows = c.get_mut.follows.lender z }) q z (c.get_mut.follows.holds z q c.requires.actor).map_is,
      subst (λ v. StepsTo (g.P.Proc.language P) g.P.Proc.awaits (g.P.Proc.Fits P c.perform.new.work) (state_of seen s) q v (seen c.perform.new.self) (map seen d.children.items) (chans_of c.perform.new.channels) d.cost) same
          (subst (λ (r : Place). StepsTo (g.P.Proc.language P) g.P.Proc.awaits (g.P.Proc.Fits P c.perform.new.work) (state_of seen s) r (seen entry.process) (seen c.perform.new.self) (map seen d.children.items) (chans_of c.perform.new.channels) d.cost) c.deref.ensures
          (told (state_of seen s) here refl c.requires.fits can)),
    )) c.perform.ensures.performs

pub returns-clause-told : goal.returns-clause-told
returns-clause-told g c =
    let P = c.args.program.now in
    let q = actor_place c.args.actor.now in
    let z = record c.in-Some.entry.now { process = c.perform.new.self } in
    IfOk-weaker c.perform.result _ _ (λ d told but.
    told_put (g.P.Proc.seen P) (g.P.Proc.IsNext P) q c.args.self.now.entries (record { rows = c.get_mut.follows.lender z }) q z (c.get_mut.follows.holds z q c.requires.actor).map_is (inl refl) but) c.perform.ensures.performs

pub returns-clause-order : goal.returns-clause-order
returns-clause-order g c = IfOk-weaker c.perform.result _ _ (λ d told. (c.get_mut.follows.holds (record c.in-Some.entry.now { process = c.perform.new.self }) (actor_place c.args.actor.now) c.requires.actor).places_are) c.perform.ensures.performs

pub returns-clause-families : goal.returns-clause-families
returns-clause-families g c =
    let P = c.args.program.now in
    let q = actor_place c.args.actor.now in
    let z = record c.in-Some.entry.now { process = c.perform.new.self } in
    let put = c.get_mut.follows.holds z q c.requires.actor in
    IfOk-weaker c.perform.result _ _ (λ d told but. families_put_but (g.P.Proc.seen P) g.P.Proc.awaits q c.args.self.now.entries (record { rows = c.get_mut.follows.lender z }) z put.map_is put.places_are but) c.perform.ensures.performs
