use Rattle.std.proofs.Common.{Some, None, inl, refl, ap, subst, sym, ◌∙◌, ◌≡◌}
use Rattle.std.specs.Prelude.{is_some}
use Rattle.std.proofs.lemmas.Result.{IfOk-weaker}
use Rattle.fm_chan.specs.Bodies.{chans_of}
use Rattle.fm_finmap.proofs.Rows.{there as stands_there}
use Rattle.fm_net_procs.specs.Readings.{actor_place, order_of, state_of}
use Rattle.fm_net_procs.specs.Stepping.{Advances}
use Rattle.fm_net_procs.proofs.Families.{families_put, family_kept}
use Rattle.fm_net_procs.proofs.Maps.{found, puts_one, there, told_put}
use Rattle.fm_net_procs.proofs.processes.Processes.advance_one.Goals as goal

pub advance-requires-clause-can : goal.advance-requires-clause-can
advance-requires-clause-can g c =
    let seen = g.P.Proc.seen c.args.program.now in
    let x = c.args.self.now.entries in
    let q = actor_place c.args.actor.now in
    let entry = c.in-Some.entry.now in
    let is = there seen x q (Some entry) (found x c.args.actor.now.number q (Some entry) c.requires.actor c.in-Some.ensures.value) in
    (q, record { state = state_of seen c.args.self.now; here = is; chans_are = refl; fits = c.requires.fits; can = c.requires.can; new = c.requires.new })

pub advance-requires-clause-goes : goal.advance-requires-clause-goes
advance-requires-clause-goes g c =
    let seen = g.P.Proc.seen c.args.program.now in
    let x = c.args.self.now.entries in
    let q = actor_place c.args.actor.now in
    let entry = c.in-Some.entry.now in
    c.requires.goes (seen entry.process) (there seen x q (Some entry) (found x c.args.actor.now.number q (Some entry) c.requires.actor c.in-Some.ensures.value))

pub unreachable-requires : goal.unreachable-requires
unreachable-requires g c = cc (ap is_some (found c.args.self.now.entries c.args.actor.now.number (actor_place c.args.actor.now) None c.requires.actor c.in-None.ensures.value) ∙ stands_there c.args.self.now.entries.rows c.args.actor.now.number (actor_place c.args.actor.now) c.requires.actor)

pub returns-clause-advances : goal.returns-clause-advances
returns-clause-advances g c =
    let P = c.args.program.now in
    let seen = g.P.Proc.seen P in
    let s = c.args.self.now in
    let q = actor_place c.args.actor.now in
    let entry = c.in-Some.entry.now in
    let z = record entry { process = c.advance.new.self } in
    let is = there seen s.entries q (Some entry) (found s.entries c.args.actor.now.number q (Some entry) c.requires.actor c.in-Some.ensures.value) in
    IfOk-weaker c.advance.result _ _ (λ a told y at.
    let same : seen entry.process ≡ y = cc (sym is ∙ at) in (
      seen c.advance.new.self,
      puts_one seen s.entries (record { rows = c.get_mut.follows.lender z }) q z (c.get_mut.follows.holds z q c.requires.actor).map_is,
      subst (λ v. Advances (g.P.Proc.language P) (g.P.Proc.is_local P) g.P.Proc.awaits (g.P.Proc.IsNext P) (g.P.Proc.MeetsIt P) (g.P.Proc.Fits P c.advance.new.work) c.args.slice c.args.spare (state_of seen s) q v (seen c.advance.new.self) a (chans_of c.advance.new.channels)) same
          (told (state_of seen s) q is refl c.requires.fits c.requires.can),
    )) c.advance.ensures.advances

pub returns-clause-told : goal.returns-clause-told
returns-clause-told g c =
    let P = c.args.program.now in
    let q = actor_place c.args.actor.now in
    let z = record c.in-Some.entry.now { process = c.advance.new.self } in
    IfOk-weaker c.advance.result _ _ (λ a told but.
    told_put (g.P.Proc.seen P) (g.P.Proc.IsNext P) q c.args.self.now.entries (record { rows = c.get_mut.follows.lender z }) q z (c.get_mut.follows.holds z q c.requires.actor).map_is (inl refl) but) c.advance.ensures.advances

pub returns-clause-order : goal.returns-clause-order
returns-clause-order g c = IfOk-weaker c.advance.result _ _ (λ a told. (c.get_mut.follows.holds (record c.in-Some.entry.now { process = c.advance.new.self }) (actor_place c.args.actor.now) c.requires.actor).places_are) c.advance.ensures.advances

pub returns-clause-families : goal.returns-clause-families
returns-clause-families g c =
    let P = c.args.program.now in
    let seen = g.P.Proc.seen P in
    let awaits = g.P.Proc.awaits in
    let s = c.args.self.now in
    let q = actor_place c.args.actor.now in
    let entry = c.in-Some.entry.now in
    let z = record entry { process = c.advance.new.self } in
    let put = c.get_mut.follows.holds z q c.requires.actor in
    let at = found s.entries c.args.actor.now.number q (Some entry) c.requires.actor c.in-Some.ensures.value in
    let is = there seen s.entries q (Some entry) at in
    IfOk-weaker c.advance.result _ _ (λ a told.
    families_put seen awaits s.entries (record { rows = c.get_mut.follows.lender z }) q z put.map_is put.places_are
    (family_kept (order_of s.entries) q (awaits (seen entry.process)) (awaits (seen c.advance.new.self)) entry.first_child (told (state_of seen s) q is refl c.requires.fits c.requires.can).waits (c.requires.families q entry (sym at))) c.requires.families) c.advance.ensures.advances
