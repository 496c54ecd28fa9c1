use Rattle.std.proofs.Common.{◌≡◌, Some, None, inl, refl, ap, subst, sym, ◌∙◌}
use Rattle.fm_finmap.specs.Rows.{numbered_map, places}
use Rattle.fm_net_procs.specs.Readings.{actor_place, procs_of}
use Rattle.fm_net_procs.proofs.Families.{families_put, families_same}
use Rattle.fm_net_procs.proofs.Maps.{found, puts_same, there, told_but, told_put, told_same}
use Rattle.fm_net_procs.proofs.entries.Entries.take_next.Goals as goal

pub returns-in-None-clause-processes : goal.returns-in-None-clause-processes
returns-in-None-clause-processes g c = λ p. ap (λ m. procs_of (g.P.Proc.seen p) (record { rows = m })) c.get_mut.follows.holds-at-none

pub returns-in-None-clause-order : goal.returns-in-None-clause-order
returns-in-None-clause-order g c = ap places c.get_mut.follows.holds-at-none

pub returns-in-None-clause-told : goal.returns-in-None-clause-told
returns-in-None-clause-told g c = λ p all.
    let k = actor_place c.args.actor.now in
    told_same (g.P.Proc.seen p) (g.P.Proc.IsNext p) k c.args.self.now (record { rows = _ }) (ap numbered_map c.get_mut.follows.holds-at-none) (told_but (g.P.Proc.seen p) (g.P.Proc.IsNext p) k c.args.self.now all)

pub returns-in-None-clause-next : goal.returns-in-None-clause-next
returns-in-None-clause-next g c = λ p y all at.
    let k = actor_place c.args.actor.now in
    absurd (cc (sym (there (g.P.Proc.seen p) c.args.self.now k None (found c.args.self.now c.args.actor.now.number k None c.requires c.in-None.ensures.value)) ∙ at))

pub returns-in-None-clause-families : goal.returns-in-None-clause-families
returns-in-None-clause-families g c = λ p all. families_same (g.P.Proc.seen p) g.P.Proc.awaits c.args.self.now (record { rows = _ }) (ap numbered_map c.get_mut.follows.holds-at-none) (ap places c.get_mut.follows.holds-at-none) all

pub returns-in-Some-clause-processes : goal.returns-in-Some-clause-processes
returns-in-Some-clause-processes g c = λ p.
    let k = actor_place c.args.actor.now in
    let y = record c.in-Some.entry.now { next = c.replace.new.dest } in
    puts_same (g.P.Proc.seen p) c.args.self.now (record { rows = c.get_mut.follows.lender y }) k c.in-Some.entry.now y (found c.args.self.now c.args.actor.now.number k (Some c.in-Some.entry.now) c.requires c.in-Some.ensures.value)
    (c.get_mut.follows.holds y k c.requires).map_is refl

pub returns-in-Some-clause-order : goal.returns-in-Some-clause-order
returns-in-Some-clause-order g c = (c.get_mut.follows.holds (record c.in-Some.entry.now { next = c.replace.new.dest }) (actor_place c.args.actor.now) c.requires).places_are

pub returns-in-Some-clause-told : goal.returns-in-Some-clause-told
returns-in-Some-clause-told g c = λ p all.
    let k = actor_place c.args.actor.now in
    let y = record c.in-Some.entry.now { next = c.replace.new.dest } in
    told_put (g.P.Proc.seen p) (g.P.Proc.IsNext p) k c.args.self.now (record { rows = c.get_mut.follows.lender y }) k y (c.get_mut.follows.holds y k c.requires).map_is (inl refl) (told_but (g.P.Proc.seen p) (g.P.Proc.IsNext p) k c.args.self.now all)

pub returns-in-Some-clause-next : goal.returns-in-Some-clause-next
returns-in-Some-clause-next g c = λ p y all at.
    let k = actor_place c.args.actor.now in
    let entry = c.in-Some.entry.now in
    let is = found c.args.self.now c.args.actor.now.number k (Some entry) c.requires c.in-Some.ensures.value in
    let same : g.P.Proc.seen p entry.process ≡ y = cc (sym (there (g.P.Proc.seen p) c.args.self.now k (Some entry) is) ∙ at) in
    subst (λ l. g.P.Proc.IsNext p y l) (sym c.replace.ensures.value) (subst (λ z. g.P.Proc.IsNext p z entry.next) same (all k entry (sym is)))

pub returns-in-Some-clause-families : goal.returns-in-Some-clause-families
returns-in-Some-clause-families g c = λ p all.
    let k = actor_place c.args.actor.now in
    let y = record c.in-Some.entry.now { next = c.replace.new.dest } in
    let is = found c.args.self.now c.args.actor.now.number k (Some c.in-Some.entry.now) c.requires c.in-Some.ensures.value in
    let put = c.get_mut.follows.holds y k c.requires in
    families_put (g.P.Proc.seen p) g.P.Proc.awaits c.args.self.now (record { rows = c.get_mut.follows.lender y }) k y put.map_is put.places_are (all k c.in-Some.entry.now (sym is)) all
