use Rattle.std.proofs.Common.{Some, None, ap, sym, subst, inr, ◌∙◌}
use Rattle.std.specs.Prelude.{option_map}
use Rattle.fm_finmap.specs.Rows.{numbered_map, places}
use Rattle.fm_net_procs.specs.Readings.{ended_at, order_of, procs_of}
use Rattle.fm_net_procs.proofs.Families.{families_put, families_same, family_kept}
use Rattle.fm_net_procs.proofs.Maps.{emptied_not, emptied_there, found, placed, there, told_put, told_same}
use Rattle.fm_net_procs.proofs.entries.Entries.release.Goals as goal

pub returns-in-None-clause-processes : goal.returns-in-None-clause-processes
returns-in-None-clause-processes g c = λ p q at. ap (λ m. procs_of (g.P.Proc.seen p) (record { rows = m })) c.get_mut.follows.holds-at-none ∙ emptied_not (g.P.Proc.seen p) (g.P.Proc.language p).emptied c.args.self.now q (found c.args.self.now c.args.number q None at c.in-None.ensures.value)

pub returns-in-None-clause-order : goal.returns-in-None-clause-order
returns-in-None-clause-order g c = ap places c.get_mut.follows.holds-at-none

pub returns-in-None-clause-left : goal.returns-in-None-clause-left
returns-in-None-clause-left g c = λ p q at. sym (ap (option_map g.P.Proc.left_by) (there (g.P.Proc.seen p) c.args.self.now q None (found c.args.self.now c.args.number q None at c.in-None.ensures.value)))

pub returns-in-None-clause-told : goal.returns-in-None-clause-told
returns-in-None-clause-told g c = λ p own q at done but. told_same (g.P.Proc.seen p) (g.P.Proc.IsNext p) own c.args.self.now (record { rows = _ }) (ap numbered_map c.get_mut.follows.holds-at-none) but

pub returns-in-None-clause-families : goal.returns-in-None-clause-families
returns-in-None-clause-families g c = λ p all. families_same (g.P.Proc.seen p) g.P.Proc.awaits c.args.self.now (record { rows = _ }) (ap numbered_map c.get_mut.follows.holds-at-none) (ap places c.get_mut.follows.holds-at-none) all

pub returns-clause-processes : goal.returns-clause-processes
returns-clause-processes g c = λ p q at.
    let x = c.in-Some.entry.now in
    let y = record x { process = c.release.new.self; next = c.rests.result } in
    emptied_there (g.P.Proc.seen p) (g.P.Proc.language p).emptied c.args.self.now (record { rows = c.get_mut.follows.lender y }) q x y (found c.args.self.now c.args.number q (Some x) at c.in-Some.ensures.value)
    (c.get_mut.follows.holds y q at).map_is (c.release.ensures.process p)

pub returns-clause-order : goal.returns-clause-order
returns-clause-order g c =
    let x = c.in-Some.entry.now in
    let y = record x { process = c.release.new.self; next = c.rests.result } in
    let who = placed c.args.self.now c.args.number x c.in-Some.ensures.value in
    (c.get_mut.follows.holds y who.0 who.1).places_are

pub returns-clause-left : goal.returns-clause-left
returns-clause-left g c = λ p q at.
    ap Some (c.release.ensures.left p)
    ∙ sym (ap (option_map g.P.Proc.left_by) (there (g.P.Proc.seen p) c.args.self.now q (Some c.in-Some.entry.now) (found c.args.self.now c.args.number q (Some c.in-Some.entry.now) at c.in-Some.ensures.value)))

pub returns-clause-told : goal.returns-clause-told
returns-clause-told g c = λ p own q at done but.
    let x = c.in-Some.entry.now in
    let seen = g.P.Proc.seen p in
    let y = record x { process = c.release.new.self; next = c.rests.result } in
    let is = there seen c.args.self.now q (Some x) (found c.args.self.now c.args.number q (Some x) at c.in-Some.ensures.value) in
    told_put seen (g.P.Proc.IsNext p) own c.args.self.now (record { rows = c.get_mut.follows.lender y }) q y (c.get_mut.follows.holds y q at).map_is
    (inr (subst (λ z. g.P.Proc.IsNext p z c.rests.result) (sym (c.release.ensures.process p)) (c.rests.ensures p (seen x.process) (ap (ended_at (g.P.Proc.language p).has_ended) (sym is) ∙ done)))) but

pub returns-clause-families : goal.returns-clause-families
returns-clause-families g c = λ p all.
    let x = c.in-Some.entry.now in
    let seen = g.P.Proc.seen p in
    let awaits = g.P.Proc.awaits in
    let y = record x { process = c.release.new.self; next = c.rests.result } in
    let who = placed c.args.self.now c.args.number x c.in-Some.ensures.value in
    let put = c.get_mut.follows.holds y who.0 who.1 in
    let is = found c.args.self.now c.args.number who.0 (Some x) who.1 c.in-Some.ensures.value in
    families_put seen awaits c.args.self.now (record { rows = c.get_mut.follows.lender y }) who.0 y put.map_is put.places_are
    (family_kept (order_of c.args.self.now) who.0 (awaits (seen x.process)) (awaits (seen c.release.new.self)) x.first_child (ap awaits (c.release.ensures.process p) ∙ g.met.P.Proc.awaits_still p (seen x.process)) (all who.0 x (sym is))) all
