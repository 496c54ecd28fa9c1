use Rattle.std.proofs.Common.{ℕ, List, [], ◌∷◌, slice_get, refl, ap, sym, subst, ◌∙◌}
use Rattle.std.proofs.lemmas.List.{map-append}
use Rattle.fm_rules.specs.declared.program.Program.{Program}
use Rattle.fm_run.specs.Orders.{Among}
use Rattle.fm_table.specs.Inside.{IsStanding, IsTable, out_of, outs_of, stand_kept}
use Rattle.fm_table.specs.Told.{IsBodyOf, Out, Told, ready_in, ready_of, stand_of}
use Rattle.fm_table.specs.declared.outside.Taken.{Taken}
use Rattle.fm_run.specs.Orders.{place_in}
use Rattle.fm_table.proofs.Bodies.{body_kept, path_kept}
use Rattle.fm_table.proofs.Tables.{table_same}
use Rattle.fm_table.proofs.Turns.{table_taken}
use Rattle.fm_table.proofs.table.Table.hand_out.Goals as goal

pub invariant_of-self : goal.invariant_of-self
invariant_of-self c =
    let t = c.self.inside in
    table_same t.program.value t.setup t.standing c.revive.new.self (outs_of t.out.items) t.shares t.shares c.in_err-revive.ensures.same (subst (λ (p : Program). IsStanding p c.revive.new.self) c.deref.ensures c.in_err-revive.ensures.standing) c.self.invariant.shared c.self.invariant

pub invariant_of-self-in_err-start : goal.invariant_of-self-in_err-start
invariant_of-self-in_err-start c =
    let t = c.self.inside in
    table_same t.program.value t.setup t.standing c.revive.new.self (outs_of t.out.items) t.shares t.shares c.in_ok-revive.ensures.same (subst (λ (p : Program). IsStanding p c.revive.new.self) c.deref.ensures c.in_ok-revive.ensures.standing) c.self.invariant.shared c.self.invariant

pub invariant_of-self-in_err-push : goal.invariant_of-self-in_err-push
invariant_of-self-in_err-push c =
    let t = c.self.inside in
    subst (λ (ts : List Taken). IsTable t.program.value t.setup c.revive.new.self (outs_of ts) t.shares) (sym c.in_err-push.ensures.items)
    (table_same t.program.value t.setup t.standing c.revive.new.self (outs_of t.out.items) t.shares t.shares c.in_ok-revive.ensures.same (subst (λ (p : Program). IsStanding p c.revive.new.self) c.deref.ensures c.in_ok-revive.ensures.standing) c.self.invariant.shared c.self.invariant)

pub invariant_of-self-2 : goal.invariant_of-self-2
invariant_of-self-2 c =
    let t = c.self.inside in
    let P = t.program.value in
    let new = c.revive.new.self in
    let n = c.args.number in
    let same = c.in_ok-revive.ensures.same in
    let table = table_same P t.setup t.standing new (outs_of t.out.items) t.shares t.shares same (subst (λ (p : Program). IsStanding p new) c.deref.ensures c.in_ok-revive.ensures.standing) c.self.invariant.shared c.self.invariant in
    let ready = subst (λ (a : Told). Among n (ready_of a)) (sym c.self.view_is) c.requires in
    let here = subst (λ (ns : List ℕ). Among n (ready_in (outs_of t.out.items) ns)) (sym same.queue) ready in
    let one : Taken = record { number = n; start = c.in_ok-start.field-0.kept } in
    let live = (subst (λ (p : Program). IsStanding p new) c.deref.ensures c.in_ok-revive.ensures.standing).live c.in_ok-revive.ensures.live in
    let own = subst (IsBodyOf P (stand_kept P new) n) (sym c.in_ok-start.ensures.kept) (body_kept P new new (record { history = refl; queue = refl }) live n c.in_ok-start.field-0.start.value c.in_ok-start.ensures.body) in
    subst (λ (ts : List Taken). IsTable P t.setup new (outs_of ts) t.shares) (sym c.in_ok-push.ensures.items)
    (subst (λ (os : List Out). IsTable P t.setup new os t.shares) (sym (map-append out_of t.out.items (one ∷ []))) (table_taken P t.setup new (outs_of t.out.items) t.shares n c.in_ok-start.field-0.kept.value table here own))

pub returns-clause-path : goal.returns-clause-path
returns-clause-path c =
    let t = c.self.inside in
    let new = c.revive.new.self in
    let live = (subst (λ (p : Program). IsStanding p new) c.deref.ensures c.in_ok-revive.ensures.standing).live c.in_ok-revive.ensures.live in
    ap (λ (a : Told). slice_get (stand_of a).places c.args.number) (sym c.self.view_is) ∙ path_kept t.program.value t.standing new c.in_ok-revive.ensures.same live c.args.number (place_in c.in_ok-start.field-0.path) c.in_ok-start.ensures.path

pub returns-clause-own : goal.returns-clause-own
returns-clause-own c =
    let t = c.self.inside in
    let new = c.revive.new.self in
    let b = c.in_ok-start.field-0.start.value in
    let live = (subst (λ (p : Program). IsStanding p new) c.deref.ensures c.in_ok-revive.ensures.standing).live c.in_ok-revive.ensures.live in
    subst (λ (a : Told). IsBodyOf a.program (stand_of a) c.args.number b) c.self.view_is
    (body_kept t.program.value t.standing new c.in_ok-revive.ensures.same live c.args.number b c.in_ok-start.ensures.body)
