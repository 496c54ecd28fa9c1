use Rattle.std.proofs.Common.{Some, ap, arith, length, List, map, subst, sym, ℕ, ◌++◌, ◌∙◌, ◌≡◌}
use Rattle.std.proofs.lemmas.List.{length-map}
use Rattle.std.specs.Prelude.{slice_get}
use Rattle.std.specs.FinMap.{get, insert}
use Rattle.fm_chan.specs.Bodies.{chans_of}
use Rattle.fm_finmap.specs.Changes.{alters}
use Rattle.fm_finmap.proofs.Inserts.{insert_here, insert_there}
use Rattle.fm_net.specs.Machine.{Place, child, start_changes}
use Rattle.fm_net.specs.Starts.{child_places}
use Rattle.fm_net.proofs.Children.{not_own_child}
use Rattle.fm_net.proofs.Keys.{path_order}
use Rattle.fm_net_procs.specs.Readings.{actor_place, order_of, procs_of, state_of}
use Rattle.fm_net_procs.specs.Stepping.{started_at}
use Rattle.fm_net_procs.proofs.Families.{families_but}
use Rattle.fm_net_procs.proofs.Steps.{steps_there}
use Rattle.fm_net_procs.proofs.processes.Processes.step_alone.Goals as goal

pub start_all-requires-clause-actor : goal.start_all-requires-clause-actor
start_all-requires-clause-actor g c = ap (λ (ps : List Place). slice_get ps c.args.actor.now.number) c.in_ok-children.ensures.order ∙ c.requires.actor

pub start_all-requires-clause-new : goal.start_all-requires-clause-new
start_all-requires-clause-new g c = λ i.
    let P = c.args.program.now in
    let s = state_of (g.P.Proc.seen P) c.args.self.now in
    let p = actor_place c.args.actor.now in
    let who = steps_there (g.P.Proc.language P) s p c.requires.can in
    let done = c.in_ok-children.ensures.performs who.0 who.1 in
    let b = c.next_block-block.result in
    ap (λ m. get m (child p b i)) done.1
    ∙ insert_there path_order s.procs p done.0 (child p b i) (λ e. not_own_child p (b, i) (sym e))
    ∙ ap (λ (d : ℕ). get s.procs (child p d i)) (c.next_block-block.ensures P p who.0 c.requires.actor who.1)
    ∙ c.requires.new.children who.0 who.1 i

pub start_all-requires-clause-run : goal.start_all-requires-clause-run
start_all-requires-clause-run g c =
    let P = c.args.program.now in
    let s = state_of (g.P.Proc.seen P) c.args.self.now in
    let who = steps_there (g.P.Proc.language P) s (actor_place c.args.actor.now) c.requires.can in
    (c.in_ok-children.ensures.performs who.0 who.1).2.run

pub returns-clause-step : goal.returns-clause-step
returns-clause-step g c =
    let P = c.args.program.now in
    let seen = g.P.Proc.seen P in
    let language = g.P.Proc.language P in
    let s = state_of seen c.args.self.now in
    let p = actor_place c.args.actor.now in
    let who = steps_there language s p c.requires.can in
    let y = who.0 in
    let done = c.in_ok-children.ensures.performs y who.1 in
    let d = c.in_ok-children.field-0 in
    let xs = map seen d.children.items in
    let same : procs_of seen c.start_all.new.self ≡ alters (start_changes p (language.next_block y) 1 xs) (insert s.procs p done.0) =
    c.in_ok-start_all.ensures.processes
    ∙ ap (λ (b : ℕ). alters (start_changes p b 1 xs) (procs_of seen c.perform_one.new.self.entries)) (c.next_block-block.ensures P p y c.requires.actor who.1)
    ∙ ap (λ m. alters (start_changes p (language.next_block y) 1 xs) m) done.1 in
    done.2.step ∙ ap (λ m. Some (record { procs = m; chans = chans_of c.perform_one.new.self.channels }, d.cost)) (sym same)

pub returns-clause-starts : goal.returns-clause-starts
returns-clause-starts g c =
    let P = c.args.program.now in
    let seen = g.P.Proc.seen P in
    let s = state_of seen c.args.self.now in
    let p = actor_place c.args.actor.now in
    let who = steps_there (g.P.Proc.language P) s p c.requires.can in
    let y = who.0 in
    let done = c.in_ok-children.ensures.performs y who.1 in
    let items = c.in_ok-children.field-0.children.items in
    let count : length (map seen items) ≡ c.len-started.result = omega (arith, length-map items seen, c.len-started.ensures) in
    done.2.starts
    ∙ ap (λ (b : ℕ). child_places p b 1 (length (map seen items))) (sym (c.next_block-block.ensures P p y c.requires.actor who.1)) ∙ ap (λ (n : ℕ). child_places p c.next_block-block.result 1 n) count

pub returns-clause-told : goal.returns-clause-told
returns-clause-told g c = λ but. c.in_ok-start_all.ensures.told (c.in_ok-children.ensures.told but)

pub returns-clause-families : goal.returns-clause-families
returns-clause-families g c =
    let P = c.args.program.now in
    let seen = g.P.Proc.seen P in
    let s = state_of seen c.args.self.now in
    let p = actor_place c.args.actor.now in
    let who = steps_there (g.P.Proc.language P) s p c.requires.can in
    let y = who.0 in
    let done = c.in_ok-children.ensures.performs y who.1 in
    let items = c.in_ok-children.field-0.children.items in
    let block = c.next_block-block.ensures P p y c.requires.actor who.1 in
    c.in_ok-start_all.ensures.families done.0 (ap (λ m. get m p) done.1 ∙ insert_here path_order s.procs p done.0)
    (λ b n is. let w = done.2.waits b n is in (w.0 ∙ sym block, w.1 ∙ length-map items seen))
    (c.in_ok-children.ensures.families (families_but seen g.P.Proc.awaits p c.args.self.now.entries c.requires.families))

pub returns-clause-fits : goal.returns-clause-fits
returns-clause-fits g c =
    let P = c.args.program.now in
    let seen = g.P.Proc.seen P in
    let language = g.P.Proc.language P in
    let s = state_of seen c.args.self.now in
    let p = actor_place c.args.actor.now in
    let who = steps_there language s p c.requires.can in
    let y = who.0 in
    let done = c.in_ok-children.ensures.performs y who.1 in
    let xs = map seen c.in_ok-children.field-0.children.items in
    let same : procs_of seen c.start_all.new.self ≡ alters (start_changes p (language.next_block y) 1 xs) (insert s.procs p done.0) =
    c.in_ok-start_all.ensures.processes
    ∙ ap (λ (b : ℕ). alters (start_changes p b 1 xs) (procs_of seen c.perform_one.new.self.entries)) (c.next_block-block.ensures P p y c.requires.actor who.1)
    ∙ ap (λ m. alters (start_changes p (language.next_block y) 1 xs) m) done.1 in
    subst (λ m. g.P.Proc.Fits P c.start_all.new.work (record { procs = m; chans = chans_of c.perform_one.new.self.channels })) (sym same)
    (c.in_ok-start_all.ensures.fits (started_at language s p y done.0 xs (chans_of c.perform_one.new.self.channels)) done.2.fits)

pub returns-clause-order : goal.returns-clause-order
returns-clause-order g c =
    let p = actor_place c.args.actor.now in
    let items = c.in_ok-children.field-0.children.items in
    let count : length items ≡ c.len-started.result = omega (arith, c.len-started.ensures) in
    c.in_ok-start_all.ensures.order ∙ ap (λ (ps : List Place). ps ++ child_places p c.next_block-block.result 1 (length items)) c.in_ok-children.ensures.order
    ∙ ap (λ (n : ℕ). order_of c.args.self.now.entries ++ child_places p c.next_block-block.result 1 n) count
