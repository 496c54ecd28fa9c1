use Rattle.std.proofs.Common.{◌<◌, ℕ, inr, ap, ap₂, sym, subst, ◌∙◌}
use Rattle.std.specs.Prelude.{List}
use Rattle.fm_base.specs.declared.schedule.Turn.{Turn}
use Rattle.fm_net.specs.Machine.{Place, State}
use Rattle.fm_run.specs.Orders.{Among, KeepsFront, can_at, ready_after}
use Rattle.fm_run.specs.Entries.{turn_of}
use Rattle.fm_run.specs.Runs.{AreAble, IsEntry}
use Rattle.fm_run.proofs.Playing.{front_more, known}
use Rattle.fm_run.proofs.Queueing.{front_same}
use Rattle.fm_run.proofs.Results.{on_err}
use Rattle.fm_run.proofs.player.Player.play_steps.Goals as goal

pub keep_steps-requires-clause-able : goal.keep_steps-requires-clause-able
keep_steps-requires-clause-able g c = c.requires.played.able.within c.args.number c.requires.able

pub keep_steps-requires-clause-within : goal.keep_steps-requires-clause-within
keep_steps-requires-clause-within g c = λ n h.
    let old = c.args.self.now in
    known (g.N.Net.play c.args.program.now) (g.N.Net.state c.args.program.now old.net) (g.N.Net.order old.net) n (c.requires.played.able.within n h)

pub serve-requires-clause-moved : goal.serve-requires-clause-moved
serve-requires-clause-moved g c =
    let P = g.N.Net.play c.args.program.now in
    let old = c.args.self.now in
    let mid = c.keep_steps.new.self in
    let able = c.in_ok-done.ensures.able in
    record {
      state = g.N.Net.state c.args.program.now old.net;
      places = g.N.Net.order old.net;
      history = g.N.Net.history old.net;
      spent = old.used;
      old = g.N.Net.channels old.net;
      steps = c.in_ok-done.done;
      kept = c.requires.played.history;
      exact = subst (AreAble P (g.N.Net.state c.args.program.now old.net) (g.N.Net.order old.net)) (sym able) c.requires.played.able;
      among = subst (Among c.args.number) (sym able) c.requires.able;
      noted = c.requires.played.noted;
      old_chans = g.met.N.Net.channels_are c.args.program.now old.net c.requires.sound;
      entry = c.in_ok-done.ensures.entry;
      kept_later = c.in_ok-done.ensures.kept;
      waking = c.in_ok-done.ensures.waking;
      counted = c.count-before.ensures;
      numbered = c.in_ok-done.ensures.numbered;
    }

pub returns-clause-used : goal.returns-clause-used
returns-clause-used g c = subst (λ n. c.args.self.now.used < n) (sym c.in_ok-serve.ensures.used) c.in_ok-done.ensures.used

pub returns-clause-front : goal.returns-clause-front
returns-clause-front g c = λ turns low.
    let P = g.N.Net.play c.args.program.now in
    let old = c.args.self.now in
    let mid = c.keep_steps.new.self in
    let later = c.serve.new.self in
    front_more P (g.N.Net.history old.net) (g.N.Net.order old.net) (g.N.Net.state c.args.program.now old.net) old.used c.requires.played.history (turn_of c.args.number c.in_ok-done.done) _
    (g.N.Net.history later.net) (c.in_ok-serve.ensures.history ∙ c.in_ok-done.ensures.entry.history_is) (g.N.Net.order later.net) (c.in_ok-serve.ensures.order ∙ c.in_ok-done.ensures.entry.places_are) turns low

pub returns-clause-entry : goal.returns-clause-entry
returns-clause-entry g c =
    let P = g.N.Net.play c.args.program.now in
    let old = c.args.self.now in
    let mid = c.keep_steps.new.self in
    let later = c.serve.new.self in
    let t = turn_of c.args.number c.in_ok-done.done in
    let s = g.N.Net.state c.args.program.now old.net in
    let ps = g.N.Net.order old.net in
    let hs = g.N.Net.history old.net in
    subst (λ (ts : List Turn). IsEntry P t s ps hs (g.N.Net.state c.args.program.now later.net) (g.N.Net.order later.net) ts) (sym c.in_ok-serve.ensures.history)
    (subst (λ (us : List Place). IsEntry P t s ps hs (g.N.Net.state c.args.program.now later.net) us (g.N.Net.history mid.net)) (sym c.in_ok-serve.ensures.order)
    (subst (λ (u : State P.Proc). IsEntry P t s ps hs u (g.N.Net.order mid.net) (g.N.Net.history mid.net)) (sym c.in_ok-serve.ensures.state) c.in_ok-done.ensures.entry))

pub returns-clause-able : goal.returns-clause-able
returns-clause-able g c =
    let P = g.N.Net.play c.args.program.now in
    c.in_ok-serve.ensures.able
    ∙ ap (λ (ns : List ℕ). ready_after P (g.N.Net.state c.args.program.now c.keep_steps.new.self.net) (g.N.Net.order c.keep_steps.new.self.net) ns c.args.number) c.in_ok-done.ensures.able
    ∙ ap₂ (λ (u : State P.Proc) (us : List Place). ready_after P u us c.args.self.now.able.numbers.items c.args.number) (sym c.in_ok-serve.ensures.state) (sym c.in_ok-serve.ensures.order)

pub returns-in_err-done-clause-stays : goal.returns-in_err-done-clause-stays
returns-in_err-done-clause-stays g c = on_err c.from_residual.result c.in_err-done.ensures.stays

pub returns-in_err-serve-clause-stays : goal.returns-in_err-serve-clause-stays
returns-in_err-serve-clause-stays g c = on_err c.from_residual-in_err-serve.result (inr (turn_of c.args.number c.in_ok-done.done, c.serve.ensures.history ∙ c.in_ok-done.ensures.entry.history_is))

pub returns-clause-stops : goal.returns-clause-stops
returns-clause-stops g c = λ few.
    let P = g.N.Net.play c.args.program.now in
    ap₂ (λ (u : State P.Proc) (us : List Place). can_at P u us c.args.number) c.in_ok-serve.ensures.state c.in_ok-serve.ensures.order ∙ c.in_ok-done.ensures.stops few

pub returns-in_err-done-clause-queue : goal.returns-in_err-done-clause-queue
returns-in_err-done-clause-queue g c = on_err c.from_residual.result (front_same c.args.self.now.able.numbers.items c.keep_steps.new.self.able.numbers.items c.keep_steps.ensures.able)

pub returns-in_err-serve-clause-queue : goal.returns-in_err-serve-clause-queue
returns-in_err-serve-clause-queue g c = on_err c.from_residual-in_err-serve.result (subst (λ (ns : List ℕ). KeepsFront ns c.serve.new.self.able.numbers.items) c.in_ok-done.ensures.able c.in_err-serve.ensures.front)
