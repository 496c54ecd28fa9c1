use Rattle.std.proofs.Common.{◌≡◌, ◌∷◌, ◌++◌, ℕ, [], List, cond, length, true, false, ◌≤◌, ◌<◌, refl, ap, ap₂, sym, subst, ◌∙◌, arith, rules}
use Rattle.fm_base.specs.declared.schedule.Turn.{Turn}
use Rattle.fm_chan.specs.Bodies.{chans_of}
use Rattle.fm_chan.specs.Woken.{woken_of}
use Rattle.fm_net.specs.Machine.{Place, State}
use Rattle.fm_net.specs.Owned.{IsOwned}
use Rattle.std.specs.Prelude.{Contains, Some, is_some, slice_get}
use Rattle.std.specs.List.Sorted.{IsNonDecreasing}
use Rattle.std.specs.FinMap.{get}
use Rattle.fm_run.specs.Plays.{ended_at, language, step}
use Rattle.fm_run.specs.Noted.{AreNoted, AreParents, IsNoted}
use Rattle.fm_run.specs.Entries.{turn_of}
use Rattle.fm_run.specs.Runs.{AreAble, IsEntry, IsPlayedBy}
use Rattle.fm_run.specs.Orders.{Among, AreMarked, can_at, in_turn, others_in, ready_after}
use Rattle.fm_run.proofs.Numbers.{all_in_turn, among_left, once_in_turn}
use Rattle.fm_run.proofs.Playing.{are_able, kept_owned}
use Rattle.fm_run.proofs.Queueing.{front_same, front_stays}
use Rattle.fm_run.proofs.Results.{on_err, on_err_one, on_ok_one, on_ok_six}
use Rattle.fm_run.proofs.Serving.{candidates_whole, noted_all, noted_taken, queue_is, queue_ready, stands_later}
use Rattle.fm_run.proofs.player.Player.serve.Goals as goal

pub settle_all-requires-clause-owned : goal.settle_all-requires-clause-owned
settle_all-requires-clause-owned g c =
    let P = g.N.Net.play c.args.program.now in
    let old = c.args.self.now in
    subst (IsOwned (language P)) (sym (c.in_ok-asked.ensures.state c.args.program.now)) (kept_owned P (g.met.N.Net.lawful c.args.program.now old.net c.requires.sound) (g.N.Net.history old.net) (g.N.Net.order old.net) (g.N.Net.state c.args.program.now old.net) old.used c.requires.moved.kept_later)

pub settle_all-requires-clause-sound : goal.settle_all-requires-clause-sound
settle_all-requires-clause-sound g c = c.in_ok-asked.ensures.sound c.args.program.now c.requires.sound

pub settle_all-requires-clause-sorted : goal.settle_all-requires-clause-sorted
settle_all-requires-clause-sorted g c = subst IsNonDecreasing (sym c.as_slice.ensures.value) c.in_ok-asked.ensures.sorted

pub settle_all-requires-clause-marked : goal.settle_all-requires-clause-marked
settle_all-requires-clause-marked g c =
    subst (λ (rs : List Place). AreMarked (length rs) c.args.self.now.able.marks.items c.args.self.now.able.numbers.items) (sym c.in_ok-asked.ensures.order) c.requires.moved.numbered.marked

pub settle_own-requires-clause-once : goal.settle_own-requires-clause-once
settle_own-requires-clause-once g c = c.in_ok-settle_all.ensures.once c.requires.moved.exact.once

pub settle_own-requires-clause-there : goal.settle_own-requires-clause-there
settle_own-requires-clause-there g c =
    let front = c.in_ok-settle_all.ensures.front in
    subst (Among c.args.number) (sym front.1) (among_left c.args.number c.args.self.now.able.numbers.items front.0 c.requires.moved.among)

pub settle_own-requires-clause-owned : goal.settle_own-requires-clause-owned
settle_own-requires-clause-owned g c =
    let P = g.N.Net.play c.args.program.now in
    let old = c.args.self.now in
    subst (IsOwned (language P)) (sym (c.in_ok-settle_all.ensures.state ∙ c.in_ok-asked.ensures.state c.args.program.now))
    (kept_owned P (g.met.N.Net.lawful c.args.program.now old.net c.requires.sound) (g.N.Net.history old.net) (g.N.Net.order old.net) (g.N.Net.state c.args.program.now old.net) old.used c.requires.moved.kept_later)

-- `candidates`, `settle_all` and `settle_own` leave the state as it is. `settle_all` puts those that became able behind the queue, and `settle_own`
-- takes the process itself out and puts it behind them: this is `ready_after`. Who can't step is noted, or left, until `settle_own`
pub returns : goal.returns
returns g c =
    let P = g.N.Net.play c.args.program.now in
    let number = c.args.number in
    let mid = c.args.self.now in
    let law = g.met.N.Net.lawful c.args.program.now mid.net c.requires.sound in
    let m = c.requires.moved in
    let t = g.N.Net.state c.args.program.now c.candidates.new.net in
    let qs = g.N.Net.order c.candidates.new.net in
    let later_hs = g.N.Net.history mid.net in
    let mid_chans = g.N.Net.channels mid.net in
    let parents = c.as_slice-parents.result.now in
    let cs = c.as_slice.result.now in
    let able = mid.able.numbers.items in
    let whole : qs ≡ g.N.Net.order mid.net = c.in_ok-asked.ensures.order in
    let same : t ≡ g.N.Net.state c.args.program.now mid.net = c.in_ok-asked.ensures.state c.args.program.now in
    let of_new : chans_of mid_chans ≡ t.chans = g.met.N.Net.channels_are c.args.program.now mid.net c.requires.sound ∙ ap (λ (u : State P.Proc). u.chans) (sym same) in
    let entry : IsEntry P (turn_of number m.steps) m.state m.places m.history t qs later_hs =
    subst (λ (u : State P.Proc). IsEntry P (turn_of number m.steps) m.state m.places m.history u qs later_hs) (sym same)
    (subst (λ (rs : List Place). IsEntry P (turn_of number m.steps) m.state m.places m.history (g.N.Net.state c.args.program.now mid.net) rs later_hs) (sym whole) m.entry) in
    let later : IsPlayedBy P later_hs qs t mid.used =
    subst (λ (u : State P.Proc). IsPlayedBy P later_hs qs u mid.used) (sym same) (subst (λ (rs : List Place). IsPlayedBy P later_hs rs (g.N.Net.state c.args.program.now mid.net) mid.used) (sym whole) m.kept_later) in
    let started : AreParents qs parents =
    subst (AreParents qs) (sym c.as_slice-parents.ensures.value) (subst (λ (rs : List Place). AreParents rs mid.parents.items) (sym whole) m.numbered.started) in
    let woken_in : (n : ℕ) → Contains (woken_of mid_chans) n → Contains cs n = λ n k. subst (λ (ns : List ℕ). Contains ns n) (sym c.as_slice.ensures.value) (c.in_ok-asked.ensures.woken n k) in
    let parent_in : (q : Place) (n : ℕ) → slice_get m.places number ≡ Some q → ended_at P (get t.procs q) ≡ true → slice_get parents number ≡ Some n → can_at P t qs n ≡ true → Contains cs n = λ q n at ended is can.
    subst (λ (ns : List ℕ). Contains ns n) (sym c.as_slice.ensures.value)
    (c.in_ok-asked.ensures.parent c.args.program.now q n c.requires.sound (subst (λ (rs : List Place). slice_get rs number ≡ Some q) whole (stands_later P law number m.steps m.state t m.places qs m.history later_hs m.spent m.kept entry able m.exact m.among m.old mid_chans m.old_chans of_new m.waking m.noted q at)) (subst (λ (u : State P.Proc). ended_at P (get u.procs q) ≡ true) same ended) is
    (subst (λ (rs : List Place). can_at P (g.N.Net.state c.args.program.now mid.net) rs n ≡ true) whole (subst (λ (u : State P.Proc). can_at P u qs n ≡ true) same can))) in
    let new_in : (n : ℕ) → length m.places ≤ n → n < length qs → Contains cs n = λ n high within.
    subst (λ (ns : List ℕ). Contains ns n) (sym c.as_slice.ensures.value) (c.in_ok-asked.ensures.new n (omega (arith, high, m.counted)) (subst (λ (rs : List Place). n < length rs) whole within)) in
    let served = c.in_ok-settle_all.ensures.queue (candidates_whole P law number m.steps m.state t m.places qs m.history later_hs m.spent m.kept entry able m.exact m.among m.old mid_chans m.old_chans of_new m.waking m.noted mid.used later parents started cs woken_in parent_in new_in) in
    let ready = queue_ready P law number m.steps m.state t m.places qs m.history later_hs m.spent m.kept entry able m.exact m.among m.old mid_chans m.old_chans of_new m.waking m.noted in
    let left = c.in_ok-settle_all.ensures.noted ready (noted_taken P law number m.steps m.state t m.places qs m.history later_hs m.spent m.kept entry able m.exact m.among m.old mid_chans m.old_chans of_new m.waking m.noted mid.used later parents started cs woken_in parent_in new_in (g.N.Net.channels c.candidates.new.net) c.in_ok-asked.ensures.readers) in
    let stays = c.in_ok-settle_all.ensures.state in
    let rs = g.N.Net.order c.settle_all.new.net in
    let listed : rs ≡ qs = c.in_ok-settle_all.ensures.order in
    let pieces : g.N.Net.history c.settle_all.new.net ≡ later_hs = c.in_ok-settle_all.ensures.history ∙ c.in_ok-asked.ensures.history in
    let queued : c.settle_own.new.able.numbers.items ≡ others_in number c.settle_all.new.able.numbers.items ++ cond (can_at P (g.N.Net.state c.args.program.now c.settle_all.new.net) rs number) (number ∷ []) [] → c.settle_own.new.able.numbers.items ≡ ready_after P t qs able number = λ last.
    queue_is P law number m.steps m.state t m.places qs m.history later_hs m.spent m.kept entry able m.exact m.among m.old mid_chans m.old_chans of_new m.waking m.noted c.settle_all.new.able.numbers.items c.settle_own.new.able.numbers.items served
    (last ∙ ap₂ (λ (u : State P.Proc) (os : List Place). others_in number c.settle_all.new.able.numbers.items ++ cond (can_at P u os number) (number ∷ []) []) stays listed) in
    let final_chans = g.N.Net.channels c.settle_own.new.net in
    record {
      sound = c.settle_own.ensures.sound;
      played = on_ok_six c.settle_own.result c.settle_own.ensures.order c.settle_own.ensures.state c.settle_own.ensures.queue c.settle_own.ensures.noted c.settle_own.ensures.waking c.settle_own.ensures.marks (λ alike ends last own wakes marks.
          let told = c.settle_own.ensures.history in
          let final = ends ∙ stays in
          let same_order : g.N.Net.order c.settle_own.new.net ≡ qs = alike ∙ listed in
          record {
            history =
                subst (λ (ts : List Turn). IsPlayedBy P ts (g.N.Net.order c.settle_own.new.net) (g.N.Net.state c.args.program.now c.settle_own.new.net) mid.used) (sym (told ∙ pieces))
                (subst (λ (us : List Place). IsPlayedBy P later_hs us (g.N.Net.state c.args.program.now c.settle_own.new.net) mid.used) (sym (same_order ∙ whole))
                (subst (λ (u : State P.Proc). IsPlayedBy P later_hs (g.N.Net.order mid.net) u mid.used) (sym (final ∙ same)) m.kept_later));
            able =
                subst (λ (us : List Place). AreAble P (g.N.Net.state c.args.program.now c.settle_own.new.net) us c.settle_own.new.able.numbers.items) (sym same_order)
                (subst (λ (u : State P.Proc). AreAble P u qs c.settle_own.new.able.numbers.items) (sym final)
                (are_able P t qs (in_turn number able (length qs)) c.settle_own.new.able.numbers.items (queued last) (all_in_turn number able (length qs)) (once_in_turn number able (length qs) m.exact.once)));
            noted =
                subst (λ (us : List Place). AreNoted P (g.N.Net.state c.args.program.now c.settle_own.new.net) final_chans us) (sym same_order)
                (subst (λ (u : State P.Proc). AreNoted P u final_chans qs) (sym final)
                (noted_all P t qs number cs (g.N.Net.channels c.settle_all.new.net) final_chans wakes left
                (subst (λ (u : State P.Proc). (q : Place) (x : P.Proc) → slice_get qs number ≡ Some q → get u.procs q ≡ Some x → is_some (step P u q) ≡ false → IsNoted P final_chans number x) stays
                (subst (λ (us : List Place). (q : Place) (x : P.Proc) → slice_get us number ≡ Some q → get (g.N.Net.state c.args.program.now c.settle_all.new.net).procs q ≡ Some x → is_some (step P (g.N.Net.state c.args.program.now c.settle_all.new.net) q) ≡ false → IsNoted P final_chans number x) listed own))));
            numbered = record {
              started = subst (λ (us : List Place). AreParents us mid.parents.items) (sym (same_order ∙ whole)) m.numbered.started;
              counted = m.numbered.counted ∙ ap length (sym (same_order ∙ whole));
              marked = subst (λ (us : List Place). AreMarked (length us) c.settle_own.new.able.marks.items c.settle_own.new.able.numbers.items) (sym same_order) (marks (length qs) c.in_ok-settle_all.ensures.marks);
            };
          });
      used = search rules;
      state = on_ok_one c.settle_own.result c.settle_own.ensures.state (λ ends. ends ∙ stays ∙ same);
      order = on_ok_one c.settle_own.result c.settle_own.ensures.order (λ alike. alike ∙ listed ∙ whole);
      history = c.settle_own.ensures.history ∙ pieces;
      able = on_ok_one c.settle_own.result c.settle_own.ensures.queue (λ last. queued last ∙ ap₂ (λ (u : State P.Proc) (us : List Place). ready_after P u us able number) same whole);
      front = on_err_one c.settle_own.result c.settle_own.ensures.kept (λ stays. front_stays able c.settle_all.new.able.numbers.items c.settle_own.new.able.numbers.items c.in_ok-settle_all.ensures.front stays);
    }

pub returns-in_err-asked-clause-front : goal.returns-in_err-asked-clause-front
returns-in_err-asked-clause-front g c = on_err c.from_residual.result (front_same c.args.self.now.able.numbers.items c.args.self.now.able.numbers.items refl)

pub returns-in_err-settle_all-clause-front : goal.returns-in_err-settle_all-clause-front
returns-in_err-settle_all-clause-front g c = on_err c.from_residual-in_err-settle_all.result c.settle_all.ensures.front
