use Rattle.std.proofs.Common.{◌++◌, ◌∷◌, [], inr, ap, length-append, refl, ◌∙◌, arith, length}
use Rattle.std.specs.Prelude.{option_to_list}
use Rattle.fm_chan.specs.Woken.{woken_of}
use Rattle.fm_run.proofs.Taking.{left_in, moved, none_given}
use Rattle.fm_run.proofs.becoming.take_woken.Goals as goal

pub woken-init : goal.woken-init
woken-init g c = record { order = refl; history = refl; state = λ p. refl; sound = λ p sound. sound; readers = λ d. refl; woken = λ n k. inr k }

pub woken-preserved : goal.woken-preserved
woken-preserved g c =
    let channels = g.N.Net.channels in
    let out = c.next_woken.ensures.woken ∙ ap (λ o. woken_of (channels c.next_woken.new.self) ++ option_to_list o) c.in-Some.is in
    record {
      order = c.next_woken.ensures.order ∙ c.woken.invariant.order;
      history = c.next_woken.ensures.history ∙ c.woken.invariant.history;
      state = λ p. c.next_woken.ensures.state p ∙ c.woken.invariant.state p;
      sound = λ p sound. c.next_woken.ensures.sound p (c.woken.invariant.sound p sound);
      readers = λ d. c.next_woken.ensures.readers d ∙ c.woken.invariant.readers d;
      woken = λ n k. moved c.woken.all.items c.push.new.self.items (woken_of (channels c.woken.net)) (woken_of (channels c.next_woken.new.self)) c.in-Some.number out c.in_ok-push.ensures.items n (c.woken.invariant.woken n k);
    }

pub woken-smaller : goal.woken-smaller
woken-smaller g c =
    let channels = g.N.Net.channels in
    let out = c.next_woken.ensures.woken ∙ ap (λ o. woken_of (channels c.next_woken.new.self) ++ option_to_list o) c.in-Some.is in
    omega (arith, ap length out, length-append (woken_of (channels c.next_woken.new.self)) (c.in-Some.number ∷ []))

pub returns-clause-woken : goal.returns-clause-woken
returns-clause-woken g c = λ n k. left_in c.woken.all.items (woken_of (g.N.Net.channels c.woken.net)) n (none_given c.next_woken.result _ c.in_default.not-Some c.next_woken.ensures.none) (c.woken.invariant.woken n k)

pub returns-clause-order : goal.returns-clause-order
returns-clause-order g c = c.next_woken.ensures.order ∙ c.woken.invariant.order

pub returns-clause-history : goal.returns-clause-history
returns-clause-history g c = c.next_woken.ensures.history ∙ c.woken.invariant.history

pub returns-clause-state : goal.returns-clause-state
returns-clause-state g c = λ p. c.next_woken.ensures.state p ∙ c.woken.invariant.state p

pub returns-clause-sound : goal.returns-clause-sound
returns-clause-sound g c = λ p sound. c.next_woken.ensures.sound p (c.woken.invariant.sound p sound)

pub returns-clause-readers : goal.returns-clause-readers
returns-clause-readers g c = λ d. c.next_woken.ensures.readers d ∙ c.woken.invariant.readers d

pub returns-in_err-push-clause-history : goal.returns-in_err-push-clause-history
returns-in_err-push-clause-history g c = c.next_woken.ensures.history ∙ c.woken.invariant.history
