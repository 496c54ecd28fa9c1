use Rattle.std.proofs.Common.{◌≡◌, ◌∷◌, ◌++◌, ℕ, [], Bool, false, Some, List, cond, filter, length, inl, ap, ap₂, sym, subst, ◌∙◌, arith}
use Rattle.std.specs.Prelude.{is_some, slice_get}
use Rattle.std.specs.FinMap.{get}
use Rattle.fm_base.specs.declared.schedule.Turn.{Turn}
use Rattle.fm_net.specs.Machine.{Place, State}
use Rattle.fm_net.specs.Owned.{IsOwned}
use Rattle.fm_run.specs.Plays.{language, step}
use Rattle.fm_run.specs.Noted.{AreParents, IsNoted}
use Rattle.fm_run.specs.Orders.{Among, AreMarked, can_at}
use Rattle.fm_run.specs.Runs.{IsPlayedBy, stand_at}
use Rattle.fm_run.proofs.Becomes.{main_alone_started, main_noted}
use Rattle.fm_run.proofs.Playing.{are_able, first_owned, kept_first}
use Rattle.fm_run.proofs.player.Player.new.Goals as goal

pub settle-requires-clause-owned : goal.settle-requires-clause-owned
settle-requires-clause-owned g c = subst (IsOwned (language (g.N.Net.play c.args.program.now))) (sym c.in_ok-net.ensures.state) (first_owned (g.N.Net.play c.args.program.now) (g.met.N.Net.lawful c.args.program.now c.in_ok-net.net c.in_ok-net.ensures.sound))

pub returns-clause-history : goal.returns-clause-history
returns-clause-history g c = c.in_ok-settle.ensures.history ∙ c.in_ok-net.ensures.history

pub returns-clause-stand : goal.returns-clause-stand
returns-clause-stand g c =
    let P = g.N.Net.play c.args.program.now in
    let s = g.N.Net.state c.args.program.now c.settle.new.net in
    let ps = g.N.Net.order c.settle.new.net in
    let able = c.settle.new.able.numbers.items in
    let listed : g.N.Net.order c.in_ok-net.net ≡ ps = sym c.in_ok-settle.ensures.order in
    let stays = c.in_ok-settle.ensures.state in
    let nobody : c.grow.new.self.numbers.items ≡ [] = c.in_ok-grow.ensures.numbers ∙ c.new-able.ensures.numbers in
    let queue : able ≡ filter (can_at P s ps) (0 ∷ []) =
    c.in_ok-settle.ensures.queue ∙ ap₂ (λ (ns : List ℕ) (b : Bool). ns ++ cond b (0 ∷ []) []) nobody (ap₂ (λ (u : State P.Proc) (rs : List Place). can_at P u rs 0) (sym stays) listed) in
    ap (stand_at s ps) queue ∙ ap₂ (λ (u : State P.Proc) (rs : List Place). stand_at u rs (filter (can_at P u rs) (0 ∷ []))) (stays ∙ c.in_ok-net.ensures.state) (c.in_ok-settle.ensures.order ∙ c.in_ok-net.ensures.order)

pub returns-clause-played : goal.returns-clause-played
returns-clause-played g c =
    let P = g.N.Net.play c.args.program.now in
    let s = g.N.Net.state c.args.program.now c.settle.new.net in
    let ps = g.N.Net.order c.settle.new.net in
    let able = c.settle.new.able in
    let alone : ps ≡ [] ∷ [] = c.in_ok-settle.ensures.order ∙ c.in_ok-net.ensures.order in
    let listed : g.N.Net.order c.in_ok-net.net ≡ ps = sym c.in_ok-settle.ensures.order in
    let stays = c.in_ok-settle.ensures.state in
    let nobody : c.grow.new.self.numbers.items ≡ [] = c.in_ok-grow.ensures.numbers ∙ c.new-able.ensures.numbers in
    let queue : able.numbers.items ≡ filter (can_at P s ps) (0 ∷ []) =
    c.in_ok-settle.ensures.queue ∙ ap₂ (λ (ns : List ℕ) (b : Bool). ns ++ cond b (0 ∷ []) []) nobody (ap₂ (λ (u : State P.Proc) (rs : List Place). can_at P u rs 0) (sym stays) listed) in
    record {
      history =
          subst (λ (ts : List Turn). IsPlayedBy P ts ps s 0) (sym (c.in_ok-settle.ensures.history ∙ c.in_ok-net.ensures.history))
          (subst (λ (rs : List Place). IsPlayedBy P [] rs s 0) (sym alone) (subst (λ (u : State P.Proc). IsPlayedBy P [] ([] ∷ []) u 0) (sym (stays ∙ c.in_ok-net.ensures.state)) (kept_first P)));
      able = are_able P s ps (0 ∷ []) able.numbers.items queue (λ n low. inl (omega (arith, low, ap length alone))) (λ h. h, tt);
      noted =
          main_noted P s ps (g.N.Net.channels c.settle.new.net) alone (λ q x at.
          subst (λ (u : State P.Proc). get u.procs q ≡ Some x → is_some (step P u q) ≡ false → IsNoted P (g.N.Net.channels c.settle.new.net) 0 x) (sym stays)
          (c.in_ok-settle.ensures.noted q x (ap (λ (rs : List Place). slice_get rs 0) listed ∙ at)));
      numbered = record {
        started = subst (λ (rs : List Place). AreParents rs c.in_ok-parents.parents.items) (sym alone) (main_alone_started c.in_ok-parents.parents.items);
        counted = ap length c.in_ok-parents.ensures.items ∙ sym (ap length alone);
        marked =
            subst (λ (k : ℕ). AreMarked k able.marks.items able.numbers.items) (sym (ap length alone))
            (c.in_ok-settle.ensures.marks 1 (c.in_ok-grow.ensures.marks 0 (omega arith) (λ n h. absurd (subst (Among n) c.new-able.ensures.numbers h))
            (record { whole = ap length c.new-able.ensures.marks; marked = λ n low. absurd (omega (arith, low)) })));
      };
    }
