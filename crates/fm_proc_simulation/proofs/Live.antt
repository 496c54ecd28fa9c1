-- What a live state tells of a step: the state after it is live again, a message that comes fits its channel, and children that
-- are joined stand in the state and have ended.
use Rattle.std.proofs.Common.{◌≡◌, ℕ, zero, suc, Bool, true, false, cond, Some, None, List, [], ◌∷◌, refl, sym, ap, subst, ◌∙◌}
use Rattle.std.specs.FinMap.{get}
use Rattle.fm_base.specs.declared.path.ChanName.{ChanName}
use Rattle.fm_base.specs.Channels.{Message, Limits, Pop, first_message, fits_limits}
use Rattle.fm_sched.specs.Schedule.{Can, next}
use Rattle.fm_net.specs.Machine.{Place, Procs, Event, Children, Reply, State, child, gathered}
use Rattle.fm_net.specs.Language.{language_step}
use Rattle.fm_net.specs.Typed.{AllIn, AreTypes}
use Rattle.fm_net.specs.Correspondence.{ComesIn}
use Rattle.fm_net.proofs.Steps.{step_keeps}
use Rattle.fm_net.proofs.Typed.{step_keeps_types}
use Rattle.fm_net.proofs.Facts.{the_value}
use Rattle.fm_net.proofs.Needs.{served_event}
use Rattle.fm_net.proofs.Children.{first_gathered, served_children}
use Rattle.fm_rules.specs.declared.program.Program.{Program}
use Rattle.fm_mean.specs.Process.{Proc, has_ended}
use Rattle.fm_mean.specs.Fits.{Types, IsFine, Fits}
use Rattle.fm_mean.specs.Steps.{language}
use Rattle.fm_mean.proofs.Lawful.{lawful}
use Rattle.fm_mean.proofs.TypedTrees.{typed_program}
use Rattle.fm_mean.proofs.TypedLanguage.{typed_language}
use Rattle.fm_mean.proofs.ProgramMeanings.{program_has_types}
use Rattle.fm_proc_simulation.specs.Corresponds.{IsLive}

pub stays_live : (p : Program) (s : State Proc) (q : Place) → IsLive p s → Can (language_step (language p)) s q → IsLive p (next (language_step (language p)) s q)
stays_live p s q live can = record {
  typed = step_keeps_types (language p) (IsFine p) Fits (typed_language p (typed_program p (program_has_types p))) (lawful p) s q live.owned live.typed can;
  owned = step_keeps (language p) (lawful p) s q live.owned can;
}

-- Messages.

-- one that comes is within the limits
first_fits : (types : Types) (c : ChanName) (limits : Limits) (ms : List Message) (m : Message) → AllIn (Fits types c) ms → first_message limits ms ≡ Some m → Fits types c m × (fits_limits limits m ≡ true)
first_fits types c limits [] m all e = absurd (cc)
first_fits types c limits (n ∷ ms) m all e = go (fits_limits limits n) refl e
  where
    go : (b : Bool) → fits_limits limits n ≡ b → cond b (Some n) None ≡ Some m → Fits types c m × (fits_limits limits m ≡ true)
    go true within comes = subst (λ (k : Message). Fits types c k × (fits_limits limits k ≡ true)) (the_value n m comes) (all.0, within)
    go false within comes = absurd (cc comes)

-- the message that comes to who receives fits its channel, and the limits of the receive
pub message_fits : (p : Program) (types : Types) (s : State Proc) → AreTypes (language p) (IsFine p) Fits types s → (q : Place) (c : ChanName) (limits : Limits) (r : Reply Proc)
    → ComesIn (language p) s q (Event c (Pop limits)) r → (m : Message) → r.message ≡ Some m → Fits types c m × (fits_limits limits m ≡ true)
message_fits p types s typed q c limits r comes m is =
    let h = served_event (Pop limits) (get s.chans c) r comes in
    first_fits types c limits h.0.queue m (typed.queues c h.0 h.1) (sym (ap (λ (r : Reply Proc). r.message) h.3) ∙ is)

-- Children.

module _ (Fact : Proc → Type 0) (m : Procs Proc) (known : (k : Place) (x : Proc) → get m k ≡ Some x → has_ended x ≡ true → Fact x) where
  gathered_known : (q : Place) (b i n : ℕ) (xs : List Proc) → gathered has_ended m q b i n ≡ Some xs → AllIn Fact xs
  gathered_known q b i zero xs e = subst (AllIn Fact) (the_value [] xs e) tt
  gathered_known q b i (suc n) xs e =
      let g = first_gathered has_ended m q b i n xs e in
      subst (AllIn Fact) g.all (known (child q b i) g.head g.is g.done, gathered_known q b (suc i) n g.tail g.others)

-- each child that is joined stands in the state, and has ended
pub children_known : (p : Program) (s : State Proc) (Fact : Proc → Type 0) → ((k : Place) (x : Proc) → get s.procs k ≡ Some x → has_ended x ≡ true → Fact x)
    → (q : Place) (block count : ℕ) (r : Reply Proc) → ComesIn (language p) s q (Children block count) r → AllIn Fact r.children
children_known p s Fact known q block count r comes =
    let g = served_children has_ended s.procs s.chans q block count r comes in
    subst (λ (r : Reply Proc). AllIn Fact r.children) g.2 (gathered_known Fact s.procs known q block 1 count g.0 g.1)
