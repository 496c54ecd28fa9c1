-- At which channel a process waits, by what it does next, and whose children are joined.
use Rattle.std.proofs.Common.{◌≡◌, ℕ, true, false, Option, Some, None, refl, sym, ap, ◌∙◌}
use Rattle.std.specs.Prelude.{IfSome, is_some}
use Rattle.std.specs.FinMap.{contains_key, get}
use Rattle.fm_base.specs.declared.path.ChanName.{ChanName}
use Rattle.fm_base.specs.Channels.{Limits, Push, Pop, Look}
use Rattle.fm_net.specs.Machine.{Place, State, Need, Nothing, Event, New, Children, Reply, Onward, Ask, Stop, Go}
use Rattle.fm_net.specs.Owned.{IsOwned}
use Rattle.fm_net.proofs.Holders.{event_channel}
use Rattle.fm_net_procs.specs.Kept.{count_awaited}
use Rattle.fm_net_procs.specs.Waiting as table
use Rattle.fm_rules.specs.declared.program.Program.{Program}
use Rattle.fm_mean.specs.Actions.{Meets as Stops, action_of}
use Rattle.fm_mean.specs.Process.{Proc}
use Rattle.fm_mean.specs.Outcome.{need_in, need_of}
use Rattle.fm_mean.specs.Steps.{ask, language}
use Rattle.fm_mean.proofs.Lawful.{lawful}
use Rattle.fm_plain.specs.Looking.{IsNext, is_free, waits_in}
use Rattle.fm_plain.specs.declared.event.Event as plain
use Rattle.fm_plain.specs.declared.event.Event.TheVariants as event
use Rattle.fm_plain.specs.declared.looking.Next.{Next}
use Rattle.fm_plain.specs.declared.looking.Next.TheVariants as next
use Rattle.fm_plain.specs.Events.{event_by}
use Rattle.fm_run.specs.Programs.{has_local}
use Rattle.fm_plain_net.specs.Goes.{MeetsIt}
use Rattle.fm_run.specs.Awaited.{awaits}
use Rattle.fm_plain_net.specs.Waited.{channel_received, event_in}
use Rattle.fm_plain_net.proofs.Doing.{join_at}
use Rattle.fm_plain_net.proofs.Families.{joined_family, kids_awaited}
use Rattle.fm_plain_net.proofs.Letting.{event_shared}
use Rattle.fm_run.proofs.Programs.{need_is}
use Rattle.fm_plain_net.proofs.Waiting.{join_need, receive_need}

abbrev waited_in : Next → Option ChanName
waited_in next.Steps = None
waited_in next.Rests = None
waited_in (next.Meets e) = channel_received e

module _ (program : Program) (x : Proc) where
  pub needed : table.need_of (language program) x ≡ need_of program x
  needed = sym (need_is (ask program x))

  -- ---- what is told

  -- who does an event next stands at it
  pub meets_next : (n : Next) → IsNext program x n → IfSome (event_in n) (λ e. MeetsIt program x e)
  meets_next next.Steps told = tt
  meets_next next.Rests told = tt
  meets_next (next.Meets e) told = told.0

  -- and that concerns others
  pub shared_next : (n : Next) → IsNext program x n → IfSome (event_in n) (λ e. MeetsIt program x e × (has_local program x ≡ false))
  shared_next next.Steps told = tt
  shared_next next.Rests told = tt
  shared_next (next.Meets e) told = (told.0, ap is_some (event_shared program x (event_by x.phase e) told.0.0))

  -- ---- where it waits

  free_channel : (o : Option Need) → is_free o ≡ true → table.channel_needed o ≡ None
  free_channel None e = refl
  free_channel (Some Nothing) e = refl
  free_channel (Some (Event c (Push w message))) e = refl
  free_channel (Some (Event c (Pop limits))) e = absurd (cc e)
  free_channel (Some (Event c Look)) e = refl
  free_channel (Some (New n writers)) e = refl
  free_channel (Some (Children b n)) e = refl

  waits_at : (e : plain.Event) → action_of program x ≡ Stops (event_by x.phase e) → waits_in e ≡ true → channel_received e ≡ table.channel_needed (need_of program x)
  waits_at (event.Fail line fault) does waits = absurd (cc waits)
  waits_at (event.Make places writers cost next) does waits = absurd (cc waits)
  waits_at (event.Send channel writer items next) does waits = absurd (cc waits)
  waits_at (event.Receive channel line items iostat at_end next) does waits = sym (ap table.channel_needed (receive_need program x channel line.0 items iostat at_end next does))
  waits_at (event.Probe channel empty next) does waits = absurd (cc waits)
  waits_at event.Begin does waits = absurd (cc waits)
  waits_at (event.Join block count next) does waits = sym (ap table.channel_needed (join_need program x block next (join_at program x (event.Join block count next) block count next refl does)))
  waits_at event.End does waits = absurd (cc waits)

  -- the channel at which it waits
  channel_next : (n : Next) → IsNext program x n → waited_in n ≡ table.channel_waited (language program) x
  channel_next next.Steps told = sym (ap table.channel_needed needed ∙ free_channel (need_of program x) told)
  channel_next next.Rests told = sym (ap table.channel_needed needed ∙ ap table.channel_needed told)
  channel_next (next.Meets e) told = waits_at e told.0.0 told.1 ∙ sym (ap table.channel_needed needed)

  pub steps_channel : IsNext program x next.Steps → None ≡ table.channel_waited (language program) x
  steps_channel told = channel_next next.Steps told

  pub rests_channel : IsNext program x next.Rests → None ≡ table.channel_waited (language program) x
  rests_channel told = channel_next next.Rests told

  pub meets_channel : (e : plain.Event) → IsNext program x (next.Meets e) → channel_received e ≡ table.channel_waited (language program) x
  meets_channel e told = channel_next (next.Meets e) told

  -- ---- joins

  -- who stands at a join needs the children for which it waits
  pub joins_block : (e : plain.Event) (block count next : ℕ) → e ≡ event.Join block count next → MeetsIt program x e → table.JoinsBlock (language program) awaits x
  joins_block e block count next is meets =
      let does = join_at program x e block count next is meets.0 in
      record {
        block = block;
        needs = needed ∙ join_need program x block next does ∙ ap (λ (n : ℕ). Some (Children block n)) (sym (kids_awaited x.phase));
        family = λ places first q family. joined_family program x block next does places first q family (count_awaited (awaits x)) (kids_awaited x.phase);
      }

-- ---- the channel is there

asks_so : (k : Ask Proc) (need : Need) → need_in k ≡ Some need → (f : ChanName → Reply Proc → Onward Proc) × (k ≡ Go need f)
asks_so Stop need e = absurd (cc e)
asks_so (Go n f) need e = let same : n ≡ need = cc e in (f, ap (λ m. Go m f) same)

popped : (o : Option Need) (c : ChanName) → table.channel_needed o ≡ Some c → (limits : Limits) × (o ≡ Some (Event c (Pop limits)))
popped None c e = absurd (cc e)
popped (Some Nothing) c e = absurd (cc e)
popped (Some (Event d (Push w message))) c e = absurd (cc e)
popped (Some (Event d (Pop limits))) c e = let same : d ≡ c = cc e in (limits, ap (λ (v : ChanName). Some (Event v (Pop limits))) same)
popped (Some (Event d Look)) c e = absurd (cc e)
popped (Some (New n writers)) c e = absurd (cc e)
popped (Some (Children b n)) c e = absurd (cc e)

pub waited_there : (program : Program) (s : State Proc) → IsOwned (language program) s → (p : Place) (x : Proc) → get s.procs p ≡ Some x → (c : ChanName) → table.channel_waited (language program) x ≡ Some c → contains_key s.chans c ≡ true
waited_there program s owned p x is c waited =
    let needs = popped (need_of program x) c (sym (ap table.channel_needed (needed program x)) ∙ waited) in
    let k = asks_so (ask program x) (Event c (Pop needs.0)) needs.1 in
    ap is_some (event_channel (language program) s owned (lawful program) p x c (Pop needs.0) k.0 is k.1).1

-- who needs a message waits at its channel
pub need_waited : (program : Program) (x : Proc) (c : ChanName) (limits : Limits) → table.need_of (language program) x ≡ Some (Event c (Pop limits)) → table.channel_waited (language program) x ≡ Some c
need_waited program x c limits need = ap table.channel_needed need
