-- What a receive gets of what has arrived, and what becomes of the channel.
use Rattle.std.proofs.Common.{◌≡◌, Bool, true, false, cond, not, List, [], Option, Some, None, map, refl, sym, ap, ◌∙◌}
use Rattle.std.specs.FinMap.{get, insert}
use Rattle.std.specs.Prelude.{ℕ, ℤ, is_some, option_and_then}
use Rattle.fm_base.specs.Channels.{Limits, Message, Pop, Push, Words, fits_limits}
use Rattle.fm_base.specs.declared.path.ChanName.{ChanName}
use Rattle.fm_finmap.specs.Changes.{adjust, adjust_found}
use Rattle.fm_finmap.proofs.Inserts.{insert_same}
use Rattle.fm_finmap.proofs.Keys.{channel_order}
use Rattle.fm_finmap.proofs.Rows.{some_same}
use Rattle.fm_link.specs.Ends.{first_of}
use Rattle.fm_link.specs.declared.load.Load.{Load}
use Rattle.fm_link.specs.declared.load.Load.TheVariants as load
use Rattle.fm_link_law.specs.Channels.{LinkedChan, LinkedChans, op_done, taken_from}
use Rattle.fm_link_law.specs.Steps.{reply_to_receive, served_here, served_there}
use Rattle.fm_net.specs.Machine.{Place, Procs, Event, Reply, reply_with}
use Rattle.fm_nodes_network.specs.Channel.{with_first_taken}
use Rattle.fm_nodes_procs.specs.Asks.{came_with}
use Rattle.fm_nodes_hosts.specs.Receipts.{takes_of}

-- a load gives a reply
pub replies : {Proc : Type 0} (limits : Limits) (d : Load) → (r : Reply Proc) × (reply_to_receive limits (Some d) ≡ Some r)
replies limits (load.Words ws) = (record { message = cond (fits_limits limits (map Words ws)) (Some (map Words ws)) None; exceeds = not (fits_limits limits (map Words ws)); waits = false; children = [] }, refl)
replies limits load.Close = (record { message = None; exceeds = false; waits = false; children = [] }, refl)

module _ (limits : Limits) (ls : LinkedChans) (c : ChanName) (l : LinkedChan) (there : get ls c ≡ Some l) where
  takes_so : (d : Load) → taken_from limits (Some d) l ≡ cond (takes_of limits d) (with_first_taken l) l
  takes_so (load.Words ws) = refl
  takes_so load.Close = refl

  -- the channel is without the load, if it is taken
  pub after_receive : (d : Load) → first_of l.incoming ≡ Some d → (takes : Bool) → takes ≡ takes_of limits d → cond takes (adjust ls c with_first_taken) ls ≡ adjust ls c (op_done (Pop limits))
  unfolding adjust
  after_receive d first takes is =
      let done : op_done (Pop limits) l ≡ cond takes (with_first_taken l) l = ap (λ o. taken_from limits o l) first ∙ takes_so d ∙ ap (λ b. cond b (with_first_taken l) l) (sym is) in
      go takes
      ∙ ap (insert ls c) (sym done) ∙ ap (adjust_found ls c (op_done (Pop limits))) (sym there)
    where
      go : (b : Bool) → cond b (adjust ls c with_first_taken) ls ≡ insert ls c (cond b (with_first_taken l) l)
      go true = ap (adjust_found ls c with_first_taken) there
      go false = sym (insert_same channel_order ls c l there)

-- what has arrived at a channel and wasn't taken, the oldest load of it
abbrev pub arrived_at : Option LinkedChan → Option Load
arrived_at o = option_and_then (λ (l : LinkedChan). first_of l.incoming) o

module _ {Proc : Type 0} (limits : Limits) (ls : LinkedChans) (c : ChanName) (o : Option Load) (arrived : o ≡ arrived_at (get ls c)) (has_ended : Proc → Bool) (m : Procs Proc) (p : Place) where
  -- a receive is served by what has arrived
  pub served_so : served_here has_ended m ls p (Event c (Pop limits)) ≡ reply_to_receive limits o
  served_so = go (get ls c) ∙ ap (reply_to_receive limits) (sym arrived)
    where
      go : (q : Option LinkedChan) → served_there {Proc = Proc} (Pop limits) q ≡ reply_to_receive limits (arrived_at q)
      go None = refl
      go (Some l) = refl

module _ (limits : Limits) (ls : LinkedChans) (c : ChanName) where
  -- and the channel is without it, if it is taken
  pub received : (d : Load) → Some d ≡ arrived_at (get ls c) → (takes : Bool) → takes ≡ takes_of limits d → cond takes (adjust ls c with_first_taken) ls ≡ adjust ls c (op_done (Pop limits))
  received d arrived takes is = go (get ls c) refl arrived
    where
      go : (q : Option LinkedChan) → get ls c ≡ q → Some d ≡ arrived_at q → cond takes (adjust ls c with_first_taken) ls ≡ adjust ls c (op_done (Pop limits))
      go None there e = absurd (cc e)
      go (Some l) there e = after_receive limits ls c l there d (sym e) takes is

module _ {Proc : Type 0} (limits : Limits) (r : Reply Proc) where
  -- a message that is within the limits comes
  pub comes : (ws : List (List ℤ)) → fits_limits limits (map Words ws) ≡ true → reply_to_receive limits (Some (load.Words ws)) ≡ Some r → came_with (Some ws) false ≡ r
  comes ws fits reply =
      some_same _ _ (ap (λ (b : Bool). Some (record { message = cond b (Some (map Words ws)) None; exceeds = not b; waits = false; children = [] })) (sym fits) ∙ reply)

  -- one that exceeds them is told
  pub exceeds : (ws : List (List ℤ)) → fits_limits limits (map Words ws) ≡ false → reply_to_receive limits (Some (load.Words ws)) ≡ Some r → came_with None true ≡ r
  exceeds ws beyond reply =
      some_same _ _ (ap (λ (b : Bool). Some (record { message = cond b (Some (map Words ws)) None; exceeds = not b; waits = false; children = [] })) (sym beyond) ∙ reply)

  -- and so is the end
  pub ends : reply_to_receive limits (Some load.Close) ≡ Some r → came_with None false ≡ r
  ends reply = some_same _ _ reply

-- a message goes to a channel that is there
pub sends_there : {Proc : Type 0} (ls : LinkedChans) (c : ChanName) (w : ℕ) (m : Message) → is_some (get ls c) ≡ true → (has_ended : Proc → Bool) (procs : Procs Proc) (p : Place) → served_here has_ended procs ls p (Event c (Push w m)) ≡ Some (reply_with [])
sends_there {Proc} ls c w m there has_ended procs p = go (get ls c) there
  where
    go : (o : Option LinkedChan) → is_some o ≡ true → served_there {Proc = Proc} (Push w m) o ≡ Some (reply_with [])
    go None e = absurd (cc e)
    go (Some l) e = refl

pub sends_nowhere : {Proc : Type 0} (ls : LinkedChans) (c : ChanName) (w : ℕ) (m : Message) → is_some (get ls c) ≡ false → (has_ended : Proc → Bool) (procs : Procs Proc) (p : Place) → served_here has_ended procs ls p (Event c (Push w m)) ≡ None
sends_nowhere {Proc} ls c w m none has_ended procs p = go (get ls c) none
  where
    go : (o : Option LinkedChan) → is_some o ≡ false → served_there {Proc = Proc} (Push w m) o ≡ None
    go None e = refl
    go (Some l) e = absurd (cc e)
