-- Whether a process has a step in the meaning, by what it needs.
use Rattle.std.proofs.Common.{◌≡◌, ℕ, Bool, true, false, cond, Option, Some, None, option_map, List, [], ◌∷◌, refl, sym, ap, ◌∙◌}
use Rattle.std.specs.Prelude.{is_some, IfNone, IfSome}
use Rattle.std.specs.FinMap.{get}
use Rattle.fm_base.specs.declared.path.ChanName.{ChanName}
use Rattle.fm_base.specs.Channels.{Limits, Message, Push, Pop, Look, can_pop}
use Rattle.fm_finmap.proofs.Maps.{get-map_values}
use Rattle.fm_net.specs.Machine.{Place, Need, Nothing, Event, New, Children, Ask, Stop, Go, act, act_of, finished, gathered, going, made, reply_with, served, served_at}
use Rattle.fm_net.specs.Language.{Language, language_step}
use Rattle.fm_link.specs.declared.load.Load.{Load}
use Rattle.fm_link_law.specs.Channels.{LinkedChan, chan_of, chans_of, loads_left}
use Rattle.fm_link_law.specs.Hosts as plain
use Rattle.fm_link_law.specs.Hosts.{Hosts, state_of}
use Rattle.fm_link_law.specs.Steps.{IsPlainAsk, IsPlainAt, IsPlainNeed}
use Rattle.fm_link_law.proofs.Resting.{can_where_left}
use Rattle.fm_link_law.proofs.Resting as rests
use Rattle.fm_nodes_network.specs.Channel.{is_left_at, is_some_left}
use Rattle.fm_nodes_procs.specs.Asks.{need_asked}
use Rattle.fm_nodes_hosts.specs.Resting.{steps_by}

is_some_map : {A B : Type 0} (f : A → B) (o : Option A) → is_some (option_map f o) ≡ is_some o
is_some_map f None = refl
is_some_map f (Some x) = refl

some_if : {A : Type 0} (b : Bool) (x : A) → is_some (cond b (Some x) None) ≡ b
some_if true x = refl
some_if false x = refl

left_same : (xs : List Load) → rests.is_some_left xs ≡ is_some_left xs
left_same [] = refl
left_same (x ∷ xs) = refl

module _ {Proc : Type 0} (language : Language Proc) (h : Hosts Proc) (sound : plain.IsSound h) (q : Place) where
  at_channel : (c : ChanName) → get (chans_of h.channels) c ≡ option_map chan_of (get h.channels c)
  at_channel c = get-map_values chan_of h.channels c

  pushes : (c : ChanName) (w : ℕ) (m : Message) (o : Option LinkedChan) → is_some (served_at {Proc = Proc} (Push w m) (option_map chan_of o)) ≡ is_some o
  pushes c w m None = refl
  pushes c w m (Some l) = refl

  pops : (c : ChanName) (limits : Limits) (o : Option LinkedChan) → get h.channels c ≡ o → ((l : LinkedChan) → o ≡ Some l → l.lives ≡ true) → is_some (served_at {Proc = Proc} (Pop limits) (option_map chan_of o)) ≡ is_left_at o
  pops c limits None is lives = refl
  pops c limits (Some l) is lives =
      some_if (can_pop (chan_of l).queue (chan_of l).writers) _
      ∙ can_where_left l (sound.channels c l is) (lives l refl)
      ∙ left_same (loads_left l)

  -- what is needed can be had
  had : (need : Need) → IsPlainNeed h.channels q need → is_some (served language.has_ended h.procs (chans_of h.channels) q need) ≡ steps_by language.has_ended h q (Some need)
  had Nothing p = refl
  had (Event c (Push w m)) p = ap (λ o. is_some (served_at {Proc = Proc} (Push w m) o)) (at_channel c) ∙ pushes c w m (get h.channels c)
  had (Event c (Pop limits)) p = ap (λ o. is_some (served_at {Proc = Proc} (Pop limits) o)) (at_channel c) ∙ pops c limits (get h.channels c) refl p
  had (Event c Look) p = absurd p
  had (New n k) p = refl
  had (Children b n) p = is_some_map reply_with (gathered language.has_ended h.procs q b 1 n)

  by_ask : (a : Ask Proc) → IsPlainAsk language h q a → is_some (option_map (finished {Proc = Proc}) (act language.ask language.has_ended language.emptied h.procs (chans_of h.channels) q a)) ≡ steps_by language.has_ended h q (need_asked a)
  by_ask Stop p = refl
  by_ask (Go need f) p =
      is_some_map finished (option_map (λ r. going language.emptied h.procs (chans_of h.channels) q need (f (made q need) r)) (served language.has_ended h.procs (chans_of h.channels) q need))
      ∙ is_some_map (λ r. going language.emptied h.procs (chans_of h.channels) q need (f (made q need) r)) (served language.has_ended h.procs (chans_of h.channels) q need)
      ∙ had need p.0

  -- who is there has a step where what he asks for can be had
  pub can_there : IsPlainAt language h q → (x : Proc) → get h.procs q ≡ Some x → is_some (language_step language (state_of h) q) ≡ steps_by language.has_ended h q (need_asked (language.ask x))
  can_there plain x is =
      ap (λ o. is_some (option_map finished (act_of language.ask language.has_ended language.emptied h.procs (chans_of h.channels) q o))) is
      ∙ by_ask (language.ask x) (plain x is)

-- nobody has none
pub nobody_there : {Proc : Type 0} (language : Language Proc) (h : Hosts Proc) (q : Place) → get h.procs q ≡ None → language_step language (state_of h) q ≡ None
nobody_there language h q is = ap (λ o. option_map finished (act_of language.ask language.has_ended language.emptied h.procs (chans_of h.channels) q o)) is

pub none_of : {A : Type 0} (o : Option A) → false ≡ is_some o → o ≡ None
none_of None e = refl
none_of (Some x) e = absurd (cc e)

pub some_of : {A : Type 0} (o : Option A) → true ≡ is_some o → o ≡ None → ⊥
some_of o e is = cc (e ∙ ap is_some is)

pub kids_there : {A B : Type 0} (o : Option A) (g : Option B) → IfSome o (λ v. (kids : B) × (g ≡ Some kids)) → IfNone o (g ≡ None) → is_some o ≡ is_some g
kids_there None g some none = ap is_some (sym none)
kids_there (Some v) g some none = ap is_some (sym some.1)

-- nothing is there where nothing can be
pub final_at : {A : Type 0} (o : Option A) → ((o ≡ None → ⊥) → o ≡ None) → o ≡ None
final_at None h = refl
final_at (Some x) h = h (λ e. cc e)
