-- Who is noted at the channel where it waits is so in what is run.
use Rattle.std.proofs.Common.{◌≡◌, ℕ, true, Some, refl, sym, ap, ◌∙◌}
use Rattle.std.specs.Prelude.{is_some}
use Rattle.std.specs.FinMap.{contains_key, get}
use Rattle.fm_base.specs.declared.path.ChanName.{ChanName}
use Rattle.fm_base.specs.Channels.{Chan, Look, Pop, Push}
use Rattle.fm_chan.specs.declared.channels.Channels.{Channels}
use Rattle.fm_net.specs.Correspondence.{StandsFor}
use Rattle.fm_net.specs.Machine.{Ask, Children, Event, Go, New, Nothing, Place, State, Stop}
use Rattle.fm_net.proofs.Holders.{event_channel}
use Rattle.fm_proc_language.specs.Needs as code
use Rattle.fm_proc_language.specs.Processes.{CodeProc}
use Rattle.fm_procs.specs.Waiting as code_waiting
use Rattle.fm_procs.specs.Waiting.{channel_needed, channel_waited}
use Rattle.fm_run.specs.Noted as run
use Rattle.fm_run.specs.Plays.{Play, ask, language, need_in, need_of}
use Rattle.fm_run_code.specs.Coded.{IsCoded}

module _ (p : Play) (Corresponds : CodeProc → p.Proc → Type 0) (IsLive : State p.Proc → Type 0) (coded : IsCoded p Corresponds IsLive) (s : State p.Proc) (t : State CodeProc) (stands : StandsFor Corresponds IsLive t s) (q : Place) (x : p.Proc) (is : get s.procs q ≡ Some x) (y : CodeProc) (same : Corresponds y x) where
  one_need : code.need_of y ≡ need_of p x
  one_need = coded.needs s stands.live q x y is same

  pub noted_alike : (channels : Channels) (number : ℕ) → code_waiting.IsNoted channels number y → run.IsNoted p channels number x
  noted_alike channels number noted c limits needs = noted c (ap channel_needed (one_need ∙ needs))

  -- the channel at which it waits is there
  asked_there : (c : ChanName) → (k : Ask p.Proc) → ask p x ≡ k → channel_needed (need_in k) ≡ Some c → (ch : Chan) × (get s.chans c ≡ Some ch)
  asked_there c Stop asks e = absurd (cc e)
  asked_there c (Go Nothing f) asks e = absurd (cc e)
  asked_there c (Go (Event d (Push w m)) f) asks e = absurd (cc e)
  asked_there c (Go (Event d (Pop limits)) f) asks e =
      let ch = event_channel (language p) s (coded.owned s stands.live) (coded.lawful s stands.live).lawful q x d (Pop limits) f is asks in
      (ch.0, ap (get s.chans) (the_channel c d e) ∙ ch.1)
    where
      the_channel : (c d : ChanName) → Some d ≡ Some c → c ≡ d
      the_channel c d e = cc e
  asked_there c (Go (Event d Look) f) asks e = absurd (cc e)
  asked_there c (Go (New n writers) f) asks e = absurd (cc e)
  asked_there c (Go (Children b n) f) asks e = absurd (cc e)

  pub waited_there : (c : ChanName) → channel_waited y ≡ Some c → contains_key t.chans c ≡ true
  waited_there c waits =
      let ch = asked_there c (ask p x) refl (sym (ap channel_needed one_need) ∙ waits) in
      ap (λ m. is_some (get m c)) stands.chans ∙ ap is_some ch.1
