-- A child of a safe program goes on as one: it makes and starts nothing, holds ports of its call alone, sends none, and keeps no
-- outport when it has ended.
use Rattle.std.proofs.Common.{◌≡◌, ℕ, ◌≤◌, true, false, [], refl, sym, ap, ◌∙◌, subst, arith}
use Rattle.fm_base.specs.declared.path.ChanName.{ChanName}
use Rattle.fm_base.specs.declared.port.PortValue.{PortValue}
use Rattle.fm_base.specs.declared.port.PortValue.TheVariants.{Writer}
use Rattle.fm_base.specs.Channels.{Push, Pop, Look, channel_of}
use Rattle.fm_tree.specs.PortFields.{PortFields}
use Rattle.fm_net.specs.Machine.{Need, Nothing, New, Children, Reply, Onward, Ask, Stop, Go}
use Rattle.fm_net.specs.Machine as net
use Rattle.fm_net.specs.Owned.{count}
use Rattle.fm_net.specs.Lawful.{IsLawfulAsk, IsLawfulStep, MayBring, given_by, got, Uses}
use Rattle.fm_net.specs.Typed.{AllIn, SentFits, CameFits, MadeFits, IsTypedAsk, IsTypedStep}
use Rattle.fm_rules.specs.declared.program.Program.{Program}
use Rattle.fm_mean.specs.Fits.{Types, Fits, IsFine, variables_of}
use Rattle.fm_mean.specs.Process.{Proc, is_ended, has_ended, held}
use Rattle.fm_mean.specs.Actions.{action_of}
use Rattle.fm_mean.specs.Steps.{ask, language}
use Rattle.fm_mean.specs.TypedTrees.{HasTypes}
use Rattle.fm_mean.proofs.Lawful.{lawful}
use Rattle.fm_mean.proofs.TypedTrees.{typed_program}
use Rattle.fm_mean.proofs.TypedLanguage.{typed_language}
use Rattle.fm_flow_law.specs.Pipes.{IsChildNeed}
use Rattle.fm_flow_law.specs.Flow.{Makes, sends_ports, keeps_outport}
use Rattle.fm_flow_law.proofs.Inside.{IsInside, IsLoneAsk, IsLoneStep, stays_inside}
use Rattle.fm_flow_law.proofs.Fewer.{holds_no_more}
use Rattle.fm_flow_law.proofs.Kids.{message_bare, ended_holds_none, EndsByFrames, ends_by_frames}

-- `Has` says which ports are of the child's call, by the labels of their channels
module _ (p : Program) (root : ℕ) (Has : PortValue → Type 0) where
  pub record IsKid (types : Types) (x : Proc) : Type 0 where
    pub fine : IsFine p types x
    pub inside : IsInside p root x
    pub simple : (z : PortValue) → 1 ≤ count z (held x) → sends_ports (types (channel_of z)) ≡ false
    pub has : (z : PortValue) → 1 ≤ count z (held x) → Has z
    pub gives_none : has_ended x ≡ true → (c : ChanName) (w : ℕ) → count (Writer c w) (held x) ≡ 0

  -- no children come where none are asked for
  pub record KidGets (types : Types) (need : Need) (r : Reply Proc) : Type 0 where
    pub may : MayBring need r
    pub came : CameFits (language p) (IsFine p) Fits types need r.message
    pub bare : (z : PortValue) → count z (got r.message) ≡ 0
    pub none : r.children ≡ []

  made_none : (types : Types) (need : Need) (c : ChanName) (t : PortFields) → IsChildNeed need → MadeFits (language p) (IsFine p) Fits types need c t
  made_none types Nothing c t h = tt
  made_none types (net.Event d a) c t h = tt
  made_none types (New n k) c t h = absurd h
  made_none types (Children b n) c t h = tt

  sent_bare : (types : Types) (x : Proc) (need : Need) → Uses (held x) need → SentFits (language p) (IsFine p) Fits types need → ((z : PortValue) → 1 ≤ count z (held x) → sends_ports (types (channel_of z)) ≡ false) → (z : PortValue) → count z (given_by need) ≡ 0
  unfolding count
  sent_bare types x Nothing u s simple z = refl
  sent_bare types x (New n k) u s simple z = refl
  sent_bare types x (Children b n) u s simple z = refl
  sent_bare types x (net.Event c (Pop l)) u s simple z = refl
  sent_bare types x (net.Event c Look) u s simple z = refl
  sent_bare types x (net.Event c (Push w m)) u s simple z = ap (count z) (message_bare types (types c) m s (simple (Writer c w) u))

  module _ (typed : HasTypes p) (makes_none : Makes p root → ⊥) (keeps : keeps_outport (variables_of p root) ≡ false) where
    pub record KidGoes (types : Types) (x : Proc) (need : Need) (f : ChanName → Reply Proc → Onward Proc) : Type 0 where
      pub lone : IsChildNeed need
      pub sends_fit : SentFits (language p) (IsFine p) Fits types need
      pub sends_none : (z : PortValue) → count z (given_by need) ≡ 0
      pub goes_on : (c : ChanName) (r : Reply Proc) → KidGets types need r → IsKid types (f c r).self × ((f c r).starts ≡ [])

    pub kid_goes : (types : Types) (x : Proc) → is_ended x.phase ≡ false → IsKid types x → (need : Need) (f : ChanName → Reply Proc → Onward Proc) → ask p x ≡ Go need f → KidGoes types x need f
    kid_goes types x on kid need f asks = record {
      lone = lone.lone;
      sends_fit = type_step.sends types kid.fine;
      sends_none = sent_bare types x need law.uses (type_step.sends types kid.fine) kid.simple;
      goes_on = λ c r gets.
          let next = lone.goes_on c r in
          let fits = (type_step.goes_on types kid.fine c r (made_none types need c type_step.type_made lone.lone) gets.came (subst (AllIn (IsFine p types)) (sym gets.none) tt)).0 in
          let fewer = λ (z : PortValue). holds_no_more (language p) x need f law lone.lone c r gets.may gets.bare gets.none z in (
            record {
              fine = fits;
              inside = next.0;
              simple = λ z h. kid.simple z (omega (arith, fewer z, h));
              has = λ z h. kid.has z (omega (arith, fewer z, h));
              gives_none = λ done d w. ap (count (Writer d w)) (by_frames c r done) ∙ ended_holds_none p types root d w x.execution.frames kid.fine.0 kid.inside.2 keeps;
            },
            next.1,
          );
    }
      where
        lone : IsLoneStep p root need f
        lone = subst (IsLoneAsk p root) asks (stays_inside p root makes_none x kid.inside)

        law : IsLawfulStep (language p) x need f
        law = subst (IsLawfulAsk (language p) x) asks ((lawful p).goes x)

        type_step : IsTypedStep (language p) (IsFine p) Fits x need f
        type_step = subst (IsTypedAsk (language p) (IsFine p) Fits x) asks ((typed_language p (typed_program p typed)).goes x)

        by_frames : EndsByFrames p x (Go need f)
        by_frames = subst (EndsByFrames p x) asks (ends_by_frames p x on (action_of p x))
