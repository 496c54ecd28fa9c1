-- In a lawful language what a process makes next is new.
use Rattle.std.proofs.Common.{◌≡◌, ℕ, Option, Some, None, replicate, refl, ap, subst, arith}
use Rattle.std.specs.FinMap.{get}
use Rattle.fm_base.specs.Channels.{Chan}
use Rattle.fm_finmap.specs.Sums.{value_or_zero}
use Rattle.fm_sched.specs.Schedule.{play}
use Rattle.fm_net.specs.Language.{Language, language_step}
use Rattle.fm_net.specs.Lawful.{IsLawfulAsk, IsLawfulLanguage, Numbered}
use Rattle.fm_net.specs.Machine.{Place, State, Ask, Need, New, Stop, Go, child}
use Rattle.fm_net.specs.Owned.{IsOwned, name_of, present}
use Rattle.fm_net.proofs.Laws.{owned_throughout}
use Rattle.fm_net_procs.specs.Pieces.{IsNewAlong, IsNewAt}
use Rattle.fm_net_procs.specs.Waiting.{need_in, need_of}

module _ {X : Type 0} (language : Language X) (lawful : IsLawfulLanguage language) where
  -- the number of a channel that is made is that of the next one
  numbered : (y : X) (number writers : ℕ) → need_of language y ≡ Some (New number writers) → number ≡ language.next_channel y
  numbered y number writers = go (language.ask y) (lawful.goes y)
    where
      go : (k : Ask X) → IsLawfulAsk language y k → need_in k ≡ Some (New number writers) → number ≡ language.next_channel y
      go Stop law e = absurd (cc e)
      go (Go need f) law e =
          let same : need ≡ New number writers = cc e in
          subst (λ (n : Need). Numbered (language.next_channel y) n) same law.numbered

  module _ (s : State X) (owned : IsOwned language s) (p : Place) (y : X) (is : get s.procs p ≡ Some y) where
    absent_channel : (number : ℕ) → number ≡ language.next_channel y → get s.chans (name_of p number) ≡ None
    absent_channel number next = go (get s.chans (name_of p number)) refl
      where
        go : (o : Option Chan) → get s.chans (name_of p number) ≡ o → o ≡ None
        go None e = refl
        go (Some ch) e = absurd (omega (arith, owned.named p number (omega (arith, ap present e)), ap (value_or_zero language.next_channel) is, next))

    absent_child : (i : ℕ) → get s.procs (child p (language.next_block y) i) ≡ None
    absent_child i = go (get s.procs (child p (language.next_block y) i)) refl
      where
        go : (o : Option X) → get s.procs (child p (language.next_block y) i) ≡ o → o ≡ None
        go None e = refl
        go (Some z) e = absurd (omega (arith, owned.born p (language.next_block y) i (omega (arith, ap present e)), ap (value_or_zero language.next_block) is))

  pub new_at : (s : State X) → IsOwned language s → (p : Place) → IsNewAt language s p
  new_at s owned p = record {
    channel = λ y is number writers needs. absent_channel s owned p y is number (numbered y number writers needs);
    children = λ y is i. absent_child s owned p y is i;
  }

  pub new_along : (s : State X) → IsOwned language s → (p : Place) → IsNewAlong language s p
  new_along s owned p k legal = new_at (play (language_step language) s (replicate k p)) (owned_throughout language lawful s owned (replicate k p) legal) p
