-- What a process that can step finds there.
use Rattle.std.proofs.Common.{◌≡◌, true, Option, Some, None, List, refl, sym, ap, ◌∙◌, arith}
use Rattle.fm_finmap.specs.Sums.{value_or_zero}
use Rattle.std.specs.Prelude.{is_some}
use Rattle.std.specs.FinMap.{get}
use Rattle.fm_base.specs.Channels.{Chan, Push, Pop, Look}
use Rattle.fm_net.specs.Machine.{Place, State, Need, Nothing, Event, New, Children}
use Rattle.fm_net.specs.Owned.{IsOwned, name_of, present}
use Rattle.fm_rules.specs.declared.program.Program.{Program}
use Rattle.fm_mean.specs.Process.{Proc}
use Rattle.fm_mean.specs.Outcome.{need_of}
use Rattle.fm_mean.specs.Steps.{ask, language, step}
use Rattle.fm_plain.specs.Looking.{is_free}
use Rattle.fm_plain_net.specs.Goes.{is_served, joined_in, kids_by}
use Rattle.fm_run.specs.Programs.{play_of}
use Rattle.fm_run.proofs.Programs.{law_of, need_is}
use Rattle.fm_run.proofs.Able as able
use Rattle.fm_net_procs.proofs.Steps.{some_map}
use Rattle.fm_run.proofs.Able.{is_served_at, steps_served}

-- a need that waits for nobody, told in two ways
same_free : (o : Option Need) → is_free o ≡ able.is_free o
same_free None = refl
same_free (Some Nothing) = refl
same_free (Some (Event c (Push w m))) = refl
same_free (Some (Event c (Pop limits))) = refl
same_free (Some (Event c Look)) = refl
same_free (Some (New n writers)) = refl
same_free (Some (Children b n)) = refl

some_kids : (o : Option (List Proc)) → is_some o ≡ true → (kids : List Proc) × (o ≡ Some kids)
some_kids None e = absurd (cc e)
some_kids (Some kids) e = (kids, refl)

module _ (program : Program) (s : State Proc) (p : Place) where
  module _ (x : Proc) (is : get s.procs p ≡ Some x) where
    pub steps_freely : IsOwned (language program) s → is_free (need_of program x) ≡ true → is_some (step program s p) ≡ true
    steps_freely owned is_so = able.steps_freely (play_of program) s p x is (law_of program) owned (sym (ap able.is_free (need_is (ask program x))) ∙ sym (same_free (need_of program x)) ∙ is_so)

    served_from : (o : Option Need) → is_served_at (play_of program) s p o ≡ true → is_served s.chans o ≡ true
    served_from None can = can
    served_from (Some Nothing) can = refl
    served_from (Some (Event c a)) can = can
    served_from (Some (New n writers)) can = refl
    served_from (Some (Children b n)) can = refl

    -- a process that can step has what it needs of the channels
    pub served_there : is_some (step program s p) ≡ true → is_served s.chans (need_of program x) ≡ true
    served_there can = served_from (need_of program x) (ap (is_served_at (play_of program) s p) (need_is (ask program x)) ∙ sym (steps_served (play_of program) s p x is) ∙ can)

    kids_from : (o : Option Need) → is_served_at (play_of program) s p o ≡ true → is_some (kids_by s.procs p (joined_in o)) ≡ true
    kids_from None can = absurd (cc can)
    kids_from (Some Nothing) can = refl
    kids_from (Some (Event c a)) can = refl
    kids_from (Some (New n writers)) can = refl
    kids_from (Some (Children b n)) can = sym (some_map _ _) ∙ can

    -- and of its children
    pub kids_there : is_some (step program s p) ≡ true → (kids : List Proc) × (kids_by s.procs p (joined_in (need_of program x)) ≡ Some kids)
    kids_there can = some_kids (kids_by s.procs p (joined_in (need_of program x))) (kids_from (need_of program x) (ap (is_served_at (play_of program) s p) (need_is (ask program x)) ∙ sym (steps_served (play_of program) s p x is) ∙ can))

    -- no channel has the number of its next one
    pub fresh_there : IsOwned (language program) s → get s.chans (name_of p x.next_channel) ≡ None
    fresh_there owned = go (get s.chans (name_of p x.next_channel)) refl
      where
        go : (o : Option Chan) → get s.chans (name_of p x.next_channel) ≡ o → o ≡ None
        go None e = refl
        go (Some ch) e = absurd (omega (arith, owned.named p x.next_channel (omega (arith, ap present e)), ap (value_or_zero (λ (y : Proc). y.next_channel)) is))
