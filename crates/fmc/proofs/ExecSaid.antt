-- What follows from what `exec` says.
use Rattle.std.proofs.Common.{◌≡◌, ◌⊎◌, inl, inr, ℕ, ◌<◌, Bool, List, length, refl, arith}
use Rattle.std.specs.Prelude.{codes}
use Rattle.fm_base.specs.declared.schedule.Turn.{Turn}
use Rattle.fm_net.specs.Machine.{Place}
use Rattle.fm_object.specs.declared.image.Image.{Image}
use Rattle.fm_object.specs.Texts.{IsObjectText}
use Rattle.fm_object.proofs.MalformedLaws.{no_line_of_an_object}
use Rattle.fm_image_typed.specs.Typed.{Typed}
use Rattle.fm_execute.specs.declared.fail.ExecuteFail.TheVariants as fails
use Rattle.fm_execute_image.specs.Executed.{IsUnverified}
use Rattle.fm_execute.proofs.Refusals.{refused_never}
use Rattle.fmc.specs.declared.answer.Exit.{Exit}
use Rattle.fmc.specs.declared.answer.Exit.TheVariants.{Done, Faulted, Deadlocked, Refused, Spent, Usage, ReadFault, WriteFault, NoMemory, TooLong, Malformed, Illegal, Unfinished, BadObject, Unverified, NotPlain}
use Rattle.fmc.specs.Outcomes.{IsUnplayed}
use Rattle.fmc.specs.Executes.{HasBadLine, HasBadUnit, IsBadImage, IsBadObject, IsExecutedSo, IsObjectHistory, IsRunnable, SaysExec, object_limit}
use Rattle.fmc.specs.Answer.{IsNoHistory, IsPlayedExit}
use Rattle.fmc.specs.Decided.{IsDue}

-- it ran, or its bytes tell why not, or that isn't told
abbrev pub Finds : (turns : ℕ) → (vars : Bool) → List ℕ → Exit → List Turn → List Place → List ℕ → Type 0
Finds turns vars b exit h ps t =
    (IsPlayedExit exit × IsExecutedSo turns vars exit b h ps t)
    ⊎ (((exit ≡ BadObject) × IsBadObject b h ps t)
    ⊎ (((exit ≡ Unverified) × IsBadImage b h ps t)
    ⊎ (((exit ≡ TooLong) × (object_limit < length b) × IsUnplayed h ps t (codes "source too long\n"))
    ⊎ (((exit ≡ NoMemory) ⊎ (exit ≡ ReadFault)) × IsNoHistory h ps))))

pub found : (turns : ℕ) (vars : Bool) (b : List ℕ) (exit : Exit) (h : List Turn) (ps : List Place) (t : List ℕ) → SaysExec turns vars b exit h ps t → Finds turns vars b exit h ps t
found turns vars b Done h ps t k = inl (inl (inl refl), k)
found turns vars b Faulted h ps t k = inl (inl (inr (inl refl)), k)
found turns vars b Deadlocked h ps t k = inl (inl (inr (inr refl)), k)
found turns vars b Refused h ps t k = absurd k
found turns vars b Spent h ps t k = inl (inr refl, k)
found turns vars b Usage h ps t k = absurd k
found turns vars b ReadFault h ps t k = inr (inr (inr (inr (inr refl, (k.no_turns, k.no_places)))))
found turns vars b WriteFault h ps t k = absurd k
found turns vars b NoMemory h ps t k = inr (inr (inr (inr (inl refl, (k.no_turns, k.no_places)))))
found turns vars b TooLong h ps t k = inr (inr (inr (inl (refl, k.0, k.1))))
found turns vars b Malformed h ps t k = absurd k
found turns vars b Illegal h ps t k = absurd k
found turns vars b Unfinished h ps t k = absurd k
found turns vars b BadObject h ps t k = inr (inl (refl, k))
found turns vars b Unverified h ps t k = inr (inr (inl (refl, k)))
found turns vars b NotPlain h ps t k = absurd k

-- the text of an image that makes sense isn't that of one that makes none
pub typed_or_bad : (b : List ℕ) (i : Image) → IsObjectText b i → Typed i → (unit : ℕ) → IsUnverified b unit → ⊥
typed_or_bad b i object typed unit k =
    let same = refused_never b k.image k.object i object typed (fails.Unverified unit) k.bad in
    absurd (cc same)

want_of_memory : (exit : Exit) → (exit ≡ NoMemory) ⊎ (exit ≡ ReadFault) → (exit ≡ ReadFault → ⊥) → exit ≡ NoMemory
want_of_memory exit (inl e) r = e
want_of_memory exit (inr e) r = absurd (r e)

played_completed : (exit : Exit) → IsPlayedExit exit → ((exit ≡ Done) ⊎ ((exit ≡ Faulted) ⊎ (exit ≡ Deadlocked))) ⊎ ((exit ≡ Spent) ⊎ (exit ≡ NoMemory))
played_completed exit (inl e) = inl e
played_completed exit (inr e) = inr (inl e)

module _ (turns : ℕ) (vars : Bool) (b : List ℕ) (exit : Exit) (h : List Turn) (ps : List Place) (t : List ℕ) where
  pub exec_history : Finds turns vars b exit h ps t → IsNoHistory h ps ⊎ IsObjectHistory b turns h ps
  exec_history (inl k) = inr k.1.ran
  exec_history (inr (inl k)) = inl (k.1.unplayed.no_turns, k.1.unplayed.no_places)
  exec_history (inr (inr (inl k))) = inl (k.1.unplayed.no_turns, k.1.unplayed.no_places)
  exec_history (inr (inr (inr (inl k)))) = inl (k.2.no_turns, k.2.no_places)
  exec_history (inr (inr (inr (inr k)))) = inl k.1

  pub exec_completed : Finds turns vars b exit h ps t → (exit ≡ ReadFault → ⊥) → IsRunnable b → ((exit ≡ Done) ⊎ ((exit ≡ Faulted) ⊎ (exit ≡ Deadlocked))) ⊎ ((exit ≡ Spent) ⊎ (exit ≡ NoMemory))
  exec_completed (inl k) r v = played_completed exit k.0
  exec_completed (inr (inl k)) r v = absurd (no_line_of_an_object b v.1 v.2 k.1.line k.1.malformed)
  exec_completed (inr (inr (inl k))) r v = absurd (typed_or_bad b v.1 v.2 v.3 k.1.unit k.1.unverified)
  exec_completed (inr (inr (inr (inl k)))) r v = let within = v.0 in absurd (omega (arith, k.1, within))
  exec_completed (inr (inr (inr (inr k)))) r v = inr (inr (want_of_memory exit k.0 r))

  pub exec_long : Finds turns vars b exit h ps t → (exit ≡ ReadFault → ⊥) → object_limit < length b → IsDue TooLong exit
  exec_long (inl k) r l = let within = k.1.within in absurd (omega (arith, l, within))
  exec_long (inr (inl k)) r l = let within = k.1.within in absurd (omega (arith, l, within))
  exec_long (inr (inr (inl k))) r l = let within = k.1.within in absurd (omega (arith, l, within))
  exec_long (inr (inr (inr (inl k)))) r l = inl k.0
  exec_long (inr (inr (inr (inr k)))) r l = inr (want_of_memory exit k.0 r)

  pub exec_malformed : Finds turns vars b exit h ps t → (exit ≡ ReadFault → ⊥) → HasBadLine b → IsDue BadObject exit
  exec_malformed (inl k) r l = let is = k.1.ran.executed in absurd (no_line_of_an_object b is.image is.object l.1 l.2)
  exec_malformed (inr (inl k)) r l = inl k.0
  exec_malformed (inr (inr (inl k))) r l = let is = k.1.unverified in absurd (no_line_of_an_object b is.image is.object l.1 l.2)
  exec_malformed (inr (inr (inr (inl k)))) r l = let within = l.0 in absurd (omega (arith, k.1, within))
  exec_malformed (inr (inr (inr (inr k)))) r l = inr (want_of_memory exit k.0 r)

  pub exec_unverified : Finds turns vars b exit h ps t → (exit ≡ ReadFault → ⊥) → HasBadUnit b → IsDue Unverified exit
  exec_unverified (inl k) r l = let is = k.1.ran.executed in absurd (typed_or_bad b is.image is.object is.typed l.1 l.2)
  exec_unverified (inr (inl k)) r l = absurd (no_line_of_an_object b l.2.image l.2.object k.1.line k.1.malformed)
  exec_unverified (inr (inr (inl k))) r l = inl k.0
  exec_unverified (inr (inr (inr (inl k)))) r l = let within = l.0 in absurd (omega (arith, k.1, within))
  exec_unverified (inr (inr (inr (inr k)))) r l = inr (want_of_memory exit k.0 r)
