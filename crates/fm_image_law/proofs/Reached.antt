-- Along every schedule of an image that makes sense each process is good, and none is stuck.
use Rattle.std.proofs.Common.{◌≡◌, Option, Some, None, List, false, refl, sym, subst}
use Rattle.std.specs.FinMap.{get}
use Rattle.fm_sched.specs.Schedule.{IsLegal, play}
use Rattle.fm_code.specs.declared.body.Body.{Body}
use Rattle.fm_code.specs.Statements.{is_stuck}
use Rattle.fm_code_kinds.specs.declared.sorts.Shapes.{Shapes}
use Rattle.fm_code_preserves.proofs.Keeps.{never_stuck}
use Rattle.fm_net.specs.Machine.{Place, State}
use Rattle.fm_net.specs.Language.{Language, language_step}
use Rattle.fm_net.specs.Owned.{main_alone}
use Rattle.fm_net.specs.Correspondence.{AreAlike, BothOrNeither, StandsFor}
use Rattle.fm_net_invariant.specs.Good.{Good, IsBare, IsLawfulWhere, good_language}
use Rattle.fm_net_invariant.proofs.Good.{Anyway, goods_alike}
use Rattle.fm_object.specs.declared.image.Image.{Image}
use Rattle.fm_proc_language.specs.Processes.{CodeProc, Ended, Faulted, Joining, Phase, Running, code_language}
use Rattle.fm_proc_invariant.specs.Good.{HasGoodBody, IsGood}
use Rattle.fm_proc_invariant.proofs.Lawful.{lawful_where}
use Rattle.fm_image_typed.specs.Shapes.{shapes_of}
use Rattle.fm_image_typed.specs.Typed.{Typed}
use Rattle.fm_image_law.specs.Image.{GoesOn, first, first_process, step}
use Rattle.fm_image_law.proofs.First.{first_good}

-- a good process that has more to do isn't stuck
good_moves : (ss : Shapes) (y : CodeProc) → IsGood ss y → (b : Body) → y.body ≡ Some b → GoesOn y.phase → is_stuck b ≡ false
good_moves ss y good b e more = go y.phase y.body refl e good.body more
  where
    some_is : (c d : Body) → ◌≡◌ {A = Option Body} (Some c) (Some d) → c ≡ d
    some_is c d e = cc

    stuck_free : (c : Body) → ◌≡◌ {A = Option Body} (Some c) (Some b) → is_stuck c ≡ false → is_stuck b ≡ false
    stuck_free c f h = subst (λ (x : Body). is_stuck x ≡ false) (some_is c b f) h

    go : (phase : Phase) (body : Option Body) → y.phase ≡ phase → body ≡ Some b → HasGoodBody ss phase y.slots body → GoesOn phase → is_stuck b ≡ false
    go Running None p f h more = absurd (cc)
    go Running (Some c) p f h more = stuck_free c f (never_stuck ss c h.fits)
    go (Joining block kids) None p f h more = absurd (cc)
    go (Joining block kids) (Some c) p f h more = stuck_free c f (never_stuck ss c h.fits.0)
    go Ended body p f h more = absurd more
    go (Faulted line fault) body p f h more = absurd more

module _ (i : Image) (t : Typed i) where
  abbrev ss : Shapes
  ss = shapes_of i

  law : IsLawfulWhere code_language (IsGood ss)
  law = lawful_where ss

  abbrev goods : Language (Good (IsGood ss))
  goods = good_language code_language (IsGood ss) law

  abbrev main : Good (IsGood ss)
  main = (first_process i, first_good i t)

  alike : AreAlike (IsBare code_language (IsGood ss)) (Anyway code_language (IsGood ss) law) goods code_language
  alike = goods_alike code_language (IsGood ss) law

  abbrev Stands : State CodeProc → State (Good (IsGood ss)) → Type 0
  Stands = StandsFor (IsBare code_language (IsGood ss)) (Anyway code_language (IsGood ss) law)

  begins : Stands (first i) (main_alone main)
  begins = alike.begin main (first_process i) refl tt

  module _ (cs : List Place) (legal : IsLegal step (first i) cs) where
    stands : Stands (play step (first i) cs) (play (language_step goods) (main_alone main) cs)
    stands = alike.runs.state (main_alone main) (first i) begins cs ((alike.runs.legal (main_alone main) (first i) begins cs).1 legal)

    of_both : (y : CodeProc) (o : Option (Good (IsGood ss))) → BothOrNeither (IsBare code_language (IsGood ss)) (Some y) o → IsGood ss y
    of_both y None h = absurd h
    of_both y (Some g) h = subst (IsGood ss) (sym h) g.1

    pub reached_good : (q : Place) (y : CodeProc) → get (play step (first i) cs).procs q ≡ Some y → IsGood ss y
    reached_good q y e =
        of_both y (get (play (language_step goods) (main_alone main) cs).procs q)
        (subst (λ (o : Option CodeProc). BothOrNeither (IsBare code_language (IsGood ss)) o (get (play (language_step goods) (main_alone main) cs).procs q)) e (stands.procs q))

    pub reached_moves : (q : Place) (y : CodeProc) (b : Body) → get (play step (first i) cs).procs q ≡ Some y → y.body ≡ Some b → GoesOn y.phase → is_stuck b ≡ false
    reached_moves q y b e f more = good_moves ss y (reached_good q y e) b f more
