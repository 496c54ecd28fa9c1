-- The body that a process is handed out with stands for it, also behind entries of others.
use Rattle.std.proofs.Common.{◌≡◌, ℕ, ◌==◌, Bool, true, false, cond, not, Option, Some, None, List, [], ◌∷◌, ◌++◌, slice_get, refl, sym, ap, ◌∙◌, subst}
use Rattle.std.specs.FinMap.{get}
use Rattle.fm_code.specs.declared.body.Body.{Body}
use Rattle.fm_net.specs.Correspondence.{BothOrNeither}
use Rattle.fm_net.specs.Machine.{Place}
use Rattle.fm_rules.specs.declared.program.Program.{Program}
use Rattle.fm_proc_language.specs.Processes.{CodeProc}
use Rattle.fm_proc_language.specs.Slots.{Slots}
use Rattle.fm_procs.specs.Readings.{order_of, procs_of}
use Rattle.fm_proc_simulation.specs.Corresponds.{BodyAlike, BodyStands, Corresponds}
use Rattle.fm_run_code.specs.Given.{IsBodyAt}
use Rattle.fm_run.specs.Programs.{Stand}
use Rattle.fm_run.specs.declared.player.Player.{Player}
use Rattle.fm_table.specs.Inside.{Compiled, IsAsItWas, IsLive, stand_in, stand_kept}
use Rattle.fm_table.specs.Told.{HaveStarts, IsBodyOf, Out, without}
use Rattle.fm_table.specs.declared.standing.Standing.{Standing}
use Rattle.fm_table.proofs.Standings.{stand_same}

the_body : (a b : Body) → Some a ≡ Some b → a ≡ b
the_body a b e = cc

-- in memory
stands_for : (program : Program) (player : Player Compiled) (live : IsLive program player) (n : ℕ) (b : Body)
    → IsBodyAt player.net.stacks n (Some b) → IsBodyOf program (stand_in program player) n b
stands_for program player live n b of q x at is =
    go (get (procs_of player.net.stacks.entries) q) refl (subst (BothOrNeither (Corresponds program) (get (procs_of player.net.stacks.entries) q)) is (live.sound.stands.procs q))
  where
    by_body : (y : CodeProc) → (o : Option Body) → o ≡ Some b → BodyAlike program y.slots x o → (slots : Slots) × BodyStands program slots x b
    by_body y None e alike = absurd (cc e)
    by_body y (Some c) e alike = (y.slots, subst (BodyStands program y.slots x) (the_body c b e) alike)

    go : (o : Option CodeProc) → get (procs_of player.net.stacks.entries) q ≡ o → BothOrNeither (Corresponds program) o (Some x) → (slots : Slots) × BodyStands program slots x b
    go None e both = absurd both
    go (Some y) e both = by_body y y.body (sym (of q y at e)) both.body

-- where the schedule leads that was kept
module _ (program : Program) (old new : Standing) (same : IsAsItWas old new) (live : IsLive program new.player) (n : ℕ) where
  there : stand_in program new.player ≡ stand_kept program old
  there = live.stand_is ∙ stand_same program old new same

  pub body_kept : (b : Body) → IsBodyAt new.player.net.stacks n (Some b) → IsBodyOf program (stand_kept program old) n b
  body_kept b of = subst (λ (a : Stand). IsBodyOf program a n b) there (stands_for program new.player live n b of)

  pub path_kept : (q : Place) → slice_get (order_of new.player.net.stacks.entries) n ≡ Some q → slice_get (stand_kept program old).places n ≡ Some q
  path_kept q at = ap (λ (a : Stand). slice_get a.places n) (sym there) ∙ at

-- ---- all that are out

module _ (program : Program) (a : Stand) where
  pub one_more : (out : List Out) (o : Out) → HaveStarts program a out → IsBodyOf program a o.number o.start → HaveStarts program a (out ++ o ∷ [])
  one_more [] o have own = (own, tt)
  one_more (x ∷ out) o have own = (have.0, one_more out o have.1 own)

  pub one_less : (n : ℕ) (out : List Out) → HaveStarts program a out → HaveStarts program a (without n out)
  one_less n [] have = tt
  one_less n (x ∷ out) have = go (not (x.number == n)) (one_less n out have.1)
    where
      go : (b : Bool) → HaveStarts program a (without n out) → HaveStarts program a (cond b (x ∷ without n out) (without n out))
      go true rest = (have.0, rest)
      go false rest = rest
