-- What the rules say of each entry of a checked program.
use Rattle.std.proofs.Common.{◌≡◌, ℕ, Some, slice_get, refl}
use Rattle.fm_tree.specs.declared.program_unit.Entry.{Entry}
use Rattle.fm_tree.specs.declared.statement.Simple.{Simple}
use Rattle.fm_tree.specs.declared.statement.Simple.TheVariants as simple
use Rattle.fm_tree.specs.declared.statement.Stmt.{Stmt}
use Rattle.fm_tree.specs.declared.statement.Stmt.TheVariants as stmt
use Rattle.fm_rules.specs.declared.program.Program.{Program}
use Rattle.fm_mean.specs.Names.{ProgramUnit, unit_at}
use Rattle.fm_gen_relation.specs.Sound.{IsSoundSimple, IsSoundStatement, IsSoundEntry}
use Rattle.fm_gen_relation.specs.Meant.{IsMeant}
use Rattle.fm_gen_relation.proofs.Meant.{meant, entry_types}
use Rattle.fm_mean.proofs.References.{entry_references}
use Rattle.fm_gen_relation.proofs.Counts.{reference_full, call_full, start_full}

module _ (p : Program) (number : ℕ) (u : ProgramUnit) (i : ℕ) (e : Entry) (here : unit_at p number ≡ Some u) (there : slice_get u.tree.body i ≡ Some e) where
  simple_sound : (s : Simple) → e.stmt ≡ stmt.Simple s → IsMeant u s → IsSoundSimple p u s
  simple_sound (simple.Assignment v t) is h = tt
  simple_sound (simple.Goto l) is h = tt
  simple_sound simple.Continue is h = tt
  simple_sound simple.Return is h = tt
  simple_sound simple.Stop is h = tt
  simple_sound (simple.Call name args) is h = call_full p number u i e here there name args is
  simple_sound (simple.Print items) is h = tt
  simple_sound (simple.Write unit items) is h = tt
  simple_sound (simple.Channel in_first a b) is h = tt
  simple_sound (simple.Merger a bs) is h = tt
  simple_sound (simple.Send named q items) is h = tt
  simple_sound (simple.Receive named q extras items) is h = h
  simple_sound (simple.EndChannel named q) is h = h
  simple_sound (simple.MovePort from to) is h = h
  simple_sound (simple.Probe named q empty) is h = h

  statement_sound : (s : Stmt) → e.stmt ≡ s → IsSoundStatement p u s
  statement_sound (stmt.Simple s) is = simple_sound s is (meant p number u i e here there s is)
  statement_sound (stmt.ProcessCall name part) is = start_full p number u i e here there name part is
  statement_sound other is = tt

  pub sound_entry : IsSoundEntry p u e
  sound_entry = record {
    types = entry_types p number u i e here there;
    references = entry_references p number u i e here there;
    full = reference_full p number u i e here there;
    statement = statement_sound e.stmt refl;
  }
