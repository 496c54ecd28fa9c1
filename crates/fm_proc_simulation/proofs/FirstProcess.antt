-- The process with which a run begins.
use Rattle.std.proofs.Common.{◌≡◌, ℕ, Some, unwrap_or, sym, ap, ◌∙◌}
use Rattle.std.specs.Prelude.{slice_get}
use Rattle.fm_net.specs.Machine.{State}
use Rattle.fm_net.specs.Owned.{main_alone}
use Rattle.fm_rules.specs.declared.program.Program.{Program}
use Rattle.fm_rules.specs.Main.{main_of}
use Rattle.fm_mean.specs.Names.{ProgramUnit, main_number, unit_at}
use Rattle.fm_mean.proofs.Main.{main_is}
use Rattle.fm_mean.proofs.MainUnit.{main_there}
use Rattle.fm_code.specs.declared.code.Code.{Code}
use Rattle.fm_proc_language.specs.Processes.{CodeProc}
use Rattle.fm_gen.specs.Programs.{code_of}
use Rattle.fm_gen.specs.Units.{unit_of_code}
use Rattle.fm_shown.specs.First.{begun, begun_in, first_process_of, process_of}
use Rattle.fm_proc_simulation.specs.Shown.{body_by, body_in, first_process}

module _ (p : Program) where
  body_made : (n : ℕ) → n ≡ unwrap_or (main_of p.units.units) 0 → (code : Code) → code ≡ code_of p
      → ((k : ℕ) (u : ProgramUnit) → unit_at p k ≡ Some u → slice_get code.units k ≡ Some (unit_of_code p u))
      → begun_in code n (slice_get code.units n) ≡ body_by p (main_number p)
  body_made n n_is code code_is units =
      let m = main_there p in
      let same : m.number ≡ n = sym (main_is p m.number m.is) ∙ sym n_is in
      let here : unit_at p n ≡ Some m.unit = ap (unit_at p) (sym same) ∙ m.here in
      ap (begun_in code n) (units n m.unit here) ∙ ap (λ c. Some (begun c n (unit_of_code p m.unit))) code_is
      ∙ ap (body_in p n) (sym here) ∙ ap (body_by p) (sym (m.is ∙ ap Some same))

  pub process_made : (n : ℕ) → n ≡ unwrap_or (main_of p.units.units) 0 → (code : Code) → code ≡ code_of p
      → ((k : ℕ) (u : ProgramUnit) → unit_at p k ≡ Some u → slice_get code.units k ≡ Some (unit_of_code p u)) → first_process_of code n ≡ first_process p
  process_made n n_is code code_is units = ap process_of (body_made n n_is code code_is units)

  -- what stands so in memory is main alone
  pub stacks_made : (n : ℕ) → n ≡ unwrap_or (main_of p.units.units) 0 → (code : Code) → code ≡ code_of p
      → ((k : ℕ) (u : ProgramUnit) → unit_at p k ≡ Some u → slice_get code.units k ≡ Some (unit_of_code p u)) → (s : State CodeProc) → s ≡ main_alone (first_process_of code n) → s ≡ main_alone (first_process p)
  stacks_made n n_is code code_is units s is = is ∙ ap main_alone (process_made n n_is code code_is units)
