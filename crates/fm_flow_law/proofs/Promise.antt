-- A program of which no sentence holds comes to its end.
use Rattle.std.proofs.Common.{◌≡◌, ◌⊎◌, inl, inr, ℕ, ◌<◌, ◌≤◌, true, Some, slice_get}
use Rattle.std.specs.Prelude.{None}
use Rattle.std.proofs.Math.Bool.{Bool-set}
use Rattle.std.proofs.Math.Logic.{∥∥₁_elim}
use Rattle.std.proofs.lemmas.Bool.{cases_lt}
use Rattle.fm_tree.specs.declared.program_unit.Entry.{Entry}
use Rattle.fm_tree.specs.declared.statement.Stmt.TheVariants as stmt
use Rattle.fm_rules.specs.declared.program.Program.{Program}
use Rattle.fm_mean.specs.Names.{ProgramUnit, unit_at, main_number}
use Rattle.fm_mean.proofs.MainUnit.{main_there}
use Rattle.fm_flow_law.specs.Ends.{ComesToItsEnd}
use Rattle.fm_flow_law.specs.Flow.{IsFlowSafe, IsFlowVerdict}
use Rattle.fm_flow_law.proofs.Assembled.{safe_ends}
use Rattle.fm_flow_law.proofs.Closed.{blocks_closed}
use Rattle.fm_flow_law.proofs.Calm.{functions_calm}
use Rattle.fm_flow_law.proofs.Laid.{unit_goes_on}
use Rattle.fm_flow_law.proofs.MainPart.{IsShaped, Main, main_part, makes_channel}
use Rattle.fm_flow_law.proofs.Narrow.{ports_narrow}
use Rattle.fm_flow_law.proofs.OneBlock.{channel_once, channels_before_calls}
use Rattle.fm_flow_law.proofs.Sentences.{all_outports_go, all_simple}

shape : (p : Program) (m : ℕ) (u : ProgramUnit) → main_number p ≡ Some m → unit_at p m ≡ Some u → IsFlowSafe p → IsShaped u
shape p m u is here safe = record {
  simple = all_simple p m u is here safe;
  after = unit_goes_on p m u here (all_simple p m u is here safe);
  calls_first = (blocks_closed p m u is here safe).closed;
  channels_first = channels_before_calls p m u is here safe;
  channels_open = λ j k d e at_d ends at makes. before_end j k d e at_d ends at makes (cases_lt k j);
  narrow = ports_narrow p m u is here safe;
  outports_go = all_outports_go p m u is here safe;
}
  where
    before_end : (j k : ℕ) (d e : Entry) → slice_get u.tree.body j ≡ Some d → d.stmt ≡ stmt.EndProcesses → slice_get u.tree.body k ≡ Some e → makes_channel e.stmt ≡ true → (k < j) ⊎ (j ≤ k) → k < j
    before_end j k d e at_d ends at makes (inl less) = less
    before_end j k d e at_d ends at makes (inr behind) =
        absurd ((blocks_closed p m u is here safe).opened j k d e at_d ends at (channel_once e.stmt makes) behind)

pub safe_comes_to_its_end : (p : Program) → IsFlowSafe p → ComesToItsEnd p
safe_comes_to_its_end p safe =
    let main = main_there p in
    let shaped = shape p main.number main.unit main.is main.here safe in
    safe_ends p main.number main.unit main.is main.here safe (Main p main.number main.unit main.here main.heads (functions_calm p) shaped) (main_part p main.number main.unit main.here main.heads (functions_calm p) shaped main.is)

-- where a verdict is told and is none
pub told_comes_to_its_end : (p : Program) → ∥ IsFlowVerdict p None ∥₁ → ComesToItsEnd p
told_comes_to_its_end p told cs used ends none = ∥∥₁_elim told (Bool-set _ _) (λ safe. safe_comes_to_its_end p safe cs used ends none)
