-- What is looked through for the least place.
-- Source: this profile.
use Rattle.std.specs.Prelude.{ℕ, ◌+◌, Bool, false, if◌then◌else◌, Option, List, [], ◌∷◌, ◌++◌, slice_get, slice_index_or}
use Rattle.fm_base.specs.declared.name.Line.{Line}
use Rattle.fm_base.specs.declared.rule.Refusal.{Refusal}
use Rattle.fm_base.specs.declared.rule.Rule.TheVariants.{E45}
use Rattle.fm_base.specs.Verdict.{place, when}
use Rattle.fm_tree.specs.declared.program_unit.Entry.{Entry}
use Rattle.fm_tree.specs.declared.program_unit.Unit.{Unit}
use Rattle.fm_symbols.specs.declared.context.Scope.{Scope}
use Rattle.fm_rules.specs.declared.calls.Call.{Call}
use Rattle.fm_rules.specs.Race.{is_racy}
use Rattle.fm_call_graph.specs.Components.{same_name}
use Rattle.fm_call_graph.specs.Least.{lower_if}

-- the call leads back to its unit
abbrev pub is_back : List ℕ → ℕ → Call → Bool
is_back names unit call = same_name (slice_get names unit) (slice_get names call.target)

-- the calls of a unit that lead back to it, by the names of components
abbrev pub back_calls : List ℕ → ℕ → List Call → List Refusal
back_calls names unit [] = []
back_calls names unit (call ∷ calls) = when (is_back names unit call) (place call.line.0 E45) ++ back_calls names unit calls

-- the same for this unit and those behind it
abbrev pub all_back_calls : List ℕ → ℕ → List (List Call) → List Refusal
all_back_calls names unit [] = []
all_back_calls names unit (calls ∷ rest) = back_calls names unit calls ++ all_back_calls names (unit + 1) rest

-- of the racy entries of a unit
abbrev pub racy_in : Option Scope → Option Line → List Entry → Option Line
racy_in s best [] = best
racy_in s best (e ∷ es) = racy_in s (lower_if (is_racy s e.stmt) best e.line) es

abbrev pub racy_in_unit : Option Scope → Bool → Option Line → Unit → Option Line
racy_in_unit s flag best u = if flag then racy_in s best u.body else best

-- in this unit and those behind it that have a flag
abbrev pub racy_from : List Scope → List Bool → ℕ → Option Line → List Unit → Option Line
racy_from scopes flags unit best [] = best
racy_from scopes flags unit best (u ∷ us) = racy_from scopes flags (unit + 1) (racy_in_unit (slice_get scopes unit) (slice_index_or flags unit false) best u) us
