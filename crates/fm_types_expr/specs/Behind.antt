-- The judgement of a list in parentheses, argument by argument.
-- Source: this profile.
use Rattle.std.specs.Prelude.{ℕ, ◌+◌, ◌&&◌, Option}
use Rattle.fm_tree.specs.Tree.{Trees, NoTrees, More}
use Rattle.fm_symbols.specs.declared.symbol.Formal.{Formal}
use Rattle.fm_symbols.specs.declared.context.Scope.{Scope}
use Rattle.fm_symbols.specs.declared.context.Context.{Context}
use Rattle.fm_rules.specs.declared.typing.Judgement.{Judgement}
use Rattle.fm_rules.specs.declared.typing.Referent.{Referent}
use Rattle.fm_rules.specs.declared.typing.Arguments.{Arguments}
use Rattle.fm_rules.specs.Flags.{both, e50}
use Rattle.fm_rules.specs.Expressions.{fits_wanted, is_stray_port, judged, wanted}

-- an argument behind others, which are counted at the end
abbrev pub argument_behind : Arguments → Option Formal → Judgement → Arguments
argument_behind before w j = record {
  flags = both before.flags (both j.flags (e50 (is_stray_port w j.expr_type)));
  fit = before.fit && fits_wanted w j.expr_type;
  count = before.count;
}

abbrev pub counted : Arguments → ℕ → Arguments
counted a n = record { flags = a.flags; fit = a.fit; count = n }

-- the arguments from place i on, behind others
abbrev pub arguments_behind : Context → Scope → Referent → Arguments → ℕ → Trees → Arguments
arguments_behind c s r before i NoTrees = counted before i
arguments_behind c s r before i (More t ts) = arguments_behind c s r (argument_behind before (wanted c r i) (judged c s t)) (i + 1) ts
