-- Why a program doesn't run on hosts.
-- Source: this profile.
use Rattle.fm_base.specs.declared.name.Line.{Line}
use Rattle.fm_nodes.specs.declared.nodes.NodesFail.{NodesFail}
use Rattle.fm_nodes.specs.declared.nodes.NodesFail.TheVariants.{NotPlain, NoMemory as Wanting}

-- where a program isn't plain, its line has this; want of memory tells nothing
abbrev pub OnNotPlain : NodesFail → (Line → Type 0) → Type 0
OnNotPlain (NotPlain line) P = P line
OnNotPlain Wanting P = Unit {0}
