-- The text of what a run shows.
-- Source: this profile.
use Rattle.std.specs.Prelude.{ℕ, Bool, true, false, cond, Option, Some, None, List, [], ◌∷◌, ◌++◌, map, codes}
use Rattle.std.specs.List.{flat_map}
use Rattle.std.specs.Fmt.{decimal, signed_decimal}
use Rattle.fm_base.specs.declared.path.ChanName.{ChanName}
use Rattle.fm_base.specs.Texts.{path_text, channel_text, fault_name}
use Rattle.fm_mean.specs.declared.outcome.At.{At}
use Rattle.fm_mean.specs.declared.outcome.At.TheVariants as at
use Rattle.fm_mean.specs.declared.outcome.FaultAt.{FaultAt}
use Rattle.fm_mean.specs.declared.outcome.Outcome.{Outcome}
use Rattle.fm_mean.specs.declared.outcome.Shown.{Shown}
use Rattle.fm_mean.specs.declared.outcome.Shown.TheVariants as shown
use Rattle.fm_mean.specs.declared.outcome.ShownVariable.{ShownVariable}
use Rattle.fm_mean.specs.declared.outcome.Wait.{Wait}
use Rattle.fm_wait.specs.Cycles.{cycles_of}
use Rattle.fm_wait.specs.Waits.{Pairs, waits_for}

abbrev pub ended_line : List ℕ → List ℕ
ended_line line = line ++ 10 ∷ []

abbrev pub channel_or_null : Option ChanName → List ℕ
channel_or_null None = codes "NULL"
channel_or_null (Some c) = channel_text c.maker c.number

abbrev pub truth_text : Bool → List ℕ
truth_text true = codes "T"
truth_text false = codes "F"

-- texts with a blank between
abbrev pub spaced : List (List ℕ) → List ℕ
spaced [] = []
spaced (t ∷ ts) = t ++ flat_map (λ u. codes " " ++ u) ts

abbrev pub shown_text : Shown → List ℕ
shown_text (shown.Numbers ns) = spaced (map signed_decimal ns)
shown_text (shown.Truths bs) = spaced (map truth_text bs)
shown_text (shown.Ports cs) = spaced (map channel_or_null cs)

-- `var NAME = V`
abbrev pub variable_line : ShownVariable → List ℕ
variable_line v = ended_line (codes "var " ++ v.name ++ codes " = " ++ shown_text v.shown)

-- `fault PATH line L FAULT`
abbrev pub fault_line : FaultAt → List ℕ
fault_line f = ended_line (codes "fault " ++ path_text f.path ++ codes " line " ++ decimal f.line.0 ++ codes " " ++ fault_name f.fault)

abbrev pub at_text : At → List ℕ
at_text (at.Receive c) = codes "receive " ++ channel_text c.maker c.number
at_text (at.Join child) = codes "join"

-- nobody, where a wait is lost
abbrev pub for_text : Option Pairs → List ℕ
for_text None = codes "nobody"
for_text (Some p) = path_text p

-- `wait PATH line L receive CHAN for PATH`, and `wait PATH line L join for PATH`
abbrev pub wait_line : Wait → Option Pairs → List ℕ
wait_line w on = ended_line (codes "wait " ++ path_text w.path ++ codes " line " ++ decimal w.line.0 ++ codes " " ++ at_text w.at ++ codes " for " ++ for_text on)

-- `cycle`, and then its paths
abbrev pub cycle_line : List Pairs → List ℕ
cycle_line ps = ended_line (codes "cycle" ++ flat_map (λ p. codes " " ++ path_text p) ps)

-- `turns U`
abbrev pub turns_line : ℕ → List ℕ
turns_line used = ended_line (codes "turns " ++ decimal used)

-- the report: the output lines; where they are asked for, main's variables; the faults; the waits; the cycles; and,
-- with the variables, the cost
abbrev pub report_text : (vars : Bool) → Outcome → List ℕ
report_text vars o =
    flat_map (λ l. ended_line l.bytes) o.lines
    ++ (cond vars (flat_map variable_line o.variables) []
    ++ (flat_map fault_line o.faults
    ++ (flat_map (λ w. wait_line w (waits_for o w)) o.waits
    ++ (flat_map cycle_line (cycles_of o)
    ++ cond vars (turns_line o.used) []))))

-- `spent T`, where a run has no report
abbrev pub spent_text : (turns : ℕ) → List ℕ
spent_text turns = codes "spent " ++ decimal turns ++ 10 ∷ []
