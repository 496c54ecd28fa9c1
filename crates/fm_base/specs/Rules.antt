-- The numbers, phases and texts of the rules.
-- Source: this profile.
use Rattle.std.specs.Prelude.{ℕ, ◌/◌, List, ◌∷◌, ◌++◌, [], codes}
use Rattle.std.specs.Fmt.{decimal}
use Rattle.fm_base.specs.declared.rule.Rule.{Rule}
use Rattle.fm_base.specs.declared.rule.Rule.TheVariants.{E01, E02, E03, E04, E05, E10, E11, E12, E20, E21, E22, E23, E24, E25, E26, E27, E28, E29, E30, E31, E32, E33, E34, E40, E41, E42, E43, E44, E45, E46, E50, E51, E52, E53, E54}
use Rattle.fm_base.specs.declared.rule.Refusal.{Refusal}

abbrev pub number_of : Rule → ℕ
number_of E01 = 1
number_of E02 = 2
number_of E03 = 3
number_of E04 = 4
number_of E05 = 5
number_of E10 = 10
number_of E11 = 11
number_of E12 = 12
number_of E20 = 20
number_of E21 = 21
number_of E22 = 22
number_of E23 = 23
number_of E24 = 24
number_of E25 = 25
number_of E26 = 26
number_of E27 = 27
number_of E28 = 28
number_of E29 = 29
number_of E30 = 30
number_of E31 = 31
number_of E32 = 32
number_of E33 = 33
number_of E34 = 34
number_of E40 = 40
number_of E41 = 41
number_of E42 = 42
number_of E43 = 43
number_of E44 = 44
number_of E45 = 45
number_of E46 = 46
number_of E50 = 50
number_of E51 = 51
number_of E52 = 52
number_of E53 = 53
number_of E54 = 54

-- the tens digit
abbrev pub phase_of : Rule → ℕ
phase_of rule = number_of rule / 10

abbrev pub rule_text : Rule → List ℕ
rule_text E01 = codes "E01 bad character"
rule_text E02 = codes "E02 bad label field"
rule_text E03 = codes "E03 bad continuation"
rule_text E04 = codes "E04 too many continuations"
rule_text E05 = codes "E05 open character constant"
rule_text E10 = codes "E10 no statement of the grammar"
rule_text E11 = codes "E11 number too large"
rule_text E12 = codes "E12 name too long"
rule_text E20 = codes "E20 statement out of place"
rule_text E21 = codes "E21 unmatched block"
rule_text E22 = codes "E22 label twice"
rule_text E23 = codes "E23 label missing"
rule_text E24 = codes "E24 jump into a block"
rule_text E25 = codes "E25 wrong end of a loop"
rule_text E26 = codes "E26 not exactly one PROGRAM"
rule_text E27 = codes "E27 unit name twice"
rule_text E28 = codes "E28 no END"
rule_text E29 = codes "E29 not allowed in a process block"
rule_text E30 = codes "E30 declared twice"
rule_text E31 = codes "E31 no type"
rule_text E32 = codes "E32 bad bounds"
rule_text E33 = codes "E33 no constant"
rule_text E34 = codes "E34 too many words"
rule_text E40 = codes "E40 wrong operand"
rule_text E41 = codes "E41 wrong subscripts"
rule_text E42 = codes "E42 wrong arguments"
rule_text E43 = codes "E43 unknown unit"
rule_text E44 = codes "E44 not changeable"
rule_text E45 = codes "E45 recursion"
rule_text E46 = codes "E46 not allowed in a function"
rule_text E50 = codes "E50 port as a value"
rule_text E51 = codes "E51 wrong port direction"
rule_text E52 = codes "E52 wrong message list"
rule_text E53 = codes "E53 port types differ"
rule_text E54 = codes "E54 wrong mapping rank"

-- `line L: RULE TEXT` with its line feed
abbrev pub refusal_text : Refusal → List ℕ
refusal_text p = codes "line " ++ decimal p.line.0 ++ codes ": " ++ rule_text p.rule ++ 10 ∷ []
