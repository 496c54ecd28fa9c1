-- Steps that neither begin a block nor join one.
-- Source: this profile (costs of statements).
use Rattle.fm_mean.specs.Actions.{Fail, Make, Send, Receive, Probe, Begin, Join, End, Action, Rest, Own, Meets}

abbrev pub IsOutsideBlocks : Action → Type 0
IsOutsideBlocks Rest = Unit {0}
IsOutsideBlocks (Own after lines drops cost) = Unit {0}
IsOutsideBlocks (Meets (Fail line fault)) = Unit {0}
IsOutsideBlocks (Meets (Make places writers cost next)) = Unit {0}
IsOutsideBlocks (Meets (Send channel writer items next)) = Unit {0}
IsOutsideBlocks (Meets (Receive channel line items iostat at_end next)) = Unit {0}
IsOutsideBlocks (Meets (Probe channel place next)) = Unit {0}
IsOutsideBlocks (Meets Begin) = ⊥
IsOutsideBlocks (Meets (Join block kids next)) = ⊥
IsOutsideBlocks (Meets End) = Unit {0}
