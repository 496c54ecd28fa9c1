-- What a process does next, told with its operands and without doing it.
-- Source: this profile.
use Rattle.std.specs.Prelude.{◌≡◌, ℕ, ℤ, Option, Some, None, option_map, List, [], ◌∷◌, length}
use Rattle.fm_rules.specs.declared.program.Program.{Program}
use Rattle.fm_mean.specs.declared.place.Actual.{Actual}
use Rattle.fm_mean.specs.declared.place.Actual.TheVariants.{Given, Taken}
use Rattle.fm_mean.specs.Actions as mean
use Rattle.fm_mean.specs.Actions.{Action, action_of}
use Rattle.fm_mean.specs.Outcome.{need_of}
use Rattle.fm_mean.specs.Process.{Frame, Proc}
use Rattle.fm_plain.specs.Events.{IsEvent}
use Rattle.fm_nodes_trees.specs.declared.telling.Ahead.{Ahead}
use Rattle.fm_nodes_trees.specs.declared.telling.Ahead.TheVariants as ahead

-- a step of its own
abbrev pub IsOwn : Action → Type 0
IsOwn mean.Rest = ⊥
IsOwn (mean.Own w lines drops cost) = Unit {0}
IsOwn (mean.Meets e) = ⊥

-- nothing more, a step of its own, or an event
abbrev pub IsTold : Program → Proc → Ahead → Type 0
IsTold p x ahead.Rests = need_of p x ≡ None
IsTold p x ahead.Goes = IsOwn (action_of p x)
IsTold p x (ahead.Meets e) = IsEvent x.phase (action_of p x) e

-- the starts of the innermost frame
abbrev pub open_starts : List Frame → ℕ
open_starts [] = 0
open_starts (f ∷ below) = length f.starts

-- how many children start with an event
abbrev pub starts_with : List Frame → mean.Event → ℕ
starts_with fs (mean.Fail line fault) = 0
starts_with fs (mean.Make places writers cost next) = 0
starts_with fs (mean.Send channel writer items next) = 0
starts_with fs (mean.Receive channel line items iostat at_end next) = 0
starts_with fs (mean.Probe channel empty next) = 0
starts_with fs mean.Begin = open_starts fs
starts_with fs (mean.Join block kids next) = 0
starts_with fs mean.End = 0

-- the words of each item of a message, if no item is a port
abbrev pub given_words : List Actual → Option (List (List ℤ))
given_words [] = Some []
given_words (Given ws back ∷ items) = option_map (λ more. ws ∷ more) (given_words items)
given_words (Taken place ∷ items) = None
