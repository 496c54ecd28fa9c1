-- The command set: which words are a command, and which command.
-- Source: this profile.
use Rattle.std.specs.Prelude.{ℕ, Bool, true, false, ◌&&◌, ◌≤◌, cond, nat_le, nat_lt, Option, Some, None, is_none, option_map, option_and_then, unwrap_or, List, [], ◌∷◌, length, take, drop, filter, slice_get, codes}
use Rattle.std.specs.Char.{is_ascii_digit}
use Rattle.std.specs.List.{list_all, filter_map}
use Rattle.std.specs.Option.{option_map_or}
use Rattle.std.specs.Str.{bytes_eq}
use Rattle.std.specs.Str.Parse.{digits_value}
use Rattle.std.proofs.Math.Decide.{dec_le}
use Rattle.fm_base.specs.declared.schedule.Plan.{Plan}
use Rattle.fm_base.specs.declared.schedule.Plan.TheVariants.{Cyclic, Block}
use Rattle.fm_base.specs.declared.schedule.Setup.{Setup}
use Rattle.fm_words.specs.declared.command.Command.{Command}
use Rattle.fm_words.specs.declared.command.Command.TheVariants as command
use Rattle.fm_words.specs.declared.option.OptionName.{OptionName}
use Rattle.fm_words.specs.declared.option.OptionName.TheVariants as name
use Rattle.fm_words.specs.declared.option.Setting.{Setting}
use Rattle.fm_words.specs.declared.option.Setting.TheVariants.{Turns, Workers, Slice, PlanIs, Vars}
use Rattle.fm_words.specs.declared.settings.Settings.{Settings}

-- ---- values

-- 1 to 18 digits
abbrev pub is_numeral : List ℕ → Bool
is_numeral word = nat_lt 0 (length word) && nat_le (length word) 18 && list_all is_ascii_digit word

-- the number that a word writes
abbrev pub number_of : List ℕ → Option ℕ
number_of word = cond (is_numeral word) (Some (digits_value 10 word)) None

-- the plan that a word names
abbrev pub plan_of : List ℕ → Option Plan
plan_of word =
    cond (bytes_eq word (codes "cyclic")) (Some Cyclic)
    (cond (bytes_eq word (codes "block")) (Some Block) None)

-- an option with the value that a word writes
abbrev pub setting_with : OptionName → List ℕ → Option Setting
setting_with name.Turns value = option_map Turns (number_of value)
setting_with name.Workers value = option_map Workers (number_of value)
setting_with name.Slice value = option_map Slice (number_of value)
setting_with name.Plan value = option_map PlanIs (plan_of value)

-- ---- options

-- the option whose value is the next word
abbrev pub name_of : List ℕ → Option OptionName
name_of word =
    cond (bytes_eq word (codes "--turns")) (Some name.Turns)
    (cond (bytes_eq word (codes "--workers")) (Some name.Workers)
    (cond (bytes_eq word (codes "--slice")) (Some name.Slice)
    (cond (bytes_eq word (codes "--plan")) (Some name.Plan) None)))

-- the word begins with this front
abbrev pub has_front : List ℕ → List ℕ → Bool
has_front front word = bytes_eq (take (length front) word) front

-- an option with its value, in one word
abbrev pub name_and_value : List ℕ → Option (OptionName × List ℕ)
name_and_value word =
    cond (has_front (codes "--turns=") word) (Some (name.Turns, drop 8 word))
    (cond (has_front (codes "--workers=") word) (Some (name.Workers, drop 10 word))
    (cond (has_front (codes "--slice=") word) (Some (name.Slice, drop 8 word))
    (cond (has_front (codes "--plan=") word) (Some (name.Plan, drop 7 word)) None)))

-- an option of one word: `--vars`, or one with its value behind `=`
abbrev pub setting_of : List ℕ → Option Setting
setting_of word =
    cond (bytes_eq word (codes "--vars")) (Some Vars)
    (option_and_then (λ p. setting_with p.0 p.1) (name_and_value word))

-- an option in front of others
abbrev pub first_and_others : Option Setting → Option (List Setting) → Option (List Setting)
first_and_others first others = option_and_then (λ s. option_map (λ ss. s ∷ ss) others) first

-- the options that the words are cut into, or none where they are no options
abbrev mutual
  pub settings_of : List (List ℕ) → Option (List Setting)
  settings_of [] = Some []
  settings_of (w ∷ ws) = option_map_or (settings_behind ws) (name_of w) (first_and_others (setting_of w) (settings_of ws))

  -- those of the words behind a name: the first of them is its value
  pub settings_behind : List (List ℕ) → OptionName → Option (List Setting)
  settings_behind [] n = None
  settings_behind (w ∷ ws) n = first_and_others (setting_with n w) (settings_of ws)

-- ---- what the options ask for

abbrev pub turns_in : Setting → Option ℕ
turns_in (Turns n) = Some n
turns_in _ = None

abbrev pub workers_in : Setting → Option ℕ
workers_in (Workers n) = Some n
workers_in _ = None

abbrev pub slice_in : Setting → Option ℕ
slice_in (Slice n) = Some n
slice_in _ = None

abbrev pub plan_in : Setting → Option Plan
plan_in (PlanIs p) = Some p
plan_in _ = None

abbrev pub is_vars : Setting → Bool
is_vars Vars = true
is_vars _ = false

-- what the options of each kind give
pub record Given : Type 0 where
  pub turns : List ℕ
  pub workers : List ℕ
  pub slices : List ℕ
  pub plans : List Plan
  pub vars : List Setting

abbrev pub given : List Setting → Given
given ss = record {
  turns = filter_map turns_in ss;
  workers = filter_map workers_in ss;
  slices = filter_map slice_in ss;
  plans = filter_map plan_in ss;
  vars = filter is_vars ss;
}

abbrev pub is_single : {X : Type 0} → List X → Bool
is_single xs = nat_le (length xs) 1

-- each option stands at most once
abbrev pub are_single : Given → Bool
are_single g = is_single g.turns && is_single g.workers && is_single g.slices && is_single g.plans && is_single g.vars

-- what is asked for, where each option stands at most once
abbrev pub asked : Given → Option Settings
asked g = cond (are_single g) (Some (record {
  turns = slice_get g.turns 0;
  workers = slice_get g.workers 0;
  slice = slice_get g.slices 0;
  plan = slice_get g.plans 0;
  vars = nat_lt 0 (length g.vars);
})) None

-- what the words ask for, where they are options
abbrev pub options_of : List (List ℕ) → Option Settings
options_of ws = option_and_then (λ ss. asked (given ss)) (settings_of ws)

-- ---- the setup

-- a number in a range
pub record Within (low high : ℕ) : Type 0 where
  pub number : ℕ
  pub least : low ≤ number
  pub most : number ≤ high

-- the number, where both tests of it pass
abbrev pub kept : (low high n : ℕ) → Dec (low ≤ n) → Dec (n ≤ high) → Option (Within low high)
kept low high n (yes h) (yes k) = Some (record { number = n; least = h; most = k })
kept low high n (yes h) (no _) = None
kept low high n (no _) d = None

-- the number, where it is in the range
abbrev pub within : (low high n : ℕ) → Option (Within low high)
within low high n = kept low high n (dec_le low n) (dec_le n high)

-- the setup with these values, where each is in its range
abbrev pub setup_with : ℕ → ℕ → ℕ → Plan → Option Setup
setup_with turns workers slice plan =
    option_and_then (λ t. option_and_then (λ w. option_map (λ s. record {
      turns = t.number;
      slice = s.number;
      workers = w.number;
      plan = plan;
      some_turns = t.least;
      few_turns = t.most;
      some_slice = s.least;
      small_slice = s.most;
      some_workers = w.least;
      few_workers = w.most;
    }) (within 1 1000000 slice)) (within 1 64 workers)) (within 1 1000000000 turns)

-- the setup that is asked for: 10,000,000 turns, 4 workers, slices of 1,000 steps and the cyclic plan where nothing else is
abbrev pub setup_of : Settings → Option Setup
setup_of s = setup_with (unwrap_or s.turns 10000000) (unwrap_or s.workers 4) (unwrap_or s.slice 1000) (unwrap_or s.plan Cyclic)

-- ---- commands

abbrev pub run_with : Settings → Option Command
run_with s = option_map (λ u. command.Run u s.vars) (setup_of s)

-- a trace is the same whether the variables are asked for or not
abbrev pub trace_with : Settings → Option Command
trace_with s = option_map command.Trace (setup_of s)

-- nothing is asked for but the variables, or nothing at all
abbrev pub has_vars_only : Settings → Bool
has_vars_only s = is_none s.turns && is_none s.workers && is_none s.slice && is_none s.plan

-- the setup of a replay is that of its trace
abbrev pub replay_with : Settings → Option Command
replay_with s = cond (has_vars_only s) (Some (command.Replay s.vars)) None

-- `demo` has no variables to show
abbrev pub demo_with : ℕ → Settings → Option Command
demo_with n s = cond s.vars None (option_map (command.Demo n) (setup_of s))

-- `nodes` has one thread and takes its steps one by one
abbrev pub has_no_threads : Settings → Bool
has_no_threads s = is_none s.workers && is_none s.slice

abbrev pub nodes_with : ℕ → Settings → Option Command
nodes_with n s = cond (has_no_threads s) (option_map (λ u. command.Nodes n u s.vars) (setup_of s)) None

-- `exec` has one thread and pieces of its own: of the setup only the turns are asked for
abbrev pub has_turns_only : Settings → Bool
has_turns_only s = has_no_threads s && is_none s.plan

abbrev pub exec_with : Settings → Option Command
exec_with s = cond (has_turns_only s) (option_map (λ u. command.Exec u.turns s.vars) (setup_of s)) None

-- a command that takes no more words
abbrev pub alone : Command → List (List ℕ) → Option Command
alone c [] = Some c
alone c (w ∷ ws) = None

-- `run` and its options
abbrev pub run_of : List (List ℕ) → Option Command
run_of ws = option_and_then run_with (options_of ws)

-- `trace` and its options
abbrev pub trace_of : List (List ℕ) → Option Command
trace_of ws = option_and_then trace_with (options_of ws)

-- `replay` and its option
abbrev pub replay_of : List (List ℕ) → Option Command
replay_of ws = option_and_then replay_with (options_of ws)

-- `exec` and its options
abbrev pub exec_of : List (List ℕ) → Option Command
exec_of ws = option_and_then exec_with (options_of ws)

-- `make` and its number
abbrev pub make_of : List (List ℕ) → Option Command
make_of [] = None
make_of (w ∷ ws) = option_and_then (λ n. alone (command.Make n) ws) (number_of w)

-- a number and options behind it
abbrev pub numbered_of : List (List ℕ) → Option (ℕ × Settings)
numbered_of [] = None
numbered_of (w ∷ ws) = option_and_then (λ n. option_map (λ s. (n, s)) (options_of ws)) (number_of w)

-- `demo`, its number and its options
abbrev pub demo_of : List (List ℕ) → Option Command
demo_of ws = option_and_then (λ p. demo_with p.0 p.1) (numbered_of ws)

-- `nodes`, its number and its options
abbrev pub nodes_of : List (List ℕ) → Option Command
nodes_of ws = option_and_then (λ p. nodes_with p.0 p.1) (numbered_of ws)

-- the command that the words are, where they are in the command set
abbrev pub command_of : List (List ℕ) → Option Command
command_of [] = None
command_of (w ∷ ws) =
    cond (bytes_eq w (codes "run")) (run_of ws)
    (cond (bytes_eq w (codes "trace")) (trace_of ws)
    (cond (bytes_eq w (codes "replay")) (replay_of ws)
    (cond (bytes_eq w (codes "check")) (alone command.Check ws)
    (cond (bytes_eq w (codes "list")) (alone command.List ws)
    (cond (bytes_eq w (codes "make")) (make_of ws)
    (cond (bytes_eq w (codes "demo")) (demo_of ws)
    (cond (bytes_eq w (codes "flow")) (alone command.Flow ws)
    (cond (bytes_eq w (codes "compile")) (alone command.Compile ws)
    (cond (bytes_eq w (codes "exec")) (exec_of ws)
    (cond (bytes_eq w (codes "nodes")) (nodes_of ws) None))))))))))
