-- The options that were read so far, with those that come.
-- Source: this profile.
use Rattle.std.specs.Prelude.{cond, option_to_list, Option, List, [], ◌∷◌, ◌++◌, filter}
use Rattle.std.specs.List.{filter_map}
use Rattle.fm_words.specs.declared.option.Setting.{Setting}
use Rattle.fm_words.specs.declared.option.Setting.TheVariants.{Vars}
use Rattle.fm_words.specs.declared.settings.Settings.{Settings}
use Rattle.fm_words.specs.Words.{Given, turns_in, workers_in, slice_in, plan_in, is_vars, asked}

abbrev pub given_with : Settings → List Setting → Given
given_with s ss = record {
  turns = option_to_list s.turns ++ filter_map turns_in ss;
  workers = option_to_list s.workers ++ filter_map workers_in ss;
  slices = option_to_list s.slice ++ filter_map slice_in ss;
  plans = option_to_list s.plan ++ filter_map plan_in ss;
  vars = cond s.vars (Vars ∷ []) [] ++ filter is_vars ss;
}

-- what is asked for by both
abbrev pub asked_with : Settings → List Setting → Option Settings
asked_with s ss = asked (given_with s ss)
