-- Processes in memory, numbered from 0 in the order of starting, by their paths.
-- Source: this profile.
use Rattle.std.specs.Prelude.{◌+◌, ◌<◌, ◌≤◌, ◌^◌, ℕ, Bool, false, Option, Some, None, List, length, vec_len, vec_capacity}
use Rattle.std.specs.Ordering.{eq_by_cmp}
use Rattle.std.specs.List.{zip}
use Rattle.std.specs.FinMap.{FinMap}
use Rattle.std.specs.declared.alloc.Global.{Global}
use Rattle.std.specs.declared.sync.Arc.{Arc}
use Rattle.fm_base.specs.PathOrder.{path_cmp}
use Rattle.fm_base.specs.declared.path.Path.{Path}
use Rattle.fm_finmap.specs.Map.{map_values}
use Rattle.fm_finmap.specs.Rows.{numbered_map, places_in}
use Rattle.fm_net.specs.Machine.{Place, Procs}
use Rattle.fm_nodes_procs.specs.declared.processes.Processes.{Processes}

-- this is the place
abbrev pub is_the : Place → Option Place → Bool
is_the p None = false
is_the p (Some q) = eq_by_cmp path_cmp q p

module _ {X : Type 0} where
  -- each path with its process, in the order of starting
  abbrev pub rows_in : List (Arc Path Global) → List X → List (Place × X)
  rows_in paths values = zip (places_in paths) values

  -- the paths in the order of starting
  abbrev pub order_of : Processes X → List Place
  order_of x = places_in x.paths.items

  -- the processes by their paths
  abbrev pub by_path : Processes X → FinMap path_cmp X
  by_path x = numbered_map (rows_in x.paths.items x.values.items)

  -- and as a language sees them
  unfoldable pub procs_of : {Proc : Type 0} → (X → Proc) → Processes X → Procs Proc
  procs_of seen x = map_values seen (by_path x)

  -- there is room for so many more
  pub record HasRoom (x : Processes X) (count : ℕ) : Type 0 where
    pub paths : vec_len x.paths + count ≤ vec_capacity x.paths
    pub values : vec_len x.values + count ≤ vec_capacity x.values
    pub few : length x.values.items + count < 2 ^ 32
