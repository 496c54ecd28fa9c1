-- Who holds the open writers of channels.
-- Source: the Fortran M report (outports; what a process gives back at the end of its block), with this profile's listing of
-- holders.
use Rattle.std.specs.Prelude.{◌-◌, cond, List, [], ◌∷◌, map, length, take}
use Rattle.std.specs.List.{flat_map}
use Rattle.std.specs.FinMap.{entries, from_entries}
use Rattle.fm_base.specs.declared.port.PortValue.{PortValue}
use Rattle.fm_base.specs.declared.port.PortValue.TheVariants.{Writer, Reader}
use Rattle.fm_net.specs.Machine.{Place, Procs, State}
use Rattle.fm_mean.specs.declared.outcome.Holder.{Holder}
use Rattle.fm_mean.specs.declared.outport.Outport.{Outport}
use Rattle.fm_mean.specs.Outports.{outport_cmp}
use Rattle.fm_mean.specs.Process.{Proc, has_ended, held}

-- the process that started the one at a path; nobody started main, which stands for itself
abbrev pub starter : Place → Place
starter q = take (length q - 1) q

-- who holds what stands with a process: itself, and where it has ended, the one that started it
abbrev pub holder_path : Place × Proc → Place
holder_path e = cond (has_ended e.1) (starter e.0) e.0

-- an outport with the path of its holder
abbrev pub holding : Place → PortValue → List (Outport × Place)
holding path (Writer c w) = (record { channel = c; number = w }, path) ∷ []
holding path (Reader c) = []

-- the outports in a process's variables and in its starts that wait
abbrev pub holdings_at : Place × Proc → List (Outport × Place)
holdings_at e = flat_map (holding (holder_path e)) (held e.1)

-- those of all processes, in path order; what stands in a message isn't among them
abbrev pub holdings : Procs Proc → List (Outport × Place)
holdings m = flat_map holdings_at (entries m)

abbrev pub holder_of : Outport × Place → Holder
holder_of h = record { channel = h.0.channel; writer = h.0.number; path = h.1 }

-- the holders in the order of the outports. An outport is held once; of two holders the first would count
abbrev pub holders_of : State Proc → List Holder
holders_of s = map holder_of (entries (from_entries {R = outport_cmp} (holdings s.procs)))
