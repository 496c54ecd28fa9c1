-- The parts of an event at a channel.
-- Source: this profile.
use Rattle.std.specs.Prelude.{Option, Some}
use Rattle.std.specs.Option.{option_map}
use Rattle.fm_base.specs.declared.path.ChanName.{ChanName}
use Rattle.fm_base.specs.declared.port.PortValue.{PortValue}
use Rattle.fm_base.specs.Channels.{channel_of}
use Rattle.fm_code.specs.declared.body.Body.{Body}
use Rattle.fm_proc_language.specs.Processes.{CodeProc}

-- the channel of a port, if it is there
abbrev pub channel_in : Option PortValue → Option ChanName
channel_in = option_map channel_of

-- a process whose body stands apart
abbrev pub with_body : CodeProc → Body → CodeProc
with_body y b = record y { body = Some b }
