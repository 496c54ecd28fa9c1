-- Where instructions go, and which of them begin and join blocks.
-- Source: this profile; the Fortran M report (process blocks).
use Rattle.std.specs.Prelude.{◌≡◌, ℕ, suc, Bool, true, false, Option, Some, None, List, [], ◌∷◌, slice_get}
use Rattle.std.specs.List.{Contains}
use Rattle.fm_code.specs.declared.instr.End.{End}
use Rattle.fm_code.specs.declared.instr.End.TheVariants as end
use Rattle.fm_code.specs.declared.instr.Meet.{Meet}
use Rattle.fm_code.specs.declared.instr.Meet.TheVariants as meet
use Rattle.fm_code.specs.declared.instr.Instr.{Instr}
use Rattle.fm_code.specs.declared.instr.Instr.TheVariants as instr
use Rattle.fm_code_kinds.specs.Kinded.{Coded}

-- where an instruction that ends its statement goes
abbrev pub end_leads : End → List ℕ
end_leads (end.Goto to) = to ∷ []
end_leads (end.Test holding failing) = holding ∷ failing ∷ []
end_leads (end.Store k to) = to ∷ []
end_leads (end.StoreAt to) = to ∷ []
end_leads (end.Enter body behind) = body ∷ behind ∷ []
end_leads (end.Again body behind) = body ∷ behind ∷ []
end_leads (end.Print to) = to ∷ []
end_leads (end.Call n to) = to ∷ []
end_leads (end.Refer n to) = to ∷ []
end_leads end.Return = []
end_leads (end.ReturnValue k) = []
end_leads (end.Start n to) = to ∷ []

abbrev pub meet_leads : Meet → List ℕ
meet_leads meet.Stop = []
meet_leads (meet.Send next) = next ∷ []
meet_leads (meet.Receive next) = next ∷ []
meet_leads (meet.ReceiveOr at_end next) = at_end ∷ next ∷ []
meet_leads (meet.Channel next) = next ∷ []
meet_leads (meet.ChannelFrom next) = next ∷ []
meet_leads (meet.Merger next) = next ∷ []
meet_leads (meet.EndChannel next) = next ∷ []
meet_leads (meet.MovePort next) = next ∷ []
meet_leads (meet.Probe next) = next ∷ []
meet_leads (meet.Begin next) = next ∷ []
meet_leads (meet.Join next) = next ∷ []

abbrev pub leads : Instr → List ℕ
leads (instr.Eval i) = []
leads (instr.Build i) = []
leads (instr.End i) = end_leads i
leads (instr.Meet i) = meet_leads i

-- where the instruction at an address goes, inside its statement or behind it
abbrev pub goes : (at : ℕ) → Instr → List ℕ
goes at (instr.Eval i) = suc at ∷ []
goes at (instr.Build i) = suc at ∷ []
goes at (instr.End i) = end_leads i
goes at (instr.Meet i) = meet_leads i

abbrev pub meet_begins : Meet → Bool
meet_begins meet.Stop = false
meet_begins (meet.Send next) = false
meet_begins (meet.Receive next) = false
meet_begins (meet.ReceiveOr at_end next) = false
meet_begins (meet.Channel next) = false
meet_begins (meet.ChannelFrom next) = false
meet_begins (meet.Merger next) = false
meet_begins (meet.EndChannel next) = false
meet_begins (meet.MovePort next) = false
meet_begins (meet.Probe next) = false
meet_begins (meet.Begin next) = true
meet_begins (meet.Join next) = false

abbrev pub is_begin : Instr → Bool
is_begin (instr.Eval i) = false
is_begin (instr.Build i) = false
is_begin (instr.End i) = false
is_begin (instr.Meet i) = meet_begins i

abbrev pub meet_joins : Meet → Bool
meet_joins meet.Stop = false
meet_joins (meet.Send next) = false
meet_joins (meet.Receive next) = false
meet_joins (meet.ReceiveOr at_end next) = false
meet_joins (meet.Channel next) = false
meet_joins (meet.ChannelFrom next) = false
meet_joins (meet.Merger next) = false
meet_joins (meet.EndChannel next) = false
meet_joins (meet.MovePort next) = false
meet_joins (meet.Probe next) = false
meet_joins (meet.Begin next) = false
meet_joins (meet.Join next) = true

abbrev pub is_join : Option Instr → Bool
is_join None = false
is_join (Some (instr.Eval i)) = false
is_join (Some (instr.Build i)) = false
is_join (Some (instr.End i)) = false
is_join (Some (instr.Meet i)) = meet_joins i

-- behind each instruction that begins a block stands one that joins it; nothing else goes to one, and no statement of the source
-- begins there
pub record JoinsStand (c : Coded) : Type 0 where
  pub behind : (a : ℕ) (i : Instr) → slice_get c.code a ≡ Some i → is_begin i ≡ true → is_join (slice_get c.code (suc a)) ≡ true
  pub alone : (a to : ℕ) (i : Instr) → slice_get c.code a ≡ Some i → is_begin i ≡ false → Contains (goes a i) to → is_join (slice_get c.code to) ≡ false
  pub entries : (k a : ℕ) → slice_get c.entries k ≡ Some a → is_join (slice_get c.code a) ≡ false
