-- The channels of a plain program have types without ports, so its messages are words.
use Rattle.std.proofs.Common.{◌≡◌, ◌≤◌, ℕ, List, [], ◌∷◌, ◌++◌, Option, Some, None, sym, subst, arith}
use Rattle.std.specs.List.{filter_map}
use Rattle.fm_base.specs.declared.port.PortValue.{PortValue}
use Rattle.fm_base.specs.declared.port.PortValue.TheVariants.{Writer, Reader}
use Rattle.fm_base.specs.Channels.{Item, Words, Ports, Message, item_ports, message_ports, channel_of}
use Rattle.fm_net.specs.Typed.{AllIn}
use Rattle.fm_net.specs.Owned.{count}
use Rattle.fm_net.proofs.Counts.{count-nil, count-cons, one_apart, port_decide}
use Rattle.fm_tree.specs.PortFields.{PortFields, FieldKind, NoFields, FieldThen, Integer, Logical, In, Out}
use Rattle.fm_symbols.specs.declared.names.Variable.{Variable}
use Rattle.fm_rules.specs.declared.program.Program.{Program}
use Rattle.fm_mean.specs.Fits.{Types, sort_of_variable, PortFits, MayStand, ItemFits, ValuesFit, FieldsFit, MessageFits, variables_of, StartFits, FrameFits, FramesFit, IsFine}
use Rattle.fm_mean.specs.Process.{Start, Frame, Proc, started_ports, frame_ports, frames_ports, held}
use Rattle.fm_mean.proofs.Determined.{IsReachedStart, IsReachedFrame, IsWithin}
use Rattle.fm_link_law.specs.Loads.{AreWords}
use Rattle.fm_nodes_plain.specs.Plain.{HasWordsAlone, CarriesWords, IsPlainProgram}

AllIn-append : {X : Type 0} (Fact : X → Type 0) (xs ys : List X) → AllIn Fact xs → AllIn Fact ys → AllIn Fact (xs ++ ys)
AllIn-append Fact [] ys some all = all
AllIn-append Fact (x ∷ xs) ys some all = (some.0, AllIn-append Fact xs ys some.1 all)

-- what holds of all holds of what is counted
in_all : (Fact : PortValue → Type 0) (z : PortValue) (zs : List PortValue) → AllIn Fact zs → 1 ≤ count z zs → Fact z
in_all Fact z [] all h = absurd (omega (arith, h, count-nil z))
in_all Fact z (y ∷ ys) all h = go (port_decide y z) (λ more. in_all Fact z ys all.1 more)
  where
    go : Dec (y ≡ z) → (1 ≤ count z ys → Fact z) → Fact z
    go (yes e) rest = subst Fact e all.0
    go (no n) rest = rest (omega (arith, h, count-cons z y ys, one_apart y z n))

-- a message that fits fields of such a type, behind what came before, is words
fields_words : (types : Types) (before : Message) (t : PortFields) (m : Message) → HasWordsAlone t → FieldsFit types before t m → AreWords m
fields_words types before NoFields [] alone fits = tt
fields_words types before NoFields (i ∷ m) alone fits = absurd fits
fields_words types before (FieldThen Integer name bounds rest) [] alone fits = absurd fits
fields_words types before (FieldThen Integer name bounds rest) (Words ws ∷ m) alone fits = (tt, fields_words types (before ++ Words ws ∷ []) rest m alone fits.1)
fields_words types before (FieldThen Integer name bounds rest) (Ports ps ∷ m) alone fits = absurd fits.0
fields_words types before (FieldThen Logical name bounds rest) [] alone fits = absurd fits
fields_words types before (FieldThen Logical name bounds rest) (Words ws ∷ m) alone fits = (tt, fields_words types (before ++ Words ws ∷ []) rest m alone fits.1)
fields_words types before (FieldThen Logical name bounds rest) (Ports ps ∷ m) alone fits = absurd fits.0
fields_words types before (FieldThen (In t) name bounds rest) m alone fits = absurd alone
fields_words types before (FieldThen (Out t) name bounds rest) m alone fits = absurd alone

-- so is a message that fits such a type
pub words_fit : (types : Types) (t : PortFields) (m : Message) → HasWordsAlone t → MessageFits types t m → AreWords m
words_fit types t m alone fits = fields_words types [] t m alone fits

module _ (p : Program) (types : Types) where
  -- the port's channel carries words alone
  abbrev pub Wordy : PortValue → Type 0
  Wordy z = HasWordsAlone (types (channel_of z))

  port_wordy : (s : FieldKind) → CarriesWords s → (z : PortValue) → PortFits types s z → Wordy z
  port_wordy Integer carries z fits = absurd fits
  port_wordy Logical carries z fits = absurd fits
  port_wordy (In t) carries (Reader c) fits = subst HasWordsAlone (sym fits) carries
  port_wordy (In t) carries (Writer c w) fits = absurd fits
  port_wordy (Out t) carries (Writer c w) fits = subst HasWordsAlone (sym fits) carries
  port_wordy (Out t) carries (Reader c) fits = absurd fits

  ports_wordy : (s : FieldKind) → CarriesWords s → (ps : List (Option PortValue)) → AllIn (MayStand types s) ps → AllIn Wordy (filter_map (λ q. q) ps)
  ports_wordy s carries [] all = tt
  ports_wordy s carries (None ∷ ps) all = ports_wordy s carries ps all.1
  ports_wordy s carries (Some z ∷ ps) all = (port_wordy s carries z all.0, ports_wordy s carries ps all.1)

  item_wordy : (s : FieldKind) → CarriesWords s → (n : ℕ) (i : Item) → ItemFits types s n i → AllIn Wordy (item_ports i)
  item_wordy s carries n (Words ws) fits = tt
  item_wordy Integer carries n (Ports ps) fits = absurd fits
  item_wordy Logical carries n (Ports ps) fits = absurd fits
  item_wordy (In t) carries n (Ports ps) fits = ports_wordy (In t) carries ps fits.1
  item_wordy (Out t) carries n (Ports ps) fits = ports_wordy (Out t) carries ps fits.1

  values_wordy : (vars : List Variable) (vs : List Item) → AllIn (λ v. CarriesWords (sort_of_variable v)) vars → ValuesFit types vars vs → AllIn Wordy (message_ports vs)
  values_wordy [] [] all fits = tt
  values_wordy [] (i ∷ vs) all fits = absurd fits
  values_wordy (v ∷ vars) [] all fits = absurd fits
  values_wordy (v ∷ vars) (i ∷ vs) all fits = AllIn-append Wordy (item_ports i) (message_ports vs) (item_wordy (sort_of_variable v) all.0 v.words i fits.0) (values_wordy vars vs all.1 fits.1)

  module _ (plain : IsPlainProgram p) where
    starts_wordy : (mine : List Variable) (ss : List Start) → AllIn (IsReachedStart p) ss → AllIn (StartFits p types mine) ss → AllIn Wordy (started_ports ss)
    starts_wordy mine [] all fit = tt
    starts_wordy mine (s ∷ ss) all fit =
        AllIn-append Wordy (message_ports s.values) (started_ports ss) (values_wordy (variables_of p s.unit) s.values (plain.ports s.unit all.0) fit.0.0) (starts_wordy mine ss all.1 fit.1)

    frame_wordy : (f : Frame) → IsReachedFrame p f → FrameFits p types f → AllIn Wordy (frame_ports f)
    frame_wordy f reached fits =
        AllIn-append Wordy (message_ports f.values) (started_ports f.starts) (values_wordy (variables_of p f.unit) f.values (plain.ports f.unit reached.0) fits.0) (starts_wordy (variables_of p f.unit) f.starts reached.1 fits.1)

    frames_wordy : (fs : List Frame) → AllIn (IsReachedFrame p) fs → FramesFit p types fs → AllIn Wordy (frames_ports fs)
    frames_wordy [] all fit = tt
    frames_wordy (f ∷ []) all fit = AllIn-append Wordy (frame_ports f) [] (frame_wordy f all.0 fit) tt
    frames_wordy (f ∷ g ∷ fs) all fit = AllIn-append Wordy (frame_ports f) (frames_ports (g ∷ fs)) (frame_wordy f all.0 fit.0) (frames_wordy (g ∷ fs) all.1 fit.2)

    -- over the ports that a process holds go words alone
    pub held_wordy : (x : Proc) → IsWithin p x → IsFine p types x → (z : PortValue) → 1 ≤ count z (held x) → Wordy z
    held_wordy x within fine z h = in_all Wordy z (held x) (frames_wordy x.execution.frames within fine.0) h
