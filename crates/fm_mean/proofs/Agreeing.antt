-- What a process or a message may hold depends on the types of its own ports alone.
use Rattle.std.proofs.Common.{◌≡◌, ℕ, ◌≤◌, Option, Some, None, List, [], ◌∷◌, ◌++◌, sym, ◌∙◌, arith}
use Rattle.fm_base.specs.declared.port.PortValue.{PortValue}
use Rattle.fm_base.specs.declared.port.PortValue.TheVariants.{Writer, Reader}
use Rattle.fm_base.specs.Channels.{Item, Words, Ports, Message, message_ports, item_ports, channel_of}
use Rattle.fm_net.specs.Owned.{count}
use Rattle.fm_net.specs.Typed.{AllIn}
use Rattle.fm_net.proofs.Counts.{count-cons, count-append, one_self}
use Rattle.fm_tree.specs.PortFields.{PortFields, FieldKind, NoFields, FieldThen, Integer, Logical, In, Out}
use Rattle.fm_symbols.specs.declared.names.Variable.{Variable}
use Rattle.fm_rules.specs.PortTypes.{sizing_place}
use Rattle.fm_rules.specs.declared.program.Program.{Program}
use Rattle.fm_mean.specs.Process.{Start, Frame, started_ports, frame_ports, frames_ports}
use Rattle.fm_mean.specs.Fits.{sort_of_variable, elements_behind, Types, PortFits, MayStand, ItemFits, ValuesFit, FieldsFit, MessageFits, variables_of, StartFits, FrameFits, FramesFit}
use Rattle.fm_mean.proofs.Exchanges.{living, found, within, living-cons, within-cons}
use Rattle.fm_mean.proofs.Calling.{frame-parts, frames-cons}

module _ (types others : Types) where
  -- the types agree for each port that is counted
  abbrev pub Agree : (PortValue → ℕ) → Type 0
  Agree f = (z : PortValue) → 1 ≤ f z → types (channel_of z) ≡ others (channel_of z)

  port_agrees : (s : FieldKind) (z : PortValue) → types (channel_of z) ≡ others (channel_of z) → PortFits types s z → PortFits others s z
  port_agrees Integer z e h = h
  port_agrees Logical z e h = h
  port_agrees (In t) (Reader c) e h = sym e ∙ h
  port_agrees (In t) (Writer c w) e h = h
  port_agrees (Out t) (Writer c w) e h = sym e ∙ h
  port_agrees (Out t) (Reader c) e h = h

  stand_agrees : (s : FieldKind) (p : Option PortValue) → Agree (λ z. found z p) → MayStand types s p → MayStand others s p
  stand_agrees s None e h = tt
  stand_agrees s (Some z) e h = port_agrees s z (e z (omega (arith, count-cons z z [], one_self z))) h

  all_agree : (s : FieldKind) (ps : List (Option PortValue)) → Agree (λ z. living z ps) → AllIn (MayStand types s) ps → AllIn (MayStand others s) ps
  all_agree s [] e all = tt
  all_agree s (p ∷ ps) e all = (stand_agrees s p (λ z h. e z (omega (arith, living-cons z p ps))) all.0, all_agree s ps (λ z h. e z (omega (arith, living-cons z p ps))) all.1)

  item_agrees : (s : FieldKind) (n : ℕ) (v : Item) → Agree (λ z. count z (item_ports v)) → ItemFits types s n v → ItemFits others s n v
  item_agrees Integer n (Words ws) e h = h
  item_agrees Integer n (Ports ps) e h = h
  item_agrees Logical n (Words ws) e h = h
  item_agrees Logical n (Ports ps) e h = h
  item_agrees (In t) n (Words ws) e h = h
  item_agrees (In t) n (Ports ps) e h = (h.0, all_agree (In t) ps e h.1)
  item_agrees (Out t) n (Words ws) e h = h
  item_agrees (Out t) n (Ports ps) e h = (h.0, all_agree (Out t) ps e h.1)

  pub values_agree : (vars : List Variable) (vs : List Item) → Agree (λ z. within z vs) → ValuesFit types vars vs → ValuesFit others vars vs
  values_agree [] [] e h = tt
  values_agree [] (x ∷ xs) e h = h
  values_agree (v ∷ vars) [] e h = h
  values_agree (v ∷ vars) (x ∷ xs) e h = (item_agrees (sort_of_variable v) v.words x (λ z l. e z (omega (arith, within-cons z x xs))) h.0, values_agree vars xs (λ z l. e z (omega (arith, within-cons z x xs))) h.1)

  fields_agree : (told : Message) (t : PortFields) (m : Message) → Agree (λ z. within z m) → FieldsFit types told t m → FieldsFit others told t m
  fields_agree told NoFields [] e h = tt
  fields_agree told NoFields (x ∷ xs) e h = h
  fields_agree told (FieldThen s a n rest) [] e h = h
  fields_agree told (FieldThen s a n rest) (x ∷ xs) e h = (
    item_agrees s (elements_behind told (sizing_place n) n) x (λ z l. e z (omega (arith, within-cons z x xs))) h.0,
    fields_agree (told ++ x ∷ []) rest xs (λ z l. e z (omega (arith, within-cons z x xs))) h.1,
  )

  pub message_agrees : (t : PortFields) (m : Message) → Agree (λ z. within z m) → MessageFits types t m → MessageFits others t m
  message_agrees t m e h = fields_agree [] t m e h

  module _ (p : Program) where
    starts_agree : (mine : List Variable) (ss : List Start) → Agree (λ z. count z (started_ports ss)) → AllIn (StartFits p types mine) ss → AllIn (StartFits p others mine) ss
    starts_agree mine [] e all = tt
    starts_agree mine (s ∷ ss) e all = (
      (values_agree (variables_of p s.unit) s.values (λ z l. e z (omega (arith, count-append z (message_ports s.values) (started_ports ss)))) all.0.0, all.0.1),
      starts_agree mine ss (λ z l. e z (omega (arith, count-append z (message_ports s.values) (started_ports ss)))) all.1,
    )

    frame_agrees : (f : Frame) → Agree (λ z. count z (frame_ports f)) → FrameFits p types f → FrameFits p others f
    frame_agrees f e h = (
      values_agree (variables_of p f.unit) f.values (λ z l. e z (omega (arith, frame-parts z f))) h.0,
      starts_agree (variables_of p f.unit) f.starts (λ z l. e z (omega (arith, frame-parts z f))) h.1,
    )

    pub frames_agree : (fs : List Frame) → Agree (λ z. count z (frames_ports fs)) → FramesFit p types fs → FramesFit p others fs
    frames_agree [] e h = tt
    frames_agree (f ∷ []) e h = frame_agrees f (λ z l. e z (omega (arith, frames-cons z f [], frame-parts z f))) h
    frames_agree (f ∷ g ∷ fs) e h = (
      frame_agrees f (λ z l. e z (omega (arith, frames-cons z f (g ∷ fs), frame-parts z f))) h.0,
      h.1,
      frames_agree (g ∷ fs) (λ z l. e z (omega (arith, frames-cons z f (g ∷ fs)))) h.2,
    )
