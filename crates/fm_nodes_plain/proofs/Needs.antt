-- What a process of a plain program asks for: words to send, channels of one writer, and nobody looks.
use Rattle.std.proofs.Common.{◌≡◌, ◌≤◌, ℕ, subst}
use Rattle.fm_base.specs.declared.path.ChanName.{ChanName}
use Rattle.fm_base.specs.declared.port.PortValue.TheVariants.{Writer}
use Rattle.fm_base.specs.Channels.{Message, Push, Look}
use Rattle.fm_net.specs.Machine.{New, Reply, Onward, Go}
use Rattle.fm_net.specs.Machine as net
use Rattle.fm_net.specs.Lawful.{IsLawfulAsk}
use Rattle.fm_net.specs.Owned.{count}
use Rattle.fm_net.specs.Plain.{IsPlainAsk}
use Rattle.fm_net.specs.Typed.{IsTypedAsk}
use Rattle.fm_rules.specs.declared.program.Program.{Program}
use Rattle.fm_mean.specs.Fits.{Types, IsFine, Fits}
use Rattle.fm_mean.specs.Process.{Proc, held}
use Rattle.fm_mean.specs.Steps.{ask, language}
use Rattle.fm_mean.proofs.Lawful.{lawful}
use Rattle.fm_mean.proofs.Determined.{IsWithin, stays_within}
use Rattle.fm_mean.proofs.TypedLanguage.{typed_language}
use Rattle.fm_mean.proofs.TypedTrees.{typed_program}
use Rattle.fm_mean.proofs.ProgramMeanings.{program_has_types}
use Rattle.fm_link_law.specs.Loads.{AreWords}
use Rattle.fm_nodes_plain.specs.Plain.{HasWordsAlone, IsPlainProgram}
use Rattle.fm_nodes_plain.proofs.Words.{words_fit, held_wordy}

module _ (p : Program) (x : Proc) where
  module _ (plain : IsPlainProgram p) (within : IsWithin p x) where
    -- nobody looks whether a receive would wait
    pub nobody_looks : (c : ChanName) (g : ChanName → Reply Proc → Onward Proc) → ask p x ≡ Go (net.Event c Look) g → ⊥
    nobody_looks c g e = (subst (IsPlainAsk (language p) (IsWithin p)) e ((stays_within p plain.deterministic).goes x within)).single

    -- a channel has one writer at most
    pub one_writer : (n k : ℕ) (g : ChanName → Reply Proc → Onward Proc) → ask p x ≡ Go (New n k) g → k ≤ 1
    one_writer n k g e = (subst (IsPlainAsk (language p) (IsWithin p)) e ((stays_within p plain.deterministic).goes x within)).single

    -- a message is words
    pub sends_words : (types : Types) → IsFine p types x → (c : ChanName) (w : ℕ) (m : Message) (g : ChanName → Reply Proc → Onward Proc) → ask p x ≡ Go (net.Event c (Push w m)) g → AreWords m
    sends_words types fine c w m g e = words_fit types (types c) m wordy fits
      where
        fits : Fits types c m
        fits = (subst (IsTypedAsk (language p) (IsFine p) Fits x) e ((typed_language p (typed_program p (program_has_types p))).goes x)).sends types fine

        uses : 1 ≤ count (Writer c w) (held x)
        uses = (subst (IsLawfulAsk (language p) x) e ((lawful p).goes x)).uses

        wordy : HasWordsAlone (types c)
        wordy = held_wordy p types plain x within fine (Writer c w) uses
