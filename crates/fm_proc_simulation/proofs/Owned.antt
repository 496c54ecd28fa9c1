-- In a live state each port word of a body names its slot once; and the body, while the process has more to do, stands for it.
use Rattle.std.proofs.Common.{◌≡◌, ℕ, ℤ, ◌≤◌, Some, List, [], ◌∷◌, map, refl, sym, ap, ◌∙◌, subst, arith}
use Rattle.std.specs.FinMap.{get}
use Rattle.fm_base.specs.declared.port.PortValue.{PortValue}
use Rattle.fm_base.specs.Channels.{channel_of}
use Rattle.fm_finmap.specs.Sums.{total, value_or_zero}
use Rattle.fm_finmap.proofs.Keys.{path_order}
use Rattle.fm_finmap.proofs.Sums.{one_of_total}
use Rattle.fm_net.specs.Machine.{Place, State}
use Rattle.fm_net.specs.Owned.{count, one, IsOwned}
use Rattle.fm_net.proofs.Counts.{count-cons, one_self, opened_small}
use Rattle.fm_rules.specs.declared.program.Program.{Program}
use Rattle.fm_mean.specs.Process.{Kid, Phase, Running, Joining, Proc, held, frames_ports}
use Rattle.fm_mean.specs.Steps.{language}
use Rattle.fm_code.specs.declared.body.Body.{Body}
use Rattle.fm_proc_language.specs.Slots.{Slots, port_in}
use Rattle.fm_proc_language.specs.Processes.{CodeProc, body_words}
use Rattle.fm_proc_simulation.specs.SlotWords.{IsOther, AreOnce}
use Rattle.fm_proc_simulation.proofs.Same.{frames_held}
use Rattle.fm_gen.specs.Entries.{statement_address}
use Rattle.fm_gen.specs.Bodies.{next_address, IsAlive}
use Rattle.fm_proc_simulation.specs.Corresponds.{frame_address, EndsWhereJoining, BodyStands, BodyAlike, Corresponds, IsLive}
use Rattle.fm_proc_simulation.specs.Here.{Here}
use Rattle.fm_proc_simulation.proofs.Context.{tells_ports}

-- Each port stands once.

-- a word that stands again is a port that stands again
module _ (port : ℤ → PortValue) where
  other_word : (z : ℤ) (ws : List ℤ) → count (port z) (map port ws) ≤ 0 → IsOther z ws
  other_word z [] h = tt
  other_word z (w ∷ ws) h =
      let parts = count-cons (port z) (port w) (map port ws) in
      (λ e. absurd (omega (arith, h, parts, ap (λ v. one (port v) (port z)) (sym e), one_self (port z))), other_word z ws (omega (arith, h, parts)))

  once_words : (ws : List ℤ) → ((z : PortValue) → count z (map port ws) ≤ 1) → AreOnce ws
  once_words [] h = tt
  once_words (w ∷ ws) h = (
    other_word w ws (omega (arith, h (port w), count-cons (port w) (port w) (map port ws), one_self (port w))),
    once_words ws (λ z. omega (arith, h z, count-cons z (port w) (map port ws))),
  )

-- the port words of a body name what its process holds
pub holds_alike : (p : Program) (slots : Slots) (x : Proc) (b : Body) → BodyStands p slots x b → map (port_in slots) (body_words b) ≡ held x
holds_alike p slots x b s =
    frames_held p (statement_address p) (port_in slots) b (tells_ports p b s.loaded) (frame_address p x.phase s.frame b.frame) s.frame b.frame s.below b.below s.first s.others
    ∙ ap frames_ports (sym s.frames)

pub once_here : (p : Program) (slots : Slots) (x : Proc) (b : Body) → BodyStands p slots x b → ((z : PortValue) → count z (held x) ≤ 1) → AreOnce (body_words b)
once_here p slots x b s h = once_words (port_in slots) (body_words b) (λ z. omega (arith, h z, ap (count z) (holds_alike p slots x b s)))

pub owned_once : (p : Program) (s : State Proc) → IsOwned (language p) s → (q : Place) (x : Proc) → get s.procs q ≡ Some x → (z : PortValue) → count z (held x) ≤ 1
owned_once p s owned q x is z =
    let part : value_or_zero (λ y. count z (held y)) (get s.procs q) ≤ total (λ y. count z (held y)) s.procs = one_of_total path_order (λ y. count z (held y)) s.procs q in
    omega (arith, part, ap (value_or_zero (λ y. count z (held y))) is, owned.stands z, opened_small z (get s.chans (channel_of z)))

-- A process in a live state.

module _ (p : Program) (s : State Proc) (live : IsLive p s) (q : Place) (x : Proc) (is : get s.procs q ≡ Some x) (y : CodeProc) (c : Corresponds p y x) (b : Body) (body : y.body ≡ Some b) where
  stands : BodyStands p y.slots x b
  stands = subst (BodyAlike p y.slots x) body c.body

  -- its body stands for it where its frame is at what comes next
  here_alive : frame_address p x.phase stands.frame b.frame stands.first.unit ≡ next_address p x.phase stands.frame stands.first.unit → IsAlive x.phase stands.first.unit stands.frame → Here p live.typed.0 y x b
  here_alive there alive = record {
    stands = record {
      frame = stands.frame;
      below = stands.below;
      frames = stands.frames;
      loaded = stands.loaded;
      machine = stands.machine;
      node = stands.node;
      first = record {
        unit = stands.first.unit;
        there = stands.first.there;
        number = stands.first.number;
        address = stands.first.address ∙ there;
        stands = stands.first.stands;
        results = stands.first.results;
        starts = stands.first.starts;
      };
      others = stands.others;
      alive = alive;
    };
    slots = c.slots;
    held = stands.held;
    once = once_here p y.slots x b stands (owned_once p s live.owned q x is);
    fine = live.typed.1.each q x is;
    lines = c.lines;
    next_block = c.next_block;
    next_channel = c.next_channel;
  }

  same_address : (h : Phase) → x.phase ≡ h → frame_address p h stands.frame b.frame stands.first.unit ≡ next_address p h stands.frame stands.first.unit
      → frame_address p x.phase stands.frame b.frame stands.first.unit ≡ next_address p x.phase stands.frame stands.first.unit
  same_address h phase e =
      ap (λ k. frame_address p k stands.frame b.frame stands.first.unit) phase ∙ e ∙ sym (ap (λ k. next_address p k stands.frame stands.first.unit) phase)

  pub here_running : x.phase ≡ Running → Here p live.typed.0 y x b
  here_running phase = here_alive (same_address Running phase refl) (subst (λ k. IsAlive k stands.first.unit stands.frame) (sym phase) tt)

  pub here_joining : (block : ℕ) (kids : List Kid) → x.phase ≡ Joining block kids → Here p live.typed.0 y x b
  here_joining block kids phase =
      here_alive (same_address (Joining block kids) phase refl)
      (subst (λ k. IsAlive k stands.first.unit stands.frame) (sym phase) (subst (λ k. EndsWhereJoining k stands.first.unit stands.frame) phase stands.ends))
