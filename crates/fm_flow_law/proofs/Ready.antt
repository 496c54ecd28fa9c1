-- A child of a safe program that hasn't faulted is one as the proof of the end wants it.
use Rattle.std.proofs.Common.{◌≡◌, ℕ, zero, suc, ◌<◌, false, List, [], ◌∷◌, Some, length, slice_get, refl, arith}
use Rattle.std.proofs.lemmas.List.{length-map}
use Rattle.fm_base.specs.declared.fault.Fault.{Fault}
use Rattle.fm_base.specs.declared.path.ChanName.{ChanName}
use Rattle.fm_base.specs.declared.port.PortValue.{PortValue}
use Rattle.fm_base.specs.declared.port.PortValue.TheVariants.{Writer, Reader}
use Rattle.fm_tree.specs.declared.program_unit.Entry.{Entry}
use Rattle.fm_net.specs.Machine.{Ask, Stop, Go}
use Rattle.fm_rules.specs.declared.program.Program.{Program}
use Rattle.fm_mean.specs.Names.{ProgramUnit}
use Rattle.fm_mean.specs.Fits.{Types}
use Rattle.fm_mean.specs.Process.{Phase, Running, Joining, Ended, Faulted, Proc, is_ended}
use Rattle.fm_mean.specs.Steps.{ask, language}
use Rattle.fm_flow_law.specs.Flow.{Makes, given, ends_from, edges}
use Rattle.fm_mean.specs.Leads.{AllLead}
use Rattle.fm_mean.specs.Live.{IsLive}
use Rattle.fm_flow_law.specs.Pipes.{ChildAsks, IsChild}
use Rattle.fm_flow_law.specs.Ports.{GivesOut, GivesIn}
use Rattle.fm_flow_law.proofs.Inside.{IsLoneAsk, stays_inside}
use Rattle.fm_flow_law.proofs.KidSteps.{IsKid}
use Rattle.fm_mean.proofs.Lively.{IsLiveAsk, MayGo, has_next}

-- the port is of the call at this place
abbrev pub Gives : ProgramUnit → (ChanName → ℕ) → ℕ → PortValue → Type 0
Gives u labels k (Writer c w) = GivesOut u labels k c
Gives u labels k (Reader c) = GivesIn u labels k c

there_below : {X : Type 0} (xs : List X) (k : ℕ) (x : X) → slice_get xs k ≡ Some x → k < length xs
there_below [] k x e = absurd (cc e)
there_below (y ∷ ys) zero x e = omega arith
there_below (y ∷ ys) (suc k) x e = omega (arith, there_below ys k x e)

pub may_go : (ph : Phase) → is_ended ph ≡ false → ((line : ℕ) (fault : Fault) → ph ≡ Faulted line fault → ⊥) → MayGo ph
may_go Running on ok = tt
may_go (Joining block kids) on ok = tt
may_go Ended on ok = absurd (cc on)
may_go (Faulted line fault) on ok = absurd (ok line fault refl)

asks_one : (p : Program) (root : ℕ) (phase : Phase) (a : Ask Proc) → IsLoneAsk p root a → IsLiveAsk p phase a → ChildAsks (language p) [] (λ k c. ⊥) (λ k c. ⊥) a
asks_one p root phase Stop lone live = live
asks_one p root phase (Go need f) lone live = lone.lone

pub is_child : (p : Program) (u : ProgramUnit) (labels : ChanName → ℕ) (types : Types) (root k : ℕ) (call : Entry) (x : Proc) → AllLead p → (Makes p root → ⊥) → slice_get u.tree.body k ≡ Some call
    → IsKid p root (Gives u labels k) types x → IsLive p x → ((line : ℕ) (fault : Fault) → x.phase ≡ Faulted line fault → ⊥) → IsChild (language p) (edges u) (GivesOut u labels) (GivesIn u labels) x
is_child p u labels types root k call x leads makes_none there kid live ok = record {
  call = k;
  is_of = record {
    within = let n = length-map u.tree.body (λ (e : Entry). ends_from u (given u e.stmt) 0 u.tree.body) in let below = there_below u.tree.body k call there in omega (arith, n, below);
    outs = λ c w h. kid.has (Writer c w) h;
    ins = λ c h. kid.has (Reader c) h;
  };
  gives_none = λ done c w. kid.gives_none done c w;
  asks = λ on. asks_one p root x.phase (ask p x) (stays_inside p root makes_none x kid.inside) (has_next p leads x live (may_go x.phase on ok));
}
