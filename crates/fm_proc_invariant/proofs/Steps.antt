-- What a step owes that starts no child, and makes no channel.
use Rattle.std.proofs.Common.{◌≡◌, ℕ, ◌+◌, ◌≤◌, true, Option, Some, None, List, [], ◌∷◌, length, refl, sym, ap, subst, ◌∙◌, arith}
use Rattle.fm_base.specs.declared.path.ChanName.{ChanName}
use Rattle.fm_base.specs.declared.port.PortValue.{PortValue}
use Rattle.fm_net.specs.Machine.{Need, Nothing, Event, New, Children, Onward, Reply}
use Rattle.fm_net.specs.Lawful.{MayBring, Numbered, Uses, given_by, got, holds, made_by, sum_of}
use Rattle.fm_net.specs.Owned.{count}
use Rattle.fm_net.specs.Typed.{AllIn}
use Rattle.fm_net.proofs.Counts.{count-nil}
use Rattle.fm_net_invariant.specs.Good.{IsGoodStep, is_served}
use Rattle.fm_code_kinds.specs.declared.sorts.Shapes.{Shapes}
use Rattle.fm_code.specs.declared.body.Body.{Body}
use Rattle.fm_code_preserves.specs.Weights.{body_ports, weight}
use Rattle.fm_proc_language.specs.Slots.{Slots}
use Rattle.fm_proc_language.specs.Processes.{CodeProc, Phase, code_language, emptied, held, held_by}
use Rattle.fm_proc_invariant.specs.Moves.{port_weight}
use Rattle.fm_proc_invariant.proofs.Slots.{count_named}
use Rattle.fm_proc_invariant.specs.Good.{BodyIsGood, IsGood}

-- how often a process with a body holds a port
pub held_weighs : (slots : Slots) (b : Body) (z : PortValue) → count z (held_by (Some b) slots) ≡ weight (port_weight slots z) (body_ports b)
held_weighs slots b z = count_named slots z (body_ports b)

pub holds_weighs : (y : CodeProc) (b : Body) → y.body ≡ Some b → (z : PortValue) → holds code_language z y ≡ weight (port_weight y.slots z) (body_ports b)
holds_weighs y b e z = ap (λ (o : Option Body). count z (held_by o y.slots)) e ∙ held_weighs y.slots b z

pub emptied_holds : (z : PortValue) (ks : List CodeProc) → sum_of (λ (k : CodeProc). holds code_language z (emptied k)) ks ≡ 0
emptied_holds z [] = refl
emptied_holds z (k ∷ ks) = omega (arith, emptied_holds z ks, count-nil z)

-- a process with this body is good where the body is
pub good_body : (ss : Shapes) (z : CodeProc) (phase : Phase) (slots : Slots) (b : Body) → z.phase ≡ phase → z.slots ≡ slots → z.body ≡ Some b → BodyIsGood ss phase slots b → IsGood ss z
good_body ss z phase slots b e f g good = record {
  body = subst (λ (o : Option Body). HasIt z.phase z.slots o) (sym g) (subst (λ (s : Slots). BodyIsGood ss z.phase s b) (sym f) (subst (λ (p : Phase). BodyIsGood ss p slots b) (sym e) good));
}
  where
    HasIt : Phase → Slots → Option Body → Type 0
    HasIt p s None = Unit {0}
    HasIt p s (Some c) = BodyIsGood ss p s c

abbrev pub NotNew : Need → Type 0
NotNew Nothing = Unit {0}
NotNew (Event c a) = Unit {0}
NotNew (New n k) = ⊥
NotNew (Children b n) = Unit {0}

not_new : (need : Need) → NotNew need → (n k : ℕ) → need ≡ New n k → ⊥
not_new need not n k e = subst NotNew e not

none_made : (need : Need) → NotNew need → (c : ChanName) → made_by need c ≡ []
none_made Nothing not c = refl
none_made (Event d a) not c = refl
none_made (New n k) not c = absurd not
none_made (Children b n) not c = refl

numbered_so : (need : Need) → NotNew need → (k : ℕ) → Numbered k need
numbered_so Nothing not k = tt
numbered_so (Event c a) not k = tt
numbered_so (New n w) not k = absurd not
numbered_so (Children b n) not k = tt

-- a step that goes on as the same process, with the same numbers for the next block and channel
pub record IsQuiet (y : CodeProc) (o : Onward CodeProc) : Type 0 where
  pub block : o.block ≡ y.next_block
  pub next_block : o.self.next_block ≡ y.next_block
  pub next_channel : o.self.next_channel ≡ y.next_channel
  pub starts : o.starts ≡ []
  pub cost : 1 ≤ o.cost

abbrev pub GoodOnes : Shapes → Reply CodeProc → Type 0
GoodOnes ss r = AllIn (IsGood ss) r.children

pub quiet_step : (ss : Shapes) (y : CodeProc) (need : Need) (f : ChanName → Reply CodeProc → Onward CodeProc) → Uses (held y) need → NotNew need
    → ((c : ChanName) (r : Reply CodeProc) → IsQuiet y (f c r))
    → ((c : ChanName) (r : Reply CodeProc) → GoodOnes ss r → is_served need r.message ≡ true → IsGood ss (f c r).self)
    → ((c : ChanName) (r : Reply CodeProc) → GoodOnes ss r → is_served need r.message ≡ true → MayBring need r → (z : PortValue)
    → holds code_language z (f c r).self + count z (f c r).drops + count z (given_by need) ≡ holds code_language z y + count z (got r.message) + sum_of (holds code_language z) r.children)
    → IsGoodStep code_language (IsGood ss) y need f
quiet_step ss y need f uses not quiet good same = record {
  uses = uses;
  numbered = numbered_so need not y.next_channel;
  block_is = λ c r. (quiet c r).block;
  later_block = λ c r. omega (arith, (quiet c r).next_block);
  passed_block = λ c r h. absurd (omega (arith, h, ap (λ (l : List CodeProc). length l) (quiet c r).starts));
  later_channel = λ c r. omega (arith, (quiet c r).next_channel);
  passed_channel = λ c r n k e. absurd (not_new need not n k e);
  costs = λ c r. (quiet c r).cost;
  stays_good = λ c r all served. (good c r all served, subst (AllIn (IsGood ss)) (sym (quiet c r).starts) tt);
  account = λ c r all served may z. omega (
    arith,
    same c r all served may z,
    ap (sum_of (holds code_language z)) (quiet c r).starts,
    emptied_holds z r.children,
    ap (count z) (none_made need not c),
    count-nil z,
  );
}
