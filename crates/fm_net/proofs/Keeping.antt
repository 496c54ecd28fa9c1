-- Parts of steps keep ownership.
use Rattle.std.proofs.Common.{◌≡◌, ℕ, None, inl, inr, ap, ◌∙◌, subst, arith}
use Rattle.std.specs.FinMap.{get}
use Rattle.fm_base.specs.declared.path.ChanName.{ChanName}
use Rattle.fm_base.specs.declared.port.PortValue.TheVariants.{Writer}
use Rattle.fm_finmap.specs.Changes.{alters}
use Rattle.fm_finmap.specs.Sums.{value_or_zero}
use Rattle.fm_net.specs.Machine.{Place, New, child, made, spilt, changes}
use Rattle.fm_net.specs.Language.{Language}
use Rattle.fm_net.specs.Owned.{count, opened, name_of, HasOneWriter}
use Rattle.fm_net.specs.Lawful.{Numbered, IsLawfulLanguage}
use Rattle.fm_net.specs.Plain.{IsPlainStep, IsPlainAsk, KeepsPlain, AllPlain}
use Rattle.fm_net.proofs.Counts.{one_below, count-append, opened_shut, queued_shut}
use Rattle.fm_net.proofs.Parts.{Midway, Part, Run, Discard, Start, Move, end}
use Rattle.fm_net.proofs.Children.{pair_snoc, child_block}
use Rattle.fm_net.proofs.Needs.{Ready}
use Rattle.fm_net.proofs.Facts.{served_fine, step_fine}
use Rattle.fm_net.proofs.Meeting.{IsSound, going_of, no_child, loose_open, ready_need}
use Rattle.fm_net.proofs.Processes.{total_changes, here, rises, comes}
use Rattle.fm_net.proofs.Channels.{opened_after, queued_after, present_after, made_writer, shut_present}
use native.Mathlib.Decide.{ℕ_discrete}

module _ {Proc : Type 0} (language : Language Proc)
    (laws : IsLawfulLanguage language) (mid : Midway Proc) (good : IsSound language mid) where
  new_name : (p : Place) (t : Start language mid.procs mid.chans p) (n w : ℕ) → t.need ≡ New n w → get mid.chans (name_of p n) ≡ None
  new_name p t n w e =
      let g = going_of language laws mid good p t in
      subst (Ready mid.chans p) e (ready_need language laws mid good p t.self t.need t.reply t.is g.numbered t.serves)

  -- each part keeps ownership
  pub keeps : (a : Part) (m : Move language mid a) → IsSound language (end language mid a m).0
  keeps (Discard x) l =
      let is_open = loose_open language laws mid good x l in
      record {
        stands = λ z. omega (arith, good.stands z, queued_shut mid.chans x z, opened_shut mid.chans x z is_open, one_below mid.loose x z l);
        born = good.born;
        named = λ q n h. good.named q n (shut_present mid.chans x (name_of q n) h);
      }
  keeps (Run p) (h, t) =
      let g = going_of language laws mid good p t in
      let c = made p t.need in
      let o = t.goes (made p t.need) t.reply in
      let new = new_name p t in
      let no_children = no_child language laws mid good p t in
      record {
        stands = λ z.
            let q = queued_after language.has_ended mid.procs mid.chans p t.need t.reply z t.serves new in
            omega (
              arith,
              good.stands z,
              total_changes language.has_ended language.emptied mid.procs mid.chans p t.need t.reply o t.self t.is t.serves no_children (λ x. count z (language.held x)),
              q.0,
              opened_after mid.chans p t.need z new,
              g.account c t.reply q.1 z,
              count-append z o.drops (spilt t.need mid.chans),
            );
        born = λ q b i l.
            let up = rises language.has_ended language.emptied mid.procs mid.chans p t.need t.reply o t.self t.is t.serves no_children language.next_block laws.same_block (g.later_block c t.reply) q in
            elim (comes language.has_ended language.emptied mid.procs mid.chans p t.need t.reply o t.self t.is t.serves no_children (child q b i) l) [
              | inl was ↦ omega (arith, good.born q b i was)
              | inr is ↦
                  let at : q ≡ p = pair_snoc q p (b, i) (o.block, is.1.0) is.1.1 in
                  let number : b ≡ o.block = child_block q p b i o.block is.1.0 is.1.1 in
                  let mine : value_or_zero language.next_block (get (alters (changes language.emptied p t.need o) mid.procs) q) ≡ language.next_block o.self =
                  ap (λ r. value_or_zero language.next_block (get (alters (changes language.emptied p t.need o) mid.procs) r)) at ∙ ap (value_or_zero language.next_block) (here language.has_ended language.emptied mid.procs mid.chans p t.need t.reply o t.self t.is t.serves no_children) in
                  omega (arith, g.block_is c t.reply, g.passed_block c t.reply is.0)
            ];
        named = λ q n l.
            let up = rises language.has_ended language.emptied mid.procs mid.chans p t.need t.reply o t.self t.is t.serves no_children language.next_channel laws.same_channel (g.later_channel c t.reply) q in
            elim (present_after mid.chans p t.need (name_of q n) l) [
              | inl was ↦ omega (arith, good.named q n was)
              | inr is ↦
                  let at : q ≡ p = ap (λ (d : ChanName). d.maker) is.3 in
                  let number : n ≡ is.0 = ap (λ (d : ChanName). d.number) is.3 in
                  let number_is : is.0 ≡ language.next_channel t.self = subst (Numbered (language.next_channel t.self)) is.2 g.numbered in
                  let mine : value_or_zero language.next_channel (get (alters (changes language.emptied p t.need o) mid.procs) q) ≡ language.next_channel o.self =
                  ap (λ r. value_or_zero language.next_channel (get (alters (changes language.emptied p t.need o) mid.procs) r)) at ∙ ap (value_or_zero language.next_channel) (here language.has_ended language.emptied mid.procs mid.chans p t.need t.reply o t.self t.is t.serves no_children) in
                  omega (arith, g.passed_channel c t.reply is.0 is.1 is.2)
            ];
      }

  module _ (IsPlain : Proc → Type 0) (plain : KeepsPlain language IsPlain) (all : AllPlain language IsPlain mid.procs) where
    plain_of : (p : Place) (t : Start language mid.procs mid.chans p) → IsPlainStep language IsPlain t.need t.goes
    plain_of p t = subst (IsPlainAsk language IsPlain) t.asks (plain.goes t.self (all p t.self t.is))

    -- plain processes stay plain
    pub keeps_plain : (a : Part) (m : Move language mid a) → AllPlain language IsPlain (end language mid a m).0.procs
    keeps_plain (Discard x) l = all
    keeps_plain (Run p) (h, t) =
        let on = (plain_of p t).goes_on (made p t.need) t.reply (served_fine language.has_ended language.emptied IsPlain plain.empties mid.procs mid.chans p t.need t.reply all t.serves) in
        step_fine language.has_ended language.emptied IsPlain plain.empties mid.procs p t.need (t.goes (made p t.need) t.reply) all on.0 on.1

    -- and no part of theirs gives a channel a second writer
    pub keeps_single : HasOneWriter mid.chans → (a : Part) (m : Move language mid a) → HasOneWriter (end language mid a m).0.chans
    keeps_single single (Discard x) l c w h = single c w (omega (arith, opened_shut mid.chans x (Writer c w) (loose_open language laws mid good x l)))
    keeps_single single (Run p) (h, t) d w l = elim (ℕ_discrete (opened mid.chans (Writer d w)) 0) [
      | yes none ↦ made_writer t.need (plain_of p t).single (made p t.need) d w (omega (arith, opened_after mid.chans p t.need (Writer d w) (new_name p t)))
      | no some ↦ single d w (omega arith)
    ]
