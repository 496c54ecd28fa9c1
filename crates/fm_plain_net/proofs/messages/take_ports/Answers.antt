use Rattle.std.proofs.Common.{◌++◌, ◌∷◌, [], ap, sym, subst, ◌∙◌, append_assoc, arith, ap₂}
use Rattle.std.specs.Prelude.{option_to_list}
use Rattle.fm_mean.specs.Places.{live}
use Rattle.fm_net.specs.Owned.{count}
use Rattle.fm_net.proofs.Counts.{count-append}
use Rattle.fm_plain_net.specs.Held.{AreKept, AreOnce}
use Rattle.fm_plain_net.proofs.Loads.{live_cons, part_kept, rest_kept, rest_once}
use Rattle.fm_plain_net.proofs.messages.take_ports.Goals as goal

pub values-init : goal.values-init
values-init c =
    let same = c.from_vec-rest.ensures.items ∙ c.into_vec.ensures in
    record {
      values = ap₂ (λ vs ws. vs ++ ws) c.new-all.ensures.items same;
      kept = subst (λ vs. AreKept c.args.ports.now (live vs)) (sym same) c.requires.kept;
      once = subst (λ vs. AreOnce (live vs)) (sym same) c.requires.once;
      others = λ z off k. k;
      among = λ z. omega (arith, ap (λ vs. count z (live vs)) same);
    }

pub taken-requires : goal.taken-requires
taken-requires c =
    let is = ap live (c.pop_front.ensures.items ∙ ap (λ o. option_to_list o ++ c.pop_front.new.self.items) c.in-Some.is) ∙ live_cons c.in-Some.value c.pop_front.new.self.items in
    part_kept (live (c.in-Some.value ∷ [])) (live c.pop_front.new.self.items) c.values.ports (subst (AreKept c.values.ports) is c.values.invariant.kept)

pub values-preserved : goal.values-preserved
values-preserved c =
    let v = c.in-Some.value in
    let items = c.pop_front.ensures.items ∙ ap (λ o. option_to_list o ++ c.pop_front.new.self.items) c.in-Some.is in
    let left = c.pop_front.new.self.items in
    let is = ap live items ∙ live_cons v left in
    let once = subst AreOnce is c.values.invariant.once in
    let kept = subst (AreKept c.values.ports) is c.values.invariant.kept in
    record {
      values =
          ap (λ vs. vs ++ left) (c.in_ok-push.ensures.items ∙ ap (λ o. c.values.all.items ++ o ∷ []) c.taken.ensures.port) ∙ append_assoc c.values.all.items (v ∷ []) left
          ∙ ap (λ vs. c.values.all.items ++ vs) (sym items) ∙ c.values.invariant.values;
      kept = rest_kept (live (v ∷ [])) (live left) c.values.ports c.taken.new.ports once kept c.taken.ensures.others;
      once = rest_once (live (v ∷ [])) (live left) once;
      others = λ y off k. c.taken.ensures.others y (omega (arith, off, c.values.invariant.among y, ap (count y) is, count-append y (live (v ∷ [])) (live left))) (c.values.invariant.others y off k);
      among = λ y. omega (arith, c.values.invariant.among y, ap (count y) is, count-append y (live (v ∷ [])) (live left));
    }
