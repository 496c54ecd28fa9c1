use Rattle.std.proofs.Common.{subst, arith, rules}
use Rattle.std.specs.List.{All}
use Rattle.std.proofs.lemmas.List.{take_all}
use Rattle.std.proofs.lemmas.List.Elements.{All-more, All-nil}
use Rattle.fm_object.proofs.Written.{texts_more}
use Rattle.fm_object.proofs.writing.push_all.Goals as goal

pub items-init : goal.items-init
items-init g c = record { written = search rules; fit = All-nil g.T.Texts.Fits }

pub items-preserved : goal.items-preserved
items-preserved g c = record {
  written =
      texts_more g.T.Texts.text c.args.out.now.items c.items.out.items c.push_one.new.out.items c.args.items.now c.items.item-index c.item-item.result c.items-test.true c.item-item.is
      c.items.invariant.written c.in_ok-push_one.ensures.written;
  fit = All-more g.T.Texts.Fits c.args.items.now c.items.item-index c.item-item.result c.items-test.true c.items.invariant.fit (subst g.T.Texts.Fits c.item-item.is c.in_ok-push_one.ensures.fits);
}

pub returns-clause-fits : goal.returns-clause-fits
returns-clause-fits g c = subst (All g.T.Texts.Fits) (take_all c.items.item-index c.args.items.now (omega (arith, c.items-test.false))) c.items.invariant.fit
