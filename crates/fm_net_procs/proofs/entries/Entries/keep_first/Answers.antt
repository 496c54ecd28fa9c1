use Rattle.std.proofs.Common.{◌≡◌, Some, None, inl, refl, ap, sym, ◌∙◌}
use Rattle.std.specs.Prelude.{is_some}
use Rattle.std.specs.FinMap.{get}
use Rattle.fm_finmap.proofs.Inserts.{insert_here}
use Rattle.fm_finmap.specs.Rows.{numbered_map}
use Rattle.fm_finmap.proofs.Rows.{there as stands_there}
use Rattle.fm_net.proofs.Keys.{path_order}
use Rattle.fm_net_procs.specs.Readings.{actor_place}
use Rattle.fm_net_procs.proofs.Families.{families_put_but}
use Rattle.fm_net_procs.proofs.Maps.{found, puts_same, told_put}
use Rattle.fm_net_procs.proofs.entries.Entries.keep_first.Goals as goal

pub returns-in-Some : goal.returns-in-Some
returns-in-Some g c =
    let k = actor_place c.args.actor.now in
    let x = c.args.self.now in
    let entry = c.in-Some.entry.now in
    let y = record entry { first_child = c.args.first } in
    let put = c.get_mut.follows.holds y k c.requires in
    record {
      processes = λ p. puts_same (g.P.Proc.seen p) x (record { rows = c.get_mut.follows.lender y }) k entry y (found x c.args.actor.now.number k (Some entry) c.requires c.in-Some.ensures.value) put.map_is refl;
      order = put.places_are;
      told = λ p but. told_put (g.P.Proc.seen p) (g.P.Proc.IsNext p) k x (record { rows = c.get_mut.follows.lender y }) k y put.map_is (inl refl) but;
      families = λ p but. families_put_but (g.P.Proc.seen p) g.P.Proc.awaits k x (record { rows = c.get_mut.follows.lender y }) y put.map_is put.places_are but;
      first = λ e is.
          let same : y ≡ e = cc (sym (ap (λ m. get m k) put.map_is ∙ insert_here path_order (numbered_map x.rows) k y) ∙ is) in
          ap (λ v. v.first_child) (sym same);
    }

pub returns-in-None : goal.returns-in-None
returns-in-None g c =
    let k = actor_place c.args.actor.now in
    let none = found c.args.self.now c.args.actor.now.number k None c.requires c.in-None.ensures.value in
    absurd (cc (ap is_some none ∙ stands_there c.args.self.now.rows c.args.actor.now.number k c.requires))
