use Rattle.std.proofs.Common.{◌≡◌, [], false, refl, ap, sym, append-nil, ◌∙◌}
use Rattle.fm_run.specs.Orders.{places_of}
use Rattle.fm_table.specs.Told.{stand_with}
use Rattle.fm_table.proofs.Standings.{revived, standing_same}
use Rattle.fm_table.proofs.standing.Standing.make_again.Goals as goal

pub returns-clause-standing : goal.returns-clause-standing
returns-clause-standing c =
    let P = c.args.program.now in
    let old = c.args.self.now in
    let again = c.in_ok-net.field-0 in
    let same = c.in_ok-net.ensures.history ∙ c.as_slice.ensures.value ∙ c.in_ok-entries.ensures in
    let gone : old.is_live ≡ false = c.requires.gone in
    let live = revived P old again _ c.requires.standing c.in_ok-net.ensures.live same refl refl refl refl refl in
    standing_same P old _ (record { history = same; queue = refl }) c.requires.standing (λ e. live) []
    (ap (λ ts. (stand_with P ts old.player.able.numbers.items).places) same ∙ sym (c.requires.standing.paths_whole gone) ∙ sym (append-nil (places_of old.paths.items))) (λ e. absurd (cc e)) refl refl
