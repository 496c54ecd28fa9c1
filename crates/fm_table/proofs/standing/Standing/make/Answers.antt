use Rattle.std.proofs.Common.{◌≡◌, [], false, ap, refl, sym, append-nil, ◌∙◌, arith}
use Rattle.fm_run.specs.Orders.{places_of}
use Rattle.fm_run.specs.Programs.{Stand}
use Rattle.fm_table.specs.Inside.{IsAsItWas, stand_kept}
use Rattle.fm_table.specs.declared.standing.Standing.{Standing}
use Rattle.fm_table.proofs.Standings.{front_left, stand_same, standing_same}
use Rattle.fm_table.proofs.standing.Standing.make.Goals as goal

pub make_steps-requires-clause-live : goal.make_steps-requires-clause-live
make_steps-requires-clause-live c = c.in_ok-revive.ensures.standing.live c.in_ok-revive.ensures.live

-- the entry that was begun is forgotten, and the queue is as it was
pub returns-in-Err-clause-stays : goal.returns-in-Err-clause-stays
returns-in-Err-clause-stays c =
    let revived = c.revive.new.self in
    let q = revived.player.able.numbers in
    let same = c.in_ok-revive.ensures.same in
    record {
      history = c.let_go.ensures.history revived.player.net.history (sym c.len-entries.ensures) c.in-Err.ensures.stays ∙ same.history;
      queue = c.let_go.ensures.queue ∙ front_left q.items c.make_steps.new.player.able.numbers.items c.len-queued.result (omega (arith, c.len-queued.ensures, q.ok.0)) c.in-Err.ensures.front ∙ same.queue;
    }

pub returns-in-Err-clause-standing : goal.returns-in-Err-clause-standing
returns-in-Err-clause-standing c =
    let P = c.args.program.now in
    let revived = c.revive.new.self in
    let new : Standing = record { player = c.let_go.new.player; is_live = false; paths = c.put_paths.new.paths; used = revived.used; is_ready = revived.is_ready } in
    let q = revived.player.able.numbers in
    let standing = c.in_ok-revive.ensures.standing in
    let live = standing.live c.in_ok-revive.ensures.live in
    let same : IsAsItWas revived new = record {
      history = c.let_go.ensures.history revived.player.net.history (sym c.len-entries.ensures) c.in-Err.ensures.stays;
      queue = c.let_go.ensures.queue ∙ front_left q.items c.make_steps.new.player.able.numbers.items c.len-queued.result (omega (arith, c.len-queued.ensures, q.ok.0)) c.in-Err.ensures.front;
    } in
    let whole : places_of c.put_paths.new.paths.items ≡ (stand_kept P new).places =
    c.in_ok-put_paths.ensures.ok ∙ c.paths.ensures ∙ ap (λ (b : Stand). b.places) live.stand_is ∙ ap (λ (b : Stand). b.places) (sym (stand_same P revived new same)) in
    standing_same P revived new same standing (λ e. absurd (cc e)) [] (sym whole ∙ sym (append-nil (places_of c.put_paths.new.paths.items))) (λ e. whole) refl refl
