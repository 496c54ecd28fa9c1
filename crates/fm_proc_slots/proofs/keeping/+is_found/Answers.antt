use Rattle.std.proofs.Common.{◌/◌, arith, length, refl, sym, ◌∙◌}
use Rattle.fm_proc_slots.proofs.Rising.{halves_shorter, halves_whole, high_rises, in_high, in_low, in_middle, low_rises, none_found}
use Rattle.fm_proc_slots.proofs.keeping.+is_found.Goals as goal

pub returns-in-None : goal.returns-in-None
returns-in-None t c = sym (none_found c.args.formals.now c.split_at.result.1.now c.args.span (length c.args.formals.now / 2) c.split_at.ensures.back refl c.in-None.ensures)

pub is_found-requires : goal.is_found-requires
is_found-requires t c =
    let fs = c.args.formals.now in
    let low = c.split_at.result.0.now in
    let f = c.in-Some.formal in
    let high = c.in-Some.high.now in
    let all = halves_whole fs low c.split_at.result.1.now high f (length fs / 2) c.split_at.ensures.front c.split_at.ensures.back c.in-Some.ensures in
    let shorter = halves_shorter fs low c.split_at.result.1.now high f (length fs / 2) refl c.split_at.ensures.front c.split_at.ensures.back c.in-Some.ensures in
    (omega (arith, shorter.0, c.decreases), low_rises fs low f high c.args.span all c.requires)

pub is_found-requires-then-formal-span : goal.is_found-requires-then-formal-span
is_found-requires-then-formal-span t c =
    let fs = c.args.formals.now in
    let low = c.split_at.result.0.now in
    let f = c.in-Some.formal in
    let high = c.in-Some.high.now in
    let all = halves_whole fs low c.split_at.result.1.now high f (length fs / 2) c.split_at.ensures.front c.split_at.ensures.back c.in-Some.ensures in
    let shorter = halves_shorter fs low c.split_at.result.1.now high f (length fs / 2) refl c.split_at.ensures.front c.split_at.ensures.back c.in-Some.ensures in
    (omega (arith, shorter.1, c.decreases), high_rises fs low f high c.args.span all c.requires)

pub returns-then-span-formal : goal.returns-then-span-formal
returns-then-span-formal t c =
    let fs = c.args.formals.now in
    let low = c.split_at.result.0.now in
    let f = c.in-Some.formal in
    let high = c.in-Some.high.now in
    let all = halves_whole fs low c.split_at.result.1.now high f (length fs / 2) c.split_at.ensures.front c.split_at.ensures.back c.in-Some.ensures in
    c.is_found.ensures ∙ in_low fs low f high c.args.span all c.requires c.if-span-formal.true

pub returns-then-formal-span : goal.returns-then-formal-span
returns-then-formal-span t c =
    let fs = c.args.formals.now in
    let low = c.split_at.result.0.now in
    let f = c.in-Some.formal in
    let high = c.in-Some.high.now in
    let all = halves_whole fs low c.split_at.result.1.now high f (length fs / 2) c.split_at.ensures.front c.split_at.ensures.back c.in-Some.ensures in
    c.is_found-then-formal-span.ensures ∙ in_high fs low f high c.args.span all c.requires c.if-formal-span.true

pub returns-else-formal-span : goal.returns-else-formal-span
returns-else-formal-span t c =
    let fs = c.args.formals.now in
    let low = c.split_at.result.0.now in
    let f = c.in-Some.formal in
    let high = c.in-Some.high.now in
    let all = halves_whole fs low c.split_at.result.1.now high f (length fs / 2) c.split_at.ensures.front c.split_at.ensures.back c.in-Some.ensures in
    c.kept_one.ensures ∙ in_middle fs low f high c.args.span all c.requires c.if-formal-span.false c.if-span-formal.false
