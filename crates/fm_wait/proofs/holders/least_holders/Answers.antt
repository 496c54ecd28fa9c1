use Rattle.std.proofs.Common.{◌≡◌, ◌+◌, ◌-◌, ◌<◌, ◌∷◌, length, drop, ap, sym, ◌∙◌, arith}
use Rattle.std.specs.FinMap.{get, insert}
use Rattle.std.specs.Option.{option_copied}
use Rattle.std.proofs.lemmas.List.{drop_all, drop_more}
use Rattle.fm_base.specs.PathOrder.{channel_cmp}
use Rattle.fm_finmap.specs.Map.{map_of}
use Rattle.fm_wait.specs.Waits.{least_holder, lesser}
use Rattle.fm_wait.proofs.Leasts.{least_more, least_none}
use Rattle.fm_wait.proofs.holders.least_holders.Goals as goal

pub holders-init : goal.holders-init
holders-init c = λ d.
    least_none (map_of channel_cmp c.new-least.result) c.new-least.ensures d
    ∙ sym (ap (least_holder d) (drop_all (length c.args.holders.now) c.args.holders.now (omega arith)))

pub holders-preserved : goal.holders-preserved
holders-preserved c =
    let hs = c.args.holders.now in
    let h = c.index-holders-k.result in
    let k = c.holders.k - 1 in
    let m = map_of channel_cmp c.holders.least in
    let up : k + 1 ≡ c.holders.k = omega arith in
    let in' : k < length hs = omega arith in
    let here : drop k hs ≡ h ∷ drop c.holders.k hs = drop_more hs k h in' ∙ ap (λ x. x ∷ drop (k + 1) hs) (sym c.index-holders-k.is) ∙ ap (λ n. h ∷ drop n hs) up in
    let name : c.in_ok-channel.channel ≡ h.channel = c.in_ok-channel.ensures in
    let inserted : map_of channel_cmp c.insert.new.self ≡ insert m h.channel c.lesser-kept.result =
    c.in_ok-insert.ensures.ok ∙ ap (λ d. insert m d c.lesser-kept.result) name in
    let read : option_copied c.get.result ≡ get m h.channel = c.get.ensures ∙ ap (get m) name in
    least_more h (drop c.holders.k hs) (drop k hs) m (map_of channel_cmp c.insert.new.self) c.lesser-kept.result here inserted c.holders.invariant
    (c.lesser-kept.ensures ∙ ap (λ v. lesser h (option_copied v)) (c.copied.ensures ∙ read))
