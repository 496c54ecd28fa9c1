use Rattle.std.proofs.Common.{rules, map, ◌≡◌, ◌∙◌, sym, Some}
use Rattle.fm_words.specs.Words.{settings_of, first_and_others}
use Rattle.fm_words.specs.Held.{asked_with}
use Rattle.fm_words.proofs.Steps.{refused_first, taken_first}
use Rattle.fm_words.proofs.settings.+options_behind.Goals as goal

pub returns-in_err-settings_with : goal.returns-in_err-settings_with
returns-in_err-settings_with t c =
    let all = settings_of (map (λ w. w.now) c.args.words.now) in
    let others = settings_of (map (λ w. w.now) c.in_ok-setting.behind.now) in
    let first : all ≡ first_and_others (Some c.in_ok-setting.setting) others = search rules in
    c.from_residual-in_err-settings_with.ensures
    ∙ sym (refused_first (asked_with c.args.settings) c.in_ok-setting.setting all others first c.in_err-settings_with.ensures)

pub returns : goal.returns
returns t c =
    let all = settings_of (map (λ w. w.now) c.args.words.now) in
    let others = settings_of (map (λ w. w.now) c.in_ok-setting.behind.now) in
    let first : all ≡ first_and_others (Some c.in_ok-setting.setting) others = search rules in
    c.options_behind.ensures
    ∙ sym (taken_first (asked_with c.args.settings) c.in_ok-setting.setting (asked_with c.in_ok-settings_with.field-0) all others first c.in_ok-settings_with.ensures)
