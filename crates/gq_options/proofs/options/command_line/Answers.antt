use Rattle.std.proofs.Common.{ap, sym, refl, false, codes, map, List, [], ◌∷◌, ◌≡◌, ◌∙◌}
use Rattle.std.proofs.lemmas.Result.{IfOk-weaker}
use Rattle.std.specs.Prelude.{fold}
use Rattle.clap.specs.Words.{AddsArg, AddsInTurn, app_of, new_app, rule_of, with_rule}
use Rattle.clap.specs.Simple.{app_of_fields}
use Rattle.clap.specs.declared.builder.arg.Arg.{Arg}
use Rattle.clap.specs.declared.builder.command.Command.{Command}
use Rattle.gq_options.specs.CommandLine.{LINE, with_version}
use Rattle.gq_options.proofs.options.command_line.Goals as goal

abbrev are_local : List Arg → Type 0
are_local [] = Unit {0}
are_local (arg ∷ args) = (arg.global ≡ false) × are_local args

added : (old : Command) (args : List Arg) (new : Command) → AddsInTurn AddsArg old args new → are_local args → app_of new ≡ fold with_rule (app_of old) (map rule_of args)
added old [] new adds local = ap app_of (sym adds)
added old (arg ∷ args) new adds local = added adds.0 args new adds.2 local.1 ∙ ap (λ app. fold with_rule app (map rule_of args)) (adds.1.shape local.0)

pub returns : goal.returns
returns c =
    let named = ap app_of_fields c.in-Ok-bin_name.ensures.0 ∙ c.new.ensures.app in
    let versioned = ap app_of_fields c.version.ensures ∙ ap with_version named in
    let shown = ap app_of_fields c.after_help.ensures ∙ ap app_of_fields c.about.ensures ∙ versioned in
    let args = c.table_option.result ∷ c.command_option.result ∷ c.output_option.result ∷ c.flag.result ∷ c.budget_option.result ∷ c.seed_option.result ∷ c.spill_option.result ∷ c.flag-2.result ∷ c.flag-3.result ∷ c.script_word.result ∷ [] in
    let local : are_local args = (c.table_option.ensures.local, (c.command_option.ensures.local, (c.output_option.ensures.local, (c.flag.ensures.local, (c.budget_option.ensures.local, (c.seed_option.ensures.local, (c.spill_option.ensures.local, (c.flag-2.ensures.local, (c.flag-3.ensures.local, (c.script_word.ensures.local, tt)))))))))) in
    let rules : fold with_rule (with_version (new_app (codes "groupsh"))) (map rule_of args) ≡ LINE =
    rw (c.table_option.ensures.rule, c.command_option.ensures.rule, c.output_option.ensures.rule, c.flag.ensures.rule, c.budget_option.ensures.rule, c.seed_option.ensures.rule, c.spill_option.ensures.rule, c.flag-2.ensures.rule, c.flag-3.ensures.rule, c.script_word.ensures.rule) refl in
    let line : fold with_rule (app_of c.after_help.result) (map rule_of args) ≡ LINE = ap (λ app. fold with_rule app (map rule_of args)) shown ∙ rules in
    IfOk-weaker c.args-2.result _ _ (λ r h. added c.after_help.result args r (rw c.in-Ok.ensures.items at h) local ∙ line) c.args-2.ensures
