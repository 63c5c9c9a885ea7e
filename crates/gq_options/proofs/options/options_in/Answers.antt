use Rattle.std.proofs.Common.{rules, ap, ap₂, sym, subst, Bool, codes, map, option_map, unwrap_or, [], ◌≡◌, ◌∙◌}
use Rattle.clap.specs.Words.{Text, first_of, first_value, found_of, one_of, one_text, rows_of}
use Rattle.clap.specs.declared.error.kind.ErrorKind.TheVariants as kind
use Rattle.clap.proofs.WalkLemmas.{first_value-rows, one_text-rows, raw_values-rows}
use Rattle.gq_options.specs.CommandLine.{is_budget, output_by, output_fault, script_fault, seed_by, seed_fault}
use Rattle.gq_options.specs.Words.{AsksNothing, IsReadAs, IsReadAsFlag, Passes, ReadsOutput, ReadsSeed, is_flag}
use Rattle.gq_options.proofs.GivenLemmas.{flag-named, number-named, same-asked}
use Rattle.gq_options.proofs.MatchesLemmas.{no-faults, output-faulty, script-faulty, seed-faulty, with-both, without-commands, without-script}
use Rattle.gq_options.proofs.WordsLemmas.{mistake-bad, passed-on}
use Rattle.gq_options.proofs.options.options_in.Goals as goal
use Rattle.gq_options.proofs.options.options_in.Goals.{else-is_some-via-then-is_some+else-not-is_empty, else-is_some-via-else-is_some}

asks-nothing : (AsksNothing kind.ValueValidation × AsksNothing kind.InvalidValue) × AsksNothing kind.ArgumentConflict
asks-nothing = (((λ clash. search rules, λ clash. search rules), (λ clash. search rules, λ clash. search rules)), (λ clash. search rules, λ clash. search rules))

pub returns-in_err-seed : goal.returns-in_err-seed
returns-in_err-seed c =
    let found = found_of c.args.matches.now in
    let rows = rows_of found in
    let seed = subst (ReadsSeed (first_value found (codes "seed"))) c.in_err-seed.was c.seed_in.ensures in
    let faulty = seed-faulty rows (ap seed_fault (sym (first_value-rows found (codes "seed"))) ∙ seed.0) in
    passed-on rows _ c.from_residual.result (mistake-bad _ kind.ValueValidation _ faulty asks-nothing.0.0 seed.1) c.from_residual.ensures.1

pub returns-in_err-output : goal.returns-in_err-output
returns-in_err-output c =
    let found = found_of c.args.matches.now in
    let rows = rows_of found in
    let seed = subst (ReadsSeed (first_value found (codes "seed"))) c.in_ok-seed.was c.seed_in.ensures in
    let output = subst (ReadsOutput (first_value found (codes "output"))) c.in_err-output.was c.output_in.ensures in
    let faulty = output-faulty rows (ap seed_fault (sym (first_value-rows found (codes "seed"))) ∙ seed.0) (ap output_fault (sym (first_value-rows found (codes "output"))) ∙ output.0) in
    passed-on rows _ c.from_residual-in_err-output.result (mistake-bad _ kind.InvalidValue _ faulty asks-nothing.0.1 output.1) c.from_residual-in_err-output.ensures.1

pub returns-then-not-is_empty : goal.returns-then-not-is_empty
returns-then-not-is_empty c =
    let found = found_of c.args.matches.now in
    let rows = rows_of found in
    let seed = subst (ReadsSeed (first_value found (codes "seed"))) c.in_ok-seed.was c.seed_in.ensures in
    let output = subst (ReadsOutput (first_value found (codes "output"))) c.in_ok-output.was c.output_in.ensures in
    let script_is = c.get_str-script.ensures ∙ first_value-rows found (codes "SCRIPT") in
    let commands_is = c.in-Ok-values_in.ensures ∙ ap (λ o. unwrap_or o []) (raw_values-rows found (codes "command")) in
    let both = with-both c.get_str-script.result c.in-Ok-values_in.commands.items c.in-Ok-values_in.commands.len c.in-Ok-values_in.commands.ok.0
    (sym c.is_some.ensures ∙ c.if-is_some.true) (sym c.is_empty.ensures ∙ c.if-not-is_empty.true) in
    let faulty = script-faulty rows (ap seed_fault (sym (first_value-rows found (codes "seed"))) ∙ seed.0) (ap output_fault (sym (first_value-rows found (codes "output"))) ∙ output.0)
    (ap₂ script_fault (sym script_is) (sym commands_is) ∙ both) in
    mistake-bad _ kind.ArgumentConflict _ faulty asks-nothing.1 c.bad_script.ensures

pub returns : goal.returns
returns c =
    let found = found_of c.args.matches.now in
    let rows = rows_of found in
    let seed = subst (ReadsSeed (first_value found (codes "seed"))) c.in_ok-seed.was c.seed_in.ensures in
    let output = subst (ReadsOutput (first_value found (codes "output"))) c.in_ok-output.was c.output_in.ensures in
    let named : (id : Text) → first_value found id ≡ first_of id rows = first_value-rows found in
    let script_is = c.get_str-script.ensures ∙ named (codes "SCRIPT") in
    let tables_is = c.in-Ok.ensures ∙ ap (λ o. unwrap_or o []) (raw_values-rows found (codes "table")) in
    let commands_is = c.in-Ok-values_in.ensures ∙ ap (λ o. unwrap_or o []) (raw_values-rows found (codes "command")) in
    let lone : script_fault (option_map (λ s. s.now) c.get_str-script.result) (map (λ s. s.now) c.in-Ok-values_in.commands.items) ≡ [] = elim c.else-is_some.branch [
      | else-is_some-via-then-is_some+else-not-is_empty w ↦
          without-commands (option_map (λ s. s.now) c.get_str-script.result) c.in-Ok-values_in.commands.items c.in-Ok-values_in.commands.len c.in-Ok-values_in.commands.ok.0
          (sym w.is_empty.ensures ∙ w.if-not-is_empty.false)
      | else-is_some-via-else-is_some w ↦ without-script c.get_str-script.result _ (sym c.is_some.ensures ∙ w.if-is_some.false)
    ] in
    let flag : (id : Text) (b : Bool) → IsReadAsFlag (one_text found id) b → Passes is_flag (one_of id rows) → _ =
    λ id b read passes. flag-named (one_of id rows) b (subst (λ o. IsReadAsFlag o b) (one_text-rows found id) read) passes in
    let budget = subst (λ o. IsReadAs is_budget 65536 o c.budget_in.result) (one_text-rows found (codes "budget")) c.budget_in.ensures in (
      no-faults rows (ap seed_fault (sym (named (codes "seed"))) ∙ seed.0) (ap output_fault (sym (named (codes "output"))) ∙ output.0)
          (ap₂ script_fault (sym script_is) (sym commands_is) ∙ lone),
      λ parsed. same-asked _ _
          (sym script_is)
          (sym tables_is)
          (sym commands_is)
          (ap output_by (sym (named (codes "output"))) ∙ output.1)
          (flag (codes "ragged") c.flag_in.result c.flag_in.ensures parsed.ragged)
          (ap seed_by (sym (named (codes "seed"))) ∙ seed.1)
          (number-named is_budget 65536 _ c.budget_in.result budget parsed.budget)
          (sym (c.get_str.ensures ∙ named (codes "spill")))
          (flag (codes "stats") c.flag_in-2.result c.flag_in-2.ensures parsed.stats)
          (flag (codes "check") c.flag_in-3.result c.flag_in-3.ensures parsed.check),
    )
