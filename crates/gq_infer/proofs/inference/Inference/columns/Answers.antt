use Rattle.std.proofs.Common.{◌∙◌, ℕ, List, [], ap}
use Rattle.std.proofs.lemmas.Result.{IfOk-weaker}
use Rattle.gq_command.specs.Commands.{is_command}
use Rattle.gq_command.specs.declared.command.Command.TheVariants.{Create}
use Rattle.gq_infer.specs.Files.{Inferred}
use Rattle.gq_infer.specs.Scanning.{columns_of}
use Rattle.gq_infer.proofs.ScanLemmas.{columns_of_files}
use Rattle.gq_infer.proofs.TableLemmas.{a_table}
use Rattle.gq_infer.proofs.inference.Inference.columns.Goals as goal

pub returns-clause-columns : goal.returns-clause-columns
returns-clause-columns c =
    IfOk-weaker c.columns_of.result _ _
    (λ columns made first others e. made ∙ rw (c.as_slice.ensures.value, c.as_slice-2.ensures.value) (ap (λ (i : Inferred). columns_of i.names i.seen) c.self.view_is) ∙ columns_of_files first others c.args.self.now e)
    c.columns_of.ensures

pub returns-clause-table : goal.returns-clause-table
returns-clause-table c =
    IfOk-weaker c.columns_of.result _ _
    (λ columns made table.
    ap (λ cs. is_command (Create table cs [])) (made ∙ ap (λ (n : List (List ℕ)). columns_of n c.as_slice-2.result.now) c.as_slice.ensures.value ∙ ap (columns_of c.self.inside.names.items) c.as_slice-2.ensures.value)
    ∙ a_table c.self.inside.names.items c.self.inside.seen.items table c.self.invariant.0 c.self.invariant.1)
    c.columns_of.ensures
