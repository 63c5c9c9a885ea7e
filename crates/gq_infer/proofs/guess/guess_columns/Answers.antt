use Rattle.std.proofs.Common.{◌≡◌, ◌∙◌, [], length, map, replicate, true, List, ℕ, Option, ap, subst, sym, arith}
use Rattle.std.specs.Prelude.{IfSome}
use Rattle.std.specs.List.{list_all}
use Rattle.std.proofs.lemmas.List.{length-replicate, with_items_is}
use Rattle.gq_command.specs.Commands.{is_command}
use Rattle.gq_command.specs.declared.command.Command.TheVariants.{Create}
use Rattle.gq_infer.specs.declared.seen.Seen.TheVariants.{Nulls}
use Rattle.gq_infer.specs.Files.{can_name, place_of, records_of}
use Rattle.gq_infer.specs.Guesses.{WithFirst, is_settled}
use Rattle.gq_infer.specs.Scanning.{columns_of}
use Rattle.gq_infer.proofs.FileLemmas.{Begins, Records, a_record, if_some}
use Rattle.gq_infer.proofs.GuessLemmas.{guessed}
use Rattle.gq_infer.proofs.TableLemmas.{a_table, can_be_named}
use Rattle.gq_infer.proofs.guess.guess_columns.Goals as goal

pub returns-clause-right : goal.returns-clause-right
returns-clause-right g c =
    let header = c.read_record.new.reader.fields in
    let left = c.in_ok-reader.reader.rest in
    let rest = c.read_record.new.reader.rest in
    let names = c.in_ok-names.names.items in
    let seen = c.read_first_fields.new.seen in
    let were : c.as_mut_slice.result.now ≡ replicate (length header) Nulls = c.as_mut_slice.ensures.value ∙ c.in_ok-seen.ensures.items_if_clones_equal (λ y k. k) ∙ ap (λ n. replicate n Nulls) (c.len.ensures ∙ ap length c.record-header.ensures) in
    let items = with_items_is c.in_ok-seen.seen seen (omega arith) in
    let settled : list_all is_settled seen ≡ true = ap (list_all is_settled) (sym (c.as_slice-2.ensures.value ∙ items)) ∙ sym c.are_settled.ensures ∙ c.if-not-are_settled.false in
    let made : c.in_ok-columns.columns ≡ columns_of names seen =
    c.in_ok-columns.ensures ∙ ap (λ n. columns_of n c.as_slice-4.result.now) c.as_slice-3.ensures.value ∙ ap (columns_of names) (c.as_slice-4.ensures.value ∙ items) in
    if_some (g.R.Read.remaining c.args.text) (λ file. Begins rest header (records_of file)) _
    (λ file (others, cut, known).
    let first : WithFirst others (map (place_of header) c.as_slice.result.now) c.as_mut_slice.result.now seen =
    subst (λ (o : Option Records). IfSome o (λ records. WithFirst records (map (place_of header) c.as_slice.result.now) c.as_mut_slice.result.now seen)) known c.in_ok-read_first_fields.ensures.seen in
    guessed file names header others c.as_mut_slice.result.now seen c.in_ok-columns.columns cut (c.in_ok-names.ensures.names ∙ c.record-header.ensures) were
    (subst (λ (n : List (List ℕ)). WithFirst others (map (place_of header) n) c.as_mut_slice.result.now seen) c.as_slice.ensures.value first) settled made)
    (a_record (g.R.Read.remaining c.args.text) left rest c.in_ok-read_record.field-0 header c.in_ok-reader.ensures.rest c.if-not-branch.false c.in_ok-read_record.ensures.took)

pub returns-clause-table : goal.returns-clause-table
returns-clause-table g c =
    let header = c.read_record.new.reader.fields in
    let names = c.in_ok-names.names.items in
    let seen = c.read_first_fields.new.seen in
    let were : c.as_mut_slice.result.now ≡ replicate (length header) Nulls = c.as_mut_slice.ensures.value ∙ c.in_ok-seen.ensures.items_if_clones_equal (λ y k. k) ∙ ap (λ n. replicate n Nulls) (c.len.ensures ∙ ap length c.record-header.ensures) in
    let width : length c.as_mut_slice.result.now ≡ length header = ap length were ∙ length-replicate (length header) Nulls in
    let many : length names ≡ length seen = ap length (c.in_ok-names.ensures.names ∙ c.record-header.ensures) ∙ sym (let size : length seen ≡ length header = omega (arith, width) in size) in
    let items = with_items_is c.in_ok-seen.seen seen (omega arith) in
    let made : c.in_ok-columns.columns ≡ columns_of names seen =
    c.in_ok-columns.ensures ∙ ap (λ n. columns_of n c.as_slice-4.result.now) c.as_slice-3.ensures.value ∙ ap (columns_of names) (c.as_slice-4.ensures.value ∙ items) in
    λ table. ap (λ cs. is_command (Create table cs [])) made
    ∙ a_table names seen table many (ap can_name (c.in_ok-names.ensures.names ∙ c.record-header.ensures) ∙ can_be_named c.args.limits.now.bounds header (rw c.record-header.ensures at c.in_ok-names.ensures.fine))
