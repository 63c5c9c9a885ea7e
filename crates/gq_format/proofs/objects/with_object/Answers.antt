use Rattle.std.proofs.Common.{◌≡◌, ◌∷◌, ◌++◌, ◌∙◌, ◌<◌, ◌≤◌, [], ap, length, min, slice_index_or, flat_map, zip, arith, codes}
use Rattle.std.proofs.lemmas.Grind.{common_steps}
use Rattle.std.proofs.lemmas.List.{get_or_default}
use Rattle.std.proofs.lemmas.Result.{IfOk-weaker}
use Rattle.json.specs.Print.{print}
use Rattle.json.specs.Token.{begin_object, end_object}
use Rattle.gq_cells.specs.Cells.{value_of}
use Rattle.gq_format.specs.Jsons.{object_text}
use Rattle.gq_format.specs.Tokens.{member_tokens}
use Rattle.gq_format.proofs.ObjectLemmas.{no_more_members, object_line, one_more_member}
use Rattle.gq_format.proofs.objects.with_object.Goals as goal

pub loop-column-preserved : goal.loop-column-preserved
loop-column-preserved c =
    let names = c.args.names.now in
    let row = c.args.row.now in
    let i = c.loop-column.column in
    let named : i < length names = omega arith in
    let within : i < length row = omega arith in
    let at : c.index-names-column.result ≡ slice_index_or names i [] = c.index-names-column.is ∙ get_or_default names i c.index-names-column.result [] named in
    record {
      before = grind (arith, common_steps);
      tokens = one_more_member names row i c.loop-column.object.tokens c.write_member.new.object.tokens (begin_object ∷ flat_map member_tokens (zip names row)) named within c.loop-column.invariant.tokens
          (c.in_ok-write_member.ensures.tokens ∙ ap (λ name. c.loop-column.object.tokens ++ member_tokens (name, value_of c.cell.result)) at ∙ ap (λ v. c.loop-column.object.tokens ++ member_tokens (slice_index_or names i [], v)) c.cell.ensures);
    }

pub returns : goal.returns
returns c =
    let names = c.args.names.now in
    let row = c.args.row.now in
    let i = c.loop-column.column in
    let done : min (length names) (length row) ≤ i = omega arith in
    let all = no_more_members names row i c.loop-column.object.tokens (begin_object ∷ flat_map member_tokens (zip names row)) done c.loop-column.invariant.tokens in
    IfOk-weaker c.finish.result (λ line. line.items ≡ c.loop-column.object.before ++ print (c.loop-column.object.tokens ++ end_object ∷ []) ++ 10 ∷ []) (λ line. line.items ≡ c.args.front.items ++ (object_text names row ++ codes "\n"))
    (λ line is. object_line c.args.front.items c.loop-column.object.before line.items c.loop-column.object.tokens names row c.loop-column.invariant.before all is) c.finish.ensures
