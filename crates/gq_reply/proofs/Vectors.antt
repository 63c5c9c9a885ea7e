-- Worked examples, computed by the definitions.
use Rattle.std.proofs.Common.{◌≡◌, [], ◌∷◌, pos, negsuc, Some, refl, codes}
use Rattle.std.specs.Fmt.{digits}
use Rattle.csv.specs.Writing.{fields_text, is_blank, escaped}
use Rattle.gq_row.specs.declared.value.Value.TheVariants.{Null, Int, Text, NoCase}
use Rattle.gq_reply.specs.declared.refusal.Refusal.TheVariants.{TypeMismatch, SumRange}
use Rattle.gq_reply.specs.declared.reply.Reply.TheVariants as reply
use Rattle.gq_reply.specs.Replies.{text}
use Rattle.gq_reply.specs.Refusals.{refused}

-- texts of replies
ok_text : text (reply.Done 1) ≡ codes "ok 1\n"
unfolding digits
ok_text = refl

err_text : text (refused SumRange) ≡ codes "err 13 SumRange\n"
unfolding digits
err_text = refl

err_text_of_a_record : text (reply.Refused TypeMismatch (Some 12)) ≡ codes "err 6 TypeMismatch 12\n"
unfolding digits
err_text_of_a_record = refl

rows_text : text (reply.Rows (codes "city" ∷ codes "count(*)" ∷ []) ((Null ∷ Int (pos 3) ∷ []) ∷ (Text [] ∷ Int (pos 2) ∷ []) ∷ [])) ≡ codes "ok 2\ncity,count(*)\n\\N,3\n,2\n"
unfolding fields_text is_blank escaped digits
rows_text = refl

as_written : text (reply.Rows (codes "c" ∷ []) ((NoCase (codes "OSLO") ∷ []) ∷ (NoCase (codes "Rome") ∷ []) ∷ [])) ≡ codes "ok 2\nc\nOSLO\nRome\n"
unfolding fields_text is_blank escaped digits
as_written = refl

quoted_text : text (reply.Rows (codes "a" ∷ []) ((Text (codes "x, \"y\"") ∷ []) ∷ (Int (negsuc 0) ∷ []) ∷ [])) ≡ codes "ok 2\na\n\"x, \"\"y\"\"\"\n-1\n"
unfolding fields_text is_blank escaped digits
quoted_text = refl
