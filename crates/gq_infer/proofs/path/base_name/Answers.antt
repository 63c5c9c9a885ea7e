use Rattle.gq_infer.proofs.WordLemmas.{past_slash}
use Rattle.gq_infer.proofs.path.base_name.Goals as goal

pub range_from-requires : goal.range_from-requires
range_from-requires c = λ h. past_slash c.args.path.now c.as_bytes.result.now c.after_last.result c.utf8.path c.as_bytes.ensures.value c.after_last.ensures.place h (c.after_last.ensures.after h)
