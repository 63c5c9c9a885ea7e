use Rattle.std.proofs.Common.{◌≡◌, ◌++◌, codes, take, flat_map}
use Rattle.gq_format.specs.Jsons.{object_text}
use Rattle.gq_format.proofs.objects.json_text.Given as goal

abbrev pub invariant-loop-i : goal.invariant-loop-i
invariant-loop-i l = l.text.items ≡ flat_map (λ row. object_text l.names.items row ++ codes "\n") (take l.i l.rows)
