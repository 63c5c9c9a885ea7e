use Rattle.std.proofs.Common.{◌≡◌, ◌∷◌, ◌++◌, drop, flat_map, zip}
use Rattle.json.specs.Token.{begin_object}
use Rattle.gq_format.specs.Tokens.{member_tokens}
use Rattle.gq_format.proofs.objects.with_object.Given as goal

abbrev pub invariant-loop-column : goal.invariant-loop-column
invariant-loop-column l = record {
  before : l.object.before ≡ l.fn.front.items;
  tokens : l.object.tokens ++ flat_map member_tokens (zip (drop l.column l.names) (drop l.column l.row)) ≡ begin_object ∷ flat_map member_tokens (zip l.names l.row);
}
