use Rattle.std.specs.Vec.Iter.{into_iter_items}
use Rattle.gq_cells.proofs.KeyLemmas.{utf8_taken}
use Rattle.gq_cells.proofs.cells_left.next_word.Goals as goal

pub returns-clause-utf8 : goal.returns-clause-utf8
returns-clause-utf8 c = (utf8_taken (into_iter_items c.args.words.now) (into_iter_items c.next.new.self) c.next.result c.next.ensures.items c.requires).0

pub returns-clause-left : goal.returns-clause-left
returns-clause-left c = (utf8_taken (into_iter_items c.args.words.now) (into_iter_items c.next.new.self) c.next.result c.next.ensures.items c.requires).1
