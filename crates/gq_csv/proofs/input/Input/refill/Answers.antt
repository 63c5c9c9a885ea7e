use Rattle.std.proofs.Common.{◌≡◌, ◌∙◌, ◌+◌, ◌-◌, ◌++◌, length, take, drop, ap, subst, sym, arith}
use Rattle.std.specs.Io.KnownBytes.{Consumes}
use Rattle.gq_csv.proofs.InputLemmas.{refilled, whole_buffer}
use Rattle.gq_csv.proofs.input.Input.refill.Goals as goal

pub returns-clause-bytes : goal.returns-clause-bytes
returns-clause-bytes g c =
    let own = c.self.inside in
    let held = own.filled - own.start in
    let count = c.in_ok-count.count in
    let moved = c.move_front.new.bytes in
    let bytes = c.read_after.new.bytes in
    let old = g.R.Read.remaining own.source in
    let new = g.R.Read.remaining c.read_after.new.source in
    let size : length bytes ≡ length moved.items = c.read_after.ensures.len ∙ ap length c.as_mut_slice.ensures.value in
    let buffer = take moved.len (bytes ++ drop (length bytes) moved.items) in
    let whole : buffer ≡ bytes = whole_buffer moved.items bytes moved.len moved.ok.0 size in
    let front : take held buffer ≡ take held (drop own.start own.buffer.items) =
    ap (take held) whole ∙ c.read_after.ensures.held ∙ ap (take held) c.as_mut_slice.ensures.value ∙ c.move_front.ensures.front in
    let given : Consumes old new (take count (drop held buffer)) = subst (λ l. Consumes old new (take count (drop held l))) (sym whole) c.in_ok-count.ensures.bytes in
    rw (← c.self.view_is) (refilled old new (take held (drop own.start own.buffer.items)) buffer held count (held + count - 0) (omega arith) front given)
