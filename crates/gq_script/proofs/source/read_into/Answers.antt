use Rattle.gq_script.proofs.Front.{filled}
use Rattle.gq_script.proofs.source.read_into.Goals as goal

pub loop-len-preserved : goal.loop-len-preserved
loop-len-preserved g c =
    let f = filled c.loop-len.len c.in-Ok.count c.loop-len.buffer c.read.new.buf (g.R.Read.remaining c.args.reader.now) (g.R.Read.remaining c.loop-len.reader) (g.R.Read.remaining c.read.new.self) c.loop-len.invariant.within c.loop-len.invariant.size c.read.auto.buf c.in-Ok.ensures.bound.0 c.loop-len.invariant.read c.in-Ok.ensures.bytes.0 in
    record { within = f.within; size = f.size; read = f.read }
