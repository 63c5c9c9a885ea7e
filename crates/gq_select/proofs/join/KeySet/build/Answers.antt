use Rattle.gq_select.proofs.join.KeySet.build.Goals as goal

pub loop-row-init : goal.loop-row-init
loop-row-init g c = c.new-keys.ensures c.args.columns.now
