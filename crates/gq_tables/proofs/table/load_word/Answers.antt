use Rattle.std.proofs.Common.{◌<◌, true, length, arith}
use Rattle.std.specs.Prelude.{slice_index_or}
use Rattle.std.specs.Fn.{FnReturnsAt}
use Rattle.std.proofs.lemmas.Result.{IfOk-weaker}
use Rattle.gq_engine.specs.Engines.{database, setting_of}
use Rattle.gq_tables.specs.declared.source.Source.TheVariants.{Path}
use Rattle.gq_tables.proofs.WordLemmas.{both_ok, bytes_at, filled_same, filled_next, same_name, without_name}
use Rattle.gq_tables.proofs.table.load_word.Goals as goal

pub returns-then-not-is_same-clause-filled : goal.returns-then-not-is_same-clause-filled
returns-then-not-is_same-clause-filled g c = λ contents first before columns key knows none old.
    let words = c.args.files.now.words.now in
    let other = same_name words c.args.at c.args.word first c.is_same.result _ knows.here (c.is_same.ensures first) c.if-not-is_same.true in
    filled_same contents c.args.files.now.short (setting_of g.S.RunStore.runs c.args.engine.now).limits before first.name columns key (database c.args.engine.now) _ _
    (without_name first.name words c.args.word first (omega (arith, c.requires.word, c.requires.sources)) other) old

pub returns-clause-filled : goal.returns-clause-filled
returns-clause-filled g c =
    IfOk-weaker c.load_file.result _ _
    (λ _ both contents first before columns key knows none old.
    let words = c.args.files.now.words.now in
    let within : c.args.word < length words = omega (arith, c.requires.word, c.requires.sources) in
    let same = same_name words c.args.at c.args.word first c.is_same.result true knows.here (c.is_same.ensures first) c.if-not-is_same.false in
    filled_next contents c.args.files.now.short (setting_of g.S.RunStore.runs c.args.engine.now).limits before first.name columns key (database c.args.engine.now) (database c.load_file.new.engine) words c.args.at c.args.word first
    none c.requires.at within knows.earliest same (λ l. both.0 l first)
    (both.1 first Path (contents (slice_index_or words c.args.word first).file.now)
    (bytes_at g.R.Read.remaining (λ name opened. FnReturnsAt g.F.Fn c.args.files.now.opener.now name opened) contents words c.args.files.now.sources.now c.args.word first Path knows.bytes c.requires.word)) old)
    (both_ok c.load_file.result _ _ c.load_file.ensures.plain c.load_file.ensures.loaded)
