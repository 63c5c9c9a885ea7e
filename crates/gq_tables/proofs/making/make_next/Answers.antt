use Rattle.std.proofs.Common.{◌≡◌, ◌∙◌, ◌<◌, List, ap, subst, sym, take, length, arith, bytes_eq}
use Rattle.std.specs.Prelude.{slice_index_or}
use Rattle.std.specs.List.{list_any}
use Rattle.std.proofs.lemmas.List.{get_or_default, take_all}
use Rattle.gq_engine.specs.Engines.{database, setting_of}
use Rattle.gq_infer.specs.declared.word.TableWord.{TableWord}
use Rattle.gq_tables.specs.Made.{IsTableOf, of_name}
use Rattle.gq_tables.specs.Steps.{IsWith}
use Rattle.gq_tables.proofs.MadeLemmas.{made_more, made_same, not_made}
use Rattle.gq_tables.proofs.making.make_next.Goals as goal

pub returns-then-end-at-clause-made : goal.returns-then-end-at-clause-made
returns-then-end-at-clause-made g c = λ fine contents have whole made.
    absurd (omega (arith, c.end_before-end.ensures.all fine, c.if-end-at.true, c.requires.at))

pub returns-then-has_name-clause-made : goal.returns-then-has_name-clause-made
returns-then-has_name-clause-made g c = λ fine contents have whole made.
    let words = c.args.files.now.words.now in
    let there = ap (λ n. list_any (λ (w : TableWord). bytes_eq w.name n) (take c.args.at words)) (sym c.as_str.ensures) ∙ sym c.has_name.ensures ∙ c.if-has_name.true in
    made_same contents c.args.files.now.short (setting_of g.S.RunStore.runs c.args.engine.now).limits words c.args.at c.index-files-at.result (database c.args.engine.now) (omega (arith, c.requires.at, c.requires.sources)) there made

pub returns-in-Ok-clause-made : goal.returns-in-Ok-clause-made
returns-in-Ok-clause-made g c = λ fine contents have whole made.
    let words = c.args.files.now.words.now in
    let at = c.args.at in
    let d = c.index-files-at.result in
    let first = slice_index_or words at d in
    let short = c.args.files.now.short in
    let limits = (setting_of g.S.RunStore.runs c.args.engine.now).limits in
    let old = database c.args.engine.now in
    let new = database c.make_table.new.engine in
    let within : at < length words = omega (arith, c.requires.at, c.requires.sources) in
    let none = ap (λ n. list_any (λ (w : TableWord). bytes_eq w.name n) (take at words)) (sym c.as_str.ensures) ∙ sym c.has_name.ensures ∙ c.if-has_name.false in
    let all : take c.end_before-end.result words ≡ words = take_all c.end_before-end.result words (omega (arith, c.end_before-end.ensures.all fine, whole)) in
    let table = c.in-Ok.ensures.made contents first (record { bytes = have; here = get_or_default words at first d within; earliest = none }) (not_made contents short limits words at d old none made) in
    made_more contents short limits words at d old new within none made
    (subst (λ (ws : List TableWord). IsWith old first.name (IsTableOf contents short limits (of_name first.name ws)) new) all table)
