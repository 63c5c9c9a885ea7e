use Rattle.std.proofs.Common.{◌∙◌, sym, ap, subst}
use Rattle.sw_index.specs.Index.{HasNone}
use Rattle.gq_row.specs.Classes.{class_of}
use Rattle.gq_row.specs.Rows.{key_of}
use Rattle.gq_select.proofs.KeySetLemmas.{none_found, some_found}
use Rattle.gq_select.proofs.join.semi_join.Goals as goal

pub returns-in-At-clause-found : goal.returns-in-At-clause-found
returns-in-At-clause-found g c =
    let there = c.in-At.ensures.found in
    sym (some_found c.args.keys.now.index.keys (key_of c.args.columns.now c.args.row.now) c.in-At.field-0 there.0 there.1 (there.2 ∙ ap class_of c.new.ensures))

pub returns-in-At-clause-exists : goal.returns-in-At-clause-exists
returns-in-At-clause-exists g c = λ theirs others are. returns-in-At-clause-found g c ∙ are (key_of c.args.columns.now c.args.row.now)

pub returns-in-Absent-clause-found : goal.returns-in-Absent-clause-found
returns-in-Absent-clause-found g c =
    let keys = c.args.keys.now.index.keys in
    let none = subst (λ k. HasNone class_of keys (class_of k)) c.new.ensures c.in-Absent.ensures.absent.none in
    sym (none_found keys (key_of c.args.columns.now c.args.row.now) none)

pub returns-in-Absent-clause-exists : goal.returns-in-Absent-clause-exists
returns-in-Absent-clause-exists g c = λ theirs others are. returns-in-Absent-clause-found g c ∙ are (key_of c.args.columns.now c.args.row.now)
