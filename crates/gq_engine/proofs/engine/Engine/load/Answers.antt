use Rattle.std.proofs.Common.{refl}
use Rattle.std.specs.Prelude.{Ok, Err}
use Rattle.gq_command.specs.declared.command.Command.TheVariants.{Load}
use Rattle.gq_reply.specs.declared.reply.Reply.TheVariants.{Done}
use Rattle.gq_load.specs.declared.short_records.Short.TheVariants as short
use Rattle.gq_engine.specs.Staging.{IsStagedFor}
use Rattle.gq_engine.proofs.CarryingLemmas.{carried_plainly, passed_on}
use Rattle.gq_engine.proofs.OrderLemmas.{same_tables}
use Rattle.gq_engine.proofs.StagingLemmas.{staged_done, staged_refused}
use Rattle.gq_engine.proofs.engine.Engine.load.Goals as goal

pub returns-in_err-staged : goal.returns-in_err-staged
returns-in_err-staged g c =
    let self = c.args.self.now in
    let command = Load c.args.name c.args.payload in
    let why = c.in_err-staged.field-0.0 in
    passed_on g.S.RunStore.runs command why self self c.from_residual.result c.from_residual.ensures.1
    (carried_plainly g.S.RunStore.runs command (Err why) self self.catalog refl refl (same_tables self.catalog, rw c.as_str.ensures at c.in_err-staged.ensures.refused))

pub returns-in_err-load : goal.returns-in_err-load
returns-in_err-load g c =
    let self = c.args.self.now in
    let bounds = self.limits.bounds in
    let command = Load c.args.name c.args.payload in
    let why = c.in_err-load.field-0.0 in
    let own : IsStagedFor bounds self.catalog c.args.name c.args.payload c.in_ok-staged.staged c.in_ok-staged.count = rw c.as_str.ensures at c.in_ok-staged.ensures.staged in
    passed_on g.S.RunStore.runs command why self _ c.from_residual-in_err-load.result c.from_residual-in_err-load.ensures.1
    (carried_plainly g.S.RunStore.runs command (Err why) self c.load.new.self refl refl
    (staged_refused short.Refused bounds self.catalog c.args.name own.table own.found c.tables-keyed.ensures c.args.payload own.bytes own.carried own.told c.in_ok-staged.staged c.in_ok-staged.count own.staged (Unit {0}) why c.load.new.self (rw c.as_str-2.ensures at c.in_err-load.ensures)))

pub returns : goal.returns
returns g c =
    let self = c.args.self.now in
    let bounds = self.limits.bounds in
    let own : IsStagedFor bounds self.catalog c.args.name c.args.payload c.in_ok-staged.staged c.in_ok-staged.count = rw c.as_str.ensures at c.in_ok-staged.ensures.staged in
    carried_plainly g.S.RunStore.runs (Load c.args.name c.args.payload) (Ok (Done c.in_ok-staged.count)) self c.load.new.self refl refl
    (staged_done short.Refused bounds self.catalog c.args.name own.table own.found c.tables-keyed.ensures c.args.payload own.bytes own.carried own.told c.in_ok-staged.staged c.in_ok-staged.count own.staged {X = Unit {0}} c.in_ok-load.field-0 c.load.new.self (rw c.as_str-2.ensures at c.in_ok-load.ensures))
