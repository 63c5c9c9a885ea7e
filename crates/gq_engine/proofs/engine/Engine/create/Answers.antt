use Rattle.std.proofs.Common.{◌≡◌, ◌∙◌, ◌++◌, ◌∷◌, [], Bool, false, Option, Some, None, Bor, refl, sym, ap, subst, bytes_eq, length}
use Rattle.std.specs.Prelude.{Ok, Err, is_some, option_copied}
use Rattle.std.proofs.lemmas.Bool.{le-ltb, lt-ltb}
use Rattle.gq_engine.specs.Databases.{Database, table_at}
use Rattle.gq_command.specs.declared.command.Command.TheVariants.{Create}
use Rattle.gq_reply.specs.declared.reply.Reply.TheVariants as reply
use Rattle.gq_reply.specs.declared.refusal.Refusal.TheVariants.{Memory, TableExists, NoColumn, Limit}
use Rattle.gq_reply.specs.Refusals.{unnumbered}
use Rattle.gq_engine.specs.Steps.{create}
use Rattle.gq_reply.proofs.StepLemmas.{missed}
use Rattle.gq_engine.proofs.CarryingLemmas.{carried_plainly, passed_on}
use Rattle.gq_engine.proofs.StepLemmas.{no_memory_at, refuses, carries, create_exists, create_lacks, create_full, create_adds}
use Rattle.gq_row.specs.Repeats.{no_repeats}
use Rattle.gq_command.specs.Commands.{some, column_names}
use Rattle.gq_plan.proofs.ColumnLemmas.{is_schema_of}
use Rattle.gq_table.proofs.ValidTableLemmas.{two}
use Rattle.gq_engine.proofs.engine.Engine.create.Goals as goal

-- whether something is there, by what was looked up
there_as : {X : Type 0} (o : Option (Bor X)) (at : Option X) (b : Bool) → option_copied o ≡ at → b ≡ is_some o → is_some at ≡ b
there_as None at b e h = ap is_some (sym e) ∙ sym h
there_as (Some x) at b e h = ap is_some (sym e) ∙ sym h

absent_as : {X : Type 0} (o : Option (Bor X)) (at : Option X) → option_copied o ≡ at → false ≡ is_some o → at ≡ None
absent_as None at e h = sym e
absent_as (Some x) at e h = let none : ⊥ = cc in absurd none

pub add-requires : goal.add-requires
add-requires g c = absent_as c.get.result (table_at c.args.self.now.catalog c.args.name) (rw c.as_str.ensures at c.get.ensures) c.if-is_some.ensures

pub of-schema-requires : goal.of-schema-requires
of-schema-requires g c =
    let rules = two (no_repeats bytes_eq (column_names c.args.columns)) (no_repeats bytes_eq c.args.key) (two (some c.args.columns) _ c.requires).1 in
    let found = sym (rw (c.as_slice.ensures, c.as_slice-2.ensures) at c.in_ok-find_positions.ensures) ∙ c.in_ok-positions.ensures.ok_part in
    let schema = is_schema_of c.args.columns c.args.key c.in_ok-positions.positions rules.0 rules.1 found in
    rw (c.into_vec.ensures, c.into_vec-2.ensures) schema

-- what was found of the name and of the key columns
pub returns-then-is_some : goal.returns-then-is_some
returns-then-is_some g c =
    let self = c.args.self.now in
    carried_plainly g.S.RunStore.runs (Create c.args.name c.args.columns c.args.key) (Err c.from.result) self self.catalog refl refl (
    refuses (create self.limits.bounds self.catalog c.args.name c.args.columns c.args.key) TableExists c.from.result self.catalog c.from.ensures
    (create_exists self.limits.bounds self.catalog c.args.name c.args.columns c.args.key (there_as c.get.result (table_at self.catalog c.args.name) _ (rw c.as_str.ensures at c.get.ensures) c.if-is_some.ensures)))

pub returns-in_err-find_positions : goal.returns-in_err-find_positions
returns-in_err-find_positions g c =
    let self = c.args.self.now in
    let command = Create c.args.name c.args.columns c.args.key in
    passed_on g.S.RunStore.runs command (unnumbered Memory) self self c.from_residual.result c.from_residual.ensures.1
    (carried_plainly g.S.RunStore.runs command (Err (unnumbered Memory)) self self.catalog refl refl
    (no_memory_at (create self.limits.bounds self.catalog c.args.name c.args.columns c.args.key) (unnumbered Memory) self.catalog self.catalog refl refl))

pub returns-in_err-positions : goal.returns-in_err-positions
returns-in_err-positions g c =
    let self = c.args.self.now in
    let command = Create c.args.name c.args.columns c.args.key in
    let why = c.in_err-positions.field-0.0 in
    let m = missed c.in_ok-find_positions.field-0 why NoColumn c.in_err-positions.ensures.value in
    passed_on g.S.RunStore.runs command (unnumbered why) self self c.from_residual-in_err-positions.result c.from_residual-in_err-positions.ensures.1
    (carried_plainly g.S.RunStore.runs command (Err (unnumbered why)) self self.catalog refl refl
    (refuses (create self.limits.bounds self.catalog c.args.name c.args.columns c.args.key) NoColumn (unnumbered why) self.catalog (ap unnumbered m.1)
    (create_lacks self.limits.bounds self.catalog c.args.name c.args.columns c.args.key (there_as c.get.result (table_at self.catalog c.args.name) _ (rw c.as_str.ensures at c.get.ensures) c.if-is_some.ensures)
    (sym (rw (c.as_slice.ensures, c.as_slice-2.ensures) at c.in_ok-find_positions.ensures) ∙ m.0))))

pub returns-then-self-len : goal.returns-then-self-len
returns-then-self-len g c =
    let self = c.args.self.now in
    carried_plainly g.S.RunStore.runs (Create c.args.name c.args.columns c.args.key) (Err c.from-then-self-len.result) self self.catalog refl refl
    (refuses (create self.limits.bounds self.catalog c.args.name c.args.columns c.args.key) Limit c.from-then-self-len.result self.catalog c.from-then-self-len.ensures
    (create_full self.limits.bounds self.catalog c.args.name c.args.columns c.args.key c.in_ok-positions.positions (there_as c.get.result (table_at self.catalog c.args.name) _ (rw c.as_str.ensures at c.get.ensures) c.if-is_some.ensures)
    (sym (rw (c.as_slice.ensures, c.as_slice-2.ensures) at c.in_ok-find_positions.ensures) ∙ c.in_ok-positions.ensures.ok_part) (le-ltb (length self.catalog) self.limits.bounds.tables (rw c.len.ensures.count at c.if-self-len.true))))

pub returns-in_err-add : goal.returns-in_err-add
returns-in_err-add g c =
    let self = c.args.self.now in
    let command = Create c.args.name c.args.columns c.args.key in
    passed_on g.S.RunStore.runs command (unnumbered Memory) self _ c.from_residual-in_err-add.result c.from_residual-in_err-add.ensures.1
    (carried_plainly g.S.RunStore.runs command (Err (unnumbered Memory)) self c.add.new.self refl refl
    (no_memory_at (create self.limits.bounds self.catalog c.args.name c.args.columns c.args.key) (unnumbered Memory) self.catalog c.add.new.self c.in_err-add.ensures.err refl))

pub returns : goal.returns
returns g c =
    let self = c.args.self.now in
    let db = self.catalog in
    let added : db ++ (c.args.name, record { schema = record { columns = c.args.columns; key = c.in_ok-positions.positions }; rows = [] }) ∷ [] ≡ c.add.new.self = sym (rw (c.of-schema.ensures, c.into_vec.ensures, c.into_vec-2.ensures) at c.in_ok-add.ensures.ok) in
    let P : Database → Type 0 = λ d. create self.limits.bounds db c.args.name c.args.columns c.args.key ≡ Ok (d, reply.Done 0) in
    carried_plainly g.S.RunStore.runs (Create c.args.name c.args.columns c.args.key) (Ok (reply.Done 0)) self c.add.new.self refl refl
    (carries (create self.limits.bounds db c.args.name c.args.columns c.args.key) (reply.Done 0) db c.add.new.self
    (subst P added (create_adds self.limits.bounds db c.args.name c.args.columns c.args.key c.in_ok-positions.positions (there_as c.get.result (table_at db c.args.name) _ (rw c.as_str.ensures at c.get.ensures) c.if-is_some.ensures)
    (sym (rw (c.as_slice.ensures, c.as_slice-2.ensures) at c.in_ok-find_positions.ensures) ∙ c.in_ok-positions.ensures.ok_part) (lt-ltb (length db) self.limits.bounds.tables (rw c.len.ensures.count at c.if-self-len.false))))
    tt)
