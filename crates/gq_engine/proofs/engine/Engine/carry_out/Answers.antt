use Rattle.gq_command.specs.declared.command.Command.TheVariants.{Create, Drop, Load, Upsert, Delete, Show, Group, Distinct}
use Rattle.gq_engine.proofs.CarryingLemmas.{carried_as}
use Rattle.gq_engine.proofs.engine.Engine.carry_out.Goals as goal

pub returns-in-Create : goal.returns-in-Create
returns-in-Create g c = carried_as g.S.RunStore.runs c.args.command (Create c.in-Create.table c.in-Create.columns c.in-Create.key) c.create.result c.args.self.now c.create.new.self c.in-Create.is c.create.ensures

pub returns-in-Drop : goal.returns-in-Drop
returns-in-Drop g c = carried_as g.S.RunStore.runs c.args.command (Drop c.in-Drop.table) c.drop_table.result c.args.self.now c.drop_table.new.self c.in-Drop.is c.drop_table.ensures

pub returns-in-Load : goal.returns-in-Load
returns-in-Load g c = carried_as g.S.RunStore.runs c.args.command (Load c.in-Load.table c.in-Load.payload) c.load.result c.args.self.now c.load.new.self c.in-Load.is c.load.ensures

pub returns-in-Upsert : goal.returns-in-Upsert
returns-in-Upsert g c = carried_as g.S.RunStore.runs c.args.command (Upsert c.in-Upsert.table c.in-Upsert.values) c.upsert.result c.args.self.now c.upsert.new.self c.in-Upsert.is c.upsert.ensures

pub returns-in-Delete : goal.returns-in-Delete
returns-in-Delete g c = carried_as g.S.RunStore.runs c.args.command (Delete c.in-Delete.table c.in-Delete.values) c.delete.result c.args.self.now c.delete.new.self c.in-Delete.is c.delete.ensures

pub returns-in-Show : goal.returns-in-Show
returns-in-Show g c = carried_as g.S.RunStore.runs c.args.command (Show c.in-Show.table) c.show.result c.args.self.now c.args.self.now c.in-Show.is c.show.ensures

pub returns-in-Group : goal.returns-in-Group
returns-in-Group g c = carried_as g.S.RunStore.runs c.args.command (Group c.in-Group.table c.in-Group.by c.in-Group.shown c.in-Group.tests c.in-Group.exists c.in-Group.having) c.group.result c.args.self.now c.group.new.self c.in-Group.is (rw c.as_str.ensures at c.group.ensures)

pub returns-in-Distinct : goal.returns-in-Distinct
returns-in-Distinct g c = carried_as g.S.RunStore.runs c.args.command (Distinct c.in-Distinct.table c.in-Distinct.on c.in-Distinct.tests) c.distinct.result c.args.self.now c.distinct.new.self c.in-Distinct.is (rw (c.as_str-in-Distinct.ensures, c.as_slice.ensures) at c.distinct.ensures)
