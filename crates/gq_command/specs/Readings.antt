-- Each item of a script is read in only one way.
use Rattle.std.specs.Prelude.{◌≡◌}
use Rattle.std.specs.List.{All}
use Rattle.gq_row.specs.declared.limits.Bounds.{Bounds}
use Rattle.gq_command.specs.declared.reader.Item.{Item}
use Rattle.gq_command.specs.Commands.{Bytes}
use Rattle.gq_command.specs.Items.{ReadsAs}
use Rattle.gq_script.specs.Script.{Entry, items}

-- the entry is read as one item, and as no other
pub record HasOneReading (b : Bounds) (e : Entry) : Type 0 where
  pub reading : Item
  pub reads : ReadsAs b e reading
  pub only : (other : Item) → ReadsAs b e other → other ≡ reading

-- each item of a script has one reading
abbrev pub ReadsOnce : Type 0
ReadsOnce = (b : Bounds) (script : Bytes) → All (HasOneReading b) (items b script)
