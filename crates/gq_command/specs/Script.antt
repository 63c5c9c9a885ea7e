-- The parts of a script.
pub use Rattle.gq_script.specs.Script.{mark_length, without_mark, raw_lines, content, is_skipped, is_end_mark, payload_of, Entry, Plain, Loading, line_of, takes_payload, first_entry_by, first_entry, items_left, items, InOrder}
pub use Rattle.gq_script.specs.Numbering.{Numbered, entries_of, numbered_left, numbered}
pub use Rattle.gq_script.specs.Gathering.{Gathers}
pub use Rattle.gq_script.specs.declared.gather.OpenLine.{OpenLine}
