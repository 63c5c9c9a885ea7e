use Rattle.std.proofs.Common.{◌≡◌, true, false, map, take}
use Rattle.std.specs.Prelude.{◌&&◌, ◌||◌, AllPairs}
use Rattle.std.specs.Borrow.{Bor}
use Rattle.std.specs.List.{AllZip, list_any}
use Rattle.gq_row.specs.Limits.{GREATEST}
use Rattle.gq_infer.specs.declared.word.TableWord.{TableWord}
use Rattle.gq_infer.specs.Said.{SaysWord}
use Rattle.gq_options.specs.CommandLine.{Text}
use Rattle.gq_tables.specs.Files.{is_input}
use Rattle.gq_shell.proofs.tables.read_words.Given as goal

abbrev pub invariant-loop-text : goal.invariant-loop-text
invariant-loop-text g l = record {
  quiet : l.errors ≡ l.fn.errors;
  said : AllZip (SaysWord GREATEST) (map (λ (text : Bor Text). text.now) (take l.text-index l.options.tables.items)) l.words.items;
  once : AllPairs (λ (a b : TableWord). (is_input a && is_input b) ≡ false) l.words.items;
  input : l.takes_input ≡ (l.initial.takes_input || list_any is_input l.words.items);
  left : l.initial.takes_input ≡ true → list_any is_input l.words.items ≡ false;
}
