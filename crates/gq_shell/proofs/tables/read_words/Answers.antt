use Rattle.std.proofs.Common.{◌∙◌, ◌+◌, sym, subst, map, take, length, List, arith, ◌<◌}
use Rattle.std.specs.Borrow.{Bor}
use Rattle.std.specs.List.{AllZip}
use Rattle.gq_row.specs.Limits.{GREATEST}
use Rattle.gq_infer.specs.Said.{SaysWord}
use Rattle.gq_options.specs.CommandLine.{Text}
use Rattle.gq_tables.specs.Files.{is_input}
use Rattle.gq_shell.proofs.InputLemmas.{left_more, next_said, once_more, still_left, taken_more, was_taken}
use Rattle.gq_shell.proofs.tables.read_words.Goals as goal

pub loop-text-preserved : goal.loop-text-preserved
loop-text-preserved g c = record {
  quiet = c.in_ok-takes_input.ensures.quiet ∙ c.loop-text.invariant.quiet;
  said =
      let slice = c.as_slice-text-items.result.now in
      let value = c.as_slice-text-items.ensures.value in
      let i = c.loop-text.text-index in
      let read = c.in_ok-takes_input.ensures.read in
      let before = subst (λ (s : List (Bor Text)). AllZip (SaysWord GREATEST) (map (λ (text : Bor Text). text.now) (take i s)) c.loop-text.words.items) (sym value) c.loop-text.invariant.said in
      let within : i < length slice = omega (arith, c.loop-text-test.true, c.as_slice-text-items.ensures.len, c.loop-text.auto.text-index-end) in
      subst (λ (s : List (Bor Text)). AllZip (SaysWord GREATEST) (map (λ (text : Bor Text). text.now) (take (i + 1) s)) c.read_word.new.words.items) value
      (next_said slice i _ c.loop-text.words.items c.read_word.new.words.items read.word within before read.pushed read.said);
  once =
      let read = c.in_ok-takes_input.ensures.read in
      once_more is_input c.loop-text.words.items c.read_word.new.words.items read.word read.pushed (λ taken. read.once (was_taken _ _ _ c.loop-text.invariant.input taken)) c.loop-text.invariant.once;
  input = taken_more is_input c.loop-text.words.items c.read_word.new.words.items c.in_ok-takes_input.ensures.read.word c.in_ok-takes_input.takes_input c.loop-text.takes_input c.takes_input-takes_input.result c.in_ok-takes_input.ensures.read.pushed c.loop-text.invariant.input c.in_ok-takes_input.ensures.read.taken;
  left = λ taken.
      let read = c.in_ok-takes_input.ensures.read in
      still_left is_input c.loop-text.words.items c.read_word.new.words.items read.word read.pushed (c.loop-text.invariant.left taken) (read.once (left_more _ _ _ taken c.loop-text.invariant.input));
}
