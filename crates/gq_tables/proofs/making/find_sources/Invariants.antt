use Rattle.std.proofs.Common.{◌≡◌, ℕ, List, false, length, take}
use Rattle.std.specs.Fn.{FnReturnsAt}
use Rattle.std.specs.List.{list_any}
use Rattle.gq_tables.specs.Files.{AreFiles, HaveBytes, is_input}
use Rattle.gq_tables.proofs.making.find_sources.Given as goal

abbrev pub invariant-loop-word : goal.invariant-loop-word
invariant-loop-word g l = record {
  many : length l.sources.items ≡ l.word;
  have : (contents : List ℕ → List ℕ)
      → AreFiles g.R.Read.remaining (λ name opened. FnReturnsAt g.F.Fn l.opener name opened) (g.I.Read.remaining l.fn.input) l.words contents
      → HaveBytes g.R.Read.remaining (λ name opened. FnReturnsAt g.F.Fn l.opener name opened) contents l.words l.sources.items;
  untouched : list_any is_input (take l.word l.words) ≡ false → l.input ≡ l.fn.input;
}
