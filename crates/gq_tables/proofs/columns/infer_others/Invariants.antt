use Rattle.std.proofs.Common.{◌≡◌, ◌+◌, ℕ, List, [], drop, take}
use Rattle.std.specs.Fn.{FnReturnsAt}
use Rattle.gq_infer.specs.declared.word.TableWord.{TableWord}
use Rattle.gq_infer.specs.Files.{inferred}
use Rattle.gq_tables.specs.Files.{Knows}
use Rattle.gq_tables.specs.Made.{files_of, of_name}
use Rattle.gq_tables.proofs.columns.infer_others.Given as goal

abbrev pub invariant-loop-word : goal.invariant-loop-word
invariant-loop-word g l = (contents : List ℕ → List ℕ) (first : TableWord)
    → Knows g.R.Read.remaining (λ name opened. FnReturnsAt g.F.Fn l.files.opener.now name opened) l.files l.at contents first
    → l.fn.inference ≡ inferred (contents first.file.now) []
    → l.inference ≡ inferred (contents first.file.now) (files_of contents (of_name first.name (drop (l.at + 1) (take l.word l.files.words.now))))
