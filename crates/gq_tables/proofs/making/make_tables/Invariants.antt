use Rattle.std.proofs.Common.{◌≡◌, ◌<◌, length, ℕ, List, [], None}
use Rattle.std.specs.Prelude.{IfSome}
use Rattle.std.specs.Fn.{FnReturnsAt}
use Rattle.gq_engine.specs.Engines.{database, setting_of}
use Rattle.gq_tables.specs.Files.{AreFiles}
use Rattle.gq_tables.specs.Reasons.{IsFaultAt}
use Rattle.gq_tables.specs.Steps.{MadeUpTo}
use Rattle.gq_tables.proofs.making.make_tables.Given as goal

abbrev pub invariant-loop-at : goal.invariant-loop-at
invariant-loop-at g l = record {
  setting : setting_of g.S.RunStore.runs l.engine ≡ setting_of g.S.RunStore.runs l.fn.engine;
  before : l.fault ≡ None → l.initial.fault ≡ None;
  made : l.fault ≡ None → (contents : List ℕ → List ℕ)
      → AreFiles g.R.Read.remaining (λ name opened. FnReturnsAt g.F.Fn l.opener name opened) (g.I.Read.remaining l.fn.input) l.words contents
      → database l.fn.engine ≡ [] → MadeUpTo contents l.files.short (setting_of g.S.RunStore.runs l.fn.engine).limits l.words l.at (database l.engine);
  reasons : IfSome l.fault (λ found. IsFaultAt g.R.Read.remaining (λ name opened. FnReturnsAt g.F.Fn l.files.opener.now name opened) l.files (setting_of g.S.RunStore.runs l.fn.engine).limits found.word found.why);
  within : IfSome l.fault (λ found. found.word < length l.files.words.now);
}
