use Rattle.std.proofs.Common.{◌≡◌, ℕ, Bool, false, subst, sym}
use Rattle.gq_options.specs.CommandLine.{Asked}
use Rattle.gq_shell.specs.Program.{DidAsked, RanAsked}
use Rattle.gq_shell.specs.Sources.{Sources}
use Rattle.gq_shell.specs.Streams.{Stream}
use Rattle.gq_shell.proofs.program.run_program.Goals as goal

-- without a check a script is run
runs : {S : Type 0} (sources : Sources S) (asked : Asked) (check : Bool) (replies errors : Stream) (status : ℕ) → check ≡ false → RanAsked sources asked replies errors status → DidAsked check sources asked replies errors status
runs sources asked check replies errors status is ran = subst (λ (b : Bool). DidAsked b sources asked replies errors status) (sym is) ran

pub returns-in-Ok-read_words : goal.returns-in-Ok-read_words
returns-in-Ok-read_words g c = rw c.in-Ok.is (record {
  read = c.read_words.result;
  reads = rw (← c.as_slice.ensures.value) c.read_words.ensures;
  did = rw c.in-Ok-read_words.is (rw c.if-read_words.true c.check_script.ensures);
})

pub returns-in-Ok-2 : goal.returns-in-Ok-2
returns-in-Ok-2 g c = rw c.in-Ok.is (record {
  read = c.read_words.result;
  reads = rw (← c.as_slice.ensures.value) c.read_words.ensures;
  did = rw c.in-Ok-read_words.is (runs _ _ _ _ _ _ c.if-read_words.false c.run_script.ensures);
})

pub returns : goal.returns
returns g c = rw c.in-Ok.is (record {
  read = c.read_words.result;
  reads = rw (← c.as_slice.ensures.value) c.read_words.ensures;
  did = rw c.in-Err-read_words.is c.answer_bad_line.ensures;
})
