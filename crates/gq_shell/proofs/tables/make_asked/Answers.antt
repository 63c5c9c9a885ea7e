use Rattle.std.proofs.Common.{◌∙◌, ◌⊎◌, ◌<◌, length, ℕ, List, [], Option, ap, refl, subst, sym, arith}
use Rattle.std.specs.Prelude.{◌==◌, slice_index_or}
use Rattle.std.specs.Fn.{FnReturnsAt}
use Rattle.std.specs.List.{AllZip}
use Rattle.gq_infer.specs.Said.{SaysWord}
use Rattle.gq_options.specs.CommandLine.{Text}
use Rattle.gq_row.specs.declared.limits.Bounds.{Bounds}
use Rattle.gq_row.specs.Limits.{GREATEST}
use Rattle.gq_load.specs.declared.short_records.Short.{Short}
use Rattle.gq_engine.specs.Engines.{database}
use Rattle.gq_engine.specs.Headline.{State}
use Rattle.gq_infer.specs.declared.word.TableWord.{TableWord}
use Rattle.gq_tables.specs.Faults.{fault_text, status_of}
use Rattle.gq_tables.specs.Files.{AreFiles}
use Rattle.gq_tables.specs.Made.{AreTablesOf}
use Rattle.gq_tables.specs.Reasons.{IsFaultOf}
use Rattle.gq_options.specs.Words.{asked_by}
use Rattle.gq_shell.specs.Program.{sources_of, Stopped, StoppedForMemory, short_by}
use Rattle.gq_shell.specs.Streams.{Stream}
use Rattle.gq_shell.proofs.InputLemmas.{none_in, not_made, not_none}
use Rattle.gq_shell.proofs.tables.make_asked.Goals as goal

pub returns-clause-stopped : goal.returns-clause-stopped
returns-clause-stopped g c =
    let words = c.in_ok-words.words.items in
    let fault = c.in-Err.fault in
    let status = c.stop_for_fault.result in
    let ragged = short_by c.args.options.now.ragged in
    let T : Option (List ℕ) → Short → List TableWord → Type 0 = λ before short words.
    let errors : Stream = record { before = before; after = g.E.Write.contents c.stop_for_fault.new.errors } in
    StoppedForMemory errors status ⊎ ((word : TableWord) → fault.word < length words → Stopped errors (fault_text short (slice_index_or words fault.word word).file.now fault.why) (status_of fault.why) status) in
    let before = g.E.Write.contents c.read_words.new.errors in
    let reported = subst (λ (b : Option (List ℕ)). T b ragged words) (ap g.E.Write.contents c.in_ok-words.ensures.quiet)
    (subst (λ (s : Short). T before s words) c.short_by-short.ensures
    (subst (λ (ws : List TableWord). T before c.short_by-short.result ws) c.as_slice-in-Err.ensures.value c.stop_for_fault.ensures)) in (
      not_none _ c.args.options.now.tables.items _ (c.is_empty.ensures ∙ ap (λ n. n == 0) c.args.options.now.tables.ok.0) c.if-is_empty.false,
      not_made (sources_of (g.R.Read.remaining c.args.input.now) g.S.Read.remaining (λ name opened. FnReturnsAt g.F.Fn c.args.opener.now name opened)) (asked_by c.args.options.now) _ status words fault c.in_ok-words.ensures.said
          (λ contents files.
          let asked = subst (λ (ws : List TableWord). AreFiles g.S.Read.remaining (λ name opened. FnReturnsAt g.F.Fn c.args.opener.now name opened) (g.R.Read.remaining c.args.input.now) ws contents) (sym c.as_slice.ensures.value) files in
          subst (λ (ws : List TableWord). IsFaultOf contents ragged GREATEST ws fault) c.as_slice.ensures.value
          (subst (λ (s : Short). IsFaultOf contents s GREATEST c.as_slice.result.now fault) c.short_by-short.ensures
          (subst (λ (b : Bounds). IsFaultOf contents c.short_by-short.result b c.as_slice.result.now fault) c.requires.limits (c.in-Err.ensures.refused contents asked))))
          (subst (λ (ws : List TableWord). fault.word < length ws) c.as_slice.ensures.value c.in-Err.ensures.within) reported,
    )

pub returns-then-is_empty-clause-started : goal.returns-then-is_empty-clause-started
returns-then-is_empty-clause-started g c =
    let none = none_in _ c.args.options.now.tables.items _ (c.is_empty.ensures ∙ ap (λ n. n == 0) c.args.options.now.tables.ok.0) c.if-is_empty.true in
    let P : List Text → Type 0 = λ tables. AllZip (SaysWord GREATEST) tables [] in
    record {
      no_others = λ _. c.requires.state;
      words = [];
      said = subst P (sym none) tt;
      once = λ i j d i_less j_less. absurd (omega (arith, j_less));
      made = λ contents files.
          subst (λ (s : State). AreTablesOf contents (short_by c.args.options.now.ragged) GREATEST [] s.database) (sym c.requires.state)
          (record { names = refl; tables = λ k d k_less. absurd (omega (arith, k_less)) });
    }

pub returns-in-Ok-clause-started : goal.returns-in-Ok-clause-started
returns-in-Ok-clause-started g c = record {
  no_others = λ none. absurd (not_none _ c.args.options.now.tables.items _ (c.is_empty.ensures ∙ ap (λ n. n == 0) c.args.options.now.tables.ok.0) c.if-is_empty.false none);
  words = c.in_ok-words.words.items;
  said = c.in_ok-words.ensures.said;
  once = c.in_ok-words.ensures.once;
  made = λ contents files.
      let asked = subst (λ (words : List TableWord). AreFiles g.S.Read.remaining (λ name opened. FnReturnsAt g.F.Fn c.args.opener.now name opened) (g.R.Read.remaining c.args.input.now) words contents) (sym c.as_slice.ensures.value) files in
      let made = c.in-Ok.ensures.made contents asked (ap (λ (s : State). s.database) c.requires.state) in
      let db = database c.make_tables.new.engine in
      let by_limits = subst (λ (b : Bounds). AreTablesOf contents c.short_by-short.result b c.as_slice.result.now db) c.requires.limits made in
      let by_short = subst (λ (s : Short). AreTablesOf contents s GREATEST c.as_slice.result.now db) c.short_by-short.ensures by_limits in
      subst (λ (words : List TableWord). AreTablesOf contents (short_by c.args.options.now.ragged) GREATEST words db) c.as_slice.ensures.value by_short;
}
