use Rattle.std.proofs.Common.{ap, sym, codes, false, Some, option_map, ◌≡◌, ◌∙◌}
use Rattle.std.specs.declared.num.ParseIntError.{ParseIntError}
use Rattle.clap.specs.Words.{Text, first_value, found_of}
use Rattle.gq_options.specs.CommandLine.{is_random}
use Rattle.gq_options.proofs.SeedLemmas.{number-read, parsed-seed, text-refused, unparsed-seed}
use Rattle.gq_options.proofs.options.seed_in.Goals as goal

pub returns-in-Ok : goal.returns-in-Ok
returns-in-Ok c =
    let text : Text = c.in-Some.text.now in
    let named : first_value (found_of c.args.matches.now) (codes "seed") ≡ Some text = sym c.get_str.ensures ∙ ap (option_map (λ s. s.now)) c.in-Some.is in
    let plain : is_random text ≡ false = sym c.eq.ensures ∙ c.if-eq.false in
    number-read _ text c.in-Ok.number named plain (parsed-seed ParseIntError text c.in-Ok.number c.in-Ok.ensures.value.0) c.in-Ok.ensures.value.0.1

pub returns-in-Err : goal.returns-in-Err
returns-in-Err c =
    let text : Text = c.in-Some.text.now in
    let named : first_value (found_of c.args.matches.now) (codes "seed") ≡ Some text = sym c.get_str.ensures ∙ ap (option_map (λ s. s.now)) c.in-Some.is in
    let plain : is_random text ≡ false = sym c.eq.ensures ∙ c.if-eq.false in
    (text-refused _ text named plain (unparsed-seed ParseIntError text c.in-Err.error c.in-Err.ensures.value.0), c.bad_seed.ensures)
