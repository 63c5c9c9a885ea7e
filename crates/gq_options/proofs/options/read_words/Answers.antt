use Rattle.std.proofs.Common.{ap, sym, refl, subst, true, map, string_bytes, List, [], ◌≡◌, ◌⊎◌, ◌∙◌}
use Rattle.clap.specs.Words.{App, IsAmong, Text, app_of, fault_of, found_of, is_simple, is_simple_and_free, kind_of, matches_of, rows_of}
use Rattle.clap.specs.declared.error.kind.ErrorKind.TheVariants as kind
use Rattle.gq_options.specs.CommandLine.{LINE}
use Rattle.gq_options.proofs.GivenLemmas.{are-parsed}
use Rattle.gq_options.proofs.WordsLemmas.{matches-read, told-bad}
use Rattle.gq_options.proofs.options.read_words.Goals as goal

line_is_simple : is_simple LINE ≡ true
line_is_simple = refl

line_is_free : is_simple_and_free LINE ≡ true
line_is_free = refl

pub returns-in-Ok-try_get_matches_from : goal.returns-in-Ok-try_get_matches_from
returns-in-Ok-try_get_matches_from c =
    let line_is : app_of c.in-Ok.line ≡ LINE = c.in-Ok.ensures in
    let given : List Text = map string_bytes c.args.words.now in
    let found = c.in-Ok-try_get_matches_from.matches in
    let rows = (c.in-Ok-try_get_matches_from.ensures.matches (ap is_simple line_is ∙ line_is_simple)).0
    ∙ ap (λ (a : App). matches_of a given) line_is in
    let free = c.in-Ok-try_get_matches_from.ensures.kinds (ap is_simple_and_free line_is ∙ line_is_free) in
    let unfaulted : fault_of LINE given ≡ [] = ap (λ (a : App). fault_of a given) (sym line_is) ∙ free in
    matches-read given (rows_of (found_of found)) c.options_in.result rows unfaulted (are-parsed c.in-Ok.line found line_is c.in-Ok-try_get_matches_from.ensures.parsed) c.options_in.ensures

pub returns-in-Err : goal.returns-in-Err
returns-in-Err c =
    let line_is : app_of c.in-Ok.line ≡ LINE = c.in-Ok.ensures in
    let given : List Text = map string_bytes c.args.words.now in
    let free = c.in-Err.ensures.kinds (ap is_simple_and_free line_is ∙ line_is_free) in
    let has = subst (λ (a : App). (kind_of c.in-Err.error ≡ kind.OutOfMemory) ⊎ IsAmong (kind_of c.in-Err.error) (fault_of a given)) line_is free in
    told-bad given (kind_of c.in-Err.error) c.bad_line.result c.bad_line.ensures has
