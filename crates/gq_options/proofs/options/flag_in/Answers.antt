use Rattle.clap.specs.Words.{found_of, one_text}
use Rattle.gq_options.proofs.GivenLemmas.{flag-read}
use Rattle.gq_options.proofs.options.flag_in.Goals as goal

pub returns : goal.returns
returns c =
    flag-read (one_text (found_of c.args.matches.now) c.args.name.now) c.get_flag.result
    c.get_flag.ensures.none c.get_flag.ensures.value c.get_flag.ensures.other
