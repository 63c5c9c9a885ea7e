-- Command lines of any words.
use Rattle.std.proofs.Common.{refl, codes, false, Some, List, [], ◌∷◌, ◌≡◌}
use Rattle.clap.specs.Words.{Text}
use Rattle.clap.specs.Faults.{turn_fault}
use Rattle.clap.specs.declared.error.kind.ErrorKind.{ErrorKind}
use Rattle.clap.specs.declared.error.kind.ErrorKind.TheVariants.{DisplayHelp, DisplayVersion, UnknownArgument}
use Rattle.clap.proofs.OnLiterals.{clap_on_literals}
use Rattle.gq_options.specs.CommandLine.{DEFAULTS, Names, TakesOnePath, faults_of, has_dash}
use Rattle.gq_options.proofs.StepLemmas.{SHAPE, asks, ends, fails-at, fails-on, goes-on, names, no-dashes, no-long, no-short, nothing-waits, path-settles, path-turns, path-waits, refuses}

one-path : (name path : Text) → has_dash path ≡ false → Names (name ∷ path ∷ []) (record DEFAULTS { script = Some path })
one-path name path plain = names name (goes-on (path-turns nothing-waits plain) (ends (path-settles refl) (asks refl refl)))

-- a word with a fault, after a path
behind-path : (name path word : Text) (more : List Text) (kind : ErrorKind) → turn_fault SHAPE [] (path-waits [] path) word ≡ kind ∷ [] → has_dash path ≡ false
    → faults_of (name ∷ path ∷ word ∷ more) ≡ kind ∷ []
behind-path name path word more kind is plain = refuses name (fails-on (path-turns nothing-waits plain) (fails-at (path-waits [] path) word more kind is))

second-refused : (name one two : Text) → has_dash one ≡ false → has_dash two ≡ false → faults_of (name ∷ one ∷ two ∷ []) ≡ UnknownArgument ∷ []
unfolding clap_on_literals
second-refused name one two one_plain two_plain =
    behind-path name one two [] UnknownArgument (rw (no-dashes two two_plain, no-long two two_plain, no-short two two_plain) refl) one_plain

pub takes-one-path : TakesOnePath
unfolding clap_on_literals
takes-one-path = record {
  nothing = λ name. record { accepted = refl; asked_is = refl };
  path = one-path;
  dash = λ name. record { accepted = refl; asked_is = refl };
  any_path = λ name path. record { accepted = refl; asked_is = refl };
  help = λ name more. refl;
  short_help = λ name more. refl;
  late_help = λ name path more. behind-path name path (codes "--help") more DisplayHelp refl;
  late_short_help = λ name path more. behind-path name path (codes "-h") more DisplayHelp refl;
  version = λ name more. refl;
  short_version = λ name more. refl;
  late_version = λ name path more. behind-path name path (codes "--version") more DisplayVersion refl;
  late_short_version = λ name path more. behind-path name path (codes "-V") more DisplayVersion refl;
  two_paths = second-refused;
  no_option = λ name more. refl;
}
