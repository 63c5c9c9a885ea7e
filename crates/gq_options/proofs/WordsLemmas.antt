-- How clap's errors are reported.
use Rattle.std.proofs.Common.{rules, refl, subst, sym, inl, inr, List, Result, Ok, Err, [], ◌∷◌, ◌≡◌, ◌⊎◌, ◌∙◌}
use Rattle.std.specs.Result.{IsErrAnd}
use Rattle.clap.specs.Kinds.{Kinds, or_else}
use Rattle.clap.specs.Words.{IsAmong, Row, Text, fault_of, matches_of}
use Rattle.clap.specs.declared.error.kind.ErrorKind.{ErrorKind}
use Rattle.clap.specs.declared.error.kind.ErrorKind.TheVariants as kind
use Rattle.gq_options.specs.CommandLine.{LINE, faults_in, faults_of}
use Rattle.gq_options.specs.Words.{AreParsed, AsksNothing, IsBad, IsToldAs, IsToldAsMistake, Reads, ReadsMatches}
use Rattle.gq_options.specs.declared.options.Options.{Options}
use Rattle.gq_options.specs.declared.options.BadLine.{BadLine}
use Rattle.gq_options.specs.declared.options.BadLine.TheVariants.{Help, Version, Mistake, Memory}

among-first : (kinds next : Kinds) (k : ErrorKind) → IsAmong k kinds → IsAmong k (or_else kinds next)
among-first [] next k among = absurd among
among-first (x ∷ xs) next k among = among

-- an error's kind is one of the words' faults, so its report is bad of the words
pub told-bad : (words : List Text) (k : ErrorKind) (bad : BadLine) → IsToldAs k bad
    → (k ≡ kind.OutOfMemory) ⊎ IsAmong k (fault_of LINE words) → IsBad (faults_of words) bad
told-bad words k (Help text) told (inl memory) = let clash : kind.DisplayHelp ≡ kind.OutOfMemory = sym told ∙ memory in search rules
told-bad words k (Help text) told (inr among) = subst (λ k. IsAmong k (faults_of words)) told (among-first (fault_of LINE words) _ k among)
told-bad words k (Version text) told (inl memory) = let clash : kind.DisplayVersion ≡ kind.OutOfMemory = sym told ∙ memory in search rules
told-bad words k (Version text) told (inr among) = subst (λ k. IsAmong k (faults_of words)) told (among-first (fault_of LINE words) _ k among)
told-bad words k (Mistake text) told (inl memory) = absurd (told.1 memory)
told-bad words k (Mistake text) told (inr among) = (k, among-first (fault_of LINE words) _ k among, told.0)
told-bad words k Memory told among = tt

-- and so it is of a mistake with one kind
pub mistake-bad : (faults : Kinds) (k : ErrorKind) (bad : BadLine) → faults ≡ k ∷ [] → AsksNothing k → IsToldAsMistake bad → IsBad faults bad
mistake-bad faults k (Help text) is asks told = absurd told
mistake-bad faults k (Version text) is asks told = absurd told
mistake-bad faults k (Mistake text) is asks told = (k, rw is (inl refl), asks)
mistake-bad faults k Memory is asks told = tt

-- what is passed on is reported the same
pub passed-on : (rows : List Row) (bad : BadLine) (answer : Result Options BadLine) → IsBad (faults_in rows) bad → IsErrAnd answer (λ e. e ≡ bad) → ReadsMatches rows answer
passed-on rows bad (Ok options) it is = absurd is
passed-on rows bad (Err other) it is = subst (IsBad (faults_in rows)) (sym is) it

-- the words' matches are read, and clap has found no fault
pub matches-read : (words : List Text) (rows : List Row) (answer : Result Options BadLine) → rows ≡ matches_of LINE words → fault_of LINE words ≡ []
    → AreParsed rows → ReadsMatches rows answer → Reads words answer
matches-read words rows answer is free parsed reads = by-answer answer (subst (λ rs. ReadsMatches rs answer) is reads)
  where
    by-answer : (answer : Result Options BadLine) → ReadsMatches (matches_of LINE words) answer → Reads words answer
    by-answer (Ok options) it = record { accepted = rw free it.0; asked_is = it.1 (subst AreParsed is parsed) }
    by-answer (Err bad) it = subst (λ kinds. IsBad (or_else kinds (faults_in (matches_of LINE words))) bad) (sym free) it
