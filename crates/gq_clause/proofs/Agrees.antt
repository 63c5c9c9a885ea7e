-- Reading and writing agree, list by list.
use Rattle.gq_clause.specs.Agreeing.{NamesAgree, LiteralsAgree, AggregatesAgree, TestsAgree}
use Rattle.gq_clause.proofs.Sound.{names_sound, aggregates_sound}
use Rattle.gq_clause.proofs.Valid.{literals_said, tests_said}
use Rattle.gq_clause.proofs.Again.{names_again, literals_again, aggregates_again, tests_again}

pub names_agree : NamesAgree
names_agree = record { written = names_sound; again = names_again }

pub literals_agree : LiteralsAgree
literals_agree = record { written = literals_said; again = literals_again }

pub aggregates_agree : AggregatesAgree
aggregates_agree = record { written = aggregates_sound; again = aggregates_again }

pub tests_agree : TestsAgree
tests_agree = record { written = tests_said; again = tests_again }
