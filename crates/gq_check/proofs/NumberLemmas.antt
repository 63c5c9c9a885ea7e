-- What reports come to.
use Rattle.std.proofs.Common.{◌≡◌, List, [], ◌∷◌, refl, inl, inr}
use Rattle.std.proofs.lemmas.List.Elements.{All-cons, All-head, All-nil, All-tail}
use Rattle.std.specs.List.{All}
use Rattle.gq_row.specs.declared.limits.Bounds.{Bounds}
use Rattle.std.specs.Prelude.{None}
use Rattle.gq_script.specs.Numbering.{Numbered}
use Rattle.gq_check.specs.declared.report.Report.{Report}
use Rattle.gq_check.specs.Findings.{IsFaultOf}
use Rattle.gq_check.specs.Reports.{Reports}

abbrev Clean : Bounds → Numbered → Type 0
Clean b x = IsFaultOf b x.entry None

pub all-clean : (b : Bounds) (xs : List Numbered) → Reports b xs [] → All (Clean b) xs
all-clean b [] h = All-nil (Clean b)
all-clean b (x ∷ xs) (inl h) = All-cons (Clean b) x xs h.0 (all-clean b xs h.1)
all-clean b (x ∷ xs) (inr h) = let e : ◌≡◌ {A = List Report} [] (h.0 ∷ h.1) = h.2 in absurd cc

pub none-given : (b : Bounds) (xs : List Numbered) → All (Clean b) xs → Reports b xs []
none-given b [] h = refl
none-given b (x ∷ xs) h = inl (All-head (Clean b) x xs h, none-given b xs (All-tail (Clean b) x xs h))
