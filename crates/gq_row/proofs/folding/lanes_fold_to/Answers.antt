use Rattle.std.proofs.Common.{◌%◌, ◌^◌, ◌∙◌, cond, not, eqb, map, take, drop, ap}
use lib.Lanes.{zip2, mask_l, top}
use Rattle.std.specs.Char.{to_ascii_lowercase}
use Rattle.std.proofs.lemmas.List.{length-map}
use Rattle.std.proofs.lemmas.Simd.{length-chunk}
use Rattle.gq_row.proofs.LaneLemmas.{same_lanes}
use Rattle.gq_row.proofs.folding.lanes_fold_to.Goals as goal

pub returns : goal.returns
returns c =
    let xs = take 8 (drop c.args.at c.args.text.now) in
    let ys = take 8 (drop c.args.at c.args.folded.now) in
    let long = length-chunk c.args.at 8 c.args.text.now c.requires.text in
    ap (λ fs. eqb (mask_l (map (top 7) (zip2 (λ a b. cond (not (eqb a b)) 255 0) fs ys)) % 2 ^ 64) 0) c.fold_lanes-folds.ensures
    ∙ same_lanes (map to_ascii_lowercase xs) ys (length-map xs to_ascii_lowercase ∙ long) (length-chunk c.args.at 8 c.args.folded.now c.requires.folded)
