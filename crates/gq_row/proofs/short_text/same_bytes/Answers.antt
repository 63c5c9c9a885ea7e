use Rattle.std.proofs.Common.{◌∙◌, ◌&&◌, Bool, sym, ap, take, drop, bytes_eq}
use Rattle.gq_row.proofs.ShortTextLemmas.{two_halves}
use Rattle.gq_row.proofs.short_text.same_bytes.Goals as goal

pub returns-then-same_lanes : goal.returns-then-same_lanes
returns-then-same_lanes c =
    let a = c.args.a.now in
    let b = c.args.b.now in
    let back = bytes_eq (take 16 (drop 6 a)) (take 16 (drop 6 b)) in
    c.same_lanes-then-same_lanes.ensures ∙ sym (ap (λ (p : Bool). p && back) (sym c.same_lanes.ensures ∙ c.if-same_lanes.true)) ∙ two_halves a b c.told-a c.told-b

pub returns-else-same_lanes : goal.returns-else-same_lanes
returns-else-same_lanes c =
    let a = c.args.a.now in
    let b = c.args.b.now in
    let back = bytes_eq (take 16 (drop 6 a)) (take 16 (drop 6 b)) in
    c.if-same_lanes.false ∙ sym (ap (λ (p : Bool). p && back) (sym c.same_lanes.ensures ∙ c.if-same_lanes.false)) ∙ two_halves a b c.told-a c.told-b
