use Rattle.std.proofs.Common.{◌≡◌, ◌∙◌, sym, ap, subst, [], take, Bool, List, ℕ}
use Rattle.gq_script.specs.Payloads.{is_other, IsPiece}
use Rattle.gq_script.specs.Script.{Takes}
use Rattle.gq_script.proofs.Collected.{Added, fed, ended, marked_at_end, unclosed}
use Rattle.gq_script.proofs.Gathered.{took_more}
use Rattle.gq_script.proofs.payload.gather_payload_line.Goals as goal

pub returns-then-is_closing-clause-line : goal.returns-then-is_closing-clause-line
returns-then-is_closing-clause-line g c =
    marked_at_end c.args.bounds.now.payload c.args.source.now c.loop.source c.fill.new.self c.args.kept.now c.loop.kept c.loop.mark c.loop.invariant.0 c.loop.invariant.1 c.in_ok-fill.ensures.same (c.in_ok-fill.ensures.end c.if-not-branch.true) (sym c.is_closing.ensures ∙ c.if-is_closing.true) (c.in_ok-fill.ensures.lines ∙ c.loop.invariant.2)

pub returns-else-is_closing-clause-end : goal.returns-else-is_closing-clause-end
returns-else-is_closing-clause-end g c =
    unclosed c.args.bounds.now.payload c.args.source.now c.loop.source c.fill.new.self c.args.kept.now c.loop.kept c.loop.mark c.loop.invariant.0 c.loop.invariant.1 c.in_ok-fill.ensures.same (c.in_ok-fill.ensures.end c.if-not-branch.true) (sym c.is_closing.ensures ∙ c.if-is_closing.false)

pub returns-then-ended-clause-line : goal.returns-then-ended-clause-line
returns-then-ended-clause-line g c =
    let most = c.args.bounds.now.payload in
    let len = c.line_piece-len.result.0 in
    let piece : List ℕ = take len c.ahead-piece.result.now in
    let same : take len c.fill.new.self.ahead ≡ piece = ap (take len) (sym c.ahead-piece.ensures) in
    let more : Takes c.loop.source c.pass.new.self piece = subst (Takes c.loop.source c.pass.new.self) same (took_more c.loop.source c.fill.new.self c.pass.new.self [] (take len c.fill.new.self.ahead) c.in_ok-fill.ensures.same c.in_ok-pass.ensures.taken) in
    let add : Added most c.loop.mark piece c.loop.kept c.add_piece.new.self = record {
      may_be = λ e. c.add_piece.ensures.may_be (ap is_other c.behind-mark.ensures ∙ e);
      other = λ e. c.add_piece.ensures.other (ap is_other c.behind-mark.ensures ∙ e);
    } in
    ended most c.args.source.now c.loop.source c.pass.new.self c.args.kept.now c.loop.kept c.add_piece.new.self c.loop.mark c.behind-mark.result c.loop.invariant.0 piece c.is_closing-then-ended.result c.loop.invariant.1 more c.behind-mark.ensures add
    (subst (λ (t : Bool). IsPiece t piece) c.if-ended.true c.line_piece-len.ensures.piece) c.is_closing-then-ended.ensures (c.in_ok-pass.ensures.lines ∙ c.in_ok-fill.ensures.lines ∙ c.loop.invariant.2)

pub loop-preserved : goal.loop-preserved
loop-preserved g c =
    let most = c.args.bounds.now.payload in
    let len = c.line_piece-len.result.0 in
    let piece : List ℕ = take len c.ahead-piece.result.now in
    let same : take len c.fill.new.self.ahead ≡ piece = ap (take len) (sym c.ahead-piece.ensures) in
    let more : Takes c.loop.source c.pass.new.self piece = subst (Takes c.loop.source c.pass.new.self) same (took_more c.loop.source c.fill.new.self c.pass.new.self [] (take len c.fill.new.self.ahead) c.in_ok-fill.ensures.same c.in_ok-pass.ensures.taken) in
    let add : Added most c.loop.mark piece c.loop.kept c.add_piece.new.self = record {
      may_be = λ e. c.add_piece.ensures.may_be (ap is_other c.behind-mark.ensures ∙ e);
      other = λ e. c.add_piece.ensures.other (ap is_other c.behind-mark.ensures ∙ e);
    } in (
      _,
      fed most c.args.source.now c.loop.source c.pass.new.self c.args.kept.now c.loop.kept c.add_piece.new.self c.loop.mark c.behind-mark.result c.loop.invariant.0 piece c.loop.invariant.1 more c.behind-mark.ensures add
          (subst (λ (t : Bool). IsPiece t piece) c.if-ended.false c.line_piece-len.ensures.piece),
      c.in_ok-pass.ensures.lines ∙ c.in_ok-fill.ensures.lines ∙ c.loop.invariant.2,
    )
