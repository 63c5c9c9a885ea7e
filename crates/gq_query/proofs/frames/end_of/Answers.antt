use Rattle.std.proofs.Common.{◌≡◌, ◌<◌, ◌+◌, ◌^◌, arith, drop, get_or, refl, rules, subst, sym}
use Rattle.std.proofs.lemmas.List.{drop_all}
use Rattle.gq_query.specs.Frames.{Follow, next_place, product}
use Rattle.gq_query.proofs.FrameLemmas.{frame_next, no_frame}
use Rattle.gq_query.proofs.frames.end_of.Goals as goal

pub loop-frame-preserved : goal.loop-frame-preserved
loop-frame-preserved c =
    let frames = c.args.frames.now in
    let i = c.loop-frame.frame-index in
    let frame = get_or frames i no_frame in
    let rest = drop (i + 1) frames in
    let at : (frame.cell, frame.skip) ≡ c.loop-frame.place = search rules in
    let within : frame.cell < c.args.width = search rules in
    let next : c.in_ok-place.place ≡ next_place frame = search rules in
    λ end more.
    c.loop-frame.invariant end (subst (λ l. Follow c.args.width l c.loop-frame.place end) (sym (frame_next frames i c.loop-frame-test.true))
    (at, within, subst (λ p. Follow c.args.width rest p end) next more))

pub returns-clause-follow : goal.returns-clause-follow
returns-clause-follow c =
    let frames = c.args.frames.now in
    c.loop-frame.invariant c.loop-frame.place
    (subst (λ l. Follow c.args.width l c.loop-frame.place c.loop-frame.place) (sym (drop_all c.loop-frame.frame-index frames c.loop-frame-test.false)) refl)

pub returns-clause-fit : goal.returns-clause-fit
returns-clause-fit c =
    let all : c.in_ok-numbers.numbers ≡ product c.args.frames.now = search rules in
    let small : c.in_ok-numbers.numbers < 2 ^ 64 = search rules in
    (subst (λ n. 0 < n) all (omega (arith, c.if-numbers-eq0.false)), subst (λ n. n < 2 ^ 64) all small)
