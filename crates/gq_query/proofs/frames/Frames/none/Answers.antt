use Rattle.std.proofs.Common.{arith, refl, sym, subst}
use Rattle.gq_query.specs.Frames.{Fit, Follow}
use Rattle.gq_query.proofs.frames.Frames.none.Goals as goal

pub returns : goal.returns
returns c = λ width. record {
  middle = (0, 0);
  end = (0, 0);
  high = subst (λ l. Follow width l (0, 0) (0, 0)) (sym c.new.ensures.items) refl;
  low = subst (λ l. Follow width l (0, 0) (0, 0)) (sym c.new-2.ensures.items) refl;
  high_fit = subst Fit (sym c.new.ensures.items) (omega arith, omega arith);
  low_fit = subst Fit (sym c.new-2.ensures.items) (omega arith, omega arith);
}
