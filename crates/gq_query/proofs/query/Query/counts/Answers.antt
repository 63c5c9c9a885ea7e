use Rattle.gq_query.specs.Keeping.{kept_rows}
use Rattle.gq_query.proofs.Joined.{counts_shown}
use Rattle.gq_query.proofs.query.Query.counts.Goals as goal

pub returns : goal.returns
returns g c =
    let earlier = c.in_ok-counts.ensures in
    record {
      found = λ h. counts_shown c.args.self.now.by.now c.args.column (kept_rows c.args.self.now) c.in_ok-counts.counts c.sort.new.self (earlier.found h) c.sort.ensures.moved c.sort.ensures.ascending;
      others = earlier.others;
      cause = tt;
    }
