use Rattle.std.proofs.Common.{◌≡◌, ◌+◌, ◌≤◌, ℕ, [], ap, arith, ◌∙◌, Err, length, refl, subst, sym}
use Rattle.std.specs.Prelude.{IsTrue, List}
use Rattle.gq_row.specs.declared.value.Value.{Value}
use Rattle.gq_spill.specs.Handing.{Gave, taken}
use Rattle.gq_group.specs.Blocks.{AreHashed, Then, left_of, row_at}
use Rattle.gq_group.specs.Partitioning.{partition_by}
use Rattle.gq_group.specs.Passes.{written_of, began_of}
use Rattle.gq_group.specs.Residents.{Resident}
use Rattle.gq_group.specs.declared.budget.Budget.{Budget}
use Rattle.gq_group.specs.declared.pass.Placed.{Placed}
use Rattle.gq_group.specs.declared.pass.Placed.TheVariants.{Grouped, Spilled}
use Rattle.gq_group.specs.declared.refusal.Refusal.TheVariants.{Memory}
use Rattle.gq_group.proofs.AccessLemmas.{leaves-refl}
use Rattle.gq_group.proofs.BlockLemmas.{taken_hashed, taken_row, taken_there}
use Rattle.gq_group.proofs.ReadLemmas.{known-left, ours-stays}
use Rattle.gq_group.proofs.RowLemmas.{rows-none, rows-stopped, rows-done, rows-unplaced, rows-more}
use Rattle.gq_group.proofs.pass.read_rows.Goals.{in-Spilled, in_default-placed}
use Rattle.gq_group.proofs.pass.read_rows.Goals as goal

pub rows-init : goal.rows-init
rows-init g c =
    let none = c.in-Ok.ensures in
    record {
      done = rows-none c.args.pass.now.spec.now c.args.table.now.budget.entries _ _ _ _ _ _ (g.S.RunStore.runs c.args.store.now) _ _ c.args.table.now.groups.pairs c.args.partitions.now.items none c.requires.source c.requires.start c.requires.places c.requires.empty;
      hashed = subst (AreHashed c.args.pass.now.spec.now (g.H.KeyHash.hash_of c.args.table.now.groups.hasher)) (sym none) tt;
      budget = refl;
      each = c.requires.each;
      hasher = refl;
    }

pub returns-in_err-found-clause-read : goal.returns-in_err-found-clause-read
returns-in_err-found-clause-read g c =
    let s = g.S.RunStore.runs c.next.new.store in
    rows-stopped c.args.pass.now.spec.now c.args.table.now.budget.entries _ _ _ _ (g.R.RowSource.owns c.args.source.now) _ (g.S.RunStore.runs c.args.store.now) (g.R.RowSource.owns c.rows.source) (g.R.RowSource.owns c.next.new.source) _ _ _
    (g.S.RunStore.runs c.rows.store) s c.rows.rows_read c.rows.rows_written c.rows.runs c.rows.columns c.rows.table.groups.pairs c.rows.partitions.items c.rows.invariant.done c.in_err-found.ensures.comes.others c.in_err-found.ensures.comes.owned
    _ c.from_residual.result c.in_err-found.field-0.0 c.from_residual.ensures.1 c.in_err-found.ensures.comes.cause

pub returns-clause-read : goal.returns-clause-read
returns-clause-read g c =
    let s = g.S.RunStore.runs c.next.new.store in
    let block = c.next.new.self in
    let later = Then (left_of block.taken block.count block.rows.items) (g.R.RowSource.gives c.next.new.source s) in
    let none_left = λ (h : IsTrue (g.S.RunStore.runs c.rows.store).honest) (rows : List (List Value)) (left : Then (left_of c.rows.block.taken c.rows.block.count c.rows.block.rows.items) (g.R.RowSource.gives c.rows.source (g.S.RunStore.runs c.rows.store)) rows). subst (λ o. Gave (row_at block.rows.items o) rows later) c.in_default-found.is (c.in_ok-found.ensures.comes.rows h rows left) in
    let told = c.in_ok-found.ensures.comes in
    rows-done c.args.pass.now.spec.now c.args.table.now.budget.entries _ _ _ _ (g.R.RowSource.owns c.args.source.now) _ (g.S.RunStore.runs c.args.store.now) (g.R.RowSource.owns c.rows.source) (g.R.RowSource.owns c.next.new.source) _ _ _
    (g.S.RunStore.runs c.rows.store) s c.rows.rows_read c.rows.rows_written c.rows.runs c.rows.columns c.rows.table.groups.pairs c.rows.partitions.items c.rows.invariant.done told.others told.owned
    _ told.ready (λ h rows now. (none_left h rows now).0) told.made

pub returns-in_default-clause-read : goal.returns-in_default-clause-read
returns-in_default-clause-read g c =
    let r = g.S.RunStore.runs c.args.store.now in
    let owns = g.R.RowSource.owns c.args.source.now in
    let start = rows-none c.args.pass.now.spec.now c.args.table.now.budget.entries (partition_by (g.H.KeyHash.hash_of c.args.table.now.groups.hasher) c.args.pass.now.depth) _ _ _ owns g.R.RowSource.makes_runs r [] _ c.args.table.now.groups.pairs c.args.partitions.now.items refl c.requires.source c.requires.start c.requires.places c.requires.empty in
    rows-stopped c.args.pass.now.spec.now c.args.table.now.budget.entries _ _ _ _ owns _ r owns owns _ _ _ r r 0 0 0 0 c.args.table.now.groups.pairs c.args.partitions.now.items start (leaves-refl owns r) (λ none run own. own) _ (Err Memory) Memory refl tt

pub next-requires-clause-rows : goal.next-requires-clause-rows
next-requires-clause-rows g c = λ h.
    let before = sym c.rows.invariant.done.others.same_honest ∙ h in
    known-left c.args.pass.now.spec.now _ _ _ _ _ _ _ _ _ _ _ _ _ c.rows.invariant.done.read before (c.requires.rows before)

pub next-requires-clause-hashed : goal.next-requires-clause-hashed
next-requires-clause-hashed g c = subst (λ h. AreHashed c.args.pass.now.spec.now (g.H.KeyHash.hash_of h) (left_of c.rows.block.taken c.rows.block.count c.rows.block.rows.items)) (sym c.rows.invariant.hasher) c.rows.invariant.hashed

pub returns-in_err-placed-clause-read : goal.returns-in_err-placed-clause-read
returns-in_err-placed-clause-read g c =
    let s = g.S.RunStore.runs c.next.new.store in
    let t = g.S.RunStore.runs c.place_row.new.store in
    let block = c.next.new.self in
    let ahead = c.row-ahead.result.now in
    let later = Then (left_of block.taken block.count block.rows.items) (g.R.RowSource.gives c.next.new.source s) in
    let row_is = taken_row c.args.pass.now.spec.now _ block.rows.items c.in_ok-found.found c.in-Some.place c.in-Some.is c.in_ok-found.ensures.row ahead c.row-ahead.ensures in
    let next = λ (h : IsTrue (g.S.RunStore.runs c.rows.store).honest) (rows : List (List Value)) (left : Then (left_of c.rows.block.taken c.rows.block.count c.rows.block.rows.items) (g.R.RowSource.gives c.rows.source (g.S.RunStore.runs c.rows.store)) rows). subst (λ o. Gave o rows later) row_is (c.in_ok-found.ensures.comes.rows h rows left) in
    let source = c.next.new.source in
    let told = c.in_ok-found.ensures.comes in
    let placed = c.in_err-placed.ensures in
    rows-unplaced c.args.pass.now.spec.now c.args.table.now.budget.entries _ _ _ _ (g.R.RowSource.owns c.args.source.now) _ (g.S.RunStore.runs c.args.store.now) (g.R.RowSource.owns c.rows.source) (g.R.RowSource.owns c.next.new.source) _ _ _
    (g.S.RunStore.runs c.rows.store) s c.rows.rows_read c.rows.rows_written c.rows.runs c.rows.columns c.rows.table.groups.pairs c.rows.partitions.items c.rows.invariant.done told.others told.owned
    ahead.row later next c.place_row.new.table.groups.pairs c.place_row.new.partitions.items t placed.same_length placed.ours placed.others (g.met.R.RowSource.own_live source s told.ready)
    _ c.from_residual-in_err-placed.result c.in_err-placed.field-0.0 c.from_residual-in_err-placed.ensures.1 placed.cause

-- a row that is in its group was not written, and no run was begun for it
not_spilled : (placed : Placed) → ((began : ℕ) → placed ≡ Spilled began → ⊥) → (written_of placed ≡ 0) × (began_of placed ≡ 0)
not_spilled Grouped other = (refl, refl)
not_spilled (Spilled began) other = absurd (other began refl)

pub rows-preserved : goal.rows-preserved
rows-preserved g c =
    let s = g.S.RunStore.runs c.next.new.store in
    let t = g.S.RunStore.runs c.place_row.new.store in
    let block = c.next.new.self in
    let ahead = c.row-ahead.result.now in
    let later = Then (left_of block.taken block.count block.rows.items) (g.R.RowSource.gives c.next.new.source s) in
    let row_is = taken_row c.args.pass.now.spec.now _ block.rows.items c.in_ok-found.found c.in-Some.place c.in-Some.is c.in_ok-found.ensures.row ahead c.row-ahead.ensures in
    let next = λ (h : IsTrue (g.S.RunStore.runs c.rows.store).honest) (rows : List (List Value)) (left : Then (left_of c.rows.block.taken c.rows.block.count c.rows.block.rows.items) (g.R.RowSource.gives c.rows.source (g.S.RunStore.runs c.rows.store)) rows). subst (λ o. Gave o rows later) row_is (c.in_ok-found.ensures.comes.rows h rows left) in
    let source = c.next.new.source in
    let told = c.in_ok-found.ensures.comes in
    let placed = c.in_ok-placed.ensures in
    let counts : (c.match-placed.rows_written ≡ c.rows.rows_written + written_of c.in_ok-placed.placed) × (c.match-placed.runs ≡ c.rows.runs + began_of c.in_ok-placed.placed) =
    elim c.match-placed.branch [
      | in-Spilled w ↦ (w.rows_written-is ∙ ap (λ p. c.rows.rows_written + written_of p) (sym w.in-Spilled.is), w.runs-is ∙ ap (λ p. c.rows.runs + began_of p) (sym w.in-Spilled.is))
      | in_default-placed w ↦ let none = not_spilled c.in_ok-placed.placed w.in_default-placed.not-Spilled in (omega (arith, w.rows_written-is, none.0), omega (arith, w.runs-is, none.1))
    ] in
    let inv = c.rows.invariant in
    record {
      done = rows-more c.args.pass.now.spec.now c.args.table.now.budget.entries _ _ _ _ (g.R.RowSource.owns c.args.source.now) _ (g.S.RunStore.runs c.args.store.now) (g.R.RowSource.owns c.rows.source) (g.R.RowSource.owns c.next.new.source) _ _ _
          (g.S.RunStore.runs c.rows.store) s c.rows.rows_read c.rows.rows_written c.rows.runs c.rows.columns c.rows.table.groups.pairs c.rows.partitions.items c.rows.invariant.done told.others told.owned
          ahead.row later next c.place_row.new.table.groups.pairs c.place_row.new.partitions.items t placed.same_length placed.ours placed.others (g.met.R.RowSource.own_live source s told.ready)
          _ (Then (left_of block.taken block.count block.rows.items) (g.R.RowSource.gives source t)) c.rows.table.budget.entries (partition_by (g.H.KeyHash.hash_of c.rows.table.groups.hasher) c.args.pass.now.depth) (written_of c.in_ok-placed.placed) (began_of c.in_ok-placed.placed) (length (left_of block.taken block.count block.rows.items) + g.R.RowSource.bound source) c.width-columns.result
          c.match-placed.rows_written c.match-placed.runs counts.0 counts.1
          (ap (λ (x : Budget). x.entries) inv.budget) (ap (λ h. partition_by (g.H.KeyHash.hash_of h) c.args.pass.now.depth) inv.hasher) placed.places c.width-columns.ensures (subst (λ o. taken o + (length (left_of block.taken block.count block.rows.items) + g.R.RowSource.bound source) ≤ length (left_of c.rows.block.taken c.rows.block.count c.rows.block.rows.items) + g.R.RowSource.bound c.rows.source) row_is told.bound)
          (λ kept. g.met.R.RowSource.stays_ready source s t kept told.ready) (λ kept h rest left. (left.0, left.1, g.met.R.RowSource.keeps_rows source s t kept told.ready h left.0 left.2)) told.made placed.made;
      hashed = subst (λ h. AreHashed c.args.pass.now.spec.now (g.H.KeyHash.hash_of h) (left_of block.taken block.count block.rows.items)) inv.hasher c.in_ok-found.ensures.hashed;
      budget = placed.budget ∙ inv.budget;
      each = placed.each ∙ inv.each;
      hasher = placed.hasher ∙ inv.hasher;
    }

pub row-ahead-requires : goal.row-ahead-requires
row-ahead-requires g c = taken_there c.args.pass.now.spec.now _ c.next.new.self.rows.items c.in_ok-found.found c.in-Some.place c.in-Some.is c.in_ok-found.ensures.row

pub place_row-requires-clause-ahead : goal.place_row-requires-clause-ahead
place_row-requires-clause-ahead g c = taken_hashed c.args.pass.now.spec.now _ c.next.new.self.rows.items c.in_ok-found.found c.in-Some.place c.in-Some.is c.in_ok-found.ensures.row c.row-ahead.result.now c.row-ahead.ensures

pub place_row-requires-clause-each : goal.place_row-requires-clause-each
place_row-requires-clause-each g c = c.rows.invariant.each

pub place_row-requires-clause-places : goal.place_row-requires-clause-places
place_row-requires-clause-places g c = c.rows.invariant.done.same_length

pub place_row-requires-clause-ours : goal.place_row-requires-clause-ours
place_row-requires-clause-ours g c =
    ours-stays (g.S.RunStore.runs c.rows.store) (g.S.RunStore.runs c.next.new.store) (g.R.RowSource.owns c.rows.source) (g.R.RowSource.owns c.next.new.source) c.rows.partitions.items c.in_ok-found.ensures.comes.others c.rows.invariant.done.ours

pub place_row-requires-clause-resident : goal.place_row-requires-clause-resident
place_row-requires-clause-resident g c =
    let done = c.rows.invariant.done in
    (done.read.done, omega (arith, done.read.counted, done.bound, c.requires.few), subst (λ (b : Budget). Resident c.args.pass.now.spec.now b.entries done.read.done c.rows.table.groups.pairs) (sym c.rows.invariant.budget) done.read.resident)

pub overflow_add-rows_read : goal.overflow_add-rows_read
overflow_add-rows_read g c = omega (arith, c.rows.invariant.done.bound, c.requires.few)

pub overflow_add-rows_written : goal.overflow_add-rows_written
overflow_add-rows_written g c = omega (arith, c.rows.invariant.done.bound, c.requires.few, c.rows.invariant.done.less, c.in_ok-placed.ensures.places.one)

pub overflow_add-runs : goal.overflow_add-runs
overflow_add-runs g c = omega (arith, c.rows.invariant.done.bound, c.requires.few, c.rows.invariant.done.less, c.rows.invariant.done.less_runs, subst (λ p. began_of p ≤ written_of p) c.in-Spilled.is c.in_ok-placed.ensures.places.one_began)

pub rows-smaller : goal.rows-smaller
rows-smaller g c =
    let row_is = taken_row c.args.pass.now.spec.now _ c.next.new.self.rows.items c.in_ok-found.found c.in-Some.place c.in-Some.is c.in_ok-found.ensures.row c.row-ahead.result.now c.row-ahead.ensures in
    omega (arith, ap taken row_is, c.in_ok-found.ensures.comes.bound)
