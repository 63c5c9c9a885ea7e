use Rattle.std.proofs.Common.{◌≡◌, refl, ◌∙◌, ap, sym, subst, set, get_or, Option, Some, None, IsSome}
use Rattle.std.specs.FinMap.{insert}
use Rattle.sw_table.specs.Entries.{entries, entries_in}
use Rattle.std.specs.Option.{option_map}
use Rattle.sw_table.specs.View.{table_view, with_value, entry_at}
use Rattle.sw_table.proofs.Entries.{entries_revalue}
use Rattle.sw_table.proofs.Places.{IsTable-revalued}
use Rattle.sw_table.proofs.table.Table.at_mut.Goals as goal

pub get_mut-pair-requires : goal.get_mut-pair-requires
get_mut-pair-requires g c = subst (λ ps. IsSome (get_or ps c.args.slot.index None)) (sym (ap (λ t. t.places) c.self.view_is)) c.requires

pub invariant_of-self-lent : goal.invariant_of-self-lent
invariant_of-self-lent g c = λ w. IsTable-revalued c.self.inside.slots c.args.slot.index c.get_mut-pair.result.now c.get_mut-pair.ensures.value w _ _ _ _ _ c.self.invariant

pub returns : goal.returns
returns g c =
    let t = c.self.inside in let i = c.args.slot.index in let p = c.get_mut-pair.result.now in let there = c.get_mut-pair.ensures.value in let class = g.K.Keyed.class in
    let V = g.row.V.Denot in
    let seen : ◌≡◌ {A = Option (g.row.K.Denot × V)} (entry_at c.args.self.now i) (Some p) = sym (ap (λ v. entry_at v i) c.self.view_is) ∙ there in (
      (
        refl,
        λ w. (λ j. table_view (set t.slots i (option_map (λ (q : g.row.K.Denot × V). (q.0, w)) (sym there j))) t.ctrl t.hasher)
            ∙ ap (λ v. with_value v i w) c.self.view_is,
      ),
      record {
        writes_back = tt;
        value = ap (option_map (λ (q : g.row.K.Denot × V). q.1)) seen;
        entries = λ q w at.
            let held : ◌≡◌ {A = Option (g.row.K.Denot × V)} (get_or t.slots i None) (Some q) = ap (λ v. entry_at v i) c.self.view_is ∙ at in
            subst (λ v. entries class (with_value v i w) ≡ insert (entries class v) (class q.0) (q.0, w)) c.self.view_is
            ((λ j. entries_in class (set t.slots i (option_map (λ (r : g.row.K.Denot × V). (r.0, w)) (held j)))) ∙ entries_revalue class t.slots i q w c.self.invariant.laid.apart held);
      },
    )
