use Rattle.std.proofs.Common.{refl, sym, ap, ◌∙◌}
use Rattle.std.specs.Option.{option_map}
use Rattle.sw_table.specs.Entries.{entries}
use Rattle.sw_flat.specs.Maps.{value_at, assigned}
use Rattle.sw_flat.proofs.Classes.{assigned_at}
use Rattle.sw_flat.proofs.map.FlatMap.get_mut.Goals as goal

pub returns : goal.returns
returns g c =
    let class = g.K.Keyed.class in
    let t = c.self.inside.table in
    let i = c.in_ok-slot.slot.index in
    let q = g.Q.Names.named c.args.q.now in
    let found = c.in_ok-slot.ensures.found in (
      (
        refl,
        λ w. record {
          entries = assigned_at class t i q w found c.in_ok-slot.ensures.full c.at_mut.ensures.entries ∙ ap (λ v. assigned (entries class v) q w) c.self.view_is;
          bytes = ap (λ v. v.bytes) c.self.view_is;
          hasher = ap (λ v. v.hasher) c.self.view_is;
        },
        refl,
      ),
      record {
        writes_back = tt;
        value = sym c.at_mut.ensures.value ∙ sym (ap (option_map (λ (p : g.row.K.Denot × g.row.V.Denot). p.1)) found) ∙ ap (λ v. value_at (entries class v) q) c.self.view_is;
      },
    )
