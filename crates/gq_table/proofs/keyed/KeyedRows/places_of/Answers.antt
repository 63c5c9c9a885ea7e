use Rattle.std.proofs.Common.{◌≡◌, ◌+◌, ◌<◌, [], length, take, ap, sym, subst, ◌∙◌, arith, take_all}
use Rattle.std.specs.Prelude.{slice_index_or}
use Rattle.std.proofs.lemmas.List.{length-map}
use Rattle.gq_row.specs.Rows.{key_of}
use Rattle.gq_table.specs.Places.{ArePlaces}
use Rattle.gq_table.proofs.KeyedLemmas.{read_mapped}
use Rattle.gq_table.proofs.PlaceLemmas.{place_of, places_more}
use Rattle.gq_table.proofs.keyed.KeyedRows.places_of.Goals as goal

pub loop-i-init : goal.loop-i-init
loop-i-init g c =
    subst (ArePlaces c.args.positions.now (g.H.KeyHash.hash_of c.args.self.now.index.hasher) c.args.self.now.rows []) (sym c.in_ok-places.ensures.items) tt

pub loop-i-preserved : goal.loop-i-preserved
loop-i-preserved g c =
    let positions = c.args.positions.now in
    let hash = g.H.KeyHash.hash_of c.args.self.now.index.hasher in
    let rows = c.args.self.now.rows in
    let staged = c.args.staged.now.rows in
    let i = c.loop-i.i in
    let keys = c.keys-keys.ensures.list ∙ c.requires.mine in
    let within : i < length staged = subst (λ n. i < n) (ap length keys ∙ length-map staged (key_of positions)) c.loop-i-test.true in
    let is : c.index-keys-i.result ≡ key_of positions (slice_index_or staged i []) = c.index-keys-i.is ∙ ap (λ ks. slice_index_or ks i c.index-keys-i.result) keys ∙ read_mapped (key_of positions) staged i [] c.index-keys-i.result within in
    subst (ArePlaces positions hash rows (take (i + 1) staged)) (sym c.in_ok-push.ensures.items)
    (places_more hash positions rows staged c.loop-i.places.items i [] c.find.result within c.loop-i.invariant
    (place_of hash positions rows (slice_index_or staged i []) c.args.self.now.index.keys c.index-keys-i.result c.find.result c.requires.own is c.find.ensures.found c.find.ensures.absent))

pub returns : goal.returns
returns g c =
    let staged = c.args.staged.now.rows in
    let keys = c.keys-keys.ensures.list ∙ c.requires.mine in
    let long : length staged ≡ length c.keys-keys.result.now = sym (ap length keys ∙ length-map staged (key_of c.args.positions.now)) in
    subst (λ l. ArePlaces c.args.positions.now (g.H.KeyHash.hash_of c.args.self.now.index.hasher) c.args.self.now.rows l c.loop-i.places.items)
    (take_all c.loop-i.i staged (let over = c.loop-i-test.false in omega arith)) c.loop-i.invariant
