use Rattle.sw_flat.proofs.Classes.{class_of_entry}
use Rattle.sw_flat.proofs.laws.keys_are_of_their_class.Goals as goal

pub returns : goal.returns
returns g c = λ q p e. class_of_entry g.K.Keyed.class c.args.map.now.places q p e
