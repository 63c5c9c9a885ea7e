use Rattle.gq_options.proofs.FolderLemmas.{folders-worked, takes-one-folder}
use Rattle.gq_options.proofs.laws.takes_one_folder.Goals as goal

pub returns : goal.returns
returns c = record { vary = takes-one-folder; worked = folders-worked }
