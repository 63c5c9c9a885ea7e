-- What is printed for a word that is refused.
use Rattle.std.specs.Prelude.{ℕ, List, ◌++◌, codes}
use Rattle.gq_infer.specs.declared.bad_table.BadTable.{BadTable}
use Rattle.gq_infer.specs.declared.bad_table.BadTable.TheVariants.{Limit, Memory, NoName, NotColumns}

abbrev pub reason : BadTable → List ℕ
reason NoName = codes "write NAME=FILE, with a name of 1 to 63 bytes"
reason NotColumns = codes "write the columns as in a create command: NAME (COLUMN KIND, .., key (COLUMN, ..))=FILE"
reason Limit = codes "a name is too long, or there are too many columns"
reason Memory = codes "out of memory"

abbrev pub bad_table_text : List ℕ → BadTable → List ℕ
bad_table_text word why =
    codes "error: invalid value '" ++ (word ++ (codes "' for '--table <[NAME=]FILE>': " ++ (reason why ++ codes "\n\nFor more information, try '--help'.\n")))
