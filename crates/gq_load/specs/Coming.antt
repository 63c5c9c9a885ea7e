-- What a reader of a payload has yet to give.
use Rattle.std.specs.Prelude.{◌≡◌, ◌⊎◌, ◌+◌, ◌-◌, ◌≤◌, ℕ, Bool, true, false, IsTrue, List, [], ◌∷◌, length, map, Result, Ok, Err, Option, Some, None, IfSome, option_map, if◌then◌else◌}
use Rattle.gq_row.specs.declared.limits.Bounds.{Bounds}
use Rattle.gq_row.specs.declared.value.Value.{Value}
use Rattle.gq_row.specs.Fitting.{fits_columns, has_null}
use Rattle.gq_row.specs.Schemas.{PlainSchema}
use Rattle.gq_load.specs.declared.load_refusal.LoadRefusal.{LoadRefusal}
use Rattle.gq_load.specs.declared.load_refusal.LoadRefusal.TheVariants.{Memory}
use Rattle.gq_load.specs.declared.row_fault.RowFault.{RowFault}
use Rattle.gq_load.specs.declared.row_fault.RowFault.TheVariants as fault
use Rattle.gq_load.specs.declared.short_records.Short.{Short}
use Rattle.gq_load.specs.Answers.{◌>>=◌}
use Rattle.gq_load.specs.Payloads.{completed, rows_from, at_most}

-- the rows of the data records that are left, or their first fault, for a table of this schema, if the payload's bytes are known; and how many rows may come at most
pub record Coming : Type 0 where
  pub schema : PlainSchema
  pub rows : Option (Result (List (List Value)) LoadRefusal)
  pub room : ℕ

-- the rows of records, the first of which has this number, if there are at most `most`; a fault of a record goes before
unfoldable pub rows_left : PlainSchema → ℕ → ℕ → List ℕ → ℕ → List (List (List ℕ)) → Result (List (List Value)) LoadRefusal
rows_left schema text most places number others = do
  rows ← rows_from schema text places number others
  at_most most rows

-- data records, read under a header of the given number of fields, if they are known
abbrev pub data_left : Short → ℕ → Option (List (List (List ℕ))) → Option (List (List (List ℕ)))
data_left short count rest = option_map (map (completed short count)) rest

-- their rows, after the given number of rows
abbrev pub rows_coming : Short → PlainSchema → Bounds → List ℕ → ℕ → Option (List (List (List ℕ))) → Option (Result (List (List Value)) LoadRefusal)
rows_coming short schema bounds places given rest = option_map (rows_left schema bounds.text (bounds.rows - given) places (given + 1)) (data_left short (length places) rest)

-- nothing comes any more, or those do
abbrev pub unless_over : Bool → Option (Result (List (List Value)) LoadRefusal) → Option (Result (List (List Value)) LoadRefusal)
unless_over is_over rows = if is_over then Some (Ok []) else rows

-- a row, and then others
abbrev pub row_before : List Value → Result (List (List Value)) LoadRefusal → Result (List (List Value)) LoadRefusal
row_before row rows = rows >>= λ others. Ok (row ∷ others)

-- rows that are known are this one, and then those that are left
abbrev pub BeginWith : Option (Result (List (List Value)) LoadRefusal) → List Value → Option (Result (List (List Value)) LoadRefusal) → Type 0
BeginWith rows row left = IfSome rows (λ read. option_map (row_before row) left ≡ Some read)

-- the fault of what was read, if it has one
abbrev pub fault_of : Result (List (List Value)) LoadRefusal → Option LoadRefusal
fault_of (Ok rows) = None
fault_of (Err fault) = Some fault

-- a fault is a refusal of this kind, out of memory, or a read that failed
abbrev pub Faulted : (LoadRefusal → Type 0) → RowFault → Type 0
Faulted Told (fault.Refused why) = (why ≡ Memory) ⊎ Told why
Faulted Told fault.Read = Unit {0}

-- the refusal for a fault, if reads fail only out of memory
abbrev pub refusal_in : RowFault → LoadRefusal
refusal_in (fault.Refused why) = why
refusal_in fault.Read = Memory

-- a fault of reading, if it is known what reading gives
abbrev pub IsFaultOf : {A : Type 0} → Option (Result A LoadRefusal) → RowFault → Type 0
IsFaultOf read fault = Faulted (λ why. IfSome read (λ given. given ≡ Err why)) fault

-- a reader that is not at its end has given no more rows than it may
abbrev pub IsUnder : Bool → ℕ → ℕ → Type 0
IsUnder is_over given most = is_over ≡ false → given ≤ most

-- a row that came after the given number: those that are left begin with it, it fits its table, and more may come
pub record Came (short : Short) (schema : PlainSchema) (bounds : Bounds) (places : List ℕ) (given : ℕ) (old : Option (List (List (List ℕ)))) (row : List Value) (new : Option (List (List (List ℕ)))) : Type 0 where
  pub left : BeginWith (rows_coming short schema bounds places given old) row (rows_coming short schema bounds places (given + 1) new)
  pub fits : IsTrue (fits_columns schema.columns row)
  pub keyed : has_null schema.key row ≡ false
  pub under : given + 1 ≤ bounds.rows

-- what reading the next row gave: a row, the end, or the first fault of the rows that are left
abbrev pub IsNext : Short → PlainSchema → Bounds → List ℕ → ℕ → Option (List (List (List ℕ))) → List Value → Option (List (List (List ℕ))) → Result Bool RowFault → Type 0
IsNext short schema bounds places given old row new (Ok true) = Came short schema bounds places given old row new
IsNext short schema bounds places given old row new (Ok false) = IfSome (rows_coming short schema bounds places given old) (λ read. read ≡ Ok [])
IsNext short schema bounds places given old row new (Err fault) = IsFaultOf (rows_coming short schema bounds places given old) fault
