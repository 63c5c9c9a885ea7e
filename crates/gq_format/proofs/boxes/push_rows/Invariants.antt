use Rattle.std.proofs.Common.{◌≡◌, ◌++◌, drop, map, string_bytes}
use Rattle.gq_format.specs.Boxes.{line, text_of, value_part}
use Rattle.gq_format.proofs.boxes.push_rows.Given as goal

abbrev pub invariant-loop-i : goal.invariant-loop-i
invariant-loop-i l = string_bytes l.text ++ text_of (map (λ row. line 0x2502 0x2502 0x2502 (value_part row) l.columns) (drop l.i l.rows))
    ≡ string_bytes l.fn.text ++ text_of (map (λ row. line 0x2502 0x2502 0x2502 (value_part row) l.columns) l.rows)
