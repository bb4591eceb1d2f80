-- Small files, and what they say. Assumes nothing.
use Rattle.std.specs.Prelude.{◌≡◌, [], ◌∷◌, Ok, Err}
use Rattle.tables.specs.RowKinds.{as_picos}
use Rattle.tables.specs.Contents.{decode}

-- one core and nothing else; a partition A with a period of a millisecond; the same, one picosecond less
abbrev pub SmallFiles : Type 0
SmallFiles =
    (decode (0x20 ∷ 0 ∷ 0 ∷ []) ≡ Ok (record { cores = 1; partitions = []; tasks = []; links = [] }))
    × (decode (0x21 ∷ 0 ∷ 0 ∷ 0 ∷ 0x03 ∷ 0xB9 ∷ 0xAC ∷ 0xA0 ∷ 0x01 ∷ 0x41 ∷ []) ≡ Ok (record { cores = 1; partitions = (record { period = as_picos 1000000000 }, 0x41 ∷ []) ∷ []; tasks = []; links = [] }))
    × (decode (0x21 ∷ 0 ∷ 0 ∷ 0 ∷ 0x03 ∷ 0xB9 ∷ 0xAC ∷ 0x9F ∷ 0xF1 ∷ 0x41 ∷ []) ≡ Err (2, 3))
