-- Fields packed into bytes, the most significant bit first. Assumes nothing.
use Rattle.std.specs.Prelude.{ℕ, ◌+◌, ◌-◌, ◌*◌, ◌/◌, ◌%◌, ◌^◌, List, [], ◌∷◌, take, replicate}
use Rattle.std.specs.Int.Digits.{number_from_digits}

-- how many bytes a run of e bits reaches into
abbrev pub reach : ℕ → ℕ
reach e = (e + 7) / 8

-- the w bits of bs from bit o on: of the bytes that they reach, the bits past them are cut off, then those before them
abbrev pub bits_at : ℕ → ℕ → List ℕ → ℕ
bits_at o w bs = number_from_digits 256 (take (reach (o + w)) bs) / 2 ^ (8 * reach (o + w) - (o + w)) % 2 ^ w

-- how many bits fields of these widths take
abbrev pub bits : List ℕ → ℕ
bits [] = 0
bits (w ∷ ws) = w + bits ws

-- the fields of these widths that a number is made of
abbrev pub unpack : List ℕ → ℕ → List ℕ
unpack [] n = []
unpack (w ∷ ws) n = (n / 2 ^ bits ws % 2 ^ w) ∷ unpack ws n

-- the number that fields of these widths make
abbrev pub pack : List ℕ → List ℕ → ℕ
pack [] vs = 0
pack (w ∷ ws) [] = 0
pack (w ∷ ws) (v ∷ vs) = v * 2 ^ bits ws + pack ws vs

-- a number as k bytes
abbrev pub octets : ℕ → ℕ → List ℕ
octets k n = unpack (replicate k 8) n
