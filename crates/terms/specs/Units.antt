-- Amounts of the three units. Assumes nothing.
use Rattle.std.specs.Prelude.{ℕ}
use Rattle.terms.specs.declared.numbers.Amount.{Amount}
use Rattle.terms.specs.declared.numbers.Picosecond.{Picosecond}
use Rattle.terms.specs.declared.numbers.PicosecondPerRequest.{PicosecondPerRequest}
use Rattle.terms.specs.declared.numbers.Request.{Request}

-- times
abbrev pub Picos : Type 0
Picos = Amount Picosecond

-- counts of requests
abbrev pub Requests : Type 0
Requests = Amount Request

-- delays
abbrev pub DelayPerRequest : Type 0
DelayPerRequest = Amount PicosecondPerRequest

-- so much of a unit
abbrev pub amount : {U : Type 0} → ℕ → Amount U
amount n = record { 0 = n; 1 = record {} }
