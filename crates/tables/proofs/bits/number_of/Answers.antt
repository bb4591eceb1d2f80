use Rattle.std.proofs.Common.{ℕ, ◌*◌, ◌^◌, ◌<◌, ◌≤◌, arith}
use Rattle.std.proofs.lemmas.Nat.{pow_below}
use Rattle.tables.proofs.Packing.{octet}
use Rattle.tables.proofs.bits.number_of.Goals as goal

-- before the last of seven bytes the value has at most 48 bits
small : (i n v : ℕ) → n ≤ 7 → i < n → v < 256 ^ i → v < 2 ^ 56
small i n v few in' h = omega (arith, octet i, pow_below (8 * i) 56 (omega arith))

pub overflow_mul-value : goal.overflow_mul-value
overflow_mul-value c = omega (arith, small c.loop-b.b-index _ c.loop-b.value c.requires c.loop-b-test.true c.loop-b.invariant.1)
