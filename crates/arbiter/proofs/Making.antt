-- What a setting in range makes. Assumes nothing.
use Rattle.std.proofs.Common.{ℕ, Some, None, Ok, Option}
use Rattle.arbiter.specs.Settings.{Made}

pub made_of : {A : Type 0} → (P : A → Type 0) (o : Option ℕ) (a : A) → Made o (Ok a) P → P a
made_of P None a h = h
made_of P (Some k) a h = absurd h
