-- What refreshing the memory adds. Assumes nothing.
use Rattle.std.specs.Prelude.{ℕ, ◌+◌, ◌-◌, ◌*◌, ◌/◌, min}
use Rattle.arbiter.specs.Questions.{ceiling}

-- how many refreshes a time t meets: t divided by the interval, rounded up
abbrev pub rounds : ℕ → ℕ → ℕ
rounds t interval = (t + (interval - 1)) / interval

-- what they take
abbrev pub refreshes : ℕ → ℕ → ℕ → ℕ
refreshes interval span t = rounds t interval * span

-- a bound with what the refreshes take added, cut to the ceiling
abbrev pub refreshed : ℕ → ℕ → ℕ → ℕ → ℕ
refreshed interval span t below = min (below + refreshes interval span t) ceiling
