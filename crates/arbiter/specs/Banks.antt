-- What the banks of the memory make a core wait. Assumes nothing.
use Rattle.std.specs.Prelude.{ℕ, ◌*◌}
use Rattle.arbiter.specs.Cores.{sum_apart}
use Rattle.arbiter.specs.Questions.{count}
use Rattle.arbiter.specs.declared.question.Sharing.{Sharing}
use Rattle.arbiter.specs.declared.question.Question.{Question}
use Rattle.arbiter.specs.declared.banks.Banks.{Banks}

-- the wait of one request of core p between banks: l for each other core that doesn't share with p
abbrev pub inter : Banks → Sharing → ℕ → ℕ
inter b s p = sum_apart b.cores s p (λ q. b.l.0)

-- the wait of core p between banks: l for each request of another core that doesn't share with p
abbrev pub between : Banks → Question → ℕ → ℕ
between b x p = sum_apart b.cores x.sharing p (λ q. count x q * b.l.0)
