-- The bounds of the two arbiters at the bottom. Assumes nothing.
use Rattle.std.specs.Prelude.{ℕ, ◌+◌, ◌*◌}
use Rattle.terms.specs.Cores.{number_of}
use Rattle.arbiter.specs.Banks.{inter, between}
use Rattle.arbiter.specs.Cores.{sum_sharing}
use Rattle.arbiter.specs.Questions.{count}
use Rattle.arbiter.specs.Settled.{settled}
use Rattle.arbiter.specs.declared.question.Question.{Question}
use Rattle.arbiter.specs.declared.question.Sharing.{Sharing}
use Rattle.arbiter.specs.declared.request_driven.RequestDriven.{RequestDriven}
use Rattle.arbiter.specs.declared.job_driven.JobDriven.{JobDriven}

-- the wait of one request of core p: between banks, for reordering, and for each core that shares with p a row
-- conflict and that core's own wait between banks
abbrev pub wait : RequestDriven → Sharing → ℕ → ℕ
wait a s p = inter a.banks s p + a.reorder.0 + sum_sharing a.banks.cores s p (λ q. a.banks.conflict.0 + inter a.banks s q)

-- every own request waits so long
abbrev pub request_bound : RequestDriven → Question → ℕ
request_bound a x = settled a.banks.cores x (x.own.0 * wait a x.sharing (number_of x.core))

-- the wait of core p: between banks, and for each core that shares with p a row conflict for each of that core's
-- requests and that core's own wait between banks
abbrev pub job_wait : JobDriven → Question → ℕ → ℕ
job_wait a x p = between a.banks x p + sum_sharing a.banks.cores x.sharing p (λ q. count x q * a.banks.conflict.0 + between a.banks x q)

abbrev pub job_bound : JobDriven → Question → ℕ
job_bound a x = settled a.banks.cores x (job_wait a x (number_of x.core))
