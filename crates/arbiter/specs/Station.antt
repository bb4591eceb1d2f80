-- The settings of our station. Assumes nothing.
use Rattle.std.specs.Prelude.{◌≡◌, ℕ}
use Rattle.arbiter.specs.declared.banks.Banks.{Banks}
use Rattle.arbiter.specs.declared.job_driven.JobDriven.{JobDriven}
use Rattle.arbiter.specs.declared.lesser.Lesser.{Lesser}
use Rattle.arbiter.specs.declared.request_driven.RequestDriven.{RequestDriven}

-- the longest wait between banks and that of a row conflict, on n cores
abbrev pub OurBanks : ℕ → Banks → Type 0
OurBanks n b = (b.cores ≡ n) × (b.l.0 ≡ 48750) × (b.conflict.0 ≡ 60000)

-- the lesser of the request-driven and the job-driven arbiter, with these settings and the wait for reordering
pub record OurPile (n : ℕ) (a : Lesser RequestDriven JobDriven) : Type 0 where
  pub first : OurBanks n a.first.banks
  pub reorder : a.first.reorder.0 ≡ 5000
  pub second : OurBanks n a.second.banks
