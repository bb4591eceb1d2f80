-- Thirteen examples worked through: table files, questions to the arbiters, refreshes, and the times of small plans.
-- Times are picoseconds. Assumes nothing.
use Rattle.std.specs.Prelude.{◌≡◌, ℕ, ◌+◌, ◌*◌, ◌^◌, ◌≤◌, Bool, true, false, [], ◌∷◌, replicate, Some, None, Ok, Err, Option}
use Rattle.terms.specs.declared.cores.Core.TheVariants.{Zero, One}
use Rattle.terms.specs.Units.{Picos}
use Rattle.arbiter.specs.Bounds.{request_bound, job_bound}
use Rattle.arbiter.specs.Refreshes.{refreshed}
use Rattle.arbiter.specs.Station.{OurPile}
use Rattle.arbiter.specs.declared.job_driven.JobDriven.{JobDriven}
use Rattle.arbiter.specs.declared.lesser.Lesser.{Lesser}
use Rattle.arbiter.specs.declared.question.Question.{Question}
use Rattle.arbiter.specs.declared.question.Sharing.{Sharing}
use Rattle.arbiter.specs.declared.request_driven.RequestDriven.{RequestDriven}
use Rattle.tables.specs.Contents.{decode}
use Rattle.tables.specs.RowKinds.{as_picos, as_requests}
use Rattle.tables.specs.declared.model.Partition.{Partition}
use Rattle.tables.specs.declared.model.Task.{Task}
use Rattle.analysis.specs.Demand.{State, demand}
use Rattle.analysis.specs.Times.{TimeIs, FirstLate}
use Rattle.report.specs.Checked.{pile_bound}

-- P of every pile with the settings of our station for n cores
abbrev pub OfOurs : ℕ → (Lesser RequestDriven JobDriven → Type 0) → Type 0
OfOurs n P = (a : Lesser RequestDriven JobDriven) → OurPile n a → P a

-- the same of the bound of every such pile
abbrev pub UnderOurs : ℕ → ((Question → ℕ) → Type 0) → Type 0
UnderOurs n P = OfOurs n (λ a. P (pile_bound a))

-- whether cores 0 and 1 share, and whether 1 and 2 do; no others share
abbrev pub pairs : Bool → Bool → Sharing
pairs a b = record { p01 = a; p02 = false; p03 = false; p12 = b; p13 = false; p23 = false }

-- core 0 asks, with its own requests and those of cores 1 and 2
abbrev pub asked : ℕ → ℕ → ℕ → Sharing → Question
asked own one two s = record {
  core = Zero;
  t = as_picos 0;
  own = as_requests own;
  others = as_requests 0 ∷ as_requests one ∷ as_requests two ∷ as_requests 0 ∷ [];
  sharing = s;
}

-- the bound of the refresh layer with this interval and span, over an arbiter with the bound below
abbrev pub refresh_bound : ℕ → ℕ → (Question → ℕ) → Question → ℕ
refresh_bound interval span below q = refreshed interval span q.t.0 (below q)

-- over any arbiter, a refresh of 350,000 in each 7,800,000 adds so much at the time t, where the bound below is at most 10 ^ 13
abbrev pub RefreshAdds : ℕ → ℕ → Type 0
RefreshAdds t more =
    (below : Question → ℕ) (q : Question) → q.t.0 ≡ t → below q ≤ 10 ^ 13 → refresh_bound 7800000 350000 below q ≡ below q + more

-- so many milliseconds
abbrev pub ms : ℕ → ℕ
ms n = n * 10 ^ 9

abbrev pub takes : ℕ → Option Picos
takes t = Some (as_picos t)

abbrev pub repeating : ℕ → Partition
repeating period = record { period = as_picos period }

-- a task of a partition, with its period, deadline, execution time and requests, the same on each core
abbrev pub alike : ℕ → ℕ → ℕ → ℕ → ℕ → Task
alike partition period deadline execution requests = record {
  partition = partition;
  period = as_picos period;
  deadline = as_picos deadline;
  execution = replicate 4 (as_picos execution);
  requests = replicate 4 (as_requests requests);
}

-- One core, and on it a partition of two tasks that request nothing: task 0 with a period and deadline of 10 ms and
-- this execution time, task 1 with a period of 20 ms and this execution time and deadline.
abbrev pub one_core : ℕ → ℕ → ℕ → State
one_core first second deadline = record {
  cores = 1;
  partitions = repeating (ms 20) ∷ [];
  tasks = alike 0 (ms 10) (ms 10) first 0 ∷ alike 0 (ms 20) deadline second 0 ∷ [];
  links = [];
  placement = Some Zero ∷ replicate 15 None;
}

-- Two cores, and on each a partition of one task, without a link.
abbrev pub two_cores : State
two_cores = record {
  cores = 2;
  partitions = repeating (ms 20) ∷ repeating (ms 10) ∷ [];
  tasks = alike 0 (ms 20) (ms 20) (ms 4) 1000 ∷ alike 1 (ms 10) (ms 10) (ms 1) 2000 ∷ [];
  links = [];
  placement = Some Zero ∷ Some One ∷ replicate 14 None;
}

-- task 1 is in time, just
abbrev pub JustInTime : (Question → ℕ) → Type 0
JustInTime bound =
    TimeIs bound (one_core (ms 3) (ms 8) (ms 14)) 0 (takes (ms 3)) × TimeIs bound (one_core (ms 3) (ms 8) (ms 14)) 1 (takes (ms 14))

-- with a shorter deadline it is late, and task 0 is not
abbrev pub JustLate : (Question → ℕ) → Type 0
JustLate bound =
    TimeIs bound (one_core (ms 3) (ms 8) (ms 13)) 0 (takes (ms 3)) × FirstLate bound (one_core (ms 3) (ms 8) (ms 13)) (Some 1)

-- task 1 takes the least fixed point, 10 ms, though 15 ms is one too
abbrev pub LeastOfTwo : (Question → ℕ) → Type 0
LeastOfTwo bound =
    TimeIs bound (one_core (ms 5) (ms 5) (ms 20)) 1 (takes (ms 10)) × (demand (one_core (ms 5) (ms 5) (ms 20)) bound 1 Zero (ms 15) ≡ ms 15)

-- each task waits for the memory: task 0 by its own requests, task 1 by those of the other
abbrev pub BothWait : (Question → ℕ) → Type 0
BothWait bound = TimeIs bound two_cores 0 (takes 4053750000) × TimeIs bound two_cores 1 (takes 1048750000)

pub record Worked : Type 0 where
  -- a file that says one core, and nothing else
  pub core_alone : decode (0x20 ∷ 0 ∷ 0 ∷ []) ≡ Ok (record { cores = 1; partitions = []; tasks = []; links = [] })
  -- with a partition A, of a period of one millisecond
  pub partition_read : decode (0x21 ∷ 0 ∷ 0 ∷ 0 ∷ 0x03 ∷ 0xB9 ∷ 0xAC ∷ 0xA0 ∷ 0x01 ∷ 0x41 ∷ []) ≡ Ok (record { cores = 1; partitions = (repeating 1000000000, 0x41 ∷ []) ∷ []; tasks = []; links = [] })
  -- with one picosecond less
  pub period_refused : decode (0x21 ∷ 0 ∷ 0 ∷ 0 ∷ 0x03 ∷ 0xB9 ∷ 0xAC ∷ 0x9F ∷ 0xF1 ∷ 0x41 ∷ []) ≡ Err (2, 3)
  -- there are such piles: one for each number of cores
  pub piles : (n : ℕ) → 1 ≤ n → n ≤ 4 → (a : Lesser RequestDriven JobDriven) × OurPile n a
  -- one own request on three cores: nothing shared; 0-1 and 1-2 shared; only 0-1 shared
  pub none_shared : OfOurs 3 (λ a. request_bound a.first (asked 1 0 0 (pairs false false)) ≡ 102500)
  pub two_shared : OfOurs 3 (λ a. request_bound a.first (asked 1 0 0 (pairs true true)) ≡ 113750)
  pub one_shared : OfOurs 3 (λ a. request_bound a.first (asked 1 0 0 (pairs true false)) ≡ 162500)
  -- only 0-1 shared, 100 requests on core 1 and 40 on core 2
  pub by_jobs : OfOurs 3 (λ a. job_bound a.second (asked 0 100 40 (pairs true false)) ≡ 9900000)
  -- at one interval, and just past it
  pub one_refresh : RefreshAdds 7800000 350000
  pub two_refreshes : RefreshAdds 7800001 700000
  -- the times of two tasks on one core, and of one on each of two
  pub in_time : UnderOurs 1 JustInTime
  pub late : UnderOurs 1 JustLate
  pub least : UnderOurs 1 LeastOfTwo
  pub waiting : UnderOurs 2 BothWait
