-- Other numbers for a task, and the former ones again. Assumes nothing.
use Rattle.std.proofs.Common.{◌≡◌, ℕ, ◌<◌, ltb, List, length, get_or, set, Some, None, Ok, Err, Option, ap, ◌∙◌, subst, arith, length-set}
use Rattle.std.proofs.lemmas.List.{get_or-set_same, set-set, set-get_or}
use Rattle.std.proofs.lemmas.Bool.{lt-ltb, cond-true}
use Rattle.terms.specs.Checks.{first_out}
use Rattle.terms.specs.Refusals.{told}
use Rattle.terms.specs.declared.cores.Core.{Core}
use Rattle.terms.specs.declared.refusal.Refusal.{Refusal}
use Rattle.arbiter.specs.declared.question.Question.{Question}
use Rattle.tables.specs.Layout.{Tabled}
use Rattle.tables.specs.Ranges.{no_task}
use Rattle.tables.specs.Retimed.{retimed, timed, Timed, Former, Retimes, numbers_in_range}
use Rattle.tables.specs.declared.model.Task.{Task}
use Rattle.tables.specs.declared.numbers.Numbers.{Numbers}
use Rattle.tables.specs.declared.timing.Timing.{Timing}
use Rattle.analysis.specs.Demand.{State}
use Rattle.analysis.specs.Times.{FirstLate}
use Rattle.plan.specs.Born.{tables_in}
use Rattle.plan.specs.Calls.{Call, with_numbers, retime_asks, ranged}
use Rattle.plan.proofs.Outcomes.{examined}

-- the state of tables and placements
abbrev pub over : Tabled → List (Option Core) → State
over t placement = record { cores = t.cores; partitions = t.partitions; tasks = t.tasks; links = t.links; placement = placement }

same_task : (x : Task) (n : Numbers) (t : Timing) → Timed n t → timed x t ≡ retimed x n
same_task x n t h =
    let a = h.period in
    let b = h.deadline in
    let c = h.execution in
    let d = h.requests in
    cc

back_task : (x : Task) (t former : Timing) → Former x former → timed (timed x t) former ≡ x
back_task x t former h =
    let a = h.period in
    let b = h.deadline in
    let c = h.execution in
    let d = h.requests in
    let e : ◌≡◌ {A = Task} (timed (timed x t) former) (record { partition = x.partition; period = x.period; deadline = x.deadline; execution = x.execution; requests = x.requests }) = cc in
    e

-- what a retiming asks for where its checks pass
pub retime_ok : (s : State) (i : ℕ) (n : Numbers) → i < length s.tasks → first_out 0 (numbers_in_range n) ≡ None → retime_asks s i n ≡ Ok (with_numbers s i n)
retime_ok s i n within passed =
    cond-true (ltb i (length s.tasks)) _ _ (lt-ltb i (length s.tasks) within) ∙ ap (λ o. ranged o (with_numbers s i n)) passed

module _ (s : State) (i : ℕ) (n : Numbers) (t : Timing) (has : Timed n t) where
  -- the tables with the numbers of t are those that are asked for
  pub retimed_state : (former : Timing) (mid : Tabled) → Retimes (tables_in s) i t (Some former) mid → over mid s.placement ≡ with_numbers s i n
  retimed_state former mid h =
      ap (λ m. over m s.placement) h.2
      ∙ ap (λ (x : Task). record { cores = s.cores; partitions = s.partitions; tasks = set s.tasks i x; links = s.links; placement = s.placement }) (same_task (get_or s.tasks i no_task) n t has)

  -- the former numbers again
  pub restored_state : (former : Timing) (mid new : Tabled) (r : Option Timing) → Retimes (tables_in s) i t (Some former) mid → Retimes mid i former r new → over new s.placement ≡ s
  restored_state former mid new None h back =
      let long = ap (λ (m : Tabled). length m.tasks) h.2 ∙ length-set s.tasks i (timed (get_or s.tasks i no_task) t) in
      absurd (omega (arith, h.0, back.0))
  restored_state former mid new (Some w) h back =
      let ts = s.tasks in
      let x = get_or ts i no_task in
      let y = timed x t in
      let tasks = ap (λ (m : Tabled). m.tasks) h.2 in
      let there = ap (λ l. get_or l i no_task) tasks ∙ get_or-set_same ts i y no_task h.0 in
      let again : set mid.tasks i (timed (get_or mid.tasks i no_task) former) ≡ ts =
      ap (λ (z : Task). set mid.tasks i (timed z former)) there ∙ ap (λ l. set l i (timed y former)) tasks
      ∙ set-set ts i y (timed y former) ∙ ap (λ (z : Task). set ts i z) (back_task x t former h.1) ∙ set-get_or ts i no_task
      in
      ap (λ m. over m s.placement) back.2
      ∙ ap (λ l. record { cores = mid.cores; partitions = mid.partitions; tasks = l; links = mid.links; placement = s.placement }) again
      ∙ ap (λ (m : Tabled). record { cores = m.cores; partitions = m.partitions; tasks = ts; links = m.links; placement = s.placement }) h.2

  -- a retiming that is refused as late
  pub retime_late : (U : Type 0) (bound : Question → ℕ) (former : Timing) (mid new : Tabled) (r : Option Timing) (k : ℕ) (e : Refusal) → told e ≡ (15, k) → first_out 0 (numbers_in_range n) ≡ None → Retimes (tables_in s) i t (Some former) mid → Retimes mid i former r new → FirstLate bound (over mid s.placement) (Some k) → Call {U = U} bound s (retime_asks s i n) (Err e) (over new s.placement)
  retime_late U bound former mid new r k e tells passed h back late =
      examined {U = U} bound s (with_numbers s i n) (over new s.placement) (retime_asks s i n) (Err e) (retime_ok s i n h.0 passed)
      ((k, tells, subst (λ m. FirstLate bound m (Some k)) (retimed_state former mid h) late), restored_state former mid new r h back)
