-- The listing of a plan and the text of check, from what the calls on a plan ensure. Assumes nothing.
use Rattle.std.proofs.Common.{◌≡◌, ℕ, ◌<◌, List, length, get_or, Some, None, Ok, Err, Option, Result, sym, ap, ◌∙◌, subst, arith}
use Rattle.std.proofs.lemmas.List.{get_or-take, length-take-le}
use Rattle.terms.specs.Units.{Picos}
use Rattle.terms.specs.declared.refusal.Refusal.{Refusal}
use Rattle.arbiter.proofs.Making.{made_of}
use Rattle.arbiter.specs.Settings.{Made}
use Rattle.arbiter.specs.Station.{OurPile}
use Rattle.arbiter.specs.declared.job_driven.JobDriven.{JobDriven}
use Rattle.arbiter.specs.declared.lesser.Lesser.{Lesser}
use Rattle.arbiter.specs.declared.question.Question.{Question}
use Rattle.arbiter.specs.declared.request_driven.RequestDriven.{RequestDriven}
use Rattle.tables.specs.Contents.{Book, decode}
use Rattle.tables.specs.Ranges.{no_time}
use Rattle.analysis.specs.Demand.{State}
use Rattle.analysis.specs.Times.{Shows, Filled}
use Rattle.plan.specs.Born.{Born}
use Rattle.plan.specs.Calls.{Call, adopt_asks}
use Rattle.report.specs.Checked.{Checked, CheckedBy, Judged, Listed, Told, pile_bound}
use Rattle.report.specs.Listed.{listed}
use Rattle.report.specs.Text.{Written, listing, refusal_text}
use Rattle.report.specs.declared.times.Times.{Times}

-- the times that a plan has filled in, listed
pub listed_times : (bound : Question → ℕ) (s : State) (fresh filled : List Picos) (x : Times) → Filled (length s.tasks) (Shows bound s) fresh filled → x.entries ≡ filled → x.count ≡ length s.tasks → (old new : List ℕ) (r : Result ℕ Refusal) → Written (listing (listed x)) old r new → Listed bound s old r new
listed_times bound s fresh filled x times same count old new r written =
    let long : length (listed x) ≡ x.count = length-take-le x.count x.entries (omega (arith, x.full, x.few)) in
    record {
      times = listed x;
      each = long ∙ count;
      shown = λ k h.
          let below : k < x.count = omega (arith, long, h) in
          let here = get_or-take x.count x.entries k no_time below ∙ ap (λ (ts : List Picos). get_or ts k no_time) same in
          subst (λ (t : Picos). Shows bound s k t) (sym here) (times.shows k (omega (arith, count, below)));
      written = written;
    }

-- what was made
module _ (file entries : List ℕ) (s z : State) (pile : Lesser RequestDriven JobDriven) (n : ℕ) (o : Option ℕ) (r : Result (Unit {0}) Refusal) where
  pub judged : Born file s → n ≡ s.cores → Made o (Ok pile) (λ a. OurPile n a) → Call (pile_bound pile) s (adopt_asks s entries) r z → Judged file entries pile r z
  judged born cores made call = record {
    birth = s;
    born = born;
    ours = subst (λ (m : ℕ). OurPile m pile) cores (made_of (λ a. OurPile n a) o pile made);
    call = call;
  }

module _ (file entries old : List ℕ) (r : Result ℕ Refusal) (new : List ℕ) where
  pub checked_refused : (t : ℕ × ℕ) → decode file ≡ Err t → Written (refusal_text t) old r new → Checked file entries old r new
  unfolding Checked
  checked_refused t is written = subst (λ (d : Result Book (ℕ × ℕ)). CheckedBy d file entries old r new) (sym is) written

  pub checked_answered : (pile : Lesser RequestDriven JobDriven) (answer : Result (Unit {0}) Refusal) (z : State) → Judged file entries pile answer z → Told (pile_bound pile) answer z old r new → Checked file entries old r new
  unfolding Checked
  checked_answered pile answer z j text =
      subst (λ (d : Result Book (ℕ × ℕ)). CheckedBy d file entries old r new) (sym j.born.read.is)
      (record { pile = pile; answer = answer; after = z; judged = j; text = text })
