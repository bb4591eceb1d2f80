-- After any history every placed task is in time. Assumes nothing.
use Rattle.std.proofs.Common.{◌≡◌, ℕ, zero, suc, ◌<◌, List, [], ◌∷◌, length, get_or, replicate, Some, None, Ok, Err, Option, Result, unwrap_or, sym, refl, ap, ◌∙◌, subst}
use Rattle.terms.specs.declared.cores.Core.{Core}
use Rattle.terms.specs.Units.{Picos}
use Rattle.terms.specs.declared.refusal.Refusal.{Refusal}
use Rattle.arbiter.specs.declared.question.Question.{Question}
use Rattle.tables.specs.Ranges.{no_time}
use Rattle.analysis.specs.Demand.{State, task, place, limit}
use Rattle.analysis.specs.Times.{InTimePlaced, TellsPlaced, AllInTime, Shows, IsTime, demand_on}
use Rattle.plan.specs.Born.{Born}
use Rattle.plan.specs.Calls.{Asked, Call}
use Rattle.plan.specs.History.{asks, Runs, done, next, History}
use Rattle.plan.specs.Rehearsal.{Due, InTimeTold}
use Rattle.plan.specs.declared.change.Change.{Change}

-- every placed task has a time
abbrev pub Timely : (Question → ℕ) → State → Type 0
Timely bound s = AllInTime bound s (length s.tasks)

nothing_at : (n p : ℕ) → get_or {A = Option Core} (replicate n None) p None ≡ None
nothing_at zero p = refl
nothing_at (suc n) zero = refl
nothing_at (suc n) (suc p) = nothing_at n p

born_timely : (bound : Question → ℕ) (file : List ℕ) (s : State) → Born file s → Timely bound s
born_timely bound file s b i h =
    let p = (task s i).partition in
    let none = ap (λ cores. get_or cores p None) b.unplaced ∙ nothing_at 16 p in
    subst (InTimePlaced (demand_on bound s i) (limit s i)) (sym none) tt

pub call_timely : (bound : Question → ℕ) (s z : State) (asked : Asked) (r : Result (Unit {0}) Refusal) → Timely bound s → Call bound s asked r z → Timely bound z
call_timely bound s z (Err t) (Ok u) h call = absurd call
call_timely bound s z (Err t) (Err e) h call = subst (Timely bound) (sym call.1) h
call_timely bound s z (Ok n) (Ok u) h call = subst (Timely bound) (sym call.1) call.0
call_timely bound s z (Ok n) (Err e) h call = subst (Timely bound) (sym call.1) h

runs_timely : (bound : Question → ℕ) (s z : State) (cs : List Change) → Runs bound s cs z → Timely bound s → Timely bound z
runs_timely bound s z [] (done _) h = h
runs_timely bound s z (c ∷ cs) (next _ m _ _ _ r call rest) h =
    runs_timely bound m z cs rest (call_timely bound s m (asks s c) r h call)

pub history_timely : (bound : Question → ℕ) (file : List ℕ) (cs : List Change) (z : State) → History bound file cs z → Timely bound z
history_timely bound file cs z h = runs_timely bound h.birth z cs h.runs (born_timely bound file h.birth h.born)

due : (f : Core → ℕ → ℕ) (most : ℕ) (o : Option Core) (r : Option Picos) (v : Picos) → InTimePlaced f most o → TellsPlaced f most o r → v ≡ unwrap_or r no_time → Due f most o v.0
due f most None r v h w e = ap (λ (x : Picos). x.0) (e ∙ ap (λ o. unwrap_or o no_time) w)
due f most (Some p) None v h w e = absurd (w h.0 h.1.0)
due f most (Some p) (Some t) v h w e = subst (λ (x : Picos). IsTime (f p) most x.0) (sym e) w

-- what is shown of each task is then its time
pub told_in_time : (bound : Question → ℕ) (s : State) (times : List Picos) → Timely bound s → ((k : ℕ) → k < length s.tasks → Shows bound s k (get_or times k no_time)) → InTimeTold bound s times
told_in_time bound s times timely shows k h =
    let w = shows k h in
    due (demand_on bound s k) (limit s k) (place s k) w.0 (get_or times k no_time) (timely k h) w.1 w.2
