-- The file, the bound and the changes determine every state and every answer. Assumes nothing.
use Rattle.std.proofs.Common.{◌≡◌, ℕ, List, [], ◌∷◌, ◌++◌, Some, None, Ok, Err, Option, Result, sym, refl, ap, ◌∙◌, subst, inl, inr}
use Rattle.std.proofs.lemmas.Bool.{cases_order}
use Rattle.terms.specs.declared.cores.Core.{Core}
use Rattle.terms.specs.declared.refusal.Refusal.{Refusal}
use Rattle.arbiter.specs.declared.question.Question.{Question}
use Rattle.tables.specs.Layout.{Tabled, tables_of}
use Rattle.analysis.specs.Demand.{State, place, limit}
use Rattle.analysis.specs.Times.{FirstLate, InTime, LateAt, InTimePlaced, LatePlaced, demand_on}
use Rattle.plan.specs.Born.{Born, tables_in}
use Rattle.plan.specs.Calls.{Asked, Call}
use Rattle.plan.specs.History.{asks, Runs, done, next, History}
use Rattle.plan.specs.Rehearsal.{SameAnswer}
use Rattle.plan.specs.declared.change.Change.{Change}
use Rattle.plan.proofs.Retimings.{over}

not_both_at : (f : Core → ℕ → ℕ) (most : ℕ) (o : Option Core) → InTimePlaced f most o → LatePlaced f most o → ⊥
not_both_at f most None h w = w
not_both_at f most (Some p) h w = w h.0 h.1.0

-- no task is both in time and late
pub not_both : (bound : Question → ℕ) (s : State) (k : ℕ) → InTime bound s k → LateAt bound s k → ⊥
not_both bound s k = not_both_at (demand_on bound s k) (limit s k) (place s k)

-- there is one first late task at most
pub one_first : (bound : Question → ℕ) (n : State) (k j : ℕ) → FirstLate bound n (Some k) → FirstLate bound n (Some j) → k ≡ j
one_first bound n k j a b =
    elim (cases_order k j) [
      | inl same ↦ same
      | inr other ↦ elim other [
        | inl below ↦ absurd (not_both bound n k (b.2 k below) a.1)
        | inr above ↦ absurd (not_both bound n j (a.2 j above) b.1)
      ]
    ]

-- one call
pub call_only : (bound : Question → ℕ) (s y z : State) (asked : Asked) (q r : Result (Unit {0}) Refusal) → Call bound s asked q y → Call bound s asked r z → SameAnswer q r × (y ≡ z)
call_only bound s y z (Err t) (Ok u) r a b = absurd a
call_only bound s y z (Err t) (Err e) (Ok u) a b = absurd b
call_only bound s y z (Err t) (Err e) (Err d) a b = (a.0 ∙ sym b.0, a.1 ∙ sym b.1)
call_only bound s y z (Ok n) (Ok u) (Ok v) a b = (tt, a.1 ∙ sym b.1)
call_only bound s y z (Ok n) (Ok u) (Err e) a b = let w = b.0 in absurd (not_both bound n w.0 (a.0 w.0 w.2.0) w.2.1)
call_only bound s y z (Ok n) (Err e) (Ok v) a b = let w = a.0 in absurd (not_both bound n w.0 (b.0 w.0 w.2.0) w.2.1)
call_only bound s y z (Ok n) (Err e) (Err d) a b =
    let v = a.0 in
    let w = b.0 in
    (v.1 ∙ ap (λ (k : ℕ). (15, k)) (one_first bound n v.0 w.0 v.2 w.2) ∙ sym w.1, a.1 ∙ sym b.1)

runs_only : (bound : Question → ℕ) (s : State) (cs : List Change) (y z : State) → Runs bound s cs y → Runs bound s cs z → y ≡ z
runs_only bound s [] y z (done _) (done _) = refl
runs_only bound s (c ∷ cs) y z (next _ m _ _ _ q a h) (next _ n _ _ _ r b k) =
    runs_only bound n cs y z (subst (λ x. Runs bound x cs y) (call_only bound s m n (asks s c) q r a b).1 h) k

-- one birth
born_only : (file : List ℕ) (s z : State) → Born file s → Born file z → s ≡ z
born_only file s z a b =
    let same : a.read.book ≡ b.read.book = let p = sym a.read.is ∙ b.read.is in cc in
    let tables = a.read.tables ∙ ap tables_of same ∙ sym b.read.tables in
    let placed = a.unplaced ∙ sym b.unplaced in
    ap (λ (t : Tabled). over t s.placement) tables ∙ ap (λ p. over (tables_in z) p) placed

pub history_only : (bound : Question → ℕ) (file : List ℕ) (cs : List Change) (y z : State) → History bound file cs y → History bound file cs z → y ≡ z
history_only bound file cs y z a b =
    runs_only bound b.birth cs y z (subst (λ x. Runs bound x cs y) (born_only file a.birth b.birth a.born b.born) a.runs) b.runs

runs_push : (bound : Question → ℕ) (s m z : State) (cs : List Change) (c : Change) (r : Result (Unit {0}) Refusal) → Runs bound s cs m → Call bound m (asks m c) r z → Runs bound s (cs ++ (c ∷ [])) z
runs_push bound s m z [] c r (done _) call = next s z z c [] r call (done z)
runs_push bound s m z (d ∷ cs) c r (next _ n _ _ _ q a h) call = next s n z d (cs ++ (c ∷ [])) q a (runs_push bound n m z cs c r h call)

-- one change more
pub history_more : (bound : Question → ℕ) (file : List ℕ) (cs : List Change) (c : Change) (m z : State) (r : Result (Unit {0}) Refusal) → History bound file cs m → Call bound m (asks m c) r z → History bound file (cs ++ (c ∷ [])) z
history_more bound file cs c m z r h call =
    record { birth = h.birth; born = h.born; runs = runs_push bound h.birth m z cs c r h.runs call }
