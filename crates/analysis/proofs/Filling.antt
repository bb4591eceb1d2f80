-- What filling a buffer answers, told in other words. Assumes nothing.
use Rattle.std.proofs.Common.{◌≡◌, ℕ, ◌<◌, List, Ok, Err, Result, subst}
use Rattle.terms.specs.Units.{Picos}
use Rattle.terms.specs.declared.refusal.Refusal.{Refusal}
use Rattle.analysis.specs.Times.{Fills}

module _ (Entry Told : ℕ → Picos → Type 0) (n m : ℕ) (same : n ≡ m) (tells : (k : ℕ) (v : Picos) → k < n → Entry k v → Told k v) (old new : List Picos) where
  told : (r : Result (Unit {0}) Refusal) → Fills n Entry old r new → Fills n Told old r new
  told (Ok u) f = (f.0, record { long = f.1.long; shows = λ k h. tells k _ h (f.1.shows k h); rest = f.1.rest })
  told (Err e) f = f

  pub fills_told : (r : Result (Unit {0}) Refusal) → Fills n Entry old r new → Fills m Told old r new
  fills_told r f = subst (λ (j : ℕ). Fills j Told old r new) same (told r f)
