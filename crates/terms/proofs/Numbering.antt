-- The core of a number, where an option is wanted. Assumes nothing.
use Rattle.std.proofs.Common.{◌≡◌, ℕ, Ok, Err, Result, sym}
use Rattle.std.specs.Result.{result_ok}
use Rattle.terms.specs.Cores.{numbered, Numbered}
use Rattle.terms.specs.declared.cores.Core.{Core}
use Rattle.terms.specs.declared.refusal.Refusal.{Refusal}

pub numbered_ok : (n : ℕ) (r : Result Core Refusal) → Numbered n r → result_ok r ≡ numbered n
numbered_ok n (Ok core) h = sym h
numbered_ok n (Err e) h = sym h.0
