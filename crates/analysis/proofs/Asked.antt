-- The question that is put for a task, from its parts. Assumes nothing.
use Rattle.std.proofs.Common.{◌≡◌, ℕ, ◌<◌, List, [], ◌∷◌, length, get_or, refl, ap, arith}
use Rattle.terms.specs.declared.cores.Core.{Core}
use Rattle.terms.specs.Units.{amount, Picos, Requests}
use Rattle.arbiter.specs.declared.question.Question.{Question}
use Rattle.arbiter.specs.declared.question.Sharing.{Sharing}
use Rattle.tables.specs.Ranges.{no_requests}

abbrev counted : ℕ → Requests
counted n = amount n

-- own requests, and a count for each core
abbrev pub asked : Core → ℕ → ℕ → (ℕ → ℕ) → Sharing → Question
asked p t own others sharing = record {
  core = p;
  t = amount t;
  own = counted own;
  others = counted (others 0) ∷ counted (others 1) ∷ counted (others 2) ∷ counted (others 3) ∷ [];
  sharing = sharing;
}

pub same_asked : (p : Core) (t m n : ℕ) (f g : ℕ → ℕ) (x y : Sharing) → m ≡ n → ((q : ℕ) → f q ≡ g q) → x ≡ y → asked p t m f x ≡ asked p t n g y
same_asked p t m n f g x y own others sharing =
    let a = others 0 in
    let b = others 1 in
    let c = others 2 in
    let d = others 3 in
    cc

four : (xs : List Requests) → length xs ≡ 4 → xs ≡ get_or xs 0 no_requests ∷ get_or xs 1 no_requests ∷ get_or xs 2 no_requests ∷ get_or xs 3 no_requests ∷ []
four [] h = absurd (omega arith)
four (a ∷ []) h = absurd (omega arith)
four (a ∷ b ∷ []) h = absurd (omega arith)
four (a ∷ b ∷ c ∷ []) h = absurd (omega arith)
four (a ∷ b ∷ c ∷ d ∷ []) h = refl
four (a ∷ b ∷ c ∷ d ∷ e ∷ rest) h = absurd (omega arith)

-- the same of a list of four counts
pub same_question : (p : Core) (t : Picos) (own : Requests) (others : List Requests) (sharing : Sharing) (n : ℕ) (f : ℕ → ℕ) → own.0 ≡ n → length others ≡ 4 → ((q : ℕ) → q < 4 → (get_or others q no_requests).0 ≡ f q) → ◌≡◌ {A = Question} (record { core = p; t = t; own = own; others = others; sharing = sharing }) (asked p t.0 n f sharing)
same_question p t own others sharing n f same long each =
    let all = four others long in
    let time : t ≡ amount t.0 = refl in
    let o : own ≡ counted n = ap counted same in
    let a : get_or others 0 no_requests ≡ counted (f 0) = ap counted (each 0 (omega arith)) in
    let b : get_or others 1 no_requests ≡ counted (f 1) = ap counted (each 1 (omega arith)) in
    let c : get_or others 2 no_requests ≡ counted (f 2) = ap counted (each 2 (omega arith)) in
    let d : get_or others 3 no_requests ≡ counted (f 3) = ap counted (each 3 (omega arith)) in
    cc
