-- Allocations, one entry more at a time. Assumes nothing.
use Rattle.std.proofs.Common.{◌≡◌, ℕ, suc, ◌+◌, ◌-◌, ◌<◌, ◌≤◌, List, [], ◌∷◌, ◌++◌, map, length, get_or, take, set, replicate, None, Option, sym, ap, ◌∙◌, append_assoc, arith}
use Rattle.std.proofs.lemmas.List.{map_more, set_at, length-map, length-take-le}
use Rattle.terms.specs.Cores.{numbered}
use Rattle.terms.specs.declared.cores.Core.{Core}
use Rattle.plan.specs.Adoption.{laid}

-- one entry more is laid
pub laid_more : (entries : List ℕ) (k : ℕ) → k < length entries → length entries ≤ 16 → set (laid (take k entries)) k (numbered (get_or entries k 0)) ≡ laid (take (k + 1) entries)
laid_more entries k within few =
    let front = map numbered (take k entries) in
    let long : length (take k entries) ≡ k = length-take-le k entries (omega arith) in
    let next : length (take (k + 1) entries) ≡ k + 1 = length-take-le (k + 1) entries (omega arith) in
    let left = replicate {A = Option Core} (16 - length (take (k + 1) entries)) None in
    let room : 16 - length (take k entries) ≡ suc (16 - length (take (k + 1) entries)) = omega arith in
    ap (λ n. set (front ++ replicate n None) k (numbered (get_or entries k 0))) room
    ∙ set_at front None left (numbered (get_or entries k 0)) k (length-map (take k entries) numbered ∙ long)
    ∙ sym (append_assoc front (numbered (get_or entries k 0) ∷ []) left)
    ∙ ap (λ xs. xs ++ left) (sym (map_more numbered entries k 0 within))
