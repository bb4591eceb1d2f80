use Rattle.std.proofs.Common.{◌≡◌, ◌+◌, ◌-◌, Bor, Some, None, List, ℕ, Option, length, take, drop, sym, subst, ◌∙◌}
use Rattle.std.specs.Option.{option_map}
use Rattle.rehearse.specs.Cutting.{Cuts}
use Rattle.rehearse.proofs.Cuts.{cut_last, cut_more}
use Rattle.rehearse.proofs.pieces.PiecesIterator.next.Goals as goal

pub returns-in-Some-clause-steps : goal.returns-in-Some-clause-steps
returns-in-Some-clause-steps c =
    let text = c.in_ok-text.text.now in
    let n = c.in-Some.end in
    let is : c.args.self.now.rest ≡ Some c.in_ok-text.text = cc in
    subst (λ (o : Option (Bor (List ℕ))). Cuts c.args.self.now.mark (option_map (λ x. x.now) o) (Some (take n text)) (Some (take (length text - (n + 1)) (drop (n + 1) text)))) (sym is)
    (cut_more c.args.self.now.mark text n (sym c.first_mark.ensures ∙ c.in-Some.is))

pub returns-in-None-clause-steps : goal.returns-in-None-clause-steps
returns-in-None-clause-steps c =
    let is : c.args.self.now.rest ≡ Some c.in_ok-text.text = cc in
    subst (λ (o : Option (Bor (List ℕ))). Cuts c.args.self.now.mark (option_map (λ x. x.now) o) (Some c.in_ok-text.text.now) None) (sym is)
    (cut_last c.args.self.now.mark c.in_ok-text.text.now (sym c.first_mark.ensures ∙ c.in-None.is))
