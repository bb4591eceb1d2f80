use Rattle.report.proofs.digits.U64Text.+put.Given as goal

abbrev pub decreases-put : goal.decreases-put
decreases-put l = l.self.now
