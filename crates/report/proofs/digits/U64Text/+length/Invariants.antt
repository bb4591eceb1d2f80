use Rattle.report.proofs.digits.U64Text.+length.Given as goal

abbrev pub decreases-length : goal.decreases-length
decreases-length l = l.self.now
