use Rattle.trace.proofs.number.+number_from.Given as goal

-- so many bytes may still come before the last
abbrev pub decreases-number_from : goal.decreases-number_from
decreases-number_from l = l.left
