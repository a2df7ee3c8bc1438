use Rattle.sheet_text.proofs.text.Text.+put_number.Given as goal

-- a number is its tenth and one more digit
abbrev pub decreases-put_number : goal.decreases-put_number
decreases-put_number l = l.n
