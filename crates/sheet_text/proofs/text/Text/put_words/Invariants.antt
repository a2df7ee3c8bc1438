use lib.ListN.{take}
use Rattle.sheet_text.specs.Writing.{Takes}
use Rattle.sheet_text.proofs.text.Text.put_words.Given as goal

-- the words so far are put in
abbrev pub invariant-loop-byte : goal.invariant-loop-byte
invariant-loop-byte l = Takes l.initial.self l.self (take l.byte-index l.words)
