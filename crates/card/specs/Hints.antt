-- Reads without a hint, which a trace tells as priority 0.
use Rattle.std.specs.Prelude.{cond, List, map, eqb}
use Rattle.terms.specs.Reads.{Read, read_of}

-- the same read with 0 written as 1
abbrev pub hinted : Read → Read
hinted r = read_of r.volume r.block (cond (eqb r.priority 0) 1 r.priority)

-- the same reads with every 0 written as 1
abbrev pub all_hinted : List Read → List Read
all_hinted rs = map hinted rs
