-- The product is small.
use native.Mathlib.Omega.{arith}
use Rattle.engine.proofs.Widths.{size_small}
use Rattle.engine.proofs.rows.stretches_length.Goals as goal

pub overflow_mul-result : goal.overflow_mul-result
overflow_mul-result c = omega (arith, size_small _ c.requires)

pub overflow_add-result : goal.overflow_add-result
overflow_add-result c = omega (arith, size_small _ c.requires)
