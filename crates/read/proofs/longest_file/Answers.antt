-- `read::longest_file` meets its contract. Assumes nothing.
use native.Mathlib.Omega.{arith}
use Rattle.read.proofs.Numbers.{long_file, file_within}
use Rattle.read.proofs.longest_file.Goals as goal

pub overflow_add-result : goal.overflow_add-result
overflow_add-result c = omega (arith, file_within _ c.requires)

pub overflow_add-result-2 : goal.overflow_add-result-2
overflow_add-result-2 c = omega (arith, file_within _ c.requires)

pub returns : goal.returns
returns c = long_file _
