-- What is asked of a map inside. Assumes nothing.
use Rattle.std.specs.Prelude.{List, ℕ, ◌<◌}
use Rattle.table_spec.specs.Maps.{class_of}

-- every class has one of the 40 sums
abbrev pub FewClasses : List ℕ → Type 0
FewClasses m = (q : ℕ) → class_of m q < 40
