-- What a load promises (document 02, request (x)): "The file equals this description byte for byte and is always readable." Assumes nothing.
use Rattle.std.specs.Prelude.{◌≡◌, Result, List, ℕ, take}
use Rattle.limits.specs.declared.Limits.{Limits}
use Rattle.table_spec.specs.File.{table_of}
use Rattle.table_spec.specs.Reading.{Readable}
use Rattle.quotient_spec.specs.Demands.{OnWriting}
use Rattle.refusals.specs.declared.Refusal.{Refusal}
use Rattle.generate_spec.specs.Loads.{Load, described}

-- "is always readable", at the limits in force
abbrev pub WritesReadable : Limits → Result ℕ Refusal → List ℕ → Type 0
WritesReadable L r out = OnWriting r (λ n. Readable L (take n out))

-- the table that the file holds is the one described
abbrev pub WritesDescribed : Load → Result ℕ Refusal → List ℕ → Type 0
WritesDescribed g r out = OnWriting r (λ n. table_of (take n out) ≡ described g)

-- all of it, of one load
pub record Promises (L : Limits) (g : Load) (r : Result ℕ Refusal) (out : List ℕ) : Type 0 where
  pub readable : WritesReadable L r out
  pub described : WritesDescribed g r out
