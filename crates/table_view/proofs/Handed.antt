-- What an answer of reading says, for callers: the bytes are readable and the starts are theirs, or which refusal they get. Assumes nothing.
use mathlib.Core.Path.{◌≡◌}
use mathlib.Core.List.{List}
use Prim.Native.Nat.{ℕ}
use Rattle.std.specs.Prelude.{Ok, Err}
use Rattle.limits.specs.declared.Limits.{Limits}
use Rattle.refusals.specs.declared.Refusal.{Refusal}
use Rattle.refusals.specs.Refusals.{number_of}
use Rattle.refusals.proofs.Numbers.{was_ok, was_refused}
use Rattle.table_spec.specs.Reading.{read_number, starts_of, read_of}
use Rattle.table_spec.specs.declared.Starts.{Starts}
use Rattle.table_spec.proofs.Passed.{read-known}
use Rattle.table_view.specs.Sections.{ReadAs}

pub read_as : (L : Limits) (b : List ℕ) (s : Starts) → read_of L b ≡ Ok s → ReadAs L b s
unfolding read_of
read_as L b s e = let w = was_ok (starts_of b) e in record { readable = w.0; starts = w.1 }

pub read_refused : (L : Limits) (b : List ℕ) (r : Refusal) → read_of L b ≡ Err r → read_number L b ≡ number_of r
unfolding read_of
read_refused L b r e = was_refused (starts_of b) (read-known L b) e
