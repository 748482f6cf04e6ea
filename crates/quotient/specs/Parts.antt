-- What the functions of src/ are stated with: the parts of a table that they are lent. Assumes nothing.
use Rattle.std.specs.Prelude.{List, ℕ, ◌≤◌, length}
use Rattle.lists.specs.Lists.{filter}
use Rattle.limits.specs.Limits.{symbol_most}
use Rattle.table_spec.specs.File.{Table, records, of_states}
use Rattle.table_spec.specs.Maps.{classes}
use Rattle.table_view.specs.declared.Sections.{Sections}
use Rattle.check_matching.specs.Matching.{kept}
use Rattle.quotient_spec.specs.Quotient.{images}
use Rattle.quotient.specs.Classes.{class_bytes}
use Rattle.table_write.specs.Keys.{keys_of}
use Rattle.table_write.specs.Tables.{keyed_table}

-- parts no longer than the limits
pub record Sized (symbols internals calls returns : List ℕ) : Type 0 where
  pub symbols-few : length symbols ≤ symbol_most
  pub internals-few : length (records 3 internals) ≤ 1024
  pub calls-few : length (records 3 calls) ≤ 1024
  pub returns-few : length (records 4 returns) ≤ 4096

-- the keys of the images of a section's records: "the images of internals, calls and live returns"
abbrev pub image_keys : ℕ → List ℕ → List ℕ → List ℕ → List ℕ
image_keys w s f m = keys_of (images m (filter (kept f) (records w s)))

-- the quotient's table over the version and the parts
abbrev pub parted_quotient : ℕ → List ℕ → List ℕ → List ℕ → List ℕ → List ℕ → List ℕ → List ℕ → Table
parted_quotient version symbols states internals calls returns f m =
    keyed_table version symbols (class_bytes (of_states states) m (classes m)) (image_keys 3 internals f m) (image_keys 3 calls f m) (image_keys 4 returns f m)

-- the same of the sections of a table
abbrev pub SizedSections : Sections → Type 0
SizedSections s = Sized s.symbols.now s.internals.now s.calls.now s.returns.now

abbrev pub section_quotient : ℕ → Sections → List ℕ → List ℕ → Table
section_quotient version s = parted_quotient version s.symbols.now s.states.now s.internals.now s.calls.now s.returns.now
