-- What the functions of src/ are stated with: a table that was read, by its parts. Assumes nothing.
use Rattle.std.specs.Prelude.{◌≡◌, Bool, List, [], ◌∷◌, ℕ, length, eqb}
use Rattle.limits.specs.declared.Limits.{Limits}
use Rattle.table_spec.specs.File.{records, table_of, of_states}
use Rattle.table_spec.specs.Reading.{Readable}
use Rattle.table_spec.specs.Maps.{numbered}
use Rattle.table_spec.specs.declared.Starts.{Starts}
use Rattle.table_view.specs.Sections.{ReadAs}
use Rattle.table_view.specs.declared.Sections.{Sections}
use Rattle.tops_spec.specs.Tops.{top_words}
use Rattle.check_matching.specs.Matching.{records_matched, Lent}
use Rattle.check_spec.specs.Check.{labels_agree}

-- P at all limits that the bytes are readable at
abbrev pub WhereReadable : List ℕ → (Limits → Type 0) → Type 0
WhereReadable b P = (L : Limits) → Readable L b → P L

-- "the lent bytes together with its five section starts", at whatever limits they were read, and the table's top words
pub record Known (b : List ℕ) (s : Starts) (f : List ℕ) : Type 0 where
  pub limits : Limits
  pub read : ReadAs limits b s
  pub words : f ≡ top_words (table_of b)

-- what its parts are
pub record Parted (states internals calls returns : List ℕ) : Type 0 where
  pub internals-lent : Lent 3 internals (length states)
  pub calls-lent : Lent 3 calls (length states)
  pub returns-lent : Lent 4 returns (length states)

-- 15 to 20, over the parts
unfoldable pub part_tests : List ℕ → List ℕ → List ℕ → List ℕ → List ℕ → List ℕ → List (ℕ × Bool)
part_tests states internals calls returns f m =
    (15, eqb (length m) (length states))
    ∷ (16, numbered m)
    ∷ (17, labels_agree (of_states states) m)
    ∷ (18, records_matched 3 f (records 3 internals) (length states) m)
    ∷ (19, records_matched 3 f (records 3 calls) (length states) m)
    ∷ (20, records_matched 4 f (records 4 returns) (length states) m)
    ∷ []

-- the same of the sections of a table
abbrev pub PartedSections : Sections → Type 0
PartedSections s = Parted s.states.now s.internals.now s.calls.now s.returns.now

abbrev pub section_tests : Sections → List ℕ → List ℕ → List (ℕ × Bool)
section_tests s = part_tests s.states.now s.internals.now s.calls.now s.returns.now
