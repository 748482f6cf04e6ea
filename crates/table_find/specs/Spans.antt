-- The records of a section that start with a key stand one after the other: from the first that does not stand before the key, as many as start
-- with it. Assumes nothing.
use Rattle.std.specs.Prelude.{◌≡◌, Bool, true, false, List, [], ◌∷◌, ℕ, suc, ◌+◌, length, take, drop}
use Rattle.lists.specs.Lists.{same, filter}
use Rattle.table_spec.specs.File.{records}
use Rattle.table_spec.specs.Reading.{before, ascend}
use Rattle.table_find.specs.Keys.{Keyed, ByKey}

-- the index of the first record that does not stand before the key; their count where there is none
unfoldable pub first_at : List (List ℕ) → List ℕ → ℕ
first_at [] key = 0
first_at (r ∷ rs) key = elim (before r key) [ true ↦ suc (first_at rs key) | false ↦ 0 ]

-- the record starts with the key
unfoldable pub starts_with : List ℕ → List ℕ → Bool
starts_with key r = same key (take (length key) r)

-- how many records start with the key before the first that does not
unfoldable pub leading : List (List ℕ) → List ℕ → ℕ
leading [] key = 0
leading (r ∷ rs) key = elim (starts_with key r) [ true ↦ suc (leading rs key) | false ↦ 0 ]

-- the index after the last record that starts with the key
unfoldable pub end_at : List (List ℕ) → List ℕ → ℕ
end_at rs key = first_at rs key + leading (drop (first_at rs key) rs) key

-- ---- of a section s of records of width w, by the number n of a key

-- r is the first record at or after the key, where the records ascend
abbrev pub FirstOf : ℕ → List ℕ → ℕ → ℕ → Type 0
FirstOf w s n r = (k : List ℕ) → Keyed w k n → ascend (records w s) ≡ true → r ≡ first_at (records w s) k

-- r is after those that start with the key from a record on
abbrev pub LastFrom : ℕ → List ℕ → ℕ → ℕ → ℕ → Type 0
LastFrom w s n from r = ByKey w n r (λ k. from + leading (drop from (records w s)) k)

-- a part has the records that start with the key, where the records ascend
abbrev pub StartingOf : ℕ → List ℕ → ℕ → List ℕ → Type 0
StartingOf w s n part = (k : List ℕ) → Keyed w k n → ascend (records w s) ≡ true → records w part ≡ filter (starts_with k) (records w s)
