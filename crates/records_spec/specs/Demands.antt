-- What the counts of records promise (document 02, request (vi)): "K equals the quotient's record count, N the input's, and N = K + F + D is proved
-- with each defined from the records." Assumes nothing.
use Rattle.std.specs.Prelude.{◌≡◌, Bool, ◌||◌, not, Result, List, ◌++◌, ℕ, ◌+◌, length, take, eqb}
use Rattle.lists.specs.Lists.{OnValues}
use Rattle.table_spec.specs.File.{Table, table_of}
use Rattle.tops_spec.specs.Tops.{top_words, live}
use Rattle.quotient_spec.specs.Quotient.{quotient_table, quotient_bytes}
use Rattle.records_spec.specs.declared.Counts.{Counts}
use Rattle.refusals.specs.declared.Refusal.{Refusal}
use Rattle.refusals.specs.Refusals.{number_in, values_in}
use Rattle.records_spec.specs.Fates.{section_fates, record_count, count_values}

-- where nothing is refused, of N, K, F and D
abbrev pub OnCounts : Result Counts Refusal → (ℕ → ℕ → ℕ → ℕ → Type 0) → Type 0
OnCounts r P = OnValues (number_in r) (values_in count_values r) (λ v. P (v 0) (v 1) (v 2) (v 3))

-- "N = K + F + D"
abbrev pub AddUp : Result Counts Refusal → Type 0
AddUp r = OnCounts r (λ n k f d. n ≡ k + f + d)

-- "K equals the quotient's record count": that of the quotient's table, and of the table that the written quotient's bytes hold
abbrev pub KeptAreQuotients : List ℕ → List ℕ → Result Counts Refusal → Type 0
KeptAreQuotients b m r = OnCounts r (λ n k f d. (k ≡ record_count (quotient_table (table_of b) m)) × (k ≡ record_count (table_of (quotient_bytes b m))))

-- "N the input's"
abbrev pub AllAreInputs : List ℕ → Result Counts Refusal → Type 0
AllAreInputs b r = OnCounts r (λ n k f d. n ≡ record_count (table_of b))

-- "Dead means a dead return": a record of 4 bytes that is not live
unfoldable pub not_dead : Table → List ℕ → Bool
not_dead t r = not (eqb (length r) 4) || live (top_words t) r

-- the fates where "an earlier one" is any earlier record of the file, whatever its section
unfoldable pub whole_fates : Table → List ℕ → List ℕ
whole_fates t m = section_fates (not_dead t) m (t.internals ++ (t.calls ++ t.returns))

-- "one byte a record in file order": by the earlier records of the whole file
abbrev pub ByWholeFile : List ℕ → List ℕ → Result Counts Refusal → List ℕ → Type 0
ByWholeFile b m r out = OnCounts r (λ n k f d. take n out ≡ whole_fates (table_of b) m)

-- all of it, of one answer and the output at exit
pub record Promises (b m : List ℕ) (r : Result Counts Refusal) (out : List ℕ) : Type 0 where
  pub counts : AddUp r
  pub kept : KeptAreQuotients b m r
  pub all : AllAreInputs b r
  pub earlier : ByWholeFile b m r out
