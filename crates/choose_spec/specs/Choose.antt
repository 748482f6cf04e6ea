-- Two maps on the desk (document 02, request (xiv)). Assumes nothing.
use Rattle.std.specs.Prelude.{Bool, true, false, Option, Some, None, Result, Ok, Err, List, [], ◌∷◌, ℕ, leb}
use Rattle.std.specs.Borrow.{Bor}
use Rattle.lists.specs.Lists.{first_failed, stage, Says}
use Rattle.limits.specs.declared.Limits.{Limits}
use Rattle.refusals.specs.declared.Refusal.{Refusal}
use Rattle.refusals.specs.Refusals.{refusal, number_in, values_in}
use Rattle.table_spec.specs.Reading.{read_number}
use Rattle.check_spec.specs.Check.{check_of}
use Rattle.choose_spec.specs.declared.Which.{Which}
use Rattle.choose_spec.specs.declared.Which.TheVariants.{First, Second}

-- "that one of the two lent maps which the check accepts. If both pass, the one with fewer classes comes back, the first when equal."
unfoldable pub pick : Result ℕ Refusal → Result ℕ Refusal → Option Which
pick (Ok c) (Ok d) = Some (elim (leb c d) [ true ↦ First | false ↦ Second ])
pick (Ok c) (Err l) = Some First
pick (Err k) (Ok d) = Some Second
pick (Err k) (Err l) = None

-- which of the maps m and n of the table b
unfoldable pub which_of : Limits → List ℕ → List ℕ → List ℕ → Option Which
which_of L b m n = pick (check_of L b m) (check_of L b n)

-- some map was picked
unfoldable pub some : Option Which → Bool
some None = false
some (Some w) = true

-- "39 and the table's refusals, then 40 exactly when the check accepts neither map"; or 0
unfoldable pub choose_number : Limits → List ℕ → List ℕ → List ℕ → ℕ
choose_number L b m n = first_failed (stage (read_number L b) ∷ (40, some (which_of L b m n)) ∷ [])

-- which map, or the refusal of the number
unfoldable pub choice_of : Limits → List ℕ → List ℕ → List ℕ → Result Which Refusal
choice_of L b m n = elim (which_of L b m n) [ None ↦ Err (refusal (choose_number L b m n)) | Some w ↦ Ok w ]

-- an answer's values: 1 or 2, which map
abbrev pub which_values : Which → List ℕ
which_values First = 1 ∷ []
which_values Second = 2 ∷ []

-- those of what was picked
unfoldable pub picked_values : Option Which → List ℕ
picked_values None = []
picked_values (Some w) = which_values w

-- the answer by its number and its values
abbrev pub DecideSays : Limits → List ℕ → List ℕ → List ℕ → Result Which Refusal → Type 0
DecideSays L b m n r = Says (number_in r) (values_in which_values r) (choose_number L b m n) (picked_values (which_of L b m n))

-- a lent slice: the place where it starts, and the bytes from there on
pub record Slice : Type 0 where
  pub place : ℕ × ℕ
  pub bytes : List ℕ

abbrev pub slice_of : Bor (List ℕ) → Slice
slice_of x = record { place = x.ref_ptr; bytes = x.now }

-- "What is handed back is the lent map itself, whole", and "with any refusal .. the empty part of the first map"
unfoldable pub handed : Option Which → Slice → Slice → Slice
handed None s t = record { place = s.place; bytes = [] }
handed (Some First) s t = s
handed (Some Second) s t = t

-- the operation
unfoldable pub choose_of : Limits → List ℕ → Slice → Slice → Slice
choose_of L b s t = handed (which_of L b s.bytes t.bytes) s t
