-- What choosing promises (document 02, request (xiv)). Assumes nothing.
use Rattle.std.specs.Prelude.{◌≡◌, ◌↔◌, ◌⊎◌, Result, List, [], ℕ, ◌≤◌, length}
use Rattle.std.specs.Borrow.{Bor}
use Rattle.limits.specs.declared.Limits.{Limits}
use Rattle.refusals.specs.declared.Refusal.{Refusal}
use Rattle.refusals.specs.Refusals.{number_in, values_in}
use Rattle.table_spec.specs.Reading.{Readable}
use Rattle.table_spec.specs.Maps.{classes}
use Rattle.check_spec.specs.Check.{check_of}
use Rattle.check_spec.specs.Demands.{IsAccepted}
use Rattle.choose_spec.specs.declared.Which.{Which}
use Rattle.choose_spec.specs.Choose.{choose_number, which_values, Slice, choose_of}

-- the check accepts a map
abbrev pub Passes : Limits → List ℕ → List ℕ → Type 0
Passes L b m = IsAccepted (check_of L b m)

-- the map x is handed back for the maps s and t
pub record Chosen (L : Limits) (b : List ℕ) (s t x : Bor (List ℕ)) : Type 0 where
  -- "What is handed back is the lent map itself": one of the two references, not a copy
  pub itself : (x ≡ s) ⊎ (x ≡ t)
  -- "which the check accepts"
  pub passes : Passes L b x.now
  -- "the one with fewer classes"
  pub fewest_first : Passes L b s.now → classes x.now ≤ classes s.now
  pub fewest_second : Passes L b t.now → classes x.now ≤ classes t.now
  -- "the first when equal"
  pub first : Passes L b s.now → classes s.now ≤ classes t.now → x ≡ s
  -- so that an empty part is handed back only with a refusal
  pub filled : 1 ≤ length x.now

-- "40 exactly when the check accepts neither map", of a table that is readable
abbrev pub NeitherPasses : Limits → List ℕ → List ℕ → List ℕ → ℕ → Type 0
NeitherPasses L b m n k = (k ≡ 40) ↔ (Readable L b × (Passes L b m → ⊥) × (Passes L b n → ⊥))

-- "0 when a map is handed back": a value says which
abbrev pub NumberTells : Result Which Refusal → Type 0
NumberTells r = (number_in r ≡ 0) ↔ (values_in which_values r ≡ [] → ⊥)

-- "The refusal's number, 0 when a map is handed back": of the number k and of what is handed back for s and t, a map or else an empty part
abbrev pub ZeroTells : Limits → List ℕ → Slice → Slice → ℕ → Type 0
ZeroTells L b s t k = (k ≡ 0) ↔ (1 ≤ length (choose_of L b s t).bytes)

-- where the number is 0, the map x is handed back for the maps s and t; "with any refusal .. the empty part of the first map"
pub record HandedBack (L : Limits) (b : List ℕ) (s t x : Bor (List ℕ)) : Type 0 where
  pub chosen : choose_number L b s.now t.now ≡ 0 → Chosen L b s t x
  pub empty : (choose_number L b s.now t.now ≡ 0 → ⊥) → (x.ref_ptr ≡ s.ref_ptr) × (x.now ≡ [])
