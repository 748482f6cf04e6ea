-- A file's version, and the limit of its state bytes (document 02, (v)): what the tests say, and each way in which the code comes to them.
-- Assumes nothing.
use mathlib.Core.Path.{◌≡◌, sym}
use mathlib.Core.Logic.{◌⊎◌, inl, inr}
use mathlib.Core.Bool.{Bool, true, false}
use Prim.Native.Nat.{ℕ, ◌+◌, ◌*◌, ◌/◌, ◌≤◌}
use native.Mathlib.Omega.{arith}
use lib.Dec.{eqb}
use borrow.Author.Tests.{eqb-true, eq-eqb, ne_eqb}
use Rattle.lists.proofs.Members.{or-true}
use Rattle.table_spec.specs.Reading.{version_fits, state_byte_most}

-- ---- 2: version 1 or 2

pub version-small : {v : ℕ} → version_fits v ≡ true → v ≤ 2
unfolding version_fits
version-small {v} e = go (or-true (eqb v 1) (eqb v 2) e)
  where
    go : (eqb v 1 ≡ true) ⊎ (eqb v 2 ≡ true) → v ≤ 2
    go (inl h) = omega (arith, eqb-true v 1 h)
    go (inr h) = omega (arith, eqb-true v 2 h)

-- ---- 5: the limit of a state byte

pub other-most : {v : ℕ} → (v ≡ 2 → ⊥) → 3 ≡ state_byte_most v
unfolding state_byte_most
other-most {v} n = sym (rw (ne_eqb v 2 n, state_byte_most))

pub byte_most : (v : ℕ) → state_byte_most v ≤ 63
unfolding state_byte_most
byte_most v = go (eqb v 2)
  where
    go : (t : Bool) → elim t as (λ _. ℕ) [ true ↦ 63 | false ↦ 3 ] ≤ 63
    go true = omega arith
    go false = omega arith

-- whether a byte is within the limit is told by its mark
pub mark-within : (v x : ℕ) → x ≤ state_byte_most v → 4 * (x / 4) + 3 ≤ state_byte_most v
unfolding state_byte_most
mark-within v x = go (eqb v 2)
  where
    go : (t : Bool) → x ≤ elim t as (λ _. ℕ) [ true ↦ 63 | false ↦ 3 ] → 4 * (x / 4) + 3 ≤ elim t as (λ _. ℕ) [ true ↦ 63 | false ↦ 3 ]
    go true h = omega arith
    go false h = omega arith
