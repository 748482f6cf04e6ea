-- The classes of a map (document 01: "class numbers, each at most one above the largest before it, the first 0"): each class below the count
-- has a member. Assumes nothing.
use mathlib.Core.Path.{◌≡◌, sym}
use mathlib.Core.Logic.{◌⊎◌, inl, inr}
use mathlib.Core.Bool.{true}
use mathlib.Core.List.{List, [], ◌∷◌}
use Prim.Native.Nat.{ℕ, suc, ◌≤◌, ◌<◌, max}
use native.Mathlib.Omega.{arith}
use native.Mathlib.Decide.{ℕ_discrete, dec_lt}
use lib.ListN.{length}
use lib.Dec.{leb}
use borrow.Author.Tests.{leb-true}
use Rattle.lists.proofs.Members.{and-true}
use Rattle.table_spec.specs.Maps.{class_of, classes, numbered_from, numbered}

-- a state of class c
pub record Member (m : List ℕ) (c : ℕ) : Type 0 where
  pub state : ℕ
  pub within : state < length m
  pub class : class_of m state ≡ c

member_from : (next : ℕ) (m : List ℕ) → numbered_from next m ≡ true → (c : ℕ) → c < classes m → (c < next) ⊎ Member m c
unfolding numbered_from classes
member_from next [] e c h = absurd (omega arith)
member_from next (x ∷ m) e c h = go (dec_lt c next) (ℕ_discrete c x) (leb-true x next (and-true _ _ e).0) (member_from (max next (suc x)) m (and-true (leb x next) _ e).1 c)
  where
    on : (c < next → ⊥) → (c < max next (suc x)) ⊎ Member m c → (c ≡ x → ⊥) → x ≤ next → (c < next) ⊎ Member (x ∷ m) c
    on k (inl l) d b = absurd (omega arith)
    on k (inr s) d b = inr (record { state = suc s.state; within = omega (arith, s.within); class = s.class })

    go : Dec (c < next) → Dec (c ≡ x) → x ≤ next → (c < classes m → (c < max next (suc x)) ⊎ Member m c) → (c < next) ⊎ Member (x ∷ m) c
    go (yes l) d b ih = inl l
    go (no l) (yes k) b ih = inr (record { state = 0; within = omega arith; class = sym k })
    go (no l) (no k) b ih = on l (ih (omega arith)) k b

pub class_member : (m : List ℕ) → numbered m ≡ true → (c : ℕ) → c < classes m → Member m c
unfolding numbered
class_member m e c h = go (member_from 0 m e c h)
  where
    go : (c < 0) ⊎ Member m c → Member m c
    go (inl l) = absurd (omega arith)
    go (inr s) = s
