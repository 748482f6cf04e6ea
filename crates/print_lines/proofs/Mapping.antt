-- Laws for the map's line: the classes of the states, one after the other. Assumes nothing.
use mathlib.Core.Path.{◌≡◌, sym, ap, ◌∙◌}
use mathlib.Core.List.{List, [], ◌∷◌, ◌++◌, append_assoc, append-nil}
use Prim.Native.Nat.{ℕ, ◌+◌, ◌*◌, ◌≤◌, ◌<◌}
use native.Mathlib.Numerals.{add-one}
use native.Mathlib.Omega.{arith}
use lib.ListN.{length, get_or, take}
use lib.Seq.{take-suc, take_all}
use Rattle.print_spec.specs.Lines.{Put, decimal_text, numbers_text, map_name, map_text}
use Rattle.print_lines.proofs.Putting.{put_none, put_on, put_same}

numbers-snoc : (xs : List ℕ) (x : ℕ) → numbers_text (xs ++ (x ∷ [])) ≡ numbers_text xs ++ ((32 ∷ []) ++ decimal_text x)
unfolding numbers_text
numbers-snoc [] x = append-nil ((32 ∷ []) ++ decimal_text x)
numbers-snoc (y ∷ xs) x = ap (λ z. (32 ∷ []) ++ decimal_text y ++ z) (numbers-snoc xs x) ∙ sym (append_assoc ((32 ∷ []) ++ decimal_text y) (numbers_text xs) ((32 ∷ []) ++ decimal_text x))

-- the classes of the states before q are put
pub record Mapping (m old new : List ℕ) (at to q : ℕ) : Type 0 where
  pub inside : q ≤ length m
  pub few : to ≤ at + 21 * q
  pub told : Put (numbers_text (take q m)) at old to new

pub mapping : (m old : List ℕ) (at : ℕ) → at ≤ length old → Mapping m old old at at 0
unfolding numbers_text
mapping m old at h = record { inside = omega arith; few = omega arith; told = put_none at old h }

module _ {m old new : List ℕ} {at to q : ℕ} (w : Mapping m old new at to q) where
  pub map_on : {new' : List ℕ} {r : ℕ} {x : ℕ} → q < length m → x ≡ get_or m q 0 → Put ((32 ∷ []) ++ decimal_text x) to new r new' → r ≤ to + 1 + 20 → Mapping m old new' at r (q + 1)
  map_on {x = x} h e p f = record {
    inside = omega arith;
    few = omega (arith, w.few);
    told =
        put_same (sym (numbers-snoc (take q m) x) ∙ ap (λ z. numbers_text (take q m ++ (z ∷ []))) e ∙ ap numbers_text (sym (take-suc m q 0 h) ∙ ap (λ n. take n m) (sym (add-one q)))) (put_on w.told p);
  }

  pub mapped : {a new' : List ℕ} {from r : ℕ} → length m ≤ q → Put map_name from a at old → Put (10 ∷ []) to new r new' → Put (map_text m) from a r new'
  unfolding map_text
  mapped h f p = put_on (put_on f (put_same (ap numbers_text (take_all q m h)) w.told)) p
