-- An answer's values stored where there is room. Assumes nothing.
use mathlib.Core.Path.{◌≡◌, sym, ap, ◌∙◌}
use mathlib.Core.List.{List, [], ◌∷◌, ◌++◌, append_assoc}
use Prim.Native.Nat.{ℕ, ◌≤◌, ◌<◌}
use native.Mathlib.Omega.{arith}
use lib.ListN.{length, get_or, set, drop, length-append}
use lib.Seq.{drop-cons, set_at}
use borrow.Author.Tests.{le-leb, lt-leb}
use Rattle.lists.specs.Lists.{over}
use Rattle.capi_values.specs.Storing.{stored}

pub stored-all : (vs values : List ℕ) → length vs ≤ length values → stored vs values ≡ over vs values
unfolding stored
stored-all vs values h = rw (le-leb (length vs) (length values) h, stored)

pub stored_short : (vs values : List ℕ) → length values < length vs → stored vs values ≡ values
unfolding stored
stored_short vs values h = rw (lt-leb (length vs) (length values) h, stored)

pub stored-none : (values : List ℕ) → stored [] values ≡ values
unfolding over
stored-none values = stored-all [] values (omega arith)

-- words, and one number after them
module _ (words values : List ℕ) (last : ℕ) (l : length words ≡ 40) where
  long : length (words ++ (last ∷ [])) ≡ 41
  long = omega (arith, length-append words (last ∷ []), l)

  pub last-short : length values < 41 → values ≡ stored (words ++ (last ∷ [])) values
  last-short h = sym (stored_short (words ++ (last ∷ [])) values (omega (arith, long)))

  pub last_stored : 41 ≤ length values → set (stored words values) 40 last ≡ stored (words ++ (last ∷ [])) values
  unfolding over
  last_stored h =
      ap (λ (r : List ℕ). set r 40 last) parted
      ∙ set_at words (get_or values 40 0) (drop 41 values) last 40 l
      ∙ sym (stored-all (words ++ (last ∷ [])) values (omega (arith, long)) ∙ rw long (append_assoc words (last ∷ []) (drop 41 values)))
    where
      parted : stored words values ≡ words ++ get_or values 40 0 ∷ drop 41 values
      parted = stored-all words values (omega (arith, l)) ∙ rw (l, drop-cons values 40 0 (omega arith))
