-- The numbers of a case as the code reads them. Assumes nothing.
use mathlib.Core.Path.{◌≡◌, sym, ap, ◌∙◌}
use mathlib.Core.List.{List, map, append-nil}
use Prim.Native.Nat.{ℕ, ◌+◌, ◌*◌, ◌/◌, ◌<◌, ◌≤◌}
use native.Mathlib.Omega.{arith}
use lib.ListN.{length, get_or, take, length-map, length-take, drop_of_length-le}
use lib.Seq.{get_or-take}
use borrow.Author.Tests.{le-leb, lt-leb}
use Rattle.lists.specs.Lists.{upto, over}
use Rattle.lists.proofs.Members.{get_d_map, length-upto, get_d_upto}
use Rattle.table_spec.specs.File.{word16}
use Rattle.cases.specs.Numbers.{word_at, long_at, words_in, longs_in}

module _ (b : List ℕ) (i : ℕ) where
  pub word-past : length b < i + 2 → 0 ≡ word_at b i
  unfolding word_at
  word-past h = sym (rw (lt-leb (i + 2) (length b) h, word_at))

  pub word-there : i + 2 ≤ length b → get_or b i 0 + 256 * get_or b (i + 1) 0 ≡ word_at b i
  unfolding word_at word16
  word-there h = sym (rw (le-leb (i + 2) (length b) h, word_at))

-- what a rule gives for each number below k
length-each : (f : ℕ → ℕ) (k : ℕ) → length (map f (upto k)) ≡ k
length-each f k = length-map (upto k) f ∙ length-upto k

each_at : (f : ℕ → ℕ) (k i : ℕ) → i < k → get_or (map f (upto k)) i 0 ≡ f i
each_at f k i h = get_d_map f (upto k) i 0 0 (omega (arith, length-upto k)) ∙ ap f (get_d_upto k i 0 h)

module _ (b : List ℕ) (n : ℕ) where
  pub words_long : length (take n (words_in b)) ≤ n
  words_long = simp length-take (omega arith)

  pub words-all : (i : ℕ) → i < n → i < length b / 2 → i < length (take n (words_in b))
  unfolding words_in
  words-all i h k = simp length-take (omega (arith, length-each (λ j. word_at b (2 * j)) (length b / 2)))

  pub words_end : (i : ℕ) → length b / 2 ≤ i → length (take n (words_in b)) ≤ i
  unfolding words_in
  words_end i h = simp length-take (omega (arith, length-each (λ j. word_at b (2 * j)) (length b / 2)))

  pub word_of : (i : ℕ) → i < n → i < length b / 2 → word_at b (2 * i) ≡ get_or (take n (words_in b)) i 0
  unfolding words_in
  word_of i h k = sym (get_or-take n (words_in b) i 0 h ∙ each_at (λ j. word_at b (2 * j)) (length b / 2) i k)

module _ (b : List ℕ) (k : ℕ) where
  pub longs_long : length (longs_in k b) ≡ k
  unfolding longs_in
  longs_long = length-each (λ j. long_at b (8 * j)) k

  pub long_of : (i : ℕ) → i < k → long_at b (8 * i) ≡ get_or (longs_in k b) i 0
  unfolding longs_in
  long_of i h = sym (each_at (λ j. long_at b (8 * j)) k i h)

  -- over as many numbers as there are
  pub longs_whole : (old : List ℕ) → length old ≤ k → over (longs_in k b) old ≡ longs_in k b
  unfolding over
  longs_whole old h = rw (drop_of_length-le old {i = length (longs_in k b)} (omega (arith, longs_long))) (append-nil (longs_in k b))
