-- Bytes and tables (document 01, "The table file"): readable bytes are the bytes of their table, and the bytes of a well-formed table are
-- readable and hold it. General over the limits. Assumes nothing.
use mathlib.Core.Path.{◌≡◌, refl, sym, ap, ◌∙◌}
use mathlib.Core.Bool.{true, true≢false}
use mathlib.Core.List.{List, [], ◌∷◌, ◌++◌, append_assoc, append-nil, Memᴰ}
use Prim.Native.Nat.{ℕ, zero, suc, ◌+◌, ◌-◌, ◌*◌, ◌/◌, ◌%◌, ◌≤◌, ◌<◌}
use native.Mathlib.Nat.{add-zero, add_assoc, mul-suc, add-mul-div_left, add-mul-mod_self_left, mod-eq_of_lt, div-eq_of_lt, zero-add, suc-add, div-mul-le_self, div-add-mod', mul-div_cancel}
use native.Mathlib.Numerals.{add-one, add-two}
use native.Mathlib.Omega.{arith}
use lib.ListN.{length, get_or, take, drop, length-append, take-append-drop, drop_of_length-le}
use lib.Seq.{slice, length-slice, drop-cons, take-take, take-append_seam, drop-append_seam, get_or-append-add, take-append-add}
use lib.Dec.{ltb}
use borrow.Author.Tests.{ltb-true}
use Rattle.lists.specs.Lists.{all, concat, concat_map, first_failed}
use Rattle.lists.proofs.Members.{and-true, all_true}
use Rattle.lists.proofs.Parts.{length-parts, parts-wide, concat-parts, length-concat, parts-concat}
use Rattle.limits.proofs.Within.{Within, limits-within}
use Rattle.limits.specs.declared.Limits.{Limits}
use Rattle.table_spec.specs.Limits.{longest}
use Rattle.table_spec.specs.File.{Table, word16, trailer, distance, version, start, records, table_of, bytes16, from_returns, from_calls, from_internals, from_states, from_symbols, trailer_of, bytes_of}
use Rattle.table_spec.specs.Reading.{version_fits, record_fits, table_tests, Readable, WellFormed}
use Rattle.table_spec.proofs.Versions.{version-small, byte_most}
use Rattle.table_spec.proofs.Passed.{ReadPasses, read-passed, passed-read, Wide, Tested, tests_passed, formed-wide, formed_tested, formed_of}

-- every element is a byte
abbrev pub Bytes : List ℕ → Type 0
Bytes b = (i : ℕ) → get_or b i 0 < 256

-- ---- 16-bit words

-- a word's two bytes
word_bytes : (b : List ℕ) → Bytes b → (i : ℕ) → bytes16 (word16 b i) ≡ get_or b i 0 ∷ get_or b (i + 1) 0 ∷ []
unfolding bytes16 word16
word_bytes b h i =
    let k = h i in
    let l = h (i + 1) in
    let low : (get_or b i 0 + 256 * get_or b (i + 1) 0) % 256 ≡ get_or b i 0 = add-mul-mod_self_left (get_or b i 0) 256 (get_or b (i + 1) 0) ∙ mod-eq_of_lt k in
    let high : (get_or b i 0 + 256 * get_or b (i + 1) 0) / 256 % 256 ≡ get_or b (i + 1) 0 = rw (add-mul-div_left (get_or b i 0) (get_or b (i + 1) 0) {y = 256} (omega arith), div-eq_of_lt k, zero-add, mod-eq_of_lt l) in
    λ j. low j ∷ high j ∷ []

-- a word after a part of the file
word-behind : (p g : List ℕ) (n : ℕ) → word16 (p ++ g) (length p + n) ≡ word16 g n
unfolding word16
word-behind p g n = rw (add_assoc, get_or-append-add p g n 0, get_or-append-add p g (n + 1) 0)

-- word k of words written one after the other
word_gathered : (ds : List ℕ) (k : ℕ) → k < length ds → get_or ds k 0 < 65536 → word16 (concat_map bytes16 ds) (2 * k) ≡ get_or ds k 0
unfolding word16 bytes16
word_gathered [] k l h = absurd (omega arith)
word_gathered (d ∷ ds) zero l h = omega arith
word_gathered (d ∷ ds) (suc k) l h = rw (mul-suc 2 k, add-two, suc-add, suc-add) (word_gathered ds k (omega arith) h)

-- the bytes of a list from one of its places on, by the word that stands there
bytes_on : (b : List ℕ) → Bytes b → (i : ℕ) → i + 2 ≤ length b → drop i b ≡ bytes16 (word16 b i) ++ drop (i + 2) b
bytes_on b h i l =
    let one : i < length b = omega arith in
    let two : suc i < length b = omega arith in
    rw (word_bytes b h i, drop-cons b i 0 one, drop-cons b (suc i) 0 two, add-one i, add-two i)

-- ---- slices

-- two slices that meet
drop_join : (f m : ℕ) (b : List ℕ) → f ≤ m → drop f (take m b) ++ drop m b ≡ drop f b
drop_join zero m b h = take-append-drop m b
drop_join (suc f) zero b h = absurd (omega arith)
drop_join (suc f) (suc m) [] h = refl
drop_join (suc f) (suc m) (x ∷ b) h = drop_join f m b (omega arith)

slice_join : (f m t : ℕ) (b : List ℕ) → f ≤ m → m ≤ t → slice f m b ++ slice m t b ≡ slice f t b
slice_join f m t b h k = ap (λ c. drop f c ++ slice m t b) (sym (take-take m t b k)) ∙ drop_join f m (take t b) h

-- a part of a list, by what stands before it and its length
slice_middle : (p x q : List ℕ) {f e : ℕ} → length p ≡ f → f + length x ≡ e → slice f e (p ++ (x ++ q)) ≡ x
slice_middle p x q h k = rw (← k, ← h, take-append-add p (x ++ q) (length x), take-append_seam x q, drop-append_seam p x)

-- ---- records

-- a section's records have its width
pub records-wide : (w : ℕ) (s : List ℕ) (r : List ℕ) → Memᴰ r (records w s) → length r ≡ w
unfolding records
records-wide w s = parts-wide (length s / w) w s (div-mul-le_self (length s) w)

-- a whole number of records is the section again
concat-records : (w : ℕ) (s : List ℕ) → length s % w ≡ 0 → concat (records w s) ≡ s
unfolding records
concat-records w s h = concat-parts (length s / w) w s (omega (arith, div-add-mod' (length s) w))

-- records put together and read
records-concat : (w : ℕ) (rs : List (List ℕ)) → 0 < w → ((r : List ℕ) → Memᴰ r rs → length r ≡ w) → records w (concat rs) ≡ rs
unfolding records
records-concat w rs p h = rw (length-concat w rs h, mul-div_cancel (length rs) p) (parts-concat w rs h)

pub length-records : (w : ℕ) (s : List ℕ) → length (records w s) ≡ length s / w
unfolding records
length-records w s = length-parts (length s / w) w s

-- readable bytes hold a well-formed table
pub read_well_formed : (L : Limits) (b : List ℕ) → Readable L b → WellFormed L (table_of b)
unfolding table_of
read_well_formed L b e =
    formed_of
    (read-passed L b e).limits
    (read-passed L b e).versioned
    (record {
      internals = records-wide 3 (slice (start b 2) (start b 3) b);
      calls = records-wide 3 (slice (start b 3) (start b 4) b);
      returns = records-wide 4 (slice (start b 4) (trailer b) b);
    })
    (tests_passed L (table_of b) (read-passed L b e).fits)

-- ---- readable bytes are the bytes of their table

module _ (b : List ℕ) where
  inside : trailer b ≤ length b
  unfolding trailer
  inside = omega arith

  -- a section's length
  pub length-between : (j k : ℕ) → distance b k ≤ distance b j → distance b j ≤ trailer b → length (slice (start b j) (start b k) b) ≡ distance b j - distance b k
  unfolding start
  length-between j k h l = length-slice (trailer b - distance b j) (trailer b - distance b k) b (omega (arith, inside)) ∙ omega arith

  -- that of the sections from one on
  pub length_from : (k : ℕ) → distance b k ≤ trailer b → length (slice (start b k) (trailer b) b) ≡ distance b k
  unfolding start
  length_from k l = length-slice (trailer b - distance b k) (trailer b) b inside ∙ omega arith

module _ (L : Limits) (b : List ℕ) (p : ReadPasses L b) where
  join : (j k : ℕ) → distance b k ≤ distance b j → slice (start b j) (start b k) b ++ slice (start b k) (trailer b) b ≡ slice (start b j) (trailer b) b
  unfolding start
  join j k h = slice_join (trailer b - distance b j) (trailer b - distance b k) (trailer b) b (omega arith) (omega arith)

  from-returns : from_returns (table_of b) ≡ slice (start b 4) (trailer b) b
  unfolding from_returns table_of
  from-returns = concat-records 4 (slice (start b 4) (trailer b) b) (ap (λ n. n % 4) (length_from b 4 (omega arith)) ∙ p.framed.fours_4)

  from-calls : from_calls (table_of b) ≡ slice (start b 3) (trailer b) b
  unfolding from_calls table_of
  from-calls =
      let whole = concat-records 3 (slice (start b 3) (start b 4) b) (ap (λ n. n % 3) (length-between b 3 4 p.framed.falls_4 (omega arith)) ∙ p.framed.threes_3) in
      (λ i. whole i ++ from-returns i) ∙ join 3 4 p.framed.falls_4

  from-internals : from_internals (table_of b) ≡ slice (start b 2) (trailer b) b
  unfolding from_internals table_of
  from-internals =
      let whole = concat-records 3 (slice (start b 2) (start b 3) b) (ap (λ n. n % 3) (length-between b 2 3 p.framed.falls_3 (omega arith)) ∙ p.framed.threes_2) in
      (λ i. whole i ++ from-calls i) ∙ join 2 3 p.framed.falls_3

  from-states : from_states (table_of b) ≡ slice (start b 1) (trailer b) b
  unfolding from_states table_of
  from-states = ap (λ s. slice (start b 1) (start b 2) b ++ s) from-internals ∙ join 1 2 p.framed.falls_2

  from-symbols : from_symbols (table_of b) ≡ slice (start b 0) (trailer b) b
  unfolding from_symbols table_of
  from-symbols = ap (λ s. slice (start b 0) (start b 1) b ++ s) from-states ∙ join 0 1 p.framed.falls_1

  first-start : start b 0 ≡ 0
  unfolding start
  first-start = omega arith

  -- the trailer's words from word k on
  on : Bytes b → (k : ℕ) → k < 6 → drop (trailer b + 2 * k) b ≡ bytes16 (distance b k) ++ drop (trailer b + 2 * suc k) b
  unfolding distance trailer
  on h k l =
      let e : trailer b + 2 * k + 2 ≡ trailer b + 2 * suc k = omega arith in
      bytes_on b h (trailer b + 2 * k) (omega arith) ∙ ap (λ n. bytes16 (distance b k) ++ drop n b) e

  trailing : Bytes b → concat_map bytes16 (distance b 0 ∷ distance b 1 ∷ distance b 2 ∷ distance b 3 ∷ distance b 4 ∷ distance b 5 ∷ []) ≡ drop (trailer b) b
  unfolding trailer
  trailing h =
      let next : ℕ → List ℕ → List ℕ = λ k e. bytes16 (distance b k) ++ e in
      let past : length b ≤ trailer b + 12 = omega arith in
      let end : drop (trailer b + 12) b ≡ [] = drop_of_length-le b past in
      sym
      (ap (λ n. drop n b) (sym (add-zero (trailer b)))
      ∙ on h 0 (omega arith)
      ∙ ap (next 0) (on h 1 (omega arith) ∙ ap (next 1) (on h 2 (omega arith) ∙ ap (next 2) (on h 3 (omega arith) ∙ ap (next 3) (on h 4 (omega arith) ∙ ap (next 4) (on h 5 (omega arith) ∙ ap (next 5) end))))))

  trailer-again : Bytes b → trailer_of (table_of b) ≡ drop (trailer b) b
  unfolding trailer_of table_of version distance
  trailer-again h =
      let e0 = ap length from-symbols ∙ length_from b 0 (omega arith) in
      let e1 = ap length from-states ∙ length_from b 1 (omega arith) in
      let e2 = ap length from-internals ∙ length_from b 2 (omega arith) in
      let e3 = ap length from-calls ∙ length_from b 3 (omega arith) in
      let e4 = ap length from-returns ∙ length_from b 4 (omega arith) in
      (λ i. concat_map bytes16 (e0 i ∷ e1 i ∷ e2 i ∷ e3 i ∷ e4 i ∷ version b ∷ [])) ∙ trailing h

pub bytes_of_table : (L : Limits) (b : List ℕ) → Bytes b → Readable L b → bytes_of (table_of b) ≡ b
unfolding bytes_of
bytes_of_table L b h e =
    let p = read-passed L b e in
    (λ i. (from-symbols L b p ∙ ap (λ n. slice n (trailer b) b) (first-start L b p)) i ++ trailer-again L b p h i) ∙ take-append-drop (trailer b) b

-- ---- the bytes of a well-formed table are readable and hold it

-- the words of the trailer
abbrev words : Table → List ℕ
words t = length (from_symbols t) ∷ length (from_states t) ∷ length (from_internals t) ∷ length (from_calls t) ∷ length (from_returns t) ∷ t.version ∷ []

-- the lengths of the sections from each one on
pub record Lengths (t : Table) : Type 0 where
  pub returns : length (from_returns t) ≡ 4 * length t.returns
  pub calls : length (from_calls t) ≡ 3 * length t.calls + length (from_returns t)
  pub internals : length (from_internals t) ≡ 3 * length t.internals + length (from_calls t)
  pub states : length (from_states t) ≡ length t.states + length (from_internals t)
  pub symbols : length (from_symbols t) ≡ length t.symbols + length (from_states t)
  pub bytes : length (bytes_of t) ≡ length (from_symbols t) + 12

pub lengths : (t : Table) → Wide t → Lengths t
unfolding from_returns from_calls from_internals from_states from_symbols bytes_of trailer_of bytes16
lengths t w = record {
  returns = omega (arith, length-concat 4 t.returns w.returns);
  calls = omega (arith, length-concat 3 t.calls w.calls, length-append (concat t.calls) (from_returns t));
  internals = omega (arith, length-concat 3 t.internals w.internals, length-append (concat t.internals) (from_calls t));
  states = length-append t.states (from_internals t);
  symbols = length-append t.symbols (from_states t);
  bytes = length-append (from_symbols t) (trailer_of t);
}

pub bytes-length : (t : Table) → Wide t → length (bytes_of t) ≡ length t.symbols + length t.states + 3 * length t.internals + 3 * length t.calls + 4 * length t.returns + 12
bytes-length t w = let n = lengths t w in omega arith

module _ (L : Limits) (t : Table) (f : WellFormed L t) where
  -- every distance is a 16-bit number
  s : Within L
  s = limits-within f.limits

  n : Lengths t
  n = lengths t (formed-wide f)

  few : Tested L t
  few = formed_tested f

  small : length (from_symbols t) < 65536
  small = omega (arith, n, few, s)

  trailer-at : trailer (bytes_of t) ≡ length (from_symbols t)
  unfolding trailer
  trailer-at = omega (arith, n)

  word_is : (k : ℕ) → k < 6 → get_or (words t) k 0 < 65536 → distance (bytes_of t) k ≡ get_or (words t) k 0
  unfolding distance bytes_of trailer_of
  word_is k l h = ap (λ i. word16 (bytes_of t) (i + 2 * k)) trailer-at ∙ word-behind (from_symbols t) (trailer_of t) (2 * k) ∙ word_gathered (words t) k l h

  d0 : distance (bytes_of t) 0 ≡ length (from_symbols t)
  d0 = word_is 0 (omega arith) small

  d1 : distance (bytes_of t) 1 ≡ length (from_states t)
  d1 = word_is 1 (omega arith) (omega (arith, n, small))

  d2 : distance (bytes_of t) 2 ≡ length (from_internals t)
  d2 = word_is 2 (omega arith) (omega (arith, n, small))

  d3 : distance (bytes_of t) 3 ≡ length (from_calls t)
  d3 = word_is 3 (omega arith) (omega (arith, n, small))

  d4 : distance (bytes_of t) 4 ≡ length (from_returns t)
  d4 = word_is 4 (omega arith) (omega (arith, n, small))

  versioned : version (bytes_of t) ≡ t.version
  unfolding version distance
  versioned = word_is 5 (omega arith) (omega (arith, version-small f.versioned))

  -- a section of the bytes, by what stands before it and after it
  section : (p x q : List ℕ) → from_symbols t ≡ p ++ (x ++ q) → slice (length (from_symbols t) - length (x ++ q)) (length (from_symbols t) - length q) (bytes_of t) ≡ x
  unfolding bytes_of
  section p x q e =
      let all = ap length e ∙ length-append p (x ++ q) in
      let f : length p ≡ length (from_symbols t) - length (x ++ q) = omega arith in
      let g : length (from_symbols t) - length (x ++ q) + length x ≡ length (from_symbols t) - length q = omega (arith, length-append x q) in
      let whole : from_symbols t ++ trailer_of t ≡ p ++ (x ++ (q ++ trailer_of t)) = ap (λ y. y ++ trailer_of t) e ∙ simp append_assoc in
      ap (slice (length (from_symbols t) - length (x ++ q)) (length (from_symbols t) - length q)) whole ∙ slice_middle p x (q ++ trailer_of t) f g

  -- the sections at their starts
  at-starts :
      (j k : ℕ) {x y : ℕ} → distance (bytes_of t) j ≡ x → distance (bytes_of t) k ≡ y
      → slice (start (bytes_of t) j) (start (bytes_of t) k) (bytes_of t) ≡ slice (length (from_symbols t) - x) (length (from_symbols t) - y) (bytes_of t)
  unfolding start
  at-starts j k d e = λ i. slice (trailer-at i - d i) (trailer-at i - e i) (bytes_of t)

  symbols-again : slice (start (bytes_of t) 0) (start (bytes_of t) 1) (bytes_of t) ≡ t.symbols
  unfolding from_symbols
  symbols-again = at-starts 0 1 d0 d1 ∙ section [] t.symbols (from_states t) refl

  states-again : slice (start (bytes_of t) 1) (start (bytes_of t) 2) (bytes_of t) ≡ t.states
  unfolding from_symbols from_states
  states-again = at-starts 1 2 d1 d2 ∙ section t.symbols t.states (from_internals t) refl

  internals-again : slice (start (bytes_of t) 2) (start (bytes_of t) 3) (bytes_of t) ≡ concat t.internals
  unfolding from_symbols from_states from_internals
  internals-again = at-starts 2 3 d2 d3 ∙ section (t.symbols ++ t.states) (concat t.internals) (from_calls t) (simp append_assoc)

  calls-again : slice (start (bytes_of t) 3) (start (bytes_of t) 4) (bytes_of t) ≡ concat t.calls
  unfolding from_symbols from_states from_internals from_calls
  calls-again = at-starts 3 4 d3 d4 ∙ section (t.symbols ++ t.states ++ concat t.internals) (concat t.calls) (from_returns t) (simp append_assoc)

  returns-again : slice (start (bytes_of t) 4) (trailer (bytes_of t)) (bytes_of t) ≡ concat t.returns
  unfolding start from_symbols from_states from_internals from_calls from_returns
  returns-again =
      let end : trailer (bytes_of t) ≡ length (from_symbols t) - 0 = omega (arith, trailer-at) in
      let from : length (from_returns t) ≡ length (concat t.returns ++ []) = ap length (sym (append-nil (concat t.returns))) in
      (λ i. slice (trailer-at i - (d4 ∙ from) i) (end i) (bytes_of t))
      ∙ section (t.symbols ++ t.states ++ concat t.internals ++ concat t.calls) (concat t.returns) [] (simp (append_assoc, append-nil))

  pub table_of-bytes : table_of (bytes_of t) ≡ t
  unfolding table_of
  table_of-bytes =
      let internals = ap (records 3) internals-again ∙ records-concat 3 t.internals (omega arith) (formed-wide f).internals in
      let calls = ap (records 3) calls-again ∙ records-concat 3 t.calls (omega arith) (formed-wide f).calls in
      let returns = ap (records 4) returns-again ∙ records-concat 4 t.returns (omega arith) (formed-wide f).returns in
      λ i. record { version = versioned i; symbols = symbols-again i; states = states-again i; internals = internals i; calls = calls i; returns = returns i }

  pub passed-bytes : ReadPasses L (bytes_of t)
  unfolding longest
  passed-bytes = record {
    limits = f.limits;
    long = omega (arith, n);
    short = omega (arith, n, few);
    versioned = ap version_fits versioned ∙ f.versioned;
    framed =
        record {
          whole = d0 ∙ sym trailer-at;
          falls_1 = omega (arith, n, d0, d1);
          falls_2 = omega (arith, n, d1, d2);
          falls_3 = omega (arith, n, d2, d3);
          falls_4 = omega (arith, n, d3, d4);
          threes_2 = omega (arith, n, d2, d3);
          threes_3 = omega (arith, n, d3, d4);
          fours_4 = omega (arith, n, d4);
        };
    fits = ap (λ u. first_failed (table_tests L u)) table_of-bytes ∙ f.fits;
  }

  pub read-bytes : Readable L (bytes_of t)
  read-bytes = passed-read L (bytes_of t) passed-bytes

-- ---- .. and are bytes

bytes_of_lem : (xs : List ℕ) → ((x : ℕ) → Memᴰ x xs → x < 256) → Bytes xs
bytes_of_lem [] h i = omega arith
bytes_of_lem (x ∷ xs) h zero = h x (Memᴰ.head refl)
bytes_of_lem (x ∷ xs) h (suc i) = bytes_of_lem xs (λ y m. h y (Memᴰ.tail m)) i

bytes-append : (p q : List ℕ) → Bytes p → Bytes q → Bytes (p ++ q)
bytes-append [] q h k i = k i
bytes-append (x ∷ p) q h k zero = h 0
bytes-append (x ∷ p) q h k (suc i) = bytes-append p q (λ j. h (suc j)) k i

bytes-concat : (rs : List (List ℕ)) → ((r : List ℕ) → Memᴰ r rs → Bytes r) → Bytes (concat rs)
bytes-concat [] h i = omega arith
bytes-concat (r ∷ rs) h i = bytes-append r (concat rs) (h r (Memᴰ.head refl)) (bytes-concat rs (λ s m. h s (Memᴰ.tail m))) i

bytes-words : (ds : List ℕ) → Bytes (concat_map bytes16 ds)
unfolding bytes16
bytes-words [] i = omega arith
bytes-words (d ∷ ds) zero = omega arith
bytes-words (d ∷ ds) (suc zero) = omega arith
bytes-words (d ∷ ds) (suc (suc i)) = bytes-words ds i

bytes_record : (t : Table) (kind : ℕ) → length t.states ≤ 256 → length t.symbols ≤ 256 → (r : List ℕ) → record_fits t kind r ≡ true → Bytes r
unfolding record_fits
bytes_record t kind h k [] e i = omega arith
bytes_record t kind h k (p ∷ []) e i = absurd (true≢false (sym e))
bytes_record t kind h k (p ∷ a ∷ qs) e i =
    let f = and-true _ _ e in
    let g = and-true _ _ f.0 in
    let s = and-true _ _ g.1 in
    go (ltb-true p (length t.states) g.0) (ltb-true a (length t.symbols) s.0) f.1 i
  where
    go : p < length t.states → a < length t.symbols → all (λ q. ltb q (length t.states)) qs ≡ true → Bytes (p ∷ a ∷ qs)
    go l m f zero = omega arith
    go l m f (suc zero) = omega arith
    go l m f (suc (suc i)) = bytes_of_lem qs (λ q n. let l = ltb-true q (length t.states) (all_true (λ q. ltb q (length t.states)) qs f q n) in omega arith) i

pub bytes-bytes : (L : Limits) (t : Table) → WellFormed L t → Bytes (bytes_of t)
unfolding bytes_of from_symbols from_states from_internals from_calls from_returns trailer_of
bytes-bytes L t f = bytes-append (from_symbols t) (trailer_of t) (bytes-append t.symbols (from_states t) symbols from-states) (bytes-words (words t))
  where
    -- every state and symbol is a byte
    s : Within L
    s = limits-within f.limits

    c : Tested L t
    c = formed_tested f

    symbols : Bytes t.symbols
    symbols = bytes_of_lem t.symbols (λ x m. let l = c.symbol-bytes x m in omega arith)

    states : Bytes t.states
    states = bytes_of_lem t.states (λ x m. let l = c.state-bytes x m in omega (arith, byte_most t.version))

    section : (kind : ℕ) (rs : List (List ℕ)) → ((r : List ℕ) → Memᴰ r rs → record_fits t kind r ≡ true) → Bytes (concat rs)
    section kind rs h = bytes-concat rs (λ r m. bytes_record t kind (omega (arith, c, s)) (omega (arith, c, s)) r (h r m))

    from-calls : Bytes (from_calls t)
    from-calls = bytes-append (concat t.calls) (from_returns t) (section 1 t.calls c.calls-fit) (section 2 t.returns c.returns-fit)

    from-states : Bytes (from_states t)
    from-states = bytes-append t.states (from_internals t) states (bytes-append (concat t.internals) (from_calls t) (section 0 t.internals c.internals-fit) from-calls)
