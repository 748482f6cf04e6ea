-- Laws for cutting a list into segments and marking them: where a segment ends, a clause that is marked, and the walk over the clauses. Assumes nothing.
use mathlib.Core.Path.{◌≡◌, refl, sym, ap, ◌∙◌, subst}
use mathlib.Core.Logic.{◌⊎◌, inl, inr}
use mathlib.Core.Bool.{true}
use mathlib.Core.List.Memᴰ
use mathlib.Core.List.Memᴰ.{append_cases}
use mathlib.Core.List.Memᴰ.{eq_of_singleton}
use mathlib.Core.List.Memᴰ.{not-nil}
use mathlib.Core.List.{List, [], ◌∷◌, ◌++◌, append-nil, Memᴰ}
use Prim.Native.Nat.{ℕ, suc, ◌+◌, ◌-◌, ◌*◌, ◌/◌, ◌%◌, ◌^◌, ◌≤◌, ◌<◌}
use native.Mathlib.Numerals.{add-one}
use native.Mathlib.Omega.{arith}
use native.Mathlib.Decide.{ℕ_discrete, dec_lt}
use lib.ListN.{length, get_or, set, take, drop, length-set}
use lib.Seq.{get_or-set_same, get_or-set_other, take-suc, take_all, take-add, drop-drop, length-slice}
use lib.Bits.{bit_or}
use borrow.Author.Tests.{eq-eqb, ne_eqb, lt-ltb, le-ltb}
use Rattle.lists.specs.Lists.{concat_map}
use Rattle.lists.specs.Bits.{Bit}
use Rattle.lists.proofs.Bits.{bit-left, bit-right, bit-own}
use Rattle.lists.proofs.Counts.{concat_map-append}
use Rattle.lists.proofs.Members.{one_on}
use Rattle.cnf.specs.Clauses.{clauses_in, whole, words_of}
use Rattle.cnf.proofs.Words.{clauses_nil, clauses_words, whole_words}
use Rattle.cnf.specs.Closing.{Formed}
use Rattle.sat_literal.specs.Literals.{clause_at, Over}
use Rattle.sat_literal.proofs.Walking.{Before, before-first, before-next, end_inside, none_left, clause_in, clause_cases, clause-words}
use Rattle.sat_segments.specs.Segments.{limit_of, between, Span, InMask, Noted, Placed, Marked}

-- ---- where a segment ends

module _ (words at k : ℕ) where
  pub limit_last : k ≡ 1023 → words ≡ limit_of words at k
  unfolding limit_of
  limit_last e = sym (rw (eq-eqb k 1023 e))

  pub limit_short : (k ≡ 1023 → ⊥) → words - at < words / 1024 + 1 → words ≡ limit_of words at k
  unfolding limit_of
  limit_short n h = sym (rw (ne_eqb k 1023 n, lt-ltb (words - at) (words / 1024 + 1) h))

  pub limit_more : (k ≡ 1023 → ⊥) → words / 1024 + 1 ≤ words - at → at + (words / 1024 + 1) ≡ limit_of words at k
  unfolding limit_of
  limit_more n h = sym (rw (ne_eqb k 1023 n, le-ltb (words - at) (words / 1024 + 1) h))

  pub limit_inside : at ≤ words → limit_of words at k ≤ words
  limit_inside h = go (ℕ_discrete k 1023) (dec_lt (words - at) (words / 1024 + 1))
    where
      go : Dec (k ≡ 1023) → Dec (words - at < words / 1024 + 1) → limit_of words at k ≤ words
      go (yes e) d = omega (arith, limit_last e)
      go (no n) (yes l) = omega (arith, limit_short n l)
      go (no n) (no l) = omega (arith, limit_more n (omega arith))

-- ---- a clause is marked

-- a store of further bits
module _ (m : List ℕ) (at w : ℕ) (h : at < length m) where
  here : get_or (set m at (bit_or (get_or m at 0) w)) at 0 ≡ bit_or (get_or m at 0) w
  here = get_or-set_same m at (bit_or (get_or m at 0) w) 0 h

  bits-kept : (j b : ℕ) → Bit (get_or m j 0) b → Bit (get_or (set m at (bit_or (get_or m at 0) w)) j 0) b
  bits-kept j b q = go (ℕ_discrete j at)
    where
      go : Dec (j ≡ at) → Bit (get_or (set m at (bit_or (get_or m at 0) w)) j 0) b
      go (yes e) = rw (e, here) (bit-left (get_or m at 0) w b (rw e at q))
      go (no n) = rw (get_or-set_other m at j (bit_or (get_or m at 0) w) 0 n) q

  bit-set : (b : ℕ) → Bit w b → Bit (get_or (set m at (bit_or (get_or m at 0) w)) at 0) b
  bit-set b q = rw here (bit-right (get_or m at 0) w b q)

-- before the literal at i
pub record Noting (ls : List ℕ) (k : ℕ) (masks masks' : List ℕ) (i : ℕ) : Type 0 where
  pub noted : Noted (take i ls) k masks masks'

pub noting : (ls : List ℕ) (k : ℕ) (masks : List ℕ) → Noting ls k masks masks 0
noting ls k masks = record { noted = record { long = refl; kept = λ i b q. q; own = λ l m. absurd (not-nil m) } }

pub note_on :
    {ls m₀ m : List ℕ} {k i x w : ℕ} → Noting ls k m₀ m i → i < length ls → x ≡ get_or ls i 0 / 2 → x < 780 → k < 1024 → length m₀ ≡ 12480 → w ≡ 2 ^ (k % 64)
    → Noting ls k m₀ (set m (x * 16 + k / 64) (bit_or (get_or m (x * 16 + k / 64) 0) w)) (i + 1)
note_on {ls} {m₀} {m} {k} {i} {x} {w} n h e s f size o = record {
  noted = record {
    long = length-set m (x * 16 + k / 64) (bit_or (get_or m (x * 16 + k / 64) 0) w) ∙ n.noted.long;
    kept = λ j b q. bits-kept m (x * 16 + k / 64) w room j b (n.noted.kept j b q);
    own = λ l q. pick l (append_cases (take i ls) (subst (λ (xs : List ℕ). Memᴰ l xs) next q));
  };
}
  where
    room : x * 16 + k / 64 < length m
    room = omega (arith, n.noted.long)

    next : take (i + 1) ls ≡ take i ls ++ (get_or ls i 0 ∷ [])
    next = rw add-one (take-suc ls i 0 h)

    pick : (l : ℕ) → Memᴰ l (take i ls) ⊎ Memᴰ l (get_or ls i 0 ∷ []) → InMask (set m (x * 16 + k / 64) (bit_or (get_or m (x * 16 + k / 64) 0) w)) (l / 2) k
    pick l (inl q) = bits-kept m (x * 16 + k / 64) w room (l / 2 * 16 + k / 64) (k % 64) (n.noted.own l q)
    pick l (inr q) = let same : l / 2 ≡ x = omega (arith, eq_of_singleton q, e) in rw same (bit-set m (x * 16 + k / 64) w room (k % 64) (rw o (bit-own (k % 64))))

pub note_all : {ls m₀ m : List ℕ} {k i : ℕ} → Noting ls k m₀ m i → length ls ≤ i → Noted ls k m₀ m
note_all {ls} {m₀} {m} {k} {i} n h = subst (λ (xs : List ℕ). Noted xs k m₀ m) (take_all i ls h) n.noted

-- ---- the words of a segment, with one clause more

next-words : (ws : List ℕ) {from at : ℕ} → at < length ws → from ≤ at → between ws from (at + 1 + get_or ws at 0) ≡ between ws from at ++ (get_or ws at 0 ∷ clause_at ws at)
next-words ws {from} {at} h k = ap (λ (n : ℕ). take n (drop from ws)) size ∙ take-add (at - from) (suc (get_or ws at 0)) (drop from ws) ∙ ap (λ (l : List ℕ). take (at - from) (drop from ws) ++ l) tail
  where
    size : at + 1 + get_or ws at 0 - from ≡ at - from + suc (get_or ws at 0)
    size = omega arith

    there : from + (at - from) ≡ at
    there = omega arith

    own : at + 1 + get_or ws at 0 - (at + 1) ≡ get_or ws at 0
    own = omega arith

    tail : take (suc (get_or ws at 0)) (drop (at - from) (drop from ws)) ≡ get_or ws at 0 ∷ clause_at ws at
    tail =
        ap (take (suc (get_or ws at 0))) (drop-drop (at - from) from ws ∙ ap (λ (n : ℕ). drop n ws) there ∙ one_on ws at h)
        ∙ ap (λ (l : List ℕ). get_or ws at 0 ∷ l) (ap (λ (n : ℕ). take n (drop (at + 1) ws)) (sym own) ∙ clause-words ws at refl)

words_snoc : (cs : List (List ℕ)) (c : List ℕ) {n : ℕ} → n ≡ length c → words_of (cs ++ (c ∷ [])) ≡ words_of cs ++ (n ∷ c)
unfolding words_of
words_snoc cs c {n} e = concat_map-append (λ d. length d ∷ d) cs (c ∷ []) ∙ ap (λ (l : List ℕ). concat_map (λ d. length d ∷ d) cs ++ l) (append-nil (length c ∷ c) ∙ ap (λ (m : ℕ). m ∷ c) (sym e))

-- ---- the walk over the clauses

abbrev Open : List ℕ → ℕ → List (List ℕ) → List ℕ → Type 0
Open masks k cs c = Memᴰ c cs × ((l : ℕ) → Memᴰ l c → InMask masks (l / 2) k)

-- before the clause at `at`, in segment k: `clauses` are those of the segment so far
pub record Marking (ws starts masks : List ℕ) (k at : ℕ) : Type 0 where
  pub long : length starts ≡ 1025
  pub room : length masks ≡ 12480
  pub before : Before ws at
  pub clauses : List (List ℕ)
  pub first : get_or starts k 0 ≤ at
  pub words : between ws (get_or starts k 0) at ≡ words_of clauses
  pub mine : (c : List ℕ) → Memᴰ c clauses → Memᴰ c (clauses_in ws)
  pub closed : (j : ℕ) → j < k → Span ws (get_or starts j 0) (get_or starts (j + 1) 0)
  pub passed : (c : List ℕ) → Memᴰ c (clauses_in ws) → Memᴰ c (clauses_in (drop at ws)) ⊎ (Open masks k clauses c ⊎ Placed ws starts masks k c)

pub marking : {ws : List ℕ} (starts masks : List ℕ) → whole ws ≡ true → length starts ≡ 1025 → length masks ≡ 12480 → Marking ws (set starts 0 0) masks 0 0
marking {ws} starts masks w a b = record {
  long = length-set starts 0 0 ∙ a;
  room = b;
  before = before-first w;
  clauses = [];
  first = omega (arith, zero-there);
  words = rw zero-there (unfold words_of in refl);
  mine = λ c m. absurd (not-nil m);
  closed = λ j h. absurd (omega (arith, h));
  passed = λ c m. inl m;
}
  where
    zero-there : get_or (set starts 0 0) 0 0 ≡ 0
    zero-there = get_or-set_same starts 0 0 0 (omega arith)

module _ {ws starts masks : List ℕ} {k at : ℕ} (i : Marking ws starts masks k at) where
  -- the clause is marked
  module _ (h : at < length ws) where
    pub mark_on : {masks' : List ℕ} → Noted (clause_at ws at) k masks masks' → Marking ws starts masks' k (at + 1 + get_or ws at 0)
    mark_on {masks'} n = record {
      long = i.long;
      room = n.long ∙ i.room;
      before = before-next i.before h;
      clauses = i.clauses ++ (clause_at ws at ∷ []);
      first = omega (arith, i.first);
      words = next-words ws h i.first ∙ ap (λ (l : List ℕ). l ++ (get_or ws at 0 ∷ clause_at ws at)) i.words ∙ sym (words_snoc i.clauses (clause_at ws at) size);
      mine = λ c m. own c (append_cases i.clauses m);
      closed = i.closed;
      passed = λ c m. go c (i.passed c m);
    }
      where
        size : get_or ws at 0 ≡ length (clause_at ws at)
        size = omega (arith, length-slice (at + 1) (at + 1 + get_or ws at 0) ws (end_inside i.before h))

        own : (c : List ℕ) → Memᴰ c i.clauses ⊎ Memᴰ c (clause_at ws at ∷ []) → Memᴰ c (clauses_in ws)
        own c (inl m) = i.mine c m
        own c (inr m) = subst (λ (d : List ℕ). Memᴰ d (clauses_in ws)) (sym (eq_of_singleton m)) (clause_in i.before h)

        pick :
            (c : List ℕ) → (c ≡ clause_at ws at) ⊎ Memᴰ c (clauses_in (drop (at + 1 + get_or ws at 0) ws))
            → Memᴰ c (clauses_in (drop (at + 1 + get_or ws at 0) ws)) ⊎ (Open masks' k (i.clauses ++ (clause_at ws at ∷ [])) c ⊎ Placed ws starts masks' k c)
        pick c (inl e) = inr (inl (Memᴰ.append_right i.clauses (Memᴰ.head e), λ l q. n.own l (subst (λ (d : List ℕ). Memᴰ l d) e q)))
        pick c (inr m) = inl m

        go :
            (c : List ℕ) → Memᴰ c (clauses_in (drop at ws)) ⊎ (Open masks k i.clauses c ⊎ Placed ws starts masks k c)
            → Memᴰ c (clauses_in (drop (at + 1 + get_or ws at 0) ws)) ⊎ (Open masks' k (i.clauses ++ (clause_at ws at ∷ [])) c ⊎ Placed ws starts masks' k c)
        go c (inl m) = pick c (clause_cases i.before h c m)
        go c (inr (inl p)) = inr (inl (Memᴰ.append_left (clause_at ws at ∷ []) p.0, λ l q. n.kept (l / 2 * 16 + k / 64) (k % 64) (p.1 l q)))
        go c (inr (inr p)) = inr (inr (record { number = p.number; few = p.few; has = p.has; marked = λ l q. n.kept (l / 2 * 16 + p.number / 64) (p.number % 64) (p.marked l q) }))

    -- as the code lends its words, and says how many they are
    pub mark-lent : {masks' : List ℕ} {n : ℕ} → n ≡ get_or ws at 0 → Noted (take (at + 1 + n - (at + 1)) (drop (at + 1) ws)) k masks masks' → Marking ws starts masks' k (at + 1 + n)
    mark-lent {masks'} {n} e q = rw e (mark_on (subst (λ (ls : List ℕ). Noted ls k masks masks') (clause-words ws at e) q))

    pub lent-over : {n : ℕ} → n ≡ get_or ws at 0 → Formed (clauses_in ws) 780 → Over (take (at + 1 + n - (at + 1)) (drop (at + 1) ws)) 780
    lent-over {n} e f = subst (λ (ls : List ℕ). Over ls 780) (sym (clause-words ws at e)) (f.below (clause_at ws at) (clause_in i.before h))

    pub lent_end : {n : ℕ} → n ≡ get_or ws at 0 → at + 1 + n ≤ length ws
    lent_end e = omega (arith, e, end_inside i.before h)

  own_clauses : clauses_in (between ws (get_or starts k 0) at) ≡ i.clauses
  own_clauses = ap clauses_in i.words ∙ clauses_words i.clauses

  -- the segment ends
  module _ (h : k < 1024) where
    stays : (j : ℕ) → j < k + 1 → get_or (set starts (k + 1) at) j 0 ≡ get_or starts j 0
    stays j l = get_or-set_other starts (k + 1) j at 0 (λ e. omega (arith, e, l))

    pub ends_there : get_or (set starts (k + 1) at) (k + 1) 0 ≡ at
    ends_there = get_or-set_same starts (k + 1) at 0 (omega (arith, i.long))

    own-span : Span ws (get_or (set starts (k + 1) at) k 0) (get_or (set starts (k + 1) at) (k + 1) 0)
    own-span = rw (stays k (omega arith), ends_there) (record {
      ordered = i.first;
      inside = i.before.inside;
      all_there = ap whole i.words ∙ whole_words i.clauses;
      part = λ c m. i.mine c (subst (λ (cs : List (List ℕ)). Memᴰ c cs) own_clauses m);
    })

    pub mark_close : Marking ws (set starts (k + 1) at) masks (k + 1) at
    mark_close = record {
      long = length-set starts (k + 1) at ∙ i.long;
      room = i.room;
      before = i.before;
      clauses = [];
      first = omega (arith, ends_there);
      words = let none : at - at ≡ 0 = omega arith in rw (ends_there, none) (unfold words_of in refl);
      mine = λ c m. absurd (not-nil m);
      closed = λ j l. span j l (ℕ_discrete j k);
      passed = λ c m. go c (i.passed c m);
    }
      where
        span : (j : ℕ) → j < k + 1 → Dec (j ≡ k) → Span ws (get_or (set starts (k + 1) at) j 0) (get_or (set starts (k + 1) at) (j + 1) 0)
        span j l (yes e) = rw e own-span
        span j l (no n) = rw (stays j l, stays (j + 1) (omega arith)) (i.closed j (omega arith))

        go :
            (c : List ℕ) → Memᴰ c (clauses_in (drop at ws)) ⊎ (Open masks k i.clauses c ⊎ Placed ws starts masks k c)
            → Memᴰ c (clauses_in (drop at ws)) ⊎ (Open masks (k + 1) [] c ⊎ Placed ws (set starts (k + 1) at) masks (k + 1) c)
        go c (inl m) = inl m
        go c (inr (inl p)) = inr (inr (record { number = k; few = omega arith; has = rw (ends_there, stays k (omega arith)) (subst (λ (cs : List (List ℕ)). Memᴰ c cs) (sym own_clauses) p.0); marked = p.1 }))
        go c (inr (inr p)) = inr (inr (record { number = p.number; few = omega (arith, p.few); has = rw (stays (p.number + 1) (omega (arith, p.few)), stays p.number (omega (arith, p.few))) p.has; marked = p.marked }))

  -- all segments are there
  pub marked_all : k ≡ 1024 → get_or starts k 0 ≡ at → length ws ≤ at → Marked ws starts masks
  marked_all e f h = record {
    cut = record { long = i.long; each = λ j l. i.closed j (omega (arith, e)) };
    long = i.room;
    each = λ c m. go c (i.passed c m);
  }
    where
      none : i.clauses ≡ []
      none = let z : at - get_or starts k 0 ≡ 0 = omega (arith, f) in sym own_clauses ∙ ap (λ (n : ℕ). clauses_in (take n (drop (get_or starts k 0) ws))) z ∙ clauses_nil

      go : (c : List ℕ) → Memᴰ c (clauses_in (drop at ws)) ⊎ (Open masks k i.clauses c ⊎ Placed ws starts masks k c) → Placed ws starts masks 1024 c
      go c (inl m) = absurd (none_left ws at h c m)
      go c (inr (inl p)) = absurd (not-nil (subst (λ (cs : List (List ℕ)). Memᴰ c cs) none p.0))
      go c (inr (inr p)) = subst (λ (n : ℕ). Placed ws starts masks n c) e p
