-- Two tables that were read: what their sections are combined with, 36, and the table written. Assumes nothing.
use mathlib.Core.Path.{◌≡◌, refl, sym, ap, ◌∙◌, subst}
use mathlib.Core.Logic.{◌⊎◌, inl, inr}
use mathlib.Core.Bool.{Bool, true, false, ◌&&◌}
use mathlib.Core.List.{List, [], ◌∷◌, map, Memᴰ}
use Prim.Native.Nat.{ℕ, zero, suc, ◌+◌, ◌*◌, ◌<◌, ◌≤◌}
use native.Mathlib.Omega.{arith}
use native.Mathlib.Decide.{dec_lt}
use Rattle.std.specs.Prelude.{Option}
use lib.ListN.{length-take, length, get_or, take, drop, length-map, get_or-eq_default}
use lib.Seq.{take_at}
use lib.Dec.{leb}
use borrow.Author.Tests.{le-leb, lt-leb, leb-true}
use Rattle.lists.specs.Lists.{over}
use Rattle.lists.proofs.Members.{and_of}
use Rattle.limits.specs.Limits.{state_most, symbol_most}
use Rattle.limits.proofs.Within.{limits-within}
use Rattle.table_spec.specs.File.{Table, version, records, table_of, bytes_of}
use Rattle.table_spec.specs.Reading.{WellFormed}
use Rattle.table_spec.specs.Language.{count}
use Rattle.table_spec.specs.declared.Starts.{Starts}
use Rattle.table_spec.proofs.Passed.{read-passed, formed_tested}
use Rattle.table_spec.proofs.Bytes.{Bytes, read_well_formed}
use Rattle.table_spec.proofs.Facts.{Fit, internals-fit, calls-fit, returns-fit, most-states}
use Rattle.table_find.specs.Keys.{key}
use Rattle.table_view.specs.Sections.{part_of}
use Rattle.table_view.specs.declared.Section.TheVariants.{Symbols, States, Internals, Calls, Returns}
use Rattle.table_view.proofs.Parts.{symbols-read, states-read, internals-read, calls-read, returns-read}
use Rattle.table_index.specs.Index.{Lent, LentParts}
use Rattle.table_index.proofs.Index.{lent-more}
use Rattle.table_index.proofs.Parts.{parts-lent}
use Rattle.quotient_spec.specs.Quotient.{QuotientDone}
use Rattle.std.specs.Prelude.{Ok, Err}
use Rattle.refusals.specs.declared.Refusal.TheVariants.{OutputLength, LoadRecords}
use Rattle.table_write.specs.Keys.{keys_of, record_of, Holds}
use Rattle.table_write.specs.Tables.{keyed_table, written_for}
use Rattle.table_write.proofs.Keys.{Same, keys_back}
use Rattle.table_write.proofs.Whole.{bytes-long}
use Rattle.generate_spec.specs.Loads.{records_few}
use Rattle.combine_spec.specs.Combine.{pair_records, both_records, later_version, intersection_table, union_table, combined_table, combined_bytes, states_few}
use Rattle.combine_spec.specs.Walk.{walk}
use Rattle.combine_spec.specs.declared.How.{How}
use Rattle.combine_spec.specs.declared.How.TheVariants.{Intersection, Union}
use Rattle.combine_spec.proofs.States.{intersection_count, union_count}
use Rattle.combine_spec.proofs.Table.{combined_symbols, combined_well_formed}
use Rattle.combine_spec.proofs.Walked.{sections_walked}
use Rattle.combine_keys.specs.Adding.{Collected}
use Rattle.combine_keys.specs.Factors.{Summands, stack_bounds}
use Rattle.combine.specs.Parts.{state_count, state_bytes, section_records, Sections, Combined, Few, combined_for}
use Rattle.combine.proofs.StateBytes as states

-- ---- a section

pub product_section : {how : How} {w n m k : ℕ} {f s : List ℕ} → how ≡ Intersection → Sections how w n m k f s → Sections Intersection w n m k f s
product_section {w = w} {n = n} {m = m} {k = k} {f = f} {s = s} e h = subst (λ x. Sections x w n m k f s) e h

pub sum_section : {how : How} {w n : ℕ} (m k : ℕ) {f s : List ℕ} → how ≡ Union → Sections how w n m k f s → Summands w n f s
sum_section {w = w} {n = n} m k {f = f} {s = s} e h = subst (λ x. Sections x w n m k f s) e h

pub product_collected : {how : How} (w n m k : ℕ) (f s : List ℕ) (room : ℕ) (r : Option ℕ) (keys : List ℕ) → how ≡ Intersection → Sections how w n m k f s
    → Collected room (map key (walk m (records w f) (records w s) (n * m ∷ k ∷ stack_bounds w (n * m)) [])) keys r → Collected room (keys_of (section_records how n m (records w f) (records w s))) keys r
unfolding section_records
product_collected w n m k f s room r keys e h c =
    subst (λ x. Collected room (keys_of (section_records x n m (records w f) (records w s))) keys r) (sym e)
    (subst (λ xs. Collected room (map key xs) keys r) (product_section e h).2 c)

pub sum_collected : {how : How} (w n m : ℕ) (f s : List ℕ) (room : ℕ) (r : Option ℕ) (keys : List ℕ) → how ≡ Union → Collected room (keys_of (both_records n (records w f) (records w s))) keys r
    → Collected room (keys_of (section_records how n m (records w f) (records w s))) keys r
unfolding section_records
sum_collected w n m f s room r keys e c = subst (λ x. Collected room (keys_of (section_records x n m (records w f) (records w s))) keys r) (sym e) c

-- as many keys as there is room for
pub held-few : {keys : List ℕ} {r : ℕ} {xs : List ℕ} → Holds keys r xs → r ≤ length keys
held-few {keys} {r} h = omega (arith, h.count, ap length h.same, length-take r keys)

-- ---- written by keys

-- bytes put to the front of a buffer
put_front : (xs old : List ℕ) (n : ℕ) {now : List ℕ} → length xs ≡ n → now ≡ over xs old → Holds now n xs
unfolding over
put_front xs old n l e = record { count = sym l; same = ap (take n) e ∙ take_at xs (drop (length xs) old) n l }

pub states-held : (how : How) (f s old : List ℕ) {n : ℕ} {now : List ℕ} → n ≡ state_count how (length f) (length s) → now ≡ over (state_bytes how f s) old → Holds now n (state_bytes how f s)
states-held how f s old {n} e p = put_front (state_bytes how f s) old n (states.bytes-long f s how ∙ sym e) p

module _ (how : How) (v : ℕ) (y f s xs ys zs : List ℕ) {n : ℕ} (e : n ≡ state_count how (length f) (length s)) where
  abbrev keyed : List ℕ
  keyed = bytes_of (keyed_table v y (state_bytes how f s) xs ys zs)

  abbrev size : ℕ
  size = length y + n + (3 * length xs + 3 * length ys + 4 * length zs) + 12

  whole : length keyed ≡ size
  whole = omega (arith, bytes-long v y (state_bytes how f s) xs ys zs, states.bytes-long f s how)

  pub short : (out : List ℕ) → length out < size → record { answer = Err OutputLength; out = out } ≡ written_for keyed out
  unfolding written_for
  short out h = sym (rw (lt-leb (length keyed) (length out) (omega (arith, whole)), written_for))

  module _ {vs : List ℕ} (h : Holds vs n (state_bytes how f s)) (out : List ℕ) (l : size ≤ length out) where
    same_bytes : bytes_of (keyed_table v y (take n vs) xs ys zs) ≡ keyed
    same_bytes = λ j. bytes_of (keyed_table v y (h.same j) xs ys zs)

    pub room : length (bytes_of (keyed_table v y (take n vs) xs ys zs)) ≤ length out
    room = omega (arith, ap length same_bytes, whole)

    pub put : {out' : List ℕ} → out' ≡ over (bytes_of (keyed_table v y (take n vs) xs ys zs)) out → record { answer = Ok size; out = out' } ≡ written_for keyed out
    unfolding written_for
    put p = sym (rw (le-leb (length keyed) (length out) (omega (arith, whole)), written_for) (λ j. record { answer = Ok (whole j); out = sym (p ∙ ap (λ x. over x out) same_bytes) j }))

-- ---- what two tables that were read have of it

section_ready : (how : How) {w n m k : ℕ} {f s : List ℕ} → (w ≡ 3) ⊎ (w ≡ 4) → state_count how n m ≤ state_most → n ≤ state_most → m ≤ state_most → 1 ≤ m → k ≤ symbol_most → Lent w n f → Lent w m s
    → walk m (records w f) (records w s) (n * m ∷ k ∷ stack_bounds w (n * m)) [] ≡ pair_records m (records w f) (records w s) → Sections how w n m k f s
unfolding state_count
section_ready (Intersection) e z a b o k l l' w = (record { width = e; some-second = o; firsts-few = a; seconds-few = b; few = z; first-lent = l; second-lent = l' }, k, w)
section_ready (Union) e z a b o k l l' w = record { width = e; few = a; first-lent = lent-more l a; second-lent = lent-more l' b }

pub count_combined : (how : How) (t u : Table) → count (combined_table how t u) ≡ state_count how (count t) (count u)
unfolding combined_table state_count
count_combined (Intersection) t u = intersection_count t u
count_combined (Union) t u = union_count t u

module _ (how : How) (t u : Table) where
  version-same : later_version t.version u.version ≡ (combined_table how t u).version
  unfolding combined_table intersection_table union_table
  version-same = go how
    where
      go : (how : How) → later_version t.version u.version ≡ (combined_table how t u).version
      go (Intersection) = refl
      go (Union) = refl

  states-same : state_bytes how t.states u.states ≡ (combined_table how t u).states
  unfolding state_bytes combined_table intersection_table union_table
  states-same = go how
    where
      go : (how : How) → state_bytes how t.states u.states ≡ (combined_table how t u).states
      go (Intersection) = refl
      go (Union) = refl

  internals-same : {n m : ℕ} {rs ss : List (List ℕ)} → n ≡ count t → m ≡ count u → rs ≡ t.internals → ss ≡ u.internals → section_records how n m rs ss ≡ (combined_table how t u).internals
  unfolding section_records combined_table intersection_table union_table
  internals-same {n} {m} {rs} {ss} a b d e = go how
    where
      go : (how : How) → section_records how n m rs ss ≡ (combined_table how t u).internals
      go (Intersection) = λ i. pair_records (b i) (d i) (e i)
      go (Union) = λ i. both_records (a i) (d i) (e i)

  calls_same : {n m : ℕ} {rs ss : List (List ℕ)} → n ≡ count t → m ≡ count u → rs ≡ t.calls → ss ≡ u.calls → section_records how n m rs ss ≡ (combined_table how t u).calls
  unfolding section_records combined_table intersection_table union_table
  calls_same {n} {m} {rs} {ss} a b d e = go how
    where
      go : (how : How) → section_records how n m rs ss ≡ (combined_table how t u).calls
      go (Intersection) = λ i. pair_records (b i) (d i) (e i)
      go (Union) = λ i. both_records (a i) (d i) (e i)

  returns-same : {n m : ℕ} {rs ss : List (List ℕ)} → n ≡ count t → m ≡ count u → rs ≡ t.returns → ss ≡ u.returns → section_records how n m rs ss ≡ (combined_table how t u).returns
  unfolding section_records combined_table intersection_table union_table
  returns-same {n} {m} {rs} {ss} a b d e = go how
    where
      go : (how : How) → section_records how n m rs ss ≡ (combined_table how t u).returns
      go (Intersection) = λ i. pair_records (b i) (d i) (e i)
      go (Union) = λ i. both_records (a i) (d i) (e i)

-- the records of a table are bytes
fit-bytes : {t : Table} {kind w : ℕ} {rs : List (List ℕ)} → count t ≤ state_most → length t.symbols ≤ symbol_most → Fit t kind w rs → (r : List ℕ) → Memᴰ r rs → Same w r
fit-bytes {t} {kind} {w} {rs} a b f r d = (f.wide r d, bytes)
  where
    bytes : Bytes r
    bytes (suc zero) = omega (arith, (f.symbol r d).0)
    bytes zero = go (dec_lt 0 w)
      where
        go : Dec (0 < w) → get_or r 0 0 < 256
        go (yes l) = omega (arith, f.states r d 0 (λ z. omega (arith, z)) l)
        go (no l) = omega (arith, get_or-eq_default r 0 {n = 0} (omega (arith, f.wide r d)))
    bytes (suc (suc i)) = go (dec_lt (suc (suc i)) w)
      where
        go : Dec (suc (suc i) < w) → get_or r (suc (suc i)) 0 < 256
        go (yes l) = omega (arith, f.states r d (suc (suc i)) (λ z. omega (arith, z)) l)
        go (no l) = omega (arith, get_or-eq_default r 0 {n = suc (suc i)} (omega (arith, f.wide r d)))

module _ {how : How} {b c : List ℕ} {x y : Starts} (h : Combined how b x c y) where
  abbrev t : Table
  t = table_of b

  abbrev u : Table
  u = table_of c

  abbrev T : Table
  T = combined_table how t u

  wf : WellFormed h.limits t
  wf = read_well_formed h.limits b h.both.first.readable

  wf' : WellFormed h.limits u
  wf' = read_well_formed h.limits c h.both.second.readable

  symbols-most : length t.symbols ≤ symbol_most
  symbols-most = omega (arith, (formed_tested wf).symbols-few, (limits-within wf.limits).symbols)

  states-most : state_count how (count t) (count u) ≤ state_most
  unfolding states_few
  states-most = omega (arith, leb-true (count T) h.limits.states h.states, count_combined how t u, (limits-within wf.limits).states)

  pub long-first : 12 ≤ length b
  long-first = (read-passed h.limits b h.both.first.readable).long

  pub long-second : 12 ≤ length c
  long-second = (read-passed h.limits c h.both.second.readable).long

  module _ {sy f s : List ℕ} (e1 : sy ≡ part_of b x Symbols) (e2 : f ≡ part_of b x States) (e3 : s ≡ part_of c y States) where
    firsts : length f ≡ count t
    firsts = ap length (states-read h.both.first e2)

    seconds : length s ≡ count u
    seconds = ap length (states-read h.both.second e3)

    named : length sy ≡ length t.symbols
    named = ap length (symbols-read h.both.first e1)

    total : state_count how (length f) (length s) ≤ state_most
    total = subst (λ (z : ℕ). state_count how z (length s) ≤ state_most) (sym firsts) (subst (λ (z : ℕ). state_count how (count t) z ≤ state_most) (sym seconds) states-most)

    ready : {w : ℕ} {p q : List ℕ} → (w ≡ 3) ⊎ (w ≡ 4) → Lent w (length f) p → Lent w (length s) q
        → walk (length s) (records w p) (records w q) (length f * length s ∷ length sy ∷ stack_bounds w (length f * length s)) [] ≡ pair_records (length s) (records w p) (records w q)
        → Sections how w (length f) (length s) (length sy) p q
    ready e l l' w = section_ready how e total (omega (arith, firsts, most-states wf)) (omega (arith, seconds, most-states wf')) (omega (arith, seconds, (formed_tested wf').some-state)) (omega (arith, named, symbols-most)) l l' w

    lent-first : LentParts (part_of b x States) (part_of b x Internals) (part_of b x Calls) (part_of b x Returns)
    lent-first = parts-lent b h.both.first refl refl refl refl

    lent-second : LentParts (part_of c y States) (part_of c y Internals) (part_of c y Calls) (part_of c y Returns)
    lent-second = parts-lent c h.both.second refl refl refl refl

    own : {w : ℕ} {p q : List ℕ} → p ≡ q → Lent w (length (part_of b x States)) q → Lent w (length f) p
    own {w} {p} {q} e l = subst (λ z. Lent w (length f) z) (sym e) (subst (λ z. Lent w (length z) q) (sym e2) l)

    other : {w : ℕ} {p q : List ℕ} → p ≡ q → Lent w (length (part_of c y States)) q → Lent w (length s) p
    other {w} {p} {q} e l = subst (λ z. Lent w (length s) z) (sym e) (subst (λ z. Lent w (length z) q) (sym e3) l)

    -- the walk of a section, as the code has its parts
    walked : (w : ℕ) (p q : List ℕ) {rs ss : List (List ℕ)} → records w p ≡ rs → records w q ≡ ss
        → pair_records (count u) rs ss ≡ walk (count u) rs ss (count t * count u ∷ length t.symbols ∷ stack_bounds w (count t * count u)) []
        → walk (length s) (records w p) (records w q) (length f * length s ∷ length sy ∷ stack_bounds w (length f * length s)) [] ≡ pair_records (length s) (records w p) (records w q)
    walked w p q i j e =
        (λ k. walk (seconds k) (i k) (j k) (firsts k * seconds k ∷ named k ∷ stack_bounds w (firsts k * seconds k)) [])
        ∙ sym e
        ∙ (λ k. pair_records (sym seconds k) (sym i k) (sym j k))

    module _ (p q : List ℕ) where
      pub internals-ready : p ≡ part_of b x Internals → q ≡ part_of c y Internals → Sections how 3 (length f) (length s) (length sy) p q
      unfolding intersection_table
      internals-ready i j = ready (inl refl) (own i lent-first.internals-lent) (other j lent-second.internals-lent) (walked 3 p q (internals-read h.both.first i) (internals-read h.both.second j) (sections_walked wf wf').internals)

      pub calls-ready : p ≡ part_of b x Calls → q ≡ part_of c y Calls → Sections how 3 (length f) (length s) (length sy) p q
      unfolding intersection_table
      calls-ready i j = ready (inl refl) (own i lent-first.calls-lent) (other j lent-second.calls-lent) (walked 3 p q (calls-read h.both.first i) (calls-read h.both.second j) (sections_walked wf wf').calls)

      pub returns-ready : p ≡ part_of b x Returns → q ≡ part_of c y Returns → Sections how 4 (length f) (length s) (length sy) p q
      unfolding intersection_table
      returns-ready i j = ready (inr refl) (own i lent-first.returns-lent) (other j lent-second.returns-lent) (walked 4 p q (returns-read h.both.first i) (returns-read h.both.second j) (sections_walked wf wf').returns)

    -- ---- 36, kind by kind

    module _ (out : List ℕ) where
      abbrev refused : QuotientDone
      refused = record { answer = Err LoadRecords; out = out }

      too_many : records_few T ≡ false → refused ≡ combined_for how b c out
      unfolding combined_for
      too_many e = sym (rw (e, combined_for))

      abbrev one : Bool
      one = leb (length T.internals) 1024

      abbrev two : Bool
      two = leb (length T.calls) 1024

      abbrev three : Bool
      three = leb (length T.returns) 4096

      few-first : (a b c : Bool) → a ≡ false → (a && (b && c)) ≡ false
      few-first a b c e = rw e

      few-second : (a b c : Bool) → b ≡ false → (a && (b && c)) ≡ false
      few-second true b c e = rw e
      few-second false b c e = refl

      few_third : (a b c : Bool) → c ≡ false → (a && (b && c)) ≡ false
      few_third true true c e = e
      few_third true false c e = refl
      few_third false b c e = refl

      module _ {p q : List ℕ} (i : p ≡ part_of b x Internals) (j : q ≡ part_of c y Internals) where
        internals_are : section_records how (length f) (length s) (records 3 p) (records 3 q) ≡ T.internals
        internals_are = internals-same how t u firsts seconds (internals-read h.both.first i) (internals-read h.both.second j)

        pub internals_held : {ks : List ℕ} {r : ℕ} → Holds ks r (keys_of (section_records how (length f) (length s) (records 3 p) (records 3 q))) → Holds ks r (keys_of T.internals)
        internals_held {ks} {r} d = subst (λ xs. Holds ks r (keys_of xs)) internals_are d

        pub internals_many : 1024 < length (keys_of (section_records how (length f) (length s) (records 3 p) (records 3 q))) → refused ≡ combined_for how b c out
        unfolding records_few
        internals_many l = too_many (few-first one two three (lt-leb (length T.internals) 1024 (omega (arith, l, ap (λ xs. length (keys_of xs)) internals_are, length-map T.internals key))))

      module _ {p q : List ℕ} (i : p ≡ part_of b x Calls) (j : q ≡ part_of c y Calls) where
        calls_are : section_records how (length f) (length s) (records 3 p) (records 3 q) ≡ T.calls
        calls_are = calls_same how t u firsts seconds (calls-read h.both.first i) (calls-read h.both.second j)

        pub calls_held : {ks : List ℕ} {r : ℕ} → Holds ks r (keys_of (section_records how (length f) (length s) (records 3 p) (records 3 q))) → Holds ks r (keys_of T.calls)
        calls_held {ks} {r} d = subst (λ xs. Holds ks r (keys_of xs)) calls_are d

        pub calls_many : 1024 < length (keys_of (section_records how (length f) (length s) (records 3 p) (records 3 q))) → refused ≡ combined_for how b c out
        unfolding records_few
        calls_many l = too_many (few-second one two three (lt-leb (length T.calls) 1024 (omega (arith, l, ap (λ xs. length (keys_of xs)) calls_are, length-map T.calls key))))

      module _ {p q : List ℕ} (i : p ≡ part_of b x Returns) (j : q ≡ part_of c y Returns) where
        returns_are : section_records how (length f) (length s) (records 4 p) (records 4 q) ≡ T.returns
        returns_are = returns-same how t u firsts seconds (returns-read h.both.first i) (returns-read h.both.second j)

        pub returns_held : {ks : List ℕ} {r : ℕ} → Holds ks r (keys_of (section_records how (length f) (length s) (records 4 p) (records 4 q))) → Holds ks r (keys_of T.returns)
        returns_held {ks} {r} d = subst (λ xs. Holds ks r (keys_of xs)) returns_are d

        pub returns_many : 4096 < length (keys_of (section_records how (length f) (length s) (records 4 p) (records 4 q))) → refused ≡ combined_for how b c out
        unfolding records_few
        returns_many l = too_many (few_third one two three (lt-leb (length T.returns) 4096 (omega (arith, l, ap (λ xs. length (keys_of xs)) returns_are, length-map T.returns key))))

    -- ---- no more than a file permits

    module _ {k1 k2 k3 : List ℕ} {r1 r2 r3 : ℕ} (h1 : Holds k1 r1 (keys_of T.internals)) (l1 : length k1 ≡ 1024) (h2 : Holds k2 r2 (keys_of T.calls)) (l2 : length k2 ≡ 1024) (h3 : Holds k3 r3 (keys_of T.returns)) (l3 : length k3 ≡ 4096) where
      records-few : records_few T ≡ true
      unfolding records_few
      records-few = and_of (le-leb (length T.internals) 1024 (omega (arith, held-few h1, h1.count, length-map T.internals key))) (and_of (le-leb (length T.calls) 1024 (omega (arith, held-few h2, h2.count, length-map T.calls key))) (le-leb (length T.returns) 4096 (omega (arith, held-few h3, h3.count, length-map T.returns key))))

      formed : WellFormed h.limits T
      formed = combined_well_formed wf wf' how h.symbols h.states records-few

      pub few_keys : Few how sy f s (take r1 k1) (take r2 k2) (take r3 k3)
      few_keys = record {
        symbols-few = omega (arith, named, symbols-most);
        firsts-few = omega (arith, firsts, most-states wf);
        seconds-few = omega (arith, seconds, most-states wf');
        states-few = total;
        moves-few = omega (arith, ap length h1.same, h1.count, held-few h1);
        pushes_few = omega (arith, ap length h2.same, h2.count, held-few h2);
        pops_few = omega (arith, ap length h3.same, h3.count, held-few h3);
      }

      back : {kind w : ℕ} {rs : List (List ℕ)} → w ≤ 4 → Fit T kind w rs → map (record_of w) (keys_of rs) ≡ rs
      back {kind} {w} {rs} l g = keys_back w l rs (fit-bytes (most-states formed) (omega (arith, ap length (combined_symbols how t u), symbols-most)) g)

      same_table : {v : ℕ} → v ≡ later_version (version b) (version c) → bytes_of (keyed_table v sy (state_bytes how f s) (take r1 k1) (take r2 k2) (take r3 k3)) ≡ combined_bytes how b c
      unfolding combined_bytes table_of
      same_table e = λ j. bytes_of (record {
        version = (e ∙ version-same how t u) j;
        symbols = (symbols-read h.both.first e1 ∙ sym (combined_symbols how t u)) j;
        states = ((λ k. state_bytes how (states-read h.both.first e2 k) (states-read h.both.second e3 k)) ∙ states-same how t u) j;
        internals = (ap (map (record_of 3)) h1.same ∙ back (omega arith) (internals-fit formed)) j;
        calls = (ap (map (record_of 3)) h2.same ∙ back (omega arith) (calls-fit formed)) j;
        returns = (ap (map (record_of 4)) h3.same ∙ back (omega arith) (returns-fit formed)) j;
      })

      pub written :
          {v : ℕ} (out : List ℕ) {done : QuotientDone} → v ≡ later_version (version b) (version c)
          → done ≡ written_for (bytes_of (keyed_table v sy (state_bytes how f s) (take r1 k1) (take r2 k2) (take r3 k3))) out → done ≡ combined_for how b c out
      unfolding combined_for
      written {v} out e d = d ∙ ap (λ z. written_for z out) (same_table e) ∙ sym (rw (records-few, combined_for))
