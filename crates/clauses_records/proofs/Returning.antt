-- The clauses of returns: one return with one state and one top, the tops of a state in ascending order, and a whole record by the bytes that the
-- code reads. Assumes nothing.
use mathlib.Core.Path.{◌≡◌, refl, sym, ap, ◌∙◌, subst}
use mathlib.Core.Logic.{◌≢◌}
use mathlib.Core.Bool.{Bool, true, false, ◌&&◌}
use mathlib.Core.List.{List, [], ◌∷◌, ◌++◌, map}
use Prim.Native.Nat.{ℕ, ◌-◌, ◌^◌, ◌≤◌, ◌<◌}
use native.Mathlib.Omega.{arith}
use lib.ListN.{length, get_or}
use lib.Pow.{pow_pos}
use lib.Count.{count_trailing_zeros}
use lib.Dec.{eqb}
use Rattle.lists.specs.Lists.{concat_map, filter, upto}
use Rattle.lists.specs.Bits.{has_bit, has}
use Rattle.lists.proofs.Bits.{no_bit}
use Rattle.lists.proofs.Lowest.{LowestBit, trailing_lowest, filter_none, filter-lowest, bit_le}
use Rattle.limits.specs.Limits.{state_most}
use Rattle.table_spec.specs.File.{records}
use Rattle.table_spec.specs.Language.{targets}
use Rattle.table_spec.proofs.Bytes.{records-wide}
use Rattle.table_find.specs.Spans.{starts_with}
use Rattle.tops_spec.specs.Tops.{live}
use Rattle.clauses_spec.specs.Clauses.{premise, matching, return_clause, top_states}
use Rattle.clauses_emit.specs.declared.literals.Literals.{Literals}
use Rattle.clauses_records.specs.declared.returns.Return.{Return}
use Rattle.clauses_emit.specs.Emit.{literals_of, with_all, Holds, matching_from, Ascending, last_bytes, State, emit}
use Rattle.clauses_targets.specs.Targets.{Premised}
use Rattle.table_index.specs.Index.{Lent}
use Rattle.table_index.proofs.Blocks.{starts_shorter, filter-within}
use Rattle.clauses_records.specs.Returns.{return_of, live_record, return_clauses_by}
use Rattle.clauses_emit.proofs.Emitting.{Coming, coming, come_on, come_as, come_all, come}
use Rattle.clauses_emit.proofs.Stepping.{Along, along-all, along-here}
use Rattle.clauses_emit.proofs.Tidying.{matching-two}
use Rattle.clauses_records.proofs.Few.{rising, few-targets}
use Rattle.clauses_records.proofs.Moving.{premise-more, none_odd, premise_odd}

-- ---- one clause

module _ (s : List ℕ) (x : Return) (q u : ℕ) where
  pub return_self : (t : State) {b : Bool} → b ≡ (eqb q x.from && eqb u x.under) → b ≡ true → t ≡ emit (return_of (records 4 s) x q u) t
  unfolding return_clause emit
  return_self t e f = let g : (eqb q x.from && eqb u x.under) ≡ true = sym e ∙ f in sym (rw (g, return_clause))

  module _ (found : List ℕ) {none c d : Literals} (f : records 4 found ≡ filter (starts_with (q ∷ x.symbol ∷ u ∷ [])) (records 4 s))
      (z : Holds none []) (h : Holds c (with_all (literals_of none) (premise x.from q))) (k : Holds d (with_all (literals_of c) (premise x.under u))) where
    pub return_premised : Lent 4 state_most s → Premised 4 found d
    return_premised o = record {
      some-width = omega arith;
      few = omega (arith, ap length f, few-targets (q ∷ x.symbol ∷ u ∷ []) state_most s o.in_order (λ r m. o.states r m 3 (omega arith) (omega arith)));
      two = omega (arith, premise-more none x.from q h, premise-more c x.under u k, z.count);
      negative = premise_odd c x.under u (premise_odd none x.from q (none_odd z) h) k;
      ascending = subst (λ (rs : List (List ℕ)). Ascending 0 (map (λ r. get_or r 3 0) rs)) (sym f) (rising (q ∷ x.symbol ∷ u ∷ []) (records 4 s) (records-wide 4 s) o.in_order);
    }

    pub return-other :
        (t : State) {next : State} {b : Bool} → b ≡ (eqb q x.from && eqb u x.under) → b ≡ false
        → next ≡ emit (matching_from (literals_of d) x.to (last_bytes 4 found)) t → next ≡ emit (return_of (records 4 s) x q u) t
    unfolding return_clause targets starts_with
    return-other t e g n =
        let literals : literals_of d ≡ with_all (with_all [] (premise x.from q)) (premise x.under u) = k.same ∙ ap (λ ls. with_all ls (premise x.under u)) (h.same ∙ ap (λ ls. with_all ls (premise x.from q)) z.same) in
        let v : (eqb q x.from && eqb u x.under) ≡ false = sym e ∙ g in
        n
        ∙ (λ i. emit (matching_from (literals i) x.to (map (λ r. get_or r 3 0) (f i))) t)
        ∙ ap (λ cs. emit cs t) (sym (matching-two x.from q x.under u x.to (targets (records 4 s) (q ∷ x.symbol ∷ u ∷ []))))
        ∙ sym (rw (v, return_clause))

-- ---- the tops of a word that are below n, in ascending order

module _ (g : ℕ → List (List ℕ)) (n : ℕ) where
  pub record Toward (all : List (List ℕ)) (start : State) (rest : ℕ) (now : State) : Type 0 where
    pub small : rest < 2 ^ 64
    pub coming : Coming all start (concat_map g (filter (has_bit rest) (upto n))) now

  pub toward : (word : ℕ) (start : State) → word < 2 ^ 64 → Toward (concat_map g (filter (has_bit word) (upto n))) start word start
  toward word start l = record { small = l; coming = coming _ start }

module _ {g : ℕ → List (List ℕ)} {n : ℕ} {all : List (List ℕ)} {start : State} {rest : ℕ} {now : State} (w : Toward g n all start rest now) where
  module _ {u : ℕ} (d : rest ≢ 0) (e : u ≡ count_trailing_zeros 64 rest) where
    pub low : LowestBit rest u
    low = rw e (trailing_lowest 64 rest w.small d).1

    -- what is left is less
    pub toward_less : rest - 2 ^ count_trailing_zeros 64 rest < rest
    toward_less = omega (arith, pow_pos (count_trailing_zeros 64 rest), bit_le rest (count_trailing_zeros 64 rest) (trailing_lowest 64 rest w.small d).1.own)

    pub toward_on : {next : State} {later : ℕ} → u < n → next ≡ emit (g u) now → later ≡ rest - 2 ^ count_trailing_zeros 64 rest → Toward g n all start later next
    toward_on {next} {later} h f l =
        let k : rest - 2 ^ u ≡ later = ap (λ x. rest - 2 ^ x) e ∙ sym l in
        let step : filter (has_bit rest) (upto n) ≡ u ∷ filter (has_bit later) (upto n) = filter-lowest n rest u low h ∙ ap (λ v. u ∷ filter (has_bit v) (upto n)) k in
        record { small = omega (arith, w.small, toward_less); coming = come_on (g u) _ (come_as (ap (concat_map g) step) w.coming) f }

    -- bottom is no state: no top is left
    pub toward_past : n ≤ u → now ≡ emit all start
    toward_past h = come (come_as (ap (concat_map g) (filter_none n rest (λ x l b. let k = low.least x b in omega arith))) w.coming)

  pub toward_done : rest ≡ 0 → now ≡ emit all start
  toward_done e = come (come_as (ap (concat_map g) (ap (λ v. filter (has_bit v) (upto n)) e ∙ filter_none n 0 (λ x l. no_bit x))) w.coming)

-- ---- one record

-- the clause by a part that has all the records that it is about is the one by all records
of_part :
    (s part : List ℕ) (x : Return) (q u : ℕ) (g : List ℕ → Bool) → ((r : List ℕ) → starts_with (q ∷ x.symbol ∷ u ∷ []) r ≡ true → g r ≡ true)
    → records 4 part ≡ filter g (records 4 s) → return_of (records 4 part) x q u ≡ return_of (records 4 s) x q u
unfolding return_clause targets starts_with
of_part s part x q u g h e =
    let own = starts_with (q ∷ x.symbol ∷ u ∷ []) in
    let f : filter own (records 4 part) ≡ filter own (records 4 s) = ap (filter own) e ∙ filter-within own g (records 4 s) h in
    λ i. elim (eqb q x.from && eqb u x.under) as (λ _. List (List ℕ)) [ true ↦ [] | false ↦ matching (premise x.from q ++ premise x.under u) x.to (map (λ r. get_or r 3 0) (f i)) ]

-- by the returns over the top
pub of_top :
    (s part : List ℕ) (x : Return) (q u : ℕ) → records 4 part ≡ filter (starts_with (q ∷ x.symbol ∷ u ∷ [])) (records 4 s) → (t : State) {next : State}
    → next ≡ emit (return_of (records 4 part) x q u) t → next ≡ emit (return_of (records 4 s) x q u) t
of_top s part x q u e t f = f ∙ ap (λ cs. emit cs t) (of_part s part x q u (starts_with (q ∷ x.symbol ∷ u ∷ [])) (λ r h. h) e)

-- the tops of a state are those of its word, which the code reads at i
pub of_word : (s part : List ℕ) (x : Return) (q : ℕ) → records 4 part ≡ filter (starts_with (q ∷ x.symbol ∷ [])) (records 4 s) → (f : List ℕ) (n : ℕ) {i : ℕ} (t : State) {next : State} → i ≡ q
    → next ≡ emit (concat_map (λ u. return_of (records 4 part) x q u) (filter (has_bit (get_or f i 0)) (upto n))) t → next ≡ emit (concat_map (λ u. return_of (records 4 s) x q u) (top_states f n q)) t
unfolding top_states has
of_word s part x q d f n t e h = h ∙ (λ j. emit (concat_map (λ u. of_part s part x q u (starts_with (q ∷ x.symbol ∷ [])) (starts_shorter q x.symbol u) d j) (filter (has_bit (get_or f (e j) 0)) (upto n))) t)

module _ (rs : List (List ℕ)) (f : List ℕ) (n : ℕ) (x : Return) (t : State) {b : Bool} (e : b ≡ has f x.from x.under) where
  pub dead : b ≡ false → t ≡ emit (live_record rs f n x) t
  unfolding live_record emit
  dead g = let h : has f x.from x.under ≡ false = sym e ∙ g in sym (rw (h, live_record))

  pub alive : {next : State} → b ≡ true → next ≡ emit (concat_map (λ q. concat_map (λ u. return_of rs x q u) (top_states f n q)) (upto n)) t → next ≡ emit (live_record rs f n x) t
  unfolding live_record
  alive g k = let h : has f x.from x.under ≡ true = sym e ∙ g in k ∙ sym (rw (h, live_record))

concat_map-filter : {A : Type 0} (test : A → Bool) (g : A → List (List ℕ)) (xs : List A) → concat_map g (filter test xs) ≡ concat_map (λ y. elim (test y) [ true ↦ g y | false ↦ [] ]) xs
unfolding filter
concat_map-filter test g [] = refl
concat_map-filter test g (y ∷ xs) = go (test y) refl (concat_map-filter test g xs)
  where
    go : (t : Bool) → test y ≡ t → concat_map g (filter test xs) ≡ concat_map (λ y. elim (test y) [ true ↦ g y | false ↦ [] ]) xs
        → concat_map g (filter test (y ∷ xs)) ≡ elim t as (λ _. List (List ℕ)) [ true ↦ g y | false ↦ [] ] ++ concat_map (λ y. elim (test y) [ true ↦ g y | false ↦ [] ]) xs
    go true p ih = rw (p, filter) (ap (λ cs. g y ++ cs) ih)
    go false p ih = rw (p, filter) ih

-- a record's fields
abbrev pub fields_of : List ℕ → Return
fields_of r = record { from = get_or r 0 0; symbol = get_or r 1 0; under = get_or r 2 0; to = get_or r 3 0 }

module _ (f : List ℕ) (n : ℕ) (s : List ℕ) where
  pub return-all : (start : State) {rest : List ℕ} → rest ≡ s → Along (λ r. live_record (records 4 s) f n (fields_of r)) 4 s (return_clauses_by f (records 4 s) n) start rest start
  unfolding return_clauses_by live_record live
  return-all start d = let w = along-all (λ r. live_record (records 4 s) f n (fields_of r)) 4 s start d in record { among = w.among; coming = come_all (sym (concat_map-filter (live f) (λ r. concat_map (λ q. concat_map (λ u. return_of (records 4 s) (fields_of r) q u) (top_states f n q)) (upto n)) (records 4 s))) w.coming }

module _ {s : List ℕ} {g : List ℕ → List (List ℕ)} {all : List (List ℕ)} {start : State} {rest : List ℕ} {now : State} (i : Along g 4 s all start rest now)
    (x after : List ℕ) (e : rest ≡ x ++ after) (h : length x ≡ 4) where
  pub from-few : Lent 4 state_most s → get_or x 0 0 < state_most
  from-few o = o.states x (along-here i x after (omega arith) e h) 0 (omega arith) (omega arith)

  pub under-few : Lent 4 state_most s → get_or x 2 0 < state_most
  under-few o = o.states x (along-here i x after (omega arith) e h) 2 (omega arith) (omega arith)
