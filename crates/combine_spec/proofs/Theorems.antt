-- What a combination promises holds of the operation's answer, from the lent bytes to the written ones. Assumes nothing.
use mathlib.Core.Path.{◌≡◌, sym, ap, ◌∙◌, subst}
use mathlib.Core.Logic.{◌↔◌, inl, inr}
use mathlib.Core.Bool.{true}
use mathlib.Core.List.{List, [], ◌∷◌}
use Prim.Native.Nat.{ℕ, ◌≤◌}
use native.Mathlib.Omega.{arith}
use lib.ListN.{length, take}
use lib.Dec.{leb}
use borrow.Author.Tests.{leb-true, le-leb}
use Rattle.lists.specs.Lists.{first_failed}
use Rattle.lists.proofs.Members.{same_true, same_of}
use Rattle.lists.proofs.Refusals.{passed, passes, no_test, stage-passed, stage-passes}
use Rattle.vpa.specs.Automata.{Accepts, EndsIn}
use Rattle.limits.specs.declared.Limits.{Limits}
use Rattle.table_spec.specs.File.{Table, table_of}
use Rattle.table_spec.specs.Reading.{Readable, WellFormed}
use Rattle.table_spec.specs.Language.{automaton, automaton_of, AcceptsWord, SameWords}
use Rattle.table_spec.proofs.Bytes.{bytes-length, read_well_formed, table_of-bytes, read-bytes}
use Rattle.table_spec.proofs.Passed.{formed-wide, read-known}
use Rattle.quotient_spec.specs.Quotient.{QuotientDone}
use Rattle.quotient_spec.specs.Demands.{OnWriting}
use Rattle.refusals.specs.declared.Refusal.{Refusal}
use Rattle.refusals.specs.declared.Refusal.TheVariants.{Symbols, Load, LoadRecords, OutputLength}
use Rattle.refusals.specs.Refusals.{Known}
use Rattle.refusals.proofs.Numbers.{known_of, failed_known, none_known}
use Rattle.std.specs.Prelude.{Result}
use Rattle.quotient_spec.proofs.Writing.{on_writing, says_length}
use Rattle.fit_spec.specs.Fit.{same_symbols}
use Rattle.generate_spec.specs.Loads.{records_few}
use Rattle.combine_spec.specs.Combine.{combined_table, combined_bytes, states_few, combine_number, combine_of, CombineSays}
use Rattle.combine_spec.specs.Demands.{Combined, MarkWords, CombinesWords, CombinesMarks, Combination, Promises, EitherOrder}
use Rattle.combine_spec.specs.declared.How.{How}
use Rattle.combine_spec.specs.declared.How.TheVariants.{Intersection, Union}
use Rattle.combine_spec.proofs.Table.{combined_symbols, combined_well_formed}
use Rattle.combine_spec.proofs.Swapped.{same-states-few, same-records-few, swapped_size}
use Rattle.combine_spec.proofs.Words.{combined_words, combined_marks}

-- both, or one of them, the other way round, and of one alone
combined_swap : (X Y : Type 0) (how : How) → Combined how X Y → Combined how Y X
combined_swap X Y (Intersection) (x, y) = (y, x)
combined_swap X Y (Union) (inl x) = inr x
combined_swap X Y (Union) (inr y) = inl y

combined_both : (X : Type 0) (how : How) → Combined how X X → X
combined_both X (Intersection) (x, y) = x
combined_both X (Union) (inl x) = x
combined_both X (Union) (inr y) = y

combined_one : (X : Type 0) (how : How) → X → Combined how X X
combined_one X (Intersection) x = (x, x)
combined_one X (Union) x = inl x

-- 39, the refusals of both, 37, 35 and 36 do not apply
pub record Combinable (L : Limits) (how : How) (b c : List ℕ) : Type 0 where
  pub first : Readable L b
  pub second : Readable L c
  pub symbols : (table_of b).symbols ≡ (table_of c).symbols
  pub states : states_few L (combined_table how (table_of b) (table_of c)) ≡ true
  pub records : records_few (combined_table how (table_of b) (table_of c)) ≡ true

module _ (L : Limits) (how : How) (b c : List ℕ) (h : Combinable L how b c) where
  wf : WellFormed L (table_of b)
  wf = read_well_formed L b h.first

  wf' : WellFormed L (table_of c)
  wf' = read_well_formed L c h.second

  formed : WellFormed L (combined_table how (table_of b) (table_of c))
  formed = combined_well_formed wf wf' how h.symbols h.states h.records

  holds : table_of (combined_bytes how b c) ≡ combined_table how (table_of b) (table_of c)
  unfolding combined_bytes
  holds = table_of-bytes L (combined_table how (table_of b) (table_of c)) formed

  words : CombinesWords how b c (combined_bytes how b c)
  words = record { each = λ w. subst (λ (t : Table). Accepts (automaton t) w ↔ Combined how (AcceptsWord b w) (AcceptsWord c w)) (sym holds) (combined_words wf wf' how h.symbols w) }

  marks : CombinesMarks how b c (combined_bytes how b c)
  marks = record { each = λ k w. subst (λ (t : Table). EndsIn (automaton t) k w ↔ MarkWords how (automaton_of b) (automaton_of c) k w) (sym holds) (combined_marks wf wf' how h.symbols k w) }

  itself : b ≡ c → SameWords b (combined_bytes how b c)
  itself e = record {
    each = λ w. (
      λ a. (words.each w).1 (subst (λ (d : List ℕ). Combined how (AcceptsWord b w) (AcceptsWord d w)) e (combined_one (AcceptsWord b w) how a)),
      λ a. combined_both (AcceptsWord b w) how (subst (λ (d : List ℕ). Combined how (AcceptsWord b w) (AcceptsWord d w)) (sym e) ((words.each w).0 a)),
    );
  }

-- "the order of the two changes no word": the other way round nothing is refused either
module _ (L : Limits) (how : How) (b c : List ℕ) where
  other_way : Combinable L how b c → Combinable L how c b
  other_way h =
      let s = swapped_size (wf L how b c h) (wf' L how b c h) how in
      record { first = h.second; second = h.first; symbols = sym h.symbols; states = sym (same-states-few L s) ∙ h.states; records = sym (same-records-few s) ∙ h.records }

  order : Combinable L how b c → SameWords (combined_bytes how b c) (combined_bytes how c b)
  order h = record {
    each = λ w.
        let i = (words L how b c h).each w in
        let j = (words L how c b (other_way h)).each w in
        (λ a. j.1 (combined_swap _ _ how (i.0 a)), λ a. i.1 (combined_swap _ _ how (j.0 a)));
  }

  -- .. and as many bytes are written
  same_length : Combinable L how b c → length (combined_bytes how b c) ≡ length (combined_bytes how c b)
  unfolding combined_bytes
  same_length h =
      let s = swapped_size (wf L how b c h) (wf' L how b c h) how in
      let x = bytes-length (combined_table how (table_of b) (table_of c)) (formed-wide (formed L how b c h)) in
      let y = bytes-length (combined_table how (table_of c) (table_of b)) (formed-wide (formed L how c b (other_way h))) in
      let e : length (combined_table how (table_of b) (table_of c)).symbols ≡ length (combined_table how (table_of c) (table_of b)).symbols = ap length (combined_symbols how (table_of b) (table_of c) ∙ h.symbols ∙ sym (combined_symbols how (table_of c) (table_of b))) in
      omega (arith, s, x, y, e)

module _ (L : Limits) (how : How) (b c : List ℕ) where
  combination : Combinable L how b c → Combination L how b c (combined_bytes how b c)
  unfolding combined_bytes
  combination h = record {
    readable = read-bytes L (combined_table how (table_of b) (table_of c)) (formed L how b c h);
    exact = holds L how b c h;
    words = words L how b c h;
    marks = marks L how b c h;
    itself = itself L how b c h;
    order = order L how b c h;
  }

  -- ---- the operation

  combinable : (out : List ℕ) → combine_number L how b c out ≡ 0 → Combinable L how b c
  unfolding combine_number same_symbols
  combinable out e =
      let p1 = stage-passed _ _ e in
      let p2 = stage-passed _ _ p1.1 in
      let p3 = passed 37 _ _ (λ z. omega (arith, z)) p2.1 in
      let p4 = passed 35 _ _ (λ z. omega (arith, z)) p3.1 in
      let p5 = passed 36 _ _ (λ z. omega (arith, z)) p4.1 in
      record { first = p1.0; second = p2.0; symbols = same_true _ _ p3.0; states = p4.0; records = p5.0 }

  writes : (P : List ℕ → Type 0) → (Combinable L how b c → P (combined_bytes how b c)) → (out : List ℕ) → OnWriting (combine_of L how b c out).answer (λ n. P (take n (combine_of L how b c out).out))
  unfolding combine_of
  writes P h out = on_writing (combine_number L how b c out) (combined_bytes how b c) out P (λ z. h (combinable out z))

  promises : (out : List ℕ) → Promises L how b c (combine_of L how b c out).answer (combine_of L how b c out).out
  promises out = writes (Combination L how b c) combination out

  combine-known : (out : List ℕ) → Known (combine_number L how b c out)
  unfolding combine_number
  combine-known out =
      failed_known _ _ (read-known L b) (failed_known _ _ (read-known L c) (failed_known _ _ (known_of Symbols) (failed_known _ _ (known_of Load)
      (failed_known _ _ (known_of LoadRecords) (failed_known _ _ (known_of OutputLength) none_known)))))

  numbered : (out : List ℕ) → CombineSays L how b c out (combine_of L how b c out).answer
  unfolding combine_of
  numbered out = says_length (combine_number L how b c out) (combined_bytes how b c) out (combine-known out)

  -- the contract, from its equation
  pub combined : (out : List ℕ) {r : Result ℕ Refusal} {now : List ℕ} → record { answer = r; out = now } ≡ combine_of L how b c out
      → (record { answer = r; out = now } ≡ combine_of L how b c out) × (CombineSays L how b c out r × Promises L how b c r now)
  combined out e = (e, subst (λ (d : QuotientDone). CombineSays L how b c out d.answer × Promises L how b c d.answer d.out) (sym e) (numbered out, promises out))

module _ (L : Limits) (how : How) (b c : List ℕ) where
  -- two calls, the tables one way round and the other: where one is not refused and the other has as much room, that is not refused either
  pub neither_refused : (out out' : List ℕ) → length out ≤ length out' → combine_number L how b c out ≡ 0 → combine_number L how c b out' ≡ 0
  unfolding combine_number same_symbols
  neither_refused out out' l e =
      let h = combinable L how b c out e in
      let k = other_way L how b c h in
      let room : length (combined_bytes how b c) ≤ length out = leb-true _ _ (passed 21 _ _ (λ z. omega (arith, z)) (last_test e)).0 in
      stage-passes _ _ k.first
      ∙ stage-passes _ _ k.second
      ∙ passes 37 _ (same_of k.symbols)
      ∙ passes 35 _ k.states
      ∙ passes 36 _ k.records
      ∙ passes 21 _ (le-leb (length (combined_bytes how c b)) (length out') (omega (arith, same_length L how b c h)))
      ∙ no_test
    where
      last_test : combine_number L how b c out ≡ 0 → first_failed ((21, leb (length (combined_bytes how b c)) (length out)) ∷ []) ≡ 0
      last_test e = (passed 36 _ _ (λ z. omega (arith, z)) (passed 35 _ _ (λ z. omega (arith, z)) (passed 37 _ _ (λ z. omega (arith, z)) (stage-passed _ _ (stage-passed _ _ e).1).1).1).1).1

  pub either_order : (out out' : List ℕ) → EitherOrder (combine_of L how b c out).answer (combine_of L how b c out).out (combine_of L how c b out').answer (combine_of L how c b out').out
  either_order out out' = writes L how b c (λ d. OnWriting (combine_of L how c b out').answer (λ k. SameWords d (take k (combine_of L how c b out').out))) (λ h. writes L how c b (SameWords (combined_bytes how b c)) (λ k. order L how b c h) out') out
