-- The clause of premises and targets: the targets of the records found are looked through, then stored after the premises. Assumes nothing.
use mathlib.Core.Path.{◌≡◌, refl, sym, ap, ◌∙◌, subst}
use mathlib.Core.Logic.{◌≢◌}
use mathlib.Core.Bool.{Bool, true, false}
use mathlib.Core.List.{List, [], ◌∷◌, ◌++◌, map, append-nil, append_assoc}
use Prim.Native.Nat.{ℕ, ◌+◌, ◌-◌, ◌*◌, ◌/◌, ◌≤◌, ◌<◌}
use native.Mathlib.Omega.{arith}
use lib.ListN.{length, get_or, take, drop, set, length-append, length-map, drop_of_length-le}
use lib.Seq.{length-take-le, take_all, take_at, drop_at, drop-drop}
use lib.Dec.{eqb}
use borrow.Author.Tests.{eq-eqb, ne_eqb}
use Rattle.lists.specs.Lists.{any, mem, over}
use Rattle.lists.proofs.Members.{or_left, or_right, get_d_map}
use Rattle.lists.proofs.Parts.{get_d_parts}
use Rattle.lists.proofs.Copying.{Writing, writing, write_on, write_all}
use Rattle.pairs.specs.Triangles.{together, apart}
use Rattle.table_spec.specs.File.{records}
use Rattle.table_spec.proofs.Bytes.{length-records}
use Rattle.table_spec.proofs.Chunks.{chunk_on, chunk_end}
use Rattle.table_find.proofs.Spanning.{record_inside}
use Rattle.tops.proofs.Loops.{record_byte}
use Rattle.clauses_spec.specs.Clauses.{opposite, premise}
use Rattle.clauses_emit.specs.declared.literals.Literals.{Literals}
use Rattle.clauses_emit.specs.Emit.{literals_of, with_literal, with_all, Holds, matching_from, leaves, last_bytes, State, emit}
use Rattle.clauses_emit.proofs.Tidying.{matching-left, matching-kept}
use Rattle.clauses_targets.specs.Targets.{Counted, Premised, target_literals}

-- ---- premises

pub premise-none : (c : Literals) (p q : ℕ) → length c.words ≡ 3 → c.n < 3 → p ≡ q → Holds c (with_all (literals_of c) (premise p q))
unfolding premise with_all
premise-none c p q h k e = rw (eq-eqb p q e, premise) (record { count = sym (length-take-le c.n c.words (omega arith)); same = refl })

pub premise-one : (c d : Literals) (p q : ℕ) {l : ℕ} → p ≢ q → l ≡ apart p q → Holds d (with_literal (literals_of c) l) → Holds d (with_all (literals_of c) (premise p q))
unfolding premise with_all
premise-one c d p q n e h = rw (ne_eqb p q n, premise) (subst (λ (l : ℕ). Holds d (with_literal (literals_of c) l)) e h)

pub with_length : (ls : List ℕ) (l : ℕ) → length (with_literal ls l) ≤ length ls + 1
unfolding with_literal
with_length ls l = go (mem l ls)
  where
    go : (t : Bool) → length {A = ℕ} (elim t [ true ↦ ls | false ↦ ls ++ (l ∷ []) ]) ≤ length ls + 1
    go true = omega arith
    go false = omega (arith, length-append ls (l ∷ []))

-- ---- whether a target leaves the clause out

-- a record's target, then those of the rest
pub target_next : {w : ℕ} (s x r : List ℕ) → 0 < w → s ≡ x ++ r → length x ≡ w → last_bytes w s ≡ get_or x (w - 1) 0 ∷ last_bytes w r
target_next {w} s x r p e h = ap (map (λ r. get_or r (w - 1) 0)) (chunk_on s x r p e h)

pub targets_end : {w : ℕ} (s : List ℕ) → length s < w → last_bytes w s ≡ []
targets_end {w} s h = ap (map (λ r. get_or r (w - 1) 0)) (chunk_end s h)

module _ (kept : List ℕ) (p' q : ℕ) (qs : List ℕ) where
  pub leaves-itself : q ≡ p' → any (leaves kept p') (q ∷ qs) ≡ true
  unfolding leaves
  leaves-itself e = or_left (any (leaves kept p') qs) (or_left (mem (opposite (together p' q)) kept) (eq-eqb q p' e))

  module _ {literal other : ℕ} {b : Bool} (f : literal ≡ together p' q) (g : other ≡ opposite literal) (k : b ≡ mem other kept) where
    both_ways : mem (opposite (together p' q)) kept ≡ b
    both_ways = ap (λ x. mem x kept) (sym (g ∙ ap opposite f)) ∙ sym k

    pub leaves-both : b ≡ true → any (leaves kept p') (q ∷ qs) ≡ true
    unfolding leaves
    leaves-both d = or_left (any (leaves kept p') qs) (or_right (eqb q p') (both_ways ∙ d))

    pub leaves_on : q ≢ p' → b ≡ false → any (leaves kept p') (q ∷ qs) ≡ any (leaves kept p') qs
    unfolding leaves
    leaves_on n d = rw (ne_eqb q p' n, both_ways ∙ d)

-- ---- the targets of the records found

module _ {w : ℕ} {found : List ℕ} {count : ℕ} (h : Counted w found count) where
  counts : length (last_bytes w found) ≡ count
  counts = length-map (records w found) (λ r. get_or r (w - 1) 0) ∙ sym h.counted

  literal-counts : (p' : ℕ) → length (target_literals w p' found) ≡ count
  literal-counts p' = length-map (last_bytes w found) (together p') ∙ counts

  module _ {i : ℕ} (l : i < count) where
    in_records : i < length (records w found)
    in_records = omega (arith, h.counted)

    pub target-inside : i * w + w ≤ length found
    target-inside = record_inside w found i (omega (arith, in_records, length-records w found))

    pub target_byte : get_or found (i * w + w - 1) 0 ≡ get_or (last_bytes w found) i 0
    unfolding records
    target_byte =
        let e : i * w + w - 1 ≡ i * w + (w - 1) = omega (arith, h.some-width) in
        let k : i < length found / w = omega (arith, in_records, length-records w found) in
        sym (get_d_map (λ r. get_or r (w - 1) 0) (records w found) i 0 [] in_records ∙ ap (λ r. get_or r (w - 1) 0) (get_d_parts (length found / w) w found i k) ∙ record_byte w found (i * w) (w - 1) (omega (arith, h.some-width)) ∙ ap (λ m. get_or found m 0) (sym e))

  -- ---- storing them

  module _ (p' : ℕ) where
    pub target_storing : {rest : List ℕ} → count ≤ length rest → Writing (target_literals w p' found) rest rest 0
    target_storing l = writing (omega (arith, literal-counts p'))

    module _ {old new : List ℕ} {i : ℕ} (s : Writing (target_literals w p' found) old new i) where
      pub target_on : {q l : ℕ} → i < count → q ≡ get_or (last_bytes w found) i 0 → l ≡ together p' q → Writing (target_literals w p' found) old (set new i l) (i + 1)
      target_on {q} {l} d e f =
          let g : l ≡ get_or (target_literals w p' found) i 0 = f ∙ ap (together p') e ∙ sym (get_d_map (together p') (last_bytes w found) i 0 0 (omega (arith, counts))) in
          rw g (write_on s (omega (arith, literal-counts p')))

      pub targets-stored : count ≤ i → new ≡ over (target_literals w p' found) old
      targets-stored l = write_all s (omega (arith, literal-counts p'))

-- ---- premises and targets

-- words stored after others, in the part of the buffer after them
over-behind :
    (xs ys rest : List ℕ) (m : ℕ) {first out : List ℕ} → length xs ≡ m → first ≡ over xs rest → out ≡ over ys (take (length first - m) (drop m first))
    → take m first ++ (out ++ drop (length first - m) (drop m first)) ≡ over (xs ++ ys) rest
unfolding over
over-behind xs ys rest m {first} {out} k e f =
    let tail = drop (length xs) rest in
    let back : drop m first ≡ tail = ap (drop m) e ∙ drop_at xs tail m k in
    let front : take m first ≡ xs = ap (take m) e ∙ take_at xs tail m k in
    let n : length tail ≤ length first - m = omega (arith, ap length e ∙ length-append xs tail) in
    let all : take (length first - m) (drop m first) ≡ tail = ap (take (length first - m)) back ∙ take_all (length first - m) tail n in
    let none : drop (length first - m) (drop m first) ≡ [] = ap (drop (length first - m)) back ∙ drop_of_length-le tail {i = length first - m} n in
    let behind : drop (length ys) tail ≡ drop (length (xs ++ ys)) rest = drop-drop (length ys) (length xs) rest ∙ ap (λ v. drop v rest) (sym (length-append xs ys)) in
    (λ i. front i ++ ((f ∙ ap (over ys) all) i ++ none i))
    ∙ ap (λ z. xs ++ z) (append-nil (over ys tail) ∙ ap (λ z. ys ++ z) behind)
    ∙ sym (append_assoc xs ys (drop (length (xs ++ ys)) rest))

module _ (premises : Literals) (whole : length premises.words ≡ 3) (two : premises.n ≤ 2) where
  premises_count : length (literals_of premises) ≡ premises.n
  premises_count = length-take-le premises.n premises.words (omega arith)

  pub clause-stored :
      (k : ℕ) (ts rest : List ℕ) {first out : List ℕ} → first ≡ over (k ∷ literals_of premises) rest
      → out ≡ over ts (take (length first - (premises.n + 1)) (drop (premises.n + 1) first))
      → take (premises.n + 1) first ++ (out ++ drop (length first - (premises.n + 1)) (drop (premises.n + 1) first)) ≡ over (k ∷ (literals_of premises ++ ts)) rest
  clause-stored k ts rest = over-behind (k ∷ literals_of premises) ts rest (premises.n + 1) (omega (arith, premises_count))

  module _ {w : ℕ} {found : List ℕ} (p' : ℕ) (p : Premised w found premises) where
    -- the clause where it is not left out
    abbrev pub clause : List ℕ
    clause = literals_of premises ++ target_literals w p' found

    pub found-counted : {count : ℕ} → count ≡ length found / w → Counted w found count
    found-counted e = let n = length-records w found in record { some-width = p.some-width; counted = e ∙ sym n; few = omega (arith, p.few) }

    pub clause-left : (t : State) {b : Bool} → b ≡ any (leaves (literals_of premises) p') (last_bytes w found) → b ≡ true → t ≡ emit (matching_from (literals_of premises) p' (last_bytes w found)) t
    unfolding emit
    clause-left t d e = sym (ap (λ cs. emit cs t) (matching-left (literals_of premises) p' (last_bytes w found) (sym d ∙ e)))

    pub clause-long : {count : ℕ} → Counted w found count → premises.n + count ≡ length clause
    clause-long h = omega (arith, length-append (literals_of premises) (target_literals w p' found), premises_count, literal-counts h p')

    pub clause_put :
        (t : State) {next : State} {b : Bool} → b ≡ any (leaves (literals_of premises) p') (last_bytes w found) → b ≡ false → next ≡ emit (clause ∷ []) t
        → next ≡ emit (matching_from (literals_of premises) p' (last_bytes w found)) t
    clause_put t d e f = f ∙ ap (λ cs. emit cs t) (sym (matching-kept (literals_of premises) p' (last_bytes w found) (sym d ∙ e) p.negative p.ascending))
