-- What is still to come of a walk over bytes or records: one invariant for every loop of src/, and a law for each way through its body. The
-- records' width is a variable. Assumes nothing.
use mathlib.Core.Path.{◌≡◌, refl, sym, ap, ◌∙◌, subst}
use mathlib.Core.Bool.{Bool, true, false}
use mathlib.Core.List.{List, [], ◌∷◌, ◌++◌}
use Prim.Native.Nat.{ℕ, suc, ◌+◌, ◌-◌, ◌/◌, ◌≤◌, ◌<◌}
use native.Mathlib.Nat.{add-div_right, div-eq_of_lt}
use native.Mathlib.Numerals.{add-one}
use native.Mathlib.Omega.{arith}
use lib.ListN.{length, get_or, take, drop, length-drop, drop_of_length-le}
use lib.Seq.{drop-drop, length-take-le, get_or-drop, take_all, take-append_seam, drop-append_seam}
use Rattle.std.proofs.lemmas.List.{take-append-drop}
use lib.Dec.{ltb}
use borrow.Author.Tests.{lt-ltb, le-ltb}
use Rattle.lists.specs.Lists.{any, all, parts}
use Rattle.lists.proofs.Members.{one_on}
use Rattle.table_spec.specs.File.{records}
use Rattle.table_spec.specs.Reading.{before, ascend_from, ascend}
use Rattle.table_spec.proofs.Bytes.{Bytes}
use Rattle.table_spec.proofs.Chunks.{chunk_on, chunk_end}
use Rattle.table_find.specs.Keys.{key}
use Rattle.table_find.proofs.Keys.{part_bytes, order-key}

-- the answer over the whole list is the answer over what is still to come
pub record Still (f : List ℕ → Bool) (s : List ℕ) (at : ℕ) : Type 0 where
  pub inside : at ≤ length s
  pub meets : f s ≡ f (drop at s)

pub begin : (f : List ℕ → Bool) (s : List ℕ) → Still f s 0
begin f s = record { inside = omega arith; meets = refl }

-- ---- bytes

module _ (f : ℕ → Bool) {s : List ℕ} {i : ℕ} where
  pub all-passed : Still (all f) s i → i < length s → f (get_or s i 0) ≡ true → Still (all f) s (i + 1)
  all-passed w h e = record { inside = omega arith; meets = w.meets ∙ rw (one_on s i h, e) }

  pub all_failed : Still (all f) s i → i < length s → f (get_or s i 0) ≡ false → false ≡ all f s
  all_failed w h e = sym (w.meets ∙ rw (one_on s i h, e))

  pub all_done : Still (all f) s i → length s ≤ i → true ≡ all f s
  all_done w h = sym (w.meets ∙ rw (drop_of_length-le s h))

  pub any-passed : Still (any f) s i → i < length s → f (get_or s i 0) ≡ false → Still (any f) s (i + 1)
  any-passed w h e = record { inside = omega arith; meets = w.meets ∙ rw (one_on s i h, e) }

  pub any_found : Still (any f) s i → i < length s → f (get_or s i 0) ≡ true → true ≡ any f s
  any_found w h e = sym (w.meets ∙ rw (one_on s i h, e))

  pub any-done : Still (any f) s i → length s ≤ i → false ≡ any f s
  any-done w h = sym (w.meets ∙ rw (drop_of_length-le s h))

-- ---- records

-- the record at a place, and those after it
pub records-cons : (w : ℕ) (s : List ℕ) (at : ℕ) → 0 < w → at + w ≤ length s → records w (drop at s) ≡ take w (drop at s) ∷ records w (drop (at + w) s)
unfolding records parts
records-cons w s at p h =
    let e : length (drop at s) ≡ length (drop (at + w) s) + w = omega (arith, length-drop at s, length-drop (at + w) s) in
    let k : length (drop at s) / w ≡ suc (length (drop (at + w) s) / w) = ap (λ n. n / w) e ∙ add-div_right (length (drop (at + w) s)) p ∙ add-one _ in
    ap (λ n. parts n w (drop at s)) k ∙ ap (λ r. take w (drop at s) ∷ parts (length (drop (at + w) s) / w) w r) (drop-drop w at s)

-- less than a record is left
pub records_end : (w : ℕ) (s : List ℕ) (at : ℕ) → length s - at < w → records w (drop at s) ≡ []
unfolding records parts
records_end w s at h = let short : length (drop at s) < w = omega (arith, length-drop at s) in ap (λ k. parts k w (drop at s)) (div-eq_of_lt short)

-- ---- records that ascend

drop_bytes : (s : List ℕ) → Bytes s → (n : ℕ) → Bytes (drop n s)
drop_bytes s b n i = rw (get_or-drop n s i 0) (b (n + i))

pub front_bytes : (x t : List ℕ) → Bytes (x ++ t) → Bytes x
front_bytes x t b = subst Bytes (take-append_seam x t) (part_bytes (x ++ t) b 0 (length x))

pub rest_bytes : (x t : List ℕ) → Bytes (x ++ t) → Bytes t
rest_bytes x t b = subst Bytes (drop-append_seam x t) (drop_bytes (x ++ t) b (length x))

-- the section ascends as the records that are left do after the last one taken, whose number is `last`
pub record Rising (w : ℕ) (s : List ℕ) (last n : ℕ) (r : List ℕ) : Type 0 where
  pub can_next : 0 < n
  pub width : n ≡ w
  pub passed : List ℕ
  pub long : length passed ≡ w
  pub bytes : Bytes passed
  pub number : last ≡ key passed
  pub meets : ascend (records w s) ≡ ascend (passed ∷ records w r)
  pub left : Bytes r

pub rising : {w last n : ℕ} (s r : List ℕ) → 0 < w → Bytes s → w ≤ length s → last ≡ key (take w (drop 0 s)) → n ≡ w → r ≡ take (length s - w) (drop w s) → Rising w s last n r
rising {w} s r p b h e f g =
    let d : r ≡ drop w s = g ∙ take_all (length s - w) (drop w s) (omega (arith, length-drop w s)) in
    record {
      can_next = omega arith;
      width = f;
      passed = take w s;
      long = length-take-le w s h;
      bytes = part_bytes s b 0 w;
      number = e;
      meets = ap ascend (chunk_on s (take w s) r p (sym (ap (λ t. take w s ++ t) d ∙ take-append-drop w s)) (length-take-le w s h));
      left = subst Bytes (sym d) (drop_bytes s b w);
    }

pub too_few : (w : ℕ) (s : List ℕ) → length s < w → true ≡ ascend (records w s)
unfolding ascend
too_few w s h = sym (ap ascend (chunk_end s h))

module _ {w : ℕ} {s : List ℕ} {last n : ℕ} {r : List ℕ} (i : Rising w s last n r) where
  pub risen : length r < n → true ≡ ascend (records w s)
  unfolding ascend ascend_from
  risen h = sym (i.meets ∙ ap (λ rs. ascend (i.passed ∷ rs)) (chunk_end r (omega (arith, i))))

  module _ (x t : List ℕ) (e : (r ≡ x ++ t) × (length x ≡ n)) {number : ℕ} (f : number ≡ key (take w (drop 0 x))) where
    long : length x ≡ w
    long = e.1 ∙ i.width

    here : number ≡ key x
    here = f ∙ ap key (take_all w x (omega (arith, long)))

    bytes : Bytes x
    bytes = front_bytes x t (subst Bytes e.0 i.left)

    next_on : ascend (records w s) ≡ ascend (i.passed ∷ x ∷ records w t)
    next_on = i.meets ∙ ap (λ rs. ascend (i.passed ∷ rs)) (chunk_on r x t (omega (arith, i)) e.0 long)

    compared : before i.passed x ≡ ltb last number
    compared = order-key i.passed x (omega (arith, i.long, long)) i.bytes bytes ∙ λ j. ltb (sym i.number j) (sym here j)

    pub rises : {m : ℕ} → m ≡ n → last < number → Rising w s number m t
    unfolding ascend ascend_from
    rises g l = record {
      can_next = omega (arith, i);
      width = g ∙ i.width;
      passed = x;
      long = long;
      bytes = bytes;
      number = here;
      meets = next_on ∙ rw (compared ∙ lt-ltb _ _ l);
      left = rest_bytes x t (subst Bytes e.0 i.left);
    }

    pub falls : number ≤ last → false ≡ ascend (records w s)
    unfolding ascend ascend_from
    falls l = sym (next_on ∙ rw (compared ∙ le-ltb last number l))
