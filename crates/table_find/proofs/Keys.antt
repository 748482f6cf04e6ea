-- Bytes as numbers: the order of byte strings of one width is that of their numbers, and a record starts with a key where its first bytes have the
-- key's number. One law for every width. Assumes nothing.
use mathlib.Core.Path.{◌≡◌, refl, sym, ap, ◌∙◌}
use mathlib.Core.Bool.{Bool, true, false, ◌&&◌, ◌||◌, true≢false}
use mathlib.Core.List.{List, [], ◌∷◌}
use Prim.Native.Nat.{ℕ, zero, suc, ◌+◌, ◌*◌, ◌/◌, ◌≤◌, ◌<◌}
use native.Mathlib.Nat.{add-zero}
use native.Mathlib.Omega.{arith}
use native.Mathlib.Decide.{dec_lt}
use lib.ListN.{length, get_or, take, drop, length-take, length-drop, get_or-eq_default}
use lib.Seq.{get_or-take, get_or-drop, length-take-le, take_all}
use lib.Dec.{eqb, ltb}
use borrow.Author.Tests.{lt-ltb, le-ltb, eq-eqb, ne_eqb, ltb-true}
use Rattle.lists.specs.Lists.{same}
use Rattle.lists.proofs.Members.{same_true, same_of}
use Rattle.table_spec.specs.Reading.{before}
use Rattle.table_spec.proofs.Bytes.{Bytes}
use Rattle.table_find.specs.Spans.{starts_with}
use Rattle.table_find.specs.Keys.{key_from, key, Keyed}

-- ---- bytes as a number, byte by byte

from_next : (n : ℕ) (s : List ℕ) (k : ℕ) → n < length s → key_from k (take (suc n) s) ≡ key_from k (take n s) * 256 + get_or s n 0
unfolding key_from
from_next n [] k h = absurd (omega arith)
from_next zero (x ∷ s) k h = refl
from_next (suc n) (x ∷ s) k h = from_next n s (k * 256 + x) (omega arith)

-- the first byte at a place
pub first_byte : (s : List ℕ) (at : ℕ) {l : ℕ} → at < length s → l ≡ 0 * 256 + get_or s at 0 → l ≡ key (take 1 (drop at s))
unfolding key_from
first_byte s at h e =
    let inside : 0 < length (drop at s) = omega (arith, length-drop at s) in
    let f : get_or (drop at s) 0 0 ≡ get_or s at 0 = get_or-drop at s 0 0 ∙ ap (λ (i : ℕ). get_or s i 0) (add-zero at) in
    e ∙ ap (λ (b : ℕ). 0 * 256 + b) (sym f) ∙ sym (from_next 0 (drop at s) 0 inside)

-- one byte more of those at a place
pub next_byte : (s : List ℕ) (at n : ℕ) {m b l : ℕ} → m ≡ key (take n (drop at s)) → at + n < length s → b ≡ get_or s (at + n) 0 → l ≡ m * 256 + b → l ≡ key (take (suc n) (drop at s))
next_byte s at n {m} {b} {l} e h f g =
    let inside : n < length (drop at s) = omega (arith, length-drop at s) in
    g ∙ (λ j. e j * 256 + (f ∙ sym (get_or-drop at s n 0)) j) ∙ sym (from_next n (drop at s) 0 inside)

-- the keys of a move and of a return
pub two_keyed : {q a n : ℕ} → q < 256 → a < 256 → n ≡ (0 * 256 + q) * 256 + a → Keyed 3 (q ∷ a ∷ []) n
unfolding key_from
two_keyed {q} {a} h i e = record { least = omega arith; most = omega arith; long = refl; bytes = go; number = e }
  where
    go : Bytes (q ∷ a ∷ [])
    go zero = h
    go (suc zero) = i
    go (suc (suc j)) = omega arith

pub three_keyed : {q a s n : ℕ} → q < 256 → a < 256 → s < 256 → n ≡ ((0 * 256 + q) * 256 + a) * 256 + s → Keyed 4 (q ∷ a ∷ s ∷ []) n
unfolding key_from
three_keyed {q} {a} {s} h i j e = record { least = omega arith; most = omega arith; long = refl; bytes = go; number = e }
  where
    go : Bytes (q ∷ a ∷ s ∷ [])
    go zero = h
    go (suc zero) = i
    go (suc (suc zero)) = j
    go (suc (suc (suc k))) = omega arith

-- without the last byte
pub but_last : (n : ℕ) (s : List ℕ) → Bytes s → n < length s → key (take (suc n) s) / 256 ≡ key (take n s)
but_last n s b h = let p = b n in let e = from_next n s 0 h in omega arith

-- ---- parts of bytes

pub part_bytes : (s : List ℕ) → Bytes s → (at n : ℕ) → Bytes (take n (drop at s))
part_bytes s b at n i = go (dec_lt i n)
  where
    go : Dec (i < n) → get_or (take n (drop at s)) i 0 < 256
    go (yes h) = rw (get_or-take n (drop at s) i 0 h, get_or-drop at s i 0) (b (at + i))
    go (no h) = omega (arith, get_or-eq_default (take n (drop at s)) 0 {n = i} (omega (arith, length-take n (drop at s))))

-- ---- three bytes at most

three_small : (r : List ℕ) → length r ≤ 3 → Bytes r → key r < 16777216
unfolding key_from
three_small [] h b = omega arith
three_small (x ∷ []) h b = omega (arith, b 0)
three_small (x ∷ y ∷ []) h b = omega (arith, b 0, b 1)
three_small (x ∷ y ∷ z ∷ []) h b = omega (arith, b 0, b 1, b 2)
three_small (x ∷ y ∷ z ∷ u ∷ r) h b = absurd (omega arith)

pub part_small : (s : List ℕ) → Bytes s → (at n : ℕ) → n ≤ 3 → key (take n (drop at s)) < 16777216
part_small s b at n h = three_small (take n (drop at s)) (omega (arith, length-take n (drop at s))) (part_bytes s b at n)

pub key-small : {w : ℕ} {k : List ℕ} {n : ℕ} → Keyed w k n → n < 16777216
key-small {w} {k} d = omega (arith, d.number, three_small k (omega (arith, d)) d.bytes)

-- ---- the order

-- of numbers that differ already
pub from_less : (r s : List ℕ) (k l : ℕ) → length r ≡ length s → Bytes r → Bytes s → k < l → key_from k r < key_from l s
unfolding key_from
from_less [] [] k l n b d h = h
from_less [] (y ∷ s) k l n b d h = absurd (omega arith)
from_less (x ∷ r) [] k l n b d h = absurd (omega arith)
from_less (x ∷ r) (y ∷ s) k l n b d h =
    let p : x < 256 = b 0 in
    from_less r s (k * 256 + x) (l * 256 + y) (omega arith) (λ i. b (suc i)) (λ i. d (suc i)) (omega arith)

-- by as many first bytes as the other has
from-order : (r s : List ℕ) (k : ℕ) → length s ≤ length r → Bytes r → Bytes s → before r s ≡ ltb (key_from k (take (length s) r)) (key_from k s)
unfolding key_from before
from-order [] [] k n b d = sym (le-ltb k k (omega arith))
from-order [] (y ∷ s) k n b d = absurd (omega arith)
from-order (x ∷ r) [] k n b d = sym (le-ltb k k (omega arith))
from-order (x ∷ r) (y ∷ s) k n b d = go (dec_lt x y) (dec_lt y x) (from-order r s (k * 256 + x) (omega arith) (λ i. b (suc i)) (λ i. d (suc i)))
  where
    first : List ℕ
    first = take (length s) r

    long : length first ≡ length s
    long = length-take-le (length s) r (omega arith)

    bytes : Bytes first
    bytes = part_bytes r (λ i. b (suc i)) 0 (length s)

    go :
        Dec (x < y) → Dec (y < x) → before r s ≡ ltb (key_from (k * 256 + x) first) (key_from (k * 256 + x) s)
        → (ltb x y || (eqb x y && before r s)) ≡ ltb (key_from (k * 256 + x) first) (key_from (k * 256 + y) s)
    go (yes h) _ ih =
        let l = from_less first s (k * 256 + x) (k * 256 + y) long bytes (λ i. d (suc i)) (omega arith) in
        rw (lt-ltb x y h) (sym (lt-ltb _ _ l))
    go (no h) (yes g) ih =
        let l = from_less s first (k * 256 + y) (k * 256 + x) (sym long) (λ i. d (suc i)) bytes (omega arith) in
        rw (le-ltb x y (omega arith), ne_eqb x y (λ e. omega arith)) (sym (le-ltb (key_from (k * 256 + x) first) (key_from (k * 256 + y) s) (omega arith)))
    go (no h) (no g) ih =
        let e : x ≡ y = omega arith in
        rw (le-ltb x y (omega arith), eq-eqb x y e) (ih ∙ ap (λ z. ltb (key_from (k * 256 + x) first) (key_from (k * 256 + z) s)) e)

pub before-key : (r k : List ℕ) → length k ≤ length r → Bytes r → Bytes k → before r k ≡ ltb (key (take (length k) r)) (key k)
before-key r k = from-order r k 0

pub order-key : (r s : List ℕ) → length r ≡ length s → Bytes r → Bytes s → before r s ≡ ltb (key r) (key s)
order-key r s e b d = before-key r s (omega arith) b d ∙ ap (λ x. ltb (key x) (key s)) (take_all (length s) r (omega arith))

pub key-order : (r s : List ℕ) → length r ≡ length s → Bytes r → Bytes s → before r s ≡ true → key r < key s
key-order r s l b d e = ltb-true _ _ (sym (order-key r s l b d) ∙ e)

-- ---- the start

-- numbers of one width tell byte strings apart
from-same : (r s : List ℕ) (k l : ℕ) → length r ≡ length s → Bytes r → Bytes s → key_from k r ≡ key_from l s → (k ≡ l) × (r ≡ s)
unfolding key_from
from-same [] [] k l n b d e = (e, refl)
from-same [] (y ∷ s) k l n b d e = absurd (omega arith)
from-same (x ∷ r) [] k l n b d e = absurd (omega arith)
from-same (x ∷ r) (y ∷ s) k l n b d e =
    let p : x < 256 = b 0 in
    let q : y < 256 = d 0 in
    let h = from-same r s (k * 256 + x) (l * 256 + y) (omega arith) (λ i. b (suc i)) (λ i. d (suc i)) e in
    let f : x ≡ y = omega (arith, h.0) in
    (omega (arith, h.0), λ i. f i ∷ h.1 i)

pub starts-key : (r k : List ℕ) → length k ≤ length r → Bytes r → Bytes k → starts_with k r ≡ eqb (key (take (length k) r)) (key k)
unfolding starts_with
starts-key r k h b d = go (same k (take (length k) r)) refl
  where
    go : (t : Bool) → same k (take (length k) r) ≡ t → t ≡ eqb (key (take (length k) r)) (key k)
    go true e = sym (eq-eqb _ _ (ap key (sym (same_true k (take (length k) r) e))))
    go false e = sym (ne_eqb _ _ (λ f. true≢false (sym (same_of (sym (from-same (take (length k) r) k 0 0 (length-take-le (length k) r h) (part_bytes r b 0 (length k)) d f).1)) ∙ e)))
