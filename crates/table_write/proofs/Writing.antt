-- What is still to be written at each place of a writer, and a law for each way to write. One invariant for every writer. Assumes nothing.
use mathlib.Core.Path.{◌≡◌, refl, sym, ap, ◌∙◌, subst}
use mathlib.Core.List.{List, [], ◌∷◌, ◌++◌, append_assoc, append-nil}
use Prim.Native.Nat.{ℕ, ◌+◌, ◌-◌, ◌/◌, ◌%◌, ◌^◌, ◌<◌, ◌≤◌}
use native.Mathlib.Omega.{arith}
use native.Mathlib.Nat.{zero-add}
use native.Mathlib.Numerals.{add-one}
use lib.ListN.{length, get_or, take, drop, length-append, length-drop, take-append-drop, drop_of_length-le}
use lib.Seq.{length-take-le, drop-cons, drop-drop, take_all, take_at, drop_at}
use Rattle.lists.specs.Lists.{concat_map, over}
use Rattle.lists.proofs.Copying.{length_over}
use Rattle.table_spec.specs.File.{bytes16}
use Rattle.table_write.specs.Keys.{bytes32, record_of}

-- the output in the end is what stands before the place, then what is still to be written over what stands after it
pub record Writing (rest end out : List ℕ) (at : ℕ) : Type 0 where
  pub room : at + length rest ≤ length out
  pub meets : end ≡ take at out ++ over rest (drop at out)

pub writing : (xs out : List ℕ) → length xs ≤ length out → Writing xs (over xs out) out 0
writing xs out h = record { room = omega arith; meets = refl }

pub same-long : {rest end out : List ℕ} {at : ℕ} → Writing rest end out at → length end ≡ length out
same-long {rest} {end} {out} {at} w =
    let l = length-drop at out in
    omega (arith, w.room, ap length w.meets, length-append (take at out) (over rest (drop at out)), length-take-le at out (omega (arith, w.room)), length_over rest (drop at out) (omega (arith, w.room)))

-- the next part is written
pub written :
    (x : List ℕ) {todo rest end out out' : List ℕ} {at n : ℕ} → Writing todo end out at → todo ≡ x ++ rest → length x ≡ n
    → out' ≡ take at out ++ over x (drop at out) → Writing rest end out' (at + n)
unfolding over
written x {todo} {rest} {end} {out} {out'} {at} {n} w s l e = record {
  room = omega (arith, ap length split ∙ length-append (take at out ++ x) (drop n (drop at out)), front, long, length-drop at out, length-drop n (drop at out), w.room);
  meets =
      let h : take (at + n) out' ≡ take at out ++ x = ap (take (at + n)) split ∙ take_at (take at out ++ x) (drop n (drop at out)) (at + n) front in
      let k : drop (at + n) out' ≡ drop n (drop at out) = ap (drop (at + n)) split ∙ drop_at (take at out ++ x) (drop n (drop at out)) (at + n) front in
      w.meets ∙ rw (long, h, k, drop-drop (length rest) n (drop at out), s) (simp append_assoc);
}
  where
    front : length (take at out ++ x) ≡ at + n
    front = length-append (take at out) x ∙ omega (arith, length-take-le at out (omega (arith, w.room)), l)

    split : out' ≡ (take at out ++ x) ++ drop n (drop at out)
    split = e ∙ rw (l, append_assoc)

    long : length todo ≡ n + length rest
    long = omega (arith, ap length s, length-append x rest, l)

-- the first part is written
pub begun : (x out : List ℕ) {all rest out' : List ℕ} → length all ≤ length out → all ≡ x ++ rest → out' ≡ over x out → Writing rest (over all out) out' (length x)
begun x out {all} {rest} {out'} h s e = subst (λ (n : ℕ). Writing rest (over all out) out' n) (zero-add (length x)) (written x (writing all out h) s refl e)

-- the next part fits what is lent
pub part_room : (x rest : List ℕ) {todo end out : List ℕ} {at : ℕ} → Writing todo end out at → todo ≡ x ++ rest → length x ≤ length (take (length out - at) (drop at out))
part_room x rest {todo} {end} {out} {at} w s =
    let n : length (drop at out) ≤ length out - at = omega (arith, length-drop at out) in
    rw (take_all (length out - at) (drop at out) n) (omega (arith, length-drop at out, w.room, ap length s, length-append x rest))

pub finished : {end out : List ℕ} {at : ℕ} → Writing [] end out at → out ≡ end
unfolding over
finished {end} {out} {at} w = sym (w.meets ∙ take-append-drop at out)

-- a part of the output that was lent, and is back
pub part_put :
    (x out : List ℕ) (at : ℕ) {ys : List ℕ} → ys ≡ over x (take (length out - at) (drop at out))
    → take at out ++ (ys ++ drop (length out - at) (drop at out)) ≡ take at out ++ over x (drop at out)
part_put x out at {ys} e =
    let n : length (drop at out) ≤ length out - at = omega (arith, length-drop at out) in
    let a : ys ≡ over x (drop at out) = e ∙ ap (over x) (take_all (length out - at) (drop at out) n) in
    let b : drop (length out - at) (drop at out) ≡ [] = drop_of_length-le (drop at out) n in
    rw (a, b, append-nil)

-- ---- numbers, each as bytes of one width

-- the part that was lent to its end
pub last-part : (w k : ℕ) → w ≤ 4 → take (4 - (4 - w)) (drop (4 - w) (bytes32 k)) ≡ record_of w k
unfolding record_of bytes32
last-part w k h = take_all (4 - (4 - w)) (drop (4 - w) (bytes32 k)) (omega (arith, length-drop (4 - w) (bytes32 k)))

-- the bytes of a 32-bit number as std says them
pub be_bytes : {k : ℕ} {bs : List ℕ} → k < 2 ^ 32 → bs ≡ (k / 16777216 % 256) ∷ (k / 65536 % 256) ∷ (k / 256 % 256) ∷ (k % 256) ∷ [] → bs ≡ bytes32 k
unfolding bytes32
be_bytes {k} h e = let l : k / 16777216 % 256 ≡ k / 16777216 = omega arith in e ∙ λ i. l i ∷ (k / 65536 % 256) ∷ (k / 256 % 256) ∷ (k % 256) ∷ []

pub length-word : (k : ℕ) → length (bytes16 k) ≡ 2
unfolding bytes16
length-word k = refl

-- the bytes of the numbers from i on are still to be written
pub record Listing (f : ℕ → List ℕ) (ks end out : List ℕ) (at i : ℕ) : Type 0 where
  pub rest : Writing (concat_map f (drop i ks)) end out at

pub listing : (f : ℕ → List ℕ) (ks out : List ℕ) → length (concat_map f ks) ≤ length out → Listing f ks (over (concat_map f ks) out) out 0 0
listing f ks out h = record { rest = writing (concat_map f ks) out h }

module _ {f : ℕ → List ℕ} {ks end out : List ℕ} {at i : ℕ} (l : Listing f ks end out at i) where
  key_on : i < length ks → concat_map f (drop i ks) ≡ f (get_or ks i 0) ++ concat_map f (drop (i + 1) ks)
  key_on h = rw (add-one, drop-cons ks i 0 h)

  pub key-room : {w : ℕ} → ((k : ℕ) → length (f k) ≡ w) → i < length ks → at + w ≤ length out
  key-room h k = omega (arith, l.rest.room, ap length (key_on k), length-append (f (get_or ks i 0)) (concat_map f (drop (i + 1) ks)), h (get_or ks i 0))

  pub key-listed : {w : ℕ} {out' : List ℕ} → ((k : ℕ) → length (f k) ≡ w) → i < length ks → out' ≡ take at out ++ over (f (get_or ks i 0)) (drop at out) → Listing f ks end out' (at + w) (i + 1)
  key-listed h p e = record { rest = written (f (get_or ks i 0)) l.rest (key_on p) (h (get_or ks i 0)) e }

  pub listed : length ks ≤ i → out ≡ end
  listed h = finished (subst (λ (xs : List ℕ). Writing (concat_map f xs) end out at) (drop_of_length-le ks h) l.rest)
