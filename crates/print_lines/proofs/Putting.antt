-- Text that is put together in a buffer, piece by piece. Assumes nothing.
use mathlib.Core.Path.{◌≡◌, refl, sym, ap, ◌∙◌, subst}
use mathlib.Core.List.{List, [], ◌++◌, append_assoc, append-nil}
use Prim.Native.Nat.{ℕ, ◌+◌, ◌-◌, ◌*◌, ◌≤◌}
use native.Mathlib.Omega.{arith}
use lib.ListN.{length, take, drop, length-append, length-drop}
use lib.Seq.{take_at, length-take-le}
use Rattle.lists.specs.Lists.{over}
use Rattle.table_write.proofs.Writing.{part_put}
use Rattle.io.specs.Counts.{IsPrefixLen}
use Rattle.print_spec.specs.Lines.{Put, hex_text}
use Rattle.print_lines.proofs.Text.{hex_length}

-- a piece over what stood after the place
put_over : (x old : List ℕ) (at : ℕ) {new : List ℕ} → at + length x ≤ length old → new ≡ take at old ++ over x (drop at old) → Put x at old (at + length x) new
unfolding over
put_over x old at {new} h e = record {
  place = refl;
  inside = omega (arith, same);
  long = same;
  front = ap (take (at + length x)) split ∙ take_at (take at old ++ x) (drop (length x) (drop at old)) (at + length x) front;
}
  where
    front : length (take at old ++ x) ≡ at + length x
    front = length-append (take at old) x ∙ omega (arith, length-take-le at old (omega arith))

    split : new ≡ (take at old ++ x) ++ drop (length x) (drop at old)
    split = e ∙ sym (append_assoc (take at old) x (drop (length x) (drop at old)))

    same : length new ≡ length old
    same =
        ap length split ∙ length-append (take at old ++ x) (drop (length x) (drop at old))
        ∙ omega (arith, front, length-drop at old, length-drop (length x) (drop at old))

-- .. in a part of the buffer that was lent, and is back
pub put_part :
    (x old : List ℕ) (at : ℕ) {ys : List ℕ} → at + length x ≤ length old → ys ≡ over x (take (length old - at) (drop at old))
    → Put x at old (at + length x) (take at old ++ (ys ++ drop (length old - at) (drop at old)))
put_part x old at h e = put_over x old at h (part_put x old at e)

pub put_hexed : (bytes old : List ℕ) (at : ℕ) {ys : List ℕ} → at + 3 * length bytes ≤ length old → ys ≡ over (hex_text bytes) (take (length old - at) (drop at old))
    → Put (hex_text bytes) at old (at + 3 * length bytes) (take at old ++ (ys ++ drop (length old - at) (drop at old)))
put_hexed bytes old at {ys} h e =
    subst (λ (n : ℕ). Put (hex_text bytes) at old (at + n) (take at old ++ (ys ++ drop (length old - at) (drop at old)))) (hex_length bytes)
    (put_part (hex_text bytes) old at (omega (arith, hex_length bytes)) e)

pub put_none : (at : ℕ) (old : List ℕ) → at ≤ length old → Put [] at old at old
put_none at old h = record { place = omega arith; inside = h; long = refl; front = sym (append-nil (take at old)) }

-- one piece after another
pub put_on : {xs ys a b c : List ℕ} {at r k : ℕ} → Put xs at a r b → Put ys r b k c → Put (xs ++ ys) at a k c
put_on {xs} {ys} {a} {b} {c} {at} {r} {k} p q = record {
  place = omega (arith, p.place, q.place, length-append xs ys);
  inside = q.inside;
  long = q.long ∙ p.long;
  front = q.front ∙ ap (λ z. z ++ ys) p.front ∙ append_assoc (take at a) xs ys;
}

pub put_same : {xs ys a b : List ℕ} {at r : ℕ} → xs ≡ ys → Put xs at a r b → Put ys at a r b
put_same {a = a} {b = b} {at = at} {r = r} e p = subst (λ (z : List ℕ). Put z at a r b) e p

-- all of it
pub put_whole : {xs ys old new : List ℕ} {r : ℕ} → xs ≡ ys → Put xs 0 old r new → (take r new ≡ ys) × IsPrefixLen r new
put_whole {new = new} {r = r} e p = (p.front ∙ e, (p.inside, sym (length-take-le r new p.inside)))
