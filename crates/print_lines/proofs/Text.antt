-- Writing bytes as text: what stands in the buffer after some bytes. Assumes nothing.
use mathlib.Core.Path.{◌≡◌, refl, sym, ap, ◌∙◌}
use mathlib.Core.List.{List, [], ◌∷◌, ◌++◌, append_assoc}
use Prim.Native.Nat.{ℕ, zero, suc, ◌+◌, ◌*◌, ◌/◌, ◌%◌, ◌≤◌, ◌<◌}
use native.Mathlib.Numerals.{add-one}
use native.Mathlib.Omega.{arith}
use lib.ListN.{length, get_or, set, take, drop, length-append, length-drop}
use lib.Seq.{take-suc, take_all, drop-cons, length-take-le}
use borrow.Author.Tests.{lt-ltb, le-ltb}
use Rattle.io.specs.Digits.{hex_digit_ascii}
use Rattle.lists.specs.Lists.{over}
use Rattle.print_spec.specs.Lines.{hex_text}

pub low_digit : (d : ℕ) → d < 10 → 48 + d ≡ hex_digit_ascii d
low_digit d h = rw (lt-ltb d 10 h) refl

pub high_digit : (d : ℕ) → 10 ≤ d → 87 + d ≡ hex_digit_ascii d
high_digit d h = rw (le-ltb d 10 h) refl

-- a store after the first elements
set-behind : (xs ys : List ℕ) (k n v : ℕ) → n ≡ length xs + k → set (xs ++ ys) n v ≡ xs ++ set ys k v
set-behind [] ys k n v e = ap (λ (m : ℕ). set ys m v) (omega arith)
set-behind (x ∷ xs) ys k zero v e = absurd (omega arith)
set-behind (x ∷ xs) ys k (suc n) v e = ap (λ (zs : List ℕ). x ∷ zs) (set-behind xs ys k n v (omega arith))

-- three stores after the first elements
put_three : (t : List ℕ) (a b c : ℕ) (r : List ℕ) (n u x y : ℕ) → length t ≡ n → set (set (set (t ++ (a ∷ b ∷ c ∷ r)) n u) (n + 1) x) (n + 2) y ≡ t ++ (u ∷ x ∷ y ∷ r)
put_three t a b c r n u x y e =
    ap (λ (zs : List ℕ). set (set zs (n + 1) x) (n + 2) y) (set-behind t (a ∷ b ∷ c ∷ r) 0 n u (omega (arith, e)))
    ∙ ap (λ (zs : List ℕ). set zs (n + 2) y) (set-behind t (u ∷ b ∷ c ∷ r) 1 (n + 1) x (omega (arith, e)))
    ∙ set-behind t (u ∷ x ∷ c ∷ r) 2 (n + 2) y (omega (arith, e))

three_ahead : (xs : List ℕ) (n : ℕ) → n + 3 ≤ length xs → drop n xs ≡ get_or xs n 0 ∷ get_or xs (suc n) 0 ∷ get_or xs (suc (suc n)) 0 ∷ drop (suc (suc (suc n))) xs
three_ahead xs n h =
    drop-cons xs n 0 (omega arith) ∙ ap (λ (zs : List ℕ). get_or xs n 0 ∷ zs) (drop-cons xs (suc n) 0 (omega arith))
    ∙ ap (λ (zs : List ℕ). get_or xs n 0 ∷ get_or xs (suc n) 0 ∷ zs) (drop-cons xs (suc (suc n)) 0 (omega arith))

pub hex_length : (bs : List ℕ) → length (hex_text bs) ≡ 3 * length bs
unfolding hex_text
hex_length [] = refl
hex_length (b ∷ bs) = omega (arith, hex_length bs)

hex_snoc : (bs : List ℕ) (b : ℕ) → hex_text (bs ++ (b ∷ [])) ≡ hex_text bs ++ (32 ∷ hex_digit_ascii (b / 16) ∷ hex_digit_ascii (b % 16) ∷ [])
unfolding hex_text
hex_snoc [] b = refl
hex_snoc (x ∷ bs) b = ap (λ (zs : List ℕ). 32 ∷ hex_digit_ascii (x / 16) ∷ hex_digit_ascii (x % 16) ∷ zs) (hex_snoc bs b)

-- the first i bytes stand as text in front of what the buffer held
pub record Hexed (bs old new : List ℕ) (i : ℕ) : Type 0 where
  pub inside : i ≤ length bs
  pub room : 3 * length bs ≤ length old
  pub meets : new ≡ hex_text (take i bs) ++ drop (3 * i) old

pub none_hexed : (bs old : List ℕ) → 3 * length bs ≤ length old → Hexed bs old old 0
unfolding hex_text
none_hexed bs old h = record { inside = omega arith; room = h; meets = refl }

module _ (bs old new : List ℕ) (i : ℕ) (w : Hexed bs old new i) where
  text_long : length (hex_text (take i bs)) ≡ 3 * i
  text_long = hex_length (take i bs) ∙ ap (λ (k : ℕ). 3 * k) (length-take-le i bs w.inside)

  pub hexed_length : length new ≡ length old
  hexed_length = omega (arith, ap length w.meets ∙ length-append (hex_text (take i bs)) (drop (3 * i) old), text_long, length-drop (3 * i) old, w.inside, w.room)

  pub hex_on : (x y : ℕ) → i < length bs → x ≡ hex_digit_ascii (get_or bs i 0 / 16) → y ≡ hex_digit_ascii (get_or bs i 0 % 16) → Hexed bs old (set (set (set new (3 * i) 32) (3 * i + 1) x) (3 * i + 2) y) (i + 1)
  hex_on x y h p q = record { inside = omega arith; room = w.room; meets = stored }
    where
      n : ℕ
      n = 3 * i

      ahead_room : n + 3 ≤ length old
      ahead_room = omega (arith, w.room, h)

      b : ℕ
      b = get_or bs i 0

      ahead : List ℕ
      ahead = drop (suc (suc (suc n))) old

      text : hex_text (take (i + 1) bs) ≡ hex_text (take i bs) ++ (32 ∷ x ∷ y ∷ [])
      text =
          ap (λ (k : ℕ). hex_text (take k bs)) (add-one i) ∙ ap hex_text (take-suc bs i 0 h) ∙ hex_snoc (take i bs) b
          ∙ ap (λ (u : ℕ). hex_text (take i bs) ++ (32 ∷ u ∷ hex_digit_ascii (b % 16) ∷ [])) (sym p) ∙ ap (λ (v : ℕ). hex_text (take i bs) ++ (32 ∷ x ∷ v ∷ [])) (sym q)

      stored : set (set (set new n 32) (n + 1) x) (n + 2) y ≡ hex_text (take (i + 1) bs) ++ drop (3 * (i + 1)) old
      stored =
          let end : suc (suc (suc n)) ≡ 3 * (i + 1) = omega arith in
          ap (λ (zs : List ℕ). set (set (set zs n 32) (n + 1) x) (n + 2) y) (w.meets ∙ ap (λ (zs : List ℕ). hex_text (take i bs) ++ zs) (three_ahead old n ahead_room))
          ∙ put_three (hex_text (take i bs)) (get_or old n 0) (get_or old (suc n) 0) (get_or old (suc (suc n)) 0) ahead n 32 x y text_long
          ∙ sym (append_assoc (hex_text (take i bs)) (32 ∷ x ∷ y ∷ []) ahead)
          ∙ ap (λ (zs : List ℕ). zs ++ ahead) (sym text)
          ∙ ap (λ (k : ℕ). hex_text (take (i + 1) bs) ++ drop k old) end

  pub hex_all : length bs ≤ i → new ≡ over (hex_text bs) old
  unfolding over
  hex_all h =
      let e : i ≡ length bs = omega (arith, w.inside) in
      w.meets ∙ ap (λ (k : ℕ). hex_text (take k bs) ++ drop (3 * k) old) e ∙ ap (λ (zs : List ℕ). hex_text zs ++ drop (3 * length bs) old) (take_all (length bs) bs (omega arith)) ∙ ap (λ (k : ℕ). hex_text bs ++ drop k old) (sym (hex_length bs))
