-- Lists cut into parts of one width, and put together again. One law for every width. Assumes nothing.
use mathlib.Core.Path.{◌≡◌, refl, sym, ap, ◌∙◌}
use mathlib.Core.List.{List, [], ◌∷◌, ◌++◌, Memᴰ}
use Prim.Native.Nat.{ℕ, zero, suc, ◌+◌, ◌*◌, ◌≤◌, ◌<◌}
use native.Mathlib.Nat.{suc-mul, zero-mul, add_comm}
use native.Mathlib.Omega.{arith}
use lib.ListN.{length, get_or, take, drop, length-append, length-drop, take-append-drop}
use lib.Seq.{take_at, drop_at, drop-drop, length-take-le}
use Rattle.lists.specs.Lists.{parts, concat}

pub length-parts : (k w : ℕ) (xs : List ℕ) → length (parts k w xs) ≡ k
unfolding parts
length-parts zero w xs = refl
length-parts (suc k) w xs = ap suc (length-parts k w (drop w xs))

-- part i
pub get_d_parts : (k w : ℕ) (xs : List ℕ) (i : ℕ) → i < k → get_or (parts k w xs) i [] ≡ take w (drop (i * w) xs)
unfolding parts
get_d_parts zero w xs i h = absurd (omega arith)
get_d_parts (suc k) w xs zero h = rw zero-mul
get_d_parts (suc k) w xs (suc i) h =
    let e : w + i * w ≡ suc i * w = add_comm w (i * w) ∙ sym (suc-mul i w) in
    get_d_parts k w (drop w xs) i (omega arith) ∙ ap (take w) (drop-drop (i * w) w xs ∙ ap (λ n. drop n xs) e)

-- where there is enough, each part has the width
pub parts-wide : (k w : ℕ) (xs : List ℕ) → k * w ≤ length xs → (r : List ℕ) → Memᴰ r (parts k w xs) → length r ≡ w
unfolding parts
parts-wide zero w xs h r m = elim m [ ]
parts-wide (suc k) w xs h r (Memᴰ.head e) = ap length e ∙ length-take-le w xs (omega (arith, suc-mul k w))
parts-wide (suc k) w xs h r (Memᴰ.tail m) = parts-wide k w (drop w xs) (omega (arith, suc-mul k w, length-drop w xs)) r m

-- cut and put together
pub concat-parts : (k w : ℕ) (xs : List ℕ) → length xs ≡ k * w → concat (parts k w xs) ≡ xs
unfolding parts
concat-parts zero w [] h = refl
concat-parts zero w (x ∷ xs) h = absurd (omega (arith, zero-mul w))
concat-parts (suc k) w xs h = ap (λ ys. take w xs ++ ys) (concat-parts k w (drop w xs) (omega (arith, suc-mul k w, length-drop w xs))) ∙ take-append-drop w xs

pub length-concat : (w : ℕ) (rs : List (List ℕ)) → ((r : List ℕ) → Memᴰ r rs → length r ≡ w) → length (concat rs) ≡ length rs * w
length-concat w [] h = sym (zero-mul w)
length-concat w (r ∷ rs) h = omega (arith, length-append r (concat rs), h r (Memᴰ.head refl), length-concat w rs (λ s m. h s (Memᴰ.tail m)), suc-mul (length rs) w)

-- put together and cut
pub parts-concat : (w : ℕ) (rs : List (List ℕ)) → ((r : List ℕ) → Memᴰ r rs → length r ≡ w) → parts (length rs) w (concat rs) ≡ rs
unfolding parts
parts-concat w [] h = refl
parts-concat w (r ∷ rs) h =
    let e = h r (Memᴰ.head refl) in
    λ i. take_at r (concat rs) w e i ∷ (ap (parts (length rs) w) (drop_at r (concat rs) w e) ∙ parts-concat w rs (λ s m. h s (Memᴰ.tail m))) i
