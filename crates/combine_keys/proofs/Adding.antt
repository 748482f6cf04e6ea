-- Keys put one after the other: what is collected then, and the turns of a loop that adds some for each element of a list. Assumes nothing.
use mathlib.Core.Path.{◌≡◌, refl, sym, ap, ◌∙◌, subst}
use mathlib.Core.List.{List, [], ◌∷◌, ◌++◌, append-nil, append_assoc}
use Prim.Native.Nat.{ℕ, ◌+◌, ◌<◌, ◌≤◌}
use native.Mathlib.Numerals.{add-one}
use native.Mathlib.Omega.{arith}
use lib.ListN.{length, set, take, drop, length-append}
use lib.Seq.{take-suc-set}
use Rattle.std.specs.Prelude.{Option, Some, None}
use Rattle.lists.specs.Lists.{concat_map, upto}
use Rattle.lists.proofs.Upto.{upto_on, upto_end}
use Rattle.table_write.specs.Keys.{Holds}
use Rattle.combine_keys.specs.Adding.{Collected, Adds}

-- nothing is collected yet
pub none_held : (keys : List ℕ) → Holds keys 0 []
none_held keys = record { count = refl; same = refl }

pub adds_none : {ks : List ℕ} {n : ℕ} → Adds [] ks n ks (Some n)
adds_none {ks} {n} = record { each = λ all h. subst (λ (xs : List ℕ). Holds ks n xs) (sym (append-nil all)) h }

pub adds_both : (xs ys : List ℕ) {ks ks' : List ℕ} (ks'' : List ℕ) {n n' : ℕ} (r : Option ℕ) → length ks' ≡ length ks → Adds xs ks n ks' (Some n') → Adds ys ks' n' ks'' r → Adds (xs ++ ys) ks n ks'' r
adds_both xs ys {ks} ks'' r l f g = record {
  each = λ all h.
      subst (λ (zs : List ℕ). Collected (length ks) zs ks'' r) (append_assoc all xs ys)
      (subst (λ (m : ℕ). Collected m ((all ++ xs) ++ ys) ks'' r) l (g.each (all ++ xs) (f.each all h)));
}

-- where there is no room for some, there is none for more
pub adds_less : (xs ys : List ℕ) {ks : List ℕ} (ks' ks'' : List ℕ) {n : ℕ} → Adds xs ks n ks' None → Adds (xs ++ ys) ks n ks'' None
adds_less xs ys ks' ks'' f = record { each = λ all h. omega (arith, f.each all h, length-append all xs, length-append all (xs ++ ys), length-append xs ys) }

-- one key, where there is room
pub adds_one : {ks : List ℕ} {n : ℕ} (x : ℕ) → n < length ks → Adds (x ∷ []) ks n (set ks n x) (Some (n + 1))
adds_one {ks} {n} x h = record {
  each = λ all d. record {
    count = omega (arith, d.count, length-append all (x ∷ []));
    same = ap (λ k. take k (set ks n x)) (add-one n) ∙ take-suc-set ks n x h ∙ ap (λ ys. ys ++ (x ∷ [])) d.same;
  };
}

-- .. and where there is none
pub adds_over : {ks : List ℕ} {n : ℕ} (x : ℕ) → length ks ≤ n → Adds (x ∷ []) ks n ks None
adds_over x h = record { each = λ all d. omega (arith, d.count, length-append all (x ∷ [])) }

-- ---- a loop that adds keys for each element: so many of them are left

pub record Adding {A : Type 0} (f : A → List ℕ) (xs : List A) (ks : List ℕ) (n : ℕ) (ks' : List ℕ) (n' : ℕ) (rest : List A) : Type 0 where
  pub done : List ℕ
  pub long : length ks' ≡ length ks
  pub splits : concat_map f xs ≡ done ++ concat_map f rest
  pub adds : Adds done ks n ks' (Some n')

module _ {A : Type 0} {f : A → List ℕ} {xs : List A} {ks : List ℕ} {n : ℕ} {ks' : List ℕ} {n' : ℕ} {rest : List A} (w : Adding f xs ks n ks' n' rest) where
  module _ (x : A) (after : List A) (e : rest ≡ x ∷ after) (ys ks'' : List ℕ) (d : ys ≡ f x) where
    one_more : concat_map f xs ≡ (w.done ++ ys) ++ concat_map f after
    one_more = w.splits ∙ ap (λ zs. w.done ++ concat_map f zs) e ∙ ap (λ zs. w.done ++ (zs ++ concat_map f after)) (sym d) ∙ sym (append_assoc w.done ys (concat_map f after))

    pub add_on : {n'' : ℕ} → length ks'' ≡ length ks' → Adds ys ks' n' ks'' (Some n'') → Adding f xs ks n ks'' n'' after
    add_on {n''} l a = record { done = w.done ++ ys; long = l ∙ w.long; splits = one_more; adds = adds_both w.done ys ks'' (Some n'') w.long w.adds a }

    pub add_stop : {r : Option ℕ} → r ≡ None → Adds ys ks' n' ks'' None → Adds (concat_map f xs) ks n ks'' r
    add_stop {r} o a =
        subst (λ (r : Option ℕ). Adds (concat_map f xs) ks n ks'' r) (sym o)
        (subst (λ (zs : List ℕ). Adds zs ks n ks'' None) (sym one_more) (adds_less (w.done ++ ys) (concat_map f after) ks'' ks'' (adds_both w.done ys ks'' None w.long w.adds a)))

  pub added : rest ≡ [] → Adds (concat_map f xs) ks n ks' (Some n')
  added e = subst (λ (zs : List ℕ). Adds zs ks n ks' (Some n')) (sym (w.splits ∙ ap (λ zs. w.done ++ concat_map f zs) e ∙ append-nil w.done)) w.adds

-- .. and for each number below a bound
module _ {f : ℕ → List ℕ} {m : ℕ} {ks : List ℕ} {n : ℕ} {ks' : List ℕ} {n' i : ℕ} (w : Adding f (upto m) ks n ks' n' (drop i (upto m))) where
  pub count_next : (ys ks'' : List ℕ) {n'' : ℕ} → i < m → length ks'' ≡ length ks' → ys ≡ f i → Adds ys ks' n' ks'' (Some n'') → Adding f (upto m) ks n ks'' n'' (drop (i + 1) (upto m))
  count_next ys ks'' h l e a = add_on w i (drop (i + 1) (upto m)) (upto_on m i h) ys ks'' e l a

  pub count_stop : (ys ks'' : List ℕ) {r : Option ℕ} → i < m → ys ≡ f i → r ≡ None → Adds ys ks' n' ks'' None → Adds (concat_map f (upto m)) ks n ks'' r
  count_stop ys ks'' h e o a = add_stop w i (drop (i + 1) (upto m)) (upto_on m i h) ys ks'' e o a

  pub counted : m ≤ i → Adds (concat_map f (upto m)) ks n ks' (Some n')
  counted h = added w (upto_end m i h)
