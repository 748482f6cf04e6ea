-- Clauses as words: one clause at a time, with no bound in sight; words and clauses made from each other; clauses that fit. Assumes nothing.
use mathlib.Core.Path.{◌≡◌, refl, sym, ap, ◌∙◌}
use mathlib.Core.Bool.{Bool, true, ◌&&◌}
use mathlib.Core.List.{List, [], ◌∷◌, ◌++◌, map, Memᴰ}
use Prim.Native.Nat.{ℕ, zero, suc, ◌/◌, ◌≤◌, ◌<◌}
use native.Mathlib.Nat.{le_refl}
use native.Mathlib.Omega.{arith}
use lib.ListN.{length, take, drop, length-append, length-drop, take-append-drop}
use lib.Seq.{take-append_seam, drop-append_seam, length-take-le}
use lib.Dec.{ltb, leb}
use borrow.Author.Tests.{ltb-true, leb-true, lt-ltb, le-leb}
use Rattle.lists.specs.Lists.{all, concat_map}
use Rattle.lists.proofs.Members.{and-true, and_of, all_true, all_of}
use Rattle.cnf.specs.Clauses.{words_of, clauses_within, clauses_in, whole_within, whole, distinct, clause_fits}
use Rattle.cnf.specs.Closing.{Formed}

-- what holds of no words, and of a clause's words and the rest if it holds of the rest, holds of all words
pub by_clauses : (P : List ℕ → Type 0) → P [] → ((k : ℕ) (ws : List ℕ) → P (drop k ws) → P (k ∷ ws)) → (ws : List ℕ) → P ws
by_clauses P none one ws = within (length ws) ws (le_refl _)
  where
    within : (n : ℕ) (ws : List ℕ) → length ws ≤ n → P ws
    within zero [] h = none
    within zero (k ∷ ws) h = absurd (omega arith)
    within (suc n) [] h = none
    within (suc n) (k ∷ ws) h = one k ws (within n (drop k ws) (omega (arith, length-drop k ws)))

-- ---- the first clause

-- any bound that covers the words gives the same clauses
clauses_bound : (n m : ℕ) (ws : List ℕ) → length ws ≤ n → length ws ≤ m → clauses_within n ws ≡ clauses_within m ws
unfolding clauses_within
clauses_bound zero zero [] h k = refl
clauses_bound zero (suc m) [] h k = refl
clauses_bound (suc n) zero [] h k = refl
clauses_bound (suc n) (suc m) [] h k = refl
clauses_bound zero m (w ∷ ws) h k = absurd (omega arith)
clauses_bound (suc n) zero (w ∷ ws) h k = absurd (omega arith)
clauses_bound (suc n) (suc m) (w ∷ ws) h k = ap (λ (cs : List (List ℕ)). take w ws ∷ cs) (clauses_bound n m (drop w ws) (omega (arith, length-drop w ws)) (omega (arith, length-drop w ws)))

whole_bound : (n m : ℕ) (ws : List ℕ) → length ws ≤ n → length ws ≤ m → whole_within n ws ≡ whole_within m ws
unfolding whole_within
whole_bound zero zero [] h k = refl
whole_bound zero (suc m) [] h k = refl
whole_bound (suc n) zero [] h k = refl
whole_bound (suc n) (suc m) [] h k = refl
whole_bound zero m (w ∷ ws) h k = absurd (omega arith)
whole_bound (suc n) zero (w ∷ ws) h k = absurd (omega arith)
whole_bound (suc n) (suc m) (w ∷ ws) h k = ap (λ (t : Bool). leb w (length ws) && t) (whole_bound n m (drop w ws) (omega (arith, length-drop w ws)) (omega (arith, length-drop w ws)))

pub clauses_nil : clauses_in [] ≡ []
unfolding clauses_in clauses_within
clauses_nil = refl

pub clauses_cons : (k : ℕ) (ws : List ℕ) → clauses_in (k ∷ ws) ≡ take k ws ∷ clauses_in (drop k ws)
unfolding clauses_in clauses_within
clauses_cons k ws = ap (λ (cs : List (List ℕ)). take k ws ∷ cs) (clauses_bound (length ws) (length (drop k ws)) (drop k ws) (omega (arith, length-drop k ws)) (le_refl _))

pub whole-nil : whole [] ≡ true
unfolding whole whole_within
whole-nil = refl

pub whole-cons : (k : ℕ) (ws : List ℕ) → whole (k ∷ ws) ≡ (leb k (length ws) && whole (drop k ws))
unfolding whole whole_within
whole-cons k ws = ap (λ (t : Bool). leb k (length ws) && t) (whole_bound (length ws) (length (drop k ws)) (drop k ws) (omega (arith, length-drop k ws)) (le_refl _))

-- ---- words of clauses, and back

pub clauses_words : (cs : List (List ℕ)) → clauses_in (words_of cs) ≡ cs
unfolding words_of
clauses_words [] = clauses_nil
clauses_words (c ∷ cs) =
    clauses_cons (length c) (c ++ concat_map (λ c. length c ∷ c) cs)
    ∙ λ i. take-append_seam c (concat_map (λ c. length c ∷ c) cs) i ∷ (ap clauses_in (drop-append_seam c (concat_map (λ c. length c ∷ c) cs)) ∙ clauses_words cs) i

pub whole_words : (cs : List (List ℕ)) → whole (words_of cs) ≡ true
unfolding words_of
whole_words [] = whole-nil
whole_words (c ∷ cs) =
    let rest = concat_map (λ c. length c ∷ c) cs in
    whole-cons (length c) (c ++ rest)
    ∙ and_of (le-leb (length c) (length (c ++ rest)) (omega (arith, length-append c rest))) (ap whole (drop-append_seam c rest) ∙ whole_words cs)

pub words_clauses : (ws : List ℕ) → whole ws ≡ true → words_of (clauses_in ws) ≡ ws
words_clauses = by_clauses (λ (ws : List ℕ). whole ws ≡ true → words_of (clauses_in ws) ≡ ws) none one
  where
    none : whole [] ≡ true → words_of (clauses_in []) ≡ []
    none e = rw clauses_nil (unfold words_of in refl)

    step : (c : List ℕ) (cs : List (List ℕ)) → words_of (c ∷ cs) ≡ length c ∷ (c ++ words_of cs)
    step c cs = unfold words_of in refl

    one : (k : ℕ) (ws : List ℕ) → (whole (drop k ws) ≡ true → words_of (clauses_in (drop k ws)) ≡ drop k ws) → whole (k ∷ ws) ≡ true → words_of (clauses_in (k ∷ ws)) ≡ k ∷ ws
    one k ws ih e =
        let p = and-true (leb k (length ws)) (whole (drop k ws)) (sym (whole-cons k ws) ∙ e) in
        rw (clauses_cons, step, ih p.1, take-append-drop, length-take-le k ws (leb-true _ _ p.0))

-- ---- clauses that fit

module _ (n : ℕ) (c : List ℕ) where
  pub fits_below : clause_fits n c ≡ true → (l : ℕ) → Memᴰ l c → l / 2 < n
  unfolding clause_fits
  fits_below e l m = ltb-true _ _ (all_true (λ l. ltb (l / 2) n) c (and-true (all (λ l. ltb (l / 2) n) c) (distinct (map (λ l. l / 2) c)) e).0 l m)

  pub fits-distinct : clause_fits n c ≡ true → distinct (map (λ l. l / 2) c) ≡ true
  unfolding clause_fits
  fits-distinct e = (and-true (all (λ l. ltb (l / 2) n) c) (distinct (map (λ l. l / 2) c)) e).1

  pub fits_of : ((l : ℕ) → Memᴰ l c → l / 2 < n) → distinct (map (λ l. l / 2) c) ≡ true → clause_fits n c ≡ true
  unfolding clause_fits
  fits_of h d = and_of (all_of (λ l. ltb (l / 2) n) c (λ l m. lt-ltb _ _ (h l m))) d

pub fit-formed : (n : ℕ) (cs : List (List ℕ)) → all (clause_fits n) cs ≡ true → Formed cs n
fit-formed n cs e = record { below = λ c m. fits_below n c (all_true (clause_fits n) cs e c m) }

pub formed-fit : (n : ℕ) (cs : List (List ℕ)) → Formed cs n → ((c : List ℕ) → Memᴰ c cs → distinct (map (λ l. l / 2) c) ≡ true) → all (clause_fits n) cs ≡ true
formed-fit n cs f d = all_of (clause_fits n) cs (λ c m. fits_of n c (f.below c m) (d c m))
