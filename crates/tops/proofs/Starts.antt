-- What is still to come at each turn of the loops. Assumes nothing.
use mathlib.Core.Path.{◌≡◌, sym, ap, ◌∙◌, subst}
use mathlib.Core.List.{List, [], ◌∷◌, ◌++◌, map, map-append}
use Prim.Native.Nat.{ℕ, suc, ◌+◌, ◌-◌, ◌<◌, ◌≤◌}
use native.Mathlib.Omega.{arith}
use native.Mathlib.Numerals.{add-one}
use native.Mathlib.Decide.{dec_lt}
use Rattle.std.proofs.lemmas.List.{ext_get_or, get_or-replicate}
use lib.ListN.{length, get_or, take, set, replicate, length-map, length-append, length-replicate}
use lib.Seq.{length-take-le, take-suc, take_all, append_snoc, set_at}
use Rattle.limits.specs.Limits.{state_most}
use Rattle.table_view.specs.Sections.{sectioned}
use Rattle.tops_spec.specs.Tops.{start_words}
use Rattle.tops.specs.First.{start_word}

-- ---- the words at the start

-- all words are zero, as filling them leaves them
pub all_zero : (ws : List ℕ) (n : ℕ) → length ws ≡ n → ((k d : ℕ) → 0 ≤ k → k < n - 1 → get_or ws k d ≡ 0) → (0 < n → (d : ℕ) → get_or ws (n - 1) d ≡ 0) → ws ≡ replicate n 0
all_zero ws n l first last = ext_get_or 0 ws (replicate n 0) (l ∙ sym (length-replicate n 0)) (λ k h. go k h (dec_lt k (n - 1)) ∙ sym (get_or-replicate n k 0 0 (omega arith)))
  where
    go : (k : ℕ) → k < length ws → Dec (k < n - 1) → get_or ws k 0 ≡ 0
    go k h (yes b) = first k 0 (omega arith) b
    go k h (no b) = let e : n - 1 ≡ k = omega arith in subst (λ i. get_or ws i 0 ≡ 0) e (last (omega arith) 0)

pub record Starting (s words : List ℕ) (q : ℕ) : Type 0 where
  pub few : length s ≤ state_most
  pub inside : q ≤ length s
  pub meets : words ≡ map start_word (take q s) ++ replicate (state_most - q) 0

pub starting : (s : List ℕ) {words : List ℕ} → length s ≤ state_most → words ≡ replicate state_most 0 → Starting s words 0
starting s h e = record { few = h; inside = omega arith; meets = e }

module _ {s words : List ℕ} {q : ℕ} (p : Starting s words q) where
  zeros : q < length s → replicate {A = ℕ} (state_most - q) 0 ≡ 0 ∷ replicate (state_most - (q + 1)) 0
  zeros h = let e : state_most - q ≡ suc (state_most - (q + 1)) = omega (arith, p.few) in ap (λ n. replicate {A = ℕ} n 0) e

  before_here : q < length s → length (map start_word (take q s)) ≡ q
  before_here h = length-map (take q s) start_word ∙ length-take-le q s (omega arith)

  one_more : q < length s → map start_word (take q s) ++ start_word (get_or s q 0) ∷ replicate (state_most - (q + 1)) 0 ≡ map start_word (take (q + 1) s) ++ replicate (state_most - (q + 1)) 0
  one_more h =
      let e : map start_word (take (q + 1) s) ≡ map start_word (take q s) ++ (start_word (get_or s q 0) ∷ []) = rw (add-one, take-suc s q 0 h) (map-append start_word (take q s) (get_or s q 0 ∷ [])) in
      sym (ap (λ ws. ws ++ replicate (state_most - (q + 1)) 0) e ∙ append_snoc (map start_word (take q s)) (start_word (get_or s q 0)) (replicate (state_most - (q + 1)) 0))

  pub start_on : q < length s → {v : ℕ} → v ≡ start_word (get_or s q 0) → Starting s (set words q v) (q + 1)
  start_on h {v} f =
      record {
        few = p.few;
        inside = omega arith;
        meets = ap (λ ws. set ws q v) (p.meets ∙ ap (λ zs. map start_word (take q s) ++ zs) (zeros h)) ∙ set_at (map start_word (take q s)) 0 (replicate (state_most - (q + 1)) 0) v q (before_here h) ∙ ap (λ x. map start_word (take q s) ++ x ∷ replicate (state_most - (q + 1)) 0) f ∙ one_more h;
      }

  pub start-long : length words ≡ state_most
  start-long = ap length p.meets ∙ length-append (map start_word (take q s)) (replicate (state_most - q) 0) ∙ (λ i. length-map (take q s) start_word i + length-replicate {A = ℕ} (state_most - q) 0 i) ∙ omega (arith, length-take-le q s p.inside, p.inside, p.few)

  pub started : length s ≤ q → words ≡ start_words state_most (sectioned 0 [] s [] [] []) ++ replicate (state_most - length s) 0
  unfolding start_words start_word sectioned
  started h =
      let e : q ≡ length s = omega (arith, p.inside) in
      p.meets ∙ (λ i. map start_word (take_all q s h i) ++ replicate (state_most - e i) 0)
