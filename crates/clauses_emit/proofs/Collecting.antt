-- The literals of one clause as they are added to and stored. Assumes nothing.
use mathlib.Core.Path.{◌≡◌, refl, sym, ap, ◌∙◌}
use mathlib.Core.Bool.{true, false}
use mathlib.Core.List.{List, [], ◌∷◌, ◌++◌, map}
use Prim.Native.Nat.{ℕ, suc, ◌+◌, ◌≤◌, ◌<◌}
use native.Mathlib.Numerals.{add-one}
use native.Mathlib.Omega.{arith}
use lib.ListN.{length, get_or, take, drop, set, length-append, length-map}
use lib.Seq.{drop-cons, take-suc, take-suc-set, length-take-le, append_snoc, set_at}
use Rattle.lists.specs.Lists.{mem, over}
use Rattle.clauses_emit.specs.declared.literals.Literals.{Literals}
use Rattle.clauses_emit.specs.Emit.{literals_of, with_literal, Holds}

-- the words of a clause are 3
pub whole : (words : List ℕ) → length (map (λ v. v) words) ≡ 3 → length words ≡ 3
whole words e = sym (length-map words (λ v. v)) ∙ e

-- ---- one literal more

pub kept-literal : (c : Literals) (l : ℕ) → length c.words ≡ 3 → c.n < 3 → mem l (literals_of c) ≡ true → Holds c (with_literal (literals_of c) l)
unfolding with_literal
kept-literal c l h k e = rw (e, with_literal) (record { count = sym (length-take-le c.n c.words (omega arith)); same = refl })

pub new-literal :
    (c : Literals) (l : ℕ) → length c.words ≡ 3 → c.n < 3 → mem l (literals_of c) ≡ false
    → Holds (record { words = set c.words c.n l; n = c.n + 1 }) (with_literal (literals_of c) l)
unfolding with_literal
new-literal c l h k e =
    rw (e, with_literal)
    (record {
      count = omega (arith, length-append (literals_of c) (l ∷ []), length-take-le c.n c.words (omega arith));
      same = rw (add-one c.n) (take-suc-set c.words c.n l (omega arith));
    })

-- ---- storing a clause's words: the count k and the first i literals stand at the front

pub record Storing (k n : ℕ) (words rest₀ rest : List ℕ) (i : ℕ) : Type 0 where
  pub long : n ≤ length words
  pub room : n < length rest₀
  pub inside : i ≤ n
  pub meets : rest ≡ over (k ∷ take i words) rest₀

pub storing : (k n : ℕ) (words rest : List ℕ) → n ≤ length words → n < length rest → Storing k n words (set rest 0 k) (set rest 0 k) 0
unfolding over
storing k n words (x ∷ rest) h l = record { long = h; room = l; inside = omega arith; meets = refl }
storing k n words [] h l = absurd (omega arith)

-- the count was stored first
count-first : (k : ℕ) (ls rest : List ℕ) → over (k ∷ ls) (set rest 0 k) ≡ over (k ∷ ls) rest
unfolding over
count-first k ls [] = refl
count-first k ls (x ∷ rest) = refl

module _ {k n : ℕ} {words rest₀ rest : List ℕ} {i : ℕ} (w : Storing k n words rest₀ rest i) where
  taken : length (k ∷ take i words) ≡ i + 1
  taken = omega (arith, w, length-take-le i words (omega (arith, w)))

  pub store_on : i < n → Storing k n words rest₀ (set rest (i + 1) (get_or words i 0)) (i + 1)
  unfolding over
  store_on h =
      let l : i + 1 < length rest₀ = omega (arith, w) in
      let v = get_or words i 0 in
      let next : drop (i + 1) rest₀ ≡ get_or rest₀ (i + 1) 0 ∷ drop (suc (i + 1)) rest₀ = drop-cons rest₀ (i + 1) 0 l in
      let tail : drop (length (k ∷ take i words)) rest₀ ≡ get_or rest₀ (i + 1) 0 ∷ drop (suc (i + 1)) rest₀ = ap (λ m. drop m rest₀) taken ∙ next in
      let more : (k ∷ take i words) ++ (v ∷ []) ≡ k ∷ take (i + 1) words = ap (λ ys. k ∷ ys) (sym (take-suc words i 0 (omega (arith, w)))) ∙ rw add-one in
      let long : length (k ∷ take (i + 1) words) ≡ suc (i + 1) = ap length (sym more) ∙ length-append (k ∷ take i words) (v ∷ []) ∙ omega (arith, taken) in
      record {
        long = w.long;
        room = w.room;
        inside = omega arith;
        meets =
            ap (λ r. set r (i + 1) v) (w.meets ∙ ap (λ t. (k ∷ take i words) ++ t) tail)
            ∙ set_at (k ∷ take i words) (get_or rest₀ (i + 1) 0) (drop (suc (i + 1)) rest₀) v (i + 1) taken
            ∙ sym (append_snoc (k ∷ take i words) v (drop (suc (i + 1)) rest₀))
            ∙ (λ j. more j ++ drop (sym long j) rest₀);
      }

pub stored : (rest : List ℕ) {k n : ℕ} {words rest' : List ℕ} {i : ℕ} → Storing k n words (set rest 0 k) rest' i → n ≤ i → rest' ≡ over (k ∷ take n words) rest
stored rest {k} {n} {words} {rest'} {i} w h =
    let e : i ≡ n = omega (arith, w) in
    w.meets ∙ ap (λ m. over (k ∷ take m words) (set rest 0 k)) e ∙ count-first k (take n words) rest
