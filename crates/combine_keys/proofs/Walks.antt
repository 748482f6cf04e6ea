-- The keys of the product's records, as the loops add them: by pair, symbol and pushed pair, the targets of the two. Assumes nothing.
use mathlib.Core.Path.{◌≡◌, refl, sym, ap, ◌∙◌}
use mathlib.Core.List.{List, [], ◌∷◌, ◌++◌, map, map-append}
use Prim.Native.Nat.{ℕ, ◌+◌, ◌-◌, ◌*◌, ◌/◌, ◌%◌}
use lib.ListN.{get_or}
use Rattle.lists.specs.Lists.{filter, concat_map, upto}
use Rattle.table_spec.specs.File.{records}
use Rattle.table_spec.specs.Language.{targets}
use Rattle.table_find.specs.Keys.{key_from}
use Rattle.table_find.specs.Spans.{starts_with}
use Rattle.table_index.proofs.Blocks.{starts_shorter, filter-within}
use Rattle.combine_spec.specs.Combine.{renumbered, pair_of}
use Rattle.combine_spec.specs.Walk.{pair_targets, walk}
use Rattle.combine_keys.specs.Adding.{row_keys, target_keys}

-- ---- the targets of two parts

abbrev lasts : ℕ → List ℕ → List ℕ
lasts w s = map (λ r. get_or r (w - 1) 0) (records w s)

row_keyed : (k m w p : ℕ) (ss : List (List ℕ)) → concat_map (λ s. (k * 256 + (p * m + get_or s (w - 1) 0)) ∷ []) ss ≡ map (key_from k) (map (λ q. pair_of m p q ∷ []) (map (λ s. get_or s (w - 1) 0) ss))
unfolding key_from
row_keyed k m w p [] = refl
row_keyed k m w p (s ∷ ss) = λ i. (k * 256 + (p * m + get_or s (w - 1) 0)) ∷ row_keyed k m w p ss i

targets_keyed : (k m w : ℕ) (s s' : List ℕ) → target_keys k m w s s' ≡ map (key_from k) (pair_targets m (lasts w s) (lasts w s'))
unfolding target_keys row_keys pair_targets
targets_keyed k m w s s' = go (records w s)
  where
    go :
        (rs : List (List ℕ))
        → concat_map (λ r. row_keys k (get_or r (w - 1) 0 * m) w s') rs ≡ map (key_from k) (concat_map (λ p. map (λ q. pair_of m p q ∷ []) (lasts w s')) (map (λ r. get_or r (w - 1) 0) rs))
    go [] = refl
    go (r ∷ rs) =
        (λ i. row_keyed k m w (get_or r (w - 1) 0) (records w s') i ++ go rs i)
        ∙ sym (map-append (key_from k) (map (λ q. pair_of m (get_or r (w - 1) 0) q ∷ []) (lasts w s')) (concat_map (λ p. map (λ q. pair_of m p q ∷ []) (lasts w s')) (map (λ r. get_or r (w - 1) 0) rs)))

-- the moves of a pair by a symbol
pub moves_keyed : (k m : ℕ) (rs ss : List (List ℕ)) (own other : List ℕ) (x : ℕ) {p q b a : ℕ} → p ≡ x / m → q ≡ x % m → b ≡ a
    → records 3 own ≡ filter (starts_with (p ∷ b ∷ [])) rs → records 3 other ≡ filter (starts_with (q ∷ b ∷ [])) ss
    → target_keys k m 3 own other ≡ map (key_from k) (walk m rs ss [] (x ∷ a ∷ []))
unfolding walk renumbered targets starts_with
moves_keyed k m rs ss own other x e f g h j =
    targets_keyed k m 3 own other
    ∙ (λ i. map (key_from k) (pair_targets m (map (λ r. get_or r 2 0) (h i)) (map (λ r. get_or r 2 0) (j i))))
    ∙ (λ i. map (key_from k) (pair_targets m (targets rs (e i ∷ g i ∷ [])) (targets ss (f i ∷ g i ∷ []))))

-- its returns over a pair
pub returns_keyed : (k m : ℕ) (rs ss : List (List ℕ)) (own other : List ℕ) (x y : ℕ) {p q b s v a : ℕ} → p ≡ x / m → q ≡ x % m → b ≡ a → s ≡ y / m → v ≡ y % m
    → records 4 own ≡ filter (starts_with (p ∷ b ∷ s ∷ [])) rs → records 4 other ≡ filter (starts_with (q ∷ b ∷ v ∷ [])) ss
    → target_keys k m 4 own other ≡ map (key_from k) (walk m rs ss [] (x ∷ a ∷ y ∷ []))
unfolding walk renumbered targets starts_with
returns_keyed k m rs ss own other x y e f g d c h j =
    targets_keyed k m 4 own other
    ∙ (λ i. map (key_from k) (pair_targets m (map (λ r. get_or r 3 0) (h i)) (map (λ r. get_or r 3 0) (j i))))
    ∙ (λ i. map (key_from k) (pair_targets m (targets rs (e i ∷ g i ∷ d i ∷ [])) (targets ss (f i ∷ g i ∷ c i ∷ []))))

-- ---- one more byte

pub walk_keyed :
    (k m : ℕ) (rs ss : List (List ℕ)) (c : ℕ) (cs key : List ℕ)
    → map (key_from k) (walk m rs ss (c ∷ cs) key) ≡ concat_map (λ x. map (key_from (k * 256 + x)) (walk m rs ss cs (key ++ (x ∷ [])))) (upto c)
unfolding walk key_from
walk_keyed k m rs ss c cs key = go (upto c)
  where
    one : (x : ℕ) (ws : List (List ℕ)) → map (key_from k) (map (λ r. x ∷ r) ws) ≡ map (key_from (k * 256 + x)) ws
    one x [] = refl
    one x (w ∷ ws) = λ i. step i ∷ one x ws i
      where
        step : key_from k (x ∷ w) ≡ key_from (k * 256 + x) w
        step = refl

    go :
        (xs : List ℕ)
        → map (key_from k) (concat_map (λ x. map (λ r. x ∷ r) (walk m rs ss cs (key ++ (x ∷ [])))) xs) ≡ concat_map (λ x. map (key_from (k * 256 + x)) (walk m rs ss cs (key ++ (x ∷ [])))) xs
    go [] = refl
    go (x ∷ xs) =
        map-append (key_from k) (map (λ r. x ∷ r) (walk m rs ss cs (key ++ (x ∷ [])))) (concat_map (λ x. map (λ r. x ∷ r) (walk m rs ss cs (key ++ (x ∷ [])))) xs)
        ∙ (λ i. one x (walk m rs ss cs (key ++ (x ∷ []))) i ++ go xs i)

-- ---- the blocks of a pair and a symbol have all of its returns

targets-within : (rs : List (List ℕ)) (q a u : ℕ) → targets (filter (starts_with (q ∷ a ∷ [])) rs) (q ∷ a ∷ u ∷ []) ≡ targets rs (q ∷ a ∷ u ∷ [])
unfolding targets starts_with
targets-within rs q a u = ap (map (λ r. get_or r 3 0)) (filter-within (starts_with (q ∷ a ∷ u ∷ [])) (starts_with (q ∷ a ∷ [])) rs (starts_shorter q a u))

pub walk-within : (m : ℕ) (rs ss os vs : List (List ℕ)) (n x : ℕ) {p q b a : ℕ} → p ≡ x / m → q ≡ x % m → b ≡ a → os ≡ filter (starts_with (p ∷ b ∷ [])) rs → vs ≡ filter (starts_with (q ∷ b ∷ [])) ss
    → walk m os vs (n ∷ []) (x ∷ a ∷ []) ≡ walk m rs ss (n ∷ []) (x ∷ a ∷ [])
unfolding walk renumbered
walk-within m rs ss os vs n x {a = a} e f g h j =
    (λ i. walk m ((h ∙ (λ k. filter (starts_with (e k ∷ g k ∷ [])) rs)) i) ((j ∙ (λ k. filter (starts_with (f k ∷ g k ∷ [])) ss)) i) (n ∷ []) (x ∷ a ∷ []))
    ∙ (λ i. concat_map (λ y. map (λ r. y ∷ r) (pair_targets m (targets-within rs (x / m) a (y / m) i) (targets-within ss (x % m) a (y % m) i))) (upto n))
