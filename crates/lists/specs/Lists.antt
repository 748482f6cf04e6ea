-- Walks over lists that the definitions of the other crates are written with, and how a call is refused. Assumes nothing.
use Rattle.std.specs.Prelude.{◌≡◌, Bool, true, false, ◌&&◌, List, [], ◌∷◌, ◌++◌, ℕ, zero, suc, ◌+◌, ◌<◌, length, get_or, take, drop, eqb}
use Rattle.std.specs.List.{list_all, list_any, flat_map, concat as std_concat}

module _ {A : Type 0} where
  -- some element passes
  abbrev pub any : (A → Bool) → List A → Bool
  any = list_any

  -- every element passes
  abbrev pub all : (A → Bool) → List A → Bool
  all = list_all

  -- the elements that pass, in their order
  unfoldable pub filter : (A → Bool) → List A → List A
  filter f [] = []
  filter f (x ∷ xs) = elim (f x) [ true ↦ x ∷ filter f xs | false ↦ filter f xs ]

-- the lists that the elements give, one after the other
abbrev pub concat_map : {A B : Type 0} → (A → List B) → List A → List B
concat_map = flat_map

-- the numbers below n, ascending
unfoldable pub upto : ℕ → List ℕ
upto zero = []
upto (suc n) = upto n ++ (n ∷ [])

-- the numbers ascend
pub record Rising (xs : List ℕ) : Type 0 where
  pub rises : (i j : ℕ) → i < j → j < length xs → get_or xs i 0 < get_or xs j 0

-- x stands in the list
unfoldable pub mem : ℕ → List ℕ → Bool
mem x = any (eqb x)

-- two lists of numbers are equal
unfoldable pub same : List ℕ → List ℕ → Bool
same [] [] = true
same [] (y ∷ ys) = false
same (x ∷ xs) [] = false
same (x ∷ xs) (y ∷ ys) = eqb x y && same xs ys

-- k parts of w elements each, from the front
unfoldable pub parts : ℕ → ℕ → List ℕ → List (List ℕ)
parts zero w xs = []
parts (suc k) w xs = take w xs ∷ parts k w (drop w xs)

-- the lists, one after the other
abbrev pub concat : List (List ℕ) → List ℕ
concat = std_concat

-- numbers added up
unfoldable pub sum : List ℕ → ℕ
sum [] = 0
sum (x ∷ xs) = x + sum xs

-- a buffer whose first elements are xs and whose later elements are as they were
unfoldable pub over : List ℕ → List ℕ → List ℕ
over xs buffer = xs ++ drop (length xs) buffer

-- "Where several apply, the first one listed": the number of the first test that fails, or 0
unfoldable pub first_failed : List (ℕ × Bool) → ℕ
first_failed [] = 0
first_failed (t ∷ ts) = elim t.1 [ true ↦ first_failed ts | false ↦ t.0 ]

-- the number that an earlier operation gives, as the first of the tests after it: 0 passes, any other is given
abbrev pub stage : ℕ → ℕ × Bool
stage k = (k, eqb k 0)

-- what an answer says by its number and its values: the number is k; the values are those listed where k is 0, and none with a refusal
pub record Says (number : ℕ) (values : List ℕ) (k : ℕ) (listed : List ℕ) : Type 0 where
  pub numbered : number ≡ k
  pub valued : values ≡ (elim (eqb k 0) [ true ↦ listed | false ↦ [] ])

-- what is said of an answer's values, by their places, where nothing is refused: its number is 0
abbrev pub OnValues : ℕ → List ℕ → ((ℕ → ℕ) → Type 0) → Type 0
OnValues number values P = number ≡ 0 → P (λ i. get_or values i 0)
