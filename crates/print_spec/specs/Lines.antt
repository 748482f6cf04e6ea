-- The lines that the program prints, as ASCII (document 01, "Check and quotient"; document 02, (vi) and (viii)). Assumes nothing.
use Rattle.std.specs.Prelude.{◌≡◌, Bool, true, false, List, [], ◌∷◌, ◌++◌, ℕ, zero, suc, ◌+◌, ◌/◌, ◌%◌, ◌≤◌, length, take, ltb}
use Rattle.io.specs.Digits.{hex_digit_ascii, last_digits}

-- bytes were put after the first `at` bytes of a text, which r bytes then are: what stood before them is as it was
pub record Put (xs : List ℕ) (at : ℕ) (old : List ℕ) (r : ℕ) (new : List ℕ) : Type 0 where
  pub place : r ≡ at + length xs
  pub inside : r ≤ length new
  pub long : length new ≡ length old
  pub front : take r new ≡ take at old ++ xs

-- how many decimal digits a number has, of at most so many and one
unfoldable pub places_of : ℕ → ℕ → ℕ
places_of zero n = 1
places_of (suc k) n = elim (ltb n 10) [ true ↦ 1 | false ↦ suc (places_of k (n / 10)) ]

-- a number of 64 bits in decimal, with no zero before it
unfoldable pub decimal_text : ℕ → List ℕ
decimal_text n = last_digits 10 (places_of 19 n) n

-- "quotient bytes": a space and two hexadecimal digits for each byte
unfoldable pub hex_text : List ℕ → List ℕ
hex_text [] = []
hex_text (b ∷ bs) = 32 ∷ hex_digit_ascii (b / 16) ∷ hex_digit_ascii (b % 16) ∷ hex_text bs

-- "class by state": a space and a number for each state
unfoldable pub numbers_text : List ℕ → List ℕ
numbers_text [] = []
numbers_text (x ∷ xs) = (32 ∷ []) ++ decimal_text x ++ numbers_text xs

-- "map"
abbrev pub map_name : List ℕ
map_name = 109 ∷ 97 ∷ 112 ∷ []

-- the second line
unfoldable pub map_text : List ℕ → List ℕ
map_text m = map_name ++ numbers_text m ++ (10 ∷ [])

-- "table"
abbrev pub table_name : List ℕ
table_name = 116 ∷ 97 ∷ 98 ∷ 108 ∷ 101 ∷ []

-- the third line
unfoldable pub table_text : List ℕ → List ℕ
table_text bytes = table_name ++ hex_text bytes ++ (10 ∷ [])

-- "states "
abbrev pub states_name : List ℕ
states_name = 115 ∷ 116 ∷ 97 ∷ 116 ∷ 101 ∷ 115 ∷ 32 ∷ []

-- " classes "
abbrev pub classes_name : List ℕ
classes_name = 32 ∷ 99 ∷ 108 ∷ 97 ∷ 115 ∷ 115 ∷ 101 ∷ 115 ∷ 32 ∷ []

-- " guesses "
abbrev pub guesses_name : List ℕ
guesses_name = 32 ∷ 103 ∷ 117 ∷ 101 ∷ 115 ∷ 115 ∷ 101 ∷ 115 ∷ 32 ∷ []

-- " words "
abbrev pub words_name : List ℕ
words_name = 32 ∷ 119 ∷ 111 ∷ 114 ∷ 100 ∷ 115 ∷ 32 ∷ []

-- " joined "
abbrev pub joined_name : List ℕ
joined_name = 32 ∷ 106 ∷ 111 ∷ 105 ∷ 110 ∷ 101 ∷ 100 ∷ 32 ∷ []

-- " of "
abbrev pub of_name : List ℕ
of_name = 32 ∷ 111 ∷ 102 ∷ 32 ∷ []

-- " spent"
abbrev pub spent_name : List ℕ
spent_name = 32 ∷ 115 ∷ 112 ∷ 101 ∷ 110 ∷ 116 ∷ []

-- ` spent` "where that is so"
abbrev pub spent_text : Bool → List ℕ
spent_text true = spent_name
spent_text false = []

-- the first line, which ends in ` joined J of U`, "then ` spent`"
unfoldable pub counts_text : ℕ → ℕ → ℕ → ℕ → ℕ → ℕ → Bool → List ℕ
counts_text n c g w j u s =
    (states_name ++ decimal_text n)
    ++ (classes_name ++ decimal_text c)
    ++ (guesses_name ++ decimal_text g)
    ++ (words_name ++ decimal_text w)
    ++ (joined_name ++ decimal_text j)
    ++ (of_name ++ decimal_text u)
    ++ spent_text s
    ++ (10 ∷ [])

-- "records "
abbrev pub records_name : List ℕ
records_name = 114 ∷ 101 ∷ 99 ∷ 111 ∷ 114 ∷ 100 ∷ 115 ∷ 32 ∷ []

-- " kept "
abbrev pub kept_name : List ℕ
kept_name = 32 ∷ 107 ∷ 101 ∷ 112 ∷ 116 ∷ 32 ∷ []

-- " folded "
abbrev pub folded_name : List ℕ
folded_name = 32 ∷ 102 ∷ 111 ∷ 108 ∷ 100 ∷ 101 ∷ 100 ∷ 32 ∷ []

-- " dead "
abbrev pub dead_name : List ℕ
dead_name = 32 ∷ 100 ∷ 101 ∷ 97 ∷ 100 ∷ 32 ∷ []

-- the fourth line: `records N kept K folded F dead D`
unfoldable pub records_text : ℕ → ℕ → ℕ → ℕ → List ℕ
records_text n k f d = (records_name ++ decimal_text n) ++ (kept_name ++ decimal_text k) ++ (folded_name ++ decimal_text f) ++ (dead_name ++ decimal_text d) ++ (10 ∷ [])

-- "refused "
abbrev pub refused_name : List ℕ
refused_name = 114 ∷ 101 ∷ 102 ∷ 117 ∷ 115 ∷ 101 ∷ 100 ∷ 32 ∷ []

-- "Refused: `refused` and the number, one line."
unfoldable pub refused_text : ℕ → List ℕ
refused_text k = (refused_name ++ decimal_text k) ++ (10 ∷ [])
