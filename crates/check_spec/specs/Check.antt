-- Checking a map (document 01, "Check and quotient" and "Refused calls"). Assumes nothing.
use Rattle.std.specs.Prelude.{Bool, ◌&&◌, ◌||◌, not, Result, List, [], ◌∷◌, ℕ, length, get_or, eqb}
use Rattle.lists.specs.Lists.{any, all, upto, first_failed, stage, Says}
use Rattle.lists.specs.Bits.{has}
use Rattle.limits.specs.declared.Limits.{Limits}
use Rattle.refusals.specs.declared.Refusal.{Refusal}
use Rattle.refusals.specs.Refusals.{answered, number_in, one_value, values_in}
use Rattle.table_spec.specs.File.{Table, table_of}
use Rattle.table_spec.specs.Reading.{read_number}
use Rattle.table_spec.specs.Language.{count, byte_of, agreed_on, targets}
use Rattle.table_spec.specs.Maps.{joins, classes, numbered}
use Rattle.tops_spec.specs.Tops.{top_words}

-- (i) "joined states agree on accepting"; request (v): "on mark and accepting"
unfoldable pub labels_agree : Table → List ℕ → Bool
labels_agree t m = all (λ p. all (λ q. not (joins m p q) || eqb (agreed_on (byte_of t p)) (agreed_on (byte_of t q))) (upto (count t))) (upto (count t))

-- a record (p, a, p') and a state q: where q is joined to p, it has a record with symbol a "to a joined target"
unfoldable pub move_matched : List (List ℕ) → List ℕ → ℕ → ℕ → ℕ → ℕ → Bool
move_matched rs m p a p' q = not (joins m p q) || any (joins m p') (targets rs (q ∷ a ∷ []))

-- (ii) and (iii) "each internal or call move of one is matched by the other to a joined target"
unfoldable pub moves_matched : List (List ℕ) → ℕ → List ℕ → Bool
moves_matched rs n m = all (λ r. all (λ q. move_matched rs m (get_or r 0 0) (get_or r 1 0) (get_or r 2 0) q) (upto n)) rs

-- a return (p, r, s, p'), a state q and a stack state u: "over joined stack states s of p and u of q, wherever s is in tops(p) and u in tops(q)"
unfoldable pub return_matched : List ℕ → List (List ℕ) → List ℕ → ℕ → ℕ → ℕ → ℕ → ℕ → ℕ → Bool
return_matched f rs m p r s p' q u = not (joins m p q && joins m s u && has f p s && has f q u) || any (joins m p') (targets rs (q ∷ r ∷ u ∷ []))

-- (iv) "the same for returns"; q may be p
unfoldable pub returns_matched : List ℕ → List (List ℕ) → ℕ → List ℕ → Bool
returns_matched f rs n m = all (λ r. all (λ q. all (λ u. return_matched f rs m (get_or r 0 0) (get_or r 1 0) (get_or r 2 0) (get_or r 3 0) q u) (upto n)) (upto n)) rs

-- 15 "length"; 16 "numbering"; "17 to 20 the first of (i) to (iv) that is broken"
unfoldable pub map_tests : Table → List ℕ → List (ℕ × Bool)
map_tests t m =
    (15, eqb (length m) (count t))
    ∷ (16, numbered m)
    ∷ (17, labels_agree t m)
    ∷ (18, moves_matched t.internals (count t) m)
    ∷ (19, moves_matched t.calls (count t) m)
    ∷ (20, returns_matched (top_words t) t.returns (count t) m)
    ∷ []

-- 39, 1 to 8, then 15 to 20; or 0
unfoldable pub check_number : Limits → List ℕ → List ℕ → ℕ
check_number L b m = first_failed (stage (read_number L b) ∷ map_tests (table_of b) m)

-- the operation: "Accepted, the answer is the class count."
unfoldable pub check_of : Limits → List ℕ → List ℕ → Result ℕ Refusal
check_of L b m = answered (check_number L b m) (classes m)

-- the answer by its number and its values
abbrev pub CheckSays : Limits → List ℕ → List ℕ → Result ℕ Refusal → Type 0
CheckSays L b m r = Says (number_in r) (values_in one_value r) (check_number L b m) (classes m ∷ [])
