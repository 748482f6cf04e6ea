-- The list without group 2 and that group have the clauses of the full list, so the search over them is the search over it. Assumes nothing.
use mathlib.Core.Path.{◌≡◌}
use mathlib.Core.Logic.{◌⊎◌, inl, inr}
use mathlib.Core.List.Memᴰ
use mathlib.Core.List.Memᴰ.{append_cases}
use mathlib.Core.List.{List, ◌++◌, Memᴰ}
use Prim.Native.Nat.{ℕ}
use Rattle.cnf.specs.Search.{search_from}
use Rattle.cnf.specs.Trials.{search_tried}
use Rattle.cnf.specs.Closing.{Formed}
use Rattle.cnf.proofs.Closure.{members-same}
use Rattle.cnf.proofs.Trials.{tried-members}
use Rattle.pairs.specs.Pairs.{pairs}
use Rattle.table_spec.specs.File.{Table}
use Rattle.table_spec.specs.Language.{count}
use Rattle.pairs.specs.Triangles.{triangles}
use Rattle.clauses_spec.specs.Clauses.{look_clauses, transitivity, move_clauses, return_clauses, clause_list, short_list}

module _ {A : Type 0} (c : A) where
  -- what is after both lists
  behind : {xs ys : List A} (zs : List A) → (Memᴰ c xs → Memᴰ c ys) → Memᴰ c (xs ++ zs) → Memᴰ c (ys ++ zs)
  behind {xs} {ys} zs f h = go (append_cases xs h)
    where
      go : Memᴰ c xs ⊎ Memᴰ c zs → Memᴰ c (ys ++ zs)
      go (inl m) = Memᴰ.append_left zs (f m)
      go (inr m) = Memᴰ.append_right ys m

  behind-or : {xs ys ts : List A} (zs : List A) → (Memᴰ c xs → Memᴰ c ys ⊎ Memᴰ c ts) → Memᴰ c (xs ++ zs) → Memᴰ c (ys ++ zs) ⊎ Memᴰ c ts
  behind-or {xs} {ys} {ts} zs f h = go (append_cases xs h)
    where
      left : Memᴰ c ys ⊎ Memᴰ c ts → Memᴰ c (ys ++ zs) ⊎ Memᴰ c ts
      left (inl m) = inl (Memᴰ.append_left zs m)
      left (inr m) = inr m

      go : Memᴰ c xs ⊎ Memᴰ c zs → Memᴰ c (ys ++ zs) ⊎ Memᴰ c ts
      go (inl m) = left (f m)
      go (inr m) = inl (Memᴰ.append_right ys m)

  module _ (a t m n r : List A) where
    there : Memᴰ c (a ++ m ++ n ++ r ++ t) → Memᴰ c (a ++ t ++ m ++ n ++ r)
    there h = go (append_cases (a ++ m ++ n ++ r) h)
      where
        go : Memᴰ c (a ++ m ++ n ++ r) ⊎ Memᴰ c t → Memᴰ c (a ++ t ++ m ++ n ++ r)
        go (inl h) = behind r (behind n (behind m (λ (k : Memᴰ c a). Memᴰ.append_left t k))) h
        go (inr h) = Memᴰ.append_left r (Memᴰ.append_left n (Memᴰ.append_left m (Memᴰ.append_right a h)))

    back : Memᴰ c (a ++ t ++ m ++ n ++ r) → Memᴰ c (a ++ m ++ n ++ r ++ t)
    back h = go (behind-or r (behind-or n (behind-or m (λ (k : Memᴰ c (a ++ t)). append_cases a k))) h)
      where
        go : Memᴰ c (a ++ m ++ n ++ r) ⊎ Memᴰ c t → Memᴰ c (a ++ m ++ n ++ r ++ t)
        go (inl h) = Memᴰ.append_left t h
        go (inr h) = Memᴰ.append_right (a ++ m ++ n ++ r) h

module _ (t : Table) where
  to-all : (c : List ℕ) → Memᴰ c (short_list t ++ triangles (count t)) → Memᴰ c (clause_list t)
  unfolding short_list clause_list transitivity
  to-all c = there c (look_clauses t) (transitivity t) (move_clauses t.internals (count t)) (move_clauses t.calls (count t)) (return_clauses t)

  from_all : (c : List ℕ) → Memᴰ c (clause_list t) → Memᴰ c (short_list t ++ triangles (count t))
  unfolding short_list clause_list transitivity
  from_all c = back c (look_clauses t) (transitivity t) (move_clauses t.internals (count t)) (move_clauses t.calls (count t)) (return_clauses t)

  module _ (b : ℕ) (formed : Formed (clause_list t) (pairs (count t))) where
    pub short-formed : Formed (short_list t ++ triangles (count t)) (pairs (count t))
    short-formed = record { below = λ c m. formed.below c (to-all c m) }

    -- the search, its count of guesses and its trials are those over the full list
    pub short-same : search_from (short_list t ++ triangles (count t)) (pairs (count t)) b ≡ search_from (clause_list t) (pairs (count t)) b
    short-same = members-same (short_list t ++ triangles (count t)) (clause_list t) to-all from_all (pairs (count t)) b short-formed formed

    pub short-tried : search_tried (short_list t ++ triangles (count t)) (pairs (count t)) b ≡ search_tried (clause_list t) (pairs (count t)) b
    short-tried = tried-members (short_list t ++ triangles (count t)) (clause_list t) to-all from_all (pairs (count t)) b short-formed formed
