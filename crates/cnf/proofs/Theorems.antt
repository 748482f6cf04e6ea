-- What the search of document 01 promises, for any number of variables, any clauses over them and any budget. Assumes nothing.
use mathlib.Core.Path.{◌≡◌, sym, ap, ◌∙◌}
use mathlib.Core.Logic.{◌≢◌}
use mathlib.Core.List.{List, Memᴰ}
use Prim.Native.Nat.{ℕ, ◌≤◌}
use Rattle.cnf.specs.Clauses.{value_of, Model, Maximal, Horn}
use Rattle.cnf.specs.Search.{broken, solved, none_exists, spent, unfinished, search_from, made_of}
use Rattle.cnf.specs.Closing.{Formed, Values, Found, UnitSteps, AtRest, rests}
use Rattle.cnf.proofs.Sound.{search_sound}
use Rattle.cnf.proofs.Ends.{never_unfinished}
use Rattle.cnf.proofs.Horn.{horn_few, horn_unspent}
use Rattle.cnf.proofs.Closure.{closes-one, units_break, units-rest, members-same}

module _ (cs : List (List ℕ)) (n b : ℕ) (formed : Formed cs n) where
  -- what is solved satisfies the clauses
  pub satisfies : (v : List ℕ) (k : ℕ) → search_from cs n b ≡ solved v k → Model cs n v
  satisfies v k e = (rw e at (search_sound cs n b formed)).model

  -- and is maximal
  pub maximal : (v : List ℕ) (k : ℕ) → search_from cs n b ≡ solved v k → Maximal cs n v
  maximal v k e = (rw e at (search_sound cs n b formed)).maximal

  -- where the search ends by (a), no assignment satisfies the clauses
  pub complete : (k : ℕ) → search_from cs n b ≡ none_exists k → (a : List ℕ) → Model cs n a → ⊥
  complete k e = rw e at (search_sound cs n b formed)

  -- so where one does, the search does not end so
  pub never_none : (a : List ℕ) → Model cs n a → (k : ℕ) → search_from cs n b ≢ none_exists k
  never_none a m k e = complete k e a m

  pub ends : search_from cs n b ≢ unfinished
  ends = never_unfinished cs n b formed

  -- with at most one positive literal a clause: no more guesses than variables, so a budget of as many is never spent
  pub horn : Horn cs → made_of (search_from cs n b) ≤ n
  horn = horn_few cs n b formed

  pub horn_never_spent : Horn cs → n ≤ b → (k : ℕ) → search_from cs n b ≢ spent k
  horn_never_spent = horn_unspent cs n b formed

-- of what is maximal: nothing true in a, and not in v, where a has every 1 of v
pub maximal-at : {cs : List (List ℕ)} {n : ℕ} {v : List ℕ} → Maximal cs n v → (a : List ℕ) → Model cs n a → ((x : ℕ) → value_of v x ≡ 1 → value_of a x ≡ 1) → (x : ℕ) → value_of v x ≢ 1 → value_of a x ≢ 1
maximal-at h a m up x p q = p (ap (λ (u : List ℕ). value_of u x) (sym (h.only a m up)) ∙ q)

-- "The choice among several clauses changes neither answer nor count": the clauses in another order, or several times
pub order-free :
    (cs ds : List (List ℕ)) → ((c : List ℕ) → Memᴰ c cs → Memᴰ c ds) → ((c : List ℕ) → Memᴰ c ds → Memᴰ c cs) → (n b : ℕ) → Formed cs n
    → Formed ds n → search_from cs n b ≡ search_from ds n b
order-free = members-same

-- and forced literals set in any order: two ways that come to rest come to the same values, and where one way breaks a clause none comes to rest
pub same_rest : (cs : List (List ℕ)) (n : ℕ) (v u w : List ℕ) → Values n v → UnitSteps cs v u → AtRest cs u → UnitSteps cs v w → AtRest cs w → u ≡ w
same_rest cs n v u w z s p t q =
    let e : rests u ≡ rests w = closes-one cs v (rests u) (rests w) (units-rest cs n v u z s p) (units-rest cs n v w z t q) in
    cc

pub one-breaks : (cs : List (List ℕ)) (n : ℕ) (v u w : List ℕ) → Values n v → UnitSteps cs v u → Found u cs broken → UnitSteps cs v w → AtRest cs w → ⊥
one-breaks cs n v u w z s f t q = let r = units-rest cs n v w z t q in units_break cs v u s f w r.extends r.at_rest
