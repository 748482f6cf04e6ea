-- A literal that becomes false takes its weight from the clauses in which it stands, and gives it back where its variable is unset again. Assumes nothing.
use mathlib.Core.Path.{◌≡◌, refl, sym, ap, ◌∙◌}
use mathlib.Core.Logic.{◌⊎◌, inl, inr, ◌≢◌}
use mathlib.Core.Bool.{Bool, true, false}
use mathlib.Core.List.Memᴰ.{cases_cons}
use mathlib.Core.List.Memᴰ.{not-nil}
use mathlib.Core.List.{List, [], ◌∷◌, Memᴰ}
use Prim.Native.Nat.{ℕ, ◌+◌, ◌*◌, ◌/◌, ◌≤◌, ◌<◌}
use native.Mathlib.Nat.{zero-mul}
use native.Mathlib.Omega.{arith}
use native.Mathlib.Decide.{ℕ_discrete}
use lib.ListN.{length, get_or, set, take, drop, length-take, length-drop}
use lib.Seq.{length-slice, get_or-set_same, get_or-set_other}
use Rattle.lists.proofs.Members.{get_d_mem}
use Rattle.cnf.specs.Clauses.{value_of, clauses_in}
use Rattle.cnf.specs.Closing.{Formed}
use Rattle.cnf.proofs.Words.{by_clauses, clauses_nil, clauses_cons}
use Rattle.sat_counters.specs.Counters.{times, numbered, places_of, Indexed, weight, is_false, weigh, CountersOf, Falls, Fell, Rises}
use Rattle.sat_counters.proofs.Times.{times-nil, weight-here, weight-past}
use Rattle.sat_counters.proofs.Weighing.{false_of, false-not, weigh-nil, weigh-false, weigh-left, weigh-small}

-- l is the literal of the variable x that is false under v
pub record FalseOf (v : List ℕ) (x l : ℕ) : Type 0 where
  pub inside : x < length v
  pub bit : value_of v x < 2
  pub is : l ≡ 2 * x + value_of v x
  pub low : l < 1560

-- a clause is no longer than its list
clause-short : (ws c : List ℕ) → Memᴰ c (clauses_in ws) → length c ≤ length ws
clause-short ws c = by_clauses (λ (ws : List ℕ). Memᴰ c (clauses_in ws) → length c ≤ length ws) (λ m. absurd (not-nil (rw clauses_nil at m))) one ws
  where
    pick : (k : ℕ) (ws : List ℕ) → (Memᴰ c (clauses_in (drop k ws)) → length c ≤ length (drop k ws)) → (c ≡ take k ws) ⊎ Memᴰ c (clauses_in (drop k ws)) → length c ≤ length (k ∷ ws)
    pick k ws ih (inl e) = omega (arith, ap length e ∙ length-take k ws)
    pick k ws ih (inr m) = omega (arith, ih m, length-drop k ws)

    one : (k : ℕ) (ws : List ℕ) → (Memᴰ c (clauses_in (drop k ws)) → length c ≤ length (drop k ws)) → Memᴰ c (clauses_in (k ∷ ws)) → length c ≤ length (k ∷ ws)
    one k ws ih m = pick k ws ih (cases_cons (rw clauses_cons at m))

-- the places of a literal are no more than all
pub places-room : {ws firsts clauses : List ℕ} {l : ℕ} → Indexed ws firsts clauses → l < 1560 → length (places_of firsts clauses l) ≤ length clauses
places-room {ws} {firsts} {clauses} {l} i h = omega (arith, length-slice (get_or firsts l 0) (get_or firsts (l + 1) 0) clauses (i.inside l h), i.inside l h)

module _ {v : List ℕ} {x l : ℕ} (f : FalseOf v x l) where
  is_false_lem : (m : ℕ) → m ≡ l → is_false v m ≡ true
  is_false_lem m e =
      let half : m / 2 ≡ x = omega (arith, f.is, f.bit) in
      false_of v m (rw half (omega (arith, f.is, f.bit)))

  was_left : (m : ℕ) → m / 2 ≡ x → is_false (set v x 2) m ≡ false
  was_left m e = false-not (set v x 2) m (λ z. omega (arith, z, ap (value_of (set v x 2)) e ∙ get_or-set_same v x 2 2 f.inside))

  -- any other literal is false as before
  as_before : (m : ℕ) → m ≢ l → is_false v m ≡ is_false (set v x 2) m
  as_before m n = go (ℕ_discrete (m / 2) x)
    where
      go : Dec (m / 2 ≡ x) → is_false v m ≡ is_false (set v x 2) m
      go (yes e) = false-not v m (λ z. n (omega (arith, ap (value_of v) e, z, f.is))) ∙ sym (was_left m e)
      go (no d) = unfold is_false in rw (get_or-set_other v x (m / 2) 2 2 d)

  pub weigh_falls : (c : List ℕ) → weigh v c + times l c * weight l ≡ weigh (set v x 2) c
  weigh_falls [] = omega (arith, weigh-nil v, weigh-nil (set v x 2), ap (λ (n : ℕ). n * weight l) (times-nil l) ∙ zero-mul (weight l))
  weigh_falls (m ∷ c) = go (ℕ_discrete m l) (is_false v m) refl (weigh_falls c)
    where
      go : Dec (m ≡ l) → (t : Bool) → is_false v m ≡ t → weigh v c + times l c * weight l ≡ weigh (set v x 2) c → weigh v (m ∷ c) + times l (m ∷ c) * weight l ≡ weigh (set v x 2) (m ∷ c)
      go (yes e) t p r =
          omega
          (arith, e, r, weight-here l m c (weight l) (sym e), weigh-false v m c (is_false_lem m e), weigh-left (set v x 2) m c (was_left m (omega (arith, e, f.is, f.bit))))
      go (no n) true p r =
          omega (arith, r, weight-past l m c (weight l) (λ z. n (sym z)), weigh-false v m c p, weigh-false (set v x 2) m c (sym (as_before m n) ∙ p))
      go (no n) false p r =
          omega (arith, r, weight-past l m c (weight l) (λ z. n (sym z)), weigh-left v m c p, weigh-left (set v x 2) m c (sym (as_before m n) ∙ p))

  module _ {ws firsts clauses : List ℕ} (i : Indexed ws firsts clauses) where
    -- of a clause by its number
    number_falls : (c : ℕ) → c < length (clauses_in ws) → weigh v (numbered ws c) + times c (places_of firsts clauses l) * weight l ≡ weigh (set v x 2) (numbered ws c)
    number_falls c h = ap (λ (n : ℕ). weigh v (numbered ws c) + n * weight l) (i.stands l c f.low h) ∙ weigh_falls (numbered ws c)

    pub can_decrement : {counters : List ℕ} → CountersOf ws (set v x 2) counters → Falls (places_of firsts clauses l) l counters
    can_decrement t = record {
      small = omega (arith, f.low);
      inside = λ c m. omega (arith, i.numbers l c f.low m, t.room);
      enough = λ c m. let h = i.numbers l c f.low m in omega (arith, t.each c h, number_falls c h);
    }

    pub fell : {counters counters' : List ℕ} → CountersOf ws (set v x 2) counters → Fell (places_of firsts clauses l) l counters counters' → CountersOf ws v counters'
    fell t s = record {
      room = omega (arith, t.room, s.long);
      each = λ c h. omega (arith, t.each c h, number_falls c h, s.less c);
    }

    pub can_increment : {counters : List ℕ} {n : ℕ} → n ≤ 780 → Formed (clauses_in ws) n → CountersOf ws v counters → Rises (places_of firsts clauses l) l counters
    can_increment few formed t = record {
      small = omega (arith, f.low);
      inside = λ c m. omega (arith, i.numbers l c f.low m, t.room);
      room = λ c m.
          let h = i.numbers l c f.low m in
          let has = get_d_mem (clauses_in ws) c [] h in
          let most = weigh-small (set v x 2) (numbered ws c) (λ k q. omega (arith, formed.below (numbered ws c) has k q)) in
          omega (arith, t.each c h, number_falls c h, most, clause-short ws (numbered ws c) has, i.short);
    }

    pub rose : {counters counters' : List ℕ} → CountersOf ws v counters → Fell (places_of firsts clauses l) l counters' counters → CountersOf ws (set v x 2) counters'
    rose t s = record {
      room = omega (arith, t.room, s.long);
      each = λ c h. omega (arith, t.each c h, number_falls c h, s.less c);
    }
