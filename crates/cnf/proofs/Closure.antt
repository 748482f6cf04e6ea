-- The search by closures: a turn closes the values, by whatever means, and then undoes, ends or guesses. A closure has to find the least values
-- at rest that extend the given ones, or that there are none. The outcome is that of the search step by step; so it depends on which clauses
-- there are, and not on their order or number. Assumes nothing.
use mathlib.Core.Path.{◌≡◌, refl, sym, ap, ◌∙◌, subst}
use mathlib.Core.Logic.{◌≢◌}
use mathlib.Core.List.{List, [], Memᴰ}
use Prim.Native.Nat.{ℕ, zero, suc, ◌*◌, ◌-◌, ◌/◌, ◌%◌}
use lib.ListN.{length, set, replicate, length-replicate}
use Rattle.cnf.specs.Search.{Seen, broken, forcing, quiet, scan, lowest_unset, Next, goes, ends, Outcome, unfinished, Guess, undo, decide, act, step, run, search_from}
use Rattle.cnf.specs.Closing.{Formed, Values, ◌⊑◌, Found, AtRest, Closed, UnitSteps, stay, Closes, breaks, more, rests}
use Rattle.cnf.proofs.Values.{⊑-antisym, none_below}
use Rattle.cnf.proofs.Found.{scan-found}
use Rattle.cnf.proofs.Steps.{state_of, steps, After}
use Rattle.cnf.proofs.Sound.{SoundState, SoundOutcome, sound_kept, start_sound}
use Rattle.cnf.proofs.Ends.{never_unfinished}
use Rattle.cnf.proofs.Order.{units-more, units-length, units-values, units-below, rest_unbroken}

-- it can find one thing only
pub closes-one : (cs : List (List ℕ)) (v : List ℕ) (c d : Closed) → Closes cs v c → Closes cs v d → c ≡ d
closes-one cs v breaks breaks h k = refl
closes-one cs v breaks (rests w) h k = absurd (h w k.extends k.at_rest)
closes-one cs v (rests w) breaks h k = absurd (k w h.extends h.at_rest)
closes-one cs v (rests w) (rests u) h k =
    ap rests (⊑-antisym w u (h.long ∙ sym k.long) (h.least u k.extends k.at_rest) (k.least w h.extends h.at_rest))

-- ---- unit steps, in any order, close

pub units_break : (cs : List (List ℕ)) (v u : List ℕ) → UnitSteps cs v u → Found u cs broken → Closes cs v breaks
units_break cs v u s f = λ w p q. rest_unbroken cs u w (units-below cs v u w s p q) q f

pub units-rest : (cs : List (List ℕ)) (n : ℕ) (v u : List ℕ) → Values n v → UnitSteps cs v u → AtRest cs u → Closes cs v (rests u)
units-rest cs n v u z s q = record {
  long = units-length cs v u s;
  small = (units-values cs n v u s z).small;
  extends = units-more cs v u s;
  at_rest = q;
  least = λ w p r. units-below cs v u w s p r;
}

-- ---- turns

-- what follows a closure
unfoldable pub turn_to : ℕ → List Guess → ℕ → Closed → Next
turn_to b gs k breaks = undo gs k
turn_to b gs k (rests w) = decide b (state_of w gs k) (lowest_unset w 0)

-- turns lead from here to the outcome
pub data LeadsTo (cs : List (List ℕ)) (n b : ℕ) : Next → Outcome → Type 0 where
  there : {o : Outcome} → LeadsTo cs n b (ends o) o
  turn : {v : List ℕ} {gs : List Guess} {k : ℕ} {o : Outcome} (c : Closed) → Values n v → Closes cs v c → LeadsTo cs n b (turn_to b gs k c) o → LeadsTo cs n b (goes (state_of v gs k)) o

abbrev pub at_start : ℕ → Next
at_start n = goes (state_of (replicate n 2) [] 0)

-- to one outcome only
pub leads_one : (cs : List (List ℕ)) (n b : ℕ) (t : Next) (o p : Outcome) → LeadsTo cs n b t o → LeadsTo cs n b t p → o ≡ p
leads_one cs n b t o p there there = refl
leads_one cs n b t o p (turn {gs = gs} {k = k} c z h r) (turn d y i s) =
    leads_one cs n b (turn_to b gs k c) o p r (subst (λ (x : Closed). LeadsTo cs n b (turn_to b gs k x) p) (closes-one cs _ d c i h) s)

-- ---- the search step by step, read as turns

module _ (cs : List (List ℕ)) (n b : ℕ) (formed : Formed cs n) where
  abbrev Good : Next → Type 0
  Good = After (SoundState cs n) (SoundOutcome cs n)

  -- with k steps left: from v, where unit steps have come to u
  Leads : ℕ → Type 0
  Leads k = (v u : List ℕ) (gs : List Guess) (m : ℕ) → Values n v → UnitSteps cs v u → SoundState cs n (state_of u gs m)
      → run k cs b (goes (state_of u gs m)) ≢ unfinished → LeadsTo cs n b (goes (state_of v gs m)) (run k cs b (goes (state_of u gs m)))

  after_turn : (k : ℕ) → Leads k → (t : Next) → Good t → run k cs b t ≢ unfinished → LeadsTo cs n b t (run k cs b t)
  unfolding Leads run
  after_turn k ih (goes s) g h = ih s.values s.values s.guesses s.made g.now.values stay g h
  after_turn k ih (ends o) g h = subst (λ (p : Outcome). LeadsTo cs n b (ends o) p) (sym (run_ends k)) there
    where
      run_ends : (k : ℕ) → run k cs b (ends o) ≡ o
      run_ends zero = refl
      run_ends (suc j) = refl

  leads : (k : ℕ) → Leads k
  unfolding Leads run step act turn_to
  leads zero = λ v u gs m z s g h. absurd (h refl)
  leads (suc k) = λ v u gs m z s g h.
      go v u gs m z s (scan u cs) (scan-found u cs) (sound_kept cs n b formed (state_of u gs m) (step cs b (state_of u gs m)) (steps cs b (state_of u gs m)) g) h (leads k)
    where
      go : (v u : List ℕ) (gs : List Guess) (m : ℕ) → Values n v → UnitSteps cs v u → (x : Seen) → Found u cs x → Good (act b (state_of u gs m) x)
          → run k cs b (act b (state_of u gs m) x) ≢ unfinished → Leads k → LeadsTo cs n b (goes (state_of v gs m)) (run k cs b (act b (state_of u gs m) x))
      go v u gs m z s broken f g h ih = turn breaks z (units_break cs v u s f) (after_turn k ih (undo gs m) g h)
      go v u gs m z s (forcing l) f g h ih = ih v (set u (l / 2) (1 - l % 2)) gs m z (more l s f) g h
      go v u gs m z s quiet f g h ih = turn (rests u) z (units-rest cs n v u z s f) (after_turn k ih (decide b (state_of u gs m) (lowest_unset u 0)) g h)

  pub leads_search : LeadsTo cs n b (at_start n) (search_from cs n b)
  unfolding search_from Leads
  leads_search =
      let z = start_sound cs n b formed in
      leads (2 * suc b * suc (suc n)) (replicate n 2) (replicate n 2) [] 0 z.now.values stay z (never_unfinished cs n b formed)

  -- whatever closes, the outcome is the search's
  pub turns_search : (o : Outcome) → LeadsTo cs n b (at_start n) o → o ≡ search_from cs n b
  turns_search o l = leads_one cs n b (at_start n) o (search_from cs n b) l leads_search

-- ---- clauses that are at rest under the same values

module _ (cs ds : List (List ℕ)) (to : (u : List ℕ) → AtRest cs u → AtRest ds u) (from : (u : List ℕ) → AtRest ds u → AtRest cs u) where
  pub closes-alike : (v : List ℕ) (c : Closed) → Closes cs v c → Closes ds v c
  closes-alike v breaks h = λ u p q. h u p (from u q)
  closes-alike v (rests w) h = record { long = h.long; small = h.small; extends = h.extends; at_rest = to w h.at_rest; least = λ u p q. h.least u p (from u q) }

  leads_alike : (n b : ℕ) (t : Next) (o : Outcome) → LeadsTo cs n b t o → LeadsTo ds n b t o
  leads_alike n b t o there = there
  leads_alike n b t o (turn {v = v} {gs = gs} {k = k} c z h r) = turn c z (closes-alike v c h) (leads_alike n b (turn_to b gs k c) o r)

  -- the outcome depends on these values alone
  pub alike_same : (n b : ℕ) → Formed cs n → Formed ds n → search_from cs n b ≡ search_from ds n b
  alike_same n b f g = turns_search ds n b g (search_from cs n b) (leads_alike n b (at_start n) (search_from cs n b) (leads_search cs n b f))

-- the same clauses in another list
pub members-rest : (cs ds : List (List ℕ)) → ((c : List ℕ) → Memᴰ c ds → Memᴰ c cs) → (u : List ℕ) → AtRest cs u → AtRest ds u
members-rest cs ds from u q = λ c m. q c (from c m)

pub members-same :
    (cs ds : List (List ℕ)) → ((c : List ℕ) → Memᴰ c cs → Memᴰ c ds) → ((c : List ℕ) → Memᴰ c ds → Memᴰ c cs) → (n b : ℕ) → Formed cs n
    → Formed ds n → search_from cs n b ≡ search_from ds n b
members-same cs ds to from = alike_same cs ds (members-rest cs ds from) (members-rest ds cs to)

-- where every rest extends the values, closing them closes the values of which none is set
pub closes-below : (cs : List (List ℕ)) (v : List ℕ) (c : Closed) → ((u : List ℕ) → AtRest cs u → v ⊑ u) → Closes cs v c → Closes cs (replicate (length v) 2) c
closes-below cs v breaks low h = λ u p q. h u (low u q) q
closes-below cs v (rests w) low h = record {
  long = h.long ∙ sym (length-replicate (length v) 2);
  small = h.small;
  extends = none_below (length v) w;
  at_rest = h.at_rest;
  least = λ u p q. h.least u (low u q) q;
}
