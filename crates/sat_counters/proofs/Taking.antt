-- Laws for the walks over a literal's places that take its weight from the counters of its clauses, and give it back. Assumes nothing.
use mathlib.Core.Path.{◌≡◌, refl, sym, ap, ◌∙◌}
use mathlib.Core.Logic.{◌⊎◌, inl, inr, ◌≢◌}
use mathlib.Core.List.Memᴰ
use mathlib.Core.List.Memᴰ.{append_cases}
use mathlib.Core.List.Memᴰ.{cases_cons}
use mathlib.Core.List.Memᴰ.{eq_of_singleton}
use mathlib.Core.List.Memᴰ.{not-nil}
use mathlib.Core.List.{List, [], ◌∷◌, ◌++◌, Memᴰ}
use Prim.Native.Nat.{ℕ, ◌+◌, ◌-◌, ◌*◌, ◌≤◌, ◌<◌}
use native.Mathlib.Nat.{zero-mul}
use native.Mathlib.Numerals.{add-one}
use native.Mathlib.Omega.{arith}
use native.Mathlib.Decide.{ℕ_discrete}
use lib.ListN.{length, get_or, set, take, drop, length-set, drop_of_length-le}
use lib.Seq.{take-set-le, take-suc-set, get_or-set_same, get_or-set_other}
use Rattle.lists.specs.Lists.{filter}
use Rattle.lists.proofs.Members.{get_d_mem, one_on}
use Rattle.sat_counters.specs.Counters.{times, weight, Falls, Fell, Noted, Rises}
use Rattle.sat_counters.proofs.Times.{weight-here, weight-past}

-- the weight that the places from k on have for a clause
abbrev pub ahead : List ℕ → ℕ → ℕ → ℕ → ℕ
ahead places l k c = times c (drop k places) * weight l

-- none where the places are passed
ahead_none : (places : List ℕ) (l k c : ℕ) → length places ≤ k → ahead places l k c ≡ 0
unfolding filter
ahead_none places l k c h = rw (drop_of_length-le places h) (zero-mul (weight l))

module _ (places : List ℕ) (l k : ℕ) (h : k < length places) where
  ahead_here : (c : ℕ) → c ≡ get_or places k 0 → ahead places l k c ≡ ahead places l (k + 1) c + weight l
  ahead_here c e = ap (λ (xs : List ℕ). times c xs * weight l) (one_on places k h) ∙ weight-here c (get_or places k 0) (drop (k + 1) places) (weight l) e

  ahead_past : (c : ℕ) → c ≢ get_or places k 0 → ahead places l k c ≡ ahead places l (k + 1) c
  ahead_past c n = ap (λ (xs : List ℕ). times c xs * weight l) (one_on places k h) ∙ weight-past c (get_or places k 0) (drop (k + 1) places) (weight l) n

-- ---- taking

-- from the counters before to the counters now: the weight of the places ahead is still to be taken
pub record Taking (places : List ℕ) (l : ℕ) (before now : List ℕ) (k : ℕ) : Type 0 where
  pub inside : k ≤ length places
  pub long : length now ≡ length before
  pub still : (c : ℕ) → get_or now c 0 + times c places * weight l ≡ get_or before c 0 + ahead places l k c

pub taking : (places : List ℕ) (l : ℕ) (counters : List ℕ) → Taking places l counters counters 0
taking places l counters = record { inside = omega arith; long = refl; still = λ c. refl }

pub taken : {places before now : List ℕ} {l k : ℕ} → Taking places l before now k → length places ≤ k → Fell places l before now
taken {places} {before} {now} {l} {k} t h = record { long = t.long; less = λ c. omega (arith, t.still c, ahead_none places l k c h) }

module _ {places before now : List ℕ} {l k : ℕ} (f : Falls places l before) (t : Taking places l before now k) (h : k < length places) where
  pub place_inside : get_or places k 0 < length now
  place_inside = omega (arith, t.long, f.inside (get_or places k 0) (get_d_mem places k 0 h))

  pub place-enough : {c : ℕ} → c ≡ get_or places k 0 → weight l ≤ get_or now c 0
  place-enough e =
      let c = get_or places k 0 in
      rw e (omega (arith, t.still c, ahead_here places l k h c refl, f.enough c (get_d_mem places k 0 h)))

  pub take_on : {c left : ℕ} → c ≡ get_or places k 0 → left ≡ get_or now c 0 - weight l → Taking places l before (set now c left) (k + 1)
  take_on {c} {left} e q = record { inside = omega arith; long = length-set now c left ∙ t.long; still = λ d. go d (ℕ_discrete d c) }
    where
      go : (d : ℕ) → Dec (d ≡ c) → get_or (set now c left) d 0 + times d places * weight l ≡ get_or before d 0 + ahead places l (k + 1) d
      go d (yes r) =
          let new : get_or (set now c left) d 0 ≡ left = rw r (get_or-set_same now c left 0 (rw e place_inside)) in
          let enough = place-enough e in
          let was : left + weight l ≡ get_or now d 0 = rw r (omega arith) in
          omega (arith, t.still d, ahead_here places l k h d (r ∙ e), new, was)
      go d (no r) = omega (arith, t.still d, ahead_past places l k h d (λ z. r (z ∙ sym e)), get_or-set_other now c d left 0 r)

-- ---- noting

-- so far: a clause of the places stands ahead, or is noted where at most one literal is left
pub record Noting (places now noted : List ℕ) (k count : ℕ) : Type 0 where
  pub fewer : count ≤ k
  pub room : length places ≤ length noted
  pub among : (c : ℕ) → Memᴰ c (take count noted) → Memᴰ c places
  pub light : (c : ℕ) → Memᴰ c (take count noted) → get_or now c 0 < 4096
  pub every : (c : ℕ) → Memᴰ c places → Memᴰ c (drop k places) ⊎ (get_or now c 0 < 4096 → Memᴰ c (take count noted))

pub noting : {places noted : List ℕ} (now : List ℕ) → length places ≤ length noted → Noting places now noted 0 0
noting now h = record { fewer = omega arith; room = h; among = λ c m. absurd (not-nil m); light = λ c m. absurd (not-nil m); every = λ c m. inl m }

pub all_noted : {places now noted : List ℕ} {k count : ℕ} → Noting places now noted k count → k ≤ length places → length places ≤ k → Noted places now noted count
all_noted {places} {now} {noted} {k} {count} n i h = record { few = omega (arith, n.fewer, n.room); among = n.among; light = n.light; every = λ c m low. go c low (n.every c m) }
  where
    go : (c : ℕ) → get_or now c 0 < 4096 → Memᴰ c (drop k places) ⊎ (get_or now c 0 < 4096 → Memᴰ c (take count noted)) → Memᴰ c (take count noted)
    go c low (inl m) = absurd (not-nil (rw (drop_of_length-le places h) at m))
    go c low (inr f) = f low

module _ {places now noted : List ℕ} {k count c : ℕ} (n : Noting places now noted k count) (h : k < length places) (e : c ≡ get_or places k 0) (left : ℕ) where
  -- the list with the clause after
  grown : take (count + 1) (set noted count c) ≡ take count noted ++ (c ∷ [])
  grown = rw add-one (take-suc-set noted count c (omega (arith, n.fewer, n.room)))

  same : take count (set noted count c) ≡ take count noted
  same = take-set-le count noted count c (omega arith)

  c_in : Memᴰ c places
  c_in = rw e (get_d_mem places k 0 h)

  -- another clause
  other : (xs : List ℕ) → ((d : ℕ) → Memᴰ d (take count noted) → Memᴰ d xs) → (d : ℕ) → d ≢ c → Memᴰ d places
      → Memᴰ d (drop (k + 1) places) ⊎ (get_or (set now c left) d 0 < 4096 → Memᴰ d xs)
  other xs more d r m = go (n.every d m)
    where
      ahead_still : (d ≡ get_or places k 0) ⊎ Memᴰ d (drop (k + 1) places) → Memᴰ d (drop (k + 1) places)
      ahead_still (inl z) = absurd (r (z ∙ sym e))
      ahead_still (inr z) = z

      go : Memᴰ d (drop k places) ⊎ (get_or now d 0 < 4096 → Memᴰ d (take count noted)) → Memᴰ d (drop (k + 1) places) ⊎ (get_or (set now c left) d 0 < 4096 → Memᴰ d xs)
      go (inl z) = inl (ahead_still (cases_cons (rw (one_on places k h) at z)))
      go (inr f) = inr (λ low. more d (f (rw (get_or-set_other now c d left 0 r) at low)))

  -- at most one literal is left
  pub note_it : c < length now → left < 4096 → Noting places (set now c left) (set noted count c) (k + 1) (count + 1)
  note_it room low = record {
    fewer = omega (arith, n.fewer);
    room = rw (length-set noted count c) n.room;
    among = λ d m. was d (append_cases (take count noted) (rw grown at m));
    light = λ d m. lower d (append_cases (take count noted) (rw grown at m)) (ℕ_discrete d c);
    every = λ d m. go d m (ℕ_discrete d c);
  }
    where
      lower : (d : ℕ) → Memᴰ d (take count noted) ⊎ Memᴰ d (c ∷ []) → Dec (d ≡ c) → get_or (set now c left) d 0 < 4096
      lower d m (yes r) = rw (r, get_or-set_same now c left 0 room) low
      lower d (inl m) (no r) = rw (get_or-set_other now c d left 0 r) (n.light d m)
      lower d (inr m) (no r) = absurd (r (eq_of_singleton m))

      was : (d : ℕ) → Memᴰ d (take count noted) ⊎ Memᴰ d (c ∷ []) → Memᴰ d places
      was d (inl m) = n.among d m
      was d (inr m) = rw (eq_of_singleton m) c_in

      go : (d : ℕ) → Memᴰ d places → Dec (d ≡ c) → Memᴰ d (drop (k + 1) places) ⊎ (get_or (set now c left) d 0 < 4096 → Memᴰ d (take (count + 1) (set noted count c)))
      go d m (yes r) = inr (λ low. rw grown (Memᴰ.append_right (take count noted) (Memᴰ.head r)))
      go d m (no r) = other (take (count + 1) (set noted count c)) (λ d z. rw grown (Memᴰ.append_left (c ∷ []) z)) d r m

  -- more are
  pub pass_it : c < length now → 4096 ≤ left → left ≤ get_or now c 0 → Noting places (set now c left) (set noted count c) (k + 1) count
  pass_it room high less = record {
    fewer = omega (arith, n.fewer);
    room = rw (length-set noted count c) n.room;
    among = λ d m. n.among d (rw same at m);
    light = λ d m. lower d (n.light d (rw same at m)) (ℕ_discrete d c);
    every = λ d m. go d m (ℕ_discrete d c);
  }
    where
      lower : (d : ℕ) → get_or now d 0 < 4096 → Dec (d ≡ c) → get_or (set now c left) d 0 < 4096
      lower d z (yes r) = let was : get_or now c 0 < 4096 = rw (← r) z in absurd (omega (arith, high, less, was))
      lower d z (no r) = rw (get_or-set_other now c d left 0 r) z

      go : (d : ℕ) → Memᴰ d places → Dec (d ≡ c) → Memᴰ d (drop (k + 1) places) ⊎ (get_or (set now c left) d 0 < 4096 → Memᴰ d (take count (set noted count c)))
      go d m (yes r) =
          let new : get_or (set now c left) d 0 ≡ left = rw r (get_or-set_same now c left 0 room) in
          inr (λ low. absurd (omega arith))
      go d m (no r) = other (take count (set noted count c)) (λ d z. rw same z) d r m

-- ---- giving back

-- from the counters before to the counters now: the weight of the places ahead is still to be given
pub record Giving (places : List ℕ) (l : ℕ) (before now : List ℕ) (k : ℕ) : Type 0 where
  pub inside : k ≤ length places
  pub long : length now ≡ length before
  pub still : (c : ℕ) → get_or before c 0 + times c places * weight l ≡ get_or now c 0 + ahead places l k c

pub giving : (places : List ℕ) (l : ℕ) (counters : List ℕ) → Giving places l counters counters 0
giving places l counters = record { inside = omega arith; long = refl; still = λ c. refl }

pub given_back : {places before now : List ℕ} {l k : ℕ} → Giving places l before now k → length places ≤ k → Fell places l now before
given_back {places} {before} {now} {l} {k} g h = record { long = sym g.long; less = λ c. omega (arith, g.still c, ahead_none places l k c h) }

module _ {places before now : List ℕ} {l k : ℕ} (r : Rises places l before) (g : Giving places l before now k) (h : k < length places) where
  pub give_inside : get_or places k 0 < length now
  give_inside = omega (arith, g.long, r.inside (get_or places k 0) (get_d_mem places k 0 h))

  pub give_room : {c : ℕ} → c ≡ get_or places k 0 → get_or now c 0 + weight l < 4294967296
  give_room e =
      let c = get_or places k 0 in
      rw e (omega (arith, g.still c, ahead_here places l k h c refl, r.room c (get_d_mem places k 0 h)))

  pub give_on : {c more : ℕ} → c ≡ get_or places k 0 → more ≡ get_or now c 0 + weight l → Giving places l before (set now c more) (k + 1)
  give_on {c} {more} e q = record { inside = omega arith; long = length-set now c more ∙ g.long; still = λ d. go d (ℕ_discrete d c) }
    where
      go : (d : ℕ) → Dec (d ≡ c) → get_or before d 0 + times d places * weight l ≡ get_or (set now c more) d 0 + ahead places l (k + 1) d
      go d (yes s) =
          let new : get_or (set now c more) d 0 ≡ more = rw s (get_or-set_same now c more 0 (rw e give_inside)) in
          let was : more ≡ get_or now d 0 + weight l = rw s q in
          omega (arith, g.still d, ahead_here places l k h d (s ∙ e), new, was)
      go d (no s) = omega (arith, g.still d, ahead_past places l k h d (λ z. s (z ∙ sym e)), get_or-set_other now c d more 0 s)
