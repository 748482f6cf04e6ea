-- A pass over the records of one class, and the passes over all classes: what is written so far, and which images are stamped. Assumes nothing.
use mathlib.Core.Path.{◌≡◌, refl, sym, ap, ◌∙◌, subst}
use mathlib.Core.Logic.{◌⊎◌, inl, inr}
use mathlib.Core.Bool.{true, false, ◌&&◌, true≢false}
use mathlib.Core.List.Memᴰ.{not-nil}
use mathlib.Core.List.{List, [], ◌∷◌, ◌++◌, Memᴰ}
use Prim.Native.Nat.{ℕ, zero, suc, ◌+◌, ◌-◌, ◌<◌, ◌≤◌}
use native.Mathlib.Omega.{arith}
use native.Mathlib.Decide.{ℕ_discrete, dec_lt}
use native.Mathlib.Numerals.{add-one}
use lib.ListN.{length, get_or, set, take, drop, length-set, length-drop, get_or-append, get_or-eq_default}
use lib.Seq.{ext_get_or, get_or-drop, get_or-append-add, get_or-set_same, get_or-set_other}
use Rattle.lists.specs.Lists.{any, same, over}
use Rattle.lists.proofs.Members.{not_so, and-true, and_of, any-true, any_of, get_d_mem, same_true, same_of}
use Rattle.lists.proofs.Copying.{length_over}
use Rattle.limits.specs.Limits.{state_most}
use Rattle.table_spec.specs.File.{records}
use Rattle.table_spec.specs.Maps.{class_of, classes}
use Rattle.table_spec.proofs.Bytes.{records-wide}
use Rattle.check_spec.proofs.Numbered.{class-below, class-under}
use Rattle.check_matching.specs.Matching.{kept}
use Rattle.quotient_spec.specs.Quotient.{image}
use Rattle.records_spec.specs.Fates.{taken, fate, section_fates}
use Rattle.records_spec.proofs.Counting.{length_fates}
use Rattle.records_spec.proofs.Sections.{fate-at}
use Rattle.records_fates.specs.Marks.{place_of, Placed, Stamped, dead, again, first, UpTo, record_at, state_at, records_in, Fitting, Ends, ClassMarked}
use Rattle.records_fates.proofs.Places.{of_image, to-image}
use Rattle.records_fates.proofs.Spans.{one_state}

-- ---- records of a section

-- a record of the first i stands at an index below i
mem-at : (rs : List (List ℕ)) (i : ℕ) (x : List ℕ) → Memᴰ x (take i rs) → (j : ℕ) × (j < i) × (j < length rs) × (get_or rs j [] ≡ x)
mem-at [] zero x k = absurd (not-nil k)
mem-at [] (suc i) x k = absurd (not-nil k)
mem-at (r ∷ rs) zero x k = absurd (not-nil k)
mem-at (r ∷ rs) (suc i) x (Memᴰ.head e) = (0, omega arith, omega arith, sym e)
mem-at (r ∷ rs) (suc i) x (Memᴰ.tail k) = let o = mem-at rs i x k in (suc o.0, omega (arith, o.1), omega (arith, o.2), o.3)

at_mem : (rs : List (List ℕ)) (i j : ℕ) → j < i → j < length rs → Memᴰ (get_or rs j []) (take i rs)
at_mem [] i j h l = absurd (omega arith)
at_mem (r ∷ rs) zero j h l = absurd (omega arith)
at_mem (r ∷ rs) (suc i) zero h l = Memᴰ.head refl
at_mem (r ∷ rs) (suc i) (suc j) h l = Memᴰ.tail (at_mem rs i j (omega arith) (omega arith))

module _ {w : ℕ} {s m : List ℕ} (k : Fitting w s m) {i : ℕ} (h : i < records_in w s) where
  record_mem : Memᴰ (record_at w s i) (records w s)
  record_mem = get_d_mem (records w s) i [] h

  pub record_long : length (record_at w s i) ≡ w
  record_long = records-wide w s (record_at w s i) record_mem

  pub record_placed : Placed m (record_at w s i)
  record_placed = record { least = omega (arith, record_long, k.moves); most = omega (arith, record_long, k.returns); symbol = k.symbols (record_at w s i) record_mem; class = class-under m k.few-classes (omega arith) }

  pub state-small : state_at w s i < length m
  state-small = k.states (record_at w s i) record_mem

-- the end of a record's state is ahead
pub ahead : {w : ℕ} {s ends : List ℕ} {i q : ℕ} → Ends w s ends → i < records_in w s → q ≡ state_at w s i → i < get_or ends q 0
ahead {w} {s} {ends} {i} {q} e h p = subst (λ (x : ℕ). i < get_or ends x 0) (sym p) (e.behind i h)

-- ---- one pass

module _ (w : ℕ) (s f m : List ℕ) where
  abbrev marks : List ℕ
  marks = section_fates (kept f) m (records w s)

  -- record j is of class c, and alive
  pub record Meant (c j : ℕ) : Type 0 where
    pub alive : kept f (record_at w s j) ≡ true
    pub class : class_of m (state_at w s j) ≡ c

  -- the marks of the records of class c before i are written, and their images are stamped
  pub record Going (c stamp : ℕ) (room old new : List ℕ) (i : ℕ) : Type 0 where
    pub inside : i ≤ records_in w s
    pub long : length new ≡ length old
    pub done : (j : ℕ) → j < i → class_of m (state_at w s j) ≡ c → get_or new j 0 ≡ get_or marks j 0
    pub rest : (j : ℕ) → (j < i → class_of m (state_at w s j) ≡ c → ⊥) → get_or new j 0 ≡ get_or old j 0
    pub small : UpTo stamp room
    pub stamped : (j : ℕ) → j < i → Meant c j → get_or room (place_of m (record_at w s j)) 0 ≡ stamp
    pub only : (p : ℕ) → get_or room p 0 ≡ stamp → (j : ℕ) × (j < i) × Meant c j × (place_of m (record_at w s j) ≡ p)

  pub going : (c stamp : ℕ) (room out : List ℕ) → 0 < stamp → UpTo (stamp - 1) room → Going c stamp room out out 0
  going c stamp room out h u = record {
    inside = omega arith;
    long = refl;
    done = λ j l. absurd (omega arith);
    rest = λ j n. refl;
    small = record { places = u.places; small = λ p. omega (arith, u.small p) };
    stamped = λ j l. absurd (omega arith);
    only = λ p e. absurd (omega (arith, u.small p));
  }

module _ {w : ℕ} {s f m : List ℕ} {c stamp : ℕ} {room old new : List ℕ} {i : ℕ} (k : Fitting w s m) (g : Going w s f m c stamp room old new i) where
  pub gone : records_in w s ≤ i → ClassMarked w s f m c old new × UpTo stamp room
  gone h = (record { long = g.long; done = λ j l. g.done j (omega arith); rest = λ j n. g.rest j (λ l. n (omega (arith, g.inside))) }, g.small)

  -- the records of a state of another class are left
  pub skip : {ends : List ℕ} {q : ℕ} → Ends w s ends → i < records_in w s → q ≡ state_at w s i → (class_of m q ≡ c → ⊥) → Going w s f m c stamp room old new (get_or ends q 0)
  skip {ends} {q} e h p n = subst (λ (x : ℕ). Going w s f m c stamp room old new (get_or ends x 0)) (sym p) (record {
    inside = e.inside (state_at w s i);
    long = g.long;
    done = λ j l t. g.done j (before j l t) t;
    rest = λ j r. g.rest j (λ l. r (omega (arith, e.behind i h)));
    small = g.small;
    stamped = λ j l t. g.stamped j (before j l t.class) t;
    only = λ x t. let o = g.only x t in (o.0, omega (arith, o.1, e.behind i h), o.2, o.3);
  })
    where
      before : (j : ℕ) → j < get_or ends (state_at w s i) 0 → class_of m (state_at w s j) ≡ c → j < i
      before j l t = go (dec_lt j i)
        where
          go : Dec (j < i) → j < i
          go (yes b) = b
          go (no b) = absurd (n (ap (class_of m) p ∙ ap (class_of m) (sym (one_state e k.in_order i j h (omega arith) l)) ∙ t))

  -- the record at i is of class c: its mark is its fate
  module _ (h : i < records_in w s) (class : class_of m (state_at w s i) ≡ c) where
    r : List ℕ
    r = record_at w s i

    -- an earlier record that is alive and has the image is one of those that are stamped
    taken_stamped : taken (kept f) m (take i (records w s)) (record_at w s i) ≡ true → get_or room (place_of m (record_at w s i)) 0 ≡ stamp
    unfolding taken
    taken_stamped t = go (any-true _ (take i (records w s)) t)
      where
        go : (e : List ℕ) × Memᴰ e (take i (records w s)) × ((kept f e && same (image m e) (image m (record_at w s i))) ≡ true) → get_or room (place_of m (record_at w s i)) 0 ≡ stamp
        go (e, d, b) =
            let o = mem-at (records w s) i e d in
            let a = and-true _ _ b in
            let v : image m (record_at w s o.0) ≡ image m (record_at w s i) = ap (image m) o.3 ∙ same_true _ _ a.1 in
            let u = of_image m (record_at w s o.0) (record_at w s i) (record_long k o.2 ∙ sym (record_long k h)) (record_placed k o.2) (record_placed k h) v in
            ap (λ p. get_or room p 0) (sym u.1) ∙ g.stamped o.0 o.1 (record { alive = ap (kept f) o.3 ∙ a.0; class = u.0 ∙ class })

    stamped_taken : get_or room (place_of m (record_at w s i)) 0 ≡ stamp → taken (kept f) m (take i (records w s)) (record_at w s i) ≡ true
    unfolding taken
    stamped_taken e =
        let o = g.only (place_of m (record_at w s i)) e in
        let l : o.0 < records_in w s = omega (arith, o.1, h) in
        let v = to-image m (record_at w s o.0) (record_at w s i) (record_long k l ∙ sym (record_long k h)) (record_placed k l) (record_placed k h) (o.2.class ∙ sym class) o.3 in
        any_of _ (take i (records w s)) (record_at w s o.0) (at_mem (records w s) i o.0 o.1 l) (and_of o.2.alive (same_of v))

    fate-here : get_or (marks w s f m) i 0 ≡ fate (kept f) m (take i (records w s)) (record_at w s i)
    fate-here = fate-at (kept f) m [] (records w s) i h

    dead-here : kept f (record_at w s i) ≡ false → get_or (marks w s f m) i 0 ≡ 2
    unfolding fate
    dead-here a = fate-here ∙ rw (a, fate)

    again-here : kept f (record_at w s i) ≡ true → get_or room (place_of m (record_at w s i)) 0 ≡ stamp → get_or (marks w s f m) i 0 ≡ 1
    unfolding fate
    again-here a e = fate-here ∙ rw (a, fate) (rw (stamped_taken e))

    first-here : kept f (record_at w s i) ≡ true → (get_or room (place_of m (record_at w s i)) 0 ≡ stamp → ⊥) → get_or (marks w s f m) i 0 ≡ 0
    unfolding fate
    first-here a e = fate-here ∙ rw (a, fate) (rw (not_so (taken (kept f) m (take i (records w s)) (record_at w s i)) (λ t. e (taken_stamped t))))

    -- one mark more is written
    module _ (b : records_in w s ≤ length old) {x : ℕ} (fits : get_or (marks w s f m) i 0 ≡ x) where
      written : get_or (set new i x) i 0 ≡ x
      written = get_or-set_same new i x 0 (omega (arith, g.long))

      done_on : (j : ℕ) → j < i + 1 → class_of m (state_at w s j) ≡ c → get_or (set new i x) j 0 ≡ get_or (marks w s f m) j 0
      done_on j l t = go (ℕ_discrete j i)
        where
          go : Dec (j ≡ i) → get_or (set new i x) j 0 ≡ get_or (marks w s f m) j 0
          go (yes e) = ap (λ n. get_or (set new i x) n 0) e ∙ written ∙ sym fits ∙ ap (λ n. get_or (marks w s f m) n 0) (sym e)
          go (no e) = get_or-set_other new i j x 0 e ∙ g.done j (omega arith) t

      rest_on : (j : ℕ) → (j < i + 1 → class_of m (state_at w s j) ≡ c → ⊥) → get_or (set new i x) j 0 ≡ get_or old j 0
      rest_on j n = go (ℕ_discrete j i)
        where
          go : Dec (j ≡ i) → get_or (set new i x) j 0 ≡ get_or old j 0
          go (yes e) = absurd (n (omega arith) (ap (λ y. class_of m (state_at w s y)) e ∙ class))
          go (no e) = get_or-set_other new i j x 0 e ∙ g.rest j (λ l. n (omega arith))

      onward : {room' : List ℕ} → UpTo stamp room' → ((j : ℕ) → j < i + 1 → Meant w s f m c j → get_or room' (place_of m (record_at w s j)) 0 ≡ stamp)
          → ((p : ℕ) → get_or room' p 0 ≡ stamp → (j : ℕ) × (j < i + 1) × Meant w s f m c j × (place_of m (record_at w s j) ≡ p)) → Going w s f m c stamp room' old (set new i x) (i + 1)
      onward u v o = record { inside = omega arith; long = length-set new i x ∙ g.long; done = done_on; rest = rest_on; small = u; stamped = v; only = o }

    place : ℕ
    place = place_of m (record_at w s i)

    -- the images that were stamped, where this record stamps none
    only_on : (p : ℕ) → get_or room p 0 ≡ stamp → (j : ℕ) × (j < i + 1) × Meant w s f m c j × (place_of m (record_at w s j) ≡ p)
    only_on p e = let o = g.only p e in (o.0, omega (arith, o.1), o.2, o.3)

    stamped_on : (Meant w s f m c i → get_or room place 0 ≡ stamp) → (j : ℕ) → j < i + 1 → Meant w s f m c j → get_or room (place_of m (record_at w s j)) 0 ≡ stamp
    unfolding place
    stamped_on own j n t = go (ℕ_discrete j i)
      where
        go : Dec (j ≡ i) → get_or room (place_of m (record_at w s j)) 0 ≡ stamp
        go (yes z) = ap (λ y. get_or room (place_of m (record_at w s y)) 0) z ∙ own (subst (Meant w s f m c) z t)
        go (no z) = g.stamped j (omega arith) t

    -- .. and where it stamps its own
    module _ (l : place < 102400) where
      own_stamp : get_or (set room place stamp) place 0 ≡ stamp
      own_stamp = get_or-set_same room place stamp 0 (omega (arith, g.small.places))

      small-set : UpTo stamp (set room place stamp)
      small-set = record { places = length-set room place stamp ∙ g.small.places; small = λ p. go p (ℕ_discrete p place) }
        where
          go : (p : ℕ) → Dec (p ≡ place) → get_or (set room place stamp) p 0 ≤ stamp
          go p (yes z) = omega (arith, ap (λ y. get_or (set room place stamp) y 0) z ∙ own_stamp)
          go p (no z) = omega (arith, get_or-set_other room place p stamp 0 z, g.small.small p)

      stamped_set : (j : ℕ) → j < i + 1 → Meant w s f m c j → get_or (set room place stamp) (place_of m (record_at w s j)) 0 ≡ stamp
      unfolding place
      stamped_set j n t = go (ℕ_discrete (place_of m (record_at w s j)) place) (ℕ_discrete j i)
        where
          go : Dec (place_of m (record_at w s j) ≡ place) → Dec (j ≡ i) → get_or (set room place stamp) (place_of m (record_at w s j)) 0 ≡ stamp
          go (yes z) d = ap (λ y. get_or (set room place stamp) y 0) z ∙ own_stamp
          go (no z) (yes d) = absurd (z (ap (λ y. place_of m (record_at w s y)) d))
          go (no z) (no d) = get_or-set_other room place (place_of m (record_at w s j)) stamp 0 z ∙ g.stamped j (omega arith) t

      only_set : Meant w s f m c i → (p : ℕ) → get_or (set room place stamp) p 0 ≡ stamp → (j : ℕ) × (j < i + 1) × Meant w s f m c j × (place_of m (record_at w s j) ≡ p)
      unfolding place
      only_set t p e = go (ℕ_discrete p place)
        where
          go : Dec (p ≡ place) → (j : ℕ) × (j < i + 1) × Meant w s f m c j × (place_of m (record_at w s j) ≡ p)
          go (yes z) = (i, omega arith, t, sym z)
          go (no z) = only_on p (sym (get_or-set_other room place p stamp 0 z) ∙ e)

    in_room : place_of m (record_at w s i) < 102400
    unfolding place_of
    in_room = let o = record_placed k h in omega (arith, o.symbol, o.class (get_or (record_at w s i) 2 0), o.class (get_or (record_at w s i) (length (record_at w s i) - 1) 0))

    pub mark_on : records_in w s ≤ length old → {x : ℕ} {room' : List ℕ} → Stamped f m stamp (record_at w s i) room x room' → Going w s f m c stamp room' old (set new i x) (i + 1)
    unfolding place
    mark_on b (dead a) = onward b (dead-here a) g.small (stamped_on (λ t. absurd (true≢false (sym t.alive ∙ a)))) only_on
    mark_on b (again a e) = onward b (again-here a e) g.small (stamped_on (λ t. e)) only_on
    mark_on b (first a e) = onward b (first-here a e) (small-set in_room) (stamped_set in_room) (only_set in_room (record { alive = a; class = class }))

-- ---- the passes over all classes

module _ (w : ℕ) (s f m : List ℕ) where
  -- the marks of the records of the classes below c are written, and no stamp is above this one
  pub record Telling (lowest : ℕ) (room old new : List ℕ) (c stamp : ℕ) : Type 0 where
    pub inside : c ≤ classes m
    pub long : length new ≡ length old
    pub done : (j : ℕ) → j < records_in w s → class_of m (state_at w s j) < c → get_or new j 0 ≡ get_or (marks w s f m) j 0
    pub rest : (j : ℕ) → (j < records_in w s → class_of m (state_at w s j) < c → ⊥) → get_or new j 0 ≡ get_or old j 0
    pub stamps : stamp ≡ lowest + c
    pub small : UpTo stamp room

  pub telling : (lowest : ℕ) (room out : List ℕ) → UpTo lowest room → Telling lowest room out out 0 lowest
  telling lowest room out u = record { inside = omega arith; long = refl; done = λ j h l. absurd (omega arith); rest = λ j n. refl; stamps = omega arith; small = u }

module _ {w : ℕ} {s f m : List ℕ} {lowest : ℕ} {room old new : List ℕ} {c stamp : ℕ} (t : Telling w s f m lowest room old new c stamp) where
  pub class_told : c < classes m → {room' new' : List ℕ} → ClassMarked w s f m c new new' × UpTo (stamp + 1) room' → Telling w s f m lowest room' old new' (c + 1) (stamp + 1)
  class_told b {room'} {new'} (p, u) = record {
    inside = omega arith;
    long = p.long ∙ t.long;
    done = λ j h l. done j h l (ℕ_discrete (class_of m (state_at w s j)) c);
    rest = λ j n. p.rest j (λ h e. n h (omega arith)) ∙ t.rest j (λ h l. n h (omega arith));
    stamps = omega (arith, t.stamps);
    small = u;
  }
    where
      done : (j : ℕ) → j < records_in w s → class_of m (state_at w s j) < c + 1 → Dec (class_of m (state_at w s j) ≡ c) → get_or new' j 0 ≡ get_or (marks w s f m) j 0
      done j h l (yes e) = p.done j h e
      done j h l (no e) = p.rest j (λ _ z. e z) ∙ t.done j h (omega arith)

  pub section_told : Fitting w s m → records_in w s ≤ length old → classes m ≤ c → (new ≡ over (marks w s f m) old) × UpTo (lowest + state_most) room
  unfolding over
  section_told k b h = (ext_get_or 0 new (over (marks w s f m) old) (t.long ∙ sym (length_over (marks w s f m) old (omega (arith, all)))) (λ j _. each j (dec_lt j (records_in w s))), record { places = t.small.places; small = λ p. omega (arith, t.small.small p, t.stamps, t.inside, k.few-classes) })
    where
      all : length (marks w s f m) ≡ records_in w s
      all = length_fates (kept f) m [] (records w s)

      each : (j : ℕ) → Dec (j < records_in w s) → get_or new j 0 ≡ get_or (marks w s f m ++ drop (length (marks w s f m)) old) j 0
      each j (yes d) =
          t.done j d (omega (arith, class-below m (state_at w s j) (state-small k d)))
          ∙ sym (get_or-append (marks w s f m) (drop (length (marks w s f m)) old) 0 j (omega (arith, all)))
      each j (no d) =
          let q : length (marks w s f m) + (j - length (marks w s f m)) ≡ j = omega (arith, all) in
          t.rest j (λ z. absurd (d z))
          ∙ ap (λ n. get_or old n 0) (sym q)
          ∙ sym (get_or-drop (length (marks w s f m)) old (j - length (marks w s f m)) 0)
          ∙ sym (get_or-append-add (marks w s f m) (drop (length (marks w s f m)) old) (j - length (marks w s f m)) 0)
          ∙ ap (λ n. get_or (marks w s f m ++ drop (length (marks w s f m)) old) n 0) q
