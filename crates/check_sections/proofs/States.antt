-- What the words of a room say of a record: the conditions of the check. Assumes nothing.
use mathlib.Core.Path.{◌≡◌, refl, sym, ap, ◌∙◌, subst}
use mathlib.Core.Bool.{Bool, true, false, ◌||◌, not}
use mathlib.Core.List.Memᴰ
use mathlib.Core.List.{List, [], ◌∷◌, ◌++◌, Memᴰ}
use Prim.Native.Nat.{ℕ, suc, ◌+◌, ◌-◌, ◌*◌, ◌^◌, ◌≤◌, ◌<◌}
use native.Mathlib.Omega.{arith}
use lib.ListN.{length, get_or}
use lib.Bits.{bit_and}
use borrow.Author.Tests.{eqb-true, eqb-false, eq-eqb, ne_eqb}
use Rattle.lists.specs.Lists.{any, all, upto}
use Rattle.lists.specs.Bits.{Bit, has_bit, has}
use Rattle.lists.proofs.Bits.{bit-own, bit-pow, has-true, has_of}
use Rattle.lists.proofs.Members.{any-true, any_of, all_true, all_of, upto_of, not_so}
use Rattle.limits.specs.Limits.{state_most}
use Rattle.table_spec.specs.File.{records}
use Rattle.table_spec.specs.Language.{targets}
use Rattle.table_spec.specs.Maps.{class_of, joins}
use Rattle.table_spec.proofs.Bytes.{records-wide}
use Rattle.table_spec.proofs.Facts.{three_bytes, four_bytes, targets-mem, mem-targets}
use Rattle.check_spec.specs.Check.{return_matched}
use Rattle.check_matching.specs.Matching.{kept, return_met, record_matched, record_met, records_matched, Lent}
use Rattle.check_matching.proofs.Matched.{same_test, move_kept, return_kept, stack-apart, not-under, return_by, record_apart, record_move, record_dead}
use Rattle.check_sections.specs.Rooms.{Members, Joined, least_of, last_of, place_of, bit_of, Lies, noted, Room, covering, met_by, state_matched}
use Rattle.check_sections.proofs.Words.{and-bit, bit-both, covered, least-few, least-same, same-least}
use Rattle.check_sections.proofs.Rooms.{move_bit, return-bit, of_noted, be_noted}

-- tests that agree on every element of a list
all_alike : {f g : List ℕ → Bool} (rs : List (List ℕ)) → ((r : List ℕ) → Memᴰ r rs → f r ≡ g r) → all f rs ≡ all g rs
all_alike rs h = same_test _ _ (λ e. all_of _ rs (λ r d. sym (h r d) ∙ all_true _ rs e r d)) (λ e. all_of _ rs (λ r d. h r d ∙ all_true _ rs e r d))

-- ---- the records of a lent section

module _ {w n : ℕ} {s : List ℕ} (l : Lent w s n) (r : List ℕ) (d : Memᴰ r (records w s)) where
  long : length r ≡ w
  long = records-wide w s r d

  state-there : (i : ℕ) → (i ≡ 1 → ⊥) → i < w → get_or r i 0 < n
  state-there i x h = l.lent.states r d i x h

  target-there : last_of r < n
  target-there = state-there (length r - 1) (λ z. omega (arith, long, l.moves)) (omega (arith, long, l.moves))

-- records of 3 bytes, or of 4
pub lent-width : {v w n : ℕ} {s : List ℕ} → w ≡ v → Lent w s n → Lent v s n
lent-width {n = n} {s = s} e l = subst (λ (u : ℕ). Lent u s n) e l

pub move_width : {w n : ℕ} {s : List ℕ} → Lent w s n → (w ≡ 4 → ⊥) → w ≡ 3
move_width l x = omega (arith, l.moves, l.returns)

pub lent_lies : {w : ℕ} {s m ws : List ℕ} → Lent w s (length m) → Joined m ws → Lies w s ws
lent_lies {w} {s} {m} {ws} l j = record {
  wide = l.moves;
  placed = λ r d. record {
    least = omega (arith, long l r d, l.moves);
    most = omega (arith, long l r d, l.returns);
    symbol = l.lent.symbols r d;
    states = λ i x h. omega (arith, state-there l r d i x (omega (arith, long l r d)), l.few);
    target = least-few l.few j (last_of r) (target-there l r d);
  };
}

-- ---- a bit of a room is a key with a target of the class

module _ {rs : List (List ℕ)} {m ws : List ℕ} {own : ℕ} {room : List ℕ} (few : length m ≤ state_most) (j : Joined m ws) (g : Room rs ws own room) (y a x : ℕ) (l : y < length m) (key : List ℕ)
    (wide : (r : List ℕ) → Memᴰ r rs → length r ≡ suc (length key))
    (ends : (r : List ℕ) → Memᴰ r rs → last_of r < length m)
    (split : (r : List ℕ) → Memᴰ r rs → has_bit own (get_or r 0 0) ≡ true → get_or r 1 0 ≡ a → bit_of r ≡ x → r ≡ key ++ (last_of r ∷ []))
    (formed : (z : ℕ) → (has_bit own (get_or (key ++ (z ∷ [])) 0 0) ≡ true) × (get_or (key ++ (z ∷ [])) 1 0 ≡ a) × (bit_of (key ++ (z ∷ [])) ≡ x) × (last_of (key ++ (z ∷ [])) ≡ z)) where
  onward : (r : List ℕ) × Memᴰ r rs × (noted ws own (a * state_most + least_of ws y) x r ≡ true) → any (joins m y) (targets rs key) ≡ true
  unfolding joins
  onward (r, d, h) =
      let t = of_noted ws own (a * state_most + least_of ws y) x r h in
      let ly = least-few few j y l in
      let lr = least-few few j (last_of r) (ends r d) in
      let e1 : get_or r 1 0 ≡ a = omega (arith, t.1) in
      let e2 : least_of ws y ≡ least_of ws (last_of r) = omega (arith, t.1) in
      any_of (joins m y) (targets rs key) (last_of r) (mem-targets rs key (last_of r) (Memᴰ.cast (sym (split r d t.0 e1 (sym t.2))) d)) (eq-eqb _ _ (same-least few j y (last_of r) l (ends r d) e2))

  backward : (z : ℕ) × Memᴰ z (targets rs key) × (joins m y z ≡ true) → any (noted ws own (a * state_most + least_of ws y) x) rs ≡ true
  unfolding joins
  backward (z, d, h) =
      let b = targets-mem rs key wide z d in
      let f = formed z in
      let lz : z < length m = subst (λ (v : ℕ). v < length m) f.3 (ends (key ++ (z ∷ [])) b) in
      let e : least_of ws y ≡ least_of ws (last_of (key ++ (z ∷ []))) = least-same few j y z l lz (eqb-true _ _ h) ∙ ap (least_of ws) (sym f.3) in
      any_of (noted ws own (a * state_most + least_of ws y) x) rs (key ++ (z ∷ [])) b (be_noted ws own (a * state_most + least_of ws y) x (key ++ (z ∷ [])) f.0 (λ i. sym f.1 i * state_most + e i) (sym f.2))

  pub room-targets : has room (a * state_most + least_of ws y) x ≡ any (joins m y) (targets rs key)
  room-targets = g.bits (a * state_most + least_of ws y) x ∙ same_test _ _ (λ h. onward (any-true _ rs h)) (λ h. backward (any-true _ (targets rs key) h))

-- ---- moves, by the room of all states

-- the word of all possible states
abbrev pub every_state : ℕ
every_state = 1099511627775

every : (x : ℕ) → x < state_most → Bit every_state x
unfolding upto has_bit
every x l = eqb-true _ _ (all_true (has_bit every_state) (upto state_most) refl x (upto_of state_most x l))

module _ {s m ws room : List ℕ} (l : Lent 3 s (length m)) (j : Joined m ws) (g : Room (records 3 s) ws every_state room) where
  move_bits : (y a q : ℕ) → y < length m → q < length m → has room (a * state_most + least_of ws y) q ≡ any (joins m y) (targets (records 3 s) (q ∷ a ∷ []))
  unfolding bit_of has_bit
  move_bits y a q h k = room-targets l.few j g y a q h (q ∷ a ∷ []) (λ r d. long l r d) (λ r d. target-there l r d) split (λ z. (eq-eqb _ _ (every q (omega (arith, l.few))), refl, refl, refl))
    where
      split : (r : List ℕ) → Memᴰ r (records 3 s) → has_bit every_state (get_or r 0 0) ≡ true → get_or r 1 0 ≡ a → bit_of r ≡ q → r ≡ (q ∷ a ∷ []) ++ (last_of r ∷ [])
      split r d o e1 e2 =
          let w = long l r d in
          let e0 : get_or r 0 0 ≡ q = move_bit r {x = get_or r 0 0} (omega arith) refl ∙ e2 in
          let z : 2 ≡ length r - 1 = omega arith in
          three_bytes r w ∙ λ i. e0 i ∷ e1 i ∷ get_or r (z i) 0 ∷ []

  module _ (f r : List ℕ) (d : Memᴰ r (records 3 s)) where
    last : last_of r ≡ get_or r 2 0
    last = let z : length r - 1 ≡ 2 = omega (arith, long l r d) in ap (λ (i : ℕ). get_or r i 0) z

    first : get_or r 0 0 ≡ bit_of r
    first = move_bit r (omega (arith, long l r d)) refl

    own : Members m (class_of m (get_or r 0 0)) (get_or ws (bit_of r) 0)
    own = subst (λ (v : ℕ). Members m (class_of m (get_or r 0 0)) (get_or ws v 0)) first (j.words (get_or r 0 0) (state-there l r d 0 (λ z. omega arith) (omega arith)))

    move_covered : covering ws every_state room r ≡ record_met 3 f (records 3 s) (length m) m r
    unfolding has joins
    move_covered = covered (get_or room (place_of ws r) 0) (bit_and (get_or ws (bit_of r) 0) every_state) (length m) (record_matched 3 f (records 3 s) (length m) m r) asked free
      where
        asked : (q : ℕ) → Bit (bit_and (get_or ws (bit_of r) 0) every_state) q → (q < length m) × (record_matched 3 f (records 3 s) (length m) m r q ≡ has_bit (get_or room (place_of ws r) 0) q)
        asked q b =
            let i = own.only q (and-bit (get_or ws (bit_of r) 0) every_state q b).0 in
            (i.0, sym (record_move f (records 3 s) (length m) m r 3 q {y = last_of r} refl (eq-eqb _ _ i.1) last) ∙ sym (move_bits (last_of r) (get_or r 1 0) q (target-there l r d) i.0))

        free : (q : ℕ) → q < length m → (Bit (bit_and (get_or ws (bit_of r) 0) every_state) q → ⊥) → record_matched 3 f (records 3 s) (length m) m r q ≡ true
        free q i b = record_apart f (records 3 s) (length m) m r 3 q (ne_eqb _ _ (λ e. b (bit-both (get_or ws (bit_of r) 0) every_state q (own.every q i e) (every q (omega (arith, l.few))))))

    move_met : met_by f ws every_state every_state room r ≡ record_met 3 f (records 3 s) (length m) m r
    unfolding has_bit
    move_met =
        let a : has_bit every_state (get_or r 0 0) ≡ true = eq-eqb _ _ (every (get_or r 0 0) (omega (arith, state-there l r d 0 (λ z. omega arith) (omega arith), l.few))) in
        let b : kept f r ≡ true = sym (move_kept f r (omega (arith, long l r d))) in
        (λ i. not (a i) || (not (b i) || covering ws every_state room r)) ∙ move_covered

  pub moves_met : (f : List ℕ) → all (met_by f ws every_state every_state room) (records 3 s) ≡ records_matched 3 f (records 3 s) (length m) m
  moves_met f = all_alike (records 3 s) (λ r d. move_met f r d)

-- ---- returns, by the room of the state that has to match them

module _ {s m ws room : List ℕ} {q : ℕ} (l : Lent 4 s (length m)) (j : Joined m ws) (h : q < length m) (g : Room (records 4 s) ws (2 ^ q) room) where
  return-bits : (y a u : ℕ) → y < length m → has room (a * state_most + least_of ws y) u ≡ any (joins m y) (targets (records 4 s) (q ∷ a ∷ u ∷ []))
  unfolding bit_of has_bit
  return-bits y a u k = room-targets l.few j g y a u k (q ∷ a ∷ u ∷ []) (λ r d. long l r d) (λ r d. target-there l r d) split (λ z. (eq-eqb _ _ (bit-own q), refl, refl, refl))
    where
      split : (r : List ℕ) → Memᴰ r (records 4 s) → has_bit (2 ^ q) (get_or r 0 0) ≡ true → get_or r 1 0 ≡ a → bit_of r ≡ u → r ≡ (q ∷ a ∷ u ∷ []) ++ (last_of r ∷ [])
      split r d o e1 e2 =
          let w = long l r d in
          let e0 : get_or r 0 0 ≡ q = bit-pow q (get_or r 0 0) (eqb-true _ _ o) in
          let e3 : get_or r 2 0 ≡ u = return-bit r {x = get_or r 2 0} (omega arith) refl ∙ e2 in
          let z : 3 ≡ length r - 1 = omega arith in
          four_bytes r w ∙ λ i. e0 i ∷ e1 i ∷ e3 i ∷ get_or r (z i) 0 ∷ []

  module _ (f r : List ℕ) (d : Memᴰ r (records 4 s)) where
    to : last_of r ≡ get_or r 3 0
    to = let z : length r - 1 ≡ 3 = omega (arith, long l r d) in ap (λ (i : ℕ). get_or r i 0) z

    stack : get_or r 2 0 ≡ bit_of r
    stack = return-bit r (omega (arith, long l r d)) refl

    under : Members m (class_of m (get_or r 2 0)) (get_or ws (bit_of r) 0)
    under = subst (λ (v : ℕ). Members m (class_of m (get_or r 2 0)) (get_or ws v 0)) stack (j.words (get_or r 2 0) (state-there l r d 2 (λ z. omega arith) (omega arith)))

    module _ (live : has f (get_or r 0 0) (get_or r 2 0) ≡ true) (i : joins m (get_or r 0 0) q ≡ true) where
      return_covered : covering ws (get_or f q 0) room r ≡ return_met f (records 4 s) (length m) m r q
      unfolding has joins
      return_covered = covered (get_or room (place_of ws r) 0) (bit_and (get_or ws (bit_of r) 0) (get_or f q 0)) (length m) (λ u. return_matched f (records 4 s) m (get_or r 0 0) (get_or r 1 0) (get_or r 2 0) (get_or r 3 0) q u) asked free
        where
          asked :
              (u : ℕ) → Bit (bit_and (get_or ws (bit_of r) 0) (get_or f q 0)) u
              → (u < length m) × (return_matched f (records 4 s) m (get_or r 0 0) (get_or r 1 0) (get_or r 2 0) (get_or r 3 0) q u ≡ has_bit (get_or room (place_of ws r) 0) u)
          asked u b =
              let t = and-bit (get_or ws (bit_of r) 0) (get_or f q 0) u b in
              let k = under.only u t.0 in
              (k.0, sym (return_by f (records 4 s) m (get_or r 0 0) (get_or r 1 0) (get_or r 2 0) (get_or r 3 0) q u live i (eq-eqb _ _ k.1) {z = last_of r} (has_of f q u t.1) to) ∙ sym (return-bits (last_of r) (get_or r 1 0) u (target-there l r d)))

          free : (u : ℕ) → u < length m → (Bit (bit_and (get_or ws (bit_of r) 0) (get_or f q 0)) u → ⊥) → return_matched f (records 4 s) m (get_or r 0 0) (get_or r 1 0) (get_or r 2 0) (get_or r 3 0) q u ≡ true
          free u k b = go (joins m (get_or r 2 0) u) refl
            where
              go : (t : Bool) → joins m (get_or r 2 0) u ≡ t → return_matched f (records 4 s) m (get_or r 0 0) (get_or r 1 0) (get_or r 2 0) (get_or r 3 0) q u ≡ true
              go false e = sym (stack-apart f (records 4 s) m (get_or r 0 0) (get_or r 1 0) (get_or r 2 0) (get_or r 3 0) q u live i e)
              go true e = sym (not-under f (records 4 s) m (get_or r 0 0) (get_or r 1 0) (get_or r 2 0) (get_or r 3 0) q u live i e (not_so (has f q u) (λ z. b (bit-both (get_or ws (bit_of r) 0) (get_or f q 0) u (under.every u k (eqb-true _ _ e)) (has-true f q u z)))))

    -- a state of another class and a dead return ask nothing
    return_met_lem : met_by f ws (get_or ws q 0) (get_or f q 0) room r ≡ record_matched 4 f (records 4 s) (length m) m r q
    unfolding has_bit joins record_matched
    return_met_lem = go (has_bit (get_or ws q 0) (get_or r 0 0)) refl (kept f r) refl
      where
        go : (t : Bool) → has_bit (get_or ws q 0) (get_or r 0 0) ≡ t → (v : Bool) → kept f r ≡ v → (not t || (not v || covering ws (get_or f q 0) room r)) ≡ record_matched 4 f (records 4 s) (length m) m r q
        go false a v b = sym (record_apart f (records 4 s) (length m) m r 4 q (ne_eqb _ _ (λ e. eqb-false _ _ a ((j.words q h).every (get_or r 0 0) (state-there l r d 0 (λ z. omega arith) (omega arith)) (sym e)))))
        go true a false b = sym (all_true (record_matched 4 f (records 4 s) (length m) m r) (upto (length m)) (sym (record_dead f (records 4 s) (length m) m r (long l r d) b)) q (upto_of (length m) q h))
        go true a true b = return_covered (return_kept f r (omega (arith, long l r d)) refl refl ∙ b) (eq-eqb _ _ (sym ((j.words q h).only (get_or r 0 0) (eqb-true _ _ a)).1))

  returns_met : (f : List ℕ) → all (met_by f ws (get_or ws q 0) (get_or f q 0) room) (records 4 s) ≡ state_matched 4 f (records 4 s) (length m) m q
  returns_met f = all_alike (records 4 s) (λ r d. return_met_lem f r d)

-- the same of the words as the code has them
pub state_met :
    {s m ws room : List ℕ} {q own tops : ℕ} {b : Bool} (f : List ℕ) → Lent 4 s (length m) → Joined m ws → q < length m → own ≡ 2 ^ q → tops ≡ get_or f q 0
    → Room (records 4 s) ws own room → b ≡ all (met_by f ws (get_or ws q 0) tops room) (records 4 s) → b ≡ state_matched 4 f (records 4 s) (length m) m q
state_met {s} {m} {ws} {room} {q} f l j h d e g t = t ∙ ap (λ (v : ℕ). all (met_by f ws (get_or ws q 0) v room) (records 4 s)) e ∙ returns_met l j h (subst (λ (v : ℕ). Room (records 4 s) ws v room) d g) f

-- ---- state by state is record by record

pub by_states : (w : ℕ) (f : List ℕ) (rs : List (List ℕ)) (n : ℕ) (m : List ℕ) → all (state_matched w f rs n m) (upto n) ≡ records_matched w f rs n m
by_states w f rs n m = same_test _ _
    (λ h. all_of _ rs (λ r d. all_of _ (upto n) (λ q k. all_true _ rs (all_true _ (upto n) h q k) r d)))
    (λ h. all_of _ (upto n) (λ q k. all_of _ rs (λ r d. all_true _ (upto n) (all_true _ rs h r d) q k)))
