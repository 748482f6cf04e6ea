-- What the quick walk adds are tops. Assumes nothing.
use mathlib.Core.Path.{◌≡◌, refl, sym, ap, ◌∙◌, subst}
use mathlib.Core.Logic.{◌≢◌, ◌⊎◌, inl, inr}
use mathlib.Core.Bool.{Bool, true, false, not, true≢false}
use mathlib.Core.List.Memᴰ.{not-nil}
use mathlib.Core.List.Memᴰ
use mathlib.Core.List.{List, [], ◌∷◌, ◌++◌, append-nil, Memᴰ}
use mathlib.Core.Option.{Option, some}
use Prim.Native.Nat.{ℕ, zero, suc, ◌+◌, ◌-◌, ◌*◌, ◌/◌, ◌%◌, ◌^◌, ◌<◌, ◌≤◌}
use native.Mathlib.Omega.{arith}
use native.Mathlib.Numerals.{add-one}
use native.Mathlib.Decide.{ℕ_discrete, dec_lt}
use native.Mathlib.Nat.{le_refl, suc-mul, mod-lt, div-lt_iff_lt-mul}
use lib.ListN.{length, get_or, set, take, drop, replicate, length-map, length-set, length-replicate, length-drop, get_or-eq_default}
use lib.Seq.{take_all, get_or-set_same, get_or-set_other}
use lib.Pow.{pow_pos}
use lib.Bits.{bit_or}
use lib.Dec.{eqb}
use borrow.Author.Count.{below_more}
use borrow.Author.Tests.{eq-eqb, ne_eqb, eqb-true, eqb-false, not-true}
use Rattle.lists.specs.Lists.{parts}
use Rattle.lists.specs.Bits.{Bit, has}
use Rattle.lists.proofs.Members.{get_d_mem}
use Rattle.lists.proofs.Parts.{length-parts, get_d_parts}
use Rattle.lists.proofs.Words.{get_d_padded}
use Rattle.lists.proofs.Bits.{no_bit, bit-pow, has-true, some-bit}
use Rattle.limits.specs.Limits.{standard}
use Rattle.vpa.specs.Automata.{along, pushed, popped}
use Rattle.table_spec.specs.File.{Table, records}
use Rattle.table_spec.specs.Reading.{WellFormed}
use Rattle.table_spec.specs.Language.{count}
use Rattle.tops_spec.specs.Tops.{top_named, add, rounds, start_words, top_words_at}
use Rattle.table_spec.proofs.Facts.{internals-fit, calls-fit, returns-fit, three_bytes, four_bytes}
use Rattle.table_spec.proofs.Chunks.{chunk_on}
use Rattle.table_find.proofs.Walks.{records-cons, records_end}
use Rattle.table_find.proofs.Spanning.{record_inside}
use Rattle.tops_spec.proofs.Walks.{add-bit, add-below, length-add}
use Rattle.tops_spec.proofs.Bounded.{Bounded}
use Rattle.tops_spec.proofs.Formed.{bounded}
use Rattle.tops_spec.proofs.Exact.{start_sound, rounds-alike}
use Rattle.fit_spec.specs.Fit.{pair_of, after, pair_move, pair_return, pair_count, pair_table, pair_tops}
use Rattle.fit_spec.proofs.Numbers.{pair-below}
use Rattle.fit_spec.proofs.Tables.{count-pairs, pairs_bounded, moves_of, returns_of, internals_sides, calls_sides, returns_sides}
use Rattle.fit_rounds.specs.Rows.{Holds, Named}
use Rattle.fit_rounds.proofs.Passing.{few-pairs}
use Rattle.fit_links.specs.Quick.{covered_in, PairTop, Follows, SomeTops, Links, Linked, Counts, Inner, Pushing, Popping, Place, PushesOn, PopsOver, PopsOn, LooksOn, LinksOn, AllLinks, AnyMarked}

-- ---- rows that gain tops

named-pair : (m x : ℕ) → x < m → top_named m x ≡ some x
unfolding top_named
named-pair m x h = rw (ne_eqb x m (λ e. omega arith), top_named)

module _ {s t : Table} where
  partly_add : {f g : List ℕ} (p : SomeTops s t f) (q w : ℕ) → Holds g (add p.words q w) → ((x : ℕ) → Bit w x → PairTop s t q (top_named (pair_count s t) x)) → SomeTops s t g
  partly_add p q w h k = record {
    words = add p.words q w;
    holds = h;
    long = length-add p.words q w ∙ p.long;
    tops = λ u x b. go u x (add-bit p.words q w u x b);
    starts = λ u x b. (add-below p.words q w).keeps u x (p.starts u x b);
  }
    where
      go : (u x : ℕ) → Bit (get_or p.words u 0) x ⊎ ((u ≡ q) × Bit w x) → PairTop s t u (top_named (pair_count s t) x)
      go u x (inl b) = p.tops u x b
      go u x (inr (e, b)) = subst (λ v. PairTop s t v (top_named (pair_count s t) x)) (sym e) (k x b)

  pub flowed : {f g : List ℕ} {u v : ℕ} → ((F : List ℕ) → Holds f F → u < length F → v < length F → Holds g (add F v (get_or F u 0)))
      → u < pair_count s t → v < pair_count s t → Follows s t u v → SomeTops s t f → SomeTops s t g
  flowed {u = u} {v = v} j lu lv h p =
      partly_add p v (get_or p.words u 0) (j p.words p.holds (omega (arith, p.long)) (omega (arith, p.long))) (λ x b. h.each (p.tops u x b))

  pub gained : {f g : List ℕ} {v x : ℕ} → ((F : List ℕ) → Holds f F → v < length F → Holds g (add F v (2 ^ x)))
      → v < pair_count s t → x < pair_count s t → PairTop s t v (some x) → SomeTops s t f → SomeTops s t g
  gained {v = v} {x = x} j lv lx h p =
      partly_add p v (2 ^ x) (j p.words p.holds (omega (arith, p.long)))
      (λ y b. subst (λ z. PairTop s t v (top_named (pair_count s t) z)) (sym (bit-pow x y b)) (subst (PairTop s t v) (sym (named-pair _ x lx)) h))

  pub linked : {e g : List ℕ} {y v : ℕ} → ((F : List ℕ) → Holds e F → y < length F → Holds g (add F y (2 ^ v))) → y < pair_count s t → Follows s t y v → Links s t e → Links s t g
  linked {y = y} {v = v} j ly h p = record {
    words = add p.words y (2 ^ v);
    holds = j p.words p.holds (omega (arith, p.long));
    long = length-add p.words y (2 ^ v) ∙ p.long;
    follow = λ u x b. go u x (add-bit p.words y (2 ^ v) u x b);
  }
    where
      go : (u x : ℕ) → Bit (get_or p.words u 0) x ⊎ ((u ≡ y) × Bit (2 ^ v) x) → Follows s t u x
      go u x (inl b) = p.follow u x b
      go u x (inr (e, b)) = subst (λ w. Follows s t w x) (sym e) (subst (Follows s t y) (sym (bit-pow v x b)) h)

  -- a bit that is held is a top, a link is one
  pub held-top : {f : List ℕ} {u x : ℕ} → ((F : List ℕ) → Holds f F → true ≡ has F u x) → x < pair_count s t → SomeTops s t f → PairTop s t u (some x)
  held-top {u = u} {x = x} h l p = subst (PairTop s t u) (named-pair _ x l) (p.tops u x (has-true p.words u x (sym (h p.words p.holds))))

  pub held_link : {e : List ℕ} {u v : ℕ} → ((F : List ℕ) → Holds e F → true ≡ has F u v) → Links s t e → Follows s t u v
  held_link {u = u} {v = v} h p = p.follow u v (has-true p.words u v (sym (h p.words p.holds)))

-- ---- the walk over two rows: row v has every bit of row u in the words below k

pub record Covering (u v : ℕ) (f : List ℕ) (k : ℕ) : Type 0 where
  pub few : k ≤ 10
  pub meets : covered_in k u v f ≡ true

pub covering : (u v : ℕ) (f : List ℕ) → Covering u v f 0
unfolding covered_in
covering u v f = record { few = omega arith; meets = refl }

-- no word of ten may differ
cover_at : (u v : ℕ) (f : List ℕ) (n k : ℕ) → k < n → bit_or (get_or f (v * 10 + k) 0) (get_or f (u * 10 + k) 0) ≢ get_or f (v * 10 + k) 0 → covered_in n u v f ≡ false
unfolding covered_in
cover_at u v f zero k l d = absurd (omega arith)
cover_at u v f (suc n) k l d = go (ℕ_discrete k n) (eqb (bit_or (get_or f (v * 10 + n) 0) (get_or f (u * 10 + n) 0)) (get_or f (v * 10 + n) 0)) refl (cover_at u v f n k)
  where
    go : Dec (k ≡ n) → (b : Bool) → eqb (bit_or (get_or f (v * 10 + n) 0) (get_or f (u * 10 + n) 0)) (get_or f (v * 10 + n) 0) ≡ b
        → (k < n → bit_or (get_or f (v * 10 + k) 0) (get_or f (u * 10 + k) 0) ≢ get_or f (v * 10 + k) 0 → covered_in n u v f ≡ false)
        → ◌≡◌ {A = Bool} (elim b [ true ↦ covered_in n u v f | false ↦ false ]) false
    go e false g r = refl
    go (yes e) true g r = absurd (d (subst (λ (i : ℕ). bit_or (get_or f (v * 10 + i) 0) (get_or f (u * 10 + i) 0) ≡ get_or f (v * 10 + i) 0) (sym e) (eqb-true _ _ g)))
    go (no e) true g r = r (omega arith) d

module _ {u v : ℕ} {f : List ℕ} {k : ℕ} (i : Covering u v f k) (l : k < 10) where
  pub cover_on : bit_or (get_or f (v * 10 + k) 0) (get_or f (u * 10 + k) 0) ≡ get_or f (v * 10 + k) 0 → Covering u v f (k + 1)
  unfolding covered_in
  cover_on e = record { few = omega arith; meets = ap (λ n. covered_in n u v f) (add-one k) ∙ rw (eq-eqb _ _ e, covered_in) i.meets }

  pub cover_not : bit_or (get_or f (v * 10 + k) 0) (get_or f (u * 10 + k) 0) ≢ get_or f (v * 10 + k) 0 → false ≡ covered_in 10 u v f
  cover_not d = sym (cover_at u v f 10 k l d)

pub covered : {u v : ℕ} {f : List ℕ} {k : ℕ} → Covering u v f k → 10 ≤ k → true ≡ covered_in 10 u v f
covered {u} {v} {f} {k} i l = let z : 10 ≡ k = omega (arith, i.few) in sym (ap (λ n. covered_in n u v f) z ∙ i.meets)

-- ---- the record at a place

module _ (w : ℕ) (section : List ℕ) {at : ℕ} (pos : 0 < w) (p : Place w section at) (l : w ≤ length section - at) where
  index_below : p.index < length section / w
  index_below = go (dec_lt p.index (length section / w))
    where
      go : Dec (p.index < length section / w) → p.index < length section / w
      go (yes k) = k
      go (no k) = absurd (omega (arith, (div-lt_iff_lt-mul {k = w} {x = length section} {y = suc p.index} pos).0 (omega arith), suc-mul p.index w, p.whole, p.inside))

  pub place-mem : Memᴰ (take w (drop at section)) (records w section)
  unfolding records
  place-mem =
      let m = get_d_mem (parts (length section / w) w section) p.index [] (subst (λ (n : ℕ). p.index < n) (sym (length-parts (length section / w) w section)) index_below) in
      Memᴰ.cast (sym (get_d_parts (length section / w) w section p.index index_below ∙ ap (λ i. take w (drop i section)) (sym p.whole))) m

  pub place_on : Place w section (at + w)
  place_on = record { index = suc p.index; whole = omega (arith, suc-mul p.index w, p.whole); inside = omega (arith, p.inside) }

pub place-first : (w : ℕ) (section : List ℕ) → Place w section 0
place-first w section = record { index = 0; whole = omega arith; inside = omega arith }

-- the records that are left are records of the section
pub record Among (w : ℕ) (section rest : List ℕ) : Type 0 where
  pub each : (r : List ℕ) → Memᴰ r (records w rest) → Memᴰ r (records w section)

pub among-all : (w : ℕ) (section : List ℕ) {rest : List ℕ} → rest ≡ section → Among w section rest
among-all w section e = record { each = λ r m. subst (λ (v : List ℕ). Memᴰ r (records w v)) e m }

-- from a place on
among-by : (w : ℕ) (section : List ℕ) → 0 < w → (fuel at : ℕ) → length section - at ≤ fuel → Place w section at → (r : List ℕ) → Memᴰ r (records w (drop at section)) → Memᴰ r (records w section)
among-by w section pos zero at h p r m = absurd (not-nil (subst (λ (rs : List (List ℕ)). Memᴰ r rs) (records_end w section at (omega arith)) m))
among-by w section pos (suc fuel) at h p r m =
    go (dec_lt (length section - at) w) (λ c. among-by w section pos fuel (at + w) (omega arith) (place_on w section pos p c) r)
  where
    step : w ≤ length section - at → Memᴰ r (take w (drop at section) ∷ records w (drop (at + w) section)) → (Memᴰ r (records w (drop (at + w) section)) → Memᴰ r (records w section)) → Memᴰ r (records w section)
    step c (Memᴰ.head e) f = Memᴰ.cast e (place-mem w section pos p c)
    step c (Memᴰ.tail n) f = f n

    go : Dec (length section - at < w) → (w ≤ length section - at → Memᴰ r (records w (drop (at + w) section)) → Memᴰ r (records w section)) → Memᴰ r (records w section)
    go (yes l) f = absurd (not-nil (subst (λ (rs : List (List ℕ)). Memᴰ r rs) (records_end w section at l) m))
    go (no l) f = let c : w ≤ length section - at = omega arith in step c (subst (λ (rs : List (List ℕ)). Memᴰ r rs) (records-cons w section at pos (omega (arith, p.inside))) m) (f c)

-- a part up to the end
pub to_the_end : (at : ℕ) (section : List ℕ) → take (length section - at) (drop at section) ≡ drop at section
to_the_end at section = take_all (length section - at) (drop at section) (omega (arith, length-drop at section))

pub among-place : (w : ℕ) (section : List ℕ) {at : ℕ} {rest : List ℕ} → 0 < w → Place w section at → rest ≡ drop at section → Among w section rest
among-place w section {at} pos p e = record { each = λ r m. among-by w section pos (length section - at) at (omega arith) p r (subst (λ (v : List ℕ). Memᴰ r (records w v)) e m) }

module _ {w : ℕ} {section rest : List ℕ} (g : Among w section rest) (x after : List ℕ) (pos : 0 < w) (d : rest ≡ x ++ after) (l : length x ≡ w) where
  left-cons : records w rest ≡ x ∷ records w after
  left-cons = chunk_on rest x after pos d l

  pub among-here : Memᴰ x (records w section)
  among-here = g.each x (rw left-cons (Memᴰ.head refl))

  pub among_on : Among w section after
  among_on = record { each = λ r m. g.each r (rw left-cons (Memᴰ.tail m)) }

module _ (section r : List ℕ) (m : Memᴰ r (records 3 section)) (l : length r ≡ 3) {x a y : ℕ} (ex : x ≡ get_or r 0 0) (ea : a ≡ get_or r 1 0) (ey : y ≡ get_or r 2 0) where
  pub move_there : Memᴰ (x ∷ a ∷ y ∷ []) (records 3 section)
  move_there = Memᴰ.cast (sym (three_bytes r l ∙ (λ i. sym ex i ∷ sym ea i ∷ sym ey i ∷ []))) m

  pub move_small : {k : ℕ} → Named 3 k section → (x < k) × (a < 32) × (y < k)
  move_small h = (h.states _ move_there 0 (λ z. absurd (omega arith)) (omega arith), h.symbols _ move_there, h.states _ move_there 2 (λ z. absurd (omega arith)) (omega arith))

module _ (section r : List ℕ) (m : Memᴰ r (records 4 section)) (l : length r ≡ 4) {x a y z : ℕ} (ex : x ≡ get_or r 0 0) (ea : a ≡ get_or r 1 0) (ey : y ≡ get_or r 2 0) (ez : z ≡ get_or r 3 0) where
  pub return-there : Memᴰ (x ∷ a ∷ y ∷ z ∷ []) (records 4 section)
  return-there = Memᴰ.cast (sym (four_bytes r l ∙ (λ i. sym ex i ∷ sym ea i ∷ sym ey i ∷ sym ez i ∷ []))) m

  pub return-small : {k : ℕ} → Named 4 k section → (x < k) × (a < 32) × (y < k) × (z < k)
  return-small h = (
    h.states _ return-there 0 (λ z. absurd (omega arith)) (omega arith),
    h.symbols _ return-there,
    h.states _ return-there 2 (λ z. absurd (omega arith)) (omega arith),
    h.states _ return-there 3 (λ z. absurd (omega arith)) (omega arith),
  )

-- ---- what a record of the first table, with a state of the second, makes a top

module _ {s t : Table} {k n : ℕ} (c : Counts s t k n) where
  -- a pair's number as the code has it
  at : (x : ℕ) {b d : ℕ} → b ≡ d → x * (n + 1) + b ≡ pair_of (count t) x d
  at x {b} {d} e = ap (λ (y : ℕ). x * (n + 1) + y) e ∙ (λ i. x * add-one n i + d) ∙ (λ i. x * suc (sym c.seconds i) + d)

  pub pairs-are : k * (n + 1) ≡ pair_count s t
  pairs-are = (λ i. k * add-one n i) ∙ (λ i. sym c.firsts i * suc (sym c.seconds i))

  pub pair_inside : {x b : ℕ} → x < k → b ≤ n → x * (n + 1) + b < pair_count s t
  pair_inside {x} {b} lx lb =
      subst (λ (m : ℕ). m < pair_count s t) (sym (at x {b = b} refl)) (pair-below (count t) (omega (arith, c.firsts)) (omega (arith, c.seconds)))

module _ {s t : Table} {k n : ℕ} where
  pub internal_follows : {internals moves : List ℕ} (h : Inner s t k n internals moves) {p a q b to : ℕ} → Memᴰ (p ∷ a ∷ q ∷ []) (records 3 internals) → b ≤ n → a < 32
      → to ≡ get_or moves (b * 32 + a) 0 → Follows s t (p * (n + 1) + b) (q * (n + 1) + to)
  unfolding pair_table pair_move
  internal_follows h {p} {a} {q} {b} {to} m lb la e =
      let c = h.counts in
      let r = p ∷ a ∷ q ∷ [] in
      let i = moves_of (internals_sides s t (bounded c.first) (bounded c.second)) r b (subst (λ (rs : List (List ℕ)). Memᴰ r rs) (sym h.are) m) (omega (arith, c.seconds)) in
      let g : to ≡ after t.internals (count t) (b ∷ a ∷ []) = e ∙ h.goes.at b a lb la ∙ ap (λ d. after t.internals d (b ∷ a ∷ [])) (sym c.seconds) in
      let f : Follows s t (pair_of (count t) p b) (pair_of (count t) q (after t.internals (count t) (b ∷ a ∷ []))) = record { each = λ x. along i x } in
      subst (λ u. Follows s t u (q * (n + 1) + to)) (sym (at c p refl)) (subst (Follows s t (pair_of (count t) p b)) (sym (at c q g)) f)

  pub call-top : {calls pushes : List ℕ} (h : Pushing s t k n calls pushes) {p a q b to : ℕ} → Memᴰ (p ∷ a ∷ q ∷ []) (records 3 calls) → b ≤ n → a < 32
      → to ≡ get_or pushes (b * 32 + a) 0 → {o : Option ℕ} → PairTop s t (p * (n + 1) + b) o → PairTop s t (q * (n + 1) + to) (some (p * (n + 1) + b))
  unfolding pair_table pair_move
  call-top h {p} {a} {q} {b} {to} m lb la e {o} x =
      let c = h.counts in
      let r = p ∷ a ∷ q ∷ [] in
      let i = moves_of (calls_sides s t (bounded c.first) (bounded c.second)) r b (subst (λ (rs : List (List ℕ)). Memᴰ r rs) (sym h.are) m) (omega (arith, c.seconds)) in
      let g : to ≡ after t.calls (count t) (b ∷ a ∷ []) = e ∙ h.goes.at b a lb la ∙ ap (λ d. after t.calls d (b ∷ a ∷ [])) (sym c.seconds) in
      let u = pair_of (count t) p b in
      let v = pair_of (count t) q (after t.calls (count t) (b ∷ a ∷ [])) in
      let y : PairTop s t v (some u) = pushed i (subst (λ w. PairTop s t w o) (at c p refl) x) in
      subst (λ w. PairTop s t w (some (p * (n + 1) + b))) (sym (at c q g)) (subst (λ w. PairTop s t v (some w)) (sym (at c p refl)) y)

  pub return_follows : {returns pops : List ℕ} (h : Popping s t k n returns pops) {p a z q b d to : ℕ} → Memᴰ (p ∷ a ∷ z ∷ q ∷ []) (records 4 returns) → b ≤ n → a < 32 → d ≤ n
      → to ≡ get_or pops ((b * 32 + a) * 25 + d) 0 → PairTop s t (p * (n + 1) + b) (some (z * (n + 1) + d)) → Follows s t (z * (n + 1) + d) (q * (n + 1) + to)
  unfolding pair_table pair_return
  return_follows h {p} {a} {z} {q} {b} {d} {to} m lb la ld e x =
      let c = h.counts in
      let r = p ∷ a ∷ z ∷ q ∷ [] in
      let i = returns_of (returns_sides s t (bounded c.first) (bounded c.second)) r b d (subst (λ (rs : List (List ℕ)). Memᴰ r rs) (sym h.are) m) (omega (arith, c.seconds)) (omega (arith, c.seconds)) in
      let g : to ≡ after t.returns (count t) (b ∷ a ∷ d ∷ []) = e ∙ h.goes.at b a d lb la ld ∙ ap (λ j. after t.returns j (b ∷ a ∷ d ∷ [])) (sym c.seconds) in
      let u = pair_of (count t) p b in
      let y = pair_of (count t) z d in
      let v = pair_of (count t) q (after t.returns (count t) (b ∷ a ∷ d ∷ [])) in
      let w : PairTop s t u (some y) = subst (λ j. PairTop s t j (some y)) (at c p refl) (subst (λ j. PairTop s t (p * (n + 1) + b) (some j)) (at c z refl) x) in
      let f : Follows s t y v = record { each = λ o. popped i w o } in
      subst (λ j. Follows s t j (q * (n + 1) + to)) (sym (at c z refl)) (subst (Follows s t y) (sym (at c q g)) f)

-- ---- the loops

pub record PushingOn (p b n : ℕ) (calls pushes f g rest : List ℕ) : Type 0 where
  pub left : Among 3 calls rest
  pub kept : PushesOn p b n calls pushes f g

pub record PoppingOver (p b y n : ℕ) (returns pops f e g h rest : List ℕ) : Type 0 where
  pub left : Among 4 returns rest
  pub kept : PopsOver p b y n returns pops f e g h

-- a record of a table that was read names states below its count
module _ {s t : Table} {k n : ℕ} where
  call-state : {calls pushes : List ℕ} → Pushing s t k n calls pushes → (r : List ℕ) → Memᴰ r (records 3 calls) → (i : ℕ) → i ≢ 1 → i < 3 → get_or r i 0 < k
  call-state h r m i d l = subst (λ (j : ℕ). get_or r i 0 < j) h.counts.firsts ((calls-fit h.counts.first).states r (subst (λ (rs : List (List ℕ)). Memᴰ r rs) (sym h.are) m) i d l)

  internal-state : {internals moves : List ℕ} → Inner s t k n internals moves → (r : List ℕ) → Memᴰ r (records 3 internals) → (i : ℕ) → i ≢ 1 → i < 3 → get_or r i 0 < k
  internal-state h r m i d l = subst (λ (j : ℕ). get_or r i 0 < j) h.counts.firsts ((internals-fit h.counts.first).states r (subst (λ (rs : List (List ℕ)). Memᴰ r rs) (sym h.are) m) i d l)

  return-state : {returns pops : List ℕ} → Popping s t k n returns pops → (r : List ℕ) → Memᴰ r (records 4 returns) → (i : ℕ) → i ≢ 1 → i < 4 → get_or r i 0 < k
  return-state h r m i d l = subst (λ (j : ℕ). get_or r i 0 < j) h.counts.firsts ((returns-fit h.counts.first).states r (subst (λ (rs : List (List ℕ)). Memᴰ r rs) (sym h.are) m) i d l)

pub pushing_first : {p b n : ℕ} {calls pushes f rest : List ℕ} → Among 3 calls rest → PushingOn p b n calls pushes f f rest
pushing_first e = record { left = e; kept = λ s t k h o x y. y }

module _ {p b n : ℕ} {calls pushes f g rest : List ℕ} (w : PushingOn p b n calls pushes f g rest) (r after : List ℕ) (is : rest ≡ r ++ after) (l : length r ≡ 3)
    {a q to u v : ℕ} (ep : p ≡ get_or r 0 0) (ea : a ≡ get_or r 1 0) (eq : q ≡ get_or r 2 0) (et : to ≡ get_or pushes (b * 32 + a) 0)
    (eu : u ≡ p * (n + 1) + b) (ev : v ≡ q * (n + 1) + to) (lb : b ≤ n) (la : a < 32) (lt : to ≤ n) where
  pub push_on : {h : List ℕ} → ((s t : Table) → v < pair_count s t → u < pair_count s t → PairTop s t v (some u) → SomeTops s t g → SomeTops s t h) → PushingOn p b n calls pushes f h after
  push_on {h} j = record { left = among_on w.left r after (omega arith) is l; kept = λ s t k d o x y. go s t k d o x (w.kept s t k d o x y) }
    where
      m : Memᴰ (p ∷ a ∷ q ∷ []) (records 3 calls)
      m = move_there _ r (among-here w.left r after (omega arith) is l) l ep ea eq

      go : (s t : Table) (k : ℕ) → Pushing s t k n calls pushes → (o : Option ℕ) → PairTop s t (p * (n + 1) + b) o → SomeTops s t g → SomeTops s t h
      go s t k d o x y =
          let z = call-top d m lb la et x in
          j s t
          (subst (λ (i : ℕ). i < pair_count s t) (sym ev) (pair_inside d.counts (call-state d _ m 2 (λ e. absurd (omega arith)) (omega arith)) lt))
          (subst (λ (i : ℕ). i < pair_count s t) (sym eu) (pair_inside d.counts (call-state d _ m 0 (λ e. absurd (omega arith)) (omega arith)) lb))
          (subst (λ i. PairTop s t i (some u)) (sym ev) (subst (λ i. PairTop s t (q * (n + 1) + to) (some i)) (sym eu) z)) y

pub popping_first : {p b y n : ℕ} {returns pops f e rest : List ℕ} → Among 4 returns rest → PoppingOver p b y n returns pops f e f e rest
popping_first i = record { left = i; kept = λ s t k h l x y. y }

module _ {p b y n : ℕ} {returns pops f e g i rest : List ℕ} (w : PoppingOver p b y n returns pops f e g i rest) (r after : List ℕ) (is : rest ≡ r ++ after) (l : length r ≡ 4) where
  pub pop_past : PoppingOver p b y n returns pops f e g i after
  pop_past = record { left = among_on w.left r after (omega arith) is l; kept = w.kept }

  module _ {a z q c to v : ℕ} (ep : p ≡ get_or r 0 0) (ea : a ≡ get_or r 1 0) (ez : z ≡ get_or r 2 0) (eq : q ≡ get_or r 3 0)
      (ey : z * (n + 1) + c ≡ y) (et : to ≡ get_or pops ((b * 32 + a) * 25 + c) 0) (ev : v ≡ q * (n + 1) + to) (lb : b ≤ n) (la : a < 32) (lc : c ≤ n) (lt : to ≤ n) where
    pub pop_on : {h j : List ℕ} → ((s t : Table) → y < pair_count s t → v < pair_count s t → Follows s t y v → Linked s t g i → Linked s t h j) → PoppingOver p b y n returns pops f e h j after
    pop_on {h} {j} o = record { left = among_on w.left r after (omega arith) is l; kept = λ s t k d ly x o'. go s t k d ly x (w.kept s t k d ly x o') }
      where
        m : Memᴰ (p ∷ a ∷ z ∷ q ∷ []) (records 4 returns)
        m = return-there _ r (among-here w.left r after (omega arith) is l) l ep ea ez eq

        go : (s t : Table) (k : ℕ) → Popping s t k n returns pops → y < pair_count s t → PairTop s t (p * (n + 1) + b) (some y) → Linked s t g i → Linked s t h j
        go s t k d ly x o' =
            let follows = return_follows d m lb la lc et (subst (λ u. PairTop s t (p * (n + 1) + b) (some u)) (sym ey) x) in
            o s t ly
            (subst (λ (u : ℕ). u < pair_count s t) (sym ev) (pair_inside d.counts (return-state d _ m 3 (λ e. absurd (omega arith)) (omega arith)) lt))
            (subst (λ u. Follows s t u v) ey (subst (Follows s t (z * (n + 1) + c)) (sym ev) follows)) o'

-- ---- places

pub record Placing (w : ℕ) (section places : List ℕ) : Type 0 where
  pub places-are : (p : ℕ) → Place w section (get_or places p 0)

pub placing : (w : ℕ) (section : List ℕ) → Placing w section (replicate 24 0)
placing w section = record { places-are = λ p. subst (Place w section) (sym (get_d_padded [] 24 p)) (place-first w section) }

pub placing_set : {w : ℕ} {section places : List ℕ} → Placing w section places → (k p : ℕ) → k < length section / w → Placing w section (set places p (k * w))
placing_set {w} {section} {places} h k p l = record { places-are = λ q. go q (ℕ_discrete q p) (dec_lt p (length places)) }
  where
    here : Place w section (k * w)
    here = record { index = k; whole = refl; inside = omega (arith, record_inside w section k l) }

    go : (q : ℕ) → Dec (q ≡ p) → Dec (p < length places) → Place w section (get_or (set places p (k * w)) q 0)
    go q (no d) e = subst (Place w section) (sym (get_or-set_other places p q (k * w) 0 d)) (h.places-are q)
    go q (yes d) (yes e) = subst (Place w section) (sym (ap (λ i. get_or (set places p (k * w)) i 0) d ∙ get_or-set_same places p (k * w) 0 e)) here
    go q (yes d) (no e) = subst (Place w section) (sym (get_or-eq_default (set places p (k * w)) 0 {n = q} (omega (arith, length-set places p (k * w))))) (place-first w section)

-- ---- tops of a pair, and its links

pub record PoppingOn (p b k n : ℕ) (returns pops f e g h : List ℕ) : Type 0 where
  pub kept : PopsOn p b k n returns pops f e g h

pub popping_on : (p b k n : ℕ) (returns pops f e : List ℕ) → PoppingOn p b k n returns pops f e f e
popping_on p b k n returns pops f e = record { kept = λ s t h x. x }

module _ {p b k n : ℕ} {returns pops f e g h : List ℕ} {y : ℕ} (w : PoppingOn p b k n returns pops f e g h) (l : y < k * (n + 1)) where
  pub tops_on : {u : ℕ} {i j : List ℕ} → u ≡ p * (n + 1) + b → ((F : List ℕ) → Holds g F → true ≡ has F u y) → PopsOver p b y n returns pops g h i j → PoppingOn p b k n returns pops f e i j
  tops_on {u} {i} {j} eu a o = record { kept = λ s t d x. go s t d (w.kept s t d x) }
    where
      go : (s t : Table) → Popping s t k n returns pops → Linked s t g h → Linked s t i j
      go s t d x =
          let ly : y < pair_count s t = subst (λ (m : ℕ). y < m) (pairs-are d.counts) l in
          o s t k d ly (subst (λ v. PairTop s t v (some y)) eu (held-top a ly x.rows)) x

pub record Spreading (u pairs : ℕ) (links f g : List ℕ) : Type 0 where
  pub kept : (s t : Table) → pairs ≡ pair_count s t → u < pairs → Links s t links → SomeTops s t f → SomeTops s t g

pub spreading : (u pairs : ℕ) (links f : List ℕ) → Spreading u pairs links f f
spreading u pairs links f = record { kept = λ s t e l h x. x }

module _ {u pairs : ℕ} {links f g : List ℕ} {v : ℕ} (w : Spreading u pairs links f g) (l : v < pairs) where
  pub spread_on :
      {h : List ℕ} → ((F : List ℕ) → Holds links F → true ≡ has F u v)
      → ((s t : Table) → u < pair_count s t → v < pair_count s t → Follows s t u v → SomeTops s t g → SomeTops s t h) → Spreading u pairs links f h
  spread_on a j = record { kept = λ s t e lu k x. j s t (subst (λ (m : ℕ). u < m) e lu) (subst (λ (m : ℕ). v < m) e l) (held_link a k) (w.kept s t e lu k x) }

-- ---- internals

pub record Linking (p a q n : ℕ) (moves e g : List ℕ) (b : ℕ) : Type 0 where
  pub inside : b ≤ n + 1
  pub kept : LinksOn p a q n moves e g

pub linking : (p a q n : ℕ) (moves e : List ℕ) → Linking p a q n moves e e 0
linking p a q n moves e = record { inside = omega arith; kept = λ s t k r h m x. x }

module _ {p a q n : ℕ} {moves e g : List ℕ} {b : ℕ} (w : Linking p a q n moves e g b) (l : b ≤ n) {to u v : ℕ} (et : to ≡ get_or moves (b * 32 + a) 0)
    (eu : u ≡ p * (n + 1) + b) (ev : v ≡ q * (n + 1) + to) (la : a < 32) where
  pub linking_on : {h : List ℕ} → ((F : List ℕ) → Holds g F → u < length F → Holds h (add F u (2 ^ v))) → Linking p a q n moves e h (b + 1)
  linking_on {h} j = record { inside = omega arith; kept = λ s t k r d m x. go s t k r d m (w.kept s t k r d m x) }
    where
      go : (s t : Table) (k : ℕ) (internals : List ℕ) → Inner s t k n internals moves → Memᴰ (p ∷ a ∷ q ∷ []) (records 3 internals) → Links s t g → Links s t h
      go s t k r d m x =
          linked j (subst (λ (i : ℕ). i < pair_count s t) (sym eu) (pair_inside d.counts (internal-state d _ m 0 (λ z. absurd (omega arith)) (omega arith)) l))
          (subst (λ i. Follows s t i v) (sym eu) (subst (Follows s t (p * (n + 1) + b)) (sym ev) (internal_follows d m l la et))) x

pub record AllLinking (n : ℕ) (internals moves e g rest : List ℕ) : Type 0 where
  pub left : Among 3 internals rest
  pub kept : AllLinks n internals moves e g

pub all_linking : (n : ℕ) (internals moves e : List ℕ) {rest : List ℕ} → rest ≡ internals → AllLinking n internals moves e e rest
all_linking n internals moves e d = record { left = among-all 3 internals d; kept = λ s t k h x. x }

module _ {n : ℕ} {internals moves e g rest : List ℕ} (w : AllLinking n internals moves e g rest) (r after : List ℕ) (is : rest ≡ r ++ after) (l : length r ≡ 3)
    {p a q : ℕ} (ep : p ≡ get_or r 0 0) (ea : a ≡ get_or r 1 0) (eq : q ≡ get_or r 2 0) where
  pub all_linking_on : {h : List ℕ} → LinksOn p a q n moves g h → AllLinking n internals moves e h after
  all_linking_on j = record {
    left = among_on w.left r after (omega arith) is l;
    kept = λ s t k d x. j s t k internals d (move_there _ r (among-here w.left r after (omega arith) is l) l ep ea eq) (w.kept s t k d x);
  }

-- ---- looks at pairs

-- a row with a bit has a top
pub any-top : {s t : Table} {f : List ℕ} {u : ℕ} → ((F : List ℕ) → Holds f F → true ≡ not (eqb (get_or F u 0) 0)) → SomeTops s t f → (o : Option ℕ) × PairTop s t u o
any-top {s} {t} {u = u} h p =
    let b = some-bit (get_or p.words u 0) (get_or p.words u 0) (le_refl _) (eqb-false _ _ (not-true _ (sym (h p.words p.holds)))) in
    (_, p.tops u b.0 b.1)

pub look_told : {calls returns pushes pops : List ℕ} {k n p b u : ℕ} {f e f₁ g h g₁ : List ℕ} → u ≡ p * (n + 1) + b → ((F : List ℕ) → Holds f F → true ≡ not (eqb (get_or F u 0) 0)) → p < k → b ≤ n
    → PushesOn p b n calls pushes f f₁ → PopsOn p b k n returns pops f₁ e g h
    → ((s t : Table) → k * (n + 1) ≡ pair_count s t → u < k * (n + 1) → Links s t h → SomeTops s t g → SomeTops s t g₁) → LooksOn calls returns pushes pops k n f e g₁ h
look_told {k = k} {u = u} eu a lp lb push pop spread s t d d' x =
    let o = any-top a x.rows in
    let y = pop s t d' record { rows = push s t k d o.0 (subst (λ v. PairTop s t v o.0) eu o.1) x.rows; links = x.links } in
    record {
      rows = spread s t (pairs-are d.counts) (subst (λ (i : ℕ). u < i) (sym (pairs-are d.counts)) (subst (λ (i : ℕ). i < pair_count s t) (sym eu) (pair_inside d.counts lp lb))) y.links y.rows;
      links = y.links;
    }

pub record Looking (calls returns pushes pops : List ℕ) (k n : ℕ) (f e g h : List ℕ) (u : ℕ) : Type 0 where
  pub inside : u ≤ k * (n + 1)
  pub kept : LooksOn calls returns pushes pops k n f e g h

pub looking : (calls returns pushes pops : List ℕ) (k n : ℕ) (f e : List ℕ) → Looking calls returns pushes pops k n f e f e 0
looking calls returns pushes pops k n f e = record { inside = omega arith; kept = λ s t d d' x. x }

module _ {calls returns pushes pops : List ℕ} {k n : ℕ} {f e g h : List ℕ} {u : ℕ} (w : Looking calls returns pushes pops k n f e g h u) (l : u < k * (n + 1)) where
  pub looking_past : Looking calls returns pushes pops k n f e g h (u + 1)
  looking_past = record { inside = omega arith; kept = w.kept }

  pub looking_on : {i j : List ℕ} → LooksOn calls returns pushes pops k n g h i j → Looking calls returns pushes pops k n f e i j (u + 1)
  looking_on o = record { inside = omega arith; kept = λ s t d d' x. o s t d d' (w.kept s t d d' x) }

-- the first and the second state of a pair
pub first-there : {u k : ℕ} (n : ℕ) → u < k * (n + 1) → u / (n + 1) < k
first-there {u} {k} n l = (div-lt_iff_lt-mul {k = n + 1} {x = u} {y = k} (omega arith)).1 l

pub second-there : (n u : ℕ) → u % (n + 1) ≤ n
second-there n u = let l = mod-lt u {m = n + 1} (omega arith) in omega arith

-- ---- marks

pub record Marking (marks : List ℕ) (pairs u : ℕ) : Type 0 where
  pub inside : u ≤ pairs
  pub none : (i : ℕ) → i < u → get_or marks i 0 ≡ 0

pub marking : (marks : List ℕ) (pairs : ℕ) → Marking marks pairs 0
marking marks pairs = record { inside = omega arith; none = λ i l. absurd (omega arith) }

module _ {marks : List ℕ} {pairs u : ℕ} (w : Marking marks pairs u) where
  pub none-marked : pairs ≤ u → AnyMarked marks pairs false
  none-marked h = record { none = λ e i l. w.none i (omega arith); one = λ e. absurd (true≢false (sym e)) }

  pub one-marked : u < pairs → get_or marks u 0 ≢ 0 → AnyMarked marks pairs true
  one-marked l n = record { none = λ e. absurd (true≢false e); one = λ e. (u, l, n) }

  pub marking_on : u < pairs → get_or marks u 0 ≡ 0 → Marking marks pairs (u + 1)
  marking_on l e = record { inside = omega arith; none = below_more _ _ w.none e }

-- ---- the rows of the pairs

-- rows without a bit
pub bare_rows : {m : ℕ} → m ≤ 600 → Holds (replicate 6000 0) (replicate m 0)
bare_rows {m} l = record {
  long = length-replicate {A = ℕ} 6000 0;
  few = omega (arith, length-replicate {A = ℕ} m 0);
  small = λ i. subst (λ (x : ℕ). x < 2 ^ 64) (sym (zeros 6000 i)) (pow_pos 64);
  narrow = λ u x e. absurd (no_bit x (subst (λ (y : ℕ). Bit y x) (zeros m u) e));
  bits = λ u x h k. (
    λ e. absurd (no_bit (x % 64) (subst (λ (y : ℕ). Bit y (x % 64)) (zeros 6000 (u * 10 + x / 64)) e)),
    λ e. absurd (no_bit x (subst (λ (y : ℕ). Bit y x) (zeros m u) e)),
  );
}
  where
    zeros : (n v : ℕ) → ◌≡◌ {A = ℕ} (get_or (replicate n 0) v 0) 0
    zeros n v = get_d_padded [] n v

-- the rounds that the code makes give the tops
pub rounds-tops : (s t : Table) → rounds (suc (pair_count s t * suc (pair_count s t))) (pair_table s t) (start_words (pair_count s t) (pair_table s t)) ≡ pair_tops s t
unfolding top_words_at
rounds-tops s t =
    let e = count-pairs s t in
    let z : pair_count s t - count (pair_table s t) ≡ 0 = omega arith in
    ap (λ m. rounds (suc (m * suc m)) (pair_table s t) (start_words (pair_count s t) (pair_table s t))) (sym e)
    ∙ sym (ap (λ m. rounds (suc (count (pair_table s t) * suc (count (pair_table s t)))) (pair_table s t) (start_words (pair_count s t) (pair_table s t)) ++ replicate m 0) z ∙ append-nil _)

pub start-long : (s t : Table) → length (start_words (pair_count s t) (pair_table s t)) ≡ pair_count s t
unfolding start_words
start-long s t = length-map (pair_table s t).states _ ∙ count-pairs s t

-- no links yet
pub no_links : {s t : Table} {k n : ℕ} → Counts s t k n → k ≤ 24 → n ≤ 24 → Links s t (replicate 6000 0)
no_links {s} {t} {k} {n} c lk ln = record {
  words = replicate (pair_count s t) 0;
  holds = bare_rows (subst (λ (m : ℕ). m ≤ 600) (pairs-are c) (few-pairs lk ln));
  long = length-replicate {A = ℕ} (pair_count s t) 0;
  follow = λ u v b. absurd (no_bit v (subst (λ (y : ℕ). Bit y v) (get_d_padded [] (pair_count s t) u) b));
}

module _ {s t : Table} (ws : WellFormed standard s) (wt : WellFormed standard t) where
  pairs-fit : Bounded (pair_count s t) (pair_table s t)
  pairs-fit = pairs_bounded s t (bounded ws) (bounded wt)

  pub start_partly : {f : List ℕ} → Holds f (start_words (pair_count s t) (pair_table s t)) → SomeTops s t f
  start_partly h = record {
    words = start_words (pair_count s t) (pair_table s t);
    holds = h;
    long = start-long s t;
    tops = (start_sound pairs-fit).top;
    starts = λ u x b. b;
  }

  -- the rounds end with all tops
  pub partly_tops :
      {f g : List ℕ} → SomeTops s t f
      → ((F : List ℕ) → Holds f F → length F ≡ pair_count s t → Holds g (rounds (suc (pair_count s t * suc (pair_count s t))) (pair_table s t) F))
      → Holds g (pair_tops s t)
  partly_tops {g = g} p turn =
      let e = count-pairs s t in
      let a = rounds-alike pairs-fit p.words record { top = p.tops; wide = p.long ∙ sym e } record { keeps = p.starts } in
      subst (Holds g) ((λ i. rounds (suc (sym e i * suc (sym e i))) (pair_table s t) p.words) ∙ a ∙ (λ i. rounds (suc (e i * suc (e i))) (pair_table s t) (start_words (pair_count s t) (pair_table s t))) ∙ rounds-tops s t) (turn p.words p.holds p.long)
