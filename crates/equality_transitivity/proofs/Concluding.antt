-- Laws for the conclusions from a pair that is set: which states a word names, and that nothing is left to conclude. Assumes nothing.
use mathlib.Core.Path.{◌≡◌, refl, sym, ap, ◌∙◌, subst}
use mathlib.Core.Logic.{◌≢◌}
use mathlib.Core.Bool.{Bool, true, false, true≢false}
use mathlib.Core.List.{List}
use Prim.Native.Nat.{ℕ, zero, suc, ◌/◌, ◌%◌, ◌^◌, ◌≤◌, ◌<◌}
use native.Mathlib.Omega.{arith}
use native.Mathlib.Decide.{ℕ_discrete}
use lib.ListN.{get_or}
use Rattle.lists.specs.Bits.{Bit}
use Rattle.cnf.specs.Clauses.{value_of}
use Rattle.cnf.specs.Closing.{◌⊑◌}
use Rattle.cnf.proofs.Order.{units-more}
use Rattle.pairs.specs.Pairs.{variable_of}
use Rattle.pairs.proofs.Pairs.{variable_sym}
use Rattle.pairs.specs.Triangles.{triangles}
use Rattle.sat_trail.specs.Trail.{Ready, Worked, Attended}
use Rattle.sat_trail.specs.Rows.{IsJoined, itself, other, IsApart, Rows, without}
use Rattle.sat_trail.specs.Conclusions.{Concludes, alike, parted, Spreads, SpreadBoth}
use Rattle.sat_trail.proofs.Words.{without_of, of_without}
use Rattle.sat_trail.proofs.Trails.{grown-same}
use Rattle.sat_trail.proofs.Working.{worked-extends, worked_on, worked_trans}
use Rattle.equality_spread.proofs.Triangles.{Drawn, drawn_seen, pair_settled}
use Rattle.equality_spread.proofs.Spreading.{spreads_more}

-- ---- the states that the words name

module _ {n : ℕ} {v joined apart : List ℕ} (o : Rows n v joined apart) (a b : ℕ) (la : a < n) (lb : b < n) (d : a ≢ b) where
  back : value_of v (variable_of b a) ≡ value_of v (variable_of a b)
  back = ap (value_of v) (variable_sym b a)

  -- with a = b: joined to a, and not to b
  pub same-joined : value_of v (variable_of a b) ≡ 1 → Spreads n v b (without (get_or joined a 0) (get_or joined b 0)) 1
  same-joined e = record { p = a; p_in = la; q_in = lb; different = d; small = omega arith; each = λ s k. go s (without_of (get_or joined a 0) (get_or joined b 0) s k).1 (o.joined_of a s la (without_of (get_or joined a 0) (get_or joined b 0) s k).0) }
    where
      go : (s : ℕ) → (Bit (get_or joined b 0) s → ⊥) → IsJoined n v a s → (s < n) × (s ≢ a) × (s ≢ b) × Concludes v (variable_of a b) (variable_of a s) 1
      go s k (itself l z) = absurd (k (o.of_joined b s lb (other l (λ y. d (sym z ∙ y)) (ap (λ (y : ℕ). value_of v (variable_of b y)) z ∙ back ∙ e))))
      go s k (other l z y) = (l, z, λ y. k (o.of_joined b s lb (itself l y)), alike e y (omega arith))

  -- apart from a, and not from b
  pub same-apart : value_of v (variable_of a b) ≡ 1 → Spreads n v b (without (get_or apart a 0) (get_or apart b 0)) 0
  same-apart e = record { p = a; p_in = la; q_in = lb; different = d; small = omega arith; each = λ s k. go s (o.apart_of a s la (without_of (get_or apart a 0) (get_or apart b 0) s k).0) }
    where
      go : (s : ℕ) → IsApart n v a s → (s < n) × (s ≢ a) × (s ≢ b) × Concludes v (variable_of a b) (variable_of a s) 0
      go s i = (i.inside, i.different, λ y. absurd (omega (arith, e, i.false-pair, ap (λ (z : ℕ). value_of v (variable_of a z)) y)), alike e i.false-pair (omega arith))

  -- with a ≠ b: joined to a, and not apart from b
  pub other-joined : value_of v (variable_of a b) ≡ 0 → Spreads n v b (without (get_or joined a 0) (get_or apart b 0)) 0
  other-joined e = record { p = a; p_in = la; q_in = lb; different = d; small = omega arith; each = λ s k. go s (without_of (get_or joined a 0) (get_or apart b 0) s k).1 (o.joined_of a s la (without_of (get_or joined a 0) (get_or apart b 0) s k).0) }
    where
      go : (s : ℕ) → (Bit (get_or apart b 0) s → ⊥) → IsJoined n v a s → (s < n) × (s ≢ a) × (s ≢ b) × Concludes v (variable_of a b) (variable_of a s) 0
      go s k (itself l z) = absurd (k (o.of_apart b s lb (record { inside = l; different = λ y. d (sym z ∙ y); false-pair = ap (λ (y : ℕ). value_of v (variable_of b y)) z ∙ back ∙ e })))
      go s k (other l z y) = (l, z, λ x. absurd (omega (arith, e, y, ap (λ (z : ℕ). value_of v (variable_of a z)) x)), parted e y refl)

  module _ {w : List ℕ} (up : v ⊑ w) (small : (i : ℕ) → value_of v i ≤ 2) where
    -- so every conclusion for b is drawn
    pub drawn_same : value_of v (variable_of a b) ≡ 1 → ((s : ℕ) → Bit (without (get_or joined a 0) (get_or joined b 0)) s → value_of w (variable_of b s) ≡ 1)
        → ((s : ℕ) → Bit (without (get_or apart a 0) (get_or apart b 0)) s → value_of w (variable_of b s) ≡ 0)
        → (s k : ℕ) → s < n → s ≢ a → s ≢ b → Concludes v (variable_of a b) (variable_of a s) k → value_of w (variable_of b s) ≡ k
    drawn_same e f g s k l x y (parted p q r) = absurd (omega arith)
    drawn_same e f g s zero l x y (alike p q r) = go (ℕ_discrete (get_or apart b 0 / 2 ^ s % 2) 1)
      where
        own : Bit (get_or apart a 0) s
        own = o.of_apart a s la (record { inside = l; different = x; false-pair = q })

        go : Dec (Bit (get_or apart b 0) s) → value_of w (variable_of b s) ≡ 0
        go (yes z) = let i = o.apart_of b s lb z in up.keeps (variable_of b s) (omega (arith, i.false-pair)) ∙ i.false-pair
        go (no z) = g s (of_without (get_or apart a 0) (get_or apart b 0) s own z)
    drawn_same e f g s (suc zero) l x y (alike p q r) = go (ℕ_discrete (get_or joined b 0 / 2 ^ s % 2) 1)
      where
        own : Bit (get_or joined a 0) s
        own = o.of_joined a s la (other l x q)

        pick : IsJoined n v b s → value_of w (variable_of b s) ≡ 1
        pick (itself _ z) = absurd (y z)
        pick (other _ _ z) = up.keeps (variable_of b s) (omega arith) ∙ z

        go : Dec (Bit (get_or joined b 0) s) → value_of w (variable_of b s) ≡ 1
        go (yes z) = pick (o.joined_of b s lb z)
        go (no z) = f s (of_without (get_or joined a 0) (get_or joined b 0) s own z)
    drawn_same e f g s (suc (suc k)) l x y (alike p q r) = absurd (omega (arith, small (variable_of a s)))

    pub drawn_other : value_of v (variable_of a b) ≡ 0 → ((s : ℕ) → Bit (without (get_or joined a 0) (get_or apart b 0)) s → value_of w (variable_of b s) ≡ 0)
        → (s k : ℕ) → s < n → s ≢ a → s ≢ b → Concludes v (variable_of a b) (variable_of a s) k → value_of w (variable_of b s) ≡ k
    drawn_other e f s k l x y (alike p q r) = absurd (omega arith)
    drawn_other e f s k l x y (parted p q r) = go (ℕ_discrete (get_or apart b 0 / 2 ^ s % 2) 1) ∙ sym r
      where
        own : Bit (get_or joined a 0) s
        own = o.of_joined a s la (other l x q)

        go : Dec (Bit (get_or apart b 0) s) → value_of w (variable_of b s) ≡ 0
        go (yes z) = let i = o.apart_of b s lb z in up.keeps (variable_of b s) (omega (arith, i.false-pair)) ∙ i.false-pair
        go (no z) = f s (of_without (get_or joined a 0) (get_or apart b 0) s own z)

-- ---- the clauses of the group that have the pair

module _ {n : ℕ} {v t joined apart : List ℕ} {start : ℕ} (i : Ready (triangles n) v t start) (rows : Rows n v joined apart) (p q : ℕ) (order : p < q) (lq : q < n) where
  lp : p < n
  lp = omega arith

  diff : p ≢ q
  diff = omega arith

  diff' : q ≢ p
  diff' = omega arith

  small-values : (j : ℕ) → value_of v j ≤ 2
  small-values = i.values.small

  module _ {w s : List ℕ} {more : ℕ} {isBroken : Bool} (k : Worked (triangles n) v t start w s isBroken more) where
    up : v ⊑ w
    up = worked-extends i k

    attended : (isBroken ≡ false → Drawn n v w k.grown.new p q) → Attended (triangles n) (variable_of p q) v t start w s isBroken more
    attended d = record { worked = k; settles = λ e. pair_settled n w k.grown.new (worked_on i k).values.small p q order (drawn_seen n v w k.grown.new p q (d e)) }

    drawn : value_of v (variable_of p q) ≢ 2
        → ((r j : ℕ) → r < n → r ≢ p → r ≢ q → Concludes v (variable_of p q) (variable_of p r) j → value_of w (variable_of q r) ≡ j)
        → ((r j : ℕ) → r < n → r ≢ q → r ≢ p → Concludes v (variable_of q p) (variable_of q r) j → value_of w (variable_of p r) ≡ j) → Drawn n v w k.grown.new p q
    drawn e f g = record {
      is_set = e;
      kept = up.keeps (variable_of p q) e;
      same = grown-same k.grown;
      from_low = f;
      from_high = λ r j l x y c. g r j l y x (subst (λ (z : ℕ). Concludes v z (variable_of q r) j) (variable_sym p q) c);
    }

    -- a clause is broken
    pub conclude_broken : isBroken ≡ true → Attended (triangles n) (variable_of p q) v t start w s isBroken more
    conclude_broken e = attended (λ f. absurd (true≢false (sym e ∙ f)))

  turned : {x : ℕ} → value_of v (variable_of p q) ≡ x → value_of v (variable_of q p) ≡ x
  turned e = ap (value_of v) (variable_sym q p) ∙ e

  -- p ≠ q: what is joined to one of them and not yet apart from the other
  module _ (e : value_of v (variable_of p q) ≡ 0) {from-q from-p : ℕ} (f : from-q ≡ without (get_or joined p 0) (get_or apart q 0)) (g : from-p ≡ without (get_or joined q 0) (get_or apart p 0)) where
    pub parts_q : Spreads n v q from-q 0
    parts_q = rw f (other-joined rows p q lp lq diff e)

    pub parts-p : Spreads n v p from-p 0
    parts-p = rw g (other-joined rows q p lq lp diff' (turned e))

    pub parts-done : {w s : List ℕ} {more : ℕ} {isBroken : Bool} → SpreadBoth n v t start p q from-q from-p 0 w s isBroken more → Attended (triangles n) (variable_of p q) v t start w s isBroken more
    parts-done k =
        let up = worked-extends i k.worked in
        attended k.worked (λ c. drawn k.worked (omega arith)
        (drawn_other rows p q lp lq diff up small-values e (λ r m. k.done_q c r (rw f m)))
        (drawn_other rows q p lq lp diff' up small-values (turned e) (λ r m. k.done-p c r (rw g m))))

  -- p = q: what is joined to one of them and not yet to the other, and what is apart
  module _ (e : value_of v (variable_of p q) ≡ 1) {to-q to-p from-q from-p : ℕ} (f : to-q ≡ without (get_or joined p 0) (get_or joined q 0)) (g : to-p ≡ without (get_or joined q 0) (get_or joined p 0))
      (h : from-q ≡ without (get_or apart p 0) (get_or apart q 0)) (o : from-p ≡ without (get_or apart q 0) (get_or apart p 0)) where
    pub joins_q : Spreads n v q to-q 1
    joins_q = rw f (same-joined rows p q lp lq diff e)

    pub joins-p : Spreads n v p to-p 1
    joins-p = rw g (same-joined rows q p lq lp diff' (turned e))

    module _ {w s : List ℕ} {more : ℕ} {isBroken : Bool} (k : SpreadBoth n v t start p q to-q to-p 1 w s isBroken more) where
      pub leaves_q : Spreads n w q from-q 0
      leaves_q = spreads_more (worked-extends i k.worked) (rw h (same-apart rows p q lp lq diff e))

      pub leaves-p : Spreads n w p from-p 0
      leaves-p = spreads_more (worked-extends i k.worked) (rw o (same-apart rows q p lq lp diff' (turned e)))

      pub joins-done :
          {u r : List ℕ} {last : ℕ} {isBroken' : Bool} → isBroken ≡ false → SpreadBoth n w s more p q from-q from-p 0 u r isBroken' last
          → Attended (triangles n) (variable_of p q) v t start u r isBroken' last
      joins-done {u} b l =
          let all = worked_trans k.worked l.worked in
          let up = worked-extends i all in
          let on = units-more (triangles n) w u l.worked.units in
          attended all (λ c. drawn all (omega arith)
          (drawn_same rows p q lp lq diff up small-values e (λ r m. let d = k.done_q b r (rw f m) in on.keeps (variable_of q r) (omega arith) ∙ d) (λ r m. l.done_q c r (rw h m)))
          (drawn_same rows q p lq lp diff' up small-values (turned e) (λ r m. let d = k.done-p b r (rw g m) in on.keeps (variable_of p r) (omega arith) ∙ d) (λ r m. l.done-p c r (rw o m))))
