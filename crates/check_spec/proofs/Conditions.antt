-- What the tests 17 to 20 say: together, that the map's relation matches what each state does. Each both ways. Assumes nothing.
use mathlib.Core.Path.{◌≡◌, subst}
use mathlib.Core.Logic.{◌↔◌}
use mathlib.Core.Bool.{true, ◌&&◌}
use mathlib.Core.List.{List, [], ◌∷◌, ◌++◌, Memᴰ}
use Prim.Native.Nat.{ℕ, suc, ◌<◌}
use native.Mathlib.Omega.{arith}
use lib.ListN.{length, get_or}
use borrow.Author.Tests.{eqb-true, eq-eqb}
use Rattle.lists.specs.Lists.{any, upto}
use Rattle.lists.specs.Bits.{has}
use Rattle.lists.proofs.Members.{and-true, and_of, gives, gives_of, any-true, any_of, all_true, all_of, upto-mem, upto_of}
use Rattle.vpa.proofs.Relations.{Matched}
use Rattle.limits.specs.declared.Limits.{Limits}
use Rattle.table_spec.specs.File.{Table}
use Rattle.table_spec.specs.Reading.{WellFormed}
use Rattle.table_spec.specs.Language.{count, byte_of, agreed_on, targets, automaton}
use Rattle.table_spec.specs.Maps.{class_of, joins, JoinedBy}
use Rattle.table_spec.proofs.Facts.{Fit, internals-fit, calls-fit, returns-fit, three_bytes, four_bytes, targets-mem, mem-targets, look_accepting, look_mark, agreed_look}
use Rattle.tops_spec.specs.Tops.{top_words}
use Rattle.tops_spec.proofs.Formed.{told}
use Rattle.check_spec.specs.Check.{labels_agree, move_matched, moves_matched, return_matched, returns_matched}

pub joins_true : (m : List ℕ) (p q : ℕ) → joins m p q ≡ true → class_of m p ≡ class_of m q
unfolding joins
joins_true m p q e = eqb-true _ _ e

pub joins_of : (m : List ℕ) (p q : ℕ) → class_of m p ≡ class_of m q → joins m p q ≡ true
unfolding joins
joins_of m p q e = eq-eqb _ _ e

module _ (t : Table) (m : List ℕ) where
  -- a state of the key's records with a joined target
  abbrev Reaches : List (List ℕ) → List ℕ → ℕ → Type 0
  Reaches rs key p' = (q' : ℕ) × Memᴰ (key ++ (q' ∷ [])) rs × (class_of m p' ≡ class_of m q')

  module _ (rs : List (List ℕ)) (key : List ℕ) (p' : ℕ) (wide : (r : List ℕ) → Memᴰ r rs → length r ≡ suc (length key)) where
    reaches_of : any (joins m p') (targets rs key) ≡ true → Reaches rs key p'
    reaches_of e = let r = any-true (joins m p') (targets rs key) e in (r.0, targets-mem rs key wide r.0 r.1, joins_true m p' r.0 r.2)

    any_reaches : Reaches rs key p' → any (joins m p') (targets rs key) ≡ true
    any_reaches (q', k, e) = any_of (joins m p') (targets rs key) q' (mem-targets rs key q' k) (joins_of m p' q' e)

  -- (i)
  pub looks_true : labels_agree t m ≡ true → (p q : ℕ) → JoinedBy t m p q → agreed_on (byte_of t p) ≡ agreed_on (byte_of t q)
  unfolding labels_agree
  looks_true e p q j =
      eqb-true _ _
      (gives (joins m p q) _ (all_true _ (upto (count t)) (all_true _ (upto (count t)) e p (upto_of (count t) p j.left)) q (upto_of (count t) q j.right)) (joins_of m p q j.classes))

  pub looks_test : ((p q : ℕ) → JoinedBy t m p q → agreed_on (byte_of t p) ≡ agreed_on (byte_of t q)) → labels_agree t m ≡ true
  unfolding labels_agree
  looks_test h = all_of _ (upto (count t)) (λ p mp. all_of _ (upto (count t)) (λ q mq. gives_of (joins m p q) _ (λ e.
      eq-eqb _ _ (h p q (record { left = upto-mem (count t) p mp; right = upto-mem (count t) q mq; classes = joins_true m p q e })))))

  -- (ii) and (iii)
  module _ (kind : ℕ) (rs : List (List ℕ)) (fit : Fit t kind 3 rs) where
    abbrev Moves : Type 0
    Moves = (p q p' a : ℕ) → JoinedBy t m p q → Memᴰ (p ∷ a ∷ p' ∷ []) rs → (q' : ℕ) × Memᴰ (q ∷ a ∷ q' ∷ []) rs × JoinedBy t m p' q'

    target_below : {p a q : ℕ} → Memᴰ (p ∷ a ∷ q ∷ []) rs → q < count t
    target_below k = fit.states _ k 2 (omega arith) (omega arith)

    pub moves-true : moves_matched rs (count t) m ≡ true → Moves
    unfolding moves_matched move_matched
    moves-true e p q p' a j k =
        let r = reaches_of rs (q ∷ a ∷ []) p' fit.wide (gives (joins m p q) _ (all_true _ (upto (count t)) (all_true _ rs e (p ∷ a ∷ p' ∷ []) k) q (upto_of (count t) q j.right)) (joins_of m p q j.classes)) in
        (r.0, r.1, record { left = target_below k; right = target_below r.1; classes = r.2 })

    pub moves_test : Moves → moves_matched rs (count t) m ≡ true
    unfolding moves_matched move_matched
    moves_test h = all_of _ rs (λ r mr. all_of _ (upto (count t)) (λ q mq. gives_of (joins m (get_or r 0 0) q) _ (λ e.
        one (get_or r 0 0) (get_or r 1 0) (get_or r 2 0) q (subst (λ (x : List ℕ). Memᴰ x rs) (three_bytes r (fit.wide r mr)) mr) (upto-mem (count t) q mq) e)))
      where
        one : (p a p' q : ℕ) → Memᴰ (p ∷ a ∷ p' ∷ []) rs → q < count t → joins m p q ≡ true → any (joins m p') (targets rs (q ∷ a ∷ [])) ≡ true
        one p a p' q k l e =
            let r = h p q p' a (record { left = fit.states _ k 0 (omega arith) (omega arith); right = l; classes = joins_true m p q e }) k in
            any_reaches rs (q ∷ a ∷ []) p' fit.wide (r.0, r.1, r.2.classes)

  -- (iv)
  module _ (f : List ℕ) (rs : List (List ℕ)) (fit : Fit t 2 4 rs) where
    abbrev Returns : Type 0
    Returns =
        (p q s u p' a : ℕ) → JoinedBy t m p q → JoinedBy t m s u → has f p s ≡ true → has f q u ≡ true
        → Memᴰ (p ∷ a ∷ s ∷ p' ∷ []) rs → (q' : ℕ) × Memᴰ (q ∷ a ∷ u ∷ q' ∷ []) rs × JoinedBy t m p' q'

    end_below : {p a s q : ℕ} → Memᴰ (p ∷ a ∷ s ∷ q ∷ []) rs → q < count t
    end_below k = fit.states _ k 3 (omega arith) (omega arith)

    pub returns-true : returns_matched f rs (count t) m ≡ true → Returns
    unfolding returns_matched return_matched
    returns-true e p q s u p' a j i hp hq k =
        let each = all_true _ (upto (count t)) (all_true _ (upto (count t)) (all_true _ rs e (p ∷ a ∷ s ∷ p' ∷ []) k) q (upto_of (count t) q j.right)) u (upto_of (count t) u i.right) in
        let r = reaches_of rs (q ∷ a ∷ u ∷ []) p' fit.wide (gives (joins m p q && joins m s u && has f p s && has f q u) _ each (and_of (and_of (and_of (joins_of m p q j.classes) (joins_of m s u i.classes)) hp) hq)) in
        (r.0, r.1, record { left = end_below k; right = end_below r.1; classes = r.2 })

    pub returns_test : Returns → returns_matched f rs (count t) m ≡ true
    unfolding returns_matched return_matched
    returns_test h = all_of _ rs (λ r mr. all_of _ (upto (count t)) (λ q mq. all_of _ (upto (count t)) (λ u mu. gives_of (joins m (get_or r 0 0) q && joins m (get_or r 2 0) u && has f (get_or r 0 0) (get_or r 2 0) && has f q u) _ (λ e.
        one (get_or r 0 0) (get_or r 1 0) (get_or r 2 0) (get_or r 3 0) q u (subst (λ (x : List ℕ). Memᴰ x rs) (four_bytes r (fit.wide r mr)) mr) (upto-mem (count t) q mq) (upto-mem (count t) u mu) e))))
      where
        one :
            (p a s p' q u : ℕ) → Memᴰ (p ∷ a ∷ s ∷ p' ∷ []) rs → q < count t → u < count t → (joins m p q && joins m s u && has f p s && has f q u) ≡ true
            → any (joins m p') (targets rs (q ∷ a ∷ u ∷ [])) ≡ true
        one p a s p' q u k lq lu e =
            let c = and-true (joins m p q && joins m s u && has f p s) (has f q u) e in
            let d = and-true (joins m p q && joins m s u) (has f p s) c.0 in
            let b = and-true (joins m p q) (joins m s u) d.0 in
            let r = h p q s u p' a
            (record { left = fit.states _ k 0 (omega arith) (omega arith); right = lq; classes = joins_true m p q b.0 })
            (record { left = fit.states _ k 2 (omega arith) (omega arith); right = lu; classes = joins_true m s u b.1 }) d.1 c.1 k in
            any_reaches rs (q ∷ a ∷ u ∷ []) p' fit.wide (r.0, r.1, r.2.classes)

-- the four tests together
pub record TestsPass (t : Table) (m : List ℕ) : Type 0 where
  pub looks : labels_agree t m ≡ true
  pub internals : moves_matched t.internals (count t) m ≡ true
  pub calls : moves_matched t.calls (count t) m ≡ true
  pub returns : returns_matched (top_words t) t.returns (count t) m ≡ true

module _ (L : Limits) (t : Table) (wf : WellFormed L t) (m : List ℕ) where
  pub passed_matched : TestsPass t m → Matched (automaton t) (JoinedBy t m)
  passed_matched h = record {
    accepting = λ {p} {q} j. look_accepting t p q (looks_true t m h.looks p q j);
    marks = λ {p} {q} j. look_mark t p q j.right (looks_true t m h.looks p q j);
    internals = λ {p} {q} {p'} {a} j k. moves-true t m 0 t.internals (internals-fit wf) h.internals p q p' a j k;
    calls = λ {p} {q} {p'} {a} j k. moves-true t m 1 t.calls (calls-fit wf) h.calls p q p' a j k;
    returns = λ {p} {q} {s} {u} {p'} {a} j i tp tq k. returns-true t m (top_words t) t.returns (returns-fit wf) h.returns p q s u p' a j i ((told wf p s i.left).1 tp) ((told wf q u i.right).1 tq) k;
  }

  pub matched_passed : ((p q : ℕ) → JoinedBy t m p q → (automaton t).accepting p ↔ (automaton t).accepting q) → Matched (automaton t) (JoinedBy t m) → TestsPass t m
  matched_passed agree h = record {
    looks = looks_test t m (λ p q j. agreed_look t p q j.left (agree p q j) (λ k. h.marks j));
    internals = moves_test t m 0 t.internals (internals-fit wf) (λ p q p' a j k. h.internals j k);
    calls = moves_test t m 1 t.calls (calls-fit wf) (λ p q p' a j k. h.calls j k);
    returns = returns_test t m (top_words t) t.returns (returns-fit wf) (λ p q s u p' a j i hp hq k. h.returns j i ((told wf p s i.left).0 hp) ((told wf q u i.right).0 hq) k);
  }
