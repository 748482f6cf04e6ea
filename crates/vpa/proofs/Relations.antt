-- Definition 1 taken apart and put together: it is what four implications say, and equality meets it (source 000, Definition 1 and Remark 3).
-- Assumes nothing.
use mathlib.Core.Path.{◌≡◌, refl, sym, ◌∙◌, ap, subst}
use mathlib.Core.Logic.{◌↔◌}
use mathlib.Core.Option.{some}
use Prim.Native.Nat.{ℕ}
use Rattle.vpa.specs.Automata.{Automaton, Lawful, Tops}
use Rattle.vpa.specs.Quotients.{Closed, Equivalence, ReturnsAgree, closed, second_unreachable, first_unreachable, Raq, Joined}

module _ {S : Type 0} (A : Automaton S) (R : S → S → Type 0) where
  -- Definition 1 read one way: what p does, a joined q does
  pub record Matched : Type 0 where
    pub accepting : {p q : S} → R p q → A.accepting p → A.accepting q
    pub marks : {p q : S} {k : ℕ} → R p q → A.mark p k → A.mark q k
    pub internals : {p q p' : S} {a : ℕ} → R p q → A.internal p a p' → (q' : S) × A.internal q a q' × R p' q'
    pub calls : {p q p' : S} {a : ℕ} → R p q → A.call p a p' → (q' : S) × A.call q a q' × R p' q'
    pub returns : {p q s u p' : S} {a : ℕ} → R p q → R s u → Tops A p (some s) → Tops A q (some u) → A.return p a s p' → (q' : S) × A.return q a u q' × R p' q'

  agreed_forth : {p q s u p' : S} {a : ℕ} → ReturnsAgree A R p q s u → Tops A p (some s) → Tops A q (some u) → A.return p a s p' → (q' : S) × A.return q a u q' × R p' q'
  agreed_forth (closed k) h l r = k.forth r
  agreed_forth (second_unreachable n) h l r = absurd (n l)
  agreed_forth (first_unreachable n) h l r = absurd (n h)

  pub raq_returns : Raq A R → {p q s u p' : S} {a : ℕ} → R p q → R s u → Tops A p (some s) → Tops A q (some u) → A.return p a s p' → (q' : S) × A.return q a u q' × R p' q'
  raq_returns raq e f = agreed_forth (raq.returns e f)

  pub matched_of : Raq A R → Matched
  matched_of raq = record {
    accepting = λ e. (raq.accepting e).0;
    marks = λ e. (raq.marks e).0;
    internals = λ e. (raq.internals e).forth;
    calls = λ e. (raq.calls e).forth;
    returns = λ e f. raq_returns raq e f;
  }

  -- and the other way, for an equivalence: symmetry gives what q does. Which of the alternatives of (iv) holds is told by whether the tops are reachable
  module _ (equivalence : Equivalence A R) (reachable? : (q s : S) → A.state q → A.state s → Dec (Tops A q (some s))) (matched : Matched) where
    flipped : {q : S} {f : S → Type 0} → (p' : S) × f p' × R q p' → (p' : S) × f p' × R p' q
    flipped k = (k.0, k.1, equivalence.symmetric k.2)

    agreed : {p q s u : S} → R p q → R s u → Dec (Tops A p (some s)) → Dec (Tops A q (some u)) → ReturnsAgree A R p q s u
    agreed e f (no n) l = first_unreachable n
    agreed e f (yes h) (no n) = second_unreachable n
    agreed e f (yes h) (yes l) = closed record {
      forth = λ r. matched.returns e f h l r;
      back = λ r. flipped (matched.returns (equivalence.symmetric e) (equivalence.symmetric f) l h r);
    }

    pub raq_of : Raq A R
    raq_of = record {
      equivalence = equivalence;
      accepting = λ e. (matched.accepting e, matched.accepting (equivalence.symmetric e));
      marks = λ e. (matched.marks e, matched.marks (equivalence.symmetric e));
      internals = λ e. record { forth = λ r. matched.internals e r; back = λ r. flipped (matched.internals (equivalence.symmetric e) r) };
      calls = λ e. record { forth = λ r. matched.calls e r; back = λ r. flipped (matched.calls (equivalence.symmetric e) r) };
      returns = λ e f. agreed e f (reachable? _ _ (equivalence.within e).0 (equivalence.within f).0) (reachable? _ _ (equivalence.within e).1 (equivalence.within f).1);
    }

-- Definition 1 of a relation is Definition 1 of any that relates the same states
module _ {S : Type 0} (A : Automaton S) (R Q : S → S → Type 0) (forth : (p q : S) → R p q → Q p q) (back : (p q : S) → Q p q → R p q) where
  along : {f g : ℕ → S → Type 0} → Closed R f g → Closed Q f g
  along k = record { forth = λ r. let j = k.forth r in (j.0, j.1, forth _ _ j.2); back = λ r. let j = k.back r in (j.0, j.1, forth _ _ j.2) }

  agree_along : {p q s u : S} → ReturnsAgree A R p q s u → ReturnsAgree A Q p q s u
  agree_along (closed k) = closed (along k)
  agree_along (second_unreachable n) = second_unreachable n
  agree_along (first_unreachable n) = first_unreachable n

  pub raq_along : Raq A R → Raq A Q
  raq_along raq = record {
    equivalence = record {
      within = λ h. raq.equivalence.within (back _ _ h);
      reflexive = λ h. forth _ _ (raq.equivalence.reflexive h);
      symmetric = λ h. forth _ _ (raq.equivalence.symmetric (back _ _ h));
      transitive = λ h k. forth _ _ (raq.equivalence.transitive (back _ _ h) (back _ _ k));
    };
    accepting = λ h. raq.accepting (back _ _ h);
    marks = λ h. raq.marks (back _ _ h);
    internals = λ h. along (raq.internals (back _ _ h));
    calls = λ h. along (raq.calls (back _ _ h));
    returns = λ h k. agree_along (raq.returns (back _ _ h) (back _ _ k));
  }

module _ {S T : Type 0} (A : Automaton S) (m : S → T) where
  -- a map's relation is an equivalence over the states
  pub joined-equivalence : Equivalence A (Joined A m)
  joined-equivalence = record {
    within = λ h. (h.left, h.right);
    reflexive = λ h. record { left = h; right = h; classes = refl };
    symmetric = λ h. record { left = h.right; right = h.left; classes = sym h.classes };
    transitive = λ h k. record { left = h.left; right = k.right; classes = h.classes ∙ k.classes };
  }

  -- Definition 1 of a map, where it can be told which tops are reachable
  pub joined_raq : ((q s : S) → A.state q → A.state s → Dec (Tops A q (some s))) → Matched A (Joined A m) ↔ Raq A (Joined A m)
  joined_raq d = (raq_of A (Joined A m) joined-equivalence d, matched_of A (Joined A m))

module _ {S : Type 0} (A : Automaton S) where
  itself : {q : S} → A.state q → Joined A (λ q. q) q q
  itself h = record { left = h; right = h; classes = refl }

  equal_closed : (f g : ℕ → S → Type 0) → ((a : ℕ) (q : S) → f a q → A.state q) → f ≡ g → Closed (Joined A (λ q. q)) f g
  equal_closed f g s e = subst (λ h. Closed (Joined A (λ q. q)) f h) e record { forth = λ {a} {p'} r. (p', r, itself (s a p' r)); back = λ {a} {q'} r. (q', r, itself (s a q' r)) }

  -- "The equality relation .. is a RAQ relation for any VPA"
  pub equality_raq : Lawful A → Raq A (Joined A (λ q. q))
  equality_raq lawful = record {
    equivalence = joined-equivalence A (λ q. q);
    accepting = λ e. (λ h. subst A.accepting e.classes h, λ h. subst A.accepting (sym e.classes) h);
    marks = λ {p} {q} {k} e. (λ h. subst (λ s. A.mark s k) e.classes h, λ h. subst (λ s. A.mark s k) (sym e.classes) h);
    internals = λ {p} {q} e. equal_closed (A.internal p) (A.internal q) (λ a q r. (lawful.internals r).1) (ap A.internal e.classes);
    calls = λ {p} {q} e. equal_closed (A.call p) (A.call q) (λ a q r. (lawful.calls r).1) (ap A.call e.classes);
    returns = λ {p} {q} {p̂} {q̂} e f. closed (equal_closed (λ a. A.return p a p̂) (λ a. A.return q a q̂) (λ a q r. (lawful.returns r).2) (λ i a. A.return (e.classes i) a (f.classes i)));
  }
