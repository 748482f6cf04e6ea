-- Loops over the states, over the variables and over the records: the clauses of each in turn. Assumes nothing.
use mathlib.Core.Path.{◌≡◌, refl, sym, ap, ◌∙◌, subst}
use mathlib.Core.List.{List, [], ◌∷◌, ◌++◌, append-nil, append_assoc, Memᴰ}
use Prim.Native.Nat.{ℕ, zero, suc, ◌+◌, ◌≤◌, ◌<◌}
use native.Mathlib.Omega.{arith}
use native.Mathlib.Nat.{add-zero, add-suc}
use lib.ListN.{length, drop}
use Rattle.lists.specs.Lists.{concat_map, upto}
use Rattle.lists.proofs.Members.{upto-mem}
use Rattle.lists.proofs.Upto.{upto_on, upto_end}
use Rattle.lists.proofs.Counts.{concat_map-append}
use Rattle.pairs.specs.Pairs.{pairs, pair_of}
use Rattle.pairs.specs.Triangles.{past}
use Rattle.pairs.proofs.Pairs.{pairs-suc, variable-lt, pair-variable}
use Rattle.pairs.proofs.Triangles.{past-from}
use Rattle.table_spec.specs.File.{records}
use Rattle.table_spec.proofs.Chunks.{chunk_on, chunk_end}
use Rattle.clauses_emit.specs.Emit.{State, emit}
use Rattle.clauses_emit.proofs.Emitting.{Coming, coming, come_on, come_as, come}

-- ---- a loop over the numbers below n

module _ (f : ℕ → List (List ℕ)) (n : ℕ) where
  pub record Over (all : List (List ℕ)) (start : State) (q : ℕ) (now : State) : Type 0 where
    pub inside : q ≤ n
    pub coming : Coming all start (concat_map f (drop q (upto n))) now

  pub over-all : (start : State) → Over (concat_map f (upto n)) start 0 start
  over-all start = record { inside = omega arith; coming = coming _ start }

  pub over-past : (p : ℕ) (start : State) → p < n → Over (concat_map f (past n p)) start (p + 1) start
  over-past p start l = record { inside = omega arith; coming = come_as (ap (concat_map f) (past-from n p)) (coming _ start) }

module _ {f : ℕ → List (List ℕ)} {n : ℕ} {all : List (List ℕ)} {start : State} {q : ℕ} {now : State} (w : Over f n all start q now) where
  pub over_on : {next : State} → q < n → next ≡ emit (f q) now → Over f n all start (q + 1) next
  over_on h e = record { inside = omega arith; coming = come_on (f q) _ (come_as (ap (concat_map f) (upto_on n q h)) w.coming) e }

  pub over_done : n ≤ q → now ≡ emit all start
  over_done h = come (come_as (ap (concat_map f) (upto_end n q h)) w.coming)

-- ---- a loop over the records of a section: so much of it is left

module _ (g : List ℕ → List (List ℕ)) (w : ℕ) (s : List ℕ) where
  pub record Along (all : List (List ℕ)) (start : State) (rest : List ℕ) (now : State) : Type 0 where
    pub among : (r : List ℕ) → Memᴰ r (records w rest) → Memᴰ r (records w s)
    pub coming : Coming all start (concat_map g (records w rest)) now

  pub along-all : (start : State) {rest : List ℕ} → rest ≡ s → Along (concat_map g (records w s)) start rest start
  along-all start e = record {
    among = λ r m. subst (λ (v : List ℕ). Memᴰ r (records w v)) e m;
    coming = come_as (ap (λ v. concat_map g (records w v)) (sym e)) (coming _ start);
  }

module _ {g : List ℕ → List (List ℕ)} {w : ℕ} {s : List ℕ} {all : List (List ℕ)} {start : State} {rest : List ℕ} {now : State} (i : Along g w s all start rest now) where
  module _ (x after : List ℕ) (p : 0 < w) (e : rest ≡ x ++ after) (h : length x ≡ w) where
    here : records w rest ≡ x ∷ records w after
    here = chunk_on rest x after p e h

    -- the record taken
    pub along-here : Memᴰ x (records w s)
    along-here = i.among x (rw here (Memᴰ.head refl))

    pub along_on : {next : State} → next ≡ emit (g x) now → Along g w s all start after next
    along_on e = record {
      among = λ r m. i.among r (rw here (Memᴰ.tail m));
      coming = come_on (g x) _ (come_as (ap (concat_map g) here) i.coming) e;
    }

  pub along-done : length rest < w → now ≡ emit all start
  along-done h = come (come_as (ap (concat_map g) (chunk_end rest h)) i.coming)

-- ---- the pairs in the order of their variables

concat_map-add : (g : ℕ → List (List ℕ)) (a b : ℕ) → concat_map g (upto (a + b)) ≡ concat_map g (upto a) ++ concat_map (λ p. g (a + p)) (upto b)
unfolding upto
concat_map-add g a zero = rw add-zero (sym (append-nil (concat_map g (upto a))))
concat_map-add g a (suc b) =
    let h : ℕ → List (List ℕ) = λ p. g (a + p) in
    rw add-suc
    (concat_map-append g (upto (a + b)) ((a + b) ∷ [])
    ∙ ap (λ cs. cs ++ (g (a + b) ++ [])) (concat_map-add g a b)
    ∙ append_assoc (concat_map g (upto a)) (concat_map h (upto b)) (g (a + b) ++ [])
    ∙ ap (λ cs. concat_map g (upto a) ++ cs) (sym (concat_map-append h (upto b) (b ∷ []))))

pub concat_map-same : {A : Type 0} (g h : A → List (List ℕ)) (xs : List A) → ((x : A) → Memᴰ x xs → g x ≡ h x) → concat_map g xs ≡ concat_map h xs
concat_map-same g h [] e = refl
concat_map-same g h (x ∷ xs) e = λ i. e x (Memᴰ.head refl) i ++ concat_map-same g h xs (λ y m. e y (Memᴰ.tail m)) i

pub concat_map-pairs : (f : ℕ → ℕ → List (List ℕ)) (n : ℕ) → concat_map (λ v. f (pair_of v).low (pair_of v).high) (upto (pairs n)) ≡ concat_map (λ q. concat_map (λ p. f p q) (upto q)) (upto n)
unfolding upto pairs
concat_map-pairs f zero = refl
concat_map-pairs f (suc n) =
    ap (λ k. concat_map g (upto k)) (pairs-suc n)
    ∙ concat_map-add g (pairs n) n
    ∙ (λ i. concat_map-pairs f n i ++ last i)
    ∙ sym (concat_map-append (λ q. concat_map (λ p. f p q) (upto q)) (upto n) (n ∷ []) ∙ ap (λ cs. concat_map (λ q. concat_map (λ p. f p q) (upto q)) (upto n) ++ cs) (append-nil _))
  where
    g : ℕ → List (List ℕ)
    g v = f (pair_of v).low (pair_of v).high

    at : (p : ℕ) → p < n → g (pairs n + p) ≡ f p n
    at p l = ap g (sym (variable-lt p n l)) ∙ (λ i. f ((pair-variable p n l).0 i) ((pair-variable p n l).1 i))

    last : concat_map (λ p. g (pairs n + p)) (upto n) ≡ concat_map (λ p. f p n) (upto n)
    last = concat_map-same (λ p. g (pairs n + p)) (λ p. f p n) (upto n) (λ p m. at p (upto-mem n p m))
