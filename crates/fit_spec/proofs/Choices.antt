-- 38 is given exactly where the second table has a choice. Assumes nothing.
use mathlib.Core.Path.{◌≡◌, refl, sym, ap, ◌∙◌, subst}
use mathlib.Core.Logic.{◌↔◌, ◌≢◌}
use mathlib.Core.Bool.{Bool, true, false, ◌||◌, not, true≢false}
use mathlib.Core.List.Memᴰ
use mathlib.Core.List.{List, [], ◌∷◌, ◌++◌, Memᴰ}
use Prim.Native.Nat.{ℕ, zero, suc, ◌+◌}
use native.Mathlib.Omega.{arith}
use lib.ListN.{length, get_or, take, length-append}
use lib.Seq.{take-suc, take_all, take-append_seam, get_or-append_seam}
use borrow.Author.Tests.{eqb-true, eq-eqb}
use Rattle.lists.specs.Lists.{all, filter, same}
use Rattle.lists.proofs.Members.{and-true, and_of, gives, gives_of, not_so, all_true, all_of, same_true, same_of}
use Rattle.limits.specs.declared.Limits.{Limits}
use Rattle.table_spec.specs.File.{Table}
use Rattle.table_spec.specs.Reading.{is_initial, WellFormed}
use Rattle.table_spec.specs.Language.{automaton}
use Rattle.table_spec.proofs.Passed.{formed-wide}
use Rattle.fit_spec.specs.Fit.{one_target, one_initial, no_choice}
use Rattle.fit_spec.specs.Demands.{WithoutChoice}
use Rattle.fit_spec.proofs.Pairing.{Deterministic}

-- ---- at most one target

module _ (w : ℕ) (rs : List (List ℕ)) (wide : (r : List ℕ) → Memᴰ r rs → length r ≡ suc w) where
  abbrev One : Type 0
  One = (key : List ℕ) (q q' : ℕ) → Memᴰ (key ++ (q ∷ [])) rs → Memᴰ (key ++ (q' ∷ [])) rs → q ≡ q'

  key-long : (key : List ℕ) (q : ℕ) → Memᴰ (key ++ (q ∷ [])) rs → length key ≡ w
  key-long key q m = omega (arith, wide _ m, length-append key (q ∷ []))

  one_of : one_target w rs ≡ true → One
  unfolding one_target
  one_of e key q q' m m' =
      let l = key-long key q m in
      let f = all_true (λ s. not (same (take w (key ++ (q ∷ []))) (take w s)) || same (key ++ (q ∷ [])) s) rs (all_true (λ r. all (λ s. not (same (take w r) (take w s)) || same r s) rs) rs e _ m) _ m' in
      let k : take w (key ++ (q ∷ [])) ≡ take w (key ++ (q' ∷ [])) = subst (λ n. take n (key ++ (q ∷ [])) ≡ take n (key ++ (q' ∷ []))) l (take-append_seam key (q ∷ []) ∙ sym (take-append_seam key (q' ∷ []))) in
      let g = same_true _ _ (gives _ _ f (same_of k)) in
      sym (get_or-append_seam key q [] 0) ∙ ap (λ r. get_or r (length key) 0) g ∙ get_or-append_seam key q' [] 0

  cut : (r : List ℕ) → length r ≡ suc w → r ≡ take w r ++ (get_or r w 0 ∷ [])
  cut r e = sym (take_all (suc w) r (omega arith)) ∙ take-suc r w 0 (omega arith)

  of_one : One → one_target w rs ≡ true
  unfolding one_target
  of_one h = all_of (λ r. all (λ s. not (same (take w r) (take w s)) || same r s) rs) rs (λ r m. all_of (λ s. not (same (take w r) (take w s)) || same r s) rs (λ s k. gives_of _ _ (λ e. same_of (equal r s m k (same_true _ _ e)))))
    where
      equal : (r s : List ℕ) → Memᴰ r rs → Memᴰ s rs → take w r ≡ take w s → r ≡ s
      equal r s m k e =
          let f = cut r (wide r m) in
          let g : s ≡ take w r ++ (get_or s w 0 ∷ []) = cut s (wide s k) ∙ ap (λ (x : List ℕ). x ++ (get_or s w 0 ∷ [])) (sym e) in
          let i = h (take w r) (get_or r w 0) (get_or s w 0) (Memᴰ.cast (sym f) m) (Memᴰ.cast (sym g) k) in
          f ∙ ap (λ x. take w r ++ (x ∷ [])) i ∙ sym g

-- ---- one initial state

-- exactly one element passes, told by its place
record Only (f : ℕ → Bool) (xs : List ℕ) : Type 0 where
  place : ℕ
  passes : f (get_or xs place 0) ≡ true
  only : (q : ℕ) → f (get_or xs q 0) ≡ true → q ≡ place

-- what stands past the end does not pass
module _ (f : ℕ → Bool) (off : f 0 ≡ false) where
  kept : (x : ℕ) (xs : List ℕ) → f x ≡ true → length (filter f (x ∷ xs)) ≡ suc (length (filter f xs))
  unfolding filter
  kept x xs e = rw (e, filter)

  left : (x : ℕ) (xs : List ℕ) → f x ≡ false → length (filter f (x ∷ xs)) ≡ length (filter f xs)
  unfolding filter
  left x xs e = rw (e, filter)

  none_passes : (xs : List ℕ) → length (filter f xs) ≡ 0 → (q : ℕ) → f (get_or xs q 0) ≡ true → ⊥
  none_passes [] e q t = true≢false (sym t ∙ off)
  none_passes (x ∷ xs) e zero t = absurd (omega (arith, kept x xs t))
  none_passes (x ∷ xs) e (suc q) t = go (f x) refl (none_passes xs)
    where
      go : (b : Bool) → f x ≡ b → (length (filter f xs) ≡ 0 → (q : ℕ) → f (get_or xs q 0) ≡ true → ⊥) → ⊥
      go true h r = absurd (omega (arith, kept x xs h))
      go false h r = r (sym (left x xs h) ∙ e) q t

  none_kept : (xs : List ℕ) → ((q : ℕ) → f (get_or xs q 0) ≡ true → ⊥) → length (filter f xs) ≡ 0
  unfolding filter
  none_kept [] h = refl
  none_kept (x ∷ xs) h = left x xs (not_so (f x) (h 0)) ∙ none_kept xs (λ q. h (suc q))

  one_passes : (xs : List ℕ) → length (filter f xs) ≡ 1 → Only f xs
  unfolding filter
  one_passes [] e = absurd (omega arith)
  one_passes (x ∷ xs) e = go (f x) refl (one_passes xs)
    where
      here : f x ≡ true → length (filter f xs) ≡ 0 → (q : ℕ) → f (get_or (x ∷ xs) q 0) ≡ true → q ≡ 0
      here h z zero t = refl
      here h z (suc q) t = absurd (none_passes xs z q t)

      later : f x ≡ false → (o : Only f xs) → (q : ℕ) → f (get_or (x ∷ xs) q 0) ≡ true → q ≡ suc o.place
      later h o zero t = absurd (true≢false (sym t ∙ h))
      later h o (suc q) t = ap suc (o.only q t)

      go : (b : Bool) → f x ≡ b → (length (filter f xs) ≡ 1 → Only f xs) → Only f (x ∷ xs)
      go true h r = record { place = 0; passes = h; only = here h (omega (arith, e, kept x xs h)) }
      go false h r = let o = r (sym (left x xs h) ∙ e) in record { place = suc o.place; passes = o.passes; only = later h o }

  one_kept : (xs : List ℕ) (p : ℕ) → f (get_or xs p 0) ≡ true → ((q : ℕ) → f (get_or xs q 0) ≡ true → q ≡ p) → length (filter f xs) ≡ 1
  one_kept [] p t h = absurd (true≢false (sym t ∙ off))
  one_kept (x ∷ xs) zero t h = kept x xs t ∙ ap suc (none_kept xs (λ q u. absurd (omega (arith, h (suc q) u))))
  one_kept (x ∷ xs) (suc p) t h = left x xs (not_so (f x) (λ u. absurd (omega (arith, h 0 u)))) ∙ one_kept xs p t (λ q u. omega (arith, h (suc q) u))

module _ {L : Limits} {t : Table} (wf : WellFormed L t) where
  -- 38 does not apply exactly where there is no choice
  pub choice_exact : (no_choice t ≡ true) ↔ WithoutChoice t
  unfolding no_choice one_initial is_initial
  choice_exact = (forth, back)
    where
      forth : no_choice t ≡ true → WithoutChoice t
      forth e =
          let e3 = and-true _ _ e in
          let e2 = and-true _ _ e3.0 in
          let e1 = and-true _ _ e2.0 in
          let o = one_passes is_initial refl t.states (eqb-true _ _ e1.0) in
          record {
            initial = o.place;
            initially = eqb-true _ _ o.passes;
            only = λ q i. o.only q (eq-eqb _ _ i);
            targets = record {
              internals = one_of 2 t.internals (formed-wide wf).internals e1.1;
              calls = one_of 2 t.calls (formed-wide wf).calls e2.1;
              returns = one_of 3 t.returns (formed-wide wf).returns e3.1;
            };
          }

      back : WithoutChoice t → no_choice t ≡ true
      back h =
          and_of (and_of (and_of
          (eq-eqb _ _ (one_kept is_initial refl t.states h.initial (eq-eqb _ _ h.initially) (λ q e. h.only q (eqb-true _ _ e))))
          (of_one 2 t.internals (formed-wide wf).internals h.targets.internals))
          (of_one 2 t.calls (formed-wide wf).calls h.targets.calls))
          (of_one 3 t.returns (formed-wide wf).returns h.targets.returns)

-- no choice, of the automaton
pub deterministic : {t : Table} → WithoutChoice t → Deterministic (automaton t)
deterministic {t} h = record {
  initially = λ {p} {q} i j. h.only p i ∙ sym (h.only q j);
  internals = λ {q} {x} {y} {a} m k. h.targets.internals (q ∷ a ∷ []) x y m k;
  calls = λ {q} {x} {y} {a} m k. h.targets.calls (q ∷ a ∷ []) x y m k;
  returns = λ {q} {s} {x} {y} {a} m k. h.targets.returns (q ∷ a ∷ s ∷ []) x y m k;
}
