-- Which map is picked, its number, and what is handed back: a law for each way to a return of src/, and the promises. Assumes nothing.
use mathlib.Core.Path.{◌≡◌, refl, sym, ap, ◌∙◌, subst}
use mathlib.Core.Logic.{◌↔◌, inl, inr, ⊎_elim}
use mathlib.Core.Bool.{Bool, true, false, true≢false}
use mathlib.Core.List.{List, [], ◌∷◌}
use Prim.Native.Nat.{ℕ, ◌≤◌, ◌<◌}
use native.Mathlib.Omega.{arith}
use native.Mathlib.Decide.{ℕ_discrete}
use lib.ListN.{length}
use lib.Dec.{leb}
use borrow.Author.Tests.{leb-true, leb-false, le-leb, lt-leb}
use denote.Ref.{Bor}
use Rattle.std.specs.Prelude.{Option, Some, None, Result, Ok, Err}
use Rattle.lists.specs.Lists.{first_failed, Says}
use Rattle.lists.proofs.Refusals.{passes, fails, no_test, stage-passes, stage_fails, stage-passed, told_says, refused_says}
use Rattle.limits.specs.declared.Limits.{Limits}
use Rattle.refusals.specs.declared.Refusal.{Refusal}
use Rattle.refusals.specs.declared.Refusal.TheVariants.{NeitherMap}
use Rattle.refusals.specs.Refusals.{number_of, refusal, Known, number_in, values_in}
use Rattle.refusals.proofs.Numbers.{some_number, own_number, known_of, failed_known, none_known, was_ok, was_refused}
use Rattle.table_spec.specs.Reading.{read_number, Readable}
use Rattle.table_spec.specs.Maps.{classes}
use Rattle.table_spec.proofs.Bytes.{read_well_formed}
use Rattle.table_spec.proofs.Passed.{read-within, formed_tested, read-known}
use Rattle.check_spec.specs.Check.{check_of}
use Rattle.check_spec.proofs.Accepted.{accepted, Accepted as Accepted'}
use Rattle.check_spec.proofs.Answers.{passes-number, number-passes, check-known}
use Rattle.choose_spec.specs.declared.Which.{Which}
use Rattle.choose_spec.specs.declared.Which.TheVariants.{First, Second}
use Rattle.choose_spec.specs.Choose.{pick, which_of, some, choose_number, choice_of, which_values, picked_values, DecideSays, Slice, slice_of, handed, choose_of}
use Rattle.choose_spec.specs.Demands.{Passes, Chosen, NumberTells, NeitherPasses, ZeroTells, HandedBack}

-- of a map that passes the table is readable and has a state, and the map a byte for it
module _ (L : Limits) (b m : List ℕ) (p : Passes L b m) where
  pass-accepted : Accepted' L b m
  pass-accepted = accepted L b m (passes-number L b m p)

  pass-filled : 1 ≤ length m
  pass-filled = let a = pass-accepted in omega (arith, a.proper.long, (formed_tested (read_well_formed L b a.readable)).some-state)

module _ (L : Limits) (b m n : List ℕ) where
  -- ---- which map, from the check's answers

  by_checks : {x y : Result ℕ Refusal} → x ≡ check_of L b m → y ≡ check_of L b n → pick x y ≡ which_of L b m n
  unfolding which_of
  by_checks e f = λ i. pick (e i) (f i)

  pub pick_neither : {k l : Refusal} → Err k ≡ check_of L b m → Err l ≡ check_of L b n → None ≡ which_of L b m n
  unfolding pick
  pick_neither e f = by_checks e f

  pub pick_second : {k : Refusal} {d : ℕ} → Err k ≡ check_of L b m → Ok d ≡ check_of L b n → Some Second ≡ which_of L b m n
  unfolding pick
  pick_second e f = by_checks e f

  pub pick_first : {c : ℕ} {l : Refusal} → Ok c ≡ check_of L b m → Err l ≡ check_of L b n → Some First ≡ which_of L b m n
  unfolding pick
  pick_first e f = by_checks e f

  module _ {c d : ℕ} (e : Ok c ≡ check_of L b m) (f : Ok d ≡ check_of L b n) where
    pub pick_fewer : d < c → Some Second ≡ which_of L b m n
    unfolding pick
    pick_fewer h = sym (rw (lt-leb c d h, pick)) ∙ by_checks e f

    pub pick-few : c ≤ d → Some First ≡ which_of L b m n
    unfolding pick
    pick-few h = sym (rw (le-leb c d h, pick)) ∙ by_checks e f

  pub pick_both : {c d : ℕ} → Ok c ≡ check_of L b m → Ok d ≡ check_of L b n → Some (elim (leb c d) [ true ↦ First | false ↦ Second ]) ≡ which_of L b m n
  unfolding pick
  pick_both e f = by_checks e f

  -- ---- what it says of the two maps

  data Picked : Option Which → Type 0 where
    neither : (Passes L b m → ⊥) → (Passes L b n → ⊥) → Picked None
    first : Passes L b m → (Passes L b n → classes m ≤ classes n) → Picked (Some First)
    second : Passes L b n → (Passes L b m → classes n < classes m) → Picked (Some Second)

  picked : Picked (which_of L b m n)
  unfolding check_of
  picked = go (check_of L b m) (check_of L b n) refl refl
    where
      passes-by : (k : List ℕ) {c : ℕ} → Ok c ≡ check_of L b k → Passes L b k × (c ≡ classes k)
      passes-by k e = let w = was_ok (classes k) (sym e) in (number-passes L b k w.0, w.1)

      fails-by : (k : List ℕ) {r : Refusal} → Err r ≡ check_of L b k → Passes L b k → ⊥
      fails-by k {r} e p = some_number r (sym (was_refused (classes k) (check-known L b k) (sym e)) ∙ passes-number L b k p)

      counts : (t : Bool) {c d : ℕ} → leb c d ≡ t → Ok c ≡ check_of L b m → Ok d ≡ check_of L b n → c ≡ classes m → d ≡ classes n → Passes L b m → Passes L b n → Picked (which_of L b m n)
      counts true {c} {d} h e f v w p q = subst Picked (pick-few e f (leb-true c d h)) (first p (λ q. omega (arith, leb-true c d h)))
      counts false {c} {d} h e f v w p q = subst Picked (pick_fewer e f (leb-false c d h)) (second q (λ p. omega (arith, leb-false c d h)))

      go : (x y : Result ℕ Refusal) → x ≡ check_of L b m → y ≡ check_of L b n → Picked (which_of L b m n)
      go (Ok c) (Ok d) e f = let p = passes-by m e in let q = passes-by n f in counts (leb c d) refl e f p.1 q.1 p.0 q.0
      go (Ok c) (Err l) e f = subst Picked (pick_first e f) (first (passes-by m e).0 (λ p. absurd (fails-by n f p)))
      go (Err k) (Ok d) e f = subst Picked (pick_second e f) (second (passes-by n f).0 (λ p. absurd (fails-by m e p)))
      go (Err k) (Err l) e f = subst Picked (pick_neither e f) (neither (fails-by m e) (fails-by n f))

  -- ---- the number

  pub unread_number : (Readable L b → ⊥) → choose_number L b m n ≡ read_number L b
  unfolding choose_number
  unread_number h = stage_fails _ _ refl h

  read_number_lem : Readable L b → choose_number L b m n ≡ first_failed ((40, some (which_of L b m n)) ∷ [])
  unfolding choose_number
  read_number_lem r = stage-passes _ _ r

  number_40 : None ≡ which_of L b m n → Readable L b → choose_number L b m n ≡ 40
  unfolding some
  number_40 e r = read_number_lem r ∙ fails 40 [] (ap some (sym e))

  number_0 : some (which_of L b m n) ≡ true → Readable L b → choose_number L b m n ≡ 0
  number_0 e r = read_number_lem r ∙ passes 40 [] e ∙ no_test

  -- it refuses by numbers that are known
  choose-known : Known (choose_number L b m n)
  unfolding choose_number
  choose-known = failed_known _ _ (read-known L b) (failed_known _ _ (known_of NeitherMap) none_known)

  -- the answer, by which map it is
  by_choice : {w : Option Which} → w ≡ which_of L b m n → (elim w as (λ _. Result Which Refusal) [ None ↦ Err (refusal (choose_number L b m n)) | Some v ↦ Ok v ]) ≡ choice_of L b m n
  unfolding choice_of
  by_choice e = ap (λ (w : Option Which). elim w as (λ _. Result Which Refusal) [ None ↦ Err (refusal (choose_number L b m n)) | Some v ↦ Ok v ]) e

  pub decide_some : {w : Which} → Some w ≡ which_of L b m n → Ok w ≡ choice_of L b m n
  decide_some e = by_choice e

  pub decide_none : {r : Refusal} → None ≡ which_of L b m n → choose_number L b m n ≡ number_of r → Err r ≡ choice_of L b m n
  decide_none {r} e f = ap {B = Result Which Refusal} (λ s. Err s) (sym (own_number r) ∙ ap refusal (sym f)) ∙ by_choice e

  -- of a table that is readable
  pub decide_neither : Readable L b → None ≡ which_of L b m n → Err NeitherMap ≡ choice_of L b m n
  decide_neither r e = decide_none e (number_40 e r)

  -- nothing is handed back only with a refusal
  refused : None ≡ which_of L b m n → choose_number L b m n ≡ 0 → ⊥
  unfolding choose_number
  refused e z = let f = number_40 e (stage-passed _ _ z).0 in omega arith

  number-some : some (which_of L b m n) ≡ true → choose_number L b m n ≡ 0
  unfolding some
  number-some h = go (which_of L b m n) refl picked h
    where
      go : (w : Option Which) → w ≡ which_of L b m n → Picked w → some w ≡ true → choose_number L b m n ≡ 0
      go None e p k = absurd (true≢false (sym k))
      go (Some First) e (first p q) k = number_0 (ap some (sym e)) (pass-accepted L b m p).readable
      go (Some Second) e (second p q) k = number_0 (ap some (sym e)) (pass-accepted L b n p).readable

  -- the number of an answer, and which map it is
  module _ {x : Result Which Refusal} (e : x ≡ choice_of L b m n) where
    pub decided : {w : Which} → x ≡ Ok w → Some w ≡ which_of L b m n
    unfolding choice_of
    decided {w} f = go (which_of L b m n) refl (sym f ∙ e)
      where
        go : (v : Option Which) → v ≡ which_of L b m n → Ok w ≡ (elim v as (λ _. Result Which Refusal) [ None ↦ Err (refusal (choose_number L b m n)) | Some u ↦ Ok u ]) → Some w ≡ which_of L b m n
        go None h g = cc
        go (Some u) h g = cc

    pub undecided : {r : Refusal} → x ≡ Err r → None ≡ which_of L b m n
    unfolding choice_of
    undecided {r} f = go (which_of L b m n) refl (sym f ∙ e)
      where
        go : (v : Option Which) → v ≡ which_of L b m n → Err r ≡ (elim v as (λ _. Result Which Refusal) [ None ↦ Err (refusal (choose_number L b m n)) | Some u ↦ Ok u ]) → None ≡ which_of L b m n
        go None h g = h
        go (Some u) h g = cc

    pub number_decided : number_in x ≡ choose_number L b m n
    unfolding choice_of some
    number_decided = ap number_in e ∙ go (which_of L b m n) refl
      where
        go : (v : Option Which) → v ≡ which_of L b m n → number_in (elim v as (λ _. Result Which Refusal) [ None ↦ Err (refusal (choose_number L b m n)) | Some u ↦ Ok u ]) ≡ choose_number L b m n
        go None h = choose-known (refused h)
        go (Some u) h = sym (number-some (ap some (sym h)))

    -- and its values are those of the map that was picked
    pub decided_says : DecideSays L b m n x
    unfolding choice_of some picked_values
    decided_says = rw e (go (which_of L b m n) refl)
      where
        go : (v : Option Which) → v ≡ which_of L b m n
            → (let r : Result Which Refusal = elim v as (λ _. Result Which Refusal) [ None ↦ Err (refusal (choose_number L b m n)) | Some u ↦ Ok u ] in Says (number_in r) (values_in which_values r) (choose_number L b m n) (picked_values v))
        go None h = refused_says [] (sym (choose-known (refused h))) (some_number _)
        go (Some u) h = told_says (which_values u) (number-some (ap some (sym h)))

  -- the number says whether a value says which
  tells : (x : Result Which Refusal) → NumberTells x
  tells (Ok First) = (λ z f. cc, λ f. refl)
  tells (Ok Second) = (λ z f. cc, λ f. refl)
  tells (Err r) = (λ z. absurd (some_number r z), λ f. absurd (f refl))

  pub told : {x : Result Which Refusal} → x ≡ choice_of L b m n → (x ≡ choice_of L b m n) × NumberTells x
  told {x} e = (e, tells x)

  pub neither_passes : {k : ℕ} → k ≡ choose_number L b m n → NeitherPasses L b m n k
  unfolding some
  neither_passes {k} e = (λ f. to (ℕ_discrete (read_number L b) 0) (sym e ∙ f), λ h. e ∙ back (which_of L b m n) refl picked h)
    where
      none : (w : Option Which) → Picked w → first_failed ((40, some w) ∷ []) ≡ 40 → (Passes L b m → ⊥) × (Passes L b n → ⊥)
      none None (neither p q) f = (p, q)
      none (Some w) p f = let g : first_failed ((40, some (Some w)) ∷ []) ≡ 0 = passes 40 [] refl ∙ no_test in absurd (omega arith)

      to : Dec (Readable L b) → choose_number L b m n ≡ 40 → Readable L b × (Passes L b m → ⊥) × (Passes L b n → ⊥)
      to (yes r) f = let h = none (which_of L b m n) picked (sym (read_number_lem r) ∙ f) in (r, h.0, h.1)
      to (no h) f = absurd (⊎_elim (λ g. omega (arith, unread_number h)) (λ g. omega (arith, unread_number h)) (read-within L b))

      back : (w : Option Which) → w ≡ which_of L b m n → Picked w → Readable L b × (Passes L b m → ⊥) × (Passes L b n → ⊥) → choose_number L b m n ≡ 40
      back None e (neither p q) h = number_40 e h.0
      back (Some First) e (first p q) h = absurd (h.1 p)
      back (Some Second) e (second p q) h = absurd (h.2 p)

-- ---- what is handed back

pub zero_tells : (L : Limits) (b : List ℕ) (s t : Slice) {k : ℕ} → k ≡ choose_number L b s.bytes t.bytes → ZeroTells L b s t k
unfolding choose_of handed some
zero_tells L b s t {k} e = go (which_of L b s.bytes t.bytes) refl (picked L b s.bytes t.bytes)
  where
    go : (w : Option Which) → w ≡ which_of L b s.bytes t.bytes → Picked L b s.bytes t.bytes w → (k ≡ 0) ↔ (1 ≤ length (handed w s t).bytes)
    go None f p = (λ z. absurd (refused L b s.bytes t.bytes f (sym e ∙ z)), λ h. absurd (omega arith))
    go (Some First) f (first p q) = (λ z. pass-filled L b s.bytes p, λ h. e ∙ number-some L b s.bytes t.bytes (ap some (sym f)))
    go (Some Second) f (second p q) = (λ z. pass-filled L b t.bytes p, λ h. e ∙ number-some L b s.bytes t.bytes (ap some (sym f)))

module _ (L : Limits) (b : List ℕ) (s t : Bor (List ℕ)) where
  by_which : {w : Option Which} → w ≡ which_of L b s.now t.now → handed w (slice_of s) (slice_of t) ≡ choose_of L b (slice_of s) (slice_of t)
  unfolding choose_of
  by_which e = λ i. handed (e i) (slice_of s) (slice_of t)

  pub hand_none : {x : Bor (List ℕ)} → None ≡ which_of L b s.now t.now → x.ref_ptr ≡ s.ref_ptr → x.now ≡ []
      → (slice_of x ≡ choose_of L b (slice_of s) (slice_of t)) × HandedBack L b s t x
  unfolding handed
  hand_none {x} e p q = ((λ i. record { place = p i; bytes = q i }) ∙ by_which e, record { chosen = λ z. absurd (refused L b s.now t.now e z); empty = λ n. (p, q) })

  pub hand_first : Some First ≡ which_of L b s.now t.now → (slice_of s ≡ choose_of L b (slice_of s) (slice_of t)) × HandedBack L b s t s
  unfolding handed some
  hand_first e = (by_which e, record { chosen = λ z. go (subst (Picked L b s.now t.now) (sym e) (picked L b s.now t.now)); empty = λ n. absurd (n (number-some L b s.now t.now (ap some (sym e)))) })
    where
      go : Picked L b s.now t.now (Some First) → Chosen L b s t s
      go (first p q) = record { itself = inl refl; passes = p; fewest_first = λ _. omega arith; fewest_second = q; first = λ _ _. refl; filled = pass-filled L b s.now p }

  pub hand_second : Some Second ≡ which_of L b s.now t.now → (slice_of t ≡ choose_of L b (slice_of s) (slice_of t)) × HandedBack L b s t t
  unfolding handed some
  hand_second e = (by_which e, record { chosen = λ z. go (subst (Picked L b s.now t.now) (sym e) (picked L b s.now t.now)); empty = λ n. absurd (n (number-some L b s.now t.now (ap some (sym e)))) })
    where
      go : Picked L b s.now t.now (Some Second) → Chosen L b s t t
      go (second p q) =
          record {
            itself = inr refl;
            passes = p;
            fewest_first = λ h. let l = q h in omega arith;
            fewest_second = λ _. omega arith;
            first = λ h l. let k = q h in absurd (omega arith);
            filled = pass-filled L b t.now p;
          }
