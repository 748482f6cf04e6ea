-- The answer is yes exactly when no word that ends on the empty stack is accepted by the first table and not by the second (request (xi)).
-- Assumes nothing.
use mathlib.Core.Path.{◌≡◌, refl, sym, ap, ◌∙◌, subst}
use mathlib.Core.Logic.{◌↔◌}
use mathlib.Core.Bool.{Bool, true, false, ◌&&◌, not, true≢false}
use mathlib.Core.List.{List, [], ◌∷◌}
use mathlib.Core.Option.{none}
use Prim.Native.Nat.{ℕ, ◌/◌, ◌%◌, ◌<◌}
use native.Mathlib.Omega.{arith}
use native.Mathlib.Decide.{ℕ_discrete}
use lib.ListN.{get_or}
use borrow.Author.Tests.{eqb-true, eq-eqb}
use Rattle.std.specs.Prelude.{Result, Ok, Err}
use Rattle.lists.specs.Lists.{upto, Says}
use Rattle.lists.specs.Bits.{has}
use Rattle.lists.proofs.Members.{and-true, and_of, any-true, any_false, upto_of, same_true, same_of}
use Rattle.lists.proofs.Refusals.{passed, passes, no_test, stage-passes, stage-passed, by_number, told_says}
use Rattle.vpa.specs.Automata.{Tops, Accepts}
use Rattle.limits.specs.declared.Limits.{Limits}
use Rattle.refusals.specs.declared.Refusal.{Refusal}
use Rattle.refusals.specs.declared.Refusal.TheVariants.{Symbols, Choices}
use Rattle.refusals.specs.Refusals.{refusal, Known, number_in, values_in}
use Rattle.refusals.proofs.Numbers.{some_number, known_of, failed_known, none_known, answered_says}
use Rattle.limits.specs.Limits.{standard}
use Rattle.table_spec.specs.File.{Table, table_of}
use Rattle.table_spec.specs.Reading.{is_accepting, Readable, WellFormed}
use Rattle.table_spec.specs.Language.{count, byte_of, automaton, AcceptsWord}
use Rattle.table_spec.proofs.Facts.{internals-fit, calls-fit, returns-fit}
use Rattle.table_spec.proofs.Passed.{read-known}
use Rattle.table_spec.proofs.Bytes.{read_well_formed}
use Rattle.script_spec.specs.Script.{yes_values}
use Rattle.tops_spec.specs.Tops.{top_words_at}
use Rattle.tops_spec.proofs.Bounded.{lawful}
use Rattle.tops_spec.proofs.Formed.{bounded}
use Rattle.tops_spec.proofs.Exact.{bottom-has}
use Rattle.fit_spec.specs.Fit.{first_of, second_of, pair_count, pair_table, ends, fits, no_choice, same_symbols, fit_number, fit_of, FitSays}
use Rattle.fit_spec.specs.Demands.{OnFitting, IsYes, WithoutChoice, Apart, YesExactly, NoApart}
use Rattle.fit_spec.proofs.Pairing.{WordsWithin, Visibly, Paired, reached, within-exact}
use Rattle.fit_spec.proofs.Tables.{pairs_bounded, sink_dead, pairs-accepting, pairs_paired}
use Rattle.fit_spec.proofs.Choices.{choice_exact, deterministic}

-- ---- what it says that nothing is refused

pub record Permitted (b c : List ℕ) : Type 0 where
  pub first : Readable standard b
  pub second : Readable standard c
  pub symbols : (table_of b).symbols ≡ (table_of c).symbols
  pub single : no_choice (table_of c) ≡ true

module _ (b c : List ℕ) where
  pub permitted : fit_number b c ≡ 0 → Permitted b c
  unfolding fit_number same_symbols
  permitted e =
      let p1 = stage-passed _ _ e in
      let p2 = stage-passed _ _ p1.1 in
      let p3 = passed 37 _ _ (λ z. absurd (omega arith)) p2.1 in
      let p4 = passed 38 _ _ (λ z. absurd (omega arith)) p3.1 in
      record { first = p1.0; second = p2.0; symbols = same_true _ _ p3.0; single = p4.0 }

  pub permits : Permitted b c → fit_number b c ≡ 0
  unfolding fit_number same_symbols
  permits p = stage-passes _ _ p.first ∙ stage-passes _ _ p.second ∙ passes 37 _ (same_of p.symbols) ∙ passes 38 _ p.single ∙ no_test

-- ---- two tables

-- the kind of a symbol
visibly : {L : Limits} {t : Table} → WellFormed L t → (symbols : List ℕ) → t.symbols ≡ symbols → Visibly (λ a. get_or symbols a 0) (automaton t)
visibly wf symbols e = record {
  internals = λ {q} {q'} {a} m. subst (λ (y : List ℕ). get_or y a 0 ≡ 0) e ((internals-fit wf).symbol _ m).1;
  calls = λ {q} {q'} {a} m. subst (λ (y : List ℕ). get_or y a 0 ≡ 1) e ((calls-fit wf).symbol _ m).1;
  returns = λ {q} {s} {q'} {a} m. subst (λ (y : List ℕ). get_or y a 0 ≡ 2) e ((returns-fit wf).symbol _ m).1;
}

module _ {L : Limits} {s t : Table} (ws : WellFormed L s) (wt : WellFormed L t) (symbols : s.symbols ≡ t.symbols) (single : WithoutChoice t) where
  abbrev pairs : Table
  pairs = pair_table s t

  abbrev n : ℕ
  n = count t

  paired : Paired (automaton s) (automaton t) (automaton pairs) (first_of n) (second_of n) n
  paired = pairs_paired s t (bounded ws) (bounded wt) single.initial single.initially

  -- every pair on the empty stack whose first accepts has a second that accepts
  abbrev AllSafe : Type 0
  AllSafe = (u : ℕ) → Tops (automaton pairs) u none → (automaton s).accepting (first_of n u) → (automaton t).accepting (second_of n u)

  pub within_safe : WordsWithin (automaton s) (automaton t) ↔ AllSafe
  within_safe = within-exact paired (visibly ws t.symbols symbols) (visibly wt t.symbols refl) (deterministic single) (sink_dead s t (bounded ws) (bounded wt))

  -- bottom among the tops that are worked out
  bottom-found : (u : ℕ) → (has (top_words_at (pair_count s t) pairs) u (pair_count s t) ≡ true) ↔ Tops (automaton pairs) u none
  bottom-found u = bottom-has (pairs_bounded s t (bounded ws) (bounded wt)) u

  -- a word of the first that is none of the second
  pub record Between : Type 0 where
    pub word : List ℕ
    pub accepted : Accepts (automaton s) word
    pub missed : ¬ Accepts (automaton t) word

  accepts_of : (u : ℕ) → is_accepting (byte_of pairs u) ≡ true → (automaton s).accepting (first_of n u) × ¬ (automaton t).accepting (second_of n u)
  unfolding is_accepting
  accepts_of u e = (pairs-accepting s t (bounded ws) (bounded wt) u).0 (eqb-true _ _ e)

  accepts_is : (u : ℕ) → (automaton s).accepting (first_of n u) → ¬ (automaton t).accepting (second_of n u) → (u < count pairs) × (is_accepting (byte_of pairs u) ≡ true)
  unfolding is_accepting
  accepts_is u h k =
      let e = (pairs-accepting s t (bounded ws) (bounded wt) u).1 (h, k) in
      ((lawful (pairs_bounded s t (bounded ws) (bounded wt))).finally {q = u} e, eq-eqb _ _ e)

  -- the bottom's number is not looked into
  module _ (bottom : ℕ) (f : List ℕ) (exact : (u : ℕ) → (has f u bottom ≡ true) ↔ Tops (automaton pairs) u none) where
    between : ends bottom pairs f ≡ true → Between
    unfolding ends
    between e =
        let r = any-true (λ u. is_accepting (byte_of pairs u) && has f u bottom) (upto (count pairs)) e in
        let k = and-true _ _ r.2 in
        let a = accepts_of r.0 k.0 in
        let w = reached paired (visibly ws t.symbols symbols) (visibly wt t.symbols refl) (deterministic single) r.0 ((exact r.0).0 k.1) a.0 in
        record { word = w.0; accepted = w.1; missed = λ b. a.1 (w.2 b) }

    safe : ends bottom pairs f ≡ false → AllSafe
    unfolding ends
    safe e u h k = go (ℕ_discrete (byte_of t (second_of n u) / 2 % 2) 1)
      where
        go : Dec (byte_of t (second_of n u) / 2 % 2 ≡ 1) → (automaton t).accepting (second_of n u)
        go (yes a) = a
        go (no a) =
            let i = accepts_is u k a in
            let x = any_false (λ u. is_accepting (byte_of pairs u) && has f u bottom) (upto (count pairs)) e u (upto_of (count pairs) u i.0) in
            absurd (true≢false (sym (and_of i.1 ((exact u).1 h)) ∙ x))

  pub fits-within : fits s t ≡ true → WordsWithin (automaton s) (automaton t)
  unfolding fits
  fits-within e = go (ends (pair_count s t) pairs (top_words_at (pair_count s t) pairs)) refl e
    where
      go : (x : Bool) → ends (pair_count s t) pairs (top_words_at (pair_count s t) pairs) ≡ x → not x ≡ true → WordsWithin (automaton s) (automaton t)
      go true f g = absurd (true≢false (sym g))
      go false f g = within_safe.1 (safe (pair_count s t) (top_words_at (pair_count s t) pairs) bottom-found f)

  pub differs_between : fits s t ≡ false → Between
  unfolding fits
  differs_between e = go (ends (pair_count s t) pairs (top_words_at (pair_count s t) pairs)) refl e
    where
      go : (x : Bool) → ends (pair_count s t) pairs (top_words_at (pair_count s t) pairs) ≡ x → not x ≡ false → Between
      go true f g = between (pair_count s t) (top_words_at (pair_count s t) pairs) bottom-found f
      go false f g = absurd (true≢false g)

  pub within-fits : WordsWithin (automaton s) (automaton t) → fits s t ≡ true
  within-fits h = go (fits s t) refl
    where
      go : (x : Bool) → fits s t ≡ x → x ≡ true
      go true e = refl
      go false e = let k = differs_between e in absurd (k.missed (h k.word k.accepted))

-- ---- the operation

module _ (b c : List ℕ) where
  -- both answers, of tables that are permitted
  module _ (p : Permitted b c) where
    single_of : WithoutChoice (table_of c)
    single_of = (choice_exact (read_well_formed standard c p.second)).0 p.single

    yes_within : fits (table_of b) (table_of c) ≡ true → (w : List ℕ) → AcceptsWord b w → AcceptsWord c w
    yes_within = fits-within (read_well_formed standard b p.first) (read_well_formed standard c p.second) p.symbols single_of

    no_apart : fits (table_of b) (table_of c) ≡ false → Apart b c
    no_apart e =
        let k = differs_between (read_well_formed standard b p.first) (read_well_formed standard c p.second) p.symbols single_of e in
        record { word = k.word; accepted = k.accepted; missed = k.missed }

  -- what an answer is worth
  abbrev Worth : Result Bool Refusal → Type 0
  Worth r = YesExactly b c r × NoApart b c r

  worth : Permitted b c → (x : Bool) → fits (table_of b) (table_of c) ≡ x → Worth (Ok x)
  worth p true e = (record { exactly = λ z. (λ y a. a.missed (yes_within p e a.word a.accepted), λ n. refl); every = λ z y. yes_within p e }, λ z y. absurd (omega arith))
  worth p false e = (record { exactly = λ z. (λ y. absurd (omega arith), λ n. absurd (n (no_apart p e))); every = λ z y. absurd (omega arith) }, λ z y. no_apart p e)

  pub fit_worth : Worth (fit_of b c)
  unfolding fit_of
  fit_worth =
      let n = some_number (refusal (fit_number b c)) in
      by_number (fit_number b c) (Ok (fits (table_of b) (table_of c))) (Err (refusal (fit_number b c))) Worth (λ z. worth (permitted b c z) (fits (table_of b) (table_of c)) refl) (λ _. (record { exactly = λ z. absurd (n z); every = λ z. absurd (n z) }, λ z. absurd (n z)))

  -- it refuses by numbers that are known
  fit-known : Known (fit_number b c)
  unfolding fit_number
  fit-known = failed_known _ _ (read-known standard b) (failed_known _ _ (read-known standard c) (failed_known _ _ (known_of Symbols) (failed_known _ _ (known_of Choices) none_known)))

  -- its number and its values
  pub fit_says : FitSays b c (fit_of b c)
  unfolding fit_of
  fit_says = subst (λ (vs : List ℕ). Says (number_in (fit_of b c)) (values_in yes_values (fit_of b c)) (fit_number b c) vs) (valued (fits (table_of b) (table_of c))) (answered_says (fits (table_of b) (table_of c)) yes_values fit-known)
    where
      valued : (x : Bool) → yes_values x ≡ (elim x [ true ↦ 1 | false ↦ 0 ]) ∷ []
      valued true = refl
      valued false = refl

  -- an answer that is no refusal is given to tables that are permitted, and only to them
  pub number_of : number_in (fit_of b c) ≡ fit_number b c
  number_of = fit_says.numbered

  -- "does the second accept every word of the first?"
  pub fit-one : ((w : List ℕ) → AcceptsWord b w → AcceptsWord c w) → OnFitting (fit_of b c) (λ y. y ≡ 1)
  fit-one h z = (fit_worth.0.exactly z).1 (λ a. a.missed (h a.word a.accepted))

  pub fit_yes : number_in (fit_of b c) ≡ 0 → ((w : List ℕ) → AcceptsWord b w → AcceptsWord c w) → IsYes (fit_of b c)
  fit_yes z h = by (fit_of b c) z (fit-one h z)
    where
      by : (r : Result Bool Refusal) → number_in r ≡ 0 → get_or (values_in yes_values r) 0 0 ≡ 1 → IsYes r
      by (Ok true) z y = told_says _ refl
      by (Ok false) z y = absurd (omega arith)
      by (Err r) z y = absurd (some_number r z)

  pub yes_permitted : IsYes (fit_of b c) → Permitted b c
  yes_permitted e = permitted b c (sym number_of ∙ e.numbered)

  pub yes_every : IsYes (fit_of b c) → (w : List ℕ) → AcceptsWord b w → AcceptsWord c w
  yes_every e = fit_worth.0.every e.numbered (ap (λ (vs : List ℕ). get_or vs 0 0) e.valued)
