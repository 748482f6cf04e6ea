-- What a well-formed table's records and bytes are, and what the targets of a key are. One law for every width. Assumes nothing.
use mathlib.Core.Path.{◌≡◌, refl, sym, ap, ◌∙◌, subst}
use mathlib.Core.Logic.{◌≢◌, ◌↔◌}
use mathlib.Core.Bool.{Bool, true, ◌&&◌, true≢false}
use mathlib.Core.List.Memᴰ
use mathlib.Core.List.{List, [], ◌∷◌, ◌++◌, Memᴰ}
use Prim.Native.Nat.{ℕ, zero, suc, ◌/◌, ◌%◌, ◌≤◌, ◌<◌}
use native.Mathlib.Omega.{arith}
use native.Mathlib.Decide.{ℕ_discrete, dec_lt}
use lib.ListN.{length, get_or, take, get_or-eq_default}
use lib.Seq.{take-suc, take_all, take-append_seam, get_or-append_seam}
use lib.Dec.{eqb, ltb}
use borrow.Author.Tests.{eqb-true, ltb-true}
use Rattle.lists.specs.Lists.{filter, same}
use Rattle.lists.proofs.Members.{and-true, get_d_mem, all_true, filter-mem, filter_of, same_true, same_refl}
use Rattle.limits.specs.declared.Limits.{Limits}
use Rattle.limits.specs.Limits.{state_most}
use Rattle.limits.proofs.Within.{limits-within}
use Rattle.table_spec.specs.File.{Table}
use Rattle.table_spec.specs.Reading.{state_byte_most, record_fits, WellFormed}
use Rattle.table_spec.specs.Language.{count, byte_of, mark_of, agreed_on, targets, automaton}
use Rattle.table_spec.proofs.Versions.{other-most, byte_most}
use Rattle.table_spec.proofs.Passed.{formed-wide, formed_tested}

-- ---- records

-- the records of a section: w bytes, the second a symbol of a kind, the others states
pub record Fit (t : Table) (kind w : ℕ) (rs : List (List ℕ)) : Type 0 where
  pub wide : (r : List ℕ) → Memᴰ r rs → length r ≡ w
  pub states : (r : List ℕ) → Memᴰ r rs → (i : ℕ) → i ≢ 1 → i < w → get_or r i 0 < count t
  pub symbol : (r : List ℕ) → Memᴰ r rs → (get_or r 1 0 < length t.symbols) × (get_or t.symbols (get_or r 1 0) 0 ≡ kind)

record_states : (t : Table) (kind : ℕ) (r : List ℕ) → record_fits t kind r ≡ true → (i : ℕ) → i ≢ 1 → i < length r → get_or r i 0 < count t
unfolding record_fits
record_states t kind [] e i n h = absurd (omega arith)
record_states t kind (p ∷ []) e i n h = absurd (true≢false (sym e))
record_states t kind (p ∷ a ∷ qs) e zero n h = ltb-true p (count t) (and-true (ltb p (count t)) _ (and-true (ltb p (count t) && _) _ e).0).0
record_states t kind (p ∷ a ∷ qs) e (suc zero) n h = absurd (n refl)
record_states t kind (p ∷ a ∷ qs) e (suc (suc i)) n h = ltb-true (get_or qs i 0) (count t) (all_true (λ q. ltb q (count t)) qs (and-true (ltb p (count t) && _) _ e).1 (get_or qs i 0) (get_d_mem qs i 0 (omega arith)))

record_symbol : (t : Table) (kind : ℕ) (r : List ℕ) → record_fits t kind r ≡ true → (get_or r 1 0 < length t.symbols) × (get_or t.symbols (get_or r 1 0) 0 ≡ kind)
unfolding record_fits
record_symbol t kind [] e = absurd (true≢false (sym e))
record_symbol t kind (p ∷ []) e = absurd (true≢false (sym e))
record_symbol t kind (p ∷ a ∷ qs) e =
    let k = and-true (ltb a (length t.symbols)) (eqb (get_or t.symbols a 0) kind) (and-true (ltb p (count t)) _ (and-true (ltb p (count t) && _) _ e).0).1 in
    (ltb-true a (length t.symbols) k.0, eqb-true _ _ k.1)

fit : (t : Table) (kind w : ℕ) (rs : List (List ℕ)) → ((r : List ℕ) → Memᴰ r rs → length r ≡ w) → ((r : List ℕ) → Memᴰ r rs → record_fits t kind r ≡ true) → Fit t kind w rs
fit t kind w rs wide fits =
    record {
      wide = wide;
      states = λ r m i n h. record_states t kind r (fits r m) i n (subst (λ (k : ℕ). i < k) (sym (wide r m)) h);
      symbol = λ r m. record_symbol t kind r (fits r m);
    }

module _ {L : Limits} {t : Table} (wf : WellFormed L t) where
  pub internals-fit : Fit t 0 3 t.internals
  internals-fit = fit t 0 3 t.internals (formed-wide wf).internals (formed_tested wf).internals-fit

  pub calls-fit : Fit t 1 3 t.calls
  calls-fit = fit t 1 3 t.calls (formed-wide wf).calls (formed_tested wf).calls-fit

  pub returns-fit : Fit t 2 4 t.returns
  returns-fit = fit t 2 4 t.returns (formed-wide wf).returns (formed_tested wf).returns-fit

  pub few-states : count t ≤ L.states
  few-states = (formed_tested wf).states-few

  -- .. and at no limits more than 40
  pub most-states : count t ≤ state_most
  most-states = omega (arith, few-states, limits-within wf.limits)

  -- a state's byte is within its version's limit
  pub byte_within : (q : ℕ) → byte_of t q ≤ state_byte_most t.version
  byte_within q = go (dec_lt q (count t))
    where
      go : Dec (q < count t) → byte_of t q ≤ state_byte_most t.version
      go (yes l) = (formed_tested wf).state-bytes (byte_of t q) (get_d_mem t.states q 0 l)
      go (no l) = omega (arith, get_or-eq_default t.states 0 {n = q} (omega arith))

  -- request (v): "a mark 0 to 15", and "Version 1 means mark 0 throughout"
  pub mark-few : (q : ℕ) → mark_of (byte_of t q) ≤ 15
  unfolding mark_of
  mark-few q = omega (arith, byte_within q, byte_most t.version)

  pub first-mark : t.version ≡ 1 → (q : ℕ) → mark_of (byte_of t q) ≡ 0
  unfolding mark_of
  first-mark e q = let k : 3 ≡ state_byte_most t.version = other-most (λ h. omega (arith, e, h)) in omega (arith, byte_within q, k)

-- ---- what joined states must agree on: whether they accept, and their mark

module _ (t : Table) (p q : ℕ) where
  pub look_accepting : agreed_on (byte_of t p) ≡ agreed_on (byte_of t q) → (automaton t).accepting p → (automaton t).accepting q
  unfolding agreed_on
  look_accepting e h = omega arith

  pub look_mark : {k : ℕ} → q < count t → agreed_on (byte_of t p) ≡ agreed_on (byte_of t q) → (automaton t).mark p k → (automaton t).mark q k
  unfolding agreed_on mark_of
  look_mark h e (l, m) = (h, omega arith)

  pub agreed_look : p < count t → (automaton t).accepting p ↔ (automaton t).accepting q → ((k : ℕ) → (automaton t).mark p k → (automaton t).mark q k) → agreed_on (byte_of t p) ≡ agreed_on (byte_of t q)
  unfolding agreed_on mark_of
  agreed_look l e m = go (ℕ_discrete (byte_of t p / 2 % 2) 1) (ℕ_discrete (byte_of t q / 2 % 2) 1) (m _ (l, refl)).1
    where
      go : Dec (byte_of t p / 2 % 2 ≡ 1) → Dec (byte_of t q / 2 % 2 ≡ 1) → byte_of t q / 4 ≡ byte_of t p / 4 → byte_of t p / 2 ≡ byte_of t q / 2
      go (yes h) (yes k) n = omega arith
      go (yes h) (no k) n = absurd (k (e.0 h))
      go (no h) (yes k) n = absurd (h (e.1 k))
      go (no h) (no k) n = omega arith

-- ---- a record written out

pub three_bytes : (r : List ℕ) → length r ≡ 3 → r ≡ get_or r 0 0 ∷ get_or r 1 0 ∷ get_or r 2 0 ∷ []
three_bytes (x ∷ y ∷ z ∷ []) e = refl
three_bytes [] e = absurd (omega arith)
three_bytes (x ∷ []) e = absurd (omega arith)
three_bytes (x ∷ y ∷ []) e = absurd (omega arith)
three_bytes (x ∷ y ∷ z ∷ u ∷ r) e = absurd (omega arith)

pub four_bytes : (r : List ℕ) → length r ≡ 4 → r ≡ get_or r 0 0 ∷ get_or r 1 0 ∷ get_or r 2 0 ∷ get_or r 3 0 ∷ []
four_bytes (x ∷ y ∷ z ∷ u ∷ []) e = refl
four_bytes [] e = absurd (omega arith)
four_bytes (x ∷ []) e = absurd (omega arith)
four_bytes (x ∷ y ∷ []) e = absurd (omega arith)
four_bytes (x ∷ y ∷ z ∷ []) e = absurd (omega arith)
four_bytes (x ∷ y ∷ z ∷ u ∷ v ∷ r) e = absurd (omega arith)

-- ---- the targets of a key

-- a record that starts with the key is the key and its target
pub key_split : (r key : List ℕ) → length r ≡ suc (length key) → key ≡ take (length key) r → r ≡ key ++ (get_or r (length key) 0 ∷ [])
key_split r key e p =
    sym (take_all (suc (length key)) r (omega arith))
    ∙ take-suc r (length key) 0 (omega arith)
    ∙ ap (λ k. k ++ (get_or r (length key) 0 ∷ [])) (sym p)

module _ (rs : List (List ℕ)) (key : List ℕ) where
  starts_with : List ℕ → Bool
  starts_with r = same key (take (length key) r)

  pub targets-mem : ((r : List ℕ) → Memᴰ r rs → length r ≡ suc (length key)) → (q : ℕ) → Memᴰ q (targets rs key) → Memᴰ (key ++ (q ∷ [])) rs
  unfolding targets starts_with
  targets-mem wide q m =
      let r = Memᴰ.of_map (λ r. get_or r (length key) 0) (filter starts_with rs) m in
      let k = filter-mem starts_with rs r.0 r.1 in
      let e = key_split r.0 key (wide r.0 k.0) (same_true key (take (length key) r.0) k.1) in
      Memᴰ.cast (sym (e ∙ ap (λ x. key ++ (x ∷ [])) r.2)) k.0

  pub mem-targets : (q : ℕ) → Memᴰ (key ++ (q ∷ [])) rs → Memᴰ q (targets rs key)
  unfolding targets starts_with
  mem-targets q m =
      let s : same key (take (length key) (key ++ (q ∷ []))) ≡ true = rw (take-append_seam key (q ∷ [])) (same_refl key) in
      subst (λ x. Memᴰ x (targets rs key)) (get_or-append_seam key q [] 0) (Memᴰ.map (λ r. get_or r (length key) 0) (filter_of starts_with rs (key ++ (q ∷ [])) m s))
