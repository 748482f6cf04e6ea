-- What the draws collect is the table described: 36, or the keys of its records. Assumes nothing.
use Rattle.std.proofs.Common.{◌≡◌, ℕ, zero, suc, ◌+◌, ◌≤◌, Bool, true, false, ◌&&◌, ltb, leb, List, [], ◌∷◌, map, length, take, sym, refl, ap, ◌∙◌, subst, add_assoc, arith, ltb-true, le-leb, ◌<◌}
use borrow.Author.Tests.{lt-leb}
use Rattle.lists.specs.Lists.{all}
use Rattle.lists.proofs.Members.{and-true, and_of}
use Rattle.table_spec.specs.File.{bytes_of}
use Rattle.table_spec.proofs.Bytes.{Bytes}
use Rattle.quotient_spec.specs.Quotient.{QuotientDone}
use Rattle.refusals.specs.declared.Refusal.TheVariants.{LoadRecords}
use Rattle.std.specs.Prelude.{Err}
use Rattle.table_write.specs.Keys.{keys_of, record_of, Holds}
use Rattle.table_write.specs.Tables.{keyed_table, written_for}
use Rattle.table_write.proofs.Keys.{Same, keys_back}
use Rattle.generate_spec.specs.Loads.{Load, symbol_bytes, state_bytes, possible, present, possible_internals, possible_calls, possible_returns, seed_calls, seed_returns, described, described_bytes, records_few}
use Rattle.generate.specs.Draws.{Drew}
use Rattle.generate.specs.declared.draws.Drawn.{Drawn}
use Rattle.generate.specs.Counts.{Counts, drawn_for}
use Rattle.generate_spec.proofs.Tuples.{Possible, possible_of}
use Rattle.generate_spec.proofs.Present.{present-mem}

-- ---- keys and back

states-bytes : (n : ℕ) → n ≤ 40 → (qs : List ℕ) → all (λ q. ltb q n) qs ≡ true → Bytes qs
states-bytes n h [] e i = omega arith
states-bytes n h (q ∷ qs) e zero = let l = ltb-true q n (and-true (ltb q n) (all (λ x. ltb x n) qs) e).0 in omega arith
states-bytes n h (q ∷ qs) e (suc i) = states-bytes n h qs (and-true (ltb q n) (all (λ x. ltb x n) qs) e).1 i

record_bytes : {w n from k : ℕ} {r : List ℕ} → n ≤ 40 → from + k ≤ 64 → (p : Possible w n from k r) → Bytes (p.state ∷ p.symbol ∷ p.others)
record_bytes h z p zero = omega (arith, p.state-below)
record_bytes h z p (suc zero) = omega (arith, p.symbol-below)
record_bytes {n = n} h z p (suc (suc i)) = states-bytes n h p.others p.states.below i

pub present-back : (w n from k d s : ℕ) → w ≤ 4 → 2 ≤ w → n ≤ 40 → from + k ≤ 64 → map (record_of w) (keys_of (present d s (possible w n from k))) ≡ present d s (possible w n from k)
present-back w n from k d s l m h z = keys_back w l (present d s (possible w n from k)) (λ r i. go r (possible_of w n from k r (present-mem d s (possible w n from k) r i)))
  where
    go : (r : List ℕ) → Possible w n from k r → Same w r
    go r p = (sym (ap length p.same) ∙ omega (arith, p.states.long), subst Bytes p.same (record_bytes h z p))

-- ---- 36, kind by kind

few-first : (a b c : Bool) → a ≡ false → (a && (b && c)) ≡ false
few-first a b c e = rw e

few-second : (a b c : Bool) → b ≡ false → (a && (b && c)) ≡ false
few-second true b c e = rw e
few-second false b c e = refl

few_third : (a b c : Bool) → c ≡ false → (a && (b && c)) ≡ false
few_third true true c e = e
few_third true false c e = refl
few_third false b c e = refl

module _ (g : Load) (out : List ℕ) where
  abbrev refused : QuotientDone
  refused = record { answer = Err LoadRecords; out = out }

  abbrev one : Bool
  one = leb (length (described g).internals) 1024

  abbrev two : Bool
  two = leb (length (described g).calls) 1024

  abbrev three : Bool
  three = leb (length (described g).returns) 4096

  many : records_few (described g) ≡ false → refused ≡ drawn_for g out
  unfolding drawn_for
  many e = sym (rw (e, drawn_for))

  pub internals_many : 1024 < length (present g.density g.seed (possible 3 g.states 0 g.internals)) → refused ≡ drawn_for g out
  unfolding records_few described possible_internals
  internals_many f = many (few-first one two three (lt-leb _ _ f))

  module _ {r1 : Drawn} {k1 : List ℕ} (d1 : Drew g.density g.seed (possible 3 g.states 0 g.internals) 1024 r1 k1) where
    calls-seed : r1.s ≡ seed_calls g
    unfolding seed_calls possible_internals
    calls-seed = d1.last

    pub calls_many : 1024 < length (present g.density r1.s (possible 3 g.states g.internals g.calls)) → refused ≡ drawn_for g out
    unfolding records_few described possible_calls
    calls_many f = many (few-second one two three (lt-leb _ _ (subst (λ (s : ℕ). 1024 < length (present g.density s (possible_calls g))) calls-seed f)))

    module _ {r2 : Drawn} {k2 : List ℕ} (d2 : Drew g.density r1.s (possible 3 g.states g.internals g.calls) 1024 r2 k2) where
      calls_drawn : Drew g.density (seed_calls g) (possible_calls g) 1024 r2 k2
      unfolding possible_calls
      calls_drawn = subst (λ (s : ℕ). Drew g.density s (possible_calls g) 1024 r2 k2) calls-seed d2

      returns-seed : r2.s ≡ seed_returns g
      unfolding seed_returns
      returns-seed = calls_drawn.last

      pub returns_many : 4096 < length (present g.density r2.s (possible 4 g.states (g.internals + g.calls) g.returns)) → refused ≡ drawn_for g out
      unfolding records_few described possible_returns
      returns_many f = many (few_third one two three (lt-leb _ _ (subst (λ (s : ℕ). 4096 < length (present g.density s (possible_returns g))) returns-seed f)))

      module _ {r3 : Drawn} {k3 : List ℕ} (d3 : Drew g.density r2.s (possible 4 g.states (g.internals + g.calls) g.returns) 4096 r3 k3) where
        returns_drawn : Drew g.density (seed_returns g) (possible_returns g) 4096 r3 k3
        unfolding possible_returns
        returns_drawn = subst (λ (s : ℕ). Drew g.density s (possible_returns g) 4096 r3 k3) returns-seed d3

        abbrev i : Holds k1 r1.count (keys_of (present g.density g.seed (possible 3 g.states 0 g.internals)))
        i = d1.holds

        abbrev c : Holds k2 r2.count (keys_of (present g.density (seed_calls g) (possible_calls g)))
        c = calls_drawn.holds

        abbrev r : Holds k3 r3.count (keys_of (present g.density (seed_returns g) (possible_returns g)))
        r = returns_drawn.holds

        module _ (z : Counts g.states (g.internals + (g.calls + g.returns))) where
          same_bytes : bytes_of (keyed_table 1 (symbol_bytes g.internals g.calls (g.internals + g.calls + g.returns)) (state_bytes g.states) (take r1.count k1) (take r2.count k2) (take r3.count k3)) ≡ described_bytes g
          unfolding described_bytes described possible_internals possible_calls possible_returns
          same_bytes = λ j. bytes_of (record {
            version = 1;
            symbols = symbol_bytes g.internals g.calls (add_assoc g.internals g.calls g.returns j);
            states = state_bytes g.states;
            internals = (ap (map (record_of 3)) i.same ∙ present-back 3 g.states 0 g.internals g.density g.seed (omega arith) (omega arith) z.states-few (omega (arith, z.symbols-few))) j;
            calls = (ap (map (record_of 3)) c.same ∙ present-back 3 g.states g.internals g.calls g.density (seed_calls g) (omega arith) (omega arith) z.states-few (omega (arith, z.symbols-few))) j;
            returns = (ap (map (record_of 4)) r.same ∙ present-back 4 g.states (g.internals + g.calls) g.returns g.density (seed_returns g) (omega arith) (omega arith) z.states-few (omega (arith, z.symbols-few))) j;
          })

          pub few_drawn :
              {done : QuotientDone}
              → done ≡ written_for (bytes_of (keyed_table 1 (symbol_bytes g.internals g.calls (g.internals + g.calls + g.returns)) (state_bytes g.states) (take r1.count k1) (take r2.count k2) (take r3.count k3))) out
              → done ≡ drawn_for g out
          unfolding drawn_for records_few described possible_internals
          few_drawn e = e ∙ ap (λ b. written_for b out) same_bytes ∙ sym (rw (and_of (le-leb _ _ d1.few) (and_of (le-leb _ _ calls_drawn.few) (le-leb _ _ returns_drawn.few)), drawn_for))
