-- Laws for the walk that gives each clause of a list its word. Assumes nothing.
use mathlib.Core.Path.{◌≡◌, refl, sym, ap, ◌∙◌}
use mathlib.Core.Bool.{true}
use mathlib.Core.List.{List, [], ◌∷◌, ◌++◌}
use Prim.Native.Nat.{ℕ, suc, ◌+◌, ◌≤◌, ◌<◌}
use native.Mathlib.Omega.{arith}
use native.Mathlib.Decide.{ℕ_discrete}
use lib.ListN.{length, get_or, set, drop, length-append}
use lib.Seq.{drop-drop, get_or-drop, get_or-set_same, get_or-set_other}
use Rattle.cnf.specs.Clauses.{clauses_in, whole}
use Rattle.cnf.specs.Closing.{Formed}
use Rattle.sat_literal.proofs.Walking.{clauses_on, clauses_end, whole_on, formed_on}
use Rattle.sat_counters.specs.Counters.{numbered, weigh, CountersOf}

-- the first clauses have their counters; the others are still to come
pub record Tallying (ws v counters : List ℕ) (count : ℕ) (rest : List ℕ) : Type 0 where
  pub all_there : whole rest ≡ true
  pub formed : Formed (clauses_in rest) (length v)
  pub short : length rest ≤ 32768
  pub left : drop count (clauses_in ws) ≡ clauses_in rest
  pub counted : count + length (clauses_in rest) ≡ length (clauses_in ws)
  pub done : (c : ℕ) → c < count → get_or counters c 0 ≡ weigh v (numbered ws c)

pub tallying : {ws v : List ℕ} (counters : List ℕ) → whole ws ≡ true → Formed (clauses_in ws) (length v) → length ws ≤ 32768 → Tallying ws v counters 0 ws
tallying {ws} {v} counters w f s = record { all_there = w; formed = f; short = s; left = refl; counted = omega arith; done = λ c h. absurd (omega (arith, h)) }

module _ {ws v counters : List ℕ} {count : ℕ} {rest : List ℕ} (t : Tallying ws v counters count rest) where
  pub tallied : length rest ≡ 0 → length (clauses_in ws) ≤ length counters → CountersOf ws v counters × (count ≡ length (clauses_in ws))
  tallied h room = (record { room = room; each = λ c k. t.done c (omega (arith, all_of)) }, all_of)
    where
      all_of : count ≡ length (clauses_in ws)
      all_of = omega (arith, ap (λ (cs : List (List ℕ)). length cs) (clauses_end rest h), t.counted)

  module _ (c rest' : List ℕ) (e : rest ≡ length c ∷ (c ++ rest')) where
    -- one clause more
    one_more : length (clauses_in rest) ≡ suc (length (clauses_in rest'))
    one_more = ap (λ (cs : List (List ℕ)). length cs) (clauses_on rest c rest' e)

    pub count-inside : count < length (clauses_in ws)
    count-inside = omega (arith, one_more, t.counted)

    number-here : numbered ws count ≡ c
    number-here =
        let z : count ≡ count + 0 = omega arith in
        ap (λ (i : ℕ). get_or (clauses_in ws) i []) z ∙ sym (get_or-drop count (clauses_in ws) 0 []) ∙ ap (λ (cs : List (List ℕ)). get_or cs 0 []) (t.left ∙ clauses_on rest c rest' e)

    lengths : length rest ≡ suc (length c + length rest')
    lengths = ap length e ∙ ap suc (length-append c rest')

    pub clause-short : length c ≤ 32768
    clause-short = omega (arith, lengths, t.short)

    pub count_literals_on : {word : ℕ} → count < length counters → word ≡ weigh v c → Tallying ws v (set counters count word) (count + 1) rest'
    count_literals_on {word} room q = record {
      all_there = whole_on rest c rest' e t.all_there;
      formed = formed_on rest c rest' e t.formed;
      short = omega (arith, lengths, t.short);
      left = sym (drop-drop 1 count (clauses_in ws)) ∙ ap (drop 1) (t.left ∙ clauses_on rest c rest' e);
      counted = omega (arith, one_more, t.counted);
      done = λ d l. go d l (ℕ_discrete d count);
    }
      where
        go : (d : ℕ) → d < count + 1 → Dec (d ≡ count) → get_or (set counters count word) d 0 ≡ weigh v (numbered ws d)
        go d l (yes r) = rw r (get_or-set_same counters count word 0 room ∙ q ∙ ap (weigh v) (sym number-here))
        go d l (no r) = get_or-set_other counters count d word 0 r ∙ t.done d (omega (arith, l))
