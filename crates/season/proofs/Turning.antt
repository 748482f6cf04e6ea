-- One table's turn, as reduce answers it. Assumes nothing.
use mathlib.Core.Path.{◌≡◌, sym, ap, ◌∙◌}
use mathlib.Core.List.{List, [], ◌∷◌}
use Prim.Native.Nat.{ℕ}
use Rattle.limits.specs.declared.Limits.{Limits}
use Rattle.refusals.specs.declared.Refusal.{Refusal}
use Rattle.refusals.specs.Refusals.{number_of}
use Rattle.std.specs.Prelude.{Result, Ok, Err}
use Rattle.table_spec.specs.Reading.{Readable}
use Rattle.script_spec.specs.Script.{yes_value}
use Rattle.lists.specs.Lists.{over}
use Rattle.reduce_spec.specs.Reduce.{Reduced, reduce_of}
use Rattle.reduce_spec.specs.declared.Reduction.{Reduction}
use Rattle.reduce_spec.proofs.Ways.{Ways, refused_first, refused_short, delivers, reduce_ways}
use Rattle.season_spec.specs.Seasons.{row, guesses_in, map_taken, out_taken}
use Rattle.reduce.specs.States.{states_of}
use Rattle.reduce.proofs.States.{readable-states}
use Rattle.season.specs.Turns.{Turned}

module _ (L : Limits) (b : List ℕ) (budget : ℕ) (list map out : List ℕ) where
  -- only a readable table is delivered
  readable_ways : {r : Reduced} {d : Reduction} → Ways L b budget list map out r → Ok d ≡ r.answer → Readable L b
  readable_ways (refused_first r e) q = cc
  readable_ways (refused_short v g u z s l) q = cc
  readable_ways (delivers v g u z s l) q = s.begun.readable

  abbrev done : Reduced
  done = reduce_of L b budget list map out

  pub turn_delivered : {r : Result Reduction Refusal} {list' map' out' : List ℕ} {d : Reduction} {x n : ℕ}
      → record { answer = r; list = list'; map = map'; out = out' } ≡ done → r ≡ Ok d → x ≡ yes_value d.spent → n ≡ states_of L b
      → Turned L b budget list map out (record { row = 0 ∷ d.classes ∷ d.guesses ∷ d.words ∷ d.length ∷ d.joined ∷ d.ceiling ∷ x ∷ []; states = n; length = d.length; guesses = d.guesses }) list' map' out'
  unfolding over row guesses_in map_taken out_taken
  turn_delivered {r} {list'} {map'} {out'} {d} {x} {n} e p hx hn =
      let f : Ok d ≡ done.answer = sym p ∙ ap (λ (z : Reduced). z.answer) e in
      record {
        as_row = ap (λ (z : ℕ). 0 ∷ d.classes ∷ d.guesses ∷ d.words ∷ d.length ∷ d.joined ∷ d.ceiling ∷ z ∷ []) hx ∙ ap row f;
        took_map = hn ∙ sym (readable-states L b (readable_ways (reduce_ways L b budget list map out) f)) ∙ ap (map_taken b) f;
        took_out = ap out_taken f;
        made = ap guesses_in f;
        kept-list = ap (λ (z : Reduced). z.list) e;
        new-map = ap (λ (z : Reduced). z.map) e;
        new-out = ap (λ (z : Reduced). z.out) e;
      }

  pub turn_refused : {r : Result Reduction Refusal} {list' map' out' : List ℕ} {k : Refusal} {x : ℕ}
      → record { answer = r; list = list'; map = map'; out = out' } ≡ done → r ≡ Err k → x ≡ number_of k
      → Turned L b budget list map out (record { row = x ∷ 0 ∷ 0 ∷ 0 ∷ 0 ∷ 0 ∷ 0 ∷ 0 ∷ []; states = 0; length = 0; guesses = 0 }) list' map' out'
  unfolding over row guesses_in map_taken out_taken
  turn_refused {r} {list'} {map'} {out'} {k} {x} e d hx =
      let f : Err k ≡ done.answer = sym d ∙ ap (λ (z : Reduced). z.answer) e in
      record {
        as_row = ap (λ (z : ℕ). z ∷ 0 ∷ 0 ∷ 0 ∷ 0 ∷ 0 ∷ 0 ∷ 0 ∷ []) hx ∙ ap row f;
        took_map = ap (map_taken b) f;
        took_out = ap out_taken f;
        made = ap guesses_in f;
        kept-list = ap (λ (z : Reduced). z.list) e;
        new-map = ap (λ (z : Reduced). z.map) e;
        new-out = ap (λ (z : Reduced). z.out) e;
      }
