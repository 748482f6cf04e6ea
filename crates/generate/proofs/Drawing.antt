-- The draws: the walk that collects what is present of possible records. Assumes nothing.
use Rattle.std.proofs.Common.{◌≡◌, ℕ, ◌+◌, ◌/◌, ◌<◌, ◌≤◌, List, [], ◌∷◌, ◌++◌, length, get_or, take, drop, set, sym, refl, ap, ◌∙◌, subst, append-nil, add-one, arith, length-append, length-set, drop_of_length-le, length-take-le, drop-cons, take-suc-set}
use lib.ListN.{length-map}
use lib.Seq.{append_snoc, take_at}
use Rattle.table_find.specs.Keys.{key}
use Rattle.table_write.specs.Keys.{keys_of}
use Rattle.generate_spec.specs.Loads.{draw, present, after}
use Rattle.generate_spec.proofs.Present.{present_in, present-out}
use Rattle.generate.specs.Draws.{record_at, Drew, Overfull}

-- ---- the walk that collects the keys

-- after `next` records: the keys held are those of the records present so far, and the rest is drawn from s on
pub record Collecting (d s₀ : ℕ) (rs : List (List ℕ)) (room : ℕ) (keys : List ℕ) (s count next : ℕ) : Type 0 where
  pub inside : next ≤ length rs
  pub same-room : length keys ≡ room
  pub few : count ≤ length keys
  pub listed : keys_of (present d s₀ rs) ≡ take count keys ++ keys_of (present d s (drop next rs))
  pub seeded : after s₀ rs ≡ after s (drop next rs)

pub collecting : (d s : ℕ) (rs : List (List ℕ)) (keys : List ℕ) → Collecting d s rs (length keys) keys s 0 0
collecting d s rs keys = record { inside = omega arith; same-room = refl; few = omega arith; listed = refl; seeded = refl }

module _ {d s₀ : ℕ} {rs : List (List ℕ)} {room : ℕ} {keys : List ℕ} {s count next : ℕ} (w : Collecting d s₀ rs room keys s count next) where
  module _ (h : next < length rs) {t : ℕ} (e : t ≡ draw s) where
    split : drop next rs ≡ get_or rs next [] ∷ drop (next + 1) rs
    split = drop-cons rs next [] h ∙ ap (λ n. get_or rs next [] ∷ drop n rs) (sym (add-one next))

    seeds : after s₀ rs ≡ after t (drop (next + 1) rs)
    unfolding after
    seeds = w.seeded ∙ rw (split, e)

    pub passed_over : d ≤ t / 65536 → Collecting d s₀ rs room keys t count (next + 1)
    passed_over k = record {
      inside = omega arith;
      same-room = w.same-room;
      few = w.few;
      listed = w.listed ∙ ap (λ xs. take count keys ++ keys_of xs) (ap (present d s) split ∙ present-out d s (get_or rs next []) (drop (next + 1) rs) (subst (λ (x : ℕ). d ≤ x / 65536) e k) ∙ ap (λ x. present d x (drop (next + 1) rs)) (sym e));
      seeded = seeds;
    }

    module _ (k : t / 65536 < d) where
      there : keys_of (present d s₀ rs) ≡ take count keys ++ record_at rs next ∷ keys_of (present d t (drop (next + 1) rs))
      unfolding record_at
      there = w.listed ∙ ap (λ xs. take count keys ++ keys_of xs) (ap (present d s) split ∙ present_in d s (get_or rs next []) (drop (next + 1) rs) (subst (λ (x : ℕ). x / 65536 < d) e k) ∙ ap (λ x. get_or rs next [] ∷ present d x (drop (next + 1) rs)) (sym e))

      pub taken : count < length keys → {x : ℕ} → x ≡ record_at rs next → Collecting d s₀ rs room (set keys count x) t (count + 1) (next + 1)
      taken l {x} f = record {
        inside = omega arith;
        same-room = length-set keys count x ∙ w.same-room;
        few = omega (arith, length-set keys count x);
        listed = there ∙ sym (append_snoc (take count keys) (record_at rs next) (keys_of (present d t (drop (next + 1) rs)))) ∙ ap (λ xs. xs ++ keys_of (present d t (drop (next + 1) rs))) (sym (ap (λ n. take n (set keys count x)) (add-one count) ∙ take-suc-set keys count x l ∙ ap (λ y. take count keys ++ (y ∷ [])) f));
        seeded = seeds;
      }

      -- one more than there is room for
      over-many : count ≡ length keys → room < length (present d s₀ rs)
      over-many l = omega (arith, sym (length-map (present d s₀ rs) key) ∙ ap length there ∙ length-append (take count keys) (record_at rs next ∷ keys_of (present d t (drop (next + 1) rs))), length-take-le count keys w.few, w.same-room)

      -- and the first of them, as many as there is room for, are held
      over-first : count ≡ length keys → take room (keys_of (present d s₀ rs)) ≡ take count keys
      over-first l = ap (take room) there ∙ take_at (take count keys) (record_at rs next ∷ keys_of (present d t (drop (next + 1) rs))) room (length-take-le count keys w.few ∙ l ∙ w.same-room)

      pub over-full : count ≡ length keys → Overfull d s₀ rs room keys
      over-full l =
          let n : room ≡ count = sym (l ∙ w.same-room) in
          let long = ap length (over-first l) ∙ length-take-le count keys w.few in
          record { many = over-many l; holds = record { count = n ∙ sym long; same = ap (λ k. take k keys) n ∙ sym (over-first l) } }

  pub all_drawn : length rs ≤ next → Drew d s₀ rs room (record { count = count; s = s }) keys
  unfolding present after
  all_drawn h = record {
    few = omega (arith, counted, length-map (present d s₀ rs) key, w.same-room, w.few);
    holds = record { count = counted; same = sym listed };
    last = sym (w.seeded ∙ ap (after s) done);
  }
    where
      done : drop next rs ≡ []
      done = drop_of_length-le rs {i = next} h

      listed : keys_of (present d s₀ rs) ≡ take count keys
      listed = w.listed ∙ ap (λ xs. take count keys ++ keys_of (present d s xs)) done ∙ append-nil (take count keys)

      counted : count ≡ length (keys_of (present d s₀ rs))
      counted = sym (ap length listed ∙ length-take-le count keys w.few)
