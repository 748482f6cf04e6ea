-- All tables in turn: what is still to come of the rows and the buffers, and a law for each way through the loop. Assumes nothing.
use mathlib.Core.Path.{◌≡◌, refl, sym, ap, ◌∙◌, subst}
use mathlib.Core.Bool.{true}
use mathlib.Core.List.{List, [], ◌∷◌, ◌++◌, append_assoc, append-nil}
use Prim.Native.Nat.{ℕ, suc, ◌+◌, ◌-◌, ◌*◌, ◌≤◌, ◌<◌, ◌^◌}
use native.Mathlib.Nat.{suc-mul, mul-le-mul_right}
use native.Mathlib.Numerals.{add-one}
use native.Mathlib.Omega.{arith}
use lib.ListN.{length, get_or, take, drop, replicate, length-append, length-drop, take-append-drop, drop_of_length-le}
use lib.Seq.{paste, drop-cons, drop-drop, take_all, take-append-add, drop-append-add, length-take-le, length-paste, take-paste, drop-paste}
use Rattle.lists.specs.Lists.{concat_map, over, sum}
use Rattle.limits.specs.declared.Limits.{Limits}
use Rattle.refusals.specs.declared.Refusal.{Refusal}
use Rattle.std.specs.Prelude.{Result, Ok, Err}
use Rattle.reduce_spec.specs.Reduce.{Reduced, reduce_of}
use Rattle.reduce_spec.specs.declared.Reduction.{Reduction}
use Rattle.season_spec.specs.Seasons.{row, guesses_in, map_taken, out_taken, Reductions, reductions_from, lengths_fit}
use Rattle.season_spec.proofs.Lone.{leaves}
use Rattle.season.specs.declared.Turn.{Turn}
use Rattle.season.specs.Turns.{Turned, Ran}
use Rattle.season.proofs.Sums.{fitting, sum-next}

-- ---- a row among the values

row-long : (r : Result Reduction Refusal) → length (row r) ≡ 8
unfolding over row
row-long (Ok d) = refl
row-long (Err r) = refl

-- rows laid over a buffer: the first, and the others after it
over_first : (x ys buffer : List ℕ) (n : ℕ) → length x ≡ n → over (x ++ ys) buffer ≡ x ++ over ys (drop n buffer)
unfolding over
over_first x ys buffer n e =
    ap (λ (k : ℕ). (x ++ ys) ++ drop k buffer) (length-append x ys ∙ ap (λ (k : ℕ). k + length ys) e) ∙ append_assoc x ys (drop (n + length ys) buffer) ∙ ap (λ (d : List ℕ). x ++ (ys ++ d)) (sym (drop-drop (length ys) n buffer))

over_none : (buffer : List ℕ) → over [] buffer ≡ buffer
unfolding over
over_none buffer = refl

-- ---- what an earlier table wrote stays, and what it took is passed over

front : (at n : ℕ) (old new : List ℕ) → at ≤ length old → take (at + n) (take at old ++ new) ≡ take at old ++ take n new
front at n old new h = ap (λ (k : ℕ). take (k + n) (take at old ++ new)) (sym (length-take-le at old h)) ∙ take-append-add (take at old) new n

behind : (at n : ℕ) (old new : List ℕ) → at ≤ length old → drop (at + n) (take at old ++ new) ≡ drop n new
behind at n old new h = ap (λ (k : ℕ). drop (k + n) (take at old ++ new)) (sym (length-take-le at old h)) ∙ drop-append-add (take at old) new n

laid : (at k n : ℕ) (old new written whole rest rest' : List ℕ) → at ≤ length old → whole ≡ take at old ++ (take k written ++ rest) → n ≡ k → new ≡ written → rest ≡ rest'
    → whole ≡ take (at + n) (take at old ++ new) ++ rest'
laid at k n old new written whole rest rest' h e f g q =
    let x : take at old ++ take k written ≡ take (at + n) (take at old ++ new) = ap (λ (l : List ℕ). take at old ++ l) (λ j. take (sym f j) (sym g j)) ∙ sym (front at n old new h) in
    e ∙ sym (append_assoc (take at old) (take k written) rest) ∙ (λ j. x j ++ q j)

-- a part of a buffer that was lent to its end, and is back: new
module _ (at : ℕ) (buffer : List ℕ) where
  past : length (drop at buffer) ≤ length buffer - at
  past = omega (arith, length-drop at buffer)

  lent : take (length buffer - at) (drop at buffer) ≡ drop at buffer
  lent = take_all (length buffer - at) (drop at buffer) past

  back : (new : List ℕ) → take at buffer ++ (new ++ drop (length buffer - at) (drop at buffer)) ≡ take at buffer ++ new
  back new = ap (λ (l : List ℕ). take at buffer ++ (new ++ l)) (drop_of_length-le (drop at buffer) past) ∙ ap (λ (l : List ℕ). take at buffer ++ l) (append-nil new)

  -- the buffer is as long as before, and what was taken of the part is in it
  as_long : (new : List ℕ) → at ≤ length buffer → length new ≡ length (drop at buffer) → length (take at buffer ++ new) ≡ length buffer
  as_long new h e = omega (arith, length-append (take at buffer) new, length-take-le at buffer h, e, length-drop at buffer)

  taken_in : (new : List ℕ) (k : ℕ) → at ≤ length buffer → k ≤ length new → at + k ≤ length (take at buffer ++ new)
  taken_in new k h l = omega (arith, length-append (take at buffer) new, length-take-le at buffer h)

module _ (L : Limits) (share : ℕ) (lengths tables list maps out : List ℕ) where
  abbrev all : Reductions
  all = reductions_from L share 0 lengths tables list maps out

  -- what is still to come: the rows, the clause buffer, the maps and the reduced tables of the tables from i on
  abbrev Rest : List ℕ → List ℕ → List ℕ → ℕ → ℕ → ℕ → ℕ → ℕ → Reductions
  Rest list' maps' out' saved at m o i = reductions_from L share saved (drop i lengths) (drop at tables) list' (drop m maps') (drop o out')

  -- before table i: its place in each buffer, and what the guesses saved come to
  pub record Going (values list' maps' out' : List ℕ) (saved at m o i : ℕ) : Type 0 where
    pub within : i ≤ length lengths
    pub few : length lengths ≤ 8
    pub shares : length lengths * share < 2 ^ 64
    pub kept : saved ≤ i * share
    pub tables_left : at + sum (drop i lengths) ≡ length tables
    pub map_in : m ≤ length maps'
    pub out_in : o ≤ length out'
    pub values-long : length values ≡ 64
    pub list-long : length list' ≡ length list
    pub maps-long : length maps' ≡ length maps
    pub out-long : length out' ≡ length out
    pub rows-to : over (concat_map row all.answers) (replicate 64 0) ≡ take (8 * i) values ++ over (concat_map row (Rest list' maps' out' saved at m o i).answers) (drop (8 * i) values)
    pub list-to : all.list ≡ (Rest list' maps' out' saved at m o i).list
    pub maps-to : all.maps ≡ take m maps' ++ (Rest list' maps' out' saved at m o i).maps
    pub out-to : all.out ≡ take o out' ++ (Rest list' maps' out' saved at m o i).out

  pub begin_going : lengths_fit (length tables) lengths ≡ true → length lengths * share < 2 ^ 64 → Going (replicate 64 0) list maps out 0 0 0 0 0
  begin_going e s =
      let f = fitting (length tables) lengths e in
      record {
        within = omega arith;
        few = f.few;
        shares = s;
        kept = omega arith;
        tables_left = omega (arith, f.whole);
        map_in = omega arith;
        out_in = omega arith;
        values-long = refl;
        list-long = refl;
        maps-long = refl;
        out-long = refl;
        rows-to = refl;
        list-to = refl;
        maps-to = refl;
        out-to = refl;
      }

  module _ {values list' maps' out' : List ℕ} {saved at m o i : ℕ} (g : Going values list' maps' out' saved at m o i) where
    -- after the last table
    pub ended : length lengths ≤ i → Ran L share lengths tables list maps out values list' maps' out'
    unfolding reductions_from
    ended h =
        let e : drop i lengths ≡ [] = drop_of_length-le lengths h in
        let r : Rest list' maps' out' saved at m o i ≡ record { answers = []; list = list'; maps = drop m maps'; out = drop o out' } = ap (λ (ns : List ℕ). reductions_from L share saved ns (drop at tables) list' (drop m maps') (drop o out')) e in
        record {
          rows = sym (g.rows-to ∙ ap (λ (z : Reductions). take (8 * i) values ++ over (concat_map row z.answers) (drop (8 * i) values)) r ∙ ap (λ (l : List ℕ). take (8 * i) values ++ l) (over_none (drop (8 * i) values)) ∙ take-append-drop (8 * i) values);
          kept-list = sym (g.list-to ∙ ap (λ (z : Reductions). z.list) r);
          new-maps = sym (g.maps-to ∙ ap (λ (z : Reductions). take m maps' ++ z.maps) r ∙ take-append-drop m maps');
          new-out = sym (g.out-to ∙ ap (λ (z : Reductions). take o out' ++ z.out) r ∙ take-append-drop o out');
        }

    module _ (h : i < length lengths) where
      abbrev n : ℕ
      n = get_or lengths i 0

      -- its shares so far fit 64 bits
      pub allowed_fits : share + saved < 2 ^ 64
      allowed_fits = omega (arith, g.kept, g.shares, suc-mul i share, mul-le-mul_right {m = suc i} {n = length lengths} share h)

      -- its bytes are in the buffer
      pub table_in : at + n ≤ length tables
      table_in = omega (arith, g.tables_left, sum-next lengths i h)

      abbrev b : List ℕ
      b = take n (drop at tables)

      abbrev r : Reduced
      r = reduce_of L b (share + saved) list' (drop m maps') (drop o out')

      abbrev later : Reductions
      later = reductions_from L share (share + saved - guesses_in r.answer) (drop (suc i) lengths) (drop n (drop at tables)) r.list (drop (map_taken b r.answer) r.map) (drop (out_taken r.answer) r.out)

      first : Rest list' maps' out' saved at m o i ≡ record { answers = r.answer ∷ later.answers; list = later.list; maps = take (map_taken b r.answer) r.map ++ later.maps; out = take (out_taken r.answer) r.out ++ later.out }
      unfolding reductions_from
      first = ap (λ (ns : List ℕ). reductions_from L share saved ns (drop at tables) list' (drop m maps') (drop o out')) (drop-cons lengths i 0 h)

      -- the turn, over the parts that were lent to the ends of their buffers
      pub of_parts :
          {turn : Turn} {list'' map'' out'' : List ℕ}
          → Turned L (take (at + n - at) (drop at tables)) (share + saved) list' (take (length maps' - m) (drop m maps')) (take (length out' - o) (drop o out')) turn list'' map'' out''
          → Turned L b (share + saved) list' (drop m maps') (drop o out') turn list'' map'' out''
      of_parts {turn} {list''} {map''} {out''} t =
          let e : at + n - at ≡ n = omega arith in
          subst (λ x. x) (λ j. Turned L (take (e j) (drop at tables)) (share + saved) list' (lent m maps' j) (lent o out' j) turn list'' map'' out'') t

      module _ {turn : Turn} {list'' map'' out'' : List ℕ} (t : Turned L b (share + saved) list' (drop m maps') (drop o out') turn list'' map'' out'') where
        -- a table makes no more guesses than it may
        pub guesses_in_lem : turn.guesses ≤ share + saved
        guesses_in_lem = omega (arith, t.made, (leaves L b (share + saved) list' (drop m maps') (drop o out')).guesses)

        pub turn_row_long : length turn.row ≡ 8
        turn_row_long = ap length t.as_row ∙ row-long r.answer

        map-taken : turn.states ≤ length map''
        map-taken = omega (arith, t.took_map, ap length t.new-map, (leaves L b (share + saved) list' (drop m maps') (drop o out')).map-fits)

        out-taken : turn.length ≤ length out''
        out-taken = omega (arith, t.took_out, ap length t.new-out, (leaves L b (share + saved) list' (drop m maps') (drop o out')).out-fits)

        -- what it took of the maps and of the reduced tables was there
        pub map-room : length map'' ≡ length (take (length maps' - m) (drop m maps')) → m + turn.states ≤ length maps'
        map-room e = omega (arith, taken_in m maps' map'' turn.states g.map_in map-taken, as_long m maps' map'' g.map_in (e ∙ ap length (lent m maps')))

        pub out-room : length out'' ≡ length (take (length out' - o) (drop o out')) → o + turn.length ≤ length out'
        out-room e = omega (arith, taken_in o out' out'' turn.length g.out_in out-taken, as_long o out' out'' g.out_in (e ∙ ap length (lent o out')))

        abbrev then : Reductions
        then = Rest list'' (take m maps' ++ map'') (take o out' ++ out'') (share + saved - turn.guesses) (at + n) (m + turn.states) (o + turn.length) (i + 1)

        same : later ≡ then
        same =
            let a = t.made in
            let d : drop (suc i) lengths ≡ drop (i + 1) lengths = ap (λ (k : ℕ). drop k lengths) (sym (add-one i)) in
            let x = drop-drop n at tables in
            let p : drop (map_taken b r.answer) r.map ≡ drop (m + turn.states) (take m maps' ++ map'') = sym (behind m turn.states maps' map'' g.map_in ∙ (λ j. drop (t.took_map j) (t.new-map j))) in
            let q : drop (out_taken r.answer) r.out ≡ drop (o + turn.length) (take o out' ++ out'') = sym (behind o turn.length out' out'' g.out_in ∙ (λ j. drop (t.took_out j) (t.new-out j))) in
            λ j. reductions_from L share (share + saved - sym a j) (d j) (x j) (sym t.kept-list j) (p j) (q j)

        next : {values' : List ℕ} → values' ≡ paste values (8 * i) turn.row 8 → length list'' ≡ length list' → length map'' ≡ length (drop m maps') → length out'' ≡ length (drop o out')
            → Going values' list'' (take m maps' ++ map'') (take o out' ++ out'') (share + saved - turn.guesses) (at + n) (m + turn.states) (o + turn.length) (i + 1)
        next {values'} e ll lm lo =
            let w = turn.row in
            let long : length w ≡ 8 = turn_row_long in
            let room : 8 * i + 8 ≤ length values = omega (arith, g.few, g.values-long, h) in
            let k : 8 * (i + 1) ≡ 8 * i + 8 = omega arith in
            let before : 8 * i ≤ length values = omega (arith, room) in
            let whole : 8 ≤ length w = omega (arith, long) in
            let x : take (8 * i) values ++ row r.answer ≡ take (8 * (i + 1)) values' =
            ap (λ (l : List ℕ). take (8 * i) values ++ l) (sym t.as_row ∙ sym (take_all 8 w (omega (arith, long)))) ∙ sym (take-paste values (8 * i) w 8 before whole) ∙ (λ j. take (sym k j) (sym e j)) in
            let y : drop 8 (drop (8 * i) values) ≡ drop (8 * (i + 1)) values' = drop-drop 8 (8 * i) values ∙ sym (drop-paste values (8 * i) w 8 before whole) ∙ (λ j. drop (sym k j) (sym e j)) in
            record {
              within = omega (arith, h);
              few = g.few;
              shares = g.shares;
              kept = omega (arith, g.kept, suc-mul i share);
              tables_left = omega (arith, g.tables_left, sum-next lengths i h);
              map_in = taken_in m maps' map'' turn.states g.map_in map-taken;
              out_in = taken_in o out' out'' turn.length g.out_in out-taken;
              values-long = ap length e ∙ length-paste values (8 * i) w 8 room whole ∙ g.values-long;
              list-long = ll ∙ g.list-long;
              maps-long = as_long m maps' map'' g.map_in lm ∙ g.maps-long;
              out-long = as_long o out' out'' g.out_in lo ∙ g.out-long;
              rows-to =
                  g.rows-to
                  ∙ ap (λ (z : Reductions). take (8 * i) values ++ over (concat_map row z.answers) (drop (8 * i) values)) first
                  ∙ ap (λ (l : List ℕ). take (8 * i) values ++ l) (over_first (row r.answer) (concat_map row later.answers) (drop (8 * i) values) 8 (row-long r.answer))
                  ∙ sym (append_assoc (take (8 * i) values) (row r.answer) (over (concat_map row later.answers) (drop 8 (drop (8 * i) values))))
                  ∙ (λ j. x j ++ over (concat_map row (same j).answers) (y j));
              list-to = g.list-to ∙ ap (λ (z : Reductions). z.list) first ∙ ap (λ (z : Reductions). z.list) same;
              maps-to = laid m (map_taken b r.answer) turn.states maps' map'' r.map all.maps later.maps then.maps g.map_in (g.maps-to ∙ ap (λ (z : Reductions). take m maps' ++ z.maps) first) t.took_map t.new-map (ap (λ (z : Reductions). z.maps) same);
              out-to = laid o (out_taken r.answer) turn.length out' out'' r.out all.out later.out then.out g.out_in (g.out-to ∙ ap (λ (z : Reductions). take o out' ++ z.out) first) t.took_out t.new-out (ap (λ (z : Reductions). z.out) same);
            }

        -- the same, where the parts are back
        pub next-back :
            {values' : List ℕ} → values' ≡ paste values (8 * i) turn.row 8 → length list'' ≡ length list'
            → length map'' ≡ length (take (length maps' - m) (drop m maps')) → length out'' ≡ length (take (length out' - o) (drop o out'))
            → Going values' list'' (take m maps' ++ (map'' ++ drop (length maps' - m) (drop m maps'))) (take o out' ++ (out'' ++ drop (length out' - o) (drop o out'))) (share + saved - turn.guesses) (at + n) (m + turn.states) (o + turn.length) (i + 1)
        next-back {values'} e ll lm lo =
            subst (λ x. x) (λ j. Going values' list'' (sym (back m maps' map'') j) (sym (back o out' out'') j) (share + saved - turn.guesses) (at + n) (m + turn.states) (o + turn.length) (i + 1))
            (next e ll (lm ∙ ap length (lent m maps')) (lo ∙ ap length (lent o out')))
