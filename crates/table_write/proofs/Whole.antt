-- The bytes of a table whose records are given by their keys, section after section, and what stands after each. Assumes nothing.
use mathlib.Core.Path.{◌≡◌, refl, sym, ap, ◌∙◌}
use mathlib.Core.List.Memᴰ
use mathlib.Core.List.{List, [], ◌∷◌, ◌++◌, append_assoc, map, Memᴰ}
use Prim.Native.Nat.{ℕ, ◌+◌, ◌*◌, ◌≤◌}
use native.Mathlib.Nat.{mul-zero, mul-suc}
use native.Mathlib.Omega.{arith}
use lib.ListN.{length, length-append, length-map}
use Rattle.lists.specs.Lists.{concat, concat_map}
use Rattle.table_spec.specs.File.{Table, bytes16, from_returns, from_calls, from_internals, from_states, from_symbols, trailer_of, bytes_of}
use Rattle.table_spec.proofs.Passed.{Wide}
use Rattle.table_spec.proofs.Bytes.{lengths}
use Rattle.table_write.specs.Keys.{record_of}
use Rattle.table_write.specs.Tables.{keyed_table, trailer_from}
use Rattle.table_write.proofs.Keys.{length_last}

concat_map-concat : (f : ℕ → List ℕ) (ks : List ℕ) → concat_map f ks ≡ concat (map f ks)
concat_map-concat f [] = refl
concat_map-concat f (k ∷ ks) = ap (λ xs. f k ++ xs) (concat_map-concat f ks)

pub concat_map-long : (w : ℕ) (f : ℕ → List ℕ) → ((k : ℕ) → length (f k) ≡ w) → (ks : List ℕ) → length (concat_map f ks) ≡ w * length ks
concat_map-long w f h [] = sym (mul-zero w)
concat_map-long w f h (k ∷ ks) = omega (arith, length-append (f k) (concat_map f ks), h k, concat_map-long w f h ks, mul-suc w (length ks))

regroup : (a b c d e f : List ℕ) → (a ++ (b ++ (c ++ (d ++ e)))) ++ f ≡ a ++ (b ++ (c ++ (d ++ (e ++ f))))
regroup a b c d e f = simp append_assoc

-- ---- what stands after each section

module _ (v : ℕ) (y s i c r : List ℕ) where
  abbrev pub behind_returns : List ℕ
  behind_returns = trailer_from v (length y) (length s) (length i) (length c) (length r)

  abbrev pub behind_calls : List ℕ
  behind_calls = concat_map (record_of 4) r ++ behind_returns

  abbrev pub behind_internals : List ℕ
  behind_internals = concat_map (record_of 3) c ++ behind_calls

  abbrev pub behind_states : List ℕ
  behind_states = concat_map (record_of 3) i ++ behind_internals

  abbrev pub behind_symbols : List ℕ
  behind_symbols = s ++ behind_states

  abbrev keyed : Table
  keyed = keyed_table v y s i c r

  keyed_wide : Wide keyed
  keyed_wide = record { internals = wide 3 (omega arith) i; calls = wide 3 (omega arith) c; returns = wide 4 (omega arith) r }
    where
      wide : (w : ℕ) → w ≤ 4 → (ks : List ℕ) (x : List ℕ) → Memᴰ x (map (record_of w) ks) → length x ≡ w
      wide w h ks x m = let k = Memᴰ.of_map (record_of w) ks m in sym (ap length k.2) ∙ length_last w k.0 h

  trailer-again : trailer_of keyed ≡ behind_returns
  unfolding trailer_of trailer_from
  trailer-again =
      let n = lengths keyed keyed_wide in
      let i' = length-map i (record_of 3) in
      let c' = length-map c (record_of 3) in
      let r' = length-map r (record_of 4) in
      let e4 : length (from_returns keyed) ≡ 4 * length r = omega arith in
      let e3 : length (from_calls keyed) ≡ 3 * length c + 4 * length r = omega arith in
      let e2 : length (from_internals keyed) ≡ 3 * length i + (3 * length c + 4 * length r) = omega arith in
      let e1 : length (from_states keyed) ≡ length s + (3 * length i + (3 * length c + 4 * length r)) = omega arith in
      let e0 : length (from_symbols keyed) ≡ length y + (length s + (3 * length i + (3 * length c + 4 * length r))) = omega arith in
      λ j. concat_map bytes16 (e0 j ∷ e1 j ∷ e2 j ∷ e3 j ∷ e4 j ∷ v ∷ [])

  pub bytes_apart : bytes_of keyed ≡ y ++ behind_symbols
  unfolding bytes_of from_symbols from_states from_internals from_calls from_returns
  bytes_apart =
      (λ j. (y ++ (s ++ (sym (concat_map-concat (record_of 3) i) j ++ (sym (concat_map-concat (record_of 3) c) j ++ sym (concat_map-concat (record_of 4) r) j)))) ++ trailer-again j)
      ∙ regroup y s (concat_map (record_of 3) i) (concat_map (record_of 3) c) (concat_map (record_of 4) r) behind_returns

  pub length-trailer : length behind_returns ≡ 12
  unfolding trailer_from bytes16
  length-trailer = refl

  pub bytes-long : length (bytes_of keyed) ≡ length y + length s + 3 * length i + 3 * length c + 4 * length r + 12
  bytes-long = omega (arith, lengths keyed keyed_wide, length-map i (record_of 3), length-map c (record_of 3), length-map r (record_of 4))
