-- One step of the draw: the product and the sum, each modulo 2 to the 32. Assumes nothing.
use Rattle.std.proofs.Common.{◌≡◌, ℕ, ◌+◌, ◌*◌, ◌%◌, ◌^◌, ap, ◌∙◌}
use native.Mathlib.Nat.{mod-add-mod}
use Rattle.generate_spec.specs.Loads.{draw}

pub stepped : (s : ℕ) {m r : ℕ} → m ≡ s * 1664525 % 2 ^ 32 → r ≡ (m + 1013904223) % 2 ^ 32 → r ≡ draw s
unfolding draw
stepped s e f = f ∙ ap (λ x. (x + 1013904223) % 2 ^ 32) e ∙ mod-add-mod (s * 1664525) (2 ^ 32) 1013904223
