-- A session that is open is in one of the sixteen slots.
use Rattle.std.proofs.Common.{◌≡◌, ◌<◌, ◌≤◌, arith, ℕ, zero, suc, Bool, true, false, [], ◌∷◌, Option, None, Some, length}
use Rattle.std.specs.Prelude.{◌==◌}
use Rattle.std.proofs.lemmas.Bool.{and_parts}
use Rattle.ec_sessions.specs.Slots as slots
use Rattle.ec_sessions.specs.declared.slot.Slot.{Slot}
use Rattle.ec_durable.specs.Durable.{is_session}
use Rattle.ec_admission.specs.Clerks.{IsOpenIn, is_last}

within : (table : slots.Slots) (k s : ℕ) → is_session s (slots.slot_at table k) ≡ true → k < length table
within [] k s p = absurd cc
within (o ∷ table) zero s p = omega arith
within (o ∷ table) (suc k) s p = omega (arith, within table k s p)

last_of : (s : ℕ) (o : Option Slot) → is_session s o ≡ true → is_last s o ≡ true
last_of s None p = absurd cc
last_of s (Some sl) p = (and_parts sl.is_open (sl.session == s) p).1

pub no_clerk : (table : slots.Slots) (s n : ℕ) → length table ≡ 16 → 16 ≤ n → ((k : ℕ) → k < n → is_last s (slots.slot_at table k) ≡ false) → IsOpenIn table s → ⊥
no_clerk table s n whole h none p =
    let inside : p.0 < n = omega (arith, within table p.0 s p.1, whole) in
    both (is_last s (slots.slot_at table p.0)) (last_of s (slots.slot_at table p.0) p.1) (none p.0 inside)
  where
    both : (b : Bool) → b ≡ true → b ≡ false → ⊥
    both b p q = absurd cc
