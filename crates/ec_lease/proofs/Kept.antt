-- Messages that are kept from held clerks.
use Rattle.std.proofs.Common.{◌≡◌, ◌≤◌, ◌<◌, ◌+◌, ◌&&◌, ◌||◌, ℕ, Bool, true, false, cond, zero, suc, not, ◌==◌, List, [], ◌∷◌, Some, refl, sym, ap, ◌∙◌, arith}
use Rattle.std.specs.Prelude.{filter}
use Rattle.ec_base.proofs.Numbers.{equal}
use Rattle.ec_sessions.specs.Slots.{run}
use Rattle.ec_volume.specs.Update.{member}
use Rattle.ec_lease_machine.specs.Leases.{held, is_held}
use Rattle.ec_lease_machine.specs.declared.world.LeaseWorld.{LeaseWorld}
use Rattle.ec_protocol.specs.OfPool.Goings.{is_kept_from}
use Rattle.ec_wire.specs.Messages.{same_kind}
use Rattle.ec_wire.specs.declared.msg.MsgKind.{MsgKind}
use Rattle.ec_wire.specs.declared.msg.MsgKind.TheVariants as of_kind
use Rattle.ec_protocol.specs.World.{clerks}

wrong : {A : Type 0} → true ≡ false → A
wrong e = absurd (never e)
  where
    never : true ≡ false → ⊥
    never e = cc

in-run : (c first n : ℕ) → first ≤ c → c < first + n → member c (run first n) ≡ true
in-run c first zero l m = absurd (omega (arith, l, m))
in-run c first (suc n) l m = by (c == first) refl (λ a b. in-run c (first + 1) n a b)
  where
    above : (c first : ℕ) → first ≤ c → (c == first) ≡ false → first + 1 ≤ c
    above c first l e = grind (arith, l, e)

    below : (c first n : ℕ) → c < first + suc n → c < (first + 1) + n
    below c first n m = omega (arith, m)

    by : (z : Bool) → (c == first) ≡ z → (first + 1 ≤ c → c < (first + 1) + n → member c (run (first + 1) n) ≡ true) → (z || member c (run (first + 1) n)) ≡ true
    by true e more = refl
    by false e more = more (above c first l e) (below c first n m)

passes : (p : ℕ → Bool) (c : ℕ) (xs : List ℕ) → p c ≡ true → member c xs ≡ true → member c (filter p xs) ≡ true
passes p c [] holds m = m
passes p c (x ∷ xs) holds m = by (c == x) refl (p x) refl m (passes p c xs holds)
  where
    by : (z : Bool) → (c == x) ≡ z → (y : Bool) → p x ≡ y → (z || member c xs) ≡ true → (member c xs ≡ true → member c (filter p xs) ≡ true) → member c (cond y (x ∷ filter p xs) (filter p xs)) ≡ true
    by true e true q i more = ap (λ b. b || member c (filter p xs)) e
    by true e false q i more = wrong (sym holds ∙ ap p (equal c x e) ∙ q)
    by false e true q i more = ap (λ b. b || member c (filter p xs)) e ∙ more i
    by false e false q i more = more i

fails : (p : ℕ → Bool) (c : ℕ) (xs : List ℕ) → p c ≡ false → member c (filter p xs) ≡ false
fails p c [] other = refl
fails p c (x ∷ xs) other = by (c == x) refl (p x) refl (fails p c xs other)
  where
    by : (z : Bool) → (c == x) ≡ z → (y : Bool) → p x ≡ y → member c (filter p xs) ≡ false → member c (cond y (x ∷ filter p xs) (filter p xs)) ≡ false
    by true e true q more = wrong (sym q ∙ sym (ap p (equal c x e)) ∙ other)
    by true e false q more = more
    by false e true q more = ap (λ b. b || member c (filter p xs)) e ∙ more
    by false e false q more = more

-- a clerk is among those that pass a test where it passes it
pub among : (p : ℕ → Bool) (c : ℕ) → c < 16 → member c (filter p clerks) ≡ p c
among p c within = by (p c) refl
  where
    by : (b : Bool) → p c ≡ b → member c (filter p clerks) ≡ b
    by true holds = passes p c clerks holds (in-run c 0 16 (omega arith) within)
    by false other = fails p c clerks other

-- an Ended alone is of its kind
pub no_ended : (k : MsgKind) → (k ≡ of_kind.Ended → ⊥) → false ≡ same_kind k of_kind.Ended
no_ended of_kind.Hello other = refl
no_ended of_kind.Want other = refl
no_ended of_kind.Back other = refl
no_ended of_kind.Flush other = refl
no_ended of_kind.Room other = refl
no_ended of_kind.Claim other = refl
no_ended of_kind.Bye other = refl
no_ended of_kind.Opened other = refl
no_ended of_kind.Grant other = refl
no_ended of_kind.Recall other = refl
no_ended of_kind.Kept other = refl
no_ended of_kind.Ids other = refl
no_ended of_kind.NoRoom other = refl
no_ended of_kind.Ended other = absurd (other refl)
no_ended of_kind.Restarted other = refl
no_ended of_kind.OldBoot other = refl

-- a message of another kind is kept from a held clerk
pub kept_by : (k : MsgKind) (c : ℕ) (x : LeaseWorld) (ended_with held_now : Bool) → c < 16 → ended_with ≡ same_kind k of_kind.Ended → ended_with ≡ false → held_now ≡ is_held c x → held_now ≡ is_kept_from (held x) (Some (c, k))
kept_by k c x ended_with held_now within is other at = at ∙ sym (among (λ c. is_held c x) c within) ∙ ap (λ e. not e && member c (held x)) (sym other ∙ is)
