-- Where a clerk asks for ids the volume isn't full: all ids that were given out are of objects that were asked for, or in store.
use Rattle.std.proofs.Common.{◌≡◌, refl, sym, ap, ◌∙◌, subst, arith, ◌≤◌, ◌<◌, ◌+◌, ◌*◌, ℕ, zero, suc, T, Bool, true, false, ◌==◌, ◌||◌, List, [], ◌∷◌, ◌++◌, length, length-append}
use Rattle.std.specs.Prelude.{Option, None, Some, is_some, nat_lt}
use Rattle.std.specs.List.{list_all}
use Rattle.std.proofs.lemmas.Bool.{eqb-true}
use Rattle.std.proofs.lemmas.Bool.Decides.{nat_tests}
use Rattle.ec_base.specs.Tables.{at, keys, once}
use Rattle.ec_volume.specs.Update.{member}
use Rattle.ec_sessions.specs.Slots.{Slots, all_unspent, open_count, reserved, unspent_of}
use Rattle.ec_sessions.specs.declared.slot.Slot.{Slot}
use Rattle.ec_durable.specs.Durable.{is_full, slot}
use Rattle.ec_durable.specs.Durable as durable
use Rattle.ec_durable.specs.WellFormed.{IsInOrder}
use Rattle.ec_durable.specs.declared.state.Durable.{Durable}
use Rattle.ec_machine_laws.proofs.Once.{fewer, keys-length}
use Rattle.ec_protocol.specs.declared.clerk.Clerk.{Clerk}
use Rattle.ec_coherence.proofs.ForServer.Tables.{same_some}
use Rattle.ec_quiet.specs.Phases.{InPhase, Asks}
use Rattle.ec_quiet.specs.Scenes.{Scene}
use Rattle.ec_quiet.specs.Works.{Calls, HasTask, Pushes, Task, Work}
use Rattle.ec_complete.proofs.ForLines.Pinned.{once-each}
use Rattle.ec_complete.proofs.ForLines.Standing.{other}
use Rattle.ec_complete.specs.Spare.{granted_below, open_grants}
use Rattle.ec_complete.specs.Rooms.{makes_in}
use Rattle.ec_complete.specs.ScriptRooms.{AskingsFindRoom, HasStock, sum_below}
use Rattle.ec_complete.proofs.Sums.{less-one, members-few, once-in, sum-both, sum-less, sum-times}
use Rattle.ec_base.specs.Bools.{one_if}
use Rattle.ec_base.proofs.Bools.{left as and_first, right as and_next, is-true}
use Rattle.ec_base.proofs.Numbers.{equal}

-- Ids are below the next one.

abbrev pub numbers : ℕ → List ℕ
numbers zero = []
numbers (suc n) = n ∷ numbers n

pub numbers-long : (n : ℕ) → length (numbers n) ≡ n
numbers-long zero = refl
numbers-long (suc n) = ap suc (numbers-long n)

pub below-in : (n x : ℕ) → x < n → T (member x (numbers n))
below-in zero x l = absurd (omega (arith, l))
below-in (suc n) x l = go (x == n) refl (below-in n x)
  where
    less : (x n : ℕ) → (x == n) ≡ false → x < suc n → x < n
    less x n e l = grind (arith, e, l)

    go : (b : Bool) → (x == n) ≡ b → (x < n → T (member x (numbers n))) → T ((x == n) || member x (numbers n))
    go true e r = subst (λ b. T (b || member x (numbers n))) (sym e) tt
    go false e r = subst (λ b. T (b || member x (numbers n))) (sym e) (r (less x n e l))

each-below : (n : ℕ) (xs : List ℕ) → T (list_all (λ o. nat_lt o n) xs) → (x : ℕ) → T (member x xs) → x < n
each-below n [] t x m = absurd m
each-below n (y ∷ ys) t x m = go (x == y) refl m (each-below n ys (and_next (nat_lt y n) (list_all (λ o. nat_lt o n) ys) t) x)
  where
    under : (a b : ℕ) → T (nat_lt a b) → a < b
    under a b t = grind (arith, nat_tests, is-true (nat_lt a b) t)

    go : (b : Bool) → (x == y) ≡ b → T (b || member x ys) → (T (member x ys) → x < n) → x < n
    go true e m r = subst (λ z. z < n) (sym (eqb-true x y e)) (under y n (and_first (nat_lt y n) (list_all (λ o. nat_lt o n) ys) t))
    go false e m r = r m

counts-few : (s : Option Slot) → open_count s ≤ length (unspent_of s)
counts-few None = omega arith
counts-few (Some sl) = go sl.is_open
  where
    go : (b : Bool) → Rattle.std.proofs.Common.cond b (length sl.unspent) 0 ≤ length sl.unspent
    go true = omega arith
    go false = omega arith

reserved-few : (ss : Slots) → reserved ss ≤ length (all_unspent ss)
reserved-few [] = omega arith
reserved-few (s ∷ ss) = omega (arith, counts-few s, reserved-few ss, length-append (unspent_of s) (all_unspent ss))

pub stored-below : (d : Durable) → IsInOrder d → durable.live d + durable.reserved d ≤ d.next_id
stored-below d o = few (length d.volume) (length (keys d.volume)) (length (all_unspent d.sessions)) (length (keys d.volume ++ all_unspent d.sessions)) (reserved d.sessions) (length (numbers d.next_id)) d.next_id
    (keys-length d.volume) (length-append (keys d.volume) (all_unspent d.sessions)) (reserved-few d.sessions)
    (fewer (keys d.volume ++ all_unspent d.sessions) (numbers d.next_id) (once-each (keys d.volume ++ all_unspent d.sessions) o.ids) (λ x m. below-in d.next_id x (each-below d.next_id (keys d.volume ++ all_unspent d.sessions) o.below x m)))
    (numbers-long d.next_id)
  where
    few : (vs ks us both res ns next : ℕ) → ks ≡ vs → both ≡ ks + us → res ≤ us → both ≤ ns → ns ≡ next → vs + res ≤ next
    few vs ks us both res ns next a b c d e = omega (arith, a, b, c, d, e)

module _ (names callers : List ℕ) (makes : ℕ → ℕ) (j : Work) (sc : Scene) (again : Bool) (got ask : ℕ) (ip : InPhase j sc (Asks again got ask)) (s : HasStock names callers makes sc) where
  -- what a clerk may have been given
  most-of : ℕ → ℕ
  most-of c = makes c + 16 * one_if (member c (once names))

  abbrev own : ℕ → ℕ
  own c = 16 * open_grants (slot sc.server.durable c) + 17 * one_if (c == j.clerk)

  names-it : (c : ℕ) (k : Clerk) → at c sc.clerks ≡ Some k → one_if (member c (once names)) ≡ 1
  names-it c k e = ap one_if (is-true (member c (once names)) (once-in c names (s.named c k e)))

  -- another clerk
  others : (c : ℕ) (sl : Slot) → (c == j.clerk) ≡ false → slot sc.server.durable c ≡ Some sl → sl.is_open ≡ true → 16 * sl.grants ≤ most-of c
  unfolding most-of
  others c sl n here opened = go (at c sc.clerks) refl (ip.orderly.run c sl here opened)
    where
      few : (grants got makes-in ids makes one : ℕ) → grants ≡ got → 16 * got + makes-in ≤ ids + makes → ids ≤ 16 → one ≡ 1 → 16 * grants ≤ makes + 16 * one
      few grants got makes-in ids makes one a b c d = omega (arith, a, b, c, d)

      go : (o : Option Clerk) → at c sc.clerks ≡ o → T (is_some o) → 16 * sl.grants ≤ makes c + 16 * one_if (member c (once names))
      go None e t = absurd t
      go (Some k) e t =
          let o = other j sc (Asks again got ask) ip c k n e in
          let k-stock = s.clerks c k e in
          few sl.grants k.got (makes_in k.waiting) (length k.ids) (makes c) (one_if (member c (once names))) (ap (λ z. z.grants) (same_some (sym here ∙ o.here)) ∙ o.grants) k-stock.ids k-stock.few (names-it c k e)

  -- the one who asks has none in store, and its call is to take one
  asking : (sl : Slot) → slot sc.server.durable j.clerk ≡ Some sl → 16 * sl.grants + 17 ≤ most-of j.clerk
  unfolding most-of
  asking sl here =
      let f = ip.facts.1 in
      let k-stock = s.clerks j.clerk f.clerk f.working.there in
      few sl.grants f.clerk.got (makes_in f.clerk.waiting) (length f.clerk.ids) (makes j.clerk) (one_if (member j.clerk (once names)))
      (ap (λ z. z.grants) (same_some (sym here ∙ f.working.inside.there)) ∙ ip.facts.3 ∙ ip.facts.2) k-stock.ids (ap length f.ids) (k-stock.asks ask f.asking) (waits j.task f.clerk f.task f.makes) (names-it j.clerk f.clerk f.working.there)
    where
      few : (grants got makes-in ids makes one : ℕ) → {waiting : ℕ} → grants ≡ got → 16 * got + makes-in ≤ ids + makes → ids ≡ 0 → makes-in ≡ waiting → waiting ≡ 1 → one ≡ 1 → 16 * grants + 17 ≤ makes + 16 * one
      few grants got makes-in ids makes one a b c d e f = omega (arith, a, b, c, d, e, f)

      waits : (t : Task) (k : Clerk) → HasTask t k → Rattle.ec_quiet.specs.Works.is_saving t ≡ false → length k.waiting ≡ 1
      waits (Calls cl) k h n = ap length h.1
      waits (Pushes i) k h n = absurd (grind (arith, n))

  each : (c : ℕ) → own c ≤ most-of c
  each c = go (c == j.clerk) refl
    where
      zero-more : (a b : ℕ) → a ≤ b → a + 17 * 0 ≤ b
      zero-more a b l = omega (arith, l)

      one-more : (a b : ℕ) → a + 17 ≤ b → a + 17 * 1 ≤ b
      one-more a b l = omega (arith, l)

      nothing : 16 * 0 ≤ most-of c
      nothing = omega arith

      by-open : (sl : Slot) → (c == j.clerk) ≡ false → slot sc.server.durable c ≡ Some sl → (z : Bool) → sl.is_open ≡ z → 16 * elim z as (λ y. ℕ) [ true ↦ sl.grants | false ↦ 0 ] ≤ most-of c
      by-open sl n e true f = others c sl n e f
      by-open sl n e false f = nothing

      by-slot : (c == j.clerk) ≡ false → (o : Option Slot) → slot sc.server.durable c ≡ o → 16 * open_grants o ≤ most-of c
      by-slot n None e = nothing
      by-slot n (Some sl) e = by-open sl n e sl.is_open refl

      its : 16 * open_grants (slot sc.server.durable j.clerk) + 17 ≤ most-of j.clerk
      its =
          let f = ip.facts.1 in
          subst (λ o. 16 * open_grants o + 17 ≤ most-of j.clerk) (sym f.working.inside.there)
          (subst (λ z. 16 * elim z as (λ y. ℕ) [ true ↦ f.slot.grants | false ↦ 0 ] + 17 ≤ most-of j.clerk) (sym f.working.inside.is_open) (asking f.slot f.working.inside.there))

      go : (b : Bool) → (c == j.clerk) ≡ b → own c ≤ most-of c
      go true e = subst (λ b. 16 * open_grants (slot sc.server.durable c) + 17 * one_if b ≤ most-of c) (sym e)
          (one-more (16 * open_grants (slot sc.server.durable c)) (most-of c) (subst (λ d. 16 * open_grants (slot sc.server.durable d) + 17 ≤ most-of d) (sym (equal c j.clerk e)) its))
      go false e = subst (λ b. 16 * open_grants (slot sc.server.durable c) + 17 * one_if b ≤ most-of c) (sym e) (zero-more (16 * open_grants (slot sc.server.durable c)) (most-of c) (by-slot e (slot sc.server.durable c) refl))

  granted-sum : (n : ℕ) → granted_below n sc.server.durable ≡ sum_below n (λ c. open_grants (slot sc.server.durable c))
  granted-sum zero = refl
  granted-sum (suc n) = ap (λ s. open_grants (slot sc.server.durable n) + s) (granted-sum n)

  given : 16 * granted_below 16 sc.server.durable + 17 ≤ sum_below 16 makes + 16 * length (once names)
  unfolding most-of
  given = together (granted_below 16 sc.server.durable) (sum_below 16 (λ c. open_grants (slot sc.server.durable c))) (sum_below 16 (λ c. 16 * open_grants (slot sc.server.durable c))) (sum_below 16 own) (sum_below 16 most-of) (sum_below 16 makes)
      (sum_below 16 (λ c. 16 * one_if (member c (once names)))) (sum_below 16 (λ c. one_if (member c (once names)))) (length (once names))
      (granted-sum 16) (sum-times 16 0 (λ c. open_grants (slot sc.server.durable c))) (less-one j.clerk 17 16 (λ c. 16 * open_grants (slot sc.server.durable c)) ip.clerk) (sum-less 16 own most-of each) (sum-both 16 makes (λ c. 16 * one_if (member c (once names))))
      (sum-times 16 0 (λ c. one_if (member c (once names)))) (members-few 16 (once names))
    where
      together : (g s s16 o m mk t16 t n : ℕ) → g ≡ s → s16 ≡ 16 * s → o ≡ s16 + 17 → o ≤ m → m ≡ mk + t16 → t16 ≡ 16 * t → t ≤ n → 16 * g + 17 ≤ mk + 16 * n
      together g s s16 o m mk t16 t n a b c d e f h = omega (arith, a, b, c, d, e, f, h)

pub askings-find-room : AskingsFindRoom
askings-find-room names callers makes j sc again got ask ip s order ids room =
    not-full sc.server.durable (small (durable.live sc.server.durable + durable.reserved sc.server.durable) sc.server.durable.next_id (granted_below 16 sc.server.durable) (sum_below 16 makes) (length (once names)) sc.server.durable.max_objects (stored-below sc.server.durable order) ids (given names callers makes j sc again got ask ip s) room)
  where
    small : (all next g mk n most : ℕ) → all ≤ next → next ≤ 2 + 16 * g → 16 * g + 17 ≤ mk + 16 * n → mk + 16 * n + 1 ≤ most → all + 16 ≤ most
    small all next g mk n most a b c d = omega (arith, a, b, c, d)

    not-full : (d : Durable) → durable.live d + durable.reserved d + 16 ≤ d.max_objects → is_full d ≡ false
    not-full d l = is-false d.max_objects (durable.live d + durable.reserved d + 16) l
      where
        is-false : (a b : ℕ) → b ≤ a → nat_lt a b ≡ false
        is-false a b l = grind (arith, nat_tests, l)
