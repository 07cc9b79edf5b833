-- A session comes in the place of an open one of this run only by a later start: a start greets again only behind the end of its session.
use Rattle.std.proofs.Common.{◌≡◌, refl, sym, ap, subst, ◌∙◌, arith, ◌<◌, ◌≤◌, ℕ, Bool, true, false, ◌==◌, ◌&&◌, ◌||◌, T, Option, Some, None}
use Rattle.std.specs.Prelude.{Contains, is_some, nat_lt, Ok}
use Rattle.ec_base.specs.Ages.{is_older}
use Rattle.ec_base.specs.declared.ids.Age.{Age}
use Rattle.ec_sessions.specs.Slots as slots
use Rattle.ec_sessions.specs.declared.slot.Slot.{Slot}
use Rattle.ec_wire.specs.declared.msg.Msg.TheVariants.{Hello}
use Rattle.ec_durable.specs.Durable.{slot, step}
use Rattle.ec_durable.specs.declared.state.Durable.{Durable}
use Rattle.ec_durable.specs.declared.record.Record.TheVariants.{Open}
use Rattle.ec_protocol.specs.declared.clerk.Clerk.{Clerk}
use Rattle.ec_coherence.specs.System.{System, clerk_of, if_in, is_open}
use Rattle.ec_coherence.specs.Sessions as sessions
use Rattle.ec_coherence.specs.Tokens.{side_in}
use Rattle.ec_coherence.proofs.ForCommits.Needs.{each-of}
use Rattle.ec_coherence.proofs.ForBatches.OpenSlots.{at-open}
use Rattle.ec_coherence.proofs.ForServer.Tables.{fails, same_some}
use Rattle.ec_coherence.specs.CommitLaws.{AllAgree}
use Rattle.ec_lawful.proofs.OfClerkSteps.ForJoins.Steps.{open-steps}
use Rattle.ec_lawful.specs.Asked.{AsksAgree}
use Rattle.ec_lawful.proofs.ForAsked.Pays.{MayOpen}
use Rattle.ec_protocol.specs.Clerk.{is_session}
use Rattle.ec_base.proofs.Numbers.{equal}
use Rattle.ec_base.proofs.Bools.{not-both, holds-true as holds}

some-of : (o : Option Clerk) → T (is_some o) → (k : Clerk) × (o ≡ Some k)
some-of None t = absurd t
some-of (Some k) t = (k, refl)

-- a greater age is of a later boot, or of a later round
by-age : (a b : Age) → is_older a b ≡ true → ((a.boot ≡ b.boot) → a.round < b.round → ⊥) → a.boot < b.boot
by-age a b e alike = go (nat_lt a.boot b.boot) (a.boot == b.boot) (nat_lt a.round b.round) refl refl refl e
  where
    less : (n m : ℕ) → nat_lt n m ≡ true → n < m
    less n m q = grind arith

    go : (x y z : Bool) → nat_lt a.boot b.boot ≡ x → (a.boot == b.boot) ≡ y → nat_lt a.round b.round ≡ z → (x || (y && z)) ≡ true → a.boot < b.boot
    go true y z q r s e = less a.boot b.boot q
    go false true true q r s e = absurd (alike (equal a.boot b.boot r) (less a.round b.round s))
    go false true false q r s e = absurd (cc)
    go false false z q r s e = absurd (cc)

older-round : (a b : Age) → a.boot ≡ b.boot → a.round < b.round → T (is_older a b)
older-round a b p q = holds (is_older a b) (by (nat_lt a.boot b.boot) (yes a.boot b.boot p) (less a.round b.round q))
  where
    yes : (n m : ℕ) → n ≡ m → (n == m) ≡ true
    yes n m p = grind arith

    less : (n m : ℕ) → n < m → nat_lt n m ≡ true
    less n m q = grind arith

    by : (x : Bool) → (a.boot == b.boot) ≡ true → nat_lt a.round b.round ≡ true → (x || ((a.boot == b.boot) && nat_lt a.round b.round)) ≡ true
    by true p q = refl
    by false p q = ap (λ z. z && nat_lt a.round b.round) p ∙ q

module _ (first : ℕ → ℕ) (g : System) (all : AllAgree g) (asks : AsksAgree first g) (c : ℕ) (age : Age) (greets : Contains g.pool (c, Hello c age)) where
  fits : sessions.Fits g c (Hello c age)
  fits = each-of (λ z. sessions.Fits g z.0 z.1) g.pool (c, Hello c age) ((all.0).sessions.messages) greets

  pub reached : age.boot ≤ g.boots c
  reached = (fits.2).0

  module _ (sl : Slot) (in_slot : slot g.durable c ≡ Some sl) (opened : T sl.is_open) where
    abbrev s : ℕ
    s = sl.session

    owns : g.ghost.owner s ≡ Some (c, sl.age)
    owns = ((all.0).sessions.slots c sl in_slot).2

    now-open : T (is_open g s)
    now-open = at-open s g.durable.sessions c sl (in_slot, refl, opened)

    of-run : g.first_boot c < (sl.age).boot
    of-run = ((all.3).owned s c sl.age owns).0 ((all.0).images.unfrozen s now-open)

    -- the session's start is still at its round
    no-later : (k : Clerk) → g.clerks c (sl.age).boot ≡ Some k → (sl.age).round < k.age.round → ⊥
    no-later k q less = go (g.ghost.taken s) refl
      where
        start : (k.age).boot ≡ (sl.age).boot
        start = ((all.0).sessions.starts c (sl.age).boot k q).1

        behind : T (is_older sl.age k.age)
        behind = older-round sl.age k.age (sym start) less

        same-round : (a b : Age) → a ≡ b → a.round < b.round → ⊥
        same-round a b p q = none a.round b.round (ap (λ x. x.round) p) q
          where
            none : (n m : ℕ) → n ≡ m → n < m → ⊥
            none n m p q = omega (arith, p, q)

        in-it : (z : Bool) → is_session s k.session ≡ z → T (is_some (side_in (elim z as (λ y. Option Clerk) [ true ↦ Some k | false ↦ None ]))) → ⊥
        in-it false p t = t
        in-it true p t = by k.session refl p
          where
            by : (o : Option ℕ) → k.session ≡ o → is_session s o ≡ true → ⊥
            by None e p = absurd (cc)
            by (Some x) e p = same-round sl.age k.age (ap (λ o. o.1) (same_some (sym owns ∙ ((all.0).sessions.in_session c (sl.age).boot s k q (e ∙ ap Some (sym (equal s x p)))).0))) less

        go : (z : Bool) → g.ghost.taken s ≡ z → ⊥
        go false p = not-both (is_older sl.age k.age) behind ((((all.0).sessions.told s (c, sl.age) k owns q).1 (fails (g.ghost.taken s) p)).1)
        go true p = in-it (is_session s k.session) refl (subst (λ o. T (is_some (side_in (if_in s o)))) q (subst (λ o. T (is_some (side_in (clerk_of s o g.clerks)))) owns ((all.0).tokens.present s now-open (holds (g.ghost.taken s) p))))

    later : is_older sl.age age ≡ true → (sl.age).boot < age.boot
    later older = by-age sl.age age older (λ e less. absurd (again e less))
      where
        again : (sl.age).boot ≡ age.boot → (sl.age).round < age.round → ⊥
        again e less =
            let k = some-of (g.clerks c age.boot) (asks.stands c age.boot (subst (λ n. g.first_boot c < n) e of-run) reached) in
            no-later k.0 (ap (g.clerks c) e ∙ k.1) (between (sl.age).round age.round (k.0).age.round less ((fits.2).1 k.0 k.1))
          where
            between : (a b d : ℕ) → a < b → b ≤ d → a < d
            between a b d p q = omega (arith, p, q)

  -- whoever else may have begun
  pub may-open : (s : ℕ) (e : Durable) → step (Open c age s) g.durable ≡ Ok e → (tops : ℕ → ℕ) → g.boots c ≤ tops c → MayOpen first tops g.durable (Open c age s)
  may-open s e steps tops more = λ sl q o. (subst (λ n. n < (sl.age).boot) (asks.began c) (of-run sl q o), later sl q o (sym (ap (λ x. slots.is_greater x age) q) ∙ (open-steps c age s g.durable e steps).0), further age.boot (g.boots c) (tops c) reached more)
    where
      further : (a b d : ℕ) → a ≤ b → b ≤ d → a ≤ d
      further a b d p q = omega (arith, p, q)
