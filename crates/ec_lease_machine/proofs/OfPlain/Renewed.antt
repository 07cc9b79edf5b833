-- Where each clerk in a session has a Lease of the time that Leases run, and the clocks stand at their beginning, no clerk is held.
use Rattle.std.proofs.Common.{◌≡◌, refl, sym, ap, subst, ◌∙◌, inl, inr, ◌⊎◌, arith, ◌≤◌, ◌+◌, ℕ, Bool, true, false, not, ◌==◌, ◌&&◌, ◌||◌, cond, List, [], ◌∷◌, Option, Some, None}
use Rattle.std.specs.Prelude.{nat_le, nat_lt}
use Rattle.std.specs.List.{filter}
use Rattle.ec_base.specs.Tables.{at, at_or}
use Rattle.ec_volume.specs.Update.{member}
use Rattle.ec_wire.specs.Messages.{same_kind}
use Rattle.ec_wire.specs.declared.msg.MsgKind.{MsgKind}
use Rattle.ec_wire.specs.declared.msg.MsgKind.TheVariants.{Ended}
use Rattle.ec_protocol.specs.Clerk.{is_session}
use Rattle.ec_protocol.specs.World.{clerks}
use Rattle.ec_protocol.specs.OfPool.Goings.{is_kept_from}
use Rattle.ec_protocol.specs.Resumes.{open_session, session}
use Rattle.ec_protocol.specs.declared.world.World.{World}
use Rattle.ec_lease_machine.specs.Leases.{has_run_out, held, in_world, is_above, is_held, issue, lease, may_receive, moment_in, receive, renew_each, renew_in}
use Rattle.ec_lease_machine.specs.declared.world.LeaseWorld.{LeaseWorld}
use Rattle.ec_lease_machine.proofs.OfLeaseLaws.Issuing.{at-other, at-own, moment-own}
use Rattle.ec_base.proofs.Numbers.{above, equal, not-at, same-self as same}
use Rattle.ec_base.proofs.Options.{none_some, some_once}

-- Clocks stand at their beginning, Leases run for a time, and no call is queued.
pub record IsEarly (x : LeaseWorld) : Type 0 where
  pub now : x.now ≡ 0
  pub skews : x.skews ≡ []
  pub queued : x.queued ≡ []
  pub runs : 1 ≤ x.length

-- the clerk's Lease is of the session that it's in, and runs for so long
abbrev pub IsRenewed : LeaseWorld → ℕ → Type 0
IsRenewed x c = (s : ℕ) → session c x.world ≡ Some s → (m : ℕ) × (moment_in s (at c x.leases) ≡ Some m) × (x.length ≤ m)

-- so it isn't held
pub unheld : (x : LeaseWorld) → IsEarly x → (c : ℕ) → IsRenewed x c → is_held c x ≡ false
unheld x early c renewed = by (session c x.world) refl
  where
    late : (m e n k l : ℕ) → n ≡ 0 → k ≡ e → 1 ≤ l → l ≤ m → nat_le (m + e) (n + k) ≡ false
    late m e n k l p q r t = not-at (m + e) (n + k) (omega (arith, p, q, r, t))

    by : (o : Option ℕ) → session c x.world ≡ o → elim o as (λ z. Bool) [ None ↦ false | Some s ↦ has_run_out c (moment_in s (at c x.leases)) x ] ≡ false
    by None q = refl
    by (Some s) q =
        let r = renewed s q in
        ap (λ o. has_run_out c o x) r.1 ∙ late r.0 x.most x.now (at_or x.most c x.skews) x.length early.now (ap (at_or x.most c) early.skews) early.runs r.2

-- a world in which a clerk is in the same session holds it as well
pub same-held : (x : LeaseWorld) (w : World) (c : ℕ) → session c w ≡ session c x.world → is_held c (in_world w x) ≡ is_held c x
same-held x w c q = ap (λ o. elim o as (λ z. Bool) [ None ↦ false | Some s ↦ has_run_out c (moment_in s (at c x.leases)) (in_world w x) ]) q ∙ by (session c x.world)
  where
    runs : (o : Option ℕ) → has_run_out c o (in_world w x) ≡ has_run_out c o x
    runs None = refl
    runs (Some m) = refl

    by : (o : Option ℕ) → elim o as (λ z. Bool) [ None ↦ false | Some s ↦ has_run_out c (moment_in s (at c x.leases)) (in_world w x) ] ≡ elim o as (λ z. Bool) [ None ↦ false | Some s ↦ has_run_out c (moment_in s (at c x.leases)) x ]
    by None = refl
    by (Some s) = runs (moment_in s (at c x.leases))

-- and no message is kept from any clerk
pub none-held : (x : LeaseWorld) → ((c : ℕ) → is_held c x ≡ false) → held x ≡ []
none-held x f = none clerks
  where
    none : (cs : List ℕ) → filter (λ c. is_held c x) cs ≡ []
    none [] = refl
    none (c ∷ cs) = by (is_held c x) (f c) (none cs)
      where
        by : (z : Bool) → z ≡ false → filter (λ d. is_held d x) cs ≡ [] → cond z (c ∷ filter (λ d. is_held d x) cs) (filter (λ d. is_held d x) cs) ≡ []
        by true q more = absurd (no q)
          where
            no : true ≡ false → ⊥
            no e = cc
        by false q more = more

pub unkept : (o : Option (ℕ × MsgKind)) → is_kept_from [] o ≡ false
unkept None = refl
unkept (Some to) = by (not (same_kind to.1 Ended))
  where
    by : (z : Bool) → (z && member to.0 []) ≡ false
    by true = refl
    by false = refl

-- Renewing.

-- what it leaves
pub record Leaves (x y : LeaseWorld) : Type 0 where
  pub world : y.world ≡ x.world
  pub length : y.length ≡ x.length
  pub most : y.most ≡ x.most
  pub now : y.now ≡ x.now
  pub skews : y.skews ≡ x.skews
  pub queued : y.queued ≡ x.queued

same-leaves : (x : LeaseWorld) → Leaves x x
same-leaves x = record { world = refl; length = refl; most = refl; now = refl; skews = refl; queued = refl }

one-leaves : (c : ℕ) (o : Option ℕ) (x : LeaseWorld) → Leaves x (renew_in c o x)
one-leaves c None x = same-leaves x
one-leaves c (Some s) x = by ((not (member c x.world.cut) && is_session s (open_session c x.world)) && may_receive c (lease s x) x)
  where
    by : (z : Bool) → Leaves x (elim z as (λ y. LeaseWorld) [ true ↦ receive c (lease s x) (issue c s x) | false ↦ x ])
    by true = record { world = refl; length = refl; most = refl; now = refl; skews = refl; queued = refl }
    by false = same-leaves x

pub renew-leaves : (cs : List ℕ) (x : LeaseWorld) → Leaves x (renew_each cs x)
renew-leaves [] x = same-leaves x
renew-leaves (c ∷ cs) x =
    let y = renew_in c (session c x.world) x in
    let a = one-leaves c (session c x.world) x in
    let b = renew-leaves cs y in
    record { world = b.world ∙ a.world; length = b.length ∙ a.length; most = b.most ∙ a.most; now = b.now ∙ a.now; skews = b.skews ∙ a.skews; queued = b.queued ∙ a.queued }

-- The server has open each session in which a clerk is, and no link is cut.
pub record IsServed (w : World) : Type 0 where
  pub opens : (c s : ℕ) → session c w ≡ Some s → open_session c w ≡ Some s
  pub uncut : w.cut ≡ []

-- A clerk that is renewed has a Lease of the session that it's in.
module _ (c s : ℕ) (x : LeaseWorld) (served : IsServed x.world) (q : session c x.world ≡ Some s) where
  abbrev later : ℕ
  later = x.now + x.length

  may : (o : Option ℕ) → ((not (member c x.world.cut) && is_session s (open_session c x.world)) && (is_session s (session c x.world) && is_above o later)) ≡ is_above o later
  may o = ap (λ cs. (not (member c cs) && is_session s (open_session c x.world)) && (is_session s (session c x.world) && is_above o later)) served.uncut
      ∙ ap (λ p. is_session s p && (is_session s (session c x.world) && is_above o later)) (served.opens c s q)
      ∙ ap (λ p. is_session s (Some s) && (is_session s p && is_above o later)) q
      ∙ ap (λ z. z && (z && is_above o later)) (same s)

  abbrev Has : LeaseWorld → Type 0
  Has y = (m : ℕ) × (moment_in s (at c y.leases) ≡ Some m) × (x.length ≤ m)

  abbrev chosen : Bool → LeaseWorld
  chosen z = elim z as (λ k. LeaseWorld) [ true ↦ receive c (lease s x) (issue c s x) | false ↦ x ]

  -- it has a new one
  new : Has (chosen true)
  new = (later, ap (moment_in s) (at-own c (lease s x) x.leases) ∙ moment-own s later, enough x.now x.length)
    where
      enough : (n l : ℕ) → l ≤ n + l
      enough n l = omega arith

  -- or the one that it had is no less
  old : (m : ℕ) → moment_in s (at c x.leases) ≡ Some m → nat_lt m later ≡ false → Has (chosen false)
  old m p e = (m, p, enough x.now x.length m (above m later e))
    where
      enough : (n l m : ℕ) → n + l ≤ m → l ≤ m
      enough n l m p = omega (arith, p)

  has : (o : Option ℕ) → moment_in s (at c x.leases) ≡ o → Has (chosen (is_above o later))
  has None p = new
  has (Some m) p = by (nat_lt m later) refl
    where
      by : (z : Bool) → nat_lt m later ≡ z → Has (chosen z)
      by true e = new
      by false e = old m p e

  has-now : Has (renew_in c (Some s) x)
  has-now = subst (λ z. Has (chosen z)) (sym (may (moment_in s (at c x.leases)))) (has (moment_in s (at c x.leases)) refl)

  is-renewed : IsRenewed (renew_in c (Some s) x) c
  is-renewed t r =
      let l = one-leaves c (Some s) x in
      let is : t ≡ s = some_once (session c x.world) t s (sym (ap (session c) l.world) ∙ r) q in
      subst (λ n. (m : ℕ) × (moment_in n (at c (renew_in c (Some s) x).leases) ≡ Some m) × ((renew_in c (Some s) x).length ≤ m)) (sym is)
      (has-now.0, has-now.1, subst (λ n. n ≤ has-now.0) (sym l.length) has-now.2)

renews-one : (c : ℕ) (x : LeaseWorld) → IsServed x.world → IsRenewed (renew_in c (session c x.world) x) c
renews-one c x served = by (session c x.world) refl
  where
    by : (o : Option ℕ) → session c x.world ≡ o → IsRenewed (renew_in c o x) c
    by None q = λ s r. absurd (none_some (sym q ∙ r))
    by (Some s) q = is-renewed c s x served q

-- and so has one that was renewed before
renews-other : (d : ℕ) (x : LeaseWorld) → IsServed x.world → (c : ℕ) → IsRenewed x c → IsRenewed (renew_in d (session d x.world) x) c
renews-other d x served c before = by (c == d) refl
  where
    y : LeaseWorld
    y = renew_in d (session d x.world) x

    others : (o : Option ℕ) → (c == d) ≡ false → at c (renew_in d o x).leases ≡ at c x.leases
    others None q = refl
    others (Some s) q = at-choice ((not (member d x.world.cut) && is_session s (open_session d x.world)) && may_receive d (lease s x) x)
      where
        at-choice : (z : Bool) → at c (elim z as (λ k. LeaseWorld) [ true ↦ receive d (lease s x) (issue d s x) | false ↦ x ]).leases ≡ at c x.leases
        at-choice true = at-other c d (lease s x) x.leases q
        at-choice false = refl

    by : (z : Bool) → (c == d) ≡ z → IsRenewed y c
    by true q s r = subst (IsRenewed y) (sym (equal c d q)) (renews-one d x served) s r
    by false q s r =
        let l = one-leaves d (session d x.world) x in
        let h = before s (ap (session c) (sym l.world) ∙ r) in
        (h.0, ap (moment_in s) (others (session d x.world) q) ∙ h.1, subst (λ n. n ≤ h.0) (sym l.length) h.2)

pub renews : (cs : List ℕ) (x : LeaseWorld) → IsServed x.world → (c : ℕ) → (member c cs ≡ true) ⊎ IsRenewed x c → IsRenewed (renew_each cs x) c
renews [] x served c (inl q) = absurd (no q)
  where
    no : false ≡ true → ⊥
    no e = cc
renews [] x served c (inr r) = r
renews (d ∷ cs) x served c e = renews cs y (subst IsServed (sym (one-leaves d (session d x.world) x).world) served) c (next e)
  where
    y : LeaseWorld
    y = renew_in d (session d x.world) x

    by : (z : Bool) → (c == d) ≡ z → (z || member c cs) ≡ true → (member c cs ≡ true) ⊎ IsRenewed y c
    by true q m = inr (subst (IsRenewed y) (sym (equal c d q)) (renews-one d x served))
    by false q m = inl m

    next : (member c (d ∷ cs) ≡ true) ⊎ IsRenewed x c → (member c cs ≡ true) ⊎ IsRenewed y c
    next (inl m) = by (c == d) refl m
    next (inr r) = inr (renews-other d x served c r)
