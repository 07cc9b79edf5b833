-- Leases that are issued, noted and received agree with the sessions on the disk.
use Rattle.std.proofs.Common.{◌≡◌, refl, sym, ap, subst, ◌∙◌, inl, inr, ◌⊎◌, arith, ◌≤◌, ◌<◌, ◌+◌, ◌-◌, ℕ, suc, T, Bool, true, false, not, ◌==◌, ◌&&◌, cond, List, [], ◌∷◌, ◌++◌, Option, Some, None}
use Rattle.std.specs.Prelude.{Contains, nat_lt}
use Rattle.std.proofs.lemmas.Bool.{and_parts}
use Rattle.std.proofs.lemmas.List.Elements.{Contains-append_left, Contains-append_right, Contains-push, Contains-push_cases}
use Rattle.ec_base.specs.Tables.{at, at_or, or_else, put}
use Rattle.ec_volume.specs.Update.{member}
use Rattle.ec_sessions.specs.Slots.{Slots, slot_at}
use Rattle.ec_sessions.specs.declared.slot.Slot.{Slot}
use Rattle.ec_durable.specs.Durable.{slot}
use Rattle.ec_durable.specs.declared.state.Durable.{Durable}
use Rattle.ec_protocol.specs.declared.world.World.{World}
use Rattle.ec_coherence.proofs.ForServer.Tables.{at-put, same_some}
use Rattle.ec_lease_machine.specs.Leases.{greater, in_world, issue, lease, may_receive, moment_in, note, note_slot, note_slots, nth, receive, renew_each, renew_in}
use Rattle.ec_protocol.specs.Resumes.{open_session, session}
use Rattle.ec_lease_machine.specs.declared.world.Lease.{Lease}
use Rattle.ec_lease_machine.specs.declared.world.LeaseWorld.{LeaseWorld}
use Rattle.ec_lease_machine.specs.OfLeaseLaws.Agrees.{AllPast, AreNoted, IsIssued, LeasesAgree}
use Rattle.ec_lease_machine.specs.OfLeaseLaws.Slots.{Became, SlotsGo, was, opened, ended}
use Rattle.ec_protocol.specs.Clerk.{is_session}
use Rattle.ec_base.proofs.Numbers.{le-same, same-self as same, equal, above, above-limit}
use Rattle.ec_base.proofs.Options.{none_some}

-- the session is open on the disk
pub record IsOpenOn (d : Durable) (c s : ℕ) : Type 0 where
  pub slot_of : Slot
  pub in_slot : slot d c ≡ Some slot_of
  pub is_open : T slot_of.is_open
  pub session : slot_of.session ≡ s

pub true-not : {A : Type 0} (b : Bool) → T b → T (not b) → A
true-not true t f = absurd f
true-not false t f = absurd t

-- A step of the world that leaves the slots, but for ends of sessions whose moments are past.
module _ (E : ℕ → Type 0) (x : LeaseWorld) (w : World) (go : SlotsGo E x.world.durable w.durable) (a : LeasesAgree x)
    (may : (c : ℕ) (sl : Slot) → E c → slot x.world.durable c ≡ Some sl → T sl.is_open → AllPast x c sl.session) where
  unissued : {A : Type 0} (c : ℕ) (b : Lease) → IsIssued x c b → b.session ≡ x.world.durable.next_session → A
  unissued c b i q = absurd (less b.session x.world.durable.next_session (a.new c b i) q)
    where
      less : (m n : ℕ) → m < n → m ≡ n → ⊥
      less m n p q = omega (arith, p, q)

  noted : (c : ℕ) (sl : Slot) → Became E x.world.durable c sl → T sl.is_open → AreNoted x c sl.session
  noted c sl (was old p s o) t = subst (AreNoted x c) s (a.noted c old p (subst T (sym o) t))
  noted c sl (opened o s) t = λ b i q. unissued c b i (q ∙ s)
  noted c sl (ended e old p s o) t = subst (AreNoted x c) s (a.noted c old p o)

  past : (c : ℕ) (sl : Slot) → Became E x.world.durable c sl → T (not sl.is_open) → AllPast x c sl.session
  past c sl (was old p s o) t = subst (AllPast x c) s (a.past c old p (subst (λ b. T (not b)) (sym o) t))
  past c sl (opened o s) t = true-not sl.is_open o t
  past c sl (ended e old p s o) t = subst (AllPast x c) s (may c old e p o)

  pub world-agrees : LeasesAgree (in_world w x)
  world-agrees = record {
    new = λ c b i. rises b.session x.world.durable.next_session w.durable.next_session (a.new c b i) go.next;
    received = a.received;
    noted = λ c sl q t. noted c sl (go.slots c sl q) t;
    past = λ c sl q t. past c sl (go.slots c sl q) t;
  }
    where
      rises : (m n k : ℕ) → m < n → n ≤ k → m < k
      rises m n k p q = omega (arith, p, q)

-- Time.

pub tick-agrees : (x : LeaseWorld) (n : ℕ) → LeasesAgree x → LeasesAgree (record x { now = x.now + n })
tick-agrees x n a = record { new = a.new; received = a.received; noted = a.noted; past = λ c sl q t b i s. later (b.moment + x.most) x.now n (a.past c sl q t b i s) }
  where
    later : (m t n : ℕ) → m ≤ t → m ≤ t + n
    later m t n p = omega (arith, p)

-- What is noted.

weaker : (m n : ℕ) → m < n → m ≤ n
weaker m n p = omega (arith, p)

greater-left : (m n : ℕ) → m ≤ greater m n
greater-left m n = go (nat_lt m n) refl
  where
    go : (z : Bool) → nat_lt m n ≡ z → m ≤ elim z as (λ y. ℕ) [ true ↦ n | false ↦ m ]
    go true q = weaker m n (above-limit m n q)
    go false q = le-same m

greater-right : (m n : ℕ) → n ≤ greater m n
greater-right m n = go (nat_lt m n) refl
  where
    go : (z : Bool) → nat_lt m n ≡ z → n ≤ elim z as (λ y. ℕ) [ true ↦ n | false ↦ m ]
    go true q = le-same n
    go false q = above m n q

-- the moment of a Lease for its own session
pub moment-own : (s m : ℕ) → moment_in s (Some (record { session = s; moment = m })) ≡ Some m
moment-own s m = ap (λ z. elim z as (λ y. Option ℕ) [ true ↦ Some m | false ↦ None ]) (same s)

raises : (o : Option Lease) (s m n : ℕ) → moment_in s o ≡ Some m → m ≤ greater (or_else 0 (moment_in s o)) n
raises o s m n q = subst (λ i. m ≤ greater (or_else 0 i) n) (sym q) (greater-left m n)

pub at-own : {A : Type 0} (c : ℕ) (k : A) (es : List (ℕ × A)) → at c (put c k es) ≡ Some k
at-own c k es = at-put c c k es ∙ ap (λ z. cond z (Some k) (at c es)) (same c)

pub at-other : {A : Type 0} (d c : ℕ) (k : A) (es : List (ℕ × A)) → (d == c) ≡ false → at d (put c k es) ≡ at d es
at-other d c k es q = at-put d c k es ∙ ap (λ z. cond z (Some k) (at d es)) q

-- The session that a Lease is noted or issued for is open on the disk, and was opened before.
module _ (c s : ℕ) (x : LeaseWorld) (is : IsOpenOn x.world.durable c s) (a : LeasesAgree x) where
  own : (d : ℕ) (sl : Slot) → slot x.world.durable d ≡ Some sl → (d == c) ≡ true → is.slot_of ≡ sl
  own d sl q e = same_some (sym is.in_slot ∙ ap (slot x.world.durable) (sym (equal d c e)) ∙ q)

  abbrev b : Lease
  b = lease s x

  abbrev entry : Lease
  entry = record b { moment = greater (or_else 0 (moment_in s (at c x.noted))) b.moment }

  -- what is noted for a slot is no less than before
  kept-noted : (d : ℕ) (sl : Slot) → slot x.world.durable d ≡ Some sl → (m : ℕ) → moment_in sl.session (at d x.noted) ≡ Some m → (n : ℕ) × (moment_in sl.session (at d (put c entry x.noted)) ≡ Some n) × (m ≤ n)
  kept-noted d sl q m p = by (d == c) refl
    where
      by : (z : Bool) → (d == c) ≡ z → (n : ℕ) × (moment_in sl.session (at d (put c entry x.noted)) ≡ Some n) × (m ≤ n)
      by false e = (m, ap (moment_in sl.session) (at-other d c entry x.noted e) ∙ p, le-same m)
      by true e =
          let at-session : sl.session ≡ s = sym (ap (λ y. y.session) (own d sl q e)) ∙ is.session in
          let before : moment_in s (at c x.noted) ≡ Some m = ap (λ k. moment_in k (at c x.noted)) (sym at-session) ∙ ap (λ k. moment_in sl.session (at k x.noted)) (sym (equal d c e)) ∙ p in (
            entry.moment,
            ap (λ k. moment_in k (at d (put c entry x.noted))) at-session ∙ ap (λ k. moment_in s (at k (put c entry x.noted))) (equal d c e) ∙ ap (moment_in s) (at-own c entry x.noted) ∙ moment-own s entry.moment,
            raises (at c x.noted) s m b.moment before,
          )

  pub note-agrees : LeasesAgree (note c b x)
  note-agrees = record {
    new = a.new;
    received = a.received;
    noted = λ d sl q t y i r. (let h = a.noted d sl q t y i r in let k = kept-noted d sl q h.0 h.1 in (k.0, k.1, no-less y.moment h.0 k.0 h.2 k.2));
    past = a.past;
  }
    where
      no-less : (m n k : ℕ) → m ≤ n → n ≤ k → m ≤ k
      no-less m n k p q = omega (arith, p, q)

  -- a Lease more, of this clerk
  issued-cases : (d : ℕ) (y : Lease) → IsIssued (issue c s x) d y → IsIssued x d y ⊎ (((d == c) ≡ true) × (b ≡ y))
  issued-cases d y h = by (d == c) refl
    where
      ls : List Lease
      ls = at_or [] c x.issued ++ b ∷ []

      by : (z : Bool) → (d == c) ≡ z → IsIssued x d y ⊎ (((d == c) ≡ true) × (b ≡ y))
      by false e = inl (subst (λ o. Contains (or_else [] o) y) (at-other d c ls x.issued e) h)
      by true e =
          let here : Contains ls y = subst (λ o. Contains (or_else [] o) y) (at-own c ls x.issued) (subst (λ k. Contains (at_or [] k (put c ls x.issued)) y) (equal d c e) h) in
          elim (Contains-push_cases (at_or [] c x.issued) b y here) [ inl old ↦ inl (subst (λ k. IsIssued x k y) (sym (equal d c e)) old) | inr new ↦ inr (e, new) ]

  still-issued : (d : ℕ) (y : Lease) → IsIssued x d y → IsIssued (issue c s x) d y
  still-issued d y h = by (d == c) refl
    where
      ls : List Lease
      ls = at_or [] c x.issued ++ b ∷ []

      by : (z : Bool) → (d == c) ≡ z → IsIssued (issue c s x) d y
      by false e = subst (λ o. Contains (or_else [] o) y) (sym (at-other d c ls x.issued e)) h
      by true e = subst (λ k. Contains (at_or [] k (put c ls x.issued)) y) (sym (equal d c e))
          (subst (λ o. Contains (or_else [] o) y) (sym (at-own c ls x.issued)) (Contains-append_left (at_or [] c x.issued) (b ∷ []) y (subst (λ k. IsIssued x k y) (equal d c e) h)))

  pub is-issued : IsIssued (issue c s x) c b
  is-issued = subst (λ o. Contains (or_else [] o) b) (sym (at-own c (at_or [] c x.issued ++ b ∷ []) x.issued)) (Contains-push (at_or [] c x.issued) b)

  pub issue-agrees : s < x.world.durable.next_session → LeasesAgree (issue c s x)
  issue-agrees under = record {
    new = λ d y h. elim (issued-cases d y h) [ inl old ↦ a.new d y old | inr new ↦ subst (λ k. k < x.world.durable.next_session) (ap (λ z. z.session) new.1) under ];
    received = λ d y q. still-issued d y (a.received d y q);
    noted = λ d sl q t y h r. (let k = note-agrees.noted d sl q t y in elim (issued-cases d y h) [ inl old ↦ k old r | inr new ↦ its d sl q y new.0 new.1 r ]);
    past = λ d sl q t y h r. elim (issued-cases d y h) [ inl old ↦ a.past d sl q t y old r | inr new ↦ true-not sl.is_open (subst (λ z. T z.is_open) (own d sl q new.0) is.is_open) t ];
  }
    where
      its : (d : ℕ) (sl : Slot) → slot x.world.durable d ≡ Some sl → (y : Lease) → (d == c) ≡ true → b ≡ y → y.session ≡ sl.session → (m : ℕ) × (moment_in sl.session (at d (put c entry x.noted)) ≡ Some m) × (y.moment ≤ m)
      its d sl q y e z r =
          let at-session : sl.session ≡ s = sym (ap (λ k. k.session) (own d sl q e)) ∙ is.session in (
            entry.moment,
            ap (λ k. moment_in k (at d (put c entry x.noted))) at-session ∙ ap (λ k. moment_in s (at k (put c entry x.noted))) (equal d c e) ∙ ap (moment_in s) (at-own c entry x.noted) ∙ moment-own s entry.moment,
            subst (λ k. k.moment ≤ entry.moment) z (greater-right (or_else 0 (moment_in s (at c x.noted))) b.moment),
          )

-- a clerk receives a Lease that was issued to it
pub receive-agrees : (c : ℕ) (b : Lease) (x : LeaseWorld) → IsIssued x c b → LeasesAgree x → LeasesAgree (receive c b x)
receive-agrees c b x i a = record { new = a.new; received = λ d y q. by d y q (d == c) refl; noted = a.noted; past = a.past }
  where
    by : (d : ℕ) (y : Lease) → at d (put c b x.leases) ≡ Some y → (z : Bool) → (d == c) ≡ z → IsIssued x d y
    by d y q false e = a.received d y (sym (at-other d c b x.leases e) ∙ q)
    by d y q true e =
        let z : b ≡ y = same_some (sym (at-own c b x.leases) ∙ ap (λ k. at k (put c b x.leases)) (sym (equal d c e)) ∙ q) in
        subst (IsIssued x d) z (subst (λ k. IsIssued x k b) (sym (equal d c e)) i)

pub nth-issued : (n : ℕ) (ls : List Lease) (b : Lease) → nth n ls ≡ Some b → Contains ls b
nth-issued n [] b q = absurd (none_some q)
nth-issued n (y ∷ ls) b q = by (n == 1) (λ p. nth-issued (n - 1) ls b p) q
  where
    by : (z : Bool) → (nth (n - 1) ls ≡ Some b → Contains ls b) → elim z as (λ k. Option Lease) [ true ↦ Some y | false ↦ nth (n - 1) ls ] ≡ Some b → Contains (y ∷ ls) b
    by true more q = subst (Contains (y ∷ ls)) (same_some q) (Contains-append_left (y ∷ []) ls y (Contains-push [] y))
    by false more q = Contains-append_right (y ∷ []) ls b (more q)

-- Renewing, where each session that the running server has open is open on the disk.

abbrev pub AreServed : World → Type 0
AreServed w = (c s : ℕ) → open_session c w ≡ Some s → IsOpenOn w.durable c s × (s < w.durable.next_session)

is-this : (s : ℕ) (o : Option ℕ) → is_session s o ≡ true → o ≡ Some s
is-this s None q = absurd (apart q)
  where
    apart : false ≡ true → ⊥
    apart e = cc
is-this s (Some t) q = ap Some (sym (equal s t q))

-- a world behind a renewing is as it was
pub record Renewed (x y : LeaseWorld) : Type 0 where
  pub world : y.world ≡ x.world
  pub agrees : LeasesAgree y

renew-one : (c : ℕ) (o : Option ℕ) (x : LeaseWorld) → AreServed x.world → LeasesAgree x → Renewed x (renew_in c o x)
renew-one c None x served a = record { world = refl; agrees = a }
renew-one c (Some s) x served a = by ((not (member c x.world.cut) && is_session s (open_session c x.world)) && may_receive c (lease s x) x) refl
  where
    by : (z : Bool) → ((not (member c x.world.cut) && is_session s (open_session c x.world)) && may_receive c (lease s x) x) ≡ z → Renewed x (elim z as (λ k. LeaseWorld) [ true ↦ receive c (lease s x) (issue c s x) | false ↦ x ])
    by false q = record { world = refl; agrees = a }
    by true q =
        let here = (and_parts (not (member c x.world.cut) && is_session s (open_session c x.world)) (may_receive c (lease s x) x) q).0 in
        let there = served c s (is-this s (open_session c x.world) (and_parts (not (member c x.world.cut)) (is_session s (open_session c x.world)) here).1) in
        record { world = refl; agrees = receive-agrees c (lease s x) (issue c s x) (is-issued c s x there.0 a) (issue-agrees c s x there.0 a there.1) }

pub renew-agrees : (cs : List ℕ) (x : LeaseWorld) → AreServed x.world → LeasesAgree x → Renewed x (renew_each cs x)
renew-agrees [] x served a = record { world = refl; agrees = a }
renew-agrees (c ∷ cs) x served a =
    let r = renew-one c (session c x.world) x served a in
    let s = renew-agrees cs (renew_in c (session c x.world) x) (subst AreServed (sym r.world) served) r.agrees in
    record { world = s.world ∙ r.world; agrees = s.agrees }

-- What is noted at a start.

note-one : (c : ℕ) (o : Option Slot) (x : LeaseWorld) → slot x.world.durable c ≡ o → LeasesAgree x → Renewed x (note_slot c o x)
note-one c None x q a = record { world = refl; agrees = a }
note-one c (Some sl) x q a = by sl.is_open refl
  where
    by : (z : Bool) → sl.is_open ≡ z → Renewed x (elim (elim z as (λ k. Option ℕ) [ true ↦ Some sl.session | false ↦ None ]) as (λ k. LeaseWorld) [ None ↦ x | Some s ↦ note c (lease s x) x ])
    by false e = record { world = refl; agrees = a }
    by true e = record { world = refl; agrees = note-agrees c sl.session x (record { slot_of = sl; in_slot = q; is_open = subst T (sym e) tt; session = refl }) a }

pub slots-agree : (c : ℕ) (slots : Slots) (x : LeaseWorld) → ((i : ℕ) → slot x.world.durable (c + i) ≡ slot_at slots i) → LeasesAgree x → Renewed x (note_slots c slots x)
slots-agree c [] x q a = record { world = refl; agrees = a }
slots-agree c (o ∷ slots) x q a =
    let r = note-one c o x (ap (slot x.world.durable) (first c) ∙ q 0) a in
    let s = slots-agree (c + 1) slots (note_slot c o x) (λ i. ap (λ w. slot w.durable (c + 1 + i)) r.world ∙ ap (slot x.world.durable) (next c i) ∙ q (suc i)) r.agrees in
    record { world = s.world ∙ r.world; agrees = s.agrees }
  where
    first : (c : ℕ) → c ≡ c + 0
    first c = omega arith

    next : (c i : ℕ) → c + 1 + i ≡ c + suc i
    next c i = omega arith
