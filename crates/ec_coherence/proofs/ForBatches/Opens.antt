-- The server opens a new session in a slot that isn't open: the facts about tokens and about sessions, behind the record. (The end of an open session comes before it: Finish.)
use Rattle.std.proofs.Common.{◌≡◌, refl, sym, ap, subst, ◌∙◌, ◌⊎◌, inl, inr, arith, ℕ, zero, suc, Bool, true, false, not, ◌&&◌, ◌||◌, ◌+◌, T, ◌≤◌, ◌<◌, ◌∷◌, ◌++◌, length, length-set}
use Rattle.std.specs.Prelude.{◌==◌, Option, None, Some, is_some, nat_lt}
use Rattle.ec_base.specs.declared.ids.Age.{Age}
use Rattle.ec_base.specs.Ages.{is_older}
use Rattle.ec_sessions.specs.Slots.{with_slot, new_slot}
use Rattle.ec_sessions.specs.Windows.{has}
use Rattle.ec_sessions.specs.declared.slot.Slot.{Slot}
use Rattle.ec_wire.specs.declared.msg.Msg.{Msg}
use Rattle.ec_wire.specs.declared.msg.Msg.TheVariants.{Want, Back, Flush, Room, Claim, Bye, Opened, Grant, Recall, Kept, Ids, Ended}
use Rattle.ec_durable.specs.Durable.{slot}
use Rattle.ec_durable.specs.declared.state.Durable.{Durable}
use Rattle.ec_durable.specs.declared.record.Record.TheVariants as record_of
use Rattle.ec_protocol.specs.declared.clerk.Clerk.{Clerk}
use Rattle.ec_protocol.specs.Server.{Serving}
use Rattle.ec_coherence.specs.System.{System, Ghost, is_open, open_in, if_in, clerk_of}
use Rattle.ec_coherence.specs.Sessions as sessions
use Rattle.ec_coherence.specs.Tokens.{side_in, tables_of, view, TokensAgree}
use Rattle.ec_coherence.specs.Steps.{serving_in, open_session}
use Rattle.ec_coherence.proofs.ForBatches.OpenNew.{OpensNot, opened-agrees}
use Rattle.ec_coherence.proofs.ForServer.SlotLaws.{open-of, new-at, new-other, opened-own, opened-other}
use Rattle.ec_coherence.proofs.ForServer.Tables.{differs, fails, each-map, same_some, by-session}
use Rattle.ec_protocol.specs.Clerk.{is_session}
use Rattle.ec_base.proofs.Numbers.{same-self as same, equal}
use Rattle.ec_base.proofs.Options.{none_some}
use Rattle.ec_base.proofs.Bools.{not-both as refutes, holds-true as holds}

-- Ages.

older-not : (a b : Age) → T (is_older a b) → T (is_older b a) → ⊥
older-not a b p q = no a.boot b.boot a.round b.round p q
  where
    no : (i j k l : ℕ) → T (nat_lt i j || ((i == j) && nat_lt k l)) → T (nat_lt j i || ((j == i) && nat_lt l k)) → ⊥
    no i j k l p q = grind arith

older-through : (a b c : Age) → T (is_older a b) → T (is_older b c) → T (is_older a c)
older-through a b c p q = through a.boot b.boot c.boot a.round b.round c.round p q
  where
    through : (i j k l m n : ℕ) → T (nat_lt i j || ((i == j) && nat_lt l m)) → T (nat_lt j k || ((j == k) && nat_lt m n)) → T (nat_lt i k || ((i == k) && nat_lt l n))
    through i j k l m n p q = grind arith

module _ (g : System) (γ : Ghost) (t : Serving) (b : TokensAgree (view (serving_in t γ g))) (a : sessions.SessionsAgree (serving_in t γ g)) (c : ℕ) (age : Age) (within : c < 16)
    (idle : (sl : Slot) → slot t.server.durable c ≡ Some sl → T (not sl.is_open)) (greater : (sl : Slot) → slot t.server.durable c ≡ Some sl → T (is_older sl.age age))
    (reached : sessions.IsReached (serving_in t γ g) c age) where
  abbrev here : System
  here = serving_in t γ g

  abbrev s : ℕ
  s = t.server.durable.next_session

  abbrev pub sm : Slot
  sm = new_slot age s

  abbrev pub d' : Durable
  d' = record (t.server.durable) { next_session = s + 1; sessions = with_slot c (Some sm) t.server.durable.sessions }

  abbrev pub open_step : Serving
  open_step = record t { server = record (t.server) { durable = d'; claimed = s ∷ t.server.claimed }; rec = Some (record_of.Open c age s) }

  abbrev pub γ' : Ghost
  γ' = open_session c age s γ

  pub room : c < length t.server.durable.sessions
  room = let z = a.sixteen in omega arith

  pub no-owner : γ.owner s ≡ None
  no-owner = go (γ.owner s) refl
    where
      go : (o : Option (ℕ × Age)) → γ.owner s ≡ o → o ≡ None
      go None p = refl
      go (Some o) p = absurd (let l = (a.owned s o p).0 in omega arith)

  known-other : (r : ℕ) (o : ℕ × Age) → γ.owner r ≡ Some o → (r == s) ≡ false
  known-other r o p = go (r == s) refl
    where
      go : (z : Bool) → (r == s) ≡ z → z ≡ false
      go true e = absurd (none_some (sym no-owner ∙ ap γ.owner (sym (equal r s e)) ∙ p))
      go false e = refl

  owner-own : γ'.owner s ≡ Some (c, age)
  owner-own = ap (λ z. elim z as (λ y. Option (ℕ × Age)) [ true ↦ Some (c, age) | false ↦ γ.owner s ]) (same s)

  owner-other : (r : ℕ) → (r == s) ≡ false → γ'.owner r ≡ γ.owner r
  owner-other r d = ap (λ z. elim z as (λ y. Option (ℕ × Age)) [ true ↦ Some (c, age) | false ↦ γ.owner r ]) d

  not-taken : T (not (γ.taken s))
  not-taken = go (γ.taken s) refl
    where
      go : (z : Bool) → γ.taken s ≡ z → T (not z)
      go true e = absurd (subst (λ o. T (is_some o)) no-owner (a.taken s (holds (γ.taken s) e)))
      go false e = tt

  -- no start is in it
  not-in : (d e : ℕ) (k : Clerk) → g.clerks d e ≡ Some k → is_session s k.session ≡ false
  not-in d e k p = go k.session refl
    where
      go : (o : Option ℕ) → k.session ≡ o → is_session s o ≡ false
      go None q = refl
      go (Some r) q = by (s == r) refl
        where
          by : (z : Bool) → (s == r) ≡ z → z ≡ false
          by true f = absurd (none_some (sym no-owner ∙ ap γ.owner (equal s r f) ∙ (a.in_session d e r k p q).0))
          by false f = refl

  clerk-same : (r : ℕ) → side_in (clerk_of r (γ'.owner r) g.clerks) ≡ side_in (clerk_of r (γ.owner r) g.clerks)
  clerk-same r = by-session s r (λ z. side_in (clerk_of z (γ'.owner z) g.clerks) ≡ side_in (clerk_of z (γ.owner z) g.clerks))
      (ap (λ o. side_in (clerk_of s o g.clerks)) owner-own ∙ ap side_in (none (g.clerks c age.boot) refl) ∙ sym (ap (λ o. side_in (clerk_of s o g.clerks)) no-owner))
      (λ d. ap (λ o. side_in (clerk_of r o g.clerks)) (owner-other r d))
    where
      none : (o : Option Clerk) → g.clerks c age.boot ≡ o → if_in s o ≡ None
      none None p = refl
      none (Some k) p = ap (λ z. elim z as (λ y. Option Clerk) [ true ↦ Some k | false ↦ None ]) (not-in c age.boot k p)

  not-open : T (not (is_open here s))
  not-open = go (is_open here s) refl
    where
      go : (z : Bool) → is_open here s ≡ z → T (not z)
      go true e = let r = open-of t.server.durable.sessions s (holds (is_open here s) e) in none_some (sym no-owner ∙ ap γ.owner (sym r.4) ∙ (a.slots r.0 r.1 r.2).2)
      go false e = tt

  unheard : (d : ℕ) (m : Msg) → sessions.Fits here d m → OpensNot s m
  unheard d (Opened w r e) f = known-other r (d, w) f
  unheard d _ f = tt

  pub open-tokens : TokensAgree (view (serving_in open_step γ' g))
  open-tokens = subst (λ f. TokensAgree (record (view (serving_in open_step γ g)) { clerk = f })) (λ i r. sym (clerk-same r) i)
      (opened-agrees (view here) (tables_of t.server) s (λ r. open_in d'.sessions r) b not-taken (ap (λ o. side_in (clerk_of s o g.clerks)) no-owner) not-open
      (λ r d. opened-other t.server.durable.sessions c sm room idle tt r d) (opened-own t.server.durable.sessions c sm room idle tt)
      (each-map (λ m. sessions.Fits here m.0 m.1) (λ m. OpensNot s m.1) (g.pool ++ t.sent) (λ m. unheard m.0 m.1) a.messages))

  -- Sessions.

  abbrev pub later : System
  later = serving_in open_step γ' g

  slot-new : slot d' c ≡ Some sm
  slot-new = new-at t.server.durable.sessions c sm room idle tt

  slot-other : (e : ℕ) → (e == c) ≡ false → slot d' e ≡ slot t.server.durable e
  slot-other e d = new-other t.server.durable.sessions c sm room idle tt e d

  by-slot : (P : ℕ → Slot → Type 0) → P c sm → ((e : ℕ) (so : Slot) → slot t.server.durable e ≡ Some so → P e so) → (e : ℕ) (so : Slot) → slot d' e ≡ Some so → P e so
  by-slot P own other e so p = go (e == c) refl
    where
      go : (z : Bool) → (e == c) ≡ z → P e so
      go true q = subst (λ i. P i so) (sym (equal e c q)) (subst (P c) (same_some (sym slot-new ∙ ap (slot d') (sym (equal e c q)) ∙ p)) own)
      go false q = other e so (sym (slot-other e q) ∙ p)

  age-of : (d : ℕ) (v w : Age) → ◌≡◌ {A = Option (ℕ × Age)} (Some (d, v)) (Some (d, w)) → v ≡ w
  age-of d v w p = ap (λ z. z.1) (same_some p)

  -- no session was opened with this age
  not-owned : (r : ℕ) (w : Age) → γ.owner r ≡ Some (c, w) → w ≡ age → ⊥
  not-owned r w p e = let q = a.owned r (c, w) p in elim (q.4) [
    | inl f ↦ let it : (q.2).age ≡ w = age-of c (q.2).age w (sym (a.slots c q.2 q.3).2 ∙ ap γ.owner f ∙ p) in
        older-not age age (subst (λ z. T (is_older z age)) (it ∙ e) (greater q.2 q.3)) (subst (λ z. T (is_older z age)) (it ∙ e) (greater q.2 q.3))
    | inr f ↦ older-not age (q.2).age (subst (λ z. T (is_older z (q.2).age)) e f) (greater q.2 q.3)
  ]

  no-higher : (i j k l : ℕ) → T (nat_lt i j || ((i == j) && nat_lt k l)) → j ≤ i → (i ≡ j → l ≤ k) → ⊥
  no-higher i j k l p q r = go (nat_lt i j) (i == j) refl refl p
    where
      go : (x y : Bool) → nat_lt i j ≡ x → (i == j) ≡ y → T (x || (y && nat_lt k l)) → ⊥
      go true y e f h = absurd (low i j e q)
        where
          low : (i j : ℕ) → nat_lt i j ≡ true → j ≤ i → ⊥
          low i j e q = grind arith
      go false true e f h = absurd (high k l h (r (equal i j f)))
        where
          high : (k l : ℕ) → T (nat_lt k l) → l ≤ k → ⊥
          high k l h r = grind arith
      go false false e f h = h

  owned : (r : ℕ) (o : ℕ × Age) → γ'.owner r ≡ Some o → (r < s + 1) × ((o.1).boot ≤ g.boots o.0) × (sl : Slot) × (slot d' o.0 ≡ Some sl) × ((sl.session ≡ r) ⊎ T (is_older o.1 sl.age))
  owned r o = by-session s r (λ z. γ'.owner z ≡ Some o → (z < s + 1) × ((o.1).boot ≤ g.boots o.0) × (sl : Slot) × (slot d' o.0 ≡ Some sl) × ((sl.session ≡ z) ⊎ T (is_older o.1 sl.age)))
      (λ p. subst (λ w. (s < s + 1) × ((w.1).boot ≤ g.boots w.0) × (sl : Slot) × (slot d' w.0 ≡ Some sl) × ((sl.session ≡ s) ⊎ T (is_older w.1 sl.age))) (same_some (sym owner-own ∙ p)) (omega arith, reached.0, sm, slot-new, inl refl))
      (λ d p. let old = sym (owner-other r d) ∙ p in let q = a.owned r o old in go old q.0 q.1 q.2 q.3 q.4 (o.0 == c) refl)
    where
      go : γ.owner r ≡ Some o → r < s → (o.1).boot ≤ g.boots o.0 → (sl : Slot) → slot t.server.durable o.0 ≡ Some sl → (sl.session ≡ r) ⊎ T (is_older o.1 sl.age) → (z : Bool) → (o.0 == c) ≡ z
          → (r < s + 1) × ((o.1).boot ≤ g.boots o.0) × (sl : Slot) × (slot d' o.0 ≡ Some sl) × ((sl.session ≡ r) ⊎ T (is_older o.1 sl.age))
      go old l m sl f h true e = (
        omega arith,
        m,
        sm,
        ap (slot d') (equal o.0 c e) ∙ slot-new,
        inr (elim h [
          | inl i ↦ subst (λ w. T (is_older w age)) (age-of o.0 sl.age o.1 (sym (a.slots o.0 sl f).2 ∙ ap γ.owner i ∙ old)) (greater sl (ap (slot t.server.durable) (sym (equal o.0 c e)) ∙ f))
          | inr i ↦ older-through o.1 sl.age age i (greater sl (ap (slot t.server.durable) (sym (equal o.0 c e)) ∙ f))
        ]),
      )
      go old l m sl f h false e = (omega arith, m, sl, slot-other o.0 e ∙ f, h)

  once : (r q : ℕ) (o : ℕ × Age) → γ'.owner r ≡ Some o → γ'.owner q ≡ Some o → r ≡ q
  once r q o e f = go (r == s) (q == s) refl refl
    where
      never : (z : ℕ) → (z == s) ≡ false → γ'.owner z ≡ Some o → Some (c, age) ≡ Some o → ⊥
      never z d p i = not-owned z age (sym (owner-other z d) ∙ p ∙ sym i) refl

      go : (x y : Bool) → (r == s) ≡ x → (q == s) ≡ y → r ≡ q
      go true true i j = equal r s i ∙ sym (equal q s j)
      go true false i j = absurd (never q j f (sym owner-own ∙ ap γ'.owner (sym (equal r s i)) ∙ e))
      go false true i j = absurd (never r i e (sym owner-own ∙ ap γ'.owner (sym (equal q s j)) ∙ f))
      go false false i j = a.once r q o (sym (owner-other r i) ∙ e) (sym (owner-other q j) ∙ f)

  abbrev Told : ℕ → ℕ × Age → Clerk → Type 0
  Told r o k = (T (γ.taken r) → (k.session ≡ Some r) ⊎ T (is_older o.1 k.age)) × (T (not (γ.taken r)) → (o.1 ≡ k.age → k.session ≡ None) × T (not (is_older o.1 k.age)))

  told-new : (k : Clerk) → g.clerks c age.boot ≡ Some k → Told s (c, age) k
  told-new k p = ((λ h. absurd (refutes (γ.taken s) h not-taken)), (λ h. ((λ e. none e k.session refl), fails (is_older age k.age) (by (is_older age k.age) refl))))
    where
      none : age ≡ k.age → (o : Option ℕ) → k.session ≡ o → o ≡ None
      none e None q = refl
      none e (Some r) q = absurd (not-owned r k.age (a.in_session c age.boot r k p q).0 (sym e))

      by : (z : Bool) → is_older age k.age ≡ z → z ≡ false
      by true e = absurd (let z = a.rounds c age.boot age.round k p (less age.boot k.age.boot age.round k.age.round (sym (a.starts c age.boot k p).1) (holds (is_older age k.age) e)) in not-owned z.0 age z.1 refl)
        where
          less : (i j k l : ℕ) → i ≡ j → T (nat_lt i j || ((i == j) && nat_lt k l)) → k < l
          less i j k l p q = grind arith
      by false e = refl

  message-kept : (d : ℕ) (m : Msg) → sessions.Fits here d m → sessions.Fits later d m
  message-kept d m f = kept m f
    where
      of : (r : ℕ) → sessions.IsOf here d r → sessions.IsOf later d r
      of r f = (f.0, owner-other r (known-other r (d, f.0) f.1) ∙ f.1)

      in-slot : (r : ℕ) (P : Slot → Type 0) → (r == s) ≡ false → sessions.OfSlot here d r P → sessions.OfSlot later d r P
      in-slot r P o f so p e = by-slot (λ i so. i ≡ d → so.session ≡ r → P so) (λ i e. absurd (differs r s o (sym e))) (λ i so p j e. f so (ap (slot t.server.durable) (sym j) ∙ p) e) d so p refl e

      kept : (m : Msg) → sessions.Fits here d m → sessions.Fits later d m
      kept (Want r e x h n) f = of r f
      kept (Back r e x n h) f = of r f
      kept (Flush r e b ops) f = of r f
      kept (Room r e got ask) f = of r f
      kept (Claim r e l) f = of r f
      kept (Bye r e) f = of r f
      kept (Opened w r e) f = owner-other r (known-other r (d, w) f) ∙ f
      kept (Grant r e x n h i) f = of r f
      kept (Recall r e x n h) f = of r f
      kept (Kept r e b) f = (of r f.0, in-slot r (λ sl. T (has sl.window b)) (known-other r (d, (f.0).0) (f.0).1) f.1)
      kept (Ids r e got n first) f = of r f
      kept (Ended r low mask) f = (omega (arith, f.0), subst (λ z. T (not z)) (sym (opened-other t.server.durable.sessions c sm room idle tt r (before f.0))) f.1, in-slot r (λ sl. (sl.window.low ≡ low) × (sl.window.mask ≡ mask)) (before f.0) f.2)
        where
          before : r < s → (r == s) ≡ false
          before l = below r s l
            where
              below : (i j : ℕ) → i < j → (i == j) ≡ false
              below i j l = grind arith
      kept _ f = f

  pub open-sessions : sessions.SessionsAgree later
  open-sessions = record {
    sixteen = length-set t.server.durable.sessions c (Some sm) ∙ a.sixteen;
    next = omega arith;
    slots = by-slot (λ e so. (suc zero ≤ so.session) × (so.session < s + 1) × (γ'.owner so.session ≡ Some (e, so.age))) (a.next, omega arith, owner-own)
        (λ e so p. let q = a.slots e so p in (q.0, (let l = q.1 in omega arith), owner-other so.session (known-other so.session (e, so.age) q.2) ∙ q.2));
    owned = owned;
    once = once;
    taken = λ r k. by-session s r (λ z. T (γ.taken z) → T (is_some (γ'.owner z))) (λ k. subst (λ o. T (is_some o)) (sym owner-own) tt) (λ d k. subst (λ o. T (is_some o)) (sym (owner-other r d)) (a.taken r k)) k;
    told = λ r o k p q. by-session s r (λ z. γ'.owner z ≡ Some o → Told z o k)
        (λ p. subst (λ w. g.clerks w.0 (w.1).boot ≡ Some k → Told s w k) (same_some (sym owner-own ∙ p)) (told-new k) q) (λ d p. a.told r o k (sym (owner-other r d) ∙ p) q) p;
    starts = a.starts;
    rounds = λ d e n k p l. let z = a.rounds d e n k p l in (z.0, owner-other z.0 (known-other z.0 _ z.1) ∙ z.1);
    running = a.running;
    in_session = λ d e r k p q. let z = a.in_session d e r k p q in (owner-other r (known-other r _ z.0) ∙ z.0, z.1);
    without = a.without;
    current = current;
    sound = a.sound;
    messages = each-map (λ m. sessions.Fits here m.0 m.1) (λ m. sessions.Fits later m.0 m.1) (g.pool ++ t.sent) (λ m. message-kept m.0 m.1) a.messages;
  }
    where
      current : (d e r : ℕ) (k : Clerk) → g.running d ≡ Some e → g.clerks d e ≡ Some k → k.session ≡ Some r → (sl : Slot) × (slot d' d ≡ Some sl) × (sl.session ≡ r)
      current d e r k p q f = let o = a.current d e r k p q f in go o.0 o.1 o.2 (d == c) refl
        where
          go : (so : Slot) → slot t.server.durable d ≡ Some so → so.session ≡ r → (z : Bool) → (d == c) ≡ z → (sl : Slot) × (slot d' d ≡ Some sl) × (sl.session ≡ r)
          go so h j true i = absurd (no-higher k.age.boot age.boot k.age.round age.round
              (subst (λ w. T (is_older w age)) (age-of d so.age k.age (sym (a.slots d so h).2 ∙ ap γ.owner j ∙ (a.in_session d e r k q f).0)) (greater so (ap (slot t.server.durable) (sym (equal d c i)) ∙ h)))
              (let x = (a.running d e p).0 in let y = (a.starts d e k q).1 in let z = ap g.boots (equal d c i) in let v = reached.0 in omega arith)
              (λ m. reached.1 k (ap (λ z. g.clerks z age.boot) (sym (equal d c i)) ∙ ap (g.clerks d) (sym m ∙ (a.starts d e k q).1) ∙ q)))
          go so h j false i = (so, slot-other d i ∙ h, j)
