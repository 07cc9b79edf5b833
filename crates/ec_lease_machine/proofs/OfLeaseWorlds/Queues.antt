-- Queued calls may begin behind each step of a world with leases, whose world is one that the machine without leases reaches.
use Rattle.std.proofs.Common.{◌≡◌, refl, sym, ap, subst, ◌∙◌, inl, inr, ℕ, Bool, true, false, ◌==◌, ◌||◌, cond, List, [], ◌∷◌, ◌++◌, Some, None}
use Rattle.std.specs.Prelude.{Contains}
use Rattle.std.specs.Bool.{OnTrue}
use Rattle.std.specs.List.{list_any}
use Rattle.std.proofs.lemmas.List.Elements.{Contains-append_left, Contains-append_right, Contains-push, Contains-push_cases}
use Rattle.std.proofs.lemmas.List.Folds.{list_any-append}
use Rattle.ec_base.specs.Tables.{at, at_or, or_else, put, without}
use Rattle.ec_plain.specs.declared.call.Call.{Call}
use Rattle.ec_history.specs.History.{Each}
use Rattle.ec_history.specs.Placing.{Agrees, EachLine, Unanswered, is_numbered}
use Rattle.ec_history.specs.declared.shown.Shown.{Shown}
use Rattle.ec_history.specs.declared.shown.Shown.TheVariants as show
use Rattle.ec_protocol.specs.World.{Moving}
use Rattle.ec_protocol.specs.declared.world.Event.{Event}
use Rattle.ec_protocol.specs.declared.world.Event.TheVariants as of_world
use Rattle.ec_protocol.specs.declared.world.World.{World}
use Rattle.ec_coherence.proofs.ForCommits.Needs.{each-of}
use Rattle.ec_coherence.proofs.ForServer.Tables.{at-put, at-without}
use Rattle.ec_lawful.proofs.OfClerkSteps.ForCalls.CallFrames.{lines-append}
use Rattle.ec_lawful.specs.Calls.{EachCall, IsOf}
use Rattle.ec_lease_machine.specs.OfQueues.Queued.{MayResume}
use Rattle.ec_lawful.specs.Steps.{IsNewIn, MayHappen}
use Rattle.ec_lease_machine.specs.OfQueues.Adds.{AddsCalls, MayBe}
use Rattle.ec_lease_machine.specs.OfLeaseWorlds.Queues.{CallsAreApart, QueuesAgree}
use Rattle.ec_base.proofs.Numbers.{same-self as same, flip, equal}
use Rattle.ec_history.proofs.PlacingLemmas.{each-turn}

-- numbers that differ
abbrev pub Apart : ℕ → ℕ → ℕ → Call → Type 0
Apart l k c cl = (k == l) ≡ false

pub true-false : {A : Type 0} → true ≡ false → A
true-false e = absurd (no e)
  where
    no : true ≡ false → ⊥
    no e = cc

-- Lines of other numbers.

other-agrees : (l c : ℕ) (cl : Call) (s : Shown) → IsOf (Apart l) s → Agrees l c cl s
other-agrees l c cl (show.Waits k d dl) p = subst (λ z. OnTrue z ((d ≡ c) × (dl ≡ cl))) (sym p) tt
other-agrees l c cl (show.Answered k d dl a op) p = subst (λ z. OnTrue z ((d ≡ c) × (dl ≡ cl))) (sym p) tt
other-agrees l c cl (show.Durable d ns) p = tt
other-agrees l c cl (show.Ended d ns) p = tt
other-agrees l c cl (show.Unseen d) p = tt
other-agrees l c cl (show.Told d ns) p = tt
other-agrees l c cl (show.Crashed d) p = tt
other-agrees l c cl show.Stopped p = tt
other-agrees l c cl show.Started p = tt
other-agrees l c cl show.Nothing p = tt
other-agrees l c cl show.Unsettled p = tt
other-agrees l c cl (show.Bad n k) p = tt
other-agrees l c cl (show.DiskBad n) p = tt
other-agrees l c cl (show.Limit n k) p = tt
other-agrees l c cl (show.Spent n) p = tt

other-unanswered : (l : ℕ) (s : Shown) → IsOf (Apart l) s → Unanswered l s
other-unanswered l (show.Answered k d dl a op) p = p
other-unanswered l (show.Waits k d dl) p = tt
other-unanswered l (show.Durable d ns) p = tt
other-unanswered l (show.Ended d ns) p = tt
other-unanswered l (show.Unseen d) p = tt
other-unanswered l (show.Told d ns) p = tt
other-unanswered l (show.Crashed d) p = tt
other-unanswered l show.Stopped p = tt
other-unanswered l show.Started p = tt
other-unanswered l show.Nothing p = tt
other-unanswered l show.Unsettled p = tt
other-unanswered l (show.Bad n k) p = tt
other-unanswered l (show.DiskBad n) p = tt
other-unanswered l (show.Limit n k) p = tt
other-unanswered l (show.Spent n) p = tt

-- A call that may begin may still, where a step shows lines of other numbers.
module _ (w : World) (c l : ℕ) (cl : Call) (may : MayResume w c l cl) where
  pub unused : EachCall (Apart l) w.calls
  unused d n k dl q = may.unused d n k dl q

  pub may-still : (m : Moving) → AddsCalls (Apart l) w m → MayResume m.world c l cl
  may-still m t = record {
    shown = ap (list_any (is_numbered l)) t.lines ∙ list_any-append (is_numbered l) w.shown m.shown ∙ ap (λ z. z || list_any (is_numbered l) m.shown) may.shown;
    own = subst (EachLine (Agrees l c cl)) (sym t.lines) (lines-append (Agrees l c cl) w.shown m.shown may.own (each-turn (IsOf (Apart l)) (Agrees l c cl) (other-agrees l c cl) m.shown t.piece));
    unanswered = subst (EachLine (Unanswered l)) (sym t.lines) (lines-append (Unanswered l) w.shown m.shown may.unanswered (each-turn (IsOf (Apart l)) (Unanswered l) (other-unanswered l) m.shown t.piece));
    unused = λ d n k dl q. t.calls d n k dl q;
    bounded = may.bounded;
  }

  -- a new line has another number
  pub new-apart : (k : ℕ) → IsNewIn w k → (k == l) ≡ false
  new-apart k new = by (k == l) refl
    where
      by : (z : Bool) → (k == l) ≡ z → (k == l) ≡ false
      by false e = e
      by true e = true-false (sym may.shown ∙ ap (λ j. list_any (is_numbered j) w.shown) (sym (equal k l e)) ∙ new.unshown)

  pub event-apart : (e : Event) → MayHappen w e → MayBe (Apart l) e
  event-apart (of_world.Call d k dl) h = new-apart k h.0
  event-apart (of_world.Push d n) h = tt
  event-apart (of_world.Resend d) h = tt
  event-apart (of_world.Cut d) h = tt
  event-apart (of_world.Uncut d) h = tt
  event-apart (of_world.Drop n) h = tt
  event-apart (of_world.Repeat n) h = tt
  event-apart (of_world.Deliver n) h = tt
  event-apart (of_world.Crash d) h = tt
  event-apart (of_world.End d) h = tt
  event-apart of_world.Stop h = tt
  event-apart (of_world.Arm n ch) h = tt
  event-apart of_world.Restart h = tt

-- the lines of a number are of one clerk
same-clerk : (l c d : ℕ) (cl dl : Call) (ss : List Shown) → list_any (is_numbered l) ss ≡ true → EachLine (Agrees l c cl) ss → EachLine (Agrees l d dl) ss → c ≡ d
same-clerk l c d cl dl [] p a b = true-false (sym p)
same-clerk l c d cl dl (s ∷ ss) p a b = by (is_numbered l s) refl (λ q. same-clerk l c d cl dl ss q a.1 b.1) p
  where
    its : (k e f : ℕ) (xl yl : Call) → (z : Bool) → (k == l) ≡ z → z ≡ true → OnTrue (k == l) ((e ≡ f) × (xl ≡ yl)) → e ≡ f
    its k e f xl yl true q t o = (subst (λ z. OnTrue z ((e ≡ f) × (xl ≡ yl))) q o).0
    its k e f xl yl false q t o = true-false (sym t)

    one : (s : Shown) → is_numbered l s ≡ true → Agrees l c cl s → Agrees l d dl s → c ≡ d
    one (show.Waits k e xl) q x y = sym (its k e c xl cl (k == l) refl q x) ∙ its k e d xl dl (k == l) refl q y
    one (show.Answered k e xl r op) q x y = sym (its k e c xl cl (k == l) refl q x) ∙ its k e d xl dl (k == l) refl q y
    one (show.Durable e ns) q x y = true-false (sym q)
    one (show.Ended e ns) q x y = true-false (sym q)
    one (show.Unseen e) q x y = true-false (sym q)
    one (show.Told e ns) q x y = true-false (sym q)
    one (show.Crashed e) q x y = true-false (sym q)
    one show.Stopped q x y = true-false (sym q)
    one show.Started q x y = true-false (sym q)
    one show.Nothing q x y = true-false (sym q)
    one show.Unsettled q x y = true-false (sym q)
    one (show.Bad n k) q x y = true-false (sym q)
    one (show.DiskBad n) q x y = true-false (sym q)
    one (show.Limit n k) q x y = true-false (sym q)
    one (show.Spent n) q x y = true-false (sym q)

    by : (z : Bool) → is_numbered l s ≡ z → (list_any (is_numbered l) ss ≡ true → c ≡ d) → (z || list_any (is_numbered l) ss) ≡ true → c ≡ d
    by true q more p = one s q a.0 b.0
    by false q more p = more p

-- Queues.

abbrev Queue : Type 0
Queue = List (ℕ × Call)

pub queues-same : (f h : ℕ → Queue) (w : World) → ((c : ℕ) → h c ≡ f c) → QueuesAgree f w → QueuesAgree h w
queues-same f h w q a = record { may = λ c l cl i. a.may c l cl (subst (λ xs. Contains xs (l, cl)) (q c) i); apart = λ c. subst CallsAreApart (sym (q c)) (a.apart c) }

pub queues-on : (f : ℕ → Queue) (w : World) (m : Moving) → ((c l : ℕ) (cl : Call) → Contains (f c) (l, cl) → AddsCalls (Apart l) w m) → QueuesAgree f w → QueuesAgree f m.world
queues-on f w m t a = record { may = λ c l cl i. may-still w c l cl (a.may c l cl i) m (t c l cl i); apart = a.apart }

-- the queue of one clerk is this
abbrev pub but : ℕ → Queue → (ℕ → Queue) → ℕ → Queue
but c qs f d = cond (d == c) qs (f d)

contains-tail : (q : ℕ × Call) (qs : Queue) (r : ℕ × Call) → Contains qs r → Contains (q ∷ qs) r
contains-tail q qs r i = Contains-append_right (q ∷ []) qs r i

contains-head : (q : ℕ × Call) (qs : Queue) → Contains (q ∷ qs) q
contains-head q qs = Contains-append_left (q ∷ []) qs q (Contains-push [] q)

-- the first call of a clerk's queue
module _ (f : ℕ → Queue) (w : World) (c : ℕ) (q : ℕ × Call) (qs : Queue) (a : QueuesAgree (but c (q ∷ qs) f) w) where
  pub head-in : Contains (but c (q ∷ qs) f c) q
  head-in = subst (λ z. Contains (cond z (q ∷ qs) (f c)) q) (sym (same c)) (contains-head q qs)

  pub head-may : MayResume w c q.0 q.1
  head-may = a.may c q.0 q.1 head-in

  apart-own : CallsAreApart (q ∷ qs)
  apart-own = subst (λ z. CallsAreApart (cond z (q ∷ qs) (f c))) (same c) (a.apart c)

  pub in-rest : (d : ℕ) (r : ℕ × Call) → Contains (but c qs f d) r → Contains (but c (q ∷ qs) f d) r
  in-rest d r i = by (d == c) i
    where
      by : (z : Bool) → Contains (cond z qs (f d)) r → Contains (cond z (q ∷ qs) (f d)) r
      by true i = contains-tail q qs r i
      by false i = i

  -- another queued call has another line
  pub head-apart : (d l : ℕ) (cl : Call) → Contains (but c qs f d) (l, cl) → (q.0 == l) ≡ false
  head-apart d l cl i = by (d == c) refl
    where
      its : MayResume w d l cl
      its = a.may d l cl (in-rest d (l, cl) i)

      differ : (z : Bool) → (q.0 == l) ≡ z → (d == c) ≡ false → (q.0 == l) ≡ false
      differ false e n = e
      differ true e n =
          let k : q.0 ≡ l = equal q.0 l e in
          let is : c ≡ d = same-clerk l c d q.1 cl w.shown its.shown (subst (λ j. EachLine (Agrees j c q.1) w.shown) k head-may.own) its.own in
          true-false (sym (ap (λ j. d == j) is ∙ same d) ∙ n)

      by : (z : Bool) → (d == c) ≡ z → (q.0 == l) ≡ false
      by true e = flip l q.0 (each-of (λ r. (r.0 == q.0) ≡ false) qs (l, cl) apart-own.0 (subst (λ z. Contains (cond z qs (f d)) (l, cl)) e i))
      by false e = differ (q.0 == l) refl e

  pub rest-agrees : QueuesAgree (but c qs f) w
  rest-agrees = record { may = λ d l cl i. a.may d l cl (in-rest d (l, cl) i); apart = λ d. its d }
    where
      its : (d : ℕ) → CallsAreApart (but c qs f d)
      its d = by (d == c) refl (a.apart d)
        where
          by : (z : Bool) → (d == c) ≡ z → CallsAreApart (cond z (q ∷ qs) (f d)) → CallsAreApart (cond z qs (f d))
          by true e p = p.1
          by false e p = p

-- A queue that grows.

each-contained : (P : ℕ × Call → Type 0) (xs : Queue) → ((r : ℕ × Call) → Contains xs r → P r) → Each P xs
each-contained P [] f = tt
each-contained P (x ∷ xs) f = (f x (contains-head x xs), each-contained P xs (λ r i. f r (contains-tail x xs r i)))

each-push : (P : ℕ × Call → Type 0) (xs : Queue) (q : ℕ × Call) → Each P xs → P q → Each P (xs ++ q ∷ [])
each-push P [] q e p = (p, tt)
each-push P (x ∷ xs) q e p = (e.0, each-push P xs q e.1 p)

apart-push : (xs : Queue) (q : ℕ × Call) → CallsAreApart xs → Each (λ r. (q.0 == r.0) ≡ false) xs → CallsAreApart (xs ++ q ∷ [])
apart-push [] q a e = (tt, tt)
apart-push (x ∷ xs) q a e = (each-push (λ r. (r.0 == x.0) ≡ false) xs q a.0 e.0, apart-push xs q a.1 e.1)

pub queue-grows : (f : ℕ → Queue) (w : World) (c : ℕ) (q : ℕ × Call) → MayResume w c q.0 q.1 → ((d l : ℕ) (cl : Call) → Contains (f d) (l, cl) → (q.0 == l) ≡ false) → QueuesAgree f w → QueuesAgree (but c (f c ++ q ∷ []) f) w
queue-grows f w c q may new a = record { may = λ d l cl i. its d l cl (d == c) refl i; apart = λ d. apart d (d == c) refl }
  where
    its : (d l : ℕ) (cl : Call) → (z : Bool) → (d == c) ≡ z → Contains (cond z (f c ++ q ∷ []) (f d)) (l, cl) → MayResume w d l cl
    its d l cl false e i = a.may d l cl i
    its d l cl true e i = elim (Contains-push_cases (f c) q (l, cl) i) [
      | inl old ↦ subst (λ j. MayResume w j l cl) (sym (equal d c e)) (a.may c l cl old)
      | inr now ↦ subst (λ j. MayResume w j l cl) (sym (equal d c e)) (subst (λ r. MayResume w c r.0 r.1) now may)
    ]

    apart : (d : ℕ) (z : Bool) → (d == c) ≡ z → CallsAreApart (cond (d == c) (f c ++ q ∷ []) (f d))
    apart d false e = subst (λ z. CallsAreApart (cond z (f c ++ q ∷ []) (f d))) (sym e) (a.apart d)
    apart d true e = subst (λ z. CallsAreApart (cond z (f c ++ q ∷ []) (f d))) (sym e) (apart-push (f c) q (a.apart c) (each-contained (λ r. (q.0 == r.0) ≡ false) (f c) (λ r i. new c r.0 r.1 i)))

-- Tables.

pub at-put-queue : (c d : ℕ) (qs : Queue) (es : List (ℕ × Queue)) → at_or [] d (put c qs es) ≡ but c qs (λ k. at_or [] k es) d
at-put-queue c d qs es = ap (or_else []) (at-put d c qs es) ∙ by (d == c)
  where
    by : (z : Bool) → or_else [] (cond z (Some qs) (at d es)) ≡ cond z qs (at_or [] d es)
    by true = refl
    by false = refl

pub at-without-queue : (c d : ℕ) (es : List (ℕ × Queue)) → at_or [] d (without c es) ≡ but c [] (λ k. at_or [] k es) d
at-without-queue c d es = ap (or_else []) (at-without d c es) ∙ by (d == c)
  where
    by : (z : Bool) → or_else {X = Queue} [] (cond z None (at d es)) ≡ cond z [] (at_or [] d es)
    by true = refl
    by false = refl
