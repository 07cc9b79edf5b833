-- A call begins whose line was shown before.
use Rattle.std.proofs.Common.{◌≡◌, refl, sym, ap, subst, ◌∙◌, inr, arith, ◌≤◌, ◌+◌, ◌-◌, ℕ, T, Bool, true, false, ◌==◌, ◌&&◌, cond, List, [], ◌∷◌, ◌++◌, Some}
use Rattle.std.proofs.lemmas.Bool.{and_parts}
use Rattle.std.proofs.lemmas.List.Folds.{list_any-append}
use Rattle.ec_plain.specs.BoundedCalls.{is_bounded}
use Rattle.ec_plain.specs.declared.call.Call.{Call}
use Rattle.ec_history.specs.History.{Each}
use Rattle.ec_history.proofs.OfLaws.ForPlacing.Numbers.{each-append}
use Rattle.ec_protocol.specs.Clerk.{add_call}
use Rattle.ec_protocol.specs.declared.clerk.Clerk.{Clerk}
use Rattle.ec_protocol.specs.declared.clerk.Waiting.{Waiting}
use Rattle.ec_coherence.specs.System.{System}
use Rattle.ec_coherence.specs.Events.{EventsAgree}
use Rattle.ec_coherence.specs.Steps.{call_of}
use Rattle.ec_coherence.proofs.ForBatches.ClerkIn.{start-same}
use Rattle.ec_coherence.proofs.ForServer.Tables.{same_some}
use Rattle.ec_lawful.specs.OfClerkSteps.Calls.{HaveDistinctNumbers, Began, CallsAgree, IsOpenCall, StartCalls, has_number}
use Rattle.ec_lawful.specs.OfClerkSteps.Waits.{AreAtRest, AreInTurn, HasLine, does_wait}
use Rattle.ec_lawful.specs.OfClerkSteps.CallLaws.{called}
use Rattle.ec_coherence.specs.Comes.{begun_at}
use Rattle.ec_lawful.proofs.OfClerkSteps.ForCalls.Begin.{call-put}
use Rattle.ec_lawful.proofs.OfClerkSteps.ForCalls.Lined.{began-last}
use Rattle.ec_lawful.proofs.OfClerkSteps.ForCalls.Quiet.{other-start, split-start}
use Rattle.ec_lease_machine.specs.OfQueues.Queued.{MayBegin}
use Rattle.ec_base.proofs.Numbers.{same-self as same, equal}
use Rattle.ec_base.proofs.Bools.{or-right as or_next, or_first, holds-true as holds}
use Rattle.ec_history.proofs.OfLaws.ForPlacing.BasesAlike.{each-map}

-- one more call, with a greater number
apart-more : (ws : List Waiting) (v : Waiting) → Each (λ w. (v.no == w.no) ≡ false) ws → HaveDistinctNumbers ws → HaveDistinctNumbers (ws ++ v ∷ [])
apart-more [] v n a = (tt, tt)
apart-more (w ∷ ws) v n a = (each-append (λ x. (x.no == w.no) ≡ false) ws (v ∷ []) a.0 (n.0, tt), apart-more ws v n.1 a.1)

module _ (g : System) (events : EventsAgree g) (c b l : ℕ) (cl : Call) (k : Clerk) (run : g.running c ≡ Some b) (there : g.clerks c b ≡ Some k) (may : MayBegin g c l cl) (bounded : T (is_bounded cl)) (q : CallsAgree g) where
  abbrev n : ℕ
  n = k.calls + 1

  abbrev h : System
  h = called g c b l cl k

  abbrev v : Waiting
  v = record { no = n; call = cl; begun = k.log.next - 1 }

  its : StartCalls g c b k
  its = q.starts c b k run there

  own-call : call_of c n h.calls ≡ Some (l, cl)
  own-call = call-put c n c n (l, cl) g.calls ∙ ap (λ z. cond (z && (n == n)) (Some (l, cl)) (call_of c n g.calls)) (same c) ∙ ap (λ z. cond z (Some (l, cl)) (call_of c n g.calls)) (same n)

  other-call : (f m : ℕ) → ((f == c) && (m == n)) ≡ false → call_of f m h.calls ≡ call_of f m g.calls
  other-call f m e = call-put c n f m (l, cl) g.calls ∙ ap (λ z. cond z (Some (l, cl)) (call_of f m g.calls)) e

  less : (m : ℕ) → m ≤ k.calls → ((c == c) && (m == n)) ≡ false
  less m le = ap (λ z. (c == c) && z) (smaller m k.calls le) ∙ and_false (c == c)
    where
      smaller : (m j : ℕ) → m ≤ j → (m == j + 1) ≡ false
      smaller m j l = grind (arith, l)

      and_false : (x : Bool) → (x && false) ≡ false
      and_false true = refl
      and_false false = refl

  -- the other calls of the start keep their lines
  lined-still : (w : Waiting) → w.no ≤ k.calls → (x : (m : ℕ) × (call_of c w.no g.calls ≡ Some (m, w.call)) × Began g c b k w m) → (m : ℕ) × (call_of c w.no h.calls ≡ Some (m, w.call)) × Began h c b (add_call cl k) w m
  lined-still w le x = (x.0, other-call c w.no (less w.no le) ∙ x.1, record { now = (x.2).now; earlier = (x.2).earlier })

  lined-all : (ws : List Waiting) → Each (λ w. w.no ≤ k.calls) ws → Each (λ w. (m : ℕ) × (call_of c w.no g.calls ≡ Some (m, w.call)) × Began g c b k w m) ws → Each (λ w. (m : ℕ) × (call_of c w.no h.calls ≡ Some (m, w.call)) × Began h c b (add_call cl k) w m) ws
  lined-all [] le x = tt
  lined-all (w ∷ ws) le x = (lined-still w le.0 x.0, lined-all ws le.1 x.1)

  next-one : (j : ℕ) → j + 1 ≡ k.log.next → (k.log.next - 1) + 1 ≡ k.log.next
  next-one j e = omega (arith, e)

  began-now : Began h c b (add_call cl k) v l
  began-now = record {
    now = λ e. next-one _ (events.counts c b k run there);
    earlier = λ e. began-last g events c b k run there (k.log.next - 1) (next-one _ (events.counts c b k run there)) (begun_at g c b l);
  }

  own-start : StartCalls h c b (add_call cl k)
  own-start = record {
    lined = each-append (λ w. (m : ℕ) × (call_of c w.no h.calls ≡ Some (m, w.call)) × Began h c b (add_call cl k) w m) k.waiting (v ∷ []) (lined-all k.waiting its.numbers its.lined) ((l, own-call, began-now), tt);
    apart = apart-more k.waiting v (each-map (λ w. w.no ≤ k.calls) (λ w. (n == w.no) ≡ false) (λ w le. greater w.no k.calls le) k.waiting its.numbers) its.apart;
    numbers = each-append (λ w. w.no ≤ n) k.waiting (v ∷ []) (each-map (λ w. w.no ≤ k.calls) (λ w. w.no ≤ n) (λ w le. omega (arith, le)) k.waiting its.numbers) (omega arith, tt);
    own = its.own;
    begun = its.begun;
    lost = its.lost;
  }
    where
      greater : (m j : ℕ) → m ≤ j → (j + 1 == m) ≡ false
      greater m j l = grind (arith, l)

  -- another start
  left : (f a : ℕ) (m : Clerk) → g.running f ≡ Some a → ((f == c) && (a == b)) ≡ false → StartCalls g f a m → StartCalls h f a m
  left f a m r e s = record {
    lined = each-map (λ w. (j : ℕ) × (call_of f w.no g.calls ≡ Some (j, w.call)) × Began g f a m w j) (λ w. (j : ℕ) × (call_of f w.no h.calls ≡ Some (j, w.call)) × Began h f a m w j)
        (λ w x. (x.0, other-call f w.no (ap (λ z. z && (w.no == n)) apart) ∙ x.1, record { now = (x.2).now; earlier = (x.2).earlier })) m.waiting s.lined;
    apart = s.apart;
    numbers = s.numbers;
    own = s.own;
    begun = s.begun;
    lost = s.lost;
  }
    where
      -- the clerk's running start is one
      apart : (f == c) ≡ false
      apart = go (f == c) refl
        where
          go : (x : Bool) → (f == c) ≡ x → x ≡ false
          go false i = refl
          go true i =
              let one : a ≡ b = same_some (sym r ∙ ap g.running (equal f c i) ∙ run) in
              absurd (two (sym (ap (λ z. (z && (a == b))) i ∙ ap (λ z. z == b) one ∙ same b) ∙ e))
            where
              two : true ≡ false → ⊥
              two e = cc

  any-start : (f a : ℕ) (m : Clerk) → g.running f ≡ Some a → h.clerks f a ≡ Some m → StartCalls h f a m
  any-start f a m r p = split-start c b f a m (add_call cl k) g.clerks (λ x y z. g.running x ≡ Some y → StartCalls h x y z) p (λ i. own-start) (λ e i j. left f a m j e (q.starts f a m j i)) r

  -- a call that was under way goes on waiting
  still-open : (f m j : ℕ) (dl : Call) → IsOpenCall g f m j dl → IsOpenCall h f m j dl
  still-open f m j dl o = go ((f == c) && (o.boot == b)) refl
    where
      go : (x : Bool) → ((f == c) && (o.boot == b)) ≡ x → IsOpenCall h f m j dl
      go true e =
          let two = and_parts (f == c) (o.boot == b) e in
          let one : o.clerk ≡ k = same_some (sym o.stands ∙ ap (λ z. g.clerks z o.boot) (equal f c two.0) ∙ ap (g.clerks c) (equal o.boot b two.1) ∙ there) in
          record {
            boot = b;
            clerk = add_call cl k;
            running = ap g.running (equal f c two.0) ∙ run;
            stands = ap (λ z. h.clerks z b) (equal f c two.0) ∙ start-same c b (add_call cl k) g.clerks;
            waits = subst T (sym (list_any-append (λ w. w.no == m) k.waiting (v ∷ []))) (or_first (has_number m k.waiting) _ (subst (λ z. T (has_number m z.waiting)) one o.waits));
            bounded = o.bounded;
            own = o.own;
            unanswered = o.unanswered;
          }
      go false e = record { boot = o.boot; clerk = o.clerk; running = o.running; stands = other-start c b f o.boot (add_call cl k) g.clerks e ∙ o.stands; waits = o.waits; bounded = o.bounded; own = o.own; unanswered = o.unanswered }

  calls-now : (f m j : ℕ) (dl : Call) → call_of f m h.calls ≡ Some (j, dl) → IsOpenCall h f m j dl
  calls-now f m j dl x = go ((f == c) && (m == n)) refl
    where
      go : (y : Bool) → ((f == c) && (m == n)) ≡ y → IsOpenCall h f m j dl
      go false e = still-open f m j dl (q.calls f m j dl (sym (other-call f m e) ∙ x))
      go true e =
          let two = and_parts (f == c) (m == n) e in
          let pair : (l, cl) ≡ (j, dl) = same_some (sym own-call ∙ ap (λ z. call_of z n h.calls) (sym (equal f c two.0)) ∙ ap (λ z. call_of f z h.calls) (sym (equal m n two.1)) ∙ x) in
          subst (λ z. IsOpenCall h z m j dl) (sym (equal f c two.0)) (subst (λ z. IsOpenCall h c z j dl) (sym (equal m n two.1)) (subst (λ z. IsOpenCall h c n z dl) (ap (λ z. z.0) pair) (subst (IsOpenCall h c n l) (ap (λ z. z.1) pair) (record {
            boot = b;
            clerk = add_call cl k;
            running = run;
            stands = start-same c b (add_call cl k) g.clerks;
            waits = subst T (sym (list_any-append (λ w. w.no == n) k.waiting (v ∷ []))) (or_next (has_number n k.waiting) _ (or_first (n == n) false (holds (n == n) (same n))));
            bounded = bounded;
            own = may.own;
            unanswered = may.unanswered;
          }))))

  lines-now : (f o m i j : ℕ) (dl el : Call) → call_of f m h.calls ≡ Some (j, dl) → call_of o i h.calls ≡ Some (j, el) → (f ≡ o) × (m ≡ i)
  lines-now f o m i j dl el x y = go ((f == c) && (m == n)) ((o == c) && (i == n)) refl refl
    where
      old-line : (a r : ℕ) (t : Call) → ((a == c) && (r == n)) ≡ false → call_of a r h.calls ≡ Some (j, t) → call_of a r g.calls ≡ Some (j, t)
      old-line a r t e z = sym (other-call a r e) ∙ z

      line-is : (a r : ℕ) (t : Call) → ((a == c) && (r == n)) ≡ true → call_of a r h.calls ≡ Some (j, t) → j ≡ l
      line-is a r t e z =
          let two = and_parts (a == c) (r == n) e in
          sym (ap (λ p. p.0) (same_some (sym own-call ∙ ap (λ p. call_of p n h.calls) (sym (equal a c two.0)) ∙ ap (λ p. call_of a p h.calls) (sym (equal r n two.1)) ∙ z)))

      clash : (a r : ℕ) (t : Call) → call_of a r g.calls ≡ Some (j, t) → j ≡ l → ⊥
      clash a r t z e = two (sym (may.unused a r j t z) ∙ ap (λ p. p == l) e ∙ same l)
        where
          two : false ≡ true → ⊥
          two e = cc

      go : (y z : Bool) → ((f == c) && (m == n)) ≡ y → ((o == c) && (i == n)) ≡ z → (f ≡ o) × (m ≡ i)
      go false false e d = q.lines f o m i j dl el (old-line f m dl e x) (old-line o i el d y)
      go true false e d = absurd (clash o i el (old-line o i el d y) (line-is f m dl e x))
      go false true e d = absurd (clash f m dl (old-line f m dl e x) (line-is o i el d y))
      go true true e d =
          let s = and_parts (f == c) (m == n) e in
          let t = and_parts (o == c) (i == n) d in
          (equal f c s.0 ∙ sym (equal o c t.0), equal m n s.1 ∙ sym (equal i n t.1))

  pub begun-calls : CallsAgree h
  begun-calls = record { starts = any-start; calls = calls-now; lines = lines-now }

  -- the earlier ones keep their lines
  pub begun-lines : AreAtRest g → Each (HasLine h c) k.waiting
  begun-lines rest = still k.waiting its.numbers (rest c b k run there).calls
    where
      still : (ws : List Waiting) → Each (λ w. w.no ≤ k.calls) ws → Each (λ w. T (does_wait w k) × HasLine g c w) ws → Each (HasLine h c) ws
      still [] le r = tt
      still (w ∷ ws) le r = ((((r.0).1).0, other-call c w.no (less w.no le.0) ∙ ((r.0).1).1, ((r.0).1).2), still ws le.1 r.1)

  pub begun-call : call_of c n h.calls ≡ Some (l, cl)
  begun-call = own-call

  pub begun-turn : AreAtRest g → AreInTurn h c (add_call cl k)
  begun-turn rest = inr (k.waiting, v, refl, still k.waiting its.numbers (rest c b k run there).calls)
    where
      still : (ws : List Waiting) → Each (λ w. w.no ≤ k.calls) ws → Each (λ w. T (does_wait w k) × HasLine g c w) ws → Each (λ w. T (does_wait w (add_call cl k)) × HasLine h c w) ws
      still [] le r = tt
      still (w ∷ ws) le r = (((r.0).0, (((r.0).1).0, other-call c w.no (less w.no le.0) ∙ ((r.0).1).1, ((r.0).1).2)), still ws le.1 r.1)
