-- A clerk learns that its session has ended: it owes what it lost, and a line tells it.
use Rattle.std.proofs.Common.{◌≡◌, refl, sym, ap, subst, ◌∙◌, inr, ◌⊎◌, arith, ◌<◌, ◌≤◌, ◌+◌, ℕ, Bool, true, false, not, ◌==◌, ◌&&◌, ◌||◌, cond, T, List, [], ◌∷◌, ◌++◌, length, Option, Some, None, append-nil}
use Rattle.std.specs.Prelude.{is_some, nat_lt}
use Rattle.std.specs.List.{filter}
use Rattle.std.proofs.lemmas.Bool.{and_parts, true≢false}
use Rattle.ec_base.specs.Ages.{is_older}
use Rattle.ec_base.specs.Tables.{keys}
use Rattle.ec_base.specs.declared.ids.Age.{Age}
use Rattle.ec_history.specs.History.{Op, numbers, owed}
use Rattle.ec_history.specs.Legal.{is_op_of}
use Rattle.ec_history.specs.Placing.{MayFollow, begun, place, same_numbers, watch}
use Rattle.ec_history.specs.declared.watch.Watch.{Watch}
use Rattle.ec_history.specs.declared.shown.Shown.{Shown}
use Rattle.ec_history.specs.declared.shown.Shown.TheVariants as show
use Rattle.ec_history.proofs.OfLaws.ForPlacing.Cuts.{placeable-step}
use Rattle.ec_history.proofs.OfLaws.ForPlacing.Late.{place-no_call}
use Rattle.ec_history.proofs.OfLaws.ForPlacing.More.{watch-step}
use Rattle.ec_history.proofs.OfLaws.ForPlacing.Sets.{same-self}
use Rattle.ec_order.specs.Order.{Issued}
use Rattle.ec_sessions.specs.declared.slot.Slot.{Slot}
use Rattle.ec_sessions.specs.declared.window.Window.{Window}
use Rattle.ec_wire.specs.Messages.{is_sound}
use Rattle.ec_wire.specs.declared.msg.Msg.{Msg}
use Rattle.ec_wire.specs.declared.msg.Msg.TheVariants.{Ended, Hello}
use Rattle.ec_durable.specs.Durable.{slot}
use Rattle.ec_log.specs.Log.{lost}
use Rattle.ec_cache.specs.OfReport.Report.{owe}
use Rattle.ec_protocol.specs.Clerk.{lose, with_operands}
use Rattle.ec_protocol.specs.declared.clerk.Clerk.{Clerk}
use Rattle.ec_coherence.specs.System.{System, base_of, is_open, with_start}
use Rattle.ec_coherence.specs.Sessions as sessions
use Rattle.ec_coherence.specs.Sessions.{HasNone, SessionsAgree}
use Rattle.ec_coherence.specs.Tokens.{TokensAgree, view}
use Rattle.ec_coherence.specs.Log.{LogsAgree, numbered}
use Rattle.ec_coherence.specs.Images.{ImagesAgree}
use Rattle.ec_coherence.specs.BatchLaws.{BatchFacts as Agrees}
use Rattle.ec_coherence.specs.Events.{CutAgrees, EventsAgree, IsUncut, shown_boot}
use Rattle.ec_coherence.proofs.ForBatches.ClerkIn.{start-same}
use Rattle.ec_coherence.proofs.ForServer.Lists.{each-more, each-turn}
use Rattle.ec_coherence.proofs.ForServer.Tables.{by-session, same_some}
use Rattle.ec_coherence.proofs.ForBatches.Told.{told-images, told-logs}
use Rattle.ec_coherence.specs.CommitLaws.{AllAgree}
use Rattle.ec_coherence.specs.Starts.{Greets, StartsAgree}
use Rattle.ec_coherence.specs.Watches.{WatchAgrees, WatchesAgree}
use Rattle.ec_coherence.proofs.ForCommits.Shown.{lines-agree}
use Rattle.ec_lawful.specs.OfClerkSteps.Cuts.{CutKnows, CutsAgree, lost_of}
use Rattle.ec_lawful.specs.OfClerkSteps.JoinLaws.{tell_loss}
use Rattle.ec_lawful.proofs.OfClerkSteps.ForJoins.Owing.{keys-are, log-lost, owes-loss}
use Rattle.ec_lawful.proofs.OfClerkSteps.ForJoins.Slots.{its-slot, older-from}
use Rattle.ec_base.proofs.Numbers.{same-self as same, equal}
use Rattle.ec_base.proofs.Options.{none_some, some-at}
use Rattle.ec_base.proofs.Bools.{not-both as refutes, no-longer as is-false}

-- an age of the same boot that is neither older nor at a greater round is the same
same-age : (a b : Age) → a.boot ≡ b.boot → T (not (is_older a b)) → a.round ≤ b.round → a ≡ b
same-age a b e n l = λ i. record { boot = e i; round = rounds i }
  where
    off : (x y : Bool) → (x || (true && y)) ≡ false → y ≡ false
    off true y p = absurd (true≢false p)
    off false y p = p

    equal-rounds : (m n : ℕ) → nat_lt m n ≡ false → m ≤ n → m ≡ n
    equal-rounds m n p q = grind arith

    rounds : a.round ≡ b.round
    rounds = equal-rounds a.round b.round
        (off (nat_lt a.boot b.boot) (nat_lt a.round b.round) (ap (λ z. nat_lt a.boot b.boot || (z && nat_lt a.round b.round)) (sym (ap (λ z. z == b.boot) e ∙ same b.boot)) ∙ is-false (is_older a b) n)) l

untold-starts : (w : Watch) → (begun (record w { untold = None })).starts ≡ (begun w).starts
untold-starts w = go w.running
  where
    go : (z : Bool) → (cond z (record w { untold = None }) (record w { untold = None; starts = w.starts + 1; running = true })).starts ≡ (cond z w (record w { starts = w.starts + 1; running = true })).starts
    go true = refl
    go false = refl

module _ (g : System) (all : AllAgree g) (cuts : CutsAgree g) (c b s : ℕ) (k : Clerk) (runs : g.running c ≡ Some b) (at-start : g.clerks c b ≡ Some k) (within : k.session ≡ Some s) (w : Window) (fits : sessions.Fits g c (Ended s w.low w.mask)) where
  abbrev pub ops : Issued
  ops = lost w k.log

  abbrev pub now : Clerk
  now = lose ops k

  abbrev pub hello : List (ℕ × Msg)
  hello = (c, Hello now.id now.age) ∷ []

  -- without its line, and with it
  abbrev pub h0 : System
  h0 = record g { clerks = with_start c b now g.clerks; pool = g.pool ++ hello }

  abbrev line : Shown
  line = show.Told c (keys ops)

  abbrev pub h : System
  h = record h0 { ghost = tell_loss c (keys ops) g.ghost }

  of-clerk : (k.id ≡ c) × (k.age.boot ≡ b) × (b ≤ g.boots c) × (c < 16)
  of-clerk = (all.0).sessions.starts c b k at-start

  owns : g.ghost.owner s ≡ Some (c, k.age)
  owns = ((all.0).sessions.in_session c b s k at-start within).0

  above : g.first_boot c < b
  above = (all.3).started c b k at-start

  -- each session of this start was opened at a round that it reached
  its-round-was : (r : ℕ) (a : Age) → g.ghost.owner r ≡ Some (c, a) → a.boot ≡ b → a.round ≤ k.age.round
  its-round-was r a o e = ((all.3).owned r c a o).1 k (ap (g.clerks c) e ∙ at-start)

  none-yet : (r : ℕ) → g.ghost.owner r ≡ Some (c, now.age) → ⊥
  none-yet r o = absurd (let q = its-round-was r now.age o of-clerk.1 in omega arith)

  -- What was lost.

  ended : T (is_some (g.ghost.frozen s))
  ended = (all.0).stops.ended s (subst (λ o. T (is_some o)) (sym owns) tt) fits.1

  seen-ops : (ks : List Op) × (g.ghost.frozen s ≡ Some ks)
  seen-ops = some-at (g.ghost.frozen s) ended

  abbrev ks : List Op
  ks = seen-ops.0

  abbrev gone : List Op
  gone = lost_of g.ghost s ks

  knows : CutKnows g c s k ks
  knows = cuts c b s k ks runs at-start owns seen-ops.1

  its-cut : CutAgrees g c b s k ks
  its-cut = (all.0).events.cuts c b s k ks runs at-start owns seen-ops.1

  lost-is : ops ≡ numbered gone
  lost-is =
      let sl = its-slot g all c b k runs at-start s owns in
      let two = fits.2 sl.0 sl.1 sl.2 in
      let window : (sl.0).window ≡ w = λ i. record { low = two.0 i; mask = two.1 i } in
      ap (λ v. lost v k.log) (sym window) ∙ log-lost (sl.0).window k.log (Rattle.ec_coherence.specs.System.is_of (g.ghost.owner s)) g.ghost.is_durable ks (knows.knows sl.0 sl.1)

  named-is : keys ops ≡ numbers gone
  named-is = ap keys lost-is ∙ keys-are gone

  lost-named : its-cut.lost ≡ numbers gone
  lost-named = same_some (sym its-cut.untold ∙ knows.untold)

  owes-now : owed (base_of g) g.ghost.history c (shown_boot g c b) ≡ now.owed
  owes-now = owes-loss g (all.0).events (all.3).alike s c k.age owns (subst (λ n. g.first_boot c < n) (sym of-clerk.1) above) ks b of-clerk.1 k its-cut lost-named
      ∙ ap (λ xs. owe (with_operands xs) k.owed) (sym lost-is)

  may-tell : MayFollow g.ghost.shown line
  may-tell = subst (λ o. T (elim o as (λ y. Bool) [ Some ms ↦ same_numbers (keys ops) ms | None ↦ false ])) (sym knows.untold)
      (subst (λ ns. T (same_numbers ns (numbers gone))) (sym named-is) (same-self (numbers gone)))

  -- Starts.

  by-start : (P : ℕ → ℕ → Clerk → Type 0) → (P c b k → P c b now) → ((d a : ℕ) (m : Clerk) → g.clerks d a ≡ Some m → P d a m) → (d a : ℕ) (m : Clerk) → h.clerks d a ≡ Some m → P d a m
  by-start P own each d a m = go ((d == c) && (a == b)) refl
    where
      go : (z : Bool) → ((d == c) && (a == b)) ≡ z → elim z as (λ y. Option Clerk) [ true ↦ Some now | false ↦ g.clerks d a ] ≡ Some m → P d a m
      go true e q =
          let two = and_parts (d == c) (a == b) e in
          subst (λ z. P z a m) (sym (equal d c two.0)) (subst (λ z. P c z m) (sym (equal a b two.1)) (subst (P c b) (same_some q) (own (each c b k at-start))))
      go false e q = each d a m q

  by-running : (Q : ℕ → ℕ → Type 0) → Q c b → ((d a : ℕ) → (d == c) ≡ false → g.running d ≡ Some a → Q d a) → (d a : ℕ) → g.running d ≡ Some a → Q d a
  by-running Q own each d a q = go (d == c) refl
    where
      go : (z : Bool) → (d == c) ≡ z → Q d a
      go true e = let p = equal d c e in subst (λ z. Q z a) (sym p) (subst (Q c) (same_some (sym runs ∙ sym (ap g.running p) ∙ q)) own)
      go false e = each d a e q

  of-other : (d a : ℕ) (m : Clerk) → (d == c) ≡ false → h.clerks d a ≡ Some m → g.clerks d a ≡ Some m
  of-other d a m n q = sym (ap (λ z. elim (z && (a == b)) as (λ y. Option Clerk) [ true ↦ Some now | false ↦ g.clerks d a ]) n) ∙ q

  own-is : (m : Clerk) → h.clerks c b ≡ Some m → now ≡ m
  own-is m q = same_some (sym (start-same c b now g.clerks) ∙ q)

  its-round : (d : ℕ) (a : Age) → ((m : Clerk) → g.clerks d a.boot ≡ Some m → a.round ≤ m.age.round) → (m : Clerk) → h.clerks d a.boot ≡ Some m → a.round ≤ m.age.round
  its-round d a f m q = go ((d == c) && (a.boot == b)) refl q
    where
      more : (x y : ℕ) → x ≤ y → x ≤ y + 1
      more x y l = omega arith

      go : (z : Bool) → ((d == c) && (a.boot == b)) ≡ z → elim z as (λ y. Option Clerk) [ true ↦ Some now | false ↦ g.clerks d a.boot ] ≡ Some m → a.round ≤ m.age.round
      go true e q =
          let two = and_parts (d == c) (a.boot == b) e in
          subst (λ z. a.round ≤ z.age.round) (same_some q) (more a.round k.age.round (f k (ap (λ z. g.clerks z a.boot) (equal d c two.0) ∙ ap (g.clerks c) (equal a.boot b two.1) ∙ at-start)))
      go false e q = f m q

  message-kept : (d : ℕ) (m : Msg) → sessions.Fits g d m → sessions.Fits h0 d m
  message-kept d (Hello from a) f = (f.0, f.1, (f.2.0, its-round d a f.2.1))
  message-kept d _ f = f

  there : (d a : ℕ) → T (is_some (g.clerks d a)) → T (is_some (h.clerks d a))
  there d a t = go ((d == c) && (a == b))
    where
      go : (z : Bool) → T (is_some (elim z as (λ y. Option Clerk) [ true ↦ Some now | false ↦ g.clerks d a ]))
      go true = tt
      go false = t

  abbrev Tells : ℕ → Age → Option ℕ → Age → Type 0
  Tells r a o x = (T (g.ghost.taken r) → (o ≡ Some r) ⊎ T (is_older a x)) × (T (not (g.ghost.taken r)) → (a ≡ x → o ≡ None) × T (not (is_older a x)))

  told : (r : ℕ) (o : ℕ × Age) (m : Clerk) → g.ghost.owner r ≡ Some o → h.clerks o.0 (o.1).boot ≡ Some m → Tells r o.1 m.session m.age
  told r o m p q = go ((o.0 == c) && ((o.1).boot == b)) refl q
    where
      more : (x y : ℕ) → x ≤ y → x < y + 1
      more x y l = omega arith

      go : (z : Bool) → ((o.0 == c) && ((o.1).boot == b)) ≡ z → elim z as (λ y. Option Clerk) [ true ↦ Some now | false ↦ g.clerks o.0 (o.1).boot ] ≡ Some m → Tells r o.1 m.session m.age
      go true e q =
          let two = and_parts (o.0 == c) ((o.1).boot == b) e in
          let is-c = equal o.0 c two.0 in
          let is-b = equal (o.1).boot b two.1 in
          let mine : g.ghost.owner r ≡ Some (c, o.1) = p ∙ ap (λ z. Some (z, o.1)) is-c in
          let low = its-round-was r o.1 mine is-b in
          let f = (all.0).sessions.told r o k p (ap (λ z. g.clerks z (o.1).boot) is-c ∙ ap (g.clerks c) is-b ∙ at-start) in
          subst (λ n. Tells r o.1 n.session n.age) (same_some q) (
            (λ t. inr (older-from o.1 now.age (is-b ∙ sym of-clerk.1) (more (o.1).round k.age.round low))),
            λ t. absurd (none_some (sym ((f.1 t).0 (same-age o.1 k.age (is-b ∙ sym of-clerk.1) (f.1 t).1 low)) ∙ within)),
          )
      go false e q = (all.0).sessions.told r o m p q

  sessions-stay : SessionsAgree h0
  sessions-stay = let a = (all.0).sessions in record {
    sixteen = a.sixteen;
    next = a.next;
    slots = a.slots;
    owned = a.owned;
    once = a.once;
    taken = a.taken;
    told = told;
    starts = by-start (λ d x m. (m.id ≡ d) × (m.age.boot ≡ x) × (x ≤ g.boots d) × (d < 16)) (λ f. f) a.starts;
    rounds = λ d x n m q. by-start (λ d x m. n < m.age.round → (r : ℕ) × (g.ghost.owner r ≡ Some (d, record { boot = x; round = n }))) (λ f l. last n (nat_lt n k.age.round) refl l f) (λ d x m q. a.rounds d x n m q) d x m q;
    running = λ d x q. let f = a.running d x q in (f.0, there d x f.1);
    in_session = λ d x r m q. by-start (λ d x m. m.session ≡ Some r → (g.ghost.owner r ≡ Some (d, m.age)) × T (g.ghost.taken r)) (λ f y. absurd (none_some y)) (λ d x m q. a.in_session d x r m q) d x m q;
    without = by-start (λ d x m. m.session ≡ None → HasNone m) (λ f y. record { epoch = refl; cache = refl; undurable = refl; batches = refl; next_batch = refl; first = refl; recalls = refl; ids = refl; got = refl; asking = refl }) a.without;
    current = λ d x r m p q. by-start (λ d x m. g.running d ≡ Some x → m.session ≡ Some r → (sl : Slot) × (slot g.durable d ≡ Some sl) × (sl.session ≡ r)) (λ f y z. absurd (none_some z)) (λ d x m q p. a.current d x r m p q) d x m q p;
    sound = each-more (λ m. T (is_sound m.1)) g.pool hello a.sound (tt, tt);
    messages = each-more (λ m. sessions.Fits h0 m.0 m.1) g.pool hello (each-turn (λ m. sessions.Fits g m.0 m.1) (λ m. sessions.Fits h0 m.0 m.1) g.pool (λ m f. message-kept m.0 m.1 f) a.messages)
        ((of-clerk.0, of-clerk.3, (subst (λ z. z ≤ g.boots c) (sym of-clerk.1) of-clerk.2, λ m q. subst (λ n. now.age.round ≤ n.age.round) (own-is m (sym (ap (h0.clerks c) of-clerk.1) ∙ q)) (omega arith))), tt);
  }
    where
      less : (m n : ℕ) → nat_lt m n ≡ true → m < n
      less m n e = grind arith

      top : (m n : ℕ) → nat_lt m n ≡ false → m < n + 1 → n ≡ m
      top m n e l = grind arith

      last : (n : ℕ) (z : Bool) → nat_lt n k.age.round ≡ z → n < k.age.round + 1 → (n < k.age.round → (r : ℕ) × (g.ghost.owner r ≡ Some (c, record { boot = b; round = n }))) → (r : ℕ) × (g.ghost.owner r ≡ Some (c, record { boot = b; round = n }))
      last n true e l f = f (less n k.age.round e)
      last n false e l f = let t = top n k.age.round e l in (s, owns ∙ (λ i. Some (c, record { boot = of-clerk.1 i; round = t i })))

  logs-stay : LogsAgree h0
  logs-stay = subst (λ z. LogsAgree (record h0 { clerks = with_start c z now g.clerks })) of-clerk.1
      (told-logs g (all.0).logs (all.0).images c s k.age k now owns (ap (g.clerks c) of-clerk.1 ∙ at-start) within (λ t. refutes (is_open g s) t fits.1) refl refl g.calls hello (tt, tt))

  images-stay : ImagesAgree h0
  images-stay = subst (λ z. ImagesAgree (record h0 { clerks = with_start c z now g.clerks })) of-clerk.1
      (told-images g (all.0).logs (all.0).images c s k.age k now owns (ap (g.clerks c) of-clerk.1 ∙ at-start) within (λ t. refutes (is_open g s) t fits.1) refl refl g.calls hello)

  -- Lines.

  watched : (d : ℕ) → watch d (g.ghost.shown ++ line ∷ []) ≡ cond (d == c) (record (watch d g.ghost.shown) { untold = None }) (watch d g.ghost.shown)
  watched d = watch-step d g.ghost.shown line

  watched-own : watch c (g.ghost.shown ++ line ∷ []) ≡ record (watch c g.ghost.shown) { untold = None }
  watched-own = watched c ∙ ap (λ z. cond z (record (watch c g.ghost.shown) { untold = None }) (watch c g.ghost.shown)) (same c)

  watched-other : (d : ℕ) → (d == c) ≡ false → watch d (g.ghost.shown ++ line ∷ []) ≡ watch d g.ghost.shown
  watched-other d n = watched d ∙ ap (λ z. cond z (record (watch d g.ghost.shown) { untold = None }) (watch d g.ghost.shown)) n

  cut : (d x r : ℕ) (m : Clerk) (os : List Op) → (d == c) ≡ false → CutAgrees g d x r m os → CutAgrees h d x r m os
  cut d x r m os n q = record { before = q.before; at = q.at; lost = q.lost; behind = q.behind; was = q.was; keeps = q.keeps; alone = q.alone; untold = ap (λ y. y.untold) (watched-other d n) ∙ q.untold; owes = q.owes; frozen = q.frozen; later = q.later }

  events-stay : EventsAgree h
  events-stay = let a = (all.0).events in record {
    placeable = placeable-step g.ghost.shown line a.placeable may-tell;
    placed = place-no_call g.ghost.shown line (λ d. refl) ∙ append-nil (place g.ghost.shown) ∙ a.placed;
    starts = λ d x q. ap (λ y. (begun y).starts) (watched d) ∙ starts (d == c) (watch d g.ghost.shown) ∙ a.starts d x q;
    untold = λ d x m q p n. by-running (λ d x. h.clerks d x ≡ Some m → IsUncut g d m → (watch d (g.ghost.shown ++ line ∷ [])).untold ≡ None)
        (λ p n. ap (λ y. y.untold) watched-own) (λ d x e q p n. ap (λ y. y.untold) (watched-other d e) ∙ a.untold d x m q (of-other d x m e p) n) d x q p n;
    keeps = a.keeps;
    legal = a.legal;
    owes = λ d x m q p n. by-running (λ d x. h.clerks d x ≡ Some m → IsUncut g d m → owed (base_of g) g.ghost.history d (shown_boot g d x) ≡ m.owed)
        (λ p n. owes-now ∙ ap (λ y. y.owed) (own-is m p)) (λ d x e q p n. a.owes d x m q (of-other d x m e p) n) d x q p n;
    counts = λ d x m q p. by-running (λ d x. h.clerks d x ≡ Some m → length (filter (is_op_of d (shown_boot g d x)) g.ghost.history) + 1 ≡ m.log.next)
        (λ p. a.counts c b k runs at-start ∙ ap (λ y. y.log.next) (own-is m p)) (λ d x e q p. a.counts d x m q (of-other d x m e p)) d x q p;
    covered = a.covered;
    untouched = a.untouched;
    cuts = λ d x r m os q p o z. by-running (λ d x. h.clerks d x ≡ Some m → g.ghost.owner r ≡ Some (d, m.age) → CutAgrees h d x r m os)
        (λ p o. absurd (none-yet r (o ∙ ap (λ y. Some (c, y.age)) (sym (own-is m p))))) (λ d x e q p o. cut d x r m os e (a.cuts d x r m os q (of-other d x m e p) o z)) d x q p o;
  }
    where
      starts : (z : Bool) (y : Watch) → (begun (cond z (record y { untold = None }) y)).starts ≡ (begun y).starts
      starts true y = untold-starts y
      starts false y = refl

  watches-stay : WatchesAgree h
  watches-stay d = by-session c d (λ d. WatchAgrees h d (watch d (g.ghost.shown ++ line ∷ [])))
      (subst (WatchAgrees h c) (sym watched-own) (let x = all.1 c in record { running = x.running; early = x.early; still = x.still; unseen = x.unseen; open_start = x.open_start; crashed = x.crashed }))
      (λ n. subst (WatchAgrees h d) (sym (watched-other d n)) (let x = all.1 d in record { running = x.running; early = x.early; still = x.still; unseen = x.unseen; open_start = x.open_start; crashed = x.crashed }))

  starts-stay : StartsAgree h
  starts-stay = let a = all.3 in record {
    owned = λ r d x p. let f = a.owned r d x p in (f.0, its-round d x f.1);
    started = by-start (λ d x m. g.first_boot d < x) (λ f. f) a.started;
    greets = each-more (λ m. Greets g m.0 m.1) g.pool hello a.greets (subst (λ n. g.first_boot c < n) (sym of-clerk.1) above, tt);
    above = a.above;
    alike = a.alike;
  }

  pub left-all : TokensAgree (view h0) → AllAgree h
  left-all tokens =
      let q : Agrees h = lines-agree h0 (g.ghost.shown ++ line ∷ []) g.ghost.history g.ghost.fresh (record { sessions = sessions-stay; tokens = tokens; logs = logs-stay; images = images-stay }) in (
        record { sessions = q.sessions; tokens = q.tokens; logs = q.logs; images = q.images; events = events-stay; stops = (let a = (all.0).stops in record { runs = a.runs; doubt = a.doubt; open_sessions = a.open_sessions; ended = a.ended }) },
        watches-stay,
        all.2,
        starts-stay,
      )

  pub left-cuts : CutsAgree h
  left-cuts d x r m os q p o z = by-running (λ d x. h.clerks d x ≡ Some m → g.ghost.owner r ≡ Some (d, m.age) → CutKnows h d r m os)
      (λ p o. absurd (none-yet r (o ∙ ap (λ y. Some (c, y.age)) (sym (own-is m p)))))
      (λ d x e q p o. let f = cuts d x r m os q (of-other d x m e p) o z in record { knows = f.knows; untold = ap (λ y. y.untold) (watched-other d e) ∙ f.untold }) d x q p o
