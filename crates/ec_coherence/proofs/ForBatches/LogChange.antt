-- The log of a clerk in a session changes, and messages are sent: kept batches and picks.
use Rattle.std.proofs.Common.{◌≡◌, ◌≢◌, refl, sym, ap, subst, ◌∙◌, inl, inr, arith, ℕ, Bool, true, false, not, ◌&&◌, ◌||◌, T, ◌≤◌, ◌<◌, ◌+◌, ◌^◌, List, [], ◌∷◌, ◌++◌}
use Rattle.std.specs.Prelude.{◌==◌, Option, None, Some, is_some}
use Rattle.std.proofs.lemmas.Bool.{cases_eq, ltb-false}
use Rattle.ec_base.specs.Tables.{Table, at, or_else as or_other}
use Rattle.ec_base.specs.declared.ids.Age.{Age}
use Rattle.ec_volume.specs.Update.{member, operands}
use Rattle.ec_plain.specs.declared.call.Call.{Call}
use Rattle.ec_history.specs.History.{Each, Op}
use Rattle.ec_machine_laws.specs.Picks.{IsPicked, Says}
use Rattle.ec_machine_laws.specs.Logs.{IsLog, WindowAgrees, TellsDurable}
use Rattle.ec_machine_laws.proofs.Batches.{at-put_same, at-put_other, at-without_other}
use Rattle.ec_machine_laws.proofs.Logging.{pick-log, pick-agrees, pick-batch, kept-log, kept-agrees, kept-batch}
use Rattle.ec_machine_laws.proofs.Picking.{pick-says}
use Rattle.ec_machine_laws.proofs.Resting.{kept-rest, kept-tells, pick-tells}
use Rattle.ec_sessions.specs.Windows.{has}
use Rattle.ec_sessions.specs.declared.window.Window.{Window}
use Rattle.ec_sessions.specs.declared.slot.Slot.{Slot}
use Rattle.ec_wire.specs.declared.msg.Msg.{Msg}
use Rattle.ec_wire.specs.declared.msg.Msg.TheVariants.{Flush, Room}
use Rattle.ec_durable.specs.Durable.{slot}
use Rattle.ec_log.specs.Log.{batch, kept, pick, after_pick, ops_in, batches_are_spent}
use Rattle.ec_log.specs.declared.state.Asked.{Asked}
use Rattle.ec_log.specs.declared.state.Pick.TheVariants.{Batch}
use Rattle.ec_log.specs.declared.state.LogState.{LogState}
use Rattle.ec_protocol.specs.declared.clerk.Clerk.{Clerk}
use Rattle.ec_coherence.specs.System.{System, clerk_in, with_start}
use Rattle.ec_coherence.specs.Tokens.{IsWrite}
use Rattle.ec_coherence.specs.Log as log
use Rattle.ec_coherence.specs.Log.{Knows, LogAgrees, LogsAgree, HasWrites, IsNumbered, OfOpen, InSession, mine, next_of}
use Rattle.ec_coherence.specs.Images.{ImagesAgree}
use Rattle.ec_coherence.proofs.ForBatches.ClerkIn.{was-in, now-in, other-in}
use Rattle.ec_coherence.proofs.ForServer.Lists.{or_else, each-turn, each-more}
use Rattle.ec_coherence.proofs.ForServer.Tables.{same_some}
use Rattle.ec_base.proofs.Bools.{left as and_first, not-both as no_both, right as and_next, is-true, holds-true as holds}
use Rattle.ec_base.proofs.Numbers.{equal}
use Rattle.ec_base.proofs.Options.{some-at}

module _ (g : System) (lo : LogsAgree g) (im : ImagesAgree g) (c s : ℕ) (age : Age) (k : Clerk) (is-owner : g.ghost.owner s ≡ Some (c, age)) (at-start : g.clerks c age.boot ≡ Some k) (sk : k.session ≡ Some s)
    (l : LogState) (calls : Table (Table (ℕ × Call))) (ms : List (ℕ × Msg)) where
  abbrev pub new : Clerk
  new = record k { log = l }

  abbrev pub h : System
  h = record g { clerks = with_start c age.boot new g.clerks; calls = calls; pool = g.pool ++ ms }

  pub in-g : clerk_in g s ≡ Some k
  in-g = was-in g.ghost.owner g.clerks c s age k new is-owner at-start sk sk

  pub in-h : clerk_in h s ≡ Some new
  in-h = now-in g.ghost.owner g.clerks c s age k new is-owner at-start sk sk

  pub in-other : (t : ℕ) → t ≢ s → clerk_in h t ≡ clerk_in g t
  in-other t d = other-in g.ghost.owner g.clerks c s age k new is-owner at-start sk sk t d

  -- what is asked of the change
  pub record Changes : Type 0 where
    pub same_next : l.next ≡ k.log.next
    pub knows : (sl : Slot) → Knows k.log sl.window (mine g.ghost s) g.ghost.is_durable → OfOpen g s (λ sm. sm ≡ sl → Knows l sl.window (mine g.ghost s) g.ghost.is_durable)
    pub sent : (sl : Slot) → Knows k.log sl.window (mine g.ghost s) g.ghost.is_durable → OfOpen g s (λ sm. sm ≡ sl → (b : ℕ) → T (not (has sl.window b)) → T (is_some (at b k.log.batches)) → (batch b l ≡ batch b k.log) × T (is_some (at b l.batches)))
    pub messages : Each (λ m. log.Fits h m.1) ms

  module _ (ch : Changes) where
    writes' : Each (λ o. T (not (g.ghost.is_durable o)) → HasWrites h o) g.ghost.kept
    writes' = each-turn (λ o. T (not (g.ghost.is_durable o)) → HasWrites g o) (λ o. T (not (g.ghost.is_durable o)) → HasWrites h o) g.ghost.kept (λ o f n. go o (f n)) lo.writes
      where
        go : (o : Op) → HasWrites g o → HasWrites h o
        go o w = elim (cases_eq w.session s) [
          | inl e ↦ record {
            session = w.session;
            clerk = new;
            in_place = ap (clerk_in h) e ∙ in-h;
            is_open = w.is_open;
            own = w.own;
            writes = subst (λ m. Each (λ x. IsWrite (at x (m.cache).held)) (operands o.update)) (same_some (sym w.in_place ∙ ap (clerk_in g) e ∙ in-g)) w.writes;
          }
          | inr d ↦ record { session = w.session; clerk = w.clerk; in_place = in-other w.session d ∙ w.in_place; is_open = w.is_open; own = w.own; writes = w.writes }
        ]

    own-agrees : (j : ℕ) (sl : Slot) → slot g.durable j ≡ Some sl → sl.session ≡ s → T sl.is_open → LogAgrees h s sl new
    own-agrees j sl p q r = let old : LogAgrees g s sl k = lo.logs s j sl p q r k in-g in record {
      knows = ch.knows sl old.knows j sl p q r refl;
      ids = record { granted = old.ids.granted; last = old.ids.last; distinct_ids = old.ids.distinct_ids; free = old.ids.free; earlier = old.ids.earlier; all = old.ids.all };
    }

    logs' : (t : ℕ) → OfOpen h t (λ sm. InSession h t (LogAgrees h t sm))
    logs' t j sm p q r m i = elim (cases_eq t s) [
      | inl e ↦ subst (λ w. LogAgrees h t sm w) (same_some (sym in-h ∙ ap (clerk_in h) (sym e) ∙ i)) (subst (λ w. LogAgrees h w sm new) (sym e) (own-agrees j sm p (q ∙ e) r))
      | inr d ↦ let old : LogAgrees g t sm m = lo.logs t j sm p q r m (sym (in-other t d) ∙ i) in record { knows = old.knows; ids = old.ids }
    ]

    fit-kept : (m : Msg) → log.Fits g m → log.Fits h m
    fit-kept (Flush t a b os) f = λ j sm p q r u m i. elim (cases_eq t s) [
      | inl e ↦
          let q' = f j sm p q r u k (ap (clerk_in g) e ∙ in-g) in
          let old : LogAgrees g s sm k = lo.logs s j sm p (q ∙ e) r k in-g in
          let z = ch.sent sm old.knows j sm p (q ∙ e) r refl b u q'.1 in
          let em : new ≡ m = same_some (sym in-h ∙ ap (clerk_in h) (sym e) ∙ i) in
          subst (λ w. (os ≡ batch b w.log) × T (is_some (at b (w.log).batches))) em (q'.0 ∙ sym z.0, z.1)
      | inr d ↦ f j sm p q r u m (sym (in-other t d) ∙ i)
    ]
    fit-kept (Room t a got ask) f = λ j sm p q r u m i. elim (cases_eq t s) [
      | inl e ↦ subst (λ w. w.ids ≡ []) (same_some (sym in-h ∙ ap (clerk_in h) (sym e) ∙ i)) (f j sm p q r u k (ap (clerk_in g) e ∙ in-g))
      | inr d ↦ f j sm p q r u m (sym (in-other t d) ∙ i)
    ]
    fit-kept _ f = f

    starts' : (d a : ℕ) → IsNumbered g.ghost d a (next_of (h.clerks d a))
    starts' d a = subst (IsNumbered g.ghost d a) (sym (next-same ((d == c) && (a == age.boot)) refl)) (lo.starts d a)
      where
        next-same : (b : Bool) → ((d == c) && (a == age.boot)) ≡ b → next_of (elim b as (λ z. Option Clerk) [ true ↦ Some new | false ↦ g.clerks d a ]) ≡ next_of (g.clerks d a)
        next-same false e = refl
        next-same true e = ch.same_next ∙ sym (ap next_of (ap (λ z. g.clerks z a) (equal d c (is-true (d == c) (and_first (d == c) _ (holds _ e)))) ∙ ap (g.clerks c) (equal a age.boot (is-true (a == age.boot) (and_next (d == c) _ (holds _ e)))) ∙ at-start))

    whole' : (t x : ℕ) → OfOpen h t (λ sm. InSession h t (λ m. m.got + 1 ≡ sm.grants → g.ghost.first t ≤ x → x < g.ghost.first t + 16 → T (member x sm.unspent)))
    whole' t x j sm p q r m i a = elim (cases_eq t s) [
      | inl e ↦ lo.whole t x j sm p q r k (ap (clerk_in g) e ∙ in-g) (ap (λ w. w.got + 1) (same_some (sym in-h ∙ ap (clerk_in h) (sym e) ∙ i)) ∙ a)
      | inr d ↦ lo.whole t x j sm p q r m (sym (in-other t d) ∙ i) a
    ]

    pub change-logs : LogsAgree h
    change-logs = record {
      writes = writes';
      logs = logs';
      starts = starts';
      closed = lo.closed;
      untaken = lo.untaken;
      unopened = lo.unopened;
      messages = each-more (λ m. log.Fits h m.1) g.pool ms (each-turn (λ m. log.Fits g m.1) (λ m. log.Fits h m.1) g.pool (λ m f. fit-kept m.1 f) lo.messages) ch.messages;
      unspent = lo.unspent;
      once = lo.once;
      apart = lo.apart;
      whole = whole';
    }

    pub change-images : ImagesAgree h
    change-images = record {
      server = im.server;
      fits = im.fits;
      sound = im.sound;
      origin = im.origin;
      origin_held = im.origin_held;
      known = im.known;
      operands = im.operands;
      unfrozen = im.unfrozen;
      unopened = im.unopened;
      cut_off = im.cut_off;
      licences = λ t x m i held p. elim (cases_eq t s) [
        | inl e ↦ im.licences t x k (ap (clerk_in g) e ∙ in-g) held (ap (λ w. at x (w.cache).held) (same_some (sym in-h ∙ ap (clerk_in h) (sym e) ∙ i)) ∙ p)
        | inr d ↦ im.licences t x m (sym (in-other t d) ∙ i) held p
      ];
    }

-- A batch under way that is kept.

ops-or : (o : Option (List ℕ)) (n : ℕ) → T (member n (or_other [] o)) → (ns : List ℕ) × (o ≡ Some ns) × T (member n ns)
ops-or None n m = absurd m
ops-or (Some ns) n m = (ns, refl, m)

pub kept-knows : (l : LogState) (w : Window) (os : List Op) (dur : Op → Bool) → Knows l w os dur → (b : ℕ) → T (has w b) → Knows (kept b l) w os dur
kept-knows l w os dur kn b hb = record {
  known = λ n. kn.known n || member n (ops_in b l);
  durable = kn.durable;
  agrees = kn.agrees;
  sure = λ n t. elim (or_else (kn.known n) (member n (ops_in b l)) t) [
    | inl a ↦ kn.sure n a
    | inr m ↦ let q = ops-or (at b l.batches) n m in subst T (sym (kn.tells.both b q.0 q.1 n q.2)) hb
  ];
  rest = kept-rest (log.numbered os) kn.known l kn.rest kn.log b;
  tells = kept-tells w l kn.durable kn.tells kn.log b;
  log = kept-log l kn.log b;
  window = kept-agrees l kn.log b w kn.window hb;
  later = kn.later;
  marks = kn.marks;
  limit = kn.limit;
}

module _ (g : System) (lo : LogsAgree g) (im : ImagesAgree g) (c s : ℕ) (age : Age) (k : Clerk) (is-owner : g.ghost.owner s ≡ Some (c, age)) (at-start : g.clerks c age.boot ≡ Some k) (sk : k.session ≡ Some s)
    (calls : Table (Table (ℕ × Call))) (b : ℕ) (marked : OfOpen g s (λ sl. T (has sl.window b))) where
  kept-changes : Changes g lo im c s age k is-owner at-start sk (kept b k.log) calls []
  kept-changes = record {
    same_next = refl;
    knows = λ sl kn j sm p q r e. kept-knows k.log sl.window (mine g.ghost s) g.ghost.is_durable kn b (subst (λ z. T (has z.window b)) e (marked j sm p q r));
    sent = λ sl kn j sm p q r e d u t.
        let other : b ≢ d = λ z. absurd (no_both (has sl.window d) (subst (λ y. T (has sl.window y)) z (subst (λ y. T (has y.window b)) e (marked j sm p q r))) u) in
        let f = some-at (at d k.log.batches) t in
        (kept-batch k.log kn.log b d f.0 other f.1, subst (λ o. T (is_some o)) (sym (at-without_other d b k.log.batches other)) t);
    messages = tt;
  }

  pub kept-logs : LogsAgree (h g lo im c s age k is-owner at-start sk (kept b k.log) calls [])
  kept-logs = change-logs g lo im c s age k is-owner at-start sk (kept b k.log) calls [] kept-changes

  pub kept-images : ImagesAgree (h g lo im c s age k is-owner at-start sk (kept b k.log) calls [])
  kept-images = change-images g lo im c s age k is-owner at-start sk (kept b k.log) calls [] kept-changes

-- A pick that makes a new batch.

module _ (l : LogState) (w : Window) (os : List Op) (dur : Op → Bool) (kn : Knows l w os dur) (a : Asked) (b : ℕ) (ns : List ℕ) (picked : pick a l ≡ Batch b ns) (unspent : batches_are_spent l ≡ false) where
  abbrev pub after : LogState
  after = after_pick (Batch b ns) l

  says : IsPicked a l b ns
  says = subst (Says a l) picked (pick-says a l kn.log.sorted)

  pub pick-knows : Knows after w os dur
  pick-knows = record {
    known = kn.known;
    durable = kn.durable;
    agrees = kn.agrees;
    sure = kn.sure;
    rest = record { sorted = kn.rest.sorted; rest = kn.rest.rest; closed = kn.rest.closed };
    tells = subst (λ p. TellsDurable w (after_pick p l) kn.durable) picked (pick-tells w l kn.durable kn.tells kn.log kn.window a);
    log = subst (λ p. IsLog (after_pick p l)) picked (pick-log l kn.log a);
    window = subst (λ p. WindowAgrees w (after_pick p l)) picked (pick-agrees l kn.log a w kn.window);
    later = kn.later;
    marks = kn.marks;
    limit = go b l.next_batch (2 ^ 62) says.next (ltb-false (2 ^ 62) l.next_batch unspent);
  }
    where
      go : (b n top : ℕ) → b ≡ n → n ≤ top → b + 1 ≤ top + 1
      go b n top e h = omega arith

  pub pick-sent : (d : ℕ) → T (is_some (at d l.batches)) → (batch d after ≡ batch d l) × T (is_some (at d after.batches))
  pick-sent d t =
      let f = some-at (at d l.batches) t in
      let other : d ≢ b = λ e. absurd (let x = kn.log.below d f.0 f.1 in let y = says.next in omega arith) in
      (subst (λ p. batch d (after_pick p l) ≡ batch d l) picked (pick-batch l kn.log a d f.0 f.1), subst (λ o. T (is_some o)) (sym (at-put_other d b ns l.batches other)) t)

module _ (g : System) (lo : LogsAgree g) (im : ImagesAgree g) (c s : ℕ) (age : Age) (k : Clerk) (is-owner : g.ghost.owner s ≡ Some (c, age)) (at-start : g.clerks c age.boot ≡ Some k) (sk : k.session ≡ Some s)
    (calls : Table (Table (ℕ × Call))) (a : Asked) (b : ℕ) (ns : List ℕ) (picked : pick a k.log ≡ Batch b ns) (unspent : batches_are_spent k.log ≡ false) (e : ℕ) where
  abbrev pub flushed : List (ℕ × Msg)
  flushed = (c, Flush s e b (batch b (after_pick (Batch b ns) k.log))) ∷ []

  pick-changes : Changes g lo im c s age k is-owner at-start sk (after_pick (Batch b ns) k.log) calls flushed
  pick-changes = record {
    same_next = refl;
    knows = λ sl kn j sm p q r z. pick-knows k.log sl.window (mine g.ghost s) g.ghost.is_durable kn a b ns picked unspent;
    sent = λ sl kn j sm p q r z d u t. pick-sent k.log sl.window (mine g.ghost s) g.ghost.is_durable kn a b ns picked unspent d t;
    messages = (
      λ j sm p q r u m i.
          subst (λ w. (batch b (after_pick (Batch b ns) k.log) ≡ batch b w.log) × T (is_some (at b (w.log).batches)))
          (same_some (sym (in-h g lo im c s age k is-owner at-start sk (after_pick (Batch b ns) k.log) calls flushed) ∙ i)) (refl, subst (λ o. T (is_some o)) (sym (at-put_same b ns k.log.batches)) tt),
      tt,
    );
  }

  pub pick-logs : LogsAgree (h g lo im c s age k is-owner at-start sk (after_pick (Batch b ns) k.log) calls flushed)
  pick-logs = change-logs g lo im c s age k is-owner at-start sk (after_pick (Batch b ns) k.log) calls flushed pick-changes

  pub pick-images : ImagesAgree (h g lo im c s age k is-owner at-start sk (after_pick (Batch b ns) k.log) calls flushed)
  pick-images = change-images g lo im c s age k is-owner at-start sk (after_pick (Batch b ns) k.log) calls flushed pick-changes
