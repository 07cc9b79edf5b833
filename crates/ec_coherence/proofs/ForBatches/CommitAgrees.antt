-- A batch of an open session is committed: the log facts and the images go on agreeing.
use Rattle.std.proofs.Common.{◌≡◌, ◌≢◌, refl, sym, ap, subst, ◌∙◌, inl, inr, ◌⊎◌, arith, ℕ, Bool, true, false, not, ◌&&◌, ◌||◌, T, ◌≤◌, ◌<◌, ◌+◌, nat_lt, List, [], ◌∷◌, ◌++◌}
use Rattle.std.specs.Prelude.{◌==◌, nat_le, Option, None, Some}
use Rattle.std.specs.List.{filter}
use Rattle.std.proofs.lemmas.Bool.{cases_eq}
use Rattle.ec_base.specs.Tables.{at, keys}
use Rattle.ec_volume.specs.Image.{is_gone}
use Rattle.ec_volume.specs.Update.{member, distinct, operands}
use Rattle.ec_volume.specs.Volume.{images, image_after, after}
use Rattle.ec_history.specs.History.{Each, Op, updates, of_start}
use Rattle.ec_history.specs.OfLaws.Needs.{holds_needed}
use Rattle.ec_machine_laws.proofs.Logging.{mark-agrees}
use Rattle.ec_machine_laws.proofs.Resting.{commit-tells}
use Rattle.ec_sessions.specs.Windows.{has, new_window, after_mark}
use Rattle.ec_sessions.specs.declared.slot.Slot.{Slot}
use Rattle.ec_wire.specs.declared.msg.Msg.{Msg}
use Rattle.ec_wire.specs.declared.msg.Msg.TheVariants.{Flush, Room, Kept}
use Rattle.ec_durable.specs.Durable.{slot}
use Rattle.ec_durable.specs.declared.state.Durable.{Durable}
use Rattle.ec_log.specs.Log.{batch}
use Rattle.ec_protocol.specs.declared.clerk.Clerk.{Clerk}
use Rattle.ec_protocol.specs.declared.server.Server.{Server}
use Rattle.ec_coherence.specs.System.{System, Ghost, clerk_in, is_of, is_open, undurable}
use Rattle.ec_coherence.specs.Sessions.{SessionsAgree}
use Rattle.ec_coherence.specs.Tokens.{TokensAgree, view, IsWrite, is_hidden}
use Rattle.ec_coherence.specs.Log as log
use Rattle.ec_coherence.specs.Log.{Knows, LogAgrees, LogsAgree, HasWrites, IdsAgree, IsNumbered, OfOpen, InSession, mine, made_by, next_of}
use Rattle.ec_coherence.specs.Images.{ImagesAgree}
use Rattle.ec_coherence.specs.Steps.{keep_batch}
use Rattle.ec_coherence.proofs.ForBatches.Batched.{sent-members, sent-below}
use Rattle.ec_coherence.proofs.ForBatches.Carried.{updates_in, less, gone-is}
use Rattle.ec_coherence.proofs.ForBatches.Committing.{Commits, commits, committed, within, batch-makes, session-open}
use Rattle.ec_coherence.proofs.ForBatches.Committed.{marks-more, is-new, stays-had, less-was, less-stays, less-once, less-away, in-both, apart-parts, one-part, start-there, session-there}
use Rattle.ec_coherence.proofs.ForBatches.Gone.{after-gone, is-made, maker}
use Rattle.ec_coherence.proofs.ForBatches.Ids.{not-less, in-front, in-back, in-either, distinct-back, distinct-fewer, part-member, part-distinct}
use Rattle.ec_coherence.proofs.ForServer.Lists.{filter-two, filter-alike, each-turn, each-both, each-always, each-at, each-member, each-more, each-part, each-whole}
use Rattle.ec_coherence.proofs.ForBatches.OpenSlots.{open-at, at-open, one-owner}
use Rattle.ec_coherence.proofs.ForServer.Tables.{same_some}
use Rattle.ec_base.proofs.Bools.{left as and_first, not-both as no_both, right as and_next, or_first, is-true, holds-true as holds}
use Rattle.ec_base.proofs.Numbers.{equal}

module _ (g : System) (sa : SessionsAgree g) (ta : TokensAgree (view g)) (lo : LogsAgree g) (im : ImagesAgree g) (c s : ℕ) (sl : Slot) (k : Clerk)
    (here : slot g.durable c ≡ Some sl) (of : sl.session ≡ s) (opened : T sl.is_open) (there : clerk_in g s ≡ Some k)
    (b : ℕ) (ns : List ℕ) (under : at b k.log.batches ≡ Some ns) (unmarked : T (not (has sl.window b))) (v : Option Server) (e : ℕ) where
  abbrev ag : LogAgrees g s sl k
  ag = lo.logs s c sl here of opened k there

  abbrev own : Op → Bool
  own = is_of (g.ghost.owner s)

  abbrev ks : List Op
  ks = g.ghost.kept

  abbrev dur : Op → Bool
  dur = g.ghost.is_durable

  abbrev ops : List (ℕ × Rattle.ec_volume.specs.declared.update.Update.Update)
  ops = batch b k.log

  abbrev in_ops : Op → Bool
  in_ops o = member o.number (keys ops)

  abbrev mk : List ℕ
  mk = made_by (updates_in ops)

  abbrev now : Durable
  now = committed g sa ta lo im c s sl k here of opened there b ns under unmarked

  done : Commits g c s b ops sl own now
  done = commits g sa ta lo im c s sl k here of opened there b ns under unmarked

  abbrev newslot : Slot
  newslot = record sl { window = after_mark sl.window b; unspent = less mk sl.unspent }

  abbrev boot : ℕ
  boot = (sl.age).boot

  abbrev pub ghost : Ghost
  ghost = keep_batch c boot (keys ops) g.ghost

  abbrev pub h : System
  h = record g { durable = now; server = v; pool = g.pool ++ (c, Kept s e b) ∷ []; ghost = ghost }

  owner-is : g.ghost.owner s ≡ Some (c, sl.age)
  owner-is = ap g.ghost.owner (sym of) ∙ (sa.slots c sl here).2

  own-is : (o : Op) → own o ≡ of_start c boot o
  own-is o = ap (λ z. is_of z o) owner-is

  was : (j : ℕ) (sm : Slot) → slot now j ≡ Some sm → ((j ≡ c) × (sm ≡ newslot)) ⊎ ((j ≢ c) × (slot g.durable j ≡ Some sm))
  was j sm p = elim (cases_eq j c) [ inl q ↦ inl (q, same_some (sym (ap (slot now) (sym q) ∙ p) ∙ done.own)) | inr n ↦ inr (n, sym (done.others j n) ∙ p) ]

  still-open : (t : ℕ) → T (is_open g t) → T (is_open h t)
  still-open t o = let q = open-at t (g.durable).sessions o in elim (cases_eq q.0 c) [
    | inl z ↦ let same : q.1 ≡ sl = same_some (sym (q.2).0 ∙ ap (slot g.durable) z ∙ here) in at-open t now.sessions c newslot (done.own, ap (λ m. m.session) (sym same) ∙ (q.2).1, opened)
    | inr n ↦ at-open t now.sessions q.0 q.1 (done.others q.0 n ∙ (q.2).0, (q.2).1, (q.2).2)
  ]

  not-before : (o : Op) → T (not (ghost.is_durable o)) → T (not (dur o))
  not-before o n = not-less (dur o) (dur o || (of_start c boot o && in_ops o)) (or_first (dur o) _) n

  writes' : Each (λ o. T (not (ghost.is_durable o)) → HasWrites h o) ks
  writes' = each-turn (λ o. T (not (dur o)) → HasWrites g o) (λ o. T (not (ghost.is_durable o)) → HasWrites h o) ks
      (λ o f n. let q = f (not-before o n) in record { session = q.session; clerk = q.clerk; in_place = q.in_place; is_open = still-open q.session q.is_open; own = q.own; writes = q.writes }) lo.writes

  -- The session.

  no-number : (n : ℕ) → k.log.next ≤ n → member n ns ≡ false
  no-number n l = go (member n ns) refl
    where
      go : (x : Bool) → member n ns ≡ x → x ≡ false
      go true q = let h = ag.knows.log.held b ns under n (holds (member n ns) q) in absurd (let z = ag.knows.log.numbers n h.0 h.1 in omega arith)
      go false q = refl

  knows' : Knows k.log (after_mark sl.window b) (mine ghost s) ghost.is_durable
  knows' =
      let kn = ag.knows in
      let m = kn.marks in
      record {
        known = kn.known;
        durable = λ n. kn.durable n || member n ns;
        agrees = each-part (λ o. ghost.is_durable o ≡ (kn.durable o.number || member o.number ns)) own ks
            (each-turn (λ o. (T (own o) → dur o ≡ kn.durable o.number) × (T (own o) → in_ops o ≡ member o.number ns)) (λ o. T (own o) → ghost.is_durable o ≡ (kn.durable o.number || member o.number ns)) ks
            (λ o f t. ap (λ x. x || (of_start c boot o && in_ops o)) (f.0 t) ∙ ap (λ x. kn.durable o.number || (x && in_ops o)) (sym (own-is o) ∙ is-true (own o) t) ∙ ap (λ x. kn.durable o.number || x) (f.1 t))
            (each-both (λ o. T (own o) → dur o ≡ kn.durable o.number) (λ o. T (own o) → in_ops o ≡ member o.number ns) ks (each-whole (λ o. dur o ≡ kn.durable o.number) own ks kn.agrees)
            (sent-members ks own dur k.log sl.window b ns kn under unmarked)));
        sure = λ n t. or_first (kn.durable n) (member n ns) (kn.sure n t);
        rest = kn.rest;
        tells = commit-tells sl.window k.log kn.durable kn.tells kn.log b ns under (is-new sl.window b unmarked (within k.log sl.window (mine g.ghost s) dur kn b ns under unmarked));
        log = kn.log;
        window = mark-agrees sl.window k.log b kn.window (kn.log.below b ns under);
        later = λ n l. ap (λ x. x || member n ns) (kn.later n l) ∙ no-number n l;
        marks = (m.0 ++ b ∷ [], ap (λ w. after_mark w b) m.1 ∙ marks-more new_window m.0 b);
        limit = kn.limit;
      }

  abbrev still : List Op
  still = undurable g.ghost s

  still-is : undurable ghost s ≡ filter (λ o. not (in_ops o)) still
  still-is = sym (filter-two (λ o. not (in_ops o)) (λ o. own o && not (dur o)) ks ∙ filter-alike (λ o. (own o && not (dur o)) && not (in_ops o)) (λ o. own o && not (ghost.is_durable o)) ks
      (each-always (λ o. ((own o && not (dur o)) && not (in_ops o)) ≡ (own o && not (ghost.is_durable o))) ks (λ o. turn (own o) (dur o) (in_ops o) ∙ ap (λ x. own o && not (dur o || (x && in_ops o))) (own-is o))))
    where
      turn : (a d m : Bool) → ((a && not d) && not m) ≡ (a && not (d || (a && m)))
      turn true true m = refl
      turn true false m = refl
      turn false d m = refl

  made-in : mk ≡ made_by (updates (filter in_ops still))
  made-in = batch-makes g sa ta lo im c s sl k here of opened there b ns under unmarked

  none : (x : Bool) → (T x → ⊥) → T (not x)
  none true f = f tt
  none false f = tt

  ids-once : T (distinct (k.ids ++ made_by (updates still)))
  ids-once = ag.ids.distinct_ids

  ids' : IdsAgree k newslot (g.ghost.grants s) (g.ghost.first s) (filter (λ o. not (in_ops o)) still)
  ids' = record {
    granted = ag.ids.granted;
    last = ag.ids.last;
    distinct_ids = distinct-fewer k.ids (made_by (updates still)) (made_by (updates (filter (λ o. not (in_ops o)) still))) (λ x m. part-member (λ o. not (in_ops o)) x still m)
        (part-distinct (λ o. not (in_ops o)) still (distinct-back k.ids (made_by (updates still)) ids-once)) ids-once;
    free = each-member (λ x. T (member x (less mk sl.unspent))) (k.ids ++ made_by (updates (filter (λ o. not (in_ops o)) still))) (λ x m. less-stays x mk sl.unspent (old x m) (none (member x mk) (λ z. away x m (subst (λ xs. T (member x xs)) made-in z))));
    earlier = λ q. each-member (λ x. x < g.ghost.first s) (k.ids ++ made_by (updates (filter (λ o. not (in_ops o)) still))) (λ x m. each-at (λ y. y < g.ghost.first s) x (k.ids ++ made_by (updates still)) (ag.ids.earlier q) (older x m));
    all = each-member (λ x. T (member x (k.ids ++ made_by (updates (filter (λ o. not (in_ops o)) still)))) ⊎ ((k.got + 1 ≡ g.ghost.grants s) × (g.ghost.first s ≤ x) × (x < g.ghost.first s + 16))) (less mk sl.unspent)
        (λ x m. elim (each-at (λ y. T (member y (k.ids ++ made_by (updates still))) ⊎ ((k.got + 1 ≡ g.ghost.grants s) × (g.ghost.first s ≤ y) × (y < g.ghost.first s + 16))) x sl.unspent ag.ids.all (less-was x mk sl.unspent m)) [
          | inl a ↦ inl (left x m (in-either x k.ids (made_by (updates still)) a))
          | inr z ↦ inr z
        ]);
  }
    where
      older : (x : ℕ) → T (member x (k.ids ++ made_by (updates (filter (λ o. not (in_ops o)) still)))) → T (member x (k.ids ++ made_by (updates still)))
      older x m = elim (in-either x k.ids (made_by (updates (filter (λ o. not (in_ops o)) still))) m) [
        | inl a ↦ in-front x k.ids (made_by (updates still)) a
        | inr a ↦ in-back x k.ids (made_by (updates still)) (part-member (λ o. not (in_ops o)) x still a)
      ]

      old : (x : ℕ) → T (member x (k.ids ++ made_by (updates (filter (λ o. not (in_ops o)) still)))) → T (member x sl.unspent)
      old x m = each-at (λ y. T (member y sl.unspent)) x (k.ids ++ made_by (updates still)) ag.ids.free (older x m)

      away : (x : ℕ) → T (member x (k.ids ++ made_by (updates (filter (λ o. not (in_ops o)) still)))) → T (member x (made_by (updates (filter in_ops still)))) → ⊥
      away x m z = elim (in-either x k.ids (made_by (updates (filter (λ o. not (in_ops o)) still))) m) [
        | inl a ↦ in-both x k.ids (made_by (updates still)) ids-once a (part-member in_ops x still z)
        | inr a ↦ apart-parts in_ops x still (distinct-back k.ids (made_by (updates still)) ids-once) z a
      ]

      left : (x : ℕ) → T (member x (less mk sl.unspent)) → T (member x k.ids) ⊎ T (member x (made_by (updates still))) → T (member x (k.ids ++ made_by (updates (filter (λ o. not (in_ops o)) still))))
      left x m (inl a) = in-front x k.ids (made_by (updates (filter (λ o. not (in_ops o)) still))) a
      left x m (inr a) = elim (one-part in_ops x still a) [
        | inl p ↦ absurd (no_both (member x mk) (subst (λ xs. T (member x xs)) (sym made-in) p) (less-away x mk sl.unspent (lo.once s c sl here of opened) m))
        | inr p ↦ in-back x k.ids (made_by (updates (filter (λ o. not (in_ops o)) still))) p
      ]

  own-agrees : LogAgrees h s newslot k
  own-agrees = record { knows = knows'; ids = subst (IdsAgree k newslot (g.ghost.grants s) (g.ghost.first s)) (sym still-is) ids' }

  -- The other sessions.

  module _ (t j : ℕ) (sm : Slot) (m : Clerk) (n : j ≢ c) (p : slot g.durable j ≡ Some sm) (q : sm.session ≡ t) (r : T sm.is_open) (i : clerk_in g t ≡ Some m) where
    abbrev his : Op → Bool
    his = is_of (g.ghost.owner t)

    other : (o : Op) → T (his o) → ghost.is_durable o ≡ dur o
    other o f = go (c == o.clerk) refl
      where
        mine-not : (c == o.clerk) ≡ true → ⊥
        mine-not z = n (equal j o.clerk (is-true (j == o.clerk) (and_first (j == o.clerk) _ (subst (λ w. T (is_of w o)) (ap g.ghost.owner (sym q) ∙ (sa.slots j sm p).2) f))) ∙ sym (equal c o.clerk z))

        go : (x : Bool) → (c == o.clerk) ≡ x → (dur o || (((c == o.clerk) && (boot == o.boot)) && in_ops o)) ≡ dur o
        go true z = absurd (mine-not z)
        go false z = ap (λ x. dur o || ((x && (boot == o.boot)) && in_ops o)) z ∙ whole (dur o)
          where
            whole : (x : Bool) → (x || false) ≡ x
            whole true = refl
            whole false = refl

    other-agrees : LogAgrees h t sm m
    other-agrees =
        let old : LogAgrees g t sm m = lo.logs t j sm p q r m i in
        let kn = old.knows in
        record {
          knows = record {
            known = kn.known;
            durable = kn.durable;
            agrees = each-part (λ o. ghost.is_durable o ≡ kn.durable o.number) his ks (each-turn (λ o. T (his o) → dur o ≡ kn.durable o.number) (λ o. T (his o) → ghost.is_durable o ≡ kn.durable o.number) ks (λ o f z. other o z ∙ f z) (each-whole (λ o. dur o ≡ kn.durable o.number) his ks kn.agrees));
            sure = kn.sure;
            rest = kn.rest;
            tells = kn.tells;
            log = kn.log;
            window = kn.window;
            later = kn.later;
            marks = kn.marks;
            limit = kn.limit;
          };
          ids = subst (IdsAgree m sm (g.ghost.grants t) (g.ghost.first t)) (filter-alike (λ o. his o && not (dur o)) (λ o. his o && not (ghost.is_durable o)) ks
              (each-always (λ o. (his o && not (dur o)) ≡ (his o && not (ghost.is_durable o))) ks (λ o. under-his (his o) (dur o) (ghost.is_durable o) (other o)))) old.ids;
        }
      where
        under-his : (a x y : Bool) → (T a → y ≡ x) → (a && not x) ≡ (a && not y)
        under-his true x y f = ap not (sym (f tt))
        under-his false x y f = refl

  logs' : (t : ℕ) → OfOpen h t (λ sm. InSession h t (LogAgrees h t sm))
  logs' t j sm p q r m i = elim (was j sm p) [
    | inl z ↦
        let es : s ≡ t = sym of ∙ sym (ap (λ w. w.session) z.1) ∙ q in
        let ek : k ≡ m = same_some (sym there ∙ ap (clerk_in g) es ∙ i) in
        subst (λ w. LogAgrees h w sm m) es (subst (λ w. LogAgrees h s w m) (sym z.1) (subst (λ w. LogAgrees h s newslot w) ek own-agrees))
    | inr z ↦ other-agrees t j sm m z.0 z.1 q r i
  ]

  -- Ids.

  mk-unspent : (x : ℕ) → T (member x mk) → T (member x sl.unspent)
  mk-unspent x m = each-at (λ y. T (member y sl.unspent)) x (k.ids ++ made_by (updates still)) ag.ids.free (in-back x k.ids (made_by (updates still)) (part-member in_ops x still (subst (λ xs. T (member x xs)) made-in m)))

  abbrev Before : ℕ → Slot → Type 0
  Before t sm = (i : ℕ) × (so : Slot) × (slot g.durable i ≡ Some so) × (so.session ≡ t) × T so.is_open × ((x : ℕ) → T (member x sm.unspent) → T (member x so.unspent))

  before : (t j : ℕ) (sm : Slot) → slot now j ≡ Some sm → sm.session ≡ t → T sm.is_open → Before t sm
  before t j sm p q r = elim (was j sm p) [
    | inl z ↦ (c, sl, here, sym (ap (λ w. w.session) z.1) ∙ q, opened, λ x m. less-was x mk sl.unspent (subst (λ w. T (member x w.unspent)) z.1 m))
    | inr z ↦ (j, sm, z.1, q, r, λ x m. m)
  ]

  gone-after : (x : ℕ) → T (is_gone (images (g.durable).volume x)) → T (not (member x mk)) → T (is_gone (images now.volume x))
  gone-after x t n = subst (λ w. T (is_gone w)) (sym (done.images_next x ∙ ap (λ i. image_after x i (updates_in ops)) (gone-is (images (g.durable).volume x) (is-true _ t)) ∙ after-gone x (updates_in ops) n)) tt

  unspent' : (t x : ℕ) → OfOpen h t (λ sm. T (member x sm.unspent) → (x < now.next_id) × T (is_gone (images now.volume x)))
  unspent' t x j sm p q r m = elim (was j sm p) [
    | inl z ↦
        let m' : T (member x (less mk sl.unspent)) = subst (λ w. T (member x w.unspent)) z.1 m in
        let f = lo.unspent s x c sl here of opened (less-was x mk sl.unspent m') in
        (subst (λ y. x < y) (sym done.next_id) f.0, gone-after x f.1 (less-away x mk sl.unspent (lo.once s c sl here of opened) m'))
    | inr z ↦
        let f = lo.unspent t x j sm z.1 q r m in
        (subst (λ y. x < y) (sym done.next_id) f.0, gone-after x f.1 (none (member x mk) (λ y. no_both (member x sl.unspent) (mk-unspent x y) (lo.apart t s x (λ d. z.0 (clerks z.1 d)) j sm z.1 q r c sl here of opened m))))
  ]
    where
      clerks : slot g.durable j ≡ Some sm → t ≡ s → j ≡ c
      clerks p d = let e : Some (j, sm.age) ≡ Some (c, sl.age) = sym (ap g.ghost.owner (sym q) ∙ (sa.slots j sm p).2) ∙ ap g.ghost.owner d ∙ owner-is in ap (λ w. w.0) (same_some e)

  once' : (t : ℕ) → OfOpen h t (λ sm. T (distinct sm.unspent))
  once' t j sm p q r = elim (was j sm p) [
    | inl z ↦ subst (λ w. T (distinct w.unspent)) (sym z.1) (less-once mk sl.unspent (lo.once s c sl here of opened))
    | inr z ↦ lo.once t j sm z.1 q r
  ]

  apart' : (t u x : ℕ) → t ≢ u → OfOpen h t (λ sm. OfOpen h u (λ sn. T (member x sm.unspent) → T (not (member x sn.unspent))))
  apart' t u x d j sm p q r i sn p' q' r' m =
      let f = before t j sm p q r in
      let f' = before u i sn p' q' r' in
      not-less (member x sn.unspent) (member x (f'.1).unspent) (f'.5 x) (lo.apart t u x d f.0 f.1 f.2 f.3 f.4 f'.0 f'.1 f'.2 f'.3 f'.4 (f.5 x m))

  -- the last sixteen that nobody took are made by none of its operations
  not-made : (x : ℕ) → k.got + 1 ≡ g.ghost.grants s → g.ghost.first s ≤ x → x < g.ghost.first s + 16 → T (not (member x mk))
  not-made x gr lo' hi = none (member x mk) (λ m.
      let f = maker (λ o. T (own o && not (dur o)) × (T (not (dur o)) → HasWrites g o)) x still facts (part-member in_ops x still (subst (λ xs. T (member x xs)) made-in m)) in
      let o : Op = f.0 in
      let w : HasWrites g o = (f.1).1 (and_next (own o) _ (f.1).0) in
      let es : w.session ≡ s = one-owner g sa w.session s o w.is_open (session-open g sa ta lo im c s sl k here of opened there b ns under unmarked) w.own (and_first (own o) _ (f.1).0) in
      let ek : w.clerk ≡ k = same_some (sym w.in_place ∙ ap (clerk_in g) es ∙ there) in
      let held : IsWrite (at x ((w.clerk).cache).held) = each-at (λ y. IsWrite (at y ((w.clerk).cache).held)) x (operands o.update) w.writes (is-made x o.update f.2) in
      let none-held : at x (k.cache).held ≡ None = ((ta.alone s x (subst (λ z. T (Rattle.ec_coherence.specs.Tokens.is_untaken (g.ghost.grants s) (g.ghost.first s) z x)) (sym (ap Rattle.ec_coherence.specs.Tokens.side_in there)) (hidden gr lo' hi))).1 (Rattle.ec_coherence.specs.Tokens.side k) (ap Rattle.ec_coherence.specs.Tokens.side_in there)).0 in
      absurd (subst IsWrite (ap (λ z. at x ((z.cache).held)) ek ∙ none-held) held))
    where
      facts : Each (λ o. T (own o && not (dur o)) × (T (not (dur o)) → HasWrites g o)) still
      facts = each-part (λ o. T (own o && not (dur o)) × (T (not (dur o)) → HasWrites g o)) (λ o. own o && not (dur o)) ks (each-turn (λ o. T (not (dur o)) → HasWrites g o) (λ o. T (own o && not (dur o)) → T (own o && not (dur o)) × (T (not (dur o)) → HasWrites g o)) ks (λ o f t. (t, f)) lo.writes)

      hidden : k.got + 1 ≡ g.ghost.grants s → g.ghost.first s ≤ x → x < g.ghost.first s + 16 → T ((k.got + 1 == g.ghost.grants s) && (nat_le (g.ghost.first s) x && nat_lt x (g.ghost.first s + 16)))
      hidden a l h = holds ((k.got + 1 == g.ghost.grants s) && (nat_le (g.ghost.first s) x && nat_lt x (g.ghost.first s + 16))) (go (k.got + 1) (g.ghost.grants s) (g.ghost.first s) a l h)
        where
          go : (i j f : ℕ) → i ≡ j → f ≤ x → x < f + 16 → ((i == j) && (nat_le f x && nat_lt x (f + 16))) ≡ true
          go i j f a l h = grind arith

  whole' : (t x : ℕ) → OfOpen h t (λ sm. InSession h t (λ m. m.got + 1 ≡ sm.grants → g.ghost.first t ≤ x → x < g.ghost.first t + 16 → T (member x sm.unspent)))
  whole' t x j sm p q r m i a l u = elim (was j sm p) [
    | inl z ↦
        let es : s ≡ t = sym of ∙ sym (ap (λ w. w.session) z.1) ∙ q in
        let ek : k ≡ m = same_some (sym there ∙ ap (clerk_in g) es ∙ i) in
        let a' : k.got + 1 ≡ sl.grants = ap (λ w. w.got + 1) ek ∙ a ∙ ap (λ w. w.grants) z.1 in
        let l' : g.ghost.first s ≤ x = subst (λ w. g.ghost.first w ≤ x) (sym es) l in
        let u' : x < g.ghost.first s + 16 = subst (λ w. x < g.ghost.first w + 16) (sym es) u in
        subst (λ w. T (member x w.unspent)) (sym z.1) (less-stays x mk sl.unspent (lo.whole s x c sl here of opened k there a' l' u') (not-made x (a' ∙ ag.ids.granted) l' u'))
    | inr z ↦ lo.whole t x j sm z.1 q r m i a l u
  ]

  -- Messages, starts and the rest.

  fit-kept : (m : Msg) → log.Fits g m → log.Fits h m
  fit-kept (Flush t a d os) f = λ j sm p q r u m i. elim (was j sm p) [
    | inl z ↦ f c sl here (sym (ap (λ w. w.session) z.1) ∙ q) opened (stays-had sl.window b d (subst (λ w. T (not (has w.window d))) z.1 u)) m i
    | inr z ↦ f j sm z.1 q r u m i
  ]
  fit-kept (Room t a got ask) f = λ j sm p q r u m i. elim (was j sm p) [
    | inl z ↦ f c sl here (sym (ap (λ w. w.session) z.1) ∙ q) opened (u ∙ ap (λ w. w.grants) z.1) m i
    | inr z ↦ f j sm z.1 q r u m i
  ]
  fit-kept _ f = f

  untaken' : (t : ℕ) → OfOpen h t (λ sm. T (not (g.ghost.taken t)) → (sm.grants ≡ 0) × (sm.unspent ≡ []) × (g.ghost.grants t ≡ 0) × (sm.window ≡ Rattle.ec_sessions.specs.Windows.new_window))
  untaken' t j sm p q r u = elim (was j sm p) [
    | inl z ↦ absurd (no_both (g.ghost.taken s) (sa.in_session c boot s k (start-there s (g.ghost.owner s) c sl.age g.clerks k owner-is there) (session-there s (g.ghost.owner s) g.clerks k there)).1
        (subst (λ w. T (not (g.ghost.taken w))) (sym q ∙ ap (λ w. w.session) z.1 ∙ of) u))
    | inr z ↦ lo.untaken t j sm z.1 q r u
  ]

  starts' : (d a : ℕ) → IsNumbered ghost d a (next_of (g.clerks d a))
  starts' d a = let f = lo.starts d a in record {
    from_one = f.from_one;
    sorted = f.sorted;
    numbers = f.numbers;
    none_later = λ o t l. go o t l (of_start c boot o && in_ops o) refl (f.none_later o t l);
  }
    where
      go : (o : Op) → T (of_start d a o) → next_of (g.clerks d a) ≤ o.number → (x : Bool) → (of_start c boot o && in_ops o) ≡ x → dur o ≡ false → (dur o || (of_start c boot o && in_ops o)) ≡ false
      go o t l false q f = ap (λ y. y || (of_start c boot o && in_ops o)) f ∙ q
      go o t l true q f =
          let mine = and_first (of_start c boot o) (in_ops o) (holds _ q) in
          let ec : d ≡ c = equal d o.clerk (is-true (d == o.clerk) (and_first (d == o.clerk) _ t)) ∙ sym (equal c o.clerk (is-true (c == o.clerk) (and_first (c == o.clerk) _ mine))) in
          let eb : a ≡ boot = equal a o.boot (is-true (a == o.boot) (and_next (d == o.clerk) _ t)) ∙ sym (equal boot o.boot (is-true (boot == o.boot) (and_next (c == o.clerk) _ mine))) in
          let at-next : next_of (g.clerks d a) ≡ k.log.next = ap (λ w. next_of (g.clerks w a)) ec ∙ ap (λ w. next_of (g.clerks c w)) eb ∙ ap next_of (start-there s (g.ghost.owner s) c sl.age g.clerks k owner-is there) in
          let low : o.number < k.log.next = sent-below ks own dur k.log sl.window b ns ag.knows under unmarked o.number (and_next (of_start c boot o) (in_ops o) (holds _ q)) in
          absurd (omega arith)

  pub commit-logs : LogsAgree h
  commit-logs = record {
    writes = writes';
    logs = logs';
    starts = starts';
    closed = subst (λ z. T (holds_needed (λ o. o.update) (λ o. dur o || (is_of z o && in_ops o)) ks)) owner-is done.closed;
    untaken = untaken';
    unopened = lo.unopened;
    messages = each-more (λ m. log.Fits h m.1) g.pool ((c, Kept s e b) ∷ []) (each-turn (λ m. log.Fits g m.1) (λ m. log.Fits h m.1) g.pool (λ m f. fit-kept m.1 f) lo.messages) (tt, tt);
    unspent = unspent';
    once = once';
    apart = apart';
    whole = whole';
  }

  was-open : (t : ℕ) → T (is_open h t) → T (is_open g t)
  was-open t o = let q = open-at t now.sessions o in let f = before t q.0 q.1 (q.2).0 (q.2).1 (q.2).2 in at-open t (g.durable).sessions f.0 f.1 (f.2, f.3, f.4)

  pub commit-images : ImagesAgree h
  commit-images = record {
    server = λ x. done.volume x ∙ ap (λ z. after g.origin (updates (filter (λ o. dur o || (is_of z o && in_ops o)) ks)) x) owner-is;
    fits = im.fits;
    sound = im.sound;
    origin = im.origin;
    origin_held = im.origin_held;
    licences = im.licences;
    unopened = im.unopened;
    unfrozen = λ t o. im.unfrozen t (was-open t o);
    cut_off = λ t i. elim (im.cut_off t i) [ inl o ↦ inl (still-open t o) | inr f ↦ inr f ];
    known = λ x t. subst (λ y. x < y) (sym done.next_id) (im.known x t);
    operands = subst (λ y. Each (λ o. Each (λ x. x < y) (operands o.update)) ks) (sym done.next_id) im.operands;
  }
