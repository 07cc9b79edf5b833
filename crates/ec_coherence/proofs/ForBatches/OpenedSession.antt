-- A clerk takes its new session: it knows all its operations durable.
use Rattle.std.proofs.Common.{◌≡◌, ◌≢◌, refl, sym, ap, subst, ◌∙◌, inl, inr, ◌⊎◌, arith, ℕ, suc, zero, Bool, true, false, not, ◌&&◌, T, ◌≤◌, ◌<◌, ◌+◌, ◌^◌, nat_lt, List, [], ◌∷◌, ◌++◌}
use Rattle.std.specs.Prelude.{◌==◌, Option, None, Some}
use Rattle.std.specs.List.{filter}
use Rattle.std.specs.Ordering.{nat_cmp}
use Rattle.std.specs.FinMap.{is_sorted}
use Rattle.std.proofs.lemmas.Bool.{cases_eq}
use Rattle.ec_base.specs.Tables.{Table, at}
use Rattle.ec_base.specs.declared.ids.Age.{Age}
use Rattle.ec_volume.specs.Update.{member, distinct}
use Rattle.ec_volume.specs.declared.update.Update.{Update}
use Rattle.ec_plain.specs.declared.call.Call.{Call}
use Rattle.ec_order.specs.Order.{Holds}
use Rattle.ec_history.specs.History.{Each, Op, updates, of_start}
use Rattle.ec_machine_laws.specs.Logs.{IsLog, WindowAgrees}
use Rattle.ec_machine_laws.proofs.Beginning.{new-agrees, new-tells}
use Rattle.ec_machine_laws.proofs.Resting.{end-rest}
use Rattle.ec_sessions.specs.declared.slot.Slot.{Slot}
use Rattle.ec_wire.specs.declared.msg.Msg.{Msg}
use Rattle.ec_wire.specs.declared.msg.Msg.TheVariants.{Flush, Room}
use Rattle.ec_durable.specs.Durable.{slot}
use Rattle.ec_log.specs.declared.state.LogState.{LogState}
use Rattle.ec_protocol.specs.declared.clerk.Clerk.{Clerk}
use Rattle.ec_coherence.specs.System.{System, Ghost, clerk_in, clerk_of, if_in, with_start, is_open, is_of, undurable, at_session}
use Rattle.ec_coherence.specs.Sessions.{SessionsAgree, HasNone}
use Rattle.ec_coherence.specs.Tokens.{TokensAgree, view}
use Rattle.ec_coherence.specs.Tokens as tokens
use Rattle.ec_coherence.specs.Log as log
use Rattle.ec_coherence.specs.Log.{Knows, LogAgrees, LogsAgree, HasWrites, IdsAgree, IsNumbered, OfOpen, InSession, mine, numbered, made_by, next_of}
use Rattle.ec_coherence.specs.Images.{ImagesAgree}
use Rattle.ec_coherence.proofs.ForBatches.ClerkIn.{start-same, in-it, not-in-it}
use Rattle.ec_coherence.proofs.ForServer.Lists.{either_way, each-turn, each-both, each-more, each-part, filter-no}
use Rattle.ec_coherence.proofs.ForBatches.OpenSlots.{at-open, one-owner}
use Rattle.ec_coherence.proofs.ForServer.Tables.{same_some, differ}
use Rattle.ec_protocol.specs.Clerk.{is_session}
use Rattle.ec_base.proofs.Bools.{left as and_first, not-both as no_both, right as and_next, is-true, holds-true as holds}
use Rattle.ec_base.proofs.Numbers.{same-self as same, equal, is-less, not-under}
use Rattle.ec_base.proofs.Options.{none_some}

-- A log of nothing.

no-entry : {A : Type 0} (b : ℕ) (es : Table A) (x : A) → es ≡ [] → at b es ≡ Some x → ⊥
no-entry b es x e p = none_some (sym (ap (at b) e) ∙ p)

pub bare-log : (l : LogState) → l.undurable ≡ [] → l.batches ≡ [] → l.next_batch ≡ 1 → IsLog l
bare-log l u e n = record {
  sorted = subst (λ xs. T (is_sorted nat_cmp xs)) (sym u) tt;
  numbers = λ m x q. absurd (subst (λ xs. Holds xs m x) u q);
  first_batch = omega arith;
  batches = subst (λ xs. T (is_sorted nat_cmp xs)) (sym e) tt;
  below = λ b ns p. absurd (no-entry b l.batches ns e p);
  near = λ b ns p. absurd (no-entry b l.batches ns e p);
  held = λ b ns p. absurd (no-entry b l.batches ns e p);
  apart = λ b d ns ms p. absurd (no-entry b l.batches ns e p);
  closed = λ b ns p. absurd (no-entry b l.batches ns e p);
}

each-number : (P : ℕ → Type 0) (os : List Op) → Each (λ o. P o.number) os → (n : ℕ) (u : Update) → Holds (numbered os) n u → P n
each-number P [] h n u q = absurd q
each-number P (o ∷ os) h n u q = elim q [ inl e ↦ subst P e.0 h.0 | inr r ↦ each-number P os h.1 n u r ]

none-left : (own dur : Op → Bool) (os : List Op) → Each (λ o. T (own o) → T (dur o)) os → filter (λ o. own o && not (dur o)) os ≡ []
none-left own dur [] h = refl
none-left own dur (o ∷ os) h = filter-no (λ o. own o && not (dur o)) o os (go (own o) (dur o) h.0) ∙ none-left own dur os h.1
  where
    go : (a b : Bool) → (T a → T b) → (a && not b) ≡ false
    go true true f = refl
    go true false f = absurd (f tt)
    go false b f = refl

module _ (g : System) (sa : SessionsAgree g) (ta : TokensAgree (view g)) (lo : LogsAgree g) (im : ImagesAgree g) (c s : ℕ) (age : Age) (k : Clerk)
    (is-owner : g.ghost.owner s ≡ Some (c, age)) (at-start : g.clerks c age.boot ≡ Some k) (without : k.session ≡ None) (untaken : T (not (g.ghost.taken s))) (e : ℕ) (calls : Table (Table (ℕ × Call))) (ms : List (ℕ × Msg)) where
  abbrev pub new : Clerk
  new = record k { session = Some s; epoch = e }

  abbrev pub ghost : Ghost
  ghost = record (g.ghost) { taken = at_session s true g.ghost.taken }

  abbrev pub h : System
  h = record g { clerks = with_start c age.boot new g.clerks; calls = calls; pool = g.pool ++ ms; ghost = ghost }

  abbrev ks : List Op
  ks = g.ghost.kept

  abbrev dur : Op → Bool
  dur = g.ghost.is_durable

  abbrev own : Op → Bool
  own = is_of (g.ghost.owner s)

  bare : HasNone k
  bare = sa.without c age.boot k at-start without

  in-h : clerk_in h s ≡ Some new
  in-h = ap (λ o. clerk_of s o (with_start c age.boot new g.clerks)) is-owner ∙ ap (if_in s) (start-same c age.boot new g.clerks) ∙ in-it c age.boot s new refl

  in-none : (t : ℕ) → if_in t (Some k) ≡ None
  in-none t = ap (λ z. elim (is_session t z) as (λ z. Option Clerk) [ true ↦ Some k | false ↦ None ]) without

  not-in-g : clerk_in g s ≡ None
  not-in-g = ap (λ o. clerk_of s o g.clerks) is-owner ∙ ap (if_in s) at-start ∙ in-none s

  in-other : (t : ℕ) → t ≢ s → clerk_in h t ≡ clerk_in g t
  in-other t d = go (g.ghost.owner t)
    where
      go : (o : Option (ℕ × Age)) → clerk_of t o (with_start c age.boot new g.clerks) ≡ clerk_of t o g.clerks
      go None = refl
      go (Some o) = inner ((o.0 == c) && ((o.1).boot == age.boot)) refl
        where
          inner : (b : Bool) → ((o.0 == c) && ((o.1).boot == age.boot)) ≡ b → if_in t (elim b as (λ z. Option Clerk) [ true ↦ Some new | false ↦ g.clerks o.0 (o.1).boot ]) ≡ if_in t (g.clerks o.0 (o.1).boot)
          inner false q = refl
          inner true q =
              let ec : o.0 ≡ c = equal o.0 c (is-true (o.0 == c) (and_first (o.0 == c) _ (holds _ q))) in
              let eb : (o.1).boot ≡ age.boot = equal (o.1).boot age.boot (is-true ((o.1).boot == age.boot) (and_next (o.0 == c) _ (holds _ q))) in
              not-in-it c age.boot s new refl t d ∙ sym (ap (if_in t) (ap (λ z. g.clerks z (o.1).boot) ec ∙ ap (g.clerks c) eb ∙ at-start) ∙ in-none t)

  not-s : (t : ℕ) (m : Clerk) → clerk_in g t ≡ Some m → t ≢ s
  not-s t m i d = absurd (none_some (sym not-in-g ∙ ap (clerk_in g) (sym d) ∙ i))

  numbers-of : IsNumbered g.ghost c age.boot k.log.next
  numbers-of = subst (λ z. IsNumbered g.ghost c age.boot (next_of z)) at-start (lo.starts c age.boot)

  own-of : (o : Op) → T (own o) → T (of_start c age.boot o)
  own-of o t = subst (λ z. T (is_of z o)) is-owner t

  all-durable : T (is_open g s) → Each (λ o. T (own o) → T (dur o)) ks
  all-durable op = each-turn (λ o. T (not (dur o)) → HasWrites g o) (λ o. T (own o) → T (dur o)) ks (λ o f t. elim (either_way (dur o)) [
    | inl d ↦ d
    | inr n ↦ let w = f n in absurd (not-s w.session w.clerk w.in_place (one-owner g sa w.session s o w.is_open op w.own t))
  ]) lo.writes

  abbrev known : ℕ → Bool
  known n = nat_lt n k.log.next

  own-known : Each (λ o. T (known o.number)) (filter own ks)
  own-known = each-part (λ o. T (known o.number)) own ks (each-turn (λ o. T (of_start c age.boot o) → (suc zero ≤ o.number) × (o.number < k.log.next)) (λ o. T (own o) → T (known o.number)) ks
      (λ o f t. holds (known o.number) (is-less o.number k.log.next (f (own-of o t)).1)) numbers-of.numbers)

  own-agrees : (j : ℕ) (sm : Slot) → slot g.durable j ≡ Some sm → sm.session ≡ s → T sm.is_open → LogAgrees h s sm new
  own-agrees j sm p q r =
      let un = lo.untaken s j sm p q r untaken in
      let op : T (is_open g s) = at-open s (g.durable).sessions j sm (p, q, r) in
      let all = all-durable op in
      let rest = end-rest (numbered (filter own ks)) known k.log (subst (λ z. T (is_sorted nat_cmp (numbered (filter (is_of z) ks)))) (sym is-owner) numbers-of.sorted) (each-number (λ n. T (known n)) (filter own ks) own-known) in
      let none : undurable ghost s ≡ [] = none-left own dur ks all in
      record {
        knows = record {
          known = known;
          durable = known;
          agrees = each-turn (λ o. T (dur o) × T (known o.number)) (λ o. dur o ≡ known o.number) (filter own ks) (λ o f. is-true (dur o) f.0 ∙ sym (is-true (known o.number) f.1))
              (each-both (λ o. T (dur o)) (λ o. T (known o.number)) (filter own ks) (each-part (λ o. T (dur o)) own ks all) own-known);
          sure = λ n t. t;
          rest = record { sorted = rest.sorted; rest = bare.undurable ∙ rest.rest; closed = rest.closed };
          tells = new-tells sm.window k.log known bare.undurable bare.batches;
          log = bare-log k.log bare.undurable bare.batches bare.next_batch;
          window = subst (λ w. WindowAgrees w k.log) (sym un.3) (new-agrees k.log bare.batches bare.next_batch);
          later = λ n l. not-under n k.log.next l;
          marks = ([], un.3);
          limit = few k.log.next_batch (2 ^ 62) bare.next_batch;
        };
        ids = record {
          granted = un.0 ∙ sym un.2;
          last = λ l. absurd (let z = un.2 in omega arith);
          distinct_ids = subst (λ xs. T (distinct (xs ++ made_by (updates (undurable ghost s))))) (sym bare.ids) (subst (λ os. T (distinct (made_by (updates os)))) (sym none) tt);
          free = subst (λ xs. Each (λ x. T (member x sm.unspent)) (xs ++ made_by (updates (undurable ghost s)))) (sym bare.ids) (subst (λ os. Each (λ x. T (member x sm.unspent)) (made_by (updates os))) (sym none) tt);
          earlier = λ z. subst (λ xs. Each (λ x. x < g.ghost.first s) (xs ++ made_by (updates (undurable ghost s)))) (sym bare.ids) (subst (λ os. Each (λ x. x < g.ghost.first s) (made_by (updates os))) (sym none) tt);
          all = subst (Each (λ x. T (member x (k.ids ++ made_by (updates (undurable ghost s)))) ⊎ ((k.got + 1 ≡ g.ghost.grants s) × (g.ghost.first s ≤ x) × (x < g.ghost.first s + 16)))) (sym un.1) tt;
        };
      }
    where
      few : (n top : ℕ) → n ≡ 1 → n ≤ top + 1
      few n top e = omega arith

  logs' : (t : ℕ) → OfOpen h t (λ sm. InSession h t (LogAgrees h t sm))
  logs' t j sm p q r m i = elim (cases_eq t s) [
    | inl d ↦ subst (λ w. LogAgrees h t sm w) (same_some (sym in-h ∙ ap (clerk_in h) (sym d) ∙ i)) (subst (λ w. LogAgrees h w sm new) (sym d) (own-agrees j sm p (q ∙ d) r))
    | inr d ↦ let f : LogAgrees g t sm m = lo.logs t j sm p q r m (sym (in-other t d) ∙ i) in record { knows = f.knows; ids = f.ids }
  ]

  starts' : (d a : ℕ) → IsNumbered ghost d a (next_of (h.clerks d a))
  starts' d a = let f = lo.starts d a in
      let n : next_of (h.clerks d a) ≡ next_of (g.clerks d a) = next-same ((d == c) && (a == age.boot)) refl in
      subst (IsNumbered ghost d a) (sym n) (record { from_one = f.from_one; sorted = f.sorted; numbers = f.numbers; none_later = f.none_later })
    where
      next-same : (b : Bool) → ((d == c) && (a == age.boot)) ≡ b → next_of (elim b as (λ z. Option Clerk) [ true ↦ Some new | false ↦ g.clerks d a ]) ≡ next_of (g.clerks d a)
      next-same false q = refl
      next-same true q = sym (ap next_of (ap (λ z. g.clerks z a) (equal d c (is-true (d == c) (and_first (d == c) _ (holds _ q)))) ∙ ap (g.clerks c) (equal a age.boot (is-true (a == age.boot) (and_next (d == c) _ (holds _ q)))) ∙ at-start))

  -- no such message of a session that nobody took is there
  fit-kept : (m : Msg) → log.Fits g m → tokens.Fits (view g) m → log.Fits h m
  fit-kept (Flush t a b os) f z = λ j sm p q r w m i. elim (cases_eq t s) [
    | inl d ↦ absurd (no_both (g.ghost.taken t) z.0 (subst (λ y. T (not (g.ghost.taken y))) (sym d) untaken))
    | inr d ↦ f j sm p q r w m (sym (in-other t d) ∙ i)
  ]
  fit-kept (Room t a got ask) f z = λ j sm p q r w m i. elim (cases_eq t s) [
    | inl d ↦ absurd (no_both (g.ghost.taken t) (z.0).0 (subst (λ y. T (not (g.ghost.taken y))) (sym d) untaken))
    | inr d ↦ f j sm p q r w m (sym (in-other t d) ∙ i)
  ]
  fit-kept _ f z = f

  pub opened-logs : Each (λ m. log.Fits h m.1) ms → LogsAgree h
  opened-logs sent = record {
    writes = each-turn (λ o. T (not (dur o)) → HasWrites g o) (λ o. T (not (dur o)) → HasWrites h o) ks (λ o f n. let w = f n in
        record { session = w.session; clerk = w.clerk; in_place = in-other w.session (not-s w.session w.clerk w.in_place) ∙ w.in_place; is_open = w.is_open; own = w.own; writes = w.writes }) lo.writes;
    logs = logs';
    starts = starts';
    closed = lo.closed;
    unopened = lo.unopened;
    untaken = λ t j sm p q r n. elim (cases_eq t s) [
      | inl d ↦ absurd (subst (λ b. T (not (elim b as (λ z. Bool) [ true ↦ true | false ↦ g.ghost.taken t ]))) (ap (λ z. z == s) d ∙ same s) n)
      | inr d ↦ lo.untaken t j sm p q r (subst (λ b. T (not (elim b as (λ z. Bool) [ true ↦ true | false ↦ g.ghost.taken t ]))) (differ t s d) n)
    ];
    messages = each-more (λ m. log.Fits h m.1) g.pool ms (each-turn (λ m. log.Fits g m.1 × tokens.Fits (view g) m.1) (λ m. log.Fits h m.1) g.pool (λ m f. fit-kept m.1 f.0 f.1) (each-both (λ m. log.Fits g m.1) (λ m. tokens.Fits (view g) m.1) g.pool lo.messages ta.messages)) sent;
    unspent = lo.unspent;
    once = lo.once;
    apart = lo.apart;
    whole = λ t x j sm p q r m i a. elim (cases_eq t s) [
      | inl d ↦ absurd (let un = lo.untaken s j sm p (q ∙ d) r untaken in let y = un.0 in let z = a in omega arith)
      | inr d ↦ lo.whole t x j sm p q r m (sym (in-other t d) ∙ i) a
    ];
  }

  pub opened-images : ImagesAgree h
  opened-images = record {
    server = im.server;
    fits = im.fits;
    sound = im.sound;
    origin = im.origin;
    origin_held = im.origin_held;
    licences = λ t x m i o p. elim (cases_eq t s) [
      | inl d ↦ absurd (none_some (sym (sym (ap (λ z. at x (z.cache).held) (same_some (sym in-h ∙ ap (clerk_in h) (sym d) ∙ i))) ∙ ap (λ z. at x z.held) bare.cache) ∙ p))
      | inr d ↦ im.licences t x m (sym (in-other t d) ∙ i) o p
    ];
    unfrozen = im.unfrozen;
    unopened = im.unopened;
    cut_off = im.cut_off;
    known = im.known;
    operands = im.operands;
  }
