-- All facts behind a batch that a restart finds on the disk.
use Rattle.std.proofs.Common.{◌≡◌, ◌≢◌, refl, sym, ap, subst, ◌∙◌, inl, inr, arith, length-set, ℕ, suc, Bool, true, false, not, ◌==◌, ◌&&◌, ◌||◌, cond, T, List, [], ◌∷◌, length, Option, Some, None, append-nil}
use Rattle.std.specs.List.{filter, list_all}
use Rattle.std.proofs.lemmas.Bool.{cases_eq, ne_eqb}
use Rattle.ec_base.specs.Tables.{at, keys}
use Rattle.ec_volume.specs.Update.{member}
use Rattle.ec_volume.specs.declared.update.Update.{Update}
use Rattle.ec_history.specs.History.{Op, numbers, of_start}
use Rattle.ec_history.specs.Placing.{watch}
use Rattle.ec_history.specs.declared.watch.Watch.{Watch}
use Rattle.ec_sessions.specs.Slots.{Slots, slot_at, with_slot}
use Rattle.ec_sessions.specs.WindowLaws.{kept_over}
use Rattle.ec_sessions.specs.Windows.{after_mark, has}
use Rattle.ec_sessions.specs.declared.slot.Slot.{Slot}
use Rattle.ec_wire.specs.declared.msg.Msg.TheVariants.{Kept}
use Rattle.ec_durable.specs.Durable.{carried_out, made, slot, spent}
use Rattle.ec_durable.specs.declared.state.Durable.{Durable}
use Rattle.ec_durable.specs.declared.record.Record.{Record}
use Rattle.ec_durable.specs.declared.record.Record.TheVariants as record_of
use Rattle.ec_log.specs.Log.{batch}
use Rattle.ec_protocol.specs.declared.clerk.Clerk.{Clerk}
use Rattle.ec_coherence.specs.System.{System, Ghost, clerk_in, is_of, is_open, undurable}
use Rattle.ec_coherence.specs.Sessions.{SessionsAgree}
use Rattle.ec_coherence.specs.Tokens.{TokensAgree, view}
use Rattle.ec_coherence.specs.Log.{LogsAgree}
use Rattle.ec_coherence.specs.Images.{ImagesAgree}
use Rattle.ec_coherence.specs.Events.{EventsAgree, shown_boot}
use Rattle.ec_coherence.specs.Invariant.{Invariant}
use Rattle.ec_coherence.proofs.ForBatches.Batched.{sent-numbers}
use Rattle.ec_coherence.proofs.ForBatches.Carried.{all_carried, less, updates_in}
use Rattle.ec_coherence.proofs.ForBatches.CommitAgrees.{commit-images, commit-logs}
use Rattle.ec_coherence.proofs.ForBatches.Committing.{Commits, commits, committed}
use Rattle.ec_coherence.proofs.ForServer.Lists.{filter-alike}
use Rattle.ec_coherence.proofs.ForBatches.Marked.{marked-sessions, open-same}
use Rattle.ec_coherence.proofs.ForServer.SlotLaws.{in-range, slot-changed}
use Rattle.ec_coherence.proofs.ForServer.Tables.{same_some}
use Rattle.ec_coherence.specs.CommitLaws.{AllAgree, show_batch}
use Rattle.ec_coherence.specs.Starts.{AreAlike, StartsAgree}
use Rattle.ec_coherence.specs.Watches.{WatchesAgree, still_in}
use Rattle.ec_coherence.proofs.ForCommits.Durables as durables
use Rattle.ec_coherence.proofs.ForCommits.Durables.{durable-events, member-less, numbers-left}
use Rattle.ec_lawful.proofs.ForWhole.Bares.{fewer-images, fewer-logs, idle, idle-sessions, owned-sessions, stops-of}
use Rattle.ec_lawful.specs.Founds.{bare}
use Rattle.ec_base.proofs.Bools.{left as and_first, left-other, left-own, is-true, holds-true as holds}
use Rattle.ec_base.proofs.Numbers.{same-self as same, equal}
use Rattle.ec_coherence.proofs.ForCommits.BatchCommits.{every}

-- lists of slots that show the same
same-slots : (xs ys : Slots) → length xs ≡ length ys → ((i : ℕ) → slot_at xs i ≡ slot_at ys i) → xs ≡ ys
same-slots [] [] l e = refl
same-slots [] (y ∷ ys) l e = absurd (omega arith)
same-slots (x ∷ xs) [] l e = absurd (omega arith)
same-slots (x ∷ xs) (y ∷ ys) l e = ap (λ z. z ∷ xs) (e 0) ∙ ap (λ zs. y ∷ zs) (same-slots xs ys (omega arith) (λ i. e (suc i)))

carried-length : (c : ℕ) (ops : List (ℕ × Update)) (d : Durable) → length (all_carried c ops d).sessions ≡ length d.sessions
carried-length c [] d = refl
carried-length c (op ∷ ops) d = carried-length c ops (carried_out c op.1 d) ∙ length-set d.sessions c (spent (made op.1) (slot d c))

all-members : (P : ℕ → Bool) (xs : List ℕ) → ((n : ℕ) → T (member n xs) → T (P n)) → T (list_all P xs)
all-members P [] f = tt
all-members P (x ∷ xs) f = both (P x) (list_all P xs) (f x (subst (λ b. T (b || member x xs)) (sym (same x)) tt)) (all-members P xs (λ n m. f n (or-next (n == x) (member n xs) m)))
  where
    or-next : (a b : Bool) → T b → T (a || b)
    or-next true b t = tt
    or-next false b t = t

    both : (a b : Bool) → T a → T b → T (a && b)
    both true b t s = s
    both false b t s = absurd t

module _ (g : System) (all : AllAgree (bare g)) (c : ℕ) (sl : Slot) (k : Clerk) (in_slot : slot g.durable c ≡ Some sl) (opened : T sl.is_open) (there : clerk_in (bare g) sl.session ≡ Some k)
    (b : ℕ) (ns : List ℕ) (under : at b k.log.batches ≡ Some ns) (unmarked : T (not (has sl.window b))) where
  abbrev i : Invariant (bare g)
  i = all.0

  abbrev s : ℕ
  s = sl.session

  abbrev pub ops : List (ℕ × Update)
  ops = batch b k.log

  abbrev pub now : Durable
  now = committed (bare g) i.sessions i.tokens i.logs i.images c s sl k in_slot refl opened there b ns under unmarked

  abbrev newslot : Slot
  newslot = record sl { window = after_mark sl.window b; unspent = less (Rattle.ec_coherence.specs.Log.made_by (updates_in ops)) sl.unspent }

  abbrev γ' : Ghost
  γ' = show_batch c (sl.age).boot (keys ops) g.ghost

  -- the batch was kept
  abbrev pub batched : System
  batched = record (bare g) { durable = now; ghost = γ' }

  pub done : Commits (bare g) c s b ops sl (is_of (g.ghost.owner s)) now
  done = commits (bare g) i.sessions i.tokens i.logs i.images c s sl k in_slot refl opened there b ns under unmarked

  own : slot now c ≡ Some newslot
  own = done.own

  others : (j : ℕ) → j ≢ c → slot now j ≡ slot g.durable j
  others j n = done.others j n

  -- Sessions and tokens, where the slots are seen as one change.

  more : (n : ℕ) → T (has sl.window n) → T (has newslot.window n)
  more n h = holds (has newslot.window n) (kept_over sl.window (b ∷ []) n (is-true (has sl.window n) h))

  slots-now : now.sessions ≡ with_slot c (Some newslot) g.durable.sessions
  slots-now = same-slots now.sessions (with_slot c (Some newslot) g.durable.sessions)
      (length-set (all_carried c ops g.durable).sessions c _ ∙ carried-length c ops g.durable ∙ sym (length-set g.durable.sessions c (Some newslot)))
      (λ i. shows i ∙ sym (slot-changed g.durable.sessions c i (Some newslot) (in-range g.durable.sessions c sl in_slot)))
    where
      shows : (i : ℕ) → slot now i ≡ cond (i == c) (Some newslot) (slot g.durable i)
      shows i = go (i == c) refl
        where
          go : (z : Bool) → (i == c) ≡ z → slot now i ≡ cond z (Some newslot) (slot g.durable i)
          go true e = ap (slot now) (equal i c e) ∙ done.own
          go false e = done.others i (λ q. absurd (differ q e))
            where
              differ : i ≡ c → (i == c) ≡ false → ⊥
              differ q f = let h : true ≡ false = sym (ap (λ z. z == c) q ∙ same c) ∙ f in absurd (cc)

  -- the durable state as the facts on slots see it
  abbrev seen : Durable
  seen = record (g.durable) { volume = now.volume; next_id = now.next_id; sessions = with_slot c (Some newslot) g.durable.sessions }

  now-is : seen ≡ now
  now-is = λ j. record { volume = now.volume; sessions = sym slots-now j; next_id = now.next_id; next_session = sym done.next_session j; epoch = sym done.epoch j; max_objects = sym done.most j }

  abbrev rec : Record
  rec = record_of.Batch c s b ops

  batch-sessions : SessionsAgree batched
  batch-sessions = subst (λ d. SessionsAgree (record batched { durable = d })) now-is (owned-sessions _ None g.pool (append-nil g.pool) γ'
      (marked-sessions (bare g) g.ghost (idle g) (idle-sessions g i.sessions) c sl in_slot opened newslot refl refl opened more now.volume now.next_id rec))

  same-open : (t : ℕ) → is_open (record batched { durable = seen }) t ≡ is_open (bare g) t
  same-open t = open-same (bare g) g.ghost (idle g) (idle-sessions g i.sessions) c sl in_slot opened newslot refl refl opened more now.volume now.next_id rec t

  was-open : (r : ℕ) → T (is_open batched r) → T (is_open (bare g) r)
  was-open r o = subst T (ap (λ d. is_open (record batched { durable = d }) r) (sym now-is) ∙ same-open r) o

  batch-tokens : TokensAgree (view batched)
  batch-tokens = subst (λ d. TokensAgree (view (record batched { durable = d }))) now-is
      (subst (λ f. TokensAgree (record (view (record batched { durable = seen })) { is_open = f })) (λ j t. sym (same-open t) j) (subst (λ n. TokensAgree (record (view (bare g)) { next_id = n; next_token = n })) (sym done.next_id) i.tokens))

  -- Logs and images.

  logs-now : LogsAgree batched
  logs-now = fewer-logs _ γ'.shown g.pool ((c, Kept s now.epoch b) ∷ []) refl (commit-logs (bare g) i.sessions i.tokens i.logs i.images c s sl k in_slot refl opened there b ns under unmarked None now.epoch)

  images-now : ImagesAgree batched
  images-now = fewer-images _ γ'.shown g.pool ((c, Kept s now.epoch b) ∷ []) refl (commit-images (bare g) i.sessions i.tokens i.logs i.images c s sl k in_slot refl opened there b ns under unmarked None now.epoch)

  -- what the session may still lose is what the lines say, and the batch is of it

  abbrev pending : Op → Bool
  pending o = is_of (g.ghost.owner s) o && not (g.ghost.is_durable o)

  still-now : (watch c g.ghost.shown).undurable ≡ numbers (filter pending g.ghost.kept)
  still-now = (all.1 c).still ∙ ap (still_in g.ghost) in_slot ∙ ap (λ z. elim z as (λ y. List ℕ) [ true ↦ numbers (undurable g.ghost s) | false ↦ [] ]) (is-true sl.is_open opened)

  named : T (list_all (λ n. member n (watch c g.ghost.shown).undurable) (keys ops))
  named = all-members (λ n. member n (watch c g.ghost.shown).undurable) (keys ops) (λ n m. subst (λ xs. T (member n xs)) (sym still-now)
      (member-less n pending (λ o. not (g.ghost.is_durable o) && (is_of (g.ghost.owner s) o && member o.number (keys ops))) (λ o h. turn (g.ghost.is_durable o) (is_of (g.ghost.owner s) o) (member o.number (keys ops)) h) g.ghost.kept
      (subst (λ xs. T (member n xs)) (sent-numbers g.ghost.kept (is_of (g.ghost.owner s)) g.ghost.is_durable k.log sl.window b ns ((i.logs.logs s c sl in_slot refl opened k there).knows) under unmarked) m)))
    where
      turn : (d o m : Bool) → T (not d && (o && m)) → T (o && not d)
      turn true o m h = absurd h
      turn false true m h = tt
      turn false false m h = absurd h

  -- the lines behind it

  owner-is : g.ghost.owner s ≡ Some (c, sl.age)
  owner-is = (i.sessions.slots c sl in_slot).2

  abbrev same-field : {A : Type 0} (f : Watch → A) → ((w : Watch) → f (durables.before (bare g) i.events c (sl.age).boot (keys ops) now None g.pool (done.most) named w) ≡ f w)
      → (e : ℕ) → f (watch e γ'.shown) ≡ f (watch e g.ghost.shown)
  same-field f h e = durables.same-field (bare g) i.events c (sl.age).boot (keys ops) now None g.pool (done.most) named f h e

  watched : (e : ℕ) → watch e γ'.shown ≡ cond (e == c) (record (watch e g.ghost.shown) { undurable = filter (λ n. not (member n (keys ops))) (watch e g.ghost.shown).undurable }) (watch e g.ghost.shown)
  watched e = durables.watched (bare g) i.events c (sl.age).boot (keys ops) now None g.pool (done.most) named e

  left : numbers (undurable γ' s) ≡ filter (λ n. not (member n (keys ops))) (numbers (undurable g.ghost s))
  left = sym (numbers-left pending (λ n. not (member n (keys ops))) g.ghost.kept ∙ ap numbers (filter-alike (λ o. pending o && not (member o.number (keys ops))) (λ o. is_of (g.ghost.owner s) o && not (γ'.is_durable o)) g.ghost.kept (every _ alike g.ghost.kept)))
    where
      alike : (o : Op) → (pending o && not (member o.number (keys ops))) ≡ (is_of (g.ghost.owner s) o && not (γ'.is_durable o))
      alike o = left-own (is_of (g.ghost.owner s) o) (g.ghost.is_durable o) (member o.number (keys ops))
          ∙ ap (λ w. is_of (g.ghost.owner s) o && not (g.ghost.is_durable o || (is_of w o && member o.number (keys ops)))) owner-is

  left-others : (e : ℕ) (sm : Slot) → e ≢ c → slot g.durable e ≡ Some sm → undurable γ' sm.session ≡ undurable g.ghost sm.session
  left-others e sm n p = filter-alike (λ o. is_of (g.ghost.owner sm.session) o && not (γ'.is_durable o)) (λ o. is_of (g.ghost.owner sm.session) o && not (g.ghost.is_durable o)) g.ghost.kept (every _ alike g.ghost.kept)
    where
      off : (o : Op) → T (of_start e (sm.age).boot o) → of_start c (sl.age).boot o ≡ false
      off o h = ap (λ z. z && ((sl.age).boot == o.boot)) (ne_eqb c o.clerk (λ q. n (equal e o.clerk (is-true (e == o.clerk) (and_first (e == o.clerk) _ h)) ∙ sym q)))

      alike : (o : Op) → (is_of (g.ghost.owner sm.session) o && not (γ'.is_durable o)) ≡ (is_of (g.ghost.owner sm.session) o && not (g.ghost.is_durable o))
      alike o = left-other (is_of (g.ghost.owner sm.session) o) (g.ghost.is_durable o) (of_start c (sl.age).boot o) (member o.number (keys ops))
          (λ h. off o (subst (λ w. T (is_of w o)) ((i.sessions.slots e sm p).2) h))

  still-others : (e : ℕ) → e ≢ c → still_in γ' (slot g.durable e) ≡ still_in g.ghost (slot g.durable e)
  still-others e n = go (slot g.durable e) refl
    where
      go : (o : Option Slot) → slot g.durable e ≡ o → still_in γ' o ≡ still_in g.ghost o
      go None p = refl
      go (Some sm) p = ap (λ ks. elim sm.is_open as (λ y. List ℕ) [ true ↦ numbers ks | false ↦ [] ]) (left-others e sm n p)

  batch-watches : WatchesAgree batched
  batch-watches e = record {
    running = same-field (λ w. w.running) (λ w. refl) e ∙ (all.1 e).running;
    early = same-field (λ w. w.early) (λ w. refl) e ∙ (all.1 e).early;
    still = elim (cases_eq e c) [
      | inl q ↦
          ap (λ w. w.undurable) (watched e ∙ ap (λ z. cond z (record (watch e g.ghost.shown) { undurable = filter (λ n. not (member n (keys ops))) (watch e g.ghost.shown).undurable }) (watch e g.ghost.shown)) (ap (λ z. z == c) q ∙ same c))
          ∙ ap (λ z. filter (λ n. not (member n (keys ops))) (watch z g.ghost.shown).undurable) q ∙ ap (filter (λ n. not (member n (keys ops)))) still-now ∙ sym left
          ∙ sym (ap (λ z. elim z as (λ y. List ℕ) [ true ↦ numbers (undurable γ' s) | false ↦ [] ]) (is-true sl.is_open opened)) ∙ sym (ap (still_in γ') (ap (slot now) q ∙ own))
      | inr n ↦
          ap (λ w. w.undurable) (watched e ∙ ap (λ z. cond z (record (watch e g.ghost.shown) { undurable = filter (λ n. not (member n (keys ops))) (watch e g.ghost.shown).undurable }) (watch e g.ghost.shown)) (ne_eqb e c n))
          ∙ (all.1 e).still ∙ sym (still-others e n) ∙ sym (ap (still_in γ') (others e n))
    ];
    unseen = λ q. ap (λ w. w.undurable) (watched e) ∙ none-left (e == c) ((all.1 e).unseen (sym (same-field (λ w. w.open_start) (λ w. refl) e) ∙ q));
    open_start = λ f q.
        let z = (all.1 e).open_start f (sym (same-field (λ w. w.open_start) (λ w. refl) e) ∙ q) in
        elim (cases_eq e c) [
          | inl i ↦
              let is : z.0 ≡ sl = same_some (sym z.1 ∙ ap (slot g.durable) i ∙ in_slot) in
              (newslot, ap (slot now) i ∙ own, opened, z.3 ∙ ap (λ w. shown_boot g e (w.age).boot) is)
          | inr n ↦ (z.0, others e n ∙ z.1, z.2, z.3)
        ];
    crashed = λ f l m r. same-field (λ w. w.crashed) (λ w. refl) e ∙ (all.1 e).crashed f l m r;
  }
    where
      none-left : (z : Bool) → (watch e g.ghost.shown).undurable ≡ [] → (cond z (record (watch e g.ghost.shown) { undurable = filter (λ n. not (member n (keys ops))) (watch e g.ghost.shown).undurable }) (watch e g.ghost.shown)).undurable ≡ []
      none-left true h = ap (filter (λ n. not (member n (keys ops)))) h
      none-left false h = h

  events-now : EventsAgree batched
  events-now = durable-events (bare g) i.events c (sl.age).boot (keys ops) now None g.pool (done.most) named was-open (λ r fs f x. refl)

  alike-now : AreAlike γ'
  alike-now x j e f n =
      ap (λ z. z || (of_start c (sl.age).boot x && member x.number (keys ops))) ((all.3).alike x j e f n)
      ∙ ap (λ z. g.ghost.is_durable j || (((c == z) && ((sl.age).boot == x.boot)) && member x.number (keys ops))) e
      ∙ ap (λ z. g.ghost.is_durable j || (((c == j.clerk) && ((sl.age).boot == z)) && member x.number (keys ops))) f
      ∙ ap (λ z. g.ghost.is_durable j || (((c == j.clerk) && ((sl.age).boot == j.boot)) && member z (keys ops))) n

  starts-now : StartsAgree batched
  starts-now = let a = all.3 in record { owned = a.owned; started = a.started; greets = a.greets; above = a.above; alike = alike-now }

  pub batched-all : AllAgree batched
  batched-all = (
    record { sessions = batch-sessions; tokens = batch-tokens; logs = logs-now; images = images-now; events = events-now; stops = stops-of batched tt tt images-now },
    batch-watches,
    all.2,
    starts-now,
  )
