-- A new operation is in no list of a clerk that is cut off, so that all facts of histories stand behind an answer.
use Rattle.std.proofs.Common.{◌≡◌, refl, sym, ap, subst, ◌∙◌, arith, ◌≤◌, ◌<◌, ◌+◌, ℕ, T, Bool, true, false, ◌==◌, ◌&&◌, ◌||◌, map, List, [], ◌∷◌, length, Option, Some, None, length-append}
use Rattle.std.specs.List.{filter, list_any}
use Rattle.std.proofs.lemmas.Bool.{and_parts, true≢false}
use Rattle.std.proofs.lemmas.List.Elements.{filter-append}
use Rattle.ec_base.specs.declared.ids.Age.{Age}
use Rattle.ec_volume.specs.declared.update.Update.{Update}
use Rattle.ec_plain.specs.declared.call.Call.{Call}
use Rattle.ec_history.specs.History.{Covers, Each, History, Op, is_one_of, kept, numbers, of_start, updates}
use Rattle.ec_history.specs.Legal.{IsLegal, is_op_of, leaves}
use Rattle.ec_history.specs.Placing.{MayFollow}
use Rattle.ec_history.specs.declared.shown.Shown.TheVariants.{Answered}
use Rattle.ec_volume.specs.Volume.{after as images_after}
use Rattle.std.specs.Prelude.{if◌then◌else◌, is_some}
use Rattle.ec_history.specs.declared.entry.Answer.{Answer}
use Rattle.ec_history.specs.declared.entry.Entry.TheVariants as entry
use Rattle.ec_history.proofs.OfLaws.ForPlacing.Cuts.{legal-split}
use Rattle.ec_history.proofs.OfLaws.ForPlacing.Numbers.{kept-up_to}
use Rattle.ec_cache.specs.declared.resolve.verdict.Verdict.{Verdict}
use Rattle.ec_cache.specs.declared.resolve.verdict.Verdict.TheVariants.{Need, Lost, NeedIds, Done}
use Rattle.ec_protocol.specs.Clerk.{Doing, verdict}
use Rattle.ec_protocol.specs.declared.clerk.Clerk.{Clerk}
use Rattle.ec_coherence.specs.System.{System, base_of, is_open, seen_ops, undurable}
use Rattle.ec_coherence.specs.Events.{CutAgrees, EventsAgree, IsUncut, cut_in, same_op, shown_boot, shown_op}
use Rattle.ec_coherence.proofs.ForServer.Tables.{each-map, same_some}
use Rattle.ec_coherence.specs.Answers.{Gives, IsLive, Sees, based, fresh_of, op_given, seen_by}
use Rattle.ec_coherence.specs.Comes.{after_answer, entry_next}
use Rattle.ec_coherence.proofs.ForCommits.Appended.{answer-keeps}
use Rattle.ec_base.proofs.Numbers.{same-self as same, equal}
use Rattle.ec_base.proofs.Options.{none_some}
use Rattle.ec_base.proofs.Bools.{and-both as and_both, is-true}

-- Only the sessions that a running start is cut off from matter to the facts of histories.

abbrev pub same_age : Age → Age → Bool
same_age a b = (a.boot == b.boot) && (a.round == b.round)

age-is : (a b : Age) → same_age a b ≡ true → a ≡ b
age-is a b e =
    let two = and_parts (a.boot == b.boot) (a.round == b.round) e in
    ap (λ z. record (a) { boot = z }) (equal a.boot b.boot two.0) ∙ ap (λ z. record (b) { round = z }) (equal a.round b.round two.1)

age-same : (a : Age) → same_age a a ≡ true
age-same a = is-true (same_age a a) (and_both (a.boot == a.boot) (a.round == a.round) (subst T (sym (same a.boot)) tt) (subst T (sym (same a.round)) tt))

abbrev pub is_age_of : Age → Option Clerk → Bool
is_age_of a None = false
is_age_of a (Some k) = same_age a k.age

abbrev pub is_run_of : (ℕ → ℕ → Option Clerk) → ℕ → Age → Option ℕ → Bool
is_run_of clerks c a None = false
is_run_of clerks c a (Some b) = is_age_of a (clerks c b)

-- the session is of the age of a running start
abbrev pub is_current : System → Option (ℕ × Age) → Bool
is_current g None = false
is_current g (Some o) = is_run_of g.clerks o.0 o.1 (g.running o.0)

abbrev pub now_frozen : System → ℕ → Option (List Op)
now_frozen g s = elim (is_current g (g.ghost.owner s)) [ true ↦ g.ghost.frozen s | false ↦ None ]

abbrev pub trimmed : System → System
trimmed g = record g { ghost = record (g.ghost) { frozen = λ s. now_frozen g s } }

module _ (g : System) where
  -- where it's frozen meant, it was so, for a running start
  was-frozen : (s : ℕ) (ks : List Op) → now_frozen g s ≡ Some ks → (is_current g (g.ghost.owner s) ≡ true) × (g.ghost.frozen s ≡ Some ks)
  was-frozen s ks q = go (is_current g (g.ghost.owner s)) refl q
    where
      go : (b : Bool) → is_current g (g.ghost.owner s) ≡ b → elim b as (λ z. Option (List Op)) [ true ↦ g.ghost.frozen s | false ↦ None ] ≡ Some ks → (is_current g (g.ghost.owner s) ≡ true) × (g.ghost.frozen s ≡ Some ks)
      go true e q = (e, q)
      go false e q = absurd (none_some q)

  none-frozen : (s : ℕ) → g.ghost.frozen s ≡ None → now_frozen g s ≡ None
  none-frozen s n = go (is_current g (g.ghost.owner s))
    where
      go : (b : Bool) → elim b as (λ z. Option (List Op)) [ true ↦ g.ghost.frozen s | false ↦ None ] ≡ None
      go true = n
      go false = refl

  current : (c b s : ℕ) (k : Clerk) → g.running c ≡ Some b → g.clerks c b ≡ Some k → g.ghost.owner s ≡ Some (c, k.age) → is_current g (g.ghost.owner s) ≡ true
  current c b s k r q o = ap (is_current g) o ∙ ap (is_run_of g.clerks c k.age) r ∙ ap (is_age_of k.age) q ∙ age-same k.age

  still-frozen : (c b s : ℕ) (k : Clerk) → g.running c ≡ Some b → g.clerks c b ≡ Some k → g.ghost.owner s ≡ Some (c, k.age) → now_frozen g s ≡ g.ghost.frozen s
  still-frozen c b s k r q o = ap (λ z. elim z as (λ y. Option (List Op)) [ true ↦ g.ghost.frozen s | false ↦ None ]) (current c b s k r q o)

  was-uncut : (c b : ℕ) (k : Clerk) → g.running c ≡ Some b → g.clerks c b ≡ Some k → IsUncut (trimmed g) c k → IsUncut g c k
  was-uncut c b k r q n s o = sym (still-frozen c b s k r q o) ∙ n s o

  cut-trimmed : (c b s : ℕ) (k : Clerk) (ks : List Op) → CutAgrees g c b s k ks → CutAgrees (trimmed g) c b s k ks
  cut-trimmed c b s k ks z = record { before = z.before; at = z.at; lost = z.lost; behind = z.behind; was = z.was; keeps = z.keeps; alone = z.alone; untold = z.untold; owes = z.owes; frozen = z.frozen; later = z.later }

  events-trimmed : EventsAgree g → EventsAgree (trimmed g)
  events-trimmed ev = record {
    placeable = ev.placeable;
    placed = ev.placed;
    starts = ev.starts;
    untold = λ c b k r q n. ev.untold c b k r q (was-uncut c b k r q n);
    keeps = ev.keeps;
    legal = ev.legal;
    owes = λ c b k r q n. ev.owes c b k r q (was-uncut c b k r q n);
    counts = ev.counts;
    covered = ev.covered;
    untouched = ev.untouched;
    cuts = λ c b s k ks r q o f. cut-trimmed c b s k ks (ev.cuts c b s k ks r q o (was-frozen s ks f).1);
  }

-- A new operation isn't in them.
module _ (g : System) (ev : EventsAgree g) (c b : ℕ) (k : Clerk) (r : g.running c ≡ Some b) (q : g.clerks c b ≡ Some k) where
  abbrev sb : ℕ
  sb = shown_boot g c b

  abbrev count : History → ℕ
  count h = length (filter (is_op_of c sb) h)

  unmapped : (P : Op → Type 0) (ks : List Op) → Each P (map (shown_op g) ks) → Each (λ j. P (shown_op g j)) ks
  unmapped P [] h = tt
  unmapped P (j ∷ ks) h = (h.0, unmapped P ks h.1)

  -- what was kept before a loss has numbers below the next one
  below : (d f s : ℕ) (m : Clerk) (ks : List Op) → CutAgrees g d f s m ks → Each (λ j. of_start c sb (shown_op g j) ≡ true → j.number < k.log.next) ks
  below d f s m ks z = unmapped (λ j. of_start c sb j ≡ true → j.number < k.log.next) ks (subst (Each (λ j. of_start c sb j ≡ true → j.number < k.log.next)) z.keeps
      (each-map (λ j. of_start c sb j ≡ true → j.number ≤ count z.before) (λ j. of_start c sb j ≡ true → j.number < k.log.next) (kept (base_of g) z.before) (λ j f e. less j.number (count z.before) (f e))
      (kept-up_to (base_of g) g.durable.max_objects c sb z.before (legal-split (base_of g) g.durable.max_objects z.before ((z.at, entry.Loss d (shown_boot g d f) z.lost) ∷ z.behind) (subst (IsLegal (base_of g) g.durable.max_objects) z.was ev.legal)).0)))
    where
      whole : count g.ghost.history ≡ count z.before + count ((z.at, entry.Loss d (shown_boot g d f) z.lost) ∷ z.behind)
      whole = ap count z.was ∙ ap length (filter-append (is_op_of c sb) z.before ((z.at, entry.Loss d (shown_boot g d f) z.lost) ∷ z.behind))
          ∙ length-append (filter (is_op_of c sb) z.before) (filter (is_op_of c sb) ((z.at, entry.Loss d (shown_boot g d f) z.lost) ∷ z.behind))

      sum : (n h a e x : ℕ) → h ≡ a + e → h + 1 ≡ x → n ≤ a → n < x
      sum n h a e x p q l = omega (arith, p, q, l)

      less : (n m : ℕ) → n ≤ count z.before → n < k.log.next
      less n m l = sum n (count g.ghost.history) (count z.before) (count ((z.at, entry.Loss d (shown_boot g d f) z.lost) ∷ z.behind)) k.log.next whole (ev.counts c b k r q) l

  -- so no one has the next one
  not-next : (o : Op) → o.clerk ≡ c → o.boot ≡ b → o.number ≡ k.log.next → (ks : List Op) → Each (λ j. of_start c sb (shown_op g j) ≡ true → j.number < k.log.next) ks → T (list_any (λ j. same_op j o) ks) → ⊥
  not-next o oc ob on [] h t = t
  not-next o oc ob on (j ∷ ks) h t = go (same_op j o) refl t (not-next o oc ob on ks h.1)
    where
      never : (n m : ℕ) → n < m → n ≡ m → ⊥
      never n m l e = omega (arith, l, e)

      one : same_op j o ≡ true → ⊥
      one e =
          let w = and_parts (of_start j.clerk j.boot o && of_start o.clerk o.boot j) (j.number == o.number) e in
          let a = and_parts (of_start j.clerk j.boot o) (of_start o.clerk o.boot j) w.0 in
          let p = and_parts (o.clerk == j.clerk) (o.boot == j.boot) a.1 in
          let jc : c ≡ j.clerk = sym oc ∙ equal o.clerk j.clerk p.0 in
          let jb : b ≡ j.boot = sym ob ∙ equal o.boot j.boot p.1 in
          never j.number k.log.next (h.0 (ap (λ z. (z == j.clerk) && (shown_boot g z b == shown_boot g j.clerk j.boot)) jc ∙ ap (λ z. (j.clerk == j.clerk) && (shown_boot g j.clerk z == shown_boot g j.clerk j.boot)) jb
          ∙ is-true ((j.clerk == j.clerk) && (shown_boot g j.clerk j.boot == shown_boot g j.clerk j.boot)) (and_both (j.clerk == j.clerk) (shown_boot g j.clerk j.boot == shown_boot g j.clerk j.boot) (subst T (sym (same j.clerk)) tt) (subst T (sym (same (shown_boot g j.clerk j.boot))) tt))))
          (equal j.number o.number w.1 ∙ on)

      go : (y : Bool) → same_op j o ≡ y → T (y || list_any (λ j. same_op j o) ks) → (T (list_any (λ j. same_op j o) ks) → ⊥) → ⊥
      go true e t f = one e
      go false e t f = f t

  unseen-ops : (ks : List Op) → Each (λ j. of_start c sb (shown_op g j) ≡ true → j.number < k.log.next) ks → (p : ℕ) (v : Verdict) → Each (λ o. T (list_any (λ j. same_op j o) ks) → ⊥) (op_given c b p k v)
  unseen-ops ks h p (Need y m) = tt
  unseen-ops ks h p (Lost ns xs) = tt
  unseen-ops ks h p (NeedIds xs) = tt
  unseen-ops ks h p (Done o) = go o.update
    where
      go : (u : Option Update) → Each (λ o. T (list_any (λ j. same_op j o) ks) → ⊥) (elim u as (λ z. List Op) [ None ↦ [] | Some w ↦ record { clerk = c; boot = b; number = k.log.next; place = p; update = w } ∷ [] ])
      go None = tt
      go (Some w) = (not-next (record { clerk = c; boot = b; number = k.log.next; place = p; update = w }) refl refl refl ks h, tt)

  -- of a session of a running start's age
  its-start : (s : ℕ) (o : Option (ℕ × Age)) → g.ghost.owner s ≡ o → is_current g o ≡ true → (d : ℕ) × (f : ℕ) × (m : Clerk) × (g.running d ≡ Some f) × (g.clerks d f ≡ Some m) × (g.ghost.owner s ≡ Some (d, m.age))
  its-start s None e t = absurd (true≢false (sym t))
  its-start s (Some o) e t = runs (g.running o.0) refl t
    where
      stands : (f : ℕ) → g.running o.0 ≡ Some f → (x : Option Clerk) → g.clerks o.0 f ≡ x → is_age_of o.1 x ≡ true → (d : ℕ) × (f : ℕ) × (m : Clerk) × (g.running d ≡ Some f) × (g.clerks d f ≡ Some m) × (g.ghost.owner s ≡ Some (d, m.age))
      stands f r None p t = absurd (true≢false (sym t))
      stands f r (Some m) p t = (o.0, f, m, r, p, e ∙ ap (λ a. Some (o.0, a)) (age-is o.1 m.age t))

      runs : (x : Option ℕ) → g.running o.0 ≡ x → is_run_of g.clerks o.0 o.1 x ≡ true → (d : ℕ) × (f : ℕ) × (m : Clerk) × (g.running d ≡ Some f) × (g.clerks d f ≡ Some m) × (g.ghost.owner s ≡ Some (d, m.age))
      runs None p t = absurd (true≢false (sym t))
      runs (Some f) p t = stands f p (g.clerks o.0 f) refl t

  unseen-now : (p : ℕ) (v : Verdict) (s : ℕ) (ks : List Op) → now_frozen g s ≡ Some ks → Each (λ o. T (list_any (λ j. same_op j o) ks) → ⊥) (op_given c b p k v)
  unseen-now p v s ks f =
      let w = was-frozen g s ks f in
      let i = its-start s (g.ghost.owner s) refl w.0 in
      unseen-ops ks (below i.0 i.1 s i.2 ks (ev.cuts i.0 i.1 s i.2 ks i.3 i.4 i.5 w.1)) p v

-- So the facts of histories stand behind an answer that keeps the rest.

-- what it has to keep
pub record Rests (g : System) (c b : ℕ) (k : Clerk) (d : Doing) (l : ℕ) (cl : Call) (a : Answer) (op : Option ℕ) : Type 0 where
  pub gives : Gives g.durable.max_objects k (verdict cl k) a op d.clerk.owed
  pub age : d.clerk.age ≡ k.age
  pub next : d.clerk.log.next ≡ (if is_some op then k.log.next + 1 else k.log.next)
  pub line : MayFollow g.ghost.shown (Answered l c cl a op)
  pub settled : (o : Op) → Covers (based g (fresh_of k)) g.ghost.history (entry_next g c b l cl a op) o.clerk (shown_boot g o.clerk o.boot) o.number → T (g.ghost.is_durable o)
  pub leaves_others : (s : ℕ) (o : ℕ × Age) → g.ghost.owner s ≡ Some o → T (is_open g s) → (o.0 == c) ≡ false
      → T (leaves (based g (fresh_of k)) (kept (based g (fresh_of k)) g.ghost.history) o.0 (filter (is_one_of o.0 (shown_boot g o.0 (o.1).boot) (numbers (undurable g.ghost s))) (kept (based g (fresh_of k)) g.ghost.history)) (entry_next g c b l cl a op))

module _ (g : System) (ev : EventsAgree g) (c b : ℕ) (k : Clerk) (r : g.running c ≡ Some b) (q : g.clerks c b ≡ Some k) (live : IsLive g c k) (sees : Sees g k) (d : Doing) (l : ℕ) (cl : Call) (a : Answer) (op : Option ℕ)
    (t : Rests g c b k d l cl a op) where
  abbrev after : System
  after = after_answer g c b k d l cl a op

  abbrev meant : System
  meant = after_answer (trimmed g) c b k d l cl a op

  live-meant : IsLive (trimmed g) c k
  live-meant = record { uncut = λ s o. none-frozen g s (live.uncut s o); sees_all = go k.session live.sees_all }
    where
      go : (o : Option ℕ) → cut_in g o ≡ None → cut_in (trimmed g) o ≡ None
      go None n = refl
      go (Some s) n = none-frozen g s n

  same-seen : seen_by (trimmed g) k ≡ seen_by g k
  same-seen = ap (λ z. images_after g.origin (updates (seen_ops z g.ghost.kept))) (live-meant.sees_all ∙ sym live.sees_all)

  sees-meant : Sees (trimmed g) k
  sees-meant = record {
    images = λ x h e. sees.images x h e ∙ ap (λ v. v x) (sym same-seen);
    free = λ x m. ap (λ v. v x) same-seen ∙ sees.free x m;
    no_zero = sees.no_zero;
  }

  kept-meant : EventsAgree meant
  kept-meant = answer-keeps (trimmed g) c b k d l cl a op (events-trimmed g ev) r q live-meant sees-meant (record {
    gives = t.gives;
    age = t.age;
    next = t.next;
    line = t.line;
    settled = t.settled;
    leaves_others = t.leaves_others;
    unseen = λ s ks f. unseen-now g ev c b k r q (length g.ghost.shown + 1) (verdict cl k) s ks f;
  })

  -- the clerk's start is of the same age
  same-clerk : (e f : ℕ) (m : Clerk) → after.clerks e f ≡ Some m → (n : Clerk) × (g.clerks e f ≡ Some n) × (n.age ≡ m.age)
  same-clerk e f m p = go ((e == c) && (f == b)) refl p
    where
      go : (y : Bool) → ((e == c) && (f == b)) ≡ y → elim y as (λ z. Option Clerk) [ true ↦ Some d.clerk | false ↦ g.clerks e f ] ≡ Some m → (n : Clerk) × (g.clerks e f ≡ Some n) × (n.age ≡ m.age)
      go true h p =
          let two = and_parts (e == c) (f == b) h in
          (k, ap (λ z. g.clerks z f) (equal e c two.0) ∙ ap (g.clerks c) (equal f b two.1) ∙ q, sym t.age ∙ ap (λ z. z.age) (same_some p))
      go false h p = (m, p, refl)

  frozen-meant : (e f s : ℕ) (m : Clerk) → g.running e ≡ Some f → after.clerks e f ≡ Some m → g.ghost.owner s ≡ Some (e, m.age) → now_frozen g s ≡ g.ghost.frozen s
  frozen-meant e f s m r2 p o = let n = same-clerk e f m p in still-frozen g e f s n.0 r2 n.1 (o ∙ ap (λ z. Some (e, z)) (sym n.2))

  uncut-meant : (e : ℕ) (m : Clerk) → IsUncut after e m → IsUncut meant e m
  uncut-meant e m n s o = none-frozen g s (n s o)

  cut-back : (e f s : ℕ) (m : Clerk) (ks : List Op) → CutAgrees meant e f s m ks → CutAgrees after e f s m ks
  cut-back e f s m ks z = record { before = z.before; at = z.at; lost = z.lost; behind = z.behind; was = z.was; keeps = z.keeps; alone = z.alone; untold = z.untold; owes = z.owes; frozen = z.frozen; later = z.later }

  pub answer-keeps-all : EventsAgree after
  answer-keeps-all = let f = kept-meant in record {
    placeable = f.placeable;
    placed = f.placed;
    starts = f.starts;
    untold = λ e a m r2 p n. f.untold e a m r2 p (uncut-meant e m n);
    keeps = f.keeps;
    legal = f.legal;
    owes = λ e a m r2 p n. f.owes e a m r2 p (uncut-meant e m n);
    counts = f.counts;
    covered = f.covered;
    untouched = f.untouched;
    cuts = λ e a s m ks r2 p o z. cut-back e a s m ks (f.cuts e a s m ks r2 p o (frozen-meant e a s m r2 p o ∙ z));
  }
