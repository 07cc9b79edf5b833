-- Cut-off starts, and counted ones, behind a clerk's step, and behind its answers.
use Rattle.std.proofs.Common.{◌≡◌, refl, sym, ap, subst, ◌∙◌, inl, inr, ◌⊎◌, arith, ◌<◌, ◌≤◌, ◌+◌, ℕ, Bool, true, false, not, ◌==◌, ◌&&◌, cond, T, List, [], ◌∷◌, ◌++◌, Option, Some, None, append-nil}
use Rattle.std.specs.List.{filter}
use Rattle.std.proofs.lemmas.Bool.{and_parts, true≢false}
use Rattle.ec_volume.specs.Update.{listed}
use Rattle.ec_volume.specs.declared.update.Update.{Update}
use Rattle.ec_order.specs.Order.{Holds}
use Rattle.ec_plain.specs.declared.call.Call.{Call}
use Rattle.ec_history.specs.History.{Op, numbers, of_start}
use Rattle.ec_history.specs.Placing.{answered, begun, shows, watch, watch_from}
use Rattle.ec_history.specs.declared.watch.Watch.{Watch}
use Rattle.ec_history.specs.declared.entry.Answer.{Answer}
use Rattle.ec_history.specs.declared.shown.Shown.{Shown}
use Rattle.ec_history.specs.declared.shown.Shown.TheVariants as show
use Rattle.ec_history.proofs.OfLaws.ForPlacing.More.{watch-append, watch-step}
use Rattle.ec_history.proofs.OfLaws.ForPlacing.Watching.{answered_as}
use Rattle.ec_machine_laws.specs.Picks.{IsRest}
use Rattle.ec_machine_laws.proofs.Logging.{issue-log}
use Rattle.ec_machine_laws.proofs.Holding.{holds-kept}
use Rattle.ec_machine_laws.proofs.Resting.{issue-rest, issue-tells}
use Rattle.ec_sessions.specs.declared.slot.Slot.{Slot}
use Rattle.ec_sessions.specs.declared.window.Window.{Window}
use Rattle.ec_wire.specs.declared.msg.Msg.TheVariants.{Kept}
use Rattle.ec_durable.specs.Durable.{slot}
use Rattle.ec_log.specs.Log.{issue, kept}
use Rattle.ec_log.specs.declared.state.LogState.{LogState}
use Rattle.ec_protocol.specs.Clerk.{Doing, with_log}
use Rattle.ec_protocol.specs.declared.clerk.Clerk.{Clerk}
use Rattle.ec_protocol.specs.declared.clerk.Out.{Out}
use Rattle.ec_protocol.specs.declared.clerk.Out.TheVariants as out
use Rattle.ec_coherence.specs.System.{System, Ghost, at_session, is_of}
use Rattle.ec_coherence.specs.Sessions as sessions
use Rattle.ec_coherence.specs.Events.{IsUncut}
use Rattle.ec_coherence.specs.Log.{Knows, next_of, numbered}
use Rattle.ec_coherence.specs.Steps.{UnderClerk, call_of, doing_in, less_call, out_lines}
use Rattle.ec_coherence.specs.ChangeLaws.{next_op}
use Rattle.ec_coherence.proofs.ForBatches.ClerkIn.{start-same}
use Rattle.ec_coherence.proofs.ForServer.Lists.{each-more, filter-more, filter-yes}
use Rattle.ec_coherence.proofs.ForBatches.LogChange.{kept-knows}
use Rattle.ec_coherence.proofs.ForServer.Tables.{same_some}
use Rattle.ec_coherence.specs.CommitLaws.{AllAgree}
use Rattle.ec_coherence.specs.StandLaws.{IsUnderWay}
use Rattle.ec_lawful.specs.OfClerkSteps.Counts.{CountsAgree}
use Rattle.ec_lawful.specs.OfClerkSteps.Cuts.{CutKnows, CutsAgree, lost_of}
use Rattle.ec_lawful.specs.OfClerkSteps.Frames.{AnswersAs, IsCalm}
use Rattle.ec_lawful.proofs.OfClerkSteps.ForJoins.Keeping.{keeps-knowing}
use Rattle.ec_lawful.proofs.OfClerkSteps.ForJoins.Outs.{Calls}
use Rattle.ec_lawful.proofs.OfClerkSteps.ForJoins.Slots.{its-slot}
use Rattle.ec_base.proofs.Numbers.{same-self as same, equal}
use Rattle.ec_base.proofs.Options.{none_some}
use Rattle.ec_base.proofs.Lists.{map-more}
use Rattle.ec_base.proofs.Bools.{is-true, holds-true as holds}

-- One start goes on at its age.
module _ (g : System) (c b : ℕ) (d e : Doing) (γ : Ghost) (same_age : e.clerk.age ≡ d.clerk.age) where
  going : ((s : ℕ) (ks : List Op) → g.running c ≡ Some b → γ.owner s ≡ Some (c, d.clerk.age) → γ.frozen s ≡ Some ks → CutKnows (doing_in c b d γ g) c s d.clerk ks → CutKnows (doing_in c b e γ g) c s e.clerk ks)
      → CutsAgree (doing_in c b d γ g) → CutsAgree (doing_in c b e γ g)
  going own cuts f a s m ks r p o z = go ((f == c) && (a == b)) refl p
    where
      was : ((f == c) && (a == b)) ≡ false → g.clerks f a ≡ Some m → (doing_in c b d γ g).clerks f a ≡ Some m
      was n q = ap (λ y. elim y as (λ x. Option Clerk) [ true ↦ Some d.clerk | false ↦ g.clerks f a ]) n ∙ q

      go : (y : Bool) → ((f == c) && (a == b)) ≡ y → elim y as (λ x. Option Clerk) [ true ↦ Some e.clerk | false ↦ g.clerks f a ] ≡ Some m → CutKnows (doing_in c b e γ g) f s m ks
      go true n q =
          let two = and_parts (f == c) (a == b) n in
          let is-c = equal f c two.0 in
          let is-b = equal a b two.1 in
          let runs : g.running c ≡ Some b = ap g.running (sym is-c) ∙ r ∙ ap Some is-b in
          let owns : γ.owner s ≡ Some (c, d.clerk.age) = o ∙ ap (λ x. Some (x, m.age)) is-c ∙ ap (λ x. Some (c, x.age)) (sym (same_some q)) ∙ ap (λ x. Some (c, x)) same_age in
          subst (λ x. CutKnows (doing_in c b e γ g) x s m ks) (sym is-c) (subst (λ x. CutKnows (doing_in c b e γ g) c s x ks) (same_some q)
          (own s ks runs owns z (cuts c b s d.clerk ks runs (start-same c b d.clerk g.clerks) owns z)))
      go false n q = let w = cuts f a s m ks r (was n q) o z in record { knows = w.knows; untold = w.untold }

pub calm-keeps : (g : System) (c b : ℕ) (d e : Doing) (γ : Ghost) → IsCalm d e → CutsAgree (doing_in c b d γ g) → CutsAgree (doing_in c b e γ g)
calm-keeps g c b d e γ p = going g c b d e γ p.age (λ s ks r o z q. keeps-knowing (doing_in c b d γ g) (doing_in c b e γ g) c s d.clerk e.clerk ks (λ sl i os dur kn. p.log sl.window os dur kn) refl refl (λ j t. refl) refl q)

-- A batch that the window has is passed.
pub kept-keeps : (g : System) (c b s : ℕ) (d : Doing) (γ : Ghost) → IsUnderWay g c b s d γ → (e n : ℕ) → sessions.Fits (doing_in c b d γ g) c (Kept s e n) → CutsAgree (doing_in c b d γ g) → CutsAgree (doing_in c b (with_log (kept n) d) γ g)
kept-keeps g c b s d γ u e n fits = going g c b d (with_log (kept n) d) γ refl (λ t ks r o z q.
    keeps-knowing (doing_in c b d γ g) (doing_in c b (with_log (kept n) d) γ g) c t d.clerk (with_log (kept n) d).clerk ks
    (λ sl i os dur kn. kept-knows d.clerk.log sl.window os dur kn n (fits.1 sl i (mine t r o sl i))) refl refl (λ j t. refl) refl q)
  where
    all : AllAgree (doing_in c b d γ g)
    all = ((u.stands.0).invariant, u.stands.1, u.stands.2, u.stands.3)

    there : (doing_in c b d γ g).clerks c b ≡ Some d.clerk
    there = start-same c b d.clerk g.clerks

    mine : (t : ℕ) → g.running c ≡ Some b → γ.owner t ≡ Some (c, d.clerk.age) → (sl : Slot) → slot g.durable c ≡ Some sl → sl.session ≡ s
    mine t r o sl i =
        let w = its-slot (doing_in c b d γ g) all c b d.clerk r there s ((all.0).sessions.in_session c b s d.clerk there u.session).0 in
        ap (λ y. y.session) (same_some (sym i ∙ w.1)) ∙ w.2

-- An operation more, which isn't durable.
pub late-knows : (l : LogState) (w : Window) (os : List Op) (dur : Op → Bool) (o : Op) → o.number ≡ l.next → dur o ≡ false → Knows l w os dur → Knows (issue o.update l) w (os ++ o ∷ []) dur
late-knows l w os dur o number new kn = record {
  known = kn.known;
  durable = kn.durable;
  agrees = each-more (λ j. dur j ≡ kn.durable j.number) os (o ∷ []) kn.agrees (new ∙ sym fresh ∙ ap kn.durable (sym number), tt);
  sure = kn.sure;
  rest = subst (λ z. IsRest z kn.known (issue o.update l)) (ap (λ m. numbered os ++ (m, o.update) ∷ []) (sym number) ∙ sym (map-more (λ j. (j.number, j.update)) os (o ∷ [])))
      (issue-rest (numbered os) kn.known l kn.rest o.update below (unknown (kn.known l.next) (kn.durable l.next) (kn.sure l.next) fresh));
  tells = issue-tells w l kn.durable kn.tells o.update fresh;
  log = issue-log l kn.log o.update;
  window = record { answered = kn.window.answered; sent = kn.window.sent };
  later = λ n i. kn.later n (less l.next n i);
  marks = kn.marks;
  limit = kn.limit;
}
  where
    less : (m n : ℕ) → m + 1 ≤ n → m ≤ n
    less m n i = omega (arith, i)

    fresh : kn.durable l.next ≡ false
    fresh = kn.later l.next (omega arith)

    unknown : (a b : Bool) → (T a → T b) → b ≡ false → a ≡ false
    unknown true b f e = absurd (subst T e (f tt))
    unknown false b f e = refl

    above : (m n : ℕ) → (m < n → ⊥) → n ≤ m
    above m n f = grind arith

    -- each is below the next one: it's durable, or undurable in the log
    below : (n : ℕ) (x : Update) → Holds (numbered os) n x → n < l.next
    below n x h = by-known (kn.known n) refl
      where
        by-known : (z : Bool) → kn.known n ≡ z → n < l.next
        by-known true e = not-above n l.next (λ i. true≢false (sym (is-true (kn.durable n) (kn.sure n (holds (kn.known n) e))) ∙ kn.later n i))
          where
            not-above : (m k : ℕ) → (k ≤ m → ⊥) → m < k
            not-above m k f = grind arith
        by-known false e = kn.log.numbers n x (subst (λ y. Holds y n x) (sym kn.rest.rest) (holds-kept (λ y. not (kn.known y.0)) (numbered os) n x h (ap not e)))

-- What an answer of a start with something untold adds to it.
answered-untold : (c l : ℕ) (cl : Call) (a : Answer) (op : Option ℕ) (ss : List Shown) (ns : List ℕ) → (watch c ss).untold ≡ Some ns → (watch c (ss ++ show.Answered l c cl a op ∷ [])).untold ≡ Some (ns ++ listed op)
answered-untold c l cl a op ss ns e =
    ap (λ w. w.untold) (watch-step c ss (show.Answered l c cl a op) ∙ ap (λ z. cond z (answered (begun (watch c ss)) (shows cl a) op) (watch c ss)) (same c))
    ∙ ap (λ u. (answered_as (begun (watch c ss)) (shows cl a) op u).untold) (begins (watch c ss).running ∙ e)
  where
    begins : (z : Bool) → (cond z (watch c ss) (record (watch c ss) { starts = (watch c ss).starts + 1; running = true })).untold ≡ (watch c ss).untold
    begins true = refl
    begins false = refl

module _ (g h : System) (c b : ℕ) (k now : Clerk) (l : ℕ) (cl : Call) (a : Answer) (op : Option ℕ) (ans : AnswersAs g h c b k now l cl a op) where
  abbrev line : Shown
  line = show.Answered l c cl a op

  -- who runs: this start, or one of another clerk
  by-running : (Q : ℕ → ℕ → Type 0) → Q c b → ((f x : ℕ) → (f == c) ≡ false → g.running f ≡ Some x → Q f x) → (f x : ℕ) → h.running f ≡ Some x → Q f x
  by-running Q own each f x q = go (f == c) refl
    where
      ran : g.running f ≡ Some x
      ran = ap (λ y. y f) (sym ans.running) ∙ q

      go : (z : Bool) → (f == c) ≡ z → Q f x
      go true e = let p = equal f c e in subst (λ z. Q z x) (sym p) (subst (Q c) (same_some (sym ans.runs ∙ sym (ap g.running p) ∙ ran)) own)
      go false e = each f x e ran

  own-is : (m : Clerk) → h.clerks c b ≡ Some m → now ≡ m
  own-is m q = same_some (sym (start-same c b now g.clerks) ∙ ap (λ y. y c b) (sym ans.clerks) ∙ q)

  of-other : (f x : ℕ) (m : Clerk) → (f == c) ≡ false → h.clerks f x ≡ Some m → g.clerks f x ≡ Some m
  of-other f x m n q = sym (ap (λ z. elim (z && (x == b)) as (λ y. Option Clerk) [ true ↦ Some now | false ↦ g.clerks f x ]) n) ∙ ap (λ y. y f x) (sym ans.clerks) ∙ q

  lines-other : (f : ℕ) → (f == c) ≡ false → (watch f h.ghost.shown).untold ≡ (watch f g.ghost.shown).untold
  lines-other f n = ap (λ ss. (watch f ss).untold) ans.shown ∙ ap (λ w. w.untold) (watch-step f g.ghost.shown line ∙ ap (λ z. cond z (answered (begun (watch f g.ghost.shown)) (shows cl a) op) (watch f g.ghost.shown)) n)

  owns-then : (s : ℕ) (m : Clerk) → now ≡ m → h.ghost.owner s ≡ Some (c, m.age) → g.ghost.owner s ≡ Some (c, k.age)
  owns-then s m e o = ap (λ y. y s) (sym ans.owner) ∙ o ∙ ap (λ y. Some (c, y.age)) (sym e) ∙ ap (λ y. Some (c, y)) ans.age

  -- the others' are as they were, where they saw what they saw
  other-keeps : CutsAgree g → (f x s : ℕ) (m : Clerk) (ks : List Op) → (f == c) ≡ false → g.running f ≡ Some x → h.clerks f x ≡ Some m → h.ghost.owner s ≡ Some (f, m.age) → g.ghost.frozen s ≡ Some ks → CutKnows h f s m ks
  other-keeps cuts f x s m ks n r p o z = keeps-knowing g h f s m m ks (λ sl i os dur kn. kn) (ans.slots f) (ap (λ y. y s) ans.owner) (λ j t. ap (λ y. y j) ans.is_durable) (lines-other f n)
      (cuts f x s m ks r (of-other f x m n p) (ap (λ y. y s) (sym ans.owner) ∙ o) z)

  pub plain-keeps : h.ghost.frozen ≡ g.ghost.frozen → IsUncut g c k ⊎ ((op ≡ None) × (now.log ≡ k.log)) → CutsAgree g → CutsAgree h
  plain-keeps same_frozen how cuts f x s m ks r p o z = by-running (λ f x. h.clerks f x ≡ Some m → h.ghost.owner s ≡ Some (f, m.age) → CutKnows h f s m ks) own
      (λ f x n r p o. other-keeps cuts f x s m ks n r p o frozen-then) f x r p o
    where
      frozen-then : g.ghost.frozen s ≡ Some ks
      frozen-then = ap (λ y. y s) (sym same_frozen) ∙ z

      silent : op ≡ None → CutKnows g c s k ks → (watch c h.ghost.shown).untold ≡ (watch c g.ghost.shown).untold
      silent e q = ap (λ ss. (watch c ss).untold) ans.shown ∙ answered-untold c l cl a op g.ghost.shown (numbers (lost_of g.ghost s ks)) q.untold ∙ ap (λ y. Some (numbers (lost_of g.ghost s ks) ++ listed y)) e ∙ ap Some (append-nil (numbers (lost_of g.ghost s ks))) ∙ sym q.untold

      own : h.clerks c b ≡ Some m → h.ghost.owner s ≡ Some (c, m.age) → CutKnows h c s m ks
      own p o = elim how [
        | inl n ↦ absurd (none_some (sym (n s (owns-then s m (own-is m p) o)) ∙ frozen-then))
        | inr q ↦
            let old = cuts c b s k ks ans.runs ans.stands (owns-then s m (own-is m p) o) frozen-then in
            subst (λ y. CutKnows h c s y ks) (own-is m p) (keeps-knowing g h c s k now ks (λ sl i os dur kn. subst (λ y. Knows y sl.window os dur) (sym q.1) kn) (ans.slots c) (ap (λ y. y s) ans.owner) (λ j t. ap (λ y. y j) ans.is_durable) (silent q.0 old) old)
      ]

-- A start that is cut off issues an operation.
module _ (g h : System) (all : AllAgree g) (c b s : ℕ) (k now : Clerk) (l : ℕ) (cl : Call) (a : Answer) (place : ℕ) (u : Update) (ks : List Op) (ans : AnswersAs g h c b k now l cl a (Some k.log.next))
    (owns : g.ghost.owner s ≡ Some (c, k.age)) (frozen : g.ghost.frozen s ≡ Some ks) (issued : now.log ≡ issue u k.log) (more : h.ghost.frozen ≡ at_session s (Some (ks ++ next_op c b k place u ∷ [])) g.ghost.frozen) (cuts : CutsAgree g) where
  abbrev o : Op
  o = next_op c b k place u

  abbrev own : Op → Bool
  own = is_of (g.ghost.owner s)

  abbrev dur : Op → Bool
  dur = g.ghost.is_durable

  boot : k.age.boot ≡ b
  boot = ((all.0).sessions.starts c b k ans.stands).1

  own-op : own o ≡ true
  own-op = ap (λ y. is_of y o) owns ∙ ap (λ z. z && (k.age.boot == b)) (same c) ∙ ap (λ z. z == b) boot ∙ same b

  new-op : dur o ≡ false
  new-op = ((all.0).logs.starts c b).none_later o (holds (of_start c b o) (ap (λ z. z && (b == b)) (same c) ∙ same b)) (subst (λ n. n ≤ k.log.next) (ap next_of (sym ans.stands)) (omega arith))

  one-more : (p : Op → Bool) → p o ≡ true → filter p (ks ++ o ∷ []) ≡ filter p ks ++ o ∷ []
  one-more p e = filter-more p ks (o ∷ []) ∙ ap (λ xs. filter p ks ++ xs) (filter-yes p o [] e)

  old : CutKnows g c s k ks
  old = cuts c b s k ks ans.runs ans.stands owns frozen

  frozen-own : h.ghost.frozen s ≡ Some (ks ++ o ∷ [])
  frozen-own = ap (λ y. y s) more ∙ ap (λ z. elim z as (λ y. Option (List Op)) [ true ↦ Some (ks ++ o ∷ []) | false ↦ g.ghost.frozen s ]) (same s)

  frozen-other : (t : ℕ) → (t == s) ≡ false → h.ghost.frozen t ≡ g.ghost.frozen t
  frozen-other t n = ap (λ y. y t) more ∙ ap (λ z. elim z as (λ y. Option (List Op)) [ true ↦ Some (ks ++ o ∷ []) | false ↦ g.ghost.frozen t ]) n

  own-knows : CutKnows h c s now (ks ++ o ∷ [])
  own-knows = record {
    knows = λ sl i.
        subst (λ y. Knows now.log sl.window (filter (is_of y) (ks ++ o ∷ [])) h.ghost.is_durable) (ap (λ y. y s) (sym ans.owner))
        (subst (λ y. Knows now.log sl.window (filter own (ks ++ o ∷ [])) y) (sym ans.is_durable)
        (subst (λ y. Knows now.log sl.window y dur) (sym (one-more own own-op))
        (subst (λ y. Knows y sl.window (filter own ks ++ o ∷ []) dur) (sym issued) (late-knows k.log sl.window (filter own ks) dur o refl new-op (old.knows sl (sym (ans.slots c) ∙ i))))));
    untold = ap (λ ss. (watch c ss).untold) ans.shown ∙ answered-untold c l cl a (Some k.log.next) g.ghost.shown (numbers (lost_of g.ghost s ks)) old.untold
        ∙ ap Some (sym (map-more (λ j. j.number) (lost_of g.ghost s ks) (o ∷ [])))
        ∙ ap (λ os. Some (numbers os)) (sym (one-more (λ j. own j && not (dur j)) (ap (λ z. z && not (dur o)) own-op ∙ ap not new-op)))
        ∙ ap (λ y. Some (numbers (filter (λ j. is_of y j && not (dur j)) (ks ++ o ∷ [])))) (ap (λ y. y s) (sym ans.owner))
        ∙ ap (λ y. Some (numbers (filter (λ j. is_of (h.ghost.owner s) j && not (y j)) (ks ++ o ∷ [])))) (sym ans.is_durable);
  }

  pub late-keeps : CutsAgree h
  late-keeps f x t m os r p q z = by-running g h c b k now l cl a (Some k.log.next) ans (λ f x. h.clerks f x ≡ Some m → h.ghost.owner t ≡ Some (f, m.age) → CutKnows h f t m os) mine
      (λ f x n r p q. other-keeps g h c b k now l cl a (Some k.log.next) ans cuts f x t m os n r p q (sym (frozen-other t (apart f n q)) ∙ z)) f x r p q
    where
      mine : h.clerks c b ≡ Some m → h.ghost.owner t ≡ Some (c, m.age) → CutKnows h c t m os
      mine p q =
          let e = own-is g h c b k now l cl a (Some k.log.next) ans m p in
          let its : s ≡ t = (all.0).sessions.once s t (c, k.age) owns (owns-then g h c b k now l cl a (Some k.log.next) ans t m e q) in
          let saw : ks ++ o ∷ [] ≡ os = same_some (sym frozen-own ∙ ap h.ghost.frozen its ∙ z) in
          subst (λ y. CutKnows h c y m os) its (subst (λ y. CutKnows h c s y os) e (subst (CutKnows h c s now) saw own-knows))

      apart : (f : ℕ) → (f == c) ≡ false → h.ghost.owner t ≡ Some (f, m.age) → (t == s) ≡ false
      apart f n q = go (t == s) refl
        where
          go : (y : Bool) → (t == s) ≡ y → y ≡ false
          go false e = refl
          go true e = absurd (true≢false (sym (ap (λ y. y == c) (ap (λ y. y.0) (same_some (sym q ∙ ap (λ y. y t) ans.owner ∙ ap g.ghost.owner (equal t s e) ∙ owns))) ∙ same c) ∙ n))

-- Counts: what a clerk says in a step shows nothing of others.
says-nothing : (f c : ℕ) (n : (f == c) ≡ false) (os : List Out) (calls : Calls) (w : Watch) → watch_from f w (out_lines c os calls) ≡ w
says-nothing f c n [] calls w = refl
says-nothing f c n (out.Send m ∷ os) calls w = says-nothing f c n os calls w
says-nothing f c n (out.OldBoot a ∷ os) calls w = says-nothing f c n os calls w
says-nothing f c n (out.Told ns ∷ os) calls w = ap (λ z. watch_from f (cond z (record w { untold = None }) w) (out_lines c os calls)) n ∙ says-nothing f c n os calls w
says-nothing f c n (out.Answer m a op ∷ os) calls w = go (call_of c m calls) (λ x. says-nothing f c n os x w)
  where
    go : (o : Option (ℕ × Call)) → ((x : Calls) → watch_from f w (out_lines c os x) ≡ w)
        → watch_from f w (elim o as (λ z. List Shown) [ None ↦ out_lines c os calls | Some l ↦ show.Answered l.0 c l.1 a op ∷ out_lines c os (less_call c m calls) ]) ≡ w
    go None r = r calls
    go (Some l) r = ap (λ z. watch_from f (cond z (answered (begun w) (shows l.1 a) op) w) (out_lines c os (less_call c m calls))) n ∙ r (less_call c m calls)

pub steps-keep-counts : (g : System) (c b : ℕ) (d : Doing) (γ : Ghost) → UnderClerk g c b d γ → CountsAgree g → CountsAgree (doing_in c b d γ g)
steps-keep-counts g c b d γ u a = record {
  counted = λ f p. ap (λ ss. (watch f ss).starts) u.shown ∙ ap (λ w. w.starts) (watch-append f g.ghost.shown (out_lines c d.outs g.calls) ∙ says-nothing f c (apart f p) d.outs g.calls (watch f g.ghost.shown)) ∙ a.counted f p;
  above = a.above;
}
  where
    apart : (f : ℕ) → g.running f ≡ None → (f == c) ≡ false
    apart f p = go (f == c) refl
      where
        go : (y : Bool) → (f == c) ≡ y → y ≡ false
        go false e = refl
        go true e = absurd (none_some (sym p ∙ ap g.running (equal f c e) ∙ u.runs))
