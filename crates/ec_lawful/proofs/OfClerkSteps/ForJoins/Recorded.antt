-- Cut-off starts behind each record that the server commits.
use Rattle.std.proofs.Common.{◌≡◌, ◌≢◌, refl, sym, ap, subst, ◌∙◌, inl, inr, arith, ℕ, Bool, true, false, not, ◌==◌, ◌&&◌, ◌||◌, cond, T, List, [], ◌∷◌, ◌++◌, Option, Some, None}
use Rattle.std.specs.Prelude.{is_some, Ok}
use Rattle.std.specs.List.{filter}
use Rattle.std.proofs.lemmas.Bool.{true≢false}
use Rattle.ec_base.specs.Ages.{is_older}
use Rattle.ec_base.specs.Tables.{keys}
use Rattle.ec_base.specs.declared.ids.Age.{Age}
use Rattle.ec_volume.specs.Image.{is_id}
use Rattle.ec_volume.specs.Update.{member}
use Rattle.ec_volume.specs.declared.update.Update.{Update}
use Rattle.ec_history.specs.History.{Op, numbers, of_start}
use Rattle.ec_history.specs.Placing.{is_running, owner, watch}
use Rattle.ec_history.specs.declared.watch.Watch.{Watch}
use Rattle.ec_history.specs.declared.shown.Shown.{Shown}
use Rattle.ec_history.specs.declared.shown.Shown.TheVariants as show
use Rattle.ec_history.proofs.OfLaws.ForPlacing.More.{watch-step}
use Rattle.ec_history.proofs.OfLaws.ForPlacing.Watching.{other_end, own_end}
use Rattle.ec_sessions.specs.Slots as slots
use Rattle.ec_sessions.specs.declared.slot.Slot.{Slot}
use Rattle.ec_wire.specs.declared.msg.Msg.{Msg}
use Rattle.ec_durable.specs.Durable.{is_session, slot, step, with_slot}
use Rattle.ec_durable.specs.declared.state.Durable.{Durable}
use Rattle.ec_durable.specs.declared.record.Record.TheVariants.{Batch, Open, End, Ids}
use Rattle.ec_protocol.specs.declared.clerk.Clerk.{Clerk}
use Rattle.ec_protocol.specs.declared.server.Server.{Server}
use Rattle.ec_coherence.specs.System.{System, Ghost, clerk_of, if_in, is_of, undurable, with_start}
use Rattle.ec_coherence.specs.Events.{shown_boot}
use Rattle.ec_coherence.specs.Log.{Knows, mine}
use Rattle.ec_coherence.specs.Steps.{give_ids, open_session, runs}
use Rattle.ec_coherence.proofs.ForBatches.Carried.{slot-same}
use Rattle.ec_coherence.proofs.ForBatches.ClerkIn.{in-it, start-same, was-in}
use Rattle.ec_coherence.proofs.ForServer.Lists.{either_way}
use Rattle.ec_coherence.proofs.ForBatches.OpenSlots.{at-open}
use Rattle.ec_coherence.proofs.ForBatches.OpenedSession.{opened-logs}
use Rattle.ec_coherence.proofs.ForServer.Tables.{by-session, differ, differs, same_some}
use Rattle.ec_coherence.specs.CommitLaws.{AllAgree, show_batch}
use Rattle.ec_coherence.specs.Ends.{show_end}
use Rattle.ec_coherence.proofs.Its as its
use Rattle.ec_lawful.specs.OfClerkSteps.Cuts.{CutKnows, CutsAgree}
use Rattle.ec_lawful.specs.OfClerkSteps.Frames.{system_behind}
use Rattle.ec_lawful.proofs.OfClerkSteps.ForJoins.Keeping.{keeps-knowing}
use Rattle.ec_lawful.proofs.OfClerkSteps.ForJoins.Slots.{its-slot, none-later}
use Rattle.ec_lawful.proofs.OfClerkSteps.ForJoins.Steps.{batch-others, end-others, end-own, ids-open, ids-others, open-others, open-steps}
use Rattle.ec_base.proofs.Bools.{left as and_first, is-true, holds-true as holds}
use Rattle.ec_base.proofs.Numbers.{same-self as same, equal}
use Rattle.ec_base.proofs.Options.{none_some}

-- What the end of a session makes of the lines' view of another clerk, and of its own.

ended-other : (f c : ℕ) (n : (f == c) ≡ false) (z : Bool) (ns : List ℕ) (ss : List Shown) → watch f (ss ++ elim z as (λ y. Shown) [ true ↦ show.Ended c ns | false ↦ show.Unseen c ] ∷ []) ≡ watch f ss
ended-other f c n true ns ss = watch-step f ss (show.Ended c ns) ∙ ap (λ z. cond z (cond (is_running (watch f ss) (owner (watch f ss))) (own_end (watch f ss) ns) (other_end (watch f ss))) (watch f ss)) n
ended-other f c n false ns ss = watch-step f ss (show.Unseen c)

durable-untold : (f c : ℕ) (ns : List ℕ) (ss : List Shown) → (watch f (ss ++ show.Durable c ns ∷ [])).untold ≡ (watch f ss).untold
durable-untold f c ns ss = ap (λ w. w.untold) (watch-step f ss (show.Durable c ns)) ∙ go (f == c)
  where
    go : (z : Bool) → (cond z (record (watch f ss) { undurable = filter (λ n. not (member n ns)) (watch f ss).undurable }) (watch f ss)).untold ≡ (watch f ss).untold
    go true = refl
    go false = refl

-- A running start whose session is open: its log agrees with the window, also before it took the session.
module _ (g : System) (all : AllAgree g) (c b : ℕ) (k : Clerk) (runs-now : g.running c ≡ Some b) (at-start : g.clerks c b ≡ Some k) (sl : Slot) (in_slot : slot g.durable c ≡ Some sl) (opened : T sl.is_open) (owns : g.ghost.owner sl.session ≡ Some (c, k.age)) where
  abbrev s : ℕ
  s = sl.session

  boot : k.age.boot ≡ b
  boot = ((all.0).sessions.starts c b k at-start).1

  at-age : g.clerks c k.age.boot ≡ Some k
  at-age = ap (g.clerks c) boot ∙ at-start

  pub open-knows : Knows k.log sl.window (mine g.ghost s) g.ghost.is_durable
  open-knows = elim (either_way (g.ghost.taken s)) [ inl t ↦ taken t | inr n ↦ untaken n ]
    where
      not-older : (a : Age) → T (is_older a a) → ⊥
      not-older a y = absurd (grind arith)

      taken : T (g.ghost.taken s) → Knows k.log sl.window (mine g.ghost s) g.ghost.is_durable
      taken t =
          let there : k.session ≡ Some s = elim (((all.0).sessions.told s (c, k.age) k owns at-age).0 t) [ inl q ↦ q | inr q ↦ absurd (not-older k.age q) ] in
          ((all.0).logs.logs s c sl in_slot refl opened k (was-in g.ghost.owner g.clerks c s k.age k k owns at-age there there)).knows

      untaken : T (not (g.ghost.taken s)) → Knows k.log sl.window (mine g.ghost s) g.ghost.is_durable
      untaken n =
          let without : k.session ≡ None = (((all.0).sessions.told s (c, k.age) k owns at-age).1 n).0 refl in
          let now : Clerk = record k { session = Some s; epoch = 0 } in
          let logs = opened-logs g (all.0).sessions (all.0).tokens (all.0).logs (all.0).images c s k.age k owns at-age without n 0 g.calls [] tt in
          (logs.logs s c sl in_slot refl opened now (ap (λ o. clerk_of s o (with_start c k.age.boot now g.clerks)) owns ∙ ap (if_in s) (start-same c k.age.boot now g.clerks) ∙ in-it c k.age.boot s now refl)).knows

-- Behind each record.
module _ (g : System) (all : AllAgree g) (cuts : CutsAgree g) (d : Durable) (v : Option Server) (p : List (ℕ × Msg)) where
  -- the clerk of an open slot isn't cut off
  apart : (c : ℕ) (sl : Slot) → slot g.durable c ≡ Some sl → T sl.is_open → (f b s : ℕ) (m : Clerk) (ks : List Op) → g.running f ≡ Some b → g.clerks f b ≡ Some m → g.ghost.owner s ≡ Some (f, m.age) → g.ghost.frozen s ≡ Some ks → f ≢ c
  apart c sl in_slot opened f b s m ks r q o z e =
      let w = its-slot g all f b m r q s o in
      let same-slot : w.0 ≡ sl = same_some (sym w.1 ∙ ap (slot g.durable) e ∙ in_slot) in
      absurd (none_some (sym ((all.0).images.unfrozen s (at-open s (g.durable).sessions c sl (in_slot, ap (λ y. y.session) (sym same-slot) ∙ w.2, opened))) ∙ z))

  module _ (c s' b' : ℕ) (ops : List (ℕ × Update)) (sl : Slot) (in_slot : slot g.durable c ≡ Some sl) (opened : T sl.is_open) (steps : step (Batch c s' b' ops) g.durable ≡ Ok d) where
    abbrev γb : Ghost
    γb = show_batch c (sl.age).boot (keys ops) g.ghost

    pub batch-keeps : CutsAgree (system_behind g d v p γb)
    batch-keeps f b s m ks r q o z =
        let n = apart c sl in_slot opened f b s m ks r q o z in
        keeps-knowing g (system_behind g d v p γb) f s m m ks (λ sl p os dur kn. kn) (batch-others c f n s' b' ops g.durable d steps) refl (durable n) (durable-untold f c (keys ops) g.ghost.shown) (cuts f b s m ks r q o z)
      where
        same-or : (x y z : Bool) → y ≡ false → (x || (y && z)) ≡ x
        same-or true y z e = refl
        same-or false y z e = ap (λ y. y && z) e

        durable : f ≢ c → (j : Op) → T (is_of (g.ghost.owner s) j) → γb.is_durable j ≡ g.ghost.is_durable j
        durable n j t =
            let mine : T (of_start f (m.age).boot j) = subst (λ x. T (is_of x j)) o t in
            let clerk : f ≡ j.clerk = equal f j.clerk (is-true (f == j.clerk) (and_first (f == j.clerk) ((m.age).boot == j.boot) mine)) in
            same-or (g.ghost.is_durable j) (of_start c (sl.age).boot j) (member j.number (keys ops)) (ap (λ x. x && ((sl.age).boot == j.boot)) (differ c j.clerk (λ e. absurd (n (clerk ∙ sym e)))))

  module _ (c s' got first : ℕ) (steps : step (Ids c s' got first) g.durable ≡ Ok d) where
    abbrev γi : Ghost
    γi = give_ids s' first g.ghost

    has-slot : (o : Option Slot) → slot g.durable c ≡ o → is_session s' o ≡ true → (sl : Slot) × (slot g.durable c ≡ Some sl) × T sl.is_open
    has-slot None e t = absurd (true≢false (sym t))
    has-slot (Some sl) e t = (sl, e, and_first sl.is_open (sl.session == s') (holds _ t))

    pub ids-keep : CutsAgree (system_behind g d v p γi)
    ids-keep f b s m ks r q o z =
        let w = has-slot (slot g.durable c) refl (ids-open c s' got first g.durable d steps) in
        keeps-knowing g (system_behind g d v p γi) f s m m ks (λ sl p os dur kn. kn) (ids-others c f (apart c w.0 w.1 w.2 f b s m ks r q o z) s' got first g.durable d steps) refl (λ o t. refl) refl (cuts f b s m ks r q o z)

  module _ (c : ℕ) (sl : Slot) (in_slot : slot g.durable c ≡ Some sl) (opened : T sl.is_open) where
    abbrev γe : Ghost
    γe = show_end g c sl

    pub owner-is : g.ghost.owner sl.session ≡ Some (c, sl.age)
    owner-is = ((all.0).sessions.slots c sl in_slot).2

    pub frozen-other : (s : ℕ) → (s == sl.session) ≡ false → γe.frozen s ≡ g.ghost.frozen s
    frozen-other s n = ap (λ z. elim z as (λ y. Option (List Op)) [ true ↦ Some g.ghost.kept | false ↦ g.ghost.frozen s ]) n

    frozen-own : γe.frozen sl.session ≡ Some g.ghost.kept
    frozen-own = ap (λ z. elim z as (λ y. Option (List Op)) [ true ↦ Some g.ghost.kept | false ↦ g.ghost.frozen sl.session ]) (same sl.session)

    pub lines-other : (f : ℕ) → f ≢ c → (watch f γe.shown).untold ≡ (watch f g.ghost.shown).untold
    lines-other f n = ap (λ w. w.untold) (ended-other f c (differ f c n) (is_some ((watch c g.ghost.shown).open_start) || runs g c (sl.age).boot) (watch c g.ghost.shown).undurable g.ghost.shown)

    -- a start of another session isn't this clerk's
    another : (f b s : ℕ) (m : Clerk) → g.running f ≡ Some b → g.clerks f b ≡ Some m → g.ghost.owner s ≡ Some (f, m.age) → (s == sl.session) ≡ false → f ≢ c
    another f b s m r q o n e =
        let w = its-slot g all f b m r q s o in
        absurd (differs s sl.session n (sym w.2 ∙ ap (λ y. y.session) (same_some (sym w.1 ∙ ap (slot g.durable) e ∙ in_slot))))

    -- the start of the session is cut off now
    module _ (b : ℕ) (m : Clerk) (r : g.running c ≡ Some b) (q : g.clerks c b ≡ Some m) (o : g.ghost.owner sl.session ≡ Some (c, m.age)) where
      its-age : sl.age ≡ m.age
      its-age = ap (λ y. y.1) (same_some (sym owner-is ∙ o))

      its-boot : (sl.age).boot ≡ b
      its-boot = ap (λ y. y.boot) its-age ∙ ((all.0).sessions.starts c b m q).1

      abbrev w : Watch
      w = watch c g.ghost.shown

      runs-own : g.running c ≡ Some (sl.age).boot
      runs-own = r ∙ ap Some (sym its-boot)

      is-shown : (is_some w.open_start || runs g c (sl.age).boot) ≡ true
      is-shown = or-true (is_some w.open_start) (runs g c (sl.age).boot) (its.runs-then g all.0 all.1 all.3 c sl in_slot opened runs-own)
        where
          or-true : (x y : Bool) → y ≡ true → (x || y) ≡ true
          or-true true y e = refl
          or-true false y e = e

      test : is_running w (owner w) ≡ true
      test = ap (λ x. w.running && is_id w.starts x) (its.owner-shown g all.0 all.1 all.3 c sl in_slot opened is-shown) ∙ ap (λ y. y && (w.starts == shown_boot g c (sl.age).boot)) (its.running-watch g all.0 all.1 all.3 c sl in_slot opened (sl.age).boot runs-own)
          ∙ ap (λ y. y == shown_boot g c (sl.age).boot) (its.starts-now g all.0 all.1 all.3 c sl in_slot opened (sl.age).boot runs-own) ∙ same (shown_boot g c (sl.age).boot)

      abbrev line : Bool → Shown
      line z = elim z as (λ y. Shown) [ true ↦ show.Ended c w.undurable | false ↦ show.Unseen c ]

      now-untold : (watch c γe.shown).untold ≡ Some (numbers (undurable g.ghost sl.session))
      now-untold = ap (λ z. (watch c (g.ghost.shown ++ line z ∷ [])).untold) is-shown ∙ ap (λ y. y.untold) (watch-step c g.ghost.shown (show.Ended c w.undurable))
          ∙ ap (λ z. (cond z (cond (is_running w (owner w)) (own_end w w.undurable) (other_end w)) w).untold) (same c)
          ∙ ap (λ z. (cond z (own_end w w.undurable) (other_end w)).untold) test
          ∙ ap Some (its.still-now g all.0 all.1 all.3 c sl in_slot opened)

      -- its slot has the window still
      pub cut-now : ((so : Slot) → slot d c ≡ Some so → so.window ≡ sl.window) → CutKnows (system_behind g d v p γe) c sl.session m g.ghost.kept
      cut-now window = record {
        knows = λ so e. subst (λ x. Knows m.log x (mine g.ghost sl.session) g.ghost.is_durable) (sym (window so e)) (open-knows g all c b m r q sl in_slot opened o);
        untold = now-untold;
      }

    ended-window : (e : Durable) → e ≡ with_slot c (slots.ended (slot g.durable c)) g.durable → (so : Slot) → slot e c ≡ Some so → so.window ≡ sl.window
    ended-window e q so t =
        let own : slot e c ≡ slots.ended (slot g.durable c) = ap (λ x. slot x c) q ∙ slot-same g.durable c sl (slots.ended (slot g.durable c)) in_slot in
        let is : Some (cond sl.is_open (record sl { is_open = false; unspent = [] }) sl) ≡ Some so = sym (ap slots.ended in_slot) ∙ sym own ∙ t in
        ap (λ x. x.window) (sym (same_some is)) ∙ go sl.is_open
      where
        go : (z : Bool) → (cond z (record sl { is_open = false; unspent = [] }) sl).window ≡ sl.window
        go true = refl
        go false = refl

    module _ (s' : ℕ) (steps : step (End c s') g.durable ≡ Ok d) where
      abbrev h : System
      h = system_behind g d v p γe

      pub end-keeps : CutsAgree h
      end-keeps f b s m ks r q o z = by-session sl.session s (λ s. g.ghost.owner s ≡ Some (f, m.age) → γe.frozen s ≡ Some ks → CutKnows h f s m ks) own
          (λ n o z. keeps-knowing g h f s m m ks (λ sl p os dur kn. kn) (end-others c f (another f b s m r q o n) s' g.durable d steps) refl (λ o t. refl) (lines-other f (another f b s m r q o n)) (cuts f b s m ks r q o (sym (frozen-other s n) ∙ z))) o z
        where
          own : g.ghost.owner sl.session ≡ Some (f, m.age) → γe.frozen sl.session ≡ Some ks → CutKnows h f sl.session m ks
          own o z =
              let is-c : c ≡ f = ap (λ y. y.0) (same_some (sym owner-is ∙ o)) in
              let is-ks : g.ghost.kept ≡ ks = same_some (sym frozen-own ∙ z) in
              subst (λ y. CutKnows h y sl.session m ks) is-c (subst (CutKnows h c sl.session m) is-ks
              (cut-now b m (ap g.running is-c ∙ r) (ap (λ y. g.clerks y b) is-c ∙ q) (o ∙ ap (λ y. Some (y, m.age)) (sym is-c)) (ended-window d (end-own c s' g.durable d steps))))

  -- A session opens.
  module _ (c s' : ℕ) (age : Age) (steps : step (Open c age s') g.durable ≡ Ok d) (γ : Ghost) (all-now : AllAgree (system_behind g d v p (open_session c age s' γ))) (same_owner : γ.owner ≡ g.ghost.owner) where
    abbrev hn : System
    hn = system_behind g d v p (open_session c age s' γ)

    pub next-is : s' ≡ (g.durable).next_session
    next-is = (open-steps c age s' g.durable d steps).1

    owner-new : hn.ghost.owner s' ≡ Some (c, age)
    owner-new = ap (λ z. elim z as (λ y. Option (ℕ × Age)) [ true ↦ Some (c, age) | false ↦ γ.owner s' ]) (same s')

    owner-other : (s : ℕ) → (s == s') ≡ false → hn.ghost.owner s ≡ g.ghost.owner s
    owner-other s n = ap (λ z. elim z as (λ y. Option (ℕ × Age)) [ true ↦ Some (c, age) | false ↦ γ.owner s ]) n ∙ ap (λ f. f s) same_owner

    -- nobody had it
    unused : (o : ℕ × Age) → g.ghost.owner s' ≡ Some o → ⊥
    unused o e = absurd (let q = ((all.0).sessions.owned s' o e).0 in let n = next-is in omega arith)

    pub unfrozen-new : g.ghost.frozen s' ≡ None
    unfrozen-new = (all.0).images.unopened s' (go (g.ghost.owner s') refl)
      where
        go : (o : Option (ℕ × Age)) → g.ghost.owner s' ≡ o → o ≡ None
        go None e = refl
        go (Some o) e = absurd (unused o e)

    -- a start of this clerk isn't cut off: its slot would be older than the new one
    module _ (f b s : ℕ) (m : Clerk) (r : g.running f ≡ Some b) (q : g.clerks f b ≡ Some m) (o : g.ghost.owner s ≡ Some (f, m.age)) where
      pub not-this : f ≢ c
      not-this e =
          let w = its-slot g all f b m r q s o in
          let in_slot : slot g.durable c ≡ Some w.0 = ap (slot g.durable) (sym e) ∙ w.1 in
          let aged : (w.0).age ≡ m.age = ap (λ y. y.1) (same_some (sym ((all.0).sessions.slots f w.0 w.1).2 ∙ ap g.ghost.owner w.2 ∙ o)) in
          let greater : T (is_older (w.0).age age) = holds _ (sym (ap (λ x. slots.is_greater x age) in_slot) ∙ (open-steps c age s' g.durable d steps).0) in
          absurd (none-later hn all-now c b m (ap g.running (sym e) ∙ r) (ap (λ y. g.clerks y b) (sym e) ∙ q) s' age owner-new (subst (λ x. T (is_older x age)) aged greater))

    pub open-keeps : γ.is_durable ≡ g.ghost.is_durable → ((s : ℕ) (ks : List Op) → γ.frozen s ≡ Some ks → (s ≡ s') → ⊥) → ((f s : ℕ) (a : Age) → f ≢ c → g.ghost.owner s ≡ Some (f, a) → γ.frozen s ≡ g.ghost.frozen s)
        → ((f : ℕ) → f ≢ c → (watch f γ.shown).untold ≡ (watch f g.ghost.shown).untold) → CutsAgree hn
    open-keeps same_durable fresh same_frozen same_untold f b s m ks r q o z =
        let n : (s == s') ≡ false = differ s s' (fresh s ks z) in
        let was : g.ghost.owner s ≡ Some (f, m.age) = sym (owner-other s n) ∙ o in
        let apart : f ≢ c = not-this f b s m r q was in
        keeps-knowing g hn f s m m ks (λ sl p os dur kn. kn) (open-others c f apart age s' g.durable d steps) (owner-other s n) (λ j t. ap (λ x. x j) same_durable) (same_untold f apart) (cuts f b s m ks r q was (sym (same_frozen f s m.age apart was) ∙ z))
