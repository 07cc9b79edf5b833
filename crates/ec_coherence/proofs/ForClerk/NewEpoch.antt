-- A clerk enters a later epoch: its tokens lose their numbers, and what was on its way of the earlier ones says nothing more.
use Rattle.std.proofs.Common.{◌≡◌, refl, sym, ap, subst, ◌∙◌, inl, inr, arith, ℕ, Bool, true, false, T, ◌≤◌, ◌<◌, []}
use Rattle.std.specs.Prelude.{◌==◌, Option, None, Some, is_some}
use Rattle.ec_base.specs.Tables.{at}
use Rattle.ec_volume.specs.Update.{member}
use Rattle.ec_sessions.specs.declared.recall.want.Want as want
use Rattle.ec_wire.specs.Messages.{is_held_mode}
use Rattle.ec_wire.specs.declared.msg.Msg.{Msg}
use Rattle.ec_wire.specs.declared.msg.Msg.TheVariants.{Want, Back, Flush, Room, Claim, Bye, Opened, Grant, Recall, Ids, Restarted}
use Rattle.ec_cache.specs.Cache as cache
use Rattle.ec_cache.specs.Cache.{last}
use Rattle.ec_cache.specs.declared.state.Held.{Held}
use Rattle.ec_coherence.specs.System.{Eff}
use Rattle.ec_coherence.specs.Tokens.{Tables, View, Side, InSession, eff, Below, Names, is_untaken, is_hidden, Fits, Passed, IdsFit, ClaimFits, RoomFits, Noted, TablesAgree, TokensAgree}
use Rattle.ec_coherence.proofs.ForClerk.Caches.{bare, at-numberless}
use Rattle.ec_coherence.proofs.ForClerk.Sides.{sided, while-map, while-is, contra}
use Rattle.ec_coherence.proofs.ForServer.Tables.{each-map, same_some}
use Rattle.ec_base.proofs.Options.{none_some}
use Rattle.ec_base.proofs.Numbers.{equal}

-- the side in the epoch e
abbrev pub entered : ℕ → Side → Side
entered e k = record k { epoch = e; cache = cache.new_epoch k.cache; recalls = [] }

module _ (w : View) (s e : ℕ) (k : Side) (agree : TokensAgree w) (was : w.clerk s ≡ Some k) (later : k.epoch < e) (reached : e ≤ w.epoch) where
  abbrev new : View
  new = sided s (Some (entered e k)) w

  inside : (t : ℕ) (P Q : Side → Type 0) → (P k → t ≡ s → Q (entered e k)) → ((j : Side) → P j → Q j) → InSession w t P → InSession new t Q
  inside t P Q own other f j = go (t == s) refl
    where
      go : (b : Bool) → (t == s) ≡ b → elim b [ true ↦ Some (entered e k) | false ↦ w.clerk t ] ≡ Some j → Q j
      go true d p = subst Q (same_some p) (own (f k (ap w.clerk (equal t s d) ∙ was)) (equal t s d))
      go false d p = other j (f j p)

  was-at : (t : ℕ) → t ≡ s → w.clerk t ≡ Some k
  was-at t z = ap w.clerk z ∙ was

  hidden-less : (t x : ℕ) → T (is_hidden new t x) → T (is_hidden w t x)
  hidden-less t x h = go (t == s) refl h
    where
      go : (b : Bool) → (t == s) ≡ b → T (is_untaken (w.grants t) (w.first t) (elim b [ true ↦ Some (entered e k) | false ↦ w.clerk t ]) x) → T (is_hidden w t x)
      go true d h = subst (λ o. T (is_untaken (w.grants t) (w.first t) o x)) (sym (was-at t (equal t s d))) h
      go false d h = h

  names-more : (x : ℕ) → Names w x → Names new x
  names-more x q = (q.0, λ t. contra (is_hidden w t x) (is_hidden new t x) (hidden-less t x) (q.1 t))

  -- no message of the session is of an epoch as late as this
  early : (t a : ℕ) → Passed w t a → t ≡ s → a ≡ e → ⊥
  early t a p z q = let r = p.2 k (was-at t z) in absurd (omega arith)

  -- nor has it claimed in the server's
  unclaimed : (v : Tables) → w.tables ≡ Some v → (t : ℕ) → t ≡ s → T (member t v.claimed) → ⊥
  unclaimed v up t z c = let q = (while-is w.tables (TablesAgree w) v up agree.tables).epochs t c k (was-at t z) in absurd (omega arith)

  pass : (t a : ℕ) → Passed w t a → Passed new t a
  pass t a p = (p.0, p.1, inside t (λ j. a ≤ j.epoch) (λ j. a ≤ j.epoch) (λ q z. omega arith) (λ j q. q) p.2)

  message-kept : (m : Msg) → Fits w m → Fits new m
  message-kept (Want t a x h n) q = (pass t a q.0, q.1, names-more x q.2, inside t _ _ (λ f z y. absurd (early t a q.0 z y)) (λ j f. f) q.3)
  message-kept (Back t a x n h) q = (pass t a q.0, names-more x q.1, inside t _ _ (λ f z y. absurd (early t a q.0 z y)) (λ j f. f) q.2)
  message-kept (Flush t a b ops) q = pass t a q
  message-kept (Room t a got ask) q = (pass t a q.0, inside t (RoomFits w t a got) (RoomFits new t a got) (λ f z. f) (λ j f. f) q.1)
  message-kept (Claim t a l) q = (
    pass t a q.0,
    (λ b o. while-map w.tables _ _ (λ v up f c. inside t (ClaimFits w t a l) (ClaimFits new t a l) (λ g z. absurd (let y = g.0 in omega arith)) (λ j g. g) (f c)) (q.1 b o)),
    each-map _ _ l (λ c. names-more c.0) q.2,
  )
  message-kept (Bye t a) q = pass t a q
  message-kept (Opened age t a) q = q
  message-kept (Grant t a x n h i) q = (pass t a q.0, q.1, q.2, names-more x q.3, inside t _ _ (λ f z y. absurd (early t a q.0 z y)) (λ j f. f) q.4)
  message-kept (Recall t a x n h) q = (pass t a q.0, names-more x q.1)
  message-kept (Ids t a got n first) q = (pass t a q.0, q.1, q.2, q.3, q.4, inside t (IdsFit w t a got n first) (IdsFit new t a got n first) (λ f z y. absurd (early t a q.0 z y)) (λ j f. f) q.5)
  message-kept (Restarted t a) q = q
  message-kept _ q = q

  noted-want : (v : Tables) → w.tables ≡ Some v → (q : want.Want) → Noted w v q → Noted new v q
  noted-want v up q f = (f.0, f.1, f.2, names-more q.obj f.3, inside q.session _ _ (λ g z. absurd (unclaimed v up q.session z f.0)) (λ j g. g) f.4)

  tables-kept : (v : Tables) → w.tables ≡ Some v → TablesAgree w v → TablesAgree new v
  tables-kept v up a = record {
    sound = a.sound;
    are_open = a.are_open;
    epochs = λ t c. inside t (λ j. j.epoch ≡ w.epoch) (λ j. j.epoch ≡ w.epoch) (λ b z. absurd (unclaimed v up t z c)) (λ j b. b) (a.epochs t c);
    others = a.others;
    wants = each-map (Noted w v) (Noted new v) v.recalls (noted-want v up) a.wants;
    apart = a.apart;
    numbers = a.numbers;
    recorded = λ t n p. let q = a.recorded t n p in (
      q.0,
      q.1,
      λ got g. inside t (IdsFit w t w.epoch got n (w.first t)) (IdsFit new t w.epoch got n (w.first t))
          (λ f z. absurd (unclaimed v up t z q.0)) (λ j f. f) (q.2 got g),
    );
    unrecorded = λ t x c r h. a.unrecorded t x c r (hidden-less t x h);
  }

  -- what is held, without its number, is below the token of an earlier epoch
  bare-below : (l : ℕ) (o : Option Held) (f : Option Eff) → Below k.epoch l o f → Below e 0 (bare o) f
  bare-below l None f b = tt
  bare-below l (Some d) None b = b
  bare-below l (Some d) (Some f) b = (b.0, refl, inr (elim (b.2) [ inl q ↦ (let a = q.0 in omega arith) | inr q ↦ (let a = q.0 in omega arith) ], refl))

  bare-held : (o : Option Held) (d : Held) → bare o ≡ Some d → ((c : Held) → o ≡ Some c → T (is_held_mode c.hold)) → T (is_held_mode d.hold)
  bare-held None d p f = absurd (none_some p)
  bare-held (Some c) d p f = subst (λ z. T (is_held_mode z.hold)) (same_some p) (f c refl)

  bare-none : (o : Option Held) → o ≡ None → bare o ≡ None
  bare-none o p = ap bare p

  pub entered-agrees : TokensAgree new
  entered-agrees = record {
    held = agree.held;
    holds = λ t x. inside t _ _ (λ f z d p. bare-held (at x k.cache.held) d (sym (at-numberless x k.cache.held) ∙ p) f) (λ j f. f) (agree.holds t x);
    known = agree.known;
    next = agree.next;
    exclusive = agree.exclusive;
    below = λ t x. inside t _ _ (λ f z. subst (λ o. Below e 0 o (eff w t x)) (sym (at-numberless x k.cache.held)) (bare-below (last x k.cache) (at x k.cache.held) (eff w t x) f)) (λ j f. f) (agree.below t x);
    got = λ t. inside t _ _ (λ f z. (reached, f.1, f.2, f.3)) (λ j f. f) (agree.got t);
    given = agree.given;
    alone = λ t x h. let q = agree.alone t x (hidden-less t x h) in (
      (λ u d. ((q.0 u d).0, contra (is_hidden w u x) (is_hidden new u x) (hidden-less u x) (q.0 u d).1)),
      inside t _ _ (λ f z. (at-numberless x k.cache.held ∙ bare-none (at x k.cache.held) f.0, refl)) (λ j f. f) q.1,
      q.2,
    );
    lasts = λ t x. inside t _ _ (λ f z l. refl) (λ j f. f) (agree.lasts t x);
    recalled = λ t. inside t _ _ (λ f z. tt) (λ j f. each-map _ _ j.recalls (λ r. names-more r.obj) f) (agree.recalled t);
    present = λ t o u. there t (agree.present t o u);
    messages = each-map (λ m. Fits w m.1) (λ m. Fits new m.1) w.pool (λ m. message-kept m.1) agree.messages;
    tables = while-map w.tables (TablesAgree w) (TablesAgree new) tables-kept agree.tables;
  }
    where
      there : (t : ℕ) → T (is_some (w.clerk t)) → T (is_some (new.clerk t))
      there t h = go (t == s)
        where
          go : (b : Bool) → T (is_some (elim b [ true ↦ Some (entered e k) | false ↦ w.clerk t ]))
          go true = tt
          go false = h
