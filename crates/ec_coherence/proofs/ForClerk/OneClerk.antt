-- The clerk of one session acts: what has to be seen of it, and that then all facts about tokens stay. (It takes no ids here.)
use Rattle.std.proofs.Common.{◌≡◌, refl, sym, ap, subst, ◌∙◌, arith, ℕ, Bool, true, false, not, ◌&&◌, ◌+◌, T, ◌≤◌, ◌<◌}
use Rattle.std.specs.Prelude.{◌==◌, Option, None, Some, is_some}
use Rattle.ec_base.specs.Tables.{Table, at}
use Rattle.ec_base.specs.declared.ids.Hold.{Hold}
use Rattle.ec_volume.specs.Update.{member}
use Rattle.ec_volume.specs.declared.image.Image.{Image}
use Rattle.ec_history.specs.History.{Each}
use Rattle.ec_sessions.specs.OfTokens.Tokens as tokens
use Rattle.ec_wire.specs.Messages.{is_held_mode}
use Rattle.ec_wire.specs.declared.msg.Msg.{Msg}
use Rattle.ec_wire.specs.declared.msg.Msg.TheVariants.{Want, Back, Flush, Room, Claim, Bye, Opened, Grant, Recall, Ids, Restarted}
use Rattle.ec_cache.specs.Cache.{last}
use Rattle.ec_cache.specs.declared.state.Held.{Held}
use Rattle.ec_coherence.specs.Tokens.{Tables, View, Side, WhileUp, InSession, eff, Below, Names, GrantFits, BackFits, WantFits, NotedFits, IdsFit, ClaimFits, RoomFits, in_sixteen, is_hidden, is_untaken, Passed, Fits, Wanted, Noted, TablesAgree, TokensAgree}
use Rattle.ec_coherence.proofs.ForServer.Tables.{differs, each-map, same_some, by-session}
use Rattle.ec_base.proofs.Numbers.{same-self as same, equal}

abbrev pub acted : ℕ → Side → View → View
acted s k w = record w { clerk = λ r. elim (r == s) as (λ z. Option Side) [ true ↦ Some k | false ↦ w.clerk r ] }

pub record Acts (w : View) (s : ℕ) (k k' : Side) : Type 0 where
  pub place : w.clerk s ≡ Some k
  pub epoch : k.epoch ≤ k'.epoch
  pub past : k'.epoch ≤ w.epoch
  pub now : WhileUp w.tables (λ v. T (member s v.claimed) → k'.epoch ≡ w.epoch)
  pub got : k'.got ≡ k.got
  pub holds : (x : ℕ) (h : Held) → at x k'.cache.held ≡ Some h → T (is_held_mode h.hold)
  pub below : (x : ℕ) → Below k'.epoch (last x k'.cache) (at x k'.cache.held) (eff w s x)
  pub lasts : (x : ℕ) → w.next_id ≤ x → last x k'.cache ≡ 0
  pub recalled : Each (λ r. Names w r.obj) k'.recalls
  pub alone : (x : ℕ) → T (is_hidden w s x) → (at x k'.cache.held ≡ None) × (last x k'.cache ≡ 0)
  -- the rows of messages
  pub grant : (x e n : ℕ) (h : Hold) (i : Image) → GrantFits k.epoch e n h i (at x k.cache.held) (eff w s x) (w.seen s x) (last x k.cache) → GrantFits k'.epoch e n h i (at x k'.cache.held) (eff w s x) (w.seen s x) (last x k'.cache)
  pub back : (x e n : ℕ) (h : Hold) → BackFits k.epoch e n h (at x k.cache.held) (last x k.cache) → BackFits k'.epoch e n h (at x k'.cache.held) (last x k'.cache)
  pub want : (x e n : ℕ) (h : Hold) → WantFits k.epoch e h n (at x k.cache.held) (last x k.cache) → WantFits k'.epoch e h n (at x k'.cache.held) (last x k'.cache)
  pub ids : (e got n first : ℕ) → got < w.grants s → (got + 1 ≡ w.grants s → first ≡ w.first s) → IdsFit w s e got n first k → IdsFit w s e got n first k'
  pub claim : (l : Table Hold) → T (w.is_open s) → WhileUp w.tables (λ v. T (not (member s v.claimed)) → ClaimFits w s w.epoch l k → ClaimFits w s w.epoch l k')
  pub noted : WhileUp w.tables (λ v. (x : ℕ) (h : Hold) → Wanted w v s x h → NotedFits h (tokens.token v.tokens s x) (at x k'.cache.held) (last x k'.cache))

up-map : (o : Option Tables) (P Q : Tables → Type 0) → ((v : Tables) → P v → Q v) → WhileUp o P → WhileUp o Q
up-map None P Q f h = tt
up-map (Some v) P Q f h = f v h

up-map2 : (o : Option Tables) (P Q R : Tables → Type 0) → ((v : Tables) → P v → Q v → R v) → WhileUp o P → WhileUp o Q → WhileUp o R
up-map2 None P Q R f h j = tt
up-map2 (Some v) P Q R f h j = f v h j

module _ (w : View) (s : ℕ) (k k' : Side) (agree : TokensAgree w) (acts : Acts w s k k') where
  abbrev new : View
  new = acted s k' w

  -- a fact about the clerk in a session
  in-acted : (r : ℕ) (P Q : Side → Type 0) → (r ≡ s → P k → Q k') → ((z : Side) → P z → Q z) → InSession w r P → InSession new r Q
  in-acted r P Q own other f z i = go (r == s) refl i
    where
      go : (b : Bool) → (r == s) ≡ b → (elim b as (λ z. Option Side) [ true ↦ Some k' | false ↦ w.clerk r ]) ≡ Some z → Q z
      go true e j = subst Q (same_some j) (own (equal r s e) (f k (ap w.clerk (equal r s e) ∙ acts.place)))
      go false e j = other z (f z j)

  hidden-same : (r x : ℕ) → is_hidden new r x ≡ is_hidden w r x
  hidden-same r x = by-session s r (λ z. is_hidden new z x ≡ is_hidden w z x)
      (ap (λ b. is_untaken (w.grants s) (w.first s) (elim b as (λ z. Option Side) [ true ↦ Some k' | false ↦ w.clerk s ]) x) (same s) ∙ ap (λ n. (n + 1 == w.grants s) && in_sixteen (w.first s) x) acts.got
      ∙ sym (ap (λ o. is_untaken (w.grants s) (w.first s) o x) acts.place))
      (λ d. ap (λ b. is_untaken (w.grants r) (w.first r) (elim b as (λ z. Option Side) [ true ↦ Some k' | false ↦ w.clerk r ]) x) d)

  named : (x : ℕ) → Names w x → Names new x
  named x q = (q.0, λ r. subst (λ b. T (not b)) (sym (hidden-same r x)) (q.1 r))

  pass : (r e : ℕ) → Passed w r e → Passed new r e
  pass r e p = (p.0, p.1, in-acted r (λ z. e ≤ z.epoch) (λ z. e ≤ z.epoch) (λ q l. let m = acts.epoch in omega arith) (λ z l. l) p.2)

  room-kept : (r e got : ℕ) → RoomFits w r e got k → RoomFits new r e got k'
  room-kept r e got f = subst (λ n. (got ≤ n) × (e ≡ w.epoch → T (w.is_open r) → WhileUp w.tables (λ v. at r v.recorded ≡ None → got + 1 ≡ w.grants r → got ≡ n))) (sym acts.got) f

  message-kept : (m : Msg) → Fits w m → Fits new m
  message-kept (Want r e x h l) q = (pass r e q.0, q.1, named x q.2, in-acted r _ (λ z. WantFits z.epoch e h l (at x z.cache.held) (last x z.cache)) (λ p f. acts.want x e l h f) (λ z f. f) q.3)
  message-kept (Back r e x n h) q = (pass r e q.0, named x q.1, in-acted r _ (λ z. BackFits z.epoch e n h (at x z.cache.held) (last x z.cache)) (λ p f. acts.back x e n h f) (λ z f. f) q.2)
  message-kept (Flush r e b ops) q = pass r e q
  message-kept (Room r e got ask) q = (pass r e q.0, in-acted r (RoomFits w r e got) (RoomFits new r e got) (λ p f. room-kept r e got f) (λ z f. f) q.1)
  message-kept (Claim r e l) q = (
    pass r e q.0,
    (λ a o. up-map2 w.tables (λ v. T (not (member s v.claimed)) → r ≡ s → ClaimFits w s w.epoch l k → ClaimFits w s w.epoch l k') _ _
        (λ v g f u. in-acted r (ClaimFits w r e l) (ClaimFits new r e l) (λ p j. subst (λ y. ClaimFits w y e l k') (sym p) (subst (λ d. ClaimFits w s d l k') (sym a) (g (subst (λ y. T (not (member y v.claimed))) p u) p (subst (λ d. ClaimFits w s d l k) a (subst (λ y. ClaimFits w y e l k) p j))))) (λ z j. j) (f u))
        (mine a o (r == s) refl) (q.1 a o)),
    each-map (λ c. Names w c.0) (λ c. Names new c.0) l (λ c. named c.0) q.2,
  )
    where
      mine : e ≡ w.epoch → T (w.is_open r) → (b : Bool) → (r == s) ≡ b → WhileUp w.tables (λ v. T (not (member s v.claimed)) → r ≡ s → ClaimFits w s w.epoch l k → ClaimFits w s w.epoch l k')
      mine a o true i = up-map w.tables _ _ (λ v f u p j. f u j) (acts.claim l (subst (λ y. T (w.is_open y)) (equal r s i) o))
      mine a o false i = all w.tables
        where
          all : (o : Option Tables) → WhileUp o (λ v. T (not (member s v.claimed)) → r ≡ s → ClaimFits w s w.epoch l k → ClaimFits w s w.epoch l k')
          all None = tt
          all (Some v) = λ u p j. absurd (differs r s i p)
  message-kept (Bye r e) q = pass r e q
  message-kept (Opened age r e) q = q
  message-kept (Grant r e x n h i) q = (
    pass r e q.0,
    q.1,
    q.2,
    named x q.3,
    in-acted r _ (λ z. GrantFits z.epoch e n h i (at x z.cache.held) (eff w r x) (w.seen r x) (last x z.cache))
        (λ p f. subst (λ y. GrantFits k'.epoch e n h i (at x k'.cache.held) (eff w y x) (w.seen y x) (last x k'.cache)) (sym p) (acts.grant x e n h i (subst (λ y. GrantFits k.epoch e n h i (at x k.cache.held) (eff w y x) (w.seen y x) (last x k.cache)) p f))) (λ z f. f) q.4,
  )
  message-kept (Recall r e x n h) q = (pass r e q.0, named x q.1)
  message-kept (Ids r e got n first) q = (
    pass r e q.0,
    q.1,
    q.2,
    q.3,
    q.4,
    in-acted r (IdsFit w r e got n first) (IdsFit new r e got n first)
        (λ p f. subst (λ y. IdsFit w y e got n first k') (sym p) (acts.ids e got n first (subst (λ y. got < w.grants y) p q.3) (subst (λ y. got + 1 ≡ w.grants y → first ≡ w.first y) p q.4) (subst (λ y. IdsFit w y e got n first k) p f))) (λ z f. f) q.5,
  )
  message-kept (Restarted r e) q = q
  message-kept _ q = q

  tables : (v : Tables) → (T (member s v.claimed) → k'.epoch ≡ w.epoch) → ((x : ℕ) (h : Hold) → Wanted w v s x h → NotedFits h (tokens.token v.tokens s x) (at x k'.cache.held) (last x k'.cache)) → TablesAgree w v → TablesAgree new v
  tables v now noted a = record {
    sound = a.sound;
    are_open = a.are_open;
    epochs = λ r c. in-acted r (λ z. z.epoch ≡ w.epoch) (λ z. z.epoch ≡ w.epoch) (λ p e. now (subst (λ y. T (member y v.claimed)) p c)) (λ z e. e) (a.epochs r c);
    others = a.others;
    wants = each-map (Noted w v) (Noted new v) v.recalls (λ q f. (
      f.0,
      f.1,
      f.2,
      named q.obj f.3,
      in-acted q.session _ (λ z. NotedFits q.hold (tokens.token v.tokens q.session q.obj) (at q.obj z.cache.held) (last q.obj z.cache))
          (λ p g. subst (λ y. NotedFits q.hold (tokens.token v.tokens y q.obj) (at q.obj k'.cache.held) (last q.obj k'.cache)) (sym p) (noted q.obj q.hold (subst (λ y. Wanted w v y q.obj q.hold) p f))) (λ z g. g) f.4,
    )) a.wants;
    apart = a.apart;
    numbers = a.numbers;
    recorded = λ r n p. let q = a.recorded r n p in (
      q.0,
      q.1,
      λ got e. in-acted r (IdsFit w r w.epoch got n (w.first r)) (IdsFit new r w.epoch got n (w.first r))
          (λ i f. subst (λ y. IdsFit w y w.epoch got n (w.first y) k') (sym i) (acts.ids w.epoch got n (w.first s) (subst (λ y. got < w.grants y) i (omega arith)) (λ z. refl) (subst (λ y. IdsFit w y w.epoch got n (w.first y) k) i f))) (λ z f. f) (q.2 got e),
    );
    unrecorded = λ r x c p h. a.unrecorded r x c p (subst T (hidden-same r x) h);
  }

  pub acted-agrees : TokensAgree new
  acted-agrees = record {
    held = agree.held;
    holds = λ r x. in-acted r _ (λ z. (h : Held) → at x z.cache.held ≡ Some h → T (is_held_mode h.hold)) (λ p f. acts.holds x) (λ z f. f) (agree.holds r x);
    known = agree.known;
    next = agree.next;
    exclusive = agree.exclusive;
    below = λ r x. in-acted r _ (λ z. Below z.epoch (last x z.cache) (at x z.cache.held) (eff w r x)) (λ p f. subst (λ y. Below k'.epoch (last x k'.cache) (at x k'.cache.held) (eff w y x)) (sym p) (acts.below x)) (λ z f. f) (agree.below r x);
    got = λ r. in-acted r _ (λ z. (z.epoch ≤ w.epoch) × T (w.taken r) × (z.got ≤ w.grants r) × (w.grants r ≤ z.got + 1))
        (λ p f. (acts.past, f.1, subst (λ n. n ≤ w.grants r) (sym acts.got) f.2, subst (λ n. w.grants r ≤ n + 1) (sym acts.got) f.3)) (λ z f. f) (agree.got r);
    given = agree.given;
    alone = λ r x h. let o = subst T (hidden-same r x) h in let q = agree.alone r x o in (
      (λ t d. let f = q.0 t d in (f.0, subst (λ b. T (not b)) (sym (hidden-same t x)) f.1)),
      in-acted r _ (λ z. (at x z.cache.held ≡ None) × (last x z.cache ≡ 0)) (λ p f. acts.alone x (subst (λ y. T (is_hidden w y x)) p o)) (λ z f. f) q.1,
      q.2,
    );
    lasts = λ r x. in-acted r _ (λ z. w.next_id ≤ x → last x z.cache ≡ 0) (λ p f. acts.lasts x) (λ z f. f) (agree.lasts r x);
    recalled = λ r. in-acted r (λ z. Each (λ c. Names w c.obj) z.recalls) (λ z. Each (λ c. Names new c.obj) z.recalls)
        (λ p f. each-map (λ c. Names w c.obj) (λ c. Names new c.obj) k'.recalls (λ c. named c.obj) acts.recalled) (λ z f. each-map (λ c. Names w c.obj) (λ c. Names new c.obj) z.recalls (λ c. named c.obj) f) (agree.recalled r);
    present = λ r o t. there (r == s) (w.clerk r) (agree.present r o t);
    messages = each-map (λ m. Fits w m.1) (λ m. Fits new m.1) w.pool (λ m. message-kept m.1) agree.messages;
    tables = up w.tables (λ v now noted a. tables v now noted a) acts.now acts.noted agree.tables;
  }
    where
      there : (b : Bool) (o : Option Side) → T (is_some o) → T (is_some (elim b as (λ z. Option Side) [ true ↦ Some k' | false ↦ o ]))
      there true o t = tt
      there false o t = t

      up : (o : Option Tables) → ((v : Tables) → (T (member s v.claimed) → k'.epoch ≡ w.epoch) → ((x : ℕ) (h : Hold) → Wanted w v s x h → NotedFits h (tokens.token v.tokens s x) (at x k'.cache.held) (last x k'.cache)) → TablesAgree w v → TablesAgree new v)
          → WhileUp o (λ v. T (member s v.claimed) → k'.epoch ≡ w.epoch) → WhileUp o (λ v. (x : ℕ) (h : Hold) → Wanted w v s x h → NotedFits h (tokens.token v.tokens s x) (at x k'.cache.held) (last x k'.cache)) → WhileUp o (TablesAgree w) → WhileUp o (TablesAgree new)
      up None f a b c = tt
      up (Some v) f a b c = f v a b c
