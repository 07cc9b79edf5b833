-- The clerk of one session changes its side within an epoch: what has to be seen of it, and that then all facts stay.
use Rattle.std.proofs.Common.{◌≡◌, refl, sym, ap, subst, ◌∙◌, inl, inr, ◌⊎◌, arith, ℕ, Bool, true, false, not, ◌&&◌, ◌+◌, T, ◌≤◌, ◌<◌}
use Rattle.std.specs.Prelude.{◌==◌, Option, None, Some, is_some}
use Rattle.ec_base.specs.Tables.{Table, at, at_or}
use Rattle.ec_base.specs.declared.ids.Hold.{Hold}
use Rattle.ec_base.specs.declared.ids.Hold.TheVariants.{Free}
use Rattle.ec_volume.specs.Update.{member}
use Rattle.ec_history.specs.History.{Each}
use Rattle.ec_base.specs.Holds.{rank}
use Rattle.ec_sessions.specs.OfTokens.Tokens as tokens
use Rattle.ec_sessions.specs.declared.recall.want.Want as want
use Rattle.ec_wire.specs.declared.msg.Msg.{Msg}
use Rattle.ec_wire.specs.declared.msg.Msg.TheVariants.{Want, Back, Flush, Room, Claim, Bye, Opened, Grant, Recall, Ids, Restarted}
use Rattle.ec_cache.specs.Cache.{last}
use Rattle.ec_cache.specs.declared.state.Held.{Held}
use Rattle.ec_coherence.specs.System.{recorded, eff_from, at_session}
use Rattle.ec_coherence.specs.Tokens.{Tables, View, Side, WhileUp, InSession, eff, eff_of, Below, Names, GrantFits, is_untaken, is_hidden, in_sixteen, Fits, Passed, IdsFit, ClaimFits, RoomFits, IsEarlier, Noted, TablesAgree, TokensAgree}
use Rattle.ec_coherence.proofs.ForClerk.Rows.{Fewer, Moved, below-kept, want-kept, back-kept, grant-kept, noted-kept, mode-kept, mode-held}
use Rattle.ec_coherence.proofs.ForServer.Tables.{each-map, same_some}
use Rattle.ec_base.proofs.Bools.{left, not-both as refutes, and-both, no-longer as is-false, is-true}
use Rattle.ec_base.proofs.Options.{none_some}
use Rattle.ec_base.proofs.Numbers.{equal}

-- the session's clerk is this, or none is in it
abbrev pub sided : ℕ → Option Side → View → View
sided s o w = record w { clerk = at_session s o w.clerk }

pub while-map : (o : Option Tables) (P Q : Tables → Type 0) → ((v : Tables) → o ≡ Some v → P v → Q v) → WhileUp o P → WhileUp o Q
while-map None P Q f h = tt
while-map (Some v) P Q f h = f v refl h

pub while-is : (o : Option Tables) (P : Tables → Type 0) (v : Tables) → o ≡ Some v → WhileUp o P → P v
while-is o P v e h = subst (λ z. WhileUp z P) e h

pub contra : (a b : Bool) → (T b → T a) → T (not a) → T (not b)
contra a true f n = absurd (refutes a (f tt) n)
contra a false f n = tt

pub is-equal : (a b : ℕ) → T (a == b) → a ≡ b
is-equal a b h = equal a b (is-true (a == b) h)

pub equals : (a b : ℕ) → a ≡ b → T (a == b)
equals a b h = subst (λ z. T (a == z)) h (Rattle.ec_base.proofs.Bools.holds-true (a == a) (Rattle.ec_base.proofs.Numbers.same-self a))

-- What is to be seen where the clerk of s has the side k, and then k'.
pub record Moves (w : View) (s : ℕ) (k k' : Side) : Type 0 where
  pub was : w.clerk s ≡ Some k
  pub epoch : k'.epoch ≡ k.epoch
  -- it took the last ids, as they were recorded in this epoch
  pub got : (k'.got ≡ k.got)
      ⊎ ((k'.got ≡ k.got + 1) × (k'.got ≡ w.grants s) × (k.epoch ≡ w.epoch → T (w.is_open s) → WhileUp w.tables (λ v. T (is_some (at s v.recorded)))))
  pub row : (x : ℕ) → Moved (at x k.cache.held) (at x k'.cache.held) (last x k.cache) (last x k'.cache) k.epoch (eff w s x)
  -- a new number is of an id that was given out and isn't hidden
  pub lasts : (x : ℕ) → (last x k'.cache ≡ last x k.cache) ⊎ ((x < w.next_id) × T (not (is_untaken (w.grants s) (w.first s) (Some k') x)))
  pub recalls : Each (λ r. Names w r.obj) k'.recalls

module _ (w : View) (s : ℕ) (k k' : Side) (agree : TokensAgree w) (moves : Moves w s k k') where
  abbrev new : View
  new = sided s (Some k') w

  -- a fact about the clerk in a session
  inside : (t : ℕ) (P Q : Side → Type 0) → (P k → t ≡ s → Q k') → ((j : Side) → P j → Q j) → InSession w t P → InSession new t Q
  inside t P Q own other f j = go (t == s) refl
    where
      go : (b : Bool) → (t == s) ≡ b → elim b [ true ↦ Some k' | false ↦ w.clerk t ] ≡ Some j → Q j
      go true e p = subst Q (same_some p) (own (f k (ap w.clerk (equal t s e) ∙ moves.was)) (equal t s e))
      go false e p = other j (f j p)

  was-at : (t : ℕ) → t ≡ s → w.clerk t ≡ Some k
  was-at t z = ap w.clerk z ∙ moves.was

  row-at : (t x : ℕ) → t ≡ s → Moved (at x k.cache.held) (at x k'.cache.held) (last x k.cache) (last x k'.cache) k.epoch (eff w t x)
  row-at t x z = subst (λ u. Moved (at x k.cache.held) (at x k'.cache.held) (last x k.cache) (last x k'.cache) k.epoch (eff w u x)) (sym z) (moves.row x)

  -- no id is hidden anew
  pub hidden-less : (t x : ℕ) → T (is_hidden new t x) → T (is_hidden w t x)
  hidden-less t x h = go (t == s) refl h
    where
      own : t ≡ s → T (is_untaken (w.grants t) (w.first t) (Some k') x) → T (is_untaken (w.grants t) (w.first t) (Some k) x)
      own z h = elim (moves.got) [
        | inl q ↦ subst (λ n. T ((n + 1 == w.grants t) && in_sixteen (w.first t) x)) q h
        | inr q ↦ absurd (let a = is-equal (k'.got + 1) (w.grants t) (left (k'.got + 1 == w.grants t) (in_sixteen (w.first t) x) h) in let b = q.1 in let c = ap w.grants z in omega arith)
      ]

      go : (b : Bool) → (t == s) ≡ b → T (is_untaken (w.grants t) (w.first t) (elim b [ true ↦ Some k' | false ↦ w.clerk t ]) x) → T (is_hidden w t x)
      go true e h = subst (λ o. T (is_untaken (w.grants t) (w.first t) o x)) (sym (was-at t (equal t s e))) (own (equal t s e) h)
      go false e h = h

  pub names-more : (x : ℕ) → Names w x → Names new x
  names-more x q = (q.0, λ t. contra (is_hidden w t x) (is_hidden new t x) (hidden-less t x) (q.1 t))

  -- what is hidden of the session's own isn't held, and has no number
  own-alone : (x : ℕ) → T (is_untaken (w.grants s) (w.first s) (Some k') x) → (at x k'.cache.held ≡ None) × (last x k'.cache ≡ 0)
  own-alone x h = elim (moves.lasts x) [ inr q ↦ absurd (refutes _ h q.1) | inl e ↦ still e ]
    where
      before : T (is_hidden w s x)
      before = subst (λ o. T (is_untaken (w.grants s) (w.first s) o x)) (sym moves.was) (elim (moves.got) [
        | inl q ↦ subst (λ n. T ((n + 1 == w.grants s) && in_sixteen (w.first s) x)) q h
        | inr q ↦ absurd (let a = is-equal (k'.got + 1) (w.grants s) (left (k'.got + 1 == w.grants s) (in_sixteen (w.first s) x) h) in let b = q.1 in omega arith)
      ])

      none : (o p : Option Held) (l m : ℕ) → o ≡ None → Fewer o p l m → p ≡ None
      none o None l m e f = refl
      none None (Some d) l m e f = absurd f
      none (Some c) (Some d) l m e f = absurd (none_some (sym e))

      still : last x k'.cache ≡ last x k.cache → (at x k'.cache.held ≡ None) × (last x k'.cache ≡ 0)
      still e = let q = (agree.alone s x before).1 k moves.was in
          (elim ((moves.row x).1) [ inl f ↦ none (at x k.cache.held) (at x k'.cache.held) _ _ q.0 f | inr g ↦ absurd (let a = g.3 in omega arith) ], e ∙ q.1)

  -- its ids
  ids-kept : (t e got n first : ℕ) → t ≡ s → got < w.grants t → (got + 1 ≡ w.grants t → first ≡ w.first t) → IdsFit w t e got n first k → IdsFit new t e got n first k'
  ids-kept t e got n first z l c f a b x y = elim (moves.got) [
    | inl q ↦
        let r = f (a ∙ moves.epoch) (b ∙ q) x y in
        let last-one : got + 1 ≡ w.grants t = (let u = (agree.got t k (was-at t z)).3 in let v = b in omega arith) in
        let h : T (is_untaken (w.grants s) (w.first s) (Some k') x) = subst (λ u. T (is_untaken (w.grants u) (w.first u) (Some k') x)) z
        (and-both (k'.got + 1 == w.grants t) (in_sixteen (w.first t) x) (equals (k'.got + 1) (w.grants t) (let v = b in omega arith)) (subst (λ u. T (in_sixteen u x)) (c last-one) y)) in
        let o = own-alone x h in
        (r.0, o.0, (let p = o.1 in let u = r.2 in omega arith), r.3)
    | inr q ↦ absurd (let u = q.1 in let v = ap w.grants z in omega arith)
  ]

  pass : (t e : ℕ) → Passed w t e → Passed new t e
  pass t e p = (p.0, p.1, inside t (λ j. e ≤ j.epoch) (λ j. e ≤ j.epoch) (λ q z. subst (λ n. e ≤ n) (sym moves.epoch) q) (λ j q. q) p.2)

  -- while the server runs
  tables-are : (v : Tables) → w.tables ≡ Some v → TablesAgree w v
  tables-are v up = while-is w.tables (TablesAgree w) v up agree.tables

  eff-earlier : (v : Tables) → w.tables ≡ Some v → (t x : ℕ) → T (not (member t v.claimed)) → T (w.is_open t) → IsEarlier w.epoch (eff w t x)
  eff-earlier v up t x c o = subst (IsEarlier w.epoch) (sym (ap (λ z. eff_of z w.epoch w.old t x) up ∙ ap (λ b. eff_from b (tokens.token v.tokens t x) w.epoch (w.old t x)) (is-false (member t v.claimed) c)))
      (((tables-are v up).others t x c).1 o)

  eff-recorded : (v : Tables) → w.tables ≡ Some v → (t x : ℕ) → T (member t v.claimed) → eff w t x ≡ recorded (tokens.token v.tokens t x) w.epoch
  eff-recorded v up t x c = ap (λ z. eff_of z w.epoch w.old t x) up ∙ ap (λ b. eff_from b (tokens.token v.tokens t x) w.epoch (w.old t x)) (is-true (member t v.claimed) c)

  claim-kept : (t e : ℕ) (l : Table Hold) (v : Tables) → w.tables ≡ Some v → t ≡ s → e ≡ w.epoch → T (w.is_open t) → T (not (member t v.claimed)) → ClaimFits w t e l k → ClaimFits new t e l k'
  claim-kept t e l v up z a o c g = (
    moves.epoch ∙ g.0,
    λ x. (
      mode-kept (last x k.cache) (last x k'.cache) k.epoch (eff w t x) (at x k.cache.held) (at x k'.cache.held) (rank (at_or Free x l))
          (subst (λ n. IsEarlier n (eff w t x)) (sym (g.0 ∙ a)) (eff-earlier v up t x c o)) (g.1 x).0 (row-at t x z),
      (g.1 x).1,
    ),
  )

  room-kept : (t e got : ℕ) → Passed w t e → t ≡ s → RoomFits w t e got k → RoomFits new t e got k'
  room-kept t e got p z f = elim (moves.got) [
    | inl q ↦ (subst (λ n. got ≤ n) (sym q) f.0, λ a o. while-map w.tables _ _ (λ v up g r n. g r n ∙ sym q) (f.1 a o))
    | inr q ↦ (
      (let u = f.0 in let v = q.0 in omega arith),
      λ a o. while-map w.tables (λ v. at t v.recorded ≡ None → got + 1 ≡ w.grants t → got ≡ k.got) (λ v. at t v.recorded ≡ None → got + 1 ≡ w.grants t → got ≡ k'.got)
          (λ v up g r n. absurd (gone v r (while-is w.tables (λ v. T (is_some (at s v.recorded))) v up
          (q.2 (let b = p.2 k (was-at t z) in let c = (agree.got t k (was-at t z)).0 in omega arith) (subst (λ u. T (w.is_open u)) z o))))) (f.1 a o),
    )
  ]
    where
      gone : (v : Tables) → at t v.recorded ≡ None → T (is_some (at s v.recorded)) → ⊥
      gone v r h = subst (λ o. T (is_some o)) (ap (λ u. at u v.recorded) (sym z) ∙ r) h

  message-kept : (m : Msg) → Fits w m → Fits new m
  message-kept (Want t e x h n) q = (
    pass t e q.0,
    q.1,
    names-more x q.2,
    inside t _ _
        (λ f z a. want-kept (last x k.cache) (last x k'.cache) k.epoch (eff w t x) (at x k.cache.held) (at x k'.cache.held) n h (row-at t x z) (f (a ∙ moves.epoch))) (λ j f. f) q.3,
  )
  message-kept (Back t e x n h) q = (
    pass t e q.0,
    names-more x q.1,
    inside t _ _
        (λ f z a. back-kept (last x k.cache) (last x k'.cache) k.epoch (eff w t x) (at x k.cache.held) (at x k'.cache.held) n h (row-at t x z) (f (a ∙ moves.epoch))) (λ j f. f) q.2,
  )
  message-kept (Flush t e b ops) q = pass t e q
  message-kept (Room t e got ask) q = (pass t e q.0, inside t (RoomFits w t e got) (RoomFits new t e got) (λ f z. room-kept t e got q.0 z f) (λ j f. f) q.1)
  message-kept (Claim t e l) q = (
    pass t e q.0,
    (λ a o. while-map w.tables _ _ (λ v up f c. inside t (ClaimFits w t e l) (ClaimFits new t e l) (λ g z. claim-kept t e l v up z a o c g) (λ j g. g) (f c)) (q.1 a o)),
    each-map _ _ l (λ c. names-more c.0) q.2,
  )
  message-kept (Bye t e) q = pass t e q
  message-kept (Opened age t e) q = q
  message-kept (Grant t e x n h i) q = (
    pass t e q.0,
    q.1,
    q.2,
    names-more x q.3,
    inside t _ _
        (λ f z. subst (λ b. GrantFits b e n h i (at x k'.cache.held) (eff w t x) (w.seen t x) (last x k'.cache)) (sym moves.epoch)
        (grant-kept (last x k.cache) (last x k'.cache) k.epoch (eff w t x) (at x k.cache.held) (at x k'.cache.held) e n h i (w.seen t x) (row-at t x z) f)) (λ j f. f) q.4,
  )
  message-kept (Recall t e x n h) q = (pass t e q.0, names-more x q.1)
  message-kept (Ids t e got n first) q = (pass t e q.0, q.1, q.2, q.3, q.4, inside t (IdsFit w t e got n first) (IdsFit new t e got n first) (λ f z. ids-kept t e got n first z q.3 q.4 f) (λ j f. f) q.5)
  message-kept (Restarted t e) q = q
  message-kept _ q = q

  noted-want : (v : Tables) → w.tables ≡ Some v → (q : want.Want) → Noted w v q → Noted new v q
  noted-want v up q f = (
    f.0,
    f.1,
    f.2,
    names-more q.obj f.3,
    inside q.session _ _
        (λ g z. noted-kept (last q.obj k.cache) (last q.obj k'.cache) k.epoch (eff w q.session q.obj) (at q.obj k.cache.held) (at q.obj k'.cache.held) q.hold (tokens.token v.tokens q.session q.obj)
        (eff-recorded v up q.session q.obj f.0 ∙ ap (recorded (tokens.token v.tokens q.session q.obj)) (sym ((tables-are v up).epochs q.session f.0 k (was-at q.session z)))) (row-at q.session q.obj z) g) (λ j g. g) f.4,
  )

  tables-kept : (v : Tables) → w.tables ≡ Some v → TablesAgree w v → TablesAgree new v
  tables-kept v up a = record {
    sound = a.sound;
    are_open = a.are_open;
    epochs = λ t c. inside t (λ j. j.epoch ≡ w.epoch) (λ j. j.epoch ≡ w.epoch) (λ e z. moves.epoch ∙ e) (λ j e. e) (a.epochs t c);
    others = a.others;
    wants = each-map (Noted w v) (Noted new v) v.recalls (noted-want v up) a.wants;
    apart = a.apart;
    numbers = a.numbers;
    recorded = λ t n p. let q = a.recorded t n p in (
      q.0,
      q.1,
      λ got g. inside t (IdsFit w t w.epoch got n (w.first t)) (IdsFit new t w.epoch got n (w.first t))
          (λ f z. ids-kept t w.epoch got n (w.first t) z (omega arith) (λ y. refl) f) (λ j f. f) (q.2 got g),
    );
    unrecorded = λ t x c r h. a.unrecorded t x c r (hidden-less t x h);
  }

  pub moved-agrees : TokensAgree new
  moved-agrees = record {
    held = agree.held;
    holds = λ t x. inside t _ _ (λ f z. mode-held (last x k.cache) (last x k'.cache) k.epoch (eff w t x) (at x k.cache.held) (at x k'.cache.held) (row-at t x z) (agree.held t x)) (λ j f. f) (agree.holds t x);
    known = agree.known;
    next = agree.next;
    exclusive = agree.exclusive;
    below = λ t x. inside t _ _ (λ f z. subst (λ e. Below e (last x k'.cache) (at x k'.cache.held) (eff w t x)) (sym moves.epoch)
        (below-kept (last x k.cache) (last x k'.cache) k.epoch (eff w t x) (at x k.cache.held) (at x k'.cache.held) (row-at t x z) f)) (λ j f. f) (agree.below t x);
    got = λ t. inside t _ _ (λ f z. let r = got-kept t z f.2 f.3 in (subst (λ n. n ≤ w.epoch) (sym moves.epoch) f.0, f.1, r.0, r.1)) (λ j f. f) (agree.got t);
    given = agree.given;
    alone = λ t x h. let q = agree.alone t x (hidden-less t x h) in
        ((λ u d. ((q.0 u d).0, contra (is_hidden w u x) (is_hidden new u x) (hidden-less u x) (q.0 u d).1)), alone-side t x h, q.2);
    lasts = λ t x. inside t _ _ (λ f z l. elim (moves.lasts x) [ inl e ↦ e ∙ f l | inr q ↦ absurd (let a = q.0 in omega arith) ]) (λ j f. f) (agree.lasts t x);
    recalled = λ t. inside t _ _ (λ f z. each-map _ _ k'.recalls (λ r. names-more r.obj) moves.recalls) (λ j f. each-map _ _ j.recalls (λ r. names-more r.obj) f) (agree.recalled t);
    present = λ t o u. there t (agree.present t o u);
    messages = each-map (λ m. Fits w m.1) (λ m. Fits new m.1) w.pool (λ m. message-kept m.1) agree.messages;
    tables = while-map w.tables (TablesAgree w) (TablesAgree new) tables-kept agree.tables;
  }
    where
      got-kept : (t : ℕ) → t ≡ s → k.got ≤ w.grants t → w.grants t ≤ k.got + 1 → (k'.got ≤ w.grants t) × (w.grants t ≤ k'.got + 1)
      got-kept t z a b = elim (moves.got) [ inl q ↦ (omega arith, omega arith) | inr q ↦ (let c = q.1 in let d = ap w.grants z in (omega arith, omega arith)) ]

      alone-side : (t x : ℕ) → T (is_hidden new t x) → InSession new t (λ j. (at x j.cache.held ≡ None) × (last x j.cache ≡ 0))
      alone-side t x h j = go (t == s) refl h
        where
          go : (b : Bool) → (t == s) ≡ b → T (is_untaken (w.grants t) (w.first t) (elim b [ true ↦ Some k' | false ↦ w.clerk t ]) x) → elim b [ true ↦ Some k' | false ↦ w.clerk t ] ≡ Some j → (at x j.cache.held ≡ None) × (last x j.cache ≡ 0)
          go true e h p = subst (λ i. (at x i.cache.held ≡ None) × (last x i.cache ≡ 0)) (same_some p) (own-alone x (subst (λ u. T (is_untaken (w.grants u) (w.first u) (Some k') x)) (equal t s e) h))
          go false e h p = (agree.alone t x h).1 j p

      there : (t : ℕ) → T (is_some (w.clerk t)) → T (is_some (new.clerk t))
      there t h = go (t == s)
        where
          go : (b : Bool) → T (is_some (elim b [ true ↦ Some k' | false ↦ w.clerk t ]))
          go true = tt
          go false = h
