-- A clerk answers recalls: it lowers its token, or gives it back, and says so.
use Rattle.std.proofs.Common.{◌≡◌, refl, sym, ap, subst, ◌∙◌, inl, inr, arith, ℕ, Bool, true, false, cond, T, ◌≤◌, List, [], ◌∷◌}
use Rattle.std.specs.Prelude.{◌==◌, Option, None, Some, max}
use Rattle.ec_base.specs.Tables.{at, at_or, without}
use Rattle.ec_base.specs.declared.ids.Hold.{Hold}
use Rattle.ec_base.specs.declared.ids.Hold.TheVariants.{Free, Read, Write}
use Rattle.ec_history.specs.History.{Each}
use Rattle.ec_log.specs.declared.state.Asked.TheVariants.{Object}
use Rattle.ec_base.specs.Holds.{rank, is_free, weaker}
use Rattle.ec_wire.specs.Messages.{is_held_mode}
use Rattle.ec_wire.specs.declared.msg.Msg.TheVariants.{Back}
use Rattle.ec_cache.specs.Cache as cache
use Rattle.ec_cache.specs.Cache.{last}
use Rattle.ec_cache.specs.declared.state.CacheState.{CacheState}
use Rattle.ec_cache.specs.declared.state.Held.{Held}
use Rattle.ec_protocol.specs.declared.clerk.Clerk.{Clerk}
use Rattle.ec_protocol.specs.declared.clerk.Recalled.{Recalled}
use Rattle.ec_protocol.specs.Clerk.{Doing, session, epoch, left_of, lower_held, give_back, is_ready, keep_recall, ask_for, try_recalls, answer_recalls}
use Rattle.ec_coherence.specs.Clerks.{acting}
use Rattle.ec_coherence.specs.System.{Eff}
use Rattle.ec_coherence.specs.Tokens.{View, Side, side, eff, Names, Below, HeldAtMost}
use Rattle.ec_coherence.proofs.ForClerk.Acting.{is-in, session-is}
use Rattle.ec_coherence.proofs.ForClerk.Caches.{at-lowered, at_most, last-put}
use Rattle.ec_coherence.proofs.ForClerk.Goes.{Goes, names-act, name-now, goes-send, goes-move, goes-ask, passed-now}
use Rattle.ec_coherence.proofs.ForClerk.OneObject.{OneSide, one-moves}
use Rattle.ec_coherence.proofs.ForClerk.Rows.{Fewer, Moved}
use Rattle.ec_coherence.proofs.ForServer.Tables.{at-without, same_some, each-map}
use Rattle.ec_coherence.proofs.ForClerk.TakeRecall.{keep-agrees, clear-agrees}
use Rattle.ec_base.proofs.Numbers.{equal}
use Rattle.ec_history.proofs.HistoryLemmas.{each-more as each-append}

-- what is held, behind the answer of a recall to this mode
abbrev lower_one : Hold → Option Held → Option Held
lower_one to None = None
lower_one to (Some h) = cond (is_free to) None (Some (record h { hold = weaker to h.hold }))

held-lowered : (y x : ℕ) (to : Hold) (k : CacheState) → at y (lower_held x to (at x k.held) k).held ≡ cond (y == x) (lower_one to (at x k.held)) (at y k.held)
held-lowered y x to k = go (at x k.held) refl
  where
    there : (y == x) ≡ true → at y k.held ≡ at x k.held
    there p = ap (λ z. at z k.held) (equal y x p)

    none : at x k.held ≡ None → (b : Bool) → (y == x) ≡ b → at y k.held ≡ cond b None (at y k.held)
    none e true p = there p ∙ e
    none e false p = refl

    some : (h : Held) → at x k.held ≡ Some h → (b : Bool) → (y == x) ≡ b → cond b (at_most to (at y k.held)) (at y k.held) ≡ cond b (Some (record h { hold = weaker to h.hold })) (at y k.held)
    some h e true p = ap (at_most to) (there p ∙ e)
    some h e false p = refl

    by-mode : (h : Held) → at x k.held ≡ Some h → (b : Bool) → at y (cond b (without x k.held) (cache.lowered x to k.held)) ≡ cond (y == x) (cond b None (Some (record h { hold = weaker to h.hold }))) (at y k.held)
    by-mode h e true = at-without y x k.held
    by-mode h e false = at-lowered y x to k.held ∙ some h e (y == x) refl

    go : (o : Option Held) → at x k.held ≡ o → at y (lower_held x to o k).held ≡ cond (y == x) (lower_one to o) (at y k.held)
    go None e = none e (y == x) refl
    go (Some h) e = by-mode h e (is_free to)

lasts-lowered : (x : ℕ) (to : Hold) (o : Option Held) (k : CacheState) → (lower_held x to o k).lasts ≡ k.lasts
lasts-lowered x to None k = refl
lasts-lowered x to (Some h) k = refl

number-lowered : (y x n : ℕ) (to : Hold) (o : Option Held) (k : CacheState) → last y (cache.passed x n (lower_held x to o k)) ≡ cond (y == x) (max n (last x k)) (last y k)
number-lowered y x n to o k = last-put y x (max n (last x (lower_held x to o k))) (lower_held x to o k).lasts ∙ ap (λ z. cond (y == x) (max n (at_or 0 x z)) (at_or 0 y z)) (lasts-lowered x to o k)

-- Modes.

pub weaker-right : (a b : Hold) → rank (weaker a b) ≤ rank b
weaker-right Free Free = omega arith
weaker-right Free Read = omega arith
weaker-right Free Write = omega arith
weaker-right Read Free = omega arith
weaker-right Read Read = omega arith
weaker-right Read Write = omega arith
weaker-right Write Free = omega arith
weaker-right Write Read = omega arith
weaker-right Write Write = omega arith

weaker-left : (a b : Hold) → rank (weaker a b) ≤ rank a
weaker-left Free Free = omega arith
weaker-left Free Read = omega arith
weaker-left Free Write = omega arith
weaker-left Read Free = omega arith
weaker-left Read Read = omega arith
weaker-left Read Write = omega arith
weaker-left Write Free = omega arith
weaker-left Write Read = omega arith
weaker-left Write Write = omega arith

weaker-held : (a b : Hold) → is_free a ≡ false → T (is_held_mode b) → T (is_held_mode (weaker a b))
weaker-held Free b e h = absurd (cc)
weaker-held Read Free e h = absurd h
weaker-held Read Read e h = tt
weaker-held Read Write e h = tt
weaker-held Write Free e h = absurd h
weaker-held Write Read e h = tt
weaker-held Write Write e h = tt

-- a token of another number is given back whole
left-number : (r : Recalled) (h : Held) → is_free (left_of r (Some h)) ≡ false → h.number ≡ r.number
left-number r h e = go (h.number == r.number) refl e
  where
    go : (b : Bool) → (h.number == r.number) ≡ b → is_free (elim b [ true ↦ weaker r.to h.hold | false ↦ Free ]) ≡ false → h.number ≡ r.number
    go true p e = equal h.number r.number p
    go false p e = absurd (cc)

below-number : (e l : ℕ) (h : Held) (f : Option Eff) → Below e l (Some h) f → h.number ≡ l
below-number e l h None b = absurd b
below-number e l h (Some f) b = b.1

module _ (w : View) (c s : ℕ) (d : Doing) (r : Recalled) (e : Doing) (goes : Goes w c s d e) (names : Names (acting w c s d) r.obj) where
  abbrev k : CacheState
  k = e.clerk.cache

  abbrev to : Hold
  to = left_of r (at r.obj k.held)

  abbrev clerk : Clerk
  clerk = record (e.clerk) { cache = cache.passed r.obj r.number (lower_held r.obj to (at r.obj k.held) k) }

  now : Names (acting w c s e) r.obj
  now = name-now w c s d e goes r.obj names

  moved : Moved (at r.obj k.held) (lower_one to (at r.obj k.held)) (last r.obj k) (max r.number (last r.obj k)) e.clerk.epoch (eff (acting w c s e) s r.obj)
  moved = (omega arith, inl (go (at r.obj k.held) (goes.agree.holds s r.obj (side e.clerk) (is-in w c s e)) (goes.agree.below s r.obj (side e.clerk) (is-in w c s e))))
    where
      go : (o : Option Held) → ((h : Held) → o ≡ Some h → T (is_held_mode h.hold)) → Below e.clerk.epoch (last r.obj k) o (eff (acting w c s e) s r.obj) → Fewer o (lower_one (left_of r o) o) (last r.obj k) (max r.number (last r.obj k))
      go None f b = tt
      go (Some h) f b = by-mode (is_free (left_of r (Some h))) refl
        where
          by-mode : (z : Bool) → is_free (left_of r (Some h)) ≡ z → Fewer (Some h) (cond z None (Some (record h { hold = weaker (left_of r (Some h)) h.hold }))) (last r.obj k) (max r.number (last r.obj k))
          by-mode true p = tt
          by-mode false p = (
            refl,
            weaker-right (left_of r (Some h)) h.hold,
            weaker-held (left_of r (Some h)) h.hold p (f h refl),
            (let a = left-number r h p in let y = below-number e.clerk.epoch (last r.obj k) h (eff (acting w c s e) s r.obj) b in omega arith),
          )

  one : OneSide (acting w c s e) s (side e.clerk) (side clerk) r.obj (lower_one to (at r.obj k.held)) (max r.number (last r.obj k))
  one = record {
    was = is-in w c s e;
    epoch = refl;
    got = refl;
    held = λ y. held-lowered y r.obj to k;
    number = λ y. number-lowered y r.obj r.number to (at r.obj k.held) k;
    moved = moved;
    names = inr now;
    recalls = goes.agree.recalled s (side e.clerk) (is-in w c s e);
  }

  lowered : Goes w c s d (record e { clerk = clerk })
  lowered = goes-move w c s d e goes clerk refl refl (one-moves (acting w c s e) s (side e.clerk) (side clerk) r.obj (lower_one to (at r.obj k.held)) (max r.number (last r.obj k)) goes.agree one)

  -- what it says is true
  true-back : (r.number ≤ last r.obj clerk.cache) × HeldAtMost (at r.obj clerk.cache.held) r.number to
  true-back = (
    subst (λ n. r.number ≤ n) (sym (number-lowered r.obj r.obj r.number to (at r.obj k.held) k)) (first (r.obj == r.obj) (Rattle.ec_base.proofs.Numbers.same-self r.obj)),
    subst (λ o. HeldAtMost o r.number to) (sym (held-lowered r.obj r.obj to k)) (second (r.obj == r.obj) (Rattle.ec_base.proofs.Numbers.same-self r.obj) (at r.obj k.held)),
  )
    where
      first : (b : Bool) → b ≡ true → r.number ≤ cond b (max r.number (last r.obj k)) (last r.obj k)
      first true p = omega arith
      first false p = absurd (cc)

      second : (b : Bool) → b ≡ true → (o : Option Held) → HeldAtMost (cond b (lower_one (left_of r o) o) o) r.number (left_of r o)
      second false p o = absurd (cc)
      second true p None = tt
      second true p (Some h) = by-mode (is_free (left_of r (Some h))) refl
        where
          by-mode : (z : Bool) → is_free (left_of r (Some h)) ≡ z → HeldAtMost (cond z None (Some (record h { hold = weaker (left_of r (Some h)) h.hold }))) r.number (left_of r (Some h))
          by-mode true q = tt
          by-mode false q = ((let a = left-number r h q in omega arith), λ y. weaker-left (left_of r (Some h)) h.hold)

  pub goes-back : Goes w c s d (give_back r e)
  goes-back = goes-send w c s d (record e { clerk = clerk }) lowered (Back (session e) (epoch e) r.obj r.number to) (
    passed-now w c s d (record e { clerk = clerk }) lowered,
    name-now w c s d (record e { clerk = clerk }) lowered r.obj names,
    λ j i a. let p : side clerk ≡ j = same_some (sym (is-in w c s (record e { clerk = clerk })) ∙ subst (λ t. at-clerk t j) (session-is w c s e goes.session) i) in
        subst (λ z. (r.number ≤ last r.obj z.cache) × HeldAtMost (at r.obj z.cache.held) r.number to) p true-back,
  )
    where
      at-clerk : ℕ → Side → Type 0
      at-clerk t j = (acting w c s (record e { clerk = clerk })).clerk t ≡ Some j

-- All recalls are tried.

pub goes-recalls : (w : View) (c s : ℕ) (d : Doing) (rs : List Recalled) (e : Doing) → Goes w c s d e → Each (λ r. Names (acting w c s d) r.obj) rs → Goes w c s d (try_recalls rs e)
goes-recalls w c s d [] e g n = g
goes-recalls w c s d (r ∷ rs) e g n = goes-recalls w c s d rs _ (go (is_ready r e.clerk)) n.1
  where
    keep : (f : Doing) → Goes w c s d f → Goes w c s d (keep_recall r f)
    keep f h = record { session = h.session; got = h.got; agree = keep-agrees w c s r f h.agree (name-now w c s d f h r.obj n.0) }

    go : (b : Bool) → Goes w c s d (elim b [ true ↦ give_back r e | false ↦ keep_recall r (ask_for (Object r.obj) e) ])
    go true = goes-back w c s d r e g n.0
    go false = keep (ask_for (Object r.obj) e) (goes-ask w c s d (Object r.obj) e g)

pub goes-answer-recalls : (w : View) (c s : ℕ) (d e : Doing) → Goes w c s d e → Goes w c s d (answer_recalls e)
goes-answer-recalls w c s d e g = goes-recalls w c s d e.clerk.recalls (record e { clerk = record (e.clerk) { recalls = [] } })
    (record { session = g.session; got = g.got; agree = clear-agrees w c s e g.agree })
    (each-map _ _ e.clerk.recalls (λ r. names-act w c s e d (sym g.got) r.obj) (g.agree.recalled s (side e.clerk) (is-in w c s e)))
