-- Servers whose sessions and tokens stay in order.
use Rattle.std.proofs.Common.{◌≡◌, refl, sym, ap, subst, ◌∙◌, inl, inr, ◌⊎◌, arith, ◌<◌, ◌+◌, ℕ, zero, suc, T, Bool, true, false, not, ◌==◌, ◌&&◌, ◌||◌, cond, List, [], ◌∷◌, length, Option, Some, None, Ok}
use Rattle.std.specs.Prelude.{is_some, ⊤}
use Rattle.std.specs.List.{list_all}
use Rattle.std.proofs.lemmas.Bool.{eqb-true, true≢false, and_parts}
use Rattle.ec_base.specs.Tables.{Table, at}
use Rattle.ec_base.specs.Holds.{is_free}
use Rattle.ec_base.specs.declared.ids.Age.{Age}
use Rattle.ec_base.specs.declared.ids.Hold.{Hold}
use Rattle.ec_base.specs.declared.ids.Hold.TheVariants.{Write}
use Rattle.ec_volume.specs.Update.{member}
use Rattle.ec_volume.specs.declared.update.Update.{Update}
use Rattle.ec_sessions.specs.Limits.{ids_per_grant}
use Rattle.ec_sessions.specs.Slots.{Slots, slot_at, run, new_slot}
use Rattle.ec_sessions.specs.Slots as slots
use Rattle.ec_sessions.specs.Windows.{after_mark}
use Rattle.ec_sessions.specs.declared.slot.Slot.{Slot}
use Rattle.ec_sessions.specs.OfTokens.Laws.{sound_granted, sound_lowered, token-granted}
use Rattle.ec_sessions.specs.OfTokens.Tokens.{Tokens, token, is_clear, fits_back, granted}
use Rattle.ec_sessions.specs.OfTokens.SoundTokens.{IsSound}
use Rattle.ec_sessions.specs.declared.tokens.token.Token.{Token}
use Rattle.ec_sessions.specs.declared.recall.want.Want.{Want}
use Rattle.ec_durable.specs.Durable.{step, slot}
use Rattle.ec_durable.specs.declared.record.Record.TheVariants.{Batch, Open, Ids}
use Rattle.ec_durable.specs.declared.state.Durable.{Durable}
use Rattle.ec_protocol.specs.Server.{add_claimed, is_claimed, has_claimed, clerk_from, with_ids}
use Rattle.ec_protocol.specs.declared.clerk.Clerk.{Clerk}
use Rattle.ec_protocol.specs.declared.server.Server.{Server}
use Rattle.ec_quiet.specs.Facts.{IsOrderly, session_clerk}
use Rattle.ec_machine_laws.specs.Holding.{left_at, AreOwn}
use Rattle.ec_machine_laws.specs.Records.{IsRestOf}
use Rattle.ec_machine_laws.specs.Serving.{lowering, giving_ids}
use Rattle.ec_machine_laws.proofs.Given.{lowered-tokens, ids-tokens, ids-sound}
use Rattle.ec_machine_laws.proofs.Recording.{batch-own, batch-rest, batch-session, ids-own, ids-rest, ids-session, open-own, open-rest, open-session}
use Rattle.ec_base.proofs.Numbers.{same-self}
use Rattle.ec_base.proofs.Bools.{first-of}

-- Tokens.

-- the session of a slot has a token
abbrev HasOpen : Server → ℕ → Type 0
HasOpen v s = (c : ℕ) × (sl : Slot) × (slot v.durable c ≡ Some sl) × (sl.session ≡ s) × (sl.is_open ≡ true)

pub wants-orderly : (v : Server) (clerks : Table Clerk) (ws : List Want) → IsOrderly v clerks → IsOrderly (record v { recalls = ws }) clerks
wants-orderly v clerks ws o = record { sixteen = o.sixteen; rising = o.rising; sound = o.sound; claimed = o.claimed; run = o.run; own = o.own; earlier = o.earlier; holders = o.holders }

-- the same slots, and tokens of open sessions alone
with-tokens : (v : Server) (clerks : Table Clerk) (ts : Tokens) (n : ℕ) → IsOrderly v clerks → IsSound ts → ((s x : ℕ) (t : Token) → token ts s x ≡ Some t → HasOpen v s) → IsOrderly (record v { number = n; tokens = ts }) clerks
with-tokens v clerks ts n o sound h = record { sixteen = o.sixteen; rising = o.rising; sound = sound; claimed = o.claimed; run = o.run; own = o.own; earlier = o.earlier; holders = h }

-- a token of the session on the object, or one that was there
one-more : (v : Server) (clerks : Table Clerk) (ts : Tokens) (ss : ℕ) (here : ℕ → ℕ → Bool) (new : Option Token) → IsOrderly v clerks
    → ((s x : ℕ) → here s x ≡ true → s ≡ ss) → ((s x : ℕ) → token ts s x ≡ cond (here s x) new (token v.tokens s x)) → HasOpen v ss → (s x : ℕ) (t : Token) → token ts s x ≡ Some t → HasOpen v s
one-more v clerks ts ss here new o own shows live s x t e = go (here s x) refl (sym (shows s x) ∙ e)
  where
    go : (b : Bool) → here s x ≡ b → cond b new (token v.tokens s x) ≡ Some t → HasOpen v s
    go true q p = subst (HasOpen v) (sym (own s x q)) live
    go false q p = o.holders s x t p

pub grant-orderly : (v : Server) (clerks : Table Clerk) (c ss x n : ℕ) (h : Hold) (sl : Slot) → IsOrderly v clerks → slot v.durable c ≡ Some sl → sl.session ≡ ss → sl.is_open ≡ true → is_free h ≡ false → is_clear v.tokens ss x h ≡ true
    → IsOrderly (record v { number = n; tokens = granted ss x h n v.tokens }) clerks
grant-orderly v clerks c ss x n h sl o there session live held clear =
    with-tokens v clerks (granted ss x h n v.tokens) n o (sound_granted v.tokens ss o.sound x h n held clear)
    (one-more v clerks (granted ss x h n v.tokens) ss (λ s y. (s == ss) && (y == x)) (Some (record { hold = h; number = n })) o (λ s y e. eqb-true s ss (first-of (s == ss) (y == x) e)) (token-granted v.tokens ss x h n) (c, sl, there, session, live))

-- a session that gives back has a token
giver : (v : Server) (clerks : Table Clerk) (ss x n : ℕ) (to : Hold) → IsOrderly v clerks → fits_back (token v.tokens ss x) n to ≡ true → HasOpen v ss
giver v clerks ss x n to o fits = go (token v.tokens ss x) refl fits
  where
    go : (t : Option Token) → token v.tokens ss x ≡ t → fits_back t n to ≡ true → HasOpen v ss
    go None q f = absurd (true≢false (sym f))
    go (Some t) q f = o.holders ss x t q

pub back-orderly : (v : Server) (clerks : Table Clerk) (ss x n : ℕ) (to : Hold) → IsOrderly v clerks → fits_back (token v.tokens ss x) n to ≡ true → IsOrderly (lowering ss x to n v) clerks
back-orderly v clerks ss x n to o fits =
    with-tokens v clerks (lowering ss x to n v).tokens v.number o (sound_lowered v.tokens ss o.sound x to n fits)
    (one-more v clerks (lowering ss x to n v).tokens ss (λ s y. (s == ss) && (y == x)) (left_at to n) o (λ s y e. eqb-true s ss (first-of (s == ss) (y == x) e)) (lowered-tokens v.tokens ss x to n) (giver v clerks ss x n to o fits))

-- Slots by their places.

-- two slots of one session are one
abbrev pub AreApart : Slots → Type 0
AreApart ss = (i j : ℕ) (sl sm : Slot) → slot_at ss i ≡ Some sl → slot_at ss j ≡ Some sm → sl.session ≡ sm.session → i ≡ j

apart-from : (v : Server) → ((c : ℕ) (sl : Slot) → slot v.durable c ≡ Some sl → session_clerk v sl.session ≡ c) → AreApart v.durable.sessions
apart-from v own i j sl sm a b e = sym (own i sl a) ∙ ap (session_clerk v) e ∙ own j sm b

clerk-found : (ss : Slots) (k j : ℕ) (sl : Slot) → AreApart ss → slot_at ss j ≡ Some sl → clerk_from k sl.session ss ≡ k + j
clerk-found [] k j sl a e = absurd (none e)
  where
    none : ◌≡◌ {A = Option Slot} None (Some sl) → ⊥
    none e = cc
clerk-found (None ∷ ss) k zero sl a e = absurd (none e)
  where
    none : ◌≡◌ {A = Option Slot} None (Some sl) → ⊥
    none e = cc
clerk-found (None ∷ ss) k (suc j) sl a e = clerk-found ss (k + 1) j sl (λ h i x y p q r. omega (arith, a (suc h) (suc i) x y p q r)) e ∙ omega arith
clerk-found (Some sm ∷ ss) k zero sl a e =
    let same : sm ≡ sl = cc in
    ap (λ b. elim b as (λ z. ℕ) [ true ↦ k | false ↦ clerk_from (k + 1) sl.session ss ]) (ap (λ z. z.session == sl.session) same ∙ same-self sl.session) ∙ omega arith
clerk-found (Some sm ∷ ss) k (suc j) sl a e = go (sm.session == sl.session) refl (clerk-found ss (k + 1) j sl (λ h i x y p q r. omega (arith, a (suc h) (suc i) x y p q r)) e)
  where
    apart : 0 ≡ suc j → ⊥
    apart e = absurd (omega (arith, e))

    go : (b : Bool) → (sm.session == sl.session) ≡ b → clerk_from (k + 1) sl.session ss ≡ (k + 1) + j → elim b as (λ z. ℕ) [ true ↦ k | false ↦ clerk_from (k + 1) sl.session ss ] ≡ k + suc j
    go true q r = absurd (apart (a 0 (suc j) sm sl refl e (eqb-true sm.session sl.session q)))
    go false q r = r ∙ omega arith

pub own-from : (v : Server) → AreApart v.durable.sessions → (c : ℕ) (sl : Slot) → slot v.durable c ≡ Some sl → session_clerk v sl.session ≡ c
own-from v a c sl e = clerk-found v.durable.sessions 0 c sl a e ∙ omega arith

-- each slot passes
pub all-at : (p : Option Slot → Bool) (ss : Slots) → p None ≡ true → list_all p ss ≡ true → (j : ℕ) → p (slot_at ss j) ≡ true
all-at p [] none h j = none
all-at p (o ∷ ss) none h zero = (and_parts (p o) (list_all p ss) h).0
all-at p (o ∷ ss) none h (suc j) = all-at p ss none (and_parts (p o) (list_all p ss) h).1 j

pub at-all : (p : Option Slot → Bool) (ss : Slots) → ((j : ℕ) → p (slot_at ss j) ≡ true) → list_all p ss ≡ true
at-all p [] h = refl
at-all p (o ∷ ss) h = ap (λ b. b && list_all p ss) (h 0) ∙ at-all p ss (λ j. h (suc j))

-- Slots with the same sessions.

abbrev AreAlike : Option Slot → Option Slot → Type 0
AreAlike None None = ⊤
AreAlike (Some sl) (Some sm) = (sm.session ≡ sl.session) × (sm.is_open ≡ sl.is_open)
AreAlike None (Some sm) = ⊥
AreAlike (Some sl) None = ⊥

alike-same : (o p : Option Slot) → p ≡ o → AreAlike o p
alike-same o p e = subst (AreAlike o) (sym e) (self o)
  where
    self : (o : Option Slot) → AreAlike o o
    self None = tt
    self (Some sl) = (refl, refl)

-- the other slot of an alike one
alike-from : (o p : Option Slot) (sm : Slot) → AreAlike o p → p ≡ Some sm → (sl : Slot) × (o ≡ Some sl) × (sm.session ≡ sl.session) × (sm.is_open ≡ sl.is_open)
alike-from None None sm a e = absurd (none e)
  where
    none : ◌≡◌ {A = Option Slot} None (Some sm) → ⊥
    none e = cc
alike-from None (Some x) sm a e = absurd a
alike-from (Some sl) None sm a e = absurd a
alike-from (Some sl) (Some x) sm a e =
    let same : x ≡ sm = cc in
    (sl, refl, sym (ap (λ z. z.session) same) ∙ a.0, sym (ap (λ z. z.is_open) same) ∙ a.1)

alike-to : (o p : Option Slot) (sl : Slot) → AreAlike o p → o ≡ Some sl → (sm : Slot) × (p ≡ Some sm) × (sm.session ≡ sl.session) × (sm.is_open ≡ sl.is_open)
alike-to None p sl a e = absurd (none e)
  where
    none : ◌≡◌ {A = Option Slot} None (Some sl) → ⊥
    none e = cc
alike-to (Some x) None sl a e = absurd a
alike-to (Some x) (Some sm) sl a e =
    let same : x ≡ sl = cc in
    (sm, refl, a.0 ∙ ap (λ z. z.session) same, a.1 ∙ ap (λ z. z.is_open) same)

pub or-cases : (a b c : Bool) → (not a || b) ≡ true → (b ≡ true → c ≡ true) → (not a || c) ≡ true
or-cases true b c e f = f e
or-cases false b c e f = refl

module _ (v w : Server) (clerks : Table Clerk) (o : IsOrderly v clerks) (alike : (j : ℕ) → AreAlike (slot v.durable j) (slot w.durable j)) (count : length w.durable.sessions ≡ length v.durable.sessions)
    (members : (s : ℕ) → has_claimed s v ≡ true → has_claimed s w ≡ true) (next : w.durable.next_session ≡ v.durable.next_session) (sound : IsSound w.tokens)
    (holders : (s x : ℕ) (t : Token) → token w.tokens s x ≡ Some t → HasOpen v s) where
  alike-apart : AreApart w.durable.sessions
  alike-apart i j sl sm p q e =
      let a = alike-from (slot v.durable i) (slot w.durable i) sl (alike i) p in
      let b = alike-from (slot v.durable j) (slot w.durable j) sm (alike j) q in
      apart-from v o.own i j a.0 b.0 a.1 b.1 (sym a.2 ∙ e ∙ b.2)

  alike-claimed : (j : ℕ) → is_claimed w (slot w.durable j) ≡ true
  alike-claimed j = go (slot v.durable j) (slot w.durable j) (alike j) (all-at (is_claimed v) v.durable.sessions refl o.claimed j)
    where
      go : (p q : Option Slot) → AreAlike p q → is_claimed v p ≡ true → is_claimed w q ≡ true
      go None None a e = refl
      go None (Some sm) a e = absurd a
      go (Some sl) None a e = absurd a
      go (Some sl) (Some sm) a e =
          ap (λ b. not b || has_claimed sm.session w) a.1
          ∙ or-cases sl.is_open (has_claimed sl.session v) (has_claimed sm.session w) e (λ h. ap (λ s. has_claimed s w) a.0 ∙ members sl.session h)

  alike-run : (c : ℕ) (sm : Slot) → slot w.durable c ≡ Some sm → sm.is_open ≡ true → T (is_some (at c clerks))
  alike-run c sm p live = let a = alike-from (slot v.durable c) (slot w.durable c) sm (alike c) p in o.run c a.0 a.1 (sym a.3 ∙ live)

  alike-earlier : (c : ℕ) (sm : Slot) → slot w.durable c ≡ Some sm → sm.session < w.durable.next_session
  alike-earlier c sm p = let a = alike-from (slot v.durable c) (slot w.durable c) sm (alike c) p in omega (arith, o.earlier c a.0 a.1, a.2, next)

  alike-holders : (s x : ℕ) (t : Token) → token w.tokens s x ≡ Some t → HasOpen w s
  alike-holders s x t e =
      let h = holders s x t e in
      let a = alike-to (slot v.durable h.0) (slot w.durable h.0) h.1 (alike h.0) h.2 in
      (h.0, a.0, a.1, a.2 ∙ h.3, a.3 ∙ h.4)

  alike-orderly : IsOrderly w clerks
  alike-orderly = record {
    sixteen = count ∙ o.sixteen;
    rising = o.rising;
    sound = sound;
    claimed = at-all (is_claimed w) w.durable.sessions alike-claimed;
    run = alike-run;
    own = own-from w alike-apart;
    earlier = alike-earlier;
    holders = alike-holders;
  }

-- one slot changes, but not its session
one-alike : (d e : Durable) (c : ℕ) (sl sm : Slot) → IsRestOf c d e → slot d c ≡ Some sl → slot e c ≡ Some sm → sm.session ≡ sl.session → sm.is_open ≡ sl.is_open → (j : ℕ) → AreAlike (slot d j) (slot e j)
one-alike d e c sl sm rest p q s t j = go (j == c) refl
  where
    go : (b : Bool) → (j == c) ≡ b → AreAlike (slot d j) (slot e j)
    go true h = subst (λ i. AreAlike (slot d i) (slot e i)) (sym (eqb-true j c h)) (subst (λ z. AreAlike z (slot e c)) (sym p) (subst (AreAlike (Some sl)) (sym q) (s, t)))
    go false h = alike-same (slot d j) (slot e j) (rest.others j h)

pub batch-orderly : (v : Server) (clerks : Table Clerk) (c ss b : ℕ) (ops : List (ℕ × Update)) (d : Durable) (sl : Slot) → IsOrderly v clerks → slot v.durable c ≡ Some sl → step (Batch c ss b ops) v.durable ≡ Ok d
    → IsOrderly (record v { durable = d }) clerks
batch-orderly v clerks c ss b ops d sl o there ok =
    let own = batch-own c ss b ops v.durable d sl there ok in
    let rest = batch-rest c ss b ops v.durable d sl there ok in
    alike-orderly v (record v { durable = d }) clerks o (one-alike v.durable d c sl (record sl { window = after_mark sl.window b; unspent = own.0 }) rest there own.1 refl refl) rest.count (λ s e. e) (batch-session c ss b ops v.durable d sl there ok) o.sound o.holders

pub ids-orderly : (v : Server) (clerks : Table Clerk) (c ss got first : ℕ) (d : Durable) (sl : Slot) → IsOrderly v clerks → slot v.durable c ≡ Some sl → sl.session ≡ ss → sl.is_open ≡ true → AreOwn ss (run first ids_per_grant) v.tokens
    → step (Ids c ss got first) v.durable ≡ Ok d → IsOrderly (giving_ids ss first d v) clerks
ids-orderly v clerks c ss got first d sl o there session live own ok =
    let rest = ids-rest c ss got first v.durable d ok in
    alike-orderly v (giving_ids ss first d v) clerks o
    (one-alike v.durable d c sl (record sl { grants = sl.grants + 1; last_first = Some first; unspent = slots.with_ids first sl.unspent }) rest there (ids-own c ss got first v.durable d sl there ok) refl refl) rest.count (λ s e. e)
    (ids-session c ss got first v.durable d ok) (ids-sound v.tokens ss (v.number + 1) (run first ids_per_grant) o.sound own)
    (one-more v clerks (with_ids ss (v.number + 1) (run first ids_per_grant) v.tokens) ss (λ s y. (s == ss) && member y (run first ids_per_grant)) (Some (record { hold = Write; number = v.number + 1 })) o
    (λ s y e. eqb-true s ss (first-of (s == ss) (member y (run first ids_per_grant)) e)) (ids-tokens v.tokens ss (v.number + 1) (run first ids_per_grant) o.sound own) (c, sl, there, session, live))

-- Openings.

module _ (v : Server) (clerks : Table Clerk) (c : ℕ) (age : Age) (d : Durable) (o : IsOrderly v clerks) (few : c < 16) (runs : T (is_some (at c clerks))) (closed : (sl : Slot) → slot v.durable c ≡ Some sl → sl.is_open ≡ false)
    (ok : step (Open c age v.durable.next_session) v.durable ≡ Ok d) where
  abbrev opened : Server
  opened = add_claimed v.durable.next_session (record v { durable = d })

  rest : IsRestOf c v.durable d
  rest = open-rest c v.durable.next_session age v.durable d ok

  here : slot d c ≡ Some (new_slot age v.durable.next_session)
  here = open-own c v.durable.next_session age v.durable d (omega (arith, few, o.sixteen)) ok

  -- a slot is the new one, or was there
  either : (j : ℕ) (sl : Slot) → slot d j ≡ Some sl → ((j ≡ c) × (sl ≡ new_slot age v.durable.next_session)) ⊎ (((j == c) ≡ false) × (slot v.durable j ≡ Some sl))
  either j sl e = go (j == c) refl
    where
      go : (b : Bool) → (j == c) ≡ b → ((j ≡ c) × (sl ≡ new_slot age v.durable.next_session)) ⊎ (((j == c) ≡ false) × (slot v.durable j ≡ Some sl))
      go true h =
          let both : ◌≡◌ {A = Option Slot} (Some sl) (Some (new_slot age v.durable.next_session)) = sym e ∙ ap (slot d) (eqb-true j c h) ∙ here in
          inl (eqb-true j c h, cc)
      go false h = inr (h, sym (rest.others j h) ∙ e)

  open-apart : AreApart d.sessions
  open-apart i j sl sm p q e = go (either i sl p) (either j sm q)
    where
      go : (((i ≡ c) × (sl ≡ new_slot age v.durable.next_session)) ⊎ (((i == c) ≡ false) × (slot v.durable i ≡ Some sl))) → (((j ≡ c) × (sm ≡ new_slot age v.durable.next_session)) ⊎ (((j == c) ≡ false) × (slot v.durable j ≡ Some sm))) → i ≡ j
      go (inl a) (inl b) = a.0 ∙ sym b.0
      go (inl a) (inr b) = absurd (omega (arith, o.earlier j sm b.1, e, ap (λ z. z.session) a.1))
      go (inr a) (inl b) = absurd (omega (arith, o.earlier i sl a.1, e, ap (λ z. z.session) b.1))
      go (inr a) (inr b) = apart-from v o.own i j sl sm a.1 b.1 e

  or-more : (a b : Bool) → b ≡ true → (a || b) ≡ true
  or-more true b e = refl
  or-more false b e = e

  open-claimed : (j : ℕ) → is_claimed opened (slot d j) ≡ true
  open-claimed j = go (j == c) refl
    where
      go : (b : Bool) → (j == c) ≡ b → is_claimed opened (slot d j) ≡ true
      go true h = ap (λ i. is_claimed opened (slot d i)) (eqb-true j c h) ∙ ap (is_claimed opened) here ∙ ap (λ b. b || member v.durable.next_session v.claimed) (same-self v.durable.next_session)
      go false h = ap (is_claimed opened) (rest.others j h) ∙ by (slot v.durable j) (all-at (is_claimed v) v.durable.sessions refl o.claimed j)
        where
          by : (p : Option Slot) → is_claimed v p ≡ true → is_claimed opened p ≡ true
          by None e = refl
          by (Some sl) e = or-cases sl.is_open (has_claimed sl.session v) (has_claimed sl.session opened) e (or-more (sl.session == v.durable.next_session) (member sl.session v.claimed))

  open-run : (j : ℕ) (sl : Slot) → slot d j ≡ Some sl → sl.is_open ≡ true → T (is_some (at j clerks))
  open-run j sl p live = elim (either j sl p) [ inl a ↦ subst (λ i. T (is_some (at i clerks))) (sym a.0) runs | inr a ↦ o.run j sl a.1 live ]

  open-earlier : (j : ℕ) (sl : Slot) → slot d j ≡ Some sl → sl.session < d.next_session
  open-earlier j sl p = elim (either j sl p) [
    | inl a ↦ omega (arith, ap (λ z. z.session) a.1, open-session c v.durable.next_session age v.durable d ok)
    | inr a ↦ omega (arith, o.earlier j sl a.1, open-session c v.durable.next_session age v.durable d ok)
  ]

  open-holders : (s x : ℕ) (t : Token) → token v.tokens s x ≡ Some t → HasOpen opened s
  open-holders s x t e =
      let h = o.holders s x t e in
      go h.0 h.1 h.2 h.3 h.4 (h.0 == c) refl
    where
      go : (j : ℕ) (sl : Slot) → slot v.durable j ≡ Some sl → sl.session ≡ s → sl.is_open ≡ true → (b : Bool) → (j == c) ≡ b → HasOpen opened s
      go j sl p q live true h = absurd (true≢false (sym live ∙ closed sl (ap (slot v.durable) (sym (eqb-true j c h)) ∙ p)))
      go j sl p q live false h = (j, sl, rest.others j h ∙ p, q, live)

  pub open-orderly : IsOrderly (add_claimed v.durable.next_session (record v { durable = d })) clerks
  open-orderly = record {
    sixteen = rest.count ∙ o.sixteen;
    rising = o.rising;
    sound = o.sound;
    claimed = at-all (is_claimed opened) d.sessions open-claimed;
    run = open-run;
    own = own-from opened open-apart;
    earlier = open-earlier;
    holders = open-holders;
  }
