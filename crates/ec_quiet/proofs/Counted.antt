-- How many sessions have tokens.
use Rattle.std.proofs.Common.{◌≡◌, refl, sym, ap, subst, ◌∙◌, arith, ◌≤◌, ◌<◌, ℕ, suc, T, Bool, true, false, not, ◌==◌, ◌||◌, cond, List, [], ◌∷◌, map, length, filter, Option, Some, None}
use Rattle.std.specs.Prelude.{is_some}
use Rattle.std.specs.Ordering.{nat_cmp, is_lt, eq_by_cmp}
use Rattle.std.specs.FinMap.{find, is_sorted}
use Rattle.std.specs.FinMap.Entries.{below_all}
use Rattle.std.proofs.lemmas.Bool.{eqb-true, true≢false}
use Rattle.std.proofs.lemmas.Bool.Decides.{nat_tests}
use Rattle.ec_base.specs.SortedLaws.{first, second}
use Rattle.ec_base.specs.Tables.{Table, at, keys}
use Rattle.ec_sessions.specs.declared.slot.Slot.{Slot}
use Rattle.ec_sessions.specs.OfTokens.Tokens.{Tokens, Row, row_of}
use Rattle.ec_sessions.specs.OfTokens.SoundTokens.{is_row}
use Rattle.ec_sessions.specs.declared.tokens.token.Token.{Token}
use Rattle.ec_volume.specs.Update.{member}
use Rattle.ec_durable.specs.Durable.{slot}
use Rattle.ec_protocol.specs.declared.clerk.Clerk.{Clerk}
use Rattle.ec_protocol.specs.declared.server.Server.{Server}
use Rattle.ec_quiet.specs.Facts.{IsOrderly, session_clerk}
use Rattle.ec_machine_laws.proofs.Once.{AreOnce, fewer, keys-length}
use Rattle.ec_quiet.specs.Bounds.{other_rows}
use Rattle.ec_base.proofs.Numbers.{same-self}
use Rattle.ec_base.proofs.Options.{none-some}
use Rattle.ec_base.proofs.Bools.{higher}

-- The clerks of the sessions.

key-there : (c : ℕ) (clerks : Table Clerk) → T (is_some (at c clerks)) → T (member c (keys clerks))
key-there c [] m = absurd m
key-there c (e ∷ clerks) m = go (eq_by_cmp nat_cmp c e.0) refl m (key-there c clerks)
  where
    tied : eq_by_cmp nat_cmp c e.0 ≡ true → (c == e.0) ≡ true
    tied q = grind (arith, nat_tests, q)

    later : (a : Bool) → T (member c (keys clerks)) → T (a || member c (keys clerks))
    later true h = tt
    later false h = h

    go : (b : Bool) → eq_by_cmp nat_cmp c e.0 ≡ b → T (is_some (cond b (Some e.1) (find nat_cmp c clerks))) → (T (is_some (at c clerks)) → T (member c (keys clerks))) → T ((c == e.0) || member c (keys clerks))
    go true q m r = subst (λ b. T (b || member c (keys clerks))) (sym (tied q)) tt
    go false q m r = later (c == e.0) (r m)

-- a session that has tokens is of a clerk that runs
record IsRun (v : Server) (clerks : Table Clerk) (t : ℕ) : Type 0 where
  clerk : ℕ
  slot_is : Slot
  there : slot v.durable clerk ≡ Some slot_is
  session : slot_is.session ≡ t
  is_open : slot_is.is_open ≡ true

has-token : (r : Row) → T (is_row r) → (x : ℕ) × (k : Token) × (find nat_cmp x r ≡ Some k)
has-token [] h = absurd h
has-token (e ∷ es) h = (e.0, e.1, ap (λ b. cond b (Some e.1) (find nat_cmp e.0 es)) self)
  where
    self : eq_by_cmp nat_cmp e.0 e.0 ≡ true
    self = grind (arith, nat_tests)

absent : {X : Type 0} (t m : ℕ) (es : Table X) → t ≤ m → T (below_all nat_cmp m es) → find nat_cmp t es ≡ None
absent t m [] l b = refl
absent t m (e ∷ es) l b =
    ap (λ z. cond z (Some e.1) (find nat_cmp t es)) (higher t m e.0 l (first (is_lt (nat_cmp m e.0)) (below_all nat_cmp m es) b))
    ∙ absent t m es l (second (is_lt (nat_cmp m e.0)) (below_all nat_cmp m es) b)

below-key : (t k : ℕ) → eq_by_cmp nat_cmp t k ≡ true → t ≤ k
below-key t k q = grind (arith, nat_tests, q)

apart-keys : (t k : ℕ) → eq_by_cmp nat_cmp t k ≡ false → (t == k) ≡ false
apart-keys t k q = grind (arith, nat_tests, q)

turned : (t k : ℕ) → (t == k) ≡ false → t ≡ k → ⊥
turned t k q e = true≢false (sym (ap (λ z. z == k) e ∙ same-self k) ∙ q)

-- a later row is of another session, and is there
later-row : (e : ℕ × Row) (ts : Tokens) (t : ℕ) (r : Row) → T (is_sorted nat_cmp (e ∷ ts)) → find nat_cmp t ts ≡ Some r → ((t == e.0) ≡ false) × (find nat_cmp t (e ∷ ts) ≡ Some r)
later-row e ts t r sorted f = go (eq_by_cmp nat_cmp t e.0) refl
  where
    go : (b : Bool) → eq_by_cmp nat_cmp t e.0 ≡ b → ((t == e.0) ≡ false) × (find nat_cmp t (e ∷ ts) ≡ Some r)
    go true q = none-some r (sym (absent t e.0 ts (below-key t e.0 q) (first (below_all nat_cmp e.0 ts) (is_sorted nat_cmp ts) sorted)) ∙ f)
    go false q = (apart-keys t e.0 q, ap (λ z. cond z (Some e.1) (find nat_cmp t ts)) q ∙ f)

module _ (v : Server) (clerks : Table Clerk) (orderly : IsOrderly v clerks) (c s : ℕ) (own : (sl : Slot) → slot v.durable c ≡ Some sl → sl.is_open ≡ true → sl.session ≡ s) where
  abbrev AllRun : Tokens → Type 0
  AllRun ts = (t : ℕ) (r : Row) → find nat_cmp t ts ≡ Some r → IsRun v clerks t

  all-run : AllRun v.tokens
  all-run t r e =
      let h = has-token r (orderly.sound.rows t r e) in
      let w = orderly.holders t h.0 h.1 (ap (λ o. find nat_cmp h.0 (row_of o)) e ∙ h.2) in
      record { clerk = w.0; slot_is = w.1; there = w.2; session = w.3; is_open = w.4 }

  clerk-of : (t : ℕ) (a : IsRun v clerks t) → session_clerk v t ≡ a.clerk
  clerk-of t a = ap (session_clerk v) (sym a.session) ∙ orderly.own a.clerk a.slot_is a.there

  same-session : (t u : ℕ) (a : IsRun v clerks t) (b : IsRun v clerks u) → a.clerk ≡ b.clerk → t ≡ u
  same-session t u a b e =
      let slots : ◌≡◌ {A = Option Slot} (Some a.slot_is) (Some b.slot_is) = sym a.there ∙ ap (slot v.durable) e ∙ b.there in
      let one : a.slot_is ≡ b.slot_is = cc in
      sym a.session ∙ ap (λ z. z.session) one ∙ b.session

  own-session : (t : ℕ) (a : IsRun v clerks t) → a.clerk ≡ c → t ≡ s
  own-session t a e = sym a.session ∙ own a.slot_is (ap (slot v.durable) (sym e) ∙ a.there) a.is_open

  -- the clerks of the other sessions
  abbrev others : Tokens → List ℕ
  others ts = map (λ r. session_clerk v r.0) (filter (λ r. not (r.0 == s)) ts)

  -- one of them has a session that isn't s
  record IsOther (ts : Tokens) (y : ℕ) : Type 0 where
    session : ℕ
    row : Row
    there : find nat_cmp session ts ≡ Some row
    other : (session == s) ≡ false
    clerk : y ≡ session_clerk v session

  self : (e : ℕ × Row) (ts : Tokens) → find nat_cmp e.0 (e ∷ ts) ≡ Some e.1
  self e ts = ap (λ b. cond b (Some e.1) (find nat_cmp e.0 ts)) one
    where
      one : eq_by_cmp nat_cmp e.0 e.0 ≡ true
      one = grind (arith, nat_tests)

  other-of : (ts : Tokens) → T (is_sorted nat_cmp ts) → (y : ℕ) → T (member y (others ts)) → IsOther ts y
  other-of [] sorted y m = absurd m
  other-of (e ∷ ts) sorted y m = go (e.0 == s) refl m (other-of ts (second (below_all nat_cmp e.0 ts) (is_sorted nat_cmp ts) sorted) y)
    where
      wider : IsOther ts y → IsOther (e ∷ ts) y
      wider o = record { session = o.session; row = o.row; there = (later-row e ts o.session o.row sorted o.there).1; other = o.other; clerk = o.clerk }

      here : (e.0 == s) ≡ false → (b : Bool) → (y == session_clerk v e.0) ≡ b → T (b || member y (others ts)) → (T (member y (others ts)) → IsOther ts y) → IsOther (e ∷ ts) y
      here q true p m r = record { session = e.0; row = e.1; there = self e ts; other = q; clerk = eqb-true y (session_clerk v e.0) p }
      here q false p m r = wider (r m)

      go : (b : Bool) → (e.0 == s) ≡ b → T (member y (map (λ r. session_clerk v r.0) (cond (not b) (e ∷ filter (λ r. not (r.0 == s)) ts) (filter (λ r. not (r.0 == s)) ts)))) → (T (member y (others ts)) → IsOther ts y) → IsOther (e ∷ ts) y
      go true q m r = wider (r m)
      go false q m r = here q (y == session_clerk v e.0) refl m r

  differ : (y z : ℕ) → (y ≡ z → ⊥) → (y == z) ≡ false
  differ y z f = go (y == z) refl
    where
      go : (b : Bool) → (y == z) ≡ b → b ≡ false
      go true e = absurd (f (eqb-true y z e))
      go false e = refl

  once : (ts : Tokens) → T (is_sorted nat_cmp ts) → AllRun ts → AreOnce (others ts)
  once [] sorted run = tt
  once (e ∷ ts) sorted run = go (e.0 == s) (once ts rest tail)
    where
      rest : T (is_sorted nat_cmp ts)
      rest = second (below_all nat_cmp e.0 ts) (is_sorted nat_cmp ts) sorted

      tail : (t : ℕ) (r : Row) → find nat_cmp t ts ≡ Some r → IsRun v clerks t
      tail t r f = run t r (later-row e ts t r sorted f).1

      first-once : (y : ℕ) → T (member y (others ts)) → (y == session_clerk v e.0) ≡ false
      first-once y m = differ y (session_clerk v e.0) λ q.
          let o = other-of ts rest y m in
          let a = tail o.session o.row o.there in
          let b = run e.0 e.1 (self e ts) in
          turned o.session e.0 (later-row e ts o.session o.row sorted o.there).0 (same-session o.session e.0 a b (sym (clerk-of o.session a) ∙ sym o.clerk ∙ q ∙ clerk-of e.0 b))

      go : (b : Bool) → AreOnce (others ts) → AreOnce (map (λ r. session_clerk v r.0) (cond (not b) (e ∷ filter (λ r. not (r.0 == s)) ts) (filter (λ r. not (r.0 == s)) ts)))
      go true o = o
      go false o = (first-once, o)

  map-length : (ts : Tokens) → length (map (λ r. session_clerk v r.0) ts) ≡ length ts
  map-length [] = refl
  map-length (e ∷ ts) = ap suc (map-length ts)

  pub rows-fewer : T (is_some (at c clerks)) → other_rows s v.tokens < length clerks
  rows-fewer runs = omega (arith, fewer (c ∷ others v.tokens) (keys clerks) (apart, once v.tokens sorted all-run) within, map-length (filter (λ r. not (r.0 == s)) v.tokens), keys-length clerks)
    where
      sorted : T (is_sorted nat_cmp v.tokens)
      sorted = orderly.sound.rising

      apart : (y : ℕ) → T (member y (others v.tokens)) → (y == c) ≡ false
      apart y m = differ y c λ q.
          let o = other-of v.tokens sorted y m in
          let a = all-run o.session o.row o.there in
          turned o.session s o.other (own-session o.session a (sym (clerk-of o.session a) ∙ sym o.clerk ∙ q))

      within : (y : ℕ) → T (member y (c ∷ others v.tokens)) → T (member y (keys clerks))
      within y m = go (y == c) refl m
        where
          go : (b : Bool) → (y == c) ≡ b → T (b || member y (others v.tokens)) → T (member y (keys clerks))
          go true e m = subst (λ z. T (member z (keys clerks))) (sym (eqb-true y c e)) (key-there c clerks runs)
          go false e m =
              let o = other-of v.tokens sorted y m in
              let a = all-run o.session o.row o.there in
              subst (λ z. T (member z (keys clerks))) (sym (o.clerk ∙ clerk-of o.session a)) (key-there a.clerk clerks (orderly.run a.clerk a.slot_is a.there a.is_open))
