-- An answer touches no operand of what another's session may still lose: B1, B2 and C1 exclude it.
use Rattle.std.proofs.Common.{◌≡◌, ◌≢◌, refl, sym, ap, subst, ◌∙◌, inl, inr, arith, ◌<◌, ◌≤◌, ◌+◌, ◌-◌, ℕ, T, Bool, true, false, not, ◌==◌, ◌&&◌, ◌||◌, cond, map, List, [], ◌∷◌, length, Option, Some, None}
use Rattle.std.specs.List.{filter, list_any, list_all}
use Rattle.std.proofs.lemmas.Bool.{and_parts, true≢false, cases_eq}
use Rattle.ec_base.specs.Tables.{at}
use Rattle.ec_base.specs.declared.ids.Age.{Age}
use Rattle.ec_base.specs.declared.ids.Hold.{Hold}
use Rattle.ec_base.specs.declared.ids.Hold.TheVariants.{Free, Read, Write}
use Rattle.ec_volume.specs.Update.{member, operands}
use Rattle.ec_plain.specs.declared.call.Call.{Call}
use Rattle.ec_base.specs.Holds.{rank, is_write, clash}
use Rattle.ec_wire.specs.Messages.{is_held_mode}
use Rattle.ec_history.specs.History.{Base, History, Op, Each, kept, numbers, of_start, is_one_of, outcome, touched}
use Rattle.ec_history.specs.Legal.{leaves, is_call_of_other}
use Rattle.ec_history.specs.declared.entry.Answer.{Answer}
use Rattle.ec_history.specs.declared.entry.Entry.{Entry}
use Rattle.ec_cache.specs.OfReport.Report.{Owed}
use Rattle.ec_cache.specs.declared.resolve.verdict.Verdict.{Verdict}
use Rattle.ec_cache.specs.declared.resolve.verdict.Verdict.TheVariants.{Need, Lost, NeedIds, Done}
use Rattle.ec_cache.specs.Cache.{holds, last}
use Rattle.ec_cache.specs.declared.state.Held.{Held}
use Rattle.ec_coherence.specs.Answers.{IsAt}
use Rattle.ec_coherence.proofs.ForCommits.Judged.{held-token, done-read, ids-read, lost-read}
use Rattle.ec_protocol.specs.Clerk.{first_id, verdict}
use Rattle.ec_protocol.specs.declared.clerk.Clerk.{Clerk}
use Rattle.ec_coherence.specs.System.{System, Eff, clerk_in, is_of, is_open, undurable}
use Rattle.ec_coherence.specs.Tokens.{TokensAgree, Below, IsWrite, eff, eff_hold, side, side_in, view}
use Rattle.ec_coherence.specs.Log.{HasWrites}
use Rattle.ec_coherence.specs.Events.{EventsAgree, shown_boot, shown_op}
use Rattle.ec_coherence.proofs.ForServer.Settled.{each-member}
use Rattle.ec_coherence.proofs.ForServer.Tables.{same_some, clash-below}
use Rattle.ec_coherence.specs.Answers.{IsLive, Sees, Gives, fresh_of, based}
use Rattle.ec_coherence.specs.Comes.{DurableAreMarked, entry_next}
use Rattle.ec_coherence.proofs.ForCommits.Answering.{is-at, fresh-here, kept-now}
use Rattle.ec_base.proofs.Numbers.{same-self as same, equal}
use Rattle.ec_base.proofs.Options.{none_some}
use Rattle.ec_base.proofs.Bools.{or-right, is-true}
use Rattle.ec_machine_laws.proofs.Given.{or-left}

-- Tokens.

fin : (a w e : Hold) → T (is_held_mode a) → T (is_write w) → rank w ≤ rank e → T (not (clash a e)) → ⊥
fin Free w e m v z n = m
fin Read Free e m v z n = v
fin Read Read e m v z n = v
fin Read Write Free m v z n = absurd (omega (arith, z))
fin Read Write Read m v z n = absurd (omega (arith, z))
fin Read Write Write m v z n = n
fin Write Free e m v z n = v
fin Write Read e m v z n = v
fin Write Write Free m v z n = absurd (omega (arith, z))
fin Write Write Read m v z n = absurd (omega (arith, z))
fin Write Write Write m v z n = n

below-rank : (ep n : ℕ) (o : Option Held) (f : Option Eff) (h : Held) → o ≡ Some h → Below ep n o f → rank h.hold ≤ rank (eff_hold f)
below-rank ep n None f h e q = absurd (none_some e)
below-rank ep n (Some j) None h e q = absurd q
below-rank ep n (Some j) (Some f) h e q = subst (λ z. rank z.hold ≤ rank f.hold) (same_some e) q.0

written : (o : Option Held) → IsWrite o → (j : Held) × (o ≡ Some j) × T (is_write j.hold)
written None w = absurd w
written (Some j) w = (j, refl, w)

module _ (g : System) (tok : TokensAgree (view g)) where
  pub token-of : (s y : ℕ) (k : Clerk) → clerk_in g s ≡ Some k → (h : Held) → at y k.cache.held ≡ Some h → rank h.hold ≤ rank (eff_hold (eff (view g) s y))
  token-of s y k i h e = below-rank k.epoch (last y k.cache) (at y k.cache.held) (eff (view g) s y) h e (tok.below s y (side k) (ap side_in i))

  -- what a clerk of an open session holds is no operand of what another's may still lose
  pub held-apart : (s c : ℕ) (a : Age) (k : Clerk) → clerk_in g s ≡ Some k → T (is_open g s) → g.ghost.owner s ≡ Some (c, a) → (o : Op) → HasWrites g o → (o.clerk == c) ≡ false
      → (y : ℕ) → T (member y (operands o.update)) → T (holds y Read k.cache) → ⊥
  held-apart s c a k i p w o h n y m t =
      let own = held-token k.cache y t in
      let other = written (at y h.clerk.cache.held) (each-member (λ z. IsWrite (at z h.clerk.cache.held)) y (operands o.update) h.writes m) in
      fin (own.0).hold (other.0).hold (eff_hold (eff (view g) h.session y)) (tok.holds s y (side k) (ap side_in i) own.0 own.1) other.2 (token-of h.session y h.clerk h.in_place other.0 other.1)
      (clash-below (own.0).hold (eff_hold (eff (view g) s y)) (eff_hold (eff (view g) h.session y)) (token-of s y k i own.0 own.1) (tok.exclusive s h.session y apart p h.is_open))
    where
      apart : s ≢ h.session
      apart e =
          let mine : T (is_of (Some (c, a)) o) = subst (λ z. T (is_of z o)) (ap g.ghost.owner (sym e) ∙ w) h.own in
          let two = and_parts (c == o.clerk) (a.boot == o.boot) (is-true (is_of (Some (c, a)) o) mine) in
          true≢false (sym (ap (λ z. o.clerk == z) (equal c o.clerk two.0) ∙ same o.clerk) ∙ n)

-- What a verdict's call touches is held, but for the fresh id.
module _ (base : Base) (most : ℕ) (past : History) (c b p : ℕ) (cl : Call) (k : Clerk) (here : IsAt base past c b k.cache k.owed (first_id k.ids)) (fresh : base.fresh p ≡ fresh_of k) where
  pub touched-held : (v : Verdict) (a : Answer) (op : Option ℕ) (rest : Owed) → verdict cl k ≡ v → Gives most k v a op rest → (y : ℕ) → T (member y (outcome base (kept base past) p cl).touched) → y ≢ fresh_of k → T (holds y Read k.cache)
  touched-held (Need x h) a op rest e w y m n = absurd w
  touched-held (Lost ns xs) a op rest e w y m n = lost-read base most past c b p 0 0 cl k.cache k.owed (first_id k.ids) here fresh ns xs e y m n
  touched-held (NeedIds xs) a op rest e w y m n = ids-read base most past c b p 0 0 cl k.cache k.owed (first_id k.ids) here fresh xs e y m n
  touched-held (Done o) a op rest e w y m n = done-read base most past c b p 0 0 cl k.cache k.owed (first_id k.ids) here fresh o e y m n

-- Lists.

pub each-holds : (p : Op → Bool) (xs : List Op) → Each (λ k. T (p k)) xs → T (list_all p xs)
each-holds p [] h = tt
each-holds p (x ∷ xs) h = subst (λ z. T (z && list_all p xs)) (sym (is-true (p x) h.0)) (each-holds p xs h.1)

pub none-such : (q : ℕ → Bool) (xs : List ℕ) → ((y : ℕ) → T (member y xs) → T (q y) → ⊥) → T (not (list_any q xs))
none-such q [] f = tt
none-such q (x ∷ xs) f = go (q x) refl (none-such q xs (λ y m t. f y (or-right (y == x) (member y xs) m) t))
  where
    go : (b : Bool) → q x ≡ b → T (not (list_any q xs)) → T (not (b || list_any q xs))
    go true e r = absurd (f x (or-left x xs) (subst T (sym e) tt))
    go false e r = r

pub each-passing : (p : Op → Bool) (Q : Op → Type 0) (xs : List Op) → Each (λ k. p k ≡ true → Q k) xs → Each Q (filter p xs)
each-passing p Q [] h = tt
each-passing p Q (x ∷ xs) h = go (p x) refl (each-passing p Q xs h.1)
  where
    go : (b : Bool) → p x ≡ b → Each Q (filter p xs) → Each Q (cond b (x ∷ filter p xs) (filter p xs))
    go true e r = (h.0 e, r)
    go false e r = r

each-any : (Q : Op → Type 0) (xs : List Op) → ((x : Op) → Q x) → Each Q xs
each-any Q [] f = tt
each-any Q (x ∷ xs) f = (f x, each-any Q xs f)

each-of-map : (f : Op → Op) (Q : Op → Type 0) (xs : List Op) → Each (λ k. Q (f k)) xs → Each Q (map f xs)
each-of-map f Q [] h = tt
each-of-map f Q (x ∷ xs) h = (h.0, each-of-map f Q xs h.1)

of-number : (Q : Op → Type 0) (n : ℕ) (xs : List Op) → Each Q xs → T (member n (numbers xs)) → (j : Op) × Q j × (n ≡ j.number)
of-number Q n [] h m = absurd m
of-number Q n (x ∷ xs) h m = go (n == x.number) refl m (of-number Q n xs h.1)
  where
    go : (b : Bool) → (n == x.number) ≡ b → T (b || member n (numbers xs)) → (T (member n (numbers xs)) → (j : Op) × Q j × (n ≡ j.number)) → (j : Op) × Q j × (n ≡ j.number)
    go true e t r = (x, h.0, equal n x.number e)
    go false e t r = r t

same-boot : (f h a b : ℕ) → f ≡ h → f < a → h < b → a - f ≡ b - h → a ≡ b
same-boot f h a b e x y z = omega (arith, e, x, y, z)

-- So the answer leaves alone what other open sessions may lose.
module _ (g : System) (ev : EventsAgree g) (tok : TokensAgree (view g)) (writes : Each (λ o. T (not (g.ghost.is_durable o)) → HasWrites g o) g.ghost.kept) (c b s : ℕ) (age : Age) (k : Clerk) (mk : DurableAreMarked g c k)
    (i : clerk_in g s ≡ Some k) (p : T (is_open g s)) (w : g.ghost.owner s ≡ Some (c, age)) (r : g.running c ≡ Some b) (q : g.clerks c b ≡ Some k) (uncut : IsLive g c k) (sees : Sees g k)
    (most l : ℕ) (cl : Call) (a : Answer) (op : Option ℕ) (rest : Owed) (gives : Gives most k (verdict cl k) a op rest) where
  abbrev B : Base
  B = based g (fresh_of k)

  abbrev e : ℕ × Entry
  e = entry_next g c b l cl a op

  module _ (u : ℕ) (o : ℕ × Age) (v : g.ghost.owner u ≡ Some o) (pu : T (is_open g u)) (n : (o.0 == c) ≡ false) where
    abbrev test : Op → Bool
    test = is_one_of o.0 (shown_boot g o.0 (o.1).boot) (numbers (undurable g.ghost u))

    abbrev pending : Op → Bool
    pending y = is_of (g.ghost.owner u) y && not (g.ghost.is_durable y)

    abbrev passes : Op → Bool
    passes y = not (list_any (λ z. member z (touched B (kept B g.ghost.history) e)) (operands y.update))

    not-durable : (y : Op) → g.first_boot y.clerk < y.boot → test (shown_op g y) ≡ true → T (not (g.ghost.is_durable y)) × ((y.clerk == c) ≡ false)
    not-durable y ab t =
        let parts = and_parts (of_start o.0 (shown_boot g o.0 (o.1).boot) (shown_op g y)) (member y.number (numbers (undurable g.ghost u))) t in
        let start = and_parts (o.0 == y.clerk) (shown_boot g o.0 (o.1).boot == shown_boot g y.clerk y.boot) parts.0 in
        let pc : o.0 ≡ y.clerk = equal o.0 y.clerk start.0 in
        let pb : (o.1).boot ≡ y.boot = same-boot (g.first_boot o.0) (g.first_boot y.clerk) (o.1).boot y.boot (ap g.first_boot pc) (mk.opened u o v pu) ab (equal (shown_boot g o.0 (o.1).boot) (shown_boot g y.clerk y.boot) start.1) in
        let j = of-number (λ z. pending z ≡ true) y.number (undurable g.ghost u) (each-passing pending (λ z. pending z ≡ true) g.ghost.kept (each-any (λ z. pending z ≡ true → pending z ≡ true) g.ghost.kept (λ z h. h))) (subst T (sym parts.1) tt) in
        let both = and_parts (is_of (g.ghost.owner u) j.0) (not (g.ghost.is_durable j.0)) j.1 in
        let own = and_parts (o.0 == (j.0).clerk) ((o.1).boot == (j.0).boot) (ap (λ z. is_of z j.0) (sym v) ∙ both.0) in (
          subst (λ z. T (not z)) (mk.alike j.0 y (sym (equal o.0 (j.0).clerk own.0) ∙ pc) (sym (equal (o.1).boot (j.0).boot own.1) ∙ pb) (sym j.2)) (subst T (sym both.1) tt),
          ap (λ z. z == c) (sym pc) ∙ n,
        )

    one : (y : Op) → (T (not (g.ghost.is_durable y)) → HasWrites g y) → g.first_boot y.clerk < y.boot → ((y.clerk == c) ≡ false → T (not (g.ghost.is_durable y)) → T (member (fresh_of k) (operands y.update)) → ⊥)
        → test (shown_op g y) ≡ true → T (passes y)
    one y wr ab inv t =
        let f = not-durable y ab t in
        none-such (λ z. member z (touched B (kept B g.ghost.history) e)) (operands y.update) (λ x m h. elim (cases_eq x (fresh_of k)) [
          | inl d ↦ inv f.1 f.0 (subst (λ z. T (member z (operands y.update))) d m)
          | inr d ↦ held-apart g tok s c age k i p w y (wr f.0) f.1 x m
              (touched-held B most g.ghost.history c (shown_boot g c b) (length g.ghost.shown + 1) cl k (is-at g (fresh_of k) ev c b k r q uncut sees) (fresh-here g (fresh_of k)) (verdict cl k) a op rest refl gives x h d)
        ])

    all : (ys : List Op) → Each (λ y. T (not (g.ghost.is_durable y)) → HasWrites g y) ys → Each (λ y. g.first_boot y.clerk < y.boot) ys
        → Each (λ y. (y.clerk == c) ≡ false → T (not (g.ghost.is_durable y)) → T (member (fresh_of k) (operands y.update)) → ⊥) ys → Each (λ y. test (shown_op g y) ≡ true → T (passes y)) ys
    all [] x y z = tt
    all (j ∷ js) x y z = (one j x.0 y.0 z.0, all js x.1 y.1 z.1)

    pub leaves-others : T (leaves B (kept B g.ghost.history) o.0 (filter test (kept B g.ghost.history)) e)
    leaves-others = or-right (not (is_call_of_other o.0 e.1)) _ (each-holds passes (filter test (kept B g.ghost.history)) (each-passing test (λ y. T (passes y)) (kept B g.ghost.history)
        (subst (Each (λ y. test y ≡ true → T (passes y))) (sym (kept-now g (fresh_of k) ev)) (each-of-map (shown_op g) (λ y. test y ≡ true → T (passes y)) g.ghost.kept (all g.ghost.kept writes mk.above mk.invisible)))))
