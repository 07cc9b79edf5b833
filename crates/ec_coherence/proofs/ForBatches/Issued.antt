-- A call of an open session is answered by an update: the log facts and the images go on agreeing.
use Rattle.std.proofs.Common.{◌≡◌, ◌≢◌, refl, sym, ap, subst, ◌∙◌, inl, inr, ◌⊎◌, arith, ℕ, suc, zero, Bool, true, false, not, ◌&&◌, ◌||◌, cond, T, ◌≤◌, ◌<◌, ◌+◌, List, [], ◌∷◌, ◌++◌}
use Rattle.std.specs.Prelude.{◌==◌, Option, None, Some, is_some}
use Rattle.std.specs.List.{filter}
use Rattle.std.specs.Ordering.{nat_cmp}
use Rattle.std.specs.FinMap.{is_sorted}
use Rattle.std.proofs.lemmas.Bool.{cases_eq}
use Rattle.ec_base.specs.Tables.{Table, at}
use Rattle.ec_base.specs.declared.ids.Age.{Age}
use Rattle.ec_base.specs.declared.ids.Hold.{Hold}
use Rattle.ec_base.specs.declared.ids.Hold.TheVariants.{Free, Read, Write}
use Rattle.ec_volume.specs.Image.{is_gone}
use Rattle.ec_volume.specs.Update.{member, operands, has_operand, fits, is_sound, distinct, listed}
use Rattle.ec_volume.specs.Volume.{Images, image_next, image_after, after, Fits}
use Rattle.ec_volume.specs.declared.image.Image.{Image}
use Rattle.ec_volume.specs.declared.update.Update.{Update}
use Rattle.ec_plain.specs.declared.call.Call.{Call}
use Rattle.ec_order.specs.Order.{Holds}
use Rattle.ec_history.specs.History.{Each, Op, updates, of_start}
use Rattle.ec_history.proofs.OfLaws.ForPlacing.Objects.{fits-next}
use Rattle.ec_machine_laws.proofs.Logging.{issue-log, issue-batch, sorted-more}
use Rattle.ec_machine_laws.proofs.Resting.{issue-rest, issue-tells}
use Rattle.ec_sessions.specs.declared.slot.Slot.{Slot}
use Rattle.ec_base.specs.Holds.{rank, clash, is_write}
use Rattle.ec_wire.specs.Messages.{is_held_mode}
use Rattle.ec_wire.specs.declared.msg.Msg.{Msg}
use Rattle.ec_wire.specs.declared.msg.Msg.TheVariants.{Flush, Room}
use Rattle.ec_durable.specs.Durable.{slot, made}
use Rattle.ec_cache.specs.Cache.{last}
use Rattle.ec_cache.specs.declared.state.CacheState.{CacheState}
use Rattle.ec_cache.specs.declared.state.Held.{Held}
use Rattle.ec_log.specs.Log.{issue, batch}
use Rattle.ec_protocol.specs.declared.clerk.Clerk.{Clerk}
use Rattle.ec_coherence.specs.System.{System, Ghost, Eff, clerk_in, with_start, is_open, is_of, undurable, seen, seen_ops}
use Rattle.ec_coherence.specs.Sessions.{SessionsAgree}
use Rattle.ec_coherence.specs.Tokens.{TokensAgree, view, eff, eff_hold, side, side_in, Below, IsWrite}
use Rattle.ec_coherence.specs.Log as log
use Rattle.ec_coherence.specs.Log.{Knows, LogAgrees, LogsAgree, HasWrites, IdsAgree, IsNumbered, OfOpen, InSession, mine, numbered, made_by, next_of}
use Rattle.ec_coherence.specs.Images.{ImagesAgree}
use Rattle.ec_coherence.proofs.ForBatches.ClerkIn.{owned, was-in, now-in, other-in}
use Rattle.ec_coherence.proofs.ForBatches.Ids.{in-front, in-back, in-either}
use Rattle.ec_coherence.proofs.ForServer.Lists.{or_else, either_way, filter-more, each-turn, each-more, each-at, each-member, each-always, Pairs, Needed, needed-pairs, pairs-needed, filter-yes, filter-no}
use Rattle.ec_coherence.proofs.ForBatches.OneSession.{write-eff}
use Rattle.ec_coherence.proofs.ForBatches.OpenSlots.{at-open}
use Rattle.ec_coherence.proofs.ForServer.Tables.{same_some}
use Rattle.ec_base.proofs.Bools.{left as and_first, not-both as no_both, and-both as and_both, or-right as or_next, right as and_next, or_first, no-longer as is-false, is-true, holds-true as holds}
use Rattle.ec_base.proofs.Numbers.{same-self as same, equal}
use Rattle.ec_base.proofs.Options.{none_some}
use Rattle.ec_base.proofs.Lists.{map-more}
use Rattle.ec_volume.proofs.Fitting.{image_joined as after-append}

-- One more at the end.

pub pairs-one : {A : Type 0} (R : A → A → Type 0) (xs : List A) (y : A) → Pairs R xs → Each (λ x. R x y) xs → Pairs R (xs ++ y ∷ [])
pairs-one R [] y h k = (tt, tt)
pairs-one R (x ∷ xs) y h k = (each-more (R x) xs (y ∷ []) h.0 (k.0, tt), pairs-one R xs y h.1 k.1)

pub image-one : (x : ℕ) (i : Image) (us : List Update) (u : Update) → image_after x i (us ++ u ∷ []) ≡ image_next x (image_after x i us) u
image-one x i us u = after-append x i us (u ∷ [])

-- Ids go from the clerk's to those of its Makes.

pub more-makes : (us : List Update) (u : Update) → made_by (us ++ u ∷ []) ≡ made_by us ++ listed (made u)
more-makes [] u = none (listed (made u))
  where
    none : (xs : List ℕ) → xs ++ [] ≡ xs
    none [] = refl
    none (x ∷ xs) = ap (λ ys. x ∷ ys) (none xs)
more-makes (v ∷ us) u = ap (λ xs. listed (made v) ++ xs) (more-makes us u) ∙ assoc (listed (made v)) (made_by us) (listed (made u))
  where
    assoc : (xs ys zs : List ℕ) → xs ++ (ys ++ zs) ≡ (xs ++ ys) ++ zs
    assoc [] ys zs = refl
    assoc (x ∷ xs) ys zs = ap (λ ws. x ∷ ws) (assoc xs ys zs)

-- the first of a list goes to its end
turned-distinct : (x : ℕ) (xs : List ℕ) → T (distinct (x ∷ xs)) → T (distinct (xs ++ x ∷ []))
turned-distinct x [] d = tt
turned-distinct x (y ∷ ys) d =
    let nx = and_first (not ((x == y) || member x ys)) _ d in
    let dy = and_next (not ((x == y) || member x ys)) (distinct (y ∷ ys)) d in
    and_both (not (member y (ys ++ x ∷ []))) (distinct (ys ++ x ∷ []))
    (none (member y (ys ++ x ∷ [])) (λ m. elim (in-either y ys (x ∷ []) m) [
      | inl a ↦ no_both (member y ys) a (and_first (not (member y ys)) _ dy)
      | inr a ↦ no_both ((x == y) || member x ys) (or_first (x == y) (member x ys) (turn x y (one y x a))) nx
    ]))
    (turned-distinct x ys (and_both (not (member x ys)) (distinct ys) (none (member x ys) (λ m. no_both ((x == y) || member x ys) (or_next (x == y) (member x ys) m) nx)) (and_next (not (member y ys)) (distinct ys) dy)))
  where
    none : (b : Bool) → (T b → ⊥) → T (not b)
    none true f = f tt
    none false f = tt

    one : (a b : ℕ) → T ((a == b) || false) → T (a == b)
    one a b t = elim (or_else (a == b) false t) [ inl p ↦ p | inr p ↦ absurd p ]

    turn : (a b : ℕ) → T (b == a) → T (a == b)
    turn a b t = holds (a == b) (swap a b (is-true (b == a) t))
      where
        swap : (a b : ℕ) → (b == a) ≡ true → (a == b) ≡ true
        swap a b e = grind arith

append-none : (xs : List ℕ) → xs ++ [] ≡ xs
append-none [] = refl
append-none (x ∷ xs) = ap (λ ys. x ∷ ys) (append-none xs)

append-two : (xs ys zs : List ℕ) → (xs ++ ys) ++ zs ≡ xs ++ (ys ++ zs)
append-two [] ys zs = refl
append-two (x ∷ xs) ys zs = ap (λ ws. x ∷ ws) (append-two xs ys zs)

ids-distinct : (o : Option ℕ) (rest ms : List ℕ) → T (distinct ((listed o ++ rest) ++ ms)) → T (distinct (rest ++ (ms ++ listed o)))
ids-distinct None rest ms d = subst (λ xs. T (distinct (rest ++ xs))) (sym (append-none ms)) d
ids-distinct (Some x) rest ms d = subst (λ xs. T (distinct xs)) (append-two rest ms (x ∷ [])) (turned-distinct x (rest ++ ms) d)

ids-in : (o : Option ℕ) (rest ms : List ℕ) (y : ℕ) → T (member y (rest ++ (ms ++ listed o))) → T (member y ((listed o ++ rest) ++ ms))
ids-in o rest ms y m = elim (in-either y rest (ms ++ listed o) m) [
  | inl a ↦ in-front y (listed o ++ rest) ms (in-back y (listed o) rest a)
  | inr b ↦ elim (in-either y ms (listed o) b) [ inl a ↦ in-back y (listed o ++ rest) ms a | inr a ↦ in-front y (listed o ++ rest) ms (in-front y (listed o) rest a) ]
]

in-ids : (o : Option ℕ) (rest ms : List ℕ) (y : ℕ) → T (member y ((listed o ++ rest) ++ ms)) → T (member y (rest ++ (ms ++ listed o)))
in-ids o rest ms y m = elim (in-either y (listed o ++ rest) ms m) [
  | inl a ↦ elim (in-either y (listed o) rest a) [ inl b ↦ in-back y rest (ms ++ listed o) (in-back y ms (listed o) b) | inr b ↦ in-front y rest (ms ++ listed o) b ]
  | inr a ↦ in-back y rest (ms ++ listed o) (in-front y ms (listed o) a)
]

back-none : (xs ys : List ℕ) → xs ++ ys ≡ [] → ys ≡ []
back-none [] ys e = e
back-none (x ∷ xs) ys e = absurd (cc)

-- The step.
module _ (g : System) (sa : SessionsAgree g) (ta : TokensAgree (view g)) (lo : LogsAgree g) (im : ImagesAgree g) (c s : ℕ) (age : Age) (k : Clerk)
    (is-owner : g.ghost.owner s ≡ Some (c, age)) (at-start : g.clerks c age.boot ≡ Some k) (sk : k.session ≡ Some s) (sl : Slot) (here : slot g.durable c ≡ Some sl) (of : sl.session ≡ s) (opened : T sl.is_open)
    -- the update, the cache behind it, and the ids that are left
    (u : Update) (ch : CacheState) (ids : List ℕ) (place : ℕ) (calls : Table (Table (ℕ × Call))) (sound : T (is_sound u))
    (held : (x : ℕ) → T (has_operand x u) → (o : Held) × (at x k.cache.held ≡ Some o) × T (is_write o.hold) × T (fits u x o.image))
    (changed : (x : ℕ) (o : Held) → at x ch.held ≡ Some o → (p : Held) × (at x k.cache.held ≡ Some p) × (o.image ≡ image_next x p.image u))
    (writes-stay : (x : ℕ) → IsWrite (at x k.cache.held) → IsWrite (at x ch.held))
    (ids-are : k.ids ≡ listed (made u) ++ ids) where
  abbrev pub op : Op
  op = record { clerk = c; boot = age.boot; number = k.log.next; place = place; update = u }

  abbrev pub new : Clerk
  new = record k { log = issue u k.log; cache = ch; ids = ids }

  abbrev pub ghost : Ghost
  ghost = record (g.ghost) { kept = g.ghost.kept ++ op ∷ [] }

  abbrev pub h : System
  h = record g { clerks = with_start c age.boot new g.clerks; calls = calls; ghost = ghost }

  abbrev ks : List Op
  ks = g.ghost.kept

  abbrev dur : Op → Bool
  dur = g.ghost.is_durable

  abbrev own : Op → Bool
  own = is_of (g.ghost.owner s)

  in-g : clerk_in g s ≡ Some k
  in-g = was-in g.ghost.owner g.clerks c s age k new is-owner at-start sk sk

  in-h : clerk_in h s ≡ Some new
  in-h = now-in g.ghost.owner g.clerks c s age k new is-owner at-start sk sk

  in-other : (t : ℕ) → t ≢ s → clerk_in h t ≡ clerk_in g t
  in-other t d = other-in g.ghost.owner g.clerks c s age k new is-owner at-start sk sk t d

  numbers-of : IsNumbered g.ghost c age.boot k.log.next
  numbers-of = subst (λ z. IsNumbered g.ghost c age.boot (next_of z)) at-start (lo.starts c age.boot)

  of-start : of_start c age.boot op ≡ true
  of-start = is-true (of_start c age.boot op) (and_both (c == c) (age.boot == age.boot) (holds (c == c) (same c)) (holds (age.boot == age.boot) (same age.boot)))

  own-op : own op ≡ true
  own-op = ap (λ z. is_of z op) is-owner ∙ of-start

  new-op : dur op ≡ false
  new-op = numbers-of.none_later op (holds (of_start c age.boot op) of-start) (omega arith)

  session-open : T (is_open g s)
  session-open = at-open s (g.durable).sessions c sl (here, of, opened)

  updates-are : updates (ks ++ op ∷ []) ≡ updates ks ++ u ∷ []
  updates-are = map-more (λ o. o.update) ks (op ∷ [])

  part-yes : (q : Op → Bool) → q op ≡ true → filter q (ks ++ op ∷ []) ≡ filter q ks ++ op ∷ []
  part-yes q e = filter-more q ks (op ∷ []) ∙ ap (λ z. filter q ks ++ z) (filter-yes q op [] e)

  part-no : (q : Op → Bool) → q op ≡ false → filter q (ks ++ op ∷ []) ≡ filter q ks
  part-no q e = filter-more q ks (op ∷ []) ∙ ap (λ z. filter q ks ++ z) (filter-no q op [] e) ∙ none (filter q ks)
    where
      none : (xs : List Op) → xs ++ [] ≡ xs
      none [] = refl
      none (x ∷ xs) = ap (λ ys. x ∷ ys) (none xs)

  -- its Write tokens stay

  writes-old : (o : Op) → HasWrites g o → HasWrites h o
  writes-old o w = elim (cases_eq w.session s) [
    | inl e ↦ record {
      session = w.session;
      clerk = new;
      in_place = ap (clerk_in h) e ∙ in-h;
      is_open = w.is_open;
      own = w.own;
      writes = each-turn (λ x. IsWrite (at x k.cache.held)) (λ x. IsWrite (at x ch.held)) (operands o.update) writes-stay (subst (λ m. Each (λ x. IsWrite (at x (m.cache).held)) (operands o.update)) (same_some (sym w.in_place ∙ ap (clerk_in g) e ∙ in-g)) w.writes);
    }
    | inr d ↦ record { session = w.session; clerk = w.clerk; in_place = in-other w.session d ∙ w.in_place; is_open = w.is_open; own = w.own; writes = w.writes }
  ]

  held-write : (x : ℕ) → T (has_operand x u) → IsWrite (at x k.cache.held)
  held-write x m = let f = held x m in subst IsWrite (sym f.1) f.2

  writes' : Each (λ o. T (not (dur o)) → HasWrites h o) (ks ++ op ∷ [])
  writes' = each-more (λ o. T (not (dur o)) → HasWrites h o) ks (op ∷ []) (each-turn (λ o. T (not (dur o)) → HasWrites g o) (λ o. T (not (dur o)) → HasWrites h o) ks (λ o f n. writes-old o (f n)) lo.writes)
      (λ n. record { session = s; clerk = new; in_place = in-h; is_open = session-open; own = holds (own op) own-op; writes = each-member (λ x. IsWrite (at x ch.held)) (operands u) (λ x m. writes-stay x (held-write x m)) }, tt)

  -- The session.

  abbrev old : LogAgrees g s sl k
  old = lo.logs s c sl here of opened k in-g

  held-below : (q : Op → Bool) → ((o : Op) → T (q o) → T (of_start c age.boot o)) → (n : ℕ) (x : Update) → Holds (numbered (filter q ks)) n x → n < k.log.next
  held-below q f n x = go ks numbers-of.numbers n x
    where
      go : (os : List Op) → Each (λ o. T (of_start c age.boot o) → (suc zero ≤ o.number) × (o.number < k.log.next)) os → (n : ℕ) (x : Update) → Holds (numbered (filter q os)) n x → n < k.log.next
      go [] e n x h = absurd h
      go (o ∷ os) e n x h = inner (q o) (λ t. (e.0 (f o t)).1) h (λ y. go os e.1 n x y)
        where
          inner : (b : Bool) → (T b → o.number < k.log.next) → Holds (numbered (cond b (o ∷ filter q os) (filter q os))) n x → (Holds (numbered (filter q os)) n x → n < k.log.next) → n < k.log.next
          inner true l h r = elim h [ inl e ↦ subst (λ z. z < k.log.next) e.0 (l tt) | inr y ↦ r y ]
          inner false l h r = r h

  own-of : (o : Op) → T (own o) → T (of_start c age.boot o)
  own-of o t = subst (λ z. T (is_of z o)) is-owner t

  knows' : Knows (issue u k.log) sl.window (mine ghost s) dur
  knows' =
      let kn = old.knows in
      let fresh : kn.durable k.log.next ≡ false = kn.later k.log.next (omega arith) in
      subst (λ os. Knows (issue u k.log) sl.window os dur) (sym (part-yes own own-op)) (record {
        known = kn.known;
        durable = kn.durable;
        agrees = each-more (λ o. dur o ≡ kn.durable o.number) (filter own ks) (op ∷ []) kn.agrees (new-op ∙ sym fresh, tt);
        sure = kn.sure;
        rest = subst (λ z. Rattle.ec_machine_laws.specs.Picks.IsRest z kn.known (issue u k.log)) (sym (map-more (λ o. (o.number, o.update)) (filter own ks) (op ∷ [])))
            (issue-rest (numbered (filter own ks)) kn.known k.log kn.rest u (held-below own own-of) (no (kn.known k.log.next) (kn.durable k.log.next) (kn.sure k.log.next) fresh));
        tells = issue-tells sl.window k.log kn.durable kn.tells u fresh;
        log = issue-log k.log kn.log u;
        window = record { answered = kn.window.answered; sent = kn.window.sent };
        later = λ n l. kn.later n (omega arith);
        marks = kn.marks;
        limit = kn.limit;
      })
    where
      no : (a b : Bool) → (T a → T b) → b ≡ false → a ≡ false
      no true b f e = absurd (subst T e (f tt))
      no false b f e = refl

  abbrev still : List Op
  still = undurable g.ghost s

  still-is : made_by (updates (undurable ghost s)) ≡ made_by (updates still) ++ listed (made u)
  still-is = ap (λ os. made_by (updates os)) (part-yes (λ o. own o && not (dur o)) (ap (λ b. b && not (dur op)) own-op ∙ ap not new-op)) ∙ ap made_by (map-more (λ o. o.update) still (op ∷ [])) ∙ more-makes (updates still) u

  ids' : IdsAgree new sl (g.ghost.grants s) (g.ghost.first s) (undurable ghost s)
  ids' = record {
    granted = old.ids.granted;
    last = old.ids.last;
    distinct_ids = subst (λ z. T (distinct (ids ++ z))) (sym still-is) (ids-distinct (made u) ids (made_by (updates still)) (subst (λ z. T (distinct (z ++ made_by (updates still)))) ids-are old.ids.distinct_ids));
    free = subst (λ z. Each (λ x. T (member x sl.unspent)) (ids ++ z)) (sym still-is) (each-member (λ x. T (member x sl.unspent)) (ids ++ (made_by (updates still) ++ listed (made u))) (λ x m.
        each-at (λ y. T (member y sl.unspent)) x ((listed (made u) ++ ids) ++ made_by (updates still)) (subst (λ z. Each (λ x. T (member x sl.unspent)) (z ++ made_by (updates still))) ids-are old.ids.free) (ids-in (made u) ids (made_by (updates still)) x m)));
    earlier = λ q. subst (λ z. Each (λ x. x < g.ghost.first s) (ids ++ z)) (sym still-is) (each-member (λ x. x < g.ghost.first s) (ids ++ (made_by (updates still) ++ listed (made u))) (λ x m.
        each-at (λ y. y < g.ghost.first s) x ((listed (made u) ++ ids) ++ made_by (updates still)) (subst (λ z. Each (λ x. x < g.ghost.first s) (z ++ made_by (updates still))) ids-are (old.ids.earlier q)) (ids-in (made u) ids (made_by (updates still)) x m)));
    all = subst (λ z. Each (λ x. T (member x (ids ++ z)) ⊎ ((k.got + 1 ≡ g.ghost.grants s) × (g.ghost.first s ≤ x) × (x < g.ghost.first s + 16))) sl.unspent) (sym still-is)
        (each-turn (λ x. T (member x (k.ids ++ made_by (updates still))) ⊎ ((k.got + 1 ≡ g.ghost.grants s) × (g.ghost.first s ≤ x) × (x < g.ghost.first s + 16)))
        (λ x. T (member x (ids ++ (made_by (updates still) ++ listed (made u)))) ⊎ ((k.got + 1 ≡ g.ghost.grants s) × (g.ghost.first s ≤ x) × (x < g.ghost.first s + 16))) sl.unspent
        (λ x m. elim m [ inl a ↦ inl (in-ids (made u) ids (made_by (updates still)) x (subst (λ z. T (member x (z ++ made_by (updates still)))) ids-are a)) | inr z ↦ inr z ]) old.ids.all);
  }

  -- The other open sessions are of other clerks.

  other-of : (t j : ℕ) (sm : Slot) → t ≢ s → slot g.durable j ≡ Some sm → sm.session ≡ t → is_of (g.ghost.owner t) op ≡ false
  other-of t j sm d p q = go (is_of (g.ghost.owner t) op) refl
    where
      go : (b : Bool) → is_of (g.ghost.owner t) op ≡ b → b ≡ false
      go false e = refl
      go true e =
          let his : T (of_start j (sm.age).boot op) = subst (λ z. T (is_of z op)) (ap g.ghost.owner (sym q) ∙ (sa.slots j sm p).2) (holds _ e) in
          let jc : j ≡ c = equal j c (is-true (j == c) (and_first (j == c) _ his)) in
          absurd (d (sym q ∙ ap (λ z. z.session) (same_some (sym p ∙ ap (slot g.durable) jc ∙ here)) ∙ of))

  logs' : (t : ℕ) → OfOpen h t (λ sm. InSession h t (LogAgrees h t sm))
  logs' t j sm p q r m i = elim (cases_eq t s) [
    | inl e ↦ subst (λ w. LogAgrees h t sm w) (same_some (sym in-h ∙ ap (clerk_in h) (sym e) ∙ i)) (subst (λ w. LogAgrees h w sm new) (sym e) (own-agrees j sm p (q ∙ e)))
    | inr d ↦ let f : LogAgrees g t sm m = lo.logs t j sm p q r m (sym (in-other t d) ∙ i) in
        record {
          knows = subst (λ os. Knows m.log sm.window os dur) (sym (part-no (is_of (g.ghost.owner t)) (other-of t j sm d p q))) f.knows;
          ids = subst (IdsAgree m sm (g.ghost.grants t) (g.ghost.first t)) (sym (part-no (λ o. is_of (g.ghost.owner t) o && not (dur o)) (ap (λ b. b && not (dur op)) (other-of t j sm d p q)))) f.ids;
        }
  ]
    where
      own-agrees : (j : ℕ) (sm : Slot) → slot g.durable j ≡ Some sm → sm.session ≡ s → LogAgrees h s sm new
      own-agrees j sm p q =
          let jc : j ≡ c = let e : Some (j, sm.age) ≡ Some (c, age) = sym (ap g.ghost.owner (sym q) ∙ (sa.slots j sm p).2) ∙ is-owner in ap (λ w. w.0) (same_some e) in
          subst (λ w. LogAgrees h s w new) (same_some (sym here ∙ ap (slot g.durable) (sym jc) ∙ p)) (record { knows = knows'; ids = ids' })

  starts' : (d a : ℕ) → IsNumbered ghost d a (next_of (h.clerks d a))
  starts' d a = go ((d == c) && (a == age.boot)) refl
    where
      mine' : IsNumbered ghost c age.boot (k.log.next + 1)
      mine' = record {
        from_one = omega arith;
        sorted = subst (λ os. T (is_sorted nat_cmp (numbered os))) (sym (part-yes (of_start c age.boot) of-start)) (subst (λ z. T (is_sorted nat_cmp z)) (sym (map-more (λ o. (o.number, o.update)) (filter (of_start c age.boot) ks) (op ∷ [])))
            (sorted-more (numbered (filter (of_start c age.boot) ks)) (k.log.next, u) numbers-of.sorted (held-below (of_start c age.boot) (λ o t. t))));
        numbers = each-more (λ o. T (of_start c age.boot o) → (suc zero ≤ o.number) × (o.number < k.log.next + 1)) ks (op ∷ [])
            (each-turn (λ o. T (of_start c age.boot o) → (suc zero ≤ o.number) × (o.number < k.log.next)) (λ o. T (of_start c age.boot o) → (suc zero ≤ o.number) × (o.number < k.log.next + 1)) ks (λ o f t. let q = f t in (q.0, (let z = q.1 in omega arith))) numbers-of.numbers)
            (λ t. (numbers-of.from_one, omega arith), tt);
        none_later = λ o t l. numbers-of.none_later o t (omega arith);
      }

      go : (b : Bool) → ((d == c) && (a == age.boot)) ≡ b → IsNumbered ghost d a (next_of (elim b as (λ z. Option Clerk) [ true ↦ Some new | false ↦ g.clerks d a ]))
      go true e =
          let ec : d ≡ c = equal d c (is-true (d == c) (and_first (d == c) _ (holds _ e))) in
          let eb : a ≡ age.boot = equal a age.boot (is-true (a == age.boot) (and_next (d == c) _ (holds _ e))) in
          subst (λ z. IsNumbered ghost z a (k.log.next + 1)) (sym ec) (subst (λ z. IsNumbered ghost c z (k.log.next + 1)) (sym eb) mine')
      go false e =
          let f = lo.starts d a in
          record {
            from_one = f.from_one;
            sorted = subst (λ os. T (is_sorted nat_cmp (numbered os))) (sym (part-no (of_start d a) e)) f.sorted;
            numbers = each-more (λ o. T (of_start d a o) → (suc zero ≤ o.number) × (o.number < next_of (g.clerks d a))) ks (op ∷ []) f.numbers (λ t. absurd (subst T e t), tt);
            none_later = f.none_later;
          }

  fit-kept : (m : Msg) → log.Fits g m → log.Fits h m
  fit-kept (Flush t a b os) f = λ j sm p q r w m i. elim (cases_eq t s) [
    | inl e ↦
        let z = f j sm p q r w k (ap (clerk_in g) e ∙ in-g) in
        let y = some-at (at b k.log.batches) z.1 in
        let kn : LogAgrees g s sm k = lo.logs s j sm p (q ∙ e) r k in-g in
        subst (λ w. (os ≡ batch b w.log) × T (is_some (at b (w.log).batches))) (same_some (sym in-h ∙ ap (clerk_in h) (sym e) ∙ i)) (z.0 ∙ sym (issue-batch k.log kn.knows.log u b y.0 y.1), z.1)
    | inr d ↦ f j sm p q r w m (sym (in-other t d) ∙ i)
  ]
    where
      some-at : {A : Type 0} (o : Option A) → T (is_some o) → (x : A) × (o ≡ Some x)
      some-at None t = absurd t
      some-at (Some x) t = (x, refl)
  fit-kept (Room t a got ask) f = λ j sm p q r w m i. elim (cases_eq t s) [
    | inl e ↦ subst (λ w. w.ids ≡ []) (same_some (sym in-h ∙ ap (clerk_in h) (sym e) ∙ i)) (back-none (listed (made u)) ids (sym ids-are ∙ f j sm p q r w k (ap (clerk_in g) e ∙ in-g)))
    | inr d ↦ f j sm p q r w m (sym (in-other t d) ∙ i)
  ]
  fit-kept _ f = f

  whole' : (t x : ℕ) → OfOpen h t (λ sm. InSession h t (λ m. m.got + 1 ≡ sm.grants → g.ghost.first t ≤ x → x < g.ghost.first t + 16 → T (member x sm.unspent)))
  whole' t x j sm p q r m i a = elim (cases_eq t s) [
    | inl e ↦ lo.whole t x j sm p q r k (ap (clerk_in g) e ∙ in-g) (ap (λ w. w.got + 1) (same_some (sym in-h ∙ ap (clerk_in h) (sym e) ∙ i)) ∙ a)
    | inr d ↦ lo.whole t x j sm p q r m (sym (in-other t d) ∙ i) a
  ]

  pub issue-logs : LogsAgree h
  issue-logs = record {
    writes = writes';
    logs = logs';
    starts = starts';
    closed = pairs-needed (λ o. o.update) dur (ks ++ op ∷ []) (pairs-one (Needed (λ o. o.update) dur) ks op (needed-pairs (λ o. o.update) dur ks lo.closed) (each-always (λ x. Needed (λ o. o.update) dur x op) ks (λ x t n. absurd (subst T new-op t))));
    untaken = lo.untaken;
    unopened = lo.unopened;
    messages = each-turn (λ m. log.Fits g m.1) (λ m. log.Fits h m.1) g.pool (λ m f. fit-kept m.1 f) lo.messages;
    unspent = lo.unspent;
    once = lo.once;
    apart = lo.apart;
    whole = whole';
  }

  -- Images.

  abbrev kept-volume : Images
  kept-volume = after g.origin (updates ks)

  seen-own : (x : ℕ) → seen g s x ≡ kept-volume x
  seen-own x = ap (λ z. after g.origin (updates (seen_ops z ks)) x) (im.unfrozen s session-open)

  image-is : (x : ℕ) (o : Held) → at x k.cache.held ≡ Some o → o.image ≡ kept-volume x
  image-is x o p = im.licences s x k in-g o p ∙ seen-own x

  next-is : (x : ℕ) → after g.origin (updates (ks ++ op ∷ [])) x ≡ image_next x (kept-volume x) u
  next-is x = ap (λ us. after g.origin us x) updates-are ∙ image-one x (g.origin x) (updates ks) u

  fits-now : (x : ℕ) → T (not (has_operand x u) || fits u x (kept-volume x))
  fits-now x = elim (either_way (has_operand x u)) [
    | inl m ↦ let f = held x m in or_next (not (has_operand x u)) _ (subst (λ z. T (fits u x z)) (image-is x f.0 f.1) f.3)
    | inr n ↦ or_first (not (has_operand x u)) _ n
  ]

  given : (x : ℕ) → T (has_operand x u) → x < g.durable.next_id
  given x m = go (eff (view g) s x) refl (write-eff g ta s x k in-g (held-write x m))
    where
      go : (o : Option Eff) → eff (view g) s x ≡ o → 2 ≤ rank (eff_hold o) → x < g.durable.next_id
      go None e l = absurd (omega arith)
      go (Some f) e l = (ta.known s x f e).0

  -- what another open session holds isn't an operand
  beside : (t x : ℕ) (m : Clerk) (o : Held) → t ≢ s → T (is_open g t) → clerk_in g t ≡ Some m → at x (m.cache).held ≡ Some o → T (not (has_operand x u))
  beside t x m o d to i p = elim (either_way (has_operand x u)) [
    | inr n ↦ n
    | inl y ↦ absurd (clashes o.hold (eff_hold (eff (view g) s x)) (eff_hold (eff (view g) t x)) (ta.holds t x (side m) (ap side_in i) o p) (reach (at x (m.cache).held) (eff (view g) t x) p (ta.below t x (side m) (ap side_in i)))
        (write-eff g ta s x k in-g (held-write x y)) (ta.exclusive s t x (λ e. absurd (d (sym e))) session-open to))
  ]
    where
      reach : (z : Option Held) (f : Option Eff) → z ≡ Some o → Below (m.epoch) (last x m.cache) z f → rank o.hold ≤ rank (eff_hold f)
      reach None f e b = absurd (none_some e)
      reach (Some z) None e b = absurd b
      reach (Some z) (Some f) e b = subst (λ w. rank w.hold ≤ rank f.hold) (same_some e) b.0

      clashes : (a e f : Hold) → T (is_held_mode a) → rank a ≤ rank f → 2 ≤ rank e → T (not (clash e f)) → ⊥
      clashes Free e f t l w n = absurd t
      clashes a Free f t l w n = absurd (omega arith)
      clashes a Read f t l w n = absurd (omega arith)
      clashes Read Write Free t l w n = absurd (omega arith)
      clashes Write Write Free t l w n = absurd (omega arith)
      clashes a Write Read t l w n = n
      clashes a Write Write t l w n = n

  seen-other : (t x : ℕ) (m : Clerk) (o : Held) → t ≢ s → clerk_in g t ≡ Some m → at x (m.cache).held ≡ Some o → seen g t x ≡ seen h t x
  seen-other t x m o d i p = go (g.ghost.frozen t) refl (im.cut_off t (owned t (g.ghost.owner t) g.clerks m i))
    where
      go : (z : Option (List Op)) → g.ghost.frozen t ≡ z → T (is_open g t) ⊎ T (is_some (g.ghost.frozen t)) → after g.origin (updates (seen_ops z ks)) x ≡ after g.origin (updates (seen_ops z (ks ++ op ∷ []))) x
      go (Some z) e f = refl
      go None e (inr f) = absurd (subst (λ w. T (is_some w)) e f)
      go None e (inl f) = sym (next-is x ∙ ap (λ b. cond b (Rattle.ec_volume.specs.Update.effect u x (kept-volume x)) (kept-volume x)) (is-false (has_operand x u) (beside t x m o d f i p)))

  seen-frozen : (t x : ℕ) (m : Clerk) (o : Held) → t ≢ s → clerk_in g t ≡ Some m → at x (m.cache).held ≡ Some o → o.image ≡ seen h t x
  seen-frozen t x m o d i p = im.licences t x m i o p ∙ seen-other t x m o d i p

  pub issue-images : ImagesAgree h
  issue-images = record {
    server = λ x. im.server x ∙ ap (λ os. after g.origin (updates os) x) (sym (part-no dur new-op));
    fits = subst (Fits g.origin) (sym updates-are) (fits-next g.origin (updates ks) u im.fits fits-now);
    sound = each-more (λ o. T (is_sound o.update)) ks (op ∷ []) im.sound (sound, tt);
    origin = im.origin;
    origin_held = im.origin_held;
    licences = λ t x m i o p. elim (cases_eq t s) [
      | inl e ↦
          let em : new ≡ m = same_some (sym in-h ∙ ap (clerk_in h) (sym e) ∙ i) in
          let q = changed x o (ap (λ w. at x (w.cache).held) em ∙ p) in
          q.2 ∙ ap (λ z. image_next x z u) (image-is x q.0 q.1) ∙ sym (next-is x)
          ∙ sym (ap (λ w. after g.origin (updates (seen_ops (g.ghost.frozen w) (ks ++ op ∷ []))) x) e ∙ ap (λ z. after g.origin (updates (seen_ops z (ks ++ op ∷ []))) x) (im.unfrozen s session-open))
      | inr d ↦ seen-frozen t x m o d (sym (in-other t d) ∙ i) p
    ];
    unfrozen = im.unfrozen;
    unopened = im.unopened;
    cut_off = im.cut_off;
    known = λ x t. elim (either_way (has_operand x u)) [
      | inl m ↦ given x m
      | inr n ↦ im.known x (subst (λ z. T (not (is_gone z))) (next-is x ∙ ap (λ b. cond b (Rattle.ec_volume.specs.Update.effect u x (kept-volume x)) (kept-volume x)) (is-false (has_operand x u) n)) t)
    ];
    operands = each-more (λ o. Each (λ x. x < g.durable.next_id) (operands o.update)) ks (op ∷ []) im.operands (each-member (λ x. x < g.durable.next_id) (operands u) given, tt);
  }
