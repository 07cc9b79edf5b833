-- The server gives a session sixteen new ids.
use Rattle.std.proofs.Common.{◌≡◌, ◌≢◌, sym, ap, subst, ◌∙◌, inl, inr, ◌⊎◌, arith, ℕ, suc, zero, Bool, true, false, not, ◌||◌, cond, T, ◌≤◌, ◌<◌, ◌+◌, nat_lt, List, [], ◌∷◌, ◌++◌}
use Rattle.std.specs.Prelude.{◌==◌, Option, Some}
use Rattle.std.proofs.lemmas.Bool.{cases_eq}
use Rattle.ec_volume.specs.Image.{is_gone}
use Rattle.ec_volume.specs.Update.{member, operands, has_operand, distinct}
use Rattle.ec_volume.specs.Volume.{images}
use Rattle.ec_history.specs.History.{Each, updates}
use Rattle.ec_sessions.specs.Slots.{run, sixteen, with_ids}
use Rattle.ec_sessions.specs.declared.slot.Slot.{Slot}
use Rattle.ec_wire.specs.declared.msg.Msg.{Msg}
use Rattle.ec_wire.specs.declared.msg.Msg.TheVariants.{Flush, Room}
use Rattle.ec_durable.specs.Durable.{slot}
use Rattle.ec_durable.specs.declared.state.Durable.{Durable}
use Rattle.ec_protocol.specs.declared.clerk.Clerk.{Clerk}
use Rattle.ec_protocol.specs.declared.server.Server.{Server}
use Rattle.ec_coherence.specs.System.{System, Ghost, clerk_in, is_open, undurable}
use Rattle.ec_coherence.specs.Sessions.{SessionsAgree}
use Rattle.ec_coherence.specs.Steps.{give_ids}
use Rattle.ec_coherence.specs.Tokens.{TokensAgree, view, side, side_in}
use Rattle.ec_coherence.specs.Tokens as tokens
use Rattle.ec_coherence.specs.Log as log
use Rattle.ec_coherence.specs.Log.{Knows, LogAgrees, LogsAgree, HasWrites, IdsAgree, IsNumbered, OfOpen, InSession, made_by, next_of}
use Rattle.ec_coherence.specs.Images.{ImagesAgree}
use Rattle.ec_coherence.proofs.ForBatches.Ending.{untouched-after}
use Rattle.ec_coherence.proofs.ForBatches.Ids.{in-front, in-back, in-either}
use Rattle.ec_coherence.proofs.ForServer.Lists.{or_else, either_way, each-turn, each-both, each-more, each-at, each-member}
use Rattle.ec_coherence.proofs.ForBatches.OpenSlots.{open-at, at-open}
use Rattle.ec_coherence.proofs.ForServer.Tables.{same_some, differ}
use Rattle.ec_base.proofs.Bools.{left as and_first, not-both as no_both, and-both as and_both, or-right as or_next, right as and_next, or_first, none, is-true, holds-true as holds}
use Rattle.ec_base.proofs.Numbers.{same-self as same, equal}
use Rattle.ec_base.proofs.Options.{none_some}

-- Sixteen ids among others.

pub run-in : (x first k : ℕ) → T (member x (run first k)) → (first ≤ x) × (x < first + k)
run-in x first zero m = absurd m
run-in x first (suc k) m = elim (or_else (x == first) (member x (run (first + 1) k)) m) [
  | inl e ↦ let q = equal x first (is-true (x == first) e) in (omega arith, omega arith)
  | inr r ↦ let q = run-in x (first + 1) k r in (let y = q.0 in omega arith, let y = q.1 in omega arith)
]

pub in-run : (x first k : ℕ) → first ≤ x → x < first + k → T (member x (run first k))
in-run x first zero l h = absurd (omega arith)
in-run x first (suc k) l h = elim (cases_eq x first) [
  | inl e ↦ or_first (x == first) _ (holds (x == first) (ap (λ z. x == z) (sym e) ∙ same x))
  | inr n ↦ or_next (x == first) _ (in-run x (first + 1) k (omega arith) (omega arith))
]

pub run-distinct : (first k : ℕ) → T (distinct (run first k))
run-distinct first zero = tt
run-distinct first (suc k) = and_both (not (member first (run (first + 1) k))) (distinct (run (first + 1) k)) (none (member first (run (first + 1) k)) (λ m. let q = (run-in first (first + 1) k m).0 in absurd (omega arith))) (run-distinct (first + 1) k)

new-or-old : (x first : ℕ) (xs : List ℕ) → T (member x (with_ids first xs)) → T (member x xs) ⊎ ((first ≤ x) × (x < first + 16))
unfolding sixteen
new-or-old x first [] m = inr (run-in x first 16 m)
new-or-old x first (y ∷ ys) m = go (nat_lt y first) m (λ k. new-or-old x first ys k)
  where
    go : (b : Bool) → T (member x (cond b (y ∷ with_ids first ys) (sixteen first ++ y ∷ ys))) → (T (member x (with_ids first ys)) → T (member x ys) ⊎ ((first ≤ x) × (x < first + 16))) → T ((x == y) || member x ys) ⊎ ((first ≤ x) × (x < first + 16))
    go true m f = elim (or_else (x == y) (member x (with_ids first ys)) m) [ inl e ↦ inl (or_first (x == y) _ e) | inr r ↦ elim (f r) [ inl a ↦ inl (or_next (x == y) _ a) | inr z ↦ inr z ] ]
    go false m f = elim (in-either x (run first 16) (y ∷ ys) m) [ inl a ↦ inr (run-in x first 16 a) | inr a ↦ inl a ]

old-stays : (x first : ℕ) (xs : List ℕ) → T (member x xs) → T (member x (with_ids first xs))
unfolding sixteen
old-stays x first [] m = absurd m
old-stays x first (y ∷ ys) m = go (nat_lt y first) (λ k. old-stays x first ys k)
  where
    go : (b : Bool) → (T (member x ys) → T (member x (with_ids first ys))) → T (member x (cond b (y ∷ with_ids first ys) (sixteen first ++ y ∷ ys)))
    go true f = elim (or_else (x == y) (member x ys) m) [ inl e ↦ or_first (x == y) _ e | inr r ↦ or_next (x == y) _ (f r) ]
    go false f = in-back x (run first 16) (y ∷ ys) m

new-there : (x first : ℕ) (xs : List ℕ) → first ≤ x → x < first + 16 → T (member x (with_ids first xs))
unfolding sixteen
new-there x first [] l h = in-run x first 16 l h
new-there x first (y ∷ ys) l h = go (nat_lt y first) (new-there x first ys l h)
  where
    go : (b : Bool) → T (member x (with_ids first ys)) → T (member x (cond b (y ∷ with_ids first ys) (sixteen first ++ y ∷ ys)))
    go true f = or_next (x == y) _ f
    go false f = in-front x (run first 16) (y ∷ ys) (in-run x first 16 l h)

all-distinct : (first : ℕ) (xs : List ℕ) → Each (λ x. x < first) xs → T (distinct xs) → T (distinct (with_ids first xs))
unfolding sixteen
all-distinct first [] h d = run-distinct first 16
all-distinct first (y ∷ ys) h d = subst (λ b. T (distinct (cond b (y ∷ with_ids first ys) (sixteen first ++ y ∷ ys)))) (sym (less y first h.0))
    (and_both (not (member y (with_ids first ys))) (distinct (with_ids first ys)) (none (member y (with_ids first ys)) (λ m. elim (new-or-old y first ys m) [ inl a ↦ no_both (member y ys) a (and_first (not (member y ys)) _ d) | inr z ↦ (let l = z.0 in let k = h.0 in absurd (omega arith)) ]))
    (all-distinct first ys h.1 (and_next (not (member y ys)) (distinct ys) d)))
  where
    less : (n m : ℕ) → n < m → nat_lt n m ≡ true
    less n m l = grind arith

module _ (g : System) (sa : SessionsAgree g) (ta : TokensAgree (view g)) (lo : LogsAgree g) (im : ImagesAgree g) (c s : ℕ) (sl : Slot) (here : slot g.durable c ≡ Some sl) (of : sl.session ≡ s) (opened : T sl.is_open)
    (taken : T (g.ghost.taken s)) (current : (k : Clerk) → clerk_in g s ≡ Some k → k.got ≡ sl.grants)
    (d : Durable) (v : Option Server) (ms : List (ℕ × Msg)) (volume : d.volume ≡ (g.durable).volume) (next_id : d.next_id ≡ (g.durable).next_id + 16) (others : (j : ℕ) → j ≢ c → slot d j ≡ slot g.durable j)
    (own-slot : slot d c ≡ Some (record sl { grants = sl.grants + 1; last_first = Some ((g.durable).next_id); unspent = with_ids ((g.durable).next_id) sl.unspent })) where
  abbrev first : ℕ
  first = (g.durable).next_id

  abbrev newslot : Slot
  newslot = record sl { grants = sl.grants + 1; last_first = Some first; unspent = with_ids first sl.unspent }

  abbrev pub ghost : Ghost
  ghost = give_ids s first g.ghost

  abbrev pub h : System
  h = record g { durable = d; server = v; pool = g.pool ++ ms; ghost = ghost }

  was : (t j : ℕ) (sm : Slot) → slot d j ≡ Some sm → sm.session ≡ t → ((t ≡ s) × (sm ≡ newslot)) ⊎ ((t ≢ s) × (slot g.durable j ≡ Some sm))
  was t j sm p q = elim (cases_eq j c) [
    | inl e ↦ let z : sm ≡ newslot = same_some (sym (ap (slot d) (sym e) ∙ p) ∙ own-slot) in inl (sym q ∙ ap (λ w. w.session) z ∙ of, z)
    | inr n ↦ let p' : slot g.durable j ≡ Some sm = sym (others j n) ∙ p in
        inr (λ e. absurd (n (ap (λ w. w.0) (same_some (sym (ap g.ghost.owner (sym q) ∙ (sa.slots j sm p').2) ∙ ap g.ghost.owner e ∙ ap g.ghost.owner (sym of) ∙ (sa.slots c sl here).2)))), p')
  ]

  still-open : (t : ℕ) → T (is_open g t) → T (is_open h t)
  still-open t o = let q = open-at t (g.durable).sessions o in elim (cases_eq q.0 c) [
    | inl z ↦ at-open t d.sessions c newslot (own-slot, ap (λ m. m.session) (sym (same_some (sym (q.2).0 ∙ ap (slot g.durable) z ∙ here))) ∙ (q.2).1, opened)
    | inr n ↦ at-open t d.sessions q.0 q.1 (others q.0 n ∙ (q.2).0, (q.2).1, (q.2).2)
  ]

  was-open : (t : ℕ) → T (is_open h t) → T (is_open g t)
  was-open t o = let q = open-at t d.sessions o in elim (was t q.0 q.1 (q.2).0 (q.2).1) [
    | inl z ↦ at-open t (g.durable).sessions c sl (here, of ∙ sym z.0, opened)
    | inr z ↦ at-open t (g.durable).sessions q.0 q.1 (z.1, (q.2).1, (q.2).2)
  ]

  grants-own : ghost.grants s ≡ g.ghost.grants s + 1
  grants-own = ap (λ b. elim b as (λ z. ℕ) [ true ↦ g.ghost.grants s + 1 | false ↦ g.ghost.grants s ]) (same s)

  first-own : ghost.first s ≡ first
  first-own = ap (λ b. elim b as (λ z. ℕ) [ true ↦ first | false ↦ g.ghost.first s ]) (same s)

  grants-other : (t : ℕ) → t ≢ s → ghost.grants t ≡ g.ghost.grants t
  grants-other t n = ap (λ b. elim b as (λ z. ℕ) [ true ↦ g.ghost.grants s + 1 | false ↦ g.ghost.grants t ]) (differ t s n)

  first-other : (t : ℕ) → t ≢ s → ghost.first t ≡ g.ghost.first t
  first-other t n = ap (λ b. elim b as (λ z. ℕ) [ true ↦ first | false ↦ g.ghost.first t ]) (differ t s n)

  below : (t x : ℕ) → OfOpen g t (λ sm. T (member x sm.unspent) → x < first)
  below t x j sm p q r m = (lo.unspent t x j sm p q r m).0

  own-agrees : (k : Clerk) → clerk_in g s ≡ Some k → LogAgrees h s newslot k
  own-agrees k i = let f : LogAgrees g s sl k = lo.logs s c sl here of opened k i in
      let ids : List ℕ = k.ids ++ made_by (updates (undurable g.ghost s)) in
      record {
        knows = f.knows;
        ids = record {
          granted = ap (λ n. n + 1) f.ids.granted ∙ sym grants-own;
          last = λ l. ap Some (sym first-own);
          distinct_ids = f.ids.distinct_ids;
          free = each-turn (λ x. T (member x sl.unspent)) (λ x. T (member x (with_ids first sl.unspent))) ids (λ x m. old-stays x first sl.unspent m) f.ids.free;
          earlier = λ q. subst (λ y. Each (λ x. x < y) ids) (sym first-own) (each-turn (λ x. T (member x sl.unspent)) (λ x. x < first) ids (λ x m. below s x c sl here of opened m) f.ids.free);
          all = each-member (λ x. T (member x ids) ⊎ ((k.got + 1 ≡ ghost.grants s) × (ghost.first s ≤ x) × (x < ghost.first s + 16))) (with_ids first sl.unspent) (λ x m. elim (new-or-old x first sl.unspent m) [
            | inl a ↦ elim (each-at (λ y. T (member y ids) ⊎ ((k.got + 1 ≡ g.ghost.grants s) × (g.ghost.first s ≤ y) × (y < g.ghost.first s + 16))) x sl.unspent f.ids.all a) [
              | inl b ↦ inl b
              | inr z ↦ absurd (let y = z.0 in let w = current k i in let u = f.ids.granted in omega arith)
            ]
            | inr z ↦ inr (ap (λ n. n + 1) (current k i ∙ f.ids.granted) ∙ sym grants-own, subst (λ y. y ≤ x) (sym first-own) z.0, subst (λ y. x < y + 16) (sym first-own) z.1)
          ]);
        };
      }

  logs' : (t : ℕ) → OfOpen h t (λ sm. InSession h t (LogAgrees h t sm))
  logs' t j sm p q r m i = elim (was t j sm p q) [
    | inl z ↦ subst (λ w. LogAgrees h w sm m) (sym z.0) (subst (λ w. LogAgrees h s w m) (sym z.1) (own-agrees m (ap (clerk_in g) (sym z.0) ∙ i)))
    | inr z ↦ let f : LogAgrees g t sm m = lo.logs t j sm z.1 q r m i in
        record { knows = f.knows; ids = subst (λ y. IdsAgree m sm y (ghost.first t) (undurable g.ghost t)) (sym (grants-other t z.0)) (subst (λ y. IdsAgree m sm (g.ghost.grants t) y (undurable g.ghost t)) (sym (first-other t z.0)) f.ids) }
  ]

  fit-kept : (m : Msg) → log.Fits g m → tokens.Fits (view g) m → log.Fits h m
  fit-kept (Flush t a b os) f z = λ j sm p q r w m i. elim (was t j sm p q) [
    | inl y ↦ f c sl here (of ∙ sym y.0) opened (subst (λ x. T (not (Rattle.ec_sessions.specs.Windows.has x.window b))) y.1 w) m i
    | inr y ↦ f j sm y.1 q r w m i
  ]
  fit-kept (Room t a got ask) f z = λ j sm p q r w m i. elim (was t j sm p q) [
    | inl y ↦ absurd (let l = (z.1 (side m) (ap side_in i)).0 in let n = current m (ap (clerk_in g) (sym y.0) ∙ i) in let o = w ∙ ap (λ x. x.grants) y.1 in omega arith)
    | inr y ↦ f j sm y.1 q r w m i
  ]
  fit-kept _ f z = f

  never : (x : ℕ) → first ≤ x → T (is_gone (images (g.durable).volume x))
  never x l = elim (either_way (is_gone (images (g.durable).volume x))) [
    | inl t ↦ t
    | inr n ↦ absurd (let y = im.known x (subst (λ i. T (not (is_gone i))) (im.server x ∙ untouched-after g.ghost.is_durable x (g.origin x) g.ghost.kept
        (each-turn (λ o. Each (λ x. x < first) (operands o.update)) (λ o. T (not (g.ghost.is_durable o)) → T (not (has_operand x o.update))) g.ghost.kept (λ o e t. none (has_operand x o.update) (λ m. let y = each-at (λ y. y < first) x (operands o.update) e m in absurd (omega arith))) im.operands)) n) in omega arith)
  ]

  pub given-logs : Each (λ m. log.Fits h m.1) ms → LogsAgree h
  given-logs sent = record {
    writes = each-turn (λ o. T (not (g.ghost.is_durable o)) → HasWrites g o) (λ o. T (not (g.ghost.is_durable o)) → HasWrites h o) g.ghost.kept
        (λ o f n. let w = f n in record { session = w.session; clerk = w.clerk; in_place = w.in_place; is_open = still-open w.session w.is_open; own = w.own; writes = w.writes }) lo.writes;
    logs = logs';
    starts = λ e a. let f = lo.starts e a in record { from_one = f.from_one; sorted = f.sorted; numbers = f.numbers; none_later = f.none_later };
    closed = lo.closed;
    unopened = λ t e. grants-other t (λ q. absurd (none_some (sym e ∙ ap g.ghost.owner q ∙ ap g.ghost.owner (sym of) ∙ (sa.slots c sl here).2))) ∙ lo.unopened t e;
    untaken = λ t j sm p q r n. elim (was t j sm p q) [
      | inl z ↦ absurd (no_both (g.ghost.taken s) taken (subst (λ y. T (not (g.ghost.taken y))) z.0 n))
      | inr z ↦ let f = lo.untaken t j sm z.1 q r n in (f.0, f.1, grants-other t z.0 ∙ f.2, f.3)
    ];
    messages = each-more (λ m. log.Fits h m.1) g.pool ms (each-turn (λ m. log.Fits g m.1 × tokens.Fits (view g) m.1) (λ m. log.Fits h m.1) g.pool (λ m f. fit-kept m.1 f.0 f.1) (each-both (λ m. log.Fits g m.1) (λ m. tokens.Fits (view g) m.1) g.pool lo.messages ta.messages)) sent;
    unspent = λ t x j sm p q r m. elim (was t j sm p q) [
      | inl z ↦ elim (new-or-old x first sl.unspent (subst (λ w. T (member x w.unspent)) z.1 m)) [
        | inl a ↦ let f = lo.unspent s x c sl here of opened a in (let y = f.0 in omega (arith, next_id), subst (λ y. T (is_gone (images y x))) (sym volume) f.1)
        | inr y ↦ (let b = y.1 in omega (arith, next_id), subst (λ w. T (is_gone (images w x))) (sym volume) (never x y.0))
      ]
      | inr z ↦ let f = lo.unspent t x j sm z.1 q r m in (let y = f.0 in omega (arith, next_id), subst (λ y. T (is_gone (images y x))) (sym volume) f.1)
    ];
    once = λ t j sm p q r. elim (was t j sm p q) [
      | inl z ↦ subst (λ w. T (distinct w.unspent)) (sym z.1) (all-distinct first sl.unspent (each-member (λ x. x < first) sl.unspent (λ x m. below s x c sl here of opened m)) (lo.once s c sl here of opened))
      | inr z ↦ lo.once t j sm z.1 q r
    ];
    apart = λ t u x n j sm p q r i sn p' q' r' m. none (member x sn.unspent) (λ m'. elim (was t j sm p q) [
      | inl z ↦ elim (was u i sn p' q') [
        | inl y ↦ absurd (n (z.0 ∙ sym y.0))
        | inr y ↦ elim (new-or-old x first sl.unspent (subst (λ w. T (member x w.unspent)) z.1 m)) [
          | inl a ↦ no_both (member x sn.unspent) m' (lo.apart s u x (λ e. absurd (y.0 (sym e))) c sl here of opened i sn y.1 q' r' a)
          | inr b ↦ (let l = b.0 in let k = below u x i sn y.1 q' r' m' in absurd (omega arith))
        ]
      ]
      | inr z ↦ elim (was u i sn p' q') [
        | inl y ↦ elim (new-or-old x first sl.unspent (subst (λ w. T (member x w.unspent)) y.1 m')) [
          | inl a ↦ no_both (member x sl.unspent) a (lo.apart t s x z.0 j sm z.1 q r c sl here of opened m)
          | inr b ↦ (let l = b.0 in let k = below t x j sm z.1 q r m in absurd (omega arith))
        ]
        | inr y ↦ no_both (member x sn.unspent) m' (lo.apart t u x n j sm z.1 q r i sn y.1 q' r' m)
      ]
    ]);
    whole = λ t x j sm p q r m i a l u. elim (was t j sm p q) [
      | inl z ↦
          let e : ghost.first t ≡ first = ap ghost.first z.0 ∙ first-own in
          subst (λ w. T (member x w.unspent)) (sym z.1) (new-there x first sl.unspent (subst (λ y. y ≤ x) e l) (subst (λ y. x < y + 16) e u))
      | inr z ↦ lo.whole t x j sm z.1 q r m i a (subst (λ y. y ≤ x) (first-other t z.0) l) (subst (λ y. x < y + 16) (first-other t z.0) u)
    ];
  }

  pub given-images : ImagesAgree h
  given-images = record {
    server = λ x. ap (λ y. images y x) volume ∙ im.server x;
    fits = im.fits;
    sound = im.sound;
    origin = im.origin;
    origin_held = im.origin_held;
    licences = im.licences;
    unfrozen = λ t o. im.unfrozen t (was-open t o);
    unopened = im.unopened;
    cut_off = λ t i. elim (im.cut_off t i) [ inl o ↦ inl (still-open t o) | inr f ↦ inr f ];
    known = λ x t. (let y = im.known x t in omega (arith, next_id));
    operands = each-turn (λ o. Each (λ x. x < first) (operands o.update)) (λ o. Each (λ x. x < d.next_id) (operands o.update)) g.ghost.kept (λ o e. each-turn (λ x. x < first) (λ x. x < d.next_id) (operands o.update) (λ x l. omega (arith, next_id)) e) im.operands;
  }
