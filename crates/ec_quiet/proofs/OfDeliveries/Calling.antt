-- The step of a clerk whose token is recalled, where nothing else is to be done.
use Rattle.std.proofs.Common.{◌≡◌, refl, sym, ap, ◌∙◌, subst, arith, ◌≤◌, ◌+◌, ℕ, T, Bool, true, false, not, ◌||◌, List, [], ◌∷◌, inl, inr, length}
use Rattle.std.specs.Prelude.{Option, None, Some, ◌==◌, is_none, is_some}
use Rattle.std.proofs.lemmas.Bool.{eq-eqb}
use Rattle.ec_base.specs.Tables.{at, or_else}
use Rattle.ec_base.specs.Holds.{clash, is_write, weaker}
use Rattle.ec_base.specs.declared.ids.Hold.{Hold}
use Rattle.ec_base.specs.declared.ids.Hold.TheVariants.{Free, Read, Write}
use Rattle.ec_volume.specs.Update.{member}
use Rattle.ec_history.specs.History.{Each}
use Rattle.ec_sessions.specs.declared.slot.Slot.{Slot}
use Rattle.ec_sessions.specs.OfTokens.Tokens.{Holder, token}
use Rattle.ec_sessions.specs.declared.tokens.token.Token.{Token}
use Rattle.ec_sessions.specs.OfRecall.Due.{recall_to}
use Rattle.ec_wire.specs.declared.msg.Msg.TheVariants.{Back, Flush}
use Rattle.ec_cache.specs.Cache as cache
use Rattle.ec_cache.specs.Cache.{last, mode}
use Rattle.ec_cache.specs.declared.state.Held.{Held}
use Rattle.ec_log.specs.Log as log
use Rattle.ec_log.specs.declared.state.Asked.TheVariants.{Object}
use Rattle.ec_log.specs.declared.state.LogState.{LogState}
use Rattle.ec_log.specs.declared.state.Pick.TheVariants.{Batch}
use Rattle.ec_protocol.specs.Clerk.{Doing, ask_for, doing, evict, give_back, is_ready, keep_recall, left_of, lower_held, send, settle, with_cache}
use Rattle.ec_protocol.specs.declared.clerk.Clerk.{Clerk}
use Rattle.ec_protocol.specs.declared.clerk.Out.TheVariants as out
use Rattle.ec_protocol.specs.declared.clerk.Recalled.{Recalled}
use Rattle.ec_protocol.specs.declared.server.Server.{Server}
use Rattle.ec_quiet.specs.Facts.{WantIsAnswered, IsIdleBut, IsIn, Lacks, SameBut, is_last, token_of}
use Rattle.ec_quiet.specs.Measure.{unsent}
use Rattle.ec_quiet.specs.Phases.{lowered_to}
use Rattle.ec_quiet.specs.Tries.{recall_tried, without_recalls}
use Rattle.ec_quiet.proofs.Batches.{full-or-last, goes-out}
use Rattle.ec_quiet.proofs.Steps.{few-stay, recall-alone}
use Rattle.ec_quiet.proofs.Taking.{each-map}
use Rattle.ec_quiet.proofs.Tried.{asks-for, numbers, picks}
use Rattle.ec_quiet.proofs.OfDeliveries.Lowering as lowering

-- a token that's recorded is held so
pub held-so : (o : Option Held) (t : Token) → Some t ≡ token_of o → (g : Held) × (o ≡ Some g) × (g.hold ≡ t.hold) × (g.number ≡ t.number)
held-so None t e = absurd (grind (arith, e))
held-so (Some g) t e = let same : t ≡ record { hold = g.hold; number = g.number } = (cc) in (g, refl, sym (ap (λ z. z.hold) same), sym (ap (λ z. z.number) same))

-- The token of the holder r on x is recalled for a want, and no batch is under way.
pub record IsCalled (v : Server) (c : ℕ) (sl : Slot) (m : Clerk) (r : Holder) (x : ℕ) (h : Hold) : Type 0 where
  pub inside : IsIn v c sl m
  pub own : sl.session ≡ r.0
  pub waiting : m.waiting ≡ []
  pub pushes : m.pushes ≡ []
  pub asking : m.asking ≡ None
  pub recalls : m.recalls ≡ record { obj = x; number = r.2; to = recall_to h } ∷ []
  pub limits : m.cache.limits ≡ (x, recall_to h) ∷ []
  pub batches : m.log.batches ≡ []
  pub window : Lacks 0 sl m.log
  pub grants : sl.grants ≡ m.got
  pub answered : Each (WantIsAnswered m.cache) m.wanted
  pub same : SameBut [] v r.0 m
  pub recorded : token v.tokens r.0 x ≡ Some (record { hold = r.1; number = r.2 })
  pub clashes : clash r.1 h ≡ true

module _ (v : Server) (c : ℕ) (sl : Slot) (m : Clerk) (r : Holder) (x : ℕ) (h : Hold) (i : IsCalled v c sl m r x h) where
  abbrev to : Hold
  to = recall_to h

  abbrev n : ℕ
  n = r.2

  abbrev q : Recalled
  q = record { obj = x; number = n; to = to }

  abbrev e : ℕ
  e = v.durable.epoch

  pub token-held : (g : Held) × (at x m.cache.held ≡ Some g) × (g.hold ≡ r.1) × (g.number ≡ n)
  token-held = held-so (at x m.cache.held) (record { hold = r.1; number = r.2 }) (sym i.recorded ∙ i.same x tt)

  abbrev hd : Held
  hd = token-held.0

  pub known : last x m.cache ≡ n
  known = sym (i.inside.numbers x hd token-held.1) ∙ token-held.3

  pub down : weaker to hd.hold ≡ to
  down = ap (weaker to) token-held.2 ∙ lowering.goes-down h r.1 i.clashes

  abbrev d0 : Doing
  d0 = without_recalls (doing m)

  steps : settle (doing m) ≡ evict (recall_tried q d0)
  steps = recall-alone (doing m) (ap is_some i.inside.session) i.waiting q i.recalls i.pushes

  -- The token goes back.

  abbrev pub given : Clerk
  given = record m { recalls = []; cache = lowering.lowered-cache x n to m.cache hd token-held.1 token-held.3 known down }

  abbrev pub back_done : Doing
  back_done = record { clerk = given; outs = out.Send (Back r.0 e x n to) ∷ []; spent = None }

  abbrev give : Option Held → Hold → ℕ → ℕ → Doing
  give o t s f = send (Back s f x n t) (with_cache (λ k. cache.passed x n (lower_held x t o k)) d0)

  own-session : or_else 0 m.session ≡ r.0
  own-session = ap (or_else 0) i.inside.session ∙ i.own

  left-is : left_of q (Some hd) ≡ to
  left-is = ap (λ b. elim b as (λ z. Hold) [ true ↦ weaker to hd.hold | false ↦ Free ]) (ap (λ z. z == n) token-held.3 ∙ eq-eqb n n refl) ∙ down

  gives : give_back q d0 ≡ back_done
  gives = ap (λ o. give o (left_of q o) (or_else 0 m.session) m.epoch) token-held.1 ∙ (λ z. give (Some hd) (left-is z) (own-session z) (i.inside.epoch z))

  pub gives-back : is_ready q d0.clerk ≡ true → settle (doing m) ≡ back_done
  gives-back f = steps ∙ ap evict (ap (λ b. elim b as (λ z. Doing) [ true ↦ give_back q d0 | false ↦ keep_recall q (ask_for (Object x) d0) ]) f ∙ gives)
      ∙ few-stay back_done (omega (arith, lowering.still-few x n to m.cache hd token-held.1 token-held.3 known down, i.inside.room, i.inside.capacity))

  abbrev last-same : (y : ℕ) → last y given.cache ≡ last y m.cache
  last-same y = lowering.last-same x n to m.cache hd token-held.1 token-held.3 known down y

  other-same : (y : ℕ) → T (not (member y (x ∷ []))) → (y == x) ≡ false
  other-same y t = go (y == x) t
    where
      go : (b : Bool) → T (not (b || false)) → b ≡ false
      go true t = absurd t
      go false t = refl

  pub idle-but : IsIdleBut (x ∷ []) v c sl given
  idle-but = record {
    inside = record {
      there = i.inside.there;
      is_open = i.inside.is_open;
      session = i.inside.session;
      epoch = i.inside.epoch;
      claimed = i.inside.claimed;
      unowed = i.inside.unowed;
      numbers = lowering.numbers-kept x n to m.cache hd token-held.1 token-held.3 known down i.inside.numbers;
      lasts = λ y. subst (λ z. z ≤ v.number) (sym (last-same y)) (i.inside.lasts y);
      capacity = i.inside.capacity;
      room = omega (arith, lowering.still-few x n to m.cache hd token-held.1 token-held.3 known down, i.inside.room);
    };
    free = record { recalls = refl; limits = lowering.unmarked x n to m.cache hd token-held.1 token-held.3 known down to i.limits; batches = i.batches };
    waiting = i.waiting;
    pushes = i.pushes;
    asking = i.asking;
    window = i.window;
    grants = i.grants;
    answered = each-map (WantIsAnswered m.cache) (WantIsAnswered given.cache) (λ w a. omega (arith, a, last-same w.obj)) m.wanted i.answered;
    same = λ y t. (λ z. token v.tokens (i.own z) y) ∙ i.same y tt ∙ ap token_of (sym (lowering.other-held x n to m.cache hd token-held.1 token-held.3 known down y (other-same y t)));
  }

  pub left-over : token_of (at x given.cache.held) ≡ lowered_to to n
  left-over = lowering.own-held x n to m.cache hd token-held.1 token-held.3 known down

  pub number-known : n ≤ last x given.cache
  number-known = omega (arith, known, last-same x)

  -- A batch goes out first.

  pub not-ready : is_ready q d0.clerk ≡ false → (is_write (mode x m.cache) ≡ true) × (k : ℕ) × (log.first (Object x) m.log ≡ Some k)
  not-ready f = go (is_write (mode x m.cache)) refl (log.first (Object x) m.log) refl f
    where
      go : (a : Bool) → is_write (mode x m.cache) ≡ a → (o : Option ℕ) → log.first (Object x) m.log ≡ o → (not a || is_none o) ≡ false → (is_write (mode x m.cache) ≡ true) × (k : ℕ) × (log.first (Object x) m.log ≡ Some k)
      go true p None s f = absurd (grind (arith, f))
      go true p (Some k) s f = (p, k, s)
      go false p o s f = absurd (grind (arith, f))

  module _ (f : is_ready q d0.clerk ≡ false) (unspent : log.batches_are_spent m.log ≡ false) where
    abbrev pub b : ℕ
    b = m.log.next_batch

    abbrev pub ns : List ℕ
    ns = numbers d0 i.batches unspent (Object x) (not-ready f).1 (not-ready f).2

    pub picked : log.pick (Object x) m.log ≡ Batch b ns
    picked = picks d0 i.batches unspent (Object x) (not-ready f).1 (not-ready f).2

    abbrev pub sent-log : LogState
    sent-log = log.after_pick (Batch b ns) m.log

    abbrev pub calling : Clerk
    calling = record m { recalls = q ∷ []; log = sent-log }

    abbrev pub flush_done : Doing
    flush_done = record { clerk = calling; outs = out.Send (Flush r.0 e b (log.batch b sent-log)) ∷ []; spent = None }

    pub flushes : settle (doing m) ≡ flush_done
    flushes = steps ∙ ap evict (
        ap (λ y. elim y as (λ z. Doing) [ true ↦ give_back q d0 | false ↦ keep_recall q (ask_for (Object x) d0) ]) f
        ∙ ap (keep_recall q) (asks-for d0 i.batches unspent (Object x) (not-ready f).1 (not-ready f).2)
        ∙ (λ z. record { clerk = calling; outs = out.Send (Flush (own-session z) (i.inside.epoch z) b (log.batch b sent-log)) ∷ []; spent = None })
        ) ∙ few-stay flush_done (omega (arith, i.inside.room, i.inside.capacity))

    pub sends : unsent sent-log + length ns ≤ unsent m.log
    sends = goes-out (Object x) m.log b ns i.batches picked

    abbrev pub more : Bool
    more = not (is_last (Object x) b sent-log)

    -- a batch that isn't the last one is full, and each has an operation
    pub enough : Rattle.ec_quiet.specs.Measure.if_more more 64 ≤ length ns
    enough = elim (full-or-last (Object x) m.log b ns i.batches picked) [
      | inl full ↦ omega (arith, full, at-most more)
      | inr last-one ↦ subst (λ z. Rattle.ec_quiet.specs.Measure.if_more (not z) 64 ≤ length ns) (sym last-one) (omega arith)
    ]
      where
        at-most : (z : Bool) → Rattle.ec_quiet.specs.Measure.if_more z 64 ≤ 64
        at-most true = omega arith
        at-most false = omega arith

    -- its token is for writing
    pub writes : r.1 ≡ Write
    writes = sym token-held.2 ∙ go hd.hold (ap (λ o. is_write (cache.held_mode o)) (sym token-held.1) ∙ (not-ready f).0)
      where
        go : (g : Hold) → is_write g ≡ true → g ≡ Write
        go Free t = absurd (grind (arith, t))
        go Read t = absurd (grind (arith, t))
        go Write t = refl
