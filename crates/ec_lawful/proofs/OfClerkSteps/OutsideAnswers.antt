-- A clerk without a session answers a call: it issues nothing, and tokens, logs and images read nothing of it.
use Rattle.std.proofs.Common.{◌≡◌, refl, sym, ap, subst, ◌∙◌, ℕ, Bool, true, false, not, ◌==◌, ◌&&◌, T, List, [], ◌∷◌, ◌++◌, Option, Some, None, append-nil}
use Rattle.std.proofs.lemmas.Bool.{and_parts}
use Rattle.std.specs.List.{filter}
use Rattle.ec_base.specs.Tables.{Table, at}
use Rattle.ec_base.specs.declared.ids.Age.{Age}
use Rattle.ec_base.specs.declared.ids.Hold.TheVariants.{Read}
use Rattle.ec_volume.specs.Update.{ids_of, is_sound, is_within, listed, member, operands}
use Rattle.ec_volume.specs.declared.update.Update.{Update}
use Rattle.ec_volume.specs.declared.update.Update.TheVariants.{Make, Drop, Move, Put, Len, Mode, Stamp, Order, Shift, Owner}
use Rattle.ec_plain.specs.declared.call.Call.{Call}
use Rattle.ec_plain.specs.declared.call.Outcome.{Outcome}
use Rattle.ec_history.specs.History.{History, Op}
use Rattle.ec_history.specs.declared.shown.Shown.{Shown}
use Rattle.ec_wire.specs.declared.msg.Msg.{Msg}
use Rattle.ec_wire.specs.declared.msg.Msg.TheVariants.{Flush, Room}
use Rattle.ec_cache.specs.Cache as cache
use Rattle.ec_cache.specs.Cache.{holds}
use Rattle.ec_history.specs.declared.entry.Answer.{Answer}
use Rattle.ec_cache.specs.OfReport.Report.{Owed, clear}
use Rattle.ec_cache.specs.declared.resolve.verdict.Verdict.{Verdict}
use Rattle.ec_cache.specs.declared.resolve.verdict.Verdict.TheVariants.{Need, Lost, NeedIds, Done}
use Rattle.ec_protocol.specs.Clerk.{verdict, is_session}
use Rattle.ec_protocol.specs.declared.clerk.Clerk.{Clerk}
use Rattle.ec_coherence.specs.System.{System, clerk_in, clerk_of, if_in, with_start}
use Rattle.ec_coherence.specs.Sessions.{HasNone}
use Rattle.ec_coherence.specs.Tokens.{IsWrite, TokensAgree, side_in, view}
use Rattle.ec_coherence.specs.Log as log
use Rattle.ec_coherence.specs.Log.{HasWrites, IsNumbered, LogsAgree, next_of}
use Rattle.ec_coherence.specs.Images.{ImagesAgree}
use Rattle.ec_coherence.specs.Invariant.{Invariant}
use Rattle.ec_coherence.specs.ChangeLaws.{Calls}
use Rattle.ec_coherence.proofs.ForServer.Lists.{each-more, each-turn}
use Rattle.ec_coherence.proofs.ForCommits.Judged.{held-token}
use Rattle.ec_coherence.specs.Answers.{Gives, op_given}
use Rattle.ec_lawful.specs.OfClerkSteps.Answering.{Suits, answered_clerk, done_clerk}
use Rattle.ec_lawful.proofs.OfClerkSteps.NodesAnswered.{NodesAgree}
use Rattle.ec_lawful.proofs.OfClerkSteps.Turned.{writes-all}
use Rattle.ec_base.proofs.Bools.{left as and_first, right as and_next, or_first}
use Rattle.ec_base.proofs.Numbers.{same-self as same, equal}
use Rattle.ec_base.proofs.Options.{none_some}

-- A sound update has an operand.
some-operand : (u : Update) → T (is_sound u) → (x : ℕ) × T (member x (operands u))
some-operand u s = go u (and_next _ _ s)
  where
    first : (x : ℕ) (xs : List ℕ) → (y : ℕ) × T (member y (x ∷ xs))
    first x xs = (x, or_first (x == x) (member x xs) (subst T (sym (same x)) tt))

    go : (w : Update) → T (is_within w) → (x : ℕ) × T (member x (operands w))
    go (Make dir name obj k) t = first dir (obj ∷ [])
    go (Drop dir name obj k) t = first dir (obj ∷ [])
    go (Move dir from to obj k victim) t = first dir (obj ∷ listed victim)
    go (Put obj offset bytes inside) t = first obj []
    go (Len obj len) t = first obj []
    go (Mode obj mode) t = first obj []
    go (Stamp obj stamp) t = first obj []
    go (Order []) t = absurd t
    go (Order (x ∷ xs)) t = first x xs
    go (Shift dir from into to obj k victim up) t = first dir (into ∷ obj ∷ listed victim ++ filter (λ o. not (o == dir)) (ids_of up))
    go (Owner obj owner) t = first obj []

module _ (k : Clerk) (none : HasNone k) where
  -- it holds nothing
  pub holds-none : (x : ℕ) → at x k.cache.held ≡ None
  holds-none x = ap (λ z. at x z.held) none.cache

  pub reads-none : (x : ℕ) → T (holds x Read k.cache) → ⊥
  reads-none x t = let h = held-token k.cache x t in none_some (sym (holds-none x) ∙ h.1)

  -- so that no update of it is done
  pub no-update : (cl : Call) (o : Outcome) → verdict cl k ≡ Done o → Suits (Done o) k → o.update ≡ None
  no-update cl o e f = go o.update refl
    where
      go : (u : Option Update) → o.update ≡ u → o.update ≡ None
      go None q = q
      go (Some u) q = let x = some-operand u (and_first (is_sound u) _ (f u q)) in absurd (subst IsWrite (holds-none x.0) (writes-all cl k o e u q x.0 x.1))

  used-empty : (xs : List ℕ) (n : ℕ) → cache.all_used xs (cache.empty n) ≡ cache.empty n
  used-empty [] n = refl
  used-empty (x ∷ xs) n = used-empty xs n

  pub still-cached : (xs : List ℕ) → cache.all_used xs k.cache ≡ k.cache
  still-cached xs = ap (cache.all_used xs) none.cache ∙ used-empty xs k.cache.capacity ∙ sym none.cache

-- What it becomes.
module _ (k : Clerk) (none : HasNone k) (out : k.session ≡ None) where
  pub record IsQuiet (now : Clerk) : Type 0 where
    pub has_none : HasNone now
    pub outside : now.session ≡ None
    pub same_log : now.log ≡ k.log

  used-none : (xs : List ℕ) (q : Owed) → HasNone (record k { owed = q; cache = cache.all_used xs k.cache })
  used-none xs q = record {
    epoch = none.epoch;
    cache = still-cached k none xs ∙ none.cache ∙ ap (λ z. cache.empty z.capacity) (sym (still-cached k none xs));
    undurable = none.undurable;
    batches = none.batches;
    next_batch = none.next_batch;
    first = none.first;
    recalls = none.recalls;
    ids = none.ids;
    got = none.got;
    asking = none.asking;
  }

  quiet-used : (xs : List ℕ) (q : Owed) → IsQuiet (record k { owed = q; cache = cache.all_used xs k.cache })
  quiet-used xs q = record { has_none = used-none xs q; outside = out; same_log = refl }

  pub quiet-now : (cl : Call) (v : Verdict) → verdict cl k ≡ v → Suits v k → IsQuiet (answered_clerk v k)
  quiet-now cl (Need x h) e f = record { has_none = none; outside = out; same_log = refl }
  quiet-now cl (Lost ns xs) e f = quiet-used xs (clear xs k.owed)
  quiet-now cl (NeedIds xs) e f = quiet-used xs k.owed
  quiet-now cl (Done o) e f = subst (λ u. IsQuiet (done_clerk o u k)) (sym (no-update k none cl o e f)) (quiet-used o.touched k.owed)

  pub no-ops : (cl : Call) (c b p : ℕ) (v : Verdict) → verdict cl k ≡ v → Suits v k → op_given c b p k v ≡ []
  no-ops cl c b p (Need x h) e f = refl
  no-ops cl c b p (Lost ns xs) e f = refl
  no-ops cl c b p (NeedIds xs) e f = refl
  no-ops cl c b p (Done o) e f = ap (λ u. elim u as (λ z. List Op) [ None ↦ [] | Some w ↦ record { clerk = c; boot = b; number = k.log.next; place = p; update = w } ∷ [] ]) (no-update k none cl o e f)

  pub no-number : (most : ℕ) (cl : Call) (a : Answer) (op : Option ℕ) (rest : Owed) (v : Verdict) → verdict cl k ≡ v → Suits v k → Gives most k v a op rest → op ≡ None
  no-number most cl a op rest (Need x h) e f g = absurd g
  no-number most cl a op rest (Lost ns xs) e f g = g.1
  no-number most cl a op rest (NeedIds xs) e f g = g.4
  no-number most cl a op rest (Done o) e f g = g.1 ∙ ap (λ u. elim u as (λ z. Option ℕ) [ None ↦ None | Some w ↦ Some k.log.next ]) (no-update k none cl o e f)

-- Nobody is in another session then.
module _ (g : System) (inv : Invariant g) (c b : ℕ) (k now : Clerk) (at-start : g.clerks c b ≡ Some k) (out : k.session ≡ None) (still-out : now.session ≡ None) (same_log : now.log ≡ k.log) (calls : Calls) (sh : List Shown) (hi : History) (fr : Table ℕ) where
  -- the clerk is this one now, and these operations are kept
  abbrev pub behind : List Op → System
  behind ks = record g { clerks = with_start c b now g.clerks; calls = calls; pool = g.pool ++ []; ghost = record (g.ghost) { kept = ks; shown = sh; history = hi; fresh = fr } }

  abbrev h : System
  h = behind g.ghost.kept

  in-none : (t : ℕ) (m : Clerk) → m.session ≡ None → if_in t (Some m) ≡ None
  in-none t m e = ap (λ z. elim (is_session t z) as (λ z. Option Clerk) [ true ↦ Some m | false ↦ None ]) e

  pub same-in : (t : ℕ) → clerk_of t (g.ghost.owner t) (with_start c b now g.clerks) ≡ clerk_of t (g.ghost.owner t) g.clerks
  same-in t = go (g.ghost.owner t)
    where
      go : (o : Option (ℕ × Age)) → clerk_of t o (with_start c b now g.clerks) ≡ clerk_of t o g.clerks
      go None = refl
      go (Some o) = by ((o.0 == c) && ((o.1).boot == b)) refl
        where
          by : (z : Bool) → ((o.0 == c) && ((o.1).boot == b)) ≡ z → if_in t (elim z as (λ y. Option Clerk) [ true ↦ Some now | false ↦ g.clerks o.0 (o.1).boot ]) ≡ if_in t (g.clerks o.0 (o.1).boot)
          by false e = refl
          by true e =
              let two = and_parts (o.0 == c) ((o.1).boot == b) e in
              in-none t now still-out ∙ sym (ap (if_in t) (ap (λ z. g.clerks z (o.1).boot) (equal o.0 c two.0) ∙ ap (g.clerks c) (equal (o.1).boot b two.1) ∙ at-start) ∙ in-none t k out)

  same-next : (d a : ℕ) → next_of (with_start c b now g.clerks d a) ≡ next_of (g.clerks d a)
  same-next d a = by ((d == c) && (a == b)) refl
    where
      by : (z : Bool) → ((d == c) && (a == b)) ≡ z → next_of (elim z as (λ y. Option Clerk) [ true ↦ Some now | false ↦ g.clerks d a ]) ≡ next_of (g.clerks d a)
      by false e = refl
      by true e =
          let two = and_parts (d == c) (a == b) e in
          ap (λ l. l.next) same_log ∙ sym (ap next_of (ap (λ z. g.clerks z a) (equal d c two.0) ∙ ap (g.clerks c) (equal a b two.1) ∙ at-start))

  view-same : view h ≡ record (view g) { pool = g.pool ++ [] }
  view-same = λ j. record (view g) { clerk = λ t. side_in (same-in t j); pool = g.pool ++ [] }

  tokens-stay : TokensAgree (view h)
  tokens-stay = subst TokensAgree (sym (view-same ∙ ap (λ p. record (view g) { pool = p }) (append-nil g.pool))) inv.tokens

  was-in : (t : ℕ) (m : Clerk) → clerk_in h t ≡ Some m → clerk_in g t ≡ Some m
  was-in t m i = sym (same-in t) ∙ i

  fit-kept : (m : Msg) → log.Fits g m → log.Fits h m
  fit-kept (Flush t e b ops) q = λ c sl p s o u k i. q c sl p s o u k (was-in t k i)
  fit-kept (Room t e got ask) q = λ c sl p s o u k i. q c sl p s o u k (was-in t k i)
  fit-kept _ q = q

  logs-stay : LogsAgree h
  logs-stay = let a = inv.logs in record {
    writes = each-turn (λ o. T (not (g.ghost.is_durable o)) → HasWrites g o) (λ o. T (not (g.ghost.is_durable o)) → HasWrites h o) g.ghost.kept
        (λ o f d. let w = f d in record { session = w.session; clerk = w.clerk; in_place = same-in w.session ∙ w.in_place; is_open = w.is_open; own = w.own; writes = w.writes }) a.writes;
    logs = λ s d sl p q o k j. (let l = a.logs s d sl p q o k (was-in s k j) in record { knows = l.knows; ids = l.ids });
    starts = λ d b. (let n = subst (IsNumbered g.ghost d b) (sym (same-next d b)) (a.starts d b) in record { from_one = n.from_one; sorted = n.sorted; numbers = n.numbers; none_later = n.none_later });
    closed = a.closed;
    unopened = a.unopened;
    untaken = a.untaken;
    messages = each-more (λ m. log.Fits h m.1) g.pool [] (each-turn (λ m. log.Fits g m.1) (λ m. log.Fits h m.1) g.pool (λ m q. fit-kept m.1 q) a.messages) tt;
    unspent = a.unspent;
    once = a.once;
    apart = a.apart;
    whole = λ s x c sl p q o k i. a.whole s x c sl p q o k (was-in s k i);
  }

  images-stay : ImagesAgree h
  images-stay = let a = inv.images in record {
    server = a.server;
    fits = a.fits;
    sound = a.sound;
    origin = a.origin;
    origin_held = a.origin_held;
    licences = λ s x k i. a.licences s x k (was-in s k i);
    unfrozen = a.unfrozen;
    unopened = a.unopened;
    cut_off = a.cut_off;
    known = a.known;
    operands = a.operands;
  }

  pub outside-nodes : (os : List Op) → os ≡ [] → NodesAgree (behind (g.ghost.kept ++ os))
  outside-nodes os e = subst (λ ks. NodesAgree (behind ks)) (sym (ap (λ z. g.ghost.kept ++ z) e ∙ append-nil g.ghost.kept)) (tokens-stay, logs-stay, images-stay)
