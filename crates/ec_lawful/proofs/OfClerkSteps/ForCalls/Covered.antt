-- What an answered fsync or sync covers is known durable, or lost.
use Rattle.std.proofs.Common.{◌≡◌, refl, sym, ap, subst, ◌∙◌, arith, ◌≤◌, ◌<◌, ◌-◌, ℕ, suc, T, Bool, true, false, not, ◌&&◌, ◌||◌, List, [], ◌∷◌, ◌++◌, length, Option, Some, None}
use Rattle.std.specs.Prelude.{nat_le, slice_get}
use Rattle.std.specs.List.{filter, list_all}
use Rattle.std.proofs.lemmas.Bool.Decides.{nat_tests}
use Rattle.ec_base.specs.Tables.{or_else}
use Rattle.ec_volume.specs.Update.{has_operand, ids_of, member, root}
use Rattle.ec_volume.specs.Volume.{Images, after}
use Rattle.ec_volume.specs.declared.update.Update.{Update}
use Rattle.ec_plain.specs.Walk.{Path, Reached, At, Not, walk}
use Rattle.ec_plain.specs.Plain.{plain, answers, on_reached, refuses, with_names}
use Rattle.ec_plain.specs.declared.call.Call.{Call}
use Rattle.ec_plain.specs.declared.call.Call.TheVariants as call
use Rattle.ec_plain.specs.declared.call.Outcome.{Outcome}
use Rattle.ec_plain.specs.declared.call.Reply.{Reply}
use Rattle.ec_plain.specs.declared.call.Reply.TheVariants as reply
use Rattle.ec_order.specs.Order.{InClosure, Issued, ask, need}
use Rattle.ec_history.specs.History as history
use Rattle.ec_history.specs.History.{Base, History, Op, Each, asks, is_lost, issued, issued_by, issued_from, kept, kept_next, of_issue, of_start, same_start, updates, Covers}
use Rattle.ec_history.specs.Legal.{IsLegal}
use Rattle.ec_history.specs.declared.entry.Answer.{Answer}
use Rattle.ec_history.specs.declared.entry.Answer.TheVariants as answer
use Rattle.ec_history.specs.declared.entry.Entry.{Entry}
use Rattle.ec_history.specs.declared.entry.Entry.TheVariants as entry
use Rattle.ec_log.specs.Log.{first}
use Rattle.ec_log.specs.LogOrder.{is_from}
use Rattle.ec_log.specs.declared.state.Asked.{Asked}
use Rattle.ec_log.specs.declared.state.Asked.TheVariants.{All, Object}
use Rattle.ec_machine_laws.specs.Covers.{AreIssuedBy, IsFirstAfter}
use Rattle.ec_machine_laws.specs.Picks.{IsRest}
use Rattle.ec_machine_laws.proofs.Promising.{fsync-covers, sync-covers}
use Rattle.ec_cache.specs.OfReport.Report.{Owed}
use Rattle.ec_cache.specs.OfResolve.Agreement.{Shows}
use Rattle.ec_cache.specs.declared.resolve.verdict.Verdict.{Verdict}
use Rattle.ec_cache.specs.declared.resolve.verdict.Verdict.TheVariants.{Need, Lost, NeedIds, Done}
use Rattle.ec_cache.proofs.OfResolve.Settled.{done-comes}
use Rattle.ec_protocol.specs.Clerk.{awaited, first_id, is_owing, last_number, on_object, verdict}
use Rattle.ec_protocol.specs.declared.clerk.Clerk.{Clerk}
use Rattle.ec_protocol.specs.declared.clerk.Waiting.{Waiting}
use Rattle.ec_coherence.specs.Answers.{Gives}
use Rattle.ec_lawful.specs.OfClerkSteps.Calls.{IsBefore, LosesBelow}
use Rattle.ec_lawful.specs.OfClerkSteps.Waits.{does_wait, waits_with}
use Rattle.ec_history.proofs.OfLaws.ForFormed.Walked.{walked, walked-split}
use Rattle.ec_lawful.proofs.OfClerkSteps.ForCalls.Rests.{rest-issued}
use Rattle.ec_base.proofs.Options.{none_some}

-- what stands behind a list is the last of both
last-behind : (os : List ℕ) (x : ℕ) → last_number (os ++ x ∷ []) ≡ Some x
last-behind [] x = refl
last-behind (o ∷ []) x = refl
last-behind (o ∷ n ∷ os) x = last-behind (n ∷ os) x

-- Entries that ask for nothing cover nothing.

none-asked : (is : Issued) (n : ℕ) → InClosure is (λ m. false) n → ⊥
none-asked is n (ask m u h t) = t
none-asked is n (need m k a b h i l t r) = none-asked is k r

covers-none : (base : Base) (past : History) (e : ℕ × Entry) (c b n : ℕ) → asks base past e ≡ [] → Covers base past e c b n → ⊥
covers-none base past e c b n none v = none-asked (of_issue c b (issued base past)) n (subst (λ ns. InClosure (of_issue c b (issued base past)) (λ m. member m ns) n) none v.closed_in)

-- the operations that the entries issue up to a place
module _ (base : Base) (c b place n : ℕ) where
  abbrev in_time : Op → Bool
  in_time k = not (of_start c b k && nat_le k.place place) || nat_le k.number n

  one-in-time : (k : Op) → (T (same_start c b k.clerk k.boot) → k.place ≤ place → k.number ≤ n) → T (in_time k)
  one-in-time k h = go (of_start c b k) (nat_le k.place place) (nat_le k.number n) refl refl refl
    where
      at-most : (i j : ℕ) → nat_le i j ≡ true → i ≤ j
      at-most i j e = grind (arith, nat_tests)

      not-at-most : (i j : ℕ) → i ≤ j → nat_le i j ≡ false → ⊥
      not-at-most i j l e = grind (arith, nat_tests, l)

      go : (x y z : Bool) → of_start c b k ≡ x → nat_le k.place place ≡ y → nat_le k.number n ≡ z → T (not (x && y) || z)
      go true true true e f i = tt
      go true true false e f i = absurd (not-at-most k.number n (h (subst T (sym e) tt) (at-most k.place place f)) i)
      go true false z e f i = tt
      go false y z e f i = tt

  by-entry : (ks : List Op) (e : ℕ × Entry) → IsBefore c b place n e → T (list_all in_time (issued_by base ks e))
  by-entry ks (p, entry.Loss d f ns) h = tt
  by-entry ks (p, entry.Call d f l begun cl a None) h = tt
  by-entry ks (p, entry.Call d f l begun cl a (Some m)) h = go ((history.outcome base ks p cl).update)
    where
      both : (x : Bool) → T x → T (x && true)
      both true t = tt
      both false t = absurd t

      go : (u : Option Update) → T (list_all in_time (elim u as (λ z. List Op) [ None ↦ [] | Some w ↦ record { clerk = d; boot = f; number = m; place = p; update = w } ∷ [] ]))
      go None = tt
      go (Some w) = both _ (one-in-time (record { clerk = d; boot = f; number = m; place = p; update = w }) h)

  all-append : (xs ys : List Op) → T (list_all in_time xs) → T (list_all in_time ys) → T (list_all in_time (xs ++ ys))
  all-append [] ys s t = t
  all-append (x ∷ xs) ys s t = go (in_time x) s (λ r. all-append xs ys r t)
    where
      go : (z : Bool) → T (z && list_all in_time xs) → (T (list_all in_time xs) → T (list_all in_time (xs ++ ys))) → T (z && list_all in_time (xs ++ ys))
      go true s f = f s
      go false s f = s

  all-from : (ks : List Op) (h : History) → Each (IsBefore c b place n) h → T (list_all in_time (issued_from base ks h))
  all-from ks [] t = tt
  all-from ks (e ∷ h) t = all-append (issued_by base ks e) (issued_from base (kept_next base ks e) h) (by-entry ks e t.0) (all-from (kept_next base ks e) h t.1)

  pub issued-in-time : (h : History) → Each (IsBefore c b place n) h → AreIssuedBy base h c b place n
  issued-in-time h t = all-from [] h t

ok-not-refused : (r : _) → ◌≡◌ {A = Reply} (reply.Refused r) reply.Ok → ⊥
ok-not-refused r e = cc

-- What is covered by the answer of a call that didn't wait.
module _ (base : Base) (most c sb : ℕ) (past : History) (legal : IsLegal base most past) (k : Clerk) (shows : Shows k.cache (first_id k.ids) (after base.volume (updates (kept base past)))) (known : ℕ → Bool)
    (rest : IsRest (of_issue c sb (kept base past)) known k.log) (own : T (is_from k.log.first k.log.undurable)) (lost : Each (LosesBelow c sb k.log.first) past) (w : Waiting) (place : ℕ) (before : Each (IsBefore c sb place w.begun) past)
    (passes : (o : Outcome) → verdict w.call k ≡ Done o → does_wait w k ≡ false) where
  abbrev done : ℕ → Bool
  done n = known n || is_lost c sb n past

  all-rest : IsRest (of_issue c sb (issued base past)) done k.log
  all-rest = rest-issued base most c sb past legal known k.log rest own lost

  in-time : AreIssuedBy base past c sb place w.begun
  in-time = issued-in-time base c sb place w.begun past before

  abbrev V : Images
  V = after base.volume (updates (kept base past))

  comes : (o : Outcome) → verdict w.call k ≡ Done o → plain V w.call (or_else 0 (first_id k.ids)) ≡ o
  comes o e = done-comes k.cache k.owed w.call (first_id k.ids) o e V shows

  -- the first one that is awaited comes later
  later : (o : Outcome) (a : Asked) → verdict w.call k ≡ Done o → o.update ≡ None → awaited w.call o ≡ Some a → IsFirstAfter w.begun (first a k.log)
  later o a e u t m f = greater w.begun m (owes)
    where
      waits : (elim (awaited w.call o) as (λ z. Bool) [ None ↦ false | Some a ↦ is_owing w.begun (first a k.log) ]) ≡ false
      waits = sym (ap (waits_with w o k) u) ∙ sym (ap (λ v. waits-by v) e) ∙ passes o e
        where
          waits-by : Verdict → Bool
          waits-by (Need x h) = true
          waits-by (NeedIds xs) = true
          waits-by (Lost ns xs) = false
          waits-by (Done o) = waits_with w o k o.update

      owes : nat_le m w.begun ≡ false
      owes = sym (ap (is_owing w.begun) f) ∙ sym (ap (λ z. elim z as (λ y. Bool) [ None ↦ false | Some a ↦ is_owing w.begun (first a k.log) ]) t) ∙ waits

      greater : (i j : ℕ) → nat_le j i ≡ false → i < j
      greater i j e = grind (arith, nat_tests)

  -- the verdict of an answer Ok is an outcome Ok
  of-ok : (m : ℕ) (op : Option ℕ) (left : Owed) (v : Verdict) → Gives m k v (answer.Reply reply.Ok) op left → (o : Outcome) × (v ≡ Done o) × (o.reply ≡ reply.Ok)
  of-ok m op left (Need x h) q = absurd q
  of-ok m op left (Lost ns xs) q = absurd (differs (q.0))
    where
      differs : ◌≡◌ {A = Answer} (answer.Reply reply.Ok) (answer.Lost ns) → ⊥
      differs e = cc
  of-ok m op left (NeedIds xs) q = absurd (differs q.2)
    where
      differs : ◌≡◌ {A = Answer} (answer.Reply reply.Ok) (answer.NoRoom q.0 q.1) → ⊥
      differs e = cc
  of-ok m op left (Done o) q = (o, refl, same-reply o.reply q.0)
    where
      same-reply : (r : Reply) → ◌≡◌ {A = Answer} (answer.Reply reply.Ok) (answer.Reply r) → r ≡ reply.Ok
      same-reply r e = cc

  module _ (p l m : ℕ) (op : Option ℕ) (left : Owed) (n : ℕ) where
    fsync-done : (path : Path) → w.call ≡ call.Fsync path → Gives m k (verdict w.call k) (answer.Reply reply.Ok) op left → Covers base past (p, entry.Call c sb l place (call.Fsync path) (answer.Reply reply.Ok) op) c sb n → T (done n)
    fsync-done path e q v = go (walk V path).to refl
      where
        o : Outcome
        o = (of-ok m op left (verdict w.call k) q).0

        verdict-is : verdict w.call k ≡ Done o
        verdict-is = (of-ok m op left (verdict w.call k) q).1

        plain-is : on_reached (walk V path) (λ obj read. answers reply.Ok read) ≡ o
        plain-is = ap (λ z. plain V z (or_else 0 (first_id k.ids))) (sym e) ∙ comes o verdict-is

        go : (r : Reached) → (walk V path).to ≡ r → T (done n)
        go (Not r) t = absurd (covers-none base past (p, entry.Call c sb l place (call.Fsync path) (answer.Reply reply.Ok) op) c sb n (ap (λ z. elim z as (λ y. List ℕ) [
          | At x ↦ history.numbers (filter (λ j. of_start c sb j && nat_le j.place place && has_operand x j.update) (issued base past))
          | Not y ↦ []
        ]) t) v)
        go (At x) t =
            let out : o ≡ answers reply.Ok (walk V path).read = sym plain-is ∙ ap (λ z. elim z as (λ y. Outcome) [ At obj ↦ answers reply.Ok (walk V path).read | Not r ↦ refuses r (walk V path).read ]) t in
            let waits-for : awaited w.call o ≡ Some (Object x) = ap (λ z. awaited z o) e ∙ ap (awaited (call.Fsync path)) out ∙ ap on_object (ap last_number (walked-split V root path (walk V path).read x (walked V 0 root path x t)) ∙ last-behind (ids_of (with_names (walk V path).read path)) x) in
            fsync-covers base past c sb place w.begun k.log done all-rest in-time p l path op x t (later o (Object x) verdict-is (ap (λ z. z.update) out) waits-for) n v

    sync-done : w.call ≡ call.Sync → Gives m k (verdict w.call k) (answer.Reply reply.Ok) op left → Covers base past (p, entry.Call c sb l place call.Sync (answer.Reply reply.Ok) op) c sb n → T (done n)
    sync-done e q v =
        let t = of-ok m op left (verdict w.call k) q in
        let out : answers reply.Ok [] ≡ t.0 = ap (λ z. plain V z (or_else 0 (first_id k.ids))) (sym e) ∙ comes t.0 t.1 in
        sync-covers base past c sb place w.begun k.log done all-rest in-time p l op (later t.0 All t.1 (ap (λ z. z.update) (sym out)) (ap (λ z. awaited z t.0) e)) n v

    covered-by : (cl : Call) (a : Answer) → w.call ≡ cl → Gives m k (verdict w.call k) a op left → Covers base past (p, entry.Call c sb l place cl a op) c sb n → T (done n)
    covered-by (call.Fsync path) (answer.Reply reply.Ok) e q v = fsync-done path e q v
    covered-by call.Sync (answer.Reply reply.Ok) e q v = sync-done e q v
    covered-by cl a e q v = absurd (covers-none base past (p, entry.Call c sb l place cl a op) c sb n refl v)

    pub covered-done : (a : Answer) → Gives m k (verdict w.call k) a op left → Covers base past (p, entry.Call c sb l place w.call a op) c sb n → T (done n)
    covered-done a q v = covered-by w.call a refl q v
