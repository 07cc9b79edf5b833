-- Behind a step all calls wait, and no recall is ready.
use Rattle.std.proofs.Common.{◌≡◌, refl, sym, ap, subst, ◌∙◌, inl, inr, ◌⊎◌, arith, ◌≤◌, ◌+◌, ◌-◌, ℕ, zero, suc, T, Bool, true, false, not, ◌==◌, ◌||◌, cond, List, [], ◌∷◌, ◌++◌, length, Option, Some, None, is_some, append_assoc}
use Rattle.std.specs.Prelude.{⊤, filter, is_none, nat_le, take as front}
use Rattle.ec_base.specs.declared.counter.Counter.TheVariants as counter
use Rattle.ec_base.specs.Holds.{is_below, is_free, is_write, weaker}
use Rattle.ec_base.specs.Tables.{Table, at, keys, or_else, renewed, without}
use Rattle.ec_base.specs.declared.ids.Hold.{Hold}
use Rattle.ec_base.specs.declared.ids.Hold.TheVariants.{Free, Read, Write}
use Rattle.ec_volume.specs.Update.{effect, has_operand, member, operands}
use Rattle.ec_volume.specs.declared.image.Image.TheVariants.{Gone}
use Rattle.ec_volume.specs.declared.update.Update.{Update}
use Rattle.ec_plain.specs.declared.call.Outcome.{Outcome}
use Rattle.ec_order.specs.Order.{Issued}
use Rattle.ec_history.specs.History.{Each}
use Rattle.ec_history.specs.declared.entry.Answer.{Answer}
use Rattle.ec_history.specs.declared.entry.Answer.TheVariants as answer
use Rattle.ec_cache.specs.Cache as cache
use Rattle.ec_cache.specs.Cache.{counted, held_image, held_mode, holds, images_held, mode}
use Rattle.ec_cache.specs.declared.state.CacheState.{CacheState}
use Rattle.ec_cache.specs.declared.state.Held.{Held}
use Rattle.ec_history.proofs.OfLaws.ForPlacing.Numbers.{each-append}
use Rattle.ec_log.specs.Log.{first, first_number, is_asked, is_full, ops_are_spent}
use Rattle.ec_log.specs.declared.state.Asked.{Asked}
use Rattle.ec_log.specs.declared.state.Asked.TheVariants.{Object, All}
use Rattle.ec_cache.specs.declared.resolve.verdict.Verdict.{Verdict}
use Rattle.ec_cache.specs.declared.resolve.verdict.Verdict.TheVariants.{Need, Lost, NeedIds, Done}
use Rattle.ec_cache.specs.OfReport.Report.{clear}
use Rattle.ec_protocol.specs.Clerk.{Answered, Doing, Tried, Waits, answer_recalls, answer_with, ask_for, ask_pushes, await, awaited, evict, evict_unpinned, first_id, give_back, is_owing, is_ready, issue_if_room, keep_recall, left_of, lower_held, on_objects, send_backs, settle_outcome, spend, suits, try, try_all, try_each, try_recalls, try_rounds, try_verdict, verdict, with_clerk, with_update}
use Rattle.ec_protocol.specs.declared.clerk.Clerk.{Clerk}
use Rattle.ec_protocol.specs.declared.clerk.Recalled.{Recalled}
use Rattle.ec_protocol.specs.declared.clerk.Waiting.{Waiting}
use Rattle.ec_coherence.proofs.ForClerk.CacheChange.{at-used, at-renewed}
use Rattle.ec_coherence.proofs.ForClerk.Caches.{at-kept, at-lowered, at_most}
use Rattle.ec_coherence.proofs.ForServer.Lists.{filter-more}
use Rattle.ec_coherence.proofs.ForServer.Tables.{at-without}
use Rattle.ec_lawful.specs.OfClerkSteps.Waits.{NoneReady, does_wait}
use Rattle.ec_lawful.specs.OfClerkSteps.CallLaws.{IsStill, IsStillIf, is_answer, prepared}
use Rattle.ec_lawful.proofs.OfClerkSteps.ForCalls.Less.{HoldsLess, less-waits}
use Rattle.ec_lawful.proofs.OfClerkSteps.ForCalls.Still.{asks-still, still-ask, still-kept, still-same, still-then, still-waits, tries-answer, none-still}
use Rattle.ec_base.proofs.Numbers.{equal}
use Rattle.ec_history.proofs.OfLaws.ForPlacing.BasesAlike.{each-map}

-- Changes that make no recall ready.

pub record MakesNoneReady (k now : Clerk) : Type 0 where
  pub recalls : now.recalls ≡ k.recalls
  pub modes : (x : ℕ) → mode x now.cache ≡ mode x k.cache
  -- what is undurable stays so
  pub owing : (a : Asked) → is_none (first a now.log) ≡ true → is_none (first a k.log) ≡ true

unready-parts : (x y : Bool) → T (not (not x || y)) → (x ≡ true) × (y ≡ false)
unready-parts true true t = absurd t
unready-parts true false t = (refl, refl)
unready-parts false y t = absurd t

none-ready : (k now : Clerk) → MakesNoneReady k now → NoneReady k → NoneReady now
none-ready k now m n = subst (λ rs. Each (λ r. T (not (is_ready r now))) rs) (sym m.recalls) (each-map (λ r. T (not (is_ready r k))) (λ r. T (not (is_ready r now))) one k.recalls n)
  where
    one : (r : Recalled) → T (not (is_ready r k)) → T (not (is_ready r now))
    one r t =
        let parts = unready-parts (is_write (mode r.obj k.cache)) (is_none (first (Object r.obj) k.log)) t in
        subst (λ z. T (not (not (is_write z) || is_none (first (Object r.obj) now.log)))) (sym (m.modes r.obj)) (subst (λ z. T (not (not z || is_none (first (Object r.obj) now.log)))) (sym parts.0) (go (is_none (first (Object r.obj) now.log)) refl parts.1))
      where
        go : (z : Bool) → is_none (first (Object r.obj) now.log) ≡ z → is_none (first (Object r.obj) k.log) ≡ false → T (not z)
        go false e f = tt
        go true e f = absurd (two (sym f ∙ m.owing (Object r.obj) e))
          where
            two : false ≡ true → ⊥
            two e = cc

-- a change of what is still
by-still : (d e : Doing) → IsStill d e → e.clerk.recalls ≡ d.clerk.recalls → MakesNoneReady d.clerk e.clerk
by-still d e s r = record {
  recalls = r;
  modes = λ x. ap (mode x) s.cache;
  owing = λ a t. ap (λ us. is_none (first_number (filter (is_asked a) us))) (sym s.undurable) ∙ t;
}

-- Answers.

-- an update changes images alone
pub mode-changed : (u : Update) (xs : List ℕ) (y : ℕ) (k : CacheState) → mode y (cache.change u xs k) ≡ mode y k
mode-changed u [] y k = refl
mode-changed u (x ∷ xs) y k = mode-changed u xs y (cache.change_at u x k) ∙ go (at x k.held) refl
  where
    go : (o : Option Held) → at x k.held ≡ o → mode y (elim o as (λ z. CacheState) [ None ↦ k | Some h ↦ record k { held = renewed x (record h { image = effect u x h.image }) k.held } ]) ≡ mode y k
    go None e = refl
    go (Some h) e = ap held_mode (at-renewed y x (record h { image = effect u x h.image }) k.held) ∙ by (y == x) refl
      where
        by : (z : Bool) → (y == x) ≡ z → held_mode (cond z (Some (record h { image = effect u x h.image })) (at y k.held)) ≡ mode y k
        by true i = sym (ap held_mode (ap (λ j. at j k.held) (equal y x i) ∙ e))
        by false i = refl

-- one more operation leaves those asked for
first-more : (a : Asked) (us vs : Issued) → is_none (first_number (filter (is_asked a) (us ++ vs))) ≡ true → is_none (first_number (filter (is_asked a) us)) ≡ true
first-more a us vs e = go (filter (is_asked a) us) (sym (ap (λ z. is_none (first_number z)) (filter-more (is_asked a) us vs)) ∙ e)
  where
    go : (xs : Issued) → is_none (first_number (xs ++ filter (is_asked a) vs)) ≡ true → is_none (first_number xs) ≡ true
    go [] e = refl
    go (x ∷ xs) e = e

abbrev IsCalm : Doing → Tried → Type 0
IsCalm d (Waits e) = ⊤
IsCalm d (Answered e) = MakesNoneReady d.clerk e.clerk × (e.clerk.waiting ≡ d.clerk.waiting)

calm-answer : (w : Waiting) (a : Answer) (op : Option ℕ) (xs : List ℕ) (d e : Doing) → MakesNoneReady d.clerk e.clerk → e.clerk.waiting ≡ d.clerk.waiting → IsCalm d (answer_with w a op xs e)
calm-answer w a op xs d e m n = (record { recalls = m.recalls; modes = λ x. ap held_mode (at-used xs x e.clerk.cache) ∙ m.modes x; owing = m.owing }, n)

no-change : (k : Clerk) → MakesNoneReady k k
no-change k = record { recalls = refl; modes = λ x. refl; owing = λ a t. t }

calm-await : (w : Waiting) (o : Outcome) (a : Option Asked) (d : Doing) → IsCalm d (await w o a d)
calm-await w o None d = calm-answer w (answer.Reply o.reply) None o.touched d d (no-change d.clerk) refl
calm-await w o (Some a) d = go (is_owing w.begun (first a d.clerk.log))
  where
    go : (z : Bool) → IsCalm d (elim z as (λ y. Tried) [ true ↦ Waits (ask_for a d) | false ↦ answer_with w (answer.Reply o.reply) None o.touched d ])
    go true = tt
    go false = calm-answer w (answer.Reply o.reply) None o.touched d d (no-change d.clerk) refl

calm-issue : (w : Waiting) (o : Outcome) (u : Update) (d : Doing) → IsCalm d (issue_if_room w o u d)
calm-issue w o u d = go (suits u d.clerk.cache) (is_full d.clerk.log) (ops_are_spent d.clerk.log)
  where
    go : (x y z : Bool) → IsCalm d (elim x as (λ a. Tried) [ false ↦ Waits d | true ↦ elim y as (λ a. Tried) [ true ↦ Waits (ask_for All d) | false ↦ elim z as (λ a. Tried) [ true ↦ Waits (spend counter.Op d) | false ↦ answer_with w (answer.Reply o.reply) (Some d.clerk.log.next) o.touched (with_clerk (with_update u) d) ] ] ])
    go false y z = tt
    go true true z = tt
    go true false true = tt
    go true false false = calm-answer w (answer.Reply o.reply) (Some d.clerk.log.next) o.touched d (with_clerk (with_update u) d)
        (record { recalls = refl; modes = λ x. mode-changed u (operands u) x d.clerk.cache; owing = λ a e. first-more a d.clerk.log.undurable ((d.clerk.log.next, u) ∷ []) e }) refl

calm-outcome : (w : Waiting) (o : Outcome) (u : Option Update) (d : Doing) → IsCalm d (settle_outcome w o u d)
calm-outcome w o None d = calm-await w o (awaited w.call o) d
calm-outcome w o (Some u) d = calm-issue w o u d

calm-try : (w : Waiting) (v : Verdict) (d : Doing) → IsCalm d (try_verdict w v d)
calm-try w (Need x h) d = tt
calm-try w (NeedIds xs) d = tt
calm-try w (Lost ns xs) d = calm-answer w (answer.Lost ns) None xs d (with_clerk (λ k. record k { owed = clear xs k.owed }) d) (record { recalls = refl; modes = λ x. refl; owing = λ a t. t }) refl
calm-try w (Done o) d = calm-outcome w o o.update d

-- Tries in order: an answer leaves one call less, or all wait.

abbrev Went : List Waiting → List Waiting → Doing → Tried → Type 0
Went before ws d (Waits e) = IsStill d e × (e.clerk.recalls ≡ d.clerk.recalls) × Each (λ w. T (does_wait w e.clerk)) ws
Went before ws d (Answered e) = NoneReady e.clerk × (length e.clerk.waiting + 1 ≡ length (before ++ ws))

each-try : (before ws : List Waiting) (d : Doing) → NoneReady d.clerk → Went before ws d (try_each before ws d)
each-try before [] d n = (still-same d, refl, tt)
each-try before (w ∷ ws) d n = go (try w d) (tries-answer w d) (calm-try w (verdict w.call d.clerk) d) (λ e m. each-try (before ++ w ∷ []) ws e m)
  where
    long : (xs ys : List Waiting) → length (xs ++ ys) + 1 ≡ length (xs ++ w ∷ ys)
    long [] ys = omega arith
    long (x ∷ xs) ys = omega (arith, long xs ys)

    turned : (x : Bool) → false ≡ not x → x ≡ true
    turned true e = refl
    turned false e = absurd (cc)

    go : (t : Tried) → (is_answer t ≡ not (does_wait w d.clerk)) × IsStillIf d t → IsCalm d t → ((e : Doing) → NoneReady e.clerk → Went (before ++ w ∷ []) ws e (try_each (before ++ w ∷ []) ws e))
        → Went before (w ∷ ws) d (elim t as (λ y. Tried) [ Waits e ↦ try_each (before ++ w ∷ []) ws e | Answered e ↦ Answered (with_clerk (λ k. record k { waiting = before ++ ws }) e) ])
    go (Answered e) s c r = (none-ready d.clerk e.clerk c.0 n, long before ws)
    go (Waits e) s c r = on (try_each (before ++ w ∷ []) ws e) (r e (none-ready d.clerk e.clerk (by-still d e (s.1).0 (s.1).1) n))
      where
        waits : T (does_wait w e.clerk)
        waits = subst T (sym (still-waits d e (s.1).0 w ∙ turned (does_wait w d.clerk) s.0)) tt

        on : (t : Tried) → Went (before ++ w ∷ []) ws e t → Went before (w ∷ ws) d t
        on (Waits f) h = (still-then d e f (s.1).0 h.0, h.1 ∙ (s.1).1, (subst T (sym (still-waits e f h.0 w)) waits, h.2))
        on (Answered f) h = (h.0, h.1 ∙ ap length (append_assoc before (w ∷ []) ws))

abbrev AreResting : Doing → Type 0
AreResting e = Each (λ w. T (does_wait w e.clerk)) e.clerk.waiting × NoneReady e.clerk

-- one round, and those behind an answer
one-round : (d : Doing) → NoneReady d.clerk → (rounds : Doing → Doing) → ((e : Doing) → length e.clerk.waiting + 1 ≡ length d.clerk.waiting → NoneReady e.clerk → AreResting (rounds e)) → (t : Tried) → Went [] d.clerk.waiting d t
    → AreResting (elim t as (λ y. Doing) [ Waits e ↦ e | Answered e ↦ rounds e ])
one-round d m rounds more (Waits e) h = (subst (Each (λ w. T (does_wait w e.clerk))) (sym ((h.0).quiet).waiting) h.2, none-ready d.clerk e.clerk (by-still d e h.0 h.1) m)
one-round d m rounds more (Answered e) h = more e h.1 h.0

none-left : (a b : ℕ) → a + 1 ≡ b → b ≤ 0 → ⊥
none-left a b e l = omega (arith, e, l)

one-less : (a b j : ℕ) → a + 1 ≡ b → b ≤ suc j → a ≤ j
one-less a b j e l = omega (arith, e, l)

rounds-rest : (n : ℕ) (d : Doing) → length d.clerk.waiting ≤ n → NoneReady d.clerk → AreResting (try_rounds (suc n) d)
rounds-rest zero d l m = one-round d m (try_rounds zero) (λ e p k. absurd (none-left (length e.clerk.waiting) (length d.clerk.waiting) p l)) (try_each [] d.clerk.waiting d) (each-try [] d.clerk.waiting d m)
rounds-rest (suc j) d l m = one-round d m (try_rounds (suc j)) (λ e p k. rounds-rest j e (one-less (length e.clerk.waiting) (length d.clerk.waiting) j p l) k) (try_each [] d.clerk.waiting d) (each-try [] d.clerk.waiting d m)

pub tries-rest : (d : Doing) → NoneReady d.clerk → AreResting (try_all d)
tries-rest d n = rounds-rest (length d.clerk.waiting) d (omega arith) n

-- Recalls are answered: none that's left is ready.

given-none : (r : Recalled) (d : Doing) → is_ready r d.clerk ≡ true → NoneReady d.clerk → NoneReady (give_back r d).clerk
given-none r d ready n = each-map (λ x. T (not (is_ready x d.clerk))) (λ x. T (not (is_ready x (give_back r d).clerk))) one d.clerk.recalls n
  where
    held-other : (y : ℕ) (to : Hold) (o : Option Held) → (y == r.obj) ≡ false → at y (lower_held r.obj to o d.clerk.cache).held ≡ at y d.clerk.cache.held
    held-other y to None e = refl
    held-other y to (Some h) e = go (is_free to)
      where
        go : (z : Bool) → at y (cond z (without r.obj d.clerk.cache.held) (cache.lowered r.obj to d.clerk.cache.held)) ≡ at y d.clerk.cache.held
        go true = at-without y r.obj d.clerk.cache.held ∙ ap (λ z. cond z None (at y d.clerk.cache.held)) e
        go false = at-lowered y r.obj to d.clerk.cache.held ∙ ap (λ z. cond z (at_most to (at y d.clerk.cache.held)) (at y d.clerk.cache.held)) e

    one : (x : Recalled) → T (not (is_ready x d.clerk)) → T (not (is_ready x (give_back r d).clerk))
    one x t = go (x.obj == r.obj) refl
      where
        go : (z : Bool) → (x.obj == r.obj) ≡ z → T (not (is_ready x (give_back r d).clerk))
        go true e = absurd (subst (λ z. T (not z)) (ap (λ y. not (is_write (mode y d.clerk.cache)) || is_none (first (Object y) d.clerk.log)) (equal x.obj r.obj e) ∙ ready) t)
        go false e = subst (λ o. T (not (not (is_write (held_mode o)) || is_none (first (Object x.obj) d.clerk.log)))) (sym (held-other x.obj (left_of r (at r.obj d.clerk.cache.held)) (at r.obj d.clerk.cache.held) e)) t

recalls-rest : (rs : List Recalled) (d : Doing) → NoneReady d.clerk → NoneReady (try_recalls rs d).clerk
recalls-rest [] d n = n
recalls-rest (r ∷ rs) d n = go (is_ready r d.clerk) refl (λ e m. recalls-rest rs e m)
  where
    kept : is_ready r d.clerk ≡ false → NoneReady (keep_recall r (ask_for (Object r.obj) d)).clerk
    kept e = subst (λ xs. Each (λ x. T (not (is_ready x (keep_recall r (ask_for (Object r.obj) d)).clerk))) (xs ++ r ∷ [])) (sym (still-ask (Object r.obj) d).1)
        (none-still d (keep_recall r (ask_for (Object r.obj) d)) (still-kept r d) (d.clerk.recalls ++ r ∷ []) (each-append (λ x. T (not (is_ready x d.clerk))) d.clerk.recalls (r ∷ []) n (subst (λ z. T (not z)) (sym e) tt, tt)))

    go : (z : Bool) → is_ready r d.clerk ≡ z → ((e : Doing) → NoneReady e.clerk → NoneReady (try_recalls rs e).clerk)
        → NoneReady (try_recalls rs (elim z as (λ y. Doing) [ true ↦ give_back r d | false ↦ keep_recall r (ask_for (Object r.obj) d) ])).clerk
    go true e f = f (give_back r d) (given-none r d e n)
    go false e f = f (keep_recall r (ask_for (Object r.obj) d)) (kept e)

pub settles-rest : (d : Doing) → (d.clerk.session ≡ None → d.clerk.recalls ≡ []) → NoneReady (prepared d).clerk
settles-rest d none = go d.clerk.session refl
  where
    go : (o : Option ℕ) → d.clerk.session ≡ o → NoneReady (elim (is_some o) as (λ y. Doing) [ true ↦ ask_pushes (answer_recalls d) | false ↦ d ]).clerk
    go (Some s) e =
        let two = asks-still (answer_recalls d) in
        subst (λ rs. Each (λ r. T (not (is_ready r (ask_pushes (answer_recalls d)).clerk))) rs) (sym two.1) (none-still (answer_recalls d) (ask_pushes (answer_recalls d)) two.0 (answer_recalls d).clerk.recalls (recalls-rest d.clerk.recalls (record d { clerk = record (d.clerk) { recalls = [] } }) tt))
    go None e = subst (λ rs. Each (λ r. T (not (is_ready r d.clerk))) rs) (sym (none e)) tt

-- Tokens go back, but those on objects with undurable operations.

sends-clerk : (es : List (ℕ × Held)) (d : Doing) → (send_backs es d).clerk ≡ d.clerk
sends-clerk [] d = refl
sends-clerk (e ∷ es) d = sends-clerk es _

-- what goes isn't pinned
gone-unpinned : (n x : ℕ) (pinned : List ℕ) (es : Table Held) → T (member x (keys (front n (filter (λ e. not (member e.0 pinned)) es)))) → T (not (member x pinned))
gone-unpinned n x pinned es t = from-front n (filter (λ e. not (member e.0 pinned)) es) (filtered es) t
  where
    filtered : (es : Table Held) → Each (λ e. T (not (member e.0 pinned))) (filter (λ e. not (member e.0 pinned)) es)
    filtered [] = tt
    filtered (e ∷ es) = go (not (member e.0 pinned)) refl (filtered es)
      where
        go : (z : Bool) → not (member e.0 pinned) ≡ z → Each (λ e. T (not (member e.0 pinned))) (filter (λ e. not (member e.0 pinned)) es) → Each (λ e. T (not (member e.0 pinned))) (cond z (e ∷ filter (λ e. not (member e.0 pinned)) es) (filter (λ e. not (member e.0 pinned)) es))
        go true p r = (subst T (sym p) tt, r)
        go false p r = r

    from-front : (n : ℕ) (es : Table Held) → Each (λ e. T (not (member e.0 pinned))) es → T (member x (keys (front n es))) → T (not (member x pinned))
    from-front zero es h t = absurd t
    from-front (suc n) [] h t = absurd t
    from-front (suc n) (e ∷ es) h t = go (x == e.0) refl t (λ u. from-front n es h.1 u)
      where
        go : (z : Bool) → (x == e.0) ≡ z → T (z || member x (keys (front n es))) → (T (member x (keys (front n es))) → T (not (member x pinned))) → T (not (member x pinned))
        go true p t f = subst (λ y. T (not (member y pinned))) (sym (equal x e.0 p)) h.0
        go false p t f = f t

-- an object with an undurable operation is pinned
owing-pinned : (x : ℕ) (us : Issued) → is_none (first_number (filter (is_asked (Object x)) us)) ≡ false → T (member x (on_objects us))
owing-pinned x [] e = absurd (cc)
owing-pinned x (u ∷ us) e = go (has_operand x u.1) refl e (owing-pinned x us)
  where
    member-append : (xs ys : List ℕ) → T (member x xs) ⊎ T (member x ys) → T (member x (xs ++ ys))
    member-append [] ys (inl t) = absurd t
    member-append [] ys (inr t) = t
    member-append (y ∷ xs) ys h = by (x == y) h (member-append xs ys)
      where
        by : (z : Bool) → T (z || member x xs) ⊎ T (member x ys) → (T (member x xs) ⊎ T (member x ys) → T (member x (xs ++ ys))) → T (z || member x (xs ++ ys))
        by true h f = tt
        by false h f = f h

    go : (z : Bool) → has_operand x u.1 ≡ z → is_none (first_number (cond z (u ∷ filter (is_asked (Object x)) us) (filter (is_asked (Object x)) us))) ≡ false → (is_none (first_number (filter (is_asked (Object x)) us)) ≡ false → T (member x (on_objects us))) → T (member x (operands u.1 ++ on_objects us))
    go true p e f = member-append (operands u.1) (on_objects us) (inl (subst T (sym p) tt))
    go false p e f = member-append (operands u.1) (on_objects us) (inr (f e))

module _ (k : Clerk) (pinned : List ℕ) (gone-first : (x : ℕ) → first_id k.ids ≡ Some x → images_held k.cache x ≡ Gone) where
  abbrev gone : List ℕ
  gone = keys (cache.evicted pinned k.cache)

  abbrev now : Clerk
  now = record k { cache = cache.evict pinned k.cache }

  held-is : (x : ℕ) → at x now.cache.held ≡ cond (member x gone) None (at x k.cache.held)
  held-is x = at-kept x gone k.cache.held

  limits-is : (x : ℕ) → at x now.cache.limits ≡ cond (member x gone) None (at x k.cache.limits)
  limits-is x = at-kept x gone k.cache.limits

  -- what is held is held as before
  still-held : (x : ℕ) (m : Hold) → is_below Free m ≡ true → T (holds x m now.cache) → T (holds x m k.cache) × (images_held k.cache x ≡ images_held now.cache x)
  still-held x m low t = go (member x gone) (held-is x) (limits-is x)
    where
      free-below : (a : Hold) → weaker Free a ≡ Free
      free-below Free = refl
      free-below Read = refl
      free-below Write = refl

      go : (z : Bool) → at x now.cache.held ≡ cond z None (at x k.cache.held) → at x now.cache.limits ≡ cond z None (at x k.cache.limits) → T (holds x m k.cache) × (images_held k.cache x ≡ images_held now.cache x)
      go true h l = absurd (subst (λ b. T (not b)) low (subst (λ a. T (not (is_below a m))) (free-below (or_else Write (at x now.cache.limits))) (subst (λ o. T (not (is_below (weaker (held_mode o) (or_else Write (at x now.cache.limits))) m))) h t)))
      go false h l = (subst (λ o. T (not (is_below (weaker (held_mode (at x k.cache.held)) (or_else Write o)) m))) l (subst (λ o. T (not (is_below (weaker (held_mode o) (or_else Write (at x now.cache.limits))) m))) h t), sym (ap held_image h))

  less : HoldsLess k now
  less = record {
    owed = refl;
    ids = refl;
    log = refl;
    read = λ x t. still-held x Read refl t;
    write = λ x t. still-held x Write refl t;
    fresh = λ x e. fresh-is x (gone-first x e) (member x gone) (held-is x);
  }
    where
      fresh-is : (x : ℕ) → images_held k.cache x ≡ Gone → (z : Bool) → at x now.cache.held ≡ cond z None (at x k.cache.held) → images_held k.cache x ≡ images_held now.cache x
      fresh-is x e true h = e ∙ sym (ap held_image h)
      fresh-is x e false h = sym (ap held_image h)

  -- pinned objects keep their modes
  pinned-mode : (x : ℕ) → T (member x pinned) → mode x now.cache ≡ mode x k.cache
  pinned-mode x t = go (member x gone) refl (held-is x)
    where
      refuses : (z : Bool) → T z → T (not z) → ⊥
      refuses true t n = n
      refuses false t n = t

      go : (z : Bool) → member x gone ≡ z → at x now.cache.held ≡ cond z None (at x k.cache.held) → mode x now.cache ≡ mode x k.cache
      go true e h = absurd (refuses (member x pinned) t (gone-unpinned (length k.cache.held - k.cache.capacity) x pinned k.cache.held (subst T (sym e) tt)))
      go false e h = ap held_mode h

  evicted-none : pinned ≡ on_objects k.log.undurable → NoneReady k → NoneReady now
  evicted-none p n = each-map (λ r. T (not (is_ready r k))) (λ r. T (not (is_ready r now))) one k.recalls n
    where
      one : (r : Recalled) → T (not (is_ready r k)) → T (not (is_ready r now))
      one r t =
          let parts = unready-parts (is_write (mode r.obj k.cache)) (is_none (first (Object r.obj) k.log)) t in
          subst (λ z. T (not (not (is_write z) || is_none (first (Object r.obj) k.log)))) (sym (pinned-mode r.obj (subst (λ xs. T (member r.obj xs)) (sym p) (owing-pinned r.obj k.log.undurable parts.1)))) t

  evicted-waits : Each (λ w. T (does_wait w k)) k.waiting → Each (λ w. T (does_wait w now)) k.waiting
  evicted-waits h = each-map (λ w. T (does_wait w k)) (λ w. T (does_wait w now)) (λ w t. less-waits k now less w t) k.waiting h

pub evicts-rest : (d : Doing) → ((x : ℕ) → first_id d.clerk.ids ≡ Some x → images_held d.clerk.cache x ≡ Gone) → Each (λ w. T (does_wait w d.clerk)) d.clerk.waiting → NoneReady d.clerk → AreResting (evict d)
evicts-rest d gone-first h n = go (nat_le (length d.clerk.cache.held) d.clerk.cache.capacity)
  where
    same-clerk : (evict_unpinned (on_objects d.clerk.log.undurable) d).clerk ≡ record (d.clerk) { cache = cache.evict (on_objects d.clerk.log.undurable) d.clerk.cache }
    same-clerk = sends-clerk (cache.evicted (on_objects d.clerk.log.undurable) d.clerk.cache) (record d { clerk = record (d.clerk) { cache = cache.evict (on_objects d.clerk.log.undurable) d.clerk.cache } })

    go : (z : Bool) → AreResting (elim z as (λ y. Doing) [ true ↦ d | false ↦ evict_unpinned (on_objects d.clerk.log.undurable) d ])
    go true = (h, n)
    go false = subst (λ k. Each (λ w. T (does_wait w k)) k.waiting × NoneReady k) (sym same-clerk) (evicted-waits d.clerk (on_objects d.clerk.log.undurable) gone-first h, evicted-none d.clerk (on_objects d.clerk.log.undurable) gone-first refl n)
