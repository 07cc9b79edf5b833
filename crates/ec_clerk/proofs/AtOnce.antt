-- A call on held objects is answered in the step that begins it, and sends nothing.
use Rattle.std.proofs.Common.{◌≡◌, ◌<◌, ◌≤◌, ◌+◌, ◌-◌, refl, sym, ap, subst, ◌∙◌, arith, ℕ, Bool, true, false, cond, not, List, [], ◌∷◌, length, length-append, Option, None, Some}
use Rattle.std.specs.Prelude.{◌&&◌, nat_le, is_none}
use Rattle.std.specs.Ordering.{nat_cmp, eq_by_cmp}
use Rattle.std.proofs.lemmas.Bool.{and_parts, le-leb}
use Rattle.ec_base.specs.Limits.{last_counter}
use Rattle.ec_base.specs.Tables.{Table, at, without, renewed}
use Rattle.ec_base.specs.declared.counter.Counter.TheVariants as counter
use Rattle.ec_volume.specs.Update.{operands, effect}
use Rattle.ec_volume.specs.declared.update.Update.{Update}
use Rattle.ec_cache.specs.Cache as cached
use Rattle.ec_cache.specs.declared.state.CacheState.{CacheState}
use Rattle.ec_cache.specs.declared.state.Held.{Held}
use Rattle.ec_history.specs.declared.entry.Answer.TheVariants as answer
use Rattle.ec_plain.specs.declared.call.Call.{Call}
use Rattle.ec_plain.specs.declared.call.Outcome.{Outcome}
use Rattle.ec_log.specs.Log as logs
use Rattle.ec_log.specs.declared.state.Asked.{Asked}
use Rattle.ec_log.specs.declared.state.Asked.TheVariants.{All}
use Rattle.ec_cache.specs.declared.resolve.verdict.Verdict.TheVariants.{Done}
use Rattle.ec_protocol.specs.declared.clerk.Clerk.{Clerk}
use Rattle.ec_protocol.specs.declared.clerk.Out.{Out}
use Rattle.ec_protocol.specs.declared.clerk.Out.TheVariants as out
use Rattle.ec_protocol.specs.declared.clerk.Waiting.{Waiting}
use Rattle.ec_protocol.specs.Clerk as clerk
use Rattle.ec_clerk.specs.Prompt.{IsIdle, is_durable, may_end, op_of}
use Rattle.ec_doing.proofs.Steps.{when_true, when_false}

-- What is used or changed is held as before: no token comes.

abbrev IsWithin : CacheState → Type 0
IsWithin k = length k.held ≤ k.capacity

fewer : (x : ℕ) (es : Table Held) → length (without x es) ≤ length es
fewer x [] = omega arith
fewer x (e ∷ es) = go (eq_by_cmp nat_cmp x e.0) (fewer x es)
  where
    go : (t : Bool) → length (without x es) ≤ length es → length (cond (not t) (e ∷ without x es) (without x es)) ≤ length (e ∷ es)
    go true l = omega (arith, l)
    go false l = omega (arith, l)

one_fewer : (x : ℕ) (h : Held) (es : Table Held) → at x es ≡ Some h → length (without x es) < length es
one_fewer x h [] is = absurd (cc is)
one_fewer x h (e ∷ es) is = go (eq_by_cmp nat_cmp x e.0) is (one_fewer x h es) (fewer x es)
  where
    go : (t : Bool) → cond t (Some e.1) (at x es) ≡ Some h → (at x es ≡ Some h → length (without x es) < length es) → length (without x es) ≤ length es
        → length (cond (not t) (e ∷ without x es) (without x es)) < length (e ∷ es)
    go true i r l = omega (arith, l)
    go false i r l = let m = r i in omega (arith, m)

renewed_within : (x : ℕ) (h v : Held) (es : Table Held) (n : ℕ) → at x es ≡ Some h → length es ≤ n → length (renewed x v es) ≤ n
renewed_within x h v es n is l =
    let a = length-append (without x es) ((x, v) ∷ []) in
    let m = one_fewer x h es is in
    omega (arith, a, m, l)

used_within : (x : ℕ) (k : CacheState) → IsWithin k → IsWithin (cached.used x k)
used_within x k l = go (at x k.held) refl
  where
    go : (o : Option Held) → at x k.held ≡ o → IsWithin (elim o as (λ z. CacheState) [ None ↦ k | Some h ↦ record k { held = renewed x h k.held } ])
    go None e = l
    go (Some h) e = renewed_within x h h k.held k.capacity e l

all_within : (xs : List ℕ) (k : CacheState) → IsWithin k → IsWithin (cached.all_used xs k)
all_within [] k l = l
all_within (x ∷ xs) k l = all_within xs (cached.used x k) (used_within x k l)

changed_at : (u : Update) (x : ℕ) (k : CacheState) → IsWithin k → IsWithin (cached.change_at u x k)
changed_at u x k l = go (at x k.held) refl
  where
    go : (o : Option Held) → at x k.held ≡ o → IsWithin (elim o as (λ z. CacheState) [ None ↦ k | Some h ↦ record k { held = renewed x (record h { image = effect u x h.image }) k.held } ])
    go None e = l
    go (Some h) e = renewed_within x h (record h { image = effect u x h.image }) k.held k.capacity e l

changed_within : (u : Update) (xs : List ℕ) (k : CacheState) → IsWithin k → IsWithin (cached.change u xs k)
changed_within u [] k l = l
changed_within u (x ∷ xs) k l = changed_within u xs (cached.change_at u x k) (changed_at u x k l)

-- One call begins, where nothing else waits.

module _ (k : Clerk) (c : Call) (o : Outcome) where
  abbrev alone : Clerk
  alone = record k { waiting = []; recalls = []; pushes = [] }

  abbrev begun : clerk.Doing
  begun = clerk.doing (clerk.add_call c alone)

  abbrev call : Waiting
  call = record { no = k.calls + 1; call = c; begun = k.log.next - 1 }

  abbrev answers : Option ℕ → List Out
  answers op = out.Answer (k.calls + 1) (answer.Reply o.reply) op ∷ []

  -- it's answered by the number of this operation, and no token came
  record IsAnswered (t : clerk.Tried) (op : Option ℕ) : Type 0 where
    then : clerk.Doing
    is : t ≡ clerk.Answered then
    outs : then.outs ≡ answers op
    within : IsWithin then.clerk.cache

  owes_none : (b : ℕ) (f : Option ℕ) → is_none f ≡ true → clerk.is_owing b f ≡ false
  owes_none b None h = refl
  owes_none b (Some n) h = absurd (cc h)

  waits_for_none : (a : Option Asked) → is_durable a k ≡ true → clerk.await call o a begun ≡ clerk.answer_with call (answer.Reply o.reply) None o.touched begun
  waits_for_none None h = refl
  waits_for_none (Some a) h =
      let chosen : Bool → clerk.Tried = λ b. elim b [ true ↦ clerk.Waits (clerk.ask_for a begun) | false ↦ clerk.answer_with call (answer.Reply o.reply) None o.touched begun ] in
      ap chosen (owes_none call.begun (logs.first a k.log) h)

  not_true : (b : Bool) → not b ≡ true → b ≡ false
  not_true true h = absurd (cc h)
  not_true false h = refl

  updated : (u : Update) → may_end c o (Some u) k ≡ true
      → clerk.issue_if_room call o u begun ≡ clerk.answer_with call (answer.Reply o.reply) (Some k.log.next) o.touched (clerk.with_clerk (clerk.with_update u) begun)
  updated u h =
      let p = and_parts (clerk.suits u k.cache && not (logs.is_full k.log)) (not (logs.ops_are_spent k.log)) h in
      let q = and_parts (clerk.suits u k.cache) (not (logs.is_full k.log)) p.0 in
      let issued : Bool → clerk.Tried = λ b. elim b [ true ↦ clerk.Waits (clerk.spend counter.Op begun) | false ↦ clerk.answer_with call (answer.Reply o.reply) (Some k.log.next) o.touched (clerk.with_clerk (clerk.with_update u) begun) ] in
      let inner : Bool → clerk.Tried = λ b. elim b [ true ↦ clerk.Waits (clerk.ask_for All begun) | false ↦ issued (logs.ops_are_spent k.log) ] in
      let outer : Bool → clerk.Tried = λ b. elim b [ false ↦ clerk.Waits begun | true ↦ inner (logs.is_full k.log) ] in
      ap outer q.0 ∙ ap inner (not_true (logs.is_full k.log) q.1) ∙ ap issued (not_true (logs.ops_are_spent k.log) p.1)

  ends : (x : Option Update) → IsWithin k.cache → may_end c o x k ≡ true → IsAnswered (clerk.settle_outcome call o x begun) (op_of x k)
  ends None l h = record {
    then = clerk.emit (out.Answer (k.calls + 1) (answer.Reply o.reply) None) (clerk.with_cache (cached.all_used o.touched) begun);
    is = waits_for_none (clerk.awaited c o) h;
    outs = refl;
    within = all_within o.touched k.cache l;
  }
  ends (Some u) l h = record {
    then = clerk.emit (out.Answer (k.calls + 1) (answer.Reply o.reply) (Some k.log.next)) (clerk.with_cache (cached.all_used o.touched) (clerk.with_clerk (clerk.with_update u) begun));
    is = updated u h;
    outs = refl;
    within = all_within o.touched (cached.change u (operands u) k.cache) (changed_within u (operands u) k.cache l);
  }

  serves_none : (b : Bool) → elim b as (λ z. clerk.Doing) [ true ↦ clerk.ask_pushes (clerk.answer_recalls begun) | false ↦ begun ] ≡ begun
  serves_none true = refl
  serves_none false = refl

  tries_once : (d : clerk.Doing) → clerk.try call begun ≡ clerk.Answered d → clerk.try_all begun ≡ clerk.with_clerk (λ m. record m { waiting = [] }) d
  tries_once d is =
      let each : clerk.Tried → clerk.Tried = λ t. elim t [ clerk.Waits e ↦ clerk.Waits e | clerk.Answered e ↦ clerk.Answered (clerk.with_clerk (λ m. record m { waiting = [] }) e) ] in
      let all : clerk.Tried → clerk.Doing = λ t. elim t [ clerk.Waits e ↦ e | clerk.Answered e ↦ clerk.try_rounds 1 e ] in
      ap (λ t. all (each t)) is

  answered : nat_le last_counter k.calls ≡ false → IsWithin k.cache → clerk.verdict c k ≡ Done o → may_end c o o.update k ≡ true → (clerk.begin c alone).outs ≡ answers (op_of o.update k)
  answered below l is h =
      let e = ends o.update l h in
      let left = clerk.with_clerk (λ m. record m { waiting = [] }) e.then in
      let tried : clerk.try call begun ≡ clerk.Answered e.then = ap (λ v. clerk.try_verdict call v begun) is ∙ e.is in
      ap (λ d. d.outs) (
      when_false (nat_le last_counter k.calls) (clerk.spend counter.CallNo (clerk.doing alone)) (clerk.settle begun) left below (
      ap (λ d. clerk.evict (clerk.try_all d)) (serves_none (clerk.has_session k))
      ∙ ap clerk.evict (tries_once e.then tried)
      ∙ when_true (nat_le (length e.then.clerk.cache.held) e.then.clerk.cache.capacity) left (clerk.evict_unpinned (clerk.on_objects e.then.clerk.log.undurable) left) left (le-leb _ _ e.within) refl))
      ∙ e.outs

  idle_is : IsIdle k → alone ≡ k
  idle_is i =
      ap (λ (ws : List Waiting). record k { waiting = ws; recalls = []; pushes = [] }) (sym i.waiting)
      ∙ ap (λ rs. record k { recalls = rs; pushes = [] }) (sym i.recalls)
      ∙ ap (λ ns. record k { pushes = ns }) (sym i.pushes)

  pub prompt : IsIdle k → clerk.verdict c k ≡ Done o → may_end c o o.update k ≡ true → (clerk.begin c k).outs ≡ out.Answer (k.calls + 1) (answer.Reply o.reply) (op_of o.update k) ∷ []
  prompt i is h = subst (λ (m : Clerk). (clerk.begin c m).outs ≡ answers (op_of o.update k)) (idle_is i) (answered i.calls i.tokens is h)
