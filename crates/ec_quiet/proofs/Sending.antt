-- Messages that are sent and delivered, in the world and in its scene.
use Rattle.std.proofs.Common.{◌≡◌, refl, sym, ap, ◌∙◌, subst, arith, ◌≤◌, ◌<◌, ◌+◌, ℕ, zero, suc, T, Bool, true, false, not, cond, List, [], ◌∷◌, ◌++◌}
use Rattle.std.specs.Prelude.{Option, None, Some, ◌==◌, is_some, filter}
use Rattle.std.specs.List.{slice_index}
use Rattle.std.specs.List.Sorted.{IsStrictlyIncreasing}
use Rattle.std.specs.Ordering.{nat_cmp}
use Rattle.std.specs.Cmp.{nat_cmp_total, unsigned_ties}
use Rattle.std.specs.FinMap.Entries.{find-append}
use Rattle.std.proofs.lemmas.Bool.{eq-eqb}
use Rattle.ec_base.specs.Tables.{Table, at}
use Rattle.ec_history.specs.History.{Each}
use Rattle.ec_wire.specs.declared.msg.Msg.{Msg}
use Rattle.ec_protocol.specs.World.{send, send_all, settled}
use Rattle.ec_protocol.specs.declared.world.Sent.{Sent}
use Rattle.ec_protocol.specs.declared.world.World.{World}
use Rattle.ec_quiet.specs.Scenes.{IsScene, Mail, Scene, letter, mail_of}
use Rattle.ec_base.proofs.Lists.{regroup, no-more}
use Rattle.ec_history.proofs.OfLaws.ForPlacing.BasesAlike.{each-map}
use Rattle.ec_base.proofs.Numbers.{next-place}

-- Lists.

pub each-push : {A : Type 0} (P : A → Type 0) (xs : List A) (x : A) → Each P xs → P x → Each P (xs ++ x ∷ [])
each-push P [] x e p = (p, tt)
each-push P (y ∷ ys) x e p = (e.0, each-push P ys x e.1 p)

-- Numbers that rise.

-- a later number is above the first one
abbrev AreAbove : ℕ → List ℕ → Type 0
AreAbove n ms = Each (λ m. n < m) ms

pub rising-rest : (n : ℕ) (ms : List ℕ) → IsStrictlyIncreasing (n ∷ ms) → IsStrictlyIncreasing ms
rising-rest n ms r = λ k i. subst (λ z. slice_index (n ∷ ms) (suc k) < slice_index (n ∷ ms) z) (next-place k) (r (suc k) (omega (arith, i)))

rising-more : (n m : ℕ) (ms : List ℕ) → n < m → IsStrictlyIncreasing (m ∷ ms) → IsStrictlyIncreasing (n ∷ m ∷ ms)
rising-more n m ms l r zero i = l
rising-more n m ms l r (suc k) i = subst (λ z. slice_index (n ∷ m ∷ ms) (suc k) < slice_index (n ∷ m ∷ ms) z) (sym (next-place k)) (r k (omega (arith, i)))

pub above-first : (n : ℕ) (ms : List ℕ) → IsStrictlyIncreasing (n ∷ ms) → AreAbove n ms
above-first n [] r = tt
above-first n (m ∷ ms) r =
    let l : n < m = r 0 (omega arith) in
    (l, each-map (λ k. m < k) (λ k. n < k) (λ k i. omega (arith, l, i)) ms (above-first m ms (rising-rest n (m ∷ ms) r)))

-- a number above all is put at the end
pub rising-push : (ns : List ℕ) (m : ℕ) → Each (λ n. n < m) ns → IsStrictlyIncreasing ns → IsStrictlyIncreasing (ns ++ m ∷ [])
rising-push [] m e r = λ k i. absurd (omega (arith, i))
rising-push (n ∷ []) m e r = rising-more n m [] e.0 (λ k i. absurd (omega (arith, i)))
rising-push (n ∷ k ∷ ns) m e r = rising-more n k (ns ++ m ∷ []) (r 0 (omega arith)) (rising-push (k ∷ ns) m e.1 (rising-rest n (k ∷ ns) r))

-- The pool.

pub none-at : (n s : ℕ) (es : Table Sent) → Each {A = ℕ × Sent} (λ e. e.0 ≤ s) es → s < n → at n es ≡ None
none-at n s [] e l = refl
none-at n s (x ∷ es) e l = ap (λ b. cond b (Some x.1) (at n es)) (sym (unsigned_ties n x.0) ∙ differ n x.0 s e.0 l) ∙ none-at n s es e.1 l
  where
    differ : (a b s : ℕ) → b ≤ s → s < a → (a == b) ≡ false
    differ a b s l m = grind (arith, l, m)

pub at-push : (n : ℕ) (x : Sent) (es : Table Sent) (k : ℕ) → at n es ≡ None → at k (es ++ (n, x) ∷ []) ≡ cond (k == n) (Some x) (at k es)
at-push n x es k none = find-append nat_cmp nat_cmp_total es n x k none ∙ ap (λ b. cond b (Some x) (at k es)) (sym (unsigned_ties k n))

pub mail-push : (pool : Table Sent) (n : ℕ) (x : Sent) (s : ℕ) (ns : List ℕ) → at n pool ≡ None → s < n → Each (λ k. k ≤ s) ns → mail_of (pool ++ (n, x) ∷ []) ns ≡ mail_of pool ns
mail-push pool n x s [] none l e = refl
mail-push pool n x s (k ∷ ns) none l e =
    ap (λ o. letter o ++ mail_of (pool ++ (n, x) ∷ []) ns) (at-push n x pool k none ∙ ap (λ b. cond b (Some x) (at k pool)) (differ k n s e.0 l)) ∙ ap (λ ms. letter (at k pool) ++ ms) (mail-push pool n x s ns none l e.1)
  where
    differ : (a b s : ℕ) → a ≤ s → s < b → (a == b) ≡ false
    differ a b s l m = grind (arith, l, m)

pub mail-both : (pool : Table Sent) (ns ms : List ℕ) → mail_of pool (ns ++ ms) ≡ mail_of pool ns ++ mail_of pool ms
mail-both pool [] ms = refl
mail-both pool (n ∷ ns) ms = ap (λ l. letter (at n pool) ++ l) (mail-both pool ns ms) ∙ sym (regroup (letter (at n pool)) (mail_of pool ns) (mail_of pool ms))

-- A message is sent.

module _ (w : World) (sc : Scene) (i : IsScene w sc) (c : ℕ) (m : Msg) where
  abbrev n : ℕ
  n = w.sent + 1

  abbrev now : World
  now = send c m w

  abbrev sent : Sent
  sent = record { clerk = c; nth = Rattle.ec_protocol.specs.World.count_of c (Rattle.ec_wire.specs.Messages.kind m) w.counts + 1; msg = m }

  none : at n w.pool ≡ None
  none = none-at n w.sent w.pool i.pool (omega arith)

  own-letter : letter (at n (w.pool ++ (n, sent) ∷ [])) ++ [] ≡ (c, m) ∷ []
  own-letter = ap (λ o. letter o ++ []) (at-push n sent w.pool n none ∙ ap (λ b. cond b (Some sent) (at n w.pool)) (eq-eqb n n refl))

  kept-still : (k : ℕ) → T (is_some (at k w.pool)) → T (is_some (at k (w.pool ++ (n, sent) ∷ [])))
  kept-still k t = subst (λ o. T (is_some o)) (sym (at-push n sent w.pool k none)) (go (k == n))
    where
      go : (b : Bool) → T (is_some (cond b (Some sent) (at k w.pool)))
      go true = tt
      go false = t

  own-kept : T (is_some (at n (w.pool ++ (n, sent) ∷ [])))
  own-kept = subst (λ o. T (is_some o)) (sym (at-push n sent w.pool n none ∙ ap (λ b. cond b (Some sent) (at n w.pool)) (eq-eqb n n refl))) tt

  pub sends-on : IsScene now (record sc { mail = sc.mail ++ (c, m) ∷ [] })
  sends-on = record {
    server = i.server;
    durable = i.durable;
    sure = i.sure;
    linked = i.linked;
    clerks = i.clerks;
    mail = mail-both now.pool w.pending (n ∷ []) ∙ ap (λ l. l ++ (letter (at n now.pool) ++ [])) (mail-push w.pool n sent w.sent w.pending none (omega arith) i.pending ∙ i.mail) ∙ ap (λ l. sc.mail ++ l) own-letter;
    kept = each-push (λ k. T (is_some (at k now.pool))) w.pending n (each-map (λ k. T (is_some (at k w.pool))) (λ k. T (is_some (at k now.pool))) kept-still w.pending i.kept) own-kept;
    rising = rising-push w.pending n (each-map (λ k. k ≤ w.sent) (λ k. k < n) (λ k l. omega (arith, l)) w.pending i.pending) i.rising;
    pending = each-push (λ k. k ≤ n) w.pending n (each-map (λ k. k ≤ w.sent) (λ k. k ≤ n) (λ k l. omega (arith, l)) w.pending i.pending) (omega arith);
    pool = each-push {A = ℕ × Sent} (λ e. e.0 ≤ n) w.pool (n, sent) (each-map {A = ℕ × Sent} (λ e. e.0 ≤ w.sent) (λ e. e.0 ≤ n) (λ e l. omega (arith, l)) w.pool i.pool) (omega arith);
  }

pub all-sent : (ss : Mail) (w : World) (sc : Scene) → IsScene w sc → IsScene (send_all ss w) (record sc { mail = sc.mail ++ ss })
all-sent [] w sc i = subst (λ l. IsScene w (record sc { mail = l })) (sym (no-more sc.mail)) i
all-sent (s ∷ ss) w sc i =
    subst (λ l. IsScene (send_all ss (send s.0 s.1 w)) (record sc { mail = l })) (regroup sc.mail (s ∷ []) ss) (all-sent ss (send s.0 s.1 w) (record sc { mail = sc.mail ++ s ∷ [] }) (sends-on w sc i s.0 s.1))

-- The first message leaves.

less-first : (n : ℕ) (ns : List ℕ) → AreAbove n ns → filter (λ m. not (m == n)) ns ≡ ns
less-first n [] e = refl
less-first n (m ∷ ms) e = ap (λ b. cond (not b) (m ∷ filter (λ m. not (m == n)) ms) (filter (λ m. not (m == n)) ms)) (differ m n e.0) ∙ ap (λ l. m ∷ l) (less-first n ms e.1)
  where
    differ : (a b : ℕ) → b < a → (a == b) ≡ false
    differ a b l = grind (arith, l)

-- what is known of the first message
pub record IsFirst (w : World) (c : ℕ) (m : Msg) (rest : Mail) : Type 0 where
  pub number : ℕ
  pub later : List ℕ
  pub sent : Sent
  pub pending : w.pending ≡ number ∷ later
  pub there : at number w.pool ≡ Some sent
  pub clerk : sent.clerk ≡ c
  pub message : sent.msg ≡ m
  pub left : mail_of w.pool later ≡ rest

pub first-is : (w : World) (sc : Scene) (i : IsScene w sc) (c : ℕ) (m : Msg) (rest : Mail) → sc.mail ≡ (c, m) ∷ rest → IsFirst w c m rest
first-is w sc i c m rest head = go w.pending refl (i.mail ∙ head) i.kept
  where
    at-first : (n : ℕ) (ns : List ℕ) → w.pending ≡ n ∷ ns → (o : Option Sent) → at n w.pool ≡ o → letter o ++ mail_of w.pool ns ≡ (c, m) ∷ rest → T (is_some o) → IsFirst w c m rest
    at-first n ns p None f e t = absurd t
    at-first n ns p (Some s) f e t =
        let one : (s.clerk, s.msg) ≡ (c, m) = (cc) in
        let others : mail_of w.pool ns ≡ rest = (cc) in
        record { number = n; later = ns; sent = s; pending = p; there = f; clerk = ap (λ (z : ℕ × Msg). z.0) one; message = ap (λ (z : ℕ × Msg). z.1) one; left = others }

    go : (ns : List ℕ) → w.pending ≡ ns → mail_of w.pool ns ≡ (c, m) ∷ rest → Each (λ n. T (is_some (at n w.pool))) ns → IsFirst w c m rest
    go [] p e k = absurd (grind (arith, e))
    go (n ∷ ns) p e k = at-first n ns p (at n w.pool) refl e k.0

pub first-leaves : (w : World) (sc : Scene) (i : IsScene w sc) (c : ℕ) (m : Msg) (rest : Mail) (f : IsFirst w c m rest) → IsScene (settled f.number w) (record sc { mail = rest })
first-leaves w sc i c m rest f = record {
  server = i.server;
  durable = i.durable;
  sure = i.sure;
  linked = i.linked;
  clerks = i.clerks;
  mail = ap (mail_of w.pool) left-pending ∙ f.left;
  kept = subst (Each (λ k. T (is_some (at k w.pool)))) (sym left-pending) (subst (Each (λ k. T (is_some (at k w.pool)))) f.pending i.kept).1;
  rising = subst IsStrictlyIncreasing (sym left-pending) (rising-rest f.number f.later rising);
  pending = subst (Each (λ k. k ≤ w.sent)) (sym left-pending) (subst (Each (λ k. k ≤ w.sent)) f.pending i.pending).1;
  pool = i.pool;
}
  where
    rising : IsStrictlyIncreasing (f.number ∷ f.later)
    rising = subst IsStrictlyIncreasing f.pending i.rising

    left-pending : (settled f.number w).pending ≡ f.later
    left-pending = ap (filter (λ m. not (m == f.number))) f.pending
        ∙ ap (λ b. cond (not b) (f.number ∷ filter (λ m. not (m == f.number)) f.later) (filter (λ m. not (m == f.number)) f.later)) (eq-eqb f.number f.number refl) ∙ less-first f.number f.later (above-first f.number f.later rising)
