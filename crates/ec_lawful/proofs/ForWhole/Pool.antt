-- The pool of a world, and messages that are sent.
use Rattle.std.proofs.Common.{◌≡◌, refl, sym, ap, subst, ◌∙◌, inl, inr, ◌⊎◌, ◌+◌, ℕ, Bool, true, false, cond, List, [], ◌∷◌, ◌++◌, Option, Some, None, append-nil, append_assoc}
use Rattle.std.specs.Prelude.{Contains}
use Rattle.std.specs.Ordering.{nat_cmp, eq_by_cmp}
use Rattle.std.proofs.lemmas.List.Elements.{Contains-append_left, Contains-append_right, Contains-push}
use Rattle.ec_base.specs.Tables.{Table, at}
use Rattle.ec_wire.specs.declared.msg.Msg.{Msg}
use Rattle.ec_wire.specs.Messages.{kind}
use Rattle.ec_protocol.specs.World.{count_of, one_more, send, send_all}
use Rattle.ec_protocol.specs.declared.world.Sent.{Sent}
use Rattle.ec_protocol.specs.declared.world.World.{World}

-- each message that the world keeps is one of these
abbrev pub Pooled : World → List (ℕ × Msg) → Type 0
Pooled w ms = (n c i : ℕ) (m : Msg) → at n w.pool ≡ Some (record { clerk = c; nth = i; msg = m }) → Contains ms (c, m)

-- what is found behind a pair that was added at the end
at-last : {X : Type 0} (k n : ℕ) (x : X) (es : Table X) (y : X) → at k (es ++ (n, x) ∷ []) ≡ Some y → (at k es ≡ Some y) ⊎ (x ≡ y)
at-last {X} k n x [] y q = go (eq_by_cmp nat_cmp k n) q
  where
    go : (b : Bool) → cond b (Some x) None ≡ Some y → (None ≡ Some y) ⊎ (x ≡ y)
    go true e = inr (ap (λ o. elim o as (λ z. X) [ None ↦ x | Some z ↦ z ]) e)
    go false e = inl e
at-last {X} k n x (e ∷ es) y q = go (eq_by_cmp nat_cmp k e.0) q (at-last k n x es y)
  where
    go : (b : Bool) → cond b (Some e.1) (at k (es ++ (n, x) ∷ [])) ≡ Some y → (at k (es ++ (n, x) ∷ []) ≡ Some y → (at k es ≡ Some y) ⊎ (x ≡ y)) → (cond b (Some e.1) (at k es) ≡ Some y) ⊎ (x ≡ y)
    go true r more = inl r
    go false r more = more r

pub pooled-more : (w : World) (ms ns : List (ℕ × Msg)) → Pooled w ms → Pooled w (ms ++ ns)
pooled-more w ms ns p n c i m q = Contains-append_left ms ns (c, m) (p n c i m q)

pub pooled-send : (c : ℕ) (x : Msg) (w : World) (ms : List (ℕ × Msg)) → Pooled w ms → Pooled (send c x w) (ms ++ (c, x) ∷ [])
pooled-send c x w ms p n d i m q = elim (at-last n (w.sent + 1) (record { clerk = c; nth = count_of c (kind x) w.counts + 1; msg = x }) w.pool (record { clerk = d; nth = i; msg = m }) q) [
  | inl old ↦ Contains-append_left ms ((c, x) ∷ []) (d, m) (p n d i m old)
  | inr new ↦ subst (Contains (ms ++ (c, x) ∷ [])) (ap (λ s. (s.clerk, s.msg)) new) (Contains-push ms (c, x))
]

-- what the world sends changes the pool alone
pub record Sends (w v : World) (ns : List (ℕ × Msg)) : Type 0 where
  pub server : v.server ≡ w.server
  pub durable : v.durable ≡ w.durable
  pub unshown : v.unshown ≡ w.unshown
  pub clerks : v.clerks ≡ w.clerks
  pub boots : v.boots ≡ w.boots
  pub calls : v.calls ≡ w.calls
  pub shown : v.shown ≡ w.shown
  pub pool : (ms : List (ℕ × Msg)) → Pooled w ms → Pooled v (ms ++ ns)

pub sends-all : (ns : List (ℕ × Msg)) (w : World) → Sends w (send_all ns w) ns
sends-all [] w = record { server = refl; durable = refl; unshown = refl; clerks = refl; boots = refl; calls = refl; shown = refl; pool = λ ms p. subst (Pooled w) (sym (append-nil ms)) p }
sends-all (s ∷ ns) w =
    let r = sends-all ns (send s.0 s.1 w) in
    record {
      server = r.server;
      durable = r.durable;
      unshown = r.unshown;
      clerks = r.clerks;
      boots = r.boots;
      calls = r.calls;
      shown = r.shown;
      pool = λ ms p. subst (Pooled (send_all ns (send s.0 s.1 w))) (append_assoc ms (s ∷ []) ns) (r.pool (ms ++ s ∷ []) (pooled-send s.0 s.1 w ms p));
    }
