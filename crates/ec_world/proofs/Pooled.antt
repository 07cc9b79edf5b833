-- Messages of the pool that are lost, repeated and delivered.
use Rattle.std.proofs.Common.{◌≡◌, ℕ, Bool, true, false, List, [], Option, None, Some, refl, sym, ap, ◌∙◌}
use Rattle.ec_base.specs.Tables.{at}
use Rattle.ec_protocol.specs.declared.clerk.Clerk.{Clerk}
use Rattle.ec_protocol.specs.declared.world.Sent.{Sent}
use Rattle.ec_protocol.specs.declared.world.World.{World}
use Rattle.ec_protocol.specs.declared.world.WorldFault.TheVariants as fault
use Rattle.ec_protocol.specs.World.{Fate, Moving, moving, fails, nothing, kept_or, deliver, deliver_to, to_clerk, to_server, settled, is_pending, is_for_server, clerk_does}
use Rattle.ec_protocol.specs.Clerk as clerk

pub kept_is : (n : ℕ) (s : Sent) (m : Moving) (w : World) → at n w.pool ≡ Some s → kept_or n m w ≡ m
kept_is n s m w is = ap (λ (o : Option Sent). elim o [ None ↦ fails fault.NoSuchMsg w | Some s ↦ m ]) is

pub kept_none : (n : ℕ) (m : Moving) (w : World) → at n w.pool ≡ None → (kept_or n m w).fault ≡ Some fault.NoSuchMsg
kept_none n m w is =
    let by : Option Sent → Moving = λ o. elim o [ None ↦ fails fault.NoSuchMsg w | Some s ↦ m ] in
    ap (λ (o : Option Sent). (by o).fault) is

pub deliver_none : (fate : Fate) (n : ℕ) (w : World) → at n w.pool ≡ None → (deliver fate n w).fault ≡ Some fault.NoSuchMsg
deliver_none fate n w is =
    let by : Option Sent → Moving = λ o. elim o [ None ↦ fails fault.NoSuchMsg w | Some s ↦ deliver_to fate n s w ] in
    ap (λ (o : Option Sent). (by o).fault) is

pub deliver_clerk : (fate : Fate) (n : ℕ) (s : Sent) (w : World) → at n w.pool ≡ Some s → is_for_server s ≡ false → deliver fate n w ≡ to_clerk s.clerk s.msg (at s.clerk w.clerks) (settled n w)
deliver_clerk fate n s w is whose =
    ap (λ (o : Option Sent). elim o [ None ↦ fails fault.NoSuchMsg w | Some s ↦ deliver_to fate n s w ]) is
    ∙ ap (λ (b : Bool). elim b [ true ↦ to_server fate n s w.server w | false ↦ to_clerk s.clerk s.msg (at s.clerk w.clerks) (settled n w) ]) whose

pub dropped : (n : ℕ) (w : World) → is_pending n w ≡ true → elim (is_pending n w) [ true ↦ moving (settled n w) | false ↦ nothing w ] ≡ moving (settled n w)
dropped n w is = ap (λ (b : Bool). elim b [ true ↦ moving (settled n w) | false ↦ nothing w ]) is

pub not_dropped : (n : ℕ) (w : World) → is_pending n w ≡ false → elim (is_pending n w) [ true ↦ moving (settled n w) | false ↦ nothing w ] ≡ nothing w
not_dropped n w is = ap (λ (b : Bool). elim b [ true ↦ moving (settled n w) | false ↦ nothing w ]) is
