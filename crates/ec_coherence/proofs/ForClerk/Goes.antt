-- A clerk goes on in its session: what each small function makes of its step.
use Rattle.std.proofs.Common.{◌≡◌, refl, sym, ap, subst, ◌∙◌, ℕ, Bool, true, false, not, ◌&&◌, ◌+◌, T, List, [], ◌∷◌, ◌++◌}
use Rattle.std.specs.Prelude.{◌==◌, Some}
use Rattle.ec_base.specs.declared.counter.Counter.{Counter}
use Rattle.ec_wire.specs.declared.msg.Msg.{Msg}
use Rattle.ec_wire.specs.declared.msg.Msg.TheVariants.{Flush}
use Rattle.ec_log.specs.Log as log
use Rattle.ec_log.specs.declared.state.Asked.{Asked}
use Rattle.ec_log.specs.declared.state.Pick.{Pick}
use Rattle.ec_log.specs.declared.state.Pick.TheVariants as pick_of
use Rattle.ec_log.specs.declared.state.LogState.{LogState}
use Rattle.ec_protocol.specs.declared.clerk.Clerk.{Clerk}
use Rattle.ec_protocol.specs.declared.clerk.Out.{Out}
use Rattle.ec_protocol.specs.Clerk.{Doing, send, session, epoch, spend, with_log, send_batch, send_picked, ask_for, keep_push, try_pushes, ask_pushes, resend_batches}
use Rattle.ec_coherence.specs.Clerks.{acting}
use Rattle.ec_coherence.specs.Steps.{sends}
use Rattle.ec_coherence.specs.Tokens.{View, side, Names, Fits, Passed, is_untaken, in_sixteen, TokensAgree}
use Rattle.ec_coherence.proofs.ForClerk.Acting.{moves-act, rests-act, sends-act, shows-act, passes, session-is}
use Rattle.ec_coherence.proofs.ForClerk.Sides.{Moves}

-- which ids are hidden hangs on no more of the clerk than on how often it took ids
pub names-act : (w : View) (c s : ℕ) (d e : Doing) → e.clerk.got ≡ d.clerk.got → (x : ℕ) → Names (acting w c s d) x → Names (acting w c s e) x
names-act w c s d e p x n = (n.0, λ t. go t (t == s) (n.1 t))
  where
    go : (t : ℕ) (b : Bool) → T (not (is_untaken (w.grants t) (w.first t) (elim b [ true ↦ Some (side d.clerk) | false ↦ w.clerk t ]) x)) → T (not (is_untaken (w.grants t) (w.first t) (elim b [ true ↦ Some (side e.clerk) | false ↦ w.clerk t ]) x))
    go t true h = subst (λ g. T (not ((g + 1 == w.grants t) && in_sixteen (w.first t) x))) (sym p) h
    go t false h = h

-- The step began as d, and is e now, in the same session, with as many ids.
pub record Goes (w : View) (c s : ℕ) (d e : Doing) : Type 0 where
  pub session : e.clerk.session ≡ Some s
  pub got : e.clerk.got ≡ d.clerk.got
  pub agree : TokensAgree (acting w c s e)

module _ (w : View) (c s : ℕ) (d e : Doing) (goes : Goes w c s d e) where
  pub name-now : (x : ℕ) → Names (acting w c s d) x → Names (acting w c s e) x
  name-now = names-act w c s d e goes.got

  -- a message of its session and epoch is sent
  pub goes-send : (m : Msg) → Fits (acting w c s e) m → Goes w c s d (send m e)
  goes-send m f = record { session = goes.session; got = goes.got; agree = sends-act w c s e m goes.agree f }

  pub passed-now : Passed (acting w c s e) (session e) (epoch e)
  passed-now = subst (λ t. Passed (acting w c s e) t (epoch e)) (sym (session-is w c s e goes.session)) (passes w c s e goes.agree)

  -- only what these facts don't read changes
  pub goes-rest : (k : Clerk) → side k ≡ side e.clerk → k.session ≡ e.clerk.session → Goes w c s d (record e { clerk = k })
  goes-rest k p q = record { session = q ∙ goes.session; got = ap (λ z. z.got) p ∙ goes.got; agree = rests-act w c s e k p goes.agree }

  pub goes-move : (k : Clerk) → k.session ≡ e.clerk.session → k.got ≡ e.clerk.got → Moves (acting w c s e) s (side e.clerk) (side k) → Goes w c s d (record e { clerk = k })
  goes-move k q p m = record { session = q ∙ goes.session; got = p ∙ goes.got; agree = moves-act w c s e k goes.agree m }

  pub goes-show : (o : Out) → sends c (o ∷ []) ≡ [] → Goes w c s d (record e { outs = e.outs ++ o ∷ [] })
  goes-show o p = record { session = goes.session; got = goes.got; agree = shows-act w c s e o p goes.agree }

  pub goes-spend : (n : Counter) → Goes w c s d (spend n e)
  goes-spend n = record { session = goes.session; got = goes.got; agree = goes.agree }

-- Batches: a Flush of the session passes.

module _ (w : View) (c s : ℕ) (d : Doing) where
  pub goes-batch : (b : ℕ) (e : Doing) → Goes w c s d e → Goes w c s d (send_batch b e)
  goes-batch b e g = goes-send w c s d e g (Flush (session e) (epoch e) b (log.batch b e.clerk.log)) (passed-now w c s d e g)

  pub goes-log : (f : LogState → LogState) (e : Doing) → Goes w c s d e → Goes w c s d (with_log f e)
  goes-log f e g = goes-rest w c s d e g (record (e.clerk) { log = f e.clerk.log }) refl refl

  goes-picked : (p : Pick) (e : Doing) → Goes w c s d e → Goes w c s d (send_picked p e)
  goes-picked (pick_of.Batch b ns) e g = go (log.batches_are_spent e.clerk.log)
    where
      go : (z : Bool) → Goes w c s d (elim z [ true ↦ spend Rattle.ec_base.specs.declared.counter.Counter.TheVariants.Batch e | false ↦ send_batch b (with_log (log.after_pick (pick_of.Batch b ns)) e) ])
      go true = goes-spend w c s d e g Rattle.ec_base.specs.declared.counter.Counter.TheVariants.Batch
      go false = goes-batch b (with_log (log.after_pick (pick_of.Batch b ns)) e) (goes-log (log.after_pick (pick_of.Batch b ns)) e g)
  goes-picked _ e g = g

  pub goes-ask : (a : Asked) (e : Doing) → Goes w c s d e → Goes w c s d (ask_for a e)
  goes-ask a e g = goes-picked (log.pick a e.clerk.log) e g

  pub goes-batches : (bs : List ℕ) (e : Doing) → Goes w c s d e → Goes w c s d (resend_batches bs e)
  goes-batches [] e g = g
  goes-batches (b ∷ bs) e g = goes-batches bs (send_batch b e) (goes-batch b e g)

  goes-pushes : (ns : List ℕ) (e : Doing) → Goes w c s d e → Goes w c s d (try_pushes ns e)
  goes-pushes [] e g = g
  goes-pushes (n ∷ ns) e g = goes-pushes ns _ (go (Rattle.ec_protocol.specs.Clerk.is_settled (Rattle.ec_log.specs.declared.state.Asked.TheVariants.Op n) e.clerk))
    where
      go : (z : Bool) → Goes w c s d (elim z [ true ↦ e | false ↦ ask_for (Rattle.ec_log.specs.declared.state.Asked.TheVariants.Op n) (keep_push n e) ])
      go true = g
      go false = goes-ask (Rattle.ec_log.specs.declared.state.Asked.TheVariants.Op n) (keep_push n e) (goes-rest w c s d e g (record (e.clerk) { pushes = e.clerk.pushes ++ n ∷ [] }) refl refl)

  pub goes-ask-pushes : (e : Doing) → Goes w c s d e → Goes w c s d (ask_pushes e)
  goes-ask-pushes e g = goes-pushes e.clerk.pushes _ (goes-rest w c s d e g (record (e.clerk) { pushes = [] }) refl refl)
