-- A clerk is told that the server has restarted, or sends what is outstanding again: it claims, and sends the wants that its calls need, its room and the
-- batches under way.
use Rattle.std.proofs.Common.{◌≡◌, refl, ap, subst, arith, ℕ, Bool, true, false, ◌≤◌, ◌<◌, [], ◌++◌}
use Rattle.std.specs.Prelude.{Some, nat_lt}
use Rattle.ec_base.specs.Tables.{keys}
use Rattle.ec_protocol.specs.Clerk.{Doing, with_clerk, epoch, claim, enter_epoch, needs, resend_needs, resend_room, send_outstanding, take_restarted}
use Rattle.ec_coherence.specs.Clerks.{NeedsNamed, acting}
use Rattle.ec_coherence.specs.Tokens.{View, side, TokensAgree}
use Rattle.ec_coherence.proofs.ForClerk.Acting.{is-in, twice}
use Rattle.ec_coherence.proofs.ForClerk.Goes.{Goes, goes-batches}
use Rattle.ec_coherence.proofs.ForClerk.NewEpoch.{entered, entered-agrees}
use Rattle.ec_coherence.proofs.ForClerk.SendClaim.{goes-claim}
use Rattle.ec_coherence.proofs.ForClerk.SendWant.{goes-needs, goes-room-again}

module _ (w : View) (c s : ℕ) (d : Doing) (next : w.next_token ≤ w.next_id) where
  pub goes-epoch : (a : ℕ) (e : Doing) → Goes w c s d e → e.clerk.epoch < a → a ≤ w.epoch → Goes w c s d (with_clerk (enter_epoch a) e)
  goes-epoch a e g later reached = record {
    session = g.session;
    got = g.got;
    agree = subst TokensAgree (ap (λ f. record w { clerk = f; pool = w.pool ++ Rattle.ec_coherence.specs.Steps.sends c e.outs }) (twice s (Some (entered a (side e.clerk))) (Some (side e.clerk)) w.clerk))
        (entered-agrees (acting w c s e) s a (side e.clerk) g.agree (is-in w c s e) later reached);
  }

  pub goes-outstanding : (e : Doing) → Goes w c s d e → NeedsNamed w c s d e.clerk → Goes w c s d (send_outstanding e)
  goes-outstanding e g n =
      let f = resend_needs [] (needs e.clerk.waiting e.clerk) e in
      let h : Goes w c s d f = goes-needs w c s d [] (needs e.clerk.waiting e.clerk) e g n in
      goes-batches w c s d (keys f.clerk.log.batches) (resend_room f.clerk.asking f) (goes-room-again w c s d f.clerk.asking f h)

  -- the clerk of a later epoch, or of this one
  pub goes-restarted : (a : ℕ) (e : Doing) → Goes w c s d e → a ≤ w.epoch → NeedsNamed w c s d e.clerk → NeedsNamed w c s d (enter_epoch a e.clerk) → Goes w c s d (take_restarted a e)
  goes-restarted a e g reached n m = go (nat_lt a (epoch e))
    where
      enter : (b : Bool) → nat_lt (epoch e) a ≡ b → Goes w c s d (send_outstanding (claim (elim b [ true ↦ with_clerk (enter_epoch a) e | false ↦ e ])))
      enter true p = let f = with_clerk (enter_epoch a) e in goes-outstanding (claim f) (goes-claim w c s d f next (goes-epoch a e g (less (epoch e) a p) reached)) m
        where
          less : (a b : ℕ) → nat_lt a b ≡ true → a < b
          less a b p = grind arith
      enter false p = goes-outstanding (claim e) (goes-claim w c s d e next g) n

      go : (b : Bool) → Goes w c s d (elim b [ true ↦ e | false ↦ send_outstanding (claim (elim (nat_lt (epoch e) a) [ true ↦ with_clerk (enter_epoch a) e | false ↦ e ])) ])
      go true = g
      go false = enter (nat_lt (epoch e) a) refl
